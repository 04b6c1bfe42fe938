-- A whole compilation from its job and its message.
use Rattle.std.proofs.Common.{◌≡◌, ℕ, ◌⊎◌, inl, inr, IsTrue, List, [], ◌∷◌, ◌++◌, Option, None, Some, subst, sym, refl, ap, ◌∙◌}
use Rattle.cc_host.specs.Host.{View, Contents, file_of, IfShown}
use Rattle.cc_host.specs.Count.{Rose}
use Rattle.cc_host.proofs.HostLemmas.{IfShown-trans}
use Rattle.cc_driver.specs.declared.outcome.Outcome.{Outcome}
use Rattle.cc_driver.specs.declared.outcome.Outcome.TheVariants.{Done, Read, Write, Unbuilt, Memory}
use Rattle.cc_driver.specs.Compile.{IsJob, no_externs, no_source, no_memory, JobCause, compiled, externs_unread, source_unread, refused, unwritten, out_of_memory, Cause, bad_words, of_job, no_memory_for_message, line_of, names_file, TellsLine, told, not_told, no_memory_to_tell, KeepsFiles, ChangesOnly, Compiles}
use Rattle.cc_driver.specs.Steps.{EndsJob, TriesToTell, stops_job}

-- the words name one output file
pub output_once : {e s o e' s' o' : List ℕ} {ws : List (List ℕ)} → IsJob ws e s o → IsJob ws e' s' o' → o ≡ o'
output_once {ws = ws} j k = let p = j.exactly in let q = k.exactly in cc (p, q)

-- a failed write has its cause in the count
pub write_rose : {e s output : List ℕ} {a b : View} (o : Outcome) (i : ℕ) → o ≡ Write i → JobCause e s output a b o → Rose a.faults b.faults
write_rose o i h (compiled x y z w) = cc h
write_rose o i h (externs_unread r) = cc h
write_rose o i h (source_unread r) = cc h
write_rose o i h (refused x y (no_externs k)) = cc h
write_rose o i h (refused x y (no_source k l)) = cc h
write_rose o i h (refused x y no_memory) = cc h
write_rose o i h (unwritten x y z r) = r
write_rose o i h out_of_memory = cc h

-- a count that stayed is the same for what rose after it
rose_after : (a b c : ℕ) → b ≡ a → Rose b c → Rose a c
rose_after a b c same rose = subst (λ n. Rose n c) same rose

rose_before : (a b c : ℕ) → c ≡ b → Rose a b → Rose a c
rose_before a b c same rose = subst (λ n. Rose a n) (sym same) rose

-- the files, where only what was told changes
keeps_files : (output : List ℕ) (a b c : View) (o : Outcome) (x y z : Contents) → c.faults ≡ b.faults → ChangesOnly a b output o x y → z.files ≡ y.files → ChangesOnly a c output o x z
keeps_files output a b c Done x y z f h k = λ other d. ap (λ fs. file_of (record z { files = fs }) other) k ∙ h other d
keeps_files output a b c (Write i) x y z f h k = λ other d. ap (λ fs. file_of (record z { files = fs }) other) k ∙ h other d
keeps_files output a b c (Read i) x y z f h k = λ name. ap (λ fs. file_of (record z { files = fs }) name) k ∙ h name
keeps_files output a b c (Unbuilt i) x y z f h k = λ name. ap (λ fs. file_of (record z { files = fs }) name) k ∙ h name
keeps_files output a b c Memory x y z f (inl h) k = inl (λ name. ap (λ fs. file_of (record z { files = fs }) name) k ∙ h name)
keeps_files output a b c Memory x y z f (inr h) k = inr (rose_before a.faults b.faults c.faults f h.0, λ other d. ap (λ fs. file_of (record z { files = fs }) other) k ∙ h.1 other d)

-- what may be changed where there was no memory for the message
no_memory_files : (output : List ℕ) (a b : View) (o : Outcome) (x y : Contents) → IsTrue (stops_job o) → ((i : ℕ) → o ≡ Write i → Rose a.faults b.faults) → ChangesOnly a b output o x y → ChangesOnly a b output Memory x y
no_memory_files output a b Done x y stops rose h = cc stops
no_memory_files output a b (Write i) x y stops rose h = inr (rose i refl, h)
no_memory_files output a b (Read i) x y stops rose h = inl h
no_memory_files output a b (Unbuilt i) x y stops rose h = inl h
no_memory_files output a b Memory x y stops rose h = h

-- the job of the words alone is spoken of
for_job : {ws : List (List ℕ)} {e s output : List ℕ} (a b : View) (o : Outcome) → IsJob ws e s output → (x y : Contents) → ChangesOnly a b output o x y
    → (e' s' output' : List ℕ) → IsJob ws e' s' output' → ChangesOnly a b output' o x y
for_job a b o job x y h e' s' output' job' = subst (λ n. ChangesOnly a b n o x y) (output_once job job') h

IfShown-map : (a b : Option Contents) (P Q : Contents → Contents → Type 0) → ((x y : Contents) → P x y → Q x y) → IfShown a b P → IfShown a b Q
IfShown-map None None P Q f p = tt
IfShown-map None (Some y) P Q f p = absurd p
IfShown-map (Some x) None P Q f p = absurd p
IfShown-map (Some x) (Some y) P Q f p = f x y p

-- a job that was done
pub compiles_done : {ws : List (List ℕ)} {e s output : List ℕ} {a b : View} → IsJob ws e s output → EndsJob e s output a b Done → Compiles ws a b Done
compiles_done {ws} {e} {s} {output} {a} {b} job ends = record {
  cause = of_job job ends.cause;
  told = IfShown-map a.shown b.shown (λ old new. new.told ≡ old.told) (λ old new. TellsLine ws a b Done old.told new.told) (λ x y h. told e s output (λ no_name. job) (h ∙ sym (append-none x.told))) ends.told;
  files = IfShown-map a.shown b.shown (ChangesOnly a b output Done) (λ old new. (e' s' output' : List ℕ) → IsJob ws e' s' output' → ChangesOnly a b output' Done old new) (λ x y h. for_job a b Done job x y h) ends.files;
  no_job = λ none. absurd (none e s output job);
}
  where
    append-none : (xs : List ℕ) → xs ++ [] ≡ xs
    append-none [] = refl
    append-none (x ∷ xs) = ap (λ ys. x ∷ ys) (append-none xs)

-- what was told after a job, whose message was told or not
told_after : {ws : List (List ℕ)} {e s output : List ℕ} (a b c : View) (o answer : Outcome) → IsJob ws e s output → b.tell_faults ≡ a.tell_faults → answer ≡ o → (x y z : Contents) → y.told ≡ x.told
    → (z.told ≡ y.told ++ line_of e s output o) ⊎ (Rose b.tell_faults c.tell_faults × (z.told ≡ y.told)) → TellsLine ws a c answer x.told z.told
told_after {ws} {e} {s} {output} a b c o answer job same is x y z h (inl k) = subst (λ p. TellsLine ws a c p x.told z.told) (sym is) (told e s output (λ names. job) (k ∙ ap (λ t. t ++ line_of e s output o) h))
told_after {ws} a b c o answer job same is x y z h (inr k) = not_told (rose_after a.tell_faults b.tell_faults c.tell_faults same k.0) (k.1 ∙ h)

-- what was told where memory was wanting for the message
told_of_memory : {ws : List (List ℕ)} (a c : View) (answer : Outcome) → answer ≡ Memory → (x y z : Contents) → y.told ≡ x.told
    → (z.told ≡ y.told ++ line_of [] [] [] Memory) ⊎ (z.told ≡ y.told) → TellsLine ws a c answer x.told z.told
told_of_memory {ws} a c answer is x y z h (inl k) = subst (λ p. TellsLine ws a c p x.told z.told) (sym is) (told [] [] [] (λ names. absurd (is_no_name names)) (k ∙ ap (λ t. t ++ line_of [] [] [] Memory) h))
  where
    is_no_name : IsTrue (names_file Memory) → ⊥
    is_no_name h = cc h
told_of_memory a c answer is x y z h (inr k) = no_memory_to_tell is (k ∙ h)

-- the cause of a job stands after its message, which leaves the count
cause_after : {e s output : List ℕ} (a b c : View) (o : Outcome) → c.faults ≡ b.faults → IsTrue (stops_job o) → JobCause e s output a b o → JobCause e s output a c o
cause_after a b c o f stops (compiled x y z w) = cc stops
cause_after a b c o f stops (externs_unread r) = externs_unread (rose_before a.faults b.faults c.faults f r)
cause_after a b c o f stops (source_unread r) = source_unread (rose_before a.faults b.faults c.faults f r)
cause_after a b c o f stops (refused x y z) = refused x y z
cause_after a b c o f stops (unwritten x y z r) = unwritten x y z (rose_before a.faults b.faults c.faults f r)
cause_after a b c o f stops out_of_memory = out_of_memory

-- a job that stopped, after its message
pub compiles_stopped : {ws : List (List ℕ)} {e s output : List ℕ} {a b c : View} {o answer : Outcome} → IsJob ws e s output → EndsJob e s output a b o → IsTrue (stops_job o)
    → TriesToTell (line_of e s output o) o b c answer → Compiles ws a c answer
compiles_stopped {ws} {e} {s} {output} {a} {b} {c} {o} {answer} job ends stops tries = by_end tries.ends
  where
    files : IfShown a.shown c.shown (ChangesOnly a c output o)
    files = IfShown-trans a.shown b.shown c.shown (ChangesOnly a b output o) (λ old new. new.files ≡ old.files) (ChangesOnly a c output o) ends.files tries.files
        (λ x y z h k. keeps_files output a b c o x y z tries.faults h k)

    by_end : ((answer ≡ o) × IfShown b.shown c.shown (λ old new. (new.told ≡ old.told ++ line_of e s output o) ⊎ (Rose b.tell_faults c.tell_faults × (new.told ≡ old.told))))
        ⊎ ((answer ≡ Memory) × IfShown b.shown c.shown (λ old new. (new.told ≡ old.told ++ line_of [] [] [] Memory) ⊎ (new.told ≡ old.told))) → Compiles ws a c answer
    by_end (inl h) = record {
      cause = of_job job (subst (λ p. JobCause e s output a c p) (sym h.0) (cause_after a b c o tries.faults stops ends.cause));
      told = IfShown-trans a.shown b.shown c.shown (λ old new. new.told ≡ old.told) (λ old new. (new.told ≡ old.told ++ line_of e s output o) ⊎ (Rose b.tell_faults c.tell_faults × (new.told ≡ old.told)))
          (λ old new. TellsLine ws a c answer old.told new.told) ends.told h.1 (λ x y z. told_after a b c o answer job ends.tell_faults h.0 x y z);
      files = IfShown-map a.shown c.shown (ChangesOnly a c output o) (λ old new. (e' s' output' : List ℕ) → IsJob ws e' s' output' → ChangesOnly a c output' answer old new)
          (λ x y k. for_job a c answer job x y (subst (λ p. ChangesOnly a c output p x y) (sym h.0) k)) files;
      no_job = λ none. absurd (none e s output job);
    }
    by_end (inr h) = record {
      cause = subst (λ p. Cause ws a c p) (sym h.0) no_memory_for_message;
      told = IfShown-trans a.shown b.shown c.shown (λ old new. new.told ≡ old.told) (λ old new. (new.told ≡ old.told ++ line_of [] [] [] Memory) ⊎ (new.told ≡ old.told))
          (λ old new. TellsLine ws a c answer old.told new.told) ends.told h.1 (λ x y z. told_of_memory a c answer h.0 x y z);
      files = IfShown-map a.shown c.shown (ChangesOnly a c output o) (λ old new. (e' s' output' : List ℕ) → IsJob ws e' s' output' → ChangesOnly a c output' answer old new)
          (λ x y k. for_job a c answer job x y (subst (λ p. ChangesOnly a c output p x y) (sym h.0)
          (no_memory_files output a c o x y stops (λ i is. rose_before a.faults b.faults c.faults tries.faults (write_rose o i is ends.cause)) k))) files;
      no_job = λ none. absurd (none e s output job);
    }

-- words that name no job
pub compiles_nothing : {ws : List (List ℕ)} {a b : View} {answer : Outcome} → ((e s output : List ℕ) → IsJob ws e s output → ⊥)
    → TriesToTell (line_of [] [] [] (Unbuilt 0)) (Unbuilt 0) a b answer → Compiles ws a b answer
compiles_nothing {ws} {a} {b} {answer} none tries = by_end tries.ends
  where
    kept : IfShown a.shown b.shown KeepsFiles
    kept = IfShown-map a.shown b.shown (λ old new. new.files ≡ old.files) KeepsFiles (λ x y h name. ap (λ fs. file_of (record y { files = fs }) name) h) tries.files

    nobody : IfShown a.shown b.shown (λ old new. (e' s' output' : List ℕ) → IsJob ws e' s' output' → ChangesOnly a b output' answer old new)
    nobody = IfShown-map a.shown b.shown KeepsFiles (λ old new. (e' s' output' : List ℕ) → IsJob ws e' s' output' → ChangesOnly a b output' answer old new) (λ x y h e' s' output' job. absurd (none e' s' output' job)) kept

    first_told : answer ≡ Unbuilt 0 → (x y : Contents) → (y.told ≡ x.told ++ line_of [] [] [] (Unbuilt 0)) ⊎ (Rose a.tell_faults b.tell_faults × (y.told ≡ x.told)) → TellsLine ws a b answer x.told y.told
    first_told is x y (inl h) = subst (λ p. TellsLine ws a b p x.told y.told) (sym is) (told [] [] [] (λ names. absurd (is_no_name names)) h)
      where
        is_no_name : IsTrue (names_file (Unbuilt 0)) → ⊥
        is_no_name k = cc k
    first_told is x y (inr h) = not_told h.0 h.1

    by_end : ((answer ≡ Unbuilt 0) × IfShown a.shown b.shown (λ old new. (new.told ≡ old.told ++ line_of [] [] [] (Unbuilt 0)) ⊎ (Rose a.tell_faults b.tell_faults × (new.told ≡ old.told))))
        ⊎ ((answer ≡ Memory) × IfShown a.shown b.shown (λ old new. (new.told ≡ old.told ++ line_of [] [] [] Memory) ⊎ (new.told ≡ old.told))) → Compiles ws a b answer
    by_end (inl h) = record {
      cause = subst (λ p. Cause ws a b p) (sym h.0) (bad_words none);
      told = IfShown-map a.shown b.shown (λ old new. (new.told ≡ old.told ++ line_of [] [] [] (Unbuilt 0)) ⊎ (Rose a.tell_faults b.tell_faults × (new.told ≡ old.told))) (λ old new. TellsLine ws a b answer old.told new.told) (first_told h.0) h.1;
      files = nobody;
      no_job = λ any. kept;
    }
    by_end (inr h) = record {
      cause = subst (λ p. Cause ws a b p) (sym h.0) no_memory_for_message;
      told = IfShown-map a.shown b.shown (λ old new. (new.told ≡ old.told ++ line_of [] [] [] Memory) ⊎ (new.told ≡ old.told)) (λ old new. TellsLine ws a b answer old.told new.told) (λ x y k. told_of_memory a b answer h.0 x x y refl k) h.1;
      files = nobody;
      no_job = λ any. kept;
    }

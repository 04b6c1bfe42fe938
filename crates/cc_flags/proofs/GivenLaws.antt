-- What settings give beside their texts.
use Rattle.std.proofs.Common.{◌≡◌, ℕ, Bool, true, false, ◌||◌, cond, List, [], ◌∷◌, ◌++◌, map, Option, Some, None, option_to_list, IfErr, IsErrAnd, Result, Ok, Err, refl, ap, sym, subst, ◌∙◌, true≢false}
use denote.Enum.Bare.{same_true, true_same}
use Rattle.std.specs.List.{filter_map, cons_option, AllZip}
use Rattle.std.proofs.lemmas.Bool.{false_from_ne_true}
use Rattle.std.proofs.lemmas.List.{append-nil}
use Rattle.std.proofs.lemmas.List.Folds.{list_any-append}
use Rattle.std.proofs.lemmas.List.Elements.{filter_map-append}
use Rattle.cc_flags.specs.declared.flag.Flag.{Flag}
use Rattle.cc_flags.specs.declared.flag.Flag.TheVariants as flag
use Rattle.cc_flags.specs.contracts.flag.Flag as the_flag
use Rattle.cc_flags.specs.declared.flag.Form.{Form}
use Rattle.cc_flags.specs.declared.flag.Form.TheVariants as form
use Rattle.cc_flags.specs.declared.form.Value.{Value}
use Rattle.cc_flags.specs.declared.form.Value.TheVariants as value
use Rattle.cc_flags.specs.declared.given.Given.{Given}
use Rattle.cc_flags.specs.declared.job.Define.{Define}
use Rattle.cc_flags.specs.declared.usage.Usage.{Usage}
use Rattle.cc_flags.specs.declared.usage.Usage.TheVariants.{Word, Limit, Memory}
use Rattle.cc_flags.specs.Flags.{row_of, is_once, same}
use Rattle.cc_flags.specs.Words.{Setting, has_flag, is_given, value_for, values_of}
use Rattle.cc_flags.specs.Values.{Chunk, chunk_in, chunk_of, IsDefine, HasForm, chunk_text, define}
use Rattle.cc_flags.specs.Forming.{IsValue}
use Rattle.cc_flags.specs.Giving.{has, IsGiven, Follows, FailsForm, Repeats, FaultOf, MayBe, AddsSetting, AddsOnly, AddsValue, IsWrong, AddsFlag, IsSecond}
use Rattle.cc_flags.specs.Giving as giving

or-false : (b : Bool) → (b || false) ≡ b
or-false true = refl
or-false false = refl

-- ---- the flag of a setting

own-flag : (f : Flag) → same f f ≡ true
own-flag f = true_same the_flag.the_type f f refl

other-flag : (g f : Flag) → (g ≡ f → ⊥) → same g f ≡ false
other-flag g f apart = false_from_ne_true (same g f) (λ e. apart (same_true the_flag.the_type tt g f e))

flag-is : (s : Setting) (f g : Flag) → s.flag ≡ Some g → has_flag f s ≡ same g f
flag-is s f g e = rw e refl

flag-none : (s : Setting) (f : Flag) → s.flag ≡ None → has_flag f s ≡ false
flag-none s f e = rw e refl

value-own : (s : Setting) (f : Flag) → s.flag ≡ Some f → value_for f s ≡ s.value
value-own s f e = ap (λ b. cond b s.value None) (flag-is s f f e ∙ own-flag f)

value-other : (s : Setting) (f g : Flag) → s.flag ≡ Some g → (g ≡ f → ⊥) → value_for f s ≡ None
value-other s f g e apart = ap (λ b. cond b s.value None) (flag-is s f g e ∙ other-flag g f apart)

value-file : (s : Setting) (f : Flag) → s.flag ≡ None → value_for f s ≡ None
value-file s f e = ap (λ b. cond b s.value None) (flag-none s f e)

-- ---- one more setting

cons-list : {X : Type 0} (o : Option X) → cons_option o [] ≡ option_to_list o
cons-list None = refl
cons-list (Some x) = refl

values-more : (f : Flag) (ss : List Setting) (s : Setting) → values_of f (ss ++ s ∷ []) ≡ values_of f ss ++ option_to_list (value_for f s)
values-more f ss s = filter_map-append (value_for f) ss (s ∷ []) ∙ ap (λ vs. values_of f ss ++ vs) (cons-list (value_for f s))

chunks-more : (ss : List Setting) (s : Setting) → filter_map chunk_of (values_of flag.Chunk (ss ++ s ∷ [])) ≡ filter_map chunk_of (values_of flag.Chunk ss) ++ filter_map chunk_of (option_to_list (value_for flag.Chunk s))
chunks-more ss s = ap (filter_map chunk_of) (values-more flag.Chunk ss s) ∙ filter_map-append chunk_of (values_of flag.Chunk ss) (option_to_list (value_for flag.Chunk s))

pub zip-append : {A B : Type 0} (R : A → B → Type 0) (ws vs : List A) (xs ys : List B) → AllZip R ws xs → AllZip R vs ys → AllZip R (ws ++ vs) (xs ++ ys)
zip-append R [] vs [] ys first second = second
zip-append R [] vs (x ∷ xs) ys first second = absurd first
zip-append R (w ∷ ws) vs [] ys first second = absurd first
zip-append R (w ∷ ws) vs (x ∷ xs) ys first second = (first.0, zip-append R ws vs xs ys first.1 second)

-- what the parts of one more setting make of the whole
parts : (ss : List Setting) (s : Setting) (old new : Given) (more : List Chunk) (added : List Define) (flags : List Flag) → IsGiven ss old → AddsOnly old new more added flags
    → more ≡ filter_map chunk_of (option_to_list (value_for flag.Chunk s)) → AllZip IsDefine (option_to_list (value_for flag.Define s)) added
    → ((f : Flag) → is_once f ≡ true → has flags f ≡ has_flag f s) → IsGiven (ss ++ s ∷ []) new
parts ss s old new more added flags so_far adds chunks defines once = record {
  chunks = adds.chunks ∙ ap (λ cs. cs ++ more) so_far.chunks ∙ ap (λ cs. filter_map chunk_of (values_of flag.Chunk ss) ++ cs) chunks ∙ sym (chunks-more ss s);
  defines =
      subst (λ ds. AllZip IsDefine (values_of flag.Define (ss ++ s ∷ [])) ds) (sym adds.defines)
      (subst (λ vs. AllZip IsDefine vs (old.defines.items ++ added)) (sym (values-more flag.Define ss s)) (zip-append IsDefine _ _ _ _ so_far.defines defines));
  once =
      λ f is. ap (λ fs. has fs f) adds.once
      ∙ list_any-append (λ g. same g f) old.once.items flags
      ∙ ap (λ b. b || has flags f) (so_far.once f is)
      ∙ ap (λ b. is_given f ss || b) (once f is ∙ sym (or-false (has_flag f s)))
      ∙ sym (list_any-append (has_flag f) ss (s ∷ []));
}

adds-nothing : (given : Given) → AddsOnly given given [] [] []
adds-nothing given = record { chunks = sym (append-nil (map chunk_in given.chunks.items)); defines = sym (append-nil given.defines.items); once = sym (append-nil given.once.items) }

pub adds-file : (given : Given) (s : Setting) → s.flag ≡ None → AddsSetting given given s
adds-file given s none ss so_far =
    parts ss s given given [] [] [] so_far (adds-nothing given) (ap (λ o. filter_map chunk_of (option_to_list o)) (sym (value-file s flag.Chunk none)))
    (subst (λ o. AllZip IsDefine (option_to_list o) []) (sym (value-file s flag.Define none)) tt) (λ f is. sym (flag-none s f none))

-- ---- a flag

chunk-flag : (f : Flag) → (row_of f).form ≡ form.Chunk → f ≡ flag.Chunk
chunk-flag flag.Chunk e = refl
chunk-flag _ e = cc

define-flag : (f : Flag) → (row_of f).form ≡ form.Define → f ≡ flag.Define
define-flag flag.Define e = refl
define-flag _ e = cc

-- the flag itself, if it may be given once
once-flags : (f : Flag) (s : Setting) → s.flag ≡ Some f → (g : Flag) → is_once g ≡ true → has (cond (is_once f) (f ∷ []) []) g ≡ has_flag g s
once-flags f s e g is = by_test (is_once f) refl ∙ sym (flag-is s g f e) where
  by_test : (b : Bool) → is_once f ≡ b → has (cond b (f ∷ []) []) g ≡ same f g
  by_test true once = or-false (same f g)
  by_test false once = sym (other-flag f g (λ same_flag. true≢false (sym is ∙ ap is_once (sym same_flag) ∙ once)))

join-parts : (old mid new : Given) (more : List Chunk) (added : List Define) (flags : List Flag) → AddsOnly old mid more added [] → AddsOnly mid new [] [] flags → AddsOnly old new more added flags
join-parts old mid new more added flags first second = record {
  chunks = second.chunks ∙ append-nil (map chunk_in mid.chunks.items) ∙ first.chunks;
  defines = second.defines ∙ append-nil mid.defines.items ∙ first.defines;
  once = second.once ∙ ap (λ fs. fs ++ flags) (first.once ∙ append-nil old.once.items);
}

pub adds-flag : (names : List (List ℕ)) (old mid new : Given) (s : Setting) (f : Flag) (v : Value) → s.flag ≡ Some f → IsValue names (row_of f).form s.value v → AddsValue v old mid → AddsFlag f mid new → AddsSetting old new s
adds-flag names old mid new s f value.Wrong e is adds second ss so_far = absurd adds
adds-flag names old mid new s f (value.Chunk spec) e is adds second ss so_far =
    let own : f ≡ flag.Chunk = chunk-flag f is.which in
    let given : value_for flag.Chunk s ≡ Some is.text = value-own s flag.Chunk (e ∙ ap Some own) ∙ is.given in
    parts ss s old new (chunk_in spec ∷ []) [] _ so_far (join-parts old mid new _ _ _ adds second.adds)
    (sym (ap (λ o. filter_map chunk_of (option_to_list o)) given ∙ ap (λ o. cons_option o []) is.read))
    (subst (λ o. AllZip IsDefine (option_to_list o) []) (sym (value-other s flag.Define f e (λ k. let apart : flag.Chunk ≡ flag.Define = sym own ∙ k in cc))) tt)
    (once-flags f s e)
adds-flag names old mid new s f (value.Define d) e is adds second ss so_far =
    let own : f ≡ flag.Define = define-flag f is.which in
    let given : value_for flag.Define s ≡ Some is.text = value-own s flag.Define (e ∙ ap Some own) ∙ is.given in
    parts ss s old new [] (d ∷ []) _ so_far (join-parts old mid new _ _ _ adds second.adds)
    (ap (λ o. filter_map chunk_of (option_to_list o)) (sym (value-other s flag.Chunk f e (λ k. let apart : flag.Define ≡ flag.Chunk = sym own ∙ k in cc))))
    (subst (λ o. AllZip IsDefine (option_to_list o) (d ∷ [])) (sym given) (is.read, tt))
    (once-flags f s e)
adds-flag names old mid new s f value.Plain e is adds second ss so_far =
    parts ss s old new [] [] _ so_far (join-parts old mid new _ _ _ adds second.adds)
    (ap (λ o. filter_map chunk_of (option_to_list o)) (sym (value-other s flag.Chunk f e (λ k. is.no_chunk (ap (λ g. (row_of g).form) k)))))
    (subst (λ o. AllZip IsDefine (option_to_list o) []) (sym (value-other s flag.Define f e (λ k. is.no_define (ap (λ g. (row_of g).form) k)))) tt)
    (once-flags f s e)

-- a value that is taken has its form
pub value-formed : (names : List (List ℕ)) (g : Form) (val : Option (List ℕ)) (v : Value) (old mid : Given) → IsValue names g val v → AddsValue v old mid → HasForm names g val
value-formed names g val value.Wrong old mid is adds = absurd adds
value-formed names g val (value.Chunk spec) old mid is adds =
    subst (λ h. HasForm names h val) (sym is.which) (subst (HasForm names form.Chunk) (sym is.given) (chunk_text is.read))
value-formed names g val (value.Define d) old mid is adds =
    subst (λ h. HasForm names h val) (sym is.which) (subst (HasForm names form.Define) (sym is.given) (define d.value is.read.value))
value-formed names g val value.Plain old mid is adds = is.formed

-- it leaves the flags
mid-once : (v : Value) (old mid : Given) → AddsValue v old mid → mid.once.items ≡ old.once.items
mid-once value.Wrong old mid adds = absurd adds
mid-once (value.Chunk spec) old mid adds = adds.once ∙ append-nil old.once.items
mid-once (value.Define d) old mid adds = adds.once ∙ append-nil old.once.items
mid-once value.Plain old mid adds = adds.once ∙ append-nil old.once.items

one-flag : {f g : Flag} → Some f ≡ Some g → f ≡ g
one-flag e = cc

pub follows-flag : (names : List (List ℕ)) (old mid new : Given) (s : Setting) (f : Flag) (v : Value) → s.flag ≡ Some f → IsValue names (row_of f).form s.value v → AddsValue v old mid → AddsFlag f mid new → Follows names old s
follows-flag names old mid new s f v e is adds second = record {
  formed = λ g h. subst (λ k. HasForm names (row_of k).form s.value) (one-flag (sym e ∙ h)) (value-formed names (row_of f).form s.value v old mid is adds);
  single =
      λ g h once. let own : f ≡ g = one-flag (sym e ∙ h) in
      ap (λ fs. has fs g) (sym (mid-once v old mid adds)) ∙ ap (has mid.once.items) (sym own) ∙ second.single (ap is_once own ∙ once);
}

pub follows-file : (names : List (List ℕ)) (given : Given) (s : Setting) → s.flag ≡ None → Follows names given s
follows-file names given s none = record { formed = (λ f h. absurd (no-flag (sym none ∙ h))); single = (λ f h once. absurd (no-flag (sym none ∙ h))) } where
  no-flag : {f : Flag} → None ≡ Some f → ⊥
  no-flag e = cc

-- ---- faults

-- an error that is handed on
pub err-on : {T : Type 0} (r : Result T Usage) (u : Usage) (P : Usage → Type 0) → IsErrAnd r (λ e. e ≡ u) → P u → IfErr r P
err-on (Ok x) u P is p = tt
err-on (Err e) u P is p = subst P (sym is) p

pub fails-value : (names : List (List ℕ)) (old : Given) (s : Setting) (f : Flag) (v : Value) (u : Usage) → s.flag ≡ Some f → IsValue names (row_of f).form s.value v → MayBe (IsWrong v s.at) u
    → MayBe (FaultOf names old s) u
fails-value names old s f v (Word at k) e is wrong =
    let no_form : ¬ HasForm names (row_of f).form s.value = subst (IsValue names (row_of f).form s.value) wrong.wrong is in
    subst (λ j. FaultOf names old s j at) (sym wrong.which) (giving.value (record { word = wrong.here; f = f; flag = e; no_form = no_form }))
fails-value names old s f v (Limit at k) e is wrong = wrong
fails-value names old s f v Memory e is wrong = tt

pub fails-flag : (names : List (List ℕ)) (old mid : Given) (s : Setting) (f : Flag) (v : Value) (u : Usage) → s.flag ≡ Some f → IsValue names (row_of f).form s.value v → AddsValue v old mid
    → MayBe (IsSecond f s.at mid) u → MayBe (FaultOf names old s) u
fails-flag names old mid s f v (Word at k) e is adds second =
    subst (λ j. FaultOf names old s j at) (sym second.which)
    (giving.repeated (record {
      word = second.here;
      f = f;
      flag = e;
      formed = value-formed names (row_of f).form s.value v old mid is adds;
      once = second.once;
      earlier = ap (λ fs. has fs f) (sym (mid-once v old mid adds)) ∙ second.earlier;
    }))
fails-flag names old mid s f v (Limit at k) e is adds second = second
fails-flag names old mid s f v Memory e is adds second = tt

-- How readers of symbols and of tokens that go alike are put together.
use Rattle.std.specs.Prelude.{◌≡◌, ℕ, nat_lt, Bool, true, false, cond, [], ◌∷◌, map, Ok, Err, None, ◌⊎◌}
use Rattle.std.proofs.Common.{refl, sym, ap, ◌∙◌, subst, inl, inr}
use Rattle.cc_lexer.specs.declared.token.Mark.{Mark}
use Rattle.cc_lexer.specs.declared.token.Mark.TheVariants as mark
use Rattle.cc_lexer.specs.declared.word.Word.{Word}
use Rattle.cc_grammar.specs.Symbols.{Kind, Lexeme, Symbols, real, inserted, look, rest, semicolon, nothing, lexemes_of, is_mark, is_word}
use Rattle.cc_grammar.specs.Symbols as k
use Rattle.cc_grammar.specs.Fronts.{offends, is_end}
use Rattle.cc_grammar.specs.Reading.{Outcome, Fault, Due, Cause, fault, and_then, look_token, rest_tokens, semicolon_symbol, semicolon_token}
use Rattle.cc_grammar.specs.Reading as r
use Rattle.cc_grammar.proofs.Alikeness.Alike.{is_limit}
use Rattle.cc_grammar.proofs.Copying.Copies.{L, Copy, end, take, insert, put, join, put_join, lexemes_real, put_lexemes, look_real, shown, Each, each_map, each_both, each_join, each_lexemes, StopsAt, Just, Kept, kept_join, kept_end, kept_take, kept_brace, Copies, read, stop, Quiet, Shows, Shut, Bars, Beyond, passes, shuts, Bar, excused, reads, Free, Head, goes, goes_in, halts, Starts, starts, halts_end, limits, no_offence, clash, shut_by, taken, braced, went, started, loosened, same_copies}
use Rattle.cc_grammar.proofs.OnSymbols as s
use Rattle.cc_grammar.proofs.OnTokens as t

just_after : {A B : Type 0} {ts us : L} (q : Symbols → Outcome Symbols A) (f : A → Symbols → Outcome Symbols B) (w : Copy ts us) → Just q w → Just (λ xs. and_then (q xs) f) w
just_after q f w j = each_map (StopsAt q) (StopsAt (λ xs. and_then (q xs) f)) w (λ vs xs h. ap (λ x. and_then x f) h) j

-- what is known of symbols behind a token that was taken
each_shown : {us vs : L} (t : Lexeme) (v : Copy us vs) → Each (λ ws xs. Shows xs (t ∷ us)) (take t v)
each_shown {us} t v = each_map (λ ws xs. lexemes_of xs ≡ us) (λ ws xs. Shows (real t ∷ xs) (t ∷ us)) v (λ ws xs h. (ap (λ vs. t ∷ vs) h, refl)) (each_lexemes v)

pub shows_real : (us : L) → Shows (map real us) us
shows_real us = (lexemes_real us, look_real us)

-- which symbols may follow are those with the tokens that follow
abbrev pub Fits : (Symbols → L → Type 0) → Type 0
Fits F = (xs : Symbols) (us : L) → F xs us → lexemes_of xs ≡ us

pub shut_after : {A B : Type 0} {o : Outcome Symbols A} {xs : Symbols} (f : A → Symbols → Outcome Symbols B) → Shut o xs → Shut (and_then o f) xs
shut_after f h = record { fault = h.fault; no_limit = h.no_limit; is = ap (λ x. and_then x f) h.is }

pub bars_after : {A B : Type 0} (q : Symbols → Outcome Symbols A) (f : A → Symbols → Outcome Symbols B) → Bars q → Bars (λ xs. and_then (q xs) f)
bars_after q f h xs = shut_after f (h xs)

bar_after : {C A B : Type 0} {o : Outcome Symbols A} {xs : Symbols} (f : A → Symbols → Outcome Symbols B) → C ⊎ Shut o xs → C ⊎ Shut (and_then o f) xs
bar_after f (inl c) = inl c
bar_after f (inr h) = inr (shut_after f h)

pub bar_by : {C A : Type 0} {o u : Outcome Symbols A} {xs : Symbols} → o ≡ u → C ⊎ Shut u xs → C ⊎ Shut o xs
bar_by e (inl c) = inl c
bar_by e (inr h) = inr (shut_by e h)

-- One reader behind another.
module _ {A B : Type 0} (q : Symbols → Outcome Symbols A) (g : A → Symbols → Outcome Symbols B) where
  abbrev Both : Symbols → Outcome Symbols B
  Both xs = and_then (q xs) g

  -- the first reads, where the symbols behind are such
  module _ (C : Symbols → Type 0) {ts us : L} {a : A} (w : Copy ts us) (e : (xs : Symbols) → C xs → q (put w xs) ≡ Ok (a, xs)) (j : Just q w) where
    onward : (xs : Symbols) → C xs → Both (put w xs) ≡ g a xs
    onward xs c = ap (λ x. and_then x g) (e xs c)

    joined : {vs : L} (v : Copy us vs) (xs : Symbols) → C (put v xs) → Both (put (join w v) xs) ≡ g a (put v xs)
    joined v xs c = ap Both (put_join w v xs) ∙ onward (put v xs) c

    just_onward : {vs : L} (v : Copy us vs) → Each (λ ws xs. C xs) v → Just (g a) v → Just Both (join w v)
    just_onward v c h = each_join (StopsAt Both) w v (just_after q g w j)
        (each_map (λ ws xs. C xs × StopsAt (g a) ws xs) (λ ws xs. StopsAt Both ws (put w xs)) v (λ ws xs p. onward xs p.0 ∙ p.1) (each_both (λ ws xs. C xs) (StopsAt (g a)) v c h))

    beyond_onward : {b : B} {vs : L} (v : Copy us vs) → ((xs : Symbols) → lexemes_of xs ≡ vs → C (put v xs)) → Beyond (g a) v b → Beyond Both (join w v) b
    beyond_onward v c (passes f) = passes (λ xs l. joined v (inserted ∷ xs) (c (inserted ∷ xs) l) ∙ f xs l)
    beyond_onward v c (shuts f) = shuts (λ xs l. shut_by (joined v (inserted ∷ xs) (c (inserted ∷ xs) l)) (f xs l))

    reads_on : {late : Bool} {F : Symbols → L → Type 0} {b : B} {vs : L} (v : Copy us vs) → Fits F → Kept late (join w v) → ((xs : Symbols) → lexemes_of xs ≡ vs → C (put v xs)) → Each (λ ws xs. C xs) v
        → ((xs : Symbols) → F xs vs → g a (put v xs) ≡ Ok (b, xs)) → Just (g a) v → Beyond (g a) v b → Copies late F Both ts (Ok (b, vs))
    reads_on v fits k c d f h b = read (join w v) (λ xs p. joined v xs (c xs (fits xs _ p)) ∙ f xs p) (just_onward v d h) k (beyond_onward v c b)

    stops_on : {late : Bool} {F : Symbols → L → Type 0} {x : Fault} {vs : L} (v : Copy us vs) → Kept late (join w v) → ((xs : Symbols) → lexemes_of xs ≡ vs → C (put v xs)) → Each (λ ws xs. C xs) v
        → g a (put v (map real vs)) ≡ Err (x, map real vs) → Just (g a) v → Bar x (g a) v → Copies late F Both ts (Err (x, vs))
    stops_on {vs} v k c d f h b = stop (join w v) (joined v (map real vs) (c (map real vs) (lexemes_real vs)) ∙ f) (just_onward v d h) k
        (λ n o. bar_by (joined v (inserted ∷ map real vs) (c (inserted ∷ map real vs) (lexemes_real vs))) (b n o))

  goes_on : {late : Bool} {F : Symbols → L → Type 0} {ts us : L} {a : A} {o : Outcome L B} → Fits F → (w : Copy ts us) → ((xs : Symbols) → Quiet xs us → q (put w xs) ≡ Ok (a, xs)) → Just q w → Kept late w
      → Copies late F (g a) us o → Copies late F Both ts o
  goes_on {late} {us} fits w e j k (read v f h l b) = reads_on (λ xs. Quiet xs us) w e j v fits (kept_join late w v k l) (λ xs p. put_lexemes v xs p) (each_lexemes v) f h b
  goes_on {late} {us} fits w e j k (stop v f h l b) = stops_on (λ xs. Quiet xs us) w e j v (kept_join late w v k l) (λ xs p. put_lexemes v xs p) (each_lexemes v) f h b

  pub copies_after : {late : Bool} {F : Symbols → L → Type 0} {ts : L} {o : Outcome L A} {f : A → L → Outcome L B} → Fits F → Copies late Quiet q ts o → ((a : A) (us : L) → Copies late F (g a) us (f a us))
      → Copies late F Both ts (and_then o f)
  copies_after fits (read {a} {us} w e j k b) h = goes_on fits w e j k (h a us)
  copies_after fits (stop w e j k b) h = stop w (ap (λ x. and_then x g) e) (just_after q g w j) k (λ n o. bar_after g (b n o))

  goes_to : {late b : Bool} {F : Symbols → L → Type 0} {ts us : L} {a : A} {o : Outcome L B} → Fits F → (t : Lexeme) (w : Copy ts (t ∷ us)) → ((xs : Symbols) → Shows xs (t ∷ us) → q (put w xs) ≡ Ok (a, xs)) → Just q w
      → ((vs : L) (v : Copy us vs) → Kept b v → Kept late (join w (take t v))) → Copies b F (λ xs. g a (real t ∷ xs)) us o → Copies late F Both ts o
  goes_to {us} fits t w e j kept (read v f h l (passes b)) = reads_on (λ xs. Shows xs (t ∷ us)) w e j (take t v) fits (kept _ v l) (λ xs p. (ap (λ vs. t ∷ vs) (put_lexemes v xs p), refl)) (each_shown t v) f h (passes b)
  goes_to {us} fits t w e j kept (read v f h l (shuts b)) = reads_on (λ xs. Shows xs (t ∷ us)) w e j (take t v) fits (kept _ v l) (λ xs p. (ap (λ vs. t ∷ vs) (put_lexemes v xs p), refl)) (each_shown t v) f h (shuts b)
  goes_to {us} fits t w e j kept (stop {us = vs} v f h l b) = stops_on (λ xs. Shows xs (t ∷ us)) w e j (take t v) (kept _ v l) (λ xs p. (ap (λ vs. t ∷ vs) (put_lexemes v xs p), refl)) (each_shown t v) f h b

  barred : {ts us : L} {a : A} (w : Copy ts us) → Beyond q w a → Bars (g a) → Shut (Both (put w (inserted ∷ map real us))) (map real us)
  barred {us} w (passes p) b = shut_by (ap (λ x. and_then x g) (p (map real us) (lexemes_real us))) (b (map real us))
  barred {us} w (shuts p) b = shut_after g (p (map real us) (lexemes_real us))

  goes_first : {late : Bool} {F : Symbols → L → Type 0} {ts us : L} {a : A} {o : Outcome L B} → Fits F → (w : Copy ts us) → ((xs : Symbols) → Shows xs us → q (put w xs) ≡ Ok (a, xs)) → Just q w → Kept late w → Beyond q w a
      → Starts late F (g a) us o → Copies late F Both ts o
  goes_first {late} fits w e j k z (starts {t} (goes h) b) = goes_to {b = late} fits t w e j (λ vs v l. kept_join late w (take t v) k (kept_take late t v l)) h
  goes_first {late} fits w e j k z (starts {t} (goes_in m h) b) = goes_to {b = false} fits t w e j (λ vs v l. kept_join late w (take t v) k (kept_brace late t v m)) h
  goes_first {us} fits w e j k z (starts (halts f r) b) = stop w (ap (λ x. and_then x g) (e (map real us) (shows_real us)) ∙ f) (just_after q g w j) k (λ n o. inr (barred w z b))
  goes_first {us} fits w e j k z (halts_end f) = stop w (ap (λ x. and_then x g) (e [] (shows_real [])) ∙ f) (just_after q g w j) k (λ n o. absurd (no_offence o))
  goes_first {us} fits w e j k z (limits {c} f l) = stop w (ap (λ x. and_then x g) (e (map real us) (shows_real us)) ∙ f) (just_after q g w j) k (λ n o. absurd (clash c l n))

  -- where the second takes a token first, none may be inserted between
  pub copies_then : {late : Bool} {F : Symbols → L → Type 0} {ts : L} {o : Outcome L A} {f : A → L → Outcome L B} → Fits F → Copies late Shows q ts o → ((a : A) (us : L) → Starts late F (g a) us (f a us))
      → Copies late F Both ts (and_then o f)
  copies_then fits (read {a} {us} w e j k b) h = goes_first fits w e j k b (h a us)
  copies_then fits (stop w e j k b) h = stop w (ap (λ x. and_then x g) e) (just_after q g w j) k (λ n o. bar_after g (b n o))

pub goes_after : {A B : Type 0} {free late : Bool} {F : Symbols → L → Type 0} (q : Symbols → Outcome Symbols A) (g : A → Symbols → Outcome Symbols B) {t : Lexeme} {ts : L} {o : Outcome L A} {f : A → L → Outcome L B} → Fits F
    → Head free late Quiet q t ts o → ((a : A) (us : L) → Copies late F (g a) us (f a us)) → Head free late F (λ xs. and_then (q xs) g) t ts (and_then o f)
goes_after q g fits (goes h) l = goes (copies_after q g fits h l)
goes_after q g fits (goes_in b h) l = goes_in b (copies_after q g fits h (λ a us. loosened (l a us)))
goes_after q g fits (halts f r) l = halts (ap (λ x. and_then x g) f) r

pub starts_after : {A B : Type 0} {late : Bool} {F : Symbols → L → Type 0} (q : Symbols → Outcome Symbols A) (g : A → Symbols → Outcome Symbols B) {ts : L} {o : Outcome L A} {f : A → L → Outcome L B} → Fits F
    → Starts late Quiet q ts o → ((a : A) (us : L) → Copies late F (g a) us (f a us)) → Starts late F (λ xs. and_then (q xs) g) ts (and_then o f)
starts_after q g fits (starts {t} h b) l = starts (goes_after (λ xs. q (real t ∷ xs)) g fits h l) (bars_after q g b)
starts_after q g fits (halts_end f) l = halts_end (ap (λ x. and_then x g) f)
starts_after q g fits (limits f r) l = limits (ap (λ x. and_then x g) f) r

pub quiet : Fits Quiet
quiet xs us h = h

pub shows : Fits Shows
shows xs us h = h.0

pub copies_pure : {A : Type 0} {F : Symbols → L → Type 0} (late : Bool) (a : A) (ts : L) → Copies late F (λ xs. Ok (a, xs)) ts (Ok (a, ts))
copies_pure late a ts = read end (λ xs h. refl) tt (kept_end late ts) (passes (λ xs h. refl))

-- ---- decisions by the next token

-- Either the reader takes it or stops at it, or it decides as an inserted semicolon does; z is what it does then.
pub data Chosen {A X : Type 0} (late : Bool) (F : Symbols → L → Type 0) (b : Lexeme → X) (v : X) (p z : Symbols → Outcome Symbols A) (P : L → Outcome L A) (ts : L) : Type 0 where
  by_token : Starts late F p ts (P ts) → Bars z → Chosen late F b v p z P ts
  by_other : Starts late F p ts (P ts) → offends (look_token ts) ≡ false → Chosen late F b v p z P ts
  by_taking : ¬ (b nothing ≡ v) → ((t : Lexeme) (us : L) → b t ≡ v → Head false late F (λ xs. p (real t ∷ xs)) t us (P (t ∷ us))) → Chosen late F b v p z P ts
  by_none : b semicolon ≡ v → Copies late F p ts (P ts) → Chosen late F b v p z P ts

-- nothing is no token of which a test is true
pub absent : ¬ (◌≡◌ {A = Bool} false true)
absent e = cc

silent : {X : Type 0} (b : Lexeme → X) (v : X) (ts : L) → b (look_token ts) ≡ v → b semicolon ≡ v → (xs : Symbols) → lexemes_of xs ≡ ts → b (look xs) ≡ v
silent b v ts e h xs l = by (shown xs ts l) where
  by : (look xs ≡ look_token ts) ⊎ (look xs ≡ semicolon) → b (look xs) ≡ v
  by (inl q) = ap b q ∙ e
  by (inr q) = ap b q ∙ h

same_start : {A X : Type 0} {late : Bool} {F : Symbols → L → Type 0} (b : Lexeme → X) (P : X → Symbols → Outcome Symbols A) {ts : L} {o : Outcome L A}
    → Bars (P (b semicolon)) → Starts late F (P (b (look_token ts))) ts o → Starts late F (λ xs. P (b (look xs)) xs) ts o
same_start b P z (starts h r) = starts h z
same_start b P z (halts_end e) = halts_end e
same_start b P z (limits {ts = []} e l) = limits e l
same_start b P z (limits {ts = t ∷ us} e l) = limits e l

no_bar : {A : Type 0} {ts us : L} (c : Fault) (q : Symbols → Outcome Symbols A) (w : Copy ts us) → offends (look_token us) ≡ false → Bar c q w
no_bar c q w f n o = let no : true ≡ false = sym o ∙ f in absurd (cc)

other_start : {A X : Type 0} {late : Bool} {F : Symbols → L → Type 0} (b : Lexeme → X) (P : X → Symbols → Outcome Symbols A) {ts : L} {o : Outcome L A}
    → offends (look_token ts) ≡ false → Starts late F (P (b (look_token ts))) ts o → Copies late F (λ xs. P (b (look xs)) xs) ts o
other_start b P z (starts {t} (goes h) r) = taken t h
other_start b P z (starts {t} (goes_in m h) r) = braced t m h
other_start {late} b P z (starts {t} {us} (halts {c} h f) r) = stop end h tt (kept_end late (t ∷ us)) (no_bar c (λ xs. P (b (look xs)) xs) (end {us = t ∷ us}) z)
other_start {late} b P z (halts_end {c} e) = stop end e tt (kept_end late []) (no_bar c (λ xs. P (b (look xs)) xs) (end {us = []}) z)
other_start {late} b P z (limits {c} {ts = []} e l) = stop end e tt (kept_end late []) (λ n o. absurd (clash c l n))
other_start {late} b P z (limits {c} {ts = t ∷ us} e l) = stop end e tt (kept_end late (t ∷ us)) (λ n o. absurd (clash c l n))

-- a decision by a table
pub decide : {A X : Type 0} {late : Bool} {F : Symbols → L → Type 0} (b : Lexeme → X) (P : X → Symbols → Outcome Symbols A) (Q : X → L → Outcome L A) (ts : L) → Fits F
    → ((v : X) → b (look_token ts) ≡ v → Chosen late F b v (P v) (P (b semicolon)) (Q v) ts) → Copies late F (λ xs. P (b (look xs)) xs) ts (Q (b (look_token ts)) ts)
decide {A} {X} {late} {F} b P Q ts fits h = by ts (h (b (look_token ts)) refl) where
  by : (ts : L) → Chosen late F b (b (look_token ts)) (P (b (look_token ts))) (P (b semicolon)) (Q (b (look_token ts))) ts → Copies late F (λ xs. P (b (look xs)) xs) ts (Q (b (look_token ts)) ts)
  by ts (by_token c z) = started (same_start b P z c)
  by ts (by_other c z) = other_start b P z c
  by [] (by_taking n c) = absurd (n refl)
  by (t ∷ us) (by_taking n c) = went (c t us refl)
  by ts (by_none m c) = same_copies (λ xs. P (b (look xs)) xs) fits c (λ xs l. ap (λ v. P v xs) (silent b (b (look_token ts)) ts refl m xs l))

-- where there is no token
pub at_end : {A : Type 0} {late : Bool} {F : Symbols → L → Type 0} {p : Symbols → Outcome Symbols A} {o : Outcome L A} (q : Symbols → Outcome Symbols A) → Starts late F p [] o → q [] ≡ p [] → Starts late F q [] o
at_end q (halts_end e) h = halts_end (h ∙ e)
at_end q (limits e l) h = limits (h ∙ e) l

pub decide_first : {A X : Type 0} {late : Bool} {F : Symbols → L → Type 0} (b : Lexeme → X) (P : X → Symbols → Outcome Symbols A) (Q : X → L → Outcome L A) (ts : L) → Bars (P (b semicolon))
    → Starts late F (P (b nothing)) [] (Q (b nothing) []) → ((t : Lexeme) (us : L) → Head true late F (λ xs. P (b t) (real t ∷ xs)) t us (Q (b t) (t ∷ us))) → Starts late F (λ xs. P (b (look xs)) xs) ts (Q (b (look_token ts)) ts)
decide_first b P Q [] z e h = at_end (λ xs. P (b (look xs)) xs) e refl
decide_first b P Q (t ∷ us) z e h = starts (h t us) z

-- a choice between two readers
pub fork : {A : Type 0} {late : Bool} {F : Symbols → L → Type 0} (b : Lexeme → Bool) (p q : Symbols → Outcome Symbols A) (P Q : L → Outcome L A) (ts : L) → Fits F
    → (b (look_token ts) ≡ true → Chosen late F b true p (cond (b semicolon) p q) P ts) → (b (look_token ts) ≡ false → Chosen late F b false q (cond (b semicolon) p q) Q ts)
    → Copies late F (λ xs. cond (b (look xs)) p q xs) ts (cond (b (look_token ts)) P Q ts)
fork {late} {F} b p q P Q ts fits h l = decide b (λ v. cond v p q) (λ v. cond v P Q) ts fits by where
  by : (v : Bool) → b (look_token ts) ≡ v → Chosen late F b v (cond v p q) (cond (b semicolon) p q) (cond v P Q) ts
  by true e = h e
  by false e = l e

-- a choice that doesn't hang on what follows
pub split : {A : Type 0} {free late : Bool} {F : Symbols → L → Type 0} (b : Bool) (p q : Symbols → Outcome Symbols A) (P Q : L → Outcome L A) {f : Symbols → Symbols} {t : Lexeme} {us ts : L}
    → (b ≡ true → Head free late F (λ xs. p (f xs)) t us (P ts)) → (b ≡ false → Head free late F (λ xs. q (f xs)) t us (Q ts)) → Head free late F (λ xs. cond b p q (f xs)) t us (cond b P Q ts)
split true p q P Q h l = h refl
split false p q P Q h l = l refl

pub split_copies : {A : Type 0} {late : Bool} {F : Symbols → L → Type 0} (b : Bool) (p q : Symbols → Outcome Symbols A) (P Q : L → Outcome L A) {ts : L}
    → (b ≡ true → Copies late F p ts (P ts)) → (b ≡ false → Copies late F q ts (Q ts)) → Copies late F (λ xs. cond b p q xs) ts (cond b P Q ts)
split_copies true p q P Q f h = f refl
split_copies false p q P Q f h = h refl

pub split_outcome : {A : Type 0} {free late : Bool} {F : Symbols → L → Type 0} (b : Bool) (p q : Symbols → Outcome Symbols A) {t : Lexeme} {us : L} {o u : Outcome L A}
    → (b ≡ true → Head free late F p t us o) → (b ≡ false → Head free late F q t us u) → Head free late F (λ xs. cond b (p xs) (q xs)) t us (cond b o u)
split_outcome true p q h l = h refl
split_outcome false p q h l = l refl

-- where the depth is not enough
pub deeper : {A : Type 0} {free late : Bool} {F : Symbols → L → Type 0} (h d : ℕ) (q : Symbols → Outcome Symbols A) {t : Lexeme} {us : L} {o : Outcome L A}
    → (nat_lt h d ≡ true → Head free late F q t us o)
    → Head free late F (λ xs. cond (nat_lt h d) (q xs) (Err (record { cause = r.depth; place = t.place }, real t ∷ xs))) t us (cond (nat_lt h d) o (Err (record { cause = r.depth; place = t.place }, t ∷ us)))
deeper {free} h d q {t} l = split_outcome (nat_lt h d) q (λ xs. Err (record { cause = r.depth; place = t.place }, real t ∷ xs)) l (λ _. halts refl (limit free t)) where
  limit : (free : Bool) (t : Lexeme) → Free free (record { cause = r.depth; place = t.place }) t
  limit true t = tt
  limit false t = excused (record { cause = r.depth; place = t.place }) t refl

-- what a reader does that takes a token first, where there is one
pub head_of_start : {A : Type 0} {late : Bool} {F : Symbols → L → Type 0} {q : Symbols → Outcome Symbols A} {t : Lexeme} {us : L} {o : Outcome L A} → Starts late F q (t ∷ us) o → Head true late F (λ xs. q (real t ∷ xs)) t us o
head_of_start (starts h b) = h
head_of_start (limits e l) = halts e tt

-- by whether there is a token
pub copies_first : {A B : Type 0} {late : Bool} {F : Symbols → L → Type 0} (g : A → Symbols → Outcome Symbols B) (f : A → L → Outcome L B) → ((a : A) → Bars (g a)) → ((a : A) → Starts late F (g a) [] (f a []))
    → ((a : A) (t : Lexeme) (us : L) → Head true late F (λ xs. g a (real t ∷ xs)) t us (f a (t ∷ us))) → (a : A) (us : L) → Copies late F (g a) us (f a us)
copies_first g f b e h a [] = started (e a)
copies_first g f b e h a (t ∷ us) = started (starts (h a t us) (b a))

-- a reader that takes nothing where a test is true
pub fork_shows : {A : Type 0} {late : Bool} (b : Lexeme → Bool) (a : A) (q : Symbols → Outcome Symbols A) (Q : L → Outcome L A) (ts : L) → b semicolon ≡ false → Bars q
    → (b (look_token ts) ≡ false → Copies late Shows q ts (Q ts)) → Copies late Shows (λ xs. cond (b (look xs)) (λ i. Ok (a, i)) q xs) ts (cond (b (look_token ts)) (λ i. Ok (a, i)) Q ts)
fork_shows {late} b a q Q ts n z h = by (b (look_token ts)) refl where
  quietly : (xs : Symbols) → Shut (cond (b (look (inserted ∷ xs))) (λ i. Ok (a, i)) q (inserted ∷ xs)) xs
  quietly xs = shut_by (ap (λ v. cond v (λ i. Ok (a, i)) q (inserted ∷ xs)) n) (z xs)

  by : (v : Bool) → b (look_token ts) ≡ v → Copies late Shows (λ xs. cond (b (look xs)) (λ i. Ok (a, i)) q xs) ts (cond v (λ i. Ok (a, i)) Q ts)
  by true e = read end (λ xs f. ap (λ v. cond v (λ i. Ok (a, i)) q xs) (ap b f.1 ∙ e)) tt (kept_end late ts) (shuts (λ xs _. quietly xs))
  by false e = same_copies (λ xs. cond (b (look xs)) (λ i. Ok (a, i)) q xs) shows (h e) (λ xs l. ap (λ v. cond v (λ i. Ok (a, i)) q xs) (silent b false ts e n xs l))

-- ---- single tokens

bars_fail : {A : Type 0} (d : Due) → Bars {A = A} (λ xs. Err (fault d (look xs), xs))
bars_fail r.a_token xs = record { fault = fault r.a_token semicolon; no_limit = refl; is = refl }
bars_fail r.a_variable xs = record { fault = fault r.a_variable semicolon; no_limit = refl; is = refl }
bars_fail r.an_operand xs = record { fault = fault r.an_operand semicolon; no_limit = refl; is = refl }

pub fails_bar : {A : Type 0} (d : Due) → Bars {A = A} (λ xs. Err (fault d (look xs), xs))
fails_bar d = bars_fail d

pub fails_here : {A : Type 0} (late : Bool) {F : Symbols → L → Type 0} (d : Due) (ts : L) → Starts {A = A} late F (λ xs. Err (fault d (look xs), xs)) ts (Err (fault d (look_token ts), ts))
fails_here late d [] = halts_end refl
fails_here late d (t ∷ us) = starts (halts refl tt) (bars_fail d)

-- a limit
pub stops_here : {A : Type 0} (late : Bool) {F : Symbols → L → Type 0} (c : Cause) → is_limit c ≡ true → (ts : L)
    → Starts {A = A} late F (λ xs. Err (record { cause = c; place = (look xs).place }, xs)) ts (Err (record { cause = c; place = (look_token ts).place }, ts))
stops_here late c l [] = halts_end refl
stops_here late c l (t ∷ us) = limits refl l

pub refuses_bar : {A : Type 0} (x : Fault) → is_limit x.cause ≡ false → Bars {A = A} (λ xs. Err (x, xs))
refuses_bar x n xs = record { fault = x; no_limit = n; is = refl }

pub refuses_here : {A : Type 0} (late : Bool) {F : Symbols → L → Type 0} (x : Fault) → is_limit x.cause ≡ false → (ts : L) → Starts {A = A} late F (λ xs. Err (x, xs)) ts (Err (x, ts))
refuses_here late x n [] = halts_end refl
refuses_here late x n (t ∷ us) = starts (halts refl tt) (refuses_bar x n)

tests_bar : (p : Kind → Bool) → p (k.due k.ending) ≡ false → Bars {A = Unit {0}} (λ xs. cond (p (look xs).kind) (Ok (tt, rest xs)) (Err (fault r.a_token (look xs), xs)))
tests_bar p m xs = record { fault = fault r.a_token semicolon; no_limit = refl; is = ap (λ b. cond b (Ok (tt, xs)) (Err (fault r.a_token semicolon, inserted ∷ xs))) m }

-- a token of which a test is true
tested : (late : Bool) (p : Kind → Bool) → p (k.stop None) ≡ false → p (k.due k.ending) ≡ false → (ts : L)
    → Starts {A = Unit {0}} late Quiet (λ xs. cond (p (look xs).kind) (Ok (tt, rest xs)) (Err (fault r.a_token (look xs), xs))) ts (cond (p (look_token ts).kind) (Ok (tt, rest_tokens ts)) (Err (fault r.a_token (look_token ts), ts)))
tested late p n m [] = subst (λ b. Starts {A = Unit {0}} late Quiet (λ xs. cond (p (look xs).kind) (Ok (tt, rest xs)) (Err (fault r.a_token (look xs), xs))) [] (cond b (Ok (tt, [])) (Err (fault r.a_token (look_token []), [])))) (sym n)
    (halts_end (ap (λ b. cond b (Ok (tt, [])) (Err (fault r.a_token (look_token []), []))) n))
tested late p n m (t ∷ us) = starts (split_outcome (p t.kind) (λ xs. Ok (tt, xs)) (λ xs. Err (fault r.a_token t, real t ∷ xs)) (λ e. goes (copies_pure late tt us)) (λ _. halts refl tt)) (tests_bar p m)

pub expects : (late : Bool) (m : Mark) (ts : L) → Starts late Quiet (s.expect m) ts (t.expect m ts)
unfolding r.expect
expects late m ts = tested late (is_mark m) refl refl ts

pub expects_word : (late : Bool) (w : Word) (ts : L) → Starts late Quiet (s.expect_word w) ts (t.expect_word w ts)
unfolding r.expect_word
expects_word late w ts = tested late (is_word w) refl refl ts

pub expects_end : (ts : L) → Starts false Quiet s.expect_end ts (t.expect_end ts)
unfolding r.expect_end
expects_end ts = tested false is_end refl refl ts

pub expect_bar : (m : Mark) → Bars (s.expect m)
unfolding r.expect
expect_bar m = tests_bar (is_mark m) refl

-- the one place of an insertion
pub copies_semicolon : (ts : L) → Copies false Quiet semicolon_symbol ts (semicolon_token ts)
copies_semicolon [] = stop end refl tt tt (λ n o. absurd (no_offence o))
copies_semicolon (t ∷ us) = by (is_mark mark.Semicolon t.kind) (offends t) refl refl where
  by : (b c : Bool) → is_mark mark.Semicolon t.kind ≡ b → offends t ≡ c → Copies false Quiet semicolon_symbol (t ∷ us) (cond b (Ok (tt, us)) (cond c (Ok (tt, t ∷ us)) (Err (fault r.a_token t, t ∷ us))))
  by true c e f = reads (take t end) (λ xs h. ap (λ b. cond b (Ok (tt, xs)) (Err (fault r.a_token t, real t ∷ xs))) e) tt tt
  by false true e f = reads (insert f end) (λ xs h. refl) (ap (λ b. cond b (Ok (tt, map real us)) (Err (fault r.a_token t, real t ∷ map real us))) e, tt) tt
  by false false e f = stop end (ap (λ b. cond b (Ok (tt, map real us)) (Err (fault r.a_token t, real t ∷ map real us))) e) tt tt (no_bar (fault r.a_token t) semicolon_symbol (end {us = t ∷ us}) f)

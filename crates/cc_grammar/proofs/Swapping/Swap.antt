-- Two readings of the same symbols, up to a place where one has a part that is due and the other a token that is refused
-- there: what the two have in common up to that place, and what becomes of the token.
use Rattle.std.specs.Prelude.{◌≡◌, ℕ, Bool, true, false, Ok, Err, cond, is_some, List, [], ◌∷◌, ◌++◌, ◌⊎◌, Option, Some, None}
use Rattle.std.proofs.Common.{refl, sym, ap, ◌∙◌, subst, inl, inr}
use Rattle.cc_ast.specs.declared.place.Place.{Place}
use Rattle.cc_ast.specs.declared.reading.Construct.{Construct}
use Rattle.cc_ast.specs.declared.reading.Construct.TheVariants as construct
use Rattle.cc_lexer.specs.declared.token.Mark.{Mark}
use Rattle.cc_lexer.specs.declared.token.Mark.TheVariants as mark
use Rattle.cc_lexer.specs.declared.word.Word.{Word}
use Rattle.cc_lexer.specs.declared.word.Word.TheVariants as word
use Rattle.cc_grammar.specs.Symbols.{Kind, Lexeme, Symbol, Symbols, real, inserted, look, rest, lexeme_of, is_mark, is_word}
use Rattle.cc_grammar.specs.Symbols as k
use Rattle.cc_grammar.specs.Signs.{refused_name, is_accessor, key_of}
use Rattle.cc_grammar.specs.Fronts.{is_end}
use Rattle.cc_grammar.specs.Faults.{any}
use Rattle.cc_grammar.specs.Reading.{Outcome, Fault, Cause, Due, and_then, fault, semicolon_symbol, is_remedy, depth, spent, refused}
use Rattle.cc_grammar.specs.Reading as r
use Rattle.cc_grammar.proofs.Alikeness.Alike.{Stands, whole, tail_of, is_limit, IsErr, is_err, stands_after, stand_by, semicolon_walks, err_by, err_after}
use Rattle.cc_grammar.proofs.OnSymbols as s

-- what is asked of the symbols behind the token
pub data Next : Type 0 where
  anything no_colon a_key deleted : Next

abbrev pub Fitting : Next → ℕ → Symbols → Type 0
Fitting anything n xs = Unit {0}
Fitting no_colon n xs = (is_mark mark.Colon (look xs).kind ≡ false) × (is_remedy (look xs).kind ≡ false)
Fitting a_key n xs = is_some (key_of (look xs).kind) ≡ true
Fitting deleted n xs = (j : Symbols) × (s.opened n 0 xs ≡ Ok (true, j))

-- The token, the part that is due in its place, the construct that it begins there, and whether it may stand there as something else.
pub record Change : Type 0 where
  pub place : Lexeme
  pub part : k.Part
  pub kind : Kind
  pub free : Bool
  pub construct : Construct
  pub next : Next
  pub turns : ℕ

pub data Pair : k.Part → Kind → Bool → Construct → Next → Type 0 where
  slash : Pair k.operand (k.mark mark.Slash) true construct.RegExp anything
  slash_equal : Pair k.operand (k.mark mark.SlashEqual) true construct.RegExp anything
  comma : Pair k.element (k.mark mark.Comma) true construct.Hole anything
  function : Pair k.statement (k.word word.Function) true construct.BlockFunction anything
  label : {n : List ℕ} {c : Construct} → refused_name n ≡ Some c → Pair k.variable (k.name n) true c anything
  name : {n : List ℕ} {c : Construct} → refused_name n ≡ Some c → Pair k.variable (k.name n) false c no_colon
  accessor : {n : List ℕ} → is_accessor (k.name n) ≡ true → Pair k.key (k.name n) false construct.Accessor a_key
  delete : Pair k.operand (k.word word.Delete) false construct.DeleteName deleted

abbrev pub IsPair : Change → Type 0
IsPair x = Pair x.part x.kind x.free x.construct x.next

module _ (x : Change) where
  abbrev pub part : Symbol
  part = any x.part x.place

  abbrev pub lexeme : Lexeme
  lexeme = record x.place { kind = x.kind }

  abbrev pub token : Symbol
  token = real lexeme

  abbrev pub Fits : Symbols → Type 0
  Fits xs = Fitting x.next x.turns xs

  -- it comes to a limit
  pub data IsLimit {A : Type 0} : Outcome Symbols A → Type 0 where
    held : {f : Fault} {ys : Symbols} → is_limit f.cause ≡ true → IsLimit (Err (f, ys))

  -- the construct is refused at the place of the token
  pub data IsRefused {A : Type 0} : Outcome Symbols A → Type 0 where
    is_refused : {f : Fault} {ys : Symbols} → f.cause ≡ refused x.construct → f.place ≡ x.place.place → IsRefused (Err (f, ys))

  pub data Falls {A : Type 0} (xs : Symbols) : Outcome Symbols A → Type 0 where
    falls_there : {f : Fault} → is_limit f.cause ≡ false → Falls xs (Err (f, token ∷ xs))

  -- What p does with the symbols before and the token, and q with the part.
  pub data Swaps {A : Type 0} (p q : s.Reader A) (before : Symbols) : Type 0 where
    stops : (mid : Symbols) (a : A) → ((xs : Symbols) → p (before ++ token ∷ xs) ≡ Ok (a, mid ++ token ∷ xs)) → ((xs : Symbols) → q (before ++ part ∷ xs) ≡ Ok (a, mid ++ part ∷ xs)) → Swaps p q before
    barred : ((xs : Symbols) → IsErr (q (before ++ part ∷ xs))) → Swaps p q before
    passes : x.free ≡ true → ((xs : Symbols) → Stands xs (p (before ++ token ∷ xs))) → Swaps p q before
    limited : ((xs : Symbols) → IsLimit (p (before ++ token ∷ xs))) → Swaps p q before
    refuses : ((xs : Symbols) → Fits xs → IsRefused (p (before ++ token ∷ xs))) → Swaps p q before
    falls : x.next ≡ deleted → ((xs : Symbols) → Falls xs (p (before ++ token ∷ xs))) → Swaps p q before

  -- with something before
  pub record Later {A : Type 0} (p q : s.Reader A) : Type 0 where
    pub swaps : (m : Symbol) (before : Symbols) → Swaps p q (m ∷ before)
    pub walks : (xs : Symbols) → Stands xs (p xs)

  pub record Swap {A : Type 0} (p q : s.Reader A) : Type 0 where
    pub first : Swaps p q []
    pub later : Later p q

  abbrev pub swaps_at : {A : Type 0} {p q : s.Reader A} → Swap p q → (before : Symbols) → Swaps p q before
  swaps_at h [] = h.first
  swaps_at h (m ∷ before) = h.later.swaps m before

  -- It takes the first symbol, or that is too deep for it.
  abbrev pub Taken : {A : Type 0} → s.Reader A → Type 0
  Taken p = ((xs : Symbols) → Stands xs (p (token ∷ xs))) ⊎ ((xs : Symbols) → IsLimit (p (token ∷ xs)))

  pub record Taking {A : Type 0} (p q : s.Reader A) : Type 0 where
    pub later : Later p q
    pub taken : Taken p

  -- readers that depend on the next symbol
  pub record Look {A : Type 0} (p q : Lexeme → s.Reader A) : Type 0 where
    pub first : Swaps (p lexeme) (q (record x.place { kind = k.due x.part })) []
    pub later : (l : Lexeme) → Later (p l) (q l)

  -- where the token is taken
  pub first_taken : {A : Type 0} {p q u : s.Reader A} → x.free ≡ true → Taking p q → Swaps p u []
  first_taken {p} {u} free h = by h.taken where
    by : Taken p → Swaps p u []
    by (inl w) = passes free w
    by (inr w) = limited w

  -- ---- one after the other

  pub limit_by : {A : Type 0} {o u : Outcome Symbols A} → o ≡ u → IsLimit u → IsLimit o
  limit_by e h = let P : Outcome Symbols _ → Type 0 = λ y. IsLimit y in subst P (sym e) h

  pub refused_by : {A : Type 0} {o u : Outcome Symbols A} → o ≡ u → IsRefused u → IsRefused o
  refused_by e h = let P : Outcome Symbols _ → Type 0 = λ y. IsRefused y in subst P (sym e) h

  pub falls_by : {A : Type 0} {xs : Symbols} {o u : Outcome Symbols A} → o ≡ u → Falls xs u → Falls xs o
  falls_by {xs} e h = let P : Outcome Symbols _ → Type 0 = λ y. Falls xs y in subst P (sym e) h

  pub limit_after : {A B : Type 0} {o : Outcome Symbols A} (f : A → s.Reader B) → IsLimit o → IsLimit (and_then o f)
  limit_after f (held e) = held e

  pub refused_after : {A B : Type 0} {o : Outcome Symbols A} (f : A → s.Reader B) → IsRefused o → IsRefused (and_then o f)
  refused_after f (is_refused e p) = is_refused e p

  falls_after : {A B : Type 0} {xs : Symbols} {o : Outcome Symbols A} (f : A → s.Reader B) → Falls xs o → Falls xs (and_then o f)
  falls_after f (falls_there e) = falls_there e

  module _ {A B : Type 0} {p q : s.Reader A} {f g : A → s.Reader B} where
    pub swaps_after : (before : Symbols) → ((a : A) → Swap (f a) (g a)) → Swaps p q before → Swaps (λ i. and_then (p i) f) (λ i. and_then (q i) g) before
    swaps_after before h (barred e) = barred (λ xs. err_after g (e xs))
    swaps_after before h (limited e) = limited (λ xs. limit_after f (e xs))
    swaps_after before h (passes free e) = passes free (λ xs. stands_after xs (p (before ++ token ∷ xs)) f (e xs) (λ a ys. (h a).later.walks ys))
    swaps_after before h (refuses e) = refuses (λ xs n. refused_after f (e xs n))
    swaps_after before h (falls n e) = falls n (λ xs. falls_after f (e xs))
    swaps_after before h (stops mid a d e) = go_on (swaps_at (h a) mid) where
      go_on : Swaps (f a) (g a) mid → Swaps (λ i. and_then (p i) f) (λ i. and_then (q i) g) before
      go_on (stops low b u v) = stops low b (λ xs. ap (λ o. and_then o f) (d xs) ∙ u xs) (λ xs. ap (λ o. and_then o g) (e xs) ∙ v xs)
      go_on (barred v) = barred (λ xs. err_by (ap (λ o. and_then o g) (e xs)) (v xs))
      go_on (limited u) = limited (λ xs. limit_by (ap (λ o. and_then o f) (d xs)) (u xs))
      go_on (passes free u) = passes free (λ xs. stand_by xs (ap (λ o. and_then o f) (d xs)) (u xs))
      go_on (refuses u) = refuses (λ xs n. refused_by (ap (λ o. and_then o f) (d xs)) (u xs n))
      go_on (falls n u) = falls n (λ xs. falls_by (ap (λ o. and_then o f) (d xs)) (u xs))

    pub later_after : Later p q → ((a : A) → Swap (f a) (g a)) → Later (λ i. and_then (p i) f) (λ i. and_then (q i) g)
    later_after l h = record { swaps = λ m before. swaps_after (m ∷ before) h (l.swaps m before); walks = λ xs. stands_after xs (p xs) f (l.walks xs) (λ a ys. (h a).later.walks ys) }

    pub swap_after : Swap p q → ((a : A) → Swap (f a) (g a)) → Swap (λ i. and_then (p i) f) (λ i. and_then (q i) g)
    swap_after l h = record { first = swaps_after [] h l.first; later = later_after l.later h }

    pub taking_after : Taking p q → ((a : A) → Swap (f a) (g a)) → Taking (λ i. and_then (p i) f) (λ i. and_then (q i) g)
    taking_after l h = record { later = later_after l.later h; taken = by l.taken } where
      by : Taken p → Taken (λ i. and_then (p i) f)
      by (inl w) = inl (λ xs. stands_after xs (p (token ∷ xs)) f (w xs) (λ a ys. (h a).later.walks ys))
      by (inr w) = inr (λ xs. limit_after f (w xs))

  -- ---- steps

  pub swap_pure : {A : Type 0} (a : A) → Swap (λ i. Ok (a, i)) (λ i. Ok (a, i))
  swap_pure a = record { first = stops [] a (λ xs. refl) (λ xs. refl); later = record { swaps = λ m before. stops (m ∷ before) a (λ xs. refl) (λ xs. refl); walks = whole } }

  -- the second never reads
  pub swap_err : {A : Type 0} (c d : Fault) → Swap {A = A} (λ i. Err (c, i)) (λ i. Err (d, i))
  swap_err c d = record { first = barred (λ xs. is_err); later = record { swaps = λ m before. barred (λ xs. is_err); walks = whole } }

  pub look_fail : {A : Type 0} (d : Due) → Look {A = A} (λ l i. Err (fault d l, i)) (λ l i. Err (fault d l, i))
  look_fail d = record { first = barred (λ xs. is_err); later = λ l. (swap_err (fault d l) (fault d l)).later }

  look_stops : {A : Type 0} (c : Cause) → Look {A = A} (λ l i. Err (record { cause = c; place = l.place }, i)) (λ l i. Err (record { cause = c; place = l.place }, i))
  look_stops c = record { first = barred (λ xs. is_err); later = λ l. (swap_err _ _).later }

  -- by the next symbol
  pub later_look : {A : Type 0} {p q : Lexeme → s.Reader A} → ((l : Lexeme) → Later (p l) (q l)) → Later (λ i. p (look i) i) (λ i. q (look i) i)
  later_look {p} {q} h = record { swaps = λ m before. seen m before ((h (lexeme_of m)).swaps m before); walks = λ xs. (h (look xs)).walks xs } where
    seen : (m : Symbol) (before : Symbols) → Swaps (p (lexeme_of m)) (q (lexeme_of m)) (m ∷ before) → Swaps (λ i. p (look i) i) (λ i. q (look i) i) (m ∷ before)
    seen m before (stops mid a u v) = stops mid a u v
    seen m before (barred v) = barred v
    seen m before (limited u) = limited u
    seen m before (passes free u) = passes free u
    seen m before (refuses u) = refuses u
    seen m before (falls n u) = falls n u

  pub swap_look : {A : Type 0} {p q : Lexeme → s.Reader A} → Look p q → Swap (λ i. p (look i) i) (λ i. q (look i) i)
  swap_look {p} {q} h = record { first = at_first h.first; later = later_look h.later } where
    at_first : Swaps (p lexeme) (q (record x.place { kind = k.due x.part })) [] → Swaps (λ i. p (look i) i) (λ i. q (look i) i) []
    at_first (stops mid a u v) = stops mid a u v
    at_first (barred v) = barred v
    at_first (limited u) = limited u
    at_first (passes free u) = passes free u
    at_first (refuses u) = refuses u
    at_first (falls n u) = falls n u

  -- takes the symbol
  pub take_then : {A : Type 0} {f g : Lexeme → s.Reader A} → ((l : Lexeme) → Swap (f l) (g l)) → Taking (λ i. and_then (Ok (look i, rest i)) f) (λ i. and_then (Ok (look i, rest i)) g)
  take_then {f} {g} h = record {
    later = record {
      swaps = λ m before. taken_first m before (swaps_at (h (lexeme_of m)) before);
      walks = λ xs. stands_after xs (Ok (look xs, rest xs)) f (tail_of xs) (λ l ys. (h l).later.walks ys);
    };
    taken = inl (λ xs. (h lexeme).later.walks xs);
  } where
    taken_first : (m : Symbol) (before : Symbols) → Swaps (f (lexeme_of m)) (g (lexeme_of m)) before → Swaps (λ i. and_then (Ok (look i, rest i)) f) (λ i. and_then (Ok (look i, rest i)) g) (m ∷ before)
    taken_first m before (stops mid a u v) = stops mid a u v
    taken_first m before (barred v) = barred v
    taken_first m before (limited u) = limited u
    taken_first m before (passes free u) = passes free u
    taken_first m before (refuses u) = refuses u
    taken_first m before (falls n u) = falls n u

  pub behind : {A : Type 0} {p q : s.Reader A} → Swap p q → Taking (λ i. and_then (Ok (look i, rest i)) (λ _. p)) (λ i. and_then (Ok (look i, rest i)) (λ _. q))
  behind h = take_then (λ _. h)

  pub swap_fork : {A : Type 0} (b : Bool) (p q u v : s.Reader A) → Swap p u → Swap q v → Swap (cond b p q) (cond b u v)
  swap_fork true p q u v h l = h
  swap_fork false p q u v h l = l

  pub later_fork : {A : Type 0} (b : Bool) (p q u v : s.Reader A) → Later p u → Later q v → Later (cond b p q) (cond b u v)
  later_fork true p q u v h l = h
  later_fork false p q u v h l = l

  pub swap_fail : {A : Type 0} (d : Due) → Swap {A = A} (r.fail Symbols look rest semicolon_symbol d) (r.fail Symbols look rest semicolon_symbol d)
  swap_fail d = swap_look (look_fail d)

  pub swap_stops : {A : Type 0} (c : Cause) → Swap {A = A} (r.stops Symbols look rest semicolon_symbol c) (r.stops Symbols look rest semicolon_symbol c)
  swap_stops c = swap_look (look_stops c)

  pub swap_refuse : {A : Type 0} (c : Construct) (p : Place) → Swap {A = A} (r.refuse Symbols look rest semicolon_symbol c p) (r.refuse Symbols look rest semicolon_symbol c p)
  swap_refuse c p = swap_err (record { cause = refused c; place = p }) (record { cause = refused c; place = p })

  -- a limit says nothing of the second
  pub swap_limit : {A : Type 0} (c : Cause) (q : s.Reader A) → is_limit c ≡ true → Swap (r.stops Symbols look rest semicolon_symbol c) q
  swap_limit c q e = record { first = limited (λ xs. held e); later = record { swaps = λ m before. limited (λ xs. held e); walks = whole } }

  -- the depth
  pub taking_deeper : {A : Type 0} (b c : Bool) (p q : s.Reader A) → Taking p q
      → Taking (λ i. cond b (p i) (Err (record { cause = depth; place = (look i).place }, i))) (λ i. cond c (q i) (Err (record { cause = depth; place = (look i).place }, i)))
  taking_deeper true true p q h = h
  taking_deeper true false p q h = record { later = record { swaps = λ m before. barred (λ xs. is_err); walks = h.later.walks }; taken = h.taken }
  taking_deeper false c p q h = record { later = record { swaps = λ m before. limited (λ xs. held refl); walks = whole }; taken = inr (λ xs. held refl) }

  -- ---- tests of the next symbol

  pub steady : {A : Type 0} {p q : s.Reader A} → Swap p q → Look (λ _. p) (λ _. q)
  steady h = record { first = h.first; later = λ _. h.later }

  pub by_place : {A : Type 0} {p q : Place → s.Reader A} → ((w : Place) → Swap (p w) (q w)) → Look (λ l. p l.place) (λ l. q l.place)
  by_place h = record { first = (h x.place.place).first; later = λ l. (h l.place).later }

  pub test : {A : Type 0} (f : Lexeme → Bool) {p q u v : Lexeme → s.Reader A} → f (record x.place { kind = k.due x.part }) ≡ false → (f lexeme ≡ true → x.free ≡ true) → ((l : Lexeme) → Taking (p l) (u l)) → Look q v
      → Look (λ l. cond (f l) (p l) (q l)) (λ l. cond (f l) (u l) (v l))
  test f {p} {q} {u} {v} none free h w = record { first = by (f lexeme) (f (record x.place { kind = k.due x.part })) refl none; later = λ l. later_fork (f l) _ _ _ _ (h l).later (w.later l) } where
    by : (b c : Bool) → f lexeme ≡ b → c ≡ false → Swaps (cond b (p lexeme) (q lexeme)) (cond c (u (record x.place { kind = k.due x.part })) (v (record x.place { kind = k.due x.part }))) []
    by true c e n = first_taken (free e) (h lexeme)
    by false false e n = w.first
    by false true e n = let no : true ≡ false = n in absurd (cc)

  -- a test that answers the same of the token and of the part
  pub like_test : {A : Type 0} (f : Lexeme → Bool) {p q u v : Lexeme → s.Reader A} → f lexeme ≡ f (record x.place { kind = k.due x.part }) → Look p u → Look q v → Look (λ l. cond (f l) (p l) (q l)) (λ l. cond (f l) (u l) (v l))
  like_test f {p} {q} {u} {v} e h w = record { first = by (f lexeme) (f (record x.place { kind = k.due x.part })) e; later = λ l. later_fork (f l) _ _ _ _ (h.later l) (w.later l) } where
    by : (b c : Bool) → b ≡ c → Swaps (cond b (p lexeme) (q lexeme)) (cond c (u (record x.place { kind = k.due x.part })) (v (record x.place { kind = k.due x.part }))) []
    by true true n = h.first
    by false false n = w.first
    by true false n = let no : true ≡ false = n in absurd (cc)
    by false true n = let no : false ≡ true = n in absurd (cc)

  -- by what a table has for it
  pub listed : {A X : Type 0} (t : Kind → Option X) {p q : Option X → Lexeme → s.Reader A} → t (k.due x.part) ≡ None → ((o : Option X) (l : Lexeme) → Later (p o l) (q o l)) → Look (p None) (q None)
      → ((o : X) → t x.kind ≡ Some o → Swaps (p (Some o) lexeme) (q None (record x.place { kind = k.due x.part })) []) → Look (λ l. p (t l.kind) l) (λ l. q (t l.kind) l)
  listed t {p} {q} none h w f = record { first = by (t x.kind) (t (k.due x.part)) refl none; later = λ l. h (t l.kind) l } where
    by : (a b : Option _) → t x.kind ≡ a → b ≡ None → Swaps (p a lexeme) (q b (record x.place { kind = k.due x.part })) []
    by None None e n = w.first
    by (Some o) None e n = f o e
    by a (Some o) e n = let no : Some o ≡ None = n in absurd (cc)

  -- by a table that has the same for the token and for the part
  pub alike_listed : {A X : Type 0} (t : Kind → X) (v : X) {p q : X → Lexeme → s.Reader A} → t x.kind ≡ v → t (k.due x.part) ≡ v → Swaps (p v lexeme) (q v (record x.place { kind = k.due x.part })) []
      → ((y : X) (l : Lexeme) → Later (p y l) (q y l)) → Look (λ l. p (t l.kind) l) (λ l. q (t l.kind) l)
  alike_listed {X} t v {p} {q} e f h w = record { first = subst P (sym e) (subst Q (sym f) h); later = λ l. w (t l.kind) l } where
    P : X → Type 0
    P y = Swaps (p y lexeme) (q (t (k.due x.part)) (record x.place { kind = k.due x.part })) []

    Q : X → Type 0
    Q y = Swaps (p v lexeme) (q y (record x.place { kind = k.due x.part })) []

  -- ---- tokens of a kind

  module _ (w : IsPair x) where
    pub mark_free : (m : Mark) → is_mark m x.kind ≡ true → x.free ≡ true
    mark_free m e = by w e where
      by : {p : k.Part} {y : Kind} {b : Bool} {c : Construct} {n : Next} → Pair p y b c n → is_mark m y ≡ true → b ≡ true
      by slash e = refl
      by slash_equal e = refl
      by comma e = refl
      by function e = refl
      by (label q) e = refl
      by (name q) e = let no : false ≡ true = e in absurd (cc)
      by (accessor q) e = let no : false ≡ true = e in absurd (cc)
      by delete e = let no : false ≡ true = e in absurd (cc)

    pub end_free : is_end x.kind ≡ true → x.free ≡ true
    end_free e = by w e where
      by : {p : k.Part} {y : Kind} {b : Bool} {c : Construct} {n : Next} → Pair p y b c n → is_end y ≡ true → b ≡ true
      by slash e = refl
      by slash_equal e = refl
      by comma e = refl
      by function e = refl
      by (label q) e = refl
      by (name q) e = let no : false ≡ true = e in absurd (cc)
      by (accessor q) e = let no : false ≡ true = e in absurd (cc)
      by delete e = let no : false ≡ true = e in absurd (cc)

    pub mark_test : {A : Type 0} (m : Mark) {p q u v : Lexeme → s.Reader A} → ((l : Lexeme) → Taking (p l) (u l)) → Look q v → Look (λ l. cond (is_mark m l.kind) (p l) (q l)) (λ l. cond (is_mark m l.kind) (u l) (v l))
    mark_test m h u = test (λ l. is_mark m l.kind) refl (mark_free m) h u

    -- ---- tokens that have to come

    abbrev tested : Bool → Lexeme → s.Reader (Unit {0})
    tested b l i = cond b (Ok (tt, rest i)) (Err (fault r.a_token l, i))

    expected : (f : Lexeme → Bool) → f (record x.place { kind = k.due x.part }) ≡ false → (f lexeme ≡ true → x.free ≡ true) → Swap (λ i. tested (f (look i)) (look i) i) (λ i. tested (f (look i)) (look i) i)
    expected f none free = swap_look {p = λ l. tested (f l) l} {q = λ l. tested (f l) l} (record { first = by (f lexeme) (f (record x.place { kind = k.due x.part })) refl none; later = λ l. then (f l) l }) where
      by : (b c : Bool) → f lexeme ≡ b → c ≡ false → Swaps (tested b lexeme) (tested c (record x.place { kind = k.due x.part })) []
      by true c e n = passes (free e) (λ xs. whole xs)
      by false false e n = barred (λ xs. is_err)
      by false true e n = let no : true ≡ false = n in absurd (cc)

      then : (b : Bool) (l : Lexeme) → Later (tested b l) (tested b l)
      then true l = (behind (swap_pure tt)).later
      then false l = (swap_err (fault r.a_token l) (fault r.a_token l)).later

    pub swap_expect : (m : Mark) → Swap (s.expect m) (s.expect m)
    unfolding r.expect
    swap_expect m = expected (λ l. is_mark m l.kind) refl (mark_free m)

    pub swap_expect_word : (v : Word) → (is_word v x.kind ≡ true → x.free ≡ true) → Swap (s.expect_word v) (s.expect_word v)
    unfolding r.expect_word
    swap_expect_word v f = expected (λ l. is_word v l.kind) refl f

    pub swap_expect_end : Swap s.expect_end s.expect_end
    unfolding r.expect_end
    swap_expect_end = expected (λ l. is_end l.kind) refl end_free

    -- a value behind a mark
    pub swap_close : {A : Type 0} (m : Mark) (a : A) → Swap (λ i. and_then (s.expect m i) (λ _ j. Ok (a, j))) (λ i. and_then (s.expect m i) (λ _ j. Ok (a, j)))
    swap_close m a = swap_after (swap_expect m) (λ _. swap_pure a)

    -- the end of a statement
    semicolon_later : (m : Symbol) (before : Symbols) → Swaps semicolon_symbol semicolon_symbol (m ∷ before)
    semicolon_later inserted before = stops before tt (λ xs. refl) (λ xs. refl)
    semicolon_later (real l) before = by (is_mark mark.Semicolon l.kind) refl where
      by : (b : Bool) → is_mark mark.Semicolon l.kind ≡ b → Swaps semicolon_symbol semicolon_symbol (real l ∷ before)
      by true e = stops before tt (λ xs. ap (λ b. tested b l (real l ∷ (before ++ token ∷ xs))) e) (λ xs. ap (λ b. tested b l (real l ∷ (before ++ part ∷ xs))) e)
      by false e = barred (λ xs. err_by (ap (λ b. tested b l (real l ∷ (before ++ part ∷ xs))) e) is_err)

    pub swap_semicolon : Swap semicolon_symbol semicolon_symbol
    swap_semicolon = record { first = barred (λ xs. is_err); later = record { swaps = semicolon_later; walks = semicolon_walks } }

    pub swap_end : {A : Type 0} (a : A) → Swap (λ i. and_then (semicolon_symbol i) (λ _ j. Ok (a, j))) (λ i. and_then (semicolon_symbol i) (λ _ j. Ok (a, j)))
    swap_end a = swap_after swap_semicolon (λ _. swap_pure a)

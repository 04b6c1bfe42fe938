-- Two readers that differ only in how much they may: what the first makes of a symbol, the second makes of it too, whatever follows.
use Rattle.std.specs.Prelude.{◌≡◌, ℕ, suc, Bool, true, false, Ok, Err, cond, [], ◌∷◌, ◌++◌, ◌⊎◌}
use Rattle.std.proofs.Common.{refl, sym, ap, ◌∙◌, subst, append_assoc, arith, inl, inr}
use Rattle.cc_ast.specs.declared.place.Place.{Place}
use Rattle.cc_ast.specs.declared.reading.Construct.{Construct}
use Rattle.cc_lexer.specs.declared.token.Mark.{Mark}
use Rattle.cc_lexer.specs.declared.token.Mark.TheVariants as mark
use Rattle.cc_lexer.specs.declared.word.Word.{Word}
use Rattle.cc_grammar.specs.Symbols.{Lexeme, Symbol, Symbols, real, inserted, look, rest, lexeme_of, is_mark, is_word}
use Rattle.cc_grammar.specs.Fronts.{is_end}
use Rattle.cc_grammar.specs.Reading.{Outcome, Fault, Cause, Due, and_then, fault, semicolon_symbol, syntax, depth, spent, refused}
use Rattle.cc_grammar.specs.Reading as r
use Rattle.cc_grammar.proofs.Clashes.{never}
use Rattle.cc_grammar.proofs.OnSymbols as s

pub record Suffix (ys xs : Symbols) : Type 0 where
  pub before : Symbols
  pub is : xs ≡ before ++ ys

pub whole : (xs : Symbols) → Suffix xs xs
whole xs = record { before = []; is = refl }

pub behind : {xs ys zs : Symbols} → Suffix ys xs → Suffix zs ys → Suffix zs xs
behind {xs} {ys} {zs} a b = record { before = a.before ++ b.before; is = a.is ∙ ap (λ w. a.before ++ w) b.is ∙ sym (append_assoc a.before b.before zs) }

pub tail_of : (xs : Symbols) → Suffix (rest xs) xs
tail_of [] = whole []
tail_of (m ∷ xs) = record { before = m ∷ []; is = refl }

-- where an outcome stands
abbrev pub Stands : {A : Type 0} → Symbols → Outcome Symbols A → Type 0
Stands xs (Ok p) = Suffix p.1 xs
Stands xs (Err x) = Suffix x.1 xs

-- what limits it, and says nothing of the symbols
abbrev pub is_limit : Cause → Bool
is_limit depth = true
is_limit spent = true
is_limit _ = false

-- Which causes are taken for limits. That the turns were too few is one.
pub record Bounds : Type 0 where
  pub is : Cause → Bool
  pub spends : is spent ≡ true

-- the depth and the turns
abbrev pub limits : Bounds
limits = record { is = is_limit; spends = refl }

abbrev pub is_spent : Cause → Bool
is_spent spent = true
is_spent _ = false

-- the turns alone
abbrev pub turns_alone : Bounds
turns_alone = record { is = is_spent; spends = refl }

-- The depth is a limit, or it is the same.
pub data Deeper (bounds : Bounds) (d e : ℕ) : Type 0 where
  bounded : bounds.is depth ≡ true → Deeper bounds d e
  equal : d ≡ e → Deeper bounds d e

pub one_less : {bounds : Bounds} {d e : ℕ} → Deeper bounds (suc d) (suc e) → Deeper bounds d e
one_less (bounded e) = bounded e
one_less (equal e) = equal (omega (arith, e))

pub one_more : {bounds : Bounds} {d e : ℕ} → Deeper bounds d e → Deeper bounds (suc d) (suc e)
one_more (bounded e) = bounded e
one_more (equal e) = equal (ap suc e)

-- it isn't read
pub data IsErr {A : Type 0} : Outcome Symbols A → Type 0 where
  is_err : {x : Fault × Symbols} → IsErr (Err x)

-- It isn't read, and it was a limit, or it stands in the list.
pub data Held (bounds : Bounds) {A : Type 0} (xs : Symbols) : Outcome Symbols A → Type 0 where
  limit : {x : Fault × Symbols} → bounds.is x.0.cause ≡ true → Held bounds xs (Err x)
  beyond : {x : Fault × Symbols} → Suffix x.1 xs → Held bounds xs (Err x)

-- What p and q do with the symbols before, the symbol t, and whatever follows.
pub data Decides (bounds : Bounds) {A : Type 0} (p q : s.Reader A) (before : Symbols) (t : Symbol) : Type 0 where
  stops : (mid : Symbols) (a : A) → ((xs : Symbols) → p (before ++ t ∷ xs) ≡ Ok (a, mid ++ t ∷ xs)) → ((xs : Symbols) → q (before ++ t ∷ xs) ≡ Ok (a, mid ++ t ∷ xs)) → Decides bounds p q before t
  barred : ((xs : Symbols) → IsErr (q (before ++ t ∷ xs))) → Decides bounds p q before t
  passes : ((xs : Symbols) → Stands xs (p (before ++ t ∷ xs))) → Decides bounds p q before t
  limited : ((xs : Symbols) → Held bounds xs (p (before ++ t ∷ xs))) → Decides bounds p q before t

pub record Alike (bounds : Bounds) {A : Type 0} (p q : s.Reader A) : Type 0 where
  pub decides : (before : Symbols) (t : Symbol) → Decides bounds p q before t
  pub walks : (xs : Symbols) → Stands xs (p xs)

-- ---- one after the other

pub farther : {B : Type 0} {xs ys : Symbols} (o : Outcome Symbols B) → Suffix ys xs → Stands ys o → Stands xs o
farther (Ok p) h e = behind h e
farther (Err x) h e = behind h e

pub stands_after : {A B : Type 0} (xs : Symbols) (o : Outcome Symbols A) (f : A → s.Reader B) → Stands xs o → ((a : A) (ys : Symbols) → Stands ys (f a ys)) → Stands xs (and_then o f)
stands_after xs (Ok p) f h e = farther (f p.0 p.1) h (e p.0 p.1)
stands_after xs (Err x) f h e = h

pub stand_by : {A : Type 0} (xs : Symbols) {o r : Outcome Symbols A} → o ≡ r → Stands xs r → Stands xs o
stand_by xs e h = let P : Outcome Symbols _ → Type 0 = λ x. Stands xs x in subst P (sym e) h

pub err_by : {A : Type 0} {o r : Outcome Symbols A} → o ≡ r → IsErr r → IsErr o
err_by e h = let P : Outcome Symbols _ → Type 0 = λ x. IsErr x in subst P (sym e) h

pub err_after : {A B : Type 0} {o : Outcome Symbols A} (f : A → s.Reader B) → IsErr o → IsErr (and_then o f)
err_after f is_err = is_err

-- a token of a kind
abbrev tested : Bool → Lexeme → s.Reader (Unit {0})
tested b t i = cond b (Ok (tt, rest i)) (Err (fault r.a_token t, i))

one_written : (b : Bool) (t : Lexeme) (xs : Symbols) → Stands (real t ∷ xs) (tested b t (real t ∷ xs))
one_written true t xs = tail_of (real t ∷ xs)
one_written false t xs = whole (real t ∷ xs)

pub semicolon_walks : (xs : Symbols) → Stands xs (semicolon_symbol xs)
semicolon_walks [] = whole []
semicolon_walks (inserted ∷ xs) = tail_of (inserted ∷ xs)
semicolon_walks (real t ∷ xs) = one_written (is_mark mark.Semicolon t.kind) t xs

module _ {bounds : Bounds} where
  held_by : {A : Type 0} {xs : Symbols} {o r : Outcome Symbols A} → o ≡ r → Held bounds xs r → Held bounds xs o
  held_by {xs} e h = let P : Outcome Symbols _ → Type 0 = λ x. Held bounds xs x in subst P (sym e) h

  held_after : {A B : Type 0} {xs : Symbols} {o : Outcome Symbols A} (f : A → s.Reader B) → Held bounds xs o → Held bounds xs (and_then o f)
  held_after f (limit e) = limit e
  held_after f (beyond h) = beyond h

  module _ {A B : Type 0} {p q : s.Reader A} {f g : A → s.Reader B} where
    decides_after : (before : Symbols) (t : Symbol) → Alike bounds p q → ((a : A) → Alike bounds (f a) (g a)) → Decides bounds p q before t → Decides bounds (λ i. and_then (p i) f) (λ i. and_then (q i) g) before t
    decides_after before t l h (barred e) = barred (λ xs. err_after g (e xs))
    decides_after before t l h (limited e) = limited (λ xs. held_after f (e xs))
    decides_after before t l h (passes d) = passes (λ xs. stands_after xs (p (before ++ t ∷ xs)) f (d xs) (λ a ys. (h a).walks ys))
    decides_after before t l h (stops mid a d e) = go_on ((h a).decides mid t) where
      go_on : Decides bounds (f a) (g a) mid t → Decides bounds (λ i. and_then (p i) f) (λ i. and_then (q i) g) before t
      go_on (stops low b u v) = stops low b (λ xs. ap (λ o. and_then o f) (d xs) ∙ u xs) (λ xs. ap (λ o. and_then o g) (e xs) ∙ v xs)
      go_on (barred v) = barred (λ xs. err_by (ap (λ o. and_then o g) (e xs)) (v xs))
      go_on (limited u) = limited (λ xs. held_by (ap (λ o. and_then o f) (d xs)) (u xs))
      go_on (passes u) = passes (λ xs. stand_by xs (ap (λ o. and_then o f) (d xs)) (u xs))

    pub alike_after : Alike bounds p q → ((a : A) → Alike bounds (f a) (g a)) → Alike bounds (λ i. and_then (p i) f) (λ i. and_then (q i) g)
    alike_after l h = record {
      decides = λ before t. decides_after before t l h (l.decides before t);
      walks = λ xs. stands_after xs (p xs) f (l.walks xs) (λ a ys. (h a).walks ys);
    }

  -- ---- steps

  pub alike_pure : {A : Type 0} (a : A) → Alike bounds (λ i. Ok (a, i)) (λ i. Ok (a, i))
  alike_pure a = record { decides = λ before t. stops before a (λ xs. refl) (λ xs. refl); walks = whole }

  -- the second never reads
  pub alike_err : {A : Type 0} (c d : Fault) → Alike bounds {A = A} (λ i. Err (c, i)) (λ i. Err (d, i))
  alike_err c d = record { decides = λ before t. barred (λ xs. is_err); walks = whole }

  pub alike_refuse : {A : Type 0} (c : Construct) (p : Place) → Alike bounds {A = A} (r.refuse Symbols look rest semicolon_symbol c p) (r.refuse Symbols look rest semicolon_symbol c p)
  alike_refuse c p = alike_err (record { cause = refused c; place = p }) (record { cause = refused c; place = p })

  pub alike_look : {A : Type 0} (p q : Lexeme → s.Reader A) → ((x : Lexeme) → Alike bounds (p x) (q x)) → Alike bounds (λ i. p (look i) i) (λ i. q (look i) i)
  alike_look p q h = record {
    decides = elim [ [] ↦ λ t. seen [] t (lexeme_of t) (λ xs. refl) ((h (lexeme_of t)).decides [] t) | m ∷ before ↦ λ t. seen (m ∷ before) t (lexeme_of m) (λ xs. refl) ((h (lexeme_of m)).decides (m ∷ before) t) ];
    walks = λ xs. (h (look xs)).walks xs;
  } where
    seen : (before : Symbols) (t : Symbol) (x : Lexeme) → ((xs : Symbols) → look (before ++ t ∷ xs) ≡ x) → Decides bounds (p x) (q x) before t → Decides bounds (λ i. p (look i) i) (λ i. q (look i) i) before t
    seen before t x e (stops mid a u v) = stops mid a (λ xs. ap (λ y. p y (before ++ t ∷ xs)) (e xs) ∙ u xs) (λ xs. ap (λ y. q y (before ++ t ∷ xs)) (e xs) ∙ v xs)
    seen before t x e (barred v) = barred (λ xs. err_by (ap (λ y. q y (before ++ t ∷ xs)) (e xs)) (v xs))
    seen before t x e (limited u) = limited (λ xs. held_by (ap (λ y. p y (before ++ t ∷ xs)) (e xs)) (u xs))
    seen before t x e (passes u) = passes (λ xs. stand_by xs (ap (λ y. p y (before ++ t ∷ xs)) (e xs)) (u xs))

  -- takes the symbol
  pub alike_take : Alike bounds (λ i. Ok (look i, rest i)) (λ i. Ok (look i, rest i))
  alike_take = record {
    decides = elim [ [] ↦ λ t. passes (λ xs. whole xs) | m ∷ before ↦ λ t. stops before (lexeme_of m) (λ xs. refl) (λ xs. refl) ];
    walks = tail_of;
  }

  -- and goes on
  pub alike_behind : {A : Type 0} {p q : s.Reader A} → Alike bounds p q → Alike bounds (λ i. and_then (Ok (look i, rest i)) (λ _. p)) (λ i. and_then (Ok (look i, rest i)) (λ _. q))
  alike_behind h = alike_after alike_take (λ _. h)

  pub alike_fork : {A : Type 0} (b : Bool) (p q u v : s.Reader A) → Alike bounds p u → Alike bounds q v → Alike bounds (cond b p q) (cond b u v)
  alike_fork true p q u v h l = h
  alike_fork false p q u v h l = l

  pub alike_choice : {A : Type 0} (b : Bool) (p q u v : s.Reader A) → Alike bounds p u → Alike bounds q v → Alike bounds (λ i. cond b (p i) (q i)) (λ i. cond b (u i) (v i))
  alike_choice true p q u v h l = h
  alike_choice false p q u v h l = l

  pub alike_fail : {A : Type 0} (d : Due) → Alike bounds {A = A} (r.fail Symbols look rest semicolon_symbol d) (r.fail Symbols look rest semicolon_symbol d)
  alike_fail d = alike_look (λ t i. Err (fault d t, i)) (λ t i. Err (fault d t, i)) (λ t. alike_err (fault d t) (fault d t))

  pub alike_stops : {A : Type 0} (c : Cause) → Alike bounds {A = A} (r.stops Symbols look rest semicolon_symbol c) (r.stops Symbols look rest semicolon_symbol c)
  alike_stops c = alike_look (λ t i. Err (record { cause = c; place = t.place }, i)) (λ t i. Err (record { cause = c; place = t.place }, i)) (λ t. alike_err _ _)

  -- a limit says nothing of the second
  alike_limit : {A : Type 0} (c : Cause) (q : s.Reader A) → bounds.is c ≡ true → Alike bounds (r.stops Symbols look rest semicolon_symbol c) q
  alike_limit c q e = record { decides = λ before t. limited (λ xs. limit e); walks = whole }

  pub alike_spent : {A : Type 0} (q : s.Reader A) → Alike bounds (r.stops Symbols look rest semicolon_symbol spent) q
  alike_spent q = alike_limit spent q bounds.spends

  pub alike_depth : {A : Type 0} {d : ℕ} (q : s.Reader A) → Deeper bounds 0 (suc d) → Alike bounds (r.stops Symbols look rest semicolon_symbol depth) q
  alike_depth q (bounded e) = alike_limit depth q e
  alike_depth q (equal e) = absurd (omega (arith, e))

  pub alike_deeper : {A : Type 0} (b c : Bool) (p q : s.Reader A) → (b ≡ true → c ≡ true) → (bounds.is depth ≡ true) ⊎ (b ≡ c) → Alike bounds p q
      → Alike bounds (λ i. cond b (p i) (Err (record { cause = depth; place = (look i).place }, i))) (λ i. cond c (q i) (Err (record { cause = depth; place = (look i).place }, i)))
  alike_deeper true true p q h s l = l
  alike_deeper true false p q h s l = let no : false ≡ true = h refl in never no
  alike_deeper false false p q h s l = alike_stops depth
  alike_deeper false true p q h (inl e) l = alike_limit depth q e
  alike_deeper false true p q h (inr e) l = never e

  alike_expected : (f : Lexeme → Bool) → Alike bounds (λ i. tested (f (look i)) (look i) i) (λ i. tested (f (look i)) (look i) i)
  alike_expected f = alike_look (λ t. tested (f t) t) (λ t. tested (f t) t)
      (λ t. alike_choice (f t) _ _ _ _ (alike_behind (alike_pure tt)) (alike_err (fault r.a_token t) (fault r.a_token t)))

  pub alike_expect : (m : Mark) → Alike bounds (s.expect m) (s.expect m)
  unfolding r.expect
  alike_expect m = alike_expected (λ t. is_mark m t.kind)

  pub alike_expect_word : (w : Word) → Alike bounds (s.expect_word w) (s.expect_word w)
  unfolding r.expect_word
  alike_expect_word w = alike_expected (λ t. is_word w t.kind)

  pub alike_expect_end : Alike bounds s.expect_end s.expect_end
  unfolding r.expect_end
  alike_expect_end = alike_expected (λ t. is_end t.kind)

  -- a value behind a mark
  pub alike_close : {A : Type 0} (m : Mark) (a : A) → Alike bounds (λ i. and_then (s.expect m i) (λ _ j. Ok (a, j))) (λ i. and_then (s.expect m i) (λ _ j. Ok (a, j)))
  alike_close m a = alike_after (alike_expect m) (λ _. alike_pure a)

  -- the end of a statement
  written_decides : (b : Bool) (t : Lexeme) (before : Symbols) (u : Symbol) → Decides bounds (tested b t) (tested b t) (real t ∷ before) u
  written_decides true t before u = stops before tt (λ xs. refl) (λ xs. refl)
  written_decides false t before u = barred (λ xs. is_err)

  written_first : (b : Bool) (t : Lexeme) → Decides bounds (tested b t) (tested b t) [] (real t)
  written_first true t = passes (λ xs. whole xs)
  written_first false t = barred (λ xs. is_err)

  semicolon_decides : (before : Symbols) (t : Symbol) → Decides bounds semicolon_symbol semicolon_symbol before t
  semicolon_decides [] inserted = passes (λ xs. whole xs)
  semicolon_decides [] (real t) = by (written_first (is_mark mark.Semicolon t.kind) t) where
    by : Decides bounds (tested (is_mark mark.Semicolon t.kind) t) (tested (is_mark mark.Semicolon t.kind) t) [] (real t) → Decides bounds semicolon_symbol semicolon_symbol [] (real t)
    by (stops mid a u v) = stops mid a u v
    by (barred v) = barred v
    by (passes u) = passes u
    by (limited u) = limited u
  semicolon_decides (inserted ∷ before) t = stops before tt (λ xs. refl) (λ xs. refl)
  semicolon_decides (real u ∷ before) t = by (written_decides (is_mark mark.Semicolon u.kind) u before t) where
    by : Decides bounds (tested (is_mark mark.Semicolon u.kind) u) (tested (is_mark mark.Semicolon u.kind) u) (real u ∷ before) t → Decides bounds semicolon_symbol semicolon_symbol (real u ∷ before) t
    by (stops mid a w v) = stops mid a w v
    by (barred v) = barred v
    by (passes w) = passes w
    by (limited w) = limited w

  pub alike_semicolon : Alike bounds semicolon_symbol semicolon_symbol
  alike_semicolon = record { decides = semicolon_decides; walks = semicolon_walks }

  pub alike_end : {A : Type 0} (a : A) → Alike bounds (λ i. and_then (semicolon_symbol i) (λ _ j. Ok (a, j))) (λ i. and_then (semicolon_symbol i) (λ _ j. Ok (a, j)))
  alike_end a = alike_after alike_semicolon (λ _. alike_pure a)

-- ---- behind a look ahead

-- Where it is read, it stands in the list.
pub data Near {A : Type 0} (j : Symbols) : Outcome Symbols A → Type 0 where
  unread : {x : Fault × Symbols} → Near j (Err x)
  there : {o : Outcome Symbols A} → Stands j o → Near j o

abbrev pub unless : {A : Type 0} → Place → Outcome Symbols Bool → Outcome Symbols A → Outcome Symbols A
unless place o u = r.unless_deleted Symbols look rest semicolon_symbol o place u

abbrev guarded : {A : Type 0} → Place → s.Reader Bool → s.Reader A → s.Reader A
guarded place la p i = unless place (la i) (p i)

near_ok : {A : Type 0} {j ys : Symbols} {a : A} {o : Outcome Symbols A} → o ≡ Ok (a, ys) → Near j o → Stands j o
near_ok e (unread {x}) = let no : Err x ≡ Ok _ = e in (cc)
near_ok e (there h) = h

module _ {A : Type 0} (place : Place) where
  err_unless : {o : Outcome Symbols Bool} (u : Outcome Symbols A) → IsErr o → IsErr (unless place o u)
  err_unless u is_err = is_err

  err_either : (o : Outcome Symbols Bool) {u : Outcome Symbols A} → IsErr u → IsErr (unless place o u)
  err_either (Ok (true, j)) h = is_err
  err_either (Ok (false, j)) h = h
  err_either (Err x) h = is_err

  stands_unless : (xs : Symbols) (o : Outcome Symbols Bool) (u : Outcome Symbols A) → Stands xs o → Stands xs u → Stands xs (unless place o u)
  stands_unless xs (Ok (true, j)) u h l = h
  stands_unless xs (Ok (false, j)) u h l = l
  stands_unless xs (Err x) u h l = h

  stands_near : (xs : Symbols) {ys : Symbols} {a : A} (o : Outcome Symbols Bool) {u : Outcome Symbols A} → u ≡ Ok (a, ys) → Stands xs o → ((j : Symbols) → o ≡ Ok (false, j) → Near j u) → Stands xs (unless place o u)
  stands_near xs (Ok (true, j)) e h f = h
  stands_near xs (Ok (false, j)) {u} e h f = farther u h (near_ok e (f j refl))
  stands_near xs (Err x) e h f = h

module _ {bounds : Bounds} {A : Type 0} (place : Place) where
  held_unless : {xs : Symbols} {o : Outcome Symbols Bool} (u : Outcome Symbols A) → Held bounds xs o → Held bounds xs (unless place o u)
  held_unless u (limit e) = limit e
  held_unless u (beyond h) = beyond h

  held_either : {xs : Symbols} (o : Outcome Symbols Bool) {u : Outcome Symbols A} → Stands xs o → Held bounds xs u → Held bounds xs (unless place o u)
  held_either (Ok (true, j)) h l = beyond h
  held_either (Ok (false, j)) h l = l
  held_either (Err x) h l = beyond h

  module _ (la lb : s.Reader Bool) (p q : s.Reader A) (near : (xs j : Symbols) → la xs ≡ Ok (false, j) → Near j (p xs)) where
    passed : (before : Symbols) (t : Symbol) → ((xs : Symbols) → Stands xs (la (before ++ t ∷ xs))) → Decides bounds p q before t → Decides bounds (guarded place la p) (guarded place lb q) before t
    passed before t u (passes w) = passes (λ xs. stands_unless place xs (la (before ++ t ∷ xs)) (p (before ++ t ∷ xs)) (u xs) (w xs))
    passed before t u (limited w) = limited (λ xs. held_either (la (before ++ t ∷ xs)) (u xs) (w xs))
    passed before t u (barred v) = barred (λ xs. err_either place (lb (before ++ t ∷ xs)) (v xs))
    passed before t u (stops mid a w v) = passes (λ xs. stands_near place xs (la (before ++ t ∷ xs)) (w xs) (u xs) (λ j e. near (before ++ t ∷ xs) j e))

    unhindered : (before : Symbols) (t : Symbol) → ((xs : Symbols) → guarded place la p (before ++ t ∷ xs) ≡ p (before ++ t ∷ xs)) → ((xs : Symbols) → guarded place lb q (before ++ t ∷ xs) ≡ q (before ++ t ∷ xs)) → Decides bounds p q before t → Decides bounds (guarded place la p) (guarded place lb q) before t
    unhindered before t d e (stops mid a u v) = stops mid a (λ xs. d xs ∙ u xs) (λ xs. e xs ∙ v xs)
    unhindered before t d e (barred v) = barred (λ xs. err_by (e xs) (v xs))
    unhindered before t d e (passes u) = passes (λ xs. stand_by xs (d xs) (u xs))
    unhindered before t d e (limited u) = limited (λ xs. held_by (d xs) (u xs))

    ahead : (before : Symbols) (t : Symbol) → Decides bounds la lb before t → Decides bounds p q before t → Decides bounds (guarded place la p) (guarded place lb q) before t
    ahead before t (stops mid true u v) w = barred (λ xs. err_by (ap (λ o. unless place o (q (before ++ t ∷ xs))) (v xs)) is_err)
    ahead before t (stops mid false u v) w = unhindered before t (λ xs. ap (λ o. unless place o (p (before ++ t ∷ xs))) (u xs)) (λ xs. ap (λ o. unless place o (q (before ++ t ∷ xs))) (v xs)) w
    ahead before t (barred v) w = barred (λ xs. err_unless place (q (before ++ t ∷ xs)) (v xs))
    ahead before t (limited u) w = limited (λ xs. held_unless (p (before ++ t ∷ xs)) (u xs))
    ahead before t (passes u) w = passed before t u w

    pub alike_unless : Alike bounds la lb → Alike bounds p q → Alike bounds (guarded place la p) (guarded place lb q)
    alike_unless l h = record {
      decides = λ before t. ahead before t (l.decides before t) (h.decides before t);
      walks = λ xs. stands_unless place xs (la xs) (p xs) (l.walks xs) (h.walks xs);
    }

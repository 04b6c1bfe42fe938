-- The look ahead behind `delete` answers of symbols as it answers of tokens, though semicolons are inserted.
use Rattle.std.specs.Prelude.{◌≡◌, ℕ, zero, suc, ◌+◌, ◌<◌, ◌≤◌, max, Bool, true, false, not, cond, nat_lt, List, [], ◌∷◌, map, Ok, Err, Option, Some, None, is_some, ◌⊎◌}
use Rattle.std.proofs.Common.{refl, sym, ap, arith, ◌∙◌, subst, inl, inr}
use Rattle.cc_ast.specs.declared.place.Place.{Place}
use Rattle.cc_lexer.specs.declared.token.Mark.TheVariants as mark
use Rattle.cc_grammar.specs.Symbols.{Kind, Lexeme, Symbols, real, inserted, look, rest, lexemes_of, is_mark}
use Rattle.cc_grammar.specs.Symbols as k
use Rattle.cc_grammar.specs.RawTree.{RawExpr}
use Rattle.cc_grammar.specs.Signs.{Prefix, is_variable, prefix_tree}
use Rattle.cc_grammar.specs.Signs as sign
use Rattle.cc_grammar.specs.Grammar.{E}
use Rattle.cc_grammar.specs.Reading.{Outcome, Fault, Sized, look_token, variable_of, goes_on, is_delete, is_remedy}
use Rattle.cc_grammar.specs.Reading as r
use Rattle.cc_grammar.proofs.Meets.{Done, ok, err, after, branch}
use Rattle.cc_grammar.proofs.Meets as meets
use Rattle.cc_grammar.proofs.Views.{mark_true, remedy_true}
use Rattle.cc_grammar.proofs.Marked.{In, consumed}
use Rattle.cc_grammar.proofs.Shrinks.{reals}
use Rattle.cc_grammar.proofs.Alikeness.Alike.{is_limit}
use Rattle.cc_grammar.proofs.Ahead.{Spared, spared, remedied}
use Rattle.cc_grammar.proofs.Soundness.SoundParts.{SoundInner}
use Rattle.cc_grammar.proofs.Completeness.CompleteOperators.{deletes_no_variable}
use Rattle.cc_grammar.proofs.Copying.Copies.{L, Copy, end, take, insert, put, Each, each_map, Late, look_real}
use Rattle.cc_grammar.proofs.OnSymbols as s
use Rattle.cc_grammar.proofs.OnTokens as t

-- The tokens, with semicolons inserted only behind a brace.
pub data Plain : L → Symbols → Type 0 where
  nothing_left : Plain [] []
  next : {us : L} {xs : Symbols} (t : Lexeme) → Plain us xs → Plain (t ∷ us) (real t ∷ xs)
  behind_brace : {us : L} {xs : Symbols} (t : Lexeme) → is_mark mark.OpenBrace t.kind ≡ true → Plain (t ∷ us) (real t ∷ xs)

pub plain_real : (us : L) → Plain us (map real us)
plain_real [] = nothing_left
plain_real (t ∷ us) = next t (plain_real us)

pub plain_put : {ts us : L} (w : Copy ts us) → Late w → Plain ts (put w (map real us))
plain_put (end {us}) h = plain_real us
plain_put (take t w) (inl b) = behind_brace t b
plain_put (take t w) (inr h) = next t (plain_put w h)
plain_put (insert o w) h = absurd h

each_all : {ts us : L} (P : L → Symbols → Type 0) (w : Copy ts us) → ((vs : L) (xs : Symbols) → P vs xs) → Each P w
each_all P end f = tt
each_all P (take t w) f = each_all (λ vs xs. P vs (real t ∷ xs)) w (λ vs xs. f vs (real t ∷ xs))
each_all P (insert {ts} o w) f = (f ts (map real ts), each_all (λ vs xs. P vs (inserted ∷ xs)) w (λ vs xs. f vs (inserted ∷ xs)))

pub each_plain : {ts us : L} (w : Copy ts us) → Late w → Each (λ vs xs. Plain ts xs) w
each_plain end h = tt
each_plain (take {ts} t w) (inl b) = each_all (λ vs xs. Plain (t ∷ ts) (real t ∷ xs)) w (λ vs xs. behind_brace t b)
each_plain (take {ts} t w) (inr h) = each_map (λ vs xs. Plain ts xs) (λ vs xs. Plain (t ∷ ts) (real t ∷ xs)) w (λ vs xs p. next t p) (each_plain w h)
each_plain (insert o w) h = absurd h

-- ---- the answer that no variable is deleted

pub data Answers (b : Bool) : Outcome Symbols Bool → Type 0 where
  answers : {i : Symbols} → Answers b (Ok (b, i))

differ : {A E : Type 0} {a : A} {x : E} → ◌≡◌ {A = Rattle.std.specs.Prelude.Result A E} (Err x) (Ok a) → ⊥
differ e = cc

answer : {b c : Bool} {us vs : L} → ◌≡◌ {A = Outcome L Bool} (Ok (b, us)) (Ok (c, vs)) → b ≡ c
answer {b} {c} {us} {vs} e = let pairs : ◌≡◌ {A = Bool × L} (b, us) (c, vs) = cc in ap (λ (p : Bool × L). p.0) pairs

told : {b c : Bool} {i : Symbols} → b ≡ c → Answers c (Ok (b, i))
told {c} {i} e = subst (λ x. Answers c (Ok (x, i))) (sym e) answers

-- a choice by the same token
choose : (K : Outcome Symbols Bool → Type 0) (b : Bool) (p q : Symbols → Outcome Symbols Bool) (P Q : L → Outcome L Bool) {us vs : L} {xs : Symbols} → (b ≡ true → P us ≡ Ok (false, vs) → K (p xs))
    → (b ≡ false → Q us ≡ Ok (false, vs) → K (q xs)) → cond b P Q us ≡ Ok (false, vs) → K (cond b p q xs)
choose K true p q P Q f h e = f refl e
choose K false p q P Q f h e = h refl e

no_paren : (x : Kind) → is_mark mark.OpenBrace x ≡ true → is_mark mark.CloseParen x ≡ true → ⊥
no_paren x b e = let two : true ≡ false = sym e ∙ ap (is_mark mark.CloseParen) (mark_true mark.OpenBrace x b) in (cc)

no_opening : (x : Kind) → is_mark mark.OpenBrace x ≡ true → is_mark mark.OpenParen x ≡ true → ⊥
no_opening x b e = let two : true ≡ false = sym e ∙ ap (is_mark mark.OpenParen) (mark_true mark.OpenBrace x b) in (cc)

no_name : (x : Kind) → is_mark mark.OpenBrace x ≡ true → is_some (variable_of x) ≡ true → ⊥
no_name x b e = let two : true ≡ false = sym e ∙ ap (λ y. is_some (variable_of y)) (mark_true mark.OpenBrace x b) in (cc)

closed_plain : (m : ℕ) {us vs : L} {xs : Symbols} → Plain us xs → t.closed m us ≡ Ok (false, vs) → Answers false (s.closed m xs)
unfolding r.closed
closed_plain zero nothing_left e = told (answer e)
closed_plain zero (next w p) e = told (answer e)
closed_plain zero (behind_brace w b) e = told (answer e)
closed_plain (suc m) nothing_left e = answers
closed_plain (suc m) (next w p) e = choose (Answers false) (is_mark mark.CloseParen w.kind) _ _ _ _ (λ _ f. closed_plain m p f) (λ _ _. answers) e
closed_plain (suc m) (behind_brace w b) e = choose (Answers false) (is_mark mark.CloseParen w.kind) _ _ _ _ (λ q _. absurd (no_paren w.kind b q)) (λ _ _. answers) e

pub opened_plain : (m count : ℕ) {us vs : L} {xs : Symbols} → Plain us xs → t.opened m count us ≡ Ok (false, vs) → Answers false (s.opened m count xs)
unfolding r.opened
opened_plain zero count p e = absurd (differ e)
opened_plain (suc m) count nothing_left e = answers
opened_plain (suc m) count (next w p) e = choose (Answers false) (is_mark mark.OpenParen w.kind) _ _ _ _ (λ _ f. opened_plain m (suc count) p f)
    (λ _ f. choose (Answers false) (is_some (variable_of w.kind)) _ _ _ _ (λ _ f. closed_plain count p f) (λ _ _. answers) f) e
opened_plain (suc m) count (behind_brace w b) e = choose (Answers false) (is_mark mark.OpenParen w.kind) _ _ _ _ (λ q _. absurd (no_opening w.kind b q))
    (λ _ f. choose (Answers false) (is_some (variable_of w.kind)) _ _ _ _ (λ q _. absurd (no_name w.kind b q)) (λ _ _. answers) f) e

-- ---- it answers of symbols where it answers of tokens

data Tells : Outcome Symbols Bool → Type 0 where
  tells : {b : Bool} {i : Symbols} → Tells (Ok (b, i))

either : (b : Bool) (p q : Symbols → Outcome Symbols Bool) {xs : Symbols} → (b ≡ true → Tells (p xs)) → (b ≡ false → Tells (q xs)) → Tells (cond b p q xs)
either true p q f h = f refl
either false p q f h = h refl

closed_tells : (m : ℕ) (xs : Symbols) → Tells (s.closed m xs)
unfolding r.closed
closed_tells zero xs = tells
closed_tells (suc m) xs = either (is_mark mark.CloseParen (look xs).kind) _ _ (λ _. closed_tells m (rest xs)) (λ _. tells)

either_both : (b : Bool) (p q : Symbols → Outcome Symbols Bool) (P Q : L → Outcome L Bool) {us : L} {x : Bool × L} {xs : Symbols} → (P us ≡ Ok x → Tells (p xs)) → (Q us ≡ Ok x → Tells (q xs)) → cond b P Q us ≡ Ok x → Tells (cond b p q xs)
either_both true p q P Q f h e = f e
either_both false p q P Q f h e = h e

opened_tells : (m count : ℕ) (xs : Symbols) {x : Bool × L} → t.opened m count (lexemes_of xs) ≡ Ok x → Tells (s.opened m count xs)
unfolding r.opened
opened_tells zero count xs e = absurd (differ e)
opened_tells (suc m) count [] e = tells
opened_tells (suc m) count (inserted ∷ xs) e = tells
opened_tells (suc m) count (real w ∷ xs) e = either_both (is_mark mark.OpenParen w.kind) _ _ _ _ (λ f. opened_tells m (suc count) xs f)
    (λ _. either (is_some (variable_of w.kind)) _ _ (λ _. closed_tells count xs) (λ _. tells)) e

-- with more turns it answers the same
same_either : (b : Bool) (p q P Q : Symbols → Outcome Symbols Bool) {xs : Symbols} {x : Bool × Symbols} → (p xs ≡ Ok x → P xs ≡ Ok x) → (q xs ≡ Ok x → Q xs ≡ Ok x) → cond b p q xs ≡ Ok x → cond b P Q xs ≡ Ok x
same_either true p q P Q f h e = f e
same_either false p q P Q f h e = h e

opened_more : (m o count : ℕ) (xs : Symbols) {x : Bool × Symbols} → m ≤ o → s.opened m count xs ≡ Ok x → s.opened o count xs ≡ Ok x
unfolding r.opened
opened_more zero o count xs le e = absurd (differ e)
opened_more (suc m) zero count xs le e = absurd (omega arith)
opened_more (suc m) (suc o) count xs le e = same_either (is_mark mark.OpenParen (look xs).kind) _ _ _ _ (λ f. opened_more m o (suc count) (rest xs) (omega arith) f) (λ f. f) e

same_answer : {b c : Bool} {i j : Symbols} {o : Outcome Symbols Bool} → o ≡ Ok (b, i) → o ≡ Ok (c, j) → b ≡ c
same_answer {b} {c} {i} {j} e f = let both : ◌≡◌ {A = Outcome Symbols Bool} (Ok (b, i)) (Ok (c, j)) = sym e ∙ f in let pairs : ◌≡◌ {A = Bool × Symbols} (b, i) (c, j) = cc in ap (λ (p : Bool × Symbols). p.0) pairs

by_spared : (m : ℕ) (xs : Symbols) (o : Outcome Symbols Bool) → s.opened m 0 xs ≡ o → Tells o → ((n : ℕ) → reals xs < n → Spared n xs) → Answers false o
by_spared m xs o e (tells {b} {i}) f = let n = max m (reals xs + 1) in let p = f n (omega arith) in told (same_answer (opened_more m n 0 xs (omega arith) e) p.is)

-- where it answers of the tokens, and a variable would not be read
pub opened_spared : (m : ℕ) (xs : Symbols) {x : Bool × L} → t.opened m 0 (lexemes_of xs) ≡ Ok x → ((n : ℕ) → reals xs < n → Spared n xs) → Answers false (s.opened m 0 xs)
opened_spared m xs e f = by_spared m xs (s.opened m 0 xs) refl (opened_tells m 0 xs e) f

-- ---- where an insertion stands behind the last token

-- it denies, or accepts at the insertion
pub data AtLast (xs : Symbols) : Outcome Symbols Bool → Type 0 where
  denied : {i : Symbols} → AtLast xs (Ok (false, i))
  accepted : AtLast xs (Ok (true, inserted ∷ xs))

denied_by : {b : Bool} {i xs : Symbols} → b ≡ false → AtLast xs (Ok (b, i))
denied_by {i} {xs} e = subst (λ x. AtLast xs (Ok (x, i))) (sym e) denied

closed_last : (m : ℕ) {us vs os : L} (v : Copy us vs) → Late v → t.closed m us ≡ Ok (false, os) → AtLast (map real vs) (s.closed m (put v (inserted ∷ map real vs)))
unfolding r.closed
closed_last zero end l e = accepted
closed_last (suc m) end l e = denied
closed_last m (insert o v) l e = absurd l
closed_last zero (take w v) l e = denied_by (answer e)
closed_last (suc m) {vs} (take w v) (inl b) e = choose (AtLast (map real vs)) (is_mark mark.CloseParen w.kind) _ _ _ _ (λ q _. absurd (no_paren w.kind b q)) (λ _ _. denied) e
closed_last (suc m) {vs} (take w v) (inr l) e = choose (AtLast (map real vs)) (is_mark mark.CloseParen w.kind) _ _ _ _ (λ _ f. closed_last m v l f) (λ _ _. denied) e

pub opened_last : (m count : ℕ) {us vs os : L} (v : Copy us vs) → Late v → t.opened m count us ≡ Ok (false, os) → AtLast (map real vs) (s.opened m count (put v (inserted ∷ map real vs)))
unfolding r.opened
opened_last zero count v l e = absurd (differ e)
opened_last (suc m) count end l e = denied
opened_last (suc m) count (insert o v) l e = absurd l
opened_last (suc m) count {vs} (take w v) (inl b) e = choose (AtLast (map real vs)) (is_mark mark.OpenParen w.kind) _ _ _ _ (λ q _. absurd (no_opening w.kind b q))
    (λ _ f. choose (AtLast (map real vs)) (is_some (variable_of w.kind)) _ _ _ _ (λ q _. absurd (no_name w.kind b q)) (λ _ _. denied) f) e
opened_last (suc m) count {vs} (take w v) (inr l) e = choose (AtLast (map real vs)) (is_mark mark.OpenParen w.kind) _ _ _ _ (λ _ f. opened_last m (suc count) v l f)
    (λ _ f. choose (AtLast (map real vs)) (is_some (variable_of w.kind)) _ _ _ _ (λ _ f. closed_last count v l f) (λ _ _. denied) f) e

-- ---- where it answers that a variable is deleted, or comes to a limit

abbrev pub Takes : {ts us : L} → Copy ts us → Type 0
Takes end = Unit {0}
Takes (take t w) = Takes w
Takes (insert o w) = ⊥

pub each_takes : {ts us : L} (P : L → Symbols → Type 0) (w : Copy ts us) → Takes w → Each P w
each_takes P end h = tt
each_takes P (take t w) h = each_takes (λ vs xs. P vs (real t ∷ xs)) w h
each_takes P (insert o w) h = absurd h

pub late_takes : {ts us : L} (w : Copy ts us) → Takes w → Late w
late_takes end h = tt
late_takes (take t w) h = inr (late_takes w h)
late_takes (insert o w) h = absurd h

pub data Looks (q : Symbols → Outcome Symbols Bool) (ts : L) : Outcome L Bool → Type 0 where
  found : {us : L} (w : Copy ts us) → Takes w → q (put w (map real us)) ≡ Ok (true, map real us) → q (put w (inserted ∷ map real us)) ≡ Ok (true, inserted ∷ map real us) → Looks q ts (Ok (true, us))
  other : {us : L} → Looks q ts (Ok (false, us))
  spends : {c : Fault} {us : L} (w : Copy ts us) → Takes w → q (put w (map real us)) ≡ Err (c, map real us) → is_limit c.cause ≡ true → Looks q ts (Err (c, us))

looks_on : {q : Symbols → Outcome Symbols Bool} {us : L} {o : Outcome L Bool} (t : Lexeme) → Looks (λ xs. q (real t ∷ xs)) us o → Looks q (t ∷ us) o
looks_on t (found w h e f) = found (take t w) h e f
looks_on t other = other
looks_on t (spends w h e l) = spends (take t w) h e l

looks_split : (b : Bool) (p q : Symbols → Outcome Symbols Bool) (P Q : L → Outcome L Bool) {f : Symbols → Symbols} {ts us : L} → (b ≡ true → Looks (λ xs. p (f xs)) ts (P us)) → (b ≡ false → Looks (λ xs. q (f xs)) ts (Q us))
    → Looks (λ xs. cond b p q (f xs)) ts (cond b P Q us)
looks_split true p q P Q f h = f refl
looks_split false p q P Q f h = h refl

closed_looks : (m : ℕ) (ts : L) → Looks (s.closed m) ts (t.closed m ts)
unfolding r.closed
closed_looks zero ts = by (goes_on (look_token ts)) refl where
  by : (b : Bool) → goes_on (look_token ts) ≡ b → Looks (λ xs. Ok (not (goes_on (look xs)), xs)) ts (Ok (not b, ts))
  by true e = other
  by false e = found end tt (ap (λ w. Ok (not (goes_on w), map real ts)) (look_real ts) ∙ ap (λ b. Ok (not b, map real ts)) e) refl
closed_looks (suc m) [] = other
closed_looks (suc m) (w ∷ us) = looks_on w (looks_split (is_mark mark.CloseParen w.kind) _ _ _ _ (λ _. closed_looks m us) (λ _. other))

pub opened_looks : (m count : ℕ) (ts : L) → Looks (s.opened m count) ts (t.opened m count ts)
unfolding r.opened
opened_looks zero count ts = spends end tt (ap (λ w. Err (record { cause = r.spent; place = w.place }, map real ts)) (look_real ts)) refl
opened_looks (suc m) count [] = other
opened_looks (suc m) count (w ∷ us) = looks_on w (looks_split (is_mark mark.OpenParen w.kind) _ _ _ _ (λ _. opened_looks m (suc count) us)
    (λ _. looks_split (is_some (variable_of w.kind)) _ _ _ _ (λ _. closed_looks count us) (λ _. other)))

-- ---- `delete`

-- No variable is read as the operand.
pub delete_spares : (d turns : ℕ) (inner : In) (sound : SoundInner d inner) (n : Bool) (o : Prefix) (w : Lexeme) (xs : Symbols) → is_delete o ≡ true
    → Done (λ _ _. (m : ℕ) → reals xs < m → Spared m xs) (s.prefix_expr d turns inner n o (real w ∷ xs))
unfolding r.prefix_expr
delete_spares d turns inner sound n o w xs e = after (sound.expr n 13 xs (omega arith)) (λ a ys p. by a ys p.0.whole.tree (prefix_tree o w.place a.0) refl) where
  refused : (o : Prefix) (p : Place) (ys : Symbols) → Done (λ _ _. (m : ℕ) → reals xs < m → Spared m xs) (s.wrong_prefix d turns inner o p ys)
  refused (sign.step up) p ys = err
  refused (sign.unary o) p ys = err

  by : (a : Sized RawExpr) (ys : Symbols) → E a.1 n 13 xs a.0 ys → (f : Option RawExpr) → prefix_tree o w.place a.0 ≡ f → Done (λ _ _. (m : ℕ) → reals xs < m → Spared m xs) (s.prefix_by d turns inner o w.place a f ys)
  by a ys x (Some f) q = ok (λ m lt. spared m lt x (λ v. absurd (deletes_no_variable o w.place a.0 f e q v)))
  by a ys x None q = meets.fork (is_remedy (look ys).kind) _ _ (λ z. ok (λ m lt. spared m lt x (λ _. remedied (consumed ys (k.due k.remedy) refl (remedy_true _ z))))) (λ _. refused o w.place ys)

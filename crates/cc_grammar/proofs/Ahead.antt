-- The look ahead behind `delete` tells whether the whole operand is a variable.
use Rattle.std.specs.Prelude.{◌≡◌, ℕ, zero, suc, ◌<◌, ◌≤◌, Bool, true, false, not, cond, ◌||◌, ◌&&◌, is_some, Ok, Err, Option, Some, None}
use Rattle.std.proofs.Common.{refl, ap, arith, ◌∙◌}
use Rattle.cc_ast.specs.Syntax.{Prim}
use Rattle.cc_ast.specs.declared.place.Place.{Place}
use Rattle.cc_lexer.specs.declared.token.Mark.TheVariants as mark
use Rattle.cc_grammar.specs.Symbols.{Kind, Symbols, look, rest, is_mark}
use Rattle.cc_grammar.specs.Symbols as k
use Rattle.cc_grammar.specs.RawTree.{RawExpr}
use Rattle.cc_grammar.specs.RawTree as raw
use Rattle.cc_grammar.specs.Signs.{Prefix, Infix, is_variable, parenthesised, literal_of, prefix_of, step_of}
use Rattle.cc_grammar.specs.Grammar as g
use Rattle.cc_grammar.specs.Grammar.{E, At, Sign}
use Rattle.cc_grammar.specs.Reading.{Outcome, goes_on, is_remedy, variable_of}
use Rattle.cc_grammar.specs.Reading as r
use Rattle.cc_grammar.proofs.Mono.{bounded}
use Rattle.cc_grammar.proofs.Shrinks.{reals, at_less}
use Rattle.cc_grammar.proofs.Steps.{kind_at, rest_at, mark_at, table_at, variable_at, variable_rest, chosen_at, skipped_at}
use Rattle.cc_grammar.proofs.Firsts.{not_in_table}
use Rattle.cc_grammar.proofs.OnSymbols as s

-- what goes on with an operand, by its kind and its line
abbrev going : Kind → Bool → Bool
going x line = is_mark mark.Dot x || is_mark mark.OpenBracket x || is_mark mark.OpenParen x || (is_some (step_of x) && not line) || is_remedy x

going_at : {x : Kind} {xs ys : Symbols} → At x xs ys → going x (look xs).after_line ≡ true → goes_on (look xs) ≡ true
going_at {xs} c e = ap (λ y. going y (look xs).after_line) (kind_at c) ∙ e

going_step : (x : Kind) (b : Bool) → step_of x ≡ Some b → going x false ≡ true
going_step (k.mark mark.PlusPlus) b e = refl
going_step (k.mark mark.MinusMinus) b e = refl
going_step _ b e = cc

stepping : {x : Kind} {b : Bool} {xs ys : Symbols} → At x xs ys → step_of x ≡ Some b → (look xs).after_line ≡ false → goes_on (look xs) ≡ true
stepping {x} {b} c e line = going_at c (ap (going x) line ∙ going_step x b e)

pub remedied : {xs ys : Symbols} → At (k.due k.remedy) xs ys → goes_on (look xs) ≡ true
remedied c = going_at c refl

-- what the look ahead answers at an expression
data Ahead (count : ℕ) (e : RawExpr) (ys : Symbols) (o : Outcome Symbols Bool) : Type 0 where
  other : {i : Symbols} → o ≡ Ok (false, i) → Ahead count e ys o
  variable : is_variable e ≡ true → o ≡ s.closed count ys → Ahead count e ys o

fence : (count : ℕ) (ys : Symbols) → (count ≡ 0 → goes_on (look ys) ≡ true) → is_mark mark.CloseParen (look ys).kind ≡ false → s.closed count ys ≡ Ok (false, ys)
unfolding r.closed
fence zero ys f e = ap (λ b. Ok (not b, ys)) (f refl)
fence (suc m) ys f e = skipped_at (is_mark mark.CloseParen (look ys).kind) _ _ e refl

past : {count : ℕ} {e f : RawExpr} {ys zs : Symbols} {o : Outcome Symbols Bool} → Ahead count e ys o → s.closed count ys ≡ Ok (false, ys) → Ahead count f zs o
past (other q) c = other q
past (variable v q) c = other (q ∙ c)

pub close_step : (m : ℕ) {xs ys : Symbols} → Sign mark.CloseParen xs ys → s.closed (suc m) xs ≡ s.closed m ys
unfolding r.closed
close_step m c = chosen_at _ _ _ (mark_at c) (ap (s.closed m) (rest_at c))

cast_variable : (b : Bool) (p : Place) (e : RawExpr) → is_variable (cond b (raw.cast p e) e) ≡ is_variable e
cast_variable true p e = refl
cast_variable false p e = refl

no_variable : (x : Kind) (p : Prim) → literal_of x ≡ Some p → is_some (variable_of x) ≡ false
no_variable (k.name n) p e = cc
no_variable (k.due k.variable) p e = cc
no_variable _ p e = refl

prefix_no_variable : (x : Kind) (o : Prefix) → prefix_of x ≡ Some o → is_some (variable_of x) ≡ false
prefix_no_variable (k.name n) o e = cc
prefix_no_variable (k.due k.variable) o e = cc
prefix_no_variable _ o e = refl

-- It begins with neither a parenthesis nor a variable.
other_at : (m count : ℕ) {x : Kind} {e : RawExpr} {xs ys zs : Symbols} → At x xs ys → is_mark mark.OpenParen x ≡ false → is_some (variable_of x) ≡ false → Ahead count e zs (s.opened (suc m) count xs)
unfolding r.opened
other_at m count {xs} c f n = other (skipped_at (is_mark mark.OpenParen (look xs).kind) _ _ (ap (is_mark mark.OpenParen) (kind_at c) ∙ f) (skipped_at (is_some (variable_of (look xs).kind)) _ _ (table_at (λ x. is_some (variable_of x)) c ∙ n) refl))

pub at_variable : (m count : ℕ) {v : Rattle.std.specs.Prelude.List ℕ} {xs ys : Symbols} → g.Variable xs v ys → s.opened (suc m) count xs ≡ s.closed count ys
unfolding r.opened
at_variable m count {v} {xs} x = skipped_at (is_mark mark.OpenParen (look xs).kind) _ _ (not_in_table variable_of mark.OpenParen (look xs).kind v refl (variable_at x))
    (chosen_at (is_some (variable_of (look xs).kind)) _ _ (ap is_some (variable_at x)) (ap (s.closed count) (variable_rest x)))

pub open_step : (m count : ℕ) {xs ys : Symbols} → Sign mark.OpenParen xs ys → s.opened (suc m) count xs ≡ s.opened m (suc count) ys
unfolding r.opened
open_step m count c = chosen_at _ _ _ (mark_at c) (ap (s.opened m (suc count)) (rest_at c))

in_parentheses : {count : ℕ} {e : RawExpr} {zs ws : Symbols} {o u : Outcome Symbols Bool} (b : Bool) (p : Place) → o ≡ u → Ahead (suc count) e zs u → Sign mark.CloseParen zs ws → Ahead count (cond b (raw.cast p e) e) ws o
in_parentheses b p q (other f) c = other (q ∙ f)
in_parentheses {count} {e} b p q (variable v f) c = variable (cast_variable b p e ∙ v) (q ∙ f ∙ close_step count c)

no_close : {x : Kind} {xs ys : Symbols} → At x xs ys → is_mark mark.CloseParen x ≡ false → is_mark mark.CloseParen (look xs).kind ≡ false
no_close c f = ap (is_mark mark.CloseParen) (kind_at c) ∙ f

ahead : (m count : ℕ) {h l : ℕ} {n : Bool} {e : RawExpr} {xs ys : Symbols} → reals xs < m → (count ≡ 0 → 13 ≤ l) → E h n l xs e ys → Ahead count e ys (s.opened m count xs)
ahead zero count lt f x = absurd (omega arith)
ahead (suc m) count lt f (g.this c) = other_at m count c refl refl
ahead (suc m) count lt f (g.name v) = variable refl (at_variable m count v)
ahead (suc m) count lt f (g.literal {x} {p} c q) = other_at m count c (not_in_table literal_of mark.OpenParen x p refl q) (no_variable x p q)
ahead (suc m) count lt f (g.operand c) = other_at m count c refl refl
ahead (suc m) count lt f (g.paren {xs} lu o x c) = in_parentheses (look xs).noted (look xs).place (open_step m count o) (ahead m (suc count) (omega (arith, at_less o)) (λ z. absurd (omega arith)) x) c
ahead (suc m) count lt f (g.array lu o x) = other_at m count o refl refl
ahead (suc m) count lt f (g.object lu o x) = other_at m count o refl refl
ahead (suc m) count lt f (g.function lu o x c) = other_at m count o refl refl
ahead (suc m) count lt f (g.dotted {ys} c v lu x o p q) = past (ahead (suc m) count lt (λ z. omega (arith, f z)) x) (fence count ys (λ _. going_at o refl) (no_close o refl))
ahead (suc m) count lt f (g.bracketed {ys} c v lu lv x o y p) = past (ahead (suc m) count lt (λ z. omega (arith, f z)) x) (fence count ys (λ _. going_at o refl) (no_close o refl))
ahead (suc m) count lt f (g.call {ys} v lu lv x o y) = past (ahead (suc m) count lt (λ z. omega arith) x) (fence count ys (λ _. going_at o refl) (no_close o refl))
ahead (suc m) count lt f (g.new_call v lu lv o x p y) = other_at m count o refl refl
ahead (suc m) count lt f (g.new v i lu o x) = other_at m count o refl refl
ahead (suc m) count lt f (g.postfix {up} {x = w} {ys} v lu x t a o p) = past (ahead (suc m) count lt (λ z. omega arith) x) (fence count ys (λ _. stepping o p a) (no_close o (not_in_table step_of mark.CloseParen w up refl p)))
ahead (suc m) count lt f (g.prefix {x} {o} v lu c p y t) = other_at m count c (not_in_table prefix_of mark.OpenParen x o refl p) (prefix_no_variable x o p)
ahead (suc m) count lt f (g.wrong_prefix {x} {o} v lu c p y t u) = other_at m count c (not_in_table prefix_of mark.OpenParen x o refl p) (prefix_no_variable x o p)
ahead (suc m) count lt f (g.binary {n} {x = w} {o = q} {ys} v lu lv x o p y) =
    past (ahead (suc m) count lt (λ z. absurd (omega (arith, f z, bounded q))) x) (fence count ys (λ z. absurd (omega (arith, f z, bounded q))) (no_close o (not_in_table (Rattle.cc_grammar.specs.Signs.infix_of n) mark.CloseParen w q refl p)))
ahead (suc m) count lt f (g.conditional {ys} v lu lv lw x o y p z) = past (ahead (suc m) count lt (λ z. absurd (omega (arith, f z))) x) (fence count ys (λ z. absurd (omega (arith, f z))) (no_close o refl))
ahead (suc m) count lt f (g.assign {x = w} {o = q} {ys} v lu lv x t o p y) =
    past (ahead (suc m) count lt (λ z. absurd (omega (arith, f z))) x) (fence count ys (λ z. absurd (omega (arith, f z))) (no_close o (not_in_table Rattle.cc_grammar.specs.Signs.assign_of mark.CloseParen w q refl p)))
ahead (suc m) count lt f (g.comma {ys} lu lv x o y) = past (ahead (suc m) count lt (λ z. absurd (omega (arith, f z))) x) (fence count ys (λ z. absurd (omega (arith, f z))) (no_close o refl))

-- no variable is deleted
pub record Spared (m : ℕ) (xs : Symbols) : Type 0 where
  pub where_it_ends : Symbols
  pub is : s.opened m 0 xs ≡ Ok (false, where_it_ends)

pub spared : (m : ℕ) {h : ℕ} {n : Bool} {e : RawExpr} {xs ys : Symbols} → reals xs < m → E h n 13 xs e ys → (is_variable e ≡ true → goes_on (look ys) ≡ true) → Spared m xs
unfolding r.closed
spared m {e} {xs} {ys} lt x f = by (ahead m 0 lt (λ _. omega arith) x) where
  by : Ahead 0 e ys (s.opened m 0 xs) → Spared m xs
  by (other {i} q) = record { where_it_ends = i; is = q }
  by (variable v q) = record { where_it_ends = ys; is = q ∙ ap (λ b. Ok (not b, ys)) (f v) }

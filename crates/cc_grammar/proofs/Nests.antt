-- The look ahead behind `delete` finds a variable in parentheses, and tells by the next symbol whether it is the whole operand.
use Rattle.std.specs.Prelude.{◌≡◌, ℕ, zero, suc, ◌<◌, not, Bool, true, false, Ok}
use Rattle.std.proofs.Common.{refl, sym, ap, ◌∙◌, arith}
use Rattle.cc_grammar.specs.Symbols.{Symbols, look}
use Rattle.cc_grammar.specs.Reading.{Outcome, goes_on}
use Rattle.cc_grammar.specs.Reading as r
use Rattle.cc_grammar.proofs.Ahead.{close_step, open_step, at_variable}
use Rattle.cc_grammar.proofs.Deletions.{Closers, closed_all, close_one, Nest, bare, nested}
use Rattle.cc_grammar.proofs.Shrinks.{reals, at_less}
use Rattle.cc_grammar.proofs.OnSymbols as s

closers_closed : {m : ℕ} {xs ys : Symbols} → Closers m xs ys → s.closed m xs ≡ Ok (not (goes_on (look ys)), ys)
unfolding r.closed
closers_closed closed_all = refl
closers_closed (close_one {m} c h) = close_step m c ∙ closers_closed h

pub nest_opened : (m : ℕ) {count : ℕ} {xs ys : Symbols} → reals xs < m → Nest count xs ys → s.opened m count xs ≡ Ok (not (goes_on (look ys)), ys)
nest_opened zero lt n = absurd (omega arith)
nest_opened (suc m) lt (bare {m = count} v h) = at_variable m count v ∙ closers_closed h
nest_opened (suc m) {count} lt (nested c n) = open_step m count c ∙ nest_opened m (omega (arith, at_less c)) n

not_false : (b : Bool) → not b ≡ false → b ≡ true
not_false true e = refl
not_false false e = sym e

value_is : (a b : Bool) (xs ys : Symbols) → ◌≡◌ {A = Outcome Symbols Bool} (Ok (a, xs)) (Ok (b, ys)) → a ≡ b
value_is a b xs ys e = let pairs : ◌≡◌ {A = Bool × Symbols} (a, xs) (b, ys) = cc in ap (λ (p : Bool × Symbols). p.0) pairs

-- Behind each such variable an operand goes on.
abbrev pub Spares : Symbols → Type 0
Spares xs = (ys : Symbols) → Nest 0 xs ys → goes_on (look ys) ≡ true

-- where the look ahead finds none
pub nothing_deleted : (m : ℕ) {xs ys : Symbols} → reals xs < m → s.opened m 0 xs ≡ Ok (false, ys) → Spares xs
nothing_deleted m {ys} lt e zs n = not_false (goes_on (look zs)) (value_is (not (goes_on (look zs))) false zs ys (sym (nest_opened m lt n) ∙ e))

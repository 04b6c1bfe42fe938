-- Globals that no chunk declares: the extern ones, and then those that are built in.
use Rattle.std.proofs.Common.{◌≡◌, ℕ, zero, suc, ◌-◌, ◌<◌, ◌≤◌, Bool, true, false, is_some, List, ◌∷◌, ◌+◌, refl, ap, ◌∙◌, sym, arith}
use Rattle.std.proofs.lemmas.Bool.{lt-ltb, le-ltb}
use Rattle.cc_ast.specs.declared.tables.GlobalInfo.{GlobalInfo}
use Rattle.cc_meaning.specs.Monad.{pick}
use Rattle.cc_meaning.specs.Store.{Built, extern, built_in, built_number, outer_global, without_chunk, object_global, math_global, string_global}

pub outer-extern : (e n : ℕ) → n < e → extern ≡ outer_global e n
unfolding outer_global
outer-extern e n h = sym (ap (λ (b : Bool). pick b extern (built_in (built_number (n - e)))) (lt-ltb n e h))

pub outer-built : (e n : ℕ) (b : Built) → e ≤ n → b ≡ built_number (n - e) → built_in b ≡ outer_global e n
unfolding outer_global
outer-built e n b h is = ap (λ (x : Built). built_in x) is ∙ sym (ap (λ (x : Bool). pick x extern (built_in (built_number (n - e)))) (le-ltb n e h))

pub first-built : (k : ℕ) → k ≡ 0 → object_global ≡ built_number k
unfolding built_number
first-built k e = sym (ap built_number e)

pub second-built : (k : ℕ) → k ≡ 1 → math_global ≡ built_number k
unfolding built_number
second-built k e = sym (ap built_number e)

pub later-built : (k : ℕ) → (k ≡ 0 → ⊥) → (k ≡ 1 → ⊥) → string_global ≡ built_number k
unfolding built_number
later-built zero a b = absurd (a refl)
later-built (suc zero) a b = absurd (b refl)
later-built (suc (suc k)) a b = refl

pub counts-more : (g : GlobalInfo) (gs : List GlobalInfo) → is_some g.chunk ≡ false → without_chunk (g ∷ gs) ≡ 1 + without_chunk gs
unfolding without_chunk
counts-more g gs e = let h : without_chunk (g ∷ gs) ≡ suc (without_chunk gs) = ap (λ (b : Bool). pick b (without_chunk gs) (suc (without_chunk gs))) e in omega (arith, h)

pub counts-same : (g : GlobalInfo) (gs : List GlobalInfo) → is_some g.chunk ≡ true → without_chunk (g ∷ gs) ≡ without_chunk gs
unfolding without_chunk
counts-same g gs e = ap (λ (b : Bool). pick b (without_chunk gs) (suc (without_chunk gs))) e

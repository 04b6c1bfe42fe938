-- Chains of extends.
use Rattle.std.proofs.Common.{◌≡◌, ℕ, zero, suc, Bool, true, false, ◌||◌, nat_eq, List, Option, Some, None, slice_get, refl, ap, ◌∙◌}
use Rattle.cc_ast.specs.declared.tables.Class.{Class}
use Rattle.cc_types.specs.Types.{extended_by, extends_within}

pub within-here : (n : ℕ) (cs : List Class) (a b : ℕ) → nat_eq a b ≡ true → extends_within n cs (Some a) b ≡ true
unfolding extends_within
within-here zero cs a b h = h
within-here (suc n) cs a b h = ap (λ (t : Bool). t || extends_within n cs (extended_by (slice_get cs a)) b) h

pub within-up : (n : ℕ) (cs : List Class) (a b : ℕ) (p : Option ℕ) → nat_eq a b ≡ false → p ≡ extended_by (slice_get cs a) → extends_within (suc n) cs (Some a) b ≡ extends_within n cs p b
unfolding extends_within
within-up n cs a b p h e = ap (λ (t : Bool). t || extends_within n cs (extended_by (slice_get cs a)) b) h ∙ rw e refl

pub within-end : (cs : List Class) (a b : ℕ) → extends_within 0 cs (Some a) b ≡ nat_eq a b
unfolding extends_within
within-end cs a b = refl

pub within-none : (n : ℕ) (cs : List Class) (b : ℕ) → extends_within n cs None b ≡ false
unfolding extends_within
within-none n cs b = refl

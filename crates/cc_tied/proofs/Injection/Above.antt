-- What places allow under some facts they allow under others that have the same functions in the same
-- places: reads, writes, and functions that are made.
use Rattle.std.proofs.Common.{◌≡◌, ℕ, Option, Some, refl, ap, subst}
use Rattle.cc_meaning.specs.State.{Tables}
use Rattle.cc_meaning.specs.Monad.{pick}
use Rattle.cc_meaning.specs.Alike.{owns}
use Rattle.cc_tied.specs.Facts.{Level, called, caught, named, Facts, innermost, around_function, outward, Above, above_here, above_more}

module _ (F G : Facts) (parents : (f : ℕ) → F.parent f ≡ G.parent f) (T : Tables) where
  around_same : (f : ℕ) → around_function F f ≡ around_function G f
  unfolding around_function
  around_same f = ap (λ z. innermost z.0 z.1) (parents f)

  outward_same : (l : Level) → outward F T l ≡ outward G T l
  unfolding outward
  outward_same (called f) = ap (λ z. pick (owns T f) (Some (named f)) z) (around_same f)
  outward_same (caught o c) = refl
  outward_same (named f) = around_same f

  -- the frames outwards are the same
  pub above_same : {o : Option Level} {u : ℕ} {l : Level} → Above F T o u l → Above G T o u l
  above_same above_here = above_here
  above_same (above_more {l = k} {k = l} {u = u} h) = above_more (subst (λ z. Above G T z u l) (outward_same k) (above_same h))

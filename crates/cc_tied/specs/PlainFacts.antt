-- What is known of every well made program before it runs: where functions stand, and which are reached.
use Rattle.std.specs.Prelude.{ℕ, nat_eq, List, [], ◌∷◌, Option, Some, None, slice_get, IsFalse}
use Rattle.cc_ast.specs.Syntax.{Scope, Program}
use Rattle.cc_meaning.specs.Monad.{pick}
use Rattle.cc_meaning.specs.Parts.{Part, makes}
use Rattle.cc_meaning.specs.WellMade.{is_chunk, parts_of, Reached}
use Rattle.cc_tied.specs.Facts.{Facts}

-- a scope that is a function, or none where it is a chunk
unfoldable pub owner : Program → ℕ → Option ℕ
unfolding is_chunk
owner P f = pick (is_chunk P f) None (Some f)

-- the number of catch clauses around the place where a function is made
unfoldable pub catches_around : ℕ → List Part → ℕ
catches_around f [] = 0
catches_around f (makes c g d ∷ xs) = pick (nat_eq g f) c (catches_around f xs)
catches_around f (_ ∷ xs) = catches_around f xs

unfoldable pub parent_by : Program → ℕ → Option ℕ → Option ℕ × ℕ
unfolding owner catches_around parts_of
parent_by P f None = (None, 0)
parent_by P f (Some g) = (owner P g, catches_around f (parts_of P g))

unfoldable pub parent_in : Option Scope → Option ℕ
parent_in None = None
parent_in (Some s) = s.parent

unfoldable pub parent_of : Program → ℕ → Option ℕ × ℕ
unfolding parent_by parent_in
parent_of P f = parent_by P f (parent_in (slice_get P.scopes f))

-- a function that is reached from the chunks
pub record IsReached (P : Program) (f : ℕ) : Type 0 where
  pub reached : Reached P f
  pub function : IsFalse (is_chunk P f)

-- the facts that ask nothing more of a program
abbrev pub plain_facts : Program → Facts
plain_facts P = record { parent = parent_of P; Reached = IsReached P; Fixed = λ f n. ⊥; Dead = λ f n. ⊥; Known = λ n h. ⊥; Unread = λ n. ⊥ }

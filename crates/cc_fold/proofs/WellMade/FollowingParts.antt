-- Where scopes follow those of a program, each part stood before, and what was declared still is.
use Rattle.std.proofs.Common.{◌≡◌, ℕ, List, map, sym, subst}
use Rattle.std.specs.Prelude.{slice_get}
use Rattle.cc_ast.specs.Syntax.{Scope, Program}
use Rattle.cc_ast.specs.declared.tree.Ref.{Ref}
use Rattle.cc_meaning.specs.Alike.{In, ListT}
use Rattle.cc_meaning.specs.Shapes.{head_of, tables_of, body_in, body_of, sets_by_chunks}
use Rattle.cc_meaning.specs.Parts.{Part, declares, stmts_parts}
use Rattle.cc_meaning.specs.WellMade.{parts_of}
use Rattle.cc_fold.proofs.WellMade.OtherTables.{stmts_same}
use Rattle.cc_fold.proofs.WellMade.FollowingScopes.{Follows, fewer_at, declared_at}

module _ (P : Program) (ts : List Scope) (F : ListT (Follows (tables_of P)) P.scopes ts) where
  abbrev Q : Program
  Q = record P { scopes = ts }

  parts_are : (f : ℕ) → parts_of Q f ≡ stmts_parts (tables_of P) 0 (body_in (slice_get ts f))
  unfolding parts_of body_of tables_of
  parts_are f = stmts_same (tables_of P) (map head_of ts) (sets_by_chunks P.chunks ts) 0 (body_in (slice_get ts f))

  pub part_before : (f : ℕ) (x : Part) → In x (parts_of Q f) → In x (parts_of P f)
  unfolding parts_of body_of
  part_before f x i = (fewer_at (tables_of P) F f).within x (subst (λ z. In x z) (parts_are f) i)

  pub declared_after : (f c : ℕ) (r : Ref) → In (declares c r) (parts_of P f) → In (declares c r) (parts_of Q f)
  unfolding parts_of body_of
  declared_after f c r i = subst (λ z. In (declares c r) z) (sym (parts_are f)) (declared_at (tables_of P) F f c r i)

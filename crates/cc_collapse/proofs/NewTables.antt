-- The tables of a flattened program: those that were there, but for the globals and for what is set.
use Rattle.std.proofs.Common.{◌≡◌, refl, ℕ, suc, ◌-◌, Bool, true, false, List, [], ◌∷◌, ◌++◌, map, Some, is_some, sym, ap, ◌∙◌}
use Rattle.std.specs.Prelude.{slice_get}
use Rattle.cc_ast.specs.Syntax.{Scope, Program}
use Rattle.cc_ast.specs.declared.tables.GlobalInfo.{GlobalInfo}
use Rattle.cc_meaning.specs.State.{Path}
use Rattle.cc_meaning.specs.Monad.{pick}
use Rattle.cc_meaning.specs.Store.{of_chunk, global_kind, global_by, without_chunk, chunk_in}
use Rattle.cc_meaning.specs.Typed.{Variable, global, variable_type, variable_doc, is_settled, is_param, global_doc, doc_at}
use Rattle.cc_meaning.specs.Shapes.{tables_of, head_of, without_paths}
use Rattle.cc_collapse.specs.Paths.{flat_paths, new_global, chunk_of_path}
use Rattle.cc_collapse.specs.Flattening.{new_number, flat_scopes, flattened}
use Rattle.cc_collapse.proofs.NewGlobals.{old_stands, new_stands}

heads_same : (P : Program) (k : ℕ) (ss : List Scope) → map head_of (flat_scopes P k ss) ≡ map head_of ss
unfolding flat_scopes head_of
heads_same P k [] = refl
heads_same P k (s ∷ ss) = ap (λ z. head_of s ∷ z) (heads_same P (suc k) ss)

-- a global of a chunk doesn't count among those of the outside
new_outer : (P : Program) (ws : List Path) → without_chunk (map (new_global P) ws) ≡ 0
unfolding without_chunk new_global
new_outer P [] = refl
new_outer P (w ∷ ws) = new_outer P ws

outer_same : (P : Program) (ws : List Path) (gs : List GlobalInfo) → without_chunk (map without_paths gs ++ map (new_global P) ws) ≡ without_chunk gs
unfolding without_chunk without_paths
outer_same P ws [] = new_outer P ws
outer_same P ws (g ∷ gs) = by_chunk (is_some g.chunk) (outer_same P ws gs)
  where
    by_chunk : (b : Bool) → without_chunk (map without_paths gs ++ map (new_global P) ws) ≡ without_chunk gs → pick b (without_chunk (map without_paths gs ++ map (new_global P) ws)) (suc (without_chunk (map without_paths gs ++ map (new_global P) ws))) ≡ pick b (without_chunk gs) (suc (without_chunk gs))
    by_chunk true h = h
    by_chunk false h = ap suc h

module _ (P : Program) where
  abbrev Q : Program
  Q = flattened P

  pub tables_kept : tables_of Q ≡ record (tables_of P) { set = (tables_of Q).set; globals = Q.globals }
  unfolding tables_of flattened
  tables_kept = ap (λ z. record (tables_of (flattened P)) { heads = z }) (heads_same P 0 P.scopes)

  outer_kept : without_chunk Q.globals ≡ without_chunk P.globals
  unfolding flattened
  outer_kept = outer_same P (flat_paths P) P.globals

  -- a global that was there is of the kind that it was, and has its doc
  pub kind_kept : (n : ℕ) (g : GlobalInfo) → slice_get P.globals n ≡ Some g → global_kind (tables_of P) n ≡ global_kind (tables_of Q) n
  unfolding global_kind tables_of chunk_in without_paths
  kind_kept n g e = ap (λ z. global_by (without_chunk P.globals - 3) n (chunk_in z)) e ∙ ap (λ z. global_by (z - 3) n g.chunk) (sym outer_kept) ∙ sym (ap (λ z. global_by (without_chunk Q.globals - 3) n (chunk_in z)) (old_stands P n g e))

  -- a new one is of the chunk in which it is declared
  pub kind_new : (g p : ℕ) (ps : List ℕ) (k : ℕ) → new_number P (Some (g, p ∷ ps)) ≡ Some k → global_kind (tables_of Q) k ≡ of_chunk (chunk_of_path P (g, p ∷ ps))
  unfolding global_kind tables_of chunk_in global_by new_global
  kind_new g p ps k e = ap (λ z. global_by (without_chunk Q.globals - 3) k (chunk_in z)) (new_stands P g p ps k e)

  doc_kept : (n : ℕ) (g : GlobalInfo) → slice_get P.globals n ≡ Some g → variable_doc (tables_of P) (global n) ≡ variable_doc (tables_of Q) (global n)
  unfolding variable_doc tables_of global_doc without_paths doc_at flattened
  doc_kept n g e = ap (λ z. doc_at (tables_of P) (global_doc z)) e ∙ sym (ap (λ z. doc_at (tables_of P) (global_doc z)) (old_stands P n g e))

  pub type_kept : (n : ℕ) (g : GlobalInfo) → slice_get P.globals n ≡ Some g → variable_type (tables_of P) (global n) ≡ variable_type (tables_of Q) (global n)
  unfolding variable_type is_param
  type_kept n g e = ap (λ z. Rattle.cc_meaning.specs.Typed.value_in z) (doc_kept n g e)

  pub settled_kept : (n : ℕ) (g : GlobalInfo) → slice_get P.globals n ≡ Some g → is_settled (tables_of P) (global n) ≡ is_settled (tables_of Q) (global n)
  unfolding is_settled is_param
  settled_kept n g e = ap (λ z. Rattle.cc_meaning.specs.Typed.settled_in z) (doc_kept n g e)

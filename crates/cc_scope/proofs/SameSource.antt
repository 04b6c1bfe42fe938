-- What stays of a program whatever classes, docs and flat paths are added.
use Rattle.std.proofs.Common.{◌≡◌, refl, sym, ap, ◌∙◌, ℕ, zero, suc, ◌-◌, List, [], ◌∷◌, ◌++◌, map}
use Rattle.std.specs.Prelude.{slice_get}
use Rattle.cc_ast.specs.declared.tables.FlatPath.{FlatPath}
use Rattle.cc_ast.specs.declared.tables.Class.{Class}
use Rattle.cc_ast.specs.declared.tables.SiteDoc.{SiteDoc}
use Rattle.cc_ast.specs.Syntax.{Program}
use Rattle.cc_meaning.specs.Names.{builtin_globals}
use Rattle.cc_meaning.specs.Store.{without_chunk, global_kind, global_by, chunk_in}
use Rattle.cc_meaning.specs.Shapes.{tables_of, body_of}
use Rattle.cc_meaning.specs.FlatPaths.{mentions_of}
use Rattle.cc_meaning.specs.WellMade.{parts_of}
use Rattle.cc_grammar.specs.RawTree.{RawStmts}
use Rattle.cc_scope.specs.Lists.{Name, distinct}
use Rattle.cc_scope.specs.Resolve.{Added, Source, outer_info, chunk_info, globals_of, all_declared, outer_of, program_of}
use Rattle.cc_scope.proofs.Globals.{without_outer}
use Rattle.cc_scope.proofs.SameParts.{stmts_same}
use Rattle.cc_scope.proofs.Held.{SamePaths}

same_chunk : (A B : Added) (xs : List Name) (ts : List RawStmts) (ys : List Name) (n : ℕ) → chunk_in (slice_get (map outer_info xs ++ map (chunk_info A ts) ys) n) ≡ chunk_in (slice_get (map outer_info xs ++ map (chunk_info B ts) ys) n)
unfolding chunk_in chunk_info
same_chunk A B [] ts [] n = refl
same_chunk A B [] ts (y ∷ ys) zero = refl
same_chunk A B [] ts (y ∷ ys) (suc n) = same_chunk A B [] ts ys n
same_chunk A B (x ∷ xs) ts ys zero = refl
same_chunk A B (x ∷ xs) ts ys (suc n) = same_chunk A B xs ts ys n

module _ (S : Source) (classes : List Class) (docs : List SiteDoc) (global_doc : Name → ℕ) (flat : Name → List FlatPath) where
  abbrev pub with_added : Source
  with_added = record S { added = record (S.added) { classes = classes; docs = docs; global_doc = global_doc; flat = flat } }

  abbrev pub P : Program
  P = program_of with_added

  abbrev pub Q : Program
  Q = program_of S

  pub same_scopes : P.scopes ≡ Q.scopes
  unfolding program_of outer_of
  same_scopes = refl

  pub same_chunks : P.chunks ≡ Q.chunks
  unfolding program_of
  same_chunks = refl

  pub same_props : P.props ≡ Q.props
  unfolding program_of
  same_props = refl

  pub same_places : P.places ≡ Q.places
  unfolding program_of
  same_places = refl

  pub same_mentions : mentions_of P ≡ mentions_of Q
  unfolding program_of outer_of mentions_of
  same_mentions = refl

  pub same_set : (tables_of P).set ≡ (tables_of Q).set
  unfolding program_of outer_of tables_of
  same_set = refl

  pub same_kinds : (n : ℕ) → global_kind (tables_of P) n ≡ global_kind (tables_of Q) n
  unfolding program_of tables_of global_kind globals_of
  same_kinds n =
      let xs = S.externs ++ builtin_globals in let ys = distinct (all_declared S.trees) in
      ap (λ k. global_by (k - 3) n (chunk_in (slice_get (globals_of with_added) n))) (without_outer (with_added.added) xs S.trees ys ∙ sym (without_outer (S.added) xs S.trees ys))
      ∙ ap (λ o. global_by (without_chunk (globals_of S) - 3) n o) (same_chunk (with_added.added) (S.added) xs S.trees ys n)

  pub same_paths : SamePaths P Q
  same_paths = record { mentions = same_mentions; props = same_props; kinds = same_kinds }

  pub same_body : (f : ℕ) → body_of P f ≡ body_of Q f
  unfolding program_of outer_of body_of
  same_body f = refl

  pub same_table_props : (tables_of P).props ≡ (tables_of Q).props
  unfolding program_of tables_of
  same_table_props = refl

  pub same_parts : (f : ℕ) → parts_of P f ≡ parts_of Q f
  unfolding parts_of
  same_parts f = ap (λ b. Rattle.cc_meaning.specs.Parts.stmts_parts (tables_of P) 0 b) (same_body f) ∙ stmts_same (tables_of P) (tables_of Q) same_table_props 0 (body_of Q f)

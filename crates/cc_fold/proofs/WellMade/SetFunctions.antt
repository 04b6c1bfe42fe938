-- What globals and paths are set to are functions that stand in the trees, in the order in which they
-- stand: where each stands once, each is set once.
use Rattle.std.proofs.Common.{◌≡◌, ℕ, zero, suc, List, [], ◌∷◌, ◌++◌, map, Option, Some, None, refl, sym, ap, subst, ◌∙◌}
use Rattle.std.specs.Prelude.{slice_get}
use Rattle.cc_ast.specs.Syntax.{Expr, fun, object, assign, Fields, no_fields, more_fields, Declarator, Stmt, simple, vars, fun_decl, Stmts, no_stmts, more_stmts, Scope}
use Rattle.cc_ast.specs.declared.tables.ChunkInfo.{ChunkInfo}
use Rattle.cc_meaning.specs.State.{Path, Tables}
use Rattle.cc_meaning.specs.Alike.{In, here, there}
use Rattle.cc_meaning.specs.Shapes.{path_of_key, path_of_ref, path_of_target, sets_by, sets_by_fields, sets_by_option, sets_by_vars, sets_by_value, sets_by_fun, sets_by_stmt, sets_by_stmts, sets_by_chunks}
use Rattle.cc_meaning.specs.Parts.{Part, has_site, declares, method_in, key_parts, expr_parts, target_parts, fields_parts, option_parts, vars_parts, stmt_parts, stmts_parts}
use Rattle.cc_meaning.specs.WellMade.{functions_in, all_functions, IsDistinct}
use Rattle.cc_fold.proofs.Sublists.{Sublist, sub_same, sub_nothing, sub_both, sub_distinct}
use Rattle.cc_fold.proofs.WellMade.FewerParts.{functions_both}

abbrev pub functions_of : List (Path × ℕ) → List ℕ
functions_of xs = map (λ x. x.1) xs

of_both : (xs ys : List (Path × ℕ)) → functions_of (xs ++ ys) ≡ functions_of xs ++ functions_of ys
of_both [] ys = refl
of_both (x ∷ xs) ys = ap (λ z. x.1 ∷ z) (of_both xs ys)

-- the functions of the first stand among those of the second
record Stand (xs : List (Path × ℕ)) (us : List Part) : Type 0 where
  pub sub : Sublist (functions_of xs) (functions_in us)

stand_nothing : (us : List Part) → Stand [] us
stand_nothing us = record { sub = sub_nothing (functions_in us) }

stand_both : {xs ys : List (Path × ℕ)} {us vs : List Part} → Stand xs us → Stand ys vs → Stand (xs ++ ys) (us ++ vs)
stand_both {xs = xs} {ys = ys} {us = us} {vs = vs} f g = record {
  sub = subst (λ z. Sublist z (functions_in (us ++ vs))) (sym (of_both xs ys)) (subst (λ z. Sublist (functions_of xs ++ functions_of ys) z) (sym (functions_both us vs)) (sub_both f.sub g.sub));
}

stand_after : (us : List Part) {xs : List (Path × ℕ)} {vs : List Part} → Stand xs vs → Stand xs (us ++ vs)
stand_after us f = stand_both (stand_nothing us) f

module _ (T : Tables) where
  -- ---- trees

  mutual
    unfolding sets_by expr_parts functions_in

    sets_stand : (c : ℕ) (w : Option Path) (e : Expr) → Stand (sets_by w e) (expr_parts T c e)
    sets_stand c (Some w) (fun i f) = record { sub = sub_same (f ∷ []) }
    sets_stand c w (object i fs) = stand_after (has_site i ∷ []) (fields_stand c w fs)
    sets_stand c w e = stand_nothing (expr_parts T c e)

    fields_stand : (c : ℕ) (w : Option Path) (fs : Fields) → Stand (sets_by_fields w fs) (fields_parts T c fs)
    fields_stand c w no_fields = stand_nothing []
    fields_stand c w (more_fields k e fs) = stand_both (stand_after (key_parts k) (sets_stand c (path_of_key w k) e)) (fields_stand c w fs)

  option_stand : (c : ℕ) (w : Option Path) (o : Option Expr) → Stand (sets_by_option w o) (option_parts T c o)
  unfolding sets_by_option option_parts
  option_stand c w None = stand_nothing []
  option_stand c w (Some e) = sets_stand c w e

  vars_stand : (c : ℕ) (ds : List Declarator) → Stand (sets_by_vars ds) (vars_parts T c ds)
  unfolding sets_by_vars vars_parts
  vars_stand c [] = stand_nothing []
  vars_stand c (d ∷ ds) = stand_after (has_site d.site ∷ declares c d.variable ∷ []) (stand_both (option_stand c (path_of_ref d.variable) d.value) (vars_stand c ds))

  value_stand : (c : ℕ) (e : Expr) → Stand (sets_by_value e) (expr_parts T c e)
  unfolding sets_by_value expr_parts
  value_stand c (assign i None u e) = stand_after (has_site i ∷ []) (stand_after (method_in T u e ++ target_parts T c u) (sets_stand c (path_of_target u) e))
  value_stand c e = stand_nothing (expr_parts T c e)

  fun_stand : (o : Option Path) (f : ℕ) (us : List Part) → Sublist (f ∷ []) (functions_in us) → Stand (sets_by_fun o f) us
  unfolding sets_by_fun
  fun_stand None f us h = stand_nothing us
  fun_stand (Some w) f us h = record { sub = h }

  stmt_stand : (c : ℕ) (s : Stmt) → Stand (sets_by_stmt s) (stmt_parts T c s)
  unfolding sets_by_stmt stmt_parts functions_in
  stmt_stand c (simple i e) = stand_after (has_site i ∷ []) (value_stand c e)
  stmt_stand c (vars i ds) = stand_after (has_site i ∷ []) (vars_stand c ds)
  stmt_stand c (fun_decl i r f) = fun_stand (path_of_ref r) f _ (sub_same (f ∷ []))
  stmt_stand c s = stand_nothing (stmt_parts T c s)

  stmts_stand : (c : ℕ) (ss : Stmts) → Stand (sets_by_stmts ss) (stmts_parts T c ss)
  unfolding sets_by_stmts stmts_parts
  stmts_stand c no_stmts = stand_nothing []
  stmts_stand c (more_stmts s ss) = stand_both (stmt_stand c s) (stmts_stand c ss)

  pub chunks_sub : (cs : List ChunkInfo) (ss : List Scope) → Sublist (functions_of (sets_by_chunks cs ss)) (all_functions T ss)
  unfolding sets_by_chunks all_functions
  chunks_sub [] ss = sub_nothing (all_functions T ss)
  chunks_sub (c ∷ cs) [] = sub_nothing []
  chunks_sub (c ∷ cs) (s ∷ ss) = subst (λ z. Sublist z (functions_in (stmts_parts T 0 s.body) ++ all_functions T ss)) (sym (of_both (sets_by_stmts s.body) (sets_by_chunks cs ss))) (sub_both (stmts_stand 0 s.body).sub (chunks_sub cs ss))

  -- ---- once

  get_function : (xs : List (Path × ℕ)) (i : ℕ) (x : Path × ℕ) → slice_get xs i ≡ Some x → slice_get (functions_of xs) i ≡ Some x.1
  get_function [] i x e = absurd (cc)
  get_function (y ∷ xs) zero x e = let d : y ≡ x = cc in ap (λ z. Some z.1) d
  get_function (y ∷ xs) (suc i) x e = get_function xs i x e

  module _ (cs : List ChunkInfo) (ss : List Scope) (once : IsDistinct (all_functions T ss)) where
    pub set_once : (i j : ℕ) (w v : Path) (f : ℕ) → slice_get (sets_by_chunks cs ss) i ≡ Some (w, f) → slice_get (sets_by_chunks cs ss) j ≡ Some (v, f) → i ≡ j
    set_once i j w v f h k = sub_distinct (chunks_sub cs ss) once i j f (get_function (sets_by_chunks cs ss) i (w, f) h) (get_function (sets_by_chunks cs ss) j (v, f) k)

    record At (x : Path × ℕ) (xs : List (Path × ℕ)) : Type 0 where
      pub place : ℕ
      pub there : slice_get xs place ≡ Some x

    in_at : {x : Path × ℕ} {xs : List (Path × ℕ)} → In x xs → At x xs
    in_at here = record { place = 0; there = refl }
    in_at (there i) = let r = in_at i in record { place = suc r.place; there = r.there }

    some_same : {A : Type 0} {x y : A} → Some x ≡ Some y → x ≡ y
    some_same h = cc

    pub one_path : (w v : Path) (f : ℕ) → In (w, f) (sets_by_chunks cs ss) → In (v, f) (sets_by_chunks cs ss) → w ≡ v
    one_path w v f h k =
        let a = in_at h in
        let b = in_at k in
        let e = set_once a.place b.place w v f a.there b.there in
        ap (λ z. z.0) (some_same (sym a.there ∙ ap (slice_get (sets_by_chunks cs ss)) e ∙ b.there))

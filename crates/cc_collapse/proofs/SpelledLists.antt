-- Labels and properties of a flattened program stood in the old one.
use Rattle.std.proofs.Common.{◌≡◌, refl, ℕ, Bool, true, false, List, [], ◌∷◌, ◌++◌, map, Option, Some, None}
use Rattle.cc_ast.specs.Syntax.{Expr, object, assign, Target, Fields, no_fields, more_fields, Declarator, Stmt, simple, vars, Stmts, no_stmts, more_stmts}
use Rattle.cc_ast.specs.declared.tree.Ref.{Ref}
use Rattle.cc_ast.specs.declared.tree.Key.{Key}
use Rattle.cc_meaning.specs.State.{Path, Tables}
use Rattle.cc_meaning.specs.Monad.{pick}
use Rattle.cc_meaning.specs.Shapes.{site_of, path_of_key, path_of_ref, path_of_target}
use Rattle.cc_meaning.specs.Alike.{there}
use Rattle.cc_meaning.specs.Parts.{Part, has_site, declares, key_parts, expr_parts, fields_parts, option_parts, vars_parts, stmt_parts, stmts_parts}
use Rattle.cc_collapse.specs.Flattening.{flat_expr, flat_target, is_key, kept_value, kept_fields, declared_at, key_vars, field_vars, set_var, set_vars, target_site, alone, set_path, is_among, own_value, own_stmt, still_unset, is_declared, and_also, holder_of, bare_vars, still_bare, in_list, own_list, declared_in, site_in}
use Rattle.cc_collapse.proofs.SpelledExprs.{Sub, sub_nil, sub_refl, sub_on, sub_tail, sub_cons, sub_site, sub_declares, sub_append, sub_back, sub_front, sub_join, in_front, in_back, no_methods, expr_sub, written_sub, stmt_sub}

module _ (T U : Tables) (global : Option Path → Option ℕ) where
  -- ---- declarators

  vars_join : (xs ys : List Declarator) {zs : List Part} → Sub (vars_parts U 0 xs) zs → Sub (vars_parts U 0 ys) zs → Sub (vars_parts U 0 (xs ++ ys)) zs
  unfolding vars_parts
  vars_join [] ys h k = k
  vars_join (d ∷ xs) ys h k = sub_site d.site (sub_declares 0 d.variable (sub_join (record { by = λ n i. h.by n (there (there (in_front _ _ i))) }) (vars_join xs ys (record { by = λ n i. h.by n (there (there (in_back (option_parts U 0 d.value) _ i))) }) k)))

  one_var : (i : ℕ) (o : Option ℕ) (e : Expr) {zs : List Part} → Sub (expr_parts U 0 e) zs → Sub (vars_parts U 0 (declared_at global i o (Some e))) zs
  unfolding declared_at vars_parts option_parts
  one_var i None e h = sub_nil
  one_var i (Some n) e h = sub_site i (sub_declares 0 (Ref.Global n) (sub_join h sub_nil))

  kept_key : (b : Bool) (k : Key) (e : Expr) (fs : Fields) {zs : List Part} → Sub (fields_parts U 0 fs) zs → Sub (expr_parts U 0 (flat_expr global e)) (expr_parts T 0 e) → Sub (fields_parts U 0 (pick b fs (more_fields k (flat_expr global e) fs))) (key_parts k ++ expr_parts T 0 e ++ zs)
  unfolding expr_parts
  kept_key true k e fs h g = sub_back _ h
  kept_key false k e fs h g = sub_append (sub_append sub_refl g) h

  mutual
    unfolding kept_value expr_parts

    kept_sub : (w : Option Path) (e : Expr) → Sub (expr_parts U 0 (kept_value global w e)) (expr_parts T 0 e)
    kept_sub w (object i fs) = sub_cons (has_site i) (kept_fields_sub w fs)
    kept_sub w e = expr_sub T U global 0 e

    kept_fields_sub : (w : Option Path) (fs : Fields) → Sub (fields_parts U 0 (kept_fields global w fs)) (fields_parts T 0 fs)
    kept_fields_sub w no_fields = sub_nil
    kept_fields_sub w (more_fields k e fs) = kept_key (is_key global (path_of_key w k)) k e (kept_fields global w fs) (kept_fields_sub w fs) (expr_sub T U global 0 e)

  picked_vars : (b : Bool) (ds : List Declarator) {zs : List Part} → Sub (vars_parts U 0 ds) zs → Sub (vars_parts U 0 (pick b ds [])) zs
  unfolding vars_parts
  picked_vars true ds h = h
  picked_vars false ds h = sub_nil

  mutual
    unfolding key_vars expr_parts vars_parts

    key_sub : (w : Option Path) (e : Expr) → Sub (vars_parts U 0 (key_vars global w e)) (expr_parts T 0 e)
    key_sub w (object i fs) = sub_tail (has_site i) (field_sub w fs)
    key_sub w _ = sub_nil

    field_sub : (w : Option Path) (fs : Fields) → Sub (vars_parts U 0 (field_vars global w fs)) (fields_parts T 0 fs)
    field_sub w no_fields = sub_nil
    field_sub w (more_fields k e fs) =
        vars_join (pick (is_key global (path_of_key w k)) (declared_at global (site_of e) (global (path_of_key w k)) (Some (kept_value global (path_of_key w k) e)) ++ key_vars global (path_of_key w k) e) []) (field_vars global w fs)
        (picked_vars (is_key global (path_of_key w k)) _ (vars_join (declared_at global (site_of e) (global (path_of_key w k)) (Some (kept_value global (path_of_key w k) e))) (key_vars global (path_of_key w k) e)
        (one_var (site_of e) (global (path_of_key w k)) (kept_value global (path_of_key w k) e) (sub_front (fields_parts T 0 fs) (sub_back (key_parts k) (kept_sub (path_of_key w k) e))))
        (sub_front (fields_parts T 0 fs) (sub_back (key_parts k) (key_sub (path_of_key w k) e)))))
        (sub_back (key_parts k ++ expr_parts T 0 e) (field_sub w fs))

  set_sub : (d : Declarator) (o : Option Expr) {zs : List Part} → Sub (option_parts T 0 o) zs → d.value ≡ o → Sub (vars_parts U 0 (set_var global d o)) zs
  unfolding set_var vars_parts option_parts
  set_sub d None h e = rw e (sub_site d.site (sub_declares 0 d.variable sub_nil))
  set_sub d (Some x) h e = sub_site d.site (sub_declares 0 d.variable (sub_join (sub_on (kept_sub (path_of_ref d.variable) x) h) (sub_on (key_sub (path_of_ref d.variable) x) h)))

  set_vars_sub : (ds : List Declarator) → Sub (vars_parts U 0 (set_vars global ds)) (vars_parts T 0 ds)
  unfolding set_vars vars_parts
  set_vars_sub [] = sub_nil
  set_vars_sub (d ∷ ds) = vars_join (set_var global d d.value) (set_vars global ds) (set_sub d d.value (sub_tail (has_site d.site) (sub_tail (declares 0 d.variable) (sub_front (vars_parts T 0 ds) sub_refl))) refl) (sub_tail (has_site d.site) (sub_tail (declares 0 d.variable) (sub_back (option_parts T 0 d.value) (set_vars_sub ds))))

  -- ---- statements of a chunk's own list

  unfoldable listed : List Stmt → List Part
  unfolding stmt_parts
  listed [] = []
  listed (s ∷ ss) = stmt_parts U 0 s ++ listed ss

  alone_sub : (ds : List Declarator) {zs : List Part} → Sub (vars_parts U 0 ds) zs → Sub (listed (map (alone global) ds)) zs
  unfolding listed alone stmt_parts vars_parts
  alone_sub [] h = sub_nil
  alone_sub (d ∷ ds) h = sub_join (sub_site d.site (sub_site d.site (sub_declares 0 d.variable (sub_join (record { by = λ n i. h.by n (there (there (in_front _ _ i))) }) sub_nil)))) (alone_sub ds (record { by = λ n i. h.by n (there (there (in_back (option_parts U 0 d.value) _ i))) }))

  path_sub : (b : Bool) (i j : ℕ) (t : Target) (e : Expr) → Sub (listed (set_path global b i j t e)) (stmt_parts T 0 (simple i (assign j None t e)))
  unfolding listed set_path stmt_parts expr_parts
  path_sub true i j t e = sub_join (sub_site i (vars_join (declared_at global (target_site global t) (global (path_of_target t)) (Some (kept_value global (path_of_target t) e))) (key_vars global (path_of_target t) e) (one_var (target_site global t) (global (path_of_target t)) (kept_value global (path_of_target t) e) (sub_tail (has_site i) (sub_tail (has_site j) (sub_back _ (kept_sub (path_of_target t) e))))) (sub_tail (has_site i) (sub_tail (has_site j) (sub_back _ (key_sub (path_of_target t) e)))))) sub_nil
  path_sub false i j t e = sub_join (sub_cons (has_site i) (sub_cons (has_site j) (sub_append (sub_append (no_methods U (flat_target global t) (kept_value global (path_of_target t) e)) (written_sub T U global 0 t)) (kept_sub (path_of_target t) e)))) (alone_sub (key_vars global (path_of_target t) e) (sub_tail (has_site i) (sub_tail (has_site j) (sub_back _ (key_sub (path_of_target t) e)))))

  own_value_sub : (ws : List Path) (i : ℕ) (e : Expr) → Sub (listed (own_value global ws i e)) (stmt_parts T 0 (simple i e))
  unfolding listed own_value stmt_parts
  own_value_sub ws i (assign j None t e) = path_sub (is_among global ws (path_of_target t)) i j t e
  own_value_sub ws i e = sub_join (sub_cons (has_site i) (expr_sub T U global 0 e)) sub_nil

  own_sub : (ws : List Path) (s : Stmt) → Sub (listed (own_stmt global ws s)) (stmt_parts T 0 s)
  unfolding listed own_stmt stmt_parts
  own_sub ws (simple i e) = own_value_sub ws i e
  own_sub ws (vars i ds) = sub_join (sub_cons (has_site i) (set_vars_sub ds)) sub_nil
  own_sub ws s = sub_join (stmt_sub T U global 0 s) sub_nil

  bare_one : (i : ℕ) (o : Option ℕ) {zs : List Part} → Sub (vars_parts U 0 (declared_at global i o None)) zs
  unfolding declared_at vars_parts option_parts
  bare_one i None = sub_nil
  bare_one i (Some n) = sub_site i (sub_declares 0 (Ref.Global n) sub_nil)

  bare_sub : (i : ℕ) (ns : List ℕ) (ws : List Path) {zs : List Part} → Sub (listed (bare_vars global i ns ws)) zs
  unfolding listed bare_vars stmt_parts
  bare_sub i ns [] = sub_nil
  bare_sub i ns (w ∷ ws) = by_case (is_declared global ns (global (Some (holder_of w)))) (bare_sub i (and_also global (global (Some w)) ns) ws) (bare_sub i ns ws)
    where
      by_case : (b : Bool) {zs : List Part} → Sub (listed (bare_vars global i (and_also global (global (Some w)) ns) ws)) zs → Sub (listed (bare_vars global i ns ws)) zs → Sub (listed (pick b (vars i (declared_at global i (global (Some w)) None) ∷ bare_vars global i (and_also global (global (Some w)) ns) ws) (bare_vars global i ns ws))) zs
      by_case true h k = sub_join (sub_site i (bare_one i (global (Some w)))) h
      by_case false h k = k

  in_list_sub : (xs : List Stmt) (ss : Stmts) {zs : List Part} → Sub (listed xs) zs → Sub (stmts_parts U 0 ss) zs → Sub (stmts_parts U 0 (in_list global xs ss)) zs
  unfolding listed in_list stmt_parts
  in_list_sub [] ss h k = k
  in_list_sub (s ∷ xs) ss h k = sub_join (record { by = λ n i. h.by n (in_front _ _ i) }) (in_list_sub xs ss (record { by = λ n i. h.by n (in_back (stmt_parts U 0 s) _ i) }) k)

  pub own_list_sub : (V : Tables) (ws bs : List Path) (ss : Stmts) → Sub (stmts_parts U 0 (own_list global V ws bs ss)) (stmts_parts T 0 ss)
  unfolding own_list stmt_parts
  own_list_sub V ws bs no_stmts = sub_nil
  own_list_sub V ws bs (more_stmts s ss) = in_list_sub (own_stmt global ws s) _ (sub_front (stmts_parts T 0 ss) (own_sub ws s)) (in_list_sub (bare_vars global (site_in (stmt_parts V 0 s)) (declared_in V (own_stmt global ws s)) bs) _ (bare_sub (site_in (stmt_parts V 0 s)) (declared_in V (own_stmt global ws s)) bs) (sub_back (stmt_parts T 0 s) (own_list_sub V (still_unset global s ws) (still_bare global (declared_in V (own_stmt global ws s)) bs) ss)))

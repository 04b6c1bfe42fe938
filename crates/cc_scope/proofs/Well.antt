-- The statements of what is resolved are of the language: what is read is, and no name is refused.
use Rattle.std.proofs.Common.{◌≡◌, refl, sym, ap, ◌∙◌, subst, ℕ, suc, Bool, true, false, not, ◌&&◌, ◌||◌, nat_eq, nat_lt, List, [], ◌∷◌, ◌++◌, Option, Some, None}
use Rattle.cc_ast.specs.declared.operator.UnOp.{UnOp}
use Rattle.cc_ast.specs.declared.operator.UnOp.TheVariants.{Delete}
use Rattle.cc_ast.specs.declared.place.Place.{Place}
use Rattle.cc_ast.specs.declared.tree.Ref.{Ref}
use Rattle.cc_meaning.specs.State.{Tables}
use Rattle.cc_meaning.specs.Monad.{pick}
use Rattle.cc_meaning.specs.Store.{global_kind}
use Rattle.cc_meaning.specs.Shapes.{tables_of, path_of, path_of_ref}
use Rattle.cc_meaning.specs.Alike.{In, here}
use Rattle.cc_meaning.specs.Parts.{exact_prim, may_read, may_write, is_no_built, is_own_global, is_use, global_at, built_callee, is_variable, takes_operand, expr_well, target_well, exprs_well, fields_well}
use Rattle.cc_meaning.specs.WellMade.{Open, nested, in_loop, counted, labels_for, defaults, is_there, option_well, vars_well, some_vars, init_well, name_well, stmt_well, stmts_well, maybe_well, cases_well}
use Rattle.cc_grammar.specs.RawTree.{Named, RawExpr, RawTarget, RawExprs, MaybeExpr, RawFields, RawDeclarators, RawInit, RawForTarget, RawStmt, RawStmts, RawCatch, RawFinally, RawCases}
use Rattle.cc_grammar.specs.RawTree as raw
use Rattle.cc_scope.specs.Lists.{Name}
use Rattle.cc_scope.specs.Marks.{Mark, a_site, a_name, names, Counters, next, past, expr_marks, target_marks, exprs_marks, maybe_marks, fields_marks, vars_marks, init_marks, heading_marks, stmt_marks, stmts_marks, catch_marks, finally_marks, cases_marks, key_marks}
use Rattle.cc_scope.specs.Resolve.{Outer, Frames, lookup, ref_of, ref_by, var_by, expr_of, target_of, exprs_of, maybe_of, fields_of, vars_of, init_of, heading_of, stmt_of, stmts_of, catch_of, finally_of, cases_of, Source, all_marks, outer_of, program_of}
use Rattle.cc_scope.specs.Refusals.{Refusal, Spot, global_of, read_by, write_by, global_meant, is_string_use, is_member_use, variable_meant, is_built_callee, declared_by, repeated, within, behind_catch, expr_refused, target_refused, exprs_refused, maybe_refused, fields_refused, vars_refused, init_refused, heading_refused, stmt_refused, stmts_refused, catch_refused, finally_refused, cases_refused}
use Rattle.cc_scope.specs.Grammatical.{names_variable, operand_fits, statements, loop_labels, default_clauses, has_catch, has_finally, expr_fits, target_fits, exprs_fit, maybe_fits, fields_fit, vars_fit, some_vars_fit, init_fits, heading_fits, stmt_fits, stmts_fit, catch_fits, finally_fits, cases_fit}
use Rattle.cc_scope.proofs.Declared.{in_left, in_right}
use Rattle.cc_scope.proofs.Law.{names_append}
use Rattle.cc_scope.proofs.Whole.{spelled}
use Rattle.cc_scope.proofs.Accepted.{SameSort, same_read, same_write, same_string, same_use}
use Rattle.cc_scope.proofs.Pieces.{both_true, both_empty}
use Rattle.cc_scope.proofs.Lookups.{global_found, global_fact, one_sort}

two : {a b : Bool} → a ≡ true → b ≡ true → a && b ≡ true
two {a} {b} e h = rw (e, h) refl

-- what is known where a part of a tree stands
pub record Clean (S : Source) (ms : List Mark) (rs : List Refusal) (y : Bool) : Type 0 where
  pub named : (x : Name) → In x (names ms) → In x (names (all_marks S.trees))
  pub empty : rs ≡ []
  pub fits : y ≡ true

module _ (S : Source) where
  abbrev T : Tables
  T = tables_of (program_of S)

  abbrev W : Outer
  W = outer_of S

  split : {ms ns : List Mark} {rs qs : List Refusal} {y z : Bool} → Clean S (ms ++ ns) (rs ++ qs) (y && z) → Clean S ms rs y × Clean S ns qs z
  split {ms} {ns} {rs} {qs} {y} {z} c = (
    record { named = λ x i. c.named x (subst (λ k. In x k) (sym (names_append ms ns)) (in_left (names ms) (names ns) i)); empty = (both_empty rs qs c.empty).0; fits = (both_true {a = y} {b = z} c.fits).0 },
    record { named = λ x i. c.named x (subst (λ k. In x k) (sym (names_append ms ns)) (in_right (names ms) (names ns) i)); empty = (both_empty rs qs c.empty).1; fits = (both_true {a = y} {b = z} c.fits).1 },
  )

  past_site : {q : Place} {ms : List Mark} {rs : List Refusal} {y : Bool} → Clean S (a_site q ∷ ms) rs y → Clean S ms rs y
  unfolding names
  past_site c = record { named = c.named; empty = c.empty; fits = c.fits }

  -- a condition besides
  besides : {ms : List Mark} {rs : List Refusal} {b y : Bool} → Clean S ms rs (b && y) → (b ≡ true) × Clean S ms rs y
  besides {b} {y} c = ((both_true {a = b} {b = y} c.fits).0, record { named = c.named; empty = c.empty; fits = (both_true {a = b} {b = y} c.fits).1 })

  before_name : {ms : List Mark} {rs : List Refusal} {y : Bool} (m : Name) → Clean S (ms ++ a_name m ∷ []) rs y → Clean S ms rs y
  unfolding names
  before_name {ms} m c = record { named = λ x i. c.named x (subst (λ k. In x k) (sym (names_append ms (a_name m ∷ []))) (in_left (names ms) (m ∷ []) i)); empty = c.empty; fits = c.fits }

  -- behind a key, which is refused by nothing
  past_key : {ns : List Mark} {rs : List Refusal} {y : Bool} (ms : List Mark) → Clean S (ms ++ ns) rs y → Clean S ns rs y
  past_key {ns} ms c = record { named = λ x i. c.named x (subst (λ k. In x k) (sym (names_append ms ns)) (in_right (names ms) (names ns) i)); empty = c.empty; fits = c.fits }

  -- behind refusals of its own: of a declared variable
  past_own : {ms : List Mark} (rs qs : List Refusal) {y : Bool} → Clean S ms (rs ++ qs) y → Clean S ms qs y
  past_own rs qs c = record { named = c.named; empty = (both_empty rs qs c.empty).1; fits = c.fits }

  -- ---- variables

  reads : (X : Spot) (i : ℕ) (m : Name) (q : Place) → read_by (outer_of S) m q (lookup (outer_of S) X.frames m) ≡ [] → expr_well (tables_of (program_of S)) (var_by i (lookup (outer_of S) X.frames m)) ≡ true
  unfolding read_by var_by expr_well may_read exact_prim
  reads X i m q e = by (lookup (outer_of S) X.frames m) refl e where
    is_read : (k : ℕ) → SameSort (global_of (outer_of S) k) (global_kind (tables_of (program_of S)) k) → (b : Bool) → is_no_built (global_of (outer_of S) k) ≡ b → pick b [] (Rattle.cc_scope.specs.Refusals.at Rattle.cc_scope.specs.Refusals.built_in_used q) ≡ [] → is_no_built (global_kind (tables_of (program_of S)) k) ≡ true
    is_read k f true h e = same_read f h
    is_read k f false h e = absurd (cc)

    by : (o : Option Ref) → lookup (outer_of S) X.frames m ≡ o → read_by (outer_of S) m q o ≡ [] → expr_well (tables_of (program_of S)) (var_by i o) ≡ true
    by None h e = refl
    by (Some (Ref.Frame up k)) h e = refl
    by (Some (Ref.Global k)) h e = is_read k (one_sort S m k (global_fact S m k (global_found (outer_of S) X.frames m k h))) (is_no_built (global_of (outer_of S) k)) refl e

  writes : (X : Spot) (m : Name) (q : Place) → write_by (outer_of S) m q (lookup (outer_of S) X.frames m) ≡ [] → may_write (tables_of (program_of S)) (ref_of (outer_of S) X.frames m) ≡ true
  unfolding write_by may_write ref_of ref_by
  writes X m q e = by (lookup (outer_of S) X.frames m) refl e where
    is_written : (k : ℕ) → SameSort (global_of (outer_of S) k) (global_kind (tables_of (program_of S)) k) → (b : Bool) → is_own_global (global_of (outer_of S) k) ≡ b → pick b [] (Rattle.cc_scope.specs.Refusals.at Rattle.cc_scope.specs.Refusals.host_written q) ≡ [] → is_own_global (global_kind (tables_of (program_of S)) k) ≡ true
    is_written k f true h e = same_write f h
    is_written k f false h e = absurd (cc)

    by : (o : Option Ref) → lookup (outer_of S) X.frames m ≡ o → write_by (outer_of S) m q o ≡ [] → may_write (tables_of (program_of S)) (ref_by o) ≡ true
    by None h e = absurd (cc)
    by (Some (Ref.Frame up k)) h e = refl
    by (Some (Ref.Global k)) h e = is_written k (one_sort S m k (global_fact S m k (global_found (outer_of S) X.frames m k h))) (is_own_global (global_of (outer_of S) k)) refl e

  -- a variable by which `String` is called
  string_is : (F : Frames) (i : ℕ) (m : Name) → is_string_use (global_meant (outer_of S) (lookup (outer_of S) F m)) ≡ true → built_callee (tables_of (program_of S)) (var_by i (lookup (outer_of S) F m)) ≡ true
  unfolding is_string_use global_meant built_callee var_by
  string_is F i m e = by (lookup (outer_of S) F m) refl e where
    by : (o : Option Ref) → lookup (outer_of S) F m ≡ o → is_string_use (global_meant (outer_of S) o) ≡ true → built_callee (tables_of (program_of S)) (var_by i o) ≡ true
    by None h e = absurd (cc)
    by (Some (Ref.Frame up k)) h e = absurd (cc)
    by (Some (Ref.Global k)) h e = same_string (one_sort S m k (global_fact S m k (global_found (outer_of S) F m k h))) e

  member_is : (F : Frames) (i : ℕ) (m x : Name) → is_member_use (global_meant (outer_of S) (lookup (outer_of S) F m)) x ≡ true → is_use (global_at (tables_of (program_of S)) (path_of (var_by i (lookup (outer_of S) F m)))) x ≡ true
  unfolding is_member_use global_meant is_use global_at path_of path_of_ref var_by
  member_is F i m x e = by (lookup (outer_of S) F m) refl e where
    by : (o : Option Ref) → lookup (outer_of S) F m ≡ o → is_member_use (global_meant (outer_of S) o) x ≡ true → is_use (global_at (tables_of (program_of S)) (path_of (var_by i o))) x ≡ true
    by None h e = absurd (cc)
    by (Some (Ref.Frame up k)) h e = absurd (cc)
    by (Some (Ref.Global k)) h e = same_use x (one_sort S m k (global_fact S m k (global_found (outer_of S) F m k h))) e

  callee : (F : Frames) (n : Counters) (t : RawExpr) → ((x : Name) → In x (names (expr_marks t)) → In x (names (all_marks S.trees))) → is_built_callee (outer_of S) F t ≡ true → built_callee (tables_of (program_of S)) (expr_of (outer_of S) F n t) ≡ true
  unfolding is_built_callee variable_meant is_member_use expr_of built_callee expr_marks names
  callee F n (raw.var q m) g e = string_is F n.site m e
  callee F n (raw.member q (raw.var u x) o m) g e = subst (λ y. is_use (global_at (tables_of (program_of S)) (path_of (var_by (suc n.site) (lookup (outer_of S) F x)))) y ≡ true) (sym (spelled S m (g m here))) (member_is F (suc n.site) x m e)
  callee F n t g e = absurd (cc)

  called : (F : Frames) (n : Counters) (t : RawExpr) (b : Bool) (rs : List Refusal) → ((x : Name) → In x (names (expr_marks t)) → In x (names (all_marks S.trees))) → is_built_callee (outer_of S) F t ≡ b → pick b [] rs ≡ []
      → (rs ≡ [] → expr_well (tables_of (program_of S)) (expr_of (outer_of S) F n t) ≡ true) → built_callee (tables_of (program_of S)) (expr_of (outer_of S) F n t) || expr_well (tables_of (program_of S)) (expr_of (outer_of S) F n t) ≡ true
  called F n t true rs g e h f = rw (callee F n t g e) refl
  called F n t false rs g e h f = either (built_callee (tables_of (program_of S)) (expr_of (outer_of S) F n t)) (f h) where
    either : (b : Bool) {c : Bool} → c ≡ true → b || c ≡ true
    either true e = refl
    either false e = e

  -- ---- operands of `delete`, labels and clauses

  same_variable : (F : Frames) (n : Counters) (t : RawExpr) → names_variable t ≡ false → is_variable (expr_of (outer_of S) F n t) ≡ false
  unfolding names_variable is_variable expr_of
  same_variable F n (raw.var q m) e = absurd (cc)
  same_variable F n (raw.cast q t) e = same_variable F (next n) t e
  same_variable F n (raw.lit q x) e = refl
  same_variable F n (raw.this q) e = refl
  same_variable F n (raw.fun q own ps b) e = refl
  same_variable F n (raw.list q es) e = refl
  same_variable F n (raw.object q fs) e = refl
  same_variable F n (raw.unary q op t) e = refl
  same_variable F n (raw.binary q op a b) e = refl
  same_variable F n (raw.and q a b) e = refl
  same_variable F n (raw.or q a b) e = refl
  same_variable F n (raw.cond q t a b) e = refl
  same_variable F n (raw.assign q op t a) e = refl
  same_variable F n (raw.step q up before t) e = refl
  same_variable F n (raw.member q a o m) e = refl
  same_variable F n (raw.index q a k) e = refl
  same_variable F n (raw.call q a es) e = refl
  same_variable F n (raw.new q a es) e = refl
  same_variable F n (raw.comma q a b) e = refl

  untrue : {b : Bool} → not b ≡ true → b ≡ false
  untrue {b = true} e = absurd (cc)
  untrue {b = false} e = refl

  operand : (F : Frames) (n : Counters) (op : UnOp) (t : RawExpr) → operand_fits op t ≡ true → takes_operand op (expr_of (outer_of S) F n t) ≡ true
  unfolding operand_fits takes_operand
  operand F n Delete t e = rw (same_variable F n t (untrue e)) refl
  operand F n _ t e = refl

  as_many : (F : Frames) (n : Counters) (t : RawStmts) → counted (stmts_of (outer_of S) F n t) ≡ statements t
  unfolding counted statements stmts_of
  as_many F n raw.no_stmts = refl
  as_many F n (raw.more_stmts (raw.simple q e) ss) = ap suc (as_many F (past n (stmt_marks (raw.simple q e))) ss)
  as_many F n (raw.more_stmts (raw.vars q ds) ss) = ap suc (as_many F (past n (stmt_marks (raw.vars q ds))) ss)
  as_many F n (raw.more_stmts (raw.fun_decl q v ps b) ss) = ap suc (as_many F (past n (stmt_marks (raw.fun_decl q v ps b))) ss)
  as_many F n (raw.more_stmts (raw.if q t a b) ss) = ap suc (as_many F (past n (stmt_marks (raw.if q t a b))) ss)
  as_many F n (raw.more_stmts (raw.while q t b) ss) = ap suc (as_many F (past n (stmt_marks (raw.while q t b))) ss)
  as_many F n (raw.more_stmts (raw.do_while q b t) ss) = ap suc (as_many F (past n (stmt_marks (raw.do_while q b t))) ss)
  as_many F n (raw.more_stmts (raw.for q h t e b) ss) = ap suc (as_many F (past n (stmt_marks (raw.for q h t e b))) ss)
  as_many F n (raw.more_stmts (raw.for_in q t e b) ss) = ap suc (as_many F (past n (stmt_marks (raw.for_in q t e b))) ss)
  as_many F n (raw.more_stmts (raw.return q e) ss) = ap suc (as_many F (past n (stmt_marks (raw.return q e))) ss)
  as_many F n (raw.more_stmts (raw.throw q e) ss) = ap suc (as_many F (past n (stmt_marks (raw.throw q e))) ss)
  as_many F n (raw.more_stmts (raw.break q k) ss) = ap suc (as_many F (past n (stmt_marks (raw.break q k))) ss)
  as_many F n (raw.more_stmts (raw.continue q k) ss) = ap suc (as_many F (past n (stmt_marks (raw.continue q k))) ss)
  as_many F n (raw.more_stmts (raw.label q k b) ss) = ap suc (as_many F (past n (stmt_marks (raw.label q k b))) ss)
  as_many F n (raw.more_stmts (raw.switch q e cs) ss) = ap suc (as_many F (past n (stmt_marks (raw.switch q e cs))) ss)
  as_many F n (raw.more_stmts (raw.try q b k f) ss) = ap suc (as_many F (past n (stmt_marks (raw.try q b k f))) ss)

  same_labels : (F : Frames) (n : Counters) (ls : List (List ℕ)) (t : RawStmts) → loop_labels ls t ≡ labels_for ls (stmts_of (outer_of S) F n t)
  unfolding loop_labels labels_for
  same_labels F n ls t = ap (λ k. pick (nat_eq k 1) ls []) (sym (as_many F n t))

  same_defaults : (F : Frames) (n : Counters) (t : RawCases) → defaults (cases_of (outer_of S) F n t) ≡ default_clauses t
  unfolding defaults default_clauses cases_of stmts_of
  same_defaults F n raw.no_cases = refl
  same_defaults F n (raw.more_cases raw.no_expr b cs) = ap suc (same_defaults F (past (past n (maybe_marks raw.no_expr)) (stmts_marks b)) cs)
  same_defaults F n (raw.more_cases (raw.one_expr e) b cs) = same_defaults F (past (past n (maybe_marks (raw.one_expr e))) (stmts_marks b)) cs

  same_handlers : (F G : Frames) (n m : Counters) (k : RawCatch) (f : RawFinally) → has_catch k || has_finally f ≡ true → is_there (catch_of (outer_of S) F n k) || is_there (finally_of (outer_of S) G m f) ≡ true
  unfolding has_catch has_finally is_there stmts_of
  same_handlers F G n m raw.no_catch raw.no_finally e = e
  same_handlers F G n m raw.no_catch (raw.finally b) e = refl
  same_handlers F G n m (raw.caught v b) f e = refl

  -- ---- the induction

  mutual
    unfolding expr_marks expr_refused expr_fits expr_of expr_well option_well vars_well some_vars init_well name_well stmt_well within vars_marks

    expr : (X : Spot) (n : Counters) (t : RawExpr) → Clean S (expr_marks t) (expr_refused (outer_of S) X t) (expr_fits t) → expr_well (tables_of (program_of S)) (expr_of (outer_of S) X.frames n t) ≡ true
    expr X n (raw.lit q x) c = c.fits
    expr X n (raw.var q m) c = reads X n.site m q c.empty
    expr X n (raw.this q) c = refl
    expr X n (raw.fun q own ps b) c = refl
    expr X n (raw.list q es) c = exprs X (next n) es (past_site c)
    expr X n (raw.object q fs) c = fields X (next n) fs (past_site c)
    expr X n (raw.unary q op e) c = two (operand X.frames (next n) op e (besides c).0) (expr X (next n) e (past_site (besides c).1))
    expr X n (raw.binary q op a b) c = two (expr X (next n) a (split (past_site c)).0) (expr X (past (next n) (expr_marks a)) b (split (past_site c)).1)
    expr X n (raw.and q a b) c = two (expr X (next n) a (split (past_site c)).0) (expr X (past (next n) (expr_marks a)) b (split (past_site c)).1)
    expr X n (raw.or q a b) c = two (expr X (next n) a (split (past_site c)).0) (expr X (past (next n) (expr_marks a)) b (split (past_site c)).1)
    expr X n (raw.comma q a b) c = two (expr X (next n) a (split (past_site c)).0) (expr X (past (next n) (expr_marks a)) b (split (past_site c)).1)
    expr X n (raw.cond q t a b) c = two (two (expr X (next n) t (split (past_site c)).0) (expr X (past (next n) (expr_marks t)) a (split (split (past_site c)).1).0)) (expr X (past (past (next n) (expr_marks t)) (expr_marks a)) b (split (split (past_site c)).1).1)
    expr X n (raw.assign q op t e) c = two (two (besides c).0 (target X (next n) t (split (past_site (besides c).1)).0)) (expr X (past (next n) (target_marks t)) e (split (past_site (besides c).1)).1)
    expr X n (raw.step q up before t) c = target X (next n) t (past_site c)
    expr X n (raw.member q e o m) c = expr X (next n) e (before_name m (past_site c))
    expr X n (raw.index q e k) c = two (expr X (next n) e (split (past_site c)).0) (expr X (past (next n) (expr_marks e)) k (split (past_site c)).1)
    expr X n (raw.call q f es) c =
        let d : Clean S (expr_marks f ++ exprs_marks es) (pick (is_built_callee (outer_of S) X.frames f) [] (expr_refused (outer_of S) X f) ++ exprs_refused (outer_of S) X es) (expr_fits f && exprs_fit es) = past_site c in
        let g : Clean S (expr_marks f) (pick (is_built_callee (outer_of S) X.frames f) [] (expr_refused (outer_of S) X f)) (expr_fits f) = (split d).0 in
        two (called X.frames (next n) f (is_built_callee (outer_of S) X.frames f) (expr_refused (outer_of S) X f) g.named refl g.empty (λ e. expr X (next n) f (record { named = g.named; empty = e; fits = g.fits }))) (exprs X (past (next n) (expr_marks f)) es (split d).1)
    expr X n (raw.new q f es) c = two (expr X (next n) f (split (past_site c)).0) (exprs X (past (next n) (expr_marks f)) es (split (past_site c)).1)
    expr X n (raw.cast q e) c = expr X (next n) e (past_site c)

    target : (X : Spot) (n : Counters) (t : RawTarget) → Clean S (target_marks t) (target_refused (outer_of S) X t) (target_fits t) → target_well (tables_of (program_of S)) (target_of (outer_of S) X.frames n t) ≡ true
    target X n (raw.to_var q m) c = writes X m q c.empty
    target X n (raw.to_member q e o m) c = expr X (next n) e (before_name m (past_site c))
    target X n (raw.to_index q e k) c = two (expr X (next n) e (split (past_site c)).0) (expr X (past (next n) (expr_marks e)) k (split (past_site c)).1)

    exprs : (X : Spot) (n : Counters) (t : RawExprs) → Clean S (exprs_marks t) (exprs_refused (outer_of S) X t) (exprs_fit t) → exprs_well (tables_of (program_of S)) (exprs_of (outer_of S) X.frames n t) ≡ true
    exprs X n raw.no_exprs c = refl
    exprs X n (raw.more_exprs e es) c = two (expr X n e (split c).0) (exprs X (past n (expr_marks e)) es (split c).1)

    fields : (X : Spot) (n : Counters) (t : RawFields) → Clean S (fields_marks t) (fields_refused (outer_of S) X t) (fields_fit t) → fields_well (tables_of (program_of S)) (fields_of (outer_of S) X.frames n t) ≡ true
    fields X n raw.no_fields c = refl
    fields X n (raw.more_fields q k e fs) c = two (expr X (past n (key_marks k)) e (split (past_key (key_marks k) c)).0) (fields X (past (past n (key_marks k)) (expr_marks e)) fs (split (past_key (key_marks k) c)).1)

    maybe : (X : Spot) (n : Counters) (t : MaybeExpr) → Clean S (maybe_marks t) (maybe_refused (outer_of S) X t) (maybe_fits t) → option_well (tables_of (program_of S)) (maybe_of (outer_of S) X.frames n t) ≡ true
    maybe X n raw.no_expr c = refl
    maybe X n (raw.one_expr e) c = expr X n e c

    variables : (X : Spot) (n : Counters) (t : RawDeclarators) → Clean S (vars_marks t) (vars_refused (outer_of S) X t) (vars_fit t) → vars_well (tables_of (program_of S)) (vars_of (outer_of S) X.frames n t) ≡ true
    variables X n raw.no_declarators c = refl
    variables X n (raw.more_declarators v e ds) c = two (maybe X (next n) e (split (past_own (declared_by (outer_of S) X v) (maybe_refused (outer_of S) X e ++ vars_refused (outer_of S) X ds) (past_site c))).0) (variables X (past (next n) (maybe_marks e)) ds (split (past_own (declared_by (outer_of S) X v) (maybe_refused (outer_of S) X e ++ vars_refused (outer_of S) X ds) (past_site c))).1)

    some : (X : Spot) (n : Counters) (t : RawDeclarators) → Clean S (vars_marks t) (vars_refused (outer_of S) X t) (some_vars_fit t) → some_vars (tables_of (program_of S)) (vars_of (outer_of S) X.frames n t) ≡ true
    some X n raw.no_declarators c = absurd (let e = c.fits in cc)
    some X n (raw.more_declarators v e ds) c = two (maybe X (next n) e (split (past_own (declared_by (outer_of S) X v) (maybe_refused (outer_of S) X e ++ vars_refused (outer_of S) X ds) (past_site c))).0) (variables X (past (next n) (maybe_marks e)) ds (split (past_own (declared_by (outer_of S) X v) (maybe_refused (outer_of S) X e ++ vars_refused (outer_of S) X ds) (past_site c))).1)

    init : (X : Spot) (n : Counters) (t : RawInit) → Clean S (init_marks t) (init_refused (outer_of S) X t) (init_fits t) → init_well (tables_of (program_of S)) (init_of (outer_of S) X.frames n t) ≡ true
    init X n raw.no_init c = refl
    init X n (raw.init_value e) c = expr X n e c
    init X n (raw.init_vars ds) c = some X n ds c

    heading : (X : Spot) (n : Counters) (t : RawForTarget) → Clean S (heading_marks t) (heading_refused (outer_of S) X t) (heading_fits t) → name_well (tables_of (program_of S)) (heading_of (outer_of S) X.frames n t) ≡ true
    heading X n (raw.in_target t) c = target X n t c
    heading X n (raw.in_declared v e) c = maybe X (next n) e (past_own (declared_by (outer_of S) X v) (maybe_refused (outer_of S) X e) (past_site c))

    stmt : (X : Spot) (n : Counters) (o : Open) (ls : List (List ℕ)) (t : RawStmt) → Clean S (stmt_marks t) (stmt_refused (outer_of S) X t) (stmt_fits o ls t) → stmt_well (tables_of (program_of S)) o ls (stmt_of (outer_of S) X.frames n t) ≡ true
    stmt X n o ls (raw.simple q e) c = expr X (next n) e (past_site c)
    stmt X n o ls (raw.vars q ds) c = some X (next n) ds (past_site c)
    stmt X n o ls (raw.fun_decl q v ps b) c = (besides c).0
    stmt X n o ls (raw.if q t a b) c = two (two (expr X (next n) t (split (past_site c)).0) (stmts X (past (next n) (expr_marks t)) (nested o) [] a (split (split (past_site c)).1).0)) (stmts X (past (past (next n) (expr_marks t)) (stmts_marks a)) (nested o) [] b (split (split (past_site c)).1).1)
    stmt X n o ls (raw.while q t b) c = two (expr X (next n) t (split (past_site c)).0) (stmts X (past (next n) (expr_marks t)) (in_loop o ls) [] b (split (past_site c)).1)
    stmt X n o ls (raw.do_while q b t) c = two (expr X (past (next n) (stmts_marks b)) t (split (past_site c)).1) (stmts X (next n) (in_loop o ls) [] b (split (past_site c)).0)
    stmt X n o ls (raw.for q h t e b) c =
        let d : Clean S (init_marks h ++ (maybe_marks t ++ (maybe_marks e ++ stmts_marks b))) (init_refused (outer_of S) X h ++ (maybe_refused (outer_of S) X t ++ (maybe_refused (outer_of S) X e ++ stmts_refused (outer_of S) X b))) (init_fits h && (maybe_fits t && (maybe_fits e && stmts_fit (in_loop o ls) [] b))) = past_site c in
        let r : Clean S (maybe_marks t ++ (maybe_marks e ++ stmts_marks b)) (maybe_refused (outer_of S) X t ++ (maybe_refused (outer_of S) X e ++ stmts_refused (outer_of S) X b)) (maybe_fits t && (maybe_fits e && stmts_fit (in_loop o ls) [] b)) = (split d).1 in
        let g : Clean S (maybe_marks e ++ stmts_marks b) (maybe_refused (outer_of S) X e ++ stmts_refused (outer_of S) X b) (maybe_fits e && stmts_fit (in_loop o ls) [] b) = (split r).1 in
        two (two (two (init X (next n) h (split d).0) (maybe X (past (next n) (init_marks h)) t (split r).0)) (maybe X (past (past (next n) (init_marks h)) (maybe_marks t)) e (split g).0)) (stmts X (past (past (past (next n) (init_marks h)) (maybe_marks t)) (maybe_marks e)) (in_loop o ls) [] b (split g).1)
    stmt X n o ls (raw.for_in q t e b) c = two (two (heading X (next n) t (split (past_site c)).0) (expr X (past (next n) (heading_marks t)) e (split (split (past_site c)).1).0)) (stmts X (past (past (next n) (heading_marks t)) (expr_marks e)) (in_loop o ls) [] b (split (split (past_site c)).1).1)
    stmt X n o ls (raw.return q e) c = two (besides c).0 (maybe X (next n) e (past_site (besides c).1))
    stmt X n o ls (raw.throw q e) c = expr X (next n) e (past_site c)
    stmt X n o ls (raw.break q k) c = c.fits
    stmt X n o ls (raw.continue q k) c = c.fits
    stmt X n o ls (raw.label q k b) c = two (besides c).0 (subst (λ m. stmts_well (tables_of (program_of S)) (record o { labels = k ∷ o.labels; own = false }) m (stmts_of (outer_of S) X.frames (next n) b) ≡ true) (same_labels X.frames (next n) (k ∷ ls) b) (stmts X (next n) (record o { labels = k ∷ o.labels; own = false }) (loop_labels (k ∷ ls) b) b (past_site (besides c).1)))
    stmt X n o ls (raw.switch q e cs) c = two (two (expr X (next n) e (split (past_site (besides c).1)).0) (ap (λ k. nat_lt k 2) (same_defaults X.frames (past (next n) (expr_marks e)) cs) ∙ (besides c).0)) (cases X (past (next n) (expr_marks e)) (record o { breaks = true; own = false }) cs (split (past_site (besides c).1)).1)
    stmt X n o ls (raw.try q b k f) c =
        let a : (has_catch k || has_finally f ≡ true) × Clean S (a_site q ∷ (stmts_marks b ++ (catch_marks k ++ finally_marks f))) (stmts_refused (outer_of S) X b ++ (catch_refused (outer_of S) X k ++ finally_refused (outer_of S) X f)) (stmts_fit (nested o) [] b && (catch_fits (nested o) k && finally_fits (nested o) f)) = besides c in
        let d : Clean S (stmts_marks b ++ (catch_marks k ++ finally_marks f)) (stmts_refused (outer_of S) X b ++ (catch_refused (outer_of S) X k ++ finally_refused (outer_of S) X f)) (stmts_fit (nested o) [] b && (catch_fits (nested o) k && finally_fits (nested o) f)) = past_site a.1 in
        let r : Clean S (catch_marks k ++ finally_marks f) (catch_refused (outer_of S) X k ++ finally_refused (outer_of S) X f) (catch_fits (nested o) k && finally_fits (nested o) f) = (split d).1 in
        two (two (two (same_handlers X.frames X.frames (past (next n) (stmts_marks b)) (past (past (next n) (stmts_marks b)) (catch_marks k)) k f a.0) (stmts X (next n) (nested o) [] b (split d).0)) (catch X (past (next n) (stmts_marks b)) (nested o) k (split r).0)) (finally X (past (past (next n) (stmts_marks b)) (catch_marks k)) (nested o) f (split r).1)

    pub stmts : (X : Spot) (n : Counters) (o : Open) (ls : List (List ℕ)) (t : RawStmts) → Clean S (stmts_marks t) (stmts_refused (outer_of S) X t) (stmts_fit o ls t) → stmts_well (tables_of (program_of S)) o ls (stmts_of (outer_of S) X.frames n t) ≡ true
    stmts X n o ls raw.no_stmts c = refl
    stmts X n o ls (raw.more_stmts t ts) c = two (stmt X n o ls t (split c).0) (stmts X (past n (stmt_marks t)) o ls ts (split c).1)

    catch : (X : Spot) (n : Counters) (o : Open) (t : RawCatch) → Clean S (catch_marks t) (catch_refused (outer_of S) X t) (catch_fits o t) → maybe_well (tables_of (program_of S)) o (catch_of (outer_of S) X.frames n t) ≡ true
    catch X n o raw.no_catch c = refl
    catch X n o (raw.caught v b) c = stmts (behind_catch v.name X) n o [] b c

    finally : (X : Spot) (n : Counters) (o : Open) (t : RawFinally) → Clean S (finally_marks t) (finally_refused (outer_of S) X t) (finally_fits o t) → maybe_well (tables_of (program_of S)) o (finally_of (outer_of S) X.frames n t) ≡ true
    finally X n o raw.no_finally c = refl
    finally X n o (raw.finally b) c = stmts X n o [] b c

    cases : (X : Spot) (n : Counters) (o : Open) (t : RawCases) → Clean S (cases_marks t) (cases_refused (outer_of S) X t) (cases_fit o t) → cases_well (tables_of (program_of S)) o (cases_of (outer_of S) X.frames n t) ≡ true
    cases X n o raw.no_cases c = refl
    cases X n o (raw.more_cases t b cs) c = two (two (maybe X n t (split c).0) (stmts X (past n (maybe_marks t)) o [] b (split (split c).1).0)) (cases X (past (past n (maybe_marks t)) (stmts_marks b)) o cs (split (split c).1).1)

-- The pieces of all trees.
use Rattle.std.proofs.Common.{◌≡◌, refl, ℕ, suc, Bool, true, false, not, ◌||◌, nat_lt, List, [], ◌∷◌, Option, Some, None, is_some}
use Rattle.cc_ast.specs.Syntax.{Expr, Target}
use Rattle.cc_ast.specs.Syntax as p
use Rattle.cc_meaning.specs.State.{Path, Tables}
use Rattle.cc_meaning.specs.Monad.{pick}
use Rattle.cc_meaning.specs.Operators.{is_in}
use Rattle.cc_meaning.specs.Names.{name_prototype}
use Rattle.cc_meaning.specs.Shapes.{tables_of, is_named, path_of}
use Rattle.cc_meaning.specs.Alike.{In, here, there}
use Rattle.cc_meaning.specs.Parts.{Part, sets_method, method_by, method_on_prototype, method_to, method_in, expr_parts, target_parts, exprs_parts, fields_parts, option_parts, vars_parts, init_parts, name_parts, stmt_parts, stmts_parts, maybe_parts, cases_parts, assigns}
use Rattle.cc_meaning.specs.WellMade.{functions_in, Open, nested, in_loop}
use Rattle.cc_grammar.specs.RawTree.{Named, RawExpr, RawTarget, RawExprs, MaybeExpr, RawFields, RawDeclarators, RawInit, RawForTarget, RawStmt, RawStmts, RawCatch, RawFinally, RawCases}
use Rattle.cc_grammar.specs.RawTree as raw
use Rattle.cc_scope.specs.Lists.{Name}
use Rattle.cc_scope.specs.Marks.{Counters, next, past, expr_marks, target_marks, exprs_marks, maybe_marks, fields_marks, vars_marks, init_marks, heading_marks, stmt_marks, stmts_marks, catch_marks, finally_marks, cases_marks, key_marks, vars_declare, init_declares, heading_declares, stmt_declares, stmts_declare, catch_declares, finally_declares, cases_declare}
use Rattle.cc_scope.specs.Resolve.{Outer, Frames, inner, behind, expr_of, target_of, exprs_of, maybe_of, fields_of, vars_of, init_of, heading_of, stmt_of, stmts_of, catch_of, finally_of, cases_of, expr_scopes, target_scopes, exprs_scopes, maybe_scopes, fields_scopes, vars_scopes, init_scopes, heading_scopes, stmt_scopes, stmts_scopes, catch_scopes, finally_scopes, cases_scopes, Source, outer_of, program_of}
use Rattle.cc_scope.specs.Refusals.{is_built_callee, is_member_use, variable_meant, within, expr_refused, target_refused, exprs_refused, maybe_refused, fields_refused, vars_refused, init_refused, heading_refused, stmt_refused, stmts_refused, catch_refused, finally_refused, cases_refused}
use Rattle.cc_scope.specs.Grammatical.{operand_fits, loop_labels, default_clauses, has_catch, has_finally, at_head, expr_fits, target_fits, exprs_fit, maybe_fits, fields_fit, vars_fit, some_vars_fit, init_fits, heading_fits, stmt_fits, stmts_fit, catch_fits, finally_fits, cases_fit}
use Rattle.cc_scope.proofs.Pieces.{over, depth, spot, Piece, leaf, with_site, with_name, with_doc, key, also, both, three, four, with_assigned, then_expression, alone}
use Rattle.cc_scope.proofs.Leaves.{mention, written, with_declaration, with_function}

-- ---- what an assignment sets besides is methods

abbrev Sets : List Part → Type 0
Sets os = (x : Part) → In x os → (w : Path) × (q : ℕ) × (g : ℕ) × (x ≡ sets_method w q g)

sets_by : (o : Option Path) (q g : ℕ) → Sets (method_by o q g)
unfolding method_by
sets_by None q g x i = elim i [ ]
sets_by (Some w) q g x here = (w, q, g, refl)
sets_by (Some w) q g x (there i) = elim i [ ]

sets_picked : (b : Bool) (o : Option Path) (q g : ℕ) → Sets (pick b (method_by o q g) [])
sets_picked true o q g x i = sets_by o q g x i
sets_picked false o q g x i = elim i [ ]

sets_nothing : Sets []
sets_nothing x i = elim i [ ]

sets_on : (T : Tables) (e : Expr) (q g : ℕ) → Sets (method_on_prototype T e q g)
unfolding method_on_prototype
sets_on T (p.member i e r) q g = sets_picked (is_named T r name_prototype) (path_of e) q g
sets_on T _ q g = sets_nothing

sets_to : (T : Tables) (t : Target) (g : ℕ) → Sets (method_to T t g)
unfolding method_to
sets_to T (p.to_member i e q) g = sets_on T e q g
sets_to T _ g = sets_nothing

sets_in : (T : Tables) (t : Target) (e : Expr) → Sets (method_in T t e)
unfolding method_in
sets_in T t (p.fun i g) = sets_to T t g
sets_in T t _ = sets_nothing

no_functions : (os : List Part) → Sets os → functions_in os ≡ []
unfolding functions_in
no_functions [] h = refl
no_functions (Rattle.cc_meaning.specs.Parts.sets_method w q g ∷ os) h = no_functions os (λ x i. h x (there i))
no_functions (Rattle.cc_meaning.specs.Parts.has_site i ∷ os) h = absurd (let d = h _ here in let e = d.3 in cc)
no_functions (Rattle.cc_meaning.specs.Parts.uses_prop i ∷ os) h = absurd (let d = h _ here in let e = d.3 in cc)
no_functions (Rattle.cc_meaning.specs.Parts.uses_doc i ∷ os) h = absurd (let d = h _ here in let e = d.3 in cc)
no_functions (Rattle.cc_meaning.specs.Parts.mentions c r ∷ os) h = absurd (let d = h _ here in let e = d.3 in cc)
no_functions (Rattle.cc_meaning.specs.Parts.declares c r ∷ os) h = absurd (let d = h _ here in let e = d.3 in cc)
no_functions (Rattle.cc_meaning.specs.Parts.makes c g d ∷ os) h = absurd (let e = (h _ here).3 in cc)

module _ (S : Source) where
  abbrev T : Tables
  T = tables_of (program_of S)

  abbrev W : Outer
  W = outer_of S

  abbrev ExprP : ℕ → Bool → Frames → Counters → List Name → RawExpr → Type 0
  ExprP f top E n xs t = Piece S f top E n (expr_marks t) [] (expr_refused (outer_of S) (spot top E xs) t) (expr_scopes (outer_of S) (over xs E) f n t) (expr_parts (tables_of (program_of S)) (depth xs) (expr_of (outer_of S) (over xs E) n t)) (expr_fits t)

  -- a callee of the language's own is a variable or a member of one
  callee : (f : ℕ) (top : Bool) (E : Frames) (n : Counters) (xs : List Name) (t : RawExpr) → ExprP f top E n xs t
      → Piece S f top E n (expr_marks t) [] (pick (is_built_callee (outer_of S) (over xs E) t) [] (expr_refused (outer_of S) (spot top E xs) t)) (expr_scopes (outer_of S) (over xs E) f n t) (expr_parts (tables_of (program_of S)) (depth xs) (expr_of (outer_of S) (over xs E) n t)) (expr_fits t)
  unfolding expr_marks expr_scopes expr_of expr_parts expr_fits expr_refused is_built_callee is_member_use variable_meant
  callee f top E n xs (raw.var q m) a = mention S xs m
  callee f top E n xs (raw.member q (raw.var r x) o m) a = with_site S (with_name S m (mention S xs x))
  callee f top E n xs t a = a

  mutual
    unfolding expr_marks expr_scopes expr_of expr_parts expr_fits expr_refused within vars_marks vars_declare init_declares heading_declares stmts_declare option_parts vars_parts init_parts name_parts stmts_parts

    pub expr : (f : ℕ) (top : Bool) (E : Frames) (n : Counters) (xs : List Name) (t : RawExpr) → ExprP f top E n xs t
    expr f top E n xs (raw.lit q x) = with_site S (leaf S)
    expr f top E n xs (raw.var q m) = mention S xs m
    expr f top E n xs (raw.this q) = with_site S (leaf S)
    expr f top E n xs (raw.fun q own ps b) = with_site S (with_function S n xs own ps b q false (is_some own) refl (λ e. absurd (cc)) (stmts n.function false (inner own ps b (over xs E)) (behind n) [] (at_head true) [] b))
    expr f top E n xs (raw.list q es) = with_site S (exprs f top E (next n) xs es)
    expr f top E n xs (raw.object q fs) = with_site S (fields f top E (next n) xs fs)
    expr f top E n xs (raw.unary q op e) = with_site S (also S (operand_fits op e) (expr f top E (next n) xs e))
    expr f top E n xs (raw.binary q op a b) = with_site S (both S (expr f top E (next n) xs a) (expr f top E (past (next n) (expr_marks a)) xs b))
    expr f top E n xs (raw.and q a b) = with_site S (both S (expr f top E (next n) xs a) (expr f top E (past (next n) (expr_marks a)) xs b))
    expr f top E n xs (raw.or q a b) = with_site S (both S (expr f top E (next n) xs a) (expr f top E (past (next n) (expr_marks a)) xs b))
    expr f top E n xs (raw.cond q t a b) = with_site S (three S (expr f top E (next n) xs t) (expr f top E (past (next n) (expr_marks t)) xs a) (expr f top E (past (past (next n) (expr_marks t)) (expr_marks a)) xs b))
    expr f top E n xs (raw.assign q op t e) = with_site S (also S (assigns op) (with_assigned S (method_in T (target_of W (over xs E) (next n) t) (expr_of W (over xs E) (past (next n) (target_marks t)) e))
        (sets_in T (target_of W (over xs E) (next n) t) (expr_of W (over xs E) (past (next n) (target_marks t)) e))
        (no_functions _ (sets_in T (target_of W (over xs E) (next n) t) (expr_of W (over xs E) (past (next n) (target_marks t)) e)))
        (target f top E (next n) xs t) (expr f top E (past (next n) (target_marks t)) xs e)))
    expr f top E n xs (raw.step q up before t) = with_site S (target f top E (next n) xs t)
    expr f top E n xs (raw.member q e r m) = with_site S (with_name S m (expr f top E (next n) xs e))
    expr f top E n xs (raw.index q e k) = with_site S (both S (expr f top E (next n) xs e) (expr f top E (past (next n) (expr_marks e)) xs k))
    expr f top E n xs (raw.call q c es) = with_site S (both S (callee f top E (next n) xs c (expr f top E (next n) xs c)) (exprs f top E (past (next n) (expr_marks c)) xs es))
    expr f top E n xs (raw.new q c es) = with_site S (both S (expr f top E (next n) xs c) (exprs f top E (past (next n) (expr_marks c)) xs es))
    expr f top E n xs (raw.comma q a b) = with_site S (both S (expr f top E (next n) xs a) (expr f top E (past (next n) (expr_marks a)) xs b))
    expr f top E n xs (raw.cast q e) = with_site S (with_doc S q (expr f top E (next n) xs e))

    target : (f : ℕ) (top : Bool) (E : Frames) (n : Counters) (xs : List Name) (t : RawTarget) → Piece S f top E n (target_marks t) [] (target_refused (outer_of S) (spot top E xs) t) (target_scopes (outer_of S) (over xs E) f n t) (target_parts (tables_of (program_of S)) (depth xs) (target_of (outer_of S) (over xs E) n t)) (target_fits t)
    target f top E n xs (raw.to_var q m) = written S xs m
    target f top E n xs (raw.to_member q e r m) = with_site S (with_name S m (expr f top E (next n) xs e))
    target f top E n xs (raw.to_index q e k) = with_site S (both S (expr f top E (next n) xs e) (expr f top E (past (next n) (expr_marks e)) xs k))

    exprs : (f : ℕ) (top : Bool) (E : Frames) (n : Counters) (xs : List Name) (t : RawExprs) → Piece S f top E n (exprs_marks t) [] (exprs_refused (outer_of S) (spot top E xs) t) (exprs_scopes (outer_of S) (over xs E) f n t) (exprs_parts (tables_of (program_of S)) (depth xs) (exprs_of (outer_of S) (over xs E) n t)) (exprs_fit t)
    exprs f top E n xs raw.no_exprs = leaf S
    exprs f top E n xs (raw.more_exprs e es) = both S (expr f top E n xs e) (exprs f top E (past n (expr_marks e)) xs es)

    maybe : (f : ℕ) (top : Bool) (E : Frames) (n : Counters) (xs : List Name) (t : MaybeExpr) → Piece S f top E n (maybe_marks t) [] (maybe_refused (outer_of S) (spot top E xs) t) (maybe_scopes (outer_of S) (over xs E) f n t) (option_parts (tables_of (program_of S)) (depth xs) (maybe_of (outer_of S) (over xs E) n t)) (maybe_fits t)
    maybe f top E n xs raw.no_expr = leaf S
    maybe f top E n xs (raw.one_expr e) = expr f top E n xs e

    fields : (f : ℕ) (top : Bool) (E : Frames) (n : Counters) (xs : List Name) (t : RawFields) → Piece S f top E n (fields_marks t) [] (fields_refused (outer_of S) (spot top E xs) t) (fields_scopes (outer_of S) (over xs E) f n t) (fields_parts (tables_of (program_of S)) (depth xs) (fields_of (outer_of S) (over xs E) n t)) (fields_fit t)
    fields f top E n xs raw.no_fields = leaf S
    fields f top E n xs (raw.more_fields q k e fs) = three S (key S k) (expr f top E (past n (key_marks k)) xs e) (fields f top E (past (past n (key_marks k)) (expr_marks e)) xs fs)

    variables : (f : ℕ) (top : Bool) (E : Frames) (n : Counters) (xs : List Name) (t : RawDeclarators) → Piece S f top E n (vars_marks t) (vars_declare t) (vars_refused (outer_of S) (spot top E xs) t) (vars_scopes (outer_of S) (over xs E) f n t) (vars_parts (tables_of (program_of S)) (depth xs) (vars_of (outer_of S) (over xs E) n t)) (vars_fit t)
    variables f top E n xs raw.no_declarators = leaf S
    variables f top E n xs (raw.more_declarators v e ds) = with_declaration S xs v (both S (maybe f top E (next n) xs e) (variables f top E (past (next n) (maybe_marks e)) xs ds))

    some : (f : ℕ) (top : Bool) (E : Frames) (n : Counters) (xs : List Name) (t : RawDeclarators) → Piece S f top E n (vars_marks t) (vars_declare t) (vars_refused (outer_of S) (spot top E xs) t) (vars_scopes (outer_of S) (over xs E) f n t) (vars_parts (tables_of (program_of S)) (depth xs) (vars_of (outer_of S) (over xs E) n t)) (some_vars_fit t)
    some f top E n xs raw.no_declarators = leaf S
    some f top E n xs (raw.more_declarators v e ds) = with_declaration S xs v (both S (maybe f top E (next n) xs e) (variables f top E (past (next n) (maybe_marks e)) xs ds))

    init : (f : ℕ) (top : Bool) (E : Frames) (n : Counters) (xs : List Name) (t : RawInit) → Piece S f top E n (init_marks t) (init_declares t) (init_refused (outer_of S) (spot top E xs) t) (init_scopes (outer_of S) (over xs E) f n t) (init_parts (tables_of (program_of S)) (depth xs) (init_of (outer_of S) (over xs E) n t)) (init_fits t)
    init f top E n xs raw.no_init = leaf S
    init f top E n xs (raw.init_value e) = expr f top E n xs e
    init f top E n xs (raw.init_vars ds) = some f top E n xs ds

    heading : (f : ℕ) (top : Bool) (E : Frames) (n : Counters) (xs : List Name) (t : RawForTarget) → Piece S f top E n (heading_marks t) (heading_declares t) (heading_refused (outer_of S) (spot top E xs) t) (heading_scopes (outer_of S) (over xs E) f n t) (name_parts (tables_of (program_of S)) (depth xs) (heading_of (outer_of S) (over xs E) n t)) (heading_fits t)
    heading f top E n xs (raw.in_target t) = target f top E n xs t
    heading f top E n xs (raw.in_declared v e) = with_declaration S xs v (alone S (maybe f top E (next n) xs e))

    stmt : (f : ℕ) (top : Bool) (E : Frames) (n : Counters) (xs : List Name) (o : Open) (ls : List (List ℕ)) (t : RawStmt) → Piece S f top E n (stmt_marks t) (stmt_declares t) (stmt_refused (outer_of S) (spot top E xs) t) (stmt_scopes (outer_of S) (over xs E) f n t) (stmt_parts (tables_of (program_of S)) (depth xs) (stmt_of (outer_of S) (over xs E) n t)) (stmt_fits o ls t)
    stmt f top E n xs o ls (raw.simple q e) = with_site S (expr f top E (next n) xs e)
    stmt f top E n xs o ls (raw.vars q ds) = with_site S (some f top E (next n) xs ds)
    stmt f top E n xs o ls (raw.fun_decl q v ps b) = also S o.own (with_declaration S xs v (with_function S n xs None ps b q true false refl (λ e. refl) (stmts n.function false (inner None ps b (over xs E)) (behind n) [] (at_head true) [] b)))
    stmt f top E n xs o ls (raw.if q t a b) = with_site S (three S (expr f top E (next n) xs t) (stmts f top E (past (next n) (expr_marks t)) xs (nested o) [] a) (stmts f top E (past (past (next n) (expr_marks t)) (stmts_marks a)) xs (nested o) [] b))
    stmt f top E n xs o ls (raw.while q t b) = with_site S (both S (expr f top E (next n) xs t) (stmts f top E (past (next n) (expr_marks t)) xs (in_loop o ls) [] b))
    stmt f top E n xs o ls (raw.do_while q b t) = with_site S (then_expression S (stmts f top E (next n) xs (in_loop o ls) [] b) (expr f top E (past (next n) (stmts_marks b)) xs t))
    stmt f top E n xs o ls (raw.for q h t e b) = with_site S (four S (init f top E (next n) xs h) (maybe f top E (past (next n) (init_marks h)) xs t) (maybe f top E (past (past (next n) (init_marks h)) (maybe_marks t)) xs e) (stmts f top E (past (past (past (next n) (init_marks h)) (maybe_marks t)) (maybe_marks e)) xs (in_loop o ls) [] b))
    stmt f top E n xs o ls (raw.for_in q t e b) = with_site S (three S (heading f top E (next n) xs t) (expr f top E (past (next n) (heading_marks t)) xs e) (stmts f top E (past (past (next n) (heading_marks t)) (expr_marks e)) xs (in_loop o ls) [] b))
    stmt f top E n xs o ls (raw.return q e) = with_site S (also S o.returns (maybe f top E (next n) xs e))
    stmt f top E n xs o ls (raw.throw q e) = with_site S (expr f top E (next n) xs e)
    stmt f top E n xs o ls (raw.break q l) = with_site S (leaf S)
    stmt f top E n xs o ls (raw.continue q l) = with_site S (leaf S)
    stmt f top E n xs o ls (raw.label q l b) = with_site S (also S (not (is_in l o.labels)) (stmts f top E (next n) xs (record o { labels = l ∷ o.labels; own = false }) (loop_labels (l ∷ ls) b) b))
    stmt f top E n xs o ls (raw.switch q e cs) = with_site S (also S (nat_lt (default_clauses cs) 2) (both S (expr f top E (next n) xs e) (cases f top E (past (next n) (expr_marks e)) xs (record o { breaks = true; own = false }) cs)))
    stmt f top E n xs o ls (raw.try q b k g) = with_site S (also S (has_catch k || has_finally g) (three S (stmts f top E (next n) xs (nested o) [] b) (catch f top E (past (next n) (stmts_marks b)) xs (nested o) k) (finally f top E (past (past (next n) (stmts_marks b)) (catch_marks k)) xs (nested o) g)))

    pub stmts : (f : ℕ) (top : Bool) (E : Frames) (n : Counters) (xs : List Name) (o : Open) (ls : List (List ℕ)) (t : RawStmts) → Piece S f top E n (stmts_marks t) (stmts_declare t) (stmts_refused (outer_of S) (spot top E xs) t) (stmts_scopes (outer_of S) (over xs E) f n t) (stmts_parts (tables_of (program_of S)) (depth xs) (stmts_of (outer_of S) (over xs E) n t)) (stmts_fit o ls t)
    stmts f top E n xs o ls raw.no_stmts = leaf S
    stmts f top E n xs o ls (raw.more_stmts s ss) = both S (stmt f top E n xs o ls s) (stmts f top E (past n (stmt_marks s)) xs o ls ss)

    catch : (f : ℕ) (top : Bool) (E : Frames) (n : Counters) (xs : List Name) (o : Open) (t : RawCatch) → Piece S f top E n (catch_marks t) (catch_declares t) (catch_refused (outer_of S) (spot top E xs) t) (catch_scopes (outer_of S) (over xs E) f n t) (maybe_parts (tables_of (program_of S)) (suc (depth xs)) (catch_of (outer_of S) (over xs E) n t)) (catch_fits o t)
    catch f top E n xs o raw.no_catch = leaf S
    catch f top E n xs o (raw.caught v b) = stmts f top E n (v.name ∷ xs) o [] b

    finally : (f : ℕ) (top : Bool) (E : Frames) (n : Counters) (xs : List Name) (o : Open) (t : RawFinally) → Piece S f top E n (finally_marks t) (finally_declares t) (finally_refused (outer_of S) (spot top E xs) t) (finally_scopes (outer_of S) (over xs E) f n t) (maybe_parts (tables_of (program_of S)) (depth xs) (finally_of (outer_of S) (over xs E) n t)) (finally_fits o t)
    finally f top E n xs o raw.no_finally = leaf S
    finally f top E n xs o (raw.finally b) = stmts f top E n xs o [] b

    cases : (f : ℕ) (top : Bool) (E : Frames) (n : Counters) (xs : List Name) (o : Open) (t : RawCases) → Piece S f top E n (cases_marks t) (cases_declare t) (cases_refused (outer_of S) (spot top E xs) t) (cases_scopes (outer_of S) (over xs E) f n t) (cases_parts (tables_of (program_of S)) (depth xs) (cases_of (outer_of S) (over xs E) n t)) (cases_fit o t)
    cases f top E n xs o raw.no_cases = leaf S
    cases f top E n xs o (raw.more_cases t b cs) = three S (maybe f top E n xs t) (stmts f top E (past n (maybe_marks t)) xs o [] b) (cases f top E (past (past n (maybe_marks t)) (stmts_marks b)) xs o cs)

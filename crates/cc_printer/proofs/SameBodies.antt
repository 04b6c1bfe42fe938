-- A tree is the same where the bodies of the functions that are made in it are.
use Rattle.std.specs.Prelude.{◌≡◌, ℕ, suc, List, [], ◌∷◌, ◌++◌, Option, Some, None, slice_get}
use Rattle.std.proofs.Common.{refl, ap, ap₂}
use Rattle.cc_ast.specs.Syntax as S
use Rattle.cc_meaning.specs.State.{Tables}
use Rattle.cc_meaning.specs.Parts.{Part, makes, key_parts, method_in, expr_parts, target_parts, exprs_parts, fields_parts, option_parts, vars_parts, init_parts, name_parts, stmt_parts, stmts_parts, maybe_parts, cases_parts}
use Rattle.cc_grammar.specs.Symbols.{nowhere}
use Rattle.cc_grammar.specs.RawTree as raw
use Rattle.cc_grammar.specs.Signs.{unary_tree}
use Rattle.cc_printer.specs.RawOf.{Frames, Bodies, name_at, places, named, variable, property, key, function, declaration, raw_expr, raw_target, raw_exprs, raw_fields, raw_maybe, raw_declarators, raw_init, raw_for_target, raw_stmt, raw_stmts, raw_catch, raw_finally, raw_cases}
use Rattle.cc_printer.specs.Naming.{inside_catches}
use Rattle.cc_printer.proofs.Lists.{Every, parted}
use Rattle.cc_printer.proofs.Kit.{ap₃, ap₄}

module _ (P : S.Program) (ns : S.Names) (A B : Bodies) (gs : Frames) (T : Tables) where
  abbrev fr : ℕ → Frames
  fr c = inside_catches c gs

  -- the two trees of a function that is made
  abbrev pub Same : Part → Type 0
  Same (makes c g d) = (function ns A (fr c) g (slice_get P.scopes g) ≡ function ns B (fr c) g (slice_get P.scopes g)) × ((v : List ℕ) → declaration ns A (fr c) v g (slice_get P.scopes g) ≡ declaration ns B (fr c) v g (slice_get P.scopes g))
  Same _ = Unit {0}

  abbrev All : List Part → Type 0
  All xs = Every Same xs

  split : (xs ys : List Part) → All (xs ++ ys) → All xs × All ys
  split xs ys h = parted Same xs ys h

  mutual
    unfolding expr_parts

    same_expr : (e : S.Expr) (c : ℕ) → All (expr_parts T c e) → raw_expr P ns A (fr c) e ≡ raw_expr P ns B (fr c) e
    same_expr (S.lit s v) c h = refl
    same_expr (S.var s r) c h = refl
    same_expr (S.this s) c h = refl
    same_expr (S.fun s f) c h = h.1.0.0
    same_expr (S.list s es) c h = ap (λ x. raw.list nowhere x) (same_exprs es c h.1)
    same_expr (S.object s xs) c h = ap (λ x. raw.object nowhere x) (same_fields xs c h.1)
    same_expr (S.unary s o e) c h = ap (λ x. unary_tree o nowhere x) (same_expr e c h.1)
    same_expr (S.binary s o e f) c h = let p = split (expr_parts T c e) (expr_parts T c f) h.1 in ap₂ (λ x y. raw.binary nowhere o x y) (same_expr e c p.0) (same_expr f c p.1)
    same_expr (S.and s e f) c h = let p = split (expr_parts T c e) (expr_parts T c f) h.1 in ap₂ (λ x y. raw.and nowhere x y) (same_expr e c p.0) (same_expr f c p.1)
    same_expr (S.or s e f) c h = let p = split (expr_parts T c e) (expr_parts T c f) h.1 in ap₂ (λ x y. raw.or nowhere x y) (same_expr e c p.0) (same_expr f c p.1)
    same_expr (S.cond s e f g) c h =
        let p = split (expr_parts T c e ++ expr_parts T c f) (expr_parts T c g) h.1 in
        let q = split (expr_parts T c e) (expr_parts T c f) p.0 in
        ap₃ (λ x y z. raw.cond nowhere x y z) (same_expr e c q.0) (same_expr f c q.1) (same_expr g c p.1)
    same_expr (S.assign s o a e) c h =
        let p = split (method_in T a e ++ target_parts T c a) (expr_parts T c e) h.1 in
        let q = split (method_in T a e) (target_parts T c a) p.0 in
        ap₂ (λ x y. raw.assign nowhere o x y) (same_target a c q.1) (same_expr e c p.1)
    same_expr (S.step s up before a) c h = ap (λ x. raw.step nowhere up before x) (same_target a c h.1)
    same_expr (S.member s e p) c h = ap (λ x. raw.member nowhere x nowhere (property P p)) (same_expr e c h.1.1)
    same_expr (S.index s e f) c h = let p = split (expr_parts T c e) (expr_parts T c f) h.1 in ap₂ (λ x y. raw.index nowhere x y) (same_expr e c p.0) (same_expr f c p.1)
    same_expr (S.call s e es) c h = let p = split (expr_parts T c e) (exprs_parts T c es) h.1 in ap₂ (λ x y. raw.call nowhere x y) (same_expr e c p.0) (same_exprs es c p.1)
    same_expr (S.new s e es) c h = let p = split (expr_parts T c e) (exprs_parts T c es) h.1 in ap₂ (λ x y. raw.new nowhere x y) (same_expr e c p.0) (same_exprs es c p.1)
    same_expr (S.comma s e f) c h = let p = split (expr_parts T c e) (expr_parts T c f) h.1 in ap₂ (λ x y. raw.comma nowhere x y) (same_expr e c p.0) (same_expr f c p.1)
    same_expr (S.cast s d e) c h = same_expr e c h.1.1
    same_expr (S.tick s n e) c h = same_expr e c h.1

    same_target : (a : S.Target) (c : ℕ) → All (target_parts T c a) → raw_target P ns A (fr c) a ≡ raw_target P ns B (fr c) a
    same_target (S.to_var s r) c h = refl
    same_target (S.to_member s e p) c h = ap (λ x. raw.to_member nowhere x nowhere (property P p)) (same_expr e c h.1.1)
    same_target (S.to_index s e f) c h = let p = split (expr_parts T c e) (expr_parts T c f) h.1 in ap₂ (λ x y. raw.to_index nowhere x y) (same_expr e c p.0) (same_expr f c p.1)

    same_exprs : (es : S.Exprs) (c : ℕ) → All (exprs_parts T c es) → raw_exprs P ns A (fr c) es ≡ raw_exprs P ns B (fr c) es
    same_exprs S.no_exprs c h = refl
    same_exprs (S.more_exprs e es) c h = let p = split (expr_parts T c e) (exprs_parts T c es) h in ap₂ (λ x y. raw.more_exprs x y) (same_expr e c p.0) (same_exprs es c p.1)

    same_fields : (xs : S.Fields) (c : ℕ) → All (fields_parts T c xs) → raw_fields P ns A (fr c) xs ≡ raw_fields P ns B (fr c) xs
    same_fields S.no_fields c h = refl
    same_fields (S.more_fields k e xs) c h =
        let p = split (key_parts k ++ expr_parts T c e) (fields_parts T c xs) h in
        let q = split (key_parts k) (expr_parts T c e) p.0 in
        ap₂ (λ x y. raw.more_fields nowhere (key P k) x y) (same_expr e c q.1) (same_fields xs c p.1)

  same_option : (c : ℕ) (e : Option S.Expr) → All (option_parts T c e) → raw_maybe P ns A (fr c) e ≡ raw_maybe P ns B (fr c) e
  unfolding option_parts
  same_option c None h = refl
  same_option c (Some e) h = ap (λ x. raw.one_expr x) (same_expr e c h)

  same_vars : (c : ℕ) (ds : List S.Declarator) → All (vars_parts T c ds) → raw_declarators P ns A (fr c) ds ≡ raw_declarators P ns B (fr c) ds
  unfolding vars_parts
  same_vars c [] h = refl
  same_vars c (d ∷ ds) h = let p = split (option_parts T c d.value) (vars_parts T c ds) h.1.1 in ap₂ (λ x y. raw.more_declarators (named (variable ns (fr c) d.variable)) x y) (same_option c d.value p.0) (same_vars c ds p.1)

  same_init : (c : ℕ) (i : S.ForInit) → All (init_parts T c i) → raw_init P ns A (fr c) i ≡ raw_init P ns B (fr c) i
  unfolding init_parts
  same_init c S.no_init h = refl
  same_init c (S.init_value e) h = ap (λ x. raw.init_value x) (same_expr e c h)
  same_init c (S.init_vars ds) h = ap (λ x. raw.init_vars x) (same_vars c ds h)

  same_for_target : (c : ℕ) (a : S.ForTarget) → All (name_parts T c a) → raw_for_target P ns A (fr c) a ≡ raw_for_target P ns B (fr c) a
  unfolding name_parts vars_parts
  same_for_target c (S.in_target a) h = ap (λ x. raw.in_target x) (same_target a c h)
  same_for_target c (S.in_declared d) h = let p = split (option_parts T c d.value) [] h.1.1 in ap (λ x. raw.in_declared (named (variable ns (fr c) d.variable)) x) (same_option c d.value p.0)

  same_next : (c : ℕ) (s : S.Stmt) (ss : S.Stmts) → raw_stmt P ns A (fr c) s ≡ raw_stmt P ns B (fr c) s → raw_stmts P ns A (fr c) ss ≡ raw_stmts P ns B (fr c) ss → raw_stmts P ns A (fr c) (S.more_stmts s ss) ≡ raw_stmts P ns B (fr c) (S.more_stmts s ss)
  same_next c (S.pay_stmt i p) ss e f = f
  same_next c _ ss e f = ap₂ (λ x y. raw.more_stmts x y) e f

  mutual
    unfolding stmt_parts

    same_stmt : (s : S.Stmt) (c : ℕ) → All (stmt_parts T c s) → raw_stmt P ns A (fr c) s ≡ raw_stmt P ns B (fr c) s
    same_stmt (S.simple i e) c h = ap (λ x. raw.simple nowhere x) (same_expr e c h.1)
    same_stmt (S.vars i ds) c h = ap (λ x. raw.vars nowhere x) (same_vars c ds h.1)
    same_stmt (S.fun_decl i r f) c h = h.1.1.0.1 (variable ns (fr c) r)
    same_stmt (S.if i e a b) c h =
        let p = split (expr_parts T c e ++ stmts_parts T c a) (stmts_parts T c b) h.1 in
        let q = split (expr_parts T c e) (stmts_parts T c a) p.0 in
        ap₃ (λ x y z. raw.if nowhere x y z) (same_expr e c q.0) (same_stmts a c q.1) (same_stmts b c p.1)
    same_stmt (S.while i e b) c h = let p = split (expr_parts T c e) (stmts_parts T c b) h.1 in ap₂ (λ x y. raw.while nowhere x y) (same_expr e c p.0) (same_stmts b c p.1)
    same_stmt (S.do_while i b e) c h = let p = split (stmts_parts T c b) (expr_parts T c e) h.1 in ap₂ (λ x y. raw.do_while nowhere x y) (same_stmts b c p.0) (same_expr e c p.1)
    same_stmt (S.for i j e f b) c h =
        let p = split (init_parts T c j ++ option_parts T c e ++ option_parts T c f) (stmts_parts T c b) h.1 in
        let q = split (init_parts T c j ++ option_parts T c e) (option_parts T c f) p.0 in
        let r = split (init_parts T c j) (option_parts T c e) q.0 in
        ap₄ (λ x y z o. raw.for nowhere x y z o) (same_init c j r.0) (same_option c e r.1) (same_option c f q.1) (same_stmts b c p.1)
    same_stmt (S.for_in i a e b) c h =
        let p = split (name_parts T c a ++ expr_parts T c e) (stmts_parts T c b) h.1 in
        let q = split (name_parts T c a) (expr_parts T c e) p.0 in
        ap₃ (λ x y z. raw.for_in nowhere x y z) (same_for_target c a q.0) (same_expr e c q.1) (same_stmts b c p.1)
    same_stmt (S.return i e) c h = ap (λ x. raw.return nowhere x) (same_option c e h.1)
    same_stmt (S.throw i e) c h = ap (λ x. raw.throw nowhere x) (same_expr e c h.1)
    same_stmt (S.break i l) c h = refl
    same_stmt (S.continue i l) c h = refl
    same_stmt (S.label i l b) c h = ap (λ x. raw.label nowhere l x) (same_stmts b c h.1)
    same_stmt (S.switch i e cs) c h = let p = split (expr_parts T c e) (cases_parts T c cs) h.1 in ap₂ (λ x y. raw.switch nowhere x y) (same_expr e c p.0) (same_cases cs c p.1)
    same_stmt (S.try i b k f) c h =
        let p = split (stmts_parts T c b ++ maybe_parts T (suc c) k) (maybe_parts T c f) h.1 in
        let q = split (stmts_parts T c b) (maybe_parts T (suc c) k) p.0 in
        ap₃ (λ x y z. raw.try nowhere x y z) (same_stmts b c q.0) (same_catch k c q.1) (same_finally f c p.1)
    same_stmt (S.pay_stmt i p) c h = refl

    pub same_stmts : (ss : S.Stmts) (c : ℕ) → All (stmts_parts T c ss) → raw_stmts P ns A (fr c) ss ≡ raw_stmts P ns B (fr c) ss
    same_stmts S.no_stmts c h = refl
    same_stmts (S.more_stmts s ss) c h = let p = split (stmt_parts T c s) (stmts_parts T c ss) h in same_next c s ss (same_stmt s c p.0) (same_stmts ss c p.1)

    same_catch : (k : S.MaybeStmts) (c : ℕ) → All (maybe_parts T (suc c) k) → raw_catch P ns A (fr c) k ≡ raw_catch P ns B (fr c) k
    same_catch S.absent c h = refl
    same_catch (S.present ss) c h = ap (λ x. raw.caught (named (name_at ns.slots (places (fr c)))) x) (same_stmts ss (suc c) h)

    same_finally : (f : S.MaybeStmts) (c : ℕ) → All (maybe_parts T c f) → raw_finally P ns A (fr c) f ≡ raw_finally P ns B (fr c) f
    same_finally S.absent c h = refl
    same_finally (S.present ss) c h = ap (λ x. raw.finally x) (same_stmts ss c h)

    same_cases : (cs : S.Cases) (c : ℕ) → All (cases_parts T c cs) → raw_cases P ns A (fr c) cs ≡ raw_cases P ns B (fr c) cs
    same_cases S.no_cases c h = refl
    same_cases (S.more_cases None b cs) c h = let p = split (stmts_parts T c b) (cases_parts T c cs) h in ap₂ (λ x y. raw.more_cases raw.no_expr x y) (same_stmts b c p.0) (same_cases cs c p.1)
    same_cases (S.more_cases (Some e) b cs) c h =
        let p = split (expr_parts T c e ++ stmts_parts T c b) (cases_parts T c cs) h in
        let q = split (expr_parts T c e) (stmts_parts T c b) p.0 in
        ap₃ (λ x y z. raw.more_cases (raw.one_expr x) y z) (same_expr e c q.0) (same_stmts b c q.1) (same_cases cs c p.1)

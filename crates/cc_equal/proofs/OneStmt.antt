-- A tree of src/ is known by the plain tree that it stands for: statements.
use Rattle.std.specs.Prelude.{◌≡◌, ℕ, List, [], ◌∷◌, map, Option, Some, None}
use Rattle.std.proofs.Common.{refl, sym, ap, ◌∙◌, subst}
use Rattle.cc_ast.specs.declared.tree.Expr.{Expr}
use Rattle.cc_ast.specs.declared.tree.Stmt.{Stmt, Stmt-F, out-Stmt, roll-Stmt, roll-out-Stmt}
use Rattle.cc_ast.specs.declared.tree.Stmt.TheVariants as V
use Rattle.cc_ast.specs.declared.tree.Stmt.TheFolds.{fold-roll-Case}
use Rattle.cc_ast.specs.declared.tree.Case.{Case, out-Case, roll-Case, roll-out-Case}
use Rattle.cc_ast.specs.declared.tree.Declarator.{Declarator}
use Rattle.cc_ast.specs.declared.tree.ForInit.{ForInit}
use Rattle.cc_ast.specs.declared.tree.ForInit.TheVariants as init
use Rattle.cc_ast.specs.declared.tree.ForTarget.{ForTarget}
use Rattle.cc_ast.specs.declared.tree.ForTarget.TheVariants as to
use Rattle.cc_ast.specs.declared.tree.Ref.{Ref}
use Rattle.cc_ast.specs.Syntax as S
use Rattle.cc_ast.specs.Bridge.{term, option_term}
use Rattle.cc_ast.specs.StmtBridge.{CaseTerm, case_layer, stmt_layer, term_stmt, term_case, term_stmts, term_cases, maybe_stmts, declarator, for_init, for_target}
use Rattle.cc_ast.specs.StmtTerms as T
use Rattle.cc_equal.proofs.OneExpr.{one_expr, one_target}

-- ---- parts of statements

one_option : (t : Option S.Expr) (a b : Option Expr) → option_term a ≡ t → option_term b ≡ t → a ≡ b
unfolding option_term
one_option t None None p q = refl
one_option t None (Some f) p q = absurd (cc)
one_option t (Some e) None p q = absurd (cc)
one_option None (Some e) (Some f) p q = absurd (cc)
one_option (Some t) (Some e) (Some f) p q = ap Some (one_expr t e f (cc) (cc))

declarator_by : (a b : Declarator) → a.site ≡ b.site → a.variable ≡ b.variable → a.value ≡ b.value → a ≡ b
declarator_by a b p q r = ap (λ z. let d : Declarator = record { site = z; variable = a.variable; value = a.value } in d) p ∙ ap (λ z. let d : Declarator = record { site = b.site; variable = z; value = a.value } in d) q ∙ ap (λ z. let d : Declarator = record { site = b.site; variable = b.variable; value = z } in d) r

one_declarator : (t : S.Declarator) (a b : Declarator) → declarator a ≡ t → declarator b ≡ t → a ≡ b
unfolding declarator
one_declarator t a b p q = let e : declarator a ≡ declarator b = p ∙ sym q in declarator_by a b (ap (λ z. z.site) e) (ap (λ z. z.variable) e) (one_option (option_term b.value) a.value b.value (ap (λ z. z.value) e) refl)

one_declarators : (ts : List S.Declarator) (xs ys : List Declarator) → map declarator xs ≡ ts → map declarator ys ≡ ts → xs ≡ ys
one_declarators ts [] [] p q = refl
one_declarators [] [] (y ∷ ys) p q = absurd (cc)
one_declarators (t ∷ ts) [] ys p q = absurd (cc)
one_declarators [] (x ∷ xs) ys p q = absurd (cc)
one_declarators (t ∷ ts) (x ∷ xs) [] p q = absurd (cc)
one_declarators (t ∷ ts) (x ∷ xs) (y ∷ ys) p q =
    let a : x ≡ y = one_declarator t x y (cc) (cc) in
    let b : xs ≡ ys = one_declarators ts xs ys (cc) (cc) in
    ap (λ z. z ∷ xs) a ∙ ap (λ z. y ∷ z) b

one_init : (t : S.ForInit) (a b : ForInit) → for_init a ≡ t → for_init b ≡ t → a ≡ b
unfolding for_init
one_init S.no_init init.Nothing init.Nothing p q = refl
one_init (S.init_value t) (init.Value e) (init.Value f) p q = ap init.Value (one_expr t e f (cc) (cc))
one_init (S.init_vars ts) (init.Declared ds) (init.Declared es) p q = ap init.Declared (one_declarators ts ds es (cc) (cc))
one_init _ _ _ p q = absurd (cc)

one_for_target : (t : S.ForTarget) (a b : ForTarget) → for_target a ≡ t → for_target b ≡ t → a ≡ b
unfolding for_target
one_for_target (S.in_target t) (to.Target a) (to.Target b) p q = ap to.Target (one_target t a b (cc) (cc))
one_for_target (S.in_declared t) (to.Declared d) (to.Declared e) p q = ap to.Declared (one_declarator t d e (cc) (cc))
one_for_target _ _ _ p q = absurd (cc)

-- ---- what stands for a plain statement, by its outermost constructor

data StmtOf : S.Stmt → Stmt → Type 0 where
  simple_is : (s : ℕ) (e : Expr) (e' : S.Expr) {tree : Stmt} → term e ≡ e' → tree ≡ V.Simple s e → StmtOf (S.simple s e') tree
  var_is : (s : ℕ) (ds : List Declarator) (ds' : List S.Declarator) {tree : Stmt} → map declarator ds ≡ ds' → tree ≡ V.Var s ds → StmtOf (S.vars s ds') tree
  fun_is : (s : ℕ) (v : Ref) (f : ℕ) {tree : Stmt} → tree ≡ V.Fun s v f → StmtOf (S.fun_decl s v f) tree
  if_is : (s : ℕ) (t : Expr) (a : List Stmt) (c : List Stmt) (t' : S.Expr) (a' : S.Stmts) (c' : S.Stmts) {tree : Stmt} → term t ≡ t' → term_stmts a ≡ a' → term_stmts c ≡ c' → tree ≡ V.If s t a c → StmtOf (S.if s t' a' c') tree
  while_is : (s : ℕ) (t : Expr) (c : List Stmt) (t' : S.Expr) (c' : S.Stmts) {tree : Stmt} → term t ≡ t' → term_stmts c ≡ c' → tree ≡ V.While s t c → StmtOf (S.while s t' c') tree
  do_while_is : (s : ℕ) (c : List Stmt) (t : Expr) (c' : S.Stmts) (t' : S.Expr) {tree : Stmt} → term_stmts c ≡ c' → term t ≡ t' → tree ≡ V.DoWhile s c t → StmtOf (S.do_while s c' t') tree
  for_is : (s : ℕ) (h : ForInit) (t : Option Expr) (u : Option Expr) (c : List Stmt) (h' : S.ForInit) (t' : Option S.Expr) (u' : Option S.Expr) (c' : S.Stmts) {tree : Stmt} → for_init h ≡ h' → option_term t ≡ t' → option_term u ≡ u' → term_stmts c ≡ c' → tree ≡ V.For s h t u c → StmtOf (S.for s h' t' u' c') tree
  for_in_is : (s : ℕ) (h : ForTarget) (t : Expr) (c : List Stmt) (h' : S.ForTarget) (t' : S.Expr) (c' : S.Stmts) {tree : Stmt} → for_target h ≡ h' → term t ≡ t' → term_stmts c ≡ c' → tree ≡ V.ForIn s h t c → StmtOf (S.for_in s h' t' c') tree
  return_is : (s : ℕ) (o : Option Expr) (o' : Option S.Expr) {tree : Stmt} → option_term o ≡ o' → tree ≡ V.Return s o → StmtOf (S.return s o') tree
  throw_is : (s : ℕ) (e : Expr) (e' : S.Expr) {tree : Stmt} → term e ≡ e' → tree ≡ V.Throw s e → StmtOf (S.throw s e') tree
  break_is : (s : ℕ) (l : Option (List ℕ)) {tree : Stmt} → tree ≡ V.Break s l → StmtOf (S.break s l) tree
  continue_is : (s : ℕ) (l : Option (List ℕ)) {tree : Stmt} → tree ≡ V.Continue s l → StmtOf (S.continue s l) tree
  label_is : (s : ℕ) (l : List ℕ) (c : List Stmt) (c' : S.Stmts) {tree : Stmt} → term_stmts c ≡ c' → tree ≡ V.Label s l c → StmtOf (S.label s l c') tree
  switch_is : (s : ℕ) (e : Expr) (cs : List Case) (e' : S.Expr) (cs' : S.Cases) {tree : Stmt} → term e ≡ e' → term_cases cs ≡ cs' → tree ≡ V.Switch s e cs → StmtOf (S.switch s e' cs') tree
  try_is : (s : ℕ) (c : List Stmt) (k : Option (List Stmt)) (f : Option (List Stmt)) (c' : S.Stmts) (k' : S.MaybeStmts) (f' : S.MaybeStmts) {tree : Stmt} → term_stmts c ≡ c' → maybe_stmts k ≡ k' → maybe_stmts f ≡ f' → tree ≡ V.Try s c k f → StmtOf (S.try s c' k' f') tree
  tick_is : (s : ℕ) (p : ℕ) {tree : Stmt} → tree ≡ V.Tick s p → StmtOf (S.pay_stmt s p) tree

stmt_layered : (x : Stmt-F Stmt Case) → StmtOf (term_stmt (roll-Stmt x)) (roll-Stmt x)
stmt_layered (Stmt-F.Simple s e) = subst (λ z. StmtOf z (roll-Stmt (Stmt-F.Simple s e))) (sym (ap term_stmt (V.rolls-Simple s e) ∙ T.term_stmt-Simple s e)) (simple_is s e (term e) refl (V.rolls-Simple s e))
stmt_layered (Stmt-F.Var s ds) = subst (λ z. StmtOf z (roll-Stmt (Stmt-F.Var s ds))) (sym (ap term_stmt (V.rolls-Var s ds) ∙ T.term_stmt-Var s ds)) (var_is s ds (map declarator ds) refl (V.rolls-Var s ds))
stmt_layered (Stmt-F.Fun s v f) = subst (λ z. StmtOf z (roll-Stmt (Stmt-F.Fun s v f))) (sym (ap term_stmt (V.rolls-Fun s v f) ∙ T.term_stmt-Fun s v f)) (fun_is s v f (V.rolls-Fun s v f))
stmt_layered (Stmt-F.If s t a c) = subst (λ z. StmtOf z (roll-Stmt (Stmt-F.If s t a c))) (sym (ap term_stmt (V.rolls-If s t a c) ∙ T.term_stmt-If s t a c)) (if_is s t a c (term t) (term_stmts a) (term_stmts c) refl refl refl (V.rolls-If s t a c))
stmt_layered (Stmt-F.While s t c) = subst (λ z. StmtOf z (roll-Stmt (Stmt-F.While s t c))) (sym (ap term_stmt (V.rolls-While s t c) ∙ T.term_stmt-While s t c)) (while_is s t c (term t) (term_stmts c) refl refl (V.rolls-While s t c))
stmt_layered (Stmt-F.DoWhile s c t) = subst (λ z. StmtOf z (roll-Stmt (Stmt-F.DoWhile s c t))) (sym (ap term_stmt (V.rolls-DoWhile s c t) ∙ T.term_stmt-DoWhile s c t)) (do_while_is s c t (term_stmts c) (term t) refl refl (V.rolls-DoWhile s c t))
stmt_layered (Stmt-F.For s h t u c) = subst (λ z. StmtOf z (roll-Stmt (Stmt-F.For s h t u c))) (sym (ap term_stmt (V.rolls-For s h t u c) ∙ T.term_stmt-For s h t u c)) (for_is s h t u c (for_init h) (option_term t) (option_term u) (term_stmts c) refl refl refl refl (V.rolls-For s h t u c))
stmt_layered (Stmt-F.ForIn s h t c) = subst (λ z. StmtOf z (roll-Stmt (Stmt-F.ForIn s h t c))) (sym (ap term_stmt (V.rolls-ForIn s h t c) ∙ T.term_stmt-ForIn s h t c)) (for_in_is s h t c (for_target h) (term t) (term_stmts c) refl refl refl (V.rolls-ForIn s h t c))
stmt_layered (Stmt-F.Return s o) = subst (λ z. StmtOf z (roll-Stmt (Stmt-F.Return s o))) (sym (ap term_stmt (V.rolls-Return s o) ∙ T.term_stmt-Return s o)) (return_is s o (option_term o) refl (V.rolls-Return s o))
stmt_layered (Stmt-F.Throw s e) = subst (λ z. StmtOf z (roll-Stmt (Stmt-F.Throw s e))) (sym (ap term_stmt (V.rolls-Throw s e) ∙ T.term_stmt-Throw s e)) (throw_is s e (term e) refl (V.rolls-Throw s e))
stmt_layered (Stmt-F.Break s l) = subst (λ z. StmtOf z (roll-Stmt (Stmt-F.Break s l))) (sym (ap term_stmt (V.rolls-Break s l) ∙ T.term_stmt-Break s l)) (break_is s l (V.rolls-Break s l))
stmt_layered (Stmt-F.Continue s l) = subst (λ z. StmtOf z (roll-Stmt (Stmt-F.Continue s l))) (sym (ap term_stmt (V.rolls-Continue s l) ∙ T.term_stmt-Continue s l)) (continue_is s l (V.rolls-Continue s l))
stmt_layered (Stmt-F.Label s l c) = subst (λ z. StmtOf z (roll-Stmt (Stmt-F.Label s l c))) (sym (ap term_stmt (V.rolls-Label s l c) ∙ T.term_stmt-Label s l c)) (label_is s l c (term_stmts c) refl (V.rolls-Label s l c))
stmt_layered (Stmt-F.Switch s e cs) = subst (λ z. StmtOf z (roll-Stmt (Stmt-F.Switch s e cs))) (sym (ap term_stmt (V.rolls-Switch s e cs) ∙ T.term_stmt-Switch s e cs)) (switch_is s e cs (term e) (term_cases cs) refl refl (V.rolls-Switch s e cs))
stmt_layered (Stmt-F.Try s c k f) = subst (λ z. StmtOf z (roll-Stmt (Stmt-F.Try s c k f))) (sym (ap term_stmt (V.rolls-Try s c k f) ∙ T.term_stmt-Try s c k f)) (try_is s c k f (term_stmts c) (maybe_stmts k) (maybe_stmts f) refl refl refl (V.rolls-Try s c k f))
stmt_layered (Stmt-F.Tick s p) = subst (λ z. StmtOf z (roll-Stmt (Stmt-F.Tick s p))) (sym (ap term_stmt (V.rolls-Tick s p) ∙ T.term_stmt-Tick s p)) (tick_is s p (V.rolls-Tick s p))

stmt_of : (s : Stmt) → StmtOf (term_stmt s) s
stmt_of s = subst (λ z. StmtOf (term_stmt z) z) (roll-out-Stmt s) (stmt_layered (out-Stmt s))

stmt_at : (t : S.Stmt) (a : Stmt) → term_stmt a ≡ t → StmtOf t a
stmt_at t a p = subst (λ z. StmtOf z a) p (stmt_of a)

-- ---- lists

case_made : (t : Option Expr) (b : List Stmt) → term_case (roll-Case (record { test = t; body = b })) ≡ (option_term t, term_stmts b)
unfolding term_case term_stmt term_stmts case_layer
case_made t b = fold-roll-Case S.Stmt CaseTerm stmt_layer case_layer _

case_at : (c : Case) → term_case c ≡ (option_term (out-Case c).test, term_stmts (out-Case c).body)
case_at c = ap term_case (sym (roll-out-Case c)) ∙ case_made (out-Case c).test (out-Case c).body

more_is : (s : Stmt) (ss : List Stmt) (t : S.Stmt) (ts : S.Stmts) → term_stmts (s ∷ ss) ≡ S.more_stmts t ts → (term_stmt s ≡ t) × (term_stmts ss ≡ ts)
more_is s ss t ts p = let q : S.more_stmts (term_stmt s) (term_stmts ss) ≡ S.more_stmts t ts = sym (T.term_stmts-more s ss) ∙ p in (cc, cc)

not_more : (s : Stmt) (ss : List Stmt) → term_stmts (s ∷ ss) ≡ S.no_stmts → ⊥
not_more s ss p = let q : S.more_stmts (term_stmt s) (term_stmts ss) ≡ S.no_stmts = sym (T.term_stmts-more s ss) ∙ p in absurd (cc)

not_none : (t : S.Stmt) (ts : S.Stmts) → term_stmts [] ≡ S.more_stmts t ts → ⊥
not_none t ts p = let q : S.no_stmts ≡ S.more_stmts t ts = sym T.term_stmts-empty ∙ p in absurd (cc)

clause_is : (c : Case) (cs : List Case) (o : Option S.Expr) (b : S.Stmts) (ts : S.Cases) → term_cases (c ∷ cs) ≡ S.more_cases o b ts → (option_term (out-Case c).test ≡ o) × (term_stmts (out-Case c).body ≡ b) × (term_cases cs ≡ ts)
clause_is c cs o b ts p =
    let q : S.more_cases (term_case c).0 (term_case c).1 (term_cases cs) ≡ S.more_cases o b ts = sym (T.term_cases-more c cs) ∙ p in
    let u : (term_case c).0 ≡ o = cc in
    let v : (term_case c).1 ≡ b = cc in
    (sym (ap (λ z. z.0) (case_at c)) ∙ u, sym (ap (λ z. z.1) (case_at c)) ∙ v, cc)

not_clause : (c : Case) (cs : List Case) → term_cases (c ∷ cs) ≡ S.no_cases → ⊥
not_clause c cs p = let q : S.more_cases (term_case c).0 (term_case c).1 (term_cases cs) ≡ S.no_cases = sym (T.term_cases-more c cs) ∙ p in absurd (cc)

no_clause : (o : Option S.Expr) (b : S.Stmts) (ts : S.Cases) → term_cases [] ≡ S.more_cases o b ts → ⊥
no_clause o b ts p = let q : S.no_cases ≡ S.more_cases o b ts = sym T.term_cases-empty ∙ p in absurd (cc)

clause_by : (c d : Case) → (out-Case c).test ≡ (out-Case d).test → (out-Case c).body ≡ (out-Case d).body → c ≡ d
clause_by c d p q =
    sym (roll-out-Case c)
    ∙ ap (λ z. roll-Case (record { test = z; body = (out-Case c).body })) p
    ∙ ap (λ z. roll-Case (record { test = (out-Case d).test; body = z })) q
    ∙ roll-out-Case d

body_is : (b : List Stmt) (t : S.Stmts) → maybe_stmts (Some b) ≡ S.present t → term_stmts b ≡ t
body_is b t p = let q : S.present (term_stmts b) ≡ S.present t = sym (T.maybe_stmts-Some b) ∙ p in cc

is_absent : (b : List Stmt) → maybe_stmts (Some b) ≡ S.absent → ⊥
is_absent b p = let q : S.present (term_stmts b) ≡ S.absent = sym (T.maybe_stmts-Some b) ∙ p in absurd (cc)

is_present : (t : S.Stmts) → maybe_stmts None ≡ S.present t → ⊥
is_present t p = let q : S.absent ≡ S.present t = sym T.maybe_stmts-None ∙ p in absurd (cc)

-- ---- two statements for one plain statement are one

mutual
  same_term_stmt : (t : S.Stmt) (a b : Stmt) → StmtOf t a → StmtOf t b → a ≡ b
  same_term_stmt (S.simple s e') a b (simple_is _ e1 _ p0 left) (simple_is _ e2 _ q0 right) = left ∙ ap (λ z. V.Simple s z) (one_expr e' e1 e2 p0 q0) ∙ sym right
  same_term_stmt (S.vars s ds') a b (var_is _ ds1 _ p0 left) (var_is _ ds2 _ q0 right) = left ∙ ap (λ z. V.Var s z) (one_declarators ds' ds1 ds2 p0 q0) ∙ sym right
  same_term_stmt (S.fun_decl s v f) a b (fun_is _ _ _ left) (fun_is _ _ _ right) = left ∙ sym right
  same_term_stmt (S.if s t' a' c') a b (if_is _ t1 a1 c1 _ _ _ p0 p1 p2 left) (if_is _ t2 a2 c2 _ _ _ q0 q1 q2 right) = left ∙ ap (λ z. V.If s z a1 c1) (one_expr t' t1 t2 p0 q0) ∙ ap (λ z. V.If s t2 z c1) (one_stmts a' a1 a2 p1 q1) ∙ ap (λ z. V.If s t2 a2 z) (one_stmts c' c1 c2 p2 q2) ∙ sym right
  same_term_stmt (S.while s t' c') a b (while_is _ t1 c1 _ _ p0 p1 left) (while_is _ t2 c2 _ _ q0 q1 right) = left ∙ ap (λ z. V.While s z c1) (one_expr t' t1 t2 p0 q0) ∙ ap (λ z. V.While s t2 z) (one_stmts c' c1 c2 p1 q1) ∙ sym right
  same_term_stmt (S.do_while s c' t') a b (do_while_is _ c1 t1 _ _ p0 p1 left) (do_while_is _ c2 t2 _ _ q0 q1 right) = left ∙ ap (λ z. V.DoWhile s z t1) (one_stmts c' c1 c2 p0 q0) ∙ ap (λ z. V.DoWhile s c2 z) (one_expr t' t1 t2 p1 q1) ∙ sym right
  same_term_stmt (S.for s h' t' u' c') a b (for_is _ h1 t1 u1 c1 _ _ _ _ p0 p1 p2 p3 left) (for_is _ h2 t2 u2 c2 _ _ _ _ q0 q1 q2 q3 right) = left ∙ ap (λ z. V.For s z t1 u1 c1) (one_init h' h1 h2 p0 q0) ∙ ap (λ z. V.For s h2 z u1 c1) (one_option t' t1 t2 p1 q1) ∙ ap (λ z. V.For s h2 t2 z c1) (one_option u' u1 u2 p2 q2) ∙ ap (λ z. V.For s h2 t2 u2 z) (one_stmts c' c1 c2 p3 q3) ∙ sym right
  same_term_stmt (S.for_in s h' t' c') a b (for_in_is _ h1 t1 c1 _ _ _ p0 p1 p2 left) (for_in_is _ h2 t2 c2 _ _ _ q0 q1 q2 right) = left ∙ ap (λ z. V.ForIn s z t1 c1) (one_for_target h' h1 h2 p0 q0) ∙ ap (λ z. V.ForIn s h2 z c1) (one_expr t' t1 t2 p1 q1) ∙ ap (λ z. V.ForIn s h2 t2 z) (one_stmts c' c1 c2 p2 q2) ∙ sym right
  same_term_stmt (S.return s o') a b (return_is _ o1 _ p0 left) (return_is _ o2 _ q0 right) = left ∙ ap (λ z. V.Return s z) (one_option o' o1 o2 p0 q0) ∙ sym right
  same_term_stmt (S.throw s e') a b (throw_is _ e1 _ p0 left) (throw_is _ e2 _ q0 right) = left ∙ ap (λ z. V.Throw s z) (one_expr e' e1 e2 p0 q0) ∙ sym right
  same_term_stmt (S.break s l) a b (break_is _ _ left) (break_is _ _ right) = left ∙ sym right
  same_term_stmt (S.continue s l) a b (continue_is _ _ left) (continue_is _ _ right) = left ∙ sym right
  same_term_stmt (S.label s l c') a b (label_is _ _ c1 _ p0 left) (label_is _ _ c2 _ q0 right) = left ∙ ap (λ z. V.Label s l z) (one_stmts c' c1 c2 p0 q0) ∙ sym right
  same_term_stmt (S.switch s e' cs') a b (switch_is _ e1 cs1 _ _ p0 p1 left) (switch_is _ e2 cs2 _ _ q0 q1 right) = left ∙ ap (λ z. V.Switch s z cs1) (one_expr e' e1 e2 p0 q0) ∙ ap (λ z. V.Switch s e2 z) (one_cases cs' cs1 cs2 p1 q1) ∙ sym right
  same_term_stmt (S.try s c' k' f') a b (try_is _ c1 k1 f1 _ _ _ p0 p1 p2 left) (try_is _ c2 k2 f2 _ _ _ q0 q1 q2 right) = left ∙ ap (λ z. V.Try s z k1 f1) (one_stmts c' c1 c2 p0 q0) ∙ ap (λ z. V.Try s c2 z f1) (one_maybe k' k1 k2 p1 q1) ∙ ap (λ z. V.Try s c2 k2 z) (one_maybe f' f1 f2 p2 q2) ∙ sym right
  same_term_stmt (S.pay_stmt s p) a b (tick_is _ _ left) (tick_is _ _ right) = left ∙ sym right

  pub one_stmts : (ts : S.Stmts) (xs ys : List Stmt) → term_stmts xs ≡ ts → term_stmts ys ≡ ts → xs ≡ ys
  one_stmts S.no_stmts [] [] p q = refl
  one_stmts S.no_stmts [] (y ∷ ys) p q = absurd (not_more y ys q)
  one_stmts S.no_stmts (x ∷ xs) ys p q = absurd (not_more x xs p)
  one_stmts (S.more_stmts t ts) [] ys p q = absurd (not_none t ts p)
  one_stmts (S.more_stmts t ts) (x ∷ xs) [] p q = absurd (not_none t ts q)
  one_stmts (S.more_stmts t ts) (x ∷ xs) (y ∷ ys) p q =
      let u = more_is x xs t ts p in
      let v = more_is y ys t ts q in
      ap (λ z. z ∷ xs) (same_term_stmt t x y (stmt_at t x u.0) (stmt_at t y v.0)) ∙ ap (λ z. y ∷ z) (one_stmts ts xs ys u.1 v.1)

  one_cases : (ts : S.Cases) (xs ys : List Case) → term_cases xs ≡ ts → term_cases ys ≡ ts → xs ≡ ys
  one_cases S.no_cases [] [] p q = refl
  one_cases S.no_cases [] (y ∷ ys) p q = absurd (not_clause y ys q)
  one_cases S.no_cases (x ∷ xs) ys p q = absurd (not_clause x xs p)
  one_cases (S.more_cases o b ts) [] ys p q = absurd (no_clause o b ts p)
  one_cases (S.more_cases o b ts) (x ∷ xs) [] p q = absurd (no_clause o b ts q)
  one_cases (S.more_cases o b ts) (x ∷ xs) (y ∷ ys) p q =
      let u = clause_is x xs o b ts p in
      let v = clause_is y ys o b ts q in
      ap (λ z. z ∷ xs) (clause_by x y (one_option o (out-Case x).test (out-Case y).test u.0 v.0) (one_stmts b (out-Case x).body (out-Case y).body u.1 v.1)) ∙ ap (λ z. y ∷ z) (one_cases ts xs ys u.2 v.2)

  one_maybe : (t : S.MaybeStmts) (a b : Option (List Stmt)) → maybe_stmts a ≡ t → maybe_stmts b ≡ t → a ≡ b
  one_maybe S.absent None None p q = refl
  one_maybe S.absent None (Some b) p q = absurd (is_absent b q)
  one_maybe S.absent (Some a) b p q = absurd (is_absent a p)
  one_maybe (S.present t) None b p q = absurd (is_present t p)
  one_maybe (S.present t) (Some a) None p q = absurd (is_present t q)
  one_maybe (S.present t) (Some a) (Some b) p q = ap Some (one_stmts t a b (body_is a t p) (body_is b t q))

-- Back from plain statements to those of src/, and with it the code of a list of statements.
use Rattle.std.specs.Prelude.{◌≡◌, List, [], ◌∷◌, map, Option, Some, None}
use Rattle.std.specs.Coded.{Coded, code_by, coded_list}
use Rattle.std.proofs.Common.{refl, ap, ◌∙◌}
use Rattle.cc_ast.specs.declared.tree.Expr.{Expr}
use Rattle.cc_ast.specs.declared.tree.Stmt.{Stmt}
use Rattle.cc_ast.specs.declared.tree.Stmt.TheVariants as V
use Rattle.cc_ast.specs.declared.tree.Stmt.TheFolds.{fold-roll-Case}
use Rattle.cc_ast.specs.declared.tree.Case.{Case, roll-Case}
use Rattle.cc_ast.specs.declared.tree.Declarator.{Declarator}
use Rattle.cc_ast.specs.declared.tree.ForInit.{ForInit}
use Rattle.cc_ast.specs.declared.tree.ForInit.TheVariants as init
use Rattle.cc_ast.specs.declared.tree.ForTarget.{ForTarget}
use Rattle.cc_ast.specs.declared.tree.ForTarget.TheVariants as to
use Rattle.cc_ast.specs.contracts.tree.Stmt as row
use Rattle.cc_ast.specs.Syntax as S
use Rattle.cc_ast.specs.Bridge.{term, option_term}
use Rattle.cc_ast.specs.StmtBridge.{CaseTerm, case_layer, stmt_layer, term_stmt, term_case, term_stmts, term_cases, maybe_stmts, declarator, for_init, for_target}
use Rattle.cc_ast.specs.StmtTerms as T
use Rattle.cc_ast.specs.Trees.{tree, target_tree, term-tree, target-tree}

abbrev pub option_tree : Option S.Expr → Option Expr
option_tree None = None
option_tree (Some e) = Some (tree e)

pub option_term-tree : (e : Option S.Expr) → option_term (option_tree e) ≡ e
unfolding option_term
option_term-tree None = refl
option_term-tree (Some e) = ap Some (term-tree e)

abbrev pub declarator_tree : S.Declarator → Declarator
declarator_tree d = record { site = d.site; variable = d.variable; value = option_tree d.value }

pub declarator-tree : (d : S.Declarator) → declarator (declarator_tree d) ≡ d
unfolding declarator
declarator-tree d = ap (λ (v : Option S.Expr). let r : S.Declarator = record { site = d.site; variable = d.variable; value = v } in r) (option_term-tree d.value)

abbrev pub declarator_trees : List S.Declarator → List Declarator
declarator_trees [] = []
declarator_trees (d ∷ ds) = declarator_tree d ∷ declarator_trees ds

pub declarators-trees : (ds : List S.Declarator) → map declarator (declarator_trees ds) ≡ ds
declarators-trees [] = refl
declarators-trees (d ∷ ds) = ap (λ x. x ∷ map declarator (declarator_trees ds)) (declarator-tree d) ∙ ap (λ x. d ∷ x) (declarators-trees ds)

abbrev pub init_tree : S.ForInit → ForInit
init_tree S.no_init = init.Nothing
init_tree (S.init_value e) = init.Value (tree e)
init_tree (S.init_vars ds) = init.Declared (declarator_trees ds)

pub init-tree : (i : S.ForInit) → for_init (init_tree i) ≡ i
unfolding for_init
init-tree S.no_init = refl
init-tree (S.init_value e) = ap S.init_value (term-tree e)
init-tree (S.init_vars ds) = ap S.init_vars (declarators-trees ds)

abbrev pub for_target_tree : S.ForTarget → ForTarget
for_target_tree (S.in_target t) = to.Target (target_tree t)
for_target_tree (S.in_declared d) = to.Declared (declarator_tree d)

pub for_target-tree : (t : S.ForTarget) → for_target (for_target_tree t) ≡ t
unfolding for_target
for_target-tree (S.in_target t) = ap S.in_target (target-tree t)
for_target-tree (S.in_declared d) = ap S.in_declared (declarator-tree d)

abbrev pub case_tree : Option Expr → List Stmt → Case
case_tree t b = roll-Case (record { test = t; body = b })

pub case-tree : (t : Option Expr) (b : List Stmt) → term_case (case_tree t b) ≡ (option_term t, term_stmts b)
unfolding term_case term_stmts term_stmt case_layer
case-tree t b = fold-roll-Case S.Stmt CaseTerm stmt_layer case_layer _

abbrev mutual
  pub stmt_tree : S.Stmt → Stmt
  stmt_tree (S.simple s e) = V.Simple s (tree e)
  stmt_tree (S.vars s ds) = V.Var s (declarator_trees ds)
  stmt_tree (S.fun_decl s r f) = V.Fun s r f
  stmt_tree (S.if s t a b) = V.If s (tree t) (stmt_trees a) (stmt_trees b)
  stmt_tree (S.while s t b) = V.While s (tree t) (stmt_trees b)
  stmt_tree (S.do_while s b t) = V.DoWhile s (stmt_trees b) (tree t)
  stmt_tree (S.for s i t u b) = V.For s (init_tree i) (option_tree t) (option_tree u) (stmt_trees b)
  stmt_tree (S.for_in s t e b) = V.ForIn s (for_target_tree t) (tree e) (stmt_trees b)
  stmt_tree (S.return s e) = V.Return s (option_tree e)
  stmt_tree (S.throw s e) = V.Throw s (tree e)
  stmt_tree (S.break s l) = V.Break s l
  stmt_tree (S.continue s l) = V.Continue s l
  stmt_tree (S.label s l b) = V.Label s l (stmt_trees b)
  stmt_tree (S.switch s e cs) = V.Switch s (tree e) (case_trees cs)
  stmt_tree (S.try s b c f) = V.Try s (stmt_trees b) (maybe_trees c) (maybe_trees f)
  stmt_tree (S.pay_stmt s p) = V.Tick s p

  pub stmt_trees : S.Stmts → List Stmt
  stmt_trees S.no_stmts = []
  stmt_trees (S.more_stmts s ss) = stmt_tree s ∷ stmt_trees ss

  pub maybe_trees : S.MaybeStmts → Option (List Stmt)
  maybe_trees S.absent = None
  maybe_trees (S.present b) = Some (stmt_trees b)

  pub case_trees : S.Cases → List Case
  case_trees S.no_cases = []
  case_trees (S.more_cases t b cs) = case_tree (option_tree t) (stmt_trees b) ∷ case_trees cs

mutual
  pub stmt-tree : (s : S.Stmt) → term_stmt (stmt_tree s) ≡ s
  stmt-tree (S.simple s e) = T.term_stmt-Simple s (tree e) ∙ ap (λ x. S.simple s x) (term-tree e)
  stmt-tree (S.vars s ds) = T.term_stmt-Var s (declarator_trees ds) ∙ ap (λ x. S.vars s x) (declarators-trees ds)
  stmt-tree (S.fun_decl s r f) = T.term_stmt-Fun s r f
  stmt-tree (S.if s t a b) = T.term_stmt-If s (tree t) (stmt_trees a) (stmt_trees b) ∙ ap (λ x. S.if s x (term_stmts (stmt_trees a)) (term_stmts (stmt_trees b))) (term-tree t) ∙ ap (λ x. S.if s t x (term_stmts (stmt_trees b))) (stmts-trees a) ∙ ap (λ x. S.if s t a x) (stmts-trees b)
  stmt-tree (S.while s t b) = T.term_stmt-While s (tree t) (stmt_trees b) ∙ ap (λ x. S.while s x (term_stmts (stmt_trees b))) (term-tree t) ∙ ap (λ x. S.while s t x) (stmts-trees b)
  stmt-tree (S.do_while s b t) = T.term_stmt-DoWhile s (stmt_trees b) (tree t) ∙ ap (λ x. S.do_while s x (term (tree t))) (stmts-trees b) ∙ ap (λ x. S.do_while s b x) (term-tree t)
  stmt-tree (S.for s i t u b) = T.term_stmt-For s (init_tree i) (option_tree t) (option_tree u) (stmt_trees b) ∙ ap (λ x. S.for s x (option_term (option_tree t)) (option_term (option_tree u)) (term_stmts (stmt_trees b))) (init-tree i) ∙ ap (λ x. S.for s i x (option_term (option_tree u)) (term_stmts (stmt_trees b))) (option_term-tree t) ∙ ap (λ x. S.for s i t x (term_stmts (stmt_trees b))) (option_term-tree u) ∙ ap (λ x. S.for s i t u x) (stmts-trees b)
  stmt-tree (S.for_in s t e b) = T.term_stmt-ForIn s (for_target_tree t) (tree e) (stmt_trees b) ∙ ap (λ x. S.for_in s x (term (tree e)) (term_stmts (stmt_trees b))) (for_target-tree t) ∙ ap (λ x. S.for_in s t x (term_stmts (stmt_trees b))) (term-tree e) ∙ ap (λ x. S.for_in s t e x) (stmts-trees b)
  stmt-tree (S.return s e) = T.term_stmt-Return s (option_tree e) ∙ ap (λ x. S.return s x) (option_term-tree e)
  stmt-tree (S.throw s e) = T.term_stmt-Throw s (tree e) ∙ ap (λ x. S.throw s x) (term-tree e)
  stmt-tree (S.break s l) = T.term_stmt-Break s l
  stmt-tree (S.continue s l) = T.term_stmt-Continue s l
  stmt-tree (S.label s l b) = T.term_stmt-Label s l (stmt_trees b) ∙ ap (λ x. S.label s l x) (stmts-trees b)
  stmt-tree (S.switch s e cs) = T.term_stmt-Switch s (tree e) (case_trees cs) ∙ ap (λ x. S.switch s x (term_cases (case_trees cs))) (term-tree e) ∙ ap (λ x. S.switch s e x) (cases-trees cs)
  stmt-tree (S.try s b c f) = T.term_stmt-Try s (stmt_trees b) (maybe_trees c) (maybe_trees f) ∙ ap (λ x. S.try s x (maybe_stmts (maybe_trees c)) (maybe_stmts (maybe_trees f))) (stmts-trees b) ∙ ap (λ x. S.try s b x (maybe_stmts (maybe_trees f))) (maybe-trees c) ∙ ap (λ x. S.try s b c x) (maybe-trees f)
  stmt-tree (S.pay_stmt s p) = T.term_stmt-Tick s p

  pub stmts-trees : (ss : S.Stmts) → term_stmts (stmt_trees ss) ≡ ss
  stmts-trees S.no_stmts = T.term_stmts-empty
  stmts-trees (S.more_stmts s ss) = T.term_stmts-more (stmt_tree s) (stmt_trees ss) ∙ ap (λ x. S.more_stmts x (term_stmts (stmt_trees ss))) (stmt-tree s) ∙ ap (λ x. S.more_stmts s x) (stmts-trees ss)

  pub maybe-trees : (b : S.MaybeStmts) → maybe_stmts (maybe_trees b) ≡ b
  maybe-trees S.absent = T.maybe_stmts-None
  maybe-trees (S.present b) = T.maybe_stmts-Some (stmt_trees b) ∙ ap S.present (stmts-trees b)

  pub cases-trees : (cs : S.Cases) → term_cases (case_trees cs) ≡ cs
  cases-trees S.no_cases = T.term_cases-empty
  cases-trees (S.more_cases t b cs) = T.term_cases-more (case_tree (option_tree t) (stmt_trees b)) (case_trees cs) ∙ ap (λ (x : CaseTerm). S.more_cases x.0 x.1 (term_cases (case_trees cs))) (case-tree (option_tree t) (stmt_trees b)) ∙ ap (λ x. S.more_cases x (term_stmts (stmt_trees b)) (term_cases (case_trees cs))) (option_term-tree t) ∙ ap (λ x. S.more_cases t x (term_cases (case_trees cs))) (stmts-trees b) ∙ ap (λ x. S.more_cases t b x) (cases-trees cs)

-- a list of statements is known by the trees that it stands for
abbrev pub coded_stmts : Coded S.Stmts
coded_stmts = code_by (List Stmt) (coded_list row.the_row.coded) stmt_trees term_stmts stmts-trees

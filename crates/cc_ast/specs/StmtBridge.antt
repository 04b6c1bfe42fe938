-- The plain statement that a statement of src/ stands for, level by level.
use Rattle.std.specs.Option.{option_map}
use Rattle.std.specs.Prelude.{List, [], ◌∷◌, Option, Some, None, map}
use Rattle.cc_ast.specs.declared.tree.Stmt as Tree
use Rattle.cc_ast.specs.declared.tree.Stmt.TheOpen.{Stmt-F, Case-F}
use Rattle.cc_ast.specs.declared.tree.Stmt.TheFolds.{fold-Stmt, fold-Case}
use Rattle.cc_ast.specs.declared.tree.Case.{Case}
use Rattle.cc_ast.specs.declared.tree.Declarator.{Declarator}
use Rattle.cc_ast.specs.declared.tree.ForInit.{ForInit}
use Rattle.cc_ast.specs.declared.tree.ForInit.TheVariants as init
use Rattle.cc_ast.specs.declared.tree.ForTarget.{ForTarget}
use Rattle.cc_ast.specs.declared.tree.ForTarget.TheVariants as to
use Rattle.cc_ast.specs.Syntax as S
use Rattle.cc_ast.specs.Bridge.{term, target, option_term}

unfoldable pub stmts : List S.Stmt → S.Stmts
stmts [] = S.no_stmts
stmts (s ∷ ss) = S.more_stmts s (stmts ss)

unfoldable pub declarator : Declarator → S.Declarator
declarator d = record { site = d.site; variable = d.variable; value = option_term d.value }

unfoldable pub for_init : ForInit → S.ForInit
for_init init.Nothing = S.no_init
for_init (init.Value e) = S.init_value (term e)
for_init (init.Declared ds) = S.init_vars (map declarator ds)

unfoldable pub for_target : ForTarget → S.ForTarget
for_target (to.Target t) = S.in_target (target t)
for_target (to.Declared d) = S.in_declared (declarator d)

unfoldable pub maybe : Option (List S.Stmt) → S.MaybeStmts
maybe None = S.absent
maybe (Some b) = S.present (stmts b)

-- a clause of a `switch`, with its statements
abbrev pub CaseTerm : Type 0
CaseTerm = Option S.Expr × S.Stmts

unfoldable pub cases : List CaseTerm → S.Cases
cases [] = S.no_cases
cases (c ∷ cs) = S.more_cases c.0 c.1 (cases cs)

unfoldable pub case_layer : Case-F S.Stmt CaseTerm → CaseTerm
case_layer c = (option_term c.test, stmts c.body)

unfoldable pub stmt_layer : Stmt-F S.Stmt CaseTerm → S.Stmt
stmt_layer (Stmt-F.Simple s e) = S.simple s (term e)
stmt_layer (Stmt-F.Var s ds) = S.vars s (map declarator ds)
stmt_layer (Stmt-F.Fun s r f) = S.fun_decl s r f
stmt_layer (Stmt-F.If s t a b) = S.if s (term t) (stmts a) (stmts b)
stmt_layer (Stmt-F.While s t b) = S.while s (term t) (stmts b)
stmt_layer (Stmt-F.DoWhile s b t) = S.do_while s (stmts b) (term t)
stmt_layer (Stmt-F.For s i t u b) = S.for s (for_init i) (option_term t) (option_term u) (stmts b)
stmt_layer (Stmt-F.ForIn s t e b) = S.for_in s (for_target t) (term e) (stmts b)
stmt_layer (Stmt-F.Return s e) = S.return s (option_term e)
stmt_layer (Stmt-F.Throw s e) = S.throw s (term e)
stmt_layer (Stmt-F.Break s l) = S.break s l
stmt_layer (Stmt-F.Continue s l) = S.continue s l
stmt_layer (Stmt-F.Label s l b) = S.label s l (stmts b)
stmt_layer (Stmt-F.Switch s e cs) = S.switch s (term e) (cases cs)
stmt_layer (Stmt-F.Try s b c f) = S.try s (stmts b) (maybe c) (maybe f)
stmt_layer (Stmt-F.Tick s p) = S.pay_stmt s p

unfoldable pub term_stmt : Tree.Stmt → S.Stmt
term_stmt = fold-Stmt S.Stmt CaseTerm stmt_layer case_layer

unfoldable pub term_case : Case → CaseTerm
term_case = fold-Case S.Stmt CaseTerm stmt_layer case_layer

unfoldable pub term_stmts : List Tree.Stmt → S.Stmts
term_stmts ss = stmts (map term_stmt ss)

unfoldable pub term_cases : List Case → S.Cases
term_cases cs = cases (map term_case cs)

unfoldable pub maybe_stmts : Option (List Tree.Stmt) → S.MaybeStmts
maybe_stmts b = maybe (option_map (map term_stmt) b)

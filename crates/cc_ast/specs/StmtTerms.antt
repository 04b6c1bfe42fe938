-- The bridge from the statements of src/ to plain ones: one equation a variant, and the set of them.
use Rattle.std.specs.Prelude.{◌≡◌, ℕ, List, [], ◌∷◌, map, Option, Some, None}
use Rattle.std.proofs.Common.{refl, sym, ap, ◌∙◌}
use Rattle.cc_ast.specs.declared.tree.Expr.{Expr}
use Rattle.cc_ast.specs.declared.tree.Stmt.{Stmt}
use Rattle.cc_ast.specs.declared.tree.Stmt.TheVariants as V
use Rattle.cc_ast.specs.declared.tree.Stmt.TheFolds.{fold-roll-Stmt}
use Rattle.cc_ast.specs.declared.tree.Case.{Case}
use Rattle.cc_ast.specs.declared.tree.Ref.{Ref}
use Rattle.cc_ast.specs.declared.tree.Declarator.{Declarator}
use Rattle.cc_ast.specs.declared.tree.ForInit.{ForInit}
use Rattle.cc_ast.specs.declared.tree.ForTarget.{ForTarget}
use Rattle.cc_ast.specs.Syntax as S
use Rattle.cc_ast.specs.Bridge.{term, option_term}
use Rattle.cc_ast.specs.StmtBridge.{stmts, maybe, cases, CaseTerm, case_layer, stmt_layer, term_stmt, term_case, term_stmts, term_cases, maybe_stmts, declarator, for_init, for_target}

pub term_stmt-Simple : (s : ℕ) (e : Expr) → term_stmt (V.Simple s e) ≡ S.simple s (term e)
unfolding term_stmt term_case term_stmts term_cases stmt_layer
term_stmt-Simple s e = ap term_stmt (sym (V.rolls-Simple s e)) ∙ fold-roll-Stmt S.Stmt CaseTerm stmt_layer case_layer _

pub term_stmt-Var : (s : ℕ) (ds : List Declarator) → term_stmt (V.Var s ds) ≡ S.vars s (map declarator ds)
unfolding term_stmt term_case term_stmts term_cases stmt_layer
term_stmt-Var s ds = ap term_stmt (sym (V.rolls-Var s ds)) ∙ fold-roll-Stmt S.Stmt CaseTerm stmt_layer case_layer _

pub term_stmt-Fun : (s : ℕ) (r : Ref) (f : ℕ) → term_stmt (V.Fun s r f) ≡ S.fun_decl s r f
unfolding term_stmt term_case term_stmts term_cases stmt_layer
term_stmt-Fun s r f = ap term_stmt (sym (V.rolls-Fun s r f)) ∙ fold-roll-Stmt S.Stmt CaseTerm stmt_layer case_layer _

pub term_stmt-If : (s : ℕ) (t : Expr) (a b : List Stmt) → term_stmt (V.If s t a b) ≡ S.if s (term t) (term_stmts a) (term_stmts b)
unfolding term_stmt term_case term_stmts term_cases stmt_layer
term_stmt-If s t a b = ap term_stmt (sym (V.rolls-If s t a b)) ∙ fold-roll-Stmt S.Stmt CaseTerm stmt_layer case_layer _

pub term_stmt-While : (s : ℕ) (t : Expr) (b : List Stmt) → term_stmt (V.While s t b) ≡ S.while s (term t) (term_stmts b)
unfolding term_stmt term_case term_stmts term_cases stmt_layer
term_stmt-While s t b = ap term_stmt (sym (V.rolls-While s t b)) ∙ fold-roll-Stmt S.Stmt CaseTerm stmt_layer case_layer _

pub term_stmt-DoWhile : (s : ℕ) (b : List Stmt) (t : Expr) → term_stmt (V.DoWhile s b t) ≡ S.do_while s (term_stmts b) (term t)
unfolding term_stmt term_case term_stmts term_cases stmt_layer
term_stmt-DoWhile s b t = ap term_stmt (sym (V.rolls-DoWhile s b t)) ∙ fold-roll-Stmt S.Stmt CaseTerm stmt_layer case_layer _

pub term_stmt-For : (s : ℕ) (i : ForInit) (t u : Option Expr) (b : List Stmt) → term_stmt (V.For s i t u b) ≡ S.for s (for_init i) (option_term t) (option_term u) (term_stmts b)
unfolding term_stmt term_case term_stmts term_cases stmt_layer
term_stmt-For s i t u b = ap term_stmt (sym (V.rolls-For s i t u b)) ∙ fold-roll-Stmt S.Stmt CaseTerm stmt_layer case_layer _

pub term_stmt-ForIn : (s : ℕ) (t : ForTarget) (e : Expr) (b : List Stmt) → term_stmt (V.ForIn s t e b) ≡ S.for_in s (for_target t) (term e) (term_stmts b)
unfolding term_stmt term_case term_stmts term_cases stmt_layer
term_stmt-ForIn s t e b = ap term_stmt (sym (V.rolls-ForIn s t e b)) ∙ fold-roll-Stmt S.Stmt CaseTerm stmt_layer case_layer _

pub term_stmt-Return : (s : ℕ) (e : Option Expr) → term_stmt (V.Return s e) ≡ S.return s (option_term e)
unfolding term_stmt term_case term_stmts term_cases stmt_layer
term_stmt-Return s e = ap term_stmt (sym (V.rolls-Return s e)) ∙ fold-roll-Stmt S.Stmt CaseTerm stmt_layer case_layer _

pub term_stmt-Throw : (s : ℕ) (e : Expr) → term_stmt (V.Throw s e) ≡ S.throw s (term e)
unfolding term_stmt term_case term_stmts term_cases stmt_layer
term_stmt-Throw s e = ap term_stmt (sym (V.rolls-Throw s e)) ∙ fold-roll-Stmt S.Stmt CaseTerm stmt_layer case_layer _

pub term_stmt-Break : (s : ℕ) (l : Option (List ℕ)) → term_stmt (V.Break s l) ≡ S.break s l
unfolding term_stmt term_case term_stmts term_cases stmt_layer
term_stmt-Break s l = ap term_stmt (sym (V.rolls-Break s l)) ∙ fold-roll-Stmt S.Stmt CaseTerm stmt_layer case_layer _

pub term_stmt-Continue : (s : ℕ) (l : Option (List ℕ)) → term_stmt (V.Continue s l) ≡ S.continue s l
unfolding term_stmt term_case term_stmts term_cases stmt_layer
term_stmt-Continue s l = ap term_stmt (sym (V.rolls-Continue s l)) ∙ fold-roll-Stmt S.Stmt CaseTerm stmt_layer case_layer _

pub term_stmt-Label : (s : ℕ) (l : List ℕ) (b : List Stmt) → term_stmt (V.Label s l b) ≡ S.label s l (term_stmts b)
unfolding term_stmt term_case term_stmts term_cases stmt_layer
term_stmt-Label s l b = ap term_stmt (sym (V.rolls-Label s l b)) ∙ fold-roll-Stmt S.Stmt CaseTerm stmt_layer case_layer _

pub term_stmt-Switch : (s : ℕ) (e : Expr) (cs : List Case) → term_stmt (V.Switch s e cs) ≡ S.switch s (term e) (term_cases cs)
unfolding term_stmt term_case term_stmts term_cases stmt_layer
term_stmt-Switch s e cs = ap term_stmt (sym (V.rolls-Switch s e cs)) ∙ fold-roll-Stmt S.Stmt CaseTerm stmt_layer case_layer _

pub term_stmt-Try : (s : ℕ) (b : List Stmt) (c f : Option (List Stmt)) → term_stmt (V.Try s b c f) ≡ S.try s (term_stmts b) (maybe_stmts c) (maybe_stmts f)
unfolding term_stmt term_stmts maybe_stmts stmt_layer
term_stmt-Try s b None None = ap term_stmt (sym (V.rolls-Try s b None None)) ∙ fold-roll-Stmt S.Stmt CaseTerm stmt_layer case_layer _
term_stmt-Try s b None (Some f) = ap term_stmt (sym (V.rolls-Try s b None (Some f))) ∙ fold-roll-Stmt S.Stmt CaseTerm stmt_layer case_layer _
term_stmt-Try s b (Some c) None = ap term_stmt (sym (V.rolls-Try s b (Some c) None)) ∙ fold-roll-Stmt S.Stmt CaseTerm stmt_layer case_layer _
term_stmt-Try s b (Some c) (Some f) = ap term_stmt (sym (V.rolls-Try s b (Some c) (Some f))) ∙ fold-roll-Stmt S.Stmt CaseTerm stmt_layer case_layer _

pub term_stmt-Tick : (s p : ℕ) → term_stmt (V.Tick s p) ≡ S.pay_stmt s p
unfolding term_stmt term_case term_stmts term_cases stmt_layer
term_stmt-Tick s p = ap term_stmt (sym (V.rolls-Tick s p)) ∙ fold-roll-Stmt S.Stmt CaseTerm stmt_layer case_layer _

pub term_stmts-empty : term_stmts [] ≡ S.no_stmts
unfolding term_stmts stmts
term_stmts-empty = refl

pub term_stmts-more : (s : Stmt) (ss : List Stmt) → term_stmts (s ∷ ss) ≡ S.more_stmts (term_stmt s) (term_stmts ss)
unfolding term_stmts stmts
term_stmts-more s ss = refl

pub term_cases-empty : term_cases [] ≡ S.no_cases
unfolding term_cases cases
term_cases-empty = refl

pub term_cases-more : (c : Case) (cs : List Case) → term_cases (c ∷ cs) ≡ S.more_cases (term_case c).0 (term_case c).1 (term_cases cs)
unfolding term_cases cases
term_cases-more c cs = refl

pub maybe_stmts-None : maybe_stmts None ≡ S.absent
unfolding maybe_stmts maybe
maybe_stmts-None = refl

pub maybe_stmts-Some : (b : List Stmt) → maybe_stmts (Some b) ≡ S.present (term_stmts b)
unfolding maybe_stmts maybe term_stmts
maybe_stmts-Some b = refl

pub ruleset stmt_steps = (term_stmt-Simple, term_stmt-Var, term_stmt-Fun, term_stmt-If, term_stmt-While, term_stmt-DoWhile, term_stmt-For, term_stmt-ForIn, term_stmt-Return, term_stmt-Throw, term_stmt-Break, term_stmt-Continue, term_stmt-Label, term_stmt-Switch, term_stmt-Try, term_stmt-Tick, term_stmts-empty, term_stmts-more, term_cases-empty, term_cases-more, maybe_stmts-None, maybe_stmts-Some)

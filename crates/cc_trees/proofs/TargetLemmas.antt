-- What is no variable, access or cast, is no target.
use Rattle.std.specs.Prelude.{ℤ}
use Rattle.std.proofs.Common.{◌≡◌, ◌∙◌, sym, ap, subst, ℕ, suc, ◌<◌, false, List, None, arith}
use Rattle.cc_ast.specs.declared.place.Place.{Place}
use Rattle.cc_ast.specs.declared.operator.UnOp.TheVariants as u
use Rattle.cc_grammar.specs.RawTree as S
use Rattle.cc_grammar.specs.Signs.{target_of, is_variable, unary_tree}
use Rattle.cc_raw.specs.declared.tree.RawExpr.{RawExpr, out-RawExpr, roll-RawExpr, roll-out-RawExpr}
use Rattle.cc_raw.specs.declared.tree.RawExpr.TheOpen.{RawExpr-F}
use Rattle.cc_raw.specs.declared.tree.RawExpr.TheVariants as V
use Rattle.cc_raw.specs.declared.tree.RawExpr.TheFolds.{fold-roll-RawExpr}
use Rattle.cc_raw.specs.declared.tree.RawForTarget.{RawForTarget}
use Rattle.cc_raw.specs.declared.tree.RawInit.{RawInit}
use Rattle.cc_raw.specs.declared.tree.RawStmt.{RawStmt}
use Rattle.cc_raw.specs.declared.tree.RawTarget.{RawTarget}
use Rattle.cc_raw.specs.declared.tree.RawCase.{RawCase}
use Rattle.cc_raw.specs.declared.tree.RawCatch.{RawCatch}
use Rattle.cc_raw.specs.declared.tree.RawDeclaration.{RawDeclaration}
use Rattle.cc_raw.specs.declared.tree.RawDeclarator.{RawDeclarator}
use Rattle.cc_raw.specs.declared.tree.RawField.{RawField}
use Rattle.cc_raw.specs.declared.tree.RawForHead.{RawForHead}
use Rattle.cc_raw.specs.declared.tree.RawFunction.{RawFunction}
use Rattle.cc_raw.specs.declared.tree.RawHandlers.{RawHandlers}
use Rattle.cc_raw.specs.Bridge.{FieldTerm, DeclaratorTerm, DeclarationTerm, CaseTerm, CatchTerm, ForHeadTerm, FunctionTerm, HandlersTerm, expr_layer, target_layer, init_layer, for_target_layer, stmt_layer, case_layer, catch_layer, declaration_layer, declarator_layer, field_layer, for_head_layer, function_layer, handlers_layer, raw_expr, raw_target, raw_init, raw_for_target, raw_stmt, raw_case, raw_catch, raw_declaration, raw_declarator, raw_field, raw_for_head, raw_function, raw_handlers, raw_exprs, raw_fields, raw_declarators, raw_stmts, raw_cases, raw_option, raw_catches, raw_finally}
use Rattle.cc_raw.specs.Terms.{raw_expr-Cast}

abbrev Layer : Type 0
Layer = RawExpr-F RawExpr RawForTarget RawInit RawStmt RawTarget RawCase RawCatch RawDeclaration RawDeclarator RawField RawForHead RawFunction RawHandlers

-- the expression is none of these
abbrev NoVar : RawExpr → Type 0
NoVar e = (p : Place) (n : List ℕ) → e ≡ V.Var p n → ⊥

abbrev NoMember : RawExpr → Type 0
NoMember e = (p : Place) (a : RawExpr) (q : Place) (n : List ℕ) → e ≡ V.Member p a q n → ⊥

abbrev NoIndex : RawExpr → Type 0
NoIndex e = (p : Place) (a b : RawExpr) → e ≡ V.Index p a b → ⊥

abbrev NoCast : RawExpr → Type 0
NoCast e = (p : Place) (a : RawExpr) → e ≡ V.Cast p a → ⊥

target_at : (x : Layer) → NoVar (roll-RawExpr x) → NoMember (roll-RawExpr x) → NoIndex (roll-RawExpr x) → NoCast (roll-RawExpr x) → target_of (raw_expr (roll-RawExpr x)) ≡ None
unfolding raw_expr raw_target raw_init raw_for_target raw_stmt raw_case raw_catch raw_declaration raw_declarator raw_field raw_for_head raw_function raw_handlers raw_exprs raw_fields raw_declarators raw_stmts raw_cases raw_option raw_catches raw_finally expr_layer
target_at (RawExpr-F.Var p n) v m i c = absurd (v p n (V.rolls-Var p n))
target_at (RawExpr-F.Member p a q n) v m i c = absurd (m p a q n (V.rolls-Member p a q n))
target_at (RawExpr-F.Index p a b) v m i c = absurd (i p a b (V.rolls-Index p a b))
target_at (RawExpr-F.Cast p a) v m i c = absurd (c p a (V.rolls-Cast p a))
target_at x v m i c = ap target_of (fold-roll-RawExpr S.RawExpr S.RawForTarget S.RawInit S.RawStmt S.RawTarget CaseTerm CatchTerm DeclarationTerm DeclaratorTerm FieldTerm ForHeadTerm FunctionTerm HandlersTerm expr_layer for_target_layer init_layer stmt_layer target_layer case_layer catch_layer declaration_layer declarator_layer field_layer for_head_layer function_layer handlers_layer x)

pub no_target : (e : RawExpr) → NoVar e → NoMember e → NoIndex e → NoCast e → target_of (raw_expr e) ≡ None
no_target e v m i c =
    let r = roll-out-RawExpr e in
    subst (λ x. target_of (raw_expr x) ≡ None) r (target_at (out-RawExpr e) (λ p n q. v p n (sym r ∙ q)) (λ p a k n q. m p a k n (sym r ∙ q)) (λ p a b q. i p a b (sym r ∙ q)) (λ p a q. c p a (sym r ∙ q)))

variable_at : (x : Layer) → NoVar (roll-RawExpr x) → NoCast (roll-RawExpr x) → is_variable (raw_expr (roll-RawExpr x)) ≡ false
unfolding raw_expr raw_target raw_init raw_for_target raw_stmt raw_case raw_catch raw_declaration raw_declarator raw_field raw_for_head raw_function raw_handlers raw_exprs raw_fields raw_declarators raw_stmts raw_cases raw_option raw_catches raw_finally expr_layer
variable_at (RawExpr-F.Var p n) v c = absurd (v p n (V.rolls-Var p n))
variable_at (RawExpr-F.Cast p a) v c = absurd (c p a (V.rolls-Cast p a))
variable_at x v c = ap is_variable (fold-roll-RawExpr S.RawExpr S.RawForTarget S.RawInit S.RawStmt S.RawTarget CaseTerm CatchTerm DeclarationTerm DeclaratorTerm FieldTerm ForHeadTerm FunctionTerm HandlersTerm expr_layer for_target_layer init_layer stmt_layer target_layer case_layer catch_layer declaration_layer declarator_layer field_layer for_head_layer function_layer handlers_layer x)

pub no_variable : (e : RawExpr) → NoVar e → NoCast e → is_variable (raw_expr e) ≡ false
no_variable e v c =
    let r = roll-out-RawExpr e in
    subst (λ x. is_variable (raw_expr x) ≡ false) r (variable_at (out-RawExpr e) (λ p n q. v p n (sym r ∙ q)) (λ p a q. c p a (sym r ∙ q)))

pub cast_target : (p : Place) (a : RawExpr) → target_of (raw_expr (V.Cast p a)) ≡ target_of (raw_expr a)
cast_target p a = ap target_of (raw_expr-Cast p a)

-- ---- how many casts stand around an expression

pub casts : S.RawExpr → ℕ
casts (S.cast p a) = suc (casts a)
casts _ = 0

pub fewer_casts : (p : Place) (a e r : RawExpr) → e ≡ V.Cast p a → r ≡ a → casts (raw_expr r) < casts (raw_expr e)
unfolding casts
fewer_casts p a e r i s =
    let q : casts (raw_expr e) ≡ suc (casts (raw_expr r)) = ap (λ x. casts (raw_expr x)) i ∙ ap casts (raw_expr-Cast p a) ∙ ap (λ x. suc (casts (raw_expr x))) (sym s) in
    omega (arith, q)

-- ---- a minus or `void` before what is no whole literal

abbrev NoWhole : RawExpr → Type 0
NoWhole e = (p : Place) (z : ℤ) → e ≡ V.Whole p z → ⊥

minus_at : (x : Layer) (p : Place) → NoWhole (roll-RawExpr x) → unary_tree u.Minus p (raw_expr (roll-RawExpr x)) ≡ S.unary p u.Minus (raw_expr (roll-RawExpr x))
unfolding raw_expr raw_target raw_init raw_for_target raw_stmt raw_case raw_catch raw_declaration raw_declarator raw_field raw_for_head raw_function raw_handlers raw_exprs raw_fields raw_declarators raw_stmts raw_cases raw_option raw_catches raw_finally expr_layer
minus_at (RawExpr-F.Whole q z) p w = absurd (w q z (V.rolls-Whole q z))
minus_at x p w = let e = fold-roll-RawExpr S.RawExpr S.RawForTarget S.RawInit S.RawStmt S.RawTarget CaseTerm CatchTerm DeclarationTerm DeclaratorTerm FieldTerm ForHeadTerm FunctionTerm HandlersTerm expr_layer for_target_layer init_layer stmt_layer target_layer case_layer catch_layer declaration_layer declarator_layer field_layer for_head_layer function_layer handlers_layer x in ap (unary_tree u.Minus p) e ∙ sym (ap (S.unary p u.Minus) e)

pub minus_other : (e : RawExpr) (p : Place) → NoWhole e → unary_tree u.Minus p (raw_expr e) ≡ S.unary p u.Minus (raw_expr e)
minus_other e p w =
    let r = roll-out-RawExpr e in
    subst (λ x. unary_tree u.Minus p (raw_expr x) ≡ S.unary p u.Minus (raw_expr x)) r (minus_at (out-RawExpr e) p (λ q z k. w q z (sym r ∙ k)))

void_at : (x : Layer) (p : Place) → NoWhole (roll-RawExpr x) → unary_tree u.Void p (raw_expr (roll-RawExpr x)) ≡ S.unary p u.Void (raw_expr (roll-RawExpr x))
unfolding raw_expr raw_target raw_init raw_for_target raw_stmt raw_case raw_catch raw_declaration raw_declarator raw_field raw_for_head raw_function raw_handlers raw_exprs raw_fields raw_declarators raw_stmts raw_cases raw_option raw_catches raw_finally expr_layer
void_at (RawExpr-F.Whole q z) p w = absurd (w q z (V.rolls-Whole q z))
void_at x p w = let e = fold-roll-RawExpr S.RawExpr S.RawForTarget S.RawInit S.RawStmt S.RawTarget CaseTerm CatchTerm DeclarationTerm DeclaratorTerm FieldTerm ForHeadTerm FunctionTerm HandlersTerm expr_layer for_target_layer init_layer stmt_layer target_layer case_layer catch_layer declaration_layer declarator_layer field_layer for_head_layer function_layer handlers_layer x in ap (unary_tree u.Void p) e ∙ sym (ap (S.unary p u.Void) e)

pub void_other : (e : RawExpr) (p : Place) → NoWhole e → unary_tree u.Void p (raw_expr e) ≡ S.unary p u.Void (raw_expr e)
void_other e p w =
    let r = roll-out-RawExpr e in
    subst (λ x. unary_tree u.Void p (raw_expr x) ≡ S.unary p u.Void (raw_expr x)) r (void_at (out-RawExpr e) p (λ q z k. w q z (sym r ∙ k)))

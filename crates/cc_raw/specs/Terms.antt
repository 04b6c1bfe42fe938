-- The bridge from the expressions of src/ to plain ones: one equation a variant, and the set of them.
use Rattle.std.specs.Prelude.{◌≡◌, ℕ, ℤ, Bool, List, [], ◌∷◌, map, Option}
use Rattle.std.specs.Option.{option_map}
use Rattle.std.proofs.Common.{refl, sym, ap, ◌∙◌}
use Rattle.cc_ast.specs.declared.place.Place.{Place}
use Rattle.cc_ast.specs.declared.operator.BinOp.{BinOp}
use Rattle.cc_ast.specs.declared.operator.UnOp.{UnOp}
use Rattle.cc_ast.specs.Syntax.{undefined, null, truth, whole, text}
use Rattle.cc_raw.specs.declared.tree.Named.{Named}
use Rattle.cc_raw.specs.declared.tree.RawExpr.{RawExpr}
use Rattle.cc_raw.specs.declared.tree.RawExpr.TheVariants as V
use Rattle.cc_raw.specs.declared.tree.RawExpr.TheFolds.{fold-roll-RawExpr, fold-roll-RawTarget, fold-roll-RawFunction}
use Rattle.cc_raw.specs.declared.tree.RawTarget.{RawTarget}
use Rattle.cc_raw.specs.declared.tree.RawTarget.TheVariants as W
use Rattle.cc_raw.specs.declared.tree.RawStmt.{RawStmt}
use Rattle.cc_raw.specs.declared.tree.RawField.{RawField}
use Rattle.cc_raw.specs.declared.tree.RawFunction.{RawFunction, roll-RawFunction}
use Rattle.cc_grammar.specs.RawTree as S
use Rattle.cc_raw.specs.Bridge.{named, FieldTerm, DeclaratorTerm, DeclarationTerm, CaseTerm, CatchTerm, ForHeadTerm, FunctionTerm, HandlersTerm, exprs, fields, expr_layer, target_layer, init_layer, for_target_layer, stmt_layer, case_layer, catch_layer, declaration_layer, declarator_layer, field_layer, for_head_layer, function_layer, handlers_layer, raw_expr, raw_target, raw_init, raw_for_target, raw_stmt, raw_case, raw_catch, raw_declaration, raw_declarator, raw_field, raw_for_head, raw_function, raw_handlers, raw_exprs, raw_fields, raw_declarators, raw_stmts, raw_cases, raw_option, raw_catches, raw_finally}

pub raw_expr-Undefined : (p : Place) → raw_expr (V.Undefined p) ≡ S.lit p undefined
unfolding raw_expr raw_target raw_init raw_for_target raw_stmt raw_case raw_catch raw_declaration raw_declarator raw_field raw_for_head raw_function raw_handlers raw_exprs raw_fields raw_declarators raw_stmts raw_cases raw_option raw_catches raw_finally expr_layer
raw_expr-Undefined p = ap raw_expr (sym (V.rolls-Undefined p)) ∙ fold-roll-RawExpr S.RawExpr S.RawForTarget S.RawInit S.RawStmt S.RawTarget CaseTerm CatchTerm DeclarationTerm DeclaratorTerm FieldTerm ForHeadTerm FunctionTerm HandlersTerm expr_layer for_target_layer init_layer stmt_layer target_layer case_layer catch_layer declaration_layer declarator_layer field_layer for_head_layer function_layer handlers_layer _

pub raw_expr-Null : (p : Place) → raw_expr (V.Null p) ≡ S.lit p null
unfolding raw_expr raw_target raw_init raw_for_target raw_stmt raw_case raw_catch raw_declaration raw_declarator raw_field raw_for_head raw_function raw_handlers raw_exprs raw_fields raw_declarators raw_stmts raw_cases raw_option raw_catches raw_finally expr_layer
raw_expr-Null p = ap raw_expr (sym (V.rolls-Null p)) ∙ fold-roll-RawExpr S.RawExpr S.RawForTarget S.RawInit S.RawStmt S.RawTarget CaseTerm CatchTerm DeclarationTerm DeclaratorTerm FieldTerm ForHeadTerm FunctionTerm HandlersTerm expr_layer for_target_layer init_layer stmt_layer target_layer case_layer catch_layer declaration_layer declarator_layer field_layer for_head_layer function_layer handlers_layer _

pub raw_expr-Truth : (p : Place) (b : Bool) → raw_expr (V.Truth p b) ≡ S.lit p (truth b)
unfolding raw_expr raw_target raw_init raw_for_target raw_stmt raw_case raw_catch raw_declaration raw_declarator raw_field raw_for_head raw_function raw_handlers raw_exprs raw_fields raw_declarators raw_stmts raw_cases raw_option raw_catches raw_finally expr_layer
raw_expr-Truth p b = ap raw_expr (sym (V.rolls-Truth p b)) ∙ fold-roll-RawExpr S.RawExpr S.RawForTarget S.RawInit S.RawStmt S.RawTarget CaseTerm CatchTerm DeclarationTerm DeclaratorTerm FieldTerm ForHeadTerm FunctionTerm HandlersTerm expr_layer for_target_layer init_layer stmt_layer target_layer case_layer catch_layer declaration_layer declarator_layer field_layer for_head_layer function_layer handlers_layer _

pub raw_expr-Whole : (p : Place) (n : ℤ) → raw_expr (V.Whole p n) ≡ S.lit p (whole n)
unfolding raw_expr raw_target raw_init raw_for_target raw_stmt raw_case raw_catch raw_declaration raw_declarator raw_field raw_for_head raw_function raw_handlers raw_exprs raw_fields raw_declarators raw_stmts raw_cases raw_option raw_catches raw_finally expr_layer
raw_expr-Whole p n = ap raw_expr (sym (V.rolls-Whole p n)) ∙ fold-roll-RawExpr S.RawExpr S.RawForTarget S.RawInit S.RawStmt S.RawTarget CaseTerm CatchTerm DeclarationTerm DeclaratorTerm FieldTerm ForHeadTerm FunctionTerm HandlersTerm expr_layer for_target_layer init_layer stmt_layer target_layer case_layer catch_layer declaration_layer declarator_layer field_layer for_head_layer function_layer handlers_layer _

pub raw_expr-Text : (p : Place) (t : List ℕ) → raw_expr (V.Text p t) ≡ S.lit p (text t)
unfolding raw_expr raw_target raw_init raw_for_target raw_stmt raw_case raw_catch raw_declaration raw_declarator raw_field raw_for_head raw_function raw_handlers raw_exprs raw_fields raw_declarators raw_stmts raw_cases raw_option raw_catches raw_finally expr_layer
raw_expr-Text p t = ap raw_expr (sym (V.rolls-Text p t)) ∙ fold-roll-RawExpr S.RawExpr S.RawForTarget S.RawInit S.RawStmt S.RawTarget CaseTerm CatchTerm DeclarationTerm DeclaratorTerm FieldTerm ForHeadTerm FunctionTerm HandlersTerm expr_layer for_target_layer init_layer stmt_layer target_layer case_layer catch_layer declaration_layer declarator_layer field_layer for_head_layer function_layer handlers_layer _

pub raw_expr-Var : (p : Place) (n : List ℕ) → raw_expr (V.Var p n) ≡ S.var p n
unfolding raw_expr raw_target raw_init raw_for_target raw_stmt raw_case raw_catch raw_declaration raw_declarator raw_field raw_for_head raw_function raw_handlers raw_exprs raw_fields raw_declarators raw_stmts raw_cases raw_option raw_catches raw_finally expr_layer
raw_expr-Var p n = ap raw_expr (sym (V.rolls-Var p n)) ∙ fold-roll-RawExpr S.RawExpr S.RawForTarget S.RawInit S.RawStmt S.RawTarget CaseTerm CatchTerm DeclarationTerm DeclaratorTerm FieldTerm ForHeadTerm FunctionTerm HandlersTerm expr_layer for_target_layer init_layer stmt_layer target_layer case_layer catch_layer declaration_layer declarator_layer field_layer for_head_layer function_layer handlers_layer _

pub raw_expr-This : (p : Place) → raw_expr (V.This p) ≡ S.this p
unfolding raw_expr raw_target raw_init raw_for_target raw_stmt raw_case raw_catch raw_declaration raw_declarator raw_field raw_for_head raw_function raw_handlers raw_exprs raw_fields raw_declarators raw_stmts raw_cases raw_option raw_catches raw_finally expr_layer
raw_expr-This p = ap raw_expr (sym (V.rolls-This p)) ∙ fold-roll-RawExpr S.RawExpr S.RawForTarget S.RawInit S.RawStmt S.RawTarget CaseTerm CatchTerm DeclarationTerm DeclaratorTerm FieldTerm ForHeadTerm FunctionTerm HandlersTerm expr_layer for_target_layer init_layer stmt_layer target_layer case_layer catch_layer declaration_layer declarator_layer field_layer for_head_layer function_layer handlers_layer _

pub raw_expr-Fun : (p : Place) (f : RawFunction) → raw_expr (V.Fun p f) ≡ S.fun p (raw_function f).0 (raw_function f).1.0 (raw_function f).1.1
unfolding raw_expr raw_target raw_init raw_for_target raw_stmt raw_case raw_catch raw_declaration raw_declarator raw_field raw_for_head raw_function raw_handlers raw_exprs raw_fields raw_declarators raw_stmts raw_cases raw_option raw_catches raw_finally expr_layer
raw_expr-Fun p f = ap raw_expr (sym (V.rolls-Fun p f)) ∙ fold-roll-RawExpr S.RawExpr S.RawForTarget S.RawInit S.RawStmt S.RawTarget CaseTerm CatchTerm DeclarationTerm DeclaratorTerm FieldTerm ForHeadTerm FunctionTerm HandlersTerm expr_layer for_target_layer init_layer stmt_layer target_layer case_layer catch_layer declaration_layer declarator_layer field_layer for_head_layer function_layer handlers_layer _

pub raw_expr-List : (p : Place) (es : List RawExpr) → raw_expr (V.List p es) ≡ S.list p (raw_exprs es)
unfolding raw_expr raw_target raw_init raw_for_target raw_stmt raw_case raw_catch raw_declaration raw_declarator raw_field raw_for_head raw_function raw_handlers raw_exprs raw_fields raw_declarators raw_stmts raw_cases raw_option raw_catches raw_finally expr_layer
raw_expr-List p es = ap raw_expr (sym (V.rolls-List p es)) ∙ fold-roll-RawExpr S.RawExpr S.RawForTarget S.RawInit S.RawStmt S.RawTarget CaseTerm CatchTerm DeclarationTerm DeclaratorTerm FieldTerm ForHeadTerm FunctionTerm HandlersTerm expr_layer for_target_layer init_layer stmt_layer target_layer case_layer catch_layer declaration_layer declarator_layer field_layer for_head_layer function_layer handlers_layer _

pub raw_expr-Object : (p : Place) (fs : List RawField) → raw_expr (V.Object p fs) ≡ S.object p (raw_fields fs)
unfolding raw_expr raw_target raw_init raw_for_target raw_stmt raw_case raw_catch raw_declaration raw_declarator raw_field raw_for_head raw_function raw_handlers raw_exprs raw_fields raw_declarators raw_stmts raw_cases raw_option raw_catches raw_finally expr_layer
raw_expr-Object p fs = ap raw_expr (sym (V.rolls-Object p fs)) ∙ fold-roll-RawExpr S.RawExpr S.RawForTarget S.RawInit S.RawStmt S.RawTarget CaseTerm CatchTerm DeclarationTerm DeclaratorTerm FieldTerm ForHeadTerm FunctionTerm HandlersTerm expr_layer for_target_layer init_layer stmt_layer target_layer case_layer catch_layer declaration_layer declarator_layer field_layer for_head_layer function_layer handlers_layer _

pub raw_expr-Unary : (p : Place) (op : UnOp) (a : RawExpr) → raw_expr (V.Unary p op a) ≡ S.unary p op (raw_expr a)
unfolding raw_expr raw_target raw_init raw_for_target raw_stmt raw_case raw_catch raw_declaration raw_declarator raw_field raw_for_head raw_function raw_handlers raw_exprs raw_fields raw_declarators raw_stmts raw_cases raw_option raw_catches raw_finally expr_layer
raw_expr-Unary p op a = ap raw_expr (sym (V.rolls-Unary p op a)) ∙ fold-roll-RawExpr S.RawExpr S.RawForTarget S.RawInit S.RawStmt S.RawTarget CaseTerm CatchTerm DeclarationTerm DeclaratorTerm FieldTerm ForHeadTerm FunctionTerm HandlersTerm expr_layer for_target_layer init_layer stmt_layer target_layer case_layer catch_layer declaration_layer declarator_layer field_layer for_head_layer function_layer handlers_layer _

pub raw_expr-Binary : (p : Place) (op : BinOp) (a : RawExpr) (b : RawExpr) → raw_expr (V.Binary p op a b) ≡ S.binary p op (raw_expr a) (raw_expr b)
unfolding raw_expr raw_target raw_init raw_for_target raw_stmt raw_case raw_catch raw_declaration raw_declarator raw_field raw_for_head raw_function raw_handlers raw_exprs raw_fields raw_declarators raw_stmts raw_cases raw_option raw_catches raw_finally expr_layer
raw_expr-Binary p op a b = ap raw_expr (sym (V.rolls-Binary p op a b)) ∙ fold-roll-RawExpr S.RawExpr S.RawForTarget S.RawInit S.RawStmt S.RawTarget CaseTerm CatchTerm DeclarationTerm DeclaratorTerm FieldTerm ForHeadTerm FunctionTerm HandlersTerm expr_layer for_target_layer init_layer stmt_layer target_layer case_layer catch_layer declaration_layer declarator_layer field_layer for_head_layer function_layer handlers_layer _

pub raw_expr-And : (p : Place) (a : RawExpr) (b : RawExpr) → raw_expr (V.And p a b) ≡ S.and p (raw_expr a) (raw_expr b)
unfolding raw_expr raw_target raw_init raw_for_target raw_stmt raw_case raw_catch raw_declaration raw_declarator raw_field raw_for_head raw_function raw_handlers raw_exprs raw_fields raw_declarators raw_stmts raw_cases raw_option raw_catches raw_finally expr_layer
raw_expr-And p a b = ap raw_expr (sym (V.rolls-And p a b)) ∙ fold-roll-RawExpr S.RawExpr S.RawForTarget S.RawInit S.RawStmt S.RawTarget CaseTerm CatchTerm DeclarationTerm DeclaratorTerm FieldTerm ForHeadTerm FunctionTerm HandlersTerm expr_layer for_target_layer init_layer stmt_layer target_layer case_layer catch_layer declaration_layer declarator_layer field_layer for_head_layer function_layer handlers_layer _

pub raw_expr-Or : (p : Place) (a : RawExpr) (b : RawExpr) → raw_expr (V.Or p a b) ≡ S.or p (raw_expr a) (raw_expr b)
unfolding raw_expr raw_target raw_init raw_for_target raw_stmt raw_case raw_catch raw_declaration raw_declarator raw_field raw_for_head raw_function raw_handlers raw_exprs raw_fields raw_declarators raw_stmts raw_cases raw_option raw_catches raw_finally expr_layer
raw_expr-Or p a b = ap raw_expr (sym (V.rolls-Or p a b)) ∙ fold-roll-RawExpr S.RawExpr S.RawForTarget S.RawInit S.RawStmt S.RawTarget CaseTerm CatchTerm DeclarationTerm DeclaratorTerm FieldTerm ForHeadTerm FunctionTerm HandlersTerm expr_layer for_target_layer init_layer stmt_layer target_layer case_layer catch_layer declaration_layer declarator_layer field_layer for_head_layer function_layer handlers_layer _

pub raw_expr-Cond : (p : Place) (t : RawExpr) (a : RawExpr) (b : RawExpr) → raw_expr (V.Cond p t a b) ≡ S.cond p (raw_expr t) (raw_expr a) (raw_expr b)
unfolding raw_expr raw_target raw_init raw_for_target raw_stmt raw_case raw_catch raw_declaration raw_declarator raw_field raw_for_head raw_function raw_handlers raw_exprs raw_fields raw_declarators raw_stmts raw_cases raw_option raw_catches raw_finally expr_layer
raw_expr-Cond p t a b = ap raw_expr (sym (V.rolls-Cond p t a b)) ∙ fold-roll-RawExpr S.RawExpr S.RawForTarget S.RawInit S.RawStmt S.RawTarget CaseTerm CatchTerm DeclarationTerm DeclaratorTerm FieldTerm ForHeadTerm FunctionTerm HandlersTerm expr_layer for_target_layer init_layer stmt_layer target_layer case_layer catch_layer declaration_layer declarator_layer field_layer for_head_layer function_layer handlers_layer _

pub raw_expr-Assign : (p : Place) (op : Option BinOp) (t : RawTarget) (a : RawExpr) → raw_expr (V.Assign p op t a) ≡ S.assign p op (raw_target t) (raw_expr a)
unfolding raw_expr raw_target raw_init raw_for_target raw_stmt raw_case raw_catch raw_declaration raw_declarator raw_field raw_for_head raw_function raw_handlers raw_exprs raw_fields raw_declarators raw_stmts raw_cases raw_option raw_catches raw_finally expr_layer
raw_expr-Assign p op t a = ap raw_expr (sym (V.rolls-Assign p op t a)) ∙ fold-roll-RawExpr S.RawExpr S.RawForTarget S.RawInit S.RawStmt S.RawTarget CaseTerm CatchTerm DeclarationTerm DeclaratorTerm FieldTerm ForHeadTerm FunctionTerm HandlersTerm expr_layer for_target_layer init_layer stmt_layer target_layer case_layer catch_layer declaration_layer declarator_layer field_layer for_head_layer function_layer handlers_layer _

pub raw_expr-Step : (p : Place) (up : Bool) (prefix : Bool) (t : RawTarget) → raw_expr (V.Step p up prefix t) ≡ S.step p up prefix (raw_target t)
unfolding raw_expr raw_target raw_init raw_for_target raw_stmt raw_case raw_catch raw_declaration raw_declarator raw_field raw_for_head raw_function raw_handlers raw_exprs raw_fields raw_declarators raw_stmts raw_cases raw_option raw_catches raw_finally expr_layer
raw_expr-Step p up prefix t = ap raw_expr (sym (V.rolls-Step p up prefix t)) ∙ fold-roll-RawExpr S.RawExpr S.RawForTarget S.RawInit S.RawStmt S.RawTarget CaseTerm CatchTerm DeclarationTerm DeclaratorTerm FieldTerm ForHeadTerm FunctionTerm HandlersTerm expr_layer for_target_layer init_layer stmt_layer target_layer case_layer catch_layer declaration_layer declarator_layer field_layer for_head_layer function_layer handlers_layer _

pub raw_expr-Member : (p : Place) (a : RawExpr) (q : Place) (n : List ℕ) → raw_expr (V.Member p a q n) ≡ S.member p (raw_expr a) q n
unfolding raw_expr raw_target raw_init raw_for_target raw_stmt raw_case raw_catch raw_declaration raw_declarator raw_field raw_for_head raw_function raw_handlers raw_exprs raw_fields raw_declarators raw_stmts raw_cases raw_option raw_catches raw_finally expr_layer
raw_expr-Member p a q n = ap raw_expr (sym (V.rolls-Member p a q n)) ∙ fold-roll-RawExpr S.RawExpr S.RawForTarget S.RawInit S.RawStmt S.RawTarget CaseTerm CatchTerm DeclarationTerm DeclaratorTerm FieldTerm ForHeadTerm FunctionTerm HandlersTerm expr_layer for_target_layer init_layer stmt_layer target_layer case_layer catch_layer declaration_layer declarator_layer field_layer for_head_layer function_layer handlers_layer _

pub raw_expr-Index : (p : Place) (a : RawExpr) (b : RawExpr) → raw_expr (V.Index p a b) ≡ S.index p (raw_expr a) (raw_expr b)
unfolding raw_expr raw_target raw_init raw_for_target raw_stmt raw_case raw_catch raw_declaration raw_declarator raw_field raw_for_head raw_function raw_handlers raw_exprs raw_fields raw_declarators raw_stmts raw_cases raw_option raw_catches raw_finally expr_layer
raw_expr-Index p a b = ap raw_expr (sym (V.rolls-Index p a b)) ∙ fold-roll-RawExpr S.RawExpr S.RawForTarget S.RawInit S.RawStmt S.RawTarget CaseTerm CatchTerm DeclarationTerm DeclaratorTerm FieldTerm ForHeadTerm FunctionTerm HandlersTerm expr_layer for_target_layer init_layer stmt_layer target_layer case_layer catch_layer declaration_layer declarator_layer field_layer for_head_layer function_layer handlers_layer _

pub raw_expr-Call : (p : Place) (f : RawExpr) (es : List RawExpr) → raw_expr (V.Call p f es) ≡ S.call p (raw_expr f) (raw_exprs es)
unfolding raw_expr raw_target raw_init raw_for_target raw_stmt raw_case raw_catch raw_declaration raw_declarator raw_field raw_for_head raw_function raw_handlers raw_exprs raw_fields raw_declarators raw_stmts raw_cases raw_option raw_catches raw_finally expr_layer
raw_expr-Call p f es = ap raw_expr (sym (V.rolls-Call p f es)) ∙ fold-roll-RawExpr S.RawExpr S.RawForTarget S.RawInit S.RawStmt S.RawTarget CaseTerm CatchTerm DeclarationTerm DeclaratorTerm FieldTerm ForHeadTerm FunctionTerm HandlersTerm expr_layer for_target_layer init_layer stmt_layer target_layer case_layer catch_layer declaration_layer declarator_layer field_layer for_head_layer function_layer handlers_layer _

pub raw_expr-New : (p : Place) (f : RawExpr) (es : List RawExpr) → raw_expr (V.New p f es) ≡ S.new p (raw_expr f) (raw_exprs es)
unfolding raw_expr raw_target raw_init raw_for_target raw_stmt raw_case raw_catch raw_declaration raw_declarator raw_field raw_for_head raw_function raw_handlers raw_exprs raw_fields raw_declarators raw_stmts raw_cases raw_option raw_catches raw_finally expr_layer
raw_expr-New p f es = ap raw_expr (sym (V.rolls-New p f es)) ∙ fold-roll-RawExpr S.RawExpr S.RawForTarget S.RawInit S.RawStmt S.RawTarget CaseTerm CatchTerm DeclarationTerm DeclaratorTerm FieldTerm ForHeadTerm FunctionTerm HandlersTerm expr_layer for_target_layer init_layer stmt_layer target_layer case_layer catch_layer declaration_layer declarator_layer field_layer for_head_layer function_layer handlers_layer _

pub raw_expr-Comma : (p : Place) (a : RawExpr) (b : RawExpr) → raw_expr (V.Comma p a b) ≡ S.comma p (raw_expr a) (raw_expr b)
unfolding raw_expr raw_target raw_init raw_for_target raw_stmt raw_case raw_catch raw_declaration raw_declarator raw_field raw_for_head raw_function raw_handlers raw_exprs raw_fields raw_declarators raw_stmts raw_cases raw_option raw_catches raw_finally expr_layer
raw_expr-Comma p a b = ap raw_expr (sym (V.rolls-Comma p a b)) ∙ fold-roll-RawExpr S.RawExpr S.RawForTarget S.RawInit S.RawStmt S.RawTarget CaseTerm CatchTerm DeclarationTerm DeclaratorTerm FieldTerm ForHeadTerm FunctionTerm HandlersTerm expr_layer for_target_layer init_layer stmt_layer target_layer case_layer catch_layer declaration_layer declarator_layer field_layer for_head_layer function_layer handlers_layer _

pub raw_expr-Cast : (p : Place) (a : RawExpr) → raw_expr (V.Cast p a) ≡ S.cast p (raw_expr a)
unfolding raw_expr raw_target raw_init raw_for_target raw_stmt raw_case raw_catch raw_declaration raw_declarator raw_field raw_for_head raw_function raw_handlers raw_exprs raw_fields raw_declarators raw_stmts raw_cases raw_option raw_catches raw_finally expr_layer
raw_expr-Cast p a = ap raw_expr (sym (V.rolls-Cast p a)) ∙ fold-roll-RawExpr S.RawExpr S.RawForTarget S.RawInit S.RawStmt S.RawTarget CaseTerm CatchTerm DeclarationTerm DeclaratorTerm FieldTerm ForHeadTerm FunctionTerm HandlersTerm expr_layer for_target_layer init_layer stmt_layer target_layer case_layer catch_layer declaration_layer declarator_layer field_layer for_head_layer function_layer handlers_layer _

pub raw_target-Variable : (p : Place) (n : List ℕ) → raw_target (W.Variable p n) ≡ S.to_var p n
unfolding raw_expr raw_target raw_init raw_for_target raw_stmt raw_case raw_catch raw_declaration raw_declarator raw_field raw_for_head raw_function raw_handlers raw_exprs raw_fields raw_declarators raw_stmts raw_cases raw_option raw_catches raw_finally target_layer
raw_target-Variable p n = ap raw_target (sym (W.rolls-Variable p n)) ∙ fold-roll-RawTarget S.RawExpr S.RawForTarget S.RawInit S.RawStmt S.RawTarget CaseTerm CatchTerm DeclarationTerm DeclaratorTerm FieldTerm ForHeadTerm FunctionTerm HandlersTerm expr_layer for_target_layer init_layer stmt_layer target_layer case_layer catch_layer declaration_layer declarator_layer field_layer for_head_layer function_layer handlers_layer _

pub raw_target-Dotted : (p : Place) (a : RawExpr) (q : Place) (n : List ℕ) → raw_target (W.Dotted p a q n) ≡ S.to_member p (raw_expr a) q n
unfolding raw_expr raw_target raw_init raw_for_target raw_stmt raw_case raw_catch raw_declaration raw_declarator raw_field raw_for_head raw_function raw_handlers raw_exprs raw_fields raw_declarators raw_stmts raw_cases raw_option raw_catches raw_finally target_layer
raw_target-Dotted p a q n = ap raw_target (sym (W.rolls-Dotted p a q n)) ∙ fold-roll-RawTarget S.RawExpr S.RawForTarget S.RawInit S.RawStmt S.RawTarget CaseTerm CatchTerm DeclarationTerm DeclaratorTerm FieldTerm ForHeadTerm FunctionTerm HandlersTerm expr_layer for_target_layer init_layer stmt_layer target_layer case_layer catch_layer declaration_layer declarator_layer field_layer for_head_layer function_layer handlers_layer _

pub raw_target-Bracketed : (p : Place) (a : RawExpr) (b : RawExpr) → raw_target (W.Bracketed p a b) ≡ S.to_index p (raw_expr a) (raw_expr b)
unfolding raw_expr raw_target raw_init raw_for_target raw_stmt raw_case raw_catch raw_declaration raw_declarator raw_field raw_for_head raw_function raw_handlers raw_exprs raw_fields raw_declarators raw_stmts raw_cases raw_option raw_catches raw_finally target_layer
raw_target-Bracketed p a b = ap raw_target (sym (W.rolls-Bracketed p a b)) ∙ fold-roll-RawTarget S.RawExpr S.RawForTarget S.RawInit S.RawStmt S.RawTarget CaseTerm CatchTerm DeclarationTerm DeclaratorTerm FieldTerm ForHeadTerm FunctionTerm HandlersTerm expr_layer for_target_layer init_layer stmt_layer target_layer case_layer catch_layer declaration_layer declarator_layer field_layer for_head_layer function_layer handlers_layer _

pub raw_function-made : (own : Option Named) (ps : List Named) (ss : List RawStmt) → raw_function (roll-RawFunction (record { own = own; params = ps; body = ss })) ≡ (option_map named own, (map named ps, raw_stmts ss))
unfolding raw_expr raw_target raw_init raw_for_target raw_stmt raw_case raw_catch raw_declaration raw_declarator raw_field raw_for_head raw_function raw_handlers raw_exprs raw_fields raw_declarators raw_stmts raw_cases raw_option raw_catches raw_finally function_layer
raw_function-made own ps ss = fold-roll-RawFunction S.RawExpr S.RawForTarget S.RawInit S.RawStmt S.RawTarget CaseTerm CatchTerm DeclarationTerm DeclaratorTerm FieldTerm ForHeadTerm FunctionTerm HandlersTerm expr_layer for_target_layer init_layer stmt_layer target_layer case_layer catch_layer declaration_layer declarator_layer field_layer for_head_layer function_layer handlers_layer _

pub raw_exprs-empty : raw_exprs [] ≡ S.no_exprs
unfolding raw_exprs exprs
raw_exprs-empty = refl

pub raw_exprs-more : (x : RawExpr) (xs : List RawExpr) → raw_exprs (x ∷ xs) ≡ S.more_exprs (raw_expr x) (raw_exprs xs)
unfolding raw_exprs exprs
raw_exprs-more x xs = refl

pub raw_fields-empty : raw_fields [] ≡ S.no_fields
unfolding raw_fields fields
raw_fields-empty = refl

pub raw_fields-more : (x : RawField) (xs : List RawField) → raw_fields (x ∷ xs) ≡ S.more_fields (raw_field x).0 (raw_field x).1.0 (raw_field x).1.1 (raw_fields xs)
unfolding raw_fields fields
raw_fields-more x xs = refl

pub ruleset raw_steps = (raw_expr-Undefined, raw_expr-Null, raw_expr-Truth, raw_expr-Whole, raw_expr-Text, raw_expr-Var, raw_expr-This, raw_expr-Fun, raw_expr-List, raw_expr-Object, raw_expr-Unary, raw_expr-Binary, raw_expr-And, raw_expr-Or, raw_expr-Cond, raw_expr-Assign, raw_expr-Step, raw_expr-Member, raw_expr-Index, raw_expr-Call, raw_expr-New, raw_expr-Comma, raw_expr-Cast, raw_target-Variable, raw_target-Dotted, raw_target-Bracketed, raw_function-made, raw_exprs-empty, raw_exprs-more, raw_fields-empty, raw_fields-more)

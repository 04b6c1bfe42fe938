-- The bridge from the statements of src/ to plain ones: one equation a variant, and the set of them.
use Rattle.std.specs.Prelude.{◌≡◌, ℕ, List, [], ◌∷◌, map, Option, Some, None}
use Rattle.std.proofs.Common.{refl, sym, ap, ◌∙◌}
use Rattle.cc_ast.specs.declared.place.Place.{Place}
use Rattle.cc_raw.specs.declared.tree.Named.{Named}
use Rattle.cc_raw.specs.declared.tree.RawKey.{RawKey}
use Rattle.cc_raw.specs.declared.tree.RawExpr.{RawExpr}
use Rattle.cc_raw.specs.declared.tree.RawExpr.TheFolds.{fold-roll-RawInit, fold-roll-RawForTarget, fold-roll-RawStmt, fold-roll-RawCase, fold-roll-RawCatch, fold-roll-RawDeclaration, fold-roll-RawDeclarator, fold-roll-RawField, fold-roll-RawForHead, fold-roll-RawHandlers}
use Rattle.cc_raw.specs.declared.tree.RawTarget.{RawTarget}
use Rattle.cc_raw.specs.declared.tree.RawInit.{RawInit}
use Rattle.cc_raw.specs.declared.tree.RawInit.TheVariants as I
use Rattle.cc_raw.specs.declared.tree.RawForTarget.{RawForTarget}
use Rattle.cc_raw.specs.declared.tree.RawForTarget.TheVariants as F
use Rattle.cc_raw.specs.declared.tree.RawStmt.{RawStmt}
use Rattle.cc_raw.specs.declared.tree.RawStmt.TheVariants as U
use Rattle.cc_raw.specs.declared.tree.RawCase.{RawCase, roll-RawCase}
use Rattle.cc_raw.specs.declared.tree.RawCatch.{RawCatch, roll-RawCatch}
use Rattle.cc_raw.specs.declared.tree.RawDeclaration.{RawDeclaration, roll-RawDeclaration}
use Rattle.cc_raw.specs.declared.tree.RawDeclarator.{RawDeclarator, roll-RawDeclarator}
use Rattle.cc_raw.specs.declared.tree.RawField.{roll-RawField}
use Rattle.cc_raw.specs.declared.tree.RawForHead.{RawForHead, roll-RawForHead}
use Rattle.cc_raw.specs.declared.tree.RawHandlers.{RawHandlers, roll-RawHandlers}
use Rattle.cc_grammar.specs.RawTree as S
use Rattle.cc_raw.specs.Bridge.{named, key, FieldTerm, DeclaratorTerm, DeclarationTerm, CaseTerm, CatchTerm, ForHeadTerm, FunctionTerm, HandlersTerm, declarators, stmts, cases, expr_layer, target_layer, init_layer, for_target_layer, stmt_layer, case_layer, catch_layer, declaration_layer, declarator_layer, field_layer, for_head_layer, function_layer, handlers_layer, raw_expr, raw_target, raw_init, raw_for_target, raw_stmt, raw_case, raw_catch, raw_declaration, raw_declarator, raw_field, raw_for_head, raw_function, raw_handlers, raw_exprs, raw_fields, raw_declarators, raw_stmts, raw_cases, raw_option, raw_catches, raw_finally}

pub raw_init-Nothing : raw_init I.Nothing ≡ S.no_init
unfolding raw_expr raw_target raw_init raw_for_target raw_stmt raw_case raw_catch raw_declaration raw_declarator raw_field raw_for_head raw_function raw_handlers raw_exprs raw_fields raw_declarators raw_stmts raw_cases raw_option raw_catches raw_finally init_layer
raw_init-Nothing = ap raw_init (sym (I.rolls-Nothing)) ∙ fold-roll-RawInit S.RawExpr S.RawForTarget S.RawInit S.RawStmt S.RawTarget CaseTerm CatchTerm DeclarationTerm DeclaratorTerm FieldTerm ForHeadTerm FunctionTerm HandlersTerm expr_layer for_target_layer init_layer stmt_layer target_layer case_layer catch_layer declaration_layer declarator_layer field_layer for_head_layer function_layer handlers_layer _

pub raw_init-Value : (a : RawExpr) → raw_init (I.Value a) ≡ S.init_value (raw_expr a)
unfolding raw_expr raw_target raw_init raw_for_target raw_stmt raw_case raw_catch raw_declaration raw_declarator raw_field raw_for_head raw_function raw_handlers raw_exprs raw_fields raw_declarators raw_stmts raw_cases raw_option raw_catches raw_finally init_layer
raw_init-Value a = ap raw_init (sym (I.rolls-Value a)) ∙ fold-roll-RawInit S.RawExpr S.RawForTarget S.RawInit S.RawStmt S.RawTarget CaseTerm CatchTerm DeclarationTerm DeclaratorTerm FieldTerm ForHeadTerm FunctionTerm HandlersTerm expr_layer for_target_layer init_layer stmt_layer target_layer case_layer catch_layer declaration_layer declarator_layer field_layer for_head_layer function_layer handlers_layer _

pub raw_init-Declarators : (ds : List RawDeclarator) → raw_init (I.Declarators ds) ≡ S.init_vars (raw_declarators ds)
unfolding raw_expr raw_target raw_init raw_for_target raw_stmt raw_case raw_catch raw_declaration raw_declarator raw_field raw_for_head raw_function raw_handlers raw_exprs raw_fields raw_declarators raw_stmts raw_cases raw_option raw_catches raw_finally init_layer
raw_init-Declarators ds = ap raw_init (sym (I.rolls-Declarators ds)) ∙ fold-roll-RawInit S.RawExpr S.RawForTarget S.RawInit S.RawStmt S.RawTarget CaseTerm CatchTerm DeclarationTerm DeclaratorTerm FieldTerm ForHeadTerm FunctionTerm HandlersTerm expr_layer for_target_layer init_layer stmt_layer target_layer case_layer catch_layer declaration_layer declarator_layer field_layer for_head_layer function_layer handlers_layer _

pub raw_for_target-Target : (t : RawTarget) → raw_for_target (F.Target t) ≡ S.in_target (raw_target t)
unfolding raw_expr raw_target raw_init raw_for_target raw_stmt raw_case raw_catch raw_declaration raw_declarator raw_field raw_for_head raw_function raw_handlers raw_exprs raw_fields raw_declarators raw_stmts raw_cases raw_option raw_catches raw_finally for_target_layer
raw_for_target-Target t = ap raw_for_target (sym (F.rolls-Target t)) ∙ fold-roll-RawForTarget S.RawExpr S.RawForTarget S.RawInit S.RawStmt S.RawTarget CaseTerm CatchTerm DeclarationTerm DeclaratorTerm FieldTerm ForHeadTerm FunctionTerm HandlersTerm expr_layer for_target_layer init_layer stmt_layer target_layer case_layer catch_layer declaration_layer declarator_layer field_layer for_head_layer function_layer handlers_layer _

pub raw_for_target-Declared : (d : RawDeclarator) → raw_for_target (F.Declared d) ≡ S.in_declared (raw_declarator d).0 (raw_declarator d).1
unfolding raw_expr raw_target raw_init raw_for_target raw_stmt raw_case raw_catch raw_declaration raw_declarator raw_field raw_for_head raw_function raw_handlers raw_exprs raw_fields raw_declarators raw_stmts raw_cases raw_option raw_catches raw_finally for_target_layer
raw_for_target-Declared d = ap raw_for_target (sym (F.rolls-Declared d)) ∙ fold-roll-RawForTarget S.RawExpr S.RawForTarget S.RawInit S.RawStmt S.RawTarget CaseTerm CatchTerm DeclarationTerm DeclaratorTerm FieldTerm ForHeadTerm FunctionTerm HandlersTerm expr_layer for_target_layer init_layer stmt_layer target_layer case_layer catch_layer declaration_layer declarator_layer field_layer for_head_layer function_layer handlers_layer _

pub raw_stmt-Simple : (p : Place) (a : RawExpr) → raw_stmt (U.Simple p a) ≡ S.simple p (raw_expr a)
unfolding raw_expr raw_target raw_init raw_for_target raw_stmt raw_case raw_catch raw_declaration raw_declarator raw_field raw_for_head raw_function raw_handlers raw_exprs raw_fields raw_declarators raw_stmts raw_cases raw_option raw_catches raw_finally stmt_layer
raw_stmt-Simple p a = ap raw_stmt (sym (U.rolls-Simple p a)) ∙ fold-roll-RawStmt S.RawExpr S.RawForTarget S.RawInit S.RawStmt S.RawTarget CaseTerm CatchTerm DeclarationTerm DeclaratorTerm FieldTerm ForHeadTerm FunctionTerm HandlersTerm expr_layer for_target_layer init_layer stmt_layer target_layer case_layer catch_layer declaration_layer declarator_layer field_layer for_head_layer function_layer handlers_layer _

pub raw_stmt-Vars : (p : Place) (ds : List RawDeclarator) → raw_stmt (U.Vars p ds) ≡ S.vars p (raw_declarators ds)
unfolding raw_expr raw_target raw_init raw_for_target raw_stmt raw_case raw_catch raw_declaration raw_declarator raw_field raw_for_head raw_function raw_handlers raw_exprs raw_fields raw_declarators raw_stmts raw_cases raw_option raw_catches raw_finally stmt_layer
raw_stmt-Vars p ds = ap raw_stmt (sym (U.rolls-Vars p ds)) ∙ fold-roll-RawStmt S.RawExpr S.RawForTarget S.RawInit S.RawStmt S.RawTarget CaseTerm CatchTerm DeclarationTerm DeclaratorTerm FieldTerm ForHeadTerm FunctionTerm HandlersTerm expr_layer for_target_layer init_layer stmt_layer target_layer case_layer catch_layer declaration_layer declarator_layer field_layer for_head_layer function_layer handlers_layer _

pub raw_stmt-FunDecl : (p : Place) (d : RawDeclaration) → raw_stmt (U.FunDecl p d) ≡ S.fun_decl p (raw_declaration d).0 (raw_declaration d).1.0 (raw_declaration d).1.1
unfolding raw_expr raw_target raw_init raw_for_target raw_stmt raw_case raw_catch raw_declaration raw_declarator raw_field raw_for_head raw_function raw_handlers raw_exprs raw_fields raw_declarators raw_stmts raw_cases raw_option raw_catches raw_finally stmt_layer
raw_stmt-FunDecl p d = ap raw_stmt (sym (U.rolls-FunDecl p d)) ∙ fold-roll-RawStmt S.RawExpr S.RawForTarget S.RawInit S.RawStmt S.RawTarget CaseTerm CatchTerm DeclarationTerm DeclaratorTerm FieldTerm ForHeadTerm FunctionTerm HandlersTerm expr_layer for_target_layer init_layer stmt_layer target_layer case_layer catch_layer declaration_layer declarator_layer field_layer for_head_layer function_layer handlers_layer _

pub raw_stmt-If : (p : Place) (t : RawExpr) (ss : List RawStmt) (us : List RawStmt) → raw_stmt (U.If p t ss us) ≡ S.if p (raw_expr t) (raw_stmts ss) (raw_stmts us)
unfolding raw_expr raw_target raw_init raw_for_target raw_stmt raw_case raw_catch raw_declaration raw_declarator raw_field raw_for_head raw_function raw_handlers raw_exprs raw_fields raw_declarators raw_stmts raw_cases raw_option raw_catches raw_finally stmt_layer
raw_stmt-If p t ss us = ap raw_stmt (sym (U.rolls-If p t ss us)) ∙ fold-roll-RawStmt S.RawExpr S.RawForTarget S.RawInit S.RawStmt S.RawTarget CaseTerm CatchTerm DeclarationTerm DeclaratorTerm FieldTerm ForHeadTerm FunctionTerm HandlersTerm expr_layer for_target_layer init_layer stmt_layer target_layer case_layer catch_layer declaration_layer declarator_layer field_layer for_head_layer function_layer handlers_layer _

pub raw_stmt-While : (p : Place) (t : RawExpr) (ss : List RawStmt) → raw_stmt (U.While p t ss) ≡ S.while p (raw_expr t) (raw_stmts ss)
unfolding raw_expr raw_target raw_init raw_for_target raw_stmt raw_case raw_catch raw_declaration raw_declarator raw_field raw_for_head raw_function raw_handlers raw_exprs raw_fields raw_declarators raw_stmts raw_cases raw_option raw_catches raw_finally stmt_layer
raw_stmt-While p t ss = ap raw_stmt (sym (U.rolls-While p t ss)) ∙ fold-roll-RawStmt S.RawExpr S.RawForTarget S.RawInit S.RawStmt S.RawTarget CaseTerm CatchTerm DeclarationTerm DeclaratorTerm FieldTerm ForHeadTerm FunctionTerm HandlersTerm expr_layer for_target_layer init_layer stmt_layer target_layer case_layer catch_layer declaration_layer declarator_layer field_layer for_head_layer function_layer handlers_layer _

pub raw_stmt-DoWhile : (p : Place) (ss : List RawStmt) (t : RawExpr) → raw_stmt (U.DoWhile p ss t) ≡ S.do_while p (raw_stmts ss) (raw_expr t)
unfolding raw_expr raw_target raw_init raw_for_target raw_stmt raw_case raw_catch raw_declaration raw_declarator raw_field raw_for_head raw_function raw_handlers raw_exprs raw_fields raw_declarators raw_stmts raw_cases raw_option raw_catches raw_finally stmt_layer
raw_stmt-DoWhile p ss t = ap raw_stmt (sym (U.rolls-DoWhile p ss t)) ∙ fold-roll-RawStmt S.RawExpr S.RawForTarget S.RawInit S.RawStmt S.RawTarget CaseTerm CatchTerm DeclarationTerm DeclaratorTerm FieldTerm ForHeadTerm FunctionTerm HandlersTerm expr_layer for_target_layer init_layer stmt_layer target_layer case_layer catch_layer declaration_layer declarator_layer field_layer for_head_layer function_layer handlers_layer _

pub raw_stmt-For : (p : Place) (h : RawForHead) (ss : List RawStmt) → raw_stmt (U.For p h ss) ≡ S.for p (raw_for_head h).0 (raw_for_head h).1.0 (raw_for_head h).1.1 (raw_stmts ss)
unfolding raw_expr raw_target raw_init raw_for_target raw_stmt raw_case raw_catch raw_declaration raw_declarator raw_field raw_for_head raw_function raw_handlers raw_exprs raw_fields raw_declarators raw_stmts raw_cases raw_option raw_catches raw_finally stmt_layer
raw_stmt-For p h ss = ap raw_stmt (sym (U.rolls-For p h ss)) ∙ fold-roll-RawStmt S.RawExpr S.RawForTarget S.RawInit S.RawStmt S.RawTarget CaseTerm CatchTerm DeclarationTerm DeclaratorTerm FieldTerm ForHeadTerm FunctionTerm HandlersTerm expr_layer for_target_layer init_layer stmt_layer target_layer case_layer catch_layer declaration_layer declarator_layer field_layer for_head_layer function_layer handlers_layer _

pub raw_stmt-ForIn : (p : Place) (t : RawForTarget) (a : RawExpr) (ss : List RawStmt) → raw_stmt (U.ForIn p t a ss) ≡ S.for_in p (raw_for_target t) (raw_expr a) (raw_stmts ss)
unfolding raw_expr raw_target raw_init raw_for_target raw_stmt raw_case raw_catch raw_declaration raw_declarator raw_field raw_for_head raw_function raw_handlers raw_exprs raw_fields raw_declarators raw_stmts raw_cases raw_option raw_catches raw_finally stmt_layer
raw_stmt-ForIn p t a ss = ap raw_stmt (sym (U.rolls-ForIn p t a ss)) ∙ fold-roll-RawStmt S.RawExpr S.RawForTarget S.RawInit S.RawStmt S.RawTarget CaseTerm CatchTerm DeclarationTerm DeclaratorTerm FieldTerm ForHeadTerm FunctionTerm HandlersTerm expr_layer for_target_layer init_layer stmt_layer target_layer case_layer catch_layer declaration_layer declarator_layer field_layer for_head_layer function_layer handlers_layer _

pub raw_stmt-Return : (p : Place) (a : Option RawExpr) → raw_stmt (U.Return p a) ≡ S.return p (raw_option a)
unfolding raw_expr raw_target raw_init raw_for_target raw_stmt raw_case raw_catch raw_declaration raw_declarator raw_field raw_for_head raw_function raw_handlers raw_exprs raw_fields raw_declarators raw_stmts raw_cases raw_option raw_catches raw_finally stmt_layer
raw_stmt-Return p None = ap raw_stmt (sym (U.rolls-Return p None)) ∙ fold-roll-RawStmt S.RawExpr S.RawForTarget S.RawInit S.RawStmt S.RawTarget CaseTerm CatchTerm DeclarationTerm DeclaratorTerm FieldTerm ForHeadTerm FunctionTerm HandlersTerm expr_layer for_target_layer init_layer stmt_layer target_layer case_layer catch_layer declaration_layer declarator_layer field_layer for_head_layer function_layer handlers_layer _
raw_stmt-Return p (Some a) = ap raw_stmt (sym (U.rolls-Return p (Some a))) ∙ fold-roll-RawStmt S.RawExpr S.RawForTarget S.RawInit S.RawStmt S.RawTarget CaseTerm CatchTerm DeclarationTerm DeclaratorTerm FieldTerm ForHeadTerm FunctionTerm HandlersTerm expr_layer for_target_layer init_layer stmt_layer target_layer case_layer catch_layer declaration_layer declarator_layer field_layer for_head_layer function_layer handlers_layer _

pub raw_stmt-Throw : (p : Place) (a : RawExpr) → raw_stmt (U.Throw p a) ≡ S.throw p (raw_expr a)
unfolding raw_expr raw_target raw_init raw_for_target raw_stmt raw_case raw_catch raw_declaration raw_declarator raw_field raw_for_head raw_function raw_handlers raw_exprs raw_fields raw_declarators raw_stmts raw_cases raw_option raw_catches raw_finally stmt_layer
raw_stmt-Throw p a = ap raw_stmt (sym (U.rolls-Throw p a)) ∙ fold-roll-RawStmt S.RawExpr S.RawForTarget S.RawInit S.RawStmt S.RawTarget CaseTerm CatchTerm DeclarationTerm DeclaratorTerm FieldTerm ForHeadTerm FunctionTerm HandlersTerm expr_layer for_target_layer init_layer stmt_layer target_layer case_layer catch_layer declaration_layer declarator_layer field_layer for_head_layer function_layer handlers_layer _

pub raw_stmt-Break : (p : Place) (l : Option (List ℕ)) → raw_stmt (U.Break p l) ≡ S.break p l
unfolding raw_expr raw_target raw_init raw_for_target raw_stmt raw_case raw_catch raw_declaration raw_declarator raw_field raw_for_head raw_function raw_handlers raw_exprs raw_fields raw_declarators raw_stmts raw_cases raw_option raw_catches raw_finally stmt_layer
raw_stmt-Break p l = ap raw_stmt (sym (U.rolls-Break p l)) ∙ fold-roll-RawStmt S.RawExpr S.RawForTarget S.RawInit S.RawStmt S.RawTarget CaseTerm CatchTerm DeclarationTerm DeclaratorTerm FieldTerm ForHeadTerm FunctionTerm HandlersTerm expr_layer for_target_layer init_layer stmt_layer target_layer case_layer catch_layer declaration_layer declarator_layer field_layer for_head_layer function_layer handlers_layer _

pub raw_stmt-Continue : (p : Place) (l : Option (List ℕ)) → raw_stmt (U.Continue p l) ≡ S.continue p l
unfolding raw_expr raw_target raw_init raw_for_target raw_stmt raw_case raw_catch raw_declaration raw_declarator raw_field raw_for_head raw_function raw_handlers raw_exprs raw_fields raw_declarators raw_stmts raw_cases raw_option raw_catches raw_finally stmt_layer
raw_stmt-Continue p l = ap raw_stmt (sym (U.rolls-Continue p l)) ∙ fold-roll-RawStmt S.RawExpr S.RawForTarget S.RawInit S.RawStmt S.RawTarget CaseTerm CatchTerm DeclarationTerm DeclaratorTerm FieldTerm ForHeadTerm FunctionTerm HandlersTerm expr_layer for_target_layer init_layer stmt_layer target_layer case_layer catch_layer declaration_layer declarator_layer field_layer for_head_layer function_layer handlers_layer _

pub raw_stmt-Label : (p : Place) (l : List ℕ) (ss : List RawStmt) → raw_stmt (U.Label p l ss) ≡ S.label p l (raw_stmts ss)
unfolding raw_expr raw_target raw_init raw_for_target raw_stmt raw_case raw_catch raw_declaration raw_declarator raw_field raw_for_head raw_function raw_handlers raw_exprs raw_fields raw_declarators raw_stmts raw_cases raw_option raw_catches raw_finally stmt_layer
raw_stmt-Label p l ss = ap raw_stmt (sym (U.rolls-Label p l ss)) ∙ fold-roll-RawStmt S.RawExpr S.RawForTarget S.RawInit S.RawStmt S.RawTarget CaseTerm CatchTerm DeclarationTerm DeclaratorTerm FieldTerm ForHeadTerm FunctionTerm HandlersTerm expr_layer for_target_layer init_layer stmt_layer target_layer case_layer catch_layer declaration_layer declarator_layer field_layer for_head_layer function_layer handlers_layer _

pub raw_stmt-Switch : (p : Place) (t : RawExpr) (cs : List RawCase) → raw_stmt (U.Switch p t cs) ≡ S.switch p (raw_expr t) (raw_cases cs)
unfolding raw_expr raw_target raw_init raw_for_target raw_stmt raw_case raw_catch raw_declaration raw_declarator raw_field raw_for_head raw_function raw_handlers raw_exprs raw_fields raw_declarators raw_stmts raw_cases raw_option raw_catches raw_finally stmt_layer
raw_stmt-Switch p t cs = ap raw_stmt (sym (U.rolls-Switch p t cs)) ∙ fold-roll-RawStmt S.RawExpr S.RawForTarget S.RawInit S.RawStmt S.RawTarget CaseTerm CatchTerm DeclarationTerm DeclaratorTerm FieldTerm ForHeadTerm FunctionTerm HandlersTerm expr_layer for_target_layer init_layer stmt_layer target_layer case_layer catch_layer declaration_layer declarator_layer field_layer for_head_layer function_layer handlers_layer _

pub raw_stmt-Try : (p : Place) (ss : List RawStmt) (h : RawHandlers) → raw_stmt (U.Try p ss h) ≡ S.try p (raw_stmts ss) (raw_handlers h).0 (raw_handlers h).1
unfolding raw_expr raw_target raw_init raw_for_target raw_stmt raw_case raw_catch raw_declaration raw_declarator raw_field raw_for_head raw_function raw_handlers raw_exprs raw_fields raw_declarators raw_stmts raw_cases raw_option raw_catches raw_finally stmt_layer
raw_stmt-Try p ss h = ap raw_stmt (sym (U.rolls-Try p ss h)) ∙ fold-roll-RawStmt S.RawExpr S.RawForTarget S.RawInit S.RawStmt S.RawTarget CaseTerm CatchTerm DeclarationTerm DeclaratorTerm FieldTerm ForHeadTerm FunctionTerm HandlersTerm expr_layer for_target_layer init_layer stmt_layer target_layer case_layer catch_layer declaration_layer declarator_layer field_layer for_head_layer function_layer handlers_layer _

pub raw_stmts-empty : raw_stmts [] ≡ S.no_stmts
unfolding raw_stmts stmts
raw_stmts-empty = refl

pub raw_stmts-more : (x : RawStmt) (xs : List RawStmt) → raw_stmts (x ∷ xs) ≡ S.more_stmts (raw_stmt x) (raw_stmts xs)
unfolding raw_stmts stmts
raw_stmts-more x xs = refl

pub raw_declarators-empty : raw_declarators [] ≡ S.no_declarators
unfolding raw_declarators declarators
raw_declarators-empty = refl

pub raw_declarators-more : (x : RawDeclarator) (xs : List RawDeclarator) → raw_declarators (x ∷ xs) ≡ S.more_declarators (raw_declarator x).0 (raw_declarator x).1 (raw_declarators xs)
unfolding raw_declarators declarators
raw_declarators-more x xs = refl

pub raw_cases-empty : raw_cases [] ≡ S.no_cases
unfolding raw_cases cases
raw_cases-empty = refl

pub raw_cases-more : (x : RawCase) (xs : List RawCase) → raw_cases (x ∷ xs) ≡ S.more_cases (raw_case x).0 (raw_case x).1 (raw_cases xs)
unfolding raw_cases cases
raw_cases-more x xs = refl

pub raw_field-made : (p : Place) (k : RawKey) (a : RawExpr) → raw_field (roll-RawField (record { place = p; key = k; value = a })) ≡ (p, (key k, raw_expr a))
unfolding raw_expr raw_target raw_init raw_for_target raw_stmt raw_case raw_catch raw_declaration raw_declarator raw_field raw_for_head raw_function raw_handlers raw_exprs raw_fields raw_declarators raw_stmts raw_cases raw_option raw_catches raw_finally field_layer
raw_field-made p k a = fold-roll-RawField S.RawExpr S.RawForTarget S.RawInit S.RawStmt S.RawTarget CaseTerm CatchTerm DeclarationTerm DeclaratorTerm FieldTerm ForHeadTerm FunctionTerm HandlersTerm expr_layer for_target_layer init_layer stmt_layer target_layer case_layer catch_layer declaration_layer declarator_layer field_layer for_head_layer function_layer handlers_layer _

pub raw_case-made : (t : Option RawExpr) (ss : List RawStmt) → raw_case (roll-RawCase (record { test = t; body = ss })) ≡ (raw_option t, raw_stmts ss)
unfolding raw_expr raw_target raw_init raw_for_target raw_stmt raw_case raw_catch raw_declaration raw_declarator raw_field raw_for_head raw_function raw_handlers raw_exprs raw_fields raw_declarators raw_stmts raw_cases raw_option raw_catches raw_finally case_layer
raw_case-made None ss = fold-roll-RawCase S.RawExpr S.RawForTarget S.RawInit S.RawStmt S.RawTarget CaseTerm CatchTerm DeclarationTerm DeclaratorTerm FieldTerm ForHeadTerm FunctionTerm HandlersTerm expr_layer for_target_layer init_layer stmt_layer target_layer case_layer catch_layer declaration_layer declarator_layer field_layer for_head_layer function_layer handlers_layer _
raw_case-made (Some t) ss = fold-roll-RawCase S.RawExpr S.RawForTarget S.RawInit S.RawStmt S.RawTarget CaseTerm CatchTerm DeclarationTerm DeclaratorTerm FieldTerm ForHeadTerm FunctionTerm HandlersTerm expr_layer for_target_layer init_layer stmt_layer target_layer case_layer catch_layer declaration_layer declarator_layer field_layer for_head_layer function_layer handlers_layer _

pub raw_catch-made : (n : Named) (ss : List RawStmt) → raw_catch (roll-RawCatch (record { variable = n; body = ss })) ≡ (named n, raw_stmts ss)
unfolding raw_expr raw_target raw_init raw_for_target raw_stmt raw_case raw_catch raw_declaration raw_declarator raw_field raw_for_head raw_function raw_handlers raw_exprs raw_fields raw_declarators raw_stmts raw_cases raw_option raw_catches raw_finally catch_layer
raw_catch-made n ss = fold-roll-RawCatch S.RawExpr S.RawForTarget S.RawInit S.RawStmt S.RawTarget CaseTerm CatchTerm DeclarationTerm DeclaratorTerm FieldTerm ForHeadTerm FunctionTerm HandlersTerm expr_layer for_target_layer init_layer stmt_layer target_layer case_layer catch_layer declaration_layer declarator_layer field_layer for_head_layer function_layer handlers_layer _

pub raw_declarator-made : (n : Named) (a : Option RawExpr) → raw_declarator (roll-RawDeclarator (record { variable = n; value = a })) ≡ (named n, raw_option a)
unfolding raw_expr raw_target raw_init raw_for_target raw_stmt raw_case raw_catch raw_declaration raw_declarator raw_field raw_for_head raw_function raw_handlers raw_exprs raw_fields raw_declarators raw_stmts raw_cases raw_option raw_catches raw_finally declarator_layer
raw_declarator-made n None = fold-roll-RawDeclarator S.RawExpr S.RawForTarget S.RawInit S.RawStmt S.RawTarget CaseTerm CatchTerm DeclarationTerm DeclaratorTerm FieldTerm ForHeadTerm FunctionTerm HandlersTerm expr_layer for_target_layer init_layer stmt_layer target_layer case_layer catch_layer declaration_layer declarator_layer field_layer for_head_layer function_layer handlers_layer _
raw_declarator-made n (Some a) = fold-roll-RawDeclarator S.RawExpr S.RawForTarget S.RawInit S.RawStmt S.RawTarget CaseTerm CatchTerm DeclarationTerm DeclaratorTerm FieldTerm ForHeadTerm FunctionTerm HandlersTerm expr_layer for_target_layer init_layer stmt_layer target_layer case_layer catch_layer declaration_layer declarator_layer field_layer for_head_layer function_layer handlers_layer _

pub raw_declaration-made : (n : Named) (ps : List Named) (ss : List RawStmt) → raw_declaration (roll-RawDeclaration (record { name = n; params = ps; body = ss })) ≡ (named n, (map named ps, raw_stmts ss))
unfolding raw_expr raw_target raw_init raw_for_target raw_stmt raw_case raw_catch raw_declaration raw_declarator raw_field raw_for_head raw_function raw_handlers raw_exprs raw_fields raw_declarators raw_stmts raw_cases raw_option raw_catches raw_finally declaration_layer
raw_declaration-made n ps ss = fold-roll-RawDeclaration S.RawExpr S.RawForTarget S.RawInit S.RawStmt S.RawTarget CaseTerm CatchTerm DeclarationTerm DeclaratorTerm FieldTerm ForHeadTerm FunctionTerm HandlersTerm expr_layer for_target_layer init_layer stmt_layer target_layer case_layer catch_layer declaration_layer declarator_layer field_layer for_head_layer function_layer handlers_layer _

pub raw_for_head-made : (i : RawInit) (t : Option RawExpr) (u : Option RawExpr) → raw_for_head (roll-RawForHead (record { init = i; test = t; step = u })) ≡ (raw_init i, (raw_option t, raw_option u))
unfolding raw_expr raw_target raw_init raw_for_target raw_stmt raw_case raw_catch raw_declaration raw_declarator raw_field raw_for_head raw_function raw_handlers raw_exprs raw_fields raw_declarators raw_stmts raw_cases raw_option raw_catches raw_finally for_head_layer
raw_for_head-made i None None = fold-roll-RawForHead S.RawExpr S.RawForTarget S.RawInit S.RawStmt S.RawTarget CaseTerm CatchTerm DeclarationTerm DeclaratorTerm FieldTerm ForHeadTerm FunctionTerm HandlersTerm expr_layer for_target_layer init_layer stmt_layer target_layer case_layer catch_layer declaration_layer declarator_layer field_layer for_head_layer function_layer handlers_layer _
raw_for_head-made i None (Some u) = fold-roll-RawForHead S.RawExpr S.RawForTarget S.RawInit S.RawStmt S.RawTarget CaseTerm CatchTerm DeclarationTerm DeclaratorTerm FieldTerm ForHeadTerm FunctionTerm HandlersTerm expr_layer for_target_layer init_layer stmt_layer target_layer case_layer catch_layer declaration_layer declarator_layer field_layer for_head_layer function_layer handlers_layer _
raw_for_head-made i (Some t) None = fold-roll-RawForHead S.RawExpr S.RawForTarget S.RawInit S.RawStmt S.RawTarget CaseTerm CatchTerm DeclarationTerm DeclaratorTerm FieldTerm ForHeadTerm FunctionTerm HandlersTerm expr_layer for_target_layer init_layer stmt_layer target_layer case_layer catch_layer declaration_layer declarator_layer field_layer for_head_layer function_layer handlers_layer _
raw_for_head-made i (Some t) (Some u) = fold-roll-RawForHead S.RawExpr S.RawForTarget S.RawInit S.RawStmt S.RawTarget CaseTerm CatchTerm DeclarationTerm DeclaratorTerm FieldTerm ForHeadTerm FunctionTerm HandlersTerm expr_layer for_target_layer init_layer stmt_layer target_layer case_layer catch_layer declaration_layer declarator_layer field_layer for_head_layer function_layer handlers_layer _

pub raw_handlers-made : (c : Option RawCatch) (us : Option (List RawStmt)) → raw_handlers (roll-RawHandlers (record { catch = c; finally = us })) ≡ (raw_catches c, raw_finally us)
unfolding raw_expr raw_target raw_init raw_for_target raw_stmt raw_case raw_catch raw_declaration raw_declarator raw_field raw_for_head raw_function raw_handlers raw_exprs raw_fields raw_declarators raw_stmts raw_cases raw_option raw_catches raw_finally handlers_layer
raw_handlers-made None None = fold-roll-RawHandlers S.RawExpr S.RawForTarget S.RawInit S.RawStmt S.RawTarget CaseTerm CatchTerm DeclarationTerm DeclaratorTerm FieldTerm ForHeadTerm FunctionTerm HandlersTerm expr_layer for_target_layer init_layer stmt_layer target_layer case_layer catch_layer declaration_layer declarator_layer field_layer for_head_layer function_layer handlers_layer _
raw_handlers-made None (Some us) = fold-roll-RawHandlers S.RawExpr S.RawForTarget S.RawInit S.RawStmt S.RawTarget CaseTerm CatchTerm DeclarationTerm DeclaratorTerm FieldTerm ForHeadTerm FunctionTerm HandlersTerm expr_layer for_target_layer init_layer stmt_layer target_layer case_layer catch_layer declaration_layer declarator_layer field_layer for_head_layer function_layer handlers_layer _
raw_handlers-made (Some c) None = fold-roll-RawHandlers S.RawExpr S.RawForTarget S.RawInit S.RawStmt S.RawTarget CaseTerm CatchTerm DeclarationTerm DeclaratorTerm FieldTerm ForHeadTerm FunctionTerm HandlersTerm expr_layer for_target_layer init_layer stmt_layer target_layer case_layer catch_layer declaration_layer declarator_layer field_layer for_head_layer function_layer handlers_layer _
raw_handlers-made (Some c) (Some us) = fold-roll-RawHandlers S.RawExpr S.RawForTarget S.RawInit S.RawStmt S.RawTarget CaseTerm CatchTerm DeclarationTerm DeclaratorTerm FieldTerm ForHeadTerm FunctionTerm HandlersTerm expr_layer for_target_layer init_layer stmt_layer target_layer case_layer catch_layer declaration_layer declarator_layer field_layer for_head_layer function_layer handlers_layer _

pub ruleset raw_stmt_steps = (raw_init-Nothing, raw_init-Value, raw_init-Declarators, raw_for_target-Target, raw_for_target-Declared, raw_stmt-Simple, raw_stmt-Vars, raw_stmt-FunDecl, raw_stmt-If, raw_stmt-While, raw_stmt-DoWhile, raw_stmt-For, raw_stmt-ForIn, raw_stmt-Return, raw_stmt-Throw, raw_stmt-Break, raw_stmt-Continue, raw_stmt-Label, raw_stmt-Switch, raw_stmt-Try, raw_stmts-empty, raw_stmts-more, raw_declarators-empty, raw_declarators-more, raw_cases-empty, raw_cases-more, raw_field-made, raw_case-made, raw_catch-made, raw_declarator-made, raw_declaration-made, raw_for_head-made, raw_handlers-made)

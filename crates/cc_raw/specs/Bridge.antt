-- The plain tree that a tree of src/ stands for, level by level.
use Rattle.std.specs.Prelude.{List, [], ◌∷◌, Option, Some, None, map}
use Rattle.std.specs.Option.{option_map}
use Rattle.cc_ast.specs.declared.place.Place.{Place}
use Rattle.cc_ast.specs.Syntax.{undefined, null, truth, whole, text}
use Rattle.cc_raw.specs.declared.tree.Named.{Named}
use Rattle.cc_raw.specs.declared.tree.RawKey.{RawKey}
use Rattle.cc_raw.specs.declared.tree.RawKey.TheVariants as K
use Rattle.cc_raw.specs.declared.tree.RawExpr as Expr
use Rattle.cc_raw.specs.declared.tree.RawExpr.TheOpen.{RawExpr-F, RawForTarget-F, RawInit-F, RawStmt-F, RawTarget-F, RawCase-F, RawCatch-F, RawDeclaration-F, RawDeclarator-F, RawField-F, RawForHead-F, RawFunction-F, RawHandlers-F}
use Rattle.cc_raw.specs.declared.tree.RawExpr.TheFolds.{fold-RawExpr, fold-RawForTarget, fold-RawInit, fold-RawStmt, fold-RawTarget, fold-RawCase, fold-RawCatch, fold-RawDeclaration, fold-RawDeclarator, fold-RawField, fold-RawForHead, fold-RawFunction, fold-RawHandlers}
use Rattle.cc_raw.specs.declared.tree.RawForTarget as ForTarget
use Rattle.cc_raw.specs.declared.tree.RawInit as Init
use Rattle.cc_raw.specs.declared.tree.RawStmt as Stmt
use Rattle.cc_raw.specs.declared.tree.RawTarget as Target
use Rattle.cc_raw.specs.declared.tree.RawCase as Case
use Rattle.cc_raw.specs.declared.tree.RawCatch as Catch
use Rattle.cc_raw.specs.declared.tree.RawDeclaration as Declaration
use Rattle.cc_raw.specs.declared.tree.RawDeclarator as Declarator
use Rattle.cc_raw.specs.declared.tree.RawField as Field
use Rattle.cc_raw.specs.declared.tree.RawForHead as ForHead
use Rattle.cc_raw.specs.declared.tree.RawFunction as Function
use Rattle.cc_raw.specs.declared.tree.RawHandlers as Handlers
use Rattle.cc_grammar.specs.RawTree as S

abbrev pub named : Named → S.Named
named n = record { place = n.place; name = n.name }

abbrev pub key : RawKey → S.RawKey
key (K.Dotted n) = S.dotted n
key (K.Quoted t) = S.quoted t
key (K.Numbered z) = S.numbered z

-- ---- lists and options of plain parts

-- a key of a literal with its place and value; a variable with its value; a clause; a `catch`; what a `for` has in its
-- parentheses; a function expression and a declaration behind their places; what a `try` has behind its body
abbrev pub FieldTerm : Type 0
FieldTerm = Place × (S.RawKey × S.RawExpr)

abbrev pub DeclaratorTerm : Type 0
DeclaratorTerm = S.Named × S.MaybeExpr

abbrev pub CaseTerm : Type 0
CaseTerm = S.MaybeExpr × S.RawStmts

abbrev pub CatchTerm : Type 0
CatchTerm = S.Named × S.RawStmts

abbrev pub ForHeadTerm : Type 0
ForHeadTerm = S.RawInit × (S.MaybeExpr × S.MaybeExpr)

abbrev pub FunctionTerm : Type 0
FunctionTerm = Option S.Named × (List S.Named × S.RawStmts)

abbrev pub DeclarationTerm : Type 0
DeclarationTerm = S.Named × (List S.Named × S.RawStmts)

abbrev pub HandlersTerm : Type 0
HandlersTerm = S.RawCatch × S.RawFinally

unfoldable pub exprs : List S.RawExpr → S.RawExprs
exprs [] = S.no_exprs
exprs (e ∷ es) = S.more_exprs e (exprs es)

unfoldable pub fields : List FieldTerm → S.RawFields
fields [] = S.no_fields
fields (f ∷ fs) = S.more_fields f.0 f.1.0 f.1.1 (fields fs)

unfoldable pub declarators : List DeclaratorTerm → S.RawDeclarators
declarators [] = S.no_declarators
declarators (d ∷ ds) = S.more_declarators d.0 d.1 (declarators ds)

unfoldable pub stmts : List S.RawStmt → S.RawStmts
stmts [] = S.no_stmts
stmts (s ∷ ss) = S.more_stmts s (stmts ss)

unfoldable pub cases : List CaseTerm → S.RawCases
cases [] = S.no_cases
cases (c ∷ cs) = S.more_cases c.0 c.1 (cases cs)

unfoldable pub maybe : Option S.RawExpr → S.MaybeExpr
maybe None = S.no_expr
maybe (Some e) = S.one_expr e

unfoldable pub maybe_catch : Option CatchTerm → S.RawCatch
maybe_catch None = S.no_catch
maybe_catch (Some c) = S.caught c.0 c.1

unfoldable pub maybe_finally : Option (List S.RawStmt) → S.RawFinally
maybe_finally None = S.no_finally
maybe_finally (Some ss) = S.finally (stmts ss)

-- ---- layers

unfoldable pub expr_layer : RawExpr-F S.RawExpr S.RawForTarget S.RawInit S.RawStmt S.RawTarget CaseTerm CatchTerm DeclarationTerm DeclaratorTerm FieldTerm ForHeadTerm FunctionTerm HandlersTerm → S.RawExpr
expr_layer (RawExpr-F.Undefined p) = S.lit p undefined
expr_layer (RawExpr-F.Null p) = S.lit p null
expr_layer (RawExpr-F.Truth p b) = S.lit p (truth b)
expr_layer (RawExpr-F.Whole p n) = S.lit p (whole n)
expr_layer (RawExpr-F.Text p t) = S.lit p (text t)
expr_layer (RawExpr-F.Var p n) = S.var p n
expr_layer (RawExpr-F.This p) = S.this p
expr_layer (RawExpr-F.Fun p f) = S.fun p f.0 f.1.0 f.1.1
expr_layer (RawExpr-F.List p es) = S.list p (exprs es)
expr_layer (RawExpr-F.Object p fs) = S.object p (fields fs)
expr_layer (RawExpr-F.Unary p op a) = S.unary p op a
expr_layer (RawExpr-F.Binary p op a b) = S.binary p op a b
expr_layer (RawExpr-F.And p a b) = S.and p a b
expr_layer (RawExpr-F.Or p a b) = S.or p a b
expr_layer (RawExpr-F.Cond p t a b) = S.cond p t a b
expr_layer (RawExpr-F.Assign p op t a) = S.assign p op t a
expr_layer (RawExpr-F.Step p up prefix t) = S.step p up prefix t
expr_layer (RawExpr-F.Member p a q n) = S.member p a q n
expr_layer (RawExpr-F.Index p a b) = S.index p a b
expr_layer (RawExpr-F.Call p f es) = S.call p f (exprs es)
expr_layer (RawExpr-F.New p f es) = S.new p f (exprs es)
expr_layer (RawExpr-F.Comma p a b) = S.comma p a b
expr_layer (RawExpr-F.Cast p a) = S.cast p a

unfoldable pub target_layer : RawTarget-F S.RawExpr S.RawForTarget S.RawInit S.RawStmt S.RawTarget CaseTerm CatchTerm DeclarationTerm DeclaratorTerm FieldTerm ForHeadTerm FunctionTerm HandlersTerm → S.RawTarget
target_layer (RawTarget-F.Variable p n) = S.to_var p n
target_layer (RawTarget-F.Dotted p a q n) = S.to_member p a q n
target_layer (RawTarget-F.Bracketed p a b) = S.to_index p a b

unfoldable pub init_layer : RawInit-F S.RawExpr S.RawForTarget S.RawInit S.RawStmt S.RawTarget CaseTerm CatchTerm DeclarationTerm DeclaratorTerm FieldTerm ForHeadTerm FunctionTerm HandlersTerm → S.RawInit
init_layer RawInit-F.Nothing = S.no_init
init_layer (RawInit-F.Value a) = S.init_value a
init_layer (RawInit-F.Declarators ds) = S.init_vars (declarators ds)

unfoldable pub for_target_layer : RawForTarget-F S.RawExpr S.RawForTarget S.RawInit S.RawStmt S.RawTarget CaseTerm CatchTerm DeclarationTerm DeclaratorTerm FieldTerm ForHeadTerm FunctionTerm HandlersTerm → S.RawForTarget
for_target_layer (RawForTarget-F.Target t) = S.in_target t
for_target_layer (RawForTarget-F.Declared d) = S.in_declared d.0 d.1

unfoldable pub stmt_layer : RawStmt-F S.RawExpr S.RawForTarget S.RawInit S.RawStmt S.RawTarget CaseTerm CatchTerm DeclarationTerm DeclaratorTerm FieldTerm ForHeadTerm FunctionTerm HandlersTerm → S.RawStmt
stmt_layer (RawStmt-F.Simple p a) = S.simple p a
stmt_layer (RawStmt-F.Vars p ds) = S.vars p (declarators ds)
stmt_layer (RawStmt-F.FunDecl p d) = S.fun_decl p d.0 d.1.0 d.1.1
stmt_layer (RawStmt-F.If p t ss us) = S.if p t (stmts ss) (stmts us)
stmt_layer (RawStmt-F.While p t ss) = S.while p t (stmts ss)
stmt_layer (RawStmt-F.DoWhile p ss t) = S.do_while p (stmts ss) t
stmt_layer (RawStmt-F.For p h ss) = S.for p h.0 h.1.0 h.1.1 (stmts ss)
stmt_layer (RawStmt-F.ForIn p t a ss) = S.for_in p t a (stmts ss)
stmt_layer (RawStmt-F.Return p a) = S.return p (maybe a)
stmt_layer (RawStmt-F.Throw p a) = S.throw p a
stmt_layer (RawStmt-F.Break p l) = S.break p l
stmt_layer (RawStmt-F.Continue p l) = S.continue p l
stmt_layer (RawStmt-F.Label p l ss) = S.label p l (stmts ss)
stmt_layer (RawStmt-F.Switch p t cs) = S.switch p t (cases cs)
stmt_layer (RawStmt-F.Try p ss h) = S.try p (stmts ss) h.0 h.1

unfoldable pub case_layer : RawCase-F S.RawExpr S.RawForTarget S.RawInit S.RawStmt S.RawTarget CaseTerm CatchTerm DeclarationTerm DeclaratorTerm FieldTerm ForHeadTerm FunctionTerm HandlersTerm → CaseTerm
case_layer c = (maybe c.test, stmts c.body)

unfoldable pub catch_layer : RawCatch-F S.RawExpr S.RawForTarget S.RawInit S.RawStmt S.RawTarget CaseTerm CatchTerm DeclarationTerm DeclaratorTerm FieldTerm ForHeadTerm FunctionTerm HandlersTerm → CatchTerm
catch_layer c = (named c.variable, stmts c.body)

unfoldable pub declarator_layer : RawDeclarator-F S.RawExpr S.RawForTarget S.RawInit S.RawStmt S.RawTarget CaseTerm CatchTerm DeclarationTerm DeclaratorTerm FieldTerm ForHeadTerm FunctionTerm HandlersTerm → DeclaratorTerm
declarator_layer d = (named d.variable, maybe d.value)

unfoldable pub field_layer : RawField-F S.RawExpr S.RawForTarget S.RawInit S.RawStmt S.RawTarget CaseTerm CatchTerm DeclarationTerm DeclaratorTerm FieldTerm ForHeadTerm FunctionTerm HandlersTerm → FieldTerm
field_layer f = (f.place, (key f.key, f.value))

unfoldable pub for_head_layer : RawForHead-F S.RawExpr S.RawForTarget S.RawInit S.RawStmt S.RawTarget CaseTerm CatchTerm DeclarationTerm DeclaratorTerm FieldTerm ForHeadTerm FunctionTerm HandlersTerm → ForHeadTerm
for_head_layer h = (h.init, (maybe h.test, maybe h.step))

unfoldable pub function_layer : RawFunction-F S.RawExpr S.RawForTarget S.RawInit S.RawStmt S.RawTarget CaseTerm CatchTerm DeclarationTerm DeclaratorTerm FieldTerm ForHeadTerm FunctionTerm HandlersTerm → FunctionTerm
function_layer f = (option_map named f.own, (map named f.params, stmts f.body))

unfoldable pub declaration_layer : RawDeclaration-F S.RawExpr S.RawForTarget S.RawInit S.RawStmt S.RawTarget CaseTerm CatchTerm DeclarationTerm DeclaratorTerm FieldTerm ForHeadTerm FunctionTerm HandlersTerm → DeclarationTerm
declaration_layer d = (named d.name, (map named d.params, stmts d.body))

unfoldable pub handlers_layer : RawHandlers-F S.RawExpr S.RawForTarget S.RawInit S.RawStmt S.RawTarget CaseTerm CatchTerm DeclarationTerm DeclaratorTerm FieldTerm ForHeadTerm FunctionTerm HandlersTerm → HandlersTerm
handlers_layer h = (maybe_catch h.catch, maybe_finally h.finally)

-- ---- whole trees

unfoldable pub raw_expr : Expr.RawExpr → S.RawExpr
raw_expr = fold-RawExpr S.RawExpr S.RawForTarget S.RawInit S.RawStmt S.RawTarget CaseTerm CatchTerm DeclarationTerm DeclaratorTerm FieldTerm ForHeadTerm FunctionTerm HandlersTerm expr_layer for_target_layer init_layer stmt_layer target_layer case_layer catch_layer declaration_layer declarator_layer field_layer for_head_layer function_layer handlers_layer

unfoldable pub raw_for_target : ForTarget.RawForTarget → S.RawForTarget
raw_for_target = fold-RawForTarget S.RawExpr S.RawForTarget S.RawInit S.RawStmt S.RawTarget CaseTerm CatchTerm DeclarationTerm DeclaratorTerm FieldTerm ForHeadTerm FunctionTerm HandlersTerm expr_layer for_target_layer init_layer stmt_layer target_layer case_layer catch_layer declaration_layer declarator_layer field_layer for_head_layer function_layer handlers_layer

unfoldable pub raw_init : Init.RawInit → S.RawInit
raw_init = fold-RawInit S.RawExpr S.RawForTarget S.RawInit S.RawStmt S.RawTarget CaseTerm CatchTerm DeclarationTerm DeclaratorTerm FieldTerm ForHeadTerm FunctionTerm HandlersTerm expr_layer for_target_layer init_layer stmt_layer target_layer case_layer catch_layer declaration_layer declarator_layer field_layer for_head_layer function_layer handlers_layer

unfoldable pub raw_stmt : Stmt.RawStmt → S.RawStmt
raw_stmt = fold-RawStmt S.RawExpr S.RawForTarget S.RawInit S.RawStmt S.RawTarget CaseTerm CatchTerm DeclarationTerm DeclaratorTerm FieldTerm ForHeadTerm FunctionTerm HandlersTerm expr_layer for_target_layer init_layer stmt_layer target_layer case_layer catch_layer declaration_layer declarator_layer field_layer for_head_layer function_layer handlers_layer

unfoldable pub raw_target : Target.RawTarget → S.RawTarget
raw_target = fold-RawTarget S.RawExpr S.RawForTarget S.RawInit S.RawStmt S.RawTarget CaseTerm CatchTerm DeclarationTerm DeclaratorTerm FieldTerm ForHeadTerm FunctionTerm HandlersTerm expr_layer for_target_layer init_layer stmt_layer target_layer case_layer catch_layer declaration_layer declarator_layer field_layer for_head_layer function_layer handlers_layer

unfoldable pub raw_case : Case.RawCase → CaseTerm
raw_case = fold-RawCase S.RawExpr S.RawForTarget S.RawInit S.RawStmt S.RawTarget CaseTerm CatchTerm DeclarationTerm DeclaratorTerm FieldTerm ForHeadTerm FunctionTerm HandlersTerm expr_layer for_target_layer init_layer stmt_layer target_layer case_layer catch_layer declaration_layer declarator_layer field_layer for_head_layer function_layer handlers_layer

unfoldable pub raw_catch : Catch.RawCatch → CatchTerm
raw_catch = fold-RawCatch S.RawExpr S.RawForTarget S.RawInit S.RawStmt S.RawTarget CaseTerm CatchTerm DeclarationTerm DeclaratorTerm FieldTerm ForHeadTerm FunctionTerm HandlersTerm expr_layer for_target_layer init_layer stmt_layer target_layer case_layer catch_layer declaration_layer declarator_layer field_layer for_head_layer function_layer handlers_layer

unfoldable pub raw_declarator : Declarator.RawDeclarator → DeclaratorTerm
raw_declarator = fold-RawDeclarator S.RawExpr S.RawForTarget S.RawInit S.RawStmt S.RawTarget CaseTerm CatchTerm DeclarationTerm DeclaratorTerm FieldTerm ForHeadTerm FunctionTerm HandlersTerm expr_layer for_target_layer init_layer stmt_layer target_layer case_layer catch_layer declaration_layer declarator_layer field_layer for_head_layer function_layer handlers_layer

unfoldable pub raw_field : Field.RawField → FieldTerm
raw_field = fold-RawField S.RawExpr S.RawForTarget S.RawInit S.RawStmt S.RawTarget CaseTerm CatchTerm DeclarationTerm DeclaratorTerm FieldTerm ForHeadTerm FunctionTerm HandlersTerm expr_layer for_target_layer init_layer stmt_layer target_layer case_layer catch_layer declaration_layer declarator_layer field_layer for_head_layer function_layer handlers_layer

unfoldable pub raw_for_head : ForHead.RawForHead → ForHeadTerm
raw_for_head = fold-RawForHead S.RawExpr S.RawForTarget S.RawInit S.RawStmt S.RawTarget CaseTerm CatchTerm DeclarationTerm DeclaratorTerm FieldTerm ForHeadTerm FunctionTerm HandlersTerm expr_layer for_target_layer init_layer stmt_layer target_layer case_layer catch_layer declaration_layer declarator_layer field_layer for_head_layer function_layer handlers_layer

unfoldable pub raw_function : Function.RawFunction → FunctionTerm
raw_function = fold-RawFunction S.RawExpr S.RawForTarget S.RawInit S.RawStmt S.RawTarget CaseTerm CatchTerm DeclarationTerm DeclaratorTerm FieldTerm ForHeadTerm FunctionTerm HandlersTerm expr_layer for_target_layer init_layer stmt_layer target_layer case_layer catch_layer declaration_layer declarator_layer field_layer for_head_layer function_layer handlers_layer

unfoldable pub raw_declaration : Declaration.RawDeclaration → DeclarationTerm
raw_declaration = fold-RawDeclaration S.RawExpr S.RawForTarget S.RawInit S.RawStmt S.RawTarget CaseTerm CatchTerm DeclarationTerm DeclaratorTerm FieldTerm ForHeadTerm FunctionTerm HandlersTerm expr_layer for_target_layer init_layer stmt_layer target_layer case_layer catch_layer declaration_layer declarator_layer field_layer for_head_layer function_layer handlers_layer

unfoldable pub raw_handlers : Handlers.RawHandlers → HandlersTerm
raw_handlers = fold-RawHandlers S.RawExpr S.RawForTarget S.RawInit S.RawStmt S.RawTarget CaseTerm CatchTerm DeclarationTerm DeclaratorTerm FieldTerm ForHeadTerm FunctionTerm HandlersTerm expr_layer for_target_layer init_layer stmt_layer target_layer case_layer catch_layer declaration_layer declarator_layer field_layer for_head_layer function_layer handlers_layer

unfoldable pub raw_stmts : List Stmt.RawStmt → S.RawStmts
raw_stmts xs = stmts (map raw_stmt xs)

unfoldable pub raw_exprs : List Expr.RawExpr → S.RawExprs
raw_exprs xs = exprs (map raw_expr xs)

unfoldable pub raw_fields : List Field.RawField → S.RawFields
raw_fields xs = fields (map raw_field xs)

unfoldable pub raw_declarators : List Declarator.RawDeclarator → S.RawDeclarators
raw_declarators xs = declarators (map raw_declarator xs)

unfoldable pub raw_cases : List Case.RawCase → S.RawCases
raw_cases xs = cases (map raw_case xs)

unfoldable pub raw_option : Option Expr.RawExpr → S.MaybeExpr
raw_option e = maybe (option_map raw_expr e)

unfoldable pub raw_catches : Option Catch.RawCatch → S.RawCatch
raw_catches c = maybe_catch (option_map raw_catch c)

unfoldable pub raw_finally : Option (List Stmt.RawStmt) → S.RawFinally
raw_finally b = maybe_finally (option_map (map raw_stmt) b)

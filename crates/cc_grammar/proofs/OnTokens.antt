-- The reading function on tokens, that inserts semicolons.
use Rattle.std.specs.Prelude.{ℕ, Bool, List, Option}
use Rattle.cc_ast.specs.declared.operator.BinOp.{BinOp}
use Rattle.cc_ast.specs.declared.place.Place.{Place}
use Rattle.cc_ast.specs.declared.reading.Construct.{Construct}
use Rattle.cc_lexer.specs.declared.token.Mark.{Mark}
use Rattle.cc_lexer.specs.declared.word.Word.{Word}
use Rattle.cc_grammar.specs.Symbols.{Lexeme}
use Rattle.cc_grammar.specs.RawTree.{RawExpr, RawTarget, RawForTarget, RawStmt, RawKey, RawField, RawDeclarator, RawCase, RawInit, RawCatch, RawFinally, MaybeExpr, Named}
use Rattle.cc_grammar.specs.Signs.{Prefix, Infix}
use Rattle.cc_grammar.specs.Grammar.{Context, Labels}
use Rattle.cc_grammar.specs.Reading.{Outcome, Sized, Head, Suffix, Start, Clause, look_token, rest_tokens, semicolon_token}
use Rattle.cc_grammar.specs.Reading as r

abbrev pub In : Type 0
In = r.Inner (List Lexeme) look_token rest_tokens semicolon_token

abbrev pub Reader : Type 0 → Type 0
Reader A = List Lexeme → Outcome (List Lexeme) A

abbrev pub expect : Mark → Reader (Unit {0})
expect = r.expect (List Lexeme) look_token rest_tokens semicolon_token

abbrev pub expect_word : Word → Reader (Unit {0})
expect_word = r.expect_word (List Lexeme) look_token rest_tokens semicolon_token

abbrev pub expect_end : Reader (Unit {0})
expect_end = r.expect_end (List Lexeme) look_token rest_tokens semicolon_token

abbrev pub variable_by : Option (List ℕ) → Reader Named
variable_by = r.variable_by (List Lexeme) look_token rest_tokens semicolon_token

abbrev pub variable : Reader Named
variable = r.variable (List Lexeme) look_token rest_tokens semicolon_token

abbrev pub params : ℕ → List Named → Reader (List Named)
params = r.params (List Lexeme) look_token rest_tokens semicolon_token

abbrev pub params_of : ℕ → Reader (List Named)
params_of = r.params_of (List Lexeme) look_token rest_tokens semicolon_token

abbrev pub own_name_by : Option (List ℕ) → Bool → Reader (Option Named)
own_name_by = r.own_name_by (List Lexeme) look_token rest_tokens semicolon_token

abbrev pub own_name : Reader (Option Named)
own_name = r.own_name (List Lexeme) look_token rest_tokens semicolon_token

abbrev pub closed : ℕ → Reader Bool
closed = r.closed (List Lexeme) look_token rest_tokens semicolon_token

abbrev pub opened : ℕ → ℕ → Reader Bool
opened = r.opened (List Lexeme) look_token rest_tokens semicolon_token

abbrev pub reader : ℕ → ℕ → In
reader = r.reader (List Lexeme) look_token rest_tokens semicolon_token

abbrev pub no_depth : In
no_depth = r.no_depth (List Lexeme) look_token rest_tokens semicolon_token

module _ (d n : ℕ) (inner : In) where
  abbrev pub elements : ℕ → List RawExpr → ℕ → Reader (Sized (List RawExpr))
  elements = r.elements (List Lexeme) look_token rest_tokens semicolon_token d n inner

  abbrev pub key_by : Option RawKey → Reader (Place × RawKey)
  key_by = r.key_by (List Lexeme) look_token rest_tokens semicolon_token d n inner

  abbrev pub field : Reader (Sized RawField)
  field = r.field (List Lexeme) look_token rest_tokens semicolon_token d n inner

  abbrev pub object_fields : ℕ → List RawField → ℕ → Reader (Sized (List RawField))
  object_fields = r.object_fields (List Lexeme) look_token rest_tokens semicolon_token d n inner

  abbrev pub arguments : ℕ → List RawExpr → ℕ → Reader (Sized (List RawExpr))
  arguments = r.arguments (List Lexeme) look_token rest_tokens semicolon_token d n inner

  abbrev pub arguments_of : Reader (Sized (List RawExpr))
  arguments_of = r.arguments_of (List Lexeme) look_token rest_tokens semicolon_token d n inner

  abbrev pub list : Context → ℕ → List RawStmt → ℕ → Reader (Sized (List RawStmt))
  list = r.list (List Lexeme) look_token rest_tokens semicolon_token d n inner

  abbrev pub body : Context → Reader (Sized (List RawStmt))
  body = r.body (List Lexeme) look_token rest_tokens semicolon_token d n inner

  abbrev pub function : Reader (Sized (List Named × List RawStmt))
  function = r.function (List Lexeme) look_token rest_tokens semicolon_token d n inner

  abbrev pub parentheses : Reader (Sized RawExpr)
  parentheses = r.parentheses (List Lexeme) look_token rest_tokens semicolon_token d n inner

  abbrev pub array : Reader (Sized RawExpr)
  array = r.array (List Lexeme) look_token rest_tokens semicolon_token d n inner

  abbrev pub object : Reader (Sized RawExpr)
  object = r.object (List Lexeme) look_token rest_tokens semicolon_token d n inner

  abbrev pub function_expr : Reader (Sized RawExpr)
  function_expr = r.function_expr (List Lexeme) look_token rest_tokens semicolon_token d n inner

  abbrev pub new_expr : Bool → Reader (Sized RawExpr)
  new_expr = r.new_expr (List Lexeme) look_token rest_tokens semicolon_token d n inner

  abbrev pub primary_by : Bool → Head → Reader (Sized RawExpr)
  primary_by = r.primary_by (List Lexeme) look_token rest_tokens semicolon_token d n inner

  abbrev pub primary : Bool → Reader (Sized RawExpr)
  primary = r.primary (List Lexeme) look_token rest_tokens semicolon_token d n inner

  abbrev pub property_by : Option (List ℕ) → Reader (Place × List ℕ)
  property_by = r.property_by (List Lexeme) look_token rest_tokens semicolon_token d n inner

  abbrev pub dotted : Sized RawExpr → Reader (Sized RawExpr)
  dotted = r.dotted (List Lexeme) look_token rest_tokens semicolon_token d n inner

  abbrev pub bracketed : Sized RawExpr → Reader (Sized RawExpr)
  bracketed = r.bracketed (List Lexeme) look_token rest_tokens semicolon_token d n inner

  abbrev pub called : Sized RawExpr → Reader (Sized RawExpr)
  called = r.called (List Lexeme) look_token rest_tokens semicolon_token d n inner

  abbrev pub suffix_by : (Sized RawExpr → Reader (Sized RawExpr)) → Sized RawExpr → Suffix → Reader (Sized RawExpr)
  suffix_by = r.suffix_by (List Lexeme) look_token rest_tokens semicolon_token d n inner

  abbrev pub suffixes : Bool → ℕ → Sized RawExpr → Reader (Sized RawExpr)
  suffixes = r.suffixes (List Lexeme) look_token rest_tokens semicolon_token d n inner

  abbrev pub postfix_by : Sized RawExpr → Option Bool → Option RawTarget → Bool → Reader (Sized RawExpr)
  postfix_by = r.postfix_by (List Lexeme) look_token rest_tokens semicolon_token d n inner

  abbrev pub postfix : Sized RawExpr → Reader (Sized RawExpr)
  postfix = r.postfix (List Lexeme) look_token rest_tokens semicolon_token d n inner

  abbrev pub wrong_prefix : Prefix → Place → Reader (Sized RawExpr)
  wrong_prefix = r.wrong_prefix (List Lexeme) look_token rest_tokens semicolon_token d n inner

  abbrev pub prefix_by : Prefix → Place → Sized RawExpr → Option RawExpr → Reader (Sized RawExpr)
  prefix_by = r.prefix_by (List Lexeme) look_token rest_tokens semicolon_token d n inner

  abbrev pub prefix_expr : Bool → Prefix → Reader (Sized RawExpr)
  prefix_expr = r.prefix_expr (List Lexeme) look_token rest_tokens semicolon_token d n inner

  abbrev pub prefixed : Bool → Prefix → Reader (Sized RawExpr)
  prefixed = r.prefixed (List Lexeme) look_token rest_tokens semicolon_token d n inner

  abbrev pub climb_by : (Sized RawExpr → Reader (Sized RawExpr)) → Bool → ℕ → Sized RawExpr → Option Infix → Reader (Sized RawExpr)
  climb_by = r.climb_by (List Lexeme) look_token rest_tokens semicolon_token d n inner

  abbrev pub climb : Bool → ℕ → ℕ → Sized RawExpr → Reader (Sized RawExpr)
  climb = r.climb (List Lexeme) look_token rest_tokens semicolon_token d n inner

  abbrev pub conditional : Bool → Sized RawExpr → Reader (Sized RawExpr)
  conditional = r.conditional (List Lexeme) look_token rest_tokens semicolon_token d n inner

  abbrev pub assign_by : Bool → Sized RawExpr → Option (Option BinOp) → Option RawTarget → Reader (Sized RawExpr)
  assign_by = r.assign_by (List Lexeme) look_token rest_tokens semicolon_token d n inner

  abbrev pub assign : Bool → Sized RawExpr → Reader (Sized RawExpr)
  assign = r.assign (List Lexeme) look_token rest_tokens semicolon_token d n inner

  abbrev pub comma_by : (Sized RawExpr → Reader (Sized RawExpr)) → Bool → Sized RawExpr → Bool → Reader (Sized RawExpr)
  comma_by = r.comma_by (List Lexeme) look_token rest_tokens semicolon_token d n inner

  abbrev pub commas : Bool → ℕ → Sized RawExpr → Reader (Sized RawExpr)
  commas = r.commas (List Lexeme) look_token rest_tokens semicolon_token d n inner

  abbrev pub after_unary : Bool → ℕ → Sized RawExpr → Reader (Sized RawExpr)
  after_unary = r.after_unary (List Lexeme) look_token rest_tokens semicolon_token d n inner

  abbrev pub after_head : Bool → ℕ → Sized RawExpr → Reader (Sized RawExpr)
  after_head = r.after_head (List Lexeme) look_token rest_tokens semicolon_token d n inner

  abbrev pub expr_by : Bool → ℕ → Option Prefix → Reader (Sized RawExpr)
  expr_by = r.expr_by (List Lexeme) look_token rest_tokens semicolon_token d n inner

  abbrev pub expr_of : Bool → ℕ → Reader (Sized RawExpr)
  expr_of = r.expr_of (List Lexeme) look_token rest_tokens semicolon_token d n inner

  -- ---- statements

  abbrev pub declarator : (Bool → ℕ → Reader (Sized RawExpr)) → Bool → Reader (Sized RawDeclarator)
  declarator = r.declarator (List Lexeme) look_token rest_tokens semicolon_token d n inner

  abbrev pub declarators : (Bool → ℕ → Reader (Sized RawExpr)) → Bool → ℕ → List RawDeclarator → ℕ → Reader (Sized (List RawDeclarator))
  declarators = r.declarators (List Lexeme) look_token rest_tokens semicolon_token d n inner

  abbrev pub vars : Reader (Sized (List RawStmt))
  vars = r.vars (List Lexeme) look_token rest_tokens semicolon_token d n inner

  abbrev pub simple : Place → Sized RawExpr → Reader (Sized (List RawStmt))
  simple = r.simple (List Lexeme) look_token rest_tokens semicolon_token d n inner

  abbrev pub plain : Reader (Sized (List RawStmt))
  plain = r.plain (List Lexeme) look_token rest_tokens semicolon_token d n inner

  abbrev pub block : Context → Reader (Sized (List RawStmt))
  block = r.block (List Lexeme) look_token rest_tokens semicolon_token d n inner

  abbrev pub head : Reader (Sized RawExpr)
  head = r.head (List Lexeme) look_token rest_tokens semicolon_token d n inner

  abbrev pub otherwise : Context → Place → Sized RawExpr → Sized (List RawStmt) → Reader (Sized (List RawStmt))
  otherwise = r.otherwise (List Lexeme) look_token rest_tokens semicolon_token d n inner

  abbrev pub choice : Context → Reader (Sized (List RawStmt))
  choice = r.choice (List Lexeme) look_token rest_tokens semicolon_token d n inner

  abbrev pub do_while : Context → Reader (Sized (List RawStmt))
  do_while = r.do_while (List Lexeme) look_token rest_tokens semicolon_token d n inner

  abbrev pub while : Context → Reader (Sized (List RawStmt))
  while = r.while (List Lexeme) look_token rest_tokens semicolon_token d n inner

  abbrev pub optional : Mark → Reader (Sized MaybeExpr)
  optional = r.optional (List Lexeme) look_token rest_tokens semicolon_token d n inner

  abbrev pub for_rest : Context → Place → Sized RawInit → Reader (Sized (List RawStmt))
  for_rest = r.for_rest (List Lexeme) look_token rest_tokens semicolon_token d n inner

  abbrev pub for_in : Context → Place → RawForTarget → ℕ → Reader (Sized (List RawStmt))
  for_in = r.for_in (List Lexeme) look_token rest_tokens semicolon_token d n inner

  abbrev pub for_vars_by : Context → Place → List RawDeclarator → ℕ → Bool → Reader (Sized (List RawStmt))
  for_vars_by = r.for_vars_by (List Lexeme) look_token rest_tokens semicolon_token d n inner

  abbrev pub for_value_by : Context → Place → Sized RawExpr → Option RawTarget → Bool → Reader (Sized (List RawStmt))
  for_value_by = r.for_value_by (List Lexeme) look_token rest_tokens semicolon_token d n inner

  abbrev pub for : Context → Reader (Sized (List RawStmt))
  for = r.for (List Lexeme) look_token rest_tokens semicolon_token d n inner

  abbrev pub jump_by : (Option (List ℕ) → RawStmt) → Bool → Labels → Option (List ℕ) → Reader (Sized (List RawStmt))
  jump_by = r.jump_by (List Lexeme) look_token rest_tokens semicolon_token d n inner

  abbrev pub continue : Context → Reader (Sized (List RawStmt))
  continue = r.continue (List Lexeme) look_token rest_tokens semicolon_token d n inner

  abbrev pub break : Context → Reader (Sized (List RawStmt))
  break = r.break (List Lexeme) look_token rest_tokens semicolon_token d n inner

  abbrev pub return : Context → Reader (Sized (List RawStmt))
  return = r.return (List Lexeme) look_token rest_tokens semicolon_token d n inner

  abbrev pub throw : Reader (Sized (List RawStmt))
  throw = r.throw (List Lexeme) look_token rest_tokens semicolon_token d n inner

  abbrev pub clause_by : (Bool → List RawCase → ℕ → Reader (Sized (List RawCase))) → Context → Bool → List RawCase → ℕ → Clause → Reader (Sized (List RawCase))
  clause_by = r.clause_by (List Lexeme) look_token rest_tokens semicolon_token d n inner

  abbrev pub clauses : Context → ℕ → Bool → List RawCase → ℕ → Reader (Sized (List RawCase))
  clauses = r.clauses (List Lexeme) look_token rest_tokens semicolon_token d n inner

  abbrev pub switch : Context → Reader (Sized (List RawStmt))
  switch = r.switch (List Lexeme) look_token rest_tokens semicolon_token d n inner

  abbrev pub name_by : Context → Place → List ℕ → Option Construct → Bool → Reader (Sized (List RawStmt))
  name_by = r.name_by (List Lexeme) look_token rest_tokens semicolon_token d n inner

  abbrev pub begins_with_name : Context → List ℕ → Reader (Sized (List RawStmt))
  begins_with_name = r.begins_with_name (List Lexeme) look_token rest_tokens semicolon_token d n inner

  abbrev pub block_in : Context → Reader (Sized (List RawStmt))
  block_in = r.block_in (List Lexeme) look_token rest_tokens semicolon_token d n inner

  abbrev pub finally : Context → Reader (Sized RawFinally)
  finally = r.finally (List Lexeme) look_token rest_tokens semicolon_token d n inner

  abbrev pub catch : Context → Reader (Sized RawCatch)
  catch = r.catch (List Lexeme) look_token rest_tokens semicolon_token d n inner

  abbrev pub after_catch : Context → Place → Sized (List RawStmt) → Sized RawCatch → Reader (Sized (List RawStmt))
  after_catch = r.after_catch (List Lexeme) look_token rest_tokens semicolon_token d n inner

  abbrev pub try : Context → Reader (Sized (List RawStmt))
  try = r.try (List Lexeme) look_token rest_tokens semicolon_token d n inner

  abbrev pub declaration : Reader (Sized (List RawStmt))
  declaration = r.declaration (List Lexeme) look_token rest_tokens semicolon_token d n inner

  abbrev pub stmt_by : Context → Start → Reader (Sized (List RawStmt))
  stmt_by = r.stmt_by (List Lexeme) look_token rest_tokens semicolon_token d n inner

  abbrev pub stmt_of : Context → Reader (Sized (List RawStmt))
  stmt_of = r.stmt_of (List Lexeme) look_token rest_tokens semicolon_token d n inner

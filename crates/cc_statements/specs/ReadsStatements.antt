-- The reading function of statements over lists of tokens.
use Rattle.std.specs.Prelude.{ℕ, Bool, true, false, ◌-◌, List, Option}
use Rattle.cc_ast.specs.declared.place.Place.{Place}
use Rattle.cc_ast.specs.declared.reading.Construct.{Construct}
use Rattle.cc_lexer.specs.declared.token.Mark.{Mark}
use Rattle.cc_grammar.specs.Grammar.{Context, Labels}
use Rattle.cc_grammar.specs.RawTree as S
use Rattle.cc_grammar.specs.Reading.{Outcome, Sized, Start, look_token, rest_tokens, semicolon_token}
use Rattle.cc_grammar.specs.Reading as r
use Rattle.cc_cursor.specs.declared.limits.Limits.{Limits}
use Rattle.cc_cursor.specs.Reads.{Tokens, within, expr_of}
pub use Rattle.cc_trees.specs.Nests.{function, after_head, closed_expr}

abbrev pub Parser : Type 0 → Type 0
Parser A = Tokens → Outcome Tokens A

abbrev pub list : Limits → Context → ℕ → List S.RawStmt → ℕ → Tokens → Outcome Tokens (Sized (List S.RawStmt))
list m = r.list Tokens look_token rest_tokens semicolon_token m.depth m.turns (within m)

abbrev pub body : Limits → Context → Tokens → Outcome Tokens (Sized (List S.RawStmt))
body m = r.body Tokens look_token rest_tokens semicolon_token m.depth m.turns (within m)

-- The value of a declarator. Where no `in` may stand it is that of a `for`, which stands one level inside.
abbrev pub values : Limits → Bool → Bool → ℕ → Parser (Sized S.RawExpr)
values m true = expr_of m
values m false = (within m).expr

-- how high it is at most
abbrev pub bound : Limits → Bool → ℕ
bound m true = m.depth
bound m false = m.depth - 1

abbrev pub declarator : Limits → Bool → Parser (Sized S.RawDeclarator)
declarator m n = r.declarator Tokens look_token rest_tokens semicolon_token m.depth m.turns (within m) (values m n) n

abbrev pub declarators : Limits → Bool → ℕ → List S.RawDeclarator → ℕ → Parser (Sized (List S.RawDeclarator))
declarators m n = r.declarators Tokens look_token rest_tokens semicolon_token m.depth m.turns (within m) (values m n) n

abbrev pub simple : Limits → Place → Sized S.RawExpr → Parser (Sized (List S.RawStmt))
simple m = r.simple Tokens look_token rest_tokens semicolon_token m.depth m.turns (within m)

abbrev pub head : Limits → Parser (Sized S.RawExpr)
head m = r.head Tokens look_token rest_tokens semicolon_token m.depth m.turns (within m)

abbrev pub otherwise : Limits → Context → Place → Sized S.RawExpr → Sized (List S.RawStmt) → Parser (Sized (List S.RawStmt))
otherwise m = r.otherwise Tokens look_token rest_tokens semicolon_token m.depth m.turns (within m)

abbrev pub optional : Limits → Mark → Parser (Sized S.MaybeExpr)
optional m = r.optional Tokens look_token rest_tokens semicolon_token m.depth m.turns (within m)

abbrev pub for_rest : Limits → Context → Place → Sized S.RawInit → Parser (Sized (List S.RawStmt))
for_rest m = r.for_rest Tokens look_token rest_tokens semicolon_token m.depth m.turns (within m)

abbrev pub for_in : Limits → Context → Place → S.RawForTarget → ℕ → Parser (Sized (List S.RawStmt))
for_in m = r.for_in Tokens look_token rest_tokens semicolon_token m.depth m.turns (within m)

abbrev pub for_vars : Limits → Context → Place → List S.RawDeclarator → ℕ → Bool → Parser (Sized (List S.RawStmt))
for_vars m = r.for_vars_by Tokens look_token rest_tokens semicolon_token m.depth m.turns (within m)

abbrev pub for_value : Limits → Context → Place → Sized S.RawExpr → Option S.RawTarget → Bool → Parser (Sized (List S.RawStmt))
for_value m = r.for_value_by Tokens look_token rest_tokens semicolon_token m.depth m.turns (within m)

abbrev pub jump : Limits → (Option (List ℕ) → S.RawStmt) → Bool → Labels → Option (List ℕ) → Parser (Sized (List S.RawStmt))
jump m = r.jump_by Tokens look_token rest_tokens semicolon_token m.depth m.turns (within m)

abbrev pub clauses : Limits → Context → ℕ → Bool → List S.RawCase → ℕ → Parser (Sized (List S.RawCase))
clauses m = r.clauses Tokens look_token rest_tokens semicolon_token m.depth m.turns (within m)

abbrev pub switch : Limits → Context → Parser (Sized (List S.RawStmt))
switch m = r.switch Tokens look_token rest_tokens semicolon_token m.depth m.turns (within m)

abbrev pub block_in : Limits → Context → Parser (Sized (List S.RawStmt))
block_in m = r.block_in Tokens look_token rest_tokens semicolon_token m.depth m.turns (within m)

abbrev pub finally : Limits → Context → Parser (Sized S.RawFinally)
finally m = r.finally Tokens look_token rest_tokens semicolon_token m.depth m.turns (within m)

abbrev pub catch : Limits → Context → Parser (Sized S.RawCatch)
catch m = r.catch Tokens look_token rest_tokens semicolon_token m.depth m.turns (within m)

abbrev pub after_catch : Limits → Context → Place → Sized (List S.RawStmt) → Sized S.RawCatch → Parser (Sized (List S.RawStmt))
after_catch m = r.after_catch Tokens look_token rest_tokens semicolon_token m.depth m.turns (within m)

abbrev pub started : Limits → Context → Start → Parser (Sized (List S.RawStmt))
started m = r.stmt_by Tokens look_token rest_tokens semicolon_token m.depth m.turns (within m)

abbrev pub stmt_of : Limits → Context → Parser (Sized (List S.RawStmt))
stmt_of m = r.stmt_of Tokens look_token rest_tokens semicolon_token m.depth m.turns (within m)

abbrev pub vars : Limits → Parser (Sized (List S.RawStmt))
vars m = r.vars Tokens look_token rest_tokens semicolon_token m.depth m.turns (within m)

abbrev pub plain : Limits → Parser (Sized (List S.RawStmt))
plain m = r.plain Tokens look_token rest_tokens semicolon_token m.depth m.turns (within m)

abbrev pub throw : Limits → Parser (Sized (List S.RawStmt))
throw m = r.throw Tokens look_token rest_tokens semicolon_token m.depth m.turns (within m)

abbrev pub named : Limits → Context → Place → List ℕ → Option Construct → Bool → Parser (Sized (List S.RawStmt))
named m = r.name_by Tokens look_token rest_tokens semicolon_token m.depth m.turns (within m)

abbrev pub while_loop : Limits → Context → Parser (Sized (List S.RawStmt))
while_loop m = r.while Tokens look_token rest_tokens semicolon_token m.depth m.turns (within m)

abbrev pub for_loop : Limits → Context → Parser (Sized (List S.RawStmt))
for_loop m = r.for Tokens look_token rest_tokens semicolon_token m.depth m.turns (within m)

abbrev pub continue_jump : Limits → Context → Parser (Sized (List S.RawStmt))
continue_jump m = r.continue Tokens look_token rest_tokens semicolon_token m.depth m.turns (within m)

abbrev pub break_jump : Limits → Context → Parser (Sized (List S.RawStmt))
break_jump m = r.break Tokens look_token rest_tokens semicolon_token m.depth m.turns (within m)

abbrev pub returned : Limits → Context → Parser (Sized (List S.RawStmt))
returned m = r.return Tokens look_token rest_tokens semicolon_token m.depth m.turns (within m)

abbrev pub try_statement : Limits → Context → Parser (Sized (List S.RawStmt))
try_statement m = r.try Tokens look_token rest_tokens semicolon_token m.depth m.turns (within m)

-- the statements up to the end of the text, of a tree that is as high as the depth at most
abbrev pub program : Limits → Parser (Sized (List S.RawStmt))
program m = r.program Tokens look_token rest_tokens semicolon_token m.turns m.depth

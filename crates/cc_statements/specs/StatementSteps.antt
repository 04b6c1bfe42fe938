-- Statements in steps.
use Rattle.std.specs.Prelude.{ℕ, ◌+◌, max, if◌then◌else◌, List, [], ◌∷◌, Option, Ok}
use Rattle.cc_ast.specs.declared.place.Place.{Place}
use Rattle.cc_lexer.specs.declared.word.Word.TheVariants as word
use Rattle.cc_grammar.specs.Grammar.{Context, inside}
use Rattle.cc_grammar.specs.RawTree as S
use Rattle.cc_grammar.specs.Symbols.{is_word}
use Rattle.cc_grammar.specs.Reading.{Sized, and_then, look_token, rest_tokens}
use Rattle.cc_grammar.specs.Reading as r
use Rattle.cc_raw.specs.declared.tree.RawStmt.{RawStmt}
use Rattle.cc_cursor.specs.declared.limits.Limits.{Limits}
use Rattle.cc_cursor.specs.declared.starts.Start.{Start}
use Rattle.cc_cursor.specs.declared.starts.Start.TheVariants as start
use Rattle.cc_cursor.specs.Reads.{within, expect_word}
use Rattle.cc_trees.specs.StatementParts as parts
use Rattle.cc_statements.specs.ReadsStatements.{Parser}
use Rattle.cc_statements.specs.ReadsStatements as spec

-- the `while` of a `do`, with its expression
abbrev pub while_head : Limits → Parser (Sized S.RawExpr)
while_head m ts = and_then (expect_word word.While ts) (λ _ us. spec.head m us)

-- the second branch of an `if`, nothing where there is none
abbrev pub second_branch : Limits → Context → Parser (Sized (List S.RawStmt))
second_branch m c ts = if is_word word.Else (look_token ts).kind then (within m).stmt (inside c) (rest_tokens ts) else Ok (([], 0), ts)

-- the `finally` of a `try`, where it has one
abbrev pub maybe_finally : Limits → Context → Parser (Sized S.RawFinally)
maybe_finally m c ts = if is_word word.Finally (look_token ts).kind then spec.finally m c ts else Ok ((S.no_finally, 0), ts)

abbrev pub sized_finally : Option (List RawStmt) × ℕ → Sized S.RawFinally
sized_finally x = (parts.finally x.0, x.1)

-- a `try` behind its block, at its `catch`, and where it has none
abbrev pub caught : Limits → Context → Place → Sized (List S.RawStmt) → Parser (Sized (List S.RawStmt))
caught m c p b ts = and_then (spec.catch m c ts) (λ f us. spec.after_catch m c p b f us)

abbrev pub uncaught : Limits → Context → Place → Sized (List S.RawStmt) → Parser (Sized (List S.RawStmt))
uncaught m c p b ts = and_then (spec.finally m c ts) (λ g us. Ok ((S.try p (S.stmts b.0) S.no_catch g.0 ∷ [], max b.1 g.1 + 1), us))

-- ---- a statement by what begins it, some beginnings at a time

-- a loop or a jump, which is a `throw` where it is no other
abbrev pub moved : Limits → Context → Start → Parser (Sized (List S.RawStmt))
moved m c start.Do = spec.started m c r.is_do
moved m c start.While = spec.started m c r.is_while
moved m c start.For = spec.started m c r.is_for
moved m c start.Continue = spec.started m c r.is_continue
moved m c start.Break = spec.started m c r.is_break
moved m c start.Return = spec.started m c r.is_return
moved m c _ = spec.throw m

-- a statement that has others inside, or else one of those
abbrev pub compound : Limits → Context → Start → Parser (Sized (List S.RawStmt))
compound m c start.Block = spec.started m c r.is_block
compound m c start.If = spec.started m c r.is_if
compound m c start.Switch = spec.started m c r.is_switch
compound m c start.Try = spec.started m c r.is_try
compound m c s = moved m c s

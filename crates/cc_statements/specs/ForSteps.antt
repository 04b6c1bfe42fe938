-- A `for` and a `for-in` in steps.
use Rattle.std.specs.Prelude.{ℕ, max, true, false, if◌then◌else◌, List, [], Ok, map}
use Rattle.cc_ast.specs.declared.place.Place.{Place}
use Rattle.cc_lexer.specs.declared.token.Mark.{Mark}
use Rattle.cc_lexer.specs.declared.token.Mark.TheVariants as mark
use Rattle.cc_lexer.specs.declared.word.Word.TheVariants as word
use Rattle.cc_grammar.specs.Symbols.{is_mark, is_word}
use Rattle.cc_grammar.specs.Grammar.{Context, in_loop}
use Rattle.cc_grammar.specs.RawTree as S
use Rattle.cc_grammar.specs.Signs.{target_of}
use Rattle.cc_grammar.specs.Reading.{Sized, and_then, look_token, rest_tokens}
use Rattle.cc_raw.specs.declared.tree.RawExpr.{RawExpr}
use Rattle.cc_raw.specs.declared.tree.RawStmt.{RawStmt}
use Rattle.cc_raw.specs.Bridge.{raw_expr, raw_stmt}
use Rattle.cc_cursor.specs.declared.limits.Limits.{Limits}
use Rattle.cc_cursor.specs.Reads.{within, expect}
use Rattle.cc_trees.specs.StatementParts as parts
use Rattle.cc_statements.specs.declared.loops.Turning.{Turning}
use Rattle.cc_statements.specs.ReadsStatements.{Parser}
use Rattle.cc_statements.specs.ReadsStatements as spec

-- nothing before this mark, or an expression, and the mark
abbrev pub closed_optional : Limits → Mark → Parser (Sized S.MaybeExpr)
closed_optional m k ts = and_then (spec.optional m k ts) (λ x us. and_then (expect k us) (λ _ vs. Ok (x, vs)))

-- the test and the step of a `for`, up to its body
abbrev pub turning : Limits → Parser (Sized (S.MaybeExpr × S.MaybeExpr))
turning m ts = and_then (expect mark.Semicolon ts) (λ _ us. and_then (closed_optional m mark.Semicolon us) (λ x vs. and_then (closed_optional m mark.CloseParen vs)
    (λ y ws. Ok (((x.0, y.0), max x.1 y.1), ws))))

abbrev pub sized_turning : Turning × ℕ → Sized (S.MaybeExpr × S.MaybeExpr)
sized_turning x = ((parts.optional x.0.test, parts.optional x.0.step), x.1)

-- these and the body
abbrev pub for_behind : Limits → Context → Parser (Sized ((S.MaybeExpr × S.MaybeExpr) × List S.RawStmt))
for_behind m c ts = and_then (turning m ts) (λ x us. and_then ((within m).stmt (in_loop c) us) (λ b vs. Ok (((x.0, b.0), max x.1 b.1), vs)))

abbrev pub sized_behind : (Turning × List RawStmt) × ℕ → Sized ((S.MaybeExpr × S.MaybeExpr) × List S.RawStmt)
sized_behind x = (((parts.optional x.0.0.test, parts.optional x.0.0.step), map raw_stmt x.0.1), x.1)

-- a `for` at its `var`
abbrev pub for_declared : Limits → Context → Place → Parser (Sized (List S.RawStmt))
for_declared m c p ts = and_then (spec.declarators m false m.turns [] 0 (rest_tokens ts)) (λ ds us. spec.for_vars m c p ds.0 ds.1 (is_word word.In (look_token us).kind) us)

-- one that begins with an expression
abbrev pub for_valued : Limits → Context → Place → Parser (Sized (List S.RawStmt))
for_valued m c p ts = and_then ((within m).expr false 0 ts) (λ x us. spec.for_value m c p x (target_of x.0) (is_word word.In (look_token us).kind) us)

-- one behind its parenthesis
abbrev pub for_head : Limits → Context → Place → Parser (Sized (List S.RawStmt))
for_head m c p ts = (if is_word word.Var (look_token ts).kind then for_declared m c p
    else (if is_mark mark.Semicolon (look_token ts).kind then spec.for_rest m c p (S.no_init, 0) else for_valued m c p)) ts

-- the object whose names it goes over, and its body
abbrev pub in_rest : Limits → Context → Parser (Sized (S.RawExpr × List S.RawStmt))
in_rest m c ts = and_then ((within m).expr true 0 ts) (λ e us. and_then (expect mark.CloseParen us) (λ _ vs. and_then ((within m).stmt (in_loop c) vs)
    (λ b ws. Ok (((e.0, b.0), max e.1 b.1), ws))))

abbrev pub sized_in : (RawExpr × List RawStmt) × ℕ → Sized (S.RawExpr × List S.RawStmt)
sized_in x = ((raw_expr x.0.0, map raw_stmt x.0.1), x.1)

-- Definitions of expressions, opened.
use Rattle.std.proofs.Common.{◌≡◌, refl, ap, ◌+◌, max, Bool, true, false, Ok, Err, if◌then◌else◌, List, [], arith}
use Rattle.cc_lexer.specs.declared.token.Mark.TheVariants as mark
use Rattle.cc_ast.specs.declared.place.Place.{Place}
use Rattle.cc_grammar.specs.RawTree as S
use Rattle.cc_grammar.specs.Signs.{parenthesised}
use Rattle.cc_grammar.specs.Symbols.{is_mark}
use Rattle.cc_grammar.specs.Reading.{Outcome, Sized, and_then, look_token, rest_tokens}
use Rattle.cc_grammar.specs.ReadingExpressions as r
use Rattle.cc_cursor.specs.declared.limits.Limits.{Limits}
use Rattle.cc_cursor.specs.Reads.{Tokens, within, expect}
use Rattle.cc_trees.proofs.Chains.{closed_same}
use Rattle.cc_expr.specs.Expressions as spec

pub parentheses_opened : (m : Limits) (i : Tokens) → spec.parentheses m i
    ≡ and_then (spec.closed_expr m 0 mark.CloseParen (rest_tokens i)) (λ x us. Ok ((parenthesised (look_token i) x.0, x.1 + 1), us))
unfolding r.parentheses
parentheses_opened m i = closed_same ((within m).expr true 0 (rest_tokens i)) (expect mark.CloseParen) (λ x us. Ok ((parenthesised (look_token i) x.0, x.1 + 1), us))

pub bracketed_opened : (m : Limits) (a : Sized S.RawExpr) (i : Tokens) → spec.bracketed m a i
    ≡ and_then (spec.closed_expr m 0 mark.CloseBracket (rest_tokens i)) (λ x us. Ok ((S.index (look_token i).place a.0 x.0, max a.1 x.1 + 1), us))
unfolding r.bracketed
bracketed_opened m a i = closed_same ((within m).expr true 0 (rest_tokens i)) (expect mark.CloseBracket) (λ x us. Ok ((S.index (look_token i).place a.0 x.0, max a.1 x.1 + 1), us))

pub branches_opened : (m : Limits) (n : Bool) (i : Tokens) → spec.branches m n i
    ≡ and_then (spec.closed_expr m 1 mark.Colon i) (λ x us. and_then ((within m).expr n 1 us) (λ y vs. Ok (((x.0, y.0), max x.1 y.1), vs)))
branches_opened m n i = closed_same ((within m).expr true 1 i) (expect mark.Colon) (λ x us. and_then ((within m).expr n 1 us) (λ y vs. Ok (((x.0, y.0), max x.1 y.1), vs)))

-- ---- a `new`, with arguments or not

abbrev Reader : Type 0
Reader = Tokens → Outcome Tokens (Sized S.RawExpr)

abbrev made : Place → Sized S.RawExpr → Sized (List S.RawExpr) → Reader
made p f x us = Ok ((S.new p f.0 (S.exprs x.0), max f.1 x.1 + 1), us)

abbrev choose : Bool → Reader → Reader → Reader
choose b p q = if b then p else q

abbrev with_arguments : Limits → Place → Sized S.RawExpr → Reader
with_arguments m p f us = and_then (spec.arguments_of m (rest_tokens us)) (made p f)

abbrev without : Place → Sized S.RawExpr → Reader
without p f us = Ok ((S.new p f.0 S.no_exprs, f.1 + 1), us)

new_by : (m : Limits) (p : Place) (f : Sized S.RawExpr) (us : Tokens) (b : Bool)
    → choose b (with_arguments m p f) (without p f) us ≡ and_then (if b then spec.arguments_of m (rest_tokens us) else Ok (([], 0), us)) (made p f)
new_by m p f us true = refl
new_by m p f us false = let e : f.1 ≡ max f.1 0 = omega arith in ap (λ h. Ok ((S.new p f.0 S.no_exprs, h + 1), us)) e

new_behind : (m : Limits) (p : Place) (o : Outcome Tokens (Sized S.RawExpr))
    → and_then o (λ f us. choose (is_mark mark.OpenParen (look_token us).kind) (with_arguments m p f) (without p f) us)
    ≡ and_then o (λ f us. and_then (spec.new_arguments m us) (made p f))
new_behind m p (Ok q) = new_by m p q.0 q.1 (is_mark mark.OpenParen (look_token q.1).kind)
new_behind m p (Err x) = refl

pub new_opened : (m : Limits) (n : Bool) (i : Tokens) → spec.new_expr m n i
    ≡ and_then ((within m).expr n 17 (rest_tokens i)) (λ f us. and_then (spec.new_arguments m us) (λ x vs. Ok ((S.new (look_token i).place f.0 (S.exprs x.0), max f.1 x.1 + 1), vs)))
unfolding r.new_expr
new_opened m n i = new_behind m (look_token i).place ((within m).expr n 17 (rest_tokens i))

-- A conditional, opened.
use Rattle.std.proofs.Common.{◌≡◌, ◌∙◌, refl, ap, ◌+◌, max, Bool, true, false, Ok, Err, if◌then◌else◌}
use Rattle.std.specs.Prelude.{nat_lt}
use Rattle.cc_ast.specs.declared.place.Place.{Place}
use Rattle.cc_lexer.specs.declared.token.Mark.TheVariants as mark
use Rattle.cc_grammar.specs.RawTree as S
use Rattle.cc_grammar.specs.Symbols.{is_mark}
use Rattle.cc_grammar.specs.Reading.{Outcome, Sized, and_then, depth, look_token, rest_tokens}
use Rattle.cc_grammar.specs.ReadingExpressions.{conditional}
use Rattle.cc_cursor.specs.declared.limits.Limits.{Limits}
use Rattle.cc_cursor.specs.Reads.{Tokens, within, expect}
use Rattle.cc_expr.specs.Expressions as spec
use Rattle.cc_trees.proofs.Chains.{three_same}

abbrev Reader : Type 0
Reader = Tokens → Outcome Tokens (Sized S.RawExpr)

abbrev choose : Bool → Reader → Reader → Reader
choose b p q = if b then p else q

abbrev asked : Limits → Bool → Sized S.RawExpr → Place → Reader
asked m n a p i = and_then ((within m).expr true 1 (rest_tokens i)) (λ x j. and_then (expect mark.Colon j) (λ _ k. and_then ((within m).expr n 1 k)
    (λ y l. Ok ((S.cond p a.0 x.0 y.0, max a.1 (max x.1 y.1) + 1), l))))

abbrev deep : Reader
deep i = Err (record { cause = depth; place = (look_token i).place }, i)

abbrev fits : Bool → Reader → Reader
fits b p i = if b then p i else deep i

abbrev behind : Sized S.RawExpr → Reader
behind a i = Ok (a, i)

opened : (m : Limits) (n : Bool) (a : Sized S.RawExpr) (i : Tokens)
    → spec.conditional m n a i ≡ choose (is_mark mark.Question (look_token i).kind) (fits (nat_lt a.1 m.depth) (asked m n a (look_token i).place)) (behind a) i
unfolding conditional
opened m n a i = refl

asked_is : (m : Limits) (n : Bool) (a : Sized S.RawExpr) (i : Tokens) → asked m n a (look_token i).place i ≡ spec.chosen m n a i
asked_is m n a i = three_same ((within m).expr true 1 (rest_tokens i)) (expect mark.Colon) ((within m).expr n 1) (λ x y. ((x.0, y.0), max x.1 y.1))
    (λ b j. Ok ((S.cond (look_token i).place a.0 b.0.0 b.0.1, max a.1 b.1 + 1), j))

pub conditional_asked : (m : Limits) (n : Bool) (a : Sized S.RawExpr) (i : Tokens) → is_mark mark.Question (look_token i).kind ≡ true → nat_lt a.1 m.depth ≡ true
    → spec.conditional m n a i ≡ spec.chosen m n a i
conditional_asked m n a i e l = opened m n a i ∙ ap (λ b. choose b (fits (nat_lt a.1 m.depth) (asked m n a (look_token i).place)) (behind a) i) e ∙ ap (λ b. fits b (asked m n a (look_token i).place) i) l ∙ asked_is m n a i

pub conditional_deep : (m : Limits) (n : Bool) (a : Sized S.RawExpr) (i : Tokens) → is_mark mark.Question (look_token i).kind ≡ true → nat_lt a.1 m.depth ≡ false
    → spec.conditional m n a i ≡ Err (record { cause = depth; place = (look_token i).place }, i)
conditional_deep m n a i e l = opened m n a i ∙ ap (λ b. choose b (fits (nat_lt a.1 m.depth) (asked m n a (look_token i).place)) (behind a) i) e ∙ ap (λ b. fits b (asked m n a (look_token i).place) i) l

pub conditional_none : (m : Limits) (n : Bool) (a : Sized S.RawExpr) (i : Tokens) → is_mark mark.Question (look_token i).kind ≡ false → spec.conditional m n a i ≡ Ok (a, i)
conditional_none m n a i e = opened m n a i ∙ ap (λ b. choose b (fits (nat_lt a.1 m.depth) (asked m n a (look_token i).place)) (behind a) i) e

pub ruleset conditional_steps = (conditional_asked, conditional_deep, conditional_none)

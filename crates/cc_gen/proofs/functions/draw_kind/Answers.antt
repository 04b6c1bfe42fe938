use Rattle.std.proofs.Common.{◌≡◌, ◌+◌, arith, ap, ◌∙◌}
use Rattle.cc_gen.specs.Draws.{state}
use Rattle.cc_gen.specs.Texts.{draws_before}
use Rattle.cc_gen.proofs.TextLaws.{kind-first, kind-more, draws_before-first, draws_before-more}
use Rattle.cc_gen.proofs.functions.draw_kind.Goals as goal

pub returns-then-i-eq0-clause-kind : goal.returns-then-i-eq0-clause-kind
returns-then-i-eq0-clause-kind c = λ seed at.
    c.first_kind.ensures ∙ kind-first seed c.args.i c.draw-t.result c.if-i-eq0.true (c.draw-t.ensures.value seed (draws_before c.args.i) at)

pub returns-then-i-eq0-clause-state : goal.returns-then-i-eq0-clause-state
returns-then-i-eq0-clause-state c = λ seed at.
    c.draw-t.ensures.state seed (draws_before c.args.i) at ∙ ap (state seed) (draws_before-first c.args.i c.if-i-eq0.true)

pub returns-clause-kind : goal.returns-clause-kind
returns-clause-kind c = λ seed at.
    let once : c.draw-t.new.self.state ≡ state seed (draws_before c.args.i + 1) = c.draw-t.ensures.state seed (draws_before c.args.i) at in
    c.later_kind.ensures
    ∙ kind-more seed c.args.i c.draw-t.result c.draw-earlier.result (omega arith) (c.draw-t.ensures.value seed (draws_before c.args.i) at) (c.draw-earlier.ensures.value seed (draws_before c.args.i + 1) once)

pub returns-clause-state : goal.returns-clause-state
returns-clause-state c = λ seed at.
    let once : c.draw-t.new.self.state ≡ state seed (draws_before c.args.i + 1) = c.draw-t.ensures.state seed (draws_before c.args.i) at in
    c.draw-earlier.ensures.state seed (draws_before c.args.i + 1) once ∙ ap (state seed) (draws_before-more c.args.i (omega arith))

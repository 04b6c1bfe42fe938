use Rattle.std.proofs.Common.{[], ◌∷◌, refl, ap, subst}
use Rattle.cc_meaning.specs.Acts.{is_fatal}
use Rattle.cc_meaning.specs.Judge.{operates}
use Rattle.cc_meaning.specs.Monad.{M, Res}
use Rattle.cc_meaning.specs.Operators.{unary_of}
use Rattle.cc_meaning.specs.Rules.{unary_op}
use Rattle.cc_meaning.specs.Values.{Val}
use Rattle.cc_value.specs.Bridge.{value_of}
use Rattle.cc_acts.specs.Shown.{Comes, spot_of, state_of}
use Rattle.cc_acts.proofs.Operating.{own-one, own-one-rule}
use Rattle.cc_acts.proofs.operators.operate_value.Goals as goal

pub returns : goal.returns
unfolding is_fatal
returns c = λ rs.
    let s = state_of c.args.setting.now.program.now rs c.args.state.now in
    let x = value_of c.args.value.now in
    let act = ap (λ (m : M Val). m s) (own-one c.args.op c.args.setting.now.plain (spot_of c.args.spot) x c.requires.no_type) in
    subst (λ (r : Res Val). Comes value_of c.settle_answer.result s r) act
    (c.settle_answer.ensures (unary_of c.args.op x) (operates (unary_op c.args.op) (x ∷ [])) s (λ r. refl) c.unary-answer.ensures (own-one-rule c.args.op s x c.requires.no_type))

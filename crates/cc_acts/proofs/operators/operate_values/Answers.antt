use Rattle.std.proofs.Common.{[], ◌∷◌, refl, ap, subst}
use Rattle.cc_meaning.specs.Acts.{is_fatal}
use Rattle.cc_meaning.specs.Judge.{operates}
use Rattle.cc_meaning.specs.Monad.{M, Res}
use Rattle.cc_meaning.specs.Operators.{binary_of}
use Rattle.cc_meaning.specs.Rules.{binary_op}
use Rattle.cc_meaning.specs.Values.{Val}
use Rattle.cc_value.specs.Bridge.{value_of}
use Rattle.cc_acts.specs.Shown.{Comes, spot_of, state_of}
use Rattle.cc_acts.proofs.Operating.{own-rule, own-act}
use Rattle.cc_acts.proofs.operators.operate_values.Goals as goal

pub returns : goal.returns
unfolding is_fatal
returns c = λ rs.
    let s = state_of c.args.setting.now.program.now rs c.args.state.now in
    let x = value_of c.args.left.now in
    let y = value_of c.args.right.now in
    let act = ap (λ (m : M Val). m s) (own-act c.args.op c.args.setting.now.plain (spot_of c.args.spot) x y c.requires.no_instance c.requires.no_has) in
    subst (λ (r : Res Val). Comes value_of c.settle_answer.result s r) act
    (c.settle_answer.ensures (binary_of c.args.op x y) (operates (binary_op c.args.op) (x ∷ y ∷ [])) s (λ r. refl) c.binary-answer.ensures (own-rule c.args.op s x y c.requires.no_instance c.requires.no_has))

use Rattle.std.proofs.Common.{◌∙◌, [], Some, None, sym, ap, subst}
use Rattle.cc_ast.specs.declared.tree.Ref.{Ref}
use Rattle.cc_meaning.specs.Acts.{read_var, read_place}
use Rattle.cc_meaning.specs.Monad.{End, Res, over, stop}
use Rattle.cc_meaning.specs.Store.{frame_at}
use Rattle.cc_meaning.specs.Values.{Val}
use Rattle.cc_value.specs.Bridge.{value_of}
use Rattle.cc_acts.specs.Shown.{Comes, spot_of, state_of}
use Rattle.cc_acts.specs.Verdicts.{mode_of}
use Rattle.cc_acts.proofs.Variables.{read-at}
use Rattle.cc_acts.proofs.reads.read_var.Goals as goal

pub returns-in-Some : goal.returns-in-Some
unfolding frame_at
returns-in-Some c = λ rs g e.
    let s = state_of c.args.setting.now.program.now rs c.args.state.now in
    let i = spot_of c.args.spot in
    let J = mode_of c.args.setting.now.plain in
    let here = read-at J i g c.args.at c.in-Frame.up c.in-Frame.place (Some c.in-Some.frame) s e (sym c.in-Some.is ∙ c.frame_outwards.ensures) in
    let named = ap (λ (x : Ref). read_var J i g x s) (sym c.in-Frame.is) in
    subst (λ (r : Res Val). Comes value_of c.read_place.result s r) (here ∙ named) (c.read_place.ensures rs)

pub returns-in-None : goal.returns-in-None
unfolding read_place stop frame_at
returns-in-None c = λ rs g e.
    let s = state_of c.args.setting.now.program.now rs c.args.state.now in
    let i = spot_of c.args.spot in
    let J = mode_of c.args.setting.now.plain in
    let here = read-at J i g c.args.at c.in-Frame.up c.in-Frame.place None s e (sym c.in-None.is ∙ c.frame_outwards.ensures) in
    let named = ap (λ (x : Ref). read_var J i g x s) (sym c.in-Frame.is) in
    sym (here ∙ named) ∙ ap (λ (x : End). over [] x) (sym c.fault.ensures)

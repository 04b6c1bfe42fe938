use Rattle.std.proofs.Common.{◌∙◌, Some, None, sym, ap, subst}
use Rattle.cc_ast.specs.declared.tree.Ref.{Ref}
use Rattle.cc_meaning.specs.Acts.{write_place, write_var}
use Rattle.cc_meaning.specs.Monad.{Res, ret}
use Rattle.cc_meaning.specs.Store.{frame_at}
use Rattle.cc_value.specs.Bridge.{value_of}
use Rattle.cc_acts.specs.Shown.{Comes, spot_of, state_of}
use Rattle.cc_acts.specs.Verdicts.{mode_of}
use Rattle.cc_acts.proofs.Variables.{write-at}
use Rattle.cc_acts.proofs.writes.write_var.Goals as goal

pub returns-in-Some : goal.returns-in-Some
unfolding frame_at
returns-in-Some c = λ rs g e.
    let P = c.args.setting.now.program.now in
    let s = state_of P rs c.args.state.now in
    let i = spot_of c.args.spot in
    let J = mode_of c.args.setting.now.plain in
    let here = write-at J i g c.args.at c.in-Frame.up c.in-Frame.place (value_of c.args.value) (Some c.in-Some.frame) s e (sym c.in-Some.is ∙ c.frame_outwards.ensures) in
    let named = ap (λ (x : Ref). write_var J i g x (value_of c.args.value) s) (sym c.in-Frame.is) in
    subst (λ (r : Res (Unit {0})). Comes {A = Unit {0}} (λ u. u) c.write_place.result (state_of P rs c.write_place.new.state) r) (here ∙ named) (c.write_place.ensures rs)

pub returns-in-None : goal.returns-in-None
unfolding write_place frame_at ret
returns-in-None c = λ rs g e.
    let s = state_of c.args.setting.now.program.now rs c.args.state.now in
    let i = spot_of c.args.spot in
    let J = mode_of c.args.setting.now.plain in
    let here = write-at J i g c.args.at c.in-Frame.up c.in-Frame.place (value_of c.args.value) None s e (sym c.in-None.is ∙ c.frame_outwards.ensures) in
    let named = ap (λ (x : Ref). write_var J i g x (value_of c.args.value) s) (sym c.in-Frame.is) in
    sym (here ∙ named)

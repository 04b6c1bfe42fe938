use Rattle.std.proofs.Common.{◌≡◌, ◌∙◌, sym, ap, List, Some, None, slice_get}
use Rattle.std.specs.Option.{option_copied}
use Rattle.cc_ast.specs.Syntax.{Program}
use Rattle.cc_ast.specs.declared.tables.GlobalInfo.{GlobalInfo}
use Rattle.cc_meaning.specs.Store.{chunk_in}
use Rattle.cc_acts.proofs.setting.Setting.chunk_of.Goals as goal

pub returns-in-Some : goal.returns-in-Some
unfolding chunk_in
returns-in-Some c =
    let got : slice_get c.args.self.now.program.now.globals c.args.global ≡ Some c.in-Some.info.now =
    ap (λ (P : Program). slice_get P.globals c.args.global) (sym c.program.view_is) ∙ ap (λ (gs : List GlobalInfo). slice_get gs c.args.global) (sym c.get.ensures) ∙ sym c.get-2.ensures.value ∙ ap option_copied c.in-Some.is in
    sym (ap chunk_in got)

pub returns-in-None : goal.returns-in-None
unfolding chunk_in
returns-in-None c =
    let got : slice_get c.args.self.now.program.now.globals c.args.global ≡ None =
    ap (λ (P : Program). slice_get P.globals c.args.global) (sym c.program.view_is) ∙ ap (λ (gs : List GlobalInfo). slice_get gs c.args.global) (sym c.get.ensures) ∙ sym c.get-2.ensures.value ∙ ap option_copied c.in-None.is in
    sym (ap chunk_in got)

use Rattle.std.proofs.Common.{ap, ◌∙◌, map}
use Rattle.cc_ast.specs.Syntax as S
use Rattle.cc_driver.specs.NamingSteps.{global_of}
use Rattle.cc_driver.proofs.GivenLaws.{given_within, naming_done}
use Rattle.cc_driver.proofs.naming.name.Goals as goal

pub assign-requires : goal.assign-requires
assign-requires c =
    given_within c.as_slice-globals.result.now c.in_ok-ranks.ranks.items c.in_ok-given.given c.in_ok-names.names
    c.in_ok-ranks.ensures.all (c.in_ok-given.ensures.globals ∙ ap (map global_of) c.as_slice-2.ensures.value) c.in_ok-names.ensures

pub returns : goal.returns
returns c =
    naming_done c.args.program.now c.args.pieces.now c.as_slice.result.now c.as_slice-globals.result.now
    (c.as_slice-globals.ensures ∙ c.get.ensures ∙ ap (λ (program : S.Program). program.globals) c.program.view_is) c.as_slice.ensures
    c.in_ok-given.ensures.names.0 c.in_ok-ranks.ranks.items c.in_ok-given.given c.in_ok-names.names c.assign.new.names
    c.in_ok-ranks.ensures.all c.in_ok-ranks.ensures.ranked c.in_ok-given.ensures.names.1
    (c.in_ok-given.ensures.globals ∙ ap (map global_of) c.as_slice-2.ensures.value) c.in_ok-given.ensures.names.2 c.in_ok-names.ensures c.assign.ensures

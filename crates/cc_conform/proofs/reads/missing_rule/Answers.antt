use Rattle.std.proofs.Common.{◌∙◌, sym, ap}
use Rattle.std.specs.Option.{option_map}
use Rattle.cc_heap.specs.Bridge.{held_of}
use Rattle.cc_meaning.specs.Store.{chain_of, look_up}
use Rattle.cc_conform.proofs.ReadLemmas.{found-rule}
use Rattle.cc_conform.proofs.reads.missing_rule.Goals as goal

pub returns-in-Some : goal.returns-in-Some
returns-in-Some c =
    let os = c.args.heap.now.objs in
    found-rule os (chain_of os c.args.object) c.args.name.now (look_up os c.args.object c.args.name.now) (held_of c.in-Some.field-0) (sym c.read_slot.ensures ∙ ap (option_map held_of) c.in-Some.is)

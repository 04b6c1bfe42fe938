use Rattle.std.proofs.Common.{◌∙◌, sym, ap, Some, None}
use Rattle.std.specs.Option.{option_map, option_copied}
use Rattle.cc_heap.proofs.PlaceLaws.{place-shown, shown-copied}
use Rattle.cc_meaning.specs.Acts.{global_value}
use Rattle.cc_meaning.specs.Store.{flat_option}
use Rattle.cc_value.specs.Bridge.{value_of}
use Rattle.cc_acts.proofs.reads.value_of_global.Goals as goal

pub returns-in-Some : goal.returns-in-Some
unfolding global_value flat_option
returns-in-Some c = λ rs P.
    shown-copied c.as_ref.result
    ∙ ap (option_map value_of) c.as_ref.ensures.value
    ∙ sym (place-shown c.args.state.now.globals c.args.global (Some c.in-Some.value.now) (sym c.get.ensures.value ∙ ap option_copied c.in-Some.is))

pub returns-in-None : goal.returns-in-None
unfolding global_value flat_option
returns-in-None c = λ rs P.
    sym (place-shown c.args.state.now.globals c.args.global None (sym c.get.ensures.value ∙ ap option_copied c.in-None.is))

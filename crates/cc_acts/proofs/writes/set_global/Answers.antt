use Rattle.std.proofs.Common.{◌∙◌, List, Option, Some, map, ap, length, ◌≤◌, arith}
use Rattle.std.specs.Option.{option_map}
use Rattle.std.proofs.lemmas.List.{map-set}
use Rattle.cc_meaning.specs.Acts.{set_global}
use Rattle.cc_meaning.specs.Values.{Val}
use Rattle.cc_value.specs.Bridge.{value_of}
use Rattle.cc_acts.specs.Shown.{state_of}
use Rattle.cc_acts.proofs.Variables.{set-past}
use Rattle.cc_acts.proofs.writes.set_global.Goals as goal

pub returns-then-number-len : goal.returns-then-number-len
unfolding set_global
returns-then-number-len c = λ rs P.
    ap (λ (gs : List (Option Val)). record (state_of P rs c.args.state.now) { globals = gs })
    (ap (map (option_map value_of)) c.set.ensures ∙ map-set (option_map value_of) c.args.state.now.globals c.args.global (Some c.args.value))

pub returns-else-number-len : goal.returns-else-number-len
unfolding set_global
returns-else-number-len c = λ rs P.
    let past : length c.args.state.now.globals ≤ c.args.global = omega (arith, c.len.ensures, c.if-number-len.false) in
    ap (λ (gs : List (Option Val)). record (state_of P rs c.args.state.now) { globals = gs })
    (ap (map (option_map value_of)) (set-past c.args.state.now.globals c.args.global (Some c.args.value) past) ∙ map-set (option_map value_of) c.args.state.now.globals c.args.global (Some c.args.value))

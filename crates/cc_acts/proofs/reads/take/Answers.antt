use Rattle.std.proofs.Common.{◌≡◌, ◌∙◌, refl, sym, ap, [], Bool, is_some, Ok, Bor}
use Rattle.std.specs.Option.{option_map}
use Rattle.cc_heap.proofs.ObjectLaws.{is_some-map}
use Rattle.cc_value.specs.declared.value.Value.{Value}
use Rattle.cc_value.specs.Bridge.{value_of}
use Rattle.cc_meaning.specs.Acts.{is_fatal}
use Rattle.cc_meaning.specs.Builtins.{or_undefined}
use Rattle.cc_meaning.specs.Judge.{takes, least_broken}
use Rattle.cc_meaning.specs.Monad.{ok, ret}
use Rattle.cc_meaning.specs.Rules.{take_rule}
use Rattle.cc_meaning.specs.Shapes.{tables_of}
use Rattle.cc_meaning.specs.Values.{Val}
use Rattle.cc_conform.specs.Bridge.{variable_of}
use Rattle.cc_acts.specs.Shown.{spot_of, state_of}
use Rattle.cc_acts.proofs.Judging.{ends_at, goes_at}
use Rattle.cc_acts.proofs.reads.take.Goals as goal

pub returns-in-Err : goal.returns-in-Err
unfolding least_broken is_fatal
returns-in-Err c = λ rs.
    let v = option_map (λ (x : Bor Value). value_of x.now) c.args.value in
    let s = state_of c.args.setting.now.program.now rs c.args.state.now in
    let a = takes (variable_of c.args.variable) c.args.loaded (is_some v) in
    let set : c.is_some.result ≡ is_some v = c.is_some.ensures ∙ sym (is_some-map (λ (x : Bor Value). value_of x.now) c.args.value) in
    let rule = c.take_rule-rule.ensures ∙ ap (λ (b : Bool). take_rule (tables_of c.args.setting.now.program.now) (variable_of c.args.variable) c.args.loaded b) set in
    ends_at value_of c.args.setting.now.plain (spot_of c.args.spot) a (ret (or_undefined v)) s s c.take_rule-rule.result c.settle.result c.in-Err.stop rule (c.settle.ensures a (λ r. refl)) c.in-Err.is

pub returns : goal.returns
unfolding least_broken is_fatal ret
returns c = λ rs.
    let v = option_map (λ (x : Bor Value). value_of x.now) c.args.value in
    let s = state_of c.args.setting.now.program.now rs c.args.state.now in
    let a = takes (variable_of c.args.variable) c.args.loaded (is_some v) in
    let set : c.is_some.result ≡ is_some v = c.is_some.ensures ∙ sym (is_some-map (λ (x : Bor Value). value_of x.now) c.args.value) in
    let rule = c.take_rule-rule.ensures ∙ ap (λ (b : Bool). take_rule (tables_of c.args.setting.now.program.now) (variable_of c.args.variable) c.args.loaded b) set in
    goes_at value_of c.args.setting.now.plain (spot_of c.args.spot) a (ret (or_undefined v)) s s c.take_rule-rule.result c.settle.result _ (Ok c.in_ok-copy_or_undefined.field-0) rule (c.settle.ensures a (λ r. refl)) c.in_default.is
    (ap (λ (x : Val). ok [] x s) (sym (c.in_ok-copy_or_undefined.ensures {u = tt})))

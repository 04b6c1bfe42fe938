-- What is judged of an act doesn't depend on the budget.
use Rattle.std.proofs.Common.{◌≡◌, refl, ℕ}
use Rattle.cc_meaning.specs.State.{State, Tables}
use Rattle.cc_meaning.specs.Built.{outcome_of, rule_in}
use Rattle.cc_meaning.specs.SlotRules.{field_rule, object_read, read_rule, declares_well, code_rule, prototype_rule, object_write, write_rule, object_remove, remove_rule, probe_rule, walk_rule}
use Rattle.cc_meaning.specs.Rules.{prototype_at, binary_rule, operate_rule, callee_rule, is_instance, runs_on, receiver_fits, all_fit, enter_rule, builds_well, leave_rule, keep_rule, cast_rule, names_well, host_rule}
use Rattle.cc_meaning.specs.Judge.{Act, least_broken}

pub blind_rule : (T : Tables) (s : State) (b : ℕ) (a : Act) → least_broken T (record s { budget = b }) a ≡ least_broken T s a
unfolding least_broken outcome_of rule_in field_rule object_read read_rule declares_well code_rule prototype_rule object_write write_rule object_remove remove_rule probe_rule walk_rule prototype_at binary_rule operate_rule callee_rule is_instance runs_on receiver_fits all_fit enter_rule builds_well leave_rule keep_rule cast_rule names_well host_rule
blind_rule T s b a = refl

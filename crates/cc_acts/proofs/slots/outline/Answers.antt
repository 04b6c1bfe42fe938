use Rattle.cc_value.specs.Bridge.{value_of}
use Rattle.cc_acts.proofs.FieldLaws.{no-obj}
use Rattle.cc_acts.proofs.SlotLaws.{outlined}
use Rattle.cc_acts.proofs.slots.outline.Goals as goal

pub returns-in_default : goal.returns-in_default
returns-in_default c = λ ts os. outlined (value_of c.args.value.now) (no-obj c.args.value.now c.in_default.not-Object) ts os

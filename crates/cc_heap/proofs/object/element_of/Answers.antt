use Rattle.std.proofs.Common.{◌∙◌, ap, sym, Some, None}
use Rattle.std.specs.Option.{option_copied}
use Rattle.cc_heap.proofs.ElementLaws.{length-found, element-found, no-index}
use Rattle.cc_heap.proofs.object.element_of.Goals as goal

pub returns-then-is_spelled : goal.returns-then-is_spelled
returns-then-is_spelled c = sym (length-found c.args.items.now c.args.name.now (sym c.is_spelled.ensures ∙ c.if-is_spelled.true))

pub returns-in-Some-at : goal.returns-in-Some-at
returns-in-Some-at c =
    sym (element-found c.args.items.now c.args.name.now (sym c.is_spelled.ensures ∙ c.if-is_spelled.false) c.in-Some.place (Some c.in-Some-at.value.now) (sym c.index_of.ensures ∙ c.in-Some.is) (sym c.at.ensures ∙ ap option_copied c.in-Some-at.is))

pub returns-in-None-at : goal.returns-in-None-at
returns-in-None-at c =
    sym (element-found c.args.items.now c.args.name.now (sym c.is_spelled.ensures ∙ c.if-is_spelled.false) c.in-Some.place None (sym c.index_of.ensures ∙ c.in-Some.is) (sym c.at.ensures ∙ ap option_copied c.in-None-at.is))

pub returns-in-None : goal.returns-in-None
returns-in-None c = sym (no-index c.args.items.now c.args.name.now (sym c.is_spelled.ensures ∙ c.if-is_spelled.false) (sym c.index_of.ensures ∙ c.in-None.is))

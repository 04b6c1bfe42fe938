use Rattle.std.proofs.Common.{◌≡◌, ℕ, false, Bool, List, take, sym, ap, ◌∙◌, refl}
use Rattle.std.specs.List.{list_any}
use Rattle.std.proofs.lemmas.List.{take_all}
use Rattle.cc_types.specs.Types.{subtype, instance_of}
use Rattle.cc_types.proofs.Ancestry.{instance-tells, instance-unknown, instance-found, instance-none}
use Rattle.cc_types.proofs.instance_of.Goals as goal

pub returns-then-type_set-clause-test : goal.returns-then-type_set-clause-test
returns-then-type_set-clause-test c = instance-unknown c.args.classes.now c.args.class c.args.type_set.now c.if-type_set.true

pub returns-then-subtype-clause-test : goal.returns-then-subtype-clause-test
returns-then-subtype-clause-test c =
    instance-found c.args.classes.now c.args.class _ c.args.type_set.now c.as_slice-wanted-items.result.now c.loop-wanted.wanted-index c.as_slice-wanted-items.ensures c.loop-wanted-test.true refl (sym c.subtype.ensures.test ∙ c.if-subtype.true)

-- no class of the type is an ancestor
no_instance : (c : goal.After-loop-wanted) → false ≡ instance_of c.args.classes.now c.args.class c.args.type_set.now
no_instance c =
    let f : ℕ → Bool = λ d. subtype c.args.classes.now c.args.class d in
    let items : List ℕ = c.as_slice-wanted-items.result.now in
    let whole : take c.loop-wanted.wanted-index items ≡ items = take_all c.loop-wanted.wanted-index items c.loop-wanted-test.false in
    instance-none c.args.classes.now c.args.class c.args.type_set.now c.if-type_set.false (ap (list_any f) (sym (whole ∙ c.as_slice-wanted-items.ensures)) ∙ c.loop-wanted.invariant)

pub returns-clause-test : goal.returns-clause-test
returns-clause-test c = no_instance c

pub returns-clause-instance : goal.returns-clause-instance
returns-clause-instance c = instance-tells false c.args.classes.now c.args.class c.args.type_set.now (no_instance c)

use Rattle.std.proofs.Common.{◌∙◌, ap, sym, Option}
use Rattle.std.specs.Option.{option_map, option_copied}
use Rattle.cc_meaning.specs.State.{Obj}
use Rattle.cc_meaning.specs.Store.{found_at}
use Rattle.cc_heap.specs.Bridge.{held_of}
use Rattle.cc_heap.specs.Store.{value_if_found}
use Rattle.cc_heap.proofs.LookUpLaws.{met-value, met-built, met-nothing, met-missing}
use Rattle.cc_heap.proofs.heap.Heap.meet.Goals as goal

pub returns-in-Some-own : goal.returns-in-Some-own
returns-in-Some-own c = λ rest.
    ap (λ (o : Option Obj). found_at o c.args.name.now rest) (sym c.object.ensures ∙ ap option_copied c.in-Some.is)
    ∙ met-value c.in-Some.object.now c.args.name.now (held_of c.in-Some-own.held) (sym c.own.ensures ∙ ap (option_map held_of) c.in-Some-own.is) rest

pub returns-then-hides : goal.returns-then-hides
returns-then-hides c = λ rest.
    ap (λ (o : Option Obj). value_if_found (found_at o c.args.name.now rest)) (sym c.object.ensures ∙ ap option_copied c.in-Some.is)
    ∙ met-built c.in-Some.object.now c.args.name.now (sym c.own.ensures ∙ ap (option_map held_of) c.in-None-own.is) (sym c.hides.ensures ∙ c.if-hides.true) rest

pub returns-else-hides : goal.returns-else-hides
returns-else-hides c = λ rest.
    ap (λ (o : Option Obj). found_at o c.args.name.now rest) (sym c.object.ensures ∙ ap option_copied c.in-Some.is)
    ∙ met-nothing c.in-Some.object.now c.args.name.now (sym c.own.ensures ∙ ap (option_map held_of) c.in-None-own.is) (sym c.hides.ensures ∙ c.if-hides.false) rest

pub returns-in-None : goal.returns-in-None
returns-in-None c = λ rest.
    ap (λ (o : Option Obj). found_at o c.args.name.now rest) (sym c.object.ensures ∙ ap option_copied c.in-None.is)
    ∙ met-missing c.args.name.now rest

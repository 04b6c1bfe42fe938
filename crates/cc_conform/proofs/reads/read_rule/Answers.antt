use Rattle.std.proofs.Common.{◌≡◌, ◌∙◌, List, ℕ, [], sym, ap}
use Rattle.cc_meaning.specs.Shapes.{tables_of}
use Rattle.cc_meaning.specs.SlotRules.{object_read, read_rule, prim_read, outside_rule, slot_rule, text_read}
use Rattle.cc_meaning.specs.State.{keyed_kind}
use Rattle.cc_meaning.specs.Store.{name_of}
use Rattle.cc_value.specs.Bridge.{value_of}
use Rattle.cc_value.specs.declared.value.Value.{Value}
use Rattle.cc_conform.specs.Bridge.{access_of, with_store}
use Rattle.cc_conform.proofs.ReadLemmas.{read-others}
use Rattle.cc_conform.proofs.reads.read_rule.Goals as goal

pub returns-in-Object : goal.returns-in-Object
unfolding read_rule
returns-in-Object c = λ s.
    let T = tables_of c.args.program.now in
    let a = access_of c.args.key.now in
    let S = with_store s c.args.heap.now in
    c.object_read.ensures s ∙ ap (object_read T S c.in-Object.object a) c.name_of-name.ensures ∙ ap (λ (v : Value). read_rule T S (value_of v) a) (sym c.in-Object.is)

pub returns-in-Outside : goal.returns-in-Outside
unfolding read_rule outside_rule
returns-in-Outside c = λ s.
    let T = tables_of c.args.program.now in
    let a = access_of c.args.key.now in
    let named : c.as_slice.result.now ≡ name_of T a = c.as_slice.ensures.value ∙ c.name.view_is ∙ c.name_of-name.ensures in
    c.outside_rule.ensures ∙ ap (λ (n : List ℕ). slot_rule T a n keyed_kind []) named ∙ ap (λ (v : Value). read_rule T (with_store s c.args.heap.now) (value_of v) a) (sym c.in-Outside.is)

pub returns-in-Text : goal.returns-in-Text
unfolding read_rule prim_read
returns-in-Text c = λ s.
    let T = tables_of c.args.program.now in
    let a = access_of c.args.key.now in
    let named : c.as_slice-in-Text.result.now ≡ name_of T a = c.as_slice-in-Text.ensures.value ∙ c.name.view_is ∙ c.name_of-name.ensures in
    c.text_read.ensures ∙ ap text_read named ∙ ap (λ (v : Value). read_rule T (with_store s c.args.heap.now) (value_of v) a) (sym c.in-Text.is)

pub returns : goal.returns
returns c = λ s. read-others (tables_of c.args.program.now) (with_store s c.args.heap.now) (access_of c.args.key.now) c.args.on.now c.in_default.not-Text c.in_default.not-Object c.in_default.not-Outside

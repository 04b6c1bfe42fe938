use Rattle.std.proofs.Common.{◌≡◌, ◌∙◌, ℕ, ◌+◌, ◌<◌, ◌≤◌, List, drop, length, not, ◌&&◌, [], slice_index_or, sym, ap, subst}
use Rattle.cc_ast.specs.Syntax.{Program}
use Rattle.cc_ast.specs.declared.tables.Class.{Class}
use Rattle.cc_conform.proofs.Loops.{step, end}
use Rattle.cc_heap.specs.Store.{Store}
use Rattle.cc_meaning.specs.Shapes.{tables_of}
use Rattle.cc_meaning.specs.State.{Obj, Tables}
use Rattle.cc_meaning.specs.Typed.{fields_from, types_of_fields}
use Rattle.cc_meaning.specs.Types.{subtype}
use Rattle.cc_meaning.specs.Monad.{pick}
use Rattle.cc_value.specs.Bridge.{value_of}
use Rattle.cc_acts.specs.Received.{received_all}
use Rattle.cc_acts.proofs.FieldLaws.{class-next}
use Rattle.cc_acts.proofs.fields.receive_in_classes.Goals as goal

pub loop-at-preserved : goal.loop-at-preserved
unfolding tables_of
loop-at-preserved c =
    let T : Tables = tables_of c.args.program.now in
    let cs : List Class = c.args.program.now.classes in
    let k = c.loop-at.at in
    let v = value_of c.args.value.now in
    let n : List ℕ = c.args.name.now in
    let os : List Obj = c.loop-at.heap.objs in
    let same : c.as_slice-class-items.result.now ≡ cs = c.as_slice-class-items.ensures ∙ c.get.ensures ∙ ap (λ (P : Program). P.classes) c.program.view_is in
    let within : k < length cs = subst (λ (xs : List Class). k < length xs) same c.loop-at-test.true in
    let walk = step (λ (xs : List Class). received_all (fields_from T k xs c.args.of n) v os) cs k c.class-item.result within (c.class-item.is ∙ ap (λ (xs : List Class). slice_index_or xs k c.class-item.result) same) in
    let next = class-next T k c.class-item.result (drop (k + 1) cs) c.args.of n v os in
    let heap = c.in_ok-receive_in_class.ensures {u = tt} in (
      heap ∙ ap (λ (h : Store). record h { objs = received_all (pick (not c.class-item.result.external && subtype T.classes c.args.of k) (types_of_fields T n c.class-item.result.fields) []) v os }) c.loop-at.invariant.0 ∙ ap (λ (h : Store). record c.args.heap.now { objs = h.objs }) (sym heap),
      ap (λ (h : Store). received_all (fields_from T (k + 1) (drop (k + 1) cs) c.args.of n) v h.objs) heap ∙ sym next ∙ sym walk ∙ c.loop-at.invariant.1,
    )

pub returns : goal.returns
unfolding tables_of fields_from received_all
returns c =
    let T : Tables = tables_of c.args.program.now in
    let cs : List Class = c.args.program.now.classes in
    let v = value_of c.args.value.now in
    let same : c.as_slice-class-items.result.now ≡ cs = c.as_slice-class-items.ensures ∙ c.get.ensures ∙ ap (λ (P : Program). P.classes) c.program.view_is in
    let past : length cs ≤ c.loop-at.at = subst (λ (xs : List Class). length xs ≤ c.loop-at.at) same c.loop-at-test.false in
    let last = end (λ (xs : List Class). received_all (fields_from T c.loop-at.at xs c.args.of c.args.name.now) v c.loop-at.heap.objs) cs c.loop-at.at past in
    c.loop-at.invariant.0 ∙ ap (λ (os : List Obj). record c.args.heap.now { objs = os }) (sym last ∙ c.loop-at.invariant.1)

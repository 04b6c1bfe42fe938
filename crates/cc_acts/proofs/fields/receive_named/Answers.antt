use Rattle.std.proofs.Common.{◌≡◌, ◌∙◌, ℕ, ◌+◌, List, drop, slice_index_or, Option, Some, sym, ap}
use Rattle.std.proofs.lemmas.Option.{slice_get-get_or}
use Rattle.cc_conform.proofs.Loops.{step_got, end}
use Rattle.std.specs.Option.{option_copied}
use Rattle.cc_ast.specs.declared.tables.TypeSet.{TypeSet}
use Rattle.cc_heap.specs.Store.{Store}
use Rattle.cc_meaning.specs.Shapes.{tables_of}
use Rattle.cc_meaning.specs.State.{Obj, Tables}
use Rattle.cc_meaning.specs.Typed.{doc_at, types_of_fields, value_in}
use Rattle.cc_value.specs.Bridge.{value_of}
use Rattle.cc_acts.specs.Received.{received, received_all}
use Rattle.cc_acts.proofs.FieldLaws.{field-named, field-other}
use Rattle.cc_acts.proofs.fields.receive_named.Goals as goal
use Rattle.cc_acts.proofs.fields.receive_named.Goals.{then-is_named+in_ok-receive, else-is_named}

pub loop-field-preserved : goal.loop-field-preserved
loop-field-preserved c =
    let T : Tables = tables_of c.args.program.now in
    let n : List ℕ = c.args.name.now in
    let fs : List (ℕ × ℕ) = c.args.fields.now in
    let k = c.loop-field.field-index in
    let v = value_of c.args.value.now in
    let x : ℕ × ℕ = slice_index_or fs k (0, 0) in
    let rest : List (ℕ × ℕ) = drop (k + 1) fs in
    let walk = step_got (λ (xs : List (ℕ × ℕ)). received_all (types_of_fields T n xs) v c.loop-field.heap.objs) fs k x (sym (slice_get-get_or fs k (0, 0) c.loop-field-test.true)) in
    elim c.if-is_named.branch [
      | then-is_named+in_ok-receive w ↦
          let type : option_copied w.value_type.result ≡ value_in (doc_at T (Some x.1)) = w.value_type.ensures in
          let heap : c.if-is_named.heap ≡ record c.loop-field.heap { objs = received (option_copied w.value_type.result) v c.loop-field.heap.objs } = w.heap-is ∙ w.in_ok-receive.ensures {u = tt} in
          let frame = ap (λ (h : Store). record h { objs = received (option_copied w.value_type.result) v c.loop-field.heap.objs }) c.loop-field.invariant.0 in
          let named = field-named T n x rest v c.loop-field.heap.objs (sym (w.if-is_named.ensures {u = tt})) in (
            heap ∙ frame ∙ ap (λ (h : Store). record c.args.heap.now { objs = h.objs }) (sym heap),
            ap (λ (h : Store). received_all (types_of_fields T n rest) v h.objs) heap ∙ ap (λ (t : Option TypeSet). received_all (types_of_fields T n rest) v (received t v c.loop-field.heap.objs)) type ∙ sym named ∙ sym walk ∙ c.loop-field.invariant.1,
          )
      | else-is_named w ↦
          let other = field-other T n x rest v c.loop-field.heap.objs (sym (w.if-is_named.ensures {u = tt})) in (
            w.heap-is ∙ c.loop-field.invariant.0 ∙ ap (λ (h : Store). record c.args.heap.now { objs = h.objs }) (sym w.heap-is),
            ap (λ (h : Store). received_all (types_of_fields T n rest) v h.objs) w.heap-is ∙ sym other ∙ sym walk ∙ c.loop-field.invariant.1,
          )
    ]

pub returns : goal.returns
unfolding received_all types_of_fields
returns c =
    let T : Tables = tables_of c.args.program.now in
    let v = value_of c.args.value.now in
    let last = end (λ (xs : List (ℕ × ℕ)). received_all (types_of_fields T c.args.name.now xs) v c.loop-field.heap.objs) c.args.fields.now c.loop-field.field-index c.loop-field-test.false in
    c.loop-field.invariant.0 ∙ ap (λ (os : List Obj). record c.args.heap.now { objs = os }) (sym last ∙ c.loop-field.invariant.1)

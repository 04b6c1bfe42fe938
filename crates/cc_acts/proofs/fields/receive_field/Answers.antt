use Rattle.std.proofs.Common.{◌≡◌, ◌∙◌, ◌||◌, ℕ, List, Option, false, true, sym, ap, subst}
use Rattle.std.specs.Result.{OnOk}
use Rattle.cc_conform.specs.Bridge.{access_of}
use Rattle.cc_meaning.specs.Shapes.{tables_of}
use Rattle.cc_meaning.specs.SlotRules.{fields_reached, is_dot}
use Rattle.cc_meaning.specs.State.{Obj}
use Rattle.cc_meaning.specs.Store.{is_kept, name_of}
use Rattle.cc_meaning.specs.Typed.{field_types, fields_of_class}
use Rattle.cc_value.specs.Bridge.{value_of}
use Rattle.cc_acts.specs.Received.{received_all}
use Rattle.cc_acts.proofs.FieldLaws.{nothing-received, all-received}
use Rattle.cc_acts.proofs.fields.receive_field.Goals as goal

pub returns-then-not-is_reached : goal.returns-then-not-is_reached
unfolding fields_reached
returns-then-not-is_reached c =
    let T = tables_of c.args.program.now in
    let a = access_of c.args.key.now in
    let v = value_of c.args.value.now in
    let os : List Obj = c.args.heap.now.objs in
    let kept : c.is_kept.result ≡ is_kept T (name_of T a) = c.is_kept.ensures ∙ ap (is_kept T) c.requires in
    let b : (is_kept T (name_of T a) || is_dot a) ≡ false = sym (λ i. kept i || c.is_dot.ensures i) ∙ c.if-not-is_reached.true in
    ap (λ (xs : List Obj). record c.args.heap.now { objs = xs }) (nothing-received (is_kept T (name_of T a) || is_dot a) (field_types T os c.args.object (name_of T a)) v os b)

pub returns-in-Some : goal.returns-in-Some
unfolding fields_reached field_types fields_of_class
returns-in-Some c =
    let T = tables_of c.args.program.now in
    let a = access_of c.args.key.now in
    let v = value_of c.args.value.now in
    let os : List Obj = c.args.heap.now.objs in
    let kept : c.is_kept.result ≡ is_kept T (name_of T a) = c.is_kept.ensures ∙ ap (is_kept T) c.requires in
    let b : (is_kept T (name_of T a) || is_dot a) ≡ true = sym (λ i. kept i || c.is_dot.ensures i) ∙ c.if-not-is_reached.false in
    let class = ap (λ (o : Option ℕ). received_all (fields_of_class T o c.args.name.now) v os) (c.in-Some.ensures {u = tt}) in
    let name = ap (λ (n : List ℕ). received_all (field_types T os c.args.object n) v os) c.requires in
    let all = class ∙ name ∙ all-received (is_kept T (name_of T a) || is_dot a) (field_types T os c.args.object (name_of T a)) v os b in
    subst (λ (xs : List Obj). OnOk c.receive_in_classes.result (c.receive_in_classes.new.heap ≡ record c.args.heap.now { objs = xs })) all c.receive_in_classes.ensures

pub returns-in-None : goal.returns-in-None
unfolding fields_reached field_types fields_of_class received_all
returns-in-None c =
    let T = tables_of c.args.program.now in
    let a = access_of c.args.key.now in
    let v = value_of c.args.value.now in
    let os : List Obj = c.args.heap.now.objs in
    let kept : c.is_kept.result ≡ is_kept T (name_of T a) = c.is_kept.ensures ∙ ap (is_kept T) c.requires in
    let b : (is_kept T (name_of T a) || is_dot a) ≡ true = sym (λ i. kept i || c.is_dot.ensures i) ∙ c.if-not-is_reached.false in
    let class = ap (λ (o : Option ℕ). received_all (fields_of_class T o c.args.name.now) v os) (c.in-None.ensures {u = tt}) in
    let name = ap (λ (n : List ℕ). received_all (field_types T os c.args.object n) v os) c.requires in
    ap (λ (xs : List Obj). record c.args.heap.now { objs = xs }) (class ∙ name ∙ all-received (is_kept T (name_of T a) || is_dot a) (field_types T os c.args.object (name_of T a)) v os b)

use Rattle.std.proofs.Common.{◌≡◌, ◌∙◌, ◌&&◌, not, Bool, List, false, true, sym, ap, subst}
use Rattle.std.specs.Result.{OnOk}
use Rattle.cc_ast.specs.Syntax.{Program}
use Rattle.cc_ast.specs.declared.tables.Class.{Class}
use Rattle.cc_meaning.specs.Shapes.{tables_of}
use Rattle.cc_meaning.specs.State.{Obj}
use Rattle.cc_meaning.specs.Typed.{types_of_fields}
use Rattle.cc_meaning.specs.Types.{subtype}
use Rattle.cc_value.specs.Bridge.{value_of}
use Rattle.cc_acts.proofs.FieldLaws.{nothing-received, all-received, same-named}
use Rattle.cc_acts.proofs.fields.receive_in_class.Goals as goal

pub returns-then-class : goal.returns-then-class
returns-then-class c =
    let ts = types_of_fields (tables_of c.args.program.now) c.args.name.now c.args.class.now.fields in
    let b : Bool = subtype (tables_of c.args.program.now).classes c.args.of c.args.at in
    let closed : (not c.args.class.now.external && b) ≡ false = ap (λ (x : Bool). not x && b) c.if-class.true in
    ap (λ (os : List Obj). record c.args.heap.now { objs = os }) (nothing-received (not c.args.class.now.external && b) ts (value_of c.args.value.now) c.args.heap.now.objs closed)

pub returns-then-not-reaches : goal.returns-then-not-reaches
unfolding tables_of
returns-then-not-reaches c =
    let ts = types_of_fields (tables_of c.args.program.now) c.args.name.now c.args.class.now.fields in
    let classes : c.as_slice.result.now ≡ c.args.program.now.classes = c.as_slice.ensures ∙ c.get.ensures ∙ ap (λ (P : Program). P.classes) c.program.view_is in
    let b : subtype c.args.program.now.classes c.args.of c.args.at ≡ false = sym (c.if-not-reaches.ensures {u = tt} ∙ ap (λ (cs : List Class). subtype cs c.args.of c.args.at) classes) in
    let closed : (not c.args.class.now.external && subtype c.args.program.now.classes c.args.of c.args.at) ≡ false = λ i. not (c.if-class.false i) && b i in
    ap (λ (os : List Obj). record c.args.heap.now { objs = os }) (nothing-received (not c.args.class.now.external && subtype c.args.program.now.classes c.args.of c.args.at) ts (value_of c.args.value.now) c.args.heap.now.objs closed)

pub returns : goal.returns
unfolding tables_of
returns c =
    let T = tables_of c.args.program.now in
    let classes : c.as_slice.result.now ≡ c.args.program.now.classes = c.as_slice.ensures ∙ c.get.ensures ∙ ap (λ (P : Program). P.classes) c.program.view_is in
    let b : subtype c.args.program.now.classes c.args.of c.args.at ≡ true = sym (c.if-not-reaches.ensures {u = tt} ∙ ap (λ (cs : List Class). subtype cs c.args.of c.args.at) classes) in
    let whole : (not c.args.class.now.external && subtype c.args.program.now.classes c.args.of c.args.at) ≡ true = λ i. not (c.if-class.false i) && b i in
    let all = same-named T c.args.name.now (value_of c.args.value.now) c.args.heap.now.objs c.as_slice-2.ensures ∙ all-received (not c.args.class.now.external && subtype c.args.program.now.classes c.args.of c.args.at) (types_of_fields T c.args.name.now c.args.class.now.fields) (value_of c.args.value.now) c.args.heap.now.objs whole in
    subst (λ (os : List Obj). OnOk c.receive_named.result (c.receive_named.new.heap ≡ record c.args.heap.now { objs = os })) all c.receive_named.ensures

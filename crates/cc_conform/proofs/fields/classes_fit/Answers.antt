use Rattle.std.proofs.Common.{◌≡◌, ◌∙◌, ◌+◌, ◌<◌, ◌&&◌, not, [], ℕ, suc, Bool, true, false, List, length, get_or, drop, sym, ap, arith}
use Rattle.cc_ast.specs.declared.tables.Class.{Class}
use Rattle.cc_meaning.specs.Monad.{pick}
use Rattle.cc_meaning.specs.Shapes.{tables_of}
use Rattle.cc_meaning.specs.State.{Obj, Tables}
use Rattle.cc_meaning.specs.Typed.{of_all_types, types_of_fields, fields_from}
use Rattle.cc_meaning.specs.Types.{subtype}
use Rattle.cc_meaning.specs.Values.{Val}
use Rattle.cc_value.specs.Bridge.{value_of}
use Rattle.cc_conform.proofs.Loops.{step, end}
use Rattle.cc_conform.proofs.FieldLemmas.{classes-first}
use Rattle.cc_conform.proofs.fields.classes_fit.Goals as goal

-- the rest of the classes, where this one is the next
next : (T : Tables) (os : List Obj) (v : Val) (n : List ℕ) (xs : List Class) (i : ℕ) (d : Class) (c : ℕ) (b : Bool) → i < length xs → d ≡ get_or xs i d → b ≡ of_all_types T os (pick (not d.external && subtype T.classes c i) (types_of_fields T n d.fields) []) v
    → of_all_types T os (fields_from T i (drop i xs) c n) v ≡ (b && of_all_types T os (fields_from T (i + 1) (drop (i + 1) xs) c n) v)
next T os v n xs i d c b h is e =
    let one : suc i ≡ i + 1 = omega arith in
    step (λ (ys : List Class). of_all_types T os (fields_from T i ys c n) v) xs i d h is ∙ classes-first T os v i d (drop (i + 1) xs) c n
    ∙ ap (λ (x : Bool). x && of_all_types T os (fields_from T (suc i) (drop (i + 1) xs) c n) v) (sym e)
    ∙ ap (λ (k : ℕ). b && of_all_types T os (fields_from T k (drop (i + 1) xs) c n) v) one

pub returns-then-not-class_fits : goal.returns-then-not-class_fits
returns-then-not-class_fits c = sym (sym c.loop-at.invariant ∙ next (tables_of c.args.program.now) c.args.heap.now.objs (value_of c.args.value.now) c.args.name.now c.args.classes.now c.loop-at.at c.index-classes-at.result c.args.of false c.loop-at-test.true c.index-classes-at.is (sym c.if-not-class_fits.true ∙ c.class_fits.ensures))

pub loop-at-preserved : goal.loop-at-preserved
loop-at-preserved c = sym (sym c.loop-at.invariant ∙ next (tables_of c.args.program.now) c.args.heap.now.objs (value_of c.args.value.now) c.args.name.now c.args.classes.now c.loop-at.at c.index-classes-at.result c.args.of true c.loop-at-test.true c.index-classes-at.is (sym c.if-not-class_fits.false ∙ c.class_fits.ensures))

pub returns : goal.returns
unfolding fields_from of_all_types
returns c = sym (sym c.loop-at.invariant ∙ end (λ (ys : List Class). of_all_types (tables_of c.args.program.now) c.args.heap.now.objs (fields_from (tables_of c.args.program.now) c.loop-at.at ys c.args.of c.args.name.now) (value_of c.args.value.now)) c.args.classes.now c.loop-at.at c.loop-at-test.false)

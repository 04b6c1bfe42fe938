use Rattle.std.proofs.Common.{◌≡◌, ◌∙◌, ◌+◌, ◌<◌, ◌&&◌, [], ◌∷◌, ℕ, Bool, true, false, List, length, get_or, drop, sym, ap}
use Rattle.std.proofs.lemmas.List.{at_drop_more}
use Rattle.cc_meaning.specs.Shapes.{tables_of}
use Rattle.cc_meaning.specs.State.{Obj, Tables}
use Rattle.cc_meaning.specs.Typed.{of_all_types, types_of_fields}
use Rattle.cc_meaning.specs.Values.{Val}
use Rattle.cc_value.specs.Bridge.{value_of}
use Rattle.cc_conform.proofs.Loops.{end}
use Rattle.cc_conform.proofs.FieldLemmas.{field-first}
use Rattle.cc_conform.proofs.fields.fields_fit.Goals as goal

-- the rest of the fields, where this one is the next
next : (T : Tables) (os : List Obj) (v : Val) (n : List ℕ) (xs : List (ℕ × ℕ)) (i : ℕ) (d : ℕ × ℕ) (b : Bool) → i < length xs → b ≡ of_all_types T os (types_of_fields T n (get_or xs i d ∷ [])) v
    → of_all_types T os (types_of_fields T n (drop i xs)) v ≡ (b && of_all_types T os (types_of_fields T n (drop (i + 1) xs)) v)
next T os v n xs i d b h e =
    at_drop_more (λ (ys : List (ℕ × ℕ)). of_all_types T os (types_of_fields T n ys) v) xs i d h ∙ field-first T os v n (get_or xs i d) (drop (i + 1) xs)
    ∙ ap (λ (x : Bool). x && of_all_types T os (types_of_fields T n (drop (i + 1) xs)) v) (sym e)

pub returns-then-not-field_fits : goal.returns-then-not-field_fits
returns-then-not-field_fits c = sym (sym c.loop-field.invariant ∙ next (tables_of c.args.program.now) c.args.heap.now.objs (value_of c.args.value.now) c.args.name.now c.args.fields.now c.loop-field.field-index _ false c.loop-field-test.true (sym c.if-not-field_fits.true ∙ c.field_fits.ensures))

pub loop-field-preserved : goal.loop-field-preserved
loop-field-preserved c = sym (sym c.loop-field.invariant ∙ next (tables_of c.args.program.now) c.args.heap.now.objs (value_of c.args.value.now) c.args.name.now c.args.fields.now c.loop-field.field-index _ true c.loop-field-test.true (sym c.if-not-field_fits.false ∙ c.field_fits.ensures))

pub returns : goal.returns
unfolding types_of_fields of_all_types
returns c = sym (sym c.loop-field.invariant ∙ end (λ (ys : List (ℕ × ℕ)). of_all_types (tables_of c.args.program.now) c.args.heap.now.objs (types_of_fields (tables_of c.args.program.now) c.args.name.now ys) (value_of c.args.value.now)) c.args.fields.now c.loop-field.field-index c.loop-field-test.false)

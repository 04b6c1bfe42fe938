use Rattle.std.proofs.Common.{◌∙◌, List, Option, slice_get, ap}
use Rattle.cc_ast.specs.declared.tables.TypeSet.{TypeSet}
use Rattle.cc_meaning.specs.Store.{flat_option}
use Rattle.cc_conform.proofs.docs.place_type.Goals as goal

pub returns-in-Some : goal.returns-in-Some
unfolding flat_option
returns-in-Some c = c.as_ref.ensures.value ∙ ap (λ (o : Option (Option TypeSet)). flat_option o) (c.in-Some.ensures ∙ ap (λ (ts : List (Option TypeSet)). slice_get ts c.args.place) c.param_types.ensures)

pub returns-in-None : goal.returns-in-None
unfolding flat_option
returns-in-None c = ap (λ (o : Option (Option TypeSet)). flat_option o) (c.in-None.ensures ∙ ap (λ (ts : List (Option TypeSet)). slice_get ts c.args.place) c.param_types.ensures)

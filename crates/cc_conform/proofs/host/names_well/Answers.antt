use Rattle.std.proofs.Common.{◌∙◌, List, ℕ, Option, sym, ap}
use Rattle.std.specs.Option.{option_map}
use Rattle.cc_meaning.specs.Rules.{names_well}
use Rattle.cc_meaning.specs.Shapes.{tables_of}
use Rattle.cc_value.specs.Bridge.{value_of}
use Rattle.cc_conform.specs.Bridge.{with_store}
use Rattle.cc_conform.proofs.CallLemmas.{named-none}
use Rattle.cc_conform.proofs.host.names_well.Goals as goal

pub returns-in-None-on : goal.returns-in-None-on
unfolding names_well
returns-in-None-on c = λ s. sym (λ i. names_well (tables_of c.args.program.now) (with_store s c.args.heap.now) (option_map value_of (c.in-None-on.is i)) c.args.name.now)

pub returns-in-None : goal.returns-in-None
returns-in-None c = λ s.
    let r = option_map value_of c.args.on.now in
    named-none (tables_of c.args.program.now) (with_store s c.args.heap.now) r ∙ ap (λ (n : Option (List ℕ)). names_well (tables_of c.args.program.now) (with_store s c.args.heap.now) r n) (sym c.in-None.is)

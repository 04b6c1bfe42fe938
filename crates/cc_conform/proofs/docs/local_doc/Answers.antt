use Rattle.std.proofs.Common.{◌∙◌, ◌-◌, ℕ, slice_get, ap}
use Rattle.cc_meaning.specs.Shapes.{tables_of}
use Rattle.cc_meaning.specs.Typed.{doc_at, function_doc, vars_in, variable_doc}
use Rattle.cc_conform.proofs.docs.local_doc.Goals as goal

pub returns : goal.returns
unfolding variable_doc
returns c =
    let T = tables_of c.args.program.now in
    c.declared_doc.ensures ∙ ap (λ (k : ℕ). doc_at T (slice_get (vars_in (function_doc T c.args.scope)) k)) (c.saturating_sub.ensures ∙ ap (λ (m : ℕ). c.args.place - m) c.param_count-count.ensures)

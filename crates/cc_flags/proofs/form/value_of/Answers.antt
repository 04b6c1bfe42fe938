use Rattle.std.proofs.Common.{ℕ, List, ◌≡◌, ◌++◌, Option, Some, MatchBool, codes, is_some, subst, sym, ap, ◌∙◌}
use Rattle.std.specs.Borrow.{Bor}
use Rattle.std.specs.Option.{option_copied}
use Rattle.std.proofs.lemmas.Result.{IfOk-weaker}
use Rattle.cc_flags.specs.declared.flag.Form.TheVariants as form
use Rattle.cc_flags.specs.declared.form.Value.TheVariants as value
use Rattle.cc_flags.specs.Values.{HasForm, any_text}
use Rattle.cc_flags.specs.Forming.{names_in, IsValue}
use Rattle.cc_flags.proofs.FormLaws.{value-by, plain-by, value-none, switch-form, level-form, workers-form, synthesis-form, bound-form, output-form, chunk-value, define-value}
use Rattle.cc_flags.proofs.form.value_of.Goals as goal

pub returns-in_default : goal.returns-in_default
returns-in_default c =
    let names = names_in c.args.names.now in
    subst (λ (o : Option (Bor (List ℕ))). IsValue names c.args.form (option_copied o) c.plain_if.result) (sym c.in_default.is)
    (value-none names c.args.form c.eq.result c.plain_if.result c.eq.ensures c.plain_if.ensures)

pub returns-in-AnyText : goal.returns-in-AnyText
returns-in-AnyText c =
    let names = names_in c.args.names.now in
    value-by names c.args.form form.AnyText c.args.value c.in-Some.text value.Plain c.in-AnyText.is c.in-Some.is
    (record { formed = any_text; no_chunk = (λ e. cc); no_define = (λ e. cc) })

pub returns-in-Chunk : goal.returns-in-Chunk
returns-in-Chunk c =
    let names = names_in c.args.names.now in
    IfOk-weaker c.chunk_value.result _ _ (λ r is. value-by names c.args.form form.Chunk c.args.value c.in-Some.text r c.in-Chunk.is c.in-Some.is (chunk-value names c.in-Some.text.now r is)) c.chunk_value.ensures

pub returns-in-ChunkWrapper : goal.returns-in-ChunkWrapper
returns-in-ChunkWrapper c =
    let names = names_in c.args.names.now in
    let text = c.in-Some.text in
    value-by names c.args.form form.ChunkWrapper c.args.value text _ c.in-ChunkWrapper.is c.in-Some.is
    (plain-by names form.ChunkWrapper (Some text.now) c.is_chunk_wrapper.result _ (λ e. cc) (λ e. cc) c.is_chunk_wrapper.ensures c.plain_if-in-ChunkWrapper.ensures)

pub returns-in-OutputWrapper : goal.returns-in-OutputWrapper
returns-in-OutputWrapper c =
    let names = names_in c.args.names.now in
    let text = c.in-Some.text in
    let formed =
    subst (λ b. MatchBool b (HasForm names form.OutputWrapper (Some text.now)) (¬ HasForm names form.OutputWrapper (Some text.now))) (sym c.is_some.ensures)
    (output-form {A = Bor (List ℕ) × Bor (List ℕ)} names text.now (λ sides. text.now ≡ sides.0.now ++ (codes "%output%" ++ sides.1.now)) c.around.result c.around.ensures) in
    value-by names c.args.form form.OutputWrapper c.args.value text _ c.in-OutputWrapper.is c.in-Some.is
    (plain-by names form.OutputWrapper (Some text.now) c.is_some.result _ (λ e. cc) (λ e. cc) formed c.plain_if-in-OutputWrapper.ensures)

pub returns-in-Define : goal.returns-in-Define
returns-in-Define c =
    let names = names_in c.args.names.now in
    IfOk-weaker c.define_value.result _ _ (λ r is. value-by names c.args.form form.Define c.args.value c.in-Some.text r c.in-Define.is c.in-Some.is (define-value names c.in-Some.text.now r is)) c.define_value.ensures

pub returns-in-Switch : goal.returns-in-Switch
returns-in-Switch c =
    let names = names_in c.args.names.now in
    let text = c.in-Some.text in
    value-by names c.args.form form.Switch c.args.value text _ c.in-Switch.is c.in-Some.is
    (plain-by names form.Switch (Some text.now) c.is_truth.result _ (λ e. cc) (λ e. cc) (switch-form names text.now c.is_truth.result c.is_truth.ensures) c.plain_if-in-Switch.ensures)

pub returns-in-Level : goal.returns-in-Level
returns-in-Level c =
    let names = names_in c.args.names.now in
    let text = c.in-Some.text in
    value-by names c.args.form form.Level c.args.value text _ c.in-Level.is c.in-Some.is
    (plain-by names form.Level (Some text.now) c.is_level.result _ (λ e. cc) (λ e. cc) (level-form names text.now c.is_level.result c.is_level.ensures) c.plain_if-in-Level.ensures)

pub returns-in-Workers : goal.returns-in-Workers
returns-in-Workers c =
    let names = names_in c.args.names.now in
    let text = c.in-Some.text in
    value-by names c.args.form form.Workers c.args.value text _ c.in-Workers.is c.in-Some.is
    (plain-by names form.Workers (Some text.now) c.is_positive.result _ (λ e. cc) (λ e. cc) (workers-form names text.now c.is_positive.result c.is_positive.ensures) c.plain_if-in-Workers.ensures)

pub returns-in-Synthesis : goal.returns-in-Synthesis
returns-in-Synthesis c =
    let names = names_in c.args.names.now in
    let text = c.in-Some.text in
    value-by names c.args.form form.Synthesis c.args.value text _ c.in-Synthesis.is c.in-Some.is
    (plain-by names form.Synthesis (Some text.now) c.is_some-in-Synthesis.result _ (λ e. cc) (λ e. cc) (synthesis-form names text.now c.is_some-in-Synthesis.result (c.is_some-in-Synthesis.ensures ∙ ap is_some c.synthesis_of.ensures)) c.plain_if-in-Synthesis.ensures)

pub returns-in-Bound : goal.returns-in-Bound
returns-in-Bound c =
    let names = names_in c.args.names.now in
    let text = c.in-Some.text in
    value-by names c.args.form form.Bound c.args.value text _ c.in-Bound.is c.in-Some.is
    (plain-by names form.Bound (Some text.now) c.is_some-in-Bound.result _ (λ e. cc) (λ e. cc) (bound-form names text.now c.is_some-in-Bound.result (c.is_some-in-Bound.ensures ∙ ap is_some c.bound_of.ensures)) c.plain_if-in-Bound.ensures)

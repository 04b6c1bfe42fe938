use Rattle.std.proofs.Common.{option_and_then, ◌∙◌, sym, ap}
use Rattle.std.specs.Option.{option_copied}
use Rattle.std.proofs.lemmas.Result.{IfOk-weaker}
use Rattle.cc_flags.specs.Texts.{before}
use Rattle.cc_flags.specs.Values.{is_chunk_name, chunk_with}
use Rattle.cc_flags.proofs.ChunkLaws.{chunk-wrong, chunk-by}
use Rattle.cc_flags.proofs.chunk.chunk_of.Goals as goal

pub returns-then-not-is_chunk_name : goal.returns-then-not-is_chunk_name
returns-then-not-is_chunk_name c =
    sym (chunk-wrong c.args.value.now (ap is_chunk_name (sym c.split_at_first.ensures.before) ∙ sym c.is_chunk_name.ensures ∙ c.if-not-is_chunk_name.true))

pub returns-in-Some : goal.returns-in-Some
returns-in-Some c =
    let v = c.args.value.now in
    let right = ap is_chunk_name (sym c.split_at_first.ensures.before) ∙ sym c.is_chunk_name.ensures ∙ c.if-not-is_chunk_name.false in
    let whole =
    chunk-by v (option_copied c.split_at_first.result.1) right c.split_at_first.ensures.behind
    ∙ ap (λ r. option_and_then (chunk_with (before 58 v)) (option_copied r)) c.in-Some.is
    ∙ ap (λ n. chunk_with n c.in-Some.rest.now) (sym c.split_at_first.ensures.before) in
    IfOk-weaker c.chunk_with.result _ _ (λ spec e. e ∙ sym whole) c.chunk_with.ensures

pub returns-in-None : goal.returns-in-None
returns-in-None c =
    let v = c.args.value.now in
    let right = ap is_chunk_name (sym c.split_at_first.ensures.before) ∙ sym c.is_chunk_name.ensures ∙ c.if-not-is_chunk_name.false in
    sym (chunk-by v (option_copied c.split_at_first.result.1) right c.split_at_first.ensures.behind
    ∙ ap (λ r. option_and_then (chunk_with (before 58 v)) (option_copied r)) c.in-None.is)

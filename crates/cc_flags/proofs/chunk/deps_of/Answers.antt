use Rattle.std.proofs.Common.{ℕ, List, Option, subst, ◌∙◌, sym, ap}
use Rattle.std.specs.Borrow.{Bor}
use Rattle.std.specs.Option.{option_copied}
use Rattle.cc_flags.specs.Texts.{texts}
use Rattle.cc_flags.specs.Values.{is_chunk_name}
use Rattle.cc_flags.proofs.ChunkLaws.{NamesSoFar, names-more, names-end, names-wrong, left-shorter}
use Rattle.cc_flags.proofs.chunk.deps_of.Goals as goal

pub returns-then-not-is_chunk_name : goal.returns-then-not-is_chunk_name
returns-then-not-is_chunk_name c =
    let so_far = subst (λ (r : Option (Bor (List ℕ))). NamesSoFar (option_copied c.args.text) (option_copied r) (texts c.loop-rest.deps.items)) c.in-Some.is c.loop-rest.invariant in
    names-wrong (option_copied c.args.text) c.in-Some.names.now (texts c.loop-rest.deps.items) so_far
    (ap is_chunk_name (sym c.split_at_first.ensures.before) ∙ sym c.is_chunk_name.ensures ∙ c.if-not-is_chunk_name.true)

pub loop-rest-smaller : goal.loop-rest-smaller
loop-rest-smaller c = left-shorter c.loop-rest.rest c.split_at_first.result.1 c.in-Some.names c.in-Some.is c.split_at_first.ensures.behind

pub loop-rest-preserved : goal.loop-rest-preserved
loop-rest-preserved c =
    let so_far = subst (λ (r : Option (Bor (List ℕ))). NamesSoFar (option_copied c.args.text) (option_copied r) (texts c.loop-rest.deps.items)) c.in-Some.is c.loop-rest.invariant in
    rw c.in_ok-push.ensures.items
    (names-more (option_copied c.args.text) c.in-Some.names.now (option_copied c.split_at_first.result.1) c.loop-rest.deps.items c.in_ok-from_str.field-0 so_far
    (c.in_ok-from_str.ensures.ok ∙ c.split_at_first.ensures.before) c.split_at_first.ensures.behind
    (ap is_chunk_name (sym c.split_at_first.ensures.before) ∙ sym c.is_chunk_name.ensures ∙ c.if-not-is_chunk_name.false))

pub returns : goal.returns
returns c =
    names-end (option_copied c.args.text) (texts c.loop-rest.deps.items)
    (subst (λ (r : Option (Bor (List ℕ))). NamesSoFar (option_copied c.args.text) (option_copied r) (texts c.loop-rest.deps.items)) c.in_default.is c.loop-rest.invariant)

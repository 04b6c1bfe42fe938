use Rattle.std.proofs.Common.{◌≤◌, Some, map, sym, ap, refl, subst, ◌∙◌, List, ℕ, true≢false}
use Rattle.std.specs.List.{Any}
use Rattle.cc_chunks.specs.Faults.{IsFaultAt}
use Rattle.cc_chunks.specs.Numbers.{number_in}
use Rattle.cc_chunks.proofs.CheckLaws.{LookedUp, double-by, single-by, unknown-by, known-by, later-by, chunk-by, unknown-fault, err-on}
use Rattle.cc_chunks.proofs.check.chunk_at.Goals as goal

pub returns-then-ne-clause-fault : goal.returns-then-ne-clause-fault
returns-then-ne-clause-fault c =
    let known : LookedUp c.args.specs.now c.args.at c.index-specs-at.result (number_in c.args.numbers.now) c.number_of.result =
    record { within = c.requires.within; read = c.index-specs-at.is; numbers = c.requires.numbers; own = c.number_of.ensures ∙ ap (number_in c.args.numbers.now) c.as_str.ensures.value } in
    (refl, double-by known (sym c.ne.ensures ∙ c.if-ne.true))

pub returns-in_err-deps-clause-fault : goal.returns-in_err-deps-clause-fault
returns-in_err-deps-clause-fault c =
    let known : LookedUp c.args.specs.now c.args.at c.index-specs-at.result (number_in c.args.numbers.now) c.number_of.result =
    record { within = c.requires.within; read = c.index-specs-at.is; numbers = c.requires.numbers; own = c.number_of.ensures ∙ ap (number_in c.args.numbers.now) c.as_str.ensures.value } in
    let single = sym c.ne.ensures ∙ c.if-ne.false in
    err-on c.from_residual.result c.in_err-deps.field-0.0 (IsFaultAt c.args.specs.now c.args.at) c.from_residual.ensures.1
    (unknown-fault c.args.specs.now c.args.at _ c.in_err-deps.field-0.0 (single-by known single) (unknown-by known single) c.in_err-deps.ensures.unknown)

pub returns-then-any_from-clause-fault : goal.returns-then-any_from-clause-fault
returns-then-any_from-clause-fault c =
    let known : LookedUp c.args.specs.now c.args.at c.index-specs-at.result (number_in c.args.numbers.now) c.number_of.result =
    record { within = c.requires.within; read = c.index-specs-at.is; numbers = c.requires.numbers; own = c.number_of.ensures ∙ ap (number_in c.args.numbers.now) c.as_str.ensures.value } in
    let single = sym c.ne.ensures ∙ c.if-ne.false in
    let late : Any (λ d. c.args.at ≤ d) c.in_ok-deps.deps = subst (λ (ds : List ℕ). Any (λ d. c.args.at ≤ d) ds) c.as_slice.ensures (c.any_from.ensures.0 c.if-any_from.true) in (
      refl,
      single-by known single,
      known-by known single c.in_ok-deps.deps c.in_ok-deps.ensures.known,
      later-by known single c.in_ok-deps.deps c.in_ok-deps.ensures.known late,
    )

pub returns-clause-chunk : goal.returns-clause-chunk
returns-clause-chunk c =
    let known : LookedUp c.args.specs.now c.args.at c.index-specs-at.result (number_in c.args.numbers.now) c.number_of.result =
    record { within = c.requires.within; read = c.index-specs-at.is; numbers = c.requires.numbers; own = c.number_of.ensures ∙ ap (number_in c.args.numbers.now) c.as_str.ensures.value } in
    let single = sym c.ne.ensures ∙ c.if-ne.false in
    let chunk = c.in-Ok.chunk in
    let known_deps = ap (map (λ d. Some d)) c.in-Ok.ensures.deps ∙ c.in_ok-deps.ensures.known in
    chunk-by known single chunk.deps known_deps chunk.name c.in-Ok.ensures.name
    (λ late. true≢false (sym (c.any_from.ensures.1 (subst (λ (ds : List ℕ). Any (λ d. c.args.at ≤ d) ds) (c.in-Ok.ensures.deps ∙ sym c.as_slice.ensures) late)) ∙ c.if-any_from.false))

use Rattle.std.proofs.Common.{◌≡◌, length, map, take, sym, ap, ◌∙◌, arith}
use Rattle.std.proofs.Math.Seq.{take-length}
use Rattle.std.specs.String.{string_bytes}
use Rattle.cc_chunks.specs.Numbers.{number_in}
use Rattle.cc_chunks.proofs.CheckLaws.{map-through}
use Rattle.cc_chunks.proofs.check.dep_numbers.Goals as goal

pub returns-clause-known : goal.returns-clause-known
returns-clause-known c =
    let all : c.loop-name.name-index ≡ length c.as_slice-name-items.result.now = omega arith in
    let items : take c.loop-name.name-index c.as_slice-name-items.result.now ≡ c.args.spec.now.deps.items = ap (λ n. take n c.as_slice-name-items.result.now) all ∙ take-length c.as_slice-name-items.result.now ∙ c.as_slice-name-items.ensures.value in
    c.loop-name.invariant
    ∙ ap (map (λ name. number_in c.args.numbers.now (string_bytes name))) items
    ∙ sym (map-through (number_in c.args.numbers.now) (λ name. string_bytes name) c.args.spec.now.deps.items)

use Rattle.std.proofs.Common.{◌≡◌, length, take, ap, ◌∙◌, arith, rules}
use Rattle.std.proofs.Math.Seq.{take-length}
use Rattle.std.proofs.lemmas.List.{length-map}
use Rattle.std.specs.String.{string_bytes}
use Rattle.cc_chunks.specs.Faults.{first_of, names_of}
use Rattle.cc_chunks.specs.Numbers.{number_in}
use Rattle.cc_chunks.proofs.NameLaws.{numbers-entered}
use Rattle.cc_chunks.proofs.names.first_numbers.Goals as goal

pub loop-i-init : goal.loop-i-init
unfolding first_of
loop-i-init c = λ name. search rules

pub loop-i-preserved : goal.loop-i-preserved
loop-i-preserved c =
    let specs = c.args.specs.now in
    let i = c.loop-i.i in
    let spec = c.index-specs-i.result in
    let name = c.as_str.result.now in
    numbers-entered specs i spec name c.loop-i-test.true c.index-specs-i.is c.as_str.ensures.value (λ q. number_in c.loop-i.numbers q) c.loop-i.invariant (λ q. number_in c.enter.new.numbers q) c.in_ok-enter.ensures

pub returns : goal.returns
returns c = λ name. c.loop-i.invariant name ∙ ap (λ ns. first_of ns name) (ap (λ n. take n (names_of c.args.specs.now)) (let end : c.loop-i.i ≡ length (names_of c.args.specs.now) = omega (arith, length-map c.args.specs.now (λ s. string_bytes s.name)) in end) ∙ take-length (names_of c.args.specs.now))

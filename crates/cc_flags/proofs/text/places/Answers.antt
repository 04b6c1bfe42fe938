use Rattle.std.proofs.Common.{ap, ◌∙◌, nat_eq, arith}
use Rattle.std.specs.List.{starts_with}
use Rattle.cc_flags.proofs.TextLaws.{places-here, places-end}
use Rattle.cc_flags.proofs.text.places.Goals as goal
use Rattle.cc_flags.proofs.text.places.Goals.{then-starts_with, else-starts_with}

pub loop-i-preserved : goal.loop-i-preserved
loop-i-preserved c =
    let here = c.starts_with.ensures.value ∙ ap (starts_with nat_eq _) c.as_bytes.ensures.value in
    let step = places-here c.args.marker.now c.as_bytes-bytes.result.now c.loop-i.i c.loop-i-test.true c.starts_with.result here in
    elim c.if-starts_with.branch [
      | then-starts_with w ↦ let s = rw w.if-starts_with.true at step in record { few = omega arith; counted = omega (arith, s) }
      | else-starts_with w ↦ let s = rw w.if-starts_with.false at step in record { few = omega arith; counted = omega (arith, s) }
    ]

pub returns : goal.returns
returns c = omega (arith, places-end c.args.marker.now c.as_bytes-bytes.result.now c.loop-i.i c.loop-i-test.false)

use Rattle.std.proofs.Common.{◌≡◌, ◌∙◌, ap, map, replicate, None, Option, List, ℕ, arith}
use Rattle.std.specs.Option.{option_map}
use Rattle.cc_meaning.specs.Values.{Val}
use Rattle.cc_value.specs.Bridge.{value_of}
use Rattle.cc_heap.specs.Kinds.{frame_kind_of}
use Rattle.cc_heap.proofs.ChangeLaws.{map-replicate}
use Rattle.cc_heap.proofs.frame.Frame.with_places.Goals as goal

pub returns : goal.returns
returns c =
    let whole : c.loop.counter ≡ c.args.size = let h = c.loop.auto.counter-end in let k = c.loop-test.false in omega arith in
    ap (λ (vs : List (Option Val)). record { kind = frame_kind_of c.args.kind; up = c.args.up; values = vs })
    (ap (map (option_map value_of)) c.loop.invariant ∙ map-replicate (option_map value_of) c.loop.counter None ∙ ap (λ (n : ℕ). replicate n None) whole)

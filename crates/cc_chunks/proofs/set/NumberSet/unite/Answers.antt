use Rattle.std.proofs.Common.{◌≡◌, ◌<◌, ◌/◌, get_or, length, ap, ◌∙◌, arith}
use Rattle.std.specs.Prelude.{bit_or}
use Rattle.cc_chunks.specs.Sets.{has}
use Rattle.cc_chunks.proofs.SetLaws.{written, has-unite}
use Rattle.cc_chunks.proofs.set.NumberSet.unite.Goals as goal

pub returns-clause-numbers : goal.returns-clause-numbers
returns-clause-numbers c = λ j room.
    let old = c.args.self.now.words.items in
    let new = c.loop-i.word-items in
    let all : length new ≡ c.args.self.now.words.len = omega (arith, c.args.self.now.words.ok.0, ap length c.deref_mut-word-items.ensures.value) in
    let within : j / 64 < c.loop-i.i = omega (arith, c.args.self.now.words.ok.0, ap length c.deref_mut-word-items.ensures.value) in
    ap (λ ws. has ws j) (written c.args.self.now.words.len new old all)
    ∙ has-unite new old c.args.other.now.words.items j
    (c.loop-i.invariant.done (j / 64) within ∙ ap (λ ws. bit_or (get_or ws (j / 64) 0) (get_or c.args.other.now.words.items (j / 64) 0)) c.deref_mut-word-items.ensures.value)

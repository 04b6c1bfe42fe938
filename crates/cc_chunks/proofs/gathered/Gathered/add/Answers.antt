use Rattle.std.proofs.Common.{◌≡◌, ◌≢◌, length, slice_get, Some, refl, ◌∙◌}
use Rattle.std.proofs.lemmas.Option.{slice_get_read}
use Rattle.cc_chunks.specs.declared.spec.ChunkFault.TheVariants.{Memory}
use Rattle.cc_chunks.specs.Faults.{IsFirstFault}
use Rattle.cc_chunks.proofs.CheckLaws.{err-on}
use Rattle.cc_chunks.proofs.FaultLaws.{built-more, summed-more, none-before_count, first-at, first-count}
use Rattle.cc_chunks.proofs.gathered.Gathered.add.Goals as goal

pub returns-in_err-chunk-clause-fault : goal.returns-in_err-chunk-clause-fault
returns-in_err-chunk-clause-fault c =
    err-on c.from_residual.result c.in_err-chunk.field-0.0 (λ fault. fault ≢ Memory → IsFirstFault c.args.specs.now c.args.files fault) c.from_residual.ensures.1
    (first-at c.args.specs.now c.args.files c.args.i c.requires.built.none c.in_err-chunk.field-0.0 c.in_err-chunk.ensures.fault)

pub check_count-requires-clause-taken : goal.check_count-requires-clause-taken
check_count-requires-clause-taken c = let spec = c.index-specs-i.result in c.in_ok-push.ensures.taken ∙ summed-more c.args.specs.now c.args.i spec c.requires.within c.index-specs-i.is c.args.self.now.taken spec.count c.requires.built.summed refl

pub returns-in_err-check_count-clause-fault : goal.returns-in_err-check_count-clause-fault
returns-in_err-check_count-clause-fault c =
    let specs = c.args.specs.now in
    let i = c.args.i in
    let spec = c.index-specs-i.result in
    let at : slice_get specs i ≡ Some spec = slice_get_read specs (length specs) i spec refl c.requires.within c.index-specs-i.is in
    let none = none-before_count specs i spec c.requires.within c.index-specs-i.is c.args.files c.args.self.now.chunks c.args.self.now.counts c.args.self.now.taken c.requires.built c.in_ok-chunk.chunk (c.in_ok-chunk.ensures.chunk spec at) in
    err-on c.from_residual-in_err-check_count.result c.in_err-check_count.field-0.0 (λ fault. fault ≢ Memory → IsFirstFault specs c.args.files fault) c.from_residual-in_err-check_count.ensures.1
    (λ apart. first-count specs c.args.files i none c.in_err-check_count.field-0.0 c.in_err-check_count.ensures.fault)

pub returns-clause-built : goal.returns-clause-built
returns-clause-built c =
    let specs = c.args.specs.now in
    let i = c.args.i in
    let spec = c.index-specs-i.result in
    let at : slice_get specs i ≡ Some spec = slice_get_read specs (length specs) i spec refl c.requires.within c.index-specs-i.is in
    rw (c.in_ok-push.ensures.chunks, c.in_ok-push.ensures.counts, c.in_ok-push.ensures.taken)
    (built-more specs i spec c.requires.within c.index-specs-i.is c.args.files c.args.self.now.chunks c.args.self.now.counts c.args.self.now.taken c.requires.built c.in_ok-chunk.chunk (c.in_ok-chunk.ensures.chunk spec at) spec.count refl (rw c.in_ok-push.ensures.taken at c.in_ok-check_count.ensures.enough) c.in_ok-check_count.ensures.sound)

use Rattle.std.proofs.Common.{◌≡◌, ◌<◌, ◌≤◌, ◌+◌, ◌*◌, ◌++◌, ◌∷◌, [], length, get_or, take, refl, subst, sym, ◌∙◌, ap, arith}
use Rattle.std.proofs.Math.Seq.{take-length}
use Rattle.std.proofs.lemmas.Grind.{take_at_read}
use Rattle.std.proofs.lemmas.Option.{slice_get_read}
use Rattle.cc_chunks.specs.Graph.{deps_at}
use Rattle.cc_chunks.specs.Tables.{IsReach}
use Rattle.cc_chunks.proofs.ReachLaws.{Gathers, gathers-none, gathers-more, deps-are, dep-below}
use Rattle.cc_chunks.proofs.GraphLaws.{reached-from, reached-to}
use Rattle.cc_chunks.proofs.reach.reached.Goals as goal

pub bounds-table-dep : goal.bounds-table-dep
bounds-table-dep c =
    let are = deps-are c.args.chunks.now (length c.args.table.now) c.index-chunks-table.result c.as_slice-dep-items.result.now c.requires.next c.as_slice-dep-items.ensures in
    dep-below c.args.chunks.now (length c.args.table.now) c.as_slice-dep-items.result.now c.loop-dep.dep-index c.requires.down are (omega arith)

pub insert-requires : goal.insert-requires
insert-requires c =
    let are = deps-are c.args.chunks.now (length c.args.table.now) c.index-chunks-table.result c.as_slice-dep-items.result.now c.requires.next c.as_slice-dep-items.ensures in
    let below : get_or c.as_slice-dep-items.result.now c.loop-dep.dep-index 0 < length c.args.table.now = dep-below c.args.chunks.now (length c.args.table.now) c.as_slice-dep-items.result.now c.loop-dep.dep-index c.requires.down are (omega arith) in
    omega (arith, c.unite.ensures.room, below)

pub loop-dep-init : goal.loop-dep-init
loop-dep-init c = record { gathers = gathers-none c.args.chunks.now c.in_ok-set.set.words.items c.in_ok-set.ensures.empty; room = c.in_ok-set.ensures.room; tight = c.in_ok-set.ensures.tight }

pub loop-dep-preserved : goal.loop-dep-preserved
loop-dep-preserved c =
    let chunks = c.args.chunks.now in
    let table = c.args.table.now in
    let ds = c.as_slice-dep-items.result.now in
    let i = c.loop-dep.dep-index in
    let d = get_or ds i 0 in
    let are = deps-are chunks (length table) c.index-chunks-table.result ds c.requires.next c.as_slice-dep-items.ensures in
    let below : d < length table = dep-below chunks (length table) ds i c.requires.down are c.loop-dep-test.true in
    let entry : IsReach chunks d c.index-table-dep.result = c.requires.reaches.right d c.index-table-dep.result (slice_get_read table (length table) d c.index-table-dep.result refl below c.index-table-dep.is) in
    let room : length table ≤ 64 * length c.loop-dep.set.words.items = omega (arith, c.loop-dep.set.words.ok.0, c.loop-dep.invariant.room) in
    let same_room : length c.unite.new.self.words.items ≡ length c.loop-dep.set.words.items = omega (arith, c.loop-dep.set.words.ok.0, c.unite.new.self.words.ok.0, c.unite.ensures.room) in
    let one_more : take (i + 1) ds ≡ take i ds ++ d ∷ [] = (take_at_read ds i 0 c.loop-dep-test.true).1 in
    record {
      gathers = subst (λ xs. Gathers chunks xs c.insert.new.self.words.items) (sym one_more)
          (gathers-more chunks c.requires.down (take i ds) c.loop-dep.set.words.items c.index-table-dep.result.set.words.items c.unite.new.self.words.items c.insert.new.self.words.items d (length table) below room same_room c.loop-dep.invariant.gathers entry.set (λ j low. c.unite.ensures.numbers j (omega (arith, c.loop-dep.set.words.ok.0, low))) c.insert.ensures.numbers);
      room = omega (arith, c.insert.ensures.room, c.unite.ensures.room, c.loop-dep.invariant.room);
      tight = omega (arith, c.insert.ensures.room, c.unite.ensures.room, c.loop-dep.invariant.tight);
    }

pub returns-clause-right : goal.returns-clause-right
returns-clause-right c =
    let chunks = c.args.chunks.now in
    let ds = c.as_slice-dep-items.result.now in
    let are = deps-are chunks (length c.args.table.now) c.index-chunks-table.result ds c.requires.next c.as_slice-dep-items.ensures in
    let whole : take c.loop-dep.dep-index ds ≡ deps_at chunks (length c.args.table.now) = ap (λ n. take n ds) (let end : c.loop-dep.dep-index ≡ length ds = omega arith in end) ∙ take-length ds ∙ are in
    let gathers : Gathers chunks (deps_at chunks (length c.args.table.now)) c.loop-dep.set.words.items = subst (λ xs. Gathers chunks xs c.loop-dep.set.words.items) whole c.loop-dep.invariant.gathers in
    λ b. (λ h. reached-from chunks (length c.args.table.now) b ((gathers.right b).0 h), λ d. (gathers.right b).1 (reached-to chunks (length c.args.table.now) b d))

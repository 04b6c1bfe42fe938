use Rattle.std.proofs.Common.{◌≡◌, ◌<◌, ◌/◌, ◌⊎◌, ◌↔◌, ℕ, List, length, slice_get, Some, IsTrue, refl, subst, ap, arith}
use Rattle.std.proofs.lemmas.Option.{slice_get_read}
use Rattle.cc_ast.specs.declared.tables.ChunkInfo.{ChunkInfo}
use Rattle.cc_chunks.specs.Graph.{Depends}
use Rattle.cc_chunks.specs.Sets.{has_bit}
use Rattle.cc_chunks.proofs.TableLaws.{reached-here, reached-elsewhere}
use Rattle.cc_chunks.proofs.graph.ChunkGraph.reached_word.Goals as goal

pub returns-then-k-at : goal.returns-then-k-at
returns-then-k-at c =
    let table = c.self.inside.table.items in
    let within : c.args.k < length table = omega (arith, c.requires, c.self.invariant.all, ap (λ g. length g.chunks) c.self.view_is) in
    let stands : slice_get table c.args.k ≡ Some c.index.result.now = slice_get_read table (length table) c.args.k c.index.result.now refl within c.index.ensures in
    subst (λ (chunks : List ChunkInfo). (d : ℕ) → d / 64 ≡ c.args.at → IsTrue (has_bit c.with_bit.result d) ↔ ((c.args.k ≡ d) ⊎ Depends chunks c.args.k d)) (ap (λ g. g.chunks) c.self.view_is)
    (reached-here c.self.inside.chunks table c.self.invariant c.args.k c.args.at c.word-word.result c.index.result.now stands c.word-word.ensures c.if-k-at.true c.with_bit.result c.with_bit.ensures.same c.with_bit.ensures.others)

pub returns-else-k-at : goal.returns-else-k-at
returns-else-k-at c =
    let table = c.self.inside.table.items in
    let within : c.args.k < length table = omega (arith, c.requires, c.self.invariant.all, ap (λ g. length g.chunks) c.self.view_is) in
    let stands : slice_get table c.args.k ≡ Some c.index.result.now = slice_get_read table (length table) c.args.k c.index.result.now refl within c.index.ensures in
    subst (λ (chunks : List ChunkInfo). (d : ℕ) → d / 64 ≡ c.args.at → IsTrue (has_bit c.word-word.result d) ↔ ((c.args.k ≡ d) ⊎ Depends chunks c.args.k d)) (ap (λ g. g.chunks) c.self.view_is)
    (reached-elsewhere c.self.inside.chunks table c.self.invariant c.args.k c.args.at c.word-word.result c.index.result.now stands c.word-word.ensures c.if-k-at.false)

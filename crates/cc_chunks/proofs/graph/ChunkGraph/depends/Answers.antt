use Rattle.std.proofs.Common.{◌↔◌, IsTrue, false, slice_get, List, subst, ap, ◌∙◌}
use Rattle.cc_ast.specs.declared.tables.ChunkInfo.{ChunkInfo}
use Rattle.cc_chunks.specs.Graph.{Depends}
use Rattle.cc_chunks.proofs.TableLaws.{depends-read, depends-nowhere}
use Rattle.cc_chunks.proofs.graph.ChunkGraph.depends.Goals as goal

pub returns-in-Some : goal.returns-in-Some
returns-in-Some c =
    subst (λ (chunks : List ChunkInfo). IsTrue c.contains.result ↔ Depends chunks c.args.a c.args.b) (ap (λ g. g.chunks) c.self.view_is)
    (depends-read c.self.inside.chunks c.self.inside.table.items c.self.invariant c.args.a c.args.b c.in-Some.reach.now (c.in-Some.ensures ∙ ap (λ t. slice_get t c.args.a) c.as_slice.ensures.value) c.contains.result c.contains.ensures)

pub returns-in-None : goal.returns-in-None
returns-in-None c =
    subst (λ (chunks : List ChunkInfo). IsTrue false ↔ Depends chunks c.args.a c.args.b) (ap (λ g. g.chunks) c.self.view_is)
    (depends-nowhere c.self.inside.chunks c.self.inside.table.items c.self.invariant c.args.a c.args.b (c.in-None.ensures ∙ ap (λ t. slice_get t c.args.a) c.as_slice.ensures.value))

use Rattle.std.proofs.Common.{◌∙◌, ap, List, ℕ, Some}
use Rattle.cc_meaning.specs.Acts.{note_constructed}
use Rattle.cc_heap.specs.Store.{Store}
use Rattle.cc_heap.specs.contracts.heap.Heap.{the_view}
use Rattle.cc_heap.proofs.ChangeLaws.{noted}
use Rattle.cc_heap.proofs.heap.Heap.note_constructed.Goals as goal

pub returns-clause-noted : goal.returns-clause-noted
returns-clause-noted c =
    ap (λ (cs : List ℕ). record (the_view c.self.inside) { constructed = cs }) (c.in_ok-insert.ensures.keys ∙ noted c.args.class c.self.inside.constructed.keys)
    ∙ ap (λ (s : Store). record s { constructed = note_constructed (Some c.args.class) s.constructed }) c.self.view_is

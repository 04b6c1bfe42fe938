use Rattle.std.proofs.Common.{Some, ap, ◌∙◌}
use Rattle.cc_host.proofs.MemoryHostLemmas.{lookup-set_same, lookup-set_other}
use Rattle.cc_host.proofs.memory_host.MemoryHost.set_file.Goals as goal

pub returns-clause-ok : goal.returns-clause-ok
returns-clause-ok c =
    lookup-set_same c.args.self.now.files c.insert.new.self c.in_ok-name.name c.in_ok-bytes.bytes c.in_ok-insert.ensures.updates c.args.name.now c.in_ok-name.ensures.ok
    ∙ ap Some c.in_ok-bytes.ensures.items

pub returns-clause-others : goal.returns-clause-others
returns-clause-others c = λ other.
    lookup-set_other c.args.self.now.files c.insert.new.self c.in_ok-name.name c.in_ok-bytes.bytes c.in_ok-insert.ensures.updates c.args.name.now other c.in_ok-name.ensures.ok

use denote.Param.Send.{sendable}
use Rattle.cc_crossing.proofs.Crosses.{crosses}
use Rattle.cc_crossing.proofs.scopes_cross.Goals as goal

pub crosses_threads-requires-send-T : goal.crosses_threads-requires-send-T
crosses_threads-requires-send-T c κs = search (crosses, sendable)

pub crosses_threads-requires-sync-T : goal.crosses_threads-requires-sync-T
crosses_threads-requires-sync-T c κs = search (crosses, sendable)

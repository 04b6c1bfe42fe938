use Rattle.std.proofs.Common.{◌<◌, ◌∷◌, [], length, length-append, subst, sym, ap, arith}
use Rattle.cc_chunks.specs.Tables.{AreReaches, IsReach}
use Rattle.cc_chunks.proofs.ReachLaws.{are-none, are-more}
use Rattle.cc_chunks.proofs.reach.table_of.Goals as goal

pub next_reach-requires : goal.next_reach-requires
next_reach-requires c = record {
  next = omega (arith, ap length c.as_slice.ensures.value, c.loop.table.ok.0);
  down = c.requires;
  reaches = subst (AreReaches c.args.chunks.now) (sym c.as_slice.ensures.value) c.loop.invariant.reaches;
}

pub loop-init : goal.loop-init
loop-init c = record { next = c.new-table.ensures.len; reaches = rw c.new-table.ensures.items (are-none c.args.chunks.now) }

pub loop-preserved : goal.loop-preserved
loop-preserved c =
    let room : length c.loop.table.items < length c.args.chunks.now = omega (arith, c.loop.table.ok.0) in
    let new : IsReach c.args.chunks.now (length c.loop.table.items) c.in_ok-reach.reach = subst (λ (t : _). IsReach c.args.chunks.now (length t) c.in_ok-reach.reach) c.as_slice.ensures.value c.in_ok-reach.ensures in
    record {
      next = omega (arith, c.push.new.self.ok.0, c.loop.table.ok.0, ap length c.in_ok-push.ensures.items, length-append c.loop.table.items (c.in_ok-reach.reach ∷ []));
      reaches = rw c.in_ok-push.ensures.items (are-more c.args.chunks.now c.loop.table.items c.in_ok-reach.reach room c.loop.invariant.reaches new);
    }

pub returns : goal.returns
returns c = record { down = c.requires; all = omega (arith, c.loop.table.ok.0); reaches = c.loop.invariant.reaches }

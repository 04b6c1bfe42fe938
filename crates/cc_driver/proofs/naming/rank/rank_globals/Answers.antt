use Rattle.cc_driver.proofs.RankLaws.{ranks_all, ranks_ranked}
use Rattle.cc_driver.proofs.naming.rank.rank_globals.Goals as goal

pub returns-clause-all : goal.returns-clause-all
returns-clause-all c = ranks_all c.args.pieces.now c.args.globals.now c.in_ok-ranks.ranks.items c.sort_unstable.new.self.items c.in_ok-ranks.ensures c.sort_unstable.ensures.permutation

pub returns-clause-ranked : goal.returns-clause-ranked
returns-clause-ranked c = ranks_ranked c.args.pieces.now c.args.globals.now c.in_ok-ranks.ranks.items c.sort_unstable.new.self.items c.requires.short c.in_ok-ranks.ensures c.sort_unstable.ensures.permutation c.sort_unstable.ensures.sorted

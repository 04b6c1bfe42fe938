use Rattle.cc_acts.specs.Globals.{built_of}
use Rattle.cc_acts.proofs.Outer.{outer-extern, outer-built}
use Rattle.cc_acts.proofs.setting.Setting.outer.Goals as goal

pub returns-then-number-self : goal.returns-then-number-self
returns-then-number-self c = outer-extern c.args.self.now.externs c.args.global c.if-number-self.true

pub returns : goal.returns
returns c = outer-built c.args.self.now.externs c.args.global (built_of c.built_in.result) c.if-number-self.false c.built_in.ensures

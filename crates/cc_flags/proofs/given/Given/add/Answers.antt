use Rattle.std.proofs.Common.{subst}
use Rattle.std.specs.Option.{option_copied}
use Rattle.std.proofs.lemmas.Result.{on_ok_weaker, IfErr-weaker}
use Rattle.cc_flags.specs.Words.{setting_of}
use Rattle.cc_flags.specs.Forming.{names_in, IsValue}
use Rattle.cc_flags.specs.Giving.{MayBe, FaultOf}
use Rattle.cc_flags.proofs.GivenLaws.{adds-file, adds-flag, follows-flag, err-on, fails-value, fails-flag}
use Rattle.cc_flags.proofs.given.Given.add.Goals as goal

pub returns-in_default-clause-adds : goal.returns-in_default-clause-adds
returns-in_default-clause-adds c = adds-file c.args.self.now (setting_of c.args.item.now) c.in_default.is

pub returns-in_err-add_value-clause-fault : goal.returns-in_err-add_value-clause-fault
returns-in_err-add_value-clause-fault c =
    let names = names_in c.args.names.now in
    let s = setting_of c.args.item.now in
    let is = subst (λ g. IsValue names g (option_copied c.args.item.now.value) c.in_ok-value.value) c.form.ensures c.in_ok-value.ensures in
    err-on c.from_residual-in_err-add_value.result c.in_err-add_value.field-0.0 (MayBe (FaultOf names c.args.self.now s)) c.from_residual-in_err-add_value.ensures.1
    (fails-value names c.args.self.now s c.in-Some.flag c.in_ok-value.value c.in_err-add_value.field-0.0 c.in-Some.is is c.in_err-add_value.ensures.fault)

pub returns-clause-adds : goal.returns-clause-adds
returns-clause-adds c =
    let names = names_in c.args.names.now in
    let s = setting_of c.args.item.now in
    let is = subst (λ g. IsValue names g (option_copied c.args.item.now.value) c.in_ok-value.value) c.form.ensures c.in_ok-value.ensures in
    on_ok_weaker c.add_flag.result (λ second. adds-flag names c.args.self.now c.add_value.new.self c.add_flag.new.self s c.in-Some.flag c.in_ok-value.value c.in-Some.is is c.in_ok-add_value.ensures.adds second) c.add_flag.ensures.adds

pub returns-clause-follows : goal.returns-clause-follows
returns-clause-follows c =
    let names = names_in c.args.names.now in
    let s = setting_of c.args.item.now in
    let is = subst (λ g. IsValue names g (option_copied c.args.item.now.value) c.in_ok-value.value) c.form.ensures c.in_ok-value.ensures in
    on_ok_weaker c.add_flag.result (λ second. follows-flag names c.args.self.now c.add_value.new.self c.add_flag.new.self s c.in-Some.flag c.in_ok-value.value c.in-Some.is is c.in_ok-add_value.ensures.adds second) c.add_flag.ensures.adds

pub returns-clause-fault : goal.returns-clause-fault
returns-clause-fault c =
    let names = names_in c.args.names.now in
    let s = setting_of c.args.item.now in
    let is = subst (λ g. IsValue names g (option_copied c.args.item.now.value) c.in_ok-value.value) c.form.ensures c.in_ok-value.ensures in
    IfErr-weaker c.add_flag.result _ _ (λ u second. fails-flag names c.args.self.now c.add_value.new.self s c.in-Some.flag c.in_ok-value.value u c.in-Some.is is c.in_ok-add_value.ensures.adds second) c.add_flag.ensures.fault

use Rattle.std.proofs.Common.{◌∙◌, rules, tests}
use Rattle.std.proofs.lemmas.Iterator.{YieldsList-from_slice}
use Rattle.std.proofs.lemmas.Iterator.Search.{any_from_yields_List}
use Rattle.cc_flags.specs.Words.{setting_of, has_flag}
use Rattle.cc_flags.proofs.SettingLaws.{any-map}
use Rattle.cc_flags.proofs.item.is_given.Goals as goal

pub returns : goal.returns
returns c =
    any_from_yields_List (λ item. has_flag c.args.flag (setting_of item)) _ _ _ c.any.ensures.ran (YieldsList-from_slice c.args.items.now cc) (λ x b q k. search (rules, tests))
    ∙ any-map setting_of (has_flag c.args.flag) c.args.items.now

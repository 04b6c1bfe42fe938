use Rattle.std.proofs.Common.{[], ◌≡◌, ◌≢◌, MatchBool, is_some, subst, sym, ◌∙◌, rules, tests}
use Rattle.std.proofs.lemmas.Iterator.{YieldsList-from_slice}
use Rattle.std.proofs.lemmas.Iterator.Search.{any_from_yields_List}
use Rattle.cc_flags.specs.Words.{setting_of, settings_of, source_for, sources_of}
use Rattle.cc_flags.proofs.SettingLaws.{any-map}
use Rattle.cc_flags.proofs.LimitLaws.{source-any}
use Rattle.cc_flags.proofs.missing.has_source.Goals as goal

pub returns : goal.returns
returns c =
    let ss = settings_of c.args.items.now in
    let tested =
    any_from_yields_List (λ item. is_some (source_for (setting_of item))) _ _ _ c.any.ensures.ran (YieldsList-from_slice c.args.items.now cc) (λ x b q k. search (rules, tests))
    ∙ any-map setting_of (λ s. is_some (source_for s)) c.args.items.now in
    subst (λ b. MatchBool b (sources_of ss ≢ []) (sources_of ss ≡ [])) (sym tested) (source-any ss)

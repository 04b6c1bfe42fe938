use Rattle.std.proofs.Common.{ℕ, List, Some, subst, sym, ap, ◌∙◌}
use Rattle.std.specs.Borrow.{Bor}
use Rattle.std.specs.Option.{option_copied}
use Rattle.cc_flags.specs.Texts.{texts}
use Rattle.cc_flags.specs.Words.{setting, known}
use Rattle.cc_flags.specs.Cutting.{Begins}
use Rattle.cc_flags.proofs.CutLaws.{texts-at, texts-within, front-file, front-joined, front-of_flag, front-unknown}
use Rattle.cc_flags.proofs.cut.front_of.Goals as goal

pub returns-in-Source : goal.returns-in-Source
returns-in-Source c =
    let words = c.args.words.now in
    let here = texts-at words c.args.at c.index-words-at.result c.as_str-word.result.now c.requires c.index-words-at.is c.as_str-word.ensures.value in
    front-file c.args.call (texts words) c.args.at c.as_str-word.result.now (texts-within words c.args.at c.requires) here (sym c.in-Source.ensures)

pub returns-in-Known-default-Some : goal.returns-in-Known-default-Some
returns-in-Known-default-Some c =
    let words = c.args.words.now in
    let f = c.in-Known-default-Some.flag in
    let here = texts-at words c.args.at c.index-words-at.result c.as_str-word.result.now c.requires c.index-words-at.is c.as_str-word.ensures.value in
    let read = sym c.in-Known-default-Some.ensures ∙ ap (λ v. known f (option_copied v)) c.in-Known-default-Some.field-1-is in
    subst (λ (v : Bor (List ℕ)). Begins c.args.call c.args.at (texts words) (setting c.args.at (Some f) (Some v.now)) 1) (sym c.in-Known-default-Some.value-is)
    (front-joined c.args.call (texts words) c.args.at c.as_str-word.result.now (texts-within words c.args.at c.requires) here f c.in-Known-default-Some.value.now read)

pub returns-in-Known-default-None : goal.returns-in-Known-default-None
returns-in-Known-default-None c =
    let words = c.args.words.now in
    let f = c.in-Known-default-None.flag in
    let here = texts-at words c.args.at c.index-words-at.result c.as_str-word.result.now c.requires c.index-words-at.is c.as_str-word.ensures.value in
    let read = sym c.in-Known-default-None.ensures ∙ ap (λ v. known f (option_copied v)) c.in-Known-default-None.field-1-is in
    front-of_flag c.args.call (texts words) c.args.at c.as_str-word.result.now (texts-within words c.args.at c.requires) here f c.front_of_flag.result read c.front_of_flag.ensures

pub returns-in-Unknown : goal.returns-in-Unknown
returns-in-Unknown c =
    let words = c.args.words.now in
    let here = texts-at words c.args.at c.index-words-at.result c.as_str-word.result.now c.requires c.index-words-at.is c.as_str-word.ensures.value in
    front-unknown c.args.call (texts words) c.args.at c.as_str-word.result.now (texts-within words c.args.at c.requires) here (sym c.in-Unknown.ensures)

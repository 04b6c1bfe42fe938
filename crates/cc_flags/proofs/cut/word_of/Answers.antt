use Rattle.std.proofs.Common.{◌++◌, codes, false, sym, ap, ◌∙◌}
use Rattle.std.specs.Option.{option_map_or}
use Rattle.std.proofs.lemmas.Str.Pattern.{starts_text}
use Rattle.cc_flags.specs.Texts.{behind}
use Rattle.cc_flags.specs.Flags.{known_flag}
use Rattle.cc_flags.specs.Words.{known, unknown}
use Rattle.cc_flags.proofs.CutLaws.{word-file, word-flag}
use Rattle.cc_flags.proofs.cut.word_of.Goals as goal

pub returns-in_default : goal.returns-in_default
returns-in_default c = sym (word-file c.args.call c.args.word.now (sym (starts_text false (codes "--") c.args.word.now c.in_default.ensures.cases)))

pub returns-in-Some-known_flag : goal.returns-in-Some-known_flag
returns-in-Some-known_flag c =
    let stripped = c.in-Some.ensures.cases in
    let text = c.in-Some.text.now in
    let flagged = word-flag c.args.call c.args.word.now text (stripped.1.1 ∙ ap (λ ws. codes "--" ++ ws) (sym stripped.2)) in
    let named = c.in-Some-known_flag.ensures ∙ ap (known_flag c.args.call) c.split_at_first.ensures.before in
    ap (known c.in-Some-known_flag.flag) c.split_at_first.ensures.behind
    ∙ ap (λ f. option_map_or (λ f. known f (behind 61 text)) f unknown) named
    ∙ sym flagged

pub returns-in-None : goal.returns-in-None
returns-in-None c =
    let stripped = c.in-Some.ensures.cases in
    let text = c.in-Some.text.now in
    let flagged = word-flag c.args.call c.args.word.now text (stripped.1.1 ∙ ap (λ ws. codes "--" ++ ws) (sym stripped.2)) in
    let named = c.in-None.ensures ∙ ap (known_flag c.args.call) c.split_at_first.ensures.before in
    ap (λ f. option_map_or (λ f. known f (behind 61 text)) f unknown) named ∙ sym flagged

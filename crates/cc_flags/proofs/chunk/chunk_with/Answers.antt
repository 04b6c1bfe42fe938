use Rattle.std.proofs.Common.{Some, option_map, option_and_then, ◌∙◌, sym, ap}
use Rattle.std.specs.Option.{option_copied}
use Rattle.cc_flags.specs.Texts.{texts}
use Rattle.cc_flags.specs.Values.{chunk, deps_of}
use Rattle.cc_flags.proofs.ChunkLaws.{chunk-read}
use Rattle.cc_flags.proofs.chunk.chunk_with.Goals as goal

pub returns-in_default : goal.returns-in_default
returns-in_default c =
    let deps = option_copied c.split_at_first.result.1 in
    sym (chunk-read c.args.name.now c.args.text.now c.split_at_first.result.0.now deps c.decimal_within.result c.from.result c.split_at_first.ensures.before c.split_at_first.ensures.behind c.from.ensures c.decimal_within.ensures
    ∙ ap (option_and_then (λ n. option_map (chunk c.args.name.now n) (deps_of deps))) c.in_default.is)

pub returns-in_default-2 : goal.returns-in_default-2
returns-in_default-2 c =
    let deps = option_copied c.split_at_first.result.1 in
    let read = c.in_ok-deps.ensures in
    sym (chunk-read c.args.name.now c.args.text.now c.split_at_first.result.0.now deps c.decimal_within.result c.from.result c.split_at_first.ensures.before c.split_at_first.ensures.behind c.from.ensures c.decimal_within.ensures
    ∙ ap (option_and_then (λ n. option_map (chunk c.args.name.now n) (deps_of deps))) c.in-Some.is
    ∙ ap (option_map (chunk c.args.name.now c.in-Some.count)) (sym read ∙ ap (option_map (λ names. texts names.items)) c.in_default-2.is))

pub returns : goal.returns
returns c =
    let deps = option_copied c.split_at_first.result.1 in
    let read = c.in_ok-deps.ensures in
    sym (chunk-read c.args.name.now c.args.text.now c.split_at_first.result.0.now deps c.decimal_within.result c.from.result c.split_at_first.ensures.before c.split_at_first.ensures.behind c.from.ensures c.decimal_within.ensures
    ∙ ap (option_and_then (λ n. option_map (chunk c.args.name.now n) (deps_of deps))) c.in-Some.is
    ∙ ap (option_map (chunk c.args.name.now c.in-Some.count)) (sym read ∙ ap (option_map (λ names. texts names.items)) c.in-Some-2.is)
    ∙ ap (λ name. Some (chunk name c.in-Some.count (texts c.in-Some-2.deps.items))) (sym c.in_ok-name.ensures.ok))

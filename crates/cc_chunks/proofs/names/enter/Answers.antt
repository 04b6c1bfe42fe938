use Rattle.std.proofs.Common.{◌≡◌, cond, Some, is_some, false, sym, ap, ◌∙◌}
use Rattle.std.specs.Str.{bytes_eq}
use Rattle.std.proofs.lemmas.Map.Text.{hash_map_updates_str}
use Rattle.cc_chunks.specs.Numbers.{number_in}
use Rattle.cc_chunks.proofs.names.enter.Goals as goal

pub returns-in_ok-insert : goal.returns-in_ok-insert
returns-in_ok-insert c = λ other.
    let f = number_in c.args.numbers.now in
    let name = c.args.name.now in
    let new : is_some (f name) ≡ false = sym c.contains_key.ensures ∙ c.if-not-contains_key.true in
    hash_map_updates_str name c.args.numbers.now c.insert.new.self (Some c.args.number) c.in_ok-insert.ensures.updates other
    ∙ sym (ap (λ b. cond b (f other) (cond (bytes_eq name other) (Some c.args.number) (f other))) new)

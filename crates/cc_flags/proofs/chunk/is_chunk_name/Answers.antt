use Rattle.std.proofs.Common.{not, ◌&&◌, ◌∙◌, sym, ap}
use Rattle.std.specs.List.{list_all}
use Rattle.cc_flags.specs.Values.{is_name_part}
use Rattle.cc_flags.proofs.ChunkLaws.{name-is}
use Rattle.cc_flags.proofs.chunk.is_chunk_name.Goals as goal

pub returns-then-not-is_empty : goal.returns-then-not-is_empty
returns-then-not-is_empty c =
    c.are_name_parts.ensures
    ∙ ap (list_all is_name_part) c.as_bytes.ensures.value
    ∙ ap (λ b. not b && list_all is_name_part c.args.name.now) (sym c.if-not-is_empty.true ∙ c.is_empty.ensures)
    ∙ sym (name-is c.args.name.now)

pub returns-else-not-is_empty : goal.returns-else-not-is_empty
returns-else-not-is_empty c =
    ap not c.if-not-is_empty.false
    ∙ ap (λ b. not b && list_all is_name_part c.args.name.now) (sym c.if-not-is_empty.false ∙ c.is_empty.ensures)
    ∙ sym (name-is c.args.name.now)

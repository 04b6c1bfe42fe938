use Rattle.std.proofs.Common.{MatchBool, subst, sym, ◌∙◌}
use Rattle.cc_flags.specs.Faults.{AsksTooMany}
use Rattle.cc_flags.specs.Words.{setting_of}
use Rattle.cc_flags.specs.Steps.{file, chunk, workers}
use Rattle.cc_flags.proofs.item.Item.excess.Goals as goal

pub returns-then-files-eq-MOST_FILES : goal.returns-then-files-eq-MOST_FILES
returns-then-files-eq-MOST_FILES c = file (sym c.is_file.ensures ∙ c.if-is_file.true) c.if-files-eq-MOST_FILES.true

pub returns-then-chunks-eq-MOST_CHUNKS : goal.returns-then-chunks-eq-MOST_CHUNKS
returns-then-chunks-eq-MOST_CHUNKS c = chunk (sym c.has_flag.ensures ∙ c.if-has_flag.true) c.if-chunks-eq-MOST_CHUNKS.true

pub returns-then-asks_too_many : goal.returns-then-asks_too_many
returns-then-asks_too_many c =
    workers (subst (λ b. MatchBool b (AsksTooMany (setting_of c.args.self.now)) (¬ AsksTooMany (setting_of c.args.self.now))) c.if-asks_too_many.true c.asks_too_many.ensures)

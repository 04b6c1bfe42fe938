use Rattle.std.specs.Str.{chars, IsUtf8}
use Rattle.cc_stmt.proofs.FileLemmas.{source_read, source_refused}
use Rattle.cc_stmt.proofs.source.read_source.Goals as goal

pub returns-clause-read : goal.returns-clause-read
returns-clause-read c =
    source_read (IsUtf8 c.args.bytes.now) (chars c.args.bytes.now) c.args.file c.in_ok-tokens.tokens c.read_file.result
    c.in_ok-tokens.ensures.text c.in_ok-tokens.ensures.lexed c.read_file.ensures.read

pub returns-clause-refused : goal.returns-clause-refused
returns-clause-refused c = λ _.
    source_refused (chars c.args.bytes.now) c.args.file c.in_ok-tokens.tokens c.read_file.result c.in_ok-tokens.ensures.lexed c.read_file.ensures.refused

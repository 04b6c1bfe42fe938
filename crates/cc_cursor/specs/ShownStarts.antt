-- What the code's begins of statements mean.
use Rattle.cc_grammar.specs.Reading as r
use Rattle.cc_cursor.specs.declared.starts.Start.{Start}
use Rattle.cc_cursor.specs.declared.starts.Start.TheVariants as s

abbrev pub shown : Start → r.Start
shown s.Block = r.is_block
shown s.Vars = r.is_vars
shown s.Empty = r.is_empty
shown s.If = r.is_if
shown s.Do = r.is_do
shown s.While = r.is_while
shown s.For = r.is_for
shown s.Continue = r.is_continue
shown s.Break = r.is_break
shown s.Return = r.is_return
shown s.Switch = r.is_switch
shown s.Throw = r.is_throw
shown s.Try = r.is_try
shown s.Function = r.is_declaration
shown (s.Name n) = r.is_name n.now
shown s.Plain = r.is_plain

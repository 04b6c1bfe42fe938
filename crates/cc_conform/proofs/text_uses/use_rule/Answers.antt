use Rattle.std.proofs.Common.{◌≡◌, ◌∙◌, ℕ, List, map, Option, sym, ap}
use Rattle.cc_meaning.specs.Builtins.{text_use}
use Rattle.cc_meaning.specs.Rules.{outcome_rule}
use Rattle.cc_meaning.specs.Values.{Val}
use Rattle.cc_value.specs.Bridge.{value_of}
use Rattle.cc_conform.specs.Bridge.{text_use_of}
use Rattle.cc_conform.specs.declared.act.TextUse.{TextUse}
use Rattle.cc_conform.proofs.text_uses.use_rule.Goals as goal

by : (kind wanted : TextUse) (t : List ℕ) (vs : List Val) (r : Option ℕ) → kind ≡ wanted → r ≡ outcome_rule (text_use (text_use_of wanted) t vs) → r ≡ outcome_rule (text_use (text_use_of kind) t vs)
by kind wanted t vs r e f = f ∙ ap (λ (k : TextUse). outcome_rule (text_use (text_use_of k) t vs)) (sym e)

pub returns-in-CharAt : goal.returns-in-CharAt
returns-in-CharAt c = let t = c.args.text.now in by c.args.kind _ t (map value_of c.args.args.now) _ c.in-CharAt.is (c.char_at_rule.ensures t)

pub returns-in-CharCodeAt : goal.returns-in-CharCodeAt
returns-in-CharCodeAt c = let t = c.args.text.now in by c.args.kind _ t (map value_of c.args.args.now) _ c.in-CharCodeAt.is (c.char_code_rule.ensures)

pub returns-in-IndexOf : goal.returns-in-IndexOf
returns-in-IndexOf c = let t = c.args.text.now in by c.args.kind _ t (map value_of c.args.args.now) _ c.in-IndexOf.is (c.index_rule.ensures)

pub returns-in-LastIndexOf : goal.returns-in-LastIndexOf
returns-in-LastIndexOf c = let t = c.args.text.now in by c.args.kind _ t (map value_of c.args.args.now) _ c.in-LastIndexOf.is (c.last_index_rule.ensures)

pub returns-in-Slice : goal.returns-in-Slice
returns-in-Slice c = let t = c.args.text.now in by c.args.kind _ t (map value_of c.args.args.now) _ c.in-Slice.is (c.part_rule.ensures.slice t)

pub returns-in-Substring : goal.returns-in-Substring
returns-in-Substring c = let t = c.args.text.now in by c.args.kind _ t (map value_of c.args.args.now) _ c.in-Substring.is (c.part_rule-in-Substring.ensures.substring t)

-- What an act asks of each slot that it may meet, and of which names it asks nothing.
use Rattle.std.specs.Prelude.{ℕ, Bool, false, ◌&&◌, ◌||◌, List, [], ◌∷◌, Option, None}
use Rattle.cc_meaning.specs.Names.{is_index, standard_names}
use Rattle.cc_meaning.specs.Operators.{is_in, list_eq}
use Rattle.cc_meaning.specs.SlotRules.{least, rule_if, dotted_rule, is_dotted}
use Rattle.cc_meaning.specs.State.{Slot, Tables}
use Rattle.cc_meaning.specs.Store.{Access, dotted, quoted, runtime, is_kept}
use Rattle.cc_conform.specs.declared.slots.SlotTest.{SlotTest}
use Rattle.cc_conform.specs.declared.slots.SlotTest.TheVariants.{ByDot, InQuotes, NoDot, InOrder}

-- the rule that one slot breaks
abbrev pub test_rule : SlotTest → List ℕ → Slot → Option ℕ
test_rule ByDot n x = dotted_rule n x.kind x.name
test_rule InQuotes n x = rule_if (is_dotted x.kind && list_eq x.name n) 7
test_rule (NoDot r) n x = rule_if (is_dotted x.kind) r
test_rule InOrder n x = rule_if (is_dotted x.kind || is_in x.name standard_names) 9

-- the least that some slot breaks
unfoldable pub least_of : SlotTest → List ℕ → List Slot → Option ℕ
unfolding least
least_of t n [] = None
least_of t n (x ∷ xs) = least (test_rule t n x) (least_of t n xs)

abbrev pub test_by : Access → SlotTest
test_by (dotted p) = ByDot
test_by (quoted t) = InQuotes
test_by (runtime t w) = NoDot 8

-- the name may be reached by this key on every chain
abbrev pub is_free : Tables → Access → List ℕ → Bool
is_free T (dotted p) n = is_kept T n
is_free T (quoted t) n = false
is_free T (runtime t w) n = is_index n

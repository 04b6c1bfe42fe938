-- The acts that end the plain run: which of them no state can make so.
use Rattle.std.proofs.Common.{◌≡◌, refl, sym, ap, ◌∙◌, ℕ, Bool, true, false, List, [], ◌∷◌, Option, Some, None, is_some, arith}
use Rattle.std.specs.Prelude.{nat_le, nat_lt, not, ◌&&◌, ◌||◌, slice_get}
use Rattle.std.proofs.lemmas.Bool.Decides.{nat_tests}
use Rattle.cc_meaning.specs.Values.{Val, obj, Spot}
use Rattle.cc_meaning.specs.State.{Kind, kept_kind, indexed_kind, dotted_kind, quoted_kind, keyed_kind, Slot, Code, Obj, Tables, State}
use Rattle.cc_meaning.specs.Monad.{strayed, over, M, ret, stop, after, ◌>>=◌, pick}
use Rattle.cc_meaning.specs.Store.{Access, dotted, quoted, runtime, name_of, is_kept, chain_of, slots_in, slots_on, look_up, class_of_function, Found, found_value, found_use, nothing_found}
use Rattle.cc_meaning.specs.SlotRules.{least, rule_if, rule_unless, dotted_rule, slot_rule, slots_rule, outside_rule, walk_slots, unfound_rule, unwritten_rule, whole_key_rule, function_rule, field_rule, object_read, read_rule, array_write_rule, element_rule, declares_well, code_rule, prototype_rule, object_write, write_rule, has_slot, object_remove, remove_rule, probe_rule, is_dotted, meets_function}
use Rattle.cc_meaning.specs.Judge.{Act, hosts, calls_inner, answers_with, least_broken}
use Rattle.cc_meaning.specs.Rules.{enter_rule, leave_rule, take_rule, keep_rule, cast_rule}
use Rattle.cc_meaning.specs.Typed.{Variable, elements_in, is_settled}
use Rattle.cc_meaning.specs.Names.{is_index, index_value, function_names, name_proto, name_prototype}
use Rattle.cc_meaning.specs.Operators.{list_eq, is_in}
use Rattle.cc_meaning.specs.Acts.{judged, allowed, refused, is_fatal}
use Rattle.cc_meaning.specs.Script.{plain}
use Rattle.cc_tied.proofs.Laws.{said_none}

-- rule 1, 2 or 3
unfoldable pub is_low : Option ℕ → Bool
is_low None = false
is_low (Some r) = nat_le r 3

-- whether the plain run ends at an act that breaks this rule
unfoldable pub stops : Act → Option ℕ → Bool
stops a None = false
stops a (Some r) = is_fatal a r

-- how the plain run goes on at an act
unfoldable pub decide : {A : Type 0} → Spot → Bool → M A → M A
decide i true m s = over [] (strayed i)
decide i false m s = m s

refused_plain : {A : Type 0} (i : Spot) (b : Bool) (r : ℕ) (m : M A) (s : State) → refused plain i b r m s ≡ decide i b m s
unfolding refused decide stop ret ◌>>=◌ after
refused_plain i true r m s = refl
refused_plain i false r m s = said_none (m s)

allowed_plain : {A : Type 0} (i : Spot) (a : Act) (o : Option ℕ) (m : M A) (s : State) → allowed plain i a o m s ≡ decide i (stops a o) m s
unfolding allowed decide stops
allowed_plain i a None m s = refl
allowed_plain i a (Some r) m s = refused_plain i (is_fatal a r) r m s

pub judged_plain : {A : Type 0} (i : Spot) (a : Act) (m : M A) (s : State) → judged plain i a m s ≡ decide i (stops a (least_broken s.tables s a)) m s
unfolding judged
judged_plain i a m s = allowed_plain i a (least_broken s.tables s a) m s

high_none : is_low None ≡ false
unfolding is_low
high_none = refl

high_some : (r : ℕ) → nat_le r 3 ≡ false → is_low (Some r) ≡ false
unfolding is_low
high_some r e = e

low_three : is_low (Some 3) ≡ true
unfolding is_low
low_three = refl

-- ---- the least of two rules

low_pick : (c : Bool) (a b : ℕ) → nat_le a 3 ≡ false → nat_le b 3 ≡ false → nat_le (pick c b a) 3 ≡ false
low_pick true a b e d = d
low_pick false a b e d = e

pub least_high : (x y : Option ℕ) → is_low x ≡ false → is_low y ≡ false → is_low (least x y) ≡ false
unfolding is_low least
least_high None y e d = d
least_high (Some a) None e d = e
least_high (Some a) (Some b) e d = low_pick (nat_lt b a) a b e d

first_pick : (a b : ℕ) → nat_le b 3 ≡ false → nat_le (pick (nat_lt b a) b a) 3 ≡ nat_le a 3
first_pick a b d = by_test (nat_lt b a) refl
  where
    by_test : (c : Bool) → nat_lt b a ≡ c → nat_le (pick c b a) 3 ≡ nat_le a 3
    by_test true e = grind (arith, nat_tests)
    by_test false e = refl

-- the first rule alone counts
pub least_first : (x y : Option ℕ) → is_low y ≡ false → is_low (least x y) ≡ is_low x
unfolding is_low least
least_first None y d = d
least_first (Some a) None d = refl
least_first (Some a) (Some b) d = first_pick a b d

two_pick : (c : Bool) (b : ℕ) → nat_lt b 2 ≡ c → nat_le (pick c b 2) 3 ≡ true
two_pick true b e = grind (arith, nat_tests)
two_pick false b e = refl

-- rule 2 first
pub least_two : (b : Bool) (y : Option ℕ) → is_low (least (rule_if b 2) y) ≡ b || is_low y
unfolding is_low least rule_if
least_two false y = refl
least_two true None = refl
least_two true (Some r) = two_pick (nat_lt r 2) r refl

pub least_two_unless : (b : Bool) (y : Option ℕ) → is_low y ≡ false → is_low (least (rule_unless b 2) y) ≡ not b
unfolding is_low least rule_unless
least_two_unless true y e = e
least_two_unless false None e = refl
least_two_unless false (Some r) e = two_pick (nat_lt r 2) r refl

-- ---- rules that are never low

pub high_if : (b : Bool) (r : ℕ) → nat_le r 3 ≡ false → is_low (rule_if b r) ≡ false
unfolding is_low rule_if
high_if true r e = e
high_if false r e = refl

pub high_unless : (b : Bool) (r : ℕ) → nat_le r 3 ≡ false → is_low (rule_unless b r) ≡ false
unfolding is_low rule_unless
high_unless true r e = refl
high_unless false r e = e

high_chosen : (b : Bool) (x y : Option ℕ) → is_low x ≡ false → is_low y ≡ false → is_low (pick b x y) ≡ false
high_chosen true x y e d = e
high_chosen false x y e d = d

high_dotted : (n : List ℕ) (k : Kind) (m : List ℕ) → is_low (dotted_rule n k m) ≡ false
unfolding dotted_rule
high_dotted n quoted_kind m = high_if _ 7 refl
high_dotted n keyed_kind m = high_some 8 refl
high_dotted n kept_kind m = high_none
high_dotted n indexed_kind m = high_none
high_dotted n dotted_kind m = high_none

pub high_slot : (T : Tables) (a : Access) (n : List ℕ) (k : Kind) (m : List ℕ) → is_low (slot_rule T a n k m) ≡ false
unfolding slot_rule
high_slot T (dotted p) n k m = high_chosen (is_kept T n) None (dotted_rule n k m) high_none (high_dotted n k m)
high_slot T (quoted t) n k m = high_if _ 7 refl
high_slot T (runtime t w) n k m = high_chosen (is_index n) None (rule_if (is_dotted k) 8) high_none (high_if _ 8 refl)

pub high_slots : (T : Tables) (a : Access) (n : List ℕ) (xs : List Slot) → is_low (slots_rule T a n xs) ≡ false
unfolding slots_rule
high_slots T a n [] = high_none
high_slots T a n (x ∷ xs) = least_high _ _ (high_slot T a n x.kind x.name) (high_slots T a n xs)

pub high_outside : (T : Tables) (a : Access) → is_low (outside_rule T a) ≡ false
unfolding outside_rule
high_outside T a = high_slot T a _ _ _

pub high_walk : (xs : List Slot) → is_low (walk_slots xs) ≡ false
unfolding walk_slots
high_walk [] = high_none
high_walk (x ∷ xs) = least_high _ _ (high_if _ 9 refl) (high_walk xs)

high_unfound : (os : List Obj) (c n : List ℕ) (f : Found) → is_low (unfound_rule os c n f) ≡ false
unfolding unfound_rule
high_unfound os c n (found_value v) = high_none
high_unfound os c n (found_use u) = high_some 10 refl
high_unfound os c n nothing_found = high_if _ 10 refl

-- ---- keys of arrays

-- whether the key is a value that is a whole number
unfoldable pub whole_key : Access → Bool
whole_key (dotted p) = false
whole_key (quoted t) = false
whole_key (runtime t w) = w

-- a whole number that is no index is the key of an array
unfoldable pub broken_key : Option (List Val) → Bool → List ℕ → Bool
broken_key es w n = w && (is_some es && not (is_index n))

and_false : (b : Bool) → b && false ≡ false
and_false true = refl
and_false false = refl

or_false : (b : Bool) → b || false ≡ b
or_false true = refl
or_false false = refl

whole_then : (T : Tables) (es : Option (List Val)) (a : Access) (y : Option ℕ) → is_low (least (whole_key_rule es a) y) ≡ broken_key es (whole_key a) (name_of T a) || is_low y
unfolding whole_key_rule broken_key whole_key name_of least
whole_then T None (dotted p) y = refl
whole_then T None (quoted t) y = refl
whole_then T None (runtime t w) y = ap (λ z. z || is_low y) (sym (and_false w))
whole_then T (Some vs) (dotted p) y = refl
whole_then T (Some vs) (quoted t) y = refl
whole_then T (Some vs) (runtime t w) y = least_two (w && not (is_index t)) y

high_field : (T : Tables) (s : State) (o : ℕ) (a : Access) (n : List ℕ) (r : Option ℕ) (v : Val) → is_low (field_rule T s o a n r v) ≡ false
unfolding field_rule
high_field T s o a n r v = high_unless _ 6 refl

-- a read is low by its key and by the elements alone
pub low_read : (T : Tables) (s : State) (o : ℕ) (a : Access) → is_low (read_rule T s (obj o) a) ≡ broken_key (elements_in (slice_get s.objs o)) (whole_key a) (name_of T a)
unfolding read_rule object_read function_rule
low_read T s o a =
    let n = name_of T a in
    let slots = slots_on s.objs (chain_of s.objs o) in
    let broken = broken_key (elements_in (slice_get s.objs o)) (whole_key a) (name_of T a) in
    whole_then T (elements_in (slice_get s.objs o)) a _
    ∙ ap (λ z. broken || z) (least_high _ _ (high_field T s o a _ _ _) (least_high _ _ (high_slots T a n slots) (least_high _ _ (high_if (is_in n function_names && meets_function s.objs (chain_of s.objs o) n) 10 refl) (high_unfound s.objs (chain_of s.objs o) n (look_up s.objs o n)))))
    ∙ or_false broken

-- a key that is no whole number
pub no_whole : (es : Option (List Val)) (n : List ℕ) → broken_key es false n ≡ false
unfolding broken_key
no_whole es n = refl

high_element : (T : Tables) (os : List Obj) (o : Option Obj) (i : Option ℕ) (v : Val) → is_low (element_rule T os o i v) ≡ false
unfolding element_rule
high_element T os None i v = high_none
high_element T os (Some o) None v = high_none
high_element T os (Some o) (Some i) v = high_unless _ 6 refl

high_code : (T : Tables) (s : State) (o : Obj) (c : Option Code) (n : List ℕ) (v : Val) (d : Bool) → is_low (code_rule T s o c n v d) ≡ false
unfolding code_rule
high_code T s o None n v d = high_none
high_code T s o (Some c) n v d = high_chosen (list_eq n name_prototype) (rule_unless (declares_well T s (Some o) (class_of_function T c.function) v d) 12) None (high_unless _ 12 refl) high_none

high_prototype : (T : Tables) (s : State) (o : Option Obj) (n : List ℕ) (v : Val) (d : Bool) → is_low (prototype_rule T s o n v d) ≡ false
unfolding prototype_rule
high_prototype T s None n v d = high_none
high_prototype T s (Some o) n v d = high_code T s o o.code n v d

high_unwritten : (os : List Obj) (o : ℕ) (n : List ℕ) → is_low (unwritten_rule os o n) ≡ false
unfolding unwritten_rule
high_unwritten os o n = high_if _ 10 refl

-- a write is low by its key and by the elements alone
unfoldable pub write_low : Bool → List ℕ → Option (List Val) → Bool
write_low w n es = list_eq n name_proto || (broken_key es w n || is_low (array_write_rule es n (index_value n)))

pub low_write : (T : Tables) (s : State) (o : ℕ) (a : Access) (v : Val) (d : Bool) → is_low (write_rule T s (obj o) a v d) ≡ write_low (whole_key a) (name_of T a) (elements_in (slice_get s.objs o))
unfolding write_rule object_write write_low
low_write T s o a v d =
    let es = elements_in (slice_get s.objs o) in
    least_two (list_eq (name_of T a) name_proto) _
    ∙ ap (λ z. list_eq (name_of T a) name_proto || z) (whole_then T es a _
    ∙ ap (λ z. broken_key es (whole_key a) (name_of T a) || z) (least_first _ _ (least_high _ _ (high_element T s.objs _ _ v) (least_high _ _ (high_field T s o a _ _ v) (least_high _ _ (high_slots T a (name_of T a) (slots_in (slice_get s.objs o))) (least_high _ _ (high_unwritten s.objs o (name_of T a)) (high_prototype T s (slice_get s.objs o) (name_of T a) v d)))))))

pub low_remove : (T : Tables) (s : State) (o : ℕ) (a : Access) → is_low (remove_rule T s (obj o) a) ≡ not (has_slot (slice_get s.objs o) (name_of T a))
unfolding remove_rule object_remove
low_remove T s o a = least_two_unless _ _ (high_slots T a _ _)

pub high_probe : (T : Tables) (s : State) (o : ℕ) (a : Access) → is_low (probe_rule T s (obj o) a) ≡ false
unfolding probe_rule
high_probe T s o a = high_slots T a _ _

pub high_enter : (T : Tables) (s : State) (f : ℕ) (r : Option Val) (vs : List Val) → is_low (enter_rule T s f r vs) ≡ false
unfolding enter_rule
high_enter T s f r vs = least_high _ _ (high_unless _ 5 refl) (high_unless _ 6 refl)

pub high_leave : (T : Tables) (s : State) (f : ℕ) (built : Bool) (v : Val) → is_low (leave_rule T s f built v) ≡ false
unfolding leave_rule
high_leave T s f built v = high_unless _ 6 refl

pub low_take : (T : Tables) (x : Variable) (loaded set : Bool) → is_low (take_rule T x loaded set) ≡ not loaded
unfolding take_rule rule_unless
low_take T x true set = least_high _ _ high_none (high_if (is_settled T x && not set) 11 refl)
low_take T x false set = least_first (Some 3) (rule_if (is_settled T x && not set) 11) (high_if (is_settled T x && not set) 11 refl) ∙ low_three

pub high_keep : (T : Tables) (s : State) (x : Variable) (v : Val) → is_low (keep_rule T s x v) ≡ false
unfolding keep_rule
high_keep T s x v = high_unless _ 6 refl

pub high_cast : (T : Tables) (s : State) (d : ℕ) (v : Val) → is_low (cast_rule T s d v) ≡ false
unfolding cast_rule
high_cast T s d v = high_unless _ 6 refl

-- ---- acts

-- acts of which the rules 1, 2 and 3 alone end the plain run
abbrev pub is_plain_act : Act → Bool
is_plain_act (hosts given on n threw) = false
is_plain_act (calls_inner given) = false
is_plain_act (answers_with given) = false
is_plain_act a = true

pub stops_low : (a : Act) → is_plain_act a ≡ true → (o : Option ℕ) → stops a o ≡ is_low o
unfolding stops is_low is_fatal
stops_low (hosts given on n threw) e o = absurd (cc)
stops_low (calls_inner given) e o = absurd (cc)
stops_low (answers_with given) e o = absurd (cc)
stops_low a e None = refl
stops_low a e (Some r) = refl

-- The least rule of several, and what slots break together.
use Rattle.std.proofs.Common.{◌≡◌, ◌∙◌, ℕ, min, nat_lt, Bool, true, false, not, List, [], ◌∷◌, ◌++◌, Option, Some, None, refl, sym, ap, inl, inr, arith}
use Rattle.std.proofs.lemmas.Bool.{cases_lt, lt-ltb, le-ltb}
use Rattle.cc_meaning.specs.Monad.{pick}
use Rattle.cc_meaning.specs.Names.{is_index}
use Rattle.cc_meaning.specs.SlotRules.{least, rule_if, dotted_rule, is_dotted, slot_rule, slots_rule, walk_slots}
use Rattle.cc_meaning.specs.State.{keyed_kind, Slot, Tables}
use Rattle.cc_meaning.specs.Store.{Access, dotted, quoted, runtime, is_kept}
use Rattle.cc_conform.specs.Slots.{test_rule, least_of, test_by, is_free}
use Rattle.cc_conform.specs.declared.slots.SlotTest.{SlotTest}
use Rattle.cc_conform.specs.declared.slots.SlotTest.TheVariants.{InOrder}

-- ---- least

lesser : (a b : ℕ) → pick (nat_lt b a) b a ≡ min a b
lesser a b =
    elim (cases_lt b a) [
      | inl h ↦ let e : b ≡ min a b = omega arith in ap (λ (t : Bool). pick t b a) (lt-ltb b a h) ∙ e
      | inr h ↦ let e : a ≡ min a b = omega arith in ap (λ (t : Bool). pick t b a) (le-ltb b a h) ∙ e
    ]

least-Some : (a b : ℕ) → least (Some a) (Some b) ≡ Some (min a b)
unfolding least
least-Some a b = ap (λ (n : ℕ). Some n) (lesser a b)

pub least-None : (a : Option ℕ) → least a None ≡ a
unfolding least
least-None None = refl
least-None (Some a) = refl

pub least-assoc : (a b c : Option ℕ) → least a (least b c) ≡ least (least a b) c
unfolding least
least-assoc None b c = refl
least-assoc (Some a) None c = refl
least-assoc (Some a) (Some b) None = refl
least-assoc (Some a) (Some b) (Some c) =
    let same : min a (min b c) ≡ min (min a b) c = omega arith in
    ap (least (Some a)) (least-Some b c) ∙ least-Some a (min b c) ∙ ap (λ (n : ℕ). Some n) same ∙ sym (ap (λ (o : Option ℕ). least o (Some c)) (least-Some a b) ∙ least-Some (min a b) c)

-- ---- slots

pub least_of-append : (t : SlotTest) (n : List ℕ) (xs ys : List Slot) → least_of t n (xs ++ ys) ≡ least (least_of t n xs) (least_of t n ys)
unfolding least_of
least_of-append t n [] ys = refl
least_of-append t n (x ∷ xs) ys = ap (least (test_rule t n x)) (least_of-append t n xs ys) ∙ least-assoc (test_rule t n x) (least_of t n xs) (least_of t n ys)

one : (T : Tables) (a : Access) (n : List ℕ) (x : Slot) → slot_rule T a n x.kind x.name ≡ pick (is_free T a n) None (test_rule (test_by a) n x)
unfolding slot_rule
one T (dotted p) n x = refl
one T (quoted t) n x = refl
one T (runtime t w) n x = refl

both : (b : Bool) (r s : Option ℕ) → least (pick b None r) (pick b None s) ≡ pick b None (least r s)
unfolding least
both true r s = refl
both false r s = refl

no_rule : (b : Bool) → ◌≡◌ {A = Option ℕ} None (pick b None None)
no_rule true = refl
no_rule false = refl

-- an access breaks what its slots break, but for names that are free
pub slots-parts : (T : Tables) (a : Access) (n : List ℕ) (xs : List Slot) → slots_rule T a n xs ≡ pick (is_free T a n) None (least_of (test_by a) n xs)
unfolding slots_rule least_of
slots-parts T a n [] = no_rule (is_free T a n)
slots-parts T a n (x ∷ xs) =
    ap (λ (r : Option ℕ). least r (slots_rule T a n xs)) (one T a n x) ∙ ap (least (pick (is_free T a n) None (test_rule (test_by a) n x))) (slots-parts T a n xs)
    ∙ both (is_free T a n) (test_rule (test_by a) n x) (least_of (test_by a) n xs)

pub walk-parts : (n : List ℕ) (xs : List Slot) → walk_slots xs ≡ least_of InOrder n xs
unfolding walk_slots least_of
walk-parts n [] = refl
walk-parts n (x ∷ xs) = ap (least (test_rule InOrder n x)) (walk-parts n xs)

-- ---- an outside object

unless_kept : (b : Bool) → pick b None (Some 8) ≡ rule_if (not b) 8
unfolding rule_if
unless_kept true = refl
unless_kept false = refl

pub outside-Dotted : (T : Tables) (p : ℕ) (n : List ℕ) → slot_rule T (dotted p) n keyed_kind [] ≡ rule_if (not (is_kept T n)) 8
unfolding slot_rule dotted_rule
outside-Dotted T p n = unless_kept (is_kept T n)

pub outside-Quoted : (T : Tables) (t n : List ℕ) → slot_rule T (quoted t) n keyed_kind [] ≡ None
unfolding slot_rule is_dotted rule_if
outside-Quoted T t n = refl

pub outside-Runtime : (T : Tables) (t n : List ℕ) (w : Bool) → slot_rule T (runtime t w) n keyed_kind [] ≡ None
unfolding slot_rule is_dotted rule_if
outside-Runtime T t n w = sym (no_rule (is_index n))

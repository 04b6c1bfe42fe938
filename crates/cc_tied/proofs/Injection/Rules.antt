-- Where slots are tied, what breaks no rule at the left ones breaks none at the right ones.
use Rattle.std.proofs.Common.{◌≡◌, ℕ, Bool, true, false, List, [], ◌∷◌, Option, Some, None, refl, ap, subst, ◌∙◌}
use Rattle.std.specs.Prelude.{◌&&◌, ◌||◌}
use Rattle.std.specs.List.{list_any}
use Rattle.std.proofs.lemmas.Bool.{eqb-true}
use Rattle.cc_meaning.specs.Values.{Val}
use Rattle.cc_meaning.specs.Operators.{list_eq, is_in}
use Rattle.cc_meaning.specs.Names.{is_index}
use Rattle.cc_meaning.specs.State.{Kind, kept_kind, indexed_kind, dotted_kind, quoted_kind, keyed_kind, Slot, Tables}
use Rattle.cc_meaning.specs.Monad.{pick}
use Rattle.cc_meaning.specs.Store.{Access, dotted, quoted, runtime, name_of, is_kept, kind_by, kind_for}
use Rattle.cc_meaning.specs.SlotRules.{least, rule_if, rule_unless, dotted_rule, is_dotted, slot_rule, slots_rule, outside_rule, walk_slots, whole_key_rule, is_dot}
use Rattle.cc_tied.specs.Tied.{ListT, nil_t, cons_t, OptT, none_t, some_t}
use Rattle.cc_tied.proofs.Injection.World.{KindT, same_kind, written_kind, SlotT}
use Rattle.cc_tied.proofs.Injection.Tie.{Other, KeyI, same_key, written_key, with_set}

-- ---- rules

pub least_none : (a b : Option ℕ) → least a b ≡ None → (a ≡ None) × (b ≡ None)
unfolding least
least_none None b e = (refl, e)
least_none (Some a) None e = absurd (cc)
least_none (Some a) (Some b) e = absurd (cc)

pub none_least : {a b : Option ℕ} → a ≡ None → b ≡ None → least a b ≡ None
unfolding least
none_least {a = a} {b = b} e d = rw (e, d) refl

pub unless_none : (b : Bool) (r : ℕ) → rule_unless b r ≡ None → b ≡ true
unfolding rule_unless
unless_none true r e = refl
unless_none false r e = absurd (cc)

pub none_unless : {b : Bool} (r : ℕ) → b ≡ true → rule_unless b r ≡ None
unfolding rule_unless
none_unless r e = rw e refl

pub if_none : (b : Bool) (r : ℕ) → rule_if b r ≡ None → b ≡ false
unfolding rule_if
if_none true r e = absurd (cc)
if_none false r e = refl

pub none_if : {b : Bool} (r : ℕ) → b ≡ false → rule_if b r ≡ None
unfolding rule_if
none_if r e = rw e refl

-- ---- booleans

pub and_true : (a b : Bool) → a && b ≡ true → (a ≡ true) × (b ≡ true)
and_true true b e = (refl, e)
and_true false b e = absurd (cc)

pub true_and : {a b : Bool} → a ≡ true → b ≡ true → a && b ≡ true
true_and e d = rw (e, d) refl

pub and_later : (a : Bool) {b : Bool} → b ≡ false → a && b ≡ false
and_later true e = e
and_later false e = refl

pub or_none : (a b : Bool) → a || b ≡ false → (a ≡ false) × (b ≡ false)
or_none true b e = absurd (cc)
or_none false b e = (refl, e)

pub texts_one : (m n : List ℕ) → list_eq m n ≡ true → m ≡ n
unfolding list_eq
texts_one [] [] e = refl
texts_one [] (y ∷ ys) e = absurd (cc)
texts_one (x ∷ xs) [] e = absurd (cc)
texts_one (x ∷ xs) (y ∷ ys) e = let h = and_true _ _ e in let d = eqb-true x y h.0 in let k = texts_one xs ys h.1 in cc

-- ---- kinds and names

pub dotted_same : {k k' : Kind} → KindT k k' → is_dotted k ≡ is_dotted k'
unfolding is_dotted
dotted_same same_kind = refl
dotted_same written_kind = refl

is_dotted_kind : (k : Kind) → is_dotted k ≡ true → k ≡ dotted_kind
unfolding is_dotted
is_dotted_kind dotted_kind e = refl
is_dotted_kind kept_kind e = absurd (cc)
is_dotted_kind indexed_kind e = absurd (cc)
is_dotted_kind quoted_kind e = absurd (cc)
is_dotted_kind keyed_kind e = absurd (cc)

pick_kinds : (b : Bool) {k l k' l' : Kind} → KindT k k' → KindT l l' → KindT (pick b k l) (pick b k' l')
pick_kinds true h j = h
pick_kinds false h j = j

pub kind_by_tied : {a b : Access} → KeyI a b → KindT (kind_by a) (kind_by b)
unfolding kind_by
kind_by_tied same_key = same_kind
kind_by_tied written_key = written_kind

pub dot_same : {a b : Access} → KeyI a b → is_dot a ≡ is_dot b
unfolding is_dot
dot_same same_key = refl
dot_same written_key = refl

made_index : (k i : Bool) (made : Kind) → pick k kept_kind (pick i indexed_kind made) ≡ dotted_kind → i ≡ false
made_index true i made e = absurd (cc)
made_index false true made e = absurd (cc)
made_index false false made e = refl

-- ---- keys of arrays

pub whole_key_none : {V : Val → Val → Type 0} {x y : Option (List Val)} → OptT (ListT V) x y → {a b : Access} → KeyI a b → whole_key_rule x a ≡ None → whole_key_rule y b ≡ None
unfolding whole_key_rule
whole_key_none none_t k e = refl
whole_key_none (some_t h) (same_key {a = dotted p}) e = refl
whole_key_none (some_t h) (same_key {a = quoted t}) e = refl
whole_key_none (some_t h) (same_key {a = runtime t w}) e = e
whole_key_none (some_t h) written_key e = refl

module _ (S : Tables) (set' : Other S) where
  abbrev R : Tables
  R = with_set S set'

  pub name_table : (a : Access) → name_of S a ≡ name_of R a
  unfolding name_of
  name_table (dotted p) = refl
  name_table (quoted t) = refl
  name_table (runtime t w) = refl

  pub name_same : {a b : Access} → KeyI a b → name_of S a ≡ name_of R b
  unfolding name_of
  name_same (same_key {a = a}) = name_table a
  name_same written_key = refl

  pub kept_table : (n : List ℕ) → is_kept S n ≡ is_kept R n
  unfolding is_kept
  kept_table n = refl

  -- the kind of a slot that is made
  pub kind_for_tied : (n : List ℕ) {k k' : Kind} → KindT k k' → KindT (kind_for S n k) (kind_for R n k')
  unfolding kind_for is_kept
  kind_for_tied n h = pick_kinds (is_in n S.kept) same_kind (pick_kinds (is_index n) same_kind h)

  pub kind_for_index : (n : List ℕ) (k : Kind) → kind_for S n k ≡ dotted_kind → is_index n ≡ false
  unfolding kind_for
  kind_for_index n k e = made_index (is_kept S n) (is_index n) k e

  -- ---- one slot

  dotted_none : (n m : List ℕ) {k k' : Kind} → KindT k k' → dotted_rule n k m ≡ None → dotted_rule n k' m ≡ None
  unfolding dotted_rule
  dotted_none n m same_kind e = e
  dotted_none n m written_kind e = absurd (cc)

  pick_none : (b : Bool) {x y : Option ℕ} → (x ≡ None → y ≡ None) → pick b None x ≡ None → pick b None y ≡ None
  pick_none true f e = refl
  pick_none false f e = f e

  same_slot : (a : Access) (n m : List ℕ) {k k' : Kind} → KindT k k' → slot_rule S a n k m ≡ None → slot_rule R a n k' m ≡ None
  unfolding slot_rule is_kept
  same_slot (dotted p) n m h e = pick_none (is_in n S.kept) (dotted_none n m h) e
  same_slot (quoted t) n m h e = rw (← dotted_same h) e
  same_slot (runtime t w) n m h e = rw (← dotted_same h) e

  -- a key of the left run that the right has written
  written_by : (i d q : Bool) (n m : List ℕ) → (i ≡ true → list_eq m n ≡ true → d ≡ false) → pick i None (rule_if d 8) ≡ None → d && list_eq m n ≡ false
  unfolding rule_if
  written_by i false q n m f e = refl
  written_by false true q n m f e = absurd (cc)
  written_by true true q n m f e = by_name (list_eq m n) refl
    where
      by_name : (b : Bool) → list_eq m n ≡ b → b ≡ false
      by_name true e = f refl e
      by_name false e = refl

  written_slot : (t n m : List ℕ) {k k' : Kind} → KindT k k' → (k ≡ dotted_kind → is_index m ≡ false) → slot_rule S (runtime t false) n k m ≡ None → slot_rule R (quoted t) n k' m ≡ None
  unfolding slot_rule
  written_slot t n m {k = k} h index e = rw (← dotted_same h) (none_if 7 (written_by (is_index n) (is_dotted k) true n m (λ i q. no_index (is_dotted k) refl i q) e))
    where
      no_index : (b : Bool) → is_dotted k ≡ b → is_index n ≡ true → list_eq m n ≡ true → b ≡ false
      no_index true d i q = let j : is_index m ≡ false = index (is_dotted_kind k d) in let o : m ≡ n = texts_one m n q in let l : is_index m ≡ true = ap is_index o ∙ i in absurd (cc)
      no_index false d i q = refl

  slot_none : {a b : Access} → KeyI a b → (n m : List ℕ) {k k' : Kind} → KindT k k' → (k ≡ dotted_kind → is_index m ≡ false) → slot_rule S a n k m ≡ None → slot_rule R b n k' m ≡ None
  slot_none (same_key {a = a}) n m h index e = same_slot a n m h e
  slot_none (written_key {t = t}) n m h index e = written_slot t n m h index e

  -- ---- lists of slots

  module _ {O : ℕ → ℕ → Type 0} where
    pub slots_none : {a b : Access} → KeyI a b → (n : List ℕ) {xs ys : List Slot} → ListT (SlotT O) xs ys → slots_rule S a n xs ≡ None → slots_rule R b n ys ≡ None
    unfolding slots_rule
    slots_none k n nil_t e = refl
    slots_none {a = a} {b = b} k n (cons_t {a = x} {b = y} h t) e =
        let d = least_none _ _ e in
        none_least (subst (λ z. slot_rule R b n y.kind z ≡ None) h.name (slot_none k n x.name h.kind h.index d.0)) (slots_none k n t d.1)

    pub walk_same : {xs ys : List Slot} → ListT (SlotT O) xs ys → walk_slots xs ≡ walk_slots ys
    unfolding walk_slots
    walk_same nil_t = refl
    walk_same (cons_t h t) = rw (h.name, dotted_same h.kind, walk_same t) refl

    pub any_dotted : {xs ys : List Slot} → ListT (SlotT O) xs ys → list_any (λ (x : Slot). is_dotted x.kind) xs ≡ list_any (λ (x : Slot). is_dotted x.kind) ys
    any_dotted nil_t = refl
    any_dotted (cons_t h t) = rw (dotted_same h.kind, any_dotted t) refl

  -- an object of the outside counts as one with a keyed slot
  pub outside_none : {a b : Access} → KeyI a b → outside_rule S a ≡ None → outside_rule R b ≡ None
  unfolding outside_rule
  outside_none {a = a} {b = b} k e = subst (λ z. slot_rule R b z keyed_kind [] ≡ None) (name_same k) (slot_none k (name_of S a) [] same_kind (λ d. absurd (cc)) e)

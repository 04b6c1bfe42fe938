-- Prototypes of functions, and the classes of functions.
use Rattle.std.proofs.Common.{◌≡◌, ◌≢◌, ◌∙◌, ℕ, suc, ◌+◌, ◌<◌, Bool, true, false, not, ◌&&◌, ◌||◌, nat_eq, eqb, List, [], ◌∷◌, length, get_or, drop, Option, Some, None, is_some, slice_get, refl, sym, ap, arith}
use Rattle.std.specs.List.{list_any}
use Rattle.std.proofs.Math.Bool.{and-false}
use Rattle.std.proofs.lemmas.Bool.{ne_eqb}
use Rattle.std.proofs.lemmas.List.{at_drop_more}
use Rattle.std.proofs.lemmas.Option.{slice_get-get_or}
use Rattle.cc_ast.specs.declared.tables.Class.{Class}
use Rattle.cc_heap.specs.Store.{code_in}
use Rattle.cc_meaning.specs.Monad.{pick}
use Rattle.cc_meaning.specs.Names.{name_prototype}
use Rattle.cc_meaning.specs.Operators.{list_eq}
use Rattle.cc_meaning.specs.Rules.{prototype_object}
use Rattle.cc_meaning.specs.SlotRules.{prototype_of_function, is_code_of, is_object, is_prototype_of, is_prototype_of_class, function_in, extended, fits_extended, no_slots, without_slots, is_off_chains, declares_well, code_rule, prototype_rule, rule_unless}
use Rattle.cc_meaning.specs.State.{Code, Obj, Slot, State, Tables, bare}
use Rattle.cc_meaning.specs.Store.{chain_in, class_from, class_of_function, find_slot, is_number, slots_in}
use Rattle.cc_meaning.specs.Values.{Val, prim, obj, out}
use Rattle.cc_conform.specs.Prototypes.{has_prototype}
use Rattle.cc_conform.proofs.Loops.{step, step_got}

-- a state with these objects and nothing else
abbrev pub plain_state : List Obj → State
plain_state os = record {
  tables = record { heads = []; chunks = []; globals = []; props = []; kept = []; classes = []; docs = []; set = [] };
  objs = os;
  frames = [];
  globals = [];
  loaded = [];
  failed = [];
  constructed = [];
  handles = [];
  replies = [];
  budget = 0;
}

-- ---- the prototype of a function

no_slots-length : (xs : List Slot) → no_slots xs ≡ eqb (length xs) 0
unfolding no_slots
no_slots-length [] = refl
no_slots-length (x ∷ xs) = let some : length (x ∷ xs) ≢ 0 = omega arith in sym (ne_eqb (length (x ∷ xs)) 0 some)

pub without-Some : (os : List Obj) (w : Option Val) (p : ℕ) → Some p ≡ prototype_object w → eqb (length (slots_in (slice_get os p))) 0 ≡ without_slots os w
unfolding without_slots prototype_object
without-Some os None p e = cc
without-Some os (Some (obj n)) p e = let same : p ≡ n = cc in ap (λ (m : ℕ). eqb (length (slots_in (slice_get os m))) 0) same ∙ sym (no_slots-length (slots_in (slice_get os n)))
without-Some os (Some (out n)) p e = cc
without-Some os (Some (prim q)) p e = cc

pub without-None : (os : List Obj) (w : Option Val) → None ≡ prototype_object w → false ≡ without_slots os w
unfolding without_slots prototype_object
without-None os None e = refl
without-None os (Some (obj n)) e = cc
without-None os (Some (out n)) e = refl
without-None os (Some (prim q)) e = refl

both : (k : Option Code) (w : Option Val) (c : Code) (p f n : ℕ) → Some c ≡ k → Some p ≡ prototype_object (pick (is_some k) w None) → (nat_eq c.function f && nat_eq p n) ≡ (is_code_of k f && is_object w n)
unfolding prototype_object is_code_of is_object
both None w c p f n e h = cc
both (Some d) None c p f n e h = cc
both (Some d) (Some (obj m)) c p f n e h = let code : c ≡ d = cc in let same : p ≡ m = cc in λ i. nat_eq (code i).function f && nat_eq (same i) n
both (Some d) (Some (out m)) c p f n e h = cc
both (Some d) (Some (prim q)) c p f n e h = cc

pub has-both : (o : Option Obj) (c : Code) (p f n : ℕ) → Some c ≡ code_in o → Some p ≡ prototype_object (prototype_of_function o) → (nat_eq c.function f && nat_eq p n) ≡ has_prototype o f n
unfolding prototype_of_function
has-both None c p f n e h = cc
has-both (Some o) c p f n e h = both o.code (find_slot o.slots name_prototype) c p f n e h

no_object : (k : Option Code) (w : Option Val) (f n : ℕ) → None ≡ prototype_object (pick (is_some k) w None) → false ≡ (is_code_of k f && is_object w n)
unfolding prototype_object is_code_of is_object
no_object None w f n h = refl
no_object (Some d) None f n h = sym (and-false (nat_eq d.function f))
no_object (Some d) (Some (obj m)) f n h = cc
no_object (Some d) (Some (out m)) f n h = sym (and-false (nat_eq d.function f))
no_object (Some d) (Some (prim q)) f n h = sym (and-false (nat_eq d.function f))

pub has-no_prototype : (o : Option Obj) (f n : ℕ) → None ≡ prototype_object (prototype_of_function o) → false ≡ has_prototype o f n
unfolding prototype_of_function
has-no_prototype None f n h = refl
has-no_prototype (Some o) f n h = no_object o.code (find_slot o.slots name_prototype) f n h

no_code : (k : Option Code) (w : Option Val) (f n : ℕ) → None ≡ k → false ≡ (is_code_of k f && is_object w n)
unfolding is_code_of
no_code None w f n h = refl
no_code (Some d) w f n h = cc

pub has-no_code : (o : Option Obj) (f n : ℕ) → None ≡ code_in o → false ≡ has_prototype o f n
has-no_code None f n h = refl
has-no_code (Some o) f n h = no_code o.code (find_slot o.slots name_prototype) f n h

-- the rest of the objects, where this one is the next
pub owner-next : (os : List Obj) (i f n : ℕ) (b : Bool) → i < length os → b ≡ has_prototype (slice_get os i) f n → is_prototype_of (drop i os) f n ≡ (b || is_prototype_of (drop (i + 1) os) f n)
unfolding is_prototype_of
owner-next os i f n b h e =
    let here : slice_get os i ≡ Some (get_or os i bare) = slice_get-get_or os i bare h in
    step_got (λ (xs : List Obj). is_prototype_of xs f n) os i (get_or os i bare) (sym here)
    ∙ ap (λ (x : Bool). x || is_prototype_of (drop (i + 1) os) f n) (sym (e ∙ ap (λ (o : Option Obj). has_prototype o f n) here))

-- ---- chains

not-or : (a b : Bool) → not (a || b) ≡ (not a && not b)
not-or true b = refl
not-or false b = refl

-- the rest of the objects, where this one is the next
pub off-next : (os : List Obj) (i n : ℕ) (b : Bool) → i < length os → b ≡ list_any (λ m. nat_eq m n) (chain_in (slice_get os i)) → is_off_chains (drop i os) (Some (obj n)) ≡ (not b && is_off_chains (drop (i + 1) os) (Some (obj n)))
unfolding is_off_chains chain_in
off-next os i n b h e =
    let here : slice_get os i ≡ Some (get_or os i bare) = slice_get-get_or os i bare h in
    step_got (λ (xs : List Obj). is_off_chains xs (Some (obj n))) os i (get_or os i bare) (sym here)
    ∙ not-or (list_any (λ m. nat_eq m n) (get_or os i bare).chain) (list_any (λ o. list_any (λ m. nat_eq m n) o.chain) (drop (i + 1) os))
    ∙ ap (λ (x : Bool). not x && is_off_chains (drop (i + 1) os) (Some (obj n))) (sym (e ∙ ap (λ (o : Option Obj). list_any (λ m. nat_eq m n) (chain_in o)) here))

pub off-none : (n : ℕ) → is_off_chains [] (Some (obj n)) ≡ true
unfolding is_off_chains
off-none n = refl

pub off-Some : (os : List Obj) (w : Option Val) (p : ℕ) (b : Bool) → Some p ≡ prototype_object w → b ≡ is_off_chains os (Some (obj p)) → b ≡ is_off_chains os w
unfolding prototype_object
off-Some os None p b e h = cc
off-Some os (Some (obj n)) p b e h = let same : p ≡ n = cc in h ∙ ap (λ (m : ℕ). is_off_chains os (Some (obj m))) same
off-Some os (Some (out n)) p b e h = cc
off-Some os (Some (prim q)) p b e h = cc

-- what is left of a chain, where this prototype is the next
pub extended-none : (T : Tables) (os : List Obj) (ps : List ℕ) (i : ℕ) → i < length ps → false ≡ fits_extended T os None (drop i ps)
unfolding fits_extended
extended-none T os ps i h = sym (at_drop_more (fits_extended T os None) ps i 0 h)

pub extended-next : (T : Tables) (os : List Obj) (d : ℕ) (ps : List ℕ) (i : ℕ) (b : Bool) → i < length ps → b ≡ is_prototype_of_class os (function_in (slice_get T.classes d)) (get_or ps i 0)
    → fits_extended T os (Some d) (drop i ps) ≡ (b && fits_extended T os (extended (slice_get T.classes d)) (drop (i + 1) ps))
unfolding fits_extended
extended-next T os d ps i b h e = at_drop_more (fits_extended T os (Some d)) ps i 0 h ∙ ap (λ (x : Bool). x && fits_extended T os (extended (slice_get T.classes d)) (drop (i + 1) ps)) (sym e)

pub extended-end : (T : Tables) (os : List Obj) (next : Option ℕ) (b : Bool) → is_some next ≡ not b → b ≡ fits_extended T os next []
unfolding fits_extended
extended-end T os None true e = refl
extended-end T os None false e = cc
extended-end T os (Some d) true e = cc
extended-end T os (Some d) false e = refl

-- ---- the class with a function

pub class-next : (k : ℕ) (cs : List Class) (i f : ℕ) (c : Class) (b : Bool) → i < length cs → c ≡ get_or cs i c → b ≡ is_number c.function f → class_from k (drop i cs) f ≡ pick b (Some k) (class_from (k + 1) (drop (i + 1) cs) f)
unfolding class_from
class-next k cs i f c b h is e =
    let one : suc k ≡ k + 1 = omega arith in
    step (λ (xs : List Class). class_from k xs f) cs i c h is ∙ (λ j. pick (sym e j) (Some k) (class_from (one j) (drop (i + 1) cs) f))

-- ---- writes of `prototype`

other : (T : Tables) (s : State) (o : Obj) (k : Option Code) (n : List ℕ) (v : Val) (d : Bool) → list_eq n name_prototype ≡ false → ◌≡◌ {A = Option ℕ} None (code_rule T s o k n v d)
unfolding code_rule
other T s o None n v d e = refl
other T s o (Some c) n v d e = sym (ap (λ (b : Bool). pick b (rule_unless (declares_well T s (Some o) (class_of_function T c.function) v d) 12) None) e)

pub rule-other : (T : Tables) (s : State) (o : Option Obj) (n : List ℕ) (v : Val) (d : Bool) → list_eq n name_prototype ≡ false → ◌≡◌ {A = Option ℕ} None (prototype_rule T s o n v d)
unfolding prototype_rule
rule-other T s None n v d e = refl
rule-other T s (Some o) n v d e = other T s o o.code n v d e

plain : (T : Tables) (s : State) (o : Obj) (k : Option Code) (n : List ℕ) (v : Val) (d : Bool) → None ≡ k → ◌≡◌ {A = Option ℕ} None (code_rule T s o k n v d)
unfolding code_rule
plain T s o None n v d e = refl
plain T s o (Some c) n v d e = cc

pub rule-no_code : (T : Tables) (s : State) (o : Option Obj) (n : List ℕ) (v : Val) (d : Bool) → None ≡ code_in o → ◌≡◌ {A = Option ℕ} None (prototype_rule T s o n v d)
unfolding prototype_rule
rule-no_code T s None n v d e = refl
rule-no_code T s (Some o) n v d e = plain T s o o.code n v d e

coded : (T : Tables) (s : State) (o : Obj) (k : Option Code) (c : Code) (n : List ℕ) (v : Val) (d : Bool) → list_eq n name_prototype ≡ true → Some c ≡ k → rule_unless (declares_well T s (Some o) (class_of_function T c.function) v d) 12 ≡ code_rule T s o k n v d
unfolding code_rule
coded T s o None c n v d e h = cc
coded T s o (Some k) c n v d e h =
    let same : c ≡ k = cc in
    ap (λ (x : Code). rule_unless (declares_well T s (Some o) (class_of_function T x.function) v d) 12) same ∙ sym (ap (λ (b : Bool). pick b (rule_unless (declares_well T s (Some o) (class_of_function T k.function) v d) 12) None) e)

pub rule-code : (T : Tables) (s : State) (o : Option Obj) (c : Code) (n : List ℕ) (v : Val) (d : Bool) → list_eq n name_prototype ≡ true → Some c ≡ code_in o → rule_unless (declares_well T s o (class_of_function T c.function) v d) 12 ≡ prototype_rule T s o n v d
unfolding prototype_rule
rule-code T s None c n v d e h = cc
rule-code T s (Some o) c n v d e h = coded T s o o.code c n v d e h

-- Callees, the classes of code, arguments, and the names that the host uses.
use Rattle.std.proofs.Common.{◌≡◌, ◌∙◌, ℕ, suc, ◌+◌, ◌<◌, Bool, true, false, not, ◌&&◌, ◌||◌, nat_eq, List, [], ◌∷◌, length, get_or, drop, map, Option, Some, None, is_some, slice_get, refl, sym, ap, arith}
use Rattle.std.specs.List.{list_any}
use Rattle.cc_ast.specs.declared.tables.Class.{Class}
use Rattle.cc_ast.specs.declared.tables.TypeSet.{TypeSet}
use Rattle.cc_heap.specs.Store.{code_in}
use Rattle.cc_meaning.specs.Monad.{pick}
use Rattle.cc_meaning.specs.Names.{is_index}
use Rattle.cc_meaning.specs.Rules.{callable, callee_rule, all_fit, names_well}
use Rattle.cc_meaning.specs.SlotRules.{least, rule_if, rule_unless, is_dotted}
use Rattle.cc_meaning.specs.State.{Obj, Slot, State, Tables}
use Rattle.cc_meaning.specs.Store.{code_class_from, is_number, is_kept, slots_on, chain_of}
use Rattle.cc_meaning.specs.Typed.{of_opt_type}
use Rattle.cc_meaning.specs.Values.{Val, prim, obj, out}
use Rattle.cc_value.specs.Bridge.{value_of}
use Rattle.cc_value.specs.declared.value.Value.{Value}
use Rattle.cc_value.specs.declared.value.Value.TheVariants as V
use Rattle.cc_conform.specs.Slots.{least_of}
use Rattle.cc_conform.specs.declared.slots.SlotTest.TheVariants.{NoDot}
use Rattle.cc_conform.proofs.Loops.{step, step_got, end_got}

-- ---- callees

pub callable-parts : (o : Option Obj) → callable o ≡ rule_unless (is_some (code_in o)) 2
unfolding callable rule_unless
callable-parts None = refl
callable-parts (Some o) = refl

pub callee-others : (s : State) (v : Value) → (v ≡ V.Undefined → ⊥) → (v ≡ V.Null → ⊥) → ((n : ℕ) → v ≡ V.Object n → ⊥) → ((n : ℕ) → v ≡ V.Outside n → ⊥) → Some 2 ≡ callee_rule s (value_of v)
unfolding callee_rule
callee-others s V.Undefined h j k l = absurd (h refl)
callee-others s V.Null h j k l = absurd (j refl)
callee-others s (V.Truth b) h j k l = refl
callee-others s (V.Whole z) h j k l = refl
callee-others s (V.Text t) h j k l = refl
callee-others s (V.Object n) h j k l = absurd (k n refl)
callee-others s (V.Outside n) h j k l = absurd (l n refl)

-- ---- the class of code

pub code-next : (k : ℕ) (cs : List Class) (i f : ℕ) (c : Class) (b : Bool) → i < length cs → c ≡ get_or cs i c → b ≡ (is_number c.function f || list_any (λ m. nat_eq m.1 f) c.methods)
    → code_class_from k (drop i cs) f ≡ pick b (Some k) (code_class_from (k + 1) (drop (i + 1) cs) f)
unfolding code_class_from
code-next k cs i f c b h is e =
    let one : suc k ≡ k + 1 = omega arith in
    step (λ (xs : List Class). code_class_from k xs f) cs i c h is ∙ (λ j. pick (sym e j) (Some k) (code_class_from (one j) (drop (i + 1) cs) f))

-- ---- arguments

-- the rest of the parameters, where this one is the next and has an argument
pub fit-next : (T : Tables) (s : State) (ts : List (Option TypeSet)) (vs : List Value) (i : ℕ) (t : Option TypeSet) (v : Value) (b : Bool) → i < length ts → t ≡ get_or ts i t → Some v ≡ slice_get vs i → b ≡ of_opt_type T s.objs t (value_of v)
    → all_fit T s (drop i ts) (map value_of (drop i vs)) ≡ (b && all_fit T s (drop (i + 1) ts) (map value_of (drop (i + 1) vs)))
unfolding all_fit
fit-next T s ts vs i t v b h is there e =
    step (λ (us : List (Option TypeSet)). all_fit T s us (map value_of (drop i vs))) ts i t h is
    ∙ step_got (λ (ws : List Value). all_fit T s (t ∷ drop (i + 1) ts) (map value_of ws)) vs i v there
    ∙ ap (λ (x : Bool). x && all_fit T s (drop (i + 1) ts) (map value_of (drop (i + 1) vs))) (sym e)

-- or where it has none
pub fit-end : (T : Tables) (s : State) (ts : List (Option TypeSet)) (vs : List Value) (i : ℕ) (t : Option TypeSet) → i < length ts → t ≡ get_or ts i t → None ≡ slice_get vs i → all_fit T s (drop i ts) (map value_of (drop i vs)) ≡ true
unfolding all_fit
fit-end T s ts vs i t h is none =
    step (λ (us : List (Option TypeSet)). all_fit T s us (map value_of (drop i vs))) ts i t h is
    ∙ end_got (λ (ws : List Value). all_fit T s (t ∷ drop (i + 1) ts) (map value_of ws)) vs i none

-- ---- names that the host uses

some_least : (b : Bool) (r : ℕ) (o : Option ℕ) → (b || is_some o) ≡ is_some (least (rule_if b r) o)
unfolding least rule_if
some_least true r None = refl
some_least true r (Some a) = refl
some_least false r o = refl

any_dotted : (r : ℕ) (n : List ℕ) (xs : List Slot) → list_any (λ x. is_dotted x.kind) xs ≡ is_some (least_of (NoDot r) n xs)
unfolding least_of
any_dotted r n [] = refl
any_dotted r n (x ∷ xs) = ap (λ (b : Bool). is_dotted x.kind || b) (any_dotted r n xs) ∙ some_least (is_dotted x.kind) r (least_of (NoDot r) n xs)

pub named-parts : (T : Tables) (s : State) (o : ℕ) (n m : List ℕ) (r : ℕ) (b : Bool) → is_some (least_of (NoDot r) m (slots_on s.objs (chain_of s.objs o))) ≡ b → names_well T s (Some (obj o)) (Some n) ≡ ((is_kept T n || is_index n) || not b)
unfolding names_well
named-parts T s o n m r b e = ap (λ (x : Bool). (is_kept T n || is_index n) || not x) (any_dotted r m (slots_on s.objs (chain_of s.objs o)) ∙ e)

pub named-others : (T : Tables) (s : State) (v : Value) (n : Option (List ℕ)) → ((k : ℕ) → v ≡ V.Object k → ⊥) → true ≡ names_well T s (Some (value_of v)) n
unfolding names_well
named-others T s V.Undefined n h = refl
named-others T s V.Null n h = refl
named-others T s (V.Truth b) n h = refl
named-others T s (V.Whole z) n h = refl
named-others T s (V.Text t) n h = refl
named-others T s (V.Object k) n h = absurd (h k refl)
named-others T s (V.Outside k) n h = refl

pub named-none : (T : Tables) (s : State) (r : Option Val) → true ≡ names_well T s r None
unfolding names_well
named-none T s None = refl
named-none T s (Some (prim p)) = refl
named-none T s (Some (obj o)) = refl
named-none T s (Some (out n)) = refl

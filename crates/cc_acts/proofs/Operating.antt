-- The value of an operator, or the end at the rule that it breaks.
use Rattle.std.proofs.Common.{◌≡◌, ◌≢◌, ℕ, Bool, true, false, nat_le, [], ◌∷◌, Option, Some, None, Ok, Err, slice_get, refl, ap, ◌∙◌, sym, subst, List}
use Rattle.cc_ast.specs.declared.operator.BinOp.{BinOp}
use Rattle.cc_ast.specs.declared.operator.BinOp.TheVariants.{Instance, Has}
use Rattle.cc_value.specs.declared.value.Value.{Value}
use Rattle.cc_value.specs.declared.value.OpFault.{OpFault}
use Rattle.cc_value.specs.declared.value.OpFault.TheVariants.{Rule1, Rule2}
use Rattle.cc_value.specs.declared.value.OpFault.TheVariants as F
use Rattle.cc_value.specs.Bridge.{Answers, value_of}
use Rattle.cc_ast.specs.Syntax.{text}
use Rattle.cc_ast.specs.declared.operator.UnOp.{UnOp}
use Rattle.cc_ast.specs.declared.operator.UnOp.TheVariants.{Typeof}
use Rattle.cc_heap.specs.Answers.{Tells, type_in}
use Rattle.cc_value.specs.declared.value.Value.TheVariants as V
use Rattle.cc_meaning.specs.Values.{Val, prim, obj, out, Spot}
use Rattle.cc_meaning.specs.State.{State}
use Rattle.cc_meaning.specs.Monad.{End, Res, ok, ret, M}
use Rattle.cc_meaning.specs.Operators.{Outcome, gives, binary_of, unary_of}
use Rattle.cc_meaning.specs.Rules.{outcome_rule, unary_op, binary_op, binary_rule, unary_rule}
use Rattle.cc_meaning.specs.Judge.{Act, operates, least_broken}
use Rattle.cc_meaning.specs.Acts.{is_fatal, judged, reading, outcome_value, object_type, operate, operate_one}
use Rattle.cc_acts.specs.declared.stop.Stop.{Stop}
use Rattle.cc_acts.specs.declared.stop.Stop.TheVariants.{Ended, Memory}
use Rattle.cc_acts.specs.Shown.{Comes, StopsAt, StopsBy}
use Rattle.cc_acts.specs.Verdicts.{mode_of, end_of, end_at}
use Rattle.cc_acts.proofs.Judging.{goes, ends, end_by}

-- an end at rule 1, 2 or 3
fatal-end : (b : Bool) (i : Spot) (r : ℕ) → end_at b i true r ≡ Some ((mode_of b).fault r i)
fatal-end true i r = refl
fatal-end false i r = refl

pub stops-at : {A B : Type 0} (f : A → B) (b : Bool) (i : Spot) (a : Act) (n : State → Res B) (s t : State) (r : ℕ) (x : Stop) →
    is_fatal a r ≡ true → Some r ≡ least_broken s.tables s a → StopsAt x (mode_of b) r i → Comes f (Err x) t (judged (mode_of b) i a n s)
stops-at f b i a n s t r (Ended e) h l c =
    ends f b i a n s t (Ended e) (ap (λ (o : Option ℕ). end_of b i a o) (sym l) ∙ sym (end_by b i a (Some r) r true refl h) ∙ fatal-end b i r ∙ ap (λ (z : End). Some z) (sym c))
stops-at f b i a n s t r Memory h l c = absurd c

no_end : (b : Bool) (i : Spot) (a : Act) → end_of b i a None ≡ None
no_end true i a = refl
no_end false i a = refl

-- an operator's own answer
pub answer-goes : (b : Bool) (i : Spot) (a : Act) (o : Outcome) (s : State) (v : Value) → o ≡ gives (value_of v) → outcome_rule o ≡ least_broken s.tables s a →
    Comes value_of (Ok v) s (judged (mode_of b) i a (ret (outcome_value o)) s)
unfolding outcome_rule outcome_value ret
answer-goes b i a o s v e l =
    goes value_of b i a (ret (outcome_value o)) s s tt (Ok v)
    (ap (λ (x : Option ℕ). end_of b i a x) (sym l ∙ ap outcome_rule e) ∙ none b)
    (ap (λ (x : Outcome). ok [] (outcome_value x) s) e)
  where
    none : (b : Bool) → end_of b i a None ≡ None
    none true = refl
    none false = refl

pub answer-stops : (b : Bool) (i : Spot) (a : Act) (o : Outcome) (s : State) (q : OpFault) (x : Stop) → ((r : ℕ) → is_fatal a r ≡ nat_le r 3) →
    Answers (Err q) o → outcome_rule o ≡ least_broken s.tables s a → StopsBy q x (mode_of b) i → Comes value_of (Err x) s (judged (mode_of b) i a (ret (outcome_value o)) s)
unfolding outcome_rule
answer-stops b i a o s Rule1 x h e l c = stops-at value_of b i a (ret (outcome_value o)) s s 1 x (h 1) (sym (ap outcome_rule e) ∙ l) c
answer-stops b i a o s Rule2 x h e l c = stops-at value_of b i a (ret (outcome_value o)) s s 2 x (h 2) (sym (ap outcome_rule e) ∙ l) c
answer-stops b i a o s F.Memory x h e l c = subst (λ (y : Stop). Comes value_of (Err y) s (judged (mode_of b) i a (ret (outcome_value o)) s)) (sym c) tt

-- the operators that need no heap
pub own-rule : (op : BinOp) (s : State) (x y : Val) → op ≢ Instance → op ≢ Has → outcome_rule (binary_of op x y) ≡ least_broken s.tables s (operates (binary_op op) (x ∷ y ∷ []))
unfolding least_broken binary_rule
own-rule Instance s x y h j = absurd (h refl)
own-rule Has s x y h j = absurd (j refl)
own-rule _ s x y h j = refl

pub own-act : (op : BinOp) (b : Bool) (i : Spot) (x y : Val) → op ≢ Instance → op ≢ Has → judged (mode_of b) i (operates (binary_op op) (x ∷ y ∷ [])) (ret (outcome_value (binary_of op x y))) ≡ operate (mode_of b) i op x y
unfolding operate
own-act Instance b i x y h j = absurd (h refl)
own-act Has b i x y h j = absurd (j refl)
own-act _ b i x y h j = refl

-- what an operator that needs the heap answered
pub tells-goes : (b : Bool) (i : Spot) (a : Act) (n : M Val) (s : State) (v : Value) (rule : Option ℕ) →
    rule ≡ None → rule ≡ least_broken s.tables s a → n s ≡ ok [] (value_of v) s → Comes value_of (Ok v) s (judged (mode_of b) i a n s)
tells-goes b i a n s v rule e l h = goes value_of b i a n s s tt (Ok v) (ap (λ (x : Option ℕ). end_of b i a x) (sym l ∙ e) ∙ no_end b i a) h

pub tells-stops : {A : Type 0} (b : Bool) (i : Spot) (a : Act) (n : M Val) (s : State) (q : OpFault) (x : Stop) (rule : Option ℕ) (P : A → Type 0) (memory : Type 0) → is_fatal a 2 ≡ true →
    Tells {A = A} (Err q) rule P memory → rule ≡ least_broken s.tables s a → StopsBy q x (mode_of b) i → Comes value_of (Err x) s (judged (mode_of b) i a n s)
tells-stops b i a n s Rule1 x rule P memory f t l c = absurd t
tells-stops b i a n s Rule2 x rule P memory f t l c = stops-at value_of b i a n s s 2 x f (sym t ∙ l) c
tells-stops b i a n s F.Memory x rule P memory f t l c = subst (λ (y : Stop). Comes value_of (Err y) s (judged (mode_of b) i a n s)) (sym c) tt

pub own-one : (op : UnOp) (b : Bool) (i : Spot) (x : Val) → op ≢ Typeof → judged (mode_of b) i (operates (unary_op op) (x ∷ [])) (ret (outcome_value (unary_of op x))) ≡ operate_one (mode_of b) i op x
unfolding operate_one
own-one Typeof b i x h = absurd (h refl)
own-one _ b i x h = refl

pub own-one-rule : (op : UnOp) (s : State) (x : Val) → op ≢ Typeof → outcome_rule (unary_of op x) ≡ least_broken s.tables s (operates (unary_op op) (x ∷ []))
unfolding least_broken unary_rule
own-one-rule Typeof s x h = absurd (h refl)
own-one-rule _ s x h = refl

pub type-goes : (b : Bool) (i : Spot) (s : State) (x : Val) (t : List ℕ) → unary_rule Typeof x ≡ None → prim (text t) ≡ type_in s.objs x → Comes value_of (Ok (V.Text t)) s (operate_one (mode_of b) i Typeof x s)
unfolding operate_one reading ret least_broken unary_rule
type-goes b i s (obj n) t e h = tells-goes b i (operates (unary_op Typeof) (obj n ∷ [])) (reading (λ s. prim (text (object_type (slice_get s.objs n))))) s (V.Text t) None refl refl (ap (λ (z : Val). ok [] z s) (sym h))
type-goes b i s (prim p) t e h = tells-goes b i (operates (unary_op Typeof) (prim p ∷ [])) (ret (outcome_value (unary_of Typeof (prim p)))) s (V.Text t) (unary_rule Typeof (prim p)) e refl (ap (λ (z : Val). ok [] z s) (sym h))
type-goes b i s (out n) t e h = tells-goes b i (operates (unary_op Typeof) (out n ∷ [])) (ret (outcome_value (unary_of Typeof (out n)))) s (V.Text t) (unary_rule Typeof (out n)) e refl (ap (λ (z : Val). ok [] z s) (sym h))

pub type-stops : {A : Type 0} (b : Bool) (i : Spot) (s : State) (x : Val) (q : OpFault) (y : Stop) (P : A → Type 0) (memory : Type 0) → Tells {A = A} (Err q) (unary_rule Typeof x) P memory → StopsBy q y (mode_of b) i → Comes value_of (Err y) s (operate_one (mode_of b) i Typeof x s)
unfolding operate_one least_broken unary_rule is_fatal
type-stops b i s (obj n) q y P memory t c = tells-stops b i (operates (unary_op Typeof) (obj n ∷ [])) (reading (λ s. prim (text (object_type (slice_get s.objs n))))) s q y None P memory refl t refl c
type-stops b i s (prim p) q y P memory t c = tells-stops b i (operates (unary_op Typeof) (prim p ∷ [])) (ret (outcome_value (unary_of Typeof (prim p)))) s q y (unary_rule Typeof (prim p)) P memory refl t refl c
type-stops b i s (out n) q y P memory t c = tells-stops b i (operates (unary_op Typeof) (out n ∷ [])) (ret (outcome_value (unary_of Typeof (out n)))) s q y (unary_rule Typeof (out n)) P memory refl t refl c

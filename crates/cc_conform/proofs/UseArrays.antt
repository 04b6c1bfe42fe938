-- What uses of arrays break, but for what they put in.
use Rattle.std.proofs.Common.{◌≡◌, ◌∙◌, ◌+◌, ◌≤◌, ℕ, suc, Bool, true, false, ◌&&◌, cond, List, [], ◌∷◌, ◌++◌, length, map, codes, slice_get, Option, Some, None, IfSome, is_some, refl, sym, ap, arith}
use Rattle.std.specs.List.{list_all}
use Rattle.std.proofs.lemmas.List.Folds.{list_all-map}
use Rattle.std.proofs.lemmas.List.{length-map}
use Rattle.cc_ast.specs.Syntax.{Prim, undefined, null, truth, whole, text}
use Rattle.cc_meaning.specs.Built.{as_arg, arg_of, args_of}
use Rattle.cc_meaning.specs.Builtins.{Arg, changed, copied, copied_or_breaks, array_use, array_pop, array_shift, array_slice, array_join, array_index_of, arrays_after, concat_use, element_place, element_text, joined, joined_after, both_texts, text_outcome, position_number}
use Rattle.cc_meaning.specs.Operators.{Outcome, gives, breaks, strict_equal}
use Rattle.cc_meaning.specs.Rules.{outcome_rule, is_prim}
use Rattle.cc_meaning.specs.SlotRules.{rule_unless}
use Rattle.cc_meaning.specs.State.{Obj}
use Rattle.cc_meaning.specs.Typed.{elements_in}
use Rattle.cc_meaning.specs.Values.{Val, prim, obj, out}
use Rattle.cc_value.specs.declared.value.Value.{Value}
use Rattle.cc_value.specs.Bridge.{value_of}
use Rattle.cc_conform.specs.Operands.{is_whole, is_text, is_array, has_none, has_one_at_most, has_two_at_most, only}
use Rattle.cc_conform.specs.Uses.{result_rule}
use Rattle.cc_conform.proofs.UseTexts.{and-false}

pub changed-rule : (es : List Val) (o : Outcome) → result_rule (changed es o) ≡ outcome_rule o
unfolding changed outcome_rule
changed-rule es (gives v) = refl
changed-rule es (breaks r) = refl

-- ---- `pop`, `shift` and `slice`

pub pop-rule : (es vs : List Val) → result_rule (array_use array_pop es vs) ≡ rule_unless (has_none vs) 2
unfolding array_use changed rule_unless
pop-rule es [] = refl
pop-rule es (v ∷ vs) = refl

pub shift-rule : (es vs : List Val) → result_rule (array_use array_shift es vs) ≡ rule_unless (has_none vs) 2
unfolding array_use changed rule_unless
shift-rule es [] = refl
shift-rule es (v ∷ vs) = refl

slice : (es vs : List Val) → result_rule (array_use array_slice es vs) ≡ rule_unless (list_all is_whole vs && has_two_at_most vs) 2
unfolding array_use copied rule_unless
slice es [] = refl
slice es (prim (whole i) ∷ []) = refl
slice es (prim (whole i) ∷ prim (whole j) ∷ []) = refl
slice es (prim (whole i) ∷ prim (whole j) ∷ w ∷ vs) = ap (λ (b : Bool). rule_unless b 2) (sym (and-false (list_all is_whole (w ∷ vs))))
slice es (prim (whole i) ∷ w ∷ vs) = refl
slice es (v ∷ vs) = refl

pub slice-rule : (es : List Val) (xs : List Value) → result_rule (array_use array_slice es (map value_of xs)) ≡ rule_unless (list_all (λ v. is_whole (value_of v)) xs && has_two_at_most (map value_of xs)) 2
slice-rule es xs = slice es (map value_of xs) ∙ ap (λ (b : Bool). rule_unless (b && has_two_at_most (map value_of xs)) 2) (list_all-map is_whole value_of xs)

-- ---- `concat`

with-rest : (es : List Val) (w : Val) (o : Option (List Val)) (rest : List Arg) (b : Bool) → ((fs : List Val) → is_some (arrays_after fs rest) ≡ b) → is_some (arrays_after es (as_arg w o ∷ rest)) ≡ (is_some o && b)
unfolding arrays_after as_arg
with-rest es w None rest b h = refl
with-rest es w (Some vs) rest b h = h (es ++ vs)

arrays : (os : List Obj) (vs es : List Val) → is_some (arrays_after es (args_of os vs)) ≡ list_all (is_array os) vs
unfolding arrays_after args_of arg_of
arrays os [] es = refl
arrays os (obj n ∷ vs) es = with-rest es (obj n) (elements_in (slice_get os n)) (args_of os vs) (list_all (is_array os) vs) (λ fs. arrays os vs fs)
arrays os (out n ∷ vs) es = refl
arrays os (prim p ∷ vs) es = refl

taken : (es : List Val) (o : Option (List Val)) → result_rule (copied_or_breaks es o) ≡ rule_unless (is_some o) 2
unfolding copied_or_breaks copied rule_unless
taken es None = refl
taken es (Some vs) = refl

pub concat-rule : (os : List Obj) (es : List Val) (xs : List Value) → result_rule (concat_use es (args_of os (map value_of xs))) ≡ rule_unless (list_all (λ v. is_array os (value_of v)) xs) 2
unfolding concat_use
concat-rule os es xs = taken es (arrays_after es (args_of os (map value_of xs))) ∙ ap (λ (b : Bool). rule_unless b 2) (arrays os (map value_of xs) es ∙ list_all-map (is_array os) value_of xs)

-- ---- `join`

has_text : (v : Val) → is_some (element_text v) ≡ is_prim v
unfolding element_text is_prim
has_text (prim undefined) = refl
has_text (prim null) = refl
has_text (prim (truth b)) = refl
has_text (prim (whole z)) = refl
has_text (prim (text t)) = refl
has_text (obj n) = refl
has_text (out n) = refl

have_both : (s t : Option (List ℕ)) → is_some (both_texts s t) ≡ (is_some s && is_some t)
have_both None t = refl
have_both (Some s) None = refl
have_both (Some s) (Some t) = refl

texts-after : (sep : List ℕ) (vs : List Val) → is_some (joined_after sep vs) ≡ list_all is_prim vs
unfolding joined_after
texts-after sep [] = refl
texts-after sep (v ∷ vs) =
    have_both (both_texts (Some sep) (element_text v)) (joined_after sep vs)
    ∙ (λ i. have_both (Some sep) (element_text v) i && texts-after sep vs i) ∙ ap (λ (b : Bool). b && list_all is_prim vs) (has_text v)

have_texts : (sep : List ℕ) (vs : List Val) → is_some (joined sep vs) ≡ list_all is_prim vs
unfolding joined
have_texts sep [] = refl
have_texts sep (v ∷ vs) = have_both (element_text v) (joined_after sep vs) ∙ (λ i. has_text v i && texts-after sep vs i)

text-rule : (o : Option (List ℕ)) → outcome_rule (text_outcome o) ≡ rule_unless (is_some o) 2
unfolding text_outcome outcome_rule rule_unless
text-rule None = refl
text-rule (Some t) = refl

joined-rule : (es : List Val) (sep : List ℕ) → result_rule (changed es (text_outcome (joined sep es))) ≡ rule_unless (list_all is_prim es) 2
joined-rule es sep = changed-rule es (text_outcome (joined sep es)) ∙ text-rule (joined sep es) ∙ ap (λ (b : Bool). rule_unless b 2) (have_texts sep es)

takes : (es vs : List Val) → (list_all is_text vs && has_one_at_most vs) ≡ true → result_rule (array_use array_join es vs) ≡ rule_unless (list_all is_prim es) 2
unfolding array_use
takes es [] h = joined-rule es (codes ",")
takes es (prim (text sep) ∷ []) h = joined-rule es sep
takes es (prim (text sep) ∷ w ∷ vs) h = let no = sym (and-false (list_all is_text (w ∷ vs))) ∙ h in cc
takes es (v ∷ vs) h = cc

takes_not : (es vs : List Val) → (list_all is_text vs && has_one_at_most vs) ≡ false → result_rule (array_use array_join es vs) ≡ Some 2
unfolding array_use
takes_not es [] h = cc
takes_not es (prim (text sep) ∷ []) h = cc
takes_not es (prim (text sep) ∷ w ∷ vs) h = refl
takes_not es (v ∷ vs) h = refl

pub join-takes : (xs ys : List Value) (b : Bool) → b ≡ list_all (λ v. is_text (value_of v)) ys → (b && has_one_at_most (map value_of ys)) ≡ true
    → rule_unless (list_all (λ v. is_prim (value_of v)) xs) 2 ≡ result_rule (array_use array_join (map value_of xs) (map value_of ys))
join-takes xs ys b is h =
    ap (λ (p : Bool). rule_unless p 2) (sym (list_all-map is_prim value_of xs))
    ∙ sym (takes (map value_of xs) (map value_of ys) (ap (λ (p : Bool). p && has_one_at_most (map value_of ys)) (list_all-map is_text value_of ys ∙ sym is) ∙ h))

pub join-not : (xs ys : List Value) (b : Bool) → b ≡ list_all (λ v. is_text (value_of v)) ys → (b && has_one_at_most (map value_of ys)) ≡ false → Some 2 ≡ result_rule (array_use array_join (map value_of xs) (map value_of ys))
join-not xs ys b is h = sym (takes_not (map value_of xs) (map value_of ys) (ap (λ (p : Bool). p && has_one_at_most (map value_of ys)) (list_all-map is_text value_of ys ∙ sym is) ∙ h))

-- ---- `indexOf`

either : (m k : ℕ) (b : Bool) (o : Option ℕ) → k ≤ m → IfSome o (λ p. p ≤ m) → IfSome (cond b (Some k) o) (λ p. p ≤ m)
either m k true o h r = h
either m k false o h r = r

within : (k : ℕ) (v : Val) (es : List Val) (m : ℕ) → k + length es ≤ m → IfSome (element_place k v es) (λ p. p ≤ m)
unfolding element_place
within k v [] m h = tt
within k v (e ∷ es) m h = either m k (strict_equal e v) (element_place (suc k) v es) (omega (arith, h)) (within (suc k) v es m (omega (arith, h)))

pub element-within : (v : Val) (xs : List Value) (m : ℕ) → length xs ≤ m → IfSome (element_place 0 v (map value_of xs)) (λ p. p ≤ m)
element-within v xs m h = within 0 v (map value_of xs) m (let e : length (map value_of xs) ≡ length xs = length-map xs value_of in omega (arith, e, h))

pub element-step : (k : ℕ) (v x : Val) (es : List Val) → element_place k v (x ∷ es) ≡ cond (strict_equal x v) (Some k) (element_place (k + 1) v es)
unfolding element_place
element-step k v x es = let e : suc k ≡ k + 1 = omega arith in ap (λ (n : ℕ). cond (strict_equal x v) (Some k) (element_place n v es)) e

pub index-other : (es : List Val) (xs : List Value) → only xs ≡ None → Some 2 ≡ result_rule (array_use array_index_of es (map value_of xs))
unfolding array_use
index-other es [] e = refl
index-other es (x ∷ []) e = cc
index-other es (x ∷ y ∷ xs) e = refl

pub index-one : (es : List Val) (v : Val) → outcome_rule (position_number (element_place 0 v es)) ≡ result_rule (array_use array_index_of es (v ∷ []))
unfolding array_use
index-one es v = sym (changed-rule es (position_number (element_place 0 v es)))

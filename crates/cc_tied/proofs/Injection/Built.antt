-- What uses of what is built in come to on values that are tied: where the left one breaks no rule, the right one gives what is tied.
use Rattle.std.proofs.Common.{◌≡◌, ℕ, zero, suc, ◌-◌, Bool, true, false, List, [], ◌∷◌, ◌++◌, length, take, drop, Option, Some, None, refl, subst}
use Rattle.std.specs.Prelude.{ℤ, pos, negsuc, slice_get, slice_range, unsigned_abs, if◌then◌else◌, codes}
use Rattle.cc_ast.specs.Syntax.{Prim, whole, text}
use Rattle.cc_meaning.specs.Values.{Val}
use Rattle.cc_meaning.specs.Operators.{Outcome, gives, breaks, is_exact, number, strict_equal}
use Rattle.cc_meaning.specs.Builtins.{or_undefined, position_number, TextUse, text_char_at, text_char_code_at, text_index_of, text_last_index_of, text_slice, text_substring, code_outcome, char_code_at, first_place, last_place, text_use, string_of, string_use, to_uint16, codes_after, from_char_codes, MathUse, math_max, math_min, math_abs, outermost, math_use, ArrayUse, array_push, array_unshift, array_pop, array_shift, array_slice, array_concat, array_join, array_index_of, ArrayAnswer, answers, answers_array, ArrayChange, ArrayResult, changes, array_breaks, Arg, value_arg, list_arg, changed, copied, array_length, element_text, joined_after, joined, text_outcome, element_place, arrays_after, copied_or_breaks, concat_use, value_args, array_use, place_from_end}
use Rattle.cc_tied.specs.Tied.{ListT, nil_t, cons_t, OptT, none_t, some_t, ValT, prim_t, out_t, obj_t}
use Rattle.cc_tied.proofs.Parts.{list_on}
use Rattle.cc_tied.proofs.Lists.{tied_get, tied_length}

module _ (O : ℕ → ℕ → Type 0) where
  abbrev V : Val → Val → Type 0
  V = ValT O

  abbrev L : List Val → List Val → Type 0
  L = ListT (ValT O)

  -- a broken rule on the left excuses what the right comes to
  pub data OutT : Outcome → Outcome → Type 0 where
    gives_u : {a b : Val} → V a b → OutT (gives a) (gives b)
    breaks_u : {r : ℕ} {o : Outcome} → OutT (breaks r) o

  out_if : (b : Bool) {o p o' p' : Outcome} → OutT o p → OutT o' p' → OutT (if b then o else o') (if b then p else p')
  out_if true h k = h
  out_if false h k = k

  number_out : (z : ℤ) → OutT (number z) (number z)
  unfolding number
  number_out z = out_if (is_exact z) (gives_u prim_t) breaks_u

  position_out : (o : Option ℕ) → OutT (position_number o) (position_number o)
  unfolding position_number
  position_out None = number_out (negsuc 0)
  position_out (Some k) = number_out (pos k)

  -- ---- texts and numbers

  code_out : (o : Option ℕ) → OutT (code_outcome o) (code_outcome o)
  unfolding code_outcome
  code_out None = breaks_u
  code_out (Some c) = number_out (pos c)

  char_code_out : (t : List ℕ) (z : ℤ) → OutT (char_code_at t z) (char_code_at t z)
  unfolding char_code_at
  char_code_out t (pos n) = code_out (slice_get t n)
  char_code_out t (negsuc n) = breaks_u

  pub text_use_out : (u : TextUse) (t : List ℕ) {vs us : List Val} → L vs us → OutT (text_use u t vs) (text_use u t us)
  unfolding text_use
  text_use_out text_char_at t (cons_t (prim_t {p = whole i}) nil_t) = gives_u prim_t
  text_use_out text_char_code_at t (cons_t (prim_t {p = whole i}) nil_t) = char_code_out t i
  text_use_out text_index_of t (cons_t (prim_t {p = text s}) nil_t) = position_out (first_place 0 s t)
  text_use_out text_last_index_of t (cons_t (prim_t {p = text s}) nil_t) = position_out (last_place 0 s t)
  text_use_out text_slice t (cons_t (prim_t {p = whole i}) nil_t) = gives_u prim_t
  text_use_out text_slice t (cons_t (prim_t {p = whole i}) (cons_t (prim_t {p = whole j}) nil_t)) = gives_u prim_t
  text_use_out text_substring t (cons_t (prim_t {p = whole i}) nil_t) = gives_u prim_t
  text_use_out text_substring t (cons_t (prim_t {p = whole i}) (cons_t (prim_t {p = whole j}) nil_t)) = gives_u prim_t
  text_use_out u t h = breaks_u

  string_of_out : {a b : Val} → V a b → OutT (string_of a) (string_of b)
  unfolding string_of
  string_of_out prim_t = gives_u prim_t
  string_of_out out_t = breaks_u
  string_of_out (obj_t o) = breaks_u

  pub string_out : {vs us : List Val} → L vs us → OutT (string_use vs) (string_use us)
  unfolding string_use
  string_out (cons_t h nil_t) = string_of_out h
  string_out h = breaks_u

  codes_out : (t : List ℕ) {vs us : List Val} → L vs us → OutT (codes_after t vs) (codes_after t us)
  unfolding codes_after
  codes_out t nil_t = gives_u prim_t
  codes_out t (cons_t (prim_t {p = whole z}) h) = codes_out (t ++ to_uint16 z ∷ []) h
  codes_out t h = breaks_u

  pub from_codes_out : {vs us : List Val} → L vs us → OutT (from_char_codes vs) (from_char_codes us)
  unfolding from_char_codes
  from_codes_out h = codes_out [] h

  outermost_out : (f : ℤ → ℤ → ℤ) (z : ℤ) {vs us : List Val} → L vs us → OutT (outermost f z vs) (outermost f z us)
  unfolding outermost
  outermost_out f z nil_t = gives_u prim_t
  outermost_out f z (cons_t (prim_t {p = whole y}) h) = outermost_out f (f z y) h
  outermost_out f z h = breaks_u

  pub math_out : (u : MathUse) {vs us : List Val} → L vs us → OutT (math_use u vs) (math_use u us)
  unfolding math_use
  math_out math_max (cons_t (prim_t {p = whole z}) h) = outermost_out _ z h
  math_out math_min (cons_t (prim_t {p = whole z}) h) = outermost_out _ z h
  math_out math_abs (cons_t (prim_t {p = whole z}) nil_t) = number_out (pos (unsigned_abs z))
  math_out u h = breaks_u

  -- ---- arrays

  pub data AnswerT : ArrayAnswer → ArrayAnswer → Type 0 where
    value_a : {a b : Val} → V a b → AnswerT (answers a) (answers b)
    array_a : {xs ys : List Val} → L xs ys → AnswerT (answers_array xs) (answers_array ys)

  pub record ChangeT (c d : ArrayChange) : Type 0 where
    pub elements : L c.elements d.elements
    pub answer : AnswerT c.answer d.answer

  pub data ResultT : ArrayResult → ArrayResult → Type 0 where
    changes_r : {c d : ArrayChange} → ChangeT c d → ResultT (changes c) (changes d)
    breaks_r : {r : ℕ} {o : ArrayResult} → ResultT (array_breaks r) o

  pub data ArgT : Arg → Arg → Type 0 where
    value_g : {a b : Val} → V a b → ArgT (value_arg a) (value_arg b)
    list_g : {xs ys : List Val} → L xs ys → ArgT (list_arg xs) (list_arg ys)

  changed_out : {es ds : List Val} {o p : Outcome} → L es ds → OutT o p → ResultT (changed es o) (changed ds p)
  unfolding changed
  changed_out h (gives_u v) = changes_r (record { elements = h; answer = value_a v })
  changed_out h breaks_u = breaks_r

  copied_out : {es ds xs ys : List Val} → L es ds → L xs ys → ResultT (copied es xs) (copied ds ys)
  unfolding copied
  copied_out h k = changes_r (record { elements = h; answer = array_a k })

  take_tied : (n : ℕ) {xs ys : List Val} → L xs ys → L (take n xs) (take n ys)
  take_tied zero h = nil_t
  take_tied (suc n) nil_t = nil_t
  take_tied (suc n) (cons_t h t) = cons_t h (take_tied n t)

  drop_tied : (n : ℕ) {xs ys : List Val} → L xs ys → L (drop n xs) (drop n ys)
  drop_tied zero h = h
  drop_tied (suc n) nil_t = nil_t
  drop_tied (suc n) (cons_t h t) = drop_tied n t

  undefined_tied : {a b : Option Val} → OptT V a b → V (or_undefined a) (or_undefined b)
  unfolding or_undefined
  undefined_tied none_t = prim_t
  undefined_tied (some_t h) = h

  length_out : {xs ys : List Val} → L xs ys → OutT (array_length xs) (array_length ys)
  unfolding array_length
  length_out {xs = xs} h = subst (λ z. OutT (number (pos (length xs))) (number (pos z))) (tied_length h) (number_out (pos (length xs)))

  element_text_same : {a b : Val} → V a b → element_text a ≡ element_text b
  unfolding element_text
  element_text_same prim_t = refl
  element_text_same out_t = refl
  element_text_same (obj_t o) = refl

  joined_after_same : (sep : List ℕ) {xs ys : List Val} → L xs ys → joined_after sep xs ≡ joined_after sep ys
  unfolding joined_after
  joined_after_same sep nil_t = refl
  joined_after_same sep (cons_t h t) = rw (element_text_same h, joined_after_same sep t) refl

  joined_same : (sep : List ℕ) {xs ys : List Val} → L xs ys → joined sep xs ≡ joined sep ys
  unfolding joined
  joined_same sep nil_t = refl
  joined_same sep (cons_t h t) = rw (element_text_same h, joined_after_same sep t) refl

  text_out : (o : Option (List ℕ)) → OutT (text_outcome o) (text_outcome o)
  unfolding text_outcome
  text_out (Some t) = gives_u prim_t
  text_out None = breaks_u

  join_out : (sep : List ℕ) {xs ys : List Val} → L xs ys → OutT (text_outcome (joined sep xs)) (text_outcome (joined sep ys))
  join_out sep {xs = xs} h = subst (λ z. OutT (text_outcome (joined sep xs)) (text_outcome z)) (joined_same sep h) (text_out (joined sep xs))

  value_args_tied : {vs us : List Val} → L vs us → ListT ArgT (value_args vs) (value_args us)
  unfolding value_args
  value_args_tied nil_t = nil_t
  value_args_tied (cons_t h t) = cons_t (value_g h) (value_args_tied t)

  arrays_after_tied : {es ds : List Val} → L es ds → {as' bs : List Arg} → ListT ArgT as' bs → OptT L (arrays_after es as') (arrays_after ds bs)
  unfolding arrays_after
  arrays_after_tied h nil_t = some_t h
  arrays_after_tied h (cons_t (list_g k) t) = arrays_after_tied (list_on h k) t
  arrays_after_tied h (cons_t (value_g k) t) = none_t

  copied_or_out : {es ds : List Val} → L es ds → {o p : Option (List Val)} → OptT L o p → ResultT (copied_or_breaks es o) (copied_or_breaks ds p)
  unfolding copied_or_breaks
  copied_or_out h none_t = breaks_r
  copied_or_out h (some_t k) = copied_out h k

  pub concat_out : {es ds : List Val} → L es ds → {as' bs : List Arg} → ListT ArgT as' bs → ResultT (concat_use es as') (concat_use ds bs)
  unfolding concat_use
  concat_out h k = copied_or_out h (arrays_after_tied h k)

  -- where `===` tells the same of tied values
  module _ (same : (a b x y : Val) → V a b → V x y → strict_equal a x ≡ strict_equal b y) where
    place_same : (k : ℕ) {v u : Val} → V v u → {xs ys : List Val} → L xs ys → element_place k v xs ≡ element_place k u ys
    unfolding element_place
    place_same k v nil_t = refl
    place_same k {v = v} {u = u} q (cons_t {a = a} {b = b} h t) = rw (same a b v u h q, place_same (suc k) q t) refl

    index_out : {v u : Val} → V v u → {xs ys : List Val} → L xs ys → OutT (position_number (element_place 0 v xs)) (position_number (element_place 0 u ys))
    index_out {v = v} q {xs = xs} h = subst (λ z. OutT (position_number (element_place 0 v xs)) (position_number z)) (place_same 0 q h) (position_out (element_place 0 v xs))

    slice_from : (i : ℤ) {xs ys : List Val} → L xs ys → L (drop (place_from_end (length xs) i) xs) (drop (place_from_end (length ys) i) ys)
    slice_from i {xs = xs} {ys = ys} h = subst (λ z. L (drop (place_from_end (length xs) i) xs) (drop (place_from_end z i) ys)) (tied_length h) (drop_tied (place_from_end (length xs) i) h)

    slice_part : (i j : ℤ) {xs ys : List Val} → L xs ys → L (slice_range xs (place_from_end (length xs) i) (place_from_end (length xs) j)) (slice_range ys (place_from_end (length ys) i) (place_from_end (length ys) j))
    slice_part i j {xs = xs} {ys = ys} h = subst (λ z. L (slice_range xs (place_from_end (length xs) i) (place_from_end (length xs) j)) (slice_range ys (place_from_end z i) (place_from_end z j))) (tied_length h) (take_tied (place_from_end (length xs) j - place_from_end (length xs) i) (drop_tied (place_from_end (length xs) i) h))

    pop_out : {xs ys : List Val} → L xs ys → ResultT (changed (take (length xs - 1) xs) (gives (or_undefined (slice_get xs (length xs - 1))))) (changed (take (length ys - 1) ys) (gives (or_undefined (slice_get ys (length ys - 1)))))
    pop_out {xs = xs} {ys = ys} h = subst (λ z. ResultT (changed (take (length xs - 1) xs) (gives (or_undefined (slice_get xs (length xs - 1))))) (changed (take (z - 1) ys) (gives (or_undefined (slice_get ys (z - 1)))))) (tied_length h) (changed_out (take_tied (length xs - 1) h) (gives_u (undefined_tied (tied_get h (length xs - 1)))))

    pub array_out : (u : ArrayUse) {es ds vs us : List Val} → L es ds → L vs us → ResultT (array_use u es vs) (array_use u ds us)
    unfolding array_use
    array_out array_push h k = changed_out (list_on h k) (length_out (list_on h k))
    array_out array_unshift h k = changed_out (list_on k h) (length_out (list_on k h))
    array_out array_pop h nil_t = pop_out h
    array_out array_shift h nil_t = changed_out (drop_tied 1 h) (gives_u (undefined_tied (tied_get h 0)))
    array_out array_slice h nil_t = copied_out h h
    array_out array_slice h (cons_t (prim_t {p = whole i}) nil_t) = copied_out h (slice_from i h)
    array_out array_slice h (cons_t (prim_t {p = whole i}) (cons_t (prim_t {p = whole j}) nil_t)) = copied_out h (slice_part i j h)
    array_out array_concat h k = concat_out h (value_args_tied k)
    array_out array_join h nil_t = changed_out h (join_out (codes ",") h)
    array_out array_join h (cons_t (prim_t {p = text sep}) nil_t) = changed_out h (join_out sep h)
    array_out array_index_of h (cons_t q nil_t) = changed_out h (index_out q h)
    array_out u h k = breaks_r

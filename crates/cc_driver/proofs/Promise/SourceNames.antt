-- The new names of the globals of a source of the form.
use Rattle.std.proofs.Common.{◌≡◌, ℕ, suc, ◌<◌, List, [], ◌∷◌, ◌++◌, length, map, refl, sym, ap, ◌∙◌, subst, ◌⊎◌, inl, inr, arith, Option, Some, slice_get, unwrap_or, append-nil}
use Rattle.cc_ast.specs.declared.tables.GlobalInfo.{GlobalInfo}
use Rattle.cc_meaning.specs.Alike.{In, here, there}
use Rattle.cc_driver.specs.Names.{built_in_names, IsName}
use Rattle.cc_driver.specs.Form.{declared}
use Rattle.cc_driver.specs.Source.{number_of, program_of, global_names, global_of_no_chunk, global_of_main}
use Rattle.cc_driver.specs.Naming.{IsNaming, other_names}
use Rattle.cc_driver.specs.declared.form.Statement.{Statement}
use Rattle.cc_driver.specs.declared.spelling.Piece.{Piece}
use Rattle.cc_driver.specs.Again.{new_name}
use Rattle.cc_driver.specs.NamingLaw.{IsGiven, IsKept, NamingLaw}
use Rattle.cc_driver.proofs.Promise.Lists.{in_right, in_either, Distinct, distinct_head, distinct_tail}
use Rattle.cc_driver.proofs.Promise.Numbers.{left_at, right_at, number_at, number_within}
use Rattle.cc_driver.proofs.Promise.Naming.{naming_law, item_at}

others_outer : (xs : List (List ℕ)) (gs : List GlobalInfo) → other_names (map global_of_no_chunk xs ++ gs) ≡ xs ++ other_names gs
others_outer [] gs = refl
others_outer (x ∷ xs) gs = ap (λ t. x ∷ t) (others_outer xs gs)

others_inner : (xs : List (List ℕ)) → other_names (map global_of_main xs) ≡ []
others_inner [] = refl
others_inner (x ∷ xs) = others_inner xs

-- the names that a source's own globals may not get
pub others_are : (externs : List (List ℕ)) (size : ℕ) (ss : List Statement) → other_names (program_of externs size ss).globals ≡ externs ++ built_in_names
others_are externs size ss =
    others_outer (externs ++ built_in_names) (map global_of_main (declared ss)) ∙ ap (λ t. (externs ++ built_in_names) ++ t) (others_inner (declared ss)) ∙ append-nil (externs ++ built_in_names)

pub two_parts : (xs ys : List (List ℕ)) → Distinct (xs ++ ys) → (x : List ℕ) → In x xs → In x ys → ⊥
two_parts [] ys d x h k = elim h [ ]
two_parts (x ∷ xs) ys d _ here k = distinct_head x (xs ++ ys) d (in_right xs k)
two_parts (x ∷ xs) ys d y (there h) k = two_parts xs ys (distinct_tail x (xs ++ ys) d) y h k

unwrapped : (o : Option (List ℕ)) (x : List ℕ) → o ≡ Some x → unwrap_or o [] ≡ x
unwrapped o x e = ap (λ p. unwrap_or p []) e

module _ (externs : List (List ℕ)) (size : ℕ) (ss : List Statement) (pieces : List Piece) (names : List (List ℕ)) (distinct : Distinct (global_names externs ss)) (n : IsNaming (program_of externs size ss) pieces names) where
  law : NamingLaw (program_of externs size ss) pieces names
  law = naming_law (program_of externs size ss) pieces names n (λ b h. subst (λ t. In b t) (sym (others_are externs size ss)) (in_right externs h))

  pub named_outer : (x : List ℕ) → In x (externs ++ built_in_names) → IsKept (program_of externs size ss) names (number_of (global_names externs ss) x) x
  named_outer x h =
      let at = left_at global_of_no_chunk (externs ++ built_in_names) (declared ss) (map global_of_main (declared ss)) x h in
      record { info = global_of_no_chunk x; stands = at; outer = refl; named = n.others_keep (number_of (global_names externs ss) x) (global_of_no_chunk x) at refl }

  all_globals : length (program_of externs size ss).globals ≡ length (global_names externs ss)
  all_globals = lengths (externs ++ built_in_names) (declared ss)
    where
      inner : (ys : List (List ℕ)) → length (map global_of_main ys) ≡ length ys
      inner [] = refl
      inner (y ∷ ys) = ap suc (inner ys)

      lengths : (xs ys : List (List ℕ)) → length (map global_of_no_chunk xs ++ map global_of_main ys) ≡ length (xs ++ ys)
      lengths [] ys = inner ys
      lengths (x ∷ xs) ys = ap suc (lengths xs ys)

  pub named_own : (x : List ℕ) → In x (declared ss) → IsGiven (program_of externs size ss) names (number_of (global_names externs ss) x) (new_name (global_names externs ss) names x)
  named_own x h =
      let at = right_at global_of_no_chunk global_of_main (externs ++ built_in_names) (declared ss) x (λ k. two_parts (externs ++ built_in_names) (declared ss) distinct x k h) h in
      let k = number_of (global_names externs ss) x in
      let within : k < length (global_names externs ss) = number_within (global_names externs ss) x (in_right (externs ++ built_in_names) h) in
      let item = item_at names k (omega (arith, within, n.complete, all_globals)) in
      let is : new_name (global_names externs ss) names x ≡ item.0 = unwrapped (slice_get names k) item.0 item.1 in
      record { info = global_of_main x; chunk = 0; stands = at; own = refl; named = item.1 ∙ ap Some (sym is) }

  -- an outer name stays
  pub outer_stays : (x : List ℕ) → In x (externs ++ built_in_names) → new_name (global_names externs ss) names x ≡ x
  outer_stays x h = unwrapped (slice_get names (number_of (global_names externs ss) x)) x (named_outer x h).named

  -- a new name is a name of the form
  pub own_valid : (x : List ℕ) → In x (declared ss) → IsName (new_name (global_names externs ss) names x)
  own_valid x h = law.valid (number_of (global_names externs ss) x) (new_name (global_names externs ss) names x) (named_own x h)

  -- and no outer one
  pub own_new : (x : List ℕ) → In x (declared ss) → In (new_name (global_names externs ss) names x) (externs ++ built_in_names) → ⊥
  own_new x h k =
      law.new (number_of (global_names externs ss) x) (number_of (global_names externs ss) (new_name (global_names externs ss) names x)) (new_name (global_names externs ss) names x)
      (named_own x h) (named_outer (new_name (global_names externs ss) names x) k)

  own_apart : (x y : List ℕ) → In x (declared ss) → In y (declared ss) → new_name (global_names externs ss) names x ≡ new_name (global_names externs ss) names y → x ≡ y
  own_apart x y h k e =
      let G = global_names externs ss in
      let f = new_name G names in
      let second = subst (λ z. IsGiven (program_of externs size ss) names (number_of G y) z) (sym e) (named_own y k) in
      let one : number_of G x ≡ number_of G y = law.apart (number_of G x) (number_of G y) (f x) (named_own x h) second in
      let a : slice_get G (number_of G x) ≡ Some x = number_at G x (in_right (externs ++ built_in_names) h) in
      let b : slice_get G (number_of G y) ≡ Some y = number_at G y (in_right (externs ++ built_in_names) k) in
      let both : Some x ≡ Some y = sym a ∙ ap (slice_get G) one ∙ b in
      cc

  -- different names of globals get different names
  pub names_apart : (x y : List ℕ) → In x (global_names externs ss) → In y (global_names externs ss) → new_name (global_names externs ss) names x ≡ new_name (global_names externs ss) names y → x ≡ y
  names_apart x y h k e = by (in_either (externs ++ built_in_names) (declared ss) h) (in_either (externs ++ built_in_names) (declared ss) k)
    where
      by : In x (externs ++ built_in_names) ⊎ In x (declared ss) → In y (externs ++ built_in_names) ⊎ In y (declared ss) → x ≡ y
      by (inl a) (inl b) = sym (outer_stays x a) ∙ e ∙ outer_stays y b
      by (inl a) (inr b) = absurd (own_new y b (subst (λ z. In z (externs ++ built_in_names)) (sym (outer_stays x a) ∙ e) a))
      by (inr a) (inl b) = absurd (own_new x a (subst (λ z. In z (externs ++ built_in_names)) (sym (outer_stays y b) ∙ sym e) b))
      by (inr a) (inr b) = own_apart x y a b e

-- A table of names grows at its end alone: a number that a name got stays, and new names may be added part by part.
use Rattle.std.proofs.Common.{◌≡◌, refl, sym, ap, ◌∙◌, ℕ, Bool, true, false, cond, List, [], ◌∷◌, ◌++◌, Option, Some, None, append_assoc, append-nil}
use Rattle.cc_meaning.specs.Operators.{list_eq, is_in}
use Rattle.cc_scope.specs.Lists.{Name, index_of, later, new_names}

-- a name that has a number keeps it
pub keeps_number : (n : Name) (ms ns : List Name) (k : ℕ) → index_of n ms ≡ Some k → index_of n (ms ++ ns) ≡ Some k
unfolding index_of later
keeps_number n [] ns k e = absurd (cc)
keeps_number n (m ∷ ms) ns k e = by (list_eq n m) e (index_of n ms) refl (keeps_number n ms ns) where
  by : (b : Bool) → cond b (Some 0) (later (index_of n ms)) ≡ Some k → (o : Option ℕ) → index_of n ms ≡ o → ((j : ℕ) → index_of n ms ≡ Some j → index_of n (ms ++ ns) ≡ Some j) → cond b (Some 0) (later (index_of n (ms ++ ns))) ≡ Some k
  by true d o h f = d
  by false d None h f = absurd (let z : None ≡ Some k = sym (ap later h) ∙ d in cc)
  by false d (Some j) h f = ap later (f j h) ∙ sym (ap later h) ∙ d

-- what two lists bring is what the first brings, and then the second
pub news_append : (ms xs ys : List Name) → new_names ms (xs ++ ys) ≡ new_names ms xs ++ new_names (ms ++ new_names ms xs) ys
unfolding new_names
news_append ms [] ys = ap (λ zs. new_names zs ys) (sym (append-nil ms))
news_append ms (n ∷ xs) ys = by (is_in n ms) (news_append ms xs ys) (news_append (ms ++ n ∷ []) xs ys) where
  by : (b : Bool) → new_names ms (xs ++ ys) ≡ new_names ms xs ++ new_names (ms ++ new_names ms xs) ys → new_names (ms ++ n ∷ []) (xs ++ ys) ≡ new_names (ms ++ n ∷ []) xs ++ new_names ((ms ++ n ∷ []) ++ new_names (ms ++ n ∷ []) xs) ys
      → cond b (new_names ms (xs ++ ys)) (n ∷ new_names (ms ++ n ∷ []) (xs ++ ys)) ≡ cond b (new_names ms xs) (n ∷ new_names (ms ++ n ∷ []) xs) ++ new_names (ms ++ cond b (new_names ms xs) (n ∷ new_names (ms ++ n ∷ []) xs)) ys
  by true e d = e
  by false e d = ap (λ zs. n ∷ zs) (d ∙ ap (λ zs. new_names (ms ++ n ∷ []) xs ++ new_names zs ys) (append_assoc ms (n ∷ []) (new_names (ms ++ n ∷ []) xs)))

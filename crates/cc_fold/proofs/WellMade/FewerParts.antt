-- Lists of parts of which some are dropped, and sites may stand twice.
use Rattle.std.proofs.Common.{◌≡◌, inl, inr, ℕ, List, [], ◌∷◌, ◌++◌, refl, sym, ap, subst}
use Rattle.cc_meaning.specs.Alike.{In, here, there}
use Rattle.cc_meaning.specs.Parts.{Part, has_site, makes}
use Rattle.cc_meaning.specs.WellMade.{functions_in}
use Rattle.cc_tied.proofs.Mixed.KeptSets.{in_left, in_right, in_either}
use Rattle.cc_fold.proofs.Sublists.{Sublist, sub_kept, sub_dropped, sub_same, sub_nothing, sub_before, sub_both, sub_through}

pub functions_both : (xs ys : List Part) → functions_in (xs ++ ys) ≡ functions_in xs ++ functions_in ys
unfolding functions_in
functions_both [] ys = refl
functions_both (makes c f d ∷ xs) ys = ap (λ z. f ∷ z) (functions_both xs ys)
functions_both (_ ∷ xs) ys = functions_both xs ys

-- each part of the first list is one of the second, and functions are made in the same order
pub record Fewer (xs ys : List Part) : Type 0 where
  pub within : (x : Part) → In x xs → In x ys
  pub functions : Sublist (functions_in xs) (functions_in ys)

pub fewer_same : (xs : List Part) → Fewer xs xs
fewer_same xs = record { within = λ x i. i; functions = sub_same (functions_in xs) }

pub fewer_nothing : (ys : List Part) → Fewer [] ys
unfolding functions_in
fewer_nothing ys = record { within = λ x i. elim i [ ]; functions = sub_nothing (functions_in ys) }

pub fewer_twice : {xs ys zs : List Part} → Fewer xs ys → Fewer ys zs → Fewer xs zs
fewer_twice f g = record { within = λ x i. g.within x (f.within x i); functions = sub_through g.functions f.functions }

pub fewer_both : {xs ys us vs : List Part} → Fewer xs us → Fewer ys vs → Fewer (xs ++ ys) (us ++ vs)
fewer_both {xs = xs} {ys = ys} {us = us} {vs = vs} f g = record {
  within = λ x i. elim (in_either xs i) [ inl j ↦ in_left vs (f.within x j) | inr j ↦ in_right us (g.within x j) ];
  functions = subst (λ z. Sublist z (functions_in (us ++ vs))) (sym (functions_both xs ys)) (subst (λ z. Sublist (functions_in xs ++ functions_in ys) z) (sym (functions_both us vs)) (sub_both f.functions g.functions));
}

-- what stands before and after
pub fewer_before : (vs : List Part) {xs us : List Part} → Fewer xs us → Fewer xs (us ++ vs)
fewer_before vs {xs = xs} {us = us} f = record {
  within = λ x i. in_left vs (f.within x i);
  functions = subst (λ z. Sublist (functions_in xs) z) (sym (functions_both us vs)) (sub_before (functions_in vs) f.functions);
}

pub fewer_after : (us : List Part) {xs ys : List Part} → Fewer xs ys → Fewer xs (us ++ ys)
fewer_after us f = fewer_both (fewer_nothing us) f

in_one_more : {x y : Part} {xs ys : List Part} → ((z : Part) → In z xs → In z ys) → In x (y ∷ xs) → In x (y ∷ ys)
in_one_more f here = here
in_one_more f (there i) = there (f _ i)

functions_kept : (x : Part) (xs ys : List Part) → Sublist (functions_in xs) (functions_in ys) → Sublist (functions_in (x ∷ xs)) (functions_in (x ∷ ys))
unfolding functions_in
functions_kept (makes c f d) xs ys s = sub_kept s
functions_kept _ xs ys s = s

functions_dropped : (x : Part) (xs ys : List Part) → Sublist (functions_in xs) (functions_in ys) → Sublist (functions_in xs) (functions_in (x ∷ ys))
unfolding functions_in
functions_dropped (makes c f d) xs ys s = sub_dropped s
functions_dropped _ xs ys s = s

pub fewer_kept : (x : Part) {xs ys : List Part} → Fewer xs ys → Fewer (x ∷ xs) (x ∷ ys)
fewer_kept x {xs = xs} {ys = ys} f = record { within = λ y i. in_one_more f.within i; functions = functions_kept x xs ys f.functions }

pub fewer_dropped : (x : Part) {xs ys : List Part} → Fewer xs ys → Fewer xs (x ∷ ys)
fewer_dropped x {xs = xs} {ys = ys} f = record { within = λ y i. there (f.within y i); functions = functions_dropped x xs ys f.functions }

-- a site that stands twice
pub fewer_again : (i : ℕ) {xs ys : List Part} → Fewer (has_site i ∷ xs) ys → Fewer (has_site i ∷ has_site i ∷ xs) ys
unfolding functions_in
fewer_again i {xs = xs} {ys = ys} f = record { within = λ x j. f.within x (once j); functions = f.functions }
  where
    once : {x : Part} → In x (has_site i ∷ has_site i ∷ xs) → In x (has_site i ∷ xs)
    once here = here
    once (there j) = j

-- Parts of texts, and where they stand.
use Rattle.std.proofs.Common.{◌≡◌, ◌≢◌, ◌∙◌, ℕ, suc, ◌+◌, ◌-◌, ◌<◌, ◌≤◌, nat_eq, Bool, true, false, ◌&&◌, cond, List, [], ◌∷◌, length, take, drop, Option, Some, None, IfSome, refl, sym, ap, arith}
use Rattle.std.proofs.lemmas.Bool.{ne_eqb}
use Rattle.std.proofs.lemmas.List.{at_drop_all, drop-drop, length-drop}
use Rattle.std.proofs.Math.Seq.{take-length}
use Rattle.cc_meaning.specs.Builtins.{begins_with, here, first_of_two, first_place, last_place}
use Rattle.cc_meaning.specs.Operators.{list_eq}

-- ---- beginnings

pub begins-equal : (s t : List ℕ) → length s ≤ length t → list_eq s (take (length s) t) ≡ begins_with s t
unfolding begins_with list_eq
begins-equal [] t h = refl
begins-equal (x ∷ xs) [] h = absurd (omega arith)
begins-equal (x ∷ xs) (y ∷ ys) h = ap (λ (b : Bool). nat_eq x y && b) (begins-equal xs ys (omega arith))

both : (a b : Bool) → false ≡ b → false ≡ (a && b)
both true b e = e
both false b e = refl

pub begins-long : (s t : List ℕ) → length t < length s → false ≡ begins_with s t
unfolding begins_with
begins-long [] t h = absurd (omega arith)
begins-long (x ∷ xs) [] h = refl
begins-long (x ∷ xs) (y ∷ ys) h = both (nat_eq x y) (begins_with xs ys) (begins-long xs ys (omega arith))

-- ---- places

-- whether a part stands at a place, where the rest of the text is told by its length
pub begins-rest : (s t : List ℕ) (i : ℕ) (b : Bool) → b ≡ begins_with s (take (length t - i) (drop i t)) → b ≡ begins_with s (drop i t)
begins-rest s t i b e = e ∙ ap (begins_with s) (ap (λ (n : ℕ). take n (drop i t)) (sym (length-drop i t)) ∙ take-length (drop i t))

-- what stands at a place, or behind it
place : (k : ℕ) (s t : List ℕ) → 0 < length t → first_place k s t ≡ first_of_two (cond (begins_with s t) (Some k) None) (first_place (k + 1) s (drop 1 t))
unfolding first_place here
place k s [] h = absurd (omega arith)
place k s (c ∷ t) h = let e : k + 1 ≡ suc k = omega arith in ap (λ (n : ℕ). first_of_two (cond (begins_with s (c ∷ t)) (Some k) None) (first_place n s t)) (sym e)

last : (k : ℕ) (s t : List ℕ) → 0 < length t → last_place k s t ≡ first_of_two (last_place (k + 1) s (drop 1 t)) (cond (begins_with s t) (Some k) None)
unfolding last_place here
last k s [] h = absurd (omega arith)
last k s (c ∷ t) h = let e : k + 1 ≡ suc k = omega arith in ap (λ (n : ℕ). first_of_two (last_place n s t) (cond (begins_with s (c ∷ t)) (Some k) None)) (sym e)

pub first-here : (s t : List ℕ) (i : ℕ) → i < length t → begins_with s (drop i t) ≡ true → first_place i s (drop i t) ≡ Some i
first-here s t i h b = place i s (drop i t) (omega (arith, length-drop i t)) ∙ ap (λ (d : Bool). first_of_two (cond d (Some i) None) (first_place (i + 1) s (drop 1 (drop i t)))) b

pub first-behind : (s t : List ℕ) (i : ℕ) → i < length t → begins_with s (drop i t) ≡ false → first_place i s (drop i t) ≡ first_place (i + 1) s (drop (i + 1) t)
first-behind s t i h b =
    place i s (drop i t) (omega (arith, length-drop i t)) ∙ ap (λ (d : Bool). first_of_two (cond d (Some i) None) (first_place (i + 1) s (drop 1 (drop i t)))) b
    ∙ ap (first_place (i + 1) s) (drop-drop 1 i t)

pub first-end : (s t : List ℕ) (i : ℕ) → length t ≤ i → first_place i s (drop i t) ≡ cond (begins_with s []) (Some i) None
unfolding first_place here
first-end s t i h = at_drop_all (first_place i s) t i h

joined : (a b c : Option ℕ) → first_of_two (first_of_two a b) c ≡ first_of_two a (first_of_two b c)
joined None b c = refl
joined (Some k) b c = refl

pub none_before : (a : Option ℕ) → first_of_two a None ≡ a
none_before None = refl
none_before (Some k) = refl

-- what was found before counts where nothing is found behind
pub last-step : (s t : List ℕ) (i : ℕ) (found : Option ℕ) → i < length t
    → first_of_two (last_place i s (drop i t)) found ≡ first_of_two (last_place (i + 1) s (drop (i + 1) t)) (first_of_two (cond (begins_with s (drop i t)) (Some i) None) found)
last-step s t i found h =
    ap (λ (o : Option ℕ). first_of_two o found) (last i s (drop i t) (omega (arith, length-drop i t)) ∙ ap (λ (u : List ℕ). first_of_two (last_place (i + 1) s u) (cond (begins_with s (drop i t)) (Some i) None)) (drop-drop 1 i t))
    ∙ joined (last_place (i + 1) s (drop (i + 1) t)) (cond (begins_with s (drop i t)) (Some i) None) found

pub last-end : (s t : List ℕ) (i : ℕ) → length t ≤ i → last_place i s (drop i t) ≡ cond (begins_with s []) (Some i) None
unfolding last_place here
last-end s t i h = at_drop_all (last_place i s) t i h

pub begins-nothing : (s : List ℕ) → nat_eq (length s) 0 ≡ begins_with s []
unfolding begins_with
begins-nothing [] = refl
begins-nothing (x ∷ xs) = let h : suc (length xs) ≢ 0 = omega arith in ne_eqb (suc (length xs)) 0 h

-- ---- places are within the text

either : (m : ℕ) (a b : Option ℕ) → IfSome a (λ p. p ≤ m) → IfSome b (λ p. p ≤ m) → IfSome (first_of_two a b) (λ p. p ≤ m)
either m None b h k = k
either m (Some p) b h k = h

one : (m k : ℕ) (b : Bool) → k ≤ m → IfSome (cond b (Some k) None) (λ p. p ≤ m)
one m k true h = h
one m k false h = tt

pub first-within : (k : ℕ) (s t : List ℕ) (m : ℕ) → k + length t ≤ m → IfSome (first_place k s t) (λ p. p ≤ m)
unfolding first_place here
first-within k s [] m h = one m k (begins_with s []) (omega (arith, h))
first-within k s (c ∷ t) m h = either m (cond (begins_with s (c ∷ t)) (Some k) None) (first_place (suc k) s t) (one m k (begins_with s (c ∷ t)) (omega (arith, h))) (first-within (suc k) s t m (omega (arith, h)))

pub last-within : (k : ℕ) (s t : List ℕ) (m : ℕ) → k + length t ≤ m → IfSome (last_place k s t) (λ p. p ≤ m)
unfolding last_place here
last-within k s [] m h = one m k (begins_with s []) (omega (arith, h))
last-within k s (c ∷ t) m h = either m (last_place (suc k) s t) (cond (begins_with s (c ∷ t)) (Some k) None) (last-within (suc k) s t m (omega (arith, h))) (one m k (begins_with s (c ∷ t)) (omega (arith, h)))

-- What is made last, and then changed.
use Rattle.std.proofs.Common.{◌≡◌, ℕ, suc, List, [], ◌∷◌, ◌++◌, length, slice_get, slice_set, Option, Some, None, refl, ap, ◌∙◌, sym, append_assoc}
use Rattle.cc_meaning.specs.Values.{Val, obj}
use Rattle.cc_meaning.specs.State.{Code, Frame, FrameKind, Obj, bare, kept_kind}
use Rattle.cc_meaning.specs.Names.{name_prototype}
use Rattle.cc_meaning.specs.Store.{changed_at, put_own, put_by, set_slot}
use Rattle.cc_meaning.specs.Acts.{frames_with, function_object}

pub last-got : {A : Type 0} (xs : List A) (x : A) → slice_get (xs ++ x ∷ []) (length xs) ≡ Some x
last-got [] x = refl
last-got (y ∷ ys) x = last-got ys x

pub last-set : {A : Type 0} (xs : List A) (x y : A) → slice_set (xs ++ x ∷ []) (length xs) y ≡ xs ++ y ∷ []
last-set [] x y = refl
last-set (z ∷ zs) x y = ap (λ ws. z ∷ ws) (last-set zs x y)

pub last-changed : (os : List Obj) (o : Obj) (f : Obj → Obj) → changed_at (os ++ o ∷ []) (length os) (slice_get (os ++ o ∷ []) (length os)) f ≡ os ++ f o ∷ []
unfolding changed_at
last-changed os o f = ap (λ (x : Option Obj). changed_at (os ++ o ∷ []) (length os) x f) (last-got os o) ∙ last-set os o (f o)

pub frame-set : (fs : List Frame) (k : FrameKind) (up : Option ℕ) (v : Val) →
    frames_with (fs ++ (record { kind = k; up = up; values = None ∷ [] }) ∷ []) (length fs) 0 v (slice_get (fs ++ (record { kind = k; up = up; values = None ∷ [] }) ∷ []) (length fs)) ≡ fs ++ (record { kind = k; up = up; values = Some v ∷ [] }) ∷ []
unfolding frames_with
frame-set fs k up v =
    ap (λ (x : Option Frame). frames_with (fs ++ (record { kind = k; up = up; values = None ∷ [] }) ∷ []) (length fs) 0 v x) (last-got fs (record { kind = k; up = up; values = None ∷ [] }))
    ∙ last-set fs (record { kind = k; up = up; values = None ∷ [] }) (record { kind = k; up = up; values = Some v ∷ [] })

with_prototype : (c : Code) (p : ℕ) → put_own name_prototype kept_kind (obj p) (record bare { code = Some c }) ≡ function_object c p
unfolding put_own put_by set_slot function_object
with_prototype c p = refl

one-longer : {A : Type 0} (xs : List A) (x : A) → length (xs ++ x ∷ []) ≡ suc (length xs)
one-longer [] x = refl
one-longer (y ∷ ys) x = ap (λ n. suc n) (one-longer ys x)

pub function-made : (os : List Obj) (c : Code) (n : ℕ) → n ≡ length (os ++ bare ∷ []) →
    changed_at ((os ++ bare ∷ []) ++ (record bare { code = Some c }) ∷ []) n (slice_get ((os ++ bare ∷ []) ++ (record bare { code = Some c }) ∷ []) n) (put_own name_prototype kept_kind (obj (length os)))
    ≡ os ++ bare ∷ function_object c (length os) ∷ []
function-made os c n e =
    ap (λ (k : ℕ). changed_at ((os ++ bare ∷ []) ++ (record bare { code = Some c }) ∷ []) k (slice_get ((os ++ bare ∷ []) ++ (record bare { code = Some c }) ∷ []) k) (put_own name_prototype kept_kind (obj (length os)))) e
    ∙ last-changed (os ++ bare ∷ []) (record bare { code = Some c }) (put_own name_prototype kept_kind (obj (length os)))
    ∙ append_assoc os (bare ∷ []) (put_own name_prototype kept_kind (obj (length os)) (record bare { code = Some c }) ∷ [])
    ∙ ap (λ (o : Obj). os ++ bare ∷ o ∷ []) (with_prototype c (length os))

pub function-number : (os : List Obj) (n : ℕ) → n ≡ length (os ++ bare ∷ []) → suc (length os) ≡ n
function-number os n e = sym (e ∙ one-longer os bare)

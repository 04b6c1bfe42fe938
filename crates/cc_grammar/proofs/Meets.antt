-- What an outcome meets, by its two cases.
use Rattle.std.specs.Prelude.{◌≡◌, Bool, true, false, Ok, Err, cond}
use Rattle.std.proofs.Common.{refl}
use Rattle.cc_grammar.specs.Reading.{Outcome, and_then, Fault}

-- If it reads, then this holds of the value and of what is left.
pub data Done {S A : Type 0} (P : A → S → Type 0) : Outcome S A → Type 0 where
  ok : {a : A} {i : S} → P a i → Done P (Ok (a, i))
  err : {x : Fault × S} → Done P (Err x)

pub after : {S A B : Type 0} {P : A → S → Type 0} {Q : B → S → Type 0} {r : Outcome S A} {f : A → S → Outcome S B}
    → Done P r → ((a : A) (i : S) → P a i → Done Q (f a i)) → Done Q (and_then r f)
after (ok {a} {i} h) k = k a i h
after err k = err

-- a choice by a test
pub branch : {S A : Type 0} {P : A → S → Type 0} (b : Bool) {x y : Outcome S A} → (b ≡ true → Done P x) → (b ≡ false → Done P y) → Done P (cond b x y)
branch true h k = h refl
branch false h k = k refl

-- the same of a choice between two readers
pub fork : {S A : Type 0} {P : A → S → Type 0} (b : Bool) (x y : S → Outcome S A) {i : S} → (b ≡ true → Done P (x i)) → (b ≡ false → Done P (y i)) → Done P (cond b x y i)
fork true x y h k = h refl
fork false x y h k = k refl

pub weaken : {S A : Type 0} {P Q : A → S → Type 0} {r : Outcome S A} → Done P r → ((a : A) (i : S) → P a i → Q a i) → Done Q r
weaken (ok {a} {i} h) k = ok (k a i h)
weaken err k = err

-- whatever it reads
pub any_done : {S A : Type 0} (o : Outcome S A) → Done (λ _ _. Unit {0}) o
any_done (Ok p) = ok tt
any_done (Err x) = err

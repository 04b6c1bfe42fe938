-- Readers one behind the other, and what is made of their answers.
use Rattle.std.proofs.Common.{◌≡◌, refl, Option, Some, Ok, Err}
use Rattle.cc_grammar.specs.Reading.{Outcome, and_then}
use Rattle.cc_cursor.specs.Reads.{Tokens}

pub assoc : {A B C : Type 0} (o : Outcome Tokens A) (k : A → Tokens → Outcome Tokens B) (h : B → Tokens → Outcome Tokens C)
    → and_then (and_then o k) h ≡ and_then o (λ a ts. and_then (k a ts) h)
assoc (Ok p) k h = refl
assoc (Err x) k h = refl

pub under : {A B : Type 0} (o : Outcome Tokens A) (k l : A → Tokens → Outcome Tokens B) → ((a : A) (ts : Tokens) → k a ts ≡ l a ts)
    → and_then o k ≡ and_then o l
under (Ok p) k l e = e p.0 p.1
under (Err x) k l e = refl

pub some_same : {A B : Type 0} (o : Outcome Tokens A) (k : Option A → Tokens → Outcome Tokens B)
    → and_then o (λ a ts. k (Some a) ts) ≡ and_then (and_then o (λ a ts. Ok (Some a, ts))) k
some_same (Ok p) k = refl
some_same (Err x) k = refl

pub last_same : {B C D : Type 0} (o : Outcome Tokens B) (make : B → C) (k : C → Tokens → Outcome Tokens D)
    → and_then o (λ b ws. k (make b) ws) ≡ and_then (and_then o (λ b ws. Ok (make b, ws))) k
last_same (Ok p) make k = refl
last_same (Err x) make k = refl

pub two_same : {A B C D : Type 0} (o : Outcome Tokens A) (l : Tokens → Outcome Tokens B) (make : B → C) (k : C → Tokens → Outcome Tokens D)
    → and_then o (λ _ vs. and_then (l vs) (λ b ws. k (make b) ws)) ≡ and_then (and_then o (λ _ vs. and_then (l vs) (λ b ws. Ok (make b, ws)))) k
two_same (Ok p) l make k = last_same (l p.1) make k
two_same (Err x) l make k = refl

pub three_same : {X A B C D : Type 0} (o : Outcome Tokens X) (p : Tokens → Outcome Tokens A) (l : Tokens → Outcome Tokens B) (make : X → B → C) (k : C → Tokens → Outcome Tokens D)
    → and_then o (λ x us. and_then (p us) (λ _ vs. and_then (l vs) (λ b ws. k (make x b) ws)))
    ≡ and_then (and_then o (λ x us. and_then (p us) (λ _ vs. and_then (l vs) (λ b ws. Ok (make x b, ws))))) k
three_same (Ok q) p l make k = two_same (p q.1) l (make q.0) k
three_same (Err x) p l make k = refl

pub closed_same : {X A D : Type 0} (o : Outcome Tokens X) (p : Tokens → Outcome Tokens A) (k : X → Tokens → Outcome Tokens D)
    → and_then o (λ x us. and_then (p us) (λ _ vs. k x vs)) ≡ and_then (and_then o (λ x us. and_then (p us) (λ _ vs. Ok (x, vs)))) k
closed_same (Ok q) p k = last_same (p q.1) (λ _. q.0) k
closed_same (Err x) p k = refl

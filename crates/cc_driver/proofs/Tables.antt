-- The keys of a table of names, as names.
use Rattle.std.proofs.Common.{◌≡◌, ℕ, ◌+◌, ◌≤◌, Bool, true, false, not, cond, ◌||◌, nat_eq, List, [], ◌∷◌, ◌++◌, length, map, None, Some, refl, ap, ◌∙◌, arith, if◌then◌else◌, ltb-false, Bor}
use Rattle.std.specs.List.{list_any, position, position_or_len, prefix_len}
use Rattle.std.specs.Cmp.Lexicographic.{pointwise}
use Rattle.std.proofs.lemmas.List.{map-append, length-map}
use Rattle.std.proofs.lemmas.List.Sums.{prefix_len-le-length}
use Rattle.cc_driver.specs.Names.{is_in}
use Rattle.cc_driver.specs.Source.{number_of}

abbrev pub shown : List (Bor (List ℕ)) → List (List ℕ)
shown keys = map (λ k. k.now) keys

pub table_has : (name : List ℕ) (keys : List (Bor (List ℕ))) → list_any (λ k. pointwise nat_eq name k.now) keys ≡ is_in name (shown keys)
table_has name [] = refl
table_has name (k ∷ ks) = ap (λ b. pointwise nat_eq name k.now || b) (table_has name ks)

pub table_place : (name : List ℕ) (keys : List (Bor (List ℕ))) → position_or_len (λ k. pointwise nat_eq name k.now) keys ≡ number_of (shown keys) name
table_place name [] = refl
table_place name (k ∷ ks) = ap (λ n. cond (not (pointwise nat_eq name k.now)) (1 + n) 0) (table_place name ks)

pub table_enters : (key : Bor (List ℕ)) (keys : List (Bor (List ℕ))) → shown (if list_any (λ k. pointwise nat_eq key.now k.now) keys then keys else keys ++ key ∷ [])
    ≡ cond (is_in key.now (shown keys)) (shown keys) (shown keys ++ key.now ∷ [])
table_enters key keys = by (list_any (λ k. pointwise nat_eq key.now k.now) keys) (is_in key.now (shown keys)) (table_has key.now keys)
  where
    by : (b c : Bool) → b ≡ c → shown (if b then keys else keys ++ key ∷ []) ≡ cond c (shown keys) (shown keys ++ key.now ∷ [])
    by true true e = refl
    by false false e = map-append (λ k. k.now) keys (key ∷ [])
    by true false e = cc
    by false true e = cc

some_at : (b : Bool) (n i : ℕ) → Some i ≡ cond b (Some n) None → i ≡ n
some_at true n i e = cc
some_at false n i e = cc

none_at : (b : Bool) (n : ℕ) → None ≡ cond b (Some n) None → b ≡ false
none_at true n e = cc
none_at false n e = refl

pub found_at : (name : List ℕ) (keys : List (Bor (List ℕ))) (i : ℕ) → Some i ≡ position (λ k. pointwise nat_eq name k.now) keys → i ≡ number_of (shown keys) name
found_at name keys i e = some_at _ _ i e ∙ table_place name keys

pub found_nowhere : (name : List ℕ) (keys : List (Bor (List ℕ))) → None ≡ position (λ k. pointwise nat_eq name k.now) keys → length keys ≡ number_of (shown keys) name
found_nowhere name keys e =
    let p = λ (k : Bor (List ℕ)). not (pointwise nat_eq name k.now) in
    let most : prefix_len p keys ≤ length keys = prefix_len-le-length p keys in
    let past : length keys ≤ prefix_len p keys = ltb-false _ _ (none_at _ _ e) in
    let same : length keys ≡ prefix_len p keys = omega arith in
    same ∙ table_place name keys

pub shown_length : (keys : List (Bor (List ℕ))) → length (shown keys) ≡ length keys
shown_length keys = length-map keys (λ k. k.now)

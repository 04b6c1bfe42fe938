-- The step and the end of a walk along a list, for what is defined by the rest of the list.
use Rattle.std.proofs.Common.{◌≡◌, ◌∙◌, ℕ, ◌+◌, ◌<◌, ◌≤◌, List, [], ◌∷◌, length, get_or, drop, Some, None, slice_get, ap, sym, inl, inr, arith}
use Rattle.std.proofs.lemmas.Bool.{cases_lt}
use Rattle.std.proofs.lemmas.List.{at_drop_more, at_drop_all}
use Rattle.std.proofs.lemmas.Option.{slice_get_within, get_or_from_slice_get, slice_get-get_or, none-some}

pub step : {X Y : Type 0} (F : List X → Y) (xs : List X) (i : ℕ) (x : X) → i < length xs → x ≡ get_or xs i x → F (drop i xs) ≡ F (x ∷ drop (i + 1) xs)
step F xs i x h e = at_drop_more F xs i x h ∙ ap (λ y. F (y ∷ drop (i + 1) xs)) (sym e)

pub end : {X Y : Type 0} (F : List X → Y) (xs : List X) (i : ℕ) → length xs ≤ i → F (drop i xs) ≡ F []
end F xs i h = at_drop_all F xs i h

-- the same for what is got by its place
pub step_got : {X Y : Type 0} (F : List X → Y) (xs : List X) (i : ℕ) (x : X) → Some x ≡ slice_get xs i → F (drop i xs) ≡ F (x ∷ drop (i + 1) xs)
step_got F xs i x e = step F xs i x (slice_get_within xs i x (sym e)) (sym (get_or_from_slice_get xs i x x (sym e)))

pub end_got : {X Y : Type 0} (F : List X → Y) (xs : List X) (i : ℕ) → None ≡ slice_get xs i → F (drop i xs) ≡ F []
end_got F [] i e = end F [] i (omega arith)
end_got F (x ∷ xs) i e =
    elim (cases_lt i (length (x ∷ xs))) [
      | inl h ↦ absurd (none-some (get_or (x ∷ xs) i x) (e ∙ slice_get-get_or (x ∷ xs) i x h))
      | inr h ↦ end F (x ∷ xs) i h
    ]

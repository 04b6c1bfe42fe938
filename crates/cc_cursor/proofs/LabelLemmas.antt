-- Labels, as the code holds them.
use Rattle.std.proofs.Common.{◌≡◌, refl, ap, ℕ, List, [], ◌∷◌, ◌++◌}
use denote.Ref.{Bor}
use Rattle.cc_cursor.specs.Shown as shown

pub labels_shown : (ls ms : List (Bor (List ℕ))) → shown.labels (ls ++ ms) ≡ shown.labels ls ++ shown.labels ms
labels_shown [] ms = refl
labels_shown (l ∷ ls) ms = ap (λ xs. l.now ∷ xs) (labels_shown ls ms)

-- Runs of characters, and the texts that they end in.
use Rattle.std.specs.Prelude.{◌≡◌, ℕ, ◌-◌, ◌≤◌, List, [], ◌∷◌, ◌++◌, Bool, true, false, if◌then◌else◌, length, take, drop}
use Rattle.std.specs.Str.{chars, IsUtf8, IsCharBoundary}
use Rattle.std.proofs.Common.{refl, sym, ◌∙◌, ap, subst, arith, length-append}
use Rattle.std.proofs.lemmas.List.{take-append-drop}
use Rattle.std.proofs.lemmas.Str.{IsCharBoundary-at_seam, chars-append, IsUtf8-take}
use Rattle.cc_text.specs.Ends.{Ends}
use Rattle.cc_text.proofs.EscapeLemmas.{bytes_end, at_end, shorter, seam}
use Rattle.cc_lexer.specs.Characters.{run, behind}

run_more : (b : Bool) (c : ℕ) (cs ws ds : List ℕ) → cs ≡ ws ++ ds → c ∷ cs ≡ (if b then c ∷ ws else []) ++ (if b then ds else c ∷ cs)
run_more true c cs ws ds e = ap (λ x. c ∷ x) e
run_more false c cs ws ds e = refl

pub run_behind : (p : ℕ → Bool) (cs : List ℕ) → cs ≡ run p cs ++ behind p cs
run_behind p [] = refl
run_behind p (c ∷ cs) = run_more (p c) c cs _ _ (run_behind p cs)

pub behind_ends : (p : ℕ → Bool) (cs : List ℕ) → Ends cs (behind p cs)
behind_ends p cs = (run p cs, run_behind p cs)

longer_list : (c : ℕ) (ws zs : List ℕ) → zs ≡ c ∷ (ws ++ zs) → ⊥
longer_list c ws zs e = let k = ap length e in let h = length-append ws zs in omega arith

-- two fronts of the same rest are one
pub same_front : (ws vs zs : List ℕ) → ws ++ zs ≡ vs ++ zs → ws ≡ vs
same_front [] [] zs e = refl
same_front [] (v ∷ vs) zs e = absurd (longer_list v vs zs e)
same_front (w ∷ ws) [] zs e = absurd (longer_list w ws zs (sym e))
same_front (w ∷ ws) (v ∷ vs) zs e = let h : w ≡ v = cc in let k : ws ++ zs ≡ vs ++ zs = cc in let t = same_front ws vs zs k in cc

-- where the text is cut before an end of it
pub record Cut (bs ds : List ℕ) : Type 0 where
  pub within : length ds ≤ length bs
  pub boundary : IsCharBoundary bs (length bs - length ds)
  pub parts : chars bs ≡ chars (take (length bs - length ds) bs) ++ chars ds

pub cut : (bs ds : List ℕ) → IsUtf8 bs → IsUtf8 ds → Ends (chars bs) (chars ds) → Cut bs ds
cut bs ds u v e =
    let all = bytes_end bs ds u v e in
    let at : IsCharBoundary bs (length bs - length ds) = subst (IsCharBoundary bs) (sym (seam bs all.0 ds all.1)) (IsCharBoundary-at_seam bs all.0 ds all.1 v) in
    let n = length bs - length ds in
    record {
      within = shorter bs ds all;
      boundary = at;
      parts = ap chars (sym (take-append-drop n bs)) ∙ chars-append (take n bs) (drop n bs) (IsUtf8-take bs n u at) ∙ ap (λ x. chars (take n bs) ++ chars x) (at_end bs ds all);
    }

pub name_is : (p : ℕ → Bool) (cs ws : List ℕ) (rest : List ℕ) → cs ≡ ws ++ rest → rest ≡ behind p cs → ws ≡ run p cs
name_is p cs ws rest e h = same_front ws (run p cs) rest (sym e ∙ run_behind p cs ∙ ap (λ x. run p cs ++ x) (sym h))

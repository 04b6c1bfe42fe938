-- A comment and what is behind it.
use Rattle.std.specs.Prelude.{◌≡◌, ℕ, List, [], ◌∷◌, ◌++◌, Bool, true, false, if◌then◌else◌, Some, drop}
use Rattle.std.proofs.Common.{refl, sym, ◌∙◌, ap, arith}
use Rattle.std.proofs.lemmas.Bool.Decides.{nat_tests}
use Rattle.cc_text.specs.Utf16.{utf16}
use Rattle.cc_lexer.specs.Comments.{closes, inside, behind_comment, comment, is_annotation, has_line_end}
use Rattle.cc_lexer.specs.Items.{block, annotation, blank}

closed_by : (c : ℕ) (cs : List ℕ) → closes c cs ≡ true → c ∷ cs ≡ 42 ∷ 47 ∷ drop 1 cs
closed_by c [] e = grind (arith, nat_tests)
closed_by c (d ∷ ds) e = let h : c ≡ 42 = grind (arith, nat_tests) in let k : d ≡ 47 = grind (arith, nat_tests) in cc

inside_more : (b : Bool) (c : ℕ) (cs rest : List ℕ) → closes c cs ≡ b → (behind_comment cs ≡ Some rest → cs ≡ (inside cs ++ 42 ∷ 47 ∷ []) ++ rest)
    → (if b then Some (drop 1 cs) else behind_comment cs) ≡ Some rest → c ∷ cs ≡ ((if b then [] else c ∷ inside cs) ++ 42 ∷ 47 ∷ []) ++ rest
inside_more true c cs rest h k e = let d : drop 1 cs ≡ rest = cc in closed_by c cs h ∙ ap (λ x. 42 ∷ 47 ∷ x) d
inside_more false c cs rest h k e = ap (λ x. c ∷ x) (k e)

pub inside_is : (cs rest : List ℕ) → behind_comment cs ≡ Some rest → cs ≡ (inside cs ++ 42 ∷ 47 ∷ []) ++ rest
inside_is [] rest e = cc
inside_is (c ∷ cs) rest e = inside_more (closes c cs) c cs rest refl (inside_is cs rest) e

-- the text is the comment and what is behind it
pub comment_is : (cs rest : List ℕ) → behind_comment cs ≡ Some rest → 47 ∷ 42 ∷ cs ≡ comment cs ++ rest
comment_is cs rest e = ap (λ x. 47 ∷ 42 ∷ x) (inside_is cs rest e)

pub block_annotation : (cs rest us : List ℕ) (line : Bool) → behind_comment cs ≡ Some rest → is_annotation cs ≡ true → us ≡ utf16 (comment cs) → line ≡ has_line_end (comment cs)
    → block cs (behind_comment cs) ≡ annotation us line rest
block_annotation cs rest us line e h k l = rw e (rw h (sym (ap (λ x. annotation x line rest) k ∙ ap (λ x. annotation (utf16 (comment cs)) x rest) l)))

pub block_blank : (cs rest : List ℕ) (line : Bool) → behind_comment cs ≡ Some rest → is_annotation cs ≡ false → line ≡ has_line_end (comment cs)
    → block cs (behind_comment cs) ≡ blank line rest
block_blank cs rest line e h l = rw e (rw h (sym (ap (λ x. blank x rest) l)))

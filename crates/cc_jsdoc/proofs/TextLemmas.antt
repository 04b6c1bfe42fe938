-- The lines of a text, one after the other.
use Rattle.std.specs.Prelude.{◌≡◌, ℕ, suc, List, [], ◌∷◌, ◌++◌, Bool, true, false, not, if◌then◌else◌, Option, Some, None, MatchOption, encode_utf8, encode_utf8_all, length}
use Rattle.std.specs.Borrow.{Bor}
use Rattle.std.specs.List.{flat_map}
use Rattle.std.specs.Str.{chars, IsUtf8}
use Rattle.std.proofs.Common.{refl, sym, ◌∙◌, ap, append_assoc}
use Rattle.std.proofs.Math.Utf8.{encode}
use Rattle.std.proofs.lemmas.Str.{chars-append, encodes-chars, encodes_same}
use Rattle.cc_text.specs.Characters.{is_line_end}
use Rattle.cc_lexer.specs.Characters.{run, behind}
use Rattle.cc_jsdoc.specs.Texts.{onto_first, lines, without_head, joined}

abbrev inline : ℕ → Bool
inline c = not (is_line_end c)

last_step : (b : Bool) (c : ℕ) (cs : List ℕ) → (behind inline cs ≡ [] → lines cs ≡ run inline cs ∷ []) → (if not b then behind inline cs else c ∷ cs) ≡ []
    → (if b then [] ∷ lines cs else onto_first c (lines cs)) ≡ (if not b then c ∷ run inline cs else []) ∷ []
last_step true c cs h e = cc
last_step false c cs h e = ap (onto_first c) (h e)

-- a line that no line end follows
pub lines-last : (cs : List ℕ) → behind inline cs ≡ [] → lines cs ≡ run inline cs ∷ []
lines-last [] e = refl
lines-last (c ∷ cs) e = last_step (is_line_end c) c cs (lines-last cs) e

more_step : (b : Bool) (c : ℕ) (cs : List ℕ) (d : ℕ) (rest : List ℕ) → (behind inline cs ≡ d ∷ rest → lines cs ≡ run inline cs ∷ lines rest) → (if not b then behind inline cs else c ∷ cs) ≡ d ∷ rest
    → (if b then [] ∷ lines cs else onto_first c (lines cs)) ≡ (if not b then c ∷ run inline cs else []) ∷ lines rest
more_step true c cs d rest h e = let same : cs ≡ rest = cc in ap (λ l. [] ∷ lines l) same
more_step false c cs d rest h e = ap (onto_first c) (h e)

-- a line, and the lines behind its end
pub lines-more : (cs : List ℕ) (d : ℕ) (rest : List ℕ) → behind inline cs ≡ d ∷ rest → lines cs ≡ run inline cs ∷ lines rest
lines-more [] d rest e = cc
lines-more (c ∷ cs) d rest e = more_step (is_line_end c) c cs d rest (lines-more cs d rest) e

-- ---- what is said

-- what later lines say
abbrev pub of_later : List (List ℕ) → List ℕ
of_later ls = flat_map (λ line. 10 ∷ without_head line) ls

-- what the lines say that are left, if there are any
abbrev pub left : Option (Bor (List ℕ)) → List ℕ
left None = []
left (Some rest) = of_later (lines (chars rest.now))

-- how many bytes are left, with one for the line end
abbrev pub left_len : Option (Bor (List ℕ)) → ℕ
left_len None = 0
left_len (Some rest) = suc (length rest.now)

pub said-first : (ls : List (List ℕ)) (first said tail : List ℕ) (later : List (List ℕ)) → ls ≡ first ∷ later → said ≡ first → tail ≡ of_later later → said ++ tail ≡ joined ls
said-first ls first said tail later e h k = ap (λ x. x ++ tail) h ∙ ap (λ x. first ++ x) k ∙ ap joined (sym e)

pub said-more : (ls : List (List ℕ)) (line said tail all new : List ℕ) (later : List (List ℕ)) → ls ≡ line ∷ later → said ++ of_later ls ≡ all → new ≡ (said ++ 10 ∷ []) ++ without_head line → tail ≡ of_later later → new ++ tail ≡ all
said-more ls line said tail all new later e h k t =
    ap (λ x. x ++ tail) k ∙ ap (λ x. ((said ++ 10 ∷ []) ++ without_head line) ++ x) t
    ∙ append_assoc (said ++ 10 ∷ []) (without_head line) (of_later later) ∙ append_assoc said (10 ∷ []) (without_head line ++ of_later later)
    ∙ ap (λ x. said ++ of_later x) (sym e) ∙ h

-- the first line of a text, and the later ones
pub record IsSplit (text line : List ℕ) (rest : Option (Bor (List ℕ))) : Type 0 where
  pub later : List (List ℕ)
  pub lines_are : lines text ≡ line ∷ later
  pub left_is : left rest ≡ of_later later

pub split_is : (text line : List ℕ) (rest : Option (Bor (List ℕ))) → MatchOption rest (lines text ≡ line ∷ []) (λ r. lines text ≡ line ∷ lines (chars r.now)) → IsSplit text line rest
split_is text line None h = record { later = []; lines_are = h; left_is = refl }
split_is text line (Some r) h = record { later = lines (chars r.now); lines_are = h; left_is = refl }

pub chars-line : (said ended new head : List ℕ) → IsUtf8 said → IsUtf8 ended → ended ≡ said ++ encode_utf8 10 → new ≡ ended ++ head → chars new ≡ (chars said ++ 10 ∷ []) ++ chars head
unfolding chars encode
chars-line said ended new head u v e h = ap chars h ∙ chars-append ended head v ∙ ap (λ x. x ++ chars head) (ap chars e ∙ chars-append said (encode_utf8 10) u)

-- the characters that a text encodes
pub chars-of : (text cs : List ℕ) → IsUtf8 text → text ≡ encode_utf8_all cs → chars text ≡ cs
chars-of text cs u e = encodes_same (chars text) cs (encodes-chars text u ∙ e)

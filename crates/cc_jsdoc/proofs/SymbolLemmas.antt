-- The next symbol of a text.
use Rattle.std.specs.Prelude.{◌≡◌, ℕ, ◌≤◌, List, [], ◌∷◌, Bool, true, false, if◌then◌else◌, Option, Some, None, length}
use Rattle.std.specs.Str.{chars, IsUtf8}
use Rattle.std.proofs.Common.{sym, ◌∙◌, ap, subst}
use Rattle.cc_text.specs.Ends.{Ends}
use Rattle.cc_lexer.specs.Characters.{is_start, is_part, run, behind}
use Rattle.cc_lexer.proofs.ItemLemmas.{start_part}
use Rattle.cc_lexer.proofs.PlaceLemmas.{shorter_end}
use Rattle.cc_lexer.proofs.Runs.{behind_ends}
use Rattle.cc_jsdoc.specs.Classes.{is_blank}
use Rattle.cc_jsdoc.specs.Symbols.{Symbol, word, mark, symbol, first_symbol, Word, Mark}

module _ (text begin : List ℕ) (at : begin ≡ behind is_blank text) where
  first : (o : Option (Symbol × List ℕ)) → first_symbol begin ≡ o → symbol text ≡ o
  unfolding symbol
  first o e = ap first_symbol (sym at) ∙ e

  pub symbol-end : begin ≡ [] → symbol text ≡ None
  symbol-end e = first None (ap first_symbol e)

  module _ (c : ℕ) (cs : List ℕ) (is : begin ≡ c ∷ cs) where
    choice : (b : Bool) → is_start c ≡ b → first_symbol begin ≡ (if b then Some (word (run is_part (c ∷ cs)), behind is_part (c ∷ cs)) else Some (mark c, cs))
    choice b e = ap first_symbol is ∙ ap (λ x. if x then Some (word (run is_part (c ∷ cs)), behind is_part (c ∷ cs)) else Some (mark c, cs)) e

    pub symbol-word : (w rest : List ℕ) → is_start c ≡ true → w ≡ run is_part begin → rest ≡ behind is_part begin → symbol text ≡ Some (word w, rest)
    symbol-word w rest e h k = first (Some (word w, rest)) (choice true e
        ∙ ap (λ x. Some (word (run is_part x), behind is_part x)) (sym is) ∙ ap (λ x. Some (word x, behind is_part begin)) (sym h) ∙ ap (λ x. Some (word w, x)) (sym k))

    pub symbol-mark : (rest : List ℕ) → is_start c ≡ false → rest ≡ cs → symbol text ≡ Some (mark c, rest)
    symbol-mark rest e h = first (Some (mark c, rest)) (choice false e ∙ ap (λ x. Some (mark c, x)) (sym h))

-- behind a word the text is shorter by its first character at least
word_ends : (c : ℕ) (cs : List ℕ) → is_start c ≡ true → Ends cs (behind is_part (c ∷ cs))
word_ends c cs e = subst (λ b. Ends cs (if b then behind is_part cs else c ∷ cs)) (sym (start_part c e)) (behind_ends is_part cs)

pub behind_word : (begin behind_first rest : List ℕ) (c : ℕ) → IsUtf8 behind_first → IsUtf8 rest → chars begin ≡ c ∷ chars behind_first → is_start c ≡ true → chars rest ≡ behind is_part (chars begin) → length rest ≤ length behind_first
behind_word begin behind_first rest c u v e h k =
    shorter_end behind_first rest u v (subst (Ends (chars behind_first)) (sym (k ∙ ap (behind is_part) e)) (word_ends c (chars behind_first) h))

-- ---- a text has one next symbol

symbol_in : Option (Symbol × List ℕ) → Symbol
symbol_in None = mark 0
symbol_in (Some (s, rest)) = s

rest_in : Option (Symbol × List ℕ) → List ℕ
rest_in None = []
rest_in (Some (s, rest)) = rest

word_in : Symbol → List ℕ
word_in (word w) = w
word_in (mark c) = []

mark_in : Symbol → ℕ
mark_in (word w) = 0
mark_in (mark c) = c

module _ (text : List ℕ) where
  pub symbol_once : (s t : Symbol) (r q : List ℕ) → symbol text ≡ Some (s, r) → symbol text ≡ Some (t, q) → (s ≡ t) × (r ≡ q)
  unfolding symbol_in rest_in
  symbol_once s t r q e h = (ap symbol_in (sym e ∙ h), ap rest_in (sym e ∙ h))

  pub word_once : (v w r q : List ℕ) → Word v text r → Word w text q → (v ≡ w) × (r ≡ q)
  unfolding word_in
  word_once v w r q e h = let k = symbol_once (word v) (word w) r q e h in (ap word_in k.0, k.1)

  pub mark_once : (c d : ℕ) (r q : List ℕ) → Mark c text r → Mark d text q → (c ≡ d) × (r ≡ q)
  unfolding mark_in
  mark_once c d r q e h = let k = symbol_once (mark c) (mark d) r q e h in (ap mark_in k.0, k.1)

  pub no_mark : {A : Type 0} (w r : List ℕ) (c : ℕ) (q : List ℕ) → Word w text r → Mark c text q → A
  no_mark w r c q e h = let k = (symbol_once (word w) (mark c) r q e h).0 in cc

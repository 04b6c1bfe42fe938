-- Symbols, and what is known of the next.
use Rattle.std.specs.Prelude.{◌≡◌, ℕ, Bool, true, false, List, [], ◌∷◌, Option, Some, None}
use Rattle.std.proofs.Common.{refl, sym, ◌∙◌, ap}
use Rattle.cc_lexer.specs.declared.token.Mark.{Mark}
use Rattle.cc_lexer.specs.declared.token.Mark.TheVariants as mark
use Rattle.cc_lexer.specs.declared.word.Word.{Word}
use Rattle.cc_grammar.specs.Symbols.{Kind, Lexeme, Symbols, real, inserted, look, rest, is_mark, is_word}
use Rattle.cc_grammar.specs.Symbols as k
use Rattle.cc_grammar.specs.Grammar.{At, at_token, Sign, Reserved, Ends, written, added, Variable, variable, any_variable}
use Rattle.cc_grammar.specs.Reading.{Outcome, Fault, semicolon_symbol, variable_of, variable_by}
use Rattle.cc_grammar.specs.Reading as r
use Rattle.cc_grammar.proofs.Meets.{Done, ok, err, branch}
use Rattle.cc_grammar.proofs.Views.{mark_true, word_true, end_true, IsVariable, name, any, variable_is}

-- the reading function on symbols, and what stands inside
abbrev pub In : Type 0
In = r.Inner Symbols look rest semicolon_symbol

-- what only a token is
abbrev pub solid : Kind → Bool
solid (k.stop c) = false
solid (k.due k.ending) = false
solid _ = true

not_solid : (x y : Kind) → solid x ≡ true → y ≡ x → solid y ≡ false → ⊥
not_solid x y s e f = let no : true ≡ false = sym s ∙ ap solid (sym e) ∙ f in (cc)

pub consumed : (xs : Symbols) (x : Kind) → solid x ≡ true → (look xs).kind ≡ x → At x xs (rest xs)
consumed [] x s e = absurd (not_solid x _ s e refl)
consumed (real t ∷ ys) x s e = at_token t e
consumed (inserted ∷ ys) x s e = absurd (not_solid x _ s e refl)

-- a token of which a table tells something
pub found : {A : Type 0} (f : Kind → Option A) (xs : Symbols) (a : A) → f (k.stop None) ≡ None → f (k.due k.ending) ≡ None → f (look xs).kind ≡ Some a → At (look xs).kind xs (rest xs)
found f [] a n i e = let no : None ≡ Some a = sym n ∙ e in (cc)
found f (real t ∷ ys) a n i e = at_token t refl
found f (inserted ∷ ys) a n i e = let no : None ≡ Some a = sym i ∙ e in (cc)

pub marked : (m : Mark) (xs : Symbols) → is_mark m (look xs).kind ≡ true → Sign m xs (rest xs)
marked m xs e = consumed xs (k.mark m) refl (mark_true m _ e)

pub worded : (w : Word) (xs : Symbols) → is_word w (look xs).kind ≡ true → Reserved w xs (rest xs)
worded w xs e = consumed xs (k.word w) refl (word_true w _ e)

pub expected : (m : Mark) (xs : Symbols) → Done (λ _ ys. Sign m xs ys) (r.expect Symbols look rest semicolon_symbol m xs)
unfolding r.expect
expected m xs = branch (is_mark m (look xs).kind) (λ e. ok (marked m xs e)) (λ _. err)

pub expected_word : (w : Word) (xs : Symbols) → Done (λ _ ys. Reserved w xs ys) (r.expect_word Symbols look rest semicolon_symbol w xs)
unfolding r.expect_word
expected_word w xs = branch (is_word w (look xs).kind) (λ e. ok (worded w xs e)) (λ _. err)

pub expected_end : (xs : Symbols) → Done (λ _ ys. At k.end xs ys) (r.expect_end Symbols look rest semicolon_symbol xs)
unfolding r.expect_end
expected_end xs = branch _ (λ e. ok (consumed xs k.end refl (end_true _ e))) (λ _. err)

pub ended : (xs : Symbols) → Done (λ _ ys. Ends xs ys) (semicolon_symbol xs)
ended [] = err
ended (inserted ∷ ys) = ok added
ended (real t ∷ ys) = branch (is_mark mark.Semicolon t.kind) (λ e. ok (written (at_token t (mark_true _ _ e)))) (λ _. err)

pub seen_variable : (xs : Symbols) (n : List ℕ) → variable_of (look xs).kind ≡ Some n → Variable xs n (rest xs)
seen_variable xs n e = by (look xs).kind n refl (variable_is (look xs).kind n e) where
  by : (x : Kind) (v : List ℕ) → (look xs).kind ≡ x → IsVariable x v → Variable xs v (rest xs)
  by x v e (name f) = variable (consumed xs _ refl e) f
  by x v e any = any_variable (consumed xs _ refl e)

-- a variable's name, with its place
pub read_variable : (xs : Symbols) → Done (λ v ys. Variable xs v.name ys × (v.place ≡ (look xs).place)) (r.variable Symbols look rest semicolon_symbol xs)
unfolding r.variable
read_variable xs = by (variable_of (look xs).kind) refl where
  by : (v : Option (List ℕ)) → variable_of (look xs).kind ≡ v → Done (λ v ys. Variable xs v.name ys × (v.place ≡ (look xs).place)) (variable_by Symbols look rest semicolon_symbol v xs)
  by None e = err
  by (Some n) e = ok (seen_variable xs n e, refl)

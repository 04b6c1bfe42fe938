-- Two readings of the same symbols up to a place where a part is due: variables and parameters, and what is known of what stands inside.
use Rattle.std.specs.Prelude.{◌≡◌, ℕ, zero, suc, ◌≤◌, Bool, true, false, Err, cond, nat_lt, List, [], ◌∷◌, ◌++◌, Option, Some, None}
use Rattle.std.proofs.Common.{refl, arith}
use Rattle.cc_lexer.specs.declared.token.Mark.TheVariants as mark
use Rattle.cc_lexer.specs.declared.word.Word.{Word}
use Rattle.cc_lexer.specs.declared.word.Word.TheVariants as word
use Rattle.cc_grammar.specs.Symbols.{Kind, Lexeme, Symbol, Symbols, real, look, rest, lexeme_of, is_mark, is_word}
use Rattle.cc_grammar.specs.Symbols as k
use Rattle.cc_grammar.specs.RawTree.{Named}
use Rattle.cc_grammar.specs.Grammar.{Context}
use Rattle.cc_grammar.specs.Reading.{Outcome, Sized, Head, Suffix, and_then, semicolon_symbol, variable_of, head_of, suffix_of, is_element, is_remedy, is_delete, ends_list, depth, spent, refused}
use Rattle.cc_grammar.specs.Reading as r
use Rattle.cc_grammar.proofs.Marked.{In}
use Rattle.cc_grammar.proofs.Alikeness.Alike.{IsErr}
use Rattle.cc_grammar.proofs.Swapping.Swap.{Change, IsPair, Later, Swap, Taking, Look, part, swap_after, swap_pure, swap_look, take_then, behind, swap_fail, swap_limit, taking_deeper, steady, test, mark_test, swap_expect_word, swap_close}
use Rattle.cc_grammar.proofs.Swapping.SwapSites.{word_free, variable_first, own_name_first}
use Rattle.cc_grammar.proofs.Swapping.SwapAhead.{Opens, Settled}
use Rattle.cc_grammar.proofs.OnSymbols as s

pub record SwapInner (x : Change) (inner outer : In) : Type 0 where
  pub expr : (b : Bool) (l : ℕ) → Swap x (inner.expr b l) (outer.expr b l)
  pub stmt : (c : Context) → Swap x (inner.stmt c) (outer.stmt c)
  pub named : x.part ≡ k.variable → (b : Bool) (l : ℕ) (before : Symbols) → Opens before → Settled x (inner.expr b l) (outer.expr b l) before
  pub keyed : x.part ≡ k.key → (b : Bool) (l : ℕ) (before : Symbols) → Opens before → (xs : Symbols) → IsErr (outer.expr b l (before ++ part x ∷ xs))

-- what makes a tree higher
pub deeper : {A : Type 0} (x : Change) (d e h : ℕ) (p q : s.Reader A) → Taking x p q
    → Taking x (λ i. cond (nat_lt h d) (p i) (Err (record { cause = depth; place = (look i).place }, i))) (λ i. cond (nat_lt h e) (q i) (Err (record { cause = depth; place = (look i).place }, i)))
deeper x d e h p q l = taking_deeper x (nat_lt h d) (nat_lt h e) p q l

module _ (x : Change) (w : IsPair x) where
  pub word_test : {A : Type 0} (z : Word) {p q u v : Lexeme → s.Reader A} → is_word z (k.word word.Delete) ≡ false → ((l : Lexeme) → Taking x (p l) (u l)) → Look x q v → Look x (λ l. cond (is_word z l.kind) (p l) (q l)) (λ l. cond (is_word z l.kind) (u l) (v l))
  word_test z e h l = test x (λ t. is_word z t.kind) refl (word_free z e w) h l

  pub swap_word : (z : Word) → is_word z (k.word word.Delete) ≡ false → Swap x (s.expect_word z) (s.expect_word z)
  swap_word z e = swap_expect_word x w z (word_free z e w)

  -- ---- variables and parameters

  variable_later : (v : Option (List ℕ)) → Later x (s.variable_by v) (s.variable_by v)
  variable_later None = (swap_fail x r.a_variable).later
  variable_later (Some v) = (take_then x (λ t. swap_pure x (record { place = t.place; name = v }))).later

  pub variable_swap : Swap x s.variable s.variable
  unfolding r.variable
  variable_swap = swap_look x {p = λ t. s.variable_by (variable_of t.kind)} {q = λ t. s.variable_by (variable_of t.kind)} (record { first = variable_first w; later = λ t. variable_later (variable_of t.kind) })

  params_swap : (m u : ℕ) (found : List Named) → m ≤ u → Swap x (s.params m found) (s.params u found)
  unfolding r.params
  params_swap zero u found lt = swap_limit x spent (s.params u found) refl
  params_swap (suc m) zero found lt = absurd (omega arith)
  params_swap (suc m) (suc u) found lt = swap_after x variable_swap (λ v. swap_look x (mark_test x w mark.Comma
      (λ _. behind x (params_swap m u (found ++ v ∷ []) (omega arith))) (steady x (swap_close x w mark.CloseParen (found ++ v ∷ [])))))

  pub params_of_swap : (m u : ℕ) → m ≤ u → Swap x (s.params_of m) (s.params_of u)
  unfolding r.params_of
  params_of_swap m u lt = swap_look x (mark_test x w mark.CloseParen (λ _. behind x (swap_pure x [])) (steady x (params_swap m u [] lt)))

  own_name_later : (v : Option (List ℕ)) (b : Bool) → Later x (s.own_name_by v b) (s.own_name_by v b)
  own_name_later None true = (swap_pure x None).later
  own_name_later None false = (swap_fail x r.a_variable).later
  own_name_later (Some v) b = (take_then x (λ t. swap_pure x (Some (record { place = t.place; name = v })))).later

  pub own_name_swap : Swap x s.own_name s.own_name
  unfolding r.own_name
  own_name_swap = swap_look x {p = λ t. s.own_name_by (variable_of t.kind) (is_mark mark.OpenParen t.kind)} {q = λ t. s.own_name_by (variable_of t.kind) (is_mark mark.OpenParen t.kind)}
      (record { first = own_name_first w; later = λ t. own_name_later (variable_of t.kind) (is_mark mark.OpenParen t.kind) })

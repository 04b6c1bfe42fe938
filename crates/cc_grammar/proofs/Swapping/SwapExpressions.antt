-- Two readings of the same symbols up to a place where a part is due: expressions.
use Rattle.std.specs.Prelude.{◌≡◌, ℕ, suc, ◌≤◌, ◌+◌, ◌==◌, Bool, true, false, Ok, Err, cond, nat_lt, [], ◌∷◌, ◌++◌, Option, Some, None}
use Rattle.std.proofs.Common.{refl, sym, ap, subst, arith}
use Rattle.cc_ast.specs.declared.reading.Construct.{Construct}
use Rattle.cc_lexer.specs.declared.token.Mark.TheVariants as mark
use Rattle.cc_grammar.specs.Symbols.{Kind, Lexeme, Symbol, Symbols, real, look}
use Rattle.cc_grammar.specs.Symbols as k
use Rattle.cc_grammar.specs.RawTree.{RawExpr}
use Rattle.cc_grammar.specs.Signs.{Prefix, prefix_of, parenthesised}
use Rattle.cc_grammar.specs.Reading.{Sized, and_then, either, head_of, depth}
use Rattle.cc_grammar.specs.Reading as r
use Rattle.cc_grammar.specs.Faults.{any}
use Rattle.cc_grammar.proofs.Marked.{In}
use Rattle.cc_grammar.proofs.Views.{mark_true}
use Rattle.cc_grammar.proofs.Alikeness.Alike.{IsErr, is_err, err_by, err_after}
use Rattle.cc_grammar.proofs.Swapping.Swap.{Next, Change, Pair, slash, slash_equal, comma, function, label, name, accessor, delete, IsPair, Swaps, Later, Swap, part, token, refused_by, swap_after, swap_look, swap_fork, later_after}
use Rattle.cc_grammar.proofs.Swapping.SwapSites.{change, name_fault, no_head, prefix_first}
use Rattle.cc_grammar.proofs.Swapping.SwapAhead.{Opens, none, paren, Settled, settled_refuses, settled_after, settled_by, settled_fork, settled_deeper}
use Rattle.cc_grammar.proofs.Swapping.SwapParts.{SwapInner}
use Rattle.cc_grammar.proofs.Swapping.SwapPrimary.{primary_swap, suffixes_swap}
use Rattle.cc_grammar.proofs.Swapping.SwapOperators.{prefixed_later, after_unary_swap, after_head_swap}
use Rattle.cc_grammar.proofs.OnSymbols as s

module _ (x : Change) (w : IsPair x) (d e n o : ℕ) (inner outer : In) (same : x.turns ≡ n) (le : d ≤ e) (lo : n ≤ o) (all : SwapInner x inner outer) where
  expr_later : (b : Bool) (l : ℕ) (y : Option Prefix) → Later x (s.expr_by d n inner b l y) (s.expr_by e o outer b l y)
  expr_later b l None = later_after x (primary_swap x w d e n o inner outer lo all b).later (after_head_swap x w d e n o inner outer le lo all b l)
  expr_later b l (Some y) = later_after x (prefixed_later x w d e n o inner outer le lo all b y) (after_unary_swap x w d e n o inner outer le lo all b l)

  operand_swap : (b : Bool) (l : ℕ) → Swap x (s.expr_by d n inner b l None) (s.expr_by e o outer b l None)
  operand_swap b l = swap_after x (primary_swap x w d e n o inner outer lo all b) (after_head_swap x w d e n o inner outer le lo all b l)

  expr_first : (b : Bool) (l : ℕ) → Swaps x (s.expr_by d n inner b l (prefix_of x.kind)) (s.expr_by e o outer b l (prefix_of (k.due x.part))) []
  expr_first b l = (subst P same (prefix_first d e x.turns o inner outer b l w)) (operand_swap b l).first where
    P : ℕ → Type 0
    P m = Swaps x (s.expr_by d m inner b l None) (s.expr_by e o outer b l None) [] → Swaps x (s.expr_by d m inner b l (prefix_of x.kind)) (s.expr_by e o outer b l (prefix_of (k.due x.part))) []

  pub expr_swap : (b : Bool) (l : ℕ) → Swap x (s.expr_of d n inner b l) (s.expr_of e o outer b l)
  unfolding r.expr_of
  expr_swap b l = swap_fork x (l == 17) _ _ _ _ (swap_after x (primary_swap x w d e n o inner outer lo all b) (λ a. suffixes_swap x w d e n o inner outer lo all false (suc d) (suc e) a (omega arith)))
      (swap_look x {p = λ t. s.expr_by d n inner b l (prefix_of t.kind)} {q = λ t. s.expr_by e o outer b l (prefix_of t.kind)} (record { first = expr_first b l; later = λ t. expr_later b l (prefix_of t.kind) }))

-- ---- at a name that no variable has, in parentheses perhaps

name_settled : (d e n o : ℕ) (inner outer : In) (v : Bool) {t : Lexeme} {p : k.Part} {y : Kind} {b : Bool} {c : Construct} {z : Next} {m : ℕ} → p ≡ k.variable → Pair p y b c z
    → Settled (change t p y b c z m) (s.primary d n inner v) (s.primary e o outer v) []
unfolding r.primary
name_settled d e n o inner outer v q slash = let no : k.operand ≡ k.variable = q in absurd (cc)
name_settled d e n o inner outer v q slash_equal = let no : k.operand ≡ k.variable = q in absurd (cc)
name_settled d e n o inner outer v q comma = let no : k.element ≡ k.variable = q in absurd (cc)
name_settled d e n o inner outer v q function = let no : k.statement ≡ k.variable = q in absurd (cc)
name_settled d e n o inner outer v {t} q (label {n = u} f) = settled_refuses (λ xs _. refused_by _ (ap (λ h. s.primary_by d n inner v h (real (record t { kind = k.name u }) ∷ xs)) (no_head d e n o inner outer u f)) (name_fault r.an_operand (real (record t { kind = k.name u }) ∷ xs) (ap (either None) f)))
name_settled d e n o inner outer v {t} q (name {n = u} f) = settled_refuses (λ xs _. refused_by _ (ap (λ h. s.primary_by d n inner v h (real (record t { kind = k.name u }) ∷ xs)) (no_head d e n o inner outer u f)) (name_fault r.an_operand (real (record t { kind = k.name u }) ∷ xs) (ap (either None) f)))
name_settled d e n o inner outer v q (accessor f) = let no : k.key ≡ k.variable = q in absurd (cc)
name_settled d e n o inner outer v q delete = let no : k.operand ≡ k.variable = q in absurd (cc)

no_prefix : {p : k.Part} {y : Kind} {b : Bool} {c : Construct} {z : Next} → p ≡ k.variable → Pair p y b c z → prefix_of y ≡ None
no_prefix q slash = refl
no_prefix q slash_equal = refl
no_prefix q comma = refl
no_prefix q function = refl
no_prefix q (label f) = refl
no_prefix q (name f) = refl
no_prefix q (accessor f) = refl
no_prefix q delete = let no : k.operand ≡ k.variable = q in absurd (cc)

module _ (x : Change) (w : IsPair x) (d e n o : ℕ) (inner outer : In) (all : SwapInner x inner outer) where
  -- the first symbol is no operator
  by_primary : (b : Bool) (l : ℕ) (before : Symbols) → ((xs : Symbols) → prefix_of (look (before ++ token x ∷ xs)).kind ≡ None) → ((xs : Symbols) → prefix_of (look (before ++ part x ∷ xs)).kind ≡ None)
      → Settled x (s.primary d n inner b) (s.primary e o outer b) before → Settled x (s.expr_of d n inner b l) (s.expr_of e o outer b l) before
  unfolding r.expr_of
  by_primary b l before f g h = settled_fork x (l == 17) _ _ _ _ (settled_after x (s.suffixes d n inner false (suc d)) (s.suffixes e o outer false (suc e)) h)
      (settled_by x (λ xs. ap (λ y. s.expr_by d n inner b l y (before ++ token x ∷ xs)) (f xs)) (λ xs. ap (λ y. s.expr_by e o outer b l y (before ++ part x ∷ xs)) (g xs)) (settled_after x (s.after_head d n inner b l) (s.after_head e o outer b l) h))

  paren_settled : (b : Bool) (t : Lexeme) {before : Symbols} → Settled x (inner.expr true 0) (outer.expr true 0) before → Settled x (s.primary d n inner b) (s.primary e o outer b) (real (record t { kind = k.mark mark.OpenParen }) ∷ before)
  unfolding r.primary head_of r.parentheses
  paren_settled b t {before} h = settled_by x {after = real (record t { kind = k.mark mark.OpenParen }) ∷ before} (λ xs. refl) (λ xs. refl) (settled_deeper x (nat_lt 0 d) (nat_lt 0 e) (s.parentheses d n inner) (s.parentheses e o outer) (settled_by x (λ xs. refl) (λ xs. refl)
      (settled_after x (λ y i. and_then (s.expect mark.CloseParen i) (λ _ j. Ok ((parenthesised t y.0, y.1 + 1), j))) (λ y i. and_then (s.expect mark.CloseParen i) (λ _ j. Ok ((parenthesised t y.0, y.1 + 1), j))) h)))

  pub named_settled : x.part ≡ k.variable → (b : Bool) (l : ℕ) (before : Symbols) → Opens before → Settled x (s.expr_of d n inner b l) (s.expr_of e o outer b l) before
  named_settled q b l _ none = by_primary b l [] (λ xs. no_prefix q w) (λ xs. ap (λ p. prefix_of (k.due p)) q) (name_settled d e n o inner outer b q w)
  named_settled q b l _ (paren {before} t f u) = let P : Kind → Type 0 = λ y. Settled x (s.expr_of d n inner b l) (s.expr_of e o outer b l) (real (record t { kind = y }) ∷ before) in
      subst P (sym (mark_true mark.OpenParen t.kind f)) (by_primary b l (real (record t { kind = k.mark mark.OpenParen }) ∷ before) (λ xs. refl) (λ xs. refl) (paren_settled b t (all.named q true 0 before u)))

-- ---- at a key

module _ (x : Change) (e o : ℕ) (outer : In) where
  primary_keyed : (b : Bool) (l : ℕ) (before : Symbols) → ((xs : Symbols) → prefix_of (look (before ++ part x ∷ xs)).kind ≡ None) → ((xs : Symbols) → IsErr (s.primary e o outer b (before ++ part x ∷ xs))) → (xs : Symbols) → IsErr (s.expr_of e o outer b l (before ++ part x ∷ xs))
  unfolding r.expr_of
  primary_keyed b l before f h xs = by (l == 17) where
    by : (c : Bool) → IsErr (cond {A = s.Reader (Sized RawExpr)} c (λ i. and_then (s.primary e o outer b i) (s.suffixes e o outer false (suc e))) (λ i. s.expr_by e o outer b l (prefix_of (look i).kind) i) (before ++ part x ∷ xs))
    by true = err_after (s.suffixes e o outer false (suc e)) (h xs)
    by false = err_by (ap (λ y. s.expr_by e o outer b l y (before ++ part x ∷ xs)) (f xs)) (err_after (s.after_head e o outer b l) (h xs))

  key_keyed : (b : Bool) → x.part ≡ k.key → (xs : Symbols) → IsErr (s.primary e o outer b (part x ∷ xs))
  unfolding r.primary head_of
  key_keyed b q xs = let P : k.Part → Type 0 = λ p. IsErr (s.primary e o outer b (any p x.place ∷ xs)) in subst P (sym q) is_err

  paren_keyed : (b : Bool) (t : Lexeme) (before : Symbols) → ((xs : Symbols) → IsErr (outer.expr true 0 (before ++ part x ∷ xs))) → (xs : Symbols) → IsErr (s.primary e o outer b (real (record t { kind = k.mark mark.OpenParen }) ∷ (before ++ part x ∷ xs)))
  unfolding r.primary head_of r.parentheses
  paren_keyed b t before h xs = by (nat_lt 0 e) where
    by : (c : Bool) → IsErr (cond c (s.parentheses e o outer (real (record t { kind = k.mark mark.OpenParen }) ∷ (before ++ part x ∷ xs))) (Err (record { cause = depth; place = t.place }, real (record t { kind = k.mark mark.OpenParen }) ∷ (before ++ part x ∷ xs))))
    by false = is_err
    by true = err_after (λ y i. and_then (s.expect mark.CloseParen i) (λ _ j. Ok ((parenthesised t y.0, y.1 + 1), j))) (h xs)

  pub expr_keyed : x.part ≡ k.key → ((b : Bool) (l : ℕ) (before : Symbols) → Opens before → (xs : Symbols) → IsErr (outer.expr b l (before ++ part x ∷ xs)))
      → (b : Bool) (l : ℕ) (before : Symbols) → Opens before → (xs : Symbols) → IsErr (s.expr_of e o outer b l (before ++ part x ∷ xs))
  expr_keyed q h b l _ none xs = primary_keyed b l [] (λ xs. ap (λ p. prefix_of (k.due p)) q) (key_keyed b q) xs
  expr_keyed q h b l _ (paren {before} t f u) xs = let P : Kind → Type 0 = λ y. IsErr (s.expr_of e o outer b l (real (record t { kind = y }) ∷ (before ++ part x ∷ xs))) in
      subst P (sym (mark_true mark.OpenParen t.kind f)) (primary_keyed b l (real (record t { kind = k.mark mark.OpenParen }) ∷ before) (λ xs. refl) (paren_keyed b t before (h true 0 before u)) xs)

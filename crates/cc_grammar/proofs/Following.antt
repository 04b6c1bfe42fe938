-- The reader of expressions comes as far as the look ahead behind `delete`.
use Rattle.std.specs.Prelude.{◌≡◌, ℕ, zero, suc, ◌+◌, ◌≤◌, Bool, true, false, Ok, Err, cond, nat_lt, is_some, List, Option, Some, None}
use Rattle.std.proofs.Common.{refl, sym, ap, ◌∙◌, subst, arith}
use Rattle.cc_lexer.specs.declared.token.Mark.TheVariants as mark
use Rattle.cc_grammar.specs.Symbols.{Kind, Symbols, look, rest, is_mark}
use Rattle.cc_grammar.specs.Symbols as k
use Rattle.cc_grammar.specs.RawTree.{RawExpr}
use Rattle.cc_grammar.specs.RawTree as raw
use Rattle.cc_grammar.specs.Signs.{parenthesised, prefix_of}
use Rattle.cc_grammar.specs.Reading.{Outcome, Sized, and_then, head_of, variable_of, depth, fault}
use Rattle.cc_grammar.specs.Reading as r
use Rattle.cc_grammar.proofs.Marked.{In}
use Rattle.cc_grammar.proofs.Views.{mark_true}
use Rattle.cc_grammar.proofs.Steps.{step, chosen, skipped, chosen_at, skipped_at}
use Rattle.cc_grammar.proofs.Quiet.{Quiet, looser, close_paren}
use Rattle.cc_grammar.proofs.Stopping.{either_way, by_head, by_operand, head_ends}
use Rattle.cc_grammar.proofs.Completeness.CompleteOperands.{variable_head}
use Rattle.cc_grammar.proofs.Alikeness.Alike.{Bounds, Deeper, Stands, whole, stands_after, alike_close}
use Rattle.cc_grammar.proofs.Alikeness.AlikeExpressions.{Follow, held, on, past, Follows, AlikeInner, at_zero, expr_alike, after_head_alike}
use Rattle.cc_grammar.proofs.OnSymbols as s

follow_by : {A : Type 0} {count : ℕ} {v : Bool} {j : Symbols} {o u : Outcome Symbols A} → o ≡ u → Follow count v j u → Follow count v j o
follow_by {count} {v} {j} e h = let P : Outcome Symbols _ → Type 0 = λ x. Follow count v j x in subst P (sym e) h

same_place : {b v : Bool} {i j : Symbols} → ◌≡◌ {A = Outcome Symbols Bool} (Ok (b, i)) (Ok (v, j)) → i ≡ j
same_place {b} {v} {i} {j} e = let pairs : ◌≡◌ {A = Bool × Symbols} (b, i) (v, j) = cc in ap (λ (p : Bool × Symbols). p.1) pairs

unread : {v : Bool} {j : Symbols} {x : r.Fault × Symbols} → ◌≡◌ {A = Outcome Symbols Bool} (Err x) (Ok (v, j)) → ⊥
unread e = cc

-- the look ahead stops here
stays : (m : ℕ) {v : Bool} {i j : Symbols} → is_mark mark.CloseParen (look i).kind ≡ false → s.closed (suc m) i ≡ Ok (v, j) → i ≡ j
unfolding r.closed
stays m {i} q e = same_place (sym (skipped_at (is_mark mark.CloseParen (look i).kind) _ _ q refl) ∙ e)

onward : (m : ℕ) (i : Symbols) {v : Bool} {j : Symbols} → is_mark mark.CloseParen (look i).kind ≡ true → s.closed (suc m) i ≡ Ok (v, j) → s.closed m (rest i) ≡ Ok (v, j)
unfolding r.closed
onward m i q e = sym (chosen_at (is_mark mark.CloseParen (look i).kind) _ _ q refl) ∙ e

no_prefix : (x : Kind) (w : List ℕ) → variable_of x ≡ Some w → prefix_of x ≡ None
no_prefix (k.name n) w e = refl
no_prefix (k.due k.variable) w e = refl
no_prefix _ w e = cc

record Valued (o : Option (List ℕ)) : Type 0 where
  value : List ℕ
  is : o ≡ Some value

some_value : (o : Option (List ℕ)) → is_some o ≡ true → Valued o
some_value (Some w) e = record { value = w; is = refl }
some_value None e = let no : false ≡ true = e in absurd (cc)

module _ {bounds : Bounds} (d e n o : ℕ) (inner outer : In) (le : d ≤ e) (deep : Deeper bounds d e) (lo : n ≤ o) (all : AlikeInner bounds inner outer) where
  after_walks : (b : Bool) (l : ℕ) (a : Sized RawExpr) (ys : Symbols) → Stands ys (s.after_head d n inner b l a ys)
  after_walks b l a ys = (after_head_alike d e n o inner outer le deep lo all b l a).walks ys

  closing_quiet : (b : Bool) (l : ℕ) (i : Symbols) → is_mark mark.CloseParen (look i).kind ≡ true → Quiet b l (look i).kind
  closing_quiet b l i q = let Q : Kind → Type 0 = λ y. Quiet b l y in subst Q (sym (mark_true mark.CloseParen (look i).kind q)) (looser l (omega arith) (close_paren b))

  -- behind a head where the look ahead has come to
  after_closed : (b : Bool) (l : ℕ) (a : Sized RawExpr) (count : ℕ) (v : Bool) (i j : Symbols) → s.closed count i ≡ Ok (v, j) → Follow count v j (s.after_head d n inner b l a i)
  after_closed b l a zero v i j q = past (subst (λ z. Stands z (s.after_head d n inner b l a i)) (at_zero q) (after_walks b l a i))
  after_closed b l a (suc m) v i j q = either_way (is_mark mark.CloseParen (look i).kind)
      (λ c. follow_by (head_ends d n inner b l a i (closing_quiet b l i c)) (on q))
      (λ c. past (subst (λ z. Stands z (s.after_head d n inner b l a i)) (stays _ c q) (after_walks b l a i)))

  -- what stands in parentheses, and behind them
  abbrev in_parentheses : Bool → ℕ → Symbols → Outcome Symbols (Sized RawExpr) → Outcome Symbols (Sized RawExpr)
  in_parentheses b l xs u = and_then (and_then u (λ x i. and_then (s.expect mark.CloseParen i) (λ _ j. Ok ((parenthesised (look xs) x.0, x.1 + 1), j)))) (s.after_head d n inner b l)

  inside : (b : Bool) (l : ℕ) (xs : Symbols) (count : ℕ) (v : Bool) (j : Symbols) (u : Outcome Symbols (Sized RawExpr)) → Follow (suc count) v j u → Follow count v j (in_parentheses b l xs u)
  unfolding r.expect
  inside b l xs count v j _ held = held
  inside b l xs count v j u (past h) = past (stands_after j (and_then u (λ x i. and_then (s.expect mark.CloseParen i) (λ _ z. Ok ((parenthesised (look xs) x.0, x.1 + 1), z)))) (s.after_head d n inner b l)
      (stands_after j u (λ x i. and_then (s.expect mark.CloseParen i) (λ _ z. Ok ((parenthesised (look xs) x.0, x.1 + 1), z))) h (λ x i. (alike_close {bounds = bounds} mark.CloseParen (parenthesised (look xs) x.0, x.1 + 1)).walks i))
      (λ a ys. after_walks b l a ys))
  inside b l xs count v j _ (on {a} {i} q) = either_way (is_mark mark.CloseParen (look i).kind)
      (λ c. let read : s.expect mark.CloseParen i ≡ Ok (tt, rest i) = chosen _ _ c refl in
      follow_by (ap (λ w. and_then (and_then w (λ _ z. Ok ((parenthesised (look xs) a.0, a.1 + 1), z))) (s.after_head d n inner b l)) read)
      (after_closed b l (parenthesised (look xs) a.0, a.1 + 1) count v (rest i) j (onward count i c q)))
      (λ c. let fails : s.expect mark.CloseParen i ≡ Err (fault r.a_token (look i), i) = skipped _ _ c refl in
      follow_by (ap (λ w. and_then (and_then w (λ _ z. Ok ((parenthesised (look xs) a.0, a.1 + 1), z))) (s.after_head d n inner b l)) fails)
      (past (subst (λ z. Stands {A = Sized RawExpr} z (Err (fault r.a_token (look i), i))) (stays _ c q) (whole i))))

  at_paren : (b : Bool) (l m count : ℕ) (v : Bool) (j xs : Symbols) → l ≤ 13 → is_mark mark.OpenParen (look xs).kind ≡ true → s.opened m (suc count) (rest xs) ≡ Ok (v, j) → Follow count v j (s.expr_of d n inner b l xs)
  unfolding head_of r.parentheses
  at_paren b l m count v j xs ll q f =
      let kind = mark_true mark.OpenParen (look xs).kind q in
      follow_by (by_operand d n inner b l xs ll (ap prefix_of kind) ∙ ap (λ w. and_then w (s.after_head d n inner b l)) (by_head d n inner b xs r.is_paren (ap head_of kind) refl)) (by (nat_lt 0 d)) where
        by : (c : Bool) → Follow count v j (and_then (cond c (s.parentheses d n inner xs) (Err (record { cause = depth; place = (look xs).place }, xs))) (s.after_head d n inner b l))
        by false = held
        by true = inside b l xs count v j (inner.expr true 0 (rest xs)) (all.follows.is true 0 m (suc count) v j (rest xs) (omega arith) f)

  at_name : (b : Bool) (l count : ℕ) (v : Bool) (j xs : Symbols) → l ≤ 13 → Valued (variable_of (look xs).kind) → s.closed count (rest xs) ≡ Ok (v, j) → Follow count v j (s.expr_of d n inner b l xs)
  at_name b l count v j xs ll w f =
      follow_by (by_operand d n inner b l xs ll (no_prefix (look xs).kind w.value w.is)
      ∙ step (s.after_head d n inner b l) (by_head d n inner b xs (r.is_variable w.value) (variable_head (look xs).kind w.value w.is) refl) refl)
      (after_closed b l (raw.var (look xs).place w.value, 0) count v (rest xs) j f)

  expr_follows_at : (b : Bool) (l m count : ℕ) (v : Bool) (j xs : Symbols) → l ≤ 13 → s.opened m count xs ≡ Ok (v, j) → Follow count v j (s.expr_of d n inner b l xs)
  unfolding r.opened
  expr_follows_at b l zero count v j xs ll f = absurd (unread f)
  expr_follows_at b l (suc m) count v j xs ll f = either_way (is_mark mark.OpenParen (look xs).kind)
      (λ q. at_paren b l m count v j xs ll q (sym (chosen_at (is_mark mark.OpenParen (look xs).kind) _ _ q refl) ∙ f))
      (λ q. either_way (is_some (variable_of (look xs).kind))
      (λ w. at_name b l count v j xs ll (some_value (variable_of (look xs).kind) w)
      (sym (skipped_at (is_mark mark.OpenParen (look xs).kind) _ _ q (chosen_at (is_some (variable_of (look xs).kind)) _ _ w refl)) ∙ f))
      (λ w. past (subst (λ z. Stands z (s.expr_of d n inner b l xs)) (same_place (sym (skipped_at (is_mark mark.OpenParen (look xs).kind) _ _ q (skipped_at (is_some (variable_of (look xs).kind)) _ _ w refl)) ∙ f))
      ((expr_alike d e n o inner outer le deep lo all b l).walks xs))))

  pub expr_follows : Follows (s.expr_of d n inner)
  expr_follows = record { is = expr_follows_at }

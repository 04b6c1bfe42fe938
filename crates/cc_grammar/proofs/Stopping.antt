-- Where the readers of operators go on with nothing.
use Rattle.std.specs.Prelude.{◌≡◌, ℕ, zero, suc, ◌<◌, ◌≤◌, Bool, true, false, cond, nat_lt, ◌==◌, Ok, Option, Some, None}
use Rattle.std.proofs.Common.{refl, ap, arith, ◌∙◌, ltb-true, lt-ltb, eqb-true}
use Rattle.cc_lexer.specs.declared.token.Mark.TheVariants as mark
use Rattle.cc_grammar.specs.Symbols.{Symbols, look, rest, is_mark}
use Rattle.cc_grammar.specs.RawTree.{RawExpr}
use Rattle.cc_grammar.specs.Signs.{Infix, target_of, step_of, prefix_of, infix_of, level, assign_of}
use Rattle.cc_grammar.specs.Reading.{Outcome, Sized, Head, and_then, head_of, suffix_of}
use Rattle.cc_grammar.specs.Reading as r
use Rattle.cc_grammar.proofs.Marked.{In}
use Rattle.cc_grammar.proofs.Steps.{step, chosen_at, skipped_at}
use Rattle.cc_grammar.proofs.Quiet.{Quiet}
use Rattle.cc_grammar.proofs.OnSymbols as s

-- a test that answers one of two
pub either_way : {X : Type 0} (b : Bool) → (b ≡ true → X) → (b ≡ false → X) → X
either_way true h l = h refl
either_way false h l = l refl

pub no_callee : (l : ℕ) → l ≤ 13 → (l == 17) ≡ false
no_callee l le = either_way (l == 17) (λ e. absurd (omega (arith, eqb-true l 17 e))) (λ e. e)

module _ (d n : ℕ) (inner : In) where
  pub by_head : (b : Bool) (xs : Symbols) {z : Outcome Symbols (Sized RawExpr)} (x : Head) → head_of (look xs).kind ≡ x → s.primary_by d n inner b x xs ≡ z → s.primary d n inner b xs ≡ z
  unfolding r.primary
  by_head b xs x e h = ap (λ y. s.primary_by d n inner b y xs) e ∙ h

  pub no_more_suffixes : (calls : Bool) (m : ℕ) (a : Sized RawExpr) (ys : Symbols) → suffix_of calls (look ys).kind ≡ r.no_suffix → s.suffixes d n inner calls m a ys ≡ Ok (a, ys)
  unfolding r.suffixes
  no_more_suffixes calls zero a ys e = ap (λ x. s.suffix_by d n inner (λ _. r.stops Symbols look rest r.semicolon_symbol r.depth) a x ys) e
  no_more_suffixes calls (suc m) a ys e = ap (λ x. s.suffix_by d n inner (s.suffixes d n inner calls m) a x ys) e

  pub no_postfix : (a : Sized RawExpr) (ys : Symbols) → step_of (look ys).kind ≡ None → s.postfix d n inner a ys ≡ Ok (a, ys)
  unfolding r.postfix
  no_postfix a ys e = ap (λ w. s.postfix_by d n inner a w (target_of a.0) (look ys).after_line ys) e

  no_turn : (b : Bool) (l : ℕ) (a : Sized RawExpr) (ys : Symbols) (p : Sized RawExpr → s.Reader (Sized RawExpr)) (o : Option Infix) → ((x : Infix) → o ≡ Some x → level x < l) → s.climb_by d n inner p b l a o ys ≡ Ok (a, ys)
  no_turn b l a ys p None h = refl
  no_turn b l a ys p (Some o) h = chosen_at (nat_lt (level o) l) _ _ (lt-ltb (level o) l (h o refl)) refl

  pub no_more_climbs : (b : Bool) (l m : ℕ) (a : Sized RawExpr) (ys : Symbols) → ((o : Infix) → infix_of b (look ys).kind ≡ Some o → level o < l) → s.climb d n inner b l m a ys ≡ Ok (a, ys)
  unfolding r.climb
  no_more_climbs b l zero a ys q = no_turn b l a ys (λ _. r.stops Symbols look rest r.semicolon_symbol r.depth) (infix_of b (look ys).kind) q
  no_more_climbs b l (suc m) a ys q = no_turn b l a ys (s.climb d n inner b l m) (infix_of b (look ys).kind) q

  pub no_conditional : (b : Bool) (l : ℕ) (a : Sized RawExpr) (ys : Symbols) → (l ≤ 2 → is_mark mark.Question (look ys).kind ≡ false) → cond (nat_lt l 3) (s.conditional d n inner b a) (λ i. Ok (a, i)) ys ≡ Ok (a, ys)
  unfolding r.conditional
  no_conditional b l a ys q = either_way (nat_lt l 3)
      (λ e. let low : l < 3 = ltb-true l 3 e in chosen_at (nat_lt l 3) _ _ e (skipped_at (is_mark mark.Question (look ys).kind) _ _ (q (omega arith)) refl))
      (λ e. skipped_at (nat_lt l 3) _ _ e refl)

  pub no_assign : (b : Bool) (l : ℕ) (a : Sized RawExpr) (ys : Symbols) → (l ≤ 1 → assign_of (look ys).kind ≡ None) → cond (nat_lt l 2) (s.assign d n inner b a) (λ i. Ok (a, i)) ys ≡ Ok (a, ys)
  unfolding r.assign
  no_assign b l a ys q = either_way (nat_lt l 2)
      (λ e. let low : l < 2 = ltb-true l 2 e in chosen_at (nat_lt l 2) _ _ e (ap (λ w. s.assign_by d n inner b a w (target_of a.0) ys) (q (omega arith))))
      (λ e. skipped_at (nat_lt l 2) _ _ e refl)

  pub no_more_commas : (b : Bool) (m : ℕ) (a : Sized RawExpr) (ys : Symbols) → is_mark mark.Comma (look ys).kind ≡ false → s.commas d n inner b m a ys ≡ Ok (a, ys)
  unfolding r.commas
  no_more_commas b zero a ys e = ap (λ v. s.comma_by d n inner (λ _. r.stops Symbols look rest r.semicolon_symbol r.depth) b a v ys) e
  no_more_commas b (suc m) a ys e = ap (λ v. s.comma_by d n inner (s.commas d n inner b m) b a v ys) e

  -- what goes on behind a conditional expression, and behind the operators
  abbrev pub last : Bool → ℕ → Sized RawExpr → s.Reader (Sized RawExpr)
  last b l a = cond (l == 0) (s.commas d n inner b (suc d) a) (λ i. Ok (a, i))

  abbrev pub from_assign : Bool → ℕ → Sized RawExpr → s.Reader (Sized RawExpr)
  from_assign b l a i = and_then (cond (nat_lt l 2) (s.assign d n inner b a) (λ i. Ok (a, i)) i) (last b l)

  abbrev pub from_conditional : Bool → ℕ → Sized RawExpr → s.Reader (Sized RawExpr)
  from_conditional b l a i = and_then (cond (nat_lt l 3) (s.conditional d n inner b a) (λ i. Ok (a, i)) i) (from_assign b l)

  pub by_climb : (b : Bool) (l : ℕ) (a : Sized RawExpr) (ys : Symbols) → s.after_unary d n inner b l a ys ≡ and_then (s.climb d n inner b l (suc d) a ys) (from_conditional b l)
  unfolding r.after_unary
  by_climb b l a ys = refl

  pub last_ends : (b : Bool) (l : ℕ) (a : Sized RawExpr) (ys : Symbols) → Quiet b l (look ys).kind → last b l a ys ≡ Ok (a, ys)
  last_ends b l a ys q = either_way (l == 0)
      (λ e. chosen_at (l == 0) _ _ e (no_more_commas b (suc d) a ys (q.comma (eqb-true l 0 e))))
      (λ e. skipped_at (l == 0) _ _ e refl)

  pub unary_ends : (b : Bool) (l : ℕ) (a : Sized RawExpr) (ys : Symbols) → Quiet b l (look ys).kind → s.after_unary d n inner b l a ys ≡ Ok (a, ys)
  unary_ends b l a ys q = by_climb b l a ys ∙ step _ (no_more_climbs b l (suc d) a ys q.infix_below)
      (step _ (no_conditional b l a ys q.question) (step _ (no_assign b l a ys q.assigning) (last_ends b l a ys q)))

  pub head_ends : (b : Bool) (l : ℕ) (a : Sized RawExpr) (ys : Symbols) → Quiet b l (look ys).kind → s.after_head d n inner b l a ys ≡ Ok (a, ys)
  unfolding r.after_head
  head_ends b l a ys q = step _ (no_more_suffixes true (suc d) a ys q.apart.suffix) (step _ (no_postfix a ys q.apart.step) (unary_ends b l a ys q))

  pub by_operand : (b : Bool) (l : ℕ) (xs : Symbols) → l ≤ 13 → prefix_of (look xs).kind ≡ None → s.expr_of d n inner b l xs ≡ and_then (s.primary d n inner b xs) (s.after_head d n inner b l)
  unfolding r.expr_of
  by_operand b l xs le e = skipped_at (l == 17) _ _ (no_callee l le) (ap (λ o. s.expr_by d n inner b l o xs) e)

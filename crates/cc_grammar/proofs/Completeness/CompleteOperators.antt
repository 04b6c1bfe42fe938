-- What is derived is read: the steps of operators.
use Rattle.std.specs.Prelude.{◌≡◌, ℕ, zero, suc, ◌+◌, ◌<◌, ◌≤◌, max, Bool, true, false, cond, nat_lt, Ok, Err, Option, Some, None}
use Rattle.std.proofs.Common.{refl, ap, arith, ◌∙◌, ltb-true, le-ltb, lt-ltb}
use Rattle.cc_ast.specs.declared.operator.BinOp.{BinOp}
use Rattle.cc_ast.specs.declared.operator.UnOp.TheVariants as op
use Rattle.cc_ast.specs.declared.place.Place.{Place}
use Rattle.cc_ast.specs.Syntax.{undefined}
use Rattle.cc_lexer.specs.declared.token.Mark.TheVariants as mark
use Rattle.cc_grammar.specs.Symbols.{Kind, Symbols, look, rest, is_mark}
use Rattle.cc_grammar.specs.Symbols as k
use Rattle.cc_grammar.specs.RawTree.{RawExpr, RawTarget}
use Rattle.cc_grammar.specs.RawTree as raw
use Rattle.cc_grammar.specs.Signs.{Prefix, unary, Infix, is_variable, target_of, step_of, prefix_of, prefix_tree, infix_of, level, infix_tree, assign_of}
use Rattle.cc_grammar.specs.Signs as sign
use Rattle.cc_grammar.specs.Grammar as g
use Rattle.cc_grammar.specs.Grammar.{At, Sign, E}
use Rattle.cc_grammar.specs.Reading.{Outcome, Sized, and_then, is_delete, is_remedy}
use Rattle.cc_grammar.specs.Reading as r
use Rattle.cc_grammar.proofs.Marked.{In}
use Rattle.cc_grammar.proofs.Mono.{bounded, above}
use Rattle.cc_grammar.proofs.Shrinks.{reals, at_less, e_less}
use Rattle.cc_grammar.proofs.Steps.{step, opened, chosen_at, skipped_at, same_cond, same_after, other_fork, rest_at, mark_at, table_at, taken}
use Rattle.cc_grammar.proofs.Quiet.{Quiet, looser, at_next, colon}
use Rattle.cc_grammar.proofs.Ahead.{Spared}
use Rattle.cc_grammar.proofs.Completeness.CompleteLists.{CompleteInner}
use Rattle.cc_grammar.proofs.Stopping.{either_way}
use Rattle.cc_grammar.proofs.OnSymbols as s

-- `delete` leaves a variable alone
unless_variable : (b : Bool) (p : Place) (e f : RawExpr) → cond b None (Some (raw.unary p op.Delete e)) ≡ Some f → b ≡ true → ⊥
unless_variable true p e f q v = let no : None ≡ Some f = q in (cc)
unless_variable false p e f q v = let no : false ≡ true = v in (cc)

pub deletes_no_variable : (o : Prefix) (p : Place) (e f : RawExpr) → is_delete o ≡ true → prefix_tree o p e ≡ Some f → is_variable e ≡ true → ⊥
deletes_no_variable (sign.step up) p e f t q v = let no : false ≡ true = t in (cc)
deletes_no_variable (unary op.Delete) p e f t q v = unless_variable (is_variable e) p e f q v
deletes_no_variable (unary _) p e f t q v = let no : false ≡ true = t in (cc)

module _ (d n : ℕ) (inner : In) (all : CompleteInner d n inner) where
  -- ---- postfix and unary operators

  pub postfix_step : (e : RawExpr) (j : ℕ) {x : Kind} {up : Bool} {t : RawTarget} {ys zs : Symbols} → j < d → target_of e ≡ Some t → (look ys).after_line ≡ false → At x ys zs → step_of x ≡ Some up
      → s.postfix d n inner (e, j) ys ≡ Ok ((raw.step (g.at ys) up false t, j + 1), zs)
  unfolding r.postfix
  postfix_step e j {up} {t} {ys} lt q a o p =
      ap (λ w. s.postfix_by d n inner (e, j) w (target_of e) (look ys).after_line ys) (table_at step_of o ∙ p)
      ∙ ap (λ w. s.postfix_by d n inner (e, j) (Some up) w (look ys).after_line ys) q
      ∙ ap (λ w. s.postfix_by d n inner (e, j) (Some up) (Some t) w ys) a
      ∙ opened j d _ _ lt (ap (λ zs. Ok ((raw.step (g.at ys) up false t, j + 1), zs)) (rest_at o))

  pub prefixed_by : (b : Bool) (o : Prefix) (xs : Symbols) {z : Outcome Symbols (Sized RawExpr)} → (is_delete o ≡ true → Spared n (rest xs))
      → cond (nat_lt 0 d) (s.prefix_expr d n inner b o xs) (Err (record { cause = r.depth; place = (look xs).place }, xs)) ≡ z → s.prefixed d n inner b o xs ≡ z
  unfolding r.prefixed
  prefixed_by b o xs f h = either_way (is_delete o)
      (λ e. let sp = f e in chosen_at (is_delete o) _ _ e (ap (λ w. r.unless_deleted Symbols look rest r.semicolon_symbol w (look xs).place
      (cond (nat_lt 0 d) (s.prefix_expr d n inner b o xs) (Err (record { cause = r.depth; place = (look xs).place }, xs)))) sp.is ∙ h))
      (λ e. skipped_at (is_delete o) _ _ e h)

  -- the operand of a unary operator
  pub prefix_step : (b : Bool) (o : Prefix) {x : Kind} {e f : RawExpr} {j : ℕ} {xs ys zs : Symbols} → 0 < d → At x xs ys → inner.expr b 13 ys ≡ Ok ((e, j), zs) → prefix_tree o (g.at xs) e ≡ Some f
      → cond (nat_lt 0 d) (s.prefix_expr d n inner b o xs) (Err (record { cause = r.depth; place = (look xs).place }, xs)) ≡ Ok ((f, j + 1), zs)
  unfolding r.prefix_expr
  prefix_step b o {e} {j} {xs} {zs} lt c q t = opened 0 d _ _ lt (step _ (ap (inner.expr b 13) (rest_at c) ∙ q) (ap (λ w. s.prefix_by d n inner o (g.at xs) (e, j) w zs) t))

  pub wrong_prefix_step : (b : Bool) (o : Prefix) {x : Kind} {e : RawExpr} {j : ℕ} {xs ys zs ws : Symbols} → 0 < d → At x xs ys → inner.expr b 13 ys ≡ Ok ((e, j), zs) → prefix_tree o (g.at xs) e ≡ None
      → At (k.due k.remedy) zs ws → cond (nat_lt 0 d) (s.prefix_expr d n inner b o xs) (Err (record { cause = r.depth; place = (look xs).place }, xs)) ≡ Ok ((raw.lit (g.at xs) undefined, j + 1), ws)
  unfolding r.prefix_expr
  wrong_prefix_step b o {e} {j} {xs} {zs} {ws} lt c q t w = opened 0 d _ _ lt (step _ (ap (inner.expr b 13) (rest_at c) ∙ q) (ap (λ v. s.prefix_by d n inner o (g.at xs) (e, j) v zs) t
      ∙ chosen_at (is_remedy (look zs).kind) _ _ (table_at is_remedy w) (ap (λ us. Ok ((raw.lit (g.at xs) undefined, j + 1), us)) (rest_at w))))

  -- ---- binary operators

  more_turns : (b : Bool) (l : ℕ) (a : Sized RawExpr) (ys : Symbols) (p q : Sized RawExpr → s.Reader (Sized RawExpr)) (o : Option Infix)
      → ((x : Sized RawExpr) (zs : Symbols) → a.1 < d → a.1 < x.1 → p x zs ≡ q x zs) → s.climb_by d n inner p b l a o ys ≡ s.climb_by d n inner q b l a o ys
  more_turns b l a ys p q None h = refl
  more_turns b l a ys p q (Some o) h = other_fork (nat_lt (level o) l) _ _ _ (λ _. same_cond (nat_lt a.1 d) _ _ _ (λ lt. same_after _ _ _ (λ x zs. h _ zs (ltb-true _ _ lt) (omega arith))))

  more_climbs : (b : Bool) (l m : ℕ) (a : Sized RawExpr) (ys : Symbols) → d < m + a.1 → s.climb d n inner b l m a ys ≡ s.climb d n inner b l (suc m) a ys
  unfolding r.climb
  more_climbs b l zero a ys lt = more_turns b l a ys (λ _. r.stops Symbols look rest r.semicolon_symbol r.depth) (s.climb d n inner b l 0) (infix_of b (look ys).kind) (λ x zs lu _. absurd (omega arith))
  more_climbs b l (suc m) a ys lt = more_turns b l a ys (s.climb d n inner b l m) (s.climb d n inner b l (suc m)) (infix_of b (look ys).kind) (λ x zs _ lu. more_climbs b l m x zs (omega arith))

  pub climb_step : {h : ℕ} {x : Kind} {ys zs ws : Symbols} {f : RawExpr} (b : Bool) (l : ℕ) (o : Infix) (e : RawExpr) (j : ℕ) → reals zs < n → l ≤ level o → j < d → h < d → At x ys zs → infix_of b x ≡ Some o
      → E h b (level o + 1) zs f ws → Quiet b (level o + 1) (look ws).kind
      → (i : ℕ) × (i ≤ h) × (s.climb d n inner b l (suc d) (e, j) ys ≡ s.climb d n inner b l (suc d) (infix_tree o (g.at ys) e f, max j i + 1) ws)
  unfolding r.climb
  climb_step {h} {ys} {zs} {ws} {f} b l o e j ln le lt lu c p y q =
      let v = all.expr b (level o + 1) h ln (omega (arith, bounded o)) (λ z. absurd (omega (arith, above o))) lu y q in (
        v.height,
        v.low,
        ap (λ w. s.climb_by d n inner (s.climb d n inner b l d) b l (e, j) w ys) (table_at (infix_of b) c ∙ p)
            ∙ skipped_at (nat_lt (level o) l) _ _ (le-ltb (level o) l le) (opened j d _ _ lt (step _ (ap (inner.expr b (level o + 1)) (rest_at c) ∙ v.is)
            (more_climbs b l d (infix_tree o (g.at ys) e f, max j v.height + 1) ws (omega arith)))),
      )

  -- ---- the conditional operator

  pub conditional_step : (b : Bool) (l : ℕ) (e : RawExpr) (j : ℕ) {h i : ℕ} {f y : RawExpr} {ys zs us vs ws : Symbols} → reals zs < n → l ≤ 2 → j < d → h < d → i < d → Sign mark.Question ys zs → E h true 1 zs f us → Sign mark.Colon us vs
      → E i b 1 vs y ws → Quiet b 1 (look ws).kind
      → (u v : ℕ) × (u ≤ h) × (v ≤ i) × (cond (nat_lt l 3) (s.conditional d n inner b (e, j)) (λ i. Ok ((e, j), i)) ys ≡ Ok ((raw.cond (g.at ys) e f y, max j (max u v) + 1), ws))
  unfolding r.conditional
  conditional_step b l e j {h} {i} ln le lj lh li o x c y q =
      let p = all.expr true 1 h ln (omega arith) (omega arith) lh x (at_next c (looser 1 (omega arith) (colon true))) in
      let w = all.expr b 1 i (omega (arith, e_less x, at_less c)) (omega arith) (omega arith) li y q in (
        p.height,
        w.height,
        p.low,
        w.low,
        chosen_at (nat_lt l 3) _ _ (lt-ltb l 3 (omega arith)) (chosen_at _ _ _ (mark_at o) (opened j d _ _ lj (step _ (ap (inner.expr true 1) (rest_at o) ∙ p.is) (step _ (taken c) (step _ w.is refl))))),
      )

  -- ---- assignments

  pub assign_step : (b : Bool) (l : ℕ) (e : RawExpr) (j : ℕ) {h : ℕ} {x : Kind} {o : Option BinOp} {t : RawTarget} {f : RawExpr} {ys zs ws : Symbols} → reals zs < n → l ≤ 1 → j < d → h < d → target_of e ≡ Some t → At x ys zs → assign_of x ≡ Some o
      → E h b 1 zs f ws → Quiet b 1 (look ws).kind
      → (u : ℕ) × (u ≤ h) × (cond (nat_lt l 2) (s.assign d n inner b (e, j)) (λ i. Ok ((e, j), i)) ys ≡ Ok ((raw.assign (g.at ys) o t f, max j u + 1), ws))
  unfolding r.assign
  assign_step b l e j {h} {o} {t} {ys} ln le lj lh q c p y z =
      let w = all.expr b 1 h ln (omega arith) (omega arith) lh y z in (
        w.height,
        w.low,
        chosen_at (nat_lt l 2) _ _ (lt-ltb l 2 (omega arith)) (ap (λ v. s.assign_by d n inner b (e, j) v (target_of e) ys) (table_at assign_of c ∙ p) ∙ ap (λ v. s.assign_by d n inner b (e, j) (Some o) v ys) q
            ∙ opened j d _ _ lj (step _ (ap (inner.expr b 1) (rest_at c) ∙ w.is) refl)),
      )

  -- ---- the comma operator

  comma_turn : (b : Bool) (a : Sized RawExpr) (ys : Symbols) (p q : Sized RawExpr → s.Reader (Sized RawExpr)) (c : Bool) → ((x : Sized RawExpr) (zs : Symbols) → a.1 < d → a.1 < x.1 → p x zs ≡ q x zs)
      → s.comma_by d n inner p b a c ys ≡ s.comma_by d n inner q b a c ys
  comma_turn b a ys p q false h = refl
  comma_turn b a ys p q true h = same_cond (nat_lt a.1 d) _ _ _ (λ lt. same_after _ _ _ (λ x zs. h _ zs (ltb-true _ _ lt) (omega arith)))

  more_commas : (b : Bool) (m : ℕ) (a : Sized RawExpr) (ys : Symbols) → d < m + a.1 → s.commas d n inner b m a ys ≡ s.commas d n inner b (suc m) a ys
  unfolding r.commas
  more_commas b zero a ys lt = comma_turn b a ys (λ _. r.stops Symbols look rest r.semicolon_symbol r.depth) (s.commas d n inner b 0) (is_mark mark.Comma (look ys).kind) (λ x zs lu _. absurd (omega arith))
  more_commas b (suc m) a ys lt = comma_turn b a ys (s.commas d n inner b m) (s.commas d n inner b (suc m)) (is_mark mark.Comma (look ys).kind) (λ x zs _ lu. more_commas b m x zs (omega arith))

  pub comma_step : (b : Bool) (e : RawExpr) (j : ℕ) {h : ℕ} {f : RawExpr} {ys zs ws : Symbols} → reals zs < n → j < d → h < d → Sign mark.Comma ys zs → E h b 1 zs f ws → Quiet b 1 (look ws).kind
      → (u : ℕ) × (u ≤ h) × (s.commas d n inner b (suc d) (e, j) ys ≡ s.commas d n inner b (suc d) (raw.comma (g.at ys) e f, max j u + 1) ws)
  unfolding r.commas
  comma_step b e j {h} {f} {ys} {ws} ln lj lh o y q =
      let w = all.expr b 1 h ln (omega arith) (omega arith) lh y q in (
        w.height,
        w.low,
        ap (λ v. s.comma_by d n inner (s.commas d n inner b d) b (e, j) v ys) (mark_at o)
            ∙ opened j d _ _ lj (step _ (ap (inner.expr b 1) (rest_at o) ∙ w.is) (more_commas b d (raw.comma (g.at ys) e f, max j w.height + 1) ws (omega arith))),
      )

-- What is read is derived: operators, and whole expressions.
use Rattle.std.specs.Prelude.{◌≡◌, ℕ, zero, suc, ◌+◌, ◌<◌, ◌≤◌, max, ◌==◌, Bool, true, false, cond, nat_lt, Ok, Err, Option, Some, None}
use Rattle.std.proofs.Common.{refl, arith, ltb-true, ltb-false, eqb-true}
use Rattle.cc_ast.specs.declared.operator.BinOp.{BinOp}
use Rattle.cc_ast.specs.declared.place.Place.{Place}
use Rattle.cc_lexer.specs.declared.token.Mark.TheVariants as mark
use Rattle.cc_grammar.specs.Symbols.{Symbols, look, rest, is_mark}
use Rattle.cc_grammar.specs.RawTree.{RawExpr, RawTarget}
use Rattle.cc_grammar.specs.Signs.{Prefix, Infix, step_of, target_of, prefix_of, prefix_tree, infix_of, level, infix_tree, assign_of}
use Rattle.cc_grammar.specs.Grammar as g
use Rattle.cc_grammar.specs.Grammar.{At, E}
use Rattle.cc_grammar.specs.Reading.{Outcome, Fault, Sized, semicolon_symbol, is_delete, is_remedy}
use Rattle.cc_grammar.specs.Reading as r
use Rattle.cc_grammar.proofs.Meets.{Done, ok, err, after, branch, fork, weaken}
use Rattle.cc_grammar.proofs.Views.{remedy_true}
use Rattle.cc_grammar.proofs.Marked.{In, consumed, marked, found, expected}
use Rattle.cc_grammar.proofs.Mono.{lower, settable, bounded, above}
use Rattle.cc_grammar.proofs.Soundness.SoundParts.{Derived, Stopped, Operand, SoundInner}
use Rattle.cc_grammar.proofs.Soundness.SoundPrimary.{Chained, callable, primary_sound, suffixes_sound}

-- of a lower level
pub lowered : {d l : ℕ} {n : Bool} {xs ys : Symbols} {a : Sized RawExpr} (m : ℕ) → m ≤ l → ¬ (m ≡ 16) → Derived d n l xs a ys → Derived d n m xs a ys
lowered m le ne h = record { tree = lower m le ne h.tree; low = h.low }

pub operator_at : (n : Bool) (ys : Symbols) (o : Infix) → infix_of n (look ys).kind ≡ Some o → At (look ys).kind ys (rest ys)
operator_at true ys o e = found (infix_of true) ys o refl refl e
operator_at false ys o e = found (infix_of false) ys o refl refl e

module _ (d turns : ℕ) (inner : In) (sound : SoundInner d inner) where
  pub postfix_sound : (n : Bool) (a : Sized RawExpr) (xs ys : Symbols) → Derived d n 15 xs a ys → Done (λ b zs. Derived d n 13 xs b zs) (r.postfix Symbols look rest semicolon_symbol d turns inner a ys)
  unfolding r.postfix
  postfix_sound n a xs ys h = by (step_of (look ys).kind) (target_of a.0) (look ys).after_line refl refl refl where
    same : Derived d n 13 xs a ys
    same = lowered 13 (omega arith) (λ q. omega arith) h

    by : (o : Option Bool) (t : Option RawTarget) (b : Bool) → step_of (look ys).kind ≡ o → target_of a.0 ≡ t → (look ys).after_line ≡ b
        → Done (λ b zs. Derived d n 13 xs b zs) (r.postfix_by Symbols look rest semicolon_symbol d turns inner a o t b ys)
    by (Some up) (Some t) false e f q = branch (nat_lt a.1 d) (λ lt. ok (record { tree = g.postfix (omega arith) (omega arith) h.tree f q (found step_of ys up refl refl e) e; low = omega (arith, ltb-true _ _ lt) })) (λ _. err)
    by (Some up) (Some t) true e f q = ok same
    by (Some up) None b e f q = ok same
    by None t b e f q = ok same

  prefix_expr_sound : (n : Bool) (o : Prefix) (xs : Symbols) → prefix_of (look xs).kind ≡ Some o → Done (λ a ys. Derived d n 13 xs a ys) (r.prefix_expr Symbols look rest semicolon_symbol d turns inner n o xs)
  unfolding r.prefix_expr
  prefix_expr_sound n o xs e = after (sound.expr n 13 (rest xs) (omega arith)) (λ a ys p. by a ys p.0.whole.tree p.1 (prefix_tree o (look xs).place a.0) refl) where
    c : At (look xs).kind xs (rest xs)
    c = found prefix_of xs o refl refl e

    refused : (o : Prefix) (p : Place) (ys : Symbols) → Done (λ a ys. Derived d n 13 xs a ys) (r.wrong_prefix Symbols look rest semicolon_symbol d turns inner o p ys)
    refused (Rattle.cc_grammar.specs.Signs.step up) p ys = err
    refused (Rattle.cc_grammar.specs.Signs.unary o) p ys = err

    by : (a : Sized RawExpr) (ys : Symbols) → E a.1 n 13 (rest xs) a.0 ys → a.1 < d → (f : Option RawExpr) → prefix_tree o (look xs).place a.0 ≡ f
        → Done (λ a ys. Derived d n 13 xs a ys) (r.prefix_by Symbols look rest semicolon_symbol d turns inner o (look xs).place a f ys)
    by a ys x lt (Some f) q = ok (record { tree = g.prefix (omega arith) (omega arith) c e x q; low = omega arith })
    by a ys x lt None q = fork (is_remedy (look ys).kind) _ _
        (λ s. ok (record { tree = g.wrong_prefix (omega arith) (omega arith) c e x q (consumed ys _ refl (remedy_true _ s)); low = omega arith }))
        (λ _. refused o (look xs).place ys)

  unless_sound : {P : Sized RawExpr → Symbols → Type 0} (x : Outcome Symbols Bool) (p : Place) {y : Outcome Symbols (Sized RawExpr)} → Done P y → Done P (r.unless_deleted Symbols look rest semicolon_symbol x p y)
  unless_sound (Ok (true, i)) p h = err
  unless_sound (Ok (false, i)) p h = h
  unless_sound (Err x) p h = err

  pub prefixed_sound : (n : Bool) (o : Prefix) (xs : Symbols) → prefix_of (look xs).kind ≡ Some o → Done (λ a ys. Derived d n 13 xs a ys) (r.prefixed Symbols look rest semicolon_symbol d turns inner n o xs)
  unfolding r.prefixed
  prefixed_sound n o xs e = fork (is_delete o) _ _ (λ _. unless_sound _ _ whole) (λ _. whole) where
    whole : Done (λ a ys. Derived d n 13 xs a ys) (cond (nat_lt 0 d) (r.prefix_expr Symbols look rest semicolon_symbol d turns inner n o xs) (Err (record { cause = r.depth; place = (look xs).place }, xs)))
    whole = branch (nat_lt 0 d) (λ _. prefix_expr_sound n o xs e) (λ _. err)

  -- ---- binary operators

  -- an expression that the next operator may go on with
  pub record Climbs (n : Bool) (l : ℕ) (xs : Symbols) (a : Sized RawExpr) (ys : Symbols) : Type 0 where
    pub whole : Derived d n (max l 3) xs a ys
    pub next : (o : Infix) → infix_of n (look ys).kind ≡ Some o → l ≤ level o → E a.1 n (level o) xs a.0 ys

  pub begin_climb : (n : Bool) (l : ℕ) (xs : Symbols) (a : Sized RawExpr) (ys : Symbols) → l ≤ 13 → Derived d n 13 xs a ys → Climbs n l xs a ys
  begin_climb n l xs a ys b h = record {
    whole = lowered (max l 3) (omega arith) (λ q. omega arith) h;
    next = λ o _ _. lower (level o) (omega (arith, bounded o)) (λ q. omega (arith, bounded o)) h.tree;
  }

  pub climbed : (n : Bool) (l : ℕ) (xs : Symbols) (a : Sized RawExpr) (ys : Symbols) (o : Infix) → infix_of n (look ys).kind ≡ Some o → l ≤ level o → a.1 < d → Climbs n l xs a ys
      → (b : Sized RawExpr) (zs : Symbols) → Operand d n (level o + 1) (rest ys) b zs → b.1 < d → Climbs n l xs (infix_tree o (look ys).place a.0 b.0, max a.1 b.1 + 1) zs
  climbed n l xs a ys o e m lt h b zs p lu = record {
    whole = record { tree = g.binary (omega (arith, above o)) (omega arith) (omega arith) (h.next o e m) (operator_at n ys o e) e p.whole.tree; low = omega arith };
    next = λ q f k. g.binary (omega (arith, p.stopped (omega (arith, above o)) q f)) (omega arith) (omega arith) (h.next o e m) (operator_at n ys o e) e p.whole.tree;
  }

  turn_sound : (n : Bool) (l : ℕ) (xs : Symbols) (a : Sized RawExpr) (ys : Symbols) (again : Sized RawExpr → Symbols → Outcome Symbols (Sized RawExpr)) (o : Option Infix) → infix_of n (look ys).kind ≡ o → Climbs n l xs a ys
      → ((b : Sized RawExpr) (zs : Symbols) → Climbs n l xs b zs → Done (λ c us. Derived d n (max l 3) xs c us × Stopped n l us) (again b zs))
      → Done (λ b zs. Derived d n (max l 3) xs b zs × Stopped n l zs) (r.climb_by Symbols look rest semicolon_symbol d turns inner again n l a o ys)
  turn_sound n l xs a ys again None e h f = ok (h.whole, (λ p q. cc))
  turn_sound n l xs a ys again (Some o) e h f = fork (nat_lt (level o) l) _ _
      (λ lt. ok (h.whole, (λ p q. let same : o ≡ p = cc in rw (← same) (ltb-true _ _ lt))))
      (λ ge. branch (nat_lt a.1 d) (λ lt. after (sound.expr n (level o + 1) (rest ys) (omega (arith, bounded o))) (λ b zs p.
      f _ zs (climbed n l xs a ys o e (ltb-false _ _ ge) (ltb-true _ _ lt) h b zs p.0 p.1))) (λ _. err))

  pub climb_sound : (n : Bool) (l m : ℕ) (xs : Symbols) (a : Sized RawExpr) (ys : Symbols) → Climbs n l xs a ys
      → Done (λ b zs. Derived d n (max l 3) xs b zs × Stopped n l zs) (r.climb Symbols look rest semicolon_symbol d turns inner n l m a ys)
  unfolding r.climb
  climb_sound n l zero xs a ys h = turn_sound n l xs a ys (λ _. r.stops Symbols look rest semicolon_symbol r.depth) (infix_of n (look ys).kind) refl h (λ b zs p. err)
  climb_sound n l (suc m) xs a ys h = turn_sound n l xs a ys (r.climb Symbols look rest semicolon_symbol d turns inner n l m) (infix_of n (look ys).kind) refl h (λ b zs p. climb_sound n l m xs b zs p)

  -- ---- what binds less

  pub conditional_sound : (n : Bool) (a : Sized RawExpr) (xs ys : Symbols) → Derived d n 3 xs a ys → Done (λ b zs. Derived d n 2 xs b zs) (r.conditional Symbols look rest semicolon_symbol d turns inner n a ys)
  unfolding r.conditional
  conditional_sound n a xs ys h = fork (is_mark mark.Question (look ys).kind) _ _
      (λ e. branch (nat_lt a.1 d) (λ lt. after (sound.expr true 1 (rest ys) (omega arith)) (λ x zs p. after (expected mark.Colon zs) (λ _ us c. after (sound.expr n 1 us (omega arith)) (λ y ws q.
      ok (record { tree = g.conditional (omega arith) (omega arith) (omega arith) (omega arith) h.tree (marked mark.Question ys e) p.0.whole.tree c q.0.whole.tree; low = omega (arith, ltb-true _ _ lt, p.1, q.1) }))))) (λ _. err))
      (λ _. ok (lowered 2 (omega arith) (λ q. omega arith) h))

  pub assign_sound : (n : Bool) (a : Sized RawExpr) (xs ys : Symbols) → Derived d n 2 xs a ys → Done (λ b zs. Derived d n 1 xs b zs) (r.assign Symbols look rest semicolon_symbol d turns inner n a ys)
  unfolding r.assign
  assign_sound n a xs ys h = by (assign_of (look ys).kind) (target_of a.0) refl refl where
    same : Derived d n 1 xs a ys
    same = lowered 1 (omega arith) (λ q. omega arith) h

    by : (o : Option (Option BinOp)) (t : Option RawTarget) → assign_of (look ys).kind ≡ o → target_of a.0 ≡ t
        → Done (λ b zs. Derived d n 1 xs b zs) (r.assign_by Symbols look rest semicolon_symbol d turns inner n a o t ys)
    by (Some o) (Some t) e f = branch (nat_lt a.1 d) (λ lt. after (sound.expr n 1 (rest ys) (omega arith)) (λ b zs p.
        ok (record { tree = g.assign (omega arith) (omega arith) (omega arith) (settable t f h.tree) f (found assign_of ys o refl refl e) e p.0.whole.tree; low = omega (arith, ltb-true _ _ lt, p.1) }))) (λ _. err)
    by (Some o) None e f = ok same
    by None t e f = ok same

  comma_sound : (n : Bool) (again : Sized RawExpr → Symbols → Outcome Symbols (Sized RawExpr)) (a : Sized RawExpr) (xs ys : Symbols) (b : Bool) → is_mark mark.Comma (look ys).kind ≡ b → Derived d n 0 xs a ys
      → ((x : Sized RawExpr) (zs : Symbols) → Derived d n 0 xs x zs → Done (λ y us. Derived d n 0 xs y us) (again x zs))
      → Done (λ x zs. Derived d n 0 xs x zs) (r.comma_by Symbols look rest semicolon_symbol d turns inner again n a b ys)
  comma_sound n again a xs ys false e h f = ok h
  comma_sound n again a xs ys true e h f = branch (nat_lt a.1 d) (λ lt. after (sound.expr n 1 (rest ys) (omega arith)) (λ x zs p.
      f _ zs (record { tree = g.comma (omega arith) (omega arith) h.tree (marked mark.Comma ys e) p.0.whole.tree; low = omega (arith, ltb-true _ _ lt, p.1) }))) (λ _. err)

  pub commas_sound : (n : Bool) (m : ℕ) (a : Sized RawExpr) (xs ys : Symbols) → Derived d n 0 xs a ys → Done (λ x zs. Derived d n 0 xs x zs) (r.commas Symbols look rest semicolon_symbol d turns inner n m a ys)
  unfolding r.commas
  commas_sound n zero a xs ys h = comma_sound n (λ _. r.stops Symbols look rest semicolon_symbol r.depth) a xs ys (is_mark mark.Comma (look ys).kind) refl h (λ x zs p. err)
  commas_sound n (suc m) a xs ys h = comma_sound n (r.commas Symbols look rest semicolon_symbol d turns inner n m) a xs ys (is_mark mark.Comma (look ys).kind) refl h (λ x zs p. commas_sound n m x xs zs p)

  pub after_unary_sound : (n : Bool) (l : ℕ) (a : Sized RawExpr) (xs ys : Symbols) → l ≤ 13 → Derived d n 13 xs a ys → Done (λ b zs. Operand d n l xs b zs) (r.after_unary Symbols look rest semicolon_symbol d turns inner n l a ys)
  unfolding r.after_unary
  after_unary_sound n l a xs ys b h = after (climb_sound n l (suc d) xs a ys (begin_climb n l xs a ys b h)) (λ x zs p.
      after {P = λ y us. Derived d n (max l 2) xs y us × (4 ≤ l → Stopped n l us)} (fork (nat_lt l 3) _ _
      (λ lt. weaken (conditional_sound n x xs zs (lowered 3 (omega arith) (λ q. omega arith) p.0)) (λ y us q. (lowered (max l 2) (omega (arith, ltb-true _ _ lt)) (λ s. omega arith) q, (λ s. absurd (omega (arith, ltb-true _ _ lt))))))
      (λ ge. ok (lowered (max l 2) (omega arith) (λ q. omega arith) p.0, (λ _. p.1)))) (λ y us q.
      after {P = λ z vs. Derived d n (max l 1) xs z vs × (4 ≤ l → Stopped n l vs)} (fork (nat_lt l 2) _ _
      (λ lt. weaken (assign_sound n y xs us (lowered 2 (omega arith) (λ s. omega arith) q.0)) (λ z vs s. (lowered (max l 1) (omega (arith, ltb-true _ _ lt)) (λ o. omega arith) s, (λ o. absurd (omega (arith, ltb-true _ _ lt))))))
      (λ ge. ok (lowered (max l 1) (omega arith) (λ s. omega arith) q.0, q.1))) (λ z vs s.
      fork (l == 0) _ _
      (λ e. let zeroth : l ≡ 0 = eqb-true _ _ e in weaken (commas_sound n (suc d) z xs vs (lowered 0 (omega arith) (λ o. omega arith) s.0)) (λ x os o. record { whole = rw zeroth o; stopped = λ t. absurd (omega arith) }))
      (λ _. ok (record { whole = lowered l (omega arith) (λ o. omega arith) s.0; stopped = s.1 })))))

  pub after_head_sound : (n : Bool) (l : ℕ) (a : Sized RawExpr) (xs ys : Symbols) → l ≤ 13 → Chained d false n xs a ys → Done (λ b zs. Operand d n l xs b zs) (r.after_head Symbols look rest semicolon_symbol d turns inner n l a ys)
  unfolding r.after_head
  after_head_sound n l a xs ys b h = after (suffixes_sound d turns inner sound true n (suc d) a xs ys (callable h)) (λ x zs p.
      after (postfix_sound n x xs zs p.is.whole) (λ y us q. after_unary_sound n l y xs us b q))

  pub expr_sound : (n : Bool) (l : ℕ) (xs : Symbols) → l ≤ 13 → Done (λ a ys. Operand d n l xs a ys) (r.expr_of Symbols look rest semicolon_symbol d turns inner n l xs)
  unfolding r.expr_of
  expr_sound n l xs b = fork (l == 17) _ _ (λ e. absurd (omega (arith, eqb-true _ _ e))) (λ _. by (prefix_of (look xs).kind) refl) where
    by : (o : Option Prefix) → prefix_of (look xs).kind ≡ o → Done (λ a ys. Operand d n l xs a ys) (r.expr_by Symbols look rest semicolon_symbol d turns inner n l o xs)
    by None e = after (primary_sound d turns inner sound n xs) (λ a ys p. after_head_sound n l a xs ys b p)
    by (Some o) e = after (prefixed_sound n o xs e) (λ a ys p. after_unary_sound n l a xs ys b p)

-- A rewriting keeps how statements of a chunk's own list set globals and paths.
use Rattle.std.proofs.Common.{◌≡◌, inl, inr, ℕ, suc, ◌≤◌, Bool, true, false, List, [], ◌∷◌, ◌++◌, length, Option, Some, None, is_some, refl, sym, ap, subst, ◌∙◌, arith}
use Rattle.cc_ast.specs.Syntax.{Expr, fun, object, assign, Target, to_var, to_member, to_index, Exprs, Fields, no_fields, more_fields}
use Rattle.cc_ast.specs.declared.tree.Key.{Key}
use Rattle.cc_ast.specs.declared.tree.Ref.{Ref}
use Rattle.cc_meaning.specs.State.{Path, Tables}
use Rattle.cc_meaning.specs.Monad.{pick}
use Rattle.cc_meaning.specs.Shapes.{longer, path_of_target, path_of_key}
use Rattle.cc_meaning.specs.Alike.{In, here, there}
use Rattle.cc_meaning.specs.FlatPaths.{Use, other, Setting, by_value, elsewhere, Mention, used, set, setting_of, in_expr, in_target_of, sets_at, sets_keys, in_statement, same_path, settings, pure, extended}
use Rattle.cc_tied.specs.Placed.{Place, a_value, an_assigned}
use Rattle.cc_tied.specs.Rewrites.{re, re_target, re_fields, re_value}
use Rattle.cc_tied.proofs.Mixed.KeptPaths.{re_fun, re_object, re_assign}
use Rattle.cc_tied.proofs.Mixed.KeptSets.{in_either}
use Rattle.cc_fold.proofs.Paths.{Begins, begins_itself, Before, before_next, begins_after, before_through, path_is, count, count_both}
use Rattle.cc_fold.proofs.DroppingSteps.{Drops}
use Rattle.cc_fold.proofs.WellMade.LessMentions.{Less}
use Rattle.cc_fold.proofs.WellMade.Mentioned.{firm, like_literal, Clear, Mentioned, mentioned_same, mentioned_both, mentioned_set, plain_expr, plain_target, not_firm, mentioned_plain}
use Rattle.cc_fold.proofs.WellMade.RewrittenMentions.{Turned, fits_other, re_less, target_less, target_path}
use Rattle.cc_fold.proofs.WellMade.RewrittenPure.{fields_pure, keys_dotted}

-- ---- what a value sets

-- a value sets its path, and with its keys only paths that go on from it
none_picked : (b : Bool) (s : Setting) (xs : List Setting) → (b ≡ true → ⊥) → length xs ≡ 0 → length (pick b (s ∷ xs) xs) ≡ 0
none_picked true s xs h k = absurd (h refl)
none_picked false s xs h k = k

not_same : (v w : Path) → (Begins v w → ⊥) → same_path v w ≡ true → ⊥
not_same v w h e = h (subst (Begins v) (path_is v w e) begins_itself)

mutual
  unfolding count settings sets_at sets_keys path_of_key longer

  none_at : (v w : Path) (e : Expr) → (Begins v w → ⊥) → count w (sets_at (Some v) e) ≡ 0
  none_at v w (object i fs) h = none_picked (same_path v w) (by_value (object i fs)) (settings w (sets_keys (Some v) fs)) (not_same v w h) (none_in v w fs (λ b. h (begins_after b)))
  none_at v w e h = none_picked (same_path v w) (by_value e) [] (not_same v w h) refl

  none_in : (v w : Path) (fs : Fields) → (Before v w → ⊥) → count w (sets_keys (Some v) fs) ≡ 0
  none_in v w no_fields h = refl
  none_in v w (more_fields (Key.Dotted p) e fs) h =
      let a = none_at (extended v p) w e (λ b. h (before_through (before_next v p) b)) in
      let b = none_in v w fs h in
      count_both w (sets_at (Some (extended v p)) e) (sets_keys (Some v) fs) ∙ omega arith
  none_in v w (more_fields (Key.Quoted t) e fs) h = none_in v w fs h

picked_same : (b : Bool) (s t : Setting) (xs : List Setting) → length xs ≡ 0 → length (pick b (s ∷ xs) xs) ≡ length (pick b (t ∷ []) [])
picked_same true s t xs h = ap suc h
picked_same false s t xs h = h

-- so a path on which none of them goes on is set as often as by its path alone
same_count : (v w : Path) (s : Setting) (e : Expr) → (Before v w → ⊥) → count w (sets_at (Some v) e) ≡ count w (set v s ∷ [])
unfolding count settings sets_at
same_count v w s (object i fs) h = picked_same (same_path v w) (by_value (object i fs)) s (settings w (sets_keys (Some v) fs)) (none_in v w fs h)
same_count v w s e h = picked_same (same_path v w) (by_value e) s [] refl

no_use : {v w : Path} {s : Setting} {u : Use} {ms : List Mention} → In (used w u) (set v s ∷ ms) → In (used w u) ms
no_use (there i) = i

mutual
  unfolding sets_at sets_keys

  unused_at : {A : Type 0} {w : Path} {u : Use} (o : Option Path) (e : Expr) → In (used w u) (sets_at o e) → A
  unused_at None e i = elim i [ ]
  unused_at (Some v) (object j fs) i = unused_in (Some v) fs (no_use i)
  unused_at (Some v) e i = elim (no_use i) [ ]

  unused_in : {A : Type 0} {w : Path} {u : Use} (o : Option Path) (fs : Fields) → In (used w u) (sets_keys o fs) → A
  unused_in o no_fields i = elim i [ ]
  unused_in o (more_fields k e fs) i = elim (in_either (sets_at (path_of_key o k) e) i) [ inl j ↦ unused_at (path_of_key o k) e j | inr j ↦ unused_in o fs j ]

-- what is set to no literal and to no function may be set to any value
any_value : (v : Path) (s : Setting) (e : Expr) → firm s ≡ false → Mentioned (set v s ∷ []) (sets_at (Some v) e)
any_value v s e h = record {
  fewer = λ w c. less w c;
  uses = λ w u i. unused_at (Some v) e i;
  kept = λ w r i f. none i f;
}
  where
    differ : {A : Type 0} → firm s ≡ true → A
    differ k = absurd (cc)

    less : (w : Path) → Clear w (set v s ∷ []) → count w (sets_at (Some v) e) ≤ count w (set v s ∷ [])
    less w c = let a = same_count v w s e (λ b. differ (c v s b here)) in omega arith

    none : {A : Type 0} {w : Path} {r : Setting} → In (set w r) (set v s ∷ []) → firm r ≡ true → A
    none here f = differ f
    none (there i) f = elim i [ ]

-- ---- the rewriting

module _ (T : Tables) (built : Ref → Bool) (step : Expr → Expr) (step_call : ℕ → Expr → Exprs → Expr) (D : Drops T step step_call) (turned : (e : Expr) → Turned e (step e)) (pure_kept : (e : Expr) → pure e ≡ true → pure (step e) ≡ true) where
  abbrev R : Bool → Place → Expr → Expr
  R t q e = re built step step_call t q e

  mutual
    unfolding sets_at sets_keys re_fields firm

    sets_mentioned : (t : Bool) (q : Place) (o : Option Path) (e : Expr) → Mentioned (sets_at o e) (sets_at o (R t q e))
    sets_mentioned t q None e = mentioned_same []
    sets_mentioned t q (Some v) (object i fs) =
        subst (λ z. Mentioned (sets_at (Some v) (object i fs)) (sets_at (Some v) z)) (sym (re_object built step step_call D.stays t q i fs))
        (mentioned_set v (by_value (object i fs)) _ (like_literal i fs _ (keys_dotted built step step_call pure_kept t fs) (fields_pure built step step_call pure_kept t fs)) (keys_mentioned t (Some v) fs))
    sets_mentioned t q (Some v) (fun i f) = subst (λ z. Mentioned (sets_at (Some v) (fun i f)) (sets_at (Some v) z)) (sym (re_fun built step step_call D.stays t q i f)) (mentioned_same _)
    sets_mentioned t q (Some v) e = any_value v (by_value e) (R t q e) refl

    keys_mentioned : (t : Bool) (o : Option Path) (fs : Fields) → Mentioned (sets_keys o fs) (sets_keys o (re_fields built step step_call t fs))
    keys_mentioned t o no_fields = mentioned_same []
    keys_mentioned t o (more_fields k e fs) = mentioned_both (sets_mentioned t a_value (path_of_key o k) e) (keys_mentioned t o fs)

  pub value_less : (e : Expr) → Less (in_expr other e) (in_expr other (re_value built step step_call e))
  unfolding re_value
  value_less e = re_less T built step step_call D turned false a_value other e (fits_other a_value)

  pub value_mentioned : (e : Expr) → Mentioned (in_expr other e) (in_expr other (re_value built step step_call e))
  value_mentioned e = mentioned_plain (plain_expr other e) (value_less e)

  pub target_mentioned : (x : Target) → Mentioned (in_target_of x) (in_target_of (re_target built step step_call x))
  target_mentioned x = mentioned_plain (plain_target x) (target_less T built step step_call D turned x)

  pub initial_mentioned : (own : Bool) (o : Option Path) (e : Expr) → Mentioned (pick own (sets_at o e) (setting_of o elsewhere [])) (pick own (sets_at o (re_value built step step_call e)) (setting_of o elsewhere []))
  unfolding re_value
  initial_mentioned true o e = sets_mentioned false a_value o e
  initial_mentioned false o e = mentioned_same _

  -- ---- an assignment that is a statement

  assigned_by : (o : Option Path) (x : Target) (e : Expr) → Mentioned (pick (is_some o) (sets_at o e) (in_target_of x)) (pick (is_some o) (sets_at o (R false an_assigned e)) (in_target_of (re_target built step step_call x)))
  assigned_by None x e = target_mentioned x
  assigned_by (Some w) x e = sets_mentioned false an_assigned (Some w) e

  assigned : (i : ℕ) (x : Target) (e : Expr) → Mentioned (in_statement true (assign i None x e)) (in_statement true (assign i None (re_target built step step_call x) (R false an_assigned e)))
  unfolding in_statement
  assigned i x e =
      mentioned_both
      (subst (λ z. Mentioned (pick (is_some (path_of_target x)) (sets_at (path_of_target x) e) (in_target_of x)) (pick (is_some z) (sets_at z (R false an_assigned e)) (in_target_of (re_target built step step_call x)))) (sym (target_path T built step step_call D turned x))
      (assigned_by (path_of_target x) x e))
      (mentioned_plain (plain_expr other e) (re_less T built step step_call D turned false an_assigned other e (fits_other an_assigned)))

  -- what was no statement of a chunk's own list may become one
  target_set : (x : Target) (v : Path) → path_of_target x ≡ Some v → in_target_of x ≡ set v elsewhere ∷ []
  unfolding in_target_of path_of_target setting_of
  target_set (to_var i r) v h = ap (λ z. setting_of z elsewhere []) h
  target_set (to_member i e p) v h = ap (λ z. setting_of z elsewhere (in_expr other e)) h
  target_set (to_index i e k) v h = absurd (cc)

  -- no path before this one is set
  abbrev Unset : Path → List Mention → Type 0
  Unset w ms = (v : Path) → Before v w → In (set v elsewhere) ms → ⊥

  record Promoted (ms ns : List Mention) : Type 0 where
    pub fewer : (w : Path) → Unset w ms → count w ns ≤ count w ms
    pub uses : (w : Path) (u : Use) → In (used w u) ns → In (used w u) ms

  promoted_same : (ms : List Mention) → Promoted ms ms
  promoted_same ms = record { fewer = λ w h. omega arith; uses = λ w u i. i }

  promoted_by : (o : Option Path) (x : Target) (e : Expr) → path_of_target x ≡ o → Promoted (in_target_of x ++ in_expr other e) (pick (is_some o) (sets_at o e) (in_target_of x) ++ in_expr other e)
  promoted_by None x e h = promoted_same _
  promoted_by (Some v) x e h = subst (λ z. Promoted (z ++ in_expr other e) (sets_at (Some v) e ++ in_expr other e)) (sym (target_set x v h)) (record {
    fewer = λ w c.
        let a = same_count v w elsewhere e (λ b. c v b here) in
        let b = count_both w (sets_at (Some v) e) (in_expr other e) in
        let d = count_both w (set v elsewhere ∷ []) (in_expr other e) in
        omega arith;
    uses = λ w u i. elim (in_either (sets_at (Some v) e) i) [ inl j ↦ unused_at (Some v) e j | inr j ↦ there j ];
  })

  promoted : (e : Expr) → Promoted (in_expr other e) (in_statement true e)
  unfolding in_expr in_statement
  promoted (assign i None x e) = promoted_by (path_of_target x) x e refl
  promoted (assign i (Some op) x e) = promoted_same _
  promoted e = promoted_same _

  -- a statement that is no assignment
  any_statement : (e : Expr) → Mentioned (in_expr other e) (in_statement true (re_value built step step_call e))
  unfolding firm
  any_statement e =
      let l = value_less e in
      let p = promoted (re_value built step step_call e) in
      record {
        fewer = λ w c. let a = l.fewer w in let b = p.fewer w (λ v b i. let f = c v elsewhere b (l.sets v elsewhere i) in not_firm refl f) in omega arith;
        uses = λ w u i. l.uses w u (p.uses w u i);
        kept = λ w s i f. not_firm ((plain_expr other e).plain w s i) f;
      }

  own_statement : (e : Expr) → Mentioned (in_statement true e) (in_statement true (re_value built step step_call e))
  unfolding in_statement re_value
  own_statement (assign i None x e) = subst (λ z. Mentioned (in_statement true (assign i None x e)) (in_statement true z)) (sym (re_assign built step step_call D.stays false a_value i None x e)) (assigned i x e)
  own_statement (assign i (Some op) x e) = any_statement (assign i (Some op) x e)
  own_statement e = any_statement e

  pub statement_mentioned : (own : Bool) (e : Expr) → Mentioned (in_statement own e) (in_statement own (re_value built step step_call e))
  unfolding in_statement
  statement_mentioned true e = own_statement e
  statement_mentioned false e = value_mentioned e

-- Lists of mentions that follow others: a path is set no more often, if those before it are set to literals
-- and functions alone; it is set to a literal or to a function as before; and its uses come from those before.
use Rattle.std.proofs.Common.{◌≡◌, inl, inr, ℕ, ◌≤◌, Bool, true, false, List, [], ◌∷◌, ◌++◌, length, Option, Some, None, refl, subst, arith}
use Rattle.cc_ast.specs.Syntax.{Expr, lit, var, this, fun, list, object, unary, binary, and, or, cond, assign, step, member, index, call, new, comma, cast, tick, Target, to_var, to_member, to_index, Exprs, no_exprs, more_exprs, Fields, no_fields, more_fields}
use Rattle.cc_meaning.specs.State.{Path}
use Rattle.cc_meaning.specs.Monad.{pick}
use Rattle.cc_meaning.specs.Shapes.{longer, path_of_ref, path_of}
use Rattle.cc_meaning.specs.Alike.{In, here, there}
use Rattle.cc_meaning.specs.FlatPaths.{Use, other, Setting, by_value, by_function, elsewhere, Mention, used, set, below, use_of, setting_of, operand_use, right_use, in_expr, in_target_of, in_exprs, in_fields, same_path, settings, dotted_keys, pure_fields}
use Rattle.cc_tied.proofs.Mixed.KeptSets.{in_left, in_right, in_either}
use Rattle.cc_fold.proofs.Paths.{Before, count, count_both}
use Rattle.cc_fold.proofs.WellMade.LessMentions.{Comes, from_same, comes_within, Less}

-- ---- settings

-- a literal or a function, as a holder has it
unfoldable pub firm : Setting → Bool
firm (by_value (object i fs)) = true
firm (by_value (fun i f)) = true
firm (by_function f) = true
firm _ = false

-- what a literal or a function becomes
pub data Like : Setting → Setting → Type 0 where
  like_literal : (i : ℕ) (fs gs : Fields) → (dotted_keys fs ≡ true → dotted_keys gs ≡ true) → (pure_fields fs ≡ true → pure_fields gs ≡ true) → Like (by_value (object i fs)) (by_value (object i gs))
  like_itself : (s : Setting) → Like s s

pub record Kept (w : Path) (s : Setting) (ns : List Mention) : Type 0 where
  pub setting : Setting
  pub like : Like s setting
  pub stands : In (set w setting) ns

pub kept_within : {w : Path} {s : Setting} {ms ns : List Mention} → ((x : Mention) → In x ms → In x ns) → Kept w s ms → Kept w s ns
kept_within f k = record { setting = k.setting; like = k.like; stands = f _ k.stands }

-- paths before this one are set to literals and functions alone
abbrev pub Clear : Path → List Mention → Type 0
Clear w ms = (v : Path) (s : Setting) → Before v w → In (set v s) ms → firm s ≡ true

pub record Mentioned (ms ns : List Mention) : Type 0 where
  pub fewer : (w : Path) → Clear w ms → count w ns ≤ count w ms
  pub uses : (w : Path) (u : Use) → In (used w u) ns → Comes w u ms
  pub kept : (w : Path) (s : Setting) → In (set w s) ms → firm s ≡ true → Kept w s ns

pub mentioned_same : (ms : List Mention) → Mentioned ms ms
mentioned_same ms = record {
  fewer = λ w c. omega arith;
  uses = λ w u i. from_same i;
  kept = λ w s i f. record { setting = s; like = like_itself s; stands = i };
}

pub mentioned_both : {ms ns ks ls : List Mention} → Mentioned ms ks → Mentioned ns ls → Mentioned (ms ++ ns) (ks ++ ls)
mentioned_both {ms = ms} {ns = ns} {ks = ks} {ls = ls} f g = record {
  fewer = λ w c.
      let a = f.fewer w (λ v s b i. c v s b (in_left ns i)) in
      let b = g.fewer w (λ v s b i. c v s b (in_right ms i)) in
      let d = count_both w ms ns in
      let e = count_both w ks ls in
      omega arith;
  uses = λ w u i. elim (in_either ks i) [ inl j ↦ comes_within (λ x k. in_left ns k) (f.uses w u j) | inr j ↦ comes_within (λ x k. in_right ms k) (g.uses w u j) ];
  kept = λ w s i h. elim (in_either ms i) [ inl j ↦ kept_within (λ x k. in_left ls k) (f.kept w s j h) | inr j ↦ kept_within (λ x k. in_right ks k) (g.kept w s j h) ];
}

-- a setting before both
no_use : {v w : Path} {s : Setting} {u : Use} {ms : List Mention} → In (used w u) (set v s ∷ ms) → In (used w u) ms
no_use (there i) = i

pub mentioned_set : (v : Path) (s t : Setting) {ms ns : List Mention} → Like s t → Mentioned ms ns → Mentioned (set v s ∷ ms) (set v t ∷ ns)
unfolding count settings
mentioned_set v s t {ms = ms} {ns = ns} l m = record {
  fewer = λ w c. by_test w (same_path v w) (m.fewer w (λ x r b i. c x r b (there i)));
  uses = λ w u i. comes_within (λ x j. there j) (m.uses w u (no_use i));
  kept = λ w r i f. first w r i f;
}
  where
    by_test : (w : Path) (b : Bool) → count w ns ≤ count w ms → length (pick b (t ∷ settings w ns) (settings w ns)) ≤ length (pick b (s ∷ settings w ms) (settings w ms))
    by_test w true h = omega arith
    by_test w false h = h

    first : (w : Path) (r : Setting) → In (set w r) (set v s ∷ ms) → firm r ≡ true → Kept w r (set v t ∷ ns)
    first _ _ here f = record { setting = t; like = l; stands = here }
    first w r (there i) f = kept_within (λ x j. there j) (m.kept w r i f)

-- ---- what stands in expressions

-- each setting stands elsewhere than in a statement of a chunk's own list
pub record Plain (ms : List Mention) : Type 0 where
  pub plain : (w : Path) (s : Setting) → In (set w s) ms → s ≡ elsewhere

pub plain_nothing : Plain []
plain_nothing = record { plain = λ w s i. elim i [ ] }

pub plain_both : {ms ns : List Mention} → Plain ms → Plain ns → Plain (ms ++ ns)
plain_both {ms = ms} f g = record { plain = λ w s i. elim (in_either ms i) [ inl j ↦ f.plain w s j | inr j ↦ g.plain w s j ] }

no_set : {v w : Path} {u : Use} {s : Setting} → In (set w s) (used v u ∷ []) → s ≡ elsewhere
no_set (there i) = elim i [ ]

plain_use : (o : Option Path) (u : Use) {ms : List Mention} → Plain ms → Plain (use_of o u ms)
unfolding use_of
plain_use None u h = h
plain_use (Some w) u h = record { plain = λ v s i. no_set i }

one_elsewhere : {v w : Path} {s : Setting} → In (set w s) (set v elsewhere ∷ []) → s ≡ elsewhere
one_elsewhere here = refl
one_elsewhere (there i) = elim i [ ]

plain_setting : (o : Option Path) {ms : List Mention} → Plain ms → Plain (setting_of o elsewhere ms)
unfolding setting_of
plain_setting None h = h
plain_setting (Some w) h = record { plain = λ v s i. one_elsewhere i }

mutual
  unfolding in_expr

  pub plain_expr : (u : Use) (e : Expr) → Plain (in_expr u e)
  plain_expr u (lit i p) = plain_nothing
  plain_expr u (var i r) = plain_use (path_of_ref r) u plain_nothing
  plain_expr u (this i) = plain_nothing
  plain_expr u (fun i f) = plain_nothing
  plain_expr u (list i es) = plain_all es
  plain_expr u (object i fs) = plain_fields fs
  plain_expr u (unary i op e) = plain_expr (operand_use op) e
  plain_expr u (binary i op a b) = plain_both (plain_expr other a) (plain_expr (right_use op) b)
  plain_expr u (and i a b) = plain_both (plain_expr other a) (plain_expr other b)
  plain_expr u (or i a b) = plain_both (plain_expr other a) (plain_expr other b)
  plain_expr u (cond i t a b) = plain_both (plain_both (plain_expr other t) (plain_expr other a)) (plain_expr other b)
  plain_expr u (assign i op t e) = plain_both (plain_target t) (plain_expr other e)
  plain_expr u (step i up prefix t) = plain_target t
  plain_expr u (member i e p) = plain_use (longer (path_of e) p) u (plain_expr other e)
  plain_expr u (index i e k) = plain_both (plain_expr other e) (plain_expr other k)
  plain_expr u (call i f es) = plain_both (plain_expr _ f) (plain_all es)
  plain_expr u (new i f es) = plain_both (plain_expr _ f) (plain_all es)
  plain_expr u (comma i a b) = plain_both (plain_expr other a) (plain_expr other b)
  plain_expr u (cast i d e) = plain_expr (below u) e
  plain_expr u (tick i p e) = plain_expr (below u) e

  pub plain_target : (t : Target) → Plain (in_target_of t)
  plain_target (to_var i r) = plain_setting (path_of_ref r) plain_nothing
  plain_target (to_member i e p) = plain_setting (longer (path_of e) p) (plain_expr other e)
  plain_target (to_index i e k) = plain_both (plain_expr other e) (plain_expr other k)

  plain_all : (es : Exprs) → Plain (in_exprs es)
  plain_all no_exprs = plain_nothing
  plain_all (more_exprs e es) = plain_both (plain_expr other e) (plain_all es)

  plain_fields : (fs : Fields) → Plain (in_fields fs)
  plain_fields no_fields = plain_nothing
  plain_fields (more_fields k e fs) = plain_both (plain_expr other e) (plain_fields fs)

pub not_firm : {s : Setting} {A : Type 0} → s ≡ elsewhere → firm s ≡ true → A
unfolding firm
not_firm {s = s} e f = let h : firm elsewhere ≡ true = subst (λ z. firm z ≡ true) e f in absurd (cc)

-- where nothing is set in a statement of a chunk's own list
pub mentioned_plain : {ms ns : List Mention} → Plain ms → Less ms ns → Mentioned ms ns
mentioned_plain p l = record { fewer = λ w c. l.fewer w; uses = l.uses; kept = λ w s i f. not_firm (p.plain w s i) f }

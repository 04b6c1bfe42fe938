-- Whichever scopes of a program lose what is pure and dead in them, the program does the same.
use Rattle.std.proofs.Common.{◌≡◌, inl, inr, ℕ, Bool, true, false, List, [], ◌++◌, Option, Some, None, refl, sym, subst}
use Rattle.std.specs.Prelude.{◌&&◌}
use Rattle.cc_ast.specs.Syntax.{Expr, assign, Declarator, Stmt, simple, vars, Stmts, Scope, Program}
use Rattle.cc_ast.specs.declared.tree.Ref.{Ref}
use Rattle.cc_meaning.specs.Shapes.{tables_of, path_of_ref, sets_by_option, sets_by_vars, sets_by_value, sets_by_stmt, sets_by_stmts}
use Rattle.cc_meaning.specs.Same.{Same}
use Rattle.cc_meaning.specs.WellMade.{WellMade}
use Rattle.cc_tied.specs.Tied.{built_of}
use Rattle.cc_tied.specs.DropExample.{pure, pure_value, is_dead, keep_live, drop, drop_stmts, AreUnread, DroppingKeeps}
use Rattle.cc_tied.specs.FoldExample.{is_built_in}
use Rattle.cc_tied.specs.Mixed.{MixedScopes}
use Rattle.cc_tied.specs.Promises.{HasNoPaths}
use Rattle.cc_tied.specs.Rewrites.{stay_call, whole_in}
use Rattle.cc_tied.proofs.Injection.Tie.{same_right}
use Rattle.cc_tied.proofs.Unchanged.{no_step_rules}
use Rattle.cc_tied.proofs.Subsets.{Pass, Rewrites, rewritten}
use Rattle.cc_tied.proofs.Mixed.KeptPaths.{Stays}
use Rattle.cc_tied.proofs.Mixed.KeptSets.{Within, in_left, in_either, set_nothing, KeepsSets, stmts_within, declares_same, declares_within}
use Rattle.cc_tied.proofs.Mixed.MixedTables.{same_but_set, sets_more, mixed_bodies}
use Rattle.cc_tied.proofs.Worked.FoldKeeps.{none_of}
use Rattle.cc_tied.proofs.Injection.Pass.{same_tables}
use Rattle.cc_tied.proofs.Injection.Rewrites.{FactsPass, facts_pass_same}
use Rattle.cc_tied.proofs.Worked.DropExample.{first_true, one_of, drop_rules}
use Rattle.cc_tied.proofs.Worked.DropFacts.{own_places, IsWithin, within_catch, dead_facts, fine_unread, dead_gone}

-- ---- what is dropped sets nothing

pure_sets : (e : Expr) → pure e ≡ true → Within (sets_by_value e) []
unfolding pure sets_by_value
pure_sets (assign i op u e) h x j = absurd (cc)
pure_sets e h x j = j

nothing_first : {A : Type 0} (xs ys : List A) → Within xs [] → Within (xs ++ ys) ys
nothing_first xs ys h x j = elim (in_either xs j) [ inl k ↦ elim (h x k) [ ] | inr k ↦ k ]

dead_sets : (dead : ℕ → Bool) (r : Ref) (v : Option Expr) → is_dead dead r ≡ true → Within (sets_by_option (path_of_ref r) v) []
unfolding is_dead path_of_ref sets_by_option
dead_sets dead (Ref.Frame u n) None h x j = j
dead_sets dead (Ref.Frame u n) (Some e) h x j = absurd (set_nothing e x j)
dead_sets dead (Ref.Global n) v h x j = absurd (cc)

live_sets : (dead : ℕ → Bool) (d : Declarator) → Within (sets_by_option (path_of_ref d.variable) d.value) (sets_by_vars (keep_live dead d))
unfolding keep_live sets_by_vars
live_sets dead d = one_of (λ z. Within (sets_by_option (path_of_ref d.variable) d.value) (sets_by_vars z)) (is_dead dead d.variable && pure_value d.value)
    (λ e. dead_sets dead d.variable d.value (first_true _ (pure_value d.value) e))
    (λ x j. in_left [] j)

drop_sets : (s : Stmt) (ss : Stmts) → Within (sets_by_stmt s ++ sets_by_stmts ss) (sets_by_stmts (drop s ss))
unfolding drop sets_by_stmt sets_by_stmts
drop_sets (simple i e) ss = one_of (λ z. Within (sets_by_value e ++ sets_by_stmts ss) (sets_by_stmts z)) (pure e) (λ p. nothing_first (sets_by_value e) (sets_by_stmts ss) (pure_sets e p)) (λ x j. j)
drop_sets (vars i []) ss = nothing_first (sets_by_vars []) (sets_by_stmts ss) none_left
  where
    none_left : Within (sets_by_vars []) []
    none_left x j = j
drop_sets s ss = λ x j. j

keeps_sets : (dead : ℕ → Bool) → KeepsSets (keep_live dead) drop
keeps_sets dead = record { trims = live_sets dead; cuts = drop_sets }

-- ---- the pass

no_step_stays : Stays (λ e. e) stay_call
unfolding stay_call
no_step_stays = record { var = λ i r. refl; fun = λ i f. refl; object = λ i fs. refl; member = λ i e p. refl; assign = λ i op u e. refl; call = λ i j e p es. refl }

module _ (dead : (function place : ℕ) → Bool) (P : Program) where
  abbrev drop_pass : Pass
  drop_pass = record { step = λ f e. e; step_call = λ f. stay_call; trim = λ f. keep_live (dead f); trim_in = λ f. whole_in; cut = λ f. drop }

  built_none : (r : Ref) → is_built_in P r ≡ false → built_of (tables_of P) r ≡ None
  built_none r h = none_of (built_of (tables_of P) r) h

  module _ (W : WellMade P) (none : HasNoPaths P) (unread : AreUnread dead P) (ts : List Scope) (m : MixedScopes (drop_stmts dead P) 0 P.scopes ts) where
    abbrev Q : Program
    Q = record P { scopes = ts }

    more : Within (tables_of P).set (tables_of Q).set
    more = sets_more (drop_stmts dead P) P ts m (λ f ss. stmts_within (is_built_in P) (λ e. e) stay_call no_step_stays (keep_live (dead f)) whole_in drop (keeps_sets (dead f)) ss)

    chosen : Rewrites (is_built_in P) drop_pass P Q
    unfolding rewritten
    chosen f = mixed_bodies (drop_stmts dead P) P ts m f

    pass : FactsPass (dead_facts dead P) P Q none (same_but_set (drop_stmts dead P) P ts m) (is_built_in P) built_none drop_pass (IsWithin P) own_places
    pass = record {
      reached = λ f h. h;
      fine = λ f h. fine_unread dead P (tables_of Q).set W unread f h;
      unbound = λ n f k. k;
      here = λ f. record { catches = 0; is = refl };
      steps = λ f X. no_step_rules _ X (is_built_in P) (same_tables (dead_facts dead P) P Q none (is_built_in P) built_none X) (IsWithin P f) (λ c h. within_catch h) own_places;
      cuts = λ f X. drop_rules (dead_facts dead P) (tables_of P) (same_right (tables_of P) (tables_of Q).set) (is_built_in P) (dead f) (IsWithin P f) own_places X (same_tables (dead_facts dead P) P Q none (is_built_in P) built_none X)
          (λ c h r o d. dead_gone dead P (tables_of Q).set W f c h r o d)
          (λ s. record { keeps = declares_within (tables_of P) (tables_of Q).set more (is_built_in P) (λ e. e) stay_call no_step_stays (keep_live (dead f)) whole_in drop s });
      declares = λ s. record { keeps = declares_same (tables_of P) (tables_of Q).set more s };
    }

    pub same_by_dropping : Same P Q
    same_by_dropping = facts_pass_same (dead_facts dead P) P Q none (same_but_set (drop_stmts dead P) P ts m) (is_built_in P) built_none drop_pass (IsWithin P) own_places pass chosen

pub dropping_keeps : DroppingKeeps
dropping_keeps dead P Q W none unread m = subst (λ z. Same P z) (sym m.others) (same_by_dropping dead P W none unread Q.scopes m.scopes)

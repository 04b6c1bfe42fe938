-- Scopes of which some are folded follow those before.
use Rattle.std.proofs.Common.{◌≡◌, ℕ, Bool, true, List, [], refl, sym, subst}
use Rattle.cc_ast.specs.Syntax.{Expr, Exprs, Stmts, more_stmts, Scope, Program}
use Rattle.cc_ast.specs.declared.tree.Ref.{Ref}
use Rattle.cc_meaning.specs.State.{Tables}
use Rattle.cc_meaning.specs.Alike.{ListT, nil_t, cons_t}
use Rattle.cc_meaning.specs.Shapes.{tables_of}
use Rattle.cc_meaning.specs.FlatPaths.{pure}
use Rattle.cc_tied.specs.Rewrites.{re_stmts, whole, whole_in}
use Rattle.cc_tied.specs.Mixed.{MixedScopes, no_scopes, as_it_was, with_other}
use Rattle.cc_tied.proofs.Mixed.KeptSets.{whole_sets, stmts_within}
use Rattle.cc_fold.specs.Built.{built_globals, built_in}
use Rattle.cc_fold.specs.Fold.{fold, same_call, same_declarator, same_name, same_stmt}
use Rattle.cc_fold.specs.Law.{folded_by}
use Rattle.cc_fold.proofs.DroppingSteps.{Drops}
use Rattle.cc_fold.proofs.WellMade.RewrittenParts.{stmts_fewer}
use Rattle.cc_fold.proofs.WellMade.RewrittenDeclarations.{declares_kept}
use Rattle.cc_fold.proofs.WellMade.RewrittenTrees.{stmts_kept}
use Rattle.cc_fold.proofs.WellMade.RewrittenMentions.{Turned}
use Rattle.cc_fold.proofs.WellMade.RewrittenUses.{stmts_mentioned, all_labels}
use Rattle.cc_fold.proofs.FoldDrops.{fold_drops}
use Rattle.cc_fold.proofs.WellMade.FoldMentions.{fold_turned, fold_pure}
use Rattle.cc_fold.proofs.WellMade.FollowingScopes.{Follows, follows_itself}

module _ (T : Tables) (built : Ref → Bool) (step : Expr → Expr) (step_call : ℕ → Expr → Exprs → Expr) (D : Drops T step step_call) (turned : (e : Expr) → Turned e (step e)) (pure_kept : (e : Expr) → pure e ≡ true → pure (step e) ≡ true) where
  abbrev pub rewritten : (scope : ℕ) → Stmts → Stmts
  rewritten f ss = re_stmts built step step_call whole whole_in more_stmts ss

  -- a scope with its statements rewritten follows it
  follows_rewritten : (f : ℕ) (s : Scope) → Follows T s (record s { body = rewritten f s.body })
  follows_rewritten f s = record {
    params = refl;
    names = refl;
    own = refl;
    parent = refl;
    doc = refl;
    parts = stmts_fewer T built step step_call D 0 s.body;
    declared = declares_kept T built step step_call 0 s.body;
    well = λ o h. stmts_kept T built step step_call D o [] s.body h;
    sets = stmts_within built step step_call D.stays whole whole_in more_stmts whole_sets s.body;
    mentions = λ own. stmts_mentioned T built step step_call D turned pure_kept own s.body;
    labels = all_labels built step step_call s.body;
  }

  pub all_follow : {k : ℕ} {ss ts : List Scope} → MixedScopes rewritten k ss ts → ListT (Follows T) ss ts
  all_follow no_scopes = nil_t
  all_follow (as_it_was {s = s} m) = cons_t (follows_itself T s) (all_follow m)
  all_follow (with_other {k = k} {s = s} e m) = cons_t (subst (Follows T s) (sym e) (follows_rewritten k s)) (all_follow m)

-- the scopes of a program follow those of which some are folded
pub folded_follow : (P : Program) (ts : List Scope) → MixedScopes (folded_by P) 0 P.scopes ts → ListT (Follows (tables_of P)) P.scopes ts
unfolding same_declarator same_name same_stmt
folded_follow P ts m = all_follow (tables_of P) (built_in (built_globals P)) fold same_call (fold_drops (tables_of P)) fold_turned fold_pure m

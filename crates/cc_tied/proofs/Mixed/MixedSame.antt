-- A phase that rewrites expressions and leaves statements whole: whichever scopes it rewrites, the
-- program does the same.
use Rattle.std.proofs.Common.{◌≡◌, ℕ, Bool, false, List, None}
use Rattle.cc_ast.specs.Syntax.{Expr, Exprs, Stmts, more_stmts, Scope, Program}
use Rattle.cc_ast.specs.declared.tree.Ref.{Ref}
use Rattle.cc_meaning.specs.Shapes.{tables_of}
use Rattle.cc_meaning.specs.Same.{Same}
use Rattle.cc_meaning.specs.WellMade.{WellMade}
use Rattle.cc_tied.specs.Tied.{built_of}
use Rattle.cc_tied.specs.Rewrites.{re_stmts, whole, whole_in}
use Rattle.cc_tied.specs.Promises.{HasNoPaths}
use Rattle.cc_tied.specs.PlainFacts.{plain_facts}
use Rattle.cc_tied.specs.Mixed.{MixedScopes}
use Rattle.cc_tied.proofs.Kit.{Kit}
use Rattle.cc_tied.proofs.Parts.{Below}
use Rattle.cc_tied.proofs.Rewriting.{anything, StepRules}
use Rattle.cc_tied.proofs.RewritingBodies.{whole_rules}
use Rattle.cc_tied.proofs.Subsets.{Pass, Rewrites, rewritten}
use Rattle.cc_tied.proofs.Mixed.KeptPaths.{Stays}
use Rattle.cc_tied.proofs.Mixed.KeptSets.{Within, whole_sets, stmts_within, declares_same, declares_within}
use Rattle.cc_tied.proofs.Injection.Tie.{Ctx}
use Rattle.cc_tied.proofs.Mixed.MixedTables.{same_but_set, sets_more, mixed_bodies}
use Rattle.cc_tied.proofs.Injection.Pass.{pass_kit, same_tables}
use Rattle.cc_tied.proofs.Injection.Rewrites.{PlainPass, pass_same}

module _ (built : Ref → Bool) (step : Expr → Expr) (step_call : ℕ → Expr → Exprs → Expr) (S : Stays step step_call) where
  -- what becomes of the statements of a scope
  abbrev pub whole_rewrite : (scope : ℕ) → Stmts → Stmts
  whole_rewrite f ss = re_stmts built step step_call whole whole_in more_stmts ss

  abbrev pub whole_pass : Pass
  whole_pass = record { step = λ f. step; step_call = λ f. step_call; trim = λ f. whole; trim_in = λ f. whole_in; cut = λ f. more_stmts }

  module _ (P : Program) (W : WellMade P) (none : HasNoPaths P) (builts : (r : Ref) → built r ≡ false → built_of (tables_of P) r ≡ None) (ts : List Scope) (m : MixedScopes whole_rewrite 0 P.scopes ts) where
    abbrev Q : Program
    Q = record P { scopes = ts }

    abbrev Anywhere : Ctx → Type 0
    Anywhere c = Unit {0}

    abbrev pub mixed_kit : Kit
    mixed_kit = pass_kit (plain_facts P) P Q none built builts

    pub more : Within (tables_of P).set (tables_of Q).set
    more = sets_more whole_rewrite P ts m (λ f ss. stmts_within built step step_call S whole whole_in more_stmts whole_sets ss)

    pub chosen : Rewrites built whole_pass P Q
    unfolding rewritten
    chosen f = mixed_bodies whole_rewrite P ts m f

    module _ (steps : (X : Below mixed_kit) → StepRules mixed_kit X built Anywhere anything step step_call) where
      pass : PlainPass P Q W none (same_but_set whole_rewrite P ts m) built builts whole_pass
      pass = record {
        steps = λ f X. steps X;
        cuts = λ f X. whole_rules mixed_kit X built Anywhere anything step step_call (same_tables (plain_facts P) P Q none built builts X) (λ n s h. record { keeps = declares_within (tables_of P) (tables_of Q).set more built step step_call S whole whole_in more_stmts s });
        declares = λ s. record { keeps = declares_same (tables_of P) (tables_of Q).set more s };
      }

      pub same_by_scopes : Same P Q
      same_by_scopes = pass_same P Q W none (same_but_set whole_rewrite P ts m) built builts whole_pass pass chosen

-- A phase that rewrites expressions and leaves statements whole, where the functions of some globals
-- are known: whichever scopes it rewrites, the program does the same.
use Rattle.std.proofs.Common.{◌≡◌, inl, inr, ℕ, ◌≤◌, Bool, false, List, [], Option, Some, None, refl, ap, ◌∙◌}
use Rattle.cc_ast.specs.Syntax.{Expr, Exprs, Stmt, fun_decl, Stmts, no_stmts, more_stmts, Scope, Program}
use Rattle.cc_ast.specs.declared.tree.Ref.{Ref}
use Rattle.cc_meaning.specs.State.{Env}
use Rattle.cc_meaning.specs.Monad.{◌>>=◌, Mode}
use Rattle.cc_meaning.specs.Shapes.{body_of, tables_of}
use Rattle.cc_meaning.specs.Meaning.{hoist_one, hoist, bodies}
use Rattle.cc_meaning.specs.Script.{checked, top}
use Rattle.cc_meaning.specs.Same.{Same}
use Rattle.cc_meaning.specs.WellMade.{Reached, WellMade}
use Rattle.cc_tied.specs.Tied.{built_of}
use Rattle.cc_tied.specs.Fine.{FineStmts}
use Rattle.cc_tied.specs.Facts.{Facts}
use Rattle.cc_tied.specs.Rewrites.{re_stmt, re_stmts, whole, whole_in}
use Rattle.cc_tied.specs.Promises.{HasNoPaths}
use Rattle.cc_tied.specs.Mixed.{MixedScopes}
use Rattle.cc_tied.specs.InlineExample.{binds_alone}
use Rattle.cc_tied.proofs.Kit.{Kit}
use Rattle.cc_tied.proofs.Parts.{BodiesT}
use Rattle.cc_tied.proofs.Turns.{AllBodiesT, below_of}
use Rattle.cc_tied.proofs.Rewriting.{anything, StepRules}
use Rattle.cc_tied.proofs.RewritingBodies.{whole_rules}
use Rattle.cc_tied.proofs.Subsets.{rewritten}
use Rattle.cc_tied.proofs.Mixed.KeptPaths.{Stays}
use Rattle.cc_tied.proofs.Mixed.KeptSets.{declares_same, declares_within}
use Rattle.cc_tied.proofs.Mixed.MixedTables.{same_but_set}
use Rattle.cc_tied.proofs.Mixed.MixedSame.{whole_rewrite, whole_pass, more, chosen}
use Rattle.cc_tied.proofs.Injection.Tie.{Ctx}
use Rattle.cc_tied.proofs.Injection.Pass.{pass_kit, same_tables}
use Rattle.cc_tied.proofs.Injection.Functions.{function_facts, fine_functions}
use Rattle.cc_tied.proofs.Injection.Bound.{BoundPass, bound_pass_same}

module _ (built : Ref → Bool) (step : Expr → Expr) (step_call : ℕ → Expr → Exprs → Expr) (S : Stays step step_call) where
  -- ---- statements that stay declare the functions that they declared

  module _ (J : Mode) (g : Env) where
    one_kept : (s : Stmt) → hoist_one J g (re_stmt built step step_call whole whole_in more_stmts s) ≡ hoist_one J g s
    unfolding hoist_one re_stmt
    one_kept (fun_decl i r f) = refl
    one_kept s = refl

    hoist_kept : (ss : Stmts) → hoist J g (re_stmts built step step_call whole whole_in more_stmts ss) ≡ hoist J g ss
    unfolding hoist re_stmts
    hoist_kept no_stmts = refl
    hoist_kept (more_stmts s ss) = ap (λ z. z >>= λ _. hoist J g (re_stmts built step step_call whole whole_in more_stmts ss)) (one_kept s) ∙ ap (λ z. hoist_one J g s >>= λ _. z) (hoist_kept ss)

  module _ (P : Program) (W : WellMade P) (none : HasNoPaths P) (builts : (r : Ref) → built r ≡ false → built_of (tables_of P) r ≡ None) (function_of : ℕ → Option ℕ) (alone : (n f : ℕ) → function_of n ≡ Some f → (g : ℕ) → Reached P g → FineStmts (Unit {0}) (binds_alone n f) tt [] (body_of P g)) (ts : List Scope) (m : MixedScopes (whole_rewrite built step step_call S) 0 P.scopes ts) where
    abbrev F : Facts
    F = function_facts P function_of

    abbrev Q : Program
    Q = record P { scopes = ts }

    abbrev pub bound_kit : Kit
    bound_kit = pass_kit F P Q none built builts

    abbrev Anywhere : Ctx → Type 0
    Anywhere c = Unit {0}

    hoists_kept : (c : ℕ) → hoist checked top (body_of Q c) ≡ hoist checked top (body_of P c)
    unfolding rewritten
    hoists_kept c = elim (chosen built step step_call S P W none builts ts m c) [
      | inl e ↦ ap (λ z. hoist checked top z) e
      | inr e ↦ ap (λ z. hoist checked top z) e ∙ hoist_kept checked top (body_of P c)
    ]

    -- what the steps owe, over bodies that are tied to any depths that suffice
    abbrev pub StepsT : Type 0
    StepsT = (d d' : ℕ) (w : bound_kit.World) → bound_kit.bound w ≤ d → bound_kit.bound' w ≤ d' → AllBodiesT bound_kit P Q w → (tied : BodiesT bound_kit w (bodies checked P d) (bodies checked Q d')) → StepRules bound_kit (below_of bound_kit P Q d d' w tied) built Anywhere anything step step_call

    module _ (steps : StepsT) where
      pass : BoundPass F P Q none (same_but_set (whole_rewrite built step step_call S) P ts m) built builts (whole_pass built step step_call S) (λ f c. Unit {0}) anything
      pass = record {
        reached = λ f h. h;
        fine = λ f h. fine_functions P W function_of alone (tables_of Q).set f h;
        here = λ f. tt;
        rules = λ f d d' w le le' all tied. record {
          steps = steps d d' w le le' all tied;
          cuts = whole_rules bound_kit (below_of bound_kit P Q d d' w tied) built Anywhere anything step step_call (same_tables F P Q none built builts (below_of bound_kit P Q d d' w tied)) (λ n s h. record { keeps = declares_within (tables_of P) (tables_of Q).set (more built step step_call S P W none builts ts m) built step step_call S whole whole_in more_stmts s });
        };
        hoists = hoists_kept;
        declares = λ s. record { keeps = declares_same (tables_of P) (tables_of Q).set (more built step step_call S P W none builts ts m) s };
      }

      pub same_by_bound_scopes : Same P Q
      same_by_bound_scopes = bound_pass_same F P Q none (same_but_set (whole_rewrite built step step_call S) P ts m) built builts (whole_pass built step step_call S) (λ f c. Unit {0}) anything pass (chosen built step step_call S P W none builts ts m)

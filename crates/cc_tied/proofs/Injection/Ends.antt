-- Two programs whose bodies and chunks keep the injection do the same.
use Rattle.std.proofs.Common.{◌≡◌, ◌⊎◌, inr, ℕ, zero, suc, List, [], ◌∷◌, map, Option, Some, None, refl, sym, ap, ◌∙◌}
use Rattle.std.specs.Prelude.{is_some, slice_get}
use Rattle.cc_ast.specs.Syntax.{Program}
use Rattle.cc_ast.specs.declared.tables.GlobalInfo.{GlobalInfo}
use Rattle.cc_meaning.specs.Values.{Val, obj}
use Rattle.cc_meaning.specs.State.{Reply}
use Rattle.cc_meaning.specs.Store.{flat_option}
use Rattle.cc_meaning.specs.SlotRules.{prototype_of_function}
use Rattle.cc_meaning.specs.Shapes.{tables_of}
use Rattle.cc_meaning.specs.Script.{graph_of, start, checked}
use Rattle.cc_meaning.specs.Same.{Same}
use Rattle.cc_tied.specs.Tied.{OptT, none_t, nil_t}
use Rattle.cc_tied.specs.Facts.{Held, holds_function, holds_literal, Facts}
use Rattle.cc_tied.proofs.Sim.{Tie}
use Rattle.cc_tied.proofs.Runs.{RunsT, IsExact, run_tied}
use Rattle.cc_tied.proofs.Equality.EqualModes.{SameEnd, same_end}
use Rattle.cc_tied.proofs.Injection.Table.{none_in, none_tied}
use Rattle.cc_tied.proofs.Injection.Places.{Places}
use Rattle.cc_tied.proofs.Injection.World.{Tabs, no_function, KnownT, function_k, unset_k, Vals}
use Rattle.cc_tied.proofs.Injection.Tie.{with_set, same_right, TiedI, inject}
use Rattle.cc_tied.proofs.Injection.Upkeep.{upkeep, inject_kit}

-- the tables of two programs are the same, but for the functions that globals and paths are set to
pub record SameButSet (P Q : Program) : Type 0 where
  pub tables : tables_of Q ≡ with_set (tables_of P) (same_right (tables_of P) (tables_of Q).set)

abbrev pub no_tabs : Tabs
no_tabs = record { objs = []; frames = []; spare = []; alone = []; still = []; begun = []; stage = [] }

-- ---- what isn't set

abbrev no_value : GlobalInfo → Option Val
no_value g = None

unset : (gs : List GlobalInfo) (n : ℕ) → flat_option (slice_get (map no_value gs) n) ≡ None
unfolding flat_option
unset [] n = refl
unset (g ∷ gs) zero = refl
unset (g ∷ gs) (suc n) = unset gs n

unset_tied : {V : Val → Val → Type 0} {x y : Option Val} → x ≡ None → y ≡ None → OptT V x y
unset_tied e d = rw (e, d) none_t

no_owner : (m p : ℕ) → prototype_of_function (slice_get [] m) ≡ Some (obj p) → ⊥
unfolding prototype_of_function
no_owner m p e = absurd (cc)

globals_of : (P : Program) → (tables_of P).globals ≡ P.globals
unfolding tables_of
globals_of P = refl

graph_by : (P : Program) → graph_of P ≡ map (λ c. c.deps) (tables_of P).chunks
unfolding graph_of tables_of
graph_by P = refl

module _ (F : Facts) (P Q : Program) (same : SameButSet P Q) where
  abbrev pub pair_tie : Tie
  pair_tie = inject F (tables_of P) (same_right (tables_of P) (tables_of Q).set)

  same_globals : P.globals ≡ Q.globals
  same_globals = sym (globals_of P) ∙ sym (ap (λ T. T.globals) same.tables) ∙ globals_of Q

  pub same_graph : graph_of P ≡ graph_of Q
  same_graph = graph_by P ∙ sym (ap (λ T. map (λ c. c.deps) T.chunks) same.tables) ∙ sym (graph_by Q)

  none_set : Places (Vals no_tabs) F.Unread (map no_value P.globals) (map no_value Q.globals)
  none_set = record { count = λ n d. ap (λ gs. is_some (slice_get (map no_value gs) n)) same_globals; each = λ n d. unset_tied (unset P.globals n) (unset Q.globals n) }

  not_known : (g : ℕ) (h : Held) → KnownT no_tabs [] g h (flat_option (slice_get (map no_value P.globals) g))
  unfolding flat_option
  not_known g h = rw (unset P.globals g) (nothing h)
    where
      nothing : (h : Held) → KnownT no_tabs [] g h None
      nothing (holds_function f) = function_k no_function refl
      nothing (holds_literal p) = unset_k

  pub starts : (rs : List Reply) (n : ℕ) → TiedI F (tables_of P) (same_right (tables_of P) (tables_of Q).set) no_tabs (start checked P rs n) (start checked Q rs n)
  unfolding start
  starts rs n = record {
    tables = refl;
    tables' = same.tables;
    objs = none_tied;
    owned = λ m p e. absurd (no_owner m p e);
    mated = λ n o e. absurd (cc);
    frames = none_tied;
    globals = none_set;
    known = λ g h k. not_known g h;
    loaded = refl;
    begun = λ c h. absurd (none_in h);
    failed = refl;
    constructed = λ c h. h;
    handles = nil_t;
    replies = refl;
    budget = refl;
    extra = tt;
  }

  pub exact : IsExact pair_tie
  exact = record { never_short = λ h. h; never_ahead = λ h. h; one_end = λ e. one e }
    where
      one : {e e' : Rattle.cc_meaning.specs.Monad.End} → SameEnd e e' → Rattle.cc_meaning.specs.Same.IsBroken (Rattle.cc_meaning.specs.Script.stopped e) ⊎ (e ≡ e')
      one same_end = inr refl

  -- what a phase gets for its bodies and chunks under this kit
  pub same_by_inject : RunsT (inject_kit F (tables_of P) (same_right (tables_of P) (tables_of Q).set)) P Q → Same P Q
  same_by_inject h = record { graph = same_graph; runs = λ sc f n. run_tied pair_tie (upkeep F (tables_of P) (same_right (tables_of P) (tables_of Q).set)) P Q h sc f exact n no_tabs (starts sc.replies n) }

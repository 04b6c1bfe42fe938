-- Runs of one program from equal states.
use Rattle.std.proofs.Common.{◌≡◌, refl, subst, ℕ, ◌≤◌, List, [], ◌∷◌, arith}
use Rattle.cc_ast.specs.Syntax.{Stmts, no_stmts, more_stmts, Program}
use Rattle.cc_meaning.specs.State.{Tables}
use Rattle.cc_meaning.specs.Shapes.{body_of}
use Rattle.cc_meaning.specs.Meaning.{bodies}
use Rattle.cc_meaning.specs.Script.{Script, Turn, load, call, get, set, turns_from, start}
use Rattle.cc_tied.specs.Tied.{LoadsT, no_turns, load_turn, call_turn, get_turn, set_turn}
use Rattle.cc_tied.proofs.Kit.{Kit}
use Rattle.cc_tied.proofs.Parts.{Below}
use Rattle.cc_tied.proofs.Statements.{FollowsBody}
use Rattle.cc_tied.proofs.Turns.{ProgramT, FollowsChunk, follows_no_chunk, follows_more_chunk, ChunksT, rel_run}
use Rattle.cc_tied.proofs.Sim.{ResT}
use Rattle.cc_tied.proofs.Equality.Equal.{Budgets, Passes, equal, refl_opt}
use Rattle.cc_tied.proofs.Equality.EqualUpkeep.{equal_kit}
use Rattle.cc_tied.proofs.Equality.Reflexive.{LikeT, like_hoist, like_stmts, like_stmt}

-- a program is like itself to a kit, where its functions are tied to themselves alone
module _ (K : Kit) (L : LikeT K) where
  like_chunk : (X : Below K) (c : ℕ) (ss : Stmts) → FollowsChunk K X c ss ss
  like_chunk X c no_stmts = follows_no_chunk K X
  like_chunk X c (more_stmts s ss) = follows_more_chunk K X (L.declares s) (like_stmt K L X (K.outer c) [] s) (like_chunk X c ss)

  pub like_program : ((f f' : ℕ) → K.FunT f f' → f ≡ f') → (P : Program) → ProgramT K P P
  like_program one P = record { parts = λ f f' d d' ft w le le' all tied. subst (λ z. FollowsBody K (record { B = bodies K.J P d; B' = bodies K.J' P d'; w = w; tied = tied }) (K.inside f f') (body_of P f) (body_of P z)) (one f f' ft) (record { hoist = like_hoist K L _ (K.inside f f') (body_of P f); runs = like_stmts K L _ (K.inside f f') [] (body_of P f) }) }

  pub like_chunks : (P : Program) (C : ℕ → Type 0) → ChunksT K P P C
  like_chunks P C = record { lists = λ c d d' q w le le' all tied. record { hoist = like_hoist K L _ (K.outer c) (body_of P c); runs = like_chunk _ c (body_of P c) } }

-- any chunks
pub all_loads : (ts : List Turn) → LoadsT (λ c. Unit {0}) ts
all_loads [] = no_turns
all_loads (load c ∷ ts) = load_turn tt (all_loads ts)
all_loads (call i ∷ ts) = call_turn (all_loads ts)
all_loads (get h n ∷ ts) = get_turn (all_loads ts)
all_loads (set h n x ∷ ts) = set_turn (all_loads ts)

module _ (X : Budgets) (Ts : Tables) (Y : Passes X Ts) where
  abbrev K : Kit
  K = equal_kit X Ts Y

  pub like_equal : LikeT K
  like_equal = record {
    sites = λ i. refl;
    stands = λ c f. refl;
    reads = λ c r. refl;
    writes = λ c r. refl;
    receivers = λ c. tt;
    docs = λ d. refl;
    paths = λ p. record { flat = refl_opt (λ a. refl) _ };
    dots = λ w x p. refl;
    quotes = λ t. tt;
    names = λ p. refl;
    declares = λ s. refl;
  }

  -- one program under one script, from starts that differ in their budgets, where calls go as deep as these suffice for
  pub runs_alike : (P : Program) (sc : Script) (d d' n n' m : ℕ) → n ≤ d → n' ≤ d' → X.J.tables P ≡ Ts → X.J'.tables P ≡ Ts → X.B m n n' → ResT (equal X Ts) (λ v a b. Unit {0}) (record { l = n; r = n'; w = m }) (turns_from X.J P (bodies X.J P d) 0 sc.turns (start X.J P sc.replies n)) (turns_from X.J' P (bodies X.J' P d') 0 sc.turns (start X.J' P sc.replies n'))
  unfolding start
  runs_alike P sc d d' n n' m le le' e e' b =
      rel_run K P P (like_program K like_equal (λ f f' h. h) P) (λ c. Unit {0}) (like_chunks K like_equal P (λ c. Unit {0})) (record { l = n; r = n'; w = m }) d d' le le' (all_loads sc.turns) (start X.J P sc.replies n) (start X.J' P sc.replies n') (record { rest = rw (e, e') refl; budgets = b; tables = e }) (omega arith) (omega arith)

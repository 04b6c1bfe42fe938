-- Scripts of the outside, and the run of a program under one.
use Rattle.std.specs.Prelude.{ℕ, suc, Bool, true, false, not, ◌&&◌, nat_eq, List, [], ◌∷◌, ◌++◌, map, slice_get, Option, Some, None, IsTrue}
use Rattle.std.specs.List.{list_any}
use Rattle.cc_ast.specs.Syntax.{Prim, undefined, Program}
use Rattle.cc_ast.specs.declared.tables.ChunkInfo.{ChunkInfo}
use Rattle.cc_meaning.specs.Values.{Val, prim, obj, out, View, handle, Event, Spot, at_turn}
use Rattle.cc_meaning.specs.State.{keyed_kind, Env, Inner, Reply, State}
use Rattle.cc_meaning.specs.Monad.{seen, End, broken, strayed, Res, ok, threw, over, M, ret, skip, ◌>>=◌, Way, went, thrown, attempt, pay, Mode, stop, say, passed}
use Rattle.cc_meaning.specs.Store.{quoted}
use Rattle.cc_meaning.specs.Judge.{hosts}
use Rattle.cc_meaning.specs.Acts.{judged, changing, was_given, all_given, viewed}
use Rattle.cc_meaning.specs.Shapes.{body_of, tables_of, plain_tables}
use Rattle.cc_meaning.specs.Calls.{Bodies, tell_end, views, call_object, get_on, put_on}
use Rattle.cc_meaning.specs.Meaning.{hoist, ex_chunk, bodies}

-- ---- scripts

-- what the host does: it loads a chunk, calls a handle, or gets or sets a property of one
pub data Turn : Type 0 where
  load : (chunk : ℕ) → Turn
  call : Inner → Turn
  get : (handle : ℕ) → (name : List ℕ) → Turn
  set : (handle : ℕ) → (name : List ℕ) → View → Turn

pub record Script : Type 0 where
  pub turns : List Turn
  pub replies : List Reply

-- which chunks each chunk depends on directly
abbrev pub Graph : Type 0
Graph = List (List ℕ)

unfoldable pub graph_of : Program → Graph
graph_of P = map (λ c. c.deps) P.chunks

unfoldable pub all_in : List ℕ → List ℕ → Bool
all_in [] cs = true
all_in (d ∷ ds) cs = list_any (λ c. nat_eq c d) cs && all_in ds cs

-- a chunk of the program that isn't loaded, while all that it depends on is
unfoldable pub may_load : List ℕ → ℕ → Option (List ℕ) → Bool
unfolding all_in
may_load loaded c None = false
may_load loaded c (Some ds) = not (list_any (λ d. nat_eq d c) loaded) && all_in ds loaded

unfoldable pub follows_from : Graph → List ℕ → List Turn → Bool
unfolding may_load
follows_from G loaded [] = true
follows_from G loaded (load c ∷ ts) = may_load loaded c (slice_get G c) && follows_from G (c ∷ loaded) ts
follows_from G loaded (call i ∷ ts) = follows_from G loaded ts
follows_from G loaded (get h n ∷ ts) = follows_from G loaded ts
follows_from G loaded (set h n x ∷ ts) = follows_from G loaded ts

-- each load names a chunk of the program, at most once and after all that it depends on
unfoldable pub follows : Graph → Script → Bool
unfolding follows_from
follows G sc = follows_from G [] sc.turns

abbrev pub IsFollowing : Program → Script → Type 0
IsFollowing P sc = IsTrue (follows (graph_of P) sc)

-- ---- turns

abbrev pub top : Env
top = record { at = None; this = None; declares = [] }

unfoldable pub deps_of : Option ChunkInfo → List ℕ
deps_of None = []
deps_of (Some c) = c.deps

-- a chunk that this one depends on ended with a throw
unfoldable pub dependency_failed : State → ℕ → Bool
unfolding deps_of
dependency_failed s c = list_any (λ d. list_any (λ f. nat_eq f d) s.failed) (deps_of (slice_get s.tables.chunks c))

unfoldable pub note_load : ℕ → State → State
note_load c s = record s { loaded = s.loaded ++ c ∷ [] }

-- whether a load ended with a throw
unfoldable pub note_end : ℕ → Way Val → State → State
note_end c (went v) s = s
note_end c (thrown v) s = record s { failed = s.failed ++ c ∷ [] }

module _ (J : Mode) where
  unfoldable pub run_chunk : Program → Bodies → ℕ → M Val
  unfolding hoist ex_chunk body_of
  run_chunk P B c = hoist J top (body_of P c) >>= λ _. ex_chunk J B top (body_of P c) >>= λ _. ret (prim undefined)

  unfoldable pub load_chunk : Program → Bodies → Spot → ℕ → M (Unit {0})
  unfolding judged dependency_failed changing note_load run_chunk note_end tell_end
  load_chunk P B i c =
      (λ s. judged J i (hosts true None None (dependency_failed s c)) (changing (note_load c)) s) >>= λ _.
      attempt (run_chunk P B c) >>= λ w. changing (note_end c w) >>= λ _. tell_end w

  -- a call of what a handle stands for
  unfoldable pub call_at : Bodies → Spot → Val → Val → List Val → M Val
  unfolding call_object
  call_at B i (obj n) t vs = call_object J B i n (Some t) vs
  call_at B i (out n) t vs = stop (J.fault 13 i)
  call_at B i (prim p) t vs = stop (J.fault 13 i)

  unfoldable pub call_handle : Bodies → Spot → Inner → M (Unit {0})
  unfolding judged all_given call_at viewed views tell_end
  call_handle B i c s =
      judged J i (hosts (all_given s (handle c.callee ∷ c.this ∷ c.args)) None None false)
      (attempt (call_at B i (viewed s (handle c.callee)) (viewed s c.this) (views s c.args)) >>= λ w. tell_end w) s

  unfoldable pub get_handle : Bodies → Spot → ℕ → List ℕ → M (Unit {0})
  unfolding judged was_given viewed get_on tell_end
  get_handle B i h n s =
      judged J i (hosts (was_given s (handle h)) (Some (viewed s (handle h))) (Some n) false)
      (attempt (get_on J B i (viewed s (handle h)) (quoted n)) >>= λ w. tell_end w) s

  -- a slot that the host makes is keyed, where it is neither kept nor an index
  unfoldable pub set_handle : Spot → ℕ → List ℕ → View → M (Unit {0})
  unfolding judged all_given viewed put_on tell_end
  set_handle i h n x s =
      judged J i (hosts (all_given s (handle h ∷ x ∷ [])) (Some (viewed s (handle h))) (Some n) false)
      (attempt (put_on J i (viewed s (handle h)) (quoted n) keyed_kind (viewed s x) false >>= λ _. ret (prim undefined)) >>= λ w. tell_end w) s

  unfoldable pub turn : Program → Bodies → Spot → Turn → M (Unit {0})
  unfolding load_chunk call_handle get_handle set_handle
  turn P B i (load c) = load_chunk P B i c
  turn P B i (call c) = call_handle B i c
  turn P B i (get h n) = get_handle B i h n
  turn P B i (set h n x) = set_handle i h n x

  unfoldable pub turns_from : Program → Bodies → ℕ → List Turn → M (Unit {0})
  unfolding turn
  turns_from P B n [] = skip
  turns_from P B n (t ∷ ts) = turn P B (at_turn n) t >>= λ _. turns_from P B (suc n) ts

  unfoldable pub start : Program → List Reply → ℕ → State
  start P rs n = record {
    tables = J.tables P;
    objs = [];
    frames = [];
    globals = map (λ g. None) P.globals;
    loaded = [];
    failed = [];
    constructed = [];
    handles = [];
    replies = rs;
    budget = n;
  }

-- ---- the run

-- after the last turn, or before
pub data Finish : Type 0 where
  finished : Finish
  stopped : End → Finish

-- the events that a run tells, in order, and how it ends
pub record Run : Type 0 where
  pub events : List Event
  pub end : Finish

unfoldable pub finish : Res (Unit {0}) → Run
unfolding seen
finish (ok u a s) = record { events = seen u; end = finished }
finish (threw u v s) = record { events = seen u; end = finished }
finish (over u e) = record { events = seen u; end = stopped e }

-- a depth of calls that is the budget's suffices, since each call costs 1
unfoldable pub raw : Mode → Program → Script → ℕ → Res (Unit {0})
unfolding turns_from bodies start
raw J P sc n = turns_from J P (bodies J P n) 0 sc.turns (start J P sc.replies n)

-- the run of a program under a script and a budget
unfoldable pub run : Mode → Program → Script → ℕ → Run
unfolding raw finish
run J P sc n = finish (raw J P sc n)

-- the checked run ends at the first act that breaks a rule
abbrev pub checked : Mode
checked = record { mark = pay; breach = λ r i. stop (broken r i); fault = λ r i. broken r i; tables = tables_of }

-- In the plain run annotations and casts have no effect and price marks cost nothing; it knows no
-- flat paths. It ends at an act that breaks rule 1, 2 or 3, or with a handle that wasn't given out;
-- `this` without a receiver and a slot that isn't there are undefined.
abbrev pub plain : Mode
plain = record { mark = λ p. say (passed p); breach = λ r i. skip; fault = λ r i. strayed i; tables = plain_tables }

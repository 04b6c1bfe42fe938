-- The bodies of functions to any depth, the chunks' own lists and the turns of a script keep a relation.
use Rattle.std.proofs.Common.{◌≡◌, refl, ap, ℕ, zero, suc, ◌≤◌, Bool, true, false, List, [], ◌∷◌, Option, Some, None, arith}
use Rattle.std.specs.Prelude.{slice_get, IsTrue, ◌&&◌, length, pos}
use Rattle.cc_ast.specs.Syntax.{Prim, undefined, whole, text, Stmt, Stmts, no_stmts, more_stmts, Program}
use Rattle.cc_meaning.specs.Values.{Val, prim, out, View, handle, shown_out, got, put, Spot}
use Rattle.cc_meaning.specs.Operators.{list_eq}
use Rattle.cc_meaning.specs.Names.{name_length, name_proto}
use Rattle.cc_meaning.specs.State.{keyed_kind, Inner}
use Rattle.cc_meaning.specs.Monad.{M, ret, skip, ◌>>=◌, Way, attempt, pick}
use Rattle.cc_meaning.specs.Store.{quoted, name_of}
use Rattle.cc_meaning.specs.Judge.{hosts, reads, writes, least_broken}
use Rattle.cc_meaning.specs.Rules.{host_rule, names_well}
use Rattle.cc_meaning.specs.SlotRules.{rule_unless, rule_if, least, read_rule, write_rule, prim_read, outside_rule, slot_rule, is_dotted}
use Rattle.cc_meaning.specs.Acts.{judged, allowed, refused, is_fatal}
use Rattle.cc_meaning.specs.Shapes.{declared_by, body_of}
use Rattle.cc_meaning.specs.Calls.{tell_end, views, prim_member, get_on, put_on}
use Rattle.cc_meaning.specs.Meaning.{result, ex_chunk, bodies}
use Rattle.cc_meaning.specs.Script.{Graph, may_load, follows_from, Turn, load, call, get, set, top, run_chunk, load_chunk, call_at, call_handle, get_handle, set_handle, turn, turns_from}
use Rattle.cc_tied.specs.Tied.{ValT, some_t, prim_t, out_t, obj_t, went_t, thrown_t, LoadsT, no_turns, load_turn, call_turn, get_turn, set_turn}
use Rattle.cc_tied.proofs.Kit.{Kit}
use Rattle.cc_tied.proofs.Parts.{V, ListV, EndV, CompV, Done, BodiesT, Below, val_later, code_later, rel_skip, rel_tell, rel_tell_end}
use Rattle.cc_tied.proofs.Judged.{rel_allowed, rel_prim_write}
use Rattle.cc_tied.proofs.Calls.{first_of_views, rest_of_views, first_t, rest_t, rel_call_object, rel_ask}
use Rattle.cc_tied.proofs.Ends.{normal_end, rel_next, result_tied}
use Rattle.cc_tied.proofs.Statements.{FollowsStmt, FollowsHoist, FollowsBody}

both_true : (a b : Bool) → IsTrue (a && b) → IsTrue a × IsTrue b
both_true true b h = (refl, h)
both_true false b h = absurd (cc)

one_prim : {O : ℕ → ℕ → Type 0} (b : Bool) (p q : Prim) → ValT O (pick b (prim p) (prim q)) (pick b (prim p) (prim q))
one_prim true p q = prim_t
one_prim false p q = prim_t

pub member_tied : {O : ℕ → ℕ → Type 0} (p : Prim) (t : List ℕ) → ValT O (prim_member p t) (prim_member p t)
unfolding prim_member
member_tied (text u) t = one_prim (list_eq t name_length) (whole (pos (length u))) undefined
member_tied _ t = prim_t

module _ (K : Kit) where
  open K use {J, J', tables, tables', World, Later, later, now, bound, bound', bound_later, bound_later', Ctx, outer, inside, FunT, DeclaresT, declares_none, LoadedT, loaded_later, EnvT, env_later, env_top, SpotT, Rel, rel_ret, rel_bind, rel_attempt, rel_fault, rel_tables, rel_frame, rel_loading, rel_note_end, spot_turn, rel_say, rel_show, rel_view, rel_views, rel_host_get, rel_host_set}

  pub end_later : {v u : World} → Later v u → {a b : Way Val} → EndV K v a b → EndV K u a b
  end_later l (went_t h) = went_t (val_later K l h)
  end_later l (thrown_t h) = thrown_t (val_later K l h)

  -- ---- bodies

  -- the bodies of two programs are tied to any depths that suffice, from each world on where the left has no more to pay than in w
  abbrev pub AllBodiesT : (P Q : Program) → World → Type 0
  AllBodiesT P Q w = (v : World) (e e' : ℕ) → bound v ≤ bound w → bound v ≤ e → bound' v ≤ e' → BodiesT K v (bodies J P e) (bodies J' Q e')

  -- what two programs call, to the depths d and d'
  abbrev pub below_of : (P Q : Program) (d d' : ℕ) (w : World) → BodiesT K w (bodies J P d) (bodies J' Q d') → Below K
  below_of P Q d d' w tied = record { B = bodies J P d; B' = bodies J' Q d'; w = w; tied = tied }

  -- The bodies of two programs owe this: tied functions do the same where all that they call does.
  pub record ProgramT (P Q : Program) : Type 0 where
    pub parts : (f f' d d' : ℕ) → FunT f f' → (w : World) → bound w ≤ d → bound' w ≤ d' → AllBodiesT P Q w → (tied : BodiesT K w (bodies J P d) (bodies J' Q d')) → FollowsBody K (below_of P Q d d' w tied) (inside f f') (body_of P f) (body_of Q f')

  module _ (P Q : Program) (h : ProgramT P Q) where
    -- the induction over the run: on what the left can still pay
    pub bodies_tied : (n : ℕ) (w : World) (d d' : ℕ) → bound w ≤ n → bound w ≤ d → bound' w ≤ d' → BodiesT K w (bodies J P d) (bodies J' Q d')
    unfolding bodies
    bodies_tied zero w d d' le ld ld' = record { by = λ v l less less' a b ct t t' vs vs' tt' vt. absurd (omega (arith, le, less)) }
    bodies_tied (suc n) w zero d' le ld ld' = record { by = λ v l less less' a b ct t t' vs vs' tt' vt. absurd (omega (arith, ld, less)) }
    bodies_tied (suc n) w (suc d) zero le ld ld' = record { by = λ v l less less' a b ct t t' vs vs' tt' vt. absurd (omega (arith, ld', less')) }
    bodies_tied (suc n) w (suc d) (suc d') le ld ld' = record {
      by = λ v l less less' a b ct t t' vs vs' tt' vt.
          rel_bind (rel_frame ct tt' vt) (λ v2 l2 m m' et.
          let all : AllBodiesT P Q v2 = λ u e e' ub ue ue'. bodies_tied n u e e' (omega (arith, le, less, ub, bound_later l2)) ue ue' in
          let ld2 : bound v2 ≤ d = omega (arith, ld, less, bound_later l2) in
          let ld2' : bound' v2 ≤ d' = omega (arith, ld', less', bound_later' l2) in
          let body : FollowsBody K (below_of P Q d d' v2 (all v2 d d' (omega arith) ld2 ld2')) (inside a.function b.function) (body_of P a.function) (body_of Q b.function) = h.parts a.function b.function d d' ct.function v2 ld2 ld2' all (all v2 d d' (omega arith) ld2 ld2') in
          rel_bind (rel_bind (body.hoist.by v2 (now v2) _ _ et) (λ v3 l3 _ _ _. body.runs.by v3 l3 _ _ (env_later l3 et))) (λ v4 l4 x y r. rel_ret (result a x) (result b y) (result_tied K (code_later K (later l2 l4) ct) r)));
    }

  -- ---- chunks

  module _ (X : Below K) where
    open X use {B, B', w}

    -- the own list of chunk c
    pub record FollowsChunk (c : ℕ) (ss ss' : Stmts) : Type 0 where
      pub by : (v : World) → Later w v → LoadedT v c → Rel (CompV K) v (ex_chunk J B top ss) (ex_chunk J' B' top ss')

    pub follows_no_chunk : {c : ℕ} → FollowsChunk c no_stmts no_stmts
    unfolding ex_chunk
    follows_no_chunk = record { by = λ v l q. normal_end K }

    pub follows_more_chunk : {c : ℕ} {s s' : Stmt} {ss ss' : Stmts} → DeclaresT (declared_by tables s) (declared_by tables' s') → FollowsStmt K X (outer c) [] s s' → FollowsChunk c ss ss' → FollowsChunk c (more_stmts s ss) (more_stmts s' ss')
    unfolding ex_chunk
    follows_more_chunk d h k = record {
      by = λ v l q.
          rel_bind (rel_tables _ _ (h.by v l _ _ (env_top q d))) (λ v2 l2 a b r. rel_next K r (k.by v2 (later l l2) (loaded_later l2 q)));
    }

    pub record ChunkT (P Q : Program) (c : ℕ) : Type 0 where
      pub hoist : FollowsHoist K X (outer c) (body_of P c) (body_of Q c)
      pub runs : FollowsChunk c (body_of P c) (body_of Q c)

    rel_run_chunk : {P Q : Program} {c : ℕ} → ChunkT P Q c → {v : World} → Later w v → LoadedT v c → Rel (V K) v (run_chunk J P B c) (run_chunk J' Q B' c)
    unfolding run_chunk
    rel_run_chunk h l q =
        rel_bind (h.hoist.by _ l _ _ (env_top q declares_none)) (λ v2 l2 _ _ _.
        rel_bind (h.runs.by v2 (later l l2) (loaded_later l2 q)) (λ v3 l3 a b r. rel_ret (prim undefined) (prim undefined) prim_t))

    rel_load : {P Q : Program} {c : ℕ} → ChunkT P Q c → {v : World} → Later w v → {i i' : Spot} → SpotT i i' → Rel (Done K) v (load_chunk J P B i c) (load_chunk J' Q B' i' c)
    unfolding load_chunk
    rel_load {c = c} h l s =
        rel_bind (rel_loading s c) (λ v2 l2 _ _ q.
        rel_bind (rel_attempt (rel_run_chunk h (later l l2) q)) (λ v3 l3 a b e.
        rel_bind (rel_note_end (loaded_later l3 q) e) (λ v4 l4 _ _ _. rel_tell_end K (end_later l4 e))))

    -- ---- turns of the host

    -- a host that uses a handle that wasn't given out
    rel_hosts : {A A' : Type 0} {R : World → A → A' → Type 0} {v : World} {i i' : Spot} → SpotT i i' → (given : Bool) {m : M A} {m' : M A'} → Rel R v m m' → Rel R v (judged J i (hosts given None None false) m) (judged J' i' (hosts given None None false) m')
    unfolding judged allowed refused is_fatal least_broken host_rule names_well rule_unless
    rel_hosts s true h = h
    rel_hosts s false h = rel_fault s 13

    rel_hosts_out : {A A' : Type 0} {R : World → A → A' → Type 0} {v : World} {i i' : Spot} → SpotT i i' → (given : Bool) (n : ℕ) (t : List ℕ) {m : M A} {m' : M A'} → Rel R v m m' → Rel R v (judged J i (hosts given (Some (out n)) (Some t) false) m) (judged J' i' (hosts given (Some (out n)) (Some t) false) m')
    unfolding judged allowed refused is_fatal least_broken host_rule names_well rule_unless
    rel_hosts_out s true n t h = h
    rel_hosts_out s false n t h = rel_fault s 13

    rel_hosts_prim : {A A' : Type 0} {R : World → A → A' → Type 0} {v : World} {i i' : Spot} → SpotT i i' → (given : Bool) (p : Prim) (t : List ℕ) {m : M A} {m' : M A'} → Rel R v m m' → Rel R v (judged J i (hosts given (Some (prim p)) (Some t) false) m) (judged J' i' (hosts given (Some (prim p)) (Some t) false) m')
    unfolding judged allowed refused is_fatal least_broken host_rule names_well rule_unless
    rel_hosts_prim s true p t h = h
    rel_hosts_prim s false p t h = rel_fault s 13

    rel_call_at : {v : World} → Later w v → {i i' : Spot} → SpotT i i' → {x x' y y' : Val} {vs vs' : List Val} → V K v x x' → V K v y y' → ListV K v vs vs' → Rel (V K) v (call_at J B i x y vs) (call_at J' B' i' x' y' vs')
    unfolding call_at
    rel_call_at l s (obj_t h) yt vt = rel_call_object K X l s h (some_t yt) vt
    rel_call_at l s out_t yt vt = rel_fault s 13
    rel_call_at l s prim_t yt vt = rel_fault s 13

    -- the end of a turn
    rel_ended : {v : World} {m m' : M Val} → Rel (V K) v m m' → Rel (Done K) v (attempt m >>= λ e. tell_end e) (attempt m' >>= λ e. tell_end e)
    rel_ended h = rel_bind (rel_attempt h) (λ v2 l2 a b q. rel_tell_end K q)

    pub rel_call_handle : {v : World} → Later w v → {i i' : Spot} → SpotT i i' → (c : Inner) → Rel (Done K) v (call_handle J B i c) (call_handle J' B' i' c)
    unfolding call_handle views first_of_views rest_of_views
    rel_call_handle l {i = i} {i' = i'} s c = rel_views (handle c.callee ∷ c.this ∷ c.args)
        (λ given vs. judged J i (hosts given None None false) (attempt (call_at J B i (first_of_views vs) (first_of_views (rest_of_views vs)) (rest_of_views (rest_of_views vs))) >>= λ e. tell_end e))
        (λ given vs. judged J' i' (hosts given None None false) (attempt (call_at J' B' i' (first_of_views vs) (first_of_views (rest_of_views vs)) (rest_of_views (rest_of_views vs))) >>= λ e. tell_end e))
        (λ given vs vs' h. rel_hosts s given (rel_ended (rel_call_at l s (first_t K h) (first_t K (rest_t K h)) (rest_t K (rest_t K h)))))

    -- a get of the host on a value that is no object of the program
    rel_out_got : {v : World} → Later w v → {i i' : Spot} → SpotT i i' → (n : ℕ) (t : List ℕ) → Rel (V K) v (get_on J B i (out n) (quoted t)) (get_on J' B' i' (out n) (quoted t))
    unfolding get_on judged allowed least_broken read_rule outside_rule slot_rule rule_if is_dotted name_of
    rel_out_got l s n t = rel_tables _ _ (rel_bind (rel_say (got (shown_out n) t)) (λ v2 l2 _ _ _. rel_ask K X (later l l2) s))

    rel_prim_got : {v : World} {i i' : Spot} → SpotT i i' → (p : Prim) (t : List ℕ) → Rel (V K) v (get_on J B i (prim p) (quoted t)) (get_on J' B' i' (prim p) (quoted t))
    unfolding get_on judged least_broken read_rule is_fatal name_of
    rel_prim_got s p t = rel_allowed K s (reads (prim p) (quoted t)) (reads (prim p) (quoted t)) (λ r. refl) (prim_read p t) (λ v2 l2. rel_tables _ _ (rel_ret (prim_member p t) (prim_member p t) (member_tied p t)))

    rel_host_gets : {v : World} → Later w v → {i i' : Spot} → SpotT i i' → (given : Bool) (t : List ℕ) {x x' : Val} → V K v x x' → Rel (Done K) v (judged J i (hosts given (Some x) (Some t) false) (attempt (get_on J B i x (quoted t)) >>= λ e. tell_end e)) (judged J' i' (hosts given (Some x') (Some t) false) (attempt (get_on J' B' i' x' (quoted t)) >>= λ e. tell_end e))
    unfolding get_on
    rel_host_gets l s given t (obj_t h) = rel_host_get s given h t (λ v2 l2 a b e. rel_tell_end K e)
    rel_host_gets l s given t (out_t {n = n}) = rel_hosts_out s given n t (rel_ended (rel_out_got l s n t))
    rel_host_gets l s given t (prim_t {p = p}) = rel_hosts_prim s given p t (rel_ended (rel_prim_got s p t))

    pub rel_get_handle : {v : World} → Later w v → {i i' : Spot} → SpotT i i' → (h : ℕ) (t : List ℕ) → Rel (Done K) v (get_handle J B i h t) (get_handle J' B' i' h t)
    unfolding get_handle
    rel_get_handle l {i = i} {i' = i'} s h t = rel_view (handle h)
        (λ given x. judged J i (hosts given (Some x) (Some t) false) (attempt (get_on J B i x (quoted t)) >>= λ e. tell_end e))
        (λ given x. judged J' i' (hosts given (Some x) (Some t) false) (attempt (get_on J' B' i' x (quoted t)) >>= λ e. tell_end e))
        (λ given x x' q. rel_host_gets l s given t q)

    -- a set of the host
    rel_out_set : {v : World} {i i' : Spot} → SpotT i i' → (n : ℕ) (t : List ℕ) {x y : Val} → V K v x y → Rel (Done K) v (put_on J i (out n) (quoted t) keyed_kind x false) (put_on J' i' (out n) (quoted t) keyed_kind y false)
    unfolding put_on judged least_broken write_rule is_fatal name_of
    rel_out_set s n t {x = x} {y = y} h = rel_allowed K s (writes (out n) (quoted t) x false) (writes (out n) (quoted t) y false) (λ r. refl) (least (rule_if (list_eq t name_proto) 2) (outside_rule tables (quoted t))) (λ v2 l2. rel_tables _ _ (rel_bind (rel_show (val_later K l2 h)) (λ v3 l3 a b e. rel_tell K (put (shown_out n) t a) (put (shown_out n) t b) (ap (λ z. put (shown_out n) t z) e))))

    rel_put_undefined : {v : World} {m m' : M (Unit {0})} → Rel (Done K) v m m' → Rel (V K) v (m >>= λ _. ret (prim undefined)) (m' >>= λ _. ret (prim undefined))
    rel_put_undefined h = rel_bind h (λ v2 l2 _ _ _. rel_ret (prim undefined) (prim undefined) prim_t)

    rel_host_sets : {v : World} → Later w v → {i i' : Spot} → SpotT i i' → (given : Bool) (t : List ℕ) {o o' x x' : Val} → V K v o o' → V K v x x' → Rel (Done K) v (judged J i (hosts given (Some o) (Some t) false) (attempt (put_on J i o (quoted t) keyed_kind x false >>= λ _. ret (prim undefined)) >>= λ e. tell_end e)) (judged J' i' (hosts given (Some o') (Some t) false) (attempt (put_on J' i' o' (quoted t) keyed_kind x' false >>= λ _. ret (prim undefined)) >>= λ e. tell_end e))
    unfolding put_on
    rel_host_sets l s given t (obj_t h) q = rel_host_set s given h t q (λ v2 l2 a b e. rel_tell_end K e)
    rel_host_sets l s given t (out_t {n = n}) q = rel_hosts_out s given n t (rel_ended (rel_put_undefined (rel_out_set s n t q)))
    rel_host_sets l s given t {x = x} {x' = x'} (prim_t {p = p}) q = rel_hosts_prim s given p t (rel_ended (rel_put_undefined (rel_prim_write K p (quoted t) (quoted t) x x' false false skip skip s)))

    pub rel_set_handle : {v : World} → Later w v → {i i' : Spot} → SpotT i i' → (h : ℕ) (t : List ℕ) (x : View) → Rel (Done K) v (set_handle J i h t x) (set_handle J' i' h t x)
    unfolding set_handle views first_of_views rest_of_views
    rel_set_handle l {i = i} {i' = i'} s h t x = rel_views (handle h ∷ x ∷ [])
        (λ given vs. judged J i (hosts given (Some (first_of_views vs)) (Some t) false) (attempt (put_on J i (first_of_views vs) (quoted t) keyed_kind (first_of_views (rest_of_views vs)) false >>= λ _. ret (prim undefined)) >>= λ e. tell_end e))
        (λ given vs. judged J' i' (hosts given (Some (first_of_views vs)) (Some t) false) (attempt (put_on J' i' (first_of_views vs) (quoted t) keyed_kind (first_of_views (rest_of_views vs)) false >>= λ _. ret (prim undefined)) >>= λ e. tell_end e))
        (λ given vs vs' q. rel_host_sets l s given t (first_t K q) (first_t K (rest_t K q)))

    -- ---- all turns

    module _ (P Q : Program) (C : ℕ → Type 0) (chunks : (c : ℕ) → C c → ChunkT P Q c) where
      pub rel_turns_from : (n : ℕ) {ts : List Turn} → LoadsT C ts → {v : World} → Later w v → Rel (Done K) v (turns_from J P B n ts) (turns_from J' Q B' n ts)
      unfolding turns_from turn
      rel_turns_from n no_turns l = rel_skip K
      rel_turns_from n (load_turn q h) l = rel_bind (rel_load (chunks _ q) l (spot_turn n)) (λ v2 l2 _ _ _. rel_turns_from (suc n) h (later l l2))
      rel_turns_from n (call_turn {c = c} h) l = rel_bind (rel_call_handle l (spot_turn n) c) (λ v2 l2 _ _ _. rel_turns_from (suc n) h (later l l2))
      rel_turns_from n (get_turn {h = a} {n = t} h) l = rel_bind (rel_get_handle l (spot_turn n) a t) (λ v2 l2 _ _ _. rel_turns_from (suc n) h (later l l2))
      rel_turns_from n (set_turn {h = a} {n = t} {x = x} h) l = rel_bind (rel_set_handle l (spot_turn n) a t x) (λ v2 l2 _ _ _. rel_turns_from (suc n) h (later l l2))

  -- ---- the whole run

  -- the own lists of the chunks of C owe the same
  pub record ChunksT (P Q : Program) (C : ℕ → Type 0) : Type 0 where
    pub lists : (c d d' : ℕ) → C c → (w : World) → bound w ≤ d → bound' w ≤ d' → AllBodiesT P Q w → (tied : BodiesT K w (bodies J P d) (bodies J' Q d')) → ChunkT (below_of P Q d d' w tied) P Q c

  pub rel_run : (P Q : Program) → ProgramT P Q → (C : ℕ → Type 0) → ChunksT P Q C → (w : World) (d d' : ℕ) → bound w ≤ d → bound' w ≤ d' → {ts : List Turn} → LoadsT C ts → Rel (Done K) w (turns_from J P (bodies J P d) 0 ts) (turns_from J' Q (bodies J' Q d') 0 ts)
  rel_run P Q h C k w d d' le le' {ts = ts} lt =
      let all : AllBodiesT P Q w = λ u e e' ub ue ue'. bodies_tied P Q h e u e e' ue ue ue' in
      let tied : BodiesT K w (bodies J P d) (bodies J' Q d') = all w d d' (omega arith) le le' in
      rel_turns_from (below_of P Q d d' w tied) P Q C (λ c q. k.lists c d d' q w le le' all tied) 0 lt (now w)

-- the chunks of a program with these dependencies
pub record IsChunk (G : Graph) (c : ℕ) : Type 0 where
  pub deps : List ℕ
  pub found : slice_get G c ≡ Some deps

loadable : (G : Graph) (loaded : List ℕ) (c : ℕ) (o : Option (List ℕ)) → slice_get G c ≡ o → IsTrue (may_load loaded c o) → IsChunk G c
unfolding may_load
loadable G loaded c None e h = absurd (cc)
loadable G loaded c (Some ds) e h = record { deps = ds; found = e }

-- a script that follows the dependencies loads chunks of the program
pub loads_chunks : (G : Graph) (loaded : List ℕ) (ts : List Turn) → IsTrue (follows_from G loaded ts) → LoadsT (IsChunk G) ts
unfolding follows_from
loads_chunks G loaded [] h = no_turns
loads_chunks G loaded (load c ∷ ts) h = load_turn (loadable G loaded c (slice_get G c) refl (both_true _ _ h).0) (loads_chunks G (c ∷ loaded) ts (both_true _ _ h).1)
loads_chunks G loaded (call i ∷ ts) h = call_turn (loads_chunks G loaded ts h)
loads_chunks G loaded (get n t ∷ ts) h = get_turn (loads_chunks G loaded ts h)
loads_chunks G loaded (set n t x ∷ ts) h = set_turn (loads_chunks G loaded ts h)

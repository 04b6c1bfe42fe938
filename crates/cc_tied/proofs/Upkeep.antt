-- What a tie owes for each operation of the store, and the kit that it gives then.
use Rattle.std.proofs.Common.{◌≡◌, ◌∙◌, ℕ, Bool, true, false, List, [], ◌∷◌, ◌++◌, Option, Some, None, refl, sym, ap, subst}
use Rattle.std.specs.Prelude.{slice_get}
use Rattle.cc_ast.specs.Syntax.{Prim, undefined}
use Rattle.cc_ast.specs.declared.operator.BinOp.TheVariants.{Instance}
use Rattle.cc_ast.specs.declared.operator.UnOp.TheVariants.{Typeof}
use Rattle.cc_ast.specs.declared.tree.Ref.{Ref}
use Rattle.cc_meaning.specs.Values.{Val, prim, obj, out, Spot}
use Rattle.cc_meaning.specs.State.{keyed_kind, of_catch, Code, Obj, Env, State}
use Rattle.cc_meaning.specs.Monad.{M, Res, ok, threw, over, ret, skip, stop, after, ◌>>=◌, Way, attempt, with_tables, Mode}
use Rattle.cc_meaning.specs.Store.{Access, quoted, name_of, kind_by, Use}
use Rattle.cc_meaning.specs.SlotRules.{rule_unless}
use Rattle.cc_meaning.specs.Rules.{callable, callee_rule}
use Rattle.cc_meaning.specs.Judge.{Act, reads, writes, calls, hosts, least_broken}
use Rattle.cc_meaning.specs.Acts.{judged, allowed, refused, is_fatal, changing, make_object, make_array, make_instance, make_function, push_frame, read_var, write_var, read_slot, write_slot, remove, probe, walk, operate, operate_one, cast_to, show}
use Rattle.cc_meaning.specs.Calls.{Bodies, code_in, code_at, method_on, prim_member, declares_on, call_object, take_path, keep_path, use_built, reach_method}
use Rattle.cc_meaning.specs.Meaning.{call_frame}
use Rattle.cc_meaning.specs.Script.{note_end}
use Rattle.cc_tied.specs.Tied.{ListT, OptT, none_t, some_t, ValT, WayT, went_t, thrown_t, Sited, CodeT, entering, leaving, loading}
use Rattle.cc_tied.proofs.Kit.{Kit}
use Rattle.cc_tied.proofs.Sim.{Tie, World, Later, now, later, ResT, Sim, fine, sim_as, sim_ret, sim_bind, sim_raise, sim_attempt, sim_say, sim_fault, sim_pay_less, sim_budget, sim_tables, sim_at, sim_given, sim_equal, sim_next_reply, sim_view, sim_views, said_after}

pub record Upkeep (T : Tie) : Type 1 where
  -- what a price mark and a breach do
  pub up_mark : {w : World T} (p : ℕ) → Sim T (λ v a b. Unit {0}) w (T.J.mark p) (T.J'.mark p)
  pub up_breach : {w : World T} {i i' : Spot} → T.SpotT i i' → (r : ℕ) → Sim T (λ v a b. Unit {0}) w (T.J.breach r i) (T.J'.breach r i')
  -- ---- objects

  pub up_object : {w : World T} → Sim T (λ v. T.NewT v.w) w make_object make_object
  pub up_array : {w : World T} {vs vs' : List Val} → ListT (ValT (T.O w.w)) vs vs' → Sim T (λ v. ValT (T.O v.w)) w (make_array vs) (make_array vs')
  pub up_function : {c : T.Ctx} {w : World T} {g h : Env} {f f' i i' : ℕ} → Sited T.SpotT i i' → T.StandT c f f' → T.EnvT c w.w g h → Sim T (λ v. ValT (T.O v.w)) w (make_function f i g) (make_function f' i' h)
  pub up_instance : {w : World T} {m n : ℕ} {a b : Code} → T.O w.w m n → T.RunsT w.w m n a b → Sim T (λ v. ValT (T.O v.w)) w (make_instance m a.function) (make_instance n b.function)
  pub up_read : {w : World T} {m n : ℕ} {a b : Access} {i i' : Spot} → T.SpotT i i' → T.O w.w m n → T.KeyT w.w (obj m) a b → Sim T (λ v. ValT (T.O v.w)) w (read_slot T.J i m a) (read_slot T.J' i' n b)
  pub up_write : {w : World T} {m n : ℕ} {a b : Access} {x y : Val} {d d' : List ℕ} {i i' : Spot} → T.SpotT i i' → T.DeclaresT d d' → T.O w.w m n → T.KeyT w.w (obj m) a b → ValT (T.O w.w) x y → Sim T (λ v p q. Unit {0}) w (λ s. write_slot T.J i m a (kind_by a) x (declares_on s d (obj m)) s) (λ s. write_slot T.J' i' n b (kind_by b) y (declares_on s d' (obj n)) s)
  pub up_remove : {w : World T} {m n : ℕ} {a b : Access} {i i' : Spot} → T.SpotT i i' → T.O w.w m n → T.KeyT w.w (obj m) a b → Sim T (λ v. ValT (T.O v.w)) w (remove T.J i (obj m) a) (remove T.J' i' (obj n) b)
  pub up_probe : {w : World T} {m n : ℕ} {i i' : Spot} → T.SpotT i i' → T.O w.w m n → (t : List ℕ) → Sim T (λ v p q. p ≡ q) w (probe T.J i (obj m) t) (probe T.J' i' (obj n) t)
  pub up_walk : {w : World T} {m n : ℕ} {i i' : Spot} → T.SpotT i i' → T.O w.w m n → Sim T (λ v p q. p ≡ q) w (walk T.J i (obj m)) (walk T.J' i' (obj n))
  pub up_instance_of : {w : World T} {a b x y : Val} {i i' : Spot} → T.SpotT i i' → ValT (T.O w.w) a b → ValT (T.O w.w) x y → Sim T (λ v. ValT (T.O v.w)) w (operate T.J i Instance a x) (operate T.J' i' Instance b y)
  pub up_typeof : {w : World T} {m n : ℕ} {i i' : Spot} → T.SpotT i i' → T.O w.w m n → Sim T (λ v. ValT (T.O v.w)) w (operate_one T.J i Typeof (obj m)) (operate_one T.J' i' Typeof (obj n))
  -- the built-in method that is found is the same
  pub up_method : {w : T.W} {s t : State} {x y : Val} {a b : Access} → T.Tied w s t → ValT (T.O w) x y → T.KeyT w x a b → method_on s x (name_of s.tables a) ≡ method_on t y (name_of t.tables b)
  pub up_method_read : {w : World T} {x y : Val} {a b : Access} {i i' : Spot} → T.SpotT i i' → ValT (T.O w.w) x y → T.KeyT w.w x a b → Sim T (λ v p q. Unit {0}) w (judged T.J i (reads x a) skip) (judged T.J' i' (reads y b) skip)
  -- what is met on the way to a built-in method
  pub up_reach_method : {w : World T} {x y : Val} {a b : Access} {i i' : Spot} → T.SpotT i i' → ValT (T.O w.w) x y → T.KeyT w.w x a b → Sim T (λ v p q. Unit {0}) w (reach_method T.J i x a) (reach_method T.J' i' y b)
  -- a use of what is built in, which may call
  pub up_use : {w : World T} {vs vs' : List Val} {i i' : Spot} (B B' : Bodies) → T.SpotT i i' → (u : Use) → ListT (ValT (T.O w.w)) vs vs' → ((m n : ℕ) (x y : Val) (us us' : List Val) → T.O w.w m n → ValT (T.O w.w) x y → ListT (ValT (T.O w.w)) us us' → Sim T (λ v. ValT (T.O v.w)) w (call_object T.J B i m (Some x) us) (call_object T.J' B' i' n (Some y) us')) → Sim T (λ v. ValT (T.O v.w)) w (use_built T.J B i u vs) (use_built T.J' B' i' u vs')
  -- ---- values that are no objects of the program

  pub up_prim_read : {w : World T} {p : Prim} {a b : Access} {i i' : Spot} → T.SpotT i i' → T.KeyT w.w (prim p) a b → Sim T (λ v. ValT (T.O v.w)) w (judged T.J i (reads (prim p) a) (with_tables (λ T. ret (prim_member p (name_of T a))))) (judged T.J' i' (reads (prim p) b) (with_tables (λ T. ret (prim_member p (name_of T b)))))
  -- where the access breaks no rule, the outside sees one name
  pub up_out_read : {A B : Type 0} {R : World T → A → B → Type 0} {w : World T} {n : ℕ} {a b : Access} {m : M A} {m' : M B} {i i' : Spot} → T.SpotT i i' → T.KeyT w.w (out n) a b → (name_of T.tables a ≡ name_of T.tables' b → Sim T R w m m') → Sim T R w (judged T.J i (reads (out n) a) m) (judged T.J' i' (reads (out n) b) m')
  pub up_out_write : {A B : Type 0} {R : World T → A → B → Type 0} {w : World T} {n : ℕ} {a b : Access} {m : M A} {m' : M B} {i i' : Spot} (x y : Val) (d d' : Bool) → T.SpotT i i' → T.KeyT w.w (out n) a b → (name_of T.tables a ≡ name_of T.tables' b → Sim T R w m m') → Sim T R w (judged T.J i (writes (out n) a x d) m) (judged T.J' i' (writes (out n) b y d') m')
  -- ---- variables, frames, flat paths, casts

  pub up_read_var : {c : T.Ctx} {w : World T} {g h : Env} {r r' : Ref} {i i' : Spot} → T.SpotT i i' → T.EnvT c w.w g h → T.ReadT c r r' → Sim T (λ v. ValT (T.O v.w)) w (read_var T.J i g r) (read_var T.J' i' h r')
  pub up_write_var : {c : T.Ctx} {w : World T} {g h : Env} {r r' : Ref} {x y : Val} {i i' : Spot} → T.SpotT i i' → T.EnvT c w.w g h → T.WriteT c r r' → ValT (T.O w.w) x y → Sim T (λ v p q. Unit {0}) w (write_var T.J i g r x) (write_var T.J' i' h r' y)
  pub up_set_var : {c : T.Ctx} {w : World T} {g h : Env} {r : Ref} {p : Prim} {i i' : Spot} → T.SpotT i i' → T.EnvT c w.w g h → T.SetT c r p → Sim T (λ v a b. Unit {0}) w (write_var T.J i g r (prim p)) (write_var T.J' i' h r (prim p))
  pub up_catch : {c : T.Ctx} {w : World T} {g h : Env} {x y : Val} → T.EnvT c w.w g h → ValT (T.O w.w) x y → Sim T (λ v m n. T.EnvT (T.in_catch c) v.w (record g { at = Some m }) (record h { at = Some n })) w (push_frame of_catch g.at (Some x ∷ [])) (push_frame of_catch h.at (Some y ∷ []))
  pub up_frame : {w : World T} {a b : Code} {t t' : Option Val} {vs vs' : List Val} → CodeT T.SpotT T.FunT (T.UpT w.w) a b → OptT (ValT (T.O w.w)) t t' → ListT (ValT (T.O w.w)) vs vs' → Sim T (λ v m n. T.EnvT (T.inside a.function b.function) v.w (record { at = Some m; this = t; declares = [] }) (record { at = Some n; this = t'; declares = [] })) w (call_frame T.J a vs) (call_frame T.J' b vs')
  pub up_take_path : {w : World T} {p p' : ℕ × ℕ} {x y : Val} {a b : Access} {i i' : Spot} → T.SpotT i i' → T.FlatT p p' → ValT (T.O w.w) x y → T.KeyT w.w x a b → Sim T (λ v m n. Unit {0}) w (take_path T.J i (Some p) x a) (take_path T.J' i' (Some p') y b)
  pub up_keep_path : {w : World T} {p p' : ℕ × ℕ} {x y : Val} {i i' : Spot} → T.SpotT i i' → T.FlatT p p' → ValT (T.O w.w) x y → Sim T (λ v m n. Unit {0}) w (keep_path T.J i (Some p) x) (keep_path T.J' i' (Some p') y)
  pub up_cast : {w : World T} {d d' : ℕ} {x y : Val} {i i' : Spot} → T.SpotT i i' → T.DocT d d' → ValT (T.O w.w) x y → Sim T (λ v m n. Unit {0}) w (cast_to T.J i d x) (cast_to T.J' i' d' y)
  -- ---- calls

  -- tied objects are both functions, or neither is
  pub up_code : {w : T.W} {s t : State} {m n : ℕ} → T.Tied w s t → T.O w m n → OptT (T.RunsT w m n) (code_at s m) (code_at t n)
  pub up_enters : {w : World T} {a b : Code} {t t' : Option Val} {vs vs' : List Val} {i i' : Spot} → T.SpotT i i' → CodeT T.SpotT T.FunT (T.UpT w.w) a b → OptT (ValT (T.O w.w)) t t' → ListT (ValT (T.O w.w)) vs vs' → Sim T (λ v m n. Unit {0}) w (entering T.J i a.function t vs) (entering T.J' i' b.function t' vs')
  pub up_leaves : {w : World T} {f f' : ℕ} {x y : Val} {i i' : Spot} → T.SpotT i i' → T.FunT f f' → (built : Bool) → ValT (T.O w.w) x y → Sim T (λ v m n. Unit {0}) w (leaving T.J i f built x) (leaving T.J' i' f' built y)
  -- ---- the outside

  pub up_show : {w : World T} {x y : Val} → ValT (T.O w.w) x y → Sim T (λ v p q. p ≡ q) w (show x) (show y)
  pub up_loading : {w : World T} {i i' : Spot} → T.SpotT i i' → (c : ℕ) → Sim T (λ v a b. T.LoadedT v.w c) w (loading T.J i c) (loading T.J' i' c)
  pub up_failed : {w : T.W} {s t : State} {c : ℕ} → T.LoadedT w c → T.Tied w s t → T.Tied w (record s { failed = s.failed ++ c ∷ [] }) (record t { failed = t.failed ++ c ∷ [] })
  -- a get and a set by the host: it names no key of a program
  pub up_host_get : {w : World T} {m n : ℕ} {i i' : Spot} → T.SpotT i i' → (given : Bool) → T.O w.w m n → (t : List ℕ) → Sim T (λ v. WayT (ValT (T.O v.w)) (ValT (T.O v.w))) w (judged T.J i (hosts given (Some (obj m)) (Some t) false) (attempt (read_slot T.J i m (quoted t)))) (judged T.J' i' (hosts given (Some (obj n)) (Some t) false) (attempt (read_slot T.J' i' n (quoted t))))
  pub up_host_set : {w : World T} {m n : ℕ} {x y : Val} {i i' : Spot} → T.SpotT i i' → (given : Bool) → T.O w.w m n → (t : List ℕ) → ValT (T.O w.w) x y → Sim T (λ v. WayT (ValT (T.O v.w)) (ValT (T.O v.w))) w (judged T.J i (hosts given (Some (obj m)) (Some t) false) (attempt (write_slot T.J i m (quoted t) keyed_kind x false >>= λ _. ret (prim undefined)))) (judged T.J' i' (hosts given (Some (obj n)) (Some t) false) (attempt (write_slot T.J' i' n (quoted t) keyed_kind y false >>= λ _. ret (prim undefined))))

-- ---- what comes after an act that is judged

after_after : {A B C : Type 0} (r : Res A) (k : A → M B) (j : B → M C) → after (after r k) j ≡ after r (λ a. k a >>= j)
unfolding after ◌>>=◌
after_after (ok u a s) k j = said_after u (k a s) j
after_after (threw u v s) k j = refl
after_after (over u e) k j = refl

refused_bind : {A B : Type 0} (J : Mode) (i : Spot) (b : Bool) (r : ℕ) (m : M A) (k : A → M B) (s : State) → after (refused J i b r m s) k ≡ refused J i b r (m >>= k) s
unfolding refused after stop ◌>>=◌
refused_bind J i true r m k s = refl
refused_bind J i false r m k s = after_after (J.breach r i s) (λ _. m) k

allowed_bind : {A B : Type 0} (J : Mode) (i : Spot) (a : Act) (o : Option ℕ) (m : M A) (k : A → M B) (s : State) → after (allowed J i a o m s) k ≡ allowed J i a o (m >>= k) s
unfolding allowed ◌>>=◌
allowed_bind J i a None m k s = refl
allowed_bind J i a (Some r) m k s = refused_bind J i (is_fatal a r) r m k s

judged_bind : {A B : Type 0} (J : Mode) (i : Spot) (a : Act) (m : M A) (k : A → M B) (s : State) → (judged J i a m >>= k) s ≡ judged J i a (m >>= k) s
unfolding judged ◌>>=◌
judged_bind J i a m k s = allowed_bind J i a (least_broken s.tables s a) m k s

-- ---- a call of a function object

callable_none : (o : Option Obj) → code_in o ≡ None → callable o ≡ Some 2
unfolding code_in callable rule_unless
callable_none None e = refl
callable_none (Some o) e = rw e refl

callable_some : (o : Option Obj) (c : Code) → code_in o ≡ Some c → callable o ≡ None
unfolding code_in callable rule_unless
callable_some None c e = absurd (cc)
callable_some (Some o) c e = rw e refl

runs_none : {A : Type 0} (J : Mode) (i : Spot) (n : ℕ) (k : Option Code → M A) (s : State) → code_at s n ≡ None → judged J i (calls (obj n)) (λ s. k (code_at s n) s) s ≡ stop (J.fault 2 i) s
unfolding judged allowed refused is_fatal least_broken callee_rule code_at
runs_none J i n k s e = ap (λ z. allowed J i (calls (obj n)) z (λ s. k (code_at s n) s) s) (callable_none (slice_get s.objs n) e)

pub runs_some : {A : Type 0} (J : Mode) (i : Spot) (n : ℕ) (k : Option Code → M A) (s : State) (c : Code) → code_at s n ≡ Some c → judged J i (calls (obj n)) (λ s. k (code_at s n) s) s ≡ k (Some c) s
unfolding judged allowed least_broken callee_rule code_at
runs_some J i n k s c e = ap (λ z. allowed J i (calls (obj n)) z (λ s. k (code_at s n) s) s) (callable_some (slice_get s.objs n) c e) ∙ ap (λ z. k z s) e

module _ (T : Tie) (U : Upkeep T) where
  -- what is done after both acts
  pub sim_then : {A B A' B' : Type 0} {R : World T → A → A' → Type 0} {S : World T → B → B' → Type 0} {w : World T} (m : M A) (m' : M A') (k : A → M B) (k' : A' → M B') (i i' : Spot) (a a' : Act) → Sim T R w (judged T.J i a m) (judged T.J' i' a' m') → ((v : World T) → Later T w v → (x : A) (y : A') → R v x y → Sim T S v (k x) (k' y)) → Sim T S w (judged T.J i a (m >>= k)) (judged T.J' i' a' (m' >>= k'))
  sim_then {S = S} {w = w} m m' k k' i i' a a' h f s t ti le le' =
      subst (λ z. ResT T S w z (judged T.J' i' a' (m' >>= k') t)) (judged_bind T.J i a m k s)
      (subst (λ z. ResT T S w ((judged T.J i a m >>= k) s) z) (judged_bind T.J' i' a' m' k' t)
      (sim_bind T h f s t ti le le'))

  pub sim_method : {A B : Type 0} {R : World T → A → B → Type 0} {w : World T} {x y : Val} {a b : Access} (k : Option Use → M A) (k' : Option Use → M B) → ValT (T.O w.w) x y → T.KeyT w.w x a b → ((u : Option Use) → Sim T R w (k u) (k' u)) → Sim T R w (λ s. k (method_on s x (name_of s.tables a)) s) (λ s. k' (method_on s y (name_of s.tables b)) s)
  sim_method {R = R} {w = w} {x = x} {a = a} k k' h q f s t ti le le' = subst (λ z. ResT T R w (k (method_on s x (name_of s.tables a)) s) (k' z t)) (U.up_method ti h q) (f (method_on s x (name_of s.tables a)) s t ti le le')

  pub sim_runs : {A B : Type 0} {R : World T → A → B → Type 0} {w : World T} {m n : ℕ} {i i' : Spot} (k : Option Code → M A) (k' : Option Code → M B) → T.SpotT i i' → T.O w.w m n → ((a b : Code) → T.RunsT w.w m n a b → Sim T R w (k (Some a)) (k' (Some b))) → Sim T R w (judged T.J i (calls (obj m)) (λ s. k (code_at s m) s)) (judged T.J' i' (calls (obj n)) (λ s. k' (code_at s n) s))
  sim_runs {R = R} {w = w} {m = m} {n = n} {i = i} {i' = i'} k k' si h f s t ti le le' = by_code (code_at s m) (code_at t n) refl refl (U.up_code ti h)
    where
      by_code : (c c' : Option Code) → code_at s m ≡ c → code_at t n ≡ c' → OptT (T.RunsT w.w m n) c c' → ResT T R w (judged T.J i (calls (obj m)) (λ s. k (code_at s m) s) s) (judged T.J' i' (calls (obj n)) (λ s. k' (code_at s n) s) t)
      by_code None None e e' none_t =
          subst (λ z. ResT T R w z (judged T.J' i' (calls (obj n)) (λ s. k' (code_at s n) s) t)) (sym (runs_none T.J i m k s e))
          (subst (λ z. ResT T R w (stop (T.J.fault 2 i) s) z) (sym (runs_none T.J' i' n k' t e')) (sim_fault T si 2 s t ti le le'))
      by_code None (Some b) e e' h = elim h [ ]
      by_code (Some a) None e e' h = elim h [ ]
      by_code (Some a) (Some b) e e' (some_t r) =
          subst (λ z. ResT T R w z (judged T.J' i' (calls (obj n)) (λ s. k' (code_at s n) s) t)) (sym (runs_some T.J i m k s a e))
          (subst (λ z. ResT T R w (k (Some a) s) z) (sym (runs_some T.J' i' n k' t b e')) (f a b r s t ti le le'))

  -- a load that ended with a throw is noted
  pub sim_note_end : {w : World T} {c : ℕ} {a b : Way Val} → T.LoadedT w.w c → WayT (ValT (T.O w.w)) (ValT (T.O w.w)) a b → Sim T (λ v p q. Unit {0}) w (changing (note_end c a)) (changing (note_end c b))
  unfolding changing note_end ret
  sim_note_end l (went_t h) s t ti le le' = fine T tt tt tt ti le le'
  sim_note_end {w = w} l (thrown_t h) s t ti le le' = fine T tt tt tt (U.up_failed l ti) le le'

  abbrev pub kit : Kit
  kit = record {
    J = T.J;
    J' = T.J';
    tables = T.tables;
    tables' = T.tables';
    World = World T;
    Later = Later T;
    now = now T;
    later = later T;
    bound = λ w. w.l;
    bound' = λ w. w.r;
    bound_later = λ l. l.0;
    bound_later' = λ l. l.1;
    Ctx = T.Ctx;
    outer = T.outer;
    inside = T.inside;
    in_catch = T.in_catch;
    SpotT = T.SpotT;
    spot_turn = T.spot_turn;
    FunT = T.FunT;
    StandT = T.StandT;
    ReadT = T.ReadT;
    WriteT = T.WriteT;
    SetT = T.SetT;
    BindT = T.BindT;
    bind_inside = λ h. T.bind_inside h;
    ThisT = T.ThisT;
    DocT = T.DocT;
    DeclaresT = T.DeclaresT;
    FlatT = T.FlatT;
    QuotedT = T.QuotedT;
    WrittenT = T.WrittenT;
    read_built = T.read_built;
    declares_none = T.declares_none;
    O = λ w. T.O w.w;
    NewT = λ w. T.NewT w.w;
    RunsT = λ w. T.RunsT w.w;
    KeyT = λ w. T.KeyT w.w;
    UpT = λ w. T.UpT w.w;
    EnvT = λ c w. T.EnvT c w.w;
    LoadedT = λ w. T.LoadedT w.w;
    O_later = λ l h. T.O_later l.2 h;
    new_later = λ l h. T.new_later l.2 h;
    key_later = λ l h. T.key_later l.2 h;
    up_later = λ l h. T.up_later l.2 h;
    env_later = λ l h. T.env_later l.2 h;
    loaded_later = λ l h. T.loaded_later l.2 h;
    new_value = λ h. T.new_value h;
    runs_code = λ h. T.runs_code h;
    key_runtime = λ x v e. T.key_runtime x v e;
    key_quoted = λ x h. T.key_quoted x h;
    key_written = λ x h. T.key_written x h;
    env_top = λ l h. T.env_top l h;
    env_this = λ h k. T.env_this h k;
    env_declares = λ h. T.env_declares h;
    Rel = Sim T;
    rel_as = sim_as T;
    rel_ret = sim_ret T;
    rel_bind = sim_bind T;
    rel_raise = sim_raise T;
    rel_attempt = sim_attempt T;
    rel_mark = U.up_mark;
    rel_pay_less = sim_pay_less T;
    rel_budget = sim_budget T;
    rel_tables = sim_tables T;
    rel_at = sim_at T;
    rel_say = sim_say T;
    rel_fault = sim_fault T;
    rel_breach = U.up_breach;
    rel_given = sim_given T;
    rel_equal = sim_equal T;
    rel_object = U.up_object;
    rel_array = U.up_array;
    rel_function = U.up_function;
    rel_instance = U.up_instance;
    rel_read = U.up_read;
    rel_write = U.up_write;
    rel_remove = U.up_remove;
    rel_probe = U.up_probe;
    rel_walk = U.up_walk;
    rel_instance_of = U.up_instance_of;
    rel_typeof = U.up_typeof;
    rel_method = sim_method;
    rel_method_read = U.up_method_read;
    rel_reach_method = U.up_reach_method;
    rel_use = U.up_use;
    rel_prim_read = U.up_prim_read;
    rel_out_read = U.up_out_read;
    rel_out_write = U.up_out_write;
    rel_read_var = U.up_read_var;
    rel_write_var = U.up_write_var;
    rel_set_var = U.up_set_var;
    rel_catch = U.up_catch;
    rel_frame = U.up_frame;
    rel_take_path = U.up_take_path;
    rel_keep_path = U.up_keep_path;
    rel_cast = U.up_cast;
    rel_runs = sim_runs;
    rel_enters = U.up_enters;
    rel_leaves = U.up_leaves;
    rel_show = U.up_show;
    rel_next_reply = sim_next_reply T;
    rel_view = sim_view T;
    rel_views = sim_views T;
    rel_loading = U.up_loading;
    rel_note_end = sim_note_end;
    rel_host_get = λ si given h t f. sim_then _ _ _ _ _ _ _ _ (U.up_host_get si given h t) f;
    rel_host_set = λ si given h t x f. sim_then _ _ _ _ _ _ _ _ (U.up_host_set si given h t x) f;
  }

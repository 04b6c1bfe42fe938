-- What a relation between runs owes, so that programs keep it.
use Rattle.std.proofs.Common.{◌≡◌, ℕ, suc, ◌≤◌, Bool, false, List, [], ◌∷◌, Option, Some}
use Rattle.cc_ast.specs.Syntax.{Prim, undefined}
use Rattle.cc_ast.specs.declared.operator.BinOp.TheVariants.{Instance}
use Rattle.cc_ast.specs.declared.operator.UnOp.TheVariants.{Typeof}
use Rattle.cc_ast.specs.declared.tree.Ref.{Ref}
use Rattle.cc_meaning.specs.Values.{Val, prim, obj, out, View, Event, Spot, at_turn}
use Rattle.cc_meaning.specs.Operators.{strict_equal, key_text}
use Rattle.cc_meaning.specs.State.{keyed_kind, of_catch, Code, Env, Tables, State}
use Rattle.cc_meaning.specs.Monad.{told, M, ret, skip, raise, stop, say, ◌>>=◌, Way, attempt, pay, with_budget, with_tables, Mode}
use Rattle.cc_meaning.specs.Store.{Access, quoted, runtime, name_of, kind_by, Use}
use Rattle.cc_meaning.specs.Judge.{reads, writes, calls, hosts}
use Rattle.cc_meaning.specs.Acts.{is_whole, judged, changing, make_object, make_array, make_instance, make_function, push_frame, read_var, write_var, read_slot, write_slot, remove, probe, walk, operate, operate_one, cast_to, show, next_reply, was_given, all_given, viewed}
use Rattle.cc_meaning.specs.Calls.{Bodies, code_at, method_on, prim_member, declares_on, views, call_object, take_path, keep_path, use_built, reach_method}
use Rattle.cc_meaning.specs.Meaning.{call_frame}
use Rattle.cc_meaning.specs.Script.{top, note_end}
use Rattle.cc_tied.specs.Tied.{ListT, OptT, ValT, WayT, Sited, CodeT, built_of, entering, leaving, loading}

pub record Kit : Type 1 where
  -- how the left run and the right run are judged, and the tables of their programs
  pub J : Mode
  pub J' : Mode
  pub tables : Tables
  pub tables' : Tables
  -- ---- worlds: what is known of two states, and what stays known

  pub World : Type 0
  pub Later : World → World → Type 0
  pub now : (w : World) → Later w w
  pub later : {u v w : World} → Later u v → Later v w → Later u w
  -- the most that the left run and the right run can still pay
  pub bound : World → ℕ
  pub bound' : World → ℕ
  pub bound_later : {v w : World} → Later v w → bound w ≤ bound v
  pub bound_later' : {v w : World} → Later v w → bound' w ≤ bound' v
  -- ---- what is tied by its place in the two programs alone

  -- where a part of a program stands: in a chunk's own list, in the bodies of two functions, or in a catch clause there
  pub Ctx : Type 0
  pub outer : (chunk : ℕ) → Ctx
  pub inside : (function function' : ℕ) → Ctx
  pub in_catch : Ctx → Ctx
  pub SpotT : Spot → Spot → Type 0
  pub spot_turn : (n : ℕ) → SpotT (at_turn n) (at_turn n)
  -- functions that may be called; that may be made at a place
  pub FunT : ℕ → ℕ → Type 0
  pub StandT : Ctx → ℕ → ℕ → Type 0
  -- references that are read, and that are written; places where `this` may stand
  pub ReadT : Ctx → Ref → Ref → Type 0
  pub WriteT : Ctx → Ref → Ref → Type 0
  -- variables that are set by their one declaration alone: to a literal, and, before a chunk's own list runs, to a function
  pub SetT : Ctx → Ref → Prim → Type 0
  pub BindT : Ctx → Ref → (function : ℕ) → Type 0
  pub bind_inside : {f f' g : ℕ} {r : Ref} → BindT (inside f f') r g → ⊥
  pub ThisT : Ctx → Type 0
  -- docs of casts; functions whose prototype a statement declares; flat paths
  pub DocT : ℕ → ℕ → Type 0
  pub DeclaresT : List ℕ → List ℕ → Type 0
  pub FlatT : ℕ × ℕ → ℕ × ℕ → Type 0
  -- texts that may be written as keys on both sides; and on the right alone
  pub QuotedT : List ℕ → Type 0
  pub WrittenT : List ℕ → Type 0
  pub read_built : {c : Ctx} {r r' : Ref} → ReadT c r r' → built_of tables r ≡ built_of tables' r'
  pub declares_none : DeclaresT [] []
  -- ---- what is tied in a world

  -- objects; objects that a literal has just made; codes of two function objects
  pub O : World → ℕ → ℕ → Type 0
  pub NewT : World → Val → Val → Type 0
  pub RunsT : World → (m n : ℕ) → Code → Code → Type 0
  -- keys of accesses to this object of the left run; frames around two functions; environments; chunks whose load has begun
  pub KeyT : World → Val → Access → Access → Type 0
  pub UpT : World → (function function' : ℕ) → Option ℕ → Option ℕ → Type 0
  pub EnvT : Ctx → World → Env → Env → Type 0
  pub LoadedT : World → (chunk : ℕ) → Type 0
  pub O_later : {v w : World} → Later v w → {m n : ℕ} → O v m n → O w m n
  pub new_later : {v w : World} → Later v w → {a b : Val} → NewT v a b → NewT w a b
  pub key_later : {v w : World} → Later v w → {x : Val} {a b : Access} → KeyT v x a b → KeyT w x a b
  pub up_later : {v w : World} → Later v w → {f f' : ℕ} {a b : Option ℕ} → UpT v f f' a b → UpT w f f' a b
  pub env_later : {c : Ctx} {v w : World} → Later v w → {g h : Env} → EnvT c v g h → EnvT c w g h
  pub loaded_later : {v w : World} → Later v w → {c : ℕ} → LoadedT v c → LoadedT w c
  pub new_value : {w : World} {a b : Val} → NewT w a b → ValT (O w) a b
  pub runs_code : {w : World} {m n : ℕ} {a b : Code} → RunsT w m n a b → CodeT SpotT FunT (UpT w) a b
  pub key_runtime : {w : World} (x v : Val) {t : List ℕ} → key_text v ≡ Some t → KeyT w x (runtime t (is_whole v)) (runtime t (is_whole v))
  pub key_quoted : {w : World} (x : Val) {t : List ℕ} → QuotedT t → KeyT w x (quoted t) (quoted t)
  pub key_written : {w : World} (x : Val) {t : List ℕ} → WrittenT t → KeyT w x (runtime t false) (quoted t)
  pub env_top : {w : World} {c : ℕ} {d d' : List ℕ} → LoadedT w c → DeclaresT d d' → EnvT (outer c) w (record top { declares = d }) (record top { declares = d' })
  pub env_this : {c : Ctx} {w : World} {g h : Env} → ThisT c → EnvT c w g h → OptT (ValT (O w)) g.this h.this
  pub env_declares : {c : Ctx} {w : World} {g h : Env} → EnvT c w g h → DeclaresT g.declares h.declares
  -- ---- runs

  pub Rel : {A B : Type 0} → (World → A → B → Type 0) → World → M A → M B → Type 0
  pub rel_as : {A B : Type 0} {R S : World → A → B → Type 0} {w : World} {m : M A} {m' : M B} → ((v : World) → Later w v → (a : A) (b : B) → R v a b → S v a b) → Rel R w m m' → Rel S w m m'
  pub rel_ret : {A B : Type 0} {R : World → A → B → Type 0} {w : World} → (a : A) (b : B) → R w a b → Rel R w (ret a) (ret b)
  pub rel_bind : {A B A' B' : Type 0} {R : World → A → A' → Type 0} {S : World → B → B' → Type 0} {w : World} {m : M A} {m' : M A'} {k : A → M B} {k' : A' → M B'} → Rel R w m m' → ((v : World) → Later w v → (a : A) (a' : A') → R v a a' → Rel S v (k a) (k' a')) → Rel S w (m >>= k) (m' >>= k')
  pub rel_raise : {A B : Type 0} {R : World → A → B → Type 0} {w : World} {a b : Val} → ValT (O w) a b → Rel R w (raise a) (raise b)
  pub rel_attempt : {A B : Type 0} {R : World → A → B → Type 0} {w : World} {m : M A} {m' : M B} → Rel R w m m' → Rel (λ v. WayT (ValT (O v)) (R v)) w (attempt m) (attempt m')
  pub rel_mark : {w : World} (p : ℕ) → Rel (λ v a b. Unit {0}) w (J.mark p) (J'.mark p)
  pub rel_pay_less : {A B : Type 0} {R : World → A → B → Type 0} {w : World} {m : M A} {m' : M B} → ((v : World) → Later w v → suc (bound v) ≤ bound w → suc (bound' v) ≤ bound' w → Rel R v m m') → Rel R w (pay 1 >>= λ _. m) (pay 1 >>= λ _. m')
  pub rel_budget : {A B : Type 0} {R : World → A → B → Type 0} {w : World} {f : ℕ → M A} {f' : ℕ → M B} → ((v : World) → Later w v → (n n' : ℕ) → bound v ≤ n → bound' v ≤ n' → Rel R v (f n) (f' n')) → Rel R w (with_budget f) (with_budget f')
  pub rel_tables : {A B : Type 0} {R : World → A → B → Type 0} {w : World} (f : Tables → M A) (f' : Tables → M B) → Rel R w (f tables) (f' tables') → Rel R w (with_tables f) (with_tables f')
  -- parts that do the same in states with the tables of their program
  pub rel_at : {A B : Type 0} {R : World → A → B → Type 0} {w : World} (m n : M A) (m' n' : M B) → ((s : State) → s.tables ≡ tables → m s ≡ n s) → ((t : State) → t.tables ≡ tables' → m' t ≡ n' t) → Rel R w n n' → Rel R w m m'
  pub rel_say : {w : World} (e : Event) → Rel (λ v a b. Unit {0}) w (say (told e)) (say (told e))
  pub rel_fault : {A B : Type 0} {R : World → A → B → Type 0} {w : World} {i i' : Spot} → SpotT i i' → (r : ℕ) → Rel R w (stop (J.fault r i)) (stop (J'.fault r i'))
  pub rel_breach : {w : World} {i i' : Spot} → SpotT i i' → (r : ℕ) → Rel (λ v a b. Unit {0}) w (J.breach r i) (J'.breach r i')
  -- what a right part that only gives a value gives
  pub rel_given : {A B : Type 0} {R : World → A → B → Type 0} {w : World} {m : M A} (b : B) → Rel R w m (ret b) → Rel (λ v x y. R v x y × (y ≡ b)) w m (ret b)
  -- tied objects are one to one
  pub rel_equal : {A B : Type 0} {R : World → A → B → Type 0} {w : World} {m : M A} {m' : M B} {a b x y : Val} → ValT (O w) a b → ValT (O w) x y → (strict_equal a x ≡ strict_equal b y → Rel R w m m') → Rel R w m m'
  -- ---- objects

  pub rel_object : {w : World} → Rel NewT w make_object make_object
  pub rel_array : {w : World} {vs vs' : List Val} → ListT (ValT (O w)) vs vs' → Rel (λ v. ValT (O v)) w (make_array vs) (make_array vs')
  pub rel_function : {c : Ctx} {w : World} {g h : Env} {f f' i i' : ℕ} → Sited SpotT i i' → StandT c f f' → EnvT c w g h → Rel (λ v. ValT (O v)) w (make_function f i g) (make_function f' i' h)
  pub rel_instance : {w : World} {m n : ℕ} {a b : Code} → O w m n → RunsT w m n a b → Rel (λ v. ValT (O v)) w (make_instance m a.function) (make_instance n b.function)
  pub rel_read : {w : World} {m n : ℕ} {a b : Access} {i i' : Spot} → SpotT i i' → O w m n → KeyT w (obj m) a b → Rel (λ v. ValT (O v)) w (read_slot J i m a) (read_slot J' i' n b)
  pub rel_write : {w : World} {m n : ℕ} {a b : Access} {x y : Val} {d d' : List ℕ} {i i' : Spot} → SpotT i i' → DeclaresT d d' → O w m n → KeyT w (obj m) a b → ValT (O w) x y → Rel (λ v p q. Unit {0}) w (λ s. write_slot J i m a (kind_by a) x (declares_on s d (obj m)) s) (λ s. write_slot J' i' n b (kind_by b) y (declares_on s d' (obj n)) s)
  pub rel_remove : {w : World} {m n : ℕ} {a b : Access} {i i' : Spot} → SpotT i i' → O w m n → KeyT w (obj m) a b → Rel (λ v. ValT (O v)) w (remove J i (obj m) a) (remove J' i' (obj n) b)
  pub rel_probe : {w : World} {m n : ℕ} {i i' : Spot} → SpotT i i' → O w m n → (t : List ℕ) → Rel (λ v p q. p ≡ q) w (probe J i (obj m) t) (probe J' i' (obj n) t)
  pub rel_walk : {w : World} {m n : ℕ} {i i' : Spot} → SpotT i i' → O w m n → Rel (λ v p q. p ≡ q) w (walk J i (obj m)) (walk J' i' (obj n))
  pub rel_instance_of : {w : World} {a b x y : Val} {i i' : Spot} → SpotT i i' → ValT (O w) a b → ValT (O w) x y → Rel (λ v. ValT (O v)) w (operate J i Instance a x) (operate J' i' Instance b y)
  pub rel_typeof : {w : World} {m n : ℕ} {i i' : Spot} → SpotT i i' → O w m n → Rel (λ v. ValT (O v)) w (operate_one J i Typeof (obj m)) (operate_one J' i' Typeof (obj n))
  -- the built-in method that is found, with which both go on
  pub rel_method : {A B : Type 0} {R : World → A → B → Type 0} {w : World} {x y : Val} {a b : Access} (k : Option Use → M A) (k' : Option Use → M B) → ValT (O w) x y → KeyT w x a b → ((u : Option Use) → Rel R w (k u) (k' u)) → Rel R w (λ s. k (method_on s x (name_of s.tables a)) s) (λ s. k' (method_on s y (name_of s.tables b)) s)
  -- a read of a built-in method, whose value isn't wanted
  pub rel_method_read : {w : World} {x y : Val} {a b : Access} {i i' : Spot} → SpotT i i' → ValT (O w) x y → KeyT w x a b → Rel (λ v p q. Unit {0}) w (judged J i (reads x a) skip) (judged J' i' (reads y b) skip)
  -- what is met on the way to a built-in method
  pub rel_reach_method : {w : World} {x y : Val} {a b : Access} {i i' : Spot} → SpotT i i' → ValT (O w) x y → KeyT w x a b → Rel (λ v p q. Unit {0}) w (reach_method J i x a) (reach_method J' i' y b)
  -- a use of what is built in, which may call
  pub rel_use : {w : World} {vs vs' : List Val} {i i' : Spot} (B B' : Bodies) → SpotT i i' → (u : Use) → ListT (ValT (O w)) vs vs' → ((m n : ℕ) (x y : Val) (us us' : List Val) → O w m n → ValT (O w) x y → ListT (ValT (O w)) us us' → Rel (λ v. ValT (O v)) w (call_object J B i m (Some x) us) (call_object J' B' i' n (Some y) us')) → Rel (λ v. ValT (O v)) w (use_built J B i u vs) (use_built J' B' i' u vs')
  -- ---- values that are no objects of the program

  pub rel_prim_read : {w : World} {p : Prim} {a b : Access} {i i' : Spot} → SpotT i i' → KeyT w (prim p) a b → Rel (λ v. ValT (O v)) w (judged J i (reads (prim p) a) (with_tables (λ T. ret (prim_member p (name_of T a))))) (judged J' i' (reads (prim p) b) (with_tables (λ T. ret (prim_member p (name_of T b)))))
  -- where the access breaks no rule, the outside sees one name
  pub rel_out_read : {A B : Type 0} {R : World → A → B → Type 0} {w : World} {n : ℕ} {a b : Access} {m : M A} {m' : M B} {i i' : Spot} → SpotT i i' → KeyT w (out n) a b → (name_of tables a ≡ name_of tables' b → Rel R w m m') → Rel R w (judged J i (reads (out n) a) m) (judged J' i' (reads (out n) b) m')
  pub rel_out_write : {A B : Type 0} {R : World → A → B → Type 0} {w : World} {n : ℕ} {a b : Access} {m : M A} {m' : M B} {i i' : Spot} (x y : Val) (d d' : Bool) → SpotT i i' → KeyT w (out n) a b → (name_of tables a ≡ name_of tables' b → Rel R w m m') → Rel R w (judged J i (writes (out n) a x d) m) (judged J' i' (writes (out n) b y d') m')
  -- ---- variables, frames, flat paths, casts

  pub rel_read_var : {c : Ctx} {w : World} {g h : Env} {r r' : Ref} {i i' : Spot} → SpotT i i' → EnvT c w g h → ReadT c r r' → Rel (λ v. ValT (O v)) w (read_var J i g r) (read_var J' i' h r')
  pub rel_write_var : {c : Ctx} {w : World} {g h : Env} {r r' : Ref} {x y : Val} {i i' : Spot} → SpotT i i' → EnvT c w g h → WriteT c r r' → ValT (O w) x y → Rel (λ v p q. Unit {0}) w (write_var J i g r x) (write_var J' i' h r' y)
  pub rel_set_var : {c : Ctx} {w : World} {g h : Env} {r : Ref} {p : Prim} {i i' : Spot} → SpotT i i' → EnvT c w g h → SetT c r p → Rel (λ v a b. Unit {0}) w (write_var J i g r (prim p)) (write_var J' i' h r (prim p))
  pub rel_catch : {c : Ctx} {w : World} {g h : Env} {x y : Val} → EnvT c w g h → ValT (O w) x y → Rel (λ v m n. EnvT (in_catch c) v (record g { at = Some m }) (record h { at = Some n })) w (push_frame of_catch g.at (Some x ∷ [])) (push_frame of_catch h.at (Some y ∷ []))
  pub rel_frame : {w : World} {a b : Code} {t t' : Option Val} {vs vs' : List Val} → CodeT SpotT FunT (UpT w) a b → OptT (ValT (O w)) t t' → ListT (ValT (O w)) vs vs' → Rel (λ v m n. EnvT (inside a.function b.function) v (record { at = Some m; this = t; declares = [] }) (record { at = Some n; this = t'; declares = [] })) w (call_frame J a vs) (call_frame J' b vs')
  pub rel_take_path : {w : World} {p p' : ℕ × ℕ} {x y : Val} {a b : Access} {i i' : Spot} → SpotT i i' → FlatT p p' → ValT (O w) x y → KeyT w x a b → Rel (λ v m n. Unit {0}) w (take_path J i (Some p) x a) (take_path J' i' (Some p') y b)
  pub rel_keep_path : {w : World} {p p' : ℕ × ℕ} {x y : Val} {i i' : Spot} → SpotT i i' → FlatT p p' → ValT (O w) x y → Rel (λ v m n. Unit {0}) w (keep_path J i (Some p) x) (keep_path J' i' (Some p') y)
  pub rel_cast : {w : World} {d d' : ℕ} {x y : Val} {i i' : Spot} → SpotT i i' → DocT d d' → ValT (O w) x y → Rel (λ v m n. Unit {0}) w (cast_to J i d x) (cast_to J' i' d' y)
  -- ---- calls

  -- a call of a function object, which goes on with its code
  pub rel_runs : {A B : Type 0} {R : World → A → B → Type 0} {w : World} {m n : ℕ} {i i' : Spot} (k : Option Code → M A) (k' : Option Code → M B) → SpotT i i' → O w m n → ((a b : Code) → RunsT w m n a b → Rel R w (k (Some a)) (k' (Some b))) → Rel R w (judged J i (calls (obj m)) (λ s. k (code_at s m) s)) (judged J' i' (calls (obj n)) (λ s. k' (code_at s n) s))
  pub rel_enters : {w : World} {a b : Code} {t t' : Option Val} {vs vs' : List Val} {i i' : Spot} → SpotT i i' → CodeT SpotT FunT (UpT w) a b → OptT (ValT (O w)) t t' → ListT (ValT (O w)) vs vs' → Rel (λ v m n. Unit {0}) w (entering J i a.function t vs) (entering J' i' b.function t' vs')
  pub rel_leaves : {w : World} {f f' : ℕ} {x y : Val} {i i' : Spot} → SpotT i i' → FunT f f' → (built : Bool) → ValT (O w) x y → Rel (λ v m n. Unit {0}) w (leaving J i f built x) (leaving J' i' f' built y)
  -- ---- the outside

  pub rel_show : {w : World} {x y : Val} → ValT (O w) x y → Rel (λ v p q. p ≡ q) w (show x) (show y)
  pub rel_next_reply : {w : World} → Rel (λ v p q. p ≡ q) w next_reply next_reply
  -- what views stand for, and whether they were given out
  pub rel_view : {A B : Type 0} {R : World → A → B → Type 0} {w : World} (x : View) (k : Bool → Val → M A) (k' : Bool → Val → M B) → ((given : Bool) (v v' : Val) → ValT (O w) v v' → Rel R w (k given v) (k' given v')) → Rel R w (λ s. k (was_given s x) (viewed s x) s) (λ s. k' (was_given s x) (viewed s x) s)
  pub rel_views : {A B : Type 0} {R : World → A → B → Type 0} {w : World} (xs : List View) (k : Bool → List Val → M A) (k' : Bool → List Val → M B) → ((given : Bool) (vs vs' : List Val) → ListT (ValT (O w)) vs vs' → Rel R w (k given vs) (k' given vs')) → Rel R w (λ s. k (all_given s xs) (views s xs) s) (λ s. k' (all_given s xs) (views s xs) s)
  pub rel_loading : {w : World} {i i' : Spot} → SpotT i i' → (c : ℕ) → Rel (λ v a b. LoadedT v c) w (loading J i c) (loading J' i' c)
  pub rel_note_end : {w : World} {c : ℕ} {a b : Way Val} → LoadedT w c → WayT (ValT (O w)) (ValT (O w)) a b → Rel (λ v p q. Unit {0}) w (changing (note_end c a)) (changing (note_end c b))
  -- a get and a set by the host: it names no key of a program
  pub rel_host_get : {A B : Type 0} {R : World → A → B → Type 0} {w : World} {m n : ℕ} {k : Way Val → M A} {k' : Way Val → M B} {i i' : Spot} → SpotT i i' → (given : Bool) → O w m n → (t : List ℕ) → ((v : World) → Later w v → (a b : Way Val) → WayT (ValT (O v)) (ValT (O v)) a b → Rel R v (k a) (k' b)) → Rel R w (judged J i (hosts given (Some (obj m)) (Some t) false) (attempt (read_slot J i m (quoted t)) >>= k)) (judged J' i' (hosts given (Some (obj n)) (Some t) false) (attempt (read_slot J' i' n (quoted t)) >>= k'))
  pub rel_host_set : {A B : Type 0} {R : World → A → B → Type 0} {w : World} {m n : ℕ} {x y : Val} {k : Way Val → M A} {k' : Way Val → M B} {i i' : Spot} → SpotT i i' → (given : Bool) → O w m n → (t : List ℕ) → ValT (O w) x y → ((v : World) → Later w v → (a b : Way Val) → WayT (ValT (O v)) (ValT (O v)) a b → Rel R v (k a) (k' b)) → Rel R w (judged J i (hosts given (Some (obj m)) (Some t) false) (attempt (write_slot J i m (quoted t) keyed_kind x false >>= λ _. ret (prim undefined)) >>= k)) (judged J' i' (hosts given (Some (obj n)) (Some t) false) (attempt (write_slot J' i' n (quoted t) keyed_kind y false >>= λ _. ret (prim undefined)) >>= k'))

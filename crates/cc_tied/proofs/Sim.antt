-- Two runs from tied states.
use Rattle.std.proofs.Common.{◌≡◌, ℕ, zero, suc, ◌+◌, ◌≤◌, Bool, false, List, [], ◌∷◌, ◌++◌, length, append_assoc, Option, Some, None, refl, sym, ap, subst, arith, ◌∙◌}
use Rattle.std.specs.Prelude.{slice_get, nat_eq, nat_lt}
use Rattle.cc_ast.specs.Syntax.{Prim}
use Rattle.cc_ast.specs.declared.tree.Ref.{Ref}
use Rattle.cc_meaning.specs.Values.{Val, View, shown_prim, shown_out, handle, Event, Spot, at_turn}
use Rattle.cc_meaning.specs.Operators.{strict_equal, key_text}
use Rattle.cc_meaning.specs.State.{Code, Env, Reply, State, Tables}
use Rattle.cc_meaning.specs.Monad.{Said, told, passed, seen, marks, End, spent, waits, broken, Res, ok, threw, over, said, M, ret, raise, stop, after, ◌>>=◌, attempted, attempt, paid, pay_from, pay, say, with_budget, with_tables, Mode}
use Rattle.cc_meaning.specs.Store.{Access, quoted, runtime}
use Rattle.cc_meaning.specs.Acts.{is_whole, next_reply_of, next_reply, was_given, all_given, object_at, viewed}
use Rattle.cc_meaning.specs.Calls.{views}
use Rattle.cc_meaning.specs.Script.{top}
use Rattle.cc_tied.specs.Tied.{ListT, nil_t, cons_t, OptT, ValT, prim_t, out_t, obj_t, WayT, went_t, thrown_t, CodeT, built_of}

-- both can pay, neither can, or one alone cannot
pub data PayT (Tied : State → State → Type 0) (Short Ahead : Type 0) (s t : State) : Option ℕ → Option ℕ → Type 0 where
  both_pay : {b c : ℕ} → Tied (record s { budget = b }) (record t { budget = c }) → PayT Tied Short Ahead s t (Some b) (Some c)
  neither : PayT Tied Short Ahead s t None None
  left_short : {o : Option ℕ} → Short → PayT Tied Short Ahead s t None o
  right_short : {o : Option ℕ} → Ahead → PayT Tied Short Ahead s t o None

-- ends at an act that neither run can pass: the left one excuses the right one, or they are tied
pub data FaultT (Excused : Type 0) (EndT : End → End → Type 0) : End → End → Type 0 where
  excuse : {r : ℕ} {i : Spot} {e : End} → Excused → FaultT Excused EndT (broken r i) e
  both_fault : {e e' : End} → EndT e e' → FaultT Excused EndT e e'

-- Which states, and which parts of programs and of states, are tied. What is tied by its place in the
-- programs, and what is tied in a world, is as in `Kit`.
pub record Tie : Type 1 where
  pub J : Mode
  pub J' : Mode
  pub tables : Tables
  pub tables' : Tables
  pub W : Type 0
  pub Ext : W → W → Type 0
  pub same : (w : W) → Ext w w
  pub ext : {u v w : W} → Ext u v → Ext v w → Ext u w
  -- ---- ends

  -- whether a broken run excuses what the other run does
  pub Excused : Type 0
  -- whether the left run may end for want of budget before a right one that passes marks of this sum; and the right one before the left one
  pub Short : W → ℕ → Type 0
  pub Ahead : Type 0
  -- what passing marks of this sum makes of what the left run has in hand for them
  pub Steps : W → ℕ → W → Type 0
  pub short_more : {w : W} {p q : ℕ} → Short w p → p ≤ q → Short w q
  pub short_back : {v w : W} {p q : ℕ} → Steps w p v → Short v q → Short w (p + q)
  pub steps_none : {w : W} → Steps w 0 w
  pub steps_on : {u v w : W} {p q : ℕ} → Steps u p v → Steps v q w → Steps u (p + q) w
  pub EndT : End → End → Type 0
  pub end_spent : EndT spent spent
  pub end_waits : EndT waits waits
  -- ---- what is tied by its place in the two programs alone

  pub Ctx : Type 0
  pub outer : (chunk : ℕ) → Ctx
  pub inside : (function function' : ℕ) → Ctx
  pub in_catch : Ctx → Ctx
  pub SpotT : Spot → Spot → Type 0
  pub spot_turn : (n : ℕ) → SpotT (at_turn n) (at_turn n)
  pub faults : {i i' : Spot} → SpotT i i' → (r : ℕ) → FaultT Excused EndT (J.fault r i) (J'.fault r i')
  pub FunT : ℕ → ℕ → Type 0
  pub StandT : Ctx → ℕ → ℕ → Type 0
  pub ReadT : Ctx → Ref → Ref → Type 0
  pub WriteT : Ctx → Ref → Ref → Type 0
  pub SetT : Ctx → Ref → Prim → Type 0
  pub BindT : Ctx → Ref → (function : ℕ) → Type 0
  pub bind_inside : {f f' g : ℕ} {r : Ref} → BindT (inside f f') r g → ⊥
  pub ThisT : Ctx → Type 0
  pub DocT : ℕ → ℕ → Type 0
  pub DeclaresT : List ℕ → List ℕ → Type 0
  pub FlatT : ℕ × ℕ → ℕ × ℕ → Type 0
  pub QuotedT : List ℕ → Type 0
  pub WrittenT : List ℕ → Type 0
  pub read_built : {c : Ctx} {r r' : Ref} → ReadT c r r' → built_of tables r ≡ built_of tables' r'
  pub declares_none : DeclaresT [] []
  -- ---- what is tied in a world

  pub O : W → ℕ → ℕ → Type 0
  pub NewT : W → Val → Val → Type 0
  pub RunsT : W → (m n : ℕ) → Code → Code → Type 0
  pub KeyT : W → Val → Access → Access → Type 0
  pub UpT : W → (function function' : ℕ) → Option ℕ → Option ℕ → Type 0
  pub EnvT : Ctx → W → Env → Env → Type 0
  pub LoadedT : W → (chunk : ℕ) → Type 0
  pub O_later : {v w : W} → Ext v w → {m n : ℕ} → O v m n → O w m n
  pub new_later : {v w : W} → Ext v w → {a b : Val} → NewT v a b → NewT w a b
  pub key_later : {v w : W} → Ext v w → {x : Val} {a b : Access} → KeyT v x a b → KeyT w x a b
  pub up_later : {v w : W} → Ext v w → {f f' : ℕ} {a b : Option ℕ} → UpT v f f' a b → UpT w f f' a b
  pub env_later : {c : Ctx} {v w : W} → Ext v w → {g h : Env} → EnvT c v g h → EnvT c w g h
  pub loaded_later : {v w : W} → Ext v w → {c : ℕ} → LoadedT v c → LoadedT w c
  pub new_value : {w : W} {a b : Val} → NewT w a b → ValT (O w) a b
  pub runs_code : {w : W} {m n : ℕ} {a b : Code} → RunsT w m n a b → CodeT SpotT FunT (UpT w) a b
  pub key_runtime : {w : W} (x v : Val) {t : List ℕ} → key_text v ≡ Some t → KeyT w x (runtime t (is_whole v)) (runtime t (is_whole v))
  pub key_quoted : {w : W} (x : Val) {t : List ℕ} → QuotedT t → KeyT w x (quoted t) (quoted t)
  pub key_written : {w : W} (x : Val) {t : List ℕ} → WrittenT t → KeyT w x (runtime t false) (quoted t)
  pub env_top : {w : W} {c : ℕ} {d d' : List ℕ} → LoadedT w c → DeclaresT d d' → EnvT (outer c) w (record top { declares = d }) (record top { declares = d' })
  pub env_this : {c : Ctx} {w : W} {g h : Env} → ThisT c → EnvT c w g h → OptT (ValT (O w)) g.this h.this
  pub env_declares : {c : Ctx} {w : W} {g h : Env} → EnvT c w g h → DeclaresT g.declares h.declares
  -- ---- states

  pub Tied : W → State → State → Type 0
  pub tied_tables : {w : W} {s t : State} → Tied w s t → (s.tables ≡ tables) × (t.tables ≡ tables')
  pub tied_pay : {w : W} {s t : State} → Tied w s t → PayT (Tied w) (Short w 0) Ahead s t (paid 1 s.budget) (paid 1 t.budget)
  -- tied objects are one to one
  pub tied_once : {w : W} {s t : State} → Tied w s t → {m n p q : ℕ} → O w m n → O w p q → nat_eq m p ≡ nat_eq n q
  -- what was shown to the outside is tied, and its replies are the same
  pub tied_handles : {w : W} {s t : State} → Tied w s t → ListT (O w) s.handles t.handles
  pub tied_replies : {w : W} {s t : State} → Tied w s t → s.replies ≡ t.replies
  pub tied_replied : {w : W} {s t : State} (rs : List Reply) → Tied w s t → Tied w (record s { replies = rs }) (record t { replies = rs })

-- what was said by the end
unfoldable pub log : {A : Type 0} → Res A → List Said
log (ok u a s) = u
log (threw u v s) = u
log (over u e) = u

pub seen_on : (u v : List Said) → seen (u ++ v) ≡ seen u ++ seen v
unfolding seen
seen_on [] v = refl
seen_on (told e ∷ u) v = ap (λ z. e ∷ z) (seen_on u v)
seen_on (passed p ∷ u) v = seen_on u v

pub marks_on : (u v : List Said) → marks (u ++ v) ≡ marks u + marks v
unfolding marks
marks_on [] v = omega arith
marks_on (told e ∷ u) v = marks_on u v
marks_on (passed p ∷ u) v = let h = marks_on u v in omega arith

pub seen_both : (u u' v v' : List Said) → seen u ≡ seen u' → seen v ≡ seen v' → seen (u ++ v) ≡ seen (u' ++ v')
seen_both u u' v v' e d = rw (seen_on u v, seen_on u' v', e, d) refl

pub said_twice : {A : Type 0} (u v : List Said) (r : Res A) → said (u ++ v) r ≡ said u (said v r)
unfolding said
said_twice u v (ok w a s) = ap (λ z. ok z a s) (append_assoc u v w)
said_twice u v (threw w a s) = ap (λ z. threw z a s) (append_assoc u v w)
said_twice u v (over w e) = ap (λ z. over z e) (append_assoc u v w)

pub said_after : {A B : Type 0} (u : List Said) (r : Res A) (k : A → M B) → after (said u r) k ≡ said u (after r k)
unfolding said after
said_after u (ok w a s) k = said_twice u w (k a s)
said_after u (threw w a s) k = refl
said_after u (over w e) k = refl

pub said_none : {A : Type 0} (r : Res A) → said [] r ≡ r
unfolding said
said_none (ok w a s) = refl
said_none (threw w a s) = refl
said_none (over w e) = refl

said_attempted : {A : Type 0} (u : List Said) (r : Res A) → attempted (said u r) ≡ said u (attempted r)
unfolding said attempted
said_attempted u (ok w a s) = refl
said_attempted u (threw w a s) = refl
said_attempted u (over w e) = refl

log_attempted : {A : Type 0} (r : Res A) → log (attempted r) ≡ log r
unfolding log attempted
log_attempted (ok w a s) = refl
log_attempted (threw w a s) = refl
log_attempted (over w e) = refl

pub log_said : {A : Type 0} (u : List Said) (r : Res A) → log (said u r) ≡ u ++ log r
unfolding log said
log_said u (ok w a s) = refl
log_said u (threw w a s) = refl
log_said u (over w e) = refl

marks_less : (u v : List Said) → marks u ≤ marks (u ++ v)
marks_less u v = let h = marks_on u v in omega arith

log_after : {A B : Type 0} (r : Res A) (k : A → M B) → marks (log r) ≤ marks (log (after r k))
unfolding log after
log_after (ok u a s) k = rw (log_said u (k a s)) (marks_less u (log (k a s)))
log_after (threw u v s) k = omega arith
log_after (over u e) k = omega arith

paid_one : (b c : ℕ) → paid 1 b ≡ Some c → suc c ≤ b
unfolding paid
paid_one zero c e = absurd (cc)
paid_one (suc b) c e = grind arith

module _ (T : Tie) where
  open T use {W, Ext, same, ext, Excused, Short, Ahead, Steps, short_more, short_back, steps_none, steps_on, EndT, end_spent, end_waits, SpotT, faults, O, Tied, tied_tables, tied_pay, tied_once, tied_handles, tied_replies, tied_replied}

  -- the most that the left run and the right run can still pay, and what is tied to what
  abbrev pub World : Type 0
  World = record { l : ℕ; r : ℕ; w : W }

  abbrev pub Later : World → World → Type 0
  Later v w = (w.l ≤ v.l) × (w.r ≤ v.r) × Ext v.w w.w

  pub later : {u v w : World} → Later u v → Later v w → Later u w
  later l k = (omega arith, omega arith, ext l.2 k.2)

  pub now : (w : World) → Later w w
  now w = (omega arith, omega arith, same w.w)

  pub data ResT {A B : Type 0} (R : World → A → B → Type 0) (w : World) : Res A → Res B → Type 0 where
    ok_t : {u u' : List Said} {a : A} {b : B} {s t : State} → seen u ≡ seen u' → (v : World) → Later w v → Steps w.w (marks u') v.w → R v a b → Tied v.w s t → s.budget ≤ v.l → t.budget ≤ v.r → ResT R w (ok u a s) (ok u' b t)
    threw_t : {u u' : List Said} {x y : Val} {s t : State} → seen u ≡ seen u' → (v : World) → Later w v → Steps w.w (marks u') v.w → ValT (O v.w) x y → Tied v.w s t → s.budget ≤ v.l → t.budget ≤ v.r → ResT R w (threw u x s) (threw u' y t)
    broken_t : {u : List Said} {r : ℕ} {i : Spot} {x : Res B} → Excused → ResT R w (over u (broken r i)) x
    short_t : {u : List Said} {y : Res B} (u' : List Said) (x : Res B) → seen u ≡ seen u' → y ≡ said u' x → Short w.w (marks (log y)) → ResT R w (over u spent) y
    ahead_t : {u' : List Said} {y : Res A} (u : List Said) (x : Res A) → seen u ≡ seen u' → y ≡ said u x → Ahead → ResT R w y (over u' spent)
    over_t : {u u' : List Said} {e e' : End} → seen u ≡ seen u' → EndT e e' → ResT R w (over u e) (over u' e')

  abbrev pub Sim : {A B : Type 0} → (World → A → B → Type 0) → World → M A → M B → Type 0
  Sim R w m m' = (s t : State) → Tied w.w s t → s.budget ≤ w.l → t.budget ≤ w.r → ResT R w (m s) (m' t)

  -- from a lesser bound
  pub res_from : {A B : Type 0} {R : World → A → B → Type 0} {w : World} (l r : ℕ) → l ≤ w.l → r ≤ w.r → {x : Res A} {y : Res B} → ResT R (record { l = l; r = r; w = w.w }) x y → ResT R w x y
  res_from l r p q (ok_t d v e st h t le le') = ok_t d v (omega arith, omega arith, e.2) st h t le le'
  res_from l r p q (threw_t d v e st h t le le') = threw_t d v (omega arith, omega arith, e.2) st h t le le'
  res_from l r p q (broken_t x) = broken_t x
  res_from l r p q (short_t u x d e h) = short_t u x d e h
  res_from l r p q (ahead_t u x d e h) = ahead_t u x d e h
  res_from l r p q (over_t d e) = over_t d e

  -- ---- one result

  pub fine : {A B : Type 0} {R : World → A → B → Type 0} {w : World} (a : A) (b : B) → R w a b → {s t : State} → Tied w.w s t → s.budget ≤ w.l → t.budget ≤ w.r → ResT R w (ok [] a s) (ok [] b t)
  unfolding marks
  fine {w = w} a b h ti le le' = ok_t refl w (now w) steps_none h ti le le'

  pub faulty : {A B : Type 0} {R : World → A → B → Type 0} {w : World} {e e' : End} → FaultT Excused EndT e e' → ResT R w (over [] e) (over [] e')
  faulty (excuse x) = broken_t x
  faulty (both_fault h) = over_t refl h

  res_as : {A B : Type 0} {R S : World → A → B → Type 0} {w : World} → ((v : World) → Later w v → (a : A) (b : B) → R v a b → S v a b) → {x : Res A} {y : Res B} → ResT R w x y → ResT S w x y
  res_as f (ok_t d v e st h t le le') = ok_t d v e st (f v e _ _ h) t le le'
  res_as f (threw_t d v e st h t le le') = threw_t d v e st h t le le'
  res_as f (broken_t x) = broken_t x
  res_as f (short_t u x d e h) = short_t u x d e h
  res_as f (ahead_t u x d e h) = ahead_t u x d e h
  res_as f (over_t d e) = over_t d e

  pub sim_as : {A B : Type 0} {R S : World → A → B → Type 0} {w : World} {m : M A} {m' : M B} → ((v : World) → Later w v → (a : A) (b : B) → R v a b → S v a b) → Sim R w m m' → Sim S w m m'
  sim_as f h s t ti le le' = res_as f (h s t ti le le')

  pub sim_ret : {A B : Type 0} {R : World → A → B → Type 0} {w : World} → (a : A) (b : B) → R w a b → Sim R w (ret a) (ret b)
  unfolding ret
  sim_ret a b h s t ti le le' = fine a b h ti le le'

  pub sim_raise : {A B : Type 0} {R : World → A → B → Type 0} {w : World} {x y : Val} → ValT (O w.w) x y → Sim R w (raise x) (raise y)
  unfolding raise marks
  sim_raise {w = w} h s t ti le le' = threw_t refl w (now w) steps_none h ti le le'

  -- ---- one after the other

  -- after what was said on the way to a later world
  pub said_t : {A B : Type 0} {R : World → A → B → Type 0} {v w : World} (o o' : List Said) → seen o ≡ seen o' → Later w v → Steps w.w (marks o') v.w → {r : Res A} {r' : Res B} → ResT R v r r' → ResT R w (said o r) (said o' r')
  unfolding said
  said_t {w = w} o o' c l st (ok_t {u = u} {u' = u'} d v e su h t le le') = ok_t (seen_both o o' u u' c d) v (later l e) (subst (λ z. Steps w.w z v.w) (sym (marks_on o' u')) (steps_on st su)) h t le le'
  said_t {w = w} o o' c l st (threw_t {u = u} {u' = u'} d v e su h t le le') = threw_t (seen_both o o' u u' c d) v (later l e) (subst (λ z. Steps w.w z v.w) (sym (marks_on o' u')) (steps_on st su)) h t le le'
  said_t o o' c l st (broken_t x) = broken_t x
  said_t {w = w} o o' c l st (short_t {u = u} {y = y} u' x d e h) = short_t (o' ++ u') x (seen_both o o' u u' c d) (ap (λ z. said o' z) e ∙ sym (said_twice o' u' x)) (subst (λ z. Short w.w z) (sym (ap marks (log_said o' y) ∙ marks_on o' (log y))) (short_back st h))
  said_t o o' c l st (ahead_t {u' = u'} u x d e h) = ahead_t (o ++ u) x (seen_both o o' u u' c d) (ap (λ z. said o z) e ∙ sym (said_twice o u x)) h
  said_t o o' c l st (over_t {u = u} {u' = u'} d e) = over_t (seen_both o o' u u' c d) e

  pub after_t : {A B A' B' : Type 0} {R : World → A → A' → Type 0} {S : World → B → B' → Type 0} {w : World} {k : A → M B} {k' : A' → M B'} → ((v : World) → Later w v → (a : A) (a' : A') → R v a a' → Sim S v (k a) (k' a')) → {r : Res A} {r' : Res A'} → ResT R w r r' → ResT S w (after r k) (after r' k')
  unfolding after
  after_t f (ok_t {u = u} {u' = u'} {a = a} {b = b} {s = s} {t = t} d v e st h tt' le le') = said_t u u' d e st (f v e a b h s t tt' le le')
  after_t f (threw_t d v e st h t le le') = threw_t d v e st h t le le'
  after_t f (broken_t x) = broken_t x
  after_t {k' = k'} f (short_t {y = y} u' x d e h) = short_t u' (after x k') d (ap (λ z. after z k') e ∙ said_after u' x k') (short_more h (log_after y k'))
  after_t {k = k} f (ahead_t u x d e h) = ahead_t u (after x k) d (ap (λ z. after z k) e ∙ said_after u x k) h
  after_t f (over_t d e) = over_t d e

  pub sim_bind : {A B A' B' : Type 0} {R : World → A → A' → Type 0} {S : World → B → B' → Type 0} {w : World} {m : M A} {m' : M A'} {k : A → M B} {k' : A' → M B'} → Sim R w m m' → ((v : World) → Later w v → (a : A) (a' : A') → R v a a' → Sim S v (k a) (k' a')) → Sim S w (m >>= k) (m' >>= k')
  unfolding ◌>>=◌
  sim_bind {w = w} h f s t ti le le' = after_t f (h s t ti le le')

  attempted_t : {A B : Type 0} {R : World → A → B → Type 0} {w : World} {r : Res A} {r' : Res B} → ResT R w r r' → ResT (λ v. WayT (ValT (O v.w)) (R v)) w (attempted r) (attempted r')
  unfolding attempted
  attempted_t (ok_t d v e st h t le le') = ok_t d v e st (went_t h) t le le'
  attempted_t (threw_t d v e st h t le le') = ok_t d v e st (thrown_t h) t le le'
  attempted_t (broken_t x) = broken_t x
  attempted_t {w = w} (short_t {y = y} u x d e h) = short_t u (attempted x) d (ap attempted e ∙ said_attempted u x) (subst (λ z. Short w.w (marks z)) (sym (log_attempted y)) h)
  attempted_t (ahead_t u x d e h) = ahead_t u (attempted x) d (ap attempted e ∙ said_attempted u x) h
  attempted_t (over_t d e) = over_t d e

  pub sim_attempt : {A B : Type 0} {R : World → A → B → Type 0} {w : World} {m : M A} {m' : M B} → Sim R w m m' → Sim (λ v. WayT (ValT (O v.w)) (R v)) w (attempt m) (attempt m')
  unfolding attempt
  sim_attempt h s t ti le le' = attempted_t (h s t ti le le')

  -- ---- what is told, and ends

  pub sim_say : {w : World} (e : Event) → Sim (λ v a b. Unit {0}) w (say (told e)) (say (told e))
  unfolding say marks
  sim_say {w = w} e s t ti le le' = ok_t refl w (now w) steps_none tt ti le le'

  pub sim_fault : {A B : Type 0} {R : World → A → B → Type 0} {w : World} {i i' : Spot} → SpotT i i' → (r : ℕ) → Sim R w (stop (T.J.fault r i)) (stop (T.J'.fault r i'))
  unfolding stop
  sim_fault i r s t ti le le' = faulty (faults i r)

  -- ---- the budget and the tables

  -- the first payment of 1 leaves less
  pay_less : {A B : Type 0} {R : World → A → B → Type 0} (w : World) {m : M A} {m' : M B} → ((v : World) → Later w v → suc v.l ≤ w.l → suc v.r ≤ w.r → Sim R v m m') → {s t : State} {o o' : Option ℕ} → PayT (Tied w.w) (Short w.w 0) Ahead s t o o' → s.budget ≤ w.l → t.budget ≤ w.r → ((c : ℕ) → o ≡ Some c → suc c ≤ s.budget) → ((c : ℕ) → o' ≡ Some c → suc c ≤ t.budget) → ResT R w (after (pay_from o s) (λ _. m)) (after (pay_from o' t) (λ _. m'))
  unfolding pay_from after marks
  pay_less w f (both_pay {b = b} {c = c} ti) le le' h k =
      let hb = h b refl in let kc = k c refl in
      said_t {v = record { l = b; r = c; w = w.w }} [] [] refl (omega arith, omega arith, same w.w) steps_none (f (record { l = b; r = c; w = w.w }) (omega arith, omega arith, same w.w) (omega arith) (omega arith) _ _ ti (omega arith) (omega arith))
  pay_less w f neither le le' h k = over_t refl end_spent
  pay_less w f (left_short x) le le' h k = short_t [] _ refl (sym (said_none _)) (short_more x (omega arith))
  pay_less w f (right_short x) le le' h k = ahead_t [] _ refl (sym (said_none _)) x

  pub sim_pay_less : {A B : Type 0} {R : World → A → B → Type 0} {w : World} {m : M A} {m' : M B} → ((v : World) → Later w v → suc v.l ≤ w.l → suc v.r ≤ w.r → Sim R v m m') → Sim R w (pay 1 >>= λ _. m) (pay 1 >>= λ _. m')
  unfolding ◌>>=◌ pay
  sim_pay_less {w = w} f s t ti le le' = pay_less w f (tied_pay ti) le le' (paid_one s.budget) (paid_one t.budget)

  pub sim_budget : {A B : Type 0} {R : World → A → B → Type 0} {w : World} {f : ℕ → M A} {f' : ℕ → M B} → ((v : World) → Later w v → (n n' : ℕ) → v.l ≤ n → v.r ≤ n' → Sim R v (f n) (f' n')) → Sim R w (with_budget f) (with_budget f')
  unfolding with_budget
  sim_budget {w = w} h s t ti le le' =
      res_from s.budget t.budget le le' (h (record { l = s.budget; r = t.budget; w = w.w }) (le, le', same w.w) s.budget t.budget (omega arith) (omega arith) s t ti (omega arith) (omega arith))

  -- what stands in a state, read as another
  pub by_parts : {A B C D : Type 0} {R : World → A → B → Type 0} {w : World} {p q : C} {p' q' : D} (m : C → M A) (m' : D → M B) (s t : State) → p ≡ q → p' ≡ q' → ResT R w (m q s) (m' q' t) → ResT R w (m p s) (m' p' t)
  by_parts {R = R} {w = w} {q = q} {p' = p'} m m' s t e e' h = subst (λ z. ResT R w (m z s) (m' p' t)) (sym e) (subst (λ z. ResT R w (m q s) (m' z t)) (sym e') h)

  pub sim_tables : {A B : Type 0} {R : World → A → B → Type 0} {w : World} (f : Tables → M A) (f' : Tables → M B) → Sim R w (f T.tables) (f' T.tables') → Sim R w (with_tables f) (with_tables f')
  unfolding with_tables
  sim_tables f f' h s t ti le le' = by_parts f f' s t (tied_tables ti).0 (tied_tables ti).1 (h s t ti le le')

  pub sim_at : {A B : Type 0} {R : World → A → B → Type 0} {w : World} (m n : M A) (m' n' : M B) → ((s : State) → s.tables ≡ T.tables → m s ≡ n s) → ((t : State) → t.tables ≡ T.tables' → m' t ≡ n' t) → Sim R w n n' → Sim R w m m'
  sim_at {R = R} {w = w} m n m' n' e e' h s t ti le le' = subst (λ z. ResT R w z (m' t)) (sym (e s (tied_tables ti).0)) (subst (λ z. ResT R w (n s) z) (sym (e' t (tied_tables ti).1)) (h s t ti le le'))

  -- ---- what a right part that only gives a value gives

  given_t : {A B : Type 0} {R : World → A → B → Type 0} {w : World} {x : Res A} {u : List Said} {b : B} {t : State} → ResT R w x (ok u b t) → ResT (λ v x y. R v x y × (y ≡ b)) w x (ok u b t)
  given_t (ok_t d v e st h t le le') = ok_t d v e st (h, refl) t le le'
  given_t (broken_t x) = broken_t x
  given_t (short_t u x d e h) = short_t u x d e h

  pub sim_given : {A B : Type 0} {R : World → A → B → Type 0} {w : World} {m : M A} (b : B) → Sim R w m (ret b) → Sim (λ v x y. R v x y × (y ≡ b)) w m (ret b)
  unfolding ret
  sim_given b h s t ti le le' = given_t (h s t ti le le')

  -- ---- objects one to one

  strict_tied : {w : W} {s t : State} → Tied w s t → {a b x y : Val} → ValT (O w) a b → ValT (O w) x y → strict_equal a x ≡ strict_equal b y
  unfolding strict_equal
  strict_tied ti prim_t prim_t = refl
  strict_tied ti prim_t out_t = refl
  strict_tied ti prim_t (obj_t k) = refl
  strict_tied ti out_t prim_t = refl
  strict_tied ti out_t out_t = refl
  strict_tied ti out_t (obj_t k) = refl
  strict_tied ti (obj_t h) prim_t = refl
  strict_tied ti (obj_t h) out_t = refl
  strict_tied ti (obj_t h) (obj_t k) = tied_once ti h k

  pub sim_equal : {A B : Type 0} {R : World → A → B → Type 0} {w : World} {m : M A} {m' : M B} {a b x y : Val} → ValT (O w.w) a b → ValT (O w.w) x y → (strict_equal a x ≡ strict_equal b y → Sim R w m m') → Sim R w m m'
  sim_equal h k f s t ti le le' = f (strict_tied ti h k) s t ti le le'

  -- ---- what the outside sent, and what it was shown

  reply_of_t : {w : World} (rs : List Reply) {s t : State} → Tied w.w s t → s.budget ≤ w.l → t.budget ≤ w.r → ResT (λ v p q. p ≡ q) w (next_reply_of rs s) (next_reply_of rs t)
  unfolding next_reply_of stop ret
  reply_of_t [] ti le le' = over_t refl end_waits
  reply_of_t (r ∷ rs) ti le le' = fine r r refl (tied_replied rs ti) le le'

  pub sim_next_reply : {w : World} → Sim (λ v p q. p ≡ q) w next_reply next_reply
  unfolding next_reply
  sim_next_reply {w = w} s t ti le le' = subst (λ z. ResT (λ v p q. p ≡ q) w (next_reply_of s.replies s) (next_reply_of z t)) (tied_replies ti) (reply_of_t s.replies ti le le')

  -- a handle that was given out stands for a tied object
  get_tied : {w : W} {ms ns : List ℕ} → ListT (O w) ms ns → (h : ℕ) → ValT (O w) (object_at (slice_get ms h)) (object_at (slice_get ns h))
  unfolding object_at
  get_tied nil_t h = prim_t
  get_tied (cons_t o os) zero = obj_t o
  get_tied (cons_t o os) (suc h) = get_tied os h

  same_length : {w : W} {ms ns : List ℕ} → ListT (O w) ms ns → length ms ≡ length ns
  same_length nil_t = refl
  same_length (cons_t o os) = ap suc (same_length os)

  pub viewed_tied : {w : W} (s t : State) → ListT (O w) s.handles t.handles → (x : View) → ValT (O w) (viewed s x) (viewed t x)
  unfolding viewed
  viewed_tied s t h (shown_prim p) = prim_t
  viewed_tied s t h (shown_out n) = out_t
  viewed_tied s t h (handle k) = get_tied h k

  pub given_same : {w : W} (s t : State) → ListT (O w) s.handles t.handles → (x : View) → was_given s x ≡ was_given t x
  unfolding was_given
  given_same s t h (shown_prim p) = refl
  given_same s t h (shown_out n) = refl
  given_same s t h (handle k) = ap (λ z. nat_lt k z) (same_length h)

  views_tied : {w : W} (s t : State) → ListT (O w) s.handles t.handles → (xs : List View) → ListT (ValT (O w)) (views s xs) (views t xs)
  unfolding views
  views_tied s t h [] = nil_t
  views_tied s t h (x ∷ xs) = cons_t (viewed_tied s t h x) (views_tied s t h xs)

  all_given_same : {w : W} (s t : State) → ListT (O w) s.handles t.handles → (xs : List View) → all_given s xs ≡ all_given t xs
  unfolding all_given
  all_given_same s t h [] = refl
  all_given_same s t h (x ∷ xs) = rw (given_same s t h x, all_given_same s t h xs) refl

  pub sim_view : {A B : Type 0} {R : World → A → B → Type 0} {w : World} (x : View) (k : Bool → Val → M A) (k' : Bool → Val → M B) → ((given : Bool) (v v' : Val) → ValT (O w.w) v v' → Sim R w (k given v) (k' given v')) → Sim R w (λ s. k (was_given s x) (viewed s x) s) (λ s. k' (was_given s x) (viewed s x) s)
  sim_view {R = R} {w = w} x k k' f s t ti le le' = subst (λ z. ResT R w (k (was_given s x) (viewed s x) s) (k' z (viewed t x) t)) (given_same s t (tied_handles ti) x) (f (was_given s x) _ _ (viewed_tied s t (tied_handles ti) x) s t ti le le')

  pub sim_views : {A B : Type 0} {R : World → A → B → Type 0} {w : World} (xs : List View) (k : Bool → List Val → M A) (k' : Bool → List Val → M B) → ((given : Bool) (vs vs' : List Val) → ListT (ValT (O w.w)) vs vs' → Sim R w (k given vs) (k' given vs')) → Sim R w (λ s. k (all_given s xs) (views s xs) s) (λ s. k' (all_given s xs) (views s xs) s)
  sim_views {R = R} {w = w} xs k k' f s t ti le le' = subst (λ z. ResT R w (k (all_given s xs) (views s xs) s) (k' z (views t xs) t)) (all_given_same s t (tied_handles ti) xs) (f (all_given s xs) _ _ (views_tied s t (tied_handles ti) xs) s t ti le le')

-- The arguments and the callee of a call on the left, read back from what stands for them on the right.
use Rattle.std.proofs.Common.{◌≡◌, ℕ, ◌≤◌, ◌+◌, List, [], ◌∷◌, Option, Some, None, refl, sym, subst, ◌∙◌}
use Rattle.cc_ast.specs.Syntax.{Prim, Expr, lit, var, tick, Exprs, no_exprs, more_exprs}
use Rattle.cc_ast.specs.declared.tree.Ref.{Ref}
use Rattle.cc_meaning.specs.Values.{Val, prim, Spot, at_site}
use Rattle.cc_meaning.specs.State.{Env, State, Tables}
use Rattle.cc_meaning.specs.Monad.{seen, spent, broken, Res, ok, over, M, ret, ◌>>=◌, paid}
use Rattle.cc_meaning.specs.Store.{Global, global_kind}
use Rattle.cc_meaning.specs.Acts.{read_var}
use Rattle.cc_meaning.specs.Calls.{Bodies, value}
use Rattle.cc_meaning.specs.Meaning.{reach_var, ev, evs}
use Rattle.cc_meaning.specs.Script.{checked}
use Rattle.cc_tied.specs.Tied.{ListT, nil_t, cons_t, prim_t}
use Rattle.cc_tied.specs.Facts.{called, holds_function, Facts, innermost, Above}
use Rattle.cc_tied.proofs.Parts.{list_as}
use Rattle.cc_tied.proofs.AtValues.{plain_value, tick_value}
use Rattle.cc_tied.proofs.Expressions.{value_literal}
use Rattle.cc_tied.proofs.Equality.EqualModes.{same_end}
use Rattle.cc_tied.proofs.RightRuns.{Gives, gives_ok, gives_spent, gives_broken, gives_ret, gives_pay, gives_as, gives_bind, gives_then, gives_last}
use Rattle.cc_tied.proofs.Sim.{Tie, World, Later, ResT, ok_t, threw_t, broken_t, short_t, ahead_t, over_t}
use Rattle.cc_tied.proofs.Left as L
use Rattle.cc_tied.proofs.Injection.World.{Tabs, Vals, val_more, ext_on}
use Rattle.cc_tied.proofs.Injection.Tie.{Other, Ctx, at, ExtI, EnvI, env_at, ArgI, arg_more, with_set, TiedI, with_budget, inject}
use Rattle.cc_tied.proofs.Injection.Arguments.{Walked, PlaceRead, place_read, place_given, walk_from, walk_later}
use Rattle.cc_tied.proofs.Injection.Globals.{GlobalRead, read_extern, read_set, global_read, global_given, Back, back_now}

module _ (F : Facts) (S : Tables) where
  -- what may stand for a parameter
  pub data IsArgument : Ctx → Expr → Type 0 where
    literal_argument : {c : Ctx} {i : ℕ} {p : Prim} → IsArgument c (lit i p)
    place_argument : {o : Option ℕ} {k u n f i : ℕ} → Above F S (innermost o k) u (called f) → F.Fixed f n → (F.Dead f n → ⊥) → IsArgument (at o k) (var i (Ref.Frame u n))
    global_argument : {c : Ctx} {i n f : ℕ} → F.Known n (holds_function f) → (F.Unread n → ⊥) → IsArgument c (var i (Ref.Global n))

  -- arguments, some of them literals with a price, the price of them all, and what is left without it
  pub data AreArguments (c : Ctx) : ℕ → Exprs → Exprs → Type 0 where
    no_arguments : AreArguments c 0 no_exprs no_exprs
    plain_argument : {q : ℕ} {e : Expr} {es bs : Exprs} → IsArgument c e → AreArguments c q es bs → AreArguments c q (more_exprs e es) (more_exprs e bs)
    priced_argument : {i j p q : ℕ} {x : Prim} {es bs : Exprs} → AreArguments c q es bs → AreArguments c (p + q) (more_exprs (tick i p (lit j x)) es) (more_exprs (lit j x) bs)

module _ (F : Facts) (S : Tables) (set' : Other S) where
  abbrev Right : Tables
  Right = with_set S set'

  abbrev T : Tie
  T = inject F S set'

  abbrev W : Type 0
  W = World T

  abbrev Tied : Tabs → State → State → Type 0
  Tied = TiedI F S set'

  -- the values of arguments
  pub data ArgsI (w : Tabs) (h : Env) : Exprs → List Val → Type 0 where
    no_args : ArgsI w h no_exprs []
    more_args : {e : Expr} {es : Exprs} {x : Val} {xs : List Val} → ArgI F S set' w h e x → ArgsI w h es xs → ArgsI w h (more_exprs e es) (x ∷ xs)

  pub args_more : {v w : Tabs} → ExtI v w → {h : Env} {es : Exprs} {xs : List Val} → ArgsI v h es xs → ArgsI w h es xs
  args_more l no_args = no_args
  args_more l (more_args a r) = more_args (arg_more F S set' l a) (args_more l r)

  -- ---- what the right reads for them

  data ReadArg (w : Tabs) (t : State) (h : Env) : Expr → Val → Type 0 where
    literal_read : {i : ℕ} {p : Prim} → ReadArg w t h (lit i p) (prim p)
    place_arg : {i u n f : ℕ} {v : Val} → (r : Walked F S set' w h.at u (called f)) → F.Fixed f n → (F.Dead f n → ⊥) → PlaceRead F S set' t r.pair.right f n v → ReadArg w t h (var i (Ref.Frame u n)) v
    global_arg : {i n f : ℕ} {v : Val} → F.Known n (holds_function f) → (F.Unread n → ⊥) → GlobalRead F S set' t n (global_kind Right n) v → ReadArg w t h (var i (Ref.Global n)) v

  data ReadArgs (w : Tabs) (t : State) (h : Env) : Exprs → List Val → Type 0 where
    none_read : ReadArgs w t h no_exprs []
    more_read : {e : Expr} {es : Exprs} {v : Val} {vs : List Val} → ReadArg w t h e v → ReadArgs w t h es vs → ReadArgs w t h (more_exprs e es) (v ∷ vs)

  -- with another budget the right reads the same
  place_at : {t : State} {m f n : ℕ} {v : Val} (b : ℕ) → PlaceRead F S set' t m f n v → PlaceRead F S set' (record t { budget = b }) m f n v
  place_at b r = record { frame = r.frame; there = r.there; free = r.free; value = r.value }

  place_from : {t : State} {m f n : ℕ} {v : Val} (b : ℕ) → PlaceRead F S set' (record t { budget = b }) m f n v → PlaceRead F S set' t m f n v
  place_from b r = record { frame = r.frame; there = r.there; free = r.free; value = r.value }

  global_at : {t : State} {n : ℕ} {k : Global} {v : Val} (b : ℕ) → GlobalRead F S set' t n k v → GlobalRead F S set' (record t { budget = b }) n k v
  unfolding Rattle.cc_meaning.specs.Acts.is_loaded Rattle.cc_meaning.specs.Acts.global_value
  global_at b read_extern = read_extern
  global_at b (read_set l d) = read_set l d

  global_from : {t : State} {n : ℕ} {k : Global} {v : Val} (b : ℕ) → GlobalRead F S set' (record t { budget = b }) n k v → GlobalRead F S set' t n k v
  unfolding Rattle.cc_meaning.specs.Acts.is_loaded Rattle.cc_meaning.specs.Acts.global_value
  global_from b read_extern = read_extern
  global_from b (read_set l d) = read_set l d

  abbrev walked_later : {v w : Tabs} → ExtI v w → {a : Option ℕ} {u f : ℕ} → Walked F S set' v a u (called f) → Walked F S set' w a u (called f)
  walked_later l r = record { pair = r.pair; walk = walk_later F S set' l r.walk; level = r.level }

  read_at : {w w' : Tabs} {t : State} {h : Env} {e : Expr} {v : Val} (b : ℕ) → ExtI w w' → ReadArg w t h e v → ReadArg w' (record t { budget = b }) h e v
  read_at b l literal_read = literal_read
  read_at b l (place_arg r fx d p) = place_arg (walked_later l r) fx d (place_at b p)
  read_at b l (global_arg k u p) = global_arg k u (global_at b p)

  reads_at : {w w' : Tabs} {t : State} {h : Env} {es : Exprs} {vs : List Val} (b : ℕ) → ExtI w w' → ReadArgs w t h es vs → ReadArgs w' (record t { budget = b }) h es vs
  reads_at b l none_read = none_read
  reads_at b l (more_read r k) = more_read (read_at b l r) (reads_at b l k)

  env_up : {w : Tabs} {o : Option ℕ} {k : ℕ} {g h : Env} → EnvI F S set' w (at o k) g h → Rattle.cc_tied.proofs.Injection.World.UpT F S w (innermost o k) g.at h.at
  env_up (env_at u t d) = u

  literal_gives : (B : Bodies) (h : Env) (i : ℕ) (p : Prim) (t : State) → Gives (λ v. v ≡ prim p) 0 t (value checked B (ev checked B h None (lit i p)) t)
  literal_gives B h i p t = subst (λ z. Gives (λ v. v ≡ prim p) 0 t (z t)) (sym (value_literal checked B h None i p)) (gives_ret (prim p) refl)

  place_value : (B : Bodies) (h : Env) (i u n : ℕ) → value checked B (ev checked B h None (var i (Ref.Frame u n))) ≡ read_var checked (at_site i) h (Ref.Frame u n)
  unfolding value ev reach_var
  place_value B h i u n = plain_value checked B (read_var checked (at_site i) h (Ref.Frame u n))

  right_arg : {w : Tabs} {s t : State} {c : Ctx} {g h : Env} {e : Expr} (B : Bodies) → Tied w s t → EnvI F S set' w c g h → IsArgument F S c e → (b : ℕ) → Gives (ReadArg w t h e) 0 (record t { budget = b }) (value checked B (ev checked B h None e) (record t { budget = b }))
  right_arg {w = w} {t = t} {h = h} B ti en (literal_argument {i = i} {p = p}) b = gives_as (λ v q. subst (λ z. ReadArg w t h (lit i p) z) (sym q) literal_read) (literal_gives B h i p (record t { budget = b }))
  right_arg {w = w} {t = t} {h = h} B ti en (place_argument {u = u} {n = n} {f = f} {i = i} a fx d) b =
      let tb = with_budget F S set' b b refl ti in
      let r : Walked F S set' w h.at u (called f) = walk_from F S set' tb a (env_up en) in
      subst (λ z. Gives (ReadArg w t h (var i (Ref.Frame u n))) 0 (record t { budget = b }) (z (record t { budget = b }))) (sym (place_value B h i u n)) (gives_as (λ v q. place_arg r fx d (place_from b q)) (place_read F S set' tb (at_site i) h n r))
  right_arg {h = h} B ti en (global_argument {i = i} {n = n} k u) b = gives_as (λ v q. global_arg k u (global_from b q)) (global_read F S set' (with_budget F S set' b b refl ti) B h i n)

  right_args : {w : Tabs} {s t : State} {c : Ctx} {g h : Env} {q : ℕ} {es bs : Exprs} (B : Bodies) → Tied w s t → EnvI F S set' w c g h → AreArguments F S c q es bs → (b : ℕ) → Gives (ReadArgs w t h bs) q (record t { budget = b }) (evs checked B h es (record t { budget = b }))
  unfolding ev
  right_args B ti en no_arguments b = gives_ret [] none_read
  right_args {t = t} {h = h} B ti en (plain_argument {e = e} {es = es} a r) b = gives_then (value checked B (ev checked B h None e)) (λ v. evs checked B h es >>= λ vs. ret (v ∷ vs)) (right_arg B ti en a b) (λ v b2 q. gives_last (evs checked B h es) (λ vs. ret (v ∷ vs)) (right_args B ti en r b2) (λ vs b3 p. gives_ret (v ∷ vs) (more_read q p)))
  right_args {w = w} {t = t} {h = h} B ti en (priced_argument {i = i} {j = j} {p = p} {q = q} {x = x} {es = es} {bs = bs} r) b =
      gives_bind (value checked B (ev checked B h None (tick i p (lit j x)))) (λ v. evs checked B h es >>= λ vs. ret (v ∷ vs))
      (subst (λ z. Gives (λ v. v ≡ prim x) p (record t { budget = b }) (z (record t { budget = b }))) (sym (tick_value checked B h None i p (lit j x)))
      (gives_last (checked.mark p) (λ _. value checked B (ev checked B h None (lit j x))) (gives_pay p (record t { budget = b })) (λ _ b2 _. literal_gives B h j x (record t { budget = b2 }))))
      (λ v b2 e. gives_last (evs checked B h es) (λ vs. ret (v ∷ vs)) (right_args B ti en r b2) (λ vs b3 k. gives_ret (v ∷ vs) (more_read (subst (λ z. ReadArg w t h (lit j x) z) (sym e) literal_read) k)))

  -- ---- and so what the left gave

  pub literal_arg : {w : Tabs} {h : Env} (i : ℕ) (p : Prim) → ArgI F S set' w h (lit i p) (prim p)
  unfolding ev ret
  literal_arg i p = record { by = λ u l s t ti B. record { value = prim p; tied = prim_t; reached = λ q. refl } }

  arg_back : {w : Tabs} {s t : State} {h : Env} {e : Expr} {x v : Val} → Tied w s t → ReadArg w t h e v → Vals w x v → Back F S set' (λ u y. ArgI F S set' u h e y) w s t x
  arg_back ti (literal_read {i = i} {p = p}) prim_t = back_now F S set' (prim p) ti (literal_arg i p)
  arg_back {x = x} ti (place_arg {i = i} r fx d p) c = back_now F S set' x ti (place_given F S set' i ti r.walk r.level fx d p c)
  arg_back {h = h} ti (global_arg {i = i} {n = n} {f = f} k u p) c = global_given F S set' h i n f ti k u p c

  args_back : (xs : List Val) {w : Tabs} {s t : State} {h : Env} {es : Exprs} {vs : List Val} → Tied w s t → ReadArgs w t h es vs → ListT (Vals w) xs vs → Back F S set' (λ u ys. ArgsI u h es ys) w s t xs
  args_back [] ti none_read nil_t = back_now F S set' [] ti no_args
  args_back [] ti (more_read r k) c = elim c [ ]
  args_back (x ∷ xs) ti none_read c = elim c [ ]
  args_back (x ∷ xs) {t = t} ti (more_read r k) (cons_t c cs) =
      let b = arg_back ti r c in
      let d = args_back xs b.tied (reads_at t.budget b.ext k) (list_as (val_more b.ext.ext) cs) in record {
        world = d.world;
        ext = record { ext = ext_on b.ext.ext d.ext.ext; still = b.ext.still ∙ d.ext.still; stage = b.ext.stage ∙ d.ext.stage };
        tied = d.tied;
        says = more_args (arg_more F S set' d.ext b.says) d.says;
      }

  -- ---- from the pair of runs to the left run alone

  module _ {A B : Type 0} {R : W → A → B → Type 0} {Q : Tabs → A → Type 0} {P : B → Type 0} {q : ℕ} {w : W} {t : State} (f : (v : W) (s : State) (a : A) (b : B) (n : ℕ) → Later T w v → Tied v.w s (record t { budget = n }) → R v a b → P b → Back F S set' Q v.w s (record t { budget = n }) a) where
    pays_by : {v : W} {s : State} {a : A} {n : ℕ} {u : List Rattle.cc_meaning.specs.Monad.Said} → seen u ≡ seen [] → Later T w v → s.budget ≤ v.l → n ≤ v.r → paid q t.budget ≡ Some n → Back F S set' Q v.w s (record t { budget = n }) a → L.Paying T tt (λ x y. Q x.w y) q w t (ok u a s)
    pays_by {v = v} d l le le' e k = L.paying_ok d (record { l = v.l; r = v.r; w = k.world }) (l.0, l.1, record { ext = ext_on l.2.ext k.ext.ext; still = l.2.still ∙ k.ext.still; stage = l.2.stage ∙ k.ext.stage }) tt k.says e k.tied le le'

    left_ok : {r : Res A} {b : B} {n : ℕ} → paid q t.budget ≡ Some n → P b → ResT T R w r (ok [] b (record t { budget = n })) → L.Paying T tt (λ x y. Q x.w y) q w t r
    left_ok {n = n} e p (ok_t {a = a} {b = b} {s = s} d v l st h ti le le') = pays_by {v = v} d l le le' e (f v s a b n l ti h p)
    left_ok e p (broken_t x) = L.paying_broken
    left_ok e p (short_t u x d g h) = absurd h

    left_spent : {r : Res A} → paid q t.budget ≡ None → ResT T R w r (over [] spent) → L.Paying T tt (λ x y. Q x.w y) q w t r
    left_spent e (broken_t x) = L.paying_broken
    left_spent e (short_t u x d g h) = absurd h
    left_spent e (ahead_t u x d g h) = absurd h
    left_spent e (over_t d same_end) = L.paying_spent d e

    left_broken : {r : Res A} {u : List Rattle.cc_meaning.specs.Monad.Said} {k : ℕ} {i : Spot} → ResT T R w r (over u (broken k i)) → L.Paying T tt (λ x y. Q x.w y) q w t r
    left_broken (broken_t x) = L.paying_broken
    left_broken (short_t u x d g h) = absurd h
    left_broken (over_t d same_end) = L.paying_broken

    pub left_pays : {r : Res A} {r' : Res B} → Gives P q t r' → ResT T R w r r' → L.Paying T tt (λ x y. Q x.w y) q w t r
    left_pays (gives_ok e p) h = left_ok e p h
    left_pays (gives_spent e) h = left_spent e h
    left_pays gives_broken h = left_broken h

  -- the arguments of the left, where a list that follows them stands for parameters
  pub args_pay : {w : W} {c : Ctx} {g h : Env} {q : ℕ} {m : M (List Val)} {es bs : Exprs} (B : Bodies) → EnvI F S set' w.w c g h → AreArguments F S c q es bs → Rattle.cc_tied.proofs.Sim.Sim T (λ v. ListT (Vals v.w)) w m (evs checked B h es) → L.Pays T tt (λ v xs. ArgsI v.w h bs xs) q w m
  args_pay {w = w} {h = h} {q = q} {es = es} {bs = bs} B en a k = record { by = λ s t ti le le'. left_pays {R = λ v. ListT (Vals v.w)} {Q = λ u xs. ArgsI u h bs xs} {P = ReadArgs w.w t h bs} {q = q} {w = w} {t = t} (λ v s2 xs vs n l ti2 r p. args_back xs ti2 (reads_at n l.2 p) r) (right_args B ti en a t.budget) (k s t ti le le') }

-- Ends of statements, and loops over what keeps a relation between runs, keep it.
use Rattle.std.proofs.Common.{refl, ℕ, zero, suc, ◌≤◌, Bool, true, false, List, [], ◌∷◌, Some, None, arith}
use Rattle.cc_meaning.specs.Operators.{list_eq, is_in}
use Rattle.cc_meaning.specs.State.{Code}
use Rattle.cc_meaning.specs.Monad.{M, ret, Way, pick}
use Rattle.cc_meaning.specs.Meaning.{Comp, normal, breaks, continues, next, next_turn, labelled, unbroken, resume, result, turns, do_turns, each_name}
use Rattle.cc_tied.specs.Tied.{prim_t, went_t, thrown_t, normal_t, returns_t, breaks_t, continues_t}
use Rattle.cc_tied.proofs.Kit.{Kit}
use Rattle.cc_tied.proofs.Parts.{CompV, WayV, CodeV, ReturnedV, Done, Equal, rel_pick}

-- ---- ends of statements

module _ (K : Kit) where
  open K use {World, Rel, rel_ret, rel_raise}

  pub normal_end : {v : World} → Rel (CompV K) v (ret normal) (ret normal)
  normal_end = rel_ret normal normal normal_t

  pub rel_next : {v : World} → {a b : Comp} {m m' : M Comp} → CompV K v a b → Rel (CompV K) v m m' → Rel (CompV K) v (next a m) (next b m')
  unfolding next
  rel_next normal_t h = h
  rel_next (returns_t s q) h = rel_ret _ _ (returns_t s q)
  rel_next (breaks_t {l = j}) h = rel_ret (breaks j) (breaks j) breaks_t
  rel_next (continues_t {l = j}) h = rel_ret (continues j) (continues j) continues_t

  pub rel_next_turn : (ls : List (List ℕ)) {v : World} → {a b : Comp} {m m' : M Comp} → CompV K v a b → Rel (CompV K) v m m' → Rel (CompV K) v (next_turn ls a m) (next_turn ls b m')
  unfolding next_turn
  rel_next_turn ls normal_t h = h
  rel_next_turn ls (returns_t s q) h = rel_ret _ _ (returns_t s q)
  rel_next_turn ls (breaks_t {l = None}) h = normal_end
  rel_next_turn ls (breaks_t {l = Some j}) h = rel_ret (breaks (Some j)) (breaks (Some j)) breaks_t
  rel_next_turn ls (continues_t {l = None}) h = h
  rel_next_turn ls (continues_t {l = Some j}) h = rel_pick K (is_in j ls) (is_in j ls) refl h (rel_ret (continues (Some j)) (continues (Some j)) continues_t)

  pick_tied : {v : World} (b : Bool) {x y : Comp} → CompV K v x x → CompV K v y y → CompV K v (pick b x y) (pick b x y)
  pick_tied true h k = h
  pick_tied false h k = k

  pub labelled_tied : (l : List ℕ) {v : World} → {a b : Comp} → CompV K v a b → CompV K v (labelled l a) (labelled l b)
  unfolding labelled
  labelled_tied l normal_t = normal_t
  labelled_tied l (returns_t s q) = returns_t s q
  labelled_tied l (breaks_t {l = None}) = breaks_t
  labelled_tied l (breaks_t {l = Some m}) = pick_tied (list_eq l m) normal_t breaks_t
  labelled_tied l continues_t = continues_t

  pub unbroken_tied : {v : World} → {a b : Comp} → CompV K v a b → CompV K v (unbroken a) (unbroken b)
  unfolding unbroken
  unbroken_tied normal_t = normal_t
  unbroken_tied (returns_t s q) = returns_t s q
  unbroken_tied (breaks_t {l = None}) = normal_t
  unbroken_tied (breaks_t {l = Some m}) = breaks_t
  unbroken_tied continues_t = continues_t

  pub rel_resume : {v : World} → {a b : Way Comp} → WayV K v a b → Rel (CompV K) v (resume a) (resume b)
  unfolding resume
  rel_resume (went_t {a = x} {b = x'} r) = rel_ret x x' r
  rel_resume (thrown_t r) = rel_raise r

  -- what a function gives
  pub result_tied : {v : World} {f f' : Code} → CodeV K v f f' → {a b : Comp} → CompV K v a b → ReturnedV K v (result f a) (result f' b)
  unfolding result
  result_tied c normal_t = record { site = c.site; value = prim_t }
  result_tied c (returns_t s q) = record { site = s; value = q }
  result_tied c breaks_t = record { site = c.site; value = prim_t }
  result_tied c continues_t = record { site = c.site; value = prim_t }

-- ---- loops

module _ (K : Kit) (ls : List (List ℕ)) where
  open K use {World, Later, later, now, bound, bound', bound_later, bound_later', Rel, rel_bind, rel_pay_less}

  pub rel_turns : (n n' : ℕ) (v : World) → suc (bound v) ≤ n → suc (bound' v) ≤ n' → {t t' : M Bool} {r r' : M (Unit {0})} {b b' : M Comp} → ((u : World) → Later v u → Rel (Equal K) u t t') → ((u : World) → Later v u → Rel (Done K) u r r') → ((u : World) → Later v u → Rel (CompV K) u b b') → Rel (CompV K) v (turns ls n t r b) (turns ls n' t' r' b')
  unfolding turns
  rel_turns zero n' v le le' ht hr hb = absurd (omega arith)
  rel_turns (suc n) zero v le le' ht hr hb = absurd (omega arith)
  rel_turns (suc n) (suc n') v le le' ht hr hb =
      rel_bind (ht v (now v)) (λ v2 l2 x x' e. rel_pick K x x' e
      (rel_pay_less (λ v3 l3 less less'. rel_bind (hb v3 (later l2 l3)) (λ v4 l4 a b q. rel_next_turn K ls q
      (rel_bind (hr v4 (later l2 (later l3 l4))) (λ v5 l5 _ _ _.
      rel_turns n n' v5 (omega (arith, bound_later l2, bound_later l4, bound_later l5)) (omega (arith, bound_later' l2, bound_later' l4, bound_later' l5)) (λ u lu. ht u (later l2 (later l3 (later l4 (later l5 lu))))) (λ u lu. hr u (later l2 (later l3 (later l4 (later l5 lu))))) (λ u lu. hb u (later l2 (later l3 (later l4 (later l5 lu))))))))))
      (normal_end K))

  pub rel_do_turns : (n n' : ℕ) (v : World) → suc (bound v) ≤ n → suc (bound' v) ≤ n' → {t t' : M Bool} {b b' : M Comp} → ((u : World) → Later v u → Rel (Equal K) u t t') → ((u : World) → Later v u → Rel (CompV K) u b b') → Rel (CompV K) v (do_turns ls n t b) (do_turns ls n' t' b')
  unfolding do_turns
  rel_do_turns zero n' v le le' ht hb = absurd (omega arith)
  rel_do_turns (suc n) zero v le le' ht hb = absurd (omega arith)
  rel_do_turns (suc n) (suc n') v le le' ht hb =
      rel_pay_less (λ v2 l2 less less'. rel_bind (hb v2 l2) (λ v3 l3 a b q. rel_next_turn K ls q
      (rel_bind (ht v3 (later l2 l3)) (λ v4 l4 x x' e. rel_pick K x x' e
      (rel_do_turns n n' v4 (omega (arith, bound_later l3, bound_later l4)) (omega (arith, bound_later' l3, bound_later' l4)) (λ u lu. ht u (later l2 (later l3 (later l4 lu)))) (λ u lu. hb u (later l2 (later l3 (later l4 lu)))))
      (normal_end K)))))

  pub rel_each : (ns : List (List ℕ)) {v : World} {p p' : List ℕ → M Bool} {q q' : List ℕ → M (Unit {0})} {b b' : M Comp} → ((u : World) → Later v u → (n : List ℕ) → Rel (Equal K) u (p n) (p' n)) → ((u : World) → Later v u → (n : List ℕ) → Rel (Done K) u (q n) (q' n)) → ((u : World) → Later v u → Rel (CompV K) u b b') → Rel (CompV K) v (each_name ls p q b ns) (each_name ls p' q' b' ns)
  unfolding each_name
  rel_each [] hp hq hb = normal_end K
  rel_each (n ∷ ns) {v = v} hp hq hb =
      rel_bind (hp v (now v) n) (λ v2 l2 x x' e. rel_pick K x x' e
      (rel_pay_less (λ v3 l3 less less'. rel_bind (hq v3 (later l2 l3) n) (λ v4 l4 _ _ _. rel_bind (hb v4 (later l2 (later l3 l4))) (λ v5 l5 a b r. rel_next_turn K ls r
      (rel_each ns (λ u lu. hp u (later l2 (later l3 (later l4 (later l5 lu))))) (λ u lu. hq u (later l2 (later l3 (later l4 (later l5 lu))))) (λ u lu. hb u (later l2 (later l3 (later l4 (later l5 lu))))))))))
      (rel_each ns (λ u lu. hp u (later l2 lu)) (λ u lu. hq u (later l2 lu)) (λ u lu. hb u (later l2 lu))))

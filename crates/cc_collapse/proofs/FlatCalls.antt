-- A call of a flat path on the left is a call of its global on the right: neither has a receiver.
use Rattle.std.proofs.Common.{◌≡◌, ℕ, List, [], Option, Some, None, refl, sym, ap, subst, ◌∙◌}
use Rattle.cc_ast.specs.Syntax.{Prim, undefined, Expr, var, member}
use Rattle.cc_ast.specs.declared.tree.Ref.{Ref}
use Rattle.cc_meaning.specs.Values.{Val, prim, obj, at_site}
use Rattle.cc_meaning.specs.Builtins.{or_undefined}
use Rattle.cc_meaning.specs.State.{Env, State, Tables}
use Rattle.cc_meaning.specs.Monad.{M, ok, ret, after, ◌>>=◌, with_tables}
use Rattle.cc_meaning.specs.Store.{Access, dotted, name_of, of_chunk, global_kind, flat_of, find_slot, look_up}
use Rattle.cc_meaning.specs.Acts.{global_value, read_var}
use Rattle.cc_meaning.specs.Calls.{plain, access, Reference, Callee, called_value, Bodies, get, callee_of, callee_by, method_on, use_found, receiver_of, receiver_by}
use Rattle.cc_meaning.specs.Meaning.{reference, reach_global, reach_var, ev}
use Rattle.cc_meaning.specs.FlatPaths.{extended}
use Rattle.cc_meaning.specs.Script.{checked}
use Rattle.cc_tied.specs.Tied.{none_t, CalleeT, value_t}
use Rattle.cc_tied.specs.Facts.{Facts}
use Rattle.cc_tied.proofs.Laws.{said_none, bind_assoc, ret_bind, bind_alike}
use Rattle.cc_tied.proofs.Sim.{ResT, Sim, fine}
use Rattle.cc_tied.proofs.Injection.Tie.{view}
use Rattle.cc_tied.proofs.Injection.Frames.{undefined_tied}
use Rattle.cc_tied.proofs.Injection.World.{Vals}
use Rattle.cc_collapse.proofs.FlatRider.{Plan, HeldT, name}
use Rattle.cc_collapse.proofs.FlatHolders.{by_slot, look_held, HolderAt, refer, get_at, reach_at, holder_value, member_runs}
use Rattle.cc_collapse.proofs.FlatReads.{T, W, HomeT, home_loaded, plain_of, as_left, holder_then, slot_then, undeclared_then, right_value}

-- ---- a variable as callee

module _ (B : Bodies) (g : Env) (i n c : ℕ) where
  abbrev pub plainly : Val → M Callee
  plainly v = ret (called_value v None)

  plain_then : (m : M Val) → ((m >>= λ v. ret (plain v)) >>= λ r. callee_of checked B r) ≡ (m >>= plainly)
  unfolding callee_of
  plain_then m = bind_assoc m (λ v. ret (plain v)) (λ r. callee_of checked B r) ∙ bind_alike m (λ v. ret (plain v) >>= λ r. callee_of checked B r) plainly (λ v. ret_bind (plain v) (λ r. callee_of checked B r))

  pub var_callee : (t : State) → global_kind t.tables n ≡ of_chunk c → (ev checked B g None (var i (Ref.Global n)) >>= λ r. callee_of checked B r) t ≡ after (read_var checked (at_site i) g (Ref.Global n) t) plainly
  unfolding ev reach_var with_tables ◌>>=◌ reach_global
  var_callee t e =
      ap (λ z. (reach_global checked i g n z >>= λ r. callee_of checked B r) t) e
      ∙ ap (λ z. z t) (plain_then (read_var checked (at_site i) g (Ref.Global n)))

module _ (F : Facts) (S : Tables) (P : Plan S) (B : Bodies) (h p : ℕ) (is : P.Child h p) (single : (i : ℕ) → P.Inner h p i → ⊥) where
  abbrev key : Access
  key = dotted p

  abbrev callee_at : ℕ → Val → M Callee
  callee_at i o = refer S P i h p o >>= λ x. callee_of checked B (access x)

  abbrev with_none : Val → M Callee
  with_none v = ret (called_value v None)

  callee_runs : {e : Expr} (a : HolderAt S P h e) (g : Env) (i : ℕ) (s : State) → s.tables ≡ S → (ev checked B g None (member i e p) >>= λ r. callee_of checked B r) s ≡ (holder_value S P B a >>= callee_at i) s
  unfolding ◌>>=◌
  callee_runs a g i s e =
      ap (λ z. after z (λ r. callee_of checked B r)) (member_runs S P B g s e a i p None)
      ∙ ap (λ z. z s) (bind_assoc (holder_value S P B a) (reach_at S P B i h p) (λ r. callee_of checked B r)
      ∙ bind_alike (holder_value S P B a) (λ o. reach_at S P B i h p o >>= λ r. callee_of checked B r) (callee_at i) (λ o. bind_assoc (refer S P i h p o) (λ x. ret (access x)) (λ r. callee_of checked B r) ∙ bind_alike (refer S P i h p o) (λ x. ret (access x) >>= λ r. callee_of checked B r) (λ x. callee_of checked B (access x)) (λ x. ret_bind (access x) (λ r. callee_of checked B r))))

  -- where no method that is built in is found
  no_use : (i : ℕ) (o : Val) (s : State) → s.tables ≡ S → method_on s o (name_of s.tables key) ≡ None → callee_at i o s ≡ (get_at S P B i h p o >>= with_none) s
  unfolding reference with_tables ret ◌>>=◌ after callee_of callee_by receiver_of receiver_by
  no_use i o s e m =
      let r : Reference = record { site = i; on = o; key = key; path = flat_of s.tables (Some (extended (P.path h) p)); casts = [] } in
      let w : flat_of s.tables (Some (extended (P.path h) p)) ≡ Some ((P.path h).0, P.number h p) = ap (λ z. flat_of z (Some (extended (P.path h) p))) e ∙ P.is_flat h p is in
      said_none _
      ∙ ap (λ z. callee_by checked B r z s) m
      ∙ ap (λ z. (get checked B r >>= λ v. ret (called_value v (receiver_by z o))) s) w
      ∙ ap (λ z. after z with_none) (sym (said_none (get checked B r s)))

  held_use : (w : W F S P) {m n : ℕ} (s t : State) (d : HeldT S P (view w.w s t) h m n) → s.tables ≡ S → method_on s (obj m) (name_of s.tables key) ≡ None
  unfolding method_on use_found by_slot
  held_use w {m = m} s t d e = ap use_found (ap (λ z. look_up s.objs m (name_of z key)) e ∙ look_held s.objs m (name S P p) d.object d.stands d.plain (P.no_method h p is)) ∙ by_case (find_slot d.object.slots (name S P p))
    where
      by_case : (x : Option Val) → use_found (by_slot x) ≡ None
      by_case None = refl
      by_case (Some v) = refl

  prim_use : (s : State) (n : List ℕ) → method_on s (prim undefined) n ≡ None
  unfolding method_on
  prim_use s n = refl

  -- a call of the path: its callee, without a receiver
  pub flat_callee : {w : W F S P} {e : Expr} (a : HolderAt S P h e) → HomeT F S P w.w h p → (B' : Bodies) (i i' : ℕ) (g g' : Env) → Sim (T F S P) (λ v. CalleeT (Vals v.w)) w (ev checked B g None (member i e p) >>= λ r. callee_of checked B r) (ev checked B' g' None (var i' (Ref.Global (P.fresh h p))) >>= λ r. callee_of checked B' r)
  unfolding ret after global_value
  flat_callee {w = w} a home B' i i' g g' s t ti le le' =
      as_left F S P (callee_runs a g i s ti.tables)
      (holder_then F S P B Callee Callee (λ v. CalleeT (Vals v.w)) w s t ((ev checked B' g' None (var i' (Ref.Global (P.fresh h p))) >>= λ r. callee_of checked B' r) t) ti a (callee_at i) (record {
        declared = λ m n at d l.
            as_left F S P (no_use i (obj m) s ti.tables (held_use w s t d ti.tables))
            (slot_then F S P B h p is i with_none s t d ti.tables (λ r.
            subst (λ z. ResT (T F S P) (λ v. CalleeT (Vals v.w)) w (ok [] (called_value (or_undefined (find_slot d.object.slots (name S P p))) None) s) z)
            (sym (var_callee B' g' i' (P.fresh h p) (P.home h p) t (ap (λ z. global_kind z (P.fresh h p)) ti.tables' ∙ P.fresh_kind h p is) ∙ ap (λ z. after z (λ v. ret (called_value v None))) (right_value F S P B h p is single (at_site i') g' ti d (home_loaded F S P home ti d l) r) ∙ said_none _))
            (fine (T F S P) _ _ (value_t (undefined_tied (plain_of F S P single (d.cells p is))) none_t) ti le le')));
        undeclared = λ u. as_left F S P (no_use i (prim undefined) s ti.tables (prim_use s (name_of s.tables key))) (undeclared_then F S P B h p is i with_none s ti.tables);
      }))

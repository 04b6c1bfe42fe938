-- What a holder is read as on the left, and what is reached from there: the run of its expression, act by act.
use Rattle.std.proofs.Common.{◌≡◌, ℕ, Bool, true, false, List, [], ◌∷◌, Option, Some, None, is_some, refl, sym, ap, ◌∙◌}
use Rattle.std.specs.Prelude.{slice_get, ◌||◌}
use Rattle.cc_ast.specs.Syntax.{Prim, Expr, var, member}
use Rattle.cc_ast.specs.declared.tables.TypeSet.{TypeSet}
use Rattle.cc_ast.specs.declared.tree.Ref.{Ref}
use Rattle.cc_meaning.specs.Values.{Val, at_site}
use Rattle.cc_meaning.specs.Operators.{list_eq}
use Rattle.cc_meaning.specs.Names.{name_hasOwnProperty}
use Rattle.cc_meaning.specs.Builtins.{or_undefined}
use Rattle.cc_meaning.specs.State.{Obj, Env, Path, State, Tables}
use Rattle.cc_meaning.specs.Monad.{M, ret, after, ◌>>=◌, with_tables, pick}
use Rattle.cc_meaning.specs.Store.{Access, dotted, name_of, is_kept, Global, of_chunk, global_kind, find_slot, find_element, find_own, first_of, Found, found_value, nothing_found, found_at, found_here, built_here, found_on, chain_in, chain_of, look_up, value_found, is_found_value}
use Rattle.cc_meaning.specs.Typed.{field_types, fields_of_class, class_in}
use Rattle.cc_meaning.specs.SlotRules.{is_dot, fields_reached}
use Rattle.cc_meaning.specs.Acts.{read_global, read_var}
use Rattle.cc_meaning.specs.Calls.{Reach, plain, access, Reference, Bodies, get, value_of, value}
use Rattle.cc_meaning.specs.Meaning.{reference, reach_global, reach_var, reach_member, ev}
use Rattle.cc_meaning.specs.Shapes.{longer, path_of, path_of_ref}
use Rattle.cc_meaning.specs.FlatPaths.{extended}
use Rattle.cc_meaning.specs.Script.{checked}
use Rattle.cc_tied.proofs.Laws.{said_none, bind_assoc, ret_bind, bind_alike}
use Rattle.cc_collapse.proofs.FlatRider.{Plan, IsBare}

-- ---- what is found on an object without prototypes

unfoldable pub by_slot : Option Val → Found
by_slot None = nothing_found
by_slot (Some v) = found_value v

here_held : (a : Obj) (n : List ℕ) (rest : Found) → a.elements ≡ None → a.code ≡ None → rest ≡ nothing_found → (x : Option Val) → found_here x a n rest ≡ by_slot x
unfolding found_here built_here by_slot
here_held a n rest el co r (Some v) = refl
here_held a n rest el co r None = rw (el, co) r

own_held : (a : Obj) (n : List ℕ) → a.elements ≡ None → find_own a n ≡ find_slot a.slots n
unfolding find_own first_of find_element
own_held a n el = rw el refl

none_on : (os : List Obj) (n : List ℕ) → list_eq n name_hasOwnProperty ≡ false → found_on os [] n ≡ nothing_found
unfolding found_on
none_on os n e = rw e refl

at_held : (a : Obj) (n : List ℕ) (rest : Found) → a.elements ≡ None → a.code ≡ None → rest ≡ nothing_found → found_at (Some a) n rest ≡ by_slot (find_slot a.slots n)
unfolding found_at
at_held a n rest el co r = ap (λ z. found_here z a n rest) (own_held a n el) ∙ here_held a n rest el co r (find_slot a.slots n)

pub look_held : (os : List Obj) (o : ℕ) (n : List ℕ) (a : Obj) → slice_get os o ≡ Some a → IsBare a → list_eq n name_hasOwnProperty ≡ false → look_up os o n ≡ by_slot (find_slot a.slots n)
unfolding look_up chain_of found_on chain_in
look_held os o n a e b nm =
    ap (λ z. found_on os (o ∷ chain_in z) n) e
    ∙ ap (λ z. found_on os (o ∷ z) n) b.chain
    ∙ ap (λ z. found_at z n (found_on os [] n)) e
    ∙ at_held a n (found_on os [] n) b.elements b.code (none_on os n nm)

pub value_by_slot : (x : Option Val) → value_found (by_slot x) ≡ or_undefined x
unfolding value_found by_slot or_undefined
value_by_slot None = refl
value_by_slot (Some v) = refl

pub there_by_slot : (x : Option Val) → is_found_value (by_slot x) ≡ is_some x
unfolding is_found_value by_slot
there_by_slot None = refl
there_by_slot (Some v) = refl

pub class_none : (T : Tables) (os : List Obj) (o : ℕ) (a : Obj) (k : Access) → slice_get os o ≡ Some a → a.class ≡ None → fields_reached T os o k ≡ []
unfolding fields_reached field_types fields_of_class class_in
class_none T os o a k e c = ap (λ z. pick (is_kept T (name_of T k) || is_dot k) (fields_of_class T (class_in z) (name_of T k)) []) e ∙ ap (λ z. pick (is_kept T (name_of T k) || is_dot k) (fields_of_class T z (name_of T k)) []) c ∙ pick_same (is_kept T (name_of T k) || is_dot k)
  where
    pick_same : (b : Bool) → pick {A = List TypeSet} b [] [] ≡ []
    pick_same true = refl
    pick_same false = refl

-- ---- expressions of holders

module _ (S : Tables) (P : Plan S) where
  pub data HolderAt : ℕ → Expr → Type 0 where
    at_root : {h i : ℕ} → P.Root h → HolderAt h (var i (Ref.Global (P.var h)))
    at_inner : {h p k i : ℕ} {e : Expr} → HolderAt h e → P.Inner h p k → HolderAt k (member i e p)

  pub way : {h : ℕ} {e : Expr} → HolderAt h e → path_of e ≡ Some (P.path h)
  unfolding path_of path_of_ref longer
  way (at_root {h = h} r) = ap Some (sym (P.root_is h r).1)
  way (at_inner {h = h} {p = p} {k = k} a n) = ap (λ z. longer z p) (way a) ∙ ap Some (sym (P.inner_is h p k n).1.1.0)

  pub way_on : {h : ℕ} {e : Expr} → HolderAt h e → (p : ℕ) → longer (path_of e) p ≡ Some (extended (P.path h) p)
  unfolding longer
  way_on a p = ap (λ z. longer z p) (way a)

  -- from a holder's value on
  abbrev pub refer : (site h p : ℕ) → Val → M Reference
  refer i h p o = reference i (Some (extended (P.path h) p)) o (dotted p)

  module _ (B : Bodies) where
    abbrev pub get_at : (site h p : ℕ) → Val → M Val
    get_at i h p o = refer i h p o >>= λ x. get checked B x

    -- the value of a holder, and what it is reached as
    unfoldable pub holder_value : {h : ℕ} {e : Expr} → HolderAt h e → M Val
    holder_value (at_root {h = h} {i = i} r) = read_global checked (at_site i) (P.var h) (of_chunk (P.top h))
    holder_value (at_inner {h = h} {p = p} {i = i} a n) = holder_value a >>= get_at i h p

    abbrev pub reach_at : (site h p : ℕ) → Val → M Reach
    reach_at i h p o = refer i h p o >>= λ x. ret (access x)

    pub holder_reach : {h : ℕ} {e : Expr} → HolderAt h e → M Reach
    holder_reach (at_root {h = h} {i = i} r) = read_global checked (at_site i) (P.var h) (of_chunk (P.top h)) >>= λ v. ret (plain v)
    holder_reach (at_inner {h = h} {p = p} {i = i} a n) = holder_value a >>= reach_at i h p

    reach_value : {h : ℕ} {e : Expr} (a : HolderAt h e) → (holder_reach a >>= value_of checked B) ≡ holder_value a
    unfolding holder_value holder_reach value_of
    reach_value (at_root {h = h} {i = i} r) = let m = read_global checked (at_site i) (P.var h) (of_chunk (P.top h)) in
        bind_assoc m (λ v. ret (plain v)) (value_of checked B) ∙ bind_alike m (λ v. ret (plain v) >>= value_of checked B) ret (λ v. ret_bind (plain v) (value_of checked B)) ∙ Rattle.cc_tied.proofs.Laws.bind_ret m
    reach_value (at_inner {h = h} {p = p} {i = i} a n) =
        bind_assoc (holder_value a) (reach_at i h p) (value_of checked B)
        ∙ bind_alike (holder_value a) (λ o. reach_at i h p o >>= value_of checked B) (get_at i h p) (λ o. bind_assoc (refer i h p o) (λ x. ret (access x)) (value_of checked B) ∙ bind_alike (refer i h p o) (λ x. ret (access x) >>= value_of checked B) (λ x. get checked B x) (λ x. ret_bind (access x) (value_of checked B)))

    abbrev go_on : (site : ℕ) (w : Option Path) (p : ℕ) → Val → M Reach
    go_on i w p o = reference i w o (dotted p) >>= λ x. ret (access x)

    from_plain : (i : ℕ) (w : Option Path) (p : ℕ) (v : Val) → reach_member checked B i w p (plain v) ≡ go_on i w p v
    unfolding reach_member value_of
    from_plain i w p v = ret_bind v (go_on i w p)

    from_access : (i : ℕ) (w : Option Path) (p : ℕ) (x : Reference) → reach_member checked B i w p (access x) ≡ (get checked B x >>= go_on i w p)
    unfolding reach_member value_of
    from_access i w p x = refl

    pub reach_on : {h : ℕ} {e : Expr} (a : HolderAt h e) (i : ℕ) (w : Option Path) (p : ℕ) → (holder_reach a >>= reach_member checked B i w p) ≡ (holder_value a >>= go_on i w p)
    unfolding holder_value holder_reach
    reach_on (at_root {h = h} {i = j} r) i w p = let m = read_global checked (at_site j) (P.var h) (of_chunk (P.top h)) in
        bind_assoc m (λ v. ret (plain v)) (reach_member checked B i w p) ∙ bind_alike m (λ v. ret (plain v) >>= reach_member checked B i w p) (go_on i w p) (λ v. ret_bind (plain v) (reach_member checked B i w p) ∙ from_plain i w p v)
    reach_on (at_inner {h = h} {p = q} {i = j} a n) i w p =
        bind_assoc (holder_value a) (reach_at j h q) (reach_member checked B i w p)
        ∙ bind_alike (holder_value a) (λ o. reach_at j h q o >>= reach_member checked B i w p) (λ o. get_at j h q o >>= go_on i w p) (λ o.
        bind_assoc (refer j h q o) (λ x. ret (access x)) (reach_member checked B i w p)
        ∙ bind_alike (refer j h q o) (λ x. ret (access x) >>= reach_member checked B i w p) (λ x. get checked B x >>= go_on i w p) (λ x. ret_bind (access x) (reach_member checked B i w p) ∙ from_access i w p x)
        ∙ sym (bind_assoc (refer j h q o) (λ x. get checked B x) (go_on i w p)))
        ∙ sym (bind_assoc (holder_value a) (get_at j h q) (go_on i w p))

    module _ (g : Env) (s : State) (e0 : s.tables ≡ S) where
      root_runs : (h j : ℕ) → P.Root h → (k : Global) → global_kind s.tables (P.var h) ≡ k → k ≡ of_chunk (P.top h) → reach_global checked j g (P.var h) k s ≡ (read_global checked (at_site j) (P.var h) (of_chunk (P.top h)) >>= λ v. ret (plain v)) s
      unfolding reach_global read_var ◌>>=◌
      root_runs h j r k d e = ap (λ z. reach_global checked j g (P.var h) z s) e ∙ ap (λ z. after (read_global checked (at_site j) (P.var h) z s) (λ v. ret (plain v))) (d ∙ e)

      pub ev_runs : {h : ℕ} {e : Expr} (a : HolderAt h e) (q : Option Path) → ev checked B g q e s ≡ holder_reach a s
      unfolding ev reach_var with_tables ◌>>=◌ holder_reach
      ev_runs (at_root {h = h} {i = i} r) q = root_runs h i r (global_kind s.tables (P.var h)) refl (ap (λ z. global_kind z (P.var h)) e0 ∙ (P.root_kind h r).0)
      ev_runs (at_inner {h = h} {p = p} {i = i} {e = e} a n) q =
          ap (λ z. after z (reach_member checked B i (longer (path_of e) p) p)) (ev_runs a None)
          ∙ ap (λ z. z s) (reach_on a i (longer (path_of e) p) p)
          ∙ ap (λ z. (holder_value a >>= go_on i z p) s) (way_on a p)

      pub value_runs : {h : ℕ} {e : Expr} (a : HolderAt h e) (q : Option Path) → value checked B (ev checked B g q e) s ≡ holder_value a s
      unfolding value ◌>>=◌
      value_runs a q = ap (λ z. after z (value_of checked B)) (ev_runs a q) ∙ ap (λ z. z s) (reach_value a)

      -- `e.p` for a holder e
      pub member_runs : {h : ℕ} {e : Expr} (a : HolderAt h e) (i p : ℕ) (q : Option Path) → ev checked B g q (member i e p) s ≡ (holder_value a >>= reach_at i h p) s
      unfolding ev ◌>>=◌
      member_runs {e = e} a i p q =
          ap (λ z. after z (reach_member checked B i (longer (path_of e) p) p)) (ev_runs a None)
          ∙ ap (λ z. z s) (reach_on a i (longer (path_of e) p) p)
          ∙ ap (λ z. (holder_value a >>= go_on i z p) s) (way_on a p)

      member_get : {h : ℕ} {e : Expr} (a : HolderAt h e) (i p : ℕ) → ((holder_value a >>= reach_at i h p) >>= value_of checked B) ≡ (holder_value a >>= get_at i h p)
      unfolding value_of
      member_get {h = h} a i p =
          bind_assoc (holder_value a) (reach_at i h p) (value_of checked B)
          ∙ bind_alike (holder_value a) (λ o. reach_at i h p o >>= value_of checked B) (get_at i h p) (λ o. bind_assoc (refer i h p o) (λ x. ret (access x)) (value_of checked B) ∙ bind_alike (refer i h p o) (λ x. ret (access x) >>= value_of checked B) (λ x. get checked B x) (λ x. ret_bind (access x) (value_of checked B)))

      pub member_value : {h : ℕ} {e : Expr} (a : HolderAt h e) (i p : ℕ) (q : Option Path) → value checked B (ev checked B g q (member i e p)) s ≡ (holder_value a >>= get_at i h p) s
      unfolding value ◌>>=◌
      member_value a i p q = ap (λ z. after z (value_of checked B)) (member_runs a i p q) ∙ ap (λ z. z s) (member_get a i p)

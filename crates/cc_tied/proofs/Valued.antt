-- Expressions whose values are tied, whatever else they reach; and what follows from their parts.
use Rattle.std.proofs.Common.{◌≡◌, refl, sym, ℕ, Bool, true, false, Option, Some, None, subst}
use Rattle.std.specs.Prelude.{◌||◌}
use Rattle.cc_ast.specs.Syntax.{Prim, Expr, var, cast, tick}
use Rattle.cc_ast.specs.declared.tree.Ref.{Ref}
use Rattle.cc_meaning.specs.Values.{Val, at_site}
use Rattle.cc_meaning.specs.State.{Env, Path, Tables}
use Rattle.cc_meaning.specs.Monad.{M, ret, ◌>>=◌, with_tables}
use Rattle.cc_meaning.specs.Store.{Built}
use Rattle.cc_meaning.specs.Acts.{read_var, cast_to}
use Rattle.cc_meaning.specs.Shapes.{site_of}
use Rattle.cc_meaning.specs.Calls.{Reach, plain, access, value_of, value, cast_reach}
use Rattle.cc_meaning.specs.Meaning.{reach_member, ev}
use Rattle.cc_tied.specs.Tied.{built_of, plain_t, access_t}
use Rattle.cc_tied.specs.Placed.{accesses, variable, builds, reaches}
use Rattle.cc_tied.proofs.Kit.{Kit}
use Rattle.cc_tied.proofs.Parts.{V, ReachV, PathT, SiteT, Below, val_later}
use Rattle.cc_tied.proofs.Laws.{ret_bind, bind_ret, bind_assoc}
use Rattle.cc_tied.proofs.Calls.{rel_value_of}
use Rattle.cc_tied.proofs.Reaching.{value_first, member_first}
use Rattle.cc_tied.proofs.AtValues.{cast_value, tick_value, cast_at_value, tick_at_value}
use Rattle.cc_tied.proofs.Expressions.{FollowsRef, FollowsAs, Follows, FollowsOn, PropT, reach_built, reach_by, rel_reference, as_value, on_reached}

module _ (K : Kit) where
  open K use {World, Rel, rel_ret, rel_bind}

  pub rel_left : {A A' : Type 0} {R : World → A → A' → Type 0} {v : World} {m : M A} {m' : M A'} → Rel R v (m >>= ret) m' → Rel R v m m'
  rel_left {R = R} {v = v} {m = m} {m' = m'} h = subst (λ z. Rel R v z m') (bind_ret m) h

  pub rel_right : {A A' : Type 0} {R : World → A → A' → Type 0} {v : World} {m : M A} {m' : M A'} → Rel R v m (m' >>= ret) → Rel R v m m'
  rel_right {R = R} {v = v} {m = m} {m' = m'} h = subst (λ z. Rel R v m z) (bind_ret m') h

access_no_variable : (e : Expr) → accesses e ≡ true → variable e ≡ false
unfolding accesses variable
access_no_variable (var i r) h = absurd (cc)
access_no_variable (cast i d e) h = access_no_variable e h
access_no_variable (tick i n e) h = access_no_variable e h
access_no_variable _ h = refl

pub no_variable_built : (built : Ref → Bool) (e : Expr) → variable e ≡ false → builds built e ≡ false
unfolding variable builds
no_variable_built built (var i r) h = absurd (cc)
no_variable_built built (cast i d e) h = no_variable_built built e h
no_variable_built built (tick i n e) h = no_variable_built built e h
no_variable_built built _ h = refl

neither : (x y : Bool) → x ≡ false → y ≡ false → x || y ≡ false
neither true y h k = absurd (cc)
neither false y h k = k

pub access_reaches : (built : Ref → Bool) (e : Expr) → accesses e ≡ true → reaches built e ≡ true
unfolding reaches
access_reaches built e h = rw h refl

module _ (K : Kit) (X : Below K) (built : Ref → Bool) where
  open K use {J, J', tables, tables', World, Later, later, now, SpotT, DocT, ReadT, WriteT, ThisT, StandT, read_built, EnvT, env_later, Ctx, Rel, rel_ret, rel_bind, rel_mark, rel_tables, rel_read_var, rel_cast}
  open X use {B, B', w}

  -- the left gives the value that the right reaches as one
  pub data PlainT (v : World) (x : Val) : Reach → Type 0 where
    plain_p : {y : Val} → V K v x y → PlainT v x (plain y)

  pub record FollowsPlain (c : Ctx) (e e' : Expr) : Type 0 where
    pub by : (v : World) → Later w v → (g g' : Env) → EnvT c v g g' → Rel PlainT v (value J B (ev J B g None e)) (ev J' B' g' None e')

  -- two expressions that stand as values: their values are tied whatever paths are set to them, and the
  -- right one reaches its value as one where its shape says so
  pub record FollowsValue (c : Ctx) (e e' : Expr) : Type 0 where
    pub site : SiteT K (site_of e) (site_of e')
    pub values : (p p' : Option Path) → FollowsAs K X (V K) c p p' e e'
    pub plain : reaches built e' ≡ false → FollowsPlain c e e'

  -- two expressions before a dot or a bracket
  pub data FollowsFrom (c : Ctx) : Expr → Expr → Type 0 where
    reached_t : {e e' : Expr} → FollowsRef K X c None None e e' → FollowsFrom c e e'
    valued_t : {e e' : Expr} → FollowsValue c e e' → variable e ≡ false → builds built e' ≡ false → FollowsFrom c e e'

  module _ (c : Ctx) where
    pub from_value : {e e' : Expr} → FollowsFrom c e e' → Follows K X c e e'
    from_value (reached_t h) = as_value K X c h
    from_value (valued_t h b d) = h.values None None

    rel_on_plain : {v : World} → Later w v → {i i' : ℕ} → SpotT (at_site i) (at_site i') → {p p' : Option Path} → PathT K p p' → {q q' : ℕ} → PropT K X q q' → {x y : Val} → V K v x y → Rel (ReachV K) v (reach_member J B i p q (plain x)) (reach_member J' B' i' p' q' (plain y))
    unfolding reach_member
    rel_on_plain l s pt kt h = rel_bind (rel_value_of K X l (plain_t h)) (λ v2 l2 x y r. rel_bind (rel_reference K X s pt r (kt.keys v2 (later l l2) x y r)) (λ v3 l3 a b h. rel_ret (access a) (access b) (access_t h)))

    rel_on_reach : {v : World} → Later w v → {i i' : ℕ} → SpotT (at_site i) (at_site i') → {p p' : Option Path} → PathT K p p' → {q q' : ℕ} → PropT K X q q' → {x : Val} {r : Reach} → PlainT v x r → Rel (ReachV K) v (reach_member J B i p q (plain x)) (reach_member J' B' i' p' q' r)
    rel_on_reach l s pt kt (plain_p h) = rel_on_plain l s pt kt h

    -- the right side of a dot, by what the new expression is
    rel_on_right : {e e' : Expr} → FollowsValue c e e' → builds built e' ≡ false → (b : Bool) → accesses e' ≡ b → {v : World} → Later w v → {g g' : Env} → EnvT c v g g' → {i i' : ℕ} → SpotT (at_site i) (at_site i') → {p p' : Option Path} → PathT K p p' → {q q' : ℕ} → PropT K X q q' → Rel (ReachV K) v (value J B (ev J B g None e) >>= λ x. reach_member J B i p q (plain x)) (ev J' B' g' None e' >>= λ r. reach_member J' B' i' p' q' r)
    unfolding reaches
    rel_on_right {e = e} {e' = e'} h d true a {v = v} l {g = g} {g' = g'} t {i = i} {i' = i'} s {p = p} {p' = p'} pt {q = q} {q' = q'} kt =
        subst (λ z. Rel (ReachV K) v (value J B (ev J B g None e) >>= λ x. reach_member J B i p q (plain x)) z) (sym (member_first J' B' g' None e' (access_no_variable e' a) i' p' q'))
        (rel_bind ((h.values None None).by v l g g' t) (λ v2 l2 x y r. rel_on_plain (later l l2) s pt kt r))
    rel_on_right {e = e} {e' = e'} h d false a {v = v} l {g = g} {g' = g'} t s pt kt =
        rel_bind ((h.plain (neither (accesses e') (builds built e') a d)).by v l g g' t) (λ v2 l2 x r pl. rel_on_reach (later l l2) s pt kt pl)

    pub from_on : {e e' : Expr} → FollowsFrom c e e' → FollowsOn K X c e e'
    from_on (reached_t h) = on_reached K X c h
    from_on (valued_t {e = e} {e' = e'} h b d) = record {
      by = λ v l g g' t {i} {i'} s {p} {p'} pt {q} {q'} kt.
          subst (λ z. Rel (ReachV K) v z (ev J' B' g' None e' >>= λ r. reach_member J' B' i' p' q' r)) (sym (member_first J B g None e b i p q)) (rel_on_right h d (accesses e') refl l t s pt kt);
    }

    -- ---- values alone

    pub plain_of_values : {e e' : Expr} → accesses e' ≡ false → variable e' ≡ false → Follows K X c e e' → FollowsPlain c e e'
    plain_of_values {e = e} {e' = e'} a b h = record {
      by = λ v l g g' t.
          subst (λ z. Rel PlainT v (value J B (ev J B g None e)) z) (sym (value_first J' B' g' None e' a b))
          (rel_left K (rel_bind (h.by v l g g' t) (λ v2 l2 x y q. rel_ret x (plain y) (plain_p q))));
    }

    rel_reached : {v : World} {x : Val} {r : Reach} → PlainT v x r → Rel (ReachV K) v (ret (plain x)) (ret r)
    rel_reached {x = x} (plain_p {y = y} q) = rel_ret (plain x) (plain y) (plain_t q)

    pub ref_of_plain : {e e' : Expr} → accesses e ≡ false → variable e ≡ false → FollowsPlain c e e' → FollowsRef K X c None None e e'
    ref_of_plain {e = e} {e' = e'} a b h = record {
      by = λ v l g g' t.
          subst (λ z. Rel (ReachV K) v z (ev J' B' g' None e')) (sym (value_first J B g None e a b))
          (rel_right K (rel_bind (h.by v l g g' t) (λ v2 l2 x r q. rel_reached q)));
    }

    -- what gives a value alone on the right
    pub valued_alone : {e e' : Expr} → accesses e' ≡ false → variable e' ≡ false → SiteT K (site_of e) (site_of e') → ((p p' : Option Path) → FollowsRef K X c p p' e e') → FollowsValue c e e'
    valued_alone a b s h = record { site = s; values = λ p p'. as_value K X c (h p p'); plain = λ q. plain_of_values a b (as_value K X c (h None None)) }

    pub valued_access : {e e' : Expr} → reaches built e' ≡ true → SiteT K (site_of e) (site_of e') → ((p p' : Option Path) → FollowsRef K X c p p' e e') → FollowsValue c e e'
    valued_access a s h = record { site = s; values = λ p p'. as_value K X c (h p p'); plain = λ q. absurd (cc) }

    -- ---- under casts and price marks

    rel_cast_plain : {v : World} {i i' : ℕ} → SiteT K i i' → {d d' : ℕ} → DocT d d' → {x : Val} {r : Reach} → PlainT v x r → Rel PlainT v (cast_to J (at_site i) d x >>= λ _. ret x) (cast_reach J' i' d' r)
    unfolding cast_reach
    rel_cast_plain s dt {x = x} (plain_p {y = y} h) = rel_bind (rel_cast s dt h) (λ v2 l2 _ _ _. rel_ret x (plain y) (plain_p (val_later K l2 h)))

    pub cast_plain : {i i' : ℕ} → SiteT K i i' → {d d' : ℕ} → DocT d d' → {e e' : Expr} → FollowsPlain c e e' → FollowsPlain c (cast i d e) (cast i' d' e')
    unfolding ev
    cast_plain {i = i} {i' = i'} s {d = d} {d' = d'} dt {e = e} {e' = e'} h = record {
      by = λ v l g g' t.
          subst (λ z. Rel PlainT v z (ev J' B' g' None (cast i' d' e'))) (sym (cast_value J B g None i d e)) (rel_bind (h.by v l g g' t) (λ v2 l2 x r q. rel_cast_plain s dt q));
    }

    pub valued_cast : {i i' : ℕ} → SiteT K i i' → {d d' : ℕ} → DocT d d' → {e e' : Expr} → FollowsValue c e e' → FollowsValue c (cast i d e) (cast i' d' e')
    unfolding site_of reaches accesses builds
    valued_cast s dt h = record { site = s; values = λ p p'. cast_at_value K X c s dt (h.values None None); plain = λ q. cast_plain s dt (h.plain q) }

    pub tick_plain : (n : ℕ) {i i' : ℕ} {e e' : Expr} → FollowsPlain c e e' → FollowsPlain c (tick i n e) (tick i' n e')
    unfolding ev
    tick_plain n {i = i} {i' = i'} {e = e} {e' = e'} h = record {
      by = λ v l g g' t.
          subst (λ z. Rel PlainT v z (ev J' B' g' None (tick i' n e'))) (sym (tick_value J B g None i n e)) (rel_bind (rel_mark n) (λ v2 l2 _ _ _. h.by v2 (later l l2) g g' (env_later l2 t)));
    }

    pub valued_tick : (n : ℕ) {i i' : ℕ} → SiteT K i i' → {e e' : Expr} → FollowsValue c e e' → FollowsValue c (tick i n e) (tick i' n e')
    unfolding site_of reaches accesses builds
    valued_tick n s h = record { site = s; values = λ p p'. tick_at_value K X c n (h.values None None); plain = λ q. tick_plain n (h.plain q) }

    -- ---- variables

    read_alone : {v : World} {i i' : ℕ} {g g' : Env} → SiteT K i i' → EnvT c v g g' → {r r' : Ref} → ReadT c r r' → (o o' : Option Built) → o ≡ o' → o' ≡ None → Rel PlainT v (value J B (reach_built J i g r o)) (reach_built J' i' g' r' o')
    unfolding reach_built value value_of
    read_alone {v = v} {i = i} {i' = i'} {g = g} {g' = g'} s t {r = r} {r' = r'} rd None None e d =
        subst (λ z. Rel PlainT v z (read_var J' (at_site i') g' r' >>= λ x. ret (plain x))) (sym (bind_assoc (read_var J (at_site i) g r) (λ x. ret (plain x)) (value_of J B)))
        (rel_bind (rel_read_var s t rd) (λ v2 l2 x y q. subst (λ z. Rel PlainT v2 z (ret (plain y))) (sym (ret_bind (plain x) (value_of J B))) (rel_ret x (plain y) (plain_p q))))
    read_alone s t rd None (Some b) e d = absurd (cc)
    read_alone s t rd (Some b) o' e d = absurd (cc)

    tables_value : (f : Tables → M Reach) → value J B (with_tables f) ≡ with_tables (λ T. value J B (f T))
    unfolding value with_tables ◌>>=◌
    tables_value f = refl

    pub var_plain : {i i' : ℕ} → SiteT K i i' → {r r' : Ref} → ReadT c r r' → built_of tables' r' ≡ None → FollowsPlain c (var i r) (var i' r')
    unfolding ev
    var_plain {i = i} {i' = i'} s {r = r} {r' = r'} rd n = record {
      by = λ v l g g' t.
          rw (reach_by J i g r, reach_by J' i' g' r', tables_value (λ T. reach_built J i g r (built_of T r)))
          (rel_tables _ _ (read_alone s t rd (built_of tables r) (built_of tables' r') (read_built rd) n));
    }

    -- ---- a step by an equation of runs of the right program

    pub valued_equal : {e e' e'' : Expr} → FollowsValue c e e' → accesses e'' ≡ false → variable e'' ≡ false → SiteT K (site_of e) (site_of e'') → ((g : Env) (p : Option Path) → value J' B' (ev J' B' g p e') ≡ value J' B' (ev J' B' g p e'')) → FollowsValue c e e''
    valued_equal {e = e} {e' = e'} {e'' = e''} h a b s q = record { site = s; values = values; plain = λ r. plain_of_values a b (values None None) }
      where
        values : (p p' : Option Path) → FollowsAs K X (V K) c p p' e e''
        values p p' = record { by = λ v l g g' t. subst (λ z. Rel (V K) v (value J B (ev J B g p e)) z) (q g' p') ((h.values p p').by v l g g' t) }

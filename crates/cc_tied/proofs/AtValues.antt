-- Expressions whose values alone are tied, below a cast, a price mark and a dot.
use Rattle.std.proofs.Common.{◌≡◌, refl, sym, ◌∙◌, ℕ, List, [], ◌∷◌, ◌++◌, Option, None}
use Rattle.cc_ast.specs.Syntax.{Prim, Expr, cast, tick}
use Rattle.cc_meaning.specs.Values.{Val, at_site}
use Rattle.cc_meaning.specs.State.{Env, Path}
use Rattle.cc_meaning.specs.Monad.{M, ret, ◌>>=◌, Mode}
use Rattle.cc_meaning.specs.Acts.{cast_to}
use Rattle.cc_meaning.specs.Calls.{Reference, Reach, plain, access, built_global, built_member, cast_all, get, value_of, value, cast_reach, Bodies}
use Rattle.cc_meaning.specs.Meaning.{ev}
use Rattle.cc_tied.proofs.Kit.{Kit}
use Rattle.cc_tied.proofs.Parts.{V, Below, val_later}
use Rattle.cc_tied.proofs.Laws.{bind_assoc, bind_ret, ret_bind, stop_bind, bind_alike}
use Rattle.cc_tied.proofs.Expressions.{FollowsAs, Follows}

-- a value that is reached as one
pub plain_value : (J : Mode) (B : Bodies) (m : M Val) → ((m >>= λ v. ret (plain v)) >>= value_of J B) ≡ m
unfolding value_of
plain_value J B m = bind_assoc m (λ v. ret (plain v)) (value_of J B) ∙ bind_alike m (λ v. ret (plain v) >>= value_of J B) ret (λ v. ret_bind (plain v) (value_of J B)) ∙ bind_ret m

-- ---- casts

cast_all_more : (J : Mode) (cs : List (ℕ × ℕ)) (c : ℕ × ℕ) (v : Val) → cast_all J (cs ++ c ∷ []) v ≡ (cast_all J cs v >>= λ _. cast_to J (at_site c.0) c.1 v)
unfolding cast_all
cast_all_more J [] c v = bind_ret (cast_to J (at_site c.0) c.1 v) ∙ sym (ret_bind tt (λ _. cast_to J (at_site c.0) c.1 v))
cast_all_more J (x ∷ cs) c v = bind_alike (cast_to J (at_site x.0) x.1 v) _ _ (λ u. cast_all_more J cs c v) ∙ sym (bind_assoc (cast_to J (at_site x.0) x.1 v) (λ _. cast_all J cs v) (λ _. cast_to J (at_site c.0) c.1 v))

get_cast : (J : Mode) (B : Bodies) (i d : ℕ) (r : Reference) → get J B (record r { casts = r.casts ++ (i, d) ∷ [] }) ≡ (get J B r >>= λ v. cast_to J (at_site i) d v >>= λ _. ret v)
unfolding get
get_cast J B i d r = simp (cast_all_more, bind_assoc, ret_bind) refl

cast_reached : (J : Mode) (B : Bodies) (i d : ℕ) (r : Reach) → (cast_reach J i d r >>= λ x. value_of J B x) ≡ (value_of J B r >>= λ v. cast_to J (at_site i) d v >>= λ _. ret v)
unfolding cast_reach value_of
cast_reached J B i d (plain v) = simp (bind_assoc, ret_bind) refl
cast_reached J B i d (access r) = ret_bind _ _ ∙ get_cast J B i d r
cast_reached J B i d (built_global j b) = ret_bind _ _ ∙ sym (stop_bind _ _)
cast_reached J B i d (built_member j b n) = ret_bind _ _ ∙ sym (stop_bind _ _)

pub cast_value : (J : Mode) (B : Bodies) (g : Env) (p : Option Path) (i d : ℕ) (e : Expr) → value J B (ev J B g p (cast i d e)) ≡ (value J B (ev J B g None e) >>= λ v. cast_to J (at_site i) d v >>= λ _. ret v)
unfolding ev value
cast_value J B g p i d e = bind_assoc (ev J B g None e) (λ r. cast_reach J i d r) (value_of J B) ∙ bind_alike (ev J B g None e) _ _ (λ r. cast_reached J B i d r) ∙ sym (bind_assoc (ev J B g None e) (value_of J B) _)

pub tick_value : (J : Mode) (B : Bodies) (g : Env) (p : Option Path) (i n : ℕ) (e : Expr) → value J B (ev J B g p (tick i n e)) ≡ (J.mark n >>= λ _. value J B (ev J B g None e))
unfolding ev value
tick_value J B g p i n e = bind_assoc (J.mark n) (λ _. ev J B g None e) (value_of J B)

-- ---- what follows

module _ (K : Kit) (X : Below K) (c : K.Ctx) where
  open K use {J, J', World, Later, later, EnvT, env_later, SpotT, DocT, Rel, rel_ret, rel_bind, rel_mark, rel_cast}
  open X use {B, B', w}

  pub cast_at_value : {i i' : ℕ} → SpotT (at_site i) (at_site i') → {d d' : ℕ} → DocT d d' → {e e' : Expr} → Follows K X c e e' → {p p' : Option Path} → FollowsAs K X (V K) c p p' (cast i d e) (cast i' d' e')
  cast_at_value {i = i} {i' = i'} s {d = d} {d' = d'} dt {e = e} {e' = e'} h {p = p} {p' = p'} = record {
    by = λ v l g g' t. rw (cast_value J B g p i d e, cast_value J' B' g' p' i' d' e')
        (rel_bind (h.by v l g g' t) (λ v2 l2 x y q. rel_bind (rel_cast s dt q) (λ v3 l3 _ _ _. rel_ret x y (val_later K l3 q))));
  }

  pub tick_at_value : (n : ℕ) {i i' : ℕ} {R : World → Val → Val → Type 0} {e e' : Expr} → FollowsAs K X R c None None e e' → {p p' : Option Path} → FollowsAs K X R c p p' (tick i n e) (tick i' n e')
  tick_at_value n {i = i} {i' = i'} {e = e} {e' = e'} h {p = p} {p' = p'} = record {
    by = λ v l g g' t. rw (tick_value J B g p i n e, tick_value J' B' g' p' i' n e')
        (rel_bind (rel_mark n) (λ v2 l2 _ _ _. h.by v2 (later l l2) g g' (env_later l2 t)));
  }

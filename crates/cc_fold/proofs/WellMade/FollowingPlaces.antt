-- Where scopes follow those of a well made program, what is reached was reached, and each variable that
-- is mentioned is still there.
use Rattle.std.proofs.Common.{◌≡◌, ℕ, ◌+◌, ◌<◌, Bool, true, false, List, Some, refl, sym, ap, subst, ◌∙◌}
use Rattle.std.specs.Prelude.{slice_get, IsTrue, IsFalse}
use Rattle.cc_ast.specs.Syntax.{Scope, Program}
use Rattle.cc_ast.specs.declared.tree.Ref.{Ref}
use Rattle.cc_meaning.specs.Store.{global_kind}
use Rattle.cc_meaning.specs.Alike.{In, ListT}
use Rattle.cc_meaning.specs.Shapes.{tables_of}
use Rattle.cc_meaning.specs.Parts.{Part, declares, makes}
use Rattle.cc_meaning.specs.WellMade.{is_chunk, parts_of, Reached, chunk_reached, function_reached, IsOwn, is_param, is_declared, Holds, of_catch, of_frame, of_own, of_outer, of_outer_own, IsDeclared, IsSound, sound_place, sound_global, sound_outer, IsPlaced, placed_global, placed_local, IsMade, IsPart, a_function, WellMade}
use Rattle.cc_tied.proofs.Injection.Facts.{part_of, parent_is}
use Rattle.cc_fold.proofs.WellMade.FollowingScopes.{Follows, After, after}
use Rattle.cc_fold.proofs.WellMade.FollowingParts.{part_before, declared_after}

module _ (P : Program) (W : WellMade P) (ts : List Scope) (F : ListT (Follows (tables_of P)) P.scopes ts) where
  abbrev pub Q : Program
  Q = record P { scopes = ts }

  part_here : (f : ℕ) (x : Part) → In x (parts_of Q f) → In x (parts_of P f)
  part_here f x i = part_before P ts F f x i

  declared_here : (f c : ℕ) (r : Ref) → In (declares c r) (parts_of P f) → In (declares c r) (parts_of Q f)
  declared_here f c r i = declared_after P ts F f c r i

  -- ---- what is reached

  pub reached_before : {f : ℕ} → Reached Q f → Reached P f
  unfolding is_chunk
  reached_before (chunk_reached c h) = chunk_reached c h
  reached_before (function_reached f g c d r i) = function_reached f g c d (reached_before r) (part_here f _ i)

  -- where a function is made by which it is reached
  record Maker (f : ℕ) : Type 0 where
    pub maker : ℕ
    pub catches : ℕ
    pub declared : Bool
    pub reached : Reached Q maker
    pub made : In (makes catches f declared) (parts_of Q maker)

  no_chunk : {A : Type 0} (b : Bool) → b ≡ true → b ≡ false → A
  no_chunk b h k = absurd (cc)

  maker_of : {f : ℕ} → IsFalse (is_chunk P f) → Reached Q f → Maker f
  unfolding is_chunk
  maker_of k (chunk_reached c h) = no_chunk _ h k
  maker_of k (function_reached f g c d r i) = record { maker = f; catches = c; declared = d; reached = r; made = i }

  made_in : (g d f : ℕ) (b : Bool) → IsPart P g (makes d f b) → IsMade P g f b
  made_in g d f b (a_function _ _ _ m) = m

  some_same : {A : Type 0} {x y : A} → Some x ≡ Some y → x ≡ y
  some_same h = cc

  record OnePlace (g d h e : ℕ) : Type 0 where
    pub maker : g ≡ h
    pub catches : d ≡ e

  -- a function stands at one place
  one_place : (f g d h e : ℕ) (b c : Bool) → In (makes d f b) (parts_of P g) → In (makes e f c) (parts_of P h) → OnePlace g d h e
  one_place f g d h e b c i j =
      let m = made_in g d f b (part_of P W g _ i) in
      let n = made_in h e f c (part_of P W h _ j) in
      record {
        maker = some_same (sym m.parent ∙ ap (λ (z : Scope). z.parent) (some_same (sym m.stands ∙ n.stands)) ∙ n.parent);
        catches = ap (λ z. z.1) (sym (parent_is P W g d f b i) ∙ parent_is P W h e f c j);
      }

  -- the same place, as it is in the scopes that follow
  record IsMadeAt (f g d : ℕ) : Type 0 where
    pub declared : Bool
    pub reached : Reached Q g
    pub made : In (makes d f declared) (parts_of Q g)

  made_at : (f g d : ℕ) (b : Bool) → IsFalse (is_chunk P f) → In (makes d f b) (parts_of P g) → Reached Q f → IsMadeAt f g d
  made_at f g d b k i r =
      let m = maker_of k r in
      let o = one_place f m.maker m.catches g d m.declared b (part_here m.maker _ m.made) i in
      record {
        declared = m.declared;
        reached = subst (Reached Q) o.maker m.reached;
        made = subst (λ z. In (makes z f m.declared) (parts_of Q g)) o.catches (subst (λ z. In (makes m.catches f m.declared) (parts_of Q z)) o.maker m.made);
      }

  -- ---- variables

  own_after : (f : ℕ) (s : Scope) (t : After (tables_of P) ts f s) {n : ℕ} → IsOwn P s f n → IsOwn Q t.scope f n
  own_after f s t (is_param n l) = is_param n (subst (λ z. n < z) (sym t.follows.params) l)
  own_after f s t (is_declared n c l i) = is_declared n c (subst (λ z. n < z) (ap (λ z. z + s.names) (sym t.follows.params) ∙ ap (λ z. t.scope.params + z) (sym t.follows.names)) l) (declared_here f c (Ref.Frame c n) i)

  -- no chunk has an own name
  own_function : (f : ℕ) (s : Scope) → slice_get P.scopes f ≡ Some s → IsTrue s.own → IsFalse (is_chunk P f)
  own_function f s e o = by_test (is_chunk P f) refl
    where
      by_test : (b : Bool) → is_chunk P f ≡ b → IsFalse b
      by_test true q = no_chunk s.own o ((W.scopes f s e).chunk_own q)
      by_test false q = refl

  pub holds_after : {f c u n : ℕ} → Holds P f c u n → Reached Q f → Holds Q f c u n
  unfolding is_chunk
  holds_after (of_catch f c u l) r = of_catch f c u l
  holds_after (of_frame f c n s e k o) r = let t = after (tables_of P) F f s e in of_frame f c n t.scope t.stands k (own_after f s t o)
  holds_after (of_own f c s e o) r = let t = after (tables_of P) F f s e in of_own f c t.scope t.stands (t.follows.own ∙ o)
  holds_after (of_outer f g c d u n s b e k o i h) r =
      let t = after (tables_of P) F f s e in
      let m = made_at f g d b k i r in
      of_outer f g c d u n t.scope m.declared t.stands k (t.follows.own ∙ o) m.made (holds_after h m.reached)
  holds_after (of_outer_own f g c d u n s b e o i h) r =
      let t = after (tables_of P) F f s e in
      let m = made_at f g d b (own_function f s e o) i r in
      of_outer_own f g c d u n t.scope m.declared t.stands (t.follows.own ∙ o) m.made (holds_after h m.reached)

  declaration_after : (n c : ℕ) → IsDeclared P n c → IsDeclared Q n c
  declaration_after n c h = record { here = (h.here.0, declared_here c h.here.0 (Ref.Global n) h.here.1); least = λ d k l i. h.least d k l (part_here d _ i) }

  pub sound_after : {f c : ℕ} {r : Ref} → IsSound P f c r → Reached Q f → IsSound Q f c r
  unfolding global_kind tables_of
  sound_after (sound_place u n h) q = sound_place u n (holds_after h q)
  sound_after (sound_global n d k h) q = sound_global n d k (declaration_after n d h)
  sound_after (sound_outer n g e h) q = sound_outer n g e h

  pub placed_after : {f c : ℕ} {r : Ref} → IsPlaced P f c r → IsPlaced Q f c r
  unfolding is_chunk global_kind tables_of
  placed_after (placed_global n d h k) = placed_global n d h k
  placed_after {f = f} (placed_local n s h e l) =
      let t = after (tables_of P) F f s e in
      placed_local n t.scope h t.stands (subst (λ z. n < z) (ap (λ z. z + s.names) (sym t.follows.params) ∙ ap (λ z. t.scope.params + z) (sym t.follows.names)) l)

  pub made_after : (f g : ℕ) (b : Bool) → IsMade P f g b → IsMade Q f g b
  unfolding is_chunk
  made_after f g b m =
      let t = after (tables_of P) F g m.scope m.stands in
      record { scope = t.scope; stands = t.stands; function = m.function; parent = t.follows.parent ∙ m.parent; own = λ h. t.follows.own ∙ m.own h }

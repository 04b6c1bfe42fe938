-- Where scopes follow those of a program, what may become a variable still may, and is set as often.
use Rattle.std.proofs.Common.{◌≡◌, ◌⊎◌, inl, inr, ℕ, ◌≤◌, true, List, [], ◌∷◌, ◌++◌, length, refl, sym, ap, subst, ◌∙◌, arith}
use Rattle.cc_ast.specs.Syntax.{object, Scope, Program}
use Rattle.cc_meaning.specs.State.{Path}
use Rattle.cc_meaning.specs.Store.{class_of_function, global_kind}
use Rattle.cc_meaning.specs.Alike.{In, here, there, ListT}
use Rattle.cc_meaning.specs.Shapes.{tables_of}
use Rattle.cc_meaning.specs.FlatPaths.{Use, called, constructed, tested, deleted, other, Setting, by_value, used, set, settings, uses, mentions_of, extended, OwnNameOf, own_here, own_outer, own_further, IsConstructor, AreConstructions, no_uses, by_new, by_instance, Holds, a_literal, an_expression, a_declaration, IsFree, IsHolding, MayBeVariable, a_global, a_property}
use Rattle.cc_meaning.specs.WellMade.{parts_of, WellMade}
use Rattle.cc_fold.proofs.Paths.{Begins, begins_itself, begins_further, Before, no_extended, extended_same, in_next, in_settings, settings_in, in_uses, uses_in, count}
use Rattle.cc_fold.proofs.WellMade.LessMentions.{MayBecome, to_call, Comes, from_same, from_value, from_before}
use Rattle.cc_fold.proofs.WellMade.Mentioned.{firm, Like, like_literal, like_itself, Clear, Mentioned}
use Rattle.cc_fold.proofs.WellMade.SetMentions.{IsSet}
use Rattle.cc_fold.proofs.WellMade.FollowingScopes.{Follows, before, all_mentioned}
use Rattle.cc_fold.proofs.WellMade.FollowingParts.{part_before}
use Rattle.cc_fold.proofs.WellMade.FollowingPlaces.{Q}

-- ---- what holds

-- a holder is used in no way of its own
is_construction : {us : List Use} {u : Use} → AreConstructions us → In u us → (u ≡ constructed) ⊎ (u ≡ tested)
is_construction no_uses i = elim i [ ]
is_construction (by_new us a) i = elim (in_next i) [ inl e ↦ inl e | inr j ↦ is_construction a j ]
is_construction (by_instance us a) i = elim (in_next i) [ inl e ↦ inr e | inr j ↦ is_construction a j ]

is_other : {u : Use} → u ≡ other → (u ≡ constructed) ⊎ (u ≡ tested) → ⊥
is_other e (inl h) = cc
is_other e (inr h) = cc

holds_no_other : {P : Program} {s : Setting} {us : List Use} → Holds P s us → In other us → ⊥
holds_no_other (a_literal j fs d p) i = elim i [ ]
holds_no_other (an_expression j f us c a) i = is_other refl (is_construction a i)
holds_no_other (a_declaration f us c a) i = is_other refl (is_construction a i)

holds_firm : {P : Program} {s : Setting} {us : List Use} → Holds P s us → firm s ≡ true
unfolding firm
holds_firm (a_literal i fs d p) = refl
holds_firm (an_expression i f us c a) = refl
holds_firm (a_declaration f us c a) = refl

-- fewer uses are constructions too
fewer_constructions : (us vs : List Use) → AreConstructions us → ((u : Use) → In u vs → In u us) → AreConstructions vs
fewer_constructions us [] a h = no_uses
fewer_constructions us (v ∷ vs) a h =
    let more = fewer_constructions us vs a (λ u i. h u (there i)) in
    elim (is_construction a (h v here)) [
      | inl e ↦ subst (λ z. AreConstructions (z ∷ vs)) (sym e) (by_new vs more)
      | inr e ↦ subst (λ z. AreConstructions (z ∷ vs)) (sym e) (by_instance vs more)
    ]

only_one : {s : Setting} (xs : List Setting) → length xs ≤ 1 → In s xs → xs ≡ s ∷ []
only_one [] h i = elim i [ ]
only_one (x ∷ []) h here = refl
only_one (x ∷ []) h (there i) = elim i [ ]
only_one (x ∷ y ∷ xs) h i = absurd (omega arith)

-- ---- paths before what may become a variable

module _ {P : Program} where
  from_begins : {h : Path} → IsHolding P h → ((v : Path) → Before v h → IsHolding P v) → (v : Path) → Begins v h → IsHolding P v
  from_begins k more v begins_itself = k
  from_begins k more v (begins_further w p b) = more v (record { path = w; name = p; is = refl; begins = b })

  held : {w : Path} → MayBeVariable P w → (v : Path) → Before v w → IsHolding P v
  held (a_global n c k) v b = absurd (no_extended n b.path b.name b.is)
  held (a_property h p m k f) v b = from_begins k (held m) v (subst (Begins v) (sym (extended_same h b.path p b.name b.is)) b.begins)

  unused : {v : Path} → IsHolding P v → In (used v other) (mentions_of P) → ⊥
  unused {v = v} k i = holds_no_other k.holds (in_uses v (mentions_of P) i)

  set_firm : {v : Path} {s : Setting} → IsHolding P v → In (set v s) (mentions_of P) → firm s ≡ true
  set_firm {v = v} {s = s} k i = first (subst (λ z. In s z) k.once (in_settings v (mentions_of P) i))
    where
      first : In s (k.setting ∷ []) → firm s ≡ true
      first i = elim (in_next i) [ inl e ↦ subst (λ z. firm z ≡ true) (sym e) (holds_firm k.holds) | inr j ↦ elim j [ ] ]

  clear : {w : Path} → MayBeVariable P w → Clear w (mentions_of P)
  clear m v s b i = set_firm (held m v b) i

module _ (P : Program) (W : WellMade P) (ts : List Scope) (F : ListT (Follows (tables_of P)) P.scopes ts) where
  abbrev R : Program
  R = Q P W ts F

  mentioned : Mentioned (mentions_of P) (mentions_of R)
  unfolding mentions_of
  mentioned = all_mentioned (tables_of P) P.chunks F

  -- ---- how often it is set

  one_after : (w : Path) (s t : Setting) → MayBeVariable P w → settings w (mentions_of P) ≡ s ∷ [] → In (set w t) (mentions_of R) → settings w (mentions_of R) ≡ t ∷ []
  unfolding count
  one_after w s t m e i =
      let a = mentioned.fewer w (clear m) in
      let b : length (settings w (mentions_of P)) ≡ 1 = ap length e in
      only_one (settings w (mentions_of R)) (subst (λ z. length (settings w (mentions_of R)) ≤ z) b a) (in_settings w (mentions_of R) i)

  pub once_after : (w : Path) → MayBeVariable P w → (s : Setting) × (settings w (mentions_of P) ≡ s ∷ []) → IsSet w (mentions_of R) → (s : Setting) × (settings w (mentions_of R) ≡ s ∷ [])
  once_after w m o i = (i.setting, one_after w o.0 i.setting m o.1 i.stands)

  -- ---- holders

  own_before : {f g c u : ℕ} → OwnNameOf R f g c u → OwnNameOf P f g c u
  unfolding parts_of
  own_before {f = f} (own_here c t e o) = let b = before (tables_of P) F f t e in own_here c b.scope b.stands (sym b.follows.own ∙ o)
  own_before (own_outer g h c d u t b e o i n) = let s = before (tables_of P) F g t e in own_outer g h c d u s.scope b s.stands (sym s.follows.own ∙ o) (part_before P ts F h _ i) (own_before n)
  own_before (own_further g h c d u t b e o i n) = let s = before (tables_of P) F g t e in own_further g h c d u s.scope b s.stands (sym s.follows.own ∙ o) (part_before P ts F h _ i) (own_before n)

  constructor_after : {f : ℕ} → IsConstructor P f → IsConstructor R f
  unfolding class_of_function tables_of parts_of
  constructor_after k = record {
    class = k.class;
    entry = k.entry;
    is = k.is;
    stands = k.stands;
    constructs = k.constructs;
    nameless = λ g c u o i. k.nameless g c u (own_before o) (part_before P ts F g _ i);
  }

  no_more : {vs : List Use} → ((u : Use) → In u vs → In u []) → vs ≡ []
  no_more {vs = []} h = refl
  no_more {vs = v ∷ vs} h = elim (h v here) [ ]

  holds_after : {s t : Setting} {us : List Use} (vs : List Use) → Holds P s us → Like s t → ((u : Use) → In u vs → In u us) → Holds R t vs
  holds_after vs (a_literal i fs d p) (like_literal _ _ gs e q) h = subst (λ z. Holds R (by_value (object i gs)) z) (sym (no_more h)) (a_literal i gs (e d) (q p))
  holds_after vs (a_literal i fs d p) (like_itself _) h = subst (λ z. Holds R (by_value (object i fs)) z) (sym (no_more h)) (a_literal i fs d p)
  holds_after vs (an_expression i f us c a) (like_itself _) h = an_expression i f vs (constructor_after c) (fewer_constructions us vs a h)
  holds_after vs (a_declaration f us c a) (like_itself _) h = a_declaration f vs (constructor_after c) (fewer_constructions us vs a h)

  -- a holder, before which only holders stand, is used no more
  use_before : (h : Path) → MayBeVariable P h → IsHolding P h → (u : Use) → In u (uses h (mentions_of R)) → In u (uses h (mentions_of P))
  use_before h m k u i = by_source (mentioned.uses h u (uses_in h (mentions_of R) i))
    where
      by_source : Comes h u (mentions_of P) → In u (uses h (mentions_of P))
      by_source (from_same j) = in_uses h (mentions_of P) j
      by_source (from_value b j) = absurd (unused k j)
      by_source (from_before v b j) = absurd (unused (held m v b) j)

  free_after : (h : Path) (p n : ℕ) → MayBeVariable P h → IsHolding P h → IsFree P (extended h p) n → IsFree R (extended h p) n
  free_after h p n m k f = record { unkept = f.unkept; stays = λ i. by_source (mentioned.uses (extended h p) deleted (uses_in (extended h p) (mentions_of R) i)) }
    where
      by_source : Comes (extended h p) deleted (mentions_of P) → ⊥
      by_source (from_same j) = f.stays (in_uses (extended h p) (mentions_of P) j)
      by_source (from_value b j) = elim b [ ]
      by_source (from_before v b j) = unused (from_begins k (held m) v (subst (Begins v) (sym (extended_same h b.path p b.name b.is)) b.begins)) j

  global_called : {w : Path} → MayBecome called w → w.1 ≡ []
  global_called (to_call w e) = e

  no_call : (h : Path) (p : ℕ) → h.1 ++ p ∷ [] ≡ [] → ⊥
  no_call h p e = no_extended h.0 h p (ap (λ z. (h.0, z)) (sym e))

  called_after : (h : Path) (p : ℕ) → MayBeVariable P h → IsHolding P h → In called (uses (extended h p) (mentions_of R)) → IsFree P (extended h p) p
  called_after h p m k i = by_source (mentioned.uses (extended h p) called (uses_in (extended h p) (mentions_of R) i))
    where
      by_source : Comes (extended h p) called (mentions_of P) → IsFree P (extended h p) p
      by_source (from_same j) = k.methods p (in_uses (extended h p) (mentions_of P) j)
      by_source (from_value b j) = absurd (no_call h p (global_called b))
      by_source (from_before v b j) = absurd (unused (from_begins k (held m) v (subst (Begins v) (sym (extended_same h b.path p b.name b.is)) b.begins)) j)

  holding_after : (h : Path) → MayBeVariable P h → IsHolding P h → IsHolding R h
  holding_after h m k =
      let stands = settings_in h (mentions_of P) (subst (λ z. In k.setting z) (sym k.once) here) in
      let t = mentioned.kept h k.setting stands (holds_firm k.holds) in
      record {
        setting = t.setting;
        once = one_after h k.setting t.setting m k.once t.stands;
        holds = holds_after (uses h (mentions_of R)) k.holds t.like (use_before h m k);
        methods = λ p i. free_after h p p m k (called_after h p m k i);
      }

  pub variable_after : {w : Path} → MayBeVariable P w → MayBeVariable R w
  unfolding global_kind tables_of
  variable_after (a_global n c k) = a_global n c k
  variable_after (a_property h p m k f) = a_property h p (variable_after m) (holding_after h m k) (free_after h p p m k f)

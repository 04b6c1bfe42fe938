-- Each scope of a well made program that is reached, written under names, stands for its statements.
use Rattle.std.specs.Prelude.{◌≡◌, ℕ, zero, suc, ◌+◌, ◌<◌, ◌≤◌, Bool, true, false, List, ◌∷◌, length, Option, Some, None, slice_get}
use Rattle.std.proofs.Common.{refl, sym, ap, ap₂, ◌∙◌, subst, arith}
use Rattle.cc_ast.specs.declared.tree.Ref.{Ref}
use Rattle.cc_ast.specs.Syntax as S
use Rattle.cc_meaning.specs.Shapes.{tables_of, body_of}
use Rattle.cc_meaning.specs.Shapes as shape
use Rattle.cc_meaning.specs.Alike.{In}
use Rattle.cc_meaning.specs.Parts.{Part, has_site, uses_prop, uses_doc, mentions, declares, makes, sets_method, stmts_parts}
use Rattle.cc_meaning.specs.Spelled.{IsSpelled}
use Rattle.cc_meaning.specs.WellMade.{WellMade, parts_of, is_chunk, Reached, IsSound, sound_place, IsPlaced, placed_global, placed_local, IsPart, a_mention, a_declaration}
use Rattle.cc_grammar.specs.RawTree.{Named}
use Rattle.cc_printer.specs.Spellable.{SpellableStmts}
use Rattle.cc_printer.specs.Spelling.{IsName}
use Rattle.cc_printer.specs.Texts.{HasUnits}
use Rattle.cc_printer.specs.RawOf.{Frames, Bodies, places, name_at, params, outside, own_name, function, declaration, raw_stmts, body_in, raw_bodies}
use Rattle.cc_printer.specs.Naming.{IsPropertyName, AreNames, inside_catches, inside_function, stmts_catches}
use Rattle.cc_printer.proofs.Lists.{every}
use Rattle.cc_printer.proofs.Slots.{is_made, is_reached}
use Rattle.cc_printer.proofs.Nesting.{Within, few, further_in}
use Rattle.cc_printer.proofs.WrittenPrograms.{bodies_fine}
use Rattle.cc_scope.specs.Lists.{Name}
use Rattle.cc_scope.specs.Resolve as resolve
use Rattle.cc_scope.specs.Written as n
use Rattle.cc_scope.specs.Written.{Naming, Frame, sizes, base, owned, frame_of, count_from, shown, number_of, stmts_in, IsOwn, own_global, own_place, Seen, seen_place, seen_global, OwnN, FunN, ExprN, StmtN, StmtsN}
use Rattle.cc_written.proofs.Trees.{catches, sizes_inside, base_places, Fit, stmts}
use Rattle.cc_written.proofs.Declares.{is_declared}
use Rattle.cc_written.proofs.Seen.{Stands, a_function, Sees, stands_sizes, stands_around, seen}

module _ (v : Naming) (P : S.Program) (ns : S.Names) (W : WellMade P) (spelled : IsSpelled IsName IsPropertyName P) (units : HasUnits P) (names : AreNames P ns) (Known : ℕ → Type 0)
    (locals : (m : ℕ) → m < length ns.slots → name_at ns.slots m ≡ v.local m) (globals : (m : ℕ) → name_at ns.globals m ≡ v.global m)
    (mentioned : (f c m : ℕ) → Reached P f → In (mentions c (Ref.Global m)) (parts_of P f) → Known m) (declared : (f c m : ℕ) → Reached P f → In (declares c (Ref.Global m)) (parts_of P f) → Known m) where
  sees : (cs : List Frame) (u m : ℕ) → Sees cs u m → Seen v P Known cs (Ref.Frame u m)
  sees cs u m s = seen_place s.frame s.stands s.below s.ranked

  -- ---- what a function has around its statements

  params_shown : (from b j k : ℕ) → from ≡ b + j → from + k ≤ length ns.slots → resolve.named (params ns from k) ≡ shown v b (count_from j k)
  unfolding resolve.named count_from
  params_shown from b j zero e h = refl
  params_shown from b j (suc k) e h = ap₂ (λ x xs. x ∷ xs) (locals from (omega (arith, h)) ∙ ap v.local e) (params_shown (suc from) b (suc j) k (omega (arith, e)) (omega (arith, h)))

  own_shown : (own : Bool) (cs : List Frame) → places (outside own (sizes cs)) ≤ length ns.slots → OwnN v P Known cs own (own_name ns own (sizes cs))
  own_shown true cs h = let e = base_places (sizes cs) in n.has_own _ (locals (places (sizes cs)) (omega (arith, h)) ∙ ap v.local (omega (arith, e)))
  own_shown false cs h = n.no_own

  -- the numbers that a function's statements declare are places of its frame
  small : (g : ℕ) (s : S.Scope) → slice_get P.scopes g ≡ Some s → is_chunk P g ≡ false → (m : ℕ) → In m (stmts_in s.body) → m < s.params + s.names
  unfolding number_of parts_of body_of shape.body_in
  small g s e k m i =
      let d = is_declared (tables_of P) 0 m s.body i in
      let same : parts_of P g ≡ stmts_parts (tables_of P) 0 s.body = ap (λ o. stmts_parts (tables_of P) 0 (shape.body_in o)) e in
      let p : IsPart P g (declares d.catches d.variable) = (W.scopes g s e).parts (declares d.catches d.variable) (subst (λ xs. In (declares d.catches d.variable) xs) (sym same) d.stands) in
      by d.variable d.number p where
        placed : (c : ℕ) (r : Ref) → number_of r ≡ m → IsPlaced P g c r → m < s.params + s.names
        placed c _ q (placed_global a b t h) = let z = sym k ∙ t in cc
        placed c _ q (placed_local a x t y l) =
            let z : s ≡ x = let o = sym e ∙ y in cc in
            subst (λ j. j < s.params + s.names) q (subst (λ (w : S.Scope). a < w.params + w.names) (sym z) l)

        by : {c : ℕ} (r : Ref) → number_of r ≡ m → IsPart P g (declares c r) → m < s.params + s.names
        by {c} r q (a_declaration _ _ p h) = placed c r q p

  fits : (cs : List Frame) (g : ℕ) (s : S.Scope) → slice_get P.scopes g ≡ Some s → is_chunk P g ≡ false → (o : Option Named) → OwnN v P Known cs s.own o → places (outside s.own (sizes cs)) + s.params ≤ length ns.slots
      → FunN v P Known cs g s o (params ns (places (outside s.own (sizes cs))) s.params)
  fits cs g s e k o w h = record { stands = e; own_name = w; params = params_shown (places (outside s.own (sizes cs))) (base (sizes (owned s.own cs))) 0 s.params (from s.own) h; small = small g s e k } where
    from : (own : Bool) → places (outside own (sizes cs)) ≡ base (sizes (owned own cs)) + 0
    from true = let e = base_places (sizes cs) in omega (arith, e)
    from false = let e = base_places (sizes cs) in omega (arith, e)

  -- ---- functions

  -- what is asked of the functions that stand in a scope
  abbrev Written : Bodies → Type 0
  Written B = (g : ℕ) (fs : Frames) (cs : List Frame) → Stands P g fs cs → StmtsN v P Known (is_chunk P g) 0 cs (body_of P g) (B g fs)

  body_is : (g : ℕ) (s : S.Scope) → slice_get P.scopes g ≡ Some s → body_of P g ≡ s.body
  unfolding body_of shape.body_in
  body_is g s e = ap (λ o. shape.body_in o) e

  module _ (B : Bodies) (f : ℕ) (fs : Frames) (cs : List Frame) (a : Stands P f fs cs) (go : (c g : ℕ) (d : Bool) (i : In (makes c g d) (parts_of P f)) (gs : Frames) (ds : List Frame) → Stands P g gs ds → StmtsN v P Known (is_chunk P g) 0 ds (body_of P g) (B g gs)) where
    around_is : (c : ℕ) → sizes (catches c cs) ≡ inside_catches c fs
    around_is c = sizes_inside c cs ∙ ap (inside_catches c) (stands_sizes P f fs cs a)

    body_written : (c g : ℕ) (d : Bool) (s : S.Scope) → In (makes c g d) (parts_of P f) → slice_get P.scopes g ≡ Some s → is_chunk P g ≡ false → StmtsN v P Known false 0 (frame_of s ∷ owned s.own (catches c cs)) s.body (B g (inside_function s (inside_catches c fs)))
    body_written c g d s i e k = subst (λ b. StmtsN v P Known false 0 (frame_of s ∷ owned s.own (catches c cs)) b (B g (inside_function s (inside_catches c fs)))) (body_is g s e)
        (subst (λ t. StmtsN v P Known t 0 (frame_of s ∷ owned s.own (catches c cs)) (body_of P g) (B g (inside_function s (inside_catches c fs)))) k
        (go c g d i (inside_function s (inside_catches c fs)) (frame_of s ∷ owned s.own (catches c cs)) (a_function f g c d s fs cs a i e)))

    room : (c g : ℕ) (d : Bool) (s : S.Scope) → In (makes c g d) (parts_of P f) → slice_get P.scopes g ≡ Some s → places (outside s.own (inside_catches c fs)) + s.params ≤ length ns.slots
    room c g d s i e = let l = names.enough g (inside_function s (inside_catches c fs)) (stands_around P g _ _ (a_function f g c d s fs cs a i e)) in omega (arith, l)

    function_fit : (c g : ℕ) → In (makes c g false) (parts_of P f) → (i : ℕ) → ExprN v P Known (catches c cs) (S.fun i g) (function ns B (inside_catches c fs) g (slice_get P.scopes g))
    function_fit c g i j =
        let m = is_made P W f c g false i in
        let s = m.scope in
        let xs = inside_catches c fs in
        let l = room c g false s i m.stands in
        let own : OwnN v P Known (catches c cs) s.own (own_name ns s.own xs) = subst (λ z. OwnN v P Known (catches c cs) s.own (own_name ns s.own z)) (around_is c) (own_shown s.own (catches c cs) (subst (λ z. places (outside s.own z) ≤ length ns.slots) (sym (around_is c)) (omega (arith, l)))) in
        let k : FunN v P Known (catches c cs) g s (own_name ns s.own xs) (params ns (places (outside s.own xs)) s.params) =
        subst (λ z. FunN v P Known (catches c cs) g s (own_name ns s.own xs) (params ns (places (outside s.own z)) s.params)) (around_is c)
        (fits (catches c cs) g s m.stands m.function (own_name ns s.own xs) own (subst (λ z. places (outside s.own z) + s.params ≤ length ns.slots) (sym (around_is c)) l)) in
        subst (λ o. ExprN v P Known (catches c cs) (S.fun j g) (function ns B xs g o)) (sym m.stands) (n.fun_n g s (own_name ns s.own xs) (params ns (places (outside s.own xs)) s.params) k (body_written c g false s i m.stands m.function))

    declaration_fit : (c g : ℕ) → In (makes c g true) (parts_of P f) → (j : ℕ) (r : Ref) → IsOwn c (is_chunk P f) r → Seen v P Known (catches c cs) r → (w : Name) → w ≡ n.name_at v (catches c cs) r
        → StmtN v P Known (is_chunk P f) c (catches c cs) (S.fun_decl j r g) (declaration ns B (inside_catches c fs) w g (slice_get P.scopes g))
    declaration_fit c g i j r o y w q =
        let m = is_made P W f c g true i in
        let s = m.scope in
        let xs = inside_catches c fs in
        let none : s.own ≡ false = m.own refl in
        let l = room c g true s i m.stands in
        let own : OwnN v P Known (catches c cs) s.own None = subst (λ b. OwnN v P Known (catches c cs) b None) (sym none) n.no_own in
        let k : FunN v P Known (catches c cs) g s None (params ns (places xs) s.params) =
        subst (λ z. FunN v P Known (catches c cs) g s None (params ns (places z) s.params)) (ap (λ b. outside b xs) none)
        (subst (λ z. FunN v P Known (catches c cs) g s None (params ns (places (outside s.own z)) s.params)) (around_is c)
        (fits (catches c cs) g s m.stands m.function None own (subst (λ z. places (outside s.own z) + s.params ≤ length ns.slots) (sym (around_is c)) l))) in
        let b = subst (λ z. StmtsN v P Known false 0 (frame_of s ∷ owned s.own (catches c cs)) s.body (B g ((s.params + s.names) ∷ z))) (ap (λ b. outside b xs) none) (body_written c g true s i m.stands m.function) in
        subst (λ o. StmtN v P Known (is_chunk P f) c (catches c cs) (S.fun_decl j r g) (declaration ns B xs w g o)) (sym m.stands) (n.fun_decl_n _ o y q g s (params ns (places xs) s.params) k b)

    -- ---- the parts of a scope

    reached : Reached P f
    reached = is_reached P W f fs (stands_around P f fs cs a)

    mention_seen : (c : ℕ) (r : Ref) → In (mentions c r) (parts_of P f) → IsPart P f (mentions c r) → Seen v P Known (catches c cs) r
    mention_seen c (Ref.Global m) i p = seen_global (mentioned f c m reached i)
    mention_seen c (Ref.Frame u m) i (a_mention _ _ _ h) = place (h reached) where
      place : IsSound P f c (Ref.Frame u m) → Seen v P Known (catches c cs) (Ref.Frame u m)
      place (sound_place _ _ y) = sees (catches c cs) u m (seen P W f c u m y fs cs a)

    declared_seen : (c : ℕ) (r : Ref) → In (declares c r) (parts_of P f) → IsPart P f (declares c r) → Seen v P Known (catches c cs) r
    declared_seen c (Ref.Global m) i p = seen_global (declared f c m reached i)
    declared_seen c (Ref.Frame u m) i (a_declaration _ _ _ h) = place (h reached) where
      place : IsSound P f c (Ref.Frame u m) → Seen v P Known (catches c cs) (Ref.Frame u m)
      place (sound_place _ _ y) = sees (catches c cs) u m (seen P W f c u m y fs cs a)

    placed_own : (c : ℕ) (r : Ref) → IsPlaced P f c r → IsOwn c (is_chunk P f) r
    placed_own c _ (placed_global m d t k) = subst (λ b. IsOwn c b (Ref.Global m)) (sym t) (own_global m)
    placed_own c _ (placed_local m s t e l) = subst (λ b. IsOwn c b (Ref.Frame c m)) (sym t) (own_place m)

    declared_own : (c : ℕ) (r : Ref) → IsPart P f (declares c r) → IsOwn c (is_chunk P f) r
    declared_own c r (a_declaration _ _ p h) = placed_own c r p

    part_fits : (x : Part) → In x (parts_of P f) → IsPart P f x → Fit v P ns Known locals globals B fs cs (is_chunk P f) (stands_sizes P f fs cs a) x
    part_fits (has_site s) i p = tt
    part_fits (uses_prop s) i p = tt
    part_fits (uses_doc s) i p = tt
    part_fits (sets_method w m g) i p = tt
    part_fits (mentions c r) i p = mention_seen c r i p
    part_fits (declares c r) i p = (declared_own c r p, declared_seen c r i p)
    part_fits (makes c g false) i p = function_fit c g i
    part_fits (makes c g true) i p = declaration_fit c g i

    scope_stands : SpellableStmts (raw_stmts P ns B fs (body_of P f)) → (s : S.Scope) → slice_get P.scopes f ≡ Some s → StmtsN v P Known (is_chunk P f) 0 cs (body_of P f) (raw_stmts P ns B fs (body_of P f))
    unfolding parts_of
    scope_stands h s e =
        let room = names.enough f fs (stands_around P f fs cs a) in
        stmts v P ns Known locals globals B fs cs (is_chunk P f) (stands_sizes P f fs cs a) (tables_of P) 0 (stmts_catches (body_of P f)) room (body_of P f) (omega arith) h
        (every (Fit v P ns Known locals globals B fs cs (is_chunk P f) (stands_sizes P f fs cs a)) (parts_of P f) (λ x i. part_fits x i ((W.scopes f s e).parts x i)))

  same_body : (o : Option S.Scope) → shape.body_in o ≡ body_in o
  unfolding shape.body_in
  same_body None = refl
  same_body (Some s) = refl

  -- the statements of a scope, with as many steps into functions as they need
  pub bodies_stand : (k f : ℕ) (fs : Frames) (cs : List Frame) (xs : List ℕ) → Stands P f fs cs → Within P f xs → length P.scopes < k + length xs → StmtsN v P Known (is_chunk P f) 0 cs (body_of P f) (raw_bodies P ns k f fs)
  unfolding body_of shape.body_in
  bodies_stand zero f fs cs xs a w h = absurd (let l = few (length P.scopes) xs w.different w.below in omega (arith, l, h))
  bodies_stand (suc k) f fs cs xs a w h =
      let B = raw_bodies P ns k in
      let go : (c g : ℕ) (d : Bool) (i : In (makes c g d) (parts_of P f)) (gs : Frames) (ds : List Frame) → Stands P g gs ds → StmtsN v P Known (is_chunk P g) 0 ds (body_of P g) (B g gs) =
      λ c g d i gs ds b. bodies_stand k g gs ds (g ∷ xs) b (further_in P W f g c d xs w i) (omega (arith, h)) in
      let spell : SpellableStmts (raw_bodies P ns (suc k) f fs) = (bodies_fine P ns W spelled units names (suc k) f fs (stands_around P f fs cs a)).1 in
      by B (slice_get P.scopes f) refl (λ s e. scope_stands B f fs cs a go (subst (λ b. SpellableStmts (raw_stmts P ns B fs b)) (sym (same_body (slice_get P.scopes f))) spell) s e)
      (same_body (slice_get P.scopes f)) where
        by : (B : Bodies) (o : Option S.Scope) → slice_get P.scopes f ≡ o → ((s : S.Scope) → slice_get P.scopes f ≡ Some s → StmtsN v P Known (is_chunk P f) 0 cs (shape.body_in (slice_get P.scopes f)) (raw_stmts P ns B fs (shape.body_in (slice_get P.scopes f))))
            → shape.body_in (slice_get P.scopes f) ≡ body_in (slice_get P.scopes f) → StmtsN v P Known (is_chunk P f) 0 cs (shape.body_in (slice_get P.scopes f)) (raw_stmts P ns B fs (body_in (slice_get P.scopes f)))
        by B None e go q = subst (λ z. StmtsN v P Known (is_chunk P f) 0 cs (shape.body_in z) (raw_stmts P ns B fs (body_in z))) (sym e) n.no_stmts_n
        by B (Some s) e go q = subst (λ b. StmtsN v P Known (is_chunk P f) 0 cs (shape.body_in (slice_get P.scopes f)) (raw_stmts P ns B fs b)) q (go s e)

-- A well made program is fine where no more is known of it than where functions stand.
use Rattle.std.proofs.Common.{◌≡◌, ℕ, zero, suc, ◌+◌, ◌<◌, Bool, true, false, List, [], ◌∷◌, ◌++◌, length, map, Option, Some, None, refl, sym, ap, subst, ◌∙◌, arith}
use Rattle.std.specs.Prelude.{slice_get, nat_eq, IsTrue, IsFalse}
use Rattle.std.proofs.lemmas.Bool.{eq-eqb, eqb-true}
use Rattle.cc_ast.specs.Syntax.{Scope, Program}
use Rattle.cc_meaning.specs.State.{Tables}
use Rattle.cc_meaning.specs.Monad.{pick}
use Rattle.cc_meaning.specs.Acts.{has_own_name}
use Rattle.cc_meaning.specs.Shapes.{head_of, tables_of, body_in, body_of}
use Rattle.cc_meaning.specs.Alike.{In, here, there, owns}
use Rattle.cc_meaning.specs.Parts.{Part, makes, stmts_parts}
use Rattle.cc_meaning.specs.WellMade.{is_chunk, parts_of, Holds, of_catch, of_frame, of_own, of_outer, of_outer_own, IsMade, IsPart, a_function, functions_in, all_functions, IsDistinct, WellMade}
use Rattle.cc_tied.specs.Facts.{Level, called, caught, named, Facts, innermost, around_function, outward, Above, above_here, above_more}
use Rattle.cc_tied.specs.PlainFacts.{owner, catches_around, parent_by, parent_in, parent_of}
use Rattle.cc_tied.proofs.Lists.{get_old}

-- ---- functions that stand once

get_shifted : {A : Type 0} (xs ys : List A) (i : ℕ) → slice_get (xs ++ ys) (length xs + i) ≡ slice_get ys i
get_shifted [] ys i = let e : 0 + i ≡ i = omega arith in rw e refl
get_shifted (x ∷ xs) ys i = let e : suc (length xs) + i ≡ suc (length xs + i) = omega arith in rw e (get_shifted xs ys i)

distinct_front : {A : Type 0} (xs ys : List A) → IsDistinct (xs ++ ys) → IsDistinct xs
distinct_front xs ys h i j x e d = h i j x (get_old xs ys i x e) (get_old xs ys j x d)

distinct_back : {A : Type 0} (xs ys : List A) → IsDistinct (xs ++ ys) → IsDistinct ys
distinct_back xs ys h i j x e d = let k = h (length xs + i) (length xs + j) x (get_shifted xs ys i ∙ e) (get_shifted xs ys j ∙ d) in omega arith

scope_distinct : (T : Tables) (ss : List Scope) → IsDistinct (all_functions T ss) → (g : ℕ) (s : Scope) → slice_get ss g ≡ Some s → IsDistinct (functions_in (stmts_parts T 0 s.body))
unfolding all_functions
scope_distinct T [] h g s e = absurd (cc)
scope_distinct T (x ∷ ss) h zero s e = let d : x ≡ s = cc in subst (λ z. IsDistinct (functions_in (stmts_parts T 0 z.body))) d (distinct_front _ _ h)
scope_distinct T (x ∷ ss) h (suc g) s e = scope_distinct T ss (distinct_back (functions_in (stmts_parts T 0 x.body)) _ h) g s e

tail_distinct : {A : Type 0} (x : A) (xs : List A) → IsDistinct (x ∷ xs) → IsDistinct xs
tail_distinct x xs h = distinct_back (x ∷ []) xs h

pub record At {A : Type 0} (x : A) (xs : List A) : Type 0 where
  pub place : ℕ
  pub there : slice_get xs place ≡ Some x

function_at : (f d : ℕ) (b : Bool) (xs : List Part) → In (makes d f b) xs → At f (functions_in xs)
unfolding functions_in
function_at f d b _ here = record { place = 0; there = refl }
function_at f d b (makes c g e ∷ xs) (there h) = let r = function_at f d b xs h in record { place = suc r.place; there = r.there }
function_at f d b (_ ∷ xs) (there h) = function_at f d b xs h

one_function : (f d g c : ℕ) (xs : List Part) → IsDistinct (g ∷ functions_in xs) → At f (functions_in xs) → (t : Bool) → nat_eq g f ≡ t → catches_around f xs ≡ d → pick t c (catches_around f xs) ≡ d
one_function f d g c xs h r true q k = let e = h zero (suc r.place) g refl (r.there ∙ ap Some (sym (eqb-true g f q))) in absurd (omega arith)
one_function f d g c xs h r false q k = k

catches_is : (f d : ℕ) (b : Bool) (xs : List Part) → IsDistinct (functions_in xs) → In (makes d f b) xs → catches_around f xs ≡ d
unfolding functions_in catches_around
catches_is f d b [] h i = elim i [ ]
catches_is f d b (_ ∷ xs) h here = ap (λ z. pick z d (catches_around f xs)) (eq-eqb f f refl)
catches_is f d b (makes c g e ∷ xs) h (there i) = one_function f d g c xs h (function_at f d b xs i) (nat_eq g f) refl (catches_is f d b xs (tail_distinct g (functions_in xs) h) i)
catches_is f d b (_ ∷ xs) h (there i) = catches_is f d b xs h i

-- ---- where a function stands

no_scope : (T : Tables) (o : Option Scope) → o ≡ None → stmts_parts T 0 (body_in o) ≡ []
unfolding body_in stmts_parts
no_scope T o e = rw e refl

pub owner_function : (P : Program) (f : ℕ) → IsFalse (is_chunk P f) → owner P f ≡ Some f
unfolding owner
owner_function P f e = rw e refl

pub owner_chunk : (P : Program) (f : ℕ) → IsTrue (is_chunk P f) → owner P f ≡ None
unfolding owner
owner_chunk P f e = rw e refl

pub head_get : (ss : List Scope) (f : ℕ) (s : Scope) → slice_get ss f ≡ Some s → slice_get (map head_of ss) f ≡ Some (head_of s)
head_get [] f s e = absurd (cc)
head_get (x ∷ ss) zero s e = let d : x ≡ s = cc in ap (λ z. Some (head_of z)) d
head_get (x ∷ ss) (suc f) s e = head_get ss f s e

owns_own : (P : Program) (f : ℕ) (s : Scope) → slice_get P.scopes f ≡ Some s → owns (tables_of P) f ≡ s.own
unfolding owns tables_of has_own_name head_of
owns_own P f s e = ap has_own_name (head_get P.scopes f s e)

module _ (P : Program) (W : WellMade P) where
  abbrev S : Tables
  S = tables_of P

  -- a part of a scope is sound
  pub part_of : (f : ℕ) (x : Part) → In x (parts_of P f) → IsPart P f x
  unfolding parts_of body_of
  part_of f x i = by_scope (slice_get P.scopes f) refl i
    where
      by_scope : (o : Option Scope) → slice_get P.scopes f ≡ o → In x (stmts_parts S 0 (body_in o)) → IsPart P f x
      by_scope None e i = elim (subst (λ z. In x z) (no_scope S None refl) i) [ ]
      by_scope (Some s) e i = (W.scopes f s e).parts x (subst (λ z. In x (stmts_parts S 0 (body_in z))) (sym e) i)

  made_in : (g d f : ℕ) (b : Bool) → IsPart P g (makes d f b) → IsMade P g f b
  made_in g d f b (a_function _ _ _ m) = m

  parent_scope : (g f : ℕ) (b : Bool) → (m : IsMade P g f b) → parent_in (slice_get P.scopes f) ≡ Some g
  unfolding parent_in
  parent_scope g f b m = rw m.stands m.parent

  parts_distinct : (g : ℕ) → IsDistinct (functions_in (parts_of P g))
  unfolding parts_of body_of functions_in body_in stmts_parts
  parts_distinct g = by_scope (slice_get P.scopes g) refl
    where
      by_scope : (o : Option Scope) → slice_get P.scopes g ≡ o → IsDistinct (functions_in (stmts_parts S 0 (body_in o)))
      by_scope None e = λ i j x k l. absurd (cc)
      by_scope (Some s) e = scope_distinct S P.scopes W.functions_once g s e

  pub parent_is : (g d f : ℕ) (b : Bool) → In (makes d f b) (parts_of P g) → parent_of P f ≡ (owner P g, d)
  unfolding parent_of parent_by
  parent_is g d f b i = rw (parent_scope g f b (made_in g d f b (part_of g _ i)), catches_is f d b (parts_of P g) (parts_distinct g) i) refl

  -- a scope that is a function
  pub owner_is : (f g : ℕ) → owner P f ≡ Some g → f ≡ g
  unfolding owner
  owner_is f g e = by_test (is_chunk P f) e
    where
      by_test : (b : Bool) → pick b None (Some f) ≡ Some g → f ≡ g
      by_test true h = absurd (cc)
      by_test false h = cc

  -- ---- frames outwards, where functions stand where the program has them
  module _ (F : Facts) (parents : (f : ℕ) → F.parent f ≡ parent_of P f) where
    catch_above : (o : Option ℕ) (c u : ℕ) → u < c → (l : Level) × Above F S (innermost o c) u l
    unfolding innermost outward
    catch_above o zero u h = absurd (omega arith)
    catch_above o (suc c) zero h = (caught o c, above_here)
    catch_above o (suc c) (suc u) h = let r = catch_above o c u (omega arith) in (r.0, above_more r.1)

    frame_above : (o : Option ℕ) (c : ℕ) {u : ℕ} {l : Level} → Above F S (innermost o 0) u l → Above F S (innermost o c) (c + u) l
    unfolding innermost outward
    frame_above o zero {u = u} {l = l} h = let e : 0 + u ≡ u = omega arith in subst (λ z. Above F S (innermost o 0) z l) (sym e) h
    frame_above o (suc c) {u = u} {l = l} h = let e : suc c + u ≡ suc (c + u) = omega arith in subst (λ z. Above F S (innermost o (suc c)) z l) (sym e) (above_more (frame_above o c h))

    around_is : (f g d : ℕ) → parent_of P f ≡ (owner P g, d) → around_function F f ≡ innermost (owner P g) d
    unfolding around_function
    around_is f g d e = ap (λ z. innermost z.0 z.1) (parents f ∙ e)

    outward_plain : (f : ℕ) → owns S f ≡ false → outward F S (called f) ≡ around_function F f
    unfolding outward
    outward_plain f e = rw e refl

    outward_own : (f : ℕ) → owns S f ≡ true → outward F S (called f) ≡ Some (named f)
    unfolding outward
    outward_own f e = rw e refl

    outward_named : (f : ℕ) → outward F S (named f) ≡ around_function F f
    unfolding outward
    outward_named f = refl

    call_above : (f : ℕ) {u : ℕ} {l : Level} → Above F S (outward F S (called f)) u l → Above F S (innermost (Some f) 0) (suc u) l
    unfolding innermost
    call_above f h = above_more h

    call_here : (f : ℕ) → Above F S (innermost (Some f) 0) 0 (called f)
    unfolding innermost
    call_here f = above_here

    -- a chunk has no own name
    own_function : (f : ℕ) (s : Scope) → slice_get P.scopes f ≡ Some s → IsTrue s.own → IsFalse (is_chunk P f)
    own_function f s e o = by_test (is_chunk P f) refl
      where
        by_test : (b : Bool) → is_chunk P f ≡ b → IsFalse b
        by_test true q = let k : IsFalse s.own = (W.scopes f s e).chunk_own q in absurd (cc)
        by_test false q = refl

    -- the frame of the function itself
    pub own_above : (f c : ℕ) → Above F S (innermost (Some f) c) c (called f)
    own_above f c = let z : c + 0 ≡ c = omega arith in subst (λ z. Above F S (innermost (Some f) c) z (called f)) z (frame_above (Some f) c (call_here f))

    at_owner : (f c u : ℕ) (l : Level) → IsFalse (is_chunk P f) → Above F S (innermost (Some f) c) u l → Above F S (innermost (owner P f) c) u l
    at_owner f c u l e h = subst (λ z. Above F S (innermost z c) u l) (sym (owner_function P f e)) h

    pub holds_above : {f c u n : ℕ} → Holds P f c u n → (l : Level) × Above F S (innermost (owner P f) c) u l
    holds_above (of_catch f c u h) = catch_above (owner P f) c u h
    holds_above (of_frame f c n s e k o) = (called f, at_owner f c c (called f) k (own_above f c))
    holds_above (of_own f c s e o) =
        (named f, at_owner f c (suc c) (named f) (own_function f s e o) (let z : c + 1 ≡ suc c = omega arith in subst (λ z. Above F S (innermost (Some f) c) z (named f)) z (frame_above (Some f) c (call_above f (subst (λ z. Above F S z 0 (named f)) (sym (outward_own f (owns_own P f s e ∙ o))) above_here)))))
    holds_above (of_outer f g c d u n s b e k o i h) =
        let r = holds_above h in
        (r.0, at_owner f c (suc (c + u)) r.0 k (let z : c + suc u ≡ suc (c + u) = omega arith in subst (λ z. Above F S (innermost (Some f) c) z r.0) z (frame_above (Some f) c (call_above f (subst (λ z. Above F S z u r.0) (sym (outward_plain f (owns_own P f s e ∙ o) ∙ around_is f g d (parent_is g d f b i))) r.1)))))
    holds_above (of_outer_own f g c d u n s b e o i h) =
        let r = holds_above h in
        let named_above : Above F S (Some (named f)) (suc u) r.0 = above_more (subst (λ z. Above F S z u r.0) (sym (outward_named f ∙ around_is f g d (parent_is g d f b i))) r.1) in
        (r.0, at_owner f c (suc (suc (c + u))) r.0 (own_function f s e o) (let z : c + suc (suc u) ≡ suc (suc (c + u)) = omega arith in subst (λ z. Above F S (innermost (Some f) c) z r.0) z (frame_above (Some f) c (call_above f (subst (λ z. Above F S z (suc u) r.0) (sym (outward_own f (owns_own P f s e ∙ o))) named_above)))))

-- Where scopes follow those of a well made program, classes keep their functions, and the methods that
-- are set are still of the classes whose functions their paths are set to.
use Rattle.std.proofs.Common.{◌≡◌, ◌⊎◌, inl, inr, ℕ, suc, ◌+◌, Bool, true, false, List, [], ◌∷◌, map, Option, Some, None, refl, sym, ap, subst, ◌∙◌, arith}
use Rattle.std.specs.Prelude.{slice_get, nat_eq, ◌&&◌}
use Rattle.std.proofs.lemmas.Bool.{eqb-true}
use Rattle.cc_ast.specs.Syntax.{Scope, Program}
use Rattle.cc_ast.specs.declared.tables.Class.{Class}
use Rattle.cc_meaning.specs.State.{Path, Tables}
use Rattle.cc_meaning.specs.Monad.{pick}
use Rattle.cc_meaning.specs.Store.{same_numbers, set_to, is_number, class_from, class_of_function}
use Rattle.cc_meaning.specs.Alike.{In, here, there, ListT}
use Rattle.cc_meaning.specs.Shapes.{head_of, tables_of, set_by, sets_by_chunks}
use Rattle.cc_meaning.specs.FlatPaths.{mentions_of}
use Rattle.cc_meaning.specs.WellMade.{all_functions, IsDistinct, HasMethod, HasPlace, WellMade}
use Rattle.cc_tied.proofs.Mixed.KeptSets.{Within}
use Rattle.cc_fold.proofs.Sublists.{Sublist, sub_in, sub_distinct}
use Rattle.cc_fold.proofs.WellMade.OtherTables.{functions_same}
use Rattle.cc_fold.proofs.WellMade.SetFunctions.{functions_of, chunks_sub, one_path}
use Rattle.cc_fold.proofs.WellMade.FollowingScopes.{Follows, sets_within, functions_sub}
use Rattle.cc_fold.proofs.WellMade.FollowingPlaces.{Q}
use Rattle.cc_fold.proofs.WellMade.SetMentions.{set_mentioned}
use Rattle.cc_fold.proofs.WellMade.FollowingVariables.{variable_after, once_after}

-- ---- the class of a function

record Entry (k : ℕ) (cs : List Class) (f c : ℕ) : Type 0 where
  pub place : ℕ
  pub is : c ≡ k + place
  pub function : (e : Class) → slice_get cs place ≡ Some e → e.function ≡ Some f

number_is : (o : Option ℕ) (f : ℕ) → is_number o f ≡ true → o ≡ Some f
unfolding is_number
number_is None f h = absurd (cc)
number_is (Some m) f h = ap Some (eqb-true m f h)

class_entry : (k : ℕ) (cs : List Class) (f c : ℕ) → class_from k cs f ≡ Some c → Entry k cs f c
unfolding class_from
class_entry k [] f c h = absurd (cc)
class_entry k (x ∷ cs) f c h = by_test (class_entry (suc k) cs f c) (is_number x.function f) refl h
  where
    by_test : (class_from (suc k) cs f ≡ Some c → Entry (suc k) cs f c) → (b : Bool) → is_number x.function f ≡ b → pick b (Some k) (class_from (suc k) cs f) ≡ Some c → Entry k (x ∷ cs) f c
    by_test more true q p = let d : k ≡ c = cc in record { place = 0; is = sym d ∙ omega arith; function = λ e g. let s : x ≡ e = cc in subst (λ z. z.function ≡ Some f) s (number_is x.function f q) }
    by_test more false q p = let r = more p in record { place = suc r.place; is = r.is ∙ omega arith; function = r.function }

pub class_function : (T : Tables) (f c : ℕ) (k : Class) → class_of_function T f ≡ Some c → slice_get T.classes c ≡ Some k → k.function ≡ Some f
unfolding class_of_function
class_function T f c k h e =
    let r = class_entry 0 T.classes f c h in
    let d : r.place ≡ c = sym (r.is ∙ omega arith) in
    r.function k (ap (slice_get T.classes) d ∙ e)

-- ---- what a path is set to

record SetAt (xs : List (Path × ℕ)) (p : Path) (f : ℕ) : Type 0 where
  pub path : Path
  pub stands : In (path, f) xs
  pub same : nat_eq path.0 p.0 && same_numbers path.1 p.1 ≡ true

set_at : (xs : List (Path × ℕ)) (p : Path) (f : ℕ) → In f (set_to xs p) → SetAt xs p f
unfolding set_to
set_at [] p f i = elim i [ ]
set_at (x ∷ xs) p f i = by_test (set_at xs p f) (nat_eq x.0.0 p.0 && same_numbers x.0.1 p.1) refl i
  where
    later : SetAt xs p f → SetAt (x ∷ xs) p f
    later r = record { path = r.path; stands = there r.stands; same = r.same }

    first : {g : ℕ} {gs : List ℕ} → In f (g ∷ gs) → (f ≡ g) ⊎ In f gs
    first here = inl refl
    first (there j) = inr j

    by_test : (In f (set_to xs p) → SetAt xs p f) → (b : Bool) → nat_eq x.0.0 p.0 && same_numbers x.0.1 p.1 ≡ b → In f (pick b (x.1 ∷ set_to xs p) (set_to xs p)) → SetAt (x ∷ xs) p f
    by_test more false q j = later (more j)
    by_test more true q j = elim (first j) [
      | inl e ↦ record { path = x.0; stands = subst (λ z. In (x.0, z) (x ∷ xs)) (sym e) here; same = q }
      | inr l ↦ later (more l)
    ]

picked_first : (b : Bool) (g : ℕ) (gs : List ℕ) → b ≡ true → In g (pick b (g ∷ gs) gs)
picked_first true g gs h = here
picked_first false g gs h = absurd (cc)

picked_more : (b : Bool) (g : ℕ) (gs : List ℕ) (f : ℕ) → In f gs → In f (pick b (g ∷ gs) gs)
picked_more true g gs f i = there i
picked_more false g gs f i = i

set_into : {w : Path} {f : ℕ} (xs : List (Path × ℕ)) (p : Path) → nat_eq w.0 p.0 && same_numbers w.1 p.1 ≡ true → In (w, f) xs → In f (set_to xs p)
unfolding set_to
set_into {w = w} {f = f} (_ ∷ xs) p h here = picked_first (nat_eq w.0 p.0 && same_numbers w.1 p.1) f (set_to xs p) h
set_into {f = f} (x ∷ xs) p h (there i) = picked_more (nat_eq x.0.0 p.0 && same_numbers x.0.1 p.1) x.1 (set_to xs p) f (set_into xs p h i)
set_into [] p h i = elim i [ ]

in_functions : {w : Path} {f : ℕ} (xs : List (Path × ℕ)) → In (w, f) xs → In f (functions_of xs)
in_functions _ here = here
in_functions (x ∷ xs) (there i) = there (in_functions xs i)

module _ (P : Program) (W : WellMade P) (ts : List Scope) (F : ListT (Follows (tables_of P)) P.scopes ts) where
  abbrev pub R : Program
  R = Q P W ts F

  pub sets_more : Within (tables_of P).set (tables_of R).set
  unfolding tables_of
  sets_more = sets_within (tables_of P) P.chunks F

  functions_are : all_functions (tables_of R) ts ≡ all_functions (tables_of P) ts
  unfolding tables_of
  functions_are = functions_same (tables_of P) (map head_of ts) (sets_by_chunks P.chunks ts) ts

  pub function_before : (f : ℕ) → In f (all_functions (tables_of R) ts) → In f (all_functions (tables_of P) P.scopes)
  function_before f i = sub_in (functions_sub (tables_of P) F) (subst (λ z. In f z) functions_are i)

  pub functions_once : IsDistinct (all_functions (tables_of R) ts)
  functions_once = sub_distinct (subst (λ z. Sublist z (all_functions (tables_of P) P.scopes)) (sym functions_are) (functions_sub (tables_of P) F)) W.functions_once

  path_once : (w v : Path) (f : ℕ) → In (w, f) (tables_of R).set → In (v, f) (tables_of R).set → w ≡ v
  unfolding tables_of
  path_once = one_path (tables_of R) P.chunks ts functions_once

  stands_in : (w : Path) (f : ℕ) → In (w, f) (tables_of R).set → In f (all_functions (tables_of R) ts)
  unfolding tables_of
  stands_in w f i = sub_in (chunks_sub (tables_of R) P.chunks ts) (in_functions (sets_by_chunks P.chunks ts) i)

  -- a class's function that a path is set to was set to it before
  set_before : (w : Path) (f a : ℕ) (c : Class) → slice_get P.classes a ≡ Some c → c.function ≡ Some f → In f (set_to (tables_of R).set w) → In f (set_to (tables_of P).set w)
  set_before w f a c e h i =
      let s = set_at (tables_of R).set w f i in
      let o = (W.classes a c e).placed f h (function_before f (stands_in s.path f s.stands)) in
      let d : s.path ≡ o.place = path_once s.path o.place f s.stands (sets_more _ o.set) in
      set_into (tables_of P).set w (subst (λ z. nat_eq z.0 w.0 && same_numbers z.1 w.1 ≡ true) d s.same) o.set

  pub method_after : (w : Path) (p g : ℕ) → HasMethod P w p g → HasMethod R w p g
  unfolding set_by class_of_function tables_of
  method_after w p g h = record { method = λ f c k i e s. h.method f c k (set_before w f c k s (class_function (tables_of P) f c k e s) i) e s }

  -- where a class's function still stands, its place is as it was
  pub class_placed : (a : ℕ) (c : Class) → slice_get P.classes a ≡ Some c → (f : ℕ) → c.function ≡ Some f → In f (all_functions (tables_of R) ts) → HasPlace R f
  unfolding tables_of mentions_of
  class_placed a c e f h i =
      let o = (W.classes a c e).placed f h (function_before f i) in
      let stands = sets_more _ o.set in
      record {
        place = o.place;
        variable = variable_after P W ts F o.variable;
        set = stands;
        once = once_after P W ts F o.place o.variable o.once (set_mentioned P.chunks ts stands);
        alone = λ w j. path_once w o.place f j stands;
      }

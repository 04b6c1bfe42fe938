-- What the scopes of a program print is among what the program prints, and the slots are enough for all frames.
use Rattle.std.specs.Prelude.{◌≡◌, ℕ, zero, suc, ◌+◌, ◌-◌, ◌<◌, ◌≤◌, nat_eq, List, [], ◌∷◌, ◌++◌, Bool, true, false, map, length, Some, slice_get}
use Rattle.std.specs.List.{flat_map}
use Rattle.std.proofs.Common.{refl, sym, subst, arith}
use Rattle.std.proofs.lemmas.Bool.Decides.{nat_tests}
use Rattle.std.proofs.lemmas.List.Concat.{flat_map-cons}
use Rattle.cc_ast.specs.Syntax as S
use Rattle.cc_meaning.specs.Shapes.{body_of}
use Rattle.cc_meaning.specs.Alike.{In, here, there}
use Rattle.cc_meaning.specs.Parts.{Part, makes}
use Rattle.cc_meaning.specs.WellMade.{WellMade, parts_of, is_chunk}
use Rattle.cc_printer.specs.RawOf.{Frames, places, outside}
use Rattle.cc_printer.specs.Naming.{inside_catches, inside_function, Around, around_chunk, around_function, stmt_catches, stmts_catches, catch_catches, finally_catches, cases_catches}
use Rattle.cc_printer.proofs.Nesting.{Within, few, further_in, chunk_within}
use Rattle.cc_printer.proofs.Slots.{places_inside}
use Rattle.cc_rename.specs.Order.{numbers}
use Rattle.cc_rename.specs.Uses.{Use, prints, spans, slot, Insides, stmt_clauses, stmts_clauses, catch_clauses, finally_clauses, cases_clauses, clause_uses, own_uses, slot_uses, function_uses, part_uses, parts_uses, scope_uses, chunk_uses, uses, reach, slots_of}
use Rattle.cc_rename.proofs.NameForm.{left_in, right_in}

-- ---- members of lists

pub numbers_in : (k n i : ℕ) → k ≤ i → i < k + n → In i (numbers k n)
unfolding numbers
numbers_in k zero i h l = absurd (omega (arith, h, l))
numbers_in k (suc n) i h l = by (nat_eq i k) refl (λ g. numbers_in (suc k) n i (omega (arith, g)) (omega (arith, l))) where
  by : (b : Bool) → nat_eq i k ≡ b → (k < i → In i (numbers (suc k) n)) → In i (k ∷ numbers (suc k) n)
  by true e go = let q : k ≡ i = grind (arith, nat_tests) in subst (λ x. In x (k ∷ numbers (suc k) n)) q here
  by false e go = there (go (grind (arith, nat_tests)))

pub map_in : {A B : Type 0} (f : A → B) (x : A) (xs : List A) → In x xs → In (f x) (map f xs)
map_in f x [] i = elim i [ ]
map_in f x (_ ∷ xs) here = here
map_in f x (y ∷ xs) (there i) = there (map_in f x xs i)

pub flat_in : {A B : Type 0} (f : A → List B) (x : A) (y : B) (xs : List A) → In x xs → In y (f x) → In y (flat_map f xs)
flat_in f x y [] i j = elim i [ ]
flat_in f x y (_ ∷ xs) here j = subst (λ ys. In y ys) (sym (flat_map-cons f x xs)) (left_in y (f x) (flat_map f xs) j)
flat_in f x y (z ∷ xs) (there i) j = subst (λ ys. In y ys) (sym (flat_map-cons f z xs)) (right_in y (f z) (flat_map f xs) (flat_in f x y xs i j))

pub reaches : (u : Use) (us : List Use) → In u us → reach u ≤ slots_of us
unfolding slots_of
reaches u [] i = elim i [ ]
reaches u (_ ∷ us) here = omega arith
reaches u (w ∷ us) (there i) = let l = reaches u us i in omega (arith, l)

-- ---- the clauses are as deep as there are

mutual
  unfolding stmt_clauses stmts_clauses

  stmt_room : (n c : ℕ) (s : S.Stmt) → ((k : ℕ) → In k (stmt_clauses c s) → suc k ≤ n) → c ≤ n → c + stmt_catches s ≤ n
  stmt_room n c (S.simple i e) h l = omega (arith, l)
  stmt_room n c (S.vars i ds) h l = omega (arith, l)
  stmt_room n c (S.fun_decl i r f) h l = omega (arith, l)
  stmt_room n c (S.if i t a b) h l =
      let x = stmts_room n c a (λ k i. h k (left_in k (stmts_clauses c a) (stmts_clauses c b) i)) l in
      let y = stmts_room n c b (λ k i. h k (right_in k (stmts_clauses c a) (stmts_clauses c b) i)) l in
      omega (arith, x, y)
  stmt_room n c (S.while i t b) h l = stmts_room n c b h l
  stmt_room n c (S.do_while i b t) h l = stmts_room n c b h l
  stmt_room n c (S.for i k t e b) h l = stmts_room n c b h l
  stmt_room n c (S.for_in i t e b) h l = stmts_room n c b h l
  stmt_room n c (S.return i e) h l = omega (arith, l)
  stmt_room n c (S.throw i e) h l = omega (arith, l)
  stmt_room n c (S.break i m) h l = omega (arith, l)
  stmt_room n c (S.continue i m) h l = omega (arith, l)
  stmt_room n c (S.label i m b) h l = stmts_room n c b h l
  stmt_room n c (S.switch i e cs) h l = cases_room n c cs h l
  stmt_room n c (S.try i b k f) h l =
      let x = stmts_room n c b (λ j i. h j (left_in j (stmts_clauses c b) (catch_clauses c k ++ finally_clauses c f) i)) l in
      let y = catch_room n c k (λ j i. h j (right_in j (stmts_clauses c b) (catch_clauses c k ++ finally_clauses c f) (left_in j (catch_clauses c k) (finally_clauses c f) i))) l in
      let z = finally_room n c f (λ j i. h j (right_in j (stmts_clauses c b) (catch_clauses c k ++ finally_clauses c f) (right_in j (catch_clauses c k) (finally_clauses c f) i))) l in
      omega (arith, x, y, z)
  stmt_room n c (S.pay_stmt i p) h l = omega (arith, l)

  pub stmts_room : (n c : ℕ) (ss : S.Stmts) → ((k : ℕ) → In k (stmts_clauses c ss) → suc k ≤ n) → c ≤ n → c + stmts_catches ss ≤ n
  stmts_room n c S.no_stmts h l = omega (arith, l)
  stmts_room n c (S.more_stmts s ss) h l =
      let x = stmt_room n c s (λ k i. h k (left_in k (stmt_clauses c s) (stmts_clauses c ss) i)) l in
      let y = stmts_room n c ss (λ k i. h k (right_in k (stmt_clauses c s) (stmts_clauses c ss) i)) l in
      omega (arith, x, y)

  catch_room : (n c : ℕ) (k : S.MaybeStmts) → ((j : ℕ) → In j (catch_clauses c k) → suc j ≤ n) → c ≤ n → c + catch_catches k ≤ n
  catch_room n c S.absent h l = omega (arith, l)
  catch_room n c (S.present ss) h l = let x = stmts_room n (suc c) ss (λ k i. h k (there i)) (h c here) in omega (arith, x)

  finally_room : (n c : ℕ) (k : S.MaybeStmts) → ((j : ℕ) → In j (finally_clauses c k) → suc j ≤ n) → c ≤ n → c + finally_catches k ≤ n
  finally_room n c S.absent h l = omega (arith, l)
  finally_room n c (S.present ss) h l = stmts_room n c ss h l

  cases_room : (n c : ℕ) (cs : S.Cases) → ((k : ℕ) → In k (cases_clauses c cs) → suc k ≤ n) → c ≤ n → c + cases_catches cs ≤ n
  cases_room n c S.no_cases h l = omega (arith, l)
  cases_room n c (S.more_cases t b cs) h l =
      let x = stmts_room n c b (λ k i. h k (left_in k (stmts_clauses c b) (cases_clauses c cs) i)) l in
      let y = cases_room n c cs (λ k i. h k (right_in k (stmts_clauses c b) (cases_clauses c cs) i)) l in
      omega (arith, x, y)

-- ---- scopes

module _ (P : S.Program) where
  -- what a scope prints, its function prints, where it stands, and so the scope around it
  from_function : (I : Insides) (fs : Frames) (g : ℕ) (s : S.Scope) (u : Use) → In u (I g (inside_function s fs)) → In u (function_uses I fs g (Some s))
  unfolding function_uses
  from_function I fs g s u i = right_in u (own_uses s.own fs) (slot_uses (places (outside s.own fs)) s.params ++ I g (inside_function s fs)) (right_in u (slot_uses (places (outside s.own fs)) s.params) (I g (inside_function s fs)) i)

  from_made : (I : Insides) (fs : Frames) (c g : ℕ) (d : Bool) (s : S.Scope) (u : Use) → slice_get P.scopes g ≡ Some s → In u (I g (inside_function s (inside_catches c fs))) → In u (part_uses P I fs (makes c g d))
  unfolding part_uses
  from_made I fs c g d s u e i = subst (λ o. In u (function_uses I (inside_catches c fs) g o)) (sym e) (from_function I (inside_catches c fs) g s u i)

  pub from_part : (n f : ℕ) (fs : Frames) (x : Part) (u : Use) → In x (parts_of P f) → In u (part_uses P (scope_uses P n) fs x) → In u (scope_uses P (suc n) f fs)
  unfolding scope_uses parts_uses
  from_part n f fs x u i j = there (left_in u (flat_map (part_uses P (scope_uses P n) fs) (parts_of P f)) (clause_uses fs (stmts_clauses 0 (body_of P f))) (flat_in (part_uses P (scope_uses P n) fs) x u (parts_of P f) i j))

  pub from_clause : (n f : ℕ) (fs : Frames) (c : ℕ) → In c (stmts_clauses 0 (body_of P f)) → In (prints (slot (places (inside_catches c fs)))) (scope_uses P (suc n) f fs)
  unfolding scope_uses parts_uses clause_uses
  from_clause n f fs c i = there (right_in (prints (slot (places (inside_catches c fs)))) (flat_map (part_uses P (scope_uses P n) fs) (parts_of P f)) (clause_uses fs (stmts_clauses 0 (body_of P f))) (map_in (λ c. prints (slot (places (inside_catches c fs)))) c (stmts_clauses 0 (body_of P f)) i))

  pub from_scope : (n f : ℕ) (fs : Frames) → In (spans (places fs)) (scope_uses P (suc n) f fs)
  unfolding scope_uses
  from_scope n f fs = here

  from_chunk : (c : ℕ) (u : Use) → is_chunk P c ≡ true → In u (chunk_uses P c) → In u (uses P)
  unfolding uses is_chunk
  from_chunk c u h i = flat_in (chunk_uses P) c u (numbers 0 (length P.chunks)) (numbers_in 0 (length P.chunks) c (omega arith) (grind (arith, nat_tests))) i

  -- what a scope in these frames prints, the program prints
  pub record Prints (f : ℕ) (fs : Frames) : Type 0 where
    pub around : List ℕ
    pub within : Within P f around
    pub depth : ℕ
    pub room : length P.scopes < suc depth + length around
    pub inside : (u : Use) → In u (scope_uses P (suc depth) f fs) → In u (uses P)

  module _ (W : WellMade P) where
    further : (f g c : ℕ) (d : Bool) (s : S.Scope) (fs : Frames) → Prints f fs → In (makes c g d) (parts_of P f) → slice_get P.scopes g ≡ Some s → Prints g (inside_function s (inside_catches c fs))
    further f g c d s fs p i e = by p.depth p.room p.inside where
      w : Within P g (g ∷ p.around)
      w = further_in P W f g c d p.around p.within i

      by : (n : ℕ) → length P.scopes < suc n + length p.around → ((u : Use) → In u (scope_uses P (suc n) f fs) → In u (uses P)) → Prints g (inside_function s (inside_catches c fs))
      by zero r h = absurd (let l = few (length P.scopes) (g ∷ p.around) w.different w.below in omega (arith, l, r))
      by (suc n) r h = record {
        around = g ∷ p.around;
        within = w;
        depth = n;
        room = omega (arith, r);
        inside = λ u j. h u (from_part (suc n) f fs (makes c g d) u i (from_made (scope_uses P (suc n)) fs c g d s u e j));
      }

    pub are_printed : (f : ℕ) (fs : Frames) → Around P f fs → Prints f fs
    are_printed c _ (around_chunk _ t) = record { around = c ∷ []; within = chunk_within P W c t; depth = length P.scopes; room = omega arith; inside = λ u i. from_chunk c u t i }
    are_printed g _ (around_function f _ c d s fs a i e) = further f g c d s fs (are_printed f fs a) i e

    pub enough_slots : (f : ℕ) (fs : Frames) → Around P f fs → places fs + stmts_catches (body_of P f) ≤ slots_of (uses P)
    unfolding reach
    enough_slots f fs a =
        let p = are_printed f fs a in
        let own : places fs ≤ slots_of (uses P) = reaches (spans (places fs)) (uses P) (p.inside (spans (places fs)) (from_scope p.depth f fs)) in
        let clause : (c : ℕ) → In c (stmts_clauses 0 (body_of P f)) → suc c + places fs ≤ slots_of (uses P) =
        λ c i. let l = reaches (prints (slot (places (inside_catches c fs)))) (uses P) (p.inside _ (from_clause p.depth f fs c i)) in let q = places_inside c fs in omega (arith, l, q) in
        by (slots_of (uses P)) own clause where
          by : (m : ℕ) → places fs ≤ m → ((c : ℕ) → In c (stmts_clauses 0 (body_of P f)) → suc c + places fs ≤ m) → places fs + stmts_catches (body_of P f) ≤ m
          by m own clause = let l = stmts_room (m - places fs) 0 (body_of P f) (λ c i. let k = clause c i in omega (arith, k)) (omega arith) in omega (arith, l, own)

-- Folding drops parts: what it makes of a node is well where the node is, and its parts stood in the node.
use Rattle.std.proofs.Common.{◌≡◌, ℕ, ◌+◌, Bool, true, false, List, [], ◌∷◌, Option, Some, None, unwrap_or, refl, sym, ap, subst, ◌∙◌}
use Rattle.std.specs.Prelude.{nat_eq, if◌then◌else◌}
use Rattle.std.proofs.lemmas.Bool.{and_parts}
use Rattle.cc_ast.specs.Syntax.{Prim, Expr, lit, unary, binary, and, or, cond, tick}
use Rattle.cc_ast.specs.declared.operator.BinOp.{BinOp}
use Rattle.cc_ast.specs.declared.operator.BinOp.TheVariants.{Instance, Has}
use Rattle.cc_ast.specs.declared.operator.UnOp.{UnOp}
use Rattle.cc_ast.specs.declared.operator.UnOp.TheVariants.{Void, Delete}
use Rattle.cc_meaning.specs.Values.{prim}
use Rattle.cc_meaning.specs.Operators.{Outcome, truthy, unary_of, binary_of}
use Rattle.cc_meaning.specs.State.{Tables}
use Rattle.cc_meaning.specs.Parts.{Part, has_site, exact_prim, expr_parts, expr_well}
use Rattle.cc_tied.proofs.Mixed.KeptPaths.{Stays}
use Rattle.cc_fold.specs.Fold.{Literal, literal, literal_at, price_of, unmarked, marked, charged, computed, computed_of_one, computed_of_two, fold_unary, fold_binary, fold_and, fold_or, fold_cond, fold, same_call}
use Rattle.cc_fold.proofs.LiteralRuns.{charged_is, computed_is}
use Rattle.cc_fold.proofs.WellMade.FewerParts.{Fewer, fewer_same, fewer_nothing, fewer_twice, fewer_before, fewer_after, fewer_kept, fewer_dropped, fewer_again}
use Rattle.cc_fold.proofs.ExactNumbers.{IsExact, unary_exact, binary_exact}
use Rattle.cc_fold.proofs.DroppingSteps.{Drops}

-- ---- literals are exact

record IsWhole (l : Literal) : Type 0 where
  pub value : Prim
  pub is : l.value ≡ prim value
  pub exact : exact_prim value ≡ true

at_price : (n : ℕ) (p : Prim) (l : Literal) (b : Bool) → exact_prim p ≡ b → (if b then Some (record { price = n; value = prim p }) else None) ≡ Some l → IsWhole l
at_price n p l true k h = let e : l ≡ record { price = n; value = prim p } = cc in record { value = p; is = ap (λ (z : Literal). z.value) e; exact = k }
at_price n p l false k h = absurd (cc)

literal_whole : (a : Expr) (l : Literal) → literal a ≡ Some l → IsWhole l
unfolding literal literal_at price_of unmarked
literal_whole (lit i p) l h = at_price 0 p l (exact_prim p) refl h
literal_whole (tick i n (lit j p)) l h = at_price n p l (exact_prim p) refl h
literal_whole _ l h = absurd (cc)

one_exact : (op : UnOp) (a : Expr) (l : Literal) → literal a ≡ Some l → IsExact (unary_of op l.value)
one_exact op a l h = let w = literal_whole a l h in subst (λ z. IsExact (unary_of op z)) (sym w.is) (unary_exact op w.value w.exact)

two_exact : (op : BinOp) (a b : Expr) (l m : Literal) → literal a ≡ Some l → literal b ≡ Some m → IsExact (binary_of op l.value m.value)
two_exact op a b l m h k =
    let v = literal_whole a l h in
    let w = literal_whole b m k in
    subst (λ z. IsExact (binary_of op z m.value)) (sym v.is) (subst (λ z. IsExact (binary_of op (prim v.value) z)) (sym w.is) (binary_exact op v.value w.value))

module _ (T : Tables) where
  -- the second may stand for the first
  record Smaller (e r : Expr) : Type 0 where
    pub well : expr_well T e ≡ true → expr_well T r ≡ true
    pub parts : (c : ℕ) → Fewer (expr_parts T c r) (expr_parts T c e)

  itself : (e : Expr) → Smaller e e
  itself e = record { well = λ h. h; parts = λ c. fewer_same (expr_parts T c e) }

  -- ---- prices

  unmarked_well : (e : Expr) → expr_well T (unmarked e) ≡ expr_well T e
  unfolding unmarked expr_well
  unmarked_well (tick i n e) = refl
  unmarked_well e = refl

  unmarked_parts : (c : ℕ) (e : Expr) → Fewer (expr_parts T c (unmarked e)) (expr_parts T c e)
  unfolding unmarked expr_parts
  unmarked_parts c (tick i n e) = fewer_dropped (has_site i) (fewer_same (expr_parts T c e))
  unmarked_parts c e = fewer_same (expr_parts T c e)

  marked_well : (i n : ℕ) (e : Expr) → expr_well T e ≡ true → expr_well T (marked i n e) ≡ true
  unfolding marked expr_well
  marked_well i n e h = by_test (nat_eq n 0)
    where
      by_test : (b : Bool) → expr_well T (if b then e else tick i (n + price_of e) (unmarked e)) ≡ true
      by_test true = h
      by_test false = unmarked_well e ∙ h

  marked_parts : (c i n : ℕ) (e : Expr) → Fewer (expr_parts T c (marked i n e)) (has_site i ∷ expr_parts T c e)
  unfolding marked expr_parts
  marked_parts c i n e = by_test (nat_eq n 0)
    where
      by_test : (b : Bool) → Fewer (expr_parts T c (if b then e else tick i (n + price_of e) (unmarked e))) (has_site i ∷ expr_parts T c e)
      by_test true = fewer_dropped (has_site i) (fewer_same (expr_parts T c e))
      by_test false = fewer_kept (has_site i) (unmarked_parts c e)

  -- ---- operators on literals

  literal_well : (i : ℕ) (p : Prim) → exact_prim p ≡ true → expr_well T (lit i p) ≡ true
  unfolding expr_well
  literal_well i p h = h

  literal_parts : (c i : ℕ) (p : Prim) (xs : List Part) → Fewer (has_site i ∷ []) xs → Fewer (has_site i ∷ expr_parts T c (lit i p)) xs
  unfolding expr_parts
  literal_parts c i p xs h = fewer_again i h

  computed_smaller : (e : Expr) (i n : ℕ) (o : Outcome) → IsExact o → ((c : ℕ) → Fewer (has_site i ∷ []) (expr_parts T c e)) → (x : Option Expr) → computed i n o ≡ x → Smaller e (unwrap_or x e)
  computed_smaller e i n o k f None h = itself e
  computed_smaller e i n o k f (Some r) h =
      let w = computed_is i n o r h in
      subst (Smaller e) (sym w.is) (record {
        well = λ g. marked_well i n (lit i w.value) (literal_well i w.value (k.exact w.value w.gives_it));
        parts = λ c. fewer_twice (marked_parts c i n (lit i w.value)) (literal_parts c i w.value (expr_parts T c e) (f c));
      })

  site_of_one : (i : ℕ) (op : UnOp) (a : Expr) (c : ℕ) → Fewer (has_site i ∷ []) (expr_parts T c (unary i op a))
  unfolding expr_parts
  site_of_one i op a c = fewer_kept (has_site i) (fewer_nothing _)

  site_of_two : (i : ℕ) (op : BinOp) (a b : Expr) (c : ℕ) → Fewer (has_site i ∷ []) (expr_parts T c (binary i op a b))
  unfolding expr_parts
  site_of_two i op a b c = fewer_kept (has_site i) (fewer_nothing _)

  one_smaller : (i : ℕ) (op : UnOp) (a : Expr) (x : Option Literal) → literal a ≡ x → Smaller (unary i op a) (unwrap_or (computed_of_one i op x) (unary i op a))
  unfolding computed_of_one
  one_smaller i op a None h = itself _
  one_smaller i op a (Some l) h = computed_smaller (unary i op a) i l.price (unary_of op l.value) (one_exact op a l h) (site_of_one i op a) (computed i l.price (unary_of op l.value)) refl

  unary_smaller : (i : ℕ) (op : UnOp) (a : Expr) → Smaller (unary i op a) (fold_unary i op a)
  unfolding fold_unary
  unary_smaller i Void a = itself _
  unary_smaller i Delete a = itself _
  unary_smaller i op a = one_smaller i op a (literal a) refl

  two_smaller : (i : ℕ) (op : BinOp) (a b : Expr) (x y : Option Literal) → literal a ≡ x → literal b ≡ y → Smaller (binary i op a b) (unwrap_or (computed_of_two i op x y) (binary i op a b))
  unfolding computed_of_two
  two_smaller i op a b None y h k = itself _
  two_smaller i op a b (Some l) None h k = itself _
  two_smaller i op a b (Some l) (Some m) h k = computed_smaller (binary i op a b) i (l.price + m.price) (binary_of op l.value m.value) (two_exact op a b l m h k) (site_of_two i op a b) (computed i (l.price + m.price) (binary_of op l.value m.value)) refl

  binary_smaller : (i : ℕ) (op : BinOp) (a b : Expr) → Smaller (binary i op a b) (fold_binary i op a b)
  unfolding fold_binary
  binary_smaller i Instance a b = itself _
  binary_smaller i Has a b = itself _
  binary_smaller i op a b = two_smaller i op a b (literal a) (literal b) refl refl

  -- ---- choices

  -- an operand, where what stands before it isn't needed
  record IsOperand (i : ℕ) (e b : Expr) : Type 0 where
    pub well : expr_well T e ≡ true → expr_well T b ≡ true
    pub parts : (c : ℕ) → Fewer (has_site i ∷ expr_parts T c b) (expr_parts T c e)

  operand_smaller : (i : ℕ) (e b : Expr) → IsOperand i e b → Smaller e b
  operand_smaller i e b o = record { well = o.well; parts = λ c. fewer_twice (fewer_dropped (has_site i) (fewer_same (expr_parts T c b))) (o.parts c) }

  charged_smaller : (e : Expr) (i n : ℕ) (b : Expr) → IsOperand i e b → (x : Option Expr) → charged i n b ≡ x → Smaller e (unwrap_or x e)
  charged_smaller e i n b o None h = itself e
  charged_smaller e i n b o (Some r) h = subst (Smaller e) (sym (charged_is i n b r h)) (record { well = λ k. marked_well i n b (o.well k); parts = λ c. fewer_twice (marked_parts c i n b) (o.parts c) })

  and_left : (i : ℕ) (a b : Expr) → IsOperand i (and i a b) a
  unfolding expr_well expr_parts
  and_left i a b = record { well = λ h. (and_parts (expr_well T a) (expr_well T b) h).0; parts = λ c. fewer_kept (has_site i) (fewer_before (expr_parts T c b) (fewer_same (expr_parts T c a))) }

  and_right : (i : ℕ) (a b : Expr) → IsOperand i (and i a b) b
  unfolding expr_well expr_parts
  and_right i a b = record { well = λ h. (and_parts (expr_well T a) (expr_well T b) h).1; parts = λ c. fewer_kept (has_site i) (fewer_after (expr_parts T c a) (fewer_same (expr_parts T c b))) }

  or_left : (i : ℕ) (a b : Expr) → IsOperand i (or i a b) a
  unfolding expr_well expr_parts
  or_left i a b = record { well = λ h. (and_parts (expr_well T a) (expr_well T b) h).0; parts = λ c. fewer_kept (has_site i) (fewer_before (expr_parts T c b) (fewer_same (expr_parts T c a))) }

  or_right : (i : ℕ) (a b : Expr) → IsOperand i (or i a b) b
  unfolding expr_well expr_parts
  or_right i a b = record { well = λ h. (and_parts (expr_well T a) (expr_well T b) h).1; parts = λ c. fewer_kept (has_site i) (fewer_after (expr_parts T c a) (fewer_same (expr_parts T c b))) }

  cond_yes : (i : ℕ) (e a b : Expr) → IsOperand i (cond i e a b) a
  unfolding expr_well expr_parts
  cond_yes i e a b = record {
    well = λ h. (and_parts (expr_well T e) (expr_well T a) (and_parts _ (expr_well T b) h).0).1;
    parts = λ c. fewer_kept (has_site i) (fewer_before (expr_parts T c b) (fewer_after (expr_parts T c e) (fewer_same (expr_parts T c a))));
  }

  cond_no : (i : ℕ) (e a b : Expr) → IsOperand i (cond i e a b) b
  unfolding expr_well expr_parts
  cond_no i e a b = record {
    well = λ h. (and_parts _ (expr_well T b) h).1;
    parts = λ c. fewer_kept (has_site i) (fewer_after _ (fewer_same (expr_parts T c b)));
  }

  and_smaller : (i : ℕ) (a b : Expr) (x : Option Literal) → Smaller (and i a b) (fold_and i x a b)
  unfolding fold_and
  and_smaller i a b None = itself _
  and_smaller i a b (Some l) = by_truth (truthy l.value)
    where
      by_truth : (t : Bool) → Smaller (and i a b) (if t then unwrap_or (charged i l.price b) (and i a b) else a)
      by_truth true = charged_smaller (and i a b) i l.price b (and_right i a b) (charged i l.price b) refl
      by_truth false = operand_smaller i (and i a b) a (and_left i a b)

  or_smaller : (i : ℕ) (a b : Expr) (x : Option Literal) → Smaller (or i a b) (fold_or i x a b)
  unfolding fold_or
  or_smaller i a b None = itself _
  or_smaller i a b (Some l) = by_truth (truthy l.value)
    where
      by_truth : (t : Bool) → Smaller (or i a b) (if t then a else unwrap_or (charged i l.price b) (or i a b))
      by_truth true = operand_smaller i (or i a b) a (or_left i a b)
      by_truth false = charged_smaller (or i a b) i l.price b (or_right i a b) (charged i l.price b) refl

  cond_smaller : (i : ℕ) (e a b : Expr) (x : Option Literal) → Smaller (cond i e a b) (fold_cond i x e a b)
  unfolding fold_cond
  cond_smaller i e a b None = itself _
  cond_smaller i e a b (Some l) = by_truth (truthy l.value)
    where
      by_truth : (t : Bool) → Smaller (cond i e a b) (unwrap_or (charged i l.price (if t then a else b)) (cond i e a b))
      by_truth true = charged_smaller (cond i e a b) i l.price a (cond_yes i e a b) (charged i l.price a) refl
      by_truth false = charged_smaller (cond i e a b) i l.price b (cond_no i e a b) (charged i l.price b) refl

  fold_smaller : (e : Expr) → Smaller e (fold e)
  unfolding fold
  fold_smaller (unary i op a) = unary_smaller i op a
  fold_smaller (binary i op a b) = binary_smaller i op a b
  fold_smaller (and i a b) = and_smaller i a b (literal a)
  fold_smaller (or i a b) = or_smaller i a b (literal a)
  fold_smaller (cond i e a b) = cond_smaller i e a b (literal e)
  fold_smaller e = itself e

pub fold_stays : Stays fold same_call
unfolding fold same_call
fold_stays = record { var = λ i r. refl; fun = λ i f. refl; object = λ i fs. refl; member = λ i e p. refl; assign = λ i op u e. refl; call = λ i j e p es. refl }

pub fold_drops : (T : Tables) → Drops T fold same_call
unfolding fold same_call
fold_drops T = record {
  stays = fold_stays;
  index = λ i e k. refl;
  call = λ i f es. refl;
  cast = λ i d e. refl;
  tick = λ i n e. refl;
  well = λ e h. (fold_smaller T e).well h;
  parts = λ c e. (fold_smaller T e).parts c;
}

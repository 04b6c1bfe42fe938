-- Runs of literals, of what has a price, and of operators on literals.
use Rattle.std.proofs.Common.{◌≡◌, refl, sym, ap, ◌∙◌, ℕ, zero, suc, ◌+◌, false, [], ◌∷◌, Option, None, subst, arith}
use Rattle.cc_ast.specs.Syntax.{Prim, Expr, unary, binary, and, or, cond, tick}
use Rattle.cc_ast.specs.declared.operator.BinOp.{BinOp}
use Rattle.cc_ast.specs.declared.operator.BinOp.TheVariants.{Instance, Has}
use Rattle.cc_ast.specs.declared.operator.UnOp.{UnOp}
use Rattle.cc_ast.specs.declared.operator.UnOp.TheVariants.{Typeof, Delete}
use Rattle.cc_meaning.specs.Values.{Val, prim, at_site, Spot}
use Rattle.cc_meaning.specs.Operators.{Outcome, gives, binary_of, unary_of, truthy}
use Rattle.cc_meaning.specs.State.{Env, Path}
use Rattle.cc_meaning.specs.Monad.{M, ret, skip, ◌>>=◌, pick, Mode}
use Rattle.cc_meaning.specs.Rules.{binary_op, unary_op, operate_rule, binary_rule, unary_rule, outcome_rule}
use Rattle.cc_meaning.specs.Judge.{Act, operates, least_broken}
use Rattle.cc_meaning.specs.Acts.{judged, allowed, operate, operate_one, outcome_value}
use Rattle.cc_meaning.specs.Calls.{Bodies, Reach, plain, value_of, value, apply_unary}
use Rattle.cc_meaning.specs.Meaning.{ev}
use Rattle.cc_tied.proofs.Laws.{ret_bind, bind_ret, bind_assoc, bind_alike}
use Rattle.cc_tied.proofs.Expressions.{deletes}
use Rattle.cc_fold.specs.Fold.{price_of, unmarked, marked}
use Rattle.cc_fold.proofs.Prices.{marked_nothing, marked_more}

-- prices that fall due one after the other cost what they cost together
pub record PricesAdd (J : Mode) : Type 0 where
  pub nothing : J.mark 0 ≡ skip
  pub together : (m n : ℕ) → (J.mark m >>= λ _. J.mark n) ≡ J.mark (m + n)

module _ (J : Mode) (B : Bodies) where
  -- a price, and then the rest
  abbrev pub paying : {A : Type 0} → ℕ → M A → M A
  paying n m = J.mark n >>= λ _. m

  pub paying_then : {A C : Type 0} (n : ℕ) (m : M A) (k : A → M C) → (paying n m >>= k) ≡ paying n (m >>= k)
  paying_then n m k = bind_assoc (J.mark n) (λ _. m) k

  -- the value of a choice
  value_plain : (m : M Val) → ((m >>= λ v. ret (plain v)) >>= value_of J B) ≡ m
  unfolding value_of
  value_plain m = bind_assoc m (λ v. ret (plain v)) (value_of J B) ∙ bind_alike m (λ v. ret (plain v) >>= value_of J B) ret (λ v. ret_bind (plain v) (value_of J B)) ∙ bind_ret m

  value_after : {A : Type 0} (m : M A) (k : A → M Val) → ((m >>= λ x. k x >>= λ v. ret (plain v)) >>= value_of J B) ≡ (m >>= k)
  value_after m k = bind_assoc m (λ x. k x >>= λ v. ret (plain v)) (value_of J B) ∙ bind_alike m (λ x. (k x >>= λ v. ret (plain v)) >>= value_of J B) k (λ x. value_plain (k x))

  pub and_value : (g : Env) (q : Option Path) (i : ℕ) (a b : Expr) → value J B (ev J B g q (and i a b)) ≡ (value J B (ev J B g None a) >>= λ x. pick (truthy x) (value J B (ev J B g None b)) (ret x))
  unfolding ev value
  and_value g q i a b = value_after (value J B (ev J B g None a)) (λ x. pick (truthy x) (value J B (ev J B g None b)) (ret x))

  pub or_value : (g : Env) (q : Option Path) (i : ℕ) (a b : Expr) → value J B (ev J B g q (or i a b)) ≡ (value J B (ev J B g None a) >>= λ x. pick (truthy x) (ret x) (value J B (ev J B g None b)))
  unfolding ev value
  or_value g q i a b = value_after (value J B (ev J B g None a)) (λ x. pick (truthy x) (ret x) (value J B (ev J B g None b)))

  pub cond_value : (g : Env) (q : Option Path) (i : ℕ) (e a b : Expr) → value J B (ev J B g q (cond i e a b)) ≡ (value J B (ev J B g None e) >>= λ x. pick (truthy x) (value J B (ev J B g None a)) (value J B (ev J B g None b)))
  unfolding ev value
  cond_value g q i e a b = value_after (value J B (ev J B g None e)) (λ x. pick (truthy x) (value J B (ev J B g None a)) (value J B (ev J B g None b)))

  unary_on : (i : ℕ) (op : UnOp) (r : Reach) → deletes op ≡ false → apply_unary J B i op r ≡ (value_of J B r >>= λ v. operate_one J (at_site i) op v)
  unfolding apply_unary deletes
  unary_on i Delete r d = absurd (cc)
  unary_on i op r d = refl

  pub unary_value : (g : Env) (q : Option Path) (i : ℕ) (op : UnOp) (a : Expr) → deletes op ≡ false → value J B (ev J B g q (unary i op a)) ≡ (value J B (ev J B g None a) >>= λ x. operate_one J (at_site i) op x)
  unfolding ev value
  unary_value g q i op a d =
      value_after (ev J B g None a) (λ r. apply_unary J B i op r)
      ∙ bind_alike (ev J B g None a) (λ r. apply_unary J B i op r) (λ r. value_of J B r >>= λ v. operate_one J (at_site i) op v) (λ r. unary_on i op r d)
      ∙ sym (bind_assoc (ev J B g None a) (value_of J B) (λ v. operate_one J (at_site i) op v))

  pub binary_value : (g : Env) (q : Option Path) (i : ℕ) (op : BinOp) (a b : Expr) → value J B (ev J B g q (binary i op a b)) ≡ (value J B (ev J B g None a) >>= λ x. value J B (ev J B g None b) >>= λ y. operate J (at_site i) op x y)
  unfolding ev value
  binary_value g q i op a b =
      let va = value J B (ev J B g None a) in let vb = value J B (ev J B g None b) in
      bind_assoc va (λ x. vb >>= λ y. operate J (at_site i) op x y >>= λ v. ret (plain v)) (value_of J B)
      ∙ bind_alike va (λ x. (vb >>= λ y. operate J (at_site i) op x y >>= λ v. ret (plain v)) >>= value_of J B) (λ x. vb >>= λ y. operate J (at_site i) op x y) (λ x. value_after vb (λ y. operate J (at_site i) op x y))

  -- ---- operators

  allowed_gives : (i : Spot) (a : Act) (o : Outcome) (r : Prim) → o ≡ gives (prim r) → allowed J i a (outcome_rule o) (ret (outcome_value o)) ≡ ret (prim r)
  unfolding allowed outcome_rule outcome_value
  allowed_gives i a o r e = subst (λ z. allowed J i a (outcome_rule z) (ret (outcome_value z)) ≡ ret (prim r)) (sym e) refl

  pub operates_one : (i : Spot) (op : UnOp) (p r : Prim) → unary_of op (prim p) ≡ gives (prim r) → operate_one J i op (prim p) ≡ ret (prim r)
  unfolding operate_one judged least_broken operate_rule unary_rule
  operates_one i Typeof p r e = allowed_gives i (operates (unary_op Typeof) (prim p ∷ [])) (unary_of Typeof (prim p)) r e
  operates_one i op p r e = allowed_gives i (operates (unary_op op) (prim p ∷ [])) (unary_of op (prim p)) r e

  pub operates_two : (i : Spot) (op : BinOp) (p q r : Prim) → (op ≡ Instance → ⊥) → (op ≡ Has → ⊥) → binary_of op (prim p) (prim q) ≡ gives (prim r) → operate J i op (prim p) (prim q) ≡ ret (prim r)
  unfolding operate judged least_broken operate_rule binary_rule
  operates_two i Instance p q r n m e = absurd (n refl)
  operates_two i Has p q r n m e = absurd (m refl)
  operates_two i op p q r n m e = allowed_gives i (operates (binary_op op) (prim p ∷ prim q ∷ [])) (binary_of op (prim p) (prim q)) r e

  -- ---- prices

  module _ (add : PricesAdd J) where
    pub paying_nothing : {A : Type 0} (m : M A) → paying 0 m ≡ m
    paying_nothing m = ap (λ z. z >>= λ _. m) add.nothing ∙ ret_bind tt (λ _. m)

    pub paying_twice : {A : Type 0} (m n : ℕ) (k : M A) → paying m (paying n k) ≡ paying (m + n) k
    paying_twice m n k = sym (bind_assoc (J.mark m) (λ _. J.mark n) (λ _. k)) ∙ ap (λ z. z >>= λ _. k) (add.together m n)

    -- the path that is set to what a price stands before
    abbrev pub path_behind : ℕ → Option Path → Option Path
    path_behind zero q = q
    path_behind (suc n) q = None

    tick_ev : (g : Env) (q : Option Path) (i n : ℕ) (e : Expr) → ev J B g q (tick i n e) ≡ paying n (ev J B g None e)
    unfolding ev
    tick_ev g q i n e = refl

    further_price : (g : Env) (i n : ℕ) (e : Expr) → paying (n + price_of e) (ev J B g None (unmarked e)) ≡ paying n (ev J B g None e)
    unfolding price_of unmarked ev
    further_price g i n (tick j m e) = sym (paying_twice n m (ev J B g None e))
    further_price g i n e = ap (λ z. paying z (ev J B g None e)) (omega arith)

    pub marked_ev : (g : Env) (q : Option Path) (i n : ℕ) (e : Expr) → ev J B g q (marked i n e) ≡ paying n (ev J B g (path_behind n q) e)
    marked_ev g q i zero e = ap (ev J B g q) (marked_nothing i 0 e refl) ∙ sym (paying_nothing (ev J B g q e))
    marked_ev g q i (suc n) e = ap (ev J B g q) (marked_more i (suc n) (suc n + price_of e) e (λ h. absurd (cc)) refl) ∙ tick_ev g q i (suc n + price_of e) (unmarked e) ∙ further_price g i (suc n) e

    pub marked_value : (g : Env) (q : Option Path) (i n : ℕ) (e : Expr) → value J B (ev J B g q (marked i n e)) ≡ paying n (value J B (ev J B g (path_behind n q) e))
    unfolding value
    marked_value g q i n e = ap (λ z. z >>= value_of J B) (marked_ev g q i n e) ∙ paying_then n (ev J B g (path_behind n q) e) (value_of J B)

-- An operator on literals runs as the literal that it gives.
use Rattle.std.proofs.Common.{◌≡◌, refl, sym, ap, ◌∙◌, ℕ, ◌+◌, ◌^◌, Bool, true, false, Option, Some, None}
use Rattle.std.specs.Prelude.{nat_lt, if◌then◌else◌}
use Rattle.cc_ast.specs.Syntax.{Prim, Expr, lit, unary, binary, tick}
use Rattle.cc_ast.specs.declared.operator.BinOp.{BinOp}
use Rattle.cc_ast.specs.declared.operator.BinOp.TheVariants.{Instance, Has}
use Rattle.cc_ast.specs.declared.operator.UnOp.{UnOp}
use Rattle.cc_meaning.specs.Values.{Val, prim, obj, out, at_site}
use Rattle.cc_meaning.specs.Operators.{Outcome, gives, breaks, binary_of, unary_of}
use Rattle.cc_meaning.specs.Parts.{exact_prim}
use Rattle.cc_meaning.specs.State.{Env, Path}
use Rattle.cc_meaning.specs.Monad.{M, ret, ◌>>=◌, Mode}
use Rattle.cc_meaning.specs.Acts.{operate, operate_one}
use Rattle.cc_meaning.specs.Calls.{Bodies, value}
use Rattle.cc_meaning.specs.Meaning.{ev}
use Rattle.cc_tied.proofs.Laws.{ret_bind}
use Rattle.cc_tied.proofs.Expressions.{value_literal, deletes}
use Rattle.cc_tied.proofs.AtValues.{tick_value}
use Rattle.cc_fold.specs.Fold.{Literal, literal, literal_at, price_of, unmarked, marked, charged, computed}
use Rattle.cc_fold.proofs.Runs.{PricesAdd, paying, paying_then, paying_nothing, paying_twice, path_behind, marked_value, unary_value, binary_value, operates_one, operates_two}

-- ---- what a literal is

-- a literal of this price and this primitive value
record IsLiteral (l : Literal) (n : ℕ) (p : Prim) : Type 0 where
  pub price : l.price ≡ n
  pub value : l.value ≡ prim p

exact_literal : (n : ℕ) (p : Prim) (l : Literal) (b : Bool) → (if b then Some (record { price = n; value = prim p }) else None) ≡ Some l → IsLiteral l n p
exact_literal n p l true h = let e : l ≡ record { price = n; value = prim p } = cc in record { price = ap (λ (z : Literal). z.price) e; value = ap (λ (z : Literal). z.value) e }
exact_literal n p l false h = absurd (cc)

-- the value of a literal is primitive
pub primitive : (a : Expr) (l : Literal) → literal a ≡ Some l → (p : Prim) × (l.value ≡ prim p)
unfolding literal literal_at price_of unmarked
primitive (lit i p) l h = (p, (exact_literal 0 p l (exact_prim p) h).value)
primitive (tick i n (lit j p)) l h = (p, (exact_literal n p l (exact_prim p) h).value)
primitive _ l h = absurd (cc)

-- ---- what an operator gives

pub record IsComputed (i n : ℕ) (o : Outcome) (r : Expr) : Type 0 where
  pub value : Prim
  pub gives_it : o ≡ gives (prim value)
  pub is : r ≡ marked i n (lit i value)

pub charged_is : (i n : ℕ) (e r : Expr) → charged i n e ≡ Some r → r ≡ marked i n e
unfolding charged
charged_is i n e r = by_test (nat_lt (n + price_of e) (2 ^ 64))
  where
    by_test : (b : Bool) → (if b then Some (marked i n e) else None) ≡ Some r → r ≡ marked i n e
    by_test true h = cc
    by_test false h = absurd (cc)

pub computed_is : (i n : ℕ) (o : Outcome) (r : Expr) → computed i n o ≡ Some r → IsComputed i n o r
unfolding computed
computed_is i n (gives (prim p)) r h = record { value = p; gives_it = refl; is = charged_is i n (lit i p) r h }
computed_is i n (gives (obj m)) r h = absurd (cc)
computed_is i n (gives (out m)) r h = absurd (cc)
computed_is i n (breaks m) r h = absurd (cc)

module _ (J : Mode) (B : Bodies) (add : PricesAdd J) where
  -- a literal pays its price, and gives its value
  pub literal_runs : (g : Env) (q : Option Path) (a : Expr) (l : Literal) → literal a ≡ Some l → value J B (ev J B g q a) ≡ paying J B l.price (ret l.value)
  unfolding literal literal_at price_of unmarked
  literal_runs g q (lit i p) l h =
      let e = exact_literal 0 p l (exact_prim p) h in
      value_literal J B g q i p ∙ sym (paying_nothing J B add (ret (prim p))) ∙ ap (λ z. paying J B z (ret (prim p))) (sym e.price) ∙ ap (λ z. paying J B l.price (ret z)) (sym e.value)
  literal_runs g q (tick i n (lit j p)) l h =
      let e = exact_literal n p l (exact_prim p) h in
      tick_value J B g q i n (lit j p) ∙ ap (paying J B n) (value_literal J B g None j p) ∙ ap (λ z. paying J B z (ret (prim p))) (sym e.price) ∙ ap (λ z. paying J B l.price (ret z)) (sym e.value)
  literal_runs g q _ l h = absurd (cc)

  computed_runs : (g : Env) (q : Option Path) (i n : ℕ) (p : Prim) → value J B (ev J B g q (marked i n (lit i p))) ≡ paying J B n (ret (prim p))
  computed_runs g q i n p = marked_value J B add g q i n (lit i p) ∙ ap (paying J B n) (value_literal J B g (path_behind J B add n q) i p)

  pub one_runs : (g : Env) (q : Option Path) (i : ℕ) (op : UnOp) (a r : Expr) (l : Literal) → literal a ≡ Some l → deletes op ≡ false → computed i l.price (unary_of op l.value) ≡ Some r → value J B (ev J B g q (unary i op a)) ≡ value J B (ev J B g q r)
  one_runs g q i op a r l h d e =
      let p = primitive a l h in
      let w = computed_is i l.price (unary_of op l.value) r e in
      let k : Val → M Val = λ x. operate_one J (at_site i) op x in
      let given : unary_of op (prim p.0) ≡ gives (prim w.value) = ap (unary_of op) (sym p.1) ∙ w.gives_it in
      unary_value J B g q i op a d
      ∙ ap (λ z. z >>= k) (literal_runs g None a l h)
      ∙ paying_then J B l.price (ret l.value) k
      ∙ ap (paying J B l.price) (ret_bind l.value k ∙ ap k p.1 ∙ operates_one J B (at_site i) op p.0 w.value given)
      ∙ sym (ap (λ z. value J B (ev J B g q z)) w.is ∙ computed_runs g q i l.price w.value)

  pub two_runs : (g : Env) (q : Option Path) (i : ℕ) (op : BinOp) (a b r : Expr) (l m : Literal) → literal a ≡ Some l → literal b ≡ Some m → (op ≡ Instance → ⊥) → (op ≡ Has → ⊥) → computed i (l.price + m.price) (binary_of op l.value m.value) ≡ Some r → value J B (ev J B g q (binary i op a b)) ≡ value J B (ev J B g q r)
  two_runs g q i op a b r l m h j n o e =
      let p = primitive a l h in
      let s = primitive b m j in
      let w = computed_is i (l.price + m.price) (binary_of op l.value m.value) r e in
      let f : Val → Val → M Val = λ x y. operate J (at_site i) op x y in
      let k : Val → M Val = λ x. value J B (ev J B g None b) >>= λ y. f x y in
      let given : binary_of op (prim p.0) (prim s.0) ≡ gives (prim w.value) = ap (λ z. binary_of op z (prim s.0)) (sym p.1) ∙ ap (binary_of op l.value) (sym s.1) ∙ w.gives_it in
      binary_value J B g q i op a b
      ∙ ap (λ z. z >>= k) (literal_runs g None a l h)
      ∙ paying_then J B l.price (ret l.value) k
      ∙ ap (paying J B l.price) (ret_bind l.value k ∙ ap (λ z. z >>= f l.value) (literal_runs g None b m j) ∙ paying_then J B m.price (ret m.value) (f l.value) ∙ ap (paying J B m.price) (ret_bind m.value (f l.value) ∙ ap (λ z. f z m.value) p.1 ∙ ap (f (prim p.0)) s.1 ∙ operates_two J B (at_site i) op p.0 s.0 w.value n o given))
      ∙ paying_twice J B add l.price m.price (ret (prim w.value))
      ∙ sym (ap (λ z. value J B (ev J B g q z)) w.is ∙ computed_runs g q i (l.price + m.price) w.value)

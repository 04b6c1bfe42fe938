-- What is shown of each variant of a tree holds of the tree.
use Rattle.std.proofs.Common.{◌≡◌, sym, ap, ◌∙◌, ℕ, Bool, true, false, List, Option, None, subst}
use Rattle.std.specs.Prelude.{ℤ}
use Rattle.cc_ast.specs.declared.tree.Expr.{Expr, Expr-F, out-Expr, roll-Expr, roll-out-Expr}
use Rattle.cc_ast.specs.declared.tree.Expr.TheFolds.{fold-roll-Expr}
use Rattle.cc_ast.specs.declared.tree.Expr.TheVariants as V
use Rattle.cc_ast.specs.declared.tree.Target.{Target}
use Rattle.cc_ast.specs.Syntax as S
use Rattle.cc_ast.specs.Bridge.{expr_layer, target_layer, term, target}
use Rattle.cc_fold.specs.Leaves.{is_leaf}
use Rattle.cc_fold.specs.Fold.{price_of, unmarked, literal_at}
use Rattle.cc_fold.specs.Places.{shape_of}
use Rattle.cc_fold.specs.declared.place.Shape.TheVariants.{Other}
use Rattle.cc_ast.specs.declared.tree.Ref.{Ref}
use Rattle.cc_ast.specs.declared.tree.Key.{Key}
use Rattle.cc_ast.specs.declared.operator.BinOp.{BinOp}
use Rattle.cc_ast.specs.declared.operator.UnOp.{UnOp}

price_layer : (x : Expr-F Expr Target) → ((s p : ℕ) (a : Expr) → roll-Expr x ≡ V.Tick s p a → ⊥) → price_of (term (roll-Expr x)) ≡ 0
unfolding term target expr_layer price_of
price_layer (Expr-F.Tick s p a) h = absurd (h s p a (V.rolls-Tick s p a))
price_layer x h = ap price_of (fold-roll-Expr S.Expr S.Target expr_layer target_layer x)

-- what is no price mark has no price
pub other_price : (e : Expr) → ((s p : ℕ) (a : Expr) → e ≡ V.Tick s p a → ⊥) → price_of (term e) ≡ 0
other_price e h = subst (λ z. price_of (term z) ≡ 0) (roll-out-Expr e) (price_layer (out-Expr e) (λ s p a q. h s p a (sym (roll-out-Expr e) ∙ q)))

unmarked_layer : (x : Expr-F Expr Target) → ((s p : ℕ) (a : Expr) → roll-Expr x ≡ V.Tick s p a → ⊥) → unmarked (term (roll-Expr x)) ≡ term (roll-Expr x)
unfolding term target expr_layer unmarked
unmarked_layer (Expr-F.Tick s p a) h = absurd (h s p a (V.rolls-Tick s p a))
unmarked_layer x h = ap unmarked (fold-roll-Expr S.Expr S.Target expr_layer target_layer x) ∙ sym (fold-roll-Expr S.Expr S.Target expr_layer target_layer x)

-- and is unmarked
pub other_unmarked : (e : Expr) → ((s p : ℕ) (a : Expr) → e ≡ V.Tick s p a → ⊥) → unmarked (term e) ≡ term e
other_unmarked e h = subst (λ z. unmarked (term z) ≡ term z) (roll-out-Expr e) (unmarked_layer (out-Expr e) (λ s p a q. h s p a (sym (roll-out-Expr e) ∙ q)))

literal_layer : (n : ℕ) (x : Expr-F Expr Target) → ((s : ℕ) → roll-Expr x ≡ V.Undefined s → ⊥) → ((s : ℕ) → roll-Expr x ≡ V.Null s → ⊥) → ((s : ℕ) (b : Bool) → roll-Expr x ≡ V.Truth s b → ⊥) → ((s : ℕ) (z : ℤ) → roll-Expr x ≡ V.Whole s z → ⊥) → ((s : ℕ) (t : List ℕ) → roll-Expr x ≡ V.Text s t → ⊥) → literal_at n (term (roll-Expr x)) ≡ None
unfolding term target expr_layer literal_at
literal_layer n (Expr-F.Undefined s) u v w y z = absurd (u s (V.rolls-Undefined s))
literal_layer n (Expr-F.Null s) u v w y z = absurd (v s (V.rolls-Null s))
literal_layer n (Expr-F.Truth s b) u v w y z = absurd (w s b (V.rolls-Truth s b))
literal_layer n (Expr-F.Whole s m) u v w y z = absurd (y s m (V.rolls-Whole s m))
literal_layer n (Expr-F.Text s t) u v w y z = absurd (z s t (V.rolls-Text s t))
literal_layer n x u v w y z = ap (literal_at n) (fold-roll-Expr S.Expr S.Target expr_layer target_layer x)

-- what is none of the five literals is no literal
pub other_literal : (n : ℕ) (e : Expr) → ((s : ℕ) → e ≡ V.Undefined s → ⊥) → ((s : ℕ) → e ≡ V.Null s → ⊥) → ((s : ℕ) (b : Bool) → e ≡ V.Truth s b → ⊥) → ((s : ℕ) (z : ℤ) → e ≡ V.Whole s z → ⊥) → ((s : ℕ) (t : List ℕ) → e ≡ V.Text s t → ⊥) → literal_at n (term e) ≡ None
other_literal n e u v w y z =
    let r = roll-out-Expr e in
    subst (λ x. literal_at n (term x) ≡ None) r (literal_layer n (out-Expr e) (λ s q. u s (sym r ∙ q)) (λ s q. v s (sym r ∙ q)) (λ s b q. w s b (sym r ∙ q)) (λ s m q. y s m (sym r ∙ q)) (λ s t q. z s t (sym r ∙ q)))

shape_layer : (x : Expr-F Expr Target) → ((s : ℕ) (r : Ref) → roll-Expr x ≡ V.Var s r → ⊥) → ((s f : ℕ) → roll-Expr x ≡ V.Fun s f → ⊥) → ((s : ℕ) (a : Expr) (p : ℕ) → roll-Expr x ≡ V.Member s a p → ⊥) → ((s : ℕ) (a b : Expr) → roll-Expr x ≡ V.Index s a b → ⊥) → ((s d : ℕ) (a : Expr) → roll-Expr x ≡ V.Cast s d a → ⊥) → ((s p : ℕ) (a : Expr) → roll-Expr x ≡ V.Tick s p a → ⊥) → shape_of (term (roll-Expr x)) ≡ Other
unfolding term target expr_layer shape_of
shape_layer (Expr-F.Var s r) u v w x y z = absurd (u s r (V.rolls-Var s r))
shape_layer (Expr-F.Fun s f) u v w x y z = absurd (v s f (V.rolls-Fun s f))
shape_layer (Expr-F.Member s a p) u v w x y z = absurd (w s a p (V.rolls-Member s a p))
shape_layer (Expr-F.Index s a b) u v w x y z = absurd (x s a b (V.rolls-Index s a b))
shape_layer (Expr-F.Cast s d a) u v w x y z = absurd (y s d a (V.rolls-Cast s d a))
shape_layer (Expr-F.Tick s p a) u v w x y z = absurd (z s p a (V.rolls-Tick s p a))
shape_layer l u v w x y z = ap shape_of (fold-roll-Expr S.Expr S.Target expr_layer target_layer l)

-- what is none of these has no shape of its own
pub other_shape : (e : Expr) → ((s : ℕ) (r : Ref) → e ≡ V.Var s r → ⊥) → ((s f : ℕ) → e ≡ V.Fun s f → ⊥) → ((s : ℕ) (a : Expr) (p : ℕ) → e ≡ V.Member s a p → ⊥) → ((s : ℕ) (a b : Expr) → e ≡ V.Index s a b → ⊥) → ((s d : ℕ) (a : Expr) → e ≡ V.Cast s d a → ⊥) → ((s p : ℕ) (a : Expr) → e ≡ V.Tick s p a → ⊥) → shape_of (term e) ≡ Other
other_shape e u v w x y z =
    let r = roll-out-Expr e in
    subst (λ x. shape_of (term x) ≡ Other) r (shape_layer (out-Expr e) (λ s v q. u s v (sym r ∙ q)) (λ s f q. v s f (sym r ∙ q)) (λ s a p q. w s a p (sym r ∙ q)) (λ s a b q. x s a b (sym r ∙ q)) (λ s d a q. y s d a (sym r ∙ q)) (λ s p a q. z s p a (sym r ∙ q)))

leaf_layer : (l : Expr-F Expr Target) → ((s : ℕ) → roll-Expr l ≡ V.Undefined s → ⊥) → ((s : ℕ) → roll-Expr l ≡ V.Null s → ⊥) → ((s : ℕ) (b : Bool) → roll-Expr l ≡ V.Truth s b → ⊥) → ((s : ℕ) (z : ℤ) → roll-Expr l ≡ V.Whole s z → ⊥) → ((s : ℕ) (t : List ℕ) → roll-Expr l ≡ V.Text s t → ⊥) → ((s : ℕ) (r : Ref) → roll-Expr l ≡ V.Var s r → ⊥) → ((s : ℕ) → roll-Expr l ≡ V.This s → ⊥) → ((s f : ℕ) → roll-Expr l ≡ V.Fun s f → ⊥) → is_leaf (term (roll-Expr l)) ≡ true → ⊥
unfolding term target expr_layer is_leaf
leaf_layer (Expr-F.Undefined s1) u v w x y z m n h = u s1 (V.rolls-Undefined s1)
leaf_layer (Expr-F.Null s1) u v w x y z m n h = v s1 (V.rolls-Null s1)
leaf_layer (Expr-F.Truth s1 b1) u v w x y z m n h = w s1 b1 (V.rolls-Truth s1 b1)
leaf_layer (Expr-F.Whole s1 z1) u v w x y z m n h = x s1 z1 (V.rolls-Whole s1 z1)
leaf_layer (Expr-F.Text s1 t1) u v w x y z m n h = y s1 t1 (V.rolls-Text s1 t1)
leaf_layer (Expr-F.Var s1 r1) u v w x y z m n h = z s1 r1 (V.rolls-Var s1 r1)
leaf_layer (Expr-F.This s1) u v w x y z m n h = m s1 (V.rolls-This s1)
leaf_layer (Expr-F.Fun s1 f1) u v w x y z m n h = n s1 f1 (V.rolls-Fun s1 f1)
leaf_layer l u v w x y z m n h = let q : false ≡ true = sym (ap is_leaf (fold-roll-Expr S.Expr S.Target expr_layer target_layer l)) ∙ h in absurd (cc)

-- what is none of the eight leaves is no leaf
pub no_leaf : (e : Expr) → ((s : ℕ) → e ≡ V.Undefined s → ⊥) → ((s : ℕ) → e ≡ V.Null s → ⊥) → ((s : ℕ) (b : Bool) → e ≡ V.Truth s b → ⊥) → ((s : ℕ) (z : ℤ) → e ≡ V.Whole s z → ⊥) → ((s : ℕ) (t : List ℕ) → e ≡ V.Text s t → ⊥) → ((s : ℕ) (r : Ref) → e ≡ V.Var s r → ⊥) → ((s : ℕ) → e ≡ V.This s → ⊥) → ((s f : ℕ) → e ≡ V.Fun s f → ⊥) → is_leaf (term e) ≡ true → ⊥
no_leaf e u v w x y z m n h =
    let r = roll-out-Expr e in
    leaf_layer (out-Expr e) (λ s1 q. u s1 (sym r ∙ q)) (λ s1 q. v s1 (sym r ∙ q)) (λ s1 b1 q. w s1 b1 (sym r ∙ q)) (λ s1 z1 q. x s1 z1 (sym r ∙ q)) (λ s1 t1 q. y s1 t1 (sym r ∙ q)) (λ s1 r1 q. z s1 r1 (sym r ∙ q)) (λ s1 q. m s1 (sym r ∙ q)) (λ s1 f1 q. n s1 f1 (sym r ∙ q)) (ap (λ k. is_leaf (term k)) r ∙ h)

parts_layer : (l : Expr-F Expr Target) → ((s : ℕ) (es : List Expr) → roll-Expr l ≡ V.List s es → ⊥) → ((s : ℕ) (fs : List (Key × Expr)) → roll-Expr l ≡ V.Object s fs → ⊥) → ((s : ℕ) (op : UnOp) (a : Expr) → roll-Expr l ≡ V.Unary s op a → ⊥) → ((s : ℕ) (op : BinOp) (a b : Expr) → roll-Expr l ≡ V.Binary s op a b → ⊥) → ((s : ℕ) (a b : Expr) → roll-Expr l ≡ V.And s a b → ⊥) → ((s : ℕ) (a b : Expr) → roll-Expr l ≡ V.Or s a b → ⊥) → ((s : ℕ) (t a b : Expr) → roll-Expr l ≡ V.Cond s t a b → ⊥) → ((s : ℕ) (op : Option BinOp) (t : Target) (a : Expr) → roll-Expr l ≡ V.Assign s op t a → ⊥) → ((s : ℕ) (p q : Bool) (t : Target) → roll-Expr l ≡ V.Step s p q t → ⊥) → ((s : ℕ) (a : Expr) (p : ℕ) → roll-Expr l ≡ V.Member s a p → ⊥) → ((s : ℕ) (a b : Expr) → roll-Expr l ≡ V.Index s a b → ⊥) → ((s : ℕ) (f : Expr) (es : List Expr) → roll-Expr l ≡ V.Call s f es → ⊥) → ((s : ℕ) (f : Expr) (es : List Expr) → roll-Expr l ≡ V.New s f es → ⊥) → ((s : ℕ) (a b : Expr) → roll-Expr l ≡ V.Comma s a b → ⊥) → ((s d : ℕ) (a : Expr) → roll-Expr l ≡ V.Cast s d a → ⊥) → ((s p : ℕ) (a : Expr) → roll-Expr l ≡ V.Tick s p a → ⊥) → is_leaf (term (roll-Expr l)) ≡ true
unfolding term target expr_layer is_leaf
parts_layer (Expr-F.List s1 es1) h1 h2 h3 h4 h5 h6 h7 h8 h9 h10 h11 h12 h13 h14 h15 h16 = absurd (h1 s1 es1 (V.rolls-List s1 es1))
parts_layer (Expr-F.Object s1 fs1) h1 h2 h3 h4 h5 h6 h7 h8 h9 h10 h11 h12 h13 h14 h15 h16 = absurd (h2 s1 fs1 (V.rolls-Object s1 fs1))
parts_layer (Expr-F.Unary s1 op1 a1) h1 h2 h3 h4 h5 h6 h7 h8 h9 h10 h11 h12 h13 h14 h15 h16 = absurd (h3 s1 op1 a1 (V.rolls-Unary s1 op1 a1))
parts_layer (Expr-F.Binary s1 op1 a1 b1) h1 h2 h3 h4 h5 h6 h7 h8 h9 h10 h11 h12 h13 h14 h15 h16 = absurd (h4 s1 op1 a1 b1 (V.rolls-Binary s1 op1 a1 b1))
parts_layer (Expr-F.And s1 a1 b1) h1 h2 h3 h4 h5 h6 h7 h8 h9 h10 h11 h12 h13 h14 h15 h16 = absurd (h5 s1 a1 b1 (V.rolls-And s1 a1 b1))
parts_layer (Expr-F.Or s1 a1 b1) h1 h2 h3 h4 h5 h6 h7 h8 h9 h10 h11 h12 h13 h14 h15 h16 = absurd (h6 s1 a1 b1 (V.rolls-Or s1 a1 b1))
parts_layer (Expr-F.Cond s1 t1 a1 b1) h1 h2 h3 h4 h5 h6 h7 h8 h9 h10 h11 h12 h13 h14 h15 h16 = absurd (h7 s1 t1 a1 b1 (V.rolls-Cond s1 t1 a1 b1))
parts_layer (Expr-F.Assign s1 op1 t1 a1) h1 h2 h3 h4 h5 h6 h7 h8 h9 h10 h11 h12 h13 h14 h15 h16 = absurd (h8 s1 op1 t1 a1 (V.rolls-Assign s1 op1 t1 a1))
parts_layer (Expr-F.Step s1 p1 q1 t1) h1 h2 h3 h4 h5 h6 h7 h8 h9 h10 h11 h12 h13 h14 h15 h16 = absurd (h9 s1 p1 q1 t1 (V.rolls-Step s1 p1 q1 t1))
parts_layer (Expr-F.Member s1 a1 p1) h1 h2 h3 h4 h5 h6 h7 h8 h9 h10 h11 h12 h13 h14 h15 h16 = absurd (h10 s1 a1 p1 (V.rolls-Member s1 a1 p1))
parts_layer (Expr-F.Index s1 a1 b1) h1 h2 h3 h4 h5 h6 h7 h8 h9 h10 h11 h12 h13 h14 h15 h16 = absurd (h11 s1 a1 b1 (V.rolls-Index s1 a1 b1))
parts_layer (Expr-F.Call s1 f1 es1) h1 h2 h3 h4 h5 h6 h7 h8 h9 h10 h11 h12 h13 h14 h15 h16 = absurd (h12 s1 f1 es1 (V.rolls-Call s1 f1 es1))
parts_layer (Expr-F.New s1 f1 es1) h1 h2 h3 h4 h5 h6 h7 h8 h9 h10 h11 h12 h13 h14 h15 h16 = absurd (h13 s1 f1 es1 (V.rolls-New s1 f1 es1))
parts_layer (Expr-F.Comma s1 a1 b1) h1 h2 h3 h4 h5 h6 h7 h8 h9 h10 h11 h12 h13 h14 h15 h16 = absurd (h14 s1 a1 b1 (V.rolls-Comma s1 a1 b1))
parts_layer (Expr-F.Cast s1 d1 a1) h1 h2 h3 h4 h5 h6 h7 h8 h9 h10 h11 h12 h13 h14 h15 h16 = absurd (h15 s1 d1 a1 (V.rolls-Cast s1 d1 a1))
parts_layer (Expr-F.Tick s1 p1 a1) h1 h2 h3 h4 h5 h6 h7 h8 h9 h10 h11 h12 h13 h14 h15 h16 = absurd (h16 s1 p1 a1 (V.rolls-Tick s1 p1 a1))
parts_layer l h1 h2 h3 h4 h5 h6 h7 h8 h9 h10 h11 h12 h13 h14 h15 h16 = ap is_leaf (fold-roll-Expr S.Expr S.Target expr_layer target_layer l)

-- what is none of the kinds with parts is a leaf
pub no_parts : (e : Expr) → ((s : ℕ) (es : List Expr) → e ≡ V.List s es → ⊥) → ((s : ℕ) (fs : List (Key × Expr)) → e ≡ V.Object s fs → ⊥) → ((s : ℕ) (op : UnOp) (a : Expr) → e ≡ V.Unary s op a → ⊥) → ((s : ℕ) (op : BinOp) (a b : Expr) → e ≡ V.Binary s op a b → ⊥) → ((s : ℕ) (a b : Expr) → e ≡ V.And s a b → ⊥) → ((s : ℕ) (a b : Expr) → e ≡ V.Or s a b → ⊥) → ((s : ℕ) (t a b : Expr) → e ≡ V.Cond s t a b → ⊥) → ((s : ℕ) (op : Option BinOp) (t : Target) (a : Expr) → e ≡ V.Assign s op t a → ⊥) → ((s : ℕ) (p q : Bool) (t : Target) → e ≡ V.Step s p q t → ⊥) → ((s : ℕ) (a : Expr) (p : ℕ) → e ≡ V.Member s a p → ⊥) → ((s : ℕ) (a b : Expr) → e ≡ V.Index s a b → ⊥) → ((s : ℕ) (f : Expr) (es : List Expr) → e ≡ V.Call s f es → ⊥) → ((s : ℕ) (f : Expr) (es : List Expr) → e ≡ V.New s f es → ⊥) → ((s : ℕ) (a b : Expr) → e ≡ V.Comma s a b → ⊥) → ((s d : ℕ) (a : Expr) → e ≡ V.Cast s d a → ⊥) → ((s p : ℕ) (a : Expr) → e ≡ V.Tick s p a → ⊥) → is_leaf (term e) ≡ true
no_parts e h1 h2 h3 h4 h5 h6 h7 h8 h9 h10 h11 h12 h13 h14 h15 h16 =
    let r = roll-out-Expr e in
    subst (λ k. is_leaf (term k) ≡ true) r (parts_layer (out-Expr e) (λ s1 es1 q0. h1 s1 es1 (sym r ∙ q0)) (λ s1 fs1 q0. h2 s1 fs1 (sym r ∙ q0)) (λ s1 op1 a1 q0. h3 s1 op1 a1 (sym r ∙ q0)) (λ s1 op1 a1 b1 q0. h4 s1 op1 a1 b1 (sym r ∙ q0)) (λ s1 a1 b1 q0. h5 s1 a1 b1 (sym r ∙ q0)) (λ s1 a1 b1 q0. h6 s1 a1 b1 (sym r ∙ q0)) (λ s1 t1 a1 b1 q0. h7 s1 t1 a1 b1 (sym r ∙ q0)) (λ s1 op1 t1 a1 q0. h8 s1 op1 t1 a1 (sym r ∙ q0)) (λ s1 p1 q1 t1 q0. h9 s1 p1 q1 t1 (sym r ∙ q0)) (λ s1 a1 p1 q0. h10 s1 a1 p1 (sym r ∙ q0)) (λ s1 a1 b1 q0. h11 s1 a1 b1 (sym r ∙ q0)) (λ s1 f1 es1 q0. h12 s1 f1 es1 (sym r ∙ q0)) (λ s1 f1 es1 q0. h13 s1 f1 es1 (sym r ∙ q0)) (λ s1 a1 b1 q0. h14 s1 a1 b1 (sym r ∙ q0)) (λ s1 d1 a1 q0. h15 s1 d1 a1 (sym r ∙ q0)) (λ s1 p1 a1 q0. h16 s1 p1 a1 (sym r ∙ q0)))

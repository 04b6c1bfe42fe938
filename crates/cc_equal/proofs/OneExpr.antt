-- A tree of src/ is known by the plain tree that it stands for: expressions.
use Rattle.std.specs.Prelude.{◌≡◌, ℕ, ℤ, Bool, List, [], ◌∷◌, Option}
use Rattle.std.proofs.Common.{refl, sym, ap, ◌∙◌, subst}
use Rattle.cc_ast.specs.declared.operator.BinOp.{BinOp}
use Rattle.cc_ast.specs.declared.operator.UnOp.{UnOp}
use Rattle.cc_ast.specs.declared.tree.Expr.{Expr, Expr-F, out-Expr, roll-Expr, roll-out-Expr}
use Rattle.cc_ast.specs.declared.tree.Expr.TheVariants as V
use Rattle.cc_ast.specs.declared.tree.Target.{Target, Target-F, out-Target, roll-Target, roll-out-Target}
use Rattle.cc_ast.specs.declared.tree.Target.TheVariants as W
use Rattle.cc_ast.specs.declared.tree.Ref.{Ref}
use Rattle.cc_ast.specs.declared.tree.Key.{Key}
use Rattle.cc_ast.specs.Syntax as S
use Rattle.cc_ast.specs.Bridge.{term, terms, term_fields, target}
use Rattle.cc_ast.specs.Terms as T

-- ---- what stands for a plain tree, by its outermost constructor

data ExprOf : S.Expr → Expr → Type 0 where
  undefined_is : (s : ℕ) {tree : Expr} → tree ≡ V.Undefined s → ExprOf (S.lit s S.undefined) tree
  null_is : (s : ℕ) {tree : Expr} → tree ≡ V.Null s → ExprOf (S.lit s S.null) tree
  truth_is : (s : ℕ) (v : Bool) {tree : Expr} → tree ≡ V.Truth s v → ExprOf (S.lit s (S.truth v)) tree
  whole_is : (s : ℕ) (v : ℤ) {tree : Expr} → tree ≡ V.Whole s v → ExprOf (S.lit s (S.whole v)) tree
  text_is : (s : ℕ) (t : List ℕ) {tree : Expr} → tree ≡ V.Text s t → ExprOf (S.lit s (S.text t)) tree
  var_is : (s : ℕ) (v : Ref) {tree : Expr} → tree ≡ V.Var s v → ExprOf (S.var s v) tree
  this_is : (s : ℕ) {tree : Expr} → tree ≡ V.This s → ExprOf (S.this s) tree
  fun_is : (s : ℕ) (f : ℕ) {tree : Expr} → tree ≡ V.Fun s f → ExprOf (S.fun s f) tree
  list_is : (s : ℕ) (es : List Expr) (es' : S.Exprs) {tree : Expr} → terms es ≡ es' → tree ≡ V.List s es → ExprOf (S.list s es') tree
  object_is : (s : ℕ) (fs : List (Key × Expr)) (fs' : S.Fields) {tree : Expr} → term_fields fs ≡ fs' → tree ≡ V.Object s fs → ExprOf (S.object s fs') tree
  unary_is : (s : ℕ) (op : UnOp) (a : Expr) (a' : S.Expr) {tree : Expr} → term a ≡ a' → tree ≡ V.Unary s op a → ExprOf (S.unary s op a') tree
  binary_is : (s : ℕ) (op : BinOp) (a : Expr) (c : Expr) (a' : S.Expr) (c' : S.Expr) {tree : Expr} → term a ≡ a' → term c ≡ c' → tree ≡ V.Binary s op a c → ExprOf (S.binary s op a' c') tree
  and_is : (s : ℕ) (a : Expr) (c : Expr) (a' : S.Expr) (c' : S.Expr) {tree : Expr} → term a ≡ a' → term c ≡ c' → tree ≡ V.And s a c → ExprOf (S.and s a' c') tree
  or_is : (s : ℕ) (a : Expr) (c : Expr) (a' : S.Expr) (c' : S.Expr) {tree : Expr} → term a ≡ a' → term c ≡ c' → tree ≡ V.Or s a c → ExprOf (S.or s a' c') tree
  cond_is : (s : ℕ) (t : Expr) (a : Expr) (c : Expr) (t' : S.Expr) (a' : S.Expr) (c' : S.Expr) {tree : Expr} → term t ≡ t' → term a ≡ a' → term c ≡ c' → tree ≡ V.Cond s t a c → ExprOf (S.cond s t' a' c') tree
  assign_is : (s : ℕ) (op : Option BinOp) (t : Target) (a : Expr) (t' : S.Target) (a' : S.Expr) {tree : Expr} → target t ≡ t' → term a ≡ a' → tree ≡ V.Assign s op t a → ExprOf (S.assign s op t' a') tree
  step_is : (s : ℕ) (up : Bool) (prefix : Bool) (t : Target) (t' : S.Target) {tree : Expr} → target t ≡ t' → tree ≡ V.Step s up prefix t → ExprOf (S.step s up prefix t') tree
  member_is : (s : ℕ) (a : Expr) (p : ℕ) (a' : S.Expr) {tree : Expr} → term a ≡ a' → tree ≡ V.Member s a p → ExprOf (S.member s a' p) tree
  index_is : (s : ℕ) (a : Expr) (c : Expr) (a' : S.Expr) (c' : S.Expr) {tree : Expr} → term a ≡ a' → term c ≡ c' → tree ≡ V.Index s a c → ExprOf (S.index s a' c') tree
  call_is : (s : ℕ) (f : Expr) (es : List Expr) (f' : S.Expr) (es' : S.Exprs) {tree : Expr} → term f ≡ f' → terms es ≡ es' → tree ≡ V.Call s f es → ExprOf (S.call s f' es') tree
  new_is : (s : ℕ) (f : Expr) (es : List Expr) (f' : S.Expr) (es' : S.Exprs) {tree : Expr} → term f ≡ f' → terms es ≡ es' → tree ≡ V.New s f es → ExprOf (S.new s f' es') tree
  comma_is : (s : ℕ) (a : Expr) (c : Expr) (a' : S.Expr) (c' : S.Expr) {tree : Expr} → term a ≡ a' → term c ≡ c' → tree ≡ V.Comma s a c → ExprOf (S.comma s a' c') tree
  cast_is : (s : ℕ) (d : ℕ) (a : Expr) (a' : S.Expr) {tree : Expr} → term a ≡ a' → tree ≡ V.Cast s d a → ExprOf (S.cast s d a') tree
  tick_is : (s : ℕ) (p : ℕ) (a : Expr) (a' : S.Expr) {tree : Expr} → term a ≡ a' → tree ≡ V.Tick s p a → ExprOf (S.tick s p a') tree

data TargetOf : S.Target → Target → Type 0 where
  variable_is : (s : ℕ) (v : Ref) {tree : Target} → tree ≡ W.Variable s v → TargetOf (S.to_var s v) tree
  dotted_is : (s : ℕ) (o : Expr) (p : ℕ) (o' : S.Expr) {tree : Target} → term o ≡ o' → tree ≡ W.Dotted s o p → TargetOf (S.to_member s o' p) tree
  bracketed_is : (s : ℕ) (o : Expr) (k : Expr) (o' : S.Expr) (k' : S.Expr) {tree : Target} → term o ≡ o' → term k ≡ k' → tree ≡ W.Bracketed s o k → TargetOf (S.to_index s o' k') tree

term_layer : (x : Expr-F Expr Target) → ExprOf (term (roll-Expr x)) (roll-Expr x)
term_layer (Expr-F.Undefined s) = subst (λ z. ExprOf z (roll-Expr (Expr-F.Undefined s))) (sym (ap term (V.rolls-Undefined s) ∙ T.term-Undefined s)) (undefined_is s (V.rolls-Undefined s))
term_layer (Expr-F.Null s) = subst (λ z. ExprOf z (roll-Expr (Expr-F.Null s))) (sym (ap term (V.rolls-Null s) ∙ T.term-Null s)) (null_is s (V.rolls-Null s))
term_layer (Expr-F.Truth s v) = subst (λ z. ExprOf z (roll-Expr (Expr-F.Truth s v))) (sym (ap term (V.rolls-Truth s v) ∙ T.term-Truth s v)) (truth_is s v (V.rolls-Truth s v))
term_layer (Expr-F.Whole s v) = subst (λ z. ExprOf z (roll-Expr (Expr-F.Whole s v))) (sym (ap term (V.rolls-Whole s v) ∙ T.term-Whole s v)) (whole_is s v (V.rolls-Whole s v))
term_layer (Expr-F.Text s t) = subst (λ z. ExprOf z (roll-Expr (Expr-F.Text s t))) (sym (ap term (V.rolls-Text s t) ∙ T.term-Text s t)) (text_is s t (V.rolls-Text s t))
term_layer (Expr-F.Var s v) = subst (λ z. ExprOf z (roll-Expr (Expr-F.Var s v))) (sym (ap term (V.rolls-Var s v) ∙ T.term-Var s v)) (var_is s v (V.rolls-Var s v))
term_layer (Expr-F.This s) = subst (λ z. ExprOf z (roll-Expr (Expr-F.This s))) (sym (ap term (V.rolls-This s) ∙ T.term-This s)) (this_is s (V.rolls-This s))
term_layer (Expr-F.Fun s f) = subst (λ z. ExprOf z (roll-Expr (Expr-F.Fun s f))) (sym (ap term (V.rolls-Fun s f) ∙ T.term-Fun s f)) (fun_is s f (V.rolls-Fun s f))
term_layer (Expr-F.List s es) = subst (λ z. ExprOf z (roll-Expr (Expr-F.List s es))) (sym (ap term (V.rolls-List s es) ∙ T.term-List s es)) (list_is s es (terms es) refl (V.rolls-List s es))
term_layer (Expr-F.Object s fs) = subst (λ z. ExprOf z (roll-Expr (Expr-F.Object s fs))) (sym (ap term (V.rolls-Object s fs) ∙ T.term-Object s fs)) (object_is s fs (term_fields fs) refl (V.rolls-Object s fs))
term_layer (Expr-F.Unary s op a) = subst (λ z. ExprOf z (roll-Expr (Expr-F.Unary s op a))) (sym (ap term (V.rolls-Unary s op a) ∙ T.term-Unary s op a)) (unary_is s op a (term a) refl (V.rolls-Unary s op a))
term_layer (Expr-F.Binary s op a c) = subst (λ z. ExprOf z (roll-Expr (Expr-F.Binary s op a c))) (sym (ap term (V.rolls-Binary s op a c) ∙ T.term-Binary s op a c)) (binary_is s op a c (term a) (term c) refl refl (V.rolls-Binary s op a c))
term_layer (Expr-F.And s a c) = subst (λ z. ExprOf z (roll-Expr (Expr-F.And s a c))) (sym (ap term (V.rolls-And s a c) ∙ T.term-And s a c)) (and_is s a c (term a) (term c) refl refl (V.rolls-And s a c))
term_layer (Expr-F.Or s a c) = subst (λ z. ExprOf z (roll-Expr (Expr-F.Or s a c))) (sym (ap term (V.rolls-Or s a c) ∙ T.term-Or s a c)) (or_is s a c (term a) (term c) refl refl (V.rolls-Or s a c))
term_layer (Expr-F.Cond s t a c) = subst (λ z. ExprOf z (roll-Expr (Expr-F.Cond s t a c))) (sym (ap term (V.rolls-Cond s t a c) ∙ T.term-Cond s t a c)) (cond_is s t a c (term t) (term a) (term c) refl refl refl (V.rolls-Cond s t a c))
term_layer (Expr-F.Assign s op t a) = subst (λ z. ExprOf z (roll-Expr (Expr-F.Assign s op t a))) (sym (ap term (V.rolls-Assign s op t a) ∙ T.term-Assign s op t a)) (assign_is s op t a (target t) (term a) refl refl (V.rolls-Assign s op t a))
term_layer (Expr-F.Step s up prefix t) = subst (λ z. ExprOf z (roll-Expr (Expr-F.Step s up prefix t))) (sym (ap term (V.rolls-Step s up prefix t) ∙ T.term-Step s up prefix t)) (step_is s up prefix t (target t) refl (V.rolls-Step s up prefix t))
term_layer (Expr-F.Member s a p) = subst (λ z. ExprOf z (roll-Expr (Expr-F.Member s a p))) (sym (ap term (V.rolls-Member s a p) ∙ T.term-Member s a p)) (member_is s a p (term a) refl (V.rolls-Member s a p))
term_layer (Expr-F.Index s a c) = subst (λ z. ExprOf z (roll-Expr (Expr-F.Index s a c))) (sym (ap term (V.rolls-Index s a c) ∙ T.term-Index s a c)) (index_is s a c (term a) (term c) refl refl (V.rolls-Index s a c))
term_layer (Expr-F.Call s f es) = subst (λ z. ExprOf z (roll-Expr (Expr-F.Call s f es))) (sym (ap term (V.rolls-Call s f es) ∙ T.term-Call s f es)) (call_is s f es (term f) (terms es) refl refl (V.rolls-Call s f es))
term_layer (Expr-F.New s f es) = subst (λ z. ExprOf z (roll-Expr (Expr-F.New s f es))) (sym (ap term (V.rolls-New s f es) ∙ T.term-New s f es)) (new_is s f es (term f) (terms es) refl refl (V.rolls-New s f es))
term_layer (Expr-F.Comma s a c) = subst (λ z. ExprOf z (roll-Expr (Expr-F.Comma s a c))) (sym (ap term (V.rolls-Comma s a c) ∙ T.term-Comma s a c)) (comma_is s a c (term a) (term c) refl refl (V.rolls-Comma s a c))
term_layer (Expr-F.Cast s d a) = subst (λ z. ExprOf z (roll-Expr (Expr-F.Cast s d a))) (sym (ap term (V.rolls-Cast s d a) ∙ T.term-Cast s d a)) (cast_is s d a (term a) refl (V.rolls-Cast s d a))
term_layer (Expr-F.Tick s p a) = subst (λ z. ExprOf z (roll-Expr (Expr-F.Tick s p a))) (sym (ap term (V.rolls-Tick s p a) ∙ T.term-Tick s p a)) (tick_is s p a (term a) refl (V.rolls-Tick s p a))

target_layer : (x : Target-F Expr Target) → TargetOf (target (roll-Target x)) (roll-Target x)
target_layer (Target-F.Variable s v) = subst (λ z. TargetOf z (roll-Target (Target-F.Variable s v))) (sym (ap target (W.rolls-Variable s v) ∙ T.target-Variable s v)) (variable_is s v (W.rolls-Variable s v))
target_layer (Target-F.Dotted s o p) = subst (λ z. TargetOf z (roll-Target (Target-F.Dotted s o p))) (sym (ap target (W.rolls-Dotted s o p) ∙ T.target-Dotted s o p)) (dotted_is s o p (term o) refl (W.rolls-Dotted s o p))
target_layer (Target-F.Bracketed s o k) = subst (λ z. TargetOf z (roll-Target (Target-F.Bracketed s o k))) (sym (ap target (W.rolls-Bracketed s o k) ∙ T.target-Bracketed s o k)) (bracketed_is s o k (term o) (term k) refl refl (W.rolls-Bracketed s o k))

expr_of : (e : Expr) → ExprOf (term e) e
expr_of e = subst (λ z. ExprOf (term z) z) (roll-out-Expr e) (term_layer (out-Expr e))

target_of : (t : Target) → TargetOf (target t) t
target_of t = subst (λ z. TargetOf (target z) z) (roll-out-Target t) (target_layer (out-Target t))

-- ---- two trees for one plain tree are one

more_is : (e : Expr) (es : List Expr) (t : S.Expr) (ts : S.Exprs) → terms (e ∷ es) ≡ S.more_exprs t ts → (term e ≡ t) × (terms es ≡ ts)
more_is e es t ts p = let q : S.more_exprs (term e) (terms es) ≡ S.more_exprs t ts = sym (T.terms-more e es) ∙ p in (cc, cc)

field_is : (x : Key × Expr) (xs : List (Key × Expr)) (k : Key) (t : S.Expr) (ts : S.Fields) → term_fields (x ∷ xs) ≡ S.more_fields k t ts → (x.0 ≡ k) × (term x.1 ≡ t) × (term_fields xs ≡ ts)
field_is x xs k t ts p = let q : S.more_fields x.0 (term x.1) (term_fields xs) ≡ S.more_fields k t ts = sym (T.term_fields-more x xs) ∙ p in (cc, cc, cc)

not_more : (e : Expr) (es : List Expr) → terms (e ∷ es) ≡ S.no_exprs → ⊥
not_more e es p = let q : S.more_exprs (term e) (terms es) ≡ S.no_exprs = sym (T.terms-more e es) ∙ p in absurd (cc)

not_none : (t : S.Expr) (ts : S.Exprs) → terms [] ≡ S.more_exprs t ts → ⊥
not_none t ts p = let q : S.no_exprs ≡ S.more_exprs t ts = sym T.terms-empty ∙ p in absurd (cc)

not_field : (x : Key × Expr) (xs : List (Key × Expr)) → term_fields (x ∷ xs) ≡ S.no_fields → ⊥
not_field x xs p = let q : S.more_fields x.0 (term x.1) (term_fields xs) ≡ S.no_fields = sym (T.term_fields-more x xs) ∙ p in absurd (cc)

no_field : (k : Key) (t : S.Expr) (ts : S.Fields) → term_fields [] ≡ S.more_fields k t ts → ⊥
no_field k t ts p = let q : S.no_fields ≡ S.more_fields k t ts = sym T.term_fields-empty ∙ p in absurd (cc)

pair_is : (x y : Key × Expr) → x.0 ≡ y.0 → x.1 ≡ y.1 → x ≡ y
pair_is (k, a) (l, b) p q = ap (λ z. (z, a)) p ∙ ap (λ z. (l, z)) q

expr_at : (t : S.Expr) (a : Expr) → term a ≡ t → ExprOf t a
expr_at t a p = subst (λ z. ExprOf z a) p (expr_of a)

target_at : (t : S.Target) (a : Target) → target a ≡ t → TargetOf t a
target_at t a p = subst (λ z. TargetOf z a) p (target_of a)

mutual
  same_term : (t : S.Expr) (a b : Expr) → ExprOf t a → ExprOf t b → a ≡ b
  same_term (S.lit s S.undefined) a b (undefined_is _ left) (undefined_is _ right) = left ∙ sym right
  same_term (S.lit s S.null) a b (null_is _ left) (null_is _ right) = left ∙ sym right
  same_term (S.lit s (S.truth v)) a b (truth_is _ _ left) (truth_is _ _ right) = left ∙ sym right
  same_term (S.lit s (S.whole v)) a b (whole_is _ _ left) (whole_is _ _ right) = left ∙ sym right
  same_term (S.lit s (S.text t)) a b (text_is _ _ left) (text_is _ _ right) = left ∙ sym right
  same_term (S.var s v) a b (var_is _ _ left) (var_is _ _ right) = left ∙ sym right
  same_term (S.this s) a b (this_is _ left) (this_is _ right) = left ∙ sym right
  same_term (S.fun s f) a b (fun_is _ _ left) (fun_is _ _ right) = left ∙ sym right
  same_term (S.list s es') a b (list_is _ es1 _ p0 left) (list_is _ es2 _ q0 right) = left ∙ ap (λ z. V.List s z) (one_exprs es' es1 es2 p0 q0) ∙ sym right
  same_term (S.object s fs') a b (object_is _ fs1 _ p0 left) (object_is _ fs2 _ q0 right) = left ∙ ap (λ z. V.Object s z) (one_fields fs' fs1 fs2 p0 q0) ∙ sym right
  same_term (S.unary s op a') a b (unary_is _ _ a1 _ p0 left) (unary_is _ _ a2 _ q0 right) = left ∙ ap (λ z. V.Unary s op z) (same_term a' a1 a2 (expr_at a' a1 p0) (expr_at a' a2 q0)) ∙ sym right
  same_term (S.binary s op a' c') a b (binary_is _ _ a1 c1 _ _ p0 p1 left) (binary_is _ _ a2 c2 _ _ q0 q1 right) = left ∙ ap (λ z. V.Binary s op z c1) (same_term a' a1 a2 (expr_at a' a1 p0) (expr_at a' a2 q0)) ∙ ap (λ z. V.Binary s op a2 z) (same_term c' c1 c2 (expr_at c' c1 p1) (expr_at c' c2 q1)) ∙ sym right
  same_term (S.and s a' c') a b (and_is _ a1 c1 _ _ p0 p1 left) (and_is _ a2 c2 _ _ q0 q1 right) = left ∙ ap (λ z. V.And s z c1) (same_term a' a1 a2 (expr_at a' a1 p0) (expr_at a' a2 q0)) ∙ ap (λ z. V.And s a2 z) (same_term c' c1 c2 (expr_at c' c1 p1) (expr_at c' c2 q1)) ∙ sym right
  same_term (S.or s a' c') a b (or_is _ a1 c1 _ _ p0 p1 left) (or_is _ a2 c2 _ _ q0 q1 right) = left ∙ ap (λ z. V.Or s z c1) (same_term a' a1 a2 (expr_at a' a1 p0) (expr_at a' a2 q0)) ∙ ap (λ z. V.Or s a2 z) (same_term c' c1 c2 (expr_at c' c1 p1) (expr_at c' c2 q1)) ∙ sym right
  same_term (S.cond s t' a' c') a b (cond_is _ t1 a1 c1 _ _ _ p0 p1 p2 left) (cond_is _ t2 a2 c2 _ _ _ q0 q1 q2 right) = left ∙ ap (λ z. V.Cond s z a1 c1) (same_term t' t1 t2 (expr_at t' t1 p0) (expr_at t' t2 q0)) ∙ ap (λ z. V.Cond s t2 z c1) (same_term a' a1 a2 (expr_at a' a1 p1) (expr_at a' a2 q1)) ∙ ap (λ z. V.Cond s t2 a2 z) (same_term c' c1 c2 (expr_at c' c1 p2) (expr_at c' c2 q2)) ∙ sym right
  same_term (S.assign s op t' a') a b (assign_is _ _ t1 a1 _ _ p0 p1 left) (assign_is _ _ t2 a2 _ _ q0 q1 right) = left ∙ ap (λ z. V.Assign s op z a1) (same_target t' t1 t2 (target_at t' t1 p0) (target_at t' t2 q0)) ∙ ap (λ z. V.Assign s op t2 z) (same_term a' a1 a2 (expr_at a' a1 p1) (expr_at a' a2 q1)) ∙ sym right
  same_term (S.step s up prefix t') a b (step_is _ _ _ t1 _ p0 left) (step_is _ _ _ t2 _ q0 right) = left ∙ ap (λ z. V.Step s up prefix z) (same_target t' t1 t2 (target_at t' t1 p0) (target_at t' t2 q0)) ∙ sym right
  same_term (S.member s a' p) a b (member_is _ a1 _ _ p0 left) (member_is _ a2 _ _ q0 right) = left ∙ ap (λ z. V.Member s z p) (same_term a' a1 a2 (expr_at a' a1 p0) (expr_at a' a2 q0)) ∙ sym right
  same_term (S.index s a' c') a b (index_is _ a1 c1 _ _ p0 p1 left) (index_is _ a2 c2 _ _ q0 q1 right) = left ∙ ap (λ z. V.Index s z c1) (same_term a' a1 a2 (expr_at a' a1 p0) (expr_at a' a2 q0)) ∙ ap (λ z. V.Index s a2 z) (same_term c' c1 c2 (expr_at c' c1 p1) (expr_at c' c2 q1)) ∙ sym right
  same_term (S.call s f' es') a b (call_is _ f1 es1 _ _ p0 p1 left) (call_is _ f2 es2 _ _ q0 q1 right) = left ∙ ap (λ z. V.Call s z es1) (same_term f' f1 f2 (expr_at f' f1 p0) (expr_at f' f2 q0)) ∙ ap (λ z. V.Call s f2 z) (one_exprs es' es1 es2 p1 q1) ∙ sym right
  same_term (S.new s f' es') a b (new_is _ f1 es1 _ _ p0 p1 left) (new_is _ f2 es2 _ _ q0 q1 right) = left ∙ ap (λ z. V.New s z es1) (same_term f' f1 f2 (expr_at f' f1 p0) (expr_at f' f2 q0)) ∙ ap (λ z. V.New s f2 z) (one_exprs es' es1 es2 p1 q1) ∙ sym right
  same_term (S.comma s a' c') a b (comma_is _ a1 c1 _ _ p0 p1 left) (comma_is _ a2 c2 _ _ q0 q1 right) = left ∙ ap (λ z. V.Comma s z c1) (same_term a' a1 a2 (expr_at a' a1 p0) (expr_at a' a2 q0)) ∙ ap (λ z. V.Comma s a2 z) (same_term c' c1 c2 (expr_at c' c1 p1) (expr_at c' c2 q1)) ∙ sym right
  same_term (S.cast s d a') a b (cast_is _ _ a1 _ p0 left) (cast_is _ _ a2 _ q0 right) = left ∙ ap (λ z. V.Cast s d z) (same_term a' a1 a2 (expr_at a' a1 p0) (expr_at a' a2 q0)) ∙ sym right
  same_term (S.tick s p a') a b (tick_is _ _ a1 _ p0 left) (tick_is _ _ a2 _ q0 right) = left ∙ ap (λ z. V.Tick s p z) (same_term a' a1 a2 (expr_at a' a1 p0) (expr_at a' a2 q0)) ∙ sym right

  same_target : (t : S.Target) (a b : Target) → TargetOf t a → TargetOf t b → a ≡ b
  same_target (S.to_var s v) a b (variable_is _ _ left) (variable_is _ _ right) = left ∙ sym right
  same_target (S.to_member s o' p) a b (dotted_is _ o1 _ _ p0 left) (dotted_is _ o2 _ _ q0 right) = left ∙ ap (λ z. W.Dotted s z p) (same_term o' o1 o2 (expr_at o' o1 p0) (expr_at o' o2 q0)) ∙ sym right
  same_target (S.to_index s o' k') a b (bracketed_is _ o1 k1 _ _ p0 p1 left) (bracketed_is _ o2 k2 _ _ q0 q1 right) = left ∙ ap (λ z. W.Bracketed s z k1) (same_term o' o1 o2 (expr_at o' o1 p0) (expr_at o' o2 q0)) ∙ ap (λ z. W.Bracketed s o2 z) (same_term k' k1 k2 (expr_at k' k1 p1) (expr_at k' k2 q1)) ∙ sym right

  pub one_exprs : (ts : S.Exprs) (xs ys : List Expr) → terms xs ≡ ts → terms ys ≡ ts → xs ≡ ys
  one_exprs S.no_exprs [] [] p q = refl
  one_exprs S.no_exprs [] (y ∷ ys) p q = absurd (not_more y ys q)
  one_exprs S.no_exprs (x ∷ xs) ys p q = absurd (not_more x xs p)
  one_exprs (S.more_exprs t ts) [] ys p q = absurd (not_none t ts p)
  one_exprs (S.more_exprs t ts) (x ∷ xs) [] p q = absurd (not_none t ts q)
  one_exprs (S.more_exprs t ts) (x ∷ xs) (y ∷ ys) p q =
      let u = more_is x xs t ts p in
      let v = more_is y ys t ts q in
      ap (λ z. z ∷ xs) (same_term t x y (expr_at t x u.0) (expr_at t y v.0)) ∙ ap (λ z. y ∷ z) (one_exprs ts xs ys u.1 v.1)

  pub one_fields : (ts : S.Fields) (xs ys : List (Key × Expr)) → term_fields xs ≡ ts → term_fields ys ≡ ts → xs ≡ ys
  one_fields S.no_fields [] [] p q = refl
  one_fields S.no_fields [] (y ∷ ys) p q = absurd (not_field y ys q)
  one_fields S.no_fields (x ∷ xs) ys p q = absurd (not_field x xs p)
  one_fields (S.more_fields k t ts) [] ys p q = absurd (no_field k t ts p)
  one_fields (S.more_fields k t ts) (x ∷ xs) [] p q = absurd (no_field k t ts q)
  one_fields (S.more_fields k t ts) (x ∷ xs) (y ∷ ys) p q =
      let u = field_is x xs k t ts p in
      let v = field_is y ys k t ts q in
      ap (λ z. z ∷ xs) (pair_is x y (u.0 ∙ sym v.0) (same_term t x.1 y.1 (expr_at t x.1 u.1) (expr_at t y.1 v.1))) ∙ ap (λ z. y ∷ z) (one_fields ts xs ys u.2 v.2)

pub one_expr : (t : S.Expr) (a b : Expr) → term a ≡ t → term b ≡ t → a ≡ b
one_expr t a b p q = same_term t a b (expr_at t a p) (expr_at t b q)

pub one_target : (t : S.Target) (a b : Target) → target a ≡ t → target b ≡ t → a ≡ b
one_target t a b p q = same_target t a b (target_at t a p) (target_at t b q)

-- What folding makes of an operator's outcome.
use Rattle.std.proofs.Common.{◌≡◌, refl, sym, ap, ◌∙◌, subst, ℕ, ◌+◌, ◌<◌, ◌^◌, ◌≤◌, List, ◌++◌, Some, None, unwrap_or, arith}
use Rattle.cc_ast.specs.Syntax.{Expr, lit, text, unary, binary}
use Rattle.cc_ast.specs.declared.operator.BinOp.{BinOp}
use Rattle.cc_ast.specs.declared.operator.BinOp.TheVariants.{Add, Instance, Has}
use Rattle.cc_ast.specs.declared.operator.UnOp.{UnOp}
use Rattle.cc_ast.specs.declared.operator.UnOp.TheVariants.{Void, Delete}
use Rattle.cc_meaning.specs.Values.{Val, prim, obj, out}
use Rattle.cc_meaning.specs.Operators.{Outcome, gives, breaks, binary_of, prim_binary, add_prims, prim_text}
use Rattle.cc_meaning.specs.Parts.{exact_prim}
use Rattle.cc_fold.specs.Fold.{computed, computed_of_one, computed_of_two, fold_unary, fold_binary, literal, literal_at, price_of, unmarked, marked, charged}
use Rattle.cc_fold.specs.Literals.{lit_of}
use Rattle.cc_fold.proofs.Prices.{charged_fits, charged_past}

pub computed_given : (i n : ℕ) (v : Val) (e : Expr) → lit_of i v ≡ Some e → n + price_of e < 2 ^ 64 → computed i n (gives v) ≡ Some (marked i n e)
unfolding computed
computed_given i n (prim p) e h l = let q : lit i p ≡ e = cc in ap (charged i n) q ∙ charged_fits i n e l
computed_given i n (obj m) e h l = absurd (cc)
computed_given i n (out m) e h l = absurd (cc)

-- a literal has no mark
pub literal_price : (i : ℕ) (v : Val) (e : Expr) → lit_of i v ≡ Some e → price_of e ≡ 0
unfolding price_of
literal_price i (prim p) e h = let q : lit i p ≡ e = cc in subst (λ z. price_of z ≡ 0) q refl
literal_price i (obj m) e h = absurd (cc)
literal_price i (out m) e h = absurd (cc)

pub computed_object : (i n : ℕ) (v : Val) → lit_of i v ≡ None → computed i n (gives v) ≡ None
unfolding computed
computed_object i n (prim p) h = absurd (cc)
computed_object i n (obj m) h = refl
computed_object i n (out m) h = refl

pub computed_broken : (i n r : ℕ) → computed i n (breaks r) ≡ None
unfolding computed
computed_broken i n r = refl

-- no price is past 2^64-1
pub computed_past : (i n : ℕ) (o : Outcome) → 2 ^ 64 ≤ n → computed i n o ≡ None
unfolding computed price_of
computed_past i n (gives (prim p)) h = charged_past i n (lit i p) (omega (arith, h))
computed_past i n (gives (obj m)) h = refl
computed_past i n (gives (out m)) h = refl
computed_past i n (breaks r) h = refl

-- ---- the operators that are folded

pub unary_void : (i : ℕ) (op : UnOp) (e : Expr) → op ≡ Void → fold_unary i op e ≡ unary i op e
unfolding fold_unary
unary_void i op e h = subst (λ z. fold_unary i z e ≡ unary i z e) (sym h) refl

pub unary_delete : (i : ℕ) (op : UnOp) (e : Expr) → op ≡ Delete → fold_unary i op e ≡ unary i op e
unfolding fold_unary
unary_delete i op e h = subst (λ z. fold_unary i z e ≡ unary i z e) (sym h) refl

pub unary_other : (i : ℕ) (op : UnOp) (e : Expr) → (op ≡ Void → ⊥) → (op ≡ Delete → ⊥) → fold_unary i op e ≡ unwrap_or (computed_of_one i op (literal e)) (unary i op e)
unfolding fold_unary
unary_other i Void e h k = absurd (h refl)
unary_other i Delete e h k = absurd (k refl)
unary_other i op e h k = refl

pub binary_instance : (i : ℕ) (op : BinOp) (a b : Expr) → op ≡ Instance → fold_binary i op a b ≡ binary i op a b
unfolding fold_binary
binary_instance i op a b h = subst (λ z. fold_binary i z a b ≡ binary i z a b) (sym h) refl

pub binary_has : (i : ℕ) (op : BinOp) (a b : Expr) → op ≡ Has → fold_binary i op a b ≡ binary i op a b
unfolding fold_binary
binary_has i op a b h = subst (λ z. fold_binary i z a b ≡ binary i z a b) (sym h) refl

pub binary_other : (i : ℕ) (op : BinOp) (a b : Expr) → (op ≡ Instance → ⊥) → (op ≡ Has → ⊥) → fold_binary i op a b ≡ unwrap_or (computed_of_two i op (literal a) (literal b)) (binary i op a b)
unfolding fold_binary
binary_other i Instance a b h k = absurd (h refl)
binary_other i Has a b h k = absurd (k refl)
binary_other i op a b h k = refl

-- ---- two texts

pub texts_joined : (i j k : ℕ) (s t : List ℕ) → fold_binary i Add (lit j (text s)) (lit k (text t)) ≡ lit i (text (s ++ t))
unfolding fold_binary computed_of_two computed literal literal_at price_of unmarked charged marked exact_prim binary_of prim_binary add_prims prim_text
texts_joined i j k s t = refl

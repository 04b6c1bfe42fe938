-- Tokens, and what is said of operators and levels.
use Rattle.std.specs.Prelude.{◌≡◌, ℕ, zero, suc, pos, negsuc, ◌≤◌, ◌∷◌, Bool, true, false, not, ◌||◌, ◌&&◌, ◌==◌, nat_lt, cond, ◌⊎◌, Some, None}
use Rattle.std.proofs.Common.{refl, inl, inr, sym, ap, subst, arith}
use Rattle.std.proofs.lemmas.Bool.Decides.{nat_tests}
use Rattle.cc_ast.specs.declared.operator.BinOp.{BinOp}
use Rattle.cc_ast.specs.declared.operator.BinOp.TheVariants as b
use Rattle.cc_ast.specs.declared.operator.UnOp.{UnOp}
use Rattle.cc_ast.specs.declared.operator.UnOp.TheVariants as u
use Rattle.cc_ast.specs.declared.place.Place.{Place}
use Rattle.cc_ast.specs.Syntax.{Prim, undefined, null, truth, whole, text}
use Rattle.cc_grammar.specs.Symbols.{Kind, Symbols, real}
use Rattle.cc_grammar.specs.RawTree.{RawExpr, RawTarget}
use Rattle.cc_grammar.specs.RawTree as raw
use Rattle.cc_grammar.specs.Signs as sign
use Rattle.cc_grammar.specs.Grammar.{At, Chain}
use Rattle.cc_grammar.specs.Grammar as g
use Rattle.cc_printer.specs.Printing.{operator, prefix, stepping, level_of, chain, is_has}
use Rattle.cc_printer.specs.Bare.{bare}
use Rattle.cc_printer.specs.Printable.{stays_unary}

pub here : {x : Kind} {p : Place} {ys : Symbols} → At x (real (record { kind = x; place = p; after_line = false; noted = false }) ∷ ys) ys
here {x} {p} = g.at_token (record { kind = x; place = p; after_line = false; noted = false }) refl

-- ---- operators

pub infix_back : (n : Bool) (o : BinOp) (p : Place) (e f : RawExpr) → (not n && is_has (raw.binary p o e f)) ≡ false → sign.infix_of n (operator o) ≡ Some (sign.operator o)
infix_back false b.Has p e f h = cc
infix_back true b.Has p e f h = refl
infix_back n _ p e f h = refl

pub prefix_back : (o : UnOp) → sign.prefix_of (prefix o) ≡ Some (sign.unary o)
prefix_back u.Plus = refl
prefix_back _ = refl

pub step_back : (up : Bool) → sign.step_of (stepping up) ≡ Some up
step_back true = refl
step_back false = refl

pub prefix_step_back : (up : Bool) → sign.prefix_of (stepping up) ≡ Some (sign.step up)
prefix_step_back true = refl
prefix_step_back false = refl

pub variable_bare : (e : RawExpr) → sign.is_variable e ≡ sign.is_variable (bare e)
variable_bare (raw.cast p e) = variable_bare e
variable_bare (raw.var p n) = refl
variable_bare _ = refl

-- no cast stands on top
abbrev pub is_cast : RawExpr → Bool
is_cast (raw.cast p e) = true
is_cast _ = false

pub stays_bare : (o : UnOp) (e : RawExpr) → is_cast e ≡ false → stays_unary o e ≡ stays_unary o (bare e)
stays_bare u.Delete e h = ap not (variable_bare e)
stays_bare u.Minus (raw.cast p e) h = cc
stays_bare u.Minus (raw.lit p (whole (pos (suc n)))) h = refl
stays_bare u.Minus _ h = refl
stays_bare u.Void (raw.cast p e) h = cc
stays_bare u.Void (raw.lit p (whole (pos zero))) h = refl
stays_bare u.Void _ h = refl
stays_bare _ e h = refl

pub tree_stays : (o : UnOp) (p : Place) (e : RawExpr) → stays_unary o e ≡ true → sign.prefix_tree (sign.unary o) p e ≡ Some (raw.unary p o e)
tree_stays u.Minus p (raw.lit q (whole (pos (suc n)))) h = cc
tree_stays u.Minus p (raw.lit q (whole (pos zero))) h = refl
tree_stays u.Minus p _ h = refl
tree_stays u.Void p (raw.lit q (whole (pos zero))) h = cc
tree_stays u.Void p (raw.lit q (whole (pos (suc n)))) h = refl
tree_stays u.Void p _ h = refl
tree_stays u.Delete p e h = by (sign.is_variable e) h where
  by : (v : Bool) → not v ≡ true → cond v None (Some (raw.unary p u.Delete e)) ≡ Some (raw.unary p u.Delete e)
  by false h = refl
  by true h = cc
tree_stays _ p e h = refl

-- ---- levels

pub free : (x l : ℕ) (v : Bool) → (nat_lt x l || v) ≡ false → (l ≤ x) × (v ≡ false)
free x l true h = grind (arith, nat_tests)
free x l false h = (grind (arith, nat_tests), refl)

pub low_operator : (o : BinOp) → sign.level_of o ≤ 12
low_operator b.BitOr = omega arith
low_operator b.BitXor = omega arith
low_operator b.BitAnd = omega arith
low_operator b.Equal = omega arith
low_operator b.NotEqual = omega arith
low_operator b.Strict = omega arith
low_operator b.NotStrict = omega arith
low_operator b.Less = omega arith
low_operator b.Greater = omega arith
low_operator b.LessEq = omega arith
low_operator b.GreaterEq = omega arith
low_operator b.Instance = omega arith
low_operator b.Has = omega arith
low_operator b.Shl = omega arith
low_operator b.Shr = omega arith
low_operator b.UShr = omega arith
low_operator b.Add = omega arith
low_operator b.Sub = omega arith
low_operator b.Mul = omega arith
low_operator b.Div = omega arith
low_operator b.Rem = omega arith

-- unary and below, postfix, a call's chain, and what is tighter
abbrev pub Level : ℕ → Type 0
Level l = (l ≤ 14) ⊎ ((l ≡ 16) ⊎ (l ≡ 18))

chain_level : (v : Bool) → Level (cond v 16 18)
chain_level true = inr (inl refl)
chain_level false = inr (inr refl)

pub levels : (e : RawExpr) → Level (level_of e)
levels (raw.lit p undefined) = inl (omega arith)
levels (raw.lit p (whole (negsuc n))) = inl (omega arith)
levels (raw.lit p (whole (pos n))) = inr (inr refl)
levels (raw.lit p null) = inr (inr refl)
levels (raw.lit p (truth v)) = inr (inr refl)
levels (raw.lit p (text t)) = inr (inr refl)
levels (raw.unary p o e) = inl (omega arith)
levels (raw.binary p o e f) = let h = low_operator o in inl (omega (arith, h))
levels (raw.and p e f) = inl (omega arith)
levels (raw.or p e f) = inl (omega arith)
levels (raw.cond p e f h) = inl (omega arith)
levels (raw.assign p o t e) = inl (omega arith)
levels (raw.step p up true t) = inl (omega arith)
levels (raw.step p up false t) = inl (omega arith)
levels (raw.member p e q n) = chain_level (level_of e == 16)
levels (raw.index p e f) = chain_level (level_of e == 16)
levels (raw.call p e es) = inr (inl refl)
levels (raw.comma p e f) = inl (omega arith)
levels (raw.cast p e) = levels e
levels _ = inr (inr refl)

-- the level at which a chain goes on
pub record Links (l : ℕ) : Type 0 where
  pub level : ℕ
  pub is : Chain level
  pub low : chain l ≤ level
  pub high : 16 ≤ l → level ≤ l

pub links : (l : ℕ) → Level l → Links l
links l (inr (inl e)) = record { level = 16; is = g.chain; low = subst (λ x. chain x ≤ 16) (sym e) (omega arith); high = λ h. h }
links l (inr (inr e)) = record { level = 18; is = g.member_chain; low = subst (λ x. chain x ≤ 18) (sym e) (omega arith); high = λ h. omega (arith, e) }
links l (inl e) = record { level = 18; is = g.member_chain; low = by (l == 16); high = λ h. absurd (omega (arith, e, h)) } where
  by : (v : Bool) → cond v 16 18 ≤ 18
  by true = omega arith
  by false = omega arith

-- ---- equal parts

pub ap₃ : {A B C D : Type 0} {a a' : A} {b b' : B} {c c' : C} (f : A → B → C → D) → a ≡ a' → b ≡ b' → c ≡ c' → f a b c ≡ f a' b' c'
ap₃ f p q r = λ i. f (p i) (q i) (r i)

pub ap₄ : {A B C D X : Type 0} {a a' : A} {b b' : B} {c c' : C} {d d' : D} (f : A → B → C → D → X) → a ≡ a' → b ≡ b' → c ≡ c' → d ≡ d' → f a b c d ≡ f a' b' c' d'
ap₄ f p q r s = λ i. f (p i) (q i) (r i) (s i)

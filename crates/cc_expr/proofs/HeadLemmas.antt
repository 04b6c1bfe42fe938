-- What a primary expression begins with.
use Rattle.std.proofs.Common.{◌≡◌, ◌<◌, ◌∙◌, refl, sym, ap, arith, ℕ, Bool, true, false, Some, None, Ok, Err, if◌then◌else◌}
use Rattle.std.specs.Prelude.{nat_lt}
use Rattle.std.proofs.lemmas.Bool.Decides.{nat_tests}
use Rattle.cc_grammar.specs.Reading.{Outcome, Sized, head_of, depth, fault, an_operand, look_token, rest_tokens, semicolon_token}
use Rattle.cc_grammar.specs.Reading as r
use Rattle.cc_grammar.specs.ReadingExpressions.{primary}
use Rattle.cc_grammar.specs.RawTree as S
use Rattle.cc_cursor.specs.declared.limits.Limits.{Limits}
use Rattle.cc_cursor.specs.declared.signs.Head.TheVariants as H
use Rattle.cc_cursor.specs.declared.signs.Leaf.{Leaf}
use Rattle.cc_cursor.specs.declared.signs.Leaf.TheVariants as L
use Rattle.cc_cursor.specs.declared.signs.Nested.{Nested}
use Rattle.cc_cursor.specs.declared.signs.Nested.TheVariants as N
use Rattle.cc_cursor.specs.Meant as meant
use Rattle.cc_cursor.specs.Reads.{Tokens, within}
use Rattle.cc_expr.specs.Expressions as spec

abbrev limits : ℕ → ℕ → Limits
limits t d = record { turns = t; depth = d }

abbrev by_head : Limits → Bool → r.Head → Tokens → Outcome Tokens (Sized S.RawExpr)
by_head m = r.primary_by Tokens look_token rest_tokens semicolon_token m.depth m.turns (within m)

by_leaf : (m : Limits) (n : Bool) (l : Leaf) (i : Tokens)
    → by_head m n (meant.leaf l) i ≡ Ok ((meant.leaf_tree l (look_token i).place, 0), rest_tokens i)
by_leaf m n L.This i = refl
by_leaf m n L.Null i = refl
by_leaf m n (L.Truth b) i = refl
by_leaf m n (L.Whole k) i = refl
by_leaf m n (L.Text t) i = refl
by_leaf m n (L.Variable v) i = refl

by_nested : (m : Limits) (n : Bool) (x : Nested) (i : Tokens)
    → by_head m n (meant.nested x) i ≡ (if nat_lt 0 m.depth then spec.nested m n x i else Err (record { cause = depth; place = (look_token i).place }, i))
by_nested m n N.Paren i = refl
by_nested m n N.Array i = refl
by_nested m n N.Object i = refl
by_nested m n N.Function i = refl
by_nested m n N.New i = refl

pub primary_nothing : (t d : ℕ) (n : Bool) (i : Tokens) → meant.head None ≡ head_of (look_token i).kind
    → spec.primary (limits t d) n i ≡ Err (fault an_operand (look_token i), i)
unfolding primary
primary_nothing t d n i e = ap (λ h. by_head (limits t d) n h i) (sym e)

pub primary_leaf : (t d : ℕ) (n : Bool) (l : Leaf) (i : Tokens) → meant.head (Some (H.Leaf l)) ≡ head_of (look_token i).kind
    → spec.primary (limits t d) n i ≡ Ok ((meant.leaf_tree l (look_token i).place, 0), rest_tokens i)
unfolding primary
primary_leaf t d n l i e = ap (λ h. by_head (limits t d) n h i) (sym e) ∙ by_leaf (limits t d) n l i

deep : (t d : ℕ) (n : Bool) (x : Nested) (i : Tokens) → meant.head (Some (H.Nested x)) ≡ head_of (look_token i).kind
    → spec.primary (limits t d) n i ≡ (if nat_lt 0 d then spec.nested (limits t d) n x i else Err (record { cause = depth; place = (look_token i).place }, i))
unfolding primary
deep t d n x i e = ap (λ h. by_head (limits t d) n h i) (sym e) ∙ by_nested (limits t d) n x i

pub primary_nested : (t d : ℕ) (n : Bool) (x : Nested) (i : Tokens) → meant.head (Some (H.Nested x)) ≡ head_of (look_token i).kind → 0 < d
    → spec.primary (limits t d) n i ≡ spec.nested (limits t d) n x i
primary_nested t d n x i e some = let b : nat_lt 0 d ≡ true = grind (arith, nat_tests) in
    deep t d n x i e ∙ ap (λ b. if b then spec.nested (limits t d) n x i else Err (record { cause = depth; place = (look_token i).place }, i)) b

pub primary_none : (t d : ℕ) (n : Bool) (x : Nested) (i : Tokens) → meant.head (Some (H.Nested x)) ≡ head_of (look_token i).kind → d ≡ 0
    → spec.primary (limits t d) n i ≡ Err (record { cause = depth; place = (look_token i).place }, i)
primary_none t d n x i e none = let b : nat_lt 0 d ≡ false = grind (arith, nat_tests) in
    deep t d n x i e ∙ ap (λ b. if b then spec.nested (limits t d) n x i else Err (record { cause = depth; place = (look_token i).place }, i)) b

-- Small trees folded.
use Rattle.std.proofs.Common.{◌≡◌, refl, ℕ, Bool, true, false, List, Some, None}
use Rattle.std.specs.Prelude.{pos, codes}
use Rattle.cc_ast.specs.Syntax.{Prim, undefined, null, truth, whole, text, Expr, lit, var, fun, unary, binary, and, or, cond, assign, member, call, tick, to_var, to_member, no_exprs, return, no_stmts, more_stmts}
use Rattle.cc_ast.specs.declared.operator.BinOp.TheVariants.{Add, Sub, Less, Has}
use Rattle.cc_ast.specs.declared.operator.UnOp.TheVariants.{Minus, Not, Void, Typeof, Delete}
use Rattle.cc_ast.specs.declared.tree.Ref.{Ref}
use Rattle.cc_ast.specs.declared.tree.Ref.TheVariants.{Frame, Global}
use Rattle.cc_tied.specs.Placed.{a_value}
use Rattle.cc_fold.specs.Fold.{fold_scope}
use Rattle.cc_fold.specs.Walk.{fold_expr}

-- global 0 is built in
abbrev built : Ref → Bool
built (Global zero) = true
built _ = false

abbrev number : ℕ → Expr
number n = lit 1 (whole (pos n))

abbrev word : List ℕ → Expr
word t = lit 1 (text t)

abbrev yes : Expr
yes = lit 1 (truth true)

abbrev local : Expr
local = var 2 (Frame 0 0)

-- `o.m` of a local `o`
abbrev method : Expr
method = member 3 local 5

unfoldable folded : Expr → Expr
unfolding fold_expr
folded e = fold_expr built false a_value e

-- ---- operators

chain : folded (binary 9 Add (binary 8 Add (number 1) (number 2)) (number 3)) ≡ lit 9 (whole (pos 6))
unfolding folded
chain = refl

text_chain : folded (binary 9 Add (binary 8 Add (word (codes "a")) (number 1)) (number 2)) ≡ lit 9 (text (codes "a12"))
unfolding folded
text_chain = refl

greatest : folded (binary 9 Add (number 9007199254740990) (number 1)) ≡ lit 9 (whole (pos 9007199254740991))
unfolding folded
greatest = refl

past_greatest : folded (binary 9 Add (number 9007199254740991) (number 1)) ≡ binary 9 Add (number 9007199254740991) (number 1)
unfolding folded
past_greatest = refl

other_kinds : folded (binary 9 Sub (word (codes "5")) (number 1)) ≡ binary 9 Sub (word (codes "5")) (number 1)
unfolding folded
other_kinds = refl

no_zero : folded (unary 9 Minus (number 0)) ≡ unary 9 Minus (number 0)
unfolding folded
no_zero = refl

types : folded (unary 9 Typeof (lit 1 null)) ≡ lit 9 (text (codes "object"))
unfolding folded
types = refl

negated : folded (unary 9 Not (binary 8 Less (number 1) (number 2))) ≡ lit 9 (truth false)
unfolding folded
negated = refl

void_stays : folded (unary 9 Void (number 1)) ≡ unary 9 Void (number 1)
unfolding folded
void_stays = refl

in_stays : folded (binary 9 Has (number 1) (number 2)) ≡ binary 9 Has (number 1) (number 2)
unfolding folded
in_stays = refl

-- ---- choices

right_of_and : folded (and 9 yes local) ≡ local
unfolding folded
right_of_and = refl

left_of_and : folded (and 9 (number 0) local) ≡ number 0
unfolding folded
left_of_and = refl

left_of_or : folded (or 9 yes local) ≡ yes
unfolding folded
left_of_or = refl

right_of_or : folded (or 9 (lit 1 undefined) method) ≡ method
unfolding folded
right_of_or = refl

chosen : folded (cond 9 (unary 8 Not yes) method local) ≡ local
unfolding folded
chosen = refl

-- ---- prices

price_of_sum : folded (binary 9 Add (tick 4 2 (number 1)) (tick 5 3 (number 1))) ≡ tick 9 5 (lit 9 (whole (pos 2)))
unfolding folded
price_of_sum = refl

price_of_choice : folded (and 9 (tick 4 2 yes) local) ≡ tick 9 2 local
unfolding folded
price_of_choice = refl

price_of_left : folded (or 9 (tick 4 2 yes) local) ≡ tick 4 2 yes
unfolding folded
price_of_left = refl

prices_together : folded (unary 10 Not (and 9 (tick 4 2 yes) (tick 5 3 yes))) ≡ tick 10 5 (lit 10 (truth false))
unfolding folded
prices_together = refl

greatest_price : folded (binary 9 Add (tick 4 18446744073709551614 (number 1)) (tick 5 1 (number 1))) ≡ tick 9 18446744073709551615 (lit 9 (whole (pos 2)))
unfolding folded
greatest_price = refl

past_greatest_price : folded (binary 9 Add (tick 4 18446744073709551615 (number 1)) (tick 5 1 (number 1))) ≡ binary 9 Add (tick 4 18446744073709551615 (number 1)) (tick 5 1 (number 1))
unfolding folded
past_greatest_price = refl

choice_past_greatest_price : folded (and 9 (tick 4 18446744073709551615 yes) (tick 5 1 local)) ≡ and 9 (tick 4 18446744073709551615 yes) (tick 5 1 local)
unfolding folded
choice_past_greatest_price = refl

-- ---- where the old node stays

callee : folded (call 9 (and 8 yes method) no_exprs) ≡ call 9 (and 8 yes method) no_exprs
unfolding folded
callee = refl

marked_callee : folded (call 9 (and 8 (tick 4 2 yes) method) no_exprs) ≡ call 9 (and 8 (tick 4 2 yes) method) no_exprs
unfolding folded
marked_callee = refl

plain_callee : folded (call 9 (and 8 yes local) no_exprs) ≡ call 9 local no_exprs
unfolding folded
plain_callee = refl

built_callee : folded (call 9 (and 8 yes (var 2 (Global 0))) no_exprs) ≡ call 9 (and 8 yes (var 2 (Global 0))) no_exprs
unfolding folded
built_callee = refl

deleted : folded (unary 9 Delete (and 8 yes local)) ≡ unary 9 Delete (and 8 yes local)
unfolding folded
deleted = refl

assigned_function : folded (assign 9 None (to_var 2 (Frame 0 0)) (and 8 yes (fun 6 4))) ≡ assign 9 None (to_var 2 (Frame 0 0)) (and 8 yes (fun 6 4))
unfolding folded
assigned_function = refl

target : folded (assign 9 None (to_member 7 (and 8 yes local) 5) (and 10 yes local)) ≡ assign 9 None (to_member 7 (and 8 yes local) 5) local
unfolding folded
target = refl

-- ---- a scope

scope : fold_scope built (record { params = 1; names = 2; own = true; body = more_stmts (return 9 (Some (unary 8 Not yes))) no_stmts; parent = Some 3; doc = 4 })
    ≡ record { params = 1; names = 2; own = true; body = more_stmts (return 9 (Some (lit 8 (truth false)))) no_stmts; parent = Some 3; doc = 4 }
unfolding fold_scope
scope = refl

-- A tree has at most four expressions, statements and declarators for each token that it is derived from.
use Rattle.std.specs.Prelude.{◌≡◌, ℕ, zero, suc, pos, ◌+◌, ◌*◌, ◌≤◌, List, [], ◌∷◌, ◌++◌, Bool, true, false, cond, length, Option, Some, None}
use Rattle.std.specs.Option.{option_map}
use Rattle.std.proofs.Common.{refl, arith, ap}
use Rattle.cc_ast.specs.declared.operator.UnOp.{UnOp}
use Rattle.cc_ast.specs.declared.operator.UnOp.TheVariants as u
use Rattle.cc_ast.specs.declared.place.Place.{Place}
use Rattle.cc_ast.specs.Syntax.{whole}
use Rattle.cc_grammar.specs.Symbols.{Lexeme, Symbols, look}
use Rattle.cc_grammar.specs.RawTree.{RawExpr, RawTarget, RawStmt, RawField, RawDeclarator, RawCase, RawInit, RawCatch, RawFinally, MaybeExpr, Named, exprs, fields, declarators, cases, stmts}
use Rattle.cc_grammar.specs.RawTree as raw
use Rattle.cc_grammar.specs.Signs.{Prefix, Infix, target_of, is_variable, prefix_tree, unary_tree, infix_tree, parenthesised}
use Rattle.cc_grammar.specs.Signs as sign
use Rattle.cc_grammar.specs.Grammar as g
use Rattle.cc_grammar.specs.Grammar.{Context, E, Elements, Field, Fields, Arguments, MoreArguments, Function, Declarator, Declarators, Init, Optional, Cases, Catch, Finally, T, Body}
use Rattle.cc_grammar.specs.Laws.{IsSmall}
use Rattle.cc_grammar.specs.Sizes.{of_expr, of_target, of_exprs, of_maybe, of_fields, of_declarators, of_init, of_stmts, of_catch, of_finally, of_cases}
use Rattle.cc_grammar.proofs.Shrinks.{reals, at_less, ends_less, variable_less, own_less, params_less}

-- ---- trees of parts

target_small : (e : RawExpr) (t : RawTarget) → target_of e ≡ Some t → of_target t ≤ of_expr e
target_small (raw.var p n) t q = let same : raw.to_var p n ≡ t = cc in omega (arith, ap of_target same)
target_small (raw.member p e r n) t q = let same : raw.to_member p e r n ≡ t = cc in omega (arith, ap of_target same)
target_small (raw.index p e f) t q = let same : raw.to_index p e f ≡ t = cc in omega (arith, ap of_target same)
target_small (raw.cast p e) t q = omega (arith, target_small e t q)
target_small _ t q = absurd (cc)

unary_small : (o : UnOp) (p : Place) (e : RawExpr) → of_expr (unary_tree o p e) ≤ of_expr e + 1
unary_small u.Minus p (raw.lit q (whole (pos (suc n)))) = omega arith
unary_small u.Void p (raw.lit q (whole (pos zero))) = omega arith
unary_small o p e = omega arith

by_unary : (o : UnOp) (p : Place) (e f : RawExpr) → Some (unary_tree o p e) ≡ Some f → of_expr f ≤ of_expr e + 1
by_unary o p e f q = let same : unary_tree o p e ≡ f = cc in omega (arith, ap of_expr same, unary_small o p e)

by_target : (up : Bool) (p : Place) (t : Option RawTarget) (e f : RawExpr) → target_of e ≡ t → option_map (λ w. raw.step p up true w) t ≡ Some f → of_expr f ≤ of_expr e + 1
by_target up p (Some t) e f q r = let same : raw.step p up true t ≡ f = cc in omega (arith, ap of_expr same, target_small e t q)
by_target up p None e f q r = absurd (cc)

unless_variable : (b : Bool) (p : Place) (e f : RawExpr) → cond b None (Some (raw.unary p u.Delete e)) ≡ Some f → of_expr f ≤ of_expr e + 1
unless_variable true p e f q = absurd (cc)
unless_variable false p e f q = let same : raw.unary p u.Delete e ≡ f = cc in omega (arith, ap of_expr same)

prefix_small : (o : Prefix) (p : Place) (e f : RawExpr) → prefix_tree o p e ≡ Some f → of_expr f ≤ of_expr e + 1
prefix_small (sign.step up) p e f q = by_target up p (target_of e) e f refl q
prefix_small (sign.unary u.Delete) p e f q = unless_variable (is_variable e) p e f q
prefix_small (sign.unary u.Minus) p e f q = by_unary u.Minus p e f q
prefix_small (sign.unary u.Plus) p e f q = by_unary u.Plus p e f q
prefix_small (sign.unary u.BitNot) p e f q = by_unary u.BitNot p e f q
prefix_small (sign.unary u.Not) p e f q = by_unary u.Not p e f q
prefix_small (sign.unary u.Void) p e f q = by_unary u.Void p e f q
prefix_small (sign.unary u.Typeof) p e f q = by_unary u.Typeof p e f q

infix_small : (o : Infix) (p : Place) (e f : RawExpr) → of_expr (infix_tree o p e f) ≡ of_expr e + of_expr f + 1
infix_small sign.logical_or p e f = refl
infix_small sign.logical_and p e f = refl
infix_small (sign.operator o) p e f = refl

cast_small : (b : Bool) (p : Place) (e : RawExpr) → of_expr (cond b (raw.cast p e) e) ≤ of_expr e + 1
cast_small true p e = omega arith
cast_small false p e = omega arith

paren_small : (t : Lexeme) (e : RawExpr) → of_expr (parenthesised t e) ≤ of_expr e + 1
paren_small t e = cast_small t.noted t.place e

append_small : (a b : List RawStmt) → of_stmts (stmts (a ++ b)) ≡ of_stmts (stmts a) + of_stmts (stmts b)
append_small [] b = omega arith
append_small (s ∷ a) b = omega (arith, append_small a b)

-- ---- derivations

mutual
  pub e_small : {h l : ℕ} {n : Bool} {xs ys : Symbols} {e : RawExpr} → E h n l xs e ys → of_expr e + 3 + 4 * reals ys ≤ 4 * reals xs
  e_small (g.this c) = omega (arith, at_less c)
  e_small (g.name c) = omega (arith, variable_less c)
  e_small (g.literal c f) = omega (arith, at_less c)
  e_small (g.operand c) = omega (arith, at_less c)
  e_small (g.paren {e} {xs} lt o x c) = omega (arith, at_less o, e_small x, at_less c, paren_small (look xs) e)
  e_small (g.array lt o x) = omega (arith, at_less o, elements_small x)
  e_small (g.object lt o x) = omega (arith, at_less o, fields_small x)
  e_small (g.function lt o x c) = omega (arith, at_less o, own_less x, function_small c)
  e_small (g.dotted c m lt x o p q) = omega (arith, e_small x, at_less o, at_less p)
  e_small (g.bracketed c m lt lu x o y p) = omega (arith, e_small x, at_less o, e_small y, at_less p)
  e_small (g.call m lt lu x o y) = omega (arith, e_small x, at_less o, arguments_small y)
  e_small (g.new_call m lt lu o x p y) = omega (arith, at_less o, e_small x, at_less p, arguments_small y)
  e_small (g.new m i lt o x) = omega (arith, at_less o, e_small x)
  e_small (g.postfix {e} {t} m lt x q s o p) = omega (arith, e_small x, at_less o, target_small e t q)
  e_small (g.prefix {o} {e} {f} {xs} m lt c p x t) = omega (arith, at_less c, e_small x, prefix_small o (g.at xs) e f t)
  e_small (g.wrong_prefix m lt o p x t c) = omega (arith, at_less o, e_small x, at_less c)
  e_small (g.binary {o} {e} {f} {ys} m lt lu x c p y) = omega (arith, e_small x, at_less c, e_small y, infix_small o (g.at ys) e f)
  e_small (g.conditional m lt lu lv x o y p z) = omega (arith, e_small x, at_less o, e_small y, at_less p, e_small z)
  e_small (g.assign {e} {t} m lt lu x q o p y) = omega (arith, e_small x, at_less o, e_small y, target_small e t q)
  e_small (g.comma lt lu x o y) = omega (arith, e_small x, at_less o, e_small y)

  pub elements_small : {h : ℕ} {xs ys : Symbols} {es : List RawExpr} → Elements h xs es ys → of_exprs (exprs es) + 4 * reals ys ≤ 4 * reals xs
  elements_small (g.no_element c) = omega (arith, at_less c)
  elements_small (g.last_element x c) = omega (arith, e_small x, at_less c)
  elements_small (g.more_elements x c m) = omega (arith, e_small x, at_less c, elements_small m)
  elements_small (g.any_element c p) = omega (arith, at_less c, at_less p)

  pub field_small : {h : ℕ} {xs ys : Symbols} {f : RawField} → Field h xs f ys → of_expr f.value + 4 * reals ys ≤ 4 * reals xs
  field_small (g.field c e p x) = omega (arith, at_less c, at_less p, e_small x)

  pub fields_small : {h : ℕ} {xs ys : Symbols} {fs : List RawField} → Fields h xs fs ys → of_fields (fields fs) + 4 * reals ys ≤ 4 * reals xs
  fields_small (g.no_field c) = omega (arith, at_less c)
  fields_small (g.last_field x c) = omega (arith, field_small x, at_less c)
  fields_small (g.more_fields x c m) = omega (arith, field_small x, at_less c, fields_small m)

  pub arguments_small : {h : ℕ} {xs ys : Symbols} {es : List RawExpr} → Arguments h xs es ys → of_exprs (exprs es) + 4 * reals ys ≤ 4 * reals xs
  arguments_small (g.no_argument c) = omega (arith, at_less c)
  arguments_small (g.some_arguments m) = more_small m

  pub more_small : {h : ℕ} {xs ys : Symbols} {es : List RawExpr} → MoreArguments h xs es ys → of_exprs (exprs es) + 4 * reals ys ≤ 4 * reals xs
  more_small (g.last_argument x c) = omega (arith, e_small x, at_less c)
  more_small (g.more_arguments x c m) = omega (arith, e_small x, at_less c, more_small m)

  pub function_small : {h : ℕ} {xs ys : Symbols} {ps : List Named} {b : List RawStmt} → Function h xs ps b ys → of_stmts (stmts b) + 4 * reals ys ≤ 4 * reals xs
  function_small (g.function_body o p q x r) = omega (arith, at_less o, params_less p, at_less q, body_small x, at_less r)

  pub declarator_small : {h : ℕ} {n : Bool} {xs ys : Symbols} {v : RawDeclarator} → Declarator h n xs v ys → of_maybe v.value + 1 + 4 * reals ys ≤ 4 * reals xs
  declarator_small (g.unset v) = omega (arith, variable_less v)
  declarator_small (g.set v c x) = omega (arith, variable_less v, at_less c, e_small x)

  pub declarators_small : {h : ℕ} {n : Bool} {xs ys : Symbols} {vs : List RawDeclarator} → Declarators h n xs vs ys → of_declarators (declarators vs) + 4 * reals ys ≤ 4 * reals xs
  declarators_small (g.last_declarator x) = omega (arith, declarator_small x)
  declarators_small (g.more_declarators x c m) = omega (arith, declarator_small x, at_less c, declarators_small m)

  pub init_small : {h : ℕ} {xs ys : Symbols} {i : RawInit} → Init h xs i ys → of_init i + 4 * reals ys ≤ 4 * reals xs
  init_small g.no_init = omega arith
  init_small (g.init_value x) = omega (arith, e_small x)
  init_small (g.init_vars c x) = omega (arith, at_less c, declarators_small x)

  pub optional_small : {h : ℕ} {xs ys : Symbols} {e : MaybeExpr} → Optional h xs e ys → of_maybe e + 4 * reals ys ≤ 4 * reals xs
  optional_small g.absent = omega arith
  optional_small (g.present x) = omega (arith, e_small x)

  pub cases_small : {c : Context} {h : ℕ} {s : Bool} {xs ys : Symbols} {cs : List RawCase} → Cases c h s xs cs ys → of_cases (cases cs) + 4 * reals ys ≤ 4 * reals xs
  cases_small (g.no_case o) = omega (arith, at_less o)
  cases_small (g.case o x p b m) = omega (arith, at_less o, e_small x, at_less p, body_small b, cases_small m)
  cases_small (g.default o p b m) = omega (arith, at_less o, at_less p, body_small b, cases_small m)

  pub catch_small : {c : Context} {h : ℕ} {xs ys : Symbols} {f : RawCatch} → Catch c h xs f ys → of_catch f + 4 * reals ys ≤ 4 * reals xs
  catch_small (g.caught o p v q b x) = omega (arith, at_less o, at_less p, variable_less v, at_less q, t_small x)

  pub finally_small : {c : Context} {h : ℕ} {xs ys : Symbols} {f : RawFinally} → Finally c h xs f ys → of_finally f + 4 * reals ys ≤ 4 * reals xs
  finally_small (g.finally o b x) = omega (arith, at_less o, t_small x)

  pub t_small : {c : Context} {h : ℕ} {xs ys : Symbols} {b : List RawStmt} → T c h xs b ys → of_stmts (stmts b) + 4 * reals ys ≤ 4 * reals xs
  t_small (g.block lt o x p) = omega (arith, at_less o, body_small x, at_less p)
  t_small (g.vars o x e) = omega (arith, at_less o, declarators_small x, ends_less e)
  t_small (g.empty o) = omega (arith, at_less o)
  t_small (g.simple b x e) = omega (arith, e_small x, ends_less e)
  t_small (g.if_else lt lu lv o p x q y r z) = omega (arith, at_less o, at_less p, e_small x, at_less q, t_small y, at_less r, t_small z)
  t_small (g.if_only lt lu o p x q y r) = omega (arith, at_less o, at_less p, e_small x, at_less q, t_small y)
  t_small (g.do_while lt lu o x p q y r e) = omega (arith, at_less o, t_small x, at_less p, at_less q, e_small y, at_less r, ends_less e)
  t_small (g.while lt lu o p x q y) = omega (arith, at_less o, at_less p, e_small x, at_less q, t_small y)
  t_small (g.for lt lu o p i q x r y s z) = omega (arith, at_less o, at_less p, init_small i, at_less q, optional_small x, at_less r, optional_small y, at_less s, t_small z)
  t_small (g.for_in {e} {t} lt lu o p x f q y r z) = omega (arith, at_less o, at_less p, e_small x, target_small e t f, at_less q, e_small y, at_less r, t_small z)
  t_small (g.for_in_var lt lu o p q x r y s z) = omega (arith, at_less o, at_less p, at_less q, declarator_small x, at_less r, e_small y, at_less s, t_small z)
  t_small (g.continue a o e) = omega (arith, at_less o, ends_less e)
  t_small (g.continue_to a o s p i e) = omega (arith, at_less o, at_less p, ends_less e)
  t_small (g.break a o e) = omega (arith, at_less o, ends_less e)
  t_small (g.break_to o s p i e) = omega (arith, at_less o, at_less p, ends_less e)
  t_small (g.return a o e) = omega (arith, at_less o, ends_less e)
  t_small (g.return_value a o s x e) = omega (arith, at_less o, e_small x, ends_less e)
  t_small (g.switch lt lu o p x q r y) = omega (arith, at_less o, at_less p, e_small x, at_less q, at_less r, cases_small y)
  t_small (g.label lt o p i x) = omega (arith, at_less o, at_less p, t_small x)
  t_small (g.half_label o p q) = omega (arith, at_less o, at_less q)
  t_small (g.throw o s x e) = omega (arith, at_less o, e_small x, ends_less e)
  t_small (g.try_catch lt lu o b x y n) = omega (arith, at_less o, t_small x, catch_small y)
  t_small (g.try_finally lt lu o b x y) = omega (arith, at_less o, t_small x, finally_small y)
  t_small (g.try_both lt lu lv o b x y z) = omega (arith, at_less o, t_small x, catch_small y, finally_small z)
  t_small (g.declare a lt o v x) = omega (arith, at_less o, variable_less v, function_small x)
  t_small (g.any_statement o) = omega (arith, at_less o)

  pub body_small : {c : Context} {h : ℕ} {xs ys : Symbols} {b : List RawStmt} → Body c h xs b ys → of_stmts (stmts b) + 4 * reals ys ≤ 4 * reals xs
  body_small g.done = omega arith
  body_small (g.next {a} {b} x m) = omega (arith, t_small x, body_small m, append_small a b)

pub small : IsSmall
small h ts b r = omega (arith, body_small r.derives.body, ap length r.tokens)

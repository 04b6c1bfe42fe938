-- Whatever is derived takes a token.
use Rattle.std.specs.Prelude.{◌≡◌, ℕ, ◌+◌, ◌<◌, ◌≤◌, List, [], ◌∷◌, Bool, true, false, length}
use Rattle.std.proofs.Common.{arith}
use Rattle.cc_grammar.specs.Symbols.{Kind, Symbols, lexemes_of}
use Rattle.cc_grammar.specs.RawTree.{RawExpr, RawStmt, RawField, RawDeclarator, RawCase, RawInit, RawCatch, RawFinally, MaybeExpr, Named}
use Rattle.cc_grammar.specs.Grammar as g
use Rattle.cc_grammar.specs.Grammar.{Context, At, Ends, Variable, OwnName, Params, MoreParams, E, Elements, Field, Fields, Arguments, MoreArguments, Function, Declarator, Declarators, Init, Optional, Cases, Catch, Finally, T, Body}

-- the tokens of a list, without its insertions
abbrev pub reals : Symbols → ℕ
reals xs = length (lexemes_of xs)

pub at_less : {x : Kind} {xs ys : Symbols} → At x xs ys → reals ys < reals xs
at_less (g.at_token t e) = omega arith

pub ends_less : {xs ys : Symbols} → Ends xs ys → reals ys ≤ reals xs
ends_less (g.written c) = omega (arith, at_less c)
ends_less g.added = omega arith

pub variable_less : {n : List ℕ} {xs ys : Symbols} → Variable xs n ys → reals ys < reals xs
variable_less (g.variable c e) = at_less c
variable_less (g.any_variable c) = at_less c

pub own_less : {o : Rattle.std.specs.Prelude.Option Named} {xs ys : Symbols} → OwnName xs o ys → reals ys ≤ reals xs
own_less g.no_name = omega arith
own_less (g.own_name v) = omega (arith, variable_less v)

pub more_params_less : {ps : List Named} {xs ys : Symbols} → MoreParams xs ps ys → reals ys < reals xs
more_params_less (g.last_param v c) = omega (arith, variable_less v, at_less c)
more_params_less (g.more_params v c m) = omega (arith, variable_less v, at_less c, more_params_less m)

pub params_less : {ps : List Named} {xs ys : Symbols} → Params xs ps ys → reals ys < reals xs
params_less (g.no_params c) = at_less c
params_less (g.some_params m) = more_params_less m

mutual
  pub e_less : {h l : ℕ} {n : Bool} {xs ys : Symbols} {e : RawExpr} → E h n l xs e ys → reals ys < reals xs
  e_less (g.this c) = at_less c
  e_less (g.name c) = variable_less c
  e_less (g.literal c f) = at_less c
  e_less (g.operand c) = at_less c
  e_less (g.paren lt o x c) = omega (arith, at_less o, e_less x, at_less c)
  e_less (g.array lt o x) = omega (arith, at_less o, elements_less x)
  e_less (g.object lt o x) = omega (arith, at_less o, fields_less x)
  e_less (g.function lt o x c) = omega (arith, at_less o, own_less x, function_less c)
  e_less (g.dotted c m lt x o p q) = omega (arith, e_less x, at_less o, at_less p)
  e_less (g.bracketed c m lt lu x o y p) = omega (arith, e_less x, at_less o, e_less y, at_less p)
  e_less (g.call m lt lu x o y) = omega (arith, e_less x, at_less o, arguments_less y)
  e_less (g.new_call m lt lu o x p y) = omega (arith, at_less o, e_less x, at_less p, arguments_less y)
  e_less (g.new m i lt o x) = omega (arith, at_less o, e_less x)
  e_less (g.postfix m lt x t s o p) = omega (arith, e_less x, at_less o)
  e_less (g.prefix m lt o p x t) = omega (arith, at_less o, e_less x)
  e_less (g.wrong_prefix m lt o p x t c) = omega (arith, at_less o, e_less x, at_less c)
  e_less (g.binary m lt lu x o p y) = omega (arith, e_less x, at_less o, e_less y)
  e_less (g.conditional m lt lu lv x o y p z) = omega (arith, e_less x, at_less o, e_less y, at_less p, e_less z)
  e_less (g.assign m lt lu x t o p y) = omega (arith, e_less x, at_less o, e_less y)
  e_less (g.comma lt lu x o y) = omega (arith, e_less x, at_less o, e_less y)

  pub elements_less : {h : ℕ} {xs ys : Symbols} {es : List RawExpr} → Elements h xs es ys → reals ys < reals xs
  elements_less (g.no_element c) = at_less c
  elements_less (g.last_element x c) = omega (arith, e_less x, at_less c)
  elements_less (g.more_elements x c m) = omega (arith, e_less x, at_less c, elements_less m)
  elements_less (g.any_element c p) = omega (arith, at_less c, at_less p)

  pub field_less : {h : ℕ} {xs ys : Symbols} {f : RawField} → Field h xs f ys → reals ys < reals xs
  field_less (g.field c e p x) = omega (arith, at_less c, at_less p, e_less x)

  pub fields_less : {h : ℕ} {xs ys : Symbols} {fs : List RawField} → Fields h xs fs ys → reals ys < reals xs
  fields_less (g.no_field c) = at_less c
  fields_less (g.last_field x c) = omega (arith, field_less x, at_less c)
  fields_less (g.more_fields x c m) = omega (arith, field_less x, at_less c, fields_less m)

  pub arguments_less : {h : ℕ} {xs ys : Symbols} {es : List RawExpr} → Arguments h xs es ys → reals ys < reals xs
  arguments_less (g.no_argument c) = at_less c
  arguments_less (g.some_arguments m) = more_less m

  pub more_less : {h : ℕ} {xs ys : Symbols} {es : List RawExpr} → MoreArguments h xs es ys → reals ys < reals xs
  more_less (g.last_argument x c) = omega (arith, e_less x, at_less c)
  more_less (g.more_arguments x c m) = omega (arith, e_less x, at_less c, more_less m)

  pub function_less : {h : ℕ} {xs ys : Symbols} {ps : List Named} {b : List RawStmt} → Function h xs ps b ys → reals ys < reals xs
  function_less (g.function_body o p q x r) = omega (arith, at_less o, params_less p, at_less q, body_less x, at_less r)

  pub declarator_less : {h : ℕ} {n : Bool} {xs ys : Symbols} {v : RawDeclarator} → Declarator h n xs v ys → reals ys < reals xs
  declarator_less (g.unset v) = variable_less v
  declarator_less (g.set v c x) = omega (arith, variable_less v, at_less c, e_less x)

  pub declarators_less : {h : ℕ} {n : Bool} {xs ys : Symbols} {vs : List RawDeclarator} → Declarators h n xs vs ys → reals ys < reals xs
  declarators_less (g.last_declarator x) = declarator_less x
  declarators_less (g.more_declarators x c m) = omega (arith, declarator_less x, at_less c, declarators_less m)

  pub init_less : {h : ℕ} {xs ys : Symbols} {i : RawInit} → Init h xs i ys → reals ys ≤ reals xs
  init_less g.no_init = omega arith
  init_less (g.init_value x) = omega (arith, e_less x)
  init_less (g.init_vars c x) = omega (arith, at_less c, declarators_less x)

  pub optional_less : {h : ℕ} {xs ys : Symbols} {e : MaybeExpr} → Optional h xs e ys → reals ys ≤ reals xs
  optional_less g.absent = omega arith
  optional_less (g.present x) = omega (arith, e_less x)

  pub cases_less : {c : Context} {h : ℕ} {s : Bool} {xs ys : Symbols} {cs : List RawCase} → Cases c h s xs cs ys → reals ys < reals xs
  cases_less (g.no_case o) = at_less o
  cases_less (g.case o x p b m) = omega (arith, at_less o, e_less x, at_less p, body_less b, cases_less m)
  cases_less (g.default o p b m) = omega (arith, at_less o, at_less p, body_less b, cases_less m)

  pub catch_less : {c : Context} {h : ℕ} {xs ys : Symbols} {f : RawCatch} → Catch c h xs f ys → reals ys < reals xs
  catch_less (g.caught o p v q b x) = omega (arith, at_less o, at_less p, variable_less v, at_less q, t_less x)

  pub finally_less : {c : Context} {h : ℕ} {xs ys : Symbols} {f : RawFinally} → Finally c h xs f ys → reals ys < reals xs
  finally_less (g.finally o b x) = omega (arith, at_less o, t_less x)

  pub t_less : {c : Context} {h : ℕ} {xs ys : Symbols} {b : List RawStmt} → T c h xs b ys → reals ys < reals xs
  t_less (g.block lt o x p) = omega (arith, at_less o, body_less x, at_less p)
  t_less (g.vars o x e) = omega (arith, at_less o, declarators_less x, ends_less e)
  t_less (g.empty o) = at_less o
  t_less (g.simple b x e) = omega (arith, e_less x, ends_less e)
  t_less (g.if_else lt lu lv o p x q y r z) = omega (arith, at_less o, at_less p, e_less x, at_less q, t_less y, at_less r, t_less z)
  t_less (g.if_only lt lu o p x q y r) = omega (arith, at_less o, at_less p, e_less x, at_less q, t_less y)
  t_less (g.do_while lt lu o x p q y r e) = omega (arith, at_less o, t_less x, at_less p, at_less q, e_less y, at_less r, ends_less e)
  t_less (g.while lt lu o p x q y) = omega (arith, at_less o, at_less p, e_less x, at_less q, t_less y)
  t_less (g.for lt lu o p i q x r y s z) = omega (arith, at_less o, at_less p, init_less i, at_less q, optional_less x, at_less r, optional_less y, at_less s, t_less z)
  t_less (g.for_in lt lu o p x t q y r z) = omega (arith, at_less o, at_less p, e_less x, at_less q, e_less y, at_less r, t_less z)
  t_less (g.for_in_var lt lu o p q x r y s z) = omega (arith, at_less o, at_less p, at_less q, declarator_less x, at_less r, e_less y, at_less s, t_less z)
  t_less (g.continue a o e) = omega (arith, at_less o, ends_less e)
  t_less (g.continue_to a o s p i e) = omega (arith, at_less o, at_less p, ends_less e)
  t_less (g.break a o e) = omega (arith, at_less o, ends_less e)
  t_less (g.break_to o s p i e) = omega (arith, at_less o, at_less p, ends_less e)
  t_less (g.return a o e) = omega (arith, at_less o, ends_less e)
  t_less (g.return_value a o s x e) = omega (arith, at_less o, e_less x, ends_less e)
  t_less (g.switch lt lu o p x q r y) = omega (arith, at_less o, at_less p, e_less x, at_less q, at_less r, cases_less y)
  t_less (g.label lt o p i x) = omega (arith, at_less o, at_less p, t_less x)
  t_less (g.half_label o p q) = omega (arith, at_less o, at_less q)
  t_less (g.throw o s x e) = omega (arith, at_less o, e_less x, ends_less e)
  t_less (g.try_catch lt lu o b x y n) = omega (arith, at_less o, t_less x, catch_less y)
  t_less (g.try_finally lt lu o b x y) = omega (arith, at_less o, t_less x, finally_less y)
  t_less (g.try_both lt lu lv o b x y z) = omega (arith, at_less o, t_less x, catch_less y, finally_less z)
  t_less (g.declare a lt o v x) = omega (arith, at_less o, variable_less v, function_less x)
  t_less (g.any_statement o) = at_less o

  pub body_less : {c : Context} {h : ℕ} {xs ys : Symbols} {b : List RawStmt} → Body c h xs b ys → reals ys ≤ reals xs
  body_less g.done = omega arith
  body_less (g.next x m) = omega (arith, t_less x, body_less m)

-- Trees without casts: a cast is read where an annotation comment stands before parentheses, and no written text has one.
use Rattle.std.specs.Prelude.{◌≡◌, ℕ, zero, suc, pos, List, [], ◌∷◌, ◌++◌, Bool, true, false, cond, Option, Some, None}
use Rattle.std.specs.Option.{option_map}
use Rattle.std.proofs.Common.{refl, sym, ◌∙◌, subst}
use Rattle.cc_ast.specs.declared.operator.UnOp.{UnOp}
use Rattle.cc_ast.specs.declared.operator.UnOp.TheVariants as u
use Rattle.cc_ast.specs.declared.place.Place.{Place}
use Rattle.cc_ast.specs.Syntax.{whole}
use Rattle.cc_meaning.specs.Alike.{In, here, there}
use Rattle.cc_grammar.specs.Symbols.{Kind, Lexeme, Symbols, real, look}
use Rattle.cc_grammar.specs.RawTree.{Named, RawExpr, RawTarget, RawExprs, MaybeExpr, RawFields, RawDeclarators, RawInit, RawForTarget, RawStmt, RawStmts, RawCatch, RawFinally, RawCases, RawField, RawDeclarator, RawCase, exprs, fields, declarators, cases, stmts}
use Rattle.cc_grammar.specs.RawTree as raw
use Rattle.cc_grammar.specs.Signs.{Prefix, Infix, target_of, is_variable, unary_tree, prefix_tree, infix_tree}
use Rattle.cc_grammar.specs.Signs as sign
use Rattle.cc_grammar.specs.Grammar as g
use Rattle.cc_grammar.specs.Grammar.{At, Variable, Context, E, Elements, Field, Fields, Arguments, MoreArguments, Function, Declarator, Declarators, Init, Optional, Cases, Catch, Finally, T, Body}
use Rattle.cc_grammar.proofs.Moves.{Front, Moved, MovedTo}
use Rattle.cc_grammar.proofs.MovesDerived.{own_moves, params_move, e_moves, field_moves, declarator_moves, init_moves, optional_moves, catch_moves, t_moves, body_moves}

abbrev mutual
  pub Plain : RawExpr → Type 0
  Plain (raw.lit p v) = Unit {0}
  Plain (raw.var p n) = Unit {0}
  Plain (raw.this p) = Unit {0}
  Plain (raw.fun p o ps b) = PlainStmts b
  Plain (raw.list p es) = PlainExprs es
  Plain (raw.object p fs) = PlainFields fs
  Plain (raw.unary p o e) = Plain e
  Plain (raw.binary p o e f) = Plain e × Plain f
  Plain (raw.and p e f) = Plain e × Plain f
  Plain (raw.or p e f) = Plain e × Plain f
  Plain (raw.cond p e f g) = Plain e × Plain f × Plain g
  Plain (raw.assign p o t e) = PlainTarget t × Plain e
  Plain (raw.step p u x t) = PlainTarget t
  Plain (raw.member p e q n) = Plain e
  Plain (raw.index p e f) = Plain e × Plain f
  Plain (raw.call p e es) = Plain e × PlainExprs es
  Plain (raw.new p e es) = Plain e × PlainExprs es
  Plain (raw.comma p e f) = Plain e × Plain f
  Plain (raw.cast p e) = ⊥

  pub PlainTarget : RawTarget → Type 0
  PlainTarget (raw.to_var p n) = Unit {0}
  PlainTarget (raw.to_member p e q n) = Plain e
  PlainTarget (raw.to_index p e f) = Plain e × Plain f

  pub PlainExprs : RawExprs → Type 0
  PlainExprs raw.no_exprs = Unit {0}
  PlainExprs (raw.more_exprs e es) = Plain e × PlainExprs es

  pub PlainMaybe : MaybeExpr → Type 0
  PlainMaybe raw.no_expr = Unit {0}
  PlainMaybe (raw.one_expr e) = Plain e

  pub PlainFields : RawFields → Type 0
  PlainFields raw.no_fields = Unit {0}
  PlainFields (raw.more_fields p k e fs) = Plain e × PlainFields fs

  pub PlainVars : RawDeclarators → Type 0
  PlainVars raw.no_declarators = Unit {0}
  PlainVars (raw.more_declarators v e ds) = PlainMaybe e × PlainVars ds

  pub PlainInit : RawInit → Type 0
  PlainInit raw.no_init = Unit {0}
  PlainInit (raw.init_value e) = Plain e
  PlainInit (raw.init_vars ds) = PlainVars ds

  pub PlainHeading : RawForTarget → Type 0
  PlainHeading (raw.in_target t) = PlainTarget t
  PlainHeading (raw.in_declared v e) = PlainMaybe e

  pub PlainStmt : RawStmt → Type 0
  PlainStmt (raw.simple p e) = Plain e
  PlainStmt (raw.vars p ds) = PlainVars ds
  PlainStmt (raw.fun_decl p v ps b) = PlainStmts b
  PlainStmt (raw.if p e a b) = Plain e × PlainStmts a × PlainStmts b
  PlainStmt (raw.while p e b) = Plain e × PlainStmts b
  PlainStmt (raw.do_while p b e) = PlainStmts b × Plain e
  PlainStmt (raw.for p i t s b) = PlainInit i × PlainMaybe t × PlainMaybe s × PlainStmts b
  PlainStmt (raw.for_in p t e b) = PlainHeading t × Plain e × PlainStmts b
  PlainStmt (raw.return p e) = PlainMaybe e
  PlainStmt (raw.throw p e) = Plain e
  PlainStmt (raw.break p l) = Unit {0}
  PlainStmt (raw.continue p l) = Unit {0}
  PlainStmt (raw.label p n b) = PlainStmts b
  PlainStmt (raw.switch p e cs) = Plain e × PlainCases cs
  PlainStmt (raw.try p b c f) = PlainStmts b × PlainCatch c × PlainFinally f

  pub PlainStmts : RawStmts → Type 0
  PlainStmts raw.no_stmts = Unit {0}
  PlainStmts (raw.more_stmts s ss) = PlainStmt s × PlainStmts ss

  pub PlainCatch : RawCatch → Type 0
  PlainCatch raw.no_catch = Unit {0}
  PlainCatch (raw.caught v b) = PlainStmts b

  pub PlainFinally : RawFinally → Type 0
  PlainFinally raw.no_finally = Unit {0}
  PlainFinally (raw.finally b) = PlainStmts b

  pub PlainCases : RawCases → Type 0
  PlainCases raw.no_cases = Unit {0}
  PlainCases (raw.more_cases e b cs) = PlainMaybe e × PlainStmts b × PlainCases cs

-- ---- symbols without annotations

abbrev pub Quiet : Symbols → Type 0
Quiet xs = (t : Lexeme) → In (real t) xs → t.noted ≡ false

in_right : {A : Type 0} (xs ys : List A) {x : A} → In x ys → In x (xs ++ ys)
in_right [] ys i = i
in_right (x ∷ xs) ys i = there (in_right xs ys i)

past : {x : Kind} {xs ys : Symbols} → At x xs ys → Quiet xs → Quiet ys
past (g.at_token t e) G = λ u i. G u (there i)

unnoted : {x : Kind} {xs ys : Symbols} → At x xs ys → Quiet xs → (look xs).noted ≡ false
unnoted (g.at_token t e) G = G t here

past_variable : {n : List ℕ} {xs ys : Symbols} → Variable xs n ys → Quiet xs → Quiet ys
past_variable (g.variable c e) G = past c G
past_variable (g.any_variable c) G = past c G

past_front : {xs ys : Symbols} → Front xs ys → Quiet xs → Quiet ys
past_front {ys} f G = λ u i. G u (subst (λ zs. In (real u) zs) (sym (f.prefix ys) ∙ f.is) (in_right f.before ys i))

skip : {P : Symbols → Symbols → Type 0} {xs ys : Symbols} → Moved P xs ys → Quiet xs → Quiet ys
skip w G = past_front w.front G

skip_to : {P : Symbols → Symbols → Type 0} {xs ys : Symbols} → MovedTo P xs ys → Quiet xs → Quiet ys
skip_to w G = past_front w.front G

-- ---- what is derived from them

no_cast : (c : Bool) (p : Place) (e : RawExpr) → c ≡ false → Plain e → Plain (cond c (raw.cast p e) e)
no_cast true p e q f = cc
no_cast false p e q f = f

target_plain : (e : RawExpr) (t : RawTarget) → target_of e ≡ Some t → Plain e → PlainTarget t
target_plain (raw.var p n) t q f = let same : raw.to_var p n ≡ t = cc in subst PlainTarget same tt
target_plain (raw.member p e r n) t q f = let same : raw.to_member p e r n ≡ t = cc in subst PlainTarget same f
target_plain (raw.index p e i) t q f = let same : raw.to_index p e i ≡ t = cc in subst PlainTarget same f
target_plain (raw.cast p e) t q f = absurd f
target_plain _ t q f = absurd (cc)

unary_plain : (o : UnOp) (p : Place) (e : RawExpr) → Plain e → Plain (unary_tree o p e)
unary_plain u.Minus p (raw.lit q (whole (pos (suc n)))) f = tt
unary_plain u.Void p (raw.lit q (whole (pos zero))) f = tt
unary_plain o p e f = f

by_unary : (o : UnOp) (p : Place) (e x : RawExpr) → Plain e → Some (unary_tree o p e) ≡ Some x → Plain x
by_unary o p e x f q = let same : unary_tree o p e ≡ x = cc in subst Plain same (unary_plain o p e f)

by_target : (up : Bool) (p : Place) (e x : RawExpr) (o : Option RawTarget) → target_of e ≡ o → Plain e → option_map (λ t. raw.step p up true t) o ≡ Some x → Plain x
by_target up p e x (Some t) h f q = let same : raw.step p up true t ≡ x = cc in subst Plain same (target_plain e t h f)
by_target up p e x None h f q = absurd (cc)

unless_variable : (c : Bool) (p : Place) (e x : RawExpr) → Plain e → cond c None (Some (raw.unary p u.Delete e)) ≡ Some x → Plain x
unless_variable true p e x f q = absurd (cc)
unless_variable false p e x f q = let same : raw.unary p u.Delete e ≡ x = cc in subst Plain same f

prefix_plain : (o : Prefix) (p : Place) (e x : RawExpr) → Plain e → prefix_tree o p e ≡ Some x → Plain x
prefix_plain (sign.step up) p e x f q = by_target up p e x (target_of e) refl f q
prefix_plain (sign.unary u.Delete) p e x f q = unless_variable (is_variable e) p e x f q
prefix_plain (sign.unary u.Minus) p e x f q = by_unary u.Minus p e x f q
prefix_plain (sign.unary u.Plus) p e x f q = by_unary u.Plus p e x f q
prefix_plain (sign.unary u.BitNot) p e x f q = by_unary u.BitNot p e x f q
prefix_plain (sign.unary u.Not) p e x f q = by_unary u.Not p e x f q
prefix_plain (sign.unary u.Void) p e x f q = by_unary u.Void p e x f q
prefix_plain (sign.unary u.Typeof) p e x f q = by_unary u.Typeof p e x f q

infix_plain : (o : Infix) (p : Place) (e x : RawExpr) → Plain e → Plain x → Plain (infix_tree o p e x)
infix_plain sign.logical_or p e x f h = (f, h)
infix_plain sign.logical_and p e x f h = (f, h)
infix_plain (sign.operator o) p e x f h = (f, h)

append_plain : (a b : List RawStmt) → PlainStmts (stmts a) → PlainStmts (stmts b) → PlainStmts (stmts (a ++ b))
append_plain [] b f h = h
append_plain (s ∷ a) b f h = (f.0, append_plain a b f.1 h)

mutual
  e_plain : {h l : ℕ} {n : Bool} {xs ys : Symbols} {e : RawExpr} → Quiet xs → E h n l xs e ys → Plain e
  e_plain G (g.this c) = tt
  e_plain G (g.name c) = tt
  e_plain G (g.literal c f) = tt
  e_plain G (g.operand c) = tt
  e_plain G (g.paren {e} {xs} lt o x c) = no_cast (look xs).noted (look xs).place e (unnoted o G) (e_plain (past o G) x)
  e_plain G (g.array lt o x) = elements_plain (past o G) x
  e_plain G (g.object lt o x) = fields_plain (past o G) x
  e_plain G (g.function lt o x c) = function_plain (skip (own_moves x) (past o G)) c
  e_plain G (g.dotted c m lt x o p q) = e_plain G x
  e_plain G (g.bracketed c m lt lu x o y p) = (e_plain G x, e_plain (past o (skip (e_moves x) G)) y)
  e_plain G (g.call m lt lu x o y) = (e_plain G x, arguments_plain (past o (skip (e_moves x) G)) y)
  e_plain G (g.new_call m lt lu o x p y) = (e_plain (past o G) x, arguments_plain (past p (skip (e_moves x) (past o G))) y)
  e_plain G (g.new m i lt o x) = (e_plain (past o G) x, tt)
  e_plain G (g.postfix {e} {t} m lt x q s o p) = target_plain e t q (e_plain G x)
  e_plain G (g.prefix {o} {e} {f} {xs} m lt c p x t) = prefix_plain o (g.at xs) e f (e_plain (past c G) x) t
  e_plain G (g.wrong_prefix m lt o p x t c) = tt
  e_plain G (g.binary {o} {e} {f} {ys} m lt lu x c p y) = infix_plain o (g.at ys) e f (e_plain G x) (e_plain (past c (skip (e_moves x) G)) y)
  e_plain G (g.conditional m lt lu lv x o y p z) =
      let a = past o (skip (e_moves x) G) in
      (e_plain G x, e_plain a y, e_plain (past p (skip (e_moves y) a)) z)
  e_plain G (g.assign {e} {t} m lt lu x q c p y) = (target_plain e t q (e_plain G x), e_plain (past c (skip (e_moves x) G)) y)
  e_plain G (g.comma lt lu x o y) = (e_plain G x, e_plain (past o (skip (e_moves x) G)) y)

  elements_plain : {h : ℕ} {xs ys : Symbols} {es : List RawExpr} → Quiet xs → Elements h xs es ys → PlainExprs (exprs es)
  elements_plain G (g.no_element c) = tt
  elements_plain G (g.last_element x c) = (e_plain G x, tt)
  elements_plain G (g.more_elements x c m) = (e_plain G x, elements_plain (past c (skip (e_moves x) G)) m)
  elements_plain G (g.any_element c p) = tt

  fields_plain : {h : ℕ} {xs ys : Symbols} {fs : List RawField} → Quiet xs → Fields h xs fs ys → PlainFields (fields fs)
  fields_plain G (g.no_field c) = tt
  fields_plain G (g.last_field x c) = (field_plain G x, tt)
  fields_plain G (g.more_fields x c m) = (field_plain G x, fields_plain (past c (skip (field_moves x) G)) m)

  field_plain : {h : ℕ} {xs ys : Symbols} {f : RawField} → Quiet xs → Field h xs f ys → Plain f.value
  field_plain G (g.field c e p x) = e_plain (past p (past c G)) x

  arguments_plain : {h : ℕ} {xs ys : Symbols} {es : List RawExpr} → Quiet xs → Arguments h xs es ys → PlainExprs (exprs es)
  arguments_plain G (g.no_argument c) = tt
  arguments_plain G (g.some_arguments m) = more_plain G m

  more_plain : {h : ℕ} {xs ys : Symbols} {es : List RawExpr} → Quiet xs → MoreArguments h xs es ys → PlainExprs (exprs es)
  more_plain G (g.last_argument x c) = (e_plain G x, tt)
  more_plain G (g.more_arguments x c m) = (e_plain G x, more_plain (past c (skip (e_moves x) G)) m)

  function_plain : {h : ℕ} {xs ys : Symbols} {ps : List Named} {b : List RawStmt} → Quiet xs → Function h xs ps b ys → PlainStmts (stmts b)
  function_plain G (g.function_body o p q x r) = body_plain (past q (skip (params_move p) (past o G))) x

  declarator_plain : {h : ℕ} {n : Bool} {xs ys : Symbols} {v : RawDeclarator} → Quiet xs → Declarator h n xs v ys → PlainMaybe v.value
  declarator_plain G (g.unset v) = tt
  declarator_plain G (g.set v c x) = e_plain (past c (past_variable v G)) x

  declarators_plain : {h : ℕ} {n : Bool} {xs ys : Symbols} {vs : List RawDeclarator} → Quiet xs → Declarators h n xs vs ys → PlainVars (declarators vs)
  declarators_plain G (g.last_declarator x) = (declarator_plain G x, tt)
  declarators_plain G (g.more_declarators x c m) = (declarator_plain G x, declarators_plain (past c (skip (declarator_moves x) G)) m)

  init_plain : {h : ℕ} {xs ys : Symbols} {i : RawInit} → Quiet xs → Init h xs i ys → PlainInit i
  init_plain G g.no_init = tt
  init_plain G (g.init_value x) = e_plain G x
  init_plain G (g.init_vars c x) = declarators_plain (past c G) x

  optional_plain : {h : ℕ} {xs ys : Symbols} {e : MaybeExpr} → Quiet xs → Optional h xs e ys → PlainMaybe e
  optional_plain G g.absent = tt
  optional_plain G (g.present x) = e_plain G x

  cases_plain : {c : Context} {h : ℕ} {s : Bool} {xs ys : Symbols} {cs : List RawCase} → Quiet xs → Cases c h s xs cs ys → PlainCases (cases cs)
  cases_plain G (g.no_case o) = tt
  cases_plain G (g.case o x p b m) =
      let a = past p (skip (e_moves x) (past o G)) in
      (e_plain (past o G) x, body_plain a b, cases_plain (skip_to (body_moves b) a) m)
  cases_plain G (g.default o p b m) =
      let a = past p (past o G) in
      (tt, body_plain a b, cases_plain (skip_to (body_moves b) a) m)

  catch_plain : {c : Context} {h : ℕ} {xs ys : Symbols} {k : RawCatch} → Quiet xs → Catch c h xs k ys → PlainCatch k
  catch_plain G (g.caught o p v q b x) = t_plain (past q (past_variable v (past p (past o G)))) x

  finally_plain : {c : Context} {h : ℕ} {xs ys : Symbols} {k : RawFinally} → Quiet xs → Finally c h xs k ys → PlainFinally k
  finally_plain G (g.finally o b x) = t_plain (past o G) x

  t_plain : {c : Context} {h : ℕ} {xs ys : Symbols} {b : List RawStmt} → Quiet xs → T c h xs b ys → PlainStmts (stmts b)
  t_plain G (g.block lt o x p) = body_plain (past o G) x
  t_plain G (g.vars o x e) = (declarators_plain (past o G) x, tt)
  t_plain G (g.empty o) = tt
  t_plain G (g.simple b x e) = (e_plain G x, tt)
  t_plain G (g.if_else lt lu lv o p x q y r z) =
      let a = past p (past o G) in let d = past q (skip (e_moves x) a) in
      ((e_plain a x, t_plain d y, t_plain (past r (skip_to (t_moves y) d)) z), tt)
  t_plain G (g.if_only lt lu o p x q y r) =
      let a = past p (past o G) in
      ((e_plain a x, t_plain (past q (skip (e_moves x) a)) y, tt), tt)
  t_plain G (g.do_while lt lu o x p q y r e) =
      let a = past o G in
      ((t_plain a x, e_plain (past q (past p (skip_to (t_moves x) a))) y), tt)
  t_plain G (g.while lt lu o p x q y) =
      let a = past p (past o G) in
      ((e_plain a x, t_plain (past q (skip (e_moves x) a)) y), tt)
  t_plain G (g.for lt lu o p i q x r y s z) =
      let a = past p (past o G) in let b = past q (skip (init_moves i) a) in let d = past r (skip (optional_moves x) b) in
      ((init_plain a i, optional_plain b x, optional_plain d y, t_plain (past s (skip (optional_moves y) d)) z), tt)
  t_plain G (g.for_in {e} {t} lt lu o p x k q y r z) =
      let a = past p (past o G) in let b = past q (skip (e_moves x) a) in
      ((target_plain e t k (e_plain a x), e_plain b y, t_plain (past r (skip (e_moves y) b)) z), tt)
  t_plain G (g.for_in_var lt lu o p q x r y s z) =
      let a = past q (past p (past o G)) in let b = past r (skip (declarator_moves x) a) in
      ((declarator_plain a x, e_plain b y, t_plain (past s (skip (e_moves y) b)) z), tt)
  t_plain G (g.continue a o e) = (tt, tt)
  t_plain G (g.continue_to a o s p i e) = (tt, tt)
  t_plain G (g.break a o e) = (tt, tt)
  t_plain G (g.break_to o s p i e) = (tt, tt)
  t_plain G (g.return a o e) = (tt, tt)
  t_plain G (g.return_value a o s x e) = (e_plain (past o G) x, tt)
  t_plain G (g.switch lt lu o p x q r y) =
      let a = past p (past o G) in
      ((e_plain a x, cases_plain (past r (past q (skip (e_moves x) a))) y), tt)
  t_plain G (g.label lt o p i x) = (t_plain (past p (past o G)) x, tt)
  t_plain G (g.half_label o p q) = tt
  t_plain G (g.throw o s x e) = (e_plain (past o G) x, tt)
  t_plain G (g.try_catch lt lu o b x y n) =
      let a = past o G in
      ((t_plain a x, catch_plain (skip_to (t_moves x) a) y, tt), tt)
  t_plain G (g.try_finally lt lu o b x y) =
      let a = past o G in
      ((t_plain a x, tt, finally_plain (skip_to (t_moves x) a) y), tt)
  t_plain G (g.try_both lt lu lv o b x y z) =
      let a = past o G in let d = skip_to (t_moves x) a in
      ((t_plain a x, catch_plain d y, finally_plain (skip_to (catch_moves y) d) z), tt)
  t_plain G (g.declare a lt o v x) = (function_plain (past_variable v (past o G)) x, tt)
  t_plain G (g.any_statement o) = tt

  pub body_plain : {c : Context} {h : ℕ} {xs ys : Symbols} {b : List RawStmt} → Quiet xs → Body c h xs b ys → PlainStmts (stmts b)
  body_plain G g.done = tt
  body_plain G (g.next {a} {b} x m) = append_plain a b (t_plain G x) (body_plain (skip_to (t_moves x) G) m)

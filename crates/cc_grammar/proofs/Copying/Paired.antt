-- In what is derived a token stands behind each insertion, and nothing stands behind the end.
use Rattle.std.specs.Prelude.{◌≡◌, ℕ, List, [], ◌∷◌, Bool, true, false, ◌⊎◌, Option, Some}
use Rattle.std.proofs.Common.{refl, ap, ◌∙◌, inl, inr}
use Rattle.cc_ast.specs.declared.operator.BinOp.{BinOp}
use Rattle.cc_ast.specs.Syntax.{Prim}
use Rattle.cc_lexer.specs.declared.token.Mark.TheVariants as mark
use Rattle.cc_lexer.specs.declared.word.Word.TheVariants as word
use Rattle.cc_grammar.specs.Symbols.{Kind, Symbols, real, inserted}
use Rattle.cc_grammar.specs.Symbols as k
use Rattle.cc_grammar.specs.RawTree.{RawExpr, RawStmt, RawKey, RawField, RawDeclarator, RawCase, RawInit, RawCatch, RawFinally, MaybeExpr, Named}
use Rattle.cc_grammar.specs.Signs.{Prefix, Infix, literal_of, key_of, property_of, prefix_of, step_of, infix_of, assign_of}
use Rattle.cc_grammar.specs.Laws.{is_last}
use Rattle.cc_grammar.specs.Grammar as g
use Rattle.cc_grammar.specs.Grammar.{Context, At, Ends, Variable, OwnName, Params, MoreParams, E, Elements, Field, Fields, Arguments, MoreArguments, Function, Declarator, Declarators, Init, Optional, Cases, Catch, Finally, T, Body}

-- It may stand behind the end of a statement. A colon, a comma, a slash, and a word that begins a refused construct may not.
abbrev pub is_fresh : Kind → Bool
is_fresh (k.mark mark.Colon) = false
is_fresh (k.mark mark.Comma) = false
is_fresh (k.mark mark.Slash) = false
is_fresh (k.mark mark.SlashEqual) = false
is_fresh (k.word word.With) = false
is_fresh (k.word word.Debugger) = false
is_fresh (k.word word.Class) = false
is_fresh (k.word word.Const) = false
is_fresh (k.word word.Enum) = false
is_fresh (k.word word.Export) = false
is_fresh (k.word word.Extends) = false
is_fresh (k.word word.Import) = false
is_fresh (k.word word.Super) = false
is_fresh (k.stop c) = false
is_fresh _ = true

-- the list begins with a token that may stand behind the end of a statement
abbrev pub Begun : Symbols → Type 0
Begun [] = ⊥
Begun (real t ∷ xs) = is_fresh t.kind ≡ true
Begun (inserted ∷ xs) = ⊥

abbrev pub Paired : Symbols → Type 0
Paired [] = Unit {0}
Paired (real t ∷ xs) = ((is_last t.kind ≡ false) ⊎ (xs ≡ [])) × Paired xs
Paired (inserted ∷ xs) = Begun xs × Paired xs

pub record Ready (xs : Symbols) : Type 0 where
  pub begun : Begun xs
  pub paired : Paired xs

-- ---- what tables tell of tokens

literal_last : (x : Kind) (p : Prim) → literal_of x ≡ Some p → is_last x ≡ false
literal_last k.end p e = cc
literal_last (k.stop c) p e = cc
literal_last _ p e = refl

literal_fresh : (x : Kind) (p : Prim) → literal_of x ≡ Some p → is_fresh x ≡ true
literal_fresh (k.word word.Null) p e = refl
literal_fresh (k.word word.True) p e = refl
literal_fresh (k.word word.False) p e = refl
literal_fresh (k.number n) p e = refl
literal_fresh (k.text u) p e = refl
literal_fresh _ p e = absurd (cc)

prefix_last : (x : Kind) (o : Prefix) → prefix_of x ≡ Some o → is_last x ≡ false
prefix_last k.end o e = cc
prefix_last (k.stop c) o e = cc
prefix_last _ o e = refl

prefix_fresh : (x : Kind) (o : Prefix) → prefix_of x ≡ Some o → is_fresh x ≡ true
prefix_fresh (k.mark mark.PlusPlus) o e = refl
prefix_fresh (k.mark mark.MinusMinus) o e = refl
prefix_fresh (k.mark mark.Plus) o e = refl
prefix_fresh (k.mark mark.Minus) o e = refl
prefix_fresh (k.mark mark.Tilde) o e = refl
prefix_fresh (k.mark mark.Bang) o e = refl
prefix_fresh (k.word word.Delete) o e = refl
prefix_fresh (k.word word.Void) o e = refl
prefix_fresh (k.word word.Typeof) o e = refl
prefix_fresh _ o e = absurd (cc)

key_last : (x : Kind) (y : RawKey) → key_of x ≡ Some y → is_last x ≡ false
key_last k.end y e = cc
key_last (k.stop c) y e = cc
key_last _ y e = refl

property_last : (x : Kind) (v : List ℕ) → property_of x ≡ Some v → is_last x ≡ false
property_last k.end v e = cc
property_last (k.stop c) v e = cc
property_last _ v e = refl

step_last : (x : Kind) (b : Bool) → step_of x ≡ Some b → is_last x ≡ false
step_last k.end b e = cc
step_last (k.stop c) b e = cc
step_last _ b e = refl

infix_last : (n : Bool) (x : Kind) (o : Infix) → infix_of n x ≡ Some o → is_last x ≡ false
infix_last true k.end o e = cc
infix_last false k.end o e = cc
infix_last true (k.stop c) o e = cc
infix_last false (k.stop c) o e = cc
infix_last n _ o e = refl

assign_last : (x : Kind) (o : Option BinOp) → assign_of x ≡ Some o → is_last x ≡ false
assign_last k.end o e = cc
assign_last (k.stop c) o e = cc
assign_last _ o e = refl

-- ---- derivations

pub at_paired : {x : Kind} {xs ys : Symbols} → At x xs ys → is_last x ≡ false → Paired ys → Paired xs
at_paired (g.at_token t e) l p = (inl (ap is_last e ∙ l), p)

pub at_ready : {x : Kind} {xs ys : Symbols} → At x xs ys → is_fresh x ≡ true → is_last x ≡ false → Paired ys → Ready xs
at_ready (g.at_token t e) f l p = record { begun = ap is_fresh e ∙ f; paired = (inl (ap is_last e ∙ l), p) }

-- the end
pub end_ready : {xs : Symbols} → At k.end xs [] → Ready xs
end_ready (g.at_token t e) = record { begun = ap is_fresh e; paired = (inr refl, tt) }

ends_paired : {xs ys : Symbols} → Ends xs ys → Ready ys → Paired xs
ends_paired (g.written c) h = at_paired c refl h.paired
ends_paired g.added h = (h.begun, h.paired)

variable_ready : {n : List ℕ} {xs ys : Symbols} → Variable xs n ys → Paired ys → Ready xs
variable_ready (g.variable c e) p = at_ready c refl refl p
variable_ready (g.any_variable c) p = at_ready c refl refl p

variable_paired : {n : List ℕ} {xs ys : Symbols} → Variable xs n ys → Paired ys → Paired xs
variable_paired v p = (variable_ready v p).paired

own_paired : {o : Option Named} {xs ys : Symbols} → OwnName xs o ys → Paired ys → Paired xs
own_paired g.no_name h = h
own_paired (g.own_name v) h = variable_paired v h

more_params_paired : {ps : List Named} {xs ys : Symbols} → MoreParams xs ps ys → Paired ys → Paired xs
more_params_paired (g.last_param v c) p = variable_paired v (at_paired c refl p)
more_params_paired (g.more_params v c m) p = variable_paired v (at_paired c refl (more_params_paired m p))

params_paired : {ps : List Named} {xs ys : Symbols} → Params xs ps ys → Paired ys → Paired xs
params_paired (g.no_params c) p = at_paired c refl p
params_paired (g.some_params m) p = more_params_paired m p

mutual
  pub e_ready : {h l : ℕ} {n : Bool} {xs ys : Symbols} {e : RawExpr} → E h n l xs e ys → Paired ys → Ready xs
  e_ready (g.this c) p = at_ready c refl refl p
  e_ready (g.name c) p = variable_ready c p
  e_ready (g.literal {x} {p = v} c f) p = at_ready c (literal_fresh x v f) (literal_last x v f) p
  e_ready (g.operand c) p = at_ready c refl refl p
  e_ready (g.paren lt o x c) p = at_ready o refl refl ((e_ready x (at_paired c refl p)).paired)
  e_ready (g.array lt o x) p = at_ready o refl refl (elements_paired x p)
  e_ready (g.object lt o x) p = at_ready o refl refl (fields_paired x p)
  e_ready (g.function lt o x c) p = at_ready o refl refl (own_paired x (function_paired c p))
  e_ready (g.dotted {x = y} {v} c m lt x o d q) p = e_ready x (at_paired o refl (at_paired d (property_last y v q) p))
  e_ready (g.bracketed c m lt lu x o y d) p = e_ready x (at_paired o refl ((e_ready y (at_paired d refl p)).paired))
  e_ready (g.call m lt lu x o y) p = e_ready x (at_paired o refl (arguments_paired y p))
  e_ready (g.new_call m lt lu o x d y) p = at_ready o refl refl ((e_ready x (at_paired d refl (arguments_paired y p))).paired)
  e_ready (g.new m i lt o x) p = at_ready o refl refl ((e_ready x p).paired)
  e_ready (g.postfix {up} {x = y} m lt x t s o d) p = e_ready x (at_paired o (step_last y up d) p)
  e_ready (g.prefix {x = y} {o = w} m lt o d x t) p = at_ready o (prefix_fresh y w d) (prefix_last y w d) ((e_ready x p).paired)
  e_ready (g.wrong_prefix {x = y} {o = w} m lt o d x t c) p = at_ready o (prefix_fresh y w d) (prefix_last y w d) ((e_ready x (at_paired c refl p)).paired)
  e_ready (g.binary {n} {x = y} {o = w} m lt lu x o d z) p = e_ready x (at_paired o (infix_last n y w d) ((e_ready z p).paired))
  e_ready (g.conditional m lt lu lv x o y d z) p = e_ready x (at_paired o refl ((e_ready y (at_paired d refl ((e_ready z p).paired))).paired))
  e_ready (g.assign {x = y} {o = w} m lt lu x t o d z) p = e_ready x (at_paired o (assign_last y w d) ((e_ready z p).paired))
  e_ready (g.comma lt lu x o y) p = e_ready x (at_paired o refl ((e_ready y p).paired))

  elements_paired : {h : ℕ} {xs ys : Symbols} {es : List RawExpr} → Elements h xs es ys → Paired ys → Paired xs
  elements_paired (g.no_element c) p = at_paired c refl p
  elements_paired (g.last_element x c) p = (e_ready x (at_paired c refl p)).paired
  elements_paired (g.more_elements x c m) p = (e_ready x (at_paired c refl (elements_paired m p))).paired
  elements_paired (g.any_element c d) p = at_paired c refl (at_paired d refl p)

  field_paired : {h : ℕ} {xs ys : Symbols} {f : RawField} → Field h xs f ys → Paired ys → Paired xs
  field_paired (g.field {x = y} {y = w} c e d x) p = at_paired c (key_last y w e) (at_paired d refl ((e_ready x p).paired))

  fields_paired : {h : ℕ} {xs ys : Symbols} {fs : List RawField} → Fields h xs fs ys → Paired ys → Paired xs
  fields_paired (g.no_field c) p = at_paired c refl p
  fields_paired (g.last_field x c) p = field_paired x (at_paired c refl p)
  fields_paired (g.more_fields x c m) p = field_paired x (at_paired c refl (fields_paired m p))

  arguments_paired : {h : ℕ} {xs ys : Symbols} {es : List RawExpr} → Arguments h xs es ys → Paired ys → Paired xs
  arguments_paired (g.no_argument c) p = at_paired c refl p
  arguments_paired (g.some_arguments m) p = more_paired m p

  more_paired : {h : ℕ} {xs ys : Symbols} {es : List RawExpr} → MoreArguments h xs es ys → Paired ys → Paired xs
  more_paired (g.last_argument x c) p = (e_ready x (at_paired c refl p)).paired
  more_paired (g.more_arguments x c m) p = (e_ready x (at_paired c refl (more_paired m p))).paired

  function_paired : {h : ℕ} {xs ys : Symbols} {ps : List Named} {b : List RawStmt} → Function h xs ps b ys → Paired ys → Paired xs
  function_paired (g.function_body o d q x r) p = at_paired o refl (params_paired d (at_paired q refl (body_ready x (at_ready r refl refl p)).paired))

  declarator_paired : {h : ℕ} {n : Bool} {xs ys : Symbols} {v : RawDeclarator} → Declarator h n xs v ys → Paired ys → Paired xs
  declarator_paired (g.unset v) p = variable_paired v p
  declarator_paired (g.set v c x) p = variable_paired v (at_paired c refl ((e_ready x p).paired))

  declarators_paired : {h : ℕ} {n : Bool} {xs ys : Symbols} {vs : List RawDeclarator} → Declarators h n xs vs ys → Paired ys → Paired xs
  declarators_paired (g.last_declarator x) p = declarator_paired x p
  declarators_paired (g.more_declarators x c m) p = declarator_paired x (at_paired c refl (declarators_paired m p))

  init_paired : {h : ℕ} {xs ys : Symbols} {i : RawInit} → Init h xs i ys → Paired ys → Paired xs
  init_paired g.no_init p = p
  init_paired (g.init_value x) p = (e_ready x p).paired
  init_paired (g.init_vars c x) p = at_paired c refl (declarators_paired x p)

  optional_paired : {h : ℕ} {xs ys : Symbols} {e : MaybeExpr} → Optional h xs e ys → Paired ys → Paired xs
  optional_paired g.absent p = p
  optional_paired (g.present x) p = (e_ready x p).paired

  cases_ready : {c : Context} {h : ℕ} {s : Bool} {xs ys : Symbols} {cs : List RawCase} → Cases c h s xs cs ys → Paired ys → Ready xs
  cases_ready (g.no_case o) p = at_ready o refl refl p
  cases_ready (g.«case» o x d b m) p = at_ready o refl refl ((e_ready x (at_paired d refl (body_ready b (cases_ready m p)).paired)).paired)
  cases_ready (g.default o d b m) p = at_ready o refl refl (at_paired d refl (body_ready b (cases_ready m p)).paired)

  catch_ready : {c : Context} {h : ℕ} {xs ys : Symbols} {f : RawCatch} → Catch c h xs f ys → Ready ys → Ready xs
  catch_ready (g.caught o d v q b x) r = at_ready o refl refl (at_paired d refl (variable_paired v (at_paired q refl (t_ready x r).paired)))

  finally_ready : {c : Context} {h : ℕ} {xs ys : Symbols} {f : RawFinally} → Finally c h xs f ys → Ready ys → Ready xs
  finally_ready (g.finally o b x) r = at_ready o refl refl (t_ready x r).paired

  pub t_ready : {c : Context} {h : ℕ} {xs ys : Symbols} {b : List RawStmt} → T c h xs b ys → Ready ys → Ready xs
  t_ready (g.block lt o x d) r = at_ready o refl refl (body_ready x (at_ready d refl refl r.paired)).paired
  t_ready (g.vars o x e) r = at_ready o refl refl (declarators_paired x (ends_paired e r))
  t_ready (g.empty o) r = at_ready o refl refl r.paired
  t_ready (g.simple b x e) r = e_ready x (ends_paired e r)
  t_ready (g.if_else lt lu lv o d x q y s z) r = at_ready o refl refl (at_paired d refl ((e_ready x (at_paired q refl (t_ready y (at_ready s refl refl (t_ready z r).paired)).paired)).paired))
  t_ready (g.if_only lt lu o d x q y s) r = at_ready o refl refl (at_paired d refl ((e_ready x (at_paired q refl (t_ready y r).paired)).paired))
  t_ready (g.do_while lt lu o x d q y s e) r = at_ready o refl refl (t_ready x (at_ready d refl refl (at_paired q refl ((e_ready y (at_paired s refl (ends_paired e r))).paired)))).paired
  t_ready (g.while lt lu o d x q y) r = at_ready o refl refl (at_paired d refl ((e_ready x (at_paired q refl (t_ready y r).paired)).paired))
  t_ready (g.for lt lu o d i q x s y u z) r = at_ready o refl refl (at_paired d refl (init_paired i (at_paired q refl (optional_paired x (at_paired s refl (optional_paired y (at_paired u refl (t_ready z r).paired)))))))
  t_ready (g.for_in lt lu o d x t q y s z) r = at_ready o refl refl (at_paired d refl ((e_ready x (at_paired q refl ((e_ready y (at_paired s refl (t_ready z r).paired)).paired))).paired))
  t_ready (g.for_in_var lt lu o d q x s y u z) r = at_ready o refl refl (at_paired d refl (at_paired q refl (declarator_paired x (at_paired s refl ((e_ready y (at_paired u refl (t_ready z r).paired)).paired)))))
  t_ready (g.continue a o e) r = at_ready o refl refl (ends_paired e r)
  t_ready (g.continue_to a o s d i e) r = at_ready o refl refl (at_paired d refl (ends_paired e r))
  t_ready (g.break a o e) r = at_ready o refl refl (ends_paired e r)
  t_ready (g.break_to o s d i e) r = at_ready o refl refl (at_paired d refl (ends_paired e r))
  t_ready (g.return a o e) r = at_ready o refl refl (ends_paired e r)
  t_ready (g.return_value a o s x e) r = at_ready o refl refl ((e_ready x (ends_paired e r)).paired)
  t_ready (g.switch lt lu o d x q s y) r = at_ready o refl refl (at_paired d refl ((e_ready x (at_paired q refl (at_paired s refl (cases_ready y r.paired).paired))).paired))
  t_ready (g.label lt o d i x) r = at_ready o refl refl (at_paired d refl (t_ready x r).paired)
  t_ready (g.half_label o d q) r = at_ready o refl refl (at_paired q refl r.paired)
  t_ready (g.throw o s x e) r = at_ready o refl refl ((e_ready x (ends_paired e r)).paired)
  t_ready (g.try_catch lt lu o b x y n) r = at_ready o refl refl (t_ready x (catch_ready y r)).paired
  t_ready (g.try_finally lt lu o b x y) r = at_ready o refl refl (t_ready x (finally_ready y r)).paired
  t_ready (g.try_both lt lu lv o b x y z) r = at_ready o refl refl (t_ready x (catch_ready y (finally_ready z r))).paired
  t_ready (g.declare a lt o v x) r = at_ready o refl refl (variable_paired v (function_paired x r.paired))
  t_ready (g.any_statement o) r = at_ready o refl refl r.paired

  pub body_ready : {c : Context} {h : ℕ} {xs ys : Symbols} {b : List RawStmt} → Body c h xs b ys → Ready ys → Ready xs
  body_ready g.done r = r
  body_ready (g.next x m) r = t_ready x (body_ready m r)

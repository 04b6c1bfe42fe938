-- What is within a height is within a greater one, and of a level is of a lesser one.
use Rattle.std.specs.Prelude.{◌≡◌, ℕ, zero, suc, pos, ◌≤◌, List, Bool, true, false, cond, Option, Some, None}
use Rattle.std.specs.Option.{option_map}
use Rattle.std.proofs.Common.{refl, arith, ap, sym, ◌∙◌}
use Rattle.cc_ast.specs.declared.operator.BinOp.TheVariants as b
use Rattle.cc_ast.specs.declared.operator.UnOp.{UnOp}
use Rattle.cc_ast.specs.declared.operator.UnOp.TheVariants as u
use Rattle.cc_ast.specs.declared.place.Place.{Place}
use Rattle.cc_ast.specs.Syntax.{Prim, whole}
use Rattle.cc_grammar.specs.Symbols.{Symbols}
use Rattle.cc_grammar.specs.RawTree.{RawExpr, RawTarget, RawStmt, RawField, RawDeclarator, RawCase, RawInit, RawCatch, RawFinally, MaybeExpr, Named}
use Rattle.cc_grammar.specs.RawTree as raw
use Rattle.cc_grammar.specs.Signs.{Prefix, Infix, target_of, is_variable, prefix_tree, unary_tree, infix_tree, parenthesised}
use Rattle.cc_grammar.specs.Signs as sign
use Rattle.cc_grammar.specs.Grammar as g
use Rattle.cc_grammar.specs.Grammar.{Context, E, Elements, Field, Fields, Arguments, MoreArguments, Function, Declarator, Declarators, Init, Optional, Cases, Catch, Finally, T, Body}

pub higher : {h l : ℕ} {n : Bool} {xs ys : Symbols} {e : RawExpr} (d : ℕ) → h ≤ d → E h n l xs e ys → E d n l xs e ys
higher d le (g.this c) = g.this c
higher d le (g.name c) = g.name c
higher d le (g.literal c f) = g.literal c f
higher d le (g.operand c) = g.operand c
higher d le (g.paren lt o x c) = g.paren (omega arith) o x c
higher d le (g.array lt o x) = g.array (omega arith) o x
higher d le (g.object lt o x) = g.object (omega arith) o x
higher d le (g.function lt o x c) = g.function (omega arith) o x c
higher d le (g.dotted c m lt x o p q) = g.dotted c m (omega arith) x o p q
higher d le (g.bracketed c m lt lu x o y p) = g.bracketed c m (omega arith) (omega arith) x o y p
higher d le (g.call m lt lu x o y) = g.call m (omega arith) (omega arith) x o y
higher d le (g.new_call m lt lu o x p y) = g.new_call m (omega arith) (omega arith) o x p y
higher d le (g.new m i lt o x) = g.new m i (omega arith) o x
higher d le (g.postfix m lt x t s o p) = g.postfix m (omega arith) x t s o p
higher d le (g.prefix m lt o p x t) = g.prefix m (omega arith) o p x t
higher d le (g.wrong_prefix m lt o p x t c) = g.wrong_prefix m (omega arith) o p x t c
higher d le (g.binary m lt lu x o p y) = g.binary m (omega arith) (omega arith) x o p y
higher d le (g.conditional m lt lu lv x o y p z) = g.conditional m (omega arith) (omega arith) (omega arith) x o y p z
higher d le (g.assign m lt lu x t o p y) = g.assign m (omega arith) (omega arith) x t o p y
higher d le (g.comma lt lu x o y) = g.comma (omega arith) (omega arith) x o y

pub higher_elements : {h : ℕ} {xs ys : Symbols} {es : List RawExpr} (d : ℕ) → h ≤ d → Elements h xs es ys → Elements d xs es ys
higher_elements d le (g.no_element c) = g.no_element c
higher_elements d le (g.last_element x c) = g.last_element (higher d le x) c
higher_elements d le (g.more_elements x c m) = g.more_elements (higher d le x) c (higher_elements d le m)
higher_elements d le (g.any_element c p) = g.any_element c p

pub higher_field : {h : ℕ} {xs ys : Symbols} {f : RawField} (d : ℕ) → h ≤ d → Field h xs f ys → Field d xs f ys
higher_field d le (g.field c e p x) = g.field c e p (higher d le x)

pub higher_fields : {h : ℕ} {xs ys : Symbols} {fs : List RawField} (d : ℕ) → h ≤ d → Fields h xs fs ys → Fields d xs fs ys
higher_fields d le (g.no_field c) = g.no_field c
higher_fields d le (g.last_field x c) = g.last_field (higher_field d le x) c
higher_fields d le (g.more_fields x c m) = g.more_fields (higher_field d le x) c (higher_fields d le m)

pub higher_more : {h : ℕ} {xs ys : Symbols} {es : List RawExpr} (d : ℕ) → h ≤ d → MoreArguments h xs es ys → MoreArguments d xs es ys
higher_more d le (g.last_argument x c) = g.last_argument (higher d le x) c
higher_more d le (g.more_arguments x c m) = g.more_arguments (higher d le x) c (higher_more d le m)

pub higher_arguments : {h : ℕ} {xs ys : Symbols} {es : List RawExpr} (d : ℕ) → h ≤ d → Arguments h xs es ys → Arguments d xs es ys
higher_arguments d le (g.no_argument c) = g.no_argument c
higher_arguments d le (g.some_arguments m) = g.some_arguments (higher_more d le m)

pub higher_declarator : {h : ℕ} {n : Bool} {xs ys : Symbols} {v : RawDeclarator} (d : ℕ) → h ≤ d → Declarator h n xs v ys → Declarator d n xs v ys
higher_declarator d le (g.unset v) = g.unset v
higher_declarator d le (g.set v c x) = g.set v c (higher d le x)

pub higher_declarators : {h : ℕ} {n : Bool} {xs ys : Symbols} {vs : List RawDeclarator} (d : ℕ) → h ≤ d → Declarators h n xs vs ys → Declarators d n xs vs ys
higher_declarators d le (g.last_declarator x) = g.last_declarator (higher_declarator d le x)
higher_declarators d le (g.more_declarators x c m) = g.more_declarators (higher_declarator d le x) c (higher_declarators d le m)

pub higher_init : {h : ℕ} {xs ys : Symbols} {i : RawInit} (d : ℕ) → h ≤ d → Init h xs i ys → Init d xs i ys
higher_init d le g.no_init = g.no_init
higher_init d le (g.init_value x) = g.init_value (higher d le x)
higher_init d le (g.init_vars c x) = g.init_vars c (higher_declarators d le x)

pub higher_optional : {h : ℕ} {xs ys : Symbols} {e : MaybeExpr} (d : ℕ) → h ≤ d → Optional h xs e ys → Optional d xs e ys
higher_optional d le g.absent = g.absent
higher_optional d le (g.present x) = g.present (higher d le x)

pub higher_t : {c : Context} {h : ℕ} {xs ys : Symbols} {b : List RawStmt} (d : ℕ) → h ≤ d → T c h xs b ys → T c d xs b ys
higher_t d le (g.block lt o x p) = g.block (omega arith) o x p
higher_t d le (g.vars o x e) = g.vars o (higher_declarators d le x) e
higher_t d le (g.empty o) = g.empty o
higher_t d le (g.simple b x e) = g.simple b (higher d le x) e
higher_t d le (g.if_else lt lu lv o p x q y r z) = g.if_else (omega arith) (omega arith) (omega arith) o p x q y r z
higher_t d le (g.if_only lt lu o p x q y r) = g.if_only (omega arith) (omega arith) o p x q y r
higher_t d le (g.do_while lt lu o x p q y r e) = g.do_while (omega arith) (omega arith) o x p q y r e
higher_t d le (g.while lt lu o p x q y) = g.while (omega arith) (omega arith) o p x q y
higher_t d le (g.for lt lu o p i q x r y s z) = g.for (omega arith) (omega arith) o p i q x r y s z
higher_t d le (g.for_in lt lu o p x t q y r z) = g.for_in (omega arith) (omega arith) o p x t q y r z
higher_t d le (g.for_in_var lt lu o p q x r y s z) = g.for_in_var (omega arith) (omega arith) o p q x r y s z
higher_t d le (g.continue a o e) = g.continue a o e
higher_t d le (g.continue_to a o s p i e) = g.continue_to a o s p i e
higher_t d le (g.break a o e) = g.break a o e
higher_t d le (g.break_to o s p i e) = g.break_to o s p i e
higher_t d le (g.return a o e) = g.return a o e
higher_t d le (g.return_value a o s x e) = g.return_value a o s (higher d le x) e
higher_t d le (g.switch lt lu o p x q r y) = g.switch (omega arith) (omega arith) o p x q r y
higher_t d le (g.label lt o p i x) = g.label (omega arith) o p i x
higher_t d le (g.half_label o p q) = g.half_label o p q
higher_t d le (g.throw o s x e) = g.throw o s (higher d le x) e
higher_t d le (g.try_catch lt lu o b x y n) = g.try_catch (omega arith) (omega arith) o b x y n
higher_t d le (g.try_finally lt lu o b x y) = g.try_finally (omega arith) (omega arith) o b x y
higher_t d le (g.try_both lt lu lv o b x y z) = g.try_both (omega arith) (omega arith) (omega arith) o b x y z
higher_t d le (g.declare a lt o v x) = g.declare a (omega arith) o v x
higher_t d le (g.any_statement o) = g.any_statement o

pub higher_body : {c : Context} {h : ℕ} {xs ys : Symbols} {b : List RawStmt} (d : ℕ) → h ≤ d → Body c h xs b ys → Body c d xs b ys
higher_body d le g.done = g.done
higher_body d le (g.next x m) = g.next (higher_t d le x) (higher_body d le m)

pub higher_function : {h : ℕ} {xs ys : Symbols} {ps : List Named} {b : List RawStmt} (d : ℕ) → h ≤ d → Function h xs ps b ys → Function d xs ps b ys
higher_function d le (g.function_body o p q x r) = g.function_body o p q (higher_body d le x) r

pub higher_cases : {c : Context} {h : ℕ} {s : Bool} {xs ys : Symbols} {cs : List RawCase} (d : ℕ) → h ≤ d → Cases c h s xs cs ys → Cases c d s xs cs ys
higher_cases d le (g.no_case o) = g.no_case o
higher_cases d le (g.case o x p b m) = g.case o (higher d le x) p (higher_body d le b) (higher_cases d le m)
higher_cases d le (g.default o p b m) = g.default o p (higher_body d le b) (higher_cases d le m)

pub higher_catch : {c : Context} {h : ℕ} {xs ys : Symbols} {f : RawCatch} (d : ℕ) → h ≤ d → Catch c h xs f ys → Catch c d xs f ys
higher_catch d le (g.caught o p v q b x) = g.caught o p v q b (higher_t d le x)

pub higher_finally : {c : Context} {h : ℕ} {xs ys : Symbols} {f : RawFinally} (d : ℕ) → h ≤ d → Finally c h xs f ys → Finally c d xs f ys
higher_finally d le (g.finally o b x) = g.finally o b (higher_t d le x)

-- ---- levels

-- the levels of binary operators
pub bounded : (o : Infix) → sign.level o ≤ 12
bounded sign.logical_or = omega arith
bounded sign.logical_and = omega arith
bounded (sign.operator b.Add) = omega arith
bounded (sign.operator b.Sub) = omega arith
bounded (sign.operator b.Mul) = omega arith
bounded (sign.operator b.Div) = omega arith
bounded (sign.operator b.Rem) = omega arith
bounded (sign.operator b.BitAnd) = omega arith
bounded (sign.operator b.BitXor) = omega arith
bounded (sign.operator b.BitOr) = omega arith
bounded (sign.operator b.Shl) = omega arith
bounded (sign.operator b.Shr) = omega arith
bounded (sign.operator b.UShr) = omega arith
bounded (sign.operator b.Less) = omega arith
bounded (sign.operator b.Greater) = omega arith
bounded (sign.operator b.LessEq) = omega arith
bounded (sign.operator b.GreaterEq) = omega arith
bounded (sign.operator b.Equal) = omega arith
bounded (sign.operator b.NotEqual) = omega arith
bounded (sign.operator b.Strict) = omega arith
bounded (sign.operator b.NotStrict) = omega arith
bounded (sign.operator b.Instance) = omega arith
bounded (sign.operator b.Has) = omega arith

pub above : (o : Infix) → 3 ≤ sign.level o
above sign.logical_or = omega arith
above sign.logical_and = omega arith
above (sign.operator b.Add) = omega arith
above (sign.operator b.Sub) = omega arith
above (sign.operator b.Mul) = omega arith
above (sign.operator b.Div) = omega arith
above (sign.operator b.Rem) = omega arith
above (sign.operator b.BitAnd) = omega arith
above (sign.operator b.BitXor) = omega arith
above (sign.operator b.BitOr) = omega arith
above (sign.operator b.Shl) = omega arith
above (sign.operator b.Shr) = omega arith
above (sign.operator b.UShr) = omega arith
above (sign.operator b.Less) = omega arith
above (sign.operator b.Greater) = omega arith
above (sign.operator b.LessEq) = omega arith
above (sign.operator b.GreaterEq) = omega arith
above (sign.operator b.Equal) = omega arith
above (sign.operator b.NotEqual) = omega arith
above (sign.operator b.Strict) = omega arith
above (sign.operator b.NotStrict) = omega arith
above (sign.operator b.Instance) = omega arith
above (sign.operator b.Has) = omega arith

-- all but a `new` without arguments, which is no member expression
pub lower : {h l : ℕ} {n : Bool} {xs ys : Symbols} {e : RawExpr} (m : ℕ) → m ≤ l → ¬ (m ≡ 16) → E h n l xs e ys → E h n m xs e ys
lower m le ne (g.this c) = g.this c
lower m le ne (g.name c) = g.name c
lower m le ne (g.literal c f) = g.literal c f
lower m le ne (g.operand c) = g.operand c
lower m le ne (g.paren lt o x c) = g.paren lt o x c
lower m le ne (g.array lt o x) = g.array lt o x
lower m le ne (g.object lt o x) = g.object lt o x
lower m le ne (g.function lt o x c) = g.function lt o x c
lower m le ne (g.dotted c v lt x o p q) = g.dotted c (omega arith) lt x o p q
lower m le ne (g.bracketed c v lt lu x o y p) = g.bracketed c (omega arith) lt lu x o y p
lower m le ne (g.call v lt lu x o y) = g.call (omega arith) lt lu x o y
lower m le ne (g.new_call v lt lu o x p y) = g.new_call (omega arith) lt lu o x p y
lower m le ne (g.new v i lt o x) = g.new (omega arith) ne lt o x
lower m le ne (g.postfix v lt x t s o p) = g.postfix (omega arith) lt x t s o p
lower m le ne (g.prefix v lt o p x t) = g.prefix (omega arith) lt o p x t
lower m le ne (g.wrong_prefix v lt o p x t c) = g.wrong_prefix (omega arith) lt o p x t c
lower m le ne (g.binary v lt lu x o p y) = g.binary (omega arith) lt lu x o p y
lower m le ne (g.conditional v lt lu lv x o y p z) = g.conditional (omega arith) lt lu lv x o y p z
lower m le ne (g.assign v lt lu x t o p y) = g.assign (omega arith) lt lu x t o p y
lower m le ne (g.comma lt lu x o y) = let z : m ≡ 0 = omega arith in rw z (g.comma lt lu x o y)

-- a member expression goes on with calls
pub chained : {h : ℕ} {n : Bool} {xs ys : Symbols} {e : RawExpr} {l : ℕ} → l ≡ 18 → E h n l xs e ys → E h n 16 xs e ys
chained q (g.this c) = g.this c
chained q (g.name c) = g.name c
chained q (g.literal c f) = g.literal c f
chained q (g.operand c) = g.operand c
chained q (g.paren lt o x c) = g.paren lt o x c
chained q (g.array lt o x) = g.array lt o x
chained q (g.object lt o x) = g.object lt o x
chained q (g.function lt o x c) = g.function lt o x c
chained q (g.dotted c v lt x o p r) = g.dotted c (omega arith) lt x o p r
chained q (g.bracketed c v lt lu x o y p) = g.bracketed c (omega arith) lt lu x o y p
chained q (g.call v lt lu x o y) = absurd (omega arith)
chained q (g.new_call v lt lu o x p y) = g.new_call (omega arith) lt lu o x p y
chained q (g.new v i lt o x) = absurd (omega arith)
chained q (g.postfix v lt x t s o p) = absurd (omega arith)
chained q (g.prefix v lt o p x t) = absurd (omega arith)
chained q (g.wrong_prefix v lt o p x t c) = absurd (omega arith)
chained q (g.binary {o} v lt lu x s p y) = absurd (omega (arith, bounded o))
chained q (g.conditional v lt lu lv x o y p z) = absurd (omega arith)
chained q (g.assign v lt lu x t o p y) = absurd (omega arith)
chained q (g.comma lt lu x o y) = absurd (omega arith)

-- ---- targets

-- what a unary operator makes is no target
unary_no_target : (o : UnOp) (p : Place) (e : RawExpr) → target_of (unary_tree o p e) ≡ None
unary_no_target u.Minus p (raw.lit q (whole (pos (suc n)))) = refl
unary_no_target u.Void p (raw.lit q (whole (pos zero))) = refl
unary_no_target o p e = refl

by_target : (up : Bool) (p : Place) (t : Option RawTarget) (e : RawExpr) → option_map (λ w. raw.step p up true w) t ≡ Some e → target_of e ≡ None
by_target up p (Some t) e q = let same : raw.step p up true t ≡ e = cc in ap target_of (sym same)
by_target up p None e q = cc

unless_variable : (b : Bool) (p : Place) (e f : RawExpr) → cond b None (Some (raw.unary p u.Delete e)) ≡ Some f → target_of f ≡ None
unless_variable true p e f q = cc
unless_variable false p e f q = let same : raw.unary p u.Delete e ≡ f = cc in ap target_of (sym same)

by_unary : (o : UnOp) (p : Place) (e f : RawExpr) → Some (unary_tree o p e) ≡ Some f → target_of f ≡ None
by_unary o p e f q = let same : unary_tree o p e ≡ f = cc in ap target_of (sym same) ∙ unary_no_target o p e

pub prefix_no_target : (o : Prefix) (p : Place) (e f : RawExpr) → prefix_tree o p e ≡ Some f → target_of f ≡ None
prefix_no_target (sign.step up) p e f q = by_target up p (target_of e) f q
prefix_no_target (sign.unary u.Delete) p e f q = unless_variable (is_variable e) p e f q
prefix_no_target (sign.unary u.Minus) p e f q = by_unary u.Minus p e f q
prefix_no_target (sign.unary u.Plus) p e f q = by_unary u.Plus p e f q
prefix_no_target (sign.unary u.BitNot) p e f q = by_unary u.BitNot p e f q
prefix_no_target (sign.unary u.Not) p e f q = by_unary u.Not p e f q
prefix_no_target (sign.unary u.Void) p e f q = by_unary u.Void p e f q
prefix_no_target (sign.unary u.Typeof) p e f q = by_unary u.Typeof p e f q

pub infix_no_target : (o : Infix) (p : Place) (e f : RawExpr) → target_of (infix_tree o p e f) ≡ None
infix_no_target sign.logical_or p e f = refl
infix_no_target sign.logical_and p e f = refl
infix_no_target (sign.operator o) p e f = refl

none_some : {A : Type 0} {o : Option A} (a : A) → o ≡ None → o ≡ Some a → ⊥
none_some a n e = let no : None ≡ Some a = sym n ∙ e in (cc)

-- what can be written to is a left-hand-side expression
pub settable : {h l : ℕ} {n : Bool} {xs ys : Symbols} {e : RawExpr} (t : RawTarget) → target_of e ≡ Some t → E h n l xs e ys → E h n 15 xs e ys
settable t q (g.this c) = absurd (none_some t refl q)
settable t q (g.name c) = g.name c
settable t q (g.literal c f) = absurd (none_some t refl q)
settable t q (g.operand c) = absurd (none_some t refl q)
settable t q (g.paren lt o x c) = g.paren lt o x c
settable t q (g.array lt o x) = absurd (none_some t refl q)
settable t q (g.object lt o x) = absurd (none_some t refl q)
settable t q (g.function lt o x c) = absurd (none_some t refl q)
settable t q (g.dotted g.chain v lt x o p r) = g.dotted g.chain (omega arith) lt x o p r
settable t q (g.dotted g.member_chain v lt x o p r) = g.dotted g.member_chain (omega arith) lt x o p r
settable t q (g.bracketed g.chain v lt lu x o y p) = g.bracketed g.chain (omega arith) lt lu x o y p
settable t q (g.bracketed g.member_chain v lt lu x o y p) = g.bracketed g.member_chain (omega arith) lt lu x o y p
settable t q (g.call v lt lu x o y) = absurd (none_some t refl q)
settable t q (g.new_call v lt lu o x p y) = absurd (none_some t refl q)
settable t q (g.new v i lt o x) = absurd (none_some t refl q)
settable t q (g.postfix v lt x w s o p) = absurd (none_some t refl q)
settable t q (g.prefix {o} {e} {f} {xs} v lt c p x r) = absurd (none_some t (prefix_no_target o (g.at xs) e f r) q)
settable t q (g.wrong_prefix v lt o p x r c) = absurd (none_some t refl q)
settable t q (g.binary {o} {e} {f} {ys} v lt lu x c p y) = absurd (none_some t (infix_no_target o (g.at ys) e f) q)
settable t q (g.conditional v lt lu lv x o y p z) = absurd (none_some t refl q)
settable t q (g.assign v lt lu x w o p y) = absurd (none_some t refl q)
settable t q (g.comma lt lu x o y) = absurd (none_some t refl q)

-- What is derived declares no refused name, and so what is read is as resolution takes it to be.
use Rattle.std.specs.Prelude.{◌≡◌, ℕ, Bool, false, List, [], ◌∷◌, ◌++◌}
use Rattle.std.proofs.Common.{sym, subst, inl, inr}
use Rattle.cc_meaning.specs.Alike.{In, here, there}
use Rattle.cc_meaning.specs.Operators.{is_in}
use Rattle.cc_meaning.specs.WellMade.{refused_names}
use Rattle.cc_grammar.specs.Symbols.{Symbols}
use Rattle.cc_grammar.specs.RawTree.{RawStmt, RawStmts, RawDeclarator, RawCase, RawInit, RawCatch, RawFinally, declarators, cases, stmts}
use Rattle.cc_grammar.specs.Grammar as g
use Rattle.cc_grammar.specs.Grammar.{Context, Declarator, Declarators, Init, Cases, Catch, Finally, T, Body}
use Rattle.cc_scope.specs.Lists.{Name}
use Rattle.cc_scope.specs.Marks.{vars_declare, init_declares, heading_declares, stmt_declares, stmts_declare, catch_declares, finally_declares, cases_declare}
use Rattle.cc_scope.specs.Resolve.{all_declared}
use Rattle.cc_scope.specs.Promises.{IsOfText, IsOfReading}
use Rattle.cc_scope.proofs.Declared.{in_left, in_right, in_either}
use Rattle.cc_scope.proofs.Contexts.{declared_kept}
use Rattle.cc_scope.proofs.Derived.{tree_fits, plain_marks}

abbrev IsKept : Name → Type 0
IsKept n = is_in n refused_names ≡ false

pub record Kept (ns : List Name) : Type 0 where
  pub each : (n : Name) → In n ns → is_in n refused_names ≡ false

none : Kept []
none = record { each = λ n i. elim i [ ] }

more : {n : Name} {ns : List Name} → IsKept n → Kept ns → Kept (n ∷ ns)
more {n} {ns} e f = record { each = by } where
  by : (m : Name) → In m (n ∷ ns) → is_in m refused_names ≡ false
  by m here = e
  by m (there i) = f.each m i

both : {ns ms : List Name} → Kept ns → Kept ms → Kept (ns ++ ms)
both {ns} {ms} f h = record { each = λ n i. elim (in_either ns ms i) [ inl j ↦ f.each n j | inr j ↦ h.each n j ] }

append_kept : (a b : List RawStmt) → Kept (stmts_declare (stmts a)) → Kept (stmts_declare (stmts b)) → Kept (stmts_declare (stmts (a ++ b)))
unfolding stmts_declare
append_kept [] b f h = h
append_kept (s ∷ a) b f h =
    let first : Kept (stmt_declares s) = record { each = λ n i. f.each n (in_left (stmt_declares s) (stmts_declare (stmts a)) i) } in
    let later : Kept (stmts_declare (stmts a)) = record { each = λ n i. f.each n (in_right (stmt_declares s) (stmts_declare (stmts a)) i) } in
    both first (append_kept a b later h)

declarator_kept : {h : ℕ} {n : Bool} {xs ys : Symbols} {v : RawDeclarator} → Declarator h n xs v ys → IsKept v.variable.name
declarator_kept (g.unset v) = declared_kept v
declarator_kept (g.set v c x) = declared_kept v

declarators_kept : {h : ℕ} {n : Bool} {xs ys : Symbols} {vs : List RawDeclarator} → Declarators h n xs vs ys → Kept (vars_declare (declarators vs))
unfolding vars_declare
declarators_kept (g.last_declarator x) = more (declarator_kept x) none
declarators_kept (g.more_declarators x c m) = more (declarator_kept x) (declarators_kept m)

init_kept : {h : ℕ} {xs ys : Symbols} {i : RawInit} → Init h xs i ys → Kept (init_declares i)
unfolding init_declares
init_kept g.no_init = none
init_kept (g.init_value x) = none
init_kept (g.init_vars c x) = declarators_kept x

single : {ns : List Name} → Kept ns → Kept (ns ++ [])
single f = both f none

mutual
  unfolding stmts_declare vars_declare init_declares heading_declares

  cases_kept : {c : Context} {h : ℕ} {s : Bool} {xs ys : Symbols} {cs : List RawCase} → Cases c h s xs cs ys → Kept (cases_declare (cases cs))
  cases_kept (g.no_case o) = none
  cases_kept (g.case o x p b m) = both (body_kept b) (cases_kept m)
  cases_kept (g.default o p b m) = both (body_kept b) (cases_kept m)

  catch_kept : {c : Context} {h : ℕ} {xs ys : Symbols} {f : RawCatch} → Catch c h xs f ys → Kept (catch_declares f)
  catch_kept (g.caught o p v q b x) = t_kept x

  finally_kept : {c : Context} {h : ℕ} {xs ys : Symbols} {f : RawFinally} → Finally c h xs f ys → Kept (finally_declares f)
  finally_kept (g.finally o b x) = t_kept x

  t_kept : {c : Context} {h : ℕ} {xs ys : Symbols} {b : List RawStmt} → T c h xs b ys → Kept (stmts_declare (stmts b))
  t_kept (g.block lt o x p) = body_kept x
  t_kept (g.vars o x e) = single (declarators_kept x)
  t_kept (g.empty o) = none
  t_kept (g.simple b x e) = none
  t_kept (g.if_else lt lu lv o p x q y r z) = single (both (t_kept y) (t_kept z))
  t_kept (g.if_only lt lu o p x q y r) = single (both (t_kept y) none)
  t_kept (g.do_while lt lu o x p q y r e) = single (t_kept x)
  t_kept (g.while lt lu o p x q y) = single (t_kept y)
  t_kept (g.for lt lu o p i q x r y s z) = single (both (init_kept i) (t_kept z))
  t_kept (g.for_in lt lu o p x f q y r z) = single (t_kept z)
  t_kept (g.for_in_var lt lu o p q x r y s z) = single (more (declarator_kept x) (t_kept z))
  t_kept (g.continue a o e) = none
  t_kept (g.continue_to a o s p i e) = none
  t_kept (g.break a o e) = none
  t_kept (g.break_to o s p i e) = none
  t_kept (g.return a o e) = none
  t_kept (g.return_value a o s x e) = none
  t_kept (g.switch lt lu o p x q r y) = single (cases_kept y)
  t_kept (g.label lt o p i x) = single (t_kept x)
  t_kept (g.half_label o p q) = none
  t_kept (g.throw o s x e) = none
  t_kept (g.try_catch lt lu o b x y n) = single (both (t_kept x) (both (catch_kept y) none))
  t_kept (g.try_finally lt lu o b x y) = single (both (t_kept x) (both none (finally_kept y)))
  t_kept (g.try_both lt lu lv o b x y z) = single (both (t_kept x) (both (catch_kept y) (finally_kept z)))
  t_kept (g.declare a lt o v x) = single (more (declared_kept v) none)
  t_kept (g.any_statement o) = none

  body_kept : {c : Context} {h : ℕ} {xs ys : Symbols} {b : List RawStmt} → Body c h xs b ys → Kept (stmts_declare (stmts b))
  body_kept g.done = none
  body_kept (g.next {a} {b} x m) = append_kept a b (t_kept x) (body_kept m)

tree_kept : (t : RawStmts) → IsOfText t → Kept (stmts_declare t)
tree_kept t r = subst (λ z. Kept (stmts_declare z)) (sym r.same) (body_kept r.derived.derives.body)

all_kept : (ts : List RawStmts) → ((t : RawStmts) → In t ts → IsOfText t) → Kept (all_declared ts)
unfolding all_declared
all_kept [] r = none
all_kept (t ∷ ts) r = both (tree_kept t (r t here)) (all_kept ts (λ u k. r u (there k)))

pub of_reading : IsOfReading
of_reading S r = record { grammatical = λ t i. tree_fits t (r t i); no_index = plain_marks S.trees r; no_refused = (all_kept S.trees r).each }

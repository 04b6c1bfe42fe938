-- What is derived from tokens of the lexer is of the language, and has no index as a property name.
use Rattle.std.specs.Prelude.{◌≡◌, ℕ, Bool, true, false, not, ◌&&◌, ◌||◌, List, [], ◌∷◌, ◌++◌}
use Rattle.std.proofs.Common.{refl, sym, ap, ◌∙◌, subst, inl, inr, append_assoc}
use Rattle.cc_meaning.specs.Alike.{In, here, there}
use Rattle.cc_meaning.specs.Names.{is_index}
use Rattle.cc_meaning.specs.Operators.{is_in}
use Rattle.cc_meaning.specs.WellMade.{Open, nested, may_break, may_continue}
use Rattle.cc_grammar.specs.Symbols.{Lexeme, Symbols, real, inserted, look, lexemes_of}
use Rattle.cc_grammar.specs.RawTree.{Named, RawExpr, RawStmt, RawStmts, RawField, RawDeclarator, RawDeclarators, RawCase, RawInit, RawCatch, RawFinally, MaybeExpr, exprs, fields, declarators, cases, stmts}
use Rattle.cc_grammar.specs.RawTree as raw
use Rattle.cc_grammar.specs.Grammar as g
use Rattle.cc_grammar.specs.Grammar.{Context, Labels, E, Elements, Field, Fields, Arguments, MoreArguments, Function, Declarator, Declarators, Init, Optional, Cases, Catch, Finally, T, Body}
use Rattle.cc_grammar.proofs.MovesDerived.{own_moves, params_move, e_moves, field_moves, declarator_moves, init_moves, optional_moves, catch_moves, t_moves, body_moves}
use Rattle.cc_scope.specs.Lists.{Name}
use Rattle.cc_scope.specs.Marks.{Mark, names, expr_marks, exprs_marks, maybe_marks, fields_marks, vars_marks, init_marks, heading_marks, stmt_marks, stmts_marks, catch_marks, finally_marks, cases_marks, key_marks}
use Rattle.cc_scope.specs.Resolve.{all_marks}
use Rattle.cc_scope.specs.Grammatical.{at_head, statements, loop_labels, has_catch, has_finally, expr_fits, exprs_fit, maybe_fits, fields_fit, vars_fit, some_vars_fit, init_fits, stmt_fits, stmts_fit, catch_fits, finally_fits, cases_fit}
use Rattle.cc_scope.specs.Promises.{IsOfText}
use Rattle.cc_scope.proofs.Law.{names_append}
use Rattle.cc_scope.proofs.Declared.{in_either}
use Rattle.cc_scope.proofs.Leaving.{Good, past, made, past_variable, skip, skip_to, Fine, nothing, site, a_fun, both, also, told, then_plain, plain_then, named_plain, key_plain, literal_exact, assigned, cast_fine, target_fine, prefix_fine, infix_fine}
use Rattle.cc_scope.proofs.Lexing.{tokens_sound}
use Rattle.cc_scope.proofs.Contexts.{same_among, Within, none, Opens, of_chunk, of_body, in_block, in_nested, in_loop, switched, in_cases, behind, in_label, own_labels, one_default}

-- a `var` has declarators: as rest of them they fit too
rest_fine : {ms : List Mark} (ds : RawDeclarators) → Fine ms (some_vars_fit ds) → Fine ms (vars_fit ds)
unfolding some_vars_fit vars_fit
rest_fine raw.no_declarators f = record { plain = f.plain; fits = refl }
rest_fine (raw.more_declarators v e ds) f = record { plain = f.plain; fits = f.fits }

marks_append : (a b : List RawStmt) → stmts_marks (stmts (a ++ b)) ≡ stmts_marks (stmts a) ++ stmts_marks (stmts b)
unfolding stmts_marks
marks_append [] b = refl
marks_append (s ∷ a) b = ap (λ ms. stmt_marks s ++ ms) (marks_append a b) ∙ sym (append_assoc (stmt_marks s) (stmts_marks (stmts a)) (stmts_marks (stmts b)))

and_assoc : (a b c : Bool) → a && (b && c) ≡ (a && b) && c
and_assoc true b c = refl
and_assoc false b c = refl

fits_append : (w : Open) (ls : Labels) (a b : List RawStmt) → stmts_fit w ls (stmts (a ++ b)) ≡ stmts_fit w ls (stmts a) && stmts_fit w ls (stmts b)
unfolding stmts_fit
fits_append w ls [] b = refl
fits_append w ls (s ∷ a) b = ap (λ z. stmt_fits w ls s && z) (fits_append w ls a b) ∙ and_assoc (stmt_fits w ls s) (stmts_fit w ls (stmts a)) (stmts_fit w ls (stmts b))

abbrev FineStmts : Open → Labels → List RawStmt → Type 0
FineStmts w ls b = Fine (stmts_marks (stmts b)) (stmts_fit w ls (stmts b))

append_fine : (w : Open) (ls : Labels) (a b : List RawStmt) → FineStmts w ls a → FineStmts w ls b → FineStmts w ls (a ++ b)
append_fine w ls a b f h =
    let x : Fine (stmts_marks (stmts a) ++ stmts_marks (stmts b)) (stmts_fit w ls (stmts a) && stmts_fit w ls (stmts b)) = both f h in
    subst (λ ms. Fine ms (stmts_fit w ls (stmts (a ++ b)))) (sym (marks_append a b)) (subst (λ z. Fine (stmts_marks (stmts a) ++ stmts_marks (stmts b)) z) (sym (fits_append w ls a b)) x)

single : {ms : List Mark} {y : Bool} → Fine ms y → Fine (ms ++ []) (y && true)
single f = both f nothing

is_catch : {c : Context} {h : ℕ} {xs ys : Symbols} {f : RawCatch} (r : RawFinally) → Catch c h xs f ys → has_catch f || has_finally r ≡ true
unfolding has_catch
is_catch r (g.caught o p v q b x) = refl

is_finally : {c : Context} {h : ℕ} {xs ys : Symbols} {f : RawFinally} → Finally c h xs f ys → has_catch raw.no_catch || has_finally f ≡ true
unfolding has_catch has_finally
is_finally (g.finally o b x) = refl

no_label : (c : Context) (w : Open) (n : Name) → Opens c w → g.is_among n c.labels ≡ false → not (is_in n w.labels) ≡ true
no_label c w n o e = ap not (ap (λ ms. is_in n ms) (sym o.labels) ∙ sym (same_among n c.labels) ∙ e)

breaks_to : (c : Context) (w : Open) (n : Name) → Opens c w → g.is_among n c.labels ≡ true → is_in n w.labels ≡ true
breaks_to c w n o e = ap (λ ms. is_in n ms) (sym o.labels) ∙ sym (same_among n c.labels) ∙ e

mutual
  unfolding expr_marks expr_fits stmts_marks stmts_fit vars_marks statements may_break may_continue init_marks heading_marks maybe_marks

  e_fine : {h l : ℕ} {n : Bool} {xs ys : Symbols} {e : RawExpr} → Good xs → E h n l xs e ys → Fine (expr_marks e) (expr_fits e)
  e_fine G (g.this c) = site nothing
  e_fine G (g.name c) = site nothing
  e_fine G (g.literal {x} {p} c f) = told (literal_exact x p (made c G) f)
  e_fine G (g.operand c) = told refl
  e_fine G (g.paren {e} {xs} lt o x c) = cast_fine (look xs).noted (look xs).place e (e_fine (past o G) x)
  e_fine G (g.array lt o x) = site (elements_fine (past o G) x)
  e_fine G (g.object lt o x) = site (fields_fine (past o G) x)
  e_fine G (g.function lt o x c) = site (a_fun (function_fine (skip (own_moves x) (past o G)) c))
  e_fine G (g.dotted {x = y} {v} c m lt x o p q) = site (then_plain _ (e_fine G x) (named_plain y v (made p (past o (skip (e_moves x) G))) q))
  e_fine G (g.bracketed c m lt lu x o y p) = site (both (e_fine G x) (e_fine (past o (skip (e_moves x) G)) y))
  e_fine G (g.call m lt lu x o y) = site (both (e_fine G x) (arguments_fine (past o (skip (e_moves x) G)) y))
  e_fine G (g.new_call m lt lu o x p y) = site (both (e_fine (past o G) x) (arguments_fine (past p (skip (e_moves x) (past o G))) y))
  e_fine G (g.new m i lt o x) = site (both (e_fine (past o G) x) nothing)
  e_fine G (g.postfix {e} {t} m lt x q s o p) = site (target_fine e t q (e_fine G x))
  e_fine G (g.prefix {o} {e} {f} {xs} m lt c p x t) = prefix_fine o (g.at xs) e f (e_fine (past c G) x) t
  e_fine G (g.wrong_prefix m lt o p x t c) = told refl
  e_fine G (g.binary {o} {e} {f} {ys} m lt lu x c p y) = infix_fine o (g.at ys) e f (e_fine G x) (e_fine (past c (skip (e_moves x) G)) y)
  e_fine G (g.conditional m lt lu lv x o y p z) =
      let a = past o (skip (e_moves x) G) in
      site (both (e_fine G x) (both (e_fine a y) (e_fine (past p (skip (e_moves y) a)) z)))
  e_fine G (g.assign {x = s} {o} {e} {t} m lt lu x q c p y) = site (also (assigned s o p) (both (target_fine e t q (e_fine G x)) (e_fine (past c (skip (e_moves x) G)) y)))
  e_fine G (g.comma lt lu x o y) = site (both (e_fine G x) (e_fine (past o (skip (e_moves x) G)) y))

  elements_fine : {h : ℕ} {xs ys : Symbols} {es : List RawExpr} → Good xs → Elements h xs es ys → Fine (exprs_marks (exprs es)) (exprs_fit (exprs es))
  elements_fine G (g.no_element c) = nothing
  elements_fine G (g.last_element x c) = both (e_fine G x) nothing
  elements_fine G (g.more_elements x c m) = both (e_fine G x) (elements_fine (past c (skip (e_moves x) G)) m)
  elements_fine G (g.any_element c p) = nothing

  fields_fine : {h : ℕ} {xs ys : Symbols} {fs : List RawField} → Good xs → Fields h xs fs ys → Fine (fields_marks (fields fs)) (fields_fit (fields fs))
  fields_fine G (g.no_field c) = nothing
  fields_fine G (g.last_field x c) = field_fine raw.no_fields G x nothing
  fields_fine G (g.more_fields {fs} x c m) = field_fine (fields fs) G x (fields_fine (past c (skip (field_moves x) G)) m)

  field_fine : {h : ℕ} {xs ys : Symbols} {f : RawField} (fs : raw.RawFields) → Good xs → Field h xs f ys → Fine (fields_marks fs) (fields_fit fs) → Fine (fields_marks (raw.more_fields f.place f.key f.value fs)) (fields_fit (raw.more_fields f.place f.key f.value fs))
  field_fine fs G (g.field {x = s} {y} c e p x) r = plain_then (key_marks y) (key_plain s y (made c G) e) (both (e_fine (past p (past c G)) x) r)

  arguments_fine : {h : ℕ} {xs ys : Symbols} {es : List RawExpr} → Good xs → Arguments h xs es ys → Fine (exprs_marks (exprs es)) (exprs_fit (exprs es))
  arguments_fine G (g.no_argument c) = nothing
  arguments_fine G (g.some_arguments m) = more_fine G m

  more_fine : {h : ℕ} {xs ys : Symbols} {es : List RawExpr} → Good xs → MoreArguments h xs es ys → Fine (exprs_marks (exprs es)) (exprs_fit (exprs es))
  more_fine G (g.last_argument x c) = both (e_fine G x) nothing
  more_fine G (g.more_arguments x c m) = both (e_fine G x) (more_fine (past c (skip (e_moves x) G)) m)

  function_fine : {h : ℕ} {xs ys : Symbols} {ps : List Named} {b : List RawStmt} → Good xs → Function h xs ps b ys → FineStmts (at_head true) [] b
  function_fine G (g.function_body o p q x r) = body_fine (at_head true) [] (past q (skip (params_move p) (past o G))) of_body (none []) x

  declarator_fine : {h : ℕ} {n : Bool} {xs ys : Symbols} {v : RawDeclarator} → Good xs → Declarator h n xs v ys → Fine (maybe_marks v.value) (maybe_fits v.value)
  declarator_fine G (g.unset v) = nothing
  declarator_fine G (g.set v c x) = e_fine (past c (past_variable v G)) x

  declarators_fine : {h : ℕ} {n : Bool} {xs ys : Symbols} {vs : List RawDeclarator} → Good xs → Declarators h n xs vs ys → Fine (vars_marks (declarators vs)) (some_vars_fit (declarators vs))
  declarators_fine G (g.last_declarator x) = site (both (declarator_fine G x) nothing)
  declarators_fine G (g.more_declarators {vs} x c m) = site (both (declarator_fine G x) (rest_fine (declarators vs) (declarators_fine (past c (skip (declarator_moves x) G)) m)))

  init_fine : {h : ℕ} {xs ys : Symbols} {i : RawInit} → Good xs → Init h xs i ys → Fine (init_marks i) (init_fits i)
  init_fine G g.no_init = nothing
  init_fine G (g.init_value x) = e_fine G x
  init_fine G (g.init_vars c x) = declarators_fine (past c G) x

  optional_fine : {h : ℕ} {xs ys : Symbols} {e : MaybeExpr} → Good xs → Optional h xs e ys → Fine (maybe_marks e) (maybe_fits e)
  optional_fine G g.absent = nothing
  optional_fine G (g.present x) = e_fine G x

  cases_fine : {c : Context} {h : ℕ} {s : Bool} {xs ys : Symbols} {cs : List RawCase} (w : Open) → Good xs → Opens c w → Within c.own [] → Cases c h s xs cs ys → Fine (cases_marks (cases cs)) (cases_fit w (cases cs))
  cases_fine w G O f (g.no_case o) = nothing
  cases_fine w G O f (g.case o x p b m) =
      let a = past p (skip (e_moves x) (past o G)) in
      both (e_fine (past o G) x) (both (body_fine w [] a O f b) (cases_fine w (skip_to (body_moves b) a) O f m))
  cases_fine w G O f (g.default o p b m) =
      let a = past p (past o G) in
      both nothing (both (body_fine w [] a O f b) (cases_fine w (skip_to (body_moves b) a) O f m))

  catch_fine : {c : Context} {h : ℕ} {xs ys : Symbols} {k : RawCatch} (w : Open) → Good xs → Opens c w → Within c.own [] → Catch c h xs k ys → Fine (catch_marks k) (catch_fits w k)
  catch_fine w G O f (g.caught o p v q b x) = t_fine w [] (past q (past_variable v (past p (past o G)))) O (λ e. f) x

  finally_fine : {c : Context} {h : ℕ} {xs ys : Symbols} {k : RawFinally} (w : Open) → Good xs → Opens c w → Within c.own [] → Finally c h xs k ys → Fine (finally_marks k) (finally_fits w k)
  finally_fine w G O f (g.finally o b x) = t_fine w [] (past o G) O (λ e. f) x

  t_fine : {c : Context} {h : ℕ} {xs ys : Symbols} {b : List RawStmt} (w : Open) (ls : Labels) → Good xs → Opens c w → (statements (stmts b) ≡ 1 → Within c.own ls) → T c h xs b ys → FineStmts w ls b
  t_fine w ls G O f (g.block lt o x p) = body_fine w ls (past o G) (in_block O) (none ls) x
  t_fine w ls G O f (g.vars o x e) = single (site (declarators_fine (past o G) x))
  t_fine w ls G O f (g.empty o) = nothing
  t_fine w ls G O f (g.simple b x e) = single (site (e_fine G x))
  t_fine w ls G O f (g.if_else lt lu lv o p x q y r z) =
      let a = past p (past o G) in let d = past q (skip (e_moves x) a) in
      single (site (both (e_fine a x) (both (t_fine (nested w) [] d (in_nested O) (λ e. none []) y) (t_fine (nested w) [] (past r (skip_to (t_moves y) d)) (in_nested O) (λ e. none []) z))))
  t_fine w ls G O f (g.if_only lt lu o p x q y r) =
      let a = past p (past o G) in
      single (site (both (e_fine a x) (both (t_fine (nested w) [] (past q (skip (e_moves x) a)) (in_nested O) (λ e. none []) y) nothing)))
  t_fine w ls G O f (g.do_while lt lu o x p q y r e) =
      let a = past o G in
      single (site (both (t_fine _ [] a (in_loop ls (f refl) O) (λ e. none []) x) (e_fine (past q (past p (skip_to (t_moves x) a))) y)))
  t_fine w ls G O f (g.while lt lu o p x q y) =
      let a = past p (past o G) in
      single (site (both (e_fine a x) (t_fine _ [] (past q (skip (e_moves x) a)) (in_loop ls (f refl) O) (λ e. none []) y)))
  t_fine w ls G O f (g.for lt lu o p i q x r y s z) =
      let a = past p (past o G) in let b = past q (skip (init_moves i) a) in let d = past r (skip (optional_moves x) b) in
      single (site (both (init_fine a i) (both (optional_fine b x) (both (optional_fine d y) (t_fine _ [] (past s (skip (optional_moves y) d)) (in_loop ls (f refl) O) (λ e. none []) z)))))
  t_fine w ls G O f (g.for_in {e} {t} lt lu o p x k q y r z) =
      let a = past p (past o G) in let b = past q (skip (e_moves x) a) in
      single (site (both (target_fine e t k (e_fine a x)) (both (e_fine b y) (t_fine _ [] (past r (skip (e_moves y) b)) (in_loop ls (f refl) O) (λ e. none []) z))))
  t_fine w ls G O f (g.for_in_var lt lu o p q x r y s z) =
      let a = past q (past p (past o G)) in let b = past r (skip (declarator_moves x) a) in
      single (site (both (site (declarator_fine a x)) (both (e_fine b y) (t_fine _ [] (past s (skip (e_moves y) b)) (in_loop ls (f refl) O) (λ e. none []) z))))
  t_fine w ls G O f (g.continue a o e) = single (told (O.continues a))
  t_fine {c} w ls G O f (g.continue_to {n} a o s p i e) = single (told (O.loops n (sym (same_among n c.loops) ∙ i)))
  t_fine w ls G O f (g.break a o e) = single (told (O.breaks a))
  t_fine {c} w ls G O f (g.break_to {n} o s p i e) = single (told (breaks_to c w n O i))
  t_fine w ls G O f (g.return a o e) = single (site (also (O.returns a) nothing))
  t_fine w ls G O f (g.return_value a o s x e) = single (site (also (O.returns a) (e_fine (past o G) x)))
  t_fine w ls G O f (g.switch lt lu o p x q r y) =
      let a = past p (past o G) in
      single (site (also (one_default y) (both (e_fine a x) (cases_fine (switched w) (past r (past q (skip (e_moves x) a))) (in_cases O) (none []) y))))
  t_fine {c} w ls G O f (g.label {n} {b} lt o p i x) =
      single (site (also (no_label c w n O i) (t_fine (behind n w) (loop_labels (n ∷ ls) (stmts b)) (past p (past o G)) (in_label n O) (own_labels n (stmts b) c.own ls (f refl)) x)))
  t_fine w ls G O f (g.half_label o p q) = nothing
  t_fine w ls G O f (g.throw o s x e) = single (site (e_fine (past o G) x))
  t_fine w ls G O f (g.try_catch lt lu o b x y n) =
      let a = past o G in
      single (site (also (is_catch raw.no_finally y) (both (t_fine (nested w) [] a (in_nested O) (λ e. none []) x) (both (catch_fine (nested w) (skip_to (t_moves x) a) (in_nested O) (none []) y) nothing))))
  t_fine w ls G O f (g.try_finally lt lu o b x y) =
      let a = past o G in
      single (site (also (is_finally y) (both (t_fine (nested w) [] a (in_nested O) (λ e. none []) x) (both nothing (finally_fine (nested w) (skip_to (t_moves x) a) (in_nested O) (none []) y)))))
  t_fine w ls G O f (g.try_both {g = r} lt lu lv o b x y z) =
      let a = past o G in let d = skip_to (t_moves x) a in
      single (site (also (is_catch r y) (both (t_fine (nested w) [] a (in_nested O) (λ e. none []) x) (both (catch_fine (nested w) d (in_nested O) (none []) y) (finally_fine (nested w) (skip_to (catch_moves y) d) (in_nested O) (none []) z)))))
  t_fine w ls G O f (g.declare a lt o v x) = single (site (a_fun (also (O.declares a) (function_fine (past_variable v (past o G)) x))))
  t_fine w ls G O f (g.any_statement o) = nothing

  body_fine : {c : Context} {h : ℕ} {xs ys : Symbols} {b : List RawStmt} (w : Open) (ls : Labels) → Good xs → Opens c w → Within c.own ls → Body c h xs b ys → FineStmts w ls b
  body_fine w ls G O f g.done = nothing
  body_fine w ls G O f (g.next {a} {b} x m) = append_fine w ls a b (t_fine w ls G O (λ e. f) x) (body_fine w ls (skip_to (t_moves x) G) O f m)

-- ---- sources

in_tokens : {t : Lexeme} (xs : Symbols) → In (real t) xs → In t (lexemes_of xs)
in_tokens (real t ∷ xs) here = here
in_tokens (real u ∷ xs) (there i) = there (in_tokens xs i)
in_tokens (inserted ∷ xs) (there i) = in_tokens xs i
in_tokens [] i = elim i [ ]

tree_fine : (t : RawStmts) → IsOfText t → Fine (stmts_marks t) (stmts_fit (at_head false) [] t)
tree_fine t r =
    let all : Good r.derived.symbols = λ x i. tokens_sound r.text r.file r.tokens r.stop r.lexed x (subst (λ ts. In x ts) r.derived.tokens (in_tokens r.derived.symbols i)) in
    subst (λ z. Fine (stmts_marks z) (stmts_fit (at_head false) [] z)) (sym r.same) (body_fine (at_head false) [] all of_chunk (none []) r.derived.derives.body)

pub plain_marks : (ts : List RawStmts) → ((t : RawStmts) → In t ts → IsOfText t) → (x : Name) → In x (names (all_marks ts)) → is_index x ≡ false
unfolding all_marks names
plain_marks [] r x i = elim i [ ]
plain_marks (t ∷ ts) r x i = elim (in_either (names (stmts_marks t)) (names (all_marks ts)) (subst (λ z. In x z) (names_append (stmts_marks t) (all_marks ts)) i)) [ inl j ↦ (tree_fine t (r t here)).plain x j | inr j ↦ plain_marks ts (λ u k. r u (there k)) x j ]

pub tree_fits : (t : RawStmts) → IsOfText t → stmts_fit (at_head false) [] t ≡ true
tree_fits t r = (tree_fine t r).fits

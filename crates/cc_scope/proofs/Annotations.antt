-- The last comment counts, and what is annotated is declared.
use Rattle.std.proofs.Common.{◌≡◌, refl, sym, ap, ◌∙◌, subst, arith, ◌⊎◌, inl, inr, ℕ, suc, ◌+◌, Bool, true, false, ◌||◌, List, [], ◌∷◌, ◌++◌, length, Some, None}
use Rattle.std.specs.Prelude.{slice_get}
use Rattle.cc_ast.specs.declared.place.Place.{Place}
use Rattle.cc_meaning.specs.Alike.{In, here, there}
use Rattle.cc_meaning.specs.Monad.{pick}
use Rattle.cc_meaning.specs.Operators.{list_eq}
use Rattle.cc_grammar.specs.RawTree.{RawDeclarators, RawInit, RawForTarget, RawStmt, RawStmts, RawCatch, RawFinally, RawCases}
use Rattle.cc_grammar.specs.RawTree as raw
use Rattle.cc_scope.specs.Lists.{Name, or_zero, or_else}
use Rattle.cc_scope.specs.Marks.{vars_declare, init_declares, heading_declares, stmt_declares, stmts_declare, catch_declares, finally_declares, cases_declare}
use Rattle.cc_scope.specs.Annotations.{Comment, is_at, is_on, last_from, doc_number, said, comment_numbered, comment_at, said_at, Declaration, declarators_at, var_at, init_at, heading_at, stmt_at, stmts_at, catch_at, finally_at, cases_at, places_of}
use Rattle.cc_scope.proofs.Declared.{in_left, in_right, in_either}
use Rattle.cc_scope.proofs.Names.{eq_self}
use Rattle.cc_scope.proofs.Numbers.{head_or}

or_true : (b : Bool) → b || true ≡ true
or_true true = refl
or_true false = refl

-- ---- the last comment counts

none_later : (k : ℕ) (qs : List Place) (ds : List Comment) → ((d : Comment) → In d ds → is_on qs d ≡ false) → last_from k qs ds ≡ None
unfolding last_from or_else
none_later k qs [] h = refl
none_later k qs (d ∷ ds) h = rw (none_later (suc k) qs ds (λ e i. h e (there i))) (ap (λ b. pick b (Some k) None) (h d here))

last_is : (k : ℕ) (qs : List Place) (cs ds : List Comment) (c : Comment) → is_on qs c ≡ true → ((d : Comment) → In d ds → is_on qs d ≡ false) → last_from k qs (cs ++ c ∷ ds) ≡ Some (k + length cs)
unfolding last_from or_else
last_is k qs [] ds c e h = rw (none_later (suc k) qs ds h) (ap (λ b. pick b (Some k) None) e ∙ ap Some (let z : k ≡ k + 0 = omega arith in z))
last_is k qs (d ∷ cs) ds c e h = rw (last_is (suc k) qs cs ds c e h) (ap Some (let z : suc k + length cs ≡ k + suc (length cs) = omega arith in z))

at_length : (cs ds : List Comment) (c : Comment) → slice_get (cs ++ c ∷ ds) (length cs) ≡ Some c
at_length [] ds c = refl
at_length (d ∷ cs) ds c = at_length cs ds c

pub last_counts : (qs : List Place) (cs ds : List Comment) (c : Comment) → is_on qs c ≡ true → ((d : Comment) → In d ds → is_on qs d ≡ false) → (doc_number qs (cs ++ c ∷ ds) ≡ suc (length cs)) × (said_at qs (cs ++ c ∷ ds) ≡ Some c.says)
unfolding doc_number or_zero said_at said comment_at comment_numbered
last_counts qs cs ds c e h = (first, second) where
  first : doc_number qs (cs ++ c ∷ ds) ≡ suc (length cs)
  first = ap or_zero (last_is 1 qs cs ds c e h) ∙ (let z : 1 + length cs ≡ suc (length cs) = omega arith in z)

  found : last_from 0 qs (cs ++ c ∷ ds) ≡ Some (length cs)
  found = last_is 0 qs cs ds c e h ∙ ap Some (let z : 0 + length cs ≡ length cs = omega arith in z)

  second : said_at qs (cs ++ c ∷ ds) ≡ Some c.says
  second = ap (λ o. said (comment_numbered o (cs ++ c ∷ ds))) found ∙ ap said (at_length cs ds c)

-- a comment at a declaration of a variable is on the variable
on_variable : (x : Name) (es : List Declaration) (e : Declaration) (c : Comment) → In e es → e.variable ≡ x → is_at e.place c.next ≡ true → is_on (places_of x es) c ≡ true
unfolding places_of is_on
on_variable x [] e c i v h = elim i [ ]
on_variable x (d ∷ es) e c i v h = by (list_eq x d.variable) refl (head_or e d es i) (λ j. on_variable x es e c j v h) where
  by : (b : Bool) → list_eq x d.variable ≡ b → (e ≡ d) ⊎ In e es → (In e es → is_on (places_of x es) c ≡ true) → is_on (pick b (d.place ∷ places_of x es) (places_of x es)) c ≡ true
  by true s (inl j) g = rw (subst (λ y. is_at y.place c.next ≡ true) j h) refl
  by true s (inr j) g = rw (g j) (or_true (is_at d.place c.next))
  by false s (inl j) g = absurd (let z : list_eq x x ≡ true = eq_self x in let y : list_eq x d.variable ≡ true = subst (λ w. list_eq x w ≡ true) (sym v ∙ ap (λ w. w.variable) j) z in let q : true ≡ false = sym y ∙ s in cc)
  by false s (inr j) g = g j

pub last_declaration : (x : Name) (es : List Declaration) (e : Declaration) (cs ds : List Comment) (c : Comment) → In e es → e.variable ≡ x → is_at e.place c.next ≡ true
    → ((d : Comment) → In d ds → is_on (places_of x es) d ≡ false) → doc_number (places_of x es) (cs ++ c ∷ ds) ≡ suc (length cs)
last_declaration x es e cs ds c i v h n = (last_counts (places_of x es) cs ds c (on_variable x es e c i v h) n).0

-- ---- what is annotated is declared

Are : List Declaration → List Name → Type 0
Are ds xs = (d : Declaration) → In d ds → In d.variable xs

none_are : (xs : List Name) → Are [] xs
unfolding Are
none_are xs d i = elim i [ ]

join : (ds es : List Declaration) (xs ys : List Name) → Are ds xs → Are es ys → Are (ds ++ es) (xs ++ ys)
unfolding Are
join ds es xs ys h k d i = elim (in_either ds es i) [ inl j ↦ in_left xs ys (h d j) | inr j ↦ in_right xs ys (k d j) ]

more : (v : Name) (q : Place) (ds : List Declaration) (xs : List Name) → Are ds xs → Are (record { variable = v; place = q } ∷ ds) (v ∷ xs)
unfolding Are
more v q ds xs h d here = here
more v q ds xs h d (there i) = there (h d i)

twice : (v : Name) (q : Place) (ds : List Declaration) (xs : List Name) → Are ds (v ∷ xs) → Are (record { variable = v; place = q } ∷ ds) (v ∷ xs)
unfolding Are
twice v q ds xs h d here = here
twice v q ds xs h d (there i) = h d i

declarators_are : (t : RawDeclarators) → Are (declarators_at t) (vars_declare t)
unfolding declarators_at vars_declare
declarators_are raw.no_declarators = none_are []
declarators_are (raw.more_declarators v e ds) = more v.name v.place (declarators_at ds) (vars_declare ds) (declarators_are ds)

var_are : (q : Place) (t : RawDeclarators) → Are (var_at q t) (vars_declare t)
unfolding var_at vars_declare
var_are q raw.no_declarators = none_are []
var_are q (raw.more_declarators v e ds) = twice v.name q _ (vars_declare ds) (more v.name v.place (declarators_at ds) (vars_declare ds) (declarators_are ds))

init_are : (t : RawInit) → Are (init_at t) (init_declares t)
unfolding init_at init_declares
init_are raw.no_init = none_are []
init_are (raw.init_value e) = none_are []
init_are (raw.init_vars ds) = declarators_are ds

heading_are : (t : RawForTarget) → Are (heading_at t) (heading_declares t)
unfolding heading_at heading_declares
heading_are (raw.in_target t) = none_are []
heading_are (raw.in_declared v e) = more v.name v.place [] [] (none_are [])

mutual
  unfolding stmts_at stmts_declare

  stmt_are : (t : RawStmt) → Are (stmt_at t) (stmt_declares t)
  stmt_are (raw.simple q e) = none_are []
  stmt_are (raw.vars q ds) = var_are q ds
  stmt_are (raw.fun_decl q v ps b) = more v.name q [] [] (none_are [])
  stmt_are (raw.if q t a b) = join (stmts_at a) (stmts_at b) (stmts_declare a) (stmts_declare b) (stmts_are a) (stmts_are b)
  stmt_are (raw.while q t b) = stmts_are b
  stmt_are (raw.do_while q b t) = stmts_are b
  stmt_are (raw.for q h t e b) = join (init_at h) (stmts_at b) (init_declares h) (stmts_declare b) (init_are h) (stmts_are b)
  stmt_are (raw.for_in q t e b) = join (heading_at t) (stmts_at b) (heading_declares t) (stmts_declare b) (heading_are t) (stmts_are b)
  stmt_are (raw.return q e) = none_are []
  stmt_are (raw.throw q e) = none_are []
  stmt_are (raw.break q l) = none_are []
  stmt_are (raw.continue q l) = none_are []
  stmt_are (raw.label q l b) = stmts_are b
  stmt_are (raw.switch q e cs) = cases_are cs
  stmt_are (raw.try q b k f) = join (stmts_at b) (catch_at k ++ finally_at f) (stmts_declare b) (catch_declares k ++ finally_declares f) (stmts_are b) (join (catch_at k) (finally_at f) (catch_declares k) (finally_declares f) (catch_are k) (finally_are f))

  stmts_are : (t : RawStmts) → Are (stmts_at t) (stmts_declare t)
  stmts_are raw.no_stmts = none_are []
  stmts_are (raw.more_stmts s ss) = join (stmt_at s) (stmts_at ss) (stmt_declares s) (stmts_declare ss) (stmt_are s) (stmts_are ss)

  catch_are : (t : RawCatch) → Are (catch_at t) (catch_declares t)
  catch_are raw.no_catch = none_are []
  catch_are (raw.caught v b) = stmts_are b

  finally_are : (t : RawFinally) → Are (finally_at t) (finally_declares t)
  finally_are raw.no_finally = none_are []
  finally_are (raw.finally b) = stmts_are b

  cases_are : (t : RawCases) → Are (cases_at t) (cases_declare t)
  cases_are raw.no_cases = none_are []
  cases_are (raw.more_cases t b cs) = join (stmts_at b) (cases_at cs) (stmts_declare b) (cases_declare cs) (stmts_are b) (cases_are cs)

pub are_declared : (t : RawStmts) (d : Declaration) → In d (stmts_at t) → In d.variable (stmts_declare t)
unfolding Are
are_declared t d i = stmts_are t d i

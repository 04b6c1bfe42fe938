-- Each method among the parts of a tree is with its property and its function; and where each function
-- stands once, it is the function of one method alone.
use Rattle.std.proofs.Common.{◌≡◌, refl, sym, subst, arith, ◌⊎◌, inl, inr, ℕ, suc, ◌+◌, Bool, true, false, List, [], ◌∷◌, ◌++◌, length, Option, Some, None}
use Rattle.std.specs.Prelude.{slice_get}
use Rattle.std.proofs.lemmas.Option.{slice_get_within}
use Rattle.cc_ast.specs.Syntax.{Expr, Target, Exprs, Fields, Declarator, ForInit, ForTarget, Stmt, Stmts, MaybeStmts, Cases}
use Rattle.cc_ast.specs.Syntax as p
use Rattle.cc_ast.specs.declared.tree.Key.{Key}
use Rattle.cc_meaning.specs.Names.{name_prototype}
use Rattle.cc_meaning.specs.State.{Path, Tables}
use Rattle.cc_meaning.specs.Monad.{pick}
use Rattle.cc_meaning.specs.Shapes.{is_named, path_of}
use Rattle.cc_meaning.specs.Alike.{In, here, there}
use Rattle.cc_meaning.specs.Parts.{Part, has_site, uses_prop, uses_doc, mentions, declares, makes, sets_method, method_by, method_on_prototype, method_to, method_in, key_parts, expr_parts, target_parts, exprs_parts, fields_parts, option_parts, vars_parts, init_parts, name_parts, stmt_parts, stmts_parts, maybe_parts, cases_parts}
use Rattle.cc_meaning.specs.WellMade.{functions_in, IsDistinct}
use Rattle.cc_scope.proofs.Declared.{in_left, in_right, in_either}
use Rattle.cc_scope.proofs.Globals.{after}
use Rattle.cc_scope.proofs.Numbers.{first_part}
use Rattle.cc_scope.proofs.Pieces.{functions_join}

-- ---- lists in which nothing stands twice

pub place_in : {A : Type 0} (x : A) (xs : List A) → In x xs → (k : ℕ) × (slice_get xs k ≡ Some x)
place_in x [] i = elim i [ ]
place_in x (y ∷ xs) here = (0, refl)
place_in x (y ∷ xs) (there i) = let d = place_in x xs i in (suc d.0, d.1)

pub once_left : {A : Type 0} (xs ys : List A) → IsDistinct (xs ++ ys) → IsDistinct xs
once_left xs ys h i j x e d = h i j x (first_part xs ys i x e) (first_part xs ys j x d)

pub once_right : {A : Type 0} (xs ys : List A) → IsDistinct (xs ++ ys) → IsDistinct ys
once_right xs ys h i j x e d = let k = h (length xs + i) (length xs + j) x (after xs ys i x e) (after xs ys j x d) in omega arith

pub once_apart : {A : Type 0} (x : A) (xs ys : List A) → IsDistinct (xs ++ ys) → In x xs → In x ys → ⊥
once_apart x xs ys h i j =
    let a = place_in x xs i in let b = place_in x ys j in
    let l = slice_get_within xs a.0 x a.1 in
    let k = h a.0 (length xs + b.0) x (first_part xs ys a.0 x a.1) (after xs ys b.0 x b.1) in absurd (omega arith)

-- ---- methods

pub makes_in : (c g : ℕ) (d : Bool) (xs : List Part) → In (makes c g d) xs → In g (functions_in xs)
unfolding functions_in
makes_in c g d [] i = elim i [ ]
makes_in c g d (x ∷ xs) here = here
makes_in c g d (makes e f b ∷ xs) (there i) = there (makes_in c g d xs i)
makes_in c g d (has_site k ∷ xs) (there i) = makes_in c g d xs i
makes_in c g d (uses_prop k ∷ xs) (there i) = makes_in c g d xs i
makes_in c g d (uses_doc k ∷ xs) (there i) = makes_in c g d xs i
makes_in c g d (mentions k r ∷ xs) (there i) = makes_in c g d xs i
makes_in c g d (declares k r ∷ xs) (there i) = makes_in c g d xs i
makes_in c g d (sets_method w q f ∷ xs) (there i) = makes_in c g d xs i

no_method : Part → Bool
no_method (sets_method w q f) = false
no_method _ = true

pub record Tidy (xs : List Part) : Type 0 where
  pub method : (w : Path) (q g : ℕ) → In (sets_method w q g) xs → In (uses_prop q) xs × ((c : ℕ) × In (makes c g false) xs)
  pub once : IsDistinct (functions_in xs) → (v w : Path) (q r g : ℕ) → In (sets_method v q g) xs → In (sets_method w r g) xs → (v ≡ w) × (q ≡ r)

-- the function of a method stands among the functions
pub function_among : (xs : List Part) → Tidy xs → (w : Path) (q g : ℕ) → In (sets_method w q g) xs → In g (functions_in xs)
function_among xs a w q g i = let d = a.method w q g i in makes_in d.1.0 g false xs d.1.1

tidy_none : Tidy []
tidy_none = record { method = λ w q g i. elim i [ ]; once = λ h v w q r g i j. elim i [ ] }

pub tidy_join : (xs ys : List Part) → Tidy xs → Tidy ys → Tidy (xs ++ ys)
tidy_join xs ys a b = record { method = both; once = λ h v w q r g i j. one (subst (λ fs. IsDistinct fs) (functions_join xs ys) h) v w q r g (in_either xs ys i) (in_either xs ys j) } where
  both : (w : Path) (q g : ℕ) → In (sets_method w q g) (xs ++ ys) → In (uses_prop q) (xs ++ ys) × ((c : ℕ) × In (makes c g false) (xs ++ ys))
  both w q g i = elim (in_either xs ys i) [
    | inl j ↦ (let d = a.method w q g j in (in_left xs ys d.0, (d.1.0, in_left xs ys d.1.1)))
    | inr j ↦ (let d = b.method w q g j in (in_right xs ys d.0, (d.1.0, in_right xs ys d.1.1)))
  ]

  one : IsDistinct (functions_in xs ++ functions_in ys) → (v w : Path) (q r g : ℕ) → In (sets_method v q g) xs ⊎ In (sets_method v q g) ys → In (sets_method w r g) xs ⊎ In (sets_method w r g) ys → (v ≡ w) × (q ≡ r)
  one h v w q r g (inl i) (inl j) = a.once (once_left (functions_in xs) (functions_in ys) h) v w q r g i j
  one h v w q r g (inr i) (inr j) = b.once (once_right (functions_in xs) (functions_in ys) h) v w q r g i j
  one h v w q r g (inl i) (inr j) = absurd (once_apart g (functions_in xs) (functions_in ys) h (function_among xs a v q g i) (function_among ys b w r g j))
  one h v w q r g (inr i) (inl j) = absurd (once_apart g (functions_in xs) (functions_in ys) h (function_among xs a w r g j) (function_among ys b v q g i))

later_part : (x : Part) (xs : List Part) → no_method x ≡ true → (w : Path) (q g : ℕ) → In (sets_method w q g) (x ∷ xs) → In (sets_method w q g) xs
unfolding no_method
later_part x xs h w q g here = absurd (cc)
later_part x xs h w q g (there i) = i

-- of the functions behind a part
functions_later : (x : Part) (xs : List Part) → IsDistinct (functions_in (x ∷ xs)) → IsDistinct (functions_in xs)
unfolding functions_in
functions_later (has_site i) xs h = h
functions_later (uses_prop i) xs h = h
functions_later (uses_doc i) xs h = h
functions_later (mentions c r) xs h = h
functions_later (declares c r) xs h = h
functions_later (makes c f d) xs h = once_right (f ∷ []) (functions_in xs) h
functions_later (sets_method w q f) xs h = h

tidy_cons : (x : Part) {xs : List Part} → no_method x ≡ true → Tidy xs → Tidy (x ∷ xs)
tidy_cons x {xs} h a = record { method = further; once = λ o v w q r g i j. a.once (functions_later x xs o) v w q r g (later_part x xs h v q g i) (later_part x xs h w r g j) } where
  further : (w : Path) (q g : ℕ) → In (sets_method w q g) (x ∷ xs) → In (uses_prop q) (x ∷ xs) × ((c : ℕ) × In (makes c g false) (x ∷ xs))
  further w q g i = let d = a.method w q g (later_part x xs h w q g i) in (there d.0, (d.1.0, there d.1.1))

key_tidy : (k : Key) → Tidy (key_parts k)
unfolding key_parts no_method
key_tidy (Key.Dotted q) = tidy_cons (uses_prop q) refl tidy_none
key_tidy (Key.Quoted t) = tidy_none

-- a method in front of its property and its function
method_tidy : (w : Path) (q f : ℕ) (xs ys : List Part) → Tidy (xs ++ ys) → In (uses_prop q) xs → ((c : ℕ) × In (makes c f false) ys) → ((v : Path) (r : ℕ) → In (sets_method v r f) (xs ++ ys) → In f (functions_in xs))
    → Tidy (sets_method w q f ∷ (xs ++ ys))
unfolding functions_in
method_tidy w q f xs ys a u m other = record { method = further; once = λ h v x r s g i j. one h v x r s g g i j refl } where
  further : (v : Path) (r g : ℕ) → In (sets_method v r g) (sets_method w q f ∷ (xs ++ ys)) → In (uses_prop r) (sets_method w q f ∷ (xs ++ ys)) × ((c : ℕ) × In (makes c g false) (sets_method w q f ∷ (xs ++ ys)))
  further v r g here = (there (in_left xs ys u), (m.0, there (in_right xs ys m.1)))
  further v r g (there i) = let d = a.method v r g i in (there d.0, (d.1.0, there d.1.1))

  twice : IsDistinct (functions_in (xs ++ ys)) → (v : Path) (r : ℕ) → In (sets_method v r f) (xs ++ ys) → ⊥
  twice h v r i = once_apart f (functions_in xs) (functions_in ys) (subst (λ fs. IsDistinct fs) (functions_join xs ys) h) (other v r i) (makes_in m.0 f false ys m.1)

  one : IsDistinct (functions_in (xs ++ ys)) → (v x : Path) (r s g k : ℕ) → In (sets_method v r g) (sets_method w q f ∷ (xs ++ ys)) → In (sets_method x s k) (sets_method w q f ∷ (xs ++ ys)) → g ≡ k → (v ≡ x) × (r ≡ s)
  one h v x r s g k here here e = (refl, refl)
  one h v x r s g k here (there j) e = absurd (twice h x s (subst (λ m. In (sets_method x s m) (xs ++ ys)) (sym e) j))
  one h v x r s g k (there i) here e = absurd (twice h v r (subst (λ m. In (sets_method v r m) (xs ++ ys)) e i))
  one h v x r s g k (there i) (there j) e = a.once h v x r s g i (subst (λ m. In (sets_method x s m) (xs ++ ys)) (sym e) j)

module _ (T : Tables) where
  -- the function stands behind what is written to
  only_before : (i g : ℕ) (c : ℕ) (xs : List Part) → Tidy xs → (v : Path) (r : ℕ) → In (sets_method v r g) (xs ++ (has_site i ∷ (makes c g false ∷ []))) → In g (functions_in xs)
  only_before i g c xs a v r m = elim (in_either xs (has_site i ∷ (makes c g false ∷ [])) m) [
    | inl n ↦ function_among xs a v r g n
    | inr n ↦ absurd (no n)
  ] where
    no : In (sets_method v r g) (has_site i ∷ (makes c g false ∷ [])) → ⊥
    no (there (there n)) = elim n [ ]

  function_tidy : (c i f : ℕ) → Tidy (has_site i ∷ (makes c f false ∷ []))
  unfolding no_method
  function_tidy c i f = tidy_cons (has_site i) refl (tidy_cons (makes c f false) refl tidy_none)

  by_method : (c i j q f : ℕ) (o : Option Path) (e : Expr) → Tidy (target_parts T c (p.to_member i e q)) → Tidy (method_by o q f ++ target_parts T c (p.to_member i e q) ++ (has_site j ∷ (makes c f false ∷ [])))
  unfolding method_by expr_parts
  by_method c i j q f None e a = tidy_join (target_parts T c (p.to_member i e q)) (has_site j ∷ (makes c f false ∷ [])) a (function_tidy c j f)
  by_method c i j q f (Some w) e a = method_tidy w q f (target_parts T c (p.to_member i e q)) (has_site j ∷ (makes c f false ∷ [])) (tidy_join (target_parts T c (p.to_member i e q)) (has_site j ∷ (makes c f false ∷ [])) a (function_tidy c j f))
      (there here) (c, there here) (only_before j f c (target_parts T c (p.to_member i e q)) a)

  by_prototype : (c i j q f : ℕ) (b : Bool) (o : Option Path) (e : Expr) → Tidy (target_parts T c (p.to_member i e q)) → Tidy (pick b (method_by o q f) [] ++ target_parts T c (p.to_member i e q) ++ (has_site j ∷ (makes c f false ∷ [])))
  by_prototype c i j q f true o e a = by_method c i j q f o e a
  by_prototype c i j q f false o e a = tidy_join (target_parts T c (p.to_member i e q)) (has_site j ∷ (makes c f false ∷ [])) a (function_tidy c j f)

  on_prototype : (c i j q f : ℕ) (e : Expr) → Tidy (target_parts T c (p.to_member i e q)) → Tidy (method_on_prototype T e q f ++ target_parts T c (p.to_member i e q) ++ (has_site j ∷ (makes c f false ∷ [])))
  unfolding method_on_prototype
  on_prototype c i j q f (p.member k e r) a = by_prototype c i j q f (is_named T r name_prototype) (path_of e) (p.member k e r) a
  on_prototype c i j q f (p.lit l x) good = tidy_join _ _ good (function_tidy c j f)
  on_prototype c i j q f (p.var l r) good = tidy_join _ _ good (function_tidy c j f)
  on_prototype c i j q f (p.this l) good = tidy_join _ _ good (function_tidy c j f)
  on_prototype c i j q f (p.fun l h) good = tidy_join _ _ good (function_tidy c j f)
  on_prototype c i j q f (p.list l es) good = tidy_join _ _ good (function_tidy c j f)
  on_prototype c i j q f (p.object l fs) good = tidy_join _ _ good (function_tidy c j f)
  on_prototype c i j q f (p.unary l op e) good = tidy_join _ _ good (function_tidy c j f)
  on_prototype c i j q f (p.binary l op a b) good = tidy_join _ _ good (function_tidy c j f)
  on_prototype c i j q f (p.and l a b) good = tidy_join _ _ good (function_tidy c j f)
  on_prototype c i j q f (p.or l a b) good = tidy_join _ _ good (function_tidy c j f)
  on_prototype c i j q f (p.cond l t a b) good = tidy_join _ _ good (function_tidy c j f)
  on_prototype c i j q f (p.assign l op t e) good = tidy_join _ _ good (function_tidy c j f)
  on_prototype c i j q f (p.step l up before t) good = tidy_join _ _ good (function_tidy c j f)
  on_prototype c i j q f (p.index l e k) good = tidy_join _ _ good (function_tidy c j f)
  on_prototype c i j q f (p.call l h es) good = tidy_join _ _ good (function_tidy c j f)
  on_prototype c i j q f (p.new l h es) good = tidy_join _ _ good (function_tidy c j f)
  on_prototype c i j q f (p.comma l a b) good = tidy_join _ _ good (function_tidy c j f)
  on_prototype c i j q f (p.cast l d e) good = tidy_join _ _ good (function_tidy c j f)
  on_prototype c i j q f (p.tick l n e) good = tidy_join _ _ good (function_tidy c j f)

  to_function : (c j f : ℕ) (t : Target) → Tidy (target_parts T c t) → Tidy (method_to T t f ++ target_parts T c t ++ (has_site j ∷ (makes c f false ∷ [])))
  unfolding method_to
  to_function c j f (p.to_var i r) a = tidy_join _ _ a (function_tidy c j f)
  to_function c j f (p.to_member i e q) a = on_prototype c i j q f e a
  to_function c j f (p.to_index i e k) a = tidy_join _ _ a (function_tidy c j f)

  assigned : (c : ℕ) (t : Target) (e : Expr) → Tidy (target_parts T c t) → Tidy (expr_parts T c e) → Tidy (method_in T t e ++ target_parts T c t ++ expr_parts T c e)
  unfolding method_in expr_parts
  assigned c t (p.fun j f) a b = to_function c j f t a
  assigned c t (p.lit i x) good fine = tidy_join _ _ good fine
  assigned c t (p.var i r) good fine = tidy_join _ _ good fine
  assigned c t (p.this i) good fine = tidy_join _ _ good fine
  assigned c t (p.list i es) good fine = tidy_join _ _ good fine
  assigned c t (p.object i fs) good fine = tidy_join _ _ good fine
  assigned c t (p.unary i op e) good fine = tidy_join _ _ good fine
  assigned c t (p.binary i op a b) good fine = tidy_join _ _ good fine
  assigned c t (p.and i a b) good fine = tidy_join _ _ good fine
  assigned c t (p.or i a b) good fine = tidy_join _ _ good fine
  assigned c t (p.cond i u a b) good fine = tidy_join _ _ good fine
  assigned c t (p.assign i op u e) good fine = tidy_join _ _ good fine
  assigned c t (p.step i up before u) good fine = tidy_join _ _ good fine
  assigned c t (p.member i e q) good fine = tidy_join _ _ good fine
  assigned c t (p.index i e k) good fine = tidy_join _ _ good fine
  assigned c t (p.call i f es) good fine = tidy_join _ _ good fine
  assigned c t (p.new i f es) good fine = tidy_join _ _ good fine
  assigned c t (p.comma i a b) good fine = tidy_join _ _ good fine
  assigned c t (p.cast i d e) good fine = tidy_join _ _ good fine
  assigned c t (p.tick i n e) good fine = tidy_join _ _ good fine

  mutual
    unfolding expr_parts no_method key_parts

    pub expr_tidy : (c : ℕ) (t : Expr) → Tidy (expr_parts T c t)
    expr_tidy c (p.lit i x) = tidy_cons (has_site i) refl tidy_none
    expr_tidy c (p.var i r) = tidy_cons (has_site i) refl (tidy_cons (mentions c r) refl tidy_none)
    expr_tidy c (p.this i) = tidy_cons (has_site i) refl tidy_none
    expr_tidy c (p.fun i f) = tidy_cons (has_site i) refl (tidy_cons (makes c f false) refl tidy_none)
    expr_tidy c (p.list i es) = tidy_cons (has_site i) refl (exprs_tidy c es)
    expr_tidy c (p.object i fs) = tidy_cons (has_site i) refl (fields_tidy c fs)
    expr_tidy c (p.unary i op e) = tidy_cons (has_site i) refl (expr_tidy c e)
    expr_tidy c (p.binary i op a b) = tidy_cons (has_site i) refl (tidy_join _ _ (expr_tidy c a) (expr_tidy c b))
    expr_tidy c (p.and i a b) = tidy_cons (has_site i) refl (tidy_join _ _ (expr_tidy c a) (expr_tidy c b))
    expr_tidy c (p.or i a b) = tidy_cons (has_site i) refl (tidy_join _ _ (expr_tidy c a) (expr_tidy c b))
    expr_tidy c (p.cond i t a b) = tidy_cons (has_site i) refl (tidy_join _ _ (tidy_join _ _ (expr_tidy c t) (expr_tidy c a)) (expr_tidy c b))
    expr_tidy c (p.assign i op t e) = tidy_cons (has_site i) refl (assigned c t e (target_tidy c t) (expr_tidy c e))
    expr_tidy c (p.step i up before t) = tidy_cons (has_site i) refl (target_tidy c t)
    expr_tidy c (p.member i e q) = tidy_cons (has_site i) refl (tidy_cons (uses_prop q) refl (expr_tidy c e))
    expr_tidy c (p.index i e k) = tidy_cons (has_site i) refl (tidy_join _ _ (expr_tidy c e) (expr_tidy c k))
    expr_tidy c (p.call i f es) = tidy_cons (has_site i) refl (tidy_join _ _ (expr_tidy c f) (exprs_tidy c es))
    expr_tidy c (p.new i f es) = tidy_cons (has_site i) refl (tidy_join _ _ (expr_tidy c f) (exprs_tidy c es))
    expr_tidy c (p.comma i a b) = tidy_cons (has_site i) refl (tidy_join _ _ (expr_tidy c a) (expr_tidy c b))
    expr_tidy c (p.cast i d e) = tidy_cons (has_site i) refl (tidy_cons (uses_doc d) refl (expr_tidy c e))
    expr_tidy c (p.tick i n e) = tidy_cons (has_site i) refl (expr_tidy c e)

    pub target_tidy : (c : ℕ) (t : Target) → Tidy (target_parts T c t)
    target_tidy c (p.to_var i r) = tidy_cons (has_site i) refl (tidy_cons (mentions c r) refl tidy_none)
    target_tidy c (p.to_member i e q) = tidy_cons (has_site i) refl (tidy_cons (uses_prop q) refl (expr_tidy c e))
    target_tidy c (p.to_index i e k) = tidy_cons (has_site i) refl (tidy_join _ _ (expr_tidy c e) (expr_tidy c k))

    pub exprs_tidy : (c : ℕ) (t : Exprs) → Tidy (exprs_parts T c t)
    exprs_tidy c p.no_exprs = tidy_none
    exprs_tidy c (p.more_exprs e es) = tidy_join _ _ (expr_tidy c e) (exprs_tidy c es)

    pub fields_tidy : (c : ℕ) (t : Fields) → Tidy (fields_parts T c t)
    fields_tidy c p.no_fields = tidy_none
    fields_tidy c (p.more_fields k e fs) = tidy_join _ _ (tidy_join _ _ (key_tidy k) (expr_tidy c e)) (fields_tidy c fs)

  pub option_tidy : (c : ℕ) (t : Option Expr) → Tidy (option_parts T c t)
  unfolding option_parts
  option_tidy c None = tidy_none
  option_tidy c (Some e) = expr_tidy c e

  pub vars_tidy : (c : ℕ) (t : List Declarator) → Tidy (vars_parts T c t)
  unfolding vars_parts no_method
  vars_tidy c [] = tidy_none
  vars_tidy c (d ∷ ds) = tidy_cons (has_site d.site) refl (tidy_cons (declares c d.variable) refl (tidy_join _ _ (option_tidy c d.value) (vars_tidy c ds)))

  pub init_tidy : (c : ℕ) (t : ForInit) → Tidy (init_parts T c t)
  unfolding init_parts
  init_tidy c p.no_init = tidy_none
  init_tidy c (p.init_value e) = expr_tidy c e
  init_tidy c (p.init_vars ds) = vars_tidy c ds

  pub name_tidy : (c : ℕ) (t : ForTarget) → Tidy (name_parts T c t)
  unfolding name_parts
  name_tidy c (p.in_target t) = target_tidy c t
  name_tidy c (p.in_declared d) = vars_tidy c (d ∷ [])

  mutual
    unfolding stmt_parts no_method

    pub stmt_tidy : (c : ℕ) (t : Stmt) → Tidy (stmt_parts T c t)
    stmt_tidy c (p.simple i e) = tidy_cons (has_site i) refl (expr_tidy c e)
    stmt_tidy c (p.vars i ds) = tidy_cons (has_site i) refl (vars_tidy c ds)
    stmt_tidy c (p.fun_decl i r f) = tidy_cons (has_site i) refl (tidy_cons (declares c r) refl (tidy_cons (makes c f true) refl tidy_none))
    stmt_tidy c (p.if i t a b) = tidy_cons (has_site i) refl (tidy_join _ _ (tidy_join _ _ (expr_tidy c t) (stmts_tidy c a)) (stmts_tidy c b))
    stmt_tidy c (p.while i t b) = tidy_cons (has_site i) refl (tidy_join _ _ (expr_tidy c t) (stmts_tidy c b))
    stmt_tidy c (p.do_while i b t) = tidy_cons (has_site i) refl (tidy_join _ _ (stmts_tidy c b) (expr_tidy c t))
    stmt_tidy c (p.for i h t e b) = tidy_cons (has_site i) refl (tidy_join _ _ (tidy_join _ _ (tidy_join _ _ (init_tidy c h) (option_tidy c t)) (option_tidy c e)) (stmts_tidy c b))
    stmt_tidy c (p.for_in i t e b) = tidy_cons (has_site i) refl (tidy_join _ _ (tidy_join _ _ (name_tidy c t) (expr_tidy c e)) (stmts_tidy c b))
    stmt_tidy c (p.return i e) = tidy_cons (has_site i) refl (option_tidy c e)
    stmt_tidy c (p.throw i e) = tidy_cons (has_site i) refl (expr_tidy c e)
    stmt_tidy c (p.break i l) = tidy_cons (has_site i) refl tidy_none
    stmt_tidy c (p.continue i l) = tidy_cons (has_site i) refl tidy_none
    stmt_tidy c (p.label i l b) = tidy_cons (has_site i) refl (stmts_tidy c b)
    stmt_tidy c (p.switch i e cs) = tidy_cons (has_site i) refl (tidy_join _ _ (expr_tidy c e) (cases_tidy c cs))
    stmt_tidy c (p.try i b k f) = tidy_cons (has_site i) refl (tidy_join _ _ (tidy_join _ _ (stmts_tidy c b) (maybe_tidy (suc c) k)) (maybe_tidy c f))
    stmt_tidy c (p.pay_stmt i n) = tidy_cons (has_site i) refl tidy_none

    pub stmts_tidy : (c : ℕ) (t : Stmts) → Tidy (stmts_parts T c t)
    stmts_tidy c p.no_stmts = tidy_none
    stmts_tidy c (p.more_stmts s ss) = tidy_join _ _ (stmt_tidy c s) (stmts_tidy c ss)

    pub maybe_tidy : (c : ℕ) (t : MaybeStmts) → Tidy (maybe_parts T c t)
    maybe_tidy c p.absent = tidy_none
    maybe_tidy c (p.present ss) = stmts_tidy c ss

    pub cases_tidy : (c : ℕ) (t : Cases) → Tidy (cases_parts T c t)
    cases_tidy c p.no_cases = tidy_none
    cases_tidy c (p.more_cases t b cs) = tidy_join _ _ (tidy_join _ _ (option_tidy c t) (stmts_tidy c b)) (cases_tidy c cs)

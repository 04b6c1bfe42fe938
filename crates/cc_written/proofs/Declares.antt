-- The variables that statements declare are those of their parts.
use Rattle.std.specs.Prelude.{◌≡◌, ℕ, suc, Bool, true, false, List, [], ◌∷◌, ◌++◌, ◌⊎◌, Option, Some, None}
use Rattle.std.proofs.Common.{refl, sym, ap, ap₂, ◌∙◌, subst, append_assoc, append-nil, inl, inr}
use Rattle.cc_ast.specs.declared.tree.Ref.{Ref}
use Rattle.cc_ast.specs.declared.tree.Key.{Key}
use Rattle.cc_ast.specs.declared.tree.Key.TheVariants.{Dotted, Quoted}
use Rattle.cc_ast.specs.Syntax as S
use Rattle.cc_meaning.specs.State.{Path, Tables}
use Rattle.cc_meaning.specs.Monad.{pick}
use Rattle.cc_meaning.specs.Shapes.{is_named, path_of}
use Rattle.cc_meaning.specs.Names.{name_prototype}
use Rattle.cc_meaning.specs.Alike.{In, here, there}
use Rattle.cc_meaning.specs.Parts.{Part, has_site, uses_prop, uses_doc, mentions, declares, makes, sets_method, method_by, method_on_prototype, method_to, method_in, key_parts, expr_parts, target_parts, exprs_parts, fields_parts, option_parts, vars_parts, init_parts, name_parts, stmt_parts, stmts_parts, maybe_parts, cases_parts}
use Rattle.cc_printer.proofs.Slots.{in_cons}
use Rattle.cc_scope.specs.Written.{number_of, vars_in, init_in, heading_in, stmt_in, stmts_in, maybe_in, cases_in}

-- the numbers of the variables that parts declare
pub numbers_in : List Part → List ℕ
numbers_in [] = []
numbers_in (declares c r ∷ xs) = number_of r ∷ numbers_in xs
numbers_in (_ ∷ xs) = numbers_in xs

in_append : (xs ys : List Part) → numbers_in (xs ++ ys) ≡ numbers_in xs ++ numbers_in ys
unfolding numbers_in
in_append [] ys = refl
in_append (has_site s ∷ xs) ys = in_append xs ys
in_append (uses_prop s ∷ xs) ys = in_append xs ys
in_append (uses_doc s ∷ xs) ys = in_append xs ys
in_append (mentions c r ∷ xs) ys = in_append xs ys
in_append (declares c r ∷ xs) ys = ap (λ ns. number_of r ∷ ns) (in_append xs ys)
in_append (makes c f d ∷ xs) ys = in_append xs ys
in_append (sets_method w p f ∷ xs) ys = in_append xs ys

-- ---- expressions declare nothing

none : (xs ys : List Part) → numbers_in xs ≡ [] → numbers_in ys ≡ [] → numbers_in (xs ++ ys) ≡ []
none xs ys e d = in_append xs ys ∙ ap₂ (λ a b. a ++ b) e d

method_by_none : (w : Option Path) (p f : ℕ) → numbers_in (method_by w p f) ≡ []
unfolding numbers_in method_by
method_by_none None p f = refl
method_by_none (Some w) p f = refl

prototype_none : (T : Tables) (e : S.Expr) (p f : ℕ) → numbers_in (method_on_prototype T e p f) ≡ []
unfolding numbers_in method_on_prototype
prototype_none T (S.member i e q) p f = by (is_named T q name_prototype) where
  by : (b : Bool) → numbers_in (pick b (method_by (path_of e) p f) []) ≡ []
  by true = method_by_none (path_of e) p f
  by false = refl
prototype_none T _ p f = refl

method_to_none : (T : Tables) (t : S.Target) (f : ℕ) → numbers_in (method_to T t f) ≡ []
unfolding numbers_in method_to
method_to_none T (S.to_member i e p) f = prototype_none T e p f
method_to_none T _ f = refl

method_none : (T : Tables) (t : S.Target) (e : S.Expr) → numbers_in (method_in T t e) ≡ []
unfolding numbers_in method_in
method_none T t (S.fun i f) = method_to_none T t f
method_none T t _ = refl

key_none : (k : Key) → numbers_in (key_parts k) ≡ []
unfolding numbers_in key_parts
key_none (Dotted p) = refl
key_none (Quoted t) = refl

mutual
  unfolding numbers_in expr_parts

  expr_none : (T : Tables) (c : ℕ) (e : S.Expr) → numbers_in (expr_parts T c e) ≡ []
  expr_none T c (S.lit i x) = refl
  expr_none T c (S.var i r) = refl
  expr_none T c (S.this i) = refl
  expr_none T c (S.fun i f) = refl
  expr_none T c (S.list i es) = exprs_none T c es
  expr_none T c (S.object i fs) = fields_none T c fs
  expr_none T c (S.unary i o e) = expr_none T c e
  expr_none T c (S.binary i o a b) = none (expr_parts T c a) (expr_parts T c b) (expr_none T c a) (expr_none T c b)
  expr_none T c (S.and i a b) = none (expr_parts T c a) (expr_parts T c b) (expr_none T c a) (expr_none T c b)
  expr_none T c (S.or i a b) = none (expr_parts T c a) (expr_parts T c b) (expr_none T c a) (expr_none T c b)
  expr_none T c (S.cond i t a b) = none (expr_parts T c t ++ expr_parts T c a) (expr_parts T c b) (none (expr_parts T c t) (expr_parts T c a) (expr_none T c t) (expr_none T c a)) (expr_none T c b)
  expr_none T c (S.assign i o t e) = none (method_in T t e ++ target_parts T c t) (expr_parts T c e) (none (method_in T t e) (target_parts T c t) (method_none T t e) (target_none T c t)) (expr_none T c e)
  expr_none T c (S.step i u p t) = target_none T c t
  expr_none T c (S.member i e p) = expr_none T c e
  expr_none T c (S.index i a b) = none (expr_parts T c a) (expr_parts T c b) (expr_none T c a) (expr_none T c b)
  expr_none T c (S.call i f es) = none (expr_parts T c f) (exprs_parts T c es) (expr_none T c f) (exprs_none T c es)
  expr_none T c (S.new i f es) = none (expr_parts T c f) (exprs_parts T c es) (expr_none T c f) (exprs_none T c es)
  expr_none T c (S.comma i a b) = none (expr_parts T c a) (expr_parts T c b) (expr_none T c a) (expr_none T c b)
  expr_none T c (S.cast i d e) = expr_none T c e
  expr_none T c (S.tick i p e) = expr_none T c e

  target_none : (T : Tables) (c : ℕ) (t : S.Target) → numbers_in (target_parts T c t) ≡ []
  target_none T c (S.to_var i r) = refl
  target_none T c (S.to_member i e p) = expr_none T c e
  target_none T c (S.to_index i a b) = none (expr_parts T c a) (expr_parts T c b) (expr_none T c a) (expr_none T c b)

  exprs_none : (T : Tables) (c : ℕ) (es : S.Exprs) → numbers_in (exprs_parts T c es) ≡ []
  exprs_none T c S.no_exprs = refl
  exprs_none T c (S.more_exprs e es) = none (expr_parts T c e) (exprs_parts T c es) (expr_none T c e) (exprs_none T c es)

  fields_none : (T : Tables) (c : ℕ) (fs : S.Fields) → numbers_in (fields_parts T c fs) ≡ []
  fields_none T c S.no_fields = refl
  fields_none T c (S.more_fields k e fs) = none (key_parts k ++ expr_parts T c e) (fields_parts T c fs) (none (key_parts k) (expr_parts T c e) (key_none k) (expr_none T c e)) (fields_none T c fs)

option_none : (T : Tables) (c : ℕ) (e : Option S.Expr) → numbers_in (option_parts T c e) ≡ []
unfolding numbers_in option_parts
option_none T c None = refl
option_none T c (Some e) = expr_none T c e

-- ---- and statements what they declare

left_none : (xs ys : List Part) (ns : List ℕ) → numbers_in xs ≡ [] → numbers_in ys ≡ ns → numbers_in (xs ++ ys) ≡ ns
left_none xs ys ns e d = in_append xs ys ∙ ap₂ (λ a b. a ++ b) e d

right_none : (xs ys : List Part) (ns : List ℕ) → numbers_in xs ≡ ns → numbers_in ys ≡ [] → numbers_in (xs ++ ys) ≡ ns
right_none xs ys ns e d = in_append xs ys ∙ ap₂ (λ a b. a ++ b) e d ∙ append-nil ns

two : (xs ys : List Part) (ms ns : List ℕ) → numbers_in xs ≡ ms → numbers_in ys ≡ ns → numbers_in (xs ++ ys) ≡ ms ++ ns
two xs ys ms ns e d = in_append xs ys ∙ ap₂ (λ a b. a ++ b) e d

vars_are : (T : Tables) (c : ℕ) (ds : List S.Declarator) → numbers_in (vars_parts T c ds) ≡ vars_in ds
unfolding numbers_in vars_parts vars_in
vars_are T c [] = refl
vars_are T c (d ∷ ds) = ap (λ ns. number_of d.variable ∷ ns) (left_none (option_parts T c d.value) (vars_parts T c ds) (vars_in ds) (option_none T c d.value) (vars_are T c ds))

init_are : (T : Tables) (c : ℕ) (i : S.ForInit) → numbers_in (init_parts T c i) ≡ init_in i
unfolding numbers_in init_parts init_in
init_are T c S.no_init = refl
init_are T c (S.init_value e) = expr_none T c e
init_are T c (S.init_vars ds) = vars_are T c ds

heading_are : (T : Tables) (c : ℕ) (t : S.ForTarget) → numbers_in (name_parts T c t) ≡ heading_in t
unfolding numbers_in name_parts vars_parts heading_in
heading_are T c (S.in_target t) = target_none T c t
heading_are T c (S.in_declared d) = ap (λ ns. number_of d.variable ∷ ns) (right_none (option_parts T c d.value) [] [] (option_none T c d.value) refl)

mutual
  unfolding numbers_in stmts_parts stmts_in

  stmt_are : (T : Tables) (c : ℕ) (s : S.Stmt) → numbers_in (stmt_parts T c s) ≡ stmt_in s
  stmt_are T c (S.simple i e) = expr_none T c e
  stmt_are T c (S.vars i ds) = vars_are T c ds
  stmt_are T c (S.fun_decl i r f) = refl
  stmt_are T c (S.if i t a b) = two (expr_parts T c t ++ stmts_parts T c a) (stmts_parts T c b) (stmts_in a) (stmts_in b) (left_none (expr_parts T c t) (stmts_parts T c a) (stmts_in a) (expr_none T c t) (stmts_are T c a)) (stmts_are T c b)
  stmt_are T c (S.while i t b) = left_none (expr_parts T c t) (stmts_parts T c b) (stmts_in b) (expr_none T c t) (stmts_are T c b)
  stmt_are T c (S.do_while i b t) = right_none (stmts_parts T c b) (expr_parts T c t) (stmts_in b) (stmts_are T c b) (expr_none T c t)
  stmt_are T c (S.for i h t e b) =
      two (init_parts T c h ++ option_parts T c t ++ option_parts T c e) (stmts_parts T c b) (init_in h) (stmts_in b)
      (right_none (init_parts T c h ++ option_parts T c t) (option_parts T c e) (init_in h) (right_none (init_parts T c h) (option_parts T c t) (init_in h) (init_are T c h) (option_none T c t)) (option_none T c e)) (stmts_are T c b)
  stmt_are T c (S.for_in i t e b) = two (name_parts T c t ++ expr_parts T c e) (stmts_parts T c b) (heading_in t) (stmts_in b) (right_none (name_parts T c t) (expr_parts T c e) (heading_in t) (heading_are T c t) (expr_none T c e)) (stmts_are T c b)
  stmt_are T c (S.return i e) = option_none T c e
  stmt_are T c (S.throw i e) = expr_none T c e
  stmt_are T c (S.break i l) = refl
  stmt_are T c (S.continue i l) = refl
  stmt_are T c (S.label i l b) = stmts_are T c b
  stmt_are T c (S.switch i e cs) = left_none (expr_parts T c e) (cases_parts T c cs) (cases_in cs) (expr_none T c e) (cases_are T c cs)
  stmt_are T c (S.try i b k f) =
      two (stmts_parts T c b ++ maybe_parts T (suc c) k) (maybe_parts T c f) (stmts_in b ++ maybe_in k) (maybe_in f)
      (two (stmts_parts T c b) (maybe_parts T (suc c) k) (stmts_in b) (maybe_in k) (stmts_are T c b) (maybe_are T (suc c) k)) (maybe_are T c f) ∙ append_assoc (stmts_in b) (maybe_in k) (maybe_in f)
  stmt_are T c (S.pay_stmt i x) = refl

  pub stmts_are : (T : Tables) (c : ℕ) (ss : S.Stmts) → numbers_in (stmts_parts T c ss) ≡ stmts_in ss
  stmts_are T c S.no_stmts = refl
  stmts_are T c (S.more_stmts s ss) = two (stmt_parts T c s) (stmts_parts T c ss) (stmt_in s) (stmts_in ss) (stmt_are T c s) (stmts_are T c ss)

  maybe_are : (T : Tables) (c : ℕ) (b : S.MaybeStmts) → numbers_in (maybe_parts T c b) ≡ maybe_in b
  maybe_are T c S.absent = refl
  maybe_are T c (S.present ss) = stmts_are T c ss

  cases_are : (T : Tables) (c : ℕ) (cs : S.Cases) → numbers_in (cases_parts T c cs) ≡ cases_in cs
  cases_are T c S.no_cases = refl
  cases_are T c (S.more_cases t b cs) = two (option_parts T c t ++ stmts_parts T c b) (cases_parts T c cs) (stmts_in b) (cases_in cs) (left_none (option_parts T c t) (stmts_parts T c b) (stmts_in b) (option_none T c t) (stmts_are T c b)) (cases_are T c cs)

-- ---- one by one

listed : (c : ℕ) (r : Ref) (xs : List Part) → In (declares c r) xs → In (number_of r) (numbers_in xs)
unfolding numbers_in
listed c r [] i = elim i [ ]
listed c r (_ ∷ xs) here = here
listed c r (has_site s ∷ xs) (there i) = listed c r xs i
listed c r (uses_prop s ∷ xs) (there i) = listed c r xs i
listed c r (uses_doc s ∷ xs) (there i) = listed c r xs i
listed c r (mentions e s ∷ xs) (there i) = listed c r xs i
listed c r (declares e s ∷ xs) (there i) = there (listed c r xs i)
listed c r (makes e f d ∷ xs) (there i) = listed c r xs i
listed c r (sets_method w p f ∷ xs) (there i) = listed c r xs i

-- a part that declares a number
pub record Declaring (m : ℕ) (xs : List Part) : Type 0 where
  pub catches : ℕ
  pub variable : Ref
  pub stands : In (declares catches variable) xs
  pub number : number_of variable ≡ m

further : (m : ℕ) (x : Part) (xs : List Part) → Declaring m xs → Declaring m (x ∷ xs)
further m x xs d = record { catches = d.catches; variable = d.variable; stands = there d.stands; number = d.number }

found : (m : ℕ) (xs : List Part) → In m (numbers_in xs) → Declaring m xs
unfolding numbers_in
found m [] i = elim i [ ]
found m (has_site s ∷ xs) i = further m _ xs (found m xs i)
found m (uses_prop s ∷ xs) i = further m _ xs (found m xs i)
found m (uses_doc s ∷ xs) i = further m _ xs (found m xs i)
found m (mentions e s ∷ xs) i = further m _ xs (found m xs i)
found m (declares e s ∷ xs) i = by (in_cons m (number_of s) (numbers_in xs) i) (found m xs) where
  by : (m ≡ number_of s) ⊎ In m (numbers_in xs) → (In m (numbers_in xs) → Declaring m xs) → Declaring m (declares e s ∷ xs)
  by (inl q) go = record { catches = e; variable = s; stands = here; number = sym q }
  by (inr j) go = further m (declares e s) xs (go j)
found m (makes e f d ∷ xs) i = further m _ xs (found m xs i)
found m (sets_method w p f ∷ xs) i = further m _ xs (found m xs i)

pub is_listed : (T : Tables) (e c : ℕ) (r : Ref) (ss : S.Stmts) → In (declares c r) (stmts_parts T e ss) → In (number_of r) (stmts_in ss)
is_listed T e c r ss i = subst (λ ns. In (number_of r) ns) (stmts_are T e ss) (listed c r (stmts_parts T e ss) i)

pub is_declared : (T : Tables) (e m : ℕ) (ss : S.Stmts) → In m (stmts_in ss) → Declaring m (stmts_parts T e ss)
is_declared T e m ss i = found m (stmts_parts T e ss) (subst (λ ns. In m ns) (sym (stmts_are T e ss)) i)

-- Over a whole program in which each function stands once: no function is set to two paths, and none is a
-- method of two classes.
use Rattle.std.proofs.Common.{◌≡◌, refl, sym, ap, ◌∙◌, subst, arith, ◌⊎◌, inl, inr, ℕ, suc, Bool, true, false, ◌&&◌, nat_eq, cond, List, [], ◌∷◌, ◌++◌, Option, Some, None}
use Rattle.std.specs.Prelude.{slice_get}
use Rattle.std.proofs.lemmas.Bool.Decides.{nat_tests}
use Rattle.cc_ast.specs.Syntax.{Expr, Target, Fields, Declarator, Stmt, Stmts, Scope}
use Rattle.cc_ast.specs.Syntax as p
use Rattle.cc_ast.specs.declared.tables.ChunkInfo.{ChunkInfo}
use Rattle.cc_meaning.specs.Operators.{list_eq}
use Rattle.cc_meaning.specs.State.{Path, Tables}
use Rattle.cc_meaning.specs.Monad.{pick}
use Rattle.cc_meaning.specs.Store.{same_numbers}
use Rattle.cc_meaning.specs.Shapes.{path_of_ref, path_of_target, path_of_key, sets_by, sets_by_fields, sets_by_option, sets_by_vars, sets_by_value, sets_by_fun, sets_by_stmt, sets_by_stmts, sets_by_chunks}
use Rattle.cc_meaning.specs.Alike.{In, here, there}
use Rattle.cc_meaning.specs.FlatPaths.{same_path}
use Rattle.cc_meaning.specs.Parts.{Part, has_site, uses_prop, uses_doc, mentions, declares, makes, sets_method, method_in, key_parts, expr_parts, target_parts, fields_parts, option_parts, vars_parts, stmt_parts, stmts_parts}
use Rattle.cc_meaning.specs.WellMade.{functions_in, all_functions, IsDistinct}
use Rattle.cc_scope.specs.Written.{has}
use Rattle.cc_scope.specs.Classes.{methods_in, methods_among, method_functions, all_methods}
use Rattle.cc_scope.proofs.Declared.{in_left, in_right, in_either}
use Rattle.cc_scope.proofs.Numbers.{head_or}
use Rattle.cc_scope.proofs.Pieces.{functions_join}
use Rattle.cc_scope.proofs.SameParts.{stmts_same}
use Rattle.cc_scope.proofs.Tidy.{once_left, once_right, once_apart, Tidy, tidy_join, stmts_tidy}
use Rattle.cc_scope.proofs.Names.{eq_self, eq_equal}

-- ---- equal paths

both : (a b : Bool) → a && b ≡ true → (a ≡ true) × (b ≡ true)
both true b e = (refl, e)
both false b e = absurd (cc)

pub path_equal : (v w : Path) → same_path v w ≡ true → v ≡ w
unfolding same_path same_numbers
path_equal v w e = let d = both (nat_eq v.0 w.0) (list_eq v.1 w.1) e in let k : v.0 ≡ w.0 = by_nat (nat_eq v.0 w.0) refl d.0 in let l = eq_equal v.1 w.1 d.1 in ap (λ n. (n, v.1)) k ∙ ap (λ ns. (w.0, ns)) l where
  by_nat : (b : Bool) → nat_eq v.0 w.0 ≡ b → b ≡ true → v.0 ≡ w.0
  by_nat true h x = grind (arith, nat_tests)
  by_nat false h x = absurd (cc)

pub path_itself : (w : Path) → same_path w w ≡ true
unfolding same_path same_numbers
path_itself w = rw (eq_self w.1) (let k : nat_eq w.0 w.0 ≡ true = grind (arith, nat_tests) in rw k refl)

-- ---- functions that paths are set to, among the parts of their statements

abbrev pub Set : Type 0
Set = Path × ℕ

functions_more : (x : Part) (xs : List Part) (g : ℕ) → In g (functions_in xs) → In g (functions_in (x ∷ xs))
unfolding functions_in
functions_more (has_site i) xs g h = h
functions_more (uses_prop i) xs g h = h
functions_more (uses_doc i) xs g h = h
functions_more (mentions c r) xs g h = h
functions_more (declares c r) xs g h = h
functions_more (makes c f d) xs g h = there h
functions_more (sets_method w q f) xs g h = h

functions_later : (x : Part) (xs : List Part) → IsDistinct (functions_in (x ∷ xs)) → IsDistinct (functions_in xs)
unfolding functions_in
functions_later (has_site i) xs h = h
functions_later (uses_prop i) xs h = h
functions_later (uses_doc i) xs h = h
functions_later (mentions c r) xs h = h
functions_later (declares c r) xs h = h
functions_later (makes c f d) xs h = once_right (f ∷ []) (functions_in xs) h
functions_later (sets_method w q f) xs h = h

pub record Settled (L : List Set) (xs : List Part) : Type 0 where
  pub among : (w : Path) (g : ℕ) → In (w, g) L → In g (functions_in xs)
  pub once : IsDistinct (functions_in xs) → (v w : Path) (g k : ℕ) → In (v, g) L → In (w, k) L → g ≡ k → v ≡ w

no_settings : (xs : List Part) → Settled [] xs
no_settings xs = record { among = λ w g i. elim i [ ]; once = λ h v w g k i j e. elim i [ ] }

settled_later : {L : List Set} (x : Part) {xs : List Part} → Settled L xs → Settled L (x ∷ xs)
settled_later x {xs} a = record { among = λ w g i. functions_more x xs g (a.among w g i); once = λ h v w g k i j e. a.once (functions_later x xs h) v w g k i j e }

settled_join : (L M : List Set) (xs ys : List Part) → Settled L xs → Settled M ys → Settled (L ++ M) (xs ++ ys)
settled_join L M xs ys a b = record { among = stands; once = λ h v w g k i j e. one (subst (λ fs. IsDistinct fs) (functions_join xs ys) h) v w g k (in_either L M i) (in_either L M j) e } where
  stands : (w : Path) (g : ℕ) → In (w, g) (L ++ M) → In g (functions_in (xs ++ ys))
  stands w g i = subst (λ fs. In g fs) (sym (functions_join xs ys)) (elim (in_either L M i) [ inl j ↦ in_left (functions_in xs) (functions_in ys) (a.among w g j) | inr j ↦ in_right (functions_in xs) (functions_in ys) (b.among w g j) ])

  one : IsDistinct (functions_in xs ++ functions_in ys) → (v w : Path) (g k : ℕ) → In (v, g) L ⊎ In (v, g) M → In (w, k) L ⊎ In (w, k) M → g ≡ k → v ≡ w
  one h v w g k (inl i) (inl j) e = a.once (once_left (functions_in xs) (functions_in ys) h) v w g k i j e
  one h v w g k (inr i) (inr j) e = b.once (once_right (functions_in xs) (functions_in ys) h) v w g k i j e
  one h v w g k (inl i) (inr j) e = absurd (once_apart g (functions_in xs) (functions_in ys) h (a.among v g i) (subst (λ m. In m (functions_in ys)) (sym e) (b.among w k j)))
  one h v w g k (inr i) (inl j) e = absurd (once_apart k (functions_in xs) (functions_in ys) h (a.among w k j) (subst (λ m. In m (functions_in ys)) e (b.among v g i)))

settled_behind : (L : List Set) (xs ys : List Part) → Settled L ys → Settled L (xs ++ ys)
settled_behind L xs ys a = settled_join [] L xs ys (no_settings xs) a

one_set : (w : Path) (i c f : ℕ) (d : Bool) (xs : List Part) → Settled ((w, f) ∷ []) (makes c f d ∷ xs)
unfolding functions_in
one_set w i c f d xs = record { among = among; once = λ h v u g k a b e. once v u g k a b e } where
  among : (v : Path) (g : ℕ) → In {A = Set} (v, g) ((w, f) ∷ []) → In g (functions_in (makes c f d ∷ xs))
  among v g here = here
  among v g (there i) = elim i [ ]

  once : (v u : Path) (g k : ℕ) → In {A = Set} (v, g) ((w, f) ∷ []) → In {A = Set} (u, k) ((w, f) ∷ []) → g ≡ k → v ≡ u
  once v u g k here here e = refl
  once v u g k here (there j) e = elim j [ ]
  once v u g k (there i) j e = elim i [ ]

module _ (T : Tables) where
  mutual
    unfolding sets_by expr_parts

    sets_settled : (c : ℕ) (o : Option Path) (e : Expr) → Settled (sets_by o e) (expr_parts T c e)
    sets_settled c (Some w) (p.fun i f) = settled_later (has_site i) (one_set w i c f false [])
    sets_settled c None (p.fun i f) = no_settings _
    sets_settled c None (p.object i fs) = settled_later (has_site i) (fields_settled c None fs)
    sets_settled c (Some w) (p.object i fs) = settled_later (has_site i) (fields_settled c (Some w) fs)
    sets_settled c None (p.lit i x) = no_settings _
    sets_settled c (Some w) (p.lit i x) = no_settings _
    sets_settled c None (p.var i r) = no_settings _
    sets_settled c (Some w) (p.var i r) = no_settings _
    sets_settled c None (p.this i) = no_settings _
    sets_settled c (Some w) (p.this i) = no_settings _
    sets_settled c None (p.list i es) = no_settings _
    sets_settled c (Some w) (p.list i es) = no_settings _
    sets_settled c None (p.unary i op e) = no_settings _
    sets_settled c (Some w) (p.unary i op e) = no_settings _
    sets_settled c None (p.binary i op a b) = no_settings _
    sets_settled c (Some w) (p.binary i op a b) = no_settings _
    sets_settled c None (p.and i a b) = no_settings _
    sets_settled c (Some w) (p.and i a b) = no_settings _
    sets_settled c None (p.or i a b) = no_settings _
    sets_settled c (Some w) (p.or i a b) = no_settings _
    sets_settled c None (p.cond i t a b) = no_settings _
    sets_settled c (Some w) (p.cond i t a b) = no_settings _
    sets_settled c None (p.assign i op t e) = no_settings _
    sets_settled c (Some w) (p.assign i op t e) = no_settings _
    sets_settled c None (p.step i up before t) = no_settings _
    sets_settled c (Some w) (p.step i up before t) = no_settings _
    sets_settled c None (p.member i e q) = no_settings _
    sets_settled c (Some w) (p.member i e q) = no_settings _
    sets_settled c None (p.index i e k) = no_settings _
    sets_settled c (Some w) (p.index i e k) = no_settings _
    sets_settled c None (p.call i f es) = no_settings _
    sets_settled c (Some w) (p.call i f es) = no_settings _
    sets_settled c None (p.new i f es) = no_settings _
    sets_settled c (Some w) (p.new i f es) = no_settings _
    sets_settled c None (p.comma i a b) = no_settings _
    sets_settled c (Some w) (p.comma i a b) = no_settings _
    sets_settled c None (p.cast i d e) = no_settings _
    sets_settled c (Some w) (p.cast i d e) = no_settings _
    sets_settled c None (p.tick i n e) = no_settings _
    sets_settled c (Some w) (p.tick i n e) = no_settings _

    fields_settled : (c : ℕ) (o : Option Path) (fs : Fields) → Settled (sets_by_fields o fs) (fields_parts T c fs)
    fields_settled c o p.no_fields = no_settings _
    fields_settled c o (p.more_fields k e fs) = settled_join (sets_by (path_of_key o k) e) (sets_by_fields o fs) (key_parts k ++ expr_parts T c e) (fields_parts T c fs)
        (settled_behind (sets_by (path_of_key o k) e) (key_parts k) (expr_parts T c e) (sets_settled c (path_of_key o k) e)) (fields_settled c o fs)

  option_settled : (c : ℕ) (o : Option Path) (e : Option Expr) → Settled (sets_by_option o e) (option_parts T c e)
  unfolding sets_by_option option_parts
  option_settled c o None = no_settings _
  option_settled c o (Some e) = sets_settled c o e

  vars_settled : (c : ℕ) (ds : List Declarator) → Settled (sets_by_vars ds) (vars_parts T c ds)
  unfolding sets_by_vars vars_parts
  vars_settled c [] = no_settings _
  vars_settled c (d ∷ ds) = settled_later (has_site d.site) (settled_later (declares c d.variable) (settled_join (sets_by_option (path_of_ref d.variable) d.value) (sets_by_vars ds) (option_parts T c d.value) (vars_parts T c ds) (option_settled c (path_of_ref d.variable) d.value) (vars_settled c ds)))

  value_settled : (c : ℕ) (e : Expr) → Settled (sets_by_value e) (expr_parts T c e)
  unfolding sets_by_value expr_parts
  value_settled c (p.assign i None t e) = settled_later (has_site i) (settled_behind (sets_by (path_of_target t) e) (method_in T t e ++ target_parts T c t) (expr_parts T c e) (sets_settled c (path_of_target t) e))
  value_settled c (p.assign i (Some op) t e) = no_settings _
  value_settled c (p.lit i x) = no_settings _
  value_settled c (p.var i r) = no_settings _
  value_settled c (p.this i) = no_settings _
  value_settled c (p.fun i f) = no_settings _
  value_settled c (p.list i es) = no_settings _
  value_settled c (p.object i fs) = no_settings _
  value_settled c (p.unary i op e) = no_settings _
  value_settled c (p.binary i op a b) = no_settings _
  value_settled c (p.and i a b) = no_settings _
  value_settled c (p.or i a b) = no_settings _
  value_settled c (p.cond i t a b) = no_settings _
  value_settled c (p.step i up before t) = no_settings _
  value_settled c (p.member i e q) = no_settings _
  value_settled c (p.index i e k) = no_settings _
  value_settled c (p.call i f es) = no_settings _
  value_settled c (p.new i f es) = no_settings _
  value_settled c (p.comma i a b) = no_settings _
  value_settled c (p.cast i d e) = no_settings _
  value_settled c (p.tick i n e) = no_settings _

  fun_settled : (c f : ℕ) (o : Option Path) (d : Bool) → Settled (sets_by_fun o f) (makes c f d ∷ [])
  unfolding sets_by_fun
  fun_settled c f None d = no_settings _
  fun_settled c f (Some w) d = one_set w 0 c f d []

  stmt_settled : (c : ℕ) (s : Stmt) → Settled (sets_by_stmt s) (stmt_parts T c s)
  unfolding sets_by_stmt stmt_parts
  stmt_settled c (p.simple i e) = settled_later (has_site i) (value_settled c e)
  stmt_settled c (p.vars i ds) = settled_later (has_site i) (vars_settled c ds)
  stmt_settled c (p.fun_decl i r f) = settled_later (has_site i) (settled_later (declares c r) (fun_settled c f (path_of_ref r) true))
  stmt_settled c (p.if i t a b) = no_settings _
  stmt_settled c (p.while i t b) = no_settings _
  stmt_settled c (p.do_while i b t) = no_settings _
  stmt_settled c (p.for i h t e b) = no_settings _
  stmt_settled c (p.for_in i t e b) = no_settings _
  stmt_settled c (p.return i e) = no_settings _
  stmt_settled c (p.throw i e) = no_settings _
  stmt_settled c (p.break i l) = no_settings _
  stmt_settled c (p.continue i l) = no_settings _
  stmt_settled c (p.label i l b) = no_settings _
  stmt_settled c (p.switch i e cs) = no_settings _
  stmt_settled c (p.try i b k f) = no_settings _
  stmt_settled c (p.pay_stmt i n) = no_settings _

  stmts_settled : (c : ℕ) (ss : Stmts) → Settled (sets_by_stmts ss) (stmts_parts T c ss)
  unfolding sets_by_stmts stmt_parts
  stmts_settled c p.no_stmts = no_settings _
  stmts_settled c (p.more_stmts s ss) = settled_join (sets_by_stmt s) (sets_by_stmts ss) (stmt_parts T c s) (stmts_parts T c ss) (stmt_settled c s) (stmts_settled c ss)

  -- ---- all scopes

  pub all_parts : List Scope → List Part
  all_parts [] = []
  all_parts (s ∷ ss) = stmts_parts T 0 s.body ++ all_parts ss

  pub functions_are : (ss : List Scope) → functions_in (all_parts ss) ≡ all_functions T ss
  unfolding all_parts all_functions functions_in
  functions_are [] = refl
  functions_are (s ∷ ss) = functions_join (stmts_parts T 0 s.body) (all_parts ss) ∙ ap (λ fs. functions_in (stmts_parts T 0 s.body) ++ fs) (functions_are ss)

  pub all_tidy : (ss : List Scope) → Tidy (all_parts ss)
  unfolding all_parts stmts_parts
  all_tidy [] = stmts_tidy T 0 p.no_stmts
  all_tidy (s ∷ ss) = tidy_join (stmts_parts T 0 s.body) (all_parts ss) (stmts_tidy T 0 s.body) (all_tidy ss)

  pub all_settled : (cs : List ChunkInfo) (ss : List Scope) → Settled (sets_by_chunks cs ss) (all_parts ss)
  unfolding sets_by_chunks all_parts
  all_settled [] ss = no_settings _
  all_settled (c ∷ cs) [] = no_settings _
  all_settled (c ∷ cs) (s ∷ ss) = settled_join (sets_by_stmts s.body) (sets_by_chunks cs ss) (stmts_parts T 0 s.body) (all_parts ss) (stmts_settled 0 s.body) (all_settled cs ss)

  pub part_in : (k : ℕ) (s : Scope) (ss : List Scope) (x : Part) → slice_get ss k ≡ Some s → In x (stmts_parts T 0 s.body) → In x (all_parts ss)
  unfolding all_parts
  part_in k s [] x e i = absurd (cc)
  part_in ℕ.zero s (z ∷ ss) x e i = in_left (stmts_parts T 0 z.body) (all_parts ss) (let q : z ≡ s = cc in subst (λ y. In x (stmts_parts T 0 y.body)) (sym q) i)
  part_in (suc k) s (z ∷ ss) x e i = in_right (stmts_parts T 0 z.body) (all_parts ss) (part_in k s ss x e i)

pub same_all : (T U : Tables) → T.props ≡ U.props → (ss : List Scope) → all_parts T ss ≡ all_parts U ss
unfolding all_parts
same_all T U h [] = refl
same_all T U h (s ∷ ss) = rw (stmts_same T U h 0 s.body) (rw (same_all T U h ss) refl)

pub part_out : (T : Tables) (ss : List Scope) (x : Part) → In x (all_parts T ss) → (k : ℕ) × (s : Scope) × (slice_get ss k ≡ Some s) × In x (stmts_parts T 0 s.body)
unfolding all_parts
part_out T [] x i = elim i [ ]
part_out T (s ∷ ss) x i = elim (in_either (stmts_parts T 0 s.body) (all_parts T ss) i) [
  | inl j ↦ (0, s, refl, j)
  | inr j ↦ (let d = part_out T ss x j in (suc d.0, d.1, d.2, d.3))
]

pub parts_first : (T : Tables) (s : Scope) (ss : List Scope) (x : Part) → In x (stmts_parts T 0 s.body) → In x (all_parts T (s ∷ ss))
unfolding all_parts
parts_first T s ss x i = in_left (stmts_parts T 0 s.body) (all_parts T ss) i

pub parts_later : (T : Tables) (s : Scope) (ss : List Scope) (x : Part) → In x (all_parts T ss) → In x (all_parts T (s ∷ ss))
unfolding all_parts
parts_later T s ss x i = in_right (stmts_parts T 0 s.body) (all_parts T ss) i

-- ---- the lists of methods

pub methods_out : (w : Path) (xs : List Part) (q f : ℕ) → In (q, f) (methods_in w xs) → In (sets_method w q f) xs
unfolding methods_in
methods_out w [] q f i = elim i [ ]
methods_out w (sets_method v r g ∷ xs) q f i = by (same_path v w) refl i (λ j. methods_out w xs q f j) where
  first : v ≡ w → ◌≡◌ {A = ℕ × ℕ} (q, f) (r, g) → In (sets_method w q f) (sets_method v r g ∷ xs)
  first e d = subst (λ u. In (sets_method w q f) (sets_method u r g ∷ xs)) (sym e) (subst (λ z. In (sets_method w q f) (sets_method w z.0 z.1 ∷ xs)) d here)

  by : (b : Bool) → same_path v w ≡ b → In (q, f) (pick b ((r, g) ∷ methods_in w xs) (methods_in w xs)) → (In (q, f) (methods_in w xs) → In (sets_method w q f) xs) → In (sets_method w q f) (sets_method v r g ∷ xs)
  by true e j again = elim (head_or {A = ℕ × ℕ} (q, f) (r, g) (methods_in w xs) j) [ inl d ↦ first (path_equal v w e) d | inr k ↦ there (again k) ]
  by false e j again = there (again j)
methods_out w (has_site i ∷ xs) q f j = there (methods_out w xs q f j)
methods_out w (uses_prop i ∷ xs) q f j = there (methods_out w xs q f j)
methods_out w (uses_doc i ∷ xs) q f j = there (methods_out w xs q f j)
methods_out w (mentions c r ∷ xs) q f j = there (methods_out w xs q f j)
methods_out w (declares c r ∷ xs) q f j = there (methods_out w xs q f j)
methods_out w (makes c g d ∷ xs) q f j = there (methods_out w xs q f j)

pub methods_into : (w : Path) (xs : List Part) (q f : ℕ) → In (sets_method w q f) xs → In {A = ℕ × ℕ} (q, f) (methods_in w xs)
unfolding methods_in
methods_into w [] q f i = elim i [ ]
methods_into w (x ∷ xs) q f here = rw (path_itself w) here
methods_into w (sets_method v r g ∷ xs) q f (there i) = by (same_path v w) (methods_into w xs q f i) where
  by : (b : Bool) → In {A = ℕ × ℕ} (q, f) (methods_in w xs) → In {A = ℕ × ℕ} (q, f) (pick b ((r, g) ∷ methods_in w xs) (methods_in w xs))
  by true j = there j
  by false j = j
methods_into w (has_site k ∷ xs) q f (there i) = methods_into w xs q f i
methods_into w (uses_prop k ∷ xs) q f (there i) = methods_into w xs q f i
methods_into w (uses_doc k ∷ xs) q f (there i) = methods_into w xs q f i
methods_into w (mentions c r ∷ xs) q f (there i) = methods_into w xs q f i
methods_into w (declares c r ∷ xs) q f (there i) = methods_into w xs q f i
methods_into w (makes c g d ∷ xs) q f (there i) = methods_into w xs q f i

module _ (T : Tables) where
  pub among_out : (w : Path) (ss : List Scope) (q f : ℕ) → In {A = ℕ × ℕ} (q, f) (methods_among T w ss) → In (sets_method w q f) (all_parts T ss)
  unfolding methods_among all_parts
  among_out w [] q f i = elim i [ ]
  among_out w (s ∷ ss) q f i = elim (in_either (methods_in w (stmts_parts T 0 s.body)) (methods_among T w ss) i) [
    | inl j ↦ in_left (stmts_parts T 0 s.body) (all_parts T ss) (methods_out w (stmts_parts T 0 s.body) q f j)
    | inr j ↦ in_right (stmts_parts T 0 s.body) (all_parts T ss) (among_out w ss q f j)
  ]

  pub among_into : (w : Path) (ss : List Scope) (q f : ℕ) → In (sets_method w q f) (all_parts T ss) → In {A = ℕ × ℕ} (q, f) (methods_among T w ss)
  unfolding methods_among all_parts
  among_into w [] q f i = elim i [ ]
  among_into w (s ∷ ss) q f i = elim (in_either (stmts_parts T 0 s.body) (all_parts T ss) i) [
    | inl j ↦ in_left (methods_in w (stmts_parts T 0 s.body)) (methods_among T w ss) (methods_into w (stmts_parts T 0 s.body) q f j)
    | inr j ↦ in_right (methods_in w (stmts_parts T 0 s.body)) (methods_among T w ss) (among_into w ss q f j)
  ]

-- ---- the functions that are methods

pub has_in : (f : ℕ) (fs : List ℕ) → In f fs → has f fs ≡ true
unfolding has
has_in f [] i = elim i [ ]
has_in f (g ∷ gs) i = by (nat_eq f g) refl (head_or f g gs i) (λ j. has_in f gs j) where
  by : (b : Bool) → nat_eq f g ≡ b → (f ≡ g) ⊎ In f gs → (In f gs → has f gs ≡ true) → cond b true (has f gs) ≡ true
  by true e h r = refl
  by false e (inl d) r = absurd (grind (arith, nat_tests))
  by false e (inr j) r = r j

method_function : (xs : List Part) (w : Path) (q f : ℕ) → In (sets_method w q f) xs → In f (method_functions xs)
unfolding method_functions
method_function [] w q f i = elim i [ ]
method_function (x ∷ xs) w q f here = here
method_function (sets_method v r g ∷ xs) w q f (there i) = there (method_function xs w q f i)
method_function (has_site k ∷ xs) w q f (there i) = method_function xs w q f i
method_function (uses_prop k ∷ xs) w q f (there i) = method_function xs w q f i
method_function (uses_doc k ∷ xs) w q f (there i) = method_function xs w q f i
method_function (mentions c r ∷ xs) w q f (there i) = method_function xs w q f i
method_function (declares c r ∷ xs) w q f (there i) = method_function xs w q f i
method_function (makes c g d ∷ xs) w q f (there i) = method_function xs w q f i

pub method_listed : (T : Tables) (ss : List Scope) (w : Path) (q f : ℕ) → In (sets_method w q f) (all_parts T ss) → In f (all_methods T ss)
unfolding all_parts all_methods
method_listed T [] w q f i = elim i [ ]
method_listed T (s ∷ ss) w q f i = elim (in_either (stmts_parts T 0 s.body) (all_parts T ss) i) [
  | inl j ↦ in_left (method_functions (stmts_parts T 0 s.body)) (all_methods T ss) (method_function (stmts_parts T 0 s.body) w q f j)
  | inr j ↦ in_right (method_functions (stmts_parts T 0 s.body)) (all_methods T ss) (method_listed T ss w q f j)
]

-- What a rewriting keeps of what globals and paths are set to, and of the prototypes that statements
-- declare.
use Rattle.std.proofs.Common.{◌≡◌, ◌⊎◌, inl, inr, ℕ, Bool, true, false, List, [], ◌∷◌, ◌++◌, Option, Some, None, refl, sym, ap, subst, ◌∙◌}
use Rattle.std.specs.Prelude.{◌&&◌, ◌||◌, nat_eq, if◌then◌else◌}
use Rattle.std.specs.List.{filter, list_any}
use Rattle.cc_ast.specs.Syntax.{Expr, fun, object, assign, member, call, Target, to_var, to_member, to_index, Exprs, no_exprs, more_exprs, Fields, no_fields, more_fields, Declarator, Stmt, simple, vars, fun_decl, Stmts, no_stmts, more_stmts}
use Rattle.cc_ast.specs.declared.tree.Key.{Key}
use Rattle.cc_ast.specs.declared.tree.Ref.{Ref}
use Rattle.cc_meaning.specs.Names.{name_create, name_prototype}
use Rattle.cc_meaning.specs.State.{Path, Tables}
use Rattle.cc_meaning.specs.Monad.{pick}
use Rattle.cc_meaning.specs.Store.{name_of, global_kind, same_numbers, set_to, is_number, class_of_function}
use Rattle.cc_meaning.specs.SlotRules.{extended, function_in}
use Rattle.cc_meaning.specs.Alike.{In, here, there}
use Rattle.cc_meaning.specs.Shapes.{longer, path_of, path_of_ref, path_of_key, path_of_target, names_object, is_named, is_create, prototype_path, prototype_path_alone, created_from, class_at, extended_function, extends_one, set_by, prototype_target, declared_in, declared_by, sets_by, sets_by_fields, sets_by_option, sets_by_vars, sets_by_value, sets_by_stmt, sets_by_stmts}
use Rattle.cc_tied.specs.Placed.{Place, a_value, an_assigned, an_object}
use Rattle.cc_tied.specs.Rewrites.{re, re_target, re_fields, re_value, re_option, re_declarator, re_declarators, re_stmt, re_stmts, whole}
use Rattle.cc_tied.proofs.Mixed.KeptPaths.{Stays, re_fun, re_object, re_assign, path_kept, target_kept, created_kept}

-- ---- lists

abbrev pub Within : {A : Type 0} → List A → List A → Type 0
Within {A = A} xs ys = (x : A) → In x xs → In x ys

pub in_left : {A : Type 0} {x : A} {xs : List A} (ys : List A) → In x xs → In x (xs ++ ys)
in_left ys here = here
in_left ys (there i) = there (in_left ys i)

pub in_right : {A : Type 0} {x : A} (xs : List A) {ys : List A} → In x ys → In x (xs ++ ys)
in_right [] i = i
in_right (y ∷ xs) i = there (in_right xs i)

pub in_either : {A : Type 0} {x : A} (xs : List A) {ys : List A} → In x (xs ++ ys) → In x xs ⊎ In x ys
in_either [] i = inr i
in_either (y ∷ xs) here = inl here
in_either (y ∷ xs) (there i) = elim (in_either xs i) [ inl j ↦ inl (there j) | inr j ↦ inr j ]

pub within_both : {A : Type 0} (xs : List A) {ys us vs : List A} → Within xs us → Within ys vs → Within (xs ++ ys) (us ++ vs)
within_both [] {us = us} f g x i = in_right us (g x i)
within_both (y ∷ xs) {vs = vs} f g x here = in_left vs (f x here)
within_both (y ∷ xs) f g x (there i) = within_both xs (λ z j. f z (there j)) g x i

-- ---- parts of lists

any_into : {A : Type 0} (q : A → Bool) {x : A} (ys : List A) → q x ≡ true → In x ys → list_any q ys ≡ true
any_into q [] e i = elim i [ ]
any_into q (y ∷ ys) e here = ap (λ z. z || list_any q ys) e
any_into q (y ∷ ys) e (there i) = later (q y) (any_into q ys e i)
  where
    later : (b : Bool) {c : Bool} → c ≡ true → b || c ≡ true
    later true h = refl
    later false h = h

any_within : {A : Type 0} (p q : A → Bool) → ((x : A) → p x ≡ true → q x ≡ true) → (xs ys : List A) → Within xs ys → list_any p xs ≡ true → list_any q ys ≡ true
any_within p q f [] ys w e = absurd (cc)
any_within p q f (x ∷ xs) ys w e = by_first (p x) refl e (λ d. any_within p q f xs ys (λ z i. w z (there i)) d)
  where
    by_first : (b : Bool) → p x ≡ b → b || list_any p xs ≡ true → (list_any p xs ≡ true → list_any q ys ≡ true) → list_any q ys ≡ true
    by_first true h e k = any_into q ys (f x h) (w x here)
    by_first false h e k = k e

kept_in : {A : Type 0} (b : Bool) (q : A → Bool) (y : A) (ys : List A) {x : A} → In x (filter q ys) → In x (if b then y ∷ filter q ys else filter q ys)
kept_in true q y ys i = there i
kept_in false q y ys i = i

filter_into : {A : Type 0} (q : A → Bool) {x : A} (ys : List A) → q x ≡ true → In x ys → In x (filter q ys)
filter_into q [] e i = elim i [ ]
filter_into q {x = x} (y ∷ ys) e here = subst (λ z. In x (if z then x ∷ filter q ys else filter q ys)) (sym e) here
filter_into q (y ∷ ys) e (there i) = kept_in (q y) q y ys (filter_into q ys e i)

filtered : {A : Type 0} (b : Bool) (y : A) (ys : List A) {x : A} → In x (if b then y ∷ ys else ys) → ((b ≡ true) × (y ≡ x)) ⊎ In x ys
filtered true y ys here = inl (refl, refl)
filtered true y ys (there i) = inr i
filtered false y ys i = inr i

pub filter_within : {A : Type 0} (p q : A → Bool) → ((x : A) → p x ≡ true → q x ≡ true) → (xs ys : List A) → Within xs ys → Within (filter p xs) (filter q ys)
filter_within p q f [] ys w x i = elim i [ ]
filter_within p q f (y ∷ xs) ys w x i = elim (filtered (p y) y (filter p xs) i) [ inl d ↦ subst (λ z. In z (filter q ys)) d.1 (filter_into q ys (f y d.0) (w y here)) | inr j ↦ filter_within p q f xs ys (λ z k. w z (there k)) x j ]

-- ---- which functions a path is set to

abbrev IsAt : Path × ℕ → Path → Bool
IsAt x p = nat_eq x.0.0 p.0 && same_numbers x.0.1 p.1

picked : (b : Bool) (g : ℕ) (fs : List ℕ) (f : ℕ) → In f (pick b (g ∷ fs) fs) → ((b ≡ true) × (g ≡ f)) ⊎ In f fs
picked true g fs f here = inl (refl, refl)
picked true g fs f (there i) = inr i
picked false g fs f i = inr i

picked_first : (b : Bool) (g : ℕ) (fs : List ℕ) → b ≡ true → In g (pick b (g ∷ fs) fs)
picked_first true g fs h = here
picked_first false g fs h = absurd (cc)

picked_more : (b : Bool) (g : ℕ) (fs : List ℕ) (f : ℕ) → In f fs → In f (pick b (g ∷ fs) fs)
picked_more true g fs f i = there i
picked_more false g fs f i = i

set_into : (ys : List (Path × ℕ)) (p : Path) (x : Path × ℕ) → IsAt x p ≡ true → In x ys → In x.1 (set_to ys p)
unfolding set_to
set_into [] p x h i = elim i [ ]
set_into (y ∷ ys) p x h here = picked_first (IsAt x p) x.1 (set_to ys p) h
set_into (y ∷ ys) p x h (there i) = picked_more (IsAt y p) y.1 (set_to ys p) x.1 (set_into ys p x h i)

pub set_within : (xs ys : List (Path × ℕ)) (p : Path) → Within xs ys → Within (set_to xs p) (set_to ys p)
unfolding set_to
set_within [] ys p w f i = elim i [ ]
set_within (x ∷ xs) ys p w f i = elim (picked (IsAt x p) x.1 (set_to xs p) f i) [
  | inl e ↦ subst (λ z. In z (set_to ys p)) e.1 (set_into ys p x e.0 (w x here))
  | inr j ↦ set_within xs ys p (λ z k. w z (there k)) f j
]

-- ---- what expressions and statements set

-- what is left of declarators and of statements before others sets no less than they did
pub record KeepsSets (trim : Declarator → List Declarator) (cut : Stmt → Stmts → Stmts) : Type 0 where
  pub trims : (d : Declarator) → Within (sets_by_option (path_of_ref d.variable) d.value) (sets_by_vars (trim d))
  pub cuts : (s : Stmt) (ss : Stmts) → Within (sets_by_stmt s ++ sets_by_stmts ss) (sets_by_stmts (cut s ss))

pub whole_sets : KeepsSets whole more_stmts
unfolding sets_by_vars sets_by_stmts
whole_sets = record { trims = λ d x j. in_left [] j; cuts = λ s ss x j. j }

vars_joined : (ds es : List Declarator) → Within (sets_by_vars ds ++ sets_by_vars es) (sets_by_vars (ds ++ es))
unfolding sets_by_vars
vars_joined [] es x j = j
vars_joined (d ∷ ds) es x j = joined_on (sets_by_option (path_of_ref d.variable) d.value) (sets_by_vars ds) (sets_by_vars es) (vars_joined ds es) x j
  where
    joined_on : {A : Type 0} (us vs ws : List A) {zs : List A} → Within (vs ++ ws) zs → Within ((us ++ vs) ++ ws) (us ++ zs)
    joined_on [] vs ws h x j = h x j
    joined_on (u ∷ us) vs ws h x here = here
    joined_on (u ∷ us) vs ws h x (there j) = there (joined_on us vs ws h x j)

-- a path that is none is set to nothing
mutual
  unfolding sets_by sets_by_fields path_of_key longer

  pub set_nothing : (e : Expr) (x : Path × ℕ) → In x (sets_by None e) → ⊥
  set_nothing (object i fs) x j = fields_nothing fs x j
  set_nothing e x j = elim j [ ]

  fields_nothing : (fs : Fields) (x : Path × ℕ) → In x (sets_by_fields None fs) → ⊥
  fields_nothing no_fields x j = elim j [ ]
  fields_nothing (more_fields (Key.Dotted p) e fs) x j = elim (in_either (sets_by None e) j) [ inl k ↦ set_nothing e x k | inr k ↦ fields_nothing fs x k ]
  fields_nothing (more_fields (Key.Quoted t) e fs) x j = elim (in_either (sets_by None e) j) [ inl k ↦ set_nothing e x k | inr k ↦ fields_nothing fs x k ]

module _ (built : Ref → Bool) (step : Expr → Expr) (step_call : ℕ → Expr → Exprs → Expr) (S : Stays step step_call) where
  abbrev R : Bool → Place → Expr → Expr
  R t q e = re built step step_call t q e

  mutual
    unfolding sets_by sets_by_fields re_fields

    sets_within : (w : Option Path) (t : Bool) (q : Place) (e : Expr) → Within (sets_by w e) (sets_by w (R t q e))
    sets_within (Some w) t q (fun i f) x j = subst (λ z. In x (sets_by (Some w) z)) (sym (re_fun built step step_call S t q i f)) j
    sets_within w t q (object i fs) x j = subst (λ z. In x (sets_by w z)) (sym (re_object built step step_call S t q i fs)) (fields_within w t fs x j)
    sets_within w t q e x j = elim j [ ]

    fields_within : (w : Option Path) (t : Bool) (fs : Fields) → Within (sets_by_fields w fs) (sets_by_fields w (re_fields built step step_call t fs))
    fields_within w t no_fields x j = j
    fields_within w t (more_fields k e fs) x j = within_both (sets_by (path_of_key w k) e) (sets_within (path_of_key w k) t a_value e) (fields_within w t fs) x j

  option_within : (w : Option Path) (o : Option Expr) → Within (sets_by_option w o) (sets_by_option w (re_option built step step_call o))
  unfolding sets_by_option re_option re_value
  option_within w None x j = j
  option_within w (Some e) x j = sets_within w false a_value e x j

  by_path : (o o' : Option Path) (e : Expr) → ((w : Path) → o ≡ Some w → o' ≡ Some w) → Within (sets_by o e) (sets_by o' (R false an_assigned e))
  by_path None o' e k x j = absurd (set_nothing e x j)
  by_path (Some w) o' e k x j = subst (λ z. In x (sets_by z (R false an_assigned e))) (sym (k w refl)) (sets_within (Some w) false an_assigned e x j)

  value_within : (e : Expr) → Within (sets_by_value e) (sets_by_value (R false a_value e))
  unfolding sets_by_value
  value_within (assign i None u e) x j = subst (λ z. In x (sets_by_value z)) (sym (re_assign built step step_call S false a_value i None u e)) (by_path (path_of_target u) _ e (target_kept built step step_call S u) x j)
  value_within e x j = elim j [ ]

  module _ (trim : Declarator → List Declarator) (trim_in : Declarator → Declarator) (cut : Stmt → Stmts → Stmts) (keeps : KeepsSets trim cut) where
    vars_within : (ds : List Declarator) → Within (sets_by_vars ds) (sets_by_vars (re_declarators built step step_call trim trim_in ds))
    unfolding sets_by_vars re_declarators re_declarator
    vars_within [] x j = j
    vars_within (d ∷ ds) x j = vars_joined (trim (re_declarator built step step_call d)) _ x (within_both (sets_by_option (path_of_ref d.variable) d.value) (λ y i. keeps.trims _ y (option_within (path_of_ref d.variable) d.value y i)) (vars_within ds) x j)

    abbrev RS : Stmt → Stmt
    RS s = re_stmt built step step_call trim trim_in cut s

    stmt_within : (s : Stmt) → Within (sets_by_stmt s) (sets_by_stmt (RS s))
    unfolding sets_by_stmt re_stmt re_value
    stmt_within (simple i e) x j = value_within e x j
    stmt_within (vars i ds) x j = vars_within ds x j
    stmt_within (fun_decl i r f) x j = j
    stmt_within s x j = elim j [ ]

    pub stmts_within : (ss : Stmts) → Within (sets_by_stmts ss) (sets_by_stmts (re_stmts built step step_call trim trim_in cut ss))
    unfolding sets_by_stmts re_stmts
    stmts_within no_stmts x j = j
    stmts_within (more_stmts s ss) x j = keeps.cuts (RS s) _ x (within_both (sets_by_stmt s) (stmt_within s) (stmts_within ss) x j)

-- ---- what statements declare, where paths are set to no less

module _ (T : Tables) (set' : List (Path × ℕ)) where
  abbrev T' : Tables
  T' = record T { set = set' }

  named_same : (p : ℕ) (n : List ℕ) → is_named T' p n ≡ is_named T p n
  unfolding is_named name_of
  named_same p n = refl

  object_same : (o : Option Path) → names_object T' o ≡ names_object T o
  unfolding names_object global_kind
  object_same None = refl
  object_same (Some (n, [])) = refl
  object_same (Some (n, p ∷ ps)) = refl

  create_same : (e : Expr) → is_create T' e ≡ is_create T e
  unfolding is_create
  create_same (member i e p) = ap (λ z. z && names_object T' (path_of e)) (named_same p name_create) ∙ ap (λ z. is_named T p name_create && z) (object_same (path_of e))
  create_same e = refl

  prototype_same : (e : Expr) → prototype_path T' e ≡ prototype_path T e
  unfolding prototype_path
  prototype_same (member i e p) = ap (λ z. pick z (path_of e) None) (named_same p name_prototype)
  prototype_same e = refl

  alone_same : (es : Exprs) → prototype_path_alone T' es ≡ prototype_path_alone T es
  unfolding prototype_path_alone
  alone_same no_exprs = refl
  alone_same (more_exprs e no_exprs) = prototype_same e
  alone_same (more_exprs e (more_exprs d es)) = refl

  created_same : (e : Expr) → created_from T' e ≡ created_from T e
  unfolding created_from
  created_same (call i f es) = ap (λ z. pick z (prototype_path_alone T' es) None) (create_same f) ∙ ap (λ z. pick (is_create T f) z None) (alone_same es)
  created_same e = refl

  class_same : (f : ℕ) → class_of_function T' f ≡ class_of_function T f
  unfolding class_of_function
  class_same f = refl

  at_same : (o : Option ℕ) → class_at T' o ≡ class_at T o
  unfolding class_at
  at_same None = refl
  at_same (Some c) = refl

  extended_same : (f : ℕ) → extended_function T' f ≡ extended_function T f
  unfolding extended_function
  extended_same f =
      ap (λ z. function_in (class_at T' (extended (class_at T' z)))) (class_same f)
      ∙ ap (λ z. function_in (class_at T' (extended z))) (at_same (class_of_function T f))
      ∙ ap function_in (at_same (extended (class_at T (class_of_function T f))))

  extends_within : (gs hs : List ℕ) → Within gs hs → (f : ℕ) → extends_one T gs f ≡ true → extends_one T' hs f ≡ true
  unfolding extends_one
  extends_within gs hs w f e = any_within _ _ (λ g d. ap (λ z. is_number z g) (extended_same f) ∙ d) gs hs w e

  module _ (more : Within T.set set') where
    set_by_within : (o : Option Path) → Within (set_by T o) (set_by T' o)
    unfolding set_by
    set_by_within None f j = j
    set_by_within (Some w) f j = set_within T.set set' w more f j

    picked_within : (b c : Bool) (fs gs : List ℕ) → (b ≡ true → c ≡ true) → Within fs gs → Within (pick b fs []) (pick c gs [])
    picked_within true c fs gs k h f j = subst (λ z. In f (pick z gs [])) (sym (k refl)) (h f j)
    picked_within false c fs gs k h f j = elim j [ ]

    -- a path that is kept, or nothing is set to it
    by_kept : (o o' : Option Path) → ((w : Path) → o ≡ Some w → o' ≡ Some w) → Within (set_by T o) (set_by T' o')
    unfolding set_by
    by_kept None o' k f j = elim j [ ]
    by_kept (Some w) o' k f j = subst (λ z. In f (set_by T' z)) (sym (k w refl)) (set_by_within (Some w) f j)

    target_same : (u : Target) → Within (prototype_target T u) (prototype_target T' u)
    unfolding prototype_target
    target_same (to_var i r) f j = j
    target_same (to_member i e p) f j = picked_within (is_named T p name_prototype) (is_named T' p name_prototype) (set_by T (path_of e)) (set_by T' (path_of e)) (λ h. named_same p name_prototype ∙ h) (set_by_within (path_of e)) f j
    target_same (to_index i e k) f j = j

    -- where the prototype that is extended stays
    declares_more : (e e' : Expr) (fs gs : List ℕ) → ((w : Path) → created_from T e ≡ Some w → created_from T e' ≡ Some w) → Within fs gs → Within (filter (extends_one T (set_by T (created_from T e))) fs) (filter (extends_one T' (set_by T' (created_from T' e'))) gs)
    declares_more e e' fs gs k h f j = filter_within _ _ (λ g d. extends_within (set_by T (created_from T e)) (set_by T' (created_from T' e')) (by_kept (created_from T e) (created_from T' e') (λ w q. created_same e' ∙ k w q)) g d) fs gs h f j

    declared_same : (e : Expr) → Within (declared_in T e) (declared_in T' e)
    unfolding declared_in
    declared_same (assign i None u e) f j = declares_more e e (prototype_target T u) (prototype_target T' u) (λ w h. h) (target_same u) f j
    declared_same e f j = elim j [ ]

    -- a statement that stays declares what it declared
    pub declares_same : (s : Stmt) → Within (declared_by T s) (declared_by T' s)
    unfolding declared_by
    declares_same (simple i e) f j = declared_same e f j
    declares_same s f j = elim j [ ]

    module _ (built : Ref → Bool) (step : Expr → Expr) (step_call : ℕ → Expr → Exprs → Expr) (S : Stays step step_call) where
      abbrev R' : Bool → Place → Expr → Expr
      R' t q e = re built step step_call t q e

      target_within : (u : Target) → Within (prototype_target T u) (prototype_target T' (re_target built step step_call u))
      unfolding prototype_target re_target
      target_within (to_var i r) f j = elim j [ ]
      target_within (to_member i e p) f j = picked_within (is_named T p name_prototype) (is_named T' p name_prototype) (set_by T (path_of e)) (set_by T' (path_of (R' true an_object e))) (λ h. named_same p name_prototype ∙ h) (by_kept (path_of e) _ (path_kept built step step_call S true an_object e)) f j
      target_within (to_index i e k) f j = elim j [ ]

      declared_within : (e : Expr) → Within (declared_in T e) (declared_in T' (R' false a_value e))
      unfolding declared_in
      declared_within (assign i None u e) f j =
          subst (λ z. In f (declared_in T' z)) (sym (re_assign built step step_call S false a_value i None u e))
          (declares_more e (R' false an_assigned e) (prototype_target T u) (prototype_target T' (re_target built step step_call u)) (λ w h. created_kept built step step_call S T false an_assigned e w h) (target_within u) f j)
      declared_within e f j = elim j [ ]

      -- a statement that is rewritten declares no less than before
      pub declares_within : (trim : Declarator → List Declarator) (trim_in : Declarator → Declarator) (cut : Stmt → Stmts → Stmts) (s : Stmt) → Within (declared_by T s) (declared_by T' (re_stmt built step step_call trim trim_in cut s))
      unfolding declared_by re_stmt re_value
      declares_within trim trim_in cut (simple i e) f j = declared_within e f j
      declares_within trim trim_in cut s f j = elim j [ ]

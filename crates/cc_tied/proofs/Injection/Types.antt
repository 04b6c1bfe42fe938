-- Values that are tied by an injection are of the same types, and what was entered for arrays.
use Rattle.std.proofs.Common.{◌≡◌, ◌⊎◌, inl, inr, ℕ, suc, Bool, true, false, List, [], ◌∷◌, ◌++◌, Option, Some, None, refl, sym, ap, subst, ◌∙◌}
use Rattle.std.specs.Prelude.{slice_get, ◌||◌}
use Rattle.std.specs.List.{list_any}
use Rattle.std.proofs.lemmas.Bool.{eqb-true}
use Rattle.cc_ast.specs.Syntax.{Prim}
use Rattle.cc_ast.specs.declared.tables.Class.{Class}
use Rattle.cc_ast.specs.declared.tables.TypeSet.{TypeSet}
use Rattle.cc_ast.specs.declared.tables.Element.{Element}
use Rattle.cc_meaning.specs.Values.{Val}
use Rattle.cc_meaning.specs.Operators.{is_in}
use Rattle.cc_meaning.specs.State.{Obj, Tables}
use Rattle.cc_meaning.specs.Monad.{pick}
use Rattle.cc_meaning.specs.Store.{Access, name_of, is_kept, same_numbers}
use Rattle.cc_meaning.specs.Typed.{object_of, of_kinds, of_element, all_of_element, array_of, elements_fit, of_type, of_opt_type, of_all_types, of_all_elements, doc_at, function_doc, Variable, global, local, flat, variable_doc, is_param, param_type, variable_type, is_settled, types_of_fields, fields_from, class_in, fields_of_class, field_types, same_element, entered}
use Rattle.cc_meaning.specs.SlotRules.{is_dot, fields_reached}
use Rattle.cc_meaning.specs.Alike.{In, here, there}
use Rattle.cc_tied.specs.Tied.{ListT, nil_t, cons_t, OptT, none_t, some_t, prim_t, out_t, obj_t}
use Rattle.cc_tied.specs.Facts.{Facts}
use Rattle.cc_tied.proofs.Injection.World.{Tabs, Mates, Vals}
use Rattle.cc_tied.proofs.Injection.Tie.{Other, KeyI, with_set}
use Rattle.cc_tied.proofs.Injection.Rules.{and_true, true_and, texts_one, name_same, dot_same}
use Rattle.cc_tied.proofs.Injection.Objects.{ObjAt, obj_at, elements_at, class_at, is_some_same}

-- ---- what the tables say

module _ (S : Tables) (set' : Other S) where
  abbrev R : Tables
  R = with_set S set'

  pub function_doc_same : (f : ℕ) → function_doc S f ≡ function_doc R f
  unfolding function_doc doc_at
  function_doc_same f = refl

  pub doc_at_same : (o : Option ℕ) → doc_at S o ≡ doc_at R o
  unfolding doc_at
  doc_at_same None = refl
  doc_at_same (Some d) = refl

  -- variables that both programs have
  pub data Shared : Variable → Type 0 where
    shared_global : {n : ℕ} → (set'.Foreign n → ⊥) → Shared (global n)
    shared_local : {f n : ℕ} → Shared (local f n)
    shared_flat : {g k : ℕ} → set'.Flat (g, k) → Shared (flat g k)

  local_type_same : (f n : ℕ) → variable_type S (local f n) ≡ variable_type R (local f n)
  unfolding variable_type is_param param_type variable_doc doc_at function_doc
  local_type_same f n = refl

  local_settled_same : (f n : ℕ) → is_settled S (local f n) ≡ is_settled R (local f n)
  unfolding is_settled is_param variable_doc doc_at function_doc
  local_settled_same f n = refl

  pub variable_type_same : {x : Variable} → Shared x → variable_type S x ≡ variable_type R x
  variable_type_same (shared_global {n = n} f) = set'.types n f
  variable_type_same (shared_local {f = f} {n = n}) = local_type_same f n
  variable_type_same (shared_flat {g = g} {k = k} f) = set'.flat_types (g, k) f

  pub is_settled_same : {x : Variable} → Shared x → is_settled S x ≡ is_settled R x
  is_settled_same (shared_global {n = n} f) = set'.settled n f
  is_settled_same (shared_local {f = f} {n = n}) = local_settled_same f n
  is_settled_same (shared_flat {g = g} {k = k} f) = set'.flat_settled (g, k) f

  types_of_fields_same : (n : List ℕ) (xs : List (ℕ × ℕ)) → types_of_fields S n xs ≡ types_of_fields R n xs
  unfolding types_of_fields doc_at
  types_of_fields_same n [] = refl
  types_of_fields_same n (x ∷ xs) = rw (types_of_fields_same n xs) refl

  fields_from_same : (k : ℕ) (cs : List Class) (c : ℕ) (n : List ℕ) → fields_from S k cs c n ≡ fields_from R k cs c n
  unfolding fields_from
  fields_from_same k [] c n = refl
  fields_from_same k (d ∷ ds) c n = rw (types_of_fields_same n d.fields, fields_from_same (suc k) ds c n) refl

  fields_of_class_same : (o : Option ℕ) (n : List ℕ) → fields_of_class S o n ≡ fields_of_class R o n
  unfolding fields_of_class
  fields_of_class_same None n = refl
  fields_of_class_same (Some c) n = fields_from_same 0 S.classes c n

  -- ---- types of values

  module _ (F : Facts) (w : Tabs) (os ps : List Obj) (at : (m n : ℕ) → Mates w m n → ObjAt F S w (slice_get os m) (slice_get ps n)) where
    object_of_same : (kinds : ℕ) (ds : List ℕ) {a b : Option Obj} → ObjAt F S w a b → object_of S kinds ds a ≡ object_of R kinds ds b
    unfolding object_of
    object_of_same kinds ds (obj_at h) = rw (is_some_same h.code, is_some_same h.elements, h.class) refl

    of_kinds_same : (kinds : ℕ) (ds : List ℕ) {a b : Val} → Vals w a b → of_kinds S os kinds ds a ≡ of_kinds R ps kinds ds b
    unfolding of_kinds
    of_kinds_same kinds ds prim_t = refl
    of_kinds_same kinds ds out_t = refl
    of_kinds_same kinds ds (obj_t o) = object_of_same kinds ds (at _ _ o)

    of_element_same : (e : Element) {a b : Val} → Vals w a b → of_element S os e a ≡ of_element R ps e b
    unfolding of_element
    of_element_same e h = of_kinds_same e.kinds e.classes h

    all_of_element_same : (e : Element) {xs ys : List Val} → ListT (Vals w) xs ys → all_of_element S os e xs ≡ all_of_element R ps e ys
    unfolding all_of_element
    all_of_element_same e nil_t = refl
    all_of_element_same e (cons_t h t) = rw (of_element_same e h, all_of_element_same e t) refl

    array_of_same : (e : Element) {x y : Option (List Val)} → OptT (ListT (Vals w)) x y → array_of S os e x ≡ array_of R ps e y
    unfolding array_of
    array_of_same e none_t = refl
    array_of_same e (some_t h) = all_of_element_same e h

    elements_fit_same : (o : Option Element) {a b : Val} → Vals w a b → elements_fit S os o a ≡ elements_fit R ps o b
    unfolding elements_fit
    elements_fit_same None h = refl
    elements_fit_same (Some e) prim_t = refl
    elements_fit_same (Some e) out_t = refl
    elements_fit_same (Some e) (obj_t o) = array_of_same e (elements_at F S w (at _ _ o))

    pub of_type_same : (t : TypeSet) {a b : Val} → Vals w a b → of_type S os t a ≡ of_type R ps t b
    unfolding of_type
    of_type_same t h = rw (of_kinds_same t.kinds t.classes h, elements_fit_same t.element h) refl

    pub of_opt_type_same : (t : Option TypeSet) {a b : Val} → Vals w a b → of_opt_type S os t a ≡ of_opt_type R ps t b
    unfolding of_opt_type
    of_opt_type_same None h = refl
    of_opt_type_same (Some t) h = of_type_same t h

    pub of_all_types_same : (ts : List TypeSet) {a b : Val} → Vals w a b → of_all_types S os ts a ≡ of_all_types R ps ts b
    unfolding of_all_types
    of_all_types_same [] h = refl
    of_all_types_same (t ∷ ts) h = rw (of_type_same t h, of_all_types_same ts h) refl

    all_of_one : {e : Element} {xs : List Element} → In e xs → (vs : List Val) → of_all_elements S os xs vs ≡ true → all_of_element S os e vs ≡ true
    unfolding of_all_elements
    all_of_one here vs e = (and_true _ _ e).0
    all_of_one (there h) vs e = all_of_one h vs (and_true _ _ e).1

    -- of fewer element types
    pub of_all_elements_true : (xs ys : List Element) → ((e : Element) → In e ys → In e xs) → {vs us : List Val} → ListT (Vals w) vs us → of_all_elements S os xs vs ≡ true → of_all_elements R ps ys us ≡ true
    unfolding of_all_elements
    of_all_elements_true xs [] f h e = refl
    of_all_elements_true xs (y ∷ ys) f {vs = vs} h e = true_and (sym (all_of_element_same y h) ∙ all_of_one (f y here) vs e) (of_all_elements_true xs ys (λ d k. f d (there k)) h e)

    field_types_same : {m n : ℕ} → Mates w m n → (t : List ℕ) → field_types S os m t ≡ field_types R ps n t
    unfolding field_types
    field_types_same {m = m} o t = fields_of_class_same (class_in (slice_get os m)) t ∙ ap (λ z. fields_of_class R z t) (class_at F S w (at _ _ o))

    pub fields_reached_same : {m n : ℕ} → Mates w m n → {a b : Access} → KeyI a b → fields_reached S os m a ≡ fields_reached R ps n b
    unfolding fields_reached is_kept
    fields_reached_same {m = m} {n = n} o {a = a} {b = b} k =
        ap (λ z. pick (is_in (name_of S a) S.kept || is_dot a) z []) (field_types_same o (name_of S a))
        ∙ ap (λ z. pick (is_in z S.kept || is_dot a) (field_types R ps n z) []) (name_same S set' k)
        ∙ ap (λ z. pick (is_in (name_of R b) S.kept || z) (field_types R ps n (name_of R b)) []) (dot_same k)

-- ---- element types that are entered

element_is : (d e : Element) → d.kinds ≡ e.kinds → d.classes ≡ e.classes → d ≡ e
element_is d e p q = λ i. record { kinds = p i; classes = q i }

same_element_is : (d e : Element) → same_element d e ≡ true → d ≡ e
unfolding same_element same_numbers
same_element_is d e h = let p = and_true _ _ h in element_is d e (eqb-true _ _ p.0) (texts_one _ _ p.1)

any_by : (d e : Element) (es : List Element) (b : Bool) → same_element d e ≡ b → b || list_any (λ c. same_element c e) es ≡ true → (list_any (λ c. same_element c e) es ≡ true → In e es) → In e (d ∷ es)
any_by d e es true q k f = subst (λ z. In e (z ∷ es)) (sym (same_element_is d e q)) here
any_by d e es false q k f = there (f k)

any_in : (e : Element) (es : List Element) → list_any (λ d. same_element d e) es ≡ true → In e es
any_in e [] h = absurd (cc)
any_in e (d ∷ es) h = any_by d e es (same_element d e) refl h (λ k. any_in e es k)

in_front : {A : Type 0} {x : A} {xs : List A} (ys : List A) → In x xs → In x (xs ++ ys)
in_front ys here = here
in_front ys (there h) = there (in_front ys h)

in_end : {A : Type 0} (x : A) (xs : List A) → In x (xs ++ x ∷ [])
in_end x [] = here
in_end x (y ∷ xs) = there (in_end x xs)

in_both : {A : Type 0} (x e : A) (xs : List A) → In x (xs ++ e ∷ []) → In x xs ⊎ (x ≡ e)
in_both x e [] here = inr refl
in_both x e [] (there h) = elim h [ ]
in_both x e (y ∷ xs) here = inl here
in_both x e (y ∷ xs) (there h) = on (in_both x e xs h)
  where
    on : In x xs ⊎ (x ≡ e) → In x (y ∷ xs) ⊎ (x ≡ e)
    on (inl k) = inl (there k)
    on (inr k) = inr k

pub entered_old : (e x : Element) (es : List Element) → In x es → In x (entered e es)
unfolding entered
entered_old e x es h = by_test (list_any (λ d. same_element d e) es)
  where
    by_test : (b : Bool) → In x (pick b es (es ++ e ∷ []))
    by_test true = h
    by_test false = in_front (e ∷ []) h

entered_new : (e : Element) (es : List Element) → In e (entered e es)
unfolding entered
entered_new e es = by_test (list_any (λ d. same_element d e) es) refl
  where
    by_test : (b : Bool) → list_any (λ d. same_element d e) es ≡ b → In e (pick b es (es ++ e ∷ []))
    by_test true q = any_in e es q
    by_test false q = in_end e es

entered_cases : (e x : Element) (es : List Element) → In x (entered e es) → In x es ⊎ (x ≡ e)
unfolding entered
entered_cases e x es h = by_test (list_any (λ d. same_element d e) es) h
  where
    by_test : (b : Bool) → In x (pick b es (es ++ e ∷ [])) → In x es ⊎ (x ≡ e)
    by_test true k = inl k
    by_test false k = in_both x e es k

-- both enter a type
pub entered_both : (e : Element) (xs ys : List Element) → ((x : Element) → In x ys → In x xs) → (x : Element) → In x (entered e ys) → In x (entered e xs)
entered_both e xs ys f x h = by_cases (entered_cases e x ys h)
  where
    by_cases : In x ys ⊎ (x ≡ e) → In x (entered e xs)
    by_cases (inl k) = entered_old e x xs (f x k)
    by_cases (inr k) = subst (λ z. In z (entered e xs)) (sym k) (entered_new e xs)

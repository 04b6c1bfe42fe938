-- Values that the fields of a name receive, one after the other.
use Rattle.std.proofs.Common.{◌≡◌, ℕ, suc, ◌+◌, Bool, true, false, not, ◌&&◌, List, [], ◌∷◌, ◌++◌, Option, Some, None, slice_get, refl, sym, ap, ◌∙◌, arith}
use Rattle.cc_ast.specs.declared.tables.Class.{Class}
use Rattle.cc_meaning.specs.Types.{subtype}
use Rattle.cc_ast.specs.declared.tables.TypeSet.{TypeSet}
use Rattle.cc_meaning.specs.Monad.{pick}
use Rattle.cc_meaning.specs.Operators.{list_eq}
use Rattle.cc_meaning.specs.State.{Obj, Tables}
use Rattle.cc_meaning.specs.Store.{prop_name}
use Rattle.cc_meaning.specs.Typed.{doc_at, fields_from, types_of_fields, value_in, with_type}
use Rattle.cc_meaning.specs.Values.{Val, prim, obj, out}
use Rattle.cc_ast.specs.declared.tables.Element.{Element}
use Rattle.cc_value.specs.declared.value.Value.{Value}
use Rattle.cc_value.specs.declared.value.Value.TheVariants as V
use Rattle.cc_value.specs.Bridge.{value_of}
use Rattle.cc_acts.specs.Received.{entered_at, received, received_all}

typed : (t : Option TypeSet) (ts : List TypeSet) (v : Val) (os : List Obj) → received_all (with_type t ts) v os ≡ received_all ts v (received t v os)
unfolding with_type received_all
typed None ts v os = refl
typed (Some t) ts v os = refl

pub field-named : (T : Tables) (n : List ℕ) (x : ℕ × ℕ) (xs : List (ℕ × ℕ)) (v : Val) (os : List Obj) → list_eq (prop_name (slice_get T.props x.0)) n ≡ true →
    received_all (types_of_fields T n (x ∷ xs)) v os ≡ received_all (types_of_fields T n xs) v (received (value_in (doc_at T (Some x.1))) v os)
unfolding types_of_fields
field-named T n x xs v os e =
    ap (λ (b : Bool). received_all (pick b (with_type (value_in (doc_at T (Some x.1))) (types_of_fields T n xs)) (types_of_fields T n xs)) v os) e
    ∙ typed (value_in (doc_at T (Some x.1))) (types_of_fields T n xs) v os

pub field-other : (T : Tables) (n : List ℕ) (x : ℕ × ℕ) (xs : List (ℕ × ℕ)) (v : Val) (os : List Obj) → list_eq (prop_name (slice_get T.props x.0)) n ≡ false →
    received_all (types_of_fields T n (x ∷ xs)) v os ≡ received_all (types_of_fields T n xs) v os
unfolding types_of_fields
field-other T n x xs v os e = ap (λ (b : Bool). received_all (pick b (with_type (value_in (doc_at T (Some x.1))) (types_of_fields T n xs)) (types_of_fields T n xs)) v os) e

pub nothing-received : (b : Bool) (ts : List TypeSet) (v : Val) (os : List Obj) → b ≡ false → os ≡ received_all (pick b ts []) v os
unfolding received_all
nothing-received b ts v os e = sym (ap (λ (x : Bool). received_all (pick x ts []) v os) e)

pub all-received : (b : Bool) (ts : List TypeSet) (v : Val) (os : List Obj) → b ≡ true → received_all ts v os ≡ received_all (pick b ts []) v os
all-received b ts v os e = sym (ap (λ (x : Bool). received_all (pick x ts []) v os) e)

pub received-both : (ts us : List TypeSet) (v : Val) (os : List Obj) → received_all (ts ++ us) v os ≡ received_all us v (received_all ts v os)
unfolding received_all
received-both [] us v os = refl
received-both (t ∷ ts) us v os = received-both ts us v (received (Some t) v os)

-- the next class, and those after it
pub class-next : (T : Tables) (k : ℕ) (d : Class) (ds : List Class) (c : ℕ) (n : List ℕ) (v : Val) (os : List Obj) →
    received_all (fields_from T k (d ∷ ds) c n) v os ≡ received_all (fields_from T (k + 1) ds c n) v (received_all (pick (not d.external && subtype T.classes c k) (types_of_fields T n d.fields) []) v os)
unfolding fields_from
class-next T k d ds c n v os =
    let one : suc k ≡ k + 1 = omega arith in
    received-both (pick (not d.external && subtype T.classes c k) (types_of_fields T n d.fields) []) (fields_from T (suc k) ds c n) v os
    ∙ ap (λ (j : ℕ). received_all (fields_from T j ds c n) v (received_all (pick (not d.external && subtype T.classes c k) (types_of_fields T n d.fields) []) v os)) one

pub same-named : (T : Tables) (n : List ℕ) (v : Val) (os : List Obj) {xs ys : List (ℕ × ℕ)} → xs ≡ ys → received_all (types_of_fields T n xs) v os ≡ received_all (types_of_fields T n ys) v os
same-named T n v os e = ap (λ (zs : List (ℕ × ℕ)). received_all (types_of_fields T n zs) v os) e

-- a value that is no object enters nothing
abbrev pub IsNoObj : Val → Type 0
IsNoObj (obj n) = ⊥
IsNoObj (out n) = Unit {0}
IsNoObj (prim p) = Unit {0}

none : (e : Option Element) (v : Val) → IsNoObj v → (os : List Obj) → os ≡ entered_at e v os
none (Some e) (obj n) m os = absurd m
none (Some e) (out n) m os = refl
none (Some e) (prim p) m os = refl
none None v m os = refl

pub no-obj : (v : Value) → ((n : ℕ) → v ≡ V.Object n → ⊥) → IsNoObj (value_of v)
no-obj V.Undefined h = tt
no-obj V.Null h = tt
no-obj (V.Truth b) h = tt
no-obj (V.Whole z) h = tt
no-obj (V.Text t) h = tt
no-obj (V.Object n) h = h n refl
no-obj (V.Outside n) h = tt

pub nothing-entered : (v : Val) → IsNoObj v → (ts : List TypeSet) (os : List Obj) → os ≡ received_all ts v os
unfolding received_all
nothing-entered v m [] os = refl
nothing-entered v m (t ∷ ts) os = nothing-entered v m ts os ∙ ap (λ (x : List Obj). received_all ts v x) (none t.element v m os)

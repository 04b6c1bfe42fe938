-- The types of fields.
use Rattle.std.proofs.Common.{◌≡◌, ◌∙◌, ℕ, suc, Bool, true, false, not, ◌&&◌, ◌||◌, List, [], ◌∷◌, ◌++◌, Option, Some, None, is_some, slice_get, refl, sym, ap}
use Rattle.std.proofs.Math.Bool.{or-false, or-true, and-true}
use Rattle.cc_ast.specs.declared.tables.Class.{Class}
use Rattle.cc_ast.specs.declared.tables.TypeSet.{TypeSet}
use Rattle.cc_meaning.specs.Monad.{pick}
use Rattle.cc_meaning.specs.Operators.{list_eq}
use Rattle.cc_meaning.specs.SlotRules.{field_rule, fields_reached, is_dot, rule_unless}
use Rattle.cc_meaning.specs.State.{Obj, State, Tables}
use Rattle.cc_meaning.specs.Store.{Access, is_kept, name_of, prop_name}
use Rattle.cc_meaning.specs.Typed.{of_all_types, of_type, of_opt_type, types_of_fields, with_type, value_in, doc_at, fields_from, field_types}
use Rattle.cc_meaning.specs.Types.{subtype}
use Rattle.cc_meaning.specs.Values.{Val}

and-assoc : (a b c : Bool) → (a && (b && c)) ≡ ((a && b) && c)
and-assoc true b c = refl
and-assoc false b c = refl

all-append : (T : Tables) (os : List Obj) (v : Val) (xs ys : List TypeSet) → of_all_types T os (xs ++ ys) v ≡ (of_all_types T os xs v && of_all_types T os ys v)
unfolding of_all_types
all-append T os v [] ys = refl
all-append T os v (x ∷ xs) ys = ap (λ (b : Bool). of_type T os x v && b) (all-append T os v xs ys) ∙ and-assoc (of_type T os x v) (of_all_types T os xs v) (of_all_types T os ys v)

-- ---- the fields of a class

chosen : (T : Tables) (os : List Obj) (v : Val) (b : Bool) (t : Option TypeSet) (rest : List TypeSet) → of_all_types T os (pick b (with_type t rest) rest) v ≡ (of_all_types T os (pick b (with_type t []) []) v && of_all_types T os rest v)
unfolding of_all_types with_type
chosen T os v true None rest = refl
chosen T os v true (Some t) rest = ap (λ (b : Bool). b && of_all_types T os rest v) (sym (and-true (of_type T os t v)))
chosen T os v false t rest = refl

-- the first field, and the others
pub field-first : (T : Tables) (os : List Obj) (v : Val) (n : List ℕ) (x : ℕ × ℕ) (xs : List (ℕ × ℕ)) → of_all_types T os (types_of_fields T n (x ∷ xs)) v ≡ (of_all_types T os (types_of_fields T n (x ∷ [])) v && of_all_types T os (types_of_fields T n xs) v)
unfolding types_of_fields
field-first T os v n x xs = chosen T os v (list_eq (prop_name (slice_get T.props x.0)) n) (value_in (doc_at T (Some x.1))) (types_of_fields T n xs)

alone : (T : Tables) (os : List Obj) (v : Val) (b : Bool) (t : Option TypeSet) → of_all_types T os (pick b (with_type t []) []) v ≡ (not b || of_opt_type T os t v)
unfolding of_all_types with_type of_opt_type
alone T os v true None = refl
alone T os v true (Some t) = and-true (of_type T os t v)
alone T os v false t = refl

pub field-alone : (T : Tables) (os : List Obj) (v : Val) (n : List ℕ) (x : ℕ × ℕ) → of_all_types T os (types_of_fields T n (x ∷ [])) v ≡ (not (list_eq (prop_name (slice_get T.props x.0)) n) || of_opt_type T os (value_in (doc_at T (Some x.1))) v)
unfolding types_of_fields
field-alone T os v n x = alone T os v (list_eq (prop_name (slice_get T.props x.0)) n) (value_in (doc_at T (Some x.1)))

-- ---- the classes

pub class-external : (T : Tables) (os : List Obj) (v : Val) (e r : Bool) (ts : List TypeSet) → e ≡ true → true ≡ of_all_types T os (pick (not e && r) ts []) v
unfolding of_all_types
class-external T os v true r ts h = refl
class-external T os v false r ts h = cc

pub class-fits : (T : Tables) (os : List Obj) (v : Val) (e r : Bool) (ts : List TypeSet) → of_all_types T os ts v ≡ true → true ≡ of_all_types T os (pick (not e && r) ts []) v
unfolding of_all_types
class-fits T os v true r ts h = refl
class-fits T os v false true ts h = sym h
class-fits T os v false false ts h = refl

pub class-else : (T : Tables) (os : List Obj) (v : Val) (e r : Bool) (ts : List TypeSet) → e ≡ false → of_all_types T os ts v ≡ false → not r ≡ of_all_types T os (pick (not e && r) ts []) v
unfolding of_all_types
class-else T os v true r ts h k = cc
class-else T os v false true ts h k = sym k
class-else T os v false false ts h k = refl

-- the first class, and the others
pub classes-first : (T : Tables) (os : List Obj) (v : Val) (k : ℕ) (d : Class) (ds : List Class) (c : ℕ) (n : List ℕ) → of_all_types T os (fields_from T k (d ∷ ds) c n) v ≡ (of_all_types T os (pick (not d.external && subtype T.classes c k) (types_of_fields T n d.fields) []) v && of_all_types T os (fields_from T (suc k) ds c n) v)
unfolding fields_from
classes-first T os v k d ds c n = all-append T os v (pick (not d.external && subtype T.classes c k) (types_of_fields T n d.fields) []) (fields_from T (suc k) ds c n)

-- ---- the field that an access reaches

reached : (T : Tables) (os : List Obj) (v : Val) (b : Bool) (ts : List TypeSet) → of_all_types T os (pick b ts []) v ≡ (not b || of_all_types T os ts v)
unfolding of_all_types
reached T os v true ts = refl
reached T os v false ts = refl

parts : (T : Tables) (s : State) (o : ℕ) (a : Access) (n : List ℕ) (r : Option ℕ) (v : Val) (fit : Bool) → n ≡ name_of T a → of_all_types T s.objs (field_types T s.objs o n) v ≡ fit
    → field_rule T s o a n r v ≡ rule_unless ((is_some r && not (is_kept T n)) || (not (is_kept T n || is_dot a) || fit)) 6
unfolding field_rule fields_reached
parts T s o a n r v fit e h =
    let F : List ℕ → Bool = λ m. of_all_types T s.objs (pick (is_kept T m || is_dot a) (field_types T s.objs o m) []) v in
    let here : F (name_of T a) ≡ (not (is_kept T n || is_dot a) || fit) = ap F (sym e) ∙ reached T s.objs v (is_kept T n || is_dot a) (field_types T s.objs o n) ∙ ap (λ (b : Bool). not (is_kept T n || is_dot a) || b) h in
    ap (λ (b : Bool). rule_unless ((is_some r && not (is_kept T n)) || b) 6) here

pub field-fits : (T : Tables) (s : State) (o : ℕ) (a : Access) (n : List ℕ) (r : Option ℕ) (v : Val) → n ≡ name_of T a → of_all_types T s.objs (field_types T s.objs o n) v ≡ true → None ≡ field_rule T s o a n r v
unfolding rule_unless
field-fits T s o a n r v e h =
    let all : ((is_some r && not (is_kept T n)) || (not (is_kept T n || is_dot a) || true)) ≡ true = ap (λ (b : Bool). (is_some r && not (is_kept T n)) || b) (or-true (not (is_kept T n || is_dot a))) ∙ or-true (is_some r && not (is_kept T n)) in
    sym (parts T s o a n r v true e h ∙ ap (λ (b : Bool). rule_unless b 6) all)

pub field-else : (T : Tables) (s : State) (o : ℕ) (a : Access) (n : List ℕ) (r : Option ℕ) (v : Val) → n ≡ name_of T a → of_all_types T s.objs (field_types T s.objs o n) v ≡ false
    → rule_unless ((is_some r && not (is_kept T n)) || not (is_kept T n || is_dot a)) 6 ≡ field_rule T s o a n r v
field-else T s o a n r v e h = sym (parts T s o a n r v false e h ∙ ap (λ (b : Bool). rule_unless ((is_some r && not (is_kept T n)) || b) 6) (or-false (not (is_kept T n || is_dot a))))

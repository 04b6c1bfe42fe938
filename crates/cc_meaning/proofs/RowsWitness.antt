-- A program of two chunks that is well made, with a class that extends another, a method, a flat path, a
-- catch clause and a function expression with an own name; and what breaks it.
use Rattle.std.proofs.Common.{◌≡◌, refl, ℕ, zero, suc, ◌+◌, ◌<◌, ◌≤◌, Bool, true, false, List, [], ◌∷◌, ◌++◌, Some, None, subst, sym, ap, lit<, lit≤, IsTrue, IsFalse, is_some, arith}
use Rattle.std.specs.Prelude.{slice_get, nat_eq, ◌&&◌, codes}
use Rattle.std.specs.List.{Contains, list_any}
use Rattle.cc_ast.specs.Syntax.{Scope, Program, fun, object, call, member, fun_decl, return, try, present, absent}
use Rattle.cc_ast.specs.declared.tree.Ref.{Ref}
use Rattle.cc_ast.specs.declared.tables.Class.{Class}
use Rattle.cc_ast.specs.declared.tables.FlatPath.{FlatPath}
use Rattle.cc_ast.specs.declared.tables.PropInfo.{PropInfo}
use Rattle.cc_ast.specs.declared.tables.SiteDoc.{SiteDoc}
use Rattle.cc_meaning.specs.Operators.{is_in, list_eq}
use Rattle.cc_meaning.specs.State.{Path}
use Rattle.cc_meaning.specs.Monad.{pick}
use Rattle.cc_meaning.specs.Names.{builtin_globals, always_kept}
use Rattle.cc_meaning.specs.Store.{class_of_function}
use Rattle.cc_meaning.specs.Shapes.{tables_of}
use Rattle.cc_meaning.specs.Types.{Ancestor, itself, above, parents}
use Rattle.cc_meaning.specs.Alike.{In, here, there}
use Rattle.cc_meaning.specs.Parts as Pa
use Rattle.cc_meaning.specs.Parts.{Part, has_site, uses_prop, mentions, declares, makes, sets_method}
use Rattle.cc_meaning.specs.FlatPaths as F
use Rattle.cc_meaning.specs.FlatPaths.{Use, called, other, Setting, by_value, by_function, elsewhere, mentions_of, settings, uses, AreConstructions, no_uses, by_new, by_instance, a_literal, an_expression, a_declaration, IsHolder, IsFree, IsCollapsible, IsHolding, MayBeVariable, a_global, a_property}
use Rattle.cc_meaning.specs.WellMade as W
use Rattle.cc_meaning.specs.WellMade.{WellMade, IsScope, IsPart, a_site, a_prop, a_mention, a_declaration, a_function, a_method, IsMade, HasMethod, IsSound, sound_place, sound_global, sound_outer, IsDeclared, IsPlaced, placed_global, IsOwn, is_param, of_catch, of_frame, of_own, Reached, IsProp, IsOrdered, IsGlobal, ArePaths, IsMeant, IsCounted, IsDistinct, HasPlace, IsClass, IsCode, its_method, parts_of, all_functions}
use Rattle.cc_meaning.proofs.Opened.{opened}
use Rattle.cc_meaning.proofs.Trees.{exprs, stmts, fields, fn, own_fn, no_doc, glo, loc, outer, num, var_glo, set_dot, let_glo, alert, global_in, built_ins, prop, kept_prop, chunk_of, one_chunk}
use Rattle.cc_meaning.proofs.Listed.{Each, none, ◌▹◌, each_in, Placed, nowhere, placed, placed_at, same_some, not_listed, once, distinct, same_number, same_text, declared_in, declared, declared_at, no_loop, codes_of, is_code}

--     /** @constructor */
--     function A(){}
--     A.prototype.m=function(){return 1;};
--     var ns={};
--     ns.p=1;
abbrev base : Scope
base = fn 0 0 (fun_decl 0 (Ref.Global 4) 2 ∷ set_dot 0 (member 0 (glo 4) 0) 1 (fun 0 3) ∷ var_glo 5 (object 0 (fields [])) ∷ set_dot 0 (glo 5) 2 (num 1) ∷ [])

--     /** @constructor @extends {A} */
--     function S(){}
--     S.prototype=Object.create(A.prototype);
--     var g=function own(x){try{alert(x);}catch(e){return own(e);}};
--     alert(ns.p);
abbrev further : Scope
further = fn 0 0 (fun_decl 0 (Ref.Global 6) 4 ∷ set_dot 0 (glo 6) 0 (call 0 (member 0 (glo 1) 3) (exprs (member 0 (glo 4) 0 ∷ []))) ∷ var_glo 7 (fun 0 5) ∷ alert (member 0 (glo 5) 2) ∷ [])

abbrev within : ℕ → Scope → Scope
within f s = record s { parent = Some f }

abbrev method : Scope
method = within 0 (fn 0 0 (return 0 (Some (num 1)) ∷ []))

abbrev named : Scope
named = within 1 (own_fn 1 0 (try 0 (stmts (alert (loc 0) ∷ [])) (present (stmts (return 0 (Some (call 0 (outer 2 0) (exprs (outer 0 0 ∷ [])))) ∷ []))) absent ∷ []))

abbrev class_A : Class
class_A = record { name = codes "A"; function = Some 2; external = false; interface = false; extends = None; implements = []; methods = (1, 3) ∷ []; fields = [] }

abbrev class_S : Class
class_S = record { name = codes "S"; function = Some 4; external = false; interface = false; extends = Some 0; implements = []; methods = []; fields = [] }

abbrev path_p : FlatPath
path_p = record { props = 2 ∷ []; doc = 0 }

-- with these classes
abbrev with_classes : List Class → Program
with_classes cs = record {
  scopes = base ∷ further ∷ within 0 (fn 0 0 []) ∷ method ∷ within 1 (fn 0 0 []) ∷ named ∷ [];
  chunks = chunk_of [] ∷ chunk_of (0 ∷ []) ∷ [];
  globals = global_in None (codes "alert") ∷ built_ins ++ global_in (Some 0) (codes "A") ∷ (record { name = codes "ns"; chunk = Some 0; doc = 0; flat = path_p ∷ [] }) ∷ global_in (Some 1) (codes "S") ∷ global_in (Some 1) (codes "g") ∷ [];
  props = kept_prop (codes "prototype") ∷ prop (codes "m") ∷ prop (codes "p") ∷ kept_prop (codes "create") ∷ [];
  kept = always_kept;
  classes = cs;
  places = (record { file = 0; offset = 0; line = 1; column = 1 }) ∷ [];
  docs = no_doc ∷ [];
}

abbrev witness : Program
witness = with_classes (class_A ∷ class_S ∷ [])

unfoldable shut : ℕ
unfolding opened Pa.method_by Pa.method_on_prototype Pa.method_to Pa.method_in Pa.key_parts Pa.expr_parts Pa.target_parts Pa.exprs_parts Pa.fields_parts Pa.option_parts Pa.vars_parts Pa.init_parts Pa.name_parts Pa.stmt_parts Pa.stmts_parts Pa.maybe_parts Pa.cases_parts Pa.assigns Pa.may_write Pa.is_own_global Pa.expr_well Pa.target_well Pa.exprs_well Pa.fields_well Pa.may_read Pa.is_no_built Pa.built_callee Pa.is_string Pa.has_use Pa.global_at Pa.is_use Pa.exact_prim W.stmt_well W.stmts_well W.option_well W.vars_well W.some_vars W.is_there W.parts_of W.is_chunk W.all_functions W.functions_in W.outer_names W.refused_names W.path_count W.method_count F.below F.use_of F.setting_of F.operand_use F.right_use F.in_expr F.in_option F.sets_at F.in_initial F.in_declarator F.in_declarators F.in_init F.in_each F.in_statement F.function_setting F.in_stmt F.in_scopes F.mentions_of F.same_path F.settings F.uses F.dotted_keys F.pure once
shut = 0

-- ---- globals

first_declared : (n : ℕ) → list_any (nat_eq n) (declared_in (parts_of witness 0)) ≡ true → IsDeclared witness n 0
first_declared n h = record { here = declared_at n (parts_of witness 0) h; least = λ d k l i. absurd (omega arith) }

further_declared : (n : ℕ) → list_any (nat_eq n) (declared_in (parts_of witness 1)) ≡ true → list_any (nat_eq n) (declared_in (parts_of witness 0)) ≡ false → IsDeclared witness n 1
further_declared n h k = record { here = declared_at n (parts_of witness 1) h; least = by_chunk }
  where
    by_chunk : (d c : ℕ) → d < 1 → In (declares c (Ref.Global n)) (parts_of witness d) → ⊥
    by_chunk zero c l i = not_listed n (declared_in (parts_of witness 0)) k (declared (parts_of witness 0) i)
    by_chunk (suc d) c l i = absurd (omega arith)

sound_A : (f c : ℕ) → IsSound witness f c (Ref.Global 4)
unfolding shut declared_in
sound_A f c = sound_global 4 0 refl (first_declared 4 refl)

sound_ns : (f c : ℕ) → IsSound witness f c (Ref.Global 5)
unfolding shut declared_in
sound_ns f c = sound_global 5 0 refl (first_declared 5 refl)

sound_S : (f c : ℕ) → IsSound witness f c (Ref.Global 6)
unfolding shut declared_in
sound_S f c = sound_global 6 1 refl (further_declared 6 refl refl)

sound_g : (f c : ℕ) → IsSound witness f c (Ref.Global 7)
unfolding shut declared_in
sound_g f c = sound_global 7 1 refl (further_declared 7 refl refl)

-- ---- parts

site : {f : ℕ} → IsPart witness f (has_site 0)
site = a_site 0 (lit< tt)

mention : {f c : ℕ} (n : ℕ) → n < 8 → IsSound witness f c (Ref.Global n) → IsPart witness f (mentions c (Ref.Global n))
mention {c = c} n l s = a_mention c (Ref.Global n) (W.numbered_global n l) (λ _. s)

-- what `A` is set to is the function of the class that has the method
has_m : HasMethod witness (4, []) 1 3
unfolding shut
has_m = record { method = λ f c k i e s. of_function f c k (each_in {P = λ x. x ≡ 2} (refl ▹ none) f i) e s }
  where
    of_class : (c : ℕ) (k : Class) → 0 ≡ c → slice_get witness.classes c ≡ Some k → In (1, 3) k.methods
    of_class c k d s = subst (λ z. In (1, 3) z.methods) (same_some (subst (λ z. slice_get witness.classes z ≡ Some k) (sym d) s)) here

    of_function : (f c : ℕ) (k : Class) → f ≡ 2 → class_of_function (tables_of witness) f ≡ Some c → slice_get witness.classes c ≡ Some k → In (1, 3) k.methods
    of_function f c k d e s = of_class c k (same_some (subst (λ z. class_of_function (tables_of witness) z ≡ Some c) d e)) s

base_parts : Each (IsPart witness 0) (parts_of witness 0)
unfolding shut
base_parts =
    site ▹ a_declaration 0 (Ref.Global 4) (placed_global 4 0 refl refl) (λ _. sound_A 0 0) ▹ a_function 0 2 true (record { scope = within 0 (fn 0 0 []); stands = refl; function = refl; parent = refl; own = λ _. refl })
    ▹ site ▹ site ▹ a_method (4, []) 1 3 has_m ▹ site ▹ a_prop 1 (lit< tt) ▹ site ▹ a_prop 0 (lit< tt) ▹ site ▹ mention 4 (lit< tt) (sound_A 0 0)
    ▹ site ▹ a_function 0 3 false (record { scope = method; stands = refl; function = refl; parent = refl; own = λ _. refl })
    ▹ site ▹ site ▹ a_declaration 0 (Ref.Global 5) (placed_global 5 0 refl refl) (λ _. sound_ns 0 0) ▹ site
    ▹ site ▹ site ▹ site ▹ a_prop 2 (lit< tt) ▹ site ▹ mention 5 (lit< tt) (sound_ns 0 0) ▹ site ▹ none

further_parts : Each (IsPart witness 1) (parts_of witness 1)
unfolding shut
further_parts =
    site ▹ a_declaration 0 (Ref.Global 6) (placed_global 6 1 refl refl) (λ _. sound_S 1 0) ▹ a_function 0 4 true (record { scope = within 1 (fn 0 0 []); stands = refl; function = refl; parent = refl; own = λ _. refl })
    ▹ site ▹ site ▹ site ▹ a_prop 0 (lit< tt) ▹ site ▹ mention 6 (lit< tt) (sound_S 1 0)
    ▹ site ▹ site ▹ a_prop 3 (lit< tt) ▹ site ▹ mention 1 (lit< tt) (sound_outer 1 _ refl refl) ▹ site ▹ a_prop 0 (lit< tt) ▹ site ▹ mention 4 (lit< tt) (sound_A 1 0)
    ▹ site ▹ site ▹ a_declaration 0 (Ref.Global 7) (placed_global 7 1 refl refl) (λ _. sound_g 1 0) ▹ site ▹ a_function 0 5 false (record { scope = named; stands = refl; function = refl; parent = refl; own = λ h. cc })
    ▹ site ▹ site ▹ site ▹ mention 0 (lit< tt) (sound_outer 0 _ refl refl) ▹ site ▹ a_prop 2 (lit< tt) ▹ site ▹ mention 5 (lit< tt) (sound_ns 1 0) ▹ none

method_parts : Each (IsPart witness 3) (parts_of witness 3)
unfolding shut
method_parts = site ▹ site ▹ none

-- the parameter, the own name and the variable of the catch clause
named_parts : Each (IsPart witness 5) (parts_of witness 5)
unfolding shut
named_parts =
    site ▹ site ▹ site ▹ site ▹ mention 0 (lit< tt) (sound_outer 0 _ refl refl)
    ▹ site ▹ a_mention 0 (Ref.Frame 0 0) (W.numbered_place 0 0) (λ _. sound_place 0 0 (of_frame 5 0 0 named refl refl (is_param 0 (lit< tt))))
    ▹ site ▹ site ▹ site ▹ a_mention 1 (Ref.Frame 2 0) (W.numbered_place 2 0) (λ _. sound_place 2 0 (of_own 5 1 named refl refl))
    ▹ site ▹ a_mention 1 (Ref.Frame 0 0) (W.numbered_place 0 0) (λ _. sound_place 0 0 (of_catch 5 1 0 (lit< tt))) ▹ none

-- ---- scopes

chunk_well : (f : ℕ) (s : Scope) → IsTrue (W.stmts_well (tables_of witness) (W.opened witness f) [] s.body) → Each (IsPart witness f) (parts_of witness f) → s.doc < 1 → IsFalse s.own → s.parent ≡ None → IsScope witness f s
chunk_well f s h ps d o p = record { statements = h; parts = each_in ps; doc = d; chunk_own = λ _. o; chunk_parent = λ _. p }

inner_well : (f : ℕ) (s : Scope) → IsTrue (W.stmts_well (tables_of witness) (W.opened witness f) [] s.body) → Each (IsPart witness f) (parts_of witness f) → s.doc < 1 → IsFalse (W.is_chunk witness f) → IsScope witness f s
inner_well f s h ps d k = record { statements = h; parts = each_in ps; doc = d; chunk_own = λ c. differ c k; chunk_parent = λ c. differ c k }
  where
    differ : {A : Type 0} {b : Bool} → IsTrue b → IsFalse b → A
    differ {b = true} h k = absurd (cc)
    differ {b = false} h k = absurd (cc)

scopes_well : Placed (IsScope witness) 0 witness.scopes
unfolding shut
scopes_well =
    placed (chunk_well 0 base refl base_parts (lit< tt) refl refl)
    (placed (chunk_well 1 further refl further_parts (lit< tt) refl refl)
    (placed (inner_well 2 (within 0 (fn 0 0 [])) refl none (lit< tt) refl)
    (placed (inner_well 3 method refl method_parts (lit< tt) refl)
    (placed (inner_well 4 (within 1 (fn 0 0 [])) refl none (lit< tt) refl)
    (placed (inner_well 5 named refl named_parts (lit< tt) refl) nowhere)))))

lesser_parents : Placed (λ f s. (g : ℕ) → s.parent ≡ Some g → g < f) 0 witness.scopes
lesser_parents =
    placed (λ g e. cc) (placed (λ g e. cc)
    (placed (λ g e. subst (λ z. z < 2) (same_some e) (lit< tt)) (placed (λ g e. subst (λ z. z < 3) (same_some e) (lit< tt))
    (placed (λ g e. subst (λ z. z < 4) (same_some e) (lit< tt)) (placed (λ g e. subst (λ z. z < 5) (same_some e) (lit< tt)) nowhere)))))

-- ---- tables

props_well : Placed (λ n p. IsProp witness p) 0 witness.props
unfolding shut
props_well =
    placed (record { no_index = refl; kept = refl }) (placed (record { no_index = refl; kept = refl })
    (placed (record { no_index = refl; kept = refl }) (placed (record { no_index = refl; kept = refl }) nowhere)))

only_A : (w : Path) → In (w, 2) (tables_of witness).set → w ≡ (4, [])
unfolding shut
only_A w i = each_in {P = λ x. x.1 ≡ 2 → x.0 ≡ (4, [])} ((λ e. refl) ▹ (λ e. cc) ▹ (λ e. cc) ▹ (λ e. cc) ▹ none) (w, 2) i refl

only_S : (w : Path) → In (w, 4) (tables_of witness).set → w ≡ (6, [])
unfolding shut
only_S w i = each_in {P = λ x. x.1 ≡ 4 → x.0 ≡ (6, [])} ((λ e. cc) ▹ (λ e. cc) ▹ (λ e. refl) ▹ (λ e. cc) ▹ none) (w, 4) i refl

place_A : HasPlace witness 2
unfolding shut
place_A = record { place = (4, []); variable = a_global 4 0 refl; set = here; once = (by_function 2, refl); alone = only_A }

place_S : HasPlace witness 4
unfolding shut
place_S = record { place = (6, []); variable = a_global 6 1 refl; set = there (there here); once = (by_function 4, refl); alone = only_S }

-- nothing is above a class that extends nothing
above_A : {a b : ℕ} → Ancestor witness.classes a b → a ≡ 0 → b ≡ 0
unfolding shut
above_A (itself a) e = e
above_A (above a p b i h) e =
    let c = subst (λ z. Contains (parents witness.classes z) p) e i in
    let l : c.0 < 0 = c.1 in
    absurd (omega arith)

class_A_well : IsClass witness 0 class_A
unfolding shut
class_A_well = record {
  function = λ f e. subst (λ z. z < 6) (same_some e) (lit< tt);
  placed = λ f e i. subst (HasPlace witness) (same_some e) place_A;
  in_range = λ b i. elim i [ ];
  acyclic = λ b i. elim i [ ];
  methods = λ p f i. each_in {P = λ m. (m.0 < 4) × (m.1 < 6)} ((lit< tt, lit< tt) ▹ none) (p, f) i;
  fields = λ p d i. elim i [ ];
}

class_S_well : IsClass witness 1 class_S
unfolding shut
class_S_well = record {
  function = λ f e. subst (λ z. z < 6) (same_some e) (lit< tt);
  placed = λ f e i. subst (HasPlace witness) (same_some e) place_S;
  in_range = λ b i. each_in {P = λ c. c < 2} (lit< tt ▹ none) b i;
  acyclic = λ b i h. let k = above_A h (each_in {P = λ c. c ≡ 0} (refl ▹ none) b i) in cc;
  methods = λ p f i. elim i [ ];
  fields = λ p d i. elim i [ ];
}

-- the functions of the two classes aren't the same
apart : (f : ℕ) → IsCode class_A f → IsCode class_S f → ⊥
unfolding codes_of
apart f h k =
    let e = each_in {P = λ g. g ≡ 4} (refl ▹ none) f (is_code class_S f k) in
    not_listed 4 (2 ∷ 3 ∷ []) refl (subst (λ g. In g (2 ∷ 3 ∷ [])) e (is_code class_A f h))

one_class : (a b f : ℕ) (c d : Class) → slice_get witness.classes a ≡ Some c → slice_get witness.classes b ≡ Some d → IsCode c f → IsCode d f → a ≡ b
one_class a b f c d e g = placed_at {P = λ i x. IsCode x f → IsCode d f → i ≡ b} (placed of_A (placed of_S nowhere)) a c e
  where
    of_A : IsCode class_A f → IsCode d f → 0 ≡ b
    of_A h = placed_at {P = λ j y. IsCode y f → 0 ≡ j} (placed (λ k. refl) (placed (λ k. absurd (apart f h k)) nowhere)) b d g

    of_S : IsCode class_S f → IsCode d f → 1 ≡ b
    of_S h = placed_at {P = λ j y. IsCode y f → 1 ≡ j} (placed (λ k. absurd (apart f k h)) (placed (λ k. refl) nowhere)) b d g

empty_doc : W.IsDoc witness no_doc
unfolding W.type_in W.types_in_all W.types_in
empty_doc = record { classes = λ t a i. elim i [ ]; vars = λ n i. elim i [ ] }

-- ---- the table of globals

ordered : IsOrdered witness
unfolding shut
ordered = record { externs = codes "alert" ∷ []; names = refl; distinct = distinct list_eq same_text (codes "alert" ∷ []) refl; inner = placed_at inner }
  where
    inner : Placed (λ n g. 4 ≤ n → IsTrue (is_some g.chunk)) 0 witness.globals
    inner =
        placed (λ h. absurd (omega arith)) (placed (λ h. absurd (omega arith)) (placed (λ h. absurd (omega arith)) (placed (λ h. absurd (omega arith))
        (placed (λ h. refl) (placed (λ h. refl) (placed (λ h. refl) (placed (λ h. refl) nowhere)))))))

of_no_chunk : (n : List ℕ) → IsGlobal witness (global_in None n)
of_no_chunk n = record { chunk = λ c e. cc; doc = lit< tt; flat = λ w i. elim i [ ] }

of_chunk_at : (c : ℕ) (n : List ℕ) → c < 2 → IsFalse (is_in n W.refused_names) → IsGlobal witness (global_in (Some c) n)
of_chunk_at c n l h = record { chunk = λ d e. (subst (λ z. z < 2) (same_some e) l, h); doc = lit< tt; flat = λ w i. elim i [ ] }

globals_well : Placed (λ n g. IsGlobal witness g) 0 witness.globals
unfolding shut
globals_well =
    placed (of_no_chunk _) (placed (of_no_chunk _) (placed (of_no_chunk _) (placed (of_no_chunk _)
    (placed (of_chunk_at 0 _ (lit< tt) refl) (placed ns_well (placed (of_chunk_at 1 _ (lit< tt) refl) (placed (of_chunk_at 1 _ (lit< tt) refl) nowhere)))))))
  where
    ns_well : IsGlobal witness (record { name = codes "ns"; chunk = Some 0; doc = 0; flat = path_p ∷ [] })
    ns_well = record {
      chunk = λ c e. (subst (λ z. z < 2) (same_some e) (lit< tt), refl);
      doc = lit< tt;
      flat = each_in {P = λ w. (w.doc < 1) × ((p : ℕ) → In p w.props → p < 4)} ((lit< tt, each_in {P = λ p. p < 4} (lit< tt ▹ none)) ▹ none);
    }

-- ---- the flat path

ns_set : settings (5, []) (mentions_of witness) ≡ by_value (object 0 (fields [])) ∷ []
unfolding shut
ns_set = refl

ns_unused : uses (5, []) (mentions_of witness) ≡ []
unfolding shut
ns_unused = refl

p_read : uses (5, 2 ∷ []) (mentions_of witness) ≡ other ∷ []
unfolding shut
p_read = refl

read_alone : (p : ℕ) → uses (5, p ∷ []) (mentions_of witness) ≡ pick (nat_eq 2 p && true) (other ∷ []) []
unfolding shut
read_alone p = refl

never_called : {A : Type 0} (b : Bool) → In called (pick b (other ∷ []) []) → A
never_called true (there i) = elim i [ ]
never_called false i = elim i [ ]

ns_holds : IsHolder witness (5, [])
unfolding shut
ns_holds = record {
  variable = λ e. (0, refl);
  path = λ k. absurd (k refl);
  setting = by_value (object 0 (fields []));
  once = ns_set;
  holds = subst (λ us. F.Holds witness (by_value (object 0 (fields []))) us) (sym ns_unused) (a_literal 0 (fields []) refl refl);
  methods = λ p i. never_called (nat_eq 2 p && true) (subst (λ us. In called us) (read_alone p) i);
}

p_free : IsFree witness (5, 2 ∷ []) 2
p_free = record {
  unkept = λ p e. subst (λ (q : PropInfo). IsFalse q.kept) (same_some e) refl;
  stays = λ i. not_deleted (subst (λ us. In F.deleted us) p_read i);
}
  where
    not_deleted : In F.deleted (other ∷ []) → ⊥
    not_deleted (there i) = elim i [ ]

p_collapses : IsCollapsible witness (5, 2 ∷ []) 0
p_collapses = record {
  holder = (5, []);
  name = 2;
  is = refl;
  holds = ns_holds;
  free = p_free;
  marked = λ d e. subst (λ (q : SiteDoc). IsFalse q.nocollapse) (same_some e) refl;
}

no_paths : (n : ℕ) → ArePaths witness n []
unfolding once
no_paths n = record { distinct = distinct list_eq same_text [] refl; each = λ w i. elim i [ ] }

paths_well : Placed (λ n g. ArePaths witness n g.flat) 0 witness.globals
unfolding shut
paths_well =
    placed (no_paths 0) (placed (no_paths 1) (placed (no_paths 2) (placed (no_paths 3) (placed (no_paths 4)
    (placed (record { distinct = distinct list_eq same_text ((2 ∷ []) ∷ []) refl; each = each_in {P = λ w. IsCollapsible witness (5, w.props) w.doc} (p_collapses ▹ none) }) (placed (no_paths 6) (placed (no_paths 7) nowhere)))))))

-- no extern has the name of a built-in global
meant : Placed (λ n g. g.chunk ≡ None → IsTrue (is_in g.name builtin_globals) → 4 ≤ n + 3) 0 witness.globals
unfolding shut
meant =
    placed (λ e h. cc) (placed (λ e h. lit≤ tt) (placed (λ e h. lit≤ tt) (placed (λ e h. lit≤ tt)
    (placed (λ e h. lit≤ tt) (placed (λ e h. lit≤ tt) (placed (λ e h. lit≤ tt) (placed (λ e h. lit≤ tt) nowhere)))))))

dependencies : Placed (λ c k. (d : ℕ) → In d k.deps → d < c) 0 witness.chunks
dependencies = placed (λ d i. elim i [ ]) (placed (each_in {P = λ d. d < 1} (lit< tt ▹ none)) nowhere)

witness_well : WellMade witness
unfolding shut
witness_well = record {
  chunks = lit≤ tt;
  dependencies = λ c d k e i. placed_at dependencies c k e d i;
  scopes = placed_at scopes_well;
  functions_once = distinct nat_eq same_number (2 ∷ 3 ∷ 4 ∷ 5 ∷ []) refl;
  parents = no_loop witness (placed_at lesser_parents);
  props = placed_at props_well;
  prop_names = distinct list_eq same_text (codes "prototype" ∷ codes "m" ∷ codes "p" ∷ codes "create" ∷ []) refl;
  kept = λ n h. h;
  classes = placed_at (placed class_A_well (placed class_S_well nowhere));
  one_class = one_class;
  docs = placed_at (placed empty_doc nowhere);
  globals = ordered;
  each_global = placed_at globals_well;
  paths = placed_at paths_well;
  meant = λ f c n r i. record { meant = placed_at meant n };
  counted = record { globals = lit< tt; docs = lit< tt; scopes = lit< tt; props = lit< tt; classes = lit< tt; places = lit< tt };
}

-- ---- what breaks it

--     function A(){}
--     function B(){}
--     function init(){A=B;}
abbrev reassigned : Program
reassigned = one_chunk (codes "alert" ∷ []) (codes "A" ∷ codes "B" ∷ codes "init" ∷ []) [] (fn 0 0 (fun_decl 0 (Ref.Global 4) 1 ∷ fun_decl 0 (Ref.Global 5) 2 ∷ fun_decl 0 (Ref.Global 6) 3 ∷ []) ∷ fn 0 0 [] ∷ fn 0 0 [] ∷ fn 0 0 (let_glo 4 (glo 5) ∷ []) ∷ [])

set_twice : settings (4, []) (mentions_of reassigned) ≡ by_function 1 ∷ elsewhere ∷ []
unfolding shut
set_twice = refl

-- a class's place that a function sets again is none
no_place : HasPlace reassigned 1 → ⊥
unfolding shut
no_place h =
    let e = each_in {P = λ x. x.1 ≡ 1 → x.0 ≡ (4, [])} ((λ e. refl) ▹ (λ e. cc) ▹ (λ e. cc) ▹ none) (h.place, 1) h.set refl in
    let k : by_function 1 ∷ elsewhere ∷ [] ≡ h.once.0 ∷ [] = subst (λ w. settings w (mentions_of reassigned) ≡ h.once.0 ∷ []) e h.once.1 in
    cc

--     var ns={};
--     ns.A=function(){};
--     alert(ns);
abbrev escaping : Program
escaping = one_chunk (codes "alert" ∷ []) (codes "ns" ∷ []) (prop (codes "A") ∷ []) (fn 0 0 (var_glo 4 (object 0 (fields [])) ∷ set_dot 0 (glo 4) 0 (fun 0 1) ∷ alert (glo 4) ∷ []) ∷ fn 0 0 [] ∷ [])

one_name : (ps : List ℕ) (p q : ℕ) → ps ++ p ∷ [] ≡ q ∷ [] → ps ≡ []
one_name [] p q e = refl
one_name (_ ∷ []) p q e = cc
one_name (_ ∷ _ ∷ ps) p q e = cc

-- the global that holds a property
held : {P : Program} {w : Path} (n p : ℕ) → MayBeVariable P w → w ≡ (n, p ∷ []) → IsHolding P (n, [])
held n p (a_global m c k) e = let d : [] ≡ p ∷ [] = ap (λ z. z.1) e in cc
held {P = P} n p (a_property h q m k f) e =
    let a : h.0 ≡ n = ap (λ z. z.0) e in
    let b : h.1 ≡ [] = one_name h.1 q p (ap (λ z. z.1) e) in
    subst (λ z. IsHolding P (n, z)) b (subst (λ z. IsHolding P (z, h.1)) a k)

constructed_only : {us : List Use} → AreConstructions us → us ≡ other ∷ [] → ⊥
constructed_only no_uses e = cc
constructed_only (by_new us a) e = cc
constructed_only (by_instance us a) e = cc

used_itself : {P : Program} {s : Setting} {us : List Use} → F.Holds P s us → us ≡ other ∷ [] → ⊥
used_itself (a_literal i fs d p) e = cc
used_itself (an_expression i f us c a) e = constructed_only a e
used_itself (a_declaration f us c a) e = constructed_only a e

-- a class's place whose holder is used in another way is none
no_variable : HasPlace escaping 1 → ⊥
unfolding shut
no_variable h =
    let e = each_in {P = λ x. x.1 ≡ 1 → x.0 ≡ (4, 0 ∷ [])} ((λ e. refl) ▹ none) (h.place, 1) h.set refl in
    used_itself (held 4 0 h.variable e).holds refl

--     two classes with one method
one_function_twice : WellMade (with_classes (class_A ∷ (record class_S { methods = (1, 3) ∷ [] }) ∷ [])) → ⊥
one_function_twice w = let e = w.one_class 0 1 3 _ _ refl refl (its_method 1 here) (its_method 1 here) in cc

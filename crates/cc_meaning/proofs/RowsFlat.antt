-- Programs with their flat paths.
use Rattle.std.specs.Prelude.{◌≡◌, refl, ℕ, Bool, true, false, ◌&&◌, nat_eq, List, [], ◌∷◌, ◌++◌, Some, None, IsFalse, codes}
use Rattle.std.proofs.Common.{subst, sym}
use Rattle.cc_ast.specs.Syntax.{fun, object, unary, assign, call, member, cast, to_var, Stmt, Program}
use Rattle.cc_ast.specs.declared.operator.UnOp.TheVariants.{Delete}
use Rattle.cc_ast.specs.declared.tree.Ref.{Ref}
use Rattle.cc_ast.specs.declared.tables.FlatPath.{FlatPath}
use Rattle.cc_ast.specs.declared.tables.PropInfo.{PropInfo}
use Rattle.cc_ast.specs.declared.tables.SiteDoc.{SiteDoc}
use Rattle.cc_meaning.specs.Monad.{pick}
use Rattle.cc_meaning.specs.Names.{always_kept}
use Rattle.cc_meaning.specs.Alike.{In}
use Rattle.cc_meaning.specs.FlatPaths.{Use, called, constructed, deleted, other, by_value, by_function, elsewhere, mentions_of, settings, uses, IsHolder, IsFree, IsCollapsible, a_literal}
use Rattle.cc_meaning.specs.FlatPaths as flat
use Rattle.cc_meaning.specs.Shapes as shapes
use Rattle.cc_meaning.specs.Store as store
use Rattle.cc_meaning.proofs.Opened.{opened}
use Rattle.cc_meaning.proofs.Trees.{num, glo, exprs, fields, do_expr, var_glo, set_dot, alert, fn, no_doc, chunk_of, global_in, built_ins, prop}

unfoldable shut : ℕ
unfolding flat.pure flat.below flat.use_of flat.setting_of flat.operand_use flat.right_use flat.in_expr flat.in_option flat.sets_at flat.in_initial flat.in_declarator flat.in_declarators flat.in_init flat.in_each flat.in_statement flat.function_setting flat.in_stmt flat.in_scopes flat.mentions_of flat.same_path flat.settings flat.uses flat.dotted_keys shapes.longer shapes.path_of_ref shapes.path_of shapes.path_of_target shapes.path_of_key store.same_numbers opened
shut = 0

-- a program of one chunk with one extern, and the flat paths of its one global
abbrev of_paths : List Stmt → List (List ℕ) → List (List ℕ) → Program
of_paths ss names paths = record {
  scopes = fn 0 0 ss ∷ fn 1 0 [] ∷ [];
  chunks = chunk_of [] ∷ [];
  globals = global_in None (codes "alert") ∷ built_ins ++ (record { name = codes "ns"; chunk = Some 0; doc = 0; flat = flats paths }) ∷ [];
  props = props names;
  kept = always_kept;
  classes = [];
  places = [];
  docs = no_doc ∷ [];
}
  where
    flats : List (List ℕ) → List FlatPath
    flats [] = []
    flats (ps ∷ pss) = (record { props = ps; doc = 0 }) ∷ flats pss

    props : List (List ℕ) → List PropInfo
    props [] = []
    props (n ∷ ns) = prop n ∷ props ns

--     var ns={};ns.a={};ns.a.b=function(x){};ns.a.b(1);
abbrev nested : Program
nested = of_paths (var_glo 4 (object 0 (fields [])) ∷ set_dot 0 (glo 4) 0 (object 0 (fields [])) ∷ set_dot 0 (member 0 (glo 4) 0) 1 (fun 0 1) ∷ do_expr (call 0 (member 0 (member 0 (glo 4) 0) 1) (exprs (num 1 ∷ []))) ∷ []) (codes "a" ∷ codes "b" ∷ []) ((0 ∷ []) ∷ (0 ∷ 1 ∷ []) ∷ [])

ns_set : settings (4, []) (mentions_of nested) ≡ by_value (object 0 (fields [])) ∷ []
unfolding shut
ns_set = refl

ns_unused : uses (4, []) (mentions_of nested) ≡ []
unfolding shut
ns_unused = refl

a_unused : uses (4, 0 ∷ []) (mentions_of nested) ≡ []
unfolding shut
a_unused = refl

b_called : uses (4, 0 ∷ 1 ∷ []) (mentions_of nested) ≡ called ∷ []
unfolding shut
b_called = refl

--     a `delete` of a path, under a cast, and a write in a nested list
deleted_path : uses (4, 0 ∷ []) (mentions_of (of_paths (do_expr (unary 0 Delete (cast 0 0 (member 0 (glo 4) 0))) ∷ []) (codes "a" ∷ []) [])) ≡ deleted ∷ []
unfolding shut
deleted_path = refl

--     alert(ns=1): not a statement of its own
set_within : settings (4, []) (mentions_of (of_paths (alert (assign 0 None (to_var 0 (Ref.Global 4)) (num 1)) ∷ []) [] [])) ≡ elsewhere ∷ []
unfolding shut
set_within = refl

never : (b : Bool) → pick (b && false) (called ∷ []) [] ≡ []
never true = refl
never false = refl

called_elsewhere : (p : ℕ) → uses (4, p ∷ []) (mentions_of nested) ≡ []
unfolding shut
called_elsewhere p = never (nat_eq 0 p)

not_in_none : {A : Type 0} (x : A) → In x [] → ⊥
not_in_none x h = elim h [ ]

same_entry : {A : Type 0} {x y : A} → Some x ≡ Some y → x ≡ y
same_entry e = cc

ns_holds : IsHolder nested (4, [])
unfolding shut
ns_holds = record {
  variable = λ none. (0, refl);
  path = λ some. absurd (some refl);
  setting = by_value (object 0 (fields []));
  once = ns_set;
  holds = subst (λ us. flat.Holds nested (by_value (object 0 (fields []))) us) (sym ns_unused) (a_literal 0 (fields []) refl refl);
  methods = λ p h. absurd (not_in_none called (subst (λ us. In called us) (called_elsewhere p) h));
}

a_free : IsFree nested (4, 0 ∷ []) 0
unfolding shut
a_free = record {
  unkept = λ p e. subst (λ (q : PropInfo). IsFalse q.kept) (same_entry e) refl;
  stays = λ h. not_in_none deleted (subst (λ us. In deleted us) a_unused h);
}

a_collapses : IsCollapsible nested (4, 0 ∷ []) 0
unfolding shut
a_collapses = record {
  holder = (4, []);
  name = 0;
  is = refl;
  holds = ns_holds;
  free = a_free;
  marked = λ d e. subst (λ (q : SiteDoc). IsFalse q.nocollapse) (same_entry e) refl;
}

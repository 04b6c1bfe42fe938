-- A small program that is well made: `function f(x){return x;}f(alert);`.
use Rattle.std.proofs.Common.{◌≡◌, refl, ℕ, zero, suc, ◌+◌, ◌<◌, ◌≤◌, true, false, List, [], ◌∷◌, Option, Some, None, subst, sym, ap, lit<, lit≤, IsTrue, IsFalse, is_some, arith}
use Rattle.std.specs.Prelude.{slice_get, codes}
use Rattle.cc_ast.specs.Syntax.{Scope, Program, call, unary, cast, assign, to_var, Stmt, simple, fun_decl, if, while, return, break, continue, label, try, absent}
use Rattle.cc_ast.specs.declared.operator.UnOp.TheVariants.{Delete}
use Rattle.cc_ast.specs.declared.tree.Ref.{Ref}
use Rattle.cc_ast.specs.declared.tables.ChunkInfo.{ChunkInfo}
use Rattle.cc_ast.specs.declared.tables.GlobalInfo.{GlobalInfo}
use Rattle.cc_ast.specs.declared.tables.FlatPath.{FlatPath}
use Rattle.cc_ast.specs.declared.tables.SiteDoc.{SiteDoc}
use Rattle.cc_ast.specs.declared.tables.TypeSet.{TypeSet}
use Rattle.cc_meaning.specs.Operators.{is_in}
use Rattle.cc_meaning.specs.Shapes.{tables_of}
use Rattle.cc_meaning.specs.Names.{builtin_globals}
use Rattle.cc_meaning.specs.Alike.{In, here, there}
use Rattle.cc_meaning.specs.Parts as Pa
use Rattle.cc_meaning.specs.Parts.{Part, has_site, mentions, declares, makes}
use Rattle.cc_meaning.specs.FlatPaths.{IsCollapsible}
use Rattle.cc_meaning.specs.WellMade as W
use Rattle.cc_meaning.specs.WellMade.{WellMade, IsScope, IsPart, a_site, a_mention, a_declaration, a_function, IsMade, IsSound, sound_place, sound_global, sound_outer, IsDeclared, IsPlaced, placed_global, IsOwn, is_param, Holds, of_frame, Reached, Encloses, directly, further, IsOrdered, IsGlobal, IsMeant, IsCounted, IsDistinct, parts_of, all_functions}
use Rattle.cc_meaning.proofs.Opened.{opened}
use Rattle.cc_meaning.proofs.Trees.{exprs, stmts, fn, no_doc, one_chunk, glo, loc}

abbrev chunk : Scope
chunk = fn 0 0 (fun_decl 0 (Ref.Global 4) 1 ∷ simple 0 (call 0 (glo 4) (exprs (glo 0 ∷ []))) ∷ [])

abbrev inner : Scope
inner = record (fn 1 0 (return 0 (Some (loc 0)) ∷ [])) { parent = Some 0 }

abbrev small : Program
small = record (one_chunk (codes "alert" ∷ []) (codes "f" ∷ []) [] (chunk ∷ inner ∷ [])) { places = (record { file = 0; offset = 0; line = 1; column = 1 }) ∷ [] }

unfoldable shut : ℕ
unfolding opened Pa.expr_parts Pa.target_parts Pa.exprs_parts Pa.fields_parts Pa.option_parts Pa.vars_parts Pa.init_parts Pa.name_parts Pa.stmt_parts Pa.stmts_parts Pa.maybe_parts Pa.cases_parts Pa.expr_well Pa.target_well Pa.exprs_well Pa.may_read Pa.is_no_built Pa.built_callee Pa.is_string Pa.exact_prim W.stmt_well W.stmts_well W.option_well W.parts_of W.is_chunk W.all_functions W.functions_in W.outer_names W.refused_names W.path_count W.method_count
shut = 0

declared_f : IsDeclared small 4 0
unfolding shut
declared_f = record { here = (0, there here); least = λ d k h. elim (h) [ ] }

sound_f : IsSound small 0 0 (Ref.Global 4)
unfolding shut
sound_f = sound_global 4 0 refl declared_f

part_of_chunk : (x : Part) → In x (parts_of small 0) → IsPart small 0 x
unfolding shut
part_of_chunk x here = a_site 0 (lit< tt)
part_of_chunk x (there here) = a_declaration 0 (Ref.Global 4) (placed_global 4 0 refl refl) (λ _. sound_f)
part_of_chunk x (there (there here)) = a_function 0 1 true (record { scope = inner; stands = refl; function = refl; parent = refl; own = λ _. refl })
part_of_chunk x (there (there (there here))) = a_site 0 (lit< tt)
part_of_chunk x (there (there (there (there here)))) = a_site 0 (lit< tt)
part_of_chunk x (there (there (there (there (there here))))) = a_site 0 (lit< tt)
part_of_chunk x (there (there (there (there (there (there here)))))) = a_mention 0 (Ref.Global 4) (W.numbered_global 4 (lit< tt)) (λ _. sound_f)
part_of_chunk x (there (there (there (there (there (there (there here))))))) = a_site 0 (lit< tt)
part_of_chunk x (there (there (there (there (there (there (there (there here)))))))) = a_mention 0 (Ref.Global 0) (W.numbered_global 0 (lit< tt)) (λ _. sound_outer 0 _ refl refl)
part_of_chunk x (there (there (there (there (there (there (there (there (there h))))))))) = elim h [ ]

part_of_inner : (x : Part) → In x (parts_of small 1) → IsPart small 1 x
unfolding shut
part_of_inner x here = a_site 0 (lit< tt)
part_of_inner x (there here) = a_site 0 (lit< tt)
part_of_inner x (there (there here)) = a_mention 0 (Ref.Frame 0 0) (W.numbered_place 0 0) (λ _. sound_place 0 0 (of_frame 1 0 0 inner refl refl (is_param 0 (lit< tt))))
part_of_inner x (there (there (there h))) = elim h [ ]

chunk_well : IsScope small 0 chunk
unfolding shut
chunk_well = record { statements = refl; parts = part_of_chunk; doc = lit< tt; chunk_own = λ _. refl; chunk_parent = λ _. refl }

inner_well : IsScope small 1 inner
unfolding shut
inner_well = record { statements = refl; parts = part_of_inner; doc = lit< tt; chunk_own = λ h. cc; chunk_parent = λ h. cc }

some_or : {A : Type 0} → A → Option A → A
some_or a None = a
some_or a (Some b) = b

same_some : {A : Type 0} {x y : A} → Some x ≡ Some y → x ≡ y
unfolding some_or
same_some {x = a} e = ap (some_or a) e

scope_well : (f : ℕ) (s : Scope) → slice_get small.scopes f ≡ Some s → IsScope small f s
scope_well zero s e = subst (λ t. IsScope small 0 t) (same_some e) chunk_well
scope_well (suc zero) s e = subst (λ t. IsScope small 1 t) (same_some e) inner_well
scope_well (suc (suc f)) s e = cc

one_place : {A : Type 0} (a : A) → IsDistinct (a ∷ [])
one_place a zero zero x e d = refl
one_place a zero (suc j) x e d = cc
one_place a (suc i) j x e d = cc

no_place : (A : Type 0) → IsDistinct {A = A} []
no_place A i j x e d = cc

-- a parent has a lesser number
below : (f g : ℕ) → Encloses small f g → g < f
below f g (directly zero k s e h) = let t = subst (λ t. t.parent ≡ Some k) (sym (same_some e)) h in cc
below f g (directly (suc zero) k s e h) = let t = subst (λ t. t.parent ≡ Some k) (sym (same_some e)) h in subst (λ n. n < 1) (same_some t) (lit< tt)
below f g (directly (suc (suc n)) k s e h) = cc
below f g (further a b c h k) = let p = below a b h in let q = below b c k in omega arith

no_loop : (f : ℕ) → Encloses small f f → ⊥
no_loop f h = let p = below f f h in omega arith

ordered : IsOrdered small
unfolding shut
ordered = record { externs = codes "alert" ∷ []; names = refl; distinct = one_place (codes "alert"); inner = inner_globals }
  where
    inner_globals : (n : ℕ) (g : GlobalInfo) → slice_get small.globals n ≡ Some g → 4 ≤ n → IsTrue (is_some g.chunk)
    inner_globals zero g e h = absurd (omega arith)
    inner_globals (suc zero) g e h = absurd (omega arith)
    inner_globals (suc (suc zero)) g e h = absurd (omega arith)
    inner_globals (suc (suc (suc zero))) g e h = absurd (omega arith)
    inner_globals (suc (suc (suc (suc zero)))) g e h = subst (λ t. IsTrue (is_some t.chunk)) (same_some e) refl
    inner_globals (suc (suc (suc (suc (suc n))))) g e h = cc

-- a global without a chunk, or of chunk 0, with a name that a variable may have
plain_global : (g : GlobalInfo) → IsFalse (is_in g.name W.refused_names) → g.flat ≡ [] → g.doc ≡ 0 → ((c : ℕ) → g.chunk ≡ Some c → c ≡ 0) → IsGlobal small g
plain_global g name flat doc chunk = record {
  chunk = λ c e. (subst (λ n. n < 1) (sym (chunk c e)) (lit< tt), name);
  doc = subst (λ n. n < 1) (sym doc) (lit< tt);
  flat = λ w h. none w (subst (λ ws. In w ws) flat h);
}
  where
    none : (w : FlatPath) → In w [] → (w.doc < 1) × ((p : ℕ) → In p w.props → p < 0)
    none w h = elim h [ ]

each_global : (n : ℕ) (g : GlobalInfo) → slice_get small.globals n ≡ Some g → IsGlobal small g
unfolding shut
each_global zero g e = subst (λ t. IsGlobal small t) (same_some e) (plain_global _ refl refl refl (λ c h. cc))
each_global (suc zero) g e = subst (λ t. IsGlobal small t) (same_some e) (plain_global _ refl refl refl (λ c h. cc))
each_global (suc (suc zero)) g e = subst (λ t. IsGlobal small t) (same_some e) (plain_global _ refl refl refl (λ c h. cc))
each_global (suc (suc (suc zero))) g e = subst (λ t. IsGlobal small t) (same_some e) (plain_global _ refl refl refl (λ c h. cc))
each_global (suc (suc (suc (suc zero)))) g e = subst (λ t. IsGlobal small t) (same_some e) (plain_global _ refl refl refl (λ c h. sym (same_some h)))
each_global (suc (suc (suc (suc (suc n))))) g e = cc

no_paths : (n : ℕ) (ws : List FlatPath) → ws ≡ [] → W.ArePaths small n ws
no_paths n ws e = subst (λ xs. W.ArePaths small n xs) (sym e) (record { distinct = no_place (List ℕ); each = λ w h. none w h })
  where
    none : (w : FlatPath) → In w [] → IsCollapsible small (n, w.props) w.doc
    none w h = elim h [ ]

each_paths : (n : ℕ) (g : GlobalInfo) → slice_get small.globals n ≡ Some g → W.ArePaths small n g.flat
each_paths zero g e = no_paths 0 g.flat (subst (λ t. t.flat ≡ []) (same_some e) refl)
each_paths (suc zero) g e = no_paths 1 g.flat (subst (λ t. t.flat ≡ []) (same_some e) refl)
each_paths (suc (suc zero)) g e = no_paths 2 g.flat (subst (λ t. t.flat ≡ []) (same_some e) refl)
each_paths (suc (suc (suc zero))) g e = no_paths 3 g.flat (subst (λ t. t.flat ≡ []) (same_some e) refl)
each_paths (suc (suc (suc (suc zero)))) g e = no_paths 4 g.flat (subst (λ t. t.flat ≡ []) (same_some e) refl)
each_paths (suc (suc (suc (suc (suc n))))) g e = cc

meant_global : (n : ℕ) (g : GlobalInfo) → slice_get small.globals n ≡ Some g → g.chunk ≡ None → IsTrue (is_in g.name builtin_globals) → 4 ≤ n + 3
unfolding shut
meant_global zero g e h k = let t = subst (λ t. IsTrue (is_in t.name builtin_globals)) (sym (same_some e)) k in cc
meant_global (suc n) g e h k = omega arith

-- no doc of the program has a type or a variable
empty_doc : W.IsDoc small no_doc
unfolding shut W.type_in W.types_in_all W.types_in
empty_doc = record { classes = λ t a h k. none_typed t a h; vars = λ n h. none_listed n h }
  where
    none_typed : (t : TypeSet) (a : ℕ) → In t [] → a < 0
    none_typed t a h = elim h [ ]

    none_listed : (n : ℕ) → In n [] → n < 1
    none_listed n h = elim h [ ]

each_doc : (n : ℕ) (d : SiteDoc) → slice_get small.docs n ≡ Some d → W.IsDoc small d
unfolding shut
each_doc zero d e = subst (λ t. W.IsDoc small t) (same_some e) empty_doc
each_doc (suc n) d e = cc

well : WellMade small
unfolding shut
well = record {
  chunks = lit≤ tt;
  dependencies = deps;
  scopes = scope_well;
  functions_once = one_place 1;
  parents = no_loop;
  props = λ n p e. cc;
  prop_names = no_place (List ℕ);
  kept = λ n h. h;
  classes = λ a c e. cc;
  one_class = λ a b f c d e. cc;
  docs = each_doc;
  globals = ordered;
  each_global = each_global;
  paths = each_paths;
  meant = λ f c n r h. record { meant = meant_global n };
  counted = record { globals = lit< tt; docs = lit< tt; scopes = lit< tt; props = lit< tt; classes = lit< tt; places = lit< tt };
}
  where
    no_deps : (d c : ℕ) → In d [] → d < c
    no_deps d c h = elim h [ ]

    deps : (c d : ℕ) (k : ChunkInfo) → slice_get small.chunks c ≡ Some k → In d k.deps → d < c
    deps zero d k e h = no_deps d 0 (subst (λ t. In d t.deps) (sym (same_some e)) h)
    deps (suc c) d k e h = cc

-- ---- statements that don't stand where they may

abbrev refused_in : ℕ → List Stmt → Type 0
refused_in f ss = W.stmts_well (tables_of small) (W.opened small f) [] (stmts ss) ≡ false

break_alone : refused_in 1 (break 0 None ∷ [])
unfolding shut W.may_break
break_alone = refl

continue_to_block : refused_in 1 (label 0 (codes "a") (stmts (while 0 (loc 0) (stmts (continue 0 (Some (codes "a")) ∷ [])) ∷ break 0 (Some (codes "a")) ∷ [])) ∷ [])
unfolding shut W.may_break W.may_continue W.labels_for W.counted
continue_to_block = refl

return_in_chunk : refused_in 0 (return 0 None ∷ [])
unfolding shut
return_in_chunk = refl

delete_variable : refused_in 1 (simple 0 (unary 0 Delete (cast 0 0 (loc 0))) ∷ [])
unfolding shut Pa.takes_operand Pa.is_variable
delete_variable = refl

write_extern : refused_in 1 (simple 0 (assign 0 None (to_var 0 (Ref.Global 0)) (loc 0)) ∷ [])
unfolding shut Pa.assigns Pa.may_write Pa.is_own_global
write_extern = refl

function_in_block : refused_in 1 (if 0 (loc 0) (stmts (fun_decl 0 (Ref.Frame 0 0) 1 ∷ [])) (stmts []) ∷ [])
unfolding shut
function_in_block = refl

no_catch : refused_in 1 (try 0 (stmts []) absent absent ∷ [])
unfolding shut W.is_there
no_catch = refl

built_in_alone : refused_in 1 (simple 0 (glo 1) ∷ [])
unfolding shut
built_in_alone = refl

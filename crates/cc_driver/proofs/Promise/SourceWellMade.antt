-- The program of a source of the form is well made.
use Rattle.std.proofs.Common.{◌≡◌, ℕ, zero, suc, ◌+◌, ◌^◌, ◌<◌, ◌≤◌, List, [], ◌∷◌, ◌++◌, length, map, take, refl, sym, ap, ◌∙◌, subst, ◌⊎◌, inl, inr, arith, Some, None, slice_get, IsTrue, append_assoc, lit<, lit≤}
use Rattle.std.proofs.lemmas.List.{map-append}
use Rattle.std.proofs.lemmas.Bool.{cases_lt}
use Rattle.cc_ast.specs.declared.tables.ChunkInfo.{ChunkInfo}
use Rattle.cc_ast.specs.declared.tables.GlobalInfo.{GlobalInfo}
use Rattle.cc_ast.specs.declared.tables.SiteDoc.{SiteDoc}
use Rattle.cc_ast.specs.declared.tree.Ref.TheVariants as ref
use Rattle.cc_ast.specs.StmtBridge.{stmts}
use Rattle.cc_ast.specs.Syntax as S
use Rattle.cc_meaning.specs.Operators.{is_in}
use Rattle.cc_meaning.specs.Names.{builtin_globals}
use Rattle.cc_meaning.specs.Alike.{In}
use Rattle.cc_meaning.specs.Shapes.{tables_of, body_of, body_in}
use Rattle.cc_meaning.specs.Store.{without_chunk}
use Rattle.cc_meaning.specs.Parts.{has_site, stmts_parts}
use Rattle.cc_meaning.specs.WellMade as W
use Rattle.cc_meaning.specs.WellMade.{WellMade, IsScope, IsPart, a_site, a_mention, a_declaration, IsSound, sound_global, sound_outer, IsNumbered, numbered_global, IsDoc, types_in, types_in_all, type_in, IsDeclared, IsPlaced, placed_global, Encloses, directly, further, IsOrdered, IsGlobal, ArePaths, IsMeant, IsCounted, Reached, parts_of, opened, is_chunk, all_functions, outer_names, path_count, method_count, refused_names, stmts_well}
use Rattle.cc_driver.specs.Names.{built_in_names, IsName}
use Rattle.cc_driver.specs.Form.{IsExterns, IsSource, declared}
use Rattle.cc_driver.specs.Source.{number_of, statement_tree, program_of, global_names, global_of_no_chunk, global_of_main, main_scope, no_doc, places_from}
use Rattle.cc_driver.specs.declared.form.Statement.{Statement}
use Rattle.cc_driver.proofs.SourceLaws.{functions_named, sound_distinct}
use Rattle.cc_driver.proofs.Resolved.{declared_few}
use Rattle.cc_driver.proofs.Promise.Lists.{Distinct, distinct_places, all_at, got_within}
use Rattle.cc_driver.specs.Sound.{StatementsFit, StatementsSites, AreSound, AreWithin}
use Rattle.cc_driver.proofs.Promise.Fit.{sound_source, sound_fits, declared_named}
use Rattle.cc_driver.proofs.Promise.SourceSites.{source_within}
use Rattle.cc_driver.proofs.Promise.SourceKinds.{without_is, outer_count, extern_at, own_at, extern_kind, own_kind}
use Rattle.cc_driver.proofs.Promise.SourceParts.{Each, MakesNone, statements_each, declares_in, no_functions, statements_well}
use Rattle.cc_driver.proofs.Promise.SourceTables.{in_from_test, same_built_ins, no_built_in, not_refused, taken_names, inner_chunk, outer_name, no_paths, Shape, of_outer, of_own, shape_of}

same_some : {X : Type 0} {x y : X} → Some x ≡ Some y → x ≡ y
same_some e = cc

no_some : {X : Type 0} {x : X} → None ≡ Some x → ⊥
no_some e = cc

places_count : (at n : ℕ) → length (places_from at n) ≡ n
places_count at zero = refl
places_count at (suc n) = ap suc (places_count (at + 1) n)

module _ (file : List ℕ) (externs : List (List ℕ)) (size : ℕ) (ss : List Statement) (ex : IsExterns file externs) (so : AreSound externs ss) (within : AreWithin size ss) where
  abbrev P : S.Program
  P = program_of externs size ss

  abbrev G : List (List ℕ)
  G = global_names externs ss

  distinct : Distinct G
  distinct = sound_distinct file externs ss ex so

  fits : StatementsFit (λ x. In x externs) (λ x. In x (declared ss)) ss
  fits = sound_fits externs ss so

  sites : StatementsSites size ss
  sites = within.reach

  extern_named : (x : List ℕ) → In x externs → IsName x
  extern_named x h = all_at IsName h (functions_named file externs ex.form)

  own_named : (x : List ℕ) → In x (declared ss) → IsName x
  own_named x h = all_at IsName h (declared_named ss so.writable)

  -- ---- the statements

  declared_here : (x : List ℕ) → In x (declared ss) → IsDeclared P (number_of G x) 0
  unfolding parts_of body_of body_in
  declared_here x h = record { here = (0, declares_in (tables_of P) G ss x h); least = λ d k l. absurd (omega arith) }

  own_sound : (c : ℕ) (x : List ℕ) → In x (declared ss) → IsSound P 0 c (ref.Global (number_of G x))
  own_sound c x h = sound_global (number_of G x) 0 (own_kind externs size ss distinct x h) (declared_here x h)

  extern_sound : (c : ℕ) (x : List ℕ) → In x externs → IsSound P 0 c (ref.Global (number_of G x))
  extern_sound c x h = sound_outer (number_of G x) (global_of_no_chunk x) (extern_at externs size ss x h) refl

  extern_numbered : (x : List ℕ) → In x externs → IsNumbered P (ref.Global (number_of G x))
  extern_numbered x h = numbered_global (number_of G x) (got_within P.globals (number_of G x) (global_of_no_chunk x) (extern_at externs size ss x h))

  own_numbered : (x : List ℕ) → In x (declared ss) → IsNumbered P (ref.Global (number_of G x))
  own_numbered x h = numbered_global (number_of G x) (got_within P.globals (number_of G x) (global_of_main x) (own_at externs size ss distinct x h))

  here_is_chunk : IsTrue (is_chunk P 0)
  unfolding is_chunk
  here_is_chunk = refl

  site_part : (i : ℕ) → i < size → IsPart P 0 (has_site i)
  site_part i l = a_site i (omega (arith, places_count 0 size))

  parts : Each (IsPart P 0) (parts_of P 0)
  unfolding parts_of body_of body_in
  parts =
      statements_each (tables_of P) G (λ x. In x externs) (λ x. In x (declared ss)) size (IsPart P 0) site_part
      (λ x h. a_mention 0 (ref.Global (number_of G x)) (extern_numbered x h) (λ _. extern_sound 0 x h))
      (λ x h. a_mention 0 (ref.Global (number_of G x)) (own_numbered x h) (λ _. own_sound 0 x h))
      (λ x h. a_declaration 0 (ref.Global (number_of G x)) (placed_global (number_of G x) 0 here_is_chunk (own_kind externs size ss distinct x h)) (λ _. own_sound 0 x h))
      ss fits sites

  statements : IsTrue (stmts_well (tables_of P) (opened P 0) [] (stmts (map (statement_tree G) ss)))
  statements =
      statements_well (tables_of P) G (opened P 0) (λ x. In x externs) (λ x. In x (declared ss))
      (extern_kind externs size ss) (own_kind externs size ss distinct) ss fits

  main_well : IsScope P 0 (main_scope G ss)
  main_well = record { statements = statements; parts = parts; doc = lit< tt; chunk_own = λ h. refl; chunk_parent = λ h. refl }

  scopes : (f : ℕ) (s : S.Scope) → slice_get P.scopes f ≡ Some s → IsScope P f s
  scopes zero s e = subst (IsScope P 0) (same_some e) main_well
  scopes (suc f) s e = absurd (no_some e)

  makes_none : Each MakesNone (stmts_parts (tables_of P) 0 (stmts (map (statement_tree G) ss)))
  unfolding W.functions_in
  makes_none =
      statements_each (tables_of P) G (λ x. In x externs) (λ x. In x (declared ss)) size MakesNone (λ i l. refl) (λ x h. refl) (λ x h. refl) (λ x h. refl) ss fits sites

  functions : all_functions (tables_of P) P.scopes ≡ []
  unfolding all_functions
  functions = ap (λ t. t ++ []) (no_functions (stmts_parts (tables_of P) 0 (stmts (map (statement_tree G) ss))) makes_none)

  no_places : (A : Type 0) → W.IsDistinct {A = A} []
  no_places A i j x e d = absurd (no_some e)

  functions_once : W.IsDistinct (all_functions (tables_of P) P.scopes)
  functions_once = subst (λ t. W.IsDistinct t) (sym functions) (no_places ℕ)

  -- ---- the tables

  no_deps : (c d : ℕ) (k : ChunkInfo) → slice_get P.chunks c ≡ Some k → In d k.deps → d < c
  no_deps zero d k e h = absurd (none d (subst (λ t. In d t.deps) (sym (same_some e)) h))
    where
      none : (i : ℕ) → In i [] → ⊥
      none i g = elim g [ ]
  no_deps (suc c) d k e h = absurd (no_some e)

  no_parent : (f g : ℕ) → Encloses P f g → ⊥
  no_parent f g (directly zero k s e p) = let t = subst (λ t. t.parent ≡ Some g) (sym (same_some e)) p in no_some t
  no_parent f g (directly (suc n) k s e p) = no_some e
  no_parent f g (further a b c h k) = no_parent a b h

  doc_says_nothing : IsDoc P no_doc
  unfolding types_in types_in_all type_in
  doc_says_nothing = record { classes = λ t a h k. elim h [ ]; vars = λ n h. elim h [ ] }

  docs : (n : ℕ) (d : SiteDoc) → slice_get P.docs n ≡ Some d → IsDoc P d
  docs zero d e = subst (IsDoc P) (same_some e) doc_says_nothing
  docs (suc n) d e = absurd (no_some e)

  ordered : IsOrdered P
  unfolding outer_names
  ordered = record {
    externs = externs;
    names = ap (λ k. map (λ g. g.name) (take k P.globals)) (without_is (externs ++ built_in_names) (declared ss)) ∙ taken_names (externs ++ built_in_names) (map global_of_main (declared ss))
        ∙ ap (λ t. externs ++ t) (sym same_built_ins);
    distinct = distinct_places externs ex.once;
    inner = λ n g e l. inner_chunk (externs ++ built_in_names) (declared ss) n g e (omega (arith, l, without_is (externs ++ built_in_names) (declared ss)));
  }

  global_is : (g : GlobalInfo) → Shape (externs ++ built_in_names) (declared ss) g → IsGlobal P g
  global_is g (of_outer x h e) = subst (IsGlobal P) e (record { chunk = λ c d. absurd (no_some d); doc = lit< tt; flat = λ w k. elim k [ ] })
  global_is g (of_own x h e) =
      subst (IsGlobal P) e (record { chunk = λ c d. (subst (λ k. k < 1) (same_some d) (lit< tt), not_refused x (own_named x h)); doc = lit< tt; flat = λ w k. elim k [ ] })

  paths_are : (n : ℕ) (g : GlobalInfo) → Shape (externs ++ built_in_names) (declared ss) g → ArePaths P n g.flat
  paths_are n g (of_outer x h e) = subst (λ t. ArePaths P n t.flat) e (record { distinct = no_places (List ℕ); each = λ w k. elim k [ ] })
  paths_are n g (of_own x h e) = subst (λ t. ArePaths P n t.flat) e (record { distinct = no_places (List ℕ); each = λ w k. elim k [ ] })

  meant : (n : ℕ) (g : GlobalInfo) → slice_get P.globals n ≡ Some g → g.chunk ≡ None → IsTrue (is_in g.name builtin_globals) → without_chunk P.globals ≤ n + 3
  meant n g e none built = by (cases_lt n (length externs))
    where
      apart : P.globals ≡ map global_of_no_chunk externs ++ (map global_of_no_chunk built_in_names ++ map global_of_main (declared ss))
      apart =
          ap (λ t. t ++ map global_of_main (declared ss)) (map-append global_of_no_chunk externs built_in_names)
          ∙ append_assoc (map global_of_no_chunk externs) (map global_of_no_chunk built_in_names) (map global_of_main (declared ss))

      by : (n < length externs) ⊎ (length externs ≤ n) → without_chunk P.globals ≤ n + 3
      by (inl l) =
          let there = outer_name externs (map global_of_no_chunk built_in_names ++ map global_of_main (declared ss)) n g (ap (λ t. slice_get t n) (sym apart) ∙ e) l in
          absurd (no_built_in g.name (extern_named g.name there) (subst (In g.name) same_built_ins (in_from_test g.name builtin_globals built)))
      by (inr l) = omega (arith, outer_count externs size ss)

  global_count : length P.globals ≡ length G
  global_count = lengths (externs ++ built_in_names) (declared ss)
    where
      inner : (ys : List (List ℕ)) → length (map global_of_main ys) ≡ length ys
      inner [] = refl
      inner (y ∷ ys) = ap suc (inner ys)

      lengths : (xs ys : List (List ℕ)) → length (map global_of_no_chunk xs ++ map global_of_main ys) ≡ length (xs ++ ys)
      lengths [] ys = inner ys
      lengths (x ∷ xs) ys = ap suc (lengths xs ys)

  counted : IsCounted P
  unfolding method_count
  counted = record {
    globals = (let few : length G < 2 ^ 32 = declared_few file externs size ss ex within.few within.short in omega (arith, few, global_count, no_paths (externs ++ built_in_names) (declared ss)));
    docs = lit< tt;
    scopes = lit< tt;
    props = lit< tt;
    classes = lit< tt;
    places = (let short : size ≤ 16777216 = within.short in omega (arith, short, places_count 0 size));
  }

  pub sound_well : WellMade P
  sound_well = record {
    chunks = lit≤ tt;
    dependencies = no_deps;
    scopes = scopes;
    functions_once = functions_once;
    parents = λ f h. no_parent f f h;
    props = λ n p e. absurd (no_some e);
    prop_names = no_places (List ℕ);
    kept = λ n h. h;
    classes = λ a c e. absurd (no_some e);
    one_class = λ a b f c d e. absurd (no_some e);
    docs = docs;
    globals = ordered;
    each_global = λ n g e. global_is g (shape_of (externs ++ built_in_names) (declared ss) n g e);
    paths = λ n g e. paths_are n g (shape_of (externs ++ built_in_names) (declared ss) n g e);
    meant = λ f c n r h. record { meant = meant n };
    counted = counted;
  }

-- the program of a source is well made
pub source_well : (file : List ℕ) (externs : List (List ℕ)) (source : List ℕ) (ss : List Statement) → IsExterns file externs → IsSource externs source ss → WellMade (program_of externs (length source) ss)
source_well file externs source ss ex so = sound_well file externs (length source) ss ex (sound_source externs source ss so) (source_within externs source ss so)

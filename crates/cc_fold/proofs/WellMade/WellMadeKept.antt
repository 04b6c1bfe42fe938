-- A program whose scopes follow those of a well made program without flat paths is well made.
use Rattle.std.proofs.Common.{◌≡◌, ℕ, zero, suc, ◌^◌, ◌<◌, ◌≤◌, true, List, [], ◌∷◌, length, map, Some, sym, subst, ◌∙◌}
use Rattle.std.specs.Prelude.{slice_get}
use Rattle.cc_ast.specs.Syntax.{Scope, Program}
use Rattle.cc_ast.specs.declared.tables.GlobalInfo.{GlobalInfo}
use Rattle.cc_ast.specs.declared.tables.Class.{Class}
use Rattle.cc_ast.specs.declared.tables.PropInfo.{PropInfo}
use Rattle.cc_ast.specs.declared.tables.SiteDoc.{SiteDoc}
use Rattle.cc_ast.specs.declared.tree.Ref.{Ref}
use Rattle.cc_ast.specs.declared.tables.FlatPath.{FlatPath}
use Rattle.cc_meaning.specs.State.{Tables}
use Rattle.cc_meaning.specs.Alike.{In, here, there, ListT}
use Rattle.cc_meaning.specs.Shapes.{head_of, tables_of, sets_by_chunks}
use Rattle.cc_meaning.specs.Parts.{Part, mentions}
use Rattle.cc_meaning.specs.WellMade.{is_chunk, opened, parts_of, stmts_well, Reached, IsNumbered, numbered_place, numbered_global, IsPart, a_site, a_prop, a_doc, a_mention, a_declaration, a_function, a_method, IsScope, IsDistinct, Encloses, directly, further, IsProp, IsDoc, IsClass, IsGlobal, ArePaths, IsCounted, outer_names, IsOrdered, IsMeant, WellMade}
use Rattle.cc_tied.specs.Promises.{HasNoPaths}
use Rattle.cc_tied.proofs.Lists.{tied_length}
use Rattle.cc_tied.proofs.Injection.Facts.{part_of}
use Rattle.cc_fold.proofs.WellMade.OtherTables.{stmts_alike}
use Rattle.cc_fold.proofs.WellMade.FollowingScopes.{Follows, before}
use Rattle.cc_fold.proofs.WellMade.FollowingParts.{part_before}
use Rattle.cc_fold.proofs.WellMade.FollowingPlaces.{Q, reached_before, sound_after, placed_after, made_after}
use Rattle.cc_fold.proofs.WellMade.FollowingClasses.{functions_once, method_after, class_placed}

in_list : {A : Type 0} (xs : List A) (n : ℕ) (x : A) → slice_get xs n ≡ Some x → In x xs
in_list [] n x e = absurd (cc)
in_list (y ∷ xs) zero x e = let d : y ≡ x = cc in subst (λ z. In z (y ∷ xs)) d here
in_list (y ∷ xs) (suc n) x e = there (in_list xs n x e)

none_twice : {A : Type 0} → IsDistinct {A = A} []
none_twice = λ i j x e d. absurd (cc)

module _ (P : Program) (W : WellMade P) (none : HasNoPaths P) (ts : List Scope) (F : ListT (Follows (tables_of P)) P.scopes ts) where
  abbrev R : Program
  R = Q P W ts F

  abbrev T : Tables
  T = tables_of P

  same_length : length P.scopes ≡ length ts
  same_length = tied_length F

  -- ---- scopes

  numbered_after : {r : Ref} → IsNumbered P r → IsNumbered R r
  numbered_after (numbered_place u n) = numbered_place u n
  numbered_after (numbered_global n h) = numbered_global n h

  part_after : (f : ℕ) {x : Part} → IsPart P f x → IsPart R f x
  part_after f (a_site i h) = a_site i h
  part_after f (a_prop p h) = a_prop p h
  part_after f (a_doc d h) = a_doc d h
  part_after f (a_mention c r n h) = a_mention c r (numbered_after n) (λ q. sound_after P W ts F (h (reached_before P W ts F q)) q)
  part_after f (a_declaration c r p h) = a_declaration c r (placed_after P W ts F p) (λ q. sound_after P W ts F (h (reached_before P W ts F q)) q)
  part_after f (a_function c g d m) = a_function c g d (made_after P W ts F f g d m)
  part_after f (a_method w p g h) = a_method w p g (method_after P W ts F w p g h)

  statements_after : (f : ℕ) (t : Scope) → stmts_well T (opened P f) [] t.body ≡ true → stmts_well (tables_of R) (opened R f) [] t.body ≡ true
  unfolding tables_of is_chunk
  statements_after f t h = stmts_alike T (map head_of ts) (sets_by_chunks P.chunks ts) (opened P f) [] t.body ∙ h

  scope_after : (f : ℕ) (t : Scope) → slice_get ts f ≡ Some t → IsScope R f t
  unfolding is_chunk
  scope_after f t e =
      let b = before T F f t e in
      let s = W.scopes f b.scope b.stands in
      record {
        statements = statements_after f t (b.follows.well (opened P f) s.statements);
        parts = λ x i. part_after f (part_of P W f x (part_before P ts F f x i));
        doc = subst (λ z. z < length P.docs) (sym b.follows.doc) s.doc;
        chunk_own = λ h. b.follows.own ∙ s.chunk_own h;
        chunk_parent = λ h. b.follows.parent ∙ s.chunk_parent h;
      }

  encloses_before : {f g : ℕ} → Encloses R f g → Encloses P f g
  encloses_before (directly f g t e p) = let b = before T F f t e in directly f g b.scope b.stands (sym b.follows.parent ∙ p)
  encloses_before (further f g h a b) = further f g h (encloses_before a) (encloses_before b)

  -- ---- tables

  class_after : (a : ℕ) (c : Class) → slice_get P.classes a ≡ Some c → IsClass R a c
  class_after a c e =
      let k = W.classes a c e in
      record {
        function = λ f h. subst (λ z. f < z) same_length (k.function f h);
        placed = class_placed P W ts F a c e;
        in_range = k.in_range;
        acyclic = k.acyclic;
        methods = λ p f i. let m = k.methods p f i in (m.0, subst (λ z. f < z) same_length m.1);
        fields = k.fields;
      }

  global_after : (n : ℕ) (g : GlobalInfo) → slice_get P.globals n ≡ Some g → IsGlobal R g
  global_after n g e = let k = W.each_global n g e in record { chunk = k.chunk; doc = k.doc; flat = k.flat }

  no_paths : (n : ℕ) (ws : List FlatPath) → ws ≡ [] → ArePaths R n ws
  no_paths n ws e = subst (λ z. ArePaths R n z) (sym e) (record { distinct = none_twice; each = λ w i. elim i [ ] })

  ordered_after : IsOrdered R
  unfolding outer_names
  ordered_after = let k = W.globals in record { externs = k.externs; names = k.names; distinct = k.distinct; inner = k.inner }

  counted_after : IsCounted R
  counted_after =
      let k = W.counted in
      record { globals = k.globals; docs = k.docs; scopes = subst (λ z. z < 2 ^ 32) same_length k.scopes; props = k.props; classes = k.classes; places = k.places }

  prop_after : (n : ℕ) (p : PropInfo) → slice_get P.props n ≡ Some p → IsProp R p
  prop_after n p e = let k = W.props n p e in record { no_index = k.no_index; kept = k.kept }

  doc_after : (n : ℕ) (d : SiteDoc) → slice_get P.docs n ≡ Some d → IsDoc R d
  doc_after n d e = let k = W.docs n d e in record { classes = k.classes; vars = k.vars }

  meant_after : (f c n : ℕ) → Reached R f → In (mentions c (Ref.Global n)) (parts_of R f) → IsMeant R n
  meant_after f c n r i = record { meant = (W.meant f c n (reached_before P W ts F r) (part_before P ts F f _ i)).meant }

  pub well_after : WellMade R
  unfolding tables_of
  well_after = record {
    chunks = subst (λ z. length P.chunks ≤ z) same_length W.chunks;
    dependencies = W.dependencies;
    scopes = scope_after;
    functions_once = functions_once P W ts F;
    parents = λ f h. W.parents f (encloses_before h);
    props = prop_after;
    prop_names = W.prop_names;
    kept = W.kept;
    classes = class_after;
    one_class = W.one_class;
    docs = doc_after;
    globals = ordered_after;
    each_global = global_after;
    paths = λ n g e. no_paths n g.flat (none.none g (in_list P.globals n g e));
    meant = meant_after;
    counted = counted_after;
  }

-- The table of classes is in range: functions, parents, methods and fields.
use Rattle.std.proofs.Common.{◌≡◌, refl, sym, ap, ◌∙◌, subst, arith, ◌⊎◌, inl, inr, ℕ, suc, ◌+◌, ◌<◌, ◌≤◌, Bool, true, false, not, ◌&&◌, ◌||◌, nat_eq, nat_lt, List, [], ◌∷◌, ◌++◌, length, map, Option, Some, None, length-append}
use Rattle.std.specs.Prelude.{slice_get}
use Rattle.std.specs.Option.{option_to_list, option_and_then}
use Rattle.std.specs.List.{list_any, filter_map}
use Rattle.std.proofs.lemmas.Option.{slice_get_within}
use Rattle.cc_ast.specs.declared.tables.FlatPath.{FlatPath}
use Rattle.cc_ast.specs.declared.tables.ChunkInfo.{ChunkInfo}
use Rattle.cc_ast.specs.declared.tables.Class.{Class}
use Rattle.cc_ast.specs.declared.tables.SiteDoc.{SiteDoc}
use Rattle.cc_ast.specs.Syntax.{Expr, Target, Stmt, Stmts, Scope, Program}
use Rattle.cc_ast.specs.Syntax as p
use Rattle.cc_jsdoc.specs.declared.types.Name as doc
use Rattle.cc_types.specs.Types.{parents, parents_of, subtype}
use Rattle.cc_types.proofs.Ancestry.{subtype-complete}
use Rattle.cc_meaning.specs.State.{Path, Tables}
use Rattle.cc_meaning.specs.Monad.{pick}
use Rattle.cc_meaning.specs.Shapes.{tables_of, body_of, body_in}
use Rattle.cc_meaning.specs.Alike.{In, here, there}
use Rattle.cc_meaning.specs.Parts.{Part, has_site, uses_prop, makes, sets_method, method_in, expr_parts, stmt_parts, stmts_parts}
use Rattle.cc_meaning.specs.WellMade.{parts_of, IsClass, IsPart, a_site, a_prop, a_doc, a_mention, a_declaration, a_function, a_method}
use Rattle.cc_scope.specs.Lists.{Name, index_of, or_else}
use Rattle.cc_scope.specs.Resolve.{Source, program_of}
use Rattle.cc_scope.specs.Refusals.{refusals_of}
use Rattle.cc_scope.specs.Promises.{Readable, Grammatical}
use Rattle.cc_scope.specs.Annotations.{Comment, doc_number}
use Rattle.cc_scope.specs.Functions as fn
use Rattle.cc_scope.specs.Externs.{Externs}
use Rattle.cc_scope.specs.Written.{fresh}
use Rattle.cc_scope.specs.Types.{Meaning, a_class, outside_class, dotted_name, class_meant}
use Rattle.cc_scope.specs.Named.{words_of}
use Rattle.cc_scope.specs.Classes.{Annotated, ClassPlace, class_places, class_names, class_by_number, as_type, extern_type, said_of_path, path_meant, meaning_or_nothing, meaning_of, meanings, FieldAt, field_at, field_of_this, is_this, is_prototype_of, is_function, field_of_prototype, fields_of_list, fields_of_chunks, fields_named, field_places, with_doc, fields_among, fields_of, class_named, class_of, outside_class_of, classes_of}
use Rattle.cc_scope.specs.Resolution.{is_in_cycle}
use Rattle.cc_scope.proofs.Declared.{in_left, in_right, in_either, length_map}
use Rattle.cc_scope.proofs.Globals.{index_in}
use Rattle.cc_scope.proofs.Numbers.{head_or, map_out, fresh_in}
use Rattle.cc_scope.proofs.Counts.{scopes_counted}
use Rattle.cc_scope.proofs.Pieces.{Plain, plain_site, plain_prop, plain_doc, plain_mention, plain_declaration, plain_function, plain_method}
use Rattle.cc_scope.proofs.Standing.{each_stands, plain}
use Rattle.cc_scope.proofs.Sound.{property}
use Rattle.cc_scope.proofs.Made.{made_in, parts_at}
use Rattle.cc_scope.proofs.Owners.{all_parts, all_tidy, part_in, part_out, parts_first, parts_later}
use Rattle.cc_scope.proofs.FunctionsCounted.{all_counted}
use Rattle.cc_scope.proofs.TypeRanges.{doc_below}
use Rattle.cc_scope.proofs.ClassTable.{Placed, Sort, of_outside, of_place, sort}
use Rattle.cc_scope.proofs.ClassesMade as made

-- ---- lists

option_from : {V : Type 0} (f : V → Option ℕ) (o : Option V) (b : ℕ) → In b (option_to_list (option_and_then f o)) → (v : V) × (f v ≡ Some b)
option_from f None b i = elim i [ ]
option_from f (Some v) b i = by (f v) refl i where
  by : (o : Option ℕ) → f v ≡ o → In b (option_to_list o) → (u : _) × (f u ≡ Some b)
  by None e j = elim j [ ]
  by (Some c) e j = elim (head_or b c [] j) [ inl d ↦ (v, e ∙ ap Some (sym d)) | inr k ↦ elim k [ ] ]

filtered_from : {V : Type 0} (f : V → Option ℕ) (vs : List V) (b : ℕ) → In b (filter_map f vs) → (v : V) × (f v ≡ Some b)
filtered_from f [] b i = elim i [ ]
filtered_from f (v ∷ vs) b i = by (f v) refl (filtered_from f vs b) where
  by : (o : Option ℕ) → f v ≡ o → (In b (filter_map f vs) → (u : _) × (f u ≡ Some b)) → (u : _) × (f u ≡ Some b)
  by None e again = again (subst (λ bs. In b bs) (let z : filter_map f (v ∷ vs) ≡ filter_map f vs = rw e refl in z) i)
  by (Some c) e again = elim (head_or b c (filter_map f vs) (subst (λ bs. In b bs) (let z : filter_map f (v ∷ vs) ≡ c ∷ filter_map f vs = rw e refl in z) i)) [ inl d ↦ (v, e ∙ ap Some (sym d)) | inr k ↦ again k ]

any_false : {V : Type 0} (test : V → Bool) (vs : List V) (v : V) → list_any test vs ≡ false → In v vs → test v ≡ false
any_false test [] v e i = elim i [ ]
any_false test (u ∷ vs) v e i = by (test u) refl e (head_or v u vs i) (any_false test vs v) where
  by : (b : Bool) → test u ≡ b → b || list_any test vs ≡ false → (v ≡ u) ⊎ In v vs → (list_any test vs ≡ false → In v vs → test v ≡ false) → test v ≡ false
  by true h d o again = absurd (cc)
  by false h d (inl z) again = ap test z ∙ h
  by false h d (inr j) again = again d j

-- ---- a field is a property of its statement

of_access : (T : Tables) (i j r : ℕ) (o : Expr) (x : FieldAt) (b : Bool) → In x (pick b (field_at r i) []) → x.prop ≡ r
of_access T i j r o x true m = elim (head_or {A = FieldAt} x (record { prop = r; site = i }) [] m) [ inl e ↦ ap (λ y. y.prop) e | inr k ↦ elim k [ ] ]
of_access T i j r o x false m = elim m [ ]

stated_read : (T : Tables) (i j r : ℕ) (o : Expr) (q : ℕ) → q ≡ r → In (uses_prop q) (stmt_parts T 0 (p.simple i (p.member j o r)))
unfolding stmt_parts expr_parts
stated_read T i j r o q e = subst (λ n. In (uses_prop n) (has_site i ∷ has_site j ∷ uses_prop r ∷ expr_parts T 0 o)) (sym e) (there (there here))

stated_write : (T : Tables) (i j k r : ℕ) (o v : Expr) (q : ℕ) → q ≡ r → In (uses_prop q) (stmt_parts T 0 (p.simple i (p.assign j None (p.to_member k o r) v)))
unfolding stmt_parts expr_parts
stated_write T i j k r o v q e =
    subst (λ n. In (uses_prop n) (has_site i ∷ has_site j ∷ (method_in T (p.to_member k o r) v ++ (has_site k ∷ uses_prop r ∷ expr_parts T 0 o) ++ expr_parts T 0 v))) (sym e)
    (there (there (in_left (method_in T (p.to_member k o r) v ++ (has_site k ∷ uses_prop r ∷ expr_parts T 0 o)) (expr_parts T 0 v) (in_right (method_in T (p.to_member k o r) v) (has_site k ∷ uses_prop r ∷ expr_parts T 0 o) (there here)))))

this_fields : (T : Tables) (s : Stmt) (x : FieldAt) → In x (field_of_this s) → In (uses_prop x.prop) (stmt_parts T 0 s)
unfolding field_of_this
this_fields T (p.simple k0 (p.lit i x)) x0 m = elim m [ ]
this_fields T (p.simple k0 (p.var i r)) x0 m = elim m [ ]
this_fields T (p.simple k0 (p.this i)) x0 m = elim m [ ]
this_fields T (p.simple k0 (p.fun i f)) x0 m = elim m [ ]
this_fields T (p.simple k0 (p.list i es)) x0 m = elim m [ ]
this_fields T (p.simple k0 (p.object i fs)) x0 m = elim m [ ]
this_fields T (p.simple k0 (p.unary i op e)) x0 m = elim m [ ]
this_fields T (p.simple k0 (p.binary i op a b)) x0 m = elim m [ ]
this_fields T (p.simple k0 (p.and i a b)) x0 m = elim m [ ]
this_fields T (p.simple k0 (p.or i a b)) x0 m = elim m [ ]
this_fields T (p.simple k0 (p.cond i t a b)) x0 m = elim m [ ]
this_fields T (p.simple i (p.assign j None (p.to_member k o q) e)) x m = stated_write T i j k q o e x.prop (of_access T i j q o x (is_this o) m)
this_fields T (p.simple i (p.assign j None (p.to_var k r) e)) x m = elim m [ ]
this_fields T (p.simple i (p.assign j None (p.to_index k o r) e)) x m = elim m [ ]
this_fields T (p.simple i (p.assign j (Some op) t e)) x m = elim m [ ]
this_fields T (p.simple k0 (p.step i up before t)) x0 m = elim m [ ]
this_fields T (p.simple i (p.member j o q)) x m = stated_read T i j q o x.prop (of_access T i j q o x (is_this o) m)
this_fields T (p.simple k0 (p.index i e k)) x0 m = elim m [ ]
this_fields T (p.simple k0 (p.call i f es)) x0 m = elim m [ ]
this_fields T (p.simple k0 (p.new i f es)) x0 m = elim m [ ]
this_fields T (p.simple k0 (p.comma i a b)) x0 m = elim m [ ]
this_fields T (p.simple k0 (p.cast i d e)) x0 m = elim m [ ]
this_fields T (p.simple k0 (p.tick i n e)) x0 m = elim m [ ]
this_fields T (p.vars i ds) x m = elim m [ ]
this_fields T (p.fun_decl i r f) x m = elim m [ ]
this_fields T (p.if i t a b) x m = elim m [ ]
this_fields T (p.while i t b) x m = elim m [ ]
this_fields T (p.do_while i b t) x m = elim m [ ]
this_fields T (p.for i h t e b) x m = elim m [ ]
this_fields T (p.for_in i t e b) x m = elim m [ ]
this_fields T (p.return i e) x m = elim m [ ]
this_fields T (p.throw i e) x m = elim m [ ]
this_fields T (p.break i l) x m = elim m [ ]
this_fields T (p.continue i l) x m = elim m [ ]
this_fields T (p.label i l b) x m = elim m [ ]
this_fields T (p.switch i e cs) x m = elim m [ ]
this_fields T (p.try i b k f) x m = elim m [ ]
this_fields T (p.pay_stmt i n) x m = elim m [ ]

prototype_fields : (T : Tables) (w : Path) (s : Stmt) (x : FieldAt) → In x (field_of_prototype T w s) → In (uses_prop x.prop) (stmt_parts T 0 s)
unfolding field_of_prototype
prototype_fields T w (p.simple k0 (p.lit i x)) x0 m = elim m [ ]
prototype_fields T w (p.simple k0 (p.var i r)) x0 m = elim m [ ]
prototype_fields T w (p.simple k0 (p.this i)) x0 m = elim m [ ]
prototype_fields T w (p.simple k0 (p.fun i f)) x0 m = elim m [ ]
prototype_fields T w (p.simple k0 (p.list i es)) x0 m = elim m [ ]
prototype_fields T w (p.simple k0 (p.object i fs)) x0 m = elim m [ ]
prototype_fields T w (p.simple k0 (p.unary i op e)) x0 m = elim m [ ]
prototype_fields T w (p.simple k0 (p.binary i op a b)) x0 m = elim m [ ]
prototype_fields T w (p.simple k0 (p.and i a b)) x0 m = elim m [ ]
prototype_fields T w (p.simple k0 (p.or i a b)) x0 m = elim m [ ]
prototype_fields T w (p.simple k0 (p.cond i t a b)) x0 m = elim m [ ]
prototype_fields T w (p.simple i (p.assign j None (p.to_member k o q) e)) x m = stated_write T i j k q o e x.prop (of_access T i j q o x (not (is_function e) && is_prototype_of T w o) m)
prototype_fields T w (p.simple i (p.assign j None (p.to_var k r) e)) x m = elim m [ ]
prototype_fields T w (p.simple i (p.assign j None (p.to_index k o r) e)) x m = elim m [ ]
prototype_fields T w (p.simple i (p.assign j (Some op) t e)) x m = elim m [ ]
prototype_fields T w (p.simple k0 (p.step i up before t)) x0 m = elim m [ ]
prototype_fields T w (p.simple i (p.member j o q)) x m = stated_read T i j q o x.prop (of_access T i j q o x (is_prototype_of T w o) m)
prototype_fields T w (p.simple k0 (p.index i e k)) x0 m = elim m [ ]
prototype_fields T w (p.simple k0 (p.call i f es)) x0 m = elim m [ ]
prototype_fields T w (p.simple k0 (p.new i f es)) x0 m = elim m [ ]
prototype_fields T w (p.simple k0 (p.comma i a b)) x0 m = elim m [ ]
prototype_fields T w (p.simple k0 (p.cast i d e)) x0 m = elim m [ ]
prototype_fields T w (p.simple k0 (p.tick i n e)) x0 m = elim m [ ]
prototype_fields T w (p.vars i ds) x m = elim m [ ]
prototype_fields T w (p.fun_decl i r f) x m = elim m [ ]
prototype_fields T w (p.if i t a b) x m = elim m [ ]
prototype_fields T w (p.while i t b) x m = elim m [ ]
prototype_fields T w (p.do_while i b t) x m = elim m [ ]
prototype_fields T w (p.for i h t e b) x m = elim m [ ]
prototype_fields T w (p.for_in i t e b) x m = elim m [ ]
prototype_fields T w (p.return i e) x m = elim m [ ]
prototype_fields T w (p.throw i e) x m = elim m [ ]
prototype_fields T w (p.break i l) x m = elim m [ ]
prototype_fields T w (p.continue i l) x m = elim m [ ]
prototype_fields T w (p.label i l b) x m = elim m [ ]
prototype_fields T w (p.switch i e cs) x m = elim m [ ]
prototype_fields T w (p.try i b k f) x m = elim m [ ]
prototype_fields T w (p.pay_stmt i n) x m = elim m [ ]

list_fields : (T : Tables) (at : Stmt → List FieldAt) → ((s : Stmt) (x : FieldAt) → In x (at s) → In (uses_prop x.prop) (stmt_parts T 0 s)) → (ss : Stmts) (x : FieldAt) → In x (fields_of_list at ss) → In (uses_prop x.prop) (stmts_parts T 0 ss)
unfolding fields_of_list stmt_parts
list_fields T at h p.no_stmts x m = elim m [ ]
list_fields T at h (p.more_stmts s ss) x m = elim (in_either (at s) (fields_of_list at ss) m) [
  | inl j ↦ in_left (stmt_parts T 0 s) (stmts_parts T 0 ss) (h s x j)
  | inr j ↦ in_right (stmt_parts T 0 s) (stmts_parts T 0 ss) (list_fields T at h ss x j)
]

chunk_fields : (T : Tables) (at : Stmt → List FieldAt) → ((s : Stmt) (x : FieldAt) → In x (at s) → In (uses_prop x.prop) (stmt_parts T 0 s)) → (cs : List ChunkInfo) (ss : List Scope) (x : FieldAt) → In x (fields_of_chunks at cs ss) → In (uses_prop x.prop) (all_parts T ss)
unfolding fields_of_chunks
chunk_fields T at h [] ss x m = elim m [ ]
chunk_fields T at h (c ∷ cs) [] x m = elim m [ ]
chunk_fields T at h (c ∷ cs) (s ∷ ss) x m = elim (in_either (fields_of_list at s.body) (fields_of_chunks at cs ss) m) [
  | inl j ↦ parts_first T s ss (uses_prop x.prop) (list_fields T at h s.body x j)
  | inr j ↦ parts_later T s ss (uses_prop x.prop) (chunk_fields T at h cs ss x j)
]

body_part : (P : Program) (f : ℕ) (x : Part) → In x (stmts_parts (tables_of P) 0 (body_of P f)) → In x (all_parts (tables_of P) P.scopes)
unfolding body_of body_in stmts_parts
body_part P f x i = by (slice_get P.scopes f) refl where
  by : (o : Option Scope) → slice_get P.scopes f ≡ o → In x (all_parts (tables_of P) P.scopes)
  by None e = absurd (let j = subst (λ o. In x (stmts_parts (tables_of P) 0 (body_in o))) e i in elim j [ ])
  by (Some s) e = part_in (tables_of P) f s P.scopes x e (subst (λ o. In x (stmts_parts (tables_of P) 0 (body_in o))) e i)

named_field : (P : Program) (c : ClassPlace) (x : FieldAt) → In x (fields_named P c) → In (uses_prop x.prop) (all_parts (tables_of P) P.scopes)
unfolding fields_named
named_field P c x m = elim (in_either (fields_of_list field_of_this (body_of P c.number)) (fields_of_chunks (field_of_prototype (tables_of P) c.path) P.chunks P.scopes) m) [
  | inl j ↦ body_part P c.number (uses_prop x.prop) (list_fields (tables_of P) field_of_this (this_fields (tables_of P)) (body_of P c.number) x j)
  | inr j ↦ chunk_fields (tables_of P) (field_of_prototype (tables_of P) c.path) (prototype_fields (tables_of P) c.path) P.chunks P.scopes x j
]

among_fields : (P : Program) (cs : List Comment) (xs : List FieldAt) (ps : List ℕ) (q d : ℕ) → In {A = ℕ × ℕ} (q, d) (fields_among P cs xs ps) → In q ps × (d < suc (length cs))
unfolding fields_among with_doc
among_fields P cs xs [] q d m = elim m [ ]
among_fields P cs xs (r ∷ ps) q d m = by (nat_eq (doc_number (field_places P r xs) cs) 0) m (among_fields P cs xs ps q d) where
  by : (b : Bool) → In {A = ℕ × ℕ} (q, d) (pick b [] ((r, doc_number (field_places P r xs) cs) ∷ []) ++ fields_among P cs xs ps) → (In {A = ℕ × ℕ} (q, d) (fields_among P cs xs ps) → In q ps × (d < suc (length cs))) → In q (r ∷ ps) × (d < suc (length cs))
  by true j again = let z = again j in (there z.0, z.1)
  by false j again = elim (head_or {A = ℕ × ℕ} (q, d) (r, doc_number (field_places P r xs) cs) (fields_among P cs xs ps) j) [
    | inl e ↦ (subst (λ n. In n (r ∷ ps)) (sym (ap (λ z. z.0) e)) here, subst (λ n. n < suc (length cs)) (sym (ap (λ z. z.1) e)) (doc_below (field_places P r xs) cs))
    | inr k ↦ (let z = again k in (there z.0, z.1))
  ]

the_fields : (P : Program) (cs : List Comment) (c : ClassPlace) (q d : ℕ) → In {A = ℕ × ℕ} (q, d) (fields_of P cs c) → In (uses_prop q) (all_parts (tables_of P) P.scopes) × (d < suc (length cs))
unfolding fields_of
the_fields P cs c q d m =
    let a = among_fields P cs (fields_named P c) (fresh [] (map (λ x. x.prop) (fields_named P c))) q d m in
    let b = map_out (λ x. x.prop) q (fields_named P c) (fresh_in [] (map (λ x. x.prop) (fields_named P c)) q a.0) in
    (subst (λ n. In (uses_prop n) (all_parts (tables_of P) P.scopes)) b.2 (named_field P c b.0 b.1), a.1)

-- ---- what names mean

names_counted : (A : Annotated) → length (class_names A) ≡ length (classes_of A)
unfolding class_names classes_of
names_counted A =
    let a = length-append (map (λ c. c.name) A.outside.classes) (map (λ c. dotted_name (words_of A.program c.path)) (class_places A)) in
    let b = length-append (map (λ c. outside_class_of c.name c.interface) A.outside.classes) (map (class_of A) (class_places A)) in
    let c = length_map (λ c. c.name) A.outside.classes in let d = length_map (λ c. outside_class_of c.name c.interface) A.outside.classes in
    let e = length_map (λ c. dotted_name (words_of A.program c.path)) (class_places A) in let f = length_map (class_of A) (class_places A) in omega arith

some_or : ℕ → Option ℕ → ℕ
some_or n None = n
some_or n (Some m) = m

some_is : {m n : ℕ} → Some m ≡ Some n → m ≡ n
unfolding some_or
some_is {m} e = ap (some_or m) e

pub meaning_below : (A : Annotated) (ws : List Name) (c : ℕ) → class_meant (meaning_of A ws) ≡ Some c → c < length (classes_of A)
unfolding meaning_of class_meant meaning_or_nothing or_else class_by_number as_type
meaning_below A ws c e = by (index_of (dotted_name ws) (class_names A)) refl e where
  type_of : Option Meaning
  type_of = or_else (as_type (extern_type (dotted_name ws) A.outside.types)) (as_type (Rattle.cc_scope.specs.Externs.named_type_in (said_of_path A (path_meant A ws))))

  within : (n : ℕ) → index_of (dotted_name ws) (class_names A) ≡ Some n → n < length (classes_of A)
  within n h = let l = slice_get_within (class_names A) n (dotted_name ws) (index_in (dotted_name ws) (class_names A) n h) in let k = names_counted A in omega arith

  none : (o q : Option Rattle.cc_jsdoc.specs.declared.types.TypeExpr.TypeExpr) → class_meant (meaning_or_nothing (or_else (as_type o) (as_type q))) ≡ Some c → ⊥
  none None None h = cc
  none None (Some t) h = cc
  none (Some t) q h = cc

  number : (n : ℕ) (b : Bool) → class_meant (pick b (outside_class n) (a_class n)) ≡ Some c → n ≡ c
  number n true h = some_is h
  number n false h = some_is h

  by : (o : Option ℕ) → index_of (dotted_name ws) (class_names A) ≡ o → class_meant (meaning_or_nothing (or_else (class_by_number (length A.outside.classes) o) type_of)) ≡ Some c → c < length (classes_of A)
  by None h d = absurd (none (extern_type (dotted_name ws) A.outside.types) (Rattle.cc_scope.specs.Externs.named_type_in (said_of_path A (path_meant A ws))) d)
  by (Some n) h d = subst (λ m. m < length (classes_of A)) (number n (nat_lt n (length A.outside.classes)) d) (within n h)

pub class_below : (A : Annotated) (ws : List Name) (c : ℕ) → (meanings A).of ws ≡ a_class c → c < length (classes_of A)
unfolding meanings class_meant
class_below A ws c e = meaning_below A ws c (ap class_meant e)

named_below : (A : Annotated) (n : doc.Name) (c : ℕ) → class_named (meanings A) n ≡ Some c → c < length (classes_of A)
unfolding class_named meanings
named_below A n c e = meaning_below A n.parts c e

parent_below : (A : Annotated) (x : ClassPlace) (b : ℕ) → In b (parents_of (Some (class_of A x))) → b < length (classes_of A)
unfolding parents_of class_of
parent_below A x b i = elim (in_either (option_to_list (option_and_then (class_named (meanings A)) x.says.extends)) (filter_map (class_named (meanings A)) x.says.implements) i) [
  | inl j ↦ (let d = option_from (class_named (meanings A)) x.says.extends b j in named_below A d.0 b d.1)
  | inr j ↦ (let d = filtered_from (class_named (meanings A)) x.says.implements b j in named_below A d.0 b d.1)
]

no_parent : (n : List ℕ) (o : Bool) (b : ℕ) → In b (parents_of (Some (outside_class_of n o))) → ⊥
unfolding parents_of outside_class_of
no_parent n o b i = elim i [ ]

outside_function : (n : List ℕ) (o : Bool) → (outside_class_of n o).function ≡ None
unfolding outside_class_of
outside_function n o = refl

parents_eq : (cs : List Class) (a : ℕ) (c : Class) → slice_get cs a ≡ Some c → parents cs a ≡ parents_of (Some c)
unfolding parents
parents_eq cs a c e = ap parents_of e

part_prop : Part → ℕ
part_prop (uses_prop q) = q
part_prop _ = 0

none_outside : (n : List ℕ) (o : Bool) (q f : ℕ) → (In {A = ℕ × ℕ} (q, f) (outside_class_of n o).methods → ⊥) × (In {A = ℕ × ℕ} (q, f) (outside_class_of n o).fields → ⊥)
unfolding outside_class_of
none_outside n o q f = (λ i. elim i [ ], λ i. elim i [ ])

is_true_not : {b : Bool} → b ≡ true → b ≡ false → ⊥
is_true_not e d = let z : true ≡ false = sym e ∙ d in cc

prop_of_part : {P : Program} {f : ℕ} (x : Part) (q : ℕ) → IsPart P f x → x ≡ uses_prop q → q < length P.props
unfolding part_prop
prop_of_part {P} _ q (a_prop r l) e = subst (λ n. n < length P.props) (ap part_prop e) l
prop_of_part _ q (a_site i l) e = absurd (cc)
prop_of_part _ q (a_doc i l) e = absurd (cc)
prop_of_part _ q (a_mention c r n h) e = absurd (cc)
prop_of_part _ q (a_declaration c r n h) e = absurd (cc)
prop_of_part _ q (a_function c g d m) e = absurd (cc)
prop_of_part _ q (a_method w r g m) e = absurd (cc)

module _ (S : Source) (R : Readable S) (fitting : Grammatical S) (unrefused : refusals_of S ≡ []) where
  -- each property among the parts is one of the table, and so is each function
  pub prop_below : (q : ℕ) → In (uses_prop q) (all_parts (tables_of (program_of S)) (program_of S).scopes) → q < length (program_of S).props
  prop_below q i =
      let d = part_out (tables_of (program_of S)) (program_of S).scopes (uses_prop q) i in
      let a = each_stands S R fitting unrefused d.0 d.1 d.2 in
      by (uses_prop q) (plain S R fitting unrefused a.stands (uses_prop q) (subst (λ xs. In (uses_prop q) xs) (sym (parts_at S R fitting unrefused d.0 d.1 d.2)) d.3)) refl where
        by : {f : ℕ} {top : Bool} {E : _} {D : List Name} (x : Part) → Plain S f top E D x → x ≡ uses_prop q → q < length (program_of S).props
        by {f} _ (plain_prop y j) e = prop_of_part _ q (property S R fitting unrefused f y j) e
        by _ (plain_site i l) e = absurd (cc)
        by _ (plain_doc r) e = absurd (cc)
        by _ (plain_mention xs y r h) e = absurd (cc)
        by _ (plain_declaration xs y j fr) e = absurd (cc)
        by _ (plain_function c g b u h r o l) e = absurd (cc)
        by _ (plain_method v r g) e = absurd (cc)

  pub function_below : (c g : ℕ) (d : Bool) → In (makes c g d) (all_parts (tables_of (program_of S)) (program_of S).scopes) → g < length (program_of S).scopes
  function_below c g b i =
      let d = part_out (tables_of (program_of S)) (program_of S).scopes (makes c g b) i in
      let m = made_in S R fitting unrefused d.0 c g b d.1 d.2 (subst (λ xs. In (makes c g b) xs) (sym (parts_at S R fitting unrefused d.0 d.1 d.2)) d.3) in
      slice_get_within (program_of S).scopes g m.scope m.stands

module _ (S0 : Source) (cs : List Comment) (X : Externs) (docs : List SiteDoc) (global_doc : Name → ℕ) (flat : Name → List FlatPath) where
  abbrev A : Annotated
  A = made.A S0 cs X docs global_doc flat

  abbrev S : Source
  S = made.S S0 cs X docs global_doc flat

  module _ (R : Readable S) (fitting : Grammatical S) (unrefused : refusals_of S ≡ []) (enough : suc (length cs) ≤ length docs)
      (acyclic : (k : ℕ) (x : ClassPlace) → slice_get (class_places A) k ≡ Some x → is_in_cycle (classes_of A) (length X.classes + k) ≡ false) where
    number_below : (k : ℕ) (x : ClassPlace) → slice_get (class_places A) k ≡ Some x → x.number < length (program_of S).scopes
    unfolding program_of
    number_below k x e =
        let p = made.placed S0 cs X docs global_doc flat R fitting unrefused k x e in
        let l = slice_get_within (fn.all_functions S0.trees) p.at x.function p.is in
        let c = all_counted S0.trees in let s = scopes_counted S in let o = R.one_each in let n = p.number in omega arith

    number_is : (x : ClassPlace) (f : ℕ) {c : Class} → class_of A x ≡ c → c.function ≡ Some f → x.number ≡ f
    number_is x f h z = some_is (sym (Rattle.cc_scope.proofs.ClassTable.function_is A x) ∙ ap (λ y. y.function) h ∙ z)

    no_cycle : (a k : ℕ) → a ≡ length X.classes + k → is_in_cycle (classes_of A) (length X.classes + k) ≡ false → list_any (λ r. subtype (classes_of A) r a) (parents (classes_of A) a) ≡ false
    unfolding is_in_cycle
    no_cycle a k m e = subst (λ n. list_any (λ r. subtype (classes_of A) r n) (parents (classes_of A) n) ≡ false) (sym m) e

    parts_here : all_parts (tables_of (program_of S)) (program_of S).scopes ≡ all_parts (tables_of (program_of S0)) (program_of S0).scopes
    parts_here = made.parts_here S0 cs X docs global_doc flat R fitting unrefused

    method_below : (x : ClassPlace) (q f : ℕ) → In {A = ℕ × ℕ} (q, f) (class_of A x).methods → (q < length (program_of S).props) × (f < length (program_of S).scopes)
    method_below x q f i =
        let m = subst (λ xs. In (sets_method x.path q f) xs) (sym parts_here) (made.methods_are S0 cs X docs global_doc flat R fitting unrefused x q f i) in
        let t = (all_tidy (tables_of (program_of S)) (program_of S).scopes).method x.path q f m in
        (prop_below S R fitting unrefused q t.0, function_below S R fitting unrefused t.1.0 f false t.1.1)

    field_below : (x : ClassPlace) (q d : ℕ) → In {A = ℕ × ℕ} (q, d) (class_of A x).fields → (q < length (program_of S).props) × (d < length docs)
    unfolding class_of
    field_below x q d i =
        let t = the_fields (program_of S0) cs x q d i in
        (prop_below S R fitting unrefused q (subst (λ xs. In (uses_prop q) xs) (sym parts_here) t.0), (let l = t.1 in omega (arith, enough)))

    pub is_class : (a : ℕ) (c : Class) → slice_get (classes_of A) a ≡ Some c → IsClass (program_of S) a c
    unfolding program_of
    is_class a c e = by (sort A a c e) where
      parents_are : parents (classes_of A) a ≡ parents_of (Some c)
      parents_are = parents_eq (classes_of A) a c e

      by : Sort A a c → IsClass (program_of S) a c
      by (of_outside n o l h) = record {
        function = λ f z. absurd (let y : None ≡ Some f = sym (outside_function n o) ∙ ap (λ d. d.function) h ∙ z in cc);
        placed = λ f z i. absurd (let y : None ≡ Some f = sym (outside_function n o) ∙ ap (λ d. d.function) h ∙ z in cc);
        in_range = λ b i. absurd (no_parent n o b (subst (λ d. In b (parents_of (Some d))) (sym h) (subst (λ bs. In b bs) parents_are i)));
        acyclic = λ b i. absurd (no_parent n o b (subst (λ d. In b (parents_of (Some d))) (sym h) (subst (λ bs. In b bs) parents_are i)));
        methods = λ q f i. absurd ((none_outside n o q f).0 (subst (λ d. In {A = ℕ × ℕ} (q, f) d.methods) (sym h) i));
        fields = λ q d i. absurd ((none_outside n o q d).1 (subst (λ y. In {A = ℕ × ℕ} (q, d) y.fields) (sym h) i));
      }
      by (of_place k x s m h) = record {
        function = λ f z. subst (λ n. n < length (program_of S).scopes) (number_is x f h z) (number_below k x s);
        placed = λ f z i. subst (λ n. Rattle.cc_meaning.specs.WellMade.HasPlace (program_of S) n) (number_is x f h z) (made.has_place S0 cs X docs global_doc flat R fitting unrefused k x s);
        in_range = λ b i. parent_below A x b (subst (λ d. In b (parents_of (Some d))) (sym h) (subst (λ bs. In b bs) parents_are i));
        acyclic = λ b i t. is_true_not (subtype-complete (classes_of A) b a t) (any_false (λ r. subtype (classes_of A) r a) (parents (classes_of A) a) b (no_cycle a k m (acyclic k x s)) i);
        methods = λ q f i. method_below x q f (subst (λ d. In {A = ℕ × ℕ} (q, f) d.methods) (sym h) i);
        fields = λ q d i. field_below x q d (subst (λ y. In {A = ℕ × ℕ} (q, d) y.fields) (sym h) i);
      }

-- Small sources with annotations, and what is read off them, by computation.
use Rattle.std.proofs.Common.{◌≡◌, refl, ℕ, suc, ◌+◌, true, false, List, [], ◌∷◌, map, Some, None}
use Rattle.std.specs.Prelude.{codes, pos}
use Rattle.cc_ast.specs.declared.place.Place.{Place}
use Rattle.cc_ast.specs.declared.tables.ChunkInfo.{ChunkInfo}
use Rattle.cc_ast.specs.declared.tables.TypeSet.{TypeSet}
use Rattle.cc_ast.specs.Syntax.{Program, Prim, whole, truth}
use Rattle.cc_ast.specs.Syntax as p
use Rattle.cc_ast.specs.declared.tree.Ref.{Ref}
use Rattle.cc_jsdoc.specs.declared.doc.Doc.{Doc}
use Rattle.cc_jsdoc.specs.declared.doc.DocKind.TheVariants as kind
use Rattle.cc_jsdoc.specs.declared.types.Name as d
use Rattle.cc_jsdoc.specs.declared.types.Simple.TheVariants as simple
use Rattle.cc_jsdoc.specs.declared.types.Alternative.{Alternative}
use Rattle.cc_jsdoc.specs.declared.types.Alternative.TheVariants as one
use Rattle.cc_jsdoc.specs.declared.types.TypeExpr.{TypeExpr}
use Rattle.cc_grammar.specs.RawTree.{Named, RawExpr, RawStmts, RawStmt, stmts, fields}
use Rattle.cc_grammar.specs.RawTree as raw
use Rattle.cc_scope.specs.Lists.{Name}
use Rattle.cc_scope.specs.Annotations.{Comment}
use Rattle.cc_scope.specs.Externs.{Externs, externs_of}
use Rattle.cc_scope.specs.Refusals.{undeclared}
use Rattle.cc_scope.specs.Resolution.{Input, Outcome, over_limit, refused, in_cycle, resolved, resolution, source_of}
use Rattle.cc_scope.specs.Resolve.{program_of}
use Rattle.cc_scope.specs.Defines.{Defined, defining, not_defined, define}
use Rattle.cc_scope.specs.Lists as slists
use Rattle.cc_scope.specs.Marks as smarks
use Rattle.cc_scope.specs.Resolve as sresolve
use Rattle.cc_scope.specs.Refusals as srefusals
use Rattle.cc_scope.specs.Limits as slimits
use Rattle.cc_scope.specs.Annotations as sannotations
use Rattle.cc_scope.specs.Casts as scasts
use Rattle.cc_scope.specs.Functions as sfunctions
use Rattle.cc_scope.specs.Properties as sproperties
use Rattle.cc_scope.specs.Externs as sexterns
use Rattle.cc_scope.specs.Types as stypes
use Rattle.cc_scope.specs.Paths as spaths
use Rattle.cc_scope.specs.Named as snamed
use Rattle.cc_scope.specs.Classes as sclasses
use Rattle.cc_scope.specs.Docs as sdocs
use Rattle.cc_scope.specs.Exports as sexports
use Rattle.cc_scope.specs.Resolution as sresolution
use Rattle.cc_scope.specs.Defines as sdefines
use Rattle.cc_meaning.specs.Names as gnames
use Rattle.cc_meaning.specs.Operators as goperators
use Rattle.cc_meaning.specs.Store as gstore
use Rattle.cc_meaning.specs.Shapes as gshapes
use Rattle.cc_meaning.specs.FlatPaths as gflatpaths
use Rattle.cc_meaning.specs.Parts as gparts
use Rattle.cc_meaning.specs.WellMade as gwellmade
use Rattle.cc_meaning.specs.Typed as gtyped
use Rattle.cc_meaning.specs.Calls as gcalls
use Rattle.cc_types.specs.Types as types
use Rattle.cc_scope.specs.Written as written

unfoldable shut : ℕ
unfolding slists.later slists.index_of slists.new_names slists.distinct slists.or_zero slists.or_else smarks.functions smarks.sites smarks.names smarks.places smarks.key_marks smarks.expr_marks smarks.vars_declare smarks.init_declares smarks.heading_declares smarks.stmt_declares sresolve.global_from sresolve.global_named sresolve.outwards sresolve.in_frame sresolve.lookup sresolve.ref_by sresolve.ref_of sresolve.var_by sresolve.prop_of sresolve.key_of sresolve.named sresolve.locals sresolve.with_own sresolve.inner sresolve.expr_of sresolve.scope_of sresolve.expr_scopes sresolve.all_marks sresolve.all_declared sresolve.outer_of sresolve.chunk_scope sresolve.chunk_scopes sresolve.inner_scopes sresolve.begin sresolve.chunk_by sresolve.chunk_info sresolve.globals_of sresolve.kept_of sresolve.prop_info sresolve.program_of srefusals.global_of srefusals.read_by srefusals.write_by srefusals.global_meant srefusals.is_string_use srefusals.is_member_use srefusals.variable_meant srefusals.is_built_callee srefusals.declared_by srefusals.repeated srefusals.within srefusals.expr_refused srefusals.all_refused srefusals.refusals_of srefusals.before srefusals.least_from srefusals.answer_by srefusals.resolve slimits.function_place slimits.most_scopes slimits.too_many sannotations.is_at sannotations.is_on sannotations.last_from sannotations.doc_number sannotations.said sannotations.comment_numbered sannotations.comment_at sannotations.said_at sannotations.type_kind sannotations.value_said sannotations.declarators_at sannotations.var_at sannotations.init_at sannotations.heading_at sannotations.stmt_at sannotations.places_of sannotations.all_at scasts.has_type scasts.expr_parens scasts.all_parens scasts.aside scasts.beside scasts.expr_cast sfunctions.borne sfunctions.function_of sfunctions.last_name sfunctions.expr_functions sfunctions.all_functions sproperties.behind_dot sproperties.stated sproperties.key_name sproperties.expr_properties sproperties.all_properties sexterns.class_kind sexterns.interface_kind sexterns.is_class_doc sexterns.is_interface_doc sexterns.named_type_in sexterns.class_of_name sexterns.classes_among sexterns.type_of_name sexterns.types_among sexterns.extern_globals sexterns.externs_of stypes.dotted_name stypes.with_number stypes.classes_together stypes.bit_of stypes.kinds_together stypes.same_elements stypes.element_of_all stypes.union_of stypes.array_type stypes.simple_type stypes.alternative_type stypes.type_by stypes.simple_names stypes.simples_names stypes.alternative_names stypes.alternatives_names stypes.names_under stypes.same_words stypes.leads stypes.is_circular stypes.meaning_type stypes.named_within stypes.named_type stypes.type_of stypes.type_in stypes.class_meant spaths.owns spaths.frames_within spaths.is_only_of spaths.part_mentions spaths.mentions_within spaths.names_itself spaths.is_construction spaths.all_constructions spaths.no_uses spaths.sets_up spaths.one_further spaths.called_on spaths.all_stay spaths.is_holding spaths.goes_on spaths.is_of_chunk spaths.is_held spaths.is_kept_prop spaths.is_deletion spaths.is_free spaths.may_be_variable spaths.is_unmarked spaths.path_in spaths.on_the_way spaths.paths_from spaths.flat_paths snamed.global_name snamed.words_of snamed.stated_at snamed.stmt_states snamed.all_states snamed.places_stated snamed.keys_of snamed.words_on snamed.words_in snamed.target_words snamed.keys_from snamed.declarator_keys snamed.statement_keys snamed.own_keys snamed.all_keys snamed.places_keyed snamed.path_places snamed.path_further snamed.path_along snamed.path_at snamed.path_named sclasses.function_at sclasses.said_of sclasses.constructor_kind sclasses.is_constructor_doc sclasses.may_hold sclasses.path_set_to sclasses.is_once sclasses.is_class_path sclasses.class_at_path sclasses.class_if sclasses.class_places_from sclasses.class_places sclasses.class_names sclasses.class_by_number sclasses.as_type sclasses.extern_type sclasses.said_of_path sclasses.path_meant sclasses.meaning_or_nothing sclasses.meaning_of sclasses.meanings sclasses.methods_in sclasses.methods_among sclasses.methods_of sclasses.is_this sclasses.field_of_this sclasses.is_path sclasses.is_prototype_of sclasses.is_function sclasses.field_of_prototype sclasses.fields_of_list sclasses.fields_of_chunks sclasses.fields_named sclasses.field_places sclasses.with_doc sclasses.fields_among sclasses.fields_of sclasses.class_named sclasses.outside_class_of sclasses.class_of sclasses.classes_of sdocs.doc_said sdocs.doc_or_nothing sdocs.param_named sdocs.params_said sdocs.param_said sdocs.variable_docs sdocs.function_doc sdocs.is_documented sdocs.function_docs sdocs.docs_of sdocs.function_numbers sdocs.function_number sdocs.says_nocollapse sdocs.is_marked sdocs.flat_of sexports.export_by sexports.export_at sexports.declared_exports sexports.own_exports sexports.init_exports sexports.heading_exports sexports.loop_exports sexports.export_stmt sexports.followed_by sexports.unlabelled sexports.stmt_exporting sexports.trees_exporting sexports.stmt_exports sexports.all_exports sexports.unexported sexports.exports_refused sexports.says_export sexports.exported_props sexports.kept_exports sresolution.chunk_trees sresolution.comments_of sresolution.cast_trees sresolution.trees_of sresolution.bare sresolution.annotated sresolution.number_of_global sresolution.source_of sresolution.is_in_cycle sresolution.cycle_from sresolution.first_cycle sresolution.outcome_of sresolution.all_refusals sresolution.resolution sdefines.is_marked_doc sdefines.defined_from sdefines.is_variable sdefines.value_of_declarator sdefines.values_in sdefines.values_of_stmt sdefines.values_of_list sdefines.values_of_chunks sdefines.only_literal sdefines.literal_of sdefines.same_kind sdefines.is_kind_of sdefines.defined sdefines.literal_to sdefines.declarator_to sdefines.declarators_to sdefines.stmt_to sdefines.stmts_to sdefines.chunks_to sdefines.with_literal sdefines.define_by sdefines.define_from sdefines.define gnames.digits_after gnames.alone gnames.decimal_value gnames.up_to_greatest_index gnames.index_value gnames.is_index gnames.index_less gnames.put_ascending gnames.ascending gnames.enumeration gnames.builtin_globals gnames.array_names gnames.builtin_names gnames.function_names gnames.unwritten_names gnames.common_names gnames.standard_array_names gnames.standard_text_names gnames.standard_names gnames.always_kept goperators.list_eq goperators.is_in goperators.text_less goperators.decimal goperators.truth_text goperators.prim_text goperators.number goperators.with_sign goperators.divide_sizes goperators.rest_of_sizes goperators.to_uint32 goperators.to_int32 goperators.from_bits32 goperators.shift_count goperators.whole_binary goperators.on_wholes goperators.answer_of goperators.answer_not goperators.add_prims goperators.prim_less goperators.whole_eq goperators.same_prim goperators.equal_prims goperators.prim_binary goperators.object_binary goperators.unlike_objects goperators.equal_object goperators.prim_with_object goperators.truthy_prim goperators.truthy goperators.strict_equal goperators.binary_of goperators.type_text goperators.whole_unary goperators.on_whole goperators.prim_unary goperators.object_unary goperators.unary_of goperators.key_text gstore.prop_name gstore.name_of gstore.is_kept gstore.kind_by gstore.kind_for gstore.without_chunk gstore.built_number gstore.outer_global gstore.global_by gstore.chunk_in gstore.global_kind gstore.same_numbers gstore.flat_place gstore.flats_in gstore.paired gstore.flat_of gstore.set_to gstore.is_number gstore.class_from gstore.class_of_function gstore.code_class_from gstore.find_slot gstore.at_index gstore.find_element gstore.first_of gstore.find_own gstore.own_value gstore.array_found gstore.built_here gstore.found_here gstore.found_at gstore.found_on gstore.chain_in gstore.chain_of gstore.look_up gstore.is_found_value gstore.has_name gstore.value_found gstore.slots_in gstore.slots_on gstore.element_names gstore.names_of_elements gstore.shown_names gstore.own_names gstore.fresh_names gstore.names_on gstore.set_slot gstore.drop_slot gstore.set_element gstore.put_in_array gstore.put_by gstore.put_own gstore.changed_at gstore.change gstore.up_in gstore.frame_up gstore.frame_at gstore.flat_option gstore.arguments gstore.fitted gshapes.site_of gshapes.literal_text gshapes.literal_key gshapes.longer gshapes.path_of_ref gshapes.path_of gshapes.path_of_target gshapes.path_of_key gshapes.is_object_global gshapes.names_object gshapes.is_named gshapes.is_create gshapes.prototype_path gshapes.prototype_path_alone gshapes.created_from gshapes.set_by gshapes.prototype_target gshapes.class_at gshapes.extended_function gshapes.extends_one gshapes.declared_in gshapes.declared_by gshapes.sets_by gshapes.sets_by_option gshapes.sets_by_vars gshapes.sets_by_value gshapes.sets_by_fun gshapes.sets_by_stmt gshapes.sets_by_stmts gshapes.body_in gshapes.body_of gshapes.sets_by_chunks gshapes.head_of gshapes.tables_of gshapes.without_paths gshapes.plain_tables gflatpaths.pure_unary gflatpaths.pure_binary gflatpaths.pure gflatpaths.below gflatpaths.use_of gflatpaths.setting_of gflatpaths.operand_use gflatpaths.right_use gflatpaths.in_expr gflatpaths.in_option gflatpaths.sets_at gflatpaths.in_initial gflatpaths.in_declarator gflatpaths.in_declarators gflatpaths.in_init gflatpaths.in_each gflatpaths.in_statement gflatpaths.function_setting gflatpaths.in_stmt gflatpaths.in_scopes gflatpaths.mentions_of gflatpaths.same_path gflatpaths.settings gflatpaths.uses gflatpaths.dotted_keys gparts.method_by gparts.method_on_prototype gparts.method_to gparts.method_in gparts.key_parts gparts.expr_parts gparts.option_parts gparts.vars_parts gparts.init_parts gparts.name_parts gparts.stmt_parts gparts.assigns gparts.is_own_global gparts.may_write gparts.is_no_built gparts.may_read gparts.is_string gparts.has_use gparts.global_at gparts.is_use gparts.built_callee gparts.exact_prim gparts.is_variable gparts.takes_operand gparts.expr_well gwellmade.option_well gwellmade.vars_well gwellmade.some_vars gwellmade.init_well gwellmade.name_well gwellmade.may_break gwellmade.may_continue gwellmade.counted gwellmade.labels_for gwellmade.defaults gwellmade.is_there gwellmade.stmt_well gwellmade.parts_of gwellmade.is_chunk gwellmade.functions_in gwellmade.all_functions gwellmade.type_in gwellmade.types_in_all gwellmade.types_in gwellmade.element_classes gwellmade.classes_in gwellmade.refused_names gwellmade.path_count gwellmade.method_count gwellmade.outer_names gtyped.has_kind gtyped.prim_of gtyped.class_of_any gtyped.object_of gtyped.of_kinds gtyped.of_element gtyped.all_of_element gtyped.elements_in gtyped.array_of gtyped.elements_fit gtyped.of_type gtyped.of_opt_type gtyped.of_all_types gtyped.of_all_elements gtyped.value_in gtyped.result_in gtyped.receiver_in gtyped.params_in gtyped.vars_in gtyped.settled_in gtyped.doc_at gtyped.head_doc gtyped.function_doc gtyped.head_params gtyped.global_doc gtyped.path_doc gtyped.variable_doc gtyped.is_param gtyped.param_type gtyped.variable_type gtyped.is_settled gtyped.with_type gtyped.types_of_fields gtyped.fields_from gtyped.class_in gtyped.fields_of_class gtyped.field_types gtyped.same_element gtyped.entered gtyped.entered_in gcalls.code_in gcalls.code_at gcalls.tell_end gcalls.built_result gcalls.use_found gcalls.text_use_of gcalls.method_on gcalls.math_use_of gcalls.member_use gcalls.receiver_by gcalls.receiver_of gcalls.prim_member gcalls.declares_on gcalls.views types.parents_of types.parents types.reaches types.subtype written.has written.fresh
shut = 0

-- ---- comments

abbrev place : ℕ → Place
place n = record { file = 0; offset = n; line = 1; column = n }

abbrev plain : Doc
plain = record { kind = kind.Plain; extends = None; implements = []; params = []; result = None; value = None; receiver = None; constant = false; define = false; export = false; nocollapse = false; licence = false }

-- a comment before what stands at a place
abbrev before : ℕ → Doc → Comment
before n e = record { place = place (1000 + n); next = place n; says = e }

abbrev name : List Name → d.Name
name ws = record { parts = ws }

abbrev only : Alternative → TypeExpr
only a = record { alternatives = a ∷ [] }

abbrev typed : TypeExpr → Doc
typed e = record plain { value = Some e }

abbrev a_name : Name → TypeExpr
a_name n = only (one.Simple (simple.Named (name (n ∷ []))))

abbrev number : TypeExpr
number = only (one.Simple simple.Number)

abbrev constructor : Doc
constructor = record plain { kind = kind.Constructor }

-- ---- trees

abbrev at : ℕ → Name → Named
at n x = record { place = place n; name = x }

abbrev get : ℕ → Name → RawExpr
get n x = raw.var (place n) x

abbrev num : ℕ → RawExpr
num n = raw.lit (place n) (whole (pos 1))

abbrev dot : ℕ → RawExpr → Name → RawExpr
dot n e x = raw.member (place n) e (place (suc n)) x

abbrev run : ℕ → RawExpr → RawStmt
run n e = raw.simple (place n) e

abbrev setting : ℕ → RawExpr → Name → RawExpr → RawStmt
setting n e x v = raw.simple (place n) (raw.assign (place n) None (raw.to_member (place n) e (place (2 + n)) x) v)

abbrev fn : ℕ → List RawStmt → RawExpr
fn n b = raw.fun (place n) None [] (stmts b)

abbrev function : ℕ → Name → List RawStmt → RawStmt
function n x b = raw.fun_decl (place n) (at (suc n) x) [] (stmts b)

abbrev variable : ℕ → Name → RawExpr → RawStmt
variable n x e = raw.vars (place n) (raw.more_declarators (at (suc n) x) (raw.one_expr e) raw.no_declarators)

abbrev literal : ℕ → RawExpr
literal n = raw.object (place n) raw.no_fields

-- ---- inputs

abbrev outside : Externs
outside = record { globals = codes "alert" ∷ codes "window" ∷ []; kept = codes "log" ∷ []; classes = []; types = [] }

abbrev chunk : ChunkInfo
chunk = record { name = []; deps = [] }

abbrev alone : List Comment → List RawStmt → Input
alone cs ss = record { chunks = chunk ∷ []; trees = stmts ss ∷ []; comments = cs; outside = outside; exports = false }

abbrev program : Input → Program
program I = program_of (source_of I)

-- ---- classes

-- `/** @constructor */function A(){/** @type {number} */this.n=1;}A.prototype.m=function(){};`
-- `/** @constructor @extends {A} @implements {No} */function B(){}`
two_classes : Input
two_classes = alone (before 10 constructor ∷ before 20 (typed number) ∷ before 40 (record constructor { extends = Some (name (codes "A" ∷ [])); implements = name (codes "No" ∷ []) ∷ [] }) ∷ [])
    (function 10 (codes "A") (setting 20 (raw.this (place 20)) (codes "n") (num 25) ∷ []) ∷ setting 30 (dot 31 (get 30 (codes "A")) (codes "prototype")) (codes "m") (fn 35 []) ∷ function 40 (codes "B") [] ∷ [])

two_classes_row : (program two_classes).classes ≡ (record { name = codes "A"; function = Some 1; external = false; interface = false; extends = None; implements = []; methods = (2, 2) ∷ []; fields = (0, 2) ∷ [] })
    ∷ (record { name = codes "B"; function = Some 3; external = false; interface = false; extends = Some 0; implements = []; methods = []; fields = [] }) ∷ []
unfolding shut two_classes
two_classes_row = refl

-- a function has its doc behind those of the comments
two_classes_docs : map (λ s. s.doc) (program two_classes).scopes ≡ 0 ∷ 4 ∷ 0 ∷ 5 ∷ []
unfolding shut two_classes
two_classes_docs = refl

-- set twice, or no global's: no class
no_class_row : (program (alone (before 10 constructor ∷ before 20 constructor ∷ []) (variable 10 (codes "F") (fn 12 []) ∷ run 15 (raw.assign (place 15) None (raw.to_var (place 15) (codes "F")) (num 16)) ∷ run 30 (raw.call (place 30) (fn 31 (variable 20 (codes "G") (fn 22 []) ∷ [])) raw.no_exprs) ∷ []))).classes ≡ []
unfolding shut
no_class_row = refl

-- `/** @constructor @extends {B} */function A(){}/** @constructor @extends {A} */function B(){}`: at the name of A
cycle_row : resolution (alone (before 10 (record constructor { extends = Some (name (codes "B" ∷ [])) }) ∷ before 20 (record constructor { extends = Some (name (codes "A" ∷ [])) }) ∷ []) (function 10 (codes "A") [] ∷ function 20 (codes "B") [] ∷ [])) ≡ in_cycle (place 11)
unfolding shut
cycle_row = refl

-- of two comments the last counts
last_row : (program (alone (before 10 constructor ∷ before 10 plain ∷ []) (function 10 (codes "A") [] ∷ []))).classes ≡ []
unfolding shut
last_row = refl

-- ---- types

-- `/** @typedef {number} */var U;/** @typedef {(T|number)} */var T;/** @type {U} */var x;/** @type {T} */var y;/** @type {Array<U>} */var z;`
declared : ℕ → Name → RawStmt
declared n x = raw.vars (place n) (raw.more_declarators (at (suc n) x) raw.no_expr raw.no_declarators)

typedefs : Input
typedefs = alone (before 10 (record (typed number) { kind = kind.Typedef }) ∷ before 20 (record (typed (record { alternatives = one.Simple (simple.Named (name (codes "T" ∷ []))) ∷ one.Simple simple.Number ∷ [] })) { kind = kind.Typedef })
    ∷ before 30 (typed (a_name (codes "U"))) ∷ before 40 (typed (a_name (codes "T"))) ∷ before 50 (typed (only (one.ArrayOf (simple.Named (name (codes "U" ∷ [])) ∷ [])))) ∷ [])
    (declared 10 (codes "U") ∷ declared 20 (codes "T") ∷ declared 30 (codes "x") ∷ declared 40 (codes "y") ∷ declared 50 (codes "z") ∷ [])

abbrev of_kind : ℕ → TypeSet
of_kind k = record { kinds = k; classes = []; unknown = false; element = None }

typedefs_row : map (λ e. e.value) (program typedefs).docs ≡ None ∷ None ∷ None ∷ Some (of_kind 1) ∷ Some (record (of_kind 0) { unknown = true }) ∷ Some (record (of_kind 16) { element = Some (record { kinds = 1; classes = [] }) }) ∷ []
unfolding shut typedefs declared
typedefs_row = refl

-- the comment on a variable is its doc
typedefs_globals : map (λ g. g.doc) (program typedefs).globals ≡ 0 ∷ 0 ∷ 0 ∷ 0 ∷ 0 ∷ 1 ∷ 2 ∷ 3 ∷ 4 ∷ 5 ∷ []
unfolding shut typedefs declared
typedefs_globals = refl

-- ---- flat paths

-- `var ns={};ns.a={};ns.a.b=function(){};ns.a.b();`
namespaces : List Comment → Input
namespaces cs = alone cs (variable 10 (codes "ns") (literal 12) ∷ setting 20 (get 20 (codes "ns")) (codes "a") (literal 25) ∷ setting 30 (dot 31 (get 30 (codes "ns")) (codes "a")) (codes "b") (fn 35 [])
    ∷ run 40 (raw.call (place 44) (dot 43 (dot 41 (get 40 (codes "ns")) (codes "a")) (codes "b")) raw.no_exprs) ∷ [])

namespaces_row : map (λ g. map (λ w. w.props) g.flat) (program (namespaces [])).globals ≡ [] ∷ [] ∷ [] ∷ [] ∷ [] ∷ ((0 ∷ []) ∷ (0 ∷ 1 ∷ []) ∷ []) ∷ []
unfolding shut namespaces
namespaces_row = refl

-- `/** @nocollapse */` before `ns.a.b=`: it stays, and with it what is called on `ns.a`
nocollapse_row : map (λ g. map (λ w. w.props) g.flat) (program (namespaces (before 30 (record plain { nocollapse = true }) ∷ []))).globals ≡ [] ∷ [] ∷ [] ∷ [] ∷ [] ∷ ((0 ∷ []) ∷ []) ∷ []
unfolding shut namespaces
nocollapse_row = refl

-- `var ns={};ns.a=1;alert(ns);`: used in another way
used_row : map (λ g. g.flat) (program (alone [] (variable 10 (codes "ns") (literal 12) ∷ setting 20 (get 20 (codes "ns")) (codes "a") (num 25) ∷ run 30 (raw.call (place 31) (get 30 (codes "alert")) (raw.more_exprs (get 32 (codes "ns")) raw.no_exprs)) ∷ []))).globals ≡ [] ∷ [] ∷ [] ∷ [] ∷ [] ∷ [] ∷ []
unfolding shut
used_row = refl

-- `/** @constructor */var F=function F(){..};F.x=1;`, whose own name is mentioned or not
own_name : List RawStmt → Input
own_name b = alone (before 10 constructor ∷ []) (variable 10 (codes "F") (raw.fun (place 12) (Some (at 13 (codes "F"))) [] (stmts b)) ∷ setting 20 (get 20 (codes "F")) (codes "x") (num 25) ∷ [])

unnamed_row : map (λ g. map (λ w. w.props) g.flat) (program (own_name (run 14 (fn 15 (run 16 (get 16 (codes "alert")) ∷ [])) ∷ []))).globals ≡ [] ∷ [] ∷ [] ∷ [] ∷ [] ∷ ((0 ∷ []) ∷ []) ∷ []
unfolding shut own_name
unnamed_row = refl

named_row : map (λ g. map (λ w. w.props) g.flat) (program (own_name (run 14 (fn 15 (run 16 (get 16 (codes "F")) ∷ [])) ∷ []))).globals ≡ [] ∷ [] ∷ [] ∷ [] ∷ [] ∷ [] ∷ []
unfolding shut own_name
named_row = refl

-- ---- casts

-- `var x=/** c */(1);` without a type, and with one
cast_row : map (λ s. s.body) (program (alone (before 12 plain ∷ []) (variable 10 (codes "x") (raw.cast (place 12) (num 13)) ∷ []))).scopes
    ≡ map (λ s. s.body) (program (alone [] (variable 10 (codes "x") (num 13) ∷ []))).scopes
unfolding shut
cast_row = refl

typed_cast_row : map (λ s. s.body) (program (alone (before 12 (typed number) ∷ []) (variable 10 (codes "x") (raw.cast (place 12) (num 13)) ∷ []))).scopes
    ≡ p.more_stmts (p.vars 0 ((record { site = 1; variable = Ref.Global 5; value = Some (p.cast 2 1 (p.lit 3 (whole (pos 1)))) }) ∷ [])) p.no_stmts ∷ []
unfolding shut
typed_cast_row = refl

-- ---- exports

exporting : Externs → Input
exporting x = record (alone (before 10 (record plain { export = true }) ∷ []) (function 10 (codes "go") [] ∷ [])) { exports = true; outside = x }

-- `window["go"]=go;` comes behind the declaration
export_row : map (λ s. s.body) (program (exporting outside)).scopes ≡ p.more_stmts (p.fun_decl 0 (Ref.Global 5) 1)
    (p.more_stmts (p.simple 1 (p.assign 2 None (p.to_index 3 (p.var 4 (Ref.Global 1)) (p.lit 5 (p.text (codes "go")))) (p.var 6 (Ref.Global 5)))) p.no_stmts) ∷ p.no_stmts ∷ []
unfolding shut exporting
export_row = refl

-- without a `window` it is refused at the comment
no_window_row : resolution (exporting (record outside { globals = [] })) ≡ refused (record { cause = undeclared (codes "window"); place = place 1010 })
unfolding shut exporting
no_window_row = refl

-- a property that is exported is kept, as are those of the externs
kept_row : map (λ x. x.kept) (program (record (alone (before 20 (record plain { export = true }) ∷ []) (variable 10 (codes "o") (literal 12) ∷ setting 20 (get 20 (codes "o")) (codes "a") (num 25) ∷ setting 30 (get 30 (codes "o")) (codes "b") (num 35) ∷ setting 40 (get 40 (codes "o")) (codes "log") (num 45) ∷ [])) { exports = true })).props ≡ true ∷ false ∷ true ∷ []
unfolding shut
kept_row = refl

-- ---- externs

-- `/** @constructor */function Ext(){}Ext.prototype.size;var o={'k':1};`
externs_row : externs_of (stmts (function 10 (codes "Ext") [] ∷ run 20 (dot 22 (dot 21 (get 20 (codes "Ext")) (codes "prototype")) (codes "size")) ∷ variable 30 (codes "o") (raw.object (place 32) (raw.more_fields (place 33) (raw.quoted (codes "k")) (num 34) raw.no_fields)) ∷ []) ∷ []) (before 10 constructor ∷ [])
    ≡ record { globals = codes "Ext" ∷ codes "o" ∷ []; kept = codes "prototype" ∷ codes "size" ∷ codes "k" ∷ []; classes = (record { name = codes "Ext"; interface = false }) ∷ []; types = [] }
unfolding shut
externs_row = refl

-- ---- definitions

-- `/** @define {number} */var D=1;`
defining_one : Program
defining_one = program (alone (before 10 (record (typed number) { define = true }) ∷ []) (variable 10 (codes "D") (num 12) ∷ variable 20 (codes "E") (num 22) ∷ []))

body_of_defined : Defined → List p.Stmts
body_of_defined (defining P) = map (λ s. s.body) P.scopes
body_of_defined (not_defined k) = []

define_row : body_of_defined (define defining_one ((record { name = codes "D"; value = whole (pos 2) }) ∷ (record { name = codes "D"; value = whole (pos 3) }) ∷ []))
    ≡ p.more_stmts (p.vars 0 ((record { site = 1; variable = Ref.Global 5; value = Some (p.lit 2 (whole (pos 3))) }) ∷ []))
    (p.more_stmts (p.vars 3 ((record { site = 4; variable = Ref.Global 6; value = Some (p.lit 5 (whole (pos 1))) }) ∷ [])) p.no_stmts) ∷ []
unfolding shut defining_one body_of_defined
define_row = refl

-- no variable that is marked, and a value of another kind
undefined_row : define defining_one ((record { name = codes "D"; value = whole (pos 2) }) ∷ (record { name = codes "E"; value = whole (pos 3) }) ∷ []) ≡ not_defined 1
unfolding shut defining_one
undefined_row = refl

other_kind_row : define defining_one ((record { name = codes "D"; value = truth true }) ∷ []) ≡ not_defined 0
unfolding shut defining_one
other_kind_row = refl

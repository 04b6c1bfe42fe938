-- Everything that a run reads, opened for the rows that compute one.
use Rattle.std.specs.Prelude.{ℕ}
use Rattle.cc_meaning.specs.Operators as OperatorsM
use Rattle.cc_meaning.specs.Names as NamesM
use Rattle.cc_meaning.specs.Builtins as BuiltinsM
use Rattle.cc_types.specs.Types as Ty
use Rattle.cc_meaning.specs.Monad as MonadM
use Rattle.cc_meaning.specs.Store as StoreM
use Rattle.cc_meaning.specs.Typed as TypedM
use Rattle.cc_meaning.specs.Built as BuiltM
use Rattle.cc_meaning.specs.SlotRules as SlotRulesM
use Rattle.cc_meaning.specs.Rules as RulesM
use Rattle.cc_meaning.specs.Judge as JudgeM
use Rattle.cc_meaning.specs.Acts as ActsM
use Rattle.cc_meaning.specs.Shapes as ShapesM
use Rattle.cc_meaning.specs.Calls as CallsM
use Rattle.cc_meaning.specs.Meaning as MeaningM
use Rattle.cc_meaning.specs.Script as ScriptM

unfoldable pub opened : ℕ
unfolding mathlib.Core.Bool.xor OperatorsM.list_eq OperatorsM.is_in OperatorsM.text_less OperatorsM.decimal OperatorsM.truth_text OperatorsM.prim_text OperatorsM.number OperatorsM.with_sign OperatorsM.divide_sizes OperatorsM.rest_of_sizes OperatorsM.to_uint32 OperatorsM.to_int32 OperatorsM.from_bits32 OperatorsM.shift_count OperatorsM.whole_binary OperatorsM.on_wholes OperatorsM.answer_of OperatorsM.answer_not OperatorsM.add_prims OperatorsM.prim_less OperatorsM.whole_eq OperatorsM.same_prim OperatorsM.equal_prims OperatorsM.prim_binary OperatorsM.object_binary OperatorsM.unlike_objects OperatorsM.equal_object OperatorsM.prim_with_object OperatorsM.truthy_prim OperatorsM.truthy OperatorsM.strict_equal OperatorsM.binary_of OperatorsM.type_text OperatorsM.whole_unary OperatorsM.on_whole OperatorsM.prim_unary OperatorsM.object_unary OperatorsM.unary_of OperatorsM.key_text NamesM.digits_after NamesM.alone NamesM.decimal_value NamesM.up_to_greatest_index NamesM.index_value NamesM.is_index NamesM.index_less NamesM.put_ascending NamesM.ascending NamesM.enumeration NamesM.builtin_globals NamesM.array_names NamesM.builtin_names NamesM.function_names NamesM.unwritten_names NamesM.common_names NamesM.standard_array_names NamesM.standard_text_names NamesM.standard_names NamesM.always_kept BuiltinsM.method_of BuiltinsM.or_undefined BuiltinsM.place_from_end BuiltinsM.place_within BuiltinsM.position_number BuiltinsM.text_methods BuiltinsM.text_method BuiltinsM.char_at BuiltinsM.code_outcome BuiltinsM.char_code_at BuiltinsM.begins_with BuiltinsM.here BuiltinsM.first_place BuiltinsM.last_place BuiltinsM.part_between BuiltinsM.text_use BuiltinsM.string_of BuiltinsM.string_use BuiltinsM.to_uint16 BuiltinsM.codes_after BuiltinsM.from_char_codes BuiltinsM.math_methods BuiltinsM.math_method BuiltinsM.outermost BuiltinsM.math_use BuiltinsM.array_methods BuiltinsM.array_method BuiltinsM.changed BuiltinsM.copied BuiltinsM.array_length BuiltinsM.element_text BuiltinsM.joined_after BuiltinsM.joined BuiltinsM.text_outcome BuiltinsM.element_place BuiltinsM.arrays_after BuiltinsM.copied_or_breaks BuiltinsM.concat_use BuiltinsM.value_args BuiltinsM.array_use Ty.parents_of Ty.parents Ty.reaches Ty.subtype Ty.extended_by Ty.extends_within Ty.extends Ty.instance_of MonadM.seen MonadM.marks MonadM.ret MonadM.raise MonadM.stop MonadM.say MonadM.said MonadM.after MonadM.◌>>=◌ MonadM.attempted MonadM.attempt MonadM.paid MonadM.pay_from MonadM.pay MonadM.with_budget MonadM.with_tables StoreM.prop_name StoreM.name_of StoreM.is_kept StoreM.kind_by StoreM.kind_for StoreM.without_chunk StoreM.built_number StoreM.outer_global StoreM.global_by StoreM.chunk_in StoreM.global_kind StoreM.same_numbers StoreM.flat_place StoreM.flats_in StoreM.paired StoreM.flat_of StoreM.set_to StoreM.is_number StoreM.class_from StoreM.class_of_function StoreM.code_class_from StoreM.find_slot StoreM.at_index StoreM.find_element StoreM.first_of StoreM.find_own StoreM.own_value StoreM.array_found StoreM.built_here StoreM.found_here StoreM.found_at StoreM.found_on StoreM.chain_in StoreM.chain_of StoreM.look_up StoreM.is_found_value StoreM.has_name StoreM.value_found StoreM.slots_in StoreM.slots_on StoreM.element_names StoreM.names_of_elements StoreM.shown_names StoreM.own_names StoreM.fresh_names StoreM.names_on StoreM.set_slot StoreM.drop_slot StoreM.set_element StoreM.put_in_array StoreM.put_by StoreM.put_own StoreM.changed_at StoreM.change StoreM.up_in StoreM.frame_up StoreM.frame_at StoreM.flat_option StoreM.arguments StoreM.fitted TypedM.has_kind TypedM.prim_of TypedM.class_of_any TypedM.object_of TypedM.of_kinds TypedM.of_element TypedM.all_of_element TypedM.elements_in TypedM.array_of TypedM.elements_fit TypedM.of_type TypedM.of_opt_type TypedM.of_all_types TypedM.of_all_elements TypedM.value_in TypedM.result_in TypedM.receiver_in TypedM.params_in TypedM.vars_in TypedM.settled_in TypedM.doc_at TypedM.head_doc TypedM.function_doc TypedM.head_params TypedM.global_doc TypedM.path_doc TypedM.variable_doc TypedM.is_param TypedM.param_type TypedM.variable_type TypedM.is_settled TypedM.with_type TypedM.types_of_fields TypedM.fields_from TypedM.class_in TypedM.fields_of_class TypedM.field_types TypedM.same_element TypedM.entered TypedM.entered_in BuiltM.from_outcome BuiltM.put_in BuiltM.from_result BuiltM.as_arg BuiltM.arg_of BuiltM.args_of BuiltM.array_result BuiltM.on_array BuiltM.on_code BuiltM.on_function BuiltM.outcome_of BuiltM.wanted_in BuiltM.change_rule BuiltM.rule_in SlotRulesM.least SlotRulesM.rule_if SlotRulesM.rule_unless SlotRulesM.dotted_rule SlotRulesM.is_dotted SlotRulesM.slot_rule SlotRulesM.slots_rule SlotRulesM.outside_rule SlotRulesM.walk_slots SlotRulesM.is_function SlotRulesM.meets_function SlotRulesM.has_function SlotRulesM.has_array SlotRulesM.unfound_rule SlotRulesM.unwritten_rule SlotRulesM.function_rule SlotRulesM.whole_key_rule SlotRulesM.is_dot SlotRulesM.fields_reached SlotRulesM.field_rule SlotRulesM.object_read SlotRulesM.text_read SlotRulesM.prim_read SlotRulesM.read_rule SlotRulesM.array_write_rule SlotRulesM.element_rule SlotRulesM.prototype_of_function SlotRulesM.is_code_of SlotRulesM.is_object SlotRulesM.is_prototype_of SlotRulesM.extended SlotRulesM.function_in SlotRulesM.is_prototype_of_class SlotRulesM.fits_extended SlotRulesM.fits_class SlotRulesM.no_slots SlotRulesM.without_slots SlotRulesM.is_off_chains SlotRulesM.declares_well SlotRulesM.code_rule SlotRulesM.prototype_rule SlotRulesM.object_write SlotRulesM.write_rule SlotRulesM.has_slot SlotRulesM.object_remove SlotRulesM.remove_rule SlotRulesM.probe_rule SlotRulesM.walk_rule RulesM.callable RulesM.callee_rule RulesM.extends_class RulesM.is_instance RulesM.runs_on RulesM.receiver_fits RulesM.all_fit RulesM.enter_rule RulesM.is_prim RulesM.builds_well RulesM.leave_rule RulesM.take_rule RulesM.keep_rule RulesM.this_rule RulesM.cast_rule RulesM.names_well RulesM.host_rule RulesM.outcome_rule RulesM.is_key RulesM.has_rule RulesM.prototype_object RulesM.prototype_at RulesM.binary_rule RulesM.unary_rule RulesM.operate_rule JudgeM.least_broken ActsM.is_fatal ActsM.refused ActsM.allowed ActsM.judged ActsM.reading ActsM.changing ActsM.enter_element ActsM.receive ActsM.receive_all ActsM.receive_each ActsM.add_obj ActsM.make_object ActsM.make_array ActsM.make_from ActsM.chain_from ActsM.note_constructed ActsM.make_instance ActsM.function_object ActsM.add_function ActsM.push_frame ActsM.has_own_name ActsM.add_function_by ActsM.make_function ActsM.place_in ActsM.read_by_kind ActsM.read_place ActsM.is_loaded ActsM.global_value ActsM.read_global ActsM.read_var ActsM.frames_with ActsM.set_place ActsM.set_global ActsM.keep ActsM.write_by_kind ActsM.write_place ActsM.write_var ActsM.read_this ActsM.read_slot ActsM.write_slot ActsM.drop_own ActsM.dropped_from ActsM.remove ActsM.is_there ActsM.probe ActsM.names_of ActsM.walk ActsM.outcome_value ActsM.is_on ActsM.instance_value ActsM.key_name ActsM.operate ActsM.object_type ActsM.operate_one ActsM.is_whole ActsM.key_given ActsM.runtime_key ActsM.cast_to ActsM.next_place ActsM.handle_of ActsM.shown ActsM.show ActsM.show_all ActsM.show_receiver ActsM.next_reply_of ActsM.next_reply ActsM.was_given ActsM.all_given ActsM.object_at ActsM.viewed ShapesM.site_of ShapesM.literal_text ShapesM.literal_key ShapesM.longer ShapesM.path_of_ref ShapesM.path_of ShapesM.path_of_target ShapesM.path_of_key ShapesM.is_object_global ShapesM.names_object ShapesM.is_named ShapesM.is_create ShapesM.prototype_path ShapesM.prototype_path_alone ShapesM.created_from ShapesM.set_by ShapesM.prototype_target ShapesM.class_at ShapesM.extended_function ShapesM.extends_one ShapesM.declared_in ShapesM.declared_by ShapesM.sets_by ShapesM.sets_by_fields ShapesM.sets_by_option ShapesM.sets_by_vars ShapesM.sets_by_value ShapesM.sets_by_fun ShapesM.sets_by_stmt ShapesM.sets_by_stmts ShapesM.body_in ShapesM.body_of ShapesM.sets_by_chunks ShapesM.head_of ShapesM.tables_of ShapesM.without_paths ShapesM.plain_tables CallsM.code_in CallsM.code_at CallsM.tell_end CallsM.built_result CallsM.text_use_of CallsM.method_on CallsM.math_use_of CallsM.member_use CallsM.receiver_by CallsM.receiver_of CallsM.prim_member CallsM.declares_on CallsM.views CallsM.begin CallsM.begin_at CallsM.call_object CallsM.inner_call CallsM.inner CallsM.inners CallsM.answered CallsM.ask CallsM.call_out CallsM.construct_out CallsM.get_on CallsM.put_on CallsM.take_path CallsM.keep_path CallsM.cast_all CallsM.get CallsM.put_to CallsM.value_of CallsM.value CallsM.delete_at CallsM.apply_unary CallsM.cast_reach CallsM.array_answer CallsM.perform CallsM.read_method CallsM.reach_method CallsM.callee_by CallsM.member_callee CallsM.global_callee CallsM.callee_of CallsM.call_value CallsM.apply CallsM.construct_by CallsM.construct MeaningM.next MeaningM.next_turn MeaningM.labelled MeaningM.unbroken MeaningM.resume MeaningM.result MeaningM.turns MeaningM.do_turns MeaningM.each_name MeaningM.reference MeaningM.head_in MeaningM.reach_global MeaningM.reach_var MeaningM.reach_member MeaningM.key_by MeaningM.get_place MeaningM.put_place MeaningM.updated MeaningM.stepped MeaningM.put_key MeaningM.ev MeaningM.ev_target MeaningM.evs MeaningM.ev_fields MeaningM.value_at MeaningM.test_at MeaningM.only_run MeaningM.set_variable MeaningM.declare MeaningM.begin_for MeaningM.begin_names MeaningM.put_name MeaningM.hoist_one MeaningM.hoist MeaningM.thrown_at MeaningM.ex MeaningM.exs MeaningM.ex_catch MeaningM.ex_finally MeaningM.ex_cases MeaningM.run_cases MeaningM.ex_chunk MeaningM.call_frame MeaningM.bodies ScriptM.graph_of ScriptM.all_in ScriptM.may_load ScriptM.follows_from ScriptM.follows ScriptM.deps_of ScriptM.dependency_failed ScriptM.note_load ScriptM.note_end ScriptM.run_chunk ScriptM.load_chunk ScriptM.call_at ScriptM.call_handle ScriptM.get_handle ScriptM.set_handle ScriptM.turn ScriptM.turns_from ScriptM.start ScriptM.finish ScriptM.raw ScriptM.run
opened = 0

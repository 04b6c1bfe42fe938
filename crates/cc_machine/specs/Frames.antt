-- What the frames of src/ stand for in the machine.
use Rattle.std.specs.Prelude.{ℕ, List, Option, map, reverse}
use Rattle.std.specs.Borrow.{Bor}
use Rattle.cc_ast.specs.declared.units.Units.{Units}
use Rattle.std.specs.Option.{option_map}
use Rattle.cc_ast.specs.Syntax as S
use Rattle.cc_ast.specs.Bridge.{field, fields, target, term, terms}
use Rattle.cc_ast.specs.StmtBridge.{declarator, for_target, term_cases, term_stmts}
use Rattle.cc_ast.specs.declared.tree.Expr.{Expr}
use Rattle.cc_heap.specs.Kinds.{code_of}
use Rattle.cc_value.specs.Bridge.{value_of}
use Rattle.cc_conform.specs.Bridge.{access_of, use_of}
use Rattle.cc_acts.specs.Globals.{built_of}
use Rattle.cc_acts.specs.Scripts.{answer_of, inner_of, turn_of}
use Rattle.cc_acts.specs.Shown.{spot_of}
use Rattle.cc_meaning.specs.Monad.{Way, went, thrown}
use Rattle.cc_meaning.specs.Shapes.{literal_text, longer, path_of, path_of_target, site_of}
use Rattle.cc_meaning.specs.State as State
use Rattle.cc_meaning.specs.Calls as Calls
use Rattle.cc_meaning.specs.Calls.{plain, access, built_global, built_member, called_value, called_use}
use Rattle.cc_meaning.specs.Meaning as Meaning
use Rattle.cc_meaning.specs.Meaning.{normal, returns, breaks, continues, variable_place, slot_place}
use Rattle.cc_machine.specs.Machine as Pure
use Rattle.cc_machine.specs.declared.reach.Reference as reference
use Rattle.cc_machine.specs.declared.reach.Reach as reach
use Rattle.cc_machine.specs.declared.reach.Reach.TheVariants as R
use Rattle.cc_machine.specs.declared.reach.Callee as callee
use Rattle.cc_machine.specs.declared.reach.Callee.TheVariants as C
use Rattle.cc_machine.specs.declared.reach.Place as place
use Rattle.cc_machine.specs.declared.reach.Place.TheVariants as P
use Rattle.cc_machine.specs.declared.reach.Completion as completion
use Rattle.cc_machine.specs.declared.reach.Completion.TheVariants as O
use Rattle.cc_machine.specs.declared.reach.Ended as ended
use Rattle.cc_machine.specs.declared.reach.Ended.TheVariants as W
use Rattle.cc_machine.specs.declared.frame.Env as env
use Rattle.cc_machine.specs.declared.frame.Path as path
use Rattle.cc_machine.specs.declared.frame.ReachFrame as reach_frame
use Rattle.cc_machine.specs.declared.frame.ReachFrame.TheVariants as RF
use Rattle.cc_machine.specs.declared.frame.NameLoop as name_loop
use Rattle.cc_machine.specs.declared.frame.ValueFrame as value_frame
use Rattle.cc_machine.specs.declared.frame.ValueFrame.TheVariants as VF
use Rattle.cc_machine.specs.declared.frame.DoneFrame as done_frame
use Rattle.cc_machine.specs.declared.frame.DoneFrame.TheVariants as DF
use Rattle.cc_machine.specs.declared.frame.EndFrame as end_frame
use Rattle.cc_machine.specs.declared.frame.EndFrame.TheVariants as EF
use Rattle.cc_machine.specs.declared.frame.Frame as frame
use Rattle.cc_machine.specs.declared.frame.Frame.TheVariants as F
use Rattle.cc_machine.specs.declared.frame.ListFrame as list_frame
use Rattle.cc_machine.specs.declared.frame.ListFrame.TheVariants as LF
use Rattle.cc_machine.specs.declared.frame.PlaceFrame as place_frame
use Rattle.cc_machine.specs.declared.frame.PlaceFrame.TheVariants as PF

-- ---- what is reached, called and written to, and how statements end

abbrev pub reference_of : reference.Reference → Calls.Reference
reference_of r = record { site = r.site; on = value_of r.on; key = access_of r.key; path = r.path; casts = r.casts.items }

abbrev pub reach_of : reach.Reach → Calls.Reach
reach_of (R.Plain v) = plain (value_of v)
reach_of (R.Access r) = access (reference_of r)
reach_of (R.BuiltInGlobal i b) = built_global i (built_of b)
reach_of (R.BuiltInMember i b n) = built_member i (built_of b) n

abbrev pub callee_of : callee.Callee → Calls.Callee
callee_of (C.Value v this) = called_value (value_of v) (option_map value_of this)
callee_of (C.Use u vs) = called_use (use_of u) (map value_of vs.items)

abbrev pub place_of : place.Place → Meaning.Place
place_of (P.Variable i r) = variable_place i r
place_of (P.Slot r) = slot_place (reference_of r)

abbrev pub completion_of : completion.Completion → Meaning.Comp
completion_of O.Normal = normal
completion_of (O.Returns i v) = returns i (value_of v)
completion_of (O.Breaks l) = breaks (option_map (λ t. t.now) l)
completion_of (O.Continues l) = continues (option_map (λ t. t.now) l)

abbrev pub ended_of : ended.Ended → Way Meaning.Comp
ended_of (W.Went c) = went (completion_of c)
ended_of (W.Thrown v) = thrown (value_of v)

abbrev pub env_of : env.Env → State.Env
env_of g = record { at = g.at; this = option_map value_of g.this; declares = g.declares.items }

abbrev pub path_shown : path.Path → State.Path
path_shown p = (p.global, p.props.items)

-- ---- frames

abbrev pub reach_frame_of : reach_frame.ReachFrame → Pure.ReachFrame
reach_frame_of RF.ToValue = Pure.to_value
reach_frame_of (RF.Unary i op) = Pure.unary_on i op
reach_frame_of (RF.Member i e p) = Pure.member_on i (longer (path_of (term e.now)) p) p
reach_frame_of (RF.Cast i d) = Pure.cast_on i d
reach_frame_of (RF.Callee i es) = Pure.callee_on i (terms es.now)

abbrev pub list_frame_of : list_frame.ListFrame → Pure.ListFrame
list_frame_of LF.Array = Pure.array_on
list_frame_of (LF.Apply i c) = Pure.apply_on i (callee_of c)
list_frame_of (LF.Construct i v) = Pure.construct_on i (value_of v)

abbrev pub place_frame_of : place_frame.PlaceFrame → Pure.PlaceFrame
place_frame_of (PF.Assign i op t e) = Pure.assign_on i op (path_of_target (target t.now)) (term e.now)
place_frame_of (PF.Step i up prefix) = Pure.step_on i up prefix
place_frame_of (PF.Name n) = Pure.name_on n

-- the labels of a statement, and the test or what is done after each turn of a loop
abbrev pub labels_of : List (Bor Units) → List (List ℕ)
labels_of ls = map (λ l. l.now) ls

abbrev pub part_of : Option (Bor Expr) → Option S.Expr
part_of e = option_map (λ x. term x.now) e

abbrev pub value_frame_of : value_frame.ValueFrame → Pure.ValFrame
value_frame_of VF.ToReach = Pure.to_reach
value_frame_of (VF.Operand i op) = Pure.operand_on i op
value_frame_of (VF.Left i op b) = Pure.left_on i op (term b.now)
value_frame_of (VF.Right i op x) = Pure.right_on i op (value_of x)
value_frame_of (VF.And b) = Pure.and_on (term b.now)
value_frame_of (VF.Or b) = Pure.or_on (term b.now)
value_frame_of (VF.Comma b) = Pure.comma_on (term b.now)
value_frame_of (VF.Cond a b) = Pure.cond_on (term a.now) (term b.now)
value_frame_of (VF.Stored p) = Pure.stored_on (place_of p)
value_frame_of (VF.Update i op p t e) = Pure.update_on i op (place_of p) (path_of_target (target t.now)) (term e.now)
value_frame_of (VF.Updated i op p x) = Pure.updated_on i op (place_of p) (value_of x)
value_frame_of (VF.Stepped i up prefix p) = Pure.stepped_on i up prefix (place_of p)
value_frame_of (VF.Dot i e p) = Pure.dot_on i (longer (path_of (term e.now)) p) p
value_frame_of (VF.Index i k) = Pure.index_on i (term k.now)
value_frame_of (VF.Key i k o) = Pure.key_on i (literal_text (term k.now)) (value_of o)
value_frame_of (VF.AimDot i e p) = Pure.aim_dot_on i (longer (path_of (term e.now)) p) p
value_frame_of (VF.AimIndex i k) = Pure.aim_index_on i (term k.now)
value_frame_of (VF.AimKey i k o) = Pure.aim_key_on i (literal_text (term k.now)) (value_of o)
value_frame_of (VF.New i es) = Pure.new_on i (terms es.now)
value_frame_of (VF.Arg vs es) = Pure.arg_on (map value_of vs.items) (terms es.now)
value_frame_of (VF.Field w o x xs) = Pure.field_on (option_map path_shown w) (value_of o) x.now.0 (site_of (term x.now.1)) (fields (map field xs.now))
value_frame_of (VF.Got r) = Pure.got_on (reference_of r)
value_frame_of (VF.Found r) = Pure.found_on (reference_of r)
value_frame_of (VF.Built o) = Pure.built_on (value_of o)
value_frame_of VF.Simple = Pure.simple_on
value_frame_of (VF.Declare d ds) = Pure.declare_on d.now.site d.now.variable (map declarator ds.now)
value_frame_of (VF.Branch a b) = Pure.branch_on (term_stmts a.now) (term_stmts b.now)
value_frame_of (VF.Test l) = Pure.test_on (labels_of l.labels.items) l.left (part_of l.test) (part_of l.rest) (term_stmts l.body.now)
value_frame_of (VF.Rest l) = Pure.rest_on (labels_of l.labels.items) l.left (part_of l.test) (part_of l.rest) (term_stmts l.body.now)
value_frame_of (VF.DoTest l) = Pure.do_test_on (labels_of l.labels.items) l.left (term l.test.now) (term_stmts l.body.now)
value_frame_of VF.Begun = Pure.begun_on
value_frame_of (VF.Names ls i t body) = Pure.names_on (labels_of ls.items) i (for_target t.now) (term_stmts body.now)
value_frame_of (VF.Return i) = Pure.return_on i
value_frame_of VF.Throw = Pure.throw_on
value_frame_of (VF.Switch cs) = Pure.switch_on (term_cases cs.now)
value_frame_of (VF.Case v c cs o) = Pure.case_on (value_of v) (term_stmts c.now.body) (term_cases cs.now) (option_map (λ ds. term_cases ds.now) o)

-- the names that are left, the next one first
abbrev pub names_of : name_loop.NameLoop → List (List ℕ)
names_of l = reverse l.names

abbrev pub done_frame_of : done_frame.DoneFrame → Pure.DoneFrame
done_frame_of (DF.Reply i cs a) = Pure.reply_on (spot_of i) (map inner_of cs.now) (answer_of a.now)
done_frame_of DF.Vars = Pure.vars_on
done_frame_of (DF.For ls t e body) = Pure.for_on (labels_of ls.items) (part_of t) (part_of e) (term_stmts body.now)
done_frame_of (DF.ForIn ls i t e body) = Pure.for_in_on (labels_of ls.items) i (for_target t.now) (term e.now) (term_stmts body.now)
done_frame_of (DF.NamePut l) = Pure.name_put_on (labels_of l.labels.items) l.site (value_of l.of) (for_target l.target.now) (term_stmts l.body.now) (names_of l)
done_frame_of (DF.Turn n ts) = Pure.turn_on n (map turn_of ts.now)

abbrev pub end_frame_of : end_frame.EndFrame → Pure.EndFrame
end_frame_of (EF.List ls ss) = Pure.list_on (labels_of ls.items) (term_stmts ss.now)
end_frame_of (EF.Turn l) = Pure.turn_end_on (labels_of l.labels.items) l.left (part_of l.test) (part_of l.rest) (term_stmts l.body.now)
end_frame_of (EF.Do l) = Pure.do_end_on (labels_of l.labels.items) l.left (term l.test.now) (term_stmts l.body.now)
end_frame_of (EF.Name l) = Pure.name_end_on (labels_of l.labels.items) l.site (value_of l.of) (for_target l.target.now) (term_stmts l.body.now) (names_of l)
end_frame_of (EF.Label l) = Pure.label_on l.now
end_frame_of EF.Unbroken = Pure.unbroken_on
end_frame_of (EF.Cases cs) = Pure.cases_on (term_cases cs.now)
end_frame_of (EF.Resume w) = Pure.resume_on (ended_of w)

abbrev pub frame_of : frame.Frame → Pure.Frame
frame_of (F.Reach k) = Pure.on_reach (reach_frame_of k)
frame_of (F.Value k) = Pure.on_val (value_frame_of k)
frame_of (F.List k) = Pure.on_list (list_frame_of k)
frame_of (F.Place k) = Pure.on_place (place_frame_of k)
frame_of (F.Done k) = Pure.on_done (done_frame_of k)
frame_of (F.End k) = Pure.on_end (end_frame_of k)
frame_of (F.Args i es) = Pure.args_on i (terms es.now)
frame_of (F.Leaves c built) = Pure.leaves_on (code_of c) built
frame_of (F.Leave g d c) = Pure.leave_on (env_of g) d (code_of c)
frame_of (F.Restore g) = Pure.restore_on (env_of g)
frame_of (F.Catch ss) = Pure.catch_on (term_stmts ss.now)
frame_of (F.Finally ss) = Pure.finally_on (term_stmts ss.now)
frame_of (F.Chunk g ss) = Pure.chunk_on (env_of g) (term_stmts ss.now)
frame_of F.Tell = Pure.tell_on
frame_of (F.Load n) = Pure.load_on n

-- the stack, the newest frame first
abbrev pub stack_of : List frame.Frame → List Pure.Frame
stack_of fs = reverse (map frame_of fs)

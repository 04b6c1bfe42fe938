-- What scripts, views and events of src/ stand for.
use Rattle.std.specs.Prelude.{map}
use Rattle.cc_ast.specs.Syntax.{undefined, null, truth, whole, text}
use Rattle.cc_meaning.specs.Values as V
use Rattle.cc_meaning.specs.Values.{shown_prim, shown_out, handle, called, constructed, got, put}
use Rattle.cc_meaning.specs.State as S
use Rattle.cc_meaning.specs.Script as R
use Rattle.cc_value.specs.declared.value.View as view
use Rattle.cc_value.specs.declared.value.View.TheVariants as W
use Rattle.cc_value.specs.declared.value.Event as event
use Rattle.cc_value.specs.declared.value.Event.TheVariants as E
use Rattle.cc_acts.specs.declared.script.Inner as inner
use Rattle.cc_acts.specs.declared.script.Answer as answer
use Rattle.cc_acts.specs.declared.script.Answer.TheVariants as A
use Rattle.cc_acts.specs.declared.script.Reply as reply
use Rattle.cc_acts.specs.declared.script.Turn as turn
use Rattle.cc_acts.specs.declared.script.Turn.TheVariants as T
use Rattle.cc_acts.specs.declared.script.Script as script

abbrev pub view_of : view.View → V.View
view_of W.Undefined = shown_prim undefined
view_of W.Null = shown_prim null
view_of (W.Truth b) = shown_prim (truth b)
view_of (W.Whole z) = shown_prim (whole z)
view_of (W.Text t) = shown_prim (text t)
view_of (W.Handle h) = handle h
view_of (W.Outside n) = shown_out n

abbrev pub event_of : event.Event → V.Event
event_of (E.Call target this args) = called (view_of target) (view_of this) (map view_of args)
event_of (E.New target args) = constructed (view_of target) (map view_of args)
event_of (E.Get target name) = got (view_of target) name
event_of (E.Set target name value) = put (view_of target) name (view_of value)
event_of (E.Ended value) = V.ended (view_of value)
event_of (E.Threw value) = V.threw (view_of value)

abbrev pub inner_of : inner.Inner → S.Inner
inner_of c = record { callee = c.callee; this = view_of c.this; args = map view_of c.args }

abbrev pub answer_of : answer.Answer → S.Answer
answer_of (A.Gives x) = S.gives (view_of x)
answer_of (A.Throws x) = S.throws (view_of x)

abbrev pub reply_of : reply.Reply → S.Reply
reply_of r = record { first = map inner_of r.first; answer = answer_of r.answer }

abbrev pub turn_of : turn.Turn → R.Turn
turn_of (T.Load c) = R.load c
turn_of (T.Call c) = R.call (inner_of c)
turn_of (T.Get h n) = R.get h n
turn_of (T.Set h n x) = R.set h n (view_of x)

abbrev pub script_of : script.Script → R.Script
script_of s = record { turns = map turn_of s.turns; replies = map reply_of s.replies }

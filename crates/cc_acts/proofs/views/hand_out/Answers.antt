use Rattle.std.proofs.Common.{◌≡◌, ◌∙◌, ℕ, ◌++◌, ◌∷◌, [], Bool, Option, None, false, is_some, nat_eq, if◌then◌else◌, sym, ap}
use Rattle.std.specs.List.{list_any}
use Rattle.cc_meaning.specs.Acts.{show, shown, handle_of}
use Rattle.cc_meaning.specs.Monad.{ok, ret}
use Rattle.cc_meaning.specs.Values.{handle}
use Rattle.cc_acts.specs.Shown.{state_of}
use Rattle.cc_acts.proofs.Handles.{placed}
use Rattle.cc_acts.proofs.views.hand_out.Goals as goal

pub returns-in-Some : goal.returns-in-Some
unfolding show shown ret
returns-in-Some c = λ P rs.
    let s = state_of P rs c.args.state.now in
    ap (λ (o : Option ℕ). shown o c.args.object s) (sym (placed c.args.object c.args.state.now.handles.keys) ∙ sym c.get_index_of.ensures.index ∙ c.in-Some.is)

pub returns-in_ok-insert-in-None : goal.returns-in_ok-insert-in-None
unfolding show shown ret
returns-in_ok-insert-in-None c = λ P rs.
    let s = state_of P rs c.args.state.now in
    let e = c.in_ok-insert-in-None.ensures {u = tt} in
    let none : handle_of c.args.state.now.handles.keys c.args.object ≡ None = sym (placed c.args.object c.args.state.now.handles.keys) ∙ sym c.get_index_of.ensures.index ∙ c.in-None.is in
    let absent : list_any (nat_eq c.args.object) c.args.state.now.handles.keys ≡ false = sym c.get_index_of.ensures.found ∙ ap is_some c.in-None.is in
    let keys = sym (e.keys ∙ ap (λ (b : Bool). if b then c.args.state.now.handles.keys else c.args.state.now.handles.keys ++ c.args.object ∷ []) absent) in
    ap (λ (o : Option ℕ). shown o c.args.object s) none ∙ (λ i. ok [] (handle (sym c.len-handle.ensures.len i)) (record s { handles = keys i }))

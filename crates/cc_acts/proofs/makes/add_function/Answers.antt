use Rattle.std.proofs.Common.{◌≡◌, ◌∙◌, Some, sym, ap, [], ◌∷◌, ◌++◌, List, length, slice_get}
use Rattle.cc_heap.specs.Kinds.{code_of}
use Rattle.cc_heap.specs.Store.{Store}
use Rattle.cc_meaning.specs.Acts.{add_function}
use Rattle.cc_meaning.specs.Monad.{ret, ok}
use Rattle.cc_meaning.specs.Names.{name_prototype}
use Rattle.cc_meaning.specs.State.{Obj, bare, kept_kind}
use Rattle.cc_meaning.specs.Store.{changed_at, put_own}
use Rattle.cc_meaning.specs.Values.{obj}
use Rattle.cc_acts.specs.Shown.{state_of}
use Rattle.cc_acts.proofs.Making.{function-made, function-number}
use Rattle.cc_acts.proofs.makes.add_function.Goals as goal

pub returns : goal.returns
unfolding add_function ret
returns c = λ P rs.
    let s = state_of P rs c.args.state.now in
    let h = c.args.state.now.heap in
    let p = c.in_ok-prototype.ensures {u = tt} in
    let f = c.in_ok-function.ensures {u = tt} in
    let w = c.in_ok-write_slot.ensures {u = tt} in
    let name : c.in_ok-name.name ≡ name_prototype = c.in_ok-name.ensures {u = tt} in
    let number : c.in_ok-function.function ≡ length (h.objs ++ bare ∷ []) = f.number ∙ ap (λ (x : Store). length x.objs) p.made in
    let second : c.make_function.new.self ≡ record h { objs = (h.objs ++ bare ∷ []) ++ (record bare { code = Some (code_of c.args.code) }) ∷ [] } =
    f.made ∙ ap (λ (x : Store). record x { objs = x.objs ++ (record bare { code = Some (code_of c.args.code) }) ∷ [] }) p.made in
    let put = ap (λ (x : Store). record x { objs = changed_at x.objs c.in_ok-function.function (slice_get x.objs c.in_ok-function.function) (put_own c.in_ok-name.name kept_kind (obj c.in_ok-prototype.prototype)) }) second in
    let named : record h { objs = changed_at ((h.objs ++ bare ∷ []) ++ (record bare { code = Some (code_of c.args.code) }) ∷ []) c.in_ok-function.function (slice_get ((h.objs ++ bare ∷ []) ++ (record bare { code = Some (code_of c.args.code) }) ∷ []) c.in_ok-function.function) (put_own c.in_ok-name.name kept_kind (obj c.in_ok-prototype.prototype)) }
    ≡ record h { objs = changed_at ((h.objs ++ bare ∷ []) ++ (record bare { code = Some (code_of c.args.code) }) ∷ []) c.in_ok-function.function (slice_get ((h.objs ++ bare ∷ []) ++ (record bare { code = Some (code_of c.args.code) }) ∷ []) c.in_ok-function.function) (put_own name_prototype kept_kind (obj (length h.objs))) } =
    λ i. record h { objs = changed_at ((h.objs ++ bare ∷ []) ++ (record bare { code = Some (code_of c.args.code) }) ∷ []) c.in_ok-function.function (slice_get ((h.objs ++ bare ∷ []) ++ (record bare { code = Some (code_of c.args.code) }) ∷ []) c.in_ok-function.function) (put_own (name i) kept_kind (obj (p.number i))) } in
    let made = ap (λ (os : List Obj). record h { objs = os }) (function-made h.objs (code_of c.args.code) c.in_ok-function.function number) in
    let heap = sym (w.put ∙ put ∙ named ∙ made) in
    λ i. ok [] (obj (function-number h.objs c.in_ok-function.function number i)) (record s { objs = (heap i).objs; frames = (heap i).frames; constructed = (heap i).constructed })

use Rattle.std.proofs.Common.{◌∙◌, ap, sym, not, List}
use Rattle.std.specs.List.{list_any}
use Rattle.cc_ast.specs.declared.tables.Element.{Element}
use Rattle.cc_meaning.specs.Typed.{entered_in, same_element}
use Rattle.cc_heap.specs.contracts.object.Object.{the_view}
use Rattle.cc_heap.proofs.ObjectLaws.{is_some-map, enter-none, enter-known, enter-new}
use Rattle.cc_heap.proofs.object.Object.enter.Goals as goal
use Rattle.cc_heap.proofs.object.Object.enter.Goals.{then-is_none-via-then-is_none, then-is_none-via-else-is_none+then-has_element}

pub returns-then-is_none-clause-entered : goal.returns-then-is_none-clause-entered
returns-then-is_none-clause-entered c =
    let o = the_view c.self.inside in
    let e = c.args.element in
    sym c.self.view_is
    ∙ elim c.then-is_none.branch [
      | then-is_none-via-then-is_none w ↦ enter-none e o (is_some-map _ c.self.inside.elements ∙ c.is_none.ensures ∙ ap not w.if-is_none.true)
      | then-is_none-via-else-is_none+then-has_element w ↦ enter-known e o (ap (list_any (λ d. same_element d e)) (sym w.as_slice.ensures) ∙ sym w.has_element.ensures ∙ w.if-has_element.true)
    ]
    ∙ ap (entered_in e) c.self.view_is

pub returns-clause-entered : goal.returns-clause-entered
returns-clause-entered c =
    let o = the_view c.self.inside in
    let e = c.args.element in
    ap (λ (ws : List Element). record o { wanted = ws }) c.in_ok-push.ensures.ok
    ∙ enter-new e o (is_some-map _ c.self.inside.elements ∙ c.is_none.ensures ∙ ap not c.if-is_none.false) (ap (list_any (λ d. same_element d e)) (sym c.as_slice.ensures) ∙ sym c.has_element.ensures ∙ c.if-has_element.false)
    ∙ ap (entered_in e) c.self.view_is

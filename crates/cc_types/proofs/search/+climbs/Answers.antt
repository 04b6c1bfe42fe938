use Rattle.std.proofs.Common.{◌≡◌, ℕ, ◌-◌, Bool, true, false, List, take, option_to_list, sym, ap, refl, ◌∙◌}
use Rattle.std.proofs.Math.Bool.{or-true}
use Rattle.std.proofs.lemmas.List.{take_all}
use Rattle.std.proofs.lemmas.List.Folds.{list_any_at}
use Rattle.std.specs.List.{list_any}
use Rattle.cc_types.specs.Types.{reaches}
use Rattle.cc_types.proofs.search.+climbs.Goals as goal
use Rattle.cc_types.proofs.search.+climbs.Goals.{then-steps-eq0-via-then-steps-eq0, then-steps-eq0-via-else-steps-eq0+then-a-classes, in-Some, in-None}
use Rattle.cc_types.proofs.Ancestry.{reaches-itself, reaches-stops, reaches-past, any_option-Some, any_option-None, reaches-join}

pub returns-then-a-b : goal.returns-then-a-b
returns-then-a-b t c = sym (reaches-itself c.args.steps c.args.classes.now c.args.a c.args.b c.if-a-b.true)

pub returns-then-steps-eq0 : goal.returns-then-steps-eq0
returns-then-steps-eq0 t c =
    elim c.then-steps-eq0.branch [
      | then-steps-eq0-via-then-steps-eq0 w ↦ sym (reaches-stops c.args.steps c.args.classes.now c.args.a c.args.b c.if-a-b.false w.if-steps-eq0.true)
      | then-steps-eq0-via-else-steps-eq0+then-a-classes w ↦ sym (reaches-past c.args.steps c.args.classes.now c.args.a c.args.b c.if-a-b.false w.if-a-classes.true)
    ]

pub returns-then-by_extends : goal.returns-then-by_extends
returns-then-by_extends t c =
    let f : ℕ → Bool = λ p. reaches (c.args.steps - 1) c.args.classes.now p c.args.b in
    let k = c.index-classes-a.result in
    let ex : c.match-class.by_extends ≡ list_any f (option_to_list k.extends) = elim c.match-class.branch [
      | in-Some w ↦ any_option-Some f k.extends w.in-Some.parent c.match-class.by_extends w.in-Some.is (w.by_extends-is ∙ w.climbs-by_extends.ensures)
      | in-None w ↦ w.by_extends-is ∙ any_option-None f k.extends w.in-None.is
    ] in
    let x : true ≡ list_any f (option_to_list k.extends) = sym c.if-by_extends.true ∙ ex in
    reaches-join c.args.steps c.args.classes.now c.args.a c.args.b k true (list_any f k.implements) c.if-a-b.false c.if-steps-eq0.false c.if-a-classes.false c.index-classes-a.is x refl

pub returns-then-climbs : goal.returns-then-climbs
returns-then-climbs t c =
    let f : ℕ → Bool = λ p. reaches (c.args.steps - 1) c.args.classes.now p c.args.b in
    let k = c.index-classes-a.result in
    let items : List ℕ = c.as_slice-parent-items.result.now in
    let here : list_any f items ≡ true = list_any_at f items c.loop-parent.parent-index 0 c.loop-parent-test.true (sym c.climbs.ensures ∙ c.if-climbs.true) in
    let y : true ≡ list_any f k.implements = sym here ∙ ap (list_any f) c.as_slice-parent-items.ensures in
    sym (or-true (list_any f (option_to_list k.extends)))
    ∙ reaches-join c.args.steps c.args.classes.now c.args.a c.args.b k (list_any f (option_to_list k.extends)) true c.if-a-b.false c.if-steps-eq0.false c.if-a-classes.false c.index-classes-a.is refl y

pub returns : goal.returns
returns t c =
    let f : ℕ → Bool = λ p. reaches (c.args.steps - 1) c.args.classes.now p c.args.b in
    let k = c.index-classes-a.result in
    let items : List ℕ = c.as_slice-parent-items.result.now in
    let ex : c.match-class.by_extends ≡ list_any f (option_to_list k.extends) = elim c.match-class.branch [
      | in-Some w ↦ any_option-Some f k.extends w.in-Some.parent c.match-class.by_extends w.in-Some.is (w.by_extends-is ∙ w.climbs-by_extends.ensures)
      | in-None w ↦ w.by_extends-is ∙ any_option-None f k.extends w.in-None.is
    ] in
    let x : false ≡ list_any f (option_to_list k.extends) = sym c.if-by_extends.false ∙ ex in
    let whole : take c.loop-parent.parent-index items ≡ items = take_all c.loop-parent.parent-index items c.loop-parent-test.false in
    let y : false ≡ list_any f k.implements = sym c.loop-parent.invariant ∙ ap (list_any f) (whole ∙ c.as_slice-parent-items.ensures) in
    reaches-join c.args.steps c.args.classes.now c.args.a c.args.b k false false c.if-a-b.false c.if-steps-eq0.false c.if-a-classes.false c.index-classes-a.is x y

use Rattle.std.proofs.Common.{◌≡◌, ◌∙◌, ◌+◌, ◌-◌, ◌<◌, ℕ, suc, List, length, Some, sym, ap, arith}
use Rattle.std.proofs.lemmas.Bool.{eq-eqb, ne_eqb}
use Rattle.cc_ast.specs.declared.tables.Class.{Class}
use Rattle.cc_types.specs.Types.{extends, extends_within}
use Rattle.cc_types.proofs.Extending.{within-here, within-up, within-none, within-end}
use Rattle.cc_types.proofs.extends.Goals as goal

-- one step less is left
less : (n : ℕ) (cs : List Class) (a b : ℕ) → n < length cs → extends_within (length cs - n) cs (Some a) b ≡ extends_within (suc (length cs - (n + 1))) cs (Some a) b
less n cs a b h = let more : length cs - n ≡ suc (length cs - (n + 1)) = omega arith in ap (λ (m : ℕ). extends_within m cs (Some a) b) more

pub loop-step-init : goal.loop-step-init
unfolding extends
loop-step-init c =
    let all : length c.args.classes.now - 0 ≡ length c.args.classes.now = omega arith in
    ap (λ (m : ℕ). extends_within m c.args.classes.now (Some c.args.a) c.args.b) all

pub returns-then-at-b : goal.returns-then-at-b
returns-then-at-b c = sym (sym c.loop-step.invariant ∙ within-here _ c.args.classes.now c.loop-step.at c.args.b (eq-eqb c.loop-step.at c.args.b c.if-at-b.true))

pub returns-in-None : goal.returns-in-None
returns-in-None c =
    let cs = c.args.classes.now in
    sym (sym c.loop-step.invariant ∙ less c.loop-step._step cs c.loop-step.at c.args.b c.loop-step-test.true ∙ within-up _ cs c.loop-step.at c.args.b _ (ne_eqb c.loop-step.at c.args.b c.if-at-b.false) c.in-None.ensures ∙ within-none _ cs c.args.b)

pub loop-step-preserved : goal.loop-step-preserved
loop-step-preserved c =
    let cs = c.args.classes.now in
    sym (sym c.loop-step.invariant ∙ less c.loop-step._step cs c.loop-step.at c.args.b c.loop-step-test.true ∙ within-up _ cs c.loop-step.at c.args.b _ (ne_eqb c.loop-step.at c.args.b c.if-at-b.false) c.in-Some.ensures)

pub returns : goal.returns
returns c =
    let cs = c.args.classes.now in
    let none : length cs - c.loop-step._step ≡ 0 = omega (arith, c.loop-step-test.false) in
    sym (within-end cs c.loop-step.at c.args.b) ∙ ap (λ (m : ℕ). extends_within m cs (Some c.loop-step.at) c.args.b) (sym none) ∙ c.loop-step.invariant

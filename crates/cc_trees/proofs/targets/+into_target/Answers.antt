use Rattle.std.proofs.Common.{arith, refl, sym, ap, subst, ◌∙◌, ◌≡◌, IsTrue, is_some, true, false}
use Rattle.cc_grammar.specs.Signs.{target_of}
use Rattle.cc_raw.specs.Bridge.{raw_expr}
use Rattle.cc_trees.proofs.TargetLemmas.{no_target, cast_target, fewer_casts}
use Rattle.cc_trees.proofs.targets.+into_target.Goals as goal

pub into_target-requires : goal.into_target-requires
into_target-requires t c =
    let is = sym c.into_inner.ensures ∙ c.in-Cast.is in
    let same = ap (λ e. target_of (raw_expr e)) is ∙ cast_target c.in-Cast.field-0 c.in-Cast.inner in
    (omega (arith, c.decreases, fewer_casts c.in-Cast.field-0 c.in-Cast.inner c.args.e c.in-Cast.inner is refl), subst (λ x. IsTrue (is_some x)) same c.requires)

pub unreachable-requires : goal.unreachable-requires
unreachable-requires t c = let n = c.in_default in
    let none = no_target c.into_inner.result n.not-Var n.not-Member n.not-Index n.not-Cast in
    let same = ap (λ e. target_of (raw_expr e)) (sym c.into_inner.ensures) in
    let e : false ≡ true = subst (λ x. is_some x ≡ true) (same ∙ none) c.requires in cc

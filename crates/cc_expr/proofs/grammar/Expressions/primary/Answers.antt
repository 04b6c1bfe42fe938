use Rattle.std.proofs.Common.{◌≡◌, ◌<◌, ◌∙◌, sym, ap, subst, arith, Some, Err}
use Rattle.cc_grammar.specs.Reading.{head_of, look_token}
use Rattle.cc_cursor.specs.declared.signs.Head.TheVariants as H
use Rattle.cc_cursor.specs.Meant as meant
use Rattle.cc_cursor.specs.Shown as shown
use Rattle.cc_cursor.specs.Reads.{Reads}
use Rattle.cc_expr.proofs.HeadLemmas.{primary_nested, primary_none}
use Rattle.cc_expr.proofs.grammar.Expressions.primary.Goals as goal

pub returns-else-self-eq0-clause-reads : goal.returns-else-self-eq0-clause-reads
returns-else-self-eq0-clause-reads g c =
    let some : 0 < c.args.self.now.grammar.limits.depth = omega arith in
    let head : meant.head (Some (H.Nested c.in-Some-Nested.nested)) ≡ head_of (look_token c.args.cursor.now).kind
    = ap (λ x. meant.head (Some x)) (sym c.in-Some-Nested.field-0-is) ∙ c.in-Some-Nested.ensures ∙ ap head_of c.kind.ensures.shows in
    subst (λ o. Reads shown.expr o c.nested.result c.nested.new.cursor)
    (sym (primary_nested c.args.self.now.grammar.limits.turns c.args.self.now.grammar.limits.depth c.args.with_in c.in-Some-Nested.nested c.args.cursor.now head some))
    c.nested.ensures.reads

pub returns-then-self-eq0-clause-reads : goal.returns-then-self-eq0-clause-reads
returns-then-self-eq0-clause-reads g c =
    let head : meant.head (Some (H.Nested c.in-Some-Nested.nested)) ≡ head_of (look_token c.args.cursor.now).kind
    = ap (λ x. meant.head (Some x)) (sym c.in-Some-Nested.field-0-is) ∙ c.in-Some-Nested.ensures ∙ ap head_of c.kind.ensures.shows in
    primary_none c.args.self.now.grammar.limits.turns c.args.self.now.grammar.limits.depth c.args.with_in c.in-Some-Nested.nested c.args.cursor.now head c.if-self-eq0.true
    ∙ ap (λ f. Err (shown.fault f, c.args.cursor.now)) (sym c.stop.ensures)

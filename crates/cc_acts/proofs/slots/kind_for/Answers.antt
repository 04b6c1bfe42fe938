use Rattle.std.proofs.Common.{◌∙◌, Bool, is_some, sym, ap}
use Rattle.cc_heap.specs.Kinds.{kind_of}
use Rattle.cc_meaning.specs.Monad.{pick}
use Rattle.cc_meaning.specs.Names.{is_index}
use Rattle.cc_meaning.specs.State.{indexed_kind, kept_kind}
use Rattle.cc_meaning.specs.Store.{kind_for}
use Rattle.cc_acts.proofs.slots.kind_for.Goals as goal

pub returns-then-is_kept : goal.returns-then-is_kept
unfolding kind_for
returns-then-is_kept c =
    sym (ap (λ (b : Bool). pick b kept_kind (pick (is_index c.args.name.now) indexed_kind (kind_of c.args.made))) (sym c.is_kept.ensures ∙ c.if-is_kept.true))

pub returns-then-is_some : goal.returns-then-is_some
unfolding kind_for is_index
returns-then-is_some c =
    let kept = sym c.is_kept.ensures ∙ c.if-is_kept.false in
    let index = sym (c.is_some.ensures ∙ ap is_some c.index_of.ensures) ∙ c.if-is_some.true in
    sym (λ i. pick (kept i) kept_kind (pick (index i) indexed_kind (kind_of c.args.made)))

pub returns-else-is_some : goal.returns-else-is_some
unfolding kind_for is_index
returns-else-is_some c =
    let kept = sym c.is_kept.ensures ∙ c.if-is_kept.false in
    let index = sym (c.is_some.ensures ∙ ap is_some c.index_of.ensures) ∙ c.if-is_some.false in
    sym (λ i. pick (kept i) kept_kind (pick (index i) indexed_kind (kind_of c.args.made)))

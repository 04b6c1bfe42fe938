use Rattle.std.proofs.Common.{◌≡◌, ◌∙◌, ◌&&◌, ◌||◌, not, Bool, true, false, Option, is_none, slice_get, sym, ap}
use Rattle.cc_heap.specs.Bridge.{held_of}
use Rattle.cc_meaning.specs.Store.{own_value}
use Rattle.cc_meaning.specs.Values.{Val}
use Rattle.cc_conform.proofs.MetLemmas.{none_map}
use Rattle.cc_conform.proofs.look_up.function_met.Goals as goal

pub returns-then-is_function : goal.returns-then-is_function
returns-then-is_function c = λ rest.
    ap (λ (b : Bool). b || (is_none (own_value (slice_get c.args.heap.now.objs c.args.object) c.args.name.now) && rest)) (sym c.is_function.ensures ∙ c.if-is_function.true)

pub returns-then-is_some : goal.returns-then-is_some
returns-then-is_some c = λ rest.
    let o = slice_get c.args.heap.now.objs c.args.object in
    let own : is_none (own_value o c.args.name.now) ≡ false = ap (λ (v : Option Val). is_none v) (sym c.read_own.ensures) ∙ none_map held_of c.read_own.result ∙ ap not (sym c.is_some.ensures ∙ c.if-is_some.true) in
    ap (λ (b : Bool). b || (is_none (own_value o c.args.name.now) && rest)) (sym c.is_function.ensures ∙ c.if-is_function.false) ∙ ap (λ (b : Bool). b && rest) own

pub returns : goal.returns
returns c = λ rest.
    let o = slice_get c.args.heap.now.objs c.args.object in
    let own : is_none (own_value o c.args.name.now) ≡ true = ap (λ (v : Option Val). is_none v) (sym c.read_own.ensures) ∙ none_map held_of c.read_own.result ∙ ap not (sym c.is_some.ensures ∙ c.if-is_some.false) in
    ap (λ (b : Bool). b || (is_none (own_value o c.args.name.now) && rest)) (sym c.is_function.ensures ∙ c.if-is_function.false) ∙ ap (λ (b : Bool). b && rest) own

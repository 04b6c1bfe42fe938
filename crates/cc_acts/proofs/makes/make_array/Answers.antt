use Rattle.std.proofs.Common.{sym, []}
use Rattle.cc_meaning.specs.Acts.{make_array, add_obj}
use Rattle.cc_meaning.specs.Monad.{ret, ok}
use Rattle.cc_meaning.specs.Values.{obj}
use Rattle.cc_acts.specs.Shown.{state_of}
use Rattle.cc_acts.proofs.makes.make_array.Goals as goal

pub returns : goal.returns
unfolding make_array add_obj ret
returns c = λ P rs.
    let s = state_of P rs c.args.state.now in
    let e = c.in_ok-make_array.ensures {u = tt} in
    λ i. ok [] (obj (sym e.number i)) (record s { objs = (sym e.made i).objs; frames = (sym e.made i).frames; constructed = (sym e.made i).constructed })

use Rattle.std.proofs.Common.{◌≡◌, ◌∙◌, ℕ, Bool, List, [], Option, is_some, nat_eq, sym, ap, subst}
use Rattle.std.specs.List.{list_any}
use Rattle.cc_meaning.specs.Acts.{judged, read_var, read_global, is_loaded, global_value}
use Rattle.cc_meaning.specs.Builtins.{or_undefined}
use Rattle.cc_meaning.specs.Judge.{takes}
use Rattle.cc_meaning.specs.Monad.{End, Res, over, ret, stop}
use Rattle.cc_meaning.specs.Store.{Global}
use Rattle.cc_meaning.specs.Typed.{global}
use Rattle.cc_meaning.specs.Values.{Val}
use Rattle.cc_value.specs.Bridge.{value_of}
use Rattle.cc_acts.specs.Shown.{Comes, spot_of, state_of}
use Rattle.cc_acts.specs.Verdicts.{mode_of}
use Rattle.cc_acts.proofs.reads.read_global.Goals as goal

pub returns-in-Extern : goal.returns-in-Extern
unfolding read_var read_global ret
returns-in-Extern c = λ rs g.
    let s = state_of c.args.setting.now.program.now rs c.args.state.now in
    ap (λ (k : Global). read_global (mode_of c.args.setting.now.plain) (spot_of c.args.spot) c.args.global k s) (sym (c.in-Extern.ensures {u = tt}))

pub returns-in-BuiltIn : goal.returns-in-BuiltIn
unfolding read_var read_global stop
returns-in-BuiltIn c = λ rs g.
    let s = state_of c.args.setting.now.program.now rs c.args.state.now in
    ap (λ (k : Global). read_global (mode_of c.args.setting.now.plain) (spot_of c.args.spot) c.args.global k s) (sym (c.in-BuiltIn.ensures {u = tt}))
    ∙ ap (λ (e : End). over [] e) (sym c.fault.ensures)

pub returns-in-Chunk : goal.returns-in-Chunk
unfolding read_var read_global is_loaded
returns-in-Chunk c = λ rs g.
    let s = state_of c.args.setting.now.program.now rs c.args.state.now in
    let i = spot_of c.args.spot in
    let J = mode_of c.args.setting.now.plain in
    let kind = ap (λ (k : Global). read_global J i c.args.global k s) (sym (c.in-Chunk.ensures {u = tt})) in
    let loaded : c.contains-loaded.result ≡ is_loaded s c.in-Chunk.chunk = c.contains-loaded.ensures.value ∙ ap (λ (cs : List ℕ). list_any (λ d. nat_eq d c.in-Chunk.chunk) cs) c.deref.ensures.value in
    let value = c.value_of_global-value.ensures rs c.args.setting.now.program.now in
    let there = ap (λ (b : Bool). judged J i (takes (global c.args.global) b (is_some (global_value s c.args.global))) (ret (or_undefined (global_value s c.args.global))) s) loaded in
    let same = ap (λ (v : Option Val). judged J i (takes (global c.args.global) c.contains-loaded.result (is_some v)) (ret (or_undefined v)) s) value in
    subst (λ (r : Res Val). Comes value_of c.take.result s r) (same ∙ there ∙ sym kind) (c.take.ensures rs)

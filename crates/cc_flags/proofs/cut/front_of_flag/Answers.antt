use Rattle.std.proofs.Common.{◌+◌, Some, sym, ap, ◌∙◌, refl}
use Rattle.cc_flags.specs.Cutting.{switch, next}
use Rattle.cc_flags.proofs.CutLaws.{texts-get, texts-past}
use Rattle.cc_flags.proofs.cut.front_of_flag.Goals as goal

pub returns-then-not-needs_value : goal.returns-then-not-needs_value
returns-then-not-needs_value c = switch (sym c.needs_value.ensures ∙ c.if-not-needs_value.true)

pub returns-in-Some : goal.returns-in-Some
returns-in-Some c =
    let h = c.in-Some.ensures.lookup in
    next (sym c.needs_value.ensures ∙ c.if-not-needs_value.false) (texts-get c.args.words.now (c.args.at + 1) c.in-Some.next.now h.3.0 h.1 ∙ ap Some (sym c.as_str.ensures.value))

pub returns-in-None : goal.returns-in-None
returns-in-None c =
    record { needs = sym c.needs_value.ensures ∙ c.if-not-needs_value.false; last = texts-past c.args.words.now (c.args.at + 1) c.in-None.ensures.lookup.3; which = refl }

use Rattle.std.specs.Str.{chars}
use Rattle.cc_jsdoc.specs.Types.{bare, marked}
use Rattle.cc_jsdoc.proofs.NameLemmas.{class_from, no_marked, no_bare}
use Rattle.cc_jsdoc.proofs.name.class_name.Goals as goal

pub returns-in-Some : goal.returns-in-Some
returns-in-Some c =
    let text = chars c.args.text.now in let begin = chars c.in-Some.behind.now in
    class_from text begin c.name_alone.result (λ ws n. marked c.in-Some.ensures.value n) (λ h ws. no_marked text begin ws c.in-Some.ensures.value h) c.name_alone.ensures

pub returns-in-None : goal.returns-in-None
returns-in-None c =
    let text = chars c.args.text.now in
    class_from text text c.name_alone-in-None.result (λ ws n. bare n) (λ h ws. no_bare text ws c.in-None.ensures.value h) c.name_alone-in-None.ensures

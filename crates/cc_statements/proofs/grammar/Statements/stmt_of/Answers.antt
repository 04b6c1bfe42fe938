use Rattle.std.proofs.Common.{◌≡◌, ◌∙◌, sym, ap, subst, map, Ok}
use Rattle.cc_grammar.specs.Reading.{start_of, look_token, rest_tokens}
use Rattle.cc_raw.specs.Bridge.{raw_stmt}
use Rattle.cc_cursor.specs.Shown as shown
use Rattle.cc_cursor.specs.Reads.{Reads}
use Rattle.cc_cursor.specs.ShownStarts as starts
use Rattle.cc_statements.proofs.StartLemmas.{stmt_at, stmt_else}
use Rattle.cc_statements.proofs.grammar.Statements.stmt_of.Goals as goal

-- Each is what the reader for what begins there answers.

pub returns-in-Vars-clause-reads : goal.returns-in-Vars-clause-reads
returns-in-Vars-clause-reads g c =
    let e = ap starts.shown (sym c.in-Vars.is) ∙ c.start_of-start.ensures ∙ ap start_of c.kind.ensures.shows in
    subst (λ o. Reads shown.stmts o c.vars.result c.vars.new.cursor)
    (stmt_at c.args.self.now.grammar.limits (shown.context c.args.context) c.args.cursor.now _ e) c.vars.ensures.reads

pub returns-in-Empty-clause-reads : goal.returns-in-Empty-clause-reads
returns-in-Empty-clause-reads g c =
    let e = ap starts.shown (sym c.in-Empty.is) ∙ c.start_of-start.ensures ∙ ap start_of c.kind.ensures.shows in
    sym (stmt_at c.args.self.now.grammar.limits (shown.context c.args.context) c.args.cursor.now _ e)
    ∙ ap (λ found. Ok ((map raw_stmt found, 0), rest_tokens c.args.cursor.now)) (sym c.new.ensures)
    ∙ ap (λ left. Ok (shown.stmts (c.new.result, 0), left)) (sym c.take.ensures.rest)

pub returns-in-Function-clause-reads : goal.returns-in-Function-clause-reads
returns-in-Function-clause-reads g c =
    let e = ap starts.shown (sym c.in-Function.is) ∙ c.start_of-start.ensures ∙ ap start_of c.kind.ensures.shows in
    subst (λ o. Reads shown.stmts o c.declaration.result c.declaration.new.cursor)
    (stmt_at c.args.self.now.grammar.limits (shown.context c.args.context) c.args.cursor.now _ e) c.declaration.ensures.reads

pub returns-in-Name-clause-reads : goal.returns-in-Name-clause-reads
returns-in-Name-clause-reads g c =
    let e = ap starts.shown (sym c.in-Name.is) ∙ c.start_of-start.ensures ∙ ap start_of c.kind.ensures.shows in
    subst (λ o. Reads shown.stmts o c.begins_with_name.result c.begins_with_name.new.cursor)
    (stmt_at c.args.self.now.grammar.limits (shown.context c.args.context) c.args.cursor.now _ e) c.begins_with_name.ensures.reads

pub returns-in-Plain-clause-reads : goal.returns-in-Plain-clause-reads
returns-in-Plain-clause-reads g c =
    let e = ap starts.shown (sym c.in-Plain.is) ∙ c.start_of-start.ensures ∙ ap start_of c.kind.ensures.shows in
    subst (λ o. Reads shown.stmts o c.plain.result c.plain.new.cursor)
    (stmt_at c.args.self.now.grammar.limits (shown.context c.args.context) c.args.cursor.now _ e) c.plain.ensures.reads

pub returns-in_default-clause-reads : goal.returns-in_default-clause-reads
returns-in_default-clause-reads g c =
    let m = c.args.self.now.grammar.limits in
    let e : starts.shown c.start_of-start.result ≡ start_of (look_token c.args.cursor.now).kind = c.start_of-start.ensures ∙ ap start_of c.kind.ensures.shows in
    subst (λ o. Reads shown.stmts o c.compound.result c.compound.new.cursor)
    (stmt_else m (shown.context c.args.context) c.start_of-start.result c.args.cursor.now c.in_default.not-Vars c.in_default.not-Empty c.in_default.not-Function c.in_default.not-Name c.in_default.not-Plain
    ∙ stmt_at m (shown.context c.args.context) c.args.cursor.now _ e) c.compound.ensures.reads

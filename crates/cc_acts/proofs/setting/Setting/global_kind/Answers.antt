use Rattle.std.proofs.Common.{ℕ, ◌-◌, ◌∙◌, sym, ap, Option, List, None}
use Rattle.cc_ast.specs.declared.tables.GlobalInfo.{GlobalInfo}
use Rattle.cc_meaning.specs.Shapes.{tables_of}
use Rattle.cc_meaning.specs.Store.{global_kind, global_by, without_chunk}
use Rattle.cc_acts.proofs.setting.Setting.global_kind.Goals as goal

pub returns-in-Some : goal.returns-in-Some
unfolding global_kind global_by tables_of
returns-in-Some c = ap (λ (o : Option ℕ). global_by (without_chunk c.args.self.now.program.now.globals - 3) c.args.global o) (sym c.in-Some.is ∙ c.chunk_of.ensures)

pub returns-in-None : goal.returns-in-None
unfolding global_kind global_by tables_of
returns-in-None c =
    let gs : List GlobalInfo = c.args.self.now.program.now.globals in
    c.outer.ensures ∙ ap (λ (e : ℕ). global_by e c.args.global None) c.args.self.now.counted ∙ ap (λ (o : Option ℕ). global_by (without_chunk gs - 3) c.args.global o) (sym c.in-None.is ∙ c.chunk_of.ensures)

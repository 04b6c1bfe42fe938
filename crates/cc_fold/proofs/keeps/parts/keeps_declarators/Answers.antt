use Rattle.std.proofs.Common.{◌∙◌, ap, sym, List, map}
use Rattle.cc_ast.specs.declared.tree.Declarator.{Declarator}
use Rattle.cc_ast.specs.StmtBridge.{declarator}
use Rattle.cc_fold.specs.Keeps.{keeps_declarator, keeps_declarators}
use Rattle.cc_fold.proofs.KeepLoops.{ended, goes_on, refused}
use Rattle.cc_fold.proofs.KeepStmts.{more_declarators, no_declarators}
use Rattle.cc_fold.proofs.keeps.parts.keeps_declarators.Goals as goal

pub returns-then-not-keeps_declarator : goal.returns-then-not-keeps_declarator
returns-then-not-keeps_declarator c = refused (λ (d : Declarator). keeps_declarator (declarator d)) (λ (ds : List Declarator). keeps_declarators (map declarator ds)) no_declarators more_declarators c.as_slice-d-items.result.now c.loop-d.d-index c.loop-d.invariant c.d-item.result c.loop-d-test.true c.d-item.is (sym c.keeps_declarator.ensures ∙ c.if-not-keeps_declarator.true) ∙ ap (λ (ds : List Declarator). keeps_declarators (map declarator ds)) c.as_slice-d-items.ensures

pub loop-d-preserved : goal.loop-d-preserved
loop-d-preserved c = goes_on (λ (d : Declarator). keeps_declarator (declarator d)) (λ (ds : List Declarator). keeps_declarators (map declarator ds)) no_declarators more_declarators c.as_slice-d-items.result.now c.loop-d.d-index c.loop-d.invariant c.d-item.result c.loop-d-test.true c.d-item.is (sym c.keeps_declarator.ensures ∙ c.if-not-keeps_declarator.false)

pub returns : goal.returns
returns c = ended (λ (d : Declarator). keeps_declarator (declarator d)) (λ (ds : List Declarator). keeps_declarators (map declarator ds)) no_declarators more_declarators c.as_slice-d-items.result.now c.loop-d.d-index c.loop-d.invariant c.loop-d-test.false ∙ ap (λ (ds : List Declarator). keeps_declarators (map declarator ds)) c.as_slice-d-items.ensures

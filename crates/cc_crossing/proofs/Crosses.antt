-- That trees, scopes and programs may cross threads. Each type is shown once and by name, since a `search` that goes down through all of them runs out of steps.
--     X_field-send, X_field-sync      of the type X where it is a field.        X-send, X-sync      of X itself, as a bound asks
--     crosses      what an answer gives to `search`, beside `sendable`, where one of these is sent or shared. `using` on the function does not serve
use mathlib.Core.List.{[], ◌∷◌}
use denote.Builtin.{u32}
use denote.RattleType.{RattleType}
use denote.Struct.Declared.{shape}
use denote.Struct.Tuple.{Tuple}
use denote.Param.Send.{IsSend, IsSync, plain_send, plain_sync, recorded_send, recorded_sync, struct_send, struct_sync, view_send, view_sync, sendable}
use Rattle.sqlite_items.proofs.boxed.Boxed.TheSendSync as boxed
use Rattle.sqlite_items.proofs.items.Items.TheSendSync as items
use Rattle.sqlite_items.specs.contracts.boxed.Boxed as Boxed
use Rattle.sqlite_items.specs.contracts.items.Items as Items
use Rattle.std.proofs.option.Option.TheSendSync as option
use Rattle.cc_ast.proofs.operator.BinOp.TheSendSync as binary
use Rattle.cc_ast.proofs.operator.UnOp.TheSendSync as unary
use Rattle.cc_ast.proofs.place.Place.TheSendSync as place
use Rattle.cc_ast.proofs.shared.Shared.TheSendSync as shared
use Rattle.cc_ast.proofs.tables.ChunkInfo.TheSendSync as chunk
use Rattle.cc_ast.proofs.tables.Class.TheSendSync as class
use Rattle.cc_ast.proofs.tables.GlobalInfo.TheSendSync as global
use Rattle.cc_ast.proofs.tables.PropInfo.TheSendSync as property
use Rattle.cc_ast.proofs.tables.SiteDoc.TheSendSync as doc
use Rattle.cc_ast.proofs.tree.Expr.TheLaws.TheKnot as expressions
use Rattle.cc_ast.proofs.tree.Key.TheSendSync as key
use Rattle.cc_ast.proofs.tree.Ref.TheSendSync as variable
use Rattle.cc_ast.proofs.tree.Stmt.TheLaws.TheKnot as statements
use Rattle.cc_ast.proofs.units.Units.TheSendSync as units
use Rattle.cc_ast.specs.contracts.operator.BinOp as BinOp
use Rattle.cc_ast.specs.contracts.program.Program as Program
use Rattle.cc_ast.specs.contracts.program.Program.TheInside as program
use Rattle.cc_ast.specs.contracts.program.Scope as Scope
use Rattle.cc_ast.specs.contracts.program.Scope.TheInside as scope
use Rattle.cc_ast.specs.contracts.tree.Case as Case
use Rattle.cc_ast.specs.contracts.tree.Declarator as Declarator
use Rattle.cc_ast.specs.contracts.tree.Expr as Expr
use Rattle.cc_ast.specs.contracts.tree.ForInit as ForInit
use Rattle.cc_ast.specs.contracts.tree.ForTarget as ForTarget
use Rattle.cc_ast.specs.contracts.tree.Key as Key
use Rattle.cc_ast.specs.contracts.tree.Stmt as Stmt
use Rattle.cc_ast.specs.contracts.tree.Target as Target
use Rattle.cc_ast.specs.contracts.units.Units as Units

abbrev Entry : RattleType → RattleType
Entry T = Tuple (Key.the_row ∷ T ∷ [])

entries-send : (T : RattleType) → IsSend T → IsSend (Items.the_row (Entry T))
entries-send T s = items.the_send (Entry T) (search (key.the_send, sendable))

entries-sync : (T : RattleType) → IsSync T → IsSync (Items.the_row (Entry T))
entries-sync T s = items.the_sync (Entry T) (search (key.the_sync, sendable))

pub Expr_field-send : IsSend Expr.the_field.row
Expr_field-send = expressions.send-Expr (plain_send _ _ _ _ _) (plain_send _ _ _ _ _) (plain_send _ _ _ _ _) units.the_send variable.the_field_send items.the_send entries-send
    unary.the_field_send boxed.the_send binary.the_field_send (option.the_field_send BinOp.the_row binary.the_send) (plain_send _ _ _ _ _)

pub Expr-send : IsSend Expr.the_row
Expr-send = recorded_send Expr.the_field.row _ _ Expr.the_type.to_one Expr_field-send

pub Expr_field-sync : IsSync Expr.the_field.row
Expr_field-sync = expressions.sync-Expr (plain_sync _ _ _ _ _) (plain_sync _ _ _ _ _) (plain_sync _ _ _ _ _) units.the_sync variable.the_field_sync items.the_sync entries-sync
    unary.the_field_sync boxed.the_sync binary.the_field_sync (option.the_field_sync BinOp.the_row binary.the_sync) (plain_sync _ _ _ _ _)

pub Expr-sync : IsSync Expr.the_row
Expr-sync = recorded_sync Expr.the_field.row _ _ Expr.the_type.to_one Expr_field-sync

pub Target_field-send : IsSend Target.the_field.row
Target_field-send = expressions.send-Target (plain_send _ _ _ _ _) (plain_send _ _ _ _ _) (plain_send _ _ _ _ _) units.the_send variable.the_field_send items.the_send entries-send
    unary.the_field_send boxed.the_send binary.the_field_send (option.the_field_send BinOp.the_row binary.the_send) (plain_send _ _ _ _ _)

pub Target-send : IsSend Target.the_row
Target-send = recorded_send Target.the_field.row _ _ Target.the_type.to_one Target_field-send

pub Target_field-sync : IsSync Target.the_field.row
Target_field-sync = expressions.sync-Target (plain_sync _ _ _ _ _) (plain_sync _ _ _ _ _) (plain_sync _ _ _ _ _) units.the_sync variable.the_field_sync items.the_sync entries-sync
    unary.the_field_sync boxed.the_sync binary.the_field_sync (option.the_field_sync BinOp.the_row binary.the_sync) (plain_sync _ _ _ _ _)

pub Target-sync : IsSync Target.the_row
Target-sync = recorded_sync Target.the_field.row _ _ Target.the_type.to_one Target_field-sync

pub Declarator_field-send : IsSend Declarator.the_field.row
Declarator_field-send = search (variable.the_field_send, option.the_field_send, boxed.the_send, Expr-send, sendable) depth 20

pub Declarator-send : IsSend Declarator.the_row
Declarator-send = recorded_send Declarator.the_field.row _ _ Declarator.the_type.to_one Declarator_field-send

pub Declarator_field-sync : IsSync Declarator.the_field.row
Declarator_field-sync = search (variable.the_field_sync, option.the_field_sync, boxed.the_sync, Expr-sync, sendable) depth 20

pub Declarator-sync : IsSync Declarator.the_row
Declarator-sync = recorded_sync Declarator.the_field.row _ _ Declarator.the_type.to_one Declarator_field-sync

pub ForInit_field-send : IsSend ForInit.the_field.row
ForInit_field-send = search (boxed.the_send, Expr-send, items.the_send, Declarator-send, sendable) depth 20

pub ForInit-send : IsSend ForInit.the_row
ForInit-send = recorded_send ForInit.the_field.row _ _ ForInit.the_type.to_one ForInit_field-send

pub ForInit_field-sync : IsSync ForInit.the_field.row
ForInit_field-sync = search (boxed.the_sync, Expr-sync, items.the_sync, Declarator-sync, sendable) depth 20

pub ForInit-sync : IsSync ForInit.the_row
ForInit-sync = recorded_sync ForInit.the_field.row _ _ ForInit.the_type.to_one ForInit_field-sync

pub ForTarget_field-send : IsSend ForTarget.the_field.row
ForTarget_field-send = search (boxed.the_send, Target-send, Declarator-send, sendable) depth 20

pub ForTarget-send : IsSend ForTarget.the_row
ForTarget-send = recorded_send ForTarget.the_field.row _ _ ForTarget.the_type.to_one ForTarget_field-send

pub ForTarget_field-sync : IsSync ForTarget.the_field.row
ForTarget_field-sync = search (boxed.the_sync, Target-sync, Declarator-sync, sendable) depth 20

pub ForTarget-sync : IsSync ForTarget.the_row
ForTarget-sync = recorded_sync ForTarget.the_field.row _ _ ForTarget.the_type.to_one ForTarget_field-sync

pub Stmt_field-send : IsSend Stmt.the_field.row
Stmt_field-send = statements.send-Stmt (plain_send _ _ _ _ _) (boxed.the_send _ Expr-send) (items.the_send Declarator.the_row Declarator-send) variable.the_field_send items.the_send ForInit_field-send (option.the_field_send (Boxed.the_row Expr.the_row) (boxed.the_send _ Expr-send))
    ForTarget_field-send (option.the_field_send Units.the_row units.the_send) units.the_send (λ h s. option.the_send _ (items.the_send h s)) (plain_send _ _ _ _ _)

pub Stmt-send : IsSend Stmt.the_row
Stmt-send = recorded_send Stmt.the_field.row _ _ Stmt.the_type.to_one Stmt_field-send

pub Stmt_field-sync : IsSync Stmt.the_field.row
Stmt_field-sync = statements.sync-Stmt (plain_sync _ _ _ _ _) (boxed.the_sync _ Expr-sync) (items.the_sync Declarator.the_row Declarator-sync) variable.the_field_sync items.the_sync ForInit_field-sync (option.the_field_sync (Boxed.the_row Expr.the_row) (boxed.the_sync _ Expr-sync))
    ForTarget_field-sync (option.the_field_sync Units.the_row units.the_sync) units.the_sync (λ h s. option.the_sync _ (items.the_sync h s)) (plain_sync _ _ _ _ _)

pub Stmt-sync : IsSync Stmt.the_row
Stmt-sync = recorded_sync Stmt.the_field.row _ _ Stmt.the_type.to_one Stmt_field-sync

pub Case_field-send : IsSend Case.the_field.row
Case_field-send = statements.send-Case (plain_send _ _ _ _ _) (boxed.the_send _ Expr-send) (items.the_send Declarator.the_row Declarator-send) variable.the_field_send items.the_send ForInit_field-send (option.the_field_send (Boxed.the_row Expr.the_row) (boxed.the_send _ Expr-send))
    ForTarget_field-send (option.the_field_send Units.the_row units.the_send) units.the_send (λ h s. option.the_send _ (items.the_send h s)) (plain_send _ _ _ _ _)

pub Case-send : IsSend Case.the_row
Case-send = recorded_send Case.the_field.row _ _ Case.the_type.to_one Case_field-send

pub Case_field-sync : IsSync Case.the_field.row
Case_field-sync = statements.sync-Case (plain_sync _ _ _ _ _) (boxed.the_sync _ Expr-sync) (items.the_sync Declarator.the_row Declarator-sync) variable.the_field_sync items.the_sync ForInit_field-sync (option.the_field_sync (Boxed.the_row Expr.the_row) (boxed.the_sync _ Expr-sync))
    ForTarget_field-sync (option.the_field_sync Units.the_row units.the_sync) units.the_sync (λ h s. option.the_sync _ (items.the_sync h s)) (plain_sync _ _ _ _ _)

pub Case-sync : IsSync Case.the_row
Case-sync = recorded_sync Case.the_field.row _ _ Case.the_type.to_one Case_field-sync

Scope_inside-send : IsSend scope.the_row
Scope_inside-send = recorded_send scope.the_field.row _ _ scope.the_type.to_one (struct_send (shape scope.the_type) (plain_send _ _ _ _ _, (plain_send _ _ _ _ _, (plain_send _ _ _ _ _, (shared.the_send _ (items.the_send _ Stmt-send) (items.the_sync _ Stmt-sync), (option.the_field_send u32 (plain_send _ _ _ _ _), (plain_send _ _ _ _ _, tt)))))))

pub Scope-send : IsSend Scope.the_row
Scope-send = view_send scope.the_row _ _ _ _ Scope_inside-send

Scope_inside-sync : IsSync scope.the_row
Scope_inside-sync = recorded_sync scope.the_field.row _ _ scope.the_type.to_one (struct_sync (shape scope.the_type) (plain_sync _ _ _ _ _, (plain_sync _ _ _ _ _, (plain_sync _ _ _ _ _, (shared.the_sync _ (items.the_send _ Stmt-send) (items.the_sync _ Stmt-sync), (option.the_field_sync u32 (plain_sync _ _ _ _ _), (plain_sync _ _ _ _ _, tt)))))))

pub Scope-sync : IsSync Scope.the_row
Scope-sync = view_sync scope.the_row _ _ _ _ Scope_inside-sync

Program_inside-send : IsSend program.the_row
Program_inside-send = recorded_send program.the_field.row _ _ program.the_type.to_one (struct_send (shape program.the_type) (items.the_send _ Scope-send, (shared.the_send _ (items.the_send _ chunk.the_send) (items.the_sync _ chunk.the_sync), (shared.the_send _ (items.the_send _ global.the_send) (items.the_sync _ global.the_sync), (shared.the_send _ (items.the_send _ property.the_send) (items.the_sync _ property.the_sync), (shared.the_send _ (items.the_send _ units.the_send) (items.the_sync _ units.the_sync), (shared.the_send _ (items.the_send _ class.the_send) (items.the_sync _ class.the_sync), (shared.the_send _ (items.the_send _ place.the_send) (items.the_sync _ place.the_sync), (shared.the_send _ (items.the_send _ doc.the_send) (items.the_sync _ doc.the_sync), tt)))))))))

pub Program-send : IsSend Program.the_row
Program-send = view_send program.the_row _ _ _ _ Program_inside-send

Program_inside-sync : IsSync program.the_row
Program_inside-sync = recorded_sync program.the_field.row _ _ program.the_type.to_one (struct_sync (shape program.the_type) (items.the_sync _ Scope-sync, (shared.the_sync _ (items.the_send _ chunk.the_send) (items.the_sync _ chunk.the_sync), (shared.the_sync _ (items.the_send _ global.the_send) (items.the_sync _ global.the_sync), (shared.the_sync _ (items.the_send _ property.the_send) (items.the_sync _ property.the_sync), (shared.the_sync _ (items.the_send _ units.the_send) (items.the_sync _ units.the_sync), (shared.the_sync _ (items.the_send _ class.the_send) (items.the_sync _ class.the_sync), (shared.the_sync _ (items.the_send _ place.the_send) (items.the_sync _ place.the_sync), (shared.the_sync _ (items.the_send _ doc.the_send) (items.the_sync _ doc.the_sync), tt)))))))))

pub Program-sync : IsSync Program.the_row
Program-sync = view_sync program.the_row _ _ _ _ Program_inside-sync

pub ruleset crosses = (Expr_field-send, Expr-send, Expr_field-sync, Expr-sync, Target_field-send, Target-send, Target_field-sync, Target-sync, Declarator_field-send, Declarator-send, Declarator_field-sync, Declarator-sync, ForInit_field-send, ForInit-send, ForInit_field-sync, ForInit-sync, ForTarget_field-send, ForTarget-send, ForTarget_field-sync, ForTarget-sync, Stmt_field-send, Stmt-send, Stmt_field-sync, Stmt-sync, Case_field-send, Case-send, Case_field-sync, Case-sync, Scope-send, Scope-sync, Program-send, Program-sync)

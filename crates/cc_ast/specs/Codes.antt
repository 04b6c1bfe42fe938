-- The codes by which scopes, heads and programs are told apart.
use Rattle.std.specs.Prelude.{ℕ, Bool, List, Option}
use Rattle.std.specs.Coded.{Coded, code_by, coded_list, coded_option, coded×, coded_ℕ, coded_bool}
use Rattle.std.proofs.Common.{refl}
use Rattle.cc_ast.specs.contracts.place.Place as place
use Rattle.cc_ast.specs.contracts.tables.ChunkInfo as chunk
use Rattle.cc_ast.specs.contracts.tables.GlobalInfo as global
use Rattle.cc_ast.specs.contracts.tables.PropInfo as prop
use Rattle.cc_ast.specs.contracts.tables.Class as class
use Rattle.cc_ast.specs.contracts.tables.SiteDoc as doc
use Rattle.cc_ast.specs.declared.place.Place.{Place}
use Rattle.cc_ast.specs.declared.tables.ChunkInfo.{ChunkInfo}
use Rattle.cc_ast.specs.declared.tables.GlobalInfo.{GlobalInfo}
use Rattle.cc_ast.specs.declared.tables.PropInfo.{PropInfo}
use Rattle.cc_ast.specs.declared.tables.Class.{Class}
use Rattle.cc_ast.specs.declared.tables.SiteDoc.{SiteDoc}
use Rattle.cc_ast.specs.Syntax.{Scope, Stmts, Program, Heads, Names}
use Rattle.cc_ast.specs.StmtTrees.{coded_stmts}

abbrev pub coded_scope : Coded Scope
coded_scope =
    code_by ((ℕ × ℕ) × (Bool × (Stmts × (Option ℕ × ℕ))))
    (coded× (coded× coded_ℕ coded_ℕ) (coded× coded_bool (coded× coded_stmts (coded× (coded_option coded_ℕ) coded_ℕ))))
    (λ s. ((s.params, s.names), (s.own, (s.body, (s.parent, s.doc)))))
    (λ p. record { params = p.0.0; names = p.0.1; own = p.1.0; body = p.1.1.0; parent = p.1.1.1.0; doc = p.1.1.1.1 })
    (λ _. refl)

abbrev pub coded_heads : Coded Heads
coded_heads =
    code_by ((List GlobalInfo × List PropInfo) × (List Class × List SiteDoc))
    (coded× (coded× (coded_list global.the_row.coded) (coded_list prop.the_row.coded)) (coded× (coded_list class.the_row.coded) (coded_list doc.the_row.coded)))
    (λ h. ((h.globals, h.props), (h.classes, h.docs)))
    (λ p. record { globals = p.0.0; props = p.0.1; classes = p.1.0; docs = p.1.1 })
    (λ _. refl)

abbrev pub coded_names : Coded Names
coded_names =
    code_by (List (List ℕ) × List (List ℕ))
    (coded× (coded_list (coded_list coded_ℕ)) (coded_list (coded_list coded_ℕ)))
    (λ n. (n.globals, n.slots))
    (λ p. record { globals = p.0; slots = p.1 })
    (λ _. refl)

abbrev pub coded_program : Coded Program
coded_program =
    code_by ((List Scope × List ChunkInfo) × ((List (List ℕ) × List Place) × Heads))
    (coded× (coded× (coded_list coded_scope) (coded_list chunk.the_row.coded)) (coded× (coded× (coded_list (coded_list coded_ℕ)) (coded_list place.the_row.coded)) coded_heads))
    (λ p. ((p.scopes, p.chunks), ((p.kept, p.places), record { globals = p.globals; props = p.props; classes = p.classes; docs = p.docs })))
    (λ q. record { scopes = q.0.0; chunks = q.0.1; kept = q.1.0.0; places = q.1.0.1; globals = q.1.1.globals; props = q.1.1.props; classes = q.1.1.classes; docs = q.1.1.docs })
    (λ _. refl)

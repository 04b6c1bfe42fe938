-- Trees that are fine for each of two sets of rules are fine for what both together allow.
use Rattle.std.proofs.Common.{ℕ, Bool, true, false, List, Option}
use Rattle.cc_ast.specs.Syntax.{Expr, Stmt, Stmts}
use Rattle.cc_ast.specs.declared.tree.Ref.{Ref}
use Rattle.cc_tied.specs.Fine.{Allowed, FineStmts}
use Rattle.cc_tied.proofs.Fine.Together as F
use Rattle.cc_tied.proofs.Fine.Together.{Together}

-- what two sets of rules allow together, in contexts that stand for one place
pub record BothAllow (CA CB CC : Type 0) (A : Allowed CA) (B : Allowed CB) (C : Allowed CC) (Near : CA → CB → CC → Type 0) : Type 0 where
  pub caught : {a : CA} {b : CB} {c : CC} → Near a b c → Near (A.caught a) (B.caught b) (C.caught c)
  pub reads : {a : CA} {b : CB} {c : CC} → Near a b c → (r : Ref) → A.reads a r → B.reads b r → C.reads c r
  pub writes : {a : CA} {b : CB} {c : CC} → Near a b c → (r : Ref) → A.writes a r → B.writes b r → C.writes c r
  pub binds : {a : CA} {b : CB} {c : CC} → Near a b c → (r : Ref) (f : ℕ) → A.binds a r f → B.binds b r f → C.binds c r f
  pub sets : {a : CA} {b : CB} {c : CC} → Near a b c → (r : Ref) (v : Option Expr) → A.sets a r v → B.sets b r v → C.sets c r v
  pub this_here : {a : CA} {b : CB} {c : CC} → Near a b c → A.this_here a → B.this_here b → C.this_here c
  pub makes : {a : CA} {b : CB} {c : CC} → Near a b c → (f : ℕ) → A.makes a f → B.makes b f → C.makes c f
  pub stands : {a : CA} {b : CB} {c : CC} → Near a b c → (ls : List (List ℕ)) (s : Stmt) → A.stands a ls s → B.stands b ls s → C.stands c ls s

module _ (CA CB CC : Type 0) (A : Allowed CA) (B : Allowed CB) (C : Allowed CC) (Near : CA → CB → CC → Type 0) (T : BothAllow CA CB CC A B C Near) where
  abbrev One : (is_first : Bool) → Type 0
  One true = CA
  One false = CB

  abbrev rules : (is_first : Bool) → Allowed (One is_first)
  rules true = A
  rules false = B

  abbrev At : F.Each Bool One rules CC C → CC → Type 0
  At cs c = Near (cs true) (cs false) c

  together : Together Bool One rules CC C At
  together = record {
    caught = λ cs c n. T.caught n;
    reads = λ cs c n r h. T.reads n r (h true) (h false);
    writes = λ cs c n r h. T.writes n r (h true) (h false);
    binds = λ cs c n r f h. T.binds n r f (h true) (h false);
    sets = λ cs c n r v h. T.sets n r v (h true) (h false);
    this_here = λ cs c n h. T.this_here n (h true) (h false);
    makes = λ cs c n f h. T.makes n f (h true) (h false);
    stands = λ cs c n ls s h. T.stands n ls s (h true) (h false);
  }

  pub stmts_both : {a : CA} {b : CB} {c : CC} → Near a b c → (ls : List (List ℕ)) (ss : Stmts) → FineStmts CA A a ls ss → FineStmts CB B b ls ss → FineStmts CC C c ls ss
  stmts_both {a = a} {b = b} {c = c} n ls ss x y = F.stmts_together Bool One rules CC C At together (elim [ true ↦ a | false ↦ b ]) c n ls ss (elim [ true ↦ x | false ↦ y ])

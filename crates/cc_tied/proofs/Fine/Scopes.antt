-- The statements of each scope are fine for what the scope's parts say.
use Rattle.std.proofs.Common.{ℕ, suc, Bool, ◌⊎◌, inl, inr, List, [], refl}
use Rattle.cc_ast.specs.Syntax.{Program}
use Rattle.cc_meaning.specs.Shapes.{tables_of, body_of}
use Rattle.cc_meaning.specs.Alike.{In}
use Rattle.cc_meaning.specs.Parts.{Part, mentions, declares, makes}
use Rattle.cc_meaning.specs.WellMade.{parts_of}
use Rattle.cc_tied.specs.Fine.{Allowed, FineStmts}
use Rattle.cc_tied.proofs.Fine.Parts.{PartsAllow, fine_stmts}

-- what these parts say, where so many catch clauses are open
abbrev pub by_parts : List Part → Allowed ℕ
by_parts xs = record {
  caught = λ k. suc k;
  reads = λ k r. In (mentions k r) xs;
  writes = λ k r. In (mentions k r) xs ⊎ In (declares k r) xs;
  binds = λ k r f. In (declares k r) xs;
  sets = λ k r v. In (declares k r) xs;
  this_here = λ k. Unit {0};
  makes = λ k f. (d : Bool) × In (makes k f d) xs;
  stands = λ k ls s. Unit {0};
}

parts_say : (xs : List Part) → PartsAllow ℕ (by_parts xs) (λ k. k) (λ x. In x xs)
parts_say xs = record {
  caught = λ k. refl;
  reads = λ k r i. i;
  writes = λ k r i. inl i;
  declared = λ k r i. inr i;
  bound = λ k r f i. i;
  set = λ k r o i. i;
  receivers = λ k. tt;
  made = λ k f d i. (d, i);
  stands = λ k ls s. tt;
}

pub fine_by_parts : (P : Program) (f : ℕ) → FineStmts ℕ (by_parts (parts_of P f)) 0 [] (body_of P f)
unfolding parts_of
fine_by_parts P f = fine_stmts ℕ (by_parts (parts_of P f)) (λ k. k) (λ x. In x (parts_of P f)) (parts_say (parts_of P f)) (tables_of P) 0 [] (body_of P f) (λ x i. i)

-- What is derived is read, to a depth and with turns that are enough; and so a list of symbols has one tree.
use Rattle.std.specs.Prelude.{◌≡◌, ℕ, zero, suc, ◌<◌, ◌≤◌, max, List, [], Ok}
use Rattle.std.proofs.Common.{refl, sym, ap, arith, ◌∙◌}
use Rattle.cc_grammar.specs.Symbols.{Symbols}
use Rattle.cc_grammar.specs.RawTree.{RawStmt}
use Rattle.cc_grammar.specs.Grammar.{of_program}
use Rattle.cc_grammar.specs.Fronts.{Derives}
use Rattle.cc_grammar.specs.Reading.{Outcome, Sized, ends_list, read_symbols}
use Rattle.cc_grammar.specs.Reading as r
use Rattle.cc_grammar.proofs.Shrinks.{reals}
use Rattle.cc_grammar.proofs.Steps.{step, table_at, taken_end}
use Rattle.cc_grammar.proofs.Completeness.CompleteLists.{Reads, CompleteInner, statements_read}
use Rattle.cc_grammar.proofs.Completeness.CompleteOperands.{callee_read}
use Rattle.cc_grammar.proofs.Completeness.CompleteExpressions.{expr_read}
use Rattle.cc_grammar.proofs.Completeness.CompleteStatements.{stmt_read}
use Rattle.cc_grammar.proofs.OnSymbols as s

none_within : (n : ℕ) → CompleteInner 0 n s.no_depth
none_within n = record {
  expr = λ b l h ln ll ne lt x q. absurd (omega arith);
  callee = λ b l h ln ll lt x f q. absurd (omega arith);
  stmt = λ c h ln lt x. absurd (omega arith);
}

pub inner_complete : (n d : ℕ) → CompleteInner (suc d) n (s.reader n d)
unfolding r.reader
inner_complete n zero = record {
  expr = λ b l h ln ll ne lt x q. expr_read 0 n s.no_depth (none_within n) b l h ln ll ne (omega arith) x q;
  callee = λ b l h ln ll lt x f q. callee_read 0 n s.no_depth (none_within n) b l h ln ll (omega arith) x f q;
  stmt = λ c h ln lt x. stmt_read 0 n s.no_depth (none_within n) c h ln (omega arith) x;
}
inner_complete n (suc d) = record {
  expr = λ b l h ln ll ne lt x q. expr_read (suc d) n (s.reader n d) (inner_complete n d) b l h ln ll ne (omega arith) x q;
  callee = λ b l h ln ll lt x f q. callee_read (suc d) n (s.reader n d) (inner_complete n d) b l h ln ll (omega arith) x f q;
  stmt = λ c h ln lt x. stmt_read (suc d) n (s.reader n d) (inner_complete n d) c h ln (omega arith) x;
}

-- A program that is derived within the depth is read.
pub program_read : (n d h : ℕ) {xs : Symbols} {b : List RawStmt} → reals xs < n → h ≤ d → Derives h xs b → Reads h (read_symbols n d xs) b []
unfolding r.read_symbols r.program
program_read n d h ln le x =
    let p = statements_read (suc d) n (s.reader n d) (inner_complete n d) of_program ln (omega arith) x.body (table_at ends_list x.ends) in
    record { height = p.height; low = p.low; is = step _ p.is (step _ (taken_end x.ends) refl) }

same_answer : {a b : List RawStmt} {i j : ℕ} {xs ys : Symbols} {o : Outcome Symbols (Sized (List RawStmt))} → o ≡ Ok ((a, i), xs) → o ≡ Ok ((b, j), ys) → a ≡ b
same_answer {a} {b} {i} {j} {xs} {ys} e f =
    let both : ◌≡◌ {A = Outcome Symbols (Sized (List RawStmt))} (Ok ((a, i), xs)) (Ok ((b, j), ys)) = sym e ∙ f in
    let pairs : ◌≡◌ {A = Sized (List RawStmt) × Symbols} ((a, i), xs) ((b, j), ys) = cc in
    ap (λ (p : Sized (List RawStmt) × Symbols). p.0.0) pairs

-- Two derivations of one list of symbols have the same tree.
pub one_tree : {h i : ℕ} {xs : Symbols} {a b : List RawStmt} → Derives h xs a → Derives i xs b → a ≡ b
one_tree {h} {i} {xs} x y =
    let p = program_read (suc (reals xs)) (max h i) h (omega arith) (omega arith) x in
    let q = program_read (suc (reals xs)) (max h i) i (omega arith) (omega arith) y in
    same_answer p.is q.is

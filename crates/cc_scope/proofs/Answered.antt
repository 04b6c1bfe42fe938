-- What is written with names and read again is answered, and is alike to what was written.
use Rattle.std.proofs.Common.{◌≡◌, refl, sym, ap, ◌∙◌, subst, arith, ℕ, suc, ◌+◌, ◌<◌, ◌≤◌, Bool, true, false, ◌||◌, nat_lt, List, [], ◌∷◌, ◌++◌, length, Option, Some, None}
use Rattle.std.specs.Prelude.{slice_get}
use Rattle.std.proofs.lemmas.Bool.Decides.{nat_tests}
use Rattle.cc_ast.specs.declared.tree.Ref.{Ref}
use Rattle.cc_ast.specs.Syntax.{Scope, Program}
use Rattle.cc_meaning.specs.Operators.{is_in}
use Rattle.cc_meaning.specs.Names.{builtin_globals}
use Rattle.cc_meaning.specs.Monad.{pick}
use Rattle.cc_meaning.specs.Store.{Global, extern, built_in, of_chunk, outer_global, global_kind}
use Rattle.cc_meaning.specs.Shapes.{tables_of, body_of, body_in}
use Rattle.cc_meaning.specs.WellMade.{opened, stmts_well}
use Rattle.cc_meaning.specs.Alike.{In}
use Rattle.cc_grammar.specs.RawTree.{RawStmts}
use Rattle.cc_scope.specs.Resolve.{Outer, Source, outer_of, global_named, program_of}
use Rattle.cc_scope.specs.Refusals.{global_of, all_refused, refusals_of, answered, resolve}
use Rattle.cc_scope.specs.Written.{Naming, Apart, stmts_in, ChunksN}
use Rattle.cc_scope.specs.Written as n
use Rattle.cc_scope.specs.Promises.{declared_from, Outside, Meant, HasStatements}
use Rattle.cc_scope.proofs.Globals.{not_in, meaning, cases, Case, outer_case, inner_case, above_number, all_are, covered}
use Rattle.cc_scope.proofs.Declared.{in_left, in_right}
use Rattle.cc_scope.proofs.Counts.{exact}
use Rattle.cc_scope.proofs.Accepted.{SameSort, same_extern, same_built, same_chunk, no_caught, stmts}

pub sort_self : (g : Global) → SameSort g g
sort_self extern = same_extern
sort_self (built_in b) = same_built b
sort_self (of_chunk c) = same_chunk c c

pub first : (W : Outer) (j : ℕ) → j < length W.externs + 3 → global_of W j ≡ outer_global (length W.externs) j
unfolding global_of
first W j h = by (nat_lt j (length W.externs + 3)) refl where
  by : (b : Bool) → nat_lt j (length W.externs + 3) ≡ b → pick b (outer_global (length W.externs) j) (of_chunk 0) ≡ outer_global (length W.externs) j
  by true e = refl
  by false e = absurd (grind (arith, nat_tests))

pub later_chunk : (W : Outer) (j : ℕ) → length W.externs + 3 ≤ j → global_of W j ≡ of_chunk 0
unfolding global_of
later_chunk W j h = by (nat_lt j (length W.externs + 3)) refl where
  by : (b : Bool) → nat_lt j (length W.externs + 3) ≡ b → pick b (outer_global (length W.externs) j) (of_chunk 0) ≡ of_chunk 0
  by true e = absurd (grind (arith, nat_tests))
  by false e = refl

module _ (v : Naming) (apart : Apart v) (P : Program) (S : Source) (same : length S.trees ≡ length P.chunks) (O : Outside v P S (declared_from P 0 (length S.trees)))
    (w : ChunksN v P (Meant v S (declared_from P 0 (length S.trees))) 0 S.trees) (well : HasStatements P) where
  abbrev ds : List ℕ
  ds = declared_from P 0 (length S.trees)

  abbrev K : ℕ → Type 0
  K = Meant v S ds

  sorts : (i : ℕ) → Meant v S ds i → (j : ℕ) × (global_named (outer_of S) (v.global i) ≡ Some (Ref.Global j)) × SameSort (global_kind (tables_of P) i) (global_of (outer_of S) j)
  unfolding outer_of
  sorts i k = let d = meaning v P S ds O (all_are v P (Meant v S ds) 0 S.trees w) i k in (d.0, d.1, by d.0 (cases v P S ds O (all_are v P (Meant v S ds) 0 S.trees w) i d.0 d.2)) where
    by : (j : ℕ) → Case v P S ds O (all_are v P (Meant v S ds) 0 S.trees w) i j → SameSort (global_kind (tables_of P) i) (global_of (outer_of S) j)
    by j (outer_case a e) = subst (λ g. SameSort g (global_of (outer_of S) j)) (sym (O.outer_kind i a)) (subst (λ h. SameSort (outer_global (length S.externs) i) h) (sym (first (outer_of S) j (subst (λ m. m < length S.externs + 3) e a) ∙ ap (outer_global (length S.externs)) (sym e))) (sort_self _))
    by j (inner_case a e) = let l = O.least i a in subst (λ g. SameSort g (global_of (outer_of S) j)) (sym l.1) (subst (λ h. SameSort (of_chunk l.0) h) (sym (later_chunk (outer_of S) j (subst (λ m. length S.externs + 3 ≤ m) (sym e) (above_number v P S ds O (all_are v P (Meant v S ds) 0 S.trees w) i)))) (same_chunk l.0 0))

  apart_from : (i : ℕ) → In i ds → is_in (v.global i) (outer_of S).externs || is_in (v.global i) builtin_globals ≡ false
  unfolding outer_of
  apart_from i h = rw (not_in (v.global i) S.externs (λ j. O.apart i h (in_left S.externs builtin_globals j))) (not_in (v.global i) builtin_globals (λ j. O.apart i h (in_right S.externs builtin_globals j)))

  -- the statements of each chunk are of the language
  chunk_well : (c : ℕ) → stmts_well (tables_of P) (opened P c) [] (body_of P c) ≡ true
  unfolding body_of body_in stmts_well
  chunk_well c = by (slice_get P.scopes c) refl where
    by : (o : Option Scope) → slice_get P.scopes c ≡ o → stmts_well (tables_of P) (opened P c) [] (body_in o) ≡ true
    by None e = refl
    by (Some s) e = well c s e

  all : (c : ℕ) (ts : List RawStmts) → c + length ts ≤ length S.trees → ChunksN v P K c ts → all_refused (outer_of S) ts ≡ []
  unfolding all_refused
  all c [] l n.no_chunks_n = refl
  all c (t ∷ ts) l (n.more_chunks_n h j) =
      ap (λ xs. xs ++ all_refused (outer_of S) ts) (stmts v apart P (outer_of S) K (λ i. In i ds) sorts apart_from well _ _ no_caught (λ i x. covered P 0 (length S.trees) c i (omega arith) (omega arith) x) h (chunk_well c))
      ∙ all (suc c) ts (omega arith) j

  pub accepted : refusals_of S ≡ []
  unfolding refusals_of
  accepted = all 0 S.trees (omega arith) w

  pub is_answered : resolve S ≡ answered (program_of S)
  is_answered = (exact S (program_of S)).1 (accepted, refl)

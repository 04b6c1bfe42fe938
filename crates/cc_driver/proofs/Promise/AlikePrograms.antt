-- The program that is read again is alike to the source.
use Rattle.std.proofs.Common.{◌≡◌, ℕ, zero, suc, List, [], ◌∷◌, ◌++◌, length, map, refl, sym, ap, ap₂, ◌∙◌, Some, slice_get}
use Rattle.std.proofs.lemmas.List.{map-append}
use Rattle.cc_ast.specs.StmtBridge.{stmts}
use Rattle.cc_ast.specs.Syntax as S
use Rattle.cc_meaning.specs.Shapes.{tables_of, body_of, body_in}
use Rattle.cc_meaning.specs.Script.{graph_of}
use Rattle.cc_meaning.specs.Store.{global_kind}
use Rattle.cc_meaning.specs.Alike.{In, here, there, Paired, StmtsA, GlobalA, Alike}
use Rattle.cc_driver.specs.Names.{built_in_names}
use Rattle.cc_driver.specs.Form.{IsExterns, declared}
use Rattle.cc_driver.specs.Sound.{AreSound}
use Rattle.cc_driver.specs.Source.{number_of, statement_tree, program_of, global_names}
use Rattle.cc_driver.specs.Naming.{IsNaming}
use Rattle.cc_driver.specs.declared.form.Statement.{Statement}
use Rattle.cc_driver.specs.declared.spelling.Piece.{Piece}
use Rattle.cc_driver.specs.Again.{statements_again}
use Rattle.cc_driver.proofs.Promise.Lists.{in_left, in_right}
use Rattle.cc_driver.proofs.Promise.Numbers.{number_again, number_within}
use Rattle.cc_driver.proofs.Promise.SourceNames.{outer_stays, names_apart}
use Rattle.cc_driver.proofs.Promise.Fit.{sound_fits}
use Rattle.cc_driver.proofs.Promise.FormAgain.{declared_again}
use Rattle.cc_driver.proofs.Promise.ReadAgain.{renaming, names_distinct}
use Rattle.cc_driver.proofs.Promise.GlobalKinds.{same_kind, chunks_again}
use Rattle.cc_driver.proofs.Promise.AlikeAgain.{pairs, pairs_once, paired_same, by_number, statements_alike}

-- names that each stay
all_stay : (f : List ℕ → List ℕ) (xs : List (List ℕ)) → ((x : List ℕ) → In x xs → f x ≡ x) → map f xs ≡ xs
all_stay f [] h = refl
all_stay f (x ∷ xs) h = ap₂ (λ a b. a ∷ b) (h x here) (all_stay f xs (λ y k. h y (there k)))

module _ (file : List ℕ) (externs : List (List ℕ)) (ss : List Statement) (ex : IsExterns file externs) (so : AreSound externs ss)
    (size : ℕ) (pieces : List Piece) (names : List (List ℕ)) (n : IsNaming (program_of externs size ss) pieces names) (length_again : ℕ) where
  abbrev f : List ℕ → List ℕ
  f = renaming file externs ss ex so size pieces names n

  abbrev source_program : S.Program
  source_program = program_of externs size ss

  abbrev pub program_again : S.Program
  program_again = program_of externs length_again (statements_again f 0 ss)

  new_names : global_names externs (statements_again f 0 ss) ≡ map f (global_names externs ss)
  new_names =
      ap (λ t. (externs ++ built_in_names) ++ t) (declared_again f 0 ss)
      ∙ ap (λ t. t ++ map f (declared ss)) (sym (all_stay f (externs ++ built_in_names) (λ x h. outer_stays externs size ss pieces names (names_distinct file externs ss ex so size pieces names n) n x h)))
      ∙ sym (map-append f (externs ++ built_in_names) (declared ss))

  pub same_number : (x : List ℕ) → In x (global_names externs ss) → number_of (global_names externs (statements_again f 0 ss)) (f x) ≡ number_of (global_names externs ss) x
  same_number x h =
      ap (λ t. number_of t (f x)) new_names
      ∙ number_again f (global_names externs ss) x (λ y k e. names_apart externs size ss pieces names (names_distinct file externs ss ex so size pieces names n) n x y h k e)

  bodies_alike : StmtsA (tables_of source_program) (tables_of program_again) (by_number (length (global_names externs ss))) [] (stmts (map (statement_tree (global_names externs ss)) ss))
      (stmts (map (statement_tree (global_names externs (statements_again f 0 ss))) (statements_again f 0 ss)))
  bodies_alike =
      statements_alike (tables_of source_program) (tables_of program_again) (global_names externs ss) (global_names externs (statements_again f 0 ss)) f
      (λ x. In x externs) (λ x. In x (declared ss)) (λ x h. in_left (declared ss) (in_left built_in_names h)) (λ x h. in_right (externs ++ built_in_names) h)
      same_number (number_within (global_names externs ss)) 0 ss (sound_fits externs ss so)

  kinds : (k : ℕ) → global_kind (tables_of source_program) k ≡ global_kind (tables_of program_again) k
  unfolding tables_of
  kinds k = same_kind (tables_of source_program) (tables_of program_again) (chunks_again f (externs ++ built_in_names) (declared ss) (declared (statements_again f 0 ss)) (declared_again f 0 ss)) k

  global_alike : (m k : ℕ) → Paired (pairs (length (global_names externs ss))) m k → GlobalA (tables_of source_program) (tables_of program_again) m k
  global_alike m k h =
      let same : m ≡ k = paired_same (length (global_names externs ss)) m k h in
      record { kind = kinds m ∙ ap (global_kind (tables_of program_again)) same; outer = λ e. same }

  chunks_alike : (c : ℕ) (deps : List ℕ) → slice_get (graph_of source_program) c ≡ Some deps
      → StmtsA (tables_of source_program) (tables_of program_again) (by_number (length (global_names externs ss))) [] (body_of source_program c) (body_of program_again c)
  unfolding graph_of body_of body_in
  chunks_alike zero deps e = bodies_alike
  chunks_alike (suc c) deps e = absurd (cc)

  pub alike_again : Alike source_program program_again
  unfolding graph_of
  alike_again = record {
    N = by_number (length (global_names externs ss));
    graph = refl;
    globals_once = pairs_once (length (global_names externs ss));
    places_once = λ p. record { left = λ m k k' h g. elim h [ ]; right = λ m m' k h g. elim h [ ] };
    globals = global_alike;
    own = λ f g h. elim h [ ];
    fits = λ f g h. elim h [ ];
    functions = λ f g h. elim h [ ];
    chunks = chunks_alike;
  }

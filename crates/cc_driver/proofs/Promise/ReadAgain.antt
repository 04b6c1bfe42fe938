-- The text that is written for a source is read again with the same externs.
use Rattle.std.proofs.Common.{◌≡◌, ℕ, List, ◌++◌, map, sym, ◌∙◌, subst, Some, All, Contains}
use Rattle.cc_meaning.specs.Alike.{In}
use Rattle.cc_driver.specs.Names.{IsName, built_in_names}
use Rattle.cc_driver.specs.Form.{IsExterns, IsReading, declared, called, used}
use Rattle.cc_driver.specs.Source.{program_of, global_names}
use Rattle.cc_driver.specs.Spelling.{spell_chunk, text_of}
use Rattle.cc_driver.specs.Naming.{IsNaming}
use Rattle.cc_driver.specs.declared.form.Statement.{Statement}
use Rattle.cc_driver.specs.declared.spelling.Piece.{Piece}
use Rattle.cc_driver.proofs.SourceLaws.{functions_named, sound_distinct}
use Rattle.cc_driver.specs.Again.{new_name, statements_text, statements_again}
use Rattle.cc_driver.proofs.Promise.Lists.{Distinct, in_left, in_right, in_map, in_mapped, in_from_contains, contains_from_in, all_at, all_from, distinct_map}
use Rattle.cc_driver.proofs.Promise.SourceNames.{outer_stays, own_valid, own_new, names_apart}
use Rattle.cc_driver.specs.Sound.{StatementsFit, AreSound}
use Rattle.cc_driver.proofs.Promise.Fit.{sound_fits}
use Rattle.cc_driver.proofs.Promise.FormAgain.{statements_read, declared_again, called_again, used_again}
use Rattle.cc_driver.proofs.Promise.Text.{spelled_text}

module _ (file : List ℕ) (externs : List (List ℕ)) (ss : List Statement) (ex : IsExterns file externs) (so : AreSound externs ss)
    (size : ℕ) (pieces : List Piece) (names : List (List ℕ)) (n : IsNaming (program_of externs size ss) pieces names) where
  abbrev pub renaming : List ℕ → List ℕ
  renaming = new_name (global_names externs ss) names

  pub names_distinct : Distinct (global_names externs ss)
  names_distinct = sound_distinct file externs ss ex so

  pub extern_stays : (x : List ℕ) → In x externs → renaming x ≡ x
  extern_stays x h = outer_stays externs size ss pieces names names_distinct n x (in_left built_in_names h)

  extern_named : (x : List ℕ) → In x externs → IsName (renaming x)
  extern_named x h = subst IsName (sym (extern_stays x h)) (all_at IsName h (functions_named file externs ex.form))

  fits : StatementsFit (λ x. In x externs) (λ x. In x (declared ss)) ss
  fits = sound_fits externs ss so

  called_extern : (y : List ℕ) → In y (map renaming (called ss)) → Contains externs y
  called_extern y h =
      let c = in_mapped renaming (called ss) h in
      let k : Contains externs c.of = all_at (Contains externs) c.stands so.called_are_externs in
      subst (Contains externs) (sym (extern_stays c.of (in_from_contains externs c.of k)) ∙ c.is) k

  used_declared : (y : List ℕ) → In y (map renaming (used ss)) → Contains (map renaming (declared ss)) y
  used_declared y h =
      let c = in_mapped renaming (used ss) h in
      let k : Contains (declared ss) c.of = all_at (Contains (declared ss)) c.stands so.used_are_declared in
      subst (Contains (map renaming (declared ss))) c.is (contains_from_in (in_map renaming (in_from_contains (declared ss) c.of k)))

  new_once : Distinct (map renaming (declared ss))
  new_once = distinct_map renaming (declared ss) (λ x y h k e. names_apart externs size ss pieces names names_distinct n x y (in_right (externs ++ built_in_names) h) (in_right (externs ++ built_in_names) k) e) so.declared_once

  new_new : (y : List ℕ) → In y (map renaming (declared ss)) → Contains externs y → ⊥
  new_new y h k =
      let c = in_mapped renaming (declared ss) h in
      own_new externs size ss pieces names names_distinct n c.of c.stands (subst (λ z. In z (externs ++ built_in_names)) (sym c.is) (in_left built_in_names (in_from_contains externs y k)))

  pub text_again : IsReading externs (statements_text renaming ss) (statements_again renaming 0 ss)
  text_again = record {
    form = statements_read renaming (λ x. In x externs) (λ x. In x (declared ss)) extern_named (λ x h. own_valid externs size ss pieces names names_distinct n x h) 0 ss fits;
    called_are_externs = subst (λ t. All (Contains externs) t) (sym (called_again renaming 0 ss)) (all_from (Contains externs) (map renaming (called ss)) called_extern);
    used_are_declared = subst (λ t. All (Contains (declared (statements_again renaming 0 ss))) t) (sym (used_again renaming 0 ss))
        (subst (λ d. All (Contains d) (map renaming (used ss))) (sym (declared_again renaming 0 ss)) (all_from (Contains (map renaming (declared ss))) (map renaming (used ss)) used_declared));
    declared_once = subst Distinct (sym (declared_again renaming 0 ss)) new_once;
    declared_are_new = subst (λ t. All (λ name. Contains externs name → ⊥) t) (sym (declared_again renaming 0 ss)) (all_from (λ name. Contains externs name → ⊥) (map renaming (declared ss)) new_new);
  }

  -- what is written is such a text
  pub written_text : spell_chunk (program_of externs size ss) 0 ≡ Some pieces → text_of names pieces ≡ statements_text renaming ss
  written_text e = spelled_text externs size ss names pieces (λ x. In x externs) (λ x. In x (declared ss)) fits e

  pub written_reads : spell_chunk (program_of externs size ss) 0 ≡ Some pieces → IsReading externs (text_of names pieces) (statements_again renaming 0 ss)
  written_reads e = subst (λ t. IsReading externs t (statements_again renaming 0 ss)) (sym (written_text e)) text_again

-- The words that are passed over, put together.
use Rattle.std.proofs.Common.{◌≡◌, ℕ, ◌||◌, List, [], ◌++◌, sym, ap, ◌∙◌, Vec}
use Rattle.std.proofs.lemmas.List.Folds.{list_any-append}
use Rattle.std.specs.Str.{bytes_eq}
use Rattle.cc_ast.specs.declared.tables.GlobalInfo.{GlobalInfo}
use Rattle.cc_driver.specs.Names.{is_in, reserved_words, strict_words, special_names}
use Rattle.cc_driver.specs.Naming.{other_names}
use Rattle.cc_driver.specs.NamingSteps.{has_name}

pub passed_made : {A : Type 0} (name : List ℕ) (globals : List GlobalInfo) (none words all : List (Vec ℕ A)) (listed : List (List ℕ)) → none ≡ []
    → has_name words name ≡ (has_name none name || is_in name listed) → has_name all name ≡ (has_name words name || is_in name (other_names globals))
    → listed ≡ reserved_words ++ strict_words ++ special_names
    → has_name all name ≡ is_in name (reserved_words ++ strict_words ++ special_names ++ other_names globals)
passed_made name globals none words all listed e f g same =
    g ∙ ap (λ b. b || is_in name (other_names globals)) (f ∙ ap (λ keys. has_name keys name || is_in name listed) e ∙ ap (is_in name) same)
    ∙ sym (list_any-append (bytes_eq name) (reserved_words ++ strict_words ++ special_names) (other_names globals))

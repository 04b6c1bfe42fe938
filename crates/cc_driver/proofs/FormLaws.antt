-- What the form says of a text is what is read of it.
use Rattle.std.proofs.Common.{◌≡◌, ℕ, suc, ◌<◌, List, [], length, Some, subst, sym, ◌∙◌, arith}
use Rattle.cc_driver.specs.Form.{IsStatements, IsFunctions}
use Rattle.cc_driver.specs.declared.form.Statement.{Statement}
use Rattle.cc_driver.specs.FormReading.{read_statements, read_functions}
use Rattle.cc_driver.proofs.Runs.{same_some}
use Rattle.cc_driver.proofs.FormSound.{statements_sound, functions_sound}
use Rattle.cc_driver.proofs.FormComplete.{statements_complete, functions_complete}

pub statements_are : (text : List ℕ) (ss : List Statement) → read_statements (suc (length text)) [] 0 text ≡ Some ss → IsStatements 0 text ss
statements_are text ss e = let r = statements_sound (suc (length text)) [] 0 text ss e in subst (IsStatements 0 text) (sym r.statements) r.is

pub statements_read : (text : List ℕ) (ss : List Statement) → IsStatements 0 text ss → read_statements (suc (length text)) [] 0 text ≡ Some ss
statements_read text ss h = let fits : length text < suc (length text) = omega arith in statements_complete (suc (length text)) [] 0 text ss h fits

pub functions_are : (text : List ℕ) (names : List (List ℕ)) → read_functions (suc (length text)) [] 0 text ≡ Some names → IsFunctions text names
functions_are text names e = let r = functions_sound (suc (length text)) [] 0 text names e in subst (IsFunctions text) (sym r.functions) r.is

pub functions_read : (text : List ℕ) (names : List (List ℕ)) → IsFunctions text names → read_functions (suc (length text)) [] 0 text ≡ Some names
functions_read text names h = let fits : length text < suc (length text) = omega arith in functions_complete (suc (length text)) [] 0 text names h fits

-- a text is of the form in one way alone
pub one_reading : (text : List ℕ) (ss ts : List Statement) → IsStatements 0 text ss → IsStatements 0 text ts → ss ≡ ts
one_reading text ss ts h k = same_some (sym (statements_read text ss h) ∙ statements_read text ts k)

pub one_list : (text : List ℕ) (ns ms : List (List ℕ)) → IsFunctions text ns → IsFunctions text ms → ns ≡ ms
one_list text ns ms h k = same_some (sym (functions_read text ns h) ∙ functions_read text ms k)

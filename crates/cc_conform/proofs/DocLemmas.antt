-- The docs of functions and variables.
use Rattle.std.proofs.Common.{◌≡◌, ◌∙◌, ℕ, Option, Some, None, slice_get, ap}
use Rattle.std.specs.Option.{option_map}
use Rattle.std.proofs.lemmas.Option.{slice_get-map}
use Rattle.cc_ast.specs.Syntax.{Scope, Program}
use Rattle.cc_meaning.specs.State.{Head}
use Rattle.cc_meaning.specs.Shapes.{head_of, tables_of}
use Rattle.cc_meaning.specs.Typed.{function_doc, doc_at, head_doc, head_params}

head-Some : (P : Program) (f : ℕ) (s : Scope) → slice_get P.scopes f ≡ Some s → slice_get (tables_of P).heads f ≡ Some (head_of s)
unfolding tables_of
head-Some P f s e = slice_get-map head_of P.scopes f ∙ ap (option_map head_of) e

head-None : (P : Program) (f : ℕ) → slice_get P.scopes f ≡ None → slice_get (tables_of P).heads f ≡ None
unfolding tables_of
head-None P f e = slice_get-map head_of P.scopes f ∙ ap (option_map head_of) e

pub function_doc-Some : (P : Program) (f : ℕ) (s : Scope) → slice_get P.scopes f ≡ Some s → function_doc (tables_of P) f ≡ doc_at (tables_of P) (Some s.doc)
unfolding function_doc head_of
function_doc-Some P f s e = ap (λ (h : Option Head). doc_at (tables_of P) (head_doc h)) (head-Some P f s e)

pub function_doc-None : (P : Program) (f : ℕ) → slice_get P.scopes f ≡ None → function_doc (tables_of P) f ≡ None
unfolding function_doc
function_doc-None P f e = ap (λ (h : Option Head). doc_at (tables_of P) (head_doc h)) (head-None P f e)

pub params-Some : (P : Program) (f : ℕ) (s : Scope) → slice_get P.scopes f ≡ Some s → head_params (slice_get (tables_of P).heads f) ≡ s.params
unfolding head_params head_of
params-Some P f s e = ap head_params (head-Some P f s e)

pub params-None : (P : Program) (f : ℕ) → slice_get P.scopes f ≡ None → head_params (slice_get (tables_of P).heads f) ≡ 0
unfolding head_params
params-None P f e = ap head_params (head-None P f e)

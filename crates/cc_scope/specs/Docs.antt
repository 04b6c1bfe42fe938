-- The docs of a program: entry 0 says nothing, then comes what each comment says by itself, in order, and
-- then what is said of each function that a comment is on, or on a parameter or variable of it, in the
-- order of the functions.
use Rattle.std.specs.Prelude.{ℕ, suc, ◌-◌, Bool, false, nat_lt, List, [], ◌∷◌, ◌++◌, map, length, slice_get, Option, Some, None, is_some}
use Rattle.std.specs.Option.{option_and_then}
use Rattle.cc_ast.specs.declared.tables.SiteDoc.{SiteDoc}
use Rattle.cc_ast.specs.declared.tables.FlatPath.{FlatPath}
use Rattle.cc_jsdoc.specs.declared.doc.Doc.{Doc}
use Rattle.cc_jsdoc.specs.declared.doc.Param.{Param}
use Rattle.cc_jsdoc.specs.declared.types.TypeExpr.{TypeExpr}
use Rattle.cc_meaning.specs.Operators.{list_eq}
use Rattle.cc_meaning.specs.State.{Path}
use Rattle.cc_meaning.specs.Monad.{pick}
use Rattle.cc_grammar.specs.RawTree.{Named}
use Rattle.cc_scope.specs.Lists.{Name, or_zero, or_else}
use Rattle.cc_scope.specs.Resolve.{locals, says_nothing}
use Rattle.cc_scope.specs.Annotations.{value_said, Comment, doc_number, said_at, last_from, Declaration, stmts_at, places_of}
use Rattle.cc_scope.specs.Functions.{Function}
use Rattle.cc_scope.specs.Types.{Meanings, type_in}
use Rattle.cc_scope.specs.Paths.{flat_paths}
use Rattle.cc_scope.specs.Named.{path_places}
use Rattle.cc_scope.specs.Classes.{Annotated, may_hold}

-- ---- what a comment says

unfoldable pub doc_said : Meanings → Doc → SiteDoc
unfolding type_in value_said
doc_said M d = record {
  params = [];
  result = type_in M d.result;
  value = type_in M (value_said d);
  receiver = type_in M d.receiver;
  vars = [];
  constant = d.constant;
  define = d.define;
  nocollapse = d.nocollapse;
  export = d.export;
}

-- ---- what is said of a function

unfoldable pub doc_or_nothing : Meanings → Option Doc → SiteDoc
unfolding doc_said
doc_or_nothing M None = says_nothing
doc_or_nothing M (Some d) = doc_said M d

unfoldable pub param_named : Name → List Param → Option TypeExpr
unfolding list_eq
param_named n [] = None
param_named n (p ∷ ps) = pick (list_eq n p.name) (Some p.expr) (param_named n ps)

unfoldable pub params_said : Option Doc → List Param
params_said None = []
params_said (Some d) = d.params

-- a comment before a parameter comes before `@param`
unfoldable pub param_said : List Comment → List Param → Named → Option TypeExpr
unfolding or_else value_said said_at param_named
param_said cs ps v = or_else (option_and_then value_said (said_at (v.place ∷ []) cs)) (param_named v.name ps)

unfoldable pub variable_docs : List Comment → List Declaration → List Name → List ℕ
unfolding doc_number places_of
variable_docs cs ds [] = []
variable_docs cs ds (x ∷ xs) = doc_number (places_of x ds) cs ∷ variable_docs cs ds xs

-- What its comment says, with the types of its parameters, and the docs of its variables in the order
-- of its frame.
unfoldable pub function_doc : Meanings → List Comment → Function → SiteDoc
unfolding doc_or_nothing said_at type_in param_said params_said variable_docs locals stmts_at
function_doc M cs g = record (doc_or_nothing M (said_at g.at cs)) {
  params = map (λ v. type_in M (param_said cs (params_said (said_at g.at cs)) v)) g.params;
  vars = variable_docs cs (stmts_at g.body) (locals g.params g.body);
}

-- a comment is on the function, or on a parameter or variable of it
unfoldable pub is_documented : List Comment → Function → Bool
unfolding last_from stmts_at
is_documented cs g = is_some (last_from 0 (g.at ++ (map (λ v. v.place) g.params ++ map (λ d. d.place) (stmts_at g.body))) cs)

unfoldable pub function_docs : Meanings → List Comment → List Function → List SiteDoc
unfolding is_documented function_doc
function_docs M cs [] = []
function_docs M cs (g ∷ gs) = pick (is_documented cs g) (function_doc M cs g ∷ []) [] ++ function_docs M cs gs

-- ---- the table, and the numbers in it

unfoldable pub docs_of : Meanings → List Comment → List Function → List SiteDoc
unfolding doc_said function_docs
docs_of M cs gs = says_nothing ∷ (map (λ c. doc_said M c.says) cs ++ function_docs M cs gs)

-- the numbers of the functions' docs, counted from k; 0 where a function has none
unfoldable pub function_numbers : ℕ → List Comment → List Function → List ℕ
unfolding is_documented
function_numbers k cs [] = []
function_numbers k cs (g ∷ gs) = pick (is_documented cs g) (k ∷ function_numbers (suc k) cs gs) (0 ∷ function_numbers k cs gs)

-- the doc of the function with this number, behind so many chunks
unfoldable pub function_number : (chunks : ℕ) → List Comment → List Function → ℕ → ℕ
unfolding or_zero function_numbers
function_number chunks cs gs f = pick (nat_lt f chunks) 0 (or_zero (slice_get (function_numbers (suc (length cs)) cs gs) (f - chunks)))

-- ---- the flat paths, with their docs

unfoldable pub says_nocollapse : Option Doc → Bool
says_nocollapse None = false
says_nocollapse (Some d) = d.nocollapse

unfoldable pub is_marked : Annotated → Path → Bool
unfolding says_nocollapse said_at path_places
is_marked A w = says_nocollapse (said_at (path_places A.program A.trees w) A.comments)

-- of global n
unfoldable pub flat_of : Annotated → ℕ → List FlatPath
unfolding flat_paths may_hold is_marked doc_number path_places
flat_of A n = map (λ ps. record { props = ps; doc = doc_number (path_places A.program A.trees (n, ps)) A.comments }) (flat_paths (may_hold A) (is_marked A) A.program n)

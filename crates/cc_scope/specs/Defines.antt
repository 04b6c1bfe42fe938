-- `--define` (Closure Compiler, "@define"): the literal of a variable that is so marked is another one.
use Rattle.std.specs.Prelude.{ℕ, suc, Bool, true, false, ◌&&◌, nat_eq, List, [], ◌∷◌, ◌++◌, slice_get, Option, Some, None}
use Rattle.cc_ast.specs.declared.tree.Ref.{Ref}
use Rattle.cc_ast.specs.declared.tables.ChunkInfo.{ChunkInfo}
use Rattle.cc_ast.specs.declared.tables.GlobalInfo.{GlobalInfo}
use Rattle.cc_ast.specs.declared.tables.SiteDoc.{SiteDoc}
use Rattle.cc_ast.specs.Syntax.{Prim, truth, whole, text, Expr, lit, Declarator, Stmt, vars, Stmts, no_stmts, more_stmts, Scope, Program}
use Rattle.cc_meaning.specs.Operators.{list_eq}
use Rattle.cc_meaning.specs.Monad.{pick}
use Rattle.cc_scope.specs.Lists.{Name}

-- a definition: the name of its variable, and the new value
pub record Define : Type 0 where
  pub name : Name
  pub value : Prim

-- ---- the variables marked `@define`

unfoldable pub is_marked_doc : Option SiteDoc → Bool
is_marked_doc None = false
is_marked_doc (Some d) = d.define

-- the number of the global of the chunks with this name that is marked `@define`
unfoldable pub defined_from : Program → ℕ → Name → List GlobalInfo → Option ℕ
unfolding list_eq is_marked_doc
defined_from P k n [] = None
defined_from P k n (g ∷ gs) = pick (list_eq n g.name && is_marked_doc (slice_get P.docs g.doc)) (Some k) (defined_from P (suc k) n gs)

-- ---- their literals: the value of the one declarator of a chunk's own `var` statements that has one

unfoldable pub is_variable : ℕ → Ref → Bool
is_variable n (Ref.Frame up k) = false
is_variable n (Ref.Global k) = nat_eq k n

unfoldable pub value_of_declarator : ℕ → Declarator → List Expr
unfolding is_variable
value_of_declarator n d = by d.value where
  by : Option Expr → List Expr
  by None = []
  by (Some e) = pick (is_variable n d.variable) (e ∷ []) []

unfoldable pub values_in : ℕ → List Declarator → List Expr
unfolding value_of_declarator
values_in n [] = []
values_in n (d ∷ ds) = value_of_declarator n d ++ values_in n ds

unfoldable pub values_of_stmt : ℕ → Stmt → List Expr
unfolding values_in
values_of_stmt n (vars i ds) = values_in n ds
values_of_stmt n _ = []

unfoldable pub values_of_list : ℕ → Stmts → List Expr
unfolding values_of_stmt
values_of_list n no_stmts = []
values_of_list n (more_stmts s ss) = values_of_stmt n s ++ values_of_list n ss

unfoldable pub values_of_chunks : ℕ → List ChunkInfo → List Scope → List Expr
unfolding values_of_list
values_of_chunks n [] ss = []
values_of_chunks n (c ∷ cs) [] = []
values_of_chunks n (c ∷ cs) (s ∷ ss) = values_of_list n s.body ++ values_of_chunks n cs ss

unfoldable pub only_literal : List Expr → Option Prim
only_literal (lit i x ∷ []) = Some x
only_literal _ = None

-- the literal of a global
unfoldable pub literal_of : Program → ℕ → Option Prim
unfolding only_literal values_of_chunks
literal_of P n = only_literal (values_of_chunks n P.chunks P.scopes)

-- both truth values, both whole numbers, or both texts
unfoldable pub same_kind : Prim → Prim → Bool
same_kind (truth a) (truth b) = true
same_kind (whole a) (whole b) = true
same_kind (text a) (text b) = true
same_kind _ _ = false

unfoldable pub is_kind_of : Prim → Option Prim → Bool
unfolding same_kind
is_kind_of x None = false
is_kind_of x (Some y) = same_kind x y

-- the variable of a definition, whose literal is of the kind of the new value
unfoldable pub defined : Program → Define → Option ℕ
unfolding defined_from literal_of is_kind_of
defined P d = by (defined_from P 0 d.name P.globals) where
  by : Option ℕ → Option ℕ
  by None = None
  by (Some n) = pick (is_kind_of d.value (literal_of P n)) (Some n) None

-- ---- new literals in their places

unfoldable pub literal_to : Prim → Option Expr → Option Expr
literal_to x (Some (lit i y)) = Some (lit i x)
literal_to x e = e

unfoldable pub declarator_to : ℕ → Prim → Declarator → Declarator
unfolding is_variable literal_to
declarator_to n x d = pick (is_variable n d.variable) (record d { value = literal_to x d.value }) d

unfoldable pub declarators_to : ℕ → Prim → List Declarator → List Declarator
unfolding declarator_to
declarators_to n x [] = []
declarators_to n x (d ∷ ds) = declarator_to n x d ∷ declarators_to n x ds

unfoldable pub stmt_to : ℕ → Prim → Stmt → Stmt
unfolding declarators_to
stmt_to n x (vars i ds) = vars i (declarators_to n x ds)
stmt_to n x s = s

unfoldable pub stmts_to : ℕ → Prim → Stmts → Stmts
unfolding stmt_to
stmts_to n x no_stmts = no_stmts
stmts_to n x (more_stmts s ss) = more_stmts (stmt_to n x s) (stmts_to n x ss)

unfoldable pub chunks_to : ℕ → Prim → List ChunkInfo → List Scope → List Scope
unfolding stmts_to
chunks_to n x [] ss = ss
chunks_to n x (c ∷ cs) [] = []
chunks_to n x (c ∷ cs) (s ∷ ss) = record s { body = stmts_to n x s.body } ∷ chunks_to n x cs ss

-- the program in which the literal of global n is x
unfoldable pub with_literal : Program → ℕ → Prim → Program
unfolding chunks_to
with_literal P n x = record P { scopes = chunks_to n x P.chunks P.scopes }

-- ---- all definitions

-- the program, or the number of the first definition that names no variable marked `@define` with a literal
-- of the kind of its value
pub data Defined : Type 0 where
  defining : Program → Defined
  not_defined : ℕ → Defined

unfoldable pub define_by : Option ℕ → ℕ → Program → Prim → (Program → Defined) → Defined
unfolding with_literal
define_by None k P x next = not_defined k
define_by (Some n) k P x next = next (with_literal P n x)

-- each is tested; of several for one name the last counts
unfoldable pub define_from : ℕ → Program → List Define → Defined
unfolding defined define_by
define_from k P [] = defining P
define_from k P (d ∷ ds) = define_by (defined P d) k P d.value (λ Q. define_from (suc k) Q ds)

unfoldable pub define : Program → List Define → Defined
unfolding define_from
define P ds = define_from 0 P ds

-- Paths that may become variables: which globals and paths hold them, and how they are used
-- (Closure Compiler, "Understanding the restrictions imposed by the Closure Compiler", flattening).
use Rattle.std.specs.Prelude.{◌≡◌, ℕ, suc, ◌+◌, Bool, true, false, ◌&&◌, nat_eq, List, [], ◌∷◌, ◌++◌, slice_get, Option, Some, None, is_some, IsTrue, IsFalse}
use Rattle.cc_ast.specs.Syntax.{Expr, lit, var, this, fun, list, object, unary, binary, and, or, cond, assign, step, member, index, call, new, comma, cast, tick, Target, to_var, to_member, to_index, Exprs, no_exprs, more_exprs, Fields, no_fields, more_fields, Declarator, ForInit, no_init, init_value, init_vars, ForTarget, in_target, in_declared, Stmt, simple, vars, fun_decl, if, while, do_while, for, for_in, return, throw, break, continue, label, switch, try, pay_stmt, Stmts, no_stmts, more_stmts, MaybeStmts, absent, present, Cases, no_cases, more_cases, Scope, Program}
use Rattle.cc_ast.specs.declared.operator.BinOp.{BinOp}
use Rattle.cc_ast.specs.declared.operator.BinOp.TheVariants.{Instance, Has}
use Rattle.cc_ast.specs.declared.operator.UnOp.{UnOp}
use Rattle.cc_ast.specs.declared.operator.UnOp.TheVariants.{Delete}
use Rattle.cc_ast.specs.declared.tree.Ref.{Ref}
use Rattle.cc_ast.specs.declared.tree.Key.{Key}
use Rattle.cc_ast.specs.declared.tables.ChunkInfo.{ChunkInfo}
use Rattle.cc_ast.specs.declared.tables.PropInfo.{PropInfo}
use Rattle.cc_ast.specs.declared.tables.Class.{Class}
use Rattle.cc_ast.specs.declared.tables.SiteDoc.{SiteDoc}
use Rattle.cc_meaning.specs.State.{Path}
use Rattle.cc_meaning.specs.Monad.{pick}
use Rattle.cc_meaning.specs.Store.{of_chunk, global_kind, same_numbers, flat_of, class_of_function}
use Rattle.cc_meaning.specs.Shapes.{longer, path_of_ref, path_of, path_of_target, path_of_key, tables_of, body_of}
use Rattle.cc_meaning.specs.Alike.{In}
use Rattle.cc_meaning.specs.Parts.{mentions, makes, stmts_parts}

-- ---- pure expressions: whose value may be left out where nobody asks for it

unfoldable pub pure_unary : UnOp → Bool
pure_unary Delete = false
pure_unary _ = true

unfoldable pub pure_binary : BinOp → Bool
pure_binary Instance = false
pure_binary Has = false
pure_binary _ = true

unfoldable mutual
  unfolding pure_unary pure_binary

  pub pure : Expr → Bool
  pure (lit i p) = true
  pure (var i r) = true
  pure (this i) = true
  pure (fun i f) = true
  pure (list i es) = pure_all es
  pure (object i fs) = pure_fields fs
  pure (unary i op e) = pure_unary op && pure e
  pure (binary i op a b) = pure_binary op && pure a && pure b
  pure (and i a b) = pure a && pure b
  pure (or i a b) = pure a && pure b
  pure (cond i t a b) = pure t && pure a && pure b
  pure (comma i a b) = pure a && pure b
  pure _ = false

  pub pure_all : Exprs → Bool
  pure_all no_exprs = true
  pure_all (more_exprs e es) = pure e && pure_all es

  pub pure_fields : Fields → Bool
  pure_fields no_fields = true
  pure_fields (more_fields k e fs) = pure e && pure_fields fs

-- ---- where paths stand

-- how a path is used: as the callee of a call or of `new`, at the right of `instanceof`, as the
-- operand of `delete`, or in any other way
pub data Use : Type 0 where
  called constructed tested deleted other : Use

-- what sets a path: a statement of a chunk's own list with a value, or with a function declaration,
-- or anything else
pub data Setting : Type 0 where
  by_value : Expr → Setting
  by_function : ℕ → Setting
  elsewhere : Setting

-- a path as it stands in the trees, as long as it goes
pub data Mention : Type 0 where
  used : Path → Use → Mention
  set : Path → Setting → Mention

-- casts and price marks hide neither a call nor a `delete`
unfoldable pub below : Use → Use
below called = called
below deleted = deleted
below _ = other

unfoldable pub use_of : Option Path → Use → List Mention → List Mention
use_of (Some w) u more = used w u ∷ []
use_of None u more = more

unfoldable pub setting_of : Option Path → Setting → List Mention → List Mention
setting_of (Some w) s more = set w s ∷ []
setting_of None s more = more

unfoldable pub operand_use : UnOp → Use
operand_use Delete = deleted
operand_use _ = other

unfoldable pub right_use : BinOp → Use
right_use Instance = tested
right_use _ = other

unfoldable mutual
  unfolding below use_of setting_of operand_use right_use path_of_ref path_of path_of_target longer

  pub in_expr : Use → Expr → List Mention
  in_expr u (lit i p) = []
  in_expr u (var i r) = use_of (path_of_ref r) u []
  in_expr u (this i) = []
  in_expr u (fun i f) = []
  in_expr u (list i es) = in_exprs es
  in_expr u (object i fs) = in_fields fs
  in_expr u (unary i op e) = in_expr (operand_use op) e
  in_expr u (binary i op a b) = in_expr other a ++ in_expr (right_use op) b
  in_expr u (and i a b) = in_expr other a ++ in_expr other b
  in_expr u (or i a b) = in_expr other a ++ in_expr other b
  in_expr u (cond i t a b) = in_expr other t ++ in_expr other a ++ in_expr other b
  in_expr u (assign i op t e) = in_target_of t ++ in_expr other e
  in_expr u (step i up prefix t) = in_target_of t
  in_expr u (member i e p) = use_of (longer (path_of e) p) u (in_expr other e)
  in_expr u (index i e k) = in_expr other e ++ in_expr other k
  in_expr u (call i f es) = in_expr called f ++ in_exprs es
  in_expr u (new i f es) = in_expr constructed f ++ in_exprs es
  in_expr u (comma i a b) = in_expr other a ++ in_expr other b
  in_expr u (cast i d e) = in_expr (below u) e
  in_expr u (tick i p e) = in_expr (below u) e

  pub in_target_of : Target → List Mention
  in_target_of (to_var i r) = setting_of (path_of_ref r) elsewhere []
  in_target_of (to_member i e p) = setting_of (longer (path_of e) p) elsewhere (in_expr other e)
  in_target_of (to_index i e k) = in_expr other e ++ in_expr other k

  pub in_exprs : Exprs → List Mention
  in_exprs no_exprs = []
  in_exprs (more_exprs e es) = in_expr other e ++ in_exprs es

  pub in_fields : Fields → List Mention
  in_fields no_fields = []
  in_fields (more_fields k e fs) = in_expr other e ++ in_fields fs

unfoldable pub in_option : Option Expr → List Mention
unfolding in_expr
in_option None = []
in_option (Some e) = in_expr other e

-- a value that a statement of a chunk's own list sets a path to, with the keys of its literals
unfoldable mutual
  unfolding path_of_key

  pub sets_at : Option Path → Expr → List Mention
  sets_at None e = []
  sets_at (Some w) (object i fs) = set w (by_value (object i fs)) ∷ sets_keys (Some w) fs
  sets_at (Some w) e = set w (by_value e) ∷ []

  pub sets_keys : Option Path → Fields → List Mention
  sets_keys w no_fields = []
  sets_keys w (more_fields k e fs) = sets_at (path_of_key w k) e ++ sets_keys w fs

-- a declarator sets its variable where it has a value; `own` tells that it stands in the own list
-- of a chunk
unfoldable pub in_initial : (own : Bool) → Option Path → Option Expr → List Mention
unfolding sets_at setting_of in_expr
in_initial own w None = []
in_initial own w (Some e) = pick own (sets_at w e) (setting_of w elsewhere []) ++ in_expr other e

unfoldable pub in_declarator : (own : Bool) → Declarator → List Mention
unfolding in_initial path_of_ref
in_declarator own d = in_initial own (path_of_ref d.variable) d.value

unfoldable pub in_declarators : (own : Bool) → List Declarator → List Mention
unfolding in_declarator
in_declarators own [] = []
in_declarators own (d ∷ ds) = in_declarator own d ++ in_declarators own ds

unfoldable pub in_init : ForInit → List Mention
unfolding in_expr in_declarators
in_init no_init = []
in_init (init_value e) = in_expr other e
in_init (init_vars ds) = in_declarators false ds

-- each turn of a `for-in` sets its target
unfoldable pub in_each : ForTarget → List Mention
unfolding in_target_of setting_of path_of_ref in_option
in_each (in_target t) = in_target_of t
in_each (in_declared d) = setting_of (path_of_ref d.variable) elsewhere [] ++ in_option d.value

-- an assignment that is a statement of a chunk's own list
unfoldable pub in_statement : (own : Bool) → Expr → List Mention
unfolding in_expr in_target_of sets_at path_of_target
in_statement true (assign i None t e) = pick (is_some (path_of_target t)) (sets_at (path_of_target t) e) (in_target_of t) ++ in_expr other e
in_statement own e = in_expr other e

unfoldable pub function_setting : (own : Bool) → ℕ → Setting
function_setting own f = pick own (by_function f) elsewhere

unfoldable mutual
  unfolding in_expr in_option in_declarators in_init in_each in_statement setting_of function_setting path_of_ref

  pub in_stmt : (own : Bool) → Stmt → List Mention
  in_stmt own (simple i e) = in_statement own e
  in_stmt own (vars i ds) = in_declarators own ds
  in_stmt own (fun_decl i r f) = setting_of (path_of_ref r) (function_setting own f) []
  in_stmt own (if i t a b) = in_expr other t ++ in_stmts false a ++ in_stmts false b
  in_stmt own (while i t b) = in_expr other t ++ in_stmts false b
  in_stmt own (do_while i b t) = in_stmts false b ++ in_expr other t
  in_stmt own (for i h t e b) = in_init h ++ in_option t ++ in_option e ++ in_stmts false b
  in_stmt own (for_in i t e b) = in_each t ++ in_expr other e ++ in_stmts false b
  in_stmt own (return i e) = in_option e
  in_stmt own (throw i e) = in_expr other e
  in_stmt own (break i l) = []
  in_stmt own (continue i l) = []
  in_stmt own (label i l b) = in_stmts false b
  in_stmt own (switch i e cs) = in_expr other e ++ in_cases cs
  in_stmt own (try i b k f) = in_stmts false b ++ in_maybe k ++ in_maybe f
  in_stmt own (pay_stmt i p) = []

  pub in_stmts : (own : Bool) → Stmts → List Mention
  in_stmts own no_stmts = []
  in_stmts own (more_stmts s ss) = in_stmt own s ++ in_stmts own ss

  pub in_maybe : MaybeStmts → List Mention
  in_maybe absent = []
  in_maybe (present ss) = in_stmts false ss

  pub in_cases : Cases → List Mention
  in_cases no_cases = []
  in_cases (more_cases t b cs) = in_option t ++ in_stmts false b ++ in_cases cs

-- the chunks' scopes are the first
unfoldable pub in_scopes : List ChunkInfo → List Scope → List Mention
unfolding in_stmts
in_scopes cs [] = []
in_scopes [] (s ∷ ss) = in_stmts false s.body ++ in_scopes [] ss
in_scopes (c ∷ cs) (s ∷ ss) = in_stmts true s.body ++ in_scopes cs ss

-- every place of a program at which a path stands
unfoldable pub mentions_of : Program → List Mention
unfolding in_scopes
mentions_of P = in_scopes P.chunks P.scopes

-- ---- holders

unfoldable pub same_path : Path → Path → Bool
unfolding same_numbers
same_path v w = nat_eq v.0 w.0 && same_numbers v.1 w.1

unfoldable pub settings : Path → List Mention → List Setting
unfolding same_path
settings w [] = []
settings w (used v u ∷ ms) = settings w ms
settings w (set v s ∷ ms) = pick (same_path v w) (s ∷ settings w ms) (settings w ms)

-- how a path itself is used, and not one that goes on from it
unfoldable pub uses : Path → List Mention → List Use
unfolding same_path
uses w [] = []
uses w (used v u ∷ ms) = pick (same_path v w) (u ∷ uses w ms) (uses w ms)
uses w (set v s ∷ ms) = uses w ms

unfoldable pub dotted_keys : Fields → Bool
dotted_keys no_fields = true
dotted_keys (more_fields (Key.Dotted p) e fs) = dotted_keys fs
dotted_keys (more_fields (Key.Quoted t) e fs) = false

abbrev pub extended : Path → ℕ → Path
extended w p = (w.0, w.1 ++ p ∷ [])

-- in scope g, with so many catch clauses open, the frame so many steps outwards has the own name of
-- function f
pub data OwnNameOf (P : Program) (f : ℕ) : (g catches up : ℕ) → Type 0 where
  own_here : (c : ℕ) (s : Scope) → slice_get P.scopes f ≡ Some s → IsTrue s.own → OwnNameOf P f f c (suc c)
  own_outer : (g h c d u : ℕ) (s : Scope) (b : Bool) → slice_get P.scopes g ≡ Some s → IsFalse s.own → In (makes d g b) (stmts_parts (tables_of P) 0 (body_of P h)) → OwnNameOf P f h d u → OwnNameOf P f g c (suc (c + u))
  own_further : (g h c d u : ℕ) (s : Scope) (b : Bool) → slice_get P.scopes g ≡ Some s → IsTrue s.own → In (makes d g b) (stmts_parts (tables_of P) 0 (body_of P h)) → OwnNameOf P f h d u → OwnNameOf P f g c (suc (suc (c + u)))

-- a function marked `@constructor` whose own name is mentioned nowhere
pub record IsConstructor (P : Program) (f : ℕ) : Type 0 where
  pub class : ℕ
  pub entry : Class
  pub is : class_of_function (tables_of P) f ≡ Some class
  pub stands : slice_get P.classes class ≡ Some entry
  pub constructs : IsFalse entry.interface
  pub nameless : (g c u : ℕ) → OwnNameOf P f g c u → In (mentions c (Ref.Frame u 0)) (stmts_parts (tables_of P) 0 (body_of P g)) → ⊥

-- uses that a constructor may have
pub data AreConstructions : List Use → Type 0 where
  no_uses : AreConstructions []
  by_new : (us : List Use) → AreConstructions us → AreConstructions (constructed ∷ us)
  by_instance : (us : List Use) → AreConstructions us → AreConstructions (tested ∷ us)

-- a literal with dotted keys and pure values is used only to go on from it; a constructor may also
-- be called by `new` and stand at the right of `instanceof`
pub data Holds (P : Program) : Setting → List Use → Type 0 where
  a_literal : (i : ℕ) (fs : Fields) → IsTrue (dotted_keys fs) → IsTrue (pure_fields fs) → Holds P (by_value (object i fs)) []
  an_expression : (i f : ℕ) (us : List Use) → IsConstructor P f → AreConstructions us → Holds P (by_value (fun i f)) us
  a_declaration : (f : ℕ) (us : List Use) → IsConstructor P f → AreConstructions us → Holds P (by_function f) us

abbrev pub IsFlat : Program → Path → Type 0
IsFlat P w = IsTrue (is_some (flat_of (tables_of P) (Some w)))

-- a global of the chunks, or a flat path, that is set once, and that no method of its own is called
-- on which stays a property: that call has a receiver
pub record IsHolder (P : Program) (h : Path) : Type 0 where
  pub variable : (h.1 ≡ [] → (c : ℕ) × (global_kind (tables_of P) h.0 ≡ of_chunk c))
  pub path : (h.1 ≡ [] → ⊥) → IsFlat P h
  pub setting : Setting
  pub once : settings h (mentions_of P) ≡ setting ∷ []
  pub holds : Holds P setting (uses h (mentions_of P))
  pub methods : (p : ℕ) → In called (uses (extended h p) (mentions_of P)) → IsFlat P (extended h p)

-- a property at a path that isn't kept and that no `delete` reaches
pub record IsFree (P : Program) (w : Path) (name : ℕ) : Type 0 where
  pub unkept : (p : PropInfo) → slice_get P.props name ≡ Some p → IsFalse p.kept
  pub stays : In deleted (uses w (mentions_of P)) → ⊥

-- a property of a holder that may become a variable: it is free, and not marked `@nocollapse`
pub record IsCollapsible (P : Program) (w : Path) (doc : ℕ) : Type 0 where
  pub holder : Path
  pub name : ℕ
  pub is : w ≡ extended holder name
  pub holds : IsHolder P holder
  pub free : IsFree P w name
  pub marked : (d : SiteDoc) → slice_get P.docs doc ≡ Some d → IsFalse d.nocollapse

-- ---- what may become a variable, whether or not a list has it

-- a global or path that is set once and used as a holder is, and each of whose names that is called is free
pub record IsHolding (P : Program) (h : Path) : Type 0 where
  pub setting : Setting
  pub once : settings h (mentions_of P) ≡ setting ∷ []
  pub holds : Holds P setting (uses h (mentions_of P))
  pub methods : (p : ℕ) → In called (uses (extended h p) (mentions_of P)) → IsFree P (extended h p) p

-- a global of the chunks, or a free property of a holder that may itself become one
pub data MayBeVariable (P : Program) : Path → Type 0 where
  a_global : (n c : ℕ) → global_kind (tables_of P) n ≡ of_chunk c → MayBeVariable P (n, [])
  a_property : (h : Path) (p : ℕ) → MayBeVariable P h → IsHolding P h → IsFree P (extended h p) p → MayBeVariable P (extended h p)

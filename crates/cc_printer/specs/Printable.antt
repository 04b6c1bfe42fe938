-- The trees that a text can say: what they must meet so that their tokens read back.
use Rattle.std.specs.Prelude.{◌≡◌, ℕ, zero, suc, pos, negsuc, List, [], ◌∷◌, Bool, true, false, not, if◌then◌else◌, Option, Some, None}
use Rattle.cc_ast.specs.declared.operator.UnOp.{UnOp}
use Rattle.cc_ast.specs.declared.operator.UnOp.TheVariants as u
use Rattle.cc_ast.specs.Syntax.{whole}
use Rattle.cc_grammar.specs.RawTree.{RawExpr, RawTarget, RawExprs, MaybeExpr, RawFields, RawKey, RawDeclarators, RawInit, RawForTarget, RawStmt, RawStmts, RawCatch, RawFinally, RawCases, Named}
use Rattle.cc_grammar.specs.RawTree as raw
use Rattle.cc_grammar.specs.Signs.{refused_name, is_variable, assign_of}
use Rattle.cc_grammar.specs.Grammar.{Context, of_function, inside, in_loop, in_switch, labelled, is_among}
use Rattle.cc_printer.specs.Printing.{assigning, is_bare_label}

-- The operand makes no literal with the operator, as `-1` or `void 0` would, and is no variable that is deleted (ECMA-262 5.1, 11.4).
abbrev pub stays_unary : UnOp → RawExpr → Bool
stays_unary u.Minus (raw.lit q (whole (pos (suc n)))) = false
stays_unary u.Void (raw.lit q (whole (pos zero))) = false
stays_unary u.Delete e = not (is_variable e)
stays_unary _ e = true

-- A key is no negative number (11.1.5).
abbrev pub is_key : RawKey → Bool
is_key (raw.numbered (negsuc n)) = false
is_key _ = true

-- no parameter is `eval` or `arguments` (13)
abbrev pub PrintableNames : List Named → Type 0
PrintableNames [] = Unit {0}
PrintableNames (v ∷ vs) = (refused_name v.name ≡ None) × PrintableNames vs

-- nor is the own name of a function expression
abbrev pub PrintableOwn : Option Named → Type 0
PrintableOwn None = Unit {0}
PrintableOwn (Some v) = refused_name v.name ≡ None

-- a `break` is in a loop or `switch`, or has an open label (12.8)
abbrev pub PrintableBreak : Context → Option (List ℕ) → Type 0
PrintableBreak c None = c.breaks ≡ true
PrintableBreak c (Some n) = is_among n c.labels ≡ true

-- a `continue` is in a loop, whose label it has if it has one (12.7)
abbrev pub PrintableContinue : Context → Option (List ℕ) → Type 0
PrintableContinue c None = c.continues ≡ true
PrintableContinue c (Some n) = (c.continues ≡ true) × (is_among n c.loops ≡ true)

-- where the body of a label stands (12.12); one in braces is no loop of this label
abbrev pub under_label : List ℕ → Context → RawStmts → Context
under_label n c ss = if is_bare_label ss then labelled n c else inside (labelled n c)

abbrev mutual
  -- an expression (11)
  pub Printable : RawExpr → Type 0
  Printable (raw.lit p v) = Unit {0}
  Printable (raw.var p n) = refused_name n ≡ None
  Printable (raw.this p) = Unit {0}
  Printable (raw.fun p o ps body) = PrintableOwn o × PrintableNames ps × PrintableStmts of_function body
  Printable (raw.list p es) = PrintableExprs es
  Printable (raw.object p fs) = PrintableFields fs
  Printable (raw.unary p o e) = Printable e × (stays_unary o e ≡ true)
  Printable (raw.binary p o e f) = Printable e × Printable f
  Printable (raw.and p e f) = Printable e × Printable f
  Printable (raw.or p e f) = Printable e × Printable f
  Printable (raw.cond p e f g) = Printable e × Printable f × Printable g
  Printable (raw.assign p o t e) = PrintableTarget t × Printable e × (assign_of (assigning o) ≡ Some o)
  Printable (raw.step p up x t) = PrintableTarget t
  Printable (raw.member p e q n) = Printable e
  Printable (raw.index p e f) = Printable e × Printable f
  Printable (raw.call p e es) = Printable e × PrintableExprs es
  Printable (raw.new p e es) = Printable e × PrintableExprs es
  Printable (raw.comma p e f) = Printable e × Printable f
  Printable (raw.cast p e) = ⊥

  -- what is written to (11.13)
  pub PrintableTarget : RawTarget → Type 0
  PrintableTarget (raw.to_var p n) = refused_name n ≡ None
  PrintableTarget (raw.to_member p e q n) = Printable e
  PrintableTarget (raw.to_index p e f) = Printable e × Printable f

  -- arguments, or the elements of an array literal (11.1.4 and 11.2.4)
  pub PrintableExprs : RawExprs → Type 0
  PrintableExprs raw.no_exprs = Unit {0}
  PrintableExprs (raw.more_exprs e es) = Printable e × PrintableExprs es

  -- an expression that may be absent
  pub PrintableMaybe : MaybeExpr → Type 0
  PrintableMaybe raw.no_expr = Unit {0}
  PrintableMaybe (raw.one_expr e) = Printable e

  -- the properties of an object literal (11.1.5)
  pub PrintableFields : RawFields → Type 0
  PrintableFields raw.no_fields = Unit {0}
  PrintableFields (raw.more_fields p x e fs) = (is_key x ≡ true) × Printable e × PrintableFields fs

  -- variable declarations, at least one (12.2)
  pub PrintableDeclarators : RawDeclarators → Type 0
  PrintableDeclarators raw.no_declarators = ⊥
  PrintableDeclarators (raw.more_declarators v e raw.no_declarators) = (refused_name v.name ≡ None) × PrintableMaybe e
  PrintableDeclarators (raw.more_declarators v e ds) = (refused_name v.name ≡ None) × PrintableMaybe e × PrintableDeclarators ds

  -- what a `for` begins with (12.6.3)
  pub PrintableInit : RawInit → Type 0
  PrintableInit raw.no_init = Unit {0}
  PrintableInit (raw.init_value e) = Printable e
  PrintableInit (raw.init_vars ds) = PrintableDeclarators ds

  -- what a `for` with `in` writes each name to (12.6.4)
  pub PrintableForTarget : RawForTarget → Type 0
  PrintableForTarget (raw.in_target t) = PrintableTarget t
  PrintableForTarget (raw.in_declared v e) = (refused_name v.name ≡ None) × PrintableMaybe e

  -- a statement where it stands (12)
  pub PrintableStmt : Context → RawStmt → Type 0
  PrintableStmt c (raw.simple p e) = Printable e
  PrintableStmt c (raw.vars p ds) = PrintableDeclarators ds
  PrintableStmt c (raw.fun_decl p v ps body) = (c.declares ≡ true) × (refused_name v.name ≡ None) × PrintableNames ps × PrintableStmts of_function body
  PrintableStmt c (raw.if p e a b) = Printable e × PrintableStmts (inside c) a × PrintableStmts (inside c) b
  PrintableStmt c (raw.while p e body) = Printable e × PrintableStmts (in_loop c) body
  PrintableStmt c (raw.do_while p body e) = PrintableStmts (in_loop c) body × Printable e
  PrintableStmt c (raw.for p i t s body) = PrintableInit i × PrintableMaybe t × PrintableMaybe s × PrintableStmts (in_loop c) body
  PrintableStmt c (raw.for_in p t e body) = PrintableForTarget t × Printable e × PrintableStmts (in_loop c) body
  PrintableStmt c (raw.return p e) = (c.returns ≡ true) × PrintableMaybe e
  PrintableStmt c (raw.throw p e) = Printable e
  PrintableStmt c (raw.break p l) = PrintableBreak c l
  PrintableStmt c (raw.continue p l) = PrintableContinue c l
  PrintableStmt c (raw.label p n body) = (is_among n c.labels ≡ false) × PrintableStmts (under_label n c body) body
  PrintableStmt c (raw.switch p e cs) = Printable e × PrintableCases (in_switch c) false cs
  PrintableStmt c (raw.try p body raw.no_catch raw.no_finally) = ⊥
  PrintableStmt c (raw.try p body x f) = PrintableStmts (inside c) body × PrintableCatch (inside c) x × PrintableFinally (inside c) f

  -- a list of statements
  pub PrintableStmts : Context → RawStmts → Type 0
  PrintableStmts c raw.no_stmts = Unit {0}
  PrintableStmts c (raw.more_stmts s ss) = PrintableStmt c s × PrintableStmts c ss

  -- a `catch` clause (12.14)
  pub PrintableCatch : Context → RawCatch → Type 0
  PrintableCatch c raw.no_catch = Unit {0}
  PrintableCatch c (raw.caught v body) = (refused_name v.name ≡ None) × PrintableStmts c body

  -- a `finally` clause (12.14)
  pub PrintableFinally : Context → RawFinally → Type 0
  PrintableFinally c raw.no_finally = Unit {0}
  PrintableFinally c (raw.finally body) = PrintableStmts c body

  -- the clauses of a `switch`, with at most one `default` (12.11); the flag tells whether one stands before
  pub PrintableCases : Context → Bool → RawCases → Type 0
  PrintableCases c s raw.no_cases = Unit {0}
  PrintableCases c s (raw.more_cases raw.no_expr body cs) = (s ≡ false) × PrintableStmts c body × PrintableCases c true cs
  PrintableCases c s (raw.more_cases (raw.one_expr e) body cs) = Printable e × PrintableStmts c body × PrintableCases c s cs

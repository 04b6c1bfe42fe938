-- What the tokens of a tree derive: a tree that is the printed one up to places.
use Rattle.std.specs.Prelude.{◌≡◌, ℕ, List, [], ◌∷◌, Bool, false, Option, Some}
use Rattle.cc_grammar.specs.Symbols.{Symbols}
use Rattle.cc_grammar.specs.RawTree.{RawExpr, RawTarget, RawExprs, MaybeExpr, RawFields, RawField, RawDeclarators, RawDeclarator, RawInit, RawStmt, RawStmts, RawCatch, RawFinally, RawCases, RawCase, Named}
use Rattle.cc_grammar.specs.RawTree as raw
use Rattle.cc_grammar.specs.Signs as sign
use Rattle.cc_grammar.specs.Grammar.{E, T, Body, Elements, Fields, Arguments, MoreArguments, Function, Declarator, Declarators, Init, Optional, Cases, Catch, Finally, OwnName, MoreParams, Params, Context}
use Rattle.cc_printer.specs.Bare.{bare, bare_named, bare_names, bare_own, bare_target, bare_exprs, bare_maybe, bare_fields, bare_declarators, bare_init, bare_stmt, bare_stmts, bare_catch, bare_finally, bare_cases}
use Rattle.cc_printer.proofs.Kit.{is_cast}

pub record DerivedExpr (d : ℕ) (n : Bool) (l : ℕ) (xs : Symbols) (a : RawExpr) (ys : Symbols) : Type 0 where
  pub tree : RawExpr
  pub is : E d n l xs tree ys
  pub same : bare tree ≡ bare a
  pub plain : is_cast tree ≡ false

pub record DerivedTarget (d : ℕ) (n : Bool) (l : ℕ) (xs : Symbols) (t : RawTarget) (ys : Symbols) : Type 0 where
  pub tree : RawExpr
  pub goal : RawTarget
  pub is : E d n l xs tree ys
  pub aims : sign.target_of tree ≡ Some goal
  pub same : bare_target goal ≡ bare_target t

pub record DerivedExprs (d : ℕ) (xs : Symbols) (es : RawExprs) (ys : Symbols) : Type 0 where
  pub list : List RawExpr
  pub is : MoreArguments d xs list ys
  pub same : bare_exprs (raw.exprs list) ≡ bare_exprs es

pub record DerivedArguments (d : ℕ) (xs : Symbols) (es : RawExprs) (ys : Symbols) : Type 0 where
  pub list : List RawExpr
  pub is : Arguments d xs list ys
  pub same : bare_exprs (raw.exprs list) ≡ bare_exprs es

pub record DerivedElements (d : ℕ) (xs : Symbols) (es : RawExprs) (ys : Symbols) : Type 0 where
  pub list : List RawExpr
  pub is : Elements d xs list ys
  pub same : bare_exprs (raw.exprs list) ≡ bare_exprs es

pub record DerivedFields (d : ℕ) (xs : Symbols) (fs : RawFields) (ys : Symbols) : Type 0 where
  pub list : List RawField
  pub is : Fields d xs list ys
  pub same : bare_fields (raw.fields list) ≡ bare_fields fs

pub record DerivedNames (xs : Symbols) (vs : List Named) (ys : Symbols) : Type 0 where
  pub list : List Named
  pub is : Params xs list ys
  pub same : bare_names list ≡ bare_names vs

pub record DerivedMore (xs : Symbols) (vs : List Named) (ys : Symbols) : Type 0 where
  pub list : List Named
  pub is : MoreParams xs list ys
  pub same : bare_names list ≡ bare_names vs

pub record DerivedOwn (xs : Symbols) (o : Option Named) (ys : Symbols) : Type 0 where
  pub own : Option Named
  pub is : OwnName xs own ys
  pub same : bare_own own ≡ bare_own o

pub record DerivedBody (c : Context) (d : ℕ) (xs : Symbols) (ss : RawStmts) (ys : Symbols) : Type 0 where
  pub list : List RawStmt
  pub is : Body c d xs list ys
  pub same : bare_stmts (raw.stmts list) ≡ bare_stmts ss

pub record DerivedOne (c : Context) (d : ℕ) (xs : Symbols) (ss : RawStmts) (ys : Symbols) : Type 0 where
  pub list : List RawStmt
  pub is : T c d xs list ys
  pub same : bare_stmts (raw.stmts list) ≡ bare_stmts ss

pub record DerivedStmt (c : Context) (d : ℕ) (xs : Symbols) (s : RawStmt) (ys : Symbols) : Type 0 where
  pub tree : RawStmt
  pub is : T c d xs (tree ∷ []) ys
  pub same : bare_stmt tree ≡ bare_stmt s

pub record DerivedFunction (d : ℕ) (xs : Symbols) (vs : List Named) (ss : RawStmts) (ys : Symbols) : Type 0 where
  pub params : List Named
  pub list : List RawStmt
  pub is : Function d xs params list ys
  pub named : bare_names params ≡ bare_names vs
  pub same : bare_stmts (raw.stmts list) ≡ bare_stmts ss

pub record DerivedDeclarator (d : ℕ) (n : Bool) (xs : Symbols) (v : Named) (e : MaybeExpr) (ys : Symbols) : Type 0 where
  pub tree : RawDeclarator
  pub is : Declarator d n xs tree ys
  pub named : bare_named tree.variable ≡ bare_named v
  pub same : bare_maybe tree.value ≡ bare_maybe e

pub record DerivedDeclarators (d : ℕ) (n : Bool) (xs : Symbols) (ds : RawDeclarators) (ys : Symbols) : Type 0 where
  pub list : List RawDeclarator
  pub is : Declarators d n xs list ys
  pub same : bare_declarators (raw.declarators list) ≡ bare_declarators ds

pub record DerivedInit (d : ℕ) (xs : Symbols) (i : RawInit) (ys : Symbols) : Type 0 where
  pub tree : RawInit
  pub is : Init d xs tree ys
  pub same : bare_init tree ≡ bare_init i

pub record DerivedMaybe (d : ℕ) (xs : Symbols) (e : MaybeExpr) (ys : Symbols) : Type 0 where
  pub tree : MaybeExpr
  pub is : Optional d xs tree ys
  pub same : bare_maybe tree ≡ bare_maybe e

pub record DerivedCases (c : Context) (d : ℕ) (s : Bool) (xs : Symbols) (cs : RawCases) (ys : Symbols) : Type 0 where
  pub list : List RawCase
  pub is : Cases c d s xs list ys
  pub same : bare_cases (raw.cases list) ≡ bare_cases cs

pub record DerivedCatch (c : Context) (d : ℕ) (xs : Symbols) (x : RawCatch) (ys : Symbols) : Type 0 where
  pub tree : RawCatch
  pub is : Catch c d xs tree ys
  pub same : bare_catch tree ≡ bare_catch x

pub record DerivedFinally (c : Context) (d : ℕ) (xs : Symbols) (x : RawFinally) (ys : Symbols) : Type 0 where
  pub tree : RawFinally
  pub is : Finally c d xs tree ys
  pub same : bare_finally tree ≡ bare_finally x

-- Programs that are alike: equal in what is reached from their chunks, up to the numbers of
-- functions, globals, properties and places; up to sites, annotations, casts and price marks; and
-- where minus of a positive whole number counts as the negative one, and `void 0` as undefined.
-- Alike programs have equal plain runs.
use Rattle.std.specs.Prelude.{◌≡◌, ℕ, suc, pos, negsuc, Bool, true, false, IsTrue, List, [], ◌∷◌, slice_get, Option, Some, None}
use Rattle.cc_ast.specs.Syntax.{Prim, undefined, whole, Expr, lit, var, this, fun, list, object, unary, binary, and, or, cond, assign, step, member, index, call, new, comma, cast, tick, Target, to_var, to_member, to_index, Exprs, no_exprs, more_exprs, Fields, no_fields, more_fields, Declarator, ForInit, no_init, init_value, init_vars, ForTarget, in_target, in_declared, Stmt, simple, vars, fun_decl, if, while, do_while, for, for_in, return, throw, break, continue, label, switch, try, pay_stmt, Stmts, no_stmts, more_stmts, MaybeStmts, absent, present, Cases, no_cases, more_cases, Program}
use Rattle.cc_ast.specs.declared.operator.BinOp.{BinOp}
use Rattle.cc_ast.specs.declared.operator.UnOp.{UnOp}
use Rattle.cc_ast.specs.declared.operator.UnOp.TheVariants.{Minus, Void}
use Rattle.cc_ast.specs.declared.tree.Ref.{Ref}
use Rattle.cc_ast.specs.declared.tree.Key.{Key}
use Rattle.cc_meaning.specs.Values.{Val}
use Rattle.cc_meaning.specs.Operators.{is_exact}
use Rattle.cc_meaning.specs.State.{Tables}
use Rattle.cc_meaning.specs.Store.{dotted, name_of, extern, global_kind, fitted}
use Rattle.cc_meaning.specs.Acts.{has_own_name}
use Rattle.cc_meaning.specs.Shapes.{tables_of, body_of}
use Rattle.cc_meaning.specs.Meaning.{head_in}
use Rattle.cc_meaning.specs.Script.{graph_of}

-- ---- lists

pub data In {A : Type 0} (x : A) : List A → Type 0 where
  here : {xs : List A} → In x (x ∷ xs)
  there : {y : A} {xs : List A} → In x xs → In x (y ∷ xs)

pub data Nth {A : Type 0} (x : A) : ℕ → List A → Type 0 where
  first : {xs : List A} → Nth x 0 (x ∷ xs)
  later : {n : ℕ} {y : A} {xs : List A} → Nth x n xs → Nth x (suc n) (y ∷ xs)

pub data ListT {A B : Type 0} (R : A → B → Type 0) : List A → List B → Type 0 where
  nil_t : ListT R [] []
  cons_t : {a : A} {b : B} {as' : List A} {bs : List B} → R a b → ListT R as' bs → ListT R (a ∷ as') (b ∷ bs)

pub data OptT {A B : Type 0} (R : A → B → Type 0) : Option A → Option B → Type 0 where
  none_t : OptT R None None
  some_t : {a : A} {b : B} → R a b → OptT R (Some a) (Some b)

abbrev pub Paired : List (ℕ × ℕ) → ℕ → ℕ → Type 0
Paired ps m n = In (m, n) ps

-- each number has at most one partner, on either side
pub record OneToOne (ps : List (ℕ × ℕ)) : Type 0 where
  pub left : (m n n' : ℕ) → Paired ps m n → Paired ps m n' → n ≡ n'
  pub right : (m m' n : ℕ) → Paired ps m n → Paired ps m' n → m ≡ m'

-- ---- how the two are numbered

-- two frames that stand for one another: of a call of two functions, of a catch clause, or of an own name
pub data FramePair : Type 0 where
  call_pair : (f g : ℕ) → FramePair
  catch_pair own_pair : FramePair

-- the frames around a place, from the innermost on
abbrev pub Around : Type 0
Around = List FramePair

-- functions, with what is around them and the places of their frames; and globals
pub record Numbering : Type 0 where
  pub functions : List (ℕ × ℕ)
  pub around : ℕ × ℕ → Around
  pub places : ℕ × ℕ → List (ℕ × ℕ)
  pub globals : List (ℕ × ℕ)

module _ (S T : Tables) (N : Numbering) where
  -- properties with one name
  abbrev pub PropA : ℕ → ℕ → Type 0
  PropA p q = name_of S (dotted p) ≡ name_of T (dotted q)

  pub data KeyA : Key → Key → Type 0 where
    dotted_a : {p q : ℕ} → PropA p q → KeyA (Key.Dotted p) (Key.Dotted q)
    quoted_a : {t : List ℕ} → KeyA (Key.Quoted t) (Key.Quoted t)

  pub data PlaceA : FramePair → ℕ → ℕ → Type 0 where
    in_call : {f g m n : ℕ} → Paired (N.places (f, g)) m n → PlaceA (call_pair f g) m n
    in_catch : PlaceA catch_pair 0 0
    in_own : PlaceA own_pair 0 0

  pub record FunA (c : Around) (f g : ℕ) : Type 0 where
    pub paired : Paired N.functions f g
    pub stands : N.around (f, g) ≡ c

  pub data RefA (c : Around) : Ref → Ref → Type 0 where
    frame_a : {u m n : ℕ} (p : FramePair) → Nth p u c → PlaceA p m n → RefA c (Ref.Frame u m) (Ref.Frame u n)
    global_a : {m n : ℕ} → Paired N.globals m n → RefA c (Ref.Global m) (Ref.Global n)

  mutual
    pub data ExprA (c : Around) : Expr → Expr → Type 0 where
      lit_a : {i j : ℕ} {p : Prim} → ExprA c (lit i p) (lit j p)
      var_a : {i j : ℕ} {r s : Ref} → RefA c r s → ExprA c (var i r) (var j s)
      this_a : {i j : ℕ} → ExprA c (this i) (this j)
      fun_a : {i j f g : ℕ} → FunA c f g → ExprA c (fun i f) (fun j g)
      list_a : {i j : ℕ} {es ds : Exprs} → ExprsA c es ds → ExprA c (list i es) (list j ds)
      object_a : {i j : ℕ} {es ds : Fields} → FieldsA c es ds → ExprA c (object i es) (object j ds)
      unary_a : {i j : ℕ} {op : UnOp} {e d : Expr} → ExprA c e d → ExprA c (unary i op e) (unary j op d)
      binary_a : {i j : ℕ} {op : BinOp} {a x b y : Expr} → ExprA c a x → ExprA c b y → ExprA c (binary i op a b) (binary j op x y)
      and_a : {i j : ℕ} {a x b y : Expr} → ExprA c a x → ExprA c b y → ExprA c (and i a b) (and j x y)
      or_a : {i j : ℕ} {a x b y : Expr} → ExprA c a x → ExprA c b y → ExprA c (or i a b) (or j x y)
      cond_a : {i j : ℕ} {t u a x b y : Expr} → ExprA c t u → ExprA c a x → ExprA c b y → ExprA c (cond i t a b) (cond j u x y)
      assign_a : {i j : ℕ} {op : Option BinOp} {t u : Target} {e d : Expr} → TargetA c t u → ExprA c e d → ExprA c (assign i op t e) (assign j op u d)
      step_a : {i j : ℕ} {up before : Bool} {t u : Target} → TargetA c t u → ExprA c (step i up before t) (step j up before u)
      member_a : {i j p q : ℕ} {e d : Expr} → ExprA c e d → PropA p q → ExprA c (member i e p) (member j d q)
      index_a : {i j : ℕ} {e d k l : Expr} → ExprA c e d → ExprA c k l → ExprA c (index i e k) (index j d l)
      call_a : {i j : ℕ} {e d : Expr} {es ds : Exprs} → ExprA c e d → ExprsA c es ds → ExprA c (call i e es) (call j d ds)
      new_a : {i j : ℕ} {e d : Expr} {es ds : Exprs} → ExprA c e d → ExprsA c es ds → ExprA c (new i e es) (new j d ds)
      comma_a : {i j : ℕ} {a x b y : Expr} → ExprA c a x → ExprA c b y → ExprA c (comma i a b) (comma j x y)
      left_cast : {i t : ℕ} {e d : Expr} → ExprA c e d → ExprA c (cast i t e) d
      right_cast : {i t : ℕ} {e d : Expr} → ExprA c e d → ExprA c e (cast i t d)
      left_mark : {i p : ℕ} {e d : Expr} → ExprA c e d → ExprA c (tick i p e) d
      right_mark : {i p : ℕ} {e d : Expr} → ExprA c e d → ExprA c e (tick i p d)
      left_minus : {i j k n : ℕ} {e : Expr} → IsTrue (is_exact (negsuc n)) → ExprA c e (lit k (whole (pos (suc n)))) → ExprA c (unary i Minus e) (lit j (whole (negsuc n)))
      right_minus : {i j k n : ℕ} {d : Expr} → IsTrue (is_exact (negsuc n)) → ExprA c (lit k (whole (pos (suc n)))) d → ExprA c (lit i (whole (negsuc n))) (unary j Minus d)
      left_void : {i j k : ℕ} {e : Expr} → ExprA c e (lit k (whole (pos 0))) → ExprA c (unary i Void e) (lit j undefined)
      right_void : {i j k : ℕ} {d : Expr} → ExprA c (lit k (whole (pos 0))) d → ExprA c (lit i undefined) (unary j Void d)

    pub data TargetA (c : Around) : Target → Target → Type 0 where
      to_var_a : {i j : ℕ} {r s : Ref} → RefA c r s → TargetA c (to_var i r) (to_var j s)
      to_member_a : {i j p q : ℕ} {e d : Expr} → ExprA c e d → PropA p q → TargetA c (to_member i e p) (to_member j d q)
      to_index_a : {i j : ℕ} {e d k l : Expr} → ExprA c e d → ExprA c k l → TargetA c (to_index i e k) (to_index j d l)

    pub data ExprsA (c : Around) : Exprs → Exprs → Type 0 where
      no_exprs_a : ExprsA c no_exprs no_exprs
      more_exprs_a : {e d : Expr} {es ds : Exprs} → ExprA c e d → ExprsA c es ds → ExprsA c (more_exprs e es) (more_exprs d ds)

    pub data FieldsA (c : Around) : Fields → Fields → Type 0 where
      no_fields_a : FieldsA c no_fields no_fields
      more_fields_a : {k l : Key} {e d : Expr} {es ds : Fields} → KeyA k l → ExprA c e d → FieldsA c es ds → FieldsA c (more_fields k e es) (more_fields l d ds)

  pub record DeclA (c : Around) (d e : Declarator) : Type 0 where
    pub variable : RefA c d.variable e.variable
    pub value : OptT (ExprA c) d.value e.value

  pub data InitA (c : Around) : ForInit → ForInit → Type 0 where
    no_init_a : InitA c no_init no_init
    init_value_a : {e d : Expr} → ExprA c e d → InitA c (init_value e) (init_value d)
    init_vars_a : {ds es : List Declarator} → ListT (DeclA c) ds es → InitA c (init_vars ds) (init_vars es)

  pub data NameA (c : Around) : ForTarget → ForTarget → Type 0 where
    in_target_a : {t u : Target} → TargetA c t u → NameA c (in_target t) (in_target u)
    in_declared_a : {d e : Declarator} → DeclA c d e → NameA c (in_declared d) (in_declared e)

  mutual
    pub data StmtA : Around → Stmt → Stmt → Type 0 where
      simple_a : {c : Around} {i j : ℕ} {e d : Expr} → ExprA c e d → StmtA c (simple i e) (simple j d)
      vars_a : {c : Around} {i j : ℕ} {ds es : List Declarator} → ListT (DeclA c) ds es → StmtA c (vars i ds) (vars j es)
      fun_decl_a : {c : Around} {i j f g : ℕ} {r s : Ref} → RefA c r s → FunA c f g → StmtA c (fun_decl i r f) (fun_decl j s g)
      if_a : {c : Around} {i j : ℕ} {e d : Expr} {a x b y : Stmts} → ExprA c e d → StmtsA c a x → StmtsA c b y → StmtA c (if i e a b) (if j d x y)
      while_a : {c : Around} {i j : ℕ} {e d : Expr} {b y : Stmts} → ExprA c e d → StmtsA c b y → StmtA c (while i e b) (while j d y)
      do_while_a : {c : Around} {i j : ℕ} {e d : Expr} {b y : Stmts} → StmtsA c b y → ExprA c e d → StmtA c (do_while i b e) (do_while j y d)
      for_a : {c : Around} {i j : ℕ} {h k : ForInit} {t u e d : Option Expr} {b y : Stmts} → InitA c h k → OptT (ExprA c) t u → OptT (ExprA c) e d → StmtsA c b y → StmtA c (for i h t e b) (for j k u d y)
      for_in_a : {c : Around} {i j : ℕ} {t u : ForTarget} {e d : Expr} {b y : Stmts} → NameA c t u → ExprA c e d → StmtsA c b y → StmtA c (for_in i t e b) (for_in j u d y)
      return_a : {c : Around} {i j : ℕ} {e d : Option Expr} → OptT (ExprA c) e d → StmtA c (return i e) (return j d)
      throw_a : {c : Around} {i j : ℕ} {e d : Expr} → ExprA c e d → StmtA c (throw i e) (throw j d)
      break_a : {c : Around} {i j : ℕ} {l : Option (List ℕ)} → StmtA c (break i l) (break j l)
      continue_a : {c : Around} {i j : ℕ} {l : Option (List ℕ)} → StmtA c (continue i l) (continue j l)
      label_a : {c : Around} {i j : ℕ} {l : List ℕ} {b y : Stmts} → StmtsA c b y → StmtA c (label i l b) (label j l y)
      switch_a : {c : Around} {i j : ℕ} {e d : Expr} {cs ds : Cases} → ExprA c e d → CasesA c cs ds → StmtA c (switch i e cs) (switch j d ds)
      try_a : {c : Around} {i j : ℕ} {b y : Stmts} {k l f g : MaybeStmts} → StmtsA c b y → MaybeA (catch_pair ∷ c) k l → MaybeA c f g → StmtA c (try i b k f) (try j y l g)

    pub data StmtsA : Around → Stmts → Stmts → Type 0 where
      no_stmts_a : {c : Around} → StmtsA c no_stmts no_stmts
      more_stmts_a : {c : Around} {s t : Stmt} {ss ts : Stmts} → StmtA c s t → StmtsA c ss ts → StmtsA c (more_stmts s ss) (more_stmts t ts)
      left_pay : {c : Around} {i p : ℕ} {ss ts : Stmts} → StmtsA c ss ts → StmtsA c (more_stmts (pay_stmt i p) ss) ts
      right_pay : {c : Around} {i p : ℕ} {ss ts : Stmts} → StmtsA c ss ts → StmtsA c ss (more_stmts (pay_stmt i p) ts)

    pub data MaybeA : Around → MaybeStmts → MaybeStmts → Type 0 where
      absent_a : {c : Around} → MaybeA c absent absent
      present_a : {c : Around} {b y : Stmts} → StmtsA c b y → MaybeA c (present b) (present y)

    pub data CasesA : Around → Cases → Cases → Type 0 where
      no_cases_a : {c : Around} → CasesA c no_cases no_cases
      more_cases_a : {c : Around} {t u : Option Expr} {b y : Stmts} {cs ds : Cases} → OptT (ExprA c) t u → StmtsA c b y → CasesA c cs ds → CasesA c (more_cases t b cs) (more_cases u y ds)

-- globals of one chunk; an extern has one number in both
pub record GlobalA (S T : Tables) (m n : ℕ) : Type 0 where
  pub kind : global_kind S m ≡ global_kind T n
  pub outer : global_kind S m ≡ extern → m ≡ n

-- what is around the body of a function: the frame of its call, and that of its own name
unfoldable pub inside : Bool → ℕ × ℕ → Around → Around
inside true p c = call_pair p.0 p.1 ∷ own_pair ∷ c
inside false p c = call_pair p.0 p.1 ∷ c

unfoldable pub owns : Tables → ℕ → Bool
unfolding has_own_name
owns T f = has_own_name (slice_get T.heads f)

-- the places of a call of this function with these arguments
unfoldable pub places_of : Tables → ℕ → List Val → List (Option Val)
unfolding fitted head_in
places_of T f vs = fitted (head_in (slice_get T.heads f)).0 (head_in (slice_get T.heads f)).1 vs

pub record Alike (P Q : Program) : Type 0 where
  pub N : Numbering
  pub graph : graph_of P ≡ graph_of Q
  pub globals_once : OneToOne N.globals
  pub places_once : (p : ℕ × ℕ) → OneToOne (N.places p)
  pub globals : (m n : ℕ) → Paired N.globals m n → GlobalA (tables_of P) (tables_of Q) m n
  pub own : (f g : ℕ) → Paired N.functions f g → owns (tables_of P) f ≡ owns (tables_of Q) g
  pub fits : (f g : ℕ) → Paired N.functions f g → (vs : List Val) (m n : ℕ) → Paired (N.places (f, g)) m n → slice_get (places_of (tables_of P) f vs) m ≡ slice_get (places_of (tables_of Q) g vs) n
  pub functions : (f g : ℕ) → Paired N.functions f g → StmtsA (tables_of P) (tables_of Q) N (inside (owns (tables_of P) f) (f, g) (N.around (f, g))) (body_of P f) (body_of Q g)
  pub chunks : (c : ℕ) (deps : List ℕ) → slice_get (graph_of P) c ≡ Some deps → StmtsA (tables_of P) (tables_of Q) N [] (body_of P c) (body_of Q c)

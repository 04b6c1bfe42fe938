-- A program written with names: which raw trees stand for its trees, under names of its variables.
use Rattle.std.specs.Prelude.{◌≡◌, ℕ, zero, suc, ◌+◌, ◌<◌, pos, negsuc, Bool, true, false, nat_eq, IsTrue, List, [], ◌∷◌, ◌++◌, if◌then◌else◌, Option, Some, None, slice_get}
use Rattle.cc_ast.specs.declared.operator.BinOp.{BinOp}
use Rattle.cc_ast.specs.declared.operator.UnOp.{UnOp}
use Rattle.cc_ast.specs.declared.operator.UnOp.TheVariants.{Minus, Void}
use Rattle.cc_ast.specs.declared.place.Place.{Place}
use Rattle.cc_ast.specs.declared.tree.Ref.{Ref}
use Rattle.cc_ast.specs.declared.tree.Key.{Key}
use Rattle.cc_ast.specs.Syntax.{Prim, Expr, Target, Exprs, Fields, Declarator, ForInit, ForTarget, Stmt, Stmts, MaybeStmts, Cases, Scope, Program}
use Rattle.cc_ast.specs.Syntax as p
use Rattle.cc_meaning.specs.Alike.{In, Nth}
use Rattle.cc_meaning.specs.Operators.{is_exact}
use Rattle.cc_meaning.specs.Store.{dotted, name_of}
use Rattle.cc_meaning.specs.Shapes.{tables_of, body_of}
use Rattle.cc_grammar.specs.RawTree.{Named, RawKey, RawExpr, RawTarget, RawExprs, MaybeExpr, RawFields, RawDeclarators, RawInit, RawForTarget, RawStmt, RawStmts, RawCatch, RawFinally, RawCases}
use Rattle.cc_grammar.specs.RawTree as raw
use Rattle.cc_scope.specs.Lists.{Name, later}
use Rattle.cc_scope.specs.Resolve.{named}

-- names of the slots of frames, and of globals
pub record Naming : Type 0 where
  pub local : ℕ → Name
  pub global : ℕ → Name

-- different variables that could be confused have different names
pub record Apart (v : Naming) : Type 0 where
  pub local : (m n : ℕ) → v.local m ≡ v.local n → m ≡ n
  pub mixed : (m n : ℕ) → v.local m ≡ v.global n → ⊥

-- a frame: how many places it has, and which of them a text declares, in its order
pub record Frame : Type 0 where
  pub size : ℕ
  pub order : List ℕ

abbrev pub sizes : List Frame → List ℕ
sizes [] = []
sizes (l ∷ c) = l.size ∷ sizes c

-- the slot of a place: the sizes of the frames around it, and its place
abbrev pub base : List ℕ → ℕ
base [] = 0
base (n ∷ c) = n + base c

abbrev pub slot : List ℕ → ℕ → ℕ → ℕ
slot [] up place = place
slot (n ∷ c) zero place = base c + place
slot (n ∷ c) (suc up) place = slot c up place

abbrev pub name_at : Naming → List Frame → Ref → Name
name_at v c (Ref.Frame up place) = v.local (slot (sizes c) up place)
name_at v c (Ref.Global n) = v.global n

abbrev pub shown : Naming → ℕ → List ℕ → List Name
shown v b [] = []
shown v b (n ∷ ns) = v.local (b + n) ∷ shown v b ns

-- where a place first stands
unfoldable pub rank : ℕ → List ℕ → Option ℕ
unfolding later
rank n [] = None
rank n (m ∷ ms) = if nat_eq n m then Some 0 else later (rank n ms)

unfoldable pub has : ℕ → List ℕ → Bool
has n [] = false
has n (m ∷ ms) = if nat_eq n m then true else has n ms

unfoldable pub fresh : List ℕ → List ℕ → List ℕ
unfolding has
fresh ms [] = []
fresh ms (n ∷ ns) = if has n ms then fresh ms ns else n ∷ fresh (ms ++ n ∷ []) ns

unfoldable pub count_from : ℕ → ℕ → List ℕ
count_from k zero = []
count_from k (suc n) = k ∷ count_from (suc k) n

-- ---- the variables that statements declare, by place or number

unfoldable pub number_of : Ref → ℕ
number_of (Ref.Frame up n) = n
number_of (Ref.Global n) = n

unfoldable pub vars_in : List Declarator → List ℕ
unfolding number_of
vars_in [] = []
vars_in (d ∷ ds) = number_of d.variable ∷ vars_in ds

unfoldable pub init_in : ForInit → List ℕ
unfolding vars_in
init_in p.no_init = []
init_in (p.init_value e) = []
init_in (p.init_vars ds) = vars_in ds

unfoldable pub heading_in : ForTarget → List ℕ
unfolding number_of
heading_in (p.in_target t) = []
heading_in (p.in_declared d) = number_of d.variable ∷ []

unfoldable mutual
  unfolding vars_in init_in heading_in number_of

  pub stmt_in : Stmt → List ℕ
  stmt_in (p.simple i e) = []
  stmt_in (p.vars i ds) = vars_in ds
  stmt_in (p.fun_decl i r f) = number_of r ∷ []
  stmt_in (p.if i t a b) = stmts_in a ++ stmts_in b
  stmt_in (p.while i t b) = stmts_in b
  stmt_in (p.do_while i b t) = stmts_in b
  stmt_in (p.for i h t e b) = init_in h ++ stmts_in b
  stmt_in (p.for_in i t e b) = heading_in t ++ stmts_in b
  stmt_in (p.return i e) = []
  stmt_in (p.throw i e) = []
  stmt_in (p.break i l) = []
  stmt_in (p.continue i l) = []
  stmt_in (p.label i l b) = stmts_in b
  stmt_in (p.switch i e cs) = cases_in cs
  stmt_in (p.try i b k f) = stmts_in b ++ (maybe_in k ++ maybe_in f)
  stmt_in (p.pay_stmt i x) = []

  pub stmts_in : Stmts → List ℕ
  stmts_in p.no_stmts = []
  stmts_in (p.more_stmts s ss) = stmt_in s ++ stmts_in ss

  pub maybe_in : MaybeStmts → List ℕ
  maybe_in p.absent = []
  maybe_in (p.present ss) = stmts_in ss

  pub cases_in : Cases → List ℕ
  cases_in p.no_cases = []
  cases_in (p.more_cases t b cs) = stmts_in b ++ cases_in cs

unfoldable pub order_of : Scope → List ℕ
unfolding count_from fresh stmts_in
order_of s = count_from 0 s.params ++ fresh (count_from 0 s.params) (stmts_in s.body)

abbrev pub frame_of : Scope → Frame
frame_of s = record { size = s.params + s.names; order = order_of s }

-- the frame of a catch clause or of an own name
abbrev pub single : Frame
single = record { size = 1; order = 0 ∷ [] }

abbrev pub owned : Bool → List Frame → List Frame
owned false c = c
owned true c = single ∷ c

-- ---- what is written

-- where the function's frame ends behind so many catch clauses
abbrev pub base_at : ℕ → List Frame → ℕ
base_at d [] = 0
base_at zero (l ∷ c) = base (sizes c)
base_at (suc d) (l ∷ c) = base_at d c

-- the name of a declared variable
abbrev pub own_name : Naming → (top : Bool) → ℕ → List Frame → ℕ → Name
own_name v true d c n = v.global n
own_name v false d c n = v.local (base_at d c + n)

-- a declared variable is the function's own, or a global in a chunk's own statements
pub data IsOwn (d : ℕ) : (top : Bool) → Ref → Type 0 where
  own_global : (n : ℕ) → IsOwn d true (Ref.Global n)
  own_place : (n : ℕ) → IsOwn d false (Ref.Frame d n)

module _ (v : Naming) (P : Program) (Known : ℕ → Type 0) where
  -- a variable that is mentioned is declared
  pub data Seen (c : List Frame) : Ref → Type 0 where
    seen_place : {up place n : ℕ} (l : Frame) → Nth l up c → place < l.size → rank place l.order ≡ Some n → Seen c (Ref.Frame up place)
    seen_global : {n : ℕ} → Known n → Seen c (Ref.Global n)

  pub data OwnN (c : List Frame) : Bool → Option Named → Type 0 where
    no_own : OwnN c false None
    has_own : (w : Named) → w.name ≡ v.local (base (sizes c) + 0) → OwnN c true (Some w)

  pub data KeyN : Key → RawKey → Type 0 where
    dotted_n : (k : ℕ) (m : Name) → name_of (tables_of P) (dotted k) ≡ m → KeyN (Key.Dotted k) (raw.dotted m)
    quoted_n : (t : Name) → KeyN (Key.Quoted t) (raw.quoted t)

  -- a function, with what is said of its scope
  pub record FunN (c : List Frame) (f : ℕ) (s : Scope) (own : Option Named) (ps : List Named) : Type 0 where
    pub stands : slice_get P.scopes f ≡ Some s
    pub own_name : OwnN c s.own own
    pub params : named ps ≡ shown v (base (sizes (owned s.own c))) (count_from 0 s.params)
    pub small : (n : ℕ) → In n (stmts_in s.body) → n < s.params + s.names

  mutual
    pub data ExprN : List Frame → Expr → RawExpr → Type 0 where
      lit_n : {c : List Frame} {i : ℕ} {q : Place} {x : Prim} → ExprN c (p.lit i x) (raw.lit q x)
      var_n : {c : List Frame} {i : ℕ} {q : Place} (r : Ref) → Seen c r → ExprN c (p.var i r) (raw.var q (name_at v c r))
      this_n : {c : List Frame} {i : ℕ} {q : Place} → ExprN c (p.this i) (raw.this q)
      fun_n : {c : List Frame} {i : ℕ} {q : Place} (f : ℕ) (s : Scope) (own : Option Named) (ps : List Named) {b : RawStmts} → FunN c f s own ps → StmtsN false 0 (frame_of s ∷ owned s.own c) s.body b → ExprN c (p.fun i f) (raw.fun q own ps b)
      list_n : {c : List Frame} {i : ℕ} {q : Place} {es : Exprs} {ds : RawExprs} → ExprsN c es ds → ExprN c (p.list i es) (raw.list q ds)
      object_n : {c : List Frame} {i : ℕ} {q : Place} {es : Fields} {ds : RawFields} → FieldsN c es ds → ExprN c (p.object i es) (raw.object q ds)
      unary_n : {c : List Frame} {i : ℕ} {q : Place} {op : UnOp} {e : Expr} {d : RawExpr} → ExprN c e d → ExprN c (p.unary i op e) (raw.unary q op d)
      binary_n : {c : List Frame} {i : ℕ} {q : Place} {op : BinOp} {a b : Expr} {x y : RawExpr} → ExprN c a x → ExprN c b y → ExprN c (p.binary i op a b) (raw.binary q op x y)
      and_n : {c : List Frame} {i : ℕ} {q : Place} {a b : Expr} {x y : RawExpr} → ExprN c a x → ExprN c b y → ExprN c (p.and i a b) (raw.and q x y)
      or_n : {c : List Frame} {i : ℕ} {q : Place} {a b : Expr} {x y : RawExpr} → ExprN c a x → ExprN c b y → ExprN c (p.or i a b) (raw.or q x y)
      cond_n : {c : List Frame} {i : ℕ} {q : Place} {t a b : Expr} {u x y : RawExpr} → ExprN c t u → ExprN c a x → ExprN c b y → ExprN c (p.cond i t a b) (raw.cond q u x y)
      assign_n : {c : List Frame} {i : ℕ} {q : Place} {op : Option BinOp} {t : Target} {u : RawTarget} {e : Expr} {d : RawExpr} → TargetN c t u → ExprN c e d → ExprN c (p.assign i op t e) (raw.assign q op u d)
      step_n : {c : List Frame} {i : ℕ} {q : Place} {up before : Bool} {t : Target} {u : RawTarget} → TargetN c t u → ExprN c (p.step i up before t) (raw.step q up before u)
      member_n : {c : List Frame} {i k : ℕ} {q r : Place} {e : Expr} {d : RawExpr} → ExprN c e d → (m : Name) → name_of (tables_of P) (dotted k) ≡ m → ExprN c (p.member i e k) (raw.member q d r m)
      index_n : {c : List Frame} {i : ℕ} {q : Place} {a b : Expr} {x y : RawExpr} → ExprN c a x → ExprN c b y → ExprN c (p.index i a b) (raw.index q x y)
      call_n : {c : List Frame} {i : ℕ} {q : Place} {e : Expr} {d : RawExpr} {es : Exprs} {ds : RawExprs} → ExprN c e d → ExprsN c es ds → ExprN c (p.call i e es) (raw.call q d ds)
      new_n : {c : List Frame} {i : ℕ} {q : Place} {e : Expr} {d : RawExpr} {es : Exprs} {ds : RawExprs} → ExprN c e d → ExprsN c es ds → ExprN c (p.new i e es) (raw.new q d ds)
      comma_n : {c : List Frame} {i : ℕ} {q : Place} {a b : Expr} {x y : RawExpr} → ExprN c a x → ExprN c b y → ExprN c (p.comma i a b) (raw.comma q x y)
      -- casts and price marks are left out; a minus and a `void` are read as their values
      cast_n : {c : List Frame} {i k : ℕ} {e : Expr} {d : RawExpr} → ExprN c e d → ExprN c (p.cast i k e) d
      tick_n : {c : List Frame} {i k : ℕ} {e : Expr} {d : RawExpr} → ExprN c e d → ExprN c (p.tick i k e) d
      minus_n : {c : List Frame} {i n : ℕ} {q r : Place} {e : Expr} → IsTrue (is_exact (negsuc n)) → ExprN c e (raw.lit r (p.whole (pos (suc n)))) → ExprN c (p.unary i Minus e) (raw.lit q (p.whole (negsuc n)))
      void_n : {c : List Frame} {i : ℕ} {q r : Place} {e : Expr} → ExprN c e (raw.lit r (p.whole (pos 0))) → ExprN c (p.unary i Void e) (raw.lit q p.undefined)

    pub data TargetN : List Frame → Target → RawTarget → Type 0 where
      to_var_n : {c : List Frame} {i : ℕ} {q : Place} (r : Ref) → Seen c r → TargetN c (p.to_var i r) (raw.to_var q (name_at v c r))
      to_member_n : {c : List Frame} {i k : ℕ} {q r : Place} {e : Expr} {d : RawExpr} → ExprN c e d → (m : Name) → name_of (tables_of P) (dotted k) ≡ m → TargetN c (p.to_member i e k) (raw.to_member q d r m)
      to_index_n : {c : List Frame} {i : ℕ} {q : Place} {a b : Expr} {x y : RawExpr} → ExprN c a x → ExprN c b y → TargetN c (p.to_index i a b) (raw.to_index q x y)

    pub data ExprsN : List Frame → Exprs → RawExprs → Type 0 where
      no_exprs_n : {c : List Frame} → ExprsN c p.no_exprs raw.no_exprs
      more_exprs_n : {c : List Frame} {e : Expr} {d : RawExpr} {es : Exprs} {ds : RawExprs} → ExprN c e d → ExprsN c es ds → ExprsN c (p.more_exprs e es) (raw.more_exprs d ds)

    pub data FieldsN : List Frame → Fields → RawFields → Type 0 where
      no_fields_n : {c : List Frame} → FieldsN c p.no_fields raw.no_fields
      more_fields_n : {c : List Frame} {q : Place} {k : Key} {l : RawKey} {e : Expr} {d : RawExpr} {es : Fields} {ds : RawFields} → KeyN k l → ExprN c e d → FieldsN c es ds → FieldsN c (p.more_fields k e es) (raw.more_fields q l d ds)

    pub data MaybeN : List Frame → Option Expr → MaybeExpr → Type 0 where
      no_expr_n : {c : List Frame} → MaybeN c None raw.no_expr
      one_expr_n : {c : List Frame} {e : Expr} {d : RawExpr} → ExprN c e d → MaybeN c (Some e) (raw.one_expr d)

    pub data VarsN : Bool → ℕ → List Frame → List Declarator → RawDeclarators → Type 0 where
      no_vars_n : {top : Bool} {d : ℕ} {c : List Frame} → VarsN top d c [] raw.no_declarators
      more_vars_n : {top : Bool} {d : ℕ} {c : List Frame} {i : ℕ} {r : Ref} {e : Option Expr} {m : MaybeExpr} {ds : List Declarator} {us : RawDeclarators} (w : Named) → IsOwn d top r → Seen c r → w.name ≡ name_at v c r → MaybeN c e m → VarsN top d c ds us → VarsN top d c ((record { site = i; variable = r; value = e }) ∷ ds) (raw.more_declarators w m us)

    pub data InitN : Bool → ℕ → List Frame → ForInit → RawInit → Type 0 where
      no_init_n : {top : Bool} {d : ℕ} {c : List Frame} → InitN top d c p.no_init raw.no_init
      init_value_n : {top : Bool} {d : ℕ} {c : List Frame} {e : Expr} {u : RawExpr} → ExprN c e u → InitN top d c (p.init_value e) (raw.init_value u)
      init_vars_n : {top : Bool} {d : ℕ} {c : List Frame} {ds : List Declarator} {us : RawDeclarators} → VarsN top d c ds us → InitN top d c (p.init_vars ds) (raw.init_vars us)

    pub data HeadingN : Bool → ℕ → List Frame → ForTarget → RawForTarget → Type 0 where
      in_target_n : {top : Bool} {d : ℕ} {c : List Frame} {t : Target} {u : RawTarget} → TargetN c t u → HeadingN top d c (p.in_target t) (raw.in_target u)
      in_declared_n : {top : Bool} {d : ℕ} {c : List Frame} {i : ℕ} {r : Ref} {e : Option Expr} {m : MaybeExpr} (w : Named) → IsOwn d top r → Seen c r → w.name ≡ name_at v c r → MaybeN c e m → HeadingN top d c (p.in_declared (record { site = i; variable = r; value = e })) (raw.in_declared w m)

    pub data StmtN : Bool → ℕ → List Frame → Stmt → RawStmt → Type 0 where
      simple_n : {top : Bool} {d : ℕ} {c : List Frame} {i : ℕ} {q : Place} {e : Expr} {u : RawExpr} → ExprN c e u → StmtN top d c (p.simple i e) (raw.simple q u)
      vars_n : {top : Bool} {d : ℕ} {c : List Frame} {i : ℕ} {q : Place} {ds : List Declarator} {us : RawDeclarators} → VarsN top d c ds us → StmtN top d c (p.vars i ds) (raw.vars q us)
      fun_decl_n : {top : Bool} {d : ℕ} {c : List Frame} {i : ℕ} {q : Place} {r : Ref} (w : Named) → IsOwn d top r → Seen c r → w.name ≡ name_at v c r → (f : ℕ) (s : Scope) (ps : List Named) {b : RawStmts} → FunN c f s None ps → StmtsN false 0 (frame_of s ∷ owned s.own c) s.body b → StmtN top d c (p.fun_decl i r f) (raw.fun_decl q w ps b)
      if_n : {top : Bool} {d : ℕ} {c : List Frame} {i : ℕ} {q : Place} {t : Expr} {u : RawExpr} {a b : Stmts} {x y : RawStmts} → ExprN c t u → StmtsN top d c a x → StmtsN top d c b y → StmtN top d c (p.if i t a b) (raw.if q u x y)
      while_n : {top : Bool} {d : ℕ} {c : List Frame} {i : ℕ} {q : Place} {t : Expr} {u : RawExpr} {b : Stmts} {y : RawStmts} → ExprN c t u → StmtsN top d c b y → StmtN top d c (p.while i t b) (raw.while q u y)
      do_while_n : {top : Bool} {d : ℕ} {c : List Frame} {i : ℕ} {q : Place} {t : Expr} {u : RawExpr} {b : Stmts} {y : RawStmts} → StmtsN top d c b y → ExprN c t u → StmtN top d c (p.do_while i b t) (raw.do_while q y u)
      for_n : {top : Bool} {d : ℕ} {c : List Frame} {i : ℕ} {q : Place} {h : ForInit} {k : RawInit} {t e : Option Expr} {u m : MaybeExpr} {b : Stmts} {y : RawStmts} → InitN top d c h k → MaybeN c t u → MaybeN c e m → StmtsN top d c b y → StmtN top d c (p.for i h t e b) (raw.for q k u m y)
      for_in_n : {top : Bool} {d : ℕ} {c : List Frame} {i : ℕ} {q : Place} {h : ForTarget} {k : RawForTarget} {e : Expr} {u : RawExpr} {b : Stmts} {y : RawStmts} → HeadingN top d c h k → ExprN c e u → StmtsN top d c b y → StmtN top d c (p.for_in i h e b) (raw.for_in q k u y)
      return_n : {top : Bool} {d : ℕ} {c : List Frame} {i : ℕ} {q : Place} {e : Option Expr} {m : MaybeExpr} → MaybeN c e m → StmtN top d c (p.return i e) (raw.return q m)
      throw_n : {top : Bool} {d : ℕ} {c : List Frame} {i : ℕ} {q : Place} {e : Expr} {u : RawExpr} → ExprN c e u → StmtN top d c (p.throw i e) (raw.throw q u)
      break_n : {top : Bool} {d : ℕ} {c : List Frame} {i : ℕ} {q : Place} {l : Option Name} → StmtN top d c (p.break i l) (raw.break q l)
      continue_n : {top : Bool} {d : ℕ} {c : List Frame} {i : ℕ} {q : Place} {l : Option Name} → StmtN top d c (p.continue i l) (raw.continue q l)
      label_n : {top : Bool} {d : ℕ} {c : List Frame} {i : ℕ} {q : Place} {l : Name} {b : Stmts} {y : RawStmts} → StmtsN top d c b y → StmtN top d c (p.label i l b) (raw.label q l y)
      switch_n : {top : Bool} {d : ℕ} {c : List Frame} {i : ℕ} {q : Place} {e : Expr} {u : RawExpr} {cs : Cases} {ds : RawCases} → ExprN c e u → CasesN top d c cs ds → StmtN top d c (p.switch i e cs) (raw.switch q u ds)
      try_n : {top : Bool} {d : ℕ} {c : List Frame} {i : ℕ} {q : Place} {b : Stmts} {y : RawStmts} {k f : MaybeStmts} {l : RawCatch} {g : RawFinally} → StmtsN top d c b y → CatchN top d c k l → FinallyN top d c f g → StmtN top d c (p.try i b k f) (raw.try q y l g)

    pub data StmtsN : Bool → ℕ → List Frame → Stmts → RawStmts → Type 0 where
      no_stmts_n : {top : Bool} {d : ℕ} {c : List Frame} → StmtsN top d c p.no_stmts raw.no_stmts
      more_stmts_n : {top : Bool} {d : ℕ} {c : List Frame} {s : Stmt} {t : RawStmt} {ss : Stmts} {ts : RawStmts} → StmtN top d c s t → StmtsN top d c ss ts → StmtsN top d c (p.more_stmts s ss) (raw.more_stmts t ts)
      pay_n : {top : Bool} {d : ℕ} {c : List Frame} {i x : ℕ} {ss : Stmts} {ts : RawStmts} → StmtsN top d c ss ts → StmtsN top d c (p.more_stmts (p.pay_stmt i x) ss) ts

    pub data CatchN : Bool → ℕ → List Frame → MaybeStmts → RawCatch → Type 0 where
      no_catch_n : {top : Bool} {d : ℕ} {c : List Frame} → CatchN top d c p.absent raw.no_catch
      caught_n : {top : Bool} {d : ℕ} {c : List Frame} {b : Stmts} {y : RawStmts} (w : Named) → w.name ≡ v.local (base (sizes c) + 0) → StmtsN top (suc d) (single ∷ c) b y → CatchN top d c (p.present b) (raw.caught w y)

    pub data FinallyN : Bool → ℕ → List Frame → MaybeStmts → RawFinally → Type 0 where
      no_finally_n : {top : Bool} {d : ℕ} {c : List Frame} → FinallyN top d c p.absent raw.no_finally
      finally_n : {top : Bool} {d : ℕ} {c : List Frame} {b : Stmts} {y : RawStmts} → StmtsN top d c b y → FinallyN top d c (p.present b) (raw.finally y)

    pub data CasesN : Bool → ℕ → List Frame → Cases → RawCases → Type 0 where
      no_cases_n : {top : Bool} {d : ℕ} {c : List Frame} → CasesN top d c p.no_cases raw.no_cases
      more_cases_n : {top : Bool} {d : ℕ} {c : List Frame} {t : Option Expr} {m : MaybeExpr} {b : Stmts} {y : RawStmts} {cs : Cases} {ds : RawCases} → MaybeN c t m → StmtsN top d c b y → CasesN top d c cs ds → CasesN top d c (p.more_cases t b cs) (raw.more_cases m y ds)

  -- the chunks from one on, each with its own statements
  pub data ChunksN : ℕ → List RawStmts → Type 0 where
    no_chunks_n : {c : ℕ} → ChunksN c []
    more_chunks_n : {c : ℕ} {t : RawStmts} {ts : List RawStmts} → StmtsN true 0 [] (body_of P c) t → ChunksN (suc c) ts → ChunksN c (t ∷ ts)

-- A program is like itself, wherever a kit ties each part to itself.
use Rattle.std.proofs.Common.{◌≡◌, refl, ap, ℕ, List, [], ◌∷◌, Option, Some, None}
use Rattle.cc_ast.specs.Syntax.{Prim, text, Expr, lit, var, this, fun, list, object, unary, binary, and, or, cond, assign, step, member, index, call, new, comma, cast, tick, Target, to_var, to_member, to_index, Exprs, no_exprs, more_exprs, Fields, no_fields, more_fields, Declarator, ForInit, no_init, init_value, init_vars, ForTarget, in_target, in_declared, Stmt, simple, vars, fun_decl, if, while, do_while, for, for_in, return, throw, break, continue, label, switch, try, pay_stmt, Stmts, no_stmts, more_stmts, MaybeStmts, absent, present, Cases, no_cases, more_cases}
use Rattle.cc_ast.specs.declared.operator.BinOp.{BinOp}
use Rattle.cc_ast.specs.declared.operator.UnOp.{UnOp}
use Rattle.cc_ast.specs.declared.operator.UnOp.TheVariants.{Delete}
use Rattle.cc_ast.specs.declared.tree.Ref.{Ref}
use Rattle.cc_ast.specs.declared.tree.Key.{Key}
use Rattle.cc_meaning.specs.Values.{Val}
use Rattle.cc_meaning.specs.State.{Path}
use Rattle.cc_meaning.specs.Store.{dotted, name_of}
use Rattle.cc_meaning.specs.Calls.{member_use}
use Rattle.cc_meaning.specs.Shapes.{longer, path_of, path_of_ref, path_of_target, path_of_key, literal_text, literal_key, site_of, declared_by}
use Rattle.cc_tied.proofs.Kit.{Kit}
use Rattle.cc_meaning.specs.Meaning.{Place}
use Rattle.cc_tied.specs.Tied.{variable_t, slot_t}
use Rattle.cc_tied.proofs.Parts.{SiteT, PathT, Below}
use Rattle.cc_tied.proofs.Expressions as E
use Rattle.cc_tied.proofs.Statements as S

-- what makes a program like itself
pub record LikeT (K : Kit) : Type 0 where
  pub sites : (i : ℕ) → SiteT K i i
  pub stands : (c : K.Ctx) (f : ℕ) → K.StandT c f f
  pub reads : (c : K.Ctx) (r : Ref) → K.ReadT c r r
  pub writes : (c : K.Ctx) (r : Ref) → K.WriteT c r r
  pub receivers : (c : K.Ctx) → K.ThisT c
  pub docs : (d : ℕ) → K.DocT d d
  pub paths : (p : Option Path) → PathT K p p
  pub dots : (w : K.World) (x : Val) (p : ℕ) → K.KeyT w x (dotted p) (dotted p)
  pub quotes : (t : List ℕ) → K.QuotedT t
  pub names : (p : ℕ) → name_of K.tables (dotted p) ≡ name_of K.tables' (dotted p)
  pub declares : (s : Stmt) → K.DeclaresT (declared_by K.tables s) (declared_by K.tables' s)

module _ (K : Kit) (L : LikeT K) (X : Below K) where
  open L use {sites, stands, reads, writes, receivers, docs, paths, dots, quotes, names}

  like_prop : (p : ℕ) → E.PropT K X p p
  like_prop p = record { keys = λ v l x y h. dots v x p; uses = λ b. ap (λ z. member_use b z) (names p) }

  like_key : (k : Key) → E.NewKeyT K X k k
  unfolding literal_key
  like_key (Key.Dotted p) = record { keys = λ v l x y h. dots v x p }
  like_key (Key.Quoted t) = record { keys = λ v l x y h. K.key_quoted x (quotes t) }

  like_brackets : (k : Expr) → E.BracketsT K X k k
  unfolding literal_text
  like_brackets (lit i (text t)) = E.texts_t (quotes t)
  like_brackets k = E.values_t refl refl

  module _ (c : K.Ctx) where
    read_by : (op : Option BinOp) {r r' : Ref} → K.ReadT c r r' → E.ReadsBy K X c op r r'
    read_by None rd = E.not_read
    read_by (Some op) rd = E.is_read rd

    place_as : (op : Option BinOp) {w : K.World} {a b : Place} → E.PlaceS K X c (K.ReadT c) w a b → E.PlaceS K X c (E.ReadsBy K X c op) w a b
    place_as op (E.known_t (variable_t s rd wr)) = E.known_t (variable_t s (read_by op rd) wr)
    place_as op (E.known_t (slot_t h)) = E.known_t (slot_t h)
    place_as op (E.served_t h) = E.served_t h

    -- a target of an assignment is read where there is an operator
    written_to : (op : Option BinOp) {t t' : Target} → E.FollowsTarget K X c (K.ReadT c) t t' → E.FollowsTarget K X c (E.ReadsBy K X c op) t t'
    written_to op h = record { by = λ v l g g' t. K.rel_as (λ u lu a b q. place_as op q) (h.by v l g g' t) }

    like_unary : (i : ℕ) (op : UnOp) (e : Expr) (p : Option Path) → E.FollowsRef K X c None None e e → E.FollowsRef K X c p p (unary i op e) (unary i op e)
    unfolding E.deletes
    like_unary i Delete e p h = E.follows_delete K X c (sites i) h
    like_unary i op e p h = E.follows_unary K X c (sites i) op refl (E.as_value K X c h)

    mutual
      pub like : (p : Option Path) (e : Expr) → E.FollowsRef K X c p p e e
      like p (lit i q) = E.follows_lit K X c q
      like p (var i r) = E.follows_var K X c (sites i) (reads c r)
      like p (this i) = E.follows_this K X c (sites i) (receivers c)
      like p (fun i f) = E.follows_fun K X c (sites i) (stands c f)
      like p (list i es) = E.follows_list K X c (like_all es)
      like p (object i fs) = E.follows_object K X c (like_fields p fs)
      like p (unary i op e) = like_unary i op e p (like None e)
      like p (binary i op a b) = E.follows_binary K X c (sites i) op (E.as_value K X c (like None a)) (E.as_value K X c (like None b))
      like p (and i a b) = E.follows_and K X c (E.as_value K X c (like None a)) (E.as_value K X c (like None b))
      like p (or i a b) = E.follows_or K X c (E.as_value K X c (like None a)) (E.as_value K X c (like None b))
      like p (cond i t a b) = E.follows_cond K X c (E.as_value K X c (like None t)) (E.as_value K X c (like None a)) (E.as_value K X c (like None b))
      like p (assign i op t e) = E.follows_assign K X c (sites i) op (written_to op (like_target t)) (E.as_value K X c (like (path_of_target t) e))
      like p (step i up prefix t) = E.follows_step K X c (sites i) up prefix (like_target t)
      like p (member i e q) = E.follows_member K X c (sites i) (paths (longer (path_of e) q)) (like_prop q) (E.on_reached K X c (like None e))
      like p (index i e k) = E.follows_index K X c (sites i) (E.as_value K X c (like None e)) (like_brackets k) (E.as_value K X c (like None k))
      like p (call i f es) = E.follows_call K X c (sites i) (like None f) (like_all es)
      like p (new i f es) = E.follows_new K X c (sites i) (E.as_value K X c (like None f)) (like_all es)
      like p (comma i a b) = E.follows_comma K X c (E.as_value K X c (like None a)) (E.as_value K X c (like None b))
      like p (cast i d e) = E.follows_cast K X c (sites i) (docs d) (like None e)
      like p (tick i q e) = E.follows_tick K X c q (like None e)

      like_all : (es : Exprs) → E.FollowsAll K X c es es
      like_all no_exprs = E.follows_no_exprs K X c
      like_all (more_exprs e es) = E.follows_more_exprs K X c (E.as_value K X c (like None e)) (like_all es)

      like_fields : (p : Option Path) (fs : Fields) → E.FollowsFields K X c p p fs fs
      like_fields p no_fields = E.follows_no_fields K X c
      like_fields p (more_fields k e fs) = E.follows_more_fields K X c (sites (site_of e)) (like_key k) (paths (path_of_key p k)) (E.as_value K X c (like (path_of_key p k) e)) (like_fields p fs)

      -- a target whose variable is read too
      like_target : (t : Target) → E.FollowsTarget K X c (K.ReadT c) t t
      like_target (to_var i r) = E.target_var K X c (sites i) (reads c r) (writes c r)
      like_target (to_member i e q) = E.target_member K X c (sites i) (paths (longer (path_of e) q)) (like_prop q) (E.as_value K X c (like None e))
      like_target (to_index i e k) = E.target_index K X c (sites i) (E.as_value K X c (like None e)) (like_brackets k) (E.as_value K X c (like None k))

    like_value : (e : Expr) → E.Follows K X c e e
    like_value e = E.as_value K X c (like None e)

    like_set : (i : ℕ) (r : Ref) (o : Option Expr) → S.FollowsSet K X c (record { site = i; variable = r; value = o }) (record { site = i; variable = r; value = o })
    like_set i r None = S.follows_bare K X c
    like_set i r (Some e) = S.follows_set K X c (sites i) (writes c r) (E.as_value K X c (like (path_of_ref r) e))

    like_decls : (ds : List Declarator) → S.FollowsDecls K X c ds ds
    like_decls [] = S.follows_no_decls K X c
    like_decls (d ∷ ds) = S.follows_more_decls K X c (like_set d.site d.variable d.value) (like_decls ds)

    like_init : (h : ForInit) → S.FollowsInit K X c h h
    like_init no_init = S.follows_no_init K X c
    like_init (init_value e) = S.follows_init_value K X c (like_value e)
    like_init (init_vars ds) = S.follows_init_vars K X c (like_decls ds)

    like_names : (t : ForTarget) → S.FollowsNames K X c t t
    like_names (in_target t) = S.follows_in_target K X c (like_target t)
    like_names (in_declared d) = S.follows_in_declared K X c (sites d.site) (writes c d.variable) (like_set d.site d.variable d.value)

    like_test : (o : Option Expr) → S.FollowsTest K X c o o
    like_test None = S.follows_no_test K X c
    like_test (Some e) = S.follows_test K X c (like_value e)

    like_only : (o : Option Expr) → S.FollowsOnly K X c o o
    like_only None = S.follows_no_only K X c
    like_only (Some e) = S.follows_only K X c (like_value e)

    like_return : (i : ℕ) (o : Option Expr) (ls : List (List ℕ)) → S.FollowsStmt K X c ls (return i o) (return i o)
    like_return i None ls = S.follows_return_none K X c (sites i)
    like_return i (Some e) ls = S.follows_return K X c (sites i) (like_value e)

    like_case : (o : Option Expr) (b : Stmts) (cs : Cases) → S.FollowsStmts K X c [] b b → S.FollowsCases K X c cs cs → S.FollowsCases K X c (more_cases o b cs) (more_cases o b cs)
    like_case None b cs h k = S.follows_default K X c h k
    like_case (Some e) b cs h k = S.follows_case K X c (like_value e) h k

    like_hoist_one : (s : Stmt) → S.FollowsHoistOne K X c s s
    unfolding S.declares_function
    like_hoist_one (fun_decl i r f) = S.hoist_fun K X c (sites i) (stands c f) (writes c r)
    like_hoist_one s = S.hoist_other K X c s s refl refl

    pub like_hoist : (ss : Stmts) → S.FollowsHoist K X c ss ss
    like_hoist no_stmts = S.hoist_no K X c
    like_hoist (more_stmts s ss) = S.hoist_more K X c (like_hoist_one s) (like_hoist ss)

  mutual
    pub like_stmt : (c : K.Ctx) (ls : List (List ℕ)) (s : Stmt) → S.FollowsStmt K X c ls s s
    like_stmt c ls (simple i e) = S.follows_simple K X c (like_value c e)
    like_stmt c ls (vars i ds) = S.follows_vars K X c (like_decls c ds)
    like_stmt c ls (fun_decl i r f) = S.follows_fun_decl K X c
    like_stmt c ls (if i t a b) = S.follows_if K X c (like_value c t) (like_stmts c [] a) (like_stmts c [] b)
    like_stmt c ls (while i t b) = S.follows_while K X c (like_test c (Some t)) (like_stmts c [] b)
    like_stmt c ls (do_while i b t) = S.follows_do_while K X c (like_stmts c [] b) (like_test c (Some t))
    like_stmt c ls (for i h t e b) = S.follows_for K X c (like_init c h) (like_test c t) (like_only c e) (like_stmts c [] b)
    like_stmt c ls (for_in i t e b) = S.follows_for_in K X c (sites i) (like_names c t) (like_value c e) (like_stmts c [] b)
    like_stmt c ls (return i o) = like_return c i o ls
    like_stmt c ls (throw i e) = S.follows_throw K X c (like_value c e)
    like_stmt c ls (break i l) = S.follows_break K X c l
    like_stmt c ls (continue i l) = S.follows_continue K X c l
    like_stmt c ls (label i l b) = S.follows_label K X c l (like_stmts c (l ∷ ls) b)
    like_stmt c ls (switch i e cs) = S.follows_switch K X c (like_value c e) (like_cases c cs)
    like_stmt c ls (try i b k f) = S.follows_try K X c (like_stmts c [] b) (like_catch c k) (like_finally c f)
    like_stmt c ls (pay_stmt i p) = S.follows_pay K X c p

    pub like_stmts : (c : K.Ctx) (ls : List (List ℕ)) (ss : Stmts) → S.FollowsStmts K X c ls ss ss
    like_stmts c ls no_stmts = S.follows_no_stmts K X c
    like_stmts c ls (more_stmts s ss) = S.follows_more_stmts K X c (like_stmt c ls s) (like_stmts c ls ss)

    like_catch : (c : K.Ctx) (k : MaybeStmts) → S.FollowsCatch K X c k k
    like_catch c absent = S.follows_no_catch K X c
    like_catch c (present b) = S.follows_catch K X c (like_stmts (K.in_catch c) [] b)

    like_finally : (c : K.Ctx) (k : MaybeStmts) → S.FollowsFinally K X c k k
    like_finally c absent = S.follows_no_finally K X c
    like_finally c (present b) = S.follows_finally K X c (like_stmts c [] b)

    like_cases : (c : K.Ctx) (cs : Cases) → S.FollowsCases K X c cs cs
    like_cases c no_cases = S.follows_no_cases K X c
    like_cases c (more_cases o b cs) = like_case c o b cs (like_stmts c [] b) (like_cases c cs)

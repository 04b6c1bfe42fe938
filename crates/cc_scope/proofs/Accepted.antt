-- What is written with names is not refused: each name means what was meant, and no variable is declared again.
use Rattle.std.proofs.Common.{◌≡◌, refl, sym, ap, ◌∙◌, subst, arith, ℕ, zero, suc, ◌+◌, ◌<◌, ◌≤◌, Bool, true, false, ◌&&◌, ◌||◌, List, [], ◌∷◌, ◌++◌, Option, Some, None}
use Rattle.std.specs.Prelude.{slice_get}
use Rattle.cc_ast.specs.declared.place.Place.{Place}
use Rattle.cc_ast.specs.declared.tree.Ref.{Ref}
use Rattle.cc_ast.specs.Syntax.{Prim, Expr, Target, Exprs, Fields, Declarator, ForInit, ForTarget, Stmt, Stmts, MaybeStmts, Cases, Scope, Program}
use Rattle.cc_ast.specs.Syntax as p
use Rattle.cc_meaning.specs.Alike.{In, here, there}
use Rattle.cc_meaning.specs.Operators.{is_in}
use Rattle.cc_meaning.specs.Names.{builtin_globals}
use Rattle.cc_meaning.specs.Monad.{pick}
use Rattle.cc_meaning.specs.State.{Tables, Path}
use Rattle.cc_meaning.specs.Store.{Built, Global, extern, built_in, of_chunk, global_kind}
use Rattle.cc_meaning.specs.Shapes.{tables_of, path_of, path_of_ref, longer}
use Rattle.cc_meaning.specs.Parts.{is_own_global, is_no_built, is_string, has_use, may_write, may_read, built_callee, global_at, is_use, expr_well, target_well, exprs_well, fields_well}
use Rattle.cc_meaning.specs.WellMade.{Open, opened, option_well, vars_well, some_vars, init_well, name_well, stmt_well, stmts_well, maybe_well, cases_well}
use Rattle.cc_grammar.specs.RawTree.{Named, RawExpr, RawTarget, RawExprs, MaybeExpr, RawFields, RawDeclarators, RawInit, RawForTarget, RawStmt, RawStmts, RawCatch, RawFinally, RawCases}
use Rattle.cc_scope.specs.Lists.{Name}
use Rattle.cc_scope.specs.Resolve.{Outer, Frames, lookup, global_named, inner, named}
use Rattle.cc_scope.specs.Refusals.{Refusal, Spot, global_of, read_by, write_by, global_meant, is_string_use, is_member_use, variable_meant, is_built_callee, declared_by, repeated, within, expr_refused, target_refused, exprs_refused, maybe_refused, fields_refused, vars_refused, init_refused, heading_refused, stmt_refused, stmts_refused, catch_refused, finally_refused, cases_refused}
use Rattle.cc_scope.specs.Written as n
use Rattle.cc_scope.specs.Written.{Naming, Apart, Frame, sizes, base, name_at, shown, count_from, stmts_in, stmt_in, vars_in, init_in, heading_in, maybe_in, cases_in, number_of, frame_of, single, owned, base_at, IsOwn, own_global, own_place, Seen, seen_place, seen_global, FunN, ExprN, TargetN, ExprsN, FieldsN, MaybeN, VarsN, InitN, HeadingN, StmtN, StmtsN, CatchN, FinallyN, CasesN}
use Rattle.cc_scope.proofs.Names.{env, resolves, resolves_global}
use Rattle.cc_scope.proofs.Declared.{in_left, in_right, frame_is, slot_base}
use Rattle.cc_scope.proofs.Globals.{not_in}

both : {a b : Bool} → a && b ≡ true → (a ≡ true) × (b ≡ true)
both {a = true} e = (refl, e)
both {a = false} e = absurd (cc)

none_two : {A : Type 0} {xs ys : List A} → xs ≡ [] → ys ≡ [] → xs ++ ys ≡ []
none_two {xs} {ys} e h = ap (λ zs. zs ++ ys) e ∙ h

-- ---- a global of one sort in both

pub data SameSort : Global → Global → Type 0 where
  same_extern : SameSort extern extern
  same_built : (b : Built) → SameSort (built_in b) (built_in b)
  same_chunk : (c d : ℕ) → SameSort (of_chunk c) (of_chunk d)

pub same_read : {g h : Global} → SameSort g h → is_no_built g ≡ true → is_no_built h ≡ true
unfolding is_no_built
same_read same_extern e = refl
same_read (same_built b) e = e
same_read (same_chunk c d) e = refl

pub same_write : {g h : Global} → SameSort g h → is_own_global g ≡ true → is_own_global h ≡ true
unfolding is_own_global
same_write same_extern e = e
same_write (same_built b) e = e
same_write (same_chunk c d) e = refl

pub same_string : {g h : Global} → SameSort g h → is_string g ≡ true → is_string h ≡ true
unfolding is_string
same_string same_extern e = e
same_string (same_built b) e = e
same_string (same_chunk c d) e = absurd (cc)

pub same_use : {g h : Global} (x : Name) → SameSort g h → has_use g x ≡ true → has_use h x ≡ true
unfolding has_use
same_use x same_extern e = e
same_use x (same_built b) e = e
same_use x (same_chunk c d) e = absurd (cc)

-- ---- parameters have different names

unrepeated : (v : Naming) → Apart v → (b k m : ℕ) (ns : List Name) (ps : List Named) → ((x : Name) → In x ns → (i : ℕ) × (i < k) × (x ≡ v.local (b + i))) → named ps ≡ shown v b (count_from k m) → repeated ns ps ≡ []
unfolding repeated named count_from
unrepeated v a b k m ns [] h e = refl
unrepeated v a b k zero ns (w ∷ ps) h e = absurd (cc)
unrepeated v a b k (suc m) ns (w ∷ ps) h e =
    let first : w.name ≡ v.local (b + k) = ap head_or_none e in
    let rest : named ps ≡ shown v b (count_from (suc k) m) = ap tail_of e in
    rw (not_in w.name ns (λ i. let d = h w.name i in let z = a.local (b + k) (b + d.0) (sym first ∙ d.2) in let l = d.1 in absurd (omega arith)))
    (unrepeated v a b (suc k) m (w.name ∷ ns) ps (more first) rest) where
      head_or_none : List Name → Name
      head_or_none [] = []
      head_or_none (x ∷ xs) = x

      tail_of : List Name → List Name
      tail_of [] = []
      tail_of (x ∷ xs) = xs

      more : w.name ≡ v.local (b + k) → (x : Name) → In x (w.name ∷ ns) → (i : ℕ) × (i < suc k) × (x ≡ v.local (b + i))
      more f x here = (k, omega arith, f)
      more f x (there i) = let d = h x i in let l = d.1 in (d.0, omega arith, d.2)

-- ---- variables of open catch clauses

-- the size of the function's frame behind so many catch clauses
abbrev pub size_at : ℕ → List Frame → ℕ
size_at d [] = 0
size_at zero (l ∷ c) = l.size
size_at (suc d) (l ∷ c) = size_at d c

base_below : (d : ℕ) (c : List Frame) → base_at d c + size_at d c ≤ base (sizes c)
base_below d [] = omega arith
base_below zero (l ∷ c) = omega arith
base_below (suc d) (l ∷ c) = let h = base_below d c in omega arith

-- the catch clauses that are open in a function, with their names
pub data Caught (v : Naming) : ℕ → List Frame → List Name → Type 0 where
  no_caught : {c : List Frame} → Caught v zero c []
  more_caught : {d : ℕ} {c : List Frame} {x : Name} {ns : List Name} → x ≡ v.local (base (sizes c) + 0) → Caught v d c ns → Caught v (suc d) (single ∷ c) (x ∷ ns)

global_uncaught : {v : Naming} {d : ℕ} {c : List Frame} {ns : List Name} → Apart v → Caught v d c ns → (i : ℕ) → In (v.global i) ns → ⊥
global_uncaught a no_caught i h = elim h [ ]
global_uncaught {v} {c = _ ∷ c} {ns = x ∷ ns} a (more_caught e k) i h = by (global_uncaught a k i) h refl where
  by : {y : Name} → (In (v.global i) ns → ⊥) → In y (x ∷ ns) → v.global i ≡ y → ⊥
  by f here d = a.mixed _ i (sym e ∙ sym d)
  by f (there j) d = f (subst (λ z. In z ns) (sym d) j)

local_uncaught : {v : Naming} {d : ℕ} {c : List Frame} {ns : List Name} → Apart v → Caught v d c ns → (i : ℕ) → i < size_at d c → In (v.local (base_at d c + i)) ns → ⊥
local_uncaught a no_caught i l h = elim h [ ]
local_uncaught {v} {d = suc d} {c = _ ∷ c} {ns = x ∷ ns} a (more_caught e k) i l h = by (local_uncaught a k i l) h refl where
  by : {y : Name} → (In (v.local (base_at d c + i)) ns → ⊥) → In y (x ∷ ns) → v.local (base_at d c + i) ≡ y → ⊥
  by g here f = let z = a.local (base_at d c + i) (base (sizes c) + 0) (f ∙ e) in let b = base_below d c in absurd (omega arith)
  by g (there j) f = g (subst (λ z. In z ns) (sym f) j)

module _ (v : Naming) (apart : Apart v) (P : Program) (W : Outer) (Known : ℕ → Type 0) (Declared : ℕ → Type 0)
    (sorts : (i : ℕ) → Known i → (j : ℕ) × (global_named W (v.global i) ≡ Some (Ref.Global j)) × SameSort (global_kind (tables_of P) i) (global_of W j))
    (inside_out : (i : ℕ) → Declared i → is_in (v.global i) W.externs || is_in (v.global i) builtin_globals ≡ false)
    (well : (f : ℕ) (s : Scope) → slice_get P.scopes f ≡ Some s → stmts_well (tables_of P) (opened P f) [] s.body ≡ true) where
  abbrev T : Tables
  T = tables_of P

  abbrev spot : Bool → List Frame → List Name → Spot
  spot top c ns = record { frames = env v c; caught = ns; top = top }

  -- ---- one name

  reads : {c : List Frame} (r : Ref) (q : Place) → Seen v P Known c r → may_read T r ≡ true → read_by W (name_at v c r) q (lookup W (env v c) (name_at v c r)) ≡ []
  unfolding may_read read_by
  reads {c} (Ref.Frame up i) q (seen_place {n = j} l h lt e) w = ap (read_by W (name_at v c (Ref.Frame up i)) q) (resolves v apart W c up i j l h lt e)
  reads {c} (Ref.Global i) q (seen_global k) w =
      let d = sorts i k in
      ap (read_by W (v.global i) q) (resolves_global v apart W c i d.0 d.1) ∙ rw (same_read d.2 w) refl

  writes : {c : List Frame} (r : Ref) (q : Place) → Seen v P Known c r → may_write T r ≡ true → write_by W (name_at v c r) q (lookup W (env v c) (name_at v c r)) ≡ []
  unfolding may_write write_by
  writes {c} (Ref.Frame up i) q (seen_place {n = j} l h lt e) w = ap (write_by W (name_at v c (Ref.Frame up i)) q) (resolves v apart W c up i j l h lt e)
  writes {c} (Ref.Global i) q (seen_global k) w =
      let d = sorts i k in
      ap (write_by W (v.global i) q) (resolves_global v apart W c i d.0 d.1) ∙ rw (same_write d.2 w) refl

  -- what a chunk's own statement or a function declares is none of the outside, and none that is caught
  abbrev pub Fresh : Bool → ℕ → List Frame → ℕ → Type 0
  Fresh true d c i = Declared i
  Fresh false d c i = i < size_at d c

  declares : {top : Bool} {d : ℕ} {c : List Frame} {ns : List Name} (r : Ref) (w : Named) → IsOwn d top r → w.name ≡ name_at v c r → Caught v d c ns → Fresh top d c (number_of r) → declared_by W (spot top c ns) w ≡ []
  unfolding declared_by number_of
  declares {c} {ns} r w (own_global i) e k h = rw e (rw (inside_out i h) (rw (not_in (v.global i) ns (λ j. global_uncaught apart k i j)) refl))
  declares {d} {c} {ns} r w (own_place i) e k h = rw (e ∙ ap v.local (slot_base v P Known c d i)) (rw (not_in (v.local (base_at d c + i)) ns (λ j. local_uncaught apart k i h j)) refl)

  -- ---- what is called

  string_called : {c : List Frame} (r : Ref) → Seen v P Known c r → (i : ℕ) → built_callee T (p.var i r) ≡ true → is_string_use (global_meant W (lookup W (env v c) (name_at v c r))) ≡ true
  unfolding built_callee is_string_use global_meant
  string_called (Ref.Frame up n) s i e = absurd (cc)
  string_called {c} (Ref.Global n) (seen_global k) i e = let d = sorts n k in ap (λ o. is_string_use (global_meant W o)) (resolves_global v apart W c n d.0 d.1) ∙ same_string d.2 e

  member_called : {c : List Frame} (e : Expr) (d : RawExpr) → ExprN v P Known c e d → (x : Name) → is_use (global_at T (path_of e)) x ≡ true → is_member_use (variable_meant W (env v c) d) x ≡ true
  unfolding is_use global_at path_of path_of_ref longer variable_meant is_member_use global_meant
  member_called {c} _ _ (n.var_n (Ref.Global i) (seen_global k)) x e = let d = sorts i k in ap (λ o. is_member_use (global_meant W o) x) (resolves_global v apart W c i d.0 d.1) ∙ same_use x d.2 e
  member_called _ _ (n.var_n (Ref.Frame up i) y) x e = absurd (cc)
  member_called _ _ (n.member_n {k} {e = f} h m d) x e = absurd (no_path (path_of f) e) where
    no_path : (o : Option Path) → is_use (global_at T (longer o k)) x ≡ true → ⊥
    no_path None e = cc
    no_path (Some w) e = by w.1 e where
      by : (ps : List ℕ) → is_use (global_at T (Some (w.0, ps ++ k ∷ []))) x ≡ true → ⊥
      by [] e = cc
      by (q ∷ ps) e = cc
  member_called _ _ n.lit_n x e = absurd (cc)
  member_called _ _ n.this_n x e = absurd (cc)
  member_called _ _ (n.fun_n f s own ps k h) x e = absurd (cc)
  member_called _ _ (n.list_n h) x e = absurd (cc)
  member_called _ _ (n.object_n h) x e = absurd (cc)
  member_called _ _ (n.unary_n h) x e = absurd (cc)
  member_called _ _ (n.binary_n h j) x e = absurd (cc)
  member_called _ _ (n.and_n h j) x e = absurd (cc)
  member_called _ _ (n.or_n h j) x e = absurd (cc)
  member_called _ _ (n.cond_n h j k) x e = absurd (cc)
  member_called _ _ (n.assign_n h j) x e = absurd (cc)
  member_called _ _ (n.step_n h) x e = absurd (cc)
  member_called _ _ (n.index_n h j) x e = absurd (cc)
  member_called _ _ (n.call_n h j) x e = absurd (cc)
  member_called _ _ (n.new_n h j) x e = absurd (cc)
  member_called _ _ (n.comma_n h j) x e = absurd (cc)
  member_called _ _ (n.cast_n h) x e = absurd (cc)
  member_called _ _ (n.tick_n h) x e = absurd (cc)
  member_called _ _ (n.minus_n ok h) x e = absurd (cc)
  member_called _ _ (n.void_n h) x e = absurd (cc)

  called : {c : List Frame} {e : Expr} {d : RawExpr} → ExprN v P Known c e d → built_callee T e ≡ true → is_built_callee W (env v c) d ≡ true
  unfolding built_callee is_built_callee
  called (n.var_n {i} r y) e = string_called r y i e
  called (n.member_n {e = f} {d} h m k) e = member_called f d h m (subst (λ y. is_use (global_at T (path_of f)) y ≡ true) k e)
  called n.lit_n e = absurd (cc)
  called n.this_n e = absurd (cc)
  called (n.fun_n f s own ps k h) e = absurd (cc)
  called (n.list_n h) e = absurd (cc)
  called (n.object_n h) e = absurd (cc)
  called (n.unary_n h) e = absurd (cc)
  called (n.binary_n h j) e = absurd (cc)
  called (n.and_n h j) e = absurd (cc)
  called (n.or_n h j) e = absurd (cc)
  called (n.cond_n h j k) e = absurd (cc)
  called (n.assign_n h j) e = absurd (cc)
  called (n.step_n h) e = absurd (cc)
  called (n.index_n h j) e = absurd (cc)
  called (n.call_n h j) e = absurd (cc)
  called (n.new_n h j) e = absurd (cc)
  called (n.comma_n h j) e = absurd (cc)
  called (n.cast_n h) e = absurd (cc)
  called (n.tick_n h) e = absurd (cc)
  called (n.minus_n ok h) e = absurd (cc)
  called (n.void_n h) e = absurd (cc)

  -- a callee is one of the language's own, or an expression that isn't refused
  callee : (b x y : Bool) (rs : List Refusal) → b || x ≡ true → (b ≡ true → y ≡ true) → (x ≡ true → rs ≡ []) → pick y [] rs ≡ []
  callee b x true rs e f g = refl
  callee true x false rs e f g = absurd (let z = f refl in cc)
  callee false x false rs e f g = g e

  -- ---- the induction

  -- the frames of a function's body
  in_body : (c : List Frame) (E : Frames) (b : RawStmts) → E ≡ env v c → stmts_refused W (spot false c []) b ≡ [] → stmts_refused W (record { frames = E; caught = []; top = false }) b ≡ []
  in_body c E b e h = ap (λ F. stmts_refused W (record { frames = F; caught = []; top = false }) b) e ∙ h

  -- a catch clause leaves the function's frame
  deeper : (top : Bool) (d : ℕ) (c : List Frame) (i : ℕ) → Fresh top d c i → Fresh top (suc d) (single ∷ c) i
  deeper true d c i h = h
  deeper false d c i h = h

  function : (c : List Frame) (f : ℕ) (s : Scope) (own : Option Named) (ps : List Named) (b : RawStmts) → FunN v P Known c f s own ps → StmtsN v P Known false 0 (frame_of s ∷ owned s.own c) s.body b
      → stmts_refused W (spot false (frame_of s ∷ owned s.own c) []) b ≡ [] → repeated [] ps ++ stmts_refused W (record { frames = inner own ps b (env v c); caught = []; top = false }) b ≡ []
  function c f s own ps b k h e = none_two
      (unrepeated v apart (base (sizes (owned s.own c))) 0 s.params [] ps (λ x i. elim i [ ]) k.params)
      (in_body (frame_of s ∷ owned s.own c) (inner own ps b (env v c)) b (frame_is v apart P Known f s own ps b k h) e)

  mutual
    unfolding expr_refused expr_well within option_well vars_well vars_in some_vars init_well init_in name_well heading_in stmt_well stmt_in

    expr : {c : List Frame} (top : Bool) (ns : List Name) {s : Expr} {t : RawExpr} → ExprN v P Known c s t → expr_well T s ≡ true → expr_refused W (spot top c ns) t ≡ []
    expr top ns n.lit_n w = refl
    expr top ns (n.var_n {q} r y) w = reads r q y w
    expr top ns n.this_n w = refl
    expr {c} top ns (n.fun_n f s own ps {b} k h) w = function c f s own ps b k h (stmts _ _ no_caught k.small h (well f s k.stands))
    expr top ns (n.list_n h) w = exprs _ _ h w
    expr top ns (n.object_n h) w = fields _ _ h w
    expr top ns (n.unary_n h) w = expr _ _ h (both w).1
    expr top ns (n.binary_n h j) w = none_two (expr _ _ h (both w).0) (expr _ _ j (both w).1)
    expr top ns (n.and_n h j) w = none_two (expr _ _ h (both w).0) (expr _ _ j (both w).1)
    expr top ns (n.or_n h j) w = none_two (expr _ _ h (both w).0) (expr _ _ j (both w).1)
    expr top ns (n.cond_n h j k) w = none_two (expr _ _ h (both (both w).0).0) (none_two (expr _ _ j (both (both w).0).1) (expr _ _ k (both w).1))
    expr top ns (n.assign_n h j) w = none_two (target _ _ h (both (both w).0).1) (expr _ _ j (both w).1)
    expr top ns (n.step_n h) w = target _ _ h w
    expr top ns (n.member_n h m d) w = expr _ _ h w
    expr top ns (n.index_n h j) w = none_two (expr _ _ h (both w).0) (expr _ _ j (both w).1)
    expr {c} top ns (n.call_n {e} {d} h j) w = none_two (callee (built_callee T e) (expr_well T e) (is_built_callee W (env v c) d) (expr_refused W (spot top c ns) d) (both w).0 (called h) (expr _ _ h)) (exprs _ _ j (both w).1)
    expr top ns (n.new_n h j) w = none_two (expr _ _ h (both w).0) (exprs _ _ j (both w).1)
    expr top ns (n.comma_n h j) w = none_two (expr _ _ h (both w).0) (expr _ _ j (both w).1)
    expr top ns (n.cast_n h) w = expr _ _ h w
    expr top ns (n.tick_n h) w = expr _ _ h w
    expr top ns (n.minus_n ok h) w = refl
    expr top ns (n.void_n h) w = refl

    target : {c : List Frame} (top : Bool) (ns : List Name) {s : Target} {t : RawTarget} → TargetN v P Known c s t → target_well T s ≡ true → target_refused W (spot top c ns) t ≡ []
    target top ns (n.to_var_n {q} r y) w = writes r q y w
    target top ns (n.to_member_n h m d) w = expr _ _ h w
    target top ns (n.to_index_n h j) w = none_two (expr _ _ h (both w).0) (expr _ _ j (both w).1)

    exprs : {c : List Frame} (top : Bool) (ns : List Name) {s : Exprs} {t : RawExprs} → ExprsN v P Known c s t → exprs_well T s ≡ true → exprs_refused W (spot top c ns) t ≡ []
    exprs top ns n.no_exprs_n w = refl
    exprs top ns (n.more_exprs_n h j) w = none_two (expr _ _ h (both w).0) (exprs _ _ j (both w).1)

    fields : {c : List Frame} (top : Bool) (ns : List Name) {s : Fields} {t : RawFields} → FieldsN v P Known c s t → fields_well T s ≡ true → fields_refused W (spot top c ns) t ≡ []
    fields top ns n.no_fields_n w = refl
    fields top ns (n.more_fields_n k h j) w = none_two (expr _ _ h (both w).0) (fields _ _ j (both w).1)

    maybe : {c : List Frame} (top : Bool) (ns : List Name) {s : Option Expr} {t : MaybeExpr} → MaybeN v P Known c s t → option_well T s ≡ true → maybe_refused W (spot top c ns) t ≡ []
    maybe top ns n.no_expr_n w = refl
    maybe top ns (n.one_expr_n h) w = expr _ _ h w

    variables : {top : Bool} {d : ℕ} {c : List Frame} {ns : List Name} {s : List Declarator} {t : RawDeclarators} → Caught v d c ns → ((i : ℕ) → In i (vars_in s) → Fresh top d c i) → VarsN v P Known top d c s t → vars_well T s ≡ true → vars_refused W (spot top c ns) t ≡ []
    variables k g n.no_vars_n w = refl
    variables k g (n.more_vars_n {r} u o y e h j) w = none_two (declares r u o e k (g _ here)) (none_two (maybe _ _ h (both w).0) (variables k (λ i x. g i (there x)) j (both w).1))

    some : {top : Bool} {d : ℕ} {c : List Frame} {ns : List Name} {s : List Declarator} {t : RawDeclarators} → Caught v d c ns → ((i : ℕ) → In i (vars_in s) → Fresh top d c i) → VarsN v P Known top d c s t → some_vars T s ≡ true → vars_refused W (spot top c ns) t ≡ []
    some k g n.no_vars_n w = refl
    some k g (n.more_vars_n {r} u o y e h j) w = none_two (declares r u o e k (g _ here)) (none_two (maybe _ _ h (both w).0) (variables k (λ i x. g i (there x)) j (both w).1))

    init : {top : Bool} {d : ℕ} {c : List Frame} {ns : List Name} {s : ForInit} {t : RawInit} → Caught v d c ns → ((i : ℕ) → In i (init_in s) → Fresh top d c i) → InitN v P Known top d c s t → init_well T s ≡ true → init_refused W (spot top c ns) t ≡ []
    init k g n.no_init_n w = refl
    init k g (n.init_value_n h) w = expr _ _ h w
    init k g (n.init_vars_n h) w = some k g h w

    heading : {top : Bool} {d : ℕ} {c : List Frame} {ns : List Name} {s : ForTarget} {t : RawForTarget} → Caught v d c ns → ((i : ℕ) → In i (heading_in s) → Fresh top d c i) → HeadingN v P Known top d c s t → name_well T s ≡ true → heading_refused W (spot top c ns) t ≡ []
    heading k g (n.in_target_n h) w = target _ _ h w
    heading k g (n.in_declared_n {r} u o y e h) w = none_two (declares r u o e k (g _ here)) (maybe _ _ h w)

    stmt : {top : Bool} {d : ℕ} {c : List Frame} {ns : List Name} (o : Open) (ls : List (List ℕ)) {s : Stmt} {t : RawStmt} → Caught v d c ns → ((i : ℕ) → In i (stmt_in s) → Fresh top d c i) → StmtN v P Known top d c s t → stmt_well T o ls s ≡ true → stmt_refused W (spot top c ns) t ≡ []
    stmt _ _ k g (n.simple_n h) w = expr _ _ h w
    stmt _ _ k g (n.vars_n h) w = some k g h w
    stmt {c} _ _ k g (n.fun_decl_n {r} u o y e f s ps {b} a h) w = none_two (declares r u o e k (g _ here)) (function c f s None ps b a h (stmts _ _ no_caught a.small h (well f s a.stands)))
    stmt _ _ k g (n.if_n {a} {b} h j l) w = none_two (expr _ _ h (both (both w).0).0) (none_two (stmts _ _ k (λ i x. g i (in_left (stmts_in a) (stmts_in b) x)) j (both (both w).0).1) (stmts _ _ k (λ i x. g i (in_right (stmts_in a) (stmts_in b) x)) l (both w).1))
    stmt _ _ k g (n.while_n h j) w = none_two (expr _ _ h (both w).0) (stmts _ _ k g j (both w).1)
    stmt _ _ k g (n.do_while_n h j) w = none_two (stmts _ _ k g h (both w).1) (expr _ _ j (both w).0)
    stmt _ _ k g (n.for_n {h = z} {b} h j l m) w = none_two (init k (λ i x. g i (in_left (init_in z) (stmts_in b) x)) h (both (both (both w).0).0).0) (none_two (maybe _ _ j (both (both (both w).0).0).1) (none_two (maybe _ _ l (both (both w).0).1) (stmts _ _ k (λ i x. g i (in_right (init_in z) (stmts_in b) x)) m (both w).1)))
    stmt _ _ k g (n.for_in_n {h = z} {b} h j l) w = none_two (heading k (λ i x. g i (in_left (heading_in z) (stmts_in b) x)) h (both (both w).0).0) (none_two (expr _ _ j (both (both w).0).1) (stmts _ _ k (λ i x. g i (in_right (heading_in z) (stmts_in b) x)) l (both w).1))
    stmt _ _ k g (n.return_n h) w = maybe _ _ h (both w).1
    stmt _ _ k g (n.throw_n h) w = expr _ _ h w
    stmt _ _ k g n.break_n w = refl
    stmt _ _ k g n.continue_n w = refl
    stmt _ _ k g (n.label_n h) w = stmts _ _ k g h (both w).1
    stmt _ _ k g (n.switch_n h j) w = none_two (expr _ _ h (both (both w).0).0) (cases _ k g j (both w).1)
    stmt _ _ k g (n.try_n {b} {k = x} {f = y} h j l) w = none_two (stmts _ _ k (λ i z. g i (in_left (stmts_in b) (maybe_in x ++ maybe_in y) z)) h (both (both (both w).0).0).1)
        (none_two (catch _ k (λ i z. g i (in_right (stmts_in b) (maybe_in x ++ maybe_in y) (in_left (maybe_in x) (maybe_in y) z))) j (both (both w).0).1)
        (finally _ k (λ i z. g i (in_right (stmts_in b) (maybe_in x ++ maybe_in y) (in_right (maybe_in x) (maybe_in y) z))) l (both w).1))

    pub stmts : {top : Bool} {d : ℕ} {c : List Frame} {ns : List Name} (o : Open) (ls : List (List ℕ)) {s : Stmts} {t : RawStmts} → Caught v d c ns → ((i : ℕ) → In i (stmts_in s) → Fresh top d c i) → StmtsN v P Known top d c s t → stmts_well T o ls s ≡ true → stmts_refused W (spot top c ns) t ≡ []
    stmts _ _ k g n.no_stmts_n w = refl
    stmts _ _ k g (n.more_stmts_n {s} {ss} h j) w = none_two (stmt _ _ k (λ i x. g i (in_left (stmt_in s) (stmts_in ss) x)) h (both w).0) (stmts _ _ k (λ i x. g i (in_right (stmt_in s) (stmts_in ss) x)) j (both w).1)
    stmts o ls k g (n.pay_n h) w = stmts o ls k g h w

    catch : {top : Bool} {d : ℕ} {c : List Frame} {ns : List Name} (o : Open) {s : MaybeStmts} {t : RawCatch} → Caught v d c ns → ((i : ℕ) → In i (maybe_in s) → Fresh top d c i) → CatchN v P Known top d c s t → maybe_well T o s ≡ true → catch_refused W (spot top c ns) t ≡ []
    catch _ k g n.no_catch_n w = refl
    catch {top} {d} {c} {ns} _ k g (n.caught_n {y = b} u e h) w = ap (λ x. stmts_refused W (record { frames = (x ∷ []) ∷ env v c; caught = u.name ∷ ns; top = top }) b) e ∙ stmts _ _ (more_caught e k) (λ i x. deeper top d c i (g i x)) h w

    finally : {top : Bool} {d : ℕ} {c : List Frame} {ns : List Name} (o : Open) {s : MaybeStmts} {t : RawFinally} → Caught v d c ns → ((i : ℕ) → In i (maybe_in s) → Fresh top d c i) → FinallyN v P Known top d c s t → maybe_well T o s ≡ true → finally_refused W (spot top c ns) t ≡ []
    finally _ k g n.no_finally_n w = refl
    finally _ k g (n.finally_n h) w = stmts _ _ k g h w

    cases : {top : Bool} {d : ℕ} {c : List Frame} {ns : List Name} (o : Open) {s : Cases} {t : RawCases} → Caught v d c ns → ((i : ℕ) → In i (cases_in s) → Fresh top d c i) → CasesN v P Known top d c s t → cases_well T o s ≡ true → cases_refused W (spot top c ns) t ≡ []
    cases _ k g n.no_cases_n w = refl
    cases _ k g (n.more_cases_n {b} {cs} h j l) w = none_two (maybe _ _ h (both (both w).0).0) (none_two (stmts _ _ k (λ i x. g i (in_left (stmts_in b) (cases_in cs) x)) j (both (both w).0).1) (cases _ k (λ i x. g i (in_right (stmts_in b) (cases_in cs) x)) l (both w).1))

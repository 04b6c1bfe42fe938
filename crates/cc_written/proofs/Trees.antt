-- The tree of a program under names stands for the program's trees, where the parts that stand in them do.
use Rattle.std.specs.Prelude.{◌≡◌, ℕ, zero, suc, pos, negsuc, ◌+◌, ◌<◌, ◌≤◌, ◌^◌, Bool, true, false, IsTrue, nat_lt, List, [], ◌∷◌, ◌++◌, length, drop, Option, Some, None, slice_get}
use Rattle.std.proofs.Common.{refl, sym, ap, ◌∙◌, subst, arith}
use Rattle.std.proofs.lemmas.Bool.Decides.{nat_tests}
use Rattle.cc_ast.specs.declared.operator.UnOp.{UnOp}
use Rattle.cc_ast.specs.declared.operator.UnOp.TheVariants as u
use Rattle.cc_ast.specs.declared.tree.Ref.{Ref}
use Rattle.cc_ast.specs.declared.tree.Key.{Key}
use Rattle.cc_ast.specs.declared.tree.Key.TheVariants.{Dotted, Quoted}
use Rattle.cc_ast.specs.declared.tables.PropInfo.{PropInfo}
use Rattle.cc_ast.specs.Syntax as S
use Rattle.cc_meaning.specs.State.{Tables}
use Rattle.cc_meaning.specs.Operators.{is_exact}
use Rattle.cc_meaning.specs.Store.{dotted, name_of, prop_name}
use Rattle.cc_meaning.specs.Shapes.{tables_of}
use Rattle.cc_meaning.specs.Alike.{Nth, first, later}
use Rattle.cc_meaning.specs.Parts.{Part, mentions, declares, makes, key_parts, method_in, expr_parts, target_parts, exprs_parts, fields_parts, option_parts, vars_parts, init_parts, name_parts, stmt_parts, stmts_parts, maybe_parts, cases_parts}
use Rattle.cc_grammar.specs.Symbols.{nowhere}
use Rattle.cc_grammar.specs.RawTree.{RawExpr}
use Rattle.cc_grammar.specs.RawTree as raw
use Rattle.cc_grammar.specs.Signs.{unary_tree}
use Rattle.cc_printer.specs.Spellable.{Spellable, SpellableTarget, SpellableExprs, SpellableMaybe, SpellableFields, SpellableDeclarators, SpellableInit, SpellableForTarget, SpellableStmt, SpellableStmts, SpellableCatch, SpellableFinally, SpellableCases}
use Rattle.cc_printer.specs.RawOf.{Frames, Bodies, places, name_at, variable, property, property_name, key, function, declaration, raw_expr, raw_target, raw_exprs, raw_fields, raw_maybe, raw_declarators, raw_init, raw_for_target, raw_stmt, raw_stmts, raw_catch, raw_finally, raw_cases}
use Rattle.cc_printer.specs.Naming.{inside_catches, stmt_catches, stmts_catches, catch_catches, finally_catches, cases_catches}
use Rattle.cc_printer.proofs.Lists.{Every, parted}
use Rattle.cc_scope.specs.Lists.{Name}
use Rattle.cc_scope.specs.Written as n
use Rattle.cc_scope.specs.Written.{Naming, Frame, sizes, base, slot, single, IsOwn, Seen, ExprN, TargetN, ExprsN, FieldsN, MaybeN, VarsN, InitN, HeadingN, StmtN, StmtsN, CatchN, FinallyN, CasesN}

-- ---- frames

-- the frames inside so many `catch` clauses
abbrev pub catches : ℕ → List Frame → List Frame
catches zero cs = cs
catches (suc c) cs = single ∷ catches c cs

pub sizes_inside : (c : ℕ) (cs : List Frame) → sizes (catches c cs) ≡ inside_catches c (sizes cs)
sizes_inside zero cs = refl
sizes_inside (suc c) cs = ap (λ xs. 1 ∷ xs) (sizes_inside c cs)

pub base_places : (xs : Frames) → base xs ≡ places xs
base_places [] = refl
base_places (x ∷ xs) = ap (λ y. x + y) (base_places xs)

-- where a place of one of the frames is
pub record Placed (cs : List Frame) (up place : ℕ) : Type 0 where
  pub meant : slot (sizes cs) up place ≡ places (drop (suc up) (sizes cs)) + place
  pub below : slot (sizes cs) up place < places (sizes cs)

pub is_placed : (l : Frame) (up place : ℕ) (cs : List Frame) → Nth l up cs → place < l.size → Placed cs up place
is_placed l zero place [] k h = elim k [ ]
is_placed l (suc up) place [] k h = elim k [ ]
is_placed l zero place (_ ∷ cs) first h = let e = base_places (sizes cs) in record { meant = omega (arith, e); below = omega (arith, e, h) }
is_placed l (suc up) place (_ ∷ cs) (later k) h = let r = is_placed l up place cs k h in record { meant = r.meant; below = let b = r.below in omega (arith, b) }

-- ---- literals

whole_exact : (m : ℕ) → nat_lt (suc m) (2 ^ 53) ≡ true → IsTrue (is_exact (negsuc m))
whole_exact m h = grind (arith, nat_tests)

unary_spelled : (o : UnOp) (e : RawExpr) → Spellable (unary_tree o nowhere e) → Spellable e
unary_spelled u.Minus (raw.lit q (S.whole (pos (suc m)))) h = h
unary_spelled u.Minus (raw.lit q (S.whole (pos zero))) h = h
unary_spelled u.Minus _ h = h
unary_spelled u.Void (raw.lit q (S.whole (pos zero))) h = refl
unary_spelled u.Void (raw.lit q (S.whole (pos (suc m)))) h = h
unary_spelled u.Void _ h = h
unary_spelled _ e h = h

same_property : (o : Option PropInfo) → prop_name o ≡ property_name o
unfolding prop_name
same_property None = refl
same_property (Some p) = refl

module _ (v : Naming) (P : S.Program) (ns : S.Names) (Known : ℕ → Type 0) (locals : (m : ℕ) → m < length ns.slots → name_at ns.slots m ≡ v.local m) (globals : (m : ℕ) → name_at ns.globals m ≡ v.global m) where
  is_property : (k : ℕ) → name_of (tables_of P) (dotted k) ≡ property P k
  unfolding name_of tables_of
  is_property k = same_property (slice_get P.props k)

  -- a variable that is seen has the name of its slot
  pub same_name : (cs : List Frame) → places (sizes cs) ≤ length ns.slots → (r : Ref) → Seen v P Known cs r → variable ns (sizes cs) r ≡ n.name_at v cs r
  same_name cs h _ (n.seen_place {up} {place} l k s e) = let p = is_placed l up place cs k s in let b = p.below in ap (λ m. name_at ns.slots m) (sym p.meant) ∙ locals (slot (sizes cs) up place) (omega (arith, b, h))
  same_name cs h _ (n.seen_global {n = m} k) = globals m

  key_stands : (x : Key) → n.KeyN v P Known x (key P x)
  key_stands (Dotted k) = n.dotted_n k (property P k) (is_property k)
  key_stands (Quoted t) = n.quoted_n t

  unary_stands : (c : List Frame) (i : ℕ) (o : UnOp) (e : S.Expr) (d : RawExpr) → Spellable d → ExprN v P Known c e d → ExprN v P Known c (S.unary i o e) (unary_tree o nowhere d)
  unary_stands c i u.Minus e (raw.lit q (S.whole (pos (suc m)))) h k = n.minus_n (whole_exact m h) k
  unary_stands c i u.Minus e (raw.lit q (S.whole (pos zero))) h k = n.unary_n k
  unary_stands c i u.Minus e _ h k = n.unary_n k
  unary_stands c i u.Void e (raw.lit q (S.whole (pos zero))) h k = n.void_n k
  unary_stands c i u.Void e (raw.lit q (S.whole (pos (suc m)))) h k = n.unary_n k
  unary_stands c i u.Void e _ h k = n.unary_n k
  unary_stands c i _ e d h k = n.unary_n k

  module _ (B : Bodies) (fs : Frames) (cs : List Frame) (top : Bool) (same : sizes cs ≡ fs) where
    abbrev fr : ℕ → Frames
    fr c = inside_catches c fs

    abbrev cr : ℕ → List Frame
    cr c = catches c cs

    sized : (c : ℕ) → sizes (cr c) ≡ fr c
    sized c = sizes_inside c cs ∙ ap (inside_catches c) same

    -- a part of the trees
    abbrev pub Fit : Part → Type 0
    Fit (mentions c r) = Seen v P Known (cr c) r
    Fit (declares c r) = IsOwn c top r × Seen v P Known (cr c) r
    Fit (makes c f false) = (i : ℕ) → ExprN v P Known (cr c) (S.fun i f) (function ns B (fr c) f (slice_get P.scopes f))
    Fit (makes c f true) = (i : ℕ) (r : Ref) → IsOwn c top r → Seen v P Known (cr c) r → (w : Name) → w ≡ n.name_at v (cr c) r → StmtN v P Known top c (cr c) (S.fun_decl i r f) (declaration ns B (fr c) w f (slice_get P.scopes f))
    Fit _ = Unit {0}

    abbrev All : List Part → Type 0
    All xs = Every Fit xs

    split : (xs ys : List Part) → All (xs ++ ys) → All xs × All ys
    split xs ys h = parted Fit xs ys h

    abbrev Space : ℕ → Type 0
    Space c = places (fr c) ≤ length ns.slots

    name_is : (c : ℕ) → Space c → (r : Ref) → Seen v P Known (cr c) r → variable ns (fr c) r ≡ n.name_at v (cr c) r
    name_is c h r k = subst (λ xs. variable ns xs r ≡ n.name_at v (cr c) r) (sized c) (same_name (cr c) (subst (λ xs. places xs ≤ length ns.slots) (sym (sized c)) h) r k)

    module _ (T : Tables) (c : ℕ) (room : Space c) where
      abbrev ex : S.Expr → RawExpr
      ex e = raw_expr P ns B (fr c) e

      mutual
        unfolding expr_parts

        pub expr : (e : S.Expr) → Spellable (ex e) → All (expr_parts T c e) → ExprN v P Known (cr c) e (ex e)
        expr (S.lit s x) h f = n.lit_n
        expr (S.var s r) h f = subst (λ m. ExprN v P Known (cr c) (S.var s r) (raw.var nowhere m)) (sym (name_is c room r f.1.0)) (n.var_n r f.1.0)
        expr (S.this s) h f = n.this_n
        expr (S.fun s g) h f = f.1.0 s
        expr (S.list s es) h f = n.list_n (exprs es h f.1)
        expr (S.object s xs) h f = n.object_n (fields xs h f.1)
        expr (S.unary s o e) h f = let g = unary_spelled o (ex e) h in unary_stands (cr c) s o e (ex e) g (expr e g f.1)
        expr (S.binary s o a b) h f = let x = split (expr_parts T c a) (expr_parts T c b) f.1 in n.binary_n (expr a h.0 x.0) (expr b h.1 x.1)
        expr (S.and s a b) h f = let x = split (expr_parts T c a) (expr_parts T c b) f.1 in n.and_n (expr a h.0 x.0) (expr b h.1 x.1)
        expr (S.or s a b) h f = let x = split (expr_parts T c a) (expr_parts T c b) f.1 in n.or_n (expr a h.0 x.0) (expr b h.1 x.1)
        expr (S.cond s t a b) h f =
            let x = split (expr_parts T c t ++ expr_parts T c a) (expr_parts T c b) f.1 in
            let y = split (expr_parts T c t) (expr_parts T c a) x.0 in
            n.cond_n (expr t h.0 y.0) (expr a h.1 y.1) (expr b h.2 x.1)
        expr (S.assign s o t e) h f =
            let x = split (method_in T t e ++ target_parts T c t) (expr_parts T c e) f.1 in
            let y = split (method_in T t e) (target_parts T c t) x.0 in
            n.assign_n (target t h.0 y.1) (expr e h.1 x.1)
        expr (S.step s up before t) h f = n.step_n (target t h f.1)
        expr (S.member s e k) h f = n.member_n (expr e h.0 f.1.1) (property P k) (is_property k)
        expr (S.index s a b) h f = let x = split (expr_parts T c a) (expr_parts T c b) f.1 in n.index_n (expr a h.0 x.0) (expr b h.1 x.1)
        expr (S.call s e es) h f = let x = split (expr_parts T c e) (exprs_parts T c es) f.1 in n.call_n (expr e h.0 x.0) (exprs es h.1 x.1)
        expr (S.new s e es) h f = let x = split (expr_parts T c e) (exprs_parts T c es) f.1 in n.new_n (expr e h.0 x.0) (exprs es h.1 x.1)
        expr (S.comma s a b) h f = let x = split (expr_parts T c a) (expr_parts T c b) f.1 in n.comma_n (expr a h.0 x.0) (expr b h.1 x.1)
        expr (S.cast s d e) h f = n.cast_n (expr e h f.1.1)
        expr (S.tick s k e) h f = n.tick_n (expr e h f.1)

        target : (t : S.Target) → SpellableTarget (raw_target P ns B (fr c) t) → All (target_parts T c t) → TargetN v P Known (cr c) t (raw_target P ns B (fr c) t)
        target (S.to_var s r) h f = subst (λ m. TargetN v P Known (cr c) (S.to_var s r) (raw.to_var nowhere m)) (sym (name_is c room r f.1.0)) (n.to_var_n r f.1.0)
        target (S.to_member s e k) h f = n.to_member_n (expr e h.0 f.1.1) (property P k) (is_property k)
        target (S.to_index s a b) h f = let x = split (expr_parts T c a) (expr_parts T c b) f.1 in n.to_index_n (expr a h.0 x.0) (expr b h.1 x.1)

        exprs : (es : S.Exprs) → SpellableExprs (raw_exprs P ns B (fr c) es) → All (exprs_parts T c es) → ExprsN v P Known (cr c) es (raw_exprs P ns B (fr c) es)
        exprs S.no_exprs h f = n.no_exprs_n
        exprs (S.more_exprs e es) h f = let x = split (expr_parts T c e) (exprs_parts T c es) f in n.more_exprs_n (expr e h.0 x.0) (exprs es h.1 x.1)

        fields : (xs : S.Fields) → SpellableFields (raw_fields P ns B (fr c) xs) → All (fields_parts T c xs) → FieldsN v P Known (cr c) xs (raw_fields P ns B (fr c) xs)
        fields S.no_fields h f = n.no_fields_n
        fields (S.more_fields k e xs) h f =
            let x = split (key_parts k ++ expr_parts T c e) (fields_parts T c xs) f in
            let y = split (key_parts k) (expr_parts T c e) x.0 in
            n.more_fields_n (key_stands k) (expr e h.1 y.1) (fields xs h.2 x.1)

      option : (e : Option S.Expr) → SpellableMaybe (raw_maybe P ns B (fr c) e) → All (option_parts T c e) → MaybeN v P Known (cr c) e (raw_maybe P ns B (fr c) e)
      unfolding option_parts
      option None h f = n.no_expr_n
      option (Some e) h f = n.one_expr_n (expr e h f)

      vars : (ds : List S.Declarator) → SpellableDeclarators (raw_declarators P ns B (fr c) ds) → All (vars_parts T c ds) → VarsN v P Known top c (cr c) ds (raw_declarators P ns B (fr c) ds)
      unfolding vars_parts
      vars [] h f = n.no_vars_n
      vars (d ∷ ds) h f =
          let x = split (option_parts T c d.value) (vars_parts T c ds) f.1.1 in
          n.more_vars_n _ f.1.0.0 f.1.0.1 (name_is c room d.variable f.1.0.1) (option d.value h.1 x.0) (vars ds h.2 x.1)

      init : (i : S.ForInit) → SpellableInit (raw_init P ns B (fr c) i) → All (init_parts T c i) → InitN v P Known top c (cr c) i (raw_init P ns B (fr c) i)
      unfolding init_parts
      init S.no_init h f = n.no_init_n
      init (S.init_value e) h f = n.init_value_n (expr e h f)
      init (S.init_vars ds) h f = n.init_vars_n (vars ds h f)

      heading : (t : S.ForTarget) → SpellableForTarget (raw_for_target P ns B (fr c) t) → All (name_parts T c t) → HeadingN v P Known top c (cr c) t (raw_for_target P ns B (fr c) t)
      unfolding name_parts vars_parts
      heading (S.in_target t) h f = n.in_target_n (target t h f)
      heading (S.in_declared d) h f =
          let x = split (option_parts T c d.value) [] f.1.1 in
          n.in_declared_n _ f.1.0.0 f.1.0.1 (name_is c room d.variable f.1.0.1) (option d.value h.1 x.0)

    -- a price mark is no statement of a text
    abbrev IsReal : S.Stmt → Type 0
    IsReal (S.pay_stmt i k) = ⊥
    IsReal _ = Unit {0}

    catch_name : (c : ℕ) → places (fr c) < length ns.slots → name_at ns.slots (places (fr c)) ≡ v.local (base (sizes (cr c)) + 0)
    catch_name c h = let e = base_places (sizes (cr c)) in let q = ap places (sized c) in locals (places (fr c)) h ∙ ap (λ m. v.local m) (omega (arith, e, q))

    more : (c : ℕ) (s : S.Stmt) (ss : S.Stmts) → (IsReal s → SpellableStmt (raw_stmt P ns B (fr c) s) → StmtN v P Known top c (cr c) s (raw_stmt P ns B (fr c) s)) → (SpellableStmts (raw_stmts P ns B (fr c) ss) → StmtsN v P Known top c (cr c) ss (raw_stmts P ns B (fr c) ss))
        → SpellableStmts (raw_stmts P ns B (fr c) (S.more_stmts s ss)) → StmtsN v P Known top c (cr c) (S.more_stmts s ss) (raw_stmts P ns B (fr c) (S.more_stmts s ss))
    more c (S.pay_stmt i k) ss f g h = n.pay_n (g h)
    more c _ ss f g h = n.more_stmts_n (f tt h.0) (g h.1)

    module _ (T : Tables) where
      mutual
        unfolding stmts_parts

        stmt : (c m : ℕ) → places (fr c) + m ≤ length ns.slots → (s : S.Stmt) → stmt_catches s ≤ m → IsReal s → SpellableStmt (raw_stmt P ns B (fr c) s) → All (stmt_parts T c s) → StmtN v P Known top c (cr c) s (raw_stmt P ns B (fr c) s)
        stmt c m l (S.simple i e) k r0 h f = n.simple_n (expr T c (omega (arith, l)) e h f.1)
        stmt c m l (S.vars i ds) k r0 h f = n.vars_n (vars T c (omega (arith, l)) ds h f.1)
        stmt c m l (S.fun_decl i r g) k r0 h f = f.1.1.0 i r f.1.0.0 f.1.0.1 (variable ns (fr c) r) (name_is c (omega (arith, l)) r f.1.0.1)
        stmt c m l (S.if i t a b) k r0 h f =
            let x = split (expr_parts T c t ++ stmts_parts T c a) (stmts_parts T c b) f.1 in
            let y = split (expr_parts T c t) (stmts_parts T c a) x.0 in
            n.if_n (expr T c (omega (arith, l)) t h.0 y.0) (stmts c m l a (omega (arith, k)) h.1 y.1) (stmts c m l b (omega (arith, k)) h.2 x.1)
        stmt c m l (S.while i t b) k r0 h f = let x = split (expr_parts T c t) (stmts_parts T c b) f.1 in n.while_n (expr T c (omega (arith, l)) t h.0 x.0) (stmts c m l b k h.1 x.1)
        stmt c m l (S.do_while i b t) k r0 h f = let x = split (stmts_parts T c b) (expr_parts T c t) f.1 in n.do_while_n (stmts c m l b k h.0 x.0) (expr T c (omega (arith, l)) t h.1 x.1)
        stmt c m l (S.for i a t e b) k r0 h f =
            let x = split (init_parts T c a ++ option_parts T c t ++ option_parts T c e) (stmts_parts T c b) f.1 in
            let y = split (init_parts T c a ++ option_parts T c t) (option_parts T c e) x.0 in
            let z = split (init_parts T c a) (option_parts T c t) y.0 in
            n.for_n (init T c (omega (arith, l)) a h.0 z.0) (option T c (omega (arith, l)) t h.1 z.1) (option T c (omega (arith, l)) e h.2 y.1) (stmts c m l b k h.3 x.1)
        stmt c m l (S.for_in i t e b) k r0 h f =
            let x = split (name_parts T c t ++ expr_parts T c e) (stmts_parts T c b) f.1 in
            let y = split (name_parts T c t) (expr_parts T c e) x.0 in
            n.for_in_n (heading T c (omega (arith, l)) t h.0 y.0) (expr T c (omega (arith, l)) e h.1 y.1) (stmts c m l b k h.2 x.1)
        stmt c m l (S.return i e) k r0 h f = n.return_n (option T c (omega (arith, l)) e h f.1)
        stmt c m l (S.throw i e) k r0 h f = n.throw_n (expr T c (omega (arith, l)) e h f.1)
        stmt c m l (S.break i x) k r0 h f = n.break_n
        stmt c m l (S.continue i x) k r0 h f = n.continue_n
        stmt c m l (S.label i x b) k r0 h f = n.label_n (stmts c m l b k h.1 f.1)
        stmt c m l (S.switch i e cs) k r0 h f = let x = split (expr_parts T c e) (cases_parts T c cs) f.1 in n.switch_n (expr T c (omega (arith, l)) e h.0 x.0) (cases c m l cs k h.1 x.1)
        stmt c m l (S.try i b a e) k r0 h f =
            let x = split (stmts_parts T c b ++ maybe_parts T (suc c) a) (maybe_parts T c e) f.1 in
            let y = split (stmts_parts T c b) (maybe_parts T (suc c) a) x.0 in
            n.try_n (stmts c m l b (omega (arith, k)) h.0 y.0) (caught c m l a (omega (arith, k)) h.1 y.1) (finally c m l e (omega (arith, k)) h.2 x.1)
        stmt c m l (S.pay_stmt i x) k r0 h f = absurd r0

        pub stmts : (c m : ℕ) → places (fr c) + m ≤ length ns.slots → (ss : S.Stmts) → stmts_catches ss ≤ m → SpellableStmts (raw_stmts P ns B (fr c) ss) → All (stmts_parts T c ss) → StmtsN v P Known top c (cr c) ss (raw_stmts P ns B (fr c) ss)
        stmts c m l S.no_stmts k h f = n.no_stmts_n
        stmts c m l (S.more_stmts s ss) k h f =
            let x = split (stmt_parts T c s) (stmts_parts T c ss) f in
            more c s ss (λ r0 g. stmt c m l s (omega (arith, k)) r0 g x.0) (λ g. stmts c m l ss (omega (arith, k)) g x.1) h

        caught : (c m : ℕ) → places (fr c) + m ≤ length ns.slots → (b : S.MaybeStmts) → catch_catches b ≤ m → SpellableCatch (raw_catch P ns B (fr c) b) → All (maybe_parts T (suc c) b) → CatchN v P Known top c (cr c) b (raw_catch P ns B (fr c) b)
        caught c m l S.absent k h f = n.no_catch_n
        caught c zero l (S.present b) k h f = absurd (omega (arith, k))
        caught c (suc m) l (S.present b) k h f = n.caught_n _ (catch_name c (omega (arith, l))) (stmts (suc c) m (omega (arith, l)) b (omega (arith, k)) h.1 f)

        finally : (c m : ℕ) → places (fr c) + m ≤ length ns.slots → (b : S.MaybeStmts) → finally_catches b ≤ m → SpellableFinally (raw_finally P ns B (fr c) b) → All (maybe_parts T c b) → FinallyN v P Known top c (cr c) b (raw_finally P ns B (fr c) b)
        finally c m l S.absent k h f = n.no_finally_n
        finally c m l (S.present b) k h f = n.finally_n (stmts c m l b k h f)

        cases : (c m : ℕ) → places (fr c) + m ≤ length ns.slots → (xs : S.Cases) → cases_catches xs ≤ m → SpellableCases (raw_cases P ns B (fr c) xs) → All (cases_parts T c xs) → CasesN v P Known top c (cr c) xs (raw_cases P ns B (fr c) xs)
        cases c m l S.no_cases k h f = n.no_cases_n
        cases c m l (S.more_cases t b xs) k h f =
            let x = split (option_parts T c t ++ stmts_parts T c b) (cases_parts T c xs) f in
            let y = split (option_parts T c t) (stmts_parts T c b) x.0 in
            n.more_cases_n (option T c (omega (arith, l)) t h.0 y.0) (stmts c m l b (omega (arith, k)) h.1 y.1) (cases c m l xs (omega (arith, k)) h.2 x.1)

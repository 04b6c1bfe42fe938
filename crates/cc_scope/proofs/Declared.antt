-- What the statements of a function declare, and that the frame that is read has these names.
use Rattle.std.proofs.Common.{◌≡◌, refl, sym, ap, ◌∙◌, arith, ◌⊎◌, inl, inr, ℕ, zero, suc, ◌+◌, Bool, true, false, List, [], ◌∷◌, ◌++◌, length, map, Option, is_some}
use Rattle.cc_ast.specs.declared.tree.Ref.{Ref}
use Rattle.cc_ast.specs.Syntax.{Prim, Declarator, ForInit, ForTarget, Stmt, Stmts, MaybeStmts, Cases, Scope, Program}
use Rattle.cc_meaning.specs.Alike.{In, here, there}
use Rattle.cc_grammar.specs.RawTree.{Named, RawDeclarators, RawInit, RawForTarget, RawStmt, RawStmts, RawCatch, RawFinally, RawCases}
use Rattle.cc_scope.specs.Lists.{Name, new_names}
use Rattle.cc_scope.specs.Marks.{stmts_declare, stmt_declares, vars_declare, init_declares, heading_declares, catch_declares, finally_declares, cases_declare}
use Rattle.cc_scope.specs.Resolve.{named, locals, with_own, inner}
use Rattle.cc_scope.specs.Written as n
use Rattle.cc_scope.specs.Written.{Naming, Apart, Frame, sizes, base, slot, name_at, shown, rank, fresh, count_from, stmts_in, stmt_in, vars_in, init_in, heading_in, maybe_in, cases_in, number_of, order_of, frame_of, single, owned, base_at, own_name, IsOwn, own_global, own_place, Seen, seen_place, seen_global, OwnN, KeyN, FunN, ExprN, TargetN, ExprsN, FieldsN, MaybeN, VarsN, InitN, HeadingN, StmtN, StmtsN, CatchN, FinallyN, CasesN, ChunksN}
use Rattle.cc_scope.proofs.Names.{env, shown_append, shown_news}

pub in_left : {A : Type 0} {x : A} (xs ys : List A) → In x xs → In x (xs ++ ys)
in_left (x ∷ xs) ys here = here
in_left (y ∷ xs) ys (there i) = there (in_left xs ys i)
in_left [] ys i = elim i [ ]

pub in_right : {A : Type 0} {x : A} (xs ys : List A) → In x ys → In x (xs ++ ys)
in_right [] ys i = i
in_right (x ∷ xs) ys i = there (in_right xs ys i)

pub in_either : {A : Type 0} {x : A} (xs ys : List A) → In x (xs ++ ys) → In x xs ⊎ In x ys
in_either [] ys i = inr i
in_either (x ∷ xs) ys here = inl here
in_either (y ∷ xs) ys (there i) = elim (in_either xs ys i) [ inl j ↦ inl (there j) | inr j ↦ inr j ]

pub map_append : {A B : Type 0} (f : A → B) (xs ys : List A) → map f (xs ++ ys) ≡ map f xs ++ map f ys
map_append f [] ys = refl
map_append f (x ∷ xs) ys = ap (λ zs. f x ∷ zs) (map_append f xs ys)

pub length_map : {A B : Type 0} (f : A → B) (xs : List A) → length (map f xs) ≡ length xs
length_map f [] = refl
length_map f (x ∷ xs) = ap suc (length_map f xs)

length_shown : (v : Naming) (b : ℕ) (ns : List ℕ) → length (shown v b ns) ≡ length ns
length_shown v b [] = refl
length_shown v b (i ∷ ns) = ap suc (length_shown v b ns)

pub length_count : (k i : ℕ) → length (count_from k i) ≡ i
unfolding count_from
length_count k zero = refl
length_count k (suc i) = ap suc (length_count (suc k) i)

module _ (v : Naming) (P : Program) (Known : ℕ → Type 0) where
  -- ---- what a body declares is what the program's frame has

  abbrev pub declared : Bool → ℕ → List Frame → List ℕ → List Name
  declared top d c ns = map (own_name v top d c) ns

  pub slot_base : (c : List Frame) (d i : ℕ) → slot (sizes c) d i ≡ base_at d c + i
  slot_base [] d i = omega arith
  slot_base (l ∷ c) zero i = refl
  slot_base (l ∷ c) (suc d) i = slot_base c d i

  own_is : {top : Bool} {d : ℕ} (c : List Frame) {r : Ref} {y : Name} → IsOwn d top r → y ≡ name_at v c r → y ≡ own_name v top d c (number_of r)
  unfolding number_of
  own_is c (own_global i) e = e
  own_is {d} c (own_place i) e = e ∙ ap v.local (slot_base c d i)

  two_declared : (top : Bool) (d : ℕ) (c : List Frame) (ms ns : List ℕ) {xs ys : List Name} → xs ≡ declared top d c ms → ys ≡ declared top d c ns → xs ++ ys ≡ declared top d c (ms ++ ns)
  two_declared top d c ms ns {xs} {ys} e h = ap (λ zs. zs ++ ys) e ∙ ap (λ zs. map (own_name v top d c) ms ++ zs) h ∙ sym (map_append (own_name v top d c) ms ns)

  more_declared : (top : Bool) (d : ℕ) (c : List Frame) (i : ℕ) (ns : List ℕ) {x : Name} {xs : List Name} → x ≡ own_name v top d c i → xs ≡ declared top d c ns → (x ∷ xs) ≡ declared top d c (i ∷ ns)
  more_declared top d c i ns {x} {xs} e h = ap (λ z. z ∷ xs) e ∙ ap (λ zs. own_name v top d c i ∷ zs) h

  none_declared : (top : Bool) (d : ℕ) (c : List Frame) → [] ≡ declared top d c []
  none_declared top d c = refl

  vars_declared : {top : Bool} {d : ℕ} {c : List Frame} {s : List Declarator} {t : RawDeclarators} → VarsN v P Known top d c s t → vars_declare t ≡ declared top d c (vars_in s)
  unfolding vars_declare vars_in
  vars_declared {top} {d} {c} n.no_vars_n = none_declared top d c
  vars_declared {top} {d} {c} (n.more_vars_n {r} {ds = s} w o y e h i) = more_declared top d c (number_of r) (vars_in s) (own_is c o e) (vars_declared i)

  init_declared : {top : Bool} {d : ℕ} {c : List Frame} {s : ForInit} {t : RawInit} → InitN v P Known top d c s t → init_declares t ≡ declared top d c (init_in s)
  unfolding init_declares init_in
  init_declared {top} {d} {c} n.no_init_n = none_declared top d c
  init_declared {top} {d} {c} (n.init_value_n h) = none_declared top d c
  init_declared (n.init_vars_n h) = vars_declared h

  heading_declared : {top : Bool} {d : ℕ} {c : List Frame} {s : ForTarget} {t : RawForTarget} → HeadingN v P Known top d c s t → heading_declares t ≡ declared top d c (heading_in s)
  unfolding heading_declares heading_in
  heading_declared {top} {d} {c} (n.in_target_n h) = none_declared top d c
  heading_declared {top} {d} {c} (n.in_declared_n {r} w o y e h) = more_declared top d c (number_of r) [] (own_is c o e) (none_declared top d c)

  behind_catch : (top : Bool) (d : ℕ) (c : List Frame) (ns : List ℕ) → declared top (suc d) (single ∷ c) ns ≡ declared top d c ns
  behind_catch top d c [] = refl
  behind_catch true d c (i ∷ ns) = ap (λ xs. v.global i ∷ xs) (behind_catch true d c ns)
  behind_catch false d c (i ∷ ns) = ap (λ xs. v.local (base_at d c + i) ∷ xs) (behind_catch false d c ns)

  mutual
    unfolding stmts_declare stmts_in

    stmt_declared : {top : Bool} {d : ℕ} {c : List Frame} {s : Stmt} {t : RawStmt} → StmtN v P Known top d c s t → stmt_declares t ≡ declared top d c (stmt_in s)
    stmt_declared {top} {d} {c} (n.simple_n h) = none_declared top d c
    stmt_declared (n.vars_n h) = vars_declared h
    stmt_declared {top} {d} {c} (n.fun_decl_n {r} w o y e f s ps k h) = more_declared top d c (number_of r) [] (own_is c o e) (none_declared top d c)
    stmt_declared {top} {d} {c} (n.if_n {a} {b} t h i) = two_declared top d c (stmts_in a) (stmts_in b) (stmts_declared h) (stmts_declared i)
    stmt_declared (n.while_n t h) = stmts_declared h
    stmt_declared (n.do_while_n h t) = stmts_declared h
    stmt_declared {top} {d} {c} (n.for_n {h = g} {b} i t e h) = two_declared top d c (init_in g) (stmts_in b) (init_declared i) (stmts_declared h)
    stmt_declared {top} {d} {c} (n.for_in_n {h = g} {b} i e h) = two_declared top d c (heading_in g) (stmts_in b) (heading_declared i) (stmts_declared h)
    stmt_declared {top} {d} {c} (n.return_n h) = none_declared top d c
    stmt_declared {top} {d} {c} (n.throw_n h) = none_declared top d c
    stmt_declared {top} {d} {c} n.break_n = none_declared top d c
    stmt_declared {top} {d} {c} n.continue_n = none_declared top d c
    stmt_declared (n.label_n h) = stmts_declared h
    stmt_declared (n.switch_n e h) = cases_declared h
    stmt_declared {top} {d} {c} (n.try_n {b} {k} {f} h i j) = two_declared top d c (stmts_in b) (maybe_in k ++ maybe_in f) (stmts_declared h) (two_declared top d c (maybe_in k) (maybe_in f) (catch_declared i) (finally_declared j))

    pub stmts_declared : {top : Bool} {d : ℕ} {c : List Frame} {s : Stmts} {t : RawStmts} → StmtsN v P Known top d c s t → stmts_declare t ≡ declared top d c (stmts_in s)
    stmts_declared {top} {d} {c} n.no_stmts_n = none_declared top d c
    stmts_declared {top} {d} {c} (n.more_stmts_n {s} {ss} h i) = two_declared top d c (stmt_in s) (stmts_in ss) (stmt_declared h) (stmts_declared i)
    stmts_declared (n.pay_n h) = stmts_declared h

    catch_declared : {top : Bool} {d : ℕ} {c : List Frame} {s : MaybeStmts} {t : RawCatch} → CatchN v P Known top d c s t → catch_declares t ≡ declared top d c (maybe_in s)
    catch_declared {top} {d} {c} n.no_catch_n = none_declared top d c
    catch_declared {top} {d} {c} (n.caught_n {b} w e h) = stmts_declared h ∙ behind_catch top d c (stmts_in b)

    finally_declared : {top : Bool} {d : ℕ} {c : List Frame} {s : MaybeStmts} {t : RawFinally} → FinallyN v P Known top d c s t → finally_declares t ≡ declared top d c (maybe_in s)
    finally_declared {top} {d} {c} n.no_finally_n = none_declared top d c
    finally_declared (n.finally_n h) = stmts_declared h

    cases_declared : {top : Bool} {d : ℕ} {c : List Frame} {s : Cases} {t : RawCases} → CasesN v P Known top d c s t → cases_declare t ≡ declared top d c (cases_in s)
    cases_declared {top} {d} {c} n.no_cases_n = none_declared top d c
    cases_declared {top} {d} {c} (n.more_cases_n {b} {cs} t h i) = two_declared top d c (stmts_in b) (cases_in cs) (stmts_declared h) (cases_declared i)

  pub shown_map : (b : ℕ) (f : ℕ → Name) (ns : List ℕ) → ((i : ℕ) → f i ≡ v.local (b + i)) → map f ns ≡ shown v b ns
  shown_map b f [] h = refl
  shown_map b f (i ∷ ns) h = ap (λ x. x ∷ map f ns) (h i) ∙ ap (λ xs. v.local (b + i) ∷ xs) (shown_map b f ns h)

module _ (v : Naming) (apart : Apart v) (P : Program) (Known : ℕ → Type 0) where
  pub locals_are : {c : List Frame} {f : ℕ} {s : Scope} {own : Option Named} {ps : List Named} {b : RawStmts} → FunN v P Known c f s own ps → StmtsN v P Known false 0 (frame_of s ∷ owned s.own c) s.body b → locals ps b ≡ shown v (base (sizes (owned s.own c))) (fresh (count_from 0 s.params) (stmts_in s.body))
  unfolding locals
  locals_are {c} {s} {ps} {b} k h =
      let i = base (sizes (owned s.own c)) in
      ap (λ xs. new_names xs (stmts_declare b)) k.params
      ∙ ap (λ xs. new_names (shown v i (count_from 0 s.params)) xs) (stmts_declared v P Known h ∙ shown_map v P Known i (own_name v false 0 (frame_of s ∷ owned s.own c)) (stmts_in s.body) (λ j. refl))
      ∙ shown_news v apart i (count_from 0 s.params) (stmts_in s.body)

  pub own_frame : {c : List Frame} {b : Bool} {own : Option Named} → OwnN v P Known c b own → with_own own (env v c) ≡ env v (owned b c)
  unfolding with_own
  own_frame n.no_own = refl
  own_frame {c} (n.has_own w e) = ap (λ x. (x ∷ []) ∷ env v c) e

  -- the frame that is read has the names of the program's frame
  pub frame_is : {c : List Frame} (f : ℕ) (s : Scope) (own : Option Named) (ps : List Named) (b : RawStmts) → FunN v P Known c f s own ps → StmtsN v P Known false 0 (frame_of s ∷ owned s.own c) s.body b → inner own ps b (env v c) ≡ env v (frame_of s ∷ owned s.own c)
  unfolding inner order_of
  frame_is {c} f s own ps b k h =
      let i = base (sizes (owned s.own c)) in
      ap (λ xs. (xs ++ locals ps b) ∷ with_own own (env v c)) k.params
      ∙ ap (λ xs. (shown v i (count_from 0 s.params) ++ xs) ∷ with_own own (env v c)) (locals_are k h)
      ∙ ap (λ xs. xs ∷ with_own own (env v c)) (sym (shown_append v i (count_from 0 s.params) (fresh (count_from 0 s.params) (stmts_in s.body))))
      ∙ ap (λ E. shown v i (count_from 0 s.params ++ fresh (count_from 0 s.params) (stmts_in s.body)) ∷ E) (own_frame k.own_name)

  pub locals_count : {c : List Frame} (f : ℕ) (s : Scope) (own : Option Named) (ps : List Named) (b : RawStmts) → FunN v P Known c f s own ps → StmtsN v P Known false 0 (frame_of s ∷ owned s.own c) s.body b → length (locals ps b) ≡ length (fresh (count_from 0 s.params) (stmts_in s.body))
  locals_count {c} f s own ps b k h = ap length (locals_are k h) ∙ length_shown v (base (sizes (owned s.own c))) _

  pub params_count : {c : List Frame} (f : ℕ) (s : Scope) (own : Option Named) (ps : List Named) → FunN v P Known c f s own ps → length ps ≡ s.params
  unfolding named
  params_count {c} f s own ps k = sym (length_map (λ w. w.name) ps) ∙ ap length k.params ∙ length_shown v (base (sizes (owned s.own c))) (count_from 0 s.params) ∙ length_count 0 s.params

  pub own_is_some : {c : List Frame} {b : Bool} {own : Option Named} → OwnN v P Known c b own → is_some own ≡ b
  own_is_some n.no_own = refl
  own_is_some (n.has_own w e) = refl

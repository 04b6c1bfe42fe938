-- What is written with names and resolved again is alike to what was written.
use Rattle.std.proofs.Common.{◌≡◌, refl, sym, ap, ◌∙◌, subst, arith, inl, inr, ℕ, suc, ◌+◌, ◌<◌, Bool, true, false, nat_eq, cond, List, [], ◌∷◌, ◌++◌, length, map, Option, Some, None, is_some, length-append}
use Rattle.std.specs.Prelude.{slice_get}
use Rattle.cc_ast.specs.declared.place.Place.{Place}
use Rattle.cc_ast.specs.declared.tree.Ref.{Ref}
use Rattle.cc_ast.specs.declared.tree.Key.{Key}
use Rattle.cc_ast.specs.Syntax.{Prim, Expr, Target, Exprs, Fields, Declarator, ForInit, ForTarget, Stmt, Stmts, MaybeStmts, Cases, Scope, Program}
use Rattle.cc_ast.specs.Syntax as p
use Rattle.cc_meaning.specs.State.{Tables}
use Rattle.cc_meaning.specs.Store.{dotted, name_of}
use Rattle.cc_meaning.specs.Shapes.{tables_of, body_of}
use Rattle.cc_meaning.specs.Alike.{In, here, there, Nth, first, Paired, OneToOne, ListT, nil_t, cons_t, OptT, none_t, some_t, FramePair, call_pair, catch_pair, own_pair, Around, Numbering, PropA, KeyA, dotted_a, quoted_a, PlaceA, in_call, in_catch, in_own, FunA, RefA, frame_a, global_a, ExprA, TargetA, ExprsA, FieldsA, DeclA, InitA, NameA, StmtA, StmtsA, MaybeA, CasesA, inside}
use Rattle.cc_meaning.specs.Alike as a
use Rattle.cc_grammar.specs.RawTree.{Named, RawKey, RawExpr, RawTarget, RawExprs, MaybeExpr, RawFields, RawDeclarators, RawInit, RawForTarget, RawStmt, RawStmts, RawCatch, RawFinally, RawCases}
use Rattle.cc_scope.specs.Lists.{Name, later}
use Rattle.std.proofs.lemmas.Bool.Decides.{nat_tests}
use Rattle.cc_scope.specs.Marks.{Mark, a_site, a_name, a_function, functions, names, Counters, next, past, expr_marks, target_marks, exprs_marks, maybe_marks, fields_marks, vars_marks, init_marks, heading_marks, stmt_marks, stmts_marks, catch_marks, finally_marks, cases_marks, key_marks}
use Rattle.cc_scope.specs.Resolve.{Outer, Frames, lookup, ref_of, ref_by, var_by, global_named, prop_of, key_of, inner, behind, scope_of, expr_of, target_of, exprs_of, maybe_of, fields_of, vars_of, init_of, heading_of, stmt_of, stmts_of, catch_of, finally_of, cases_of, expr_scopes, target_scopes, exprs_scopes, maybe_scopes, fields_scopes, vars_scopes, init_scopes, heading_scopes, stmt_scopes, stmts_scopes, catch_scopes, finally_scopes, cases_scopes, all_marks, inner_scopes}
use Rattle.cc_scope.specs.Written as n
use Rattle.cc_scope.specs.Written.{Naming, Apart, Frame, sizes, base, slot, name_at, shown, rank, fresh, count_from, stmts_in, stmt_in, vars_in, init_in, heading_in, maybe_in, cases_in, number_of, order_of, frame_of, single, owned, base_at, own_name, IsOwn, own_global, own_place, Seen, seen_place, seen_global, OwnN, KeyN, FunN, ExprN, TargetN, ExprsN, FieldsN, MaybeN, VarsN, InitN, HeadingN, StmtN, StmtsN, CatchN, FinallyN, CasesN, ChunksN}
use Rattle.cc_scope.proofs.Names.{env, resolves, resolves_global}
pub use Rattle.cc_scope.proofs.Declared.{in_left, in_right, in_either, map_append, length_map, length_count, stmts_declared, shown_map}
use Rattle.cc_scope.proofs.Declared.{frame_is, locals_count, params_count, own_is_some}

pub functions_append : (ms ns : List Mark) → functions (ms ++ ns) ≡ functions ms + functions ns
unfolding functions
functions_append [] ns = omega arith
functions_append (a_function ∷ ms) ns = omega (arith, functions_append ms ns)
functions_append (a_site q ∷ ms) ns = functions_append ms ns
functions_append (a_name x ∷ ms) ns = functions_append ms ns

pub names_append : (ms ns : List Mark) → names (ms ++ ns) ≡ names ms ++ names ns
unfolding names
names_append [] ns = refl
names_append (a_name x ∷ ms) ns = ap (λ xs. x ∷ xs) (names_append ms ns)
names_append (a_site q ∷ ms) ns = names_append ms ns
names_append (a_function ∷ ms) ns = names_append ms ns

-- ---- what is known of each function that was met

-- a function of the program, its number where it is read, what is around it, the places of its
-- frame in the order of the text, its scope, and that where it is read
pub record Entry : Type 0 where
  pub f : ℕ
  pub g : ℕ
  pub around : Around
  pub from : Scope
  pub scope : Scope

pub record Stands (N : Numbering) (w : Entry) : Type 0 where
  pub paired : Paired N.functions w.f w.g
  pub around : N.around (w.f, w.g) ≡ w.around
  pub places : (i j : ℕ) → rank i (order_of w.from) ≡ Some j → Paired (N.places (w.f, w.g)) i j

-- a numbering that holds these globals and functions
pub record Fits (G : List (ℕ × ℕ)) (N : Numbering) (L : List Entry) : Type 0 where
  pub globals : (i j : ℕ) → Paired G i j → Paired N.globals i j
  pub functions : (w : Entry) → In w L → Stands N w

pub left_fits : {G : List (ℕ × ℕ)} {N : Numbering} (L K : List Entry) → Fits G N (L ++ K) → Fits G N L
left_fits L K h = record { globals = h.globals; functions = λ w i. h.functions w (in_left L K i) }

pub right_fits : {G : List (ℕ × ℕ)} {N : Numbering} (L K : List Entry) → Fits G N (L ++ K) → Fits G N K
right_fits L K h = record { globals = h.globals; functions = λ w i. h.functions w (in_right L K i) }

-- numbered one after the other
pub data Runs : ℕ → List Entry → Type 0 where
  ends : {k : ℕ} → Runs k []
  goes : {k : ℕ} {w : Entry} {L : List Entry} → w.g ≡ k → Runs (suc k) L → Runs k (w ∷ L)

run_on : (k l : ℕ) (L K : List Entry) → Runs k L → k + length L ≡ l → Runs l K → Runs k (L ++ K)
run_on k l [] K r e s = subst (λ i. Runs i K) (let z : l ≡ k = omega arith in z) s
run_on k l (w ∷ L) K (goes e r) d s = goes e (run_on (suc k) l L K r (omega arith) s)

or_zero : Option ℕ → ℕ
or_zero None = 0
or_zero (Some n) = n

module _ (v : Naming) (apart : Apart v) (P : Program) (W : Outer) (T : Tables) (Known : ℕ → Type 0) (G : List (ℕ × ℕ))
    (globals : (i : ℕ) → Known i → (j : ℕ) × (global_named W (v.global i) ≡ Some (Ref.Global j)) × Paired G i j) where
  abbrev pub Word : Name → Type 0
  Word x = name_of T (dotted (prop_of W x)) ≡ x

  abbrev pub Spelled : List Name → Type 0
  Spelled xs = (x : Name) → In x xs → Word x

  -- the frames around, one by one
  pub data Ties (N : Numbering) : Around → List Frame → Type 0 where
    no_ties : Ties N [] []
    more_ties : {q : FramePair} {x : Around} {l : Frame} {c : List Frame} → ((i j : ℕ) → rank i l.order ≡ Some j → PlaceA (tables_of P) T N q i j) → Ties N x c → Ties N (q ∷ x) (l ∷ c)

  pub record Good (N : Numbering) (w : Entry) : Type 0 where
    pub stands : slice_get P.scopes w.f ≡ Some w.from
    pub small : (i : ℕ) → In i (stmts_in w.from.body) → i < w.from.params + w.from.names
    pub own : w.scope.own ≡ w.from.own
    pub params : w.scope.params ≡ w.from.params
    pub names : w.scope.names ≡ length (fresh (count_from 0 w.from.params) (stmts_in w.from.body))
    pub body : StmtsA (tables_of P) T N (inside w.from.own (w.f, w.g) w.around) w.from.body w.scope.body

  pub record Out (k : ℕ) (ms : List Mark) (V : List Scope) (x : Around) (c : List Frame) (A : Numbering → Type 0) : Type 0 where
    pub L : List Entry
    pub same : map (λ w. w.scope) L ≡ V
    pub run : Runs k L
    pub counted : length L ≡ functions ms
    pub alike : (N : Numbering) → Fits G N L → Ties N x c → Spelled (names ms) → A N
    pub bodies : (N : Numbering) → Fits G N L → Ties N x c → Spelled (names ms) → (w : Entry) → In w L → Good N w

  leaf : {k : ℕ} {x : Around} {c : List Frame} {A : Numbering → Type 0} → ((N : Numbering) → Fits G N [] → Ties N x c → A N) → Out k [] [] x c A
  unfolding functions
  leaf h = record { L = []; same = refl; run = ends; counted = refl; alike = λ N f t s. h N f t; bodies = λ N f t s w i. elim i [ ] }

  left_spelled : (ms ns : List Mark) → Spelled (names (ms ++ ns)) → Spelled (names ms)
  left_spelled ms ns s x i = s x (subst (λ xs. In x xs) (sym (names_append ms ns)) (in_left (names ms) (names ns) i))

  right_spelled : (ms ns : List Mark) → Spelled (names (ms ++ ns)) → Spelled (names ns)
  right_spelled ms ns s x i = s x (subst (λ xs. In x xs) (sym (names_append ms ns)) (in_right (names ms) (names ns) i))

  both : {k : ℕ} {ms ns : List Mark} {V U : List Scope} {x : Around} {c : List Frame} {A B : Numbering → Type 0} → Out k ms V x c A → Out (k + functions ms) ns U x c B → Out k (ms ++ ns) (V ++ U) x c (λ N. A N × B N)
  both {k} {ms} {ns} {V} q r = record {
    L = q.L ++ r.L;
    same = map_append (λ w. w.scope) q.L r.L ∙ ap (λ xs. xs ++ map (λ w. w.scope) r.L) q.same ∙ ap (λ xs. V ++ xs) r.same;
    run = run_on k (k + functions ms) q.L r.L q.run (ap (λ i. k + i) q.counted) r.run;
    counted = length-append q.L r.L ∙ ap (λ i. i + length r.L) q.counted ∙ ap (λ i. functions ms + i) r.counted ∙ sym (functions_append ms ns);
    alike = λ N f t s. (q.alike N (left_fits q.L r.L f) t (left_spelled ms ns s), r.alike N (right_fits q.L r.L f) t (right_spelled ms ns s));
    bodies = λ N f t s w i. elim (in_either q.L r.L i) [ inl j ↦ q.bodies N (left_fits q.L r.L f) t (left_spelled ms ns s) w j | inr j ↦ r.bodies N (right_fits q.L r.L f) t (right_spelled ms ns s) w j ];
  }

  mapped : {k : ℕ} {ms : List Mark} {V : List Scope} {x : Around} {c : List Frame} {A B : Numbering → Type 0} → Out k ms V x c A → ((N : Numbering) → A N → B N) → Out k ms V x c B
  mapped q h = record { L = q.L; same = q.same; run = q.run; counted = q.counted; alike = λ N f t s. h N (q.alike N f t s); bodies = q.bodies }

  tied : {k : ℕ} {ms : List Mark} {V : List Scope} {x : Around} {c : List Frame} {A B : Numbering → Type 0} → Out k ms V x c A → ((N : Numbering) → Fits G N [] → Ties N x c → A N → B N) → Out k ms V x c B
  tied q h = record { L = q.L; same = q.same; run = q.run; counted = q.counted; alike = λ N f t s. h N (record { globals = f.globals; functions = λ w i. elim i [ ] }) t (q.alike N f t s); bodies = q.bodies }

  sited : {k : ℕ} {q : Place} {ms : List Mark} {V : List Scope} {x : Around} {c : List Frame} {A : Numbering → Type 0} → Out k ms V x c A → Out k (a_site q ∷ ms) V x c A
  unfolding functions names
  sited q = record { L = q.L; same = q.same; run = q.run; counted = q.counted; alike = q.alike; bodies = q.bodies }

  worded : {k : ℕ} {ms : List Mark} {V : List Scope} {x : Around} {c : List Frame} {A : Numbering → Type 0} (y : Name) → Out k ms V x c A → Out k (ms ++ a_name y ∷ []) V x c (λ N. A N × Word y)
  unfolding functions names
  worded {ms} y q = record {
    L = q.L;
    same = q.same;
    run = q.run;
    counted = q.counted ∙ (let e = functions_append ms (a_name y ∷ []) in omega arith);
    alike = λ N f t s. (q.alike N f t (left_spelled ms (a_name y ∷ []) s), right_spelled ms (a_name y ∷ []) s y here);
    bodies = λ N f t s. q.bodies N f t (left_spelled ms (a_name y ∷ []) s);
  }

  -- ---- variables, names and keys

  at_pair : {N : Numbering} {x : Around} {c : List Frame} {l : Frame} {up i j : ℕ} → Ties N x c → Nth l up c → rank i l.order ≡ Some j → (q : FramePair) × Nth q up x × PlaceA (tables_of P) T N q i j
  at_pair no_ties i e = elim i [ ]
  at_pair (more_ties h t) first e = (_, first, h _ _ e)
  at_pair (more_ties h t) (a.later i) e = let d = at_pair t i e in (d.0, a.later d.1, d.2)

  RefAt : Numbering → Around → List Frame → Ref → Type 0
  RefAt N x c r = (s : Ref) × (lookup W (env v c) (name_at v c r) ≡ Some s) × RefA (tables_of P) T N x r s

  found : {N : Numbering} {x : Around} {c : List Frame} (r : Ref) → Fits G N [] → Ties N x c → Seen v P Known c r → RefAt N x c r
  unfolding RefAt
  found {c} (Ref.Frame up i) f t (seen_place {n = j} l h lt e) = let d = at_pair t h e in (Ref.Frame up j, resolves v apart W c up i j l h lt e, frame_a d.0 d.1 d.2)
  found {c} (Ref.Global i) f t (seen_global k) = let d = globals i k in (Ref.Global d.0, resolves_global v apart W c i d.0 d.1, global_a (f.globals i d.0 d.2))

  mention : {N : Numbering} {x : Around} (c : List Frame) (r : Ref) (i j : ℕ) → RefAt N x c r → ExprA (tables_of P) T N x (p.var i r) (var_by j (lookup W (env v c) (name_at v c r)))
  unfolding RefAt var_by
  mention {N} {x} c r i j d = subst (λ o. ExprA (tables_of P) T N x (p.var i r) (var_by j o)) (sym d.1) (a.var_a d.2)

  written : {N : Numbering} {x : Around} (c : List Frame) (r : Ref) (y : Name) → y ≡ name_at v c r → RefAt N x c r → RefA (tables_of P) T N x r (ref_of W (env v c) y)
  unfolding RefAt ref_of ref_by
  written {N} {x} c r y e d = subst (λ o. RefA (tables_of P) T N x r (ref_by o)) (sym (ap (lookup W (env v c)) e ∙ d.1)) d.2

  key : {k : ℕ} {x : Around} {c : List Frame} {i : Key} {j : RawKey} → KeyN v P Known i j → Out k (key_marks j) [] x c (λ N. KeyA (tables_of P) T N i (key_of W j))
  unfolding key_marks key_of functions names
  key (n.dotted_n i y e) = record { L = []; same = refl; run = ends; counted = refl; alike = λ N f t s. dotted_a (e ∙ sym (s y here)); bodies = λ N f t s w i. elim i [ ] }
  key (n.quoted_n t) = leaf (λ N f t. quoted_a)

  -- ---- a function, with its frames

  call_ties : {N : Numbering} {x : Around} {c : List Frame} (w : Entry) → Stands N w → Ties N x c → Ties N (call_pair w.f w.g ∷ x) (frame_of w.from ∷ c)
  call_ties w s t = more_ties (λ i j e. in_call (s.places i j e)) t

  -- the one place of a catch clause or of an own name
  only : (i j : ℕ) → rank i (0 ∷ []) ≡ Some j → (i ≡ 0) × (j ≡ 0)
  unfolding rank later or_zero
  only i j e = by (nat_eq i 0) refl e where
    by : (b : Bool) → nat_eq i 0 ≡ b → cond b (Some 0) None ≡ Some j → (i ≡ 0) × (j ≡ 0)
    by true h d = (grind (arith, nat_tests), sym (ap or_zero d))
    by false h d = absurd (cc)

  single_ties : {N : Numbering} {x : Around} {c : List Frame} (q : FramePair) → PlaceA (tables_of P) T N q 0 0 → Ties N x c → Ties N (q ∷ x) (single ∷ c)
  single_ties {N} q h t = more_ties (λ i j e. let d = only i j e in subst (λ k. PlaceA (tables_of P) T N q k j) (sym d.0) (subst (λ k. PlaceA (tables_of P) T N q 0 k) (sym d.1) h)) t

  inner_ties : {N : Numbering} {x : Around} {c : List Frame} (w : Entry) (b : Bool) → Stands N w → Ties N x c → Ties N (inside b (w.f, w.g) x) (frame_of w.from ∷ owned b c)
  unfolding inside
  inner_ties w true s t = call_ties w s (single_ties own_pair in_own t)
  inner_ties w false s t = call_ties w s t

  function : {k : ℕ} {ms : List Mark} {V : List Scope} {x : Around} {c : List Frame} (f : ℕ) (s z : Scope)
      → slice_get P.scopes f ≡ Some s → ((i : ℕ) → In i (stmts_in s.body) → i < s.params + s.names) → z.own ≡ s.own → z.params ≡ s.params → z.names ≡ length (fresh (count_from 0 s.params) (stmts_in s.body))
      → Out (suc k) ms V (inside s.own (f, k) x) (frame_of s ∷ owned s.own c) (λ N. StmtsA (tables_of P) T N (inside s.own (f, k) x) s.body z.body)
      → Out k (a_function ∷ ms) (z ∷ V) x c (λ N. FunA (tables_of P) T N x f k)
  unfolding functions names
  function {k} {ms} {x} {c} f s z e small own params count q = record {
    L = w ∷ q.L;
    same = ap (λ xs. z ∷ xs) q.same;
    run = goes refl q.run;
    counted = ap suc q.counted;
    alike = λ N h t y. record { paired = (h.functions w here).paired; stands = (h.functions w here).around };
    bodies = λ N h t y u i. at N h t y u i;
  } where
    w : Entry
    w = record { f = f; g = k; around = x; from = s; scope = z }

    under : (N : Numbering) → Fits G N (w ∷ q.L) → Fits G N q.L
    under N h = record { globals = h.globals; functions = λ u i. h.functions u (there i) }

    at : (N : Numbering) → Fits G N (w ∷ q.L) → Ties N x c → Spelled (names ms) → (u : Entry) → In u (w ∷ q.L) → Good N u
    at N h t y u here = record { stands = e; small = small; own = own; params = params; names = count; body = q.alike N (under N h) (inner_ties w s.own (h.functions w here) t) y }
    at N h t y u (there i) = q.bodies N (under N h) (inner_ties w s.own (h.functions w here) t) y u i

  -- a literal that stands for an operator on a literal
  resited : {k : ℕ} {q r : Place} {x : Around} {c : List Frame} {A B : Numbering → Type 0} → Out k (a_site r ∷ []) [] x c A → ((N : Numbering) → A N → B N) → Out k (a_site q ∷ []) [] x c B
  unfolding functions names
  resited o h = record { L = o.L; same = o.same; run = o.run; counted = o.counted; alike = λ N f t s. h N (o.alike N f t s); bodies = o.bodies }

  -- inside a catch clause
  caught : {k : ℕ} {ms : List Mark} {V : List Scope} {x : Around} {c : List Frame} {A : Numbering → Type 0} → Out k ms V (catch_pair ∷ x) (single ∷ c) A → Out k ms V x c A
  caught q = record { L = q.L; same = q.same; run = q.run; counted = q.counted; alike = λ N f t s. q.alike N f (single_ties catch_pair in_catch t) s; bodies = λ N f t s. q.bodies N f (single_ties catch_pair in_catch t) s }

  functioned : {x : Around} {c : List Frame} (e k : ℕ) (q : Place) (i : Counters) (s : Scope) (own : Option Named) (ps : List Named) (b : RawStmts) (isf : Bool) → FunN v P Known c k s own ps → StmtsN v P Known false 0 (frame_of s ∷ owned s.own c) s.body b → isf ≡ s.own
      → ((E : Frames) → E ≡ env v (frame_of s ∷ owned s.own c) → Out (suc i.function) (stmts_marks b) (stmts_scopes W E i.function (behind i) b) (inside s.own (k, i.function) x) (frame_of s ∷ owned s.own c) (λ N. StmtsA (tables_of P) T N (inside s.own (k, i.function) x) s.body (stmts_of W E (behind i) b)))
      → Out i.function (a_site q ∷ a_function ∷ stmts_marks b) (scope_of W (inner own ps b (env v c)) e i isf ps b q ∷ stmts_scopes W (inner own ps b (env v c)) i.function (behind i) b) x c (λ N. FunA (tables_of P) T N x k i.function)
  unfolding scope_of
  functioned {x} {c} e k q i s own ps b isf h j d r = sited (function k s (scope_of W (inner own ps b (env v c)) e i isf ps b q) h.stands h.small d (params_count v apart P Known k s own ps h) (locals_count v apart P Known k s own ps b h j) (r (inner own ps b (env v c)) (frame_is v apart P Known k s own ps b h j)))

  moved : {k : ℕ} {ms : List Mark} {x : Around} {c : List Frame} (V : Frames → List Scope) (A : Frames → Numbering → Type 0) (E D : Frames) → D ≡ E → Out k ms (V E) x c (A E) → Out k ms (V D) x c (A D)
  moved {k} {ms} {x} {c} V A E D e q = subst (λ F. Out k ms (V F) x c (A F)) (sym e) q

  -- ---- the induction

  abbrev pub ExprO : Around → List Frame → ℕ → Counters → Expr → RawExpr → Type 0
  ExprO x c e i s t = Out i.function (expr_marks t) (expr_scopes W (env v c) e i t) x c (λ N. ExprA (tables_of P) T N x s (expr_of W (env v c) i t))

  abbrev pub MaybeO : Around → List Frame → ℕ → Counters → Option Expr → MaybeExpr → Type 0
  MaybeO x c e i s t = Out i.function (maybe_marks t) (maybe_scopes W (env v c) e i t) x c (λ N. OptT (ExprA (tables_of P) T N x) s (maybe_of W (env v c) i t))

  abbrev pub StmtsO : Around → List Frame → ℕ → Counters → Stmts → RawStmts → Type 0
  StmtsO x c e i s t = Out i.function (stmts_marks t) (stmts_scopes W (env v c) e i t) x c (λ N. StmtsA (tables_of P) T N x s (stmts_of W (env v c) i t))

  mutual
    unfolding expr_marks expr_scopes expr_of var_by

    expr : {x : Around} {c : List Frame} {s : Expr} {t : RawExpr} (e : ℕ) (i : Counters) → ExprN v P Known c s t → ExprO x c e i s t
    expr e i n.lit_n = sited (leaf (λ N f t. a.lit_a))
    expr {c} e i (n.var_n {i = j} r y) = sited (leaf (λ N f t. mention c r j i.site (found r f t y)))
    expr e i n.this_n = sited (leaf (λ N f t. a.this_a))
    expr {x} {c} e i (n.fun_n {q} f s own ps {b} k h) = mapped (functioned e f q i s own ps b (is_some own) k h (own_is_some v apart P Known k.own_name) (λ E d. moved (λ D. stmts_scopes W D i.function (behind i) b) (λ D N. StmtsA (tables_of P) T N (inside s.own (f, i.function) x) s.body (stmts_of W D (behind i) b)) (env v (frame_of s ∷ owned s.own c)) E d (stmts i.function (behind i) h))) (λ N y. a.fun_a y)
    expr e i (n.list_n h) = sited (mapped (exprs e (next i) h) (λ N y. a.list_a y))
    expr e i (n.object_n h) = sited (mapped (fields e (next i) h) (λ N y. a.object_a y))
    expr e i (n.unary_n h) = sited (mapped (expr e (next i) h) (λ N y. a.unary_a y))
    expr e i (n.binary_n {x} h j) = sited (mapped (both (expr e (next i) h) (expr e (past (next i) (expr_marks x)) j)) (λ N y. a.binary_a y.0 y.1))
    expr e i (n.and_n {x} h j) = sited (mapped (both (expr e (next i) h) (expr e (past (next i) (expr_marks x)) j)) (λ N y. a.and_a y.0 y.1))
    expr e i (n.or_n {x} h j) = sited (mapped (both (expr e (next i) h) (expr e (past (next i) (expr_marks x)) j)) (λ N y. a.or_a y.0 y.1))
    expr e i (n.cond_n {u} {x} h j k) = sited (mapped (both (expr e (next i) h) (both (expr e (past (next i) (expr_marks u)) j) (expr e (past (past (next i) (expr_marks u)) (expr_marks x)) k))) (λ N y. a.cond_a y.0 y.1.0 y.1.1))
    expr e i (n.assign_n {u} h j) = sited (mapped (both (target e (next i) h) (expr e (past (next i) (target_marks u)) j)) (λ N y. a.assign_a y.0 y.1))
    expr e i (n.step_n h) = sited (mapped (target e (next i) h) (λ N y. a.step_a y))
    expr e i (n.member_n h y d) = sited (mapped (worded y (expr e (next i) h)) (λ N z. a.member_a z.0 (d ∙ sym z.1)))
    expr e i (n.index_n {x} h j) = sited (mapped (both (expr e (next i) h) (expr e (past (next i) (expr_marks x)) j)) (λ N y. a.index_a y.0 y.1))
    expr e i (n.call_n {d} h j) = sited (mapped (both (expr e (next i) h) (exprs e (past (next i) (expr_marks d)) j)) (λ N y. a.call_a y.0 y.1))
    expr e i (n.new_n {d} h j) = sited (mapped (both (expr e (next i) h) (exprs e (past (next i) (expr_marks d)) j)) (λ N y. a.new_a y.0 y.1))
    expr e i (n.comma_n {x} h j) = sited (mapped (both (expr e (next i) h) (expr e (past (next i) (expr_marks x)) j)) (λ N y. a.comma_a y.0 y.1))
    expr e i (n.cast_n h) = mapped (expr e i h) (λ N y. a.left_cast y)
    expr e i (n.tick_n h) = mapped (expr e i h) (λ N y. a.left_mark y)
    expr e i (n.minus_n {q} ok h) = resited (expr e i h) (λ N y. a.left_minus ok y)
    expr e i (n.void_n {q} h) = resited (expr e i h) (λ N y. a.left_void y)

    target : {x : Around} {c : List Frame} {s : Target} {t : RawTarget} (e : ℕ) (i : Counters) → TargetN v P Known c s t → Out i.function (target_marks t) (target_scopes W (env v c) e i t) x c (λ N. TargetA (tables_of P) T N x s (target_of W (env v c) i t))
    target {c} e i (n.to_var_n r y) = sited (leaf (λ N f t. a.to_var_a (written c r (name_at v c r) refl (found r f t y))))
    target e i (n.to_member_n h y d) = sited (mapped (worded y (expr e (next i) h)) (λ N z. a.to_member_a z.0 (d ∙ sym z.1)))
    target e i (n.to_index_n {x} h j) = sited (mapped (both (expr e (next i) h) (expr e (past (next i) (expr_marks x)) j)) (λ N y. a.to_index_a y.0 y.1))

    exprs : {x : Around} {c : List Frame} {s : Exprs} {t : RawExprs} (e : ℕ) (i : Counters) → ExprsN v P Known c s t → Out i.function (exprs_marks t) (exprs_scopes W (env v c) e i t) x c (λ N. ExprsA (tables_of P) T N x s (exprs_of W (env v c) i t))
    exprs e i n.no_exprs_n = leaf (λ N f t. a.no_exprs_a)
    exprs e i (n.more_exprs_n {d} h j) = mapped (both (expr e i h) (exprs e (past i (expr_marks d)) j)) (λ N y. a.more_exprs_a y.0 y.1)

    fields : {x : Around} {c : List Frame} {s : Fields} {t : RawFields} (e : ℕ) (i : Counters) → FieldsN v P Known c s t → Out i.function (fields_marks t) (fields_scopes W (env v c) e i t) x c (λ N. FieldsA (tables_of P) T N x s (fields_of W (env v c) i t))
    fields e i n.no_fields_n = leaf (λ N f t. a.no_fields_a)
    fields e i (n.more_fields_n {l} {d} k h j) = mapped (both (key k) (both (expr e (past i (key_marks l)) h) (fields e (past (past i (key_marks l)) (expr_marks d)) j))) (λ N y. a.more_fields_a y.0 y.1.0 y.1.1)

    maybe : {x : Around} {c : List Frame} {s : Option Expr} {t : MaybeExpr} (e : ℕ) (i : Counters) → MaybeN v P Known c s t → MaybeO x c e i s t
    maybe e i n.no_expr_n = leaf (λ N f t. none_t)
    maybe e i (n.one_expr_n h) = mapped (expr e i h) (λ N y. some_t y)

    variables : {x : Around} {top : Bool} {b : ℕ} {c : List Frame} {s : List Declarator} {t : RawDeclarators} (e : ℕ) (i : Counters) → VarsN v P Known top b c s t → Out i.function (vars_marks t) (vars_scopes W (env v c) e i t) x c (λ N. ListT (DeclA (tables_of P) T N x) s (vars_of W (env v c) i t))
    variables e i n.no_vars_n = leaf (λ N f t. nil_t)
    variables {c} e i (n.more_vars_n {r} {m = u} w o y d h j) = sited (tied (both (maybe e (next i) h) (variables e (past (next i) (maybe_marks u)) j)) (λ N f t z. cons_t (record { variable = written c r w.name d (found r f t y); value = z.0 }) z.1))

    init : {x : Around} {top : Bool} {b : ℕ} {c : List Frame} {s : ForInit} {t : RawInit} (e : ℕ) (i : Counters) → InitN v P Known top b c s t → Out i.function (init_marks t) (init_scopes W (env v c) e i t) x c (λ N. InitA (tables_of P) T N x s (init_of W (env v c) i t))
    init e i n.no_init_n = leaf (λ N f t. a.no_init_a)
    init e i (n.init_value_n h) = mapped (expr e i h) (λ N y. a.init_value_a y)
    init e i (n.init_vars_n h) = mapped (variables e i h) (λ N y. a.init_vars_a y)

    heading : {x : Around} {top : Bool} {b : ℕ} {c : List Frame} {s : ForTarget} {t : RawForTarget} (e : ℕ) (i : Counters) → HeadingN v P Known top b c s t → Out i.function (heading_marks t) (heading_scopes W (env v c) e i t) x c (λ N. NameA (tables_of P) T N x s (heading_of W (env v c) i t))
    heading e i (n.in_target_n h) = mapped (target e i h) (λ N y. a.in_target_a y)
    heading {c} e i (n.in_declared_n {r} w o y d h) = sited (tied (maybe e (next i) h) (λ N f t z. a.in_declared_a (record { variable = written c r w.name d (found r f t y); value = z })))

    stmt : {x : Around} {top : Bool} {b : ℕ} {c : List Frame} {s : Stmt} {t : RawStmt} (e : ℕ) (i : Counters) → StmtN v P Known top b c s t → Out i.function (stmt_marks t) (stmt_scopes W (env v c) e i t) x c (λ N. StmtA (tables_of P) T N x s (stmt_of W (env v c) i t))
    stmt e i (n.simple_n h) = sited (mapped (expr e (next i) h) (λ N y. a.simple_a y))
    stmt e i (n.vars_n h) = sited (mapped (variables e (next i) h) (λ N y. a.vars_a y))
    stmt {x} {c} e i (n.fun_decl_n {q} {r} w o y d f s ps {b} k h) = tied (functioned e f q i s None ps b false k h (own_is_some v apart P Known k.own_name) (λ E z. moved (λ D. stmts_scopes W D i.function (behind i) b) (λ D N. StmtsA (tables_of P) T N (inside s.own (f, i.function) x) s.body (stmts_of W D (behind i) b)) (env v (frame_of s ∷ owned s.own c)) E z (stmts i.function (behind i) h))) (λ N g t z. a.fun_decl_a (written c r w.name d (found r g t y)) z)
    stmt e i (n.if_n {u} {x} h j k) = sited (mapped (both (expr e (next i) h) (both (stmts e (past (next i) (expr_marks u)) j) (stmts e (past (past (next i) (expr_marks u)) (stmts_marks x)) k))) (λ N y. a.if_a y.0 y.1.0 y.1.1))
    stmt e i (n.while_n {u} h j) = sited (mapped (both (expr e (next i) h) (stmts e (past (next i) (expr_marks u)) j)) (λ N y. a.while_a y.0 y.1))
    stmt e i (n.do_while_n {y = z} h j) = sited (mapped (both (stmts e (next i) h) (expr e (past (next i) (stmts_marks z)) j)) (λ N y. a.do_while_a y.0 y.1))
    stmt e i (n.for_n {k = g} {u} {m = z} h j k l) = sited (mapped (both (init e (next i) h) (both (maybe e (past (next i) (init_marks g)) j) (both (maybe e (past (past (next i) (init_marks g)) (maybe_marks u)) k) (stmts e (past (past (past (next i) (init_marks g)) (maybe_marks u)) (maybe_marks z)) l)))) (λ N y. a.for_a y.0 y.1.0 y.1.1.0 y.1.1.1))
    stmt e i (n.for_in_n {k = g} {u} h j k) = sited (mapped (both (heading e (next i) h) (both (expr e (past (next i) (heading_marks g)) j) (stmts e (past (past (next i) (heading_marks g)) (expr_marks u)) k))) (λ N y. a.for_in_a y.0 y.1.0 y.1.1))
    stmt e i (n.return_n h) = sited (mapped (maybe e (next i) h) (λ N y. a.return_a y))
    stmt e i (n.throw_n h) = sited (mapped (expr e (next i) h) (λ N y. a.throw_a y))
    stmt e i n.break_n = sited (leaf (λ N f t. a.break_a))
    stmt e i n.continue_n = sited (leaf (λ N f t. a.continue_a))
    stmt e i (n.label_n h) = sited (mapped (stmts e (next i) h) (λ N y. a.label_a y))
    stmt e i (n.switch_n {u} h j) = sited (mapped (both (expr e (next i) h) (cases e (past (next i) (expr_marks u)) j)) (λ N y. a.switch_a y.0 y.1))
    stmt e i (n.try_n {y = z} {l} h j k) = sited (mapped (both (stmts e (next i) h) (both (catch e (past (next i) (stmts_marks z)) j) (finally e (past (past (next i) (stmts_marks z)) (catch_marks l)) k))) (λ N y. a.try_a y.0 y.1.0 y.1.1))

    pub stmts : {x : Around} {top : Bool} {b : ℕ} {c : List Frame} {s : Stmts} {t : RawStmts} (e : ℕ) (i : Counters) → StmtsN v P Known top b c s t → StmtsO x c e i s t
    stmts e i n.no_stmts_n = leaf (λ N f t. a.no_stmts_a)
    stmts e i (n.more_stmts_n {t} h j) = mapped (both (stmt e i h) (stmts e (past i (stmt_marks t)) j)) (λ N y. a.more_stmts_a y.0 y.1)
    stmts e i (n.pay_n h) = mapped (stmts e i h) (λ N y. a.left_pay y)

    catch : {x : Around} {top : Bool} {b : ℕ} {c : List Frame} {s : MaybeStmts} {t : RawCatch} (e : ℕ) (i : Counters) → CatchN v P Known top b c s t → Out i.function (catch_marks t) (catch_scopes W (env v c) e i t) x c (λ N. MaybeA (tables_of P) T N (catch_pair ∷ x) s (catch_of W (env v c) i t))
    catch e i n.no_catch_n = leaf (λ N f t. a.absent_a)
    catch {x} {c} e i (n.caught_n {b = s} {y = t} w d h) = moved (λ D. stmts_scopes W D e i t) (λ D N. MaybeA (tables_of P) T N (catch_pair ∷ x) (p.present s) (p.present (stmts_of W D i t))) (env v (single ∷ c)) ((w.name ∷ []) ∷ env v c) (ap (λ z. (z ∷ []) ∷ env v c) d) (caught (mapped (stmts e i h) (λ N y. a.present_a y)))

    finally : {x : Around} {top : Bool} {b : ℕ} {c : List Frame} {s : MaybeStmts} {t : RawFinally} (e : ℕ) (i : Counters) → FinallyN v P Known top b c s t → Out i.function (finally_marks t) (finally_scopes W (env v c) e i t) x c (λ N. MaybeA (tables_of P) T N x s (finally_of W (env v c) i t))
    finally e i n.no_finally_n = leaf (λ N f t. a.absent_a)
    finally e i (n.finally_n h) = mapped (stmts e i h) (λ N y. a.present_a y)

    cases : {x : Around} {top : Bool} {b : ℕ} {c : List Frame} {s : Cases} {t : RawCases} (e : ℕ) (i : Counters) → CasesN v P Known top b c s t → Out i.function (cases_marks t) (cases_scopes W (env v c) e i t) x c (λ N. CasesA (tables_of P) T N x s (cases_of W (env v c) i t))
    cases e i n.no_cases_n = leaf (λ N f t. a.no_cases_a)
    cases e i (n.more_cases_n {m = u} {y = z} h j k) = mapped (both (maybe e i h) (both (stmts e (past i (maybe_marks u)) j) (cases e (past (past i (maybe_marks u)) (stmts_marks z)) k))) (λ N y. a.more_cases_a y.0 y.1.0 y.1.1)

  -- ---- the chunks

  pub data ChunksA (N : Numbering) : ℕ → Counters → List RawStmts → Type 0 where
    no_chunks : {c : ℕ} {i : Counters} → ChunksA N c i []
    more_chunks : {c : ℕ} {i : Counters} {t : RawStmts} {ts : List RawStmts} → StmtsA (tables_of P) T N [] (body_of P c) (stmts_of W [] i t) → ChunksA N (suc c) (past i (stmts_marks t)) ts → ChunksA N c i (t ∷ ts)

  pub chunks : {c : ℕ} {ts : List RawStmts} (i : Counters) → ChunksN v P Known c ts → Out i.function (all_marks ts) (inner_scopes W c i ts) [] [] (λ N. ChunksA N c i ts)
  unfolding all_marks inner_scopes
  chunks i n.no_chunks_n = leaf (λ N f t. no_chunks)
  chunks {c} i (n.more_chunks_n {t} h j) = mapped (both (stmts c i h) (chunks (past i (stmts_marks t)) j)) (λ N y. more_chunks y.0 y.1)

-- What a program does: an equation for each expression and each statement (ECMA-262 5.1, 11 to 13).
-- Calls go to the bodies of functions at a lesser depth, and loops take their count from the budget.
use Rattle.std.specs.Prelude.{ℕ, zero, suc, pos, Bool, true, false, List, [], ◌∷◌, slice_get, Option, Some, None}
use Rattle.cc_ast.specs.Syntax.{Prim, undefined, text, whole, Expr, lit, var, this, fun, list, object, unary, binary, and, or, cond, assign, step, member, index, call, new, comma, cast, tick, Target, to_var, to_member, to_index, Exprs, no_exprs, more_exprs, Fields, no_fields, more_fields, Declarator, ForInit, no_init, init_value, init_vars, ForTarget, in_target, in_declared, Stmt, simple, vars, fun_decl, if, while, do_while, for, for_in, return, throw, break, continue, label, switch, try, pay_stmt, Stmts, no_stmts, more_stmts, MaybeStmts, absent, present, Cases, no_cases, more_cases, Program}
use Rattle.cc_ast.specs.declared.operator.BinOp.{BinOp}
use Rattle.cc_ast.specs.declared.operator.BinOp.TheVariants.{Add, Sub}
use Rattle.cc_ast.specs.declared.operator.UnOp.TheVariants.{Plus}
use Rattle.cc_ast.specs.declared.tree.Ref.{Ref}
use Rattle.cc_meaning.specs.Values.{Val, prim, at_site}
use Rattle.cc_meaning.specs.Operators.{truthy, strict_equal, list_eq, is_in}
use Rattle.cc_meaning.specs.State.{of_call, of_catch, Code, Env, Head, Path}
use Rattle.cc_meaning.specs.Monad.{M, ret, skip, raise, stop, spent, ◌>>=◌, Way, went, thrown, attempt, pay, with_budget, with_tables, pick, Mode}
use Rattle.cc_meaning.specs.Store.{Access, dotted, quoted, name_of, kind_by, Global, extern, built_in, of_chunk, global_kind, flat_of, fitted}
use Rattle.cc_meaning.specs.Acts.{make_object, make_array, make_function, push_frame, read_var, write_var, read_this, probe, walk, operate, operate_one, runtime_key}
use Rattle.cc_meaning.specs.Shapes.{site_of, literal_text, literal_key, longer, path_of, path_of_ref, path_of_target, path_of_key, declared_by, body_of}
use Rattle.cc_meaning.specs.Calls.{Reference, Reach, plain, access, built_global, built_member, Returned, Bodies, put_on, keep_path, get, put_to, value_of, value, apply_unary, cast_reach, callee_of, apply, construct}

-- ---- ends of statements (8.9)

pub data Comp : Type 0 where
  normal : Comp
  returns : (site : ℕ) → Val → Comp
  breaks continues : Option (List ℕ) → Comp

-- what comes next, after a normal end alone
unfoldable pub next : Comp → M Comp → M Comp
next normal k = k
next (returns i v) k = ret (returns i v)
next (breaks l) k = ret (breaks l)
next (continues l) k = ret (continues l)

-- what comes after a turn of a loop with these labels (12.6, 12.12)
unfoldable pub next_turn : List (List ℕ) → Comp → M Comp → M Comp
unfolding is_in
next_turn ls normal k = k
next_turn ls (returns i v) k = ret (returns i v)
next_turn ls (breaks None) k = ret normal
next_turn ls (breaks (Some l)) k = ret (breaks (Some l))
next_turn ls (continues None) k = k
next_turn ls (continues (Some l)) k = pick (is_in l ls) k (ret (continues (Some l)))

-- a `break` to a label ends its statement (12.12)
unfoldable pub labelled : List ℕ → Comp → Comp
unfolding list_eq
labelled l normal = normal
labelled l (returns i v) = returns i v
labelled l (breaks None) = breaks None
labelled l (breaks (Some m)) = pick (list_eq l m) normal (breaks (Some m))
labelled l (continues m) = continues m

-- a `break` without a label ends a `switch` (12.11)
unfoldable pub unbroken : Comp → Comp
unbroken normal = normal
unbroken (returns i v) = returns i v
unbroken (breaks None) = normal
unbroken (breaks (Some l)) = breaks (Some l)
unbroken (continues l) = continues l

-- a part's own end, by a value or by a throw
unfoldable pub resume : Way Comp → M Comp
resume (went c) = ret c
resume (thrown v) = raise v

-- what a function gives (13.2.1)
unfoldable pub result : Code → Comp → Returned
result c (returns i v) = record { site = i; value = v }
result c normal = record { site = c.site; value = prim undefined }
result c (breaks l) = record { site = c.site; value = prim undefined }
result c (continues l) = record { site = c.site; value = prim undefined }

-- ---- loops (12.6): a turn's cost falls due when the test has held, in `do` before the body

unfoldable pub turns : List (List ℕ) → ℕ → (test : M Bool) → (after : M (Unit {0})) → (body : M Comp) → M Comp
unfolding next_turn
turns ls zero test rest body = stop spent
turns ls (suc n) test rest body =
    test >>= λ b. pick b (pay 1 >>= λ _. body >>= λ c. next_turn ls c (rest >>= λ _. turns ls n test rest body)) (ret normal)

unfoldable pub do_turns : List (List ℕ) → ℕ → (test : M Bool) → (body : M Comp) → M Comp
unfolding next_turn
do_turns ls zero test body = stop spent
do_turns ls (suc n) test body =
    pay 1 >>= λ _. body >>= λ c. next_turn ls c (test >>= λ b. pick b (do_turns ls n test body) (ret normal))

-- a name that is gone when its turn comes is passed over
unfoldable pub each_name : List (List ℕ) → (there : List ℕ → M Bool) → (put : List ℕ → M (Unit {0})) → (body : M Comp) → List (List ℕ) → M Comp
unfolding next_turn
each_name ls there put body [] = ret normal
each_name ls there put body (n ∷ ns) =
    there n >>= λ b. pick b (pay 1 >>= λ _. put n >>= λ _. body >>= λ c. next_turn ls c (each_name ls there put body ns)) (each_name ls there put body ns)

-- ---- what is written to

pub data Place : Type 0 where
  variable_place : (site : ℕ) → Ref → Place
  slot_place : Reference → Place

unfoldable pub reference : ℕ → Option Path → Val → Access → M Reference
unfolding flat_of
reference i w o a = with_tables (λ T. ret (record { site = i; on = o; key = a; path = flat_of T w; casts = [] }))

unfoldable pub head_in : Option Head → ℕ × ℕ
head_in None = (0, 0)
head_in (Some h) = (h.params, h.names)

module _ (J : Mode) where
  -- a variable, or what a built-in global stands for
  unfoldable pub reach_global : ℕ → Env → ℕ → Global → M Reach
  unfolding read_var
  reach_global i g n (built_in b) = ret (built_global i b)
  reach_global i g n extern = read_var J (at_site i) g (Ref.Global n) >>= λ v. ret (plain v)
  reach_global i g n (of_chunk c) = read_var J (at_site i) g (Ref.Global n) >>= λ v. ret (plain v)

  unfoldable pub reach_var : ℕ → Env → Ref → M Reach
  unfolding read_var reach_global global_kind
  reach_var i g (Ref.Frame up n) = read_var J (at_site i) g (Ref.Frame up n) >>= λ v. ret (plain v)
  reach_var i g (Ref.Global n) = with_tables (λ T. reach_global i g n (global_kind T n))

  -- an access with a dot (11.2.1); of a built-in global it is one of its members
  unfoldable pub reach_member : Bodies → ℕ → Option Path → ℕ → Reach → M Reach
  unfolding reference value_of name_of
  reach_member B i w p (built_global j b) = with_tables (λ T. ret (built_member i b (name_of T (dotted p))))
  reach_member B i w p r = value_of J B r >>= λ o. reference i w o (dotted p) >>= λ a. ret (access a)

  -- the key between brackets: a text that is written there, or the text of the value
  unfoldable pub key_by : ℕ → Option (List ℕ) → Val → M Access
  unfolding runtime_key
  key_by i (Some t) v = ret (quoted t)
  key_by i None v = runtime_key J (at_site i) v

  unfoldable pub get_place : Bodies → Env → Place → M Val
  unfolding read_var get
  get_place B g (variable_place i r) = read_var J (at_site i) g r
  get_place B g (slot_place r) = get J B r

  unfoldable pub put_place : Env → Place → Val → M (Unit {0})
  unfolding write_var put_to
  put_place g (variable_place i r) v = write_var J (at_site i) g r v
  put_place g (slot_place r) v = put_to J g r v

  -- the new value: a compound assignment reads its target before the right side (11.13)
  unfoldable pub updated : Bodies → Env → ℕ → Option BinOp → Place → M Val → M Val
  unfolding get_place operate
  updated B g i None p m = m
  updated B g i (Some op) p m = get_place B g p >>= λ x. m >>= λ y. operate J (at_site i) op x y

  -- `++` and `--`: the old number and the new one (11.3, 11.4.4, 11.4.5)
  unfoldable pub stepped : Bodies → Env → ℕ → (up prefix : Bool) → Place → M Val
  unfolding get_place put_place operate operate_one
  stepped B g i up prefix p =
      get_place B g p >>= λ x. operate_one J (at_site i) Plus x >>= λ old.
      operate J (at_site i) (pick up Add Sub) old (prim (whole (pos 1))) >>= λ v.
      put_place g p v >>= λ _. ret (pick prefix v old)

  -- a key of a literal, which may set a flat path (11.1.5)
  unfoldable pub put_key : ℕ → Val → Access → Option Path → Val → M (Unit {0})
  unfolding put_on keep_path kind_by flat_of
  put_key i o a w v = put_on J (at_site i) o a (kind_by a) v false >>= λ _. with_tables (λ T. keep_path J (at_site i) (flat_of T w) v)

  unfoldable mutual
    -- what an expression reaches; w is the path that is set to it, where the expression is the whole
    -- value of a declarator, an assignment or a key
    pub ev : Bodies → Env → (w : Option Path) → Expr → M Reach
    ev B g w (lit i p) = ret (plain (prim p))
    ev B g w (var i r) = reach_var i g r
    ev B g w (this i) = read_this J (at_site i) g.this >>= λ v. ret (plain v)
    ev B g w (fun i f) = make_function f i g >>= λ v. ret (plain v)
    ev B g w (list i es) = evs B g es >>= λ vs. make_array vs >>= λ v. ret (plain v)
    ev B g w (object i fs) = make_object >>= λ o. ev_fields B g w o fs >>= λ _. ret (plain o)
    ev B g w (unary i op e) = ev B g None e >>= λ r. apply_unary J B i op r >>= λ v. ret (plain v)
    ev B g w (binary i op a b) = value J B (ev B g None a) >>= λ x. value J B (ev B g None b) >>= λ y. operate J (at_site i) op x y >>= λ v. ret (plain v)
    ev B g w (and i a b) = value J B (ev B g None a) >>= λ x. pick (truthy x) (value J B (ev B g None b)) (ret x) >>= λ v. ret (plain v)
    ev B g w (or i a b) = value J B (ev B g None a) >>= λ x. pick (truthy x) (ret x) (value J B (ev B g None b)) >>= λ v. ret (plain v)
    ev B g w (cond i t a b) = value J B (ev B g None t) >>= λ x. pick (truthy x) (value J B (ev B g None a)) (value J B (ev B g None b)) >>= λ v. ret (plain v)
    ev B g w (assign i op t e) = ev_target B g t >>= λ p. updated B g i op p (value J B (ev B g (path_of_target t) e)) >>= λ v. put_place g p v >>= λ _. ret (plain v)
    ev B g w (step i up prefix t) = ev_target B g t >>= λ p. stepped B g i up prefix p >>= λ v. ret (plain v)
    ev B g w (member i e p) = ev B g None e >>= λ r. reach_member B i (longer (path_of e) p) p r
    ev B g w (index i e k) = value J B (ev B g None e) >>= λ o. value J B (ev B g None k) >>= λ y. key_by i (literal_text k) y >>= λ a. reference i None o a >>= λ r. ret (access r)
    ev B g w (call i f es) = ev B g None f >>= λ r. callee_of J B r >>= λ c. evs B g es >>= λ vs. apply J B (at_site i) c vs >>= λ v. ret (plain v)
    ev B g w (new i f es) = value J B (ev B g None f) >>= λ c. evs B g es >>= λ vs. construct J B (at_site i) c vs >>= λ v. ret (plain v)
    ev B g w (comma i a b) = value J B (ev B g None a) >>= λ _. value J B (ev B g None b) >>= λ v. ret (plain v)
    ev B g w (cast i d e) = ev B g None e >>= λ r. cast_reach J i d r
    ev B g w (tick i p e) = J.mark p >>= λ _. ev B g None e

    pub ev_target : Bodies → Env → Target → M Place
    ev_target B g (to_var i r) = ret (variable_place i r)
    ev_target B g (to_member i e p) = value J B (ev B g None e) >>= λ o. reference i (longer (path_of e) p) o (dotted p) >>= λ r. ret (slot_place r)
    ev_target B g (to_index i e k) = value J B (ev B g None e) >>= λ o. value J B (ev B g None k) >>= λ y. key_by i (literal_text k) y >>= λ a. reference i None o a >>= λ r. ret (slot_place r)

    pub evs : Bodies → Env → Exprs → M (List Val)
    evs B g no_exprs = ret []
    evs B g (more_exprs e es) = value J B (ev B g None e) >>= λ v. evs B g es >>= λ vs. ret (v ∷ vs)

    pub ev_fields : Bodies → Env → (w : Option Path) → Val → Fields → M (Unit {0})
    ev_fields B g w o no_fields = skip
    ev_fields B g w o (more_fields k e fs) =
        value J B (ev B g (path_of_key w k) e) >>= λ v. put_key (site_of e) o (literal_key k) (path_of_key w k) v >>= λ _. ev_fields B g w o fs

  unfoldable pub value_at : Bodies → Env → Expr → M Val
  unfolding ev
  value_at B g e = value J B (ev B g None e)

  unfoldable pub test_at : Bodies → Env → Option Expr → M Bool
  unfolding value_at
  test_at B g None = ret true
  test_at B g (Some e) = value_at B g e >>= λ v. ret (truthy v)

  unfoldable pub only_run : Bodies → Env → Option Expr → M (Unit {0})
  unfolding value_at
  only_run B g None = skip
  only_run B g (Some e) = value_at B g e >>= λ _. skip

  -- ---- declarations (12.2, 10.5)

  unfoldable pub set_variable : Bodies → Env → ℕ → Ref → Option Expr → M (Unit {0})
  unfolding ev write_var
  set_variable B g i r None = skip
  set_variable B g i r (Some e) = value J B (ev B g (path_of_ref r) e) >>= λ v. write_var J (at_site i) g r v

  unfoldable pub declare : Bodies → Env → List Declarator → M (Unit {0})
  unfolding set_variable
  declare B g [] = skip
  declare B g (d ∷ ds) = set_variable B g d.site d.variable d.value >>= λ _. declare B g ds

  unfoldable pub begin_for : Bodies → Env → ForInit → M (Unit {0})
  unfolding value_at declare
  begin_for B g no_init = skip
  begin_for B g (init_value e) = value_at B g e >>= λ _. skip
  begin_for B g (init_vars ds) = declare B g ds

  -- the initial value in the head of a `for-in`, and what each name is written to (12.6.4)
  unfoldable pub begin_names : Bodies → Env → ForTarget → M (Unit {0})
  unfolding set_variable
  begin_names B g (in_target t) = skip
  begin_names B g (in_declared d) = set_variable B g d.site d.variable d.value

  unfoldable pub put_name : Bodies → Env → ForTarget → List ℕ → M (Unit {0})
  unfolding ev_target put_place write_var
  put_name B g (in_target t) n = ev_target B g t >>= λ p. put_place g p (prim (text n))
  put_name B g (in_declared d) n = write_var J (at_site d.site) g d.variable (prim (text n))

  -- function declarations are bound before the body runs
  unfoldable pub hoist_one : Env → Stmt → M (Unit {0})
  unfolding make_function write_var
  hoist_one g (fun_decl i r f) = make_function f i g >>= λ v. write_var J (at_site i) g r v
  hoist_one g _ = skip

  unfoldable pub hoist : Env → Stmts → M (Unit {0})
  unfolding hoist_one
  hoist g no_stmts = skip
  hoist g (more_stmts s ss) = hoist_one g s >>= λ _. hoist g ss

  unfoldable pub thrown_at : M Val → M Comp
  thrown_at m = m >>= λ v. raise v

  -- ---- statements

  unfoldable mutual
    -- ls are the labels of the statement
    pub ex : Bodies → Env → (ls : List (List ℕ)) → Stmt → M Comp
    ex B g ls (simple i e) = value_at B g e >>= λ _. ret normal
    ex B g ls (vars i ds) = declare B g ds >>= λ _. ret normal
    ex B g ls (fun_decl i r f) = ret normal
    ex B g ls (if i t a b) = value_at B g t >>= λ v. pick (truthy v) (exs B g [] a) (exs B g [] b)
    ex B g ls (while i t body) = with_budget (λ n. turns ls (suc n) (test_at B g (Some t)) skip (exs B g [] body))
    ex B g ls (do_while i body t) = with_budget (λ n. do_turns ls (suc n) (test_at B g (Some t)) (exs B g [] body))
    ex B g ls (for i h t e body) = begin_for B g h >>= λ _. with_budget (λ n. turns ls (suc n) (test_at B g t) (only_run B g e) (exs B g [] body))
    ex B g ls (for_in i t e body) = begin_names B g t >>= λ _. value_at B g e >>= λ v. walk J (at_site i) v >>= λ ns. each_name ls (probe J (at_site i) v) (put_name B g t) (exs B g [] body) ns
    ex B g ls (return i None) = ret (returns i (prim undefined))
    ex B g ls (return i (Some e)) = value_at B g e >>= λ v. ret (returns i v)
    ex B g ls (throw i e) = thrown_at (value_at B g e)
    ex B g ls (break i l) = ret (breaks l)
    ex B g ls (continue i l) = ret (continues l)
    ex B g ls (label i l body) = exs B g (l ∷ ls) body >>= λ c. ret (labelled l c)
    ex B g ls (switch i e cs) = value_at B g e >>= λ v. ex_cases B g v cs (ret normal) >>= λ c. ret (unbroken c)
    ex B g ls (try i body c f) = ex_finally B g f (attempt (exs B g [] body) >>= λ w. ex_catch B g c w)
    ex B g ls (pay_stmt i p) = J.mark p >>= λ _. ret normal

    -- a list of statements (12.1)
    pub exs : Bodies → Env → (ls : List (List ℕ)) → Stmts → M Comp
    exs B g ls no_stmts = ret normal
    exs B g ls (more_stmts s ss) = ex B g ls s >>= λ c. next c (exs B g ls ss)

    -- a catch variable stands alone in a frame of its own (12.14)
    pub ex_catch : Bodies → Env → MaybeStmts → Way Comp → M Comp
    ex_catch B g absent w = resume w
    ex_catch B g (present ss) (went c) = ret c
    ex_catch B g (present ss) (thrown v) = push_frame of_catch g.at (Some v ∷ []) >>= λ n. exs B (record g { at = Some n }) [] ss

    -- an abrupt end of `finally` overrides that of what stands before it (12.14)
    pub ex_finally : Bodies → Env → MaybeStmts → M Comp → M Comp
    ex_finally B g absent m = m
    ex_finally B g (present ss) m = attempt m >>= λ w. exs B g [] ss >>= λ c. next c (resume w)

    -- the first case that is `===`, and where there is none, the default at its place (12.11)
    pub ex_cases : Bodies → Env → Val → Cases → (otherwise : M Comp) → M Comp
    ex_cases B g v no_cases m = m
    ex_cases B g v (more_cases None ss cs) m = ex_cases B g v cs (exs B g [] ss >>= λ c. next c (run_cases B g cs))
    ex_cases B g v (more_cases (Some t) ss cs) m = value_at B g t >>= λ x. pick (strict_equal v x) (exs B g [] ss >>= λ c. next c (run_cases B g cs)) (ex_cases B g v cs m)

    -- the bodies of all cases from here on
    pub run_cases : Bodies → Env → Cases → M Comp
    run_cases B g no_cases = ret normal
    run_cases B g (more_cases t ss cs) = exs B g [] ss >>= λ c. next c (run_cases B g cs)

  -- a chunk's own list, where the declaration of a prototype may stand
  unfoldable pub ex_chunk : Bodies → Env → Stmts → M Comp
  unfolding ex declared_by
  ex_chunk B g no_stmts = ret normal
  ex_chunk B g (more_stmts s ss) = with_tables (λ T. ex B (record g { declares = declared_by T s }) [] s) >>= λ c. next c (ex_chunk B g ss)

  -- ---- the bodies of functions, to a depth; a depth that is the budget's suffices

  unfoldable pub call_frame : Code → List Val → M ℕ
  unfolding push_frame fitted head_in
  call_frame c vs = with_tables (λ T. push_frame (of_call c.function) c.up (fitted (head_in (slice_get T.heads c.function)).0 (head_in (slice_get T.heads c.function)).1 vs))

  unfoldable pub bodies : Program → ℕ → Bodies
  unfolding call_frame hoist exs body_of result
  bodies P zero c t vs = stop spent
  bodies P (suc d) c t vs =
      call_frame c vs >>= λ n.
      (let g : Env = record { at = Some n; this = t; declares = [] } in
      hoist g (body_of P c.function) >>= λ _. exs (bodies P d) g [] (body_of P c.function)) >>= λ k. ret (result c k)

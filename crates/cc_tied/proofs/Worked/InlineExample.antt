-- What the small inlining owes: a call of a known function and the copy that takes its place.
use Rattle.std.proofs.Common.{◌≡◌, ℕ, ◌+◌, ◌≤◌, Bool, true, false, [], Option, Some, None, refl, ap, subst, ◌∙◌, arith}
use Rattle.std.specs.Prelude.{◌&&◌, is_some, slice_get}
use Rattle.cc_ast.specs.Syntax.{Expr, lit, var, call, tick, Exprs, no_exprs, more_exprs, Scope, Program}
use Rattle.cc_ast.specs.declared.tree.Ref.{Ref}
use Rattle.cc_meaning.specs.State.{Tables}
use Rattle.cc_meaning.specs.Monad.{pick}
use Rattle.cc_meaning.specs.Shapes.{head_of, tables_of, body_in, body_of}
use Rattle.cc_meaning.specs.Meaning.{head_in, bodies}
use Rattle.cc_meaning.specs.Script.{checked}
use Rattle.cc_meaning.specs.WellMade.{Reached}
use Rattle.cc_tied.specs.Tied.{built_of}
use Rattle.cc_tied.specs.Facts.{Facts}
use Rattle.cc_tied.specs.Fine.{FineStmts}
use Rattle.cc_tied.specs.Inlined.{copy}
use Rattle.cc_tied.specs.Promises.{HasNoPaths}
use Rattle.cc_tied.specs.InlineExample.{may_stand, all_may_stand, price, prices, unmarked, all_unmarked, copy_or, inline_call, binds_alone, IsInlinable, AreInlinable}
use Rattle.cc_tied.proofs.Kit.{Kit}
use Rattle.cc_tied.proofs.Parts.{Below, BodiesT}
use Rattle.cc_tied.proofs.Turns.{AllBodiesT, below_of}
use Rattle.cc_tied.proofs.Expressions as E
use Rattle.cc_tied.proofs.Valued as V
use Rattle.cc_tied.proofs.Nodes as N
use Rattle.cc_tied.proofs.Rewriting.{anything, StepRules}
use Rattle.cc_tied.proofs.Injection.Tie.{same_right, Ctx}
use Rattle.cc_tied.proofs.Injection.Back.{literal_argument, global_argument, AreArguments, no_arguments, plain_argument, priced_argument}
use Rattle.cc_tied.proofs.Injection.Inlining.{inlines}
use Rattle.cc_tied.proofs.Injection.Facts.{head_get}
use Rattle.cc_tied.proofs.Injection.Pass.{pass_kit, same_tables}
use Rattle.cc_tied.proofs.Injection.Functions.{holds_known, function_facts}

and_both : (a b : Bool) → a && b ≡ true → (a ≡ true) × (b ≡ true)
and_both true b h = (refl, h)
and_both false b h = absurd (cc)

some_of : {A : Type 0} (o : Option A) → is_some o ≡ true → (x : A) × (o ≡ Some x)
some_of None h = absurd (cc)
some_of (Some x) h = (x, refl)

one_some : {A : Type 0} {x y : A} → ◌≡◌ {A = Option A} (Some x) (Some y) → x ≡ y
one_some h = cc

module _ (known : ℕ → Option Expr) (P : Program) (able : AreInlinable known P) where
  -- ---- the functions that are known

  unfoldable function_at : (n : ℕ) (o : Option Expr) → known n ≡ o → Option ℕ
  function_at n None w = None
  function_at n (Some e) w = Some (able n e w).function

  unfoldable pub function_of : ℕ → Option ℕ
  unfolding function_at
  function_of n = function_at n (known n) refl

  abbrev pub F : Facts
  F = function_facts P function_of

  pub known_alone : (n f : ℕ) → function_of n ≡ Some f → (g : ℕ) → Reached P g → FineStmts (Unit {0}) (binds_alone n f) tt [] (body_of P g)
  unfolding function_of
  known_alone n f h g r = by_known (known n) refl h
    where
      by_known : (o : Option Expr) → (w : known n ≡ o) → function_at n o w ≡ Some f → FineStmts (Unit {0}) (binds_alone n f) tt [] (body_of P g)
      by_known None w d = absurd (cc)
      by_known (Some e) w d = subst (λ z. FineStmts (Unit {0}) (binds_alone n z) tt [] (body_of P g)) (one_some d) ((able n e w).alone g r)

  -- what is known of the function that a global holds
  pub record KnownTo (n : ℕ) (e : Expr) : Type 0 where
    pub inlinable : IsInlinable P n e
    pub function : function_of n ≡ Some inlinable.function

  known_to : (n : ℕ) (e : Expr) → known n ≡ Some e → KnownTo n e
  unfolding function_of
  known_to n e h = let r = by_known (known n) refl h in record { inlinable = r.0; function = r.1 }
    where
      by_known : (o : Option Expr) → (w : known n ≡ o) → o ≡ Some e → (i : IsInlinable P n e) × (function_at n o w ≡ Some i.function)
      by_known None w d = absurd (cc)
      by_known (Some x) w d = subst (λ z. (i : IsInlinable P n z) × (Some (able n x w).function ≡ Some i.function)) (one_some d) (able n x w, refl)

  -- ---- arguments

  module _ (S : Tables) (c : Ctx) where
    no_price : {q : ℕ} {es bs : Exprs} → AreArguments F S c q es bs → AreArguments F S c (0 + q) es bs
    no_price {q = q} {es = es} {bs = bs} h = let e : q ≡ 0 + q = omega arith in subst (λ z. AreArguments F S c z es bs) e h

    one_argument : (e : Expr) → may_stand known e ≡ true → {q : ℕ} {es bs : Exprs} → AreArguments F S c q es bs → AreArguments F S c (price known e + q) (more_exprs e es) (more_exprs (unmarked known e) bs)
    unfolding may_stand price unmarked
    one_argument (lit i p) h r = no_price (plain_argument literal_argument r)
    one_argument (tick i n (lit j p)) h r = priced_argument r
    one_argument (var i (Ref.Global n)) h r = let k = some_of (known n) h in no_price (plain_argument (global_argument (holds_known (known_to n k.0 k.1).function) (λ u. u)) r)
    one_argument _ h r = absurd (cc)

    arguments_stand : (es : Exprs) → all_may_stand known es ≡ true → AreArguments F S c (prices known es) es (all_unmarked known es)
    unfolding all_may_stand prices all_unmarked
    arguments_stand no_exprs h = no_arguments
    arguments_stand (more_exprs e es) h = let b = and_both (may_stand known e) (all_may_stand known es) h in one_argument e b.0 (arguments_stand es b.1)

  -- ---- the function's scope

  heads_of : (f : ℕ) {s : Scope} → slice_get P.scopes f ≡ Some s → (head_in (slice_get (tables_of P).heads f)).0 ≡ s.params
  unfolding tables_of head_in head_of
  heads_of f {s = s} h = ap (λ z. (head_in z).0) (head_get P.scopes f s h)

  body_is : (f : ℕ) {s : Scope} → slice_get P.scopes f ≡ Some s → body_of P f ≡ s.body
  unfolding body_of body_in
  body_is f h = ap body_in h

  -- ---- calls

  module _ (Q : Program) (none : HasNoPaths P) (built : Ref → Bool) (builts : (r : Ref) → built r ≡ false → built_of (tables_of P) r ≡ None) where
    abbrev K : Kit
    K = pass_kit F P Q none built builts

    module _ (d d' : ℕ) (w : K.World) (le : K.bound w ≤ d) (le' : K.bound' w ≤ d') (all : AllBodiesT K P Q w) (tied : BodiesT K w (bodies checked P d) (bodies checked Q d')) where
      abbrev X : Below K
      X = below_of K P Q d d' w tied

      same : N.SameTables K X built
      same = same_tables F P Q none built builts X

      module _ (c : Ctx) (i : ℕ) (f : Expr) (es : Exprs) where
        copied : (j n : ℕ) (e : Expr) (bs : Exprs) → known n ≡ Some e → all_may_stand known bs ≡ true → E.FollowsRef K X c None None f (var j (Ref.Global n)) → E.FollowsAll K X c es bs → V.FollowsValue K X built c (call i f es) (tick i (prices known bs + 1) (copy (all_unmarked known bs) e))
        copied j n e bs h t hf ha =
            let k = known_to n e h in let z = k.inlinable in
            inlines F (tables_of P) (same_right (tables_of P) (tables_of Q).set) P Q z.function z.site z.scope.params e (body_is z.function z.stands ∙ z.body) (heads_of z.function z.stands) built (same_tables F P Q none built builts) (λ g. Unit {0}) (λ m r. (λ u. u, λ u. u)) z.copyable d d' w le le' all tied c i i j n z.chunk (prices known bs) f es bs (all_unmarked known bs) (holds_known k.function) (λ u. u, λ u. u) z.kind hf ha (arguments_stand (tables_of P) c bs t)

        copied_or : (j n : ℕ) (bs : Exprs) → E.FollowsRef K X c None None f (var j (Ref.Global n)) → E.FollowsAll K X c es bs → (o : Option Expr) → known n ≡ o → V.FollowsValue K X built c (call i f es) (copy_or known o i bs (call i (var j (Ref.Global n)) bs))
        unfolding copy_or
        copied_or j n bs hf ha None h = N.call_valued K X built same c i hf ha
        copied_or j n bs hf ha (Some e) h = by_test (all_may_stand known bs) refl
          where
            by_test : (t : Bool) → all_may_stand known bs ≡ t → V.FollowsValue K X built c (call i f es) (pick t (tick i (prices known bs + 1) (copy (all_unmarked known bs) e)) (call i (var j (Ref.Global n)) bs))
            by_test true t = copied j n e bs h t hf ha
            by_test false t = N.call_valued K X built same c i hf ha

        inlined_call : (f' : Expr) (bs : Exprs) → E.FollowsRef K X c None None f f' → E.FollowsAll K X c es bs → V.FollowsValue K X built c (call i f es) (inline_call known i f' bs)
        unfolding inline_call
        inlined_call (var j (Ref.Global n)) bs hf ha = copied_or j n bs hf ha (known n) refl
        inlined_call f' bs hf ha = N.call_valued K X built same c i hf ha

      pub inline_rules : StepRules K X built (λ c. Unit {0}) anything (λ e. e) (inline_call known)
      inline_rules = record {
        caught = λ c h. tt;
        reads = λ c h i r rd. (E.follows_var K X c (same.sites i) rd, N.var_valued K X built same c i r rd);
        steps = λ c h e e' n. N.node_valued K X built same c n;
        calls = λ c h i f f' es es' hf ha. inlined_call c i f es f' es' hf ha;
      }

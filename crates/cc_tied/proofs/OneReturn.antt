-- A call on whose right its function's body stands: what the call comes to, where the body is one `return`.
use Rattle.std.proofs.Common.{◌≡◌, ℕ, suc, false, List, [], Option, Some, None, refl, ap, ◌∙◌}
use Rattle.cc_ast.specs.Syntax.{Expr, call, Exprs, return, no_stmts, more_stmts, Program}
use Rattle.cc_meaning.specs.Values.{Val, Spot, at_site}
use Rattle.cc_meaning.specs.State.{Code, Env, Path}
use Rattle.cc_meaning.specs.Monad.{M, ret, skip, ◌>>=◌, pay, Mode}
use Rattle.cc_meaning.specs.Calls.{plain, Callee, called_value, Returned, Bodies, value_of, value, begin, callee_of, apply}
use Rattle.cc_meaning.specs.Shapes.{body_of}
use Rattle.cc_meaning.specs.Meaning.{returns, normal, result, value_at, hoist_one, hoist, ev, evs, ex, exs, call_frame, bodies}
use Rattle.cc_tied.specs.Tied.{entering, leaving}
use Rattle.cc_tied.proofs.Laws.{bind_assoc, bind_alike, ret_bind}
use Rattle.cc_tied.proofs.AtValues.{plain_value}
use Rattle.cc_tied.proofs.Cuts.{a_return, jump_ends}

module _ (J : Mode) where
  -- the value of a call
  pub call_value_is : (B : Bodies) (g : Env) (q : Option Path) (i : ℕ) (f : Expr) (es : Exprs) → value J B (ev J B g q (call i f es)) ≡ (ev J B g None f >>= λ r. callee_of J B r >>= λ c. evs J B g es >>= λ vs. apply J B (at_site i) c vs)
  unfolding value ev
  call_value_is B g q i f es =
      bind_assoc (ev J B g None f) (λ r. callee_of J B r >>= λ c. evs J B g es >>= λ vs. apply J B (at_site i) c vs >>= λ v. ret (plain v)) (value_of J B)
      ∙ bind_alike (ev J B g None f) _ _ (λ r.
      bind_assoc (callee_of J B r) (λ c. evs J B g es >>= λ vs. apply J B (at_site i) c vs >>= λ v. ret (plain v)) (value_of J B)
      ∙ bind_alike (callee_of J B r) _ _ (λ c.
      bind_assoc (evs J B g es) (λ vs. apply J B (at_site i) c vs >>= λ v. ret (plain v)) (value_of J B)
      ∙ bind_alike (evs J B g es) _ _ (λ vs. plain_value J B (apply J B (at_site i) c vs))))

  -- the callee of a value
  pub plain_callee : {A : Type 0} (B : Bodies) (x : Val) (k : Callee → M A) → (callee_of J B (plain x) >>= k) ≡ k (called_value x None)
  unfolding callee_of
  plain_callee B x k = ret_bind (called_value x None) k

  -- a call of a function, with its acts under their names
  pub begin_is : (B : Bodies) (i : Spot) (c : Code) (this : Option Val) (vs : List Val) → begin J B i c false this vs ≡ (entering J i c.function this vs >>= λ _. pay 1 >>= λ _. B c this vs >>= λ r. leaving J (at_site r.site) c.function false r.value >>= λ _. ret r.value)
  unfolding begin
  begin_is B i c this vs = refl

  -- ---- a body that is one `return`

  module _ (P : Program) (f j : ℕ) (e : Expr) (body : body_of P f ≡ more_stmts (return j (Some e)) no_stmts) where
    nothing_bound : (g : Env) → hoist J g (more_stmts (return j (Some e)) no_stmts) ≡ skip
    unfolding hoist hoist_one
    nothing_bound g = ret_bind tt (λ _. skip)

    returned : (B : Bodies) (g : Env) → exs J B g [] (more_stmts (return j (Some e)) no_stmts) ≡ (value_at J B g e >>= λ x. ret (returns j x))
    unfolding ex
    returned B g = jump_ends J B g [] (a_return {i = j} {o = Some e}) (ret normal)

    in_frame : (b : ℕ) (c : Code) (g : Env) → c.function ≡ f → ((hoist J g (body_of P c.function) >>= λ _. exs J (bodies J P b) g [] (body_of P c.function)) >>= λ k. ret (result c k)) ≡ (value_at J (bodies J P b) g e >>= λ x. ret (record { site = j; value = x }))
    unfolding result
    in_frame b c g q =
        let s : body_of P c.function ≡ more_stmts (return j (Some e)) no_stmts = ap (λ z. body_of P z) q ∙ body in
        ap (λ z. (hoist J g z >>= λ _. exs J (bodies J P b) g [] z) >>= λ k. ret (result c k)) s
        ∙ ap (λ z. (z >>= λ _. exs J (bodies J P b) g [] (more_stmts (return j (Some e)) no_stmts)) >>= λ k. ret (result c k)) (nothing_bound g)
        ∙ ap (λ z. z >>= λ k. ret (result c k)) (ret_bind tt (λ _. exs J (bodies J P b) g [] (more_stmts (return j (Some e)) no_stmts)) ∙ returned (bodies J P b) g)
        ∙ bind_assoc (value_at J (bodies J P b) g e) (λ x. ret (returns j x)) (λ k. ret (result c k))
        ∙ bind_alike (value_at J (bodies J P b) g e) _ _ (λ x. ret_bind (returns j x) (λ k. ret (result c k)))

    -- the body gives the value of its expression in a frame of its own
    pub one_return : {A : Type 0} (b : ℕ) (c : Code) (this : Option Val) (vs : List Val) (k : Returned → M A) → c.function ≡ f → (bodies J P (suc b) c this vs >>= k) ≡ (call_frame J c vs >>= λ n. value_at J (bodies J P b) (record { at = Some n; this = this; declares = [] }) e >>= λ x. k (record { site = j; value = x }))
    unfolding bodies
    one_return b c this vs k q =
        bind_assoc (call_frame J c vs) (λ n. (hoist J (record { at = Some n; this = this; declares = [] }) (body_of P c.function) >>= λ _. exs J (bodies J P b) (record { at = Some n; this = this; declares = [] }) [] (body_of P c.function)) >>= λ k. ret (result c k)) k
        ∙ bind_alike (call_frame J c vs) _ _ (λ n. ap (λ z. z >>= k) (in_frame b c (record { at = Some n; this = this; declares = [] }) q)
        ∙ bind_assoc (value_at J (bodies J P b) (record { at = Some n; this = this; declares = [] }) e) (λ x. ret (record { site = j; value = x })) k
        ∙ bind_alike (value_at J (bodies J P b) (record { at = Some n; this = this; declares = [] }) e) _ _ (λ x. ret_bind (record { site = j; value = x }) k))

-- A chunk's own list, in which holders are declared: which of them are is known from statement to statement.
use Rattle.std.proofs.Common.{◌≡◌, ℕ, [], ◌∷◌, Some, None, refl, sym, ap, ◌∙◌, List}
use Rattle.cc_ast.specs.Syntax.{Expr, assign, Target, to_var, simple, vars, Declarator, Stmts, more_stmts}
use Rattle.cc_ast.specs.declared.tree.Ref.{Ref}
use Rattle.cc_meaning.specs.Values.{Val, at_site}
use Rattle.cc_meaning.specs.State.{Env}
use Rattle.cc_meaning.specs.Monad.{M, ret, skip, ◌>>=◌, with_tables}
use Rattle.cc_meaning.specs.Acts.{write_var}
use Rattle.cc_meaning.specs.Calls.{Bodies, plain, value, value_of}
use Rattle.cc_meaning.specs.Meaning.{normal, Place, variable_place, put_place, updated, value_at, set_variable, declare, ev, ev_target, ex, Comp, next as next_by, ex_chunk}
use Rattle.cc_meaning.specs.Shapes.{path_of_target, path_of_ref, declared_by}
use Rattle.cc_meaning.specs.Script.{checked, top}
use Rattle.cc_tied.proofs.Laws.{ret_bind, bind_ret, bind_assoc, bind_alike}

-- ---- what a declaration of one variable is: the assignment to it

module _ (B : Bodies) (g : Env) where
  abbrev pub written : (i : ℕ) (r : Ref) (e : Expr) → M (Unit {0})
  written i r e = value checked B (ev checked B g (path_of_ref r) e) >>= λ v. write_var checked (at_site i) g r v

  pub var_runs : (i j : ℕ) (r : Ref) (e : Expr) → ex checked B g [] (vars i ((record { site = j; variable = r; value = Some e }) ∷ [])) ≡ (written j r e >>= λ _. ret normal)
  unfolding ex declare set_variable
  var_runs i j r e = ap (λ z. z >>= λ _. ret normal) (bind_alike (written j r e) (λ _. skip) ret (λ x. refl) ∙ bind_ret (written j r e))

  -- what is written to, and then the value
  abbrev pub sets_to : (t : Target) (e : Expr) → M (Unit {0})
  sets_to t e = ev_target checked B g t >>= λ p. value checked B (ev checked B g (path_of_target t) e) >>= λ v. put_place checked g p v

  value_plain : (v : Val) → (value_of checked B (plain v)) ≡ ret v
  unfolding value_of
  value_plain v = refl

  pub assign_runs : (i j : ℕ) (t : Target) (e : Expr) → ex checked B g [] (simple i (assign j None t e)) ≡ (sets_to t e >>= λ _. ret normal)
  unfolding ex ev value_at value updated
  assign_runs i j t e =
      let p : M Place = ev_target checked B g t in
      let m : M Val = ev checked B g (path_of_target t) e >>= λ r. value_of checked B r in
      let put : Place → Val → M (Unit {0}) = λ l v. put_place checked g l v in
      ap (λ z. z >>= λ _. ret normal) (bind_assoc p (λ l. m >>= λ v. put l v >>= λ _. ret (plain v)) (λ r. value_of checked B r))
      ∙ bind_assoc p (λ l. (m >>= λ v. put l v >>= λ _. ret (plain v)) >>= λ r. value_of checked B r) (λ _. ret normal)
      ∙ bind_alike p (λ l. ((m >>= λ v. put l v >>= λ _. ret (plain v)) >>= λ r. value_of checked B r) >>= λ _. ret normal) (λ l. (m >>= λ v. put l v) >>= λ _. ret normal) (λ l.
      ap (λ z. z >>= λ _. ret normal) (bind_assoc m (λ v. put l v >>= λ _. ret (plain v)) (λ r. value_of checked B r))
      ∙ bind_assoc m (λ v. (put l v >>= λ _. ret (plain v)) >>= λ r. value_of checked B r) (λ _. ret normal)
      ∙ bind_alike m (λ v. ((put l v >>= λ _. ret (plain v)) >>= λ r. value_of checked B r) >>= λ _. ret normal) (λ v. put l v >>= λ _. ret normal) (λ v.
      ap (λ z. z >>= λ _. ret normal) (bind_assoc (put l v) (λ _. ret (plain v)) (λ r. value_of checked B r))
      ∙ bind_assoc (put l v) (λ _. ret (plain v) >>= λ r. value_of checked B r) (λ _. ret normal)
      ∙ bind_alike (put l v) (λ _. (ret (plain v) >>= λ r. value_of checked B r) >>= λ _. ret normal) (λ _. ret normal) (λ x. ap (λ z. z >>= λ _. ret normal) (ret_bind (plain v) (λ r. value_of checked B r) ∙ value_plain v) ∙ ret_bind v (λ _. ret normal)))
      ∙ sym (bind_assoc m (λ v. put l v) (λ _. ret normal)))
      ∙ sym (bind_assoc p (λ l. m >>= λ v. put l v) (λ _. ret normal))

  pub to_var_sets : (j : ℕ) (r : Ref) (e : Expr) → sets_to (to_var j r) e ≡ written j r e
  unfolding ev_target path_of_target put_place
  to_var_sets j r e = ret_bind (variable_place j r) (λ p. value checked B (ev checked B g (path_of_ref r) e) >>= λ v. put_place checked g p v)

  -- `var N=e` is `N=e`
  pub var_assigns : (i j l : ℕ) (r : Ref) (e : Expr) → ex checked B g [] (vars i ((record { site = j; variable = r; value = Some e }) ∷ [])) ≡ ex checked B g [] (simple i (assign l None (to_var j r) e))
  var_assigns i j l r e = var_runs i j r e ∙ sym (ap (λ z. z >>= λ _. ret normal) (to_var_sets j r e)) ∙ sym (assign_runs i l (to_var j r) e)

  -- a list of declarators, one by one
  pub vars_split : (i : ℕ) (d : Declarator) (ds : List Declarator) (k : Comp → M Comp) → (ex checked B g [] (vars i (d ∷ ds)) >>= k) ≡ (ex checked B g [] (vars i (d ∷ [])) >>= λ _. ex checked B g [] (vars i ds) >>= k)
  unfolding ex declare
  vars_split i d ds k =
      let set : M (Unit {0}) = set_variable checked B g d.site d.variable d.value in
      bind_assoc (set >>= λ _. declare checked B g ds) (λ _. ret normal) k
      ∙ bind_assoc set (λ _. declare checked B g ds) (λ _. ret normal >>= k)
      ∙ bind_alike set (λ _. declare checked B g ds >>= λ _. ret normal >>= k) (λ _. (declare checked B g ds >>= λ _. ret normal) >>= k) (λ x. sym (bind_assoc (declare checked B g ds) (λ _. ret normal) k))
      ∙ sym (bind_assoc (set >>= λ _. skip) (λ _. ret normal) (λ _. (declare checked B g ds >>= λ _. ret normal) >>= k) ∙ bind_assoc set (λ _. skip) (λ _. ret normal >>= λ _. (declare checked B g ds >>= λ _. ret normal) >>= k) ∙ bind_alike set (λ _. skip >>= λ _. ret normal >>= λ _. (declare checked B g ds >>= λ _. ret normal) >>= k) (λ _. (declare checked B g ds >>= λ _. ret normal) >>= k) (λ x. ret_bind tt (λ _. ret normal >>= λ _. (declare checked B g ds >>= λ _. ret normal) >>= k) ∙ ret_bind normal (λ _. (declare checked B g ds >>= λ _. ret normal) >>= k)))

  normal_on : (i : ℕ) (ds : List Declarator) (m : M Comp) → (ex checked B g [] (vars i ds) >>= λ c. next_by c m) ≡ (ex checked B g [] (vars i ds) >>= λ _. m)
  unfolding ex next_by
  normal_on i ds m = bind_assoc (declare checked B g ds) (λ _. ret normal) (λ c. next_by c m) ∙ bind_alike (declare checked B g ds) (λ _. ret normal >>= λ c. next_by c m) (λ _. m) (λ x. ret_bind normal (λ c. next_by c m)) ∙ sym (bind_assoc (declare checked B g ds) (λ _. ret normal) (λ _. m) ∙ bind_alike (declare checked B g ds) (λ _. ret normal >>= λ _. m) (λ _. m) (λ x. ret_bind normal (λ _. m)))

chunk_vars : (B : Bodies) (i : ℕ) (ds : List Declarator) (ss : Stmts) → ex_chunk checked B top (more_stmts (vars i ds) ss) ≡ (ex checked B (record top { declares = [] }) [] (vars i ds) >>= λ c. next_by c (ex_chunk checked B top ss))
unfolding ex_chunk with_tables declared_by
chunk_vars B i ds ss = refl

pub chunk_split : (B : Bodies) (i : ℕ) (d : Declarator) (ds : List Declarator) (ss : Stmts) → ex_chunk checked B top (more_stmts (vars i (d ∷ ds)) ss) ≡ ex_chunk checked B top (more_stmts (vars i (d ∷ [])) (more_stmts (vars i ds) ss))
chunk_split B i d ds ss =
    let g : Env = record top { declares = [] } in
    chunk_vars B i (d ∷ ds) ss
    ∙ vars_split B g i d ds (λ c. next_by c (ex_chunk checked B top ss))
    ∙ ap (λ z. ex checked B g [] (vars i (d ∷ [])) >>= λ _. z) (sym (chunk_vars B i ds ss))
    ∙ sym (normal_on B g i (d ∷ []) (ex_chunk checked B top (more_stmts (vars i ds) ss)))
    ∙ sym (chunk_vars B i (d ∷ []) (more_stmts (vars i ds) ss))

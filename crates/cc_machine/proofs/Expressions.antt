-- Expressions.
use Rattle.std.proofs.Common.{◌≡◌, ℕ, Bool, List, [], ◌∷◌, ◌++◌, Option, Some, None, refl, ap, ◌∙◌, sym, append_assoc}
use Rattle.cc_ast.specs.Syntax.{Prim, Expr, lit, var, this, fun, list, object, unary, binary, and, or, cond, assign, step, member, index, call, new, comma, cast, tick, Target, to_var, to_member, to_index, Exprs, no_exprs, more_exprs, Fields, no_fields, more_fields, Program}
use Rattle.cc_ast.specs.declared.operator.BinOp.{BinOp}
use Rattle.cc_ast.specs.declared.operator.UnOp.{UnOp}
use Rattle.cc_ast.specs.declared.operator.UnOp.TheVariants.{Minus, Plus, BitNot, Not, Void, Typeof, Delete}
use Rattle.cc_ast.specs.declared.tree.Ref.{Ref}
use Rattle.cc_meaning.specs.Values.{Val, Event, prim, at_site}
use Rattle.cc_meaning.specs.Operators.{truthy}
use Rattle.cc_meaning.specs.State.{Env, Path, State}
use Rattle.cc_meaning.specs.Monad.{M, ret, stop, said, after, ◌>>=◌, with_tables, pick, Mode}
use Rattle.cc_meaning.specs.Store.{dotted, name_of}
use Rattle.cc_meaning.specs.Acts.{make_object, make_array, make_function, read_var, read_this, operate, operate_one}
use Rattle.cc_meaning.specs.Shapes.{site_of, literal_text, literal_key, longer, path_of, path_of_target, path_of_key}
use Rattle.cc_meaning.specs.Calls.{Reach, plain, access, built_global, built_member, Bodies, value_of, value, apply_unary, callee_of, apply, construct}
use Rattle.cc_meaning.specs.Meaning.{Place, variable_place, slot_place, reference, reach_global, reach_var, reach_member, get_place, put_place, updated, stepped, put_key, ev, ev_target, evs, ev_fields}
use Rattle.cc_machine.specs.Machine.{Focus, Frame, on_reach, on_val, on_place}
use Rattle.cc_machine.specs.Machine.{eval, want, aim, gather, fill, take, take_from, unary_of, member_of, reached, gave, gathered, placed}
use Rattle.cc_machine.specs.Machine.{to_value, unary_on, member_on, cast_on, callee_on, to_reach, operand_on, left_on, right_on, and_on, or_on, comma_on, cond_on, stored_on, update_on, updated_on, stepped_on, dot_on, index_on, key_on, aim_dot_on, aim_index_on, aim_key_on, new_on, arg_on, field_on}
use Rattle.cc_machine.specs.Machine.{array_on, apply_on, construct_on, assign_on, step_on}
use Rattle.cc_machine.specs.Steps.{onward}
use Rattle.cc_machine.proofs.Laws.{append_none, bind_assoc, bind_ret, ret_bind}
use Rattle.cc_machine.proofs.Goes.{at, more, far, Runs, Meets, bind, then_meet, goto, push, acted, acts, pop, swap, pop_acted, pop_acts, runs_pick, given, alike, meets_alike}
use Rattle.cc_meaning.specs.Store.{Built, Global, extern, built_in, of_chunk, global_kind}
use Rattle.cc_meaning.specs.Acts.{read_global}
use Rattle.cc_machine.proofs.Calls.{reach_passes, val_passes, list_passes, place_passes, args_passes, AreBodies, take_run, apply_run, construct_run, find_run}

module _ (J : Mode) (P : Program) (d : ℕ) (B : Bodies) (bodies_run : AreBodies J P d B) (g : Env) where
  -- ---- a value as what is reached, and the value of what is reached

  plain_value : (m : M Val) → value J B (m >>= λ v. ret (plain v)) ≡ m
  unfolding value value_of
  plain_value m = bind_assoc m (λ v. ret (plain v)) (value_of J B) ∙ ap (λ h. m >>= h) (λ i v. ret_bind (plain v) (value_of J B) i) ∙ bind_ret m

  to_reach_meets : {f : Focus} {m : M Val} → Runs J P g d f m gave → Meets J P g d f (on_val to_reach) (m >>= λ v. ret (plain v)) reached
  unfolding onward
  to_reach_meets p = bind J P (val_passes J P to_reach) p (λ v. pop J P (λ K l s. refl) (given J P (plain v)))

  to_value_meets : {f : Focus} {m : M Reach} → Runs J P g d f m reached → Meets J P g d f (on_reach to_value) (value J B m) gave
  unfolding onward value
  to_value_meets p = bind J P (reach_passes J P to_value) p (λ r. pop J P (λ K l s. refl) (take_run J P d B bodies_run g r))

  -- an expression, by what it reaches and by its value
  pub record Does (e : Expr) : Type 0 where
    pub evals : (w : Option Path) → Runs J P g d (eval w e) (ev J B g w e) reached
    pub wants : (w : Option Path) → Runs J P g d (want w e) (value J B (ev J B g w e)) gave

  -- one that gives a value by its shape
  by_value : {e : Expr} → (core : Option Path → M Val) → ((w : Option Path) → (core w >>= λ v. ret (plain v)) ≡ ev J B g w e) →
      ((w : Option Path) (K : List Frame) (l : List Event) (s : State) → onward J P (at (eval w e) g d K s l) ≡ at (want w e) g d (on_val to_reach ∷ K) s l) →
      ((w : Option Path) → Runs J P g d (want w e) (core w) gave) → Does e
  by_value core path first p = record {
    evals = λ w. alike J P (path w) (push J P (first w) (to_reach_meets (p w)));
    wants = λ w. alike J P (sym (plain_value (core w)) ∙ ap (λ m. value J B m) (path w)) (p w);
  }

  by_reach : {e : Expr} → ((w : Option Path) (K : List Frame) (l : List Event) (s : State) → onward J P (at (want w e) g d K s l) ≡ at (eval w e) g d (on_reach to_value ∷ K) s l) →
      ((w : Option Path) → Runs J P g d (eval w e) (ev J B g w e) reached) → Does e
  by_reach first p = record { evals = p; wants = λ w. push J P (first w) (to_value_meets (p w)) }

  operand : (i : ℕ) (op : UnOp) (r : Reach) → Meets J P g d (take r) (on_val (operand_on i op)) (value_of J B r >>= λ v. operate_one J (at_site i) op v) gave
  unfolding onward
  operand i op r = bind J P (val_passes J P (operand_on i op)) (take_run J P d B bodies_run g r) (λ v. pop_acted J P (λ K l s. refl))

  unary_run : (i : ℕ) (op : UnOp) (r : Reach) → Runs J P g d (unary_of i op r) (apply_unary J B i op r) gave
  unfolding onward apply_unary
  unary_run i Delete r = acted J P (λ K l s. refl)
  unary_run i Minus r = push J P (λ K l s. refl) (operand i Minus r)
  unary_run i Plus r = push J P (λ K l s. refl) (operand i Plus r)
  unary_run i BitNot r = push J P (λ K l s. refl) (operand i BitNot r)
  unary_run i Not r = push J P (λ K l s. refl) (operand i Not r)
  unary_run i Void r = push J P (λ K l s. refl) (operand i Void r)
  unary_run i Typeof r = push J P (λ K l s. refl) (operand i Typeof r)

  dot : (i : ℕ) (w : Option Path) (p : ℕ) (r : Reach) → Meets J P g d (take r) (on_val (dot_on i w p)) (value_of J B r >>= λ o. reference i w o (dotted p) >>= λ a. ret (access a)) reached
  unfolding onward
  dot i w p r = bind J P (val_passes J P (dot_on i w p)) (take_run J P d B bodies_run g r) (λ o. pop_acts J P _ (λ K l s. refl) (λ a. given J P (access a)))

  built_reached : (i : ℕ) (b : Built) (n : List ℕ) → Runs J P g d (reached (built_member i b n)) (ret (built_member i b n)) reached
  built_reached i b n = given J P (built_member i b n)

  member_run : (i : ℕ) (w : Option Path) (p : ℕ) (r : Reach) → Runs J P g d (member_of i w p r) (reach_member J B i w p r) reached
  unfolding onward reach_member with_tables
  member_run i w p (plain v) = push J P (λ K l s. refl) (dot i w p (plain v))
  member_run i w p (access r) = push J P (λ K l s. refl) (dot i w p (access r))
  member_run i w p (built_global j b) = record { run = λ K l s. more J P ((built_reached i b (name_of s.tables (dotted p))).run K l s) }
  member_run i w p (built_member j b n) = push J P (λ K l s. refl) (dot i w p (built_member j b n))

  -- the value of a variable is what is read of it
  built_read : (i n : ℕ) (s : State) (b : Built) → value J B (ret (built_global i b)) s ≡ read_global J (at_site i) n (built_in b) s
  unfolding value value_of read_global stop ret ◌>>=◌ after said
  built_read i n s b = refl

  global_read : (i n : ℕ) (s : State) (k : Global) → k ≡ global_kind s.tables n → value J B (reach_global J i g n k) s ≡ read_var J (at_site i) g (Ref.Global n) s
  unfolding reach_global read_var
  global_read i n s extern e = ap (λ (m : M Val). m s) (plain_value (read_var J (at_site i) g (Ref.Global n)))
  global_read i n s (of_chunk c) e = ap (λ (m : M Val). m s) (plain_value (read_var J (at_site i) g (Ref.Global n)))
  global_read i n s (built_in b) e = built_read i n s b ∙ ap (λ z. read_global J (at_site i) n z s) e

  variable_read : (i : ℕ) (r : Ref) → read_var J (at_site i) g r ≡ value J B (reach_var J i g r)
  unfolding reach_var with_tables value ◌>>=◌
  variable_read i (Ref.Frame up n) = sym (plain_value (read_var J (at_site i) g (Ref.Frame up n)))
  variable_read i (Ref.Global n) = λ j s. sym (global_read i n s (global_kind s.tables n) refl) j

  ticked : (p : ℕ) (m : M Reach) → value J B (J.mark p >>= λ _. m) ≡ (J.mark p >>= λ _. value J B m)
  unfolding value
  ticked p m = bind_assoc (J.mark p) (λ _. m) (value_of J B)

  -- ---- places

  take_from_run : (p : Place) → Runs J P g d (take_from p) (get_place J B g p) gave
  unfolding onward get_place value_of
  take_from_run (variable_place i r) = acted J P (λ K l s. refl)
  take_from_run (slot_place r) = goto J P (λ K l s. refl) (take_run J P d B bodies_run g (access r))

  stored : (p : Place) (v : Val) → Meets J P g d (gave v) (on_val (stored_on p)) (put_place J g p v >>= λ _. ret v) gave
  unfolding onward
  stored p v = pop_acts J P _ (λ K l s. refl) (λ _. given J P v)

  -- what is assigned
  update : (i : ℕ) (op : BinOp) (p : Place) (w : Option Path) (e : Expr) → Runs J P g d (want w e) (value J B (ev J B g w e)) gave →
      Meets J P g d (take_from p) (on_val (update_on i op p w e)) (updated J B g i (Some op) p (value J B (ev J B g w e))) gave
  unfolding onward updated
  update i op p w e q = bind J P (val_passes J P (update_on i op p w e)) (take_from_run p) (λ x. swap J P (λ K l s. refl)
      (bind J P (val_passes J P (updated_on i op p x)) q (λ y. pop_acted J P (λ K l s. refl))))

  assigned : (i : ℕ) (o : Option BinOp) (p : Place) (w : Option Path) (e : Expr) → Runs J P g d (want w e) (value J B (ev J B g w e)) gave →
      Meets J P g d (placed p) (on_place (assign_on i o w e)) (updated J B g i o p (value J B (ev J B g w e)) >>= λ v. put_place J g p v >>= λ _. ret v) gave
  unfolding onward updated ◌>>=◌
  assigned i None p w e q = swap J P (λ K l s. refl) (bind J P (val_passes J P (stored_on p)) q (λ v. stored p v))
  assigned i (Some op) p w e q = record { run = λ K l s. more J P (far J P ((update i op p w e q).run (on_val (stored_on p) ∷ K) l s) (then_meet J P (val_passes J P (stored_on p)) (λ v. stored p v) K l (updated J B g i (Some op) p (value J B (ev J B g w e)) s))) }

  steps : (i : ℕ) (up prefix : Bool) (p : Place) → Meets J P g d (placed p) (on_place (step_on i up prefix)) (stepped J B g i up prefix p) gave
  unfolding onward stepped
  steps i up prefix p = swap J P (λ K l s. refl) (bind J P (val_passes J P (stepped_on i up prefix p)) (take_from_run p) (λ x. pop_acted J P (λ K l s. refl)))

  -- ---- arguments

  gather_more : (vs : List Val) (m : M Val) (n : M (List Val)) → ((m >>= λ v. n >>= λ us. ret (v ∷ us)) >>= λ us. ret (vs ++ us)) ≡ (m >>= λ v. n >>= λ us. ret ((vs ++ v ∷ []) ++ us))
  gather_more vs m n = bind_assoc m _ _ ∙ ap (λ h. m >>= h) (λ j v. (bind_assoc n (λ us. ret (v ∷ us)) (λ us. ret (vs ++ us)) ∙ ap (λ h. n >>= h) (λ l us. (ret_bind (v ∷ us) (λ ws. ret (vs ++ ws)) ∙ ap (λ (z : List Val). ret z) (sym (append_assoc vs (v ∷ []) us))) l)) j)

  evs_of : (es : Exprs) → Runs J P g d (gather [] es) (evs J B g es >>= λ us. ret ([] ++ us)) gathered → Runs J P g d (gather [] es) (evs J B g es) gathered
  evs_of es p = alike J P (bind_ret (evs J B g es)) p

  mutual
    unfolding onward ev ev_target evs ev_fields

    pub does_run : (e : Expr) → Does e
    does_run (lit i p) = by_value (λ w. ret (prim p)) (λ w. ret_bind (prim p) _) (λ w K l s. refl) (λ w. goto J P (λ K l s. refl) (given J P (prim p)))
    does_run (var i r) = record { evals = λ w. acted J P (λ K l s. refl); wants = λ w. alike J P (variable_read i r) (acted J P (λ K l s. refl)) }
    does_run (this i) = by_value (λ w. read_this J (at_site i) g.this) (λ w. refl) (λ w K l s. refl) (λ w. acted J P (λ K l s. refl))
    does_run (fun i f) = by_value (λ w. make_function f i g) (λ w. refl) (λ w K l s. refl) (λ w. acted J P (λ K l s. refl))
    does_run (list i es) = by_value (λ w. evs J B g es >>= λ vs. make_array vs) (λ w. simp (bind_assoc) refl) (λ w K l s. refl) (λ w. push J P (λ K l s. refl)
        (bind J P (list_passes J P array_on) (evs_of es (gather_run [] es)) (λ vs. pop_acted J P (λ K l s. refl))))
    does_run (object i fs) = by_value (λ w. make_object >>= λ o. ev_fields J B g w o fs >>= λ _. ret o) (λ w. simp (bind_assoc, ret_bind) refl) (λ w K l s. refl) (λ w. acts J P _ (λ K l s. refl) (λ o. fields_run w o fs))
    does_run (unary i op e) = by_value (λ w. ev J B g None e >>= λ r. apply_unary J B i op r) (λ w. simp (bind_assoc) refl) (λ w K l s. refl) (λ w. push J P (λ K l s. refl)
        (bind J P (reach_passes J P (unary_on i op)) ((does_run e).evals None) (λ r. pop J P (λ K l s. refl) (unary_run i op r))))
    does_run (binary i op a b) = by_value (λ w. value J B (ev J B g None a) >>= λ x. value J B (ev J B g None b) >>= λ y. operate J (at_site i) op x y) (λ w. simp (bind_assoc) refl) (λ w K l s. refl) (λ w. push J P (λ K l s. refl)
        (bind J P (val_passes J P (left_on i op b)) ((does_run a).wants None) (λ x. swap J P (λ K l s. refl)
        (bind J P (val_passes J P (right_on i op x)) ((does_run b).wants None) (λ y. pop_acted J P (λ K l s. refl))))))
    does_run (and i a b) = by_value (λ w. value J B (ev J B g None a) >>= λ x. pick (truthy x) (value J B (ev J B g None b)) (ret x)) (λ w. simp (bind_assoc) refl) (λ w K l s. refl) (λ w. push J P (λ K l s. refl)
        (bind J P (val_passes J P (and_on b)) ((does_run a).wants None) (λ x. pop J P (λ K l s. refl) (runs_pick J P (truthy x) ((does_run b).wants None) (given J P x)))))
    does_run (or i a b) = by_value (λ w. value J B (ev J B g None a) >>= λ x. pick (truthy x) (ret x) (value J B (ev J B g None b))) (λ w. simp (bind_assoc) refl) (λ w K l s. refl) (λ w. push J P (λ K l s. refl)
        (bind J P (val_passes J P (or_on b)) ((does_run a).wants None) (λ x. pop J P (λ K l s. refl) (runs_pick J P (truthy x) (given J P x) ((does_run b).wants None)))))
    does_run (cond i t a b) = by_value (λ w. value J B (ev J B g None t) >>= λ x. pick (truthy x) (value J B (ev J B g None a)) (value J B (ev J B g None b))) (λ w. simp (bind_assoc) refl) (λ w K l s. refl) (λ w. push J P (λ K l s. refl)
        (bind J P (val_passes J P (cond_on a b)) ((does_run t).wants None) (λ x. pop J P (λ K l s. refl) (runs_pick J P (truthy x) ((does_run a).wants None) ((does_run b).wants None)))))
    does_run (assign i op t e) = by_value (λ w. ev_target J B g t >>= λ p. updated J B g i op p (value J B (ev J B g (path_of_target t) e)) >>= λ v. put_place J g p v >>= λ _. ret v) (λ w. simp (bind_assoc, ret_bind) refl) (λ w K l s. refl) (λ w. push J P (λ K l s. refl)
        (bind J P (place_passes J P (assign_on i op (path_of_target t) e)) (aim_run t) (λ p. assigned i op p (path_of_target t) e ((does_run e).wants (path_of_target t)))))
    does_run (step i up prefix t) = by_value (λ w. ev_target J B g t >>= λ p. stepped J B g i up prefix p) (λ w. simp (bind_assoc) refl) (λ w K l s. refl) (λ w. push J P (λ K l s. refl)
        (bind J P (place_passes J P (step_on i up prefix)) (aim_run t) (λ p. steps i up prefix p)))
    does_run (member i e p) = by_reach (λ w K l s. refl) (λ w. push J P (λ K l s. refl) (bind J P (reach_passes J P (member_on i (longer (path_of e) p) p)) ((does_run e).evals None) (λ r. pop J P (λ K l s. refl) (member_run i (longer (path_of e) p) p r))))
    does_run (index i e k) = by_reach (λ w K l s. refl) (λ w. push J P (λ K l s. refl) (bind J P (val_passes J P (index_on i k)) ((does_run e).wants None) (λ o. swap J P (λ K l s. refl)
        (bind J P (val_passes J P (key_on i (literal_text k) o)) ((does_run k).wants None) (λ y. meets_alike J P (bind_assoc _ _ _) (pop_acts J P _ (λ K l s. refl) (λ r. given J P (access r))))))))
    does_run (call i f es) = by_value (λ w. ev J B g None f >>= λ r. callee_of J B r >>= λ c. evs J B g es >>= λ vs. apply J B (at_site i) c vs) (λ w. simp (bind_assoc) refl) (λ w K l s. refl) (λ w. push J P (λ K l s. refl)
        (bind J P (reach_passes J P (callee_on i es)) ((does_run f).evals None) (λ r. swap J P (λ K l s. refl)
        (bind J P (args_passes J P i es) (find_run J P d B bodies_run g r) (λ x. swap J P (λ K l s. refl)
        (bind J P (list_passes J P (apply_on i x)) (evs_of es (gather_run [] es)) (λ vs. pop J P (λ K l s. refl) (apply_run J P d B bodies_run g (at_site i) x vs))))))))
    does_run (new i f es) = by_value (λ w. value J B (ev J B g None f) >>= λ c. evs J B g es >>= λ vs. construct J B (at_site i) c vs) (λ w. simp (bind_assoc) refl) (λ w K l s. refl) (λ w. push J P (λ K l s. refl)
        (bind J P (val_passes J P (new_on i es)) ((does_run f).wants None) (λ x. swap J P (λ K l s. refl)
        (bind J P (list_passes J P (construct_on i x)) (evs_of es (gather_run [] es)) (λ vs. pop J P (λ K l s. refl) (construct_run J P d B bodies_run g (at_site i) x vs))))))
    does_run (comma i a b) = by_value (λ w. value J B (ev J B g None a) >>= λ _. value J B (ev J B g None b)) (λ w. simp (bind_assoc) refl) (λ w K l s. refl) (λ w. push J P (λ K l s. refl)
        (bind J P (val_passes J P (comma_on b)) ((does_run a).wants None) (λ x. pop J P (λ K l s. refl) ((does_run b).wants None))))
    does_run (cast i n e) = by_reach (λ w K l s. refl) (λ w. push J P (λ K l s. refl) (bind J P (reach_passes J P (cast_on i n)) ((does_run e).evals None) (λ r. pop_acted J P (λ K l s. refl))))
    does_run (tick i p e) = record {
      evals = λ w. acts J P _ (λ K l s. refl) (λ _. (does_run e).evals None);
      wants = λ w. alike J P (sym (ticked p (ev J B g None e))) (acts J P _ (λ K l s. refl) (λ _. (does_run e).wants None));
    }

    pub aim_run : (t : Target) → Runs J P g d (aim t) (ev_target J B g t) placed
    aim_run (to_var i r) = goto J P (λ K l s. refl) (given J P (variable_place i r))
    aim_run (to_member i e p) = push J P (λ K l s. refl) (bind J P (val_passes J P (aim_dot_on i (longer (path_of e) p) p)) ((does_run e).wants None) (λ o. pop_acts J P _ (λ K l s. refl) (λ r. given J P (slot_place r))))
    aim_run (to_index i e k) = push J P (λ K l s. refl) (bind J P (val_passes J P (aim_index_on i k)) ((does_run e).wants None) (λ o. swap J P (λ K l s. refl)
        (bind J P (val_passes J P (aim_key_on i (literal_text k) o)) ((does_run k).wants None) (λ y. meets_alike J P (bind_assoc _ _ _) (pop_acts J P _ (λ K l s. refl) (λ r. given J P (slot_place r)))))))

    pub gather_run : (vs : List Val) (es : Exprs) → Runs J P g d (gather vs es) (evs J B g es >>= λ us. ret (vs ++ us)) gathered
    gather_run vs no_exprs = alike J P (sym (ret_bind [] (λ us. ret (vs ++ us)))) (goto J P (λ K l s. refl) (alike J P (ap (λ (z : List Val). ret z) (sym (append_none vs))) (given J P vs)))
    gather_run vs (more_exprs e es) = push J P (λ K l s. refl) (meets_alike J P (sym (gather_more vs (value J B (ev J B g None e)) (evs J B g es)))
        (bind J P (val_passes J P (arg_on vs es)) ((does_run e).wants None) (λ v. pop J P (λ K l s. refl) (gather_run (vs ++ v ∷ []) es))))

    pub fields_run : (w : Option Path) (o : Val) (fs : Fields) → Runs J P g d (fill w o fs) (ev_fields J B g w o fs >>= λ _. ret o) gave
    fields_run w o no_fields = alike J P (sym (ret_bind tt (λ _. ret o))) (goto J P (λ K l s. refl) (given J P o))
    fields_run w o (more_fields k e fs) = push J P (λ K l s. refl) (meets_alike J P (sym (bind_assoc (value J B (ev J B g (path_of_key w k) e)) _ _)) (bind J P (val_passes J P (field_on w o k (site_of e) fs)) ((does_run e).wants (path_of_key w k)) (λ v.
        meets_alike J P (sym (bind_assoc (put_key J (site_of e) o (literal_key k) (path_of_key w k) v) _ _)) (pop_acts J P _ (λ K l s. refl) (λ _. fields_run w o fs)))))

  pub want_run : (w : Option Path) (e : Expr) → Runs J P g d (want w e) (value J B (ev J B g w e)) gave
  want_run w e = (does_run e).wants w

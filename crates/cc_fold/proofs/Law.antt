-- What folding owes for every node, over every kit for which sites don't count and prices add up.
use Rattle.std.proofs.Common.{◌≡◌, refl, sym, ap, ◌∙◌, ℕ, zero, suc, ◌+◌, Bool, true, false, Option, Some, None, unwrap_or, subst}
use Rattle.std.specs.Prelude.{nat_eq, if◌then◌else◌}
use Rattle.cc_ast.specs.Syntax.{Prim, Expr, lit, unary, binary, and, or, cond, tick}
use Rattle.cc_ast.specs.declared.operator.BinOp.{BinOp}
use Rattle.cc_ast.specs.declared.operator.BinOp.TheVariants.{Instance, Has}
use Rattle.cc_ast.specs.declared.operator.UnOp.{UnOp}
use Rattle.cc_ast.specs.declared.operator.UnOp.TheVariants.{Void, Delete}
use Rattle.cc_ast.specs.declared.tree.Ref.{Ref}
use Rattle.cc_meaning.specs.Values.{Val}
use Rattle.cc_meaning.specs.Operators.{Outcome, truthy, unary_of, binary_of}
use Rattle.cc_meaning.specs.State.{Env, Path}
use Rattle.cc_meaning.specs.Monad.{M, ret, ◌>>=◌, pick, Mode}
use Rattle.cc_meaning.specs.Calls.{Bodies, plain, value}
use Rattle.cc_meaning.specs.Meaning.{ev}
use Rattle.cc_tied.specs.Placed.{accesses, variable, builds, reaches}
use Rattle.cc_tied.proofs.Kit.{Kit}
use Rattle.cc_tied.proofs.Parts.{V, SiteT, Below, truthy_tied, rel_pick}
use Rattle.cc_tied.proofs.Laws.{ret_bind}
use Rattle.cc_tied.proofs.Expressions as E
use Rattle.cc_tied.proofs.Expressions.{deletes}
use Rattle.cc_tied.proofs.Valued as W
use Rattle.cc_tied.proofs.Nodes as N
use Rattle.cc_tied.proofs.Rewriting.{Standing, StepRules}
use Rattle.cc_fold.specs.Fold.{Literal, literal, literal_at, price_of, unmarked, marked, charged, computed, computed_of_one, computed_of_two, fold_unary, fold_binary, fold_and, fold_or, fold_cond, fold, same_call}
use Rattle.cc_fold.proofs.Runs.{PricesAdd, paying, paying_then, path_behind, marked_ev, marked_value, and_value, or_value, cond_value}
use Rattle.cc_fold.proofs.LiteralRuns.{literal_runs, one_runs, two_runs, charged_is, computed_is}

-- ---- shapes of what has a price

unmarked_keeps : (f : Expr → Bool) → ((i n : ℕ) (e : Expr) → f (tick i n e) ≡ f e) → (e : Expr) → f (unmarked e) ≡ f e
unfolding unmarked
unmarked_keeps f h (tick i n e) = sym (h i n e)
unmarked_keeps f h e = refl

marked_keeps : (f : Expr → Bool) → ((i n : ℕ) (e : Expr) → f (tick i n e) ≡ f e) → (i n : ℕ) (e : Expr) → f (marked i n e) ≡ f e
unfolding marked
marked_keeps f h i n e = by_test (nat_eq n 0)
  where
    by_test : (b : Bool) → f (if b then e else tick i (n + price_of e) (unmarked e)) ≡ f e
    by_test true = refl
    by_test false = h i (n + price_of e) (unmarked e) ∙ unmarked_keeps f h e

marked_reaches : (built : Ref → Bool) (i n : ℕ) (e : Expr) → reaches built (marked i n e) ≡ reaches built e
unfolding reaches accesses builds
marked_reaches built i n e = marked_keeps (λ z. reaches built z) (λ j m d. refl) i n e

-- what is no access and no variable
record IsAlone (e : Expr) : Type 0 where
  pub no_access : accesses e ≡ false
  pub no_variable : variable e ≡ false

literal_alone : (a : Expr) (l : Literal) → literal a ≡ Some l → IsAlone a
unfolding literal literal_at price_of unmarked accesses variable
literal_alone (lit i p) l h = record { no_access = refl; no_variable = refl }
literal_alone (tick i n (lit j p)) l h = record { no_access = refl; no_variable = refl }
literal_alone _ l h = absurd (cc)

marked_alone : (i n : ℕ) (p : Prim) → IsAlone (marked i n (lit i p))
unfolding accesses variable
marked_alone i n p = record { no_access = marked_keeps accesses (λ j m d. refl) i n (lit i p); no_variable = marked_keeps variable (λ j m d. refl) i n (lit i p) }

computed_alone : (i n : ℕ) (o : Outcome) (r : Expr) → computed i n o ≡ Some r → IsAlone r
computed_alone i n o r h = let w = computed_is i n o r h in subst IsAlone (sym w.is) (marked_alone i n w.value)

no_path : (J : Mode) (B : Bodies) (add : PricesAdd J) (n : ℕ) → path_behind J B add n None ≡ None
no_path J B add zero = refl
no_path J B add (suc n) = refl

module _ (K : Kit) (X : Below K) (built : Ref → Bool) (same : N.SameTables K X built) (anywhere : (i j : ℕ) → SiteT K i j) (add : PricesAdd K.J') (c : K.Ctx) where
  open K use {J, J', World, Later, later, EnvT, env_later, Rel, rel_ret, rel_bind}
  open X use {B, B', w}

  abbrev Value : Expr → Expr → Type 0
  Value e e' = W.FollowsValue K X built c e e'

  -- the two ways of a choice, where the operand stands for the one that t tells
  abbrev turn : {A : Type 0} → (t : Bool) → Bool → A → A → A
  turn true s m n = pick s m n
  turn false s m n = pick s n m

  turned : {A : Type 0} (t : Bool) (m n : A) → turn t t m n ≡ m
  turned true m n = refl
  turned false m n = refl

  rel_turn : {A A' : Type 0} {R : World → A → A' → Type 0} {v : World} {m n : M A} {m' n' : M A'} → (t s s' : Bool) → s ≡ s' → Rel R v m m' → Rel R v n n' → Rel R v (turn t s m n) (turn t s' m' n')
  rel_turn true s s' e h k = rel_pick K s s' e h k
  rel_turn false s s' e h k = rel_pick K s s' e k h

  -- ---- operators on literals

  one_by : {e : Expr} (i : ℕ) (op : UnOp) (a : Expr) → deletes op ≡ false → Value e (unary i op a) → (o : Option Literal) → literal a ≡ o → Value e (unwrap_or (computed_of_one i op o) (unary i op a))
  unfolding computed_of_one
  one_by i op a d h None k = h
  one_by {e = e} i op a d h (Some l) k = by_result (computed i l.price (unary_of op l.value)) refl
    where
      by_result : (r : Option Expr) → computed i l.price (unary_of op l.value) ≡ r → Value e (unwrap_or r (unary i op a))
      by_result None q = h
      by_result (Some r) q = let s = computed_alone i l.price (unary_of op l.value) r q in W.valued_equal K X built c h s.no_access s.no_variable (anywhere _ _) (λ g p. one_runs J' B' add g p i op a r l k d q)

  unary_like : {e : Expr} (i : ℕ) (op : UnOp) (a : Expr) → deletes op ≡ false → Value e (unary i op a) → Value e (fold_unary i op a)
  unfolding fold_unary
  unary_like i Void a d h = h
  unary_like i Delete a d h = h
  unary_like i op a d h = one_by i op a d h (literal a) refl

  two_by : {e : Expr} (i : ℕ) (op : BinOp) (a b : Expr) → (op ≡ Instance → ⊥) → (op ≡ Has → ⊥) → Value e (binary i op a b) → (o p : Option Literal) → literal a ≡ o → literal b ≡ p → Value e (unwrap_or (computed_of_two i op o p) (binary i op a b))
  unfolding computed_of_two
  two_by i op a b n m h None p k j = h
  two_by i op a b n m h (Some l) None k j = h
  two_by {e = e} i op a b n m h (Some l) (Some z) k j = by_result (computed i (l.price + z.price) (binary_of op l.value z.value)) refl
    where
      by_result : (r : Option Expr) → computed i (l.price + z.price) (binary_of op l.value z.value) ≡ r → Value e (unwrap_or r (binary i op a b))
      by_result None q = h
      by_result (Some r) q = let s = computed_alone i (l.price + z.price) (binary_of op l.value z.value) r q in W.valued_equal K X built c h s.no_access s.no_variable (anywhere _ _) (λ g p. two_runs J' B' add g p i op a b r l z k j n m q)

  binary_like : {e : Expr} (i : ℕ) (op : BinOp) (a b : Expr) → Value e (binary i op a b) → Value e (fold_binary i op a b)
  unfolding fold_binary
  binary_like i Instance a b h = h
  binary_like i Has a b h = h
  binary_like i op a b h = two_by i op a b (λ q. absurd (cc)) (λ q. absurd (cc)) h (literal a) (literal b) refl refl

  -- ---- the operand that a literal chooses

  takes_operand : (t : Bool) (i : ℕ) {e a a' b b' : Expr} (l : Literal) → literal a' ≡ Some l → truthy l.value ≡ t → Value a a' → Value b b' → (O O' : Env → Val → M Val) → ((v : World) → Later w v → (g g' : Env) → EnvT c v g g' → (x y : Val) → V K v x y → Rel (V K) v (O g x) (O' g' y)) → ((g : Env) (q : Option Path) → value J B (ev J B g q e) ≡ (value J B (ev J B g None a) >>= λ x. turn t (truthy x) (value J B (ev J B g None b)) (O g x))) → Value e (marked i l.price b')
  takes_operand t i {e = e} {a = a} {a' = a'} {b = b} {b' = b'} l k tr ha hb O O' other run = record { site = anywhere _ _; values = values; plain = alone }
    where
      n : ℕ
      n = l.price

      -- what is paid on the right, and then done
      right : {A : Type 0} (g' : Env) (m : M A) (o : Val → M A) → paying J' B' l.price m ≡ (value J' B' (ev J' B' g' None a') >>= λ y. turn t (truthy y) m (o y))
      right g' m o =
          let f = λ (y : Val). turn t (truthy y) m (o y) in
          sym (ap (λ z. z >>= f) (literal_runs J' B' add g' None a' l k) ∙ paying_then J' B' l.price (ret l.value) f ∙ ap (paying J' B' l.price) (ret_bind l.value f ∙ ap (λ z. turn t z m (o l.value)) tr ∙ turned t m (o l.value)))

      values : (q q' : Option Path) → E.FollowsAs K X (V K) c q q' e (marked i l.price b')
      values q q' = record {
        by = λ v lv g g' et.
            let m = value J' B' (ev J' B' g' (path_behind J' B' add l.price q') b') in
            subst (λ z. Rel (V K) v z (value J' B' (ev J' B' g' q' (marked i l.price b')))) (sym (run g q))
            (subst (λ z. Rel (V K) v (value J B (ev J B g None a) >>= λ x. turn t (truthy x) (value J B (ev J B g None b)) (O g x)) z) (sym (marked_value J' B' add g' q' i l.price b' ∙ right g' m (O' g')))
            (rel_bind ((ha.values None None).by v lv g g' et) (λ u lu x y h.
            rel_turn t (truthy x) (truthy y) (truthy_tied K h) ((hb.values None (path_behind J' B' add l.price q')).by u (later lv lu) g g' (env_later lu et)) (other u (later lv lu) g g' (env_later lu et) x y h))));
      }

      alone : reaches built (marked i l.price b') ≡ false → W.FollowsPlain K X built c e (marked i l.price b')
      alone r = record {
        by = λ v lv g g' et.
            let m = ev J' B' g' None b' in
            let o = λ (y : Val). O' g' y >>= λ z. ret (plain z) in
            subst (λ z. Rel (W.PlainT K X built) v z (ev J' B' g' None (marked i l.price b'))) (sym (run g None))
            (subst (λ z. Rel (W.PlainT K X built) v (value J B (ev J B g None a) >>= λ x. turn t (truthy x) (value J B (ev J B g None b)) (O g x)) z) (sym (marked_ev J' B' add g' None i l.price b' ∙ ap (λ z. paying J' B' l.price (ev J' B' g' z b')) (no_path J' B' add l.price) ∙ right g' m o))
            (rel_bind ((ha.values None None).by v lv g g' et) (λ u lu x y h.
            rel_turn t (truthy x) (truthy y) (truthy_tied K h) ((hb.plain (sym (marked_reaches built i l.price b') ∙ r)).by u (later lv lu) g g' (env_later lu et))
            (W.rel_left K (rel_bind (other u (later lv lu) g g' (env_later lu et) x y h) (λ u2 l2 x2 y2 q2. rel_ret x2 (plain y2) (W.plain_p q2)))))));
      }

  charged_by : {e old : Expr} (i n : ℕ) (b : Expr) → Value e old → Value e (marked i n b) → (o : Option Expr) → charged i n b ≡ o → Value e (unwrap_or o old)
  charged_by i n b h k None q = h
  charged_by {e = e} i n b h k (Some r) q = subst (Value e) (sym (charged_is i n b r q)) k

  -- ---- `&&`, `||` and `?:`

  and_like : (i : ℕ) {a a' b b' : Expr} → Value a a' → Value b b' → (o : Option Literal) → literal a' ≡ o → Value (and i a b) (fold_and i o a' b')
  unfolding fold_and
  and_like i ha hb None k = N.node_valued K X built same c (N.and_n ha hb)
  and_like i {a = a} {a' = a'} {b = b} {b' = b'} ha hb (Some l) k = by_truth (truthy l.value) refl
    where
      node : Value (and i a b) (and i a' b')
      node = N.node_valued K X built same c (N.and_n ha hb)

      left : truthy l.value ≡ false → (g : Env) (q : Option Path) → value J' B' (ev J' B' g q (and i a' b')) ≡ value J' B' (ev J' B' g q a')
      left d g q =
          let f = λ (y : Val). pick (truthy y) (value J' B' (ev J' B' g None b')) (ret y) in
          and_value J' B' g q i a' b' ∙ ap (λ z. z >>= f) (literal_runs J' B' add g None a' l k) ∙ paying_then J' B' l.price (ret l.value) f ∙ ap (paying J' B' l.price) (ret_bind l.value f ∙ ap (λ z. pick z (value J' B' (ev J' B' g None b')) (ret l.value)) d) ∙ sym (literal_runs J' B' add g q a' l k)

      by_truth : (t : Bool) → truthy l.value ≡ t → Value (and i a b) (if t then unwrap_or (charged i l.price b') (and i a' b') else a')
      by_truth true d = charged_by i l.price b' node (takes_operand true i l k d ha hb (λ g x. ret x) (λ g y. ret y) (λ v lv g g' et x y h. rel_ret x y h) (λ g q. and_value J B g q i a b)) (charged i l.price b') refl
      by_truth false d = let s = literal_alone a' l k in W.valued_equal K X built c node s.no_access s.no_variable (anywhere _ _) (left d)

  or_like : (i : ℕ) {a a' b b' : Expr} → Value a a' → Value b b' → (o : Option Literal) → literal a' ≡ o → Value (or i a b) (fold_or i o a' b')
  unfolding fold_or
  or_like i ha hb None k = N.node_valued K X built same c (N.or_n ha hb)
  or_like i {a = a} {a' = a'} {b = b} {b' = b'} ha hb (Some l) k = by_truth (truthy l.value) refl
    where
      node : Value (or i a b) (or i a' b')
      node = N.node_valued K X built same c (N.or_n ha hb)

      left : truthy l.value ≡ true → (g : Env) (q : Option Path) → value J' B' (ev J' B' g q (or i a' b')) ≡ value J' B' (ev J' B' g q a')
      left d g q =
          let f = λ (y : Val). pick (truthy y) (ret y) (value J' B' (ev J' B' g None b')) in
          or_value J' B' g q i a' b' ∙ ap (λ z. z >>= f) (literal_runs J' B' add g None a' l k) ∙ paying_then J' B' l.price (ret l.value) f ∙ ap (paying J' B' l.price) (ret_bind l.value f ∙ ap (λ z. pick z (ret l.value) (value J' B' (ev J' B' g None b'))) d) ∙ sym (literal_runs J' B' add g q a' l k)

      by_truth : (t : Bool) → truthy l.value ≡ t → Value (or i a b) (if t then a' else unwrap_or (charged i l.price b') (or i a' b'))
      by_truth false d = charged_by i l.price b' node (takes_operand false i l k d ha hb (λ g x. ret x) (λ g y. ret y) (λ v lv g g' et x y h. rel_ret x y h) (λ g q. or_value J B g q i a b)) (charged i l.price b') refl
      by_truth true d = let s = literal_alone a' l k in W.valued_equal K X built c node s.no_access s.no_variable (anywhere _ _) (left d)

  cond_like : (i : ℕ) {e e' a a' b b' : Expr} → Value e e' → Value a a' → Value b b' → (o : Option Literal) → literal e' ≡ o → Value (cond i e a b) (fold_cond i o e' a' b')
  unfolding fold_cond
  cond_like i he ha hb None k = N.node_valued K X built same c (N.cond_n he ha hb)
  cond_like i {e = e} {e' = e'} {a = a} {a' = a'} {b = b} {b' = b'} he ha hb (Some l) k = by_truth (truthy l.value) refl
    where
      node : Value (cond i e a b) (cond i e' a' b')
      node = N.node_valued K X built same c (N.cond_n he ha hb)

      by_truth : (t : Bool) → truthy l.value ≡ t → Value (cond i e a b) (unwrap_or (charged i l.price (if t then a' else b')) (cond i e' a' b'))
      by_truth true d = charged_by i l.price a' node (takes_operand true i l k d he ha (λ g x. value J B (ev J B g None b)) (λ g y. value J' B' (ev J' B' g None b')) (λ v lv g g' et x y h. (hb.values None None).by v lv g g' et) (λ g q. cond_value J B g q i e a b)) (charged i l.price a') refl
      by_truth false d = charged_by i l.price b' node (takes_operand false i l k d he hb (λ g x. value J B (ev J B g None a)) (λ g y. value J' B' (ev J' B' g None a')) (λ v lv g g' et x y h. (ha.values None None).by v lv g g' et) (λ g q. cond_value J B g q i e a b)) (charged i l.price b') refl

  -- ---- each node

  pub fold_like : {e e' : Expr} → N.NodeT K X built c e e' → Value e (fold e')
  unfolding fold fold_unary
  fold_like (N.unary_n {i = i} {op = op} {e' = e'} d h) = unary_like i op e' d (N.node_valued K X built same c (N.unary_n d h))
  fold_like (N.binary_n {i = i} {op = op} {a' = a'} {b' = b'} ha hb) = binary_like i op a' b' (N.node_valued K X built same c (N.binary_n ha hb))
  fold_like (N.and_n {i = i} {a' = a'} ha hb) = and_like i ha hb (literal a') refl
  fold_like (N.or_n {i = i} {a' = a'} ha hb) = or_like i ha hb (literal a') refl
  fold_like (N.cond_n {i = i} {e' = e'} he ha hb) = cond_like i he ha hb (literal e') refl
  fold_like n = N.node_valued K X built same c n

-- the steps of folding keep what the rewriting asks
pub fold_rules : (K : Kit) (X : Below K) (built : Ref → Bool) (same : N.SameTables K X built) → ((i j : ℕ) → SiteT K i j) → PricesAdd K.J' → (Stands : Standing K.Ctx) → StepRules K X built (λ c. Unit {0}) Stands fold same_call
unfolding fold same_call
fold_rules K X built same anywhere add Stands = record {
  caught = λ c h. tt;
  reads = λ c h i r rd. (E.follows_var K X c (same.sites i) rd, N.var_valued K X built same c i r rd);
  steps = λ c h e e' n. fold_like K X built same anywhere add c n;
  calls = λ c h i f f' es es' hf ha. N.call_valued K X built same c i hf ha;
}

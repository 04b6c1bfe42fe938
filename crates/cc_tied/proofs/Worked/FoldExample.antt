-- What the small folding owes, over every kit for which sites don't count.
use Rattle.std.proofs.Common.{◌≡◌, refl, sym, ap, ◌∙◌, ℕ, Bool, true, false, [], ◌∷◌, Option, Some, None, subst}
use Rattle.cc_ast.specs.Syntax.{Prim, Expr, lit, binary, and}
use Rattle.cc_ast.specs.declared.operator.BinOp.{BinOp}
use Rattle.cc_ast.specs.declared.operator.BinOp.TheVariants.{Add}
use Rattle.cc_ast.specs.declared.tree.Ref.{Ref}
use Rattle.cc_meaning.specs.Values.{Val, prim, at_site, Spot}
use Rattle.cc_meaning.specs.Operators.{Outcome, gives, binary_of, truthy}
use Rattle.cc_meaning.specs.State.{Env, Path}
use Rattle.cc_meaning.specs.Monad.{M, ret, ◌>>=◌, pick, Mode}
use Rattle.cc_meaning.specs.Rules.{binary_op, operate_rule, binary_rule, outcome_rule}
use Rattle.cc_meaning.specs.Judge.{Act, operates, least_broken}
use Rattle.cc_meaning.specs.Acts.{judged, allowed, operate, outcome_value}
use Rattle.cc_meaning.specs.Shapes.{site_of}
use Rattle.cc_meaning.specs.Calls.{Bodies, plain, value_of, value}
use Rattle.cc_meaning.specs.Meaning.{ev}
use Rattle.cc_tied.specs.Placed.{accesses, variable}
use Rattle.cc_tied.specs.FoldExample.{literal, given, sum_of, literal_or, chosen, fold_binary, fold}
use Rattle.cc_tied.proofs.Kit.{Kit}
use Rattle.cc_tied.proofs.Parts.{V, SiteT, Below, truthy_tied}
use Rattle.cc_tied.proofs.Laws.{ret_bind, bind_ret, bind_assoc, bind_alike}
use Rattle.cc_tied.proofs.Expressions as E
use Rattle.cc_tied.proofs.Expressions.{value_literal}
use Rattle.cc_tied.proofs.Valued as W
use Rattle.cc_tied.proofs.Nodes as N
use Rattle.cc_tied.proofs.Rewriting.{Standing, StepRules}
use Rattle.cc_tied.specs.Rewrites.{stay_call}

literal_is : (e : Expr) (p : Prim) → literal e ≡ Some p → (i : ℕ) × (e ≡ lit i p)
unfolding literal
literal_is (lit i q) p h = (i, cc)
literal_is _ p h = absurd (cc)

-- ---- the equation of runs of a sum

allowed_gives : (J : Mode) (i : Spot) (a : Act) (o : Outcome) (r : Prim) → o ≡ gives (prim r) → allowed J i a (outcome_rule o) (ret (outcome_value o)) ≡ ret (prim r)
unfolding allowed outcome_rule outcome_value
allowed_gives J i a o r e = subst (λ z. allowed J i a (outcome_rule z) (ret (outcome_value z)) ≡ ret (prim r)) (sym e) refl

sum_operates : (J : Mode) (i : Spot) (p q r : Prim) → binary_of Add (prim p) (prim q) ≡ gives (prim r) → operate J i Add (prim p) (prim q) ≡ ret (prim r)
unfolding operate judged least_broken operate_rule binary_rule
sum_operates J i p q r e = allowed_gives J i (operates (binary_op Add) (prim p ∷ prim q ∷ [])) (binary_of Add (prim p) (prim q)) r e

sum_runs : (J : Mode) (B : Bodies) (g : Env) (w : Option Path) (i j k : ℕ) (p q r : Prim) → binary_of Add (prim p) (prim q) ≡ gives (prim r) → value J B (ev J B g w (binary i Add (lit j p) (lit k q))) ≡ value J B (ev J B g w (lit i r))
unfolding ev value
sum_runs J B g w i j k p q r e = ap (λ z. z >>= value_of J B) (
    ap (λ z. z >>= λ x. value J B (ev J B g None (lit k q)) >>= λ y. operate J (at_site i) Add x y >>= λ v. ret (plain v)) (value_literal J B g None j p)
    ∙ ret_bind (prim p) (λ x. value J B (ev J B g None (lit k q)) >>= λ y. operate J (at_site i) Add x y >>= λ v. ret (plain v))
    ∙ ap (λ z. z >>= λ y. operate J (at_site i) Add (prim p) y >>= λ v. ret (plain v)) (value_literal J B g None k q)
    ∙ ret_bind (prim q) (λ y. operate J (at_site i) Add (prim p) y >>= λ v. ret (plain v))
    ∙ ap (λ z. z >>= λ v. ret (plain v)) (sum_operates J (at_site i) p q r e)
    ∙ ret_bind (prim r) (λ v. ret (plain v)))

given_is : (o : Outcome) (r : Prim) → given o ≡ Some r → o ≡ gives (prim r)
unfolding given
given_is (gives (prim p)) r h = ap (λ z. gives (prim z)) (some_is p r h)
  where
    some_is : (p r : Prim) → ◌≡◌ {A = Option Prim} (Some p) (Some r) → p ≡ r
    some_is p r h = cc
given_is _ r h = absurd (cc)

value_plain : (J : Mode) (B : Bodies) (m : M Val) → ((m >>= λ v. ret (plain v)) >>= value_of J B) ≡ m
unfolding value_of
value_plain J B m = bind_assoc m (λ v. ret (plain v)) (value_of J B) ∙ bind_alike m (λ v. ret (plain v) >>= value_of J B) ret (λ v. ret_bind (plain v) (value_of J B)) ∙ bind_ret m

and_value : (J : Mode) (B : Bodies) (g : Env) (q : Option Path) (i : ℕ) (a b : Expr) → value J B (ev J B g q (and i a b)) ≡ (value J B (ev J B g None a) >>= λ x. pick (truthy x) (value J B (ev J B g None b)) (ret x))
unfolding ev value
and_value J B g q i a b =
    bind_assoc (value J B (ev J B g None a)) (λ x. pick (truthy x) (value J B (ev J B g None b)) (ret x) >>= λ v. ret (plain v)) (value_of J B)
    ∙ bind_alike (value J B (ev J B g None a)) (λ x. (pick (truthy x) (value J B (ev J B g None b)) (ret x) >>= λ v. ret (plain v)) >>= value_of J B) (λ x. pick (truthy x) (value J B (ev J B g None b)) (ret x)) (λ x. value_plain J B (pick (truthy x) (value J B (ev J B g None b)) (ret x)))

module _ (K : Kit) (X : Below K) (built : Ref → Bool) (same : N.SameTables K X built) (anywhere : (i j : ℕ) → SiteT K i j) (c : K.Ctx) where
  open K use {J, J', World, Later, later, EnvT, env_later, Rel, rel_ret, rel_bind, rel_given}
  open X use {B, B', w}

  abbrev Value : Expr → Expr → Type 0
  Value e e' = W.FollowsValue K X built c e e'

  -- a sum
  sum_as : (i j k : ℕ) {e : Expr} (p q : Prim) (o : Option Prim) → given (binary_of Add (prim p) (prim q)) ≡ o → SiteT K (site_of e) i → Value e (binary i Add (lit j p) (lit k q)) → Value e (literal_or i o (binary i Add (lit j p) (lit k q)))
  unfolding literal_or accesses variable site_of
  sum_as i j k p q None d s h = h
  sum_as i j k p q (Some r) d s h = W.valued_equal K X built c h refl refl s (λ g v. sum_runs J' B' g v i j k p q r (given_is _ r d))

  sum_by : (i : ℕ) {e a b : Expr} (o q : Option Prim) → literal a ≡ o → literal b ≡ q → SiteT K (site_of e) i → Value e (binary i Add a b) → Value e (literal_or i (sum_of o q) (binary i Add a b))
  unfolding literal_or sum_of
  sum_by i {e = e} {a = a} {b = b} (Some p) (Some q) d d' s h =
      let l = literal_is a p d in let m = literal_is b q d' in
      subst (λ z. Value e (literal_or i (given (binary_of Add (prim p) (prim q))) (binary i Add z b))) (sym l.1)
      (subst (λ z. Value e (literal_or i (given (binary_of Add (prim p) (prim q))) (binary i Add (lit l.0 p) z))) (sym m.1)
      (sum_as i l.0 m.0 p q (given (binary_of Add (prim p) (prim q))) refl s (subst (λ z. Value e (binary i Add z (lit m.0 q))) l.1 (subst (λ z. Value e (binary i Add a z)) m.1 h))))
  sum_by i (Some p) None d d' s h = h
  sum_by i None q d d' s h = h

  -- ---- the chosen operand of `&&`

  -- the left run, where the value of its left side is tied to that of a literal
  rel_chosen : (i : ℕ) {a : Expr} (b : Expr) (j : ℕ) (p : Prim) → Value a (lit j p) → {C : Type 0} {R : World → Val → C → Type 0} {v : World} → Later w v → {g g' : Env} → EnvT c v g g' → (q : Option Path) (t : Bool) → truthy (prim p) ≡ t → (m' : M C) → ((u : World) → Later v u → t ≡ true → Rel R u (value J B (ev J B g None b)) m') → ((u : World) → (x : Val) → V K u x (prim p) → t ≡ false → Rel R u (ret x) m') → Rel R v (value J B (ev J B g q (and i a b))) m'
  rel_chosen i {a = a} b j p ha {R = R} {v = v} l {g = g} {g' = g'} et q t d m' right left =
      subst (λ z. Rel R v z m') (sym (and_value J B g q i a b))
      (subst (λ z. Rel R v (value J B (ev J B g None a) >>= λ x. pick (truthy x) (value J B (ev J B g None b)) (ret x)) z) (ret_bind (prim p) (λ y. m'))
      (rel_bind (rel_given (prim p) (subst (λ z. Rel (V K) v (value J B (ev J B g None a)) z) (value_literal J' B' g' None j p) ((ha.values None None).by v l g g' et))) (λ v2 l2 x y h.
      let tied : V K v2 x (prim p) = subst (λ z. V K v2 x z) h.1 h.0 in
      by_test v2 l2 x tied (truthy x) t (truthy_tied K tied ∙ d) refl)))
    where
      by_test : (u : World) → Later v u → (x : Val) → V K u x (prim p) → (s t' : Bool) → s ≡ t' → t ≡ t' → Rel R u (pick s (value J B (ev J B g None b)) (ret x)) m'
      by_test u lu x h true true e f = right u lu f
      by_test u lu x h false false e f = left u x h f
      by_test u lu x h true false e f = absurd (cc)
      by_test u lu x h false true e f = absurd (cc)

  picked : (i j : ℕ) {a b b' : Expr} (p : Prim) → Value a (lit j p) → Value b b' → (t : Bool) → truthy (prim p) ≡ t → Value (and i a b) (pick t b' (lit j p))
  unfolding site_of accesses variable
  picked i j {a = a} {b = b} {b' = b'} p ha hb true d = record {
    site = anywhere _ _;
    values = λ q q'. record { by = λ v l g g' et. rel_chosen i b j p ha l et q true d (value J' B' (ev J' B' g' q' b')) (λ u lu e. (hb.values None q').by u (later l lu) g g' (env_later lu et)) (λ u x h e. absurd (cc)) };
    plain = λ r. record { by = λ v l g g' et. rel_chosen i b j p ha l et None true d (ev J' B' g' None b') (λ u lu e. (hb.plain r).by u (later l lu) g g' (env_later lu et)) (λ u x h e. absurd (cc)) };
  }
  picked i j {a = a} {b = b} {b' = b'} p ha hb false d = record { site = anywhere _ _; values = values; plain = λ r. W.plain_of_values K X built c refl refl (values None None) }
    where
      values : (q q' : Option Path) → E.FollowsAs K X (V K) c q q' (and i a b) (lit j p)
      values q q' = record { by = λ v l g g' et. subst (λ z. Rel (V K) v (value J B (ev J B g q (and i a b))) z) (sym (value_literal J' B' g' q' j p)) (rel_chosen i b j p ha l et q false d (ret (prim p)) (λ u lu e. absurd (cc)) (λ u x h e. rel_ret x (prim p) h)) }

  chosen_by : (i : ℕ) {a a' b b' : Expr} (o : Option Prim) → literal a' ≡ o → Value a a' → Value b b' → Value (and i a b) (and i a' b') → Value (and i a b) (chosen o a' b' (and i a' b'))
  unfolding chosen
  chosen_by i {a = a} {a' = a'} {b = b} {b' = b'} (Some p) d ha hb h =
      let l = literal_is a' p d in
      subst (λ z. Value (and i a b) (pick (truthy (prim p)) b' z)) (sym l.1) (picked i l.0 p (subst (λ z. Value a z) l.1 ha) hb (truthy (prim p)) refl)
  chosen_by i None d ha hb h = h

  -- ---- each node

  binary_like : (i : ℕ) (op : BinOp) {a a' b b' : Expr} → Value a a' → Value b b' → Value (binary i op a b) (fold_binary i op a' b')
  unfolding fold_binary site_of
  binary_like i Add {a' = a'} {b' = b'} ha hb = sum_by i (literal a') (literal b') refl refl (same.sites i) (N.node_valued K X built same c (N.binary_n ha hb))
  binary_like i op ha hb = N.node_valued K X built same c (N.binary_n ha hb)

  pub fold_like : {e e' : Expr} → N.NodeT K X built c e e' → Value e (fold e')
  unfolding fold
  fold_like (N.binary_n {i = i} {op = op} ha hb) = binary_like i op ha hb
  fold_like (N.and_n {i = i} {a' = a'} ha hb) = chosen_by i (literal a') refl ha hb (N.node_valued K X built same c (N.and_n ha hb))
  fold_like (N.unary_n d h) = N.node_valued K X built same c (N.unary_n d h)
  fold_like n = N.node_valued K X built same c n

pub fold_rules : (K : Kit) (X : Below K) (built : Ref → Bool) (same : N.SameTables K X built) → ((i j : ℕ) → SiteT K i j) → (Stands : Standing K.Ctx) → StepRules K X built (λ c. Unit {0}) Stands fold stay_call
unfolding fold stay_call
fold_rules K X built same anywhere Stands = record {
  caught = λ c h. tt;
  reads = λ c h i r rd. (E.follows_var K X c (same.sites i) rd, N.var_valued K X built same c i r rd);
  steps = λ c h e e' n. fold_like K X built same anywhere c n;
  calls = λ c h i f f' es es' hf ha. N.call_valued K X built same c i hf ha;
}

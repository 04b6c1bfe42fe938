-- What an expression can reach, by its shape, and what its runs are then equal to.
use Rattle.std.proofs.Common.{◌≡◌, refl, sym, ◌∙◌, ℕ, Bool, true, false, [], ◌∷◌, ◌++◌, Option, None}
use Rattle.std.specs.Prelude.{not}
use Rattle.cc_ast.specs.Syntax.{Expr, lit, var, this, fun, list, object, unary, binary, and, or, cond, assign, step, member, index, call, new, comma, cast, tick}
use Rattle.cc_meaning.specs.Values.{Val, at_site}
use Rattle.cc_meaning.specs.State.{Env, Path}
use Rattle.cc_meaning.specs.Monad.{M, ret, ◌>>=◌, with_tables, Mode}
use Rattle.cc_meaning.specs.Store.{dotted, name_of}
use Rattle.cc_meaning.specs.Acts.{cast_to}
use Rattle.cc_meaning.specs.Calls.{Reference, Reach, plain, access, built_global, built_member, Bodies, value_of, value, cast_reach}
use Rattle.cc_meaning.specs.Meaning.{reference, reach_member, ev}
use Rattle.cc_tied.specs.Placed.{accesses, variable}
use Rattle.cc_tied.proofs.Laws.{ret_bind, bind_ret, bind_assoc, bind_alike}

unfoldable pub is_plain : Reach → Bool
is_plain (plain v) = true
is_plain _ = false

unfoldable pub is_global : Reach → Bool
is_global (built_global i b) = true
is_global _ = false

-- what may be reached
unfoldable pub may_reach : Expr → Reach → Bool
unfolding is_plain is_global
may_reach (var i r) x = true
may_reach (member i e p) x = not (is_global x)
may_reach (index i e k) x = not (is_global x)
may_reach (cast i d e) x = may_reach e x
may_reach (tick i n e) x = may_reach e x
may_reach _ x = is_plain x

pub reaches_values : (e : Expr) → accesses e ≡ false → variable e ≡ false → (x : Reach) → may_reach e x ≡ true → is_plain x ≡ true
unfolding accesses variable may_reach
reaches_values (var i r) a b x h = absurd (cc)
reaches_values (member i e p) a b x h = absurd (cc)
reaches_values (index i e k) a b x h = absurd (cc)
reaches_values (cast i d e) a b x h = reaches_values e a b x h
reaches_values (tick i n e) a b x h = reaches_values e a b x h
reaches_values _ a b x h = h

plain_local : (x : Reach) → is_plain x ≡ true → is_global x ≡ false
unfolding is_plain is_global
plain_local (plain v) h = refl
plain_local (access r) h = refl
plain_local (built_global i b) h = absurd (cc)
plain_local (built_member i b n) h = refl

not_false : (b : Bool) → not b ≡ true → b ≡ false
not_false true h = absurd (cc)
not_false false h = refl

pub reaches_no_global : (e : Expr) → variable e ≡ false → (x : Reach) → may_reach e x ≡ true → is_global x ≡ false
unfolding variable may_reach
reaches_no_global (var i r) b x h = absurd (cc)
reaches_no_global (member i e p) b x h = not_false (is_global x) h
reaches_no_global (index i e k) b x h = not_false (is_global x) h
reaches_no_global (cast i d e) b x h = reaches_no_global e b x h
reaches_no_global (tick i n e) b x h = reaches_no_global e b x h
reaches_no_global _ b x h = plain_local x h

module _ {A : Type 0} (k k' : Reach → M A) where
  then_alike : {C : Type 0} (m : M C) (f : C → M Reach) → ((c : C) → (f c >>= k) ≡ (f c >>= k')) → ((m >>= f) >>= k) ≡ ((m >>= f) >>= k')
  then_alike m f h = bind_assoc m f k ∙ bind_alike m (λ c. f c >>= k) (λ c. f c >>= k') h ∙ sym (bind_assoc m f k')

  given_alike : (x : Reach) → k x ≡ k' x → (ret x >>= k) ≡ (ret x >>= k')
  given_alike x h = ret_bind x k ∙ h ∙ sym (ret_bind x k')

  values_alike : ((v : Val) → k (plain v) ≡ k' (plain v)) → (m : M Val) → ((m >>= λ v. ret (plain v)) >>= k) ≡ ((m >>= λ v. ret (plain v)) >>= k')
  values_alike h m = then_alike m (λ v. ret (plain v)) (λ v. given_alike (plain v) (h v))

  references_alike : ((r : Reference) → k (access r) ≡ k' (access r)) → (m : M Reference) → ((m >>= λ r. ret (access r)) >>= k) ≡ ((m >>= λ r. ret (access r)) >>= k')
  references_alike h m = then_alike m (λ r. ret (access r)) (λ r. given_alike (access r) (h r))

  module _ (J : Mode) (B : Bodies) where
    member_alike : ((x : Reach) → not (is_global x) ≡ true → k x ≡ k' x) → (i : ℕ) (w : Option Path) (p : ℕ) (r : Reach) → (reach_member J B i w p r >>= k) ≡ (reach_member J B i w p r >>= k')
    unfolding reach_member with_tables ◌>>=◌ is_global
    member_alike h i w p (built_global j b) = λ n s. given_alike (built_member i b (name_of s.tables (dotted p))) (h (built_member i b (name_of s.tables (dotted p))) refl) n s
    member_alike h i w p (plain v) = then_alike (value_of J B (plain v)) (λ o. reference i w o (dotted p) >>= λ a. ret (access a)) (λ o. references_alike (λ a. h (access a) refl) (reference i w o (dotted p)))
    member_alike h i w p (access r) = then_alike (value_of J B (access r)) (λ o. reference i w o (dotted p) >>= λ a. ret (access a)) (λ o. references_alike (λ a. h (access a) refl) (reference i w o (dotted p)))
    member_alike h i w p (built_member j b n) = then_alike (value_of J B (built_member j b n)) (λ o. reference i w o (dotted p) >>= λ a. ret (access a)) (λ o. references_alike (λ a. h (access a) refl) (reference i w o (dotted p)))

same_access : (e : Expr) (r r' : Reference) → may_reach e (access r) ≡ true → may_reach e (access r') ≡ true
unfolding may_reach is_plain is_global
same_access (cast i d e) r r' h = same_access e r r' h
same_access (tick i n e) r r' h = same_access e r r' h
same_access _ r r' h = h

module _ (J : Mode) (B : Bodies) {A : Type 0} where
  cast_alike : (k k' : Reach → M A) (e : Expr) → ((x : Reach) → may_reach e x ≡ true → k x ≡ k' x) → (i d : ℕ) (x : Reach) → may_reach e x ≡ true → (cast_reach J i d x >>= k) ≡ (cast_reach J i d x >>= k')
  unfolding cast_reach
  cast_alike k k' e h i d (plain v) q = then_alike k k' (cast_to J (at_site i) d v) (λ _. ret (plain v)) (λ _. given_alike k k' (plain v) (h (plain v) q))
  cast_alike k k' e h i d (access r) q = given_alike k k' (access (record r { casts = r.casts ++ (i, d) ∷ [] })) (h (access (record r { casts = r.casts ++ (i, d) ∷ [] })) (same_access e r (record r { casts = r.casts ++ (i, d) ∷ [] }) q))
  cast_alike k k' e h i d (built_global j b) q = given_alike k k' (built_global j b) (h (built_global j b) q)
  cast_alike k k' e h i d (built_member j b n) q = given_alike k k' (built_member j b n) (h (built_member j b n) q)

  -- what comes after counts only at what can be reached
  pub reach_alike : (g : Env) (p : Option Path) (e : Expr) (k k' : Reach → M A) → ((x : Reach) → may_reach e x ≡ true → k x ≡ k' x) → (ev J B g p e >>= k) ≡ (ev J B g p e >>= k')
  unfolding ev may_reach is_plain
  reach_alike g p (lit i q) k k' h = given_alike k k' _ (h _ refl)
  reach_alike g p (var i r) k k' h = bind_alike _ k k' (λ x. h x refl)
  reach_alike g p (this i) k k' h = values_alike k k' (λ v. h (plain v) refl) _
  reach_alike g p (fun i f) k k' h = values_alike k k' (λ v. h (plain v) refl) _
  reach_alike g p (list i es) k k' h = then_alike k k' _ _ (λ vs. values_alike k k' (λ v. h (plain v) refl) _)
  reach_alike g p (object i fs) k k' h = then_alike k k' _ _ (λ o. then_alike k k' _ _ (λ _. given_alike k k' (plain o) (h (plain o) refl)))
  reach_alike g p (unary i op e) k k' h = then_alike k k' _ _ (λ r. values_alike k k' (λ v. h (plain v) refl) _)
  reach_alike g p (binary i op a b) k k' h = then_alike k k' _ _ (λ x. then_alike k k' _ _ (λ y. values_alike k k' (λ v. h (plain v) refl) _))
  reach_alike g p (and i a b) k k' h = then_alike k k' _ _ (λ x. values_alike k k' (λ v. h (plain v) refl) _)
  reach_alike g p (or i a b) k k' h = then_alike k k' _ _ (λ x. values_alike k k' (λ v. h (plain v) refl) _)
  reach_alike g p (cond i e a b) k k' h = then_alike k k' _ _ (λ x. values_alike k k' (λ v. h (plain v) refl) _)
  reach_alike g p (assign i op u e) k k' h = then_alike k k' _ _ (λ q. then_alike k k' _ _ (λ v. then_alike k k' _ _ (λ _. given_alike k k' (plain v) (h (plain v) refl))))
  reach_alike g p (step i up prefix u) k k' h = then_alike k k' _ _ (λ q. values_alike k k' (λ v. h (plain v) refl) _)
  reach_alike g p (member i e q) k k' h = then_alike k k' _ _ (λ r. member_alike k k' J B h i _ q r)
  reach_alike g p (index i e y) k k' h = then_alike k k' _ _ (λ o. then_alike k k' _ _ (λ x. then_alike k k' _ _ (λ a. references_alike k k' (λ r. h (access r) refl) _)))
  reach_alike g p (call i f es) k k' h = then_alike k k' _ _ (λ r. then_alike k k' _ _ (λ c. then_alike k k' _ _ (λ vs. values_alike k k' (λ v. h (plain v) refl) _)))
  reach_alike g p (new i f es) k k' h = then_alike k k' _ _ (λ c. then_alike k k' _ _ (λ vs. values_alike k k' (λ v. h (plain v) refl) _))
  reach_alike g p (comma i a b) k k' h = then_alike k k' _ _ (λ x. values_alike k k' (λ v. h (plain v) refl) _)
  reach_alike g p (cast i d e) k k' h = bind_assoc _ _ k ∙ reach_alike g None e (λ r. cast_reach J i d r >>= k) (λ r. cast_reach J i d r >>= k') (cast_alike k k' e h i d) ∙ sym (bind_assoc _ _ k')
  reach_alike g p (tick i n e) k k' h = then_alike k k' _ _ (λ _. reach_alike g None e k k' h)

-- ---- runs through the value alone

module _ (J : Mode) (B : Bodies) where
  plain_again : (x : Reach) → is_plain x ≡ true → ret x ≡ (value_of J B x >>= λ v. ret (plain v))
  unfolding is_plain value_of
  plain_again (plain v) h = sym (ret_bind v (λ v. ret (plain v)))
  plain_again (access r) h = absurd (cc)
  plain_again (built_global i b) h = absurd (cc)
  plain_again (built_member i b n) h = absurd (cc)

  pub value_first : (g : Env) (p : Option Path) (e : Expr) → accesses e ≡ false → variable e ≡ false → ev J B g p e ≡ (value J B (ev J B g p e) >>= λ v. ret (plain v))
  unfolding value
  value_first g p e a b = sym (bind_ret (ev J B g p e))
      ∙ reach_alike J B g p e ret (λ x. value_of J B x >>= λ v. ret (plain v)) (λ x h. plain_again x (reaches_values e a b x h))
      ∙ sym (bind_assoc (ev J B g p e) (value_of J B) (λ v. ret (plain v)))

  member_again : (i : ℕ) (w : Option Path) (q : ℕ) (x : Reach) → is_global x ≡ false → reach_member J B i w q x ≡ (value_of J B x >>= λ v. reach_member J B i w q (plain v))
  unfolding is_global reach_member value_of
  member_again i w q (built_global j b) h = absurd (cc)
  member_again i w q (plain v) h = sym (ret_bind v (λ z. value_of J B (plain z) >>= λ o. reference i w o (dotted q) >>= λ a. ret (access a)))
  member_again i w q (access r) h = bind_alike (value_of J B (access r)) (λ o. reference i w o (dotted q) >>= λ a. ret (access a)) (λ v. ret v >>= λ o. reference i w o (dotted q) >>= λ a. ret (access a)) (λ v. sym (ret_bind v (λ o. reference i w o (dotted q) >>= λ a. ret (access a))))
  member_again i w q (built_member j b n) h = bind_alike (value_of J B (built_member j b n)) (λ o. reference i w o (dotted q) >>= λ a. ret (access a)) (λ v. ret v >>= λ o. reference i w o (dotted q) >>= λ a. ret (access a)) (λ v. sym (ret_bind v (λ o. reference i w o (dotted q) >>= λ a. ret (access a))))

  -- before a dot
  pub member_first : (g : Env) (p : Option Path) (e : Expr) → variable e ≡ false → (i : ℕ) (w : Option Path) (q : ℕ) → (ev J B g p e >>= λ r. reach_member J B i w q r) ≡ (value J B (ev J B g p e) >>= λ v. reach_member J B i w q (plain v))
  unfolding value
  member_first g p e b i w q = reach_alike J B g p e (λ r. reach_member J B i w q r) (λ x. value_of J B x >>= λ v. reach_member J B i w q (plain v)) (λ x h. member_again i w q x (reaches_no_global e b x h))
      ∙ sym (bind_assoc (ev J B g p e) (value_of J B) (λ v. reach_member J B i w q (plain v)))

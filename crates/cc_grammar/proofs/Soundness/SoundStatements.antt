-- What is read is derived: the parts of statements, and statements with bodies.
use Rattle.std.specs.Prelude.{◌≡◌, ℕ, zero, suc, ◌+◌, ◌<◌, ◌≤◌, max, Bool, true, false, List, [], ◌∷◌, ◌++◌, Option, Some, None}
use Rattle.std.proofs.Common.{refl, arith, subst, ◌∙◌, append_assoc}
use Rattle.cc_lexer.specs.declared.token.Mark.{Mark}
use Rattle.cc_lexer.specs.declared.token.Mark.TheVariants as mark
use Rattle.cc_lexer.specs.declared.word.Word.TheVariants as word
use Rattle.cc_grammar.specs.Symbols.{Kind, Lexeme, Symbols, look, rest, is_mark, is_word}
use Rattle.cc_grammar.specs.Symbols as k
use Rattle.cc_grammar.specs.RawTree.{RawExpr, RawTarget, RawStmt, RawDeclarator, RawCase, RawInit, RawCatch, RawFinally, MaybeExpr, Named, stmts}
use Rattle.cc_grammar.specs.RawTree as raw
use Rattle.cc_grammar.specs.Signs.{target_of}
use Rattle.cc_grammar.specs.Grammar as g
use Rattle.cc_grammar.specs.Grammar.{Context, At, Sign, Reserved, Ends, E, Declarator, Declarators, Init, Optional, Cases, Catch, Finally, T, Body, of_function, inside, in_loop, in_switch, named}
use Rattle.cc_grammar.specs.Reading.{Outcome, Sized, Clause, semicolon_symbol, clause_of}
use Rattle.cc_grammar.specs.Reading as r
use Rattle.cc_grammar.proofs.Meets.{Done, ok, err, after, fork, weaken}
use Rattle.cc_grammar.proofs.Marked.{In, consumed, marked, worded, expected, expected_word, ended}
use Rattle.cc_grammar.proofs.Mono.{higher, higher_declarator, higher_optional, higher_init, settable}
use Rattle.cc_grammar.proofs.Soundness.SoundParts.{Told, SoundInner, EndsWith, whole_list, after_variable}

-- an expression reader that is sound, below b
pub record SoundExpr (b : ℕ) (expr : Bool → ℕ → Symbols → Outcome Symbols (Sized RawExpr)) : Type 0 where
  pub is : (n : Bool) (l : ℕ) (xs : Symbols) → l ≤ 13 → Done (λ a ys. E a.1 n l xs a.0 ys × (a.1 < b)) (expr n l xs)

pub declarator_sound : (b : ℕ) (expr : Bool → ℕ → Symbols → Outcome Symbols (Sized RawExpr)) → SoundExpr b expr → 0 < b → (d turns : ℕ) (inner : In) (n : Bool) (xs : Symbols)
    → Done (λ v ys. Declarator v.1 n xs v.0 ys × (v.1 < b)) (r.declarator Symbols look rest semicolon_symbol d turns inner expr n xs)
unfolding r.declarator
declarator_sound b expr sound lt d turns inner n xs = after_variable _ xs (λ v ys q. fork (is_mark mark.Equal (look ys).kind) _ _
    (λ e. after (sound.is n 1 (rest ys) (omega arith)) (λ x zs p. ok (g.set q (marked mark.Equal ys e) p.0, p.1)))
    (λ _. ok (g.unset q, lt)))

pub declarators_sound : (b : ℕ) (expr : Bool → ℕ → Symbols → Outcome Symbols (Sized RawExpr)) → SoundExpr b expr → (d turns : ℕ) (inner : In) (n : Bool) (m : ℕ) (before : List RawDeclarator) (h : ℕ) (xs : Symbols) → h < b
    → Done (λ x ys. EndsWith (λ i us vs ws. Declarators i n us vs ws) b before h xs x ys) (r.declarators Symbols look rest semicolon_symbol d turns inner expr n m before h xs)
unfolding r.declarators
declarators_sound b expr sound d turns inner n zero before h xs lt = err
declarators_sound b expr sound d turns inner n (suc m) before h xs lt = after (declarator_sound b expr sound (omega arith) d turns inner n xs) (λ x ys p. fork (is_mark mark.Comma (look ys).kind) _ _
    (λ e. weaken (declarators_sound b expr sound d turns inner n m (before ++ x.0 ∷ []) (max h x.1) (rest ys) (omega (arith, p.1))) (λ y zs q.
    record {
      more = x.0 ∷ q.more;
      tree = g.more_declarators (higher_declarator y.1 (omega (arith, q.above)) p.0) (marked mark.Comma ys e) q.tree;
      is = q.is ∙ append_assoc before (x.0 ∷ []) q.more;
      above = omega (arith, q.above);
      low = q.low;
    }))
    (λ _. ok (record { more = x.0 ∷ []; tree = g.last_declarator (higher_declarator (max h x.1) (omega arith) p.0); is = refl; above = omega arith; low = omega (arith, p.1) })))

pub one_at_least : {h : ℕ} {n : Bool} {xs ys : Symbols} (vs : List RawDeclarator) → vs ≡ [] → Declarators h n xs vs ys → ⊥
one_at_least vs e (g.last_declarator x) = cc
one_at_least vs e (g.more_declarators x c m) = cc

-- a list of one
pub one_of : {h : ℕ} {n : Bool} {xs ys : Symbols} (vs : List RawDeclarator) (v : RawDeclarator) → vs ≡ v ∷ [] → Declarators h n xs vs ys → Declarator h n xs v ys
one_of {h} {n} {xs} {ys} vs v e (g.last_declarator {v = w} x) = let same : w ≡ v = cc in subst (λ u. Declarator h n xs u ys) same x
one_of vs v e (g.more_declarators {vs = us} x c m) = let none : us ≡ [] = cc in absurd (one_at_least us none m)

module _ (d turns : ℕ) (inner : In) (sound : SoundInner d inner) where
  pub inner_expr : SoundExpr d inner.expr
  inner_expr = record { is = λ n l xs b. weaken (sound.expr n l xs b) (λ a ys p. (p.0.whole.tree, p.1)) }

  -- an expression in parentheses
  pub record InParens (xs : Symbols) (a : Sized RawExpr) (ys : Symbols) : Type 0 where
    pub start : Symbols
    pub finish : Symbols
    pub opening : Sign mark.OpenParen xs start
    pub tree : E a.1 true 0 start a.0 finish
    pub closing : Sign mark.CloseParen finish ys
    pub low : a.1 < d

  pub head_sound : (xs : Symbols) → Done (λ a ys. InParens xs a ys) (r.head Symbols look rest semicolon_symbol d turns inner xs)
  unfolding r.head
  head_sound xs = after (expected mark.OpenParen xs) (λ _ ys o. after (sound.expr true 0 ys (omega arith)) (λ x zs p. after (expected mark.CloseParen zs) (λ _ ws c.
      ok (record { start = ys; finish = zs; opening = o; tree = p.0.whole.tree; closing = c; low = p.1 }))))

  pub choice_sound : (c : Context) (xs : Symbols) → (look xs).kind ≡ k.word word.If → Done (λ b ys. Told d c xs b ys) (r.choice Symbols look rest semicolon_symbol d turns inner c xs)
  unfolding r.choice r.otherwise
  choice_sound c xs e = after (head_sound (rest xs)) (λ x ys p. after (sound.stmt (inside c) ys) (λ a zs q. fork (is_word word.Else (look zs).kind) _ _
      (λ f. after (sound.stmt (inside c) (rest zs)) (λ b ws s.
      ok (record { tree = g.if_else (omega arith) (omega arith) (omega arith) (consumed xs _ refl e) p.opening p.tree p.closing q.0.tree (worded word.Else zs f) s.0.tree; low = omega (arith, p.low, q.1, s.1) })))
      (λ f. ok (record { tree = g.if_only (omega arith) (omega arith) (consumed xs _ refl e) p.opening p.tree p.closing q.0.tree f; low = omega (arith, p.low, q.1) }))))

  pub do_while_sound : (c : Context) (xs : Symbols) → (look xs).kind ≡ k.word word.Do → Done (λ b ys. Told d c xs b ys) (r.do_while Symbols look rest semicolon_symbol d turns inner c xs)
  unfolding r.do_while
  do_while_sound c xs e = after (sound.stmt (in_loop c) (rest xs)) (λ b ys p. after (expected_word word.While ys) (λ _ zs w. after (head_sound zs) (λ x us q. after (ended us) (λ _ ws s.
      ok (record { tree = g.do_while (omega arith) (omega arith) (consumed xs _ refl e) p.0.tree w q.opening q.tree q.closing s; low = omega (arith, p.1, q.low) })))))

  pub while_sound : (c : Context) (xs : Symbols) → (look xs).kind ≡ k.word word.While → Done (λ b ys. Told d c xs b ys) (r.while Symbols look rest semicolon_symbol d turns inner c xs)
  unfolding r.while
  while_sound c xs e = after (head_sound (rest xs)) (λ x ys p. after (sound.stmt (in_loop c) ys) (λ b zs q.
      ok (record { tree = g.while (omega arith) (omega arith) (consumed xs _ refl e) p.opening p.tree p.closing q.0.tree; low = omega (arith, p.low, q.1) })))

  -- ---- `for`

  -- the parenthesis behind the word
  pub record Opened (xs ys : Symbols) : Type 0 where
    pub behind : Symbols
    pub word : Reserved word.For xs behind
    pub opening : Sign mark.OpenParen behind ys

  pub optional_sound : (m : Mark) (xs : Symbols) → 0 < d → Done (λ x ys. Optional x.1 xs x.0 ys × (x.1 < d)) (r.optional Symbols look rest semicolon_symbol d turns inner m xs)
  unfolding r.optional
  optional_sound m xs lt = fork (is_mark m (look xs).kind) _ _ (λ _. ok (g.absent, lt)) (λ _. after (sound.expr true 0 xs (omega arith)) (λ x ys p. ok (g.present p.0.whole.tree, p.1)))

  for_rest_sound : (c : Context) (xs ys zs : Symbols) (a : Sized RawInit) → Opened xs ys → Init a.1 ys a.0 zs → a.1 < d → Done (λ b ws. Told d c xs b ws) (r.for_rest Symbols look rest semicolon_symbol d turns inner c (look xs).place a zs)
  unfolding r.for_rest
  for_rest_sound c xs ys zs a o i lt = after (expected mark.Semicolon zs) (λ _ us p. after (optional_sound mark.Semicolon us (omega arith)) (λ x vs q. after (expected mark.Semicolon vs) (λ _ ws s.
      after (optional_sound mark.CloseParen ws (omega arith)) (λ y ts t. after (expected mark.CloseParen ts) (λ _ os u. after (sound.stmt (in_loop c) os) (λ b rs w.
      ok (record {
        tree = g.for {h = max a.1 (max x.1 y.1)} (omega arith) (omega arith) o.word o.opening (higher_init _ (omega arith) i) p (higher_optional _ (omega arith) q.0) s (higher_optional _ (omega arith) t.0) u w.0.tree;
        low = omega (arith, q.1, t.1, w.1);
      })))))))

  -- the target, up to `in`
  pub data Aimed : ℕ → Symbols → raw.RawForTarget → Symbols → Type 0 where
    at_target : {h : ℕ} {x : RawExpr} {t : RawTarget} {ys zs : Symbols} → E h false 15 ys x zs → target_of x ≡ Some t → Aimed h ys (raw.in_target t) zs
    at_variable : {h : ℕ} {v : RawDeclarator} {ys us zs : Symbols} → Reserved word.Var ys us → Declarator h false us v zs → Aimed h ys (raw.in_declared v.variable v.value) zs

  for_in_tree : {c : Context} {h i : ℕ} {f : RawExpr} {b : List RawStmt} {t : raw.RawForTarget} {xs ys zs us vs ws os : Symbols} → h < d → i < d → Opened xs ys → Aimed h ys t zs → Reserved word.In zs us
      → E h true 0 us f vs → Sign mark.CloseParen vs ws → T (in_loop c) i ws b os → T c (max h i + 1) xs (raw.for_in (look xs).place t f (stmts b) ∷ []) os
  for_in_tree lt lu o (at_target x e) n y c b = g.for_in (omega arith) (omega arith) o.word o.opening x e n y c b
  for_in_tree lt lu o (at_variable w v) n y c b = g.for_in_var (omega arith) (omega arith) o.word o.opening w v n y c b

  raised : {h : ℕ} {t : raw.RawForTarget} {ys zs : Symbols} (i : ℕ) → h ≤ i → Aimed h ys t zs → Aimed i ys t zs
  raised i le (at_target x e) = at_target (higher i le x) e
  raised i le (at_variable w v) = at_variable w (higher_declarator i le v)

  for_in_sound : (c : Context) (xs ys zs : Symbols) (t : raw.RawForTarget) (h : ℕ) → Opened xs ys → Aimed h ys t zs → is_word word.In (look zs).kind ≡ true → h < d
      → Done (λ b ws. Told d c xs b ws) (r.for_in Symbols look rest semicolon_symbol d turns inner c (look xs).place t h zs)
  unfolding r.for_in
  for_in_sound c xs ys zs t h o m e lt = after (sound.expr true 0 (rest zs) (omega arith)) (λ x us p. after (expected mark.CloseParen us) (λ _ vs q. after (sound.stmt (in_loop c) vs) (λ b ws s.
      ok (record { tree = for_in_tree {h = max h x.1} (omega (arith, p.1)) s.1 o (raised _ (omega arith) m) (worded word.In zs e) (higher _ (omega arith) p.0.whole.tree) q s.0.tree; low = omega (arith, p.1, s.1) }))))

  for_vars_sound : (c : Context) (xs ys us zs : Symbols) (vs : List RawDeclarator) (h : ℕ) (b : Bool) → Opened xs ys → Reserved word.Var ys us → Declarators h false us vs zs → is_word word.In (look zs).kind ≡ b → h < d
      → Done (λ b ws. Told d c xs b ws) (r.for_vars_by Symbols look rest semicolon_symbol d turns inner c (look xs).place vs h b zs)
  for_vars_sound c xs ys us zs (v ∷ []) h true o w m e lt = for_in_sound c xs ys zs (raw.in_declared v.variable v.value) h o (at_variable w (one_of _ v refl m)) e lt
  for_vars_sound c xs ys us zs (v ∷ []) h false o w m e lt = for_rest_sound c xs ys zs (raw.init_vars (raw.declarators (v ∷ [])), h) o (g.init_vars w m) lt
  for_vars_sound c xs ys us zs [] h b o w m e lt = for_rest_sound c xs ys zs (raw.init_vars (raw.declarators []), h) o (g.init_vars w m) lt
  for_vars_sound c xs ys us zs (u ∷ v ∷ vs) h b o w m e lt = for_rest_sound c xs ys zs (raw.init_vars (raw.declarators (u ∷ v ∷ vs)), h) o (g.init_vars w m) lt

  pub for_sound : (c : Context) (xs : Symbols) → (look xs).kind ≡ k.word word.For → 0 < d → Done (λ b ys. Told d c xs b ys) (r.for Symbols look rest semicolon_symbol d turns inner c xs)
  unfolding r.for
  for_sound c xs e lt = after (expected mark.OpenParen (rest xs)) (λ _ ys q. let o : Opened xs ys = record { behind = rest xs; word = consumed xs _ refl e; opening = q } in fork (is_word word.Var (look ys).kind) _ _
      (λ w. after (declarators_sound d inner.expr inner_expr d turns inner false turns [] 0 (rest ys) lt) (λ vs zs p. for_vars_sound c xs ys (rest ys) zs vs.0 vs.1 (is_word word.In (look zs).kind) o (worded word.Var ys w) (whole_list p) refl p.low))
      (λ _. fork (is_mark mark.Semicolon (look ys).kind) _ _ (λ _. for_rest_sound c xs ys ys (raw.no_init, 0) o g.no_init lt)
      (λ _. after (sound.expr false 0 ys (omega arith)) (λ x zs p. by ys o x zs p.0.whole.tree p.1 (target_of x.0) (is_word word.In (look zs).kind) refl refl)))) where
        by : (ys : Symbols) → Opened xs ys → (x : Sized RawExpr) (zs : Symbols) → E x.1 false 0 ys x.0 zs → x.1 < d → (t : Option RawTarget) (b : Bool) → target_of x.0 ≡ t → is_word word.In (look zs).kind ≡ b
            → Done (λ b ws. Told d c xs b ws) (r.for_value_by Symbols look rest semicolon_symbol d turns inner c (look xs).place x t b zs)
        by ys o x zs m lt (Some t) true e f = for_in_sound c xs ys zs (raw.in_target t) x.1 o (at_target (settable t e m) e) f lt
        by ys o x zs m lt (Some t) false e f = for_rest_sound c xs ys zs (raw.init_value x.0, x.1) o (g.init_value m) lt
        by ys o x zs m lt None b e f = for_rest_sound c xs ys zs (raw.init_value x.0, x.1) o (g.init_value m) lt

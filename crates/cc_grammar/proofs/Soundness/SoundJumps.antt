-- What is read is derived: jumps, clauses and declarations.
use Rattle.std.specs.Prelude.{◌≡◌, ℕ, zero, suc, ◌+◌, ◌<◌, max, ◌||◌, Bool, true, false, cond, nat_lt, List, [], ◌∷◌, ◌++◌, Ok, Err, Option, Some, None}
use Rattle.std.proofs.Common.{refl, sym, ap, arith, ◌∙◌, append_assoc, append-nil}
use Rattle.cc_ast.specs.declared.reading.Construct.{Construct}
use Rattle.cc_lexer.specs.declared.token.Mark.TheVariants as mark
use Rattle.cc_lexer.specs.declared.word.Word.TheVariants as word
use Rattle.cc_grammar.specs.Symbols.{Kind, Lexeme, Symbols, look, rest, is_mark, is_word}
use Rattle.cc_grammar.specs.Symbols as k
use Rattle.cc_grammar.specs.RawTree.{RawExpr, RawStmt, RawCase, RawCatch, RawFinally, Named, stmts}
use Rattle.cc_grammar.specs.RawTree as raw
use Rattle.cc_grammar.specs.Signs.{refused_name}
use Rattle.cc_grammar.specs.Grammar as g
use Rattle.cc_grammar.specs.Grammar.{Context, At, E, Cases, Catch, Finally, T, Body, Labels, inside, in_switch, labelled, is_among}
use Rattle.cc_grammar.specs.Reading.{Outcome, Sized, Clause, semicolon_symbol, clause_of, label_by, label_of, ends_return, is_some_label, is_remedy}
use Rattle.cc_grammar.specs.Reading as r
use Rattle.cc_grammar.proofs.Meets.{Done, ok, err, after, branch, fork, weaken}
use Rattle.cc_grammar.proofs.Views.{IsClause, clause_is, mark_true, remedy_true}
use Rattle.cc_grammar.proofs.Views as view
use Rattle.cc_grammar.proofs.Marked.{In, consumed, marked, worded, expected, ended}
use Rattle.cc_grammar.proofs.Mono.{higher, higher_body}
use Rattle.cc_grammar.proofs.Soundness.SoundParts.{Told, SoundInner, EndsWith, whole_list, after_variable}
use Rattle.cc_grammar.proofs.Soundness.SoundLists.{list_sound, body_sound, function_sound}
use Rattle.cc_grammar.proofs.Soundness.SoundPrimary.{free}
use Rattle.cc_grammar.proofs.Soundness.SoundExpressions.{after_head_sound, expr_sound}
use Rattle.cc_grammar.proofs.Soundness.SoundStatements.{head_sound, declarators_sound}

-- the label of a jump
pub label_name : (x : Kind) (b : Bool) (n : List ℕ) → label_by x b ≡ Some n → x ≡ k.name n
label_name (k.name u) false n e = let same : u ≡ n = cc in ap k.name same
label_name _ b n e = absurd (cc)

pub label_line : (x : Kind) (b : Bool) (n : List ℕ) → label_by x b ≡ Some n → b ≡ false
label_line x false n e = refl
label_line (k.name u) true n e = absurd (cc)
label_line _ true n e = absurd (cc)

pub same_line : (a b c d e : Bool) → (a || b || c || d || e) ≡ false → a ≡ false
same_line false b c d e q = refl
same_line true b c d e q = absurd (cc)

module _ (d turns : ℕ) (inner : In) (sound : SoundInner d inner) where
  clause_sound : (c : Context) (again : Bool → List RawCase → ℕ → Symbols → Outcome Symbols (Sized (List RawCase))) (seen : Bool) (before : List RawCase) (h : ℕ) (xs : Symbols) (x : Kind) (s : Clause)
      → (look xs).kind ≡ x → IsClause x s → h < d
      → ((seen : Bool) (before : List RawCase) (h : ℕ) (ys : Symbols) → h < d → Done (λ x ws. EndsWith (λ i us vs ws. Cases c i seen us vs ws) d before h ys x ws) (again seen before h ys))
      → Done (λ x ys. EndsWith (λ i us vs ws. Cases c i seen us vs ws) d before h xs x ys) (r.clause_by Symbols look rest semicolon_symbol d turns inner again c seen before h s xs)
  clause_sound c again seen before h xs x s e view.none lt f = err
  clause_sound c again seen before h xs x s e view.close lt f = ok (record { more = []; tree = g.no_case (consumed xs _ refl e); is = sym (append-nil before); above = omega arith; low = lt })
  clause_sound c again seen before h xs x s e (view.«case») lt f = after (sound.expr true 0 (rest xs) (omega arith)) (λ y ys p. after (expected mark.Colon ys) (λ _ zs q. after (list_sound d turns inner sound c turns [] 0 zs (omega arith)) (λ b us t.
      let one : RawCase = record { test = raw.one_expr y.0; body = b.0 } in weaken (f seen (before ++ one ∷ []) (max h (max y.1 b.1)) us (omega (arith, p.1, t.0.low))) (λ z ws w.
      record {
        more = one ∷ w.more;
        tree = g.«case» (consumed xs _ refl e) (higher _ (omega (arith, w.above)) p.0.whole.tree) q (higher_body _ (omega (arith, w.above)) (whole_list t.0)) w.tree;
        is = w.is ∙ append_assoc before (one ∷ []) w.more;
        above = omega (arith, w.above);
        low = w.low;
      }))))
  clause_sound c again true before h xs x s e view.default lt f = err
  clause_sound c again false before h xs x s e view.default lt f = after (expected mark.Colon (rest xs)) (λ _ zs q. after (list_sound d turns inner sound c turns [] 0 zs (omega arith)) (λ b us t.
      let one : RawCase = record { test = raw.no_expr; body = b.0 } in weaken (f true (before ++ one ∷ []) (max h b.1) us (omega (arith, t.0.low))) (λ z ws w.
      record {
        more = one ∷ w.more;
        tree = g.default (consumed xs _ refl e) q (higher_body _ (omega (arith, w.above)) (whole_list t.0)) w.tree;
        is = w.is ∙ append_assoc before (one ∷ []) w.more;
        above = omega (arith, w.above);
        low = w.low;
      })))

  clauses_sound : (c : Context) (m : ℕ) (seen : Bool) (before : List RawCase) (h : ℕ) (xs : Symbols) → h < d
      → Done (λ x ys. EndsWith (λ i us vs ws. Cases c i seen us vs ws) d before h xs x ys) (r.clauses Symbols look rest semicolon_symbol d turns inner c m seen before h xs)
  unfolding r.clauses
  clauses_sound c zero seen before h xs lt = err
  clauses_sound c (suc m) seen before h xs lt = clause_sound c (r.clauses Symbols look rest semicolon_symbol d turns inner c m) seen before h xs (look xs).kind (clause_of (look xs).kind) refl (clause_is (look xs).kind) lt
      (λ seen before h ys lt. clauses_sound c m seen before h ys lt)

  pub switch_sound : (c : Context) (xs : Symbols) → (look xs).kind ≡ k.word word.Switch → 0 < d → Done (λ b ys. Told d c xs b ys) (r.switch Symbols look rest semicolon_symbol d turns inner c xs)
  unfolding r.switch
  switch_sound c xs e lt = after (head_sound d turns inner sound (rest xs)) (λ x ys p. after (expected mark.OpenBrace ys) (λ _ zs q. after (clauses_sound (in_switch c) turns false [] 0 zs lt) (λ cs ws s.
      ok (record { tree = g.switch (omega arith) (omega arith) (consumed xs _ refl e) p.opening p.tree p.closing q (whole_list s); low = omega (arith, p.low, s.low) }))))

  -- ---- jumps

  pub continue_sound : (c : Context) (xs : Symbols) → (look xs).kind ≡ k.word word.Continue → Done (λ b ys. Told d c xs b ys) (r.continue Symbols look rest semicolon_symbol d turns inner c xs)
  unfolding r.continue
  continue_sound c xs e = fork c.continues _ _ (λ s. by s (label_of (look (rest xs))) refl) (λ _. err) where
    by : c.continues ≡ true → (o : Option (List ℕ)) → label_of (look (rest xs)) ≡ o
        → Done (λ b ys. Told d c xs b ys) (r.jump_by Symbols look rest semicolon_symbol d turns inner (raw.continue (look xs).place) true c.loops o (rest xs))
    by s None f = after (ended (rest xs)) (λ _ ys p. ok (record { tree = g.continue s (consumed xs _ refl e) p; low = omega arith }))
    by s (Some n) f = fork (is_among n c.loops) _ _
        (λ a. after (ended (rest (rest xs))) (λ _ ys p. ok (record { tree = g.continue_to s (consumed xs _ refl e) (label_line (look (rest xs)).kind _ n f) (consumed (rest xs) (k.name n) refl (label_name _ _ n f)) a p; low = omega arith })))
        (λ _. err)

  pub break_sound : (c : Context) (xs : Symbols) → (look xs).kind ≡ k.word word.Break → Done (λ b ys. Told d c xs b ys) (r.break Symbols look rest semicolon_symbol d turns inner c xs)
  unfolding r.break
  break_sound c xs e = fork (c.breaks || is_some_label c.labels) _ _ (λ _. by (label_of (look (rest xs))) refl) (λ _. err) where
    by : (o : Option (List ℕ)) → label_of (look (rest xs)) ≡ o
        → Done (λ b ys. Told d c xs b ys) (r.jump_by Symbols look rest semicolon_symbol d turns inner (raw.break (look xs).place) c.breaks c.labels o (rest xs))
    by None f = fork c.breaks _ _ (λ s. after (ended (rest xs)) (λ _ ys p. ok (record { tree = g.break s (consumed xs _ refl e) p; low = omega arith }))) (λ _. err)
    by (Some n) f = fork (is_among n c.labels) _ _
        (λ a. after (ended (rest (rest xs))) (λ _ ys p. ok (record { tree = g.break_to (consumed xs _ refl e) (label_line (look (rest xs)).kind _ n f) (consumed (rest xs) (k.name n) refl (label_name _ _ n f)) a p; low = omega arith })))
        (λ _. err)

  pub return_sound : (c : Context) (xs : Symbols) → (look xs).kind ≡ k.word word.Return → Done (λ b ys. Told d c xs b ys) (r.return Symbols look rest semicolon_symbol d turns inner c xs)
  unfolding r.return
  return_sound c xs e = fork c.returns _ _ (λ s. fork (ends_return (look (rest xs))) _ _
      (λ _. after (ended (rest xs)) (λ _ ys p. ok (record { tree = g.return s (consumed xs _ refl e) p; low = omega arith })))
      (λ f. after (expr_sound d turns inner sound true 0 (rest xs) (omega arith)) (λ x ys p. after (ended ys) (λ _ zs q.
      ok (record { tree = g.return_value s (consumed xs _ refl e) (same_line _ _ _ _ _ f) p.whole.tree q; low = p.whole.low }))))) (λ _. err)

  pub throw_sound : (c : Context) (xs : Symbols) → (look xs).kind ≡ k.word word.Throw → Done (λ b ys. Told d c xs b ys) (r.throw Symbols look rest semicolon_symbol d turns inner xs)
  unfolding r.throw
  throw_sound c xs e = fork (look (rest xs)).after_line _ _ (λ _. err)
      (λ f. after (expr_sound d turns inner sound true 0 (rest xs) (omega arith)) (λ x ys p. after (ended ys) (λ _ zs q.
      ok (record { tree = g.throw (consumed xs _ refl e) f p.whole.tree q; low = p.whole.low }))))

  -- ---- names

  pub begins_with_name_sound : (c : Context) (n : List ℕ) (xs : Symbols) → (look xs).kind ≡ k.name n → Done (λ b ys. Told d c xs b ys) (r.begins_with_name Symbols look rest semicolon_symbol d turns inner c n xs)
  unfolding r.begins_with_name
  begins_with_name_sound c n xs e = by (refused_name n) (is_mark mark.Colon (look (rest xs)).kind) refl refl where
    s : At (k.name n) xs (rest xs)
    s = consumed xs (k.name n) refl e

    labels : is_mark mark.Colon (look (rest xs)).kind ≡ true → Done (λ b ys. Told d c xs b ys) (cond (is_among n c.labels) (r.fail Symbols look rest semicolon_symbol r.a_token) (λ i. cond (nat_lt 0 d) (Rattle.cc_grammar.specs.Reading.and_then (inner.stmt (labelled n c) (rest i)) (λ b i. Ok ((raw.label (look xs).place n (stmts b.0) ∷ [], b.1 + 1), i))) (Err (record { cause = r.depth; place = (look i).place }, i))) (rest xs))
    labels q = fork (is_among n c.labels) _ _ (λ _. err) (λ a. branch (nat_lt 0 d) (λ _. after (sound.stmt (labelled n c) (rest (rest xs))) (λ b ys p.
        ok (record { tree = g.label (omega arith) s (marked mark.Colon (rest xs) q) a p.0.tree; low = omega (arith, p.1) }))) (λ _. err))

    by : (o : Option Construct) (b : Bool) → refused_name n ≡ o → is_mark mark.Colon (look (rest xs)).kind ≡ b
        → Done (λ b ys. Told d c xs b ys) (r.name_by Symbols look rest semicolon_symbol d turns inner c (look xs).place n o b (rest xs))
    by None true f q = labels q
    by (Some x) true f q = labels q
    by None false f q = after (after_head_sound d turns inner sound true 0 (raw.var (look xs).place n, 0) xs (rest xs) (omega arith) (free (λ l _. g.name (g.variable s f)) (omega arith))) (λ x ys p. after (ended ys) (λ _ zs t.
        ok (record { tree = g.simple (ap g.opens_no_expression e) p.whole.tree t; low = p.whole.low })))
    by (Some x) false f q = fork (is_remedy (look (rest xs)).kind) _ _ (λ t. ok (record { tree = g.half_label s f (consumed (rest xs) _ refl (remedy_true _ t)); low = omega arith })) (λ _. err)

  -- ---- `try`

  -- a block
  pub record Blocked (c : Context) (xs : Symbols) (b : Sized (List RawStmt)) (ys : Symbols) : Type 0 where
    pub begins : (look xs).kind ≡ k.mark mark.OpenBrace
    pub tree : T (inside c) b.1 xs b.0 ys
    pub low : b.1 < d

  pub block_in_sound : (c : Context) (xs : Symbols) → Done (λ b ys. Blocked c xs b ys) (r.block_in Symbols look rest semicolon_symbol d turns inner c xs)
  unfolding r.block_in
  block_in_sound c xs = fork (is_mark mark.OpenBrace (look xs).kind) _ _ (λ e. weaken (sound.stmt (inside c) xs) (λ b ys p. record { begins = mark_true _ _ e; tree = p.0.tree; low = p.1 })) (λ _. err)

  pub finally_sound : (c : Context) (xs : Symbols) → is_word word.Finally (look xs).kind ≡ true → Done (λ f ys. Finally (inside c) f.1 xs f.0 ys × (f.1 < d)) (r.finally Symbols look rest semicolon_symbol d turns inner c xs)
  unfolding r.finally
  finally_sound c xs e = after (block_in_sound c (rest xs)) (λ b ys p. ok (g.finally (worded word.Finally xs e) p.begins p.tree, p.low))

  pub catch_sound : (c : Context) (xs : Symbols) → is_word word.Catch (look xs).kind ≡ true → Done (λ f ys. Catch (inside c) f.1 xs f.0 ys × (f.1 < d)) (r.catch Symbols look rest semicolon_symbol d turns inner c xs)
  unfolding r.catch
  catch_sound c xs e = after (expected mark.OpenParen (rest xs)) (λ _ ys o. after_variable _ ys (λ v zs q. after (expected mark.CloseParen zs) (λ _ us s. after (block_in_sound c us) (λ b ws p.
      ok (g.caught (worded word.Catch xs e) o q s p.begins p.tree, p.low)))))

  pub try_sound : (c : Context) (xs : Symbols) → (look xs).kind ≡ k.word word.Try → Done (λ b ys. Told d c xs b ys) (r.try Symbols look rest semicolon_symbol d turns inner c xs)
  unfolding r.try r.after_catch
  try_sound c xs e = after (block_in_sound c (rest xs)) (λ b ys p. fork (is_word word.Catch (look ys).kind) _ _
      (λ q. after (catch_sound c ys q) (λ f zs s. fork (is_word word.Finally (look zs).kind) _ _
      (λ t. after (finally_sound c zs t) (λ o ws w.
      ok (record { tree = g.try_both (omega arith) (omega arith) (omega arith) (consumed xs _ refl e) p.begins p.tree s.0 w.0; low = omega (arith, p.low, s.1, w.1) })))
      (λ t. ok (record { tree = g.try_catch (omega arith) (omega arith) (consumed xs _ refl e) p.begins p.tree s.0 t; low = omega (arith, p.low, s.1) }))))
      (λ _. fork (is_word word.Finally (look ys).kind) _ _
      (λ t. after (finally_sound c ys t) (λ o ws w.
      ok (record { tree = g.try_finally (omega arith) (omega arith) (consumed xs _ refl e) p.begins p.tree w.0; low = omega (arith, p.low, w.1) })))
      (λ _. err)))

  -- ---- declarations

  pub declaration_sound : (c : Context) (xs : Symbols) → c.declares ≡ true → (look xs).kind ≡ k.word word.Function → 0 < d → Done (λ b ys. Told d c xs b ys) (r.declaration Symbols look rest semicolon_symbol d turns inner xs)
  unfolding r.declaration
  declaration_sound c xs s e lt = after_variable _ (rest xs) (λ v ys q. after (function_sound d turns inner sound ys lt) (λ f zs p.
      ok (record { tree = g.declare s (omega arith) (consumed xs _ refl e) q p.0; low = omega (arith, p.1) })))

  pub vars_sound : (c : Context) (xs : Symbols) → (look xs).kind ≡ k.word word.Var → Done (λ b ys. Told d c xs b ys) (r.vars Symbols look rest semicolon_symbol d turns inner xs)
  unfolding r.vars
  vars_sound c xs e = after (declarators_sound (suc d) _ (record { is = λ n l ys b. weaken (expr_sound d turns inner sound n l ys b) (λ a zs p. (p.whole.tree, omega (arith, p.whole.low))) }) d turns inner true turns [] 0 (rest xs) (omega arith)) (λ vs ys p.
      after (ended ys) (λ _ zs q. ok (record { tree = g.vars (consumed xs _ refl e) (whole_list p) q; low = omega (arith, p.low) })))

  pub block_sound : (c : Context) (xs : Symbols) → (look xs).kind ≡ k.mark mark.OpenBrace → 0 < d → Done (λ b ys. Told d c xs b ys) (r.block Symbols look rest semicolon_symbol d turns inner c xs)
  unfolding r.block
  block_sound c xs e lt = after (body_sound d turns inner sound (inside c) (rest xs) lt) (λ b ys p. ok (record { tree = g.block (omega arith) (consumed xs _ refl e) p.tree p.close; low = omega (arith, p.low) }))

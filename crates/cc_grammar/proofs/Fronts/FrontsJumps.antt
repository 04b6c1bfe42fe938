-- Where reading stops, what came before is a front: jumps, names, `try`, and every statement at every depth.
use Rattle.std.specs.Prelude.{◌≡◌, ℕ, suc, ◌+◌, ◌<◌, max, ◌||◌, Bool, true, false, cond, nat_lt, List, [], ◌∷◌, Ok, Err, Option, Some, None}
use Rattle.std.proofs.Common.{refl, ap, arith, ◌∙◌}
use Rattle.cc_ast.specs.declared.reading.Construct.{Construct}
use Rattle.cc_ast.specs.Syntax.{undefined}
use Rattle.cc_lexer.specs.declared.token.Mark.TheVariants as mark
use Rattle.cc_lexer.specs.declared.word.Word.TheVariants as word
use Rattle.cc_grammar.specs.Symbols.{Kind, Lexeme, Symbols, real, look, rest, nowhere, is_mark, is_word}
use Rattle.cc_grammar.specs.Symbols as k
use Rattle.cc_grammar.specs.RawTree.{RawExpr, RawStmt, RawCatch, RawFinally, stmts}
use Rattle.cc_grammar.specs.RawTree as raw
use Rattle.cc_grammar.specs.Signs.{refused_name}
use Rattle.cc_grammar.specs.Grammar as g
use Rattle.cc_grammar.specs.Grammar.{Context, Labels, inside, labelled, is_among, At, Sign, Reserved, E, T, Catch, Finally, is_tail, opens_no_expression}
use Rattle.cc_grammar.specs.Reading.{Outcome, Sized, Start, and_then, semicolon_symbol, start_of, label_of, ends_return, is_some_label, is_remedy}
use Rattle.cc_grammar.specs.Reading as r
use Rattle.cc_grammar.proofs.Marked.{In, consumed, marked, ended}
use Rattle.cc_grammar.proofs.Shrinks.{reals, at_less, t_less, catch_less}
use Rattle.cc_grammar.proofs.Soundness.SoundParts.{SoundInner}
use Rattle.cc_grammar.proofs.Soundness.SoundPrimary.{free}
use Rattle.cc_grammar.proofs.Soundness.SoundExpressions.{after_head_sound, expr_sound}
use Rattle.cc_grammar.proofs.Soundness.SoundJumps.{Blocked, block_in_sound, catch_sound, finally_sound, same_line}
use Rattle.cc_grammar.proofs.Moves.{Front, stays, joined, Fits, look_kept, kept_fits}
use Rattle.cc_grammar.proofs.Moves as moves
use Rattle.cc_grammar.proofs.MovesDerived.{t_moves, catch_moves}
use Rattle.cc_grammar.proofs.Fails.{token, new_at, taken, again, same, fresh, Spot, here, due, left, Begun, EE, TT, no_t, Fails, fine, stop, by_name, fails_after, fails_map, fails_fork, fails_here, raises, deeper_fails, XX, FailsInner}
use Rattle.cc_grammar.proofs.Fronts.FrontsPrimary.{whole_e}
use Rattle.cc_grammar.proofs.Fronts.FrontsExpressions.{expr_fails, after_head_fails}
use Rattle.cc_grammar.proofs.Fronts.FrontsClauses.{semicolon_fails, end_now, fits_first, no_block, block_in_fails, GG, finally_fails, CA, catch_fails}
use Rattle.cc_grammar.proofs.Fronts.FrontsStatements.{simple_begun, OnLine, on_line, no_finally, first_label, simple_fails}
use Rattle.cc_grammar.proofs.OnSymbols as s

some_of : (a b : Bool) → (a || b) ≡ true → a ≡ false → b ≡ true
some_of false b e f = e
some_of true b e f = let no : true ≡ false = f in absurd (cc)

module _ (d n : ℕ) (inner : In) (sound : SoundInner d inner) (all : FailsInner d n inner) where
  abbrev pub JT : Context → Symbols → ℕ → Spot → Type 0
  JT c xs j i = Begun (TT c j) xs i

  -- ---- jumps

  continue_word : (c : Context) {xs ys : Symbols} → c.continues ≡ true → Reserved word.Continue xs ys → JT c xs 0 (here ys)
  continue_word c {xs} a o = record { front = taken o; more = λ zs. real (token (k.mark mark.Semicolon)) ∷ zs; tree = raw.continue (look xs).place None ∷ []; holds = λ zs _. g.continue a (again o _) end_now; first = λ zs. same refl }

  continue_label : (c : Context) {v : List ℕ} {xs ys zs : Symbols} → c.continues ≡ true → Reserved word.Continue xs ys → (look ys).after_line ≡ false → At (k.name v) ys zs → is_among v c.loops ≡ true → JT c xs 0 (here zs)
  continue_label c {v} {xs} a o e p i = record { front = joined (taken o) (taken p); more = λ zs. real (token (k.mark mark.Semicolon)) ∷ zs; tree = raw.continue (look xs).place (Some v) ∷ []; holds = λ zs _. g.continue_to a (again o _) e (again p _) i end_now; first = λ zs. same refl }

  pub continue_fails : (c : Context) (xs : Symbols) → (look xs).kind ≡ k.word word.Continue → Fails (suc d) (JT c xs) (s.continue d n inner c xs)
  unfolding r.continue
  continue_fails c xs e = fails_fork c.continues _ _ (λ a. by a (label_of (look (rest xs))) refl) (λ _. fails_here xs 0 (omega arith) (no_t xs c 0)) where
    o : Reserved word.Continue xs (rest xs)
    o = consumed xs (k.word word.Continue) refl e

    by : c.continues ≡ true → (v : Option (List ℕ)) → label_of (look (rest xs)) ≡ v → Fails (suc d) (JT c xs) (s.jump_by d n inner (raw.continue (look xs).place) true c.loops v (rest xs))
    by a None f = fails_after (ended (rest xs)) (semicolon_fails (rest xs) 0 (omega arith) (continue_word c a o)) (λ _ ys p. fine)
    by a (Some v) f = fails_fork (is_among v c.loops) _ _
        (λ i. fails_after (ended (rest (rest xs))) (semicolon_fails (rest (rest xs)) 0 (omega arith) (continue_label c a o (Rattle.cc_grammar.proofs.Soundness.SoundJumps.label_line (look (rest xs)).kind (look (rest xs)).after_line v f)
        (consumed (rest xs) (k.name v) refl (Rattle.cc_grammar.proofs.Soundness.SoundJumps.label_name (look (rest xs)).kind (look (rest xs)).after_line v f)) i)) (λ _ ys p. fine))
        (λ _. fails_here (rest xs) 0 (omega arith) (continue_word c a o))

  -- with no label, or with one that is open
  break_word : (c : Context) {xs ys : Symbols} → (c.breaks || is_some_label c.labels) ≡ true → Reserved word.Break xs ys → JT c xs 0 (here ys)
  break_word c {xs} {ys} a o = by c.breaks refl where
    by : (b : Bool) → c.breaks ≡ b → JT c xs 0 (here ys)
    by true e = record { front = taken o; more = λ zs. real (token (k.mark mark.Semicolon)) ∷ zs; tree = raw.break (look xs).place None ∷ []; holds = λ zs _. g.break e (again o _) end_now; first = λ zs. same refl }
    by false e = let v = first_label c.labels (some_of c.breaks (is_some_label c.labels) a e) in
        record { front = taken o; more = λ zs. real (token (k.name v.0)) ∷ real (token (k.mark mark.Semicolon)) ∷ zs; tree = raw.break (look xs).place (Some v.0) ∷ []; holds = λ zs _. g.break_to (again o _) refl (new_at (k.name v.0)) v.1 end_now; first = λ zs. same refl }

  break_label : (c : Context) {v : List ℕ} {xs ys zs : Symbols} → Reserved word.Break xs ys → (look ys).after_line ≡ false → At (k.name v) ys zs → is_among v c.labels ≡ true → JT c xs 0 (here zs)
  break_label c {v} {xs} o e p i = record { front = joined (taken o) (taken p); more = λ zs. real (token (k.mark mark.Semicolon)) ∷ zs; tree = raw.break (look xs).place (Some v) ∷ []; holds = λ zs _. g.break_to (again o _) e (again p _) i end_now; first = λ zs. same refl }

  pub break_fails : (c : Context) (xs : Symbols) → (look xs).kind ≡ k.word word.Break → Fails (suc d) (JT c xs) (s.break d n inner c xs)
  unfolding r.break
  break_fails c xs e = fails_fork (c.breaks || is_some_label c.labels) _ _ (λ a. by a (label_of (look (rest xs))) refl) (λ _. fails_here xs 0 (omega arith) (no_t xs c 0)) where
    o : Reserved word.Break xs (rest xs)
    o = consumed xs (k.word word.Break) refl e

    by : (c.breaks || is_some_label c.labels) ≡ true → (v : Option (List ℕ)) → label_of (look (rest xs)) ≡ v → Fails (suc d) (JT c xs) (s.jump_by d n inner (raw.break (look xs).place) c.breaks c.labels v (rest xs))
    by a None f = fails_fork c.breaks _ _ (λ _. fails_after (ended (rest xs)) (semicolon_fails (rest xs) 0 (omega arith) (break_word c a o)) (λ _ ys p. fine)) (λ _. fails_here (rest xs) 0 (omega arith) (break_word c a o))
    by a (Some v) f = fails_fork (is_among v c.labels) _ _
        (λ i. fails_after (ended (rest (rest xs))) (semicolon_fails (rest (rest xs)) 0 (omega arith) (break_label c o (Rattle.cc_grammar.proofs.Soundness.SoundJumps.label_line (look (rest xs)).kind (look (rest xs)).after_line v f)
        (consumed (rest xs) (k.name v) refl (Rattle.cc_grammar.proofs.Soundness.SoundJumps.label_name (look (rest xs)).kind (look (rest xs)).after_line v f)) i)) (λ _ ys p. fine))
        (λ _. fails_here (rest xs) 0 (omega arith) (break_word c a o))

  return_word : (c : Context) {xs ys : Symbols} → c.returns ≡ true → Reserved word.Return xs ys → JT c xs 0 (here ys)
  return_word c {xs} a o = record { front = taken o; more = λ zs. real (token (k.mark mark.Semicolon)) ∷ zs; tree = raw.return (look xs).place raw.no_expr ∷ []; holds = λ zs _. g.return a (again o _) end_now; first = λ zs. same refl }

  return_begun : (c : Context) (j : ℕ) {xs ys : Symbols} {i : Spot} → c.returns ≡ true → Reserved word.Return xs ys → (look ys).after_line ≡ false → Begun (EE j true 0) ys i → JT c xs j i
  return_begun c j {xs} a o e x = let w = on_line e x in record {
    front = joined (taken o) w.begun.front;
    more = λ zs. w.begun.more (real (token (k.mark mark.Semicolon)) ∷ zs);
    tree = raw.return (look xs).place (raw.one_expr w.begun.tree) ∷ [];
    holds = λ zs _. g.return_value a (again o _) (w.line _) (w.begun.holds _) end_now;
    first = λ zs. same refl;
  }

  pub return_fails : (c : Context) (xs : Symbols) → reals xs < n → (look xs).kind ≡ k.word word.Return → Fails (suc d) (JT c xs) (s.return d n inner c xs)
  unfolding r.return
  return_fails c xs ln e = let o = consumed xs (k.word word.Return) refl e in fails_fork c.returns _ _
      (λ a. fails_fork (ends_return (look (rest xs))) _ _ (λ _. fails_after (ended (rest xs)) (semicolon_fails (rest xs) 0 (omega arith) (return_word c a o)) (λ _ ys p. fine))
      (λ f. let line = same_line _ _ _ _ _ f in fails_after (expr_sound d n inner sound true 0 (rest xs) (omega arith))
      (fails_map (λ j. j) (λ j l. l) (λ j i w. return_begun c j a o line w) (expr_fails d n inner sound all true 0 (rest xs) (omega (arith, at_less o)) (omega arith)))
      (λ x ys p. fails_after (ended ys) (semicolon_fails ys x.1 (omega arith) (return_begun c x.1 a o line (whole_e p.whole.tree))) (λ _ zs q. fine))))
      (λ _. fails_here xs 0 (omega arith) (no_t xs c 0))

  throw_begun : (c : Context) (j : ℕ) {xs ys : Symbols} {i : Spot} → Reserved word.Throw xs ys → OnLine j ys i → JT c xs j i
  throw_begun c j {xs} o w = record {
    front = joined (taken o) w.begun.front;
    more = λ zs. w.begun.more (real (token (k.mark mark.Semicolon)) ∷ zs);
    tree = raw.throw (look xs).place w.begun.tree ∷ [];
    holds = λ zs _. g.throw (again o _) (w.line _) (w.begun.holds _) end_now;
    first = λ zs. same refl;
  }

  pub throw_fails : (c : Context) (xs : Symbols) → reals xs < n → (look xs).kind ≡ k.word word.Throw → Fails (suc d) (JT c xs) (s.throw d n inner xs)
  unfolding r.throw
  throw_fails c xs ln e = let o = consumed xs (k.word word.Throw) refl e in fails_fork (look (rest xs)).after_line _ _
      (λ _. fails_here (rest xs) 0 (omega arith) (throw_begun c 0 o (record {
        begun = record {
          front = stays (rest xs);
          more = λ zs. real (token (k.due k.operand)) ∷ zs;
          tree = raw.lit nowhere undefined;
          holds = λ zs. g.operand (new_at (k.due k.operand));
          first = λ zs. fresh refl;
        };
        line = λ zs. refl;
      })))
      (λ f. fails_after (expr_sound d n inner sound true 0 (rest xs) (omega arith))
      (fails_map (λ j. j) (λ j l. l) (λ j i w. throw_begun c j o (on_line f w)) (expr_fails d n inner sound all true 0 (rest xs) (omega (arith, at_less o)) (omega arith)))
      (λ x ys p. fails_after (ended ys) (semicolon_fails ys x.1 (omega arith) (throw_begun c x.1 o (on_line f (whole_e p.whole.tree)))) (λ _ zs q. fine)))

  -- ---- names

  -- a name: an expression, or a label where no variable has it
  name_begun : (c : Context) (j : ℕ) {v : List ℕ} {xs ys : Symbols} → At (k.name v) xs ys → (look xs).kind ≡ k.name v → JT c xs j (here ys)
  name_begun c j {v} {xs} {ys} o e = by (refused_name v) refl where
    by : (x : Option Construct) → refused_name v ≡ x → JT c xs j (here ys)
    by None q = record {
      front = taken o;
      more = λ zs. real (token (k.mark mark.Semicolon)) ∷ zs;
      tree = raw.simple (look xs).place (raw.var (look xs).place v) ∷ [];
      holds = λ zs _. g.simple (ap opens_no_expression e) (g.name (g.variable (again o _) q)) end_now;
      first = λ zs. same refl;
    }
    by (Some x) q = record { front = taken o; more = λ zs. real (token (k.due k.remedy)) ∷ zs; tree = []; holds = λ zs _. g.half_label (again o _) q (new_at (k.due k.remedy)); first = λ zs. same refl }

  -- a variable is due
  name_there : (c : Context) (xs : Symbols) (j : ℕ) → JT c xs j (due k.variable xs)
  name_there c xs j = record {
    front = stays xs;
    more = λ zs. real (token (k.mark mark.Semicolon)) ∷ zs;
    tree = raw.simple (look xs).place (raw.var (look xs).place []) ∷ [];
    holds = λ zs _. g.simple refl (g.name (g.any_variable (g.at_token _ refl))) end_now;
    first = λ zs. fresh refl;
  }

  label_begun : (c : Context) (j : ℕ) {v : List ℕ} {xs ys zs : Symbols} {i : Spot} → At (k.name v) xs ys → Sign mark.Colon ys zs → is_among v c.labels ≡ false → Begun (TT (labelled v c) j) zs i → JT c xs (suc j) i
  label_begun c j {v} {xs} o p i w = record { front = joined (taken o) (joined (taken p) w.front); more = w.more; tree = raw.label (look xs).place v (stmts w.tree) ∷ []; holds = λ zs f. g.label (omega arith) (again o _) (again p _) i (w.holds zs f); first = λ zs. same refl }

  pub name_fails : (c : Context) (v : List ℕ) (xs : Symbols) → reals xs < n → (look xs).kind ≡ k.name v → Fails (suc d) (JT c xs) (s.begins_with_name d n inner c v xs)
  unfolding r.begins_with_name
  name_fails c v xs ln e = by (refused_name v) (is_mark mark.Colon (look (rest xs)).kind) refl refl where
    o : At (k.name v) xs (rest xs)
    o = consumed xs (k.name v) refl e

    labels : is_mark mark.Colon (look (rest xs)).kind ≡ true → Fails {A = Sized (List RawStmt)} (suc d) (JT c xs) (cond (is_among v c.labels) (r.fail Symbols look rest semicolon_symbol r.a_token)
        (λ i. cond (nat_lt 0 d) (and_then (inner.stmt (labelled v c) (rest i)) (λ b j. Ok ((raw.label (look xs).place v (stmts b.0) ∷ [], b.1 + 1), j))) (Err (record { cause = r.depth; place = (look i).place }, i))) (rest xs))
    labels q = fails_fork (is_among v c.labels) _ _ (λ _. fails_here (rest xs) 0 (omega arith) (name_begun c 0 o e)) (λ a. let p = marked mark.Colon (rest xs) q in
        deeper_fails {h = 0} p (raises refl) (λ lt. fails_after (sound.stmt (labelled v c) (rest (rest xs))) (fails_map suc (λ j l. omega arith) (λ j i w. label_begun c j o p a w) (all.stmt lt (labelled v c) (rest (rest xs)) (omega (arith, at_less o, at_less p)))) (λ b ys t. fine))
        0 (omega arith) (name_begun c 0 o e) 1 (label_begun c 0 o p a (no_t (rest (rest xs)) (labelled v c) 0)))

    by : (x : Option Construct) (b : Bool) → refused_name v ≡ x → is_mark mark.Colon (look (rest xs)).kind ≡ b → Fails (suc d) (JT c xs) (s.name_by d n inner c (look xs).place v x b (rest xs))
    by None true f q = labels q
    by (Some x) true f q = labels q
    by None false f q = fails_after (after_head_sound d n inner sound true 0 (raw.var (look xs).place v, 0) xs (rest xs) (omega arith) (free (λ l _. g.name (g.variable o f)) (omega arith)))
        (fails_map (λ j. j) (λ j l. l) (λ j i w. simple_begun c (ap opens_no_expression e) w) (after_head_fails d n inner sound all true 0 (raw.var (look xs).place v, 0) xs (rest xs) ln (omega arith) (free (λ l _. g.name (g.variable o f)) (omega arith))))
        (λ x ys p. simple_fails d n inner sound all c xs (look xs).place x ys (ap opens_no_expression e) p.whole.tree p.whole.low)
    by (Some x) false f q = fails_fork (is_remedy (look (rest xs)).kind) _ _ (λ _. fine) (λ _. stop refl (λ w. cc) 0 (omega arith) (by_name refl o f q 0 (name_there c xs 0)) (name_begun c 0 o e))

  -- ---- `try`

  pub try_begun : (c : Context) (j : ℕ) {xs ys : Symbols} {i : Spot} → Reserved word.Try xs ys → Begun (XX (inside c) j) ys i → JT c xs (suc (max j 1)) i
  try_begun c j {xs} {i = i} o w = let f = no_block (left i) (inside c) 1 (omega arith) in record {
    front = joined (taken o) w.front;
    more = λ zs. w.more (real (token (k.word word.Catch)) ∷ real (token (k.mark mark.OpenParen)) ∷ real (token (k.due k.variable)) ∷ real (token (k.mark mark.CloseParen)) ∷ f.more zs);
    tree = raw.try (look xs).place (stmts w.tree) (raw.caught (record { place = nowhere; name = [] }) (stmts [])) raw.no_finally ∷ [];
    holds = λ zs q. let b = w.holds (real (token (k.word word.Catch)) ∷ real (token (k.mark mark.OpenParen)) ∷ real (token (k.due k.variable)) ∷ real (token (k.mark mark.CloseParen)) ∷ f.more zs) refl in
        g.try_catch {i = 1} (omega arith) (omega arith) (again o _) b.begins b.tree (g.caught (new_at (k.word word.Catch)) (new_at (k.mark mark.OpenParen)) (g.any_variable (new_at (k.due k.variable))) (new_at (k.mark mark.CloseParen)) (f.holds zs q).begins (f.holds zs q).tree)
        (no_finally (look zs).kind q);
    first = λ zs. same refl;
  }

  pub tried_begun : (c : Context) {b : Sized (List RawStmt)} {xs ys zs : Symbols} → Reserved word.Try xs ys → Blocked d n inner sound c ys b zs → JT c xs (suc (max b.1 1)) (here zs)
  tried_begun c {b} {xs} {zs = us} o p = let f = no_block us (inside c) 1 (omega arith) in let m = t_moves p.tree in record {
    front = joined (taken o) m.front;
    more = λ zs. real (token (k.word word.Catch)) ∷ real (token (k.mark mark.OpenParen)) ∷ real (token (k.due k.variable)) ∷ real (token (k.mark mark.CloseParen)) ∷ f.more zs;
    tree = raw.try (look xs).place (stmts b.0) (raw.caught (record { place = nowhere; name = [] }) (stmts [])) raw.no_finally ∷ [];
    holds = λ zs q. g.try_catch {i = 1} (omega arith) (omega arith) (again o _) (ap (λ z. z.kind) (look_kept m.front (t_less p.tree) _) ∙ p.begins) (m.holds _ (moves.free refl))
        (g.caught (new_at (k.word word.Catch)) (new_at (k.mark mark.OpenParen)) (g.any_variable (new_at (k.due k.variable))) (new_at (k.mark mark.CloseParen)) (f.holds zs q).begins (f.holds zs q).tree) (no_finally (look zs).kind q);
    first = λ zs. same refl;
  }

  catching_begun : (c : Context) {b : Sized (List RawStmt)} (j : ℕ) {xs ys zs : Symbols} {i : Spot} → Reserved word.Try xs ys → Blocked d n inner sound c ys b zs → Begun (CA (inside c) j) zs i → JT c xs (suc (max b.1 j)) i
  catching_begun c {b} j {xs} o p w = let m = t_moves p.tree in record {
    front = joined (taken o) (joined m.front w.front);
    more = w.more;
    tree = raw.try (look xs).place (stmts b.0) w.tree raw.no_finally ∷ [];
    holds = λ zs q. g.try_catch (omega arith) (omega arith) (again o _) (ap (λ z. z.kind) (look_kept m.front (t_less p.tree) _) ∙ p.begins) (m.holds _ (fits_first (w.first zs))) (w.holds zs q) (no_finally (look zs).kind q);
    first = λ zs. same refl;
  }

  finishing_begun : (c : Context) {b : Sized (List RawStmt)} (j : ℕ) {xs ys zs : Symbols} {i : Spot} → Reserved word.Try xs ys → Blocked d n inner sound c ys b zs → Begun (GG (inside c) j) zs i → ((zs : Symbols) → Fits zs zs) → JT c xs (suc (max b.1 j)) i
  finishing_begun c {b} j {xs} o p w f = let m = t_moves p.tree in record {
    front = joined (taken o) (joined m.front w.front);
    more = w.more;
    tree = raw.try (look xs).place (stmts b.0) raw.no_catch w.tree ∷ [];
    holds = λ zs q. g.try_finally (omega arith) (omega arith) (again o _) (ap (λ z. z.kind) (look_kept m.front (t_less p.tree) _) ∙ p.begins) (m.holds _ (fits_first (w.first zs))) (w.holds zs q);
    first = λ zs. same refl;
  }

  both_begun : (c : Context) {b : Sized (List RawStmt)} {f : Sized RawCatch} (j : ℕ) {xs ys zs us : Symbols} {i : Spot} → Reserved word.Try xs ys → Blocked d n inner sound c ys b zs → Catch (inside c) f.1 zs f.0 us → Begun (GG (inside c) j) us i → JT c xs (suc (max b.1 (max f.1 j))) i
  both_begun c {b} {f} j {xs} o p x w = let m = t_moves p.tree in let v = catch_moves x in record {
    front = joined (taken o) (joined m.front (joined v.front w.front));
    more = w.more;
    tree = raw.try (look xs).place (stmts b.0) f.0 w.tree ∷ [];
    holds = λ zs q. g.try_both (omega arith) (omega arith) (omega arith) (again o _) (ap (λ z. z.kind) (look_kept m.front (t_less p.tree) _) ∙ p.begins) (m.holds _ (kept_fits v.front (catch_less x) _)) (v.holds _ (fits_first (w.first zs))) (w.holds zs q);
    first = λ zs. same refl;
  }

  pub try_fails : (c : Context) (xs : Symbols) → Reserved word.Try xs (rest xs) → 1 < d → reals xs < n → Fails (suc d) (JT c xs) (s.try d n inner c xs)
  unfolding r.try r.after_catch
  try_fails c xs o lt ln = fails_after (block_in_sound d n inner sound c (rest xs)) (fails_map (λ j. suc (max j 1)) (λ j l. omega arith) (λ j i w. try_begun c j o w) (block_in_fails d n inner sound all c (rest xs) lt (omega (arith, at_less o)))) (λ b ys p.
      fails_fork (is_word word.Catch (look ys).kind) _ _
      (λ e. fails_after (catch_sound d n inner sound c ys e) (fails_map (λ j. suc (max b.1 j)) (λ j l. omega (arith, p.low)) (λ j i w. catching_begun c j o p w) (catch_fails d n inner sound all c ys lt (omega (arith, at_less o, t_less p.tree)) e)) (λ f zs q.
      fails_fork (is_word word.Finally (look zs).kind) _ _
      (λ u. fails_after (finally_sound d n inner sound c zs u) (fails_map (λ j. suc (max b.1 (max f.1 j))) (λ j l. omega (arith, p.low, q.1)) (λ j i w. both_begun c j o p q.0 w) (finally_fails d n inner sound all c zs lt (omega (arith, at_less o, t_less p.tree, catch_less q.0)) u)) (λ h ws v. fine))
      (λ _. fine)))
      (λ _. fails_fork (is_word word.Finally (look ys).kind) _ _
      (λ u. fails_after (finally_sound d n inner sound c ys u) (fails_map (λ j. suc (max b.1 j)) (λ j l. omega (arith, p.low)) (λ j i w. finishing_begun c j o p w (λ z. moves.same refl)) (finally_fails d n inner sound all c ys lt (omega (arith, at_less o, t_less p.tree)) u)) (λ h ws v. fine))
      (λ _. fails_here ys _ (omega arith) (tried_begun c o p))))

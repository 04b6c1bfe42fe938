-- Where reading stops, what came before is a front: expressions.
use Rattle.std.specs.Prelude.{◌≡◌, ℕ, zero, suc, ◌+◌, ◌<◌, ◌≤◌, max, Bool, true, false, cond, nat_lt, ◌==◌, List, [], ◌∷◌, ◌++◌, map, Ok, Err, Option, Some, None}
use Rattle.std.proofs.Common.{refl, sym, ap, arith, ◌∙◌, subst, ltb-true, ltb-false, eqb-true}
use Rattle.std.proofs.lemmas.List.{append_cancel_right}
use Rattle.cc_ast.specs.declared.operator.BinOp.{BinOp}
use Rattle.cc_ast.specs.declared.operator.UnOp.TheVariants as op
use Rattle.cc_ast.specs.declared.place.Place.{Place}
use Rattle.cc_ast.specs.Syntax.{undefined}
use Rattle.cc_lexer.specs.declared.token.Mark.TheVariants as mark
use Rattle.cc_lexer.specs.declared.word.Word.TheVariants as word
use Rattle.cc_grammar.specs.Symbols.{Kind, Lexeme, Symbols, real, look, rest, nowhere, is_mark}
use Rattle.cc_grammar.specs.Symbols as k
use Rattle.cc_grammar.specs.RawTree.{RawExpr, RawTarget}
use Rattle.cc_grammar.specs.RawTree as raw
use Rattle.cc_grammar.specs.Signs.{Prefix, Infix, target_of, step_of, prefix_of, prefix_tree, infix_of, level, infix_tree, assign_of, parenthesised}
use Rattle.cc_grammar.specs.Signs as sign
use Rattle.cc_grammar.specs.Grammar as g
use Rattle.cc_grammar.specs.Grammar.{At, Sign, Variable, E}
use Rattle.cc_grammar.specs.Reading.{Outcome, Sized, and_then, is_delete, is_remedy, goes_on, variable_of}
use Rattle.cc_grammar.specs.Reading as r
use Rattle.cc_grammar.proofs.Clashes.{some_is}
use Rattle.cc_grammar.proofs.Marked.{In, marked, found, expected}
use Rattle.cc_grammar.proofs.Meets.{Done, ok, fork, weaken}
use Rattle.cc_grammar.proofs.Mono.{bounded, above, settable, lower}
use Rattle.cc_grammar.proofs.Shrinks.{reals, at_less, e_less}
use Rattle.cc_grammar.proofs.Soundness.SoundParts.{Derived, SoundInner}
use Rattle.cc_grammar.proofs.Soundness.SoundPrimary.{Chained, callable, primary_sound, suffixes_sound}
use Rattle.cc_grammar.proofs.Soundness.SoundExpressions.{lowered, operator_at, postfix_sound, prefixed_sound, Climbs, begin_climb, climbed, climb_sound, conditional_sound, assign_sound}
use Rattle.cc_grammar.proofs.Moves.{Moved, joined, look_kept}
use Rattle.cc_grammar.proofs.Deletions.{Nest, nest_told, Found, Looks, looks_true, looks_false, opened_looks, nest_found, all_closed, variable_nest, delete_kind, deletes}
use Rattle.cc_grammar.proofs.Nests.{nothing_deleted}
use Rattle.cc_grammar.proofs.MovesDerived.{e_moves}
use Rattle.cc_grammar.proofs.Steps.{kind_at}
use Rattle.cc_grammar.proofs.Fails.{token, new_at, taken, again, same, Spot, here, anew, Begun, EE, no_e, e_due, Fails, fine, deleted, fails_after, fails_map, fails_fork, fails_here, expect_fails, may_raise, Raises, raises, deeper_fails, at_is, FailsInner}
use Rattle.cc_grammar.proofs.Onward.{Mends, onward, mended, mends, delete_other, delete_variable}
use Rattle.cc_grammar.proofs.Fronts.FrontsPrimary.{whole_e, lower_begun, primary_fails, suffixes_fail}
use Rattle.cc_grammar.proofs.OnSymbols as s
use Rattle.cc_grammar.proofs.Firsts.{names}

-- ---- tokens of operators make what they stand in higher

absent : {A : Type 0} {x : Option A} {y : A} → x ≡ None → x ≡ Some y → ⊥
absent {A} {y} e f = let no : ◌≡◌ {A = Option A} None (Some y) = sym e ∙ f in (cc)

step_raises : (x : Kind) (up : Bool) → step_of x ≡ Some up → may_raise x ≡ true
step_raises (k.name n) up e = absurd (absent refl e)
step_raises (k.word word.Delete) up e = absurd (absent refl e)
step_raises _ up e = refl

assign_raises : (x : Kind) (o : Option BinOp) → assign_of x ≡ Some o → may_raise x ≡ true
assign_raises (k.name n) o e = absurd (absent refl e)
assign_raises (k.word word.Delete) o e = absurd (absent refl e)
assign_raises _ o e = refl

infix_raises : (n : Bool) (x : Kind) (o : Infix) → infix_of n x ≡ Some o → may_raise x ≡ true
infix_raises true (k.name v) o e = absurd (absent refl e)
infix_raises false (k.name v) o e = absurd (absent refl e)
infix_raises true (k.word word.Delete) o e = absurd (absent refl e)
infix_raises false (k.word word.Delete) o e = absurd (absent refl e)
infix_raises n _ o e = refl

prefix_raises : (x : Kind) (o : Prefix) → prefix_of x ≡ Some o → is_delete o ≡ false → may_raise x ≡ true
prefix_raises (k.name n) o e f = absurd (absent refl e)
prefix_raises (k.word word.Delete) o e f = sym f ∙ ap is_delete (sym (some_is e))
prefix_raises _ o e f = refl

delete_member : (o : Prefix) (p : Place) (q : Place) (e : RawExpr) (u : Place) (v : List ℕ) → is_delete o ≡ true → prefix_tree o p (raw.member q e u v) ≡ Some (raw.unary p op.Delete (raw.member q e u v))
delete_member (sign.unary op.Delete) p q e u v t = refl
delete_member (sign.step up) p q e u v t = let no : false ≡ true = t in (cc)
delete_member (sign.unary _) p q e u v t = let no : false ≡ true = t in (cc)

module _ (d n : ℕ) (inner : In) (sound : SoundInner d inner) (all : FailsInner d n inner) where
  -- ---- postfix and unary operators

  abbrev XE : Bool → ℕ → Symbols → ℕ → Spot → Type 0
  XE b l xs j i = Begun (EE j b l) xs i

  postfix_fails : (b : Bool) (a : Sized RawExpr) (xs ys : Symbols) → Derived d b 15 xs a ys → Fails (suc d) (XE b 13 xs) (s.postfix d n inner a ys)
  unfolding r.postfix
  postfix_fails b a xs ys h = by (step_of (look ys).kind) (target_of a.0) (look ys).after_line refl refl refl where
    by : (o : Option Bool) (t : Option RawTarget) (c : Bool) → step_of (look ys).kind ≡ o → target_of a.0 ≡ t → (look ys).after_line ≡ c → Fails (suc d) (XE b 13 xs) (s.postfix_by d n inner a o t c ys)
    by (Some up) (Some t) false e f q = let c = found step_of ys up refl refl e in let m = e_moves h.tree in
        deeper_fails {h = a.1} c (raises (step_raises (look ys).kind up e)) (λ lt. fine) a.1 (omega (arith, h.low)) (lower_begun 13 (omega arith) (λ z. absurd (omega arith)) (whole_e h.tree)) (suc a.1)
        (record { front = joined m.front (taken c); more = λ zs. zs; tree = raw.step (look ys).place up false t; holds = λ zs. g.postfix (omega arith) (omega arith) (m.holds _) f q (again c _) e; first = λ zs. same (look_kept m.front (e_less h.tree) _) })
    by (Some up) (Some t) true e f q = fine
    by (Some up) None c e f q = fine
    by None t c e f q = fine

  -- with its operand, or with what mends it
  prefix_begun : (o : Prefix) {b : Bool} (j : ℕ) {xs us : Symbols} {i : Spot} → At (look xs).kind xs us → prefix_of (look xs).kind ≡ Some o → Begun (EE j b 13) us i → Begun (EE (suc j) b 13) xs i
  prefix_begun o {b} j {xs} {us} {i} c e w = by (prefix_tree o (look xs).place w.tree) refl where
    by : (v : Option RawExpr) → prefix_tree o (look xs).place w.tree ≡ v → Begun (EE (suc j) b 13) xs i
    by (Some f) q = record { front = joined (taken c) w.front; more = w.more; tree = f; holds = λ zs. g.prefix (omega arith) (omega arith) (again c _) e (w.holds zs) q; first = λ zs. same refl }
    by None q = record {
      front = joined (taken c) w.front;
      more = λ zs. w.more (real (token (k.due k.remedy)) ∷ zs);
      tree = raw.lit (look xs).place undefined;
      holds = λ zs. g.wrong_prefix (omega arith) (omega arith) (again c _) e (w.holds _) q (new_at (k.due k.remedy));
      first = λ zs. same refl;
    }

  wrong_begun : (o : Prefix) {b : Bool} {h : ℕ} {e : RawExpr} {xs us ys : Symbols} → At (look xs).kind xs us → prefix_of (look xs).kind ≡ Some o → E h b 13 us e ys → prefix_tree o (look xs).place e ≡ None → Begun (EE (suc h) b 13) xs (here ys)
  wrong_begun o {xs} c e x q = let m = e_moves x in record {
    front = joined (taken c) m.front;
    more = λ zs. real (token (k.due k.remedy)) ∷ zs;
    tree = raw.lit (look xs).place undefined;
    holds = λ zs. g.wrong_prefix (omega arith) (omega arith) (again c _) e (m.holds _) q (new_at (k.due k.remedy));
    first = λ zs. same refl;
  }

  delete_at : (o : Prefix) {xs us : Symbols} → is_delete o ≡ true → At (look xs).kind xs us → prefix_of (look xs).kind ≡ Some o → At (k.word word.Delete) xs us
  delete_at o {xs} {us} t c e = let P : Kind → Type 0 = λ z. At z xs us in subst P (delete_kind (look xs).kind o e t) c

  -- a variable behind `delete`, with a token that goes on with an operand
  goes_begun : (b : Bool) (o : Prefix) {xs us j : Symbols} → is_delete o ≡ true → At (look xs).kind xs us → prefix_of (look xs).kind ≡ Some o → (n : Nest 0 us j) → (q : (look xs).kind ≡ k.word word.Delete) → (t : Lexeme) → goes_on t ≡ true
      → (h : ℕ) × XE b 13 xs h (anew (look xs) q (nest_told n).tokens t us)
  goes_begun b o {xs} {us} {j} v c e n q t onwards = by (mends b f.height f.tree t f.variable onwards) where
    f : Found 0 b 16 us j
    f = nest_found b 16 n

    m : Moved (EE f.height b 16 f.tree) us j
    m = e_moves (all_closed f)

    same_tokens : m.front.before ≡ map real (nest_told n).tokens
    same_tokens = append_cancel_right m.front.before (map real (nest_told n).tokens) j (sym (m.front.prefix j) ∙ m.front.is ∙ (nest_told n).is)

    there : (zs : Symbols) → E f.height b 16 (map real (nest_told n).tokens ++ zs) f.tree zs
    there zs = subst (λ l. E f.height b 16 l f.tree zs) (m.front.prefix zs ∙ ap (λ l. l ++ zs) same_tokens) (m.holds zs)

    by : Mends b f.height f.tree t → (h : ℕ) × XE b 13 xs h (anew (look xs) q (nest_told n).tokens t us)
    by (onward y) = (
      suc y.height,
      record {
        front = record { go = λ zs. zs; before = []; prefix = λ zs. refl; is = at_is c };
        more = y.more;
        tree = raw.unary (look xs).place op.Delete y.tree;
        holds = λ zs. g.prefix (omega arith) (omega arith) (again c _) e (y.holds zs (there (real t ∷ y.more zs))) (delete_other o (look xs).place y.tree v y.other);
        first = λ zs. same refl;
      },
    )
    by (mended r) = (
      suc f.height,
      record {
        front = record { go = λ zs. zs; before = []; prefix = λ zs. refl; is = at_is c };
        more = λ zs. zs;
        tree = raw.lit (look xs).place undefined;
        holds = λ zs. g.wrong_prefix (omega arith) (omega arith) (again c _) e (lower 13 (omega arith) (λ z. absurd (omega arith)) (there (real t ∷ zs))) (delete_variable o (look xs).place f.tree v f.variable) (g.at_token t r);
        first = λ zs. same refl;
      },
    )

  prefix_expr_fails : (b : Bool) (o : Prefix) (xs : Symbols) → 0 < d → reals xs < n → prefix_of (look xs).kind ≡ Some o → Fails (suc d) (XE b 13 xs) (s.prefix_expr d n inner b o xs)
  unfolding r.prefix_expr
  prefix_expr_fails b o xs lt ln e = fails_after (sound.expr b 13 (rest xs) (omega arith)) (fails_map suc (λ j l. omega arith) (λ j i w. prefix_begun o j c e w) (all.expr lt b 13 (rest xs) (omega (arith, at_less c)) (omega arith)))
      (λ a ys p. by a ys p.1 p.0.whole.tree (prefix_tree o (look xs).place a.0) refl) where
        c : At (look xs).kind xs (rest xs)
        c = found prefix_of xs o refl refl e

        wrong : (x : Prefix) {a : RawExpr} {h : ℕ} (ys : Symbols) (j : ℕ) → j < suc d → x ≡ o → E h b 13 (rest xs) a ys → prefix_tree x (look xs).place a ≡ None → XE b 13 xs j (here ys) → Fails (suc d) (XE b 13 xs) (s.wrong_prefix d n inner x (look xs).place ys)
        wrong (sign.step up) ys j lt m x q w = fails_here ys j lt w
        wrong (sign.unary x) {a} ys j lt m t q w = let y = deletes x (look xs).place a q in
            let f = ap is_delete (sym m) ∙ y.0 in let v = delete_at o f c e in let nest = variable_nest t y.1 in
            deleted refl v nest 0 (omega arith) (e_due xs 0 b 13) (λ z g. goes_begun b o f c e nest (kind_at v) z g) j w

        by : (a : Sized RawExpr) (ys : Symbols) → a.1 < d → E a.1 b 13 (rest xs) a.0 ys → (f : Option RawExpr) → prefix_tree o (look xs).place a.0 ≡ f → Fails (suc d) (XE b 13 xs) (s.prefix_by d n inner o (look xs).place a f ys)
        by a ys lt x (Some f) q = fine
        by a ys lt x None q = fails_fork (is_remedy (look ys).kind) _ _ (λ _. fine) (λ _. wrong o ys (suc a.1) (omega arith) refl x q (wrong_begun o c e x q))

  deep_prefix : (b : Bool) (o : Prefix) (xs : Symbols) → reals xs < n → prefix_of (look xs).kind ≡ Some o → Raises (look xs).kind (rest xs)
      → Fails (suc d) (XE b 13 xs) (cond (nat_lt 0 d) (s.prefix_expr d n inner b o xs) (Err (record { cause = r.depth; place = (look xs).place }, xs)))
  deep_prefix b o xs ln e r = let c = found prefix_of xs o refl refl e in
      deeper_fails c r (λ lt. prefix_expr_fails b o xs lt ln e) 0 (omega arith) (no_e xs 0 b 13) 1 (prefix_begun o 0 c e (no_e (rest xs) 0 b 13))

  -- where the operand of `delete` is a variable, a dot makes it one that can be deleted
  delete_begun : (b : Bool) (o : Prefix) {xs us j : Symbols} → is_delete o ≡ true → At (look xs).kind xs us → prefix_of (look xs).kind ≡ Some o → Nest 0 us j → (h : ℕ) × XE b 13 xs h (here j)
  delete_begun b o {xs} t c e h = let f = nest_found b 16 h in let x = all_closed f in let m = e_moves x in (
    suc (suc f.height),
    record {
      front = joined (taken c) m.front;
      more = λ zs. real (token (k.mark mark.Dot)) ∷ real (token (k.name [])) ∷ zs;
      tree = raw.unary (look xs).place op.Delete (raw.member nowhere f.tree nowhere []);
      holds = λ zs. g.prefix {h = suc f.height} (omega arith) (omega arith) (again c _) e (g.dotted g.chain (omega arith) (omega arith) (m.holds _) (new_at (k.mark mark.Dot)) (new_at (k.name [])) refl) (delete_member o (look xs).place nowhere f.tree nowhere [] t);
      first = λ zs. same refl;
    },
  )

  prefixed_fails : (b : Bool) (o : Prefix) (xs : Symbols) → reals xs < n → prefix_of (look xs).kind ≡ Some o → Fails (suc d) (XE b 13 xs) (s.prefixed d n inner b o xs)
  unfolding r.prefixed
  prefixed_fails b o xs ln e = fails_fork (is_delete o) _ _ (λ t. by t (s.opened n 0 (rest xs)) refl (opened_looks n 0 (rest xs) behind)) (λ f. deep_prefix b o xs ln e (raises (prefix_raises (look xs).kind o e f))) where
    c : At (look xs).kind xs (rest xs)
    c = found prefix_of xs o refl refl e

    behind : reals (rest xs) < n
    behind = omega (arith, at_less c)

    by : is_delete o ≡ true → (u : Outcome Symbols Bool) → s.opened n 0 (rest xs) ≡ u → Looks 0 (rest xs) u
        → Fails (suc d) (XE b 13 xs) (r.unless_deleted Symbols look rest r.semicolon_symbol u (look xs).place (cond (nat_lt 0 d) (s.prefix_expr d n inner b o xs) (Err (record { cause = r.depth; place = (look xs).place }, xs))))
    by t u q (looks_true h) = let p = delete_begun b o t c e h in let v = delete_at o t c e in
        deleted refl v h 0 (omega arith) (e_due xs 0 b 13) (λ z g. goes_begun b o t c e h (kind_at v) z g) p.0 p.1
    by t u q looks_false = deep_prefix b o xs ln e (record { unnamed = ap names (kind_at (delete_at o t c e)); spares = λ _. nothing_deleted n behind q })

  -- ---- binary operators

  binary_begun : (b : Bool) (l : ℕ) (o : Infix) {h : ℕ} (j : ℕ) {e : RawExpr} {xs ys : Symbols} {i : Spot} → l ≤ level o → E h b (level o) xs e ys → infix_of b (look ys).kind ≡ Some o → Begun (EE j b (level o + 1)) (rest ys) i → XE b (max l 3) xs (suc (max h j)) i
  binary_begun b l o j {e} {ys} le t q w = let m = e_moves t in let c = operator_at b ys o q in
      record {
        front = joined m.front (joined (taken c) w.front);
        more = w.more;
        tree = infix_tree o (look ys).place e w.tree;
        holds = λ zs. g.binary (omega (arith, above o)) (omega arith) (omega arith) (m.holds _) (again c _) q (w.holds zs);
        first = λ zs. same (look_kept m.front (e_less t) _);
      }

  turn_fails : (b : Bool) (l : ℕ) (xs : Symbols) (a : Sized RawExpr) (ys : Symbols) (next : Sized RawExpr → s.Reader (Sized RawExpr)) (o : Option Infix) → reals xs < n → infix_of b (look ys).kind ≡ o → Climbs d n inner sound b l xs a ys
      → ((c : Sized RawExpr) (zs : Symbols) → Climbs d n inner sound b l xs c zs → a.1 < d → a.1 < c.1 → Fails (suc d) (XE b (max l 3) xs) (next c zs)) → Fails (suc d) (XE b (max l 3) xs) (s.climb_by d n inner next b l a o ys)
  turn_fails b l xs a ys next None ln e h f = fine
  turn_fails b l xs a ys next (Some o) ln e h f = fails_fork (nat_lt (level o) l) _ _ (λ _. fine)
      (λ ge. let le = ltb-false _ _ ge in let t = h.next o e le in let c = operator_at b ys o e in
      deeper_fails c (raises (infix_raises b (look ys).kind o e))
      (λ (lt : a.1 < d). fails_after (sound.expr b (level o + 1) (rest ys) (omega (arith, bounded o)))
      (fails_map (λ j. suc (max a.1 j)) (λ j m. omega arith) (λ j i w. binary_begun b l o j le t e w) (all.expr (omega arith) b (level o + 1) (rest ys) (omega (arith, e_less t, at_less c)) (omega (arith, bounded o))))
      (λ x zs p. f _ zs (climbed d n inner sound b l xs a ys o e le lt h x zs p.0 p.1) lt (omega arith)))
      a.1 (omega (arith, h.whole.low)) (whole_e h.whole.tree) (suc (max a.1 0)) (binary_begun b l o 0 le t e (no_e (rest ys) 0 b (level o + 1))))

  climb_fails : (b : Bool) (l m : ℕ) (xs : Symbols) (a : Sized RawExpr) (ys : Symbols) → reals xs < n → d < m + a.1 → Climbs d n inner sound b l xs a ys → Fails (suc d) (XE b (max l 3) xs) (s.climb d n inner b l m a ys)
  unfolding r.climb
  climb_fails b l zero xs a ys ln lm h = turn_fails b l xs a ys (λ _. r.stops Symbols look rest r.semicolon_symbol r.depth) (infix_of b (look ys).kind) ln refl h (λ c zs p lt up. absurd (omega arith))
  climb_fails b l (suc m) xs a ys ln lm h = turn_fails b l xs a ys (s.climb d n inner b l m) (infix_of b (look ys).kind) ln refl h (λ c zs p lt up. climb_fails b l m xs c zs ln (omega arith) p)

  -- ---- what binds less

  -- a condition, with the first of its two values that has begun, or both
  then_begun : (b : Bool) {h : ℕ} (j : ℕ) {e : RawExpr} {xs ys : Symbols} {i : Spot} → E h b 3 xs e ys → Sign mark.Question ys (rest ys) → Begun (EE j true 1) (rest ys) i → XE b 2 xs (suc (max h j)) i
  then_begun b j {e} {ys} t c w = let m = e_moves t in record {
    front = joined m.front (joined (taken c) w.front);
    more = λ zs. w.more (real (token (k.mark mark.Colon)) ∷ real (token (k.due k.operand)) ∷ zs);
    tree = raw.cond (look ys).place e w.tree (raw.lit nowhere undefined);
    holds = λ zs. g.conditional {j = 0} (omega arith) (omega arith) (omega arith) (omega arith) (m.holds _) (again c _) (w.holds _) (new_at (k.mark mark.Colon)) (g.operand (new_at (k.due k.operand)));
    first = λ zs. same (look_kept m.front (e_less t) _);
  }

  else_begun : (b : Bool) {h u : ℕ} (j : ℕ) {e f : RawExpr} {xs ys zs us : Symbols} {i : Spot} → E h b 3 xs e ys → Sign mark.Question ys (rest ys) → E u true 1 (rest ys) f zs → Sign mark.Colon zs us → Begun (EE j b 1) us i → XE b 2 xs (suc (max (max h u) j)) i
  else_begun b j {e} {f} {ys} t c x o w = let m = e_moves t in let v = e_moves x in record {
    front = joined m.front (joined (taken c) (joined v.front (joined (taken o) w.front)));
    more = w.more;
    tree = raw.cond (look ys).place e f w.tree;
    holds = λ zs. g.conditional (omega arith) (omega arith) (omega arith) (omega arith) (m.holds _) (again c _) (v.holds _) (again o _) (w.holds zs);
    first = λ zs. same (look_kept m.front (e_less t) _);
  }

  conditional_fails : (b : Bool) (a : Sized RawExpr) (xs ys : Symbols) → reals xs < n → Derived d b 3 xs a ys → Fails (suc d) (XE b 2 xs) (s.conditional d n inner b a ys)
  unfolding r.conditional
  conditional_fails b a xs ys ln h = fails_fork (is_mark mark.Question (look ys).kind) _ _
      (λ e. let c = marked mark.Question ys e in deeper_fails c (raises refl)
      (λ (lt : a.1 < d). fails_after (sound.expr true 1 (rest ys) (omega arith))
      (fails_map (λ j. suc (max a.1 j)) (λ j m. omega arith) (λ j i w. then_begun b j h.tree c w) (all.expr (omega arith) true 1 (rest ys) (omega (arith, e_less h.tree, at_less c)) (omega arith)))
      (λ x zs p. fails_after (expected mark.Colon zs) (expect_fails mark.Colon zs (suc (max a.1 x.1)) (omega arith) (then_begun b x.1 h.tree c (whole_e p.0.whole.tree)))
      (λ _ us o. fails_after (sound.expr b 1 us (omega arith))
      (fails_map (λ j. suc (max (max a.1 x.1) j)) (λ j m. omega (arith, p.1)) (λ j i w. else_begun b j h.tree c p.0.whole.tree o w) (all.expr (omega arith) b 1 us (omega (arith, e_less h.tree, at_less c, e_less p.0.whole.tree, at_less o)) (omega arith)))
      (λ y ws q. fine))))
      a.1 (omega (arith, h.low)) (lower_begun 2 (omega arith) (λ z. absurd (omega arith)) (whole_e h.tree)) (suc (max a.1 0)) (then_begun b 0 h.tree c (no_e (rest ys) 0 true 1)))
      (λ _. fine)

  assign_begun : (b : Bool) {h : ℕ} (j : ℕ) {e : RawExpr} {t : RawTarget} {o : Option BinOp} {xs ys : Symbols} {i : Spot} → E h b 15 xs e ys → target_of e ≡ Some t → assign_of (look ys).kind ≡ Some o → Begun (EE j b 1) (rest ys) i → XE b 1 xs (suc (max h j)) i
  assign_begun b j {t} {o} {ys} x f e w = let m = e_moves x in let c = found assign_of ys o refl refl e in record {
    front = joined m.front (joined (taken c) w.front);
    more = w.more;
    tree = raw.assign (look ys).place o t w.tree;
    holds = λ zs. g.assign (omega arith) (omega arith) (omega arith) (m.holds _) f (again c _) e (w.holds zs);
    first = λ zs. same (look_kept m.front (e_less x) _);
  }

  assign_fails : (b : Bool) (a : Sized RawExpr) (xs ys : Symbols) → reals xs < n → Derived d b 2 xs a ys → Fails (suc d) (XE b 1 xs) (s.assign d n inner b a ys)
  unfolding r.assign
  assign_fails b a xs ys ln h = by (assign_of (look ys).kind) (target_of a.0) refl refl where
    by : (o : Option (Option BinOp)) (t : Option RawTarget) → assign_of (look ys).kind ≡ o → target_of a.0 ≡ t → Fails (suc d) (XE b 1 xs) (s.assign_by d n inner b a o t ys)
    by (Some o) (Some t) e f = let c = found assign_of ys o refl refl e in let x = settable t f h.tree in deeper_fails c (raises (assign_raises (look ys).kind o e))
        (λ (lt : a.1 < d). fails_after (sound.expr b 1 (rest ys) (omega arith))
        (fails_map (λ j. suc (max a.1 j)) (λ j m. omega arith) (λ j i w. assign_begun b j x f e w) (all.expr (omega arith) b 1 (rest ys) (omega (arith, e_less h.tree, at_less c)) (omega arith)))
        (λ y zs p. fine))
        a.1 (omega (arith, h.low)) (lower_begun 1 (omega arith) (λ z. absurd (omega arith)) (whole_e h.tree)) (suc (max a.1 0)) (assign_begun b 0 x f e (no_e (rest ys) 0 b 1))
    by (Some o) None e f = fine
    by None t e f = fine

  comma_begun : (b : Bool) {h : ℕ} (j : ℕ) {e : RawExpr} {xs ys : Symbols} {i : Spot} → E h b 0 xs e ys → Sign mark.Comma ys (rest ys) → Begun (EE j b 1) (rest ys) i → XE b 0 xs (suc (max h j)) i
  comma_begun b j {e} {ys} t c w = let m = e_moves t in record {
    front = joined m.front (joined (taken c) w.front);
    more = w.more;
    tree = raw.comma (look ys).place e w.tree;
    holds = λ zs. g.comma (omega arith) (omega arith) (m.holds _) (again c _) (w.holds zs);
    first = λ zs. same (look_kept m.front (e_less t) _);
  }

  comma_fails : (b : Bool) (next : Sized RawExpr → s.Reader (Sized RawExpr)) (a : Sized RawExpr) (xs ys : Symbols) (c : Bool) → reals xs < n → is_mark mark.Comma (look ys).kind ≡ c → Derived d b 0 xs a ys
      → ((x : Sized RawExpr) (zs : Symbols) → Derived d b 0 xs x zs → a.1 < d → a.1 < x.1 → Fails (suc d) (XE b 0 xs) (next x zs)) → Fails (suc d) (XE b 0 xs) (s.comma_by d n inner next b a c ys)
  comma_fails b next a xs ys false ln e h f = fine
  comma_fails b next a xs ys true ln e h f = let c = marked mark.Comma ys e in deeper_fails c (raises refl)
      (λ (lt : a.1 < d). fails_after (sound.expr b 1 (rest ys) (omega arith))
      (fails_map (λ j. suc (max a.1 j)) (λ j m. omega arith) (λ j i w. comma_begun b j h.tree c w) (all.expr (omega arith) b 1 (rest ys) (omega (arith, e_less h.tree, at_less c)) (omega arith)))
      (λ x zs p. f _ zs (record { tree = g.comma (omega arith) (omega arith) h.tree c p.0.whole.tree; low = omega (arith, p.1) }) lt (omega arith)))
      a.1 (omega (arith, h.low)) (whole_e h.tree) (suc (max a.1 0)) (comma_begun b 0 h.tree c (no_e (rest ys) 0 b 1))

  commas_fail : (b : Bool) (m : ℕ) (a : Sized RawExpr) (xs ys : Symbols) → reals xs < n → d < m + a.1 → Derived d b 0 xs a ys → Fails (suc d) (XE b 0 xs) (s.commas d n inner b m a ys)
  unfolding r.commas
  commas_fail b zero a xs ys ln lm h = comma_fails b (λ _. r.stops Symbols look rest r.semicolon_symbol r.depth) a xs ys (is_mark mark.Comma (look ys).kind) ln refl h (λ x zs p lt up. absurd (omega arith))
  commas_fail b (suc m) a xs ys ln lm h = comma_fails b (s.commas d n inner b m) a xs ys (is_mark mark.Comma (look ys).kind) ln refl h (λ x zs p lt up. commas_fail b m x xs zs ln (omega arith) p)

  -- ---- whole expressions

  lowest : {b : Bool} {l : ℕ} {xs : Symbols} {A : Type 0} {o : Outcome Symbols A} (m : ℕ) → m ≤ l → m ≤ 13 → Fails (suc d) (XE b l xs) o → Fails (suc d) (XE b m xs) o
  lowest m le lm f = fails_map (λ j. j) (λ j l. l) (λ j i w. lower_begun m le (λ z. absurd (omega arith)) w) f

  conditional_part : (b : Bool) (l : ℕ) (x : Sized RawExpr) (xs zs : Symbols) → l ≤ 13 → Derived d b (max l 3) xs x zs → Done (λ y us. Derived d b (max l 2) xs y us) (cond (nat_lt l 3) (s.conditional d n inner b x) (λ i. Ok (x, i)) zs)
  conditional_part b l x xs zs ll h = fork (nat_lt l 3) _ _
      (λ lt. weaken (conditional_sound d n inner sound b x xs zs (lowered 3 (omega arith) (λ q. absurd (omega arith)) h)) (λ y us q. lowered (max l 2) (omega (arith, ltb-true _ _ lt)) (λ s. absurd (omega (arith, ltb-true _ _ lt))) q))
      (λ _. ok (lowered (max l 2) (omega arith) (λ q. absurd (omega arith)) h))

  assign_part : (b : Bool) (l : ℕ) (x : Sized RawExpr) (xs zs : Symbols) → l ≤ 13 → Derived d b (max l 2) xs x zs → Done (λ y us. Derived d b (max l 1) xs y us) (cond (nat_lt l 2) (s.assign d n inner b x) (λ i. Ok (x, i)) zs)
  assign_part b l x xs zs ll h = fork (nat_lt l 2) _ _
      (λ lt. weaken (assign_sound d n inner sound b x xs zs (lowered 2 (omega arith) (λ q. absurd (omega arith)) h)) (λ y us q. lowered (max l 1) (omega (arith, ltb-true _ _ lt)) (λ s. absurd (omega (arith, ltb-true _ _ lt))) q))
      (λ _. ok (lowered (max l 1) (omega arith) (λ q. absurd (omega arith)) h))

  after_unary_fails : (b : Bool) (l : ℕ) (a : Sized RawExpr) (xs ys : Symbols) → reals xs < n → l ≤ 13 → Derived d b 13 xs a ys → Fails (suc d) (XE b l xs) (s.after_unary d n inner b l a ys)
  unfolding r.after_unary
  after_unary_fails b l a xs ys ln ll h = let c = begin_climb d n inner sound b l xs a ys ll h in
      fails_after (climb_sound d n inner sound b l (suc d) xs a ys c) (lowest l (omega arith) ll (climb_fails b l (suc d) xs a ys ln (omega arith) c)) (λ x zs p.
      fails_after (conditional_part b l x xs zs ll p.0)
      (fails_fork (nat_lt l 3) _ _ (λ lt. lowest l (omega (arith, ltb-true _ _ lt)) ll (conditional_fails b x xs zs ln (lowered 3 (omega arith) (λ q. absurd (omega arith)) p.0))) (λ _. fine)) (λ y us q.
      fails_after (assign_part b l y xs us ll q)
      (fails_fork (nat_lt l 2) _ _ (λ lt. lowest l (omega (arith, ltb-true _ _ lt)) ll (assign_fails b y xs us ln (lowered 2 (omega arith) (λ s. absurd (omega arith)) q))) (λ _. fine)) (λ z vs o.
      fails_fork (l == 0) _ _ (λ e. let zeroth : l ≡ 0 = eqb-true _ _ e in lowest l (omega arith) ll (commas_fail b (suc d) z xs vs ln (omega arith) (lowered 0 (omega arith) (λ s. absurd (omega arith)) o))) (λ _. fine))))

  pub after_head_fails : (b : Bool) (l : ℕ) (a : Sized RawExpr) (xs ys : Symbols) → reals xs < n → l ≤ 13 → Chained d false b xs a ys → Fails (suc d) (XE b l xs) (s.after_head d n inner b l a ys)
  unfolding r.after_head
  after_head_fails b l a xs ys ln ll h = fails_after (suffixes_sound d n inner sound true b (suc d) a xs ys (callable h)) (lowest l (omega arith) ll (suffixes_fail d n inner sound all true b (suc d) a xs ys ln (omega arith) (callable h))) (λ x zs p.
      fails_after (postfix_sound d n inner sound b x xs zs p.is.whole) (lowest l (omega arith) ll (postfix_fails b x xs zs p.is.whole)) (λ y us q. after_unary_fails b l y xs us ln ll q))

  pub expr_fails : (b : Bool) (l : ℕ) (xs : Symbols) → reals xs < n → l ≤ 13 → Fails (suc d) (XE b l xs) (s.expr_of d n inner b l xs)
  unfolding r.expr_of
  expr_fails b l xs ln ll = fails_fork (l == 17) _ _ (λ e. absurd (omega (arith, eqb-true _ _ e))) (λ _. by (prefix_of (look xs).kind) refl) where
    by : (o : Option Prefix) → prefix_of (look xs).kind ≡ o → Fails (suc d) (XE b l xs) (s.expr_by d n inner b l o xs)
    by None e = fails_after (primary_sound d n inner sound b xs) (lowest l (omega arith) ll (primary_fails d n inner sound all b xs ln)) (λ a ys p. after_head_fails b l a xs ys ln ll p)
    by (Some o) e = fails_after (prefixed_sound d n inner sound b o xs e) (lowest l ll ll (prefixed_fails b o xs ln e)) (λ a ys p. after_unary_fails b l a xs ys ln ll p)

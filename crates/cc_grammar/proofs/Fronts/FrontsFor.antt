-- Where reading stops, what came before is a front: `for`.
use Rattle.std.specs.Prelude.{◌≡◌, ℕ, suc, ◌<◌, max, Bool, true, false, cond, List, [], ◌∷◌, Option, Some, None}
use Rattle.std.proofs.Common.{refl, arith}
use Rattle.cc_ast.specs.Syntax.{undefined}
use Rattle.cc_lexer.specs.declared.token.Mark.TheVariants as mark
use Rattle.cc_lexer.specs.declared.word.Word.TheVariants as word
use Rattle.cc_grammar.specs.Symbols.{Kind, Symbols, real, look, rest, nowhere, is_mark, is_word}
use Rattle.cc_grammar.specs.Symbols as k
use Rattle.cc_grammar.specs.RawTree.{RawExpr, RawTarget, RawForTarget, RawStmt, RawDeclarator, RawInit, MaybeExpr, stmts}
use Rattle.cc_grammar.specs.RawTree as raw
use Rattle.cc_grammar.specs.Signs.{target_of}
use Rattle.cc_grammar.specs.Grammar as g
use Rattle.cc_grammar.specs.Grammar.{Context, in_loop, At, Sign, Reserved, E, Declarator, Declarators, Init, Optional, T, is_tail}
use Rattle.cc_grammar.specs.Reading.{Outcome, Sized, and_then}
use Rattle.cc_grammar.specs.Reading as r
use Rattle.cc_grammar.proofs.Marked.{In, worded, expected}
use Rattle.cc_grammar.proofs.Mono.{higher, higher_declarator, higher_optional, higher_init, settable}
use Rattle.cc_grammar.proofs.Shrinks.{reals, at_less, e_less, declarator_less, init_less, optional_less}
use Rattle.cc_grammar.proofs.Soundness.SoundParts.{SoundInner, whole_list}
use Rattle.cc_grammar.proofs.Soundness.SoundStatements.{declarators_sound, inner_expr, optional_sound, one_at_least, one_of}
use Rattle.cc_grammar.proofs.Moves.{Front, stays, joined}
use Rattle.cc_grammar.proofs.MovesDerived.{e_moves, declarator_moves, init_moves, optional_moves}
use Rattle.cc_grammar.proofs.Fails.{token, new_at, taken, again, same, fresh, Spot, here, Begun, EE, TT, Fails, fine, fails_after, fails_map, fails_fork, expect_fails, FailsInner}
use Rattle.cc_grammar.proofs.Fronts.FrontsClauses.{declarators_fail, OO, optional_fails}
use Rattle.cc_grammar.proofs.OnSymbols as s

-- a `for` of its parts
for_of : {c : Context} {h u v i : ℕ} {a : RawInit} {e f : MaybeExpr} {b : List RawStmt} {xs ys zs us vs ws ts os rs ps : Symbols} → Reserved word.For xs ys → Sign mark.OpenParen ys zs → Init h zs a us → Sign mark.Semicolon us vs
    → Optional u vs e ws → Sign mark.Semicolon ws ts → Optional v ts f os → Sign mark.CloseParen os rs → T (in_loop c) i rs b ps → T c (suc (max (max h (max u v)) i)) xs (raw.for (look xs).place a e f (stmts b) ∷ []) ps
for_of {h} {u} {v} o p i q x m y w z = g.for {h = max h (max u v)} (omega arith) (omega arith) o p (higher_init _ (omega arith) i) q (higher_optional _ (omega arith) x) m (higher_optional _ (omega arith) y) w z

-- a target, up to `in`
data Aim : ℕ → RawForTarget → Symbols → Symbols → Type 0 where
  at_target : {h : ℕ} {x : RawExpr} {t : RawTarget} {ys zs : Symbols} → E h false 15 ys x zs → target_of x ≡ Some t → Aim h (raw.in_target t) ys zs
  at_variable : {h : ℕ} {v : RawDeclarator} {ys us zs : Symbols} → Reserved word.Var ys us → Declarator h false us v zs → Aim h (raw.in_declared v.variable v.value) ys zs

in_of : {c : Context} {h u i : ℕ} {f : RawExpr} {b : List RawStmt} {t : RawForTarget} {xs ys zs us vs ws os ps : Symbols} → Reserved word.For xs ys → Sign mark.OpenParen ys zs → Aim h t zs us → Reserved word.In us vs
    → E u true 0 vs f ws → Sign mark.CloseParen ws os → T (in_loop c) i os b ps → T c (suc (max (max h u) i)) xs (raw.for_in (look xs).place t f (stmts b) ∷ []) ps
in_of {h} {u} o p (at_target x e) n y q b = g.for_in {h = max h u} (omega arith) (omega arith) o p (higher _ (omega arith) x) e n (higher _ (omega arith) y) q b
in_of {h} {u} o p (at_variable w v) n y q b = g.for_in_var {h = max h u} (omega arith) (omega arith) o p w (higher_declarator _ (omega arith) v) n (higher _ (omega arith) y) q b

-- the whole target, before another list
record AimMoved (h : ℕ) (t : RawForTarget) (xs ys : Symbols) : Type 0 where
  front : Front xs ys
  holds : (zs : Symbols) → Aim h t (front.go zs) zs

aim_moves : {h : ℕ} {t : RawForTarget} {xs ys : Symbols} → Aim h t xs ys → AimMoved h t xs ys
aim_moves (at_target x e) = let m = e_moves x in record { front = m.front; holds = λ zs. at_target (m.holds zs) e }
aim_moves (at_variable w v) = let m = declarator_moves v in record { front = joined (taken w) m.front; holds = λ zs. at_variable (again w _) (m.holds zs) }

aim_less : {h : ℕ} {t : RawForTarget} {xs ys : Symbols} → Aim h t xs ys → reals ys < reals xs
aim_less (at_target x e) = e_less x
aim_less (at_variable w v) = omega (arith, at_less w, declarator_less v)

module _ (d n : ℕ) (inner : In) (sound : SoundInner d inner) (all : FailsInner d n inner) where
  -- The parenthesis behind the word has come.
  module _ (c : Context) (xs : Symbols) {ys zs : Symbols} (o : Reserved word.For xs ys) (p : Sign mark.OpenParen ys zs) (lt : 0 < d) (ln : reals xs < n) where
    abbrev FT : ℕ → Spot → Type 0
    FT j i = Begun (TT c j) xs i

    -- the beginning has begun
    init_begun : {j : ℕ} {i : Spot} → Begun (λ (a : RawInit) us vs. Init j us a vs) zs i → FT (suc (max (max j (max 0 0)) 0)) i
    init_begun w = record {
      front = joined (taken o) (joined (taken p) w.front);
      more = λ us. w.more (real (token (k.mark mark.Semicolon)) ∷ real (token (k.mark mark.Semicolon)) ∷ real (token (k.mark mark.CloseParen)) ∷ real (token (k.due k.statement)) ∷ us);
      tree = raw.for (look xs).place w.tree raw.no_expr raw.no_expr (stmts []) ∷ [];
      holds = λ us f. for_of {u = 0} {v = 0} {i = 0} (again o _) (again p _) (w.holds _) (new_at (k.mark mark.Semicolon)) g.absent (new_at (k.mark mark.Semicolon)) g.absent (new_at (k.mark mark.CloseParen)) (g.any_statement (new_at (k.due k.statement)));
      first = λ us. same refl;
    }

    test_begun : {h : ℕ} (j : ℕ) {a : RawInit} {us vs : Symbols} {i : Spot} → Init h zs a us → Sign mark.Semicolon us vs → Begun (OO j) vs i → FT (suc (max (max h (max j 0)) 0)) i
    test_begun j {a} m q w = let u = init_moves m in record {
      front = joined (taken o) (joined (taken p) (joined u.front (joined (taken q) w.front)));
      more = λ us. w.more (real (token (k.mark mark.Semicolon)) ∷ real (token (k.mark mark.CloseParen)) ∷ real (token (k.due k.statement)) ∷ us);
      tree = raw.for (look xs).place a w.tree raw.no_expr (stmts []) ∷ [];
      holds = λ us f. for_of {v = 0} {i = 0} (again o _) (again p _) (u.holds _) (again q _) (w.holds _) (new_at (k.mark mark.Semicolon)) g.absent (new_at (k.mark mark.CloseParen)) (g.any_statement (new_at (k.due k.statement)));
      first = λ us. same refl;
    }

    step_begun : {h u : ℕ} (j : ℕ) {a : RawInit} {e : MaybeExpr} {us vs ws ts : Symbols} {i : Spot} → Init h zs a us → Sign mark.Semicolon us vs → Optional u vs e ws → Sign mark.Semicolon ws ts → Begun (OO j) ts i → FT (suc (max (max h (max u j)) 0)) i
    step_begun j {a} {e} m q x v w = let y = init_moves m in let z = optional_moves x in record {
      front = joined (taken o) (joined (taken p) (joined y.front (joined (taken q) (joined z.front (joined (taken v) w.front)))));
      more = λ us. w.more (real (token (k.mark mark.CloseParen)) ∷ real (token (k.due k.statement)) ∷ us);
      tree = raw.for (look xs).place a e w.tree (stmts []) ∷ [];
      holds = λ us f. for_of {i = 0} (again o _) (again p _) (y.holds _) (again q _) (z.holds _) (again v _) (w.holds _) (new_at (k.mark mark.CloseParen)) (g.any_statement (new_at (k.due k.statement)));
      first = λ us. same refl;
    }

    for_begun : {h u l : ℕ} (j : ℕ) {a : RawInit} {e f : MaybeExpr} {us vs ws ts rs os : Symbols} {i : Spot} → Init h zs a us → Sign mark.Semicolon us vs → Optional u vs e ws → Sign mark.Semicolon ws ts → Optional l ts f rs → Sign mark.CloseParen rs os
        → Begun (TT (in_loop c) j) os i → FT (suc (max (max h (max u l)) j)) i
    for_begun j {a} {e} {f} m q x v t r w = let y = init_moves m in let z = optional_moves x in let b = optional_moves t in
        record {
          front = joined (taken o) (joined (taken p) (joined y.front (joined (taken q) (joined z.front (joined (taken v) (joined b.front (joined (taken r) w.front)))))));
          more = w.more;
          tree = raw.for (look xs).place a e f (stmts w.tree) ∷ [];
          holds = λ us g. for_of (again o _) (again p _) (y.holds _) (again q _) (z.holds _) (again v _) (b.holds _) (again r _) (w.holds us g);
          first = λ us. same refl;
        }

    -- what has come whole
    whole_init : {h : ℕ} {a : RawInit} {us : Symbols} → Init h zs a us → Begun (OO 0) us (here us) → FT (suc (max (max h (max 0 0)) 0)) (here us)
    whole_init {a} m w = let u = init_moves m in record {
      front = joined (taken o) (joined (taken p) u.front);
      more = λ us. real (token (k.mark mark.Semicolon)) ∷ real (token (k.mark mark.Semicolon)) ∷ real (token (k.mark mark.CloseParen)) ∷ real (token (k.due k.statement)) ∷ us;
      tree = raw.for (look xs).place a raw.no_expr raw.no_expr (stmts []) ∷ [];
      holds = λ us f. for_of {u = 0} {v = 0} {i = 0} (again o _) (again p _) (u.holds _) (new_at (k.mark mark.Semicolon)) g.absent (new_at (k.mark mark.Semicolon)) g.absent (new_at (k.mark mark.CloseParen)) (g.any_statement (new_at (k.due k.statement)));
      first = λ us. same refl;
    }

    no_optional : (us : Symbols) → Begun (OO 0) us (here us)
    no_optional us = record { front = stays us; more = λ zs. real (token (k.due k.operand)) ∷ zs; tree = raw.one_expr (raw.lit nowhere undefined); holds = λ zs. g.present (g.operand (new_at (k.due k.operand))); first = λ zs. fresh refl }

    whole_test : {h u : ℕ} {a : RawInit} {e : MaybeExpr} {us vs ws : Symbols} → Init h zs a us → Sign mark.Semicolon us vs → Optional u vs e ws → FT (suc (max (max h (max u 0)) 0)) (here ws)
    whole_test {a} {e} m q x = let y = init_moves m in let z = optional_moves x in record {
      front = joined (taken o) (joined (taken p) (joined y.front (joined (taken q) z.front)));
      more = λ us. real (token (k.mark mark.Semicolon)) ∷ real (token (k.mark mark.CloseParen)) ∷ real (token (k.due k.statement)) ∷ us;
      tree = raw.for (look xs).place a e raw.no_expr (stmts []) ∷ [];
      holds = λ us f. for_of {v = 0} {i = 0} (again o _) (again p _) (y.holds _) (again q _) (z.holds _) (new_at (k.mark mark.Semicolon)) g.absent (new_at (k.mark mark.CloseParen)) (g.any_statement (new_at (k.due k.statement)));
      first = λ us. same refl;
    }

    whole_step : {h u l : ℕ} {a : RawInit} {e f : MaybeExpr} {us vs ws ts rs : Symbols} → Init h zs a us → Sign mark.Semicolon us vs → Optional u vs e ws → Sign mark.Semicolon ws ts → Optional l ts f rs → FT (suc (max (max h (max u l)) 0)) (here rs)
    whole_step {a} {e} {f} m q x v t = let y = init_moves m in let z = optional_moves x in let b = optional_moves t in record {
      front = joined (taken o) (joined (taken p) (joined y.front (joined (taken q) (joined z.front (joined (taken v) b.front)))));
      more = λ us. real (token (k.mark mark.CloseParen)) ∷ real (token (k.due k.statement)) ∷ us;
      tree = raw.for (look xs).place a e f (stmts []) ∷ [];
      holds = λ us h. for_of {i = 0} (again o _) (again p _) (y.holds _) (again q _) (z.holds _) (again v _) (b.holds _) (new_at (k.mark mark.CloseParen)) (g.any_statement (new_at (k.due k.statement)));
      first = λ us. same refl;
    }

    for_rest_fails : (us : Symbols) (a : Sized RawInit) → Init a.1 zs a.0 us → a.1 < d → Fails (suc d) FT (s.for_rest d n inner c (look xs).place a us)
    unfolding r.for_rest
    for_rest_fails us a m la = fails_after (expected mark.Semicolon us) (expect_fails mark.Semicolon us _ (omega arith) (whole_init m (no_optional us))) (λ _ vs q.
        fails_after (optional_sound d n inner sound mark.Semicolon vs lt) (fails_map (λ j. suc (max (max a.1 (max j 0)) 0)) (λ j l. omega arith) (λ j i w. test_begun j m q w) (optional_fails d n inner sound all mark.Semicolon vs lt (omega (arith, at_less o, at_less p, init_less m, at_less q)))) (λ x ws t.
        fails_after (expected mark.Semicolon ws) (expect_fails mark.Semicolon ws _ (omega arith) (whole_test m q t.0)) (λ _ ts v.
        fails_after (optional_sound d n inner sound mark.CloseParen ts lt) (fails_map (λ j. suc (max (max a.1 (max x.1 j)) 0)) (λ j l. omega (arith, t.1)) (λ j i w. step_begun j m q t.0 v w)
        (optional_fails d n inner sound all mark.CloseParen ts lt (omega (arith, at_less o, at_less p, init_less m, at_less q, optional_less t.0, at_less v)))) (λ y rs w.
        fails_after (expected mark.CloseParen rs) (expect_fails mark.CloseParen rs _ (omega arith) (whole_step m q t.0 v w.0)) (λ _ os b.
        fails_after (sound.stmt (in_loop c) os) (fails_map (λ j. suc (max (max a.1 (max x.1 y.1)) j)) (λ j l. omega (arith, t.1, w.1)) (λ j i z. for_begun j m q t.0 v w.0 b z)
        (all.stmt lt (in_loop c) os (omega (arith, at_less o, at_less p, init_less m, at_less q, optional_less t.0, at_less v, optional_less w.0, at_less b)))) (λ b rs z. fine))))))

    -- ---- `in`

    object_begun : {h : ℕ} (j : ℕ) {t : RawForTarget} {us vs : Symbols} {i : Spot} → Aim h t zs us → Reserved word.In us vs → Begun (EE j true 0) vs i → FT (suc (max (max h j) 0)) i
    object_begun j {t} m q w = let u = aim_moves m in record {
      front = joined (taken o) (joined (taken p) (joined u.front (joined (taken q) w.front)));
      more = λ us. w.more (real (token (k.mark mark.CloseParen)) ∷ real (token (k.due k.statement)) ∷ us);
      tree = raw.for_in (look xs).place t w.tree (stmts []) ∷ [];
      holds = λ us f. in_of {i = 0} (again o _) (again p _) (u.holds _) (again q _) (w.holds _) (new_at (k.mark mark.CloseParen)) (g.any_statement (new_at (k.due k.statement)));
      first = λ us. same refl;
    }

    whole_object : {h u : ℕ} {t : RawForTarget} {e : RawExpr} {us vs ws : Symbols} → Aim h t zs us → Reserved word.In us vs → E u true 0 vs e ws → FT (suc (max (max h u) 0)) (here ws)
    whole_object {t} {e} m q x = let u = aim_moves m in let v = e_moves x in record {
      front = joined (taken o) (joined (taken p) (joined u.front (joined (taken q) v.front)));
      more = λ us. real (token (k.mark mark.CloseParen)) ∷ real (token (k.due k.statement)) ∷ us;
      tree = raw.for_in (look xs).place t e (stmts []) ∷ [];
      holds = λ us f. in_of {i = 0} (again o _) (again p _) (u.holds _) (again q _) (v.holds _) (new_at (k.mark mark.CloseParen)) (g.any_statement (new_at (k.due k.statement)));
      first = λ us. same refl;
    }

    in_begun : {h u : ℕ} (j : ℕ) {t : RawForTarget} {e : RawExpr} {us vs ws os : Symbols} {i : Spot} → Aim h t zs us → Reserved word.In us vs → E u true 0 vs e ws → Sign mark.CloseParen ws os → Begun (TT (in_loop c) j) os i → FT (suc (max (max h u) j)) i
    in_begun j {t} {e} m q x y w = let u = aim_moves m in let v = e_moves x in record {
      front = joined (taken o) (joined (taken p) (joined u.front (joined (taken q) (joined v.front (joined (taken y) w.front)))));
      more = w.more;
      tree = raw.for_in (look xs).place t e (stmts w.tree) ∷ [];
      holds = λ us f. in_of (again o _) (again p _) (u.holds _) (again q _) (v.holds _) (again y _) (w.holds us f);
      first = λ us. same refl;
    }

    for_in_fails : (us : Symbols) (t : RawForTarget) (h : ℕ) → Aim h t zs us → is_word word.In (look us).kind ≡ true → h < d → Fails (suc d) FT (s.for_in d n inner c (look xs).place t h us)
    unfolding r.for_in
    for_in_fails us t h m e lh = let q = worded word.In us e in
        fails_after (sound.expr true 0 (rest us) (omega arith)) (fails_map (λ j. suc (max (max h j) 0)) (λ j l. omega arith) (λ j i w. object_begun j m q w) (all.expr lt true 0 (rest us) (omega (arith, at_less o, at_less p, aim_less m, at_less q)) (omega arith))) (λ x vs x_is.
        let y = x_is.0.whole.tree in
        fails_after (expected mark.CloseParen vs) (expect_fails mark.CloseParen vs _ (omega arith) (whole_object m q y)) (λ _ ws w.
        fails_after (sound.stmt (in_loop c) ws) (fails_map (λ j. suc (max (max h x.1) j)) (λ j l. omega (arith, x_is.1)) (λ j i z. in_begun j m q y w z)
        (all.stmt lt (in_loop c) ws (omega (arith, at_less o, at_less p, aim_less m, at_less q, e_less y, at_less w)))) (λ b os z. fine)))

    for_vars_fails : (us ws : Symbols) (vs : List RawDeclarator) (h : ℕ) (b : Bool) → Reserved word.Var zs us → Declarators h false us vs ws → is_word word.In (look ws).kind ≡ b → h < d → Fails (suc d) FT (s.for_vars_by d n inner c (look xs).place vs h b ws)
    for_vars_fails us ws (v ∷ []) h true w m e lh = for_in_fails ws (raw.in_declared v.variable v.value) h (at_variable w (one_of _ v refl m)) e lh
    for_vars_fails us ws (v ∷ []) h false w m e lh = for_rest_fails ws (raw.init_vars (raw.declarators (v ∷ [])), h) (g.init_vars w m) lh
    for_vars_fails us ws [] h b w m e lh = absurd (one_at_least [] refl m)
    for_vars_fails us ws (u ∷ v ∷ vs) h b w m e lh = for_rest_fails ws (raw.init_vars (raw.declarators (u ∷ v ∷ vs)), h) (g.init_vars w m) lh

    for_value_fails : (x : Sized RawExpr) (us : Symbols) → E x.1 false 0 zs x.0 us → x.1 < d → (t : Option RawTarget) (b : Bool) → target_of x.0 ≡ t → is_word word.In (look us).kind ≡ b → Fails (suc d) FT (s.for_value_by d n inner c (look xs).place x t b us)
    for_value_fails x us m lx (Some t) true e f = for_in_fails us (raw.in_target t) x.1 (at_target (settable t e m) e) f lx
    for_value_fails x us m lx (Some t) false e f = for_rest_fails us (raw.init_value x.0, x.1) (g.init_value m) lx
    for_value_fails x us m lx None b e f = for_rest_fails us (raw.init_value x.0, x.1) (g.init_value m) lx

    -- what stands behind the parenthesis
    pub for_head_fails : Fails (suc d) FT (cond (is_word word.Var (look zs).kind)
        (λ i. and_then (s.declarators d n inner inner.expr false n [] 0 (rest i)) (λ vs j. s.for_vars_by d n inner c (look xs).place vs.0 vs.1 (is_word word.In (look j).kind) j))
        (cond (is_mark mark.Semicolon (look zs).kind) (s.for_rest d n inner c (look xs).place (raw.no_init, 0))
        (λ i. and_then (inner.expr false 0 i) (λ x j. s.for_value_by d n inner c (look xs).place x (target_of x.0) (is_word word.In (look j).kind) j))) zs)
    for_head_fails = fails_fork (is_word word.Var (look zs).kind) _ _
        (λ e. let w = worded word.Var zs e in fails_after (declarators_sound d inner.expr (inner_expr d n inner sound) d n inner false n [] 0 (rest zs) lt)
        (fails_map (λ j. suc (max (max j (max 0 0)) 0)) (λ j l. omega arith) (λ j i v. init_begun (record { front = joined (taken w) v.front; more = v.more; tree = raw.init_vars (raw.declarators v.tree); holds = λ us. g.init_vars (again w _) (v.holds us); first = λ us. same refl }))
        (declarators_fail d n d inner inner.expr (inner_expr d n inner sound) false (λ l us lm ll. all.expr lt false l us lm ll) lt n [] 0 (rest zs) (omega (arith, at_less o, at_less p, at_less w)) (omega (arith, at_less o, at_less p, at_less w))))
        (λ vs us q. for_vars_fails (rest zs) us vs.0 vs.1 (is_word word.In (look us).kind) w (whole_list q) refl q.low))
        (λ _. fails_fork (is_mark mark.Semicolon (look zs).kind) _ _ (λ _. for_rest_fails zs (raw.no_init, 0) g.no_init lt)
        (λ _. fails_after (sound.expr false 0 zs (omega arith))
        (fails_map (λ j. suc (max (max j (max 0 0)) 0)) (λ j l. omega arith) (λ j i v. init_begun (record { front = v.front; more = v.more; tree = raw.init_value v.tree; holds = λ us. g.init_value (v.holds us); first = v.first }))
        (all.expr lt false 0 zs (omega (arith, at_less o, at_less p)) (omega arith)))
        (λ x us q. for_value_fails x us q.0.whole.tree q.1 (target_of x.0) (is_word word.In (look us).kind) refl refl)))

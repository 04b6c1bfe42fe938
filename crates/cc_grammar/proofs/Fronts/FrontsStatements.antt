-- Where reading stops, what came before is a front: statements.
use Rattle.std.specs.Prelude.{◌≡◌, ℕ, suc, ◌<◌, ◌≤◌, max, ◌||◌, true, false, List, [], ◌∷◌}
use Rattle.std.proofs.Common.{refl, sym, ap, arith, ◌∙◌, subst}
use Rattle.std.proofs.lemmas.Slice.Eq.{bytes_eq-Decides}
use Rattle.cc_ast.specs.declared.place.Place.{Place}
use Rattle.cc_ast.specs.Syntax.{undefined}
use Rattle.cc_lexer.specs.declared.token.Mark.TheVariants as mark
use Rattle.cc_lexer.specs.declared.word.Word.TheVariants as word
use Rattle.cc_grammar.specs.Symbols.{Kind, Lexeme, Symbols, real, look, rest, nowhere, is_mark, is_word}
use Rattle.cc_grammar.specs.Symbols as k
use Rattle.cc_grammar.specs.RawTree.{RawExpr, RawStmt, RawCatch, RawFinally, Named, stmts, cases}
use Rattle.cc_grammar.specs.RawTree as raw
use Rattle.cc_grammar.specs.Grammar as g
use Rattle.cc_grammar.specs.Grammar.{Context, Labels, inside, in_loop, in_switch, labelled, is_among, At, Sign, Reserved, Variable, E, T, is_tail, opens_no_expression}
use Rattle.cc_grammar.specs.Reading.{Outcome, Sized, Start, and_then, semicolon_symbol, start_of, label_of, ends_return, is_some_label, is_remedy}
use Rattle.cc_grammar.specs.Reading as r
use Rattle.cc_grammar.proofs.Marked.{In, consumed, worded, expected, expected_word, ended, read_variable}
use Rattle.cc_grammar.proofs.Meets.{weaken, any_done}
use Rattle.cc_grammar.proofs.Shrinks.{reals, at_less, variable_less, t_less}
use Rattle.cc_grammar.proofs.Soundness.SoundParts.{SoundInner, whole_list}
use Rattle.cc_grammar.proofs.Soundness.SoundLists.{body_sound, function_sound}
use Rattle.cc_grammar.proofs.Soundness.SoundExpressions.{expr_sound}
use Rattle.cc_grammar.proofs.Soundness.SoundStatements.{InParens, head_sound, declarators_sound, SoundExpr}
use Rattle.cc_grammar.proofs.Moves.{Front, stays, joined, Fits, look_kept, kept_fits, no_tail}
use Rattle.cc_grammar.proofs.Moves as moves
use Rattle.cc_grammar.proofs.MovesDerived.{t_moves, declarators_move}
use Rattle.cc_grammar.proofs.Fails.{token, new_at, taken, again, variable_taken, variable_again, same, fresh, Spot, here, due, anew, put, Begun, EE, TT, Fails, fine, fails_after, fails_map, fails_fork, expect_fails, expect_word_fails, variable_fails, FailsInner}
use Rattle.cc_grammar.proofs.Fronts.FrontsLists.{CC, body_fails, UU, function_fails}
use Rattle.cc_grammar.proofs.Fronts.FrontsPrimary.{whole_e}
use Rattle.cc_grammar.proofs.Fronts.FrontsExpressions.{expr_fails}
use Rattle.cc_grammar.proofs.Fronts.FrontsClauses.{semicolon_fails, end_now, Started, none, some, started, DS, declarators_fail, HH, head_fails, head_moves, head_less, KK, all_clauses_fail}
use Rattle.cc_grammar.proofs.Fronts.FrontsFor.{for_head_fails}
use Rattle.cc_grammar.proofs.OnSymbols as s

-- ---- expression statements

-- nothing has come, but perhaps a part is due
from_nothing : (c : Context) {j : ℕ} {xs : Symbols} {i : Spot} (w : Begun (EE j true 0) xs i) → ((zs : Symbols) → w.front.go zs ≡ zs) → Begun (TT c j) xs i
from_nothing c {j} {i = here ys} w u = record {
  front = w.front;
  more = λ zs. real (token (k.due k.statement)) ∷ zs;
  tree = [];
  holds = λ zs _. subst (λ l. T c j l [] zs) (sym (u _)) (g.any_statement (new_at (k.due k.statement)));
  first = λ zs. fresh (ap (λ l. is_tail (look l).kind) (u _));
}
from_nothing c {j} {i = due p ys} w u = record {
  front = w.front;
  more = λ zs. w.more (real (token (k.mark mark.Semicolon)) ∷ zs);
  tree = raw.simple (look ys).place w.tree ∷ [];
  holds = λ zs _. subst (λ (z : Lexeme). T c j (w.front.go (put (due p ys) (w.more (real (token (k.mark mark.Semicolon)) ∷ zs)))) (raw.simple z.place w.tree ∷ []) zs) (ap look (u _))
      (g.simple (ap (λ l. opens_no_expression (look l).kind) (u _)) (w.holds _) end_now);
  first = λ zs. fresh (ap (λ l. is_tail (look l).kind) (u _));
}
from_nothing c {j} {i = anew t q us v ys} w u = record {
  front = w.front;
  more = λ zs. w.more (real (token (k.mark mark.Semicolon)) ∷ zs);
  tree = raw.simple t.place w.tree ∷ [];
  holds = λ zs _. subst (λ (z : Lexeme). T c j (w.front.go (put (anew t q us v ys) (w.more (real (token (k.mark mark.Semicolon)) ∷ zs)))) (raw.simple z.place w.tree ∷ []) zs) (ap look (u _))
      (g.simple (ap (λ l. opens_no_expression (look l).kind) (u _) ∙ ap opens_no_expression q) (w.holds _) end_now);
  first = λ zs. fresh (ap (λ l. is_tail (look l).kind) (u _) ∙ ap is_tail q);
}

pub simple_begun : (c : Context) {j : ℕ} {xs : Symbols} {i : Spot} → opens_no_expression (look xs).kind ≡ false → Begun (EE j true 0) xs i → Begun (TT c j) xs i
simple_begun c {j} {xs} {i} b w = by (started w.front) where
  by : Started w.front → Begun (TT c j) xs i
  by (none q u) = from_nothing c w u
  by (some kept) = record {
    front = w.front;
    more = λ zs. w.more (real (token (k.mark mark.Semicolon)) ∷ zs);
    tree = raw.simple (look xs).place w.tree ∷ [];
    holds = λ zs _. subst (λ (z : Lexeme). T c j (w.front.go (put i (w.more (real (token (k.mark mark.Semicolon)) ∷ zs)))) (raw.simple z.place w.tree ∷ []) zs) (kept _)
        (g.simple (ap (λ z. opens_no_expression z.kind) (kept _) ∙ b) (w.holds _) end_now);
    first = λ zs. w.first _;
  }

-- An expression that has begun, behind a token that allows no line end.
pub record OnLine (j : ℕ) (xs : Symbols) (i : Spot) : Type 0 where
  pub begun : Begun (EE j true 0) xs i
  pub line : (zs : Symbols) → (look (begun.front.go (put i (begun.more zs)))).after_line ≡ false

pub on_line : {j : ℕ} {xs : Symbols} {i : Spot} → (look xs).after_line ≡ false → Begun (EE j true 0) xs i → OnLine j xs i
on_line {j} {xs} {i} e w = by i w (started w.front) where
  by : (i : Spot) (w : Begun (EE j true 0) xs i) → Started w.front → OnLine j xs i
  by i w (some kept) = record { begun = w; line = λ zs. ap (λ z. z.after_line) (kept (put i (w.more zs))) ∙ e }
  by (due p ys) w (none q u) = record { begun = w; line = λ zs. ap (λ l. (look l).after_line) (u _) ∙ ap (λ l. (look l).after_line) (sym q) ∙ e }
  by (anew t r us v ys) w (none q u) = record { begun = w; line = λ zs. ap (λ l. (look l).after_line) (u _) ∙ ap (λ l. (look l).after_line) (sym q) ∙ e }
  by (here ys) w (none q u) = record {
    begun = record {
      front = w.front;
      more = λ zs. real (token (k.due k.operand)) ∷ zs;
      tree = raw.lit nowhere undefined;
      holds = λ zs. subst (λ l. E j true 0 l (raw.lit nowhere undefined) zs) (sym (u _)) (g.operand (new_at (k.due k.operand)));
      first = λ zs. fresh (ap (λ l. is_tail (look l).kind) (u _));
    };
    line = λ zs. ap (λ l. (look l).after_line) (u _);
  }

no_else : (x : Kind) → is_tail x ≡ false → is_word word.Else x ≡ false
no_else x e = no_tail word.Else x refl e

pub no_finally : (x : Kind) → is_tail x ≡ false → is_word word.Finally x ≡ false
no_finally x e = no_tail word.Finally x refl e

-- a label that is open, where there is one
pub first_label : (ls : Labels) → is_some_label ls ≡ true → (v : List ℕ) × (is_among v ls ≡ true)
first_label [] e = let no : false ≡ true = e in absurd (cc)
first_label (l ∷ ls) e = (l, ap (λ b. b || is_among l ls) ((bytes_eq-Decides l l).1 refl))

module _ (d n : ℕ) (inner : In) (sound : SoundInner d inner) (all : FailsInner d n inner) where
  abbrev pub ST : Context → Symbols → ℕ → Spot → Type 0
  ST c xs j i = Begun (TT c j) xs i

  pub simple_fails : (c : Context) (xs : Symbols) (p : Place) (x : Sized RawExpr) (ys : Symbols) → opens_no_expression (look xs).kind ≡ false → E x.1 true 0 xs x.0 ys → x.1 ≤ d → Fails (suc d) (ST c xs) (s.simple d n inner p x ys)
  simple_fails c xs p x ys b t le = fails_after (ended ys) (semicolon_fails ys x.1 (omega arith) (simple_begun c b (whole_e t))) (λ _ zs q. fine)

  pub plain_fails : (c : Context) (xs : Symbols) → reals xs < n → opens_no_expression (look xs).kind ≡ false → Fails (suc d) (ST c xs) (s.plain d n inner xs)
  unfolding r.plain
  plain_fails c xs ln b = fails_after (expr_sound d n inner sound true 0 xs (omega arith)) (fails_map (λ j. j) (λ j l. l) (λ j i w. simple_begun c b w) (expr_fails d n inner sound all true 0 xs ln (omega arith)))
      (λ x ys p. simple_fails c xs (look xs).place x ys b p.whole.tree p.whole.low)

  -- ---- variables, blocks and functions

  vars_begun : (c : Context) (j : ℕ) {xs ys : Symbols} {i : Spot} → Reserved word.Var xs ys → Begun (DS true j) ys i → ST c xs j i
  vars_begun c j {xs} o w = record {
    front = joined (taken o) w.front;
    more = λ zs. w.more (real (token (k.mark mark.Semicolon)) ∷ zs);
    tree = raw.vars (look xs).place (raw.declarators w.tree) ∷ [];
    holds = λ zs _. g.vars (again o _) (w.holds _) end_now;
    first = λ zs. same refl;
  }

  pub vars_fail : (c : Context) (xs : Symbols) → reals xs < n → (look xs).kind ≡ k.word word.Var → Fails (suc d) (ST c xs) (s.vars d n inner xs)
  unfolding r.vars
  vars_fail c xs ln e = let o = consumed xs (k.word word.Var) refl e in
      let sounds : SoundExpr (suc d) (s.expr_of d n inner) = record { is = λ b l ys ll. weaken (expr_sound d n inner sound b l ys ll) (λ a zs p. (p.whole.tree, omega (arith, p.whole.low))) } in
      fails_after (declarators_sound (suc d) (s.expr_of d n inner) sounds d n inner true n [] 0 (rest xs) (omega arith))
      (fails_map (λ j. j) (λ j l. l) (λ j i w. vars_begun c j o w) (declarators_fail (suc d) n d inner (s.expr_of d n inner) sounds true (λ l ys lm ll. expr_fails d n inner sound all true l ys lm ll) (omega arith) n [] 0 (rest xs) (omega (arith, at_less o)) (omega (arith, at_less o))))
      (λ vs ys p. let m = declarators_move (whole_list p) in fails_after (ended ys) (semicolon_fails ys vs.1 (omega arith) (record {
        front = joined (taken o) m.front;
        more = λ zs. real (token (k.mark mark.Semicolon)) ∷ zs;
        tree = raw.vars (look xs).place (raw.declarators vs.0) ∷ [];
        holds = λ zs _. g.vars (again o _) (m.holds _) end_now;
        first = λ zs. same refl;
      })) (λ _ zs q. fine))

  pub block_begun : (c : Context) (j : ℕ) {xs ys : Symbols} {i : Spot} → Sign mark.OpenBrace xs ys → Begun (CC (inside c) j) ys i → ST c xs (suc j) i
  block_begun c j o w = record { front = joined (taken o) w.front; more = w.more; tree = w.tree; holds = λ zs _. g.block (omega arith) (again o _) (w.holds zs).body (w.holds zs).close; first = λ zs. same refl }

  pub block_fails : (c : Context) (xs : Symbols) → Sign mark.OpenBrace xs (rest xs) → 0 < d → reals xs < n → Fails (suc d) (ST c xs) (s.block d n inner c xs)
  unfolding r.block
  block_fails c xs o lt ln = fails_after (body_sound d n inner sound (inside c) (rest xs) lt) (fails_map suc (λ j l. omega arith) (λ j i w. block_begun c j o w) (body_fails d n inner sound all (inside c) (rest xs) lt (omega (arith, at_less o)))) (λ b ys p. fine)

  declare_begun : (c : Context) (j : ℕ) {v : List ℕ} {xs ys zs : Symbols} {i : Spot} → c.declares ≡ true → Reserved word.Function xs ys → Variable ys v zs → Begun (UU j) zs i → ST c xs (suc j) i
  declare_begun c j {v} {xs} {ys} a o q w = record {
    front = joined (taken o) (joined (variable_taken q) w.front);
    more = w.more;
    tree = raw.fun_decl (look xs).place (record { place = (look ys).place; name = v }) w.tree.0 (stmts w.tree.1) ∷ [];
    holds = λ zs _. g.declare a (omega arith) (again o _) (variable_again q _) (w.holds zs);
    first = λ zs. same refl;
  }

  pub declare_word : (c : Context) {xs ys : Symbols} → c.declares ≡ true → Reserved word.Function xs ys → ST c xs 1 (here ys)
  declare_word c {xs} a o = record {
    front = taken o;
    more = λ zs. real (token (k.due k.variable)) ∷ real (token (k.mark mark.OpenParen)) ∷ real (token (k.mark mark.CloseParen)) ∷ real (token (k.mark mark.OpenBrace)) ∷ real (token (k.mark mark.CloseBrace)) ∷ zs;
    tree = raw.fun_decl (look xs).place (record { place = nowhere; name = [] }) [] (stmts []) ∷ [];
    holds = λ zs _. g.declare {h = 0} a (omega arith) (again o _) (g.any_variable (new_at (k.due k.variable))) (g.function_body (new_at (k.mark mark.OpenParen)) (g.no_params (new_at (k.mark mark.CloseParen))) (new_at (k.mark mark.OpenBrace)) g.done (new_at (k.mark mark.CloseBrace)));
    first = λ zs. same refl;
  }

  -- whose name is due
  declare_name : (c : Context) {xs ys : Symbols} → c.declares ≡ true → Reserved word.Function xs ys → ST c xs 1 (due k.variable ys)
  declare_name c {xs} {ys} a o = record {
    front = taken o;
    more = λ zs. real (token (k.mark mark.OpenParen)) ∷ real (token (k.mark mark.CloseParen)) ∷ real (token (k.mark mark.OpenBrace)) ∷ real (token (k.mark mark.CloseBrace)) ∷ zs;
    tree = raw.fun_decl (look xs).place (record { place = (look ys).place; name = [] }) [] (stmts []) ∷ [];
    holds = λ zs _. g.declare {h = 0} a (omega arith) (again o _) (g.any_variable (g.at_token _ refl)) (g.function_body (new_at (k.mark mark.OpenParen)) (g.no_params (new_at (k.mark mark.CloseParen))) (new_at (k.mark mark.OpenBrace)) g.done (new_at (k.mark mark.CloseBrace)));
    first = λ zs. same refl;
  }

  pub declaration_fails : (c : Context) (xs : Symbols) → c.declares ≡ true → Reserved word.Function xs (rest xs) → 0 < d → reals xs < n → Fails (suc d) (ST c xs) (s.declaration d n inner xs)
  unfolding r.declaration
  declaration_fails c xs a o lt ln = fails_after (read_variable (rest xs)) (variable_fails (rest xs) 1 (omega arith) (declare_word c a o) (declare_name c a o)) (λ v ys q.
      fails_after (function_sound d n inner sound ys lt) (fails_map suc (λ j l. omega arith) (λ j i w. declare_begun c j a o q.0 w) (function_fails d n inner sound all ys lt (omega (arith, at_less o, variable_less q.0)))) (λ f zs p. fine))

  -- ---- `if`

  pub condition_begun : (c : Context) (j : ℕ) {xs ys : Symbols} {i : Spot} → Reserved word.If xs ys → Begun (HH j) ys i → ST c xs (suc (max j 0)) i
  condition_begun c j {xs} o w = record {
    front = joined (taken o) w.front;
    more = λ zs. w.more (real (token (k.due k.statement)) ∷ zs);
    tree = raw.if (look xs).place w.tree (stmts []) raw.no_stmts ∷ [];
    holds = λ zs f. let h = w.holds (real (token (k.due k.statement)) ∷ zs) in g.if_only {i = 0} (omega arith) (omega arith) (again o _) h.opening h.tree h.closing (g.any_statement (new_at (k.due k.statement))) (no_else (look zs).kind f);
    first = λ zs. same refl;
  }

  then_begun : (c : Context) {x : Sized RawExpr} (j : ℕ) {xs ys zs : Symbols} {i : Spot} → Reserved word.If xs ys → InParens d n inner sound ys x zs → Begun (TT (inside c) j) zs i → ST c xs (suc (max x.1 j)) i
  then_begun c {x} j {xs} {i} o p w = let m = head_moves d n inner sound all p in record {
    front = joined (taken o) (joined m.front w.front);
    more = w.more;
    tree = raw.if (look xs).place x.0 (stmts w.tree) raw.no_stmts ∷ [];
    holds = λ zs f. let h = m.holds (w.front.go (put i (w.more zs))) in g.if_only (omega arith) (omega arith) (again o _) h.opening h.tree h.closing (w.holds zs f) (no_else (look zs).kind f);
    first = λ zs. same refl;
  }

  else_begun : (c : Context) {x : Sized RawExpr} {a : Sized (List RawStmt)} (j : ℕ) {xs ys zs us vs : Symbols} {i : Spot} → Reserved word.If xs ys → InParens d n inner sound ys x zs → T (inside c) a.1 zs a.0 us → Reserved word.Else us vs → Begun (TT (inside c) j) vs i
      → ST c xs (suc (max x.1 (max a.1 j))) i
  else_begun c {x} {a} j {xs} {us} {i} o p t u w = let m = head_moves d n inner sound all p in let v = t_moves t in
      record {
        front = joined (taken o) (joined m.front (joined v.front (joined (taken u) w.front)));
        more = w.more;
        tree = raw.if (look xs).place x.0 (stmts a.0) (stmts w.tree) ∷ [];
        holds = λ zs f. let h = m.holds (v.front.go (real (look us) ∷ w.front.go (put i (w.more zs)))) in g.if_else (omega arith) (omega arith) (omega arith) (again o _) h.opening h.tree h.closing (v.holds _ (moves.same refl)) (again u _) (w.holds zs f);
        first = λ zs. same refl;
      }

  pub choice_fails : (c : Context) (xs : Symbols) → Reserved word.If xs (rest xs) → 0 < d → reals xs < n → Fails (suc d) (ST c xs) (s.choice d n inner c xs)
  unfolding r.choice r.otherwise
  choice_fails c xs o lt ln = fails_after (head_sound d n inner sound (rest xs)) (fails_map (λ j. suc (max j 0)) (λ j l. omega arith) (λ j i w. condition_begun c j o w) (head_fails d n inner sound all (rest xs) lt (omega (arith, at_less o)))) (λ x ys p.
      fails_after (sound.stmt (inside c) ys) (fails_map (λ j. suc (max x.1 j)) (λ j l. omega (arith, p.low)) (λ j i w. then_begun c j o p w) (all.stmt lt (inside c) ys (omega (arith, at_less o, head_less d n inner sound all p)))) (λ a zs q.
      fails_fork (is_word word.Else (look zs).kind) _ _
      (λ e. let u = worded word.Else zs e in fails_after (sound.stmt (inside c) (rest zs)) (fails_map (λ j. suc (max x.1 (max a.1 j))) (λ j l. omega (arith, p.low, q.1)) (λ j i w. else_begun c j o p q.0.tree u w)
      (all.stmt lt (inside c) (rest zs) (omega (arith, at_less o, head_less d n inner sound all p, t_less q.0.tree, at_less u)))) (λ b ws v. fine))
      (λ _. fine)))

  -- ---- loops

  pub loop_begun : (c : Context) (j : ℕ) {xs ys : Symbols} {i : Spot} → Reserved word.While xs ys → Begun (HH j) ys i → ST c xs (suc (max j 0)) i
  loop_begun c j {xs} o w = record {
    front = joined (taken o) w.front;
    more = λ zs. w.more (real (token (k.due k.statement)) ∷ zs);
    tree = raw.while (look xs).place w.tree (stmts []) ∷ [];
    holds = λ zs f. let h = w.holds (real (token (k.due k.statement)) ∷ zs) in g.while {i = 0} (omega arith) (omega arith) (again o _) h.opening h.tree h.closing (g.any_statement (new_at (k.due k.statement)));
    first = λ zs. same refl;
  }

  while_begun : (c : Context) {x : Sized RawExpr} (j : ℕ) {xs ys zs : Symbols} {i : Spot} → Reserved word.While xs ys → InParens d n inner sound ys x zs → Begun (TT (in_loop c) j) zs i → ST c xs (suc (max x.1 j)) i
  while_begun c {x} j {xs} {i} o p w = let m = head_moves d n inner sound all p in record {
    front = joined (taken o) (joined m.front w.front);
    more = w.more;
    tree = raw.while (look xs).place x.0 (stmts w.tree) ∷ [];
    holds = λ zs f. let h = m.holds (w.front.go (put i (w.more zs))) in g.while (omega arith) (omega arith) (again o _) h.opening h.tree h.closing (w.holds zs f);
    first = λ zs. same refl;
  }

  pub while_fails : (c : Context) (xs : Symbols) → Reserved word.While xs (rest xs) → 0 < d → reals xs < n → Fails (suc d) (ST c xs) (s.while d n inner c xs)
  unfolding r.while
  while_fails c xs o lt ln = fails_after (head_sound d n inner sound (rest xs)) (fails_map (λ j. suc (max j 0)) (λ j l. omega arith) (λ j i w. loop_begun c j o w) (head_fails d n inner sound all (rest xs) lt (omega (arith, at_less o)))) (λ x ys p.
      fails_after (sound.stmt (in_loop c) ys) (fails_map (λ j. suc (max x.1 j)) (λ j l. omega (arith, p.low)) (λ j i w. while_begun c j o p w) (all.stmt lt (in_loop c) ys (omega (arith, at_less o, head_less d n inner sound all p)))) (λ b zs q. fine))

  pub do_begun : (c : Context) (j : ℕ) {xs ys : Symbols} {i : Spot} → Reserved word.Do xs ys → Begun (TT (in_loop c) j) ys i → ST c xs (suc (max j 0)) i
  do_begun c j {xs} o w = record {
    front = joined (taken o) w.front;
    more = λ zs. w.more (real (token (k.word word.While)) ∷ real (token (k.mark mark.OpenParen)) ∷ real (token (k.due k.operand)) ∷ real (token (k.mark mark.CloseParen)) ∷ real (token (k.mark mark.Semicolon)) ∷ zs);
    tree = raw.do_while (look xs).place (stmts w.tree) (raw.lit nowhere undefined) ∷ [];
    holds = λ zs f. g.do_while {i = 0} (omega arith) (omega arith) (again o _) (w.holds _ refl) (new_at (k.word word.While)) (new_at (k.mark mark.OpenParen)) (g.operand (new_at (k.due k.operand))) (new_at (k.mark mark.CloseParen)) end_now;
    first = λ zs. same refl;
  }

  done_begun : (c : Context) {b : Sized (List RawStmt)} {xs ys zs : Symbols} → Reserved word.Do xs ys → T (in_loop c) b.1 ys b.0 zs → ST c xs (suc (max b.1 0)) (here zs)
  done_begun c {b} {xs} o t = let m = t_moves t in record {
    front = joined (taken o) m.front;
    more = λ zs. real (token (k.word word.While)) ∷ real (token (k.mark mark.OpenParen)) ∷ real (token (k.due k.operand)) ∷ real (token (k.mark mark.CloseParen)) ∷ real (token (k.mark mark.Semicolon)) ∷ zs;
    tree = raw.do_while (look xs).place (stmts b.0) (raw.lit nowhere undefined) ∷ [];
    holds = λ zs f. g.do_while {i = 0} (omega arith) (omega arith) (again o _) (m.holds _ (moves.free refl)) (new_at (k.word word.While)) (new_at (k.mark mark.OpenParen)) (g.operand (new_at (k.due k.operand))) (new_at (k.mark mark.CloseParen)) end_now;
    first = λ zs. same refl;
  }

  until_begun : (c : Context) {b : Sized (List RawStmt)} (j : ℕ) {xs ys zs us : Symbols} {i : Spot} → Reserved word.Do xs ys → T (in_loop c) b.1 ys b.0 zs → Reserved word.While zs us → Begun (HH j) us i → ST c xs (suc (max b.1 j)) i
  until_begun c {b} j {xs} o t u w = let m = t_moves t in record {
    front = joined (taken o) (joined m.front (joined (taken u) w.front));
    more = λ zs. w.more (real (token (k.mark mark.Semicolon)) ∷ zs);
    tree = raw.do_while (look xs).place (stmts b.0) w.tree ∷ [];
    holds = λ zs f. let h = w.holds (real (token (k.mark mark.Semicolon)) ∷ zs) in g.do_while (omega arith) (omega arith) (again o _) (m.holds _ (moves.same refl)) (again u _) h.opening h.tree h.closing end_now;
    first = λ zs. same refl;
  }

  pub do_while_fails : (c : Context) (xs : Symbols) → Reserved word.Do xs (rest xs) → 0 < d → reals xs < n → Fails (suc d) (ST c xs) (s.do_while d n inner c xs)
  unfolding r.do_while
  do_while_fails c xs o lt ln = fails_after (sound.stmt (in_loop c) (rest xs)) (fails_map (λ j. suc (max j 0)) (λ j l. omega arith) (λ j i w. do_begun c j o w) (all.stmt lt (in_loop c) (rest xs) (omega (arith, at_less o)))) (λ b ys p. let t = p.0.tree in
      fails_after (expected_word word.While ys) (expect_word_fails word.While ys _ (omega arith) (done_begun c o t)) (λ _ zs u.
      fails_after (head_sound d n inner sound zs) (fails_map (λ j. suc (max b.1 j)) (λ j l. omega (arith, p.1)) (λ j i w. until_begun c j o t u w) (head_fails d n inner sound all zs lt (omega (arith, at_less o, t_less t, at_less u)))) (λ x us q.
      let m = t_moves t in let h = head_moves d n inner sound all q in
      fails_after (ended us) (semicolon_fails us (suc (max b.1 x.1)) (omega arith) (record {
        front = joined (taken o) (joined m.front (joined (taken u) h.front));
        more = λ zs. real (token (k.mark mark.Semicolon)) ∷ zs;
        tree = raw.do_while (look xs).place (stmts b.0) x.0 ∷ [];
        holds = λ zs f. let v = h.holds (real (token (k.mark mark.Semicolon)) ∷ zs) in g.do_while (omega arith) (omega arith) (again o _) (m.holds _ (moves.same refl)) (again u _) v.opening v.tree v.closing end_now;
        first = λ zs. same refl;
      })) (λ _ ws e. fine))))

  pub for_open : (c : Context) {xs ys : Symbols} → Reserved word.For xs ys → ST c xs 1 (here ys)
  for_open c {xs} o = record {
    front = taken o;
    more = λ zs. real (token (k.mark mark.OpenParen)) ∷ real (token (k.mark mark.Semicolon)) ∷ real (token (k.mark mark.Semicolon)) ∷ real (token (k.mark mark.CloseParen)) ∷ real (token (k.due k.statement)) ∷ zs;
    tree = raw.for (look xs).place raw.no_init raw.no_expr raw.no_expr (stmts []) ∷ [];
    holds = λ zs f. g.for {h = 0} {i = 0} (omega arith) (omega arith) (again o _) (new_at (k.mark mark.OpenParen)) g.no_init (new_at (k.mark mark.Semicolon)) g.absent (new_at (k.mark mark.Semicolon)) g.absent (new_at (k.mark mark.CloseParen)) (g.any_statement (new_at (k.due k.statement)));
    first = λ zs. same refl;
  }

  pub for_fails : (c : Context) (xs : Symbols) → Reserved word.For xs (rest xs) → 0 < d → reals xs < n → Fails (suc d) (ST c xs) (s.for d n inner c xs)
  unfolding r.for
  for_fails c xs o lt ln = fails_after (expected mark.OpenParen (rest xs)) (expect_fails mark.OpenParen (rest xs) 1 (omega arith) (for_open c o)) (λ _ ys p. for_head_fails d n inner sound all c xs o p lt ln)

  -- ---- `switch`

  pub switch_begun : (c : Context) (j : ℕ) {xs ys : Symbols} {i : Spot} → Reserved word.Switch xs ys → Begun (HH j) ys i → ST c xs (suc (max j 0)) i
  switch_begun c j {xs} o w = record {
    front = joined (taken o) w.front;
    more = λ zs. w.more (real (token (k.mark mark.OpenBrace)) ∷ real (token (k.mark mark.CloseBrace)) ∷ zs);
    tree = raw.switch (look xs).place w.tree (cases []) ∷ [];
    holds = λ zs f. let h = w.holds (real (token (k.mark mark.OpenBrace)) ∷ real (token (k.mark mark.CloseBrace)) ∷ zs) in
        g.switch {i = 0} (omega arith) (omega arith) (again o _) h.opening h.tree h.closing (new_at (k.mark mark.OpenBrace)) (g.no_case (new_at (k.mark mark.CloseBrace)));
    first = λ zs. same refl;
  }

  subject_begun : (c : Context) {x : Sized RawExpr} {xs ys zs : Symbols} → Reserved word.Switch xs ys → InParens d n inner sound ys x zs → ST c xs (suc (max x.1 0)) (here zs)
  subject_begun c {x} {xs} o p = let m = head_moves d n inner sound all p in record {
    front = joined (taken o) m.front;
    more = λ zs. real (token (k.mark mark.OpenBrace)) ∷ real (token (k.mark mark.CloseBrace)) ∷ zs;
    tree = raw.switch (look xs).place x.0 (cases []) ∷ [];
    holds = λ zs f. let h = m.holds (real (token (k.mark mark.OpenBrace)) ∷ real (token (k.mark mark.CloseBrace)) ∷ zs) in
        g.switch {i = 0} (omega arith) (omega arith) (again o _) h.opening h.tree h.closing (new_at (k.mark mark.OpenBrace)) (g.no_case (new_at (k.mark mark.CloseBrace)));
    first = λ zs. same refl;
  }

  cases_begun : (c : Context) {x : Sized RawExpr} (j : ℕ) {xs ys zs us : Symbols} {i : Spot} → Reserved word.Switch xs ys → InParens d n inner sound ys x zs → Sign mark.OpenBrace zs us → Begun (KK (in_switch c) j false) us i → ST c xs (suc (max x.1 j)) i
  cases_begun c {x} j {xs} {zs = ws} {i} o p q w = let m = head_moves d n inner sound all p in record {
    front = joined (taken o) (joined m.front (joined (taken q) w.front));
    more = w.more;
    tree = raw.switch (look xs).place x.0 (cases w.tree) ∷ [];
    holds = λ zs f. let h = m.holds (real (look ws) ∷ w.front.go (put i (w.more zs))) in g.switch (omega arith) (omega arith) (again o _) h.opening h.tree h.closing (again q _) (w.holds zs);
    first = λ zs. same refl;
  }

  pub switch_fails : (c : Context) (xs : Symbols) → Reserved word.Switch xs (rest xs) → 0 < d → reals xs < n → Fails (suc d) (ST c xs) (s.switch d n inner c xs)
  unfolding r.switch
  switch_fails c xs o lt ln = fails_after (head_sound d n inner sound (rest xs)) (fails_map (λ j. suc (max j 0)) (λ j l. omega arith) (λ j i w. switch_begun c j o w) (head_fails d n inner sound all (rest xs) lt (omega (arith, at_less o)))) (λ x ys p.
      fails_after (expected mark.OpenBrace ys) (expect_fails mark.OpenBrace ys _ (omega arith) (subject_begun c o p)) (λ _ zs q.
      fails_after (any_done (s.clauses d n inner (in_switch c) n false [] 0 zs)) (fails_map (λ j. suc (max x.1 j)) (λ j l. omega (arith, p.low)) (λ j i w. cases_begun c j o p q w)
      (all_clauses_fail d n inner sound all (in_switch c) zs lt (omega (arith, at_less o, head_less d n inner sound all p, at_less q)))) (λ cs ws s. fine)))

-- The readers of symbols and of tokens go alike: the parts of statements, and statements with bodies.
use Rattle.std.specs.Prelude.{ℕ, zero, suc, ◌<◌, max, Bool, true, false, List, [], ◌∷◌, ◌++◌, Ok, Option, Some, None}
use Rattle.std.proofs.Common.{refl}
use Rattle.cc_ast.specs.declared.place.Place.{Place}
use Rattle.cc_lexer.specs.declared.token.Mark.{Mark}
use Rattle.cc_lexer.specs.declared.token.Mark.TheVariants as mark
use Rattle.cc_lexer.specs.declared.word.Word.TheVariants as word
use Rattle.cc_grammar.specs.Symbols.{Lexeme, real, look, is_mark, is_word}
use Rattle.cc_grammar.specs.RawTree.{RawExpr, RawTarget, RawStmt, RawDeclarator, RawInit, stmts}
use Rattle.cc_grammar.specs.RawTree as raw
use Rattle.cc_grammar.specs.Signs.{target_of}
use Rattle.cc_grammar.specs.Grammar.{Context, inside, in_loop}
use Rattle.cc_grammar.specs.Reading.{Outcome, Sized, look_token, semicolon_symbol, semicolon_token}
use Rattle.cc_grammar.specs.Reading as r
use Rattle.cc_grammar.proofs.Marked.{In}
use Rattle.cc_grammar.proofs.Copying.Copies.{L, Bars, Copies, Quiet, Shows, Head, goes, Starts, started, relaxed, relaxed_start}
use Rattle.cc_grammar.proofs.Copying.CopySteps.{quiet, shows, bars_after, copies_after, copies_then, goes_after, starts_after, copies_pure, Chosen, by_token, by_taking, by_none, absent, decide, fork, fork_shows, split, at_end, head_of_start, copies_first, stops_here, expects, expects_word, expect_bar, copies_semicolon}
use Rattle.cc_grammar.proofs.Copying.CopyLists.{CopyInner, BarsInner, variable_copy, body_copy}
use Rattle.cc_grammar.proofs.OnSymbols as s
use Rattle.cc_grammar.proofs.OnTokens as t

-- readers of expressions that go alike
pub record CopyExpr (expr : Bool → ℕ → s.Reader (Sized RawExpr)) (other : Bool → ℕ → t.Reader (Sized RawExpr)) : Type 0 where
  pub is : (n : Bool) (l : ℕ) (ts : L) → Starts true Quiet (expr n l) ts (other n l ts)

-- the end of a statement
pub ended_copy : {A : Type 0} (a : A) (ts : L) → Copies false Quiet (λ xs. r.and_then (semicolon_symbol xs) (λ _ i. Ok (a, i))) ts (r.and_then (semicolon_token ts) (λ _ i. Ok (a, i)))
ended_copy a ts = copies_after _ _ quiet (copies_semicolon ts) (λ _ us. copies_pure false a us)

module _ (d turns : ℕ) (inner : In) (outer : t.In) (expr : Bool → ℕ → s.Reader (Sized RawExpr)) (other : Bool → ℕ → t.Reader (Sized RawExpr)) (same : CopyExpr expr other) where
  declarator_copy : (n : Bool) (ts : L) → Starts true Quiet (s.declarator d turns inner expr n) ts (t.declarator d turns outer other n ts)
  unfolding r.declarator
  declarator_copy n ts = starts_after _ _ quiet (variable_copy true ts) (λ v us. fork (λ w. is_mark mark.Equal w.kind) _ _ _ _ us quiet
      (λ _. by_taking absent (λ w vs _. goes (copies_after _ _ quiet (started (same.is n 1 vs)) (λ x os. copies_pure true _ os))))
      (λ _. by_none refl (copies_pure true _ us)))

  pub declarators_copy : (n : Bool) (m : ℕ) (before : List RawDeclarator) (h : ℕ) (ts : L) → Starts true Quiet (s.declarators d turns inner expr n m before h) ts (t.declarators d turns outer other n m before h ts)
  unfolding r.declarators
  declarators_copy n zero before h ts = stops_here true r.spent refl ts
  declarators_copy n (suc m) before h ts = starts_after _ _ quiet (declarator_copy n ts) (λ x us. fork (λ w. is_mark mark.Comma w.kind) _ _ _ _ us quiet
      (λ _. by_taking absent (λ w vs _. goes (started (declarators_copy n m (before ++ x.0 ∷ []) (max h x.1) vs))))
      (λ _. by_none refl (copies_pure true _ us)))

module _ (d turns : ℕ) (inner : In) (outer : t.In) (alike : CopyInner inner outer) (bars : BarsInner inner) (some : 0 < turns) where
  pub block_copy : (c : Context) (w : Lexeme) (us : L) → Head true false Quiet (λ xs. s.block d turns inner c (real w ∷ xs)) w us (t.block d turns outer c (w ∷ us))
  unfolding r.block
  block_copy c w us = goes (copies_after _ _ quiet (body_copy d turns inner outer alike bars some (inside c) us) (λ b vs. copies_pure false _ vs))

  -- an expression in parentheses
  pub head_copy : (ts : L) → Starts true Quiet (s.head d turns inner) ts (t.head d turns outer ts)
  unfolding r.head
  head_copy ts = starts_after _ _ quiet (expects true mark.OpenParen ts) (λ _ us. copies_after _ _ quiet (started (alike.expr true 0 us)) (λ x vs. copies_after _ _ quiet (started (expects true mark.CloseParen vs)) (λ _ ws. copies_pure true x ws)))

  otherwise_copy : (c : Context) (p : Place) (e : Sized RawExpr) (a : Sized (List RawStmt)) (ts : L) → Copies false Quiet (s.otherwise d turns inner c p e a) ts (t.otherwise d turns outer c p e a ts)
  unfolding r.otherwise
  otherwise_copy c p e a ts = fork (λ w. is_word word.Else w.kind) _ _ _ _ ts quiet
      (λ _. by_taking absent (λ w us _. goes (copies_after _ _ quiet (started (alike.stmt (inside c) us)) (λ b vs. copies_pure false _ vs))))
      (λ _. by_none refl (copies_pure false _ ts))

  pub choice_copy : (c : Context) (w : Lexeme) (us : L) → Head true false Quiet (λ xs. s.choice d turns inner c (real w ∷ xs)) w us (t.choice d turns outer c (w ∷ us))
  unfolding r.choice
  choice_copy c w us = goes (copies_after _ _ quiet (relaxed false (started (head_copy us))) (λ e vs. copies_after _ _ quiet (started (alike.stmt (inside c) vs)) (λ a ws. otherwise_copy c w.place e a ws)))

  pub do_while_copy : (c : Context) (w : Lexeme) (us : L) → Head true false Quiet (λ xs. s.do_while d turns inner c (real w ∷ xs)) w us (t.do_while d turns outer c (w ∷ us))
  unfolding r.do_while
  do_while_copy c w us = goes (copies_after _ _ quiet (started (alike.stmt (in_loop c) us)) (λ b vs. copies_after _ _ quiet (started (expects_word false word.While vs)) (λ _ ws.
      copies_after _ _ quiet (relaxed false (started (head_copy ws))) (λ e os. ended_copy _ os))))

  pub while_copy : (c : Context) (w : Lexeme) (us : L) → Head true false Quiet (λ xs. s.while d turns inner c (real w ∷ xs)) w us (t.while d turns outer c (w ∷ us))
  unfolding r.while
  while_copy c w us = goes (copies_after _ _ quiet (relaxed false (started (head_copy us))) (λ e vs. copies_after _ _ quiet (started (alike.stmt (in_loop c) vs)) (λ b ws. copies_pure false _ ws)))

  -- ---- `for`

  optional_copy : (m : Mark) (ts : L) → Copies false Shows (s.optional d turns inner m) ts (t.optional d turns outer m ts)
  unfolding r.optional
  optional_copy m ts = fork_shows (λ w. is_mark m w.kind) (raw.no_expr, 0) _ _ ts refl (bars_after (inner.expr true 0) _ (bars.expr true 0)) (λ _. started (starts_after _ _ shows (relaxed_start false (alike.expr true 0 ts)) (λ x us. copies_pure false _ us)))

  for_rest_copy : (c : Context) (p : Place) (a : Sized RawInit) (ts : L) → Starts false Quiet (s.for_rest d turns inner c p a) ts (t.for_rest d turns outer c p a ts)
  unfolding r.for_rest
  for_rest_copy c p a ts = starts_after _ _ quiet (expects false mark.Semicolon ts) (λ _ us. copies_then _ _ quiet (optional_copy mark.Semicolon us) (λ e vs. starts_after _ _ quiet (expects false mark.Semicolon vs) (λ _ ws.
      copies_then _ _ quiet (optional_copy mark.CloseParen ws) (λ f os. starts_after _ _ quiet (expects false mark.CloseParen os) (λ _ rs. copies_after _ _ quiet (started (alike.stmt (in_loop c) rs)) (λ b ps. copies_pure false _ ps))))))

  for_in_copy : (c : Context) (p : Place) (g : raw.RawForTarget) (h : ℕ) (w : Lexeme) (us : L) → Copies false Quiet (λ xs. s.for_in d turns inner c p g h (real w ∷ xs)) us (t.for_in d turns outer c p g h (w ∷ us))
  unfolding r.for_in
  for_in_copy c p g h w us = copies_after _ _ quiet (relaxed false (started (alike.expr true 0 us))) (λ e vs. copies_after _ _ quiet (started (expects false mark.CloseParen vs)) (λ _ ws. copies_after _ _ quiet (started (alike.stmt (in_loop c) ws)) (λ b os. copies_pure false _ os)))

  for_rest_bar : (c : Context) (p : Place) (a : Sized RawInit) → Bars (s.for_rest d turns inner c p a)
  unfolding r.for_rest
  for_rest_bar c p a = bars_after (s.expect mark.Semicolon) _ (expect_bar mark.Semicolon)

  for_vars_copy : (c : Context) (p : Place) (vs : List RawDeclarator) (h : ℕ) (ts : L) (v : Bool)
      → Chosen false Quiet (λ w. is_word word.In w.kind) v (s.for_vars_by d turns inner c p vs h v) (s.for_vars_by d turns inner c p vs h false) (t.for_vars_by d turns outer c p vs h v) ts
  for_vars_copy c p (v ∷ []) h ts true = by_taking absent (λ w us _. goes (for_in_copy c p _ h w us))
  for_vars_copy c p (v ∷ []) h ts false = by_token (for_rest_copy c p _ ts) (for_rest_bar c p _)
  for_vars_copy c p [] h ts b = by_token (for_rest_copy c p _ ts) (for_rest_bar c p _)
  for_vars_copy c p (u ∷ v ∷ vs) h ts b = by_token (for_rest_copy c p _ ts) (for_rest_bar c p _)

  for_value_copy : (c : Context) (p : Place) (x : Sized RawExpr) (g : Option RawTarget) (ts : L) (v : Bool)
      → Chosen false Quiet (λ w. is_word word.In w.kind) v (s.for_value_by d turns inner c p x g v) (s.for_value_by d turns inner c p x g false) (t.for_value_by d turns outer c p x g v) ts
  for_value_copy c p x (Some g) ts true = by_taking absent (λ w us _. goes (for_in_copy c p _ x.1 w us))
  for_value_copy c p x (Some g) ts false = by_token (for_rest_copy c p _ ts) (for_rest_bar c p _)
  for_value_copy c p x None ts b = by_token (for_rest_copy c p _ ts) (for_rest_bar c p _)

  value_copy : (c : Context) (p : Place) (x : Sized RawExpr) (ts : L)
      → Copies false Quiet (λ xs. s.for_value_by d turns inner c p x (target_of x.0) (is_word word.In (look xs).kind) xs) ts (t.for_value_by d turns outer c p x (target_of x.0) (is_word word.In (look_token ts).kind) ts)
  value_copy c p x ts = decide (λ w. is_word word.In w.kind) (s.for_value_by d turns inner c p x (target_of x.0)) (t.for_value_by d turns outer c p x (target_of x.0)) ts quiet (λ v _. for_value_copy c p x (target_of x.0) ts v)

  pub for_copy : (c : Context) (w : Lexeme) (us : L) → Head true false Quiet (λ xs. s.for d turns inner c (real w ∷ xs)) w us (t.for d turns outer c (w ∷ us))
  unfolding r.for
  for_copy c w us = goes (copies_after _ _ quiet (started (expects false mark.OpenParen us)) (copies_first _ _ (λ _. bars_after (inner.expr false 0) _ (bars.expr false 0))
      (λ _. at_end _ (starts_after _ _ quiet (relaxed_start false (alike.expr false 0 [])) (λ x os. value_copy c w.place x os)) refl)
      (λ _ v vs. split (is_word word.Var v.kind) _ _ _ _
      (λ _. goes (copies_after _ _ quiet (relaxed false (started (declarators_copy d turns inner outer inner.expr outer.expr (record { is = alike.expr }) false turns [] 0 vs)))
      (λ ds os. decide (λ w. is_word word.In w.kind) (s.for_vars_by d turns inner c w.place ds.0 ds.1) (t.for_vars_by d turns outer c w.place ds.0 ds.1) os quiet (λ b _. for_vars_copy c w.place ds.0 ds.1 os b))))
      (λ _. split (is_mark mark.Semicolon v.kind) _ _ _ _
      (λ _. head_of_start (for_rest_copy c w.place (raw.no_init, 0) (v ∷ vs)))
      (λ _. goes_after _ _ quiet (head_of_start (relaxed_start false (alike.expr false 0 (v ∷ vs)))) (λ x os. value_copy c w.place x os))))))

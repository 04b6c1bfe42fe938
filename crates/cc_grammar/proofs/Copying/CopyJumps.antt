-- The readers of symbols and of tokens go alike: jumps, clauses and declarations.
use Rattle.std.specs.Prelude.{◌≡◌, ℕ, zero, suc, ◌<◌, ◌||◌, Bool, true, false, nat_lt, List, [], ◌∷◌, Ok, Option, Some, None}
use Rattle.std.proofs.Common.{refl, sym, ◌∙◌}
use Rattle.cc_ast.specs.declared.place.Place.{Place}
use Rattle.cc_ast.specs.declared.reading.Construct.{Construct}
use Rattle.cc_lexer.specs.declared.token.Mark.TheVariants as mark
use Rattle.cc_lexer.specs.declared.word.Word.TheVariants as word
use Rattle.cc_grammar.specs.Symbols.{Kind, Lexeme, Symbols, real, look, rest, is_mark, is_word}
use Rattle.cc_grammar.specs.Symbols as k
use Rattle.cc_grammar.specs.Fronts.{offends, is_end}
use Rattle.cc_grammar.specs.RawTree.{RawExpr, RawStmt, RawCase, RawCatch, stmts}
use Rattle.cc_grammar.specs.RawTree as raw
use Rattle.cc_grammar.specs.Signs.{refused_name}
use Rattle.cc_grammar.specs.Grammar.{Context, Labels, inside, in_switch, labelled, is_among}
use Rattle.cc_grammar.specs.Reading.{Outcome, Sized, Clause, look_token, clause_of, label_by, label_of, ends_return, is_some_label, is_remedy}
use Rattle.cc_grammar.specs.Reading as r
use Rattle.cc_grammar.proofs.Marked.{In}
use Rattle.cc_grammar.proofs.Soundness.SoundParts.{SoundInner}
use Rattle.cc_grammar.proofs.Copying.Copies.{L, Bars, Excused, Copies, Quiet, Head, goes, halts, Starts, starts, halts_end, started, relaxed, relaxed_start}
use Rattle.cc_grammar.proofs.Copying.CopySteps.{quiet, shut_after, bars_after, copies_after, copies_then, goes_after, starts_after, copies_pure, Chosen, by_token, by_other, by_taking, by_none, absent, decide, fork, split, split_copies, deeper, at_end, head_of_start, copies_first, fails_here, stops_here, refuses_bar, refuses_here, expects}
use Rattle.cc_grammar.proofs.Copying.CopyLists.{CopyInner, BarsInner, variable_copy, list_copy, function_copy}
use Rattle.cc_grammar.proofs.Copying.CopyExpressions.{expr_bar, expr_copy, after_head_copy}
use Rattle.cc_grammar.proofs.Copying.CopyStatements.{ended_copy, declarators_copy, head_copy}
use Rattle.cc_grammar.proofs.OnSymbols as s
use Rattle.cc_grammar.proofs.OnTokens as t

-- the label of a jump offends nowhere
by_label : (x : Kind) (b : Bool) (n : List ℕ) → label_by x b ≡ Some n → (b || is_mark mark.CloseBrace x || is_end x) ≡ false
by_label (k.name u) false n e = refl
by_label (k.name u) true n e = absurd (cc)
by_label _ b n e = absurd (cc)

label_stays : (c : r.Fault) (w : Lexeme) (n : List ℕ) → label_of w ≡ Some n → Excused c w
label_stays c w n q m o = let no : true ≡ false = sym o ∙ by_label w.kind w.after_line n q in absurd (cc)

-- a token that doesn't end a `return` doesn't offend
no_offender : (a b c d e : Bool) → (a || b || c || d || e) ≡ false → (a || d || e) ≡ false
no_offender false false false false false q = refl
no_offender false false false false true q = absurd (cc)
no_offender false false false true e q = absurd (cc)
no_offender false false true d e q = absurd (cc)
no_offender false true c d e q = absurd (cc)
no_offender true b c d e q = absurd (cc)

still : (w : Lexeme) → ends_return w ≡ false → offends w ≡ false
still w e = no_offender w.after_line (is_mark mark.Semicolon w.kind) (r.is_ending w.kind) (is_mark mark.CloseBrace w.kind) (is_end w.kind) e

module _ (d turns : ℕ) (inner : In) (outer : t.In) (alike : CopyInner inner outer) (bars : nat_lt 0 d ≡ true → BarsInner inner) (some : 0 < turns) (sound : SoundInner d inner) where
  clause_copy : (c : Context) (again : Bool → List RawCase → ℕ → s.Reader (Sized (List RawCase))) (onward : Bool → List RawCase → ℕ → t.Reader (Sized (List RawCase))) (seen : Bool) (before : List RawCase) (h : ℕ) (v : Clause) (w : Lexeme) (us : L)
      → nat_lt 0 d ≡ true → ((seen : Bool) (before : List RawCase) (h : ℕ) (ts : L) → Starts false Quiet (again seen before h) ts (onward seen before h ts))
      → Head true false Quiet (λ xs. s.clause_by d turns inner again c seen before h v (real w ∷ xs)) w us (t.clause_by d turns outer onward c seen before h v (w ∷ us))
  clause_copy c again onward seen before h r.no_clause w us lt f = halts refl tt
  clause_copy c again onward seen before h r.is_close w us lt f = goes (copies_pure false (before, h) us)
  clause_copy c again onward seen before h r.is_case w us lt f = goes (copies_after _ _ quiet (relaxed false (started (alike.expr true 0 us))) (λ x vs. copies_after _ _ quiet (started (expects false mark.Colon vs)) (λ _ ws.
      copies_then _ _ quiet (list_copy d turns inner outer alike (bars lt) some c turns [] 0 ws) (λ b os. f seen _ _ os))))
  clause_copy c again onward true before h r.is_default w us lt f = halts refl tt
  clause_copy c again onward false before h r.is_default w us lt f = goes (copies_after _ _ quiet (started (expects false mark.Colon us)) (λ _ ws.
      copies_then _ _ quiet (list_copy d turns inner outer alike (bars lt) some c turns [] 0 ws) (λ b os. f true _ _ os)))

  clauses_copy : (c : Context) (m : ℕ) (seen : Bool) (before : List RawCase) (h : ℕ) (ts : L) → nat_lt 0 d ≡ true → Starts false Quiet (s.clauses d turns inner c m seen before h) ts (t.clauses d turns outer c m seen before h ts)
  unfolding r.clauses
  clauses_copy c zero seen before h ts lt = stops_here false r.spent refl ts
  clauses_copy c (suc m) seen before h [] lt = halts_end refl
  clauses_copy c (suc m) seen before h (w ∷ us) lt = starts (clause_copy c (s.clauses d turns inner c m) (t.clauses d turns outer c m) seen before h (clause_of w.kind) w us lt (λ seen before h ts. clauses_copy c m seen before h ts lt))
      (λ xs. record { fault = r.fault r.a_token k.semicolon; no_limit = refl; is = refl })

  pub switch_copy : (c : Context) (w : Lexeme) (us : L) → nat_lt 0 d ≡ true → Head true false Quiet (λ xs. s.switch d turns inner c (real w ∷ xs)) w us (t.switch d turns outer c (w ∷ us))
  unfolding r.switch
  switch_copy c w us lt = goes (copies_after _ _ quiet (relaxed false (started (head_copy d turns inner outer alike (bars lt) some us))) (λ e vs. copies_after _ _ quiet (started (expects false mark.OpenBrace vs)) (λ _ ws.
      copies_after _ _ quiet (started (clauses_copy (in_switch c) turns false [] 0 ws lt)) (λ cs os. copies_pure false _ os))))

  -- ---- jumps

  jump_copy : (make : Option (List ℕ) → RawStmt) (alone : Bool) (ls : Labels) (ts : L)
      → Copies false Quiet (λ xs. s.jump_by d turns inner make alone ls (label_of (look xs)) xs) ts (t.jump_by d turns outer make alone ls (label_of (look_token ts)) ts)
  jump_copy make alone ls ts = decide label_of (s.jump_by d turns inner make alone ls) (t.jump_by d turns outer make alone ls) ts quiet (λ v _. by v) where
    by : (v : Option (List ℕ)) → Chosen false Quiet label_of v (s.jump_by d turns inner make alone ls v) (s.jump_by d turns inner make alone ls None) (t.jump_by d turns outer make alone ls v) ts
    by None = by_none refl (split_copies alone _ _ _ _ (λ _. ended_copy _ ts) (λ _. started (fails_here false r.a_token ts)))
    by (Some n) = by_taking (λ e. cc) (λ w us q. split (is_among n ls) _ _ _ _ (λ _. goes (ended_copy _ us)) (λ _. halts refl (label_stays (r.fault r.a_token w) w n q)))

  pub continue_copy : (c : Context) (w : Lexeme) (us : L) → Head true false Quiet (λ xs. s.continue d turns inner c (real w ∷ xs)) w us (t.continue d turns outer c (w ∷ us))
  unfolding r.continue
  continue_copy c w us = split c.continues _ _ _ _ (λ _. goes (jump_copy (raw.continue w.place) true c.loops us)) (λ _. halts refl tt)

  pub break_copy : (c : Context) (w : Lexeme) (us : L) → Head true false Quiet (λ xs. s.break d turns inner c (real w ∷ xs)) w us (t.break d turns outer c (w ∷ us))
  unfolding r.break
  break_copy c w us = split (c.breaks || is_some_label c.labels) _ _ _ _ (λ _. goes (jump_copy (raw.break w.place) c.breaks c.labels us)) (λ _. halts refl tt)

  -- an expression of the same depth, and the end of a statement
  valued_copy : {A : Type 0} (f : Sized RawExpr → A) (ts : L) → Starts false Quiet (λ xs. r.and_then (s.expr_of d turns inner true 0 xs) (λ x i. r.and_then (r.semicolon_symbol i) (λ _ j. Ok (f x, j)))) ts
      (r.and_then (t.expr_of d turns outer true 0 ts) (λ x i. r.and_then (r.semicolon_token i) (λ _ j. Ok (f x, j))))
  valued_copy f ts = starts_after _ _ quiet (relaxed_start false (expr_copy d turns inner outer alike bars some sound true 0 ts)) (λ x us. ended_copy (f x) us)

  valued_bar : {A : Type 0} (f : Sized RawExpr → A) → Bars (λ xs. r.and_then (s.expr_of d turns inner true 0 xs) (λ x i. r.and_then (r.semicolon_symbol i) (λ _ j. Ok (f x, j))))
  valued_bar f = bars_after (s.expr_of d turns inner true 0) _ (expr_bar d turns inner outer alike bars some sound true 0)

  pub return_copy : (c : Context) (w : Lexeme) (us : L) → Head true false Quiet (λ xs. s.return d turns inner c (real w ∷ xs)) w us (t.return d turns outer c (w ∷ us))
  unfolding r.return
  return_copy c w us = split c.returns _ _ _ _ (λ _. goes (fork ends_return _ _ _ _ us quiet (λ _. by_none refl (ended_copy _ us)) (λ e. by_other (valued_copy _ us) (still (look_token us) e)))) (λ _. halts refl tt)

  pub throw_copy : (c : Context) (w : Lexeme) (us : L) → Head true false Quiet (λ xs. s.throw d turns inner (real w ∷ xs)) w us (t.throw d turns outer (w ∷ us))
  unfolding r.throw
  throw_copy c w us = goes (fork (λ v. v.after_line) _ _ _ _ us quiet (λ _. by_token (fails_here false r.a_token us) (valued_bar _)) (λ _. by_token (valued_copy _ us) (valued_bar _)))

  pub plain_bar : Bars (s.plain d turns inner)
  unfolding r.plain
  plain_bar xs = shut_after _ (expr_bar d turns inner outer alike bars some sound true 0 xs)

  pub plain_copy : (ts : L) → Starts false Quiet (s.plain d turns inner) ts (t.plain d turns outer ts)
  unfolding r.plain
  plain_copy [] = at_end _ (valued_copy (λ x. (raw.simple (look_token []).place x.0 ∷ [], x.1)) []) refl
  plain_copy (w ∷ us) = starts (head_of_start (valued_copy (λ x. (raw.simple w.place x.0 ∷ [], x.1)) (w ∷ us))) plain_bar

  -- ---- names

  label_copy : (c : Context) (p : Place) (n : List ℕ) (x : Option Construct) (w : Lexeme) (us : L) → is_mark mark.Colon w.kind ≡ true
      → Head false false Quiet (λ xs. s.name_by d turns inner c p n x true (real w ∷ xs)) w us (t.name_by d turns outer c p n x true (w ∷ us))
  label_copy c p n None w us q = split (is_among n c.labels) _ _ _ _ (λ _. halts refl (λ _ _. q)) (λ _. deeper 0 d _ (λ _. goes (copies_after _ _ quiet (started (alike.stmt (labelled n c) us)) (λ b vs. copies_pure false _ vs))))
  label_copy c p n (Some x) w us q = split (is_among n c.labels) _ _ _ _ (λ _. halts refl (λ _ _. q)) (λ _. deeper 0 d _ (λ _. goes (copies_after _ _ quiet (started (alike.stmt (labelled n c) us)) (λ b vs. copies_pure false _ vs))))

  name_copy : (c : Context) (p : Place) (n : List ℕ) (x : Option Construct) (v : Bool) (ts : L)
      → Chosen false Quiet (λ w. is_mark mark.Colon w.kind) v (s.name_by d turns inner c p n x v) (s.name_by d turns inner c p n x false) (t.name_by d turns outer c p n x v) ts
  name_copy c p n x true ts = by_taking absent (λ w us q. label_copy c p n x w us q)
  name_copy c p n None false ts = by_none refl (copies_after _ _ quiet (relaxed false (after_head_copy d turns inner outer alike bars some sound true 0 (raw.var p n, 0) ts)) (λ x us. ended_copy _ us))
  name_copy c p n (Some x) false ts = by_none refl (fork (λ w. is_remedy w.kind) _ _ _ _ ts quiet (λ _. by_taking absent (λ w us _. goes (copies_pure false _ us))) (λ _. by_token (refuses_here false _ refl ts) (refuses_bar _ refl)))

  pub begins_with_name_copy : (c : Context) (n : List ℕ) (w : Lexeme) (us : L) → Head true false Quiet (λ xs. s.begins_with_name d turns inner c n (real w ∷ xs)) w us (t.begins_with_name d turns outer c n (w ∷ us))
  unfolding r.begins_with_name
  begins_with_name_copy c n w us = goes (decide (λ v. is_mark mark.Colon v.kind) (s.name_by d turns inner c w.place n (refused_name n)) (t.name_by d turns outer c w.place n (refused_name n)) us quiet (λ v _. name_copy c w.place n (refused_name n) v us))

  -- ---- `try`

  block_in_copy : (c : Context) (ts : L) → Starts false Quiet (s.block_in d turns inner c) ts (t.block_in d turns outer c ts)
  unfolding r.block_in
  block_in_copy c [] = halts_end refl
  block_in_copy c (w ∷ us) = starts (split (is_mark mark.OpenBrace w.kind) _ _ _ _ (λ _. head_of_start (alike.stmt (inside c) (w ∷ us))) (λ _. halts refl tt)) (λ xs. record { fault = r.fault r.a_token k.semicolon; no_limit = refl; is = refl })

  finally_copy : (c : Context) (w : Lexeme) (us : L) → Copies false Quiet (λ xs. s.finally d turns inner c (real w ∷ xs)) us (t.finally d turns outer c (w ∷ us))
  unfolding r.finally
  finally_copy c w us = copies_after _ _ quiet (started (block_in_copy c us)) (λ b vs. copies_pure false _ vs)

  catch_copy : (c : Context) (w : Lexeme) (us : L) → Head true false Quiet (λ xs. s.catch d turns inner c (real w ∷ xs)) w us (t.catch d turns outer c (w ∷ us))
  unfolding r.catch
  catch_copy c w us = goes (copies_after _ _ quiet (started (expects false mark.OpenParen us)) (λ _ vs. copies_after _ _ quiet (started (variable_copy false vs)) (λ v ws. copies_after _ _ quiet (started (expects false mark.CloseParen ws)) (λ _ os.
      copies_after _ _ quiet (started (block_in_copy c os)) (λ b rs. copies_pure false _ rs)))))

  after_catch_copy : (c : Context) (p : Place) (b : Sized (List RawStmt)) (f : Sized RawCatch) (ts : L) → Copies false Quiet (s.after_catch d turns inner c p b f) ts (t.after_catch d turns outer c p b f ts)
  unfolding r.after_catch
  after_catch_copy c p b f ts = fork (λ w. is_word word.Finally w.kind) _ _ _ _ ts quiet (λ _. by_taking absent (λ w us _. goes (copies_after _ _ quiet (finally_copy c w us) (λ g vs. copies_pure false _ vs)))) (λ _. by_none refl (copies_pure false _ ts))

  pub try_copy : (c : Context) (w : Lexeme) (us : L) → Head true false Quiet (λ xs. s.try d turns inner c (real w ∷ xs)) w us (t.try d turns outer c (w ∷ us))
  unfolding r.try
  try_copy c w us = goes (copies_after _ _ quiet (started (block_in_copy c us)) (copies_first _ _ (λ b xs. record { fault = r.fault r.a_token k.semicolon; no_limit = refl; is = refl }) (λ b. halts_end refl)
      (λ b v vs. split (is_word word.Catch v.kind) _ _ _ _ (λ _. goes_after _ _ quiet (catch_copy c v vs) (λ f os. after_catch_copy c w.place b f os))
      (λ _. split (is_word word.Finally v.kind) _ _ _ _ (λ _. goes (copies_after _ _ quiet (finally_copy c v vs) (λ g os. copies_pure false _ os))) (λ _. halts refl tt)))))

  -- ---- declarations

  pub declaration_copy : (w : Lexeme) (us : L) → nat_lt 0 d ≡ true → Head true false Quiet (λ xs. s.declaration d turns inner (real w ∷ xs)) w us (t.declaration d turns outer (w ∷ us))
  unfolding r.declaration
  declaration_copy w us lt = goes (copies_after _ _ quiet (started (variable_copy false us)) (λ v vs. copies_after _ _ quiet (relaxed false (started (function_copy d turns inner outer alike (bars lt) some vs))) (λ f ws. copies_pure false _ ws)))

  pub vars_copy : (w : Lexeme) (us : L) → Head true false Quiet (λ xs. s.vars d turns inner (real w ∷ xs)) w us (t.vars d turns outer (w ∷ us))
  unfolding r.vars
  vars_copy w us = goes (copies_after _ _ quiet (relaxed false (started (declarators_copy d turns inner outer (s.expr_of d turns inner) (t.expr_of d turns outer) (record { is = expr_copy d turns inner outer alike bars some sound }) true turns [] 0 us))) (λ vs os. ended_copy _ os))

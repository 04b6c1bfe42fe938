-- Two readings of the same symbols up to a place where a part is due: jumps, clauses, labels and functions.
use Rattle.std.specs.Prelude.{◌≡◌, ℕ, zero, suc, ◌+◌, ◌≤◌, max, ◌||◌, Bool, true, false, Ok, cond, List, [], ◌∷◌, ◌++◌, Option, Some, None}
use Rattle.std.proofs.Common.{refl, sym, ◌∙◌, arith}
use Rattle.cc_ast.specs.declared.place.Place.{Place}
use Rattle.cc_ast.specs.declared.reading.Construct.{Construct}
use Rattle.cc_lexer.specs.declared.token.Mark.TheVariants as mark
use Rattle.cc_lexer.specs.declared.word.Word.TheVariants as word
use Rattle.cc_grammar.specs.Symbols.{look, rest, is_mark}
use Rattle.cc_grammar.specs.Symbols as k
use Rattle.cc_grammar.specs.RawTree.{RawStmt, RawCase, RawCatch, stmts, cases}
use Rattle.cc_grammar.specs.RawTree as raw
use Rattle.cc_grammar.specs.Signs.{refused_name}
use Rattle.cc_grammar.specs.Grammar.{Context, Labels, inside, in_switch, labelled, is_among}
use Rattle.cc_grammar.specs.Reading.{Sized, Clause, and_then, semicolon_symbol, is_remedy, label_by, label_of, is_some_label, ends_return, clause_of, spent}
use Rattle.cc_grammar.specs.Reading as r
use Rattle.cc_grammar.proofs.Clashes.{never}
use Rattle.cc_grammar.proofs.Marked.{In}
use Rattle.cc_grammar.proofs.Alikeness.Alike.{is_err}
use Rattle.cc_grammar.proofs.Swapping.Swap.{Change, IsPair, Swaps, barred, Later, Swap, Taking, Look, swap_after, taking_after, swap_pure, swap_look, take_then, behind, later_fork, swap_fail, swap_refuse, swap_limit, steady, alike_listed, like_test, test, swap_expect, swap_semicolon, swap_end}
use Rattle.cc_grammar.proofs.Swapping.SwapSites.{same_end, ends_alike, no_remedy, remedy_free}
use Rattle.cc_grammar.proofs.Swapping.SwapParts.{SwapInner, deeper, word_test, variable_swap}
use Rattle.cc_grammar.proofs.Swapping.SwapLists.{list_swap, function_swap}
use Rattle.cc_grammar.proofs.Swapping.SwapOperators.{after_head_swap}
use Rattle.cc_grammar.proofs.Swapping.SwapStatements.{own_expr, simple_swap, head_swap}
use Rattle.cc_grammar.proofs.OnSymbols as s

module _ (x : Change) (w : IsPair x) (d e n o : ℕ) (inner outer : In) (same : x.turns ≡ n) (le : d ≤ e) (lo : n ≤ o) (all : SwapInner x inner outer) where
  expr_at : (b : Bool) (l : ℕ) → Swap x (s.expr_of d n inner b l) (s.expr_of e o outer b l)
  expr_at b l = own_expr x w d e n o inner outer same le lo all b l

  -- ---- jumps

  jump_later : (make : Option (List ℕ) → RawStmt) (alone : Bool) (ls : Labels) (v : Option (List ℕ)) → Later x (s.jump_by d n inner make alone ls v) (s.jump_by e o outer make alone ls v)
  jump_later make alone ls None = later_fork x alone _ _ _ _ (swap_end x w (make None ∷ [], 0)).later (swap_fail x r.a_token).later
  jump_later make alone ls (Some v) = later_fork x (is_among v ls) _ _ _ _ (taking_after x (behind x (swap_semicolon x w)) (λ _. swap_pure x (make (Some v) ∷ [], 0))).later (swap_fail x r.a_token).later

  -- no part is a label, and none ends a statement
  jump_first : (make : Option (List ℕ) → RawStmt) (alone : Bool) (ls : Labels) (v : Option (List ℕ)) → Swaps x (s.jump_by d n inner make alone ls v) (s.jump_by e o outer make alone ls None) []
  jump_first make true ls v = barred (λ xs. is_err)
  jump_first make false ls v = barred (λ xs. is_err)

  jump_swap : (make : Option (List ℕ) → RawStmt) (alone : Bool) (ls : Labels) → Swap x (λ i. s.jump_by d n inner make alone ls (label_of (look i)) i) (λ i. s.jump_by e o outer make alone ls (label_of (look i)) i)
  jump_swap make alone ls = swap_look x {p = λ u. s.jump_by d n inner make alone ls (label_of u)} {q = λ u. s.jump_by e o outer make alone ls (label_of u)} (record {
    first = at x.place.after_line;
    later = λ u. jump_later make alone ls (label_of u);
  }) where
    at : (line : Bool) → Swaps x (s.jump_by d n inner make alone ls (label_by x.kind x.place.after_line)) (s.jump_by e o outer make alone ls (label_by (k.due x.part) line)) []
    at true = jump_first make alone ls (label_by x.kind x.place.after_line)
    at false = jump_first make alone ls (label_by x.kind x.place.after_line)

  pub continue_later : (c : Context) → Later x (s.continue d n inner c) (s.continue e o outer c)
  unfolding r.continue
  continue_later c = later_fork x c.continues _ _ _ _ (take_then x (λ t. jump_swap (raw.continue t.place) true c.loops)).later (swap_fail x r.a_token).later

  pub break_later : (c : Context) → Later x (s.break d n inner c) (s.break e o outer c)
  unfolding r.break
  break_later c = later_fork x (c.breaks || is_some_label c.labels) _ _ _ _ (take_then x (λ t. jump_swap (raw.break t.place) c.breaks c.labels)).later (swap_fail x r.a_token).later

  -- it begins a value, or it stands on the next line
  value_swap : (p : Place) → Look x {A = Sized (List RawStmt)} (λ u. cond (ends_return u) (λ i. and_then (semicolon_symbol i) (λ _ j. Ok ((raw.return p raw.no_expr ∷ [], 0), j))) (λ i. and_then (s.expr_of d n inner true 0 i) (λ y j. and_then (semicolon_symbol j) (λ _ z. Ok ((raw.return p (raw.one_expr y.0) ∷ [], y.1), z)))))
      (λ u. cond (ends_return u) (λ i. and_then (semicolon_symbol i) (λ _ j. Ok ((raw.return p raw.no_expr ∷ [], 0), j))) (λ i. and_then (s.expr_of e o outer true 0 i) (λ y j. and_then (semicolon_symbol j) (λ _ z. Ok ((raw.return p (raw.one_expr y.0) ∷ [], y.1), z)))))
  value_swap p = like_test x ends_return (ends_alike x.place w) (steady x (swap_end x w (raw.return p raw.no_expr ∷ [], 0)))
      (steady x (swap_after x (expr_at true 0) (λ y. swap_end x w (raw.return p (raw.one_expr y.0) ∷ [], y.1))))

  pub return_later : (c : Context) → Later x (s.return d n inner c) (s.return e o outer c)
  unfolding r.return
  return_later c = later_fork x c.returns _ _ _ _ (take_then x (λ t. swap_look x (value_swap t.place))).later (swap_fail x r.a_token).later

  pub throw_swap : Taking x (s.throw d n inner) (s.throw e o outer)
  unfolding r.throw
  throw_swap = take_then x (λ t. swap_look x (like_test x (λ u. u.after_line) refl (steady x (swap_fail x r.a_token)) (steady x (swap_after x (expr_at true 0) (λ y. swap_end x w (raw.throw t.place y.0 ∷ [], y.1))))))

  -- ---- clauses

  clause_later : (again more : Bool → List RawCase → ℕ → s.Reader (Sized (List RawCase))) (c : Context) (seen : Bool) (found : List RawCase) (h : ℕ) → ((b : Bool) (v : List RawCase) (j : ℕ) → Swap x (again b v j) (more b v j))
      → (y : Clause) → Later x (s.clause_by d n inner again c seen found h y) (s.clause_by e o outer more c seen found h y)
  clause_later again more c seen found h f r.no_clause = (swap_fail x r.a_token).later
  clause_later again more c seen found h f r.is_close = (behind x (swap_pure x (found, h))).later
  clause_later again more c seen found h f r.is_case = (behind x (swap_after x (all.expr true 0) (λ y. swap_after x (swap_expect x w mark.Colon) (λ _. swap_after x (list_swap x w d e n o inner outer lo all c n o [] 0 lo) (λ b.
      f seen (found ++ record { test = raw.one_expr y.0; body = b.0 } ∷ []) (max h (max y.1 b.1))))))).later
  clause_later again more c seen found h f r.is_default = later_fork x seen _ _ _ _ (swap_fail x r.a_token).later (behind x (swap_after x (swap_expect x w mark.Colon) (λ _. swap_after x (list_swap x w d e n o inner outer lo all c n o [] 0 lo) (λ b.
      f true (found ++ record { test = raw.no_expr; body = b.0 } ∷ []) (max h b.1))))).later

  clause_look : (again more : Bool → List RawCase → ℕ → s.Reader (Sized (List RawCase))) (c : Context) (seen : Bool) (found : List RawCase) (h : ℕ) → ((b : Bool) (v : List RawCase) (j : ℕ) → Swap x (again b v j) (more b v j))
      → Look x (λ t. s.clause_by d n inner again c seen found h (clause_of t.kind)) (λ t. s.clause_by e o outer more c seen found h (clause_of t.kind))
  clause_look again more c seen found h f = alike_listed x clause_of r.no_clause {p = λ y _. s.clause_by d n inner again c seen found h y} {q = λ y _. s.clause_by e o outer more c seen found h y}
      (same_end clause_of refl refl refl refl refl (λ v. refl) w) refl (swap_fail x r.a_token).first (λ y _. clause_later again more c seen found h f y)

  clauses_swap : (c : Context) (m u : ℕ) (seen : Bool) (found : List RawCase) (h : ℕ) → m ≤ u → Swap x (s.clauses d n inner c m seen found h) (s.clauses e o outer c u seen found h)
  unfolding r.clauses
  clauses_swap c zero u seen found h lt = swap_limit x spent (s.clauses e o outer c u seen found h) refl
  clauses_swap c (suc m) zero seen found h lt = absurd (omega arith)
  clauses_swap c (suc m) (suc u) seen found h lt = swap_look x (clause_look _ _ c seen found h (λ b v j. clauses_swap c m u b v j (omega arith)))

  pub switch_swap : (c : Context) → Taking x (s.switch d n inner c) (s.switch e o outer c)
  unfolding r.switch
  switch_swap c = take_then x (λ t. swap_after x (head_swap x w d e n o inner outer same le lo all) (λ y. swap_after x (swap_expect x w mark.OpenBrace) (λ _. swap_after x (clauses_swap (in_switch c) n o false [] 0 lo) (λ cs.
      swap_pure x (raw.switch t.place y.0 (cases cs.0) ∷ [], max y.1 cs.1 + 1)))))

  -- ---- labels

  label_swap : (c : Context) (p : Place) (v : List ℕ) → Taking x {A = Sized (List RawStmt)} (λ i. and_then (Ok (look i, rest i)) (λ _ j. and_then (inner.stmt (labelled v c) j) (λ b z. Ok ((raw.label p v (stmts b.0) ∷ [], b.1 + 1), z))))
      (λ i. and_then (Ok (look i, rest i)) (λ _ j. and_then (outer.stmt (labelled v c) j) (λ b z. Ok ((raw.label p v (stmts b.0) ∷ [], b.1 + 1), z))))
  label_swap c p v = behind x (swap_after x (all.stmt (labelled v c)) (λ b. swap_pure x (raw.label p v (stmts b.0) ∷ [], b.1 + 1)))

  unlabelled_swap : (c : Context) (p : Place) (v : List ℕ) (y : Option Construct) → Swap x (s.name_by d n inner c p v y false) (s.name_by e o outer c p v y false)
  unlabelled_swap c p v None = swap_after x (after_head_swap x w d e n o inner outer le lo all true 0 (raw.var p v, 0)) (λ z. simple_swap x w d e n o inner outer same le lo all p z)
  unlabelled_swap c p v (Some y) = swap_look x (test x (λ t. is_remedy t.kind) (no_remedy w) (λ q. never (sym (remedy_free w) ∙ q)) (λ _. behind x (swap_pure x ([], 0))) (steady x (swap_refuse x y p)))

  name_later : (c : Context) (p : Place) (v : List ℕ) (y : Option Construct) (b : Bool) → Later x (s.name_by d n inner c p v y b) (s.name_by e o outer c p v y b)
  name_later c p v y true = later_fork x (is_among v c.labels) _ _ _ _ (swap_fail x r.a_token).later (deeper x d e 0 _ _ (label_swap c p v)).later
  name_later c p v y false = (unlabelled_swap c p v y).later

  name_look : (c : Context) (p : Place) (v : List ℕ) (y : Option Construct) → Look x (λ u. s.name_by d n inner c p v y (is_mark mark.Colon u.kind)) (λ u. s.name_by e o outer c p v y (is_mark mark.Colon u.kind))
  name_look c p v y = alike_listed x (is_mark mark.Colon) false {p = λ b _. s.name_by d n inner c p v y b} {q = λ b _. s.name_by e o outer c p v y b} (same_end (is_mark mark.Colon) refl refl refl refl refl (λ v. refl) w) refl
      (unlabelled_swap c p v y).first (λ b _. name_later c p v y b)

  pub begins_with_name_swap : (c : Context) (v : List ℕ) → Taking x (s.begins_with_name d n inner c v) (s.begins_with_name e o outer c v)
  unfolding r.begins_with_name
  begins_with_name_swap c v = take_then x (λ t. swap_look x (name_look c t.place v (refused_name v)))

  -- ---- `try` and functions

  block_in_swap : (c : Context) → Swap x (s.block_in d n inner c) (s.block_in e o outer c)
  unfolding r.block_in
  block_in_swap c = swap_look x (like_test x (λ t. is_mark mark.OpenBrace t.kind) (same_end (is_mark mark.OpenBrace) refl refl refl refl refl (λ v. refl) w) (steady x (all.stmt (inside c))) (steady x (swap_fail x r.a_token)))

  finally_swap : (c : Context) → Taking x (s.finally d n inner c) (s.finally e o outer c)
  unfolding r.finally
  finally_swap c = behind x (swap_after x (block_in_swap c) (λ b. swap_pure x (raw.finally (stmts b.0), b.1)))

  catch_swap : (c : Context) → Taking x (s.catch d n inner c) (s.catch e o outer c)
  unfolding r.catch
  catch_swap c = behind x (swap_after x (swap_expect x w mark.OpenParen) (λ _. swap_after x (variable_swap x w) (λ v. swap_after x (swap_expect x w mark.CloseParen) (λ _. swap_after x (block_in_swap c) (λ b.
      swap_pure x (raw.caught v (stmts b.0), b.1))))))

  after_catch_swap : (c : Context) (p : Place) (b : Sized (List RawStmt)) (f : Sized RawCatch) → Swap x (s.after_catch d n inner c p b f) (s.after_catch e o outer c p b f)
  unfolding r.after_catch
  after_catch_swap c p b f = swap_look x (word_test x w word.Finally refl (λ _. taking_after x (finally_swap c) (λ g. swap_pure x (raw.try p (stmts b.0) f.0 g.0 ∷ [], max b.1 (max f.1 g.1) + 1)))
      (steady x (swap_pure x (raw.try p (stmts b.0) f.0 raw.no_finally ∷ [], max b.1 f.1 + 1))))

  pub try_swap : (c : Context) → Taking x (s.try d n inner c) (s.try e o outer c)
  unfolding r.try
  try_swap c = take_then x (λ t. swap_after x (block_in_swap c) (λ b. swap_look x (word_test x w word.Catch refl (λ _. taking_after x (catch_swap c) (λ f. after_catch_swap c t.place b f))
      (word_test x w word.Finally refl (λ _. taking_after x (finally_swap c) (λ g. swap_pure x (raw.try t.place (stmts b.0) raw.no_catch g.0 ∷ [], max b.1 g.1 + 1))) (steady x (swap_fail x r.a_token))))))

  pub declaration_swap : Taking x (s.declaration d n inner) (s.declaration e o outer)
  unfolding r.declaration
  declaration_swap = take_then x (λ t. swap_after x (variable_swap x w) (λ v. swap_after x (function_swap x w d e n o inner outer lo all) (λ f. swap_pure x (raw.fun_decl t.place v f.0.0 (stmts f.0.1) ∷ [], f.1 + 1))))

-- The readers of statements, with more depth and more turns, do the same as far as they got, and so does the reading function.
use Rattle.std.specs.Prelude.{ℕ, zero, suc, ◌+◌, ◌≤◌, max, ◌||◌, Bool, true, false, Err, cond, nat_lt, List, [], ◌∷◌, ◌++◌, Option, Some, None}
use Rattle.std.proofs.Common.{arith}
use Rattle.cc_ast.specs.declared.place.Place.{Place}
use Rattle.cc_ast.specs.declared.reading.Construct.{Construct}
use Rattle.cc_ast.specs.declared.reading.Construct.TheVariants as construct
use Rattle.cc_lexer.specs.declared.token.Mark.{Mark}
use Rattle.cc_lexer.specs.declared.token.Mark.TheVariants as mark
use Rattle.cc_lexer.specs.declared.word.Word.TheVariants as word
use Rattle.cc_grammar.specs.Symbols.{look, is_mark, is_word}
use Rattle.cc_grammar.specs.RawTree.{RawExpr, RawTarget, RawStmt, RawDeclarator, RawCase, RawInit, RawCatch, RawFinally, MaybeExpr, stmts, cases}
use Rattle.cc_grammar.specs.RawTree as raw
use Rattle.cc_grammar.specs.Signs.{refused_name, target_of}
use Rattle.cc_grammar.specs.Grammar.{Context, Labels, of_program, inside, in_loop, in_switch, labelled, is_among}
use Rattle.cc_grammar.specs.Reading.{Outcome, Sized, Clause, Start, and_then, semicolon_symbol, depth, spent, refused, is_remedy, label_of, is_some_label, ends_return, clause_of, start_of, read_symbols}
use Rattle.cc_grammar.specs.Reading as r
use Rattle.cc_grammar.proofs.Marked.{In}
use Rattle.cc_grammar.proofs.Alikeness.Alike.{Bounds, Deeper, one_less, one_more, Alike, alike_after, alike_pure, alike_refuse, alike_look, alike_take, alike_behind, alike_fork, alike_fail, alike_stops, alike_spent, alike_depth, alike_expect, alike_expect_word, alike_expect_end, alike_close, alike_semicolon, alike_end}
use Rattle.cc_grammar.proofs.Alikeness.AlikeExpressions.{Follows, AlikeInner, variable_alike, deeper_alike, list_alike, body_alike, function_alike, after_head_alike, expr_alike, held}
use Rattle.cc_grammar.proofs.Following.{expr_follows}
use Rattle.cc_grammar.proofs.OnSymbols as s

module _ {bounds : Bounds} (d e n o : ℕ) (inner outer : In) (le : d ≤ e) (deep : Deeper bounds d e) (lo : n ≤ o) (all : AlikeInner bounds inner outer) where
  -- ---- variables and expressions

  module _ (expr more : Bool → ℕ → s.Reader (Sized RawExpr)) (h : (b : Bool) (l : ℕ) → Alike bounds (expr b l) (more b l)) (b : Bool) where
    declarator_alike : Alike bounds (s.declarator d n inner expr b) (s.declarator e o outer more b)
    unfolding r.declarator
    declarator_alike = alike_after variable_alike (λ v. alike_look _ _ (λ t. alike_fork (is_mark mark.Equal t.kind) _ _ _ _
        (alike_behind (alike_after (h b 1) (λ x. alike_pure (record { variable = v; value = raw.one_expr x.0 }, x.1)))) (alike_pure (record { variable = v; value = raw.no_expr }, 0))))

    declarators_alike : (m u : ℕ) (found : List RawDeclarator) (j : ℕ) → m ≤ u → Alike bounds (s.declarators d n inner expr b m found j) (s.declarators e o outer more b u found j)
    unfolding r.declarators
    declarators_alike zero u found j lt = alike_spent (s.declarators e o outer more b u found j)
    declarators_alike (suc m) zero found j lt = absurd (omega arith)
    declarators_alike (suc m) (suc u) found j lt = alike_after declarator_alike (λ x. alike_look _ _ (λ t. alike_fork (is_mark mark.Comma t.kind) _ _ _ _
        (alike_behind (declarators_alike m u (found ++ x.0 ∷ []) (max j x.1) (omega arith))) (alike_pure (found ++ x.0 ∷ [], max j x.1))))

  own_expr : (b : Bool) (l : ℕ) → Alike bounds (s.expr_of d n inner b l) (s.expr_of e o outer b l)
  own_expr b l = expr_alike d e n o inner outer le deep lo all b l

  deeper : {A : Type 0} (h : ℕ) (p q : s.Reader A) → Alike bounds p q
      → Alike bounds (λ i. cond (nat_lt h d) (p i) (Err (record { cause = depth; place = (look i).place }, i))) (λ i. cond (nat_lt h e) (q i) (Err (record { cause = depth; place = (look i).place }, i)))
  deeper h p q l = deeper_alike d e n o inner outer le deep lo all h p q l

  vars_alike : Alike bounds (s.vars d n inner) (s.vars e o outer)
  unfolding r.vars
  vars_alike = alike_after alike_take (λ t. alike_after (declarators_alike (s.expr_of d n inner) (s.expr_of e o outer) own_expr true n o [] 0 lo) (λ vs. alike_end (raw.vars t.place (raw.declarators vs.0) ∷ [], vs.1)))

  simple_alike : (p : Place) (x : Sized RawExpr) → Alike bounds (s.simple d n inner p x) (s.simple e o outer p x)
  simple_alike p x = alike_end (raw.simple p x.0 ∷ [], x.1)

  plain_alike : Alike bounds (s.plain d n inner) (s.plain e o outer)
  unfolding r.plain
  plain_alike = alike_look _ _ (λ t. alike_after (own_expr true 0) (λ x. simple_alike t.place x))

  block_alike : (c : Context) → Alike bounds (s.block d n inner c) (s.block e o outer c)
  unfolding r.block
  block_alike c = alike_behind (alike_after (body_alike d e n o inner outer le deep lo all (inside c)) (λ b. alike_pure (b.0, b.1 + 1)))

  head_alike : Alike bounds (s.head d n inner) (s.head e o outer)
  unfolding r.head
  head_alike = alike_after (alike_expect mark.OpenParen) (λ _. alike_after (all.expr true 0) (λ x. alike_close mark.CloseParen x))

  otherwise_alike : (c : Context) (p : Place) (x : Sized RawExpr) (a : Sized (List RawStmt)) → Alike bounds (s.otherwise d n inner c p x a) (s.otherwise e o outer c p x a)
  unfolding r.otherwise
  otherwise_alike c p x a = alike_look _ _ (λ t. alike_fork (is_word word.Else t.kind) _ _ _ _
      (alike_behind (alike_after (all.stmt (inside c)) (λ b. alike_pure (raw.if p x.0 (stmts a.0) (stmts b.0) ∷ [], max x.1 (max a.1 b.1) + 1))))
      (alike_pure (raw.if p x.0 (stmts a.0) raw.no_stmts ∷ [], max x.1 a.1 + 1)))

  choice_alike : (c : Context) → Alike bounds (s.choice d n inner c) (s.choice e o outer c)
  unfolding r.choice
  choice_alike c = alike_after alike_take (λ t. alike_after head_alike (λ x. alike_after (all.stmt (inside c)) (λ a. otherwise_alike c t.place x a)))

  do_while_alike : (c : Context) → Alike bounds (s.do_while d n inner c) (s.do_while e o outer c)
  unfolding r.do_while
  do_while_alike c = alike_after alike_take (λ t. alike_after (all.stmt (in_loop c)) (λ b. alike_after (alike_expect_word word.While) (λ _. alike_after head_alike (λ x.
      alike_end (raw.do_while t.place (stmts b.0) x.0 ∷ [], max x.1 b.1 + 1)))))

  while_alike : (c : Context) → Alike bounds (s.while d n inner c) (s.while e o outer c)
  unfolding r.while
  while_alike c = alike_after alike_take (λ t. alike_after head_alike (λ x. alike_after (all.stmt (in_loop c)) (λ b. alike_pure (raw.while t.place x.0 (stmts b.0) ∷ [], max x.1 b.1 + 1))))

  -- ---- `for`

  optional_alike : (m : Mark) → Alike bounds (s.optional d n inner m) (s.optional e o outer m)
  unfolding r.optional
  optional_alike m = alike_look _ _ (λ t. alike_fork (is_mark m t.kind) _ _ _ _ (alike_pure (raw.no_expr, 0)) (alike_after (all.expr true 0) (λ x. alike_pure (raw.one_expr x.0, x.1))))

  for_rest_alike : (c : Context) (p : Place) (a : Sized RawInit) → Alike bounds (s.for_rest d n inner c p a) (s.for_rest e o outer c p a)
  unfolding r.for_rest
  for_rest_alike c p a = alike_after (alike_expect mark.Semicolon) (λ _. alike_after (optional_alike mark.Semicolon) (λ x. alike_after (alike_expect mark.Semicolon) (λ _. alike_after (optional_alike mark.CloseParen) (λ f.
      alike_after (alike_expect mark.CloseParen) (λ _. alike_after (all.stmt (in_loop c)) (λ b. alike_pure (raw.for p a.0 x.0 f.0 (stmts b.0) ∷ [], max (max a.1 (max x.1 f.1)) b.1 + 1)))))))

  for_in_alike : (c : Context) (p : Place) (g : raw.RawForTarget) (h : ℕ) → Alike bounds (s.for_in d n inner c p g h) (s.for_in e o outer c p g h)
  unfolding r.for_in
  for_in_alike c p g h = alike_behind (alike_after (all.expr true 0) (λ x. alike_after (alike_expect mark.CloseParen) (λ _. alike_after (all.stmt (in_loop c)) (λ b. alike_pure (raw.for_in p g x.0 (stmts b.0) ∷ [], max (max h x.1) b.1 + 1)))))

  for_vars_alike : (c : Context) (p : Place) (vs : List RawDeclarator) (h : ℕ) (b : Bool) → Alike bounds (s.for_vars_by d n inner c p vs h b) (s.for_vars_by e o outer c p vs h b)
  for_vars_alike c p [] h true = for_rest_alike c p (raw.init_vars raw.no_declarators, h)
  for_vars_alike c p [] h false = for_rest_alike c p (raw.init_vars raw.no_declarators, h)
  for_vars_alike c p (v ∷ []) h true = for_in_alike c p (raw.in_declared v.variable v.value) h
  for_vars_alike c p (v ∷ []) h false = for_rest_alike c p (raw.init_vars (raw.declarators (v ∷ [])), h)
  for_vars_alike c p (v ∷ w ∷ vs) h true = for_rest_alike c p (raw.init_vars (raw.declarators (v ∷ w ∷ vs)), h)
  for_vars_alike c p (v ∷ w ∷ vs) h false = for_rest_alike c p (raw.init_vars (raw.declarators (v ∷ w ∷ vs)), h)

  for_value_alike : (c : Context) (p : Place) (x : Sized RawExpr) (g : Option RawTarget) (b : Bool) → Alike bounds (s.for_value_by d n inner c p x g b) (s.for_value_by e o outer c p x g b)
  for_value_alike c p x (Some g) true = for_in_alike c p (raw.in_target g) x.1
  for_value_alike c p x (Some g) false = for_rest_alike c p (raw.init_value x.0, x.1)
  for_value_alike c p x None true = for_rest_alike c p (raw.init_value x.0, x.1)
  for_value_alike c p x None false = for_rest_alike c p (raw.init_value x.0, x.1)

  for_alike : (c : Context) → Alike bounds (s.for d n inner c) (s.for e o outer c)
  unfolding r.for
  for_alike c = alike_after alike_take (λ t. alike_after (alike_expect mark.OpenParen) (λ _. alike_look _ _ (λ u. alike_fork (is_word word.Var u.kind) _ _ _ _
      (alike_behind (alike_after (declarators_alike inner.expr outer.expr all.expr false n o [] 0 lo) (λ vs. alike_look _ _ (λ v. for_vars_alike c t.place vs.0 vs.1 (is_word word.In v.kind)))))
      (alike_fork (is_mark mark.Semicolon u.kind) _ _ _ _ (for_rest_alike c t.place (raw.no_init, 0))
      (alike_after (all.expr false 0) (λ x. alike_look _ _ (λ v. for_value_alike c t.place x (target_of x.0) (is_word word.In v.kind))))))))

  -- ---- jumps

  jump_alike : (make : Option (List ℕ) → RawStmt) (alone : Bool) (ls : Labels) (v : Option (List ℕ)) → Alike bounds (s.jump_by d n inner make alone ls v) (s.jump_by e o outer make alone ls v)
  jump_alike make alone ls None = alike_fork alone _ _ _ _ (alike_end (make None ∷ [], 0)) (alike_fail r.a_token)
  jump_alike make alone ls (Some v) = alike_fork (is_among v ls) _ _ _ _ (alike_after (alike_behind alike_semicolon) (λ _. alike_pure (make (Some v) ∷ [], 0))) (alike_fail r.a_token)

  continue_alike : (c : Context) → Alike bounds (s.continue d n inner c) (s.continue e o outer c)
  unfolding r.continue
  continue_alike c = alike_fork c.continues _ _ _ _ (alike_after alike_take (λ t. alike_look _ _ (λ u. jump_alike (raw.continue t.place) true c.loops (label_of u)))) (alike_fail r.a_token)

  break_alike : (c : Context) → Alike bounds (s.break d n inner c) (s.break e o outer c)
  unfolding r.break
  break_alike c = alike_fork (c.breaks || is_some_label c.labels) _ _ _ _ (alike_after alike_take (λ t. alike_look _ _ (λ u. jump_alike (raw.break t.place) c.breaks c.labels (label_of u)))) (alike_fail r.a_token)

  return_alike : (c : Context) → Alike bounds (s.return d n inner c) (s.return e o outer c)
  unfolding r.return
  return_alike c = alike_fork c.returns _ _ _ _ (alike_after alike_take (λ t. alike_look _ _ (λ u. alike_fork (ends_return u) _ _ _ _ (alike_end (raw.return t.place raw.no_expr ∷ [], 0))
      (alike_after (own_expr true 0) (λ x. alike_end (raw.return t.place (raw.one_expr x.0) ∷ [], x.1)))))) (alike_fail r.a_token)

  throw_alike : Alike bounds (s.throw d n inner) (s.throw e o outer)
  unfolding r.throw
  throw_alike = alike_after alike_take (λ t. alike_look _ _ (λ u. alike_fork u.after_line _ _ _ _ (alike_fail r.a_token) (alike_after (own_expr true 0) (λ x. alike_end (raw.throw t.place x.0 ∷ [], x.1)))))

  -- ---- clauses

  clause_alike : (again more : Bool → List RawCase → ℕ → s.Reader (Sized (List RawCase))) (c : Context) (seen : Bool) (found : List RawCase) (h : ℕ) (x : Clause)
      → ((b : Bool) (w : List RawCase) (j : ℕ) → Alike bounds (again b w j) (more b w j)) → Alike bounds (s.clause_by d n inner again c seen found h x) (s.clause_by e o outer more c seen found h x)
  clause_alike again more c seen found h r.no_clause f = alike_fail r.a_token
  clause_alike again more c seen found h r.is_close f = alike_behind (alike_pure (found, h))
  clause_alike again more c seen found h r.is_case f = alike_behind (alike_after (all.expr true 0) (λ x. alike_after (alike_expect mark.Colon) (λ _. alike_after (list_alike d e n o inner outer le deep lo all c n o [] 0 lo) (λ b.
      f seen (found ++ record { test = raw.one_expr x.0; body = b.0 } ∷ []) (max h (max x.1 b.1))))))
  clause_alike again more c seen found h r.is_default f = alike_fork seen _ _ _ _ (alike_fail r.a_token) (alike_behind (alike_after (alike_expect mark.Colon) (λ _. alike_after (list_alike d e n o inner outer le deep lo all c n o [] 0 lo) (λ b.
      f true (found ++ record { test = raw.no_expr; body = b.0 } ∷ []) (max h b.1)))))

  clauses_alike : (c : Context) (m u : ℕ) (seen : Bool) (found : List RawCase) (h : ℕ) → m ≤ u → Alike bounds (s.clauses d n inner c m seen found h) (s.clauses e o outer c u seen found h)
  unfolding r.clauses
  clauses_alike c zero u seen found h lt = alike_spent (s.clauses e o outer c u seen found h)
  clauses_alike c (suc m) zero seen found h lt = absurd (omega arith)
  clauses_alike c (suc m) (suc u) seen found h lt = alike_look _ _ (λ t. clause_alike _ _ c seen found h (clause_of t.kind) (λ b w j. clauses_alike c m u b w j (omega arith)))

  switch_alike : (c : Context) → Alike bounds (s.switch d n inner c) (s.switch e o outer c)
  unfolding r.switch
  switch_alike c = alike_after alike_take (λ t. alike_after head_alike (λ x. alike_after (alike_expect mark.OpenBrace) (λ _. alike_after (clauses_alike (in_switch c) n o false [] 0 lo) (λ cs.
      alike_pure (raw.switch t.place x.0 (cases cs.0) ∷ [], max x.1 cs.1 + 1)))))

  -- ---- names

  name_alike : (c : Context) (p : Place) (v : List ℕ) (x : Option Construct) (b : Bool) → Alike bounds (s.name_by d n inner c p v x b) (s.name_by e o outer c p v x b)
  name_alike c p v x true = alike_fork (is_among v c.labels) _ _ _ _ (alike_fail r.a_token) (deeper 0 _ _ (alike_behind (alike_after (all.stmt (labelled v c)) (λ b. alike_pure (raw.label p v (stmts b.0) ∷ [], b.1 + 1)))))
  name_alike c p v None false = alike_after (after_head_alike d e n o inner outer le deep lo all true 0 (raw.var p v, 0)) (λ x. simple_alike p x)
  name_alike c p v (Some x) false = alike_look _ _ (λ t. alike_fork (is_remedy t.kind) _ _ _ _ (alike_behind (alike_pure ([], 0))) (alike_refuse x p))

  begins_with_name_alike : (c : Context) (v : List ℕ) → Alike bounds (s.begins_with_name d n inner c v) (s.begins_with_name e o outer c v)
  unfolding r.begins_with_name
  begins_with_name_alike c v = alike_after alike_take (λ t. alike_look _ _ (λ u. name_alike c t.place v (refused_name v) (is_mark mark.Colon u.kind)))

  -- ---- `try` and functions

  block_in_alike : (c : Context) → Alike bounds (s.block_in d n inner c) (s.block_in e o outer c)
  unfolding r.block_in
  block_in_alike c = alike_look _ _ (λ t. alike_fork (is_mark mark.OpenBrace t.kind) _ _ _ _ (all.stmt (inside c)) (alike_fail r.a_token))

  finally_alike : (c : Context) → Alike bounds (s.finally d n inner c) (s.finally e o outer c)
  unfolding r.finally
  finally_alike c = alike_behind (alike_after (block_in_alike c) (λ b. alike_pure (raw.finally (stmts b.0), b.1)))

  catch_alike : (c : Context) → Alike bounds (s.catch d n inner c) (s.catch e o outer c)
  unfolding r.catch
  catch_alike c = alike_behind (alike_after (alike_expect mark.OpenParen) (λ _. alike_after variable_alike (λ v. alike_after (alike_expect mark.CloseParen) (λ _. alike_after (block_in_alike c) (λ b. alike_pure (raw.caught v (stmts b.0), b.1))))))

  after_catch_alike : (c : Context) (p : Place) (b : Sized (List RawStmt)) (f : Sized RawCatch) → Alike bounds (s.after_catch d n inner c p b f) (s.after_catch e o outer c p b f)
  unfolding r.after_catch
  after_catch_alike c p b f = alike_look _ _ (λ t. alike_fork (is_word word.Finally t.kind) _ _ _ _
      (alike_after (finally_alike c) (λ g. alike_pure (raw.try p (stmts b.0) f.0 g.0 ∷ [], max b.1 (max f.1 g.1) + 1))) (alike_pure (raw.try p (stmts b.0) f.0 raw.no_finally ∷ [], max b.1 f.1 + 1)))

  try_alike : (c : Context) → Alike bounds (s.try d n inner c) (s.try e o outer c)
  unfolding r.try
  try_alike c = alike_after alike_take (λ t. alike_after (block_in_alike c) (λ b. alike_look _ _ (λ u. alike_fork (is_word word.Catch u.kind) _ _ _ _ (alike_after (catch_alike c) (λ f. after_catch_alike c t.place b f))
      (alike_fork (is_word word.Finally u.kind) _ _ _ _ (alike_after (finally_alike c) (λ g. alike_pure (raw.try t.place (stmts b.0) raw.no_catch g.0 ∷ [], max b.1 g.1 + 1))) (alike_fail r.a_token)))))

  declaration_alike : Alike bounds (s.declaration d n inner) (s.declaration e o outer)
  unfolding r.declaration
  declaration_alike = alike_after alike_take (λ t. alike_after variable_alike (λ v. alike_after (function_alike d e n o inner outer le deep lo all) (λ f. alike_pure (raw.fun_decl t.place v f.0.0 (stmts f.0.1) ∷ [], f.1 + 1))))

  -- ---- statements

  stmt_by_alike : (c : Context) (x : Start) → Alike bounds (s.stmt_by d n inner c x) (s.stmt_by e o outer c x)
  stmt_by_alike c r.is_block = deeper 0 _ _ (block_alike c)
  stmt_by_alike c r.is_vars = vars_alike
  stmt_by_alike c r.is_empty = alike_behind (alike_pure ([], 0))
  stmt_by_alike c r.is_if = deeper 0 _ _ (choice_alike c)
  stmt_by_alike c r.is_do = deeper 0 _ _ (do_while_alike c)
  stmt_by_alike c r.is_while = deeper 0 _ _ (while_alike c)
  stmt_by_alike c r.is_for = deeper 0 _ _ (for_alike c)
  stmt_by_alike c r.is_continue = continue_alike c
  stmt_by_alike c r.is_break = break_alike c
  stmt_by_alike c r.is_return = return_alike c
  stmt_by_alike c r.is_switch = deeper 0 _ _ (switch_alike c)
  stmt_by_alike c r.is_throw = throw_alike
  stmt_by_alike c r.is_try = deeper 1 _ _ (try_alike c)
  stmt_by_alike c r.is_declaration = alike_fork c.declares _ _ _ _ (deeper 0 _ _ declaration_alike) (alike_stops (refused construct.BlockFunction))
  stmt_by_alike c r.is_any = alike_behind (alike_pure ([], 0))
  stmt_by_alike c (r.is_name v) = begins_with_name_alike c v
  stmt_by_alike c r.is_plain = plain_alike

  pub stmt_alike : (c : Context) → Alike bounds (s.stmt_of d n inner c) (s.stmt_of e o outer c)
  unfolding r.stmt_of
  stmt_alike c = alike_look _ _ (λ t. stmt_by_alike c (start_of t.kind))

  deeper_inner : AlikeInner bounds (record { expr = s.expr_of d n inner; stmt = s.stmt_of d n inner }) (record { expr = s.expr_of e o outer; stmt = s.stmt_of e o outer })
  deeper_inner = record { expr = own_expr; stmt = stmt_alike; follows = expr_follows d e n o inner outer le deep lo all }

-- ---- at each depth

no_depth_follows : Follows s.no_depth.expr
no_depth_follows = record { is = λ b l m count v j xs ll q. held }

no_depth_alike : {bounds : Bounds} → AlikeInner bounds s.no_depth s.no_depth
no_depth_alike = record { expr = λ b l. alike_stops depth; stmt = λ c. alike_stops depth; follows = no_depth_follows }

depth_alike : {bounds : Bounds} {d : ℕ} (outer : In) → Deeper bounds 0 (suc d) → AlikeInner bounds s.no_depth outer
depth_alike outer q = record { expr = λ b l. alike_depth (outer.expr b l) q; stmt = λ c. alike_depth (outer.stmt c) q; follows = no_depth_follows }

pub reader_alike : {bounds : Bounds} (d e n o : ℕ) → d ≤ e → Deeper bounds d e → n ≤ o → AlikeInner bounds (s.reader n d) (s.reader o e)
unfolding r.reader
reader_alike zero zero n o le q lo = deeper_inner 0 0 n o s.no_depth s.no_depth le q lo no_depth_alike
reader_alike zero (suc e) n o le q lo = deeper_inner 0 (suc e) n o s.no_depth (s.reader o e) le q lo (depth_alike (s.reader o e) q)
reader_alike (suc d) zero n o le q lo = absurd (omega arith)
reader_alike (suc d) (suc e) n o le q lo = deeper_inner (suc d) (suc e) n o (s.reader n d) (s.reader o e) le q lo (reader_alike d e n o (omega arith) (one_less q) lo)

-- More depth and more turns change no answer but a limit, and so do more turns alone.
pub program_alike : {bounds : Bounds} (d e n o : ℕ) → d ≤ e → Deeper bounds d e → n ≤ o → Alike bounds (read_symbols n d) (read_symbols o e)
unfolding read_symbols r.program
program_alike d e n o le q lo = alike_after (list_alike (suc d) (suc e) n o (s.reader n d) (s.reader o e) (omega arith) (one_more q) lo (reader_alike d e n o le q lo) of_program n o [] 0 lo) (λ b. alike_after alike_expect_end (λ _. alike_pure b))

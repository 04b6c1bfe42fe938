-- Two readings of the same symbols up to a place where a part is due: declarations, branches and loops.
use Rattle.std.specs.Prelude.{◌≡◌, ℕ, zero, suc, ◌+◌, ◌≤◌, max, Bool, true, false, cond, List, [], ◌∷◌, ◌++◌, Option, Some, None}
use Rattle.std.proofs.Common.{refl, arith}
use Rattle.cc_ast.specs.declared.place.Place.{Place}
use Rattle.cc_lexer.specs.declared.token.Mark.{Mark}
use Rattle.cc_lexer.specs.declared.token.Mark.TheVariants as mark
use Rattle.cc_lexer.specs.declared.word.Word.TheVariants as word
use Rattle.cc_grammar.specs.Symbols.{look, is_mark, is_word}
use Rattle.cc_grammar.specs.RawTree.{RawExpr, RawTarget, RawStmt, RawDeclarator, RawInit, stmts}
use Rattle.cc_grammar.specs.RawTree as raw
use Rattle.cc_grammar.specs.Signs.{target_of}
use Rattle.cc_grammar.specs.Grammar.{Context, inside, in_loop}
use Rattle.cc_grammar.specs.Reading.{Sized, spent}
use Rattle.cc_grammar.specs.Reading as r
use Rattle.cc_grammar.proofs.Marked.{In}
use Rattle.cc_grammar.proofs.Swapping.Swap.{Change, IsPair, Later, Swap, Taking, Swaps, Look, swap_after, swap_pure, swap_look, take_then, behind, swap_limit, steady, by_place, alike_listed, like_test, mark_test, swap_expect, swap_close, swap_end}
use Rattle.cc_grammar.proofs.Swapping.SwapSites.{same_end}
use Rattle.cc_grammar.proofs.Swapping.SwapParts.{SwapInner, word_test, swap_word, variable_swap}
use Rattle.cc_grammar.proofs.Swapping.SwapLists.{body_swap}
use Rattle.cc_grammar.proofs.Swapping.SwapExpressions.{expr_swap}
use Rattle.cc_grammar.proofs.OnSymbols as s

module _ (x : Change) (w : IsPair x) (d e n o : ℕ) (inner outer : In) (same : x.turns ≡ n) (le : d ≤ e) (lo : n ≤ o) (all : SwapInner x inner outer) where
  -- ---- variables and expressions

  module _ (expr more : Bool → ℕ → s.Reader (Sized RawExpr)) (h : (b : Bool) (l : ℕ) → Swap x (expr b l) (more b l)) (b : Bool) where
    declarator_swap : Swap x (s.declarator d n inner expr b) (s.declarator e o outer more b)
    unfolding r.declarator
    declarator_swap = swap_after x (variable_swap x w) (λ v. swap_look x (mark_test x w mark.Equal
        (λ _. behind x (swap_after x (h b 1) (λ y. swap_pure x (record { variable = v; value = raw.one_expr y.0 }, y.1)))) (steady x (swap_pure x (record { variable = v; value = raw.no_expr }, 0)))))

    pub declarators_swap : (m u : ℕ) (found : List RawDeclarator) (j : ℕ) → m ≤ u → Swap x (s.declarators d n inner expr b m found j) (s.declarators e o outer more b u found j)
    unfolding r.declarators
    declarators_swap zero u found j lt = swap_limit x spent (s.declarators e o outer more b u found j) refl
    declarators_swap (suc m) zero found j lt = absurd (omega arith)
    declarators_swap (suc m) (suc u) found j lt = swap_after x declarator_swap (λ y. swap_look x (mark_test x w mark.Comma
        (λ _. behind x (declarators_swap m u (found ++ y.0 ∷ []) (max j y.1) (omega arith))) (steady x (swap_pure x (found ++ y.0 ∷ [], max j y.1)))))

  pub own_expr : (b : Bool) (l : ℕ) → Swap x (s.expr_of d n inner b l) (s.expr_of e o outer b l)
  own_expr b l = expr_swap x w d e n o inner outer same le lo all b l

  pub vars_swap : Taking x (s.vars d n inner) (s.vars e o outer)
  unfolding r.vars
  vars_swap = take_then x (λ t. swap_after x (declarators_swap (s.expr_of d n inner) (s.expr_of e o outer) own_expr true n o [] 0 lo) (λ vs. swap_end x w (raw.vars t.place (raw.declarators vs.0) ∷ [], vs.1)))

  pub simple_swap : (p : Place) (y : Sized RawExpr) → Swap x (s.simple d n inner p y) (s.simple e o outer p y)
  simple_swap p y = swap_end x w (raw.simple p y.0 ∷ [], y.1)

  -- the place of the token is that of the part
  pub plain_swap : Swap x (s.plain d n inner) (s.plain e o outer)
  unfolding r.plain
  plain_swap = swap_look x {p = λ t i. r.and_then (s.expr_of d n inner true 0 i) (s.simple d n inner t.place)} {q = λ t i. r.and_then (s.expr_of e o outer true 0 i) (s.simple e o outer t.place)}
      (by_place x {p = λ p i. r.and_then (s.expr_of d n inner true 0 i) (s.simple d n inner p)} {q = λ p i. r.and_then (s.expr_of e o outer true 0 i) (s.simple e o outer p)} (λ p. swap_after x (own_expr true 0) (λ y. simple_swap p y)))

  pub block_swap : (c : Context) → Taking x (s.block d n inner c) (s.block e o outer c)
  unfolding r.block
  block_swap c = behind x (swap_after x (body_swap x w d e n o inner outer lo all (inside c)) (λ b. swap_pure x (b.0, b.1 + 1)))

  pub head_swap : Swap x (s.head d n inner) (s.head e o outer)
  unfolding r.head
  head_swap = swap_after x (swap_expect x w mark.OpenParen) (λ _. swap_after x (all.expr true 0) (λ y. swap_close x w mark.CloseParen y))

  -- ---- branches and loops

  otherwise_swap : (c : Context) (p : Place) (y : Sized RawExpr) (a : Sized (List RawStmt)) → Swap x (s.otherwise d n inner c p y a) (s.otherwise e o outer c p y a)
  unfolding r.otherwise
  otherwise_swap c p y a = swap_look x (word_test x w word.Else refl
      (λ _. behind x (swap_after x (all.stmt (inside c)) (λ b. swap_pure x (raw.if p y.0 (stmts a.0) (stmts b.0) ∷ [], max y.1 (max a.1 b.1) + 1))))
      (steady x (swap_pure x (raw.if p y.0 (stmts a.0) raw.no_stmts ∷ [], max y.1 a.1 + 1))))

  pub choice_swap : (c : Context) → Taking x (s.choice d n inner c) (s.choice e o outer c)
  unfolding r.choice
  choice_swap c = take_then x (λ t. swap_after x head_swap (λ y. swap_after x (all.stmt (inside c)) (λ a. otherwise_swap c t.place y a)))

  pub do_while_swap : (c : Context) → Taking x (s.do_while d n inner c) (s.do_while e o outer c)
  unfolding r.do_while
  do_while_swap c = take_then x (λ t. swap_after x (all.stmt (in_loop c)) (λ b. swap_after x (swap_word x w word.While refl) (λ _. swap_after x head_swap (λ y.
      swap_end x w (raw.do_while t.place (stmts b.0) y.0 ∷ [], max y.1 b.1 + 1)))))

  pub while_swap : (c : Context) → Taking x (s.while d n inner c) (s.while e o outer c)
  unfolding r.while
  while_swap c = take_then x (λ t. swap_after x head_swap (λ y. swap_after x (all.stmt (in_loop c)) (λ b. swap_pure x (raw.while t.place y.0 (stmts b.0) ∷ [], max y.1 b.1 + 1))))

  -- ---- `for`

  -- the marks that end an absent part are no such tokens
  optional_swap : (m : Mark) → is_mark m x.kind ≡ false → Swap x (s.optional d n inner m) (s.optional e o outer m)
  unfolding r.optional
  optional_swap m q = swap_look x (like_test x (λ t. is_mark m t.kind) q (steady x (swap_pure x (raw.no_expr, 0))) (steady x (swap_after x (all.expr true 0) (λ y. swap_pure x (raw.one_expr y.0, y.1)))))

  for_rest_swap : (c : Context) (p : Place) (a : Sized RawInit) → Swap x (s.for_rest d n inner c p a) (s.for_rest e o outer c p a)
  unfolding r.for_rest
  for_rest_swap c p a = swap_after x (swap_expect x w mark.Semicolon) (λ _. swap_after x (optional_swap mark.Semicolon (same_end (is_mark mark.Semicolon) refl refl refl refl refl (λ v. refl) w)) (λ y.
      swap_after x (swap_expect x w mark.Semicolon) (λ _. swap_after x (optional_swap mark.CloseParen (same_end (is_mark mark.CloseParen) refl refl refl refl refl (λ v. refl) w)) (λ f.
      swap_after x (swap_expect x w mark.CloseParen) (λ _. swap_after x (all.stmt (in_loop c)) (λ b. swap_pure x (raw.for p a.0 y.0 f.0 (stmts b.0) ∷ [], max (max a.1 (max y.1 f.1)) b.1 + 1)))))))

  for_in_swap : (c : Context) (p : Place) (g : raw.RawForTarget) (h : ℕ) → Taking x (s.for_in d n inner c p g h) (s.for_in e o outer c p g h)
  unfolding r.for_in
  for_in_swap c p g h = behind x (swap_after x (all.expr true 0) (λ y. swap_after x (swap_expect x w mark.CloseParen) (λ _. swap_after x (all.stmt (in_loop c)) (λ b. swap_pure x (raw.for_in p g y.0 (stmts b.0) ∷ [], max (max h y.1) b.1 + 1)))))

  no_in : is_word word.In x.kind ≡ false
  no_in = same_end (is_word word.In) refl refl refl refl refl (λ v. refl) w

  for_vars_later : (c : Context) (p : Place) (vs : List RawDeclarator) (h : ℕ) (b : Bool) → Later x (s.for_vars_by d n inner c p vs h b) (s.for_vars_by e o outer c p vs h b)
  for_vars_later c p [] h true = (for_rest_swap c p (raw.init_vars raw.no_declarators, h)).later
  for_vars_later c p [] h false = (for_rest_swap c p (raw.init_vars raw.no_declarators, h)).later
  for_vars_later c p (v ∷ []) h true = (for_in_swap c p (raw.in_declared v.variable v.value) h).later
  for_vars_later c p (v ∷ []) h false = (for_rest_swap c p (raw.init_vars (raw.declarators (v ∷ [])), h)).later
  for_vars_later c p (v ∷ z ∷ vs) h true = (for_rest_swap c p (raw.init_vars (raw.declarators (v ∷ z ∷ vs)), h)).later
  for_vars_later c p (v ∷ z ∷ vs) h false = (for_rest_swap c p (raw.init_vars (raw.declarators (v ∷ z ∷ vs)), h)).later

  for_vars_first : (c : Context) (p : Place) (vs : List RawDeclarator) (h : ℕ) → Swaps x (s.for_vars_by d n inner c p vs h false) (s.for_vars_by e o outer c p vs h false) []
  for_vars_first c p [] h = (for_rest_swap c p (raw.init_vars raw.no_declarators, h)).first
  for_vars_first c p (v ∷ []) h = (for_rest_swap c p (raw.init_vars (raw.declarators (v ∷ [])), h)).first
  for_vars_first c p (v ∷ z ∷ vs) h = (for_rest_swap c p (raw.init_vars (raw.declarators (v ∷ z ∷ vs)), h)).first

  for_vars_look : (c : Context) (p : Place) (vs : List RawDeclarator) (h : ℕ) → Look x (λ t. s.for_vars_by d n inner c p vs h (is_word word.In t.kind)) (λ t. s.for_vars_by e o outer c p vs h (is_word word.In t.kind))
  for_vars_look c p vs h = alike_listed x (is_word word.In) false {p = λ b _. s.for_vars_by d n inner c p vs h b} {q = λ b _. s.for_vars_by e o outer c p vs h b} no_in refl (for_vars_first c p vs h) (λ b _. for_vars_later c p vs h b)

  for_value_later : (c : Context) (p : Place) (y : Sized RawExpr) (g : Option RawTarget) (b : Bool) → Later x (s.for_value_by d n inner c p y g b) (s.for_value_by e o outer c p y g b)
  for_value_later c p y (Some g) true = (for_in_swap c p (raw.in_target g) y.1).later
  for_value_later c p y (Some g) false = (for_rest_swap c p (raw.init_value y.0, y.1)).later
  for_value_later c p y None true = (for_rest_swap c p (raw.init_value y.0, y.1)).later
  for_value_later c p y None false = (for_rest_swap c p (raw.init_value y.0, y.1)).later

  for_value_first : (c : Context) (p : Place) (y : Sized RawExpr) (g : Option RawTarget) → Swaps x (s.for_value_by d n inner c p y g false) (s.for_value_by e o outer c p y g false) []
  for_value_first c p y (Some g) = (for_rest_swap c p (raw.init_value y.0, y.1)).first
  for_value_first c p y None = (for_rest_swap c p (raw.init_value y.0, y.1)).first

  for_value_look : (c : Context) (p : Place) (y : Sized RawExpr) (g : Option RawTarget) → Look x (λ t. s.for_value_by d n inner c p y g (is_word word.In t.kind)) (λ t. s.for_value_by e o outer c p y g (is_word word.In t.kind))
  for_value_look c p y g = alike_listed x (is_word word.In) false {p = λ b _. s.for_value_by d n inner c p y g b} {q = λ b _. s.for_value_by e o outer c p y g b} no_in refl (for_value_first c p y g) (λ b _. for_value_later c p y g b)

  -- no `in` is one of the tokens, and no semicolon
  for_head_swap : (c : Context) (p : Place) → Look x (λ u. cond (is_mark mark.Semicolon u.kind) (s.for_rest d n inner c p (raw.no_init, 0)) (λ i. r.and_then (inner.expr false 0 i) (λ y j. s.for_value_by d n inner c p y (target_of y.0) (is_word word.In (look j).kind) j)))
      (λ u. cond (is_mark mark.Semicolon u.kind) (s.for_rest e o outer c p (raw.no_init, 0)) (λ i. r.and_then (outer.expr false 0 i) (λ y j. s.for_value_by e o outer c p y (target_of y.0) (is_word word.In (look j).kind) j)))
  for_head_swap c p = like_test x (λ u. is_mark mark.Semicolon u.kind) (same_end (is_mark mark.Semicolon) refl refl refl refl refl (λ v. refl) w) (steady x (for_rest_swap c p (raw.no_init, 0)))
      (steady x (swap_after x (all.expr false 0) (λ y. swap_look x (for_value_look c p y (target_of y.0)))))

  pub for_swap : (c : Context) → Taking x (s.for d n inner c) (s.for e o outer c)
  unfolding r.for
  for_swap c = take_then x (λ t. swap_after x (swap_expect x w mark.OpenParen) (λ _. swap_look x (word_test x w word.Var refl
      (λ _. behind x (swap_after x (declarators_swap inner.expr outer.expr all.expr false n o [] 0 lo) (λ vs. swap_look x (for_vars_look c t.place vs.0 vs.1)))) (for_head_swap c t.place))))

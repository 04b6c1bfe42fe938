-- The readers of expressions, with more depth and more turns, do the same as far as they got, and look no further than the
-- next symbol, but to tell whether a variable is deleted.
use Rattle.std.specs.Prelude.{◌≡◌, ℕ, zero, suc, ◌+◌, ◌≤◌, max, ◌&&◌, ◌==◌, Bool, true, false, Ok, Err, cond, nat_lt, is_some, not, List, [], ◌∷◌, ◌++◌, Option, Some, None, ◌⊎◌}
use Rattle.std.proofs.Common.{ap, subst, arith, lt-ltb, ltb-true, inl, inr}
use Rattle.cc_ast.specs.declared.operator.BinOp.{BinOp}
use Rattle.cc_ast.specs.declared.place.Place.{Place}
use Rattle.cc_ast.specs.declared.reading.Construct.TheVariants as construct
use Rattle.cc_ast.specs.Syntax.{undefined}
use Rattle.cc_lexer.specs.declared.token.Mark.TheVariants as mark
use Rattle.cc_grammar.specs.Symbols.{Symbols, look, rest, is_mark}
use Rattle.cc_grammar.specs.RawTree.{RawExpr, RawTarget, RawStmt, RawKey, RawField, Named, exprs, fields, stmts}
use Rattle.cc_grammar.specs.RawTree as raw
use Rattle.cc_grammar.specs.Signs.{Prefix, unary, Infix, parenthesised, key_of, property_of, is_accessor, target_of, step_of, prefix_of, prefix_tree, infix_of, level, infix_tree, assign_of}
use Rattle.cc_grammar.specs.Signs as sign
use Rattle.cc_grammar.specs.Grammar.{Context, of_function}
use Rattle.cc_grammar.specs.Reading.{Outcome, Sized, Head, Suffix, and_then, semicolon_symbol, depth, spent, refused, variable_of, head_of, suffix_of, ends_list, goes_on, is_delete, is_element, is_remedy}
use Rattle.cc_grammar.specs.Reading as r
use Rattle.cc_grammar.proofs.Marked.{In}
use Rattle.cc_grammar.proofs.Alikeness.Alike.{Bounds, Deeper, bounded, equal, one_less, one_more, Stands, Near, unread, there, Alike, stands_after, alike_after, alike_pure, alike_refuse, alike_look, alike_take, alike_behind, alike_fork, alike_fail, alike_stops, alike_spent, alike_depth, alike_deeper, alike_expect, alike_close, alike_unless}
use Rattle.cc_grammar.proofs.OnSymbols as s

-- Where it is read, it is so up to where the look ahead has come to, or farther.
pub data Follow (count : ℕ) (v : Bool) (j : Symbols) {A : Type 0} : Outcome Symbols A → Type 0 where
  held : {x : r.Fault × Symbols} → Follow count v j (Err x)
  on : {a : A} {i : Symbols} → s.closed count i ≡ Ok (v, j) → Follow count v j (Ok (a, i))
  past : {o : Outcome Symbols A} → Stands j o → Follow count v j o

-- Reading comes as far as the look ahead.
pub record Follows (expr : Bool → ℕ → s.Reader (Sized RawExpr)) : Type 0 where
  pub is : (b : Bool) (l m count : ℕ) (v : Bool) (j xs : Symbols) → l ≤ 13 → s.opened m count xs ≡ Ok (v, j) → Follow count v j (expr b l xs)

pub record AlikeInner (bounds : Bounds) (inner outer : In) : Type 0 where
  pub expr : (b : Bool) (l : ℕ) → Alike bounds (inner.expr b l) (outer.expr b l)
  pub stmt : (c : Context) → Alike bounds (inner.stmt c) (outer.stmt c)
  pub follows : Follows inner.expr

-- ---- variables and parameters

variable_by_alike : {bounds : Bounds} (v : Option (List ℕ)) → Alike bounds (s.variable_by v) (s.variable_by v)
variable_by_alike None = alike_fail r.a_variable
variable_by_alike (Some v) = alike_after alike_take (λ t. alike_pure (record { place = t.place; name = v }))

pub variable_alike : {bounds : Bounds} → Alike bounds s.variable s.variable
unfolding r.variable
variable_alike = alike_look _ _ (λ t. variable_by_alike (variable_of t.kind))

params_alike : {bounds : Bounds} (m u : ℕ) (found : List Named) → m ≤ u → Alike bounds (s.params m found) (s.params u found)
unfolding r.params
params_alike zero u found lt = alike_spent (s.params u found)
params_alike (suc m) zero found lt = absurd (omega arith)
params_alike (suc m) (suc u) found lt = alike_after variable_alike (λ v. alike_look _ _ (λ t. alike_fork (is_mark mark.Comma t.kind) _ _ _ _
    (alike_behind (params_alike m u (found ++ v ∷ []) (omega arith))) (alike_close mark.CloseParen (found ++ v ∷ []))))

params_of_alike : {bounds : Bounds} (m u : ℕ) → m ≤ u → Alike bounds (s.params_of m) (s.params_of u)
unfolding r.params_of
params_of_alike m u lt = alike_look _ _ (λ t. alike_fork (is_mark mark.CloseParen t.kind) _ _ _ _ (alike_behind (alike_pure [])) (params_alike m u [] lt))

own_name_by_alike : {bounds : Bounds} (v : Option (List ℕ)) (b : Bool) → Alike bounds (s.own_name_by v b) (s.own_name_by v b)
own_name_by_alike None true = alike_pure None
own_name_by_alike None false = alike_fail r.a_variable
own_name_by_alike (Some v) b = alike_after alike_take (λ t. alike_pure (Some (record { place = t.place; name = v })))

own_name_alike : {bounds : Bounds} → Alike bounds s.own_name s.own_name
unfolding r.own_name
own_name_alike = alike_look _ _ (λ t. own_name_by_alike (variable_of t.kind) (is_mark mark.OpenParen t.kind))

closed_alike : {bounds : Bounds} (count : ℕ) → Alike bounds (s.closed count) (s.closed count)
unfolding r.closed
closed_alike zero = alike_look _ _ (λ t. alike_pure (not (goes_on t)))
closed_alike (suc m) = alike_look _ _ (λ t. alike_fork (is_mark mark.CloseParen t.kind) _ _ _ _ (alike_behind (closed_alike m)) (alike_pure false))

pub opened_alike : {bounds : Bounds} (m u count : ℕ) → m ≤ u → Alike bounds (s.opened m count) (s.opened u count)
unfolding r.opened
opened_alike zero u count lt = alike_spent (s.opened u count)
opened_alike (suc m) zero count lt = absurd (omega arith)
opened_alike (suc m) (suc u) count lt = alike_look _ _ (λ t. alike_fork (is_mark mark.OpenParen t.kind) _ _ _ _ (alike_behind (opened_alike m u (suc count) (omega arith)))
    (alike_fork (is_some (variable_of t.kind)) _ _ _ _ (alike_behind (closed_alike count)) (alike_pure false)))

-- ---- behind the look ahead

pub at_zero : {v : Bool} {i j : Symbols} → s.closed 0 i ≡ Ok (v, j) → i ≡ j
unfolding r.closed
at_zero {v} {i} {j} e = let pairs : ◌≡◌ {A = Bool × Symbols} (not (goes_on (look i)), i) (v, j) = cc in ap (λ (p : Bool × Symbols). p.1) pairs

near_after : {A B : Type 0} {j : Symbols} {u : Outcome Symbols A} (f : A → s.Reader B) → Follow 0 false j u → ((a : A) (ys : Symbols) → Stands ys (f a ys)) → Near j (and_then u f)
near_after f held h = unread
near_after {j} f (on {a} {i} e) h = there (subst (λ z. Stands z (f a i)) (at_zero e) (h a i))
near_after {j} {u} f (past l) h = there (stands_after j u f l h)

module _ {bounds : Bounds} (d e n o : ℕ) (inner outer : In) (le : d ≤ e) (deep : Deeper bounds d e) (lo : n ≤ o) (all : AlikeInner bounds inner outer) where
  pub deeper_alike : {A : Type 0} (h : ℕ) (p q : s.Reader A) → Alike bounds p q
      → Alike bounds (λ i. cond (nat_lt h d) (p i) (Err (record { cause = depth; place = (look i).place }, i))) (λ i. cond (nat_lt h e) (q i) (Err (record { cause = depth; place = (look i).place }, i)))
  deeper_alike h p q l = alike_deeper (nat_lt h d) (nat_lt h e) p q (λ lt. lt-ltb h e (omega (arith, ltb-true h d lt))) (as_deep deep) l where
    as_deep : Deeper bounds d e → (bounds.is depth ≡ true) ⊎ (nat_lt h d ≡ nat_lt h e)
    as_deep (bounded e) = inl e
    as_deep (equal e) = inr (ap (nat_lt h) e)

  -- ---- lists

  elements_alike : (m u : ℕ) (found : List RawExpr) (h : ℕ) → m ≤ u → Alike bounds (s.elements d n inner m found h) (s.elements e o outer u found h)
  unfolding r.elements
  elements_alike zero u found h lt = alike_spent (s.elements e o outer u found h)
  elements_alike (suc m) zero found h lt = absurd (omega arith)
  elements_alike (suc m) (suc u) found h lt = alike_look _ _ (λ t. alike_fork (is_mark mark.CloseBracket t.kind) _ _ _ _ (alike_behind (alike_pure (found, h)))
      (alike_fork (is_element t.kind) _ _ _ _ (alike_after (alike_behind (alike_expect mark.CloseBracket)) (λ _. alike_pure (found, h)))
      (alike_fork (is_mark mark.Comma t.kind) _ _ _ _ (alike_stops (refused construct.Hole))
      (alike_after (all.expr true 1) (λ x. alike_look _ _ (λ v. alike_fork (is_mark mark.Comma v.kind) _ _ _ _
      (alike_behind (elements_alike m u (found ++ x.0 ∷ []) (max h x.1) (omega arith))) (alike_close mark.CloseBracket (found ++ x.0 ∷ [], max h x.1))))))))

  key_by_alike : (y : Option RawKey) → Alike bounds (s.key_by d n inner y) (s.key_by e o outer y)
  key_by_alike None = alike_fail r.a_token
  key_by_alike (Some y) = alike_after alike_take (λ t. alike_look _ _ (λ u. alike_fork (is_accessor t.kind && is_some (key_of u.kind)) _ _ _ _ (alike_refuse construct.Accessor t.place) (alike_pure (t.place, y))))

  field_alike : Alike bounds (s.field d n inner) (s.field e o outer)
  unfolding r.field
  field_alike = alike_look _ _ (λ t. alike_after (key_by_alike (key_of t.kind)) (λ y. alike_after (alike_expect mark.Colon) (λ _. alike_after (all.expr true 1) (λ x.
      alike_pure (record { place = y.0; key = y.1; value = x.0 }, x.1)))))

  fields_alike : (m u : ℕ) (found : List RawField) (h : ℕ) → m ≤ u → Alike bounds (s.object_fields d n inner m found h) (s.object_fields e o outer u found h)
  unfolding r.object_fields
  fields_alike zero u found h lt = alike_spent (s.object_fields e o outer u found h)
  fields_alike (suc m) zero found h lt = absurd (omega arith)
  fields_alike (suc m) (suc u) found h lt = alike_look _ _ (λ t. alike_fork (is_mark mark.CloseBrace t.kind) _ _ _ _ (alike_behind (alike_pure (found, h)))
      (alike_after field_alike (λ x. alike_look _ _ (λ v. alike_fork (is_mark mark.Comma v.kind) _ _ _ _
      (alike_behind (fields_alike m u (found ++ x.0 ∷ []) (max h x.1) (omega arith))) (alike_close mark.CloseBrace (found ++ x.0 ∷ [], max h x.1))))))

  arguments_alike : (m u : ℕ) (found : List RawExpr) (h : ℕ) → m ≤ u → Alike bounds (s.arguments d n inner m found h) (s.arguments e o outer u found h)
  unfolding r.arguments
  arguments_alike zero u found h lt = alike_spent (s.arguments e o outer u found h)
  arguments_alike (suc m) zero found h lt = absurd (omega arith)
  arguments_alike (suc m) (suc u) found h lt = alike_after (all.expr true 1) (λ x. alike_look _ _ (λ t. alike_fork (is_mark mark.Comma t.kind) _ _ _ _
      (alike_behind (arguments_alike m u (found ++ x.0 ∷ []) (max h x.1) (omega arith))) (alike_close mark.CloseParen (found ++ x.0 ∷ [], max h x.1))))

  pub arguments_of_alike : Alike bounds (s.arguments_of d n inner) (s.arguments_of e o outer)
  unfolding r.arguments_of
  arguments_of_alike = alike_look _ _ (λ t. alike_fork (is_mark mark.CloseParen t.kind) _ _ _ _ (alike_behind (alike_pure ([], 0))) (arguments_alike n o [] 0 lo))

  pub list_alike : (c : Context) (m u : ℕ) (found : List RawStmt) (h : ℕ) → m ≤ u → Alike bounds (s.list d n inner c m found h) (s.list e o outer c u found h)
  unfolding r.list
  list_alike c zero u found h lt = alike_spent (s.list e o outer c u found h)
  list_alike c (suc m) zero found h lt = absurd (omega arith)
  list_alike c (suc m) (suc u) found h lt = alike_look _ _ (λ t. alike_fork (ends_list t.kind) _ _ _ _ (alike_pure (found, h)) (alike_after (all.stmt c) (λ x. list_alike c m u (found ++ x.0) (max h x.1) (omega arith))))

  pub body_alike : (c : Context) → Alike bounds (s.body d n inner c) (s.body e o outer c)
  unfolding r.body
  body_alike c = alike_after (list_alike c n o [] 0 lo) (λ x. alike_close mark.CloseBrace x)

  pub function_alike : Alike bounds (s.function d n inner) (s.function e o outer)
  unfolding r.function
  function_alike = alike_after (alike_expect mark.OpenParen) (λ _. alike_after (params_of_alike n o lo) (λ ps. alike_after (alike_expect mark.OpenBrace) (λ _. alike_after (body_alike of_function) (λ b. alike_pure ((ps, b.0), b.1)))))

  -- ---- primary expressions

  parentheses_alike : Alike bounds (s.parentheses d n inner) (s.parentheses e o outer)
  unfolding r.parentheses
  parentheses_alike = alike_after alike_take (λ t. alike_after (all.expr true 0) (λ x. alike_close mark.CloseParen (parenthesised t x.0, x.1 + 1)))

  array_alike : Alike bounds (s.array d n inner) (s.array e o outer)
  unfolding r.array
  array_alike = alike_after alike_take (λ t. alike_after (elements_alike n o [] 0 lo) (λ x. alike_pure (raw.list t.place (exprs x.0), x.1 + 1)))

  object_alike : Alike bounds (s.object d n inner) (s.object e o outer)
  unfolding r.object
  object_alike = alike_after alike_take (λ t. alike_after (fields_alike n o [] 0 lo) (λ x. alike_pure (raw.object t.place (fields x.0), x.1 + 1)))

  function_expr_alike : Alike bounds (s.function_expr d n inner) (s.function_expr e o outer)
  unfolding r.function_expr
  function_expr_alike = alike_after alike_take (λ t. alike_after own_name_alike (λ w. alike_after function_alike (λ f. alike_pure (raw.fun t.place w f.0.0 (stmts f.0.1), f.1 + 1))))

  new_expr_alike : (b : Bool) → Alike bounds (s.new_expr d n inner b) (s.new_expr e o outer b)
  unfolding r.new_expr
  new_expr_alike b = alike_after alike_take (λ t. alike_after (all.expr b 17) (λ f. alike_look _ _ (λ u. alike_fork (is_mark mark.OpenParen u.kind) _ _ _ _
      (alike_behind (alike_after arguments_of_alike (λ x. alike_pure (raw.new t.place f.0 (exprs x.0), max f.1 x.1 + 1)))) (alike_pure (raw.new t.place f.0 raw.no_exprs, f.1 + 1)))))

  primary_by_alike : (b : Bool) (x : Head) → Alike bounds (s.primary_by d n inner b x) (s.primary_by e o outer b x)
  primary_by_alike b r.no_head = alike_fail r.an_operand
  primary_by_alike b r.is_this = alike_after alike_take (λ t. alike_pure (raw.this t.place, 0))
  primary_by_alike b (r.is_literal p) = alike_after alike_take (λ t. alike_pure (raw.lit t.place p, 0))
  primary_by_alike b (r.is_variable v) = alike_after alike_take (λ t. alike_pure (raw.var t.place v, 0))
  primary_by_alike b r.is_operand = alike_after alike_take (λ t. alike_pure (raw.lit t.place undefined, 0))
  primary_by_alike b r.is_paren = deeper_alike 0 _ _ parentheses_alike
  primary_by_alike b r.is_array = deeper_alike 0 _ _ array_alike
  primary_by_alike b r.is_object = deeper_alike 0 _ _ object_alike
  primary_by_alike b r.is_function = deeper_alike 0 _ _ function_expr_alike
  primary_by_alike b r.is_new = deeper_alike 0 _ _ (new_expr_alike b)

  pub primary_alike : (b : Bool) → Alike bounds (s.primary d n inner b) (s.primary e o outer b)
  unfolding r.primary
  primary_alike b = alike_look _ _ (λ t. primary_by_alike b (head_of t.kind))

  -- ---- suffixes

  property_alike : (v : Option (List ℕ)) → Alike bounds (s.property_by d n inner v) (s.property_by e o outer v)
  property_alike None = alike_fail r.a_token
  property_alike (Some v) = alike_after alike_take (λ t. alike_pure (t.place, v))

  dotted_alike : (a : Sized RawExpr) → Alike bounds (s.dotted d n inner a) (s.dotted e o outer a)
  unfolding r.dotted
  dotted_alike a = alike_after alike_take (λ t. alike_look _ _ (λ u. alike_after (property_alike (property_of u.kind)) (λ p. alike_pure (raw.member t.place a.0 p.0 p.1, a.1 + 1))))

  bracketed_alike : (a : Sized RawExpr) → Alike bounds (s.bracketed d n inner a) (s.bracketed e o outer a)
  unfolding r.bracketed
  bracketed_alike a = alike_after alike_take (λ t. alike_after (all.expr true 0) (λ x. alike_close mark.CloseBracket (raw.index t.place a.0 x.0, max a.1 x.1 + 1)))

  called_alike : (a : Sized RawExpr) → Alike bounds (s.called d n inner a) (s.called e o outer a)
  unfolding r.called
  called_alike a = alike_after alike_take (λ t. alike_after arguments_of_alike (λ x. alike_pure (raw.call t.place a.0 (exprs x.0), max a.1 x.1 + 1)))

  suffix_by_alike : (again more : Sized RawExpr → s.Reader (Sized RawExpr)) (a : Sized RawExpr) (x : Suffix) → ((b : Sized RawExpr) → Alike bounds (again b) (more b)) → Alike bounds (s.suffix_by d n inner again a x) (s.suffix_by e o outer more a x)
  suffix_by_alike again more a r.no_suffix h = alike_pure a
  suffix_by_alike again more a r.by_dot h = deeper_alike a.1 _ _ (alike_after (dotted_alike a) h)
  suffix_by_alike again more a r.by_bracket h = deeper_alike a.1 _ _ (alike_after (bracketed_alike a) h)
  suffix_by_alike again more a r.by_call h = deeper_alike a.1 _ _ (alike_after (called_alike a) h)

  pub suffixes_alike : (calls : Bool) (m u : ℕ) (a : Sized RawExpr) → m ≤ u → Deeper bounds m u → Alike bounds (s.suffixes d n inner calls m a) (s.suffixes e o outer calls u a)
  unfolding r.suffixes
  suffixes_alike calls zero zero a lt q = alike_look _ _ (λ t. suffix_by_alike _ _ a (suffix_of calls t.kind) (λ b. alike_stops depth))
  suffixes_alike calls zero (suc u) a lt q = alike_look _ _ (λ t. suffix_by_alike _ _ a (suffix_of calls t.kind) (λ b. alike_depth (s.suffixes e o outer calls u b) q))
  suffixes_alike calls (suc m) zero a lt q = absurd (omega arith)
  suffixes_alike calls (suc m) (suc u) a lt q = alike_look _ _ (λ t. suffix_by_alike _ _ a (suffix_of calls t.kind) (λ b. suffixes_alike calls m u b (omega arith) (one_less q)))

  -- ---- operators

  postfix_by_alike : (a : Sized RawExpr) (up : Option Bool) (g : Option RawTarget) (line : Bool) → Alike bounds (s.postfix_by d n inner a up g line) (s.postfix_by e o outer a up g line)
  postfix_by_alike a None g line = alike_pure a
  postfix_by_alike a (Some up) None line = alike_pure a
  postfix_by_alike a (Some up) (Some g) true = alike_pure a
  postfix_by_alike a (Some up) (Some g) false = deeper_alike a.1 _ _ (alike_after alike_take (λ t. alike_pure (raw.step t.place up false g, a.1 + 1)))

  postfix_alike : (a : Sized RawExpr) → Alike bounds (s.postfix d n inner a) (s.postfix e o outer a)
  unfolding r.postfix
  postfix_alike a = alike_look _ _ (λ t. postfix_by_alike a (step_of t.kind) (target_of a.0) t.after_line)

  wrong_prefix_alike : (x : Prefix) (p : Place) → Alike bounds (s.wrong_prefix d n inner x p) (s.wrong_prefix e o outer x p)
  wrong_prefix_alike (sign.step up) p = alike_fail r.a_token
  wrong_prefix_alike (unary x) p = alike_refuse construct.DeleteName p

  prefix_by_alike : (x : Prefix) (p : Place) (a : Sized RawExpr) (f : Option RawExpr) → Alike bounds (s.prefix_by d n inner x p a f) (s.prefix_by e o outer x p a f)
  prefix_by_alike x p a (Some f) = alike_pure (f, a.1 + 1)
  prefix_by_alike x p a None = alike_look _ _ (λ t. alike_fork (is_remedy t.kind) _ _ _ _ (alike_behind (alike_pure (raw.lit p undefined, a.1 + 1))) (wrong_prefix_alike x p))

  prefix_expr_alike : (b : Bool) (x : Prefix) → Alike bounds (s.prefix_expr d n inner b x) (s.prefix_expr e o outer b x)
  unfolding r.prefix_expr
  prefix_expr_alike b x = alike_after alike_take (λ t. alike_after (all.expr b 13) (λ a. prefix_by_alike x t.place a (prefix_tree x t.place a.0)))

  near_prefix : (b : Bool) (x : Prefix) (xs j : Symbols) → s.opened n 0 (rest xs) ≡ Ok (false, j) → Near j (cond (nat_lt 0 d) (s.prefix_expr d n inner b x xs) (Err (record { cause = depth; place = (look xs).place }, xs)))
  unfolding r.prefix_expr
  near_prefix b x xs j q = by (nat_lt 0 d) where
    by : (c : Bool) → Near j (cond c (s.prefix_expr d n inner b x xs) (Err (record { cause = depth; place = (look xs).place }, xs)))
    by false = unread
    by true = near_after (λ a. s.prefix_by d n inner x (look xs).place a (prefix_tree x (look xs).place a.0)) (all.follows.is b 13 n 0 false j (rest xs) (omega arith) q)
        (λ a ys. (prefix_by_alike x (look xs).place a (prefix_tree x (look xs).place a.0)).walks ys)

  pub prefixed_alike : (b : Bool) (x : Prefix) → Alike bounds (s.prefixed d n inner b x) (s.prefixed e o outer b x)
  unfolding r.prefixed
  prefixed_alike b x = alike_fork (is_delete x) _ _ _ _
      (alike_look (λ t i. r.unless_deleted Symbols look rest semicolon_symbol (s.opened n 0 (rest i)) t.place (cond (nat_lt 0 d) (s.prefix_expr d n inner b x i) (Err (record { cause = depth; place = (look i).place }, i))))
      (λ t i. r.unless_deleted Symbols look rest semicolon_symbol (s.opened o 0 (rest i)) t.place (cond (nat_lt 0 e) (s.prefix_expr e o outer b x i) (Err (record { cause = depth; place = (look i).place }, i))))
      (λ t. alike_unless t.place (λ i. s.opened n 0 (rest i)) (λ i. s.opened o 0 (rest i)) _ _ (λ xs j q. near_prefix b x xs j q) (alike_behind (opened_alike n o 0 lo)) (deeper_alike 0 _ _ (prefix_expr_alike b x))))
      (deeper_alike 0 _ _ (prefix_expr_alike b x))

  climb_by_alike : (b : Bool) (l : ℕ) (a : Sized RawExpr) (again more : Sized RawExpr → s.Reader (Sized RawExpr)) (x : Option Infix) → ((c : Sized RawExpr) → Alike bounds (again c) (more c))
      → Alike bounds (s.climb_by d n inner again b l a x) (s.climb_by e o outer more b l a x)
  climb_by_alike b l a again more None h = alike_pure a
  climb_by_alike b l a again more (Some x) h = alike_fork (nat_lt (level x) l) _ _ _ _ (alike_pure a)
      (deeper_alike a.1 _ _ (alike_after alike_take (λ t. alike_after (all.expr b (level x + 1)) (λ c. h (infix_tree x t.place a.0 c.0, max a.1 c.1 + 1)))))

  climb_alike : (b : Bool) (l m u : ℕ) (a : Sized RawExpr) → m ≤ u → Deeper bounds m u → Alike bounds (s.climb d n inner b l m a) (s.climb e o outer b l u a)
  unfolding r.climb
  climb_alike b l zero zero a lt q = alike_look _ _ (λ t. climb_by_alike b l a _ _ (infix_of b t.kind) (λ c. alike_stops depth))
  climb_alike b l zero (suc u) a lt q = alike_look _ _ (λ t. climb_by_alike b l a _ _ (infix_of b t.kind) (λ c. alike_depth (s.climb e o outer b l u c) q))
  climb_alike b l (suc m) zero a lt q = absurd (omega arith)
  climb_alike b l (suc m) (suc u) a lt q = alike_look _ _ (λ t. climb_by_alike b l a _ _ (infix_of b t.kind) (λ c. climb_alike b l m u c (omega arith) (one_less q)))

  conditional_alike : (b : Bool) (a : Sized RawExpr) → Alike bounds (s.conditional d n inner b a) (s.conditional e o outer b a)
  unfolding r.conditional
  conditional_alike b a = alike_look _ _ (λ t. alike_fork (is_mark mark.Question t.kind) _ _ _ _
      (deeper_alike a.1 _ _ (alike_behind (alike_after (all.expr true 1) (λ x. alike_after (alike_expect mark.Colon) (λ _. alike_after (all.expr b 1) (λ y.
      alike_pure (raw.cond t.place a.0 x.0 y.0, max a.1 (max x.1 y.1) + 1)))))))
      (alike_pure a))

  assign_by_alike : (b : Bool) (a : Sized RawExpr) (x : Option (Option BinOp)) (g : Option RawTarget) → Alike bounds (s.assign_by d n inner b a x g) (s.assign_by e o outer b a x g)
  assign_by_alike b a None g = alike_pure a
  assign_by_alike b a (Some x) None = alike_pure a
  assign_by_alike b a (Some x) (Some g) = deeper_alike a.1 _ _ (alike_after alike_take (λ t. alike_after (all.expr b 1) (λ c. alike_pure (raw.assign t.place x g c.0, max a.1 c.1 + 1))))

  assign_alike : (b : Bool) (a : Sized RawExpr) → Alike bounds (s.assign d n inner b a) (s.assign e o outer b a)
  unfolding r.assign
  assign_alike b a = alike_look _ _ (λ t. assign_by_alike b a (assign_of t.kind) (target_of a.0))

  comma_by_alike : (b : Bool) (a : Sized RawExpr) (again more : Sized RawExpr → s.Reader (Sized RawExpr)) (x : Bool) → ((c : Sized RawExpr) → Alike bounds (again c) (more c)) → Alike bounds (s.comma_by d n inner again b a x) (s.comma_by e o outer more b a x)
  comma_by_alike b a again more false h = alike_pure a
  comma_by_alike b a again more true h = deeper_alike a.1 _ _ (alike_after alike_take (λ t. alike_after (all.expr b 1) (λ c. h (raw.comma t.place a.0 c.0, max a.1 c.1 + 1))))

  commas_alike : (b : Bool) (m u : ℕ) (a : Sized RawExpr) → m ≤ u → Deeper bounds m u → Alike bounds (s.commas d n inner b m a) (s.commas e o outer b u a)
  unfolding r.commas
  commas_alike b zero zero a lt q = alike_look _ _ (λ t. comma_by_alike b a _ _ (is_mark mark.Comma t.kind) (λ c. alike_stops depth))
  commas_alike b zero (suc u) a lt q = alike_look _ _ (λ t. comma_by_alike b a _ _ (is_mark mark.Comma t.kind) (λ c. alike_depth (s.commas e o outer b u c) q))
  commas_alike b (suc m) zero a lt q = absurd (omega arith)
  commas_alike b (suc m) (suc u) a lt q = alike_look _ _ (λ t. comma_by_alike b a _ _ (is_mark mark.Comma t.kind) (λ c. commas_alike b m u c (omega arith) (one_less q)))

  after_unary_alike : (b : Bool) (l : ℕ) (a : Sized RawExpr) → Alike bounds (s.after_unary d n inner b l a) (s.after_unary e o outer b l a)
  unfolding r.after_unary
  after_unary_alike b l a = alike_after (climb_alike b l (suc d) (suc e) a (omega arith) (one_more deep)) (λ x. alike_after (alike_fork (nat_lt l 3) _ _ _ _ (conditional_alike b x) (alike_pure x)) (λ y.
      alike_after (alike_fork (nat_lt l 2) _ _ _ _ (assign_alike b y) (alike_pure y)) (λ z. alike_fork (l == 0) _ _ _ _ (commas_alike b (suc d) (suc e) z (omega arith) (one_more deep)) (alike_pure z))))

  pub after_head_alike : (b : Bool) (l : ℕ) (a : Sized RawExpr) → Alike bounds (s.after_head d n inner b l a) (s.after_head e o outer b l a)
  unfolding r.after_head
  after_head_alike b l a = alike_after (suffixes_alike true (suc d) (suc e) a (omega arith) (one_more deep)) (λ x. alike_after (postfix_alike x) (λ y. after_unary_alike b l y))

  expr_by_alike : (b : Bool) (l : ℕ) (x : Option Prefix) → Alike bounds (s.expr_by d n inner b l x) (s.expr_by e o outer b l x)
  expr_by_alike b l None = alike_after (primary_alike b) (after_head_alike b l)
  expr_by_alike b l (Some x) = alike_after (prefixed_alike b x) (after_unary_alike b l)

  pub expr_alike : (b : Bool) (l : ℕ) → Alike bounds (s.expr_of d n inner b l) (s.expr_of e o outer b l)
  unfolding r.expr_of
  expr_alike b l = alike_fork (l == 17) _ _ _ _ (alike_after (primary_alike b) (λ a. suffixes_alike false (suc d) (suc e) a (omega arith) (one_more deep))) (alike_look _ _ (λ t. expr_by_alike b l (prefix_of t.kind)))

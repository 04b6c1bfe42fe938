-- Two readings of the same symbols up to a place where a part is due: primary expressions, and what goes on with them.
use Rattle.std.specs.Prelude.{◌≡◌, ℕ, zero, suc, ◌+◌, ◌≤◌, max, Bool, true, false, List, [], Option, Some, None}
use Rattle.std.proofs.Common.{refl, arith}
use Rattle.cc_ast.specs.declared.reading.Construct.{Construct}
use Rattle.cc_ast.specs.Syntax.{undefined}
use Rattle.cc_lexer.specs.declared.token.Mark.TheVariants as mark
use Rattle.cc_grammar.specs.Symbols.{Kind, look, is_mark}
use Rattle.cc_grammar.specs.Symbols as k
use Rattle.cc_grammar.specs.RawTree.{RawExpr, RawTarget, exprs, fields, stmts}
use Rattle.cc_grammar.specs.RawTree as raw
use Rattle.cc_grammar.specs.Signs.{parenthesised, property_of, target_of, step_of}
use Rattle.cc_grammar.specs.Reading.{Sized, Head, Suffix, head_of, suffix_of, depth}
use Rattle.cc_grammar.specs.Reading as r
use Rattle.cc_grammar.proofs.Marked.{In}
use Rattle.cc_grammar.proofs.Alikeness.Alike.{is_err}
use Rattle.cc_grammar.proofs.Swapping.Swap.{Next, Change, Pair, IsPair, barred, Later, Swap, Taking, Look, swap_after, taking_after, swap_pure, swap_look, take_then, behind, swap_fail, swap_stops, swap_limit, steady, alike_listed, mark_test, swap_close}
use Rattle.cc_grammar.proofs.Swapping.SwapSites.{primary_first, same_end}
use Rattle.cc_grammar.proofs.Swapping.SwapParts.{SwapInner, deeper, own_name_swap}
use Rattle.cc_grammar.proofs.Swapping.SwapLists.{elements_swap, fields_swap, arguments_of_swap, function_swap}
use Rattle.cc_grammar.proofs.OnSymbols as s

no_suffix_at : (calls : Bool) {p : k.Part} {y : Kind} {b : Bool} {c : Construct} {n : Next} → Pair p y b c n → suffix_of calls y ≡ r.no_suffix
no_suffix_at true w = same_end (suffix_of true) refl refl refl refl refl (λ v. refl) w
no_suffix_at false w = same_end (suffix_of false) refl refl refl refl refl (λ v. refl) w

module _ (x : Change) (w : IsPair x) (d e n o : ℕ) (inner outer : In) (lo : n ≤ o) (all : SwapInner x inner outer) where
  -- ---- primary expressions

  parentheses_swap : Taking x (s.parentheses d n inner) (s.parentheses e o outer)
  unfolding r.parentheses
  parentheses_swap = take_then x (λ t. swap_after x (all.expr true 0) (λ y. swap_close x w mark.CloseParen (parenthesised t y.0, y.1 + 1)))

  array_swap : Taking x (s.array d n inner) (s.array e o outer)
  unfolding r.array
  array_swap = take_then x (λ t. swap_after x (elements_swap x w d e n o inner outer lo all n o [] 0 lo) (λ y. swap_pure x (raw.list t.place (exprs y.0), y.1 + 1)))

  object_swap : Taking x (s.object d n inner) (s.object e o outer)
  unfolding r.object
  object_swap = take_then x (λ t. swap_after x (fields_swap x w d e n o inner outer lo all n o [] 0 lo) (λ y. swap_pure x (raw.object t.place (fields y.0), y.1 + 1)))

  function_expr_swap : Taking x (s.function_expr d n inner) (s.function_expr e o outer)
  unfolding r.function_expr
  function_expr_swap = take_then x (λ t. swap_after x (own_name_swap x w) (λ v. swap_after x (function_swap x w d e n o inner outer lo all) (λ f. swap_pure x (raw.fun t.place v f.0.0 (stmts f.0.1), f.1 + 1))))

  new_swap : (b : Bool) → Taking x (s.new_expr d n inner b) (s.new_expr e o outer b)
  unfolding r.new_expr
  new_swap b = take_then x (λ t. swap_after x (all.expr b 17) (λ f. swap_look x (mark_test x w mark.OpenParen
      (λ _. behind x (swap_after x (arguments_of_swap x w d e n o inner outer lo all) (λ y. swap_pure x (raw.new t.place f.0 (exprs y.0), max f.1 y.1 + 1))))
      (steady x (swap_pure x (raw.new t.place f.0 raw.no_exprs, f.1 + 1))))))

  primary_later : (b : Bool) (y : Head) → Later x (s.primary_by d n inner b y) (s.primary_by e o outer b y)
  primary_later b r.no_head = (swap_fail x r.an_operand).later
  primary_later b r.is_this = (take_then x (λ t. swap_pure x (raw.this t.place, 0))).later
  primary_later b (r.is_literal p) = (take_then x (λ t. swap_pure x (raw.lit t.place p, 0))).later
  primary_later b (r.is_variable v) = (take_then x (λ t. swap_pure x (raw.var t.place v, 0))).later
  primary_later b r.is_operand = (take_then x (λ t. swap_pure x (raw.lit t.place undefined, 0))).later
  primary_later b r.is_paren = (deeper x d e 0 _ _ parentheses_swap).later
  primary_later b r.is_array = (deeper x d e 0 _ _ array_swap).later
  primary_later b r.is_object = (deeper x d e 0 _ _ object_swap).later
  primary_later b r.is_function = (deeper x d e 0 _ _ function_expr_swap).later
  primary_later b r.is_new = (deeper x d e 0 _ _ (new_swap b)).later

  pub primary_swap : (b : Bool) → Swap x (s.primary d n inner b) (s.primary e o outer b)
  unfolding r.primary
  primary_swap b = swap_look x {p = λ t. s.primary_by d n inner b (head_of t.kind)} {q = λ t. s.primary_by e o outer b (head_of t.kind)} (record {
    first = primary_first d e n o inner outer b w;
    later = λ t. primary_later b (head_of t.kind);
  })

  -- ---- suffixes

  property_later : (v : Option (List ℕ)) → Later x (s.property_by d n inner v) (s.property_by e o outer v)
  property_later None = (swap_fail x r.a_token).later
  property_later (Some v) = (take_then x (λ t. swap_pure x (t.place, v))).later

  -- no part is a property
  property_swap : Swap x (λ i. s.property_by d n inner (property_of (look i).kind) i) (λ i. s.property_by e o outer (property_of (look i).kind) i)
  property_swap = swap_look x {p = λ t. s.property_by d n inner (property_of t.kind)} {q = λ t. s.property_by e o outer (property_of t.kind)} (record {
    first = barred (λ xs. is_err);
    later = λ t. property_later (property_of t.kind);
  })

  dotted_swap : (a : Sized RawExpr) → Taking x (s.dotted d n inner a) (s.dotted e o outer a)
  unfolding r.dotted
  dotted_swap a = take_then x (λ t. swap_after x property_swap (λ p. swap_pure x (raw.member t.place a.0 p.0 p.1, a.1 + 1)))

  bracketed_swap : (a : Sized RawExpr) → Taking x (s.bracketed d n inner a) (s.bracketed e o outer a)
  unfolding r.bracketed
  bracketed_swap a = take_then x (λ t. swap_after x (all.expr true 0) (λ y. swap_close x w mark.CloseBracket (raw.index t.place a.0 y.0, max a.1 y.1 + 1)))

  called_swap : (a : Sized RawExpr) → Taking x (s.called d n inner a) (s.called e o outer a)
  unfolding r.called
  called_swap a = take_then x (λ t. swap_after x (arguments_of_swap x w d e n o inner outer lo all) (λ y. swap_pure x (raw.call t.place a.0 (exprs y.0), max a.1 y.1 + 1)))

  suffix_later : (again more : Sized RawExpr → s.Reader (Sized RawExpr)) (a : Sized RawExpr) → ((b : Sized RawExpr) → Swap x (again b) (more b)) → (y : Suffix) → Later x (s.suffix_by d n inner again a y) (s.suffix_by e o outer more a y)
  suffix_later again more a h r.no_suffix = (swap_pure x a).later
  suffix_later again more a h r.by_dot = (deeper x d e a.1 _ _ (taking_after x (dotted_swap a) h)).later
  suffix_later again more a h r.by_bracket = (deeper x d e a.1 _ _ (taking_after x (bracketed_swap a) h)).later
  suffix_later again more a h r.by_call = (deeper x d e a.1 _ _ (taking_after x (called_swap a) h)).later

  suffix_look : (calls : Bool) (again more : Sized RawExpr → s.Reader (Sized RawExpr)) (a : Sized RawExpr) → ((b : Sized RawExpr) → Swap x (again b) (more b))
      → Look x (λ t. s.suffix_by d n inner again a (suffix_of calls t.kind)) (λ t. s.suffix_by e o outer more a (suffix_of calls t.kind))
  suffix_look calls again more a h = alike_listed x (suffix_of calls) r.no_suffix {p = λ y _. s.suffix_by d n inner again a y} {q = λ y _. s.suffix_by e o outer more a y} (no_suffix_at calls w) refl (swap_pure x a).first (λ y _. suffix_later again more a h y)

  pub suffixes_swap : (calls : Bool) (m u : ℕ) (a : Sized RawExpr) → m ≤ u → Swap x (s.suffixes d n inner calls m a) (s.suffixes e o outer calls u a)
  unfolding r.suffixes
  suffixes_swap calls zero zero a lt = swap_look x (suffix_look calls _ _ a (λ b. swap_stops x depth))
  suffixes_swap calls zero (suc u) a lt = swap_look x (suffix_look calls _ _ a (λ b. swap_limit x depth (s.suffixes e o outer calls u b) refl))
  suffixes_swap calls (suc m) zero a lt = absurd (omega arith)
  suffixes_swap calls (suc m) (suc u) a lt = swap_look x (suffix_look calls _ _ a (λ b. suffixes_swap calls m u b (omega arith)))

  -- ---- postfix operators

  postfix_later : (a : Sized RawExpr) (up : Option Bool) (g : Option RawTarget) (line : Bool) → Later x (s.postfix_by d n inner a up g line) (s.postfix_by e o outer a up g line)
  postfix_later a None g line = (swap_pure x a).later
  postfix_later a (Some up) None line = (swap_pure x a).later
  postfix_later a (Some up) (Some g) true = (swap_pure x a).later
  postfix_later a (Some up) (Some g) false = (deeper x d e a.1 _ _ (take_then x (λ t. swap_pure x (raw.step t.place up false g, a.1 + 1)))).later

  pub postfix_swap : (a : Sized RawExpr) → Swap x (s.postfix d n inner a) (s.postfix e o outer a)
  unfolding r.postfix
  postfix_swap a = swap_look x (alike_listed x step_of None {p = λ y t. s.postfix_by d n inner a y (target_of a.0) t.after_line} {q = λ y t. s.postfix_by e o outer a y (target_of a.0) t.after_line} (same_end step_of refl refl refl refl refl (λ v. refl) w) refl (swap_pure x a).first (λ y t. postfix_later a y (target_of a.0) t.after_line))

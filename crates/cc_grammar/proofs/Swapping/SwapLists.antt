-- Two readings of the same symbols up to a place where a part is due: lists, and functions.
use Rattle.std.specs.Prelude.{◌≡◌, ℕ, zero, suc, ◌≤◌, max, ◌&&◌, Bool, true, false, Ok, cond, is_some, List, [], ◌∷◌, ◌++◌, Option, Some, None}
use Rattle.std.proofs.Common.{refl, arith}
use Rattle.cc_ast.specs.declared.place.Place.{Place}
use Rattle.cc_ast.specs.declared.reading.Construct.TheVariants as construct
use Rattle.cc_lexer.specs.declared.token.Mark.TheVariants as mark
use Rattle.cc_grammar.specs.Symbols.{Kind, Lexeme, Symbols, look, rest, is_mark}
use Rattle.cc_grammar.specs.Symbols as k
use Rattle.cc_grammar.specs.RawTree.{RawExpr, RawStmt, RawKey, RawField}
use Rattle.cc_grammar.specs.Signs.{key_of, is_accessor}
use Rattle.cc_grammar.specs.Grammar.{Context, of_function}
use Rattle.cc_grammar.specs.Reading.{Sized, and_then, semicolon_symbol, is_element, ends_list, spent, refused}
use Rattle.cc_grammar.specs.Reading as r
use Rattle.cc_grammar.proofs.Marked.{In}
use Rattle.cc_grammar.proofs.Alikeness.Alike.{is_err}
use Rattle.cc_grammar.proofs.Swapping.Swap.{Change, IsPair, Swaps, barred, Later, Swap, Look, swaps_after, later_after, swap_after, swap_pure, swap_err, swap_look, take_then, behind, later_fork, swap_fail, swap_stops, swap_limit, steady, like_test, mark_test, swap_expect, swap_close}
use Rattle.cc_grammar.proofs.Swapping.SwapSites.{element_first, key_first, same_end}
use Rattle.cc_grammar.proofs.Swapping.SwapParts.{SwapInner, params_of_swap}
use Rattle.cc_grammar.proofs.OnSymbols as s

module _ (x : Change) (w : IsPair x) (d e n o : ℕ) (inner outer : In) (lo : n ≤ o) (all : SwapInner x inner outer) where
  -- ---- elements

  element_look : {A : Type 0} {f g u v : s.Reader A} → Later x f u → Swap x g v → Look x (λ l. cond (is_element l.kind) f (cond (is_mark mark.Comma l.kind) (r.stops Symbols look rest semicolon_symbol (refused construct.Hole)) g))
      (λ l. cond (is_element l.kind) u (cond (is_mark mark.Comma l.kind) (r.stops Symbols look rest semicolon_symbol (refused construct.Hole)) v))
  element_look {f} {g} {u} {v} h l = record {
    first = element_first f g u v w l.first;
    later = λ t. later_fork x (is_element t.kind) _ _ _ _ h (later_fork x (is_mark mark.Comma t.kind) _ _ _ _ (swap_stops x (refused construct.Hole)).later l.later);
  }

  pub elements_swap : (m u : ℕ) (found : List RawExpr) (h : ℕ) → m ≤ u → Swap x (s.elements d n inner m found h) (s.elements e o outer u found h)
  unfolding r.elements
  elements_swap zero u found h lt = swap_limit x spent (s.elements e o outer u found h) refl
  elements_swap (suc m) zero found h lt = absurd (omega arith)
  elements_swap (suc m) (suc u) found h lt = swap_look x (mark_test x w mark.CloseBracket (λ _. behind x (swap_pure x (found, h)))
      (element_look (later_after x (behind x (swap_expect x w mark.CloseBracket)).later (λ _. swap_pure x (found, h)))
      (swap_after x (all.expr true 1) (λ y. swap_look x (mark_test x w mark.Comma
      (λ _. behind x (elements_swap m u (found ++ y.0 ∷ []) (max h y.1) (omega arith))) (steady x (swap_close x w mark.CloseBracket (found ++ y.0 ∷ [], max h y.1))))))))

  -- ---- fields

  -- behind a key
  abbrev value_of : In → Place × RawKey → s.Reader (Sized RawField)
  value_of i y = λ j. and_then (s.expect mark.Colon j) (λ _ z. and_then (i.expr true 1 z) (λ v q. Ok ((record { place = y.0; key = y.1; value = v.0 }, v.1), q)))

  value_swap : (y : Place × RawKey) → Swap x (value_of inner y) (value_of outer y)
  value_swap y = swap_after x (swap_expect x w mark.Colon) (λ _. swap_after x (all.expr true 1) (λ v. swap_pure x (record { place = y.0; key = y.1; value = v.0 }, v.1)))

  -- behind `get` or `set`, perhaps before another key
  abbrev accessor_by : In → Place × RawKey → Bool → s.Reader (Sized RawField)
  accessor_by i y b = λ j. and_then (cond b (r.refuse Symbols look rest semicolon_symbol construct.Accessor y.0) (r.pure Symbols look rest semicolon_symbol y) j) (value_of i)

  accessor_first : (y : Place × RawKey) (a b : Bool) → Swaps x (accessor_by inner y a) (accessor_by outer y b) []
  unfolding r.expect
  accessor_first y a true = barred (λ xs. is_err)
  accessor_first y a false = barred (λ xs. is_err)

  accessor_later : (y : Place × RawKey) (b : Bool) → Later x (accessor_by inner y b) (accessor_by outer y b)
  accessor_later y true = (swap_err x (record { cause = refused construct.Accessor; place = y.0 }) (record { cause = refused construct.Accessor; place = y.0 })).later
  accessor_later y false = (value_swap y).later

  accessor_swap : (y : Place × RawKey) (b : Bool) → Swap x (λ i. accessor_by inner y (b && is_some (key_of (look i).kind)) i) (λ i. accessor_by outer y (b && is_some (key_of (look i).kind)) i)
  accessor_swap y false = value_swap y
  accessor_swap y true = swap_look x {p = λ l. accessor_by inner y (is_some (key_of l.kind))} {q = λ l. accessor_by outer y (is_some (key_of l.kind))} (record {
    first = accessor_first y (is_some (key_of x.kind)) (is_some (key_of (k.due x.part)));
    later = λ l. accessor_later y (is_some (key_of l.kind));
  })

  abbrev field_by : ℕ → ℕ → In → Option RawKey → s.Reader (Sized RawField)
  field_by h m i y = λ j. and_then (s.key_by h m i y j) (value_of i)

  field_later : (y : Option RawKey) → Later x (field_by d n inner y) (field_by e o outer y)
  field_later None = (swap_after x (swap_fail x r.a_token) value_swap).later
  field_later (Some y) = (take_then x (λ l. accessor_swap (l.place, y) (is_accessor l.kind))).later

  field_swap : Swap x (s.field d n inner) (s.field e o outer)
  unfolding r.field
  field_swap = swap_look x {p = λ l. field_by d n inner (key_of l.kind)} {q = λ l. field_by e o outer (key_of l.kind)} (record {
    first = swaps_after x [] value_swap (key_first d e n o inner outer w);
    later = λ l. field_later (key_of l.kind);
  })

  pub fields_swap : (m u : ℕ) (found : List RawField) (h : ℕ) → m ≤ u → Swap x (s.object_fields d n inner m found h) (s.object_fields e o outer u found h)
  unfolding r.object_fields
  fields_swap zero u found h lt = swap_limit x spent (s.object_fields e o outer u found h) refl
  fields_swap (suc m) zero found h lt = absurd (omega arith)
  fields_swap (suc m) (suc u) found h lt = swap_look x (mark_test x w mark.CloseBrace (λ _. behind x (swap_pure x (found, h)))
      (steady x (swap_after x field_swap (λ y. swap_look x (mark_test x w mark.Comma
      (λ _. behind x (fields_swap m u (found ++ y.0 ∷ []) (max h y.1) (omega arith))) (steady x (swap_close x w mark.CloseBrace (found ++ y.0 ∷ [], max h y.1))))))))

  -- ---- arguments

  arguments_swap : (m u : ℕ) (found : List RawExpr) (h : ℕ) → m ≤ u → Swap x (s.arguments d n inner m found h) (s.arguments e o outer u found h)
  unfolding r.arguments
  arguments_swap zero u found h lt = swap_limit x spent (s.arguments e o outer u found h) refl
  arguments_swap (suc m) zero found h lt = absurd (omega arith)
  arguments_swap (suc m) (suc u) found h lt = swap_after x (all.expr true 1) (λ y. swap_look x (mark_test x w mark.Comma
      (λ _. behind x (arguments_swap m u (found ++ y.0 ∷ []) (max h y.1) (omega arith))) (steady x (swap_close x w mark.CloseParen (found ++ y.0 ∷ [], max h y.1)))))

  pub arguments_of_swap : Swap x (s.arguments_of d n inner) (s.arguments_of e o outer)
  unfolding r.arguments_of
  arguments_of_swap = swap_look x (mark_test x w mark.CloseParen (λ _. behind x (swap_pure x ([], 0))) (steady x (arguments_swap n o [] 0 lo)))

  -- ---- statements, and functions

  ends_alike : ends_list x.kind ≡ false
  ends_alike = same_end ends_list refl refl refl refl refl (λ v. refl) w

  pub list_swap : (c : Context) (m u : ℕ) (found : List RawStmt) (h : ℕ) → m ≤ u → Swap x (s.list d n inner c m found h) (s.list e o outer c u found h)
  unfolding r.list
  list_swap c zero u found h lt = swap_limit x spent (s.list e o outer c u found h) refl
  list_swap c (suc m) zero found h lt = absurd (omega arith)
  list_swap c (suc m) (suc u) found h lt = swap_look x (like_test x (λ l. ends_list l.kind) ends_alike (steady x (swap_pure x (found, h)))
      (steady x (swap_after x (all.stmt c) (λ y. list_swap c m u (found ++ y.0) (max h y.1) (omega arith)))))

  pub body_swap : (c : Context) → Swap x (s.body d n inner c) (s.body e o outer c)
  unfolding r.body
  body_swap c = swap_after x (list_swap c n o [] 0 lo) (λ y. swap_close x w mark.CloseBrace y)

  pub function_swap : Swap x (s.function d n inner) (s.function e o outer)
  unfolding r.function
  function_swap = swap_after x (swap_expect x w mark.OpenParen) (λ _. swap_after x (params_of_swap x w n o lo) (λ ps. swap_after x (swap_expect x w mark.OpenBrace)
      (λ _. swap_after x (body_swap of_function) (λ b. swap_pure x ((ps, b.0), b.1)))))

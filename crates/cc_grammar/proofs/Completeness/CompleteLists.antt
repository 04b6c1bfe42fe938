-- What is derived is read: lists of expressions and statements, and functions.
use Rattle.std.specs.Prelude.{◌≡◌, ℕ, zero, suc, ◌<◌, ◌≤◌, max, ◌&&◌, Bool, true, false, cond, is_some, List, [], ◌∷◌, ◌++◌, Ok, Option, Some, None}
use Rattle.std.proofs.Common.{refl, sym, ap, arith, ◌∙◌, append_assoc, append-nil}
use Rattle.std.proofs.Math.Bool.{and-false}
use Rattle.cc_lexer.specs.declared.token.Mark.TheVariants as mark
use Rattle.cc_grammar.specs.Symbols.{Kind, Symbols, look, rest, is_mark}
use Rattle.cc_grammar.specs.RawTree.{RawExpr, RawStmt, RawField, RawKey, Named}
use Rattle.cc_grammar.specs.Signs.{is_accessor, key_of}
use Rattle.cc_grammar.specs.Grammar as g
use Rattle.cc_grammar.specs.Grammar.{Context, of_function, At, Sign, Variable, OwnName, Params, MoreParams, E, Elements, Field, Fields, Arguments, MoreArguments, Function, T, Body}
use Rattle.cc_grammar.specs.Reading.{Outcome, Sized, is_element, ends_list, variable_of, suffix_of}
use Rattle.cc_grammar.specs.Reading as r
use Rattle.cc_grammar.proofs.Marked.{In}
use Rattle.cc_grammar.proofs.Shrinks.{reals, at_less, variable_less, params_less, e_less, field_less, t_less}
use Rattle.cc_grammar.proofs.Steps.{step, chosen_at, skipped_at, kind_at, rest_at, mark_at, table_at, taken, variable_at, variable_rest, taken_variable}
use Rattle.cc_grammar.proofs.Firsts.{opens, begins, no_end_begins, no_mark, no_element, not_in_table}
use Rattle.cc_grammar.proofs.Quiet.{Quiet, looser, at_next, close_bracket, close_brace, close_paren, comma}
use Rattle.cc_grammar.proofs.OnSymbols as s

-- this value, of a height within h
pub record Reads {A : Type 0} (h : ℕ) (o : Outcome Symbols (Sized A)) (a : A) (ys : Symbols) : Type 0 where
  pub height : ℕ
  pub low : height ≤ h
  pub is : o ≡ Ok ((a, height), ys)

-- What stands inside is complete below the depth, for lists of fewer tokens than the turns: expressions, the callees of `new`, statements.
pub record CompleteInner (d n : ℕ) (inner : In) : Type 0 where
  pub expr : (b : Bool) (l h : ℕ) {xs ys : Symbols} {e : RawExpr} → reals xs < n → l ≤ 13 → ¬ (l ≡ 2) → h < d → E h b l xs e ys → Quiet b l (look ys).kind → Reads h (inner.expr b l xs) e ys
  pub callee : (b : Bool) (l h : ℕ) {xs ys : Symbols} {e : RawExpr} → reals xs < n → 17 ≤ l → h < d → E h b l xs e ys → suffix_of false (look ys).kind ≡ r.no_suffix
      → (l ≡ 17 → is_mark mark.OpenParen (look ys).kind ≡ false) → Reads h (inner.expr b 17 xs) e ys
  pub stmt : (c : Context) (h : ℕ) {xs ys : Symbols} {b : List RawStmt} → reals xs < n → h < d → T c h xs b ys → Reads h (inner.stmt c xs) b ys

-- ---- parameters, and the own name of a function

not_comma : {xs ys : Symbols} → Sign mark.CloseParen xs ys → is_mark mark.Comma (look xs).kind ≡ false
not_comma c = ap (is_mark mark.Comma) (kind_at c)

params_read : (m : ℕ) {ps : List Named} {xs ys : Symbols} (found : List Named) → reals xs < m → MoreParams xs ps ys → s.params m found xs ≡ Ok (found ++ ps, ys)
unfolding r.params
params_read zero found lt x = absurd (omega arith)
params_read (suc m) found lt (g.last_param v c) = step _ (taken_variable v) (skipped_at _ _ _ (not_comma c) (step _ (taken c) refl))
params_read (suc m) found lt (g.more_params {n} {ps} {xs} {ws} v c x) =
    step _ (taken_variable v) (chosen_at _ _ _ (mark_at c) (ap (s.params m (found ++ g.named xs n ∷ [])) (rest_at c)
    ∙ params_read m (found ++ g.named xs n ∷ []) (omega (arith, variable_less v, at_less c)) x ∙ ap (λ w. Ok (w, ws)) (append_assoc found (g.named xs n ∷ []) ps)))

params_begin : {ps : List Named} {xs ys : Symbols} → MoreParams xs ps ys → is_mark mark.CloseParen (look xs).kind ≡ false
params_begin (g.last_param {n} {xs} v c) = not_in_table variable_of mark.CloseParen (look xs).kind n refl (variable_at v)
params_begin (g.more_params {n} {xs} v c x) = not_in_table variable_of mark.CloseParen (look xs).kind n refl (variable_at v)

pub params_of_read : (m : ℕ) {ps : List Named} {xs ys : Symbols} → reals xs < m → Params xs ps ys → s.params_of m xs ≡ Ok (ps, ys)
unfolding r.params_of
params_of_read m lt (g.no_params c) = chosen_at _ _ _ (mark_at c) (ap (λ ys. Ok ([], ys)) (rest_at c))
params_of_read m {xs} lt (g.some_params x) = skipped_at (is_mark mark.CloseParen (look xs).kind) _ _ (params_begin x) (params_read m [] lt x)

pub own_name_read : {o : Option Named} {xs ys zs : Symbols} → OwnName xs o ys → Sign mark.OpenParen ys zs → s.own_name xs ≡ Ok (o, ys)
unfolding r.own_name
own_name_read {xs} g.no_name c = ap (λ v. s.own_name_by v (is_mark mark.OpenParen (look xs).kind) xs) (table_at variable_of c) ∙ ap (λ b. s.own_name_by None b xs) (mark_at c)
own_name_read {xs} (g.own_name {n} v) c = ap (λ w. s.own_name_by w (is_mark mark.OpenParen (look xs).kind) xs) (variable_at v) ∙ ap (λ ys. Ok (Some (g.named xs n), ys)) (variable_rest v)

-- ---- lists

not_comma_bracket : {xs ys : Symbols} → Sign mark.CloseBracket xs ys → is_mark mark.Comma (look xs).kind ≡ false
not_comma_bracket c = ap (is_mark mark.Comma) (kind_at c)

-- an element is neither the end of an array, nor a hole
an_element : {A : Type 0} (xs : Symbols) {w : Outcome Symbols A} (p q t z : s.Reader A) → opens (look xs).kind ≡ true → z xs ≡ w
    → cond (is_mark mark.CloseBracket (look xs).kind) p (cond (is_element (look xs).kind) q (cond (is_mark mark.Comma (look xs).kind) t z)) xs ≡ w
an_element xs p q t z b e = skipped_at (is_mark mark.CloseBracket (look xs).kind) p _ (no_mark mark.CloseBracket (look xs).kind refl b)
    (skipped_at (is_element (look xs).kind) q _ (no_element (look xs).kind b) (skipped_at (is_mark mark.Comma (look xs).kind) t z (no_mark mark.Comma (look xs).kind refl b) e))

module _ (d n : ℕ) (inner : In) (all : CompleteInner d n inner) where
  arguments_read : (m : ℕ) {h : ℕ} {xs ys : Symbols} {es : List RawExpr} (found : List RawExpr) (j : ℕ) → reals xs < m → reals xs < n → h < d → j ≤ h → MoreArguments h xs es ys
      → Reads h (s.arguments d n inner m found j xs) (found ++ es) ys
  unfolding r.arguments
  arguments_read zero found j lm ln lt lj x = absurd (omega arith)
  arguments_read (suc m) {h} found j lm ln lt lj (g.last_argument {e} x c) =
      let p = all.expr true 1 h ln (omega arith) (omega arith) lt x (at_next c (looser 1 (omega arith) (close_paren true))) in
      record { height = max j p.height; low = omega (arith, p.low); is = step _ p.is (skipped_at _ _ _ (not_comma c) (step _ (taken c) refl)) }
  arguments_read (suc m) {h} found j lm ln lt lj (g.more_arguments {e} {es} {ws} x c y) =
      let p = all.expr true 1 h ln (omega arith) (omega arith) lt x (at_next c (comma true)) in
      let q = arguments_read m (found ++ e ∷ []) (max j p.height) (omega (arith, e_less x, at_less c)) (omega (arith, e_less x, at_less c)) lt (omega (arith, p.low)) y in
      record {
        height = q.height;
        low = q.low;
        is = step _ p.is (chosen_at _ _ _ (mark_at c) (ap (s.arguments d n inner m (found ++ e ∷ []) (max j p.height)) (rest_at c)
            ∙ q.is ∙ ap (λ (w : List RawExpr). Ok ((w, q.height), ws)) (append_assoc found (e ∷ []) es)));
      }

  arguments_begin : {h : ℕ} {xs ys : Symbols} {es : List RawExpr} → MoreArguments h xs es ys → is_mark mark.CloseParen (look xs).kind ≡ false
  arguments_begin (g.last_argument {xs} x c) = no_mark mark.CloseParen (look xs).kind refl (begins x)
  arguments_begin (g.more_arguments {xs} x c y) = no_mark mark.CloseParen (look xs).kind refl (begins x)

  pub arguments_of_read : {h : ℕ} {xs ys : Symbols} {es : List RawExpr} → reals xs < n → h < d → Arguments h xs es ys → Reads h (s.arguments_of d n inner xs) es ys
  unfolding r.arguments_of
  arguments_of_read ln lt (g.no_argument c) = record { height = 0; low = omega arith; is = chosen_at _ _ _ (mark_at c) (ap (λ ys. Ok (([], 0), ys)) (rest_at c)) }
  arguments_of_read {xs} ln lt (g.some_arguments x) = let p = arguments_read n [] 0 ln ln lt (omega arith) x in
      record { height = p.height; low = p.low; is = skipped_at (is_mark mark.CloseParen (look xs).kind) _ _ (arguments_begin x) p.is }

  elements_read : (m : ℕ) {h : ℕ} {xs ys : Symbols} {es : List RawExpr} (found : List RawExpr) (j : ℕ) → reals xs < m → reals xs < n → h < d → j ≤ h → Elements h xs es ys
      → Reads h (s.elements d n inner m found j xs) (found ++ es) ys
  unfolding r.elements
  elements_read zero found j lm ln lt lj x = absurd (omega arith)
  elements_read (suc m) found j lm ln lt lj (g.no_element {xs} {ys} c) =
      record { height = j; low = lj; is = chosen_at _ _ _ (mark_at c) (ap (λ ys. Ok ((found, j), ys)) (rest_at c) ∙ ap (λ (w : List RawExpr). Ok ((w, j), ys)) (sym (append-nil found))) }
  elements_read (suc m) found j lm ln lt lj (g.any_element {xs} {ys} {zs} c p) =
      record {
        height = j;
        low = lj;
        is = skipped_at (is_mark mark.CloseBracket (look xs).kind) _ _ (ap (is_mark mark.CloseBracket) (kind_at c)) (chosen_at (is_element (look xs).kind) _ _ (ap is_element (kind_at c))
            (step _ (ap (s.expect mark.CloseBracket) (rest_at c) ∙ taken p) (ap (λ (w : List RawExpr). Ok ((w, j), zs)) (sym (append-nil found)))));
      }
  elements_read (suc m) {h} found j lm ln lt lj (g.last_element {e} {xs} x c) =
      let p = all.expr true 1 h ln (omega arith) (omega arith) lt x (at_next c (looser 1 (omega arith) (close_bracket true))) in
      record { height = max j p.height; low = omega (arith, p.low); is = an_element xs _ _ _ _ (begins x) (step _ p.is (skipped_at _ _ _ (not_comma_bracket c) (step _ (taken c) refl))) }
  elements_read (suc m) {h} found j lm ln lt lj (g.more_elements {e} {es} {xs} {ws} x c y) =
      let p = all.expr true 1 h ln (omega arith) (omega arith) lt x (at_next c (comma true)) in
      let q = elements_read m (found ++ e ∷ []) (max j p.height) (omega (arith, e_less x, at_less c)) (omega (arith, e_less x, at_less c)) lt (omega (arith, p.low)) y in
      record {
        height = q.height;
        low = q.low;
        is = an_element xs _ _ _ _ (begins x) (step _ p.is (chosen_at _ _ _ (mark_at c) (ap (s.elements d n inner m (found ++ e ∷ []) (max j p.height)) (rest_at c)
            ∙ q.is ∙ ap (λ (w : List RawExpr). Ok ((w, q.height), ws)) (append_assoc found (e ∷ []) es))));
      }

  pub all_elements_read : {h : ℕ} {xs ys : Symbols} {es : List RawExpr} → reals xs < n → h < d → Elements h xs es ys → Reads h (s.elements d n inner n [] 0 xs) es ys
  all_elements_read ln lt x = elements_read n [] 0 ln ln lt (omega arith) x

  -- ---- object literals

  key_read : {x : Kind} {y : RawKey} {xs ys zs : Symbols} → At x xs ys → key_of x ≡ Some y → Sign mark.Colon ys zs → s.key_by d n inner (key_of (look xs).kind) xs ≡ Ok ((g.at xs, y), ys)
  key_read {y} {xs} c q o = ap (λ v. s.key_by d n inner v xs) (table_at key_of c ∙ q)
      ∙ skipped_at (is_accessor (look xs).kind && is_some (key_of (look (rest xs)).kind)) _ _
      (ap (λ z. is_accessor (look xs).kind && is_some (key_of (look z).kind)) (rest_at c) ∙ ap (λ z. is_accessor (look xs).kind && is_some (key_of z)) (kind_at o) ∙ and-false _)
      (ap (λ z. Ok ((g.at xs, y), z)) (rest_at c))

  field_read : {h : ℕ} {xs ys : Symbols} {f : RawField} → reals xs < n → h < d → Field h xs f ys → Quiet true 1 (look ys).kind → Reads h (s.field d n inner xs) f ys
  unfolding r.field
  field_read {h} ln lt (g.field c e o x) q = let p = all.expr true 1 h (omega (arith, at_less c, at_less o)) (omega arith) (omega arith) lt x q in
      record { height = p.height; low = p.low; is = step _ (key_read c e o) (step _ (taken o) (step _ p.is refl)) }

  field_begins : {h : ℕ} {xs ys : Symbols} {f : RawField} → Field h xs f ys → is_mark mark.CloseBrace (look xs).kind ≡ false
  field_begins (g.field {y} {xs} c e o x) = not_in_table key_of mark.CloseBrace (look xs).kind y refl (table_at key_of c ∙ e)

  fields_read : (m : ℕ) {h : ℕ} {xs ys : Symbols} {fs : List RawField} (found : List RawField) (j : ℕ) → reals xs < m → reals xs < n → h < d → j ≤ h → Fields h xs fs ys
      → Reads h (s.object_fields d n inner m found j xs) (found ++ fs) ys
  unfolding r.object_fields
  fields_read zero found j lm ln lt lj x = absurd (omega arith)
  fields_read (suc m) found j lm ln lt lj (g.no_field {xs} {ys} c) =
      record { height = j; low = lj; is = chosen_at _ _ _ (mark_at c) (ap (λ ys. Ok ((found, j), ys)) (rest_at c) ∙ ap (λ (w : List RawField). Ok ((w, j), ys)) (sym (append-nil found))) }
  fields_read (suc m) found j lm ln lt lj (g.last_field {f} {xs} x c) =
      let p = field_read ln lt x (at_next c (looser 1 (omega arith) (close_brace true))) in
      record {
        height = max j p.height;
        low = omega (arith, p.low);
        is = skipped_at (is_mark mark.CloseBrace (look xs).kind) _ _ (field_begins x)
            (step _ p.is (skipped_at _ _ _ (ap (is_mark mark.Comma) (kind_at c)) (step _ (taken c) refl)));
      }
  fields_read (suc m) found j lm ln lt lj (g.more_fields {f} {fs} {xs} {ws} x c y) =
      let p = field_read ln lt x (at_next c (comma true)) in
      let q = fields_read m (found ++ f ∷ []) (max j p.height) (omega (arith, field_less x, at_less c)) (omega (arith, field_less x, at_less c)) lt (omega (arith, p.low)) y in
      record {
        height = q.height;
        low = q.low;
        is = skipped_at (is_mark mark.CloseBrace (look xs).kind) _ _ (field_begins x)
            (step _ p.is (chosen_at _ _ _ (mark_at c) (ap (s.object_fields d n inner m (found ++ f ∷ []) (max j p.height)) (rest_at c)
            ∙ q.is ∙ ap (λ (w : List RawField). Ok ((w, q.height), ws)) (append_assoc found (f ∷ []) fs))));
      }

  pub all_fields_read : {h : ℕ} {xs ys : Symbols} {fs : List RawField} → reals xs < n → h < d → Fields h xs fs ys → Reads h (s.object_fields d n inner n [] 0 xs) fs ys
  all_fields_read ln lt x = fields_read n [] 0 ln ln lt (omega arith) x

  -- ---- statements one behind the other, and functions

  list_end : (c : Context) (m : ℕ) {h : ℕ} {xs : Symbols} (found : List RawStmt) (j : ℕ) → reals xs < m → j ≤ h → ends_list (look xs).kind ≡ true → Reads h (s.list d n inner c m found j xs) (found ++ []) xs
  unfolding r.list
  list_end c zero found j lm lj e = absurd (omega arith)
  list_end c (suc m) {xs} found j lm lj e = record { height = j; low = lj; is = chosen_at (ends_list (look xs).kind) _ _ e (ap (λ (w : List RawStmt). Ok ((w, j), xs)) (sym (append-nil found))) }

  list_read : (c : Context) (m : ℕ) {h : ℕ} {xs ys : Symbols} {b : List RawStmt} (found : List RawStmt) (j : ℕ) → reals xs < m → reals xs < n → h < d → j ≤ h → Body c h xs b ys → ends_list (look ys).kind ≡ true
      → Reads h (s.list d n inner c m found j xs) (found ++ b) ys
  unfolding r.list
  list_read c m found j lm ln lt lj g.done e = list_end c m found j lm lj e
  list_read c zero found j lm ln lt lj (g.next x y) e = absurd (omega arith)
  list_read c (suc m) {h} found j lm ln lt lj (g.next {a} {b} {xs} {zs} x y) e =
      let p = all.stmt c h ln lt x in
      let q = list_read c m (found ++ a) (max j p.height) (omega (arith, t_less x)) (omega (arith, t_less x)) lt (omega (arith, p.low)) y e in
      record { height = q.height; low = q.low; is = skipped_at (ends_list (look xs).kind) _ _ (no_end_begins x) (step _ p.is (q.is ∙ ap (λ (w : List RawStmt). Ok ((w, q.height), zs)) (append_assoc found a b))) }

  pub statements_read : (c : Context) {h : ℕ} {xs ys : Symbols} {b : List RawStmt} → reals xs < n → h < d → Body c h xs b ys → ends_list (look ys).kind ≡ true → Reads h (s.list d n inner c n [] 0 xs) b ys
  statements_read c ln lt x e = list_read c n [] 0 ln ln lt (omega arith) x e

  pub body_read : (c : Context) {h : ℕ} {xs ys zs : Symbols} {b : List RawStmt} → reals xs < n → h < d → Body c h xs b ys → Sign mark.CloseBrace ys zs → Reads h (s.body d n inner c xs) b zs
  unfolding r.body
  body_read c ln lt x o = let p = statements_read c ln lt x (ap ends_list (kind_at o)) in record { height = p.height; low = p.low; is = step _ p.is (step _ (taken o) refl) }

  pub function_read : {h : ℕ} {xs ys : Symbols} {ps : List Named} {b : List RawStmt} → reals xs < n → h < d → Function h xs ps b ys → Reads h (s.function d n inner xs) (ps, b) ys
  unfolding r.function
  function_read ln lt (g.function_body o p q x e) =
      let w = body_read of_function (omega (arith, at_less o, params_less p, at_less q)) lt x e in
      record { height = w.height; low = w.low; is = step _ (taken o) (step _ (params_of_read n (omega (arith, at_less o)) p) (step _ (taken q) (step _ w.is refl))) }

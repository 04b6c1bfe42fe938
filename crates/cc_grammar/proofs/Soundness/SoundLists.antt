-- What is read is derived: lists of expressions and statements, and functions.
use Rattle.std.specs.Prelude.{◌≡◌, ℕ, zero, suc, ◌<◌, max, ◌&&◌, true, List, [], ◌∷◌, ◌++◌, Option, Some, None, is_some}
use Rattle.std.proofs.Common.{refl, sym, arith, ◌∙◌, append_assoc, append-nil}
use Rattle.cc_lexer.specs.declared.token.Mark.TheVariants as mark
use Rattle.cc_grammar.specs.Symbols.{Symbols, look, rest, is_mark}
use Rattle.cc_grammar.specs.RawTree.{RawExpr, RawStmt, RawKey, RawField}
use Rattle.cc_grammar.specs.Signs.{key_of, is_accessor}
use Rattle.cc_grammar.specs.Grammar as g
use Rattle.cc_grammar.specs.Grammar.{Context, Sign, E, Elements, Field, Fields, Arguments, MoreArguments, Function, T, Body, of_function}
use Rattle.cc_grammar.specs.Reading.{Outcome, Sized, semicolon_symbol, is_element, ends_list}
use Rattle.cc_grammar.specs.Reading as r
use Rattle.cc_grammar.proofs.Meets.{Done, ok, err, after, fork, weaken}
use Rattle.cc_grammar.proofs.Views.{element_true}
use Rattle.cc_grammar.proofs.Marked.{In, consumed, marked, found, expected}
use Rattle.cc_grammar.proofs.Mono.{higher, higher_field, higher_t}
use Rattle.cc_grammar.proofs.Soundness.SoundParts.{SoundInner, EndsWith, whole_list, params_of_sound, IsKey, is_key, field_tree}

module _ (d turns : ℕ) (inner : In) (sound : SoundInner d inner) where
  pub elements_sound : (m : ℕ) (before : List RawExpr) (h : ℕ) (xs : Symbols) → h < d
      → Done (λ x ys. EndsWith Elements d before h xs x ys) (r.elements Symbols look rest semicolon_symbol d turns inner m before h xs)
  unfolding r.elements
  elements_sound zero before h xs lt = err
  elements_sound (suc m) before h xs lt = fork (is_mark mark.CloseBracket (look xs).kind) _ _
      (λ e. ok (record { more = []; tree = g.no_element (marked mark.CloseBracket xs e); is = sym (append-nil before); above = omega arith; low = lt }))
      (λ _. fork (is_element (look xs).kind) _ _
      (λ e. after (expected mark.CloseBracket (rest xs)) (λ _ ys c.
      ok (record { more = []; tree = g.any_element (consumed xs _ refl (element_true _ e)) c; is = sym (append-nil before); above = omega arith; low = lt })))
      (λ _. fork (is_mark mark.Comma (look xs).kind) _ _ (λ _. err)
      (λ _. after (sound.expr true 1 xs (omega arith)) (λ x ys p. fork (is_mark mark.Comma (look ys).kind) _ _
      (λ e. weaken (elements_sound m (before ++ x.0 ∷ []) (max h x.1) (rest ys) (omega arith)) (λ y zs q.
      record {
        more = x.0 ∷ q.more;
        tree = g.more_elements (higher y.1 (omega (arith, q.above)) p.0.whole.tree) (marked mark.Comma ys e) q.tree;
        is = q.is ∙ append_assoc before (x.0 ∷ []) q.more;
        above = omega (arith, q.above);
        low = q.low;
      }))
      (λ _. after (expected mark.CloseBracket ys) (λ _ zs c.
      ok (record { more = x.0 ∷ []; tree = g.last_element (higher (max h x.1) (omega arith) p.0.whole.tree) c; is = refl; above = omega arith; low = omega arith })))))))

  pub key_sound : (xs : Symbols) (o : Option RawKey) → key_of (look xs).kind ≡ o → Done (λ y ys. IsKey xs y ys) (r.key_by Symbols look rest semicolon_symbol d turns inner o xs)
  key_sound xs None e = err
  key_sound xs (Some y) e = fork (is_accessor (look xs).kind && is_some (key_of (look (rest xs)).kind)) _ _ (λ _. err) (λ _. ok (is_key (found key_of xs y refl refl e) e))

  pub field_sound : (xs : Symbols) → Done (λ x ys. Field x.1 xs x.0 ys × (x.1 < d)) (r.field Symbols look rest semicolon_symbol d turns inner xs)
  unfolding r.field
  field_sound xs = after (key_sound xs (key_of (look xs).kind) refl) (λ y ys q. after (expected mark.Colon ys) (λ _ zs c.
      after (sound.expr true 1 zs (omega arith)) (λ x ws p. ok (field_tree q c p.0.whole.tree, p.1))))

  pub object_fields_sound : (m : ℕ) (before : List RawField) (h : ℕ) (xs : Symbols) → h < d
      → Done (λ x ys. EndsWith Fields d before h xs x ys) (r.object_fields Symbols look rest semicolon_symbol d turns inner m before h xs)
  unfolding r.object_fields
  object_fields_sound zero before h xs lt = err
  object_fields_sound (suc m) before h xs lt = fork (is_mark mark.CloseBrace (look xs).kind) _ _
      (λ e. ok (record { more = []; tree = g.no_field (marked mark.CloseBrace xs e); is = sym (append-nil before); above = omega arith; low = lt }))
      (λ _. after (field_sound xs) (λ x ys p. fork (is_mark mark.Comma (look ys).kind) _ _
      (λ e. weaken (object_fields_sound m (before ++ x.0 ∷ []) (max h x.1) (rest ys) (omega arith)) (λ y zs q.
      record {
        more = x.0 ∷ q.more;
        tree = g.more_fields (higher_field y.1 (omega (arith, q.above)) p.0) (marked mark.Comma ys e) q.tree;
        is = q.is ∙ append_assoc before (x.0 ∷ []) q.more;
        above = omega (arith, q.above);
        low = q.low;
      }))
      (λ _. after (expected mark.CloseBrace ys) (λ _ zs c.
      ok (record { more = x.0 ∷ []; tree = g.last_field (higher_field (max h x.1) (omega arith) p.0) c; is = refl; above = omega arith; low = omega arith })))))

  pub arguments_sound : (m : ℕ) (before : List RawExpr) (h : ℕ) (xs : Symbols) → h < d
      → Done (λ x ys. EndsWith MoreArguments d before h xs x ys) (r.arguments Symbols look rest semicolon_symbol d turns inner m before h xs)
  unfolding r.arguments
  arguments_sound zero before h xs lt = err
  arguments_sound (suc m) before h xs lt = after (sound.expr true 1 xs (omega arith)) (λ x ys p. fork (is_mark mark.Comma (look ys).kind) _ _
      (λ e. weaken (arguments_sound m (before ++ x.0 ∷ []) (max h x.1) (rest ys) (omega arith)) (λ y zs q.
      record {
        more = x.0 ∷ q.more;
        tree = g.more_arguments (higher y.1 (omega (arith, q.above)) p.0.whole.tree) (marked mark.Comma ys e) q.tree;
        is = q.is ∙ append_assoc before (x.0 ∷ []) q.more;
        above = omega (arith, q.above);
        low = q.low;
      }))
      (λ _. after (expected mark.CloseParen ys) (λ _ zs c.
      ok (record { more = x.0 ∷ []; tree = g.last_argument (higher (max h x.1) (omega arith) p.0.whole.tree) c; is = refl; above = omega arith; low = omega arith }))))

  pub arguments_of_sound : (xs : Symbols) → 0 < d → Done (λ x ys. Arguments x.1 xs x.0 ys × (x.1 < d)) (r.arguments_of Symbols look rest semicolon_symbol d turns inner xs)
  unfolding r.arguments_of
  arguments_of_sound xs lt = fork (is_mark mark.CloseParen (look xs).kind) _ _ (λ e. ok (g.no_argument (marked mark.CloseParen xs e), lt))
      (λ _. weaken (arguments_sound turns [] 0 xs lt) (λ x ys p. (g.some_arguments (whole_list p), p.low)))

  pub list_sound : (c : Context) (m : ℕ) (before : List RawStmt) (h : ℕ) (xs : Symbols) → h < d
      → Done (λ x ys. EndsWith (Body c) d before h xs x ys × (ends_list (look ys).kind ≡ true)) (r.list Symbols look rest semicolon_symbol d turns inner c m before h xs)
  unfolding r.list
  list_sound c zero before h xs lt = err
  list_sound c (suc m) before h xs lt = fork (ends_list (look xs).kind) _ _
      (λ e. ok (record { more = []; tree = g.done; is = sym (append-nil before); above = omega arith; low = lt }, e))
      (λ _. after (sound.stmt c xs) (λ x ys p. weaken (list_sound c m (before ++ x.0) (max h x.1) ys (omega arith)) (λ y zs q. (
        record {
          more = x.0 ++ q.0.more;
          tree = g.next (higher_t y.1 (omega (arith, q.0.above)) p.0.tree) q.0.tree;
          is = q.0.is ∙ append_assoc before x.0 q.0.more;
          above = omega (arith, q.0.above);
          low = q.0.low;
        },
        q.1,
      ))))

  -- statements up to a brace, and the brace
  pub record Braced (c : Context) (xs : Symbols) (b : Sized (List RawStmt)) (ys : Symbols) : Type 0 where
    pub before : Symbols
    pub tree : Body c b.1 xs b.0 before
    pub close : Sign mark.CloseBrace before ys
    pub low : b.1 < d

  pub body_sound : (c : Context) (xs : Symbols) → 0 < d → Done (λ x ys. Braced c xs x ys) (r.body Symbols look rest semicolon_symbol d turns inner c xs)
  unfolding r.body
  body_sound c xs lt = after (list_sound c turns [] 0 xs lt) (λ x ys p. after (expected mark.CloseBrace ys) (λ _ zs q.
      ok (record { before = ys; tree = whole_list p.0; close = q; low = p.0.low })))

  pub function_sound : (xs : Symbols) → 0 < d → Done (λ x ys. Function x.1 xs x.0.0 x.0.1 ys × (x.1 < d)) (r.function Symbols look rest semicolon_symbol d turns inner xs)
  unfolding r.function
  function_sound xs lt = after (expected mark.OpenParen xs) (λ _ ys o. after (params_of_sound turns ys) (λ ps zs p. after (expected mark.OpenBrace zs) (λ _ us q.
      after (body_sound of_function us lt) (λ b ws x. ok (g.function_body o p q x.tree x.close, x.low)))))

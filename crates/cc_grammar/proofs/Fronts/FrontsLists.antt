-- Where reading stops, what came before is a front: lists and functions.
use Rattle.std.specs.Prelude.{◌≡◌, ℕ, zero, suc, ◌<◌, max, ◌&&◌, Bool, true, false, is_some, List, [], ◌∷◌, ◌++◌, Option, Some, None}
use Rattle.std.proofs.Common.{refl, sym, ap, arith, ◌∙◌}
use Rattle.cc_ast.specs.declared.place.Place.{Place}
use Rattle.cc_ast.specs.Syntax.{undefined}
use Rattle.cc_lexer.specs.declared.token.Mark.TheVariants as mark
use Rattle.cc_grammar.specs.Symbols.{Kind, Symbols, real, look, rest, nowhere, is_mark}
use Rattle.cc_grammar.specs.Symbols as k
use Rattle.cc_grammar.specs.RawTree.{RawExpr, RawStmt, RawKey, RawField, Named}
use Rattle.cc_grammar.specs.RawTree as raw
use Rattle.cc_grammar.specs.Signs.{is_accessor, key_of}
use Rattle.cc_grammar.specs.Grammar as g
use Rattle.cc_grammar.specs.Grammar.{Context, of_function, At, Sign, Variable, MoreParams, Params, E, Elements, Field, Fields, Arguments, MoreArguments, Function, T, Body, is_tail, named}
use Rattle.cc_grammar.specs.Reading.{Outcome, Sized, is_element, ends_list, variable_of, refused}
use Rattle.cc_grammar.specs.Reading as r
use Rattle.cc_grammar.proofs.Marked.{In, consumed, marked, found, expected, read_variable}
use Rattle.cc_grammar.proofs.Views.{mark_true, element_true}
use Rattle.cc_grammar.proofs.Mono.{higher, higher_field, higher_fields, higher_elements, higher_more, higher_t, higher_body}
use Rattle.cc_grammar.proofs.Shrinks.{reals, at_less, variable_less, params_less, e_less, field_less, t_less}
use Rattle.cc_grammar.proofs.Soundness.SoundParts.{SoundInner, IsKey, is_key, field_tree, params_of_sound}
use Rattle.cc_grammar.proofs.Soundness.SoundLists.{key_sound, field_sound, body_sound}
use Rattle.cc_grammar.proofs.Moves.{Front, stays, joined, Fits, free, look_kept}
use Rattle.cc_grammar.proofs.Moves as moves
use Rattle.cc_grammar.proofs.MovesDerived.{e_moves, field_moves, t_moves, params_move}
use Rattle.cc_grammar.proofs.Fails.{token, new_at, taken, again, variable_taken, variable_again, First, same, fresh, Spot, here, due, Begun, EE, Fails, fine, stop, by_element, by_key, fails_after, fails_map, fails_fork, fails_here, expect_fails, variable_fails, FailsInner}
use Rattle.cc_grammar.proofs.OnSymbols as s

-- ---- parameters

abbrev PP : List Named → Symbols → Symbols → Type 0
PP ps us vs = MoreParams us ps vs

no_params : (xs : Symbols) → Begun PP xs (here xs)
no_params xs = record {
  front = stays xs;
  more = λ zs. real (token (k.due k.variable)) ∷ real (token (k.mark mark.CloseParen)) ∷ zs;
  tree = record { place = nowhere; name = [] } ∷ [];
  holds = λ zs. g.last_param (g.any_variable (new_at (k.due k.variable))) (new_at (k.mark mark.CloseParen));
  first = λ zs. fresh refl;
}

param_due : (xs : Symbols) → Begun PP xs (due k.variable xs)
param_due xs = record {
  front = stays xs;
  more = λ zs. real (token (k.mark mark.CloseParen)) ∷ zs;
  tree = record { place = (look xs).place; name = [] } ∷ [];
  holds = λ zs. g.last_param (g.any_variable (g.at_token _ refl)) (new_at (k.mark mark.CloseParen));
  first = λ zs. fresh refl;
}

params_fail : {b : ℕ} (m : ℕ) (before : List Named) (xs : Symbols) → reals xs < m → 0 < b → Fails b (λ _ i. Begun PP xs i) (s.params m before xs)
unfolding r.params
params_fail zero before xs lt some = absurd (omega arith)
params_fail (suc m) before xs lt some = fails_after (read_variable xs) (variable_fails xs 0 (omega arith) (no_params xs) (param_due xs)) (λ v ys p. fails_fork (is_mark mark.Comma (look ys).kind) _ _
    (λ e. let c = marked mark.Comma ys e in fails_map (λ j. j) (λ j lt. lt) (λ j i w. record {
      front = joined (variable_taken p.0) (joined (taken c) w.front);
      more = w.more;
      tree = record { place = (look xs).place; name = v.name } ∷ w.tree;
      holds = λ zs. g.more_params (variable_again p.0 _) (again c _) (w.holds zs);
      first = λ zs. same refl;
    })
    (params_fail m _ (rest ys) (omega (arith, variable_less p.0, at_less c)) some))
    (λ _. fails_after (expected mark.CloseParen ys) (expect_fails mark.CloseParen ys 0 (omega arith) (record {
      front = variable_taken p.0;
      more = λ zs. real (token (k.mark mark.CloseParen)) ∷ zs;
      tree = record { place = (look xs).place; name = v.name } ∷ [];
      holds = λ zs. g.last_param (variable_again p.0 _) (new_at (k.mark mark.CloseParen));
      first = λ zs. same refl;
    })) (λ _ zs c. fine)))

abbrev PO : List Named → Symbols → Symbols → Type 0
PO ps us vs = Params us ps vs

pub params_of_fail : {b : ℕ} (m : ℕ) (xs : Symbols) → reals xs < m → 0 < b → Fails b (λ _ i. Begun PO xs i) (s.params_of m xs)
unfolding r.params_of
params_of_fail m xs lt some = fails_fork (is_mark mark.CloseParen (look xs).kind) _ _ (λ _. fine)
    (λ _. fails_map (λ j. j) (λ j lt. lt) (λ j i w. record { front = w.front; more = w.more; tree = w.tree; holds = λ zs. g.some_params (w.holds zs); first = w.first }) (params_fail m [] xs lt some))

both_true : (b c : Bool) → (b && c) ≡ true → (b ≡ true) × (c ≡ true)
both_true true true e = (refl, refl)
both_true true false e = cc
both_true false c e = cc

abbrev pub LL : ℕ → List RawExpr → Symbols → Symbols → Type 0
LL j es us vs = Elements j us es vs

abbrev pub FF : ℕ → RawField → Symbols → Symbols → Type 0
FF j f us vs = Field j us f vs

abbrev pub FS : ℕ → List RawField → Symbols → Symbols → Type 0
FS j fs us vs = Fields j us fs vs

abbrev pub MM : ℕ → List RawExpr → Symbols → Symbols → Type 0
MM j es us vs = MoreArguments j us es vs

abbrev pub AA : ℕ → List RawExpr → Symbols → Symbols → Type 0
AA j es us vs = Arguments j us es vs

abbrev pub BB : Context → ℕ → List RawStmt → Symbols → Symbols → Type 0
BB c j b us vs = is_tail (look vs).kind ≡ false → Body c j us b vs

-- statements up to the brace that closes them
pub record Closed (c : Context) (j : ℕ) (b : List RawStmt) (us vs : Symbols) : Type 0 where
  pub last : Symbols
  pub body : Body c j us b last
  pub close : Sign mark.CloseBrace last vs

abbrev pub CC : Context → ℕ → List RawStmt → Symbols → Symbols → Type 0
CC c j b us vs = Closed c j b us vs

pub no_body : (xs : Symbols) (c : Context) (j : ℕ) → Begun (CC c j) xs (here xs)
no_body xs c j = record { front = stays xs; more = λ zs. real (token (k.mark mark.CloseBrace)) ∷ zs; tree = []; holds = λ zs. record { last = _; body = g.done; close = new_at (k.mark mark.CloseBrace) }; first = λ zs. fresh refl }

abbrev pub UU : ℕ → (List Named × List RawStmt) → Symbols → Symbols → Type 0
UU j p us vs = Function j us p.0 p.1 vs

pub no_function : (xs : Symbols) (j : ℕ) → Begun (UU j) xs (here xs)
no_function xs j = record {
  front = stays xs;
  more = λ zs. real (token (k.mark mark.OpenParen)) ∷ real (token (k.mark mark.CloseParen)) ∷ real (token (k.mark mark.OpenBrace)) ∷ real (token (k.mark mark.CloseBrace)) ∷ zs;
  tree = ([], []);
  holds = λ zs. g.function_body (new_at (k.mark mark.OpenParen)) (g.no_params (new_at (k.mark mark.CloseParen))) (new_at (k.mark mark.OpenBrace)) g.done (new_at (k.mark mark.CloseBrace));
  first = λ zs. fresh refl;
}

module _ (d n : ℕ) (inner : In) (sound : SoundInner d inner) (all : FailsInner d n inner) where
  -- ---- the elements of an array

  elements_fail : (m : ℕ) (before : List RawExpr) (h : ℕ) (xs : Symbols) → 0 < d → reals xs < m → reals xs < n → Fails d (λ j i. Begun (LL j) xs i) (s.elements d n inner m before h xs)
  unfolding r.elements
  elements_fail zero before h xs lt lm ln = absurd (omega arith)
  elements_fail (suc m) before h xs lt lm ln = fails_fork (is_mark mark.CloseBracket (look xs).kind) _ _ (λ _. fine)
      (λ _. fails_fork (is_element (look xs).kind) _ _
      (λ e. let c = consumed xs (k.due k.element) refl (element_true _ e) in fails_after (expected mark.CloseBracket (rest xs)) (expect_fails mark.CloseBracket (rest xs) 0 (omega arith) (record {
        front = taken c;
        more = λ zs. real (token (k.mark mark.CloseBracket)) ∷ zs;
        tree = [];
        holds = λ zs. g.any_element (again c _) (new_at (k.mark mark.CloseBracket));
        first = λ zs. same refl;
      })) (λ _ zs q. fine))
      (λ _. fails_fork (is_mark mark.Comma (look xs).kind) _ _
      (λ q. stop refl (λ w. cc) 0 (omega arith) (by_element refl (mark_true mark.Comma _ q) 0 (record {
        front = stays xs;
        more = λ zs. real (token (k.mark mark.CloseBracket)) ∷ zs;
        tree = [];
        holds = λ zs. g.any_element (g.at_token _ refl) (new_at (k.mark mark.CloseBracket));
        first = λ zs. fresh refl;
      })) (record { front = stays xs; more = λ zs. real (token (k.mark mark.CloseBracket)) ∷ zs; tree = []; holds = λ zs. g.no_element (new_at (k.mark mark.CloseBracket)); first = λ zs. fresh refl }))
      (λ _. fails_after (sound.expr true 1 xs (omega arith))
      (fails_map (λ j. j) (λ j l. l) (λ j i w. record {
        front = w.front;
        more = λ zs. w.more (real (token (k.mark mark.CloseBracket)) ∷ zs);
        tree = w.tree ∷ [];
        holds = λ zs. g.last_element (w.holds _) (new_at (k.mark mark.CloseBracket));
        first = λ zs. w.first _;
      }) (all.expr lt true 1 xs ln (omega arith)))
      (λ x ys p. let t = p.0.whole.tree in let a = e_moves t in fails_fork (is_mark mark.Comma (look ys).kind) _ _
      (λ e. let c = marked mark.Comma ys e in fails_map (λ j. max x.1 j) (λ j l. omega (arith, p.1)) (λ j i w. record {
        front = joined a.front (joined (taken c) w.front);
        more = w.more;
        tree = x.0 ∷ w.tree;
        holds = λ zs. g.more_elements (higher (max x.1 j) (omega arith) (a.holds _)) (again c _) (higher_elements (max x.1 j) (omega arith) (w.holds zs));
        first = λ zs. same (look_kept a.front (e_less t) _);
      })
      (elements_fail m _ _ (rest ys) lt (omega (arith, e_less t, at_less c)) (omega (arith, e_less t, at_less c))))
      (λ _. fails_after (expected mark.CloseBracket ys) (expect_fails mark.CloseBracket ys x.1 (omega arith) (record {
        front = a.front;
        more = λ zs. real (token (k.mark mark.CloseBracket)) ∷ zs;
        tree = x.0 ∷ [];
        holds = λ zs. g.last_element (a.holds _) (new_at (k.mark mark.CloseBracket));
        first = λ zs. same (look_kept a.front (e_less t) _);
      })) (λ _ zs q. fine))))))

  pub all_elements_fail : (xs : Symbols) → 0 < d → reals xs < n → Fails d (λ j i. Begun (LL j) xs i) (s.elements d n inner n [] 0 xs)
  all_elements_fail xs lt ln = elements_fail n [] 0 xs lt ln ln

  -- ---- object literals

  no_field_yet : (xs : Symbols) (j : ℕ) → Begun (FF j) xs (here xs)
  no_field_yet xs j = record {
    front = stays xs;
    more = λ zs. real (token (k.due k.key)) ∷ real (token (k.mark mark.Colon)) ∷ real (token (k.due k.operand)) ∷ zs;
    tree = record { place = nowhere; key = raw.dotted []; value = raw.lit nowhere undefined };
    holds = λ zs. g.field (new_at (k.due k.key)) refl (new_at (k.mark mark.Colon)) (g.operand (new_at (k.due k.operand)));
    first = λ zs. fresh refl;
  }

  -- a key has come
  key_begun : {x : Kind} {y : RawKey} {xs ys : Symbols} (j : ℕ) → At x xs ys → key_of x ≡ Some y → Begun (FF j) xs (here ys)
  key_begun {y} {xs} j c e = record {
    front = taken c;
    more = λ zs. real (token (k.mark mark.Colon)) ∷ real (token (k.due k.operand)) ∷ zs;
    tree = record { place = (look xs).place; key = y; value = raw.lit nowhere undefined };
    holds = λ zs. g.field (again c _) e (new_at (k.mark mark.Colon)) (g.operand (new_at (k.due k.operand)));
    first = λ zs. same refl;
  }

  key_due : (xs : Symbols) (j : ℕ) → Begun (FF j) xs (due k.key xs)
  key_due xs j = record {
    front = stays xs;
    more = λ zs. real (token (k.mark mark.Colon)) ∷ real (token (k.due k.operand)) ∷ zs;
    tree = record { place = (look xs).place; key = raw.dotted []; value = raw.lit nowhere undefined };
    holds = λ zs. g.field (g.at_token _ refl) refl (new_at (k.mark mark.Colon)) (g.operand (new_at (k.due k.operand)));
    first = λ zs. fresh refl;
  }

  key_fails : {b : ℕ} (xs : Symbols) (v : Option RawKey) → key_of (look xs).kind ≡ v → 0 < b → Fails b (λ j i. Begun (FF j) xs i) (s.key_by d n inner v xs)
  key_fails xs None e some = fails_here xs 0 (omega arith) (no_field_yet xs 0)
  key_fails xs (Some y) e some = fails_fork (is_accessor (look xs).kind && is_some (key_of (look (rest xs)).kind)) _ _
      (λ t. let c = found key_of xs y refl refl e in let q = both_true (is_accessor (look xs).kind) _ t in stop refl (λ w. cc) 0 some (by_key refl c q.0 q.1 0 (key_due xs 0)) (key_begun 0 c e)) (λ _. fine)

  -- a key and its colon
  key_held : {y : Place × RawKey} {xs ys zs : Symbols} {i : Spot} (j : ℕ) → IsKey xs y ys → Sign mark.Colon ys zs → Begun (EE j true 1) zs i → Begun (FF j) xs i
  key_held {xs} j (is_key {y} c e) o w = record {
    front = joined (taken c) (joined (taken o) w.front);
    more = w.more;
    tree = record { place = (look xs).place; key = y; value = w.tree };
    holds = λ us. g.field (again c _) e (again o _) (w.holds us);
    first = λ us. same refl;
  }

  key_there : {y : Place × RawKey} {xs ys : Symbols} (j : ℕ) → IsKey xs y ys → Begun (FF j) xs (here ys)
  key_there j (is_key c e) = key_begun j c e

  key_less : {y : Place × RawKey} {xs ys : Symbols} → IsKey xs y ys → reals ys < reals xs
  key_less (is_key c e) = at_less c

  field_fails : (xs : Symbols) → 0 < d → reals xs < n → Fails d (λ j i. Begun (FF j) xs i) (s.field d n inner xs)
  unfolding r.field
  field_fails xs lt ln = fails_after (key_sound d n inner sound xs (key_of (look xs).kind) refl) (key_fails xs (key_of (look xs).kind) refl lt) (λ y ys q.
      fails_after (expected mark.Colon ys) (expect_fails mark.Colon ys 0 (omega arith) (key_there 0 q)) (λ _ zs c.
      fails_after (sound.expr true 1 zs (omega arith)) (fails_map (λ j. j) (λ j l. l) (λ j i w. key_held j q c w) (all.expr lt true 1 zs (omega (arith, key_less q, at_less c)) (omega arith))) (λ x ws p. fine)))

  fields_fail : (m : ℕ) (before : List RawField) (h : ℕ) (xs : Symbols) → 0 < d → reals xs < m → reals xs < n → Fails d (λ j i. Begun (FS j) xs i) (s.object_fields d n inner m before h xs)
  unfolding r.object_fields
  fields_fail zero before h xs lt lm ln = absurd (omega arith)
  fields_fail (suc m) before h xs lt lm ln = fails_fork (is_mark mark.CloseBrace (look xs).kind) _ _ (λ _. fine)
      (λ _. fails_after (field_sound d n inner sound xs)
      (fails_map (λ j. j) (λ j l. l) (λ j i w. record {
        front = w.front;
        more = λ zs. w.more (real (token (k.mark mark.CloseBrace)) ∷ zs);
        tree = w.tree ∷ [];
        holds = λ zs. g.last_field (w.holds _) (new_at (k.mark mark.CloseBrace));
        first = λ zs. w.first _;
      }) (field_fails xs lt ln))
      (λ x ys p. let a = field_moves p.0 in fails_fork (is_mark mark.Comma (look ys).kind) _ _
      (λ e. let c = marked mark.Comma ys e in fails_map (λ j. max x.1 j) (λ j l. omega (arith, p.1)) (λ j i w. record {
        front = joined a.front (joined (taken c) w.front);
        more = w.more;
        tree = x.0 ∷ w.tree;
        holds = λ zs. g.more_fields (higher_field (max x.1 j) (omega arith) (a.holds _)) (again c _) (higher_fields (max x.1 j) (omega arith) (w.holds zs));
        first = λ zs. same (look_kept a.front (field_less p.0) _);
      })
      (fields_fail m _ _ (rest ys) lt (omega (arith, field_less p.0, at_less c)) (omega (arith, field_less p.0, at_less c))))
      (λ _. fails_after (expected mark.CloseBrace ys) (expect_fails mark.CloseBrace ys x.1 (omega arith) (record {
        front = a.front;
        more = λ zs. real (token (k.mark mark.CloseBrace)) ∷ zs;
        tree = x.0 ∷ [];
        holds = λ zs. g.last_field (a.holds _) (new_at (k.mark mark.CloseBrace));
        first = λ zs. same (look_kept a.front (field_less p.0) _);
      })) (λ _ zs q. fine))))

  pub all_fields_fail : (xs : Symbols) → 0 < d → reals xs < n → Fails d (λ j i. Begun (FS j) xs i) (s.object_fields d n inner n [] 0 xs)
  all_fields_fail xs lt ln = fields_fail n [] 0 xs lt ln ln

  -- ---- the arguments of a call

  arguments_fail : (m : ℕ) (before : List RawExpr) (h : ℕ) (xs : Symbols) → 0 < d → reals xs < m → reals xs < n → Fails d (λ j i. Begun (MM j) xs i) (s.arguments d n inner m before h xs)
  unfolding r.arguments
  arguments_fail zero before h xs lt lm ln = absurd (omega arith)
  arguments_fail (suc m) before h xs lt lm ln = fails_after (sound.expr true 1 xs (omega arith))
      (fails_map (λ j. j) (λ j l. l) (λ j i w. record {
        front = w.front;
        more = λ zs. w.more (real (token (k.mark mark.CloseParen)) ∷ zs);
        tree = w.tree ∷ [];
        holds = λ zs. g.last_argument (w.holds _) (new_at (k.mark mark.CloseParen));
        first = λ zs. w.first _;
      }) (all.expr lt true 1 xs ln (omega arith)))
      (λ x ys p. let t = p.0.whole.tree in let a = e_moves t in fails_fork (is_mark mark.Comma (look ys).kind) _ _
      (λ e. let c = marked mark.Comma ys e in fails_map (λ j. max x.1 j) (λ j l. omega (arith, p.1)) (λ j i w. record {
        front = joined a.front (joined (taken c) w.front);
        more = w.more;
        tree = x.0 ∷ w.tree;
        holds = λ zs. g.more_arguments (higher (max x.1 j) (omega arith) (a.holds _)) (again c _) (higher_more (max x.1 j) (omega arith) (w.holds zs));
        first = λ zs. same (look_kept a.front (e_less t) _);
      })
      (arguments_fail m _ _ (rest ys) lt (omega (arith, e_less t, at_less c)) (omega (arith, e_less t, at_less c))))
      (λ _. fails_after (expected mark.CloseParen ys) (expect_fails mark.CloseParen ys x.1 (omega arith) (record {
        front = a.front;
        more = λ zs. real (token (k.mark mark.CloseParen)) ∷ zs;
        tree = x.0 ∷ [];
        holds = λ zs. g.last_argument (a.holds _) (new_at (k.mark mark.CloseParen));
        first = λ zs. same (look_kept a.front (e_less t) _);
      })) (λ _ zs q. fine)))

  pub arguments_of_fail : (xs : Symbols) → 0 < d → reals xs < n → Fails d (λ j i. Begun (AA j) xs i) (s.arguments_of d n inner xs)
  unfolding r.arguments_of
  arguments_of_fail xs lt ln = fails_fork (is_mark mark.CloseParen (look xs).kind) _ _ (λ _. fine)
      (λ _. fails_map (λ j. j) (λ j l. l) (λ j i w. record { front = w.front; more = w.more; tree = w.tree; holds = λ zs. g.some_arguments (w.holds zs); first = w.first }) (arguments_fail n [] 0 xs lt ln ln))

  -- ---- statements one behind the other, and functions

  -- a statement before others that have begun
  next_begun : {c : Context} {h : ℕ} {a : List RawStmt} {xs ys : Symbols} {i : Spot} (j : ℕ) → T c h xs a ys → Begun (BB c j) ys i → Begun (BB c (max h j)) xs i
  next_begun {h} {a} {ys} j x w = let m = t_moves x in record {
    front = joined m.front w.front;
    more = w.more;
    tree = a ++ w.tree;
    holds = λ zs f. g.next (higher_t (max h j) (omega arith) (m.holds _ (fits (w.first zs)))) (higher_body (max h j) (omega arith) (w.holds zs f));
    first = λ zs. same (look_kept m.front (t_less x) _);
  } where
    fits : {us : Symbols} → First ys us → Fits ys us
    fits (same e) = moves.same e
    fits (fresh t) = free t

  list_fails : (c : Context) (m : ℕ) (before : List RawStmt) (h : ℕ) (xs : Symbols) → 0 < d → reals xs < m → reals xs < n → Fails d (λ j i. Begun (BB c j) xs i) (s.list d n inner c m before h xs)
  unfolding r.list
  list_fails c zero before h xs lt lm ln = absurd (omega arith)
  list_fails c (suc m) before h xs lt lm ln = fails_fork (ends_list (look xs).kind) _ _ (λ _. fine)
      (λ _. fails_after (sound.stmt c xs)
      (fails_map (λ j. j) (λ j l. l) (λ j i w. record { front = w.front; more = w.more; tree = w.tree ++ []; holds = λ zs f. g.next (w.holds zs f) g.done; first = w.first }) (all.stmt lt c xs ln))
      (λ x ys p. fails_map (λ j. max x.1 j) (λ j l. omega (arith, p.1)) (λ j i w. next_begun j p.0.tree w) (list_fails c m _ _ ys lt (omega (arith, t_less p.0.tree)) (omega (arith, t_less p.0.tree)))))

  pub statements_fail : (c : Context) (xs : Symbols) → 0 < d → reals xs < n → Fails d (λ j i. Begun (BB c j) xs i) (s.list d n inner c n [] 0 xs)
  statements_fail c xs lt ln = list_fails c n [] 0 xs lt ln ln

  closing : {c : Context} {j : ℕ} {xs : Symbols} {i : Spot} → Begun (BB c j) xs i → Begun (CC c j) xs i
  closing w = record { front = w.front; more = λ zs. w.more (real (token (k.mark mark.CloseBrace)) ∷ zs); tree = w.tree; holds = λ zs. record { last = _; body = w.holds _ refl; close = new_at (k.mark mark.CloseBrace) }; first = λ zs. w.first _ }

  pub body_fails : (c : Context) (xs : Symbols) → 0 < d → reals xs < n → Fails d (λ j i. Begun (CC c j) xs i) (s.body d n inner c xs)
  unfolding r.body
  body_fails c xs lt ln = fails_after (Rattle.cc_grammar.proofs.Soundness.SoundLists.list_sound d n inner sound c n [] 0 xs lt) (fails_map (λ j. j) (λ j l. l) (λ j i w. closing w) (statements_fail c xs lt ln)) (λ b ys p.
      let t = Rattle.cc_grammar.proofs.Soundness.SoundParts.whole_list p.0 in let m = Rattle.cc_grammar.proofs.MovesDerived.body_moves t in
      fails_after (expected mark.CloseBrace ys) (expect_fails mark.CloseBrace ys b.1 (omega arith) (record {
        front = m.front;
        more = λ zs. real (token (k.mark mark.CloseBrace)) ∷ zs;
        tree = b.0;
        holds = λ zs. record { last = _; body = m.holds _ (free refl); close = new_at (k.mark mark.CloseBrace) };
        first = λ zs. body_first m.front zs;
      })) (λ _ zs c. fine)) where
        body_first : {xs ys : Symbols} (f : Front xs ys) (zs : Symbols) → First xs (f.go (real (token (k.mark mark.CloseBrace)) ∷ zs))
        body_first {xs} {ys} f zs = by f.before (f.prefix ys) (f.prefix (real (token (k.mark mark.CloseBrace)) ∷ zs)) where
          by : (before : Symbols) → f.go ys ≡ before ++ ys → f.go (real (token (k.mark mark.CloseBrace)) ∷ zs) ≡ before ++ real (token (k.mark mark.CloseBrace)) ∷ zs → First xs (f.go (real (token (k.mark mark.CloseBrace)) ∷ zs))
          by [] e h = fresh (ap (λ z. is_tail (look z).kind) h)
          by (m ∷ before) e h = same (ap look h ∙ sym (ap look e) ∙ ap look f.is)

  pub function_fails : (xs : Symbols) → 0 < d → reals xs < n → Fails d (λ j i. Begun (UU j) xs i) (s.function d n inner xs)
  unfolding r.function
  function_fails xs lt ln = fails_after (expected mark.OpenParen xs) (expect_fails mark.OpenParen xs 0 (omega arith) (no_function xs 0)) (λ _ ys o.
      fails_after (params_of_sound n ys) (fails_map (λ j. j) (λ j l. l) (λ j i w. record {
        front = joined (taken o) w.front;
        more = λ zs. w.more (real (token (k.mark mark.OpenBrace)) ∷ real (token (k.mark mark.CloseBrace)) ∷ zs);
        tree = (w.tree, []);
        holds = λ zs. g.function_body (again o _) (w.holds _) (new_at (k.mark mark.OpenBrace)) g.done (new_at (k.mark mark.CloseBrace));
        first = λ zs. same refl;
      }) (params_of_fail n ys (omega (arith, at_less o)) (omega arith))) (λ ps zs p. let m = params_move p in
      fails_after (expected mark.OpenBrace zs) (expect_fails mark.OpenBrace zs 0 (omega arith) (record {
        front = joined (taken o) m.front;
        more = λ zs. real (token (k.mark mark.OpenBrace)) ∷ real (token (k.mark mark.CloseBrace)) ∷ zs;
        tree = (ps, []);
        holds = λ zs. g.function_body (again o _) (m.holds _) (new_at (k.mark mark.OpenBrace)) g.done (new_at (k.mark mark.CloseBrace));
        first = λ zs. same refl;
      })) (λ _ us q.
      fails_after (body_sound d n inner sound of_function us lt) (fails_map (λ j. j) (λ j l. l) (λ j i w. record {
        front = joined (taken o) (joined m.front (joined (taken q) w.front));
        more = w.more;
        tree = (ps, w.tree);
        holds = λ zs. g.function_body (again o _) (m.holds _) (again q _) (w.holds zs).body (w.holds zs).close;
        first = λ zs. same refl;
      }) (body_fails of_function us lt (omega (arith, at_less o, params_less p, at_less q)))) (λ b ws x. fine))))

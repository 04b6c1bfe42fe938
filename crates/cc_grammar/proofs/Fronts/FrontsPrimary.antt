-- Where reading stops, what came before is a front: primary expressions, and what goes on with them by dots, brackets and calls.
use Rattle.std.specs.Prelude.{◌≡◌, ℕ, zero, suc, ◌+◌, ◌<◌, ◌≤◌, max, Bool, true, false, List, [], ◌∷◌, Ok, Option, Some, None}
use Rattle.std.proofs.Common.{refl, sym, ap, arith, ◌∙◌}
use Rattle.cc_ast.specs.Syntax.{undefined}
use Rattle.cc_lexer.specs.declared.token.Mark.TheVariants as mark
use Rattle.cc_lexer.specs.declared.word.Word.TheVariants as word
use Rattle.cc_grammar.specs.Symbols.{Kind, Symbols, real, look, rest, nowhere, is_mark}
use Rattle.cc_grammar.specs.Symbols as k
use Rattle.cc_grammar.specs.RawTree.{RawExpr, Named, exprs, fields, stmts}
use Rattle.cc_grammar.specs.RawTree as raw
use Rattle.cc_grammar.specs.Signs.{parenthesised, property_of}
use Rattle.cc_grammar.specs.Grammar as g
use Rattle.cc_grammar.specs.Grammar.{At, Sign, Reserved, OwnName, E}
use Rattle.cc_grammar.specs.Reading.{Outcome, Sized, Head, Suffix, and_then, variable_of, head_of, suffix_of}
use Rattle.cc_grammar.specs.Reading as r
use Rattle.cc_grammar.proofs.Marked.{In, consumed, marked, expected}
use Rattle.cc_grammar.proofs.Views.{mark_true, IsHead, head_is, IsSuffix, suffix_is}
use Rattle.cc_grammar.proofs.Views as view
use Rattle.cc_grammar.proofs.Mono.{lower}
use Rattle.cc_grammar.proofs.Shrinks.{reals, at_less, e_less, own_less}
use Rattle.cc_grammar.proofs.Soundness.SoundParts.{SoundInner, own_name_sound}
use Rattle.cc_grammar.proofs.Soundness.SoundPrimary.{chains, stands, Chained, primary_sound, dotted_sound, bracketed_sound, called_sound, below, some_call}
use Rattle.cc_grammar.proofs.Moves.{stays, joined, look_kept}
use Rattle.cc_grammar.proofs.MovesDerived.{e_moves, own_moves}
use Rattle.cc_grammar.proofs.Fails.{token, new_at, taken, again, same, fresh, Spot, here, due, Begun, EE, no_e, e_due, name_due, Fails, fine, variable_missing, operand_missing, fails_after, fails_map, fails_fork, fails_here, expect_fails, raises, deeper_fails, FailsInner}
use Rattle.cc_grammar.proofs.Fronts.FrontsLists.{AA, UU, no_function, all_elements_fail, all_fields_fail, arguments_of_fail, function_fails}
use Rattle.cc_grammar.proofs.OnSymbols as s

goes_on_by : (calls : Bool) → g.Chain (chains calls)
goes_on_by true = g.chain
goes_on_by false = g.member_chain

has_suffix : (x : Kind) (s : Suffix) → suffix_of true x ≡ s → ¬ (s ≡ r.no_suffix) → ¬ (suffix_of true x ≡ r.no_suffix)
has_suffix x s e f q = f (sym e ∙ q)

own_name_fails : {b : ℕ} {P : ℕ → Spot → Type 0} (xs : Symbols) (j : ℕ) → j < b → P j (here xs) → P j (due k.variable xs) → Fails b P (s.own_name xs)
unfolding r.own_name
own_name_fails {b} {P} xs j lt h u = by (variable_of (look xs).kind) (is_mark mark.OpenParen (look xs).kind) where
  by : (v : Option (List ℕ)) (c : Bool) → Fails b P (s.own_name_by v c xs)
  by None true = fine
  by None false = variable_missing xs j lt h u
  by (Some v) c = fine

-- it has come whole
pub whole_e : {h l : ℕ} {b : Bool} {xs ys : Symbols} {e : RawExpr} → E h b l xs e ys → Begun (EE h b l) xs (here ys)
whole_e {e} x = let m = e_moves x in record { front = m.front; more = λ zs. zs; tree = e; holds = m.holds; first = λ zs. same (look_kept m.front (e_less x) zs) }

pub lower_begun : {j l : ℕ} {b : Bool} {xs : Symbols} {i : Spot} (m : ℕ) → m ≤ l → ¬ (m ≡ 16) → Begun (EE j b l) xs i → Begun (EE j b m) xs i
lower_begun m le ne w = record { front = w.front; more = w.more; tree = w.tree; holds = λ zs. lower m le ne (w.holds zs); first = w.first }

module _ (d n : ℕ) (inner : In) (sound : SoundInner d inner) (all : FailsInner d n inner) where
  -- ---- primary expressions

  abbrev PE : Bool → Symbols → ℕ → Spot → Type 0
  PE b xs j i = Begun (EE j b 17) xs i

  parentheses_fail : (b : Bool) (xs : Symbols) → Sign mark.OpenParen xs (rest xs) → 0 < d → reals xs < n → Fails (suc d) (PE b xs) (s.parentheses d n inner xs)
  unfolding r.parentheses
  parentheses_fail b xs c lt ln = fails_after (sound.expr true 0 (rest xs) (omega arith))
      (fails_map suc (λ j l. omega arith) (λ j i w. record {
        front = joined (taken c) w.front;
        more = λ zs. w.more (real (token (k.mark mark.CloseParen)) ∷ zs);
        tree = parenthesised (look xs) w.tree;
        holds = λ zs. g.paren (omega arith) (again c _) (w.holds _) (new_at (k.mark mark.CloseParen));
        first = λ zs. same refl;
      }) (all.expr lt true 0 (rest xs) (omega (arith, at_less c)) (omega arith)))
      (λ x ys p. let m = e_moves p.0.whole.tree in fails_after (expected mark.CloseParen ys) (expect_fails mark.CloseParen ys (x.1 + 1) (omega arith) (record {
        front = joined (taken c) m.front;
        more = λ zs. real (token (k.mark mark.CloseParen)) ∷ zs;
        tree = parenthesised (look xs) x.0;
        holds = λ zs. g.paren (omega arith) (again c _) (m.holds _) (new_at (k.mark mark.CloseParen));
        first = λ zs. same refl;
      })) (λ _ zs q. fine))

  array_fails : (b : Bool) (xs : Symbols) → Sign mark.OpenBracket xs (rest xs) → 0 < d → reals xs < n → Fails (suc d) (PE b xs) (s.array d n inner xs)
  unfolding r.array
  array_fails b xs c lt ln = fails_after (Rattle.cc_grammar.proofs.Soundness.SoundLists.elements_sound d n inner sound n [] 0 (rest xs) lt)
      (fails_map suc (λ j l. omega arith) (λ j i w. record { front = joined (taken c) w.front; more = w.more; tree = raw.list (look xs).place (exprs w.tree); holds = λ zs. g.array (omega arith) (again c _) (w.holds zs); first = λ zs. same refl })
      (all_elements_fail d n inner sound all (rest xs) lt (omega (arith, at_less c))))
      (λ x ys p. fine)

  object_fails : (b : Bool) (xs : Symbols) → Sign mark.OpenBrace xs (rest xs) → 0 < d → reals xs < n → Fails (suc d) (PE b xs) (s.object d n inner xs)
  unfolding r.object
  object_fails b xs c lt ln = fails_after (Rattle.cc_grammar.proofs.Soundness.SoundLists.object_fields_sound d n inner sound n [] 0 (rest xs) lt)
      (fails_map suc (λ j l. omega arith) (λ j i w. record { front = joined (taken c) w.front; more = w.more; tree = raw.object (look xs).place (fields w.tree); holds = λ zs. g.object (omega arith) (again c _) (w.holds zs); first = λ zs. same refl })
      (all_fields_fail d n inner sound all (rest xs) lt (omega (arith, at_less c))))
      (λ x ys p. fine)

  -- a function, behind its word
  function_begun : {o : Option Named} {xs ys zs : Symbols} {i : Spot} (b : Bool) (j : ℕ) → Reserved word.Function xs ys → OwnName ys o zs → Begun (UU j) zs i → Begun (EE (suc j) b 17) xs i
  function_begun {o} {xs} b j c w u = let m = own_moves w in record {
    front = joined (taken c) (joined m.front u.front);
    more = u.more;
    tree = raw.fun (look xs).place o u.tree.0 (stmts u.tree.1);
    holds = λ zs. g.function (omega arith) (again c _) (m.holds _) (u.holds zs);
    first = λ zs. same refl;
  }

  -- whose name is due
  function_named : {xs ys : Symbols} (b : Bool) → Reserved word.Function xs ys → Begun (EE 1 b 17) xs (due k.variable ys)
  function_named {xs} {ys} b c = record {
    front = taken c;
    more = λ zs. real (token (k.mark mark.OpenParen)) ∷ real (token (k.mark mark.CloseParen)) ∷ real (token (k.mark mark.OpenBrace)) ∷ real (token (k.mark mark.CloseBrace)) ∷ zs;
    tree = raw.fun (look xs).place (Some (record { place = (look ys).place; name = [] })) [] (stmts []);
    holds = λ zs. g.function {h = 0} (omega arith) (again c _) (g.own_name (g.any_variable (g.at_token _ refl)))
        (g.function_body (new_at (k.mark mark.OpenParen)) (g.no_params (new_at (k.mark mark.CloseParen))) (new_at (k.mark mark.OpenBrace)) g.done (new_at (k.mark mark.CloseBrace)));
    first = λ zs. same refl;
  }

  function_expr_fails : (b : Bool) (xs : Symbols) → Reserved word.Function xs (rest xs) → 0 < d → reals xs < n → Fails (suc d) (PE b xs) (s.function_expr d n inner xs)
  unfolding r.function_expr
  function_expr_fails b xs c lt ln = fails_after (own_name_sound (rest xs)) (own_name_fails (rest xs) 1 (omega arith) (function_begun b 0 c g.no_name (no_function (rest xs) 0)) (function_named b c)) (λ o ys q.
      fails_after (Rattle.cc_grammar.proofs.Soundness.SoundLists.function_sound d n inner sound ys lt) (fails_map suc (λ j l. omega arith) (λ j i w. function_begun b j c q w) (function_fails d n inner sound all ys lt (omega (arith, at_less c, own_less q)))) (λ x zs p. fine))

  new_begun : {xs ys : Symbols} {i : Spot} (b : Bool) (j : ℕ) → Reserved word.New xs ys → Begun (EE j b 17) ys i → Begun (EE (suc j) b 17) xs i
  new_begun {xs} b j c w = record { front = joined (taken c) w.front; more = w.more; tree = raw.new (look xs).place w.tree raw.no_exprs; holds = λ zs. g.new (omega arith) (λ q. omega arith) (omega arith) (again c _) (w.holds zs); first = λ zs. same refl }

  new_expr_fails : (b : Bool) (xs : Symbols) → Reserved word.New xs (rest xs) → 0 < d → reals xs < n → Fails (suc d) (PE b xs) (s.new_expr d n inner b xs)
  unfolding r.new_expr
  new_expr_fails b xs c lt ln = fails_after (sound.callee b (rest xs)) (fails_map suc (λ j l. omega arith) (λ j i w. new_begun b j c w) (all.callee lt b (rest xs) (omega (arith, at_less c)))) (λ f ys p.
      fails_fork (is_mark mark.OpenParen (look ys).kind) _ _
      (λ e. let o = marked mark.OpenParen ys e in let t = p.0.member (some_call (look ys).kind e) in let m = e_moves t in
      fails_after (Rattle.cc_grammar.proofs.Soundness.SoundLists.arguments_of_sound d n inner sound (rest ys) lt)
      (fails_map (λ j. suc (max f.1 j)) (λ j l. omega (arith, p.1)) (λ j i w. record {
        front = joined (taken c) (joined m.front (joined (taken o) w.front));
        more = w.more;
        tree = raw.new (look xs).place f.0 (exprs w.tree);
        holds = λ zs. g.new_call (omega arith) (omega arith) (omega arith) (again c _) (m.holds _) (again o _) (w.holds zs);
        first = λ zs. same refl;
      })
      (arguments_of_fail d n inner sound all (rest ys) lt (omega (arith, at_less c, e_less t, at_less o))))
      (λ x zs q. fine))
      (λ _. fine))

  primary_by_fails : (b : Bool) (xs : Symbols) (x : Kind) (h : Head) → reals xs < n → (look xs).kind ≡ x → IsHead x h → Fails (suc d) (PE b xs) (s.primary_by d n inner b h xs)
  primary_by_fails b xs x h ln e (view.literal q) = fine
  primary_by_fails b xs x h ln e (view.variable q) = fine
  primary_by_fails b xs x h ln e view.this = fine
  primary_by_fails b xs x h ln e view.operand = fine
  primary_by_fails b xs x h ln e view.paren = let c = consumed xs (k.mark mark.OpenParen) refl e in
      deeper_fails c (raises refl) (λ lt. parentheses_fail b xs c lt ln) 0 (omega arith) (no_e xs 0 b 17) 1 (record {
        front = taken c;
        more = λ zs. real (token (k.due k.operand)) ∷ real (token (k.mark mark.CloseParen)) ∷ zs;
        tree = parenthesised (look xs) (raw.lit nowhere undefined);
        holds = λ zs. g.paren {h = 0} (omega arith) (again c _) (g.operand (new_at (k.due k.operand))) (new_at (k.mark mark.CloseParen));
        first = λ zs. same refl;
      })
  primary_by_fails b xs x h ln e view.array = let c = consumed xs (k.mark mark.OpenBracket) refl e in
      deeper_fails c (raises refl) (λ lt. array_fails b xs c lt ln) 0 (omega arith) (no_e xs 0 b 17) 1 (record {
        front = taken c;
        more = λ zs. real (token (k.mark mark.CloseBracket)) ∷ zs;
        tree = raw.list (look xs).place (exprs []);
        holds = λ zs. g.array {h = 0} (omega arith) (again c _) (g.no_element (new_at (k.mark mark.CloseBracket)));
        first = λ zs. same refl;
      })
  primary_by_fails b xs x h ln e view.object = let c = consumed xs (k.mark mark.OpenBrace) refl e in
      deeper_fails c (raises refl) (λ lt. object_fails b xs c lt ln) 0 (omega arith) (no_e xs 0 b 17) 1 (record {
        front = taken c;
        more = λ zs. real (token (k.mark mark.CloseBrace)) ∷ zs;
        tree = raw.object (look xs).place (fields []);
        holds = λ zs. g.object {h = 0} (omega arith) (again c _) (g.no_field (new_at (k.mark mark.CloseBrace)));
        first = λ zs. same refl;
      })
  primary_by_fails b xs x h ln e view.function = let c = consumed xs (k.word word.Function) refl e in
      deeper_fails c (raises refl) (λ lt. function_expr_fails b xs c lt ln) 0 (omega arith) (no_e xs 0 b 17) 1 (function_begun b 0 c g.no_name (no_function (rest xs) 0))
  primary_by_fails b xs x h ln e view.new = let c = consumed xs (k.word word.New) refl e in
      deeper_fails c (raises refl) (λ lt. new_expr_fails b xs c lt ln) 0 (omega arith) (no_e xs 0 b 17) 1 (new_begun b 0 c (no_e (rest xs) 0 b 17))
  primary_by_fails b xs x h ln e (view.none p q) = operand_missing xs 0 (omega arith) (no_e xs 0 b 17) (e_due xs 0 b 17) (name_due xs 0 b 17)

  pub primary_fails : (b : Bool) (xs : Symbols) → reals xs < n → Fails (suc d) (PE b xs) (s.primary d n inner b xs)
  unfolding r.primary
  primary_fails b xs ln = primary_by_fails b xs (look xs).kind (head_of (look xs).kind) ln refl (head_is (look xs).kind)

  -- ---- dots, brackets and calls

  abbrev pub SE : Bool → Bool → Symbols → ℕ → Spot → Type 0
  SE calls b xs j i = Begun (EE j b (stands calls)) xs i

  dot_begun : (calls b : Bool) {h : ℕ} {e : RawExpr} {xs ys : Symbols} → E h b (chains calls) xs e ys → Sign mark.Dot ys (rest ys) → SE calls b xs (suc h) (here (rest ys))
  dot_begun calls b {e} {ys} t c = let m = e_moves t in record {
    front = joined m.front (taken c);
    more = λ zs. real (token (k.name [])) ∷ zs;
    tree = raw.member (look ys).place e nowhere [];
    holds = λ zs. g.dotted (goes_on_by calls) (below calls) (omega arith) (m.holds _) (again c _) (new_at (k.name [])) refl;
    first = λ zs. same (look_kept m.front (e_less t) _);
  }

  dotted_fails : (calls b : Bool) (a : Sized RawExpr) (xs ys : Symbols) → E a.1 b (chains calls) xs a.0 ys → Sign mark.Dot ys (rest ys) → a.1 < d → Fails (suc d) (SE calls b xs) (s.dotted d n inner a ys)
  unfolding r.dotted
  dotted_fails calls b a xs ys t c lt = by (property_of (look (rest ys)).kind) where
    by : (v : Option (List ℕ)) → Fails {A = Sized RawExpr} (suc d) (SE calls b xs) (and_then (s.property_by d n inner v (rest ys)) (λ p i. Ok ((raw.member (look ys).place a.0 p.0 p.1, a.1 + 1), i)))
    by None = fails_here (rest ys) (suc a.1) (omega arith) (dot_begun calls b t c)
    by (Some v) = fine

  bracket_begun : (calls b : Bool) {h : ℕ} (j : ℕ) {e : RawExpr} {xs ys : Symbols} {i : Spot} → E h b (chains calls) xs e ys → Sign mark.OpenBracket ys (rest ys) → Begun (EE j true 0) (rest ys) i → SE calls b xs (suc (max h j)) i
  bracket_begun calls b j {e} {ys} t c w = let m = e_moves t in record {
    front = joined m.front (joined (taken c) w.front);
    more = λ zs. w.more (real (token (k.mark mark.CloseBracket)) ∷ zs);
    tree = raw.index (look ys).place e w.tree;
    holds = λ zs. g.bracketed (goes_on_by calls) (below calls) (omega arith) (omega arith) (m.holds _) (again c _) (w.holds _) (new_at (k.mark mark.CloseBracket));
    first = λ zs. same (look_kept m.front (e_less t) _);
  }

  bracketed_fails : (calls b : Bool) (a : Sized RawExpr) (xs ys : Symbols) → reals xs < n → a.1 < d → E a.1 b (chains calls) xs a.0 ys → Sign mark.OpenBracket ys (rest ys) → Fails (suc d) (SE calls b xs) (s.bracketed d n inner a ys)
  unfolding r.bracketed
  bracketed_fails calls b a xs ys ln lt t c = fails_after (sound.expr true 0 (rest ys) (omega arith))
      (fails_map (λ j. suc (max a.1 j)) (λ j l. omega arith) (λ j i w. bracket_begun calls b j t c w) (all.expr (omega arith) true 0 (rest ys) (omega (arith, e_less t, at_less c)) (omega arith)))
      (λ x zs p. fails_after (expected mark.CloseBracket zs) (expect_fails mark.CloseBracket zs (suc (max a.1 x.1)) (omega arith) (bracket_begun calls b x.1 t c (whole_e p.0.whole.tree))) (λ _ ws q. fine))

  call_begun : (b : Bool) {h : ℕ} (j : ℕ) {e : RawExpr} {xs ys : Symbols} {i : Spot} → E h b 16 xs e ys → Sign mark.OpenParen ys (rest ys) → Begun (AA j) (rest ys) i → SE true b xs (suc (max h j)) i
  call_begun b j {e} {ys} t c w = let m = e_moves t in record {
    front = joined m.front (joined (taken c) w.front);
    more = w.more;
    tree = raw.call (look ys).place e (exprs w.tree);
    holds = λ zs. g.call (omega arith) (omega arith) (omega arith) (m.holds _) (again c _) (w.holds zs);
    first = λ zs. same (look_kept m.front (e_less t) _);
  }

  called_fails : (b : Bool) (a : Sized RawExpr) (xs ys : Symbols) → reals xs < n → a.1 < d → E a.1 b 16 xs a.0 ys → Sign mark.OpenParen ys (rest ys) → Fails (suc d) (SE true b xs) (s.called d n inner a ys)
  unfolding r.called
  called_fails b a xs ys ln lt t c = fails_after (Rattle.cc_grammar.proofs.Soundness.SoundLists.arguments_of_sound d n inner sound (rest ys) (omega arith))
      (fails_map (λ j. suc (max a.1 j)) (λ j l. omega arith) (λ j i w. call_begun b j t c w) (arguments_of_fail d n inner sound all (rest ys) (omega arith) (omega (arith, e_less t, at_less c))))
      (λ x zs p. fine)

  suffix_fails : (calls b : Bool) (a : Sized RawExpr) (xs ys : Symbols) (next : Sized RawExpr → s.Reader (Sized RawExpr)) (x : Kind) (v : Suffix) → reals xs < n
      → (look ys).kind ≡ x → suffix_of calls x ≡ v → IsSuffix x v → Chained d calls b xs a ys
      → ((c : Sized RawExpr) (zs : Symbols) → Chained d calls b xs c zs → a.1 < d → a.1 < c.1 → Fails (suc d) (SE calls b xs) (next c zs))
      → Fails (suc d) (SE calls b xs) (s.suffix_by d n inner next a v ys)
  suffix_fails calls b a xs ys next x v ln e q view.dot h f = let c = consumed ys (k.mark mark.Dot) refl e in let t = h.onward (has_suffix (look ys).kind r.by_dot (ap (suffix_of true) e) (λ z. cc)) in
      deeper_fails c (raises refl) (λ lt. fails_after (dotted_sound d n inner sound calls b a xs ys e t lt) (dotted_fails calls b a xs ys t c lt) (λ w zs p. f w zs p.0 lt p.1)) a.1 (omega (arith, h.whole.low)) (whole_e h.whole.tree) (suc a.1) (dot_begun calls b t c)
  suffix_fails calls b a xs ys next x v ln e q view.bracket h f = let c = consumed ys (k.mark mark.OpenBracket) refl e in let t = h.onward (has_suffix (look ys).kind r.by_bracket (ap (suffix_of true) e) (λ z. cc)) in
      deeper_fails c (raises refl) (λ lt. fails_after (bracketed_sound d n inner sound calls b a xs ys e t lt) (bracketed_fails calls b a xs ys ln lt t c) (λ w zs p. f w zs p.0 lt p.1)) a.1 (omega (arith, h.whole.low)) (whole_e h.whole.tree)
      (suc (max a.1 0)) (bracket_begun calls b 0 t c (no_e (rest ys) 0 true 0))
  suffix_fails true b a xs ys next x v ln e q view.call h f = let c = consumed ys (k.mark mark.OpenParen) refl e in let t = h.onward (has_suffix (look ys).kind r.by_call (ap (suffix_of true) e) (λ z. cc)) in
      deeper_fails c (raises refl) (λ lt. fails_after (called_sound d n inner sound b a xs ys e t lt) (called_fails b a xs ys ln lt t c) (λ w zs p. f w zs p.0 lt p.1)) a.1 (omega (arith, h.whole.low)) (whole_e h.whole.tree)
      (suc (max a.1 0)) (call_begun b 0 t c (record { front = stays (rest ys); more = λ zs. real (token (k.mark mark.CloseParen)) ∷ zs; tree = []; holds = λ zs. g.no_argument (new_at (k.mark mark.CloseParen)); first = λ zs. fresh refl }))
  suffix_fails false b a xs ys next x v ln e q view.call h f = let no : r.no_suffix ≡ r.by_call = q in absurd (cc)
  suffix_fails calls b a xs ys next x v ln e q view.none h f = fine

  pub suffixes_fail : (calls b : Bool) (m : ℕ) (a : Sized RawExpr) (xs ys : Symbols) → reals xs < n → d < m + a.1 → Chained d calls b xs a ys → Fails (suc d) (SE calls b xs) (s.suffixes d n inner calls m a ys)
  unfolding r.suffixes
  suffixes_fail calls b zero a xs ys ln lm h = suffix_fails calls b a xs ys _ (look ys).kind (suffix_of calls (look ys).kind) ln refl refl (suffix_is calls (look ys).kind) h (λ c zs p lt up. absurd (omega arith))
  suffixes_fail calls b (suc m) a xs ys ln lm h = suffix_fails calls b a xs ys _ (look ys).kind (suffix_of calls (look ys).kind) ln refl refl (suffix_is calls (look ys).kind) h (λ c zs p lt up. suffixes_fail calls b m c xs zs ln (omega arith) p)

  -- what `new` calls
  pub callee_fails : (b : Bool) (xs : Symbols) → reals xs < n → Fails (suc d) (PE b xs) (s.expr_of d n inner b 17 xs)
  unfolding r.expr_of
  callee_fails b xs ln = fails_after (primary_sound d n inner sound b xs) (primary_fails b xs ln) (λ a ys p. suffixes_fail false b (suc d) a xs ys ln (omega arith) p)

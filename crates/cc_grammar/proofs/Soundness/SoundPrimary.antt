-- What is read is derived: primary expressions, and what goes on with them.
use Rattle.std.specs.Prelude.{◌≡◌, ℕ, zero, suc, ◌+◌, ◌<◌, ◌≤◌, max, Bool, true, false, nat_lt, List, [], Ok, Option, Some, None}
use Rattle.std.proofs.Common.{refl, sym, ap, arith, ◌∙◌, ltb-true}
use Rattle.cc_lexer.specs.declared.token.Mark.TheVariants as mark
use Rattle.cc_lexer.specs.declared.word.Word.TheVariants as word
use Rattle.cc_grammar.specs.Symbols.{Kind, Lexeme, Symbols, look, rest, is_mark}
use Rattle.cc_grammar.specs.Symbols as k
use Rattle.cc_grammar.specs.RawTree.{RawExpr, RawTarget, Named}
use Rattle.cc_grammar.specs.RawTree as raw
use Rattle.cc_grammar.specs.Signs.{literal_of, property_of}
use Rattle.cc_grammar.specs.Grammar as g
use Rattle.cc_grammar.specs.Grammar.{At, Chain, chain, member_chain, E}
use Rattle.cc_grammar.specs.Reading.{Outcome, Sized, Head, Suffix, semicolon_symbol, head_of, variable_of, suffix_of}
use Rattle.cc_grammar.specs.Reading as r
use Rattle.cc_grammar.proofs.Meets.{Done, ok, err, after, branch, fork, weaken}
use Rattle.cc_grammar.proofs.Views.{mark_true, IsHead, literal, variable, this, function, new, paren, array, object, operand, none, head_is, IsSuffix, dot, bracket, call, suffix_is}
use Rattle.cc_grammar.proofs.Views as view
use Rattle.cc_grammar.proofs.Marked.{In, consumed, marked, found, expected, seen_variable}
use Rattle.cc_grammar.proofs.Mono.{lower, chained}
use Rattle.cc_grammar.proofs.Soundness.SoundParts.{Derived, Callee, SoundInner, whole_list, own_name_sound}
use Rattle.cc_grammar.proofs.Soundness.SoundLists.{elements_sound, object_fields_sound, arguments_of_sound, function_sound}

-- whether arguments may go on with it, as with a call, or not, as with what `new` calls
abbrev pub chains : Bool → ℕ
chains true = 16
chains false = 18

abbrev pub stands : Bool → ℕ
stands true = 15
stands false = 17

chain_of : (calls : Bool) → Chain (chains calls)
chain_of true = chain
chain_of false = member_chain

pub below : (calls : Bool) → stands calls ≤ chains calls
below true = omega arith
below false = omega arith

-- An expression that a dot, a bracket or arguments may go on with: where one follows, it is of a level that goes on.
pub record Chained (d : ℕ) (calls n : Bool) (xs : Symbols) (a : Sized RawExpr) (ys : Symbols) : Type 0 where
  pub whole : Derived d n (stands calls) xs a ys
  pub onward : ¬ (suffix_of true (look ys).kind ≡ r.no_suffix) → E a.1 n (chains calls) xs a.0 ys

-- of a level up to that of a member expression
pub free : {d : ℕ} {n : Bool} {xs ys : Symbols} {a : Sized RawExpr} → ((l : ℕ) → l ≤ 18 → E a.1 n l xs a.0 ys) → a.1 ≤ d → Chained d false n xs a ys
free f le = record { whole = record { tree = f 17 (omega arith); low = le }; onward = λ _. f 18 (omega arith) }

-- what may be called may go on
pub callable : {d : ℕ} {n : Bool} {xs ys : Symbols} {a : Sized RawExpr} → Chained d false n xs a ys → Chained d true n xs a ys
callable h = record { whole = record { tree = lower 15 (omega arith) (λ q. omega arith) h.whole.tree; low = h.whole.low }; onward = λ s. chained refl (h.onward s) }

no_call : (x : Kind) → is_mark mark.OpenParen x ≡ false → suffix_of false x ≡ r.no_suffix → suffix_of true x ≡ r.no_suffix
no_call (k.mark mark.OpenParen) e f = absurd (cc)
no_call (k.mark mark.Dot) e f = f
no_call (k.mark mark.OpenBracket) e f = f
no_call _ e f = refl

pub some_call : (x : Kind) → is_mark mark.OpenParen x ≡ true → ¬ (suffix_of true x ≡ r.no_suffix)
some_call x e q = let s : suffix_of true x ≡ r.by_call = ap (suffix_of true) (mark_true mark.OpenParen x e) in let no : r.by_call ≡ r.no_suffix = sym s ∙ q in (cc)

module _ (d turns : ℕ) (inner : In) (sound : SoundInner d inner) where
  parentheses_sound : (n : Bool) (xs : Symbols) → (look xs).kind ≡ k.mark mark.OpenParen → 0 < d
      → Done (λ a ys. Chained d false n xs a ys) (r.parentheses Symbols look rest semicolon_symbol d turns inner xs)
  unfolding r.parentheses
  parentheses_sound n xs e lt = after (sound.expr true 0 (rest xs) (omega arith)) (λ x ys p. after (expected mark.CloseParen ys) (λ _ zs c.
      ok (free (λ l _. g.paren (omega arith) (consumed xs _ refl e) p.0.whole.tree c) (omega (arith, p.1)))))

  array_sound : (n : Bool) (xs : Symbols) → (look xs).kind ≡ k.mark mark.OpenBracket → 0 < d
      → Done (λ a ys. Chained d false n xs a ys) (r.array Symbols look rest semicolon_symbol d turns inner xs)
  unfolding r.array
  array_sound n xs e lt = after (elements_sound d turns inner sound turns [] 0 (rest xs) lt) (λ x ys p.
      ok (free (λ l _. g.array (omega arith) (consumed xs _ refl e) (whole_list p)) (omega (arith, p.low))))

  object_sound : (n : Bool) (xs : Symbols) → (look xs).kind ≡ k.mark mark.OpenBrace → 0 < d
      → Done (λ a ys. Chained d false n xs a ys) (r.object Symbols look rest semicolon_symbol d turns inner xs)
  unfolding r.object
  object_sound n xs e lt = after (object_fields_sound d turns inner sound turns [] 0 (rest xs) lt) (λ x ys p.
      ok (free (λ l _. g.object (omega arith) (consumed xs _ refl e) (whole_list p)) (omega (arith, p.low))))

  function_expr_sound : (n : Bool) (xs : Symbols) → (look xs).kind ≡ k.word word.Function → 0 < d
      → Done (λ a ys. Chained d false n xs a ys) (r.function_expr Symbols look rest semicolon_symbol d turns inner xs)
  unfolding r.function_expr
  function_expr_sound n xs e lt = after (own_name_sound (rest xs)) (λ o ys q. after (function_sound d turns inner sound ys lt) (λ x zs p.
      ok (free (λ l _. g.function (omega arith) (consumed xs _ refl e) q p.0) (omega (arith, p.1)))))

  new_sound : (n : Bool) (xs : Symbols) → (look xs).kind ≡ k.word word.New → 0 < d
      → Done (λ a ys. Chained d false n xs a ys) (r.new_expr Symbols look rest semicolon_symbol d turns inner n xs)
  unfolding r.new_expr
  new_sound n xs e lt = after (sound.callee n (rest xs)) (λ f ys p. fork (is_mark mark.OpenParen (look ys).kind) _ _
      (λ o. after (arguments_of_sound d turns inner sound (rest ys) lt) (λ x zs q.
      ok (free (λ l m. g.new_call m (omega arith) (omega arith) (consumed xs _ refl e) (p.0.member (some_call _ o)) (marked mark.OpenParen ys o) q.0) (omega (arith, p.1, q.1)))))
      (λ o. ok (record {
        whole = record { tree = g.new (omega arith) (λ q. omega arith) (omega arith) (consumed xs _ refl e) p.0.whole.tree; low = omega (arith, p.1) };
        onward = λ s. absurd (s (no_call _ o p.0.stopped));
      })))

  primary_by_sound : (n : Bool) (xs : Symbols) (x : Kind) (h : Head) → (look xs).kind ≡ x → IsHead x h
      → Done (λ a ys. Chained d false n xs a ys) (r.primary_by Symbols look rest semicolon_symbol d turns inner n h xs)
  primary_by_sound n xs x h e (literal {p} q) = let s = ap literal_of e ∙ q in ok (free (λ l _. g.literal (found literal_of xs p refl refl s) s) (omega arith))
  primary_by_sound n xs x h e (variable {n = v} q) = ok (free (λ l _. g.name (seen_variable xs v (ap variable_of e ∙ q))) (omega arith))
  primary_by_sound n xs x h e this = ok (free (λ l _. g.this (consumed xs _ refl e)) (omega arith))
  primary_by_sound n xs x h e operand = ok (free (λ l _. g.operand (consumed xs _ refl e)) (omega arith))
  primary_by_sound n xs x h e paren = branch (nat_lt 0 d) (λ lt. parentheses_sound n xs e (ltb-true _ _ lt)) (λ _. err)
  primary_by_sound n xs x h e array = branch (nat_lt 0 d) (λ lt. array_sound n xs e (ltb-true _ _ lt)) (λ _. err)
  primary_by_sound n xs x h e object = branch (nat_lt 0 d) (λ lt. object_sound n xs e (ltb-true _ _ lt)) (λ _. err)
  primary_by_sound n xs x h e function = branch (nat_lt 0 d) (λ lt. function_expr_sound n xs e (ltb-true _ _ lt)) (λ _. err)
  primary_by_sound n xs x h e new = branch (nat_lt 0 d) (λ lt. new_sound n xs e (ltb-true _ _ lt)) (λ _. err)
  primary_by_sound n xs x h e (none p q) = err

  pub primary_sound : (n : Bool) (xs : Symbols) → Done (λ a ys. Chained d false n xs a ys) (r.primary Symbols look rest semicolon_symbol d turns inner n xs)
  unfolding r.primary
  primary_sound n xs = primary_by_sound n xs (look xs).kind (head_of (look xs).kind) refl (head_is (look xs).kind)

  -- ---- dots, brackets and arguments

  -- read as far as these go on
  pub record Ended (calls n : Bool) (xs : Symbols) (a : Sized RawExpr) (ys : Symbols) : Type 0 where
    pub is : Chained d calls n xs a ys
    pub stopped : suffix_of calls (look ys).kind ≡ r.no_suffix

  pub dotted_sound : (calls n : Bool) (a : Sized RawExpr) (xs ys : Symbols) → (look ys).kind ≡ k.mark mark.Dot → E a.1 n (chains calls) xs a.0 ys → a.1 < d
      → Done (λ b zs. Chained d calls n xs b zs × (a.1 < b.1)) (r.dotted Symbols look rest semicolon_symbol d turns inner a ys)
  unfolding r.dotted
  dotted_sound calls n a xs ys e t lt = by (property_of (look (rest ys)).kind) refl where
    by : (o : Option (List ℕ)) → property_of (look (rest ys)).kind ≡ o → Done (λ b zs. Chained d calls n xs b zs × (a.1 < b.1)) (Rattle.cc_grammar.specs.Reading.and_then (r.property_by Symbols look rest semicolon_symbol d turns inner o (rest ys)) (λ p i. Ok ((raw.member (look ys).place a.0 p.0 p.1, a.1 + 1), i)))
    by None f = err
    by (Some v) f = let w : (l : ℕ) → l ≤ chains calls → E (a.1 + 1) n l xs (raw.member (look ys).place a.0 (look (rest ys)).place v) (rest (rest ys)) = λ l m. g.dotted (chain_of calls) m (omega arith) t (consumed ys _ refl e) (found property_of (rest ys) v refl refl f) f in
        ok (record { whole = record { tree = w (stands calls) (below calls); low = omega arith }; onward = λ _. w (chains calls) (omega arith) }, omega arith)

  pub bracketed_sound : (calls n : Bool) (a : Sized RawExpr) (xs ys : Symbols) → (look ys).kind ≡ k.mark mark.OpenBracket → E a.1 n (chains calls) xs a.0 ys → a.1 < d
      → Done (λ b zs. Chained d calls n xs b zs × (a.1 < b.1)) (r.bracketed Symbols look rest semicolon_symbol d turns inner a ys)
  unfolding r.bracketed
  bracketed_sound calls n a xs ys e t lt = after (sound.expr true 0 (rest ys) (omega arith)) (λ x zs p. after (expected mark.CloseBracket zs) (λ _ ws c.
      let w : (l : ℕ) → l ≤ chains calls → E (max a.1 x.1 + 1) n l xs (raw.index (look ys).place a.0 x.0) ws = λ l m. g.bracketed (chain_of calls) m (omega arith) (omega arith) t (consumed ys _ refl e) p.0.whole.tree c in
      ok (record { whole = record { tree = w (stands calls) (below calls); low = omega (arith, p.1) }; onward = λ _. w (chains calls) (omega arith) }, omega arith)))

  pub called_sound : (n : Bool) (a : Sized RawExpr) (xs ys : Symbols) → (look ys).kind ≡ k.mark mark.OpenParen → E a.1 n 16 xs a.0 ys → a.1 < d
      → Done (λ b zs. Chained d true n xs b zs × (a.1 < b.1)) (r.called Symbols look rest semicolon_symbol d turns inner a ys)
  unfolding r.called
  called_sound n a xs ys e t lt = after (arguments_of_sound d turns inner sound (rest ys) (omega arith)) (λ x zs p.
      let w : (l : ℕ) → l ≤ 16 → E (max a.1 x.1 + 1) n l xs (raw.call (look ys).place a.0 (raw.exprs x.0)) zs = λ l m. g.call m (omega arith) (omega arith) t (consumed ys _ refl e) p.0 in
      ok (record { whole = record { tree = w 15 (omega arith); low = omega (arith, p.1) }; onward = λ _. w 16 (omega arith) }, omega arith))

  onward_at : (calls n : Bool) (a : Sized RawExpr) (xs ys : Symbols) (s : Suffix) → suffix_of true (look ys).kind ≡ s → ¬ (s ≡ r.no_suffix) → Chained d calls n xs a ys → E a.1 n (chains calls) xs a.0 ys
  onward_at calls n a xs ys s q differs h = h.onward (λ e. differs (sym q ∙ e))

  suffix_sound : (calls n : Bool) (a : Sized RawExpr) (xs ys : Symbols) (again : Sized RawExpr → Symbols → Outcome Symbols (Sized RawExpr)) (x : Kind) (s : Suffix)
      → (look ys).kind ≡ x → suffix_of calls x ≡ s → IsSuffix x s → Chained d calls n xs a ys
      → ((b : Sized RawExpr) (zs : Symbols) → Chained d calls n xs b zs → a.1 < b.1 → Done (λ c us. Ended calls n xs c us) (again b zs))
      → Done (λ b zs. Ended calls n xs b zs) (r.suffix_by Symbols look rest semicolon_symbol d turns inner again a s ys)
  suffix_sound calls n a xs ys again x s e q dot h f = branch (nat_lt a.1 d) (λ lt. after (dotted_sound calls n a xs ys e (onward_at calls n a xs ys r.by_dot (ap (suffix_of true) e) (λ z. cc) h) (ltb-true _ _ lt)) (λ b zs p. f b zs p.0 p.1)) (λ _. err)
  suffix_sound calls n a xs ys again x s e q bracket h f = branch (nat_lt a.1 d) (λ lt. after (bracketed_sound calls n a xs ys e (onward_at calls n a xs ys r.by_bracket (ap (suffix_of true) e) (λ z. cc) h) (ltb-true _ _ lt)) (λ b zs p. f b zs p.0 p.1)) (λ _. err)
  suffix_sound true n a xs ys again x s e q call h f = branch (nat_lt a.1 d) (λ lt. after (called_sound n a xs ys e (onward_at true n a xs ys r.by_call (ap (suffix_of true) e) (λ z. cc) h) (ltb-true _ _ lt)) (λ b zs p. f b zs p.0 p.1)) (λ _. err)
  suffix_sound false n a xs ys again x s e q call h f = absurd (cc)
  suffix_sound calls n a xs ys again x s e q view.none h f = ok (record { is = h; stopped = ap (suffix_of calls) e ∙ q })

  pub suffixes_sound : (calls n : Bool) (m : ℕ) (a : Sized RawExpr) (xs ys : Symbols) → Chained d calls n xs a ys
      → Done (λ b zs. Ended calls n xs b zs) (r.suffixes Symbols look rest semicolon_symbol d turns inner calls m a ys)
  unfolding r.suffixes
  suffixes_sound calls n zero a xs ys h = suffix_sound calls n a xs ys _ (look ys).kind (suffix_of calls (look ys).kind) refl refl (suffix_is calls (look ys).kind) h (λ b zs p lt. err)
  suffixes_sound calls n (suc m) a xs ys h = suffix_sound calls n a xs ys _ (look ys).kind (suffix_of calls (look ys).kind) refl refl (suffix_is calls (look ys).kind) h (λ b zs p lt. suffixes_sound calls n m b xs zs p)

  -- what `new` calls
  pub callee_sound : (n : Bool) (xs : Symbols) → Done (λ a ys. Callee d n xs a ys) (r.expr_of Symbols look rest semicolon_symbol d turns inner n 17 xs)
  unfolding r.expr_of
  callee_sound n xs = after (primary_sound n xs) (λ a ys p. weaken (suffixes_sound false n (suc d) a xs ys p) (λ b zs q.
      record { whole = q.is.whole; member = q.is.onward; stopped = q.stopped }))

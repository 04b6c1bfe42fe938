-- The readers of symbols and of tokens go alike: primary expressions and their suffixes.
use Rattle.std.specs.Prelude.{◌≡◌, ℕ, zero, suc, ◌<◌, Bool, true, false, nat_lt, List, [], ◌∷◌, map, Option, Some, None}
use Rattle.std.proofs.Common.{refl, sym, ap, ◌∙◌, arith, inr, lt-ltb, ltb-true}
use Rattle.cc_lexer.specs.declared.token.Mark.TheVariants as mark
use Rattle.cc_grammar.specs.Symbols.{Kind, Lexeme, Symbols, real, inserted, look, rest, is_mark}
use Rattle.cc_grammar.specs.Symbols as k
use Rattle.cc_grammar.specs.RawTree.{RawExpr}
use Rattle.cc_grammar.specs.Signs.{property_of}
use Rattle.cc_grammar.specs.Reading.{Outcome, Sized, Head, Suffix, look_token, variable_of, head_of, suffix_of}
use Rattle.cc_grammar.specs.Reading as r
use Rattle.cc_grammar.proofs.Marked.{In}
use Rattle.cc_grammar.proofs.Copying.Copies.{L, end, take, Bars, Shut, passes, shuts, no_offence, read, stop, Copies, Quiet, Shows, goes, halts, Starts, starts, halts_end, started}
use Rattle.cc_grammar.proofs.Copying.Copies as copy
use Rattle.cc_grammar.proofs.Copying.CopySteps.{quiet, copies_after, copies_then, starts_after, copies_pure, Chosen, by_taking, by_none, absent, decide, decide_first, fork, deeper, fails_bar, stops_here, expects}
use Rattle.cc_grammar.proofs.Copying.CopyLists.{CopyInner, BarsInner, elements_copy, object_fields_copy, arguments_of_copy, function_copy}
use Rattle.cc_grammar.proofs.OnSymbols as s
use Rattle.cc_grammar.proofs.OnTokens as t

own_shut : (xs : Symbols) → Shut (s.own_name (inserted ∷ xs)) xs
unfolding r.own_name
own_shut xs = record { fault = r.fault r.a_variable k.semicolon; no_limit = refl; is = refl }

own_by : (v : Option (List ℕ)) (b : Bool) (w : Lexeme) (us : L) → variable_of w.kind ≡ v → is_mark mark.OpenParen w.kind ≡ b → Copies true Shows s.own_name (w ∷ us) (t.own_name_by v b (w ∷ us))
unfolding r.own_name
own_by (Some n) b w us e f = read (take w end) (λ xs h. ap (λ v. s.own_name_by v (is_mark mark.OpenParen w.kind) (real w ∷ xs)) e) tt (inr tt)
    (passes (λ xs h. ap (λ v. s.own_name_by v (is_mark mark.OpenParen w.kind) (real w ∷ inserted ∷ xs)) e))
own_by None true w us e f = read end (λ xs h. ap (λ u. s.own_name_by (variable_of u.kind) (is_mark mark.OpenParen u.kind) xs) h.1 ∙ ap (λ v. s.own_name_by v (is_mark mark.OpenParen w.kind) xs) e ∙ ap (λ b. s.own_name_by None b xs) f) tt tt
    (shuts (λ xs h. own_shut xs))
own_by None false w us e f = stop end (ap (λ v. s.own_name_by v (is_mark mark.OpenParen w.kind) (real w ∷ map real us)) e ∙ ap (λ b. s.own_name_by None b (real w ∷ map real us)) f) tt tt (λ n o. inr (own_shut (real w ∷ map real us)))

pub own_name_copy : (ts : L) → Copies true Shows s.own_name ts (t.own_name ts)
unfolding r.own_name
own_name_copy [] = stop end refl tt tt (λ n o. absurd (no_offence o))
own_name_copy (w ∷ us) = own_by (variable_of w.kind) (is_mark mark.OpenParen w.kind) w us refl refl

-- what no suffix is
suffix_nothing : (calls : Bool) → suffix_of calls (k.stop None) ≡ r.no_suffix
suffix_nothing true = refl
suffix_nothing false = refl

suffix_ending : (calls : Bool) → suffix_of calls (k.due k.ending) ≡ r.no_suffix
suffix_ending true = refl
suffix_ending false = refl

some_suffix : (calls : Bool) (v : Suffix) → ¬ (v ≡ r.no_suffix) → ¬ (suffix_of calls (k.stop None) ≡ v)
some_suffix calls v n e = n (sym e ∙ suffix_nothing calls)

module _ (d turns : ℕ) (inner : In) (outer : t.In) (alike : CopyInner inner outer) (bars : nat_lt 0 d ≡ true → BarsInner inner) (some : 0 < turns) where
  parentheses_copy : (w : Lexeme) (us : L) → Copies true Quiet (λ xs. s.parentheses d turns inner (real w ∷ xs)) us (t.parentheses d turns outer (w ∷ us))
  unfolding r.parentheses
  parentheses_copy w us = copies_after _ _ quiet (started (alike.expr true 0 us)) (λ x vs. copies_after _ _ quiet (started (expects true mark.CloseParen vs)) (λ _ ws. copies_pure true _ ws))

  array_copy : (w : Lexeme) (us : L) → nat_lt 0 d ≡ true → Copies true Quiet (λ xs. s.array d turns inner (real w ∷ xs)) us (t.array d turns outer (w ∷ us))
  unfolding r.array
  array_copy w us lt = copies_after _ _ quiet (started (elements_copy d turns inner outer alike (bars lt) some turns [] 0 us)) (λ x vs. copies_pure true _ vs)

  object_copy : (w : Lexeme) (us : L) → nat_lt 0 d ≡ true → Copies true Quiet (λ xs. s.object d turns inner (real w ∷ xs)) us (t.object d turns outer (w ∷ us))
  unfolding r.object
  object_copy w us lt = copies_after _ _ quiet (started (object_fields_copy d turns inner outer alike (bars lt) some turns [] 0 us)) (λ x vs. copies_pure true _ vs)

  function_expr_copy : (w : Lexeme) (us : L) → nat_lt 0 d ≡ true → Copies true Quiet (λ xs. s.function_expr d turns inner (real w ∷ xs)) us (t.function_expr d turns outer (w ∷ us))
  unfolding r.function_expr
  function_expr_copy w us lt = copies_then _ _ quiet (own_name_copy us) (λ o vs. starts_after _ _ quiet (function_copy d turns inner outer alike (bars lt) some vs) (λ f ws. copies_pure true _ ws))

  new_copy : (n : Bool) (w : Lexeme) (us : L) → nat_lt 0 d ≡ true → Copies true Quiet (λ xs. s.new_expr d turns inner n (real w ∷ xs)) us (t.new_expr d turns outer n (w ∷ us))
  unfolding r.new_expr
  new_copy n w us lt = copies_after _ _ quiet (started (alike.expr n 17 us)) (λ f vs. fork (λ v. is_mark mark.OpenParen v.kind) _ _ _ _ vs quiet
      (λ _. by_taking absent (λ v ws _. goes (copies_after _ _ quiet (started (arguments_of_copy d turns inner outer alike (bars lt) some ws)) (λ x os. copies_pure true _ os))))
      (λ _. by_none refl (copies_pure true _ vs)))

  primary_by_copy : (n : Bool) (h : Head) (w : Lexeme) (us : L) → copy.Head true true Quiet (λ xs. s.primary_by d turns inner n h (real w ∷ xs)) w us (t.primary_by d turns outer n h (w ∷ us))
  primary_by_copy n r.no_head w us = halts refl tt
  primary_by_copy n r.is_this w us = goes (copies_pure true _ us)
  primary_by_copy n (r.is_literal p) w us = goes (copies_pure true _ us)
  primary_by_copy n (r.is_variable v) w us = goes (copies_pure true _ us)
  primary_by_copy n r.is_operand w us = goes (copies_pure true _ us)
  primary_by_copy n r.is_paren w us = deeper 0 d _ (λ _. goes (parentheses_copy w us))
  primary_by_copy n r.is_array w us = deeper 0 d _ (λ lt. goes (array_copy w us lt))
  primary_by_copy n r.is_object w us = deeper 0 d _ (λ lt. goes (object_copy w us lt))
  primary_by_copy n r.is_function w us = deeper 0 d _ (λ lt. goes (function_expr_copy w us lt))
  primary_by_copy n r.is_new w us = deeper 0 d _ (λ lt. goes (new_copy n w us lt))

  pub primary_bar : (n : Bool) → Bars (s.primary d turns inner n)
  unfolding r.primary head_of
  primary_bar n xs = record { fault = r.fault r.an_operand k.semicolon; no_limit = refl; is = refl }

  pub primary_copy : (n : Bool) (ts : L) → Starts true Quiet (s.primary d turns inner n) ts (t.primary d turns outer n ts)
  unfolding r.primary head_of
  primary_copy n [] = halts_end refl
  primary_copy n (w ∷ us) = starts (primary_by_copy n (head_of w.kind) w us) (primary_bar n)

  -- ---- suffixes

  property_head : (o : Option (List ℕ)) (w : Lexeme) (us : L) → copy.Head true true Quiet (λ xs. s.property_by d turns inner o (real w ∷ xs)) w us (t.property_by d turns outer o (w ∷ us))
  property_head None w us = halts refl tt
  property_head (Some v) w us = goes (copies_pure true _ us)

  dotted_copy : (a : Sized RawExpr) (w : Lexeme) (us : L) → Copies true Quiet (λ xs. s.dotted d turns inner a (real w ∷ xs)) us (t.dotted d turns outer a (w ∷ us))
  unfolding r.dotted
  dotted_copy a w us = started (starts_after _ _ quiet (decide_first (λ v. property_of v.kind) (s.property_by d turns inner) (t.property_by d turns outer) us (fails_bar r.a_token) (halts_end refl) (λ v vs. property_head (property_of v.kind) v vs)) (λ p vs. copies_pure true _ vs))

  bracketed_copy : (a : Sized RawExpr) (w : Lexeme) (us : L) → Copies true Quiet (λ xs. s.bracketed d turns inner a (real w ∷ xs)) us (t.bracketed d turns outer a (w ∷ us))
  unfolding r.bracketed
  bracketed_copy a w us = copies_after _ _ quiet (started (alike.expr true 0 us)) (λ x vs. copies_after _ _ quiet (started (expects true mark.CloseBracket vs)) (λ _ ws. copies_pure true _ ws))

  -- a depth that is enough for more than h is more than 0
  positive : (h : ℕ) → nat_lt h d ≡ true → nat_lt 0 d ≡ true
  positive h lt = lt-ltb 0 d (omega (arith, ltb-true h d lt))

  called_copy : (a : Sized RawExpr) (w : Lexeme) (us : L) → nat_lt a.1 d ≡ true → Copies true Quiet (λ xs. s.called d turns inner a (real w ∷ xs)) us (t.called d turns outer a (w ∷ us))
  unfolding r.called
  called_copy a w us lt = copies_after _ _ quiet (started (arguments_of_copy d turns inner outer alike (bars (positive a.1 lt)) some us)) (λ x vs. copies_pure true _ vs)

  suffix_copy : (calls : Bool) (a : Sized RawExpr) (again : Sized RawExpr → s.Reader (Sized RawExpr)) (onward : Sized RawExpr → t.Reader (Sized RawExpr)) (z : s.Reader (Sized RawExpr)) (ts : L)
      → ((b : Sized RawExpr) (us : L) → Copies true Quiet (again b) us (onward b us))
      → (v : Suffix) → Chosen true Quiet (λ w. suffix_of calls w.kind) v (s.suffix_by d turns inner again a v) z (t.suffix_by d turns outer onward a v) ts
  suffix_copy calls a again onward z ts f r.no_suffix = by_none (suffix_ending calls) (copies_pure true a ts)
  suffix_copy calls a again onward z ts f r.by_dot = by_taking (some_suffix calls r.by_dot (λ e. cc)) (λ w us _. deeper a.1 d _ (λ _. goes (copies_after _ _ quiet (dotted_copy a w us) f)))
  suffix_copy calls a again onward z ts f r.by_bracket = by_taking (some_suffix calls r.by_bracket (λ e. cc)) (λ w us _. deeper a.1 d _ (λ _. goes (copies_after _ _ quiet (bracketed_copy a w us) f)))
  suffix_copy calls a again onward z ts f r.by_call = by_taking (some_suffix calls r.by_call (λ e. cc)) (λ w us _. deeper a.1 d _ (λ lt. goes (copies_after _ _ quiet (called_copy a w us lt) f)))

  pub suffixes_copy : (calls : Bool) (m : ℕ) (a : Sized RawExpr) (ts : L) → Copies true Quiet (s.suffixes d turns inner calls m a) ts (t.suffixes d turns outer calls m a ts)
  unfolding r.suffixes
  suffixes_copy calls zero a ts = decide (λ w. suffix_of calls w.kind) (λ v. s.suffix_by d turns inner (λ _. r.stops Symbols look rest r.semicolon_symbol r.depth) a v) (λ v. t.suffix_by d turns outer (λ _. r.stops L look_token r.rest_tokens r.semicolon_token r.depth) a v) ts quiet
      (λ v _. suffix_copy calls a _ _ _ ts (λ b us. started (stops_here true r.depth refl us)) v)
  suffixes_copy calls (suc m) a ts = decide (λ w. suffix_of calls w.kind) (λ v. s.suffix_by d turns inner (s.suffixes d turns inner calls m) a v) (λ v. t.suffix_by d turns outer (t.suffixes d turns outer calls m) a v) ts quiet
      (λ v _. suffix_copy calls a _ _ _ ts (λ b us. suffixes_copy calls m b us) v)

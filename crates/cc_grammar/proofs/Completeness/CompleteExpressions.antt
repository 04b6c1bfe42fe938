-- What is derived is read: expressions.
use Rattle.std.specs.Prelude.{◌≡◌, ℕ, suc, ◌+◌, ◌<◌, ◌≤◌, max, Bool, true, false, ◌==◌, List, Ok, Some, None}
use Rattle.std.proofs.Common.{refl, sym, ap, arith, ◌∙◌}
use Rattle.cc_ast.specs.Syntax.{Prim}
use Rattle.cc_lexer.specs.declared.word.Word.TheVariants as word
use Rattle.cc_grammar.specs.Symbols.{Kind, Symbols, look, rest, is_mark}
use Rattle.cc_grammar.specs.Symbols as k
use Rattle.cc_grammar.specs.RawTree.{RawExpr, RawTarget}
use Rattle.cc_grammar.specs.RawTree as raw
use Rattle.cc_grammar.specs.Signs.{Prefix, Infix, literal_of, prefix_of, infix_of, level, infix_tree}
use Rattle.cc_grammar.specs.Grammar as g
use Rattle.cc_grammar.specs.Grammar.{At, Variable, E}
use Rattle.cc_grammar.specs.Reading.{Outcome, Sized, and_then, suffix_of}
use Rattle.cc_grammar.specs.Reading as r
use Rattle.cc_grammar.proofs.Marked.{In}
use Rattle.cc_grammar.proofs.Mono.{bounded, above}
use Rattle.cc_grammar.proofs.Shrinks.{reals, at_less, e_less}
use Rattle.cc_grammar.proofs.Steps.{step, skipped_at, regroup, rest_at, table_at}
use Rattle.cc_grammar.proofs.Quiet.{Apart, Quiet, looser, at_next, apart_at, comma, question, remedy, assignment, infix_apart, step_suffix}
use Rattle.cc_grammar.proofs.Ahead.{spared, remedied}
use Rattle.cc_grammar.proofs.Completeness.CompleteLists.{Reads, CompleteInner}
use Rattle.cc_grammar.proofs.Completeness.CompleteOperands.{at_chain}
use Rattle.cc_grammar.proofs.Completeness.CompleteOperators.{deletes_no_variable, postfix_step, prefixed_by, prefix_step, wrong_prefix_step, climb_step, conditional_step, assign_step, comma_step}
use Rattle.cc_grammar.proofs.Stopping.{no_callee, by_operand, by_climb, last, from_conditional, last_ends, no_more_suffixes, no_postfix, no_more_climbs, no_conditional, no_assign}
use Rattle.cc_grammar.proofs.OnSymbols as s

literal_prefix : (x : Kind) (p : Prim) → literal_of x ≡ Some p → prefix_of x ≡ None
literal_prefix (k.number z) p e = refl
literal_prefix (k.text t) p e = refl
literal_prefix (k.word word.Null) p e = refl
literal_prefix (k.word word.True) p e = refl
literal_prefix (k.word word.False) p e = refl
literal_prefix _ p e = cc

variable_prefix : {v : List ℕ} {xs ys : Symbols} → Variable xs v ys → prefix_of (look xs).kind ≡ None
variable_prefix (g.variable c e) = table_at prefix_of c
variable_prefix (g.any_variable c) = table_at prefix_of c

-- a left-hand-side expression begins with no unary operator
no_prefix : {h l : ℕ} {n : Bool} {xs ys : Symbols} {e : RawExpr} → 15 ≤ l → E h n l xs e ys → prefix_of (look xs).kind ≡ None
no_prefix le (g.this c) = table_at prefix_of c
no_prefix le (g.name v) = variable_prefix v
no_prefix le (g.literal {x} {p} c e) = table_at prefix_of c ∙ literal_prefix x p e
no_prefix le (g.operand c) = table_at prefix_of c
no_prefix le (g.paren lt o x c) = table_at prefix_of o
no_prefix le (g.array lt o x) = table_at prefix_of o
no_prefix le (g.object lt o x) = table_at prefix_of o
no_prefix le (g.function lt o w x) = table_at prefix_of o
no_prefix le (g.dotted g.chain v lt x o p u) = no_prefix (omega arith) x
no_prefix le (g.dotted g.member_chain v lt x o p u) = no_prefix (omega arith) x
no_prefix le (g.bracketed g.chain v lt lu x o y p) = no_prefix (omega arith) x
no_prefix le (g.bracketed g.member_chain v lt lu x o y p) = no_prefix (omega arith) x
no_prefix le (g.call v lt lu x o y) = no_prefix (omega arith) x
no_prefix le (g.new_call v lt lu o x p y) = table_at prefix_of o
no_prefix le (g.new v i lt o x) = table_at prefix_of o
no_prefix le (g.postfix v lt x t u o p) = absurd (omega arith)
no_prefix le (g.prefix v lt o p x t) = absurd (omega arith)
no_prefix le (g.wrong_prefix v lt o p x t c) = absurd (omega arith)
no_prefix le (g.binary {o} v lt lu x c p y) = absurd (omega (arith, bounded o))
no_prefix le (g.conditional v lt lu lv x o y p z) = absurd (omega arith)
no_prefix le (g.assign v lt lu x t o p y) = absurd (omega arith)
no_prefix le (g.comma lt lu x o y) = absurd (omega arith)

same_infix : (b : Bool) {x : Kind} {o : Infix} {xs ys : Symbols} → At x xs ys → infix_of b x ≡ Some o → (p : Infix) → infix_of b (look xs).kind ≡ Some p → level p ≡ level o
same_infix b {o} c e p f = let same : Some p ≡ Some o = sym f ∙ table_at (infix_of b) c ∙ e in let equal : p ≡ o = cc in ap level equal

low_level : (l : ℕ) → l ≤ 2 → ¬ (l ≡ 2) → 1 ≡ max 1 l
low_level l le ne = omega (arith, ne)

module _ (d n : ℕ) (inner : In) (all : CompleteInner d n inner) where
  -- what goes on behind a left-hand-side expression
  abbrev from_postfix : Bool → ℕ → Sized RawExpr → s.Reader (Sized RawExpr)
  from_postfix b l a i = and_then (s.postfix d n inner a i) (s.after_unary d n inner b l)

  -- ---- paths

  by_chain : (b : Bool) (l : ℕ) (xs : Symbols) → l ≤ 13 → prefix_of (look xs).kind ≡ None → s.expr_of d n inner b l xs ≡ and_then (and_then (s.primary d n inner b xs) (s.suffixes d n inner true (suc d))) (from_postfix b l)
  unfolding r.after_head
  by_chain b l xs le e = by_operand d n inner b l xs le e ∙ regroup (s.primary d n inner b xs) (s.suffixes d n inner true (suc d)) (from_postfix b l)

  by_prefix : (b : Bool) (l : ℕ) (o : Prefix) (xs : Symbols) → l ≤ 13 → prefix_of (look xs).kind ≡ Some o → s.expr_of d n inner b l xs ≡ and_then (s.prefixed d n inner b o xs) (s.after_unary d n inner b l)
  unfolding r.expr_of
  by_prefix b l o xs le e = skipped_at (l == 17) _ _ (no_callee l le) (ap (λ o. s.expr_by d n inner b l o xs) e)

  -- ---- the loop over operators takes over with e

  record UnaryFrom (b : Bool) (l h : ℕ) (xs : Symbols) (e : RawExpr) (ys : Symbols) : Type 0 where
    height : ℕ
    low : height ≤ h
    is : s.expr_of d n inner b l xs ≡ s.after_unary d n inner b l (e, height) ys

  from_chain : {h : ℕ} {xs ys : Symbols} {e : RawExpr} (b : Bool) (l : ℕ) → reals xs < n → l ≤ 13 → h ≤ d → Apart (look ys).kind → E h b 15 xs e ys → UnaryFrom b l h xs e ys
  from_chain {xs} {ys} {e} b l ln ll le a x =
      let w = at_chain d n inner all true b ln (omega arith) (λ z. let no : true ≡ false = z in (cc)) (λ _ _. a.suffix) le x in
      record {
        height = w.height;
        low = w.low;
        is = by_chain b l xs ll (no_prefix (omega arith) x) ∙ ap (λ o. and_then o (from_postfix b l)) w.is
            ∙ step _ (no_more_suffixes d n inner true (suc d) (e, w.height) ys a.suffix) (step _ (no_postfix d n inner (e, w.height) ys a.step) refl);
      }

  from_prefix : {h j : ℕ} {x : Kind} {o : Prefix} {xs us ys : Symbols} {e : RawExpr} (b : Bool) (l : ℕ) → l ≤ 13 → At x xs us → prefix_of x ≡ Some o → j ≤ h → s.prefixed d n inner b o xs ≡ Ok ((e, j), ys) → UnaryFrom b l h xs e ys
  from_prefix {j} {o} {xs} b l ll c p lj q = record { height = j; low = lj; is = by_prefix b l o xs ll (table_at prefix_of c ∙ p) ∙ step _ q refl }

  at_unary : {h m : ℕ} {xs ys : Symbols} {e : RawExpr} (b : Bool) (l : ℕ) → reals xs < n → l ≤ 13 → l ≤ m → 3 ≤ m → h ≤ d → Apart (look ys).kind → ((o : Infix) → infix_of b (look ys).kind ≡ Some o → level o ≤ m)
      → E h b m xs e ys → UnaryFrom b l h xs e ys
  at_unary b l ln ll lm lo le a q (g.this c) = from_chain b l ln ll le a (g.this c)
  at_unary b l ln ll lm lo le a q (g.name v) = from_chain b l ln ll le a (g.name v)
  at_unary b l ln ll lm lo le a q (g.literal c e) = from_chain b l ln ll le a (g.literal c e)
  at_unary b l ln ll lm lo le a q (g.operand c) = from_chain b l ln ll le a (g.operand c)
  at_unary b l ln ll lm lo le a q (g.paren lt o x c) = from_chain b l ln ll le a (g.paren lt o x c)
  at_unary b l ln ll lm lo le a q (g.array lt o x) = from_chain b l ln ll le a (g.array lt o x)
  at_unary b l ln ll lm lo le a q (g.object lt o x) = from_chain b l ln ll le a (g.object lt o x)
  at_unary b l ln ll lm lo le a q (g.function lt o w x) = from_chain b l ln ll le a (g.function lt o w x)
  at_unary b l ln ll lm lo le a q (g.dotted g.chain v lt x o p u) = from_chain b l ln ll le a (g.dotted g.chain (omega arith) lt x o p u)
  at_unary b l ln ll lm lo le a q (g.dotted g.member_chain v lt x o p u) = from_chain b l ln ll le a (g.dotted g.member_chain (omega arith) lt x o p u)
  at_unary b l ln ll lm lo le a q (g.bracketed g.chain v lt lu x o y p) = from_chain b l ln ll le a (g.bracketed g.chain (omega arith) lt lu x o y p)
  at_unary b l ln ll lm lo le a q (g.bracketed g.member_chain v lt lu x o y p) = from_chain b l ln ll le a (g.bracketed g.member_chain (omega arith) lt lu x o y p)
  at_unary b l ln ll lm lo le a q (g.call v lt lu x o y) = from_chain b l ln ll le a (g.call (omega arith) lt lu x o y)
  at_unary b l ln ll lm lo le a q (g.new_call v lt lu o x p y) = from_chain b l ln ll le a (g.new_call (omega arith) lt lu o x p y)
  at_unary b l ln ll lm lo le a q (g.new v i lt o x) = from_chain b l ln ll le a (g.new (omega arith) (λ z. absurd (omega arith)) lt o x)
  at_unary b l ln ll lm lo le a q (g.postfix {up} {x = w} {e} {xs} {ys} {zs} v lt x t u o p) =
      let next : suffix_of true (look ys).kind ≡ r.no_suffix = table_at (suffix_of true) o ∙ step_suffix w up p in
      let c = at_chain d n inner all true b ln (omega arith) (λ z. let no : true ≡ false = z in (cc)) (λ _ _. next) (omega arith) x in
      record {
        height = c.height + 1;
        low = omega (arith, c.low);
        is = by_chain b l xs ll (no_prefix (omega arith) x) ∙ ap (λ o. and_then o (from_postfix b l)) c.is
            ∙ step _ (no_more_suffixes d n inner true (suc d) (e, c.height) ys next) (step _ (postfix_step d n inner all e c.height (omega (arith, c.low)) t u o p) refl);
      }
  at_unary b l ln ll lm lo le a q (g.prefix {h} {o} {e} {f} {xs} {ys} {zs} v lt c p x t) =
      let w = all.expr b 13 h (omega (arith, at_less c)) (omega arith) (λ z. absurd (omega arith)) (omega arith) x (record { apart = a; infix_below = λ i _. omega (arith, bounded i); question = λ z. absurd (omega arith); assigning = λ z. absurd (omega arith); comma = λ z. absurd (omega arith) }) in
      from_prefix b l ll c p (omega (arith, w.low)) (prefixed_by d n inner all b o xs (λ de. rw (rest_at c) (spared n (omega (arith, at_less c)) x (λ v. absurd (deletes_no_variable o (g.at xs) e f de t v))))
      (prefix_step d n inner all b o (omega arith) c w.is t))
  at_unary b l ln ll lm lo le a q (g.wrong_prefix {h} {o} {e} {xs} {ys} {zs} v lt c p x t u) =
      let w = all.expr b 13 h (omega (arith, at_less c)) (omega arith) (λ z. absurd (omega arith)) (omega arith) x (looser 13 (omega arith) (at_next u (remedy b))) in
      from_prefix b l ll c p (omega (arith, w.low)) (prefixed_by d n inner all b o xs (λ _. rw (rest_at c) (spared n (omega (arith, at_less c)) x (λ _. remedied u)))
      (wrong_prefix_step d n inner all b o (omega arith) c w.is t u))
  at_unary b l ln ll lm lo le a q (g.binary {x = z} {o} {e} {f} {xs} {ys} {zs} {ws} v lt lu x c p y) =
      let left = at_unary b l ln ll (omega arith) (above o) (omega arith) (apart_at c (infix_apart b z o p)) (λ i f. omega (arith, same_infix b c p i f)) x in
      let right = climb_step d n inner all b l o e left.height (omega (arith, e_less x, at_less c)) (omega arith) (omega (arith, left.low)) (omega arith) c p y
      (record { apart = a; infix_below = λ i f. omega (arith, q i f); question = λ z. absurd (omega (arith, above o)); assigning = λ z. absurd (omega (arith, above o)); comma = λ z. absurd (omega (arith, above o)) }) in
      record {
        height = max left.height right.0 + 1;
        low = omega (arith, left.low, right.1);
        is =
            left.is ∙ by_climb d n inner b l (e, left.height) ys ∙ ap (λ o. and_then o (from_conditional d n inner b l)) right.2 ∙ sym (by_climb d n inner b l (infix_tree o (g.at ys) e f, max left.height right.0 + 1) ws);
      }
  at_unary b l ln ll lm lo le a q (g.conditional v lt lu lv x o y p z) = absurd (omega arith)
  at_unary b l ln ll lm lo le a q (g.assign v lt lu x t o p y) = absurd (omega arith)
  at_unary b l ln ll lm lo le a q (g.comma lt lu x o y) = absurd (omega arith)

  -- ---- and then only commas can go on

  record LastFrom (b : Bool) (l h : ℕ) (xs : Symbols) (e : RawExpr) (ys : Symbols) : Type 0 where
    height : ℕ
    low : height ≤ h
    is : s.expr_of d n inner b l xs ≡ last d n inner b l (e, height) ys

  -- no operator is of a level below 3
  none_below : (b : Bool) (l m : ℕ) (x : Kind) → m ≤ max 3 l → Quiet b m x → (o : Infix) → infix_of b x ≡ Some o → level o < l
  none_below b l m x le q o e = omega (arith, q.infix_below o e, above o)

  settle : {h : ℕ} {xs ys : Symbols} {e : RawExpr} (b : Bool) (l : ℕ) → Quiet b (max 1 l) (look ys).kind → UnaryFrom b l h xs e ys → LastFrom b l h xs e ys
  settle {ys} {e} b l q w = record {
    height = w.height;
    low = w.low;
    is = w.is ∙ by_climb d n inner b l (e, w.height) ys
        ∙ step _ (no_more_climbs d n inner b l (suc d) (e, w.height) ys (none_below b l (max 1 l) (look ys).kind (omega arith) q))
        (step _ (no_conditional d n inner b l (e, w.height) ys (λ le. q.question (omega arith))) (step _ (no_assign d n inner b l (e, w.height) ys (λ le. q.assigning (omega arith))) refl));
  }

  by_unary : {h m : ℕ} {xs ys : Symbols} {e : RawExpr} (b : Bool) (l : ℕ) → reals xs < n → l ≤ 13 → l ≤ m → 3 ≤ m → h ≤ d → Quiet b (max 1 l) (look ys).kind → E h b m xs e ys → LastFrom b l h xs e ys
  by_unary b l ln ll lm lo le q x = settle b l q (at_unary b l ln ll lm lo le q.apart (λ o f. omega (arith, q.infix_below o f)) x)

  at_last : {h : ℕ} {xs ys : Symbols} {e : RawExpr} (b : Bool) (l : ℕ) → reals xs < n → l ≤ 13 → ¬ (l ≡ 2) → h ≤ d → Quiet b (max 1 l) (look ys).kind → E h b l xs e ys → LastFrom b l h xs e ys
  at_last b l ln ll ne le q (g.this c) = by_unary {m = 15} b l ln ll (omega arith) (omega arith) le q (g.this c)
  at_last b l ln ll ne le q (g.name v) = by_unary {m = 15} b l ln ll (omega arith) (omega arith) le q (g.name v)
  at_last b l ln ll ne le q (g.literal c e) = by_unary {m = 15} b l ln ll (omega arith) (omega arith) le q (g.literal c e)
  at_last b l ln ll ne le q (g.operand c) = by_unary {m = 15} b l ln ll (omega arith) (omega arith) le q (g.operand c)
  at_last b l ln ll ne le q (g.paren lt o x c) = by_unary {m = 15} b l ln ll (omega arith) (omega arith) le q (g.paren lt o x c)
  at_last b l ln ll ne le q (g.array lt o x) = by_unary {m = 15} b l ln ll (omega arith) (omega arith) le q (g.array lt o x)
  at_last b l ln ll ne le q (g.object lt o x) = by_unary {m = 15} b l ln ll (omega arith) (omega arith) le q (g.object lt o x)
  at_last b l ln ll ne le q (g.function lt o w x) = by_unary {m = 15} b l ln ll (omega arith) (omega arith) le q (g.function lt o w x)
  at_last b l ln ll ne le q (g.dotted g.chain v lt x o p u) = by_unary {m = 15} b l ln ll (omega arith) (omega arith) le q (g.dotted g.chain (omega arith) lt x o p u)
  at_last b l ln ll ne le q (g.dotted g.member_chain v lt x o p u) = by_unary {m = 15} b l ln ll (omega arith) (omega arith) le q (g.dotted g.member_chain (omega arith) lt x o p u)
  at_last b l ln ll ne le q (g.bracketed g.chain v lt lu x o y p) = by_unary {m = 15} b l ln ll (omega arith) (omega arith) le q (g.bracketed g.chain (omega arith) lt lu x o y p)
  at_last b l ln ll ne le q (g.bracketed g.member_chain v lt lu x o y p) = by_unary {m = 15} b l ln ll (omega arith) (omega arith) le q (g.bracketed g.member_chain (omega arith) lt lu x o y p)
  at_last b l ln ll ne le q (g.call v lt lu x o y) = by_unary {m = 15} b l ln ll (omega arith) (omega arith) le q (g.call (omega arith) lt lu x o y)
  at_last b l ln ll ne le q (g.new_call v lt lu o x p y) = by_unary {m = 15} b l ln ll (omega arith) (omega arith) le q (g.new_call (omega arith) lt lu o x p y)
  at_last b l ln ll ne le q (g.new v i lt o x) = by_unary {m = 15} b l ln ll (omega arith) (omega arith) le q (g.new (omega arith) (λ z. absurd (omega arith)) lt o x)
  at_last b l ln ll ne le q (g.postfix v lt x t u o p) = by_unary {m = 14} b l ln ll (omega arith) (omega arith) le q (g.postfix (omega arith) lt x t u o p)
  at_last b l ln ll ne le q (g.prefix v lt c p x t) = by_unary {m = 13} b l ln ll (omega arith) (omega arith) le q (g.prefix (omega arith) lt c p x t)
  at_last b l ln ll ne le q (g.wrong_prefix v lt c p x t u) = by_unary {m = 13} b l ln ll (omega arith) (omega arith) le q (g.wrong_prefix (omega arith) lt c p x t u)
  at_last b l ln ll ne le q (g.binary {o} v lt lu x c p y) = by_unary {m = level o} b l ln ll v (above o) le q (g.binary (omega arith) lt lu x c p y)
  at_last b l ln ll ne le q (g.conditional {e} {xs} {ys} {ws} v lt lu lv x o y p z) =
      let next : Quiet b 3 (look ys).kind = at_next o (question b) in
      let one : Quiet b 1 (look ws).kind = rw (low_level l v ne) q in
      let left = at_unary b l ln ll (omega arith) (omega arith) (omega arith) next.apart (λ i f. omega (arith, next.infix_below i f)) x in
      let c = conditional_step d n inner all b l e left.height (omega (arith, e_less x, at_less o)) v (omega (arith, left.low)) (omega arith) (omega arith) o y p z one in
      record {
        height = max left.height (max c.0 c.1) + 1;
        low = omega (arith, left.low, c.2, c.3);
        is = left.is ∙ by_climb d n inner b l (e, left.height) ys
            ∙ step _ (no_more_climbs d n inner b l (suc d) (e, left.height) ys (none_below b l 3 (look ys).kind (omega arith) next))
            (step _ c.4 (step _ (no_assign d n inner b l (raw.cond (g.at ys) e _ _, max left.height (max c.0 c.1) + 1) ws (λ le. one.assigning (omega arith))) refl));
      }
  at_last b l ln ll ne le q (g.assign {x = w} {o} {e} {t} {xs} {ys} {ws} v lt lu x r c p y) =
      let next : Quiet b 2 (look ys).kind = at_next c (assignment b w o p) in
      let one : Quiet b 1 (look ws).kind = rw (low_level l (omega arith) ne) q in
      let left = from_chain b l ln ll (omega arith) next.apart x in
      let a = assign_step d n inner all b l e left.height (omega (arith, e_less x, at_less c)) v (omega (arith, left.low)) (omega arith) r c p y one in
      record {
        height = max left.height a.0 + 1;
        low = omega (arith, left.low, a.1);
        is = left.is ∙ by_climb d n inner b l (e, left.height) ys
            ∙ step _ (no_more_climbs d n inner b l (suc d) (e, left.height) ys (none_below b l 2 (look ys).kind (omega arith) next))
            (step _ (no_conditional d n inner b l (e, left.height) ys (λ le. next.question (omega arith))) (step _ a.2 refl));
      }
  at_last b l ln ll ne le q (g.comma {e} {xs} {ys} {ws} lt lu x o y) =
      let left = at_last b 0 ln (omega arith) (λ z. absurd (omega arith)) (omega arith) (at_next o (comma b)) x in
      let c = comma_step d n inner all b e left.height (omega (arith, e_less x, at_less o)) (omega (arith, left.low)) (omega arith) o y q in
      record { height = max left.height c.0 + 1; low = omega (arith, left.low, c.1); is = left.is ∙ c.2 }

  pub expr_read : (b : Bool) (l h : ℕ) {xs ys : Symbols} {e : RawExpr} → reals xs < n → l ≤ 13 → ¬ (l ≡ 2) → h ≤ d → E h b l xs e ys → Quiet b l (look ys).kind → Reads h (s.expr_of d n inner b l xs) e ys
  expr_read b l h {ys} {e} ln ll ne le x q =
      let w = at_last b l ln ll ne le (looser (max 1 l) (omega arith) q) x in
      record { height = w.height; low = w.low; is = w.is ∙ last_ends d n inner b l (e, w.height) ys q }

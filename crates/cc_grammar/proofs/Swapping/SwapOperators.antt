-- Two readings of the same symbols up to a place where a part is due: unary and binary operators, and what binds less.
use Rattle.std.specs.Prelude.{◌≡◌, ℕ, zero, suc, ◌+◌, ◌≤◌, max, ◌==◌, Bool, true, false, Ok, Err, cond, nat_lt, [], ◌∷◌, ◌++◌, Option, Some, None}
use Rattle.std.proofs.Common.{refl, sym, ◌∙◌, arith}
use Rattle.cc_ast.specs.declared.operator.BinOp.{BinOp}
use Rattle.cc_ast.specs.declared.place.Place.{Place}
use Rattle.cc_ast.specs.declared.reading.Construct.{Construct}
use Rattle.cc_ast.specs.declared.reading.Construct.TheVariants as construct
use Rattle.cc_ast.specs.Syntax.{undefined}
use Rattle.cc_lexer.specs.declared.token.Mark.TheVariants as mark
use Rattle.cc_grammar.specs.Symbols.{Kind, Lexeme, Symbol, Symbols, look, rest, lexeme_of, is_mark}
use Rattle.cc_grammar.specs.Symbols as k
use Rattle.cc_grammar.specs.RawTree.{RawExpr, RawTarget}
use Rattle.cc_grammar.specs.RawTree as raw
use Rattle.cc_grammar.specs.Signs.{Prefix, unary, Infix, target_of, prefix_tree, infix_of, level, infix_tree, assign_of}
use Rattle.cc_grammar.specs.Signs as sign
use Rattle.cc_grammar.specs.Reading.{Outcome, Sized, and_then, semicolon_symbol, is_remedy, is_delete, depth, spent}
use Rattle.cc_grammar.specs.Reading as r
use Rattle.cc_grammar.proofs.Clashes.{never}
use Rattle.cc_grammar.proofs.Marked.{In}
use Rattle.cc_grammar.proofs.Alikeness.Alike.{IsErr, is_err, limits, alike_behind, err_after}
use Rattle.cc_grammar.proofs.Alikeness.AlikeExpressions.{opened_alike}
use Rattle.cc_grammar.proofs.Swapping.Swap.{Next, Change, Pair, slash, slash_equal, comma, function, label, name, accessor, delete, IsPair, Swaps, Later, Swap, Taking, Look, part, first_taken, swap_after, swap_pure, swap_look, later_look, take_then, behind, swap_fork, later_fork, swap_fail, swap_stops, swap_refuse, swap_limit, steady, test, listed, mark_free, mark_test, swap_expect}
use Rattle.cc_grammar.proofs.Swapping.SwapSites.{no_remedy, remedy_free}
use Rattle.cc_grammar.proofs.Swapping.SwapAhead.{Opens, Settled, settled_after, settled_by, settled_deeper, later_guarded}
use Rattle.cc_grammar.proofs.Swapping.SwapParts.{SwapInner, deeper}
use Rattle.cc_grammar.proofs.Swapping.SwapPrimary.{suffixes_swap, postfix_swap}
use Rattle.cc_grammar.proofs.OnSymbols as s

-- an operator that a token is, is one that it may be
infix_free : (n : Bool) (o : Infix) {p : k.Part} {y : Kind} {b : Bool} {c : Construct} {z : Next} → Pair p y b c z → infix_of n y ≡ Some o → b ≡ true
infix_free n o slash e = refl
infix_free n o slash_equal e = refl
infix_free n o comma e = refl
infix_free n o function e = refl
infix_free n o (label q) e = refl
infix_free n o (name q) e = let no : ◌≡◌ {A = Option Infix} None (Some o) = e in absurd (cc)
infix_free n o (accessor q) e = let no : ◌≡◌ {A = Option Infix} None (Some o) = e in absurd (cc)
infix_free n o delete e = let no : ◌≡◌ {A = Option Infix} None (Some o) = e in absurd (cc)

assign_free : (o : Option BinOp) {p : k.Part} {y : Kind} {b : Bool} {c : Construct} {z : Next} → Pair p y b c z → assign_of y ≡ Some o → b ≡ true
assign_free o slash e = refl
assign_free o slash_equal e = refl
assign_free o comma e = refl
assign_free o function e = refl
assign_free o (label q) e = refl
assign_free o (name q) e = let no : ◌≡◌ {A = Option (Option BinOp)} None (Some o) = e in absurd (cc)
assign_free o (accessor q) e = let no : ◌≡◌ {A = Option (Option BinOp)} None (Some o) = e in absurd (cc)
assign_free o delete e = let no : ◌≡◌ {A = Option (Option BinOp)} None (Some o) = e in absurd (cc)

module _ (x : Change) (w : IsPair x) (d e n o : ℕ) (inner outer : In) (le : d ≤ e) (lo : n ≤ o) (all : SwapInner x inner outer) where
  -- ---- unary operators

  wrong_swap : (y : Prefix) (p : Place) → Swap x (s.wrong_prefix d n inner y p) (s.wrong_prefix e o outer y p)
  wrong_swap (sign.step up) p = swap_fail x r.a_token
  wrong_swap (unary y) p = swap_refuse x construct.DeleteName p

  prefix_swap : (y : Prefix) (p : Place) (a : Sized RawExpr) (f : Option RawExpr) → Swap x (s.prefix_by d n inner y p a f) (s.prefix_by e o outer y p a f)
  prefix_swap y p a (Some f) = swap_pure x (f, a.1 + 1)
  prefix_swap y p a None = swap_look x (test x (λ l. is_remedy l.kind) (no_remedy w) (λ q. never (sym (remedy_free w) ∙ q)) (λ _. behind x (swap_pure x (raw.lit p undefined, a.1 + 1))) (steady x (wrong_swap y p)))

  prefix_expr_swap : (b : Bool) (y : Prefix) → Taking x (s.prefix_expr d n inner b y) (s.prefix_expr e o outer b y)
  unfolding r.prefix_expr
  prefix_expr_swap b y = take_then x (λ t. swap_after x (all.expr b 13) (λ a. prefix_swap y t.place a (prefix_tree y t.place a.0)))

  abbrev deep : ℕ → ℕ → In → Bool → Prefix → s.Reader (Sized RawExpr)
  deep h m i b y = λ j. cond (nat_lt 0 h) (s.prefix_expr h m i b y j) (Err (record { cause = depth; place = (look j).place }, j))

  -- at a name that no variable has, in parentheses behind the operator
  prefix_settled : (b : Bool) (y : Prefix) (m : Symbol) (before : Symbols) → x.part ≡ k.variable → Opens before → Settled x (deep d n inner b y) (deep e o outer b y) (m ∷ before)
  unfolding r.prefix_expr
  prefix_settled b y m before q u = settled_deeper x (nat_lt 0 d) (nat_lt 0 e) (s.prefix_expr d n inner b y) (s.prefix_expr e o outer b y) (settled_by x (λ xs. refl) (λ xs. refl)
      (settled_after x (λ a. s.prefix_by d n inner y (lexeme_of m).place a (prefix_tree y (lexeme_of m).place a.0)) (λ a. s.prefix_by e o outer y (lexeme_of m).place a (prefix_tree y (lexeme_of m).place a.0)) (all.named q b 13 before u)))

  -- at a key
  prefix_keyed : (b : Bool) (y : Prefix) (m : Symbol) (before : Symbols) → x.part ≡ k.key → Opens before → (xs : Symbols) → IsErr (deep e o outer b y (m ∷ (before ++ part x ∷ xs)))
  unfolding r.prefix_expr
  prefix_keyed b y m before q u xs = by (nat_lt 0 e) where
    by : (c : Bool) → IsErr (cond c (s.prefix_expr e o outer b y (m ∷ (before ++ part x ∷ xs))) (Err (record { cause = depth; place = (lexeme_of m).place }, m ∷ (before ++ part x ∷ xs))))
    by false = is_err
    by true = err_after (λ a. s.prefix_by e o outer y (lexeme_of m).place a (prefix_tree y (lexeme_of m).place a.0)) (all.keyed q b 13 before u xs)

  pub prefixed_later : (b : Bool) (y : Prefix) → Later x (s.prefixed d n inner b y) (s.prefixed e o outer b y)
  unfolding r.prefixed
  prefixed_later b y = later_fork x (is_delete y) _ _ _ _
      (later_look x (λ t. later_guarded x t.place n o (deep d n inner b y) (deep e o outer b y) w (λ xs. (alike_behind (opened_alike {bounds = limits} n n 0 (omega arith))).walks xs) (plain.later) (λ m before. prefix_settled b y m before) (λ m before. prefix_keyed b y m before)))
      plain.later where
        plain : Taking x (deep d n inner b y) (deep e o outer b y)
        plain = deeper x d e 0 _ _ (prefix_expr_swap b y)

  -- ---- binary operators

  climb_by_swap : (b : Bool) (l : ℕ) (a : Sized RawExpr) (again more : Sized RawExpr → s.Reader (Sized RawExpr)) (y : Infix) → ((c : Sized RawExpr) → Swap x (again c) (more c)) → Taking x
      (λ i. cond (nat_lt a.1 d) (and_then (Ok (look i, rest i)) (λ t j. and_then (inner.expr b (level y + 1) j) (λ c. again (infix_tree y t.place a.0 c.0, max a.1 c.1 + 1)))) (Err (record { cause = depth; place = (look i).place }, i)))
      (λ i. cond (nat_lt a.1 e) (and_then (Ok (look i, rest i)) (λ t j. and_then (outer.expr b (level y + 1) j) (λ c. more (infix_tree y t.place a.0 c.0, max a.1 c.1 + 1)))) (Err (record { cause = depth; place = (look i).place }, i)))
  climb_by_swap b l a again more y h = deeper x d e a.1 _ _ (take_then x (λ t. swap_after x (all.expr b (level y + 1)) (λ c. h (infix_tree y t.place a.0 c.0, max a.1 c.1 + 1))))

  climb_later : (b : Bool) (l : ℕ) (a : Sized RawExpr) (again more : Sized RawExpr → s.Reader (Sized RawExpr)) → ((c : Sized RawExpr) → Swap x (again c) (more c)) → (y : Option Infix) → Later x (s.climb_by d n inner again b l a y) (s.climb_by e o outer more b l a y)
  climb_later b l a again more h None = (swap_pure x a).later
  climb_later b l a again more h (Some y) = later_fork x (nat_lt (level y) l) _ _ _ _ (swap_pure x a).later (climb_by_swap b l a again more y h).later

  -- the token as an operator, and no part is one
  climb_first : (b : Bool) (l : ℕ) (a : Sized RawExpr) (again more : Sized RawExpr → s.Reader (Sized RawExpr)) → ((c : Sized RawExpr) → Swap x (again c) (more c)) → (y : Infix) → infix_of b x.kind ≡ Some y → Swaps x (s.climb_by d n inner again b l a (Some y)) (s.climb_by e o outer more b l a None) []
  climb_first b l a again more h y q = by (nat_lt (level y) l) where
    by : (c : Bool) → Swaps x (cond c (λ i. Ok (a, i)) (λ i. cond (nat_lt a.1 d) (and_then (Ok (look i, rest i)) (λ t j. and_then (inner.expr b (level y + 1) j) (λ c. again (infix_tree y t.place a.0 c.0, max a.1 c.1 + 1)))) (Err (record { cause = depth; place = (look i).place }, i)))) (λ i. Ok (a, i)) []
    by true = (swap_pure x a).first
    by false = first_taken x (infix_free b y w q) (climb_by_swap b l a again more y h)

  climb_look : (b : Bool) (l : ℕ) (a : Sized RawExpr) (again more : Sized RawExpr → s.Reader (Sized RawExpr)) → ((c : Sized RawExpr) → Swap x (again c) (more c)) → Look x (λ t. s.climb_by d n inner again b l a (infix_of b t.kind)) (λ t. s.climb_by e o outer more b l a (infix_of b t.kind))
  climb_look b l a again more h = listed x (infix_of b) {p = λ y _. s.climb_by d n inner again b l a y} {q = λ y _. s.climb_by e o outer more b l a y} (no_infix b) (λ y _. climb_later b l a again more h y) (steady x (swap_pure x a)) (λ y q. climb_first b l a again more h y q) where
    no_infix : (b : Bool) → infix_of b (k.due x.part) ≡ None
    no_infix true = refl
    no_infix false = refl

  pub climb_swap : (b : Bool) (l m u : ℕ) (a : Sized RawExpr) → m ≤ u → Swap x (s.climb d n inner b l m a) (s.climb e o outer b l u a)
  unfolding r.climb
  climb_swap b l zero zero a lt = swap_look x (climb_look b l a _ _ (λ c. swap_stops x depth))
  climb_swap b l zero (suc u) a lt = swap_look x (climb_look b l a _ _ (λ c. swap_limit x depth (s.climb e o outer b l u c) refl))
  climb_swap b l (suc m) zero a lt = absurd (omega arith)
  climb_swap b l (suc m) (suc u) a lt = swap_look x (climb_look b l a _ _ (λ c. climb_swap b l m u c (omega arith)))

  -- ---- what binds less

  conditional_swap : (b : Bool) (a : Sized RawExpr) → Swap x (s.conditional d n inner b a) (s.conditional e o outer b a)
  unfolding r.conditional
  conditional_swap b a = swap_look x (mark_test x w mark.Question
      (λ t. deeper x d e a.1 _ _ (behind x (swap_after x (all.expr true 1) (λ y. swap_after x (swap_expect x w mark.Colon) (λ _. swap_after x (all.expr b 1) (λ z.
      swap_pure x (raw.cond t.place a.0 y.0 z.0, max a.1 (max y.1 z.1) + 1)))))))
      (steady x (swap_pure x a)))

  assign_taken : (b : Bool) (a : Sized RawExpr) (y : Option BinOp) (g : RawTarget) → Taking x (s.assign_by d n inner b a (Some y) (Some g)) (s.assign_by e o outer b a (Some y) (Some g))
  assign_taken b a y g = deeper x d e a.1 _ _ (take_then x (λ t. swap_after x (all.expr b 1) (λ c. swap_pure x (raw.assign t.place y g c.0, max a.1 c.1 + 1))))

  assign_later : (b : Bool) (a : Sized RawExpr) (y : Option (Option BinOp)) (g : Option RawTarget) → Later x (s.assign_by d n inner b a y g) (s.assign_by e o outer b a y g)
  assign_later b a None g = (swap_pure x a).later
  assign_later b a (Some y) None = (swap_pure x a).later
  assign_later b a (Some y) (Some g) = (assign_taken b a y g).later

  assign_first : (b : Bool) (a : Sized RawExpr) (y : Option BinOp) (g : Option RawTarget) → assign_of x.kind ≡ Some y → Swaps x (s.assign_by d n inner b a (Some y) g) (s.assign_by e o outer b a None g) []
  assign_first b a y None q = (swap_pure x a).first
  assign_first b a y (Some g) q = first_taken x (assign_free y w q) (assign_taken b a y g)

  assign_swap : (b : Bool) (a : Sized RawExpr) → Swap x (s.assign d n inner b a) (s.assign e o outer b a)
  unfolding r.assign
  assign_swap b a = swap_look x (listed x assign_of {p = λ y _. s.assign_by d n inner b a y (target_of a.0)} {q = λ y _. s.assign_by e o outer b a y (target_of a.0)} refl (λ y _. assign_later b a y (target_of a.0)) (steady x (swap_pure x a))
      (λ y q. assign_first b a y (target_of a.0) q))

  comma_taken : (b : Bool) (a : Sized RawExpr) (again more : Sized RawExpr → s.Reader (Sized RawExpr)) → ((c : Sized RawExpr) → Swap x (again c) (more c)) → Taking x (s.comma_by d n inner again b a true) (s.comma_by e o outer more b a true)
  comma_taken b a again more h = deeper x d e a.1 _ _ (take_then x (λ t. swap_after x (all.expr b 1) (λ c. h (raw.comma t.place a.0 c.0, max a.1 c.1 + 1))))

  comma_look : (b : Bool) (a : Sized RawExpr) (again more : Sized RawExpr → s.Reader (Sized RawExpr)) → ((c : Sized RawExpr) → Swap x (again c) (more c))
      → Look x (λ t. s.comma_by d n inner again b a (is_mark mark.Comma t.kind)) (λ t. s.comma_by e o outer more b a (is_mark mark.Comma t.kind))
  comma_look b a again more h = record { first = at (is_mark mark.Comma x.kind) refl; later = λ t. then (is_mark mark.Comma t.kind) } where
    at : (y : Bool) → is_mark mark.Comma x.kind ≡ y → Swaps x (s.comma_by d n inner again b a y) (s.comma_by e o outer more b a false) []
    at true q = first_taken x (mark_free x w mark.Comma q) (comma_taken b a again more h)
    at false q = (swap_pure x a).first

    then : (y : Bool) → Later x (s.comma_by d n inner again b a y) (s.comma_by e o outer more b a y)
    then true = (comma_taken b a again more h).later
    then false = (swap_pure x a).later

  commas_swap : (b : Bool) (m u : ℕ) (a : Sized RawExpr) → m ≤ u → Swap x (s.commas d n inner b m a) (s.commas e o outer b u a)
  unfolding r.commas
  commas_swap b zero zero a lt = swap_look x (comma_look b a _ _ (λ c. swap_stops x depth))
  commas_swap b zero (suc u) a lt = swap_look x (comma_look b a _ _ (λ c. swap_limit x depth (s.commas e o outer b u c) refl))
  commas_swap b (suc m) zero a lt = absurd (omega arith)
  commas_swap b (suc m) (suc u) a lt = swap_look x (comma_look b a _ _ (λ c. commas_swap b m u c (omega arith)))

  pub after_unary_swap : (b : Bool) (l : ℕ) (a : Sized RawExpr) → Swap x (s.after_unary d n inner b l a) (s.after_unary e o outer b l a)
  unfolding r.after_unary
  after_unary_swap b l a = swap_after x (climb_swap b l (suc d) (suc e) a (omega arith)) (λ y. swap_after x (swap_fork x (nat_lt l 3) _ _ _ _ (conditional_swap b y) (swap_pure x y)) (λ z.
      swap_after x (swap_fork x (nat_lt l 2) _ _ _ _ (assign_swap b z) (swap_pure x z)) (λ v. swap_fork x (l == 0) _ _ _ _ (commas_swap b (suc d) (suc e) v (omega arith)) (swap_pure x v))))

  pub after_head_swap : (b : Bool) (l : ℕ) (a : Sized RawExpr) → Swap x (s.after_head d n inner b l a) (s.after_head e o outer b l a)
  unfolding r.after_head
  after_head_swap b l a = swap_after x (suffixes_swap x w d e n o inner outer lo all true (suc d) (suc e) a (omega arith)) (λ y. swap_after x (postfix_swap x w d e n o inner outer lo all y) (λ z. after_unary_swap b l z))

-- The readers of symbols and of tokens go alike: operators, and whole expressions.
use Rattle.std.specs.Prelude.{◌≡◌, ℕ, zero, suc, ◌+◌, ◌<◌, max, ◌==◌, Bool, true, false, cond, nat_lt, [], ◌∷◌, map, Ok, Err, ◌⊎◌, Option, Some, None}
use Rattle.std.proofs.Common.{refl, sym, ap, ◌∙◌, subst, inr}
use Rattle.cc_ast.specs.declared.operator.BinOp.{BinOp}
use Rattle.cc_ast.specs.declared.place.Place.{Place}
use Rattle.cc_ast.specs.declared.reading.Construct.TheVariants as construct
use Rattle.cc_lexer.specs.declared.token.Mark.TheVariants as mark
use Rattle.cc_grammar.specs.Symbols.{Kind, Lexeme, Symbols, real, inserted, look, rest, lexemes_of, is_mark}
use Rattle.cc_grammar.specs.Symbols as k
use Rattle.cc_grammar.specs.RawTree.{RawExpr, RawTarget}
use Rattle.cc_grammar.specs.RawTree as raw
use Rattle.cc_grammar.specs.Signs.{Prefix, Infix, step_of, target_of, prefix_of, prefix_tree, infix_of, level, infix_tree, assign_of}
use Rattle.cc_grammar.specs.Signs as sign
use Rattle.cc_grammar.specs.Reading.{Outcome, Fault, Sized, and_then, look_token, rest_tokens, is_delete, is_remedy}
use Rattle.cc_grammar.specs.Reading as r
use Rattle.cc_grammar.proofs.Meets.{Done, ok, err}
use Rattle.cc_grammar.proofs.Marked.{In}
use Rattle.cc_grammar.proofs.Shrinks.{reals}
use Rattle.cc_grammar.proofs.Ahead.{Spared}
use Rattle.cc_grammar.proofs.Soundness.SoundParts.{SoundInner}
use Rattle.cc_grammar.proofs.Copying.Copies.{L, Copy, put, put_lexemes, each_map, each_both, StopsAt, Just, Late, Bars, Shut, Bar, clash, reads, Copies, read, stop, Quiet, Head, goes, halts, Starts, starts, started, same_copies}
use Rattle.cc_grammar.proofs.Copying.CopySteps.{quiet, shut_after, bar_by, copies_after, goes_after, starts_after, copies_pure, Chosen, by_token, by_taking, by_none, absent, decide, fork, split, split_copies, deeper, at_end, head_of_start, fails_bar, fails_here, stops_here, refuses_bar, refuses_here, expects}
use Rattle.cc_grammar.proofs.Copying.CopyAhead.{Plain, plain_real, plain_put, each_plain, Answers, answers, opened_plain, opened_spared, AtLast, denied, accepted, opened_last, Looks, found, other, spends, opened_looks, each_takes, late_takes, delete_spares}
use Rattle.cc_grammar.proofs.Copying.CopyLists.{CopyInner, BarsInner}
use Rattle.cc_grammar.proofs.Copying.CopyPrimary.{primary_bar, primary_copy, suffixes_copy}
use Rattle.cc_grammar.proofs.OnSymbols as s
use Rattle.cc_grammar.proofs.OnTokens as t

-- a step that stands behind a target, on its line
abbrev steps : Option Bool → Option RawTarget → Bool → Option (Bool × RawTarget)
steps (Some up) (Some g) false = Some (up, g)
steps _ _ _ = None

-- an assignment behind a target
abbrev assigns : Option (Option BinOp) → Option RawTarget → Option (Option BinOp × RawTarget)
assigns (Some o) (Some g) = Some (o, g)
assigns _ _ = None

-- a question mark, by its place
abbrev questions : Lexeme → Option Place
questions w = cond (is_mark mark.Question w.kind) (Some w.place) None

infix_ending : (n : Bool) → infix_of n (k.due k.ending) ≡ None
infix_ending true = refl
infix_ending false = refl

infix_nothing : (n : Bool) → infix_of n (k.stop None) ≡ None
infix_nothing true = refl
infix_nothing false = refl

-- an operator that binds as tightly as the level
abbrev binds : ℕ → Option Infix → Option Infix
binds l None = None
binds l (Some o) = cond (nat_lt (level o) l) None (Some o)

none_binds : (l : ℕ) (v : Option Infix) (o : Infix) → v ≡ None → ¬ (binds l v ≡ Some o)
none_binds l v o e f = let no : None ≡ Some o = sym (ap (binds l) e) ∙ f in (cc)

module _ (d turns : ℕ) (inner : In) (outer : t.In) (alike : CopyInner inner outer) (bars : nat_lt 0 d ≡ true → BarsInner inner) (some : 0 < turns) (sound : SoundInner d inner) where
  -- ---- postfix operators

  stepping : Sized RawExpr → Option (Bool × RawTarget) → s.Reader (Sized RawExpr)
  stepping a None = s.postfix_by d turns inner a None None false
  stepping a (Some p) = s.postfix_by d turns inner a (Some p.0) (Some p.1) false

  stepping_token : Sized RawExpr → Option (Bool × RawTarget) → t.Reader (Sized RawExpr)
  stepping_token a None = t.postfix_by d turns outer a None None false
  stepping_token a (Some p) = t.postfix_by d turns outer a (Some p.0) (Some p.1) false

  steps_same : (a : Sized RawExpr) (o : Option Bool) (g : Option RawTarget) (b : Bool) (xs : Symbols) → s.postfix_by d turns inner a o g b xs ≡ stepping a (steps o g b) xs
  unfolding stepping
  steps_same a (Some up) (Some g) false xs = refl
  steps_same a (Some up) (Some g) true xs = refl
  steps_same a (Some up) None b xs = refl
  steps_same a None g b xs = refl

  steps_same_token : (a : Sized RawExpr) (o : Option Bool) (g : Option RawTarget) (b : Bool) (ts : L) → t.postfix_by d turns outer a o g b ts ≡ stepping_token a (steps o g b) ts
  unfolding stepping_token
  steps_same_token a (Some up) (Some g) false ts = refl
  steps_same_token a (Some up) (Some g) true ts = refl
  steps_same_token a (Some up) None b ts = refl
  steps_same_token a None g b ts = refl

  stepping_copy : (a : Sized RawExpr) (g : Option RawTarget) (ts : L) (v : Option (Bool × RawTarget)) → Chosen true Quiet (λ w. steps (step_of w.kind) g w.after_line) v (stepping a v) (stepping a None) (stepping_token a v) ts
  unfolding stepping stepping_token
  stepping_copy a g ts None = by_none refl (copies_pure true a ts)
  stepping_copy a g ts (Some p) = by_taking (λ e. cc) (λ w us _. deeper a.1 d _ (λ _. goes (copies_pure true _ us)))

  pub postfix_copy : (a : Sized RawExpr) (ts : L) → Copies true Quiet (s.postfix d turns inner a) ts (t.postfix d turns outer a ts)
  unfolding r.postfix
  postfix_copy a ts = subst (λ o. Copies true Quiet (s.postfix d turns inner a) ts o) (sym (steps_same_token a (step_of (look_token ts).kind) (target_of a.0) (look_token ts).after_line ts))
      (same_copies (s.postfix d turns inner a) quiet (decide (λ w. steps (step_of w.kind) (target_of a.0) w.after_line) (stepping a) (stepping_token a) ts quiet (λ v _. stepping_copy a (target_of a.0) ts v))
      (λ xs _. steps_same a (step_of (look xs).kind) (target_of a.0) (look xs).after_line xs))

  -- ---- unary operators

  refused_copy : (o : Prefix) (p : Place) (ts : L) → Starts true Quiet (s.wrong_prefix d turns inner o p) ts (t.wrong_prefix d turns outer o p ts)
  refused_copy (sign.step up) p ts = fails_here true r.a_token ts
  refused_copy (sign.unary o) p ts = refuses_here true _ refl ts

  refused_bar : (o : Prefix) (p : Place) → Bars (s.wrong_prefix d turns inner o p)
  refused_bar (sign.step up) p = fails_bar r.a_token
  refused_bar (sign.unary o) p = refuses_bar _ refl

  prefix_by_copy : (o : Prefix) (p : Place) (a : Sized RawExpr) (f : Option RawExpr) (ts : L) → Copies true Quiet (s.prefix_by d turns inner o p a f) ts (t.prefix_by d turns outer o p a f ts)
  prefix_by_copy o p a (Some f) ts = copies_pure true _ ts
  prefix_by_copy o p a None ts = fork (λ w. is_remedy w.kind) _ _ _ _ ts quiet (λ _. by_taking absent (λ w us _. goes (copies_pure true _ us))) (λ _. by_token (refused_copy o p ts) (refused_bar o p))

  prefix_expr_copy : (n : Bool) (o : Prefix) (w : Lexeme) (us : L) → Copies true Quiet (λ xs. s.prefix_expr d turns inner n o (real w ∷ xs)) us (t.prefix_expr d turns outer n o (w ∷ us))
  unfolding r.prefix_expr
  prefix_expr_copy n o w us = copies_after _ _ quiet (started (alike.expr n 13 us)) (λ a vs. prefix_by_copy o w.place a (prefix_tree o w.place a.0) vs)

  -- What the look ahead allows is read.
  module _ (w : Lexeme) (us : L) (main : Symbols → Outcome Symbols (Sized RawExpr)) where
    abbrev Guarded : Symbols → Outcome Symbols (Sized RawExpr)
    Guarded xs = r.unless_deleted Symbols look rest r.semicolon_symbol (s.opened turns 0 xs) w.place (main xs)

    unless_answered : (xs : Symbols) (o : Outcome Symbols Bool) → s.opened turns 0 xs ≡ o → Answers false o → Guarded xs ≡ main xs
    unless_answered xs o e answers = ap (λ x. r.unless_deleted Symbols look rest r.semicolon_symbol x w.place (main xs)) e

    spares_of : {Q : Type 0} (o : Outcome Symbols (Sized RawExpr)) {x : Sized RawExpr × Symbols} → Done (λ _ _. Q) o → o ≡ Ok x → Q
    spares_of o (ok q) e = q
    spares_of o err e = absurd (cc)

    just_guarded : {vs os : L} (v : Copy us vs) → t.opened turns 0 us ≡ Ok (false, os) → Just main v → Late v → Just Guarded v
    just_guarded v e j l = each_map (λ vs xs. StopsAt main vs xs × Plain us xs) (StopsAt Guarded) v (λ vs xs m. unless_answered xs _ refl (opened_plain turns 0 m.1 e) ∙ m.0)
        (each_both (StopsAt main) (λ vs xs. Plain us xs) v j (each_plain v l))

    -- where an insertion stands behind what is read
    guarded_bar : {vs os : L} (c : Fault) (v : Copy us vs) → t.opened turns 0 us ≡ Ok (false, os) → Late v → Bar c main v → Bar c Guarded v
    guarded_bar {vs} c v e l b n o = by (s.opened turns 0 (put v (inserted ∷ map real vs))) refl (opened_last turns 0 v l e) where
      by : (u : Outcome Symbols Bool) → s.opened turns 0 (put v (inserted ∷ map real vs)) ≡ u → AtLast (map real vs) u → (is_mark mark.Colon (look_token vs).kind ≡ true) ⊎ Shut (Guarded (put v (inserted ∷ map real vs))) (map real vs)
      by u q denied = bar_by (unless_answered (put v (inserted ∷ map real vs)) u q answers) (b n o)
      by u q accepted = inr (record {
        fault = record { cause = r.refused construct.DeleteName; place = w.place };
        no_limit = refl;
        is = ap (λ x. r.unless_deleted Symbols look rest r.semicolon_symbol x w.place (main (put v (inserted ∷ map real vs)))) q;
      })

    allowed_copy : {os : L} {o : Outcome L (Sized RawExpr)} → t.opened turns 0 us ≡ Ok (false, os) → ((xs : Symbols) → Done (λ _ _. (m : ℕ) → reals xs < m → Spared m xs) (main xs))
        → Copies true Quiet main us o → Copies true Quiet Guarded us o
    allowed_copy e f (read v h j l b) = reads v (λ xs q. unless_answered (put v xs) _ refl (opened_spared turns (put v xs) (ap (t.opened turns 0) (put_lexemes v xs q) ∙ e) (spares_of (main (put v xs)) (f (put v xs)) (h xs q))) ∙ h xs q) (just_guarded v e j l) l
    allowed_copy e f (stop {c} {us = vs} v h j l b) = stop v (unless_answered (put v (map real vs)) _ refl (opened_plain turns 0 (plain_put v l) e) ∙ h) (just_guarded v e j l) l (guarded_bar c v e l b)

    -- by what it answers of the tokens
    guarded_copy : {u : Outcome L (Sized RawExpr)} (o : Outcome L Bool) → t.opened turns 0 us ≡ o → Looks (s.opened turns 0) us o → ((vs : L) → t.opened turns 0 us ≡ Ok (false, vs) → Head true true Quiet Guarded w us u)
        → Head true true Quiet Guarded w us (r.unless_deleted L look_token rest_tokens r.semicolon_token o w.place u)
    guarded_copy o q (found {us = vs} v z e f) h = goes (stop v (ap (λ x. r.unless_deleted Symbols look rest r.semicolon_symbol x w.place (main (put v (map real vs)))) e) (each_takes (StopsAt Guarded) v z) (late_takes v z)
        (λ n o. inr (record { fault = record { cause = r.refused construct.DeleteName; place = w.place }; no_limit = refl; is = ap (λ x. r.unless_deleted Symbols look rest r.semicolon_symbol x w.place (main (put v (inserted ∷ map real vs)))) f })))
    guarded_copy o q (other {us = vs}) h = h vs q
    guarded_copy o q (spends {c} {us = vs} v z e l) h = goes (stop v (ap (λ x. r.unless_deleted Symbols look rest r.semicolon_symbol x w.place (main (put v (map real vs)))) e) (each_takes (StopsAt Guarded) v z) (late_takes v z) (λ n o. absurd (clash c l n)))

  -- with a depth that is enough, or not
  by_depth : (n : Bool) (o : Prefix) (w : Lexeme) (us : L) (c : Bool) → is_delete o ≡ true
      → Head true true Quiet (λ xs. r.unless_deleted Symbols look rest r.semicolon_symbol (s.opened turns 0 xs) w.place (cond c (s.prefix_expr d turns inner n o (real w ∷ xs)) (Err (record { cause = r.depth; place = w.place }, real w ∷ xs)))) w us
      (r.unless_deleted L look_token rest_tokens r.semicolon_token (t.opened turns 0 us) w.place (cond c (t.prefix_expr d turns outer n o (w ∷ us)) (Err (record { cause = r.depth; place = w.place }, w ∷ us))))
  by_depth n o w us true e = guarded_copy w us _ (t.opened turns 0 us) refl (opened_looks turns 0 us)
      (λ vs q. goes (allowed_copy w us _ q (λ xs. delete_spares d turns inner sound n o w xs e) (prefix_expr_copy n o w us)))
  by_depth n o w us false e = guarded_copy w us _ (t.opened turns 0 us) refl (opened_looks turns 0 us)
      (λ vs q. halts (unless_answered w us (λ xs. Err (record { cause = r.depth; place = w.place }, real w ∷ xs)) (map real us) _ refl (opened_plain turns 0 (plain_real us) q)) tt)

  prefixed_copy : (n : Bool) (o : Prefix) (w : Lexeme) (us : L) → Head true true Quiet (λ xs. s.prefixed d turns inner n o (real w ∷ xs)) w us (t.prefixed d turns outer n o (w ∷ us))
  unfolding r.prefixed
  prefixed_copy n o w us = split (is_delete o) _ _ _ _ (λ e. by_depth n o w us (nat_lt 0 d) e) (λ _. deeper 0 d _ (λ _. goes (prefix_expr_copy n o w us)))

  -- ---- binary operators

  climbing : (Sized RawExpr → s.Reader (Sized RawExpr)) → Bool → Sized RawExpr → Option Infix → s.Reader (Sized RawExpr)
  climbing again n a None = r.pure Symbols look rest r.semicolon_symbol a
  climbing again n a (Some o) = λ i. cond (nat_lt a.1 d) (and_then (inner.expr n (level o + 1) (rest i)) (λ b. again (infix_tree o (look i).place a.0 b.0, max a.1 b.1 + 1))) (Err (record { cause = r.depth; place = (look i).place }, i))

  climbing_token : (Sized RawExpr → t.Reader (Sized RawExpr)) → Bool → Sized RawExpr → Option Infix → t.Reader (Sized RawExpr)
  climbing_token again n a None = r.pure L look_token rest_tokens r.semicolon_token a
  climbing_token again n a (Some o) = λ i. cond (nat_lt a.1 d) (and_then (outer.expr n (level o + 1) (rest_tokens i)) (λ b. again (infix_tree o (look_token i).place a.0 b.0, max a.1 b.1 + 1))) (Err (record { cause = r.depth; place = (look_token i).place }, i))

  climbs_same : (again : Sized RawExpr → s.Reader (Sized RawExpr)) (n : Bool) (l : ℕ) (a : Sized RawExpr) (v : Option Infix) (xs : Symbols) → s.climb_by d turns inner again n l a v xs ≡ climbing again n a (binds l v) xs
  unfolding climbing
  climbs_same again n l a None xs = refl
  climbs_same again n l a (Some o) xs = by (nat_lt (level o) l) where
    by : (c : Bool) → cond c (climbing again n a None) (climbing again n a (Some o)) xs ≡ climbing again n a (cond c None (Some o)) xs
    by true = refl
    by false = refl

  climbs_same_token : (again : Sized RawExpr → t.Reader (Sized RawExpr)) (n : Bool) (l : ℕ) (a : Sized RawExpr) (v : Option Infix) (ts : L) → t.climb_by d turns outer again n l a v ts ≡ climbing_token again n a (binds l v) ts
  unfolding climbing_token
  climbs_same_token again n l a None ts = refl
  climbs_same_token again n l a (Some o) ts = by (nat_lt (level o) l) where
    by : (c : Bool) → cond c (climbing_token again n a None) (climbing_token again n a (Some o)) ts ≡ climbing_token again n a (cond c None (Some o)) ts
    by true = refl
    by false = refl

  climbing_copy : (n : Bool) (l : ℕ) (a : Sized RawExpr) (again : Sized RawExpr → s.Reader (Sized RawExpr)) (onward : Sized RawExpr → t.Reader (Sized RawExpr)) (ts : L)
      → ((b : Sized RawExpr) (us : L) → Copies true Quiet (again b) us (onward b us))
      → (v : Option Infix) → Chosen true Quiet (λ w. binds l (infix_of n w.kind)) v (climbing again n a v) (climbing again n a (binds l (infix_of n (k.due k.ending)))) (climbing_token onward n a v) ts
  unfolding climbing climbing_token
  climbing_copy n l a again onward ts f None = by_none (ap (binds l) (infix_ending n)) (copies_pure true a ts)
  climbing_copy n l a again onward ts f (Some o) = by_taking (none_binds l _ o (infix_nothing n)) (λ w us _. deeper a.1 d _
      (λ _. goes (copies_after _ _ quiet (started (alike.expr n (level o + 1) us)) (λ b vs. f _ vs))))

  climb_by_copy : (n : Bool) (l : ℕ) (a : Sized RawExpr) (again : Sized RawExpr → s.Reader (Sized RawExpr)) (onward : Sized RawExpr → t.Reader (Sized RawExpr)) (ts : L)
      → ((b : Sized RawExpr) (us : L) → Copies true Quiet (again b) us (onward b us))
      → Copies true Quiet (λ xs. s.climb_by d turns inner again n l a (infix_of n (look xs).kind) xs) ts (t.climb_by d turns outer onward n l a (infix_of n (look_token ts).kind) ts)
  climb_by_copy n l a again onward ts f = subst (λ o. Copies true Quiet (λ xs. s.climb_by d turns inner again n l a (infix_of n (look xs).kind) xs) ts o) (sym (climbs_same_token onward n l a (infix_of n (look_token ts).kind) ts))
      (same_copies (λ xs. s.climb_by d turns inner again n l a (infix_of n (look xs).kind) xs) quiet
      (decide (λ w. binds l (infix_of n w.kind)) (climbing again n a) (climbing_token onward n a) ts quiet (λ v _. climbing_copy n l a again onward ts f v))
      (λ xs _. climbs_same again n l a (infix_of n (look xs).kind) xs))

  pub climb_copy : (n : Bool) (l m : ℕ) (a : Sized RawExpr) (ts : L) → Copies true Quiet (s.climb d turns inner n l m a) ts (t.climb d turns outer n l m a ts)
  unfolding r.climb
  climb_copy n l zero a ts = climb_by_copy n l a (λ _. r.stops Symbols look rest r.semicolon_symbol r.depth) (λ _. r.stops L look_token rest_tokens r.semicolon_token r.depth) ts (λ b us. started (stops_here true r.depth refl us))
  climb_copy n l (suc m) a ts = climb_by_copy n l a (s.climb d turns inner n l m) (t.climb d turns outer n l m) ts (λ b us. climb_copy n l m b us)

  -- ---- what binds less

  asking : Bool → Sized RawExpr → Option Place → s.Reader (Sized RawExpr)
  asking n a None = r.pure Symbols look rest r.semicolon_symbol a
  asking n a (Some p) = λ i. cond (nat_lt a.1 d) (and_then (inner.expr true 1 (rest i)) (λ x j. and_then (s.expect mark.Colon j) (λ _ l. and_then (inner.expr n 1 l) (λ y m. Ok ((raw.cond p a.0 x.0 y.0, max a.1 (max x.1 y.1) + 1), m)))))
      (Err (record { cause = r.depth; place = (look i).place }, i))

  asking_token : Bool → Sized RawExpr → Option Place → t.Reader (Sized RawExpr)
  asking_token n a None = r.pure L look_token rest_tokens r.semicolon_token a
  asking_token n a (Some p) = λ i. cond (nat_lt a.1 d) (and_then (outer.expr true 1 (rest_tokens i)) (λ x j. and_then (t.expect mark.Colon j) (λ _ l. and_then (outer.expr n 1 l) (λ y m. Ok ((raw.cond p a.0 x.0 y.0, max a.1 (max x.1 y.1) + 1), m)))))
      (Err (record { cause = r.depth; place = (look_token i).place }, i))

  asks_same : (n : Bool) (a : Sized RawExpr) (xs : Symbols) → s.conditional d turns inner n a xs ≡ asking n a (questions (look xs)) xs
  unfolding r.conditional asking
  asks_same n a xs = by (is_mark mark.Question (look xs).kind) where
    by : (c : Bool) → cond c (asking n a (Some (look xs).place)) (asking n a None) xs ≡ asking n a (cond c (Some (look xs).place) None) xs
    by true = refl
    by false = refl

  asks_same_token : (n : Bool) (a : Sized RawExpr) (ts : L) → t.conditional d turns outer n a ts ≡ asking_token n a (questions (look_token ts)) ts
  unfolding r.conditional asking_token
  asks_same_token n a ts = by (is_mark mark.Question (look_token ts).kind) where
    by : (c : Bool) → cond c (asking_token n a (Some (look_token ts).place)) (asking_token n a None) ts ≡ asking_token n a (cond c (Some (look_token ts).place) None) ts
    by true = refl
    by false = refl

  asking_copy : (n : Bool) (a : Sized RawExpr) (ts : L) (v : Option Place) → Chosen true Quiet questions v (asking n a v) (asking n a None) (asking_token n a v) ts
  unfolding asking asking_token
  asking_copy n a ts None = by_none refl (copies_pure true a ts)
  asking_copy n a ts (Some p) = by_taking (λ e. cc) (λ w us _. deeper a.1 d _
      (λ _. goes (copies_after _ _ quiet (started (alike.expr true 1 us)) (λ x vs. copies_after _ _ quiet (started (expects true mark.Colon vs)) (λ _ os. copies_after _ _ quiet (started (alike.expr n 1 os)) (λ y ws. copies_pure true _ ws))))))

  pub conditional_copy : (n : Bool) (a : Sized RawExpr) (ts : L) → Copies true Quiet (s.conditional d turns inner n a) ts (t.conditional d turns outer n a ts)
  conditional_copy n a ts = subst (λ o. Copies true Quiet (s.conditional d turns inner n a) ts o) (sym (asks_same_token n a ts))
      (same_copies (s.conditional d turns inner n a) quiet (decide questions (asking n a) (asking_token n a) ts quiet (λ v _. asking_copy n a ts v)) (λ xs _. asks_same n a xs))

  assigning : Bool → Sized RawExpr → Option (Option BinOp × RawTarget) → s.Reader (Sized RawExpr)
  assigning n a None = s.assign_by d turns inner n a None None
  assigning n a (Some p) = s.assign_by d turns inner n a (Some p.0) (Some p.1)

  assigning_token : Bool → Sized RawExpr → Option (Option BinOp × RawTarget) → t.Reader (Sized RawExpr)
  assigning_token n a None = t.assign_by d turns outer n a None None
  assigning_token n a (Some p) = t.assign_by d turns outer n a (Some p.0) (Some p.1)

  assigns_same : (n : Bool) (a : Sized RawExpr) (o : Option (Option BinOp)) (g : Option RawTarget) (xs : Symbols) → s.assign_by d turns inner n a o g xs ≡ assigning n a (assigns o g) xs
  unfolding assigning
  assigns_same n a (Some o) (Some g) xs = refl
  assigns_same n a (Some o) None xs = refl
  assigns_same n a None g xs = refl

  assigns_same_token : (n : Bool) (a : Sized RawExpr) (o : Option (Option BinOp)) (g : Option RawTarget) (ts : L) → t.assign_by d turns outer n a o g ts ≡ assigning_token n a (assigns o g) ts
  unfolding assigning_token
  assigns_same_token n a (Some o) (Some g) ts = refl
  assigns_same_token n a (Some o) None ts = refl
  assigns_same_token n a None g ts = refl

  assigning_copy : (n : Bool) (a : Sized RawExpr) (g : Option RawTarget) (ts : L) (v : Option (Option BinOp × RawTarget)) → Chosen true Quiet (λ w. assigns (assign_of w.kind) g) v (assigning n a v) (assigning n a None) (assigning_token n a v) ts
  unfolding assigning assigning_token
  assigning_copy n a g ts None = by_none refl (copies_pure true a ts)
  assigning_copy n a g ts (Some p) = by_taking (λ e. cc) (λ w us _. deeper a.1 d _ (λ _. goes (copies_after _ _ quiet (started (alike.expr n 1 us)) (λ b vs. copies_pure true _ vs))))

  pub assign_copy : (n : Bool) (a : Sized RawExpr) (ts : L) → Copies true Quiet (s.assign d turns inner n a) ts (t.assign d turns outer n a ts)
  unfolding r.assign
  assign_copy n a ts = subst (λ o. Copies true Quiet (s.assign d turns inner n a) ts o) (sym (assigns_same_token n a (assign_of (look_token ts).kind) (target_of a.0) ts))
      (same_copies (s.assign d turns inner n a) quiet (decide (λ w. assigns (assign_of w.kind) (target_of a.0)) (assigning n a) (assigning_token n a) ts quiet (λ v _. assigning_copy n a (target_of a.0) ts v))
      (λ xs _. assigns_same n a (assign_of (look xs).kind) (target_of a.0) xs))

  comma_copy : (n : Bool) (a : Sized RawExpr) (again : Sized RawExpr → s.Reader (Sized RawExpr)) (onward : Sized RawExpr → t.Reader (Sized RawExpr)) (ts : L)
      → ((b : Sized RawExpr) (us : L) → Copies true Quiet (again b) us (onward b us))
      → (v : Bool) → Chosen true Quiet (λ w. is_mark mark.Comma w.kind) v (s.comma_by d turns inner again n a v) (s.comma_by d turns inner again n a false) (t.comma_by d turns outer onward n a v) ts
  comma_copy n a again onward ts f false = by_none refl (copies_pure true a ts)
  comma_copy n a again onward ts f true = by_taking absent (λ w us _. deeper a.1 d _ (λ _. goes (copies_after _ _ quiet (started (alike.expr n 1 us)) (λ b vs. f _ vs))))

  pub commas_copy : (n : Bool) (m : ℕ) (a : Sized RawExpr) (ts : L) → Copies true Quiet (s.commas d turns inner n m a) ts (t.commas d turns outer n m a ts)
  unfolding r.commas
  commas_copy n zero a ts = decide (λ w. is_mark mark.Comma w.kind) (s.comma_by d turns inner (λ _. r.stops Symbols look rest r.semicolon_symbol r.depth) n a) (t.comma_by d turns outer (λ _. r.stops L look_token rest_tokens r.semicolon_token r.depth) n a) ts quiet
      (λ v _. comma_copy n a _ _ ts (λ b us. started (stops_here true r.depth refl us)) v)
  commas_copy n (suc m) a ts = decide (λ w. is_mark mark.Comma w.kind) (s.comma_by d turns inner (s.commas d turns inner n m) n a) (t.comma_by d turns outer (t.commas d turns outer n m) n a) ts quiet
      (λ v _. comma_copy n a _ _ ts (λ b us. commas_copy n m b us) v)

  pub after_unary_copy : (n : Bool) (l : ℕ) (a : Sized RawExpr) (ts : L) → Copies true Quiet (s.after_unary d turns inner n l a) ts (t.after_unary d turns outer n l a ts)
  unfolding r.after_unary
  after_unary_copy n l a ts = copies_after _ _ quiet (climb_copy n l (suc d) a ts) (λ x us.
      copies_after _ _ quiet (split_copies (nat_lt l 3) _ _ _ _ (λ _. conditional_copy n x us) (λ _. copies_pure true x us)) (λ y vs.
      copies_after _ _ quiet (split_copies (nat_lt l 2) _ _ _ _ (λ _. assign_copy n y vs) (λ _. copies_pure true y vs)) (λ z os.
      split_copies (l == 0) _ _ _ _ (λ _. commas_copy n (suc d) z os) (λ _. copies_pure true z os))))

  pub after_head_copy : (n : Bool) (l : ℕ) (a : Sized RawExpr) (ts : L) → Copies true Quiet (s.after_head d turns inner n l a) ts (t.after_head d turns outer n l a ts)
  unfolding r.after_head
  after_head_copy n l a ts = copies_after _ _ quiet (suffixes_copy d turns inner outer alike bars some true (suc d) a ts) (λ x us. copies_after _ _ quiet (postfix_copy x us) (λ y vs. after_unary_copy n l y vs))

  expr_by_copy : (n : Bool) (l : ℕ) (o : Option Prefix) (w : Lexeme) (us : L) → Head true true Quiet (λ xs. s.expr_by d turns inner n l o (real w ∷ xs)) w us (t.expr_by d turns outer n l o (w ∷ us))
  expr_by_copy n l None w us = goes_after _ _ quiet (head_of_start (primary_copy d turns inner outer alike bars some n (w ∷ us))) (λ a vs. after_head_copy n l a vs)
  expr_by_copy n l (Some o) w us = goes_after _ _ quiet (prefixed_copy n o w us) (λ a vs. after_unary_copy n l a vs)

  pub expr_bar : (n : Bool) (l : ℕ) → Bars (s.expr_of d turns inner n l)
  unfolding r.expr_of
  expr_bar n l xs = by (l == 17) where
    head : Shut (s.primary d turns inner n (inserted ∷ xs)) xs
    head = primary_bar d turns inner outer alike bars some n xs

    by : (c : Bool) → Shut (cond {A = s.Reader (Sized RawExpr)} c (λ i. and_then (s.primary d turns inner n i) (s.suffixes d turns inner false (suc d))) (λ i. s.expr_by d turns inner n l (prefix_of (look i).kind) i) (inserted ∷ xs)) xs
    by true = shut_after _ head
    by false = shut_after _ head

  pub expr_copy : (n : Bool) (l : ℕ) (ts : L) → Starts true Quiet (s.expr_of d turns inner n l) ts (t.expr_of d turns outer n l ts)
  unfolding r.expr_of
  expr_copy n l [] = by (l == 17) where
    by : (c : Bool) → Starts true Quiet (cond {A = s.Reader (Sized RawExpr)} c (λ i. and_then (s.primary d turns inner n i) (s.suffixes d turns inner false (suc d))) (λ i. s.expr_by d turns inner n l (prefix_of (look i).kind) i)) []
        (cond {A = t.Reader (Sized RawExpr)} c (λ i. and_then (t.primary d turns outer n i) (t.suffixes d turns outer false (suc d))) (λ i. t.expr_by d turns outer n l (prefix_of (look_token i).kind) i) [])
    by true = starts_after _ _ quiet (primary_copy d turns inner outer alike bars some n []) (λ a us. suffixes_copy d turns inner outer alike bars some false (suc d) a us)
    by false = at_end _ (starts_after _ _ quiet (primary_copy d turns inner outer alike bars some n []) (λ a us. after_head_copy n l a us)) refl
  expr_copy n l (w ∷ us) = starts (split (l == 17) _ _ _ _
      (λ _. goes_after _ _ quiet (head_of_start (primary_copy d turns inner outer alike bars some n (w ∷ us))) (λ a vs. suffixes_copy d turns inner outer alike bars some false (suc d) a vs))
      (λ _. expr_by_copy n l (prefix_of w.kind) w us)) (expr_bar n l)

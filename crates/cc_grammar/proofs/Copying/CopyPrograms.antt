-- The readers of symbols and of tokens go alike, at every depth.
use Rattle.std.specs.Prelude.{◌≡◌, ℕ, zero, suc, ◌<◌, true, false, nat_lt, [], ◌∷◌, map, Err}
use Rattle.std.proofs.Common.{refl, ap, arith}
use Rattle.cc_grammar.specs.Symbols.{Lexeme, real}
use Rattle.cc_grammar.specs.Grammar.{Context, of_program}
use Rattle.cc_grammar.specs.Reading.{Outcome, Sized, Start, start_of, look_token, read_symbols, read_tokens}
use Rattle.cc_grammar.specs.Reading as r
use Rattle.cc_grammar.proofs.Marked.{In}
use Rattle.cc_grammar.proofs.Soundness.SoundParts.{SoundInner, nothing_inside}
use Rattle.cc_grammar.proofs.Soundness.Sound.{reader_sound}
use Rattle.cc_grammar.proofs.Copying.Copies.{L, Bars, Copies, Quiet, Head, goes, halts, Starts, starts, stop, end, clash, look_real}
use Rattle.cc_grammar.proofs.Copying.CopySteps.{quiet, copies_then, starts_after, copies_pure, split, deeper, at_end, head_of_start, stops_here, expects_end}
use Rattle.cc_grammar.proofs.Copying.CopyLists.{CopyInner, BarsInner, list_copy}
use Rattle.cc_grammar.proofs.Copying.CopyExpressions.{expr_bar, expr_copy}
use Rattle.cc_grammar.proofs.Copying.CopyStatements.{block_copy, choice_copy, do_while_copy, while_copy, for_copy}
use Rattle.cc_grammar.proofs.Copying.CopyJumps.{switch_copy, continue_copy, break_copy, return_copy, throw_copy, plain_bar, plain_copy, begins_with_name_copy, try_copy, declaration_copy, vars_copy}
use Rattle.cc_grammar.proofs.OnSymbols as s
use Rattle.cc_grammar.proofs.OnTokens as t

module _ (d turns : ℕ) (inner : In) (outer : t.In) (alike : CopyInner inner outer) (bars : nat_lt 0 d ≡ true → BarsInner inner) (some : 0 < turns) (sound : SoundInner d inner) where
  stmt_by_copy : (c : Context) (v : Start) (w : Lexeme) (us : L) → Head true false Quiet (λ xs. s.stmt_by d turns inner c v (real w ∷ xs)) w us (t.stmt_by d turns outer c v (w ∷ us))
  stmt_by_copy c r.is_block w us = deeper 0 d _ (λ lt. block_copy d turns inner outer alike (bars lt) some c w us)
  stmt_by_copy c r.is_vars w us = vars_copy d turns inner outer alike bars some sound w us
  stmt_by_copy c r.is_empty w us = goes (copies_pure false _ us)
  stmt_by_copy c r.is_if w us = deeper 0 d _ (λ lt. choice_copy d turns inner outer alike (bars lt) some c w us)
  stmt_by_copy c r.is_do w us = deeper 0 d _ (λ lt. do_while_copy d turns inner outer alike (bars lt) some c w us)
  stmt_by_copy c r.is_while w us = deeper 0 d _ (λ lt. while_copy d turns inner outer alike (bars lt) some c w us)
  stmt_by_copy c r.is_for w us = deeper 0 d _ (λ lt. for_copy d turns inner outer alike (bars lt) some c w us)
  stmt_by_copy c r.is_continue w us = continue_copy d turns inner outer alike bars some sound c w us
  stmt_by_copy c r.is_break w us = break_copy d turns inner outer alike bars some sound c w us
  stmt_by_copy c r.is_return w us = return_copy d turns inner outer alike bars some sound c w us
  stmt_by_copy c r.is_switch w us = deeper 0 d _ (λ lt. switch_copy d turns inner outer alike bars some sound c w us lt)
  stmt_by_copy c r.is_throw w us = throw_copy d turns inner outer alike bars some sound c w us
  stmt_by_copy c r.is_try w us = deeper 1 d _ (λ _. try_copy d turns inner outer alike bars some sound c w us)
  stmt_by_copy c r.is_declaration w us = split c.declares _ _ _ _ (λ _. deeper 0 d _ (λ lt. declaration_copy d turns inner outer alike bars some sound w us lt)) (λ _. halts refl tt)
  stmt_by_copy c r.is_any w us = goes (copies_pure false _ us)
  stmt_by_copy c (r.is_name n) w us = begins_with_name_copy d turns inner outer alike bars some sound c n w us
  stmt_by_copy c r.is_plain w us = head_of_start (plain_copy d turns inner outer alike bars some sound (w ∷ us))

  pub stmt_bar : (c : Context) → Bars (s.stmt_of d turns inner c)
  unfolding r.stmt_of
  stmt_bar c xs = plain_bar d turns inner outer alike bars some sound xs

  stmt_copy : (c : Context) (ts : L) → Starts false Quiet (s.stmt_of d turns inner c) ts (t.stmt_of d turns outer c ts)
  unfolding r.stmt_of
  stmt_copy c [] = at_end _ (plain_copy d turns inner outer alike bars some sound []) refl
  stmt_copy c (w ∷ us) = starts (stmt_by_copy c (start_of w.kind) w us) (stmt_bar c)

  pub more_copy : CopyInner (record { expr = s.expr_of d turns inner; stmt = s.stmt_of d turns inner }) (record { expr = t.expr_of d turns outer; stmt = t.stmt_of d turns outer })
  more_copy = record { expr = λ n l ts. expr_copy d turns inner outer alike bars some sound n l ts; stmt = λ c ts. stmt_copy c ts }

  pub more_bars : BarsInner (record { expr = s.expr_of d turns inner; stmt = s.stmt_of d turns inner })
  more_bars = record { expr = λ n l. expr_bar d turns inner outer alike bars some sound n l; stmt = λ c. stmt_bar c }

none_copy : CopyInner s.no_depth t.no_depth
none_copy = record { expr = λ n l ts. stops_here true r.depth refl ts; stmt = λ c ts. stops_here false r.depth refl ts }

no_bars : nat_lt 0 0 ≡ true → BarsInner s.no_depth
no_bars e = absurd (cc)

pub record CopyReader (inner : In) (outer : t.In) : Type 0 where
  pub copy : CopyInner inner outer
  pub bars : BarsInner inner

pub reader_copy : (turns d : ℕ) → 0 < turns → CopyReader (s.reader turns d) (t.reader turns d)
unfolding r.reader
reader_copy turns zero lt = record { copy = more_copy 0 turns s.no_depth t.no_depth none_copy no_bars lt nothing_inside; bars = more_bars 0 turns s.no_depth t.no_depth none_copy no_bars lt nothing_inside }
reader_copy turns (suc d) lt = let p = reader_copy turns d lt in record {
  copy = more_copy (suc d) turns (s.reader turns d) (t.reader turns d) p.copy (λ _. p.bars) lt (reader_sound turns d);
  bars = more_bars (suc d) turns (s.reader turns d) (t.reader turns d) p.copy (λ _. p.bars) lt (reader_sound turns d);
}

-- What the reader of tokens does, the reader of symbols does.
pub program_copy : (turns d : ℕ) (ts : L) → Copies false Quiet (read_symbols turns d) ts (read_tokens turns d ts)
unfolding read_symbols read_tokens r.program r.list
program_copy zero d ts = stop end (ap (λ w. Err (record { cause = r.spent; place = w.place }, map real ts)) (look_real ts)) tt tt (λ n o. absurd (clash (record { cause = r.spent; place = (look_token ts).place }) refl n))
program_copy (suc m) d ts = let p = reader_copy (suc m) d (omega arith) in
    copies_then _ _ quiet (list_copy (suc d) (suc m) (s.reader (suc m) d) (t.reader (suc m) d) p.copy p.bars (omega arith) of_program (suc m) [] 0 ts) (λ b us. starts_after _ _ quiet (expects_end us) (λ _ vs. copies_pure false b vs))

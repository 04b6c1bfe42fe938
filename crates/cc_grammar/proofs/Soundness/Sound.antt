-- What is read of a list of symbols is derived, at every depth.
use Rattle.std.specs.Prelude.{◌≡◌, ℕ, zero, suc, ◌≤◌, Bool, true, false, nat_lt, List, [], Ok}
use Rattle.std.proofs.Common.{refl, ap, subst, ◌∙◌, arith, ltb-true}
use Rattle.cc_grammar.specs.Symbols.{Kind, Symbols, look, rest}
use Rattle.cc_grammar.specs.Symbols as k
use Rattle.cc_grammar.specs.RawTree.{RawExpr, RawStmt}
use Rattle.cc_grammar.specs.Grammar as g
use Rattle.cc_grammar.specs.Grammar.{Context, At, T, Body, of_program}
use Rattle.cc_grammar.specs.Reading.{Outcome, Sized, Start, semicolon_symbol, start_of, read_symbols}
use Rattle.cc_grammar.specs.Reading as r
use Rattle.cc_grammar.proofs.Meets.{Done, ok, err, after, branch, fork, weaken}
use Rattle.cc_grammar.proofs.Views.{IsStart, start_is}
use Rattle.cc_grammar.proofs.Views as view
use Rattle.cc_grammar.proofs.Marked.{In, consumed, ended, expected_end}
use Rattle.cc_grammar.proofs.Soundness.SoundParts.{Derived, Told, SoundInner, nothing_inside, whole_list}
use Rattle.cc_grammar.proofs.Soundness.SoundLists.{list_sound}
use Rattle.cc_grammar.proofs.Soundness.SoundPrimary.{callee_sound}
use Rattle.cc_grammar.proofs.Soundness.SoundExpressions.{expr_sound}
use Rattle.cc_grammar.proofs.Soundness.SoundStatements.{choice_sound, do_while_sound, while_sound, for_sound}
use Rattle.cc_grammar.proofs.Soundness.SoundJumps.{switch_sound, continue_sound, break_sound, return_sound, throw_sound, begins_with_name_sound, try_sound, declaration_sound, vars_sound, block_sound}

module _ (d turns : ℕ) (inner : In) (sound : SoundInner d inner) where
  plain_sound : (c : Context) (xs : Symbols) → g.opens_no_expression (look xs).kind ≡ false → Done (λ b ys. Told d c xs b ys) (r.plain Symbols look rest semicolon_symbol d turns inner xs)
  unfolding r.plain
  plain_sound c xs e = after (expr_sound d turns inner sound true 0 xs (omega arith)) (λ x ys p. after (ended ys) (λ _ zs q. ok (record { tree = g.simple e p.whole.tree q; low = p.whole.low })))

  stmt_by_sound : (c : Context) (xs : Symbols) (x : Kind) (s : Start) → (look xs).kind ≡ x → IsStart x s → Done (λ b ys. Told d c xs b ys) (r.stmt_by Symbols look rest semicolon_symbol d turns inner c s xs)
  stmt_by_sound c xs x s e view.block = branch (nat_lt 0 d) (λ lt. block_sound d turns inner sound c xs e (ltb-true _ _ lt)) (λ _. err)
  stmt_by_sound c xs x s e view.empty = ok (record { tree = g.empty (consumed xs _ refl e); low = omega arith })
  stmt_by_sound c xs x s e view.vars = vars_sound d turns inner sound c xs e
  stmt_by_sound c xs x s e view.if = branch (nat_lt 0 d) (λ _. choice_sound d turns inner sound c xs e) (λ _. err)
  stmt_by_sound c xs x s e view.do_while = branch (nat_lt 0 d) (λ _. do_while_sound d turns inner sound c xs e) (λ _. err)
  stmt_by_sound c xs x s e view.while = branch (nat_lt 0 d) (λ _. while_sound d turns inner sound c xs e) (λ _. err)
  stmt_by_sound c xs x s e view.for = branch (nat_lt 0 d) (λ lt. for_sound d turns inner sound c xs e (ltb-true _ _ lt)) (λ _. err)
  stmt_by_sound c xs x s e view.continue = continue_sound d turns inner sound c xs e
  stmt_by_sound c xs x s e view.break = break_sound d turns inner sound c xs e
  stmt_by_sound c xs x s e view.return = return_sound d turns inner sound c xs e
  stmt_by_sound c xs x s e view.switch = branch (nat_lt 0 d) (λ lt. switch_sound d turns inner sound c xs e (ltb-true _ _ lt)) (λ _. err)
  stmt_by_sound c xs x s e view.throw = throw_sound d turns inner sound c xs e
  stmt_by_sound c xs x s e view.try = branch (nat_lt 1 d) (λ _. try_sound d turns inner sound c xs e) (λ _. err)
  stmt_by_sound c xs x s e view.declaration = fork c.declares _ _ (λ a. branch (nat_lt 0 d) (λ lt. declaration_sound d turns inner sound c xs a e (ltb-true _ _ lt)) (λ _. err)) (λ _. err)
  stmt_by_sound c xs x s e view.any_statement = ok (record { tree = g.any_statement (consumed xs _ refl e); low = omega arith })
  stmt_by_sound c xs x s e (view.name {n}) = begins_with_name_sound d turns inner sound c n xs e
  stmt_by_sound c xs x s e (view.plain f) = plain_sound c xs (ap g.opens_no_expression e ∙ f)

  pub stmt_sound : (c : Context) (xs : Symbols) → Done (λ b ys. Told d c xs b ys) (r.stmt_of Symbols look rest semicolon_symbol d turns inner c xs)
  unfolding r.stmt_of
  stmt_sound c xs = stmt_by_sound c xs (look xs).kind (start_of (look xs).kind) refl (start_is (look xs).kind)

deep : {d l : ℕ} {n : Bool} {xs ys : Symbols} {a : Sized RawExpr} → Derived d n l xs a ys → Derived (suc d) n l xs a ys
deep h = record { tree = h.tree; low = omega (arith, h.low) }

-- one depth further
one_more : (d turns : ℕ) (inner : In) (sound : SoundInner d inner)
    → SoundInner (suc d) (record { expr = r.expr_of Symbols look rest semicolon_symbol d turns inner; stmt = r.stmt_of Symbols look rest semicolon_symbol d turns inner })
one_more d turns inner sound = record {
  expr = λ n l xs b. weaken (expr_sound d turns inner sound n l xs b) (λ a ys p. (record { whole = deep p.whole; stopped = p.stopped }, omega (arith, p.whole.low)));
  callee = λ n xs. weaken (callee_sound d turns inner sound n xs) (λ a ys p. (record { whole = deep p.whole; member = p.member; stopped = p.stopped }, omega (arith, p.whole.low)));
  stmt = λ c xs. weaken (stmt_sound d turns inner sound c xs) (λ b ys p. (record { tree = p.tree; low = omega (arith, p.low) }, omega (arith, p.low)));
}

pub reader_sound : (turns d : ℕ) → SoundInner (suc d) (r.reader Symbols look rest semicolon_symbol turns d)
unfolding r.reader
reader_sound turns zero = one_more 0 turns (r.no_depth Symbols look rest semicolon_symbol) nothing_inside
reader_sound turns (suc d) = one_more (suc d) turns (r.reader Symbols look rest semicolon_symbol turns d) (reader_sound turns d)

-- a program up to its end
pub record Ended (d : ℕ) (xs : Symbols) (b : Sized (List RawStmt)) (ys : Symbols) : Type 0 where
  pub last : Symbols
  pub body : Body of_program b.1 xs b.0 last
  pub ends : At k.end last ys
  pub low : b.1 ≤ d

pub symbols_sound : (turns d : ℕ) (xs : Symbols) → Done (λ b ys. Ended d xs b ys) (read_symbols turns d xs)
unfolding read_symbols r.program
symbols_sound turns d xs = after (list_sound (suc d) turns (r.reader Symbols look rest semicolon_symbol turns d) (reader_sound turns d) of_program turns [] 0 xs (omega arith)) (λ b ys p.
    after (expected_end ys) (λ _ zs q. ok (record { last = ys; body = whole_list p.0; ends = q; low = omega (arith, p.0.low) })))

pub ended_at : (d : ℕ) (xs : Symbols) (b : Sized (List RawStmt)) (ys : Symbols) (o : Outcome Symbols (Sized (List RawStmt))) → Done (λ b ys. Ended d xs b ys) o → o ≡ Ok (b, ys) → Ended d xs b ys
ended_at d xs b ys o (ok {a} {i} p) e =
    let pairs : ◌≡◌ {A = Sized (List RawStmt) × Symbols} (a, i) (b, ys) = cc in
    subst (λ (q : Sized (List RawStmt) × Symbols). Ended d xs q.0 q.1) pairs p
ended_at d xs b ys o err e = absurd (cc)

-- Where reading a list of symbols stops, what came before is a front of a program.
use Rattle.std.specs.Prelude.{◌≡◌, ℕ, zero, suc, ◌<◌, true, false, cond, nat_lt, List, [], ◌∷◌, ◌++◌, map, Err, ◌⊎◌}
use Rattle.std.proofs.Common.{refl, sym, ap, arith, ◌∙◌, subst, append_assoc, inl, inr}
use Rattle.cc_lexer.specs.declared.token.Mark.TheVariants as mark
use Rattle.cc_lexer.specs.declared.word.Word.TheVariants as word
use Rattle.cc_grammar.specs.Symbols.{Kind, Symbol, Symbols, real, inserted, look, rest, is_mark}
use Rattle.cc_grammar.specs.Symbols as k
use Rattle.cc_grammar.specs.RawTree.{RawStmt}
use Rattle.cc_grammar.specs.Grammar as g
use Rattle.cc_grammar.specs.Grammar.{Context, of_program, At, T, Body, is_tail, opens_no_expression}
use Rattle.cc_grammar.specs.Laws.{is_last}
use Rattle.cc_grammar.specs.Fronts.{Derives, IsFrontWithin, is_end}
use Rattle.cc_grammar.specs.Faults.{any}
use Rattle.cc_grammar.specs.Reading.{Outcome, Sized, Fault, Start, and_then, start_of, read_symbols, refused, depth}
use Rattle.cc_grammar.specs.Reading as r
use Rattle.cc_grammar.proofs.Marked.{In, consumed, expected_end}
use Rattle.cc_grammar.proofs.Views.{IsStart, start_is}
use Rattle.cc_grammar.proofs.Views as view
use Rattle.cc_grammar.proofs.Shrinks.{reals, at_less}
use Rattle.cc_grammar.proofs.Steps.{kind_at}
use Rattle.cc_grammar.proofs.Soundness.SoundParts.{SoundInner, nothing_inside, whole_list}
use Rattle.cc_grammar.proofs.Soundness.SoundLists.{list_sound, body_sound}
use Rattle.cc_grammar.proofs.Soundness.Sound.{reader_sound}
use Rattle.cc_grammar.proofs.Moves.{Front, stays, joined}
use Rattle.cc_grammar.proofs.Moves as moves
use Rattle.cc_grammar.proofs.MovesDerived.{body_moves}
use Rattle.cc_grammar.proofs.Copying.Paired.{Paired, body_ready}
use Rattle.cc_grammar.proofs.Fails.{token, new_at, taken, again, same, Spot, here, due, left, put, Begun, TT, no_t, Fails, fine, stop, by_statement, t_due, may_raise, raises, anew, fails_after, fails_map, fails_fork, fails_choice, fails_here, deeper_fails, XX, FailsInner}
use Rattle.cc_grammar.proofs.Fronts.FrontsLists.{BB, CC, no_body, body_fails, statements_fail, no_function}
use Rattle.cc_grammar.proofs.Fronts.FrontsPrimary.{callee_fails}
use Rattle.cc_grammar.proofs.Fronts.FrontsExpressions.{expr_fails}
use Rattle.cc_grammar.proofs.Fronts.FrontsClauses.{no_head, no_block}
use Rattle.cc_grammar.proofs.Fronts.FrontsStatements.{plain_fails, vars_fail, block_fails, block_begun, declaration_fails, declare_word, choice_fails, condition_begun, while_fails, loop_begun, do_while_fails, do_begun, for_fails, for_open, switch_fails, switch_begun}
use Rattle.cc_grammar.proofs.Fronts.FrontsJumps.{continue_fails, break_fails, return_fails, throw_fails, name_fails, try_fails, try_begun}
use Rattle.cc_grammar.proofs.OnSymbols as s

module _ (d n : ℕ) (inner : In) (sound : SoundInner d inner) (all : FailsInner d n inner) where
  abbrev PT : Context → Symbols → ℕ → Spot → Type 0
  PT c xs j i = Begun (TT c j) xs i

  -- a statement that is deeper by 1, at its first token
  begins : (c : Context) (xs : Symbols) {x : Kind} {h : ℕ} {o : Outcome Symbols (Sized (List RawStmt))} → At x xs (rest xs) → may_raise x ≡ true → (h < d → Fails (suc d) (PT c xs) o) → (u : ℕ) → PT c xs u (here (rest xs))
      → Fails (suc d) (PT c xs) (cond (nat_lt h d) o (Err (record { cause = depth; place = (look xs).place }, xs)))
  begins c xs o r f u w = deeper_fails o (raises r) f 0 (omega arith) (no_t xs c 0) u w

  stmt_by_fails : (c : Context) (xs : Symbols) (x : Kind) (v : Start) → reals xs < n → (look xs).kind ≡ x → IsStart x v → Fails (suc d) (PT c xs) (s.stmt_by d n inner c v xs)
  stmt_by_fails c xs x v ln e view.block = let o = consumed xs (k.mark mark.OpenBrace) refl e in begins c xs {h = 0} o refl (λ lt. block_fails d n inner sound all c xs o lt ln) 1 (block_begun d n inner sound all c 0 o (Rattle.cc_grammar.proofs.Fronts.FrontsLists.no_body (rest xs) (g.inside c) 0))
  stmt_by_fails c xs x v ln e view.empty = fine
  stmt_by_fails c xs x v ln e view.vars = vars_fail d n inner sound all c xs ln e
  stmt_by_fails c xs x v ln e view.if = let o = consumed xs (k.word word.If) refl e in begins c xs {h = 0} o refl (λ lt. choice_fails d n inner sound all c xs o lt ln) _ (condition_begun d n inner sound all c 0 o (no_head (rest xs) 0))
  stmt_by_fails c xs x v ln e view.do_while = let o = consumed xs (k.word word.Do) refl e in begins c xs {h = 0} o refl (λ lt. do_while_fails d n inner sound all c xs o lt ln) _ (do_begun d n inner sound all c 0 o (no_t (rest xs) (g.in_loop c) 0))
  stmt_by_fails c xs x v ln e view.while = let o = consumed xs (k.word word.While) refl e in begins c xs {h = 0} o refl (λ lt. while_fails d n inner sound all c xs o lt ln) _ (loop_begun d n inner sound all c 0 o (no_head (rest xs) 0))
  stmt_by_fails c xs x v ln e view.for = let o = consumed xs (k.word word.For) refl e in begins c xs {h = 0} o refl (λ lt. for_fails d n inner sound all c xs o lt ln) 1 (for_open d n inner sound all c o)
  stmt_by_fails c xs x v ln e view.continue = continue_fails d n inner sound all c xs e
  stmt_by_fails c xs x v ln e view.break = break_fails d n inner sound all c xs e
  stmt_by_fails c xs x v ln e view.return = return_fails d n inner sound all c xs ln e
  stmt_by_fails c xs x v ln e view.switch = let o = consumed xs (k.word word.Switch) refl e in begins c xs {h = 0} o refl (λ lt. switch_fails d n inner sound all c xs o lt ln) _ (switch_begun d n inner sound all c 0 o (no_head (rest xs) 0))
  stmt_by_fails c xs x v ln e view.throw = throw_fails d n inner sound all c xs ln e
  stmt_by_fails c xs x v ln e view.try = let o = consumed xs (k.word word.Try) refl e in begins c xs {h = 1} o refl (λ lt. try_fails d n inner sound all c xs o lt ln) _ (try_begun d n inner sound all c 1 o (no_block (rest xs) (g.inside c) 1 (omega arith)))
  stmt_by_fails c xs x v ln e view.declaration = let o = consumed xs (k.word word.Function) refl e in fails_fork c.declares _ _
      (λ a. begins c xs {h = 0} o refl (λ lt. declaration_fails d n inner sound all c xs a o lt ln) 1 (declare_word d n inner sound all c a o)) (λ _. stop refl (λ w. cc) 0 (omega arith) (by_statement refl e 0 (t_due xs c 0)) (no_t xs c 0))
  stmt_by_fails c xs x v ln e view.any_statement = fine
  stmt_by_fails c xs x v ln e (view.name {n = w}) = name_fails d n inner sound all c w xs ln e
  stmt_by_fails c xs x v ln e (view.plain f) = plain_fails d n inner sound all c xs ln (ap opens_no_expression e ∙ f)

  pub stmt_fails : (c : Context) (xs : Symbols) → reals xs < n → Fails (suc d) (PT c xs) (s.stmt_of d n inner c xs)
  unfolding r.stmt_of
  stmt_fails c xs ln = stmt_by_fails c xs (look xs).kind (start_of (look xs).kind) ln refl (start_is (look xs).kind)

-- a block, as such
block_word : (c : Context) (j : ℕ) {xs ys : Symbols} {i : Spot} → At (k.mark mark.OpenBrace) xs ys → Begun (CC (g.inside c) j) ys i → Begun (XX c (suc j)) xs i
block_word c j o w = record { front = joined (taken o) w.front; more = w.more; tree = w.tree; holds = λ zs f. record { begins = kind_at o; tree = g.block (omega arith) (again o _) (w.holds zs).body (w.holds zs).close }; first = λ zs. same refl }

open_block : (d n : ℕ) (inner : In) (c : Context) (xs : Symbols) → (look xs).kind ≡ k.mark mark.OpenBrace → s.stmt_of d n inner c xs ≡ cond (nat_lt 0 d) (s.block d n inner c xs) (Err (record { cause = depth; place = (look xs).place }, xs))
unfolding r.stmt_of
open_block d n inner c xs e = ap (λ v. s.stmt_by d n inner c v xs) (ap start_of e)

block_fails_there : (d n : ℕ) (inner : In) (sound : SoundInner d inner) (all : FailsInner d n inner) (c : Context) (xs : Symbols) → reals xs < n → 0 < d → (look xs).kind ≡ k.mark mark.OpenBrace → Fails (suc d) (λ j i. Begun (XX c j) xs i) (s.stmt_of d n inner c xs)
unfolding r.block
block_fails_there d n inner sound all c xs ln lt e = let o = consumed xs (k.mark mark.OpenBrace) refl e in
    subst (λ (u : Outcome Symbols (Sized (List RawStmt))). Fails (suc d) (λ j i. Begun (XX c j) xs i) u) (sym (open_block d n inner c xs e))
    (deeper_fails {h = 0} o (raises refl) (λ l. fails_after (body_sound d n inner sound (g.inside c) (rest xs) l) (fails_map suc (λ j l. omega arith) (λ j i w. block_word c j o w) (body_fails d n inner sound all (g.inside c) (rest xs) l (omega (arith, at_less o)))) (λ b ys p. fine))
    1 (omega arith) (no_block xs c 1 (omega arith)) 1 (block_word c 0 o (no_body (rest xs) (g.inside c) 0)))

one_more : (d n : ℕ) (inner : In) (sound : SoundInner d inner) (all : FailsInner d n inner) → FailsInner (suc d) n (record { expr = s.expr_of d n inner; stmt = s.stmt_of d n inner })
one_more d n inner sound all = record {
  expr = λ lt b l xs ln ll. expr_fails d n inner sound all b l xs ln ll;
  callee = λ lt b xs ln. callee_fails d n inner sound all b xs ln;
  stmt = λ lt c xs ln. stmt_fails d n inner sound all c xs ln;
  block = λ lt c xs ln e. block_fails_there d n inner sound all c xs ln (omega arith) e;
}

none_fails : (n : ℕ) → FailsInner 0 n s.no_depth
none_fails n = record { expr = λ lt b l xs ln ll. absurd (omega arith); callee = λ lt b xs ln. absurd (omega arith); stmt = λ lt c xs ln. absurd (omega arith); block = λ lt c xs ln e. absurd (omega arith) }

pub reader_fails : (n d : ℕ) → FailsInner (suc d) n (s.reader n d)
unfolding r.reader
reader_fails n zero = one_more 0 n s.no_depth nothing_inside (none_fails n)
reader_fails n (suc d) = one_more (suc d) n (s.reader n d) (reader_sound n d) (reader_fails n d)

-- ---- programs

-- no token of it is the last of a text
abbrev pub Open : Symbols → Type 0
Open [] = Unit {0}
Open (real t ∷ xs) = (is_last t.kind ≡ false) × Open xs
Open (inserted ∷ xs) = Open xs

open_part : (a b : Symbols) → Open (a ++ b) → Open a
open_part [] b h = tt
open_part (real t ∷ a) b h = (h.0, open_part a b h.1)
open_part (inserted ∷ a) b h = open_part a b h

abbrev brace : Symbols
brace = real (token (k.mark mark.CloseBrace)) ∷ []

never_nothing : (a : Symbols) → a ++ brace ≡ [] → ⊥
never_nothing [] e = cc
never_nothing (m ∷ a) e = cc

paired_open : (a : Symbols) → Paired (a ++ brace) → Open (a ++ brace)
paired_open [] h = (refl, tt)
paired_open (real t ∷ a) h = (by h.0, paired_open a h.1) where
  by : (is_last t.kind ≡ false) ⊎ (a ++ brace ≡ []) → is_last t.kind ≡ false
  by (inl f) = f
  by (inr e) = absurd (never_nothing a e)
paired_open (inserted ∷ a) h = paired_open a h.1

-- what stands before the end of a block
body_open : {h : ℕ} {b : List RawStmt} {xs : Symbols} → Body of_program h xs b brace → Open xs
body_open {xs} x = let m = body_moves x in let e : m.front.before ++ brace ≡ xs = sym (m.front.prefix brace) ∙ m.front.is in
    subst (λ z. Open z) e (paired_open m.front.before (subst (λ z. Paired z) (sym e) (body_ready x (record { begun = refl; paired = (inl refl, tt) })).paired))

-- the front, with the part that is due
abbrev pub with_due : Symbols → Spot → Symbols
with_due before (here ys) = before
with_due before (due p ys) = before ++ any p (look ys) ∷ []
with_due before (anew t e us u ys) = before ++ real t ∷ (map real us ++ real u ∷ [])

-- A list that is a front, and what follows it.
pub record FrontAt (j : ℕ) (xs : Symbols) (i : Spot) : Type 0 where
  pub before : Symbols
  pub is : xs ≡ before ++ left i
  pub front : IsFrontWithin j (with_due before i)
  pub unclosed : Open before

abbrev pub FrontOf : Symbols → ℕ → Spot → Type 0
FrontOf xs j i = FrontAt j xs i

put_due : (before : Symbols) (i : Spot) (zs : Symbols) → before ++ put i zs ≡ with_due before i ++ zs
put_due before (here ys) zs = refl
put_due before (due p ys) zs = sym (append_assoc before (any p (look ys) ∷ []) zs)
put_due before (anew t e us u ys) zs = ap (λ l. before ++ real t ∷ l) (sym (append_assoc (map real us) (real u ∷ []) zs)) ∙ sym (append_assoc before (real t ∷ (map real us ++ real u ∷ [])) zs)

ended_front : {j : ℕ} {xs : Symbols} {i : Spot} → Begun (BB of_program j) xs i → FrontAt j xs i
ended_front {j} {xs} {i} w = record {
  before = w.front.before;
  is = sym w.front.is ∙ w.front.prefix (left i);
  front = record {
    more = w.more (real (token k.end) ∷ []);
    tree = w.tree;
    derives = subst (λ z. Derives j z w.tree) (w.front.prefix (put i (w.more (real (token k.end) ∷ []))) ∙ put_due w.front.before i _) (record { last = real (token k.end) ∷ []; body = w.holds (real (token k.end) ∷ []) refl; ends = new_at k.end });
  };
  unclosed = open_part w.front.before (put i (w.more brace)) (subst (λ z. Open z) (w.front.prefix (put i (w.more brace))) (body_open (w.holds brace refl)));
}

list_front : {h : ℕ} {b : List RawStmt} {xs ys : Symbols} → Body of_program h xs b ys → FrontAt h xs (here ys)
list_front {h} {b} {xs} {ys} x = let m = body_moves x in record {
  before = m.front.before;
  is = sym m.front.is ∙ m.front.prefix ys;
  front = record {
    more = real (token k.end) ∷ [];
    tree = b;
    derives = subst (λ z. Derives h z b) (m.front.prefix (real (token k.end) ∷ [])) (record { last = real (token k.end) ∷ []; body = m.holds (real (token k.end) ∷ []) (moves.free refl); ends = new_at k.end });
  };
  unclosed = open_part m.front.before brace (subst (λ z. Open z) (m.front.prefix brace) (body_open (m.holds brace (moves.free refl))));
}

end_fails : {b : ℕ} {P : ℕ → Spot → Type 0} (xs : Symbols) (j : ℕ) → j < b → P j (here xs) → Fails b P (s.expect_end xs)
unfolding r.expect_end
end_fails xs j lt h = fails_choice (is_end (look xs).kind) (λ _. fine) (λ _. fails_here xs j lt h)

-- Where it stops, the symbols before are a front; at the depth they are one within the depth, and one with the next token.
pub program_fails : (n d : ℕ) (xs : Symbols) → reals xs < n → Fails (suc d) (FrontOf xs) (read_symbols n d xs)
unfolding read_symbols r.program
program_fails n d xs ln = fails_after (list_sound (suc d) n (s.reader n d) (reader_sound n d) of_program n [] 0 xs (omega arith))
    (fails_map (λ j. j) (λ j l. l) (λ j i w. ended_front w) (statements_fail (suc d) n (s.reader n d) (reader_sound n d) (reader_fails n d) of_program xs (omega arith) ln))
    (λ b ys p. fails_after (expected_end ys) (end_fails ys b.1 (omega arith) (list_front (whole_list p.0))) (λ _ zs q. fine))

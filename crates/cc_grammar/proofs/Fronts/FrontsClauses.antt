-- Where reading stops, what came before is a front: the parts of statements.
use Rattle.std.specs.Prelude.{◌≡◌, ℕ, zero, suc, ◌<◌, ◌≤◌, max, Bool, true, false, List, [], ◌∷◌, ◌++◌}
use Rattle.std.proofs.Common.{refl, sym, ap, arith, ◌∙◌}
use Rattle.cc_ast.specs.Syntax.{undefined}
use Rattle.cc_lexer.specs.declared.token.Mark.{Mark}
use Rattle.cc_lexer.specs.declared.token.Mark.TheVariants as mark
use Rattle.cc_lexer.specs.declared.word.Word.TheVariants as word
use Rattle.cc_grammar.specs.Symbols.{Kind, Lexeme, Symbols, real, inserted, look, rest, nowhere, is_mark, is_word}
use Rattle.cc_grammar.specs.Symbols as k
use Rattle.cc_grammar.specs.RawTree.{RawExpr, RawTarget, RawForTarget, RawStmt, RawDeclarator, RawCase, RawInit, RawCatch, RawFinally, MaybeExpr, stmts}
use Rattle.cc_grammar.specs.RawTree as raw
use Rattle.cc_grammar.specs.Grammar as g
use Rattle.cc_grammar.specs.Grammar.{Context, in_loop, inside, At, Sign, Reserved, Variable, Ends, E, Declarator, Declarators, Init, Optional, Cases, Catch, Finally, T, Body, is_tail}
use Rattle.cc_grammar.specs.Reading.{Outcome, Sized, Clause, and_then, clause_of, ends_list, semicolon_symbol, fault}
use Rattle.cc_grammar.specs.Reading as r
use Rattle.cc_grammar.proofs.Marked.{In, consumed, marked, worded, expected, read_variable}
use Rattle.cc_grammar.proofs.Views.{mark_true, IsClause, clause_is}
use Rattle.cc_grammar.proofs.Views as view
use Rattle.cc_grammar.proofs.Mono.{higher, higher_declarator, higher_declarators, higher_body, higher_cases}
use Rattle.cc_grammar.proofs.Shrinks.{reals, at_less, variable_less, e_less, declarator_less, body_less}
use Rattle.cc_grammar.proofs.Soundness.SoundParts.{SoundInner, whole_list}
use Rattle.cc_grammar.proofs.Soundness.SoundLists.{list_sound}
use Rattle.cc_grammar.proofs.Soundness.SoundStatements.{SoundExpr, declarator_sound, InParens}
use Rattle.cc_grammar.proofs.Soundness.SoundJumps.{block_in_sound}
use Rattle.cc_grammar.proofs.Moves.{Front, stays, joined, Fits, free, look_kept, kept_fits}
use Rattle.cc_grammar.proofs.Moves as moves
use Rattle.cc_grammar.proofs.MovesDerived.{e_moves, declarator_moves, body_moves}
use Rattle.cc_grammar.proofs.Fails.{token, new_at, taken, again, variable_taken, variable_again, First, same, fresh, Spot, here, due, Begun, EE, Fails, fine, fails_after, fails_map, fails_fork, fails_choice, fails_here, expect_fails, variable_fails, XX, FailsInner}
use Rattle.cc_grammar.proofs.Fronts.FrontsLists.{BB, statements_fail}
use Rattle.cc_grammar.proofs.OnSymbols as s

-- ---- the end of a statement

pub semicolon_fails : {b : ℕ} {P : ℕ → Spot → Type 0} (xs : Symbols) (j : ℕ) → j < b → P j (here xs) → Fails b P (semicolon_symbol xs)
semicolon_fails [] j lt h = fails_here [] j lt h
semicolon_fails (inserted ∷ xs) j lt h = fine
semicolon_fails (real t ∷ xs) j lt h = fails_choice (is_mark mark.Semicolon t.kind) (λ _. fine) (λ _. fails_here (real t ∷ xs) j lt h)

pub end_now : {zs : Symbols} → Ends (real (token (k.mark mark.Semicolon)) ∷ zs) zs
end_now = g.written (new_at (k.mark mark.Semicolon))

-- what neither `else` nor `finally` follows
pub fits_first : {ys us : Symbols} → First ys us → Fits ys us
fits_first (same e) = moves.same e
fits_first (fresh t) = free t

-- whether something has come
pub data Started {xs i : Symbols} (f : Front xs i) : Type 0 where
  none : xs ≡ i → ((zs : Symbols) → f.go zs ≡ zs) → Started f
  some : ((zs : Symbols) → look (f.go zs) ≡ look xs) → Started f

pub started : {xs i : Symbols} (f : Front xs i) → Started f
started {xs} {i} f = by f.before f.prefix where
  by : (before : Symbols) → ((zs : Symbols) → f.go zs ≡ before ++ zs) → Started f
  by [] h = none (sym f.is ∙ h i) h
  by (m ∷ before) h = some (λ zs. ap look (h zs) ∙ sym (ap look (h i)) ∙ ap look f.is)

-- ---- variables

abbrev pub DD : Bool → ℕ → RawDeclarator → Symbols → Symbols → Type 0
DD b j v us vs = Declarator j b us v vs

abbrev pub DS : Bool → ℕ → List RawDeclarator → Symbols → Symbols → Type 0
DS b j vs us ws = Declarators j b us vs ws

variable_due : (xs : Symbols) (b : Bool) (j : ℕ) → Begun (DD b j) xs (due k.variable xs)
variable_due xs b j = record {
  front = stays xs;
  more = λ zs. zs;
  tree = record { variable = record { place = (look xs).place; name = [] }; value = raw.no_expr };
  holds = λ zs. g.unset (g.any_variable (g.at_token _ refl));
  first = λ zs. fresh refl;
}

no_declarator : (xs : Symbols) (b : Bool) (j : ℕ) → Begun (DD b j) xs (here xs)
no_declarator xs b j = record {
  front = stays xs;
  more = λ zs. real (token (k.due k.variable)) ∷ zs;
  tree = record { variable = record { place = nowhere; name = [] }; value = raw.no_expr };
  holds = λ zs. g.unset (g.any_variable (new_at (k.due k.variable)));
  first = λ zs. fresh refl;
}

pub some_declarator : {b : Bool} {j : ℕ} {xs : Symbols} {i : Spot} → Begun (DD b j) xs i → Begun (DS b j) xs i
some_declarator w = record { front = w.front; more = w.more; tree = w.tree ∷ []; holds = λ zs. g.last_declarator (w.holds zs); first = w.first }

-- nothing of a list has come
pub no_declarators : (xs : Symbols) (b : Bool) (j : ℕ) → Begun (DS b j) xs (here xs)
no_declarators xs b j = some_declarator (no_declarator xs b j)

module _ (c n : ℕ) (d : ℕ) (inner : In) (expr : Bool → ℕ → s.Reader (Sized RawExpr)) (sound : SoundExpr c expr) (b : Bool)
    (fails : (l : ℕ) (xs : Symbols) → reals xs < n → l ≤ 13 → Fails c (λ j i. Begun (EE j b l) xs i) (expr b l xs)) (above : 0 < c) where
  declarator_fails : (xs : Symbols) → reals xs < n → Fails c (λ j i. Begun (DD b j) xs i) (s.declarator d n inner expr b xs)
  unfolding r.declarator
  declarator_fails xs ln = fails_after (read_variable xs) (variable_fails xs 0 (omega arith) (no_declarator xs b 0) (variable_due xs b 0)) (λ v ys p. fails_fork (is_mark mark.Equal (look ys).kind) _ _
      (λ e. let o = marked mark.Equal ys e in fails_after (sound.is b 1 (rest ys) (omega arith))
      (fails_map (λ j. j) (λ j l. l) (λ j i w. record {
        front = joined (variable_taken p.0) (joined (taken o) w.front);
        more = w.more;
        tree = record { variable = record { place = (look xs).place; name = v.name }; value = raw.one_expr w.tree };
        holds = λ zs. g.set (variable_again p.0 _) (again o _) (w.holds zs);
        first = λ zs. same refl;
      }) (fails 1 (rest ys) (omega (arith, variable_less p.0, at_less o)) (omega arith)))
      (λ x zs q. fine))
      (λ _. fine))

  pub declarators_fail : (m : ℕ) (before : List RawDeclarator) (h : ℕ) (xs : Symbols) → reals xs < m → reals xs < n → Fails c (λ j i. Begun (DS b j) xs i) (s.declarators d n inner expr b m before h xs)
  unfolding r.declarators
  declarators_fail zero before h xs lm ln = absurd (omega arith)
  declarators_fail (suc m) before h xs lm ln = fails_after (declarator_sound c expr sound above d n inner b xs) (fails_map (λ j. j) (λ j l. l) (λ j i w. some_declarator w) (declarator_fails xs ln)) (λ x ys p.
      fails_fork (is_mark mark.Comma (look ys).kind) _ _
      (λ e. let o = marked mark.Comma ys e in let v = declarator_moves p.0 in fails_map (λ j. max x.1 j) (λ j l. omega (arith, p.1)) (λ j i w. record {
        front = joined v.front (joined (taken o) w.front);
        more = w.more;
        tree = x.0 ∷ w.tree;
        holds = λ zs. g.more_declarators (higher_declarator (max x.1 j) (omega arith) (v.holds _)) (again o _) (higher_declarators (max x.1 j) (omega arith) (w.holds zs));
        first = λ zs. same (look_kept v.front (declarator_less p.0) _);
      })
      (declarators_fail m _ _ (rest ys) (omega (arith, declarator_less p.0, at_less o)) (omega (arith, declarator_less p.0, at_less o))))
      (λ _. fine))

-- ---- an expression in parentheses

pub record Headed (j : ℕ) (e : RawExpr) (us vs : Symbols) : Type 0 where
  pub start : Symbols
  pub finish : Symbols
  pub opening : Sign mark.OpenParen us start
  pub tree : E j true 0 start e finish
  pub closing : Sign mark.CloseParen finish vs

abbrev pub HH : ℕ → RawExpr → Symbols → Symbols → Type 0
HH j e us vs = Headed j e us vs

pub no_head : (xs : Symbols) (j : ℕ) → Begun (HH j) xs (here xs)
no_head xs j = record {
  front = stays xs;
  more = λ zs. real (token (k.mark mark.OpenParen)) ∷ real (token (k.due k.operand)) ∷ real (token (k.mark mark.CloseParen)) ∷ zs;
  tree = raw.lit nowhere undefined;
  holds = λ zs. record { start = _; finish = _; opening = new_at (k.mark mark.OpenParen); tree = g.operand (new_at (k.due k.operand)); closing = new_at (k.mark mark.CloseParen) };
  first = λ zs. fresh refl;
}

-- the whole of it, before another list
pub record HeadMoved (j : ℕ) (e : RawExpr) (xs ys : Symbols) : Type 0 where
  pub front : Front xs ys
  pub holds : (zs : Symbols) → Headed j e (front.go zs) zs

abbrev pub OO : ℕ → MaybeExpr → Symbols → Symbols → Type 0
OO j e us vs = Optional j us e vs

abbrev pub KK : Context → ℕ → Bool → List RawCase → Symbols → Symbols → Type 0
KK c j seen cs us vs = Cases c j seen us cs vs

no_cases : (xs : Symbols) (c : Context) (j : ℕ) (seen : Bool) → Begun (KK c j seen) xs (here xs)
no_cases xs c j seen = record { front = stays xs; more = λ zs. real (token (k.mark mark.CloseBrace)) ∷ zs; tree = []; holds = λ zs. g.no_case (new_at (k.mark mark.CloseBrace)); first = λ zs. fresh refl }

abbrev pub no_block : (xs : Symbols) (c : Context) (j : ℕ) → 0 < j → Begun (XX c j) xs (here xs)
no_block xs c j lt = record {
  front = stays xs;
  more = λ zs. real (token (k.mark mark.OpenBrace)) ∷ real (token (k.mark mark.CloseBrace)) ∷ zs;
  tree = [];
  holds = λ zs _. record { begins = refl; tree = g.block {h = 0} lt (new_at (k.mark mark.OpenBrace)) g.done (new_at (k.mark mark.CloseBrace)) };
  first = λ zs. fresh refl;
}

abbrev pub GG : Context → ℕ → RawFinally → Symbols → Symbols → Type 0
GG c j f us vs = is_tail (look vs).kind ≡ false → Finally c j us f vs

abbrev pub CA : Context → ℕ → RawCatch → Symbols → Symbols → Type 0
CA c j f us vs = is_tail (look vs).kind ≡ false → Catch c j us f vs

module _ (d n : ℕ) (inner : In) (sound : SoundInner d inner) (all : FailsInner d n inner) where
  -- ---- heads

  head_begun : {j : ℕ} {xs ys : Symbols} {i : Spot} → Sign mark.OpenParen xs ys → Begun (EE j true 0) ys i → Begun (HH j) xs i
  head_begun o w = record {
    front = joined (taken o) w.front;
    more = λ zs. w.more (real (token (k.mark mark.CloseParen)) ∷ zs);
    tree = w.tree;
    holds = λ zs. record { start = _; finish = _; opening = again o _; tree = w.holds _; closing = new_at (k.mark mark.CloseParen) };
    first = λ zs. same refl;
  }

  pub head_fails : (xs : Symbols) → 0 < d → reals xs < n → Fails d (λ j i. Begun (HH j) xs i) (s.head d n inner xs)
  unfolding r.head
  head_fails xs lt ln = fails_after (expected mark.OpenParen xs) (expect_fails mark.OpenParen xs 0 (omega arith) (no_head xs 0)) (λ _ ys o.
      fails_after (sound.expr true 0 ys (omega arith)) (fails_map (λ j. j) (λ j l. l) (λ j i w. head_begun o w) (all.expr lt true 0 ys (omega (arith, at_less o)) (omega arith))) (λ x zs p.
      let m = e_moves p.0.whole.tree in fails_after (expected mark.CloseParen zs) (expect_fails mark.CloseParen zs x.1 (omega arith) (record {
        front = joined (taken o) m.front;
        more = λ zs. real (token (k.mark mark.CloseParen)) ∷ zs;
        tree = x.0;
        holds = λ zs. record { start = _; finish = _; opening = again o _; tree = m.holds _; closing = new_at (k.mark mark.CloseParen) };
        first = λ zs. same refl;
      })) (λ _ ws c. fine)))

  pub head_moves : {a : Sized RawExpr} {xs ys : Symbols} → InParens d n inner sound xs a ys → HeadMoved a.1 a.0 xs ys
  head_moves p = let m = e_moves p.tree in record { front = joined (taken p.opening) (joined m.front (taken p.closing)); holds = λ zs. record { start = _; finish = _; opening = again p.opening _; tree = m.holds _; closing = again p.closing zs } }

  pub head_less : {a : Sized RawExpr} {xs ys : Symbols} → InParens d n inner sound xs a ys → reals ys < reals xs
  head_less p = omega (arith, at_less p.opening, e_less p.tree, at_less p.closing)

  -- ---- the parts of a `for`

  pub optional_fails : (m : Mark) (xs : Symbols) → 0 < d → reals xs < n → Fails d (λ j i. Begun (OO j) xs i) (s.optional d n inner m xs)
  unfolding r.optional
  optional_fails m xs lt ln = fails_fork (is_mark m (look xs).kind) _ _ (λ _. fine) (λ _. fails_after (sound.expr true 0 xs (omega arith))
      (fails_map (λ j. j) (λ j l. l) (λ j i w. record { front = w.front; more = w.more; tree = raw.one_expr w.tree; holds = λ zs. g.present (w.holds zs); first = w.first }) (all.expr lt true 0 xs ln (omega arith))) (λ x ys p. fine))

  -- ---- the clauses of a `switch`

  -- the list, and the brace or the next clause
  body_fits : {ys us : Symbols} → First ys us → Fits ys us
  body_fits h = fits_first h

  test_begun : (c : Context) (seen : Bool) {j : ℕ} {xs ys : Symbols} {i : Spot} → Reserved word.Case xs ys → Begun (EE j true 0) ys i → Begun (KK c j seen) xs i
  test_begun c seen o w = record {
    front = joined (taken o) w.front;
    more = λ zs. w.more (real (token (k.mark mark.Colon)) ∷ real (token (k.mark mark.CloseBrace)) ∷ zs);
    tree = record { test = raw.one_expr w.tree; body = [] } ∷ [];
    holds = λ zs. g.«case» (again o _) (w.holds _) (new_at (k.mark mark.Colon)) g.done (g.no_case (new_at (k.mark mark.CloseBrace)));
    first = λ zs. same refl;
  }

  case_begun : (c : Context) (seen : Bool) {h : ℕ} (j : ℕ) {e : RawExpr} {xs ys zs us : Symbols} {i : Spot} → Reserved word.Case xs ys → E h true 0 ys e zs → Sign mark.Colon zs us → Begun (BB c j) us i → Begun (KK c (max h j) seen) xs i
  case_begun c seen {h} j {e} o x p w = let m = e_moves x in record {
    front = joined (taken o) (joined m.front (joined (taken p) w.front));
    more = λ zs. w.more (real (token (k.mark mark.CloseBrace)) ∷ zs);
    tree = record { test = raw.one_expr e; body = w.tree } ∷ [];
    holds = λ zs. g.«case» (again o _) (higher (max h j) (omega arith) (m.holds _)) (again p _) (higher_body (max h j) (omega arith) (w.holds _ refl)) (g.no_case (new_at (k.mark mark.CloseBrace)));
    first = λ zs. same refl;
  }

  more_cases : (c : Context) (seen : Bool) {h u : ℕ} (j : ℕ) {e : RawExpr} {b : List RawStmt} {xs ys zs us vs : Symbols} {i : Spot} → Reserved word.Case xs ys → E h true 0 ys e zs → Sign mark.Colon zs us → Body c u us b vs → Begun (KK c j seen) vs i
      → Begun (KK c (max (max h u) j) seen) xs i
  more_cases c seen {h} {u} j {e} {b} o x p y w = let m = e_moves x in let v = body_moves y in record {
    front = joined (taken o) (joined m.front (joined (taken p) (joined v.front w.front)));
    more = w.more;
    tree = record { test = raw.one_expr e; body = b } ∷ w.tree;
    holds = λ zs. g.«case» (again o _) (higher (max (max h u) j) (omega arith) (m.holds _)) (again p _) (higher_body (max (max h u) j) (omega arith) (v.holds _ (body_fits (w.first zs)))) (higher_cases (max (max h u) j) (omega arith) (w.holds zs));
    first = λ zs. same refl;
  }

  default_word : (c : Context) {xs ys : Symbols} (j : ℕ) → Reserved word.Default xs ys → Begun (KK c j false) xs (here ys)
  default_word c j o = record {
    front = taken o;
    more = λ zs. real (token (k.mark mark.Colon)) ∷ real (token (k.mark mark.CloseBrace)) ∷ zs;
    tree = record { test = raw.no_expr; body = [] } ∷ [];
    holds = λ zs. g.default (again o _) (new_at (k.mark mark.Colon)) g.done (g.no_case (new_at (k.mark mark.CloseBrace)));
    first = λ zs. same refl;
  }

  default_begun : (c : Context) (j : ℕ) {xs ys us : Symbols} {i : Spot} → Reserved word.Default xs ys → Sign mark.Colon ys us → Begun (BB c j) us i → Begun (KK c j false) xs i
  default_begun c j o p w = record {
    front = joined (taken o) (joined (taken p) w.front);
    more = λ zs. w.more (real (token (k.mark mark.CloseBrace)) ∷ zs);
    tree = record { test = raw.no_expr; body = w.tree } ∷ [];
    holds = λ zs. g.default (again o _) (again p _) (w.holds _ refl) (g.no_case (new_at (k.mark mark.CloseBrace)));
    first = λ zs. same refl;
  }

  more_defaults : (c : Context) {u : ℕ} (j : ℕ) {b : List RawStmt} {xs ys us vs : Symbols} {i : Spot} → Reserved word.Default xs ys → Sign mark.Colon ys us → Body c u us b vs → Begun (KK c j true) vs i → Begun (KK c (max u j) false) xs i
  more_defaults c {u} j {b} o p y w = let v = body_moves y in record {
    front = joined (taken o) (joined (taken p) (joined v.front w.front));
    more = w.more;
    tree = record { test = raw.no_expr; body = b } ∷ w.tree;
    holds = λ zs. g.default (again o _) (again p _) (higher_body (max u j) (omega arith) (v.holds _ (body_fits (w.first zs)))) (higher_cases (max u j) (omega arith) (w.holds zs));
    first = λ zs. same refl;
  }

  clause_fails : (c : Context) (next : Bool → List RawCase → ℕ → s.Reader (Sized (List RawCase))) (seen : Bool) (before : List RawCase) (h : ℕ) (xs : Symbols) (x : Kind) (v : Clause) → 0 < d → reals xs < n → (look xs).kind ≡ x → IsClause x v
      → ((seen : Bool) (before : List RawCase) (h : ℕ) (ys : Symbols) → reals ys < reals xs → Fails d (λ j i. Begun (KK c j seen) ys i) (next seen before h ys))
      → Fails d (λ j i. Begun (KK c j seen) xs i) (s.clause_by d n inner next c seen before h v xs)
  clause_fails c next seen before h xs x v lt ln e view.none f = fails_here xs 0 (omega arith) (no_cases xs c 0 seen)
  clause_fails c next seen before h xs x v lt ln e view.close f = fine
  clause_fails c next seen before h xs x v lt ln e view.«case» f = let o = consumed xs (k.word word.Case) refl e in
      fails_after (sound.expr true 0 (rest xs) (omega arith)) (fails_map (λ j. j) (λ j l. l) (λ j i w. test_begun c seen o w) (all.expr lt true 0 (rest xs) (omega (arith, at_less o)) (omega arith))) (λ y ys p. let t = p.0.whole.tree in
      fails_after (expected mark.Colon ys) (expect_fails mark.Colon ys y.1 (omega arith) (test_begun c seen o (Rattle.cc_grammar.proofs.Fronts.FrontsPrimary.whole_e t))) (λ _ zs q.
      fails_after (list_sound d n inner sound c n [] 0 zs (omega arith))
      (fails_map (λ j. max y.1 j) (λ j l. omega (arith, p.1)) (λ j i w. case_begun c seen j o t q w) (statements_fail d n inner sound all c zs lt (omega (arith, at_less o, e_less t, at_less q)))) (λ b us z. let body = whole_list z.0 in
      fails_map (λ j. max (max y.1 b.1) j) (λ j l. omega (arith, p.1, z.0.low)) (λ j i w. more_cases c seen j o t q body w) (f seen _ _ us (omega (arith, at_less o, e_less t, at_less q, body_less body))))))
  clause_fails c next true before h xs x v lt ln e view.default f = fails_here xs 0 (omega arith) (no_cases xs c 0 true)
  clause_fails c next false before h xs x v lt ln e view.default f = let o = consumed xs (k.word word.Default) refl e in
      fails_after (expected mark.Colon (rest xs)) (expect_fails mark.Colon (rest xs) 0 (omega arith) (default_word c 0 o)) (λ _ zs q.
      fails_after (list_sound d n inner sound c n [] 0 zs (omega arith)) (fails_map (λ j. j) (λ j l. l) (λ j i w. default_begun c j o q w) (statements_fail d n inner sound all c zs lt (omega (arith, at_less o, at_less q)))) (λ b us z. let body = whole_list z.0 in
      fails_map (λ j. max b.1 j) (λ j l. omega (arith, z.0.low)) (λ j i w. more_defaults c j o q body w) (f true _ _ us (omega (arith, at_less o, at_less q, body_less body)))))

  clauses_fail : (c : Context) (m : ℕ) (seen : Bool) (before : List RawCase) (h : ℕ) (xs : Symbols) → 0 < d → reals xs < m → reals xs < n → Fails d (λ j i. Begun (KK c j seen) xs i) (s.clauses d n inner c m seen before h xs)
  unfolding r.clauses
  clauses_fail c zero seen before h xs lt lm ln = absurd (omega arith)
  clauses_fail c (suc m) seen before h xs lt lm ln = clause_fails c (s.clauses d n inner c m) seen before h xs (look xs).kind (clause_of (look xs).kind) lt ln refl (clause_is (look xs).kind) (λ seen before h ys less. clauses_fail c m seen before h ys lt (omega arith) (omega arith))

  pub all_clauses_fail : (c : Context) (xs : Symbols) → 0 < d → reals xs < n → Fails d (λ j i. Begun (KK c j false) xs i) (s.clauses d n inner c n false [] 0 xs)
  all_clauses_fail c xs lt ln = clauses_fail c n false [] 0 xs lt ln ln

  -- ---- the blocks of a `try`

  pub block_in_fails : (c : Context) (xs : Symbols) → 1 < d → reals xs < n → Fails d (λ j i. Begun (XX (inside c) j) xs i) (s.block_in d n inner c xs)
  unfolding r.block_in
  block_in_fails c xs lt ln = fails_fork (is_mark mark.OpenBrace (look xs).kind) _ _
      (λ e. all.block lt (inside c) xs ln (mark_true mark.OpenBrace (look xs).kind e))
      (λ _. fails_here xs 1 (omega arith) (no_block xs (inside c) 1 (omega arith)))

  finally_begun : {c : Context} {j : ℕ} {xs ys : Symbols} {i : Spot} → Reserved word.Finally xs ys → Begun (XX c j) ys i → Begun (GG c j) xs i
  finally_begun o w = record { front = joined (taken o) w.front; more = w.more; tree = raw.finally (stmts w.tree); holds = λ zs f. g.finally (again o _) (w.holds zs f).begins (w.holds zs f).tree; first = λ zs. same refl }

  pub finally_fails : (c : Context) (xs : Symbols) → 1 < d → reals xs < n → is_word word.Finally (look xs).kind ≡ true → Fails d (λ j i. Begun (GG (inside c) j) xs i) (s.finally d n inner c xs)
  unfolding r.finally
  finally_fails c xs lt ln e = let o = worded word.Finally xs e in
      fails_after (block_in_sound d n inner sound c (rest xs)) (fails_map (λ j. j) (λ j l. l) (λ j i w. finally_begun o w) (block_in_fails c (rest xs) lt (omega (arith, at_less o)))) (λ b ys p. fine)

  -- its word has come, then the parenthesis, then the name
  catch_word : {c : Context} {xs ys : Symbols} → Reserved word.Catch xs ys → Begun (CA c 1) xs (here ys)
  catch_word {c} {ys} o = let w = no_block ys c 1 (omega arith) in record {
    front = taken o;
    more = λ zs. real (token (k.mark mark.OpenParen)) ∷ real (token (k.due k.variable)) ∷ real (token (k.mark mark.CloseParen)) ∷ w.more zs;
    tree = raw.caught (record { place = nowhere; name = [] }) (stmts w.tree);
    holds = λ zs f. g.caught (again o _) (new_at (k.mark mark.OpenParen)) (g.any_variable (new_at (k.due k.variable))) (new_at (k.mark mark.CloseParen)) (w.holds zs f).begins (w.holds zs f).tree;
    first = λ zs. same refl;
  }

  catch_open : {c : Context} {xs ys zs : Symbols} → Reserved word.Catch xs ys → Sign mark.OpenParen ys zs → Begun (CA c 1) xs (here zs)
  catch_open {c} {ys} o p = let w = no_block ys c 1 (omega arith) in record {
    front = joined (taken o) (taken p);
    more = λ zs. real (token (k.due k.variable)) ∷ real (token (k.mark mark.CloseParen)) ∷ w.more zs;
    tree = raw.caught (record { place = nowhere; name = [] }) (stmts w.tree);
    holds = λ zs f. g.caught (again o _) (again p _) (g.any_variable (new_at (k.due k.variable))) (new_at (k.mark mark.CloseParen)) (w.holds zs f).begins (w.holds zs f).tree;
    first = λ zs. same refl;
  }

  catch_due : {c : Context} {xs ys zs : Symbols} → Reserved word.Catch xs ys → Sign mark.OpenParen ys zs → Begun (CA c 1) xs (due k.variable zs)
  catch_due {c} {ys} {zs} o p = let w = no_block ys c 1 (omega arith) in record {
    front = joined (taken o) (taken p);
    more = λ us. real (token (k.mark mark.CloseParen)) ∷ w.more us;
    tree = raw.caught (record { place = (look zs).place; name = [] }) (stmts w.tree);
    holds = λ us f. g.caught (again o _) (again p _) (g.any_variable (g.at_token _ refl)) (new_at (k.mark mark.CloseParen)) (w.holds us f).begins (w.holds us f).tree;
    first = λ us. same refl;
  }

  catch_name : {c : Context} {v : List ℕ} {xs ys zs us : Symbols} → Reserved word.Catch xs ys → Sign mark.OpenParen ys zs → Variable zs v us → Begun (CA c 1) xs (here us)
  catch_name {c} {v} {ys} {zs} o p q = let w = no_block ys c 1 (omega arith) in record {
    front = joined (taken o) (joined (taken p) (variable_taken q));
    more = λ zs. real (token (k.mark mark.CloseParen)) ∷ w.more zs;
    tree = raw.caught (record { place = (look zs).place; name = v }) (stmts w.tree);
    holds = λ zs f. g.caught (again o _) (again p _) (variable_again q _) (new_at (k.mark mark.CloseParen)) (w.holds zs f).begins (w.holds zs f).tree;
    first = λ zs. same refl;
  }

  catch_begun : {c : Context} {j : ℕ} {v : List ℕ} {xs ys zs us vs : Symbols} {i : Spot} → Reserved word.Catch xs ys → Sign mark.OpenParen ys zs → Variable zs v us → Sign mark.CloseParen us vs → Begun (XX c j) vs i → Begun (CA c j) xs i
  catch_begun {v} {zs} o p q u w = record {
    front = joined (taken o) (joined (taken p) (joined (variable_taken q) (joined (taken u) w.front)));
    more = w.more;
    tree = raw.caught (record { place = (look zs).place; name = v }) (stmts w.tree);
    holds = λ zs f. g.caught (again o _) (again p _) (variable_again q _) (again u _) (w.holds zs f).begins (w.holds zs f).tree;
    first = λ zs. same refl;
  }

  pub catch_fails : (c : Context) (xs : Symbols) → 1 < d → reals xs < n → is_word word.Catch (look xs).kind ≡ true → Fails d (λ j i. Begun (CA (inside c) j) xs i) (s.catch d n inner c xs)
  unfolding r.catch
  catch_fails c xs lt ln e = let o = worded word.Catch xs e in
      fails_after (expected mark.OpenParen (rest xs)) (expect_fails mark.OpenParen (rest xs) 1 (omega arith) (catch_word o)) (λ _ ys p.
      fails_after (read_variable ys) (variable_fails ys 1 (omega arith) (catch_open o p) (catch_due o p)) (λ v zs q.
      fails_after (expected mark.CloseParen zs) (expect_fails mark.CloseParen zs 1 (omega arith) (catch_name o p q.0)) (λ _ us u.
      fails_after (block_in_sound d n inner sound c us) (fails_map (λ j. j) (λ j l. l) (λ j i w. catch_begun o p q.0 u w) (block_in_fails c us lt (omega (arith, at_less o, at_less p, variable_less q.0, at_less u)))) (λ b ws x. fine))))

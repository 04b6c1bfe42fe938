-- The definitions of statements that are named by a reserved word, opened.
use Rattle.std.proofs.Common.{◌≡◌, refl, sym, ap, ◌+◌, max, Bool, true, false, ◌||◌, if◌then◌else◌, List, ◌∷◌, [], Ok, Err, arith}
use Rattle.cc_ast.specs.declared.place.Place.{Place}
use Rattle.cc_lexer.specs.declared.token.Mark.TheVariants as mark
use Rattle.cc_lexer.specs.declared.word.Word.TheVariants as word
use Rattle.cc_grammar.specs.Symbols.{is_word}
use Rattle.cc_grammar.specs.Grammar.{Context, inside, in_loop}
use Rattle.cc_grammar.specs.RawTree as S
use Rattle.cc_grammar.specs.Reading.{Outcome, Sized, and_then, fault, a_token, look_token, rest_tokens, semicolon_token, label_of, ends_return, is_some_label}
use Rattle.cc_grammar.specs.Reading as r
use Rattle.cc_cursor.specs.declared.limits.Limits.{Limits}
use Rattle.cc_cursor.specs.Reads.{Tokens, within, expect, expr_of}
use Rattle.cc_trees.proofs.Chains.{assoc, under}
use Rattle.cc_statements.specs.ReadsStatements as spec
use Rattle.cc_statements.specs.StatementSteps as steps
use Rattle.cc_statements.specs.ForSteps as for_steps

pub while_opened : (m : Limits) (c : Context) (ts : Tokens) → spec.while_loop m c ts
    ≡ and_then (spec.head m (rest_tokens ts)) (λ e us. and_then ((within m).stmt (in_loop c) us) (λ b vs. Ok ((S.while (look_token ts).place e.0 (S.stmts b.0) ∷ [], max e.1 b.1 + 1), vs)))
unfolding r.while
while_opened m c ts = refl

pub for_opened : (m : Limits) (c : Context) (ts : Tokens) → spec.for_loop m c ts
    ≡ and_then (expect mark.OpenParen (rest_tokens ts)) (λ _ us. for_steps.for_head m c (look_token ts).place us)
unfolding r.for
for_opened m c ts = refl

abbrev pub Statements : Type 0
Statements = Tokens → Outcome Tokens (Sized (List S.RawStmt))

abbrev choose : Bool → Statements → Statements → Statements
choose b p q = if b then p else q

abbrev wrong : Statements
wrong ts = Err (fault a_token (look_token ts), ts)

pub continue_opened : (m : Limits) (c : Context) (ts : Tokens) → spec.continue_jump m c ts
    ≡ choose c.continues (λ us. spec.jump m (S.continue (look_token us).place) true c.loops (label_of (look_token (rest_tokens us))) (rest_tokens us)) wrong ts
unfolding r.continue
continue_opened m c ts = refl

pub break_opened : (m : Limits) (c : Context) (ts : Tokens) → spec.break_jump m c ts
    ≡ choose (c.breaks || is_some_label c.labels) (λ us. spec.jump m (S.break (look_token us).place) c.breaks c.labels (label_of (look_token (rest_tokens us))) (rest_tokens us)) wrong ts
unfolding r.break
break_opened m c ts = refl

pub return_opened : (m : Limits) (c : Context) (ts : Tokens) → spec.returned m c ts
    ≡ choose c.returns (λ us. choose (ends_return (look_token (rest_tokens us)))
    (λ vs. and_then (semicolon_token vs) (λ _ ws. Ok ((S.return (look_token us).place S.no_expr ∷ [], 0), ws)))
    (λ vs. and_then (expr_of m true 0 vs) (λ x ws. and_then (semicolon_token ws) (λ _ xs. Ok ((S.return (look_token us).place (S.one_expr x.0) ∷ [], x.1), xs))))
    (rest_tokens us)) wrong ts
unfolding r.return
return_opened m c ts = refl

pub try_opened : (m : Limits) (c : Context) (ts : Tokens) → spec.try_statement m c ts
    ≡ and_then (spec.block_in m c (rest_tokens ts)) (λ b us. choose (is_word word.Catch (look_token us).kind)
    (steps.caught m c (look_token ts).place b)
    (choose (is_word word.Finally (look_token us).kind)
    (steps.uncaught m c (look_token ts).place b)
    wrong)
    us)
unfolding r.try
try_opened m c ts = refl

abbrev do_while : Limits → Context → Statements
do_while m = r.do_while Tokens look_token rest_tokens semicolon_token m.depth m.turns (within m)

pub do_opened : (m : Limits) (c : Context) (ts : Tokens) → do_while m c ts
    ≡ and_then ((within m).stmt (in_loop c) (rest_tokens ts)) (λ b us. and_then (steps.while_head m us) (λ e vs. and_then (semicolon_token vs)
    (λ _ ws. Ok ((S.do_while (look_token ts).place (S.stmts b.0) e.0 ∷ [], max e.1 b.1 + 1), ws))))
unfolding r.do_while
do_opened m c ts = under ((within m).stmt (in_loop c) (rest_tokens ts)) _ _ (λ b us. sym (assoc (r.expect_word Tokens look_token rest_tokens semicolon_token word.While us) (λ _ vs. spec.head m vs)
    (λ e vs. and_then (semicolon_token vs) (λ _ ws. Ok ((S.do_while (look_token ts).place (S.stmts b.0) e.0 ∷ [], max e.1 b.1 + 1), ws)))))

-- ---- a part that may be there or not

abbrev chosen : Place → Sized S.RawExpr → Sized (List S.RawStmt) → Sized (List S.RawStmt) → Statements
chosen p e a b us = Ok ((S.if p e.0 (S.stmts a.0) (S.stmts b.0) ∷ [], max e.1 (max a.1 b.1) + 1), us)

otherwise_by : (m : Limits) (c : Context) (p : Place) (e : Sized S.RawExpr) (a : Sized (List S.RawStmt)) (ts : Tokens) (b : Bool)
    → choose b (λ us. and_then ((within m).stmt (inside c) (rest_tokens us)) (chosen p e a)) (λ us. Ok ((S.if p e.0 (S.stmts a.0) S.no_stmts ∷ [], max e.1 a.1 + 1), us)) ts
    ≡ and_then (if b then (within m).stmt (inside c) (rest_tokens ts) else Ok (([], 0), ts)) (chosen p e a)
otherwise_by m c p e a ts true = refl
otherwise_by m c p e a ts false = let q : max e.1 a.1 ≡ max e.1 (max a.1 0) = omega arith in ap (λ h. Ok ((S.if p e.0 (S.stmts a.0) S.no_stmts ∷ [], h + 1), ts)) q

pub otherwise_opened : (m : Limits) (c : Context) (p : Place) (e : Sized S.RawExpr) (a : Sized (List S.RawStmt)) (ts : Tokens) → spec.otherwise m c p e a ts
    ≡ and_then (steps.second_branch m c ts) (λ b us. Ok ((S.if p e.0 (S.stmts a.0) (S.stmts b.0) ∷ [], max e.1 (max a.1 b.1) + 1), us))
unfolding r.otherwise
otherwise_opened m c p e a ts = otherwise_by m c p e a ts (is_word word.Else (look_token ts).kind)

abbrev tried : Place → Sized (List S.RawStmt) → Sized S.RawCatch → Sized S.RawFinally → Statements
tried p b f g us = Ok ((S.try p (S.stmts b.0) f.0 g.0 ∷ [], max b.1 (max f.1 g.1) + 1), us)

after_catch_by : (m : Limits) (c : Context) (p : Place) (b : Sized (List S.RawStmt)) (f : Sized S.RawCatch) (ts : Tokens) (x : Bool)
    → choose x (λ us. and_then (spec.finally m c us) (tried p b f)) (λ us. Ok ((S.try p (S.stmts b.0) f.0 S.no_finally ∷ [], max b.1 f.1 + 1), us)) ts
    ≡ and_then (if x then spec.finally m c ts else Ok ((S.no_finally, 0), ts)) (tried p b f)
after_catch_by m c p b f ts true = refl
after_catch_by m c p b f ts false = let q : max b.1 f.1 ≡ max b.1 (max f.1 0) = omega arith in ap (λ h. Ok ((S.try p (S.stmts b.0) f.0 S.no_finally ∷ [], h + 1), ts)) q

pub after_catch_opened : (m : Limits) (c : Context) (p : Place) (b : Sized (List S.RawStmt)) (f : Sized S.RawCatch) (ts : Tokens) → spec.after_catch m c p b f ts
    ≡ and_then (steps.maybe_finally m c ts) (λ g us. Ok ((S.try p (S.stmts b.0) f.0 g.0 ∷ [], max b.1 (max f.1 g.1) + 1), us))
unfolding r.after_catch
after_catch_opened m c p b f ts = after_catch_by m c p b f ts (is_word word.Finally (look_token ts).kind)

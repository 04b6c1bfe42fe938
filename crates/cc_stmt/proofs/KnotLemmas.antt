-- What reads inside a tree, by how high the tree may still be.
use Rattle.std.proofs.Common.{◌≡◌, refl, ap, ◌∙◌, ℕ, zero, suc, ◌+◌, ◌-◌, ◌<◌, Bool, [], Ok, Err, arith}
use Rattle.cc_grammar.specs.Grammar.{Context, of_program}
use Rattle.cc_grammar.specs.Reading.{Outcome, and_then, look_token, rest_tokens, semicolon_token, depth}
use Rattle.cc_grammar.specs.Reading as r
use Rattle.cc_cursor.specs.declared.limits.Limits.{Limits}
use Rattle.cc_cursor.specs.Reads.{Tokens, inside, within, expr_of, expect_end}
use Rattle.cc_statements.specs.ReadsStatements as spec

expr_inside : (t d : ℕ) (n : Bool) (l : ℕ) (ts : Tokens) → (inside t (suc d)).expr n l ts ≡ expr_of (record { turns = t; depth = d }) n l ts
unfolding inside r.reader
expr_inside t zero n l ts = refl
expr_inside t (suc d) n l ts = refl

stmt_inside : (t d : ℕ) (c : Context) (ts : Tokens) → (inside t (suc d)).stmt c ts ≡ spec.stmt_of (record { turns = t; depth = d }) c ts
unfolding inside r.reader
stmt_inside t zero c ts = refl
stmt_inside t (suc d) c ts = refl

pub expr_step : (m : Limits) (n : Bool) (l : ℕ) (ts : Tokens) → 0 < m.depth → (within m).expr n l ts ≡ expr_of (record { turns = m.turns; depth = m.depth - 1 }) n l ts
expr_step m n l ts some = let e : m.depth ≡ suc (m.depth - 1) = omega arith in ap (λ d. (inside m.turns d).expr n l ts) e ∙ expr_inside m.turns (m.depth - 1) n l ts

pub stmt_step : (m : Limits) (c : Context) (ts : Tokens) → 0 < m.depth → (within m).stmt c ts ≡ spec.stmt_of (record { turns = m.turns; depth = m.depth - 1 }) c ts
stmt_step m c ts some = let e : m.depth ≡ suc (m.depth - 1) = omega arith in ap (λ d. (inside m.turns d).stmt c ts) e ∙ stmt_inside m.turns (m.depth - 1) c ts

pub expr_none : (m : Limits) (n : Bool) (l : ℕ) (ts : Tokens) → m.depth ≡ 0 → (within m).expr n l ts ≡ Err (record { cause = depth; place = (look_token ts).place }, ts)
unfolding inside
expr_none m n l ts none = ap (λ d. (inside m.turns d).expr n l ts) none

pub stmt_none : (m : Limits) (c : Context) (ts : Tokens) → m.depth ≡ 0 → (within m).stmt c ts ≡ Err (record { cause = depth; place = (look_token ts).place }, ts)
unfolding inside
stmt_none m c ts none = ap (λ d. (inside m.turns d).stmt c ts) none

pub program_opened : (m : Limits) (ts : Tokens) → spec.program m ts
    ≡ and_then (spec.list (record { turns = m.turns; depth = m.depth + 1 }) of_program m.turns [] 0 ts) (λ b us. and_then (expect_end us) (λ _ vs. Ok (b, vs)))
unfolding r.program inside
program_opened m ts = let e : suc m.depth ≡ m.depth + 1 = omega arith in
    ap (λ d. and_then (spec.list (record { turns = m.turns; depth = d }) of_program m.turns [] 0 ts) (λ b us. and_then (expect_end us) (λ _ vs. Ok (b, vs)))) e

pub ruleset knot_steps = (expr_step, stmt_step, expr_none, stmt_none)

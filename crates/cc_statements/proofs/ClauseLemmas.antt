-- One turn of the clauses of a `switch`.
use Rattle.std.proofs.Common.{◌≡◌, refl, ◌∙◌, ℕ, suc, ◌+◌, max, Bool, true, false, ◌||◌, List, [], ◌∷◌, Some, Ok}
use Rattle.cc_lexer.specs.declared.token.Mark.TheVariants as mark
use Rattle.cc_grammar.specs.Grammar.{Context, in_switch}
use Rattle.cc_grammar.specs.RawTree as S
use Rattle.cc_grammar.specs.Reading.{Outcome, Sized, and_then, look_token, rest_tokens, semicolon_token, Clause, no_clause, is_close, is_case, is_default, clause_of}
use Rattle.cc_grammar.specs.Reading as r
use Rattle.cc_cursor.specs.declared.limits.Limits.{Limits}
use Rattle.cc_cursor.specs.Reads.{Tokens, within, expect}
use Rattle.cc_statements.specs.ReadsStatements as spec
use Rattle.cc_statements.specs.ClauseSteps as one
use Rattle.cc_trees.proofs.Chains.{some_same, two_same, three_same, closed_same}

by_clause : (m : Limits) (c : Context) (n : ℕ) (seen : Bool) (found : List S.RawCase) (h : ℕ) (ts : Tokens) (k : Clause)
    → r.clause_by Tokens look_token rest_tokens semicolon_token m.depth m.turns (within m) (spec.clauses m c n) c seen found h k ts
    ≡ and_then (one.clause m c seen k ts) (one.behind m c n (one.is_default k || seen) found h)
by_clause m c n seen found h ts no_clause = refl
by_clause m c n seen found h ts is_close = refl
by_clause m c n seen found h ts is_case =
    three_same ((within m).expr true 0 (rest_tokens ts)) (expect mark.Colon) (spec.list m c m.turns [] 0) (λ x b. (record { test = S.one_expr x.0; body = b.0 }, max x.1 b.1)) (λ y us. one.behind m c n seen found h (Some y) us)
    ∙ some_same (one.case_clause m c ts) (one.behind m c n seen found h)
by_clause m c n true found h ts is_default = refl
by_clause m c n false found h ts is_default =
    two_same (expect mark.Colon (rest_tokens ts)) (spec.list m c m.turns [] 0) (λ b. (record { test = S.no_expr; body = b.0 }, b.1)) (λ y us. one.behind m c n true found h (Some y) us)
    ∙ some_same (one.default_clause m c ts) (one.behind m c n true found h)

pub one_clause : (m : Limits) (c : Context) (n : ℕ) (seen : Bool) (found : List S.RawCase) (h : ℕ) (ts : Tokens)
    → spec.clauses m c (suc n) seen found h ts
    ≡ and_then (one.clause m c seen (clause_of (look_token ts).kind) ts) (one.behind m c n (one.is_default (clause_of (look_token ts).kind) || seen) found h)
unfolding r.clauses
one_clause m c n seen found h ts = by_clause m c n seen found h ts (clause_of (look_token ts).kind)

pub case_opened : (m : Limits) (c : Context) (ts : Tokens) → one.case_clause m c ts
    ≡ and_then (spec.closed_expr m 0 mark.Colon (rest_tokens ts)) (λ x us. and_then (spec.list m c m.turns [] 0 us) (λ b vs. Ok ((record { test = S.one_expr x.0; body = b.0 }, max x.1 b.1), vs)))
case_opened m c ts = closed_same ((within m).expr true 0 (rest_tokens ts)) (expect mark.Colon) (λ x us. and_then (spec.list m c m.turns [] 0 us) (λ b vs. Ok ((record { test = S.one_expr x.0; body = b.0 }, max x.1 b.1), vs)))

pub switch_opened : (m : Limits) (c : Context) (ts : Tokens) → spec.switch m c ts
    ≡ and_then (one.switch_head m (rest_tokens ts)) (λ e us. and_then (spec.clauses m (in_switch c) m.turns false [] 0 us)
    (λ cs vs. Ok ((S.switch (look_token ts).place e.0 (S.cases cs.0) ∷ [], max e.1 cs.1 + 1), vs)))
unfolding r.switch
switch_opened m c ts = closed_same (spec.head m (rest_tokens ts)) (expect mark.OpenBrace) (λ e us. and_then (spec.clauses m (in_switch c) m.turns false [] 0 us)
    (λ cs vs. Ok ((S.switch (look_token ts).place e.0 (S.cases cs.0) ∷ [], max e.1 cs.1 + 1), vs)))

-- What stands before the clauses of a `switch`, and the clauses, one by one.
use Rattle.std.specs.Prelude.{ℕ, max, Bool, true, false, List, [], ◌∷◌, ◌++◌, Option, Some, None, Ok, Err}
use Rattle.cc_lexer.specs.declared.token.Mark.TheVariants as mark
use Rattle.cc_grammar.specs.Grammar.{Context}
use Rattle.cc_grammar.specs.RawTree as S
use Rattle.cc_grammar.specs.Reading.{Outcome, Sized, and_then, fault, a_token, look_token, rest_tokens}
use Rattle.cc_grammar.specs.Reading as r
use Rattle.cc_cursor.specs.declared.limits.Limits.{Limits}
use Rattle.cc_statements.specs.declared.clauses.Clause.{Clause}
use Rattle.cc_statements.specs.declared.clauses.Clause.TheVariants as C
use Rattle.cc_cursor.specs.Reads.{within, expect}
use Rattle.cc_statements.specs.ReadsStatements.{Parser, list}
use Rattle.cc_statements.specs.ReadsStatements as spec

-- the expression of a `switch`, and the brace before its clauses
abbrev pub switch_head : Limits → Parser (Sized S.RawExpr)
switch_head m ts = and_then (spec.head m ts) (λ e us. and_then (expect mark.OpenBrace us) (λ _ vs. Ok (e, vs)))

abbrev pub shown : Clause → r.Clause
shown C.Nothing = r.no_clause
shown C.Case = r.is_case
shown C.Default = r.is_default
shown C.Close = r.is_close

abbrev pub is_default : r.Clause → Bool
is_default r.is_default = true
is_default _ = false

abbrev pub case_clause : Limits → Context → Parser (Sized S.RawCase)
case_clause m c ts = and_then ((within m).expr true 0 (rest_tokens ts)) (λ x us. and_then (expect mark.Colon us) (λ _ vs. and_then (list m c m.turns [] 0 vs)
    (λ b ws. Ok ((record { test = S.one_expr x.0; body = b.0 }, max x.1 b.1), ws))))

abbrev pub default_clause : Limits → Context → Parser (Sized S.RawCase)
default_clause m c ts = and_then (expect mark.Colon (rest_tokens ts)) (λ _ us. and_then (list m c m.turns [] 0 us) (λ b vs. Ok ((record { test = S.no_expr; body = b.0 }, b.1), vs)))

abbrev pub some_clause : Parser (Sized S.RawCase) → Parser (Option (Sized S.RawCase))
some_clause p ts = and_then (p ts) (λ x us. Ok (Some x, us))

-- a clause, or none at the brace that ends them
abbrev pub clause : Limits → Context → (seen : Bool) → r.Clause → Parser (Option (Sized S.RawCase))
clause m c seen r.no_clause ts = Err (fault a_token (look_token ts), ts)
clause m c seen r.is_close ts = Ok (None, rest_tokens ts)
clause m c seen r.is_case ts = some_clause (case_clause m c) ts
clause m c true r.is_default ts = Err (fault a_token (look_token ts), ts)
clause m c false r.is_default ts = some_clause (default_clause m c) ts

-- the clauses behind it
abbrev pub behind : Limits → Context → ℕ → Bool → List S.RawCase → ℕ → Option (Sized S.RawCase) → Parser (Sized (List S.RawCase))
behind m c n seen found h None ts = Ok ((found, h), ts)
behind m c n seen found h (Some x) ts = spec.clauses m c n seen (found ++ x.0 ∷ []) (max h x.1) ts

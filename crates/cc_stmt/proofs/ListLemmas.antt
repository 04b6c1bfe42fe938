-- How long a list of tokens without comments is.
use Rattle.std.proofs.Common.{◌+◌, ◌≤◌, Bool, List, [], ◌∷◌, length, length-append, Option, Some, None, arith}
use Rattle.std.specs.Prelude.{is_none}
use Rattle.cc_ast.specs.declared.reading.Refusal.{Refusal}
use Rattle.cc_ast.specs.declared.reading.Refusal.TheVariants as refusal
use Rattle.cc_lexer.specs.declared.token.Token.{Token}
use Rattle.cc_grammar.specs.Symbols.{Kind, stop_of, lexeme, lexemes, kind_of}

stop_short : (s : Option Refusal) → length (stop_of s) ≤ 1
stop_short None = omega arith
stop_short (Some (refusal.NotUtf8 f b)) = omega arith
stop_short (Some (refusal.Limit k p)) = omega arith
stop_short (Some (refusal.Syntax p)) = omega arith
stop_short (Some (refusal.Refused c p)) = omega arith
stop_short (Some (refusal.Undeclared n p)) = omega arith
stop_short (Some (refusal.Redeclared p)) = omega arith
stop_short (Some (refusal.Cycle p)) = omega arith
stop_short (Some refusal.Memory) = omega arith

lexeme_short : (k : Option Kind) (noted : Bool) (t : Token) → length (lexeme k noted t) ≤ 1
lexeme_short None noted t = omega arith
lexeme_short (Some k) noted t = omega arith

pub lexemes_short : (noted : Bool) (ts : List Token) (s : Option Refusal) → length (lexemes noted ts s) ≤ length ts + 1
lexemes_short noted [] s = omega (arith, stop_short s)
lexemes_short noted (t ∷ ts) s =
    let more = is_none (kind_of t.kind) in
    omega (arith, length-append (lexeme (kind_of t.kind) noted t) (lexemes more ts s), lexeme_short (kind_of t.kind) noted t, lexemes_short more ts s)

-- Heights, computed, at a depth of 3. Above each row stands its text.
use Rattle.std.specs.Prelude.{◌≡◌, ℕ, List, [], ◌∷◌, Option, Some, None, map}
use Rattle.std.proofs.Common.{refl}
use Rattle.cc_ast.specs.declared.reading.Construct.TheVariants as construct
use Rattle.cc_lexer.specs.declared.token.Mark.TheVariants as m
use Rattle.cc_lexer.specs.declared.word.Word.TheVariants as w
use Rattle.cc_grammar.specs.Reading.{Outcome, Sized, Cause, syntax, depth, refused}
use Rattle.cc_grammar.specs.Reading as r
use Rattle.cc_grammar.proofs.Pieces.{Piece, name, word, mark, number, end, placed, failure}

-- the cause, and how many tokens stand before the place; none where the list is read
abbrev heights : List (List Piece × Option (Cause × ℕ))
heights =
    -- ( ( ( 1 ) ) )
    (mark m.OpenParen ∷ mark m.OpenParen ∷ mark m.OpenParen ∷ number 1 ∷ mark m.CloseParen ∷ mark m.CloseParen ∷ mark m.CloseParen ∷ end ∷ [], None) ∷
    -- ( ( ( ( 1 ) ) ) )
    (mark m.OpenParen ∷ mark m.OpenParen ∷ mark m.OpenParen ∷ mark m.OpenParen ∷ number 1 ∷ mark m.CloseParen ∷ mark m.CloseParen ∷ mark m.CloseParen ∷ mark m.CloseParen ∷ end ∷ [], Some (depth, 3)) ∷
    -- a + b + c + d
    (name "a" ∷ mark m.Plus ∷ name "b" ∷ mark m.Plus ∷ name "c" ∷ mark m.Plus ∷ name "d" ∷ end ∷ [], None) ∷
    -- a + b + c + d + e
    (name "a" ∷ mark m.Plus ∷ name "b" ∷ mark m.Plus ∷ name "c" ∷ mark m.Plus ∷ name "d" ∷ mark m.Plus ∷ name "e" ∷ end ∷ [], Some (depth, 7)) ∷
    -- - - - - a
    (mark m.Minus ∷ mark m.Minus ∷ mark m.Minus ∷ mark m.Minus ∷ name "a" ∷ end ∷ [], Some (depth, 3)) ∷
    -- { { { { } } } }
    (mark m.OpenBrace ∷ mark m.OpenBrace ∷ mark m.OpenBrace ∷ mark m.OpenBrace ∷ mark m.CloseBrace ∷ mark m.CloseBrace ∷ mark m.CloseBrace ∷ mark m.CloseBrace ∷ end ∷ [], Some (depth, 3)) ∷
    -- { { try { } finally { } } }
    (mark m.OpenBrace ∷ mark m.OpenBrace ∷ word w.Try ∷ mark m.OpenBrace ∷ mark m.CloseBrace ∷ word w.Finally ∷ mark m.OpenBrace ∷ mark m.CloseBrace ∷ mark m.CloseBrace ∷ mark m.CloseBrace ∷ end ∷ [], Some (depth, 2)) ∷
    -- { try { } finally { } }
    (mark m.OpenBrace ∷ word w.Try ∷ mark m.OpenBrace ∷ mark m.CloseBrace ∷ word w.Finally ∷ mark m.OpenBrace ∷ mark m.CloseBrace ∷ mark m.CloseBrace ∷ end ∷ [], None) ∷
    -- a ( ( ( ( b ) ) ) )
    (name "a" ∷ mark m.OpenParen ∷ mark m.OpenParen ∷ mark m.OpenParen ∷ mark m.OpenParen ∷ name "b" ∷ mark m.CloseParen ∷ mark m.CloseParen ∷ mark m.CloseParen ∷ mark m.CloseParen ∷ end ∷ [], Some (depth, 4)) ∷
    -- ( ( ( delete a ) ) )
    (mark m.OpenParen ∷ mark m.OpenParen ∷ mark m.OpenParen ∷ word w.Delete ∷ name "a" ∷ mark m.CloseParen ∷ mark m.CloseParen ∷ mark m.CloseParen ∷ end ∷ [], Some (refused construct.DeleteName, 3)) ∷
    -- ( ( delete ( ( ( a ) ) ) ) )
    (mark m.OpenParen ∷ mark m.OpenParen ∷ word w.Delete ∷ mark m.OpenParen ∷ mark m.OpenParen ∷ mark m.OpenParen ∷ name "a" ∷ mark m.CloseParen ∷ mark m.CloseParen ∷ mark m.CloseParen ∷ mark m.CloseParen ∷ mark m.CloseParen ∷ end ∷ [], Some (refused construct.DeleteName, 2)) ∷
    -- ( ( delete ( ( ( a ) ) ) . b ) )
    (mark m.OpenParen ∷ mark m.OpenParen ∷ word w.Delete ∷ mark m.OpenParen ∷ mark m.OpenParen ∷ mark m.OpenParen ∷ name "a" ∷ mark m.CloseParen ∷ mark m.CloseParen ∷ mark m.CloseParen ∷ mark m.Dot ∷ name "b" ∷ mark m.CloseParen ∷ mark m.CloseParen ∷ end ∷ [], Some (depth, 3)) ∷
    -- ( ( delete ( a ) . b ) )
    (mark m.OpenParen ∷ mark m.OpenParen ∷ word w.Delete ∷ mark m.OpenParen ∷ name "a" ∷ mark m.CloseParen ∷ mark m.Dot ∷ name "b" ∷ mark m.CloseParen ∷ mark m.CloseParen ∷ end ∷ [], Some (depth, 3)) ∷
    -- ( ( delete a . b ) )
    (mark m.OpenParen ∷ mark m.OpenParen ∷ word w.Delete ∷ name "a" ∷ mark m.Dot ∷ name "b" ∷ mark m.CloseParen ∷ mark m.CloseParen ∷ end ∷ [], Some (depth, 4)) ∷
    -- { { { a : b } } }
    (mark m.OpenBrace ∷ mark m.OpenBrace ∷ mark m.OpenBrace ∷ name "a" ∷ mark m.Colon ∷ name "b" ∷ mark m.CloseBrace ∷ mark m.CloseBrace ∷ mark m.CloseBrace ∷ end ∷ [], Some (depth, 4)) ∷
    -- { { { eval : b } } }
    (mark m.OpenBrace ∷ mark m.OpenBrace ∷ mark m.OpenBrace ∷ name "eval" ∷ mark m.Colon ∷ name "b" ∷ mark m.CloseBrace ∷ mark m.CloseBrace ∷ mark m.CloseBrace ∷ end ∷ [], Some (depth, 4)) ∷
    -- { { { eval ; } } }
    (mark m.OpenBrace ∷ mark m.OpenBrace ∷ mark m.OpenBrace ∷ name "eval" ∷ mark m.Semicolon ∷ mark m.CloseBrace ∷ mark m.CloseBrace ∷ mark m.CloseBrace ∷ end ∷ [], Some (refused construct.EvalName, 3)) ∷
    -- ( ( ( ( / a /
    (mark m.OpenParen ∷ mark m.OpenParen ∷ mark m.OpenParen ∷ mark m.OpenParen ∷ mark m.Slash ∷ name "a" ∷ mark m.Slash ∷ end ∷ [], Some (depth, 3)) ∷
    -- ( ( ( / a /
    (mark m.OpenParen ∷ mark m.OpenParen ∷ mark m.OpenParen ∷ mark m.Slash ∷ name "a" ∷ mark m.Slash ∷ end ∷ [], Some (refused construct.RegExp, 3)) ∷
    []

heights_fail : map (λ p. failure (r.read_tokens 40 3 (placed 0 p.0))) heights ≡ map (λ p. p.1) heights
unfolding r.after_catch r.after_head r.after_unary r.arguments r.arguments_of r.array r.assign r.begins_with_name r.block r.block_in r.body r.bracketed r.break r.called r.catch r.choice r.clauses r.climb r.closed r.commas r.conditional r.continue r.declaration r.declarator r.declarators r.do_while r.dotted r.elements r.expect r.expect_end r.expect_word r.expr_of r.field r.finally r.for r.for_in r.for_rest r.function r.function_expr r.head r.head_of r.list r.new_expr r.object r.object_fields r.opened r.optional r.otherwise r.own_name r.params r.params_of r.parentheses r.plain r.postfix r.prefix_expr r.prefixed r.primary r.program r.reader r.return r.stmt_of r.suffixes r.switch r.throw r.try r.variable r.vars r.while r.read_tokens
heights_fail = refl

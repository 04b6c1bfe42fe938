-- Lists that aren't read, computed: where no semicolon may be inserted, and where a rule on targets, labels or jumps is broken. Above
-- each row stands its text, in which `@` is a line end and `#` a place where no token begins.
use Rattle.std.specs.Prelude.{◌≡◌, ℕ, List, [], ◌∷◌, Option, Some, map}
use Rattle.std.proofs.Common.{refl}
use Rattle.cc_lexer.specs.declared.token.Mark.TheVariants as m
use Rattle.cc_lexer.specs.declared.word.Word.TheVariants as w
use Rattle.cc_grammar.specs.Reading.{Outcome, Sized, Cause, syntax, depth, refused}
use Rattle.cc_grammar.specs.Reading as r
use Rattle.cc_grammar.proofs.Pieces.{Piece, name, word, mark, number, end, stopped, line, placed, failure}

-- the cause, and how many tokens stand before the place
abbrev faults : List (List Piece × Option (Cause × ℕ))
faults =
    -- { 1 2 } 3
    (mark m.OpenBrace ∷ number 1 ∷ number 2 ∷ mark m.CloseBrace ∷ number 3 ∷ end ∷ [], Some (syntax, 2)) ∷
    -- for ( a ; b @ )
    (word w.For ∷ mark m.OpenParen ∷ name "a" ∷ mark m.Semicolon ∷ name "b" ∷ line (mark m.CloseParen) ∷ end ∷ [], Some (syntax, 5)) ∷
    -- if ( a > b ) @ else c = d
    (word w.If ∷ mark m.OpenParen ∷ name "a" ∷ mark m.Greater ∷ name "b" ∷ mark m.CloseParen ∷ line (word w.Else) ∷ name "c" ∷ mark m.Equal ∷ name "d" ∷ end ∷ [], Some (syntax, 6)) ∷
    -- throw @ a
    (word w.Throw ∷ line (name "a") ∷ end ∷ [], Some (syntax, 1)) ∷
    -- do a ; while ( b ) c
    (word w.Do ∷ name "a" ∷ mark m.Semicolon ∷ word w.While ∷ mark m.OpenParen ∷ name "b" ∷ mark m.CloseParen ∷ name "c" ∷ end ∷ [], Some (syntax, 7)) ∷
    -- if ( a ) b else c
    (word w.If ∷ mark m.OpenParen ∷ name "a" ∷ mark m.CloseParen ∷ name "b" ∷ word w.Else ∷ name "c" ∷ end ∷ [], Some (syntax, 5)) ∷
    -- while ( a )
    (word w.While ∷ mark m.OpenParen ∷ name "a" ∷ mark m.CloseParen ∷ end ∷ [], Some (syntax, 4)) ∷
    -- a b
    (name "a" ∷ name "b" ∷ end ∷ [], Some (syntax, 1)) ∷
    -- for ( @ ; ; )
    (word w.For ∷ mark m.OpenParen ∷ line (mark m.Semicolon) ∷ mark m.Semicolon ∷ mark m.CloseParen ∷ end ∷ [], Some (syntax, 5)) ∷
    -- a ++ b
    (name "a" ∷ mark m.PlusPlus ∷ name "b" ∷ end ∷ [], Some (syntax, 2)) ∷
    -- for ( ; ; ) { break l }
    (word w.For ∷ mark m.OpenParen ∷ mark m.Semicolon ∷ mark m.Semicolon ∷ mark m.CloseParen ∷ mark m.OpenBrace ∷ word w.Break ∷ name "l" ∷ mark m.CloseBrace ∷ end ∷ [], Some (syntax, 7)) ∷
    -- l : { break }
    (name "l" ∷ mark m.Colon ∷ mark m.OpenBrace ∷ word w.Break ∷ mark m.CloseBrace ∷ end ∷ [], Some (syntax, 4)) ∷
    -- l : { continue l }
    (name "l" ∷ mark m.Colon ∷ mark m.OpenBrace ∷ word w.Continue ∷ name "l" ∷ mark m.CloseBrace ∷ end ∷ [], Some (syntax, 3)) ∷
    -- l : l : a
    (name "l" ∷ mark m.Colon ∷ name "l" ∷ mark m.Colon ∷ name "a" ∷ end ∷ [], Some (syntax, 3)) ∷
    -- return a
    (word w.Return ∷ name "a" ∷ end ∷ [], Some (syntax, 0)) ∷
    -- break
    (word w.Break ∷ end ∷ [], Some (syntax, 0)) ∷
    -- switch ( a ) { default : default : }
    (word w.Switch ∷ mark m.OpenParen ∷ name "a" ∷ mark m.CloseParen ∷ mark m.OpenBrace ∷ word w.Default ∷ mark m.Colon ∷ word w.Default ∷ mark m.Colon ∷ mark m.CloseBrace ∷ end ∷ [], Some (syntax, 7)) ∷
    -- f ( ) = 1
    (name "f" ∷ mark m.OpenParen ∷ mark m.CloseParen ∷ mark m.Equal ∷ number 1 ∷ end ∷ [], Some (syntax, 3)) ∷
    -- f ( ) ++
    (name "f" ∷ mark m.OpenParen ∷ mark m.CloseParen ∷ mark m.PlusPlus ∷ end ∷ [], Some (syntax, 3)) ∷
    -- ++ f ( )
    (mark m.PlusPlus ∷ name "f" ∷ mark m.OpenParen ∷ mark m.CloseParen ∷ end ∷ [], Some (syntax, 4)) ∷
    -- ++ - a
    (mark m.PlusPlus ∷ mark m.Minus ∷ name "a" ∷ end ∷ [], Some (syntax, 3)) ∷
    -- for ( f ( ) in b ) c
    (word w.For ∷ mark m.OpenParen ∷ name "f" ∷ mark m.OpenParen ∷ mark m.CloseParen ∷ word w.In ∷ name "b" ∷ mark m.CloseParen ∷ name "c" ∷ end ∷ [], Some (syntax, 5)) ∷
    -- a + b = c
    (name "a" ∷ mark m.Plus ∷ name "b" ∷ mark m.Equal ∷ name "c" ∷ end ∷ [], Some (syntax, 3)) ∷
    -- (
    (mark m.OpenParen ∷ end ∷ [], Some (syntax, 1)) ∷
    -- f ( a , )
    (name "f" ∷ mark m.OpenParen ∷ name "a" ∷ mark m.Comma ∷ mark m.CloseParen ∷ end ∷ [], Some (syntax, 4)) ∷
    -- try { }
    (word w.Try ∷ mark m.OpenBrace ∷ mark m.CloseBrace ∷ end ∷ [], Some (syntax, 3)) ∷
    -- a # b
    (name "a" ∷ stopped ∷ name "b" ∷ end ∷ [], Some (syntax, 1)) ∷
    -- var @ ;
    (word w.Var ∷ line (mark m.Semicolon) ∷ end ∷ [], Some (syntax, 1)) ∷
    -- l : for ( ; ; ) { continue a }
    (name "l" ∷ mark m.Colon ∷ word w.For ∷ mark m.OpenParen ∷ mark m.Semicolon ∷ mark m.Semicolon ∷ mark m.CloseParen ∷ mark m.OpenBrace ∷ word w.Continue ∷ name "a" ∷ mark m.CloseBrace ∷ end ∷ [], Some (syntax, 9)) ∷
    []

faults_fail : map (λ p. failure (r.read_tokens 40 8 (placed 0 p.0))) faults ≡ map (λ p. p.1) faults
unfolding r.after_catch r.after_head r.after_unary r.arguments r.arguments_of r.array r.assign r.begins_with_name r.block r.block_in r.body r.bracketed r.break r.called r.catch r.choice r.clauses r.climb r.closed r.commas r.conditional r.continue r.declaration r.declarator r.declarators r.do_while r.dotted r.elements r.expect r.expect_end r.expect_word r.expr_of r.field r.finally r.for r.for_in r.for_rest r.function r.function_expr r.head r.head_of r.list r.new_expr r.object r.object_fields r.opened r.optional r.otherwise r.own_name r.params r.params_of r.parentheses r.plain r.postfix r.prefix_expr r.prefixed r.primary r.program r.reader r.return r.stmt_of r.suffixes r.switch r.throw r.try r.variable r.vars r.while r.read_tokens
faults_fail = refl

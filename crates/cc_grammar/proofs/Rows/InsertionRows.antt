-- Insertions: the examples of ECMA-262 5.1, 7.9.2, and of the restricted productions, computed. Above each row stands its text, in which
-- `@` is a line end, and the text as which it is read.
use Rattle.std.specs.Prelude.{◌≡◌, List, [], ◌∷◌, true, replicate, map}
use Rattle.std.proofs.Common.{refl}
use Rattle.cc_lexer.specs.declared.token.Mark.TheVariants as m
use Rattle.cc_lexer.specs.declared.word.Word.TheVariants as w
use Rattle.cc_grammar.specs.Reading.{Outcome, Sized, Cause, syntax, depth, refused}
use Rattle.cc_grammar.specs.Reading as r
use Rattle.cc_grammar.proofs.Pieces.{Piece, name, word, mark, number, end, line, placeless, tree, is_whole}

-- with the semicolons that are inserted, and with semicolons that are written
abbrev insertions : List (List Piece × List Piece)
insertions =
    -- { 1 @ 2 } 3   as   { 1 ; 2 ; } 3 ;
    (
      mark m.OpenBrace ∷ number 1 ∷ line (number 2) ∷ mark m.CloseBrace ∷ number 3 ∷ end ∷ [],
      mark m.OpenBrace ∷ number 1 ∷ mark m.Semicolon ∷ number 2 ∷ mark m.Semicolon ∷ mark m.CloseBrace ∷ number 3 ∷ mark m.Semicolon ∷ end ∷ [],
    ) ∷
    -- function f ( ) { return @ a + b }   as   function f ( ) { return ; a + b ; }
    (
      word w.Function ∷ name "f" ∷ mark m.OpenParen ∷ mark m.CloseParen ∷ mark m.OpenBrace ∷ word w.Return ∷ line (name "a") ∷ mark m.Plus ∷ name "b" ∷ mark m.CloseBrace ∷ end ∷ [],
      word w.Function ∷ name "f" ∷ mark m.OpenParen ∷ mark m.CloseParen ∷ mark m.OpenBrace ∷ word w.Return ∷ mark m.Semicolon ∷ name "a" ∷ mark m.Plus ∷ name "b" ∷ mark m.Semicolon ∷ mark m.CloseBrace ∷ end ∷ [],
    ) ∷
    -- a = b @ ++ c   as   a = b ; ++ c ;
    (
      name "a" ∷ mark m.Equal ∷ name "b" ∷ line (mark m.PlusPlus) ∷ name "c" ∷ end ∷ [],
      name "a" ∷ mark m.Equal ∷ name "b" ∷ mark m.Semicolon ∷ mark m.PlusPlus ∷ name "c" ∷ mark m.Semicolon ∷ end ∷ [],
    ) ∷
    -- a = b + c @ ( d + e ) . print ( )   as   a = b + c ( d + e ) . print ( ) ;
    (
      name "a" ∷ mark m.Equal ∷ name "b" ∷ mark m.Plus ∷ name "c" ∷ line (mark m.OpenParen) ∷ name "d" ∷ mark m.Plus ∷ name "e" ∷ mark m.CloseParen ∷ mark m.Dot ∷ name "print" ∷ mark m.OpenParen ∷ mark m.CloseParen ∷ end ∷ [],
      name "a" ∷ mark m.Equal ∷ name "b" ∷ mark m.Plus ∷ name "c" ∷ mark m.OpenParen ∷ name "d" ∷ mark m.Plus ∷ name "e" ∷ mark m.CloseParen ∷ mark m.Dot ∷ name "print" ∷ mark m.OpenParen ∷ mark m.CloseParen ∷ mark m.Semicolon ∷ end ∷ [],
    ) ∷
    -- a @ ++ @ b   as   a ; ++ b ;
    (
      name "a" ∷ line (mark m.PlusPlus) ∷ line (name "b") ∷ end ∷ [],
      name "a" ∷ mark m.Semicolon ∷ mark m.PlusPlus ∷ name "b" ∷ mark m.Semicolon ∷ end ∷ [],
    ) ∷
    -- a @ -- @ b   as   a ; -- b ;
    (
      name "a" ∷ line (mark m.MinusMinus) ∷ line (name "b") ∷ end ∷ [],
      name "a" ∷ mark m.Semicolon ∷ mark m.MinusMinus ∷ name "b" ∷ mark m.Semicolon ∷ end ∷ [],
    ) ∷
    -- l : for ( ; ; ) { break @ l }   as   l : for ( ; ; ) { break ; l ; }
    (
      name "l" ∷ mark m.Colon ∷ word w.For ∷ mark m.OpenParen ∷ mark m.Semicolon ∷ mark m.Semicolon ∷ mark m.CloseParen ∷ mark m.OpenBrace ∷ word w.Break ∷ line (name "l") ∷ mark m.CloseBrace ∷ end ∷ [],
      name "l" ∷ mark m.Colon ∷ word w.For ∷ mark m.OpenParen ∷ mark m.Semicolon ∷ mark m.Semicolon ∷ mark m.CloseParen ∷ mark m.OpenBrace ∷ word w.Break ∷ mark m.Semicolon ∷ name "l" ∷ mark m.Semicolon ∷ mark m.CloseBrace ∷ end ∷ [],
    ) ∷
    -- l : for ( ; ; ) { continue @ l }   as   l : for ( ; ; ) { continue ; l ; }
    (
      name "l" ∷ mark m.Colon ∷ word w.For ∷ mark m.OpenParen ∷ mark m.Semicolon ∷ mark m.Semicolon ∷ mark m.CloseParen ∷ mark m.OpenBrace ∷ word w.Continue ∷ line (name "l") ∷ mark m.CloseBrace ∷ end ∷ [],
      name "l" ∷ mark m.Colon ∷ word w.For ∷ mark m.OpenParen ∷ mark m.Semicolon ∷ mark m.Semicolon ∷ mark m.CloseParen ∷ mark m.OpenBrace ∷ word w.Continue ∷ mark m.Semicolon ∷ name "l" ∷ mark m.Semicolon ∷ mark m.CloseBrace ∷ end ∷ [],
    ) ∷
    -- l : for ( ; ; ) { break l }   as   l : for ( ; ; ) { break l ; }
    (
      name "l" ∷ mark m.Colon ∷ word w.For ∷ mark m.OpenParen ∷ mark m.Semicolon ∷ mark m.Semicolon ∷ mark m.CloseParen ∷ mark m.OpenBrace ∷ word w.Break ∷ name "l" ∷ mark m.CloseBrace ∷ end ∷ [],
      name "l" ∷ mark m.Colon ∷ word w.For ∷ mark m.OpenParen ∷ mark m.Semicolon ∷ mark m.Semicolon ∷ mark m.CloseParen ∷ mark m.OpenBrace ∷ word w.Break ∷ name "l" ∷ mark m.Semicolon ∷ mark m.CloseBrace ∷ end ∷ [],
    ) ∷
    -- throw a @ + b   as   throw a + b ;
    (
      word w.Throw ∷ name "a" ∷ line (mark m.Plus) ∷ name "b" ∷ end ∷ [],
      word w.Throw ∷ name "a" ∷ mark m.Plus ∷ name "b" ∷ mark m.Semicolon ∷ end ∷ [],
    ) ∷
    -- function f ( ) { return a @ + b }   as   function f ( ) { return a + b ; }
    (
      word w.Function ∷ name "f" ∷ mark m.OpenParen ∷ mark m.CloseParen ∷ mark m.OpenBrace ∷ word w.Return ∷ name "a" ∷ line (mark m.Plus) ∷ name "b" ∷ mark m.CloseBrace ∷ end ∷ [],
      word w.Function ∷ name "f" ∷ mark m.OpenParen ∷ mark m.CloseParen ∷ mark m.OpenBrace ∷ word w.Return ∷ name "a" ∷ mark m.Plus ∷ name "b" ∷ mark m.Semicolon ∷ mark m.CloseBrace ∷ end ∷ [],
    ) ∷
    -- function f ( ) { return }   as   function f ( ) { return ; }
    (
      word w.Function ∷ name "f" ∷ mark m.OpenParen ∷ mark m.CloseParen ∷ mark m.OpenBrace ∷ word w.Return ∷ mark m.CloseBrace ∷ end ∷ [],
      word w.Function ∷ name "f" ∷ mark m.OpenParen ∷ mark m.CloseParen ∷ mark m.OpenBrace ∷ word w.Return ∷ mark m.Semicolon ∷ mark m.CloseBrace ∷ end ∷ [],
    ) ∷
    -- var a = 1 @ b   as   var a = 1 ; b ;
    (
      word w.Var ∷ name "a" ∷ mark m.Equal ∷ number 1 ∷ line (name "b") ∷ end ∷ [],
      word w.Var ∷ name "a" ∷ mark m.Equal ∷ number 1 ∷ mark m.Semicolon ∷ name "b" ∷ mark m.Semicolon ∷ end ∷ [],
    ) ∷
    -- var a @ = 1   as   var a = 1 ;
    (
      word w.Var ∷ name "a" ∷ line (mark m.Equal) ∷ number 1 ∷ end ∷ [],
      word w.Var ∷ name "a" ∷ mark m.Equal ∷ number 1 ∷ mark m.Semicolon ∷ end ∷ [],
    ) ∷
    -- do a @ while ( b ) @ c   as   do a ; while ( b ) ; c ;
    (
      word w.Do ∷ name "a" ∷ line (word w.While) ∷ mark m.OpenParen ∷ name "b" ∷ mark m.CloseParen ∷ line (name "c") ∷ end ∷ [],
      word w.Do ∷ name "a" ∷ mark m.Semicolon ∷ word w.While ∷ mark m.OpenParen ∷ name "b" ∷ mark m.CloseParen ∷ mark m.Semicolon ∷ name "c" ∷ mark m.Semicolon ∷ end ∷ [],
    ) ∷
    -- if ( a ) b @ else c   as   if ( a ) b ; else c ;
    (
      word w.If ∷ mark m.OpenParen ∷ name "a" ∷ mark m.CloseParen ∷ name "b" ∷ line (word w.Else) ∷ name "c" ∷ end ∷ [],
      word w.If ∷ mark m.OpenParen ∷ name "a" ∷ mark m.CloseParen ∷ name "b" ∷ mark m.Semicolon ∷ word w.Else ∷ name "c" ∷ mark m.Semicolon ∷ end ∷ [],
    ) ∷
    -- if ( a ) if ( b ) c ; else d   as   if ( a ) { if ( b ) c ; else d ; }
    (
      word w.If ∷ mark m.OpenParen ∷ name "a" ∷ mark m.CloseParen ∷ word w.If ∷ mark m.OpenParen ∷ name "b" ∷ mark m.CloseParen ∷ name "c" ∷ mark m.Semicolon ∷ word w.Else ∷ name "d" ∷ end ∷ [],
      word w.If ∷ mark m.OpenParen ∷ name "a" ∷ mark m.CloseParen ∷ mark m.OpenBrace ∷ word w.If ∷ mark m.OpenParen ∷ name "b" ∷ mark m.CloseParen ∷ name "c" ∷ mark m.Semicolon ∷ word w.Else ∷ name "d" ∷ mark m.Semicolon ∷ mark m.CloseBrace ∷ end ∷ [],
    ) ∷
    -- a @ b @ c   as   a ; b ; c ;
    (
      name "a" ∷ line (name "b") ∷ line (name "c") ∷ end ∷ [],
      name "a" ∷ mark m.Semicolon ∷ name "b" ∷ mark m.Semicolon ∷ name "c" ∷ mark m.Semicolon ∷ end ∷ [],
    ) ∷
    -- a @ / b / c   as   a / b / c ;
    (
      name "a" ∷ line (mark m.Slash) ∷ name "b" ∷ mark m.Slash ∷ name "c" ∷ end ∷ [],
      name "a" ∷ mark m.Slash ∷ name "b" ∷ mark m.Slash ∷ name "c" ∷ mark m.Semicolon ∷ end ∷ [],
    ) ∷
    -- a @ [ 0 ] @ . b   as   a [ 0 ] . b ;
    (
      name "a" ∷ line (mark m.OpenBracket) ∷ number 0 ∷ mark m.CloseBracket ∷ line (mark m.Dot) ∷ name "b" ∷ end ∷ [],
      name "a" ∷ mark m.OpenBracket ∷ number 0 ∷ mark m.CloseBracket ∷ mark m.Dot ∷ name "b" ∷ mark m.Semicolon ∷ end ∷ [],
    ) ∷
    []

insertions_read : map (λ p. tree (r.read_tokens 40 9 (placeless p.0))) insertions ≡ map (λ p. tree (r.read_tokens 40 9 (placeless p.1))) insertions
unfolding r.after_catch r.after_head r.after_unary r.arguments r.arguments_of r.array r.assign r.begins_with_name r.block r.block_in r.body r.bracketed r.break r.called r.catch r.choice r.clauses r.climb r.closed r.commas r.conditional r.continue r.declaration r.declarator r.declarators r.do_while r.dotted r.elements r.expect r.expect_end r.expect_word r.expr_of r.field r.finally r.for r.for_in r.for_rest r.function r.function_expr r.head r.head_of r.list r.new_expr r.object r.object_fields r.opened r.optional r.otherwise r.own_name r.params r.params_of r.parentheses r.plain r.postfix r.prefix_expr r.prefixed r.primary r.program r.reader r.return r.stmt_of r.suffixes r.switch r.throw r.try r.variable r.vars r.while r.read_tokens
insertions_read = refl

insertions_whole : map (λ p. is_whole (tree (r.read_tokens 40 9 (placeless p.0)))) insertions ≡ replicate 20 true
unfolding r.after_catch r.after_head r.after_unary r.arguments r.arguments_of r.array r.assign r.begins_with_name r.block r.block_in r.body r.bracketed r.break r.called r.catch r.choice r.clauses r.climb r.closed r.commas r.conditional r.continue r.declaration r.declarator r.declarators r.do_while r.dotted r.elements r.expect r.expect_end r.expect_word r.expr_of r.field r.finally r.for r.for_in r.for_rest r.function r.function_expr r.head r.head_of r.list r.new_expr r.object r.object_fields r.opened r.optional r.otherwise r.own_name r.params r.params_of r.parentheses r.plain r.postfix r.prefix_expr r.prefixed r.primary r.program r.reader r.return r.stmt_of r.suffixes r.switch r.throw r.try r.variable r.vars r.while r.read_tokens
insertions_whole = refl

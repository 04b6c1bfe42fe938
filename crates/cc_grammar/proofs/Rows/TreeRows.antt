-- Trees, computed. Above each row stand two texts that are read alike.
use Rattle.std.specs.Prelude.{◌≡◌, List, [], ◌∷◌, true, replicate, map}
use Rattle.std.proofs.Common.{refl}
use Rattle.cc_lexer.specs.declared.token.Mark.TheVariants as m
use Rattle.cc_lexer.specs.declared.word.Word.TheVariants as w
use Rattle.cc_grammar.specs.Reading.{Outcome, Sized, Cause, syntax, depth, refused}
use Rattle.cc_grammar.specs.Reading as r
use Rattle.cc_grammar.proofs.Pieces.{Piece, name, word, mark, number, end, line, placeless, tree, is_whole}

-- grouping, and what may stand
abbrev groups : List (List Piece × List Piece)
groups =
    -- a . class ; a . with ; a . eval   as   a . class ; a . with ; a . eval ;
    (
      name "a" ∷ mark m.Dot ∷ word w.Class ∷ mark m.Semicolon ∷ name "a" ∷ mark m.Dot ∷ word w.With ∷ mark m.Semicolon ∷ name "a" ∷ mark m.Dot ∷ name "eval" ∷ end ∷ [],
      name "a" ∷ mark m.Dot ∷ word w.Class ∷ mark m.Semicolon ∷ name "a" ∷ mark m.Dot ∷ word w.With ∷ mark m.Semicolon ∷ name "a" ∷ mark m.Dot ∷ name "eval" ∷ mark m.Semicolon ∷ end ∷ [],
    ) ∷
    -- eval : for ( ; ; ) { break eval }   as   eval : for ( ; ; ) { break eval ; }
    (
      name "eval" ∷ mark m.Colon ∷ word w.For ∷ mark m.OpenParen ∷ mark m.Semicolon ∷ mark m.Semicolon ∷ mark m.CloseParen ∷ mark m.OpenBrace ∷ word w.Break ∷ name "eval" ∷ mark m.CloseBrace ∷ end ∷ [],
      name "eval" ∷ mark m.Colon ∷ word w.For ∷ mark m.OpenParen ∷ mark m.Semicolon ∷ mark m.Semicolon ∷ mark m.CloseParen ∷ mark m.OpenBrace ∷ word w.Break ∷ name "eval" ∷ mark m.Semicolon ∷ mark m.CloseBrace ∷ end ∷ [],
    ) ∷
    -- delete a . b   as   delete a . b ;
    (
      word w.Delete ∷ name "a" ∷ mark m.Dot ∷ name "b" ∷ end ∷ [],
      word w.Delete ∷ name "a" ∷ mark m.Dot ∷ name "b" ∷ mark m.Semicolon ∷ end ∷ [],
    ) ∷
    -- delete ( a ) ( )   as   delete a ( ) ;
    (
      word w.Delete ∷ mark m.OpenParen ∷ name "a" ∷ mark m.CloseParen ∷ mark m.OpenParen ∷ mark m.CloseParen ∷ end ∷ [],
      word w.Delete ∷ name "a" ∷ mark m.OpenParen ∷ mark m.CloseParen ∷ mark m.Semicolon ∷ end ∷ [],
    ) ∷
    -- delete a ++   as   delete ( a ++ ) ;
    (
      word w.Delete ∷ name "a" ∷ mark m.PlusPlus ∷ end ∷ [],
      word w.Delete ∷ mark m.OpenParen ∷ name "a" ∷ mark m.PlusPlus ∷ mark m.CloseParen ∷ mark m.Semicolon ∷ end ∷ [],
    ) ∷
    -- ( { get : 1 , set : 2 , class : 3 , } )   as   ( { get : 1 , set : 2 , class : 3 } ) ;
    (
      mark m.OpenParen ∷ mark m.OpenBrace ∷ name "get" ∷ mark m.Colon ∷ number 1 ∷ mark m.Comma ∷ name "set" ∷ mark m.Colon ∷ number 2 ∷ mark m.Comma ∷ word w.Class ∷ mark m.Colon ∷ number 3 ∷ mark m.Comma ∷ mark m.CloseBrace ∷ mark m.CloseParen ∷ end ∷ [],
      mark m.OpenParen ∷ mark m.OpenBrace ∷ name "get" ∷ mark m.Colon ∷ number 1 ∷ mark m.Comma ∷ name "set" ∷ mark m.Colon ∷ number 2 ∷ mark m.Comma ∷ word w.Class ∷ mark m.Colon ∷ number 3 ∷ mark m.CloseBrace ∷ mark m.CloseParen ∷ mark m.Semicolon ∷ end ∷ [],
    ) ∷
    -- [ a , ]   as   [ a ] ;
    (
      mark m.OpenBracket ∷ name "a" ∷ mark m.Comma ∷ mark m.CloseBracket ∷ end ∷ [],
      mark m.OpenBracket ∷ name "a" ∷ mark m.CloseBracket ∷ mark m.Semicolon ∷ end ∷ [],
    ) ∷
    -- new new a ( b ) ( c ) . d   as   ( new ( new a ( b ) ) ( c ) ) . d ;
    (
      word w.New ∷ word w.New ∷ name "a" ∷ mark m.OpenParen ∷ name "b" ∷ mark m.CloseParen ∷ mark m.OpenParen ∷ name "c" ∷ mark m.CloseParen ∷ mark m.Dot ∷ name "d" ∷ end ∷ [],
      mark m.OpenParen ∷ word w.New ∷ mark m.OpenParen ∷ word w.New ∷ name "a" ∷ mark m.OpenParen ∷ name "b" ∷ mark m.CloseParen ∷ mark m.CloseParen ∷ mark m.OpenParen ∷ name "c" ∷ mark m.CloseParen ∷ mark m.CloseParen ∷ mark m.Dot ∷ name "d" ∷ mark m.Semicolon ∷ end ∷ [],
    ) ∷
    -- new a . b ( c ) ( d )   as   ( new ( a . b ) ( c ) ) ( d ) ;
    (
      word w.New ∷ name "a" ∷ mark m.Dot ∷ name "b" ∷ mark m.OpenParen ∷ name "c" ∷ mark m.CloseParen ∷ mark m.OpenParen ∷ name "d" ∷ mark m.CloseParen ∷ end ∷ [],
      mark m.OpenParen ∷ word w.New ∷ mark m.OpenParen ∷ name "a" ∷ mark m.Dot ∷ name "b" ∷ mark m.CloseParen ∷ mark m.OpenParen ∷ name "c" ∷ mark m.CloseParen ∷ mark m.CloseParen ∷ mark m.OpenParen ∷ name "d" ∷ mark m.CloseParen ∷ mark m.Semicolon ∷ end ∷ [],
    ) ∷
    -- new a   as   new a ( ) ;
    (
      word w.New ∷ name "a" ∷ end ∷ [],
      word w.New ∷ name "a" ∷ mark m.OpenParen ∷ mark m.CloseParen ∷ mark m.Semicolon ∷ end ∷ [],
    ) ∷
    -- a + b * c - d   as   ( a + ( b * c ) ) - d ;
    (
      name "a" ∷ mark m.Plus ∷ name "b" ∷ mark m.Star ∷ name "c" ∷ mark m.Minus ∷ name "d" ∷ end ∷ [],
      mark m.OpenParen ∷ name "a" ∷ mark m.Plus ∷ mark m.OpenParen ∷ name "b" ∷ mark m.Star ∷ name "c" ∷ mark m.CloseParen ∷ mark m.CloseParen ∷ mark m.Minus ∷ name "d" ∷ mark m.Semicolon ∷ end ∷ [],
    ) ∷
    -- a && b || c && d   as   ( a && b ) || ( c && d ) ;
    (
      name "a" ∷ mark m.AmpersandAmpersand ∷ name "b" ∷ mark m.BarBar ∷ name "c" ∷ mark m.AmpersandAmpersand ∷ name "d" ∷ end ∷ [],
      mark m.OpenParen ∷ name "a" ∷ mark m.AmpersandAmpersand ∷ name "b" ∷ mark m.CloseParen ∷ mark m.BarBar ∷ mark m.OpenParen ∷ name "c" ∷ mark m.AmpersandAmpersand ∷ name "d" ∷ mark m.CloseParen ∷ mark m.Semicolon ∷ end ∷ [],
    ) ∷
    -- a ? b : c ? d : e   as   a ? b : ( c ? d : e ) ;
    (
      name "a" ∷ mark m.Question ∷ name "b" ∷ mark m.Colon ∷ name "c" ∷ mark m.Question ∷ name "d" ∷ mark m.Colon ∷ name "e" ∷ end ∷ [],
      name "a" ∷ mark m.Question ∷ name "b" ∷ mark m.Colon ∷ mark m.OpenParen ∷ name "c" ∷ mark m.Question ∷ name "d" ∷ mark m.Colon ∷ name "e" ∷ mark m.CloseParen ∷ mark m.Semicolon ∷ end ∷ [],
    ) ∷
    -- a = b = c , d   as   ( a = ( b = c ) ) , d ;
    (
      name "a" ∷ mark m.Equal ∷ name "b" ∷ mark m.Equal ∷ name "c" ∷ mark m.Comma ∷ name "d" ∷ end ∷ [],
      mark m.OpenParen ∷ name "a" ∷ mark m.Equal ∷ mark m.OpenParen ∷ name "b" ∷ mark m.Equal ∷ name "c" ∷ mark m.CloseParen ∷ mark m.CloseParen ∷ mark m.Comma ∷ name "d" ∷ mark m.Semicolon ∷ end ∷ [],
    ) ∷
    -- for ( var a = 1 in b ) c   as   for ( var a = ( 1 ) in b ) { c ; }
    (
      word w.For ∷ mark m.OpenParen ∷ word w.Var ∷ name "a" ∷ mark m.Equal ∷ number 1 ∷ word w.In ∷ name "b" ∷ mark m.CloseParen ∷ name "c" ∷ end ∷ [],
      word w.For ∷ mark m.OpenParen ∷ word w.Var ∷ name "a" ∷ mark m.Equal ∷ mark m.OpenParen ∷ number 1 ∷ mark m.CloseParen ∷ word w.In ∷ name "b" ∷ mark m.CloseParen ∷ mark m.OpenBrace ∷ name "c" ∷ mark m.Semicolon ∷ mark m.CloseBrace ∷ end ∷ [],
    ) ∷
    -- for ( a . b in c ) ;   as   for ( ( a . b ) in c ) { }
    (
      word w.For ∷ mark m.OpenParen ∷ name "a" ∷ mark m.Dot ∷ name "b" ∷ word w.In ∷ name "c" ∷ mark m.CloseParen ∷ mark m.Semicolon ∷ end ∷ [],
      word w.For ∷ mark m.OpenParen ∷ mark m.OpenParen ∷ name "a" ∷ mark m.Dot ∷ name "b" ∷ mark m.CloseParen ∷ word w.In ∷ name "c" ∷ mark m.CloseParen ∷ mark m.OpenBrace ∷ mark m.CloseBrace ∷ end ∷ [],
    ) ∷
    -- for ( var a = b ? ( c in d ) : e ; ; ) ;   as   for ( var a = ( b ? ( c in d ) : e ) ; ; ) { }
    (
      word w.For ∷ mark m.OpenParen ∷ word w.Var ∷ name "a" ∷ mark m.Equal ∷ name "b" ∷ mark m.Question ∷ mark m.OpenParen ∷ name "c" ∷ word w.In ∷ name "d" ∷ mark m.CloseParen ∷ mark m.Colon ∷ name "e" ∷ mark m.Semicolon ∷ mark m.Semicolon ∷ mark m.CloseParen ∷ mark m.Semicolon ∷ end ∷ [],
      word w.For ∷ mark m.OpenParen ∷ word w.Var ∷ name "a" ∷ mark m.Equal ∷ mark m.OpenParen ∷ name "b" ∷ mark m.Question ∷ mark m.OpenParen ∷ name "c" ∷ word w.In ∷ name "d" ∷ mark m.CloseParen ∷ mark m.Colon ∷ name "e" ∷ mark m.CloseParen ∷ mark m.Semicolon ∷ mark m.Semicolon ∷ mark m.CloseParen ∷ mark m.OpenBrace ∷ mark m.CloseBrace ∷ end ∷ [],
    ) ∷
    -- ( a ) = 1 ; - 5 ; void 0   as   a = 1 ; - ( 5 ) ; void ( 0 ) ;
    (
      mark m.OpenParen ∷ name "a" ∷ mark m.CloseParen ∷ mark m.Equal ∷ number 1 ∷ mark m.Semicolon ∷ mark m.Minus ∷ number 5 ∷ mark m.Semicolon ∷ word w.Void ∷ number 0 ∷ end ∷ [],
      name "a" ∷ mark m.Equal ∷ number 1 ∷ mark m.Semicolon ∷ mark m.Minus ∷ mark m.OpenParen ∷ number 5 ∷ mark m.CloseParen ∷ mark m.Semicolon ∷ word w.Void ∷ mark m.OpenParen ∷ number 0 ∷ mark m.CloseParen ∷ mark m.Semicolon ∷ end ∷ [],
    ) ∷
    -- typeof - a ++   as   typeof ( - ( a ++ ) ) ;
    (
      word w.Typeof ∷ mark m.Minus ∷ name "a" ∷ mark m.PlusPlus ∷ end ∷ [],
      word w.Typeof ∷ mark m.OpenParen ∷ mark m.Minus ∷ mark m.OpenParen ∷ name "a" ∷ mark m.PlusPlus ∷ mark m.CloseParen ∷ mark m.CloseParen ∷ mark m.Semicolon ∷ end ∷ [],
    ) ∷
    -- try { } catch ( e ) { } finally { }   as   try { } catch ( e ) { ; } finally { { } }
    (
      word w.Try ∷ mark m.OpenBrace ∷ mark m.CloseBrace ∷ word w.Catch ∷ mark m.OpenParen ∷ name "e" ∷ mark m.CloseParen ∷ mark m.OpenBrace ∷ mark m.CloseBrace ∷ word w.Finally ∷ mark m.OpenBrace ∷ mark m.CloseBrace ∷ end ∷ [],
      word w.Try ∷ mark m.OpenBrace ∷ mark m.CloseBrace ∷ word w.Catch ∷ mark m.OpenParen ∷ name "e" ∷ mark m.CloseParen ∷ mark m.OpenBrace ∷ mark m.Semicolon ∷ mark m.CloseBrace ∷ word w.Finally ∷ mark m.OpenBrace ∷ mark m.OpenBrace ∷ mark m.CloseBrace ∷ mark m.CloseBrace ∷ end ∷ [],
    ) ∷
    -- switch ( a ) { case 1 : b @ default : c @ case 2 : }   as   switch ( a ) { case 1 : { b ; } default : c ; case ( 2 ) : ; }
    (
      word w.Switch ∷ mark m.OpenParen ∷ name "a" ∷ mark m.CloseParen ∷ mark m.OpenBrace ∷ word w.Case ∷ number 1 ∷ mark m.Colon ∷ name "b" ∷ line (word w.Default) ∷ mark m.Colon ∷ name "c" ∷ line (word w.Case) ∷ number 2 ∷ mark m.Colon ∷ mark m.CloseBrace ∷ end ∷ [],
      word w.Switch ∷ mark m.OpenParen ∷ name "a" ∷ mark m.CloseParen ∷ mark m.OpenBrace ∷ word w.Case ∷ number 1 ∷ mark m.Colon ∷ mark m.OpenBrace ∷ name "b" ∷ mark m.Semicolon ∷ mark m.CloseBrace ∷ word w.Default ∷ mark m.Colon ∷ name "c" ∷ mark m.Semicolon ∷ word w.Case ∷ mark m.OpenParen ∷ number 2 ∷ mark m.CloseParen ∷ mark m.Colon ∷ mark m.Semicolon ∷ mark m.CloseBrace ∷ end ∷ [],
    ) ∷
    -- var f = function g ( x , y ) { return x } ; ( function ( ) { } )   as   var f = ( function g ( x , y ) { return x ; } ) ; ( function ( ) { } ) ;
    (
      word w.Var ∷ name "f" ∷ mark m.Equal ∷ word w.Function ∷ name "g" ∷ mark m.OpenParen ∷ name "x" ∷ mark m.Comma ∷ name "y" ∷ mark m.CloseParen ∷ mark m.OpenBrace ∷ word w.Return ∷ name "x" ∷ mark m.CloseBrace ∷ mark m.Semicolon ∷ mark m.OpenParen ∷ word w.Function ∷ mark m.OpenParen ∷ mark m.CloseParen ∷ mark m.OpenBrace ∷ mark m.CloseBrace ∷ mark m.CloseParen ∷ end ∷ [],
      word w.Var ∷ name "f" ∷ mark m.Equal ∷ mark m.OpenParen ∷ word w.Function ∷ name "g" ∷ mark m.OpenParen ∷ name "x" ∷ mark m.Comma ∷ name "y" ∷ mark m.CloseParen ∷ mark m.OpenBrace ∷ word w.Return ∷ name "x" ∷ mark m.Semicolon ∷ mark m.CloseBrace ∷ mark m.CloseParen ∷ mark m.Semicolon ∷ mark m.OpenParen ∷ word w.Function ∷ mark m.OpenParen ∷ mark m.CloseParen ∷ mark m.OpenBrace ∷ mark m.CloseBrace ∷ mark m.CloseParen ∷ mark m.Semicolon ∷ end ∷ [],
    ) ∷
    []

groups_read : map (λ p. tree (r.read_tokens 40 9 (placeless p.0))) groups ≡ map (λ p. tree (r.read_tokens 40 9 (placeless p.1))) groups
unfolding r.after_catch r.after_head r.after_unary r.arguments r.arguments_of r.array r.assign r.begins_with_name r.block r.block_in r.body r.bracketed r.break r.called r.catch r.choice r.clauses r.climb r.closed r.commas r.conditional r.continue r.declaration r.declarator r.declarators r.do_while r.dotted r.elements r.expect r.expect_end r.expect_word r.expr_of r.field r.finally r.for r.for_in r.for_rest r.function r.function_expr r.head r.head_of r.list r.new_expr r.object r.object_fields r.opened r.optional r.otherwise r.own_name r.params r.params_of r.parentheses r.plain r.postfix r.prefix_expr r.prefixed r.primary r.program r.reader r.return r.stmt_of r.suffixes r.switch r.throw r.try r.variable r.vars r.while r.read_tokens
groups_read = refl

groups_whole : map (λ p. is_whole (tree (r.read_tokens 40 9 (placeless p.0)))) groups ≡ replicate 22 true
unfolding r.after_catch r.after_head r.after_unary r.arguments r.arguments_of r.array r.assign r.begins_with_name r.block r.block_in r.body r.bracketed r.break r.called r.catch r.choice r.clauses r.climb r.closed r.commas r.conditional r.continue r.declaration r.declarator r.declarators r.do_while r.dotted r.elements r.expect r.expect_end r.expect_word r.expr_of r.field r.finally r.for r.for_in r.for_rest r.function r.function_expr r.head r.head_of r.list r.new_expr r.object r.object_fields r.opened r.optional r.otherwise r.own_name r.params r.params_of r.parentheses r.plain r.postfix r.prefix_expr r.prefixed r.primary r.program r.reader r.return r.stmt_of r.suffixes r.switch r.throw r.try r.variable r.vars r.while r.read_tokens
groups_whole = refl

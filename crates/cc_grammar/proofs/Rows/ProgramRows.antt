-- Two programs and a fault of each kind, computed: a program with semicolons that are inserted, another cut off behind each of its tokens
-- and within its string, and a great depth. Above each row stands its text, in which `@` is a line end.
use Rattle.std.specs.Prelude.{◌≡◌, ℕ, List, [], ◌∷◌, Option, Some, None, true, replicate, map, ◌++◌}
use Rattle.std.proofs.Common.{refl}
use Rattle.cc_ast.specs.declared.reading.Construct.TheVariants as construct
use Rattle.cc_lexer.specs.declared.token.Mark.TheVariants as m
use Rattle.cc_lexer.specs.declared.word.Word.TheVariants as w
use Rattle.cc_grammar.specs.Reading.{Outcome, Sized, Cause, syntax, depth, refused}
use Rattle.cc_grammar.specs.Reading as r
use Rattle.cc_grammar.proofs.Pieces.{Piece, name, word, mark, number, text, end, stopped, line, placed, placeless, failure, tree, is_whole}

-- with the semicolons that are inserted, and with semicolons that are written
abbrev programs : List (List Piece × List Piece)
programs =
    -- function f ( x ) { @ return @ x @ } @ var a = 1 , b = 2 @ a @ ++ b @ alert ( f ( b ) )   as   function f ( x ) { return ; x ; } var a = 1 , b = 2 ; a ; ++ b ; alert ( f ( b ) ) ;
    (
      word w.Function ∷ name "f" ∷ mark m.OpenParen ∷ name "x" ∷ mark m.CloseParen ∷ mark m.OpenBrace ∷ line (word w.Return) ∷ line (name "x") ∷ line (mark m.CloseBrace) ∷ line (word w.Var) ∷ name "a" ∷ mark m.Equal ∷ number 1 ∷ mark m.Comma ∷ name "b" ∷ mark m.Equal ∷ number 2 ∷ line (name "a") ∷ line (mark m.PlusPlus) ∷ name "b" ∷ line (name "alert") ∷ mark m.OpenParen ∷ name "f" ∷ mark m.OpenParen ∷ name "b" ∷ mark m.CloseParen ∷ mark m.CloseParen ∷ end ∷ [],
      word w.Function ∷ name "f" ∷ mark m.OpenParen ∷ name "x" ∷ mark m.CloseParen ∷ mark m.OpenBrace ∷ word w.Return ∷ mark m.Semicolon ∷ name "x" ∷ mark m.Semicolon ∷ mark m.CloseBrace ∷ word w.Var ∷ name "a" ∷ mark m.Equal ∷ number 1 ∷ mark m.Comma ∷ name "b" ∷ mark m.Equal ∷ number 2 ∷ mark m.Semicolon ∷ name "a" ∷ mark m.Semicolon ∷ mark m.PlusPlus ∷ name "b" ∷ mark m.Semicolon ∷ name "alert" ∷ mark m.OpenParen ∷ name "f" ∷ mark m.OpenParen ∷ name "b" ∷ mark m.CloseParen ∷ mark m.CloseParen ∷ mark m.Semicolon ∷ end ∷ [],
    ) ∷
    -- var greeting = 'hi' ; alert ( greeting )   as   var greeting = 'hi' ; alert ( greeting ) ;
    (
      word w.Var ∷ name "greeting" ∷ mark m.Equal ∷ text "hi" ∷ mark m.Semicolon ∷ name "alert" ∷ mark m.OpenParen ∷ name "greeting" ∷ mark m.CloseParen ∷ end ∷ [],
      word w.Var ∷ name "greeting" ∷ mark m.Equal ∷ text "hi" ∷ mark m.Semicolon ∷ name "alert" ∷ mark m.OpenParen ∷ name "greeting" ∷ mark m.CloseParen ∷ mark m.Semicolon ∷ end ∷ [],
    ) ∷
    []

programs_read : map (λ p. tree (r.read_tokens 40 9 (placeless p.0))) programs ≡ map (λ p. tree (r.read_tokens 40 9 (placeless p.1))) programs
unfolding r.after_catch r.after_head r.after_unary r.arguments r.arguments_of r.array r.assign r.begins_with_name r.block r.block_in r.body r.bracketed r.break r.called r.catch r.choice r.clauses r.climb r.closed r.commas r.conditional r.continue r.declaration r.declarator r.declarators r.do_while r.dotted r.elements r.expect r.expect_end r.expect_word r.expr_of r.field r.finally r.for r.for_in r.for_rest r.function r.function_expr r.head r.head_of r.list r.new_expr r.object r.object_fields r.opened r.optional r.otherwise r.own_name r.params r.params_of r.parentheses r.plain r.postfix r.prefix_expr r.prefixed r.primary r.program r.reader r.return r.stmt_of r.suffixes r.switch r.throw r.try r.variable r.vars r.while r.read_tokens
programs_read = refl

programs_whole : map (λ p. is_whole (tree (r.read_tokens 40 9 (placeless p.0)))) programs ≡ replicate 2 true
unfolding r.after_catch r.after_head r.after_unary r.arguments r.arguments_of r.array r.assign r.begins_with_name r.block r.block_in r.body r.bracketed r.break r.called r.catch r.choice r.clauses r.climb r.closed r.commas r.conditional r.continue r.declaration r.declarator r.declarators r.do_while r.dotted r.elements r.expect r.expect_end r.expect_word r.expr_of r.field r.finally r.for r.for_in r.for_rest r.function r.function_expr r.head r.head_of r.list r.new_expr r.object r.object_fields r.opened r.optional r.otherwise r.own_name r.params r.params_of r.parentheses r.plain r.postfix r.prefix_expr r.prefixed r.primary r.program r.reader r.return r.stmt_of r.suffixes r.switch r.throw r.try r.variable r.vars r.while r.read_tokens
programs_whole = refl

-- the cause, and how many tokens stand before the place; none where the list is read
abbrev fronts_of_program : List (List Piece × Option (Cause × ℕ))
fronts_of_program =
    --
    (end ∷ [], None) ∷
    -- va
    (name "va" ∷ end ∷ [], None) ∷
    -- var
    (word w.Var ∷ end ∷ [], Some (syntax, 1)) ∷
    -- var greeting
    (word w.Var ∷ name "greeting" ∷ end ∷ [], None) ∷
    -- var greeting =
    (word w.Var ∷ name "greeting" ∷ mark m.Equal ∷ end ∷ [], Some (syntax, 3)) ∷
    -- var greeting =
    (word w.Var ∷ name "greeting" ∷ mark m.Equal ∷ stopped ∷ [], Some (syntax, 3)) ∷
    -- var greeting = 'hi'
    (word w.Var ∷ name "greeting" ∷ mark m.Equal ∷ text "hi" ∷ end ∷ [], None) ∷
    -- var greeting = 'hi' ;
    (word w.Var ∷ name "greeting" ∷ mark m.Equal ∷ text "hi" ∷ mark m.Semicolon ∷ end ∷ [], None) ∷
    -- var greeting = 'hi' ; alert
    (word w.Var ∷ name "greeting" ∷ mark m.Equal ∷ text "hi" ∷ mark m.Semicolon ∷ name "alert" ∷ end ∷ [], None) ∷
    -- var greeting = 'hi' ; alert (
    (word w.Var ∷ name "greeting" ∷ mark m.Equal ∷ text "hi" ∷ mark m.Semicolon ∷ name "alert" ∷ mark m.OpenParen ∷ end ∷ [], Some (syntax, 7)) ∷
    -- var greeting = 'hi' ; alert ( greeting
    (word w.Var ∷ name "greeting" ∷ mark m.Equal ∷ text "hi" ∷ mark m.Semicolon ∷ name "alert" ∷ mark m.OpenParen ∷ name "greeting" ∷ end ∷ [], Some (syntax, 8)) ∷
    -- var greeting = 'hi' ; alert ( greeting )
    (word w.Var ∷ name "greeting" ∷ mark m.Equal ∷ text "hi" ∷ mark m.Semicolon ∷ name "alert" ∷ mark m.OpenParen ∷ name "greeting" ∷ mark m.CloseParen ∷ end ∷ [], None) ∷
    -- with ( o ) { }
    (word w.With ∷ mark m.OpenParen ∷ name "o" ∷ mark m.CloseParen ∷ mark m.OpenBrace ∷ mark m.CloseBrace ∷ end ∷ [], Some (refused construct.With, 0)) ∷
    -- var r = / a / ;
    (word w.Var ∷ name "r" ∷ mark m.Equal ∷ mark m.Slash ∷ name "a" ∷ mark m.Slash ∷ mark m.Semicolon ∷ end ∷ [], Some (refused construct.RegExp, 3)) ∷
    -- (
    (mark m.OpenParen ∷ end ∷ [], Some (syntax, 1)) ∷
    []

fronts_of_program_fail : map (λ p. failure (r.read_tokens 40 8 (placed 0 p.0))) fronts_of_program ≡ map (λ p. p.1) fronts_of_program
unfolding r.after_catch r.after_head r.after_unary r.arguments r.arguments_of r.array r.assign r.begins_with_name r.block r.block_in r.body r.bracketed r.break r.called r.catch r.choice r.clauses r.climb r.closed r.commas r.conditional r.continue r.declaration r.declarator r.declarators r.do_while r.dotted r.elements r.expect r.expect_end r.expect_word r.expr_of r.field r.finally r.for r.for_in r.for_rest r.function r.function_expr r.head r.head_of r.list r.new_expr r.object r.object_fields r.opened r.optional r.otherwise r.own_name r.params r.params_of r.parentheses r.plain r.postfix r.prefix_expr r.prefixed r.primary r.program r.reader r.return r.stmt_of r.suffixes r.switch r.throw r.try r.variable r.vars r.while r.read_tokens
fronts_of_program_fail = refl

-- so many pairs of parentheses round 1
abbrev nested : ℕ → List Piece
nested n = replicate n (mark m.OpenParen) ++ number 1 ∷ replicate n (mark m.CloseParen) ++ mark m.Semicolon ∷ end ∷ []

deepest : failure (r.read_tokens 600 256 (placed 0 (nested 256))) ≡ None
unfolding r.after_catch r.after_head r.after_unary r.arguments r.arguments_of r.array r.assign r.begins_with_name r.block r.block_in r.body r.bracketed r.break r.called r.catch r.choice r.clauses r.climb r.closed r.commas r.conditional r.continue r.declaration r.declarator r.declarators r.do_while r.dotted r.elements r.expect r.expect_end r.expect_word r.expr_of r.field r.finally r.for r.for_in r.for_rest r.function r.function_expr r.head r.head_of r.list r.new_expr r.object r.object_fields r.opened r.optional r.otherwise r.own_name r.params r.params_of r.parentheses r.plain r.postfix r.prefix_expr r.prefixed r.primary r.program r.reader r.return r.stmt_of r.suffixes r.switch r.throw r.try r.variable r.vars r.while r.read_tokens
deepest = refl

too_deep : failure (r.read_tokens 600 256 (placed 0 (nested 257))) ≡ Some (depth, 256)
unfolding r.after_catch r.after_head r.after_unary r.arguments r.arguments_of r.array r.assign r.begins_with_name r.block r.block_in r.body r.bracketed r.break r.called r.catch r.choice r.clauses r.climb r.closed r.commas r.conditional r.continue r.declaration r.declarator r.declarators r.do_while r.dotted r.elements r.expect r.expect_end r.expect_word r.expr_of r.field r.finally r.for r.for_in r.for_rest r.function r.function_expr r.head r.head_of r.list r.new_expr r.object r.object_fields r.opened r.optional r.otherwise r.own_name r.params r.params_of r.parentheses r.plain r.postfix r.prefix_expr r.prefixed r.primary r.program r.reader r.return r.stmt_of r.suffixes r.switch r.throw r.try r.variable r.vars r.while r.read_tokens
too_deep = refl

-- Refused constructs, computed. Above each row stands its text, in which `@` is a line end.
use Rattle.std.specs.Prelude.{◌≡◌, ℕ, List, [], ◌∷◌, Option, Some, map}
use Rattle.std.proofs.Common.{refl}
use Rattle.cc_ast.specs.declared.reading.Construct.TheVariants as construct
use Rattle.cc_lexer.specs.declared.token.Mark.TheVariants as m
use Rattle.cc_lexer.specs.declared.word.Word.TheVariants as w
use Rattle.cc_grammar.specs.Reading.{Outcome, Sized, Cause, syntax, depth, refused}
use Rattle.cc_grammar.specs.Reading as r
use Rattle.cc_grammar.proofs.Pieces.{Piece, name, word, mark, number, end, line, placed, failure}

-- the cause, and how many tokens stand before the place
abbrev constructs : List (List Piece × Option (Cause × ℕ))
constructs =
    -- with ( o ) { }
    (word w.With ∷ mark m.OpenParen ∷ name "o" ∷ mark m.CloseParen ∷ mark m.OpenBrace ∷ mark m.CloseBrace ∷ end ∷ [], Some (refused construct.With, 0)) ∷
    -- a with
    (name "a" ∷ word w.With ∷ end ∷ [], Some (refused construct.With, 1)) ∷
    -- var r = / a /
    (word w.Var ∷ name "r" ∷ mark m.Equal ∷ mark m.Slash ∷ name "a" ∷ mark m.Slash ∷ end ∷ [], Some (refused construct.RegExp, 3)) ∷
    -- a = /= b /
    (name "a" ∷ mark m.Equal ∷ mark m.SlashEqual ∷ name "b" ∷ mark m.Slash ∷ end ∷ [], Some (refused construct.RegExp, 2)) ∷
    -- if ( a ) / b /
    (word w.If ∷ mark m.OpenParen ∷ name "a" ∷ mark m.CloseParen ∷ mark m.Slash ∷ name "b" ∷ mark m.Slash ∷ end ∷ [], Some (refused construct.RegExp, 4)) ∷
    -- function f ( ) { return @ / a / }
    (word w.Function ∷ name "f" ∷ mark m.OpenParen ∷ mark m.CloseParen ∷ mark m.OpenBrace ∷ word w.Return ∷ line (mark m.Slash) ∷ name "a" ∷ mark m.Slash ∷ mark m.CloseBrace ∷ end ∷ [], Some (refused construct.RegExp, 6)) ∷
    -- debugger
    (word w.Debugger ∷ end ∷ [], Some (refused construct.Debugger, 0)) ∷
    -- ( { get a ( ) { } } )
    (mark m.OpenParen ∷ mark m.OpenBrace ∷ name "get" ∷ name "a" ∷ mark m.OpenParen ∷ mark m.CloseParen ∷ mark m.OpenBrace ∷ mark m.CloseBrace ∷ mark m.CloseBrace ∷ mark m.CloseParen ∷ end ∷ [], Some (refused construct.Accessor, 2)) ∷
    -- eval ( a )
    (name "eval" ∷ mark m.OpenParen ∷ name "a" ∷ mark m.CloseParen ∷ end ∷ [], Some (refused construct.EvalName, 0)) ∷
    -- var arguments
    (word w.Var ∷ name "arguments" ∷ end ∷ [], Some (refused construct.ArgumentsName, 1)) ∷
    -- a = eval
    (name "a" ∷ mark m.Equal ∷ name "eval" ∷ end ∷ [], Some (refused construct.EvalName, 2)) ∷
    -- { function f ( ) { } }
    (mark m.OpenBrace ∷ word w.Function ∷ name "f" ∷ mark m.OpenParen ∷ mark m.CloseParen ∷ mark m.OpenBrace ∷ mark m.CloseBrace ∷ mark m.CloseBrace ∷ end ∷ [], Some (refused construct.BlockFunction, 1)) ∷
    -- if ( a ) function f ( ) { }
    (word w.If ∷ mark m.OpenParen ∷ name "a" ∷ mark m.CloseParen ∷ word w.Function ∷ name "f" ∷ mark m.OpenParen ∷ mark m.CloseParen ∷ mark m.OpenBrace ∷ mark m.CloseBrace ∷ end ∷ [], Some (refused construct.BlockFunction, 4)) ∷
    -- { a @ function f ( ) { } }
    (mark m.OpenBrace ∷ name "a" ∷ line (word w.Function) ∷ name "f" ∷ mark m.OpenParen ∷ mark m.CloseParen ∷ mark m.OpenBrace ∷ mark m.CloseBrace ∷ mark m.CloseBrace ∷ end ∷ [], Some (refused construct.BlockFunction, 2)) ∷
    -- class
    (word w.Class ∷ end ∷ [], Some (refused construct.LaterWord, 0)) ∷
    -- a = super
    (name "a" ∷ mark m.Equal ∷ word w.Super ∷ end ∷ [], Some (refused construct.LaterWord, 2)) ∷
    -- [ , ]
    (mark m.OpenBracket ∷ mark m.Comma ∷ mark m.CloseBracket ∷ end ∷ [], Some (refused construct.Hole, 1)) ∷
    -- [ a , , b ]
    (mark m.OpenBracket ∷ name "a" ∷ mark m.Comma ∷ mark m.Comma ∷ name "b" ∷ mark m.CloseBracket ∷ end ∷ [], Some (refused construct.Hole, 3)) ∷
    -- delete a
    (word w.Delete ∷ name "a" ∷ end ∷ [], Some (refused construct.DeleteName, 0)) ∷
    -- delete ( ( a ) ) @ ++ b
    (word w.Delete ∷ mark m.OpenParen ∷ mark m.OpenParen ∷ name "a" ∷ mark m.CloseParen ∷ mark m.CloseParen ∷ line (mark m.PlusPlus) ∷ name "b" ∷ end ∷ [], Some (refused construct.DeleteName, 0)) ∷
    -- a . b + delete ( a ) + 1
    (name "a" ∷ mark m.Dot ∷ name "b" ∷ mark m.Plus ∷ word w.Delete ∷ mark m.OpenParen ∷ name "a" ∷ mark m.CloseParen ∷ mark m.Plus ∷ number 1 ∷ end ∷ [], Some (refused construct.DeleteName, 4)) ∷
    -- eval : eval : a
    (name "eval" ∷ mark m.Colon ∷ name "eval" ∷ mark m.Colon ∷ name "a" ∷ end ∷ [], Some (syntax, 3)) ∷
    -- eval : eval
    (name "eval" ∷ mark m.Colon ∷ name "eval" ∷ end ∷ [], Some (refused construct.EvalName, 2)) ∷
    -- { a function
    (mark m.OpenBrace ∷ name "a" ∷ word w.Function ∷ end ∷ [], Some (syntax, 2)) ∷
    -- ++ f ( ) / a /
    (mark m.PlusPlus ∷ name "f" ∷ mark m.OpenParen ∷ mark m.CloseParen ∷ mark m.Slash ∷ name "a" ∷ mark m.Slash ∷ end ∷ [], Some (syntax, 4)) ∷
    -- throw @ / a /
    (word w.Throw ∷ line (mark m.Slash) ∷ name "a" ∷ mark m.Slash ∷ end ∷ [], Some (syntax, 1)) ∷
    []

constructs_fail : map (λ p. failure (r.read_tokens 40 8 (placed 0 p.0))) constructs ≡ map (λ p. p.1) constructs
unfolding r.after_catch r.after_head r.after_unary r.arguments r.arguments_of r.array r.assign r.begins_with_name r.block r.block_in r.body r.bracketed r.break r.called r.catch r.choice r.clauses r.climb r.closed r.commas r.conditional r.continue r.declaration r.declarator r.declarators r.do_while r.dotted r.elements r.expect r.expect_end r.expect_word r.expr_of r.field r.finally r.for r.for_in r.for_rest r.function r.function_expr r.head r.head_of r.list r.new_expr r.object r.object_fields r.opened r.optional r.otherwise r.own_name r.params r.params_of r.parentheses r.plain r.postfix r.prefix_expr r.prefixed r.primary r.program r.reader r.return r.stmt_of r.suffixes r.switch r.throw r.try r.variable r.vars r.while r.read_tokens
constructs_fail = refl

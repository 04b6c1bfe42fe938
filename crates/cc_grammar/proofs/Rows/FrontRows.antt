-- Fronts, computed: lists that no token follows, which are read up to where they stop. Above each row stands its text, in which `@` is a line end.
use Rattle.std.specs.Prelude.{◌≡◌, ℕ, List, [], ◌∷◌, Option, Some, map}
use Rattle.std.proofs.Common.{refl}
use Rattle.cc_ast.specs.declared.reading.Construct.TheVariants as construct
use Rattle.cc_lexer.specs.declared.token.Mark.TheVariants as m
use Rattle.cc_lexer.specs.declared.word.Word.TheVariants as w
use Rattle.cc_grammar.specs.Reading.{Outcome, Sized, Cause, syntax, depth, refused}
use Rattle.cc_grammar.specs.Reading as r
use Rattle.cc_grammar.proofs.Pieces.{Piece, name, word, mark, stopped, placed, failure}

-- the cause, and how many tokens stand before the place
abbrev fronts : List (List Piece × Option (Cause × ℕ))
fronts =
    --
    (stopped ∷ [], Some (syntax, 0)) ∷
    -- (
    (mark m.OpenParen ∷ stopped ∷ [], Some (syntax, 1)) ∷
    -- a +
    (name "a" ∷ mark m.Plus ∷ stopped ∷ [], Some (syntax, 2)) ∷
    -- ++ -
    (mark m.PlusPlus ∷ mark m.Minus ∷ stopped ∷ [], Some (syntax, 2)) ∷
    -- ++ - a
    (mark m.PlusPlus ∷ mark m.Minus ∷ name "a" ∷ stopped ∷ [], Some (syntax, 3)) ∷
    -- ++ - a ;
    (mark m.PlusPlus ∷ mark m.Minus ∷ name "a" ∷ mark m.Semicolon ∷ stopped ∷ [], Some (syntax, 3)) ∷
    -- delete ( a
    (word w.Delete ∷ mark m.OpenParen ∷ name "a" ∷ stopped ∷ [], Some (syntax, 3)) ∷
    -- if ( a ) b ;
    (word w.If ∷ mark m.OpenParen ∷ name "a" ∷ mark m.CloseParen ∷ name "b" ∷ mark m.Semicolon ∷ stopped ∷ [], Some (syntax, 6)) ∷
    -- for ( a in
    (word w.For ∷ mark m.OpenParen ∷ name "a" ∷ word w.In ∷ stopped ∷ [], Some (syntax, 4)) ∷
    -- for ( f ( ) in
    (word w.For ∷ mark m.OpenParen ∷ name "f" ∷ mark m.OpenParen ∷ mark m.CloseParen ∷ word w.In ∷ stopped ∷ [], Some (syntax, 5)) ∷
    -- for ( var a , b
    (word w.For ∷ mark m.OpenParen ∷ word w.Var ∷ name "a" ∷ mark m.Comma ∷ name "b" ∷ stopped ∷ [], Some (syntax, 6)) ∷
    -- eval :
    (name "eval" ∷ mark m.Colon ∷ stopped ∷ [], Some (syntax, 2)) ∷
    -- eval ;
    (name "eval" ∷ mark m.Semicolon ∷ stopped ∷ [], Some (refused construct.EvalName, 0)) ∷
    -- ( { get
    (mark m.OpenParen ∷ mark m.OpenBrace ∷ name "get" ∷ stopped ∷ [], Some (syntax, 3)) ∷
    -- ( { class
    (mark m.OpenParen ∷ mark m.OpenBrace ∷ word w.Class ∷ stopped ∷ [], Some (syntax, 3)) ∷
    -- function f ( ) { return
    (word w.Function ∷ name "f" ∷ mark m.OpenParen ∷ mark m.CloseParen ∷ mark m.OpenBrace ∷ word w.Return ∷ stopped ∷ [], Some (syntax, 6)) ∷
    -- l : for ( ; ; ) { continue
    (name "l" ∷ mark m.Colon ∷ word w.For ∷ mark m.OpenParen ∷ mark m.Semicolon ∷ mark m.Semicolon ∷ mark m.CloseParen ∷ mark m.OpenBrace ∷ word w.Continue ∷ stopped ∷ [], Some (syntax, 9)) ∷
    -- a @
    (name "a" ∷ stopped ∷ [], Some (syntax, 1)) ∷
    []

fronts_fail : map (λ p. failure (r.read_tokens 40 8 (placed 0 p.0))) fronts ≡ map (λ p. p.1) fronts
unfolding r.after_catch r.after_head r.after_unary r.arguments r.arguments_of r.array r.assign r.begins_with_name r.block r.block_in r.body r.bracketed r.break r.called r.catch r.choice r.clauses r.climb r.closed r.commas r.conditional r.continue r.declaration r.declarator r.declarators r.do_while r.dotted r.elements r.expect r.expect_end r.expect_word r.expr_of r.field r.finally r.for r.for_in r.for_rest r.function r.function_expr r.head r.head_of r.list r.new_expr r.object r.object_fields r.opened r.optional r.otherwise r.own_name r.params r.params_of r.parentheses r.plain r.postfix r.prefix_expr r.prefixed r.primary r.program r.reader r.return r.stmt_of r.suffixes r.switch r.throw r.try r.variable r.vars r.while r.read_tokens
fronts_fail = refl

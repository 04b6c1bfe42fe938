-- Reading: expressions (ECMA-262 5.1, 11).
use Rattle.std.specs.Prelude.{ℕ, zero, suc, ◌+◌, max, Bool, true, false, ◌&&◌, if◌then◌else◌, ◌==◌, nat_lt, List, [], ◌∷◌, ◌++◌, Err, Option, Some, None, is_some}
use Rattle.cc_ast.specs.declared.operator.BinOp.{BinOp}
use Rattle.cc_ast.specs.declared.place.Place.{Place}
use Rattle.cc_ast.specs.declared.reading.Construct.{Construct}
use Rattle.cc_ast.specs.declared.reading.Construct.TheVariants as construct
use Rattle.cc_ast.specs.Syntax.{Prim, undefined}
use Rattle.cc_lexer.specs.declared.token.Mark.{Mark}
use Rattle.cc_lexer.specs.declared.token.Mark.TheVariants as mark
use Rattle.cc_lexer.specs.declared.word.Word.{Word}
use Rattle.cc_grammar.specs.Symbols.{Lexeme, is_mark}
use Rattle.cc_grammar.specs.RawTree.{RawExpr, RawTarget, RawStmt, RawKey, RawField, RawDeclarator, RawCase, RawInit, RawCatch, RawFinally, MaybeExpr, Named, exprs, fields, cases, stmts}
use Rattle.cc_grammar.specs.RawTree as raw
use Rattle.cc_grammar.specs.Signs.{Prefix, unary, step, Infix, parenthesised, key_of, property_of, is_accessor, target_of, step_of, prefix_of, prefix_tree, infix_of, level, infix_tree, assign_of}
use Rattle.cc_grammar.specs.Grammar.{Context, of_function}
use Rattle.cc_grammar.specs.ReadingParts.{Cause, Fault, Due, refused_there, either, fault, Sized, Outcome, and_then, ◌>>=◌, ◌>>◌, allowed, variable_of, Head, head_by, head_of, Suffix, suffix_of, is_ending, is_element, is_remedy, is_delete, goes_on, ends_return, label_by, label_of, is_some_label, Clause, clause_of, ends_list, Start, start_of, syntax, depth, spent, refused, a_token, a_variable, an_operand, no_head, is_this, is_operand, is_paren, is_array, is_object, is_function, is_new, is_literal, is_variable, no_suffix, by_dot, by_bracket, by_call, no_clause, is_case, is_default, is_close, is_block, is_vars, is_empty, is_if, is_do, is_while, is_for, is_continue, is_break, is_return, is_switch, is_throw, is_try, is_declaration, is_any, is_plain, is_name}
use Rattle.cc_grammar.specs.ReadingParts as parts

module _ (S : Type 0) (see : S → Lexeme) (go : S → S) (semicolon : S → Outcome S (Unit {0})) where
  abbrev Parser : Type 0 → Type 0
  Parser A = S → Outcome S A

  abbrev pure : {A : Type 0} → A → Parser A
  pure x = parts.pure S see go semicolon x

  abbrev fail : {A : Type 0} → Due → Parser A
  fail x = parts.fail S see go semicolon x

  abbrev stops : {A : Type 0} → Cause → Parser A
  stops x = parts.stops S see go semicolon x

  abbrev refuse : {A : Type 0} → Construct → Place → Parser A
  refuse x y = parts.refuse S see go semicolon x y

  abbrev peek : Parser Lexeme
  peek = parts.peek S see go semicolon

  abbrev take : Parser Lexeme
  take = parts.take S see go semicolon

  abbrev expect : Mark → Parser (Unit {0})
  expect = parts.expect S see go semicolon

  abbrev expect_word : Word → Parser (Unit {0})
  expect_word = parts.expect_word S see go semicolon

  abbrev variable_by : Option (List ℕ) → Parser Named
  variable_by = parts.variable_by S see go semicolon

  abbrev variable : Parser Named
  variable = parts.variable S see go semicolon

  abbrev params : ℕ → List Named → Parser (List Named)
  params = parts.params S see go semicolon

  abbrev params_of : ℕ → Parser (List Named)
  params_of = parts.params_of S see go semicolon

  abbrev own_name_by : Option (List ℕ) → Bool → Parser (Option Named)
  own_name_by = parts.own_name_by S see go semicolon

  abbrev own_name : Parser (Option Named)
  own_name = parts.own_name S see go semicolon

  abbrev closed : ℕ → Parser Bool
  closed = parts.closed S see go semicolon

  abbrev opened : ℕ → ℕ → Parser Bool
  opened = parts.opened S see go semicolon

  abbrev unless_deleted : {A : Type 0} → Outcome S Bool → Place → Outcome S A → Outcome S A
  unless_deleted x y z = parts.unless_deleted S see go semicolon x y z

  abbrev Inner : Type 0
  Inner = parts.Inner S see go semicolon

  abbrev no_depth : Inner
  no_depth = parts.no_depth S see go semicolon

  -- `turns` bounds the lengths of lists
  module _ (d turns : ℕ) (inner : Inner) where
    -- what makes a tree of a height h higher
    abbrev deeper : {A : Type 0} → ℕ → Parser A → Parser A
    deeper h p = λ i. if nat_lt h d then p i else Err (record { cause = depth; place = (see i).place }, i)

    -- ---- lists of expressions and statements

    unfoldable pub elements : ℕ → List RawExpr → ℕ → Parser (Sized (List RawExpr))
    elements zero found h = stops spent
    elements (suc m) found h = do
      t ← peek
      if is_mark mark.CloseBracket t.kind then take >> pure (found, h)
          else (if is_element t.kind then take >> expect mark.CloseBracket >> pure (found, h)
          else (if is_mark mark.Comma t.kind then stops (refused construct.Hole) else (do
            x ← inner.expr true 1
            u ← peek
            if is_mark mark.Comma u.kind then take >> elements m (found ++ x.0 ∷ []) (max h x.1)
                else (expect mark.CloseBracket >> pure (found ++ x.0 ∷ [], max h x.1)))))

    -- `get` or `set` before another key is refused
    abbrev pub key_by : Option RawKey → Parser (Place × RawKey)
    key_by None = fail a_token
    key_by (Some y) = do
      t ← take
      u ← peek
      if is_accessor t.kind && is_some (key_of u.kind) then refuse construct.Accessor t.place else pure (t.place, y)

    unfoldable pub field : Parser (Sized RawField)
    field = do
      t ← peek
      y ← key_by (key_of t.kind)
      expect mark.Colon
      x ← inner.expr true 1
      pure (record { place = y.0; key = y.1; value = x.0 }, x.1)

    unfoldable pub object_fields : ℕ → List RawField → ℕ → Parser (Sized (List RawField))
    object_fields zero found h = stops spent
    object_fields (suc m) found h = do
      t ← peek
      if is_mark mark.CloseBrace t.kind then take >> pure (found, h) else (do
        x ← field
        u ← peek
        if is_mark mark.Comma u.kind then take >> object_fields m (found ++ x.0 ∷ []) (max h x.1)
            else (expect mark.CloseBrace >> pure (found ++ x.0 ∷ [], max h x.1)))

    unfoldable pub arguments : ℕ → List RawExpr → ℕ → Parser (Sized (List RawExpr))
    arguments zero found h = stops spent
    arguments (suc m) found h = do
      x ← inner.expr true 1
      t ← peek
      if is_mark mark.Comma t.kind then take >> arguments m (found ++ x.0 ∷ []) (max h x.1)
          else (expect mark.CloseParen >> pure (found ++ x.0 ∷ [], max h x.1))

    unfoldable pub arguments_of : Parser (Sized (List RawExpr))
    arguments_of = do
      t ← peek
      if is_mark mark.CloseParen t.kind then take >> pure ([], 0) else arguments turns [] 0

    unfoldable pub list : Context → ℕ → List RawStmt → ℕ → Parser (Sized (List RawStmt))
    list c zero found h = stops spent
    list c (suc m) found h = do
      t ← peek
      if ends_list t.kind then pure (found, h) else (do
        x ← inner.stmt c
        list c m (found ++ x.0) (max h x.1))

    -- the statements up to the brace, and the brace
    unfoldable pub body : Context → Parser (Sized (List RawStmt))
    body c = do
      found ← list c turns [] 0
      expect mark.CloseBrace
      pure found

    -- a function behind its name
    unfoldable pub function : Parser (Sized (List Named × List RawStmt))
    function = do
      expect mark.OpenParen
      ps ← params_of turns
      expect mark.OpenBrace
      b ← body of_function
      pure ((ps, b.0), b.1)

    -- ---- primary expressions

    unfoldable pub parentheses : Parser (Sized RawExpr)
    parentheses = do
      t ← take
      x ← inner.expr true 0
      expect mark.CloseParen
      pure (parenthesised t x.0, x.1 + 1)

    unfoldable pub array : Parser (Sized RawExpr)
    array = do
      t ← take
      x ← elements turns [] 0
      pure (raw.list t.place (exprs x.0), x.1 + 1)

    unfoldable pub object : Parser (Sized RawExpr)
    object = do
      t ← take
      x ← object_fields turns [] 0
      pure (raw.object t.place (fields x.0), x.1 + 1)

    unfoldable pub function_expr : Parser (Sized RawExpr)
    function_expr = do
      t ← take
      o ← own_name
      f ← function
      pure (raw.fun t.place o f.0.0 (stmts f.0.1), f.1 + 1)

    unfoldable pub new_expr : Bool → Parser (Sized RawExpr)
    new_expr n = do
      t ← take
      f ← inner.expr n 17
      u ← peek
      if is_mark mark.OpenParen u.kind then (do
        take
        x ← arguments_of
        pure (raw.new t.place f.0 (exprs x.0), max f.1 x.1 + 1))
          else pure (raw.new t.place f.0 raw.no_exprs, f.1 + 1)

    abbrev pub primary_by : Bool → Head → Parser (Sized RawExpr)
    primary_by n no_head = fail an_operand
    primary_by n is_this = take >>= (λ t. pure (raw.this t.place, 0))
    primary_by n (is_literal p) = take >>= (λ t. pure (raw.lit t.place p, 0))
    primary_by n (is_variable v) = take >>= (λ t. pure (raw.var t.place v, 0))
    primary_by n is_operand = take >>= (λ t. pure (raw.lit t.place undefined, 0))
    primary_by n is_paren = deeper 0 parentheses
    primary_by n is_array = deeper 0 array
    primary_by n is_object = deeper 0 object
    primary_by n is_function = deeper 0 function_expr
    primary_by n is_new = deeper 0 (new_expr n)

    unfoldable pub primary : Bool → Parser (Sized RawExpr)
    primary n = do
      t ← peek
      primary_by n (head_of t.kind)

    -- ---- left-hand-side expressions. Each turn makes the tree higher, so one more than the depth are enough.

    abbrev pub property_by : Option (List ℕ) → Parser (Place × List ℕ)
    property_by None = fail a_token
    property_by (Some n) = take >>= (λ t. pure (t.place, n))

    unfoldable pub dotted : Sized RawExpr → Parser (Sized RawExpr)
    dotted a = do
      t ← take
      u ← peek
      p ← property_by (property_of u.kind)
      pure (raw.member t.place a.0 p.0 p.1, a.1 + 1)

    unfoldable pub bracketed : Sized RawExpr → Parser (Sized RawExpr)
    bracketed a = do
      t ← take
      x ← inner.expr true 0
      expect mark.CloseBracket
      pure (raw.index t.place a.0 x.0, max a.1 x.1 + 1)

    unfoldable pub called : Sized RawExpr → Parser (Sized RawExpr)
    called a = do
      t ← take
      x ← arguments_of
      pure (raw.call t.place a.0 (exprs x.0), max a.1 x.1 + 1)

    abbrev pub suffix_by : (Sized RawExpr → Parser (Sized RawExpr)) → Sized RawExpr → Suffix → Parser (Sized RawExpr)
    suffix_by again a no_suffix = pure a
    suffix_by again a by_dot = deeper a.1 (dotted a >>= again)
    suffix_by again a by_bracket = deeper a.1 (bracketed a >>= again)
    suffix_by again a by_call = deeper a.1 (called a >>= again)

    unfoldable pub suffixes : (calls : Bool) → ℕ → Sized RawExpr → Parser (Sized RawExpr)
    suffixes calls zero a = do
      t ← peek
      suffix_by (λ _. stops depth) a (suffix_of calls t.kind)
    suffixes calls (suc m) a = do
      t ← peek
      suffix_by (suffixes calls m) a (suffix_of calls t.kind)

    -- ---- postfix and unary operators

    abbrev pub postfix_by : Sized RawExpr → Option Bool → Option RawTarget → Bool → Parser (Sized RawExpr)
    postfix_by a (Some up) (Some g) false = deeper a.1 (take >>= (λ t. pure (raw.step t.place up false g, a.1 + 1)))
    postfix_by a _ _ _ = pure a

    unfoldable pub postfix : Sized RawExpr → Parser (Sized RawExpr)
    postfix a = do
      t ← peek
      postfix_by a (step_of t.kind) (target_of a.0) t.after_line

    abbrev pub wrong_prefix : Prefix → Place → Parser (Sized RawExpr)
    wrong_prefix (step up) p = fail a_token
    wrong_prefix (unary o) p = refuse construct.DeleteName p

    abbrev pub prefix_by : Prefix → Place → Sized RawExpr → Option RawExpr → Parser (Sized RawExpr)
    prefix_by o p a (Some e) = pure (e, a.1 + 1)
    prefix_by o p a None = do
      t ← peek
      if is_remedy t.kind then take >> pure (raw.lit p undefined, a.1 + 1) else wrong_prefix o p

    unfoldable pub prefix_expr : Bool → Prefix → Parser (Sized RawExpr)
    prefix_expr n o = do
      t ← take
      a ← inner.expr n 13
      prefix_by o t.place a (prefix_tree o t.place a.0)

    unfoldable pub prefixed : Bool → Prefix → Parser (Sized RawExpr)
    prefixed n o = if is_delete o
        then (λ i. unless_deleted ((take >> opened turns 0) i) (see i).place (deeper 0 (prefix_expr n o) i))
        else deeper 0 (prefix_expr n o)

    -- ---- binary operators and what binds less

    abbrev pub climb_by : (Sized RawExpr → Parser (Sized RawExpr)) → Bool → ℕ → Sized RawExpr → Option Infix → Parser (Sized RawExpr)
    climb_by again n least a None = pure a
    climb_by again n least a (Some o) = if nat_lt (level o) least then pure a else deeper a.1 (do
      t ← take
      b ← inner.expr n (level o + 1)
      again (infix_tree o t.place a.0 b.0, max a.1 b.1 + 1))

    unfoldable pub climb : Bool → ℕ → ℕ → Sized RawExpr → Parser (Sized RawExpr)
    climb n least zero a = do
      t ← peek
      climb_by (λ _. stops depth) n least a (infix_of n t.kind)
    climb n least (suc m) a = do
      t ← peek
      climb_by (climb n least m) n least a (infix_of n t.kind)

    unfoldable pub conditional : Bool → Sized RawExpr → Parser (Sized RawExpr)
    conditional n a = do
      t ← peek
      if is_mark mark.Question t.kind then deeper a.1 (do
        take
        x ← inner.expr true 1
        expect mark.Colon
        y ← inner.expr n 1
        pure (raw.cond t.place a.0 x.0 y.0, max a.1 (max x.1 y.1) + 1))
          else pure a

    abbrev pub assign_by : Bool → Sized RawExpr → Option (Option BinOp) → Option RawTarget → Parser (Sized RawExpr)
    assign_by n a (Some o) (Some g) = deeper a.1 (do
      t ← take
      b ← inner.expr n 1
      pure (raw.assign t.place o g b.0, max a.1 b.1 + 1))
    assign_by n a _ _ = pure a

    unfoldable pub assign : Bool → Sized RawExpr → Parser (Sized RawExpr)
    assign n a = do
      t ← peek
      assign_by n a (assign_of t.kind) (target_of a.0)

    abbrev pub comma_by : (Sized RawExpr → Parser (Sized RawExpr)) → Bool → Sized RawExpr → Bool → Parser (Sized RawExpr)
    comma_by again n a false = pure a
    comma_by again n a true = deeper a.1 (do
      t ← take
      b ← inner.expr n 1
      again (raw.comma t.place a.0 b.0, max a.1 b.1 + 1))

    unfoldable pub commas : Bool → ℕ → Sized RawExpr → Parser (Sized RawExpr)
    commas n zero a = do
      t ← peek
      comma_by (λ _. stops depth) n a (is_mark mark.Comma t.kind)
    commas n (suc m) a = do
      t ← peek
      comma_by (commas n m) n a (is_mark mark.Comma t.kind)

    unfoldable pub after_unary : Bool → ℕ → Sized RawExpr → Parser (Sized RawExpr)
    after_unary n l a = do
      x ← climb n l (suc d) a
      y ← (if nat_lt l 3 then conditional n x else pure x)
      z ← (if nat_lt l 2 then assign n y else pure y)
      if l == 0 then commas n (suc d) z else pure z

    unfoldable pub after_head : Bool → ℕ → Sized RawExpr → Parser (Sized RawExpr)
    after_head n l a = do
      x ← suffixes true (suc d) a
      y ← postfix x
      after_unary n l y

    abbrev pub expr_by : Bool → ℕ → Option Prefix → Parser (Sized RawExpr)
    expr_by n l None = primary n >>= after_head n l
    expr_by n l (Some o) = prefixed n o >>= after_unary n l

    -- at level 17 the callee of `new`, else an expression of level 13 at most
    unfoldable pub expr_of : Bool → ℕ → Parser (Sized RawExpr)
    expr_of n l = if l == 17 then primary n >>= suffixes false (suc d) else (do
      t ← peek
      expr_by n l (prefix_of t.kind))

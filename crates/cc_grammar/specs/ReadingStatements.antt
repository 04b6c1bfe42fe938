-- Reading: statements (ECMA-262 5.1, 12 and 13), and whole lists.
use Rattle.std.specs.Prelude.{ℕ, zero, suc, ◌+◌, max, Bool, true, false, ◌||◌, if◌then◌else◌, nat_lt, List, [], ◌∷◌, ◌++◌, Ok, Err, Option, Some, None}
use Rattle.cc_ast.specs.declared.place.Place.{Place}
use Rattle.cc_ast.specs.declared.reading.Construct.{Construct}
use Rattle.cc_ast.specs.declared.reading.Construct.TheVariants as construct
use Rattle.cc_ast.specs.Syntax.{Prim}
use Rattle.cc_lexer.specs.declared.token.Mark.{Mark}
use Rattle.cc_lexer.specs.declared.token.Mark.TheVariants as mark
use Rattle.cc_lexer.specs.declared.word.Word.{Word}
use Rattle.cc_lexer.specs.declared.word.Word.TheVariants as word
use Rattle.cc_grammar.specs.Symbols.{Kind, Lexeme, Symbols, look, rest, nothing, is_mark, is_word}
use Rattle.cc_grammar.specs.Symbols as k
use Rattle.cc_grammar.specs.RawTree.{RawExpr, RawTarget, RawStmt, RawKey, RawField, RawDeclarator, RawCase, RawInit, RawCatch, RawFinally, MaybeExpr, Named, exprs, fields, cases, stmts}
use Rattle.cc_grammar.specs.RawTree as raw
use Rattle.cc_grammar.specs.Signs.{refused_name, target_of}
use Rattle.cc_grammar.specs.Fronts.{offends, is_end}
use Rattle.cc_grammar.specs.Grammar.{Context, Labels, of_program, inside, in_loop, in_switch, labelled, is_among}
use Rattle.cc_grammar.specs.ReadingParts.{Cause, Fault, Due, refused_there, either, fault, Sized, Outcome, and_then, ◌>>=◌, ◌>>◌, allowed, variable_of, Head, head_by, head_of, Suffix, suffix_of, is_ending, is_element, is_remedy, is_delete, goes_on, ends_return, label_by, label_of, is_some_label, Clause, clause_of, ends_list, Start, start_of, syntax, depth, spent, refused, a_token, a_variable, an_operand, no_head, is_this, is_operand, is_paren, is_array, is_object, is_function, is_new, is_literal, is_variable, no_suffix, by_dot, by_bracket, by_call, no_clause, is_case, is_default, is_close, is_block, is_vars, is_empty, is_if, is_do, is_while, is_for, is_continue, is_break, is_return, is_switch, is_throw, is_try, is_declaration, is_any, is_plain, is_name}
use Rattle.cc_grammar.specs.ReadingParts as parts
use Rattle.cc_grammar.specs.ReadingExpressions as ex

module _ (S : Type 0) (see : S → Lexeme) (go : S → S) (semicolon : S → Outcome S (Unit {0})) where
  abbrev Parser : Type 0 → Type 0
  Parser A = S → Outcome S A

  abbrev pure : {A : Type 0} → A → Parser A
  pure x = parts.pure S see go semicolon x

  abbrev fail : {A : Type 0} → Due → Parser A
  fail x = parts.fail S see go semicolon x

  abbrev stops : {A : Type 0} → Cause → Parser A
  stops x = parts.stops S see go semicolon x

  abbrev refuse : {A : Type 0} → Construct → Place → Parser A
  refuse x y = parts.refuse S see go semicolon x y

  abbrev peek : Parser Lexeme
  peek = parts.peek S see go semicolon

  abbrev take : Parser Lexeme
  take = parts.take S see go semicolon

  abbrev expect : Mark → Parser (Unit {0})
  expect = parts.expect S see go semicolon

  abbrev expect_word : Word → Parser (Unit {0})
  expect_word = parts.expect_word S see go semicolon

  abbrev variable_by : Option (List ℕ) → Parser Named
  variable_by = parts.variable_by S see go semicolon

  abbrev variable : Parser Named
  variable = parts.variable S see go semicolon

  abbrev params : ℕ → List Named → Parser (List Named)
  params = parts.params S see go semicolon

  abbrev params_of : ℕ → Parser (List Named)
  params_of = parts.params_of S see go semicolon

  abbrev own_name_by : Option (List ℕ) → Bool → Parser (Option Named)
  own_name_by = parts.own_name_by S see go semicolon

  abbrev own_name : Parser (Option Named)
  own_name = parts.own_name S see go semicolon

  abbrev closed : ℕ → Parser Bool
  closed = parts.closed S see go semicolon

  abbrev opened : ℕ → ℕ → Parser Bool
  opened = parts.opened S see go semicolon

  abbrev unless_deleted : {A : Type 0} → Outcome S Bool → Place → Outcome S A → Outcome S A
  unless_deleted x y z = parts.unless_deleted S see go semicolon x y z

  abbrev Inner : Type 0
  Inner = parts.Inner S see go semicolon

  abbrev no_depth : Inner
  no_depth = parts.no_depth S see go semicolon

  -- `turns` bounds the lengths of lists
  module _ (d turns : ℕ) (inner : Inner) where
    -- what makes a tree of a height h higher
    abbrev deeper : {A : Type 0} → ℕ → Parser A → Parser A
    deeper h p = λ i. if nat_lt h d then p i else Err (record { cause = depth; place = (see i).place }, i)

    abbrev list : Context → ℕ → List RawStmt → ℕ → Parser (Sized (List RawStmt))
    list = ex.list S see go semicolon d turns inner

    abbrev body : Context → Parser (Sized (List RawStmt))
    body = ex.body S see go semicolon d turns inner

    abbrev function : Parser (Sized (List Named × List RawStmt))
    function = ex.function S see go semicolon d turns inner

    abbrev parentheses : Parser (Sized RawExpr)
    parentheses = ex.parentheses S see go semicolon d turns inner

    abbrev after_head : Bool → ℕ → Sized RawExpr → Parser (Sized RawExpr)
    after_head = ex.after_head S see go semicolon d turns inner

    abbrev expr_of : Bool → ℕ → Parser (Sized RawExpr)
    expr_of = ex.expr_of S see go semicolon d turns inner

    -- ---- statements

    unfoldable pub declarator : (Bool → ℕ → Parser (Sized RawExpr)) → Bool → Parser (Sized RawDeclarator)
    declarator expr n = do
      v ← variable
      t ← peek
      if is_mark mark.Equal t.kind then (do
        take
        x ← expr n 1
        pure (record { variable = v; value = raw.one_expr x.0 }, x.1))
          else pure (record { variable = v; value = raw.no_expr }, 0)

    unfoldable pub declarators : (Bool → ℕ → Parser (Sized RawExpr)) → Bool → ℕ → List RawDeclarator → ℕ → Parser (Sized (List RawDeclarator))
    declarators expr n zero found h = stops spent
    declarators expr n (suc m) found h = do
      x ← declarator expr n
      t ← peek
      if is_mark mark.Comma t.kind then take >> declarators expr n m (found ++ x.0 ∷ []) (max h x.1) else pure (found ++ x.0 ∷ [], max h x.1)

    unfoldable pub vars : Parser (Sized (List RawStmt))
    vars = do
      t ← take
      vs ← declarators expr_of true turns [] 0
      semicolon
      pure (raw.vars t.place (raw.declarators vs.0) ∷ [], vs.1)

    abbrev pub simple : Place → Sized RawExpr → Parser (Sized (List RawStmt))
    simple p x = semicolon >> pure (raw.simple p x.0 ∷ [], x.1)

    unfoldable pub plain : Parser (Sized (List RawStmt))
    plain = do
      t ← peek
      x ← expr_of true 0
      simple t.place x

    unfoldable pub block : Context → Parser (Sized (List RawStmt))
    block c = do
      take
      b ← body (inside c)
      pure (b.0, b.1 + 1)

    -- an expression in parentheses
    unfoldable pub head : Parser (Sized RawExpr)
    head = do
      expect mark.OpenParen
      x ← inner.expr true 0
      expect mark.CloseParen
      pure x

    unfoldable pub otherwise : Context → Place → Sized RawExpr → Sized (List RawStmt) → Parser (Sized (List RawStmt))
    otherwise c p e a = do
      t ← peek
      if is_word word.Else t.kind then (do
        take
        b ← inner.stmt (inside c)
        pure (raw.if p e.0 (stmts a.0) (stmts b.0) ∷ [], max e.1 (max a.1 b.1) + 1))
          else pure (raw.if p e.0 (stmts a.0) raw.no_stmts ∷ [], max e.1 a.1 + 1)

    unfoldable pub choice : Context → Parser (Sized (List RawStmt))
    choice c = do
      t ← take
      e ← head
      a ← inner.stmt (inside c)
      otherwise c t.place e a

    unfoldable pub do_while : Context → Parser (Sized (List RawStmt))
    do_while c = do
      t ← take
      b ← inner.stmt (in_loop c)
      expect_word word.While
      e ← head
      semicolon
      pure (raw.do_while t.place (stmts b.0) e.0 ∷ [], max e.1 b.1 + 1)

    unfoldable pub while : Context → Parser (Sized (List RawStmt))
    while c = do
      t ← take
      e ← head
      b ← inner.stmt (in_loop c)
      pure (raw.while t.place e.0 (stmts b.0) ∷ [], max e.1 b.1 + 1)

    -- nothing before this mark, or an expression
    unfoldable pub optional : Mark → Parser (Sized MaybeExpr)
    optional m = do
      t ← peek
      if is_mark m t.kind then pure (raw.no_expr, 0) else (do
        x ← inner.expr true 0
        pure (raw.one_expr x.0, x.1))

    unfoldable pub for_rest : Context → Place → Sized RawInit → Parser (Sized (List RawStmt))
    for_rest c p a = do
      expect mark.Semicolon
      e ← optional mark.Semicolon
      expect mark.Semicolon
      f ← optional mark.CloseParen
      expect mark.CloseParen
      b ← inner.stmt (in_loop c)
      pure (raw.for p a.0 e.0 f.0 (stmts b.0) ∷ [], max (max a.1 (max e.1 f.1)) b.1 + 1)

    unfoldable pub for_in : Context → Place → raw.RawForTarget → ℕ → Parser (Sized (List RawStmt))
    for_in c p g h = do
      take
      e ← inner.expr true 0
      expect mark.CloseParen
      b ← inner.stmt (in_loop c)
      pure (raw.for_in p g e.0 (stmts b.0) ∷ [], max (max h e.1) b.1 + 1)

    abbrev pub for_vars_by : Context → Place → List RawDeclarator → ℕ → Bool → Parser (Sized (List RawStmt))
    for_vars_by c p (v ∷ []) h true = for_in c p (raw.in_declared v.variable v.value) h
    for_vars_by c p vs h b = for_rest c p (raw.init_vars (raw.declarators vs), h)

    abbrev pub for_value_by : Context → Place → Sized RawExpr → Option RawTarget → Bool → Parser (Sized (List RawStmt))
    for_value_by c p x (Some g) true = for_in c p (raw.in_target g) x.1
    for_value_by c p x g b = for_rest c p (raw.init_value x.0, x.1)

    unfoldable pub for : Context → Parser (Sized (List RawStmt))
    for c = do
      t ← take
      expect mark.OpenParen
      u ← peek
      if is_word word.Var u.kind then (do
        take
        vs ← declarators inner.expr false turns [] 0
        v ← peek
        for_vars_by c t.place vs.0 vs.1 (is_word word.In v.kind))
          else (if is_mark mark.Semicolon u.kind then for_rest c t.place (raw.no_init, 0) else (do
            x ← inner.expr false 0
            v ← peek
            for_value_by c t.place x (target_of x.0) (is_word word.In v.kind)))

    abbrev pub jump_by : (Option (List ℕ) → RawStmt) → (alone : Bool) → Labels → Option (List ℕ) → Parser (Sized (List RawStmt))
    jump_by make alone ls None = if alone then semicolon >> pure (make None ∷ [], 0) else fail a_token
    jump_by make alone ls (Some n) = if is_among n ls then take >> semicolon >> pure (make (Some n) ∷ [], 0) else fail a_token

    unfoldable pub continue : Context → Parser (Sized (List RawStmt))
    continue c = if c.continues then (do
      t ← take
      u ← peek
      jump_by (raw.continue t.place) true c.loops (label_of u))
        else fail a_token

    unfoldable pub break : Context → Parser (Sized (List RawStmt))
    break c = if c.breaks || is_some_label c.labels then (do
      t ← take
      u ← peek
      jump_by (raw.break t.place) c.breaks c.labels (label_of u))
        else fail a_token

    unfoldable pub return : Context → Parser (Sized (List RawStmt))
    return c = if c.returns then (do
      t ← take
      u ← peek
      if ends_return u then semicolon >> pure (raw.return t.place raw.no_expr ∷ [], 0) else (do
        x ← expr_of true 0
        semicolon
        pure (raw.return t.place (raw.one_expr x.0) ∷ [], x.1)))
        else fail a_token

    unfoldable pub throw : Parser (Sized (List RawStmt))
    throw = do
      t ← take
      u ← peek
      if u.after_line then fail a_token else (do
        x ← expr_of true 0
        semicolon
        pure (raw.throw t.place x.0 ∷ [], x.1))

    abbrev pub clause_by : (Bool → List RawCase → ℕ → Parser (Sized (List RawCase))) → Context → (seen : Bool) → List RawCase → ℕ → Clause → Parser (Sized (List RawCase))
    clause_by again c seen found h no_clause = fail a_token
    clause_by again c seen found h is_close = take >> pure (found, h)
    clause_by again c seen found h is_case = do
      take
      x ← inner.expr true 0
      expect mark.Colon
      b ← list c turns [] 0
      again seen (found ++ record { test = raw.one_expr x.0; body = b.0 } ∷ []) (max h (max x.1 b.1))
    clause_by again c seen found h is_default = if seen then fail a_token else (do
      take
      expect mark.Colon
      b ← list c turns [] 0
      again true (found ++ record { test = raw.no_expr; body = b.0 } ∷ []) (max h b.1))

    unfoldable pub clauses : Context → ℕ → (seen : Bool) → List RawCase → ℕ → Parser (Sized (List RawCase))
    clauses c zero seen found h = stops spent
    clauses c (suc m) seen found h = do
      t ← peek
      clause_by (clauses c m) c seen found h (clause_of t.kind)

    unfoldable pub switch : Context → Parser (Sized (List RawStmt))
    switch c = do
      t ← take
      e ← head
      expect mark.OpenBrace
      cs ← clauses (in_switch c) turns false [] 0
      pure (raw.switch t.place e.0 (cases cs.0) ∷ [], max e.1 cs.1 + 1)

    -- a name: a label, or the beginning of an expression
    abbrev pub name_by : Context → Place → List ℕ → Option Construct → Bool → Parser (Sized (List RawStmt))
    name_by c p n x true = if is_among n c.labels then fail a_token else deeper 0 (do
      take
      b ← inner.stmt (labelled n c)
      pure (raw.label p n (stmts b.0) ∷ [], b.1 + 1))
    name_by c p n None false = do
      x ← after_head true 0 (raw.var p n, 0)
      simple p x
    name_by c p n (Some x) false = do
      t ← peek
      if is_remedy t.kind then take >> pure ([], 0) else refuse x p

    unfoldable pub begins_with_name : Context → List ℕ → Parser (Sized (List RawStmt))
    begins_with_name c n = do
      t ← take
      u ← peek
      name_by c t.place n (refused_name n) (is_mark mark.Colon u.kind)

    unfoldable pub block_in : Context → Parser (Sized (List RawStmt))
    block_in c = do
      t ← peek
      if is_mark mark.OpenBrace t.kind then inner.stmt (inside c) else fail a_token

    unfoldable pub finally : Context → Parser (Sized RawFinally)
    finally c = do
      take
      b ← block_in c
      pure (raw.finally (stmts b.0), b.1)

    unfoldable pub catch : Context → Parser (Sized RawCatch)
    catch c = do
      take
      expect mark.OpenParen
      v ← variable
      expect mark.CloseParen
      b ← block_in c
      pure (raw.caught v (stmts b.0), b.1)

    unfoldable pub after_catch : Context → Place → Sized (List RawStmt) → Sized RawCatch → Parser (Sized (List RawStmt))
    after_catch c p b f = do
      t ← peek
      if is_word word.Finally t.kind then (do
        g ← finally c
        pure (raw.try p (stmts b.0) f.0 g.0 ∷ [], max b.1 (max f.1 g.1) + 1))
          else pure (raw.try p (stmts b.0) f.0 raw.no_finally ∷ [], max b.1 f.1 + 1)

    unfoldable pub try : Context → Parser (Sized (List RawStmt))
    try c = do
      t ← take
      b ← block_in c
      u ← peek
      if is_word word.Catch u.kind then (do
        f ← catch c
        after_catch c t.place b f)
          else (if is_word word.Finally u.kind then (do
            g ← finally c
            pure (raw.try t.place (stmts b.0) raw.no_catch g.0 ∷ [], max b.1 g.1 + 1))
          else fail a_token)

    unfoldable pub declaration : Parser (Sized (List RawStmt))
    declaration = do
      t ← take
      v ← variable
      f ← function
      pure (raw.fun_decl t.place v f.0.0 (stmts f.0.1) ∷ [], f.1 + 1)

    abbrev pub stmt_by : Context → Start → Parser (Sized (List RawStmt))
    stmt_by c is_block = deeper 0 (block c)
    stmt_by c is_vars = vars
    stmt_by c is_empty = take >> pure ([], 0)
    stmt_by c is_if = deeper 0 (choice c)
    stmt_by c is_do = deeper 0 (do_while c)
    stmt_by c is_while = deeper 0 (while c)
    stmt_by c is_for = deeper 0 (for c)
    stmt_by c is_continue = continue c
    stmt_by c is_break = break c
    stmt_by c is_return = return c
    stmt_by c is_switch = deeper 0 (switch c)
    stmt_by c is_throw = throw
    stmt_by c is_try = deeper 1 (try c)
    stmt_by c is_declaration = if c.declares then deeper 0 declaration else stops (refused construct.BlockFunction)
    stmt_by c is_any = take >> pure ([], 0)
    stmt_by c (is_name n) = begins_with_name c n
    stmt_by c is_plain = plain

    unfoldable pub stmt_of : Context → Parser (Sized (List RawStmt))
    stmt_of c = do
      t ← peek
      stmt_by c (start_of t.kind)

  -- to a depth
  unfoldable pub reader : ℕ → ℕ → Inner
  reader turns zero = record { expr = ex.expr_of S see go semicolon zero turns no_depth; stmt = stmt_of zero turns no_depth }
  reader turns (suc d) = record { expr = ex.expr_of S see go semicolon (suc d) turns (reader turns d); stmt = stmt_of (suc d) turns (reader turns d) }

  unfoldable pub expect_end : Parser (Unit {0})
  expect_end = λ i. if is_end (see i).kind then Ok (tt, go i) else Err (fault a_token (see i), i)

  -- the statements up to the end
  unfoldable pub program : ℕ → ℕ → Parser (Sized (List RawStmt))
  program turns d = do
    b ← ex.list S see go semicolon (suc d) turns (reader turns d) of_program turns [] 0
    expect_end
    pure b

-- ---- a list of symbols: each semicolon stands there, written or inserted

abbrev pub semicolon_symbol : Symbols → Outcome Symbols (Unit {0})
semicolon_symbol (k.inserted ∷ xs) = Ok (tt, xs)
semicolon_symbol (k.real t ∷ xs) = if is_mark mark.Semicolon t.kind then Ok (tt, xs) else Err (fault a_token t, k.real t ∷ xs)
semicolon_symbol [] = Err (fault a_token nothing, [])

unfoldable pub read_symbols : ℕ → ℕ → Symbols → Outcome Symbols (Sized (List RawStmt))
read_symbols = program Symbols look rest semicolon_symbol

-- ---- a list of tokens: a semicolon is inserted where it is due and the next token offends

abbrev pub look_token : List Lexeme → Lexeme
look_token [] = nothing
look_token (t ∷ ts) = t

abbrev pub rest_tokens : List Lexeme → List Lexeme
rest_tokens [] = []
rest_tokens (t ∷ ts) = ts

abbrev pub semicolon_token : List Lexeme → Outcome (List Lexeme) (Unit {0})
semicolon_token ts = if is_mark mark.Semicolon (look_token ts).kind then Ok (tt, rest_tokens ts)
    else (if offends (look_token ts) then Ok (tt, ts) else Err (fault a_token (look_token ts), ts))

unfoldable pub read_tokens : ℕ → ℕ → List Lexeme → Outcome (List Lexeme) (Sized (List RawStmt))
read_tokens = program (List Lexeme) look_token rest_tokens semicolon_token

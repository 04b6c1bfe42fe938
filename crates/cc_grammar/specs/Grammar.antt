-- The productions (ECMA-262 5.1, 11 to 14), without the refused constructs. A production tells of two lists of symbols
-- that one goes on as the other behind what it derives: `E h n l xs e ys` says that xs begins with an expression of
-- level l that is e, of a height within h, and goes on with ys. Where n is false no `in` stands outside brackets.
--
-- The levels: 0 Expression, 1 AssignmentExpression, 2 ConditionalExpression, 3 to 12 the binary operators,
-- 13 UnaryExpression, 14 PostfixExpression, 15 LeftHandSideExpression, 16 MemberExpression or CallExpression,
-- 17 NewExpression, 18 MemberExpression.
--
-- The heights: a name, `this` or a literal has height 0. Every other expression, a pair of parentheses, a block, a
-- statement with bodies and a function have 1 more than their highest part.
use Rattle.std.specs.Prelude.{◌≡◌, ℕ, ◌+◌, ◌<◌, ◌≤◌, List, [], ◌∷◌, ◌++◌, Bool, true, false, Option, Some, None}
use Rattle.std.specs.List.{list_any}
use Rattle.std.specs.Str.{bytes_eq}
use Rattle.cc_ast.specs.declared.operator.BinOp.{BinOp}
use Rattle.cc_ast.specs.declared.place.Place.{Place}
use Rattle.cc_ast.specs.declared.reading.Construct.{Construct}
use Rattle.cc_ast.specs.Syntax.{Prim, undefined}
use Rattle.cc_lexer.specs.declared.token.Mark.{Mark}
use Rattle.cc_lexer.specs.declared.token.Mark.TheVariants as mark
use Rattle.cc_lexer.specs.declared.word.Word.{Word}
use Rattle.cc_lexer.specs.declared.word.Word.TheVariants as word
use Rattle.cc_grammar.specs.Symbols.{Kind, Lexeme, Symbol, Symbols, real, inserted, look, is_mark, is_word}
use Rattle.cc_grammar.specs.Symbols as k
use Rattle.cc_grammar.specs.RawTree.{RawExpr, RawTarget, RawStmt, RawKey, RawField, RawDeclarator, RawCase, RawInit, RawCatch, RawFinally, MaybeExpr, Named, exprs, fields, declarators, cases, stmts}
use Rattle.cc_grammar.specs.RawTree as raw
use Rattle.cc_grammar.specs.Signs.{Prefix, Infix, literal_of, parenthesised, key_of, property_of, refused_name, target_of, step_of, prefix_of, prefix_tree, infix_of, level, infix_tree, assign_of}

-- where the list begins
abbrev pub at : Symbols → Place
at xs = (look xs).place

-- a token of this kind, and what is behind it
pub data At (x : Kind) : Symbols → Symbols → Type 0 where
  at_token : (t : Lexeme) {ys : Symbols} → t.kind ≡ x → At x (real t ∷ ys) ys

abbrev pub Sign : Mark → Symbols → Symbols → Type 0
Sign m = At (k.mark m)

abbrev pub Reserved : Word → Symbols → Symbols → Type 0
Reserved w = At (k.word w)

-- a variable's name
pub data Variable : Symbols → List ℕ → Symbols → Type 0 where
  variable : {n : List ℕ} {xs ys : Symbols} → At (k.name n) xs ys → refused_name n ≡ None → Variable xs n ys
  any_variable : {xs ys : Symbols} → At (k.due k.variable) xs ys → Variable xs [] ys

abbrev pub named : Symbols → List ℕ → Named
named xs n = record { place = at xs; name = n }

-- the own name of a function expression
pub data OwnName : Symbols → Option Named → Symbols → Type 0 where
  no_name : {xs : Symbols} → OwnName xs None xs
  own_name : {n : List ℕ} {xs ys : Symbols} → Variable xs n ys → OwnName xs (Some (named xs n)) ys

-- the parameters of a function, up to the parenthesis that closes them (13)
pub data MoreParams : Symbols → List Named → Symbols → Type 0 where
  last_param : {n : List ℕ} {xs ys zs : Symbols} → Variable xs n ys → Sign mark.CloseParen ys zs → MoreParams xs (named xs n ∷ []) zs
  more_params : {n : List ℕ} {ps : List Named} {xs ys zs ws : Symbols} → Variable xs n ys → Sign mark.Comma ys zs → MoreParams zs ps ws
      → MoreParams xs (named xs n ∷ ps) ws

pub data Params : Symbols → List Named → Symbols → Type 0 where
  no_params : {xs ys : Symbols} → Sign mark.CloseParen xs ys → Params xs [] ys
  some_params : {ps : List Named} {xs ys : Symbols} → MoreParams xs ps ys → Params xs ps ys

-- the end of a statement: a semicolon, written or inserted (7.9)
pub data Ends : Symbols → Symbols → Type 0 where
  written : {xs ys : Symbols} → Sign mark.Semicolon xs ys → Ends xs ys
  added : {ys : Symbols} → Ends (inserted ∷ ys) ys

-- ---- where a statement stands

abbrev pub Labels : Type 0
Labels = List (List ℕ)

-- whether a function declaration may stand there, whether a function encloses it, a loop, and a loop or `switch`; the labels
-- that are open, those of the enclosing loops, and those right before it
pub record Context : Type 0 where
  pub declares : Bool
  pub returns : Bool
  pub continues : Bool
  pub breaks : Bool
  pub labels : Labels
  pub loops : Labels
  pub own : Labels

abbrev pub of_program : Context
of_program = record { declares = true; returns = false; continues = false; breaks = false; labels = []; loops = []; own = [] }

abbrev pub of_function : Context
of_function = record of_program { returns = true }

-- in a block or body
abbrev pub inside : Context → Context
inside c = record c { declares = false; own = [] }

abbrev pub in_loop : Context → Context
in_loop c = record c { declares = false; continues = true; breaks = true; loops = c.own ++ c.loops; own = [] }

abbrev pub in_switch : Context → Context
in_switch c = record c { declares = false; breaks = true; own = [] }

abbrev pub labelled : List ℕ → Context → Context
labelled n c = record c { declares = false; labels = n ∷ c.labels; own = n ∷ c.own }

abbrev pub is_among : List ℕ → Labels → Bool
is_among n ls = list_any (λ l. bytes_eq l n) ls

-- an expression statement begins with none of these (12.4)
abbrev pub opens_no_expression : Kind → Bool
opens_no_expression (k.mark mark.OpenBrace) = true
opens_no_expression (k.word word.Function) = true
opens_no_expression _ = false

-- a level whose expressions go on with a dot or bracket
pub data Chain : ℕ → Type 0 where
  chain : Chain 16
  member_chain : Chain 18

-- what belongs to the nearest statement that it can belong to
abbrev pub is_tail : Kind → Bool
is_tail (k.word word.Else) = true
is_tail (k.word word.Finally) = true
is_tail _ = false

mutual
  pub data E : ℕ → Bool → ℕ → Symbols → RawExpr → Symbols → Type 0 where
    -- 11.1 primary expressions
    this : {d l : ℕ} {n : Bool} {xs ys : Symbols} → Reserved word.This xs ys → E d n l xs (raw.this (at xs)) ys
    name : {d l : ℕ} {n : Bool} {v : List ℕ} {xs ys : Symbols} → Variable xs v ys → E d n l xs (raw.var (at xs) v) ys
    literal : {x : Kind} {p : Prim} {d l : ℕ} {n : Bool} {xs ys : Symbols} → At x xs ys → literal_of x ≡ Some p → E d n l xs (raw.lit (at xs) p) ys
    operand : {d l : ℕ} {n : Bool} {xs ys : Symbols} → At (k.due k.operand) xs ys → E d n l xs (raw.lit (at xs) undefined) ys
    paren : {d h l : ℕ} {n : Bool} {e : RawExpr} {xs ys zs ws : Symbols} → h < d
        → Sign mark.OpenParen xs ys → E h true 0 ys e zs → Sign mark.CloseParen zs ws → E d n l xs (parenthesised (look xs) e) ws
    array : {d h l : ℕ} {n : Bool} {es : List RawExpr} {xs ys zs : Symbols} → h < d
        → Sign mark.OpenBracket xs ys → Elements h ys es zs → E d n l xs (raw.list (at xs) (exprs es)) zs
    object : {d h l : ℕ} {n : Bool} {fs : List RawField} {xs ys zs : Symbols} → h < d
        → Sign mark.OpenBrace xs ys → Fields h ys fs zs → E d n l xs (raw.object (at xs) (fields fs)) zs
    -- 13 function expressions
    function : {d h l : ℕ} {n : Bool} {o : Option Named} {ps : List Named} {b : List RawStmt} {xs ys zs ws : Symbols} → h < d
        → Reserved word.Function xs ys → OwnName ys o zs → Function h zs ps b ws → E d n l xs (raw.fun (at xs) o ps (stmts b)) ws
    -- 11.2 left-hand-side expressions
    dotted : {d h l m : ℕ} {n : Bool} {x : Kind} {v : List ℕ} {e : RawExpr} {xs ys zs ws : Symbols} → Chain m → l ≤ m → h < d
        → E h n m xs e ys → Sign mark.Dot ys zs → At x zs ws → property_of x ≡ Some v → E d n l xs (raw.member (at ys) e (at zs) v) ws
    bracketed : {d h i l m : ℕ} {n : Bool} {e f : RawExpr} {xs ys zs ws vs : Symbols} → Chain m → l ≤ m → h < d → i < d
        → E h n m xs e ys → Sign mark.OpenBracket ys zs → E i true 0 zs f ws → Sign mark.CloseBracket ws vs → E d n l xs (raw.index (at ys) e f) vs
    call : {d h i l : ℕ} {n : Bool} {e : RawExpr} {args : List RawExpr} {xs ys zs ws : Symbols} → l ≤ 16 → h < d → i < d
        → E h n 16 xs e ys → Sign mark.OpenParen ys zs → Arguments i zs args ws → E d n l xs (raw.call (at ys) e (exprs args)) ws
    new_call : {d h i l : ℕ} {n : Bool} {e : RawExpr} {args : List RawExpr} {xs ys zs ws vs : Symbols} → l ≤ 18 → h < d → i < d
        → Reserved word.New xs ys → E h n 18 ys e zs → Sign mark.OpenParen zs ws → Arguments i ws args vs → E d n l xs (raw.new (at xs) e (exprs args)) vs
    new : {d h l : ℕ} {n : Bool} {e : RawExpr} {xs ys zs : Symbols} → l ≤ 17 → ¬ (l ≡ 16) → h < d
        → Reserved word.New xs ys → E h n 17 ys e zs → E d n l xs (raw.new (at xs) e raw.no_exprs) zs
    -- 11.3 postfix expressions: no line end before the operator
    postfix : {d h l : ℕ} {n up : Bool} {x : Kind} {e : RawExpr} {t : RawTarget} {xs ys zs : Symbols} → l ≤ 14 → h < d
        → E h n 15 xs e ys → target_of e ≡ Some t → (look ys).after_line ≡ false → At x ys zs → step_of x ≡ Some up
        → E d n l xs (raw.step (at ys) up false t) zs
    -- 11.4 unary operators
    prefix : {d h l : ℕ} {n : Bool} {x : Kind} {o : Prefix} {e f : RawExpr} {xs ys zs : Symbols} → l ≤ 13 → h < d
        → At x xs ys → prefix_of x ≡ Some o → E h n 13 ys e zs → prefix_tree o (at xs) e ≡ Some f → E d n l xs f zs
    wrong_prefix : {d h l : ℕ} {n : Bool} {x : Kind} {o : Prefix} {e : RawExpr} {xs ys zs ws : Symbols} → l ≤ 13 → h < d
        → At x xs ys → prefix_of x ≡ Some o → E h n 13 ys e zs → prefix_tree o (at xs) e ≡ None → At (k.due k.remedy) zs ws
        → E d n l xs (raw.lit (at xs) undefined) ws
    -- 11.5 to 11.11 binary operators: the left operand is of the operator's level
    binary : {d h i l : ℕ} {n : Bool} {x : Kind} {o : Infix} {e f : RawExpr} {xs ys zs ws : Symbols} → l ≤ level o → h < d → i < d
        → E h n (level o) xs e ys → At x ys zs → infix_of n x ≡ Some o → E i n (level o + 1) zs f ws → E d n l xs (infix_tree o (at ys) e f) ws
    -- 11.12 conditional operator
    conditional : {d h i j l : ℕ} {n : Bool} {e f g : RawExpr} {xs ys zs us vs ws : Symbols} → l ≤ 2 → h < d → i < d → j < d
        → E h n 3 xs e ys → Sign mark.Question ys zs → E i true 1 zs f us → Sign mark.Colon us vs → E j n 1 vs g ws → E d n l xs (raw.cond (at ys) e f g) ws
    -- 11.13 assignments
    assign : {d h i l : ℕ} {n : Bool} {x : Kind} {o : Option BinOp} {e f : RawExpr} {t : RawTarget} {xs ys zs ws : Symbols} → l ≤ 1 → h < d → i < d
        → E h n 15 xs e ys → target_of e ≡ Some t → At x ys zs → assign_of x ≡ Some o → E i n 1 zs f ws → E d n l xs (raw.assign (at ys) o t f) ws
    -- 11.14 comma operator
    comma : {d h i : ℕ} {n : Bool} {e f : RawExpr} {xs ys zs ws : Symbols} → h < d → i < d
        → E h n 0 xs e ys → Sign mark.Comma ys zs → E i n 1 zs f ws → E d n 0 xs (raw.comma (at ys) e f) ws

  -- 11.1.4 the elements of an array, up to the bracket that closes it
  pub data Elements : ℕ → Symbols → List RawExpr → Symbols → Type 0 where
    no_element : {h : ℕ} {xs ys : Symbols} → Sign mark.CloseBracket xs ys → Elements h xs [] ys
    last_element : {h : ℕ} {e : RawExpr} {xs ys zs : Symbols} → E h true 1 xs e ys → Sign mark.CloseBracket ys zs → Elements h xs (e ∷ []) zs
    more_elements : {h : ℕ} {e : RawExpr} {es : List RawExpr} {xs ys zs ws : Symbols} → E h true 1 xs e ys → Sign mark.Comma ys zs → Elements h zs es ws
        → Elements h xs (e ∷ es) ws
    any_element : {h : ℕ} {xs ys zs : Symbols} → At (k.due k.element) xs ys → Sign mark.CloseBracket ys zs → Elements h xs [] zs

  -- 11.1.5 the properties of an object literal, up to the brace that closes it
  pub data Field : ℕ → Symbols → RawField → Symbols → Type 0 where
    field : {h : ℕ} {x : Kind} {y : RawKey} {e : RawExpr} {xs ys zs ws : Symbols} → At x xs ys → key_of x ≡ Some y → Sign mark.Colon ys zs → E h true 1 zs e ws
        → Field h xs (record { place = at xs; key = y; value = e }) ws

  pub data Fields : ℕ → Symbols → List RawField → Symbols → Type 0 where
    no_field : {h : ℕ} {xs ys : Symbols} → Sign mark.CloseBrace xs ys → Fields h xs [] ys
    last_field : {h : ℕ} {f : RawField} {xs ys zs : Symbols} → Field h xs f ys → Sign mark.CloseBrace ys zs → Fields h xs (f ∷ []) zs
    more_fields : {h : ℕ} {f : RawField} {fs : List RawField} {xs ys zs ws : Symbols} → Field h xs f ys → Sign mark.Comma ys zs → Fields h zs fs ws
        → Fields h xs (f ∷ fs) ws

  -- 11.2 the arguments of a call, up to the parenthesis that closes them
  pub data Arguments : ℕ → Symbols → List RawExpr → Symbols → Type 0 where
    no_argument : {h : ℕ} {xs ys : Symbols} → Sign mark.CloseParen xs ys → Arguments h xs [] ys
    some_arguments : {h : ℕ} {es : List RawExpr} {xs ys : Symbols} → MoreArguments h xs es ys → Arguments h xs es ys

  pub data MoreArguments : ℕ → Symbols → List RawExpr → Symbols → Type 0 where
    last_argument : {h : ℕ} {e : RawExpr} {xs ys zs : Symbols} → E h true 1 xs e ys → Sign mark.CloseParen ys zs → MoreArguments h xs (e ∷ []) zs
    more_arguments : {h : ℕ} {e : RawExpr} {es : List RawExpr} {xs ys zs ws : Symbols} → E h true 1 xs e ys → Sign mark.Comma ys zs → MoreArguments h zs es ws
        → MoreArguments h xs (e ∷ es) ws

  -- 13 a function behind its name
  pub data Function : ℕ → Symbols → List Named → List RawStmt → Symbols → Type 0 where
    function_body : {h : ℕ} {ps : List Named} {b : List RawStmt} {xs ys zs us vs ws : Symbols} → Sign mark.OpenParen xs ys → Params ys ps zs
        → Sign mark.OpenBrace zs us → Body of_function h us b vs → Sign mark.CloseBrace vs ws → Function h xs ps b ws

  -- 12.2 variables
  pub data Declarator : ℕ → Bool → Symbols → RawDeclarator → Symbols → Type 0 where
    unset : {h : ℕ} {n : Bool} {v : List ℕ} {xs ys : Symbols} → Variable xs v ys → Declarator h n xs (record { variable = named xs v; value = raw.no_expr }) ys
    set : {h : ℕ} {n : Bool} {v : List ℕ} {e : RawExpr} {xs ys zs ws : Symbols} → Variable xs v ys → Sign mark.Equal ys zs → E h n 1 zs e ws
        → Declarator h n xs (record { variable = named xs v; value = raw.one_expr e }) ws

  pub data Declarators : ℕ → Bool → Symbols → List RawDeclarator → Symbols → Type 0 where
    last_declarator : {h : ℕ} {n : Bool} {v : RawDeclarator} {xs ys : Symbols} → Declarator h n xs v ys → Declarators h n xs (v ∷ []) ys
    more_declarators : {h : ℕ} {n : Bool} {v : RawDeclarator} {vs : List RawDeclarator} {xs ys zs ws : Symbols} → Declarator h n xs v ys → Sign mark.Comma ys zs
        → Declarators h n zs vs ws → Declarators h n xs (v ∷ vs) ws

  -- 12.6.3 the parts of a `for` head
  pub data Init : ℕ → Symbols → RawInit → Symbols → Type 0 where
    no_init : {h : ℕ} {xs : Symbols} → Init h xs raw.no_init xs
    init_value : {h : ℕ} {e : RawExpr} {xs ys : Symbols} → E h false 0 xs e ys → Init h xs (raw.init_value e) ys
    init_vars : {h : ℕ} {vs : List RawDeclarator} {xs ys zs : Symbols} → Reserved word.Var xs ys → Declarators h false ys vs zs → Init h xs (raw.init_vars (declarators vs)) zs

  pub data Optional : ℕ → Symbols → MaybeExpr → Symbols → Type 0 where
    absent : {h : ℕ} {xs : Symbols} → Optional h xs raw.no_expr xs
    present : {h : ℕ} {e : RawExpr} {xs ys : Symbols} → E h true 0 xs e ys → Optional h xs (raw.one_expr e) ys

  -- 12.11 the clauses of a `switch`, up to the brace that closes it. The flag tells whether a `default` stood before.
  pub data Cases : Context → ℕ → Bool → Symbols → List RawCase → Symbols → Type 0 where
    no_case : {c : Context} {h : ℕ} {s : Bool} {xs ys : Symbols} → Sign mark.CloseBrace xs ys → Cases c h s xs [] ys
    «case» : {c : Context} {h : ℕ} {s : Bool} {e : RawExpr} {b : List RawStmt} {cs : List RawCase} {xs ys zs us vs ws : Symbols} → Reserved word.Case xs ys → E h true 0 ys e zs
        → Sign mark.Colon zs us → Body c h us b vs → Cases c h s vs cs ws → Cases c h s xs (record { test = raw.one_expr e; body = b } ∷ cs) ws
    default : {c : Context} {h : ℕ} {b : List RawStmt} {cs : List RawCase} {xs ys zs us ws : Symbols} → Reserved word.Default xs ys
        → Sign mark.Colon ys zs → Body c h zs b us → Cases c h true us cs ws → Cases c h false xs (record { test = raw.no_expr; body = b } ∷ cs) ws

  -- 12.14 the clauses of a `try`. A statement that begins with a brace is a block.
  pub data Catch : Context → ℕ → Symbols → RawCatch → Symbols → Type 0 where
    caught : {c : Context} {h : ℕ} {v : List ℕ} {b : List RawStmt} {xs ys zs us vs ws : Symbols} → Reserved word.Catch xs ys → Sign mark.OpenParen ys zs
        → Variable zs v us → Sign mark.CloseParen us vs → (look vs).kind ≡ k.mark mark.OpenBrace → T c h vs b ws → Catch c h xs (raw.caught (named zs v) (stmts b)) ws

  pub data Finally : Context → ℕ → Symbols → RawFinally → Symbols → Type 0 where
    finally : {c : Context} {h : ℕ} {b : List RawStmt} {xs ys zs : Symbols} → Reserved word.Finally xs ys → (look ys).kind ≡ k.mark mark.OpenBrace → T c h ys b zs
        → Finally c h xs (raw.finally (stmts b)) zs

  -- a statement, as the list of statements that it is: a block is spliced, and an empty statement is nothing
  pub data T : Context → ℕ → Symbols → List RawStmt → Symbols → Type 0 where
    -- 12.1 block
    block : {c : Context} {d h : ℕ} {b : List RawStmt} {xs ys zs ws : Symbols} → h < d → Sign mark.OpenBrace xs ys → Body (inside c) h ys b zs → Sign mark.CloseBrace zs ws → T c d xs b ws
    -- 12.2 variable statement
    vars : {c : Context} {d : ℕ} {vs : List RawDeclarator} {xs ys zs ws : Symbols} → Reserved word.Var xs ys → Declarators d true ys vs zs → Ends zs ws
        → T c d xs (raw.vars (at xs) (declarators vs) ∷ []) ws
    -- 12.3 empty statement
    empty : {c : Context} {d : ℕ} {xs ys : Symbols} → Sign mark.Semicolon xs ys → T c d xs [] ys
    -- 12.4 expression statement
    simple : {c : Context} {d : ℕ} {e : RawExpr} {xs ys zs : Symbols} → opens_no_expression (look xs).kind ≡ false → E d true 0 xs e ys → Ends ys zs
        → T c d xs (raw.simple (at xs) e ∷ []) zs
    -- 12.5 the if statement
    if_else : {c : Context} {d h i j : ℕ} {e : RawExpr} {a b : List RawStmt} {xs ys zs us vs ws ts os : Symbols} → h < d → i < d → j < d → Reserved word.If xs ys → Sign mark.OpenParen ys zs
        → E h true 0 zs e us → Sign mark.CloseParen us vs → T (inside c) i vs a ws → Reserved word.Else ws ts → T (inside c) j ts b os
        → T c d xs (raw.if (at xs) e (stmts a) (stmts b) ∷ []) os
    if_only : {c : Context} {d h i : ℕ} {e : RawExpr} {a : List RawStmt} {xs ys zs us vs ws : Symbols} → h < d → i < d → Reserved word.If xs ys → Sign mark.OpenParen ys zs
        → E h true 0 zs e us → Sign mark.CloseParen us vs → T (inside c) i vs a ws → is_word word.Else (look ws).kind ≡ false
        → T c d xs (raw.if (at xs) e (stmts a) raw.no_stmts ∷ []) ws
    -- 12.6 iteration statements
    do_while : {c : Context} {d h i : ℕ} {e : RawExpr} {b : List RawStmt} {xs ys zs us vs ws ts os : Symbols} → h < d → i < d → Reserved word.Do xs ys → T (in_loop c) h ys b zs
        → Reserved word.While zs us → Sign mark.OpenParen us vs → E i true 0 vs e ws → Sign mark.CloseParen ws ts → Ends ts os
        → T c d xs (raw.do_while (at xs) (stmts b) e ∷ []) os
    while : {c : Context} {d h i : ℕ} {e : RawExpr} {b : List RawStmt} {xs ys zs us vs ws : Symbols} → h < d → i < d → Reserved word.While xs ys → Sign mark.OpenParen ys zs
        → E h true 0 zs e us → Sign mark.CloseParen us vs → T (in_loop c) i vs b ws → T c d xs (raw.while (at xs) e (stmts b) ∷ []) ws
    for : {c : Context} {d h i : ℕ} {a : RawInit} {e f : MaybeExpr} {b : List RawStmt} {xs ys zs us vs ws ts os rs ps : Symbols} → h < d → i < d → Reserved word.For xs ys
        → Sign mark.OpenParen ys zs → Init h zs a us → Sign mark.Semicolon us vs → Optional h vs e ws → Sign mark.Semicolon ws ts → Optional h ts f os → Sign mark.CloseParen os rs
        → T (in_loop c) i rs b ps → T c d xs (raw.for (at xs) a e f (stmts b) ∷ []) ps
    for_in : {c : Context} {d h i : ℕ} {e f : RawExpr} {t : RawTarget} {b : List RawStmt} {xs ys zs us vs ws ts os : Symbols} → h < d → i < d → Reserved word.For xs ys
        → Sign mark.OpenParen ys zs → E h false 15 zs e us → target_of e ≡ Some t → Reserved word.In us vs → E h true 0 vs f ws → Sign mark.CloseParen ws ts
        → T (in_loop c) i ts b os → T c d xs (raw.for_in (at xs) (raw.in_target t) f (stmts b) ∷ []) os
    for_in_var : {c : Context} {d h i : ℕ} {v : RawDeclarator} {f : RawExpr} {b : List RawStmt} {xs ys zs us vs ws ts os rs : Symbols} → h < d → i < d → Reserved word.For xs ys
        → Sign mark.OpenParen ys zs → Reserved word.Var zs us → Declarator h false us v vs → Reserved word.In vs ws → E h true 0 ws f ts → Sign mark.CloseParen ts os
        → T (in_loop c) i os b rs → T c d xs (raw.for_in (at xs) (raw.in_declared v.variable v.value) f (stmts b) ∷ []) rs
    -- 12.7 and 12.8 jumps: no line end before the label
    continue : {c : Context} {d : ℕ} {xs ys zs : Symbols} → c.continues ≡ true → Reserved word.Continue xs ys → Ends ys zs → T c d xs (raw.continue (at xs) None ∷ []) zs
    continue_to : {c : Context} {d : ℕ} {n : List ℕ} {xs ys zs ws : Symbols} → c.continues ≡ true → Reserved word.Continue xs ys → (look ys).after_line ≡ false → At (k.name n) ys zs
        → is_among n c.loops ≡ true → Ends zs ws → T c d xs (raw.continue (at xs) (Some n) ∷ []) ws
    break : {c : Context} {d : ℕ} {xs ys zs : Symbols} → c.breaks ≡ true → Reserved word.Break xs ys → Ends ys zs → T c d xs (raw.break (at xs) None ∷ []) zs
    break_to : {c : Context} {d : ℕ} {n : List ℕ} {xs ys zs ws : Symbols} → Reserved word.Break xs ys → (look ys).after_line ≡ false → At (k.name n) ys zs
        → is_among n c.labels ≡ true → Ends zs ws → T c d xs (raw.break (at xs) (Some n) ∷ []) ws
    -- 12.9 return statement: no line end before the value
    return : {c : Context} {d : ℕ} {xs ys zs : Symbols} → c.returns ≡ true → Reserved word.Return xs ys → Ends ys zs → T c d xs (raw.return (at xs) raw.no_expr ∷ []) zs
    return_value : {c : Context} {d : ℕ} {e : RawExpr} {xs ys zs ws : Symbols} → c.returns ≡ true → Reserved word.Return xs ys → (look ys).after_line ≡ false → E d true 0 ys e zs → Ends zs ws
        → T c d xs (raw.return (at xs) (raw.one_expr e) ∷ []) ws
    -- 12.11 the switch statement
    switch : {c : Context} {d h i : ℕ} {e : RawExpr} {cs : List RawCase} {xs ys zs us vs ws ts : Symbols} → h < d → i < d → Reserved word.Switch xs ys → Sign mark.OpenParen ys zs
        → E h true 0 zs e us → Sign mark.CloseParen us vs → Sign mark.OpenBrace vs ws → Cases (in_switch c) i false ws cs ts → T c d xs (raw.switch (at xs) e (cases cs) ∷ []) ts
    -- 12.12 labelled statement
    label : {c : Context} {d h : ℕ} {n : List ℕ} {b : List RawStmt} {xs ys zs ws : Symbols} → h < d → At (k.name n) xs ys → Sign mark.Colon ys zs → is_among n c.labels ≡ false
        → T (labelled n c) h zs b ws → T c d xs (raw.label (at xs) n (stmts b) ∷ []) ws
    half_label : {c : Context} {d : ℕ} {n : List ℕ} {x : Construct} {xs ys zs : Symbols} → At (k.name n) xs ys → refused_name n ≡ Some x → At (k.due k.remedy) ys zs → T c d xs [] zs
    -- 12.13 throw statement: no line end before the value
    throw : {c : Context} {d : ℕ} {e : RawExpr} {xs ys zs ws : Symbols} → Reserved word.Throw xs ys → (look ys).after_line ≡ false → E d true 0 ys e zs → Ends zs ws
        → T c d xs (raw.throw (at xs) e ∷ []) ws
    -- 12.14 the try statement
    try_catch : {c : Context} {d h i : ℕ} {b : List RawStmt} {f : RawCatch} {xs ys zs ws : Symbols} → h < d → i < d → Reserved word.Try xs ys
        → (look ys).kind ≡ k.mark mark.OpenBrace → T (inside c) h ys b zs → Catch (inside c) i zs f ws → is_word word.Finally (look ws).kind ≡ false
        → T c d xs (raw.try (at xs) (stmts b) f raw.no_finally ∷ []) ws
    try_finally : {c : Context} {d h i : ℕ} {b : List RawStmt} {f : RawFinally} {xs ys zs ws : Symbols} → h < d → i < d → Reserved word.Try xs ys
        → (look ys).kind ≡ k.mark mark.OpenBrace → T (inside c) h ys b zs → Finally (inside c) i zs f ws
        → T c d xs (raw.try (at xs) (stmts b) raw.no_catch f ∷ []) ws
    try_both : {c : Context} {d h i j : ℕ} {b : List RawStmt} {f : RawCatch} {g : RawFinally} {xs ys zs ws vs : Symbols} → h < d → i < d → j < d → Reserved word.Try xs ys
        → (look ys).kind ≡ k.mark mark.OpenBrace → T (inside c) h ys b zs → Catch (inside c) i zs f ws → Finally (inside c) j ws g vs
        → T c d xs (raw.try (at xs) (stmts b) f g ∷ []) vs
    -- 13 function declaration
    declare : {c : Context} {d h : ℕ} {v : List ℕ} {ps : List Named} {b : List RawStmt} {xs ys zs ws : Symbols} → c.declares ≡ true → h < d → Reserved word.Function xs ys → Variable ys v zs
        → Function h zs ps b ws → T c d xs (raw.fun_decl (at xs) (named ys v) ps (stmts b) ∷ []) ws
    any_statement : {c : Context} {d : ℕ} {xs ys : Symbols} → At (k.due k.statement) xs ys → T c d xs [] ys

  -- 13, 14 statements one behind the other
  pub data Body : Context → ℕ → Symbols → List RawStmt → Symbols → Type 0 where
    done : {c : Context} {h : ℕ} {xs : Symbols} → Body c h xs [] xs
    next : {c : Context} {h : ℕ} {a b : List RawStmt} {xs ys zs : Symbols} → T c h xs a ys → Body c h ys b zs → Body c h xs (a ++ b) zs

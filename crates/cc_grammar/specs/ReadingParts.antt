-- Reading: why it stops, what a token begins, and the parts that expressions and statements share.
use Rattle.std.specs.Prelude.{ℕ, zero, suc, Bool, true, false, not, ◌||◌, ◌&&◌, if◌then◌else◌, List, [], ◌∷◌, ◌++◌, Result, Ok, Err, Option, Some, None, is_some}
use Rattle.cc_ast.specs.declared.operator.UnOp.TheVariants as op
use Rattle.cc_ast.specs.declared.place.Place.{Place}
use Rattle.cc_ast.specs.declared.reading.Construct.{Construct}
use Rattle.cc_ast.specs.declared.reading.Construct.TheVariants as construct
use Rattle.cc_ast.specs.Syntax.{Prim}
use Rattle.cc_lexer.specs.declared.token.Mark.{Mark}
use Rattle.cc_lexer.specs.declared.token.Mark.TheVariants as mark
use Rattle.cc_lexer.specs.declared.word.Word.{Word}
use Rattle.cc_lexer.specs.declared.word.Word.TheVariants as word
use Rattle.cc_grammar.specs.Symbols.{Kind, Lexeme, Symbols, look, rest, nothing, is_mark, is_word}
use Rattle.cc_grammar.specs.Symbols as k
use Rattle.cc_grammar.specs.RawTree.{RawExpr, RawStmt, Named}
use Rattle.cc_grammar.specs.Signs.{Prefix, unary, literal_of, is_slash, refused_name, refused_kind, step_of}
use Rattle.cc_grammar.specs.Fronts.{is_end}
use Rattle.cc_grammar.specs.Grammar.{Context, Labels}

-- Why reading stops. `spent` says that the turns of a loop were too few for the list, and `depth` that the depth was.
pub data Cause : Type 0 where
  syntax depth spent : Cause
  refused : Construct → Cause

pub record Fault : Type 0 where
  pub cause : Cause
  pub place : Place

-- what is due where a token doesn't go on
pub data Due : Type 0 where
  a_token a_variable an_operand : Due

abbrev pub refused_there : Due → Kind → Option Construct
refused_there a_variable (k.name n) = refused_name n
refused_there an_operand (k.name n) = refused_name n
refused_there an_operand x = if is_slash x then Some construct.RegExp else None
refused_there _ _ = None

abbrev pub either : Option Construct → Option Construct → Cause
either (Some c) d = refused c
either None (Some c) = refused c
either None None = syntax

abbrev pub fault : Due → Lexeme → Fault
fault d t = record { cause = either (refused_kind t.kind) (refused_there d t.kind); place = t.place }

-- a tree and its height
abbrev pub Sized : Type 0 → Type 0
Sized A = A × ℕ

abbrev pub Outcome : Type 0 → Type 0 → Type 0
Outcome S A = Result (A × S) (Fault × S)

abbrev pub and_then : {S A B : Type 0} → Outcome S A → (A → S → Outcome S B) → Outcome S B
and_then (Ok p) f = f p.0 p.1
and_then (Err x) f = Err x

infixl 10 ◌>>=◌
abbrev pub ◌>>=◌ : {S A B : Type 0} → (S → Outcome S A) → (A → S → Outcome S B) → S → Outcome S B
p >>= f = λ i. and_then (p i) f

infixl 10 ◌>>◌
abbrev pub ◌>>◌ : {S A B : Type 0} → (S → Outcome S A) → (S → Outcome S B) → S → Outcome S B
p >> q = p >>= (λ _. q)

-- ---- what a token begins

abbrev pub allowed : Option Construct → List ℕ → Option (List ℕ)
allowed None n = Some n
allowed (Some c) n = None

-- the variable that it names
abbrev pub variable_of : Kind → Option (List ℕ)
variable_of (k.name n) = allowed (refused_name n) n
variable_of (k.due k.variable) = Some []
variable_of _ = None

-- a primary expression or `new`
pub data Head : Type 0 where
  no_head is_this is_operand is_paren is_array is_object is_function is_new : Head
  is_literal : Prim → Head
  is_variable : List ℕ → Head

abbrev pub head_by : Option Prim → Option (List ℕ) → Kind → Head
head_by (Some p) v x = is_literal p
head_by None (Some n) x = is_variable n
head_by None None (k.word word.This) = is_this
head_by None None (k.word word.Function) = is_function
head_by None None (k.word word.New) = is_new
head_by None None (k.mark mark.OpenParen) = is_paren
head_by None None (k.mark mark.OpenBracket) = is_array
head_by None None (k.mark mark.OpenBrace) = is_object
head_by None None (k.due k.operand) = is_operand
head_by None None _ = no_head

unfoldable pub head_of : Kind → Head
head_of x = head_by (literal_of x) (variable_of x) x

-- what goes on with a left-hand-side expression
pub data Suffix : Type 0 where
  no_suffix by_dot by_bracket by_call : Suffix

abbrev pub suffix_of : (calls : Bool) → Kind → Suffix
suffix_of calls (k.mark mark.Dot) = by_dot
suffix_of calls (k.mark mark.OpenBracket) = by_bracket
suffix_of true (k.mark mark.OpenParen) = by_call
suffix_of calls _ = no_suffix

abbrev pub is_ending : Kind → Bool
is_ending (k.due k.ending) = true
is_ending _ = false

abbrev pub is_element : Kind → Bool
is_element (k.due k.element) = true
is_element _ = false

abbrev pub is_remedy : Kind → Bool
is_remedy (k.due k.remedy) = true
is_remedy _ = false

abbrev pub is_delete : Prefix → Bool
is_delete (unary op.Delete) = true
is_delete _ = false

-- it goes on with the operand of a unary operator
abbrev pub goes_on : Lexeme → Bool
goes_on t = is_mark mark.Dot t.kind || is_mark mark.OpenBracket t.kind || is_mark mark.OpenParen t.kind || (is_some (step_of t.kind) && not t.after_line) || is_remedy t.kind

-- it ends a `return` without a value
abbrev pub ends_return : Lexeme → Bool
ends_return t = t.after_line || is_mark mark.Semicolon t.kind || is_ending t.kind || is_mark mark.CloseBrace t.kind || is_end t.kind

-- the label of a jump, on the same line
abbrev pub label_by : Kind → Bool → Option (List ℕ)
label_by (k.name n) false = Some n
label_by _ _ = None

abbrev pub label_of : Lexeme → Option (List ℕ)
label_of t = label_by t.kind t.after_line

abbrev pub is_some_label : Labels → Bool
is_some_label [] = false
is_some_label (l ∷ ls) = true

-- a clause of a `switch`
pub data Clause : Type 0 where
  no_clause is_case is_default is_close : Clause

abbrev pub clause_of : Kind → Clause
clause_of (k.word word.Case) = is_case
clause_of (k.word word.Default) = is_default
clause_of (k.mark mark.CloseBrace) = is_close
clause_of _ = no_clause

-- it ends a list of statements
abbrev pub ends_list : Kind → Bool
ends_list (k.mark mark.CloseBrace) = true
ends_list (k.word word.Case) = true
ends_list (k.word word.Default) = true
ends_list k.end = true
ends_list _ = false

-- a statement
pub data Start : Type 0 where
  is_block is_vars is_empty is_if is_do is_while is_for is_continue is_break is_return is_switch is_throw is_try is_declaration is_any is_plain : Start
  is_name : List ℕ → Start

abbrev pub start_of : Kind → Start
start_of (k.mark mark.OpenBrace) = is_block
start_of (k.mark mark.Semicolon) = is_empty
start_of (k.word word.Var) = is_vars
start_of (k.word word.If) = is_if
start_of (k.word word.Do) = is_do
start_of (k.word word.While) = is_while
start_of (k.word word.For) = is_for
start_of (k.word word.Continue) = is_continue
start_of (k.word word.Break) = is_break
start_of (k.word word.Return) = is_return
start_of (k.word word.Switch) = is_switch
start_of (k.word word.Throw) = is_throw
start_of (k.word word.Try) = is_try
start_of (k.word word.Function) = is_declaration
start_of (k.due k.statement) = is_any
start_of (k.name n) = is_name n
start_of _ = is_plain

module _ (S : Type 0) (see : S → Lexeme) (go : S → S) (semicolon : S → Outcome S (Unit {0})) where
  abbrev Parser : Type 0 → Type 0
  Parser A = S → Outcome S A

  abbrev pub pure : {A : Type 0} → A → Parser A
  pure a = λ i. Ok (a, i)

  abbrev pub fail : {A : Type 0} → Due → Parser A
  fail d = λ i. Err (fault d (see i), i)

  abbrev pub stops : {A : Type 0} → Cause → Parser A
  stops c = λ i. Err (record { cause = c; place = (see i).place }, i)

  -- a refused construct began at an earlier place
  abbrev pub refuse : {A : Type 0} → Construct → Place → Parser A
  refuse c p = λ i. Err (record { cause = refused c; place = p }, i)

  abbrev pub peek : Parser Lexeme
  peek = λ i. Ok (see i, i)

  abbrev pub take : Parser Lexeme
  take = λ i. Ok (see i, go i)

  unfoldable pub expect : Mark → Parser (Unit {0})
  expect m = λ i. if is_mark m (see i).kind then Ok (tt, go i) else Err (fault a_token (see i), i)

  unfoldable pub expect_word : Word → Parser (Unit {0})
  expect_word w = λ i. if is_word w (see i).kind then Ok (tt, go i) else Err (fault a_token (see i), i)

  -- ---- variables and parameters

  abbrev pub variable_by : Option (List ℕ) → Parser Named
  variable_by None = fail a_variable
  variable_by (Some n) = do
    t ← take
    pure (record { place = t.place; name = n })

  unfoldable pub variable : Parser Named
  variable = do
    t ← peek
    variable_by (variable_of t.kind)

  unfoldable pub params : ℕ → List Named → Parser (List Named)
  params zero found = stops spent
  params (suc m) found = do
    v ← variable
    t ← peek
    if is_mark mark.Comma t.kind then take >> params m (found ++ v ∷ []) else (expect mark.CloseParen >> pure (found ++ v ∷ []))

  unfoldable pub params_of : ℕ → Parser (List Named)
  params_of turns = do
    t ← peek
    if is_mark mark.CloseParen t.kind then take >> pure [] else params turns []

  abbrev pub own_name_by : Option (List ℕ) → Bool → Parser (Option Named)
  own_name_by None true = pure None
  own_name_by None false = fail a_variable
  own_name_by (Some n) b = do
    t ← take
    pure (Some (record { place = t.place; name = n }))

  unfoldable pub own_name : Parser (Option Named)
  own_name = do
    t ← peek
    own_name_by (variable_of t.kind) (is_mark mark.OpenParen t.kind)

  -- ---- the operand of a `delete`, ahead: whether it is a variable, perhaps in parentheses

  unfoldable pub closed : ℕ → Parser Bool
  closed zero = do
    t ← peek
    pure (not (goes_on t))
  closed (suc m) = do
    t ← peek
    if is_mark mark.CloseParen t.kind then take >> closed m else pure false

  unfoldable pub opened : ℕ → ℕ → Parser Bool
  opened zero count = stops spent
  opened (suc m) count = do
    t ← peek
    if is_mark mark.OpenParen t.kind then take >> opened m (suc count)
        else (if is_some (variable_of t.kind) then take >> closed count else pure false)

  abbrev pub unless_deleted : {A : Type 0} → Outcome S Bool → Place → Outcome S A → Outcome S A
  unless_deleted (Ok p) q o = if p.0 then Err (record { cause = refused construct.DeleteName; place = q }, p.1) else o
  unless_deleted (Err x) q o = Err x

  -- what stands inside
  pub record Inner : Type 0 where
    pub expr : Bool → ℕ → Parser (Sized RawExpr)
    pub stmt : Context → Parser (Sized (List RawStmt))

  abbrev pub no_depth : Inner
  no_depth = record { expr = λ n l. stops depth; stmt = λ c. stops depth }

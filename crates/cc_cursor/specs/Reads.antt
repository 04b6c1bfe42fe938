-- The reading function over lists of tokens, and what a reader ensures.
use Rattle.std.specs.Prelude.{◌≡◌, ℕ, zero, suc, Bool, List, Result, Ok, Err, Option}
use Rattle.cc_lexer.specs.declared.token.Mark.{Mark}
use Rattle.cc_lexer.specs.declared.word.Word.{Word}
use Rattle.cc_grammar.specs.Symbols.{Lexeme}
use Rattle.cc_grammar.specs.RawTree as S
use Rattle.cc_grammar.specs.Reading.{Outcome, Sized, Inner, look_token, rest_tokens, semicolon_token}
use Rattle.cc_grammar.specs.Reading as r
use Rattle.cc_cursor.specs.declared.error.ReadError.{ReadError}
use Rattle.cc_cursor.specs.declared.error.ReadError.TheVariants as error
use Rattle.cc_cursor.specs.declared.limits.Limits.{Limits}
use Rattle.cc_cursor.specs.Shown as shown

abbrev pub Tokens : Type 0
Tokens = List Lexeme

-- ---- what a reader ensures

-- a fault where the outcome is that fault, or want of memory
abbrev pub Fails : {A : Type 0} → Outcome Tokens A → ReadError → Tokens → Type 0
Fails outcome error.Memory new = Unit {0}
Fails outcome (error.Fault f) new = outcome ≡ Err (shown.fault f, new)

-- The outcome is what the answer shows and the tokens that are left, unless memory fails.
abbrev pub Reads : {A B : Type 0} → (A → B) → Outcome Tokens B → Result A ReadError → Tokens → Type 0
Reads show outcome (Ok a) new = outcome ≡ Ok (show a, new)
Reads show outcome (Err e) new = Fails outcome e new

abbrev pub same : {A : Type 0} → A → A
same a = a

-- ---- the readers

abbrev pub Inside : Type 0
Inside = Inner Tokens look_token rest_tokens semicolon_token

-- what reads inside a tree that may still be so high
unfoldable pub inside : ℕ → ℕ → Inside
inside turns zero = r.no_depth Tokens look_token rest_tokens semicolon_token
inside turns (suc d) = r.reader Tokens look_token rest_tokens semicolon_token turns d

abbrev pub within : Limits → Inside
within m = inside m.turns m.depth

abbrev pub expect : Mark → Tokens → Outcome Tokens (Unit {0})
expect = r.expect Tokens look_token rest_tokens semicolon_token

abbrev pub expect_word : Word → Tokens → Outcome Tokens (Unit {0})
expect_word = r.expect_word Tokens look_token rest_tokens semicolon_token

abbrev pub expect_end : Tokens → Outcome Tokens (Unit {0})
expect_end = r.expect_end Tokens look_token rest_tokens semicolon_token

abbrev pub variable : Tokens → Outcome Tokens S.Named
variable = r.variable Tokens look_token rest_tokens semicolon_token

abbrev pub params : ℕ → List S.Named → Tokens → Outcome Tokens (List S.Named)
params = r.params Tokens look_token rest_tokens semicolon_token

abbrev pub params_of : ℕ → Tokens → Outcome Tokens (List S.Named)
params_of = r.params_of Tokens look_token rest_tokens semicolon_token

abbrev pub own_name : Tokens → Outcome Tokens (Option S.Named)
own_name = r.own_name Tokens look_token rest_tokens semicolon_token

abbrev pub elements : Limits → ℕ → List S.RawExpr → ℕ → Tokens → Outcome Tokens (Sized (List S.RawExpr))
elements m = r.elements Tokens look_token rest_tokens semicolon_token m.depth m.turns (within m)

abbrev pub arguments : Limits → ℕ → List S.RawExpr → ℕ → Tokens → Outcome Tokens (Sized (List S.RawExpr))
arguments m = r.arguments Tokens look_token rest_tokens semicolon_token m.depth m.turns (within m)

abbrev pub arguments_of : Limits → Tokens → Outcome Tokens (Sized (List S.RawExpr))
arguments_of m = r.arguments_of Tokens look_token rest_tokens semicolon_token m.depth m.turns (within m)

abbrev pub parentheses : Limits → Tokens → Outcome Tokens (Sized S.RawExpr)
parentheses m = r.parentheses Tokens look_token rest_tokens semicolon_token m.depth m.turns (within m)

abbrev pub array : Limits → Tokens → Outcome Tokens (Sized S.RawExpr)
array m = r.array Tokens look_token rest_tokens semicolon_token m.depth m.turns (within m)

abbrev pub expr_of : Limits → Bool → ℕ → Tokens → Outcome Tokens (Sized S.RawExpr)
expr_of m = r.expr_of Tokens look_token rest_tokens semicolon_token m.depth m.turns (within m)

-- ---- the operand of a `delete`, ahead

abbrev pub closed : ℕ → Tokens → Outcome Tokens Bool
closed = r.closed Tokens look_token rest_tokens semicolon_token

abbrev pub opened : ℕ → ℕ → Tokens → Outcome Tokens Bool
opened = r.opened Tokens look_token rest_tokens semicolon_token

-- what o is, unless a `delete` stands there whose operand is a variable
abbrev pub unless_deleted : {A : Type 0} → ℕ → Tokens → Outcome Tokens A → Outcome Tokens A
unless_deleted turns i o = r.unless_deleted Tokens look_token rest_tokens semicolon_token (opened turns 0 (rest_tokens i)) (look_token i).place o

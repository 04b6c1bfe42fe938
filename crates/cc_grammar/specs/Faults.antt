-- Where a list of tokens isn't read, and why.
use Rattle.std.specs.Prelude.{◌≡◌, ℕ, ◌<◌, List, [], ◌∷◌, ◌++◌, map, length, Bool, true, false, is_some, Some}
use Rattle.cc_ast.specs.declared.reading.Construct.{Construct}
use Rattle.cc_ast.specs.declared.reading.Construct.TheVariants as construct
use Rattle.cc_lexer.specs.declared.token.Mark.TheVariants as mark
use Rattle.cc_lexer.specs.declared.word.Word.TheVariants as word
use Rattle.cc_grammar.specs.Symbols.{Kind, Lexeme, Symbol, Symbols, real, inserted, lexemes_of, is_mark}
use Rattle.cc_grammar.specs.Symbols as k
use Rattle.cc_grammar.specs.RawTree.{RawExpr}
use Rattle.cc_grammar.specs.Signs.{refused_kind, refused_name, is_slash, is_accessor, is_variable, key_of}
use Rattle.cc_grammar.specs.Grammar.{E}
use Rattle.cc_grammar.specs.Fronts.{IsFront, IsFrontWithin, Justified}
use Rattle.cc_grammar.specs.Reading.{Cause, syntax, depth, spent, refused}

-- ---- fronts of tokens

-- The tokens, with justified insertions, are a front of a program. Behind them perhaps goes on a list that justifies the last insertion.
pub record IsFrontOf (ts : List Lexeme) (xs more : Symbols) : Type 0 where
  pub tokens : lexemes_of xs ≡ ts
  pub justified : Justified (xs ++ more)
  pub front : IsFront xs

pub record TokensFront (ts : List Lexeme) : Type 0 where
  pub symbols : Symbols
  pub is_front : IsFrontOf ts symbols []

pub record TokensFrontWithin (d : ℕ) (ts : List Lexeme) : Type 0 where
  pub symbols : Symbols
  pub tokens : lexemes_of symbols ≡ ts
  pub justified : Justified symbols
  pub front : IsFrontWithin d symbols

-- ---- refused constructs

-- in place of the token any such part
abbrev pub any : k.Part → Lexeme → Symbol
any p t = real (record t { kind = k.due p })

abbrev pub next_is : (Kind → Bool) → List Lexeme → Bool
next_is p [] = false
next_is p (t ∷ ts) = p t.kind

-- A refused construct begins at the token t, behind the front xs and before the tokens ts.
pub data Begins (xs : Symbols) (t : Lexeme) (ts : List Lexeme) : Construct → Type 0 where
  -- a token of a construct that it begins wherever it may not stand
  itself : {c : Construct} → refused_kind t.kind ≡ Some c → ¬ (IsFront (xs ++ real t ∷ [])) → Begins xs t ts c
  -- a slash where an operand is due
  regexp : is_slash t.kind ≡ true → IsFront (xs ++ any k.operand t ∷ []) → ¬ (IsFront (xs ++ real t ∷ [])) → Begins xs t ts construct.RegExp
  -- a comma where an element of an array is due
  hole : t.kind ≡ k.mark mark.Comma → IsFront (xs ++ any k.element t ∷ []) → ¬ (IsFront (xs ++ real t ∷ [])) → Begins xs t ts construct.Hole
  -- `function` where a statement is due and no declaration may stand
  function : t.kind ≡ k.word word.Function → IsFront (xs ++ any k.statement t ∷ []) → ¬ (IsFront (xs ++ real t ∷ [])) → Begins xs t ts construct.BlockFunction
  -- `eval` or `arguments` where a variable is due, and not where a label may stand that a colon follows
  name : {n : List ℕ} {c : Construct} → t.kind ≡ k.name n → refused_name n ≡ Some c → IsFront (xs ++ any k.variable t ∷ [])
      → (next_is (is_mark mark.Colon) ts ≡ true → ¬ (IsFront (xs ++ real t ∷ []))) → Begins xs t ts c
  -- `get` or `set` where a key is due, before another key
  accessor : is_accessor t.kind ≡ true → IsFront (xs ++ any k.key t ∷ []) → next_is (λ x. is_some (key_of x)) ts ≡ true → Begins xs t ts construct.Accessor
  -- `delete` where an operand is due, before a whole operand that is a variable and that the next token doesn't go on with
  delete : (h : ℕ) (n : Bool) (e : RawExpr) (us vs : List Lexeme) (u : Lexeme) → t.kind ≡ k.word word.Delete → IsFront (xs ++ any k.operand t ∷ [])
      → ts ≡ us ++ u ∷ vs → E h n 13 (map real us) e [] → is_variable e ≡ true
      → IsFront (xs ++ real t ∷ map real us) → ¬ (IsFront (xs ++ real t ∷ (map real us ++ real u ∷ []))) → Begins xs t ts construct.DeleteName

-- ---- the causes, at the token behind so many

-- the list at its token number n
pub record Splits (ts : List Lexeme) (n : ℕ) (before : List Lexeme) (t : Lexeme) (after : List Lexeme) : Type 0 where
  pub is : ts ≡ before ++ t ∷ after
  pub count : length before ≡ n

-- the tokens before it are a front, and a refused construct begins there
pub record RefusedAt (ts : List Lexeme) (n : ℕ) (c : Construct) : Type 0 where
  pub before : List Lexeme
  pub token : Lexeme
  pub after : List Lexeme
  pub splits : Splits ts n before token after
  pub symbols : Symbols
  pub front : IsFrontOf before symbols (real token ∷ [])
  pub begins : Begins symbols token after c

-- the tokens up to it are a front, but none within the depth; those before it are one within the depth
pub record TooDeepAt (d : ℕ) (ts : List Lexeme) (n : ℕ) : Type 0 where
  pub before : List Lexeme
  pub token : Lexeme
  pub after : List Lexeme
  pub splits : Splits ts n before token after
  pub front : TokensFront (before ++ token ∷ [])
  pub deep : ¬ (TokensFrontWithin d (before ++ token ∷ []))
  pub earlier : TokensFrontWithin d before

-- the tokens before it are a front, and those up to it are none
pub record WrongAt (ts : List Lexeme) (n : ℕ) : Type 0 where
  pub before : List Lexeme
  pub token : Lexeme
  pub after : List Lexeme
  pub splits : Splits ts n before token after
  pub earlier : TokensFront before
  pub wrong : ¬ (TokensFront (before ++ token ∷ []))

abbrev pub FaultAt : ℕ → List Lexeme → ℕ → Cause → Type 0
FaultAt d ts n (refused c) = RefusedAt ts n c
FaultAt d ts n depth = TooDeepAt d ts n
FaultAt d ts n syntax = WrongAt ts n
FaultAt d ts n spent = ⊥

-- on a tie of places a refusal comes first, and then the depth
abbrev pub rank : Cause → ℕ
rank (refused c) = 0
rank depth = 1
rank _ = 2

-- the first fault of the list
pub record FirstFault (d : ℕ) (ts : List Lexeme) (n : ℕ) (c : Cause) : Type 0 where
  pub is : FaultAt d ts n c
  pub least : (i : ℕ) (b : Cause) → i < n → ¬ (FaultAt d ts i b)
  pub ranked : (b : Cause) → rank b < rank c → ¬ (FaultAt d ts n b)

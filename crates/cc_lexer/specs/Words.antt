-- The reserved words (ECMA-262 5.1, 7.6.1), and null, true and false.
use Rattle.std.specs.Prelude.{ℕ, List, [], ◌∷◌, if◌then◌else◌, Option, Some, None, codes}
use Rattle.std.specs.Str.{bytes_eq}
use Rattle.cc_lexer.specs.declared.word.Word.{Word}
use Rattle.cc_lexer.specs.declared.word.Word.TheVariants as w

-- how a word is spelled
unfoldable pub spelling : Word → List ℕ
spelling w.Break = codes "break"
spelling w.Case = codes "case"
spelling w.Catch = codes "catch"
spelling w.Class = codes "class"
spelling w.Const = codes "const"
spelling w.Continue = codes "continue"
spelling w.Debugger = codes "debugger"
spelling w.Default = codes "default"
spelling w.Delete = codes "delete"
spelling w.Do = codes "do"
spelling w.Else = codes "else"
spelling w.Enum = codes "enum"
spelling w.Export = codes "export"
spelling w.Extends = codes "extends"
spelling w.False = codes "false"
spelling w.Finally = codes "finally"
spelling w.For = codes "for"
spelling w.Function = codes "function"
spelling w.If = codes "if"
spelling w.Import = codes "import"
spelling w.In = codes "in"
spelling w.Instanceof = codes "instanceof"
spelling w.New = codes "new"
spelling w.Null = codes "null"
spelling w.Return = codes "return"
spelling w.Super = codes "super"
spelling w.Switch = codes "switch"
spelling w.This = codes "this"
spelling w.Throw = codes "throw"
spelling w.True = codes "true"
spelling w.Try = codes "try"
spelling w.Typeof = codes "typeof"
spelling w.Var = codes "var"
spelling w.Void = codes "void"
spelling w.While = codes "while"
spelling w.With = codes "with"

unfoldable pub words : List Word
words = w.Break ∷ w.Case ∷ w.Catch ∷ w.Class ∷ w.Const ∷ w.Continue ∷ w.Debugger ∷ w.Default ∷ w.Delete ∷ w.Do ∷ w.Else ∷ w.Enum
    ∷ w.Export ∷ w.Extends ∷ w.False ∷ w.Finally ∷ w.For ∷ w.Function ∷ w.If ∷ w.Import ∷ w.In ∷ w.Instanceof ∷ w.New ∷ w.Null
    ∷ w.Return ∷ w.Super ∷ w.Switch ∷ w.This ∷ w.Throw ∷ w.True ∷ w.Try ∷ w.Typeof ∷ w.Var ∷ w.Void ∷ w.While ∷ w.With ∷ []

abbrev pub spelled_in : List Word → List ℕ → Option Word
spelled_in [] u = None
spelled_in (w ∷ ws) u = if bytes_eq (spelling w) u then Some w else spelled_in ws u

-- the word of this spelling
unfoldable pub word_of : List ℕ → Option Word
word_of = spelled_in words

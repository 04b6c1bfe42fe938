-- Equations that can't be, and what follows of equal lists and causes.
use Rattle.std.specs.Prelude.{◌≡◌, true, false, List, [], ◌∷◌, ◌++◌, Option, Some, None}
use Rattle.cc_ast.specs.declared.reading.Construct.{Construct}
use Rattle.cc_grammar.specs.Symbols.{Lexeme, Symbol, Symbols, real, inserted}
use Rattle.cc_grammar.specs.Reading.{syntax, refused}

pub clash : {A : Type 0} → true ≡ false → A
clash e = absurd (cc)

pub never : {A : Type 0} → false ≡ true → A
never e = absurd (cc)

pub none_some : {A : Type 0} {x : Construct} → None ≡ Some x → A
none_some e = absurd (cc)

pub some_is : {A : Type 0} {x y : A} → ◌≡◌ {A = Option A} (Some x) (Some y) → x ≡ y
some_is e = cc

pub no_syntax : {A : Type 0} {x : Construct} → syntax ≡ refused x → A
no_syntax e = absurd (cc)

pub same_construct : {x y : Construct} → refused x ≡ refused y → x ≡ y
same_construct e = cc

-- ---- tokens

pub same_head : (t u : Lexeme) (ts us : List Lexeme) → t ∷ ts ≡ u ∷ us → t ≡ u
same_head t u ts us e = cc

pub same_tail : (t u : Lexeme) (ts us : List Lexeme) → t ∷ ts ≡ u ∷ us → ts ≡ us
same_tail t u ts us e = cc

pub nothing_some : (t : Lexeme) (ts : List Lexeme) → [] ≡ t ∷ ts → ⊥
nothing_some t ts e = cc

-- ---- symbols

pub head_is : (x y : Symbol) (xs ys : Symbols) → x ∷ xs ≡ y ∷ ys → x ≡ y
head_is x y xs ys e = cc

pub tail_is : (x y : Symbol) (xs ys : Symbols) → x ∷ xs ≡ y ∷ ys → xs ≡ ys
tail_is x y xs ys e = cc

pub not_real : (t : Lexeme) → real t ≡ inserted → ⊥
not_real t e = cc

pub no_insertion : (before after : Symbols) → [] ≡ before ++ (inserted ∷ after) → ⊥
no_insertion [] after e = cc
no_insertion (m ∷ before) after e = cc

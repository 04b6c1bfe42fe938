-- What the values of the code show.
use Rattle.std.specs.Prelude.{◌≡◌, ℕ, List, [], ◌∷◌, ◌++◌, Bool, true, false, Option, Some, None, is_some, is_none, map}
use denote.Ref.{Bor}
use Rattle.cc_ast.specs.declared.place.Place.{Place}
use Rattle.cc_ast.specs.declared.reading.Construct.{Construct}
use Rattle.cc_lexer.specs.declared.token.Token.{Token}
use Rattle.cc_grammar.specs.Symbols.{Lexeme, kind_of}
use Rattle.cc_grammar.specs.Symbols as k
use Rattle.cc_grammar.specs.Reading as r
use Rattle.cc_grammar.specs.RawTree as S
use Rattle.cc_raw.specs.declared.tree.Named.{Named}
use Rattle.cc_raw.specs.declared.tree.RawExpr.{RawExpr}
use Rattle.cc_raw.specs.declared.tree.RawField.{RawField}
use Rattle.cc_raw.specs.declared.tree.RawStmt.{RawStmt}
use Rattle.cc_raw.specs.Bridge.{named, raw_expr, raw_field, raw_stmt}
use Rattle.cc_grammar.specs.Grammar as g
use Rattle.cc_cursor.specs.declared.context.Context.{Context}
use Rattle.cc_cursor.specs.declared.error.Cause.{Cause}
use Rattle.cc_cursor.specs.declared.error.Cause.TheVariants as c
use Rattle.cc_cursor.specs.declared.error.Fault.{Fault}
use Rattle.cc_cursor.specs.declared.refused.Due.{Due}
use Rattle.cc_cursor.specs.declared.refused.Due.TheVariants as d
use Rattle.cc_cursor.specs.declared.lexeme.Kind.{Kind}
use Rattle.cc_cursor.specs.declared.lexeme.Kind.TheVariants as code
use Rattle.cc_cursor.specs.declared.lexeme.Lexeme as coded

abbrev pub kind : Kind → k.Kind
kind (code.Name u) = k.name u.now
kind (code.Word w) = k.word w
kind (code.Mark m) = k.mark m
kind (code.Number n) = k.number n
kind (code.Text u) = k.text u.now
kind code.End = k.end
kind (code.Stop c) = k.stop c

abbrev pub lexeme : coded.Lexeme → Lexeme
lexeme t = record { kind = kind t.kind; place = t.place; after_line = t.after_line; noted = t.noted }

abbrev pub maybe : Option coded.Lexeme → List Lexeme
maybe None = []
maybe (Some t) = lexeme t ∷ []

-- the place where no token begins
abbrev pub stop_lexeme : Option Construct → Place → Lexeme
stop_lexeme c p = record { kind = k.stop c; place = p; after_line = false; noted = false }

-- the tokens that are no comments, and behind them where none begins
abbrev pub behind : Bool → List Token → Option coded.Lexeme → List Lexeme
behind noted [] s = maybe s
behind noted (t ∷ ts) s = k.lexeme (kind_of t.kind) noted t ++ behind (is_none (kind_of t.kind)) ts s

-- the first of the tokens, where there is one, is no comment
abbrev pub BeginsReal : List Token → Type 0
BeginsReal [] = Unit {0}
BeginsReal (t ∷ ts) = is_some (kind_of t.kind) ≡ true

abbrev pub due : Due → r.Due
due d.Token = r.a_token
due d.Variable = r.a_variable
due d.Operand = r.an_operand

abbrev pub cause : Cause → r.Cause
cause c.Syntax = r.syntax
cause c.Depth = r.depth
cause c.Spent = r.spent
cause (c.Refused x) = r.refused x

abbrev pub fault : Fault → r.Fault
fault f = record { cause = cause f.cause; place = f.place }

-- a token of the code and a token of the grammar
pub record Shows (t : coded.Lexeme) (u : Lexeme) : Type 0 where
  pub kind : kind t.kind ≡ u.kind
  pub place : t.place ≡ u.place
  pub after_line : t.after_line ≡ u.after_line
  pub noted : t.noted ≡ u.noted

-- a token of a text is no part that is due
pub record IsReal (x : k.Kind) : Type 0 where
  pub element : r.is_element x ≡ false
  pub remedy : r.is_remedy x ≡ false
  pub ending : r.is_ending x ≡ false

-- ---- trees with their heights

abbrev pub expr : RawExpr × ℕ → r.Sized S.RawExpr
expr x = (raw_expr x.0, x.1)

abbrev pub exprs : List RawExpr × ℕ → r.Sized (List S.RawExpr)
exprs x = (map raw_expr x.0, x.1)

abbrev pub stmts : List RawStmt × ℕ → r.Sized (List S.RawStmt)
stmts x = (map raw_stmt x.0, x.1)

-- a key of an object literal with its value
abbrev pub field : RawField → S.RawField
field f = record { place = (raw_field f).0; key = (raw_field f).1.0; value = (raw_field f).1.1 }

abbrev pub fields : List RawField × ℕ → r.Sized (List S.RawField)
fields x = (map field x.0, x.1)

abbrev pub names : List Named → List S.Named
names ns = map named ns

-- ---- where a statement stands

abbrev pub labels : List (Bor (List ℕ)) → List (List ℕ)
labels ls = map (λ l. l.now) ls

abbrev pub context : Context → g.Context
context c = record {
  declares = c.declares;
  returns = c.returns;
  continues = c.continues;
  breaks = c.breaks;
  labels = labels c.labels.now;
  loops = labels c.loops.now;
  own = labels c.own.now;
}

-- What goes on with no expression of a level.
use Rattle.std.specs.Prelude.{◌≡◌, ℕ, ◌<◌, ◌≤◌, Bool, true, false, Option, Some, None}
use Rattle.std.proofs.Common.{refl, sym, ap, arith, ◌∙◌, subst}
use Rattle.cc_ast.specs.declared.operator.BinOp.{BinOp}
use Rattle.cc_lexer.specs.declared.token.Mark.TheVariants as mark
use Rattle.cc_lexer.specs.declared.word.Word.TheVariants as word
use Rattle.cc_grammar.specs.Symbols.{Kind, Symbols, look, is_mark}
use Rattle.cc_grammar.specs.Symbols as k
use Rattle.cc_grammar.specs.Signs.{Infix, level, infix_of, assign_of, step_of}
use Rattle.cc_grammar.specs.Grammar as g
use Rattle.cc_grammar.specs.Grammar.{At, Ends}
use Rattle.cc_grammar.specs.Reading.{suffix_of}
use Rattle.cc_grammar.specs.Reading as r
use Rattle.cc_grammar.proofs.Steps.{kind_at}
use Rattle.cc_grammar.proofs.Firsts.{not_in_table}

-- no left-hand-side expression goes on with it, and no step stands there
pub record Apart (x : Kind) : Type 0 where
  pub suffix : suffix_of true x ≡ r.no_suffix
  pub step : step_of x ≡ None

-- no expression of the level goes on with it
pub record Quiet (n : Bool) (l : ℕ) (x : Kind) : Type 0 where
  pub apart : Apart x
  pub infix_below : (o : Infix) → infix_of n x ≡ Some o → level o < l
  pub question : l ≤ 2 → is_mark mark.Question x ≡ false
  pub assigning : l ≤ 1 → assign_of x ≡ None
  pub comma : l ≡ 0 → is_mark mark.Comma x ≡ false

pub looser : {n : Bool} {l : ℕ} {x : Kind} (m : ℕ) → l ≤ m → Quiet n l x → Quiet n m x
looser {l} m le q = record {
  apart = q.apart;
  infix_below = λ o e. omega (arith, q.infix_below o e);
  question = λ lt. q.question (omega arith);
  assigning = λ lt. q.assigning (omega arith);
  comma = λ e. q.comma (omega arith);
}

-- it goes on with nothing
silent : (n : Bool) (x : Kind) → suffix_of true x ≡ r.no_suffix → step_of x ≡ None → infix_of n x ≡ None → is_mark mark.Question x ≡ false → assign_of x ≡ None → is_mark mark.Comma x ≡ false
    → Quiet n 0 x
silent n x s t i q a c = record {
  apart = record { suffix = s; step = t };
  infix_below = λ o e. let no : None ≡ Some o = sym i ∙ e in (cc);
  question = λ _. q;
  assigning = λ _. a;
  comma = λ _. c;
}

pub close_paren : (n : Bool) → Quiet n 0 (k.mark mark.CloseParen)
close_paren n = silent n _ refl refl refl refl refl refl

pub close_bracket : (n : Bool) → Quiet n 0 (k.mark mark.CloseBracket)
close_bracket n = silent n _ refl refl refl refl refl refl

pub close_brace : (n : Bool) → Quiet n 0 (k.mark mark.CloseBrace)
close_brace n = silent n _ refl refl refl refl refl refl

pub colon : (n : Bool) → Quiet n 0 (k.mark mark.Colon)
colon n = silent n _ refl refl refl refl refl refl

pub semicolon : (n : Bool) → Quiet n 0 (k.mark mark.Semicolon)
semicolon n = silent n _ refl refl refl refl refl refl

pub ending : (n : Bool) → Quiet n 0 (k.due k.ending)
ending n = silent n _ refl refl refl refl refl refl

pub remedy : (n : Bool) → Quiet n 0 (k.due k.remedy)
remedy n = silent n _ refl refl refl refl refl refl

pub word_in : Quiet false 0 (k.word word.In)
word_in = silent false _ refl refl refl refl refl refl

pub comma : (n : Bool) → Quiet n 1 (k.mark mark.Comma)
comma n = record {
  apart = record { suffix = refl; step = refl };
  infix_below = λ o e. cc;
  question = λ _. refl;
  assigning = λ _. refl;
  comma = λ e. absurd (omega arith);
}

pub question : (n : Bool) → Quiet n 3 (k.mark mark.Question)
question n = record {
  apart = record { suffix = refl; step = refl };
  infix_below = λ o e. cc;
  question = λ le. absurd (omega arith);
  assigning = λ _. refl;
  comma = λ _. refl;
}

-- ---- operators

infix_suffix : (n : Bool) (x : Kind) (o : Infix) → infix_of n x ≡ Some o → suffix_of true x ≡ r.no_suffix
infix_suffix n (k.mark mark.Dot) o e = cc
infix_suffix n (k.mark mark.OpenBracket) o e = cc
infix_suffix n (k.mark mark.OpenParen) o e = cc
infix_suffix n _ o e = refl

infix_step : (n : Bool) (x : Kind) (o : Infix) → infix_of n x ≡ Some o → step_of x ≡ None
infix_step n (k.mark mark.PlusPlus) o e = cc
infix_step n (k.mark mark.MinusMinus) o e = cc
infix_step n _ o e = refl

pub infix_apart : (n : Bool) (x : Kind) (o : Infix) → infix_of n x ≡ Some o → Apart x
infix_apart n x o e = record { suffix = infix_suffix n x o e; step = infix_step n x o e }

pub step_suffix : (x : Kind) (b : Bool) → step_of x ≡ Some b → suffix_of true x ≡ r.no_suffix
step_suffix (k.mark mark.PlusPlus) b e = refl
step_suffix (k.mark mark.MinusMinus) b e = refl
step_suffix _ b e = cc

assign_suffix : (x : Kind) (o : Option BinOp) → assign_of x ≡ Some o → suffix_of true x ≡ r.no_suffix
assign_suffix (k.mark mark.Dot) o e = cc
assign_suffix (k.mark mark.OpenBracket) o e = cc
assign_suffix (k.mark mark.OpenParen) o e = cc
assign_suffix _ o e = refl

assign_step : (x : Kind) (o : Option BinOp) → assign_of x ≡ Some o → step_of x ≡ None
assign_step (k.mark mark.PlusPlus) o e = cc
assign_step (k.mark mark.MinusMinus) o e = cc
assign_step _ o e = refl

assign_infix : (n : Bool) (x : Kind) (o : Option BinOp) → assign_of x ≡ Some o → infix_of n x ≡ None
assign_infix n (k.mark mark.Equal) o e = refl
assign_infix n (k.mark mark.PlusEqual) o e = refl
assign_infix n (k.mark mark.MinusEqual) o e = refl
assign_infix n (k.mark mark.StarEqual) o e = refl
assign_infix n (k.mark mark.SlashEqual) o e = refl
assign_infix n (k.mark mark.PercentEqual) o e = refl
assign_infix n (k.mark mark.LessLessEqual) o e = refl
assign_infix n (k.mark mark.GreaterGreaterEqual) o e = refl
assign_infix n (k.mark mark.GreaterGreaterGreaterEqual) o e = refl
assign_infix n (k.mark mark.AmpersandEqual) o e = refl
assign_infix n (k.mark mark.BarEqual) o e = refl
assign_infix n (k.mark mark.CaretEqual) o e = refl
assign_infix n _ o e = cc

-- an assignment, where its target ends
pub assignment : (n : Bool) (x : Kind) (o : Option BinOp) → assign_of x ≡ Some o → Quiet n 2 x
assignment n x o e = record {
  apart = record { suffix = assign_suffix x o e; step = assign_step x o e };
  infix_below = λ p f. let no : None ≡ Some p = sym (assign_infix n x o e) ∙ f in (cc);
  question = λ _. not_in_table assign_of mark.Question x o refl e;
  assigning = λ le. absurd (omega arith);
  comma = λ le. absurd (omega arith);
}

-- ---- at the next symbol

pub at_next : {n : Bool} {x : Kind} {l : ℕ} {xs ys : Symbols} → At x xs ys → Quiet n l x → Quiet n l (look xs).kind
at_next {n} {x} {l} c q = let Q : Kind → Type 0 = λ y. Quiet n l y in subst Q (sym (kind_at c)) q

pub apart_at : {x : Kind} {xs ys : Symbols} → At x xs ys → Apart x → Apart (look xs).kind
apart_at {x} c q = let Q : Kind → Type 0 = λ y. Apart y in subst Q (sym (kind_at c)) q

pub at_end : {xs ys : Symbols} (n : Bool) → Ends xs ys → Quiet n 0 (look xs).kind
at_end n (g.written c) = at_next c (semicolon n)
at_end n g.added = ending n

pub end_colon : {xs ys : Symbols} → Ends xs ys → is_mark mark.Colon (look xs).kind ≡ false
end_colon (g.written c) = ap (is_mark mark.Colon) (kind_at c)
end_colon g.added = refl

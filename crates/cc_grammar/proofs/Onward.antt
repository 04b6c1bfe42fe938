-- What goes on with an operand that is a variable makes it one that can be deleted, or mends it.
use Rattle.std.specs.Prelude.{◌≡◌, ℕ, suc, not, Bool, true, false, cond, ◌||◌, ◌&&◌, is_some, [], ◌∷◌, Option, Some, None}
use Rattle.std.proofs.Common.{refl, ap, arith}
use Rattle.cc_ast.specs.Syntax.{undefined}
use Rattle.cc_ast.specs.declared.operator.UnOp.TheVariants as op
use Rattle.cc_ast.specs.declared.place.Place.{Place}
use Rattle.cc_lexer.specs.declared.token.Mark.TheVariants as mark
use Rattle.cc_grammar.specs.Symbols.{Kind, Lexeme, Symbols, real, nowhere, is_mark}
use Rattle.cc_grammar.specs.Symbols as k
use Rattle.cc_grammar.specs.RawTree.{RawExpr, RawTarget, exprs}
use Rattle.cc_grammar.specs.RawTree as raw
use Rattle.cc_grammar.specs.Signs.{Prefix, target_of, is_variable, step_of, prefix_tree}
use Rattle.cc_grammar.specs.Signs as sign
use Rattle.cc_grammar.specs.Grammar as g
use Rattle.cc_grammar.specs.Grammar.{E}
use Rattle.cc_grammar.specs.Reading.{goes_on, is_delete, is_remedy}
use Rattle.cc_grammar.proofs.Clashes.{never}
use Rattle.cc_grammar.proofs.Views.{mark_true, remedy_true}
use Rattle.cc_grammar.proofs.Mono.{lower}
use Rattle.cc_grammar.proofs.Deletions.{no_variable}
use Rattle.cc_grammar.proofs.Fails.{token, new_at}

-- the tokens that go on with an operand
data Going (t : Lexeme) : Type 0 where
  by_dot : t.kind ≡ k.mark mark.Dot → Going t
  by_bracket : t.kind ≡ k.mark mark.OpenBracket → Going t
  by_call : t.kind ≡ k.mark mark.OpenParen → Going t
  by_step : (up : Bool) → step_of t.kind ≡ Some up → t.after_line ≡ false → Going t
  by_remedy : t.kind ≡ k.due k.remedy → Going t

going : (t : Lexeme) → goes_on t ≡ true → Going t
going t e = by (is_mark mark.Dot t.kind) (is_mark mark.OpenBracket t.kind) (is_mark mark.OpenParen t.kind) (step_of t.kind) t.after_line (is_remedy t.kind) refl refl refl refl refl refl e where
  by : (a b c : Bool) (o : Option Bool) (l r : Bool) → is_mark mark.Dot t.kind ≡ a → is_mark mark.OpenBracket t.kind ≡ b → is_mark mark.OpenParen t.kind ≡ c → step_of t.kind ≡ o → t.after_line ≡ l → is_remedy t.kind ≡ r
      → (a || b || c || (is_some o && not l) || r) ≡ true → Going t
  by true b c o l r p q u v w x e = by_dot (mark_true mark.Dot t.kind p)
  by false true c o l r p q u v w x e = by_bracket (mark_true mark.OpenBracket t.kind q)
  by false false true o l r p q u v w x e = by_call (mark_true mark.OpenParen t.kind u)
  by false false false (Some up) false r p q u v w x e = by_step up v w
  by false false false (Some up) true true p q u v w x e = by_remedy (remedy_true t.kind x)
  by false false false (Some up) true false p q u v w x e = never e
  by false false false None l true p q u v w x e = by_remedy (remedy_true t.kind x)
  by false false false None l false p q u v w x e = never e

-- with the token, and what completes it, the operand is no variable
pub record Onward (b : Bool) (h : ℕ) (e : RawExpr) (t : Lexeme) : Type 0 where
  pub height : ℕ
  pub more : Symbols → Symbols
  pub tree : RawExpr
  pub holds : {xs : Symbols} (zs : Symbols) → E h b 16 xs e (real t ∷ more zs) → E height b 13 xs tree zs
  pub other : is_variable tree ≡ false

pub data Mends (b : Bool) (h : ℕ) (e : RawExpr) (t : Lexeme) : Type 0 where
  onward : Onward b h e t → Mends b h e t
  mended : t.kind ≡ k.due k.remedy → Mends b h e t

pub mends : (b : Bool) (h : ℕ) (e : RawExpr) (t : Lexeme) → is_variable e ≡ true → goes_on t ≡ true → Mends b h e t
mends b h e t v w = by (going t w) where
  stepped : (up : Bool) → step_of t.kind ≡ Some up → t.after_line ≡ false → (o : Option RawTarget) → target_of e ≡ o → Mends b h e t
  stepped up p l (Some x) f = onward (record {
    height = suc h;
    more = λ zs. zs;
    tree = raw.step t.place up false x;
    holds = λ zs y. g.postfix (omega arith) (omega arith) (lower 15 (omega arith) (λ z. absurd (omega arith)) y) f l (g.at_token t refl) p;
    other = refl;
  })
  stepped up p l None f = absurd (no_variable e f v)

  by : Going t → Mends b h e t
  by (by_dot q) = onward (record {
    height = suc h;
    more = λ zs. real (token (k.name [])) ∷ zs;
    tree = raw.member t.place e nowhere [];
    holds = λ zs y. g.dotted g.chain (omega arith) (omega arith) y (g.at_token t q) (new_at (k.name [])) refl;
    other = refl;
  })
  by (by_bracket q) = onward (record {
    height = suc h;
    more = λ zs. real (token (k.due k.operand)) ∷ real (token (k.mark mark.CloseBracket)) ∷ zs;
    tree = raw.index t.place e (raw.lit nowhere undefined);
    holds = λ zs y. g.bracketed {i = 0} g.chain (omega arith) (omega arith) (omega arith) y (g.at_token t q) (g.operand (new_at (k.due k.operand))) (new_at (k.mark mark.CloseBracket));
    other = refl;
  })
  by (by_call q) = onward (record {
    height = suc h;
    more = λ zs. real (token (k.mark mark.CloseParen)) ∷ zs;
    tree = raw.call t.place e (exprs []);
    holds = λ zs y. g.call {i = 0} (omega arith) (omega arith) (omega arith) y (g.at_token t q) (g.no_argument (new_at (k.mark mark.CloseParen)));
    other = refl;
  })
  by (by_step up p l) = stepped up p l (target_of e) refl
  by (by_remedy q) = mended q

-- the trees of `delete`
pub delete_other : (o : Prefix) (p : Place) (e : RawExpr) → is_delete o ≡ true → is_variable e ≡ false → prefix_tree o p e ≡ Some (raw.unary p op.Delete e)
delete_other (sign.unary op.Delete) p e d f = ap (λ b. cond b None (Some (raw.unary p op.Delete e))) f
delete_other (sign.step up) p e d f = never d
delete_other (sign.unary _) p e d f = never d

pub delete_variable : (o : Prefix) (p : Place) (e : RawExpr) → is_delete o ≡ true → is_variable e ≡ true → prefix_tree o p e ≡ None
delete_variable (sign.unary op.Delete) p e d f = ap (λ b. cond b None (Some (raw.unary p op.Delete e))) f
delete_variable (sign.step up) p e d f = never d
delete_variable (sign.unary _) p e d f = never d

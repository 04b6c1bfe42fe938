-- What an expression and a statement begin with.
use Rattle.std.specs.Prelude.{◌≡◌, ℕ, List, Bool, true, false, Option, Some, None, is_none}
use Rattle.std.proofs.Common.{refl, sym, ap, ◌∙◌}
use Rattle.cc_ast.specs.Syntax.{Prim}
use Rattle.cc_ast.specs.declared.reading.Construct.{Construct}
use Rattle.cc_lexer.specs.declared.token.Mark.{Mark}
use Rattle.cc_lexer.specs.declared.token.Mark.TheVariants as mark
use Rattle.cc_lexer.specs.declared.word.Word.{Word}
use Rattle.cc_lexer.specs.declared.word.Word.TheVariants as word
use Rattle.cc_grammar.specs.Symbols.{Kind, Symbols, real, inserted, look, rest, is_mark, is_word}
use Rattle.cc_grammar.specs.Symbols as k
use Rattle.cc_grammar.specs.RawTree.{RawExpr, RawStmt}
use Rattle.cc_grammar.specs.Signs.{Prefix, refused_name, literal_of, prefix_of, infix_of, assign_of, step_of}
use Rattle.cc_grammar.specs.Grammar as g
use Rattle.cc_grammar.specs.Grammar.{Context, At, Variable, E, T, opens_no_expression}
use Rattle.cc_grammar.specs.Reading.{is_element, ends_list, start_of, variable_of}
use Rattle.cc_grammar.specs.Reading as r
use Rattle.cc_grammar.proofs.Clashes.{clash}
use Rattle.cc_grammar.proofs.Views.{mark_true, word_true}
use Rattle.cc_grammar.proofs.Steps.{kind_at, variable_rest}

-- An expression may begin with it.
abbrev pub opens : Kind → Bool
opens (k.name n) = is_none (refused_name n)
opens (k.number z) = true
opens (k.text t) = true
opens (k.word word.This) = true
opens (k.word word.Function) = true
opens (k.word word.New) = true
opens (k.word word.Null) = true
opens (k.word word.True) = true
opens (k.word word.False) = true
opens (k.word word.Delete) = true
opens (k.word word.Void) = true
opens (k.word word.Typeof) = true
opens (k.mark mark.OpenParen) = true
opens (k.mark mark.OpenBracket) = true
opens (k.mark mark.OpenBrace) = true
opens (k.mark mark.PlusPlus) = true
opens (k.mark mark.MinusMinus) = true
opens (k.mark mark.Plus) = true
opens (k.mark mark.Minus) = true
opens (k.mark mark.Tilde) = true
opens (k.mark mark.Bang) = true
opens (k.due k.operand) = true
opens (k.due k.variable) = true
opens _ = false

opens_literal : (x : Kind) (p : Prim) → literal_of x ≡ Some p → opens x ≡ true
opens_literal (k.number z) p e = refl
opens_literal (k.text t) p e = refl
opens_literal (k.word word.Null) p e = refl
opens_literal (k.word word.True) p e = refl
opens_literal (k.word word.False) p e = refl
opens_literal _ p e = cc

opens_prefix : (x : Kind) (o : Prefix) → prefix_of x ≡ Some o → opens x ≡ true
opens_prefix (k.word word.Delete) o e = refl
opens_prefix (k.word word.Void) o e = refl
opens_prefix (k.word word.Typeof) o e = refl
opens_prefix (k.mark mark.PlusPlus) o e = refl
opens_prefix (k.mark mark.MinusMinus) o e = refl
opens_prefix (k.mark mark.Plus) o e = refl
opens_prefix (k.mark mark.Minus) o e = refl
opens_prefix (k.mark mark.Tilde) o e = refl
opens_prefix (k.mark mark.Bang) o e = refl
opens_prefix _ o e = cc

opens_variable : {n : List ℕ} {xs ys : Symbols} → Variable xs n ys → opens (look xs).kind ≡ true
opens_variable (g.variable c e) = ap opens (kind_at c) ∙ ap is_none e
opens_variable (g.any_variable c) = ap opens (kind_at c)

pub begins : {h l : ℕ} {n : Bool} {xs ys : Symbols} {e : RawExpr} → E h n l xs e ys → opens (look xs).kind ≡ true
begins (g.this c) = ap opens (kind_at c)
begins (g.name v) = opens_variable v
begins (g.literal {x} {p} c f) = ap opens (kind_at c) ∙ opens_literal x p f
begins (g.operand c) = ap opens (kind_at c)
begins (g.paren lt o x c) = ap opens (kind_at o)
begins (g.array lt o x) = ap opens (kind_at o)
begins (g.object lt o x) = ap opens (kind_at o)
begins (g.function lt o x c) = ap opens (kind_at o)
begins (g.dotted c m lt x o p q) = begins x
begins (g.bracketed c m lt lu x o y p) = begins x
begins (g.call m lt lu x o y) = begins x
begins (g.new_call m lt lu o x p y) = ap opens (kind_at o)
begins (g.new m i lt o x) = ap opens (kind_at o)
begins (g.postfix m lt x t s o p) = begins x
begins (g.prefix {x} {o} m lt c p y t) = ap opens (kind_at c) ∙ opens_prefix x o p
begins (g.wrong_prefix {x} {o} m lt c p y t u) = ap opens (kind_at c) ∙ opens_prefix x o p
begins (g.binary m lt lu x o p y) = begins x
begins (g.conditional m lt lu lv x o y p z) = begins x
begins (g.assign m lt lu x t o p y) = begins x
begins (g.comma lt lu x o y) = begins x

-- ---- what it isn't, then

pub no_mark : (m : Mark) (x : Kind) → opens (k.mark m) ≡ false → opens x ≡ true → is_mark m x ≡ false
no_mark m x f t = by (is_mark m x) refl where
  by : (b : Bool) → is_mark m x ≡ b → is_mark m x ≡ false
  by false e = e
  by true e = clash (sym t ∙ ap opens (mark_true m x e) ∙ f)

pub no_word : (w : Word) (x : Kind) → opens (k.word w) ≡ false → opens x ≡ true → is_word w x ≡ false
no_word w x f t = by (is_word w x) refl where
  by : (b : Bool) → is_word w x ≡ b → is_word w x ≡ false
  by false e = e
  by true e = clash (sym t ∙ ap opens (word_true w x e) ∙ f)

pub no_element : (x : Kind) → opens x ≡ true → is_element x ≡ false
no_element (k.due k.element) e = clash (sym e)
no_element _ e = refl

pub no_list_end : (x : Kind) → opens x ≡ true → ends_list x ≡ false
no_list_end (k.mark mark.CloseBrace) e = clash (sym e)
no_list_end (k.word word.Case) e = clash (sym e)
no_list_end (k.word word.Default) e = clash (sym e)
no_list_end k.end e = clash (sym e)
no_list_end _ e = refl

-- what it is, where a statement begins with it
pub data Starts : Kind → Type 0 where
  plainly : {x : Kind} → start_of x ≡ r.is_plain → Starts x
  with_name : {n : List ℕ} → refused_name n ≡ None → Starts (k.name n)

not_refused : (c : Option Construct) → is_none c ≡ true → c ≡ None
not_refused None e = refl
not_refused (Some c) e = clash (sym e)

pub starts : (x : Kind) → opens x ≡ true → opens_no_expression x ≡ false → Starts x
starts (k.name n) e f = with_name (not_refused (refused_name n) e)
starts (k.mark mark.OpenBrace) e f = clash f
starts (k.mark mark.Semicolon) e f = clash (sym e)
starts (k.word word.Function) e f = clash f
starts (k.word word.Var) e f = clash (sym e)
starts (k.word word.If) e f = clash (sym e)
starts (k.word word.Do) e f = clash (sym e)
starts (k.word word.While) e f = clash (sym e)
starts (k.word word.For) e f = clash (sym e)
starts (k.word word.Continue) e f = clash (sym e)
starts (k.word word.Break) e f = clash (sym e)
starts (k.word word.Return) e f = clash (sym e)
starts (k.word word.Switch) e f = clash (sym e)
starts (k.word word.Throw) e f = clash (sym e)
starts (k.word word.Try) e f = clash (sym e)
starts (k.due k.statement) e f = clash (sym e)
starts _ e f = plainly refl

-- ---- an expression that begins with a name is no label

colon_at : {x : Kind} {xs ys : Symbols} → At x xs ys → is_mark mark.Colon x ≡ false → is_mark mark.Colon (look xs).kind ≡ false
colon_at c f = ap (is_mark mark.Colon) (kind_at c) ∙ f

-- a token of which a table tells something isn't this mark, of which it tells nothing
pub not_in_table : {A : Type 0} (f : Kind → Option A) (m : Mark) (x : Kind) (a : A) → f (k.mark m) ≡ None → f x ≡ Some a → is_mark m x ≡ false
not_in_table f m x a n e = by (is_mark m x) refl where
  by : (b : Bool) → is_mark m x ≡ b → is_mark m x ≡ false
  by false q = q
  by true q = let no : None ≡ Some a = sym n ∙ ap f (sym (mark_true m x q)) ∙ e in (cc)

abbrev pub names : Kind → Bool
names (k.name n) = true
names _ = false

not_a_name : {x : Kind} {v : List ℕ} {xs ys : Symbols} → At x xs ys → names x ≡ false → (look xs).kind ≡ k.name v → ⊥
not_a_name c f s = clash (sym (ap names (sym (kind_at c) ∙ s)) ∙ f)

literal_no_name : (x : Kind) (p : Prim) → literal_of x ≡ Some p → names x ≡ false
literal_no_name (k.name n) p e = cc
literal_no_name _ p e = refl

prefix_no_name : (x : Kind) (o : Prefix) → prefix_of x ≡ Some o → names x ≡ false
prefix_no_name (k.name n) o e = cc
prefix_no_name _ o e = refl

pub no_label : {h l : ℕ} {n : Bool} {v : List ℕ} {xs ys : Symbols} {e : RawExpr} → E h n l xs e ys → (look xs).kind ≡ k.name v → is_mark mark.Colon (look ys).kind ≡ false
    → is_mark mark.Colon (look (rest xs)).kind ≡ false
no_label (g.this c) s q = absurd (not_a_name c refl s)
no_label (g.name v) s q = ap (λ z. is_mark mark.Colon (look z).kind) (variable_rest v) ∙ q
no_label (g.literal {x} {p} c f) s q = absurd (not_a_name c (literal_no_name x p f) s)
no_label (g.operand c) s q = absurd (not_a_name c refl s)
no_label (g.paren lt o x c) s q = absurd (not_a_name o refl s)
no_label (g.array lt o x) s q = absurd (not_a_name o refl s)
no_label (g.object lt o x) s q = absurd (not_a_name o refl s)
no_label (g.function lt o x c) s q = absurd (not_a_name o refl s)
no_label (g.dotted c m lt x o p r) s q = no_label x s (colon_at o refl)
no_label (g.bracketed c m lt lu x o y p) s q = no_label x s (colon_at o refl)
no_label (g.call m lt lu x o y) s q = no_label x s (colon_at o refl)
no_label (g.new_call m lt lu o x p y) s q = absurd (not_a_name o refl s)
no_label (g.new m i lt o x) s q = absurd (not_a_name o refl s)
no_label (g.postfix {up} {x = w} m lt x t u o p) s q = no_label x s (colon_at o (not_in_table step_of mark.Colon w up refl p))
no_label (g.prefix {x} {o} m lt c p y t) s q = absurd (not_a_name c (prefix_no_name x o p) s)
no_label (g.wrong_prefix {x} {o} m lt c p y t u) s q = absurd (not_a_name c (prefix_no_name x o p) s)
no_label (g.binary {n} {x = w} {o = f} m lt lu x o p y) s q = no_label x s (colon_at o (not_in_table (infix_of n) mark.Colon w f refl p))
no_label (g.conditional m lt lu lv x o y p z) s q = no_label x s (colon_at o refl)
no_label (g.assign {x = w} {o = f} m lt lu x t o p y) s q = no_label x s (colon_at o (not_in_table assign_of mark.Colon w f refl p))
no_label (g.comma lt lu x o y) s q = no_label x s (colon_at o refl)

-- ---- statements

pub no_end_begins : {c : Context} {h : ℕ} {xs ys : Symbols} {b : List RawStmt} → T c h xs b ys → ends_list (look xs).kind ≡ false
no_end_begins (g.block lt o x p) = ap ends_list (kind_at o)
no_end_begins (g.vars o x e) = ap ends_list (kind_at o)
no_end_begins (g.empty o) = ap ends_list (kind_at o)
no_end_begins (g.simple b x e) = no_list_end _ (begins x)
no_end_begins (g.if_else lt lu lv o p x q y r z) = ap ends_list (kind_at o)
no_end_begins (g.if_only lt lu o p x q y r) = ap ends_list (kind_at o)
no_end_begins (g.do_while lt lu o x p q y r e) = ap ends_list (kind_at o)
no_end_begins (g.while lt lu o p x q y) = ap ends_list (kind_at o)
no_end_begins (g.for lt lu o p i q x r y s z) = ap ends_list (kind_at o)
no_end_begins (g.for_in lt lu o p x t q y r z) = ap ends_list (kind_at o)
no_end_begins (g.for_in_var lt lu o p q x r y s z) = ap ends_list (kind_at o)
no_end_begins (g.continue a o e) = ap ends_list (kind_at o)
no_end_begins (g.continue_to a o s p i e) = ap ends_list (kind_at o)
no_end_begins (g.break a o e) = ap ends_list (kind_at o)
no_end_begins (g.break_to o s p i e) = ap ends_list (kind_at o)
no_end_begins (g.return a o e) = ap ends_list (kind_at o)
no_end_begins (g.return_value a o s x e) = ap ends_list (kind_at o)
no_end_begins (g.switch lt lu o p x q r y) = ap ends_list (kind_at o)
no_end_begins (g.label lt o p i x) = ap ends_list (kind_at o)
no_end_begins (g.half_label o p q) = ap ends_list (kind_at o)
no_end_begins (g.throw o s x e) = ap ends_list (kind_at o)
no_end_begins (g.try_catch lt lu o b x y n) = ap ends_list (kind_at o)
no_end_begins (g.try_finally lt lu o b x y) = ap ends_list (kind_at o)
no_end_begins (g.try_both lt lu lv o b x y z) = ap ends_list (kind_at o)
no_end_begins (g.declare a lt o v x) = ap ends_list (kind_at o)
no_end_begins (g.any_statement o) = ap ends_list (kind_at o)

-- What tokens of the lexer leave in a tree: exact numbers, property names that are no indexes, operators that fit.
use Rattle.std.specs.Prelude.{◌≡◌, ℤ, zero, suc, pos, Bool, true, false, not, ◌&&◌, cond, List, [], ◌∷◌, ◌++◌, Option, Some, None}
use Rattle.std.specs.Option.{option_map}
use Rattle.std.proofs.Common.{refl, sym, ap, ◌∙◌, subst, inl, inr}
use Rattle.cc_ast.specs.declared.operator.BinOp.{BinOp}
use Rattle.cc_ast.specs.declared.operator.BinOp.TheVariants as b
use Rattle.cc_ast.specs.declared.operator.UnOp.{UnOp}
use Rattle.cc_ast.specs.declared.operator.UnOp.TheVariants as u
use Rattle.cc_ast.specs.declared.place.Place.{Place}
use Rattle.cc_ast.specs.Syntax.{Prim, null, truth, whole, text}
use Rattle.cc_lexer.specs.declared.token.Mark.TheVariants as m
use Rattle.cc_lexer.specs.declared.word.Word.{Word}
use Rattle.cc_lexer.specs.declared.word.Word.TheVariants as w
use Rattle.cc_lexer.specs.Words.{spelling}
use Rattle.cc_meaning.specs.Alike.{In, here, there}
use Rattle.cc_meaning.specs.Names.{is_index}
use Rattle.cc_meaning.specs.Operators.{is_exact}
use Rattle.cc_meaning.specs.Parts.{exact_prim, assigns}
use Rattle.cc_grammar.specs.Symbols.{Kind, Lexeme, Symbols, real}
use Rattle.cc_grammar.specs.Symbols as k
use Rattle.cc_grammar.specs.RawTree.{RawKey, RawExpr, RawTarget}
use Rattle.cc_grammar.specs.RawTree as raw
use Rattle.cc_grammar.specs.Signs.{Prefix, Infix, literal_of, key_of, property_of, target_of, is_variable, unary_tree, prefix_tree, infix_tree, assign_of}
use Rattle.cc_grammar.specs.Signs as sign
use Rattle.cc_grammar.specs.Grammar as g
use Rattle.cc_grammar.specs.Grammar.{At, Ends, Variable}
use Rattle.cc_grammar.proofs.Moves.{Front, Moved, MovedTo}
use Rattle.cc_scope.specs.Lists.{Name}
use Rattle.cc_scope.specs.Marks.{Mark, a_site, a_name, a_function, names, key_marks, expr_marks, target_marks}
use Rattle.cc_scope.specs.Grammatical.{names_variable, operand_fits, expr_fits, target_fits}
use Rattle.cc_scope.proofs.Law.{names_append}
use Rattle.cc_scope.proofs.Declared.{in_right, in_either}

-- ---- the tokens of a list

-- What a token of a text is: a number is exact, and a name is an identifier, which is no index.
pub record IsLexed (x : Kind) : Type 0 where
  pub exact : (z : ℤ) → x ≡ k.number z → is_exact z ≡ true
  pub no_index : (n : Name) → x ≡ k.name n → is_index n ≡ false

abbrev pub Good : Symbols → Type 0
Good xs = (t : Lexeme) → In (real t) xs → IsLexed t.kind

pub past : {x : Kind} {xs ys : Symbols} → At x xs ys → Good xs → Good ys
past (g.at_token t e) G = λ u i. G u (there i)

pub made : {x : Kind} {xs ys : Symbols} → At x xs ys → Good xs → IsLexed x
made (g.at_token t e) G = subst IsLexed e (G t here)

pub past_variable : {n : Name} {xs ys : Symbols} → Variable xs n ys → Good xs → Good ys
past_variable (g.variable c e) G = past c G
past_variable (g.any_variable c) G = past c G

past_front : {xs ys : Symbols} → Front xs ys → Good xs → Good ys
past_front {ys} f G = λ u i. G u (subst (λ zs. In (real u) zs) (sym (f.prefix ys) ∙ f.is) (in_right f.before ys i))

pub skip : {P : Symbols → Symbols → Type 0} {xs ys : Symbols} → Moved P xs ys → Good xs → Good ys
skip w G = past_front w.front G

pub skip_to : {P : Symbols → Symbols → Type 0} {xs ys : Symbols} → MovedTo P xs ys → Good xs → Good ys
skip_to w G = past_front w.front G

-- ---- what is known of a part

abbrev pub Plain : List Mark → Type 0
Plain ms = (x : Name) → In x (names ms) → is_index x ≡ false

pub record Fine (ms : List Mark) (y : Bool) : Type 0 where
  pub plain : Plain ms
  pub fits : y ≡ true

pub nothing : Fine [] true
unfolding names
nothing = record { plain = λ x i. elim i [ ]; fits = refl }

pub site : {q : Place} {ms : List Mark} {y : Bool} → Fine ms y → Fine (a_site q ∷ ms) y
unfolding names
site f = record { plain = f.plain; fits = f.fits }

pub past_site : {q : Place} {ms : List Mark} {y : Bool} → Fine (a_site q ∷ ms) y → Fine ms y
unfolding names
past_site f = record { plain = f.plain; fits = f.fits }

pub a_fun : {ms : List Mark} {y : Bool} → Fine ms y → Fine (a_function ∷ ms) y
unfolding names
a_fun f = record { plain = f.plain; fits = f.fits }

plain_append : (ms ns : List Mark) → Plain ms → Plain ns → Plain (ms ++ ns)
plain_append ms ns f h x i = elim (in_either (names ms) (names ns) (subst (λ z. In x z) (names_append ms ns) i)) [ inl j ↦ f x j | inr j ↦ h x j ]

two : (a b : Bool) → a ≡ true → b ≡ true → a && b ≡ true
two a b e h = rw (e, h) refl

pub both : {ms ns : List Mark} {y z : Bool} → Fine ms y → Fine ns z → Fine (ms ++ ns) (y && z)
both {ms} {ns} {y} {z} f h = record { plain = plain_append ms ns f.plain h.plain; fits = two y z f.fits h.fits }

-- a condition besides
pub also : {ms : List Mark} {c y : Bool} → c ≡ true → Fine ms y → Fine ms (c && y)
also {c} {y} e f = record { plain = f.plain; fits = two c y e f.fits }

pub told : {q : Place} {y : Bool} → y ≡ true → Fine (a_site q ∷ []) y
unfolding names
told e = record { plain = λ x i. elim i [ ]; fits = e }

pub then_plain : {ms : List Mark} {y : Bool} (ns : List Mark) → Fine ms y → Plain ns → Fine (ms ++ ns) y
then_plain {ms} ns f h = record { plain = plain_append ms ns f.plain h; fits = f.fits }

pub plain_then : {ns : List Mark} {y : Bool} (ms : List Mark) → Plain ms → Fine ns y → Fine (ms ++ ns) y
plain_then {ns} ms h f = record { plain = plain_append ms ns h f.plain; fits = f.fits }

-- ---- names

word_plain : (x : Word) → is_index (spelling x) ≡ false
unfolding spelling is_index
word_plain w.Break = refl
word_plain w.Case = refl
word_plain w.Catch = refl
word_plain w.Class = refl
word_plain w.Const = refl
word_plain w.Continue = refl
word_plain w.Debugger = refl
word_plain w.Default = refl
word_plain w.Delete = refl
word_plain w.Do = refl
word_plain w.Else = refl
word_plain w.Enum = refl
word_plain w.Export = refl
word_plain w.Extends = refl
word_plain w.False = refl
word_plain w.Finally = refl
word_plain w.For = refl
word_plain w.Function = refl
word_plain w.If = refl
word_plain w.Import = refl
word_plain w.In = refl
word_plain w.Instanceof = refl
word_plain w.New = refl
word_plain w.Null = refl
word_plain w.Return = refl
word_plain w.Super = refl
word_plain w.Switch = refl
word_plain w.This = refl
word_plain w.Throw = refl
word_plain w.True = refl
word_plain w.Try = refl
word_plain w.Typeof = refl
word_plain w.Var = refl
word_plain w.Void = refl
word_plain w.While = refl
word_plain w.With = refl

property_plain : (x : Kind) (v : Name) → IsLexed x → property_of x ≡ Some v → is_index v ≡ false
property_plain (k.name n) v l e = let same : n ≡ v = cc in subst (λ z. is_index z ≡ false) same (l.no_index n refl)
property_plain (k.word y) v l e = let same : spelling y ≡ v = cc in subst (λ z. is_index z ≡ false) same (word_plain y)
property_plain _ v l e = absurd (cc)

one_plain : (v : Name) → is_index v ≡ false → Plain (a_name v ∷ [])
unfolding names
one_plain v e x here = e
one_plain v e x (there i) = elim i [ ]

pub named_plain : (x : Kind) (v : Name) → IsLexed x → property_of x ≡ Some v → Plain (a_name v ∷ [])
named_plain x v l e = one_plain v (property_plain x v l e)

no_name : Plain []
unfolding names
no_name x i = elim i [ ]

pub key_plain : (x : Kind) (y : RawKey) → IsLexed x → key_of x ≡ Some y → Plain (key_marks y)
unfolding key_marks is_index
key_plain (k.name n) y l e = let same : raw.dotted n ≡ y = cc in subst (λ z. Plain (key_marks z)) same (one_plain n (l.no_index n refl))
key_plain (k.word x) y l e = let same : raw.dotted (spelling x) ≡ y = cc in subst (λ z. Plain (key_marks z)) same (one_plain (spelling x) (word_plain x))
key_plain (k.text t) y l e = let same : raw.quoted t ≡ y = cc in subst (λ z. Plain (key_marks z)) same no_name
key_plain (k.number n) y l e = let same : raw.numbered n ≡ y = cc in subst (λ z. Plain (key_marks z)) same no_name
key_plain (k.due k.key) y l e = let same : raw.dotted [] ≡ y = cc in subst (λ z. Plain (key_marks z)) same (one_plain [] refl)
key_plain _ y l e = absurd (cc)

-- ---- literals and operators

pub literal_exact : (x : Kind) (p : Prim) → IsLexed x → literal_of x ≡ Some p → exact_prim p ≡ true
unfolding exact_prim
literal_exact (k.number n) p l e = let same : whole n ≡ p = cc in subst (λ z. exact_prim z ≡ true) same (l.exact n refl)
literal_exact (k.text t) p l e = let same : text t ≡ p = cc in subst (λ z. exact_prim z ≡ true) same refl
literal_exact (k.word w.Null) p l e = let same : null ≡ p = cc in subst (λ z. exact_prim z ≡ true) same refl
literal_exact (k.word w.True) p l e = let same : truth true ≡ p = cc in subst (λ z. exact_prim z ≡ true) same refl
literal_exact (k.word w.False) p l e = let same : truth false ≡ p = cc in subst (λ z. exact_prim z ≡ true) same refl
literal_exact _ p l e = absurd (cc)

pub assigned : (x : Kind) (o : Option BinOp) → assign_of x ≡ Some o → assigns o ≡ true
unfolding assigns
assigned (k.mark m.Equal) o e = let same : None ≡ o = cc in subst (λ z. assigns z ≡ true) same refl
assigned (k.mark m.PlusEqual) o e = let same : Some b.Add ≡ o = cc in subst (λ z. assigns z ≡ true) same refl
assigned (k.mark m.MinusEqual) o e = let same : Some b.Sub ≡ o = cc in subst (λ z. assigns z ≡ true) same refl
assigned (k.mark m.StarEqual) o e = let same : Some b.Mul ≡ o = cc in subst (λ z. assigns z ≡ true) same refl
assigned (k.mark m.SlashEqual) o e = let same : Some b.Div ≡ o = cc in subst (λ z. assigns z ≡ true) same refl
assigned (k.mark m.PercentEqual) o e = let same : Some b.Rem ≡ o = cc in subst (λ z. assigns z ≡ true) same refl
assigned (k.mark m.LessLessEqual) o e = let same : Some b.Shl ≡ o = cc in subst (λ z. assigns z ≡ true) same refl
assigned (k.mark m.GreaterGreaterEqual) o e = let same : Some b.Shr ≡ o = cc in subst (λ z. assigns z ≡ true) same refl
assigned (k.mark m.GreaterGreaterGreaterEqual) o e = let same : Some b.UShr ≡ o = cc in subst (λ z. assigns z ≡ true) same refl
assigned (k.mark m.AmpersandEqual) o e = let same : Some b.BitAnd ≡ o = cc in subst (λ z. assigns z ≡ true) same refl
assigned (k.mark m.BarEqual) o e = let same : Some b.BitOr ≡ o = cc in subst (λ z. assigns z ≡ true) same refl
assigned (k.mark m.CaretEqual) o e = let same : Some b.BitXor ≡ o = cc in subst (λ z. assigns z ≡ true) same refl
assigned _ o e = absurd (cc)

abbrev pub FineExpr : RawExpr → Type 0
FineExpr e = Fine (expr_marks e) (expr_fits e)

pub cast_fine : (c : Bool) (p : Place) (e : RawExpr) → FineExpr e → FineExpr (cond c (raw.cast p e) e)
unfolding expr_marks expr_fits
cast_fine true p e f = site f
cast_fine false p e f = f

pub target_fine : (e : RawExpr) (t : RawTarget) → target_of e ≡ Some t → FineExpr e → Fine (target_marks t) (target_fits t)
unfolding expr_marks expr_fits target_marks target_fits
target_fine (raw.var p n) t q f = let same : raw.to_var p n ≡ t = cc in subst (λ z. Fine (target_marks z) (target_fits z)) same f
target_fine (raw.member p e r n) t q f = let same : raw.to_member p e r n ≡ t = cc in subst (λ z. Fine (target_marks z) (target_fits z)) same f
target_fine (raw.index p e i) t q f = let same : raw.to_index p e i ≡ t = cc in subst (λ z. Fine (target_marks z) (target_fits z)) same f
target_fine (raw.cast p e) t q f = target_fine e t q (past_site f)
target_fine _ t q f = absurd (cc)

same_variable : (e : RawExpr) → names_variable e ≡ is_variable e
unfolding names_variable
same_variable (raw.cast q e) = same_variable e
same_variable (raw.var q n) = refl
same_variable _ = refl

unary_fine : (o : UnOp) (p : Place) (e : RawExpr) → operand_fits o e ≡ true → FineExpr e → FineExpr (unary_tree o p e)
unfolding expr_marks expr_fits exact_prim
unary_fine u.Minus p (raw.lit q (whole (pos (suc n)))) h f = told f.fits
unary_fine u.Void p (raw.lit q (whole (pos zero))) h f = told refl
unary_fine o p e h f = site (also h f)

by_unary : (o : UnOp) (p : Place) (e x : RawExpr) → operand_fits o e ≡ true → FineExpr e → Some (unary_tree o p e) ≡ Some x → FineExpr x
by_unary o p e x h f q = let same : unary_tree o p e ≡ x = cc in subst FineExpr same (unary_fine o p e h f)

by_target : (up : Bool) (p : Place) (e x : RawExpr) (t : Option RawTarget) → target_of e ≡ t → FineExpr e → option_map (λ z. raw.step p up true z) t ≡ Some x → FineExpr x
unfolding expr_marks expr_fits
by_target up p e x (Some t) h f q = let same : raw.step p up true t ≡ x = cc in subst FineExpr same (site (target_fine e t h f))
by_target up p e x None h f q = absurd (cc)

unless_variable : (c : Bool) (p : Place) (e x : RawExpr) → is_variable e ≡ c → FineExpr e → cond c None (Some (raw.unary p u.Delete e)) ≡ Some x → FineExpr x
unfolding expr_marks expr_fits operand_fits
unless_variable true p e x h f q = absurd (cc)
unless_variable false p e x h f q = let same : raw.unary p u.Delete e ≡ x = cc in subst FineExpr same (site (also (ap not (same_variable e ∙ h)) f))

pub prefix_fine : (o : Prefix) (p : Place) (e x : RawExpr) → FineExpr e → prefix_tree o p e ≡ Some x → FineExpr x
unfolding operand_fits
prefix_fine (sign.step up) p e x f q = by_target up p e x (target_of e) refl f q
prefix_fine (sign.unary u.Delete) p e x f q = unless_variable (is_variable e) p e x refl f q
prefix_fine (sign.unary u.Minus) p e x f q = by_unary u.Minus p e x refl f q
prefix_fine (sign.unary u.Plus) p e x f q = by_unary u.Plus p e x refl f q
prefix_fine (sign.unary u.BitNot) p e x f q = by_unary u.BitNot p e x refl f q
prefix_fine (sign.unary u.Not) p e x f q = by_unary u.Not p e x refl f q
prefix_fine (sign.unary u.Void) p e x f q = by_unary u.Void p e x refl f q
prefix_fine (sign.unary u.Typeof) p e x f q = by_unary u.Typeof p e x refl f q

pub infix_fine : (o : Infix) (p : Place) (e x : RawExpr) → FineExpr e → FineExpr x → FineExpr (infix_tree o p e x)
unfolding expr_marks expr_fits
infix_fine sign.logical_or p e x f h = site (both f h)
infix_fine sign.logical_and p e x f h = site (both f h)
infix_fine (sign.operator o) p e x f h = site (both f h)

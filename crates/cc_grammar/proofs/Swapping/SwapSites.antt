-- The places where a part is due: what becomes there of a token that is refused.
use Rattle.std.specs.Prelude.{◌≡◌, ℕ, Bool, true, false, ◌&&◌, Err, cond, nat_lt, is_some, List, [], ◌∷◌, Some, None}
use Rattle.std.proofs.Common.{refl, sym, ap, ◌∙◌}
use Rattle.cc_ast.specs.declared.operator.UnOp.TheVariants as op
use Rattle.cc_ast.specs.declared.reading.Construct.{Construct}
use Rattle.cc_ast.specs.declared.reading.Construct.TheVariants as construct
use Rattle.cc_lexer.specs.declared.token.Mark.TheVariants as mark
use Rattle.cc_lexer.specs.declared.word.Word.{Word}
use Rattle.cc_lexer.specs.declared.word.Word.TheVariants as word
use Rattle.cc_grammar.specs.Symbols.{Kind, Lexeme, Symbol, Symbols, real, look, rest, is_mark, is_word}
use Rattle.cc_grammar.specs.Symbols as k
use Rattle.cc_grammar.specs.RawTree.{RawExpr, RawStmt}
use Rattle.cc_grammar.specs.Signs.{refused_name, is_accessor, key_of, prefix_of}
use Rattle.cc_grammar.specs.Signs as sign
use Rattle.cc_grammar.specs.Reading.{Outcome, Fault, Sized, and_then, fault, either, semicolon_symbol, goes_on, allowed, variable_of, head_by, head_of, is_element, is_remedy, ends_return, refused}
use Rattle.cc_grammar.specs.Reading as r
use Rattle.cc_grammar.proofs.Alikeness.Alike.{is_err}
use Rattle.cc_grammar.proofs.Marked.{In}
use Rattle.cc_grammar.proofs.Swapping.Swap.{Next, Change, Pair, slash, slash_equal, comma, function, label, name, accessor, delete, IsRefused, is_refused, falls_there, Swaps, barred, refuses, falls, refused_by}
use Rattle.cc_grammar.proofs.OnSymbols as s

abbrev pub change : Lexeme → k.Part → Kind → Bool → Construct → Next → ℕ → Change
change t p y b c n m = record { place = t; part = p; kind = y; free = b; construct = c; next = n; turns = m }

-- ---- what no such token and no such part is

pub no_remedy : {p : k.Part} {y : Kind} {b : Bool} {c : Construct} {n : Next} → Pair p y b c n → is_remedy (k.due p) ≡ false
no_remedy slash = refl
no_remedy slash_equal = refl
no_remedy comma = refl
no_remedy function = refl
no_remedy (label q) = refl
no_remedy (name q) = refl
no_remedy (accessor q) = refl
no_remedy delete = refl

pub remedy_free : {p : k.Part} {y : Kind} {b : Bool} {c : Construct} {n : Next} → Pair p y b c n → is_remedy y ≡ false
remedy_free slash = refl
remedy_free slash_equal = refl
remedy_free comma = refl
remedy_free function = refl
remedy_free (label q) = refl
remedy_free (name q) = refl
remedy_free (accessor q) = refl
remedy_free delete = refl

-- both end a `return` on the next line, and only there
pub ends_alike : (t : Lexeme) {p : k.Part} {y : Kind} {b : Bool} {c : Construct} {n : Next} → Pair p y b c n → ends_return (record t { kind = y }) ≡ ends_return (record t { kind = k.due p })
ends_alike t slash = refl
ends_alike t slash_equal = refl
ends_alike t comma = refl
ends_alike t function = refl
ends_alike t (label q) = refl
ends_alike t (name q) = refl
ends_alike t (accessor q) = refl
ends_alike t delete = refl

-- neither `delete` nor `function` is another word
pub word_free : {p : k.Part} {y : Kind} {b : Bool} {c : Construct} {n : Next} (w : Word) → is_word w (k.word word.Delete) ≡ false → Pair p y b c n → is_word w y ≡ true → b ≡ true
word_free w d slash e = refl
word_free w d slash_equal e = refl
word_free w d comma e = refl
word_free w d function e = refl
word_free w d (label q) e = refl
word_free w d (name q) e = let no : false ≡ true = e in absurd (cc)
word_free w d (accessor q) e = let no : false ≡ true = e in absurd (cc)
word_free w d delete e = let no : false ≡ true = sym d ∙ e in absurd (cc)

-- what a table has for all such tokens
pub same_end : {X : Type 0} {o : X} {p : k.Part} {y : Kind} {b : Bool} {c : Construct} {n : Next} (f : Kind → X) → f (k.mark mark.Slash) ≡ o → f (k.mark mark.SlashEqual) ≡ o → f (k.mark mark.Comma) ≡ o → f (k.word word.Function) ≡ o → f (k.word word.Delete) ≡ o
    → ((v : List ℕ) → f (k.name v) ≡ o) → Pair p y b c n → f y ≡ o
same_end f a u v w d g slash = a
same_end f a u v w d g slash_equal = u
same_end f a u v w d g comma = v
same_end f a u v w d g function = w
same_end f a u v w d g (label {n} q) = g n
same_end f a u v w d g (name {n} q) = g n
same_end f a u v w d g (accessor {n} q) = g n
same_end f a u v w d g delete = d

-- ---- variables

-- the fault at a name that no variable has
pub name_fault : {t : Lexeme} {b : Bool} {c : Construct} {z : Next} {m : ℕ} {v : List ℕ} {A : Type 0} (d : r.Due) (ys : Symbols) → either None (r.refused_there d (k.name v)) ≡ refused c
    → IsRefused (change t k.variable (k.name v) b c z m) {A = A} (Err (fault d (record t { kind = k.name v }), ys))
name_fault d ys e = is_refused e refl

pub variable_first : {t : Lexeme} {p : k.Part} {y : Kind} {b : Bool} {c : Construct} {z : Next} {m : ℕ} → Pair p y b c z → Swaps (change t p y b c z m) (s.variable_by (variable_of y)) (s.variable_by (variable_of (k.due p))) []
variable_first slash = barred (λ xs. is_err)
variable_first slash_equal = barred (λ xs. is_err)
variable_first comma = barred (λ xs. is_err)
variable_first function = barred (λ xs. is_err)
variable_first {t} (label {n = v} q) = refuses (λ xs _. refused_by _ (ap (λ o. s.variable_by (allowed o v) (real (record t { kind = k.name v }) ∷ xs)) q) (name_fault r.a_variable (real (record t { kind = k.name v }) ∷ xs) (ap (either None) q)))
variable_first {t} (name {n = v} q) = refuses (λ xs _. refused_by _ (ap (λ o. s.variable_by (allowed o v) (real (record t { kind = k.name v }) ∷ xs)) q) (name_fault r.a_variable (real (record t { kind = k.name v }) ∷ xs) (ap (either None) q)))
variable_first (accessor q) = barred (λ xs. is_err)
variable_first delete = barred (λ xs. is_err)

pub own_name_first : {t : Lexeme} {p : k.Part} {y : Kind} {b : Bool} {c : Construct} {z : Next} {m : ℕ} → Pair p y b c z
    → Swaps (change t p y b c z m) (s.own_name_by (variable_of y) (is_mark mark.OpenParen y)) (s.own_name_by (variable_of (k.due p)) (is_mark mark.OpenParen (k.due p))) []
own_name_first slash = barred (λ xs. is_err)
own_name_first slash_equal = barred (λ xs. is_err)
own_name_first comma = barred (λ xs. is_err)
own_name_first function = barred (λ xs. is_err)
own_name_first {t} (label {n = v} q) = refuses (λ xs _. refused_by _ (ap (λ o. s.own_name_by (allowed o v) false (real (record t { kind = k.name v }) ∷ xs)) q) (name_fault r.a_variable (real (record t { kind = k.name v }) ∷ xs) (ap (either None) q)))
own_name_first {t} (name {n = v} q) = refuses (λ xs _. refused_by _ (ap (λ o. s.own_name_by (allowed o v) false (real (record t { kind = k.name v }) ∷ xs)) q) (name_fault r.a_variable (real (record t { kind = k.name v }) ∷ xs) (ap (either None) q)))
own_name_first (accessor q) = barred (λ xs. is_err)
own_name_first delete = barred (λ xs. is_err)

-- ---- elements and keys

pub element_first : {A : Type 0} {t : Lexeme} {p : k.Part} {y : Kind} {b : Bool} {c : Construct} {z : Next} {m : ℕ} (f g u v : s.Reader A) → Pair p y b c z → Swaps (change t p y b c z m) g v []
    → Swaps (change t p y b c z m) (cond (is_element y) f (cond (is_mark mark.Comma y) (r.stops Symbols look rest semicolon_symbol (refused construct.Hole)) g))
    (cond (is_element (k.due p)) u (cond (is_mark mark.Comma (k.due p)) (r.stops Symbols look rest semicolon_symbol (refused construct.Hole)) v)) []
element_first f g u v slash h = h
element_first f g u v slash_equal h = h
element_first f g u v comma h = refuses (λ xs _. is_refused refl refl)
element_first f g u v function h = h
element_first f g u v (label q) h = h
element_first f g u v (name q) h = h
element_first f g u v (accessor q) h = h
element_first f g u v delete h = h

module _ (d e n o : ℕ) (inner outer : In) where
  pub key_first : {t : Lexeme} {p : k.Part} {y : Kind} {b : Bool} {c : Construct} {z : Next} {m : ℕ} → Pair p y b c z → Swaps (change t p y b c z m) (s.key_by d n inner (key_of y)) (s.key_by e o outer (key_of (k.due p))) []
  key_first slash = barred (λ xs. is_err)
  key_first slash_equal = barred (λ xs. is_err)
  key_first comma = barred (λ xs. is_err)
  key_first function = barred (λ xs. is_err)
  key_first (label q) = barred (λ xs. is_err)
  key_first (name q) = barred (λ xs. is_err)
  key_first {t} (accessor {n = v} q) = refuses (λ xs f. refused_by _
      (ap (λ a. cond (a && is_some (key_of (look xs).kind)) (r.refuse Symbols look rest semicolon_symbol construct.Accessor t.place) (r.pure Symbols look rest semicolon_symbol (t.place, Rattle.cc_grammar.specs.RawTree.dotted v)) xs) q
      ∙ ap (λ a. cond a (r.refuse Symbols look rest semicolon_symbol construct.Accessor t.place) (r.pure Symbols look rest semicolon_symbol (t.place, Rattle.cc_grammar.specs.RawTree.dotted v)) xs) f) (is_refused refl refl))
  key_first delete = barred (λ xs. is_err)

  -- ---- primary expressions

  pub no_head : (v : List ℕ) {c : Construct} → refused_name v ≡ Some c → head_of (k.name v) ≡ r.no_head
  unfolding head_of
  no_head v q = ap (λ a. head_by None (allowed a v) (k.name v)) q

  pub primary_first : (l : Bool) {t : Lexeme} {p : k.Part} {y : Kind} {b : Bool} {c : Construct} {z : Next} {m : ℕ} → Pair p y b c z → Swaps (change t p y b c z m) (s.primary_by d n inner l (head_of y)) (s.primary_by e o outer l (head_of (k.due p))) []
  unfolding head_of
  primary_first l slash = refuses (λ xs _. is_refused refl refl)
  primary_first l slash_equal = refuses (λ xs _. is_refused refl refl)
  primary_first l comma = barred (λ xs. is_err)
  primary_first l function = barred (λ xs. is_err)
  primary_first l {t} (label {n = v} q) = refuses (λ xs _. refused_by _ (ap (λ h. s.primary_by d n inner l h (real (record t { kind = k.name v }) ∷ xs)) (no_head v q)) (name_fault r.an_operand (real (record t { kind = k.name v }) ∷ xs) (ap (either None) q)))
  primary_first l {t} (name {n = v} q) = refuses (λ xs _. refused_by _ (ap (λ h. s.primary_by d n inner l h (real (record t { kind = k.name v }) ∷ xs)) (no_head v q)) (name_fault r.an_operand (real (record t { kind = k.name v }) ∷ xs) (ap (either None) q)))
  primary_first l (accessor q) = barred (λ xs. is_err)
  primary_first l delete = falls refl (λ xs. falls_there refl)

  -- ---- `delete`

  pub prefix_first : (l : Bool) (u : ℕ) {t : Lexeme} {p : k.Part} {y : Kind} {b : Bool} {c : Construct} {z : Next} → Pair p y b c z
      → Swaps (change t p y b c z n) (s.expr_by d n inner l u None) (s.expr_by e o outer l u None) [] → Swaps (change t p y b c z n) (s.expr_by d n inner l u (prefix_of y)) (s.expr_by e o outer l u (prefix_of (k.due p))) []
  unfolding r.prefixed
  prefix_first l u slash h = h
  prefix_first l u slash_equal h = h
  prefix_first l u comma h = h
  prefix_first l u function h = h
  prefix_first l u (label q) h = h
  prefix_first l u (name q) h = h
  prefix_first l u (accessor q) h = h
  prefix_first l u {t} delete h = refuses (λ xs f. refused_by _
      (ap (λ w. and_then (r.unless_deleted Symbols look rest semicolon_symbol w t.place (cond (nat_lt 0 d) (s.prefix_expr d n inner l (sign.unary op.Delete) (real (record t { kind = k.word word.Delete }) ∷ xs)) (Err (record { cause = r.depth; place = t.place }, real (record t { kind = k.word word.Delete }) ∷ xs)))) (s.after_unary d n inner l u)) f.1)
      (is_refused refl refl))

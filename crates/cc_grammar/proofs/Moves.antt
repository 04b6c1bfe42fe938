-- What is derived before one list is derived before another: expressions.
use Rattle.std.specs.Prelude.{◌≡◌, ◌<◌, Bool, true, false, [], ◌∷◌, ◌++◌}
use Rattle.std.proofs.Common.{refl, sym, ap, ◌∙◌, arith, append_assoc}
use Rattle.cc_lexer.specs.declared.word.Word.{Word}
use Rattle.cc_grammar.specs.Symbols.{Kind, Lexeme, Symbol, Symbols, real, inserted, look, lexeme_of, is_word}
use Rattle.cc_grammar.specs.Symbols as k
use Rattle.cc_grammar.specs.Grammar.{is_tail}
use Rattle.cc_grammar.proofs.Shrinks.{reals}
use Rattle.cc_grammar.proofs.Views.{word_true}

-- a list of symbols put before another
pub record Front (xs ys : Symbols) : Type 0 where
  pub go : Symbols → Symbols
  pub before : Symbols
  pub prefix : (zs : Symbols) → go zs ≡ before ++ zs
  pub is : go ys ≡ xs

abbrev pub stays : (xs : Symbols) → Front xs xs
stays xs = record { go = λ zs. zs; before = []; prefix = λ zs. refl; is = refl }

abbrev pub one : (x : Symbol) (ys : Symbols) → Front (x ∷ ys) ys
one x ys = record { go = λ zs. x ∷ zs; before = x ∷ []; prefix = λ zs. refl; is = refl }

abbrev pub joined : {xs ys zs : Symbols} → Front xs ys → Front ys zs → Front xs zs
joined f h = record {
  go = λ us. f.go (h.go us);
  before = f.before ++ h.before;
  prefix = λ us. f.prefix (h.go us) ∙ ap (λ w. f.before ++ w) (h.prefix us) ∙ sym (append_assoc f.before h.before us);
  is = ap f.go h.is ∙ f.is;
}

-- a token, and then such a list
abbrev pub behind : (t : Lexeme) {ys zs : Symbols} → Front ys zs → Front (real t ∷ ys) zs
behind t {ys} f = joined (one (real t) ys) f

-- such a list, and then a token
abbrev pub before_token : {xs ys : Symbols} (t : Lexeme) → Front xs (real t ∷ ys) → Front xs ys
before_token {ys} t f = joined f (one (real t) ys)

-- moved before any list
pub record Moved (P : Symbols → Symbols → Type 0) (xs ys : Symbols) : Type 0 where
  pub front : Front xs ys
  pub holds : (zs : Symbols) → P (front.go zs) zs

-- No `else` or `finally` follows that didn't follow before.
pub data Fits (ys zs : Symbols) : Type 0 where
  free : is_tail (look zs).kind ≡ false → Fits ys zs
  same : look zs ≡ look ys → Fits ys zs

-- moved before a list that fits
pub record MovedTo (P : Symbols → Symbols → Type 0) (xs ys : Symbols) : Type 0 where
  pub front : Front xs ys
  pub holds : (zs : Symbols) → Fits ys zs → P (front.go zs) zs

-- the first symbol stays, where there is a token
pub look_kept : {xs ys : Symbols} (f : Front xs ys) → reals ys < reals xs → (zs : Symbols) → look (f.go zs) ≡ look xs
look_kept {xs} {ys} f lt zs = kept f.before (f.prefix ys) (f.prefix zs) where
  kept : (before : Symbols) → f.go ys ≡ before ++ ys → f.go zs ≡ before ++ zs → look (f.go zs) ≡ look xs
  kept [] e h = absurd (omega (arith, ap reals e, ap reals f.is))
  kept (m ∷ before) e h = ap look h ∙ sym (ap look e) ∙ ap look f.is

pub kept_fits : {xs ys : Symbols} (f : Front xs ys) → reals ys < reals xs → (zs : Symbols) → Fits xs (f.go zs)
kept_fits f lt zs = same (look_kept f lt zs)

-- what fits behind fits before
pub fits_front : {xs ys : Symbols} (f : Front xs ys) (zs : Symbols) → Fits ys zs → Fits xs (f.go zs)
fits_front {xs} {ys} f zs l = by f.before (f.prefix ys) (f.prefix zs) l where
  by : (before : Symbols) → f.go ys ≡ before ++ ys → f.go zs ≡ before ++ zs → Fits ys zs → Fits xs (f.go zs)
  by [] e h (free q) = free (ap (λ w. is_tail (look w).kind) h ∙ q)
  by [] e h (same q) = same (ap look h ∙ q ∙ sym (ap look e) ∙ ap look f.is)
  by (m ∷ before) e h l = same (ap look h ∙ sym (ap look e) ∙ ap look f.is)

pub no_tail : (w : Word) (x : Kind) → is_tail (k.word w) ≡ true → is_tail x ≡ false → is_word w x ≡ false
no_tail w x t f = by (is_word w x) refl where
  by : (b : Bool) → is_word w x ≡ b → is_word w x ≡ false
  by false e = e
  by true e = let no : true ≡ false = sym t ∙ ap is_tail (sym (word_true w x e)) ∙ f in (cc)

pub still_no : (w : Word) {ys zs : Symbols} → is_tail (k.word w) ≡ true → is_word w (look ys).kind ≡ false → Fits ys zs → is_word w (look zs).kind ≡ false
still_no w {zs = zs} t e (free q) = no_tail w (look zs).kind t q
still_no w t e (same q) = ap (λ z. is_word w z.kind) q ∙ e

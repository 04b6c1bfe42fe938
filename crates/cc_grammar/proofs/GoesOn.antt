-- Behind `delete` and a variable that is its whole operand, each token that goes on with an operand goes on with a front.
use Rattle.std.specs.Prelude.{◌≡◌, ℕ, suc, ◌<◌, ◌≤◌, Bool, true, false, Err, List, [], ◌∷◌, ◌++◌, map, length, Some, None, codes, cond, ◌⊎◌}
use Rattle.std.specs.Str.{bytes_eq}
use Rattle.std.proofs.Common.{refl, sym, ap, ◌∙◌, subst, arith, append_assoc, length-append, inl, inr}
use Rattle.std.proofs.lemmas.List.{append_cancel_right}
use Rattle.cc_ast.specs.declared.reading.Construct.{Construct}
use Rattle.cc_ast.specs.declared.reading.Construct.TheVariants as construct
use Rattle.cc_lexer.specs.declared.word.Word.TheVariants as word
use Rattle.cc_grammar.specs.Symbols.{Kind, Lexeme, Symbol, Symbols, real, inserted, lexemes_of, look, is_word}
use Rattle.cc_grammar.specs.Symbols as k
use Rattle.cc_grammar.specs.RawTree.{RawStmt}
use Rattle.cc_grammar.specs.Grammar as g
use Rattle.cc_grammar.specs.Signs.{refused_name}
use Rattle.cc_grammar.specs.Fronts.{IsFront, IsFrontWithin}
use Rattle.cc_grammar.specs.Faults.{any}
use Rattle.cc_grammar.specs.Reading.{Outcome, Sized, Fault, goes_on, refused, read_symbols}
use Rattle.cc_grammar.proofs.Clashes.{clash, some_is, same_construct, head_is, tail_is, not_real}
use Rattle.cc_grammar.proofs.Shrinks.{reals}
use Rattle.cc_grammar.proofs.Refusing.NoFront.{no_front}
use Rattle.cc_grammar.proofs.Deletions.{Nest, bare, nested, Closers, closed_all, close_one}
use Rattle.cc_grammar.proofs.Nests.{nest_opened}
use Rattle.cc_grammar.proofs.Copying.Copies.{L, lexemes_real}
use Rattle.cc_grammar.proofs.TokenFronts.{lexemes_append, first_token, shorter_within}
use Rattle.cc_grammar.proofs.Swapping.Swap.{Pair, IsRefused, is_refused, Falls, falls_there, token}
use Rattle.cc_grammar.proofs.Swapping.Swap as swap
use Rattle.cc_grammar.proofs.Swapping.SwapSites.{change}
use Rattle.cc_grammar.proofs.Refusing.Verdicts.{Verdict, passing, limiting, refusing, falling, verdict, unlimited}
use Rattle.cc_grammar.proofs.Foreign.{foreign, Foreign, at_name, at_delete, refused_at_foreign}

abbrev Read : Type 0
Read = Outcome Symbols (Sized (List RawStmt))

-- no `delete` stands among them
abbrev pub Bare : L → Type 0
Bare [] = Unit {0}
Bare (t ∷ ts) = (is_word word.Delete t.kind ≡ false) × Bare ts

record Plain (xs zs : Symbols) : Type 0 where
  tokens : L
  is : xs ≡ map real tokens ++ zs
  none : Bare tokens

with_token : {x : Kind} {xs ys zs : Symbols} → g.At x xs ys → is_word word.Delete x ≡ false → Plain ys zs → Plain xs zs
with_token (g.at_token t e) f w = record { tokens = t ∷ w.tokens; is = ap (λ l. real t ∷ l) w.is; none = (ap (is_word word.Delete) e ∙ f, w.none) }

closers_plain : {m : ℕ} {xs zs : Symbols} → Closers m xs zs → Plain xs zs
closers_plain closed_all = record { tokens = []; is = refl; none = tt }
closers_plain (close_one c h) = with_token c refl (closers_plain h)

nest_plain : {m : ℕ} {xs zs : Symbols} → Nest m xs zs → Plain xs zs
nest_plain (bare (g.variable c e) h) = with_token c refl (closers_plain h)
nest_plain (bare (g.any_variable c) h) = with_token c refl (closers_plain h)
nest_plain (nested c h) = with_token c refl (nest_plain h)

pub same_tokens : (us vs : L) → map real us ≡ map real vs → us ≡ vs
same_tokens us vs e = sym (lexemes_real us) ∙ ap lexemes_of e ∙ lexemes_real vs

pub bare_nest : (us : L) → ((ws : Symbols) → Nest 0 (map real us ++ ws) ws) → Bare us
bare_nest us nest = let w = nest_plain (nest []) in subst (λ z. Bare z) (same_tokens w.tokens us (append_cancel_right (map real w.tokens) (map real us) [] (sym w.is))) w.none

not_among : (us : L) (q rest : Symbols) (u : Lexeme) → Bare us → map real us ≡ q ++ real u ∷ rest → u.kind ≡ k.word word.Delete → ⊥
not_among [] [] rest u h e d = absurd (cc)
not_among [] (m ∷ q) rest u h e d = absurd (cc)
not_among (t ∷ us) [] rest u h e d = clash (sym (ap (is_word word.Delete) d) ∙ ap (λ l. is_word word.Delete (look l).kind) (sym e) ∙ h.0)
not_among (t ∷ us) (m ∷ q) rest u h e d = not_among us q rest u h.1 (tail_is (real t) m (map real us) (q ++ real u ∷ rest) e) d

-- of two places of a `delete` before such tokens none is later
pub no_later : (q r : Symbols) (t u : Lexeme) (us : L) (rest : Symbols) → Bare us → u.kind ≡ k.word word.Delete → q ++ real t ∷ map real us ≡ r ++ real u ∷ rest → length (lexemes_of r) ≤ length (lexemes_of q)
no_later q [] t u us rest h d e = omega arith
no_later [] (m ∷ r) t u us rest h d e = absurd (not_among us r rest u h (tail_is (real t) m (map real us) (r ++ real u ∷ rest) e) d)
no_later (real a ∷ q) (real m ∷ r) t u us rest h d e = omega (arith, no_later q r t u us rest h d (tail_is (real a) (real m) (q ++ real t ∷ map real us) (r ++ real u ∷ rest) e))
no_later (inserted ∷ q) (inserted ∷ r) t u us rest h d e = no_later q r t u us rest h d (tail_is inserted inserted (q ++ real t ∷ map real us) (r ++ real u ∷ rest) e)
no_later (real a ∷ q) (inserted ∷ r) t u us rest h d e = absurd (not_real a (head_is (real a) inserted (q ++ real t ∷ map real us) (r ++ real u ∷ rest) e))
no_later (inserted ∷ q) (real m ∷ r) t u us rest h d e = absurd (not_real m (sym (head_is inserted (real m) (q ++ real t ∷ map real us) (r ++ real u ∷ rest) e)))

-- no name is refused as such a variable, or as `get` or `set`
pub other_name : (v : List ℕ) {x : Construct} → refused_name v ≡ Some x → (x ≡ construct.EvalName) ⊎ (x ≡ construct.ArgumentsName)
other_name v {x} e = by (bytes_eq (codes "eval") v) (bytes_eq (codes "arguments") v) e where
  by : (a b : Bool) → cond a (Some construct.EvalName) (cond b (Some construct.ArgumentsName) None) ≡ Some x → (x ≡ construct.EvalName) ⊎ (x ≡ construct.ArgumentsName)
  by true b q = inl (sym (some_is q))
  by false true q = inr (sym (some_is q))
  by false false q = absurd (cc)

pub no_deletion : {A : Type 0} (v : List ℕ) → refused_name v ≡ Some construct.DeleteName → A
no_deletion {A} v e = by (other_name v e) where
  by : (construct.DeleteName ≡ construct.EvalName) ⊎ (construct.DeleteName ≡ construct.ArgumentsName) → A
  by (inl q) = absurd (cc)
  by (inr q) = absurd (cc)

-- ---- the token that follows

pub pair_delete : (t : Lexeme) → t.kind ≡ k.word word.Delete → Pair k.operand t.kind false construct.DeleteName swap.deleted
pair_delete t e = subst (λ z. Pair k.operand z false construct.DeleteName swap.deleted) (sym e) swap.delete

module _ (q : Symbols) (t : Lexeme) (us : L) (e : t.kind ≡ k.word word.Delete) (due : IsFront (q ++ any k.operand t ∷ [])) (nest : (ws : Symbols) → Nest 0 (map real us ++ ws) ws) (front : IsFront (q ++ real t ∷ map real us)) (u : Lexeme) (onward : goes_on u ≡ true) where
  abbrev whole : Symbols
  whole = (q ++ real t ∷ map real us) ++ real (foreign t) ∷ []

  abbrev n : ℕ
  n = suc (reals whole)

  parts : whole ≡ q ++ real t ∷ (map real us ++ real (foreign t) ∷ [])
  parts = append_assoc q (real t ∷ map real us) (real (foreign t) ∷ [])

  less : reals (q ++ real t ∷ []) < n
  less = omega (arith, ap length (ap lexemes_of parts ∙ lexemes_append q (real t ∷ (map real us ++ real (foreign t) ∷ []))), length-append (lexemes_of q) (t ∷ lexemes_of (map real us ++ real (foreign t) ∷ [])), ap length (lexemes_append q (real t ∷ [])), length-append (lexemes_of q) (t ∷ []))

  less_behind : reals (map real us ++ real (foreign t) ∷ []) < n
  less_behind = omega (arith, ap length (ap lexemes_of parts ∙ lexemes_append q (real t ∷ (map real us ++ real (foreign t) ∷ []))), length-append (lexemes_of q) (t ∷ lexemes_of (map real us ++ real (foreign t) ∷ [])))

  goes : {c : Fault} {i : Symbols} → read_symbols n front.height whole ≡ Err (c, i) → c.cause ≡ refused construct.DeleteName → IsFront ((q ++ real t ∷ map real us) ++ real u ∷ [])
  goes {c} r m = by (refused_at_foreign n front.height (q ++ real t ∷ map real us) t front (omega arith) m r) where
    by : Foreign front.height (q ++ real t ∷ map real us) c → IsFront ((q ++ real t ∷ map real us) ++ real u ∷ [])
    by (at_name p w {v} {x} is f o y z) = no_deletion v (y ∙ ap (λ (w : Construct). Some w) (same_construct (sym (ap (λ (w : Fault). w.cause) f) ∙ m)))
    by (at_delete p w ws is f o h z goes) = goes u onward

  judged : Verdict (change t k.operand t.kind false construct.DeleteName swap.deleted n) front.height q → IsFront ((q ++ real t ∷ map real us) ++ real u ∷ [])
  judged (passing f h) = clash (sym f)
  judged (limiting h) = absurd (unlimited n front.height (q ++ real t ∷ []) less
      (shorter_within (q ++ real t ∷ []) (map real us) (subst (λ l. IsFrontWithin front.height l) (sym (append_assoc q (real t ∷ []) (map real us))) front.within)) (h []))
  judged (refusing h) = by (read_symbols n front.height whole) refl (subst (λ l. IsRefused (change t k.operand t.kind false construct.DeleteName swap.deleted n) (read_symbols n front.height l)) (sym parts)
      (h (map real us ++ real (foreign t) ∷ []) (real (foreign t) ∷ [], nest_opened n less_behind (nest (real (foreign t) ∷ []))))) where
        by : (o : Read) → read_symbols n front.height whole ≡ o → IsRefused (change t k.operand t.kind false construct.DeleteName swap.deleted n) o → IsFront ((q ++ real t ∷ map real us) ++ real u ∷ [])
        by o r (is_refused m p) = goes r m
  judged (falling f h) = by (read_symbols n front.height (q ++ real t ∷ [])) refl (h []) where
    by : (o : Read) → read_symbols n front.height (q ++ real t ∷ []) ≡ o → Falls (change t k.operand t.kind false construct.DeleteName swap.deleted n) [] o → IsFront ((q ++ real t ∷ map real us) ++ real u ∷ [])
    by o r (falls_there {f = c} l) = absurd (no_front n front.height q (real t) [] c l r (first_token q (real t) (map real us) front))

  pub goes_on_front : IsFront ((q ++ real t ∷ map real us) ++ real u ∷ [])
  goes_on_front = judged (verdict (change t k.operand t.kind false construct.DeleteName swap.deleted n) (pair_delete t e) front.height q due)

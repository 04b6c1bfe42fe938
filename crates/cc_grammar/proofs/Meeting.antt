-- Two fronts of the same tokens with justified insertions are the same up to a token, but perhaps for an insertion right before it.
use Rattle.std.specs.Prelude.{◌≡◌, ◌≤◌, [], ◌∷◌, ◌++◌, length, map}
use Rattle.std.proofs.Common.{refl, sym, ap, ◌∙◌, subst, arith, append_assoc, append-nil}
use Rattle.cc_grammar.specs.Symbols.{Lexeme, Symbol, Symbols, real, inserted, lexemes_of}
use Rattle.cc_grammar.specs.Fronts.{IsFront, Offends, offending, Justified}
use Rattle.cc_grammar.proofs.Clashes.{same_head, same_tail}
use Rattle.cc_grammar.proofs.Copying.Copies.{L}
use Rattle.cc_grammar.proofs.TokenFronts.{lexemes_append, first_token}

-- of the front Q before the token t, and P
pub data Met (Q P : Symbols) (t : Lexeme) : Type 0 where
  inside : (others : Symbols) → P ≡ Q ++ real t ∷ others → Met Q P t
  one_more : (others : Symbols) → P ≡ Q ++ (inserted ∷ others) → Met Q P t
  at_end : P ≡ Q → Met Q P t
  one_less : Q ≡ P ++ (inserted ∷ []) → Met Q P t

-- No insertion stands before a token that goes on with a front.
abbrev pub Sharp : Symbols → L → Type 0
Sharp P us = (a b : Symbols) (m : Lexeme) (ms : L) → P ≡ a ++ (inserted ∷ b) → lexemes_of b ++ us ≡ m ∷ ms → ¬ (IsFront (a ++ real m ∷ []))

-- the first of the symbols that a justified insertion offends goes on with no front
refuted : {a xs : Symbols} (u : Lexeme) (us : L) → Offends a xs → lexemes_of xs ≡ u ∷ us → IsFront (a ++ real u ∷ []) → ⊥
refuted {a} u us (offending t {after} o sharp) e f = sharp (subst (λ (w : Lexeme). IsFront (a ++ real w ∷ [])) (sym (same_head t u (lexemes_of after) us e)) f)

first_of : (l : L) (u t : Lexeme) (us vs : L) → u ∷ us ≡ l ++ t ∷ vs → (ws : L) × (l ++ t ∷ [] ≡ u ∷ ws)
first_of [] u t us vs e = ([], ap (λ (w : Lexeme). w ∷ []) (sym (same_head u t us vs e)))
first_of (m ∷ l) u t us vs e = (l ++ t ∷ [], ap (λ (w : Lexeme). w ∷ (l ++ t ∷ [])) (sym (same_head u m us (l ++ t ∷ vs) e)))

no_insertion : {a xs : Symbols} → Offends a (inserted ∷ xs) → ⊥
no_insertion o = elim o [ ]

-- nothing but the token stands behind the insertion
alone : {a : Symbols} (q : Symbols) (t : Lexeme) → Offends a (q ++ real t ∷ []) → length (lexemes_of q) ≤ 0 → q ≡ []
alone [] t o le = refl
alone (real u ∷ q) t o le = absurd (omega arith)
alone (inserted ∷ q) t o le = absurd (no_insertion o)

module _ (Q P : Symbols) (t : Lexeme) (vs us : L) (j : Justified (Q ++ real t ∷ [])) (sharp : Sharp P us) (f : IsFront Q) (g : IsFront P) where
  offended : (a q : Symbols) → Q ≡ a ++ (inserted ∷ q) → Offends a (q ++ real t ∷ [])
  offended a q e = j a (q ++ real t ∷ []) (ap (λ z. z ++ real t ∷ []) e ∙ append_assoc a (inserted ∷ q) (real t ∷ []))

  met : (a q p : Symbols) → Q ≡ a ++ q → P ≡ a ++ p → lexemes_of p ++ us ≡ lexemes_of q ++ t ∷ vs → length (lexemes_of q) ≤ length (lexemes_of p) → Met Q P t
  met a [] [] d e l le = at_end (e ∙ sym d)
  met a [] (real u ∷ p) d e l le = inside p (e ∙ ap (λ (w : Lexeme). a ++ real w ∷ p) (same_head u t (lexemes_of p ++ us) vs l) ∙ ap (λ z. z ++ real t ∷ p) (sym (append-nil a) ∙ sym d))
  met a [] (inserted ∷ p) d e l le = one_more p (e ∙ ap (λ z. z ++ (inserted ∷ p)) (sym (append-nil a) ∙ sym d))
  met a (real m ∷ q) [] d e l le = absurd (omega arith)
  met a (inserted ∷ q) [] d e l le = one_less (d ∙ ap (λ z. a ++ (inserted ∷ z)) (alone q t (offended a q d) le) ∙ ap (λ z. z ++ (inserted ∷ [])) (sym (append-nil a) ∙ sym e))
  met a (real m ∷ q) (real u ∷ p) d e l le = met (a ++ real m ∷ []) q p (d ∙ sym (append_assoc a (real m ∷ []) q))
      (e ∙ ap (λ (w : Lexeme). a ++ real w ∷ p) (same_head u m (lexemes_of p ++ us) (lexemes_of q ++ t ∷ vs) l) ∙ sym (append_assoc a (real m ∷ []) p))
      (same_tail u m (lexemes_of p ++ us) (lexemes_of q ++ t ∷ vs) l) (omega arith)
  met a (inserted ∷ q) (inserted ∷ p) d e l le = met (a ++ (inserted ∷ [])) q p (d ∙ sym (append_assoc a (inserted ∷ []) q)) (e ∙ sym (append_assoc a (inserted ∷ []) p)) l le
  met a (real m ∷ q) (inserted ∷ p) d e l le = absurd (sharp a p m (lexemes_of q ++ t ∷ vs) e l (first_token a (real m) q (subst (λ z. IsFront z) d f)))
  met a (inserted ∷ q) (real u ∷ p) d e l le =
      let w = first_of (lexemes_of q) u t (lexemes_of p ++ us) vs l in
      absurd (refuted u w.0 (offended a q d) (lexemes_append q (real t ∷ []) ∙ w.1) (first_token a (real u) p (subst (λ z. IsFront z) e g)))

  -- where P has as many tokens, or more
  pub meets : lexemes_of P ++ us ≡ lexemes_of Q ++ t ∷ vs → length (lexemes_of Q) ≤ length (lexemes_of P) → Met Q P t
  meets l le = met [] Q P refl refl l le

-- the symbols behind a front, of which some tokens go on with it
pub data Along (others : Symbols) (us ts : L) : Type 0 where
  past : (m : Symbol) (more : Symbols) → others ≡ map real us ++ m ∷ more → Along others us ts
  exactly : others ≡ map real us → Along others us ts
  within : (m : Lexeme) (some more rest : L) → others ≡ map real some → us ≡ some ++ m ∷ more → ts ≡ m ∷ rest → Along others us ts

-- with one token more before
further : {m : Lexeme} {others : Symbols} {us ts : L} (u : Lexeme) → u ≡ m → Along others us ts → Along (real u ∷ others) (m ∷ us) ts
further {m} {others} u e (past x more q) = past x more (ap (λ (w : Lexeme). real w ∷ others) e ∙ ap (λ l. real m ∷ l) q)
further {m} {others} u e (exactly q) = exactly (ap (λ (w : Lexeme). real w ∷ others) e ∙ ap (λ l. real m ∷ l) q)
further {m} {others} u e (within x some more rest q r s) = within x (m ∷ some) more rest (ap (λ (w : Lexeme). real w ∷ others) e ∙ ap (λ l. real m ∷ l) q) (ap (λ (l : L). m ∷ l) r) s

pub along : (P : Symbols) (ts : L) → Sharp P ts → (D others : Symbols) (us vs : L) → P ≡ D ++ others → lexemes_of others ++ ts ≡ us ++ vs → IsFront (D ++ map real us) → Along others us ts
along P ts sharp D [] [] vs e l f = exactly refl
along P ts sharp D (m ∷ others) [] vs e l f = past m others refl
along P ts sharp D [] (m ∷ us) vs e l f = within m [] us (us ++ vs) refl refl l
along P ts sharp D (real u ∷ others) (m ∷ us) vs e l f =
    let same : u ≡ m = same_head u m (lexemes_of others ++ ts) (us ++ vs) l in
    further u same (along P ts sharp (D ++ real m ∷ []) others us vs (e ∙ ap (λ (w : Lexeme). D ++ real w ∷ others) same ∙ sym (append_assoc D (real m ∷ []) others))
    (same_tail u m (lexemes_of others ++ ts) (us ++ vs) l) (subst (λ z. IsFront z) (sym (append_assoc D (real m ∷ []) (map real us))) f))
along P ts sharp D (inserted ∷ others) (m ∷ us) vs e l f = absurd (sharp D others m (us ++ vs) e l (first_token D (real m) (map real us) f))

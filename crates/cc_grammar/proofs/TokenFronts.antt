-- Fronts of lists of tokens.
use Rattle.std.specs.Prelude.{◌≡◌, ℕ, ◌≤◌, true, [], ◌∷◌, ◌++◌, map, None}
use Rattle.std.proofs.Common.{refl, sym, ap, ◌∙◌, subst, append_assoc, append-nil}
use Rattle.cc_grammar.specs.Symbols.{Lexeme, Symbol, Symbols, real, inserted, lexemes_of}
use Rattle.cc_grammar.specs.Fronts.{Derives, IsFront, IsFrontWithin, Offends, offending, Justified, offends}
use Rattle.cc_grammar.specs.Faults.{TokensFront, TokensFrontWithin}
use Rattle.cc_grammar.specs.Reading.{fault, look_token, read_symbols}
use Rattle.cc_grammar.specs.Reading as r
use Rattle.cc_grammar.specs.Signs.{refused_kind}
use Rattle.cc_grammar.proofs.Clashes.{same_head, same_tail, nothing_some, head_is, not_real}
use Rattle.cc_grammar.proofs.Mono.{higher_body}
use Rattle.cc_grammar.proofs.Refusing.NoFront.{no_front}
use Rattle.cc_grammar.proofs.Copying.Paired.{Paired}
use Rattle.cc_grammar.proofs.Copying.Copies.{L, Copy, end, take, insert, put, StopsAt, Just}
use Rattle.cc_grammar.proofs.Soundness.SoundTokens.{Inserted, at_insertion, no_limit}

-- ---- lists

pub real_is : (t u : Lexeme) → real t ≡ real u → t ≡ u
real_is t u e = cc

pub lexemes_append : (xs ys : Symbols) → lexemes_of (xs ++ ys) ≡ lexemes_of xs ++ lexemes_of ys
lexemes_append [] ys = refl
lexemes_append (real t ∷ xs) ys = ap (λ l. t ∷ l) (lexemes_append xs ys)
lexemes_append (inserted ∷ xs) ys = lexemes_append xs ys

pub put_front : {ts us : L} (w : Copy ts us) (zs : Symbols) → put w zs ≡ put w [] ++ zs
put_front end zs = refl
put_front (take t w) zs = ap (λ l. real t ∷ l) (put_front w zs)
put_front (insert o w) zs = ap (λ l. inserted ∷ l) (put_front w zs)

-- ---- fronts of symbols

pub shorter_within : {h : ℕ} (a zs : Symbols) → IsFrontWithin h (a ++ zs) → IsFrontWithin h a
shorter_within {h} a zs f = record { more = zs ++ f.more; tree = f.tree; derives = subst (λ l. Derives h l f.tree) (append_assoc a zs f.more) f.derives }

pub shorter : (a zs : Symbols) → IsFront (a ++ zs) → IsFront a
shorter a zs f = record { height = f.height; within = shorter_within a zs f.within }

pub first_token : (b : Symbols) (x : Symbol) (zs : Symbols) → IsFront (b ++ x ∷ zs) → IsFront (b ++ x ∷ [])
first_token b x zs f = shorter (b ++ x ∷ []) zs (subst (λ l. IsFront l) (sym (append_assoc b (x ∷ []) zs)) f)

pub higher_within : {h d : ℕ} {xs : Symbols} → h ≤ d → IsFrontWithin h xs → IsFrontWithin d xs
higher_within {d} le f = record { more = f.more; tree = f.tree; derives = record { last = f.derives.last; body = higher_body d le f.derives.body; ends = f.derives.ends } }

-- ---- parts of justified lists

abbrev pub Filled : Symbols → Type 0
Filled [] = ⊥
Filled (m ∷ xs) = Unit {0}

-- something stands behind each insertion
abbrev pub Closed : Symbols → Type 0
Closed [] = Unit {0}
Closed (real t ∷ xs) = Closed xs
Closed (inserted ∷ xs) = Filled xs × Closed xs

filled_behind : (before after : Symbols) → Closed (before ++ (inserted ∷ after)) → Filled after
filled_behind [] after c = c.0
filled_behind (real t ∷ before) after c = filled_behind before after c
filled_behind (inserted ∷ before) after c = filled_behind before after c.1

offends_first : {before xs : Symbols} → Offends before xs → (after b : Symbols) → xs ≡ after ++ b → Filled after → Offends before after
offends_first h [] b e f = absurd f
offends_first {before} (offending t o s) (real u ∷ after) b e f = subst (λ (w : Lexeme). Offends before (real w ∷ after)) (real_is t u (head_is _ _ _ _ e)) (offending t o s)
offends_first (offending t o s) (inserted ∷ after) b e f = absurd (not_real t (head_is _ _ _ _ e))

pub justified_part : (a b : Symbols) → Closed a → Justified (a ++ b) → Justified a
justified_part a b c j before after e =
    offends_first (j before (after ++ b) (ap (λ z. z ++ b) e ∙ append_assoc before (inserted ∷ after) b)) after b refl (filled_behind before after (subst (λ z. Closed z) e c))

-- up to the last of some tokens
record Cut (xs : Symbols) (p : L) : Type 0 where
  before : Symbols
  after : Symbols
  is : xs ≡ before ++ after
  tokens : lexemes_of before ≡ p
  closed : Closed before

filled_by : (xs : Symbols) (u : Lexeme) (p : L) → lexemes_of xs ≡ u ∷ p → Filled xs
filled_by [] u p e = nothing_some u p e
filled_by (m ∷ xs) u p e = tt

cut : (xs : Symbols) (p q : L) → lexemes_of xs ≡ p ++ q → Cut xs p
cut xs [] q e = record { before = []; after = xs; is = refl; tokens = refl; closed = tt }
cut [] (u ∷ p) q e = absurd (nothing_some u (p ++ q) e)
cut (real t ∷ xs) (u ∷ p) q e =
    let c = cut xs p q (same_tail t u (lexemes_of xs) (p ++ q) e) in
    record { before = real t ∷ c.before; after = c.after; is = ap (λ l. real t ∷ l) c.is; tokens = ap (λ (l : L). t ∷ l) c.tokens ∙ ap (λ (w : Lexeme). w ∷ p) (same_head t u (lexemes_of xs) (p ++ q) e); closed = c.closed }
cut (inserted ∷ xs) (u ∷ p) q e =
    let c = cut xs (u ∷ p) q e in
    record { before = inserted ∷ c.before; after = c.after; is = ap (λ l. inserted ∷ l) c.is; tokens = c.tokens; closed = (filled_by c.before u p c.tokens, c.closed) }

module _ (xs more : Symbols) (j : Justified (xs ++ more)) (p q : L) (e : lexemes_of xs ≡ p ++ q) where
  part : Cut xs p
  part = cut xs p q e

  part_justified : Justified part.before
  part_justified = justified_part part.before (part.after ++ more) part.closed (subst (λ z. Justified z) (ap (λ z. z ++ more) part.is ∙ append_assoc part.before part.after more) j)

  -- The first tokens of a front are a front.
  pub part_front : IsFront xs → TokensFront p
  part_front f = record {
    symbols = part.before;
    is_front = record {
      tokens = part.tokens;
      justified = subst (λ z. Justified z) (sym (append-nil part.before)) part_justified;
      front = shorter part.before part.after (subst (λ z. IsFront z) part.is f);
    };
  }

  pub part_front_within : (d : ℕ) → IsFrontWithin d xs → TokensFrontWithin d p
  part_front_within d f = record { symbols = part.before; tokens = part.tokens; justified = part_justified; front = shorter_within part.before part.after (subst (λ z. IsFrontWithin d z) part.is f) }

-- ---- the symbols before a stop, and the next token

abbrev Ordinary : Symbols → Type 0
Ordinary (inserted ∷ xs) = ⊥
Ordinary _ = Unit {0}

-- no insertion stands behind another
abbrev Single : Symbols → Type 0
Single [] = Unit {0}
Single (real t ∷ xs) = Single xs
Single (inserted ∷ xs) = Ordinary xs × Single xs

single_front : (a : Symbols) (t : Lexeme) (more : Symbols) → Paired (a ++ more) → Single (a ++ real t ∷ [])
single_front [] t more h = tt
single_front (real u ∷ a) t more h = single_front a t more h.1
single_front (inserted ∷ []) t more h = (tt, tt)
single_front (inserted ∷ real u ∷ a) t more h = (tt, single_front a t more h.1.1)
single_front (inserted ∷ inserted ∷ a) t more h = absurd h.0

ordinary_behind : (before after : Symbols) → Single (before ++ (inserted ∷ after)) → Ordinary after
ordinary_behind [] after c = c.0
ordinary_behind (real t ∷ before) after c = ordinary_behind before after c
ordinary_behind (inserted ∷ before) after c = ordinary_behind before after c.1

never : (t : Lexeme) (b a : Symbols) → real t ∷ [] ≡ b ++ (inserted ∷ a) → ⊥
never t [] a e = not_real t (head_is _ _ _ _ e)
never t (m ∷ []) a e = cc
never t (m ∷ n ∷ b) a e = cc

-- the symbols go on as the tokens do
record Shown (tokens : L) (after : Symbols) : Type 0 where
  token : Lexeme
  others : L
  behind : Symbols
  tokens_are : tokens ≡ token ∷ others
  symbols_are : after ≡ real token ∷ behind

shown_copy : {ts us : L} (c : Copy ts us) (t : Lexeme) (vs : L) → us ≡ t ∷ vs → (after : Symbols) → after ≡ put c (real t ∷ []) → Ordinary after → Shown ts after
shown_copy end t vs q after e o = record { token = t; others = vs; behind = []; tokens_are = q; symbols_are = e }
shown_copy (take {ts} u c) t vs q after e o = record { token = u; others = ts; behind = put c (real t ∷ []); tokens_are = refl; symbols_are = e }
shown_copy (insert i c) t vs q [] e o = absurd (cc)
shown_copy (insert i c) t vs q (real u ∷ after) e o = absurd (not_real u (head_is _ _ _ _ e))
shown_copy (insert i c) t vs q (inserted ∷ after) e o = absurd o

module _ (turns d : ℕ) {ts us : L} (w : Copy ts us) (j : Just (read_symbols turns d) w) (t : Lexeme) (vs : L) (q : us ≡ t ∷ vs) where
  -- The insertions before a stop are justified, with the next token behind them.
  pub justified_before : (more : Symbols) → Paired (put w [] ++ more) → Justified (put w [] ++ real t ∷ [])
  justified_before more p before after e =
      by (at_insertion (StopsAt (read_symbols turns d)) w (real t ∷ []) (never t) j before after (put_front w (real t ∷ []) ∙ e))
      (ordinary_behind before after (subst (λ z. Single z) e (single_front (put w []) t more p))) where
        offered : (tokens : L) → offends (look_token tokens) ≡ true → StopsAt (read_symbols turns d) tokens (before ++ map real tokens) → Shown tokens after → Offends before after
        offered tokens o h s = subst (λ z. Offends before z) (sym s.symbols_are) (offending s.token (ap (λ (l : L). offends (look_token l)) (sym s.tokens_are) ∙ o)
            (no_front turns d before (real s.token) (map real s.others) (fault r.a_token s.token) (no_limit (refused_kind s.token.kind) None) (subst (λ (l : L). StopsAt (read_symbols turns d) l (before ++ map real l)) s.tokens_are h)))

        by : Inserted (StopsAt (read_symbols turns d)) before after us (real t ∷ []) → Ordinary after → Offends before after
        by i o = offered i.tokens i.offends_there i.holds (shown_copy i.copy t vs q after i.is o)

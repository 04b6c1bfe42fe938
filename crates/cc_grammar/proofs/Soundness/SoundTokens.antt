-- What is read of a list of tokens is derived from exactly the tokens, with justified insertions, within the depth.
use Rattle.std.specs.Prelude.{◌≡◌, ℕ, ◌≤◌, true, false, List, [], ◌∷◌, ◌++◌, map, Ok, Option, Some, None}
use Rattle.std.proofs.Common.{refl, sym, ap, ◌∙◌, subst}
use Rattle.cc_grammar.specs.Symbols.{Lexeme, Symbol, Symbols, real, inserted, look}
use Rattle.cc_ast.specs.declared.reading.Construct.{Construct}
use Rattle.cc_grammar.specs.RawTree.{RawStmt}
use Rattle.cc_grammar.specs.Signs.{refused_kind}
use Rattle.cc_grammar.specs.Fronts.{IsFront, offends, Offends, offending, Justified, ReadsWithin}
use Rattle.cc_grammar.specs.Laws.{IsSound}
use Rattle.cc_grammar.specs.Reading.{Outcome, Sized, Fault, fault, look_token, read_symbols, read_tokens}
use Rattle.cc_grammar.specs.Reading as r
use Rattle.cc_grammar.proofs.Clashes.{head_is, tail_is, not_real, no_insertion}
use Rattle.cc_grammar.proofs.Alikeness.Alike.{is_limit}
use Rattle.cc_grammar.proofs.Refusing.NoFront.{no_front}
use Rattle.cc_grammar.proofs.Soundness.Sound.{symbols_sound, ended_at}
use Rattle.cc_grammar.proofs.Copying.Paired.{Begun, Paired, end_ready, body_ready}
use Rattle.cc_grammar.proofs.Copying.Copies.{L, Copy, end, take, insert, put, put_lexemes, Each, StopsAt, Just, Copies, read, Quiet}
use Rattle.cc_grammar.proofs.Copying.CopyPrograms.{program_copy}

no_list : (x : Symbol) (xs : Symbols) → [] ≡ x ∷ xs → ⊥
no_list x xs e = cc

-- An insertion in a list of symbols that goes on as xs: the tokens behind it, and what holds there.
pub record Inserted (P : L → Symbols → Type 0) (before after : Symbols) (us : L) (xs : Symbols) : Type 0 where
  pub tokens : L
  pub offends_there : offends (look_token tokens) ≡ true
  pub holds : P tokens (before ++ map real tokens)
  pub copy : Copy tokens us
  pub is : after ≡ put copy xs

pub at_insertion : {ts us : L} (P : L → Symbols → Type 0) (w : Copy ts us) (xs : Symbols) → ((b a : Symbols) → xs ≡ b ++ (inserted ∷ a) → ⊥) → Each P w
    → (before after : Symbols) → put w xs ≡ before ++ (inserted ∷ after) → Inserted P before after us xs
at_insertion P end xs n j before after e = absurd (n before after e)
at_insertion P (take t w) xs n j [] after e = absurd (not_real t (head_is _ _ _ _ e))
at_insertion P (take t w) xs n j (m ∷ before) after e =
    let p = at_insertion (λ vs ys. P vs (real t ∷ ys)) w xs n j before after (tail_is _ _ _ _ e) in
    record { tokens = p.tokens; offends_there = p.offends_there; holds = subst (λ (s : Symbol). P p.tokens (s ∷ (before ++ map real p.tokens))) (head_is _ _ _ _ e) p.holds; copy = p.copy; is = p.is }
at_insertion P (insert {ts} o w) xs n j [] after e = record { tokens = ts; offends_there = o; holds = j.0; copy = w; is = sym (tail_is _ _ _ _ e) }
at_insertion P (insert o w) xs n j (m ∷ before) after e =
    let p = at_insertion (λ vs ys. P vs (inserted ∷ ys)) w xs n j.1 before after (tail_is _ _ _ _ e) in
    record { tokens = p.tokens; offends_there = p.offends_there; holds = subst (λ (s : Symbol). P p.tokens (s ∷ (before ++ map real p.tokens))) (head_is _ _ _ _ e) p.holds; copy = p.copy; is = p.is }

pub begun_behind : (before after : Symbols) → Paired (before ++ (inserted ∷ after)) → Begun after
begun_behind [] after p = p.0
begun_behind (real t ∷ before) after p = begun_behind before after p.1
begun_behind (inserted ∷ before) after p = begun_behind before after p.1

-- a token stands first
abbrev pub Led : Symbols → Type 0
Led [] = ⊥
Led (real t ∷ xs) = Unit {0}
Led (inserted ∷ xs) = ⊥

pub led : (xs : Symbols) → Begun xs → Led xs
led [] b = b
led (real t ∷ xs) b = tt
led (inserted ∷ xs) b = b

shown_copy : {ts us : L} (c : Copy ts us) (xs after : Symbols) → look xs ≡ look_token us → after ≡ put c xs → Led after → look after ≡ look_token ts
shown_copy end xs after l e b = ap look e ∙ l
shown_copy (take t c) xs after l e b = ap look e
shown_copy (insert o c) xs [] l e b = absurd b
shown_copy (insert o c) xs (real t ∷ after) l e b = absurd (not_real t (head_is _ _ _ _ e))
shown_copy (insert o c) xs (inserted ∷ after) l e b = absurd b

pub no_limit : (o p : Option Construct) → is_limit (r.either o p) ≡ false
no_limit (Some c) p = refl
no_limit None (Some c) = refl
no_limit None None = refl

-- where the reader of symbols stops at the token, the insertion is justified
stopped : (turns d : ℕ) (before : Symbols) (t : Lexeme) (vs : L) → StopsAt (read_symbols turns d) (t ∷ vs) (before ++ map real (t ∷ vs)) → ¬ (IsFront (before ++ real t ∷ []))
stopped turns d before t vs e = no_front turns d before (real t) (map real vs) (fault r.a_token t) (no_limit (refused_kind t.kind) None) e

-- The insertions of the reader of tokens are justified.
pub justified_by : (turns d : ℕ) {ts us : L} (w : Copy ts us) (xs : Symbols) → ((b a : Symbols) → xs ≡ b ++ (inserted ∷ a) → ⊥) → look xs ≡ look_token us → Just (read_symbols turns d) w
    → ((b a : Symbols) → put w xs ≡ b ++ (inserted ∷ a) → Led a) → Justified (put w xs)
justified_by turns d {us} w xs n l j p before after e = by after (at_insertion (StopsAt (read_symbols turns d)) w xs n j before after e) (p before after e) where
  offered : (tokens : L) (t : Lexeme) → t ≡ look_token tokens → offends (look_token tokens) ≡ true → StopsAt (read_symbols turns d) tokens (before ++ map real tokens) → (after : Symbols) → Offends before (real t ∷ after)
  offered [] t q o h after = absurd (cc)
  offered (u ∷ vs) t q o h after = subst (λ (s : Lexeme). Offends before (real s ∷ after)) (sym q) (offending u o (stopped turns d before u vs h))

  by : (after : Symbols) → Inserted (StopsAt (read_symbols turns d)) before after us xs → Led after → Offends before after
  by [] i b = absurd b
  by (inserted ∷ after) i b = absurd b
  by (real t ∷ after) i b = offered i.tokens t (shown_copy i.copy xs (real t ∷ after) l i.is b) i.offends_there i.holds after

pub justified : (turns d : ℕ) {ts us : L} (w : Copy ts us) (xs : Symbols) → ((b a : Symbols) → xs ≡ b ++ (inserted ∷ a) → ⊥) → look xs ≡ look_token us → Just (read_symbols turns d) w → Paired (put w xs) → Justified (put w xs)
justified turns d w xs n l j p = justified_by turns d w xs n l j (λ b a q. led a (begun_behind b a (subst (λ v. Paired v) q p)))

-- the whole list
read_by : (turns d : ℕ) (ts : L) (b : List RawStmt) (h : ℕ) → Copies false Quiet (read_symbols turns d) ts (Ok ((b, h), [])) → ReadsWithin h ts b × (h ≤ d)
read_by turns d ts b h (read w e j k _) =
    let xs = put w [] in
    let x = ended_at d xs (b, h) [] (read_symbols turns d xs) (symbols_sound turns d xs) (e [] refl) in
    (record { symbols = xs; tokens = put_lexemes w [] refl; justified = justified turns d w [] no_insertion refl j (body_ready x.body (end_ready x.ends)).paired; derives = record { last = x.last; body = x.body; ends = x.ends } }, x.low)

pub sound : IsSound
sound turns d h ts b e = read_by turns d ts b h (subst (λ o. Copies false Quiet (read_symbols turns d) ts o) e (program_copy turns d ts))

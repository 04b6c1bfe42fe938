-- Where the reader of tokens stops, what came before is a front, and what goes on from it with the next token is none.
use Rattle.std.specs.Prelude.{◌≡◌, ℕ, suc, ◌<◌, ◌≤◌, max, Bool, true, false, List, [], ◌∷◌, ◌++◌, map, length, Err, ◌⊎◌}
use Rattle.std.proofs.Common.{refl, sym, ap, ◌∙◌, subst, arith, append_assoc, append-nil, inl, inr}
use Rattle.std.proofs.lemmas.List.{append_cancel_right}
use Rattle.cc_ast.specs.declared.reading.Construct.TheVariants as construct
use Rattle.cc_lexer.specs.declared.token.Mark.TheVariants as mark
use Rattle.cc_lexer.specs.declared.word.Word.TheVariants as word
use Rattle.cc_grammar.specs.Symbols.{Kind, Lexeme, Symbol, Symbols, real, inserted, look, lexemes_of, is_mark}
use Rattle.cc_grammar.specs.Symbols as k
use Rattle.cc_grammar.specs.RawTree.{RawStmt}
use Rattle.cc_grammar.specs.Grammar.{At}
use Rattle.cc_grammar.specs.Fronts.{Derives, IsFront, IsFrontWithin, Offends, offending, Justified, offends}
use Rattle.cc_grammar.specs.Laws.{IsText, last, before, is_last}
use Rattle.cc_grammar.specs.Reading.{Outcome, Sized, Fault, Cause, fault, look_token, goes_on, syntax, depth, spent, refused, read_symbols, read_tokens}
use Rattle.cc_grammar.specs.Reading as r
use Rattle.cc_grammar.proofs.Clashes.{clash, same_head, same_tail, nothing_some, head_is, tail_is, no_insertion}
use Rattle.cc_grammar.proofs.Views.{mark_true}
use Rattle.cc_grammar.proofs.Shrinks.{reals}
use Rattle.cc_grammar.proofs.Completeness.Complete.{program_read}
use Rattle.cc_grammar.proofs.Alikeness.Alike.{is_limit, is_spent}
use Rattle.cc_grammar.proofs.Refusing.NoFront.{no_front, unread_there}
use Rattle.cc_grammar.proofs.Steps.{kind_at}
use Rattle.cc_grammar.proofs.Deletions.{Nest, nest_told}
use Rattle.cc_grammar.proofs.Fails.{Why, Raises, Fails, fine, stop, deleted, deep, here, due, anew}
use Rattle.cc_grammar.proofs.Fronts.FrontsProgram.{FrontAt, FrontOf, Open, program_fails}
use Rattle.cc_grammar.proofs.Copying.Paired.{is_fresh, Begun, Paired, end_ready, body_ready}
use Rattle.cc_grammar.proofs.Copying.Copies.{L, Copy, end, take, insert, put, put_lexemes, lexemes_real, look_real, Each, each_map, StopsAt, Just, Shut, Bar, bar_same, Copies, read, Quiet}
use Rattle.cc_grammar.proofs.Copying.Copies as copies
use Rattle.cc_grammar.proofs.Copying.CopyPrograms.{program_copy}
use Rattle.cc_grammar.proofs.Soundness.SoundTokens.{at_insertion, begun_behind, no_limit}
use Rattle.cc_grammar.proofs.TokenFronts.{real_is, lexemes_append, put_front, first_token, higher_within, justified_before}

-- ---- what is known of the symbols before a stop

-- a deleted variable, behind which the front may be higher
abbrev pub is_deletion : Cause → Bool
is_deletion (refused construct.DeleteName) = true
is_deletion _ = false

-- a cause that is no refused construct
abbrev pub is_plain : Cause → Bool
is_plain (refused c) = false
is_plain _ = true

-- Why reading the list xs stops behind the symbols p and before i: for the next symbol, behind a front within the depth, or for
-- a variable that is deleted.
pub data Reason (d : ℕ) (c : Fault) (p xs i : Symbols) : Type 0 where
  at_next : IsFrontWithin d p → Why (FrontOf xs) c i → Reason d c p xs i
  behind : {ys vs : Symbols} → c ≡ record { cause = refused construct.DeleteName; place = (look ys).place } → (o : At (k.word word.Delete) ys vs) → (n : Nest 0 vs i) → (j : ℕ) → j ≤ d → FrontOf xs j (due k.operand ys)
      → ((t : Lexeme) → goes_on t ≡ true → (u : ℕ) × FrontOf xs u (anew (look ys) (kind_at o) (nest_told n).tokens t vs)) → Reason d c p xs i

-- They are a front within the depth, but where a variable is deleted perhaps a higher one. At the depth they are one with the next token.
pub record Stopped (d : ℕ) (c : Fault) (p : Symbols) (us : L) : Type 0 where
  pub front : IsFront p
  pub unclosed : Open p
  pub unspent : is_spent c.cause ≡ false
  pub placed : c.cause ≡ syntax → c.place ≡ (look_token us).place
  pub placed_deep : is_limit c.cause ≡ true → c.place ≡ (look_token us).place
  pub within : is_deletion c.cause ≡ false → IsFrontWithin d p
  pub deeper : is_limit c.cause ≡ true → (t : Lexeme) (vs : L) → us ≡ t ∷ vs → IsFront (p ++ real t ∷ [])
  pub raised : is_limit c.cause ≡ true → (t : Lexeme) (vs : L) → us ≡ t ∷ vs → Raises t.kind (map real vs)
  pub why : is_limit c.cause ≡ false → Reason d c p (p ++ map real us) (map real us)

not_spent : (c : Cause) → is_limit c ≡ false → is_spent c ≡ false
not_spent syntax e = refl
not_spent depth e = refl
not_spent spent e = clash e
not_spent (refused x) e = refl

-- the front has the symbols before
record FrontIs (j : ℕ) (p : Symbols) : Type 0 where
  within : IsFrontWithin j p
  unclosed : Open p

front_at : {j : ℕ} {xs i : Symbols} (p : Symbols) → xs ≡ p ++ i → FrontAt j xs (here i) → FrontIs j p
front_at {j} {i} p e f = subst (λ z. FrontIs j z) (append_cancel_right f.before p i (sym f.is ∙ e)) (record { within = f.front; unclosed = f.unclosed })

reason_by : {d : ℕ} {a c : Fault} {p xs ys i l : Symbols} → a ≡ c → xs ≡ ys → i ≡ l → Reason d a p xs i → Reason d c p ys l
reason_by {d} {c} {p} {xs} {ys} {i} e f g h =
    let x = let P : Fault → Type 0 = λ a. Reason d a p xs i in subst P e h in
    let y = let P : Symbols → Type 0 = λ l. Reason d c p l i in subst P f x in
    let P : Symbols → Type 0 = λ l. Reason d c p ys l in subst P g y

-- what is known where it stops, but not at a limit
sharply : {d j : ℕ} {a c : Fault} {xs i : Symbols} (p : Symbols) (us : L) → xs ≡ p ++ map real us → ◌≡◌ {A = Fault × Symbols} (a, i) (c, map real us) → is_limit a.cause ≡ false → (a.cause ≡ syntax → a.place ≡ (look i).place) → FrontAt j xs (here i)
    → (is_deletion c.cause ≡ false → IsFrontWithin d p) → Reason d a p xs i → Stopped d c p us
sharply {j} {a} {c} {i} p us e pairs l o h within w =
    let same : a ≡ c = ap (λ (z : Fault × Symbols). z.0) pairs in
    let place : i ≡ map real us = ap (λ (z : Fault × Symbols). z.1) pairs in
    let limited : is_limit c.cause ≡ true → ⊥ = λ m. clash (sym m ∙ ap (λ (z : Fault). is_limit z.cause) (sym same) ∙ l) in
    let f = front_at p (e ∙ ap (λ l. p ++ l) (sym place)) h in
    record {
      front = record { height = j; within = f.within };
      unclosed = f.unclosed;
      unspent = ap (λ (z : Fault). is_spent z.cause) (sym same) ∙ not_spent a.cause l;
      placed = λ m. ap (λ (z : Fault). z.place) (sym same) ∙ o (ap (λ (z : Fault). z.cause) same ∙ m) ∙ ap (λ z. (look z).place) place ∙ ap (λ z. z.place) (look_real us);
      placed_deep = λ m. absurd (limited m);
      within = within;
      deeper = λ m t vs f. absurd (limited m);
      raised = λ m t vs f. absurd (limited m);
      why = λ _. reason_by same e place w;
    }

low_at : {d j : ℕ} {xs i : Symbols} (p : Symbols) (us : L) → xs ≡ p ++ map real us → i ≡ map real us → j < suc d → FrontAt j xs (here i) → IsFrontWithin d p
low_at p us e place lt h = higher_within (omega arith) (front_at p (e ∙ ap (λ l. p ++ l) (sym place)) h).within

pub stopped : {d : ℕ} {c : Fault} {xs : Symbols} (p : Symbols) (us : L) {o : Outcome Symbols (Sized (List RawStmt))} → xs ≡ p ++ map real us → Fails (suc d) (FrontOf xs) o → o ≡ Err (c, map real us) → Stopped d c p us
stopped p us e fine q = absurd (cc)
stopped {d} {c} {xs} p us e (stop {c = a} {i} l o j lt w h) q =
    let pairs : ◌≡◌ {A = Fault × Symbols} (a, i) (c, map real us) = cc in
    let low = low_at p us e (ap (λ (z : Fault × Symbols). z.1) pairs) lt h in
    sharply p us e pairs l o h (λ _. low) (at_next low w)
stopped {d} {c} {xs} p us e (deleted {c = a} {i} r o n j lt h g u w) q =
    let pairs : ◌≡◌ {A = Fault × Symbols} (a, i) (c, map real us) = cc in
    let refusing = ap (λ (z : Fault). z.cause) r in
    sharply p us e pairs (ap is_limit refusing) (λ m. let no : syntax ≡ refused construct.DeleteName = sym m ∙ refusing in absurd (cc)) w
    (λ m. clash (sym (ap (λ (z : Fault × Symbols). is_deletion z.0.cause) (sym pairs) ∙ ap is_deletion refusing) ∙ m)) (behind r o n j (omega arith) h g)
stopped {d} {c} {xs} p us e (deep {c = a} {i} {ys} m o j lt h t s r u w) q =
    let pairs : ◌≡◌ {A = Fault × Symbols} (a, i) (c, map real us) = cc in
    let same : a ≡ c = ap (λ (z : Fault × Symbols). z.0) pairs in
    let place : i ≡ map real us = ap (λ (z : Fault × Symbols). z.1) pairs in
    let f = front_at p (e ∙ ap (λ l. p ++ l) (sym place)) h in
    let at : c.place ≡ (look_token us).place = ap (λ (z : Fault). z.place) (sym same) ∙ o ∙ ap (λ z. (look z).place) place ∙ ap (λ z. z.place) (look_real us) in
    record {
      front = record { height = j; within = f.within };
      unclosed = f.unclosed;
      unspent = ap (λ (z : Fault). is_spent z.cause) (sym same) ∙ ap is_spent m;
      placed = λ _. at;
      placed_deep = λ _. at;
      within = λ _. higher_within (omega arith) f.within;
      deeper = λ _ v vs f. let both : real t ∷ ys ≡ real v ∷ map real vs = s ∙ place ∙ ap (λ (l : L). map real l) f in
          let token : real t ≡ real v = head_is (real t) (real v) ys (map real vs) both in
          record { height = u; within = (front_at (p ++ real v ∷ []) (e ∙ ap (λ l. p ++ l) (ap (λ (l : L). map real l) f ∙ ap (λ l. real v ∷ l) (sym (tail_is (real t) (real v) ys (map real vs) both))) ∙ sym (append_assoc p (real v ∷ []) ys)) w).within };
      raised = λ _ v vs f. let both : real t ∷ ys ≡ real v ∷ map real vs = s ∙ place ∙ ap (λ (l : L). map real l) f in
          let token : t ≡ v = real_is t v (head_is (real t) (real v) ys (map real vs) both) in
          let y = subst (λ (z : Lexeme). Raises z.kind ys) token r in subst (λ z. Raises v.kind z) (tail_is (real t) (real v) ys (map real vs) both) y;
      why = λ f. clash (ap is_limit (sym m) ∙ ap (λ (z : Fault). is_limit z.cause) same ∙ f);
    }

-- ---- a text goes on there

open_text : {ts : L} (p : Symbols) → Open p → IsText ts → ts ≡ lexemes_of p → ⊥
open_text [] o (last {t} l) e = nothing_some t [] (sym e)
open_text [] o (before {t} {ts} i k) e = nothing_some t ts (sym e)
open_text (inserted ∷ p) o h e = open_text p o h e
open_text (real t ∷ p) o (last {t = u} l) e = clash (sym l ∙ ap (λ (z : Lexeme). is_last z.kind) (same_head u t [] (lexemes_of p) e) ∙ o.0)
open_text (real t ∷ p) o (before {t = u} {ts} i k) e = open_text p o.1 k (same_tail u t ts (lexemes_of p) e)

-- ---- what goes on from there

no_colon : (x : Kind) → is_fresh x ≡ true → is_mark mark.Colon x ≡ true → ⊥
no_colon x f c = clash (sym f ∙ ap is_fresh (mark_true mark.Colon x c))

copy_length : {ts us : L} → Copy ts us → length us ≤ length ts
copy_length end = omega arith
copy_length (take t w) = omega (arith, copy_length w)
copy_length (insert o w) = copy_length w

module _ (n d : ℕ) {ts us : L} {c : Fault} (w : Copy ts us) (e : read_symbols n d (put w (map real us)) ≡ Err (c, map real us)) (just : Just (read_symbols n d) w) (bar : Bar c (read_symbols n d) w)
    (f : Stopped d c (put w []) us) (t : Lexeme) (vs : L) (q : us ≡ t ∷ vs) where
  halts : read_symbols n d (put w [] ++ real t ∷ map real vs) ≡ Err (c, real t ∷ map real vs)
  halts = subst (λ (l : L). read_symbols n d (put w [] ++ map real l) ≡ Err (c, map real l)) q (ap (read_symbols n d) (sym (put_front w (map real us))) ∙ e)

  all_tokens : ts ≡ (lexemes_of (put w []) ++ t ∷ []) ++ vs
  all_tokens = sym (put_lexemes w (map real us) (lexemes_real us)) ∙ ap lexemes_of (put_front w (map real us)) ∙ lexemes_append (put w []) (map real us)
      ∙ ap (λ l. lexemes_of (put w []) ++ l) (lexemes_real us ∙ q) ∙ sym (append_assoc (lexemes_of (put w [])) (t ∷ []) vs)

  module _ (h : ℕ) (s : Symbols) (x : IsFrontWithin h s) (j : Justified s) (low : (is_limit c.cause ≡ false) ⊎ (h ≤ d)) where
    s_front : IsFront s
    s_front = record { height = h; within = x }

    s_paired : Paired (s ++ x.more)
    s_paired = (body_ready x.derives.body (end_ready x.derives.ends)).paired

    -- where reading stops at a symbol, the front doesn't go on with it
    refuted : (a : Symbols) (m : Symbol) (zs ys : Symbols) (g : Fault) → is_spent g.cause ≡ false → (is_limit g.cause ≡ false) ⊎ (h ≤ d) → read_symbols n d (a ++ m ∷ zs) ≡ Err (g, m ∷ zs) → s ≡ a ++ m ∷ ys → ⊥
    refuted a m zs ys g u l e k = by l where
      by : (is_limit g.cause ≡ false) ⊎ (h ≤ d) → ⊥
      by (inl l) = no_front n d a m zs g l e (first_token a m ys (subst (λ z. IsFront z) k s_front))
      by (inr le) =
          let all = ys ++ x.more in
          let derived : Derives h (a ++ m ∷ all) x.tree = subst (λ z. Derives h z x.tree) (ap (λ z. z ++ x.more) k ∙ append_assoc a (m ∷ ys) x.more) x.derives in
          let o = max n (suc (reals (a ++ m ∷ all))) in
          let p = program_read o d h (omega arith) le derived in
          unread_there n d o (omega arith) a m zs all g ((x.tree, p.height), []) u e p.is

    not_there : (zs : Symbols) → s ≡ put w [] ++ zs → lexemes_of zs ≡ t ∷ [] → ⊥
    not_there [] k l = nothing_some t [] l
    not_there (real u ∷ zs) k l = refuted (put w []) (real t) (map real vs) zs c f.unspent low halts (k ∙ ap (λ (v : Lexeme). put w [] ++ real v ∷ zs) (same_head u t (lexemes_of zs) [] l))
    not_there (inserted ∷ zs) k l = by zs k l (j (put w []) zs k) (begun_behind (put w []) (zs ++ x.more) (subst (λ z. Paired z) (ap (λ z. z ++ x.more) k ∙ append_assoc (put w []) (inserted ∷ zs) x.more) s_paired)) where
      by : (zs : Symbols) → s ≡ put w [] ++ (inserted ∷ zs) → lexemes_of zs ≡ t ∷ [] → Offends (put w []) zs → Begun (zs ++ x.more) → ⊥
      by zs k l (offending u {after} o sharp) begun = limited (is_limit c.cause) refl where
        same : u ≡ t
        same = same_head u t (lexemes_of after) [] l

        limited : (v : Bool) → is_limit c.cause ≡ v → ⊥
        limited true m = sharp (subst (λ (v : Lexeme). IsFront (put w [] ++ real v ∷ [])) (sym same) (f.deeper m t vs q))
        limited false m = barred (bar m (ap (λ (l : L). offends (look_token l)) q ∙ ap (λ (v : Lexeme). offends v) (sym same) ∙ o)) where
          barred : (is_mark mark.Colon (look_token us).kind ≡ true) ⊎ Shut (read_symbols n d (put w (inserted ∷ map real us))) (map real us) → ⊥
          barred (inl z) = no_colon u.kind begun (ap (λ (v : Lexeme). is_mark mark.Colon v.kind) same ∙ ap (λ (l : L). is_mark mark.Colon (look_token l).kind) (sym q) ∙ z)
          barred (inr z) = refuted (put w []) inserted (map real us) (real u ∷ after) z.fault (not_spent z.fault.cause z.no_limit) (inl z.no_limit) (ap (read_symbols n d) (sym (put_front w (inserted ∷ map real us))) ∙ z.is) k

    walk : {ts : L} (a : Symbols) (v : Copy ts us) (zs : Symbols) → put w [] ≡ a ++ put v [] → s ≡ a ++ zs → ts ≡ lexemes_of zs ++ vs → Each (λ vs ys. StopsAt (read_symbols n d) vs (a ++ ys)) v → ⊥
    walk a end zs g k l i = not_there zs (k ∙ ap (λ v. v ++ zs) (sym (g ∙ append-nil a))) (sym (append_cancel_right (t ∷ []) (lexemes_of zs) vs (sym q ∙ l)))
    walk a (take u v) [] g k l i = omega (arith, ap length l, ap length q, copy_length v)
    walk a (take {ts} u v) (real m ∷ zs) g k l i =
        let same : real u ≡ real m = ap real (same_head u m ts (lexemes_of zs ++ vs) l) in
        walk (a ++ real u ∷ []) v zs (g ∙ sym (append_assoc a (real u ∷ []) (put v []))) (k ∙ ap (λ (x : Symbol). a ++ x ∷ zs) (sym same) ∙ sym (append_assoc a (real u ∷ []) zs)) (same_tail u m ts (lexemes_of zs ++ vs) l)
        (each_map (λ vs ys. StopsAt (read_symbols n d) vs (a ++ real u ∷ ys)) (λ vs ys. StopsAt (read_symbols n d) vs ((a ++ real u ∷ []) ++ ys)) v (λ vs ys o. ap (read_symbols n d) (append_assoc a (real u ∷ []) ys) ∙ o) i)
    walk a (take {ts} u v) (inserted ∷ zs) g k l i = by zs l (j a zs k) where
      by : (zs : Symbols) → u ∷ ts ≡ lexemes_of zs ++ vs → Offends a zs → ⊥
      by zs l (offending m {after} o sharp) = sharp (subst (λ (v : Lexeme). IsFront (a ++ real v ∷ [])) (same_head u m ts (lexemes_of after ++ vs) l) (first_token a (real u) (put v []) (subst (λ z. IsFront z) g f.front)))
    walk a (insert o v) [] g k l i = omega (arith, ap length l, ap length q, copy_length v)
    walk a (insert o v) (real m ∷ zs) g k l i =
        no_front n d a (real m) (map real (lexemes_of zs ++ vs)) (fault r.a_token m) (no_limit _ _) (subst (λ (l : L). StopsAt (read_symbols n d) l (a ++ map real l)) l i.0) (first_token a (real m) zs (subst (λ z. IsFront z) k s_front))
    walk a (insert o v) (inserted ∷ zs) g k l i =
        walk (a ++ inserted ∷ []) v zs (g ∙ sym (append_assoc a (inserted ∷ []) (put v []))) (k ∙ sym (append_assoc a (inserted ∷ []) zs)) l
        (each_map (λ vs ys. StopsAt (read_symbols n d) vs (a ++ inserted ∷ ys)) (λ vs ys. StopsAt (read_symbols n d) vs ((a ++ inserted ∷ []) ++ ys)) v (λ vs ys o. ap (read_symbols n d) (append_assoc a (inserted ∷ []) ys) ∙ o) i.1)

    -- The tokens up to the next are no front that has the height.
    pub no_front_there : lexemes_of s ≡ lexemes_of (put w []) ++ t ∷ [] → ⊥
    no_front_there l = walk [] w s refl refl (all_tokens ∙ ap (λ z. z ++ vs) (sym l)) just

-- An insertion behind the symbols: the reader of symbols stops without it at the token that follows.
pub record Inserts (n d : ℕ) (ts : L) (a : Symbols) : Type 0 where
  pub tokens : L
  pub all : ts ≡ lexemes_of a ++ tokens
  pub holds : StopsAt (read_symbols n d) tokens (a ++ map real tokens)

-- the insertions of the reader of tokens
pub inserts : (n d : ℕ) {ts us : L} (w : Copy ts us) → Just (read_symbols n d) w → (a b : Symbols) → put w [] ≡ a ++ (inserted ∷ b) → Inserts n d ts a
inserts n d {us} w j a b e =
    let i = at_insertion (StopsAt (read_symbols n d)) w [] no_insertion j a b e in
    record {
      tokens = i.tokens;
      all = sym (put_lexemes w (map real us) (lexemes_real us)) ∙ ap lexemes_of (put_front w (map real us) ∙ ap (λ z. z ++ map real us) e ∙ append_assoc a (inserted ∷ b) (map real us)) ∙ lexemes_append a (inserted ∷ (b ++ map real us))
          ∙ ap (λ l. lexemes_of a ++ l) (ap (λ z. lexemes_of (z ++ map real us)) i.is ∙ ap lexemes_of (sym (put_front i.copy (map real us))) ∙ put_lexemes i.copy (map real us) (lexemes_real us));
      holds = i.holds;
    }

-- Where reading a text stops, but the turns were enough.
pub record Halt (n d : ℕ) (ts : L) (c : Fault) : Type 0 where
  pub before : Symbols
  pub token : Lexeme
  pub after : L
  pub tokens : ts ≡ (lexemes_of before ++ token ∷ []) ++ after
  pub justified : Justified (before ++ real token ∷ [])
  pub stopped_there : Stopped d c before (token ∷ after)
  pub none : (h : ℕ) (s : Symbols) → IsFrontWithin h s → Justified s → (is_limit c.cause ≡ false) ⊎ (h ≤ d) → lexemes_of s ≡ lexemes_of before ++ token ∷ [] → ⊥
  pub reads : read_symbols n d (before ++ map real (token ∷ after)) ≡ Err (c, map real (token ∷ after))
  pub insertions : (a b : Symbols) → before ≡ a ++ (inserted ∷ b) → Inserts n d ts a
  pub barred : is_limit c.cause ≡ false → offends token ≡ true → (is_mark mark.Colon token.kind ≡ true) ⊎ Shut (read_symbols n d (before ++ (inserted ∷ map real (token ∷ after)))) (map real (token ∷ after))

pub halt : (n d : ℕ) {ts us : L} {c : Fault} → IsText ts → length ts < n → read_tokens n d ts ≡ Err (c, us) → Halt n d ts c
halt n d {ts} {us} {c} text lt q = by (program_copy n d ts) q where
  there : {c : Fault} (us : L) (w : Copy ts us) → read_symbols n d (put w (map real us)) ≡ Err (c, map real us) → Just (read_symbols n d) w → Bar c (read_symbols n d) w → Stopped d c (put w []) us → Halt n d ts c
  there [] w e j z f = absurd (open_text (put w []) f.unclosed text (sym (put_lexemes w [] refl)))
  there (t ∷ vs) w e j z f = record {
    before = put w [];
    token = t;
    after = vs;
    tokens = all_tokens n d w e j z f t vs refl;
    justified = justified_before n d w j t vs refl f.front.within.more (body_ready f.front.within.derives.body (end_ready f.front.within.derives.ends)).paired;
    stopped_there = f;
    none = λ h s x k low. no_front_there n d w e j z f t vs refl h s x k low;
    reads = ap (read_symbols n d) (sym (put_front w (map real (t ∷ vs)))) ∙ e;
    insertions = inserts n d w j;
    barred = λ l o. bar_same (ap (read_symbols n d) (sym (put_front w (inserted ∷ map real (t ∷ vs))))) (z l o);
  }

  by : {o : Outcome L (Sized (List RawStmt))} → Copies false Quiet (read_symbols n d) ts o → o ≡ Err (c, us) → Halt n d ts c
  by (read w e j k z) r = absurd (cc)
  by (copies.stop {c = a} {us = v} w e j k z) r =
      let pairs : ◌≡◌ {A = Fault × L} (a, v) (c, us) = cc in
      subst (λ (x : Fault). Halt n d ts x) (ap (λ (x : Fault × L). x.0) pairs)
      (there v w e j z (stopped (put w []) v (put_front w (map real v)) (program_fails n d (put w (map real v)) (omega (arith, ap length (put_lexemes w (map real v) (lexemes_real v))))) e))

-- Reading a front and a token that nothing takes: it stops at that token, and what it refuses there began earlier.
use Rattle.std.specs.Prelude.{◌≡◌, ℕ, suc, ◌<◌, true, false, Err, List, [], ◌∷◌, ◌++◌, map, Some, None}
use Rattle.std.proofs.Common.{refl, sym, ap, ◌∙◌, subst, append_assoc}
use Rattle.std.proofs.lemmas.List.{append_cancel_right}
use Rattle.cc_ast.specs.declared.reading.Construct.{Construct}
use Rattle.cc_ast.specs.declared.reading.Construct.TheVariants as construct
use Rattle.cc_lexer.specs.declared.word.Word.TheVariants as word
use Rattle.cc_grammar.specs.Symbols.{Kind, Lexeme, Symbol, Symbols, real, inserted, look}
use Rattle.cc_grammar.specs.Symbols as k
use Rattle.cc_grammar.specs.RawTree.{RawStmt}
use Rattle.cc_grammar.specs.Grammar as g
use Rattle.cc_grammar.specs.Grammar.{At}
use Rattle.cc_grammar.specs.Signs.{refused_name}
use Rattle.cc_grammar.specs.Fronts.{IsFront, IsFrontWithin}
use Rattle.cc_grammar.specs.Faults.{any}
use Rattle.cc_grammar.specs.Laws.{is_last}
use Rattle.cc_grammar.specs.Reading.{Outcome, Sized, Fault, goes_on, refused, read_symbols}
use Rattle.cc_grammar.proofs.Clashes.{clash, no_syntax, head_is, tail_is}
use Rattle.cc_grammar.proofs.Shrinks.{reals}
use Rattle.cc_grammar.proofs.Alikeness.Alike.{is_limit}
use Rattle.cc_grammar.proofs.Refusing.NoFront.{no_front}
use Rattle.cc_grammar.proofs.Deletions.{Nest, nest_told}
use Rattle.cc_grammar.proofs.Fails.{Fails, fine, stop, deleted, deep, here, due, anew, Why}
use Rattle.cc_grammar.proofs.Fails as why
use Rattle.cc_grammar.proofs.Fronts.FrontsProgram.{Open, FrontAt, FrontOf, program_fails}
use Rattle.cc_grammar.proofs.Copying.Copies.{L}
use Rattle.cc_grammar.proofs.TokenFronts.{first_token, higher_within}
use Rattle.cc_grammar.proofs.Halts.{Reason, at_next, behind, stopped}

abbrev Read : Type 0
Read = Outcome Symbols (Sized (List RawStmt))

-- in place of a token one that nothing takes
abbrev pub foreign : Lexeme → Lexeme
foreign t = record t { kind = k.stop None }

-- where a list that ends with the token z is cut
data CutAt (p before i : Symbols) (z : Lexeme) : Type 0 where
  at_last : i ≡ real z ∷ [] → CutAt p before i z
  beyond : (b : Symbols) → before ≡ p ++ real z ∷ b → CutAt p before i z
  earlier : (m : Symbol) (others : Symbols) → p ≡ before ++ m ∷ others → i ≡ m ∷ (others ++ real z ∷ []) → CutAt p before i z

cut_at : (p before i : Symbols) (z : Lexeme) → p ++ real z ∷ [] ≡ before ++ i → CutAt p before i z
cut_at [] [] i z e = at_last (sym e)
cut_at [] (m ∷ before) i z e = beyond before (ap (λ (w : Symbol). w ∷ before) (sym (head_is (real z) m [] (before ++ i) e)))
cut_at (m ∷ p) [] i z e = earlier m p refl (sym e)
cut_at (m ∷ p) (u ∷ before) i z e = by (cut_at p before i z (tail_is m u (p ++ real z ∷ []) (before ++ i) e)) where
  same : m ≡ u
  same = head_is m u (p ++ real z ∷ []) (before ++ i) e

  by : CutAt p before i z → CutAt (m ∷ p) (u ∷ before) i z
  by (at_last q) = at_last q
  by (beyond b q) = beyond b (ap (λ (w : Symbol). w ∷ before) (sym same) ∙ ap (λ l. m ∷ l) q)
  by (earlier w others q r) = earlier w others (ap (λ l. m ∷ l) q ∙ ap (λ (v : Symbol). v ∷ (before ++ w ∷ others)) same) r

no_last : (p : Symbols) (z : Lexeme) (b : Symbols) → Open (p ++ real z ∷ b) → is_last z.kind ≡ false
no_last [] z b h = h.0
no_last (real t ∷ p) z b h = no_last p z b h.1
no_last (inserted ∷ p) z b h = no_last p z b h

module _ (n d : ℕ) (p : Symbols) (t : Lexeme) (front : IsFront p) (lt : reals (p ++ real (foreign t) ∷ []) < n) where
  -- reading stops at the token
  at_foreign : {c : Fault} {i : Symbols} → is_limit c.cause ≡ false → read_symbols n d (p ++ real (foreign t) ∷ []) ≡ Err (c, i) → {j : ℕ} → FrontAt j (p ++ real (foreign t) ∷ []) (here i) → i ≡ real (foreign t) ∷ []
  at_foreign {c} {i} l e f = by (cut_at p f.before i (foreign t) f.is) where
    by : CutAt p f.before i (foreign t) → i ≡ real (foreign t) ∷ []
    by (at_last q) = q
    by (beyond b q) = clash (no_last p (foreign t) b (subst (λ z. Open z) q f.unclosed))
    by (earlier m others q r) = absurd (no_front n d f.before m (others ++ real (foreign t) ∷ []) c l
        (ap (read_symbols n d) (sym (append_assoc f.before (m ∷ others) (real (foreign t) ∷ [])) ∙ ap (λ z. z ++ real (foreign t) ∷ []) (sym q)) ∙ e ∙ ap (λ z. Err (c, z)) r)
        (first_token f.before m others (subst (λ z. IsFront z) q front)))

  pub stops_at : {c : Fault} {i : Symbols} → is_limit c.cause ≡ false → read_symbols n d (p ++ real (foreign t) ∷ []) ≡ Err (c, i) → i ≡ real (foreign t) ∷ []
  stops_at {c} {i} l e = by (program_fails n d (p ++ real (foreign t) ∷ []) lt) e where
    by : {o : Read} → Fails (suc d) (FrontOf (p ++ real (foreign t) ∷ [])) o → o ≡ Err (c, i) → i ≡ real (foreign t) ∷ []
    by fine q = absurd (cc)
    by (stop {c = a} {i = ys} m o j le w h) q =
        let pairs : ◌≡◌ {A = Fault × Symbols} (a, ys) (c, i) = cc in let same = ap (λ (z : Fault × Symbols). z.1) pairs in at_foreign l e (subst (λ z. FrontAt j (p ++ real (foreign t) ∷ []) (here z)) same h)
    by (deleted {c = a} {i = ys} r o m j le w g u h) q =
        let pairs : ◌≡◌ {A = Fault × Symbols} (a, ys) (c, i) = cc in let same = ap (λ (z : Fault × Symbols). z.1) pairs in at_foreign l e (subst (λ z. FrontAt u (p ++ real (foreign t) ∷ []) (here z)) same h)
    by (deep {c = a} {i = ys} m o j le h v s r u w) q =
        let pairs : ◌≡◌ {A = Fault × Symbols} (a, ys) (c, i) = cc in clash (ap is_limit (sym m) ∙ ap (λ (z : Fault × Symbols). is_limit z.0.cause) pairs ∙ l)

-- What is refused there began earlier, at the last token before, which is a name, or at a `delete`.
pub data Foreign (d : ℕ) (p : Symbols) (c : Fault) : Type 0 where
  at_name : (q : Symbols) (u : Lexeme) {v : List ℕ} {x : Construct} → p ≡ q ++ real u ∷ [] → c ≡ record { cause = refused x; place = u.place } → u.kind ≡ k.name v → refused_name v ≡ Some x → IsFront (q ++ any k.variable u ∷ []) → Foreign d p c
  at_delete : (q : Symbols) (u : Lexeme) (us : L) → p ≡ q ++ real u ∷ map real us → c ≡ record { cause = refused construct.DeleteName; place = u.place } → u.kind ≡ k.word word.Delete → ((ws : Symbols) → Nest 0 (map real us ++ ws) ws)
      → IsFrontWithin d (q ++ any k.operand u ∷ []) → ((v : Lexeme) → goes_on v ≡ true → IsFront (p ++ real v ∷ [])) → Foreign d p c

-- what stands before the last symbol
before_last : (p q : Symbols) (u z : Symbol) (us : Symbols) → p ++ z ∷ [] ≡ q ++ u ∷ (us ++ z ∷ []) → p ≡ q ++ u ∷ us
before_last p q u z us e = append_cancel_right p (q ++ u ∷ us) (z ∷ []) (e ∙ sym (append_assoc q (u ∷ us) (z ∷ [])))

module _ (d : ℕ) (p : Symbols) (t : Lexeme) {c : Fault} {x : Construct} (q : c.cause ≡ refused x) where
  because : Why (FrontOf (p ++ real (foreign t) ∷ [])) c (real (foreign t) ∷ []) → Foreign d p c
  because (why.by_token e) = no_syntax (sym (ap (λ (z : Fault). z.cause) e) ∙ q)
  because (why.by_variable e j w) = no_syntax (sym (ap (λ (z : Fault). z.cause) e) ∙ q)
  because (why.by_operand e j u w v) = no_syntax (sym (ap (λ (z : Fault). z.cause) e) ∙ q)
  because (why.by_element e m j w) = absurd (cc)
  because (why.by_statement e m j w) = absurd (cc)
  because (why.by_name {n = v} {x = y} e (g.at_token u m) f o j w) = at_name w.before u (before_last p w.before (real u) (real (foreign t)) [] w.is) e m f (record { height = j; within = w.front })
  because (why.by_key e a m o j w) = clash (sym o)

  reasoned : Reason d c p (p ++ real (foreign t) ∷ []) (real (foreign t) ∷ []) → Foreign d p c
  reasoned (at_next w y) = because y
  reasoned (behind {vs} e (g.at_token u m) nest j le w onwards) =
      let h = nest_told nest in
      let is : p ≡ w.before ++ real u ∷ map real h.tokens = before_last p w.before (real u) (real (foreign t)) (map real h.tokens) (w.is ∙ ap (λ l. w.before ++ real u ∷ l) h.is) in
      at_delete w.before u h.tokens is e m (λ ws. h.moved ws) (higher_within le w.front) (λ v r. going h.tokens is v (onwards v r)) where
        going : (us : L) → p ≡ w.before ++ real u ∷ map real us → (v : Lexeme) → {o : u.kind ≡ k.word word.Delete} → (j : ℕ) × FrontOf (p ++ real (foreign t) ∷ []) j (anew u o us v vs) → IsFront (p ++ real v ∷ [])
        going us is v y =
            let f = y.1 in
            let same : f.before ≡ w.before = append_cancel_right f.before w.before (real u ∷ vs) (sym f.is ∙ w.is) in
            record { height = y.0; within = subst (λ l. IsFrontWithin y.0 l) (ap (λ l. l ++ real u ∷ (map real us ++ real v ∷ [])) same ∙ sym (append_assoc w.before (real u ∷ map real us) (real v ∷ [])) ∙ ap (λ l. l ++ real v ∷ []) (sym is)) f.front }

-- What reading refuses behind a front, at a token that nothing takes.
pub refused_at_foreign : (n d : ℕ) (p : Symbols) (t : Lexeme) → IsFront p → reals (p ++ real (foreign t) ∷ []) < n → {c : Fault} {i : Symbols} {x : Construct} → c.cause ≡ refused x → read_symbols n d (p ++ real (foreign t) ∷ []) ≡ Err (c, i) → Foreign d p c
refused_at_foreign n d p t front lt {c} {i} q e =
    let l : is_limit c.cause ≡ false = ap is_limit q in
    let s = stopped {d = d} {c = c} p (foreign t ∷ []) refl (program_fails n d (p ++ real (foreign t) ∷ []) lt) (e ∙ ap (λ z. Err (c, z)) (stops_at n d p t front lt l e)) in
    reasoned d p t q (s.why l)

-- What is derived within the depth, with justified insertions, is read.
use Rattle.std.specs.Prelude.{◌≡◌, ℕ, ◌<◌, ◌≤◌, false, List, [], ◌∷◌, ◌++◌, map, length, Ok}
use Rattle.std.proofs.Common.{refl, sym, ap, ◌∙◌, subst, arith, append-nil, length-append, inr}
use Rattle.cc_grammar.specs.Symbols.{Lexeme, Symbols, real, inserted, lexemes_of}
use Rattle.cc_grammar.specs.Symbols as k
use Rattle.cc_grammar.specs.RawTree.{RawStmt}
use Rattle.cc_grammar.specs.Grammar.{At, at_token}
use Rattle.cc_grammar.specs.Fronts.{Derives, Justified, ReadsWithin}
use Rattle.cc_grammar.specs.Laws.{IsText, last, before, IsComplete, is_inner}
use Rattle.cc_grammar.specs.Reading.{Outcome, Sized, read_symbols, read_tokens}
use Rattle.cc_grammar.proofs.Clashes.{clash, same_head, same_tail, nothing_some, no_insertion}
use Rattle.cc_grammar.proofs.Mono.{higher_body}
use Rattle.cc_grammar.proofs.Completeness.Complete.{program_read}
use Rattle.cc_grammar.proofs.OneReading.{one_from}
use Rattle.cc_grammar.proofs.MovesDerived.{body_moves}
use Rattle.cc_grammar.proofs.Soundness.Sound.{Ended, symbols_sound, ended_at}
use Rattle.cc_grammar.proofs.Copying.Paired.{end_ready, body_ready}
use Rattle.cc_grammar.proofs.Copying.Copies.{L, Copy, put, put_lexemes, lexemes_real, Just, Copies, read, Quiet}
use Rattle.cc_grammar.proofs.Copying.Copies as copy
use Rattle.cc_grammar.proofs.Copying.CopyPrograms.{program_copy}
use Rattle.cc_grammar.proofs.Soundness.SoundTokens.{justified}
use Rattle.cc_grammar.proofs.TokenFronts.{lexemes_append, part_front_within}
use Rattle.cc_grammar.proofs.Halts.{Halt, halt}

-- nothing stands behind the end
alone : (ls : L) (t : Lexeme) (us : L) (u : Lexeme) → u ∷ [] ≡ ls ++ t ∷ us → us ≡ []
alone [] t us u q = sym (same_tail u t [] us q)
alone (m ∷ ls) t us u q = absurd (omega (arith, ap length q, length-append ls (t ∷ us)))

text_end : (ts ls : L) (t : Lexeme) (us : L) → ls ++ t ∷ us ≡ ts → t.kind ≡ k.end → IsText ts → us ≡ []
text_end ts ls t us q e (last {t = u} l) = alone ls t us u (sym q)
text_end ts [] t us q e (before {t = u} {ts = vs} i h) =
    let equal : t ≡ u = same_head t u us vs q in clash (sym i ∙ ap (λ (z : Lexeme). is_inner z.kind) (sym equal) ∙ ap is_inner e)
text_end ts (m ∷ ls) t us q e (before {t = u} {ts = vs} i h) = text_end vs ls t us (same_tail m u (ls ++ t ∷ us) vs q) e h

end_token : {xs ys : Symbols} → At k.end xs ys → (t : Lexeme) × (t.kind ≡ k.end) × (xs ≡ real t ∷ ys)
end_token (at_token t e) = (t, e, refl)

-- the text is read to its end
pub whole_text : (d : ℕ) {ts : L} (xs : Symbols) (a : Sized (List RawStmt)) (us : L) → IsText ts → lexemes_of xs ≡ ts → Ended d xs a (map real us) → us ≡ []
whole_text d {ts} xs a us text l x =
    let m = body_moves x.body in let t = end_token x.ends in
    text_end ts (lexemes_of m.front.before) t.0 us (ap (λ (v : L). lexemes_of m.front.before ++ t.0 ∷ v) (sym (lexemes_real us)) ∙ sym (lexemes_append m.front.before (real t.0 ∷ map real us))
    ∙ ap lexemes_of (ap (λ z. m.front.before ++ z) (sym t.2) ∙ sym (m.front.prefix x.last) ∙ m.front.is) ∙ l) t.1 text

-- the reader of tokens takes just these symbols
pub record Taken (n d : ℕ) (ts : L) (xs : Symbols) : Type 0 where
  pub copy : Copy ts []
  pub just : Just (read_symbols n d) copy
  pub same : xs ≡ put copy []
  pub tree : Sized (List RawStmt)
  pub reads : read_symbols n d (put copy []) ≡ Ok (tree, [])
  pub is : read_tokens n d ts ≡ Ok (tree, [])

taking : {turns d h : ℕ} {ts : L} {b : List RawStmt} → IsText ts → length ts < turns → (p : ReadsWithin h ts b) → h ≤ d → {o : Outcome L (Sized (List RawStmt))} → read_tokens turns d ts ≡ o → Copies false Quiet (read_symbols turns d) ts o → Taken turns d ts p.symbols
taking {turns} {d} {h} {ts} {b} text lt p le q (read {a} {us} w e j k z) =
    let xs = put w (map real us) in
    let x : Ended d xs a (map real us) = ended_at d xs a (map real us) (read_symbols turns d xs) (symbols_sound turns d xs) (e (map real us) (lexemes_real us)) in
    by us q w e j (whole_text d xs a us text (put_lexemes w (map real us) (lexemes_real us)) x) where
      by : (us : L) → read_tokens turns d ts ≡ Ok (a, us) → (w : Copy ts us) → ((zs : Symbols) → Quiet zs us → read_symbols turns d (put w zs) ≡ Ok (a, zs)) → Just (read_symbols turns d) w → us ≡ [] → Taken turns d ts p.symbols
      by (u ∷ us) q w e j n = absurd (nothing_some u us (sym n))
      by [] q w e j n =
          let ys = put w [] in
          let x : Ended d ys a [] = ended_at d ys a [] (read_symbols turns d ys) (symbols_sound turns d ys) (e [] refl) in
          record {
            copy = w;
            just = j;
            same = one_from [] p.symbols ys (p.tokens ∙ sym (put_lexemes w [] refl)) p.justified (justified turns d w [] no_insertion refl j (body_ready x.body (end_ready x.ends)).paired)
                (record { height = h; tree = b; derives = p.derives }) (record { height = a.1; tree = a.0; derives = record { last = x.last; body = x.body; ends = x.ends } });
            tree = a;
            reads = e [] refl;
            is = q;
          }
taking {turns} {d} {h} {ts} {b} text lt p le q (copy.stop {c} {us} w e j k z) = absurd (by (halt turns d text lt q)) where
  by : Halt turns d ts c → ⊥
  by s =
      let part = part_front_within p.symbols [] (subst (λ z. Justified z) (sym (append-nil p.symbols)) p.justified) (lexemes_of s.before ++ s.token ∷ []) s.after (p.tokens ∙ s.tokens) d
      (record { more = []; tree = b; derives = subst (λ z. Derives d z b) (sym (append-nil p.symbols)) (record { last = p.derives.last; body = higher_body d le p.derives.body; ends = p.derives.ends }) }) in
      s.none d part.symbols part.front part.justified (inr (omega arith)) part.tokens

pub taken : {turns d h : ℕ} {ts : L} {b : List RawStmt} → IsText ts → length ts < turns → (p : ReadsWithin h ts b) → h ≤ d → Taken turns d ts p.symbols
taken {turns} {d} {ts} text lt p le = taking text lt p le refl (program_copy turns d ts)

pub complete : IsComplete
complete turns d h ts b text lt p le =
    let t = taken text lt p le in
    let r = program_read turns d h (omega (arith, ap length p.tokens)) le p.derives in
    let both : ◌≡◌ {A = Outcome Symbols (Sized (List RawStmt))} (Ok (t.tree, [])) (Ok ((b, r.height), [])) = sym t.reads ∙ ap (read_symbols turns d) (sym t.same) ∙ r.is in
    let pairs : ◌≡◌ {A = Sized (List RawStmt) × Symbols} (t.tree, []) ((b, r.height), []) = cc in
    record { height = r.height; low = r.low; is = t.is ∙ ap (λ (v : Sized (List RawStmt)). Ok (v, [])) (ap (λ (v : Sized (List RawStmt) × Symbols). v.0) pairs) }

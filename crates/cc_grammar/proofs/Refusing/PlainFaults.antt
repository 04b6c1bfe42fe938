-- Where reading stops, but not at a refused construct, no such construct begins there or earlier.
use Rattle.std.specs.Prelude.{◌≡◌, ℕ, ◌+◌, ◌<◌, ◌≤◌, Bool, true, false, is_some, List, [], ◌∷◌, ◌++◌, map, length, Some}
use Rattle.std.proofs.Common.{refl, sym, ap, ◌∙◌, subst, arith, append_assoc, append-nil, length-append}
use Rattle.std.proofs.lemmas.List.{append_cancel_left, map-append}
use Rattle.cc_ast.specs.declared.reading.Construct.{Construct}
use Rattle.cc_lexer.specs.declared.token.Mark.TheVariants as mark
use Rattle.cc_grammar.specs.Symbols.{Kind, Lexeme, Symbol, Symbols, real, inserted, lexemes_of, look, is_mark}
use Rattle.cc_grammar.specs.Symbols as k
use Rattle.cc_grammar.specs.Signs.{refused_kind, refused_name, key_of}
use Rattle.cc_grammar.specs.Fronts.{IsFront}
use Rattle.cc_grammar.specs.Faults.{any, next_is, Begins, itself, regexp, hole, function, name, accessor, delete, RefusedAt}
use Rattle.cc_grammar.specs.Laws.{IsText}
use Rattle.cc_grammar.specs.Reading.{Fault, fault, either, is_remedy, refused, read_symbols}
use Rattle.cc_grammar.specs.Reading as r
use Rattle.cc_grammar.proofs.Clashes.{clash, never, same_head, same_tail}
use Rattle.cc_grammar.proofs.Alikeness.Alike.{is_limit}
use Rattle.cc_grammar.proofs.Refusing.NoFront.{no_front, too_long}
use Rattle.cc_grammar.proofs.Deletions.{Nest}
use Rattle.cc_grammar.proofs.Copying.Paired.{Paired, end_ready, body_ready}
use Rattle.cc_grammar.proofs.Fails.{Why}
use Rattle.cc_grammar.proofs.Fails as why
use Rattle.cc_grammar.proofs.Fronts.FrontsProgram.{FrontOf}
use Rattle.cc_grammar.proofs.Copying.Copies.{L}
use Rattle.cc_grammar.proofs.Soundness.SoundTokens.{begun_behind}
use Rattle.cc_grammar.proofs.TokenFronts.{lexemes_append, first_token}
use Rattle.cc_grammar.proofs.Halts.{Halt, Reason, at_next, behind, is_plain}
use Rattle.cc_grammar.proofs.Swapping.Swap.{Next, Pair, Fitting, anything}
use Rattle.cc_grammar.proofs.Swapping.Swap as swap
use Rattle.cc_grammar.proofs.Swapping.SwapSites.{change}
use Rattle.cc_grammar.proofs.Refusing.Verdicts.{Said, said_refused, said_limited, said_passed, said_fallen, said, verdict}
use Rattle.cc_grammar.proofs.GoesOn.{pair_delete}
use Rattle.cc_grammar.proofs.Refusing.Refutations.{Deleting, deleting, not_fresh, slash_pair, key_pair, comma_pair, function_pair, label_pair, name_pair, next_look, no_remedy}
use Rattle.cc_grammar.proofs.Settled.{Answered, by_name, by_key, by_delete, Settled, answered, same_end, firm_end, settled, deleted_fits, operand_ends, accessor_names}
use Rattle.cc_grammar.proofs.Firsts.{names}

-- the construct begins behind these symbols, at this token
pub begins_by : {p q : Symbols} {t u : Lexeme} {ts us : L} {x : Construct} → q ≡ p → t ≡ u → ts ≡ us → Begins q t ts x → Begins p u us x
begins_by {p} {q} {t} {u} {ts} {us} {x} e f g b = subst (λ (z : L). Begins p u z x) g (subst (λ (z : Lexeme). Begins p z ts x) f (subst (λ z. Begins z t ts x) e b))

pub told : {n d : ℕ} {ts : L} {f : Fault} {text : IsText ts} {enough : length ts < n} {s : Halt n d ts f} {q : Symbols} {t : Lexeme} {after : L} {x : Construct} → Answered n d ts f text enough s q t after x → (f.cause ≡ refused x) × (f.place ≡ t.place)
told (by_name e h v due o m p) = (m, p)
told (by_key e h o m p) = (m, p)
told (by_delete w e g o m p) = (m, p)

module _ (n d : ℕ) (ts : L) (f : Fault) (text : IsText ts) (enough : length ts < n) (s : Halt n d ts f) (plain : is_plain f.cause ≡ true) where
  no_refusal : {x : Construct} → f.cause ≡ refused x → ⊥
  no_refusal e = clash (sym plain ∙ ap is_plain e)

  -- a token that refuses itself
  firm_here : {x : Construct} → refused_kind s.token.kind ≡ Some x → is_limit f.cause ≡ false → ⊥
  firm_here h l = by (s.stopped_there.why l) where
    there : (o : r.Due) → f ≡ fault o s.token → ⊥
    there o e = no_refusal (ap (λ (z : Fault). z.cause) e ∙ ap (λ z. either z (r.refused_there o s.token.kind)) h)

    because : Why (FrontOf (s.before ++ map real (s.token ∷ s.after))) f (map real (s.token ∷ s.after)) → ⊥
    because (why.by_token e) = there r.a_token e
    because (why.by_variable e j w) = there r.a_variable e
    because (why.by_operand e j u w v) = there r.an_operand e
    because (why.by_element e m j w) = no_refusal (ap (λ (z : Fault). z.cause) e)
    because (why.by_statement e m j w) = no_refusal (ap (λ (z : Fault). z.cause) e)
    because (why.by_name e o v m j w) = no_refusal (ap (λ (z : Fault). z.cause) e)
    because (why.by_key e o v m j w) = no_refusal (ap (λ (z : Fault). z.cause) e)

    by : Reason d f s.before (s.before ++ map real (s.token ∷ s.after)) (map real (s.token ∷ s.after)) → ⊥
    by (at_next w y) = because y
    by (behind e o m j le w y) = no_refusal (ap (λ (z : Fault). z.cause) e)

  -- with the token there is a front where reading comes to a limit
  deeper : is_limit f.cause ≡ true → IsFront (s.before ++ real s.token ∷ [])
  deeper l = s.stopped_there.deeper l s.token s.after refl

  free_here : {p : k.Part} {c : Construct} → Pair p s.token.kind true c anything → IsFront (s.before ++ any p s.token ∷ []) → ¬ (IsFront (s.before ++ real s.token ∷ [])) → ⊥
  free_here {p} {c} w due sharp = by (said (map real s.after) (verdict (change s.token p s.token.kind true c anything n) w d s.before due) tt s.reads) where
    by : Said (change s.token p s.token.kind true c anything n) d s.before f (map real s.after) (map real (s.token ∷ s.after)) → ⊥
    by (said_refused m o) = no_refusal m
    by (said_limited l z) = sharp (deeper l)
    by (said_passed free z) = too_long z
    by (said_fallen o l z) = absurd (cc)

  bound_here : {p : k.Part} {c : Construct} {z : Next} → Pair p s.token.kind false c z → IsFront (s.before ++ any p s.token ∷ []) → Fitting z n (map real s.after) → ¬ (is_limit f.cause ≡ true) → (z ≡ swap.deleted → is_limit f.cause ≡ false → ⊥) → ⊥
  bound_here {p} {c} {z} w due fits high other = by (said (map real s.after) (verdict (change s.token p s.token.kind false c z n) w d s.before due) fits s.reads) where
    by : Said (change s.token p s.token.kind false c z n) d s.before f (map real s.after) (map real (s.token ∷ s.after)) → ⊥
    by (said_refused m o) = no_refusal m
    by (said_limited l y) = high l
    by (said_passed free y) = never free
    by (said_fallen o l y) = other o l

  -- no name comes to a limit
  no_name_limit : names s.token.kind ≡ true → ¬ (is_limit f.cause ≡ true)
  no_name_limit e l = clash (sym e ∙ (s.stopped_there.raised l s.token s.after refl).unnamed)

  delete_here : Deleting s.before s.token s.after → ⊥
  delete_here w = bound_here (pair_delete s.token w.kind) w.due
      (subst (λ (z : L). Fitting swap.deleted n (map real z)) (sym w.is) (deleted_fits w n w.next w.others (operand_ends w) (omega (arith, enough, ap length w.is, ap length s.tokens, length_tokens))))
      (λ l. clash (sym ((s.stopped_there.raised l s.token s.after refl).spares w.kind (map real (w.next ∷ w.others)) nest) ∙ operand_ends w))
      (λ o l. no_front n d s.before (real s.token) (map real s.after) f l s.reads (first_token s.before (real s.token) (map real w.operand) w.front)) where
        nest : Nest 0 (map real s.after) (map real (w.next ∷ w.others))
        nest = subst (λ z. Nest 0 z (map real (w.next ∷ w.others))) (sym (ap (λ (l : L). map real l) w.is ∙ map-append real w.operand (w.next ∷ w.others))) (w.nest (map real (w.next ∷ w.others)))

        length_tokens : length ((lexemes_of s.before ++ s.token ∷ []) ++ s.after) ≡ length (lexemes_of s.before ++ s.token ∷ []) + length s.after
        length_tokens = length-append (lexemes_of s.before ++ s.token ∷ []) s.after

  name_here : {x : Construct} {v : List ℕ} → s.token.kind ≡ k.name v → refused_name v ≡ Some x → IsFront (s.before ++ any k.variable s.token ∷ []) → (next_is (is_mark mark.Colon) s.after ≡ true → ¬ (IsFront (s.before ++ real s.token ∷ []))) → ⊥
  name_here h v due colon = by (next_is (is_mark mark.Colon) s.after) refl where
    last : is_remedy (look (map real s.after)).kind ≡ false
    last = by s.after s.tokens where
      by : (us : L) → ts ≡ (lexemes_of s.before ++ s.token ∷ []) ++ us → is_remedy (look (map real us)).kind ≡ false
      by [] e = refl
      by (u ∷ us) e = no_remedy text (lexemes_of s.before ++ s.token ∷ []) u us e

    by : (b : Bool) → next_is (is_mark mark.Colon) s.after ≡ b → ⊥
    by true e = free_here (label_pair s.token.kind h v) due (colon e)
    by false e = bound_here (name_pair s.token.kind h v) due (sym (next_look (is_mark mark.Colon) s.after refl) ∙ e, last) (no_name_limit (ap names h)) (λ o l. absurd (cc))

  here : {x : Construct} → Begins s.before s.token s.after x → ⊥
  here (itself h sharp) = by (is_limit f.cause) refl where
    by : (b : Bool) → is_limit f.cause ≡ b → ⊥
    by true l = sharp (deeper l)
    by false l = firm_here h l
  here (regexp h due sharp) = free_here (slash_pair s.token.kind h) due sharp
  here (hole h due sharp) = free_here (comma_pair s.token.kind h) due sharp
  here (function h due sharp) = free_here (function_pair s.token.kind h) due sharp
  here (name h v due colon) = name_here h v due colon
  here (accessor h due v) = bound_here (key_pair s.token.kind h) due (sym (next_look (λ x. is_some (key_of x)) s.after refl) ∙ v) (no_name_limit (accessor_names s.token.kind h)) (λ o l. absurd (cc))
  here (delete h m y us vs u kind due is x v front sharp) = delete_here (deleting s.before s.token us vs u kind due is x v front sharp)

  -- an insertion stands before a token that refuses itself
  firm_behind : (q : Symbols) {x : Construct} → s.before ≡ q ++ (inserted ∷ []) → refused_kind s.token.kind ≡ Some x → ⊥
  firm_behind q {x} e h = by (is_limit f.cause) refl where
    high : IsFront (s.before ++ real s.token ∷ []) → ⊥
    high y = clash (sym (begun_behind q (real s.token ∷ y.within.more) (subst (λ z. Paired z)
        (ap (λ z. (z ++ real s.token ∷ []) ++ y.within.more) e ∙ ap (λ z. z ++ y.within.more) (append_assoc q (inserted ∷ []) (real s.token ∷ [])) ∙ append_assoc q (inserted ∷ real s.token ∷ []) y.within.more)
        (body_ready y.within.derives.body (end_ready y.within.derives.ends)).paired)) ∙ not_fresh s.token.kind x h)

    by : (b : Bool) → is_limit f.cause ≡ b → ⊥
    by true l = high (deeper l)
    by false l = firm_here h l

  -- No refused construct begins before reading stops, or where it stops.
  pub none_begins : {i : ℕ} {x : Construct} → i ≤ length (lexemes_of s.before) → ¬ (RefusedAt ts i x)
  none_begins {x} le v = by (settled n d ts f text enough s v.symbols v.token v.after splits v.front.justified v.front.front (omega (arith, le, ap length v.front.tokens, v.splits.count)) v.begins) where
    splits : ts ≡ lexemes_of v.symbols ++ v.token ∷ v.after
    splits = v.splits.is ∙ ap (λ z. z ++ v.token ∷ v.after) (sym v.front.tokens)

    from : lexemes_of s.before ≡ lexemes_of v.symbols → v.token ∷ v.after ≡ s.token ∷ s.after
    from e = append_cancel_left (lexemes_of v.symbols) (v.token ∷ v.after) (s.token ∷ s.after) (sym splits ∙ s.tokens ∙ append_assoc (lexemes_of s.before) (s.token ∷ []) s.after ∙ ap (λ z. z ++ s.token ∷ s.after) e)

    by : Settled n d ts f text enough s v.symbols v.token v.after x → ⊥
    by (answered y) = no_refusal (told y).0
    by (same_end e) = let o = from (ap lexemes_of e) in here (begins_by (sym e) (same_head v.token s.token v.after s.after o) (same_tail v.token s.token v.after s.after o) v.begins)
    by (firm_end e h) = let o = from (ap lexemes_of e ∙ lexemes_append v.symbols (inserted ∷ []) ∙ append-nil (lexemes_of v.symbols)) in
        firm_behind v.symbols e (ap (λ (z : Lexeme). refused_kind z.kind) (sym (same_head v.token s.token v.after s.after o)) ∙ h)

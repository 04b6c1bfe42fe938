-- What is derived within the depth has no fault.
use Rattle.std.specs.Prelude.{◌≡◌, ℕ, suc, ◌+◌, ◌≤◌, true, is_some, List, [], ◌∷◌, ◌++◌, map, length}
use Rattle.std.proofs.Common.{sym, ap, ◌∙◌, subst, arith, append_assoc, append-nil, length-append}
use Rattle.cc_ast.specs.declared.reading.Construct.{Construct}
use Rattle.cc_grammar.specs.Symbols.{Lexeme, real, inserted, lexemes_of}
use Rattle.cc_grammar.specs.RawTree.{RawStmt}
use Rattle.cc_grammar.specs.Signs.{key_of}
use Rattle.cc_grammar.specs.Fronts.{Derives, IsFrontWithin, Justified, ReadsWithin}
use Rattle.cc_grammar.specs.Faults.{next_is, RefusedAt}
use Rattle.cc_grammar.specs.Laws.{IsText, last, before, is_last, HasNoFault}
use Rattle.cc_grammar.specs.Reading.{syntax, depth, spent, refused}
use Rattle.cc_grammar.proofs.Clashes.{clash, same_head, same_tail}
use Rattle.cc_grammar.proofs.Mono.{higher_body}
use Rattle.cc_grammar.proofs.Copying.Copies.{L, lexemes_real}
use Rattle.cc_grammar.proofs.TokenFronts.{lexemes_append, part_front, part_front_within}
use Rattle.cc_grammar.proofs.Halts.{inserts}
use Rattle.cc_grammar.proofs.Completeness.CompleteTokens.{Taken, taken}
use Rattle.cc_grammar.proofs.Refusing.Refutations.{Course, Rest, at_last, one_more_last, one_less_last, name_last, key_last, delete_last, delete_within, examined}

nothing_else : (a : L) (t : Lexeme) → [] ≡ a ++ t ∷ [] → ⊥
nothing_else [] t e = cc
nothing_else (m ∷ a) t e = cc

no_text : {ts : L} → IsText ts → [] ≡ ts → ⊥
no_text (last l) e = cc
no_text (before i h) e = cc

-- the last token of a text
text_last : {ts : L} → IsText ts → (a : L) (t : Lexeme) → ts ≡ a ++ t ∷ [] → is_last t.kind ≡ true
text_last (last {t = u} l) [] t e = ap (λ (z : Lexeme). is_last z.kind) (sym (same_head u t [] [] e)) ∙ l
text_last (last {t = u} l) (m ∷ a) t e = absurd (nothing_else a t (same_tail u m [] (a ++ t ∷ []) e))
text_last (before {t = u} {ts} i h) [] t e = absurd (no_text h (sym (same_tail u t ts [] e)))
text_last (before {t = u} {ts} i h) (m ∷ a) t e = text_last h a t (same_tail u m ts (a ++ t ∷ []) e)

module _ (d h : ℕ) (ts : L) (b : List RawStmt) (text : IsText ts) (p : ReadsWithin h ts b) (le : h ≤ d) where
  course : Taken (suc (length ts)) d ts p.symbols → Course (suc (length ts)) d ts p.symbols []
  course t = record {
    text = text;
    enough = omega arith;
    tokens = sym p.tokens ∙ sym (append-nil (lexemes_of p.symbols));
    front = record { height = h; within = record { more = []; tree = b; derives = subst (λ z. Derives h z b) (sym (append-nil p.symbols)) p.derives } };
    insertions = λ u v e. inserts (suc (length ts)) d t.copy t.just u v (sym t.same ∙ e);
  }

  none_refused : {i : ℕ} {x : Construct} → ¬ (RefusedAt ts i x)
  none_refused {x} v = by (examined (suc (length ts)) d ts p.symbols [] (course (taken text (omega arith) p le)) v.symbols v.token v.after splits v.front.justified v.front.front (omega (arith, length_is, ap length p.tokens)) v.begins) where
    splits : ts ≡ lexemes_of v.symbols ++ v.token ∷ v.after
    splits = v.splits.is ∙ ap (λ z. z ++ v.token ∷ v.after) (sym v.front.tokens)

    length_is : length ts ≡ length (lexemes_of v.symbols) + suc (length v.after)
    length_is = omega (arith, ap length splits, length-append (lexemes_of v.symbols) (v.token ∷ v.after))

    count : (us : L) → p.symbols ≡ v.symbols ++ real v.token ∷ map real us → length ts ≡ length (lexemes_of v.symbols) + suc (length us)
    count us e = omega (arith, ap length p.tokens, ap length (ap lexemes_of e ∙ lexemes_append v.symbols (real v.token ∷ map real us)), length-append (lexemes_of v.symbols) (v.token ∷ lexemes_of (map real us)), ap length (lexemes_real us))

    ended : p.symbols ≡ v.symbols ++ real v.token ∷ [] → ts ≡ lexemes_of v.symbols ++ v.token ∷ []
    ended e = sym p.tokens ∙ ap lexemes_of e ∙ lexemes_append v.symbols (real v.token ∷ [])

    no_next : (us : L) → length us ≡ 0 → next_is (λ x. is_some (key_of x)) us ≡ true → ⊥
    no_next [] l e = clash (sym e)
    no_next (u ∷ us) l e = omega (arith, l)

    by : Rest p.symbols [] v.symbols v.token v.after x → ⊥
    by (at_last e) = omega (arith, ap length p.tokens, ap length (ap lexemes_of e), length_is)
    by (one_more_last e o) = omega (arith, ap length p.tokens, ap length (ap lexemes_of e ∙ lexemes_append v.symbols (inserted ∷ []) ∙ append-nil (lexemes_of v.symbols)), length_is)
    by (one_less_last e) = omega (arith, ap length p.tokens, ap length (ap lexemes_of e ∙ lexemes_append p.symbols (inserted ∷ []) ∙ append-nil (lexemes_of p.symbols)), length_is)
    by (name_last e kind w due o) = clash (sym (text_last text (lexemes_of v.symbols) v.token (ended e)) ∙ ap is_last kind)
    by (key_last e o kind due w) = no_next v.after (omega (arith, length_is, count [] e)) w
    by (delete_last w e o) = omega (arith, length_is, count w.operand e, ap length w.is, length-append w.operand (w.next ∷ w.others))
    by (delete_within w m some more others e o z y) = absurd (cc)

  whole : IsFrontWithin d p.symbols
  whole = record { more = []; tree = b; derives = subst (λ z. Derives d z b) (sym (append-nil p.symbols)) (record { last = p.derives.last; body = higher_body d le p.derives.body; ends = p.derives.ends }) }

  justified : Justified (p.symbols ++ [])
  justified = subst (λ z. Justified z) (sym (append-nil p.symbols)) p.justified

pub no_fault : HasNoFault
no_fault d h n ts b (refused x) text p le v = none_refused d h ts b text p le v
no_fault d h n ts b syntax text p le v = v.wrong (part_front p.symbols [] (justified d h ts b text p le) (v.before ++ v.token ∷ []) v.after (p.tokens ∙ v.splits.is ∙ sym (append_assoc v.before (v.token ∷ []) v.after)) (record { height = d; within = whole d h ts b text p le }))
no_fault d h n ts b depth text p le v = v.deep (part_front_within p.symbols [] (justified d h ts b text p le) (v.before ++ v.token ∷ []) v.after (p.tokens ∙ v.splits.is ∙ sym (append_assoc v.before (v.token ∷ []) v.after)) d (whole d h ts b text p le))
no_fault d h n ts b spent text p le v = v

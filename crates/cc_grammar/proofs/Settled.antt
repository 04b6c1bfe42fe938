-- A refused construct that begins before reading stops, or where it stops: reading refuses it.
use Rattle.std.specs.Prelude.{◌≡◌, ℕ, suc, ◌+◌, ◌<◌, ◌≤◌, not, Bool, true, false, is_some, Ok, Err, List, [], ◌∷◌, ◌++◌, map, length, ◌⊎◌, Some, None}
use Rattle.std.proofs.Common.{refl, sym, ap, ◌∙◌, subst, arith, append_assoc, append-nil, length-append, inl, inr}
use Rattle.std.proofs.lemmas.List.{append_cancel_left, map-append}
use Rattle.cc_ast.specs.declared.reading.Construct.{Construct}
use Rattle.cc_ast.specs.declared.reading.Construct.TheVariants as construct
use Rattle.cc_lexer.specs.declared.token.Mark.TheVariants as mark
use Rattle.cc_grammar.specs.Symbols.{Kind, Lexeme, Symbol, Symbols, real, inserted, lexemes_of, look, is_mark}
use Rattle.cc_grammar.specs.Symbols as k
use Rattle.cc_grammar.specs.Signs.{refused_kind, refused_name, is_accessor, is_slash, key_of}
use Rattle.cc_grammar.specs.Fronts.{IsFront, IsFrontWithin, Offends, offending, Justified, offends}
use Rattle.cc_grammar.specs.Faults.{any, next_is, Begins, itself, regexp, hole, function, name, accessor, delete}
use Rattle.cc_grammar.specs.Laws.{IsText}
use Rattle.cc_grammar.specs.Reading.{Fault, Cause, goes_on, is_remedy, syntax, depth, spent, refused, read_symbols}
use Rattle.cc_grammar.proofs.Clashes.{clash, never, same_head, same_tail}
use Rattle.cc_grammar.proofs.Shrinks.{reals}
use Rattle.cc_grammar.proofs.Alikeness.Alike.{is_limit}
use Rattle.cc_grammar.proofs.Refusing.NoFront.{no_front}
use Rattle.cc_grammar.proofs.Nests.{nest_opened}
use Rattle.cc_grammar.proofs.Copying.Copies.{L, Shut, lexemes_real}
use Rattle.cc_grammar.proofs.TokenFronts.{lexemes_append, shorter, shorter_within}
use Rattle.cc_grammar.proofs.Halts.{Halt, is_deletion}
use Rattle.cc_grammar.proofs.Swapping.Swap.{Change, Next, Pair, Fitting, IsLimit, anything, no_colon, a_key, token}
use Rattle.cc_grammar.proofs.Swapping.Swap as swap
use Rattle.cc_grammar.proofs.Swapping.SwapSites.{change}
use Rattle.cc_grammar.proofs.Refusing.Verdicts.{Said, said_refused, said_limited, said_passed, said_fallen, said, verdict, unlimited}
use Rattle.cc_grammar.proofs.GoesOn.{pair_delete, goes_on_front}
use Rattle.cc_grammar.proofs.Refusing.Refutations.{Course, Deleting, Rest, at_last, one_more_last, one_less_last, name_last, key_last, delete_last, delete_within, key_pair, name_pair, next_look, no_remedy, denied, examined}
use Rattle.cc_grammar.proofs.OnSymbols as symbols
use Rattle.cc_grammar.proofs.Firsts.{names}

-- no limit deletes
kept : (c : Cause) → is_limit c ≡ true → is_deletion c ≡ false
kept syntax e = never e
kept depth e = refl
kept spent e = refl
kept (refused x) e = never e

offence : {a xs : Symbols} {t : Lexeme} → Offends a (real t ∷ xs) → (offends t ≡ true) × ¬ (IsFront (a ++ real t ∷ []))
offence (offending t o s) = (o, s)

pub accessor_names : (y : Kind) → is_accessor y ≡ true → names y ≡ true
accessor_names (k.name n) e = refl
accessor_names _ e = never e

no_slash_colon : (y : Kind) → is_slash y ≡ true → is_mark mark.Colon y ≡ true → ⊥
no_slash_colon (k.mark mark.Slash) e f = never f
no_slash_colon (k.mark mark.SlashEqual) e f = never f
no_slash_colon _ e f = never e

no_firm_colon : (y : Kind) {x : Construct} → refused_kind y ≡ Some x → is_mark mark.Colon y ≡ true → ⊥
no_firm_colon (k.mark m) e f = let no : None ≡ Some _ = e in absurd (cc)
no_firm_colon _ e f = never f

no_accessor_colon : (y : Kind) → is_accessor y ≡ true → is_mark mark.Colon y ≡ true → ⊥
no_accessor_colon (k.name n) e f = never f
no_accessor_colon _ e f = never e

not_colon : (y z : Kind) → y ≡ z → is_mark mark.Colon z ≡ false → is_mark mark.Colon y ≡ true → ⊥
not_colon y z e f g = clash (sym g ∙ ap (is_mark mark.Colon) e ∙ f)

-- no refused construct begins with a colon
no_colon_begins : {q : Symbols} {t : Lexeme} {after : L} {x : Construct} → Begins q t after x → is_mark mark.Colon t.kind ≡ true → ⊥
no_colon_begins {t} (itself h s) e = no_firm_colon t.kind h e
no_colon_begins {t} (regexp h w s) e = no_slash_colon t.kind h e
no_colon_begins {t} (hole h w s) e = not_colon t.kind _ h refl e
no_colon_begins {t} (function h w s) e = not_colon t.kind _ h refl e
no_colon_begins {t} (name h v w s) e = not_colon t.kind _ h refl e
no_colon_begins {t} (accessor h w v) e = no_accessor_colon t.kind h e
no_colon_begins {t} (delete h n y us vs u kind w is x v f s) e = not_colon t.kind _ kind refl e

-- the look ahead finds a variable that no token goes on with
pub deleted_fits : {q : Symbols} {t : Lexeme} {after : L} (w : Deleting q t after) (m : ℕ) (u : Lexeme) (vs : L) → goes_on u ≡ false → length (w.operand ++ u ∷ vs) < m → Fitting swap.deleted m (map real (w.operand ++ u ∷ vs))
deleted_fits w m u vs e lt =
    let is = map-append real w.operand (u ∷ vs) in
    (map real (u ∷ vs), ap (symbols.opened m 0) is ∙ nest_opened m (subst (λ z. reals z < m) is (subst (λ (z : L). length z < m) (sym (lexemes_real (w.operand ++ u ∷ vs))) lt)) (w.nest (map real (u ∷ vs))) ∙ ap (λ b. Ok (not b, map real (u ∷ vs))) e)

-- what is deleted ends where no token goes on
pub operand_ends : {q : Symbols} {t : Lexeme} {after : L} (w : Deleting q t after) → goes_on w.next ≡ false
operand_ends {q} {t} w = denied (goes_on w.next) (λ o. w.sharp (subst (λ z. IsFront z) (append_assoc q (real t ∷ map real w.operand) (real w.next ∷ [])) (goes_on_front q t w.operand w.kind w.due w.nest w.front w.next o)))

module _ (n d : ℕ) (ts : L) (f : Fault) (text : IsText ts) (enough : length ts < n) (s : Halt n d ts f) where
  -- the tokens behind the symbols
  all : ts ≡ lexemes_of s.before ++ s.token ∷ s.after
  all = s.tokens ∙ append_assoc (lexemes_of s.before) (s.token ∷ []) s.after

  course : Course n d ts s.before (s.token ∷ s.after)
  course = record { text = text; enough = enough; tokens = all; front = s.stopped_there.front; insertions = s.insertions }

  -- Reading refuses it, and stops right behind its first tokens.
  pub data Answered (q : Symbols) (t : Lexeme) (after : L) (x : Construct) : Type 0 where
    by_name : {v : List ℕ} → s.before ≡ q ++ real t ∷ [] → t.kind ≡ k.name v → refused_name v ≡ Some x → IsFront (q ++ any k.variable t ∷ []) → is_mark mark.Colon s.token.kind ≡ false → f.cause ≡ refused x → f.place ≡ t.place → Answered q t after x
    by_key : s.before ≡ q ++ real t ∷ [] → is_some (key_of s.token.kind) ≡ true → x ≡ construct.Accessor → f.cause ≡ refused x → f.place ≡ t.place → Answered q t after x
    by_delete : (w : Deleting q t after) → s.before ≡ q ++ real t ∷ map real w.operand → goes_on s.token ≡ false → x ≡ construct.DeleteName → f.cause ≡ refused x → f.place ≡ t.place → Answered q t after x

  pub data Settled (q : Symbols) (t : Lexeme) (after : L) (x : Construct) : Type 0 where
    answered : Answered q t after x → Settled q t after x
    same_end : s.before ≡ q → Settled q t after x
    firm_end : s.before ≡ q ++ (inserted ∷ []) → refused_kind t.kind ≡ Some x → Settled q t after x

  module _ (q : Symbols) (t : Lexeme) (after : L) (splits : ts ≡ lexemes_of q ++ t ∷ after) where
    after_is : (some : L) → s.before ≡ q ++ real t ∷ map real some → after ≡ some ++ s.token ∷ s.after
    after_is some e = same_tail t t after (some ++ s.token ∷ s.after) (append_cancel_left (lexemes_of q) (t ∷ after) (t ∷ (some ++ s.token ∷ s.after))
        (sym splits ∙ all ∙ ap (λ z. z ++ s.token ∷ s.after) (ap lexemes_of e ∙ lexemes_append q (real t ∷ map real some) ∙ ap (λ z. lexemes_of q ++ t ∷ z) (lexemes_real some)) ∙ append_assoc (lexemes_of q) (t ∷ some) (s.token ∷ s.after)))

    -- the whole list, from the token on
    pub reads_on : (some : L) → s.before ≡ q ++ real t ∷ map real some → read_symbols n d (q ++ real t ∷ map real after) ≡ Err (f, map real (s.token ∷ s.after))
    reads_on some e = ap (read_symbols n d) (ap (λ (z : L). q ++ real t ∷ map real z) (after_is some e) ∙ ap (λ z. q ++ real t ∷ z) (map-append real some (s.token ∷ s.after)) ∙ sym (append_assoc q (real t ∷ map real some) (map real (s.token ∷ s.after)))
        ∙ ap (λ z. z ++ map real (s.token ∷ s.after)) (sym e)) ∙ s.reads

    length_is : length ts ≡ length (lexemes_of q) + suc (length after)
    length_is = omega (arith, ap length splits, length-append (lexemes_of q) (t ∷ after))

    -- before the token nothing is too deep
    low : (some : L) → s.before ≡ q ++ real t ∷ map real some → is_limit f.cause ≡ true → {x : Change} → IsLimit x (read_symbols n d (q ++ real t ∷ [])) → ⊥
    low some e l h = unlimited n d (q ++ real t ∷ []) (omega (arith, enough, length_is, ap length (lexemes_append q (real t ∷ [])), length-append (lexemes_of q) (t ∷ [])))
        (shorter_within (q ++ real t ∷ []) (map real some) (subst (λ z. IsFrontWithin d z) (e ∙ sym (append_assoc q (real t ∷ []) (map real some))) (s.stopped_there.within (kept f.cause l)))) h

    -- ---- the cases that are left

    pub name_settled : {x : Construct} {v : List ℕ} → s.before ≡ q ++ real t ∷ [] → t.kind ≡ k.name v → refused_name v ≡ Some x → IsFront (q ++ any k.variable t ∷ []) → next_is (is_mark mark.Colon) after ≡ false → Answered q t after x
    name_settled {x} e h v due other = by (said (map real after) (verdict (change t k.variable t.kind false x no_colon n) (name_pair t.kind h v) d q due)
        (ap (λ (z : L). is_mark mark.Colon (look (map real z)).kind) a ∙ last, ap (λ (z : L). is_remedy (look (map real z)).kind) a ∙ no_remedy text (lexemes_of s.before) s.token s.after all) (reads_on [] e)) where
          a : after ≡ s.token ∷ s.after
          a = after_is [] e

          last : is_mark mark.Colon s.token.kind ≡ false
          last = ap (next_is (is_mark mark.Colon)) (sym a) ∙ other

          by : Said (change t k.variable t.kind false x no_colon n) d q f (map real after) (map real (s.token ∷ s.after)) → Answered q t after x
          by (said_refused m p) = by_name e h v due last m p
          by (said_limited l z) = absurd (low [] e l z)
          by (said_passed free z) = never free
          by (said_fallen o l z) = absurd (cc)

    key_settled : s.before ≡ q ++ real t ∷ [] → is_accessor t.kind ≡ true → IsFront (q ++ any k.key t ∷ []) → next_is (λ x. is_some (key_of x)) after ≡ true → Answered q t after construct.Accessor
    key_settled e h due v = by (said (map real after) (verdict (change t k.key t.kind false construct.Accessor a_key n) (key_pair t.kind h) d q due) (sym (next_look (λ x. is_some (key_of x)) after refl) ∙ v) (reads_on [] e)) where
      by : Said (change t k.key t.kind false construct.Accessor a_key n) d q f (map real after) (map real (s.token ∷ s.after)) → Answered q t after construct.Accessor
      by (said_refused m p) = by_key e (ap (next_is (λ x. is_some (key_of x))) (sym (after_is [] e)) ∙ v) refl m p
      by (said_limited l z) = absurd (low [] e l z)
      by (said_passed free z) = never free
      by (said_fallen o l z) = absurd (cc)

    -- the answer behind `delete`
    delete_said : (w : Deleting q t after) (some : L) → s.before ≡ q ++ real t ∷ map real some → Said (change t k.operand t.kind false construct.DeleteName swap.deleted n) d q f (map real after) (map real (s.token ∷ s.after))
    delete_said w some e = said (map real after) (verdict (change t k.operand t.kind false construct.DeleteName swap.deleted n) (pair_delete t w.kind) d q w.due)
        (subst (λ (z : L). Fitting swap.deleted n (map real z)) (sym w.is) (deleted_fits w n w.next w.others (operand_ends w) (omega (arith, enough, length_is, ap length w.is)))) (reads_on some e)

    pub delete_settled : (w : Deleting q t after) → s.before ≡ q ++ real t ∷ map real w.operand → Answered q t after construct.DeleteName
    delete_settled w e = by (delete_said w w.operand e) where
      same : s.token ≡ w.next
      same = same_head s.token w.next s.after w.others (append_cancel_left w.operand (s.token ∷ s.after) (w.next ∷ w.others) (sym (after_is w.operand e) ∙ w.is))

      too_many : real t ∷ map real after ≡ map real (s.token ∷ s.after) → ⊥
      too_many o = omega (arith, ap reals o, ap length (lexemes_real after), ap length (lexemes_real s.after), ap length (after_is w.operand e), length-append w.operand (s.token ∷ s.after))

      by : Said (change t k.operand t.kind false construct.DeleteName swap.deleted n) d q f (map real after) (map real (s.token ∷ s.after)) → Answered q t after construct.DeleteName
      by (said_refused m p) = by_delete w e (ap (λ (z : Lexeme). goes_on z) same ∙ operand_ends w) refl m p
      by (said_limited l z) = absurd (low w.operand e l z)
      by (said_passed free z) = never free
      by (said_fallen o l z) = absurd (too_many (sym z))

    within_settled : (w : Deleting q t after) (m : Lexeme) (some more others : L) → s.before ≡ q ++ real t ∷ map real some → w.operand ≡ some ++ m ∷ more → s.token ∷ s.after ≡ m ∷ others → ⊥
    within_settled w m some more others e o z = by (is_limit f.cause) refl where
      front : IsFront (s.before ++ real s.token ∷ [])
      front = subst (λ z. IsFront z) (sym (append_assoc q (real t ∷ map real some) (real m ∷ [])) ∙ ap (λ l. l ++ real m ∷ []) (sym e) ∙ ap (λ (v : Lexeme). s.before ++ real v ∷ []) (sym (same_head s.token m s.after others z)))
          (shorter (q ++ real t ∷ (map real some ++ real m ∷ [])) (map real more) (subst (λ l. IsFront l)
          (ap (λ l. q ++ real t ∷ l) (ap (λ (l : L). map real l) o ∙ map-append real some (m ∷ more) ∙ sym (append_assoc (map real some) (real m ∷ []) (map real more))) ∙ sym (append_assoc q (real t ∷ (map real some ++ real m ∷ [])) (map real more))) w.front))

      limited : is_limit f.cause ≡ true → Said (change t k.operand t.kind false construct.DeleteName swap.deleted n) d q f (map real after) (map real (s.token ∷ s.after)) → ⊥
      limited l (said_refused v p) = clash (sym l ∙ ap is_limit v)
      limited l (said_limited v y) = low some e l y
      limited l (said_passed free y) = never free
      limited l (said_fallen v y x) = clash (sym l ∙ y)

      by : (b : Bool) → is_limit f.cause ≡ b → ⊥
      by true l = limited l (delete_said w some e)
      by false l = s.none front.height (s.before ++ real s.token ∷ []) front.within s.justified (inl l) (lexemes_append s.before (real s.token ∷ []))

    less_settled : {x : Construct} → Justified (q ++ real t ∷ []) → IsFront q → Begins q t after x → q ≡ s.before ++ (inserted ∷ []) → ⊥
    less_settled j front b e = by (is_limit f.cause) refl (offence (j s.before (real t ∷ []) (ap (λ z. z ++ real t ∷ []) e ∙ append_assoc s.before (inserted ∷ []) (real t ∷ [])))) where
      same : s.token ≡ t
      same = same_head s.token t s.after after (append_cancel_left (lexemes_of s.before) (s.token ∷ s.after) (t ∷ after)
          (sym all ∙ splits ∙ ap (λ z. z ++ t ∷ after) (ap lexemes_of e ∙ lexemes_append s.before (inserted ∷ []) ∙ append-nil (lexemes_of s.before))))

      closed : (is_mark mark.Colon s.token.kind ≡ true) ⊎ Shut (read_symbols n d (s.before ++ (inserted ∷ map real (s.token ∷ s.after)))) (map real (s.token ∷ s.after)) → ⊥
      closed (inl o) = no_colon_begins b (ap (λ (z : Lexeme). is_mark mark.Colon z.kind) (sym same) ∙ o)
      closed (inr h) = no_front n d s.before inserted (map real (s.token ∷ s.after)) h.fault h.no_limit h.is (subst (λ z. IsFront z) e front)

      by : (l : Bool) → is_limit f.cause ≡ l → (offends t ≡ true) × ¬ (IsFront (s.before ++ real t ∷ [])) → ⊥
      by true l o = o.1 (subst (λ (z : Lexeme). IsFront (s.before ++ real z ∷ [])) same (s.stopped_there.deeper l s.token s.after refl))
      by false l o = closed (s.barred l (ap (λ (z : Lexeme). offends z) same ∙ o.0))

    pub settled : {x : Construct} → Justified (q ++ real t ∷ []) → IsFront q → length (lexemes_of q) ≤ length (lexemes_of s.before) → Begins q t after x → Settled q t after x
    settled {x} j front le b = by (examined n d ts s.before (s.token ∷ s.after) course q t after splits j front le b) where
      by : Rest s.before (s.token ∷ s.after) q t after x → Settled q t after x
      by (at_last e) = same_end e
      by (one_more_last e h) = firm_end e h
      by (one_less_last e) = absurd (less_settled j front b e)
      by (name_last e h v due o) = answered (name_settled e h v due o)
      by (key_last e p h due v) = answered (subst (λ z. Answered q t after z) (sym p) (key_settled e h due v))
      by (delete_last w e p) = answered (subst (λ z. Answered q t after z) (sym p) (delete_settled w e))
      by (delete_within w m some more others e o z p) = absurd (within_settled w m some more others e o z)

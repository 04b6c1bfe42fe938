-- A refused construct that begins at a token up to which reading has come: what is left of the cases where it could.
use Rattle.std.specs.Prelude.{◌≡◌, ℕ, ◌<◌, ◌≤◌, Bool, true, false, is_some, Err, List, [], ◌∷◌, ◌++◌, map, length, Option, Some, None}
use Rattle.std.proofs.Common.{refl, sym, ap, ◌∙◌, subst, append_assoc, append-nil}
use Rattle.std.proofs.lemmas.List.{append_cancel_left}
use Rattle.cc_ast.specs.declared.reading.Construct.{Construct}
use Rattle.cc_ast.specs.declared.reading.Construct.TheVariants as construct
use Rattle.cc_lexer.specs.declared.token.Mark.TheVariants as mark
use Rattle.cc_lexer.specs.declared.word.Word.TheVariants as word
use Rattle.cc_grammar.specs.Symbols.{Kind, Lexeme, Symbol, Symbols, real, inserted, lexemes_of, lexeme_of, look, is_mark}
use Rattle.cc_grammar.specs.Symbols as k
use Rattle.cc_grammar.specs.RawTree.{RawExpr}
use Rattle.cc_grammar.specs.Grammar.{E}
use Rattle.cc_grammar.specs.Signs.{refused_kind, refused_name, is_accessor, is_slash, is_variable, key_of}
use Rattle.cc_grammar.specs.Fronts.{IsFront, Justified}
use Rattle.cc_grammar.specs.Faults.{any, next_is, Begins, itself, regexp, hole, function, name, accessor, delete}
use Rattle.cc_grammar.specs.Laws.{IsText, is_inner, is_last}
use Rattle.cc_grammar.specs.Laws as text
use Rattle.cc_grammar.specs.Reading.{Fault, fault, either, goes_on, is_remedy, syntax, refused, read_symbols}
use Rattle.cc_grammar.specs.Reading as r
use Rattle.cc_grammar.proofs.Clashes.{clash, never, none_some, no_syntax, same_construct, same_head, same_tail}
use Rattle.cc_grammar.proofs.Shrinks.{reals}
use Rattle.cc_grammar.proofs.Refusing.NoFront.{no_front, too_long}
use Rattle.cc_grammar.proofs.Deletions.{Nest, nest_told, variable_nest}
use Rattle.cc_grammar.proofs.Nests.{nest_opened}
use Rattle.cc_grammar.proofs.Copying.Paired.{is_fresh, Begun, Paired, end_ready, body_ready}
use Rattle.cc_grammar.proofs.Copying.Copies.{L, StopsAt, lexemes_real}
use Rattle.cc_grammar.proofs.Soundness.SoundTokens.{begun_behind, no_limit}
use Rattle.cc_grammar.proofs.TokenFronts.{lexemes_append, shorter, first_token}
use Rattle.cc_grammar.proofs.Halts.{Inserts}
use Rattle.cc_grammar.proofs.Swapping.Swap.{Next, Pair, Fitting, anything, no_colon, a_key}
use Rattle.cc_grammar.proofs.Swapping.Swap as swap
use Rattle.cc_grammar.proofs.Swapping.SwapSites.{change}
use Rattle.cc_grammar.proofs.Meeting.{Met, inside, one_more, at_end, one_less, Sharp, meets, Along, past, exactly, within, along}
use Rattle.cc_grammar.proofs.Refusing.Verdicts.{Said, said_refused, said_limited, said_passed, said_fallen, said, verdict, no_such_front}
use Rattle.cc_grammar.proofs.GoesOn.{same_tokens, pair_delete}
use Rattle.cc_grammar.proofs.OnSymbols as symbols

-- the symbols that reading takes of a text, up to some tokens
pub record Course (n d : ℕ) (ts : L) (P : Symbols) (us : L) : Type 0 where
  pub text : IsText ts
  pub enough : length ts < n
  pub tokens : ts ≡ lexemes_of P ++ us
  pub front : IsFront P
  pub insertions : (a b : Symbols) → P ≡ a ++ (inserted ∷ b) → Inserts n d ts a

-- `delete` behind q, and a variable that is its whole operand
pub record Deleting (q : Symbols) (t : Lexeme) (after : L) : Type 0 where
  pub operand : L
  pub next : Lexeme
  pub others : L
  pub kind : t.kind ≡ k.word word.Delete
  pub due : IsFront (q ++ any k.operand t ∷ [])
  pub is : after ≡ operand ++ next ∷ others
  pub nest : (ws : Symbols) → Nest 0 (map real operand ++ ws) ws
  pub front : IsFront (q ++ real t ∷ map real operand)
  pub sharp : ¬ (IsFront (q ++ real t ∷ (map real operand ++ real next ∷ [])))

-- of a construct that begins at the token t, behind q
pub data Rest (P : Symbols) (us : L) (q : Symbols) (t : Lexeme) (after : L) (c : Construct) : Type 0 where
  at_last : P ≡ q → Rest P us q t after c
  one_more_last : P ≡ q ++ (inserted ∷ []) → refused_kind t.kind ≡ Some c → Rest P us q t after c
  one_less_last : q ≡ P ++ (inserted ∷ []) → Rest P us q t after c
  name_last : {v : List ℕ} → P ≡ q ++ real t ∷ [] → t.kind ≡ k.name v → refused_name v ≡ Some c → IsFront (q ++ any k.variable t ∷ []) → next_is (is_mark mark.Colon) after ≡ false → Rest P us q t after c
  key_last : P ≡ q ++ real t ∷ [] → c ≡ construct.Accessor → is_accessor t.kind ≡ true → IsFront (q ++ any k.key t ∷ []) → next_is (λ x. is_some (key_of x)) after ≡ true → Rest P us q t after c
  delete_last : (w : Deleting q t after) → P ≡ q ++ real t ∷ map real w.operand → c ≡ construct.DeleteName → Rest P us q t after c
  delete_within : (w : Deleting q t after) (m : Lexeme) (some more others : L) → P ≡ q ++ real t ∷ map real some → w.operand ≡ some ++ m ∷ more → us ≡ m ∷ others → c ≡ construct.DeleteName → Rest P us q t after c

-- ---- what is known of tokens

-- a token that refuses itself stands behind no insertion
pub not_fresh : (y : Kind) (x : Construct) → refused_kind y ≡ Some x → is_fresh y ≡ false
not_fresh (k.stop c) x e = refl
not_fresh (k.word word.With) x e = refl
not_fresh (k.word word.Debugger) x e = refl
not_fresh (k.word word.Class) x e = refl
not_fresh (k.word word.Const) x e = refl
not_fresh (k.word word.Enum) x e = refl
not_fresh (k.word word.Export) x e = refl
not_fresh (k.word word.Extends) x e = refl
not_fresh (k.word word.Import) x e = refl
not_fresh (k.word word.Super) x e = refl
not_fresh _ x e = none_some e

-- no key refuses itself as `get` or `set`
pub key_refuses : (y : Kind) → is_some (key_of y) ≡ true → refused_kind y ≡ Some construct.Accessor → ⊥
key_refuses (k.stop c) h e = never h
key_refuses (k.word word.With) h e = absurd (cc)
key_refuses (k.word word.Debugger) h e = absurd (cc)
key_refuses (k.word word.Class) h e = absurd (cc)
key_refuses (k.word word.Const) h e = absurd (cc)
key_refuses (k.word word.Enum) h e = absurd (cc)
key_refuses (k.word word.Export) h e = absurd (cc)
key_refuses (k.word word.Extends) h e = absurd (cc)
key_refuses (k.word word.Import) h e = absurd (cc)
key_refuses (k.word word.Super) h e = absurd (cc)
key_refuses _ h e = none_some e

itself_refused : (o : Option Construct) (x : Construct) → either o None ≡ refused x → o ≡ Some x
itself_refused (Some y) x e = ap (λ z. Some z) (same_construct e)
itself_refused None x e = no_syntax e

pair_quiet : {p : k.Part} {y : Kind} {b : Bool} {c : Construct} {z : Next} → Pair p y b c z → refused_kind y ≡ None
pair_quiet swap.slash = refl
pair_quiet swap.slash_equal = refl
pair_quiet swap.comma = refl
pair_quiet swap.function = refl
pair_quiet (swap.label q) = refl
pair_quiet (swap.name q) = refl
pair_quiet (swap.accessor q) = refl
pair_quiet swap.delete = refl

pub slash_pair : (y : Kind) → is_slash y ≡ true → Pair k.operand y true construct.RegExp anything
slash_pair (k.mark mark.Slash) e = swap.slash
slash_pair (k.mark mark.SlashEqual) e = swap.slash_equal
slash_pair _ e = never e

pub key_pair : (y : Kind) → is_accessor y ≡ true → Pair k.key y false construct.Accessor a_key
key_pair (k.name n) e = swap.accessor e
key_pair _ e = never e

pub comma_pair : (y : Kind) → y ≡ k.mark mark.Comma → Pair k.element y true construct.Hole anything
comma_pair y e = subst (λ z. Pair k.element z true construct.Hole anything) (sym e) swap.comma

pub function_pair : (y : Kind) → y ≡ k.word word.Function → Pair k.statement y true construct.BlockFunction anything
function_pair y e = subst (λ z. Pair k.statement z true construct.BlockFunction anything) (sym e) swap.function

pub label_pair : {v : List ℕ} {c : Construct} (y : Kind) → y ≡ k.name v → refused_name v ≡ Some c → Pair k.variable y true c anything
label_pair {c} y e h = subst (λ z. Pair k.variable z true c anything) (sym e) (swap.label h)

pub name_pair : {v : List ℕ} {c : Construct} (y : Kind) → y ≡ k.name v → refused_name v ≡ Some c → Pair k.variable y false c no_colon
name_pair {c} y e h = subst (λ z. Pair k.variable z false c no_colon) (sym e) (swap.name h)

pub next_look : (p : Kind → Bool) (us : L) → p (k.stop None) ≡ false → next_is p us ≡ p (look (map real us)).kind
next_look p [] e = sym e
next_look p (u ∷ us) e = refl

inner_remedy : (y : Kind) → is_inner y ≡ true → is_remedy y ≡ false
inner_remedy (k.due p) e = never e
inner_remedy _ e = refl

last_remedy : (y : Kind) → is_last y ≡ true → is_remedy y ≡ false
last_remedy (k.due p) e = never e
last_remedy _ e = refl

-- no token of a text mends
pub no_remedy : {ts : L} → IsText ts → (a : L) (t : Lexeme) (b : L) → ts ≡ a ++ t ∷ b → is_remedy t.kind ≡ false
no_remedy (text.last {t = u} l) [] t b e = ap (λ (z : Lexeme). is_remedy z.kind) (sym (same_head u t [] b e)) ∙ last_remedy u.kind l
no_remedy (text.last {t = u} l) (m ∷ a) t b e = by a (same_tail u m [] (a ++ t ∷ b) e) where
  by : (a : L) → [] ≡ a ++ t ∷ b → is_remedy t.kind ≡ false
  by [] e = absurd (cc)
  by (m ∷ a) e = absurd (cc)
no_remedy (text.before {t = u} {ts} i h) [] t b e = ap (λ (z : Lexeme). is_remedy z.kind) (sym (same_head u t ts b e)) ∙ inner_remedy u.kind i
no_remedy (text.before {t = u} {ts} i h) (m ∷ a) t b e = no_remedy h a t b (same_tail u m ts (a ++ t ∷ b) e)

pub denied : (b : Bool) → (b ≡ true → ⊥) → b ≡ false
denied true f = absurd (f refl)
denied false f = refl

-- what is deleted, from its derivation
pub deleting : (q : Symbols) (t : Lexeme) {h : ℕ} {n : Bool} {e : RawExpr} {ts : L} (us vs : L) (u : Lexeme) → t.kind ≡ k.word word.Delete → IsFront (q ++ any k.operand t ∷ []) → ts ≡ us ++ u ∷ vs → E h n 13 (map real us) e [] → is_variable e ≡ true
    → IsFront (q ++ real t ∷ map real us) → ¬ (IsFront (q ++ real t ∷ (map real us ++ real u ∷ []))) → Deleting q t ts
deleting q t us vs u kind due is x v front sharp =
    let h = nest_told (variable_nest x v) in
    let same : h.tokens ≡ us = sym (same_tokens us h.tokens (h.is ∙ append-nil (map real h.tokens))) in
    record { operand = us; next = u; others = vs; kind = kind; due = due; is = is; nest = λ ws. subst (λ (l : L). Nest 0 (map real l ++ ws) ws) same (h.moved ws); front = front; sharp = sharp }

-- ---- at an insertion

module _ (n d : ℕ) (ts : L) (P : Symbols) (us : L) (c : Course n d ts P us) where
  -- without the insertion reading stops at the token
  stop_there : (a b : Symbols) → P ≡ a ++ (inserted ∷ b) → (m : Lexeme) (ms : L) → lexemes_of b ++ us ≡ m ∷ ms → read_symbols n d (a ++ real m ∷ map real ms) ≡ Err (fault r.a_token m, real m ∷ map real ms)
  stop_there a b e m ms l =
      let i = c.insertions a b e in
      let same : i.tokens ≡ m ∷ ms = append_cancel_left (lexemes_of a) i.tokens (m ∷ ms)
      (sym i.all ∙ c.tokens ∙ ap (λ z. z ++ us) (ap lexemes_of e ∙ lexemes_append a (inserted ∷ b)) ∙ append_assoc (lexemes_of a) (lexemes_of b) us ∙ ap (λ z. lexemes_of a ++ z) l) in
      subst (λ (v : L). StopsAt (read_symbols n d) v (a ++ map real v)) same i.holds

  sharp_there : Sharp P us
  sharp_there a b m ms e l = no_front n d a (real m) (map real ms) (fault r.a_token m) (no_limit (refused_kind m.kind) None) (stop_there a b e m ms l)

  -- no such stop is where a part is due
  never_there : {p : k.Part} {y : Construct} {b : Bool} {z : Next} (q : Symbols) (t : Lexeme) (after : L) → Pair p t.kind b y z → IsFront (q ++ any p t ∷ []) → Fitting z n (map real after) → ¬ (z ≡ swap.deleted)
      → read_symbols n d (q ++ real t ∷ map real after) ≡ Err (fault r.a_token t, real t ∷ map real after) → ⊥
  never_there {p} {y} {b} {z} q t after w due fits other e = by (said (map real after) (verdict (change t p t.kind b y z n) w d q due) fits e) where
    by : Said (change t p t.kind b y z n) d q (fault r.a_token t) (map real after) (real t ∷ map real after) → ⊥
    by (said_refused m p) = no_syntax (sym (ap (λ o. either o None) (pair_quiet w)) ∙ m)
    by (said_limited l h) = clash (sym l ∙ no_limit (refused_kind t.kind) None)
    by (said_passed free s) = too_long s
    by (said_fallen o l s) = other o

  module _ (q : Symbols) (t : Lexeme) (after : L) (splits : ts ≡ lexemes_of q ++ t ∷ after) (j : Justified (q ++ real t ∷ [])) (f : IsFront q) (le : length (lexemes_of q) ≤ length (lexemes_of P)) where
    both : lexemes_of P ++ us ≡ lexemes_of q ++ t ∷ after
    both = sym c.tokens ∙ splits

    -- the tokens behind an insertion, and behind the token
    behind_one : (others : Symbols) → P ≡ q ++ (inserted ∷ others) → lexemes_of others ++ us ≡ t ∷ after
    behind_one others e = append_cancel_left (lexemes_of q) (lexemes_of others ++ us) (t ∷ after)
        (sym (append_assoc (lexemes_of q) (lexemes_of others) us) ∙ ap (λ z. z ++ us) (sym (lexemes_append q (inserted ∷ others)) ∙ ap lexemes_of (sym e)) ∙ both)

    behind_token : (others : Symbols) → P ≡ q ++ real t ∷ others → lexemes_of others ++ us ≡ after
    behind_token others e = same_tail t t (lexemes_of others ++ us) after (append_cancel_left (lexemes_of q) (t ∷ (lexemes_of others ++ us)) (t ∷ after)
        (sym (append_assoc (lexemes_of q) (t ∷ lexemes_of others) us) ∙ ap (λ z. z ++ us) (sym (lexemes_append q (real t ∷ others)) ∙ ap lexemes_of (sym e)) ∙ both))

    -- ---- an insertion before the token

    firm_more : {x : Construct} → refused_kind t.kind ≡ Some x → (others : Symbols) → P ≡ q ++ (inserted ∷ others) → Rest P us q t after x
    firm_more h [] e = one_more_last e h
    firm_more {x} h (m ∷ others) e = absurd (by m (behind_one (m ∷ others) e) (begun_behind q (m ∷ (others ++ c.front.within.more))
        (subst (λ z. Paired z) (ap (λ z. z ++ c.front.within.more) e ∙ append_assoc q (inserted ∷ m ∷ others) c.front.within.more) (body_ready c.front.within.derives.body (end_ready c.front.within.derives.ends)).paired))) where
          by : (m : Symbol) → lexemes_of (m ∷ others) ++ us ≡ t ∷ after → Begun (m ∷ (others ++ c.front.within.more)) → ⊥
          by (real w) l b = clash (sym b ∙ ap (λ (z : Lexeme). is_fresh z.kind) (same_head w t (lexemes_of others ++ us) after l) ∙ not_fresh t.kind x h)
          by inserted l b = b

    more_of : {x : Construct} → Begins q t after x → (others : Symbols) → P ≡ q ++ (inserted ∷ others) → Rest P us q t after x
    more_of (itself h s) others e = firm_more h others e
    more_of (regexp h due s) others e = absurd (never_there q t after (slash_pair t.kind h) due tt (λ o. cc) (stop_there q others e t after (behind_one others e)))
    more_of (hole h due s) others e = absurd (never_there q t after (comma_pair t.kind h) due tt (λ o. cc) (stop_there q others e t after (behind_one others e)))
    more_of (function h due s) others e = absurd (never_there q t after (function_pair t.kind h) due tt (λ o. cc) (stop_there q others e t after (behind_one others e)))
    more_of (name h v due s) others e = absurd (never_there q t after (label_pair t.kind h v) due tt (λ o. cc) (stop_there q others e t after (behind_one others e)))
    more_of (accessor h due v) others e = absurd (never_there q t after (key_pair t.kind h) due (sym (next_look (λ x. is_some (key_of x)) after refl) ∙ v) (λ o. cc) (stop_there q others e t after (behind_one others e)))
    more_of (delete h m y us' vs u kind due is x v front s) others e = absurd (sharp_there q others t after e (behind_one others e) (first_token q (real t) (map real us') front))

    -- ---- the token itself

    front_there : (others : Symbols) → P ≡ q ++ real t ∷ others → IsFront (q ++ real t ∷ [])
    front_there others e = first_token q (real t) others (subst (λ z. IsFront z) e c.front)

    name_inside : {x : Construct} {v : List ℕ} → t.kind ≡ k.name v → refused_name v ≡ Some x → IsFront (q ++ any k.variable t ∷ []) → next_is (is_mark mark.Colon) after ≡ false → (others : Symbols) → P ≡ q ++ real t ∷ others → Rest P us q t after x
    name_inside h v due other [] e = name_last e h v due other
    name_inside h v due other (inserted ∷ others) e = absurd (no_such_front t (name_pair t.kind h v) q (inserted ∷ others) due (λ m more lt. (refl, refl)) (subst (λ z. IsFront z) e c.front))
    name_inside h v due other (real w ∷ others) e = let l = behind_token (real w ∷ others) e in
        absurd (no_such_front t (name_pair t.kind h v) q (real w ∷ others) due
        (λ m more lt. (ap (next_is (is_mark mark.Colon)) l ∙ other, no_remedy c.text (lexemes_of q ++ t ∷ []) w (lexemes_of others ++ us) (splits ∙ ap (λ z. lexemes_of q ++ t ∷ z) (sym l) ∙ sym (append_assoc (lexemes_of q) (t ∷ []) (w ∷ (lexemes_of others ++ us))))))
        (subst (λ z. IsFront z) e c.front))

    key_inside : is_accessor t.kind ≡ true → IsFront (q ++ any k.key t ∷ []) → next_is (λ x. is_some (key_of x)) after ≡ true → (others : Symbols) → P ≡ q ++ real t ∷ others → Rest P us q t after construct.Accessor
    key_inside h due v [] e = key_last e refl h due v
    key_inside h due v (real w ∷ others) e = absurd (no_such_front t (key_pair t.kind h) q (real w ∷ others) due (λ m more lt. ap (next_is (λ x. is_some (key_of x))) (behind_token (real w ∷ others) e) ∙ v) (subst (λ z. IsFront z) e c.front))
    key_inside h due v (inserted ∷ others) e = absurd (by after (behind_token (inserted ∷ others) e) v) where
      by : (vs : L) → lexemes_of others ++ us ≡ vs → next_is (λ x. is_some (key_of x)) vs ≡ true → ⊥
      by [] l v = never v
      by (m ∷ ms) l v = answered (said (real m ∷ map real ms) (verdict (change t k.key t.kind false construct.Accessor a_key n) (key_pair t.kind h) d q due) v
          (ap (read_symbols n d) (sym (append_assoc q (real t ∷ []) (real m ∷ map real ms))) ∙ stop_there (q ++ real t ∷ []) others (e ∙ sym (append_assoc q (real t ∷ []) (inserted ∷ others))) m ms l)) where
            answered : Said (change t k.key t.kind false construct.Accessor a_key n) d q (fault r.a_token m) (real m ∷ map real ms) (real m ∷ map real ms) → ⊥
            answered (said_refused w p) = key_refuses m.kind v (itself_refused (refused_kind m.kind) construct.Accessor w)
            answered (said_limited w z) = clash (sym w ∙ no_limit (refused_kind m.kind) None)
            answered (said_passed free z) = never free
            answered (said_fallen o w z) = absurd (cc)

    delete_inside : (w : Deleting q t after) (others : Symbols) → P ≡ q ++ real t ∷ others → Rest P us q t after construct.DeleteName
    delete_inside w others e = by (along P us sharp_there (q ++ real t ∷ []) others w.operand (w.next ∷ w.others) (e ∙ sym (append_assoc q (real t ∷ []) others)) (behind_token others e ∙ w.is)
        (subst (λ z. IsFront z) (sym (append_assoc q (real t ∷ []) (map real w.operand))) w.front)) where
          at_next : (m : Symbol) (more : Symbols) → others ≡ map real w.operand ++ m ∷ more → Rest P us q t after construct.DeleteName
          at_next inserted more o = absurd (no_such_front t (pair_delete t w.kind) q others w.due
              (λ m zs lt. (
                inserted ∷ (more ++ zs),
                ap (symbols.opened m 0) (ap (λ z. z ++ zs) o ∙ append_assoc (map real w.operand) (inserted ∷ more) zs)
                    ∙ nest_opened m (subst (λ z. reals z < m) (ap (λ z. z ++ zs) o ∙ append_assoc (map real w.operand) (inserted ∷ more) zs) lt) (w.nest (inserted ∷ (more ++ zs))),
              ))
              (subst (λ z. IsFront z) e c.front))
          at_next (real u) more o =
              let l = behind_token others e ∙ w.is in
              let tokens : lexemes_of others ≡ w.operand ++ u ∷ lexemes_of more = ap lexemes_of o ∙ lexemes_append (map real w.operand) (real u ∷ more) ∙ ap (λ z. z ++ u ∷ lexemes_of more) (lexemes_real w.operand) in
              let same : u ≡ w.next = same_head u w.next (lexemes_of more ++ us) w.others (append_cancel_left w.operand (u ∷ (lexemes_of more ++ us)) (w.next ∷ w.others)
              (sym (append_assoc w.operand (u ∷ lexemes_of more) us) ∙ ap (λ z. z ++ us) (sym tokens) ∙ l)) in
              absurd (w.sharp (subst (λ (v : Lexeme). IsFront (q ++ real t ∷ (map real w.operand ++ real v ∷ []))) same
              (shorter (q ++ real t ∷ (map real w.operand ++ real u ∷ [])) more (subst (λ z. IsFront z) (e ∙ ap (λ z. q ++ real t ∷ z) (o ∙ sym (append_assoc (map real w.operand) (real u ∷ []) more)) ∙ sym (append_assoc q (real t ∷ (map real w.operand ++ real u ∷ [])) more)) c.front))))

          by : Along others w.operand us → Rest P us q t after construct.DeleteName
          by (past m more o) = at_next m more o
          by (exactly o) = delete_last w (e ∙ ap (λ l. q ++ real t ∷ l) o) refl
          by (within m some more others' o p s) = delete_within w m some more others' (e ∙ ap (λ l. q ++ real t ∷ l) o) p s refl

    inside_of : {x : Construct} → Begins q t after x → (others : Symbols) → P ≡ q ++ real t ∷ others → Rest P us q t after x
    inside_of (itself h s) others e = absurd (s (front_there others e))
    inside_of (regexp h due s) others e = absurd (s (front_there others e))
    inside_of (hole h due s) others e = absurd (s (front_there others e))
    inside_of (function h due s) others e = absurd (s (front_there others e))
    inside_of (name h v due s) others e = name_inside h v due (denied (next_is (is_mark mark.Colon) after) (λ o. s o (front_there others e))) others e
    inside_of (accessor h due v) others e = key_inside h due v others e
    inside_of (delete h m y us' vs u kind due is x v front s) others e = delete_inside (deleting q t us' vs u kind due is x v front s) others e

    pub examined : {x : Construct} → Begins q t after x → Rest P us q t after x
    examined {x} b = by (meets q P t after us j sharp_there f c.front both le) where
      by : Met q P t → Rest P us q t after x
      by (inside others e) = inside_of b others e
      by (one_more others e) = more_of b others e
      by (at_end e) = at_last e
      by (one_less e) = one_less_last e

-- What is refused: the tokens before it are a front, and the construct begins there.
use Rattle.std.specs.Prelude.{◌≡◌, ℕ, ◌≤◌, Bool, true, false, List, [], ◌∷◌, ◌++◌, map, length, Option, Some, None, ◌⊎◌}
use Rattle.std.proofs.Common.{refl, sym, ap, ◌∙◌, subst, append_assoc, append-nil, inl, inr}
use Rattle.std.proofs.lemmas.List.{append_cancel_right}
use Rattle.cc_ast.specs.declared.reading.Construct.{Construct}
use Rattle.cc_ast.specs.declared.reading.Construct.TheVariants as construct
use Rattle.cc_lexer.specs.declared.token.Mark.TheVariants as mark
use Rattle.cc_lexer.specs.declared.word.Word.TheVariants as word
use Rattle.cc_grammar.specs.Symbols.{Kind, Lexeme, Symbol, Symbols, real, inserted, look, lexemes_of, is_mark}
use Rattle.cc_grammar.specs.Symbols as k
use Rattle.cc_grammar.specs.Grammar.{At, E}
use Rattle.cc_grammar.specs.Grammar as g
use Rattle.cc_grammar.specs.Signs.{refused_kind, refused_name, is_accessor, is_slash}
use Rattle.cc_grammar.specs.Fronts.{IsFront, IsFrontWithin, Justified}
use Rattle.cc_grammar.specs.Faults.{any, Begins, itself, regexp, hole, function, name, accessor, delete, RefusedAt}
use Rattle.cc_grammar.specs.Reading.{Fault, fault, either, syntax, refused}
use Rattle.cc_grammar.specs.Reading as r
use Rattle.cc_grammar.proofs.Clashes.{clash, none_some, some_is, no_syntax, same_construct}
use Rattle.cc_grammar.proofs.Fails.{due, Why, by_token, by_variable, by_operand, by_element, by_statement, by_name, by_key}
use Rattle.cc_grammar.proofs.Deletions.{Nest, nest_told, nest_found, all_closed}
use Rattle.cc_grammar.proofs.Fronts.FrontsProgram.{FrontOf}
use Rattle.cc_grammar.proofs.Copying.Copies.{L, lexemes_real}
use Rattle.cc_grammar.proofs.TokenFronts.{Filled, Closed, lexemes_append, shorter_within, higher_within, justified_part}
use Rattle.cc_grammar.proofs.Halts.{Reason, at_next, behind}
use Rattle.cc_grammar.proofs.GoesOn.{other_name}

-- The construct c begins at the token t, behind q, a front within the depth.
pub record Refusal (d : ℕ) (ts : L) (f : Fault) (c : Construct) (q : Symbols) (t : Lexeme) (after : L) : Type 0 where
  pub splits : ts ≡ lexemes_of q ++ t ∷ after
  pub justified : Justified (q ++ real t ∷ [])
  pub within : IsFrontWithin d q
  pub place : f.place ≡ t.place
  pub begins : Begins q t after c

pub refused_at : {d : ℕ} {ts : L} {f : Fault} {c : Construct} {q : Symbols} {t : Lexeme} {after : L} → Refusal d ts f c q t after → RefusedAt ts (length (lexemes_of q)) c
refused_at {d} {q} {t} {after} h = record {
  before = lexemes_of q;
  token = t;
  after = after;
  splits = record { is = h.splits; count = refl };
  symbols = q;
  front = record { tokens = refl; justified = h.justified; front = record { height = d; within = h.within } };
  begins = h.begins;
}

-- a part that may be due where reading stops at a token
abbrev pub may_stop : k.Part → Bool
may_stop k.operand = true
may_stop k.element = true
may_stop k.variable = true
may_stop k.statement = true
may_stop _ = false

-- Why a construct begins where reading stops: the token refuses itself, or a part is due.
pub data Now (p : Symbols) (t : Lexeme) (c : Construct) : Type 0 where
  firm : refused_kind t.kind ≡ Some c → Now p t c
  part_due : (q : k.Part) → may_stop q ≡ true → IsFront (p ++ any q t ∷ []) → (refused_kind t.kind ≡ Some c) ⊎ ¬ (c ≡ construct.Accessor) → Now p t c

-- Where what is refused begins: where reading stops, or at the last token before, a name, or at a `delete`.
pub data Where (d : ℕ) (ts : L) (f : Fault) (c : Construct) (p : Symbols) (t : Lexeme) (vs : L) : Type 0 where
  now : Now p t c → Refusal d ts f c p t vs → Where d ts f c p t vs
  at_name : (q : Symbols) (u : Lexeme) (v : List ℕ) → p ≡ q ++ real u ∷ [] → refused_name v ≡ Some c → Refusal d ts f c q u (t ∷ vs) → Where d ts f c p t vs
  at_key : (q : Symbols) (u : Lexeme) → p ≡ q ++ real u ∷ [] → c ≡ construct.Accessor → Refusal d ts f c q u (t ∷ vs) → Where d ts f c p t vs
  at_delete : (q : Symbols) (u : Lexeme) (us : L) → p ≡ q ++ real u ∷ map real us → u.kind ≡ k.word word.Delete → c ≡ construct.DeleteName → Refusal d ts f c q u (us ++ t ∷ vs) → Where d ts f c p t vs

filled_end : (a : Symbols) (t : Lexeme) → Filled (a ++ real t ∷ [])
filled_end [] t = tt
filled_end (m ∷ a) t = tt

closed_end : (a : Symbols) (t : Lexeme) → Closed (a ++ real t ∷ [])
closed_end [] t = tt
closed_end (real u ∷ a) t = closed_end a t
closed_end (inserted ∷ a) t = (filled_end a t, closed_end a t)

-- a fault at a token that is refused
by_cause : (a b : Option Construct) (c : Construct) → either a b ≡ refused c → (a ≡ Some c) ⊎ (b ≡ Some c)
by_cause (Some x) b c e = inl (ap (λ y. Some y) (same_construct e))
by_cause None (Some x) c e = inr (ap (λ y. Some y) (same_construct e))
by_cause None None c e = no_syntax e

-- a name where a variable is due
record NameOf (x : Kind) (c : Construct) : Type 0 where
  name : List ℕ
  kind : x ≡ k.name name
  is : refused_name name ≡ Some c

name_other : {x : Kind} {c : Construct} → NameOf x c → ¬ (c ≡ construct.Accessor)
name_other {c} n e = by (other_name n.name n.is) where
  by : (c ≡ construct.EvalName) ⊎ (c ≡ construct.ArgumentsName) → ⊥
  by (inl q) = let no : construct.EvalName ≡ construct.Accessor = sym q ∙ e in (cc)
  by (inr q) = let no : construct.ArgumentsName ≡ construct.Accessor = sym q ∙ e in (cc)

no_variable : (x : Kind) (c : Construct) → r.refused_there r.a_variable x ≡ Some c → NameOf x c
no_variable (k.name n) c e = record { name = n; kind = refl; is = e }
no_variable _ c e = none_some e

no_operand : (x : Kind) (c : Construct) → r.refused_there r.an_operand x ≡ Some c → NameOf x c ⊎ ((is_slash x ≡ true) × (construct.RegExp ≡ c))
no_operand (k.name n) c e = inl (record { name = n; kind = refl; is = e })
no_operand (k.mark mark.Slash) c e = inr (refl, some_is e)
no_operand (k.mark mark.SlashEqual) c e = inr (refl, some_is e)
no_operand _ c e = none_some e

module _ (d : ℕ) (ts : L) (f : Fault) (p : Symbols) (t : Lexeme) (vs : L) (tokens : ts ≡ lexemes_of p ++ t ∷ vs) (justified : Justified (p ++ real t ∷ [])) (front : IsFront p) (sharp : ¬ (IsFront (p ++ real t ∷ []))) where
  abbrev next : Symbols
  next = map real (t ∷ vs)

  -- it begins at the token
  begins_at : (c : Construct) → IsFrontWithin d p → f.place ≡ t.place → Begins p t vs c → Refusal d ts f c p t vs
  begins_at c low e b = record { splits = tokens; justified = justified; within = low; place = e; begins = b }

  -- it begins earlier
  pub earlier : (a : Symbols) (u : Lexeme) (us : L) (c : Construct) → p ≡ a ++ real u ∷ map real us → IsFrontWithin d a → f.place ≡ u.place → Begins a u (us ++ t ∷ vs) c → Refusal d ts f c a u (us ++ t ∷ vs)
  earlier a u us c is low e b = record {
    splits = tokens ∙ ap (λ l. l ++ t ∷ vs) (ap lexemes_of is ∙ lexemes_append a (real u ∷ map real us) ∙ ap (λ l. lexemes_of a ++ u ∷ l) (lexemes_real us)) ∙ append_assoc (lexemes_of a) (u ∷ us) (t ∷ vs);
    justified = justified_part (a ++ real u ∷ []) (map real us ++ real t ∷ []) (closed_end a u)
        (subst (λ l. Justified l) (ap (λ l. l ++ real t ∷ []) is ∙ append_assoc a (real u ∷ map real us) (real t ∷ []) ∙ sym (append_assoc a (real u ∷ []) (map real us ++ real t ∷ []))) justified);
    within = low;
    place = e;
    begins = b;
  }

  due_there : (q : k.Part) {j : ℕ} → FrontOf (p ++ next) j (due q next) → IsFront (p ++ any q t ∷ [])
  due_there q {j} w = record { height = j; within = subst (λ l. IsFrontWithin j (l ++ any q t ∷ [])) (append_cancel_right w.before p next (sym w.is)) w.front }

  -- the symbols before an earlier token
  before_is : (a : Symbols) (u : Lexeme) (us : L) (ys : Symbols) → ys ≡ real u ∷ (map real us ++ next) → p ++ next ≡ a ++ ys → p ≡ a ++ real u ∷ map real us
  before_is a u us ys e q = append_cancel_right p (a ++ real u ∷ map real us) next (q ∙ ap (λ l. a ++ l) e ∙ sym (append_assoc a (real u ∷ map real us) next))

  due_front : (q : k.Part) {j : ℕ} (u : Lexeme) {us : Symbols} → (w : FrontOf (p ++ next) j (due q (real u ∷ us))) → IsFront (w.before ++ any q u ∷ [])
  due_front q {j} u w = record { height = j; within = w.front }

  low_part : (a : Symbols) (u : Lexeme) → IsFrontWithin d p → p ≡ a ++ real u ∷ [] → IsFrontWithin d a
  low_part a u low e = shorter_within a (real u ∷ []) (subst (λ l. IsFrontWithin d l) e low)

  named : (c : Construct) → IsFrontWithin d p → f.place ≡ t.place → NameOf t.kind c → IsFront (p ++ any k.variable t ∷ []) → Where d ts f c p t vs
  named c low e n w = now (part_due k.variable refl w (inr (name_other n))) (begins_at c low e (name n.kind n.is w (λ _. sharp)))

  -- at the token itself
  firmly : (c : Construct) → IsFrontWithin d p → f.place ≡ t.place → refused_kind t.kind ≡ Some c → (q : k.Part) → may_stop q ≡ true → IsFront (p ++ any q t ∷ []) → Where d ts f c p t vs
  firmly c low e h q m w = now (part_due q m w (inl h)) (begins_at c low e (itself h sharp))

  by_why : (c : Construct) → f.cause ≡ refused c → IsFrontWithin d p → Why (FrontOf (p ++ next)) f next → Where d ts f c p t vs
  by_why c q low (by_token e) = by (by_cause (refused_kind t.kind) None c (sym (ap (λ (x : Fault). x.cause) e) ∙ q)) where
    by : (refused_kind t.kind ≡ Some c) ⊎ (None ≡ Some c) → Where d ts f c p t vs
    by (inl h) = now (firm h) (begins_at c low (ap (λ (x : Fault). x.place) e) (itself h sharp))
    by (inr h) = none_some h
  by_why c q low (by_variable e j w) = by (by_cause (refused_kind t.kind) (r.refused_there r.a_variable t.kind) c (sym (ap (λ (x : Fault). x.cause) e) ∙ q)) where
    place : f.place ≡ t.place
    place = ap (λ (x : Fault). x.place) e

    by : (refused_kind t.kind ≡ Some c) ⊎ (r.refused_there r.a_variable t.kind ≡ Some c) → Where d ts f c p t vs
    by (inl h) = firmly c low place h k.variable refl (due_there k.variable w)
    by (inr h) = named c low place (no_variable t.kind c h) (due_there k.variable w)
  by_why c q low (by_operand e j u w v) = by (by_cause (refused_kind t.kind) (r.refused_there r.an_operand t.kind) c (sym (ap (λ (x : Fault). x.cause) e) ∙ q)) where
    place : f.place ≡ t.place
    place = ap (λ (x : Fault). x.place) e

    there : NameOf t.kind c ⊎ ((is_slash t.kind ≡ true) × (construct.RegExp ≡ c)) → Where d ts f c p t vs
    there (inl h) = named c low place h (due_there k.variable v)
    there (inr h) = now (part_due k.operand refl (due_there k.operand w) (inr (λ o. let no : construct.RegExp ≡ construct.Accessor = h.1 ∙ o in (cc))))
        (begins_at c low place (subst (λ x. Begins p t vs x) h.1 (regexp h.0 (due_there k.operand w) sharp)))

    by : (refused_kind t.kind ≡ Some c) ⊎ (r.refused_there r.an_operand t.kind ≡ Some c) → Where d ts f c p t vs
    by (inl h) = firmly c low place h k.operand refl (due_there k.operand w)
    by (inr h) = there (no_operand t.kind c h)
  by_why c q low (by_element e m j w) =
      let same = same_construct (sym (ap (λ (x : Fault). x.cause) e) ∙ q) in
      now (part_due k.element refl (due_there k.element w) (inr (λ o. let no : construct.Hole ≡ construct.Accessor = same ∙ o in (cc))))
      (begins_at c low (ap (λ (x : Fault). x.place) e) (subst (λ x. Begins p t vs x) same (hole m (due_there k.element w) sharp)))
  by_why c q low (by_statement e m j w) =
      let same = same_construct (sym (ap (λ (x : Fault). x.cause) e) ∙ q) in
      now (part_due k.statement refl (due_there k.statement w) (inr (λ o. let no : construct.BlockFunction ≡ construct.Accessor = same ∙ o in (cc))))
      (begins_at c low (ap (λ (x : Fault). x.place) e) (subst (λ x. Begins p t vs x) same (function m (due_there k.statement w) sharp)))
  by_why c q low (by_name {n = v} {x} e (g.at_token u m) n o j w) =
      let same = same_construct (sym (ap (λ (x : Fault). x.cause) e) ∙ q) in
      let is = before_is w.before u [] _ refl w.is in
      at_name w.before u v is (n ∙ ap (λ (y : Construct). Some y) same) (earlier w.before u [] c is (low_part w.before u low is) (ap (λ (x : Fault). x.place) e)
      (subst (λ y. Begins w.before u (t ∷ vs) y) same (name m n (due_front k.variable u w) (λ (h : is_mark mark.Colon t.kind ≡ true). clash (sym h ∙ o)))))
  by_why c q low (by_key e (g.at_token u m) n o j w) =
      let same = same_construct (sym (ap (λ (x : Fault). x.cause) e) ∙ q) in
      let is = before_is w.before u [] _ refl w.is in
      at_key w.before u is (sym same) (earlier w.before u [] c is (low_part w.before u low is) (ap (λ (x : Fault). x.place) e)
      (subst (λ y. Begins w.before u (t ∷ vs) y) same (accessor (ap is_accessor m ∙ n) (due_front k.key u w) o)))

  deletion : (c : Construct) → f.cause ≡ refused c → {ys us : Symbols} → f ≡ record { cause = refused construct.DeleteName; place = (look ys).place } → At (k.word word.Delete) ys us → Nest 0 us next → {j : ℕ} → j ≤ d → FrontOf (p ++ next) j (due k.operand ys) → Where d ts f c p t vs
  deletion c q e (g.at_token u m) nest le w =
      let h = nest_told nest in
      let x = nest_found false 13 (h.moved []) in
      let same = same_construct (sym (ap (λ (x : Fault). x.cause) e) ∙ q) in
      let is = before_is w.before u h.tokens _ (ap (λ l. real u ∷ l) h.is) w.is in
      at_delete w.before u h.tokens is m (sym same) (earlier w.before u h.tokens c is (higher_within le (shorter_within w.before (any k.operand u ∷ []) w.front)) (ap (λ (x : Fault). x.place) e)
      (subst (λ y. Begins w.before u (h.tokens ++ t ∷ vs) y) same
      (delete x.height false x.tree h.tokens vs t m (due_front k.operand u w) refl (subst (λ l. E x.height false 13 l x.tree []) (append-nil (map real h.tokens)) (all_closed x)) x.variable
      (subst (λ l. IsFront l) is front) (λ y. sharp (subst (λ l. IsFront l) (sym (append_assoc w.before (real u ∷ map real h.tokens) (real t ∷ [])) ∙ ap (λ l. l ++ real t ∷ []) (sym is)) y)))))

  -- What reading refuses begins there.
  pub where_refused : (c : Construct) → f.cause ≡ refused c → Reason d f p (p ++ next) next → Where d ts f c p t vs
  where_refused c q (at_next w y) = by_why c q w y
  where_refused c q (behind e o n j le w onwards) = deletion c q e o n le w

-- Where reading stops the fault is there, or begins there, and it is the first.
use Rattle.std.specs.Prelude.{◌≡◌, ℕ, ◌<◌, ◌≤◌, true, false, [], ◌∷◌, ◌++◌, length}
use Rattle.std.proofs.Common.{refl, sym, ap, ◌∙◌, subst, arith, append_assoc, append-nil, length-append, inl, inr}
use Rattle.cc_grammar.specs.Symbols.{Lexeme, real, lexemes_of}
use Rattle.cc_ast.specs.declared.reading.Construct.{Construct}
use Rattle.cc_grammar.specs.Fronts.{Justified}
use Rattle.cc_grammar.specs.Faults.{TokensFront, TokensFrontWithin, Splits, WrongAt, TooDeepAt, FaultAt, rank}
use Rattle.cc_grammar.specs.Laws.{IsText, Fails, IsFirstFault}
use Rattle.cc_grammar.specs.Reading.{Fault, Cause, syntax, depth, spent, refused}
use Rattle.cc_grammar.proofs.Clashes.{clash, same_head, same_tail}
use Rattle.cc_grammar.proofs.Alikeness.Alike.{is_limit, is_spent}
use Rattle.cc_grammar.proofs.Copying.Copies.{L}
use Rattle.cc_grammar.proofs.TokenFronts.{lexemes_append, part_front, part_front_within}
use Rattle.cc_grammar.proofs.Halts.{Halt, halt, is_deletion, is_plain}
use Rattle.cc_grammar.proofs.Refusing.Refusals.{refused_at, where_refused}
use Rattle.cc_grammar.proofs.Refusing.PlainFaults.{none_begins}
use Rattle.cc_grammar.proofs.Refusing.FirstRefusals.{First, first_refusal}

-- ---- the beginnings of a list

record Beginning (p x : L) : Type 0 where
  others : L
  is : p ≡ x ++ others

-- of two beginnings the shorter begins the other
begins : (p r x y : L) → p ++ r ≡ x ++ y → length x ≤ length p → Beginning p x
begins p r [] y e le = record { others = p; is = refl }
begins [] r (t ∷ x) y e le = absurd (omega arith)
begins (u ∷ p) r (t ∷ x) y e le =
    let b = begins p r x y (same_tail u t (p ++ r) (x ++ y) e) (omega arith) in
    record { others = b.others; is = ap (λ (w : Lexeme). w ∷ p) (same_head u t (p ++ r) (x ++ y) e) ∙ ap (λ (l : L). t ∷ l) b.is }

plain_whole : (c : Cause) → is_plain c ≡ true → is_deletion c ≡ false
plain_whole syntax e = refl
plain_whole depth e = refl
plain_whole spent e = refl
plain_whole (refused x) e = clash (sym e)

-- ---- where reading stops

module _ (n d : ℕ) (ts : L) (c : Fault) (s : Halt n d ts c) where
  there : Splits ts (length (lexemes_of s.before)) (lexemes_of s.before) s.token s.after
  there = record { is = s.tokens ∙ append_assoc (lexemes_of s.before) (s.token ∷ []) s.after; count = refl }

  -- the tokens up to one that is no later begin the tokens up to the next
  up_to : {i : ℕ} {before after : L} {t : Lexeme} → i ≤ length (lexemes_of s.before) → Splits ts i before t after → Beginning (lexemes_of s.before ++ s.token ∷ []) (before ++ t ∷ [])
  up_to {i} {before} {after} {t} le p = begins (lexemes_of s.before ++ s.token ∷ []) s.after (before ++ t ∷ []) after (sym s.tokens ∙ p.is ∙ sym (append_assoc before (t ∷ []) after))
      (omega (arith, length-append before (t ∷ []), length-append (lexemes_of s.before) (s.token ∷ []), p.count))

  -- and those up to an earlier one begin the tokens before
  earlier : {i : ℕ} {before after : L} {t : Lexeme} → i < length (lexemes_of s.before) → Splits ts i before t after → Beginning (lexemes_of s.before) (before ++ t ∷ [])
  earlier {i} {before} {after} {t} lt p = begins (lexemes_of s.before) (s.token ∷ s.after) (before ++ t ∷ []) after (sym there.is ∙ p.is ∙ sym (append_assoc before (t ∷ []) after)) (omega (arith, length-append before (t ∷ []), p.count))

  front_before : (p q : L) → lexemes_of s.before ≡ p ++ q → TokensFront p
  front_before p q e = part_front s.before (real s.token ∷ []) s.justified p q e s.stopped_there.front

  within_before : is_deletion c.cause ≡ false → (p q : L) → lexemes_of s.before ≡ p ++ q → TokensFrontWithin d p
  within_before m p q e = part_front_within s.before (real s.token ∷ []) s.justified p q e d (s.stopped_there.within m)

  all_before : lexemes_of s.before ≡ lexemes_of s.before ++ []
  all_before = sym (append-nil (lexemes_of s.before))

  no_front : is_limit c.cause ≡ false → TokensFront (lexemes_of s.before ++ s.token ∷ []) → ⊥
  no_front l f = s.none f.is_front.front.height f.symbols f.is_front.front.within (subst (λ z. Justified z) (append-nil f.symbols) f.is_front.justified) (inl l) f.is_front.tokens

  -- ---- none of syntax or depth is before it

  least : is_deletion c.cause ≡ false → (i : ℕ) (b : Cause) → is_plain b ≡ true → i < length (lexemes_of s.before) → ¬ (FaultAt d ts i b)
  least m i syntax e lt v = let b = earlier lt v.splits in v.wrong (front_before (v.before ++ v.token ∷ []) b.others b.is)
  least m i depth e lt v = let b = earlier lt v.splits in v.deep (within_before m (v.before ++ v.token ∷ []) b.others b.is)
  least m i spent e lt v = v
  least m i (refused x) e lt v = clash (sym e)

  -- ---- the fault

  wrong : is_limit c.cause ≡ false → WrongAt ts (length (lexemes_of s.before))
  wrong l = record {
    before = lexemes_of s.before;
    token = s.token;
    after = s.after;
    splits = there;
    earlier = front_before (lexemes_of s.before) [] all_before;
    wrong = no_front l;
  }

  front_there : is_limit c.cause ≡ true → TokensFront (lexemes_of s.before ++ s.token ∷ [])
  front_there l = record {
    symbols = s.before ++ real s.token ∷ [];
    is_front = record {
      tokens = lexemes_append s.before (real s.token ∷ []);
      justified = subst (λ z. Justified z) (sym (append-nil (s.before ++ real s.token ∷ []))) s.justified;
      front = s.stopped_there.deeper l s.token s.after refl;
    };
  }

  too_deep : is_limit c.cause ≡ true → is_deletion c.cause ≡ false → TooDeepAt d ts (length (lexemes_of s.before))
  too_deep l m = record {
    before = lexemes_of s.before;
    token = s.token;
    after = s.after;
    splits = there;
    front = front_there l;
    deep = λ f. s.none d f.symbols f.front f.justified (inr (omega arith)) f.tokens;
    earlier = within_before m (lexemes_of s.before) [] all_before;
  }

  fault_there : (x : Cause) → c.cause ≡ x → is_plain x ≡ true → FaultAt d ts (length (lexemes_of s.before)) x
  fault_there syntax e m = wrong (ap is_limit e)
  fault_there depth e m = too_deep (ap is_limit e) (ap is_deletion e)
  fault_there spent e m = clash (sym (ap is_spent e) ∙ s.stopped_there.unspent)
  fault_there (refused x) e m = clash (sym m)

  -- ---- at the same token

  no_others : (l : L) → length l ≡ 0 → l ≡ []
  no_others [] e = refl
  no_others (t ∷ l) e = absurd (omega (arith, e))

  only_one : is_limit c.cause ≡ false → ¬ (TooDeepAt d ts (length (lexemes_of s.before)))
  only_one l v =
      let b = up_to (omega arith) v.splits in
      let none = no_others b.others (omega (arith, ap length b.is, length-append (v.before ++ v.token ∷ []) b.others, length-append v.before (v.token ∷ []), length-append (lexemes_of s.before) (s.token ∷ []), v.splits.count)) in
      no_front l (subst (λ z. TokensFront z) (sym (b.is ∙ ap (λ z. (v.before ++ v.token ∷ []) ++ z) none ∙ append-nil (v.before ++ v.token ∷ []))) v.front)

  ranked : (b : Cause) → is_plain b ≡ true → rank b < rank c.cause → ¬ (FaultAt d ts (length (lexemes_of s.before)) b)
  ranked b e lt v = by b e lt v c.cause refl where
    by : (b : Cause) → is_plain b ≡ true → rank b < rank c.cause → FaultAt d ts (length (lexemes_of s.before)) b → (x : Cause) → c.cause ≡ x → ⊥
    by (refused y) e lt v x q = clash (sym e)
    by spent e lt v x q = v
    by syntax e lt v (refused y) q = omega (arith, lt, ap rank q)
    by syntax e lt v depth q = omega (arith, lt, ap rank q)
    by syntax e lt v spent q = omega (arith, lt, ap rank q)
    by syntax e lt v syntax q = omega (arith, lt, ap rank q)
    by depth e lt v (refused y) q = omega (arith, lt, ap rank q)
    by depth e lt v depth q = omega (arith, lt, ap rank q)
    by depth e lt v spent q = clash (sym (ap is_spent q) ∙ s.stopped_there.unspent)
    by depth e lt v syntax q = only_one (ap is_limit q) v

  placed : (x : Cause) → c.cause ≡ x → is_plain x ≡ true → c.place ≡ s.token.place
  placed syntax e m = s.stopped_there.placed e
  placed depth e m = s.stopped_there.placed_deep (ap is_limit e)
  placed spent e m = clash (sym (ap is_spent e) ∙ s.stopped_there.unspent)
  placed (refused x) e m = clash (sym m)

-- Where it stops, but not at a refused construct.
plain_fault : (n d : ℕ) (ts : L) (f : Fault) → IsText ts → length ts < n → Halt n d ts f → is_plain f.cause ≡ true → Fails d ts f
plain_fault n d ts f text lt s m = record {
  before = lexemes_of s.before;
  token = s.token;
  after = s.after;
  number = length (lexemes_of s.before);
  splits = there n d ts f s;
  place = placed n d ts f s f.cause refl m;
  first = record {
    is = fault_there n d ts f s f.cause refl m;
    least = λ i b lt v. by_place i b lt v;
    ranked = λ b lt v. by_rank b lt v;
  };
} where
  by_place : (i : ℕ) (b : Cause) → i < length (lexemes_of s.before) → ¬ (FaultAt d ts i b)
  by_place i (refused x) le v = none_begins n d ts f text lt s m (omega arith) v
  by_place i syntax le v = least n d ts f s (plain_whole f.cause m) i syntax refl le v
  by_place i depth le v = least n d ts f s (plain_whole f.cause m) i depth refl le v
  by_place i spent le v = v

  by_rank : (b : Cause) → rank b < rank f.cause → ¬ (FaultAt d ts (length (lexemes_of s.before)) b)
  by_rank (refused x) le v = none_begins n d ts f text lt s m (omega arith) v
  by_rank syntax le v = ranked n d ts f s syntax refl le v
  by_rank depth le v = ranked n d ts f s depth refl le v
  by_rank spent le v = v

-- at a refused construct
refused_fault : (n d : ℕ) (ts : L) (f : Fault) (text : IsText ts) (enough : length ts < n) (s : Halt n d ts f) (c : Construct) (q : f.cause ≡ refused c) → First n d ts f text enough s c q → Fails d ts f
refused_fault n d ts f text enough s c q y = record {
  before = lexemes_of y.symbols;
  token = y.token;
  after = y.after;
  number = length (lexemes_of y.symbols);
  splits = record { is = y.refusal.splits; count = refl };
  place = y.refusal.place;
  first = record {
    is = subst (λ z. FaultAt d ts (length (lexemes_of y.symbols)) z) (sym q) (refused_at y.refusal);
    least = λ i b lt v. by_place i b lt v;
    ranked = λ b lt v. omega (arith, lt, ap rank q);
  };
} where
  begun : {i : ℕ} {before after : L} {t : Lexeme} → i < length (lexemes_of y.symbols) → Splits ts i before t after → Beginning (lexemes_of y.symbols) (before ++ t ∷ [])
  begun {i} {before} {after} {t} lt p = begins (lexemes_of y.symbols) (y.token ∷ y.after) (before ++ t ∷ []) after (sym y.refusal.splits ∙ p.is ∙ sym (append_assoc before (t ∷ []) after)) (omega (arith, lt, length-append before (t ∷ []), p.count))

  by_place : (i : ℕ) (b : Cause) → i < length (lexemes_of y.symbols) → ¬ (FaultAt d ts i b)
  by_place i (refused x) lt v = y.first i x lt v
  by_place i syntax lt v = let b = begun lt v.splits in v.wrong (part_front y.symbols (real y.token ∷ []) y.refusal.justified (v.before ++ v.token ∷ []) b.others b.is (record { height = d; within = y.refusal.within }))
  by_place i depth lt v = let b = begun lt v.splits in v.deep (part_front_within y.symbols (real y.token ∷ []) y.refusal.justified (v.before ++ v.token ∷ []) b.others b.is d y.refusal.within)
  by_place i spent lt v = v

pub first_fault : IsFirstFault
first_fault turns d ts us f text lt q = let s = halt turns d text lt q in by s f.cause refl where
  by : Halt turns d ts f → (x : Cause) → f.cause ≡ x → Fails d ts f
  by s (refused c) e =
      let l : is_limit f.cause ≡ false = ap is_limit e in
      refused_fault turns d ts f text lt s c e (first_refusal turns d ts f text lt s c e
      (where_refused d ts f s.before s.token s.after (s.tokens ∙ append_assoc (lexemes_of s.before) (s.token ∷ []) s.after) s.justified s.stopped_there.front
      (λ x. s.none x.height (s.before ++ real s.token ∷ []) x.within s.justified (inl l) (lexemes_append s.before (real s.token ∷ []))) c e (s.stopped_there.why l)))
  by s syntax e = plain_fault turns d ts f text lt s (ap is_plain e)
  by s depth e = plain_fault turns d ts f text lt s (ap is_plain e)
  by s spent e = plain_fault turns d ts f text lt s (ap is_plain e)

-- Scopes that follow others: with the same heads and declarations, and otherwise with fewer parts.
use Rattle.std.proofs.Common.{◌≡◌, ℕ, Bool, true, false, List, [], ◌∷◌, Option, Some, refl, subst}
use Rattle.std.specs.Prelude.{slice_get}
use Rattle.cc_ast.specs.Syntax.{Scope}
use Rattle.cc_ast.specs.declared.tree.Ref.{Ref}
use Rattle.cc_ast.specs.declared.tables.ChunkInfo.{ChunkInfo}
use Rattle.cc_meaning.specs.State.{Tables}
use Rattle.cc_meaning.specs.Alike.{In, ListT, nil_t, cons_t, OptT, none_t, some_t}
use Rattle.cc_meaning.specs.Shapes.{body_in, sets_by_stmts, sets_by_chunks}
use Rattle.cc_meaning.specs.Parts.{declares, stmts_parts}
use Rattle.cc_meaning.specs.FlatPaths.{in_stmts, in_scopes}
use Rattle.cc_meaning.specs.Spelled.{stmts_labels}
use Rattle.cc_meaning.specs.WellMade.{Open, stmts_well, all_functions}
use Rattle.cc_tied.proofs.Mixed.KeptSets.{Within, within_both}
use Rattle.cc_tied.proofs.Lists.{tied_get}
use Rattle.cc_fold.proofs.Sublists.{Sublist, sub_none, sub_both}
use Rattle.cc_fold.proofs.WellMade.FewerParts.{Fewer, fewer_same}
use Rattle.cc_fold.proofs.WellMade.Mentioned.{Mentioned, mentioned_same, mentioned_both}

module _ (T : Tables) where
  -- the second follows the first
  pub record Follows (s t : Scope) : Type 0 where
    pub params : t.params ≡ s.params
    pub names : t.names ≡ s.names
    pub own : t.own ≡ s.own
    pub parent : t.parent ≡ s.parent
    pub doc : t.doc ≡ s.doc
    pub parts : Fewer (stmts_parts T 0 t.body) (stmts_parts T 0 s.body)
    pub declared : (c : ℕ) (r : Ref) → In (declares c r) (stmts_parts T 0 s.body) → In (declares c r) (stmts_parts T 0 t.body)
    pub well : (o : Open) → stmts_well T o [] s.body ≡ true → stmts_well T o [] t.body ≡ true
    pub sets : Within (sets_by_stmts s.body) (sets_by_stmts t.body)
    pub mentions : (own : Bool) → Mentioned (in_stmts own s.body) (in_stmts own t.body)
    pub labels : stmts_labels t.body ≡ stmts_labels s.body

  pub follows_itself : (s : Scope) → Follows s s
  follows_itself s = record { params = refl; names = refl; own = refl; parent = refl; doc = refl; parts = fewer_same (stmts_parts T 0 s.body); declared = λ c r i. i; well = λ o h. h; sets = λ x i. i; mentions = λ own. mentioned_same (in_stmts own s.body); labels = refl }

  -- ---- one scope of a list

  pub record Before (ss : List Scope) (f : ℕ) (t : Scope) : Type 0 where
    pub scope : Scope
    pub stands : slice_get ss f ≡ Some scope
    pub follows : Follows scope t

  pub record After (ts : List Scope) (f : ℕ) (s : Scope) : Type 0 where
    pub scope : Scope
    pub stands : slice_get ts f ≡ Some scope
    pub follows : Follows s scope

  before_by : (ss : List Scope) (f : ℕ) (t : Scope) {x y : Option Scope} → slice_get ss f ≡ x → OptT Follows x y → y ≡ Some t → Before ss f t
  before_by ss f t h none_t e = absurd (cc)
  before_by ss f t h (some_t {a = a} {b = b} k) e = let d : b ≡ t = cc in record { scope = a; stands = h; follows = subst (Follows a) d k }

  pub before : {ss ts : List Scope} → ListT Follows ss ts → (f : ℕ) (t : Scope) → slice_get ts f ≡ Some t → Before ss f t
  before {ss = ss} l f t e = before_by ss f t refl (tied_get l f) e

  after_by : (ts : List Scope) (f : ℕ) (s : Scope) {x y : Option Scope} → slice_get ts f ≡ y → OptT Follows x y → x ≡ Some s → After ts f s
  after_by ts f s h none_t e = absurd (cc)
  after_by ts f s h (some_t {a = a} {b = b} k) e = let d : a ≡ s = cc in record { scope = b; stands = h; follows = subst (λ z. Follows z b) d k }

  pub after : {ss ts : List Scope} → ListT Follows ss ts → (f : ℕ) (s : Scope) → slice_get ss f ≡ Some s → After ts f s
  after {ts = ts} l f s e = after_by ts f s refl (tied_get l f) e

  fewer_by : {x y : Option Scope} → OptT Follows x y → Fewer (stmts_parts T 0 (body_in y)) (stmts_parts T 0 (body_in x))
  unfolding body_in
  fewer_by none_t = fewer_same _
  fewer_by (some_t k) = k.parts

  pub fewer_at : {ss ts : List Scope} → ListT Follows ss ts → (f : ℕ) → Fewer (stmts_parts T 0 (body_in (slice_get ts f))) (stmts_parts T 0 (body_in (slice_get ss f)))
  fewer_at l f = fewer_by (tied_get l f)

  declared_by : {x y : Option Scope} → OptT Follows x y → (c : ℕ) (r : Ref) → In (declares c r) (stmts_parts T 0 (body_in x)) → In (declares c r) (stmts_parts T 0 (body_in y))
  unfolding body_in
  declared_by none_t c r i = i
  declared_by (some_t k) c r i = k.declared c r i

  pub declared_at : {ss ts : List Scope} → ListT Follows ss ts → (f c : ℕ) (r : Ref) → In (declares c r) (stmts_parts T 0 (body_in (slice_get ss f))) → In (declares c r) (stmts_parts T 0 (body_in (slice_get ts f)))
  declared_at l f c r i = declared_by (tied_get l f) c r i

  -- ---- all of them

  pub sets_within : (cs : List ChunkInfo) {ss ts : List Scope} → ListT Follows ss ts → Within (sets_by_chunks cs ss) (sets_by_chunks cs ts)
  unfolding sets_by_chunks
  sets_within [] l x i = elim i [ ]
  sets_within (c ∷ cs) nil_t x i = i
  sets_within (c ∷ cs) (cons_t {a = a} k l) x i = within_both (sets_by_stmts a.body) k.sets (sets_within cs l) x i

  pub functions_sub : {ss ts : List Scope} → ListT Follows ss ts → Sublist (all_functions T ts) (all_functions T ss)
  unfolding all_functions
  functions_sub nil_t = sub_none
  functions_sub (cons_t k l) = sub_both k.parts.functions (functions_sub l)

  pub all_mentioned : (cs : List ChunkInfo) {ss ts : List Scope} → ListT Follows ss ts → Mentioned (in_scopes cs ss) (in_scopes cs ts)
  unfolding in_scopes
  all_mentioned [] nil_t = mentioned_same []
  all_mentioned [] (cons_t k l) = mentioned_both (k.mentions false) (all_mentioned [] l)
  all_mentioned (c ∷ cs) nil_t = mentioned_same []
  all_mentioned (c ∷ cs) (cons_t k l) = mentioned_both (k.mentions true) (all_mentioned cs l)

-- What follows of a kit at once: ties stay, and parts of the meaning that judge nothing keep them.
use Rattle.std.proofs.Common.{◌≡◌, refl, ap, ℕ, suc, ◌≤◌, Bool, true, false, List, [], ◌∷◌, ◌++◌, Option, subst}
use Rattle.cc_ast.specs.Syntax.{Prim}
use Rattle.cc_ast.specs.declared.tree.Ref.{Ref}
use Rattle.cc_meaning.specs.Values.{Val, prim, obj, out, View, Event, ended, threw}
use Rattle.cc_meaning.specs.Operators.{truthy}
use Rattle.cc_meaning.specs.State.{Code, Path}
use Rattle.cc_meaning.specs.Monad.{told, M, ret, say, ◌>>=◌, Way, pick}
use Rattle.cc_meaning.specs.Store.{flat_of}
use Rattle.cc_meaning.specs.Acts.{show_all, show_receiver}
use Rattle.cc_meaning.specs.Calls.{Reference, Reach, Callee, Returned, Bodies, tell_end}
use Rattle.cc_meaning.specs.Meaning.{Comp, Place}
use Rattle.cc_tied.specs.Tied.{ListT, nil_t, cons_t, OptT, none_t, some_t, ValT, prim_t, out_t, obj_t, WayT, went_t, thrown_t, CompT, normal_t, returns_t, breaks_t, continues_t, ReturnedT, CodeT, CastT, ReferenceT, ReachT, plain_t, access_t, global_t, member_t, CalleeT, value_t, use_t, PlaceT, variable_t, slot_t}
use Rattle.cc_tied.proofs.Kit.{Kit}

-- ---- lists

pub cons_parts : {A B : Type 0} {R : A → B → Type 0} {a : A} {b : B} {as' : List A} {bs : List B} → ListT R (a ∷ as') (b ∷ bs) → R a b × ListT R as' bs
cons_parts (cons_t h t) = (h, t)

pub no_nil : {A B : Type 0} {R : A → B → Type 0} {b : B} {bs : List B} → ListT R [] (b ∷ bs) → ⊥
no_nil h = elim h [ ]

pub no_cons : {A B : Type 0} {R : A → B → Type 0} {a : A} {as' : List A} → ListT R (a ∷ as') [] → ⊥
no_cons h = elim h [ ]

pub list_as : {A B : Type 0} {R S : A → B → Type 0} → ((a : A) (b : B) → R a b → S a b) → {as' : List A} {bs : List B} → ListT R as' bs → ListT S as' bs
list_as f nil_t = nil_t
list_as f (cons_t h t) = cons_t (f _ _ h) (list_as f t)

pub opt_as : {A B : Type 0} {R S : A → B → Type 0} → ((a : A) (b : B) → R a b → S a b) → {a : Option A} {b : Option B} → OptT R a b → OptT S a b
opt_as f none_t = none_t
opt_as f (some_t h) = some_t (f _ _ h)

pub list_on : {A B : Type 0} {R : A → B → Type 0} {as' cs : List A} {bs ds : List B} → ListT R as' bs → ListT R cs ds → ListT R (as' ++ cs) (bs ++ ds)
list_on nil_t k = k
list_on (cons_t h t) k = cons_t h (list_on t k)

module _ (K : Kit) where
  open K use {J, J', tables, tables', World, Later, later, now, bound, bound', SpotT, FunT, ReadT, DocT, FlatT, O, KeyT, UpT, O_later, key_later, up_later, Rel, rel_ret, rel_bind, rel_say, rel_show}

  abbrev pub SiteT : ℕ → ℕ → Type 0
  SiteT i j = K.SpotT (Rattle.cc_meaning.specs.Values.at_site i) (Rattle.cc_meaning.specs.Values.at_site j)

  abbrev pub V : World → Val → Val → Type 0
  V w = ValT (O w)

  abbrev pub OptV : World → Option Val → Option Val → Type 0
  OptV w = OptT (V w)

  abbrev pub ListV : World → List Val → List Val → Type 0
  ListV w = ListT (V w)

  abbrev pub CompV : World → Comp → Comp → Type 0
  CompV w = CompT SpotT (V w)

  abbrev pub WayV : World → Way Comp → Way Comp → Type 0
  WayV w = WayT (V w) (CompV w)

  abbrev pub EndV : World → Way Val → Way Val → Type 0
  EndV w = WayT (V w) (V w)

  abbrev pub CodeV : World → Code → Code → Type 0
  CodeV w = CodeT SpotT FunT (UpT w)

  abbrev pub ReturnedV : World → Returned → Returned → Type 0
  ReturnedV w = ReturnedT SpotT (V w)

  abbrev pub CastsT : List (ℕ × ℕ) → List (ℕ × ℕ) → Type 0
  CastsT = ListT (CastT SpotT DocT)

  abbrev pub ReferenceV : World → Reference → Reference → Type 0
  ReferenceV w = ReferenceT SpotT (V w) (KeyT w) FlatT DocT

  abbrev pub ReachV : World → Reach → Reach → Type 0
  ReachV w = ReachT SpotT (V w) (ReferenceV w)

  abbrev pub CalleeV : World → Callee → Callee → Type 0
  CalleeV w = CalleeT (V w)

  abbrev pub PlaceV : (Reads Writes : Ref → Ref → Type 0) → World → Place → Place → Type 0
  PlaceV Reads Writes w = PlaceT SpotT Reads Writes (ReferenceV w)

  -- nothing is given
  abbrev pub Done : World → Unit {0} → Unit {0} → Type 0
  Done w a b = Unit {0}

  abbrev pub Equal : {A : Type 0} → World → A → A → Type 0
  Equal w a b = a ≡ b

  -- two paths that are set to values: both are flat and tied, or neither is flat
  pub record PathT (p p' : Option Path) : Type 0 where
    pub flat : OptT FlatT (flat_of tables p) (flat_of tables' p')

  -- ---- later

  pub val_later : {v w : World} → Later v w → {a b : Val} → V v a b → V w a b
  val_later l prim_t = prim_t
  val_later l out_t = out_t
  val_later l (obj_t h) = obj_t (O_later l h)

  pub opt_later : {v w : World} → Later v w → {a b : Option Val} → OptV v a b → OptV w a b
  opt_later l h = opt_as (λ a b q. val_later l q) h

  pub list_later : {v w : World} → Later v w → {a b : List Val} → ListV v a b → ListV w a b
  list_later l h = list_as (λ a b q. val_later l q) h

  pub comp_later : {v w : World} → Later v w → {a b : Comp} → CompV v a b → CompV w a b
  comp_later l normal_t = normal_t
  comp_later l (returns_t i h) = returns_t i (val_later l h)
  comp_later l breaks_t = breaks_t
  comp_later l continues_t = continues_t

  pub way_later : {v w : World} → Later v w → {a b : Way Comp} → WayV v a b → WayV w a b
  way_later l (went_t h) = went_t (comp_later l h)
  way_later l (thrown_t h) = thrown_t (val_later l h)

  pub code_later : {v w : World} → Later v w → {a b : Code} → CodeV v a b → CodeV w a b
  code_later l h = record { function = h.function; up = up_later l h.up; site = h.site }

  pub reference_later : {v w : World} → Later v w → {a b : Reference} → ReferenceV v a b → ReferenceV w a b
  reference_later l h = record { site = h.site; on = val_later l h.on; key = key_later l h.key; path = h.path; casts = h.casts }

  pub reach_later : {v w : World} → Later v w → {a b : Reach} → ReachV v a b → ReachV w a b
  reach_later l (plain_t h) = plain_t (val_later l h)
  reach_later l (access_t h) = access_t (reference_later l h)
  reach_later l (global_t i) = global_t i
  reach_later l (member_t i e) = member_t i e

  pub callee_later : {v w : World} → Later v w → {a b : Callee} → CalleeV v a b → CalleeV w a b
  callee_later l (value_t h k) = value_t (val_later l h) (opt_later l k)
  callee_later l (use_t h) = use_t (list_later l h)

  pub place_later : {Reads Writes : Ref → Ref → Type 0} {v w : World} → Later v w → {a b : Place} → PlaceV Reads Writes v a b → PlaceV Reads Writes w a b
  place_later l (variable_t i rd wr) = variable_t i rd wr
  place_later l (slot_t h) = slot_t (reference_later l h)

  -- ---- choices

  pub truthy_tied : {w : World} {a b : Val} → V w a b → truthy a ≡ truthy b
  unfolding truthy
  truthy_tied (prim_t {p = p}) = refl
  truthy_tied out_t = refl
  truthy_tied (obj_t h) = refl

  pub rel_pick : {A B : Type 0} {R : World → A → B → Type 0} {w : World} {m n : M A} {m' n' : M B} → (b b' : Bool) → b ≡ b' → Rel R w m m' → Rel R w n n' → Rel R w (pick b m n) (pick b' m' n')
  rel_pick true true e h k = h
  rel_pick true false e h k = absurd (cc)
  rel_pick false true e h k = absurd (cc)
  rel_pick false false e h k = k

  pub rel_skip : {w : World} → Rel Done w Rattle.cc_meaning.specs.Monad.skip Rattle.cc_meaning.specs.Monad.skip
  rel_skip = rel_ret tt tt tt

  -- ---- what is told

  pub rel_show_all : (vs vs' : List Val) {w : World} → ListV w vs vs' → Rel Equal w (show_all vs) (show_all vs')
  unfolding show_all
  rel_show_all [] [] h = rel_ret [] [] refl
  rel_show_all [] (y ∷ ys) h = absurd (no_nil h)
  rel_show_all (x ∷ xs) [] h = absurd (no_cons h)
  rel_show_all (x ∷ xs) (y ∷ ys) h = rel_bind (rel_show (cons_parts h).0) (λ v2 l2 a b e. rel_bind (rel_show_all xs ys (list_later l2 (cons_parts h).1)) (λ v3 l3 as' bs d. rel_ret (a ∷ as') (b ∷ bs) (cc)))

  pub rel_show_receiver : {w : World} {a b : Option Val} → OptV w a b → Rel Equal w (show_receiver a) (show_receiver b)
  unfolding show_receiver
  rel_show_receiver none_t = rel_ret _ _ refl
  rel_show_receiver (some_t h) = rel_show h

  pub rel_tell : {w : World} (e e' : Event) → e ≡ e' → Rel Done w (say (told e)) (say (told e'))
  rel_tell {w = w} e e' q = subst (λ z. Rel Done w (say (told e)) (say (told z))) q (rel_say e)

  pub rel_tell_end : {w : World} {a b : Way Val} → EndV w a b → Rel Done w (tell_end a) (tell_end b)
  unfolding tell_end
  rel_tell_end (went_t h) = rel_bind (rel_show h) (λ v2 l2 x x' e. rel_tell (ended x) (ended x') (ap ended e))
  rel_tell_end (thrown_t h) = rel_bind (rel_show h) (λ v2 l2 x x' e. rel_tell (threw x) (threw x') (ap threw e))

  -- ---- bodies that keep the relation

  pub record BodiesT (w : World) (B B' : Bodies) : Type 0 where
    pub by : (v : World) → Later w v → suc (bound v) ≤ bound w → suc (bound' v) ≤ bound' w → (a b : Code) → CodeV v a b → (t t' : Option Val) (vs vs' : List Val) → OptV v t t' → ListV v vs vs' → Rel ReturnedV v (B a t vs) (B' b t' vs')

-- what two parts of programs call, tied from a world on
pub record Below (K : Kit) : Type 0 where
  pub B : Bodies
  pub B' : Bodies
  pub w : K.World
  pub tied : BodiesT K w B B'

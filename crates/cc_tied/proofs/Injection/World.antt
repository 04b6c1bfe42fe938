-- What is tied in a world: objects and frames by partial injections, values by their objects.
use Rattle.std.proofs.Common.{◌≡◌, ◌⊎◌, ℕ, false, List, [], Option, Some, None}
use Rattle.std.specs.Prelude.{slice_get}
use Rattle.cc_ast.specs.Syntax.{Prim}
use Rattle.cc_ast.specs.declared.tables.Element.{Element}
use Rattle.cc_meaning.specs.Values.{Val, prim, obj}
use Rattle.cc_meaning.specs.Names.{is_index}
use Rattle.cc_meaning.specs.Store.{flat_option}
use Rattle.cc_meaning.specs.State.{Kind, dotted_kind, quoted_kind, keyed_kind, Slot, Code, Obj, Frame, Tables}
use Rattle.cc_meaning.specs.Alike.{In}
use Rattle.cc_tied.specs.Tied.{ListT, OptT, ValT, prim_t, out_t, obj_t, CodeT}
use Rattle.cc_tied.specs.Facts.{Level, frame_kind, Held, holds_function, holds_literal, Facts, outward, DeadAt, FixedAt}
use Rattle.cc_tied.specs.Injection.{Pair, Lone}
use Rattle.cc_tied.proofs.Parts.{list_as, opt_as}
use Rattle.cc_tied.proofs.Injection.Places.{Places, places_more}

-- what never changes in two frames: where they come from, the frames around them, and the left one's values at the beginning
pub record Label : Type 0 where
  pub level : Level
  pub up : Option ℕ
  pub up' : Option ℕ
  pub first : List (Option Val)

-- An object of the left and one of the right that stand in no pair, which a chunk's own list made once for
-- all; and what for.
pub record Once : Type 0 where
  pub mark : ℕ
  pub left : ℕ
  pub right : ℕ

-- Objects are labelled with the left one's code. Of the left run alone there are objects that aren't
-- functions, and frames, which stay as they are. Known globals hold what `still` says, until functions
-- are bound to them anew; and chunks of which `begun` says so are loaded.
pub record Tabs : Type 0 where
  pub objs : List (Pair (Option Code))
  pub frames : List (Pair Label)
  pub spare : List (Lone (Unit {0}))
  pub alone : List (Lone Frame)
  pub still : List (Option Val)
  pub begun : List ℕ
  -- what chunks' own lists made once for all
  pub stage : List Once

-- what is tied stays tied
pub record Ext (v w : Tabs) : Type 0 where
  pub objs : (p : Pair (Option Code)) → In p v.objs → In p w.objs
  pub frames : (p : Pair Label) → In p v.frames → In p w.frames
  pub spare : (p : Lone (Unit {0})) → In p v.spare → In p w.spare
  pub alone : (p : Lone Frame) → In p v.alone → In p w.alone
  pub begun : (c : ℕ) → In c v.begun → In c w.begun

pub ext_same : (w : Tabs) → Ext w w
ext_same w = record { objs = λ p h. h; frames = λ p h. h; spare = λ p h. h; alone = λ p h. h; begun = λ c h. h }

pub ext_on : {u v w : Tabs} → Ext u v → Ext v w → Ext u w
ext_on l k = record { objs = λ p h. k.objs p (l.objs p h); frames = λ p h. k.frames p (l.frames p h); spare = λ p h. k.spare p (l.spare p h); alone = λ p h. k.alone p (l.alone p h); begun = λ c h. k.begun c (l.begun c h) }

-- ---- values

abbrev pub Mates : Tabs → ℕ → ℕ → Type 0
Mates w m n = (x : Option Code) × In (record { label = x; left = m; right = n }) w.objs

-- an object of the left run that is tied to one of the right
pub record Mate (ps : List (Pair (Option Code))) (m : ℕ) : Type 0 where
  pub label : Option Code
  pub right : ℕ
  pub mates : In (record { label = label; left = m; right = right }) ps

-- an object of the right run that is tied to one of the left; and each is, but what has nothing on its chain
pub record Mated (ps : List (Pair (Option Code))) (n : ℕ) : Type 0 where
  pub label : Option Code
  pub left : ℕ
  pub mates : In (record { label = label; left = left; right = n }) ps

abbrev pub AllMated : List (Pair (Option Code)) → List Obj → Type 0
AllMated ps os = (n : ℕ) (o : Obj) → slice_get os n ≡ Some o → Mated ps n ⊎ (o.chain ≡ [])

abbrev pub Vals : Tabs → Val → Val → Type 0
Vals w = ValT (Mates w)

pub mates_more : {v w : Tabs} → Ext v w → {m n : ℕ} → Mates v m n → Mates w m n
mates_more l h = (h.0, l.objs _ h.1)

pub val_more : {v w : Tabs} → Ext v w → (a b : Val) → Vals v a b → Vals w a b
val_more l a b prim_t = prim_t
val_more l a b out_t = out_t
val_more l a b (obj_t h) = obj_t (mates_more l h)

pub opt_more : {v w : Tabs} → Ext v w → {a b : Option Val} → OptT (Vals v) a b → OptT (Vals w) a b
opt_more l h = opt_as (val_more l) h

pub vals_more : {v w : Tabs} → Ext v w → {a b : List Val} → ListT (Vals v) a b → ListT (Vals w) a b
vals_more l h = list_as (val_more l) h

-- ---- slots

-- a slot is made by a text where it was made by a key of the run
pub data KindT : Kind → Kind → Type 0 where
  same_kind : {k : Kind} → KindT k k
  written_kind : KindT keyed_kind quoted_kind

-- no index name is dotted
pub record SlotT (O : ℕ → ℕ → Type 0) (a b : Slot) : Type 0 where
  pub name : a.name ≡ b.name
  pub kind : KindT a.kind b.kind
  pub value : ValT O a.value b.value
  pub index : a.kind ≡ dotted_kind → is_index a.name ≡ false

-- ---- globals

-- nothing, or an object of this function
pub data FunctionAt (w : Tabs) (f : ℕ) : Option Val → Type 0 where
  no_function : FunctionAt w f None
  a_function : {c : Code} {m n : ℕ} → c.function ≡ f → In (record { label = Some c; left = m; right = n }) w.objs → FunctionAt w f (Some (obj m))

pub function_more : {v w : Tabs} → Ext v w → {f : ℕ} {o : Option Val} → FunctionAt v f o → FunctionAt w f o
function_more l no_function = no_function
function_more l (a_function e h) = a_function e (l.objs _ h)

-- a global that is set by its declaration alone; a function that it holds stays
pub data KnownT (w : Tabs) (still : List (Option Val)) (g : ℕ) : Held → Option Val → Type 0 where
  function_k : {f : ℕ} {o : Option Val} → FunctionAt w f o → o ≡ flat_option (slice_get still g) → KnownT w still g (holds_function f) o
  unset_k : {p : Prim} → KnownT w still g (holds_literal p) None
  literal_k : {p : Prim} → KnownT w still g (holds_literal p) (Some (prim p))

pub known_more : {v w : Tabs} → Ext v w → {x : List (Option Val)} {g : ℕ} {h : Held} {o : Option Val} → KnownT v x g h o → KnownT w x g h o
known_more l (function_k h e) = function_k (function_more l h) e
known_more l unset_k = unset_k
known_more l literal_k = literal_k

-- ---- frames and objects

module _ (F : Facts) (S : Tables) where
  pub data UpT (w : Tabs) : Option Level → Option ℕ → Option ℕ → Type 0 where
    no_up : UpT w None None None
    an_up : (l : Label) {k : Level} {m n : ℕ} → l.level ≡ k → In (record { label = l; left = m; right = n }) w.frames → UpT w (Some k) (Some m) (Some n)

  -- one function, which is reached
  pub record FunI (f f' : ℕ) : Type 0 where
    pub same : f ≡ f'
    pub reached : F.Reached f

  abbrev pub Codes : Tabs → Code → Code → Type 0
  Codes w = CodeT (λ i j. Unit {0}) FunI (λ f f' a b. UpT w (outward F S (Rattle.cc_tied.specs.Facts.called f)) a b)

  -- Classes, element types and names are the same, but the left array may have more element types entered.
  pub record ObjT (w : Tabs) (x : Option Code) (a b : Obj) : Type 0 where
    pub label : a.code ≡ x
    pub class : a.class ≡ b.class
    pub chain : ListT (Mates w) a.chain b.chain
    pub slots : ListT (SlotT (Mates w)) a.slots b.slots
    pub code : OptT (Codes w) a.code b.code
    pub elements : OptT (ListT (Vals w)) a.elements b.elements
    pub wanted : (e : Element) → In e b.wanted → In e a.wanted

  -- Places that are never read may differ; a place that is never assigned stays as it was.
  pub record FrameT (w : Tabs) (x : Label) (a b : Frame) : Type 0 where
    pub kind : a.kind ≡ frame_kind x.level
    pub kind' : b.kind ≡ frame_kind x.level
    pub up : a.up ≡ x.up
    pub up' : b.up ≡ x.up'
    pub around : UpT w (outward F S x.level) x.up x.up'
    pub places : Places (Vals w) (DeadAt F x.level) a.values b.values
    pub fixed : (n : ℕ) → FixedAt F x.level n → slice_get a.values n ≡ slice_get x.first n

  pub up_more : {v w : Tabs} → Ext v w → {k : Option Level} {a b : Option ℕ} → UpT v k a b → UpT w k a b
  up_more l no_up = no_up
  up_more l (an_up x e h) = an_up x e (l.frames _ h)

  pub codes_more : {v w : Tabs} → Ext v w → (a b : Code) → Codes v a b → Codes w a b
  codes_more l a b h = record { function = h.function; up = up_more l h.up; site = tt }

  slot_more : {v w : Tabs} → Ext v w → (a b : Slot) → SlotT (Mates v) a b → SlotT (Mates w) a b
  slot_more l a b h = record { name = h.name; kind = h.kind; value = val_more l _ _ h.value; index = h.index }

  pub obj_more : {v w : Tabs} → Ext v w → (x : Option Code) (a b : Obj) → ObjT v x a b → ObjT w x a b
  obj_more l x a b h = record { label = h.label; class = h.class; chain = list_as (λ m n q. mates_more l q) h.chain; slots = list_as (slot_more l) h.slots; code = opt_as (codes_more l) h.code; elements = opt_as (λ xs ys q. vals_more l q) h.elements; wanted = h.wanted }

  pub frame_more : {v w : Tabs} → Ext v w → (x : Label) (a b : Frame) → FrameT v x a b → FrameT w x a b
  frame_more l x a b h = record { kind = h.kind; kind' = h.kind'; up = h.up; up' = h.up'; around = up_more l h.around; places = places_more (val_more l) h.places; fixed = h.fixed }

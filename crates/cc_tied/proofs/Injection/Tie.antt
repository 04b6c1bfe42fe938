-- The tie for folding, inlining and local dead code: two checked runs whose objects and frames are tied by partial injections.
use Rattle.std.proofs.Common.{◌≡◌, ◌⊎◌, ℕ, suc, ◌<◌, Bool, true, false, List, [], ◌∷◌, length, Option, Some, None, refl, ◌∙◌, subst, ap, ◌++◌}
use Rattle.std.specs.Prelude.{slice_get, slice_set, nat_eq}
use Rattle.std.specs.List.{list_any}
use Rattle.std.proofs.lemmas.Bool.{eq-eqb, eqb-true}
use Rattle.cc_ast.specs.Syntax.{Prim, Expr, Exprs}
use Rattle.cc_ast.specs.declared.tree.Ref.{Ref}
use Rattle.cc_meaning.specs.Values.{Val, obj}
use Rattle.cc_meaning.specs.Builtins.{or_undefined}
use Rattle.cc_meaning.specs.Calls.{plain, Bodies}
use Rattle.cc_meaning.specs.Meaning.{ev}
use Rattle.cc_tied.specs.Inlined.{argument}
use Rattle.cc_meaning.specs.State.{Code, Obj, Frame, Env, Path, Reply, State, Tables}
use Rattle.cc_meaning.specs.Monad.{ok, paid}
use Rattle.cc_ast.specs.declared.tables.GlobalInfo.{GlobalInfo}
use Rattle.cc_meaning.specs.Store.{Access, quoted, runtime, flat_option, global_kind}
use Rattle.cc_meaning.specs.Typed.{Variable, global, local, flat, variable_type, is_settled, is_param, param_type, variable_doc, doc_at, function_doc}
use Rattle.cc_meaning.specs.SlotRules.{prototype_of_function}
use Rattle.cc_meaning.specs.Script.{checked}
use Rattle.cc_meaning.specs.Alike.{In}
use Rattle.cc_tied.specs.Tied.{ListT, OptT, none_t, built_of, built_at}
use Rattle.cc_tied.specs.Facts.{Level, Held, holds_function, holds_literal, Facts, innermost, outward, called, Above, DeadAt, FixedAt}
use Rattle.cc_tied.specs.Injection.{Pair, Lone, Table}
use Rattle.cc_tied.proofs.Sim.{Tie, World, PayT, both_pay, neither, excuse}
use Rattle.cc_tied.proofs.Equality.EqualModes.{SameEnd, same_end}
use Rattle.cc_tied.proofs.Injection.Places.{Places}
use Rattle.cc_tied.proofs.Injection.World.{Once, Tabs, Ext, ext_same, ext_on, Mates, Mate, AllMated, mates_more, Vals, val_more, opt_more, UpT, no_up, up_more, FunI, Codes, ObjT, FrameT, KnownT}

-- what stays tied, while functions are bound to no global
pub record ExtI (v w : Tabs) : Type 0 where
  pub ext : Ext v w
  pub still : v.still ≡ w.still
  pub stage : v.stage ≡ w.stage

-- the prototype p of a function that stands in no pair stands in none, and it is there
abbrev pub Owned : List (Pair (Option Code)) → List Obj → (m p : ℕ) → Type 0
Owned ps os m p = Mate ps m ⊎ ((p < length os) × (Mate ps p → ⊥))

-- Where a part of a program stands: in the statements of a function, or of a chunk's own list, under so
-- many catch clauses; in the body of a function on the left, with so many parameters, for which these
-- arguments stand on the right; or where nothing is known of the frames.
pub data Ctx : Type 0 where
  at : (function : Option ℕ) → (catches : ℕ) → Ctx
  inlined : (params : ℕ) → Exprs → Ctx
  nowhere : Ctx

abbrev pub in_catch : Ctx → Ctx
in_catch (at o c) = at o (suc c)
in_catch (inlined p es) = nowhere
in_catch nowhere = nowhere

not_in : {f : ℕ} → In f [] → ⊥
not_in i = elim i [ ]

-- a part that declares nothing
pub declares_nothing : {d d' : List ℕ} → d ≡ [] → ((f : ℕ) → In f d → In f d')
declares_nothing e f k = absurd (not_in (subst (λ z. In f z) e k))

-- what the left declares the right declares
pub record DeclaresI (d d' : List ℕ) : Type 0 where
  pub keeps : (f : ℕ) → In f d → In f d'

-- one key, or a text that the right has written
pub data KeyI : Access → Access → Type 0 where
  same_key : {a : Access} → KeyI a a
  written_key : {t : List ℕ} → KeyI (runtime t false) (quoted t)

pub data ThisI : Ctx → Type 0 where
  this_at : {o : Option ℕ} {c : ℕ} → ThisI (at o c)

module _ (F : Facts) where
  pub data StandI : Ctx → ℕ → ℕ → Type 0 where
    stands_at : {o : Option ℕ} {c f : ℕ} → F.Reached f → (F.parent f).0 ≡ o → (F.parent f).1 ≡ c → StandI (at o c) f f

  -- of two programs that don't share globals that are foreign
  module _ (S : Tables) (Foreign : ℕ → Type 0) where
    pub data ReadI : Ctx → Ref → Ref → Type 0 where
      reads_global : {o : Option ℕ} {c n : ℕ} → (F.Unread n → ⊥) → (Foreign n → ⊥) → ReadI (at o c) (Ref.Global n) (Ref.Global n)
      reads_inlined : {p n : ℕ} {es : Exprs} → (F.Unread n → ⊥) → (Foreign n → ⊥) → ReadI (inlined p es) (Ref.Global n) (Ref.Global n)
      reads_place : {o : Option ℕ} {c u n : ℕ} {l : Level} → Above F S (innermost o c) u l → (DeadAt F l n → ⊥) → ReadI (at o c) (Ref.Frame u n) (Ref.Frame u n)

    pub data WriteI : Ctx → Ref → Ref → Type 0 where
      writes_global : {o : Option ℕ} {c n : ℕ} → ((h : Held) → F.Known n h → ⊥) → (Foreign n → ⊥) → WriteI (at o c) (Ref.Global n) (Ref.Global n)
      writes_place : {o : Option ℕ} {c u n : ℕ} {l : Level} → Above F S (innermost o c) u l → (FixedAt F l n → ⊥) → WriteI (at o c) (Ref.Frame u n) (Ref.Frame u n)

    -- variables that are set by their one declaration alone, to what is known of them
    pub data SetI : Ctx → Ref → Prim → Type 0 where
      sets_known : {o : Option ℕ} {c n : ℕ} {p : Prim} → F.Known n (holds_literal p) → ((h : Held) → F.Known n h → h ≡ holds_literal p) → (Foreign n → ⊥) → SetI (at o c) (Ref.Global n) p

    -- functions that known globals are bound to, in a chunk's own list; further in nothing is bound
    pub data BindI : Ctx → Ref → ℕ → Type 0 where
      binds_known : {c n f : ℕ} → F.Known n (holds_function f) → ((h : Held) → F.Known n h → h ≡ holds_function f) → (Foreign n → ⊥) → BindI (at None c) (Ref.Global n) f

    pub no_bind : {f g : ℕ} {r : Ref} → BindI (at (Some f) 0) r g → ⊥
    no_bind h = elim h [ ]

-- what an extra tie sees of two states
pub record View : Type 0 where
  pub pairs : List (Pair (Option Code))
  pub spare : List (Lone (Unit {0}))
  pub left : List Obj
  pub right : List Obj
  pub values : List (Option Val)
  pub values' : List (Option Val)
  pub stage : List Once
  pub loaded : List ℕ

abbrev pub view : Tabs → State → State → View
view w s t = record { pairs = w.objs; spare = w.spare; left = s.objs; right = t.objs; values = s.globals; values' = t.globals; stage = w.stage; loaded = s.loaded }

-- What else is tied of two states, where no value leads to it: it stays where the runs make objects,
-- change objects of a pair or of the left alone, set globals that aren't foreign, and begin to load a chunk.
pub record Rider (Foreign : ℕ → Type 0) : Type 1 where
  pub Rides : View → Type 0
  pub both_made : (v : View) (c : Option Code) (x y : Obj) → Rides v → Rides (record v { pairs = record { label = c; left = length v.left; right = length v.right } ∷ v.pairs; left = v.left ++ x ∷ []; right = v.right ++ y ∷ [] })
  pub spare_made : (v : View) (x : Obj) → Rides v → Rides (record v { spare = record { place = length v.left; entry = tt } ∷ v.spare; left = v.left ++ x ∷ [] })
  pub left_made : (v : View) (x : Obj) → Rides v → Rides (record v { left = v.left ++ x ∷ [] })
  pub both_changed : (v : View) (p : Pair (Option Code)) → In p v.pairs → (x y : Obj) → Rides v → Rides (record v { left = slice_set v.left p.left x; right = slice_set v.right p.right y })
  pub left_changed : (v : View) (p : Pair (Option Code)) → In p v.pairs → (x : Obj) → Rides v → Rides (record v { left = slice_set v.left p.left x })
  pub spare_changed : (v : View) (a : Lone (Unit {0})) → In a v.spare → (x : Obj) → Rides v → Rides (record v { left = slice_set v.left a.place x })
  pub any_changed : (v : View) (n : ℕ) (o x : Obj) → slice_get v.left n ≡ Some o → x ≡ record o { wanted = x.wanted } → Rides v → Rides (record v { left = slice_set v.left n x })
  pub both_set : (v : View) (n : ℕ) → (Foreign n → ⊥) → (x y : Val) → Rides v → Rides (record v { values = slice_set v.values n (Some x); values' = slice_set v.values' n (Some y) })
  pub left_set : (v : View) (n : ℕ) → (Foreign n → ⊥) → (x : Val) → Rides v → Rides (record v { values = slice_set v.values n (Some x) })
  pub loading : (v : View) (c : ℕ) → Rides v → Rides (record v { loaded = v.loaded ++ c ∷ [] })

abbrev pub no_rider : {Foreign : ℕ → Type 0} → Rider Foreign
no_rider = record { Rides = λ v. Unit {0}; both_made = λ v c x y h. h; spare_made = λ v x h. h; left_made = λ v x h. h; both_changed = λ v p i x y h. h; left_changed = λ v p i x h. h; spare_changed = λ v a i x h. h; any_changed = λ v n o x e d h. h; both_set = λ v n f x y h. h; left_set = λ v n f x h. h; loading = λ v c h. h }

-- The tables of the right program: the left one's, but for the functions that globals and paths are
-- set to, and for globals, of which some are foreign; and the flat paths that stay.
pub record Other (S : Tables) : Type 1 where
  pub set : List (Path × ℕ)
  pub globals : List GlobalInfo
  pub Foreign : ℕ → Type 0
  pub Flat : ℕ × ℕ → Type 0
  pub kinds : (n : ℕ) → (Foreign n → ⊥) → global_kind S n ≡ global_kind (record S { set = set; globals = globals }) n
  pub types : (n : ℕ) → (Foreign n → ⊥) → variable_type S (global n) ≡ variable_type (record S { set = set; globals = globals }) (global n)
  pub settled : (n : ℕ) → (Foreign n → ⊥) → is_settled S (global n) ≡ is_settled (record S { set = set; globals = globals }) (global n)
  pub flat_types : (p : ℕ × ℕ) → Flat p → variable_type S (flat p.0 p.1) ≡ variable_type (record S { set = set; globals = globals }) (flat p.0 p.1)
  pub flat_settled : (p : ℕ × ℕ) → Flat p → is_settled S (flat p.0 p.1) ≡ is_settled (record S { set = set; globals = globals }) (flat p.0 p.1)
  pub rider : Rider Foreign

abbrev pub with_set : (S : Tables) → Other S → Tables
with_set S set' = record S { set = set'.set; globals = set'.globals }

-- the same globals
module _ (S : Tables) (set' : List (Path × ℕ)) where
  abbrev pub Same : Tables
  Same = record S { set = set'; globals = S.globals }

  pub same_kind_of : (n : ℕ) → global_kind S n ≡ global_kind Same n
  unfolding global_kind
  same_kind_of n = refl

  pub same_type_of : (x : Variable) → variable_type S x ≡ variable_type Same x
  unfolding variable_type is_param param_type variable_doc doc_at function_doc
  same_type_of (global n) = refl
  same_type_of (local f n) = refl
  same_type_of (flat g k) = refl

  pub same_settled_of : (x : Variable) → is_settled S x ≡ is_settled Same x
  unfolding is_settled is_param variable_doc doc_at function_doc
  same_settled_of (global n) = refl
  same_settled_of (local f n) = refl
  same_settled_of (flat g k) = refl

  abbrev pub same_right : Other S
  same_right = record { set = set'; globals = S.globals; Foreign = λ n. ⊥; Flat = λ p. Unit {0}; kinds = λ n f. same_kind_of n; types = λ n f. same_type_of (global n); settled = λ n f. same_settled_of (global n); flat_types = λ p f. same_type_of (flat p.0 p.1); flat_settled = λ p f. same_settled_of (flat p.0 p.1); rider = no_rider }

module _ (F : Facts) (S : Tables) (set' : Other S) where
  abbrev pub S' : Tables
  S' = with_set S set'

  pub read_built : {c : Ctx} {r r' : Ref} → ReadI F S set'.Foreign c r r' → built_of S r ≡ built_of S' r'
  unfolding built_of
  read_built (reads_global {n = n} u f) = ap built_at (set'.kinds n f)
  read_built (reads_inlined {n = n} u f) = ap built_at (set'.kinds n f)
  read_built (reads_place a d) = refl

  pub record TiedI (w : Tabs) (s t : State) : Type 0 where
    pub tables : s.tables ≡ S
    pub tables' : t.tables ≡ S'
    pub objs : Table (ObjT F S w) (λ y a. a.code ≡ None) w.objs w.spare s.objs t.objs
    -- the prototype of a function of the left alone isn't tied
    pub owned : (m p : ℕ) → prototype_of_function (slice_get s.objs m) ≡ Some (obj p) → Owned w.objs s.objs m p
    -- what the right alone makes has nothing on its chain
    pub mated : AllMated w.objs t.objs
    pub frames : Table (FrameT F S w) (λ y a. a ≡ y) w.frames w.alone s.frames t.frames
    pub globals : Places (Vals w) F.Unread s.globals t.globals
    pub known : (g : ℕ) (h : Held) → F.Known g h → KnownT w w.still g h (flat_option (slice_get s.globals g))
    pub loaded : s.loaded ≡ t.loaded
    pub begun : (c : ℕ) → In c w.begun → list_any (λ d. nat_eq d c) s.loaded ≡ true
    pub failed : s.failed ≡ t.failed
    -- the left may have made objects of more classes
    pub constructed : (c : ℕ) → list_any (λ d. nat_eq d c) t.constructed ≡ true → list_any (λ d. nat_eq d c) s.constructed ≡ true
    pub handles : ListT (Mates w) s.handles t.handles
    pub replies : s.replies ≡ t.replies
    pub budget : s.budget ≡ t.budget
    pub extra : set'.rider.Rides (view w s t)

  pub with_budget : {w : Tabs} {s t : State} (b c : ℕ) → b ≡ c → TiedI w s t → TiedI w (record s { budget = b }) (record t { budget = c })
  with_budget b c e h = record { tables = h.tables; tables' = h.tables'; objs = h.objs; owned = h.owned; mated = h.mated; frames = h.frames; globals = h.globals; known = h.known; loaded = h.loaded; begun = h.begun; failed = h.failed; constructed = h.constructed; handles = h.handles; replies = h.replies; budget = e; extra = h.extra }

  pay_one : {w : Tabs} {s t : State} → TiedI w s t → (o : Option ℕ) → PayT (TiedI w) ⊥ ⊥ s t o o
  pay_one h None = neither
  pay_one h (Some b) = both_pay (with_budget b b refl h)

  pub pay_tied : {w : Tabs} {s t : State} → TiedI w s t → PayT (TiedI w) ⊥ ⊥ s t (paid 1 s.budget) (paid 1 t.budget)
  pay_tied {w = w} {s = s} {t = t} h = subst (λ z. PayT (TiedI w) ⊥ ⊥ s t (paid 1 s.budget) (paid 1 z)) h.budget (pay_one h (paid 1 s.budget))

  pub replied : {w : Tabs} {s t : State} (rs : List Reply) → TiedI w s t → TiedI w (record s { replies = rs }) (record t { replies = rs })
  replied rs h = record { tables = h.tables; tables' = h.tables'; objs = h.objs; owned = h.owned; mated = h.mated; frames = h.frames; globals = h.globals; known = h.known; loaded = h.loaded; begun = h.begun; failed = h.failed; constructed = h.constructed; handles = h.handles; replies = refl; budget = h.budget; extra = h.extra }

  -- ---- environments

  -- what an expression of the right gives, whatever path is set to it: a value that is tied to this one
  pub record Given (u : Tabs) (t : State) (B : Bodies) (h : Env) (e : Expr) (x : Val) : Type 0 where
    pub value : Val
    pub tied : Vals u x value
    pub reached : (p : Option Path) → ev checked B h p e t ≡ ok [] (plain value) t

  -- an argument gives the same whenever it is evaluated
  pub record ArgI (w : Tabs) (h : Env) (e : Expr) (x : Val) : Type 0 where
    pub by : (u : Tabs) → ExtI w u → (s t : State) → TiedI u s t → (B : Bodies) → Given u t B h e x

  pub arg_more : {v w : Tabs} → ExtI v w → {h : Env} {e : Expr} {x : Val} → ArgI v h e x → ArgI w h e x
  arg_more l a = record { by = λ u k s t ti B. a.by u (record { ext = ext_on l.ext k.ext; still = l.still ∙ k.still; stage = l.stage ∙ k.stage }) s t ti B }

  pub data EnvI (w : Tabs) : Ctx → Env → Env → Type 0 where
    env_at : {o : Option ℕ} {c : ℕ} {g h : Env} → UpT F S w (innermost o c) g.at h.at → OptT (Vals w) g.this h.this → DeclaresI g.declares h.declares → EnvI w (at o c) g h
    env_inlined : {p m : ℕ} {es : Exprs} {fr : Frame} {g h : Env} → g.at ≡ Some m → g.declares ≡ [] → In (record { place = m; entry = fr }) w.alone → ((i n : ℕ) → n < p → ArgI w h (argument i es n) (or_undefined (flat_option (slice_get fr.values n)))) → EnvI w (inlined p es) g h
    env_nowhere : {g h : Env} → DeclaresI g.declares h.declares → EnvI w nowhere g h

  pub env_more : {v w : Tabs} → ExtI v w → {c : Ctx} {g h : Env} → EnvI v c g h → EnvI w c g h
  env_more l (env_at u t d) = env_at (up_more F S l.ext u) (opt_more l.ext t) d
  env_more l (env_inlined e d q a) = env_inlined e d (l.ext.alone _ q) (λ i n k. arg_more l (a i n k))
  env_more l (env_nowhere d) = env_nowhere d

  pub env_this : {w : Tabs} {c : Ctx} {g h : Env} → ThisI c → EnvI w c g h → OptT (Vals w) g.this h.this
  env_this this_at (env_at u t d) = t

  pub env_declares : {w : Tabs} {c : Ctx} {g h : Env} → EnvI w c g h → DeclaresI g.declares h.declares
  env_declares (env_at u t d) = d
  env_declares (env_inlined e d q a) = record { keeps = declares_nothing d }
  env_declares (env_nowhere d) = d

  pub env_top : {w : Tabs} {d d' : List ℕ} → DeclaresI d d' → EnvI w (at None 0) (record { at = None; this = None; declares = d }) (record { at = None; this = None; declares = d' })
  unfolding innermost
  env_top d = env_at no_up none_t d

  -- ---- objects one to one

  once_by : {w : Tabs} {s t : State} → TiedI w s t → (p q : Pair (Option Code)) → In p w.objs → In q w.objs → (x y : Bool) → nat_eq p.left q.left ≡ x → nat_eq p.right q.right ≡ y → x ≡ y
  once_by ti p q h k true true e f = refl
  once_by ti p q h k true false e f = let d : p ≡ q = ti.objs.left_one p q h k (eqb-true _ _ e) in let r : nat_eq q.right q.right ≡ true = eq-eqb q.right q.right refl in let j : nat_eq q.right q.right ≡ false = subst (λ z. nat_eq z.right q.right ≡ false) d f in absurd (cc)
  once_by ti p q h k false true e f = let d : p ≡ q = ti.objs.right_one p q h k (eqb-true _ _ f) in let r : nat_eq q.left q.left ≡ true = eq-eqb q.left q.left refl in let j : nat_eq q.left q.left ≡ false = subst (λ z. nat_eq z.left q.left ≡ false) d e in absurd (cc)
  once_by ti p q h k false false e f = refl

  pub once : {w : Tabs} {s t : State} → TiedI w s t → {m n p q : ℕ} → Mates w m n → Mates w p q → nat_eq m p ≡ nat_eq n q
  once ti h k = once_by ti _ _ h.1 k.1 _ _ refl refl

  -- ---- the tie

  abbrev pub inject : Tie
  inject = record {
    J = checked;
    J' = checked;
    tables = S;
    tables' = S';
    W = Tabs;
    Ext = ExtI;
    same = λ w. record { ext = ext_same w; still = refl; stage = refl };
    ext = λ l k. record { ext = ext_on l.ext k.ext; still = l.still ∙ k.still; stage = l.stage ∙ k.stage };
    Excused = Unit {0};
    Short = λ w p. ⊥;
    Ahead = ⊥;
    Steps = λ v p w. Unit {0};
    short_more = λ h l. h;
    short_back = λ h l. l;
    steps_none = tt;
    steps_on = λ h l. tt;
    EndT = SameEnd;
    end_spent = same_end;
    end_waits = same_end;
    Ctx = Ctx;
    outer = λ c. at None 0;
    inside = λ f f'. at (Some f) 0;
    in_catch = in_catch;
    SpotT = λ i j. Unit {0};
    spot_turn = λ n. tt;
    faults = λ i r. excuse tt;
    FunT = FunI F S;
    StandT = StandI F;
    ReadT = ReadI F S set'.Foreign;
    WriteT = WriteI F S set'.Foreign;
    SetT = SetI F S set'.Foreign;
    BindT = BindI F S set'.Foreign;
    bind_inside = λ h. no_bind F S set'.Foreign h;
    ThisT = ThisI;
    DocT = λ d d'. d ≡ d';
    DeclaresT = DeclaresI;
    FlatT = λ p p'. (p ≡ p') × set'.Flat p;
    QuotedT = λ t. Unit {0};
    WrittenT = λ t. Unit {0};
    read_built = λ h. read_built h;
    declares_none = record { keeps = λ f e. e };
    O = Mates;
    NewT = Vals;
    RunsT = λ w m n. Codes F S w;
    KeyT = λ w x. KeyI;
    UpT = λ w f f' a b. UpT F S w (outward F S (called f)) a b;
    EnvT = λ c w. EnvI w c;
    LoadedT = λ w c. In c w.begun;
    O_later = λ l h. mates_more l.ext h;
    new_later = λ l h. val_more l.ext _ _ h;
    key_later = λ l h. h;
    up_later = λ l h. up_more F S l.ext h;
    env_later = λ l h. env_more l h;
    loaded_later = λ l h. l.ext.begun _ h;
    new_value = λ h. h;
    runs_code = λ h. h;
    key_runtime = λ x v e. same_key;
    key_quoted = λ x h. same_key;
    key_written = λ x h. written_key;
    env_top = λ l d. env_top d;
    env_this = λ h e. env_this h e;
    env_declares = λ e. env_declares e;
    Tied = TiedI;
    tied_tables = λ h. (h.tables, h.tables');
    tied_pay = λ h. pay_tied h;
    tied_once = λ h e d. once h e d;
    tied_handles = λ h. h.handles;
    tied_replies = λ h. h.replies;
    tied_replied = λ rs h. replied rs h;
  }

  abbrev pub WorldI : Type 0
  WorldI = World inject

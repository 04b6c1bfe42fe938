-- Relations between parts of two runs, each over relations of what it is made of.
use Rattle.std.specs.Prelude.{ℕ, ◌≡◌, Bool, true, List, [], ◌∷◌, Option, Some, None}
use Rattle.cc_ast.specs.Syntax.{Prim}
use Rattle.cc_ast.specs.declared.tree.Ref.{Ref}
use Rattle.cc_meaning.specs.Values.{Val, prim, obj, out, View, Spot, at_site}
use Rattle.cc_meaning.specs.Operators.{key_text}
use Rattle.cc_meaning.specs.State.{Code, Inner, Tables}
use Rattle.cc_meaning.specs.Monad.{M, Way, went, thrown, with_tables, Mode}
use Rattle.cc_meaning.specs.Store.{Access, runtime, Built, Global, extern, built_in, of_chunk, global_kind, Use}
use Rattle.cc_meaning.specs.Typed.{params_in, result_in, function_doc}
use Rattle.cc_meaning.specs.Judge.{enters, leaves, hosts}
use Rattle.cc_meaning.specs.Acts.{judged, changing, receive, receive_each, is_whole}
use Rattle.cc_meaning.specs.Calls.{Reference, Reach, plain, access, built_global, built_member, Callee, called_value, called_use, Returned, member_use}
use Rattle.cc_meaning.specs.Meaning.{Comp, normal, returns, breaks, continues, Place, variable_place, slot_place}
use Rattle.cc_meaning.specs.Script.{Turn, load, call, get, set, dependency_failed, note_load}
pub use Rattle.cc_meaning.specs.Alike.{In, here, there, ListT, nil_t, cons_t, OptT, none_t, some_t}

-- ---- values and ends

-- equal primitive values, one object of the outside, or two objects of the programs that are tied
pub data ValT (O : ℕ → ℕ → Type 0) : Val → Val → Type 0 where
  prim_t : {p : Prim} → ValT O (prim p) (prim p)
  out_t : {n : ℕ} → ValT O (out n) (out n)
  obj_t : {m n : ℕ} → O m n → ValT O (obj m) (obj n)

pub data WayT {A B : Type 0} (V : Val → Val → Type 0) (R : A → B → Type 0) : Way A → Way B → Type 0 where
  went_t : {a : A} {b : B} → R a b → WayT V R (went a) (went b)
  thrown_t : {v v' : Val} → V v v' → WayT V R (thrown v) (thrown v')

-- two sites, as spots
abbrev pub Sited : (Spot → Spot → Type 0) → ℕ → ℕ → Type 0
Sited S i j = S (at_site i) (at_site j)

pub data CompT (S : Spot → Spot → Type 0) (V : Val → Val → Type 0) : Comp → Comp → Type 0 where
  normal_t : CompT S V normal normal
  returns_t : {i j : ℕ} {v v' : Val} → Sited S i j → V v v' → CompT S V (returns i v) (returns j v')
  breaks_t : {l : Option (List ℕ)} → CompT S V (breaks l) (breaks l)
  continues_t : {l : Option (List ℕ)} → CompT S V (continues l) (continues l)

pub record ReturnedT (S : Spot → Spot → Type 0) (V : Val → Val → Type 0) (a b : Returned) : Type 0 where
  pub site : Sited S a.site b.site
  pub value : V a.value b.value

-- tied functions with tied frames around them
pub record CodeT (S : Spot → Spot → Type 0) (Fun : ℕ → ℕ → Type 0) (Up : ℕ → ℕ → Option ℕ → Option ℕ → Type 0) (a b : Code) : Type 0 where
  pub function : Fun a.function b.function
  pub up : Up a.function b.function a.up b.up
  pub site : Sited S a.site b.site

-- ---- what an expression reaches

-- a cast: its site and its doc
pub record CastT (S : Spot → Spot → Type 0) (Doc : ℕ → ℕ → Type 0) (a b : ℕ × ℕ) : Type 0 where
  pub site : Sited S a.0 b.0
  pub doc : Doc a.1 b.1

pub record ReferenceT (S : Spot → Spot → Type 0) (V : Val → Val → Type 0) (Key : Val → Access → Access → Type 0) (Flat : ℕ × ℕ → ℕ × ℕ → Type 0) (Doc : ℕ → ℕ → Type 0) (a b : Reference) : Type 0 where
  pub site : Sited S a.site b.site
  pub on : V a.on b.on
  pub key : Key a.on a.key b.key
  pub path : OptT Flat a.path b.path
  pub casts : ListT (CastT S Doc) a.casts b.casts

-- members of what is built in are used alike
pub data ReachT (S : Spot → Spot → Type 0) (V : Val → Val → Type 0) (R : Reference → Reference → Type 0) : Reach → Reach → Type 0 where
  plain_t : {v v' : Val} → V v v' → ReachT S V R (plain v) (plain v')
  access_t : {a b : Reference} → R a b → ReachT S V R (access a) (access b)
  global_t : {i j : ℕ} {b : Built} → Sited S i j → ReachT S V R (built_global i b) (built_global j b)
  member_t : {i j : ℕ} {b : Built} {n n' : List ℕ} → Sited S i j → member_use b n ≡ member_use b n' → ReachT S V R (built_member i b n) (built_member j b n')

pub data CalleeT (V : Val → Val → Type 0) : Callee → Callee → Type 0 where
  value_t : {v v' : Val} {t t' : Option Val} → V v v' → OptT V t t' → CalleeT V (called_value v t) (called_value v' t')
  use_t : {u : Use} {vs vs' : List Val} → ListT V vs vs' → CalleeT V (called_use u vs) (called_use u vs')

-- what is written to, where a variable is to be read too by Reads
pub data PlaceT (S : Spot → Spot → Type 0) (Reads Writes : Ref → Ref → Type 0) (R : Reference → Reference → Type 0) : Place → Place → Type 0 where
  variable_t : {i j : ℕ} {r r' : Ref} → Sited S i j → Reads r r' → Writes r r' → PlaceT S Reads Writes R (variable_place i r) (variable_place j r')
  slot_t : {a b : Reference} → R a b → PlaceT S Reads Writes R (slot_place a) (slot_place b)

-- the key that one value is
pub data RuntimeT : Access → Access → Type 0 where
  runtime_t : (v : Val) {t : List ℕ} → key_text v ≡ Some t → RuntimeT (runtime t (is_whole v)) (runtime t (is_whole v))

-- ---- parts of the meaning, under names of their own

-- what is built in, where a reference stands for it
unfoldable pub built_at : Global → Option Built
built_at extern = None
built_at (of_chunk c) = None
built_at (built_in b) = Some b

unfoldable pub built_of : Tables → Ref → Option Built
unfolding built_at global_kind
built_of T (Ref.Frame up n) = None
built_of T (Ref.Global n) = built_at (global_kind T n)

-- the act of a call, and that of its end
abbrev pub entering : Mode → Spot → (function : ℕ) → Option Val → List Val → M (Unit {0})
entering J i f this vs = judged J i (enters f this vs) (with_tables (λ T. receive_each (params_in (function_doc T f)) vs))

abbrev pub leaving : Mode → Spot → (function : ℕ) → (built : Bool) → Val → M (Unit {0})
leaving J i f built v = judged J i (leaves f built v) (with_tables (λ T. receive (result_in (function_doc T f)) v))

-- a load begins
abbrev pub loading : Mode → Spot → (chunk : ℕ) → M (Unit {0})
loading J i c = λ s. judged J i (hosts true None None (dependency_failed s c)) (changing (note_load c)) s

-- each chunk that the turns load is one of these
pub data LoadsT (C : ℕ → Type 0) : List Turn → Type 0 where
  no_turns : LoadsT C []
  load_turn : {c : ℕ} {ts : List Turn} → C c → LoadsT C ts → LoadsT C (load c ∷ ts)
  call_turn : {c : Inner} {ts : List Turn} → LoadsT C ts → LoadsT C (call c ∷ ts)
  get_turn : {h : ℕ} {n : List ℕ} {ts : List Turn} → LoadsT C ts → LoadsT C (get h n ∷ ts)
  set_turn : {h : ℕ} {n : List ℕ} {x : View} {ts : List Turn} → LoadsT C ts → LoadsT C (set h n x ∷ ts)

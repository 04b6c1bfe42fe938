-- What is tied where slots of objects of the left are globals of the right: of each holder the object of
-- the left and that of the right, to which no value leads.
use Rattle.std.proofs.Common.{◌≡◌, ◌≢◌, ◌⊎◌, inl, inr, ℕ, zero, suc, ◌<◌, Bool, true, false, List, [], ◌∷◌, ◌++◌, length, Option, Some, None, is_some, refl, sym, ap, subst, ◌∙◌, arith}
use Rattle.std.specs.Prelude.{slice_get, slice_set, not, nat_eq}
use Rattle.std.specs.List.{filter, list_any}
use Rattle.cc_ast.specs.declared.tables.GlobalInfo.{GlobalInfo}
use Rattle.cc_meaning.specs.Values.{Val, obj}
use Rattle.cc_meaning.specs.Operators.{list_eq}
use Rattle.cc_meaning.specs.Names.{name_hasOwnProperty}
use Rattle.cc_meaning.specs.State.{Code, Obj, Path, Slot, Tables}
use Rattle.cc_meaning.specs.Store.{dotted, name_of, of_chunk, global_kind, flat_option, find_slot, flat_of}
use Rattle.cc_meaning.specs.Typed.{global, flat, variable_type, is_settled}
use Rattle.cc_meaning.specs.FlatPaths.{extended}
use Rattle.cc_meaning.specs.Alike.{In, there}
use Rattle.cc_tied.specs.Tied.{OptT, ListT, ValT, prim_t, out_t, obj_t}
use Rattle.cc_tied.specs.Injection.{Pair, Lone}
use Rattle.cc_tied.proofs.Parts.{opt_as, list_as}
use Rattle.cc_tied.proofs.Lists.{place_cases, get_old, get_set_same, get_set_other}
use Rattle.cc_tied.proofs.Injection.Table.{get_range, in_cases}
use Rattle.cc_tied.proofs.Injection.Made.{any_front}
use Rattle.cc_tied.proofs.Injection.World.{Once, SlotT}
use Rattle.cc_tied.proofs.Injection.Tie.{View, Rider, Other}

-- Holders by numbers, each a global or a property of another holder; their properties that are globals of
-- the right; and the right tables, in which no path is flat.
pub record Plan (S : Tables) : Type 1 where
  pub set : List (Path × ℕ)
  pub globals : List GlobalInfo
  pub Foreign : ℕ → Type 0
  pub kinds : (n : ℕ) → (Foreign n → ⊥) → global_kind S n ≡ global_kind (record S { set = set; globals = globals }) n
  pub types : (n : ℕ) → (Foreign n → ⊥) → variable_type S (global n) ≡ variable_type (record S { set = set; globals = globals }) (global n)
  pub settled : (n : ℕ) → (Foreign n → ⊥) → is_settled S (global n) ≡ is_settled (record S { set = set; globals = globals }) (global n)
  pub no_flat : (w : Option Path) → flat_of (record S { set = set; globals = globals }) w ≡ None
  -- a holder's path, and the global that it is on the right
  pub Holder : ℕ → Type 0
  pub path : (h : ℕ) → Path
  pub var : (h : ℕ) → ℕ
  -- a holder that is a global
  pub Root : (h : ℕ) → Type 0
  pub root_is : (h : ℕ) → Root h → (Holder h) × (path h ≡ (var h, []))
  pub root_foreign : (h : ℕ) → Root h → Foreign (var h)
  pub root_one : (h i : ℕ) → Root h → Root i → var h ≡ var i → h ≡ i
  -- the chunk of the global that a holder's path begins with
  pub top : (h : ℕ) → ℕ
  pub root_kind : (h : ℕ) → Root h → (global_kind S (var h) ≡ of_chunk (top h)) × (global_kind (record S { set = set; globals = globals }) (var h) ≡ of_chunk (top h))
  pub root_type : (h : ℕ) → Root h → variable_type S (global (var h)) ≡ variable_type (record S { set = set; globals = globals }) (global (var h))
  -- chunks that are loaded once a holder is declared
  pub Near : (h chunk : ℕ) → Type 0
  -- a property of a holder that is a global of the right
  pub Child : (h prop : ℕ) → Type 0
  pub child_of : (h p : ℕ) → Child h p → Holder h
  pub number : (h p : ℕ) → ℕ
  pub is_flat : (h p : ℕ) → Child h p → flat_of S (Some (extended (path h) p)) ≡ Some ((path h).0, number h p)
  pub fresh : (h p : ℕ) → ℕ
  pub home : (h p : ℕ) → ℕ
  pub fresh_foreign : (h p : ℕ) → Child h p → Foreign (fresh h p)
  pub fresh_kind : (h p : ℕ) → Child h p → global_kind (record S { set = set; globals = globals }) (fresh h p) ≡ of_chunk (home h p)
  pub fresh_type : (h p : ℕ) → Child h p → variable_type S (flat (path h).0 (number h p)) ≡ variable_type (record S { set = set; globals = globals }) (global (fresh h p))
  pub fresh_settled : (h p : ℕ) → Child h p → is_settled S (flat (path h).0 (number h p)) ≡ is_settled (record S { set = set; globals = globals }) (global (fresh h p))
  pub fresh_one : (h p i q : ℕ) → Child h p → Child i q → fresh h p ≡ fresh i q → (h ≡ i) × (p ≡ q)
  pub fresh_root : (h p i : ℕ) → Child h p → Root i → fresh h p ≢ var i
  pub names_one : (h p q : ℕ) → Child h p → Child h q → list_eq (name_of S (dotted p)) (name_of S (dotted q)) ≡ true → p ≡ q
  pub no_method : (h p : ℕ) → Child h p → list_eq (name_of S (dotted p)) name_hasOwnProperty ≡ false
  -- the names of these properties
  pub flat_name : (h : ℕ) → List ℕ → Bool
  pub child_name : (h p : ℕ) → Child h p → flat_name h (name_of S (dotted p)) ≡ true
  -- a property that is a holder itself
  pub Inner : (h prop inner : ℕ) → Type 0
  pub inner_is : (h p i : ℕ) → Inner h p i → Child h p × ((fresh h p ≡ var i) × ((path i ≡ extended (path h) p) × (top i ≡ top h)))
  pub inner_root : (h p i : ℕ) → Inner h p i → Root i → ⊥
  pub inner_once : (h p j q i : ℕ) → Inner h p i → Inner j q i → (h ≡ j) × (p ≡ q)
  pub inner_other : (h p i : ℕ) → Inner h p i → h ≢ i
  pub inner_one : (h p i j : ℕ) → Inner h p i → Inner h p j → i ≡ j
  pub sort : (h p : ℕ) → Child h p → ((i : ℕ) → Inner h p i → ⊥) ⊎ ((i : ℕ) × Inner h p i)

abbrev pub Paired : List (Pair (Option Code)) → ℕ → ℕ → Type 0
Paired ps m n = (x : Option Code) × In (record { label = x; left = m; right = n }) ps

abbrev pub once : (h m n : ℕ) → Once
once h m n = record { mark = h; left = m; right = n }

-- a global that is set stays there
pub set_there : (ys : List (Option Val)) (n m : ℕ) (v : Option Val) → is_some (slice_get (slice_set ys n v) m) ≡ is_some (slice_get ys m)
set_there [] n m v = refl
set_there (y ∷ ys) zero zero v = refl
set_there (y ∷ ys) zero (suc m) v = refl
set_there (y ∷ ys) (suc n) zero v = refl
set_there (y ∷ ys) (suc n) (suc m) v = set_there ys n m v

-- a holder that isn't declared
abbrev pub Undeclared : List Once → ℕ → Type 0
Undeclared st h = (m n : ℕ) → In (once h m n) st → ⊥

-- an object of no class, without prototypes, that is no function and no array
pub record IsBare (o : Obj) : Type 0 where
  pub klass : o.class ≡ None
  pub code : o.code ≡ None
  pub chain : o.chain ≡ []
  pub elements : o.elements ≡ None

-- A slot of the left, or a global of the left, and a global of the right: tied values, or the objects of
-- a holder, if it is one.
pub data CellT (ps : List (Pair (Option Code))) (st : List Once) (Held : ℕ → Type 0) : Option Val → Option Val → Type 0 where
  plain_cell : {x y : Option Val} → ((i : ℕ) → Held i → ⊥) → OptT (ValT (Paired ps)) x y → CellT ps st Held x y
  free_cell : {i : ℕ} → Held i → Undeclared st i → CellT ps st Held None None
  held_cell : {i m n : ℕ} → Held i → In (once i m n) st → CellT ps st Held (Some (obj m)) (Some (obj n))

paired_more : {ps : List (Pair (Option Code))} {q : Pair (Option Code)} (a b : Val) → ValT (Paired ps) a b → ValT (Paired (q ∷ ps)) a b
paired_more a b prim_t = prim_t
paired_more a b out_t = out_t
paired_more a b (obj_t h) = obj_t (h.0, there h.1)

slot_more : {ps : List (Pair (Option Code))} {q : Pair (Option Code)} (a b : Slot) → SlotT (Paired ps) a b → SlotT (Paired (q ∷ ps)) a b
slot_more a b h = record { name = h.name; kind = h.kind; value = paired_more a.value b.value h.value; index = h.index }

cell_more : {ps : List (Pair (Option Code))} {q : Pair (Option Code)} {st : List Once} {H : ℕ → Type 0} {x y : Option Val} → CellT ps st H x y → CellT (q ∷ ps) st H x y
cell_more (plain_cell n h) = plain_cell n (opt_as (λ a b k. paired_more a b k) h)
cell_more (free_cell i n) = free_cell i n
cell_more (held_cell i h) = held_cell i h

module _ (S : Tables) (P : Plan S) where
  abbrev pub name : ℕ → List ℕ
  name p = name_of S (dotted p)

  -- the slots of a holder's object that stay slots
  abbrev pub others : ℕ → List Slot → List Slot
  others h xs = filter (λ x. not (P.flat_name h x.name)) xs

  abbrev pub IsRoot : ℕ → ℕ → Type 0
  IsRoot h i = P.Root h × (i ≡ h)

  -- the two objects of a holder, once it is declared
  pub record HeldT (v : View) (h m n : ℕ) : Type 0 where
    pub object : Obj
    pub object' : Obj
    pub stands : slice_get v.left m ≡ Some object
    pub stands' : slice_get v.right n ≡ Some object'
    pub plain : IsBare object
    pub plain' : IsBare object'
    pub no_pair : (p : Pair (Option Code)) → In p v.pairs → p.left ≢ m
    pub no_pair' : (p : Pair (Option Code)) → In p v.pairs → p.right ≢ n
    pub no_spare : (l : Lone (Unit {0})) → In l v.spare → l.place ≢ m
    pub cells : (p : ℕ) → P.Child h p → CellT v.pairs v.stage (P.Inner h p) (find_slot object.slots (name p)) (flat_option (slice_get v.values' (P.fresh h p)))
    pub rest : ListT (SlotT (Paired v.pairs)) (others h object.slots) object'.slots
    pub near : (c : ℕ) → P.Near h c → list_any (λ d. nat_eq d c) v.loaded ≡ true

  pub record RidesT (v : View) : Type 0 where
    pub roots : (h : ℕ) → P.Root h → CellT v.pairs v.stage (IsRoot h) (flat_option (slice_get v.values (P.var h))) (flat_option (slice_get v.values' (P.var h)))
    pub held : (h m n : ℕ) → In (once h m n) v.stage → HeldT v h m n
    pub one : (h m n p q : ℕ) → In (once h m n) v.stage → In (once h p q) v.stage → (m ≡ p) × (n ≡ q)
    pub apart : (h m n i p q : ℕ) → In (once h m n) v.stage → In (once i p q) v.stage → h ≢ i → (m ≢ p) × (n ≢ q)
    -- the globals are there
    pub root_there : (h : ℕ) → P.Root h → is_some (slice_get v.values (P.var h)) ≡ true
    pub foreign_there : (n : ℕ) → P.Foreign n → is_some (slice_get v.values' n) ≡ true
    -- of a holder that isn't declared no property is set
    pub unset : (h p : ℕ) → Undeclared v.stage h → P.Child h p → CellT v.pairs v.stage (P.Inner h p) None (flat_option (slice_get v.values' (P.fresh h p)))

  in_range : {v : View} {h m n : ℕ} (d : HeldT v h m n) → m < length v.left
  in_range {v = v} {m = m} d = get_range v.left m d.object d.stands

  in_range' : {v : View} {h m n : ℕ} (d : HeldT v h m n) → n < length v.right
  in_range' {v = v} {n = n} d = get_range v.right n d.object' d.stands'

  -- both objects stand where they stood
  still_held : (v v' : View) {h m n : ℕ} → HeldT v h m n → v'.pairs ≡ v.pairs → v'.spare ≡ v.spare → v'.stage ≡ v.stage → v'.values' ≡ v.values' → v'.loaded ≡ v.loaded → slice_get v'.left m ≡ slice_get v.left m → slice_get v'.right n ≡ slice_get v.right n → HeldT v' h m n
  still_held v v' {h = h} d ep es et ev el' el er = record {
    object = d.object;
    object' = d.object';
    stands = el ∙ d.stands;
    stands' = er ∙ d.stands';
    plain = d.plain;
    plain' = d.plain';
    no_pair = λ p i. d.no_pair p (subst (λ z. In p z) ep i);
    no_pair' = λ p i. d.no_pair' p (subst (λ z. In p z) ep i);
    no_spare = λ l i. d.no_spare l (subst (λ z. In l z) es i);
    cells = λ p c. rw (ep, et, ev) (d.cells p c);
    rest = rw ep d.rest;
    near = λ c q. rw el' (d.near c q);
  }

  -- ---- objects are made

  abbrev made : View → Option Code → Pair (Option Code)
  made v c = record { label = c; left = length v.left; right = length v.right }

  pub both_made : (v : View) (c : Option Code) (x y : Obj) → RidesT v → RidesT (record v { pairs = record { label = c; left = length v.left; right = length v.right } ∷ v.pairs; left = v.left ++ x ∷ []; right = v.right ++ y ∷ [] })
  both_made v c x y r = record {
    roots = λ h k. cell_more (r.roots h k);
    held = λ h m n i. keeps (r.held h m n i);
    one = r.one;
    apart = r.apart;
    root_there = r.root_there;
    foreign_there = r.foreign_there;
    unset = λ h p u k. cell_more (r.unset h p u k);
  }
    where
      apart : (p : Pair (Option Code)) {m : ℕ} → m < length v.left → ((q : Pair (Option Code)) → In q v.pairs → q.left ≢ m) → (p ≡ made v c) ⊎ In p v.pairs → p.left ≢ m
      apart p l f (inl e) d = let z : p.left ≡ length v.left = ap (λ y. y.left) e in omega arith
      apart p l f (inr i) d = f p i d

      apart' : (p : Pair (Option Code)) {n : ℕ} → n < length v.right → ((q : Pair (Option Code)) → In q v.pairs → q.right ≢ n) → (p ≡ made v c) ⊎ In p v.pairs → p.right ≢ n
      apart' p l f (inl e) d = let z : p.right ≡ length v.right = ap (λ y. y.right) e in omega arith
      apart' p l f (inr i) d = f p i d

      keeps : {h m n : ℕ} → HeldT v h m n → HeldT (record v { pairs = made v c ∷ v.pairs; left = v.left ++ x ∷ []; right = v.right ++ y ∷ [] }) h m n
      keeps {m = m} {n = n} d = record {
        object = d.object;
        object' = d.object';
        stands = get_old v.left (x ∷ []) m d.object d.stands;
        stands' = get_old v.right (y ∷ []) n d.object' d.stands';
        plain = d.plain;
        plain' = d.plain';
        no_pair = λ p i. apart p (in_range d) d.no_pair (in_cases i);
        no_pair' = λ p i. apart' p (in_range' d) d.no_pair' (in_cases i);
        no_spare = d.no_spare;
        cells = λ p k. cell_more (d.cells p k);
        rest = list_as (λ a b q. slot_more a b q) d.rest;
        near = d.near;
      }

  pub spare_made : (v : View) (x : Obj) → RidesT v → RidesT (record v { spare = record { place = length v.left; entry = tt } ∷ v.spare; left = v.left ++ x ∷ [] })
  spare_made v x r = record { roots = r.roots; held = λ h m n i. keeps (r.held h m n i); one = r.one; apart = r.apart; root_there = r.root_there; foreign_there = r.foreign_there; unset = r.unset }
    where
      apart : (l : Lone (Unit {0})) {m : ℕ} → m < length v.left → ((q : Lone (Unit {0})) → In q v.spare → q.place ≢ m) → (l ≡ record { place = length v.left; entry = tt }) ⊎ In l v.spare → l.place ≢ m
      apart l less f (inl e) d = let z : l.place ≡ length v.left = ap (λ y. y.place) e in omega arith
      apart l less f (inr i) d = f l i d

      keeps : {h m n : ℕ} → HeldT v h m n → HeldT (record v { spare = record { place = length v.left; entry = tt } ∷ v.spare; left = v.left ++ x ∷ [] }) h m n
      keeps {m = m} d = record {
        object = d.object;
        object' = d.object';
        stands = get_old v.left (x ∷ []) m d.object d.stands;
        stands' = d.stands';
        plain = d.plain;
        plain' = d.plain';
        no_pair = d.no_pair;
        no_pair' = d.no_pair';
        no_spare = λ l i. apart l (in_range d) d.no_spare (in_cases i);
        cells = d.cells;
        rest = d.rest;
        near = d.near;
      }

  pub left_made : (v : View) (x : Obj) → RidesT v → RidesT (record v { left = v.left ++ x ∷ [] })
  left_made v x r = record { roots = r.roots; held = λ h m n i. keeps (r.held h m n i); one = r.one; apart = r.apart; root_there = r.root_there; foreign_there = r.foreign_there; unset = r.unset }
    where
      keeps : {h m n : ℕ} → HeldT v h m n → HeldT (record v { left = v.left ++ x ∷ [] }) h m n
      keeps {m = m} d = record { object = d.object; object' = d.object'; stands = get_old v.left (x ∷ []) m d.object d.stands; stands' = d.stands'; plain = d.plain; plain' = d.plain'; no_pair = d.no_pair; no_pair' = d.no_pair'; no_spare = d.no_spare; cells = d.cells; rest = d.rest; near = d.near }

  -- ---- other objects change

  pub changed : (v : View) (os ps : List Obj) → ((h m n : ℕ) → HeldT v h m n → (slice_get os m ≡ slice_get v.left m) × (slice_get ps n ≡ slice_get v.right n)) → RidesT v → RidesT (record v { left = os; right = ps })
  changed v os ps f r = record { roots = r.roots; held = λ h m n i. keeps h m n (r.held h m n i); one = r.one; apart = r.apart; root_there = r.root_there; foreign_there = r.foreign_there; unset = r.unset }
    where
      keeps : (h m n : ℕ) → HeldT v h m n → HeldT (record v { left = os; right = ps }) h m n
      keeps h m n d = let e = f h m n d in record { object = d.object; object' = d.object'; stands = e.0 ∙ d.stands; stands' = e.1 ∙ d.stands'; plain = d.plain; plain' = d.plain'; no_pair = d.no_pair; no_pair' = d.no_pair'; no_spare = d.no_spare; cells = d.cells; rest = d.rest; near = d.near }

  pub any_changed : (v : View) (k : ℕ) (o x : Obj) → slice_get v.left k ≡ Some o → x ≡ record o { wanted = x.wanted } → RidesT v → RidesT (record v { left = slice_set v.left k x })
  any_changed v k o x e d r = record { roots = r.roots; held = λ h m n i. by_place (r.held h m n i) (place_cases k m); one = r.one; apart = r.apart; root_there = r.root_there; foreign_there = r.foreign_there; unset = r.unset }
    where
      by_place : {h m n : ℕ} → HeldT v h m n → (k ≡ m) ⊎ (k ≢ m) → HeldT (record v { left = slice_set v.left k x }) h m n
      by_place {m = m} a (inr n) = record { object = a.object; object' = a.object'; stands = get_set_other v.left k m x n ∙ a.stands; stands' = a.stands'; plain = a.plain; plain' = a.plain'; no_pair = a.no_pair; no_pair' = a.no_pair'; no_spare = a.no_spare; cells = a.cells; rest = a.rest; near = a.near }
      by_place {h = h} {m = m} a (inl n) =
          let there_o : slice_get v.left k ≡ Some a.object = ap (λ z. slice_get v.left z) n ∙ a.stands in
          let both : Some o ≡ Some a.object = sym e ∙ there_o in
          let same : o ≡ a.object = cc in
          let slots : x.slots ≡ a.object.slots = ap (λ z. z.slots) d ∙ ap (λ z. z.slots) same in record {
            object = x;
            object' = a.object';
            stands = subst (λ z. slice_get (slice_set v.left z x) m ≡ Some x) (sym n) (get_set_same v.left m a.object x a.stands);
            stands' = a.stands';
            plain = record { klass = ap (λ z. z.class) d ∙ ap (λ z. z.class) same ∙ a.plain.klass; code = ap (λ z. z.code) d ∙ ap (λ z. z.code) same ∙ a.plain.code; chain = ap (λ z. z.chain) d ∙ ap (λ z. z.chain) same ∙ a.plain.chain; elements = ap (λ z. z.elements) d ∙ ap (λ z. z.elements) same ∙ a.plain.elements };
            plain' = a.plain';
            no_pair = a.no_pair;
            no_pair' = a.no_pair';
            no_spare = a.no_spare;
            cells = λ p c. subst (λ z. CellT v.pairs v.stage (P.Inner h p) (find_slot z (name p)) (flat_option (slice_get v.values' (P.fresh h p)))) (sym slots) (a.cells p c);
            rest = subst (λ z. ListT (SlotT (Paired v.pairs)) (others h z) a.object'.slots) (sym slots) a.rest;
            near = a.near;
          }

  -- ---- a global that isn't foreign is set

  other_global : (n m : ℕ) → (P.Foreign n → ⊥) → P.Foreign m → n ≢ m
  other_global n m f g e = f (subst (λ z. P.Foreign z) (sym e) g)

  pub kept_value : (vs : List (Option Val)) (n m : ℕ) (x : Option Val) → n ≢ m → flat_option (slice_get (slice_set vs n x) m) ≡ flat_option (slice_get vs m)
  kept_value vs n m x d = ap flat_option (get_set_other vs n m x d)

  -- of the left the roots are as they were, and of the right the globals of roots and of properties
  pub globals_set : (v : View) (xs ys : List (Option Val)) → ((h : ℕ) → P.Root h → flat_option (slice_get xs (P.var h)) ≡ flat_option (slice_get v.values (P.var h))) → ((m : ℕ) → P.Foreign m → flat_option (slice_get ys m) ≡ flat_option (slice_get v.values' m)) → ((m : ℕ) → is_some (slice_get xs m) ≡ is_some (slice_get v.values m)) → ((m : ℕ) → is_some (slice_get ys m) ≡ is_some (slice_get v.values' m)) → RidesT v → RidesT (record v { values = xs; values' = ys })
  globals_set v xs ys e d es ds r = record {
    roots = λ h k. rw (e h k, d (P.var h) (P.root_foreign h k)) (r.roots h k);
    held = λ h m n i. keeps (r.held h m n i);
    one = r.one;
    apart = r.apart;
    root_there = λ h k. es (P.var h) ∙ r.root_there h k;
    foreign_there = λ m g. ds m ∙ r.foreign_there m g;
    unset = λ h p u k. rw (d (P.fresh h p) (P.fresh_foreign h p k)) (r.unset h p u k);
  }
    where
      keeps : {h m n : ℕ} → HeldT v h m n → HeldT (record v { values = xs; values' = ys }) h m n
      keeps {h = h} a = record { object = a.object; object' = a.object'; stands = a.stands; stands' = a.stands'; plain = a.plain; plain' = a.plain'; no_pair = a.no_pair; no_pair' = a.no_pair'; no_spare = a.no_spare; cells = λ p k. rw (d (P.fresh h p) (P.fresh_foreign h p k)) (a.cells p k); rest = a.rest; near = a.near }

  pub both_set : (v : View) (n : ℕ) → (P.Foreign n → ⊥) → (x y : Val) → RidesT v → RidesT (record v { values = slice_set v.values n (Some x); values' = slice_set v.values' n (Some y) })
  both_set v n f x y r = globals_set v _ _ (λ h k. kept_value v.values n (P.var h) (Some x) (other_global n (P.var h) f (P.root_foreign h k))) (λ m g. kept_value v.values' n m (Some y) (other_global n m f g)) (λ m. set_there v.values n m (Some x)) (λ m. set_there v.values' n m (Some y)) r

  pub left_set : (v : View) (n : ℕ) → (P.Foreign n → ⊥) → (x : Val) → RidesT v → RidesT (record v { values = slice_set v.values n (Some x) })
  left_set v n f x r = globals_set v _ _ (λ h k. kept_value v.values n (P.var h) (Some x) (other_global n (P.var h) f (P.root_foreign h k))) (λ m g. refl) (λ m. set_there v.values n m (Some x)) (λ m. refl) r

  -- ---- a chunk begins to load

  pub loading : (v : View) (c : ℕ) → RidesT v → RidesT (record v { loaded = v.loaded ++ c ∷ [] })
  loading v c r = record { roots = r.roots; held = λ h m n i. keeps (r.held h m n i); one = r.one; apart = r.apart; root_there = r.root_there; foreign_there = r.foreign_there; unset = r.unset }
    where
      keeps : {h m n : ℕ} → HeldT v h m n → HeldT (record v { loaded = v.loaded ++ c ∷ [] }) h m n
      keeps d = record { object = d.object; object' = d.object'; stands = d.stands; stands' = d.stands'; plain = d.plain; plain' = d.plain'; no_pair = d.no_pair; no_pair' = d.no_pair'; no_spare = d.no_spare; cells = d.cells; rest = d.rest; near = λ e q. any_front (λ z. nat_eq z e) v.loaded (c ∷ []) (d.near e q) }

  abbrev pub flat_rider : Rider P.Foreign
  flat_rider = record {
    Rides = RidesT;
    both_made = both_made;
    spare_made = spare_made;
    left_made = left_made;
    both_changed = λ v p i x y r. changed v _ _ (λ h m n d. (get_set_other v.left p.left m x (d.no_pair p i), get_set_other v.right p.right n y (d.no_pair' p i))) r;
    left_changed = λ v p i x r. changed v _ _ (λ h m n d. (get_set_other v.left p.left m x (d.no_pair p i), refl)) r;
    spare_changed = λ v a i x r. changed v _ _ (λ h m n d. (get_set_other v.left a.place m x (d.no_spare a i), refl)) r;
    any_changed = any_changed;
    both_set = both_set;
    left_set = left_set;
    loading = loading;
  }

  abbrev pub flat_other : Other S
  flat_other = record { set = P.set; globals = P.globals; Foreign = P.Foreign; Flat = λ p. ⊥; kinds = P.kinds; types = P.types; settled = P.settled; flat_types = λ p h. absurd h; flat_settled = λ p h. absurd h; rider = flat_rider }

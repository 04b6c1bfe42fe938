-- What the store is after a change of one object, of one frame, or of the classes constructed.
use Rattle.std.proofs.Common.{◌≡◌, ℕ, zero, suc, ◌<◌, ◌≤◌, Bool, true, false, ◌||◌, List, [], ◌∷◌, ◌++◌, length, map, set, slice_get, get_or, replicate, Option, Some, nat_eq, cond, refl, sym, ap, ◌∙◌}
use Rattle.std.specs.List.{list_any}
use Rattle.std.proofs.lemmas.Option.{slice_get_past, slice_get_read}
use Rattle.std.specs.Cmp.{nat_eq_equiv}
use Rattle.indexmap.specs.IndexSet.{insert_key}
use Rattle.cc_meaning.specs.Values.{Val}
use Rattle.cc_meaning.specs.State.{Obj, Frame}
use Rattle.cc_meaning.specs.Monad.{pick}
use Rattle.cc_meaning.specs.Store.{changed_at, slots_in}
use Rattle.cc_meaning.specs.Acts.{frames_with, note_constructed}
use Rattle.cc_heap.specs.Store.{Store}

-- the element at a place, as a look-up finds it
pub found-there : {X : Type 0} (xs : List X) (i : ℕ) (x : X) → i < length xs → x ≡ get_or xs i x → slice_get xs i ≡ Some x
found-there xs i x within at = slice_get_read xs (length xs) i x refl within at

module _ (s t : Store) (same : s ≡ t) where
  module _ (f : Obj → Obj) (n : ℕ) where
    pub unchanged : length s.objs ≤ n → s ≡ record t { objs = changed_at t.objs n (slice_get t.objs n) f }
    unfolding changed_at
    unchanged past =
        ap (λ (o : Option Obj). record s { objs = changed_at s.objs n o f }) (sym (slice_get_past s.objs n past))
        ∙ ap (λ (x : Store). record x { objs = changed_at x.objs n (slice_get x.objs n) f }) same

    pub changed : (o p : Obj) → n < length s.objs → o ≡ get_or s.objs n o → p ≡ f o → record s { objs = set s.objs n p } ≡ record t { objs = changed_at t.objs n (slice_get t.objs n) f }
    unfolding changed_at
    changed o p within at made =
        ap (λ (x : Obj). record s { objs = set s.objs n x }) made
        ∙ ap (λ (x : Option Obj). record s { objs = changed_at s.objs n x f }) (sym (found-there s.objs n o within at))
        ∙ ap (λ (x : Store). record x { objs = changed_at x.objs n (slice_get x.objs n) f }) same

  -- the slots of the object that is changed
  pub its-slots : (n : ℕ) (o : Obj) → n < length s.objs → o ≡ get_or s.objs n o → o.slots ≡ slots_in (slice_get t.objs n)
  unfolding slots_in
  its-slots n o within at = ap slots_in (sym (found-there s.objs n o within at)) ∙ ap (λ (x : Store). slots_in (slice_get x.objs n)) same

  pub no-slots : (n : ℕ) → length s.objs ≤ n → [] ≡ slots_in (slice_get t.objs n)
  unfolding slots_in
  no-slots n past = ap slots_in (sym (slice_get_past s.objs n past)) ∙ ap (λ (x : Store). slots_in (slice_get x.objs n)) same

  module _ (n place : ℕ) (v : Val) where
    pub frame-unchanged : length s.frames ≤ n → s ≡ record t { frames = frames_with t.frames n place v (slice_get t.frames n) }
    unfolding frames_with
    frame-unchanged past =
        ap (λ (o : Option Frame). record s { frames = frames_with s.frames n place v o }) (sym (slice_get_past s.frames n past))
        ∙ ap (λ (x : Store). record x { frames = frames_with x.frames n place v (slice_get x.frames n) }) same

    pub frame-changed : (o p : Frame) → n < length s.frames → o ≡ get_or s.frames n o → p ≡ record o { values = set o.values place (Some v) } → record s { frames = set s.frames n p } ≡ record t { frames = frames_with t.frames n place v (slice_get t.frames n) }
    unfolding frames_with
    frame-changed o p within at made =
        ap (λ (x : Frame). record s { frames = set s.frames n x }) made
        ∙ ap (λ (x : Option Frame). record s { frames = frames_with s.frames n place v x }) (sym (found-there s.frames n o within at))
        ∙ ap (λ (x : Store). record x { frames = frames_with x.frames n place v (slice_get x.frames n) }) same

any-flipped : (c : ℕ) (cs : List ℕ) → list_any (nat_eq c) cs ≡ list_any (λ d. nat_eq d c) cs
any-flipped c [] = refl
any-flipped c (d ∷ ds) = λ i. nat_eq_equiv.symm c d i || any-flipped c ds i

pub noted : (c : ℕ) (cs : List ℕ) → insert_key nat_eq cs c ≡ note_constructed (Some c) cs
unfolding note_constructed
noted c cs = ap (λ b. cond b cs (cs ++ c ∷ [])) (any-flipped c cs) ∙ by (list_any (λ d. nat_eq d c) cs)
  where
    by : (b : Bool) → cond b cs (cs ++ c ∷ []) ≡ pick b cs (cs ++ c ∷ [])
    by true = refl
    by false = refl

pub map-replicate : {X Y : Type 0} (f : X → Y) (n : ℕ) (x : X) → map f (replicate n x) ≡ replicate n (f x)
map-replicate f zero x = refl
map-replicate f (suc n) x = ap (λ ys. f x ∷ ys) (map-replicate f n x)

-- Frames of two runs of alike programs: each pair stands for one another, and so do those around.
use Rattle.std.proofs.Common.{◌≡◌, ◌≢◌, ◌⊎◌, inl, inr, ℕ, zero, suc, List, [], ◌∷◌, ◌++◌, length, Option, Some, None, refl, sym, ap, subst, ◌∙◌, append_assoc}
use Rattle.std.specs.Prelude.{slice_get, slice_set}
use Rattle.cc_meaning.specs.Values.{Val}
use Rattle.cc_meaning.specs.State.{FrameKind, of_call, of_catch, of_own_name, Frame, Env, Tables}
use Rattle.cc_meaning.specs.Store.{up_in, frame_up, frame_at}
use Rattle.cc_meaning.specs.Acts.{frames_with}
use Rattle.cc_meaning.specs.Alike.{Paired, OneToOne, FramePair, call_pair, catch_pair, own_pair, Around, Numbering, Nth, PlaceA, in_call, in_catch, in_own}
use Rattle.cc_meaning.specs.Alike as A
use Rattle.cc_tied.proofs.Lists.{place_cases, get_old, get_new, get_set_same, get_set_other}

-- ---- one place of a pair is set: the others stay

no_place : {X : Type 0} (gs : List X) (m : ℕ) (x : X) → slice_get gs m ≡ None → slice_get (slice_set gs m x) m ≡ None
no_place [] m x e = refl
no_place (g ∷ gs) zero x e = absurd (cc)
no_place (g ∷ gs) (suc m) x e = no_place gs m x e

set_both : {X : Type 0} (gs hs : List X) (m n : ℕ) (x : X) (a : Option X) → slice_get gs m ≡ a → slice_get hs n ≡ a → slice_get (slice_set gs m x) m ≡ slice_get (slice_set hs n x) n
set_both gs hs m n x None e d = no_place gs m x e ∙ sym (no_place hs n x d)
set_both gs hs m n x (Some a) e d = get_set_same gs m a x e ∙ sym (get_set_same hs n a x d)

set_cases : {X : Type 0} (gs hs : List X) (x : X) (m n j k : ℕ) → (m ≡ j → n ≡ k) → (n ≡ k → m ≡ j) → slice_get gs j ≡ slice_get hs k → (m ≡ j) ⊎ (m ≢ j) → (n ≡ k) ⊎ (n ≢ k) → slice_get (slice_set gs m x) j ≡ slice_get (slice_set hs n x) k
set_cases gs hs x m n j k p q b (inl e) (inl d) = subst (λ z. slice_get (slice_set gs m x) z ≡ slice_get (slice_set hs n x) k) e (subst (λ z. slice_get (slice_set gs m x) m ≡ slice_get (slice_set hs n x) z) d (set_both gs hs m n x _ refl (ap (λ z. slice_get hs z) d ∙ sym b ∙ ap (λ z. slice_get gs z) (sym e))))
set_cases gs hs x m n j k p q b (inl e) (inr d) = absurd (d (p e))
set_cases gs hs x m n j k p q b (inr e) (inl d) = absurd (e (q d))
set_cases gs hs x m n j k p q b (inr e) (inr d) = get_set_other gs m j x e ∙ b ∙ sym (get_set_other hs n k x d)

pub set_pair : {X : Type 0} (gs hs : List X) (x : X) (m n j k : ℕ) → (m ≡ j → n ≡ k) → (n ≡ k → m ≡ j) → slice_get gs j ≡ slice_get hs k → slice_get (slice_set gs m x) j ≡ slice_get (slice_set hs n x) k
set_pair gs hs x m n j k p q b = set_cases gs hs x m n j k p q b (place_cases m j) (place_cases n k)

-- ---- labels of frames: what stands for one another, and the upper frame, which has one number in both runs

pub record Label : Type 0 where
  pub pair : FramePair
  pub up : Option ℕ

pub data KindA : FramePair → FrameKind → FrameKind → Type 0 where
  call_k : {f g : ℕ} → KindA (call_pair f g) (of_call f) (of_call g)
  catch_k : KindA catch_pair of_catch of_catch
  own_k : KindA own_pair of_own_name of_own_name

-- the frames from one on are those around
abbrev pub Chain : List Label → Around → Option ℕ → Type 0
Chain w [] at = Unit {0}
Chain w (p ∷ c) None = ⊥
Chain w (p ∷ c) (Some i) = (u : Option ℕ) × (slice_get w i ≡ Some (record { pair = p; up = u })) × Chain w c u

pub record EnvA (c : Around) (w : List Label) (g h : Env) : Type 0 where
  pub at : g.at ≡ h.at
  pub this : g.this ≡ h.this
  pub chain : Chain w c g.at

pub record Grows (v w : List Label) : Type 0 where
  pub more : List Label
  pub is : w ≡ v ++ more

pub grows_on : {u v w : List Label} → Grows u v → Grows v w → Grows u w
grows_on {u = u} l k = record { more = l.more ++ k.more; is = k.is ∙ ap (λ z. z ++ k.more) l.is ∙ append_assoc u l.more k.more }

chain_grows : (v more : List Label) (c : Around) (at : Option ℕ) → Chain v c at → Chain (v ++ more) c at
chain_grows v more [] at h = tt
chain_grows v more (p ∷ c) None h = absurd h
chain_grows v more (p ∷ c) (Some i) h = (h.0, get_old v more i _ h.1, chain_grows v more c h.0 h.2)

pub chain_later : {v w : List Label} → Grows v w → (c : Around) (at : Option ℕ) → Chain v c at → Chain w c at
chain_later {v = v} l c at h = subst (λ z. Chain z c at) (sym l.is) (chain_grows v l.more c at h)

pub env_grows : {v w : List Label} → Grows v w → (c : Around) (g h : Env) → EnvA c v g h → EnvA c w g h
env_grows l c g h e = record { at = e.at; this = e.this; chain = chain_later l c g.at e.chain }

pub label_at_end : (w : List Label) (l : Label) (n : ℕ) → n ≡ length w → slice_get (w ++ l ∷ []) n ≡ Some l
label_at_end w l n e = rw e (get_new w l)

-- ---- frames

module _ (S T : Tables) (N : Numbering) where
  pub record FrameA (l : Label) (a b : Frame) : Type 0 where
    pub kind : KindA l.pair a.kind b.kind
    pub up : a.up ≡ l.up
    pub up' : b.up ≡ l.up
    pub values : (m n : ℕ) → PlaceA S T N l.pair m n → slice_get a.values m ≡ slice_get b.values n

  pub data Frames : List Label → List Frame → List Frame → Type 0 where
    no_frames : Frames [] [] []
    more_frames : {l : Label} {a b : Frame} {ls : List Label} {fs gs : List Frame} → FrameA l a b → Frames ls fs gs → Frames (l ∷ ls) (a ∷ fs) (b ∷ gs)

  pub data FrameAt (l : Label) : Option Frame → Option Frame → Type 0 where
    frame_there : {a b : Frame} → FrameA l a b → FrameAt l (Some a) (Some b)

  some_same : {l k : Label} → Some l ≡ Some k → {a b : Option Frame} → FrameAt l a b → FrameAt k a b
  some_same {l = l} {k = k} e {a = a} {b = b} h = let d : l ≡ k = cc in subst (λ z. FrameAt z a b) d h

  pub frames_get : {ls : List Label} {fs gs : List Frame} → Frames ls fs gs → (i : ℕ) (l : Label) → slice_get ls i ≡ Some l → FrameAt l (slice_get fs i) (slice_get gs i)
  frames_get no_frames i l e = absurd (cc)
  frames_get (more_frames h t) zero l e = some_same e (frame_there h)
  frames_get (more_frames h t) (suc i) l e = frames_get t i l e

  label_frame : {l k : Label} → Some l ≡ Some k → {a b : Frame} → FrameA k a b → FrameA l a b
  label_frame {l = l} {k = k} e {a = a} {b = b} h = let d : k ≡ l = cc in subst (λ z. FrameA z a b) d h

  frames_set : {ls : List Label} {fs gs : List Frame} → Frames ls fs gs → (i : ℕ) (l : Label) → slice_get ls i ≡ Some l → {a b : Frame} → FrameA l a b → Frames ls (slice_set fs i a) (slice_set gs i b)
  frames_set no_frames i l e h = no_frames
  frames_set (more_frames k t) zero l e h = more_frames (label_frame e h) t
  frames_set (more_frames k t) (suc i) l e h = more_frames k (frames_set t i l e h)

  pub frames_push : {ls : List Label} {fs gs : List Frame} {l : Label} {a b : Frame} → Frames ls fs gs → FrameA l a b → Frames (ls ++ l ∷ []) (fs ++ a ∷ []) (gs ++ b ∷ [])
  frames_push no_frames h = more_frames h no_frames
  frames_push (more_frames k t) h = more_frames k (frames_push t h)

  pub length_left : {ls : List Label} {fs gs : List Frame} → Frames ls fs gs → length fs ≡ length ls
  length_left no_frames = refl
  length_left (more_frames h t) = ap suc (length_left t)

  pub length_right : {ls : List Label} {fs gs : List Frame} → Frames ls fs gs → length gs ≡ length ls
  length_right no_frames = refl
  length_right (more_frames h t) = ap suc (length_right t)

  ups_left : {l : Label} {a b : Option Frame} → FrameAt l a b → up_in a ≡ l.up
  unfolding up_in
  ups_left (frame_there h) = h.up

  ups_right : {l : Label} {a b : Option Frame} → FrameAt l a b → up_in b ≡ l.up
  unfolding up_in
  ups_right (frame_there h) = h.up'

  -- the frame that is n steps outwards
  pub record Found (w : List Label) (fs gs : List Frame) (n : ℕ) (at at' : Option ℕ) (p : FramePair) : Type 0 where
    pub i : ℕ
    pub u : Option ℕ
    pub here : slice_get w i ≡ Some (record { pair = p; up = u })
    pub left : frame_up n fs at ≡ Some i
    pub right : frame_up n gs at' ≡ Some i

  walk_same : {w : List Label} {fs gs : List Frame} → Frames w fs gs → {p : FramePair} {n : ℕ} {c : Around} → Nth p n c → (at : Option ℕ) → Chain w c at → Found w fs gs n at at p
  unfolding frame_up
  walk_same h A.first None k = absurd k
  walk_same h A.first (Some i) k = record { i = i; u = k.0; here = k.1; left = refl; right = refl }
  walk_same h (A.later q) None k = absurd k
  walk_same {w = w} {fs = fs} {gs = gs} h {p = p} (A.later {n = n} q) (Some i) k =
      let r : Found w fs gs n k.0 k.0 p = walk_same h q k.0 k.2 in
      record { i = r.i; u = r.u; here = r.here; left = ap (λ z. frame_up n fs z) (ups_left (frames_get h i _ k.1)) ∙ r.left; right = ap (λ z. frame_up n gs z) (ups_right (frames_get h i _ k.1)) ∙ r.right }

  pub find_frame : {w : List Label} {fs gs : List Frame} → Frames w fs gs → {p : FramePair} {n : ℕ} {c : Around} → Nth p n c → {g h : Env} → EnvA c w g h → Found w fs gs n g.at h.at p
  find_frame {w = w} {fs = fs} {gs = gs} h {p = p} {n = n} q {g = g} e = subst (λ z. Found w fs gs n g.at z p) e.at (walk_same h q g.at e.chain)

  -- the two frames that are found
  pub frames_found : {w : List Label} {fs gs : List Frame} → Frames w fs gs → {n : ℕ} {at at' : Option ℕ} {p : FramePair} → (k : Found w fs gs n at at' p) → FrameAt (record { pair = p; up = k.u }) (frame_at fs (frame_up n fs at)) (frame_at gs (frame_up n gs at'))
  unfolding frame_at
  frames_found {fs = fs} {gs = gs} h {n = n} {at' = at'} {p = p} k =
      subst (λ z. FrameAt (record { pair = p; up = k.u }) (frame_at fs z) (frame_at gs (frame_up n gs at'))) (sym k.left)
      (subst (λ z. FrameAt (record { pair = p; up = k.u }) (slice_get fs k.i) (frame_at gs z)) (sym k.right)
      (frames_get h k.i _ k.here))

  -- a place of both is set
  module _ (places_once : (p : ℕ × ℕ) → OneToOne (N.places p)) where
    place_right : {p : FramePair} {m n j k : ℕ} → PlaceA S T N p m n → PlaceA S T N p j k → m ≡ j → n ≡ k
    place_right (in_call {f = f} {g = g} {m = m} {n = n} q) (in_call {m = j} {n = k} r) e = (places_once (f, g)).left m n k q (subst (λ z. Paired (N.places (f, g)) z k) (sym e) r)
    place_right in_catch in_catch e = refl
    place_right in_own in_own e = refl

    place_left : {p : FramePair} {m n j k : ℕ} → PlaceA S T N p m n → PlaceA S T N p j k → n ≡ k → m ≡ j
    place_left (in_call {f = f} {g = g} {m = m} {n = n} q) (in_call {m = j} {n = k} r) e = (places_once (f, g)).right m j n q (subst (λ z. Paired (N.places (f, g)) j z) (sym e) r)
    place_left in_catch in_catch e = refl
    place_left in_own in_own e = refl

    pub place_set : {w : List Label} {fs gs : List Frame} → Frames w fs gs → (i : ℕ) (l : Label) → slice_get w i ≡ Some l → {a b : Option Frame} → FrameAt l a b → (x : Val) {m n : ℕ} → PlaceA S T N l.pair m n → Frames w (frames_with fs i m x a) (frames_with gs i n x b)
    unfolding frames_with
    place_set h i l e (frame_there {a = a} {b = b} k) x {m = m} {n = n} q = frames_set h i l e (record { kind = k.kind; up = k.up; up' = k.up'; values = λ j o r. set_pair a.values b.values (Some x) m n j o (place_right q r) (place_left q r) (k.values j o r) })

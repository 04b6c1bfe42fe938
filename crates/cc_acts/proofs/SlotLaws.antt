-- Reads and writes of slots, step by step.
use Rattle.std.proofs.Common.{◌≡◌, ℕ, Bool, List, [], ◌∷◌, Some, Ok, Err, refl, ap, ◌∙◌, sym}
use Rattle.cc_ast.specs.declared.tables.TypeSet.{TypeSet}
use Rattle.cc_meaning.specs.Values.{Val, Spot, prim, obj}
use Rattle.cc_meaning.specs.State.{Kind, Obj, State}
use Rattle.cc_meaning.specs.Monad.{Res, ok, M, ret, said, after, ◌>>=◌}
use Rattle.cc_meaning.specs.Builtins.{or_undefined}
use Rattle.cc_meaning.specs.Store.{Access, Found, found_value, found_use, nothing_found, name_of, look_up, value_found, change, put_own, kind_for}
use Rattle.cc_meaning.specs.SlotRules.{fields_reached}
use Rattle.cc_meaning.specs.Judge.{reads, writes, least_broken}
use Rattle.cc_meaning.specs.Acts.{judged, reading, changing, receive_all, read_slot, write_slot}
use Rattle.cc_heap.specs.Store.{value_if_found}
use Rattle.cc_acts.specs.declared.stop.Stop.{Stop}
use Rattle.cc_acts.specs.declared.stop.Stop.TheVariants.{Ended, Memory}
use Rattle.cc_acts.specs.Received.{received, received_all}
use Rattle.cc_acts.specs.Shown.{Comes, Settles}
use Rattle.cc_acts.specs.Verdicts.{mode_of, end_of}
use Rattle.cc_acts.proofs.Judging.{goes, ends}
use Rattle.cc_acts.proofs.FieldLaws.{IsNoObj, nothing-entered}
use Rattle.cc_acts.proofs.Variables.{receives}
use Rattle.cc_ast.specs.Syntax.{undefined}

pub found-or-undefined : (f : Found) → or_undefined (value_if_found f) ≡ value_found f
unfolding or_undefined value_found
found-or-undefined (found_value v) = refl
found-or-undefined (found_use u) = refl
found-or-undefined nothing_found = refl

pub receives-all : (ts : List TypeSet) (v : Val) (s : State) → receive_all ts v s ≡ ok [] tt (record s { objs = received_all ts v s.objs })
unfolding receive_all received_all ◌>>=◌ after said ret
receives-all [] v s = refl
receives-all (t ∷ ts) v s =
    ap (λ (r : Res (Unit {0})). after r (λ _. receive_all ts v)) (receives (Some t) v s)
    ∙ ap (λ (r : Res (Unit {0})). said [] r) (receives-all ts v (record s { objs = received (Some t) v s.objs }))

-- a part that ends the run ends whatever comes after it
pub after-stops : {A B C D : Type 0} (f : C → B) (g : D → A) (e : Stop) (t : State) (r : Res A) (h : A → M B) → Comes g (Err e) t r → Comes f (Err e) t (after r h)
unfolding after
after-stops f g (Ended e) t r h c = ap (λ z. after z h) c
after-stops f g Memory t r h c = tt

pub read-goes : (b : Bool) (i : Spot) (o : ℕ) (a : Access) (s : State) (u : Unit {0}) (v : Val) →
    Settles (Ok u) (end_of b i (reads (obj o) a) (least_broken s.tables s (reads (obj o) a))) → value_found (look_up s.objs o (name_of s.tables a)) ≡ v →
    read_slot (mode_of b) i o a s ≡ ok [] v (record s { objs = received_all (fields_reached s.tables s.objs o a) v s.objs })
unfolding read_slot ◌>>=◌ after said reading ret
read-goes b i o a s u v h e =
    ap (λ (r : Res Val). after r (λ v s. after (receive_all (fields_reached s.tables s.objs o a) v s) (λ _. ret v)))
    (goes (λ (x : Val). x) b i (reads (obj o) a) (reading (λ s. value_found (look_up s.objs o (name_of s.tables a)))) s s u (Ok v) h (ap (λ (x : Val). ok [] x s) e))
    ∙ ap (λ (r : Res (Unit {0})). said [] (after r (λ _. ret v))) (receives-all (fields_reached s.tables s.objs o a) v s)

pub read-ends : {A : Type 0} (f : A → Val) (b : Bool) (i : Spot) (o : ℕ) (a : Access) (s t : State) (e : Stop) →
    Settles (Err e) (end_of b i (reads (obj o) a) (least_broken s.tables s (reads (obj o) a))) → Comes f (Err e) t (read_slot (mode_of b) i o a s)
unfolding read_slot ◌>>=◌
read-ends f b i o a s t e h =
    after-stops f (λ (x : Val). x) e t (judged (mode_of b) i (reads (obj o) a) (reading (λ s. value_found (look_up s.objs o (name_of s.tables a)))) s) (λ v s. after (receive_all (fields_reached s.tables s.objs o a) v s) (λ _. ret v))
    (ends (λ (x : Val). x) b i (reads (obj o) a) (reading (λ s. value_found (look_up s.objs o (name_of s.tables a)))) s t e h)

-- what a write puts
abbrev pub written : ℕ → Access → Kind → Val → State → State
written o a made v s = change o (put_own (name_of s.tables a) (kind_for s.tables (name_of s.tables a) made) v) s

pub write-goes : (b : Bool) (i : Spot) (o : ℕ) (a : Access) (made : Kind) (v : Val) (declares : Bool) (s : State) (u : Unit {0}) →
    Settles (Ok u) (end_of b i (writes (obj o) a v declares) (least_broken s.tables s (writes (obj o) a v declares))) →
    write_slot (mode_of b) i o a made v declares s ≡ ok [] tt (record (written o a made v s) { objs = received_all (fields_reached s.tables (written o a made v s).objs o a) v (written o a made v s).objs })
unfolding write_slot ◌>>=◌ after said changing ret change
write-goes b i o a made v declares s u h =
    ap (λ (r : Res (Unit {0})). after r (λ _ s. receive_all (fields_reached s.tables s.objs o a) v s))
    (goes (λ (x : Unit {0}). x) b i (writes (obj o) a v declares) (λ s. changing (change o (put_own (name_of s.tables a) (kind_for s.tables (name_of s.tables a) made) v)) s) s (written o a made v s) u (Ok tt) h refl)
    ∙ ap (λ (r : Res (Unit {0})). said [] r) (receives-all (fields_reached s.tables (written o a made v s).objs o a) v (written o a made v s))

pub write-ends : {A : Type 0} (f : A → Unit {0}) (b : Bool) (i : Spot) (o : ℕ) (a : Access) (made : Kind) (v : Val) (declares : Bool) (s t : State) (e : Stop) →
    Settles (Err e) (end_of b i (writes (obj o) a v declares) (least_broken s.tables s (writes (obj o) a v declares))) → Comes f (Err e) t (write_slot (mode_of b) i o a made v declares s)
unfolding write_slot ◌>>=◌
write-ends f b i o a made v declares s t e h =
    after-stops f (λ (x : Unit {0}). x) e t (judged (mode_of b) i (writes (obj o) a v declares) (λ s. changing (change o (put_own (name_of s.tables a) (kind_for s.tables (name_of s.tables a) made) v)) s) s) (λ _ s. receive_all (fields_reached s.tables s.objs o a) v s)
    (ends (λ (x : Unit {0}). x) b i (writes (obj o) a v declares) (λ s. changing (change o (put_own (name_of s.tables a) (kind_for s.tables (name_of s.tables a) made) v)) s) s t e h)

-- a value that is no object enters as little as undefined
pub outlined : (v : Val) → IsNoObj v → (ts : List TypeSet) (os : List Obj) → received_all ts (prim undefined) os ≡ received_all ts v os
outlined v m ts os = sym (nothing-entered (prim undefined) tt ts os) ∙ nothing-entered v m ts os

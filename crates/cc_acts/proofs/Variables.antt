-- Reads and writes of variables, case by case.
use Rattle.std.proofs.Common.{◌≡◌, ℕ, Bool, zero, suc, ◌≤◌, length, slice_set, arith, ◌∷◌, List, [], Option, Some, None, Ok, Err, refl, ap, ◌∙◌, sym, subst}
use Rattle.cc_ast.specs.declared.tables.TypeSet.{TypeSet}
use Rattle.cc_ast.specs.declared.tables.Element.{Element}
use Rattle.cc_ast.specs.declared.tree.Ref.{Ref}
use Rattle.cc_meaning.specs.Values.{Val, prim, obj, out, Spot}
use Rattle.cc_meaning.specs.State.{FrameKind, Frame, Env, State}
use Rattle.cc_meaning.specs.Monad.{Res, ok, M, ret, skip, stop, said, after, ◌>>=◌, with_tables, Mode}
use Rattle.cc_meaning.specs.Store.{frame_at, frame_up, change}
use Rattle.cc_meaning.specs.Typed.{Variable, variable_type}
use Rattle.cc_meaning.specs.Judge.{keeps, least_broken}
use Rattle.cc_meaning.specs.Acts.{judged, changing, receive, enter_element, place_in, read_by_kind, read_place, read_var, write_by_kind, write_place, write_var, keep, set_place, set_global}
use Rattle.cc_heap.specs.Store.{frame_kind_in}
use Rattle.cc_acts.specs.declared.stop.Stop.{Stop}
use Rattle.cc_acts.specs.declared.stop.Stop.TheVariants.{Ended, Memory}
use Rattle.cc_acts.specs.Received.{entered_at, received, SparesObjects}
use Rattle.cc_acts.specs.Shown.{Comes, Settles}
use Rattle.cc_acts.specs.Verdicts.{mode_of, end_of}
use Rattle.cc_acts.proofs.Judging.{goes, ends}

kind_or : FrameKind → Option FrameKind → FrameKind
kind_or d None = d
kind_or d (Some k) = k

IsThere : Option FrameKind → Type 0
IsThere None = ⊥
IsThere (Some k) = Unit {0}

module _ (J : Mode) (i : Spot) where
  pub read-kind : (o : Option Frame) (n : ℕ) (k : FrameKind) → frame_kind_in o ≡ Some k → read_place J i o n ≡ read_by_kind J i k n (place_in o n)
  unfolding read_place kind_or IsThere
  read-kind None n k e = absurd (subst IsThere (sym e) tt)
  read-kind (Some f) n k e = ap (λ (x : FrameKind). read_by_kind J i x n (place_in (Some f) n)) (ap (kind_or k) e)

  pub read-nothing : (o : Option Frame) (n : ℕ) → frame_kind_in o ≡ None → read_place J i o n ≡ stop (J.fault 3 i)
  unfolding read_place IsThere
  read-nothing None n e = refl
  read-nothing (Some f) n e = absurd (subst IsThere e tt)

  pub read-at : (g : Env) (at : Option ℕ) (up n : ℕ) (o : Option ℕ) (s : State) → g.at ≡ at → o ≡ frame_up up s.frames at → read_place J i (frame_at s.frames o) n s ≡ read_var J i g (Ref.Frame up n) s
  unfolding read_var
  read-at g at up n o s e is = ap (λ (x : Option ℕ). read_place J i (frame_at s.frames x) n s) (is ∙ ap (λ (x : Option ℕ). frame_up up s.frames x) (sym e))

  pub write-kind : (o : Option Frame) (at : Option ℕ) (n : ℕ) (v : Val) (k : FrameKind) → frame_kind_in o ≡ Some k → write_place J i o at n v ≡ write_by_kind J i k at n v
  unfolding write_place kind_or IsThere
  write-kind None at n v k e = absurd (subst IsThere (sym e) tt)
  write-kind (Some f) at n v k e = ap (λ (x : FrameKind). write_by_kind J i x at n v) (ap (kind_or k) e)

  pub write-nothing : (o : Option Frame) (at : Option ℕ) (n : ℕ) (v : Val) → frame_kind_in o ≡ None → write_place J i o at n v ≡ skip
  unfolding write_place IsThere
  write-nothing None at n v e = refl
  write-nothing (Some f) at n v e = absurd (subst IsThere e tt)

  pub write-at : (g : Env) (at : Option ℕ) (up n : ℕ) (v : Val) (o : Option ℕ) (s : State) → g.at ≡ at → o ≡ frame_up up s.frames at → write_place J i (frame_at s.frames o) o n v s ≡ write_var J i g (Ref.Frame up n) v s
  unfolding write_var
  write-at g at up n v o s e is = ap (λ (x : Option ℕ). write_place J i (frame_at s.frames x) x n v s) (is ∙ ap (λ (x : Option ℕ). frame_up up s.frames x) (sym e))

enters : (e : Option Element) (v : Val) (s : State) → enter_element e v s ≡ ok [] tt (record s { objs = entered_at e v s.objs })
unfolding enter_element changing change ret
enters (Some e) (obj n) s = refl
enters (Some e) (out n) s = refl
enters (Some e) (prim p) s = refl
enters None v s = refl

pub receives : (t : Option TypeSet) (v : Val) (s : State) → receive t v s ≡ ok [] tt (record s { objs = received t v s.objs })
unfolding receive ret
receives None v s = refl
receives (Some t) v s = enters t.element v s

-- a value that a variable receives and may
kept : (x : Variable) (v : Val) (f : State → State) (k : SparesObjects f) (s : State) →
    with_tables (λ T. receive (variable_type T x) v) (f s) ≡ ok [] tt (f (record s { objs = received (variable_type s.tables x) v s.objs }))
unfolding with_tables
kept x v f k s =
    receives (variable_type (f s).tables x) v (f s)
    ∙ (λ j. ok [] tt (record (f s) { objs = received (variable_type (k.tables s j) x) v (k.objs s j) }))
    ∙ ap (λ (z : State). ok [] tt z) (sym (k.apart s (received (variable_type s.tables x) v s.objs)))

said_ok : {A : Type 0} (m : Res A) (a : A) (s : State) → m ≡ ok [] a s → said [] m ≡ ok [] a s
unfolding said
said_ok m a s e = ap (λ (r : Res _). said [] r) e

pub keep-goes : (b : Bool) (i : Spot) (x : Variable) (v : Val) (f : State → State) (k : SparesObjects f) (s : State) (u : Unit {0}) →
    Settles (Ok u) (end_of b i (keeps x v) (least_broken s.tables s (keeps x v))) → keep (mode_of b) i x v f s ≡ ok [] tt (f (record s { objs = received (variable_type s.tables x) v s.objs }))
unfolding keep ◌>>=◌ after changing ret
keep-goes b i x v f k s u h =
    ap (λ (r : Res (Unit {0})). after r (λ _. with_tables (λ T. receive (variable_type T x) v))) (goes (λ (z : Unit {0}). z) b i (keeps x v) (changing f) s (f s) u (Ok tt) h refl)
    ∙ said_ok _ tt _ (kept x v f k s)

after-ends : (b : Bool) (i : Spot) (x : Variable) (v : Val) (f : State → State) (s : State) (e : Stop) (h : Unit {0} → M (Unit {0})) (t : State) (r : Res (Unit {0})) →
    Comes {A = Unit {0}} {B = Unit {0}} (λ z. z) (Err e) t r → Comes {A = Unit {0}} {B = Unit {0}} (λ z. z) (Err e) t (after r h)
unfolding after
after-ends b i x v f s (Ended e) h t r c = ap (λ (z : Res (Unit {0})). after z h) c
after-ends b i x v f s Memory h t r c = c

pub keep-ends : (b : Bool) (i : Spot) (x : Variable) (v : Val) (f : State → State) (s t : State) (e : Stop) →
    Settles (Err e) (end_of b i (keeps x v) (least_broken s.tables s (keeps x v))) → Comes {A = Unit {0}} (λ z. z) (Err e) t (keep (mode_of b) i x v f s)
unfolding keep ◌>>=◌
keep-ends b i x v f s t e h = after-ends b i x v f s e (λ _. with_tables (λ T. receive (variable_type T x) v)) t (judged (mode_of b) i (keeps x v) (changing f) s) (ends (λ (z : Unit {0}). z) b i (keeps x v) (changing f) s t e h)

pub err-anywhere : {A B : Type 0} (f : A → B) (x : Stop) (s t : State) (r : Res B) → Comes f (Err x) s r → Comes f (Err x) t r
err-anywhere f (Ended e) s t r c = c
err-anywhere f Memory s t r c = c

pub spares-place : (i n : ℕ) (v : Val) → SparesObjects (set_place (Some i) n v)
unfolding set_place
spares-place i n v = record { tables = λ s. refl; objs = λ s. refl; apart = λ s os. refl }

pub spares-global : (n : ℕ) (v : Val) → SparesObjects (set_global n v)
unfolding set_global
spares-global n v = record { tables = λ s. refl; objs = λ s. refl; apart = λ s os. refl }

pub set-past : {A : Type 0} (l : List A) (i : ℕ) (a : A) → length l ≤ i → l ≡ slice_set l i a
set-past [] i a h = refl
set-past (x ∷ xs) zero a h = absurd (omega arith)
set-past (x ∷ xs) (suc i) a h = ap (λ ys. x ∷ ys) (set-past xs i a (omega arith))

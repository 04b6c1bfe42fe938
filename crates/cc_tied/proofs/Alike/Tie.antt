-- The tie of alike programs' plain runs: equal stores, up to what alike programs may differ in.
use Rattle.std.proofs.Common.{◌≡◌, ℕ, zero, suc, Bool, true, false, List, [], ◌∷◌, map, Option, Some, None, refl, sym, ap, subst, ◌∙◌, append-nil, arith}
use Rattle.std.specs.Prelude.{slice_get}
use Rattle.cc_ast.specs.Syntax.{Program}
use Rattle.cc_ast.specs.declared.tree.Ref.{Ref}
use Rattle.cc_ast.specs.declared.tables.GlobalInfo.{GlobalInfo}
use Rattle.cc_ast.specs.declared.tables.TypeSet.{TypeSet}
use Rattle.cc_ast.specs.declared.tables.Element.{Element}
use Rattle.cc_meaning.specs.Values.{Val, prim, obj, out, Spot}
use Rattle.cc_meaning.specs.Operators.{key_text}
use Rattle.cc_meaning.specs.State.{Obj, Reply, State, Tables}
use Rattle.cc_meaning.specs.Monad.{spent, waits, strayed, End, paid, M, ok, ret, skip, said, after, ◌>>=◌, with_tables}
use Rattle.cc_meaning.specs.Store.{Access, name_of, runtime, quoted, without_chunk, chunk_in, global_kind, of_chunk, change}
use Rattle.cc_meaning.specs.Typed.{entered_in}
use Rattle.cc_meaning.specs.Judge.{Act, least_broken}
use Rattle.cc_meaning.specs.Acts.{is_whole, judged, changing, enter_element, receive, receive_all, receive_each}
use Rattle.cc_meaning.specs.Shapes.{tables_of, without_paths, plain_tables}
use Rattle.cc_meaning.specs.Script.{plain}
use Rattle.cc_meaning.specs.Alike.{Paired, OneToOne, FramePair, call_pair, catch_pair, own_pair, Around, Numbering, Alike, RefA, frame_a, global_a, FunA, owns}
use Rattle.cc_meaning.specs.Alike as A
use Rattle.cc_tied.specs.Tied.{ListT, built_at, built_of}
use Rattle.cc_tied.proofs.Laws.{said_none}
use Rattle.cc_tied.proofs.Sim.{Tie, World, ResT, over_t, Sim, fine, PayT, both_pay, neither, both_fault}
use Rattle.cc_tied.proofs.Equality.Equal.{val_as, opt_as, numbers_as, once}
use Rattle.cc_tied.proofs.DecimalNames.{no_letter, whole_low}
use Rattle.cc_tied.proofs.Fatal.{stops, decide, judged_plain, whole_key}
use Rattle.cc_tied.proofs.Alike.Frames.{Label, Chain, EnvA, Grows, grows_on, chain_later, env_grows, Frames}
use Rattle.cc_tied.proofs.Alike.Objects.{beyond, CodeA, ObjA, entered_left, entered_right, objs_left, objs_right}

-- the ends of two plain runs
pub data EndA : End → End → Type 0 where
  spent_a : EndA spent spent
  waits_a : EndA waits waits
  stray_a : {i j : Spot} → EndA (strayed i) (strayed j)

-- ---- globals are of one kind in the plain run's tables

chunks_same : (gs : List GlobalInfo) → without_chunk (map without_paths gs) ≡ without_chunk gs
unfolding without_chunk without_paths
chunks_same [] = refl
chunks_same (g ∷ gs) = rw (chunks_same gs) refl

chunk_same : (gs : List GlobalInfo) (n : ℕ) → chunk_in (slice_get (map without_paths gs) n) ≡ chunk_in (slice_get gs n)
unfolding chunk_in without_paths
chunk_same [] n = refl
chunk_same (g ∷ gs) zero = refl
chunk_same (g ∷ gs) (suc n) = chunk_same gs n

pub kind_same : (P : Program) (n : ℕ) → global_kind (plain_tables P) n ≡ global_kind (tables_of P) n
unfolding global_kind plain_tables tables_of
kind_same P n = rw (chunks_same P.globals, chunk_same P.globals n) refl

module _ (P Q : Program) (al : Alike P Q) where
  abbrev N : Numbering
  N = al.N

  abbrev S : Tables
  S = tables_of P

  abbrev S' : Tables
  S' = tables_of Q

  pub record TiedA (w : List Label) (s t : State) : Type 0 where
    pub tables : s.tables ≡ plain_tables P
    pub tables' : t.tables ≡ plain_tables Q
    pub objs : ListT (ObjA S N w) s.objs t.objs
    pub frames : Frames S S' N w s.frames t.frames
    pub globals : (m n c : ℕ) → Paired N.globals m n → global_kind S m ≡ of_chunk c → slice_get s.globals m ≡ slice_get t.globals n
    pub loaded : s.loaded ≡ t.loaded
    pub failed : s.failed ≡ t.failed
    pub handles : s.handles ≡ t.handles
    pub budget : s.budget ≡ t.budget
    pub replies : s.replies ≡ t.replies

  pay_one : {w : List Label} {s t : State} → TiedA w s t → (o : Option ℕ) → PayT (TiedA w) ⊥ ⊥ s t o o
  pay_one h None = neither
  pay_one h (Some b) = both_pay (record { tables = h.tables; tables' = h.tables'; objs = h.objs; frames = h.frames; globals = h.globals; loaded = h.loaded; failed = h.failed; handles = h.handles; budget = refl; replies = h.replies })

  pub pay_tied : {w : List Label} {s t : State} → TiedA w s t → PayT (TiedA w) ⊥ ⊥ s t (paid 1 s.budget) (paid 1 t.budget)
  pay_tied {w = w} {s = s} {t = t} h = subst (λ z. PayT (TiedA w) ⊥ ⊥ s t (paid 1 s.budget) (paid 1 z)) h.budget (pay_one h (paid 1 s.budget))

  pub replied : {w : List Label} {s t : State} (rs : List Reply) → TiedA w s t → TiedA w (record s { replies = rs }) (record t { replies = rs })
  replied rs h = record { tables = h.tables; tables' = h.tables'; objs = h.objs; frames = h.frames; globals = h.globals; loaded = h.loaded; failed = h.failed; handles = h.handles; budget = h.budget; replies = refl }

  -- the same name, of a whole number on both sides or on neither
  pub record KeyN (a b : Access) : Type 0 where
    pub same : name_of (plain_tables P) a ≡ name_of (plain_tables Q) b
    pub whole : whole_key a ≡ whole_key b
    -- the text of a whole number
    pub numeric : whole_key a ≡ true → no_letter (name_of (plain_tables P) a) ≡ true

  pub built_same : {c : Around} {r r' : Ref} → RefA S S' N c r r' → built_of (plain_tables P) r ≡ built_of (plain_tables Q) r'
  unfolding built_of
  built_same (frame_a p q l) = refl
  built_same (global_a {m = m} {n = n} q) = ap built_at (kind_same P m ∙ (al.globals m n q).kind ∙ sym (kind_same Q n))

  abbrev pub UpA : List Label → (f g : ℕ) → Option ℕ → Option ℕ → Type 0
  UpA w f g a b = (a ≡ b) × Chain w (beyond (owns S f) (N.around (f, g))) a

  pub runtime_same : (v : Val) {t : List ℕ} → key_text v ≡ Some t → KeyN (runtime t (is_whole v)) (runtime t (is_whole v))
  unfolding name_of whole_key
  runtime_same v e = record { same = refl; whole = refl; numeric = λ h. whole_low v e h }

  -- two keys with one name, neither of them a whole number
  pub key_of_texts : {a b : Access} → name_of (plain_tables P) a ≡ name_of (plain_tables Q) b → whole_key a ≡ false → whole_key b ≡ false → KeyN a b
  key_of_texts e h k = record { same = e; whole = h ∙ sym k; numeric = λ q. absurd (cc) }

  pub quoted_same : (t : List ℕ) → KeyN (quoted t) (quoted t)
  unfolding name_of whole_key
  quoted_same t = key_of_texts refl refl refl

  pub written_same : (t : List ℕ) → KeyN (runtime t false) (quoted t)
  unfolding name_of whole_key
  written_same t = key_of_texts refl refl refl

  abbrev pub alike : Tie
  alike = record {
    J = plain;
    J' = plain;
    tables = plain_tables P;
    tables' = plain_tables Q;
    W = List Label;
    Ext = Grows;
    same = λ w. record { more = []; is = sym (append-nil w) };
    ext = λ l k. grows_on l k;
    Excused = ⊥;
    Short = λ w p. ⊥;
    Ahead = ⊥;
    Steps = λ v p w. Unit {0};
    short_more = λ h l. h;
    short_back = λ h l. l;
    steps_none = tt;
    steps_on = λ h l. tt;
    EndT = EndA;
    end_spent = spent_a;
    end_waits = waits_a;
    Ctx = Around;
    outer = λ c. [];
    inside = λ f g. A.inside (owns S f) (f, g) (N.around (f, g));
    in_catch = λ c. catch_pair ∷ c;
    SpotT = λ i j. Unit {0};
    spot_turn = λ n. tt;
    faults = λ i r. both_fault stray_a;
    FunT = Paired N.functions;
    StandT = FunA S S' N;
    ReadT = RefA S S' N;
    WriteT = RefA S S' N;
    SetT = λ c r p. ⊥;
    BindT = λ c r f. ⊥;
    bind_inside = λ h. h;
    ThisT = λ c. Unit {0};
    DocT = λ d e. Unit {0};
    DeclaresT = λ d e. Unit {0};
    FlatT = λ p q. ⊥;
    QuotedT = λ t. Unit {0};
    WrittenT = λ t. Unit {0};
    read_built = λ h. built_same h;
    declares_none = tt;
    O = λ w m n. m ≡ n;
    NewT = λ w a b. a ≡ b;
    RunsT = λ w m n. CodeA S N w;
    KeyT = λ w x. KeyN;
    UpT = UpA;
    EnvT = EnvA;
    LoadedT = λ w c. Unit {0};
    O_later = λ l h. h;
    new_later = λ l h. h;
    key_later = λ l h. h;
    up_later = λ l h. (h.0, chain_later l _ _ h.1);
    env_later = λ l h. env_grows l _ _ _ h;
    loaded_later = λ l h. h;
    new_value = λ h. val_as h;
    runs_code = λ h. record { function = h.function; up = (h.up, h.chain); site = tt };
    key_runtime = λ x v e. runtime_same v e;
    key_quoted = λ x h. quoted_same _;
    key_written = λ x h. written_same _;
    env_top = λ l e. record { at = refl; this = refl; chain = tt };
    env_this = λ h e. opt_as e.this;
    env_declares = λ e. tt;
    Tied = TiedA;
    tied_tables = λ h. (h.tables, h.tables');
    tied_pay = λ h. pay_tied h;
    tied_once = λ h e d. once _ _ _ _ e d;
    tied_handles = λ h. numbers_as (sym h.handles);
    tied_replies = λ h. h.replies;
    tied_replied = λ rs h. replied rs h;
  }

  abbrev T : Tie
  T = alike

  abbrev W : Type 0
  W = World alike

  -- ---- acts

  decided : {A B : Type 0} {R : W → A → B → Type 0} {w : W} (m : M A) (m' : M B) (s t : State) (i j : Spot) (b b' : Bool) → b ≡ b' → ResT T R w (m s) (m' t) → ResT T R w (decide i b m s) (decide j b' m' t)
  unfolding decide
  decided m m' s t i j true true e h = over_t refl stray_a
  decided m m' s t i j true false e h = absurd (cc)
  decided m m' s t i j false true e h = absurd (cc)
  decided m m' s t i j false false e h = h

  -- two acts that end both plain runs, or neither
  pub judged_a : {A B : Type 0} {R : W → A → B → Type 0} {w : W} (i j : Spot) (a a' : Act) (m : M A) (m' : M B) → ((s t : State) → TiedA w.w s t → stops a (least_broken s.tables s a) ≡ stops a' (least_broken t.tables t a')) → Sim T R w m m' → Sim T R w (judged plain i a m) (judged plain j a' m')
  judged_a {R = R} {w = w} i j a a' m m' e h s t ti le le' =
      subst (λ z. ResT T R w z (judged plain j a' m' t)) (sym (judged_plain i a m s))
      (subst (λ z. ResT T R w (decide i (stops a (least_broken s.tables s a)) m s) z) (sym (judged_plain j a' m' t))
      (decided m m' s t i j _ _ (e s t ti) (h s t ti le le')))

  -- ---- parts that only enter element types

  pub record Silent (m : M (Unit {0})) : Type 0 where
    pub end : State → State
    pub runs : (s : State) → m s ≡ ok [] tt (end s)
    pub left : (w : List Label) (s t : State) → TiedA w s t → TiedA w (end s) t
    pub right : (w : List Label) (s t : State) → TiedA w s t → TiedA w s (end t)
    pub budget : (s : State) → (end s).budget ≡ s.budget

  pub silent_skip : Silent skip
  unfolding ret
  silent_skip = record { end = λ s. s; runs = λ s. refl; left = λ w s t h. h; right = λ w s t h. h; budget = λ s. refl }

  after_runs : {m k : M (Unit {0})} (a : Silent m) (b : Silent k) (s : State) → (m >>= λ _. k) s ≡ ok [] tt (b.end (a.end s))
  unfolding ◌>>=◌ after said
  after_runs {k = k} a b s = ap (λ z. after z (λ _. k)) (a.runs s) ∙ said_none (k (a.end s)) ∙ b.runs (a.end s)

  pub silent_bind : {m k : M (Unit {0})} → Silent m → Silent k → Silent (m >>= λ _. k)
  silent_bind a b = record {
    end = λ s. b.end (a.end s);
    runs = after_runs a b;
    left = λ w s t h. b.left w (a.end s) t (a.left w s t h);
    right = λ w s t h. b.right w s (a.end t) (a.right w s t h);
    budget = λ s. b.budget (a.end s) ∙ a.budget s;
  }

  pub silent_read : {C : Type 0} (f : State → C) (m : C → M (Unit {0})) → ((c : C) → Silent (m c)) → Silent (λ s. m (f s) s)
  silent_read f m h = record {
    end = λ s. (h (f s)).end s;
    runs = λ s. (h (f s)).runs s;
    left = λ w s t q. (h (f s)).left w s t q;
    right = λ w s t q. (h (f t)).right w s t q;
    budget = λ s. (h (f s)).budget s;
  }

  pub silent_tables : (f : Tables → M (Unit {0})) → ((c : Tables) → Silent (f c)) → Silent (with_tables f)
  unfolding with_tables
  silent_tables f h = silent_read (λ s. s.tables) f h

  -- an act that never ends the plain run
  pub silent_act : (i : Spot) (a : Act) → ((s : State) → stops a (least_broken s.tables s a) ≡ false) → Silent (judged plain i a skip)
  unfolding decide ret
  silent_act i a e = record {
    end = λ s. s;
    runs = λ s. judged_plain i a skip s ∙ ap (λ z. decide i z skip s) (e s);
    left = λ w s t h. h;
    right = λ w s t h. h;
    budget = λ s. refl;
  }

  with_left : {w : List Label} {s t : State} (os : List Obj) → TiedA w s t → ListT (ObjA S N w) os t.objs → TiedA w (record s { objs = os }) t
  with_left os h k = record { tables = h.tables; tables' = h.tables'; objs = k; frames = h.frames; globals = h.globals; loaded = h.loaded; failed = h.failed; handles = h.handles; budget = h.budget; replies = h.replies }

  with_right : {w : List Label} {s t : State} (os : List Obj) → TiedA w s t → ListT (ObjA S N w) s.objs os → TiedA w s (record t { objs = os })
  with_right os h k = record { tables = h.tables; tables' = h.tables'; objs = k; frames = h.frames; globals = h.globals; loaded = h.loaded; failed = h.failed; handles = h.handles; budget = h.budget; replies = h.replies }

  silent_entered : (e : Element) (n : ℕ) → Silent (changing (change n (entered_in e)))
  unfolding changing change ret
  silent_entered e n = record {
    end = λ s. change n (entered_in e) s;
    runs = λ s. refl;
    left = λ w s t h. with_left _ h (objs_left S N w h.objs n (entered_in e) (λ a b q. entered_left S N w e q));
    right = λ w s t h. with_right _ h (objs_right S N w h.objs n (entered_in e) (λ a b q. entered_right S N w e q));
    budget = λ s. refl;
  }

  silent_element : (e : Option Element) (v : Val) → Silent (enter_element e v)
  unfolding enter_element
  silent_element None v = silent_skip
  silent_element (Some e) (prim p) = silent_skip
  silent_element (Some e) (out n) = silent_skip
  silent_element (Some e) (obj n) = silent_entered e n

  pub silent_receive : (t : Option TypeSet) (v : Val) → Silent (receive t v)
  unfolding receive
  silent_receive None v = silent_skip
  silent_receive (Some t) v = silent_element t.element v

  pub silent_all : (ts : List TypeSet) (v : Val) → Silent (receive_all ts v)
  unfolding receive_all
  silent_all [] v = silent_skip
  silent_all (t ∷ ts) v = silent_bind (silent_receive (Some t) v) (silent_all ts v)

  pub silent_each : (ts : List (Option TypeSet)) (vs : List Val) → Silent (receive_each ts vs)
  unfolding receive_each
  silent_each [] vs = silent_skip
  silent_each (t ∷ ts) [] = silent_skip
  silent_each (t ∷ ts) (v ∷ vs) = silent_bind (silent_receive t v) (silent_each ts vs)

  abbrev Done : W → Unit {0} → Unit {0} → Type 0
  Done v a b = Unit {0}

  -- each run by itself
  pub both_silent : {w : W} {m m' : M (Unit {0})} → Silent m → Silent m' → Sim T Done w m m'
  both_silent {w = w} {m' = m'} a b s t ti le le' =
      let e = a.budget s in let d = b.budget t in
      subst (λ z. ResT T Done w z (m' t)) (sym (a.runs s))
      (subst (λ z. ResT T Done w (ok [] tt (a.end s)) z) (sym (b.runs t))
      (fine T tt tt tt (b.right w.w (a.end s) t (a.left w.w s t ti)) (omega arith) (omega arith)))

  -- one run alone
  pub left_silent : {A B : Type 0} {R : W → A → B → Type 0} {w : W} {m : M (Unit {0})} (k : M A) (k' : M B) → Silent m → Sim T R w k k' → Sim T R w (m >>= λ _. k) k'
  unfolding ◌>>=◌ after
  left_silent {R = R} {w = w} k k' a h s t ti le le' =
      let e = a.budget s in
      subst (λ z. ResT T R w z (k' t)) (sym (ap (λ z. after z (λ _. k)) (a.runs s) ∙ said_none (k (a.end s)))) (h (a.end s) t (a.left w.w s t ti) (omega arith) le')

  pub right_silent : {A B : Type 0} {R : W → A → B → Type 0} {w : W} {m : M (Unit {0})} (k : M A) (k' : M B) → Silent m → Sim T R w k k' → Sim T R w k (m >>= λ _. k')
  unfolding ◌>>=◌ after
  right_silent {R = R} {w = w} k k' a h s t ti le le' =
      let e = a.budget t in
      subst (λ z. ResT T R w (k s) z) (sym (ap (λ z. after z (λ _. k')) (a.runs t) ∙ said_none (k' (a.end t)))) (h s (a.end t) (a.right w.w s t ti) le (omega arith))

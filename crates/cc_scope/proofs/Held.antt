-- The tests on paths tell what may become a variable.
use Rattle.std.proofs.Common.{◌≡◌, refl, sym, ap, ◌∙◌, subst, arith, ℕ, Bool, true, false, not, ◌&&◌, ◌||◌, nat_eq, List, [], ◌∷◌, ◌++◌, Some, append-nil, append_assoc}
use Rattle.std.specs.Prelude.{slice_get}
use Rattle.std.specs.Option.{option_to_list}
use Rattle.std.specs.List.{list_any}
use Rattle.std.proofs.lemmas.Bool.Decides.{nat_tests}
use Rattle.cc_ast.specs.Syntax.{Expr, fun, object, Fields, Program}
use Rattle.cc_ast.specs.Syntax as p
use Rattle.cc_meaning.specs.State.{Path}
use Rattle.cc_meaning.specs.Monad.{pick}
use Rattle.cc_meaning.specs.Store.{Global, extern, built_in, of_chunk, global_kind}
use Rattle.cc_meaning.specs.Shapes.{tables_of}
use Rattle.cc_meaning.specs.Alike.{In, here, there}
use Rattle.cc_meaning.specs.FlatPaths.{Use, called, constructed, tested, deleted, other, Setting, by_value, by_function, elsewhere, Mention, used, set, mentions_of, settings, uses, same_path, dotted_keys, pure_fields, extended, IsConstructor, AreConstructions, no_uses, by_new, by_instance, Holds, a_literal, an_expression, a_declaration, IsFree, IsHolding, MayBeVariable, a_global, a_property}
use Rattle.cc_scope.specs.Paths as t
use Rattle.cc_scope.specs.Paths.{is_construction, all_constructions, sets_up, one_further, called_on, all_stay, is_holding, goes_on, is_of_chunk, is_held, is_kept_prop, is_deletion, is_free, may_be_variable}
use Rattle.cc_scope.proofs.Declared.{in_left, in_right}
use Rattle.cc_scope.proofs.Owners.{path_equal}
use Rattle.cc_scope.proofs.Settings.{setting_function, value_function, declared_function}

pub both : {a b : Bool} → a && b ≡ true → (a ≡ true) × (b ≡ true)
both {a = true} e = (refl, e)
both {a = false} e = absurd (cc)

pub with_both : {a b : Bool} → a ≡ true → b ≡ true → a && b ≡ true
with_both {a = true} e d = d
with_both {a = false} e d = absurd (cc)

pub not_true : {a : Bool} → not a ≡ true → a ≡ false
not_true {a = true} e = absurd (cc)
not_true {a = false} e = refl

either_false : {a b : Bool} → a || b ≡ false → (a ≡ false) × (b ≡ false)
either_false {a = true} e = absurd (cc)
either_false {a = false} e = (refl, e)

-- ---- lists

none_deleted : (us : List Use) → list_any is_deletion us ≡ false → In deleted us → ⊥
unfolding is_deletion
none_deleted [] e i = elim i [ ]
none_deleted (u ∷ us) e here = absurd (cc)
none_deleted (u ∷ us) e (there i) = none_deleted us (either_false {a = is_deletion u} e).1 i

each_stays : (stays : Path → ℕ → Bool) (h : Path) (ps : List ℕ) (q : ℕ) → all_stay stays h ps ≡ true → In q ps → stays (extended h q) q ≡ true
unfolding all_stay
each_stays stays h [] q e i = elim i [ ]
each_stays stays h (r ∷ ps) q e here = (both {a = stays (extended h r) r} e).0
each_stays stays h (r ∷ ps) q e (there i) = each_stays stays h ps q (both {a = stays (extended h r) r} e).1 i

pub stay_more : (one two : Path → ℕ → Bool) → ((w : Path) (q : ℕ) → one w q ≡ true → two w q ≡ true) → (h : Path) (ps : List ℕ) → all_stay one h ps ≡ true → all_stay two h ps ≡ true
unfolding all_stay
stay_more one two m h [] e = refl
stay_more one two m h (q ∷ ps) e = let d = both {a = one (extended h q) q} e in with_both (m (extended h q) q d.0) (stay_more one two m h ps d.1)

further_is : (ps : List ℕ) (q : ℕ) → one_further ps (ps ++ q ∷ []) ≡ Some q
unfolding one_further
further_is [] q = refl
further_is (r ∷ ps) q = let k : nat_eq r r ≡ true = grind (arith, nat_tests) in rw k (further_is ps q)

called_further : (h v : Path) (q : ℕ) → same_path v (extended h q) ≡ true → In q (pick (nat_eq v.0 h.0) (option_to_list (one_further h.1 v.1)) [])
called_further h v q e =
    let k = path_equal v (extended h q) e in
    subst (λ w. In q (pick (nat_eq w.0 h.0) (option_to_list (one_further h.1 w.1)) [])) (sym k)
    (let m : nat_eq h.0 h.0 ≡ true = grind (arith, nat_tests) in rw m (rw (further_is h.1 q) here))

-- what is called on a path is among the properties that are called on it
pub called_among : (h : Path) (q : ℕ) (ms : List Mention) → In called (uses (extended h q) ms) → In q (called_on h ms)
unfolding called_on uses
called_among h q [] i = elim i [ ]
called_among h q (used v called ∷ ms) i = by (same_path v (extended h q)) refl i (λ j. called_among h q ms j) where
  rest : List ℕ
  rest = called_on h ms

  first : List ℕ
  first = pick (nat_eq v.0 h.0) (option_to_list (one_further h.1 v.1)) []

  by : (b : Bool) → same_path v (extended h q) ≡ b → In called (pick b (called ∷ uses (extended h q) ms) (uses (extended h q) ms)) → (In called (uses (extended h q) ms) → In q (called_on h ms)) → In q (first ++ rest)
  by true e j again = in_left first rest (called_further h v q e)
  by false e j again = in_right first rest (again j)
called_among h q (used v constructed ∷ ms) i = called_among h q ms (skip (same_path v (extended h q)) i) where
  skip : (b : Bool) → In called (pick b (constructed ∷ uses (extended h q) ms) (uses (extended h q) ms)) → In called (uses (extended h q) ms)
  skip true (there j) = j
  skip false j = j
called_among h q (used v tested ∷ ms) i = called_among h q ms (skip (same_path v (extended h q)) i) where
  skip : (b : Bool) → In called (pick b (tested ∷ uses (extended h q) ms) (uses (extended h q) ms)) → In called (uses (extended h q) ms)
  skip true (there j) = j
  skip false j = j
called_among h q (used v deleted ∷ ms) i = called_among h q ms (skip (same_path v (extended h q)) i) where
  skip : (b : Bool) → In called (pick b (deleted ∷ uses (extended h q) ms) (uses (extended h q) ms)) → In called (uses (extended h q) ms)
  skip true (there j) = j
  skip false j = j
called_among h q (used v other ∷ ms) i = called_among h q ms (skip (same_path v (extended h q)) i) where
  skip : (b : Bool) → In called (pick b (other ∷ uses (extended h q) ms) (uses (extended h q) ms)) → In called (uses (extended h q) ms)
  skip true (there j) = j
  skip false j = j
called_among h q (set v s ∷ ms) i = called_among h q ms i

constructions : (us : List Use) → all_constructions us ≡ true → AreConstructions us
unfolding all_constructions is_construction
constructions [] e = no_uses
constructions (constructed ∷ us) e = by_new us (constructions us e)
constructions (tested ∷ us) e = by_instance us (constructions us e)
constructions (called ∷ us) e = absurd (cc)
constructions (deleted ∷ us) e = absurd (cc)
constructions (other ∷ us) e = absurd (cc)

empty_uses : (us : List Use) → t.no_uses us ≡ true → us ≡ []
unfolding t.no_uses
empty_uses [] e = refl
empty_uses (u ∷ us) e = absurd (cc)

-- ---- from the tests on one program to another that is the same in what they ask

pub record SamePaths (P Q : Program) : Type 0 where
  pub mentions : mentions_of P ≡ mentions_of Q
  pub props : P.props ≡ Q.props
  pub kinds : (n : ℕ) → global_kind (tables_of P) n ≡ global_kind (tables_of Q) n

module _ (P Q : Program) (same : SamePaths P Q) (C : ℕ → Bool)
    (constructs : (h : Path) (s : Setting) (f : ℕ) → may_be_variable C Q h ≡ true → settings h (mentions_of Q) ≡ s ∷ [] → setting_function s ≡ Some f → C f ≡ true → IsConstructor P f) where
  pub free : (w : Path) (q : ℕ) → is_free Q w q ≡ true → IsFree P w q
  unfolding is_free is_kept_prop
  free w q e = let d = both {a = not (is_kept_prop (slice_get Q.props q))} e in record {
    unkept = λ x h. let k : is_kept_prop (slice_get P.props q) ≡ false = subst (λ ps. is_kept_prop (slice_get ps q) ≡ false) (sym same.props) (not_true d.0) in
        subst (λ o. is_kept_prop o ≡ false) h k;
    stays = λ i. none_deleted (uses w (mentions_of Q)) (not_true d.1) (subst (λ ms. In deleted (uses w ms)) same.mentions i);
  }

  -- what a path is set to, once
  pub record Set (h : Path) (us : List Use) : Type 0 where
    pub setting : Setting
    pub once : settings h (mentions_of Q) ≡ setting ∷ []
    pub holds : Holds P setting us

  set_by : (h : Path) (ss : List Setting) (us : List Use) → may_be_variable C Q h ≡ true → settings h (mentions_of Q) ≡ ss → sets_up C ss us ≡ true → Set h us
  unfolding sets_up
  set_by h (by_value (object i fs) ∷ []) us m e d =
      let a = both {a = dotted_keys fs} d in let b = both {a = pure_fields fs} a.1 in
      record { setting = by_value (object i fs); once = e; holds = subst (λ vs. Holds P (by_value (object i fs)) vs) (sym (empty_uses us b.1)) (a_literal i fs a.0 b.0) }
  set_by h (by_value (fun i f) ∷ []) us m e d =
      let a = both {a = C f} d in
      record { setting = by_value (fun i f); once = e; holds = an_expression i f us (constructs h (by_value (fun i f)) f m e (value_function i f) a.0) (constructions us a.1) }
  set_by h (by_function f ∷ []) us m e d =
      let a = both {a = C f} d in
      record { setting = by_function f; once = e; holds = a_declaration f us (constructs h (by_function f) f m e (declared_function f) a.0) (constructions us a.1) }
  set_by h [] us m e d = absurd (cc)
  set_by h (elsewhere ∷ ss) us m e d = absurd (cc)
  set_by h (by_function f ∷ s ∷ ss) us m e d = absurd (cc)
  set_by h (by_value x ∷ s ∷ ss) us m e d = absurd (by x d) where
    by : (x : Expr) → sets_up C (by_value x ∷ s ∷ ss) us ≡ true → ⊥
    by (p.lit i x) fact = cc
    by (p.var i r) fact = cc
    by (p.this i) fact = cc
    by (p.fun i f) fact = cc
    by (p.list i es) fact = cc
    by (p.object i fs) fact = cc
    by (p.unary i op e) fact = cc
    by (p.binary i op a b) fact = cc
    by (p.and i a b) fact = cc
    by (p.or i a b) fact = cc
    by (p.cond i t a b) fact = cc
    by (p.assign i op t e) fact = cc
    by (p.step i up before t) fact = cc
    by (p.member i e q) fact = cc
    by (p.index i e k) fact = cc
    by (p.call i f es) fact = cc
    by (p.new i f es) fact = cc
    by (p.comma i a b) fact = cc
    by (p.cast i d e) fact = cc
    by (p.tick i n e) fact = cc
  set_by path (by_value (p.lit i x) ∷ []) us m same_ once = absurd (cc)
  set_by path (by_value (p.var i r) ∷ []) us m same_ once = absurd (cc)
  set_by path (by_value (p.this i) ∷ []) us m same_ once = absurd (cc)
  set_by path (by_value (p.list i es) ∷ []) us m same_ once = absurd (cc)
  set_by path (by_value (p.unary i op x) ∷ []) us m same_ once = absurd (cc)
  set_by path (by_value (p.binary i op a b) ∷ []) us m same_ once = absurd (cc)
  set_by path (by_value (p.and i a b) ∷ []) us m same_ once = absurd (cc)
  set_by path (by_value (p.or i a b) ∷ []) us m same_ once = absurd (cc)
  set_by path (by_value (p.cond i t a b) ∷ []) us m same_ once = absurd (cc)
  set_by path (by_value (p.assign i op t x) ∷ []) us m same_ once = absurd (cc)
  set_by path (by_value (p.step i up before t) ∷ []) us m same_ once = absurd (cc)
  set_by path (by_value (p.member i x q) ∷ []) us m same_ once = absurd (cc)
  set_by path (by_value (p.index i x k) ∷ []) us m same_ once = absurd (cc)
  set_by path (by_value (p.call i f es) ∷ []) us m same_ once = absurd (cc)
  set_by path (by_value (p.new i f es) ∷ []) us m same_ once = absurd (cc)
  set_by path (by_value (p.comma i a b) ∷ []) us m same_ once = absurd (cc)
  set_by path (by_value (p.cast i n x) ∷ []) us m same_ once = absurd (cc)
  set_by path (by_value (p.tick i n x) ∷ []) us m same_ once = absurd (cc)

  pub holding : (h : Path) → may_be_variable C Q h ≡ true → is_holding C (is_free Q) (mentions_of Q) h ≡ true → IsHolding P h
  unfolding is_holding
  holding h m e =
      let d = both {a = sets_up C (settings h (mentions_of Q)) (uses h (mentions_of Q))} e in
      let s = set_by h (settings h (mentions_of Q)) (uses h (mentions_of Q)) m refl d.0 in
      record {
        setting = s.setting;
        once = ap (settings h) same.mentions ∙ s.once;
        holds = subst (λ ms. Holds P s.setting (uses h ms)) (sym same.mentions) s.holds;
        methods = λ q i. free (extended h q) q (each_stays (is_free Q) h (called_on h (mentions_of Q)) q d.1 (called_among h q (mentions_of Q) (subst (λ ms. In called (uses (extended h q) ms)) same.mentions i)));
      }

  -- ---- along a path

  snoc : (stays : Path → ℕ → Bool) (ms : List Mention) (w : Path) (ps : List ℕ) (q : ℕ) → goes_on C stays ms w ps ≡ true → is_holding C stays ms (w.0, w.1 ++ ps) ≡ true → stays (extended (w.0, w.1 ++ ps) q) q ≡ true → goes_on C stays ms w (ps ++ q ∷ []) ≡ true
  unfolding goes_on
  snoc stays ms w [] q e h s =
      let k = append-nil w.1 in
      with_both (subst (λ qs. is_holding C stays ms (w.0, qs) ≡ true) k h) (with_both (subst (λ qs. stays (extended (w.0, qs) q) q ≡ true) k s) refl)
  snoc stays ms w (r ∷ ps) q e h s =
      let d = both {a = is_holding C stays ms w} e in let c = both {a = stays (extended w r) r} d.1 in
      let k = append_assoc w.1 (r ∷ []) ps in
      with_both d.0 (with_both c.0 (snoc stays ms (extended w r) ps q c.1 (subst (λ qs. is_holding C stays ms (w.0, qs) ≡ true) (sym k) h) (subst (λ qs. stays (extended (w.0, qs) q) q ≡ true) (sym k) s)))

  pub further : (stays : Path → ℕ → Bool) (w : Path) (q : ℕ) → is_held C stays Q w ≡ true → is_holding C stays (mentions_of Q) w ≡ true → stays (extended w q) q ≡ true → is_held C stays Q (extended w q) ≡ true
  unfolding is_held
  further stays w q e h s = let d = both {a = is_of_chunk (global_kind (tables_of Q) w.0)} e in with_both d.0 (snoc stays (mentions_of Q) (w.0, []) w.1 q d.1 h s)

  chunk_kind : (g : Global) → is_of_chunk g ≡ true → (c : ℕ) × (g ≡ of_chunk c)
  unfolding is_of_chunk
  chunk_kind (of_chunk c) e = (c, refl)
  chunk_kind extern e = absurd (cc)
  chunk_kind (built_in b) e = absurd (cc)

  pub chunk_of : (n : ℕ) → is_of_chunk (global_kind (tables_of Q) n) ≡ true → (c : ℕ) × (global_kind (tables_of P) n ≡ of_chunk c)
  chunk_of n e = let d = chunk_kind (global_kind (tables_of Q) n) e in (d.0, same.kinds n ∙ d.1)

  along : (w : Path) (ps : List ℕ) → goes_on C (is_free Q) (mentions_of Q) w ps ≡ true → may_be_variable C Q w ≡ true → MayBeVariable P w → MayBeVariable P (w.0, w.1 ++ ps)
  unfolding goes_on may_be_variable
  along w [] e m v = subst (λ qs. MayBeVariable P (w.0, qs)) (sym (append-nil w.1)) v
  along w (q ∷ ps) e m v =
      let d = both {a = is_holding C (is_free Q) (mentions_of Q) w} e in let c = both {a = is_free Q (extended w q) q} d.1 in
      subst (λ qs. MayBeVariable P (w.0, qs)) (append_assoc w.1 (q ∷ []) ps)
      (along (extended w q) ps c.1 (further (is_free Q) w q m d.0 c.0) (a_property w q v (holding w m d.0) (free (extended w q) q c.0)))

  pub variable : (w : Path) → may_be_variable C Q w ≡ true → MayBeVariable P w
  unfolding may_be_variable is_held goes_on
  variable w e =
      let d = both {a = is_of_chunk (global_kind (tables_of Q) w.0)} e in
      let c = chunk_of w.0 d.0 in
      along (w.0, []) w.1 d.1 (with_both d.0 refl) (a_global w.0 c.0 c.1)

-- What the grammar has open where a statement stands is open there, and what the names mean that it tests.
use Rattle.std.specs.Prelude.{◌≡◌, ℕ, ◌≤◌, Bool, true, false, ◌||◌, nat_eq, nat_lt, cond, List, [], ◌∷◌, ◌++◌, Some, None, codes}
use Rattle.std.specs.Str.{bytes_eq}
use Rattle.std.proofs.Common.{refl, sym, ap, ◌∙◌, subst, arith}
use Rattle.std.proofs.lemmas.Bool.Decides.{nat_tests}
use Rattle.std.proofs.lemmas.Slice.Eq.{bytes_eq-Decides}
use Rattle.cc_ast.specs.declared.reading.Construct.TheVariants as construct
use Rattle.cc_meaning.specs.Operators.{list_eq, is_in}
use Rattle.cc_meaning.specs.Monad.{pick}
use Rattle.cc_meaning.specs.WellMade as well
use Rattle.cc_meaning.specs.WellMade.{Open, nested, refused_names}
use Rattle.cc_grammar.specs.Symbols.{Symbols}
use Rattle.cc_grammar.specs.RawTree.{RawStmts, RawCase, cases}
use Rattle.cc_grammar.specs.Grammar as g
use Rattle.cc_grammar.specs.Grammar.{Context, Labels, of_program, of_function, inside, in_switch, labelled, is_among, Variable, Cases}
use Rattle.cc_scope.specs.Lists.{Name}
use Rattle.cc_scope.specs.Grammatical.{at_head, statements, loop_labels, default_clauses}
use Rattle.cc_scope.proofs.Names.{eq_self, eq_equal}

-- two tests of one thing
one_answer : (a b : Bool) → (a ≡ true → b ≡ true) → (b ≡ true → a ≡ true) → a ≡ b
one_answer true b f h = sym (f refl)
one_answer false true f h = h refl
one_answer false false f h = refl

pub same_name : (l n : Name) → bytes_eq l n ≡ list_eq n l
same_name l n = one_answer (bytes_eq l n) (list_eq n l) (λ e. subst (λ z. list_eq n z ≡ true) (sym ((bytes_eq-Decides l n).0 e)) (eq_self n)) (λ e. (bytes_eq-Decides l n).1 (sym (eq_equal n l e)))

pub same_among : (n : Name) (ls : Labels) → is_among n ls ≡ is_in n ls
unfolding is_in
same_among n [] = refl
same_among n (l ∷ ls) = ap (λ z. z || is_among n ls) (same_name l n) ∙ ap (λ z. list_eq n l || z) (same_among n ls)

-- each label of one list is among another
abbrev pub Within : Labels → Labels → Type 0
Within ls ms = (n : Name) → is_in n ls ≡ true → is_in n ms ≡ true

pub none : (ms : Labels) → Within [] ms
unfolding is_in
none ms n e = absurd (cc)

either_true : (a b c : Bool) → (b ≡ true → c ≡ true) → a || b ≡ true → a || c ≡ true
either_true true b c f e = refl
either_true false b c f e = f e

pub more_within : (l : Name) (ls ms : Labels) → Within ls ms → Within (l ∷ ls) (l ∷ ms)
unfolding is_in
more_within l ls ms f n e = either_true (list_eq n l) (is_in n ls) (is_in n ms) (f n) e

on_right : (ls ms : Labels) → Within ms (ls ++ ms)
unfolding is_in
on_right [] ms n e = e
on_right (l ∷ ls) ms n e = by (list_eq n l) (on_right ls ms n e) where
  by : (a : Bool) → is_in n (ls ++ ms) ≡ true → a || is_in n (ls ++ ms) ≡ true
  by true q = refl
  by false q = q

on_left : (ls ms : Labels) → Within ls (ls ++ ms)
unfolding is_in
on_left [] ms n e = absurd (cc)
on_left (l ∷ ls) ms n e = either_true (list_eq n l) (is_in n ls) (is_in n (ls ++ ms)) (on_left ls ms n) e

joined_within : (us bs cs ds : Labels) → Within us cs → Within bs ds → Within (us ++ bs) (cs ++ ds)
unfolding is_in
joined_within [] bs cs ds f h n e = on_right cs ds n (h n e)
joined_within (a ∷ us) bs cs ds f h n e = by (list_eq n a) refl (joined_within us bs cs ds (λ m i. f m (on_right (a ∷ []) us m i)) h n) e where
  first : list_eq n a ≡ true → is_in n (a ∷ us) ≡ true
  first q = rw q refl

  by : (c : Bool) → list_eq n a ≡ c → (is_in n (us ++ bs) ≡ true → is_in n (cs ++ ds) ≡ true) → c || is_in n (us ++ bs) ≡ true → is_in n (cs ++ ds) ≡ true
  by true q k r = on_left cs ds n (f n (first q))
  by false q k r = k r

-- ---- what is open

pub record Opens (c : Context) (w : Open) : Type 0 where
  pub declares : c.declares ≡ true → w.own ≡ true
  pub returns : c.returns ≡ true → w.returns ≡ true
  pub continues : c.continues ≡ true → w.continues ≡ true
  pub breaks : c.breaks ≡ true → w.breaks ≡ true
  pub labels : c.labels ≡ w.labels
  pub loops : Within c.loops w.loops

pub of_chunk : Opens of_program (at_head false)
of_chunk = record { declares = λ e. refl; returns = λ e. e; continues = λ e. e; breaks = λ e. e; labels = refl; loops = none [] }

pub of_body : Opens of_function (at_head true)
of_body = record { declares = λ e. refl; returns = λ e. e; continues = λ e. e; breaks = λ e. e; labels = refl; loops = none [] }

no_more : {A : Type 0} → false ≡ true → A
no_more e = absurd (cc)

pub in_block : {c : Context} {w : Open} → Opens c w → Opens (inside c) w
in_block o = record { declares = λ e. no_more e; returns = o.returns; continues = o.continues; breaks = o.breaks; labels = o.labels; loops = o.loops }

pub in_nested : {c : Context} {w : Open} → Opens c w → Opens (inside c) (nested w)
in_nested o = record { declares = λ e. no_more e; returns = o.returns; continues = o.continues; breaks = o.breaks; labels = o.labels; loops = o.loops }

pub in_loop : {c : Context} {w : Open} (ls : Labels) → Within c.own ls → Opens c w → Opens (g.in_loop c) (well.in_loop w ls)
in_loop {c} {w} ls f o = record { declares = λ e. no_more e; returns = o.returns; continues = λ e. refl; breaks = λ e. refl; labels = o.labels; loops = joined_within c.own c.loops ls w.loops f o.loops }

abbrev pub switched : Open → Open
switched w = record w { breaks = true; own = false }

pub in_cases : {c : Context} {w : Open} → Opens c w → Opens (in_switch c) (switched w)
in_cases o = record { declares = λ e. no_more e; returns = o.returns; continues = o.continues; breaks = λ e. refl; labels = o.labels; loops = o.loops }

abbrev pub behind : Name → Open → Open
behind l w = record w { labels = l ∷ w.labels; own = false }

pub in_label : {c : Context} {w : Open} (l : Name) → Opens c w → Opens (labelled l c) (behind l w)
in_label l o = record { declares = λ e. no_more e; returns = o.returns; continues = o.continues; breaks = o.breaks; labels = ap (λ ms. l ∷ ms) o.labels; loops = o.loops }

-- the labels before a loop are its own where it stands alone behind them
pub own_labels : (l : Name) (b : RawStmts) (ms ls : Labels) → Within ms ls → statements b ≡ 1 → Within (l ∷ ms) (loop_labels (l ∷ ls) b)
unfolding loop_labels
own_labels l b ms ls f e n i = subst (λ z. is_in n (pick (nat_eq z 1) (l ∷ ls) []) ≡ true) (sym e) (more_within l ms ls f n i)

-- ---- names and clauses

pub declared_kept : {n : Name} {xs ys : Symbols} → Variable xs n ys → is_in n refused_names ≡ false
unfolding is_in refused_names list_eq
declared_kept (g.any_variable c) = refl
declared_kept (g.variable {n} c e) = ap (λ z. z || (list_eq n (codes "arguments") || false)) (sym (same_name (codes "eval") n)) ∙ ap (λ z. bytes_eq (codes "eval") n || (z || false)) (sym (same_name (codes "arguments") n)) ∙ by (bytes_eq (codes "eval") n) (bytes_eq (codes "arguments") n) e where
  by : (a b : Bool) → cond a (Some construct.EvalName) (cond b (Some construct.ArgumentsName) None) ≡ None → a || (b || false) ≡ false
  by true b q = absurd (cc)
  by false true q = absurd (cc)
  by false false q = refl

abbrev pub left : Bool → ℕ
left seen = cond seen 0 1

none_left : (seen : Bool) → 0 ≤ left seen
none_left true = omega arith
none_left false = omega arith

defaults_left : {c : Context} {h : ℕ} {seen : Bool} {xs ys : Symbols} {cs : List RawCase} → Cases c h seen xs cs ys → default_clauses (cases cs) ≤ left seen
unfolding default_clauses
defaults_left {seen} (g.no_case o) = none_left seen
defaults_left (g.case o x p b m) = defaults_left m
defaults_left (g.default o p b m) = omega (arith, defaults_left m)

pub one_default : {c : Context} {h : ℕ} {xs ys : Symbols} {cs : List RawCase} → Cases c h false xs cs ys → nat_lt (default_clauses (cases cs)) 2 ≡ true
one_default {cs} m = by (default_clauses (cases cs)) (defaults_left m) where
  by : (k : ℕ) → k ≤ 1 → nat_lt k 2 ≡ true
  by k e = grind (arith, nat_tests)

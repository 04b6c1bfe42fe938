-- Types and docs speak of classes and docs that are there.
use Rattle.std.proofs.Common.{◌≡◌, refl, sym, ap, ◌∙◌, subst, arith, ◌⊎◌, inl, inr, ℕ, zero, suc, ◌+◌, ◌-◌, ◌<◌, Bool, true, false, nat_eq, nat_lt, cond, List, [], ◌∷◌, ◌++◌, length, map, Option, Some, None, length-append}
use Rattle.std.specs.Prelude.{slice_get, fold}
use Rattle.std.specs.List.{list_any}
use Rattle.cc_ast.specs.declared.place.Place.{Place}
use Rattle.cc_ast.specs.declared.tables.TypeSet.{TypeSet}
use Rattle.cc_ast.specs.declared.tables.SiteDoc.{SiteDoc}
use Rattle.cc_jsdoc.specs.declared.doc.Doc.{Doc}
use Rattle.cc_jsdoc.specs.declared.types.Simple.{Simple}
use Rattle.cc_jsdoc.specs.declared.types.Simple.TheVariants as simple
use Rattle.cc_jsdoc.specs.declared.types.Alternative.{Alternative}
use Rattle.cc_jsdoc.specs.declared.types.Alternative.TheVariants as one
use Rattle.cc_jsdoc.specs.declared.types.TypeExpr.{TypeExpr}
use Rattle.cc_meaning.specs.Monad.{pick}
use Rattle.cc_meaning.specs.Alike.{In, here, there}
use Rattle.cc_meaning.specs.WellMade as w
use Rattle.cc_meaning.specs.WellMade.{types_in, types_in_all, classes_in, element_classes}
use Rattle.cc_scope.specs.Lists.{Name, or_zero, or_else}
use Rattle.cc_scope.specs.Resolve.{locals, says_nothing}
use Rattle.cc_scope.specs.Annotations.{Comment, is_on, last_from, doc_number, said_at, value_said, Declaration, stmts_at, places_of}
use Rattle.cc_scope.specs.Functions.{Function}
use Rattle.cc_scope.specs.Types.{Meaning, a_class, outside_class, stands_for, nothing, Meanings, with_number, classes_together, element_of_all, same_elements, kinds_together, union_of, array_type, simple_type, alternative_type, type_by, is_circular, meaning_type, named_within, named_type, type_of, type_in}
use Rattle.cc_scope.specs.Docs.{doc_said, doc_or_nothing, param_said, params_said, variable_docs, function_doc, is_documented, function_docs, docs_of, function_numbers, function_number}
use Rattle.cc_scope.proofs.Declared.{in_left, in_right, in_either, length_map}
use Rattle.cc_scope.proofs.Numbers.{head_or, map_out}

some_or : ℕ → Option ℕ → ℕ
some_or n None = n
some_or n (Some m) = m

some_is : {m n : ℕ} → Some m ≡ Some n → m ≡ n
unfolding some_or
some_is {m} e = ap (some_or m) e

-- ---- numbers of comments

last_below : (k : ℕ) (qs : List Place) (cs : List Comment) (n : ℕ) → last_from k qs cs ≡ Some n → n < k + length cs
unfolding last_from or_else
last_below k qs [] n e = absurd (cc)
last_below k qs (c ∷ cs) n e = by (last_from (suc k) qs cs) refl (is_on qs c) e (last_below (suc k) qs cs n) where
  by : (o : Option ℕ) → last_from (suc k) qs cs ≡ o → (b : Bool) → or_else o (pick b (Some k) None) ≡ Some n → (last_from (suc k) qs cs ≡ Some n → n < suc k + length cs) → n < k + suc (length cs)
  by (Some m) h b d again = let z = again (h ∙ d) in omega arith
  by None h true d again = let z : k ≡ n = some_is d in omega arith
  by None h false d again = absurd (cc)

pub doc_below : (qs : List Place) (cs : List Comment) → doc_number qs cs < suc (length cs)
unfolding doc_number or_zero
doc_below qs cs = by (last_from 1 qs cs) refl where
  by : (o : Option ℕ) → last_from 1 qs cs ≡ o → or_zero o < suc (length cs)
  by None e = omega arith
  by (Some n) e = let z = last_below 1 qs cs n e in omega arith

-- ---- types

pub record Fits (n : ℕ) (t : TypeSet) : Type 0 where
  pub below : (a : ℕ) → In a (classes_in t) → a < n

abbrev AllFit : ℕ → List TypeSet → Type 0
AllFit n ts = (t : TypeSet) → In t ts → Fits n t

with_or : (ms : List ℕ) (n a : ℕ) → In a (with_number ms n) → In a ms ⊎ (a ≡ n)
unfolding with_number
with_or [] n a i = elim (head_or a n [] i) [ inl e ↦ inr e | inr j ↦ elim j [ ] ]
with_or (m ∷ ms) n a i = by (nat_eq n m) (nat_lt n m) i (with_or ms n a) where
  by : (x y : Bool) → In a (cond x (m ∷ ms) (cond y (n ∷ m ∷ ms) (m ∷ with_number ms n))) → (In a (with_number ms n) → In a ms ⊎ (a ≡ n)) → In a (m ∷ ms) ⊎ (a ≡ n)
  by true y j again = inl j
  by false true j again = elim (head_or a n (m ∷ ms) j) [ inl e ↦ inr e | inr k ↦ inl k ]
  by false false j again = elim (head_or a m (with_number ms n) j) [ inl e ↦ inl (subst (λ x. In a (x ∷ ms)) e here) | inr k ↦ elim (again k) [ inl l ↦ inl (there l) | inr l ↦ inr l ] ]

folded_or : (ms ns : List ℕ) (a : ℕ) → In a (fold with_number ms ns) → In a ms ⊎ In a ns
folded_or ms [] a i = inl i
folded_or ms (n ∷ ns) a i = elim (folded_or (with_number ms n) ns a i) [
  | inl j ↦ elim (with_or ms n a j) [ inl k ↦ inl k | inr e ↦ inr (subst (λ x. In a (x ∷ ns)) e here) ]
  | inr j ↦ inr (there j)
]

together_from : (ts : List TypeSet) (a : ℕ) → In a (classes_together ts) → (t : TypeSet) × In t ts × In a t.classes
unfolding classes_together
together_from [] a i = elim i [ ]
together_from (t ∷ ts) a i = elim (folded_or (classes_together ts) t.classes a i) [
  | inl j ↦ (let d = together_from ts a j in (d.0, there d.1, d.2))
  | inr j ↦ (t, here, j)
]

element_from : (ts : List TypeSet) (a : ℕ) → In a (element_classes (element_of_all ts)) → (t : TypeSet) × In t ts × In a (element_classes t.element)
unfolding element_of_all element_classes
element_from [] a i = elim i [ ]
element_from (t ∷ ts) a i = by (list_any (λ u. pick (same_elements t.element u.element) false true) ts) i where
  by : (b : Bool) → In a (element_classes (pick b None t.element)) → (u : TypeSet) × In u (t ∷ ts) × In a (element_classes u.element)
  by true j = elim j [ ]
  by false j = (t, here, j)

union_fits : (n : ℕ) (ts : List TypeSet) → AllFit n ts → Fits n (union_of ts)
unfolding union_of classes_in element_classes
union_fits n ts h = by (list_any (λ t. t.unknown) ts) where
  by : (b : Bool) → Fits n (pick b (record { kinds = 0; classes = []; unknown = true; element = None }) (record { kinds = kinds_together ts; classes = classes_together ts; unknown = false; element = element_of_all ts }))
  by true = record { below = λ a i. elim i [ ] }
  by false = record {
    below = λ a i. elim (in_either (classes_together ts) (element_classes (element_of_all ts)) i) [
      | inl j ↦ (let d = together_from ts a j in (h d.0 d.1).below a (in_left d.0.classes (element_classes d.0.element) d.2))
      | inr j ↦ (let d = element_from ts a j in (h d.0 d.1).below a (in_right d.0.classes (element_classes d.0.element) d.2))
    ];
  }

plain_fits : (n k : ℕ) (b : Bool) → Fits n (record { kinds = k; classes = []; unknown = b; element = None })
unfolding classes_in element_classes
plain_fits n k b = record { below = λ a i. elim i [ ] }

array_fits : (n : ℕ) (t : TypeSet) → Fits n t → Fits n (array_type t)
unfolding array_type classes_in element_classes
array_fits n t h = by t.unknown where
  by : (b : Bool) → Fits n (pick b (record { kinds = 16; classes = []; unknown = false; element = None }) (record { kinds = 16; classes = []; unknown = false; element = Some (record { kinds = t.kinds; classes = t.classes }) }))
  by true = record { below = λ a i. elim i [ ] }
  by false = record { below = λ a i. h.below a (in_left t.classes (element_classes t.element) i) }

module _ (n : ℕ) (named : List Name → TypeSet) (h : (ws : List Name) → Fits n (named ws)) where
  simple_fits : (s : Simple) → Fits n (simple_type named s)
  unfolding simple_type
  simple_fits simple.Empty = plain_fits n 0 false
  simple_fits simple.Number = plain_fits n 1 false
  simple_fits simple.Text = plain_fits n 2 false
  simple_fits simple.Truth = plain_fits n 4 false
  simple_fits simple.Function = plain_fits n 8 false
  simple_fits simple.Array = plain_fits n 16 false
  simple_fits (simple.Named m) = h m.parts

  alternative_fits : (t : Alternative) → Fits n (alternative_type named t)
  unfolding alternative_type
  alternative_fits one.Unknown = plain_fits n 0 true
  alternative_fits (one.Simple s) = simple_fits s
  alternative_fits (one.ArrayOf ss) = array_fits n (union_of (map (simple_type named) ss)) (union_fits n (map (simple_type named) ss) (λ t i. let d = map_out (simple_type named) t ss i in subst (λ x. Fits n x) d.2 (simple_fits d.0)))

  pub type_fits : (e : TypeExpr) → Fits n (type_by named e)
  unfolding type_by
  type_fits e = union_fits n (map (alternative_type named) e.alternatives) (λ t i. let d = map_out (alternative_type named) t e.alternatives i in subst (λ x. Fits n x) d.2 (alternative_fits d.0))

module _ (n : ℕ) (M : Meanings) (h : (ws : List Name) (c : ℕ) → M.of ws ≡ a_class c → c < n) where
  class_fits : (c : ℕ) → c < n → Fits n (record { kinds = 0; classes = c ∷ []; unknown = false; element = None })
  unfolding classes_in element_classes
  class_fits c l = record { below = λ a i. elim (head_or a c [] i) [ inl e ↦ subst (λ x. x < n) (sym e) l | inr j ↦ elim j [ ] ] }

  meaning_fits : (b : Bool) (inside : TypeExpr → TypeSet) (m : Meaning) → ((c : ℕ) → m ≡ a_class c → c < n) → ((e : TypeExpr) → Fits n (inside e)) → Fits n (meaning_type b inside m)
  unfolding meaning_type
  meaning_fits b inside (a_class c) g k = class_fits c (g c refl)
  meaning_fits b inside (outside_class c) g k = plain_fits n 32 false
  meaning_fits true inside (stands_for e) g k = plain_fits n 0 true
  meaning_fits false inside (stands_for e) g k = k e
  meaning_fits b inside nothing g k = plain_fits n 0 true

  within_fits : (m : ℕ) (ws : List Name) → Fits n (named_within m M ws)
  unfolding named_within
  within_fits zero ws = plain_fits n 0 true
  within_fits (suc m) ws = meaning_fits (is_circular M ws) (λ e. type_by (named_within m M) e) (M.of ws) (h ws) (λ e. type_fits n (named_within m M) (within_fits m) e)

  of_fits : (e : TypeExpr) → Fits n (type_of M e)
  unfolding type_of named_type
  of_fits e = type_fits n (named_type M) (λ ws. within_fits (suc M.types) ws) e

  -- ---- docs

  pub record DocFits (d : SiteDoc) : Type 0 where
    pub types : (t : TypeSet) → In t (types_in d) → Fits n t

  option_fits : (o : Option TypeExpr) (t : TypeSet) → In t (w.type_in (type_in M o)) → Fits n t
  unfolding type_in w.type_in
  option_fits None t i = elim i [ ]
  option_fits (Some e) t i = elim (head_or t (type_of M e) [] i) [ inl k ↦ subst (λ x. Fits n x) (sym k) (of_fits e) | inr j ↦ elim j [ ] ]

  all_options_fit : {V : Type 0} (f : V → Option TypeExpr) (vs : List V) (t : TypeSet) → In t (types_in_all (map (λ v. type_in M (f v)) vs)) → Fits n t
  unfolding types_in_all
  all_options_fit f [] t i = elim i [ ]
  all_options_fit f (v ∷ vs) t i = elim (in_either (w.type_in (type_in M (f v))) (types_in_all (map (λ u. type_in M (f u)) vs)) i) [ inl j ↦ option_fits (f v) t j | inr j ↦ all_options_fit f vs t j ]

  four : (a b c d : List TypeSet) (t : TypeSet) → In t (a ++ b ++ c ++ d) → (In t a → Fits n t) → (In t b → Fits n t) → (In t c → Fits n t) → (In t d → Fits n t) → Fits n t
  four a b c d t i x y z v = elim (in_either (a ++ b ++ c) d i) [
    | inl j ↦ elim (in_either (a ++ b) c j) [ inl k ↦ elim (in_either a b k) [ inl l ↦ x l | inr l ↦ y l ] | inr k ↦ z k ]
    | inr j ↦ v j
  ]

  nothing_in : (t : TypeSet) → In t [] → Fits n t
  nothing_in t i = elim i [ ]

  comment_fits : (d : Doc) → DocFits (doc_said M d)
  unfolding doc_said types_in types_in_all
  comment_fits d = record { types = λ t i. four [] (w.type_in (type_in M d.result)) (w.type_in (type_in M (value_said d))) (w.type_in (type_in M d.receiver)) t i (nothing_in t) (option_fits d.result t) (option_fits (value_said d) t) (option_fits d.receiver t) }

  nothing_fits : DocFits says_nothing
  unfolding types_in types_in_all w.type_in
  nothing_fits = record { types = λ t i. elim i [ ] }

  abbrev said_params : List Comment → Function → Option Doc → List (Option TypeSet)
  said_params cs g o = map (λ v. type_in M (param_said cs (params_said o) v)) g.params

  by_said : (cs : List Comment) (g : Function) (vs : List ℕ) (o : Option Doc) → DocFits (record (doc_or_nothing M o) { params = said_params cs g o; vars = vs })
  unfolding doc_or_nothing doc_said types_in w.type_in
  by_said cs g vs None = record { types = λ t i. four (types_in_all (said_params cs g None)) [] [] [] t i (all_options_fit (param_said cs (params_said None)) g.params t) (nothing_in t) (nothing_in t) (nothing_in t) }
  by_said cs g vs (Some d) = record { types = λ t i. four (types_in_all (said_params cs g (Some d))) (w.type_in (type_in M d.result)) (w.type_in (type_in M (value_said d))) (w.type_in (type_in M d.receiver)) t i (all_options_fit (param_said cs (params_said (Some d))) g.params t) (option_fits d.result t) (option_fits (value_said d) t) (option_fits d.receiver t) }

  function_fits : (cs : List Comment) (g : Function) → DocFits (function_doc M cs g)
  unfolding function_doc
  function_fits cs g = by_said cs g (variable_docs cs (stmts_at g.body) (locals g.params g.body)) (said_at g.at cs)

  -- ---- the table

  vars_below : (cs : List Comment) (ds : List Declaration) (xs : List Name) (k : ℕ) → In k (variable_docs cs ds xs) → k < suc (length cs)
  unfolding variable_docs
  vars_below cs ds [] k i = elim i [ ]
  vars_below cs ds (x ∷ xs) k i = elim (head_or k (doc_number (places_of x ds) cs) (variable_docs cs ds xs) i) [ inl e ↦ subst (λ m. m < suc (length cs)) (sym e) (doc_below (places_of x ds) cs) | inr j ↦ vars_below cs ds xs k j ]

  pub record IsRight (most : ℕ) (d : SiteDoc) : Type 0 where
    pub fits : DocFits d
    pub vars : (k : ℕ) → In k d.vars → k < most

  function_right : (cs : List Comment) (g : Function) → IsRight (suc (length cs)) (function_doc M cs g)
  unfolding function_doc
  function_right cs g = record { fits = function_fits cs g; vars = vars_below cs (stmts_at g.body) (locals g.params g.body) }

  functions_right : (cs : List Comment) (gs : List Function) (d : SiteDoc) → In d (function_docs M cs gs) → IsRight (suc (length cs)) d
  unfolding function_docs
  functions_right cs [] d i = elim i [ ]
  functions_right cs (g ∷ gs) d i = by (is_documented cs g) i (functions_right cs gs d) where
    by : (b : Bool) → In d (pick b (function_doc M cs g ∷ []) [] ++ function_docs M cs gs) → (In d (function_docs M cs gs) → IsRight (suc (length cs)) d) → IsRight (suc (length cs)) d
    by true j again = elim (head_or d (function_doc M cs g) (function_docs M cs gs) j) [ inl e ↦ subst (λ x. IsRight (suc (length cs)) x) (sym e) (function_right cs g) | inr k ↦ again k ]
    by false j again = again j

  comment_right : (most : ℕ) (d : Doc) → IsRight most (doc_said M d)
  unfolding doc_said
  comment_right most d = record { fits = comment_fits d; vars = λ k i. elim i [ ] }

  pub each_right : (cs : List Comment) (gs : List Function) (d : SiteDoc) → In d (docs_of M cs gs) → IsRight (suc (length cs)) d
  unfolding docs_of
  each_right cs gs d i = elim (head_or d says_nothing (map (λ c. doc_said M c.says) cs ++ function_docs M cs gs) i) [
    | inl e ↦ subst (λ x. IsRight (suc (length cs)) x) (sym e) (record { fits = nothing_fits; vars = λ k j. elim j [ ] })
    | inr j ↦ elim (in_either (map (λ c. doc_said M c.says) cs) (function_docs M cs gs) j) [
      | inl k ↦ (let c = map_out (λ x. doc_said M x.says) d cs k in subst (λ x. IsRight (suc (length cs)) x) c.2 (comment_right (suc (length cs)) c.0.says))
      | inr k ↦ functions_right cs gs d k
    ]
  ]

pub docs_length : (M : Meanings) (cs : List Comment) (gs : List Function) → length (docs_of M cs gs) ≡ suc (length cs + length (function_docs M cs gs))
unfolding docs_of
docs_length M cs gs = let a = length-append (map (λ c. doc_said M c.says) cs) (function_docs M cs gs) in let b = length_map (λ c. doc_said M c.says) cs in omega arith

-- the number of a function's doc is one of the table's
numbers_below : (M : Meanings) (k : ℕ) (cs : List Comment) (gs : List Function) (i n : ℕ) → slice_get (function_numbers k cs gs) i ≡ Some n → (n ≡ 0) ⊎ (n < k + length (function_docs M cs gs))
unfolding function_numbers function_docs
numbers_below M k cs [] i n e = absurd (cc)
numbers_below M k cs (g ∷ gs) i n e = by (is_documented cs g) i e (λ j. numbers_below M (suc k) cs gs j n) (λ j. numbers_below M k cs gs j n) where
  by : (b : Bool) (j : ℕ) → slice_get (pick b (k ∷ function_numbers (suc k) cs gs) (0 ∷ function_numbers k cs gs)) j ≡ Some n → ((m : ℕ) → slice_get (function_numbers (suc k) cs gs) m ≡ Some n → (n ≡ 0) ⊎ (n < suc k + length (function_docs M cs gs)))
      → ((m : ℕ) → slice_get (function_numbers k cs gs) m ≡ Some n → (n ≡ 0) ⊎ (n < k + length (function_docs M cs gs))) → (n ≡ 0) ⊎ (n < k + length (pick b (function_doc M cs g ∷ []) [] ++ function_docs M cs gs))
  by true zero d one two = let z : k ≡ n = some_is d in inr (omega arith)
  by true (suc m) d one two = elim (one m d) [ inl z ↦ inl z | inr z ↦ inr (omega arith) ]
  by false zero d one two = inl (sym (some_is d))
  by false (suc m) d one two = two m d

pub function_below : (M : Meanings) (chunks : ℕ) (cs : List Comment) (gs : List Function) (f : ℕ) → function_number chunks cs gs f < length (docs_of M cs gs)
unfolding function_number or_zero
function_below M chunks cs gs f = by (nat_lt f chunks) (slice_get (function_numbers (suc (length cs)) cs gs) (f - chunks)) refl where
  number : (n : ℕ) → (n ≡ 0) ⊎ (n < suc (length cs) + length (function_docs M cs gs)) → length (docs_of M cs gs) ≡ suc (length cs + length (function_docs M cs gs)) → n < length (docs_of M cs gs)
  number n (inl z) l = omega arith
  number n (inr z) l = omega arith

  by : (b : Bool) (o : Option ℕ) → slice_get (function_numbers (suc (length cs)) cs gs) (f - chunks) ≡ o → pick b 0 (or_zero o) < length (docs_of M cs gs)
  by true o e = number 0 (inl refl) (docs_length M cs gs)
  by false None e = number 0 (inl refl) (docs_length M cs gs)
  by false (Some n) e = number n (numbers_below M (suc (length cs)) cs gs (f - chunks) n e) (docs_length M cs gs)

-- Laws of sets of names.
use Rattle.std.proofs.Common.{◌≡◌, ◌≢◌, ℕ, ◌+◌, ◌<◌, Bool, true, false, cond, ◌||◌, List, [], ◌∷◌, ◌++◌, length, map, get_or, drop, take, refl, sym, ap, ◌∙◌, eqb, bytes_eq, Option, Some, None, Vec, Bor}
use Rattle.std.specs.List.{list_any}
use Rattle.std.specs.Cmp.Lexicographic.{pointwise, bytes_decides}
use Rattle.std.specs.Set.{KeepsOthers}
use Rattle.std.proofs.lemmas.List.Folds.{list_any-append}
use Rattle.std.proofs.lemmas.List.{drop_more, map_more}
use Rattle.indexmap.specs.IndexSet.{insert_key}
use Rattle.cc_ast.specs.declared.tables.GlobalInfo.{GlobalInfo}
use Rattle.cc_driver.specs.Names.{is_in}
use Rattle.cc_driver.specs.Naming.{other_names, if_other}
use Rattle.cc_driver.specs.NamingSteps.{has_name}

-- the test by which a set tells two keys of its own apart
abbrev pub same_name : {A : Type 0} → Vec ℕ A → Vec ℕ A → Bool
same_name x y = pointwise eqb x.items y.items

bytes_apart : (a b : List ℕ) → a ≢ b → bytes_eq a b ≡ false
bytes_apart a b n = by (bytes_eq a b) refl
  where
    by : (r : Bool) → bytes_eq a b ≡ r → bytes_eq a b ≡ false
    by true e = absurd (n ((bytes_decides a b).0 e))
    by false e = e

or_none : (a : Bool) → (a || false) ≡ a
or_none true = refl
or_none false = refl

or_twice : (a b : Bool) → (b ≡ true → a ≡ true) → (a || b) ≡ a
or_twice true b h = refl
or_twice false true h = sym (h refl)
or_twice false false h = refl

or_assoc : (a b c : Bool) → ((a || b) || c) ≡ (a || (b || c))
or_assoc true b c = refl
or_assoc false b c = refl

-- an insert adds the name
pub has_name-insert : {A : Type 0} (keys : List (Vec ℕ A)) (key : Vec ℕ A) (name : List ℕ)
    → has_name (insert_key same_name keys key) name ≡ (has_name keys name || bytes_eq name key.items)
has_name-insert {A} keys key name = by (list_any (same_name key) keys) refl
  where
    there : list_any (same_name key) keys ≡ true → bytes_eq name key.items ≡ true → has_name keys name ≡ true
    there l e = ap (λ n. list_any (λ (k : Vec ℕ A). bytes_eq n k.items) keys) ((bytes_decides name key.items).0 e) ∙ l

    by : (b : Bool) → list_any (same_name key) keys ≡ b → has_name (insert_key same_name keys key) name ≡ (has_name keys name || bytes_eq name key.items)
    by true l = ap (λ c. has_name (cond c keys (keys ++ key ∷ [])) name) l ∙ sym (or_twice (has_name keys name) (bytes_eq name key.items) (there l))
    by false l = ap (λ c. has_name (cond c keys (keys ++ key ∷ [])) name) l ∙ list_any-append (λ (k : Vec ℕ A). bytes_eq name k.items) keys (key ∷ []) ∙ ap (λ c. has_name keys name || c) (or_none (bytes_eq name key.items))

-- without a name, a set has each other name as before
pub has_name-remove : {A : Type 0} (old new : List (Vec ℕ A)) (gone name : List ℕ) → gone ≢ name
    → KeepsOthers same_name (λ key. bytes_eq gone key.items) old new → has_name new name ≡ has_name old name
unfolding KeepsOthers
has_name-remove {A} old new gone name apart keeps = keeps (λ key. bytes_eq name key.items) tests others
  where
    tests : (x y : Vec ℕ A) → bytes_eq name x.items ≡ true → bytes_eq name y.items ≡ same_name x y
    tests x y e = ap (λ n. bytes_eq n y.items) ((bytes_decides name x.items).0 e)

    others : (key : Vec ℕ A) → bytes_eq gone key.items ≡ true → bytes_eq name key.items ≡ false
    others key e = bytes_apart name key.items (λ s. apart ((bytes_decides gone key.items).0 e ∙ sym s))

-- a turn of the loop over words: the word goes last
pub word_turn : (old new before : Bool) (name word : List ℕ) (words : List (List ℕ)) → old ≡ (before || is_in name words) → new ≡ (old || bytes_eq name word)
    → new ≡ (before || is_in name (words ++ word ∷ []))
word_turn old new before name word words e f =
    f ∙ ap (λ b. b || bytes_eq name word) e ∙ or_assoc before (is_in name words) (bytes_eq name word)
    ∙ ap (λ b. before || b) (ap (λ b. is_in name words || b) (sym (or_none (bytes_eq name word))) ∙ sym (list_any-append (bytes_eq name) words (word ∷ [])))

is_in_if_other : (name : List ℕ) (o : Option ℕ) (other : List ℕ) (rest : List (List ℕ)) → is_in name (if_other o other rest) ≡ (is_in name (if_other o other []) || is_in name rest)
is_in_if_other name None other rest = ap (λ b. b || is_in name rest) (sym (or_none (bytes_eq name other)))
is_in_if_other name (Some c) other rest = refl

-- a turn of the loop over globals
pub global_turn : (name : List ℕ) (globals : List GlobalInfo) (i : ℕ) (info : GlobalInfo) → i < length globals → info ≡ get_or globals i info
    → (old new : Bool) → new ≡ (old || is_in name (if_other info.chunk info.name [])) → (whole : Bool)
    → (old || is_in name (other_names (drop i globals))) ≡ whole → (new || is_in name (other_names (drop (i + 1) globals))) ≡ whole
global_turn name globals i info l is old new e whole inv =
    let cut : drop i globals ≡ info ∷ drop (i + 1) globals = drop_more globals i info l ∙ ap (λ x. x ∷ drop (i + 1) globals) (sym is) in
    let rest = other_names (drop (i + 1) globals) in
    ap (λ b. b || is_in name rest) e ∙ or_assoc old (is_in name (if_other info.chunk info.name [])) (is_in name rest)
    ∙ ap (λ b. old || b) (sym (is_in_if_other name info.chunk info.name rest) ∙ ap (λ gs. is_in name (other_names gs)) (sym cut)) ∙ inv

-- a turn of the loop over words
pub words_turn : (name : List ℕ) (words : List (Bor (List ℕ))) (i : ℕ) (d : Bor (List ℕ)) (word : List ℕ) → i < length words → word ≡ (get_or words i d).now
    → (old new before : Bool) → old ≡ (before || is_in name (map (λ (w : Bor (List ℕ)). w.now) (take i words))) → new ≡ (old || bytes_eq name word)
    → new ≡ (before || is_in name (map (λ (w : Bor (List ℕ)). w.now) (take (i + 1) words)))
words_turn name words i d word l is old new before e f =
    let one_more : map (λ (w : Bor (List ℕ)). w.now) (take (i + 1) words) ≡ map (λ (w : Bor (List ℕ)). w.now) (take i words) ++ word ∷ [] =
    map_more (λ (w : Bor (List ℕ)). w.now) words i d l ∙ ap (λ w. map (λ (v : Bor (List ℕ)). v.now) (take i words) ++ w ∷ []) (sym is) in
    word_turn old new before name word (map (λ (w : Bor (List ℕ)). w.now) (take i words)) e f ∙ ap (λ ws. before || is_in name ws) (sym one_more)

-- The names of chunks in a set.
use Rattle.std.proofs.Common.{◌≡◌, ℕ, ◌+◌, ◌<◌, Bool, true, false, ◌||◌, cond, List, [], ◌∷◌, ◌++◌, length, get_or, take, map, Some, None, option_to_list, refl, ap, sym, subst, ◌∙◌}
use Rattle.std.specs.Borrow.{Bor}
use Rattle.std.specs.List.{list_any}
use Rattle.std.specs.Str.{bytes_eq}
use Rattle.std.proofs.lemmas.List.{map-append, append-nil}
use Rattle.std.proofs.lemmas.List.Folds.{list_any-append}
use Rattle.std.proofs.lemmas.Slice.Eq.{bytes_eq-Decides}
use Rattle.indexmap.specs.IndexSet.{insert_key}
use Rattle.cc_flags.specs.declared.item.Item.{Item}
use Rattle.cc_flags.specs.declared.flag.Flag.TheVariants as flag
use Rattle.cc_flags.specs.Texts.{before}
use Rattle.cc_flags.specs.Words.{setting_of, settings_of, value_for, values_of, chunk_names}
use Rattle.cc_flags.specs.Forming.{HaveSame}
use Rattle.cc_flags.proofs.SettingLaws.{filter_map-more}

or-false : (b : Bool) → (b || false) ≡ b
or-false true = refl
or-false false = refl

-- a name that is found already adds nothing
absorbed : (name k : List ℕ) (names : List (List ℕ)) → list_any (bytes_eq k) names ≡ true → list_any (bytes_eq name) names ≡ (list_any (bytes_eq name) names || (bytes_eq name k || false))
absorbed name k names found = by_test (bytes_eq name k) refl where
  by_test : (b : Bool) → bytes_eq name k ≡ b → list_any (bytes_eq name) names ≡ (list_any (bytes_eq name) names || (bytes_eq name k || false))
  by_test true e =
      let same : name ≡ k = (bytes_eq-Decides name k).0 e in
      let here : list_any (bytes_eq name) names ≡ true = subst (λ n. list_any (bytes_eq n) names ≡ true) (sym same) found in
      rw here refl
  by_test false e = rw e (sym (or-false (list_any (bytes_eq name) names)))

map-any : (name : List ℕ) (keys : List (Bor (List ℕ))) → list_any (λ k. bytes_eq name k.now) keys ≡ list_any (bytes_eq name) (map (λ k. k.now) keys)
map-any name [] = refl
map-any name (k ∷ keys) = ap (λ b. bytes_eq name k.now || b) (map-any name keys)

-- the names after one more is put into the set
inserted : (keys : List (Bor (List ℕ))) (k : Bor (List ℕ)) (name : List ℕ)
    → list_any (bytes_eq name) (map (λ k. k.now) (insert_key (λ x y. bytes_eq x.now y.now) keys k)) ≡ list_any (bytes_eq name) (map (λ k. k.now) keys ++ k.now ∷ [])
inserted keys k name = by_test (list_any (λ x. bytes_eq k.now x.now) keys) refl where
  by_test : (b : Bool) → list_any (λ x. bytes_eq k.now x.now) keys ≡ b → list_any (bytes_eq name) (map (λ k. k.now) (cond b keys (keys ++ k ∷ []))) ≡ list_any (bytes_eq name) (map (λ k. k.now) keys ++ k.now ∷ [])
  by_test true e =
      absorbed name k.now (map (λ k. k.now) keys) (sym (map-any k.now keys) ∙ e)
      ∙ sym (list_any-append (bytes_eq name) (map (λ k. k.now) keys) (k.now ∷ []))
  by_test false e = ap (list_any (bytes_eq name)) (map-append (λ k. k.now) keys (k ∷ []))

-- one more setting gives its name, or none
pub names-after : (items : List Item) (i : ℕ) (d : Item) → i < length items
    → chunk_names (settings_of (take (i + 1) items)) ≡ chunk_names (settings_of (take i items)) ++ map (before 58) (option_to_list (value_for flag.Chunk (setting_of (get_or items i d))))
names-after items i d within =
    ap (map (before 58)) (filter_map-more (value_for flag.Chunk) items i d within)
    ∙ map-append (before 58) (values_of flag.Chunk (settings_of (take i items))) (option_to_list (value_for flag.Chunk (setting_of (get_or items i d))))

pub names-more : (items : List Item) (i : ℕ) (d : Item) (old new : List (Bor (List ℕ))) (k : Bor (List ℕ)) (v : List ℕ) → i < length items → HaveSame (map (λ k. k.now) old) (chunk_names (settings_of (take i items)))
    → Some v ≡ value_for flag.Chunk (setting_of (get_or items i d)) → k.now ≡ before 58 v → new ≡ insert_key (λ x y. bytes_eq x.now y.now) old k → HaveSame (map (λ k. k.now) new) (chunk_names (settings_of (take (i + 1) items)))
names-more items i d old new k v within so_far given cut put name =
    ap (λ ks. list_any (bytes_eq name) (map (λ k. k.now) ks)) put
    ∙ inserted old k name
    ∙ list_any-append (bytes_eq name) (map (λ k. k.now) old) (k.now ∷ [])
    ∙ ap (λ b. b || list_any (bytes_eq name) (k.now ∷ [])) (so_far name)
    ∙ sym (list_any-append (bytes_eq name) (chunk_names (settings_of (take i items))) (k.now ∷ []))
    ∙ ap (λ n. list_any (bytes_eq name) (chunk_names (settings_of (take i items)) ++ n ∷ [])) cut
    ∙ ap (λ o. list_any (bytes_eq name) (chunk_names (settings_of (take i items)) ++ map (before 58) (option_to_list o))) given
    ∙ ap (list_any (bytes_eq name)) (sym (names-after items i d within))

pub names-same : (items : List Item) (i : ℕ) (d : Item) (old : List (List ℕ)) → i < length items → HaveSame old (chunk_names (settings_of (take i items)))
    → None ≡ value_for flag.Chunk (setting_of (get_or items i d)) → HaveSame old (chunk_names (settings_of (take (i + 1) items)))
names-same items i d old within so_far none name =
    so_far name
    ∙ ap (list_any (bytes_eq name)) (sym (append-nil (chunk_names (settings_of (take i items)))))
    ∙ ap (λ o. list_any (bytes_eq name) (chunk_names (settings_of (take i items)) ++ map (before 58) (option_to_list o))) none
    ∙ ap (list_any (bytes_eq name)) (sym (names-after items i d within))

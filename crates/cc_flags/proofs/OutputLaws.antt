-- Wrappers of chunks.
use Rattle.std.proofs.Common.{◌≡◌, ℕ, ◌+◌, ◌<◌, Bool, true, false, cond, List, [], ◌∷◌, ◌++◌, length, get_or, take, map, Option, Some, None, option_to_list, option_and_then, codes, refl, ap, sym, subst, ◌∙◌}
use Rattle.std.specs.Borrow.{Bor}
use Rattle.std.specs.Option.{option_copied}
use Rattle.std.specs.List.{filter_map, cons_option, last_or, AllZip}
use Rattle.std.specs.Str.{bytes_eq}
use Rattle.std.proofs.lemmas.List.{map-append, append-nil}
use Rattle.cc_flags.specs.declared.flag.Flag.TheVariants as flag
use Rattle.cc_flags.specs.declared.item.Item.{Item}
use Rattle.cc_flags.specs.declared.job.Wrapper.{Wrapper}
use Rattle.cc_flags.specs.Texts.{before}
use Rattle.cc_flags.specs.Words.{Setting, setting_of, settings_of, value_for, chunk_names}
use Rattle.cc_flags.specs.Jobs.{IsWrapperOf, text_for, wrapper_text}
use Rattle.cc_flags.specs.Wrapping.{wraps}
use Rattle.cc_flags.proofs.GivenLaws.{zip-append}
use Rattle.cc_flags.proofs.NamesLaws.{names-after}
use Rattle.cc_flags.proofs.SettingLaws.{last-more, last-same}

-- ---- the texts of a name

kept-step : {Y Z : Type 0} (f : Y → Option Z) (o : Option Y) (rest : List Y) (more : List Z) → filter_map f rest ≡ more → filter_map f (cons_option o rest) ≡ cons_option (option_and_then f o) more
kept-step f None rest more e = e
kept-step f (Some y) rest more e = ap (cons_option (f y)) e

kept-twice : {X Y Z : Type 0} (f : Y → Option Z) (g : X → Option Y) (xs : List X) → filter_map f (filter_map g xs) ≡ filter_map (λ x. option_and_then f (g x)) xs
kept-twice f g [] = refl
kept-twice f g (x ∷ xs) = kept-step f (g x) (filter_map g xs) (filter_map (λ y. option_and_then f (g y)) xs) (kept-twice f g xs)

-- the last text for a name is that of the last setting that wraps it
pub text-last : (name : List ℕ) (ss : List Setting) → wrapper_text ss name ≡ last_or None (filter_map (wraps name) ss)
text-last name ss = ap (last_or None) (kept-twice (text_for name) (value_for flag.ChunkWrapper) ss)

-- ---- the table of the texts

pub copied-if : (b : Bool) (text : Bor (List ℕ)) (old : Option (Bor (List ℕ))) → option_copied (cond b (Some text) old) ≡ cond b (Some text.now) (option_copied old)
copied-if true text old = refl
copied-if false text old = refl

-- what the table has after these settings
abbrev pub HasLast : (List ℕ → Option (List ℕ)) → List Setting → Type 0
HasLast table ss = (name : List ℕ) → table name ≡ last_or None (filter_map (wraps name) ss)

module _ (items : List Item) (i : ℕ) (d : Item) (old : List ℕ → Option (List ℕ)) (within : i < length items) (so_far : HasLast old (settings_of (take i items))) where
  -- a text for this name, which takes the place of an earlier one
  pub table-more : (key text : List ℕ) (new : List ℕ → Option (List ℕ)) → ((name : List ℕ) → cond (bytes_eq key name) (Some text) None ≡ wraps name (setting_of (get_or items i d)))
      → ((name : List ℕ) → new name ≡ cond (bytes_eq key name) (Some text) (old name)) → HasLast new (settings_of (take (i + 1) items))
  table-more key text new given put name = by_test (bytes_eq key name) refl where
    by_test : (b : Bool) → bytes_eq key name ≡ b → new name ≡ last_or None (filter_map (wraps name) (settings_of (take (i + 1) items)))
    by_test true e = put name ∙ ap (λ t. cond t (Some text) (old name)) e ∙ last-more (wraps name) items i d text within (sym (ap (λ t. cond t (Some text) None) e) ∙ given name)
    by_test false e = put name ∙ ap (λ t. cond t (Some text) (old name)) e ∙ last-same (wraps name) items i d (old name) within (sym (ap (λ t. cond t (Some text) None) e) ∙ given name) (so_far name)

  -- no text for any name
  pub table-same : ((name : List ℕ) → None ≡ wraps name (setting_of (get_or items i d))) → HasLast old (settings_of (take (i + 1) items))
  table-same none name = last-same (wraps name) items i d (old name) within (none name) (so_far name)

-- ---- the wrappers of the chunks

-- wrappers of the chunks that these settings ask for, by the texts of all
abbrev pub AreWrappers : List Setting → List Setting → List (Option Wrapper) → Type 0
AreWrappers all ss wrappers = AllZip (IsWrapperOf (codes "%s")) (map (wrapper_text all) (chunk_names ss)) wrappers

texts-after : (all : List Setting) (items : List Item) (i : ℕ) (d : Item) → i < length items
    → map (wrapper_text all) (chunk_names (settings_of (take (i + 1) items)))
    ≡ map (wrapper_text all) (chunk_names (settings_of (take i items))) ++ map (wrapper_text all) (map (before 58) (option_to_list (value_for flag.Chunk (setting_of (get_or items i d)))))
texts-after all items i d within =
    ap (map (wrapper_text all)) (names-after items i d within)
    ∙ map-append (wrapper_text all) (chunk_names (settings_of (take i items))) (map (before 58) (option_to_list (value_for flag.Chunk (setting_of (get_or items i d)))))

pub wrappers-more : (all : List Setting) (items : List Item) (i : ℕ) (d : Item) (wrappers : List (Option Wrapper)) (v name : List ℕ) (wrapper : Option Wrapper) → i < length items → AreWrappers all (settings_of (take i items)) wrappers
    → Some v ≡ value_for flag.Chunk (setting_of (get_or items i d)) → name ≡ before 58 v → IsWrapperOf (codes "%s") (wrapper_text all name) wrapper → AreWrappers all (settings_of (take (i + 1) items)) (wrappers ++ wrapper ∷ [])
wrappers-more all items i d wrappers v name wrapper within so_far given cut is =
    let more : map (wrapper_text all) (chunk_names (settings_of (take (i + 1) items))) ≡ map (wrapper_text all) (chunk_names (settings_of (take i items))) ++ wrapper_text all name ∷ [] =
    texts-after all items i d within
    ∙ ap (λ o. map (wrapper_text all) (chunk_names (settings_of (take i items))) ++ map (wrapper_text all) (map (before 58) (option_to_list o))) (sym given)
    ∙ ap (λ n. map (wrapper_text all) (chunk_names (settings_of (take i items))) ++ wrapper_text all n ∷ []) (sym cut) in
    subst (λ ts. AllZip (IsWrapperOf (codes "%s")) ts (wrappers ++ wrapper ∷ [])) (sym more)
    (zip-append (IsWrapperOf (codes "%s")) (map (wrapper_text all) (chunk_names (settings_of (take i items)))) (wrapper_text all name ∷ []) wrappers (wrapper ∷ []) so_far (is, tt))

pub wrappers-same : (all : List Setting) (items : List Item) (i : ℕ) (d : Item) (wrappers : List (Option Wrapper)) → i < length items → AreWrappers all (settings_of (take i items)) wrappers
    → None ≡ value_for flag.Chunk (setting_of (get_or items i d)) → AreWrappers all (settings_of (take (i + 1) items)) wrappers
wrappers-same all items i d wrappers within so_far none =
    subst (λ ts. AllZip (IsWrapperOf (codes "%s")) ts wrappers)
    (sym (texts-after all items i d within
    ∙ ap (λ o. map (wrapper_text all) (chunk_names (settings_of (take i items))) ++ map (wrapper_text all) (map (before 58) (option_to_list o))) (sym none)
    ∙ append-nil (map (wrapper_text all) (chunk_names (settings_of (take i items)))))) so_far

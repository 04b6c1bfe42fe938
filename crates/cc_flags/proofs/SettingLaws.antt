-- What lists of settings give.
use Rattle.std.proofs.lemmas.Option.{slice_get-map}
use Rattle.std.proofs.Common.{◌≡◌, ℕ, zero, suc, slice_get, option_map, ◌+◌, ◌<◌, Bool, ◌||◌, List, [], ◌∷◌, ◌++◌, length, get_or, take, map, Option, Some, None, option_to_list, String, string_bytes, refl, ap, sym, ◌∙◌, arith}
use Rattle.std.specs.List.{list_any, filter_map, cons_option, last_or}
use Rattle.std.proofs.lemmas.List.{map-append, take_more, append-nil, length-map}
use Rattle.std.specs.Borrow.{Bor}
use Rattle.std.specs.Option.{option_copied}
use Rattle.std.proofs.Math.Seq.{take-length}
use Rattle.std.proofs.lemmas.List.Elements.{filter_map-append}
use Rattle.cc_flags.specs.declared.item.Item.{Item}
use Rattle.cc_flags.specs.Texts.{texts}
use Rattle.cc_flags.specs.Words.{Setting, setting_of, settings_of}

pub any-map : {X Y : Type 0} (f : X → Y) (test : Y → Bool) (xs : List X) → list_any (λ x. test (f x)) xs ≡ list_any test (map f xs)
any-map f test [] = refl
any-map f test (x ∷ xs) = ap (λ b. test (f x) || b) (any-map f test xs)

-- one more setting
pub settings-more : (items : List Item) (i : ℕ) (d : Item) → i < length items → settings_of (take (i + 1) items) ≡ settings_of (take i items) ++ setting_of (get_or items i d) ∷ []
settings-more items i d h = ap settings_of (take_more items i d h) ∙ map-append setting_of (take i items) (get_or items i d ∷ [])

pub settings-all : (items : List Item) (i : ℕ) → i ≡ length items → settings_of (take i items) ≡ settings_of items
settings-all items i e = ap (λ n. settings_of (take n items)) e ∙ ap settings_of (take-length items)

cons-list : {X : Type 0} (o : Option X) → cons_option o [] ≡ option_to_list o
cons-list None = refl
cons-list (Some x) = refl

-- what settings give, and one more gives
pub filter_map-more : {Y : Type 0} (h : Setting → Option Y) (items : List Item) (i : ℕ) (d : Item) → i < length items
    → filter_map h (settings_of (take (i + 1) items)) ≡ filter_map h (settings_of (take i items)) ++ option_to_list (h (setting_of (get_or items i d)))
filter_map-more h items i d within =
    ap (filter_map h) (settings-more items i d within)
    ∙ filter_map-append h (settings_of (take i items)) (setting_of (get_or items i d) ∷ [])
    ∙ ap (λ ys. filter_map h (settings_of (take i items)) ++ ys) (cons-list (h (setting_of (get_or items i d))))

-- texts that are kept, one more, and none more
pub texts-more : {A : Type 0} (h : Setting → Option (List ℕ)) (items : List Item) (i : ℕ) (d : Item) (old : List (String A)) (text : String A) (o : Option (Bor (List ℕ))) (v : Bor (List ℕ)) → i < length items
    → texts old ≡ filter_map h (settings_of (take i items)) → option_copied o ≡ h (setting_of (get_or items i d)) → o ≡ Some v → string_bytes text ≡ v.now
    → texts (old ++ text ∷ []) ≡ filter_map h (settings_of (take (i + 1) items))
texts-more h items i d old text o v within so_far given some read =
    map-append (λ w. string_bytes w) old (text ∷ [])
    ∙ ap (λ ts. ts ++ string_bytes text ∷ []) so_far
    ∙ ap (λ t. filter_map h (settings_of (take i items)) ++ t ∷ []) read
    ∙ ap (λ p. filter_map h (settings_of (take i items)) ++ option_to_list p) (sym (ap option_copied some) ∙ given)
    ∙ sym (filter_map-more h items i d within)

pub texts-same : {Y : Type 0} (h : Setting → Option Y) (items : List Item) (i : ℕ) (d : Item) (texts : List Y) → i < length items
    → texts ≡ filter_map h (settings_of (take i items)) → None ≡ h (setting_of (get_or items i d)) → texts ≡ filter_map h (settings_of (take (i + 1) items))
texts-same h items i d texts within so_far none =
    so_far
    ∙ sym (append-nil (filter_map h (settings_of (take i items))))
    ∙ ap (λ p. filter_map h (settings_of (take i items)) ++ option_to_list p) none
    ∙ sym (filter_map-more h items i d within)

-- the last of the values
last_or-append : {X : Type 0} (o : Option X) (xs : List X) (x : X) → last_or o (xs ++ x ∷ []) ≡ Some x
last_or-append o [] x = refl
last_or-append o (y ∷ xs) x = last_or-append (Some y) xs x

pub last-more : (h : Setting → Option (List ℕ)) (items : List Item) (i : ℕ) (d : Item) (v : List ℕ) → i < length items → Some v ≡ h (setting_of (get_or items i d))
    → Some v ≡ last_or None (filter_map h (settings_of (take (i + 1) items)))
last-more h items i d v within given =
    sym (ap (last_or None) (filter_map-more h items i d within ∙ ap (λ p. filter_map h (settings_of (take i items)) ++ option_to_list p) (sym given))
    ∙ last_or-append None (filter_map h (settings_of (take i items))) v)

pub last-same : (h : Setting → Option (List ℕ)) (items : List Item) (i : ℕ) (d : Item) (o : Option (List ℕ)) → i < length items → None ≡ h (setting_of (get_or items i d))
    → o ≡ last_or None (filter_map h (settings_of (take i items))) → o ≡ last_or None (filter_map h (settings_of (take (i + 1) items)))
last-same h items i d o within none so_far = so_far ∙ ap (last_or None) (texts-same h items i d (filter_map h (settings_of (take i items))) within refl none)

-- the setting of an item
pub setting-at : (items : List Item) (i : ℕ) (d : Item) → i < length items → slice_get (settings_of items) i ≡ Some (setting_of (get_or items i d))
setting-at items i d h = slice_get-map setting_of items i ∙ ap (option_map setting_of) (get-at items i d h) where
  get-at : (xs : List Item) (j : ℕ) (e : Item) → j < length xs → slice_get xs j ≡ Some (get_or xs j e)
  get-at [] j e within = absurd (omega arith)
  get-at (x ∷ xs) zero e within = refl
  get-at (x ∷ xs) (suc j) e within = get-at xs j e (omega arith)

pub length-settings : (items : List Item) → length (settings_of items) ≡ length items
length-settings items = length-map items setting_of

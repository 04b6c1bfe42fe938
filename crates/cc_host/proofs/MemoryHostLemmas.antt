-- The files of a host in memory, by name, before and after one of them is set.
use Rattle.std.proofs.Common.{◌≡◌, ◌≢◌, ℕ, String, Vec, List, [], ◌∷◌, Option, Some, Bool, true, false, cond, map, refl, sym, ap, ◌∙◌}
use Rattle.std.specs.Map.{lookup}
use Rattle.std.specs.Option.{option_map}
use Rattle.std.specs.Ordering.{nat_cmp, is_eq}
use Rattle.std.specs.Cmp.Lexicographic.{slice_cmp}
use Rattle.std.specs.Str.{bytes_eq}
use Rattle.std.specs.String.{string_bytes, string_cmp}
use Rattle.std.specs.BTreeMap.{BTreeMap, is_at, get_by_text, Updates}
use Rattle.std.proofs.lemmas.Map.Text.{is_eq-slice_cmp, btree_map_updates_text}
use Rattle.std.proofs.lemmas.Slice.Eq.{bytes_eq-Decides}
use Rattle.std.proofs.lemmas.Bool.{false_from_ne_true}
use Rattle.std.specs.declared.alloc.Global.{Global}
use Rattle.cc_host.specs.MemoryHost.{files_of}

cond-option_map : {X Y : Type 0} (f : X → Y) (b : Bool) (x : X) (o : Option X) → cond b (Some (f x)) (option_map f o) ≡ option_map f (cond b (Some x) o)
cond-option_map f true x o = refl
cond-option_map f false x o = refl

lookup-files : (entries : List (String Global × Vec ℕ Global)) (name : List ℕ)
    → lookup (bytes_eq name) (map (λ file. (string_bytes file.0, file.1.items)) entries) ≡ option_map (λ bytes. bytes.items) (lookup (is_at (λ k. slice_cmp nat_cmp name (string_bytes k))) entries)
lookup-files [] name = refl
lookup-files (e ∷ es) name =
    rw (lookup-files es name, ← is_eq-slice_cmp name (string_bytes e.0)) (cond-option_map (λ bytes. bytes.items) (is_eq (slice_cmp nat_cmp name (string_bytes e.0))) e.1 _)

-- a file is the map's value at its name
pub file_is : (files : BTreeMap (String Global) (Vec ℕ Global)) (name : List ℕ)
    → lookup (bytes_eq name) (files_of files) ≡ option_map (λ bytes. bytes.items) (get_by_text files name)
file_is files name = lookup-files files.entries name

module _ (old new : BTreeMap (String Global) (Vec ℕ Global)) (key : String Global) (value : Vec ℕ Global) (updates : Updates string_cmp old new key (Some value)) where
  found : (name : List ℕ) (b : Bool) → bytes_eq (string_bytes key) name ≡ b → lookup (bytes_eq name) (files_of new) ≡ option_map (λ bytes. bytes.items) (cond b (Some value) (get_by_text old name))
  found name b is =
      file_is new name ∙ ap (option_map (λ bytes. bytes.items))
      (btree_map_updates_text (string_bytes key) old new (Some value) updates name ∙ ap (λ test. cond test (Some value) (get_by_text old name)) is)

  -- the file that was set holds the value
  pub lookup-set_same : (name : List ℕ) → string_bytes key ≡ name → lookup (bytes_eq name) (files_of new) ≡ Some value.items
  lookup-set_same name is = found name true ((bytes_eq-Decides (string_bytes key) name).1 is)

  -- and each other file what it held
  pub lookup-set_other : (name other : List ℕ) → string_bytes key ≡ name → other ≢ name → lookup (bytes_eq other) (files_of new) ≡ lookup (bytes_eq other) (files_of old)
  lookup-set_other name other is ne =
      found other false (false_from_ne_true _ (λ same. ne (sym ((bytes_eq-Decides (string_bytes key) other).0 same) ∙ is)))
      ∙ sym (file_is old other)

-- A flat path and its global are annotated alike; and in a flattened program no path is flat.
use Rattle.std.proofs.Common.{◌≡◌, refl, ℕ, zero, suc, ◌+◌, Bool, true, false, List, [], ◌∷◌, Option, Some, None, subst, sym, ap, ◌∙◌, arith}
use Rattle.std.specs.Prelude.{slice_get}
use Rattle.cc_ast.specs.Syntax.{Program}
use Rattle.cc_ast.specs.declared.tables.FlatPath.{FlatPath}
use Rattle.cc_ast.specs.declared.tables.GlobalInfo.{GlobalInfo}
use Rattle.cc_meaning.specs.State.{Path, Tables}
use Rattle.cc_meaning.specs.Monad.{pick}
use Rattle.cc_meaning.specs.Store.{same_numbers, flat_place, flats_in, paired, flat_of}
use Rattle.cc_meaning.specs.Typed.{global, flat, variable_type, variable_doc, is_settled, is_param, global_doc, path_doc, doc_at, value_in, settled_in}
use Rattle.cc_meaning.specs.Shapes.{tables_of}
use Rattle.cc_meaning.specs.Alike.{In, here, there}
use Rattle.cc_collapse.specs.Paths.{number_or, doc_at_place, doc_of_path, new_global}
use Rattle.cc_collapse.specs.Flattening.{new_number, flattened}
use Rattle.cc_collapse.proofs.NewGlobals.{new_stands}
use Rattle.cc_collapse.proofs.NoPaths.{leaves_no_paths}

-- ---- no path of a flattened program is flat

in_get : {A : Type 0} (xs : List A) (n : ℕ) (x : A) → slice_get xs n ≡ Some x → In x xs
in_get [] n x e = absurd (cc)
in_get (y ∷ xs) zero x e = let d : y ≡ x = cc in subst (λ z. In z (y ∷ xs)) d here
in_get (y ∷ xs) (suc n) x e = there (in_get xs n x e)

none_flat : (gs : List GlobalInfo) → ((g : GlobalInfo) → In g gs → g.flat ≡ []) → (n : ℕ) (o : Option GlobalInfo) → slice_get gs n ≡ o → (ps : List ℕ) → flat_place 0 (flats_in o) ps ≡ None
unfolding flats_in flat_place
none_flat gs h n None e ps = refl
none_flat gs h n (Some g) e ps = ap (λ z. flat_place 0 z ps) (h g (in_get gs n g e))

pub no_flat : (P : Program) (w : Option Path) → flat_of (tables_of (flattened P)) w ≡ None
unfolding flat_of tables_of paired
no_flat P None = refl
no_flat P (Some w) = ap (λ z. paired w.0 z) (none_flat (flattened P).globals (leaves_no_paths P).none w.0 (slice_get (flattened P).globals w.0) refl w.1)

-- ---- the doc of a flat path

record Found (fs : List FlatPath) (k n : ℕ) : Type 0 where
  pub place : ℕ
  pub is : n ≡ k + place
  pub path : FlatPath
  pub stands : slice_get fs place ≡ Some path

found : (k : ℕ) (fs : List FlatPath) (ps : List ℕ) (n : ℕ) → flat_place k fs ps ≡ Some n → Found fs k n
unfolding flat_place
found k [] ps n e = absurd (cc)
found k (f ∷ fs) ps n e = by_first (same_numbers f.props ps) e (λ d. found (suc k) fs ps n d)
  where
    by_first : (b : Bool) → pick b (Some k) (flat_place (suc k) fs ps) ≡ Some n → (flat_place (suc k) fs ps ≡ Some n → Found fs (suc k) n) → Found (f ∷ fs) k n
    by_first true d h = let z : k ≡ n = cc in record { place = 0; is = omega arith; path = f; stands = refl }
    by_first false d h = let x = h d in let z = x.is in record { place = suc x.place; is = omega arith; path = x.path; stands = x.stands }

some_is : {A : Type 0} {x y : A} → Some x ≡ Some y → x ≡ y
some_is e = cc

pair_place : (g : ℕ) (o : Option ℕ) (n : ℕ) → paired g o ≡ Some (g, n) → o ≡ Some n
unfolding paired
pair_place g None n e = absurd (cc)
pair_place g (Some k) n e = ap Some (ap (λ z. z.1) (some_is e))

flat_found : (T : Tables) (w : Path) (n : ℕ) → flat_of T (Some w) ≡ Some (w.0, n) → Found (flats_in (slice_get T.globals w.0)) 0 n
unfolding flat_of
flat_found T w n e = found 0 (flats_in (slice_get T.globals w.0)) w.1 n (pair_place w.0 _ n e)

some_doc : (fs : List FlatPath) (n : ℕ) → Found fs 0 n → Some (number_or 0 (path_doc (slice_get fs n))) ≡ path_doc (slice_get fs n)
unfolding number_or path_doc
some_doc fs n h = let z = h.is in let d : n ≡ h.place = omega arith in rw (d, h.stands) refl

module _ (P : Program) (g p : ℕ) (ps : List ℕ) (k n : ℕ) (number : new_number P (Some (g, p ∷ ps)) ≡ Some k) (is_flat : flat_of (tables_of P) (Some (g, p ∷ ps)) ≡ Some (g, n)) where
  abbrev fs : List FlatPath
  fs = flats_in (slice_get P.globals g)

  doc_is : Some (doc_of_path P (g, p ∷ ps)) ≡ path_doc (slice_get fs n)
  unfolding doc_of_path doc_at_place tables_of
  doc_is = ap (λ z. Some (doc_at_place P.globals z)) is_flat ∙ some_doc fs n (flat_found (tables_of P) (g, p ∷ ps) n is_flat)

  doc_new : variable_doc (tables_of P) (flat g n) ≡ variable_doc (tables_of (flattened P)) (global k)
  unfolding variable_doc tables_of global_doc doc_at flattened new_global
  doc_new = ap (λ z. doc_at (tables_of P) z) (sym doc_is) ∙ sym (ap (λ z. doc_at (tables_of P) (global_doc z)) (new_stands P g p ps k number))

  pub type_new : variable_type (tables_of P) (flat g n) ≡ variable_type (tables_of (flattened P)) (global k)
  unfolding variable_type is_param
  type_new = ap (λ z. value_in z) doc_new

  pub settled_new : is_settled (tables_of P) (flat g n) ≡ is_settled (tables_of (flattened P)) (global k)
  unfolding is_settled is_param
  settled_new = ap (λ z. settled_in z) doc_new

-- Which globals are built in, one by one.
use Rattle.std.proofs.Common.{◌≡◌, refl, sym, ap, ◌∙◌, ℕ, suc, ◌+◌, ◌-◌, ◌<◌, Bool, true, false, List, [], ◌∷◌, ◌++◌, length, get_or, map, Option, Some, None, cond, arith}
use Rattle.std.specs.List.{range_with_len}
use Rattle.std.specs.Prelude.{count_by, is_none, is_some, slice_get, nat_le, nat_lt, ◌&&◌}
use Rattle.std.proofs.lemmas.Bool.{ltb-true, ltb-false, le-leb, lt-leb}
use Rattle.std.proofs.lemmas.List.FromFn.{map-range_with_len_more}
use Rattle.std.proofs.lemmas.List.Recursion.{is_count_by}
use Rattle.std.proofs.lemmas.Option.{slice_get-get_or}
use Rattle.cc_ast.specs.Syntax.{Program}
use Rattle.cc_ast.specs.declared.tables.GlobalInfo.{GlobalInfo}
use Rattle.cc_meaning.specs.Monad.{pick}
use Rattle.cc_meaning.specs.Shapes.{tables_of}
use Rattle.cc_meaning.specs.Store.{without_chunk, extern, built_in, global_by, outer_global, built_number, chunk_in, global_kind}
use Rattle.cc_tied.specs.Tied.{built_at, built_of}
use Rattle.cc_fold.specs.Built.{global_built_in}

pub without_is : (gs : List GlobalInfo) → without_chunk gs ≡ count_by (λ g. is_none g.chunk) gs
unfolding without_chunk
without_is gs = is_count_by without_chunk (λ g. is_none g.chunk) refl (λ g gs. more g.chunk (without_chunk gs)) gs
  where
    more : (o : Option ℕ) (n : ℕ) → pick (is_some o) n (suc n) ≡ cond (is_none o) (1 + n) n
    more None n = omega arith
    more (Some c) n = refl

outer_built : (e n : ℕ) (b : Bool) → nat_lt n e ≡ b → is_some (built_at (pick b extern (built_in (built_number (n - e))))) ≡ nat_le e n
unfolding built_at
outer_built e n true h = rw (lt-leb e n (ltb-true n e h)) refl
outer_built e n false h = rw (le-leb e n (ltb-false n e h)) refl

built_by : (e n : ℕ) (o : Option ℕ) → is_some (built_at (global_by e n o)) ≡ is_none o && nat_le e n
unfolding built_at global_by outer_global
built_by e n (Some c) = refl
built_by e n None = outer_built e n (nat_lt n e) refl

-- a global of the program is built in where no chunk declares it and no extern
pub built_is : (P : Program) (n : ℕ) (g : GlobalInfo) → slice_get P.globals n ≡ Some g → global_built_in P n ≡ is_none g.chunk && nat_le (without_chunk P.globals - 3) n
unfolding global_built_in built_of tables_of global_kind chunk_in
built_is P n g h = rw h (built_by (without_chunk P.globals - 3) n g.chunk)

-- one global more
pub built_more : (P : Program) (gs : List GlobalInfo) (k e n : ℕ) (g : GlobalInfo) (b : Bool) (bs cs : List Bool) → gs ≡ P.globals → k ≡ count_by (λ h. is_none h.chunk) gs → e ≡ k - 3 → n < length gs → g ≡ get_or gs n g → b ≡ is_none g.chunk && nat_le e n → bs ≡ map (global_built_in P) (range_with_len 0 n) → cs ≡ bs ++ b ∷ [] → cs ≡ map (global_built_in P) (range_with_len 0 (n + 1))
built_more P gs k e n g b bs cs p q r l i d h j =
    let same : slice_get P.globals n ≡ Some g = ap (λ z. slice_get z n) (sym p) ∙ slice_get-get_or gs n g l ∙ ap Some (sym i) in
    let count : without_chunk P.globals ≡ k = without_is P.globals ∙ ap (count_by (λ h. is_none h.chunk)) (sym p) ∙ sym q in
    let here : global_built_in P n ≡ b = built_is P n g same ∙ ap (λ z. is_none g.chunk && nat_le (z - 3) n) count ∙ ap (λ z. is_none g.chunk && nat_le z n) (sym r) ∙ sym d in
    j ∙ ap (λ z. z ++ b ∷ []) h ∙ ap (λ z. map (global_built_in P) (range_with_len 0 n) ++ z ∷ []) (sym here) ∙ sym (map-range_with_len_more (global_built_in P) 0 n n (omega arith))

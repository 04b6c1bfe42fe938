-- The kind of a global depends on the chunks of the globals alone.
use Rattle.std.proofs.Common.{◌≡◌, ℕ, zero, suc, ◌-◌, List, [], ◌∷◌, ◌++◌, map, refl, sym, ap, ap₂, ◌∙◌, Option, Some, None, slice_get, is_some}
use Rattle.cc_ast.specs.declared.tables.GlobalInfo.{GlobalInfo}
use Rattle.cc_meaning.specs.State.{Tables}
use Rattle.cc_meaning.specs.Monad.{pick}
use Rattle.cc_meaning.specs.Store.{global_kind, global_by, without_chunk, chunk_in}
use Rattle.cc_driver.specs.Source.{global_of_no_chunk, global_of_main}

-- the chunk of each global, in their order
abbrev pub chunks_of : List GlobalInfo → List (Option ℕ)
chunks_of gs = map (λ g. g.chunk) gs

without_same : (gs hs : List GlobalInfo) → chunks_of gs ≡ chunks_of hs → without_chunk gs ≡ without_chunk hs
unfolding without_chunk
without_same [] [] e = refl
without_same [] (h ∷ hs) e = absurd (cc)
without_same (g ∷ gs) [] e = absurd (cc)
without_same (g ∷ gs) (h ∷ hs) e =
    let first : g.chunk ≡ h.chunk = cc in
    let rest : chunks_of gs ≡ chunks_of hs = cc in
    ap₂ (λ c k. pick (is_some c) k (suc k)) first (without_same gs hs rest)

chunk_same : (gs hs : List GlobalInfo) → chunks_of gs ≡ chunks_of hs → (k : ℕ) → chunk_in (slice_get gs k) ≡ chunk_in (slice_get hs k)
unfolding chunk_in
chunk_same [] [] e k = refl
chunk_same [] (h ∷ hs) e k = absurd (cc)
chunk_same (g ∷ gs) [] e k = absurd (cc)
chunk_same (g ∷ gs) (h ∷ hs) e zero = cc
chunk_same (g ∷ gs) (h ∷ hs) e (suc k) =
    let rest : chunks_of gs ≡ chunks_of hs = cc in
    chunk_same gs hs rest k

pub same_kind : (S T : Tables) → chunks_of S.globals ≡ chunks_of T.globals → (k : ℕ) → global_kind S k ≡ global_kind T k
unfolding global_kind
same_kind S T e k = ap₂ (λ n c. global_by (n - 3) k c) (without_same S.globals T.globals e) (chunk_same S.globals T.globals e k)

inner_chunks : (f : List ℕ → List ℕ) (ys : List (List ℕ)) → chunks_of (map global_of_main (map f ys)) ≡ chunks_of (map global_of_main ys)
inner_chunks f [] = refl
inner_chunks f (y ∷ ys) = ap (λ t. Some 0 ∷ t) (inner_chunks f ys)

-- new names of the chunks' globals leave the chunks as they are
pub chunks_again : (f : List ℕ → List ℕ) (xs ys zs : List (List ℕ)) → zs ≡ map f ys
    → chunks_of (map global_of_no_chunk xs ++ map global_of_main ys) ≡ chunks_of (map global_of_no_chunk xs ++ map global_of_main zs)
chunks_again f [] ys zs e = sym (ap (λ t. chunks_of (map global_of_main t)) e ∙ inner_chunks f ys)
chunks_again f (x ∷ xs) ys zs e = ap (λ t. None ∷ t) (chunks_again f xs ys zs e)

-- The plan knows of every reference whether it is built in.
use Rattle.std.proofs.Common.{◌≡◌, refl, sym, ap, ◌∙◌, ℕ, ◌-◌, ◌<◌, ◌≤◌, Bool, true, false, length, map, Option, Some, None, unwrap_or, arith}
use Rattle.std.specs.Prelude.{slice_get, is_some, is_none, nat_lt}
use Rattle.std.specs.List.{range_with_len}
use Rattle.std.proofs.lemmas.Bool.{ltb-true, ltb-false}
use Rattle.std.proofs.lemmas.List.FromFn.{get_or-map-range_with_len, length-map-range_with_len}
use Rattle.std.proofs.lemmas.List.Sums.{count_by-le-length}
use Rattle.std.proofs.lemmas.Option.{slice_get_past, slice_get-get_or}
use Rattle.cc_ast.specs.Syntax.{Program}
use Rattle.cc_ast.specs.declared.tables.GlobalInfo.{GlobalInfo}
use Rattle.cc_ast.specs.declared.tree.Ref.{Ref}
use Rattle.cc_meaning.specs.Monad.{pick}
use Rattle.cc_meaning.specs.Shapes.{tables_of}
use Rattle.cc_meaning.specs.Store.{Built, without_chunk, extern, built_in, built_number, outer_global, global_by, chunk_in, global_kind}
use Rattle.cc_tied.specs.Tied.{built_at, built_of}
use Rattle.cc_fold.specs.Built as Plan
use Rattle.cc_fold.proofs.Globals.{without_is}

outer_past : (e n : ℕ) (b : Bool) → nat_lt n e ≡ b → e ≤ n → is_some (built_at (pick b extern (built_in (built_number (n - e))))) ≡ true
unfolding built_at
outer_past e n true h l = let k = ltb-true n e h in absurd (omega arith)
outer_past e n false h l = refl

-- a global that the program doesn't have
past_built : (P : Program) (n : ℕ) → length P.globals ≤ n → Plan.global_built_in P n ≡ true
unfolding Plan.global_built_in built_of tables_of global_kind global_by outer_global chunk_in
past_built P n h =
    let e : without_chunk P.globals ≤ length P.globals = omega (arith, without_is P.globals, count_by-le-length (λ (g : GlobalInfo). is_none g.chunk) P.globals) in
    ap (λ z. is_some (built_at (global_by (without_chunk P.globals - 3) n (chunk_in z)))) (slice_get_past P.globals n h)
    ∙ outer_past (without_chunk P.globals - 3) n (nat_lt n (without_chunk P.globals - 3)) refl (omega (arith, e))

global_at : (P : Program) (n : ℕ) (b : Bool) → nat_lt n (length P.globals) ≡ b → unwrap_or (slice_get (Plan.built_globals P) n) true ≡ Plan.global_built_in P n
unfolding Plan.built_globals
global_at P n true h =
    let l : n < length P.globals = ltb-true n (length P.globals) h in
    let xs = map (Plan.global_built_in P) (range_with_len 0 (length P.globals)) in
    ap (λ z. unwrap_or z true) (slice_get-get_or xs n true (omega (arith, length-map-range_with_len (Plan.global_built_in P) 0 (length P.globals))))
    ∙ get_or-map-range_with_len (Plan.global_built_in P) 0 (length P.globals) n n true l (omega arith)
global_at P n false h =
    let l : length P.globals ≤ n = ltb-false n (length P.globals) h in
    let xs = map (Plan.global_built_in P) (range_with_len 0 (length P.globals)) in
    ap (λ z. unwrap_or z true) (slice_get_past xs n (omega (arith, length-map-range_with_len (Plan.global_built_in P) 0 (length P.globals)))) ∙ sym (past_built P n l)

pub plan_is : (P : Program) (r : Ref) → Plan.built_in (Plan.built_globals P) r ≡ is_some (built_of (tables_of P) r)
unfolding Plan.built_in Plan.global_built_in built_of
plan_is P (Ref.Frame up n) = refl
plan_is P (Ref.Global n) = global_at P n (nat_lt n (length P.globals)) refl

none_of : (o : Option Built) → is_some o ≡ false → o ≡ None
none_of None h = refl
none_of (Some b) h = absurd (cc)

-- what the plan doesn't count as built in isn't
pub plan_lacks : (P : Program) (r : Ref) → Plan.built_in (Plan.built_globals P) r ≡ false → built_of (tables_of P) r ≡ None
plan_lacks P r h = none_of (built_of (tables_of P) r) (sym (plan_is P r) ∙ h)

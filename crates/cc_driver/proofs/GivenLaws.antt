-- Laws of lists of names that are filled, and that they are a naming.
use Rattle.std.proofs.Common.{◌≡◌, ◌≢◌, ℕ, zero, suc, ◌+◌, ◌<◌, ◌≤◌, Bool, List, [], ◌∷◌, ◌++◌, length, map, set, get_or, length-append, refl, sym, ap, ◌∙◌, subst, inl, inr, arith, Some, slice_get, option_map, All, IsPermutation, length-set}
use Rattle.std.proofs.lemmas.List.{length-map, get_or_append_left}
use Rattle.std.proofs.lemmas.Option.{slice_get-map, slice_get-get_or}
use Rattle.cc_ast.specs.declared.tables.GlobalInfo.{GlobalInfo}
use Rattle.cc_ast.specs.Syntax as S
use Rattle.cc_driver.specs.declared.naming.given.Given.{Given}
use Rattle.cc_driver.specs.declared.naming.rank.Rank.{Rank}
use Rattle.cc_driver.specs.declared.spelling.Piece.{Piece}
use Rattle.cc_driver.specs.Naming.{Fresh, IsRanked, IsNaming, KeepsName, own_globals, other_names, is_passed}
use Rattle.cc_driver.specs.Names.{is_in, reserved_words, strict_words, special_names}
use Rattle.cc_driver.specs.NamingSteps.{global_of, kept_of, kept_name, given_to, given_name, assigned}
use Rattle.cc_driver.proofs.RankLaws.{times, times-permutation, times_here, times_apart, own_within, times_own_once, times_own_of, once_if}
use Rattle.cc_driver.proofs.NumberLaws.{SameOrNot, same_or_not}
use Rattle.cc_driver.proofs.FreshLaws.{fresh_alike}

set_same : {X : Type 0} (xs : List X) (i : ℕ) (x : X) → i < length xs → slice_get (set xs i x) i ≡ Some x
set_same [] i x l = absurd (omega arith)
set_same (y ∷ xs) zero x l = refl
set_same (y ∷ xs) (suc i) x l = set_same xs i x (omega arith)

set_other : {X : Type 0} (xs : List X) (i j : ℕ) (x : X) → i ≢ j → slice_get (set xs i x) j ≡ slice_get xs j
set_other [] i j x n = refl
set_other (y ∷ xs) zero zero x n = absurd (n refl)
set_other (y ∷ xs) zero (suc j) x n = refl
set_other (y ∷ xs) (suc i) zero x n = refl
set_other (y ∷ xs) (suc i) (suc j) x n = set_other xs i j x (λ e. n (ap suc e))

pub length-assigned : (gs : List Given) (ns : List (List ℕ)) → length (assigned gs ns) ≡ length ns
length-assigned [] ns = refl
length-assigned (g ∷ gs) ns = length-set (assigned gs ns) g.global g.name ∙ length-assigned gs ns

pub assigned-push : (gs : List Given) (g : Given) (ns : List (List ℕ)) → assigned (gs ++ g ∷ []) ns ≡ assigned gs (set ns g.global g.name)
assigned-push [] g ns = refl
assigned-push (x ∷ gs) g ns = ap (λ l. set l x.global x.name) (assigned-push gs g ns)

assigned_other : (gs : List Given) (ns : List (List ℕ)) (g : ℕ) → times g (map given_to gs) ≡ 0 → slice_get (assigned gs ns) g ≡ slice_get ns g
assigned_other [] ns g e = refl
assigned_other (x ∷ gs) ns g e = by (same_or_not g x.global) (assigned_other gs ns g)
  where
    by : SameOrNot g x.global → (times g (map given_to gs) ≡ 0 → slice_get (assigned gs ns) g ≡ slice_get ns g) → slice_get (assigned (x ∷ gs) ns) g ≡ slice_get ns g
    by (inl s) rest = absurd (omega (arith, e, ap (λ z. times z (map given_to (x ∷ gs))) s, times_here x.global (map given_to gs)))
    by (inr n) rest = set_other (assigned gs ns) x.global g x.name (λ s. n (sym s)) ∙ rest (omega (arith, e, times_apart g x.global (map given_to gs) n))

times_at : (xs : List ℕ) (k g : ℕ) → slice_get xs k ≡ Some g → 1 ≤ times g xs
times_at [] k g e = absurd (cc)
times_at (x ∷ xs) zero g e =
    let same : x ≡ g = cc in
    omega (arith, times_here x xs, ap (λ z. times z (x ∷ xs)) same)
times_at (x ∷ xs) (suc k) g e = omega (arith, times_at xs k g e)

assigned_at : (gs : List Given) (ns : List (List ℕ)) → ((h : ℕ) → times h (map given_to gs) ≤ 1) → ((h : ℕ) → 1 ≤ times h (map given_to gs) → h < length ns)
    → (k g : ℕ) → slice_get (map given_to gs) k ≡ Some g → slice_get (assigned gs ns) g ≡ slice_get (map given_name gs) k
assigned_at [] ns one within k g e = absurd (cc)
assigned_at (x ∷ gs) ns one within zero g e =
    let same : x.global ≡ g = cc in
    let inside : x.global < length ns = within x.global (omega (arith, times_here x.global (map given_to gs))) in
    ap (slice_get (assigned (x ∷ gs) ns)) (sym same) ∙ set_same (assigned gs ns) x.global x.name (omega (arith, inside, length-assigned gs ns))
assigned_at (x ∷ gs) ns one within (suc k) g e =
    let there = times_at (map given_to gs) k g e in
    let apart : x.global ≢ g = λ s. absurd (omega (arith, there, one g, ap (λ z. times z (map given_to (x ∷ gs))) s, ap (λ z. times z (map given_to gs)) s, times_here x.global (map given_to gs))) in
    set_other (assigned gs ns) x.global g x.name apart
    ∙ assigned_at gs ns (λ h. omega (arith, one h)) (λ h l. within h (omega (arith, l))) k g e

-- a turn of the loop that takes given names off the end
pub assign_turn : (old new : List Given) (last : Given) (names after start : List (List ℕ)) → old ≡ new ++ last ∷ [] → after ≡ set names last.global last.name
    → assigned old names ≡ start → All (λ g. g.global < length names) old → (assigned new after ≡ start) × All (λ g. g.global < length after) new
assign_turn old new last names after start e f inv within = (
  ap (assigned new) f ∙ sym (assigned-push new last names) ∙ ap (λ gs. assigned gs names) (sym e) ∙ inv,
  λ k d l.
      let longer : length old ≡ length new + 1 = ap length e ∙ length-append new (last ∷ []) in
      let here : get_or old k d ≡ get_or new k d = ap (λ gs. get_or gs k d) e ∙ get_or_append_left new (last ∷ []) d k l in
      let inside : (get_or new k d).global < length names = subst (λ (g : Given). g.global < length names) here (within k d (omega (arith, longer))) in
      omega (arith, inside, ap length f, length-set names last.global last.name),
)

-- the names that are kept, with each given one in its place, are a naming
pub naming_made : (program : S.Program) (pieces : List Piece) (passed : List ℕ → Bool) (ranks : List Rank) (given : List Given)
    → IsPermutation (own_globals 0 program.globals) (map global_of ranks) → IsRanked pieces (map global_of ranks)
    → ((name : List ℕ) → passed name ≡ is_passed program name)
    → map given_to given ≡ map global_of ranks → Fresh passed 0 (map given_name given)
    → IsNaming program pieces (assigned given (map kept_name program.globals))
naming_made program pieces passed ranks given all ranked same order fresh = record {
  ranking = map given_to given;
  fresh = map given_name given;
  complete = length-assigned given (map kept_name program.globals) ∙ length-map program.globals kept_name;
  all_ranked = subst (IsPermutation (own_globals 0 program.globals)) (sym order) all;
  ranked = subst (IsRanked pieces) (sym order) ranked;
  in_order = fresh_alike passed (is_passed program) same 0 (map given_name given) fresh;
  one_each = length-map given given_name ∙ sym (length-map given given_to);
  given = assigned_at given (map kept_name program.globals) once inside;
  others_keep = keeps;
}
  where
    counted : (g : ℕ) → times g (map given_to given) ≡ times g (own_globals 0 program.globals)
    counted g = ap (times g) order ∙ times-permutation g (own_globals 0 program.globals) (map global_of ranks) all

    once : (g : ℕ) → times g (map given_to given) ≤ 1
    once g = omega (arith, counted g, times_own_once g 0 program.globals)

    inside : (g : ℕ) → 1 ≤ times g (map given_to given) → g < length (map kept_name program.globals)
    inside g l = omega (arith, length-map program.globals kept_name, own_within g program.globals (omega (arith, counted g)))

    keeps : (k : ℕ) (g : GlobalInfo) → slice_get program.globals k ≡ Some g → KeepsName (assigned given (map kept_name program.globals)) k g
    keeps k g at none =
        let out : times k (map given_to given) ≡ 0 = counted k ∙ times_own_of program.globals k g at ∙ ap once_if none in
        assigned_other given (map kept_name program.globals) k out ∙ slice_get-map kept_name program.globals k ∙ ap (option_map kept_name) at ∙ ap (λ o. Some (kept_of o g.name)) none

-- each name is given to a global of the table
pub given_within : (globals : List GlobalInfo) (ranks : List Rank) (given : List Given) (names : List (List ℕ))
    → IsPermutation (own_globals 0 globals) (map global_of ranks) → map given_to given ≡ map global_of ranks → names ≡ map kept_name globals
    → All (λ g. g.global < length names) given
given_within globals ranks given names all order kept k d l =
    let at : slice_get (map given_to given) k ≡ Some (get_or given k d).global = slice_get-map given_to given k ∙ ap (option_map given_to) (slice_get-get_or given k d l) in
    let there = times_at (map given_to given) k (get_or given k d).global at in
    let counted : times (get_or given k d).global (map given_to given) ≡ times (get_or given k d).global (own_globals 0 globals) =
    ap (times (get_or given k d).global) order ∙ times-permutation (get_or given k d).global (own_globals 0 globals) (map global_of ranks) all in
    omega (arith, ap length kept, length-map globals kept_name, own_within (get_or given k d).global globals (omega (arith, there, counted)))

-- what the steps of a naming made, put together
pub naming_done : (program : S.Program) (pieces printed : List Piece) (globals : List GlobalInfo) → globals ≡ program.globals → printed ≡ pieces
    → (passed : List ℕ → Bool) (ranks : List Rank) (given : List Given) (names after : List (List ℕ))
    → IsPermutation (own_globals 0 globals) (map global_of ranks) → IsRanked printed (map global_of ranks)
    → ((name : List ℕ) → passed name ≡ is_in name (reserved_words ++ strict_words ++ special_names ++ other_names globals))
    → map given_to given ≡ map global_of ranks → Fresh passed 0 (map given_name given)
    → names ≡ map kept_name globals → after ≡ assigned given names → IsNaming program pieces after
naming_done program pieces printed globals table print passed ranks given names after all ranked same order fresh kept put =
    let whole : after ≡ assigned given (map kept_name program.globals) = put ∙ ap (assigned given) (kept ∙ ap (map kept_name) table) in
    let made = naming_made program pieces passed ranks given
    (subst (λ gs. IsPermutation (own_globals 0 gs) (map global_of ranks)) table all) (subst (λ ps. IsRanked ps (map global_of ranks)) print ranked)
    (λ name. same name ∙ ap (λ gs. is_in name (reserved_words ++ strict_words ++ special_names ++ other_names gs)) table) order fresh in
    subst (IsNaming program pieces) (sym whole) made

-- What rounds of folding keep.
use Rattle.std.specs.Prelude.{◌≡◌, ℕ, zero, suc, Bool, true, false, cond, List, [], ◌∷◌, map, Option, Some}
use Rattle.std.proofs.Common.{refl, sym, ap, ◌∙◌, subst}
use Rattle.cc_ast.specs.Syntax.{Scope, Program}
use Rattle.cc_ast.specs.declared.tree.Ref.{Ref}
use Rattle.cc_meaning.specs.Same.{Same}
use Rattle.cc_meaning.specs.WellMade.{WellMade}
use Rattle.cc_meaning.proofs.SameLaws.{reflexive, transitive}
use Rattle.cc_tied.specs.Promises.{HasNoPaths}
use Rattle.cc_tied.specs.Mixed.{MixedScopes, no_scopes, as_it_was, with_other, IsMixed}
use Rattle.cc_core.specs.Work.{Lawful, VisitsAll, with_scopes, mixed, part, phase}
use Rattle.cc_fold.specs.Built.{built_globals, built_in}
use Rattle.cc_fold.specs.Fold.{fold_scope}
use Rattle.cc_fold.specs.Law.{folded_by}
use Rattle.cc_fold.proofs.FoldingKeeps.{folding_keeps}
use Rattle.cc_fold.proofs.WellMade.KeepsWellMade.{folding_keeps_well_made}
use Rattle.cc_passes.specs.Phases.{folded, rounds, folding}

-- ---- some scopes folded

abbrev Some_folded : (Ref → Bool) → ℕ → Scope → Option Scope
Some_folded built k x = Some (fold_scope built x)

module _ (P : Program) where
  abbrev built : Ref → Bool
  built = built_in (built_globals P)

  one_scope : (b : Bool) (k : ℕ) (x : Scope) {xs ys : List Scope} → MixedScopes (folded_by P) (suc k) xs ys → MixedScopes (folded_by P) k (x ∷ xs) (cond b (fold_scope built x) x ∷ ys)
  unfolding fold_scope
  one_scope true k x h = with_other refl h
  one_scope false k x h = as_it_was h

  some_scopes : (mix : ℕ → Bool) (k : ℕ) (xs : List Scope) → MixedScopes (folded_by P) k xs (mixed (Some_folded built) mix xs)
  some_scopes mix k [] = no_scopes
  some_scopes mix k (x ∷ xs) = one_scope (mix 0) k x (some_scopes (λ n. mix (suc n)) (suc k) xs)

  pub some_folded : (step : ℕ) (mix : ℕ → Bool) → IsMixed (folded_by P) P (part folding step P mix)
  some_folded step mix = record { scopes = some_scopes mix 0 P.scopes; others = refl }

  all_scopes : (xs : List Scope) → mixed (Some_folded built) (λ _. true) xs ≡ map (fold_scope built) xs
  all_scopes [] = refl
  all_scopes (x ∷ xs) = ap (λ zs. fold_scope built x ∷ zs) (all_scopes xs)

  pub phase_folds : (step : ℕ) → phase folding step P ≡ folded P
  unfolding phase
  phase_folds step = ap (with_scopes P) (all_scopes P.scopes)

  pub all_folded : IsMixed (folded_by P) P (folded P)
  all_folded = subst (λ (z : Program). IsMixed (folded_by P) P z) (ap (with_scopes P) (all_scopes P.scopes)) (some_folded 0 (λ _. true))

-- ---- rounds

pub one_more : (n : ℕ) (P : Program) → rounds (suc n) P ≡ folded (rounds n P)
one_more zero P = refl
one_more (suc n) P = one_more n (folded P)

pub settled : (n : ℕ) (P : Program) → folded P ≡ P → rounds n P ≡ P
settled zero P e = refl
settled (suc n) P e = ap (rounds n) e ∙ settled n P e

pub rounds_keep : (n : ℕ) (P : Program) → WellMade P → HasNoPaths P → Same P (rounds n P) × WellMade (rounds n P) × HasNoPaths (rounds n P)
rounds_keep zero P w h = (reflexive P, w, h)
rounds_keep (suc n) P w h =
    let k = folding_keeps_well_made P (folded P) w h (all_folded P) in
    let r = rounds_keep n (folded P) k.0 k.1 in
    (transitive P (folded P) (rounds n (folded P)) (folding_keeps P (folded P) w h (all_folded P)) r.0, r.1, r.2)

pub folding_lawful : Lawful folding
folding_lawful = record {
  defined = λ step base fits slot x at. refl;
  each = λ step base fits local mix. folding_keeps base (part folding step base mix) fits.0 fits.1 (some_folded base step mix);
  well = λ step base fits local w mix. (folding_keeps_well_made base (part folding step base mix) fits.0 fits.1 (some_folded base step mix)).0;
  whole = λ step base fits local. let no : true ≡ false = local in absurd (cc);
  goes_on = λ step base fits. subst (λ (z : Program). WellMade z × HasNoPaths z) (sym (phase_folds base step)) (folding_keeps_well_made base (folded base) fits.0 fits.1 (all_folded base));
  skips = λ source fits n slot x at clean. let no : true ≡ false = clean in absurd (cc);
}

pub folding_visits_all : VisitsAll folding
folding_visits_all history step base slot = refl

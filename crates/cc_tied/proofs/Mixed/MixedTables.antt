-- What a program keeps of its tables where some of its scopes are rewritten.
use Rattle.std.proofs.Common.{◌≡◌, ◌⊎◌, inl, inr, ℕ, zero, suc, ◌+◌, List, [], ◌∷◌, map, refl, sym, ap, subst, arith, ◌∙◌}
use Rattle.std.specs.Prelude.{slice_get}
use Rattle.cc_ast.specs.Syntax.{Stmts, Scope, Program}
use Rattle.cc_ast.specs.declared.tables.ChunkInfo.{ChunkInfo}
use Rattle.cc_meaning.specs.Shapes.{head_of, body_in, body_of, sets_by_chunks, sets_by_stmts, tables_of}
use Rattle.cc_tied.specs.Mixed.{MixedScopes, no_scopes, as_it_was, with_other}
use Rattle.cc_tied.proofs.Mixed.KeptSets.{Within, within_both}
use Rattle.cc_tied.proofs.Injection.Ends.{SameButSet}

module _ (rewrite : (scope : ℕ) → Stmts → Stmts) where
  heads_kept : {k : ℕ} {ss ts : List Scope} → MixedScopes rewrite k ss ts → map head_of ts ≡ map head_of ss
  unfolding head_of
  heads_kept no_scopes = refl
  heads_kept (as_it_was {s = s} m) = ap (λ z. head_of s ∷ z) (heads_kept m)
  heads_kept (with_other {s = s} {ts = ts} e m) = ap (λ z. head_of z ∷ map head_of ts) e ∙ ap (λ z. head_of s ∷ z) (heads_kept m)

  -- the scope at f in a list whose first has number k
  abbrev Chosen : (k f : ℕ) → List Scope → List Scope → Type 0
  Chosen k f ss ts = (body_in (slice_get ts f) ≡ body_in (slice_get ss f)) ⊎ (body_in (slice_get ts f) ≡ rewrite (k + f) (body_in (slice_get ss f)))

  next_chosen : (k f : ℕ) (s t : Scope) (ss ts : List Scope) → Chosen (suc k) f ss ts → Chosen k (suc f) (s ∷ ss) (t ∷ ts)
  next_chosen k f s t ss ts (inl e) = inl e
  next_chosen k f s t ss ts (inr e) = let q : suc k + f ≡ k + suc f = omega arith in inr (subst (λ z. body_in (slice_get ts f) ≡ rewrite z (body_in (slice_get ss f))) q e)

  bodies_chosen : {k : ℕ} {ss ts : List Scope} → MixedScopes rewrite k ss ts → (f : ℕ) → Chosen k f ss ts
  unfolding body_in
  bodies_chosen no_scopes f = inl refl
  bodies_chosen (as_it_was m) zero = inl refl
  bodies_chosen {k = k} (with_other {s = s} e m) zero = let q : k ≡ k + 0 = omega arith in inr (ap (λ z. z.body) e ∙ ap (λ z. rewrite z s.body) q)
  bodies_chosen {k = k} (as_it_was {s = s} {ss = ss} {ts = ts} m) (suc f) = next_chosen k f s s ss ts (bodies_chosen m f)
  bodies_chosen {k = k} (with_other {s = s} {t = t} {ss = ss} {ts = ts} e m) (suc f) = next_chosen k f s t ss ts (bodies_chosen m f)

  -- where rewritten statements set no less
  module _ (more : (f : ℕ) (ss : Stmts) → Within (sets_by_stmts ss) (sets_by_stmts (rewrite f ss))) where
    sets_kept : (cs : List ChunkInfo) {k : ℕ} {ss ts : List Scope} → MixedScopes rewrite k ss ts → Within (sets_by_chunks cs ss) (sets_by_chunks cs ts)
    unfolding sets_by_chunks
    sets_kept [] m x j = elim j [ ]
    sets_kept (c ∷ cs) no_scopes x j = j
    sets_kept (c ∷ cs) (as_it_was {s = s} m) x j = within_both (sets_by_stmts s.body) (λ y i. i) (sets_kept cs m) x j
    sets_kept (c ∷ cs) {k = k} (with_other {s = s} {t = t} e m) x j = within_both (sets_by_stmts s.body) (subst (λ z. Within (sets_by_stmts s.body) (sets_by_stmts z)) (sym (ap (λ z. z.body) e)) (more k s.body)) (sets_kept cs m) x j

  module _ (P : Program) (ts : List Scope) (m : MixedScopes rewrite 0 P.scopes ts) where
    abbrev Q : Program
    Q = record P { scopes = ts }

    pub same_but_set : SameButSet P Q
    unfolding tables_of
    same_but_set = record { tables = ap (λ z. record (tables_of Q) { heads = z }) (heads_kept m) }

    pub sets_more : ((f : ℕ) (ss : Stmts) → Within (sets_by_stmts ss) (sets_by_stmts (rewrite f ss))) → Within (tables_of P).set (tables_of Q).set
    unfolding tables_of
    sets_more more = sets_kept more P.chunks m

    pub mixed_bodies : (f : ℕ) → (body_of Q f ≡ body_of P f) ⊎ (body_of Q f ≡ rewrite f (body_of P f))
    unfolding body_of
    mixed_bodies f = let q : 0 + f ≡ f = omega arith in subst (λ z. (body_in (slice_get ts f) ≡ body_in (slice_get P.scopes f)) ⊎ (body_in (slice_get ts f) ≡ rewrite z (body_in (slice_get P.scopes f)))) q (bodies_chosen m f)

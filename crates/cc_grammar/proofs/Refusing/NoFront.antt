-- Where reading stops at a symbol, but not at a limit, the symbols up to it are no front, of any height.
use Rattle.std.specs.Prelude.{◌≡◌, ℕ, suc, ◌≤◌, max, false, Ok, Err, List, [], ◌∷◌, ◌++◌, length}
use Rattle.std.proofs.Common.{refl, sym, ap, ◌∙◌, subst, arith, append_assoc, length-append}
use Rattle.cc_grammar.specs.Symbols.{Symbol, Symbols}
use Rattle.cc_grammar.specs.RawTree.{RawStmt}
use Rattle.cc_grammar.specs.Fronts.{Derives, IsFront}
use Rattle.cc_grammar.specs.Reading.{Outcome, Sized, Fault, read_symbols}
use Rattle.cc_grammar.proofs.Clashes.{clash}
use Rattle.cc_grammar.proofs.Shrinks.{reals}
use Rattle.cc_grammar.proofs.Completeness.Complete.{program_read}
use Rattle.cc_grammar.proofs.Alikeness.Alike.{Bounds, limits, turns_alone, is_spent, Deeper, bounded, equal, Suffix, Stands, is_limit, IsErr, is_err, Held, limit, beyond, Decides, stops, barred, passes, limited}
use Rattle.cc_grammar.proofs.Alikeness.AlikeStatements.{program_alike}

abbrev Read : Type 0
Read = Outcome Symbols (Sized (List RawStmt))

pub too_long : {t : Symbol} {xs : Symbols} → Suffix (t ∷ xs) xs → ⊥
too_long {t} {xs} s = omega (arith, ap length s.is, length-append s.before (t ∷ xs))

differ : {o : Read} {x : Sized (List RawStmt) × Symbols} {y : Fault × Symbols} → o ≡ Ok x → o ≡ Err y → ⊥
differ {o} {x} {y} e f = let both : ◌≡◌ {A = Read} (Ok x) (Err y) = sym e ∙ f in (cc)

no_err : {o : Read} {x : Sized (List RawStmt) × Symbols} → IsErr o → o ≡ Ok x → ⊥
no_err (is_err {x = y}) e = differ e refl

no_stand : {t : Symbol} {xs : Symbols} {f : Fault} {o : Read} → o ≡ Err (f, t ∷ xs) → Stands xs o → ⊥
no_stand {xs} e h = let P : Read → Type 0 = λ x. Stands xs x in too_long (subst P e h)

held_there : {bounds : Bounds} {t : Symbol} {xs : Symbols} {f : Fault} {o : Read} → bounds.is f.cause ≡ false → o ≡ Err (f, t ∷ xs) → Held bounds xs o → ⊥
held_there {bounds} {t} {xs} {f} l e (limit {x} h) =
    let errs : ◌≡◌ {A = Read} (Err x) (Err (f, t ∷ xs)) = e in
    let pairs : ◌≡◌ {A = Fault × Symbols} x (f, t ∷ xs) = cc in
    clash (sym h ∙ ap (λ (p : Fault × Symbols). bounds.is p.0.cause) pairs ∙ l)
held_there l e (beyond h) = no_stand e h

unread_by : (bounds : Bounds) (n d o e : ℕ) → d ≤ e → Deeper bounds d e → n ≤ o → (before : Symbols) (t : Symbol) (xs more : Symbols) (f : Fault) (x : Sized (List RawStmt) × Symbols) → bounds.is f.cause ≡ false
    → read_symbols n d (before ++ t ∷ xs) ≡ Err (f, t ∷ xs) → read_symbols o e (before ++ t ∷ more) ≡ Ok x → ⊥
unread_by bounds n d o e le deep lo before t xs more f x l q r = by ((program_alike d e n o le deep lo).decides before t) where
  by : Decides bounds (read_symbols n d) (read_symbols o e) before t → ⊥
  by (stops mid a u v) = differ (u xs) q
  by (barred v) = no_err (v more) r
  by (passes u) = no_stand q (u xs)
  by (limited u) = held_there l q (u xs)

-- With more depth and turns it isn't read either, whatever follows.
pub unread : (n d o e : ℕ) → d ≤ e → n ≤ o → (before : Symbols) (t : Symbol) (xs more : Symbols) (f : Fault) (x : Sized (List RawStmt) × Symbols) → is_limit f.cause ≡ false → read_symbols n d (before ++ t ∷ xs) ≡ Err (f, t ∷ xs)
    → read_symbols o e (before ++ t ∷ more) ≡ Ok x → ⊥
unread n d o e le lo = unread_by limits n d o e le (bounded refl) lo

-- With more turns alone it isn't read at the depth either.
pub unread_there : (n d o : ℕ) → n ≤ o → (before : Symbols) (t : Symbol) (xs more : Symbols) (f : Fault) (x : Sized (List RawStmt) × Symbols) → is_spent f.cause ≡ false → read_symbols n d (before ++ t ∷ xs) ≡ Err (f, t ∷ xs)
    → read_symbols o d (before ++ t ∷ more) ≡ Ok x → ⊥
unread_there n d o lo = unread_by turns_alone n d o d (omega arith) (equal refl) lo

pub no_front : (n d : ℕ) (before : Symbols) (t : Symbol) (xs : Symbols) (f : Fault) → is_limit f.cause ≡ false → read_symbols n d (before ++ t ∷ xs) ≡ Err (f, t ∷ xs) → ¬ (IsFront (before ++ t ∷ []))
no_front n d before t xs f l q front =
    let more = front.within.more in
    let h = front.height in
    let x : Derives h (before ++ t ∷ more) front.within.tree = subst (λ ys. Derives h ys front.within.tree) (append_assoc before (t ∷ []) more) front.within.derives in
    let o = max n (suc (reals (before ++ t ∷ more))) in
    let p = program_read o (max d h) h (omega arith) (omega arith) x in
    unread n d o (max d h) (omega arith) (omega arith) before t xs more f ((front.within.tree, p.height), []) l q p.is

-- Where a part is due behind a front, and a token that is refused there stands in its place: what reading does with the token.
use Rattle.std.specs.Prelude.{◌≡◌, ℕ, suc, ◌<◌, max, true, false, Ok, Err, Result, List, [], ◌∷◌, ◌++◌, length}
use Rattle.std.proofs.Common.{refl, sym, ap, ◌∙◌, subst, arith, append_assoc, length-append}
use Rattle.cc_ast.specs.declared.reading.Construct.{Construct}
use Rattle.cc_grammar.specs.Symbols.{Lexeme, Symbol, Symbols, real, lexemes_of}
use Rattle.cc_grammar.specs.Symbols as k
use Rattle.cc_grammar.specs.RawTree.{RawStmt}
use Rattle.cc_grammar.specs.Fronts.{Derives, IsFront, IsFrontWithin}
use Rattle.cc_grammar.specs.Faults.{any}
use Rattle.cc_grammar.specs.Reading.{Outcome, Sized, Fault, refused, read_symbols}
use Rattle.cc_grammar.proofs.Clashes.{clash}
use Rattle.cc_grammar.proofs.Shrinks.{reals}
use Rattle.cc_grammar.proofs.Completeness.Complete.{program_read}
use Rattle.cc_grammar.proofs.Alikeness.Alike.{Suffix, Stands, is_limit, is_spent, IsErr, is_err}
use Rattle.cc_grammar.proofs.Refusing.NoFront.{unread_there}
use Rattle.cc_grammar.proofs.Fails.{Fails, fine, stop, deleted, deep}
use Rattle.cc_grammar.proofs.Fronts.FrontsProgram.{FrontOf, program_fails}
use Rattle.cc_grammar.proofs.TokenFronts.{lexemes_append}
use Rattle.cc_grammar.proofs.Swapping.Swap.{Next, Change, Pair, IsPair, Fitting, Fits, IsLimit, held, IsRefused, is_refused, Falls, falls_there, Swaps, stops, barred, passes, limited, refuses, falls, swaps_at, part, token}
use Rattle.cc_grammar.proofs.Swapping.Swap as swap
use Rattle.cc_grammar.proofs.Swapping.SwapSites.{change}
use Rattle.cc_grammar.proofs.Swapping.SwapPrograms.{program_swap}

abbrev Read : Type 0
Read = Outcome Symbols (Sized (List RawStmt))

-- ---- answers

ok_err : {A B C : Type 0} {a : A} {b : B} → ◌≡◌ {A = Result A B} (Ok a) (Err b) → C
ok_err e = absurd (cc)

pub answers : {f g : Fault} {xs ys : Symbols} → ◌≡◌ {A = Read} (Err (f, xs)) (Err (g, ys)) → (f ≡ g) × (xs ≡ ys)
answers {f} {g} {xs} {ys} e = let pairs : ◌≡◌ {A = Fault × Symbols} (f, xs) (g, ys) = cc in (ap (λ (p : Fault × Symbols). p.0) pairs, ap (λ (p : Fault × Symbols). p.1) pairs)

pub limit_is : {x : Change} {o : Read} {f : Fault} {ys : Symbols} → IsLimit x o → o ≡ Err (f, ys) → is_limit f.cause ≡ true
limit_is (held e) q = ap (λ (z : Fault). is_limit z.cause) (sym (answers q).0) ∙ e

refused_is : {x : Change} {o : Read} {f : Fault} {ys : Symbols} → IsRefused x o → o ≡ Err (f, ys) → (f.cause ≡ refused x.construct) × (f.place ≡ x.place.place)
refused_is (is_refused e p) q = (ap (λ (z : Fault). z.cause) (sym (answers q).0) ∙ e, ap (λ (z : Fault). z.place) (sym (answers q).0) ∙ p)

falls_is : {x : Change} {xs : Symbols} {o : Read} {f : Fault} {ys : Symbols} → Falls x xs o → o ≡ Err (f, ys) → (is_limit f.cause ≡ false) × (ys ≡ token x ∷ xs)
falls_is (falls_there e) q = (ap (λ (z : Fault). is_limit z.cause) (sym (answers q).0) ∙ e, sym (answers q).1)

never_limit : {A : Type 0} {x : Change} {o : Read} {a : Sized (List RawStmt) × Symbols} → o ≡ Ok a → IsLimit x o → A
never_limit q (held e) = ok_err (sym q)

never_refused : {A : Type 0} {x : Change} {o : Read} {a : Sized (List RawStmt) × Symbols} → o ≡ Ok a → IsRefused x o → A
never_refused q (is_refused e p) = ok_err (sym q)

never_falls : {A : Type 0} {x : Change} {xs : Symbols} {o : Read} {a : Sized (List RawStmt) × Symbols} → o ≡ Ok a → Falls x xs o → A
never_falls q (falls_there e) = ok_err (sym q)

never_err : {A : Type 0} {o : Read} {a : Sized (List RawStmt) × Symbols} → o ≡ Ok a → IsErr o → A
never_err q is_err = ok_err (sym q)

-- ---- fronts that are completed

pub record Whole (d : ℕ) (q : Symbols) (y : Symbol) (zs : Symbols) : Type 0 where
  pub more : Symbols
  pub tree : List RawStmt
  pub derives : Derives d (q ++ y ∷ (zs ++ more)) tree

pub whole : {d : ℕ} (q : Symbols) (y : Symbol) (zs : Symbols) → IsFrontWithin d (q ++ y ∷ zs) → Whole d q y zs
whole {d} q y zs f = record { more = f.more; tree = f.tree; derives = subst (λ l. Derives d l f.tree) (append_assoc q (y ∷ zs) f.more) f.derives }

-- Reading a front within the depth, and no more, comes to no limit.
pub unlimited : (n d : ℕ) (xs : Symbols) {x : Change} → reals xs < n → IsFrontWithin d xs → IsLimit x (read_symbols n d xs) → ⊥
unlimited n d xs {x} lt front = by refl (program_fails n d xs lt) where
  by : {o : Read} → read_symbols n d xs ≡ o → Fails (suc d) (FrontOf xs) o → IsLimit x o → ⊥
  by e fine h = never_limit refl h
  by e (stop l p j le w f) h = clash (sym (limit_is h refl) ∙ l)
  by e (deleted r o m j le p g u w) h = clash (sym (limit_is h refl) ∙ ap (λ (z : Fault). is_limit z.cause) r)
  by e (deep {c} {i} {ys} m p j le f t s r u w) h =
      let all : xs ≡ f.before ++ real t ∷ ys = f.is ∙ ap (λ l. f.before ++ l) (sym s) in
      let y = whole f.before (real t) ys (subst (λ l. IsFrontWithin d l) all front) in
      let o = max n (suc (reals (f.before ++ real t ∷ (ys ++ y.more)))) in
      let z = program_read o d d (omega arith) (omega arith) y.derives in
      unread_there n d o (omega arith) f.before (real t) ys (ys ++ y.more) c ((y.tree, z.height), []) (ap is_spent m) (ap (read_symbols n d) (sym all) ∙ e ∙ ap (λ l. Err (c, l)) (sym s)) z.is

-- ---- verdicts

-- The token is taken, or comes to a limit, or is refused, or reading stops at it.
pub data Verdict (x : Change) (d : ℕ) (q : Symbols) : Type 0 where
  passing : x.free ≡ true → ((xs : Symbols) → Stands xs (read_symbols x.turns d (q ++ token x ∷ xs))) → Verdict x d q
  limiting : ((xs : Symbols) → IsLimit x (read_symbols x.turns d (q ++ token x ∷ xs))) → Verdict x d q
  refusing : ((xs : Symbols) → Fits x xs → IsRefused x (read_symbols x.turns d (q ++ token x ∷ xs))) → Verdict x d q
  falling : x.next ≡ swap.deleted → ((xs : Symbols) → Falls x xs (read_symbols x.turns d (q ++ token x ∷ xs))) → Verdict x d q

-- an answer to the whole list
pub data Said (x : Change) (d : ℕ) (q : Symbols) (f : Fault) (xs ys : Symbols) : Type 0 where
  said_refused : f.cause ≡ refused x.construct → f.place ≡ x.place.place → Said x d q f xs ys
  said_limited : is_limit f.cause ≡ true → IsLimit x (read_symbols x.turns d (q ++ token x ∷ [])) → Said x d q f xs ys
  said_passed : x.free ≡ true → Suffix ys xs → Said x d q f xs ys
  said_fallen : x.next ≡ swap.deleted → is_limit f.cause ≡ false → ys ≡ token x ∷ xs → Said x d q f xs ys

stood : {xs ys : Symbols} {f : Fault} {o : Read} → o ≡ Err (f, ys) → Stands xs o → Suffix ys xs
stood {xs} e h = let P : Read → Type 0 = λ o. Stands xs o in subst P e h

pub said : {x : Change} {d : ℕ} {q : Symbols} {f : Fault} (xs : Symbols) {ys : Symbols} → Verdict x d q → Fits x xs → read_symbols x.turns d (q ++ token x ∷ xs) ≡ Err (f, ys) → Said x d q f xs ys
said xs (passing e h) w r = said_passed e (stood r (h xs))
said xs (limiting h) w r = said_limited (limit_is (h xs) r) (h [])
said xs (refusing h) w r = let y = refused_is (h xs w) r in said_refused y.0 y.1
said xs (falling e h) w r = let y = falls_is (h xs) r in said_fallen e y.0 y.1

never_nothing : {A : Type 0} (a : Symbols) (y : Symbol) (b : Symbols) → a ++ y ∷ b ≡ [] → A
never_nothing [] y b e = absurd (cc)
never_nothing (m ∷ a) y b e = absurd (cc)

left_is : {a b : Sized (List RawStmt)} {xs ys : Symbols} → ◌≡◌ {A = Read} (Ok (a, xs)) (Ok (b, ys)) → xs ≡ ys
left_is {a} {b} {xs} {ys} e = let pairs : ◌≡◌ {A = Sized (List RawStmt) × Symbols} (a, xs) (b, ys) = cc in ap (λ (p : Sized (List RawStmt) × Symbols). p.1) pairs

behind_less : (q : Symbols) (t : Lexeme) (xs : Symbols) → reals xs < suc (reals (q ++ real t ∷ xs))
behind_less q t xs = omega (arith, ap length (lexemes_append q (real t ∷ xs)), length-append (lexemes_of q) (t ∷ lexemes_of xs))

by_swaps : {x : Change} {d : ℕ} {q : Symbols} (u e : ℕ) (more : Symbols) {a : Sized (List RawStmt)} → read_symbols u e (q ++ part x ∷ more) ≡ Ok (a, []) → Swaps x (read_symbols x.turns d) (read_symbols u e) q → Verdict x d q
by_swaps {x} u e more r (stops mid a p h) = never_nothing mid (part x) more (left_is (sym (h more) ∙ r))
by_swaps u e more r (barred h) = never_err r (h more)
by_swaps u e more r (passes free p) = passing free p
by_swaps u e more r (limited p) = limiting p
by_swaps u e more r (refuses p) = refusing p
by_swaps u e more r (falls n p) = falling n p

unread : {x : Change} {d : ℕ} {q : Symbols} (xs : Symbols) {a : Sized (List RawStmt) × Symbols} → x.free ≡ false → Fits x xs → read_symbols x.turns d (q ++ token x ∷ xs) ≡ Ok a → Verdict x d q → ⊥
unread xs b w r (passing e h) = clash (sym e ∙ b)
unread xs b w r (limiting h) = never_limit r (h xs)
unread xs b w r (refusing h) = never_refused r (h xs w)
unread xs b w r (falling e h) = never_falls r (h xs)

pub verdict : (x : Change) → IsPair x → (d : ℕ) (q : Symbols) → IsFront (q ++ part x ∷ []) → Verdict x d q
verdict x w d q front =
    let y = whole q (part x) [] front.within in
    let u = max x.turns (suc (reals (q ++ part x ∷ y.more))) in
    let e = max d front.height in
    let z = program_read u e front.height (omega arith) (omega arith) y.derives in
    by_swaps u e y.more z.is (swaps_at x (program_swap x w x.turns u d e refl (omega arith) (omega arith)) q)

-- The token isn't taken, whatever follows.
pub no_such_front : {p : k.Part} {c : Construct} {z : Next} (t : Lexeme) → Pair p t.kind false c z → (q zs : Symbols) → IsFront (q ++ any p t ∷ []) → ((n : ℕ) (more : Symbols) → reals (zs ++ more) < n → Fitting z n (zs ++ more))
    → ¬ (IsFront (q ++ real t ∷ zs))
no_such_front {p} {c} {z} t w q zs front fits taken =
    let y = whole q (real t) zs taken.within in
    let n = suc (reals (q ++ real t ∷ (zs ++ y.more))) in
    let r = program_read n taken.height taken.height (omega arith) (omega arith) y.derives in
    unread {x = change t p t.kind false c z n} {d = taken.height} {q = q} (zs ++ y.more) refl (fits n y.more (behind_less q t (zs ++ y.more))) r.is (verdict (change t p t.kind false c z n) w taken.height q front)

-- What is known of a program whose dead places are never read, and where its declared variables stand.
use Rattle.std.proofs.Common.{◌≡◌, ℕ, suc, Bool, true, false, List, [], Option, Some, None, refl, sym, ap, subst}
use Rattle.cc_ast.specs.Syntax.{Expr, Program}
use Rattle.cc_ast.specs.declared.tree.Ref.{Ref}
use Rattle.cc_meaning.specs.State.{Path, Tables}
use Rattle.cc_meaning.specs.Shapes.{tables_of, body_of}
use Rattle.cc_meaning.specs.WellMade.{IsPlaced, placed_global, placed_local, Reached, WellMade}
use Rattle.cc_tied.specs.DropExample.{is_dead, reads_no_dead, AreUnread}
use Rattle.cc_tied.specs.Facts.{Level, called, caught, named, Facts, innermost, Above, DeadAt, FixedAt}
use Rattle.cc_tied.specs.Fine.{FineStmts}
use Rattle.cc_tied.specs.PlainFacts.{owner, plain_facts}
use Rattle.cc_tied.proofs.Kit.{Kit}
use Rattle.cc_tied.proofs.Rewriting.{Standing, allowed, BindsT, bound_by_write, bound_alone, SetsT, set_by_write, set_alone}
use Rattle.cc_tied.proofs.Fine.Both.{BothAllow, stmts_both}
use Rattle.cc_tied.proofs.Injection.Tie.{same_right, Ctx, at, in_catch, ReadI, reads_global, reads_place, WriteI, writes_global, writes_place, ThisI, StandI, stands_at, binds_known, sets_known}
use Rattle.cc_tied.proofs.Injection.Upkeep.{inject_kit}
use Rattle.cc_tied.proofs.Injection.Facts.{own_above, owner_is, owner_function}
use Rattle.cc_tied.proofs.Injection.Above.{above_same}
use Rattle.cc_tied.proofs.Injection.Dead.{Gone, gone_place}
use Rattle.cc_tied.proofs.Injection.Pass.{StandsIn, fine_scope}

-- ---- where declared variables and rewritten parts stand

-- a declared variable is a global, or in the frame of the function in whose statements it is declared
pub data IsOwnPlace : Ctx → Ref → Type 0 where
  own_global : {c : Ctx} {n : ℕ} → IsOwnPlace c (Ref.Global n)
  own_place : {f k n : ℕ} → IsOwnPlace (at (Some f) k) (Ref.Frame k n)

abbrev pub own_places : Standing Ctx
own_places = record { of_stmt = λ c ls s. Unit {0}; of_declared = IsOwnPlace }

placed_own : (P : Program) (f k : ℕ) (r : Ref) → IsPlaced P f k r → IsOwnPlace (at (owner P f) k) r
placed_own P f k _ (placed_global n d h g) = own_global
placed_own P f k _ (placed_local n s h g l) = subst (λ z. IsOwnPlace (at z k) (Ref.Frame k n)) (sym (owner_function P f h)) own_place

own_stand : (P : Program) → StandsIn P own_places
own_stand P = record { of_stmt = λ c ls s. tt; of_declared = λ f k r h. placed_own P f k r h }

-- a place in the statements of a scope
pub record IsWithin (P : Program) (f : ℕ) (c : Ctx) : Type 0 where
  pub catches : ℕ
  pub is : c ≡ at (owner P f) catches

pub within_catch : {P : Program} {f : ℕ} {c : Ctx} → IsWithin P f c → IsWithin P f (in_catch c)
within_catch h = record { catches = suc h.catches; is = ap in_catch h.is }

abbrev function_in : Ctx → Option ℕ
function_in (at o k) = o
function_in _ = None

-- ---- no dead place is read

module _ (dead : (function place : ℕ) → Bool) (P : Program) where
  abbrev pub dead_facts : Facts
  dead_facts = record (plain_facts P) { Dead = λ f n. dead f n ≡ true }

  abbrev T : Tables
  T = tables_of P

  -- one place, as each of the three sets of rules names it
  data Near : Ctx → Option ℕ × ℕ → Ctx → Type 0 where
    near : {o : Option ℕ} {k : ℕ} → Near (at o k) (o, k) (at o k)

  not_both : (b : Bool) → b ≡ true → b ≡ false → ⊥
  not_both b h k = absurd (cc)

  not_dead : (l : Level) (n : ℕ) → ((f : ℕ) → l ≡ called f → dead f n ≡ false) → DeadAt dead_facts l n → ⊥
  not_dead (called f) n h d = not_both (dead f n) d (h f refl)
  not_dead (caught o c) n h d = d
  not_dead (named f) n h d = d

  near_caught : {a c : Ctx} {b : Option ℕ × ℕ} → Near a b c → Near (in_catch a) (b.0, suc b.1) (in_catch c)
  near_caught near = near

  read_near : {a c : Ctx} {b : Option ℕ × ℕ} → Near a b c → {r r' : Ref} → ReadI (plain_facts P) T (λ n. ⊥) a r r' → ((u n f : ℕ) → r ≡ Ref.Frame u n → Above (plain_facts P) T (innermost b.0 b.1) u (called f) → dead f n ≡ false) → ReadI dead_facts T (λ n. ⊥) c r r'
  read_near near (reads_global h f) d = reads_global h f
  read_near (near {o = o} {k = k}) (reads_place {u = u} {n = n} {l = l} a h) d = reads_place (above_same (plain_facts P) dead_facts (λ f. refl) T a) (not_dead l n (λ f e. d u n f refl (subst (λ z. Above (plain_facts P) T (innermost o k) u z) e a)))

  write_near : {a c : Ctx} {b : Option ℕ × ℕ} → Near a b c → {r r' : Ref} → WriteI (plain_facts P) T (λ n. ⊥) a r r' → WriteI dead_facts T (λ n. ⊥) c r r'
  write_near near (writes_global h f) = writes_global h f
  write_near near (writes_place {n = n} {l = l} a h) = writes_place (above_same (plain_facts P) dead_facts (λ f. refl) T a) (fixed_same l h)
    where
      fixed_same : (l : Level) → (FixedAt (plain_facts P) l n → ⊥) → FixedAt dead_facts l n → ⊥
      fixed_same (called f) h z = z
      fixed_same (caught o c) h z = z
      fixed_same (named f) h z = z

  module _ (set' : List (Path × ℕ)) where
    abbrev K : Kit
    K = inject_kit (plain_facts P) T (same_right T set')

    abbrev pub DeadKit : Kit
    DeadKit = inject_kit dead_facts T (same_right T set')

    binds_near : {a c : Ctx} {b : Option ℕ × ℕ} → Near a b c → {r : Ref} {f : ℕ} → BindsT K a r f → BindsT DeadKit c r f
    binds_near n (bound_by_write h) = bound_by_write (write_near n h)
    binds_near n (bound_alone (binds_known k u f)) = absurd k

    sets_near : {a c : Ctx} {b : Option ℕ × ℕ} → Near a b c → {r : Ref} {v : Option Expr} → SetsT K a r v → SetsT DeadKit c r v
    sets_near n (set_by_write h) = set_by_write (write_near n h)
    sets_near n (set_alone (sets_known k u f)) = absurd k

    own_near : {a c : Ctx} {b : Option ℕ × ℕ} → Near a b c → {r : Ref} → IsOwnPlace a r → IsOwnPlace c r
    own_near near h = h

    this_near : {a c : Ctx} {b : Option ℕ × ℕ} → Near a b c → ThisI a → ThisI c
    this_near near h = h

    stand_near : {a c : Ctx} {b : Option ℕ × ℕ} → Near a b c → {f f' : ℕ} → StandI (plain_facts P) a f f' → StandI dead_facts c f f'
    stand_near near (stands_at h e d) = stands_at h e d

    both_allow : BothAllow Ctx (Option ℕ × ℕ) Ctx (allowed K own_places) (reads_no_dead dead P) (allowed DeadKit own_places) Near
    both_allow = record {
      caught = λ n. near_caught n;
      reads = λ n r x y. read_near n x y;
      writes = λ n r x y. write_near n x;
      binds = λ n r f x y. binds_near n x;
      sets = λ n r v x y. (sets_near n x.0, own_near n x.1);
      this_here = λ n x y. this_near n x;
      makes = λ n f x y. stand_near n x;
      stands = λ n ls s x y. tt;
    }

    -- the statements of each scope that is reached
    pub fine_unread : WellMade P → AreUnread dead P → (f : ℕ) → Reached P f → FineStmts Ctx (allowed DeadKit own_places) (at (owner P f) 0) [] (body_of P f)
    fine_unread W unread f h = stmts_both Ctx (Option ℕ × ℕ) Ctx (allowed K own_places) (reads_no_dead dead P) (allowed DeadKit own_places) Near both_allow near [] (body_of P f) (fine_scope P W set' own_places (own_stand P) f h) (unread f h)

    -- a declared variable at a dead place is written by the left alone
    pub dead_gone : WellMade P → (f : ℕ) (c : Ctx) → IsWithin P f c → (r : Ref) → IsOwnPlace c r → is_dead (dead f) r ≡ true → Gone dead_facts T (same_right T set') c r
    unfolding is_dead
    dead_gone W f c h r (own_global {n = n}) d = absurd (cc)
    dead_gone W f c h r (own_place {f = g} {k = k} {n = n}) d =
        let e : f ≡ g = owner_is P W f g (sym (ap function_in h.is)) in
        gone_place (own_above P W dead_facts (λ i. refl) g k) (subst (λ z. dead z n ≡ true) e d) (λ z. z)

-- The rules of the exchange: what stands at one place of both programs, and a property of a holder where
-- the right has its global.
use Rattle.std.proofs.Common.{◌≡◌, ◌⊎◌, inl, inr, ℕ, Option, None, refl, ap}
use Rattle.cc_ast.specs.Syntax.{Expr, var, member, Target, to_var, to_member}
use Rattle.cc_ast.specs.declared.tree.Ref.{Ref}
use Rattle.cc_meaning.specs.State.{Path, Tables}
use Rattle.cc_meaning.specs.Store.{dotted, flat_of}
use Rattle.cc_meaning.specs.Calls.{member_use}
use Rattle.cc_meaning.specs.Shapes.{literal_text}
use Rattle.cc_tied.specs.Facts.{Facts}
use Rattle.cc_tied.specs.Tied.{none_t}
use Rattle.cc_tied.proofs.Kit.{Kit}
use Rattle.cc_tied.proofs.Parts.{PathT, Below}
use Rattle.cc_tied.proofs.Expressions as E
use Rattle.cc_tied.proofs.Injection.Rules.{name_table}
use Rattle.cc_tied.proofs.Injection.World.{Tabs}
use Rattle.cc_tied.proofs.Injection.Tie.{Ctx, StandI, ReadI, WriteI, ThisI, same_key}
use Rattle.cc_collapse.proofs.FlatTrees.{Exchange}
use Rattle.cc_collapse.proofs.FlatKit.{FlatRules}
use Rattle.cc_collapse.proofs.FlatRider.{Plan, flat_other}
use Rattle.cc_collapse.proofs.FlatHolders.{HolderAt}
use Rattle.cc_collapse.proofs.FlatReads.{HomeT, top_home, near_home}
use Rattle.cc_collapse.proofs.FlatPairs.{K, flat_values, flat_called, flat_on}
use Rattle.cc_collapse.proofs.FlatTargets.{flat_target}
use Rattle.cc_collapse.proofs.FlatWrites.{Globals}

module _ (F : Facts) (S : Tables) (P : Plan S) where
  -- a property of a holder that is no holder itself; its global is declared in the chunk that the
  -- holder's path begins in, or in one that is loaded once the holder is declared
  pub record Flattens (h p : ℕ) : Type 0 where
    pub child : P.Child h p
    pub single : (i : ℕ) → P.Inner h p i → ⊥
    pub home : (P.home h p ≡ P.top h) ⊎ P.Near h (P.home h p)

  pub data ReadsFlat (c : Ctx) : Expr → Expr → Type 0 where
    reads_flat : {h p i i' : ℕ} {e : Expr} → HolderAt S P h e → Flattens h p → ReadsFlat c (member i e p) (var i' (Ref.Global (P.fresh h p)))

  pub data WritesFlat (c : Ctx) : Target → Target → Type 0 where
    writes_flat : {h p i i' : ℕ} {e : Expr} → HolderAt S P h e → Flattens h p → WritesFlat c (to_member i e p) (to_var i' (Ref.Global (P.fresh h p)))

  pub record NoPath (w w' : Option Path) : Type 0 where
    pub none : flat_of S w ≡ None

  abbrev pub exchange : Exchange Ctx
  exchange = record {
    read = ReadsFlat;
    written = WritesFlat;
    held = λ c e e'. ⊥;
    reads = λ c r. ReadI F S P.Foreign c r r;
    writes = λ c r. WriteI F S P.Foreign c r r;
    this_here = ThisI;
    makes = λ c f. StandI F c f f;
    paths = NoPath;
  }

  home_of : {h p : ℕ} {w : Tabs} → (P.home h p ≡ P.top h) ⊎ P.Near h (P.home h p) → HomeT F S P w h p
  home_of (inl e) = top_home e
  home_of (inr n) = near_home n

  module _ (G : Globals F S P) (X : Below (K F S P)) where
    abbrev KF : Kit
    KF = K F S P

    reads_as : (c : Ctx) (e e' : Expr) → ReadsFlat c e e' → (q q' : Option Path) → E.FollowsAs KF X (Rattle.cc_tied.proofs.Parts.V KF) c q q' e e'
    reads_as c _ _ (reads_flat {h = h} {p = p} {i = i} {i' = i'} {e = e} a d) q q' = flat_values F S P X c h p d.child d.single e a (λ v l g g' en. home_of d.home) i i' q q'

    calls_as : (c : Ctx) (e e' : Expr) → ReadsFlat c e e' → E.FollowsCallee KF X c e e'
    calls_as c _ _ (reads_flat {h = h} {p = p} {i = i} {i' = i'} {e = e} a d) = flat_called F S P X c h p d.child d.single e a (λ v l g g' en. home_of d.home) i i'

    on_as : (c : Ctx) (e e' : Expr) → ReadsFlat c e e' → E.FollowsOn KF X c e e'
    on_as c _ _ (reads_flat {h = h} {p = p} {i = i} {i' = i'} {e = e} a d) = flat_on F S P X c h p d.child d.single e a (λ v l g g' en. home_of d.home) i i'

    no_texts : (c : Ctx) (e e' : Expr) → ReadsFlat c e e' → (literal_text e ≡ None) × (literal_text e' ≡ None)
    unfolding literal_text
    no_texts c _ _ (reads_flat a d) = (refl, refl)

    writes_as : (c : Ctx) (t t' : Target) → WritesFlat c t t' → (Reads : Ref → Ref → Type 0) → E.FollowsTarget KF X c Reads t t'
    writes_as c _ _ (writes_flat {h = h} {p = p} {i = i} {i' = i'} {e = e} a d) Reads = flat_target F S P G h p d.child d.single X c e a (λ v l g g' en. home_of d.home) i i' Reads

    paths_as : (w w' : Option Path) → NoPath w w' → PathT KF w w'
    paths_as w w' n = record { flat = rw (n.none, P.no_flat w') none_t }

    pub flat_rules : FlatRules KF X exchange
    flat_rules = record {
      sites = λ i j. tt;
      docs = λ d. refl;
      props = λ p. record { keys = λ v l x y h. same_key; uses = λ b. ap (λ z. member_use b z) (name_table S (flat_other S P) (dotted p)) };
      keys = λ k. record { keys = λ v l x y h. same_key };
      quoted = λ t. tt;
      paths = paths_as;
      reads = λ c r h. h;
      writes = λ c r h. h;
      this_here = λ c h. h;
      makes = λ c f h. h;
      read = reads_as;
      called = calls_as;
      dotted_on = on_as;
      no_text = no_texts;
      held = λ c e e' h. absurd h;
      held_text = λ c e e' h. absurd h;
      written = writes_as;
    }

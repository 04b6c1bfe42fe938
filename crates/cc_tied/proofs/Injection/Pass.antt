-- What a pass owes the injection for every well made program without flat paths.
use Rattle.std.proofs.Common.{◌≡◌, ℕ, Bool, false, List, [], Option, Some, None, refl, sym, ap, subst, ◌∙◌}
use Rattle.std.specs.Prelude.{IsFalse}
use Rattle.cc_ast.specs.Syntax.{Program, Stmt}
use Rattle.cc_ast.specs.declared.tree.Ref.{Ref}
use Rattle.cc_meaning.specs.State.{Path, Tables}
use Rattle.cc_meaning.specs.Store.{dotted, global_kind, flat_of}
use Rattle.cc_meaning.specs.Shapes.{tables_of, body_of}
use Rattle.cc_meaning.specs.Calls.{member_use}
use Rattle.cc_meaning.specs.Alike.{In}
use Rattle.cc_meaning.specs.Parts.{mentions, declares, makes}
use Rattle.cc_meaning.specs.WellMade.{is_chunk, parts_of, Reached, function_reached, IsSound, sound_place, sound_global, sound_outer, IsPlaced, IsPart, a_mention, a_declaration, a_function, WellMade}
use Rattle.cc_tied.specs.Tied.{built_of, OptT, none_t}
use Rattle.cc_tied.specs.Promises.{HasNoPaths}
use Rattle.cc_tied.specs.Fine.{FineStmts}
use Rattle.cc_tied.specs.Facts.{Level, called, caught, named, Held, Facts, DeadAt, FixedAt}
use Rattle.cc_tied.specs.PlainFacts.{owner, plain_facts}
use Rattle.cc_tied.proofs.Kit.{Kit}
use Rattle.cc_tied.proofs.Parts.{Below, PathT}
use Rattle.cc_tied.proofs.Nodes.{SameTables}
use Rattle.cc_tied.proofs.Rewriting.{Standing, allowed, bound_by_write, set_by_write}
use Rattle.cc_tied.proofs.Equality.Erase as E
use Rattle.cc_tied.proofs.Alike.Reach.{no_flat}
use Rattle.cc_tied.proofs.Fine.Parts.{PartsAllow, fine_stmts}
use Rattle.cc_tied.proofs.Injection.Tie.{Ctx, at, this_at, stands_at, ReadI, reads_global, reads_place, WriteI, writes_global, writes_place, same_key, with_set, same_right}
use Rattle.cc_tied.proofs.Injection.Rules.{name_table}
use Rattle.cc_tied.proofs.Injection.Upkeep.{inject_kit}
use Rattle.cc_tied.proofs.Injection.Facts.{part_of, parent_is, holds_above}

-- ---- tables

flat_none : (P : Program) → HasNoPaths P → (p : Option Path) → flat_of (tables_of P) p ≡ None
flat_none P h p = subst (λ z. flat_of z p ≡ None) (E.same_tables P h) (no_flat P p)

flat_same : (S : Tables) (set' : List (Path × ℕ)) (p : Option Path) → flat_of S p ≡ flat_of (with_set S (same_right S set')) p
unfolding flat_of
flat_same S set' None = refl
flat_same S set' (Some p) = refl

built_same : (S : Tables) (set' : List (Path × ℕ)) (r : Ref) → built_of S r ≡ built_of (with_set S (same_right S set')) r
unfolding built_of global_kind
built_same S set' (Ref.Frame u n) = refl
built_same S set' (Ref.Global n) = refl

module _ (F : Facts) (P Q : Program) (none : HasNoPaths P) (built : Ref → Bool) (builts : (r : Ref) → built r ≡ false → built_of (tables_of P) r ≡ None) where
  abbrev S : Tables
  S = tables_of P

  abbrev pub pass_kit : Kit
  pass_kit = inject_kit F (tables_of P) (same_right (tables_of P) (tables_of Q).set)

  no_paths : (p p' : Option Path) → PathT pass_kit p p'
  no_paths p p' = record { flat = subst (λ z. OptT (λ a b. (a ≡ b) × Unit {0}) z (flat_of (with_set S (same_right (tables_of P) (tables_of Q).set)) p')) (sym (flat_none P none p)) (subst (λ z. OptT (λ a b. (a ≡ b) × Unit {0}) None z) (sym (sym (flat_same S (tables_of Q).set p') ∙ flat_none P none p')) none_t) }

  -- the tables of both programs tie what stands at one place
  pub same_tables : (X : Below pass_kit) → SameTables pass_kit X built
  same_tables X = record {
    sites = λ i. tt;
    paths = no_paths;
    props = λ p. record { keys = λ v l x y h. same_key; uses = λ b. ap (λ z. member_use b z) (name_table S (same_right (tables_of P) (tables_of Q).set) (dotted p)) };
    keys = λ k. record { keys = λ v l x y h. same_key };
    docs = λ d. refl;
    quoted = λ t. tt;
    written = λ t. tt;
    builts = λ r e. sym (built_same S (tables_of Q).set r) ∙ builts r e;
  }

-- ---- the parts of a well made program

module _ (P : Program) where
  pub mention_sound : (f k : ℕ) (r : Ref) → Reached P f → IsPart P f (mentions k r) → IsSound P f k r
  mention_sound f k r h (a_mention _ _ n s) = s h

  pub declared_sound : (f k : ℕ) (r : Ref) → Reached P f → IsPart P f (declares k r) → IsSound P f k r
  declared_sound f k r h (a_declaration _ _ p s) = s h

  pub declared_placed : (f k : ℕ) (r : Ref) → IsPart P f (declares k r) → IsPlaced P f k r
  declared_placed f k r (a_declaration _ _ p s) = p

  pub made_apart : (f k g : ℕ) (d : Bool) → IsPart P f (makes k g d) → IsFalse (is_chunk P g)
  made_apart f k g d (a_function _ _ _ m) = m.function

-- ---- what may be read and written, where no more is known than what some globals hold

module _ (P : Program) (W : WellMade P) (Known : ℕ → Held → Type 0) where
  abbrev KnownFacts : Facts
  KnownFacts = record (plain_facts P) { Known = Known }

  not_dead : (l : Level) (n : ℕ) → DeadAt KnownFacts l n → ⊥
  not_dead (called f) n d = d
  not_dead (caught o c) n d = d
  not_dead (named f) n d = d

  not_fixed : (l : Level) (n : ℕ) → FixedAt KnownFacts l n → ⊥
  not_fixed (called f) n d = d
  not_fixed (caught o c) n d = d
  not_fixed (named f) n d = d

  pub read_sound : {f k : ℕ} {r : Ref} → IsSound P f k r → ReadI KnownFacts (tables_of P) (λ n. ⊥) (at (owner P f) k) r r
  read_sound (sound_place u n h) = let a = holds_above P W KnownFacts (λ f. refl) h in reads_place a.1 (not_dead a.0 n)
  read_sound (sound_global n d g i) = reads_global (λ z. z) (λ z. z)
  read_sound (sound_outer n g e d) = reads_global (λ z. z) (λ z. z)

  -- what is no known global
  pub write_sound : {f k : ℕ} {r : Ref} → IsSound P f k r → ((n : ℕ) (h : Held) → r ≡ Ref.Global n → Known n h → ⊥) → WriteI KnownFacts (tables_of P) (λ n. ⊥) (at (owner P f) k) r r
  write_sound (sound_place u n h) free = let a = holds_above P W KnownFacts (λ f. refl) h in writes_place a.1 (not_fixed a.0 n)
  write_sound (sound_global n d g i) free = writes_global (λ h k. free n h refl k) (λ z. z)
  write_sound (sound_outer n g e d) free = writes_global (λ h k. free n h refl k) (λ z. z)

-- ---- a well made program is fine, where no more is known of it

-- what a pass asks beside what the kit ties, which each well made program has
pub record StandsIn (P : Program) (Stands : Standing Ctx) : Type 0 where
  pub of_stmt : (c : Ctx) (ls : List (List ℕ)) (s : Stmt) → Stands.of_stmt c ls s
  pub of_declared : (f k : ℕ) (r : Ref) → IsPlaced P f k r → Stands.of_declared (at (owner P f) k) r

module _ (P : Program) (W : WellMade P) (set' : List (Path × ℕ)) (Stands : Standing Ctx) (all : StandsIn P Stands) where
  abbrev F : Facts
  F = plain_facts P

  abbrev K : Kit
  K = inject_kit F (tables_of P) (same_right (tables_of P) set')

  write_free : {f k : ℕ} {r : Ref} → IsSound P f k r → WriteI F (tables_of P) (λ n. ⊥) (at (owner P f) k) r r
  write_free h = write_sound P W (λ n h. ⊥) h (λ n h e k. k)

  parts_allow : (f : ℕ) → Reached P f → PartsAllow Ctx (allowed K Stands) (λ k. at (owner P f) k) (λ x. In x (parts_of P f))
  parts_allow f h = record {
    caught = λ k. refl;
    reads = λ k r i. read_sound P W (λ n h. ⊥) (mention_sound P f k r h (part_of P W f _ i));
    writes = λ k r i. write_free (mention_sound P f k r h (part_of P W f _ i));
    declared = λ k r i. write_free (declared_sound P f k r h (part_of P W f _ i));
    bound = λ k r g i. bound_by_write (write_free (declared_sound P f k r h (part_of P W f _ i)));
    set = λ k r o i. let d = part_of P W f _ i in (set_by_write (write_free (declared_sound P f k r h d)), all.of_declared f k r (declared_placed P f k r d));
    receivers = λ k. this_at;
    made = λ k g d i. let e = parent_is P W f k g d i in stands_at (record { reached = function_reached f g k d h i; function = made_apart P f k g d (part_of P W f _ i) }) (ap (λ z. z.0) e) (ap (λ z. z.1) e);
    stands = λ k ls s. all.of_stmt _ ls s;
  }

  -- the statements of each scope that is reached
  pub fine_scope : (f : ℕ) → Reached P f → FineStmts Ctx (allowed K Stands) (at (owner P f) 0) [] (body_of P f)
  unfolding parts_of
  fine_scope f h = fine_stmts Ctx (allowed K Stands) (λ k. at (owner P f) k) (λ x. In x (parts_of P f)) (parts_allow f h) (tables_of P) 0 [] (body_of P f) (λ x i. i)

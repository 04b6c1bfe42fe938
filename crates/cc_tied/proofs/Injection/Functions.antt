-- Globals of which it is known what function they hold: the facts of a well made program with them,
-- for which each of its scopes is fine.
use Rattle.std.proofs.Common.{◌≡◌, ◌⊎◌, inl, inr, ℕ, List, [], Option, Some, None, refl, sym, ap, subst}
use Rattle.cc_ast.specs.Syntax.{Program}
use Rattle.cc_ast.specs.declared.tree.Ref.{Ref}
use Rattle.cc_meaning.specs.State.{Path}
use Rattle.cc_meaning.specs.Shapes.{tables_of, body_of}
use Rattle.cc_meaning.specs.Alike.{In}
use Rattle.cc_meaning.specs.Parts.{mentions, declares}
use Rattle.cc_meaning.specs.WellMade.{parts_of, Reached, function_reached, IsSound, IsPlaced, placed_global, placed_local, WellMade}
use Rattle.cc_tied.specs.Fine.{Allowed, FineStmts}
use Rattle.cc_tied.specs.Facts.{Held, holds_function, Facts}
use Rattle.cc_tied.specs.PlainFacts.{owner, plain_facts}
use Rattle.cc_tied.specs.InlineExample.{binds_alone}
use Rattle.cc_tied.proofs.Kit.{Kit}
use Rattle.cc_tied.proofs.Rewriting.{anything, allowed, BindsT, bound_by_write, bound_alone, SetsT, set_by_write}
use Rattle.cc_tied.proofs.Fine.Together.{Each, Together, stmts_together}
use Rattle.cc_tied.proofs.Fine.Scopes.{by_parts, fine_by_parts}
use Rattle.cc_tied.proofs.Injection.Tie.{same_right, Ctx, at, in_catch, this_at, stands_at, ReadI, WriteI, writes_global, binds_known}
use Rattle.cc_tied.proofs.Injection.Upkeep.{inject_kit}
use Rattle.cc_tied.proofs.Injection.Facts.{part_of, parent_is, owner_chunk}
use Rattle.cc_tied.proofs.Injection.Pass.{mention_sound, declared_sound, declared_placed, made_apart, read_sound, write_sound}

-- what a global holds, where its function is known
pub data HoldsKnown (function_of : ℕ → Option ℕ) (n : ℕ) : Held → Type 0 where
  holds_known : {f : ℕ} → function_of n ≡ Some f → HoldsKnown function_of n (holds_function f)

abbrev pub function_facts : Program → (function_of : ℕ → Option ℕ) → Facts
function_facts P function_of = record (plain_facts P) { Known = HoldsKnown function_of }

one_held : {function_of : ℕ → Option ℕ} {n f : ℕ} → function_of n ≡ Some f → (h : Held) → HoldsKnown function_of n h → h ≡ holds_function f
one_held e _ (holds_known d) = cc

none_held : {function_of : ℕ → Option ℕ} {n : ℕ} → ((f : ℕ) → function_of n ≡ Some f → ⊥) → (h : Held) → HoldsKnown function_of n h → ⊥
none_held free _ (holds_known d) = free _ d

-- what is asked of the statements of a scope: that they are as its parts say, and what each known global asks
data Aspect (function_of : ℕ → Option ℕ) : Type 0 where
  of_parts : Aspect function_of
  of_global : (n f : ℕ) → function_of n ≡ Some f → Aspect function_of

abbrev Place : {function_of : ℕ → Option ℕ} → Aspect function_of → Type 0
Place of_parts = ℕ
Place (of_global n f e) = Unit {0}

abbrev asked : (P : Program) (g : ℕ) {function_of : ℕ → Option ℕ} → (a : Aspect function_of) → Allowed (Place a)
asked P g of_parts = by_parts (parts_of P g)
asked P g (of_global n f e) = binds_alone n f

abbrev first : {function_of : ℕ → Option ℕ} → (a : Aspect function_of) → Place a
first of_parts = 0
first (of_global n f e) = tt

module _ (P : Program) (W : WellMade P) (function_of : ℕ → Option ℕ) (alone : (n f : ℕ) → function_of n ≡ Some f → (g : ℕ) → Reached P g → FineStmts (Unit {0}) (binds_alone n f) tt [] (body_of P g)) (set' : List (Path × ℕ)) where
  abbrev F : Facts
  F = function_facts P function_of

  abbrev K : Kit
  K = inject_kit F (tables_of P) (same_right (tables_of P) set')

  -- what is no known global may be written
  write_free : {f k : ℕ} {r : Ref} → IsSound P f k r → ((n h : ℕ) → function_of n ≡ Some h → r ≡ Ref.Global n → ⊥) → WriteI F (tables_of P) (λ n. ⊥) (at (owner P f) k) r r
  write_free s free = write_sound P W (HoldsKnown function_of) s (λ n h e k. none_held (λ f q. free n f q e) h k)

  -- a known global is bound alone, in a chunk's own list
  global_bound : (k n f : ℕ) (o : Option ℕ) → function_of n ≡ o → ((h : ℕ) → o ≡ Some h → f ≡ h) → BindsT K (at None k) (Ref.Global n) f
  global_bound k n f None e one = bound_by_write (writes_global (none_held (λ h d. absurd (cc))) (λ z. z))
  global_bound k n f (Some h) e one = subst (λ z. BindsT K (at None k) (Ref.Global n) z) (sym (one h refl)) (bound_alone (binds_known (holds_known e) (one_held e) (λ z. z)))

  bound_placed : {g k : ℕ} {r : Ref} (f : ℕ) → IsSound P g k r → IsPlaced P g k r → ((n h : ℕ) → function_of n ≡ Some h → r ≡ Ref.Global n → f ≡ h) → BindsT K (at (owner P g) k) r f
  bound_placed {g = g} {k = k} f s (placed_global n d c e) one = subst (λ z. BindsT K (at z k) (Ref.Global n) f) (sym (owner_chunk P g c)) (global_bound k n f (function_of n) refl (λ h q. one n h q refl))
  bound_placed f s (placed_local n z c e l) one = bound_by_write (write_free s (λ m h q d. absurd (cc)))

  module _ (g : ℕ) (reached : Reached P g) where
    abbrev At : Each (Aspect function_of) Place (asked P g) Ctx (allowed K anything) → Ctx → Type 0
    At cs x = x ≡ at (owner P g) (cs of_parts)

    sound_either : (k : ℕ) (r : Ref) → In (mentions k r) (parts_of P g) ⊎ In (declares k r) (parts_of P g) → IsSound P g k r
    sound_either k r (inl i) = mention_sound P g k r reached (part_of P W g _ i)
    sound_either k r (inr i) = declared_sound P g k r reached (part_of P W g _ i)

    together : Together (Aspect function_of) Place (asked P g) Ctx (allowed K anything) At
    together = record {
      caught = λ cs x e. ap in_catch e;
      reads = λ cs x e r h. subst (λ z. ReadI F (tables_of P) (λ n. ⊥) z r r) (sym e) (read_sound P W (HoldsKnown function_of) (mention_sound P g _ r reached (part_of P W g _ (h of_parts))));
      writes = λ cs x e r h. subst (λ z. WriteI F (tables_of P) (λ n. ⊥) z r r) (sym e) (write_free (sound_either _ r (h of_parts)) (λ n f q. h (of_global n f q)));
      binds = λ cs x e r f h. let p = part_of P W g _ (h of_parts) in subst (λ z. BindsT K z r f) (sym e) (bound_placed f (declared_sound P g _ r reached p) (declared_placed P g _ r p) (λ n m q. h (of_global n m q)));
      sets = λ cs x e r v h. subst (λ z. SetsT K z r v × Unit {0}) (sym e) (set_by_write (write_free (declared_sound P g _ r reached (part_of P W g _ (h of_parts))) (λ n f q. h (of_global n f q))), tt);
      this_here = λ cs x e h. subst K.ThisT (sym e) this_at;
      makes = λ cs x e f h. let m = h of_parts in let d = parent_is P W g _ f m.0 m.1 in subst (λ z. K.StandT z f f) (sym e) (stands_at (record { reached = function_reached g f _ m.0 reached m.1; function = made_apart P g _ f m.0 (part_of P W g _ m.1) }) (ap (λ z. z.0) d) (ap (λ z. z.1) d));
      stands = λ cs x e ls s h. tt;
    }

    each_fine : (a : Aspect function_of) → FineStmts (Place a) (asked P g a) (first a) [] (body_of P g)
    each_fine of_parts = fine_by_parts P g
    each_fine (of_global n f e) = alone n f e g reached

    pub fine_functions : FineStmts Ctx (allowed K anything) (at (owner P g) 0) [] (body_of P g)
    fine_functions = stmts_together (Aspect function_of) Place (asked P g) Ctx (allowed K anything) At together (λ a. first a) (at (owner P g) 0) refl [] (body_of P g) each_fine

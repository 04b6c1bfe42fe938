-- A flattened program can be written as the old one could: its labels and the properties that it names
-- stood there.
use Rattle.std.proofs.Common.{◌≡◌, refl, ℕ, zero, suc, Bool, true, false, List, [], ◌∷◌, ◌++◌, map, Option, Some, None, subst, sym, ap, ◌∙◌}
use Rattle.std.specs.Prelude.{slice_get}
use Rattle.cc_ast.specs.Syntax.{Expr, assign, Target, Declarator, Stmt, simple, vars, fun_decl, if, while, do_while, for, for_in, return, throw, break, continue, label, switch, try, pay_stmt, Stmts, no_stmts, more_stmts, MaybeStmts, absent, present, Cases, no_cases, more_cases, Scope, Program}
use Rattle.cc_meaning.specs.State.{Path, Tables}
use Rattle.cc_meaning.specs.Monad.{pick}
use Rattle.cc_meaning.specs.Shapes.{path_of_target, tables_of, body_of, body_in}
use Rattle.cc_meaning.specs.Alike.{In}
use Rattle.cc_meaning.specs.Parts.{stmt_parts, stmts_parts}
use Rattle.cc_meaning.specs.WellMade.{parts_of, is_chunk}
use Rattle.cc_meaning.specs.Spelled.{stmt_labels, stmts_labels, maybe_labels, cases_labels}
use Rattle.cc_collapse.specs.Flattening.{flat_stmt, flat_stmts, flat_maybe, flat_cases, declared_at, key_vars, alone, set_path, is_among, own_value, own_stmt, still_unset, is_declared, and_also, holder_of, bare_vars, still_bare, in_list, own_list, declared_in, site_in, set_paths, bare_paths, new_number, flat_body, flat_scopes, flattened}
use Rattle.cc_collapse.specs.Law.{FlatteningKeepsSpelling}
use Rattle.cc_collapse.proofs.SpelledExprs.{Sub, sub_nil, stmts_sub}
use Rattle.cc_collapse.proofs.SpelledLists.{own_list_sub}

module _ (global : Option Path → Option ℕ) where
  mutual
    unfolding flat_stmt stmt_labels

    stmt_same : (s : Stmt) → stmt_labels (flat_stmt global s) ≡ stmt_labels s
    stmt_same (simple i e) = refl
    stmt_same (vars i ds) = refl
    stmt_same (fun_decl i r f) = refl
    stmt_same (if i t a b) = rw (stmts_same a, stmts_same b) refl
    stmt_same (while i t b) = stmts_same b
    stmt_same (do_while i b t) = stmts_same b
    stmt_same (for i h t e b) = stmts_same b
    stmt_same (for_in i t e b) = stmts_same b
    stmt_same (return i e) = refl
    stmt_same (throw i e) = refl
    stmt_same (break i l) = refl
    stmt_same (continue i l) = refl
    stmt_same (label i l b) = ap (λ z. l ∷ z) (stmts_same b)
    stmt_same (switch i e cs) = cases_same cs
    stmt_same (try i b k f) = rw (stmts_same b, maybe_same k, maybe_same f) refl
    stmt_same (pay_stmt i n) = refl

    stmts_same : (ss : Stmts) → stmts_labels (flat_stmts global ss) ≡ stmts_labels ss
    stmts_same no_stmts = refl
    stmts_same (more_stmts s ss) = rw (stmt_same s, stmts_same ss) refl

    maybe_same : (m : MaybeStmts) → maybe_labels (flat_maybe global m) ≡ maybe_labels m
    maybe_same absent = refl
    maybe_same (present ss) = stmts_same ss

    cases_same : (cs : Cases) → cases_labels (flat_cases global cs) ≡ cases_labels cs
    cases_same no_cases = refl
    cases_same (more_cases t b cs) = rw (stmts_same b, cases_same cs) refl

  -- ---- a chunk's own list

  unfoldable labels_of : List Stmt → List (List ℕ)
  unfolding stmt_labels
  labels_of [] = []
  labels_of (s ∷ ss) = stmt_labels s ++ labels_of ss

  append_nil : {A : Type 0} (xs : List A) → xs ++ [] ≡ xs
  append_nil [] = refl
  append_nil (x ∷ xs) = ap (λ z. x ∷ z) (append_nil xs)

  alone_same : (ds : List Declarator) → labels_of (map (alone global) ds) ≡ []
  unfolding labels_of alone stmt_labels
  alone_same [] = refl
  alone_same (d ∷ ds) = alone_same ds

  path_same : (b : Bool) (i j : ℕ) (t : Target) (e : Expr) → labels_of (set_path global b i j t e) ≡ []
  unfolding labels_of set_path stmt_labels
  path_same true i j t e = refl
  path_same false i j t e = alone_same (key_vars global (path_of_target t) e)

  value_same : (ws : List Path) (i : ℕ) (e : Expr) → labels_of (own_value global ws i e) ≡ []
  unfolding labels_of own_value stmt_labels
  value_same ws i (assign j None t e) = path_same (is_among global ws (path_of_target t)) i j t e
  value_same ws i _ = refl

  own_same : (ws : List Path) (s : Stmt) → labels_of (own_stmt global ws s) ≡ stmt_labels s
  unfolding labels_of own_stmt stmt_labels
  own_same ws (simple i e) = value_same ws i e
  own_same ws (vars i ds) = refl
  own_same ws s = append_nil (stmt_labels (flat_stmt global s)) ∙ stmt_same s

  bare_same : (i : ℕ) (ns : List ℕ) (ws : List Path) → labels_of (bare_vars global i ns ws) ≡ []
  unfolding labels_of bare_vars stmt_labels
  bare_same i ns [] = refl
  bare_same i ns (w ∷ ws) = by_case (is_declared global ns (global (Some (holder_of w)))) (bare_same i (and_also global (global (Some w)) ns) ws) (bare_same i ns ws)
    where
      by_case : (b : Bool) → labels_of (bare_vars global i (and_also global (global (Some w)) ns) ws) ≡ [] → labels_of (bare_vars global i ns ws) ≡ [] → labels_of (pick b (vars i (declared_at global i (global (Some w)) None) ∷ bare_vars global i (and_also global (global (Some w)) ns) ws) (bare_vars global i ns ws)) ≡ []
      by_case true h k = h
      by_case false h k = k

  append_on : {A : Type 0} (xs ys zs : List A) → (xs ++ ys) ++ zs ≡ xs ++ (ys ++ zs)
  append_on [] ys zs = refl
  append_on (x ∷ xs) ys zs = ap (λ z. x ∷ z) (append_on xs ys zs)

  listed_same : (xs : List Stmt) (ss : Stmts) → stmts_labels (in_list global xs ss) ≡ labels_of xs ++ stmts_labels ss
  unfolding labels_of in_list stmt_labels
  listed_same [] ss = refl
  listed_same (s ∷ xs) ss = ap (λ z. stmt_labels s ++ z) (listed_same xs ss) ∙ sym (append_on (stmt_labels s) (labels_of xs) (stmts_labels ss))

  list_same : (T : Tables) (ws bs : List Path) (ss : Stmts) → stmts_labels (own_list global T ws bs ss) ≡ stmts_labels ss
  unfolding own_list stmt_labels
  list_same T ws bs no_stmts = refl
  list_same T ws bs (more_stmts s ss) =
      let rest : Stmts = own_list global T (still_unset global s ws) (still_bare global (declared_in T (own_stmt global ws s)) bs) ss in
      let bare : List Stmt = bare_vars global (site_in (stmt_parts T 0 s)) (declared_in T (own_stmt global ws s)) bs in
      listed_same (own_stmt global ws s) (in_list global bare rest)
      ∙ ap (λ z. z ++ stmts_labels (in_list global bare rest)) (own_same ws s)
      ∙ ap (λ z. stmt_labels s ++ z) (listed_same bare rest ∙ ap (λ z. z ++ stmts_labels rest) (bare_same (site_in (stmt_parts T 0 s)) (declared_in T (own_stmt global ws s)) bs) ∙ list_same T (still_unset global s ws) (still_bare global (declared_in T (own_stmt global ws s)) bs) ss)

-- ---- scopes

body_same : (P : Program) (f : ℕ) (ss : Stmts) → stmts_labels (flat_body P f ss) ≡ stmts_labels ss
unfolding flat_body
body_same P f ss = by_case (is_chunk P f)
  where
    by_case : (b : Bool) → stmts_labels (pick b (own_list (new_number P) (tables_of P) (set_paths P f) (bare_paths P f) ss) (flat_stmts (new_number P) ss)) ≡ stmts_labels ss
    by_case true = list_same (new_number P) (tables_of P) (set_paths P f) (bare_paths P f) ss
    by_case false = stmts_same (new_number P) ss

body_sub : (P : Program) (T U : Tables) (f : ℕ) (ss : Stmts) → Sub (stmts_parts U 0 (flat_body P f ss)) (stmts_parts T 0 ss)
unfolding flat_body
body_sub P T U f ss = by_case (is_chunk P f)
  where
    by_case : (b : Bool) → Sub (stmts_parts U 0 (pick b (own_list (new_number P) (tables_of P) (set_paths P f) (bare_paths P f) ss) (flat_stmts (new_number P) ss))) (stmts_parts T 0 ss)
    by_case true = own_list_sub T U (new_number P) (tables_of P) (set_paths P f) (bare_paths P f) ss
    by_case false = stmts_sub T U (new_number P) 0 ss

-- a scope of the flattened program is one of the old one
record From (P : Program) (ss : List Scope) (f : ℕ) (s : Scope) : Type 0 where
  pub old : Scope
  pub number : ℕ
  pub stands : slice_get ss f ≡ Some old
  pub body : s.body ≡ flat_body P number old.body

scope_from : (P : Program) (k : ℕ) (ss : List Scope) (f : ℕ) (s : Scope) → slice_get (flat_scopes P k ss) f ≡ Some s → From P ss f s
unfolding flat_scopes
scope_from P k [] f s e = absurd (cc)
scope_from P k (x ∷ ss) zero s e = let d : record x { body = flat_body P k x.body } ≡ s = cc in record { old = x; number = k; stands = refl; body = sym (ap (λ z. z.body) d) }
scope_from P k (x ∷ ss) (suc f) s e = let h = scope_from P (suc k) ss f s e in record { old = h.old; number = h.number; stands = h.stands; body = h.body }

body_at : (P : Program) (T U : Tables) (k : ℕ) (ss : List Scope) (f : ℕ) → Sub (stmts_parts U 0 (body_in (slice_get (flat_scopes P k ss) f))) (stmts_parts T 0 (body_in (slice_get ss f)))
unfolding flat_scopes body_in stmt_parts
body_at P T U k [] f = sub_nil
body_at P T U k (x ∷ ss) zero = body_sub P T U k x.body
body_at P T U k (x ∷ ss) (suc f) = body_at P T U (suc k) ss f

pub keeps_spelling : (Identifier Name : List ℕ → Type 0) → FlatteningKeepsSpelling Identifier Name
unfolding flattened parts_of body_of
keeps_spelling Identifier Name P h = record {
  labels = λ f s l e i. let d = scope_from P 0 P.scopes f s e in h.labels f d.old l d.stands (subst (λ z. In l z) (ap stmts_labels d.body ∙ body_same P d.number d.old.body) i);
  props = λ f n p i e. h.props f n p ((body_at P (tables_of P) (tables_of (flattened P)) 0 P.scopes f).by n i) e;
}

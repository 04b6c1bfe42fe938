-- The law for whole programs: what is written with names and resolved again is alike.
use Rattle.std.proofs.Common.{◌≡◌, refl, sym, ap, ◌∙◌, subst, arith, inl, inr, ℕ, zero, suc, ◌+◌, ◌<◌, List, [], ◌∷◌, ◌++◌, length, map, Some, option_map}
use Rattle.std.specs.Prelude.{slice_get}
use Rattle.std.proofs.lemmas.Option.{slice_get-map, slice_get_within}
use Rattle.cc_ast.specs.Syntax.{Scope, Program}
use Rattle.cc_meaning.specs.Values.{Val}
use Rattle.cc_meaning.specs.State.{Tables}
use Rattle.cc_meaning.specs.Store.{dotted, name_of, prop_name, fitted}
use Rattle.cc_meaning.specs.Acts.{has_own_name}
use Rattle.cc_meaning.specs.Meaning.{head_in}
use Rattle.cc_meaning.specs.Script.{graph_of}
use Rattle.cc_meaning.specs.Shapes.{tables_of, head_of, body_of, body_in}
use Rattle.cc_meaning.specs.Alike.{In, Paired, OneToOne, Numbering, GlobalA, StmtsA, inside, owns, places_of, Alike}
use Rattle.cc_grammar.specs.RawTree.{RawStmts}
use Rattle.cc_scope.specs.Lists.{Name, new_names, distinct, or_zero}
use Rattle.cc_scope.specs.Marks.{names, Counters, past, stmts_marks}
use Rattle.cc_scope.specs.Resolve.{Outer, Source, global_named, prop_of, stmts_of, prop_info, kept_of, all_marks, outer_of, chunk_scope, chunk_scopes, inner_scopes, begin, program_of}
use Rattle.cc_scope.specs.Written.{Naming, Apart, rank, order_of, count_from, fresh, stmts_in, ChunksN}
use Rattle.cc_scope.proofs.Law.{in_either, Entry, Good, Out, no_ties, ChunksA, more_chunks, chunks, length_map}
use Rattle.cc_scope.proofs.Numbers.{rank_in, count_below, fresh_in, numbering, entry, entry_is, fits, pairs, pair_out, pairs_once, map_out, got, first_part, news_have, indexed, fitted_same}

pub length_chunks : (W : Outer) (i : Counters) (ts : List RawStmts) → length (chunk_scopes W i ts) ≡ length ts
unfolding chunk_scopes
length_chunks W i [] = refl
length_chunks W i (t ∷ ts) = ap suc (length_chunks W (past i (stmts_marks t)) ts)

-- ---- properties keep their names

named_prop : (ks : List Name) (xs : List Name) (k : ℕ) (x : Name) → slice_get xs k ≡ Some x → prop_name (slice_get (map (prop_info ks) xs) k) ≡ x
unfolding prop_name prop_info
named_prop ks xs k x e = ap prop_name (slice_get-map (prop_info ks) xs k ∙ ap (option_map (prop_info ks)) e)

pub spelled : (S : Source) (x : Name) → In x (names (all_marks S.trees)) → name_of (tables_of (program_of S)) (dotted (prop_of (outer_of S) x)) ≡ x
unfolding name_of tables_of program_of prop_of outer_of distinct or_zero
spelled S x i = elim (news_have x [] (names (all_marks S.trees)) i) [
  | inl j ↦ elim j [ ]
  | inr j ↦ (let d = indexed x (new_names [] (names (all_marks S.trees))) j in ap (λ o. prop_name (slice_get (map (prop_info (kept_of S)) (new_names [] (names (all_marks S.trees)))) (or_zero o))) d.1 ∙ named_prop (kept_of S) (new_names [] (names (all_marks S.trees))) d.0 x d.2)
]

-- ---- heads

head_at : (P : Program) (f : ℕ) (s : Scope) → slice_get P.scopes f ≡ Some s → slice_get (tables_of P).heads f ≡ Some (head_of s)
unfolding tables_of
head_at P f s e = slice_get-map head_of P.scopes f ∙ ap (option_map head_of) e

owns_is : (P : Program) (f : ℕ) (s : Scope) → slice_get P.scopes f ≡ Some s → owns (tables_of P) f ≡ s.own
unfolding owns has_own_name head_of
owns_is P f s e = ap has_own_name (head_at P f s e)

places_are : (P : Program) (f : ℕ) (s : Scope) (vs : List Val) → slice_get P.scopes f ≡ Some s → places_of (tables_of P) f vs ≡ fitted s.params s.names vs
unfolding places_of head_in head_of
places_are P f s vs e = ap (λ h. fitted (head_in h).0 (head_in h).1 vs) (head_at P f s e)

pub body_is : (P : Program) (f : ℕ) (s : Scope) → slice_get P.scopes f ≡ Some s → body_of P f ≡ s.body
unfolding body_of body_in
body_is P f s e = ap body_in e

module _ (v : Naming) (apart : Apart v) (P : Program) (S : Source) (Known : ℕ → Type 0) (G : List (ℕ × ℕ))
    (globals : (i : ℕ) → Known i → (j : ℕ) × (global_named (outer_of S) (v.global i) ≡ Some (Rattle.cc_ast.specs.declared.tree.Ref.Ref.Global j)) × Paired G i j) where
  abbrev W : Outer
  W = outer_of S

  abbrev Q : Program
  Q = program_of S

  abbrev T : Tables
  T = tables_of Q

  chunk_body : (N : Numbering) (c : ℕ) (i : Counters) (ts : List RawStmts) (k : ℕ) → ChunksA v apart P W T Known G globals N c i ts → k < length ts → (z : Scope) × (slice_get (chunk_scopes W i ts) k ≡ Some z) × StmtsA (tables_of P) T N [] (body_of P (c + k)) z.body
  unfolding chunk_scopes chunk_scope
  chunk_body N c i [] k h l = absurd (omega arith)
  chunk_body N c i (t ∷ ts) zero (more_chunks h j) l = (chunk_scope W i t, refl, subst (λ n. StmtsA (tables_of P) T N [] (body_of P n) (stmts_of W [] i t)) (let e : c ≡ c + 0 = omega arith in e) h)
  chunk_body N c i (t ∷ ts) (suc k) (more_chunks h j) l =
      let d = chunk_body N (suc c) (past i (stmts_marks t)) ts k j (omega arith) in
      (d.0, d.1, subst (λ n. StmtsA (tables_of P) T N [] (body_of P n) d.0.body) (let e : suc c + k ≡ c + suc k = omega arith in e) d.2)

  module _ (same : S.chunks ≡ P.chunks) (count : length S.trees ≡ length P.chunks) (written : ChunksN v P Known 0 S.trees) where
    out : Out v apart P W T Known G globals (begin S).function (all_marks S.trees) (inner_scopes W 0 (begin S) S.trees) [] [] (λ N. ChunksA v apart P W T Known G globals N 0 (begin S) S.trees)
    out = chunks v apart P W T Known G globals (begin S) written

    N : Numbering
    N = numbering G out.L

    good : (w : Entry) → In w out.L → Good v apart P W T Known G globals N w
    unfolding N
    good w i = out.bodies (numbering G out.L) (fits G out.L out.run) no_ties (spelled S) w i

    scope_at : (w : Entry) → In w out.L → slice_get Q.scopes w.g ≡ Some w.scope
    unfolding program_of begin
    scope_at w i = subst (λ l. slice_get (chunk_scopes W (begin S) S.trees ++ l) w.g ≡ Some w.scope) out.same (got (chunk_scopes W (begin S) S.trees) (length_chunks W (begin S) S.trees) out.run i)

    entry_here : (w : Entry) → In w out.L → entry out.L w.g ≡ w
    entry_here w i = entry_is out.run i

    -- for each pair of functions, what holds of those that were met
    each : (R : ℕ × ℕ → Type 0) → ((w : Entry) → In w out.L → R (w.f, w.g)) → (f g : ℕ) → Paired N.functions f g → R (f, g)
    unfolding N
    each R h f g p = let d = map_out (λ w. (w.f, w.g)) (f, g) out.L p in subst R d.2 (h d.0 d.1)

    own_at : (w : Entry) → In w out.L → owns (tables_of P) w.f ≡ owns T w.g
    own_at w i = owns_is P w.f w.from (good w i).stands ∙ sym (good w i).own ∙ sym (owns_is Q w.g w.scope (scope_at w i))

    small : (w : Entry) → In w out.L → (m n : ℕ) → rank m (order_of w.from) ≡ Some n → m < w.from.params + w.from.names
    unfolding order_of
    small w i m n e = elim (in_either (count_from 0 w.from.params) (fresh (count_from 0 w.from.params) (stmts_in w.from.body)) (rank_in m (order_of w.from) n e)) [
      | inl h ↦ (let k = count_below 0 w.from.params m h in omega arith)
      | inr h ↦ (good w i).small m (fresh_in (count_from 0 w.from.params) (stmts_in w.from.body) m h)
    ]

    fits_at : (w : Entry) → In w out.L → (vs : List Val) (m n : ℕ) → Paired (N.places (w.f, w.g)) m n → slice_get (places_of (tables_of P) w.f vs) m ≡ slice_get (places_of T w.g vs) n
    unfolding order_of N
    fits_at w i vs m n p =
        let e = pair_out (order_of w.from) m n (subst (λ u. Paired (pairs (order_of u.from)) m n) (entry_here w i) p) in
        ap (λ l. slice_get l m) (places_are P w.f w.from vs (good w i).stands)
        ∙ fitted_same w.from.params w.from.names w.scope.names m n (fresh (count_from 0 w.from.params) (stmts_in w.from.body)) vs e (small w i m n e) (sym (good w i).names)
        ∙ ap (λ k. slice_get (fitted k w.scope.names vs) n) (sym (good w i).params)
        ∙ ap (λ l. slice_get l n) (sym (places_are Q w.g w.scope vs (scope_at w i)))

    body_at : (w : Entry) → In w out.L → StmtsA (tables_of P) T N (inside (owns (tables_of P) w.f) (w.f, w.g) (N.around (w.f, w.g))) (body_of P w.f) (body_of Q w.g)
    unfolding N
    body_at w i =
        let g = good w i in
        subst (λ b. StmtsA (tables_of P) T N (inside (owns (tables_of P) w.f) (w.f, w.g) (N.around (w.f, w.g))) (body_of P w.f) b) (sym (body_is Q w.g w.scope (scope_at w i)))
        (subst (λ b. StmtsA (tables_of P) T N (inside (owns (tables_of P) w.f) (w.f, w.g) (N.around (w.f, w.g))) b w.scope.body) (sym (body_is P w.f w.from g.stands))
        (subst (λ b. StmtsA (tables_of P) T N (inside b (w.f, w.g) (N.around (w.f, w.g))) w.from.body w.scope.body) (sym (owns_is P w.f w.from g.stands))
        (subst (λ x. StmtsA (tables_of P) T N (inside w.from.own (w.f, w.g) x) w.from.body w.scope.body) (sym (ap (λ u. u.around) (entry_here w i))) g.body)))

    chunk_at : (c : ℕ) (deps : List ℕ) → slice_get (graph_of P) c ≡ Some deps → StmtsA (tables_of P) T N [] (body_of P c) (body_of Q c)
    unfolding graph_of program_of N
    chunk_at c deps e =
        let l = slice_get_within (graph_of P) c deps e in
        let m = length_map (λ k. k.deps) P.chunks in
        let d = chunk_body N 0 (begin S) S.trees c (out.alike (numbering G out.L) (fits G out.L out.run) no_ties (spelled S)) (omega arith) in
        subst (λ b. StmtsA (tables_of P) T N [] (body_of P c) b) (sym (body_is Q c d.0 (first_part (chunk_scopes W (begin S) S.trees) (inner_scopes W 0 (begin S) S.trees) c d.0 d.1)))
        (subst (λ k. StmtsA (tables_of P) T N [] (body_of P k) d.0.body) (let z : 0 + c ≡ c = omega arith in z) d.2)

    graph_same : graph_of P ≡ graph_of Q
    unfolding graph_of program_of
    graph_same = ap (map (λ c. c.deps)) (sym same)

    pub law : OneToOne G → ((i j : ℕ) → Paired G i j → GlobalA (tables_of P) T i j) → Alike P Q
    unfolding N
    law once kinds = record {
      N = N;
      graph = graph_same;
      globals_once = once;
      places_once = λ q. pairs_once (order_of (entry out.L q.1).from);
      globals = kinds;
      own = λ f g p. each (λ q. owns (tables_of P) q.0 ≡ owns T q.1) own_at f g p;
      fits = λ f g p vs m n h. each (λ q. Paired (N.places q) m n → slice_get (places_of (tables_of P) q.0 vs) m ≡ slice_get (places_of T q.1 vs) n) (λ w i. fits_at w i vs m n) f g p h;
      functions = λ f g p. each (λ q. StmtsA (tables_of P) T N (inside (owns (tables_of P) q.0) q (N.around q)) (body_of P q.0) (body_of Q q.1)) body_at f g p;
      chunks = chunk_at;
    }

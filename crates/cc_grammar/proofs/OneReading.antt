-- The tokens have one list of justified insertions that derives a program.
use Rattle.std.specs.Prelude.{◌≡◌, ℕ, List, [], ◌∷◌, ◌++◌}
use Rattle.std.proofs.Common.{refl, sym, ap, ◌∙◌, subst, append_assoc}
use Rattle.cc_grammar.specs.Symbols.{Lexeme, Symbol, Symbols, real, inserted, lexemes_of}
use Rattle.cc_grammar.specs.RawTree.{RawStmt}
use Rattle.cc_grammar.specs.Fronts.{Derives, IsFront, Offends, offending, Justified, ReadsWithin}
use Rattle.cc_grammar.specs.Laws.{IsOne}
use Rattle.cc_grammar.proofs.Clashes.{same_head, same_tail, nothing_some}
use Rattle.cc_grammar.proofs.Completeness.Complete.{one_tree}

-- it derives a program
pub record Is (xs : Symbols) : Type 0 where
  pub height : ℕ
  pub tree : List RawStmt
  pub derives : Derives height xs tree

-- the front of what derives
pub front_of : (b : Symbols) (x : Symbol) (xs : Symbols) → Is (b ++ x ∷ xs) → IsFront (b ++ x ∷ [])
front_of b x xs p = record { height = p.height; within = record { more = xs; tree = p.tree; derives = subst (λ ys. Derives p.height ys p.tree) (sym (append_assoc b (x ∷ []) xs)) p.derives } }

-- a token follows an insertion, and it doesn't go on with a front
pub no_token : {b xs : Symbols} → Offends b xs → [] ≡ lexemes_of xs → ⊥
no_token (offending t {after} e f) q = nothing_some t (lexemes_of after) q

pub no_front_token : {b xs : Symbols} (t : Lexeme) (ts : List Lexeme) → Offends b xs → t ∷ ts ≡ lexemes_of xs → IsFront (b ++ real t ∷ []) → ⊥
no_front_token {b} t ts (offending u {after} e f) q front = f (subst (λ (w : Lexeme). IsFront (b ++ real w ∷ [])) (same_head t u ts (lexemes_of after) q) front)

pub one_from : (b xs ys : Symbols) → lexemes_of xs ≡ lexemes_of ys → Justified (b ++ xs) → Justified (b ++ ys) → Is (b ++ xs) → Is (b ++ ys) → xs ≡ ys
one_from b [] [] e j k x y = refl
one_from b [] (real u ∷ ys) e j k x y = absurd (nothing_some _ _ e)
one_from b [] (inserted ∷ ys) e j k x y = absurd (no_token (k b ys refl) e)
one_from b (real t ∷ xs) [] e j k x y = absurd (nothing_some _ _ (sym e))
one_from b (inserted ∷ xs) [] e j k x y = absurd (no_token (j b xs refl) (sym e))
one_from b (real t ∷ xs) (inserted ∷ ys) e j k x y = absurd (no_front_token t (lexemes_of xs) (k b ys refl) e (front_of b (real t) xs x))
one_from b (inserted ∷ xs) (real u ∷ ys) e j k x y = absurd (no_front_token u (lexemes_of ys) (j b xs refl) (sym e) (front_of b (real u) ys y))
one_from b (real t ∷ xs) (real u ∷ ys) e j k x y =
    let same : real u ≡ real t = ap real (sym (same_head t u (lexemes_of xs) (lexemes_of ys) e)) in
    let a = sym (append_assoc b (real t ∷ []) xs) in
    let c = ap (λ (w : Symbol). b ++ w ∷ ys) same ∙ sym (append_assoc b (real t ∷ []) ys) in
    ap (λ l. real t ∷ l) (one_from (b ++ real t ∷ []) xs ys (same_tail t u (lexemes_of xs) (lexemes_of ys) e) (subst (λ l. Justified l) a j) (subst (λ l. Justified l) c k) (subst (λ l. Is l) a x) (subst (λ l. Is l) c y))
    ∙ ap (λ (w : Symbol). w ∷ ys) (sym same)
one_from b (inserted ∷ xs) (inserted ∷ ys) e j k x y =
    let a = sym (append_assoc b (inserted ∷ []) xs) in
    let c = sym (append_assoc b (inserted ∷ []) ys) in
    ap (λ l. inserted ∷ l) (one_from (b ++ inserted ∷ []) xs ys e (subst (λ l. Justified l) a j) (subst (λ l. Justified l) c k) (subst (λ l. Is l) a x) (subst (λ l. Is l) c y))

pub one_reading : {h i : ℕ} {ts : List Lexeme} {a b : List RawStmt} (p : ReadsWithin h ts a) (q : ReadsWithin i ts b) → p.symbols ≡ q.symbols
one_reading {h} {i} {a} {b} p q = one_from [] p.symbols q.symbols (p.tokens ∙ sym q.tokens) p.justified q.justified
    (record { height = h; tree = a; derives = p.derives }) (record { height = i; tree = b; derives = q.derives })

-- There is one tree.
pub one : IsOne
one h i ts a b text p q = one_tree (subst (λ xs. Derives h xs a) (one_reading p q) p.derives) q.derives

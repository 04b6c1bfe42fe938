-- What is read is derived: what the laws of expressions and statements have in common.
use Rattle.std.specs.Prelude.{◌≡◌, ℕ, zero, suc, ◌<◌, ◌≤◌, Bool, true, false, List, [], ◌∷◌, ◌++◌, Option, Some, None}
use Rattle.std.proofs.Common.{refl, sym, subst, ◌∙◌, append_assoc}
use Rattle.cc_ast.specs.declared.place.Place.{Place}
use Rattle.cc_lexer.specs.declared.token.Mark.TheVariants as mark
use Rattle.cc_grammar.specs.Symbols.{Kind, Symbols, look, rest, is_mark}
use Rattle.cc_grammar.specs.RawTree.{RawExpr, RawStmt, RawKey, Named}
use Rattle.cc_grammar.specs.Signs.{Infix, infix_of, level, key_of}
use Rattle.cc_grammar.specs.Grammar as g
use Rattle.cc_grammar.specs.Grammar.{Context, At, Sign, Variable, OwnName, MoreParams, Params, E, Field, T, at, named}
use Rattle.cc_grammar.specs.Reading.{Outcome, Fault, Sized, semicolon_symbol, variable_of, suffix_of, and_then}
use Rattle.cc_grammar.specs.Reading as r
use Rattle.cc_grammar.proofs.Meets.{Done, ok, err, after, fork, weaken}
use Rattle.cc_grammar.proofs.Marked.{In, marked, found, expected, seen_variable}

-- derived, within a height
pub record Derived (d : ℕ) (n : Bool) (l : ℕ) (xs : Symbols) (a : Sized RawExpr) (ys : Symbols) : Type 0 where
  pub tree : E a.1 n l xs a.0 ys
  pub low : a.1 ≤ d

-- no operator follows that binds as tightly
abbrev pub Stopped : Bool → ℕ → Symbols → Type 0
Stopped n l ys = (o : Infix) → infix_of n (look ys).kind ≡ Some o → level o < l

-- An operand of an operator is read as far as operators go on that bind more tightly.
pub record Operand (d : ℕ) (n : Bool) (l : ℕ) (xs : Symbols) (a : Sized RawExpr) (ys : Symbols) : Type 0 where
  pub whole : Derived d n l xs a ys
  pub stopped : 4 ≤ l → Stopped n l ys

-- What `new` calls is read as far as dots and brackets go on. Where a parenthesis follows, it is a member expression.
pub record Callee (d : ℕ) (n : Bool) (xs : Symbols) (a : Sized RawExpr) (ys : Symbols) : Type 0 where
  pub whole : Derived d n 17 xs a ys
  pub member : ¬ (suffix_of true (look ys).kind ≡ r.no_suffix) → E a.1 n 18 xs a.0 ys
  pub stopped : suffix_of false (look ys).kind ≡ r.no_suffix

-- statements that are derived, within a height
pub record Told (d : ℕ) (c : Context) (xs : Symbols) (b : Sized (List RawStmt)) (ys : Symbols) : Type 0 where
  pub tree : T c b.1 xs b.0 ys
  pub low : b.1 ≤ d

-- what stands inside is of a lesser height than d
pub record SoundInner (d : ℕ) (inner : In) : Type 0 where
  pub expr : (n : Bool) (l : ℕ) (xs : Symbols) → l ≤ 13 → Done (λ a ys. Operand d n l xs a ys × (a.1 < d)) (inner.expr n l xs)
  pub callee : (n : Bool) (xs : Symbols) → Done (λ a ys. Callee d n xs a ys × (a.1 < d)) (inner.expr n 17 xs)
  pub stmt : (c : Context) (xs : Symbols) → Done (λ b ys. Told d c xs b ys × (b.1 < d)) (inner.stmt c xs)

pub nothing_inside : SoundInner 0 (r.no_depth Symbols look rest semicolon_symbol)
nothing_inside = record { expr = λ n l xs b. err; callee = λ n xs. err; stmt = λ c xs. err }

-- a list that was read behind another
pub record EndsWith {A : Type 0} (Q : ℕ → Symbols → List A → Symbols → Type 0) (b : ℕ) (found : List A) (h : ℕ) (xs : Symbols) (r : Sized (List A)) (ys : Symbols) : Type 0 where
  pub more : List A
  pub tree : Q r.1 xs more ys
  pub is : r.0 ≡ found ++ more
  pub above : h ≤ r.1
  pub low : r.1 < b

-- the whole list, behind none
pub whole_list : {A : Type 0} {Q : ℕ → Symbols → List A → Symbols → Type 0} {b h : ℕ} {xs ys : Symbols} {r : Sized (List A)} → EndsWith Q b [] h xs r ys → Q r.1 xs r.0 ys
whole_list {Q} {xs} {ys} {r} p = subst (λ y. Q r.1 xs y ys) (sym p.is) p.tree

-- ---- variables

-- a variable, and what is read behind it
pub after_variable : {B : Type 0} {Q : B → Symbols → Type 0} (f : Named → Symbols → Outcome Symbols B) (xs : Symbols)
    → ((n : List ℕ) (ys : Symbols) → Variable xs n ys → Done Q (f (named xs n) ys)) → Done Q (and_then (r.variable Symbols look rest semicolon_symbol xs) f)
unfolding r.variable
after_variable {B} {Q} f xs h = by (variable_of (look xs).kind) refl where
  by : (v : Option (List ℕ)) → variable_of (look xs).kind ≡ v → Done Q (and_then (r.variable_by Symbols look rest semicolon_symbol v xs) f)
  by None e = err
  by (Some n) e = h n (rest xs) (seen_variable xs n e)

pub own_name_sound : (xs : Symbols) → Done (λ o ys. OwnName xs o ys) (r.own_name Symbols look rest semicolon_symbol xs)
unfolding r.own_name
own_name_sound xs = by (variable_of (look xs).kind) (is_mark mark.OpenParen (look xs).kind) refl where
  by : (v : Option (List ℕ)) (b : Bool) → variable_of (look xs).kind ≡ v → Done (λ o ys. OwnName xs o ys) (r.own_name_by Symbols look rest semicolon_symbol v b xs)
  by None true e = ok g.no_name
  by None false e = err
  by (Some n) b e = ok (g.own_name (seen_variable xs n e))

-- parameters that were read behind others
pub record ParamsAfter (found : List Named) (xs : Symbols) (r : List Named) (ys : Symbols) : Type 0 where
  pub more : List Named
  pub tree : MoreParams xs more ys
  pub is : r ≡ found ++ more

pub params_sound : (m : ℕ) (found : List Named) (xs : Symbols) → Done (λ ps ys. ParamsAfter found xs ps ys) (r.params Symbols look rest semicolon_symbol m found xs)
unfolding r.params
params_sound zero found xs = err
params_sound (suc m) found xs = after_variable _ xs (λ n ys v. fork (is_mark mark.Comma (look ys).kind) _ _
    (λ e. weaken (params_sound m (found ++ named xs n ∷ []) (rest ys)) (λ ps zs p.
    record { more = named xs n ∷ p.more; tree = g.more_params v (marked mark.Comma ys e) p.tree; is = p.is ∙ append_assoc found (named xs n ∷ []) p.more }))
    (λ _. after (expected mark.CloseParen ys) (λ _ zs c. ok (record { more = named xs n ∷ []; tree = g.last_param v c; is = refl }))))

pub params_of_sound : (turns : ℕ) (xs : Symbols) → Done (λ ps ys. Params xs ps ys) (r.params_of Symbols look rest semicolon_symbol turns xs)
unfolding r.params_of
params_of_sound turns xs = fork (is_mark mark.CloseParen (look xs).kind) _ _ (λ e. ok (g.no_params (marked mark.CloseParen xs e)))
    (λ _. weaken (params_sound turns [] xs) (λ ps ys p. g.some_params (subst (λ y. MoreParams xs y ys) (sym p.is) p.tree)))

-- ---- keys

pub data IsKey (xs : Symbols) : Place × RawKey → Symbols → Type 0 where
  is_key : {x : Kind} {y : RawKey} {ys : Symbols} → At x xs ys → key_of x ≡ Some y → IsKey xs (at xs, y) ys

pub field_tree : {h : ℕ} {e : RawExpr} {y : Place × RawKey} {xs ys zs ws : Symbols} → IsKey xs y ys → Sign mark.Colon ys zs → E h true 1 zs e ws
    → Field h xs (record { place = y.0; key = y.1; value = e }) ws
field_tree (is_key c q) p x = g.field c q p x

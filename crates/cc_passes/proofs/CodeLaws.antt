-- Lists of scopes are the same exactly where their codes are.
use Rattle.std.specs.Prelude.{◌≡◌, ◌↔◌, IsTrue, Bool, true, false, ◌&&◌, List}
use Rattle.std.specs.Coded.{coded_list}
use Rattle.std.proofs.Common.{refl, ap, sym, ◌∙◌, subst}
use Rattle.std.proofs.lemmas.Bool.{eq-eqb, eqb-true}
use base.Stored.{Gv, gnil, gnum, gcons}
use Rattle.cc_ast.specs.Syntax.{Scope}
use Rattle.cc_ast.specs.Codes.{coded_scope}
use Rattle.cc_passes.specs.Codes.{same_code, are_same}

and_left : (a b : Bool) → (a && b) ≡ true → a ≡ true
and_left true b h = refl
and_left false b h = absurd (cc)

and_right : (a b : Bool) → (a && b) ≡ true → b ≡ true
and_right true b h = h
and_right false b h = absurd (cc)

and_both : (a b : Bool) → a ≡ true → b ≡ true → (a && b) ≡ true
and_both a b p q = rw (p, q) refl

code_once : (a b : Gv) → same_code a b ≡ true → a ≡ b
unfolding same_code
code_once gnil gnil h = refl
code_once gnil (gnum n) h = absurd (cc)
code_once gnil (gcons a b) h = absurd (cc)
code_once (gnum m) gnil h = absurd (cc)
code_once (gnum m) (gnum n) h = ap gnum (eqb-true m n h)
code_once (gnum m) (gcons a b) h = absurd (cc)
code_once (gcons a b) gnil h = absurd (cc)
code_once (gcons a b) (gnum n) h = absurd (cc)
code_once (gcons a b) (gcons c d) h = ap (λ z. gcons z b) (code_once a c (and_left (same_code a c) (same_code b d) h)) ∙ ap (λ z. gcons c z) (code_once b d (and_right (same_code a c) (same_code b d) h))

same_itself : (a : Gv) → same_code a a ≡ true
unfolding same_code
same_itself gnil = refl
same_itself (gnum n) = eq-eqb n n refl
same_itself (gcons a b) = and_both (same_code a a) (same_code b b) (same_itself a) (same_itself b)

pub scopes_once : (xs ys : List Scope) → are_same xs ys ≡ true → xs ≡ ys
unfolding are_same
scopes_once xs ys h = (coded_list coded_scope).inj xs ys (code_once _ _ h)

pub scopes_same : (xs ys : List Scope) → xs ≡ ys → are_same xs ys ≡ true
unfolding are_same
scopes_same xs ys e = subst (λ zs. same_code ((coded_list coded_scope).code xs) ((coded_list coded_scope).code zs) ≡ true) e (same_itself ((coded_list coded_scope).code xs))

-- what tells whether they are the same is the test of their codes
pub same_test : (r : Bool) (xs ys : List Scope) → IsTrue r ↔ (xs ≡ ys) → r ≡ are_same xs ys
same_test true xs ys h = sym (scopes_same xs ys (h.0 refl))
same_test false xs ys h = by (are_same xs ys) refl
  where
    by : (b : Bool) → are_same xs ys ≡ b → false ≡ b
    by true e = let t : IsTrue false = h.1 (scopes_once xs ys e) in absurd (cc)
    by false e = refl

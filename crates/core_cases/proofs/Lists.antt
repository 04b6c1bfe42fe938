-- Lists of scopes without docs.
use Rattle.std.specs.Prelude.{ℕ, ◌+◌, List, [], ◌∷◌, length}
use Rattle.std.specs.List.{push}
use Rattle.std.proofs.Common.{◌≡◌, refl, ap, ◌∙◌, arith}
use Rattle.cc_ast.specs.Syntax.{Scope}
use Rattle.cc_clear.specs.Clear.{NoDocs}

-- one more scope without a doc
pub none_more : (xs : List Scope) (x : Scope) → NoDocs xs → x.doc ≡ 0 → NoDocs (push xs x)
none_more [] x none e = (e, tt)
none_more (y ∷ ys) x none e = (none.0, none_more ys x none.1 e)

length_push : (xs : List Scope) (x : Scope) → length (push xs x) ≡ length xs + 1
length_push [] x = refl
length_push (y ∷ ys) x = let h : length (push ys x) ≡ length ys + 1 = length_push ys x in omega arith

pub one_longer : (xs : List Scope) (x : Scope) (n : ℕ) → length xs ≡ n → length (push xs x) ≡ n + 1
one_longer xs x n e = length_push xs x ∙ ap (λ k. k + 1) e

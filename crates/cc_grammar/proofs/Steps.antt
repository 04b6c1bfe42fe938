-- Steps of a reader that goes through.
use Rattle.std.specs.Prelude.{◌≡◌, ℕ, ◌<◌, ◌≤◌, Bool, true, false, Ok, Err, cond, nat_lt, List, Some}
use Rattle.std.proofs.Common.{refl, ap, ◌∙◌, lt-ltb, le-ltb}
use Rattle.cc_lexer.specs.declared.token.Mark.{Mark}
use Rattle.cc_lexer.specs.declared.token.Mark.TheVariants as mark
use Rattle.cc_lexer.specs.declared.word.Word.{Word}
use Rattle.cc_grammar.specs.Symbols.{Kind, Lexeme, Symbols, real, inserted, look, rest, is_mark, is_word}
use Rattle.cc_grammar.specs.Symbols as k
use Rattle.cc_grammar.specs.Grammar as g
use Rattle.cc_grammar.specs.Grammar.{At, Sign, Reserved, Ends, Variable}
use Rattle.cc_grammar.specs.Reading.{Outcome, and_then, semicolon_symbol, variable_of, allowed}
use Rattle.cc_grammar.specs.Reading as r
use Rattle.cc_grammar.proofs.Views.{mark_self, word_self}

pub step : {S A B : Type 0} {o : Outcome S A} {a : A} {i : S} (f : A → S → Outcome S B) {x : Outcome S B} → o ≡ Ok (a, i) → f a i ≡ x → and_then o f ≡ x
step f e h = ap (λ y. and_then y f) e ∙ h

pub chosen : {X : Type 0} {b : Bool} (x y : X) {z : X} → b ≡ true → x ≡ z → cond b x y ≡ z
chosen x y e h = ap (λ c. cond c x y) e ∙ h

pub skipped : {X : Type 0} {b : Bool} (x y : X) {z : X} → b ≡ false → y ≡ z → cond b x y ≡ z
skipped x y e h = ap (λ c. cond c x y) e ∙ h

pub chosen_at : {S X : Type 0} (b : Bool) (x y : S → X) {i : S} {z : X} → b ≡ true → x i ≡ z → cond b x y i ≡ z
chosen_at b x y {i} e h = ap (λ c. cond c x y i) e ∙ h

pub skipped_at : {S X : Type 0} (b : Bool) (x y : S → X) {i : S} {z : X} → b ≡ false → y i ≡ z → cond b x y i ≡ z
skipped_at b x y {i} e h = ap (λ c. cond c x y i) e ∙ h

-- ---- tokens

pub kind_at : {x : Kind} {xs ys : Symbols} → At x xs ys → (look xs).kind ≡ x
kind_at (g.at_token t e) = e

pub rest_at : {x : Kind} {xs ys : Symbols} → At x xs ys → rest xs ≡ ys
rest_at (g.at_token t e) = refl

pub mark_at : {m : Mark} {xs ys : Symbols} → Sign m xs ys → is_mark m (look xs).kind ≡ true
mark_at {m} c = ap (is_mark m) (kind_at c) ∙ mark_self m

pub word_at : {w : Word} {xs ys : Symbols} → Reserved w xs ys → is_word w (look xs).kind ≡ true
word_at {w} c = ap (is_word w) (kind_at c) ∙ word_self w

-- what a table tells of a token
pub table_at : {A : Type 0} (f : Kind → A) {x : Kind} {xs ys : Symbols} → At x xs ys → f (look xs).kind ≡ f x
table_at f c = ap f (kind_at c)

pub taken : {m : Mark} {xs ys : Symbols} → Sign m xs ys → r.expect Symbols look rest semicolon_symbol m xs ≡ Ok (tt, ys)
unfolding r.expect
taken c = chosen _ _ (mark_at c) (ap (λ ys. Ok (tt, ys)) (rest_at c))

pub taken_word : {w : Word} {xs ys : Symbols} → Reserved w xs ys → r.expect_word Symbols look rest semicolon_symbol w xs ≡ Ok (tt, ys)
unfolding r.expect_word
taken_word c = chosen _ _ (word_at c) (ap (λ ys. Ok (tt, ys)) (rest_at c))

pub taken_end : {xs ys : Symbols} → At k.end xs ys → r.expect_end Symbols look rest semicolon_symbol xs ≡ Ok (tt, ys)
unfolding r.expect_end
taken_end c = chosen _ _ (table_at Rattle.cc_grammar.specs.Fronts.is_end c) (ap (λ ys. Ok (tt, ys)) (rest_at c))

pub ends_at : {xs ys : Symbols} → Ends xs ys → semicolon_symbol xs ≡ Ok (tt, ys)
ends_at (g.written (g.at_token t e)) = chosen _ _ (ap (is_mark mark.Semicolon) e ∙ mark_self mark.Semicolon) refl
ends_at g.added = refl

pub variable_at : {n : List ℕ} {xs ys : Symbols} → Variable xs n ys → variable_of (look xs).kind ≡ Some n
variable_at (g.variable {n} c e) = table_at variable_of c ∙ ap (λ x. allowed x n) e
variable_at (g.any_variable c) = table_at variable_of c

pub variable_rest : {n : List ℕ} {xs ys : Symbols} → Variable xs n ys → rest xs ≡ ys
variable_rest (g.variable c e) = rest_at c
variable_rest (g.any_variable c) = rest_at c

pub taken_variable : {n : List ℕ} {xs ys : Symbols} → Variable xs n ys → r.variable Symbols look rest semicolon_symbol xs ≡ Ok (g.named xs n, ys)
unfolding r.variable
taken_variable {n} {xs} v = ap (λ x. r.variable_by Symbols look rest semicolon_symbol x xs) (variable_at v) ∙ ap (λ ys. Ok (g.named xs n, ys)) (variable_rest v)

-- ---- depths

pub opened : {X : Type 0} (a b : ℕ) (x y : X) {z : X} → a < b → x ≡ z → cond (nat_lt a b) x y ≡ z
opened a b x y lt h = chosen x y (lt-ltb a b lt) h

pub shut : {X : Type 0} (a b : ℕ) (x y : X) {z : X} → b ≤ a → y ≡ z → cond (nat_lt a b) x y ≡ z
shut a b x y le h = skipped x y (le-ltb a b le) h

-- ---- two that go on alike

pub same_after : {S A B : Type 0} (o : Outcome S A) (f h : A → S → Outcome S B) → ((a : A) (i : S) → f a i ≡ h a i) → and_then o f ≡ and_then o h
same_after (Ok p) f h e = e p.0 p.1
same_after (Err x) f h e = refl

pub same_cond : {X : Type 0} (b : Bool) (x y z : X) → (b ≡ true → x ≡ z) → cond b x y ≡ cond b z y
same_cond true x y z e = e refl
same_cond false x y z e = refl

pub same_fork : {S X : Type 0} (b : Bool) (x y z : S → X) {i : S} → (b ≡ true → x i ≡ z i) → cond b x y i ≡ cond b z y i
same_fork true x y z e = e refl
same_fork false x y z e = refl

pub other_fork : {S X : Type 0} (b : Bool) (x y z : S → X) {i : S} → (b ≡ false → y i ≡ z i) → cond b x y i ≡ cond b x z i
other_fork true x y z e = refl
other_fork false x y z e = e refl

pub regroup : {S A B C : Type 0} (o : Outcome S A) (f : A → S → Outcome S B) (h : B → S → Outcome S C) → and_then o (λ a i. and_then (f a i) h) ≡ and_then (and_then o f) h
regroup (Ok p) f h = refl
regroup (Err x) f h = refl

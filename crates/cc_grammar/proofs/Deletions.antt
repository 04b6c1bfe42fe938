-- The look ahead behind `delete`, and what it comes to: a variable, perhaps in parentheses.
use Rattle.std.specs.Prelude.{◌≡◌, ℕ, zero, suc, ◌<◌, not, Bool, true, false, cond, is_some, List, [], ◌∷◌, ◌++◌, map, Ok, Option, Some, None}
use Rattle.std.proofs.Common.{refl, ap, ◌∙◌, arith}
use Rattle.cc_ast.specs.declared.operator.UnOp.{UnOp}
use Rattle.cc_ast.specs.declared.operator.UnOp.TheVariants as op
use Rattle.cc_ast.specs.declared.place.Place.{Place}
use Rattle.cc_lexer.specs.declared.token.Mark.TheVariants as mark
use Rattle.cc_lexer.specs.declared.word.Word.TheVariants as word
use Rattle.cc_grammar.specs.Symbols.{Kind, Lexeme, Symbols, real, look, rest, is_mark}
use Rattle.cc_grammar.specs.Symbols as k
use Rattle.cc_grammar.specs.RawTree.{RawExpr, RawTarget}
use Rattle.cc_grammar.specs.RawTree as raw
use Rattle.cc_grammar.specs.Signs.{Prefix, target_of, is_variable, prefix_of, prefix_tree, infix_tree, parenthesised}
use Rattle.cc_grammar.specs.Signs as sign
use Rattle.cc_grammar.specs.Grammar as g
use Rattle.cc_grammar.specs.Grammar.{Sign, Variable, E}
use Rattle.cc_grammar.specs.Reading.{Outcome, is_delete, goes_on, variable_of}
use Rattle.cc_grammar.specs.Reading as r
use Rattle.cc_grammar.proofs.Clashes.{never}
use Rattle.cc_grammar.proofs.Marked.{marked, seen_variable}
use Rattle.cc_grammar.proofs.Mono.{prefix_no_target, infix_no_target}
use Rattle.cc_grammar.proofs.Shrinks.{reals, at_less}
use Rattle.cc_grammar.proofs.OnSymbols as s

-- so many closing parentheses
pub data Closers : ℕ → Symbols → Symbols → Type 0 where
  closed_all : {xs : Symbols} → Closers 0 xs xs
  close_one : {m : ℕ} {xs ys zs : Symbols} → Sign mark.CloseParen xs ys → Closers m ys zs → Closers (suc m) xs zs

-- a variable in parentheses, and so many that close others
pub data Nest : ℕ → Symbols → Symbols → Type 0 where
  bare : {m : ℕ} {v : List ℕ} {xs ys zs : Symbols} → Variable xs v ys → Closers m ys zs → Nest m xs zs
  nested : {m : ℕ} {xs ys zs : Symbols} → Sign mark.OpenParen xs ys → Nest (suc m) ys zs → Nest m xs zs

data ClosedLooks (m : ℕ) (xs : Symbols) : Outcome Symbols Bool → Type 0 where
  closed_true : {j : Symbols} → Closers m xs j → ClosedLooks m xs (Ok (true, j))
  closed_false : {j : Symbols} → ClosedLooks m xs (Ok (false, j))

pub data Looks (m : ℕ) (xs : Symbols) : Outcome Symbols Bool → Type 0 where
  looks_true : {j : Symbols} → Nest m xs j → Looks m xs (Ok (true, j))
  looks_false : {j : Symbols} → Looks m xs (Ok (false, j))

closed_first : (b : Bool) (xs : Symbols) → ClosedLooks 0 xs (Ok (b, xs))
closed_first true xs = closed_true closed_all
closed_first false xs = closed_false

closed_step : {m : ℕ} {xs ys : Symbols} {o : Outcome Symbols Bool} → Sign mark.CloseParen xs ys → ClosedLooks m ys o → ClosedLooks (suc m) xs o
closed_step c (closed_true h) = closed_true (close_one c h)
closed_step c closed_false = closed_false

closed_choice : {m : ℕ} {xs : Symbols} (b : Bool) (p q : s.Reader Bool) → (b ≡ true → ClosedLooks m xs (p xs)) → (b ≡ false → ClosedLooks m xs (q xs)) → ClosedLooks m xs (cond b p q xs)
closed_choice true p q h l = h refl
closed_choice false p q h l = l refl

closed_looks : (m : ℕ) (xs : Symbols) → ClosedLooks m xs (s.closed m xs)
unfolding r.closed
closed_looks zero xs = closed_first (not (goes_on (look xs))) xs
closed_looks (suc m) xs = closed_choice (is_mark mark.CloseParen (look xs).kind) _ _ (λ e. closed_step (marked mark.CloseParen xs e) (closed_looks m (rest xs))) (λ _. closed_false)

looks_choice : {m : ℕ} {xs : Symbols} (b : Bool) (p q : s.Reader Bool) → (b ≡ true → Looks m xs (p xs)) → (b ≡ false → Looks m xs (q xs)) → Looks m xs (cond b p q xs)
looks_choice true p q h l = h refl
looks_choice false p q h l = l refl

looks_in : {m : ℕ} {xs ys : Symbols} {o : Outcome Symbols Bool} → Sign mark.OpenParen xs ys → Looks (suc m) ys o → Looks m xs o
looks_in c (looks_true h) = looks_true (nested c h)
looks_in c looks_false = looks_false

looks_at : {m : ℕ} {v : List ℕ} {xs ys : Symbols} {o : Outcome Symbols Bool} → Variable xs v ys → ClosedLooks m ys o → Looks m xs o
looks_at c (closed_true h) = looks_true (bare c h)
looks_at c closed_false = looks_false

a_variable : (xs : Symbols) (o : Option (List ℕ)) → variable_of (look xs).kind ≡ o → is_some o ≡ true → (v : List ℕ) × Variable xs v (rest xs)
a_variable xs (Some v) e f = (v, seen_variable xs v e)
a_variable xs None e f = let no : false ≡ true = f in absurd (cc)

pub opened_looks : (m count : ℕ) (xs : Symbols) → reals xs < m → Looks count xs (s.opened m count xs)
unfolding r.opened
opened_looks zero count xs lt = absurd (omega arith)
opened_looks (suc m) count xs lt = looks_choice (is_mark mark.OpenParen (look xs).kind) _ _
    (λ e. let c = marked mark.OpenParen xs e in looks_in c (opened_looks m (suc count) (rest xs) (omega (arith, at_less c))))
    (λ _. looks_choice (is_some (variable_of (look xs).kind)) _ _ (λ e. looks_at (a_variable xs (variable_of (look xs).kind) refl e).1 (closed_looks count (rest xs))) (λ _. looks_false))

-- the variable as an expression, and the parentheses that close others
pub record Found (m : ℕ) (b : Bool) (l : ℕ) (xs zs : Symbols) : Type 0 where
  pub height : ℕ
  pub tree : RawExpr
  pub place : Symbols
  pub is : E height b l xs tree place
  pub closers : Closers m place zs
  pub variable : is_variable tree ≡ true

cast_too : (t : Lexeme) (e : RawExpr) → is_variable e ≡ true → is_variable (parenthesised t e) ≡ true
cast_too t e f = by t.noted where
  by : (b : Bool) → is_variable (cond b (raw.cast t.place e) e) ≡ true
  by true = f
  by false = f

found_in : {m : ℕ} {b : Bool} {l : ℕ} {xs ys zs : Symbols} → Sign mark.OpenParen xs ys → Found (suc m) true 0 ys zs → Found m b l xs zs
found_in {m} {b} {l} {xs} {ys} {zs} c f = by f.closers where
  by : {ws : Symbols} → Closers (suc m) f.place ws → Found m b l xs ws
  by (close_one o h) = record { height = suc f.height; tree = parenthesised (look xs) f.tree; place = _; is = g.paren (omega arith) c f.is o; closers = h; variable = cast_too (look xs) f.tree f.variable }

pub nest_found : {m : ℕ} (b : Bool) (l : ℕ) {xs zs : Symbols} → Nest m xs zs → Found m b l xs zs
nest_found b l (bare {v} {xs} c h) = record { height = 0; tree = raw.var (g.at xs) v; place = _; is = g.name c; closers = h; variable = refl }
nest_found b l (nested c h) = found_in c (nest_found true 0 h)

pub all_closed : {b : Bool} {l : ℕ} {xs zs : Symbols} (f : Found 0 b l xs zs) → E f.height b l xs f.tree zs
all_closed {b} {l} {xs} f = by f.closers f.is where
  by : {ys zs : Symbols} → Closers 0 ys zs → E f.height b l xs f.tree ys → E f.height b l xs f.tree zs
  by closed_all x = x

-- ---- its tokens

-- the tokens, before any list
pub record Told (P : Symbols → Symbols → Type 0) (xs zs : Symbols) : Type 0 where
  pub tokens : List Lexeme
  pub is : xs ≡ map real tokens ++ zs
  pub moved : (ws : Symbols) → P (map real tokens ++ ws) ws

one_token : {P Q : Symbols → Symbols → Type 0} {x : k.Kind} {xs ys zs : Symbols} → g.At x xs ys → ((ws us : Symbols) → g.At x (real (look xs) ∷ us) us → P us ws → Q (real (look xs) ∷ us) ws) → Told P ys zs → Told Q xs zs
one_token {xs} (g.at_token t e) f w = record { tokens = t ∷ w.tokens; is = ap (λ l. real t ∷ l) w.is; moved = λ ws. f ws _ (g.at_token t e) (w.moved ws) }

closers_told : {m : ℕ} {xs zs : Symbols} → Closers m xs zs → Told (Closers m) xs zs
closers_told closed_all = record { tokens = []; is = refl; moved = λ ws. closed_all }
closers_told (close_one c h) = one_token c (λ ws us a b. close_one a b) (closers_told h)

pub nest_told : {m : ℕ} {xs zs : Symbols} → Nest m xs zs → Told (Nest m) xs zs
nest_told (bare (g.variable c e) h) = one_token c (λ ws us a b. bare (g.variable a e) b) (closers_told h)
nest_told (bare (g.any_variable c) h) = one_token c (λ ws us a b. bare (g.any_variable a) b) (closers_told h)
nest_told (nested c h) = one_token c (λ ws us a b. nested a b) (nest_told h)

-- ---- what is deleted

closed_behind : {m : ℕ} {xs ys zs : Symbols} → Closers m xs ys → Sign mark.CloseParen ys zs → Closers (suc m) xs zs
closed_behind closed_all c = close_one c closed_all
closed_behind (close_one o h) c = close_one o (closed_behind h c)

one_deeper : {m : ℕ} {xs ys zs : Symbols} → Nest m xs ys → Sign mark.CloseParen ys zs → Nest (suc m) xs zs
one_deeper (bare v h) c = bare v (closed_behind h c)
one_deeper (nested o h) c = nested o (one_deeper h c)

pub no_variable : (e : RawExpr) → target_of e ≡ None → is_variable e ≡ true → ⊥
no_variable (raw.var p n) q f = cc
no_variable (raw.cast p e) q f = no_variable e q f
no_variable _ q f = cc

uncast : (t : Lexeme) (e : RawExpr) → is_variable (parenthesised t e) ≡ true → is_variable e ≡ true
uncast t e f = by t.noted f where
  by : (b : Bool) → is_variable (cond b (raw.cast t.place e) e) ≡ true → is_variable e ≡ true
  by true f = f
  by false f = f

-- an expression that is a variable
pub variable_nest : {h l : ℕ} {b : Bool} {xs ys : Symbols} {e : RawExpr} → E h b l xs e ys → is_variable e ≡ true → Nest 0 xs ys
variable_nest (g.this c) f = never f
variable_nest (g.name v) f = bare v closed_all
variable_nest (g.literal c q) f = never f
variable_nest (g.operand c) f = never f
variable_nest (g.paren {e} {xs} lt o x c) f = nested o (one_deeper (variable_nest x (uncast (look xs) e f)) c)
variable_nest (g.array lt o x) f = never f
variable_nest (g.object lt o x) f = never f
variable_nest (g.function lt o x c) f = never f
variable_nest (g.dotted v l lt x o p q) f = never f
variable_nest (g.bracketed v l lt lu x o y p) f = never f
variable_nest (g.call v lt lu x o y) f = never f
variable_nest (g.new_call v lt lu o x p y) f = never f
variable_nest (g.new v i lt o x) f = never f
variable_nest (g.postfix v lt x w s o p) f = never f
variable_nest (g.prefix {o} {e} {f = u} {xs} v lt c p x q) f = absurd (no_variable u (prefix_no_target o (g.at xs) e u q) f)
variable_nest (g.wrong_prefix v lt o p x q c) f = never f
variable_nest (g.binary {o} {e} {f = u} {ys} v lt lu x c p y) f = absurd (no_variable (infix_tree o (g.at ys) e u) (infix_no_target o (g.at ys) e u) f)
variable_nest (g.conditional v lt lu lv x o y p z) f = never f
variable_nest (g.assign v lt lu x w o p y) f = never f
variable_nest (g.comma lt lu x o y) f = never f

a_delete : (o : Prefix) → is_delete o ≡ true → o ≡ sign.unary op.Delete
a_delete (sign.unary op.Delete) f = refl
a_delete (sign.step up) f = never f
a_delete (sign.unary _) f = never f

delete_word : (x : Kind) → prefix_of x ≡ Some (sign.unary op.Delete) → x ≡ k.word word.Delete
delete_word (k.word word.Delete) e = refl
delete_word (k.mark mark.PlusPlus) e = cc
delete_word _ e = cc

pub delete_kind : (x : Kind) (o : Prefix) → prefix_of x ≡ Some o → is_delete o ≡ true → x ≡ k.word word.Delete
delete_kind x o e f = delete_word x (e ∙ ap (λ p. Some p) (a_delete o f))

-- where the tree of a unary operator is none
pub deletes : (o : UnOp) (p : Place) (e : RawExpr) → prefix_tree (sign.unary o) p e ≡ None → (is_delete (sign.unary o) ≡ true) × (is_variable e ≡ true)
deletes op.Delete p e q = (refl, by (is_variable e) refl q) where
  by : (b : Bool) → is_variable e ≡ b → cond b None (Some (raw.unary p op.Delete e)) ≡ None → is_variable e ≡ true
  by true f q = f
  by false f q = cc
deletes op.Plus p e q = cc
deletes op.Minus p e q = cc
deletes op.BitNot p e q = cc
deletes op.Not p e q = cc
deletes op.Void p e q = cc
deletes op.Typeof p e q = cc

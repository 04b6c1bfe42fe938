-- Where reading stops, what came before is a front: what the laws of the parts have in common.
use Rattle.std.specs.Prelude.{◌≡◌, ℕ, ◌<◌, ◌≤◌, Bool, true, false, cond, nat_lt, is_some, Ok, Err, List, [], ◌∷◌, ◌++◌, map, Option, Some, None}
use Rattle.std.proofs.Common.{refl, sym, ap, ◌∙◌, subst, ltb-true}
use Rattle.cc_ast.specs.Syntax.{undefined}
use Rattle.cc_ast.specs.declared.reading.Construct.{Construct}
use Rattle.cc_ast.specs.declared.reading.Construct.TheVariants as construct
use Rattle.cc_lexer.specs.declared.token.Mark.{Mark}
use Rattle.cc_lexer.specs.declared.token.Mark.TheVariants as mark
use Rattle.cc_lexer.specs.declared.word.Word.{Word}
use Rattle.cc_lexer.specs.declared.word.Word.TheVariants as word
use Rattle.cc_grammar.specs.Symbols.{Kind, Lexeme, Symbols, real, inserted, look, rest, nowhere, is_mark, is_word}
use Rattle.cc_grammar.specs.Symbols as k
use Rattle.cc_grammar.specs.RawTree.{RawExpr, RawStmt}
use Rattle.cc_grammar.specs.RawTree as raw
use Rattle.cc_grammar.specs.Signs.{refused_kind, refused_name, is_accessor, key_of}
use Rattle.cc_grammar.specs.Grammar as g
use Rattle.cc_grammar.specs.Grammar.{Context, At, Variable, E, T, is_tail, opens_no_expression}
use Rattle.cc_grammar.specs.Faults.{any}
use Rattle.cc_grammar.specs.Reading.{Outcome, Fault, Cause, Due, and_then, fault, either, refused_there, depth, refused, syntax, variable_of, goes_on}
use Rattle.cc_grammar.specs.Reading as r
use Rattle.cc_grammar.proofs.Clashes.{never}
use Rattle.cc_grammar.proofs.Marked.{In}
use Rattle.cc_grammar.proofs.Meets.{Done, ok, err}
use Rattle.cc_grammar.proofs.Shrinks.{reals}
use Rattle.cc_grammar.proofs.Steps.{kind_at}
use Rattle.cc_grammar.proofs.Alikeness.Alike.{is_limit}
use Rattle.cc_grammar.proofs.Moves.{Front, stays}
use Rattle.cc_grammar.proofs.Deletions.{Nest, nest_told}
use Rattle.cc_grammar.proofs.Nests.{Spares}
use Rattle.cc_grammar.proofs.OnSymbols as s
use Rattle.cc_grammar.proofs.Firsts.{names}

-- ---- tokens that complete what has begun

abbrev pub token : Kind → Lexeme
token x = record { kind = x; place = nowhere; after_line = false; noted = false }

pub new_at : (x : Kind) {zs : Symbols} → At x (real (token x) ∷ zs) zs
new_at x = g.at_token (token x) refl

pub at_is : {x : Kind} {xs ys : Symbols} → At x xs ys → real (look xs) ∷ ys ≡ xs
at_is (g.at_token t e) = refl

-- the token that was taken
abbrev pub taken : {x : Kind} {xs ys : Symbols} → At x xs ys → Front xs ys
taken {xs} c = record { go = λ zs. real (look xs) ∷ zs; before = real (look xs) ∷ []; prefix = λ zs. refl; is = at_is c }

pub again : {x : Kind} {xs ys : Symbols} → At x xs ys → (zs : Symbols) → At x (real (look xs) ∷ zs) zs
again {xs} c zs = g.at_token (look xs) (kind_at c)

pub variable_is_at : {n : List ℕ} {xs ys : Symbols} → Variable xs n ys → real (look xs) ∷ ys ≡ xs
variable_is_at (g.variable c e) = at_is c
variable_is_at (g.any_variable c) = at_is c

abbrev pub variable_taken : {n : List ℕ} {xs ys : Symbols} → Variable xs n ys → Front xs ys
variable_taken {xs} v = record { go = λ zs. real (look xs) ∷ zs; before = real (look xs) ∷ []; prefix = λ zs. refl; is = variable_is_at v }

pub variable_again : {n : List ℕ} {xs ys : Symbols} → Variable xs n ys → (zs : Symbols) → Variable (real (look xs) ∷ zs) n zs
variable_again (g.variable c e) zs = g.variable (again c zs) e
variable_again (g.any_variable c) zs = g.any_variable (again c zs)

-- ---- what has begun

-- The first symbol stays, or it is one that completes.
pub data First (xs us : Symbols) : Type 0 where
  same : look us ≡ look xs → First xs us
  fresh : is_tail (look us).kind ≡ false → First xs us

-- What has begun goes on here, or with a part that is due in place of the next symbol, or from a `delete` on with these
-- tokens and another one.
pub data Spot : Type 0 where
  here : Symbols → Spot
  due : k.Part → Symbols → Spot
  anew : (t : Lexeme) → t.kind ≡ k.word word.Delete → List Lexeme → Lexeme → Symbols → Spot

abbrev pub left : Spot → Symbols
left (here ys) = ys
left (due p ys) = ys
left (anew t e us u ys) = real t ∷ ys

abbrev pub put : Spot → Symbols → Symbols
put (here ys) zs = zs
put (due p ys) zs = any p (look ys) ∷ zs
put (anew t e us u ys) zs = real t ∷ (map real us ++ real u ∷ zs)

-- The symbols from xs up to i begin a P, which more symbols complete.
pub record Begun {A : Type 0} (P : A → Symbols → Symbols → Type 0) (xs : Symbols) (i : Spot) : Type 0 where
  pub front : Front xs (left i)
  pub more : Symbols → Symbols
  pub tree : A
  pub holds : (zs : Symbols) → P tree (front.go (put i (more zs))) zs
  pub first : (zs : Symbols) → First xs (front.go (put i (more zs)))

abbrev pub EE : ℕ → Bool → ℕ → RawExpr → Symbols → Symbols → Type 0
EE j b l e us vs = E j b l us e vs

-- a statement that neither `else` nor `finally` follows
abbrev pub TT : Context → ℕ → List RawStmt → Symbols → Symbols → Type 0
TT c j b us vs = is_tail (look vs).kind ≡ false → T c j us b vs

-- a block, that neither `else` nor `finally` follows
pub record Block (c : Context) (j : ℕ) (b : List RawStmt) (us vs : Symbols) : Type 0 where
  pub begins : (look us).kind ≡ k.mark mark.OpenBrace
  pub tree : T c j us b vs

abbrev pub XX : Context → ℕ → List RawStmt → Symbols → Symbols → Type 0
XX c j b us vs = is_tail (look vs).kind ≡ false → Block c j b us vs

-- nothing has come
pub no_e : (xs : Symbols) (j : ℕ) (b : Bool) (l : ℕ) → Begun (EE j b l) xs (here xs)
no_e xs j b l = record { front = stays xs; more = λ zs. real (token (k.due k.operand)) ∷ zs; tree = raw.lit nowhere undefined; holds = λ zs. g.operand (new_at (k.due k.operand)); first = λ zs. fresh refl }

pub e_due : (xs : Symbols) (j : ℕ) (b : Bool) (l : ℕ) → Begun (EE j b l) xs (due k.operand xs)
e_due xs j b l = record { front = stays xs; more = λ zs. zs; tree = raw.lit (look xs).place undefined; holds = λ zs. g.operand (g.at_token _ refl); first = λ zs. fresh refl }

pub name_due : (xs : Symbols) (j : ℕ) (b : Bool) (l : ℕ) → Begun (EE j b l) xs (due k.variable xs)
name_due xs j b l = record { front = stays xs; more = λ zs. zs; tree = raw.var (look xs).place []; holds = λ zs. g.name (g.any_variable (g.at_token _ refl)); first = λ zs. fresh refl }

pub t_due : (xs : Symbols) (c : Context) (j : ℕ) → Begun (TT c j) xs (due k.statement xs)
t_due xs c j = record { front = stays xs; more = λ zs. zs; tree = []; holds = λ zs _. g.any_statement (g.at_token _ refl); first = λ zs. fresh refl }

pub no_t : (xs : Symbols) (c : Context) (j : ℕ) → Begun (TT c j) xs (here xs)
no_t xs c j = record { front = stays xs; more = λ zs. real (token (k.due k.statement)) ∷ zs; tree = []; holds = λ zs _. g.any_statement (new_at (k.due k.statement)); first = λ zs. fresh refl }

-- ---- where reading stops

-- What isn't read: the next token as it is, or a construct that is refused there or begins earlier, where a part is due.
pub data Why (P : ℕ → Spot → Type 0) (c : Fault) (i : Symbols) : Type 0 where
  by_token : c ≡ fault r.a_token (look i) → Why P c i
  by_variable : c ≡ fault r.a_variable (look i) → (j : ℕ) → P j (due k.variable i) → Why P c i
  by_operand : c ≡ fault r.an_operand (look i) → (j u : ℕ) → P j (due k.operand i) → P u (due k.variable i) → Why P c i
  by_element : c ≡ record { cause = refused construct.Hole; place = (look i).place } → (look i).kind ≡ k.mark mark.Comma → (j : ℕ) → P j (due k.element i) → Why P c i
  by_statement : c ≡ record { cause = refused construct.BlockFunction; place = (look i).place } → (look i).kind ≡ k.word word.Function → (j : ℕ) → P j (due k.statement i) → Why P c i
  by_name : {n : List ℕ} {x : Construct} {ys : Symbols} → c ≡ record { cause = refused x; place = (look ys).place } → At (k.name n) ys i → refused_name n ≡ Some x → is_mark mark.Colon (look i).kind ≡ false → (j : ℕ) → P j (due k.variable ys) → Why P c i
  by_key : {x : Kind} {ys : Symbols} → c ≡ record { cause = refused construct.Accessor; place = (look ys).place } → At x ys i → is_accessor x ≡ true → is_some (key_of (look i).kind) ≡ true → (j : ℕ) → P j (due k.key ys) → Why P c i

why_map : {P Q : ℕ → Spot → Type 0} {c : Fault} {i : Symbols} (f : ℕ → ℕ) → ((j : ℕ) (i : Spot) → P j i → Q (f j) i) → Why P c i → Why Q c i
why_map f m (by_token e) = by_token e
why_map f m (by_variable e j p) = by_variable e (f j) (m j _ p)
why_map f m (by_operand e j u p q) = by_operand e (f j) (f u) (m j _ p) (m u _ q)
why_map f m (by_element e q j p) = by_element e q (f j) (m j _ p)
why_map f m (by_statement e q j p) = by_statement e q (f j) (m j _ p)
why_map f m (by_name e a q s j p) = by_name e a q s (f j) (m j _ p)
why_map f m (by_key e a q s j p) = by_key e a q s (f j) (m j _ p)

-- ---- tokens that make what they begin or go on with higher

-- Such a token is no name, and no `delete` before a variable that is its whole operand.
pub record Raises (x : Kind) (ys : Symbols) : Type 0 where
  pub unnamed : names x ≡ false
  pub spares : x ≡ k.word word.Delete → Spares ys

abbrev pub may_raise : Kind → Bool
may_raise (k.name n) = false
may_raise (k.word word.Delete) = false
may_raise _ = true

no_name : (x : Kind) → may_raise x ≡ true → names x ≡ false
no_name (k.name n) e = never e
no_name _ e = refl

pub raises : {x : Kind} {ys : Symbols} → may_raise x ≡ true → Raises x ys
raises {x} e = record { unnamed = no_name x e; spares = λ q. never (sym (ap may_raise q) ∙ e) }

-- If it isn't read, then what came before is a front. Where a variable is deleted, what came before the `delete` is one below b,
-- and each token that goes on with an operand goes on with a front behind the variable. Else what came before is one below b. At
-- the depth it is one with the next token too.
pub data Fails {A : Type 0} (b : ℕ) (P : ℕ → Spot → Type 0) : Outcome Symbols A → Type 0 where
  fine : {p : A × Symbols} → Fails b P (Ok p)
  stop : {c : Fault} {i : Symbols} → is_limit c.cause ≡ false → (c.cause ≡ syntax → c.place ≡ (look i).place) → (j : ℕ) → j < b → Why P c i → P j (here i) → Fails b P (Err (c, i))
  deleted : {c : Fault} {i ys us : Symbols} → c ≡ record { cause = refused construct.DeleteName; place = (look ys).place } → (o : At (k.word word.Delete) ys us) → (n : Nest 0 us i) → (j : ℕ) → j < b → P j (due k.operand ys)
      → ((t : Lexeme) → goes_on t ≡ true → (u : ℕ) × P u (anew (look ys) (kind_at o) (nest_told n).tokens t us)) → (u : ℕ) → P u (here i) → Fails b P (Err (c, i))
  deep : {c : Fault} {i ys : Symbols} → c.cause ≡ depth → c.place ≡ (look i).place → (j : ℕ) → j < b → P j (here i) → (t : Lexeme) → real t ∷ ys ≡ i → Raises t.kind ys → (u : ℕ) → P u (here ys) → Fails b P (Err (c, i))

pub fails_after : {A B : Type 0} {b : ℕ} {D : A → Symbols → Type 0} {P : ℕ → Spot → Type 0} {o : Outcome Symbols A} {f : A → s.Reader B}
    → Done D o → Fails b P o → ((a : A) (i : Symbols) → D a i → Fails b P (f a i)) → Fails b P (and_then o f)
fails_after (ok {a} {i} h) e k = k a i h
fails_after err (stop l m j lt w h) k = stop l m j lt w h
fails_after err (deleted e o n j lt h g u w) k = deleted e o n j lt h g u w
fails_after err (deep e m j lt h t q r u w) k = deep e m j lt h t q r u w

-- what begins it begins what it is a part of
pub fails_map : {A : Type 0} {b c : ℕ} {P Q : ℕ → Spot → Type 0} {o : Outcome Symbols A} (f : ℕ → ℕ) → ((j : ℕ) → j < b → f j < c) → ((j : ℕ) (i : Spot) → P j i → Q (f j) i) → Fails b P o → Fails c Q o
fails_map f lt m fine = fine
fails_map f lt m (stop l o j le w h) = stop l o (f j) (lt j le) (why_map f m w) (m j _ h)
fails_map f lt m (deleted e o n j le h g u w) = deleted e o n (f j) (lt j le) (m j _ h) (λ t q. let x = g t q in (f x.0, m x.0 _ x.1)) (f u) (m u _ w)
fails_map f lt m (deep e o j le h t q r u w) = deep e o (f j) (lt j le) (m j _ h) t q r (f u) (m u _ w)

pub fails_fork : {A : Type 0} {b : ℕ} {P : ℕ → Spot → Type 0} (c : Bool) (p q : s.Reader A) {i : Symbols} → (c ≡ true → Fails b P (p i)) → (c ≡ false → Fails b P (q i)) → Fails b P (cond c p q i)
fails_fork true p q h l = h refl
fails_fork false p q h l = l refl

pub fails_choice : {A : Type 0} {b : ℕ} {P : ℕ → Spot → Type 0} (c : Bool) {o u : Outcome Symbols A} → (c ≡ true → Fails b P o) → (c ≡ false → Fails b P u) → Fails b P (cond c o u)
fails_choice true h l = h refl
fails_choice false h l = l refl

either_sharp : (c d : Option Construct) → is_limit (either c d) ≡ false
either_sharp (Some c) d = refl
either_sharp None (Some d) = refl
either_sharp None None = refl

fault_sharp : (d : Due) (t : Lexeme) → is_limit (fault d t).cause ≡ false
fault_sharp d t = either_sharp (refused_kind t.kind) (refused_there d t.kind)

pub fails_here : {A : Type 0} {b : ℕ} {P : ℕ → Spot → Type 0} (xs : Symbols) (j : ℕ) → j < b → P j (here xs) → Fails {A = A} b P (Err (fault r.a_token (look xs), xs))
fails_here xs j lt h = stop (fault_sharp r.a_token (look xs)) (λ _. refl) j lt (by_token refl) h

pub variable_missing : {A : Type 0} {b : ℕ} {P : ℕ → Spot → Type 0} (xs : Symbols) (j : ℕ) → j < b → P j (here xs) → P j (due k.variable xs) → Fails {A = A} b P (Err (fault r.a_variable (look xs), xs))
variable_missing xs j lt h v = stop (fault_sharp r.a_variable (look xs)) (λ _. refl) j lt (by_variable refl j v) h

pub operand_missing : {A : Type 0} {b : ℕ} {P : ℕ → Spot → Type 0} (xs : Symbols) (j : ℕ) → j < b → P j (here xs) → P j (due k.operand xs) → P j (due k.variable xs) → Fails {A = A} b P (Err (fault r.an_operand (look xs), xs))
operand_missing xs j lt h o v = stop (fault_sharp r.an_operand (look xs)) (λ _. refl) j lt (by_operand refl j j o v) h

pub expect_fails : {b : ℕ} {P : ℕ → Spot → Type 0} (m : Mark) (xs : Symbols) (j : ℕ) → j < b → P j (here xs) → Fails b P (s.expect m xs)
unfolding r.expect
expect_fails m xs j lt h = fails_choice (is_mark m (look xs).kind) (λ _. fine) (λ _. fails_here xs j lt h)

pub expect_word_fails : {b : ℕ} {P : ℕ → Spot → Type 0} (w : Word) (xs : Symbols) (j : ℕ) → j < b → P j (here xs) → Fails b P (s.expect_word w xs)
unfolding r.expect_word
expect_word_fails w xs j lt h = fails_choice (is_word w (look xs).kind) (λ _. fine) (λ _. fails_here xs j lt h)

pub variable_fails : {b : ℕ} {P : ℕ → Spot → Type 0} (xs : Symbols) (j : ℕ) → j < b → P j (here xs) → P j (due k.variable xs) → Fails b P (s.variable xs)
unfolding r.variable
variable_fails {b} {P} xs j lt h u = by (variable_of (look xs).kind) where
  by : (v : Option (List ℕ)) → Fails b P (s.variable_by v xs)
  by None = variable_missing xs j lt h u
  by (Some v) = fine

pub deeper_fails : {A : Type 0} {b d h : ℕ} {P : ℕ → Spot → Type 0} {x : Kind} {xs ys : Symbols} {o : Outcome Symbols A} → At x xs ys → Raises x ys → (h < d → Fails b P o) → (j : ℕ) → j < b → P j (here xs) → (u : ℕ) → P u (here ys)
    → Fails b P (cond (nat_lt h d) o (Err (record { cause = depth; place = (look xs).place }, xs)))
deeper_fails {d} {h} {xs} {ys} c r f j lt p u q = fails_choice (nat_lt h d) (λ e. f (ltb-true h d e)) (λ _. deep refl refl j lt p (look xs) (at_is c) (subst (λ z. Raises z ys) (sym (kind_at c)) r) u q)

pub record FailsInner (d n : ℕ) (inner : In) : Type 0 where
  pub expr : 0 < d → (b : Bool) (l : ℕ) (xs : Symbols) → reals xs < n → l ≤ 13 → Fails d (λ j i. Begun (EE j b l) xs i) (inner.expr b l xs)
  pub callee : 0 < d → (b : Bool) (xs : Symbols) → reals xs < n → Fails d (λ j i. Begun (EE j b 17) xs i) (inner.expr b 17 xs)
  pub stmt : 0 < d → (c : Context) (xs : Symbols) → reals xs < n → Fails d (λ j i. Begun (TT c j) xs i) (inner.stmt c xs)
  pub block : 1 < d → (c : Context) (xs : Symbols) → reals xs < n → (look xs).kind ≡ k.mark mark.OpenBrace → Fails d (λ j i. Begun (XX c j) xs i) (inner.stmt c xs)

-- The bridge from the trees of src/ to plain trees: one equation a variant, and the set of them.
use Rattle.std.specs.Prelude.{◌≡◌, ℕ, ℤ, Bool, List, [], ◌∷◌, Option}
use Rattle.std.proofs.Common.{refl, sym, ap, ◌∙◌}
use Rattle.cc_ast.specs.declared.operator.BinOp.{BinOp}
use Rattle.cc_ast.specs.declared.operator.UnOp.{UnOp}
use Rattle.cc_ast.specs.declared.tree.Expr.{Expr}
use Rattle.cc_ast.specs.declared.tree.Expr.TheVariants as V
use Rattle.cc_ast.specs.declared.tree.Expr.TheFolds.{fold-roll-Expr, fold-roll-Target}
use Rattle.cc_ast.specs.declared.tree.Target.{Target}
use Rattle.cc_ast.specs.declared.tree.Target.TheVariants as W
use Rattle.cc_ast.specs.declared.tree.Ref.{Ref}
use Rattle.cc_ast.specs.declared.tree.Key.{Key}
use Rattle.cc_ast.specs.Syntax as S
use Rattle.cc_ast.specs.Bridge.{exprs, fields, expr_layer, target_layer, term, terms, term_fields, target}

pub term-Undefined : (s : ℕ) → term (V.Undefined s) ≡ S.lit s S.undefined
unfolding term target terms term_fields expr_layer
term-Undefined s = ap term (sym (V.rolls-Undefined s)) ∙ fold-roll-Expr S.Expr S.Target expr_layer target_layer _

pub term-Null : (s : ℕ) → term (V.Null s) ≡ S.lit s S.null
unfolding term target terms term_fields expr_layer
term-Null s = ap term (sym (V.rolls-Null s)) ∙ fold-roll-Expr S.Expr S.Target expr_layer target_layer _

pub term-Truth : (s : ℕ) (b : Bool) → term (V.Truth s b) ≡ S.lit s (S.truth b)
unfolding term target terms term_fields expr_layer
term-Truth s b = ap term (sym (V.rolls-Truth s b)) ∙ fold-roll-Expr S.Expr S.Target expr_layer target_layer _

pub term-Whole : (s : ℕ) (n : ℤ) → term (V.Whole s n) ≡ S.lit s (S.whole n)
unfolding term target terms term_fields expr_layer
term-Whole s n = ap term (sym (V.rolls-Whole s n)) ∙ fold-roll-Expr S.Expr S.Target expr_layer target_layer _

pub term-Text : (s : ℕ) (t : List ℕ) → term (V.Text s t) ≡ S.lit s (S.text t)
unfolding term target terms term_fields expr_layer
term-Text s t = ap term (sym (V.rolls-Text s t)) ∙ fold-roll-Expr S.Expr S.Target expr_layer target_layer _

pub term-Var : (s : ℕ) (r : Ref) → term (V.Var s r) ≡ S.var s r
unfolding term target terms term_fields expr_layer
term-Var s r = ap term (sym (V.rolls-Var s r)) ∙ fold-roll-Expr S.Expr S.Target expr_layer target_layer _

pub term-This : (s : ℕ) → term (V.This s) ≡ S.this s
unfolding term target terms term_fields expr_layer
term-This s = ap term (sym (V.rolls-This s)) ∙ fold-roll-Expr S.Expr S.Target expr_layer target_layer _

pub term-Fun : (s f : ℕ) → term (V.Fun s f) ≡ S.fun s f
unfolding term target terms term_fields expr_layer
term-Fun s f = ap term (sym (V.rolls-Fun s f)) ∙ fold-roll-Expr S.Expr S.Target expr_layer target_layer _

pub term-List : (s : ℕ) (es : List Expr) → term (V.List s es) ≡ S.list s (terms es)
unfolding term target terms term_fields expr_layer
term-List s es = ap term (sym (V.rolls-List s es)) ∙ fold-roll-Expr S.Expr S.Target expr_layer target_layer _

pub term-Object : (s : ℕ) (fs : List (Key × Expr)) → term (V.Object s fs) ≡ S.object s (term_fields fs)
unfolding term target terms term_fields expr_layer
term-Object s fs = ap term (sym (V.rolls-Object s fs)) ∙ fold-roll-Expr S.Expr S.Target expr_layer target_layer _

pub term-Unary : (s : ℕ) (op : UnOp) (a : Expr) → term (V.Unary s op a) ≡ S.unary s op (term a)
unfolding term target terms term_fields expr_layer
term-Unary s op a = ap term (sym (V.rolls-Unary s op a)) ∙ fold-roll-Expr S.Expr S.Target expr_layer target_layer _

pub term-Binary : (s : ℕ) (op : BinOp) (a b : Expr) → term (V.Binary s op a b) ≡ S.binary s op (term a) (term b)
unfolding term target terms term_fields expr_layer
term-Binary s op a b = ap term (sym (V.rolls-Binary s op a b)) ∙ fold-roll-Expr S.Expr S.Target expr_layer target_layer _

pub term-And : (s : ℕ) (a b : Expr) → term (V.And s a b) ≡ S.and s (term a) (term b)
unfolding term target terms term_fields expr_layer
term-And s a b = ap term (sym (V.rolls-And s a b)) ∙ fold-roll-Expr S.Expr S.Target expr_layer target_layer _

pub term-Or : (s : ℕ) (a b : Expr) → term (V.Or s a b) ≡ S.or s (term a) (term b)
unfolding term target terms term_fields expr_layer
term-Or s a b = ap term (sym (V.rolls-Or s a b)) ∙ fold-roll-Expr S.Expr S.Target expr_layer target_layer _

pub term-Cond : (s : ℕ) (t a b : Expr) → term (V.Cond s t a b) ≡ S.cond s (term t) (term a) (term b)
unfolding term target terms term_fields expr_layer
term-Cond s t a b = ap term (sym (V.rolls-Cond s t a b)) ∙ fold-roll-Expr S.Expr S.Target expr_layer target_layer _

pub term-Assign : (s : ℕ) (op : Option BinOp) (t : Target) (a : Expr) → term (V.Assign s op t a) ≡ S.assign s op (target t) (term a)
unfolding term target terms term_fields expr_layer
term-Assign s op t a = ap term (sym (V.rolls-Assign s op t a)) ∙ fold-roll-Expr S.Expr S.Target expr_layer target_layer _

pub term-Step : (s : ℕ) (up prefix : Bool) (t : Target) → term (V.Step s up prefix t) ≡ S.step s up prefix (target t)
unfolding term target terms term_fields expr_layer
term-Step s up prefix t = ap term (sym (V.rolls-Step s up prefix t)) ∙ fold-roll-Expr S.Expr S.Target expr_layer target_layer _

pub term-Member : (s : ℕ) (a : Expr) (p : ℕ) → term (V.Member s a p) ≡ S.member s (term a) p
unfolding term target terms term_fields expr_layer
term-Member s a p = ap term (sym (V.rolls-Member s a p)) ∙ fold-roll-Expr S.Expr S.Target expr_layer target_layer _

pub term-Index : (s : ℕ) (a b : Expr) → term (V.Index s a b) ≡ S.index s (term a) (term b)
unfolding term target terms term_fields expr_layer
term-Index s a b = ap term (sym (V.rolls-Index s a b)) ∙ fold-roll-Expr S.Expr S.Target expr_layer target_layer _

pub term-Call : (s : ℕ) (f : Expr) (es : List Expr) → term (V.Call s f es) ≡ S.call s (term f) (terms es)
unfolding term target terms term_fields expr_layer
term-Call s f es = ap term (sym (V.rolls-Call s f es)) ∙ fold-roll-Expr S.Expr S.Target expr_layer target_layer _

pub term-New : (s : ℕ) (f : Expr) (es : List Expr) → term (V.New s f es) ≡ S.new s (term f) (terms es)
unfolding term target terms term_fields expr_layer
term-New s f es = ap term (sym (V.rolls-New s f es)) ∙ fold-roll-Expr S.Expr S.Target expr_layer target_layer _

pub term-Comma : (s : ℕ) (a b : Expr) → term (V.Comma s a b) ≡ S.comma s (term a) (term b)
unfolding term target terms term_fields expr_layer
term-Comma s a b = ap term (sym (V.rolls-Comma s a b)) ∙ fold-roll-Expr S.Expr S.Target expr_layer target_layer _

pub term-Cast : (s d : ℕ) (a : Expr) → term (V.Cast s d a) ≡ S.cast s d (term a)
unfolding term target terms term_fields expr_layer
term-Cast s d a = ap term (sym (V.rolls-Cast s d a)) ∙ fold-roll-Expr S.Expr S.Target expr_layer target_layer _

pub term-Tick : (s p : ℕ) (a : Expr) → term (V.Tick s p a) ≡ S.tick s p (term a)
unfolding term target terms term_fields expr_layer
term-Tick s p a = ap term (sym (V.rolls-Tick s p a)) ∙ fold-roll-Expr S.Expr S.Target expr_layer target_layer _

pub target-Variable : (s : ℕ) (r : Ref) → target (W.Variable s r) ≡ S.to_var s r
unfolding term target target_layer
target-Variable s r = ap target (sym (W.rolls-Variable s r)) ∙ fold-roll-Target S.Expr S.Target expr_layer target_layer _

pub target-Dotted : (s : ℕ) (a : Expr) (p : ℕ) → target (W.Dotted s a p) ≡ S.to_member s (term a) p
unfolding term target target_layer
target-Dotted s a p = ap target (sym (W.rolls-Dotted s a p)) ∙ fold-roll-Target S.Expr S.Target expr_layer target_layer _

pub target-Bracketed : (s : ℕ) (a b : Expr) → target (W.Bracketed s a b) ≡ S.to_index s (term a) (term b)
unfolding term target target_layer
target-Bracketed s a b = ap target (sym (W.rolls-Bracketed s a b)) ∙ fold-roll-Target S.Expr S.Target expr_layer target_layer _

pub terms-empty : terms [] ≡ S.no_exprs
unfolding terms exprs
terms-empty = refl

pub terms-more : (e : Expr) (es : List Expr) → terms (e ∷ es) ≡ S.more_exprs (term e) (terms es)
unfolding terms exprs
terms-more e es = refl

pub term_fields-empty : term_fields [] ≡ S.no_fields
unfolding term_fields fields
term_fields-empty = refl

pub term_fields-more : (x : Key × Expr) (xs : List (Key × Expr)) → term_fields (x ∷ xs) ≡ S.more_fields x.0 (term x.1) (term_fields xs)
unfolding term_fields fields
term_fields-more x xs = refl

pub ruleset steps = (term-Undefined, term-Null, term-Truth, term-Whole, term-Text, term-Var, term-This, term-Fun, term-List, term-Object, term-Unary, term-Binary, term-And, term-Or, term-Cond, term-Assign, term-Step, term-Member, term-Index, term-Call, term-New, term-Comma, term-Cast, term-Tick, target-Variable, target-Dotted, target-Bracketed, terms-empty, terms-more, term_fields-empty, term_fields-more)

-- Laws of joined pieces and of lists that are spelled.
use Rattle.std.proofs.Common.{◌≡◌, ℕ, ◌+◌, ◌<◌, true, false, cond, List, [], ◌∷◌, ◌++◌, length, get_or, drop, ◌≤◌, Option, Some, None, refl, sym, ap, ◌∙◌, arith, append_assoc, append-nil}
use Rattle.std.proofs.lemmas.List.{drop_more, drop_all}
use Rattle.cc_ast.specs.declared.tree.Ref.TheVariants.{Global}
use Rattle.cc_ast.specs.declared.tree.Expr.{Expr}
use Rattle.cc_ast.specs.declared.tree.Stmt.{Stmt}
use Rattle.cc_ast.specs.Bridge.{term, terms}
use Rattle.cc_ast.specs.StmtBridge.{term_stmt, term_stmts}
use Rattle.cc_ast.specs.Terms.{term-Binary, terms-empty, terms-more}
use Rattle.cc_ast.specs.declared.tree.Expr.TheVariants as V
use Rattle.std.specs.Prelude.{Result, Ok, Err, IfOk}
use Rattle.cc_ast.specs.StmtTerms.{term_stmts-empty, term_stmts-more}
use Rattle.cc_ast.specs.Syntax as S
use Rattle.cc_ast.specs.declared.operator.BinOp.{BinOp}
use Rattle.cc_ast.specs.declared.operator.BinOp.TheVariants.{Add}
use Rattle.cc_driver.specs.declared.spelling.Piece.{Piece}
use Rattle.cc_driver.specs.declared.spelling.Piece.TheVariants as piece
use Rattle.cc_driver.specs.Spelling.{join, one, spell_value, spell_values, spell_statements, spell_statement}
use Rattle.cc_driver.specs.Shapes.{is_add, spell_added, spell_more}

pub join-assoc : (a b c : Option (List Piece)) → join (join a b) c ≡ join a (join b c)
join-assoc None b c = refl
join-assoc (Some xs) None c = refl
join-assoc (Some xs) (Some ys) None = refl
join-assoc (Some xs) (Some ys) (Some zs) = ap Some (append_assoc xs ys zs)

pub join-None : (a : Option (List Piece)) → join a None ≡ None
join-None None = refl
join-None (Some xs) = refl

pub join-empty : (a : Option (List Piece)) → join a (Some []) ≡ a
join-empty None = refl
join-empty (Some xs) = ap Some (append-nil xs)

-- an argument, and those that follow a comma
pub values_first : (e : S.Expr) (es : S.Exprs) → spell_values (S.more_exprs e es) ≡ join (spell_value e) (spell_more es)
values_first e S.no_exprs = sym (join-empty (spell_value e))
values_first e (S.more_exprs f es) = ap (λ x. join (spell_value e) (join (one (44 ∷ [])) x)) (values_first f es)

pub spell_values-terms : (e : Expr) (es : List Expr) → spell_values (terms (e ∷ es)) ≡ join (spell_value (term e)) (spell_more (terms es))
spell_values-terms e es = ap spell_values (terms-more e es) ∙ values_first (term e) (terms es)

pub spell_values-nil : spell_values (terms []) ≡ Some []
spell_values-nil = ap spell_values terms-empty

pub spell_more-terms : (e : Expr) (es : List Expr) → spell_more (terms (e ∷ es)) ≡ join (one (44 ∷ [])) (join (spell_value (term e)) (spell_more (terms es)))
spell_more-terms e es = ap spell_more (terms-more e es)

pub spell_more-nil : spell_more (terms []) ≡ Some []
spell_more-nil = ap spell_more terms-empty

pub spell_statements-terms : (s : Stmt) (ss : List Stmt) → spell_statements (term_stmts (s ∷ ss)) ≡ join (spell_statement (term_stmt s)) (spell_statements (term_stmts ss))
spell_statements-terms s ss = ap spell_statements (term_stmts-more s ss)

pub spell_statements-nil : spell_statements (term_stmts []) ≡ Some []
spell_statements-nil = ap spell_statements term_stmts-empty

-- the site of a statement makes no difference
pub simple_site : (s : ℕ) (e : S.Expr) → spell_statement (S.simple s e) ≡ spell_statement (S.simple 0 e)
simple_site s (S.call p (S.var q (Global g)) es) = refl
simple_site s _ = refl

pub vars_site : (s : ℕ) (ds : List S.Declarator) → spell_statement (S.vars s ds) ≡ spell_statement (S.vars 0 ds)
vars_site s [] = refl
vars_site s (d ∷ []) = refl
vars_site s (d ∷ e ∷ ds) = refl

-- a sum, or an expression with another operator
pub sum_spelled : (s : ℕ) (op : BinOp) (a b : S.Expr) → spell_value (S.binary s op a b) ≡ cond (is_add op) (join (spell_value a) (spell_added b)) None
sum_spelled s Add a b = refl
sum_spelled s _ a b = refl

pub no_sum : (old : List Piece) (s : ℕ) (op : BinOp) (a b : S.Expr) → is_add op ≡ false → None ≡ join (Some old) (spell_value (S.binary s op a b))
no_sum old s op a b e = sym (ap (join (Some old)) (sum_spelled s op a b ∙ ap (λ t. cond t (join (spell_value a) (spell_added b)) None) e))

pub sum_goes_on : (old : List Piece) (s : ℕ) (op : BinOp) (a b : S.Expr) (mid : Option (List Piece)) → is_add op ≡ true → mid ≡ join (Some old) (spell_value a)
    → join mid (spell_added b) ≡ join (Some old) (spell_value (S.binary s op a b))
sum_goes_on old s op a b mid e m =
    ap (λ t. join t (spell_added b)) m ∙ join-assoc (Some old) (spell_value a) (spell_added b)
    ∙ sym (ap (join (Some old)) (sum_spelled s op a b ∙ ap (λ t. cond t (join (spell_value a) (spell_added b)) None) e))

-- what is put for a sum: what is there behind its left side, and then the operand on its right
pub sum_put : (v : Expr) (s : ℕ) (op : BinOp) (l r : Expr) (old mid : List Piece) (o : Option (List Piece)) → v ≡ V.Binary s op l r → is_add op ≡ true → Some mid ≡ join (Some old) (spell_value (term l))
    → o ≡ join (Some mid) (spell_added (term r)) → o ≡ join (Some old) (spell_value (term v))
sum_put v s op l r old mid o is e m h =
    h ∙ sum_goes_on old s op (term l) (term r) (Some mid) e m ∙ sym (ap (λ z. join (Some old) (spell_value (term z))) is ∙ ap (λ z. join (Some old) (spell_value z)) (term-Binary s op l r))

pub ok_as : {A E : Type 0} (r : Result A E) (P Q : A → Type 0) → ((x : A) → P x → Q x) → IfOk r P → IfOk r Q
ok_as (Ok x) P Q f h = f x h
ok_as (Err e) P Q f h = h

-- a turn of the loop over values that each follow a comma: p is what was there with the comma
more_turn : (start : Option (List Piece)) (es : List Expr) (i : ℕ) (e : Expr) (now : List Piece) → i < length es → e ≡ get_or es i e
    → join (Some now) (spell_more (terms (drop i es))) ≡ start → (p : List Piece) → p ≡ now ++ piece.Bytes (44 ∷ []) ∷ []
    → join (join (Some p) (spell_value (term e))) (spell_more (terms (drop (i + 1) es))) ≡ start
more_turn start es i e now h is inv p q =
    let cut : drop i es ≡ e ∷ drop (i + 1) es = drop_more es i e h ∙ ap (λ x. x ∷ drop (i + 1) es) (sym is) in
    join-assoc (Some p) (spell_value (term e)) (spell_more (terms (drop (i + 1) es)))
    ∙ ap (λ x. join (Some x) (join (spell_value (term e)) (spell_more (terms (drop (i + 1) es))))) q
    ∙ join-assoc (Some now) (one (44 ∷ [])) (join (spell_value (term e)) (spell_more (terms (drop (i + 1) es))))
    ∙ ap (join (Some now)) (sym (spell_more-terms e (drop (i + 1) es)))
    ∙ ap (λ x. join (Some now) (spell_more (terms x))) (sym cut)
    ∙ inv

pub more_goes_on : (start : Option (List Piece)) (es : List Expr) (i : ℕ) (e : Expr) (now : List Piece) → i < length es → e ≡ get_or es i e
    → join (Some now) (spell_more (terms (drop i es))) ≡ start → (p : List Piece) → p ≡ now ++ piece.Bytes (44 ∷ []) ∷ []
    → (next : List Piece) → Some next ≡ join (Some p) (spell_value (term e)) → join (Some next) (spell_more (terms (drop (i + 1) es))) ≡ start
more_goes_on start es i e now h is inv p q next n = ap (λ x. join x (spell_more (terms (drop (i + 1) es)))) n ∙ more_turn start es i e now h is inv p q

pub more_fails : (start : Option (List Piece)) (es : List Expr) (i : ℕ) (e : Expr) (now : List Piece) → i < length es → e ≡ get_or es i e
    → join (Some now) (spell_more (terms (drop i es))) ≡ start → (p : List Piece) → p ≡ now ++ piece.Bytes (44 ∷ []) ∷ []
    → None ≡ join (Some p) (spell_value (term e)) → None ≡ start
more_fails start es i e now h is inv p q n = ap (λ x. join x (spell_more (terms (drop (i + 1) es)))) n ∙ more_turn start es i e now h is inv p q

pub more_ends : (start : Option (List Piece)) (es : List Expr) (i : ℕ) (now : List Piece) → length es ≤ i
    → join (Some now) (spell_more (terms (drop i es))) ≡ start → Some now ≡ start
more_ends start es i now h inv =
    sym (ap (λ x. join (Some now) (spell_more (terms x))) (drop_all i es h) ∙ ap (join (Some now)) spell_more-nil ∙ join-empty (Some now)) ∙ inv

-- a turn of the loop over statements
statement_turn : (start : Option (List Piece)) (ss : List Stmt) (i : ℕ) (s : Stmt) (now : List Piece) → i < length ss → s ≡ get_or ss i s
    → join (Some now) (spell_statements (term_stmts (drop i ss))) ≡ start
    → join (join (Some now) (spell_statement (term_stmt s))) (spell_statements (term_stmts (drop (i + 1) ss))) ≡ start
statement_turn start ss i s now h is inv =
    let cut : drop i ss ≡ s ∷ drop (i + 1) ss = drop_more ss i s h ∙ ap (λ x. x ∷ drop (i + 1) ss) (sym is) in
    join-assoc (Some now) (spell_statement (term_stmt s)) (spell_statements (term_stmts (drop (i + 1) ss)))
    ∙ ap (join (Some now)) (sym (spell_statements-terms s (drop (i + 1) ss)))
    ∙ ap (λ x. join (Some now) (spell_statements (term_stmts x))) (sym cut)
    ∙ inv

pub statements_go_on : (start : Option (List Piece)) (ss : List Stmt) (i : ℕ) (s : Stmt) (now : List Piece) → i < length ss → s ≡ get_or ss i s
    → join (Some now) (spell_statements (term_stmts (drop i ss))) ≡ start
    → (next : List Piece) → Some next ≡ join (Some now) (spell_statement (term_stmt s)) → join (Some next) (spell_statements (term_stmts (drop (i + 1) ss))) ≡ start
statements_go_on start ss i s now h is inv next n = ap (λ x. join x (spell_statements (term_stmts (drop (i + 1) ss)))) n ∙ statement_turn start ss i s now h is inv

pub statements_fail : (start : Option (List Piece)) (ss : List Stmt) (i : ℕ) (s : Stmt) (now : List Piece) → i < length ss → s ≡ get_or ss i s
    → join (Some now) (spell_statements (term_stmts (drop i ss))) ≡ start
    → None ≡ join (Some now) (spell_statement (term_stmt s)) → None ≡ start
statements_fail start ss i s now h is inv n = ap (λ x. join x (spell_statements (term_stmts (drop (i + 1) ss)))) n ∙ statement_turn start ss i s now h is inv

pub statements_end : (start : Option (List Piece)) (ss : List Stmt) (i : ℕ) (now : List Piece) → length ss ≤ i
    → join (Some now) (spell_statements (term_stmts (drop i ss))) ≡ start → Some now ≡ start
statements_end start ss i now h inv =
    sym (ap (λ x. join (Some now) (spell_statements (term_stmts x))) (drop_all i ss h) ∙ ap (join (Some now)) spell_statements-nil ∙ join-empty (Some now)) ∙ inv

-- no arguments, and the first with the rest
pub no_values : (es : List Expr) (now : List Piece) → length es < 1 → Some now ≡ join (Some now) (spell_values (terms es))
no_values [] now h = sym (ap (join (Some now)) spell_values-nil ∙ join-empty (Some now))
no_values (e ∷ es) now h = absurd (omega arith)

pub first_value : (es : List Expr) (e : Expr) (old now : List Piece) → 1 ≤ length es → e ≡ get_or es 0 e
    → Some now ≡ join (Some old) (spell_value (term e)) → join (Some now) (spell_more (terms (drop 1 es))) ≡ join (Some old) (spell_values (terms es))
first_value [] e old now h is n = absurd (omega arith)
first_value (x ∷ es) e old now h is n =
    ap (λ y. join y (spell_more (terms es))) (n ∙ ap (λ y. join (Some old) (spell_value (term y))) is)
    ∙ join-assoc (Some old) (spell_value (term x)) (spell_more (terms es)) ∙ ap (join (Some old)) (sym (spell_values-terms x es))

pub ruleset spelling = (join-assoc, join-None, join-empty, simple_site, vars_site, spell_values-terms, spell_values-nil, spell_more-terms, spell_more-nil, spell_statements-terms, spell_statements-nil)

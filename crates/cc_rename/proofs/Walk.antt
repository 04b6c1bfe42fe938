-- What is met, one equation for each kind of expression and statement.
use Rattle.std.proofs.Common.{◌≡◌, refl, sym, ap, ap₂, ◌∙◌, arith, ℕ, zero, suc, ◌<◌, Bool, length, get_or, List, [], ◌∷◌, ◌++◌, map, Option, append_assoc, append-nil, take}
use Rattle.std.specs.Result.{OnOk}
use Rattle.std.specs.Prelude.{Result}
use Rattle.std.proofs.lemmas.Result.{on_ok_weaker}
use Rattle.cc_ast.specs.Syntax as S
use Rattle.cc_ast.specs.Bridge.{term, terms, term_fields, exprs, fields, field}
use Rattle.cc_ast.specs.Bridge.{target}
use Rattle.cc_ast.specs.Terms as T
use Rattle.cc_ast.specs.declared.tree.Expr as Tree
use Rattle.cc_ast.specs.declared.tree.Expr.TheVariants as V
use Rattle.cc_ast.specs.declared.tree.Target as TargetTree
use Rattle.cc_ast.specs.declared.tree.Target.TheVariants as U
use Rattle.cc_ast.specs.Syntax.{Prim}
use Rattle.cc_ast.specs.declared.operator.BinOp.{BinOp}
use Rattle.cc_ast.specs.declared.operator.UnOp.{UnOp}
use Rattle.cc_ast.specs.declared.tree.Ref.{Ref}
use Rattle.cc_ast.specs.declared.tree.Key.{Key}
use Rattle.cc_rename.specs.declared.met.Met.{Met}
use Rattle.cc_rename.specs.declared.met.Met.TheVariants.{Variable, Function}
use Rattle.cc_rename.specs.Steps.{met_expr, met_target, met_exprs, met_fields, met_option, met_vars, met_init, met_heading, met_stmt, met_stmts, met_catch, met_finally, met_cases}

pub expr-lit : (c : ℕ) (i : ℕ) (x : Prim) → met_expr c (S.lit i x) ≡ []
unfolding met_expr
expr-lit c i x = refl

pub expr-var : (c : ℕ) (i : ℕ) (r : Ref) → met_expr c (S.var i r) ≡ Variable c r ∷ []
unfolding met_expr
expr-var c i r = refl

pub expr-this : (c : ℕ) (i : ℕ) → met_expr c (S.this i) ≡ []
unfolding met_expr
expr-this c i = refl

pub expr-fun : (c : ℕ) (i : ℕ) (f : ℕ) → met_expr c (S.fun i f) ≡ Function c f ∷ []
unfolding met_expr
expr-fun c i f = refl

pub expr-list : (c : ℕ) (i : ℕ) (es : S.Exprs) → met_expr c (S.list i es) ≡ met_exprs c es
unfolding met_expr
expr-list c i es = refl

pub expr-object : (c : ℕ) (i : ℕ) (fs : S.Fields) → met_expr c (S.object i fs) ≡ met_fields c fs
unfolding met_expr
expr-object c i fs = refl

pub expr-unary : (c : ℕ) (i : ℕ) (o : UnOp) (e : S.Expr) → met_expr c (S.unary i o e) ≡ met_expr c e
unfolding met_expr
expr-unary c i o e = refl

pub expr-binary : (c : ℕ) (i : ℕ) (o : BinOp) (a : S.Expr) (b : S.Expr) → met_expr c (S.binary i o a b) ≡ met_expr c a ++ met_expr c b
unfolding met_expr
expr-binary c i o a b = refl

pub expr-and : (c : ℕ) (i : ℕ) (a : S.Expr) (b : S.Expr) → met_expr c (S.and i a b) ≡ met_expr c a ++ met_expr c b
unfolding met_expr
expr-and c i a b = refl

pub expr-or : (c : ℕ) (i : ℕ) (a : S.Expr) (b : S.Expr) → met_expr c (S.or i a b) ≡ met_expr c a ++ met_expr c b
unfolding met_expr
expr-or c i a b = refl

pub expr-cond : (c : ℕ) (i : ℕ) (t : S.Expr) (a : S.Expr) (b : S.Expr) → met_expr c (S.cond i t a b) ≡ met_expr c t ++ met_expr c a ++ met_expr c b
unfolding met_expr
expr-cond c i t a b = refl

pub expr-assign : (c : ℕ) (i : ℕ) (o : Option BinOp) (t : S.Target) (e : S.Expr) → met_expr c (S.assign i o t e) ≡ met_target c t ++ met_expr c e
unfolding met_expr
expr-assign c i o t e = refl

pub expr-step : (c : ℕ) (i : ℕ) (up : Bool) (before : Bool) (t : S.Target) → met_expr c (S.step i up before t) ≡ met_target c t
unfolding met_expr
expr-step c i up before t = refl

pub expr-member : (c : ℕ) (i : ℕ) (e : S.Expr) (p : ℕ) → met_expr c (S.member i e p) ≡ met_expr c e
unfolding met_expr
expr-member c i e p = refl

pub expr-index : (c : ℕ) (i : ℕ) (a : S.Expr) (b : S.Expr) → met_expr c (S.index i a b) ≡ met_expr c a ++ met_expr c b
unfolding met_expr
expr-index c i a b = refl

pub expr-call : (c : ℕ) (i : ℕ) (f : S.Expr) (es : S.Exprs) → met_expr c (S.call i f es) ≡ met_expr c f ++ met_exprs c es
unfolding met_expr
expr-call c i f es = refl

pub expr-new : (c : ℕ) (i : ℕ) (f : S.Expr) (es : S.Exprs) → met_expr c (S.new i f es) ≡ met_expr c f ++ met_exprs c es
unfolding met_expr
expr-new c i f es = refl

pub expr-comma : (c : ℕ) (i : ℕ) (a : S.Expr) (b : S.Expr) → met_expr c (S.comma i a b) ≡ met_expr c a ++ met_expr c b
unfolding met_expr
expr-comma c i a b = refl

pub expr-cast : (c : ℕ) (i : ℕ) (d : ℕ) (e : S.Expr) → met_expr c (S.cast i d e) ≡ met_expr c e
unfolding met_expr
expr-cast c i d e = refl

pub expr-tick : (c : ℕ) (i : ℕ) (p : ℕ) (e : S.Expr) → met_expr c (S.tick i p e) ≡ met_expr c e
unfolding met_expr
expr-tick c i p e = refl

pub target-to_var : (c : ℕ) (i : ℕ) (r : Ref) → met_target c (S.to_var i r) ≡ Variable c r ∷ []
unfolding met_expr
target-to_var c i r = refl

pub target-to_member : (c : ℕ) (i : ℕ) (e : S.Expr) (p : ℕ) → met_target c (S.to_member i e p) ≡ met_expr c e
unfolding met_expr
target-to_member c i e p = refl

pub target-to_index : (c : ℕ) (i : ℕ) (a : S.Expr) (b : S.Expr) → met_target c (S.to_index i a b) ≡ met_expr c a ++ met_expr c b
unfolding met_expr
target-to_index c i a b = refl

pub exprs-more : (c : ℕ) (e : S.Expr) (es : S.Exprs) → met_exprs c (S.more_exprs e es) ≡ met_expr c e ++ met_exprs c es
unfolding met_expr
exprs-more c e es = refl

pub fields-more : (c : ℕ) (k : Key) (e : S.Expr) (fs : S.Fields) → met_fields c (S.more_fields k e fs) ≡ met_expr c e ++ met_fields c fs
unfolding met_expr
fields-more c k e fs = refl

pub stmt-simple : (c : ℕ) (i : ℕ) (e : S.Expr) → met_stmt c (S.simple i e) ≡ met_expr c e
unfolding met_stmt
stmt-simple c i e = refl

pub stmt-vars : (c : ℕ) (i : ℕ) (ds : List S.Declarator) → met_stmt c (S.vars i ds) ≡ met_vars c ds
unfolding met_stmt
stmt-vars c i ds = refl

pub stmt-fun_decl : (c : ℕ) (i : ℕ) (r : Ref) (f : ℕ) → met_stmt c (S.fun_decl i r f) ≡ Variable c r ∷ Function c f ∷ []
unfolding met_stmt
stmt-fun_decl c i r f = refl

pub stmt-if : (c : ℕ) (i : ℕ) (t : S.Expr) (a : S.Stmts) (b : S.Stmts) → met_stmt c (S.if i t a b) ≡ met_expr c t ++ met_stmts c a ++ met_stmts c b
unfolding met_stmt
stmt-if c i t a b = refl

pub stmt-while : (c : ℕ) (i : ℕ) (t : S.Expr) (b : S.Stmts) → met_stmt c (S.while i t b) ≡ met_expr c t ++ met_stmts c b
unfolding met_stmt
stmt-while c i t b = refl

pub stmt-do_while : (c : ℕ) (i : ℕ) (b : S.Stmts) (t : S.Expr) → met_stmt c (S.do_while i b t) ≡ met_stmts c b ++ met_expr c t
unfolding met_stmt
stmt-do_while c i b t = refl

pub stmt-for : (c : ℕ) (i : ℕ) (h : S.ForInit) (t : Option S.Expr) (e : Option S.Expr) (b : S.Stmts) → met_stmt c (S.for i h t e b) ≡ met_init c h ++ met_option c t ++ met_option c e ++ met_stmts c b
unfolding met_stmt
stmt-for c i h t e b = refl

pub stmt-for_in : (c : ℕ) (i : ℕ) (t : S.ForTarget) (e : S.Expr) (b : S.Stmts) → met_stmt c (S.for_in i t e b) ≡ met_heading c t ++ met_expr c e ++ met_stmts c b
unfolding met_stmt
stmt-for_in c i t e b = refl

pub stmt-return : (c : ℕ) (i : ℕ) (e : Option S.Expr) → met_stmt c (S.return i e) ≡ met_option c e
unfolding met_stmt
stmt-return c i e = refl

pub stmt-throw : (c : ℕ) (i : ℕ) (e : S.Expr) → met_stmt c (S.throw i e) ≡ met_expr c e
unfolding met_stmt
stmt-throw c i e = refl

pub stmt-break : (c : ℕ) (i : ℕ) (l : Option (List ℕ)) → met_stmt c (S.break i l) ≡ []
unfolding met_stmt
stmt-break c i l = refl

pub stmt-continue : (c : ℕ) (i : ℕ) (l : Option (List ℕ)) → met_stmt c (S.continue i l) ≡ []
unfolding met_stmt
stmt-continue c i l = refl

pub stmt-label : (c : ℕ) (i : ℕ) (l : List ℕ) (b : S.Stmts) → met_stmt c (S.label i l b) ≡ met_stmts c b
unfolding met_stmt
stmt-label c i l b = refl

pub stmt-switch : (c : ℕ) (i : ℕ) (e : S.Expr) (cs : S.Cases) → met_stmt c (S.switch i e cs) ≡ met_expr c e ++ met_cases c cs
unfolding met_stmt
stmt-switch c i e cs = refl

pub stmt-try : (c : ℕ) (i : ℕ) (b : S.Stmts) (k : S.MaybeStmts) (f : S.MaybeStmts) → met_stmt c (S.try i b k f) ≡ met_stmts c b ++ met_catch c k ++ met_finally c f
unfolding met_stmt
stmt-try c i b k f = refl

pub stmt-pay_stmt : (c : ℕ) (i : ℕ) (p : ℕ) → met_stmt c (S.pay_stmt i p) ≡ []
unfolding met_stmt
stmt-pay_stmt c i p = refl

pub nothing-more : (ms : List Met) → ms ++ [] ≡ ms
nothing-more ms = append-nil ms

pub joined : (xs ys zs : List Met) → (xs ++ ys) ++ zs ≡ xs ++ (ys ++ zs)
joined xs ys zs = append_assoc xs ys zs

pub exprs-none : (c : ℕ) → met_exprs c S.no_exprs ≡ []
unfolding met_expr
exprs-none c = refl

pub fields-none : (c : ℕ) → met_fields c S.no_fields ≡ []
unfolding met_expr
fields-none c = refl

pub ruleset walk = (nothing-more, exprs-none, fields-none, expr-lit, expr-var, expr-this, expr-fun, expr-list, expr-object, expr-unary, expr-binary, expr-and, expr-or, expr-cond, expr-assign, expr-step, expr-member, expr-index, expr-call, expr-new, expr-comma, expr-cast, expr-tick, target-to_var, target-to_member, target-to_index, exprs-more, fields-more)

pub ruleset stmt_walk = (stmt-simple, stmt-vars, stmt-fun_decl, stmt-if, stmt-while, stmt-do_while, stmt-for, stmt-for_in, stmt-return, stmt-throw, stmt-break, stmt-continue, stmt-label, stmt-switch, stmt-try, stmt-pay_stmt)

-- ---- as the code comes to it

-- one part behind another
pub two : (a b d x y z : List Met) → b ≡ a ++ x → z ≡ x ++ y → d ≡ b ++ y → d ≡ a ++ z
two a b d x y z e f g = g ∙ ap (λ w. w ++ y) e ∙ append_assoc a x y ∙ ap (λ w. a ++ w) (sym f)

pub last : {T E : Type 0} (r : Result T E) (a b d x y z : List Met) → b ≡ a ++ x → z ≡ x ++ y → OnOk r (d ≡ b ++ y) → OnOk r (d ≡ a ++ z)
last r a b d x y z e f h = on_ok_weaker r (λ g. two a b d x y z e f g) h

pub same : {T E : Type 0} (r : Result T E) (a d x z : List Met) → x ≡ z → OnOk r (d ≡ a ++ x) → OnOk r (d ≡ a ++ z)
same r a d x z e h = on_ok_weaker r (λ g. g ∙ ap (λ w. a ++ w) e) h

-- two parts that were met
pub behind : (a b d x y : List Met) → b ≡ a ++ x → d ≡ b ++ y → d ≡ a ++ (x ++ y)
behind a b d x y e g = g ∙ ap (λ v. v ++ y) e ∙ append_assoc a x y

-- a turn of a loop
pub exprs-turn : (c : ℕ) (es : List Tree.Expr) (i j : ℕ) (x : Tree.Expr) → j ≡ suc i → i < length es → x ≡ get_or es i x → met_exprs c (terms (take j es)) ≡ met_exprs c (terms (take i es)) ++ met_expr c (term x)
unfolding met_expr terms exprs
exprs-turn c es i zero x q l e = absurd (omega (arith, q))
exprs-turn c [] i (suc j) x q l e = absurd (omega (arith, l))
exprs-turn c (y ∷ es) zero (suc j) x q l e = let z : j ≡ 0 = omega (arith, q) in ap (λ n. met_expr c (term y) ++ met_exprs c (exprs (map term (take n es)))) z ∙ append-nil (met_expr c (term y)) ∙ ap (λ z. met_expr c (term z)) (sym e)
exprs-turn c (y ∷ es) (suc i) (suc j) x q l e = ap (λ w. met_expr c (term y) ++ w) (exprs-turn c es i j x (omega (arith, q)) (omega (arith, l)) e) ∙ sym (append_assoc (met_expr c (term y)) (met_exprs c (terms (take i es))) (met_expr c (term x)))

pub fields-turn : (c : ℕ) (fs : List (Key × Tree.Expr)) (i j : ℕ) (x : Key × Tree.Expr) → j ≡ suc i → i < length fs → x ≡ get_or fs i x → met_fields c (term_fields (take j fs)) ≡ met_fields c (term_fields (take i fs)) ++ met_expr c (term x.1)
unfolding met_expr term_fields fields
fields-turn c fs i zero x q l e = absurd (omega (arith, q))
fields-turn c [] i (suc j) x q l e = absurd (omega (arith, l))
fields-turn c (y ∷ fs) zero (suc j) x q l e = let z : j ≡ 0 = omega (arith, q) in ap (λ n. met_expr c (term y.1) ++ met_fields c (fields (map field (take n fs)))) z ∙ append-nil (met_expr c (term y.1)) ∙ ap (λ z. met_expr c (term z.1)) (sym e)
fields-turn c (y ∷ fs) (suc i) (suc j) x q l e = ap (λ w. met_expr c (term y.1) ++ w) (fields-turn c fs i j x (omega (arith, q)) (omega (arith, l)) e) ∙ sym (append_assoc (met_expr c (term y.1)) (met_fields c (term_fields (take i fs))) (met_expr c (term x.1)))

-- nothing is met so far
pub exprs-start : (c : ℕ) (ms : List Met) → ms ≡ ms ++ met_exprs c (terms [])
unfolding met_expr terms exprs
exprs-start c ms = sym (append-nil ms)

pub fields-start : (c : ℕ) (ms : List Met) → ms ≡ ms ++ met_fields c (term_fields [])
unfolding met_expr term_fields fields
fields-start c ms = sym (append-nil ms)

-- ---- a tree of src/ by its parts

pub of-Binary : (c s : ℕ) (o : BinOp) (a b x y e : Tree.Expr) → e ≡ V.Binary s o a b → x ≡ a → y ≡ b → met_expr c (term e) ≡ met_expr c (term x) ++ met_expr c (term y)
of-Binary c s o a b x y e q f g = ap (λ z. met_expr c (term z)) q ∙ ap (met_expr c) (T.term-Binary s o a b) ∙ expr-binary c s o (term a) (term b) ∙ ap₂ (λ u v. met_expr c (term u) ++ met_expr c (term v)) (sym f) (sym g)

pub of-And : (c s : ℕ) (a b x y e : Tree.Expr) → e ≡ V.And s a b → x ≡ a → y ≡ b → met_expr c (term e) ≡ met_expr c (term x) ++ met_expr c (term y)
of-And c s a b x y e q f g = ap (λ z. met_expr c (term z)) q ∙ ap (met_expr c) (T.term-And s a b) ∙ expr-and c s (term a) (term b) ∙ ap₂ (λ u v. met_expr c (term u) ++ met_expr c (term v)) (sym f) (sym g)

pub of-Or : (c s : ℕ) (a b x y e : Tree.Expr) → e ≡ V.Or s a b → x ≡ a → y ≡ b → met_expr c (term e) ≡ met_expr c (term x) ++ met_expr c (term y)
of-Or c s a b x y e q f g = ap (λ z. met_expr c (term z)) q ∙ ap (met_expr c) (T.term-Or s a b) ∙ expr-or c s (term a) (term b) ∙ ap₂ (λ u v. met_expr c (term u) ++ met_expr c (term v)) (sym f) (sym g)

pub of-Index : (c s : ℕ) (a b x y e : Tree.Expr) → e ≡ V.Index s a b → x ≡ a → y ≡ b → met_expr c (term e) ≡ met_expr c (term x) ++ met_expr c (term y)
of-Index c s a b x y e q f g = ap (λ z. met_expr c (term z)) q ∙ ap (met_expr c) (T.term-Index s a b) ∙ expr-index c s (term a) (term b) ∙ ap₂ (λ u v. met_expr c (term u) ++ met_expr c (term v)) (sym f) (sym g)

pub of-Comma : (c s : ℕ) (a b x y e : Tree.Expr) → e ≡ V.Comma s a b → x ≡ a → y ≡ b → met_expr c (term e) ≡ met_expr c (term x) ++ met_expr c (term y)
of-Comma c s a b x y e q f g = ap (λ z. met_expr c (term z)) q ∙ ap (met_expr c) (T.term-Comma s a b) ∙ expr-comma c s (term a) (term b) ∙ ap₂ (λ u v. met_expr c (term u) ++ met_expr c (term v)) (sym f) (sym g)

pub of-Cond : (c s : ℕ) (t a b z x y e : Tree.Expr) → e ≡ V.Cond s t a b → z ≡ t → x ≡ a → y ≡ b → met_expr c (term e) ≡ met_expr c (term z) ++ met_expr c (term x) ++ met_expr c (term y)
of-Cond c s t a b z x y e q h f g = ap (λ z. met_expr c (term z)) q ∙ ap (met_expr c) (T.term-Cond s t a b) ∙ expr-cond c s (term t) (term a) (term b) ∙ ap (λ w. met_expr c (term w) ++ met_expr c (term a) ++ met_expr c (term b)) (sym h)
    ∙ ap₂ (λ u v. met_expr c (term z) ++ met_expr c (term u) ++ met_expr c (term v)) (sym f) (sym g)

pub of-Assign : (c s : ℕ) (o : Option BinOp) (t : TargetTree.Target) (a : Tree.Expr) (z : TargetTree.Target) (x e : Tree.Expr) → e ≡ V.Assign s o t a → z ≡ t → x ≡ a → met_expr c (term e) ≡ met_target c (target z) ++ met_expr c (term x)
of-Assign c s o t a z x e q h f = ap (λ z. met_expr c (term z)) q ∙ ap (met_expr c) (T.term-Assign s o t a) ∙ expr-assign c s o (target t) (term a) ∙ ap₂ (λ u v. met_target c (target u) ++ met_expr c (term v)) (sym h) (sym f)

pub of-Bracketed : (c s : ℕ) (a b x y : Tree.Expr) (t : TargetTree.Target) → t ≡ U.Bracketed s a b → x ≡ a → y ≡ b → met_target c (target t) ≡ met_expr c (term x) ++ met_expr c (term y)
of-Bracketed c s a b x y t q f g = ap (λ z. met_target c (target z)) q ∙ ap (met_target c) (T.target-Bracketed s a b) ∙ target-to_index c s (term a) (term b) ∙ ap₂ (λ u v. met_expr c (term u) ++ met_expr c (term v)) (sym f) (sym g)

pub of-Call : (c s : ℕ) (a x e : Tree.Expr) (es : List Tree.Expr) → e ≡ V.Call s a es → x ≡ a → met_expr c (term e) ≡ met_expr c (term x) ++ met_exprs c (terms es)
of-Call c s a x e es q f = ap (λ z. met_expr c (term z)) q ∙ ap (met_expr c) (T.term-Call s a es) ∙ expr-call c s (term a) (terms es) ∙ ap (λ u. met_expr c (term u) ++ met_exprs c (terms es)) (sym f)

pub of-New : (c s : ℕ) (a x e : Tree.Expr) (es : List Tree.Expr) → e ≡ V.New s a es → x ≡ a → met_expr c (term e) ≡ met_expr c (term x) ++ met_exprs c (terms es)
of-New c s a x e es q f = ap (λ z. met_expr c (term z)) q ∙ ap (met_expr c) (T.term-New s a es) ∙ expr-new c s (term a) (terms es) ∙ ap (λ u. met_expr c (term u) ++ met_exprs c (terms es)) (sym f)

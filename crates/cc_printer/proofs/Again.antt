-- The tokens are those of the tree without its places and casts.
use Rattle.std.specs.Prelude.{◌≡◌, ℕ, ◌+◌, List, [], ◌∷◌, Bool, true, false, not, ◌||◌, ◌&&◌, nat_lt, Option, Some, None}
use Rattle.std.proofs.Common.{refl, sym, ap, ap₂, ◌∙◌}
use Rattle.cc_ast.specs.declared.operator.BinOp.TheVariants as b
use Rattle.cc_ast.specs.Syntax.{Prim, whole}
use Rattle.cc_lexer.specs.declared.token.Mark.TheVariants as m
use Rattle.cc_lexer.specs.declared.word.Word.TheVariants as w
use Rattle.cc_grammar.specs.Symbols.{Kind}
use Rattle.cc_grammar.specs.Symbols as k
use Rattle.cc_grammar.specs.RawTree.{RawExpr, RawTarget, RawExprs, MaybeExpr, RawFields, RawDeclarators, RawInit, RawForTarget, RawStmt, RawStmts, RawCatch, RawFinally, RawCases, Named}
use Rattle.cc_grammar.specs.RawTree as raw
use Rattle.cc_grammar.specs.Signs as sign
use Rattle.cc_printer.specs.Printing.{TokensBefore, operator, prefix, stepping, assigning, identifier, key, level_of, chain, is_whole, is_has, needs, needs_before_dot, parens, braces, is_simple, is_loop_or_label, is_if, is_one, is_bare, is_bare_label, is_bare_else, first_opens, names, own_name, otherwise, expr, target, exprs, fields, maybe, initial, declarators, init, for_target, stmt, stmts, catch, finally, cases}
use Rattle.cc_printer.specs.Bare.{bare_names, bare_own, bare, bare_target, bare_exprs, bare_maybe, bare_fields, bare_declarators, bare_init, bare_for_target, bare_stmt, bare_stmts, bare_catch, bare_finally, bare_cases}
use Rattle.cc_printer.specs.Laws.{SameTokens}

lev : (a : RawExpr) → level_of (bare a) ≡ level_of a
lev (raw.step p up true t) = refl
lev (raw.step p up false t) = refl
lev (raw.member p e q n) = ap chain (lev e)
lev (raw.index p e f) = ap chain (lev e)
lev (raw.cast p e) = lev e
lev (raw.lit p v) = refl
lev _ = refl

has : (a : RawExpr) → is_has (bare a) ≡ is_has a
has (raw.cast p e) = has e
has (raw.binary p b.Has e f) = refl
has (raw.binary p _ e f) = refl
has _ = refl

num : (a : RawExpr) → is_whole (bare a) ≡ is_whole a
num (raw.cast p e) = num e
num (raw.lit p (whole n)) = refl
num (raw.lit p _) = refl
num _ = refl

need : (l : ℕ) (n : Bool) (a : RawExpr) → needs l n (bare a) ≡ needs l n a
need l n a = λ i. nat_lt (lev a i) l || (not n && has a i)

need_dot : (n : Bool) (a : RawExpr) → needs_before_dot n (bare a) ≡ needs_before_dot n a
need_dot n a = λ i. need 16 n a i || num a i

simple : (s : RawStmt) → is_simple (bare_stmt s) ≡ is_simple s
simple (raw.simple p e) = refl
simple _ = refl

loop : (s : RawStmt) → is_loop_or_label (bare_stmt s) ≡ is_loop_or_label s
loop (raw.while p e b) = refl
loop _ = refl

branch : (s : RawStmt) → is_if (bare_stmt s) ≡ is_if s
branch (raw.if p e x y) = refl
branch _ = refl

ones : (p : RawStmt → Bool) (ss : RawStmts) → ((s : RawStmt) → p (bare_stmt s) ≡ p s) → is_one p (bare_stmts ss) ≡ is_one p ss
ones p raw.no_stmts h = refl
ones p (raw.more_stmts s raw.no_stmts) h = h s
ones p (raw.more_stmts s (raw.more_stmts t ss)) h = refl

bares : (ss : RawStmts) → is_bare (bare_stmts ss) ≡ is_bare ss
bares ss = ones is_simple ss simple

labels : (ss : RawStmts) → is_bare_label (bare_stmts ss) ≡ is_bare_label ss
labels ss = ones (λ s. is_simple s || is_loop_or_label s) ss (λ s. ap₂ (λ x y. x || y) (simple s) (loop s))

elses : (ss : RawStmts) → is_bare_else (bare_stmts ss) ≡ is_bare_else ss
elses ss = ones (λ s. is_simple s || is_if s) ss (λ s. ap₂ (λ x y. x || y) (simple s) (branch s))

named : (vs : List Named) → names (bare_names vs) ≡ names vs
named [] = refl
named (v ∷ []) = refl
named (v ∷ u ∷ vs) = λ i ks. k.name v.name ∷ k.mark m.Comma ∷ named (u ∷ vs) i ks

owned : (o : Option Named) → own_name (bare_own o) ≡ own_name o
owned None = refl
owned (Some v) = refl

other : (ss : RawStmts) (f g : TokensBefore) → f ≡ g → otherwise (bare_stmts ss) f ≡ otherwise ss g
other raw.no_stmts f g h = refl
other (raw.more_stmts s ss) f g h = λ i ks. k.word w.Else ∷ braces (not (elses (raw.more_stmts s ss) i)) (h i) ks

mutual
  unfolding expr

  of_expr : (a : RawExpr) → expr (bare a) ≡ expr a
  of_expr (raw.lit p v) = refl
  of_expr (raw.var p v) = refl
  of_expr (raw.this p) = refl
  of_expr (raw.fun p o ps body) = λ i n ks. k.word w.Function ∷ owned o i (k.mark m.OpenParen ∷ named ps i (k.mark m.OpenBrace ∷ of_stmts body i (k.mark m.CloseBrace ∷ ks)))
  of_expr (raw.list p es) = λ i n ks. k.mark m.OpenBracket ∷ of_exprs es i (k.mark m.CloseBracket) ks
  of_expr (raw.object p fs) = λ i n ks. k.mark m.OpenBrace ∷ of_fields fs i ks
  of_expr (raw.unary p o e) = λ i n ks. prefix o ∷ parens (need 13 n e i) (of_expr e i) n ks
  of_expr (raw.binary p o e f) = λ i n ks. parens (need (sign.level_of o) n e i) (of_expr e i) n (operator o ∷ parens (need (sign.level_of o + 1) n f i) (of_expr f i) n ks)
  of_expr (raw.and p e f) = λ i n ks. parens (need 4 n e i) (of_expr e i) n (k.mark m.AmpersandAmpersand ∷ parens (need 5 n f i) (of_expr f i) n ks)
  of_expr (raw.or p e f) = λ i n ks. parens (need 3 n e i) (of_expr e i) n (k.mark m.BarBar ∷ parens (need 4 n f i) (of_expr f i) n ks)
  of_expr (raw.cond p e f g) = λ i n ks. parens (need 3 n e i) (of_expr e i) n (k.mark m.Question ∷ parens (need 1 true f i) (of_expr f i) true (k.mark m.Colon ∷ parens (need 1 n g i) (of_expr g i) n ks))
  of_expr (raw.assign p o t e) = λ i n ks. of_target t i n (assigning o ∷ parens (need 1 n e i) (of_expr e i) n ks)
  of_expr (raw.step p up true t) = λ i n ks. stepping up ∷ of_target t i n ks
  of_expr (raw.step p up false t) = λ i n ks. of_target t i n (stepping up ∷ ks)
  of_expr (raw.member p e q v) = λ i n ks. parens (need_dot n e i) (of_expr e i) n (k.mark m.Dot ∷ identifier v ∷ ks)
  of_expr (raw.index p e f) = λ i n ks. parens (need 16 n e i) (of_expr e i) n (k.mark m.OpenBracket ∷ of_expr f i true (k.mark m.CloseBracket ∷ ks))
  of_expr (raw.call p e es) = λ i n ks. parens (need 16 n e i) (of_expr e i) n (k.mark m.OpenParen ∷ of_exprs es i (k.mark m.CloseParen) ks)
  of_expr (raw.new p e es) = λ i n ks. k.word w.New ∷ parens (need 18 n e i) (of_expr e i) n (k.mark m.OpenParen ∷ of_exprs es i (k.mark m.CloseParen) ks)
  of_expr (raw.comma p e f) = λ i n ks. parens (need 0 n e i) (of_expr e i) n (k.mark m.Comma ∷ parens (need 1 n f i) (of_expr f i) n ks)
  of_expr (raw.cast p e) = of_expr e

  of_target : (t : RawTarget) → target (bare_target t) ≡ target t
  of_target (raw.to_var p v) = refl
  of_target (raw.to_member p e q v) = λ i n ks. parens (need_dot n e i) (of_expr e i) n (k.mark m.Dot ∷ identifier v ∷ ks)
  of_target (raw.to_index p e f) = λ i n ks. parens (need 16 n e i) (of_expr e i) n (k.mark m.OpenBracket ∷ of_expr f i true (k.mark m.CloseBracket ∷ ks))

  of_exprs : (es : RawExprs) → exprs (bare_exprs es) ≡ exprs es
  of_exprs raw.no_exprs = refl
  of_exprs (raw.more_exprs e raw.no_exprs) = λ i c ks. parens (need 1 true e i) (of_expr e i) true (c ∷ ks)
  of_exprs (raw.more_exprs e (raw.more_exprs f es)) = λ i c ks. parens (need 1 true e i) (of_expr e i) true (k.mark m.Comma ∷ of_exprs (raw.more_exprs f es) i c ks)

  of_fields : (fs : RawFields) → fields (bare_fields fs) ≡ fields fs
  of_fields raw.no_fields = refl
  of_fields (raw.more_fields p x e raw.no_fields) = λ i ks. key x ∷ k.mark m.Colon ∷ parens (need 1 true e i) (of_expr e i) true (k.mark m.CloseBrace ∷ ks)
  of_fields (raw.more_fields p x e (raw.more_fields q y f fs)) = λ i ks. key x ∷ k.mark m.Colon ∷ parens (need 1 true e i) (of_expr e i) true (k.mark m.Comma ∷ of_fields (raw.more_fields q y f fs) i ks)

  of_maybe : (e : MaybeExpr) → maybe (bare_maybe e) ≡ maybe e
  of_maybe raw.no_expr = refl
  of_maybe (raw.one_expr e) = λ i ks. of_expr e i true ks

  of_initial : (e : MaybeExpr) → initial (bare_maybe e) ≡ initial e
  of_initial raw.no_expr = refl
  of_initial (raw.one_expr e) = λ i n ks. k.mark m.Equal ∷ parens (need 1 n e i) (of_expr e i) n ks

  of_declarators : (ds : RawDeclarators) → declarators (bare_declarators ds) ≡ declarators ds
  of_declarators raw.no_declarators = refl
  of_declarators (raw.more_declarators v e raw.no_declarators) = λ i n ks. k.name v.name ∷ of_initial e i n ks
  of_declarators (raw.more_declarators v e (raw.more_declarators u f ds)) = λ i n ks. k.name v.name ∷ of_initial e i n (k.mark m.Comma ∷ of_declarators (raw.more_declarators u f ds) i n ks)

  of_init : (x : RawInit) → init (bare_init x) ≡ init x
  of_init raw.no_init = refl
  of_init (raw.init_value e) = λ i ks. parens (need 0 false e i) (of_expr e i) false ks
  of_init (raw.init_vars ds) = λ i ks. k.word w.Var ∷ of_declarators ds i false ks

  of_for_target : (t : RawForTarget) → for_target (bare_for_target t) ≡ for_target t
  of_for_target (raw.in_target t) = λ i ks. of_target t i false ks
  of_for_target (raw.in_declared v e) = λ i ks. k.word w.Var ∷ k.name v.name ∷ of_initial e i false ks

  of_stmt : (s : RawStmt) → stmt (bare_stmt s) ≡ stmt s
  of_stmt (raw.simple p e) = λ i ks. parens (first_opens (of_expr e i true (k.mark m.Semicolon ∷ ks))) (of_expr e i) true (k.mark m.Semicolon ∷ ks)
  of_stmt (raw.vars p ds) = λ i ks. k.word w.Var ∷ of_declarators ds i true (k.mark m.Semicolon ∷ ks)
  of_stmt (raw.fun_decl p v ps body) = λ i ks. k.word w.Function ∷ k.name v.name ∷ k.mark m.OpenParen ∷ named ps i (k.mark m.OpenBrace ∷ of_stmts body i (k.mark m.CloseBrace ∷ ks))
  of_stmt (raw.if p e x y) = λ i ks. k.word w.If ∷ k.mark m.OpenParen ∷ of_expr e i true (k.mark m.CloseParen ∷ braces (not (bares x i)) (of_stmts x i) (other y _ _ (of_stmts y) i ks))
  of_stmt (raw.while p e body) = λ i ks. k.word w.While ∷ k.mark m.OpenParen ∷ of_expr e i true (k.mark m.CloseParen ∷ braces (not (bares body i)) (of_stmts body i) ks)
  of_stmt (raw.do_while p body e) = λ i ks. k.word w.Do ∷ braces (not (bares body i)) (of_stmts body i) (k.word w.While ∷ k.mark m.OpenParen ∷ of_expr e i true (k.mark m.CloseParen ∷ k.mark m.Semicolon ∷ ks))
  of_stmt (raw.for p x t s body) = λ i ks. k.word w.For ∷ k.mark m.OpenParen ∷ of_init x i (k.mark m.Semicolon ∷ of_maybe t i (k.mark m.Semicolon ∷ of_maybe s i (k.mark m.CloseParen ∷ braces (not (bares body i)) (of_stmts body i) ks)))
  of_stmt (raw.for_in p t e body) = λ i ks. k.word w.For ∷ k.mark m.OpenParen ∷ of_for_target t i (k.word w.In ∷ of_expr e i true (k.mark m.CloseParen ∷ braces (not (bares body i)) (of_stmts body i) ks))
  of_stmt (raw.return p e) = λ i ks. k.word w.Return ∷ of_maybe e i (k.mark m.Semicolon ∷ ks)
  of_stmt (raw.throw p e) = λ i ks. k.word w.Throw ∷ of_expr e i true (k.mark m.Semicolon ∷ ks)
  of_stmt (raw.break p l) = refl
  of_stmt (raw.continue p l) = refl
  of_stmt (raw.label p v body) = λ i ks. k.name v ∷ k.mark m.Colon ∷ braces (not (labels body i)) (of_stmts body i) ks
  of_stmt (raw.switch p e cs) = λ i ks. k.word w.Switch ∷ k.mark m.OpenParen ∷ of_expr e i true (k.mark m.CloseParen ∷ k.mark m.OpenBrace ∷ of_cases cs i ks)
  of_stmt (raw.try p body c f) = λ i ks. k.word w.Try ∷ k.mark m.OpenBrace ∷ of_stmts body i (k.mark m.CloseBrace ∷ of_catch c i (of_finally f i ks))

  of_stmts : (ss : RawStmts) → stmts (bare_stmts ss) ≡ stmts ss
  of_stmts raw.no_stmts = refl
  of_stmts (raw.more_stmts s ss) = λ i ks. of_stmt s i (of_stmts ss i ks)

  of_catch : (c : RawCatch) → catch (bare_catch c) ≡ catch c
  of_catch raw.no_catch = refl
  of_catch (raw.caught v body) = λ i ks. k.word w.Catch ∷ k.mark m.OpenParen ∷ k.name v.name ∷ k.mark m.CloseParen ∷ k.mark m.OpenBrace ∷ of_stmts body i (k.mark m.CloseBrace ∷ ks)

  of_finally : (f : RawFinally) → finally (bare_finally f) ≡ finally f
  of_finally raw.no_finally = refl
  of_finally (raw.finally body) = λ i ks. k.word w.Finally ∷ k.mark m.OpenBrace ∷ of_stmts body i (k.mark m.CloseBrace ∷ ks)

  of_cases : (cs : RawCases) → cases (bare_cases cs) ≡ cases cs
  of_cases raw.no_cases = refl
  of_cases (raw.more_cases raw.no_expr body cs) = λ i ks. k.word w.Default ∷ k.mark m.Colon ∷ of_stmts body i (of_cases cs i ks)
  of_cases (raw.more_cases (raw.one_expr e) body cs) = λ i ks. k.word w.Case ∷ of_expr e i true (k.mark m.Colon ∷ of_stmts body i (of_cases cs i ks))

pub same_tokens : SameTokens
same_tokens a b e = let p = of_stmts a in let q = of_stmts b in λ i. (sym p ∙ ap stmts e ∙ q) i (k.end ∷ [])

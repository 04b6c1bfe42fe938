-- Parts of statements, as the grammar and as the trees write them.
use Rattle.std.proofs.Common.{◌≡◌, refl, sym, ap, ◌∙◌, List, [], ◌∷◌, map, Option, Some, None}
use Rattle.cc_grammar.specs.RawTree as S
use Rattle.cc_raw.specs.declared.tree.RawExpr.{RawExpr}
use Rattle.cc_raw.specs.declared.tree.RawStmt.{RawStmt}
use Rattle.cc_raw.specs.declared.tree.RawDeclarator.{RawDeclarator}
use Rattle.cc_raw.specs.declared.tree.RawCase.{RawCase}
use Rattle.cc_raw.specs.declared.tree.RawCatch.{RawCatch}
use Rattle.cc_raw.specs.Bridge.{stmts, declarators, cases, maybe, maybe_catch, maybe_finally, raw_stmt, raw_declarator, raw_case, raw_stmts, raw_declarators, raw_cases, raw_option, raw_catches, raw_finally}
use Rattle.cc_trees.specs.StatementParts as parts

pub body_same : (ss : List S.RawStmt) → stmts ss ≡ S.stmts ss
unfolding stmts
body_same [] = refl
body_same (s ∷ ss) = ap (S.more_stmts s) (body_same ss)

pub body_shown : (ss : List RawStmt) → raw_stmts ss ≡ parts.body ss
unfolding raw_stmts
body_shown ss = body_same (map raw_stmt ss)

pub declarators_shown : (ds : List RawDeclarator) → raw_declarators ds ≡ S.declarators (parts.declarators ds)
unfolding raw_declarators declarators
declarators_shown [] = refl
declarators_shown (d ∷ ds) = ap (S.more_declarators (raw_declarator d).0 (raw_declarator d).1) (declarators_shown ds)

pub option_shown : (o : Option RawExpr) → raw_option o ≡ parts.optional o
unfolding raw_option maybe
option_shown None = refl
option_shown (Some e) = refl

pub catch_shown : (c : Option RawCatch) → raw_catches c ≡ parts.catch c
unfolding raw_catches maybe_catch
catch_shown None = refl
catch_shown (Some c) = refl

pub finally_shown : (f : Option (List RawStmt)) → raw_finally f ≡ parts.finally f
unfolding raw_finally maybe_finally
finally_shown None = refl
finally_shown (Some ss) = ap S.finally (body_same (map raw_stmt ss))

pub body_listed : (ss : S.RawStmts) → S.stmts (parts.listed ss) ≡ ss
body_listed S.no_stmts = refl
body_listed (S.more_stmts s ss) = ap (S.more_stmts s) (body_listed ss)

pub list_listed : (ss : List S.RawStmt) → parts.listed (S.stmts ss) ≡ ss
list_listed [] = refl
list_listed (s ∷ ss) = ap (λ xs. s ∷ xs) (list_listed ss)

pub clauses_shown : (cs : List RawCase) → raw_cases cs ≡ S.cases (parts.clauses cs)
unfolding raw_cases cases
clauses_shown [] = refl
clauses_shown (c ∷ cs) = ap (λ b. S.more_cases (raw_case c).0 b (cases (map raw_case cs))) (sym (body_listed (raw_case c).1)) ∙ ap (S.more_cases (raw_case c).0 (S.stmts (parts.listed (raw_case c).1))) (clauses_shown cs)

pub ruleset part_steps = (body_shown, declarators_shown, option_shown, catch_shown, finally_shown, list_listed, clauses_shown)

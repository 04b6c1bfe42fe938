-- Steps of making a program.
use Rattle.std.proofs.Common.{◌≡◌, ℕ, zero, suc, ◌+◌, ◌<◌, ◌≤◌, ◌^◌, List, [], ◌∷◌, ◌++◌, length, map, take, drop, get_or, false, refl, sym, ap, subst, ◌∙◌, arith, append_assoc, All, length-append, append-nil, take-append-drop, drop-cons}
use Rattle.std.proofs.lemmas.List.{map-append, take_more, drop_more, drop_all}
use Rattle.cc_driver.specs.Names.{is_in, built_in_names}
use Rattle.cc_driver.specs.Form.{IsStatement, IsStatements, IsFunctions, IsExterns, IsSource, declared, declared_by}
use Rattle.cc_ast.specs.declared.tree.Stmt.{Stmt}
use Rattle.cc_ast.specs.StmtBridge.{stmts, term_stmt, term_stmts}
use Rattle.cc_driver.specs.Form as form
use Rattle.cc_driver.specs.Reach.{reach, names_of, program_with}
use Rattle.cc_ast.specs.declared.tables.GlobalInfo.{GlobalInfo}
use Rattle.cc_driver.specs.Source.{places_from, place_at, global_of_no_chunk, global_of_main, global_names, operand_tree, chain_tree, statement_tree, program_of}
use Rattle.cc_ast.specs.Syntax as S
use Rattle.cc_ast.specs.declared.operator.BinOp.TheVariants.{Add}
use Rattle.cc_driver.specs.declared.form.Added.{Added}
use Rattle.cc_driver.specs.declared.form.Statement.{Statement}
use Rattle.cc_driver.proofs.NameLaws.{Names, Distinct, absent_before}
use Rattle.std.proofs.lemmas.List.Elements.{All-nil, All-cons, All-weaker}

places_push : (at n : ℕ) → places_from at (suc n) ≡ places_from at n ++ place_at (at + n) ∷ []
places_push at zero = let e : at ≡ at + 0 = omega arith in ap (λ k. place_at k ∷ []) e
places_push at (suc n) =
    let e : at + 1 + n ≡ at + suc n = omega arith in
    ap (λ ps. place_at at ∷ ps) (places_push (at + 1) n ∙ ap (λ k. places_from (at + 1) n ++ place_at k ∷ []) e)

pub places_more : (n : ℕ) → places_from 0 (n + 1) ≡ places_from 0 n ++ place_at n ∷ []
places_more n =
    let one : n + 1 ≡ suc n = omega arith in
    let at : 0 + n ≡ n = omega arith in
    ap (places_from 0) one ∙ places_push 0 n ∙ ap (λ k. places_from 0 n ++ place_at k ∷ []) at

pub declared_append : (ss ts : List Statement) → declared (ss ++ ts) ≡ declared ss ++ declared ts
declared_append [] ts = refl
declared_append (s ∷ ss) ts = ap (λ names. declared_by s ++ names) (declared_append ss ts) ∙ sym (append_assoc (declared_by s) (declared ss) (declared ts))

pub functions_few : (x : List ℕ) (names : Names) → IsFunctions x names → length names ≤ length x
functions_few _ _ form.no_functions = omega arith
functions_few _ _ (form.more_functions {n = n} {p = p} {x = x} {ns = ns} hn hp hs) =
    let h : length ns ≤ length x = functions_few x ns hs in
    simp length-append (omega arith)

statement_reach : (at : ℕ) (x : List ℕ) (s : Statement) → IsStatement at x s → reach s ≤ at + length x
statement_reach at _ _ (form.a_declaration {n} {x} {v} hn hv) = simp length-append (omega arith)
statement_reach at _ _ (form.a_call {n} {xs} {vs} hn hv) = simp length-append (omega arith)

one_name : (at : ℕ) (x : List ℕ) (s : Statement) → IsStatement at x s → length (declared_by s) ≤ length x
one_name at _ _ (form.a_declaration {n} {x} {v} hn hv) = simp length-append (omega arith)
one_name at _ _ (form.a_call {n} {xs} {vs} hn hv) = omega arith

pub statements_reach : (at : ℕ) (x : List ℕ) (ss : List Statement) → IsStatements at x ss → All (λ s. reach s ≤ at + length x) ss
statements_reach at _ _ form.no_statements = All-nil _
statements_reach at _ _ (form.more_statements {x = x} {y = y} {s = s} {ss = ss} h hs) =
    let here : reach s ≤ at + length x = statement_reach at x s h in
    let l : length (x ++ y) ≡ length x + length y = length-append x y in
    let first : reach s ≤ at + length (x ++ y) = omega arith in
    let wide : (t : Statement) → reach t ≤ at + length x + length y → reach t ≤ at + length (x ++ y) = λ t k. omega arith in
    All-cons (λ s. reach s ≤ at + length (x ++ y)) s ss first
    (All-weaker (λ t. reach t ≤ at + length x + length y) (λ t. reach t ≤ at + length (x ++ y)) wide ss (statements_reach (at + length x) y ss hs))

pub statements_few : (at : ℕ) (x : List ℕ) (ss : List Statement) → IsStatements at x ss → length (declared ss) ≤ length x
statements_few at _ _ form.no_statements = omega arith
statements_few at _ _ (form.more_statements {x = x} {y = y} {s = s} {ss = ss} h hs) =
    let one : length (declared_by s) ≤ length x = one_name at x s h in
    let more : length (declared ss) ≤ length y = statements_few (at + length x) y ss hs in
    simp length-append (omega arith)

pub outside_append : (xs ys : Names) → map global_of_no_chunk xs ++ map global_of_no_chunk ys ≡ map global_of_no_chunk (xs ++ ys)
outside_append xs ys = sym (map-append global_of_no_chunk xs ys)

-- the globals that the statements before the next one declare, with those of the next one
pub inside_more : (ss : List Statement) (i : ℕ) (s : Statement) → i < length ss → map global_of_main (declared (take (i + 1) ss)) ≡ map global_of_main (declared (take i ss)) ++ map global_of_main (declared_by (get_or ss i s))
inside_more ss i s lt =
    ap (λ t. map global_of_main (declared t)) (take_more ss i s lt) ∙ ap (map global_of_main) (declared_append (take i ss) (get_or ss i s ∷ []) ∙ ap (λ t. declared (take i ss) ++ t) (append-nil (declared_by (get_or ss i s))))
    ∙ map-append global_of_main (declared (take i ss)) (declared_by (get_or ss i s))

-- the next name is not among those before it
pub next_is_new : (gs : List GlobalInfo) (i : ℕ) (g : GlobalInfo) → i < length gs → Distinct (names_of gs) → is_in (get_or gs i g).name (names_of (take i gs)) ≡ false
next_is_new gs i g lt d =
    let all : gs ≡ take i gs ++ (get_or gs i g ∷ drop (suc i) gs) = sym (take-append-drop i gs) ∙ ap (λ t. take i gs ++ t) (drop-cons gs i g lt) in
    let names : names_of gs ≡ names_of (take i gs) ++ ((get_or gs i g).name ∷ names_of (drop (suc i) gs)) = ap names_of all ∙ map-append (λ g. g.name) (take i gs) (get_or gs i g ∷ drop (suc i) gs) in
    absent_before (names_of (take i gs)) (get_or gs i g).name (names_of (drop (suc i) gs)) (subst Distinct names d)

pub names_more : (gs : List GlobalInfo) (i : ℕ) (g : GlobalInfo) → i < length gs → names_of (take (i + 1) gs) ≡ names_of (take i gs) ++ (get_or gs i g).name ∷ []
names_more gs i g lt = ap names_of (take_more gs i g lt) ∙ map-append (λ g. g.name) (take i gs) (get_or gs i g ∷ [])

names_outside : (xs : Names) → names_of (map global_of_no_chunk xs) ≡ xs
names_outside [] = refl
names_outside (x ∷ xs) = ap (λ t. x ∷ t) (names_outside xs)

names_inside : (xs : Names) → names_of (map global_of_main xs) ≡ xs
names_inside [] = refl
names_inside (x ∷ xs) = ap (λ t. x ∷ t) (names_inside xs)

-- the names of the globals of a source
pub names_of_globals : (externs : Names) (ss : List Statement) → names_of (map global_of_no_chunk (externs ++ built_in_names) ++ map global_of_main (declared ss)) ≡ global_names externs ss
names_of_globals externs ss =
    map-append (λ g. g.name) (map global_of_no_chunk (externs ++ built_in_names)) (map global_of_main (declared ss))
    ∙ (λ i. names_outside (externs ++ built_in_names) i ++ names_inside (declared ss) i)

-- there are fewer globals than 2 ^ 32 beside so few declarations
pub declared_few : (file : List ℕ) (externs : Names) (size : ℕ) (ss : List Statement) → IsExterns file externs → length (declared ss) ≤ size → size ≤ 16777216 → length (global_names externs ss) < 2 ^ 32
declared_few file externs size ss h inside brief =
    let outside : length externs ≤ length file = functions_few file externs h.form in
    let short : length file ≤ 16777216 = h.short in
    let all : length (global_names externs ss) ≡ length externs + 3 + length (declared ss) = simp length-append in
    omega arith

-- a source has fewer globals than 2 ^ 32
pub globals_few : (file : List ℕ) (externs : Names) (text : List ℕ) (ss : List Statement) → IsExterns file externs → IsSource externs text ss → length (global_names externs ss) < 2 ^ 32
globals_few file externs text ss h s = declared_few file externs (length text) ss h (statements_few 0 text ss s.reading.form) s.short

-- each place of its trees is in range
pub places_fit : (externs : Names) (text : List ℕ) (ss : List Statement) → IsSource externs text ss → All (λ s. reach s < 2 ^ 32) ss
places_fit externs text ss s =
    let brief : length text ≤ 16777216 = s.short in
    let wide : (t : Statement) → reach t ≤ 0 + length text → reach t < 2 ^ 32 = λ t k. omega arith in
    All-weaker (λ t. reach t ≤ 0 + length text) (λ t. reach t < 2 ^ 32) wide ss (statements_reach 0 text ss s.reading.form)

-- a turn of the loop over the operands that follow
pub chain_turn : (names : Names) (e : S.Expr) (ms : List Added) (i : ℕ) (m : Added) → i < length ms → m ≡ get_or ms i m
    → chain_tree names (S.binary m.plus Add e (operand_tree names m.operand)) (drop (i + 1) ms) ≡ chain_tree names e (drop i ms)
chain_turn names e ms i m lt is =
    let cut : drop i ms ≡ m ∷ drop (i + 1) ms = drop_more ms i m lt ∙ ap (λ x. x ∷ drop (i + 1) ms) (sym is) in
    ap (chain_tree names e) (sym cut)

pub chain_end : (names : Names) (e : S.Expr) (ms : List Added) (i : ℕ) → length ms ≤ i → chain_tree names e (drop i ms) ≡ e
chain_end names e ms i h = ap (chain_tree names e) (drop_all i ms h)

-- the program of the globals and the statements is the program of the source
pub resolved : (externs : Names) (size : ℕ) (ss : List Statement) (globals : List GlobalInfo) (body : List Stmt)
    → globals ≡ map global_of_no_chunk (externs ++ built_in_names) ++ map global_of_main (declared ss)
    → map term_stmt body ≡ map (statement_tree (names_of globals)) ss
    → program_with globals (term_stmts body) size ≡ program_of externs size ss
unfolding term_stmts
resolved externs size ss globals body e f =
    let names : names_of globals ≡ global_names externs ss = ap names_of e ∙ names_of_globals externs ss in
    let trees : map term_stmt body ≡ map (statement_tree (global_names externs ss)) ss = f ∙ ap (λ ns. map (statement_tree ns) ss) names in
    λ i. program_with (e i) (stmts (trees i)) size

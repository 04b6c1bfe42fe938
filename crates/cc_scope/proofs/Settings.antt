-- What the mentions of a program say of functions that paths are set to: they are the table of those that
-- statements of the chunks' own lists set; and each function there stands where functions do, once.
use Rattle.std.proofs.Common.{◌≡◌, refl, sym, ap, ◌∙◌, subst, inl, inr, ℕ, Bool, true, false, List, [], ◌∷◌, ◌++◌, Option, Some, None, is_some, append-nil, append_assoc}
use Rattle.cc_ast.specs.Syntax.{Expr, Target, Exprs, Fields, Declarator, ForInit, ForTarget, Stmt, Stmts, MaybeStmts, Cases, Scope}
use Rattle.cc_ast.specs.Syntax as p
use Rattle.cc_ast.specs.declared.tree.Key.{Key}
use Rattle.cc_ast.specs.declared.tables.ChunkInfo.{ChunkInfo}
use Rattle.cc_meaning.specs.State.{Path}
use Rattle.cc_meaning.specs.Monad.{pick}
use Rattle.cc_meaning.specs.Shapes.{longer, path_of_ref, path_of, path_of_target, path_of_key, sets_by, sets_by_fields, sets_by_option, sets_by_vars, sets_by_value, sets_by_fun, sets_by_stmt, sets_by_stmts, sets_by_chunks}
use Rattle.cc_meaning.specs.FlatPaths.{Use, called, constructed, other, Setting, by_value, by_function, elsewhere, Mention, used, set, below, use_of, setting_of, operand_use, right_use, in_expr, in_target_of, in_exprs, in_fields, in_option, sets_at, sets_keys, in_initial, in_declarator, in_declarators, in_init, in_each, in_statement, function_setting, in_stmt, in_stmts, in_maybe, in_cases, in_scopes, settings, same_path}
use Rattle.cc_meaning.specs.Alike.{In, here, there}
use Rattle.cc_scope.proofs.Declared.{in_right}
use Rattle.cc_scope.proofs.Numbers.{head_or}
use Rattle.cc_scope.proofs.Owners.{path_equal, path_itself}

-- ---- functions that paths are set to

pub setting_function : Setting → Option ℕ
setting_function (by_value (p.fun i f)) = Some f
setting_function (by_value _) = None
setting_function (by_function f) = Some f
setting_function elsewhere = None

by_setting : Path → Option ℕ → List (Path × ℕ)
by_setting w None = []
by_setting w (Some f) = (w, f) ∷ []

mention_sets : Mention → List (Path × ℕ)
mention_sets (used w u) = []
mention_sets (set w s) = by_setting w (setting_function s)

pub function_settings : List Mention → List (Path × ℕ)
function_settings [] = []
function_settings (m ∷ ms) = mention_sets m ++ function_settings ms

pub value_function : (i f : ℕ) → setting_function (by_value (p.fun i f)) ≡ Some f
unfolding setting_function
value_function i f = refl

pub declared_function : (f : ℕ) → setting_function (by_function f) ≡ Some f
unfolding setting_function
declared_function f = refl

-- a path that is set to a function once: this is in the table
pub setting_listed : (w : Path) (s : Setting) (f : ℕ) (ms : List Mention) → In s (settings w ms) → setting_function s ≡ Some f → In {A = Path × ℕ} (w, f) (function_settings ms)
unfolding settings function_settings mention_sets by_setting
setting_listed w s f [] i e = elim i [ ]
setting_listed w s f (used v u ∷ ms) i e = setting_listed w s f ms i e
setting_listed w s f (set v r ∷ ms) i e = by (same_path v w) refl i (λ j. setting_listed w s f ms j e) where
  by : (b : Bool) → same_path v w ≡ b → In s (pick b (r ∷ settings w ms) (settings w ms)) → (In s (settings w ms) → In {A = Path × ℕ} (w, f) (function_settings ms)) → In {A = Path × ℕ} (w, f) (by_setting v (setting_function r) ++ function_settings ms)
  by true h j again = elim (head_or s r (settings w ms) j) [
    | inl d ↦ subst (λ u. In {A = Path × ℕ} (w, f) (by_setting u (setting_function r) ++ function_settings ms)) (sym (path_equal v w h)) (subst (λ o. In {A = Path × ℕ} (w, f) (by_setting w o ++ function_settings ms)) (sym e ∙ ap setting_function d) here)
    | inr k ↦ in_right (by_setting v (setting_function r)) (function_settings ms) (again k)
  ]
  by false h j again = in_right (by_setting v (setting_function r)) (function_settings ms) (again j)

-- what is in the table is a setting of its path
pub listed_setting : (w : Path) (f : ℕ) (ms : List Mention) → In {A = Path × ℕ} (w, f) (function_settings ms) → (s : Setting) × In s (settings w ms) × (setting_function s ≡ Some f)
unfolding settings function_settings mention_sets by_setting
listed_setting w f [] i = elim i [ ]
listed_setting w f (used v u ∷ ms) i = listed_setting w f ms i
listed_setting w f (set v r ∷ ms) i = by (same_path v w) refl (setting_function r) refl i (λ j. listed_setting w f ms j) where
  later : (b : Bool) → (s : Setting) × In s (settings w ms) × (setting_function s ≡ Some f) → (s : Setting) × In s (pick b (r ∷ settings w ms) (settings w ms)) × (setting_function s ≡ Some f)
  later true d = (d.0, there d.1, d.2)
  later false d = d

  by : (b : Bool) → same_path v w ≡ b → (o : Option ℕ) → setting_function r ≡ o → In {A = Path × ℕ} (w, f) (by_setting v o ++ function_settings ms)
      → (In {A = Path × ℕ} (w, f) (function_settings ms) → (s : Setting) × In s (settings w ms) × (setting_function s ≡ Some f)) → (s : Setting) × In s (pick b (r ∷ settings w ms) (settings w ms)) × (setting_function s ≡ Some f)
  by b h None e j again = later b (again j)
  by true h (Some g) e j again = elim (head_or {A = Path × ℕ} (w, f) (v, g) (function_settings ms) j) [
    | inl d ↦ (r, here, e ∙ ap Some (sym (ap (λ x. x.1) d)))
    | inr k ↦ later true (again k)
  ]
  by false h (Some g) e j again = elim (head_or {A = Path × ℕ} (w, f) (v, g) (function_settings ms) j) [
    | inl d ↦ (let q : w ≡ v = ap (λ x. x.0) d in absurd (let y : same_path v w ≡ true = subst (λ u. same_path u w ≡ true) q (path_itself w) in let z : true ≡ false = sym y ∙ h in cc))
    | inr k ↦ later false (again k)
  ]

settings_join : (ms ns : List Mention) → function_settings (ms ++ ns) ≡ function_settings ms ++ function_settings ns
unfolding function_settings
settings_join [] ns = refl
settings_join (m ∷ ms) ns = ap (λ ys. mention_sets m ++ ys) (settings_join ms ns) ∙ sym (append_assoc (mention_sets m) (function_settings ms) (function_settings ns))

abbrev None_ : List Mention → Type 0
None_ ms = function_settings ms ≡ []

none_join : (ms ns : List Mention) → None_ ms → None_ ns → None_ (ms ++ ns)
none_join ms ns a b = settings_join ms ns ∙ rw a b

none_used : (o : Option Path) (u : Use) (more : List Mention) → None_ more → None_ (use_of o u more)
unfolding use_of function_settings mention_sets
none_used None u more h = h
none_used (Some w) u more h = refl

none_elsewhere : (o : Option Path) (more : List Mention) → None_ more → None_ (setting_of o elsewhere more)
unfolding setting_of function_settings mention_sets by_setting setting_function
none_elsewhere None more h = h
none_elsewhere (Some w) more h = refl

mutual
  unfolding in_expr function_settings

  expr_none : (u : Use) (e : Expr) → None_ (in_expr u e)
  expr_none u (p.lit i x) = refl
  expr_none u (p.var i r) = none_used (path_of_ref r) u [] refl
  expr_none u (p.this i) = refl
  expr_none u (p.fun i f) = refl
  expr_none u (p.list i es) = exprs_none es
  expr_none u (p.object i fs) = fields_none fs
  expr_none u (p.unary i op e) = expr_none (operand_use op) e
  expr_none u (p.binary i op a b) = none_join _ _ (expr_none other a) (expr_none (right_use op) b)
  expr_none u (p.and i a b) = none_join _ _ (expr_none other a) (expr_none other b)
  expr_none u (p.or i a b) = none_join _ _ (expr_none other a) (expr_none other b)
  expr_none u (p.cond i t a b) = none_join _ _ (none_join _ _ (expr_none other t) (expr_none other a)) (expr_none other b)
  expr_none u (p.assign i op t e) = none_join _ _ (target_none t) (expr_none other e)
  expr_none u (p.step i up before t) = target_none t
  expr_none u (p.member i e q) = none_used (longer (path_of e) q) u (in_expr other e) (expr_none other e)
  expr_none u (p.index i e k) = none_join _ _ (expr_none other e) (expr_none other k)
  expr_none u (p.call i f es) = none_join _ _ (expr_none called f) (exprs_none es)
  expr_none u (p.new i f es) = none_join _ _ (expr_none constructed f) (exprs_none es)
  expr_none u (p.comma i a b) = none_join _ _ (expr_none other a) (expr_none other b)
  expr_none u (p.cast i d e) = expr_none (below u) e
  expr_none u (p.tick i n e) = expr_none (below u) e

  target_none : (t : Target) → None_ (in_target_of t)
  target_none (p.to_var i r) = none_elsewhere (path_of_ref r) [] refl
  target_none (p.to_member i e q) = none_elsewhere (longer (path_of e) q) (in_expr other e) (expr_none other e)
  target_none (p.to_index i e k) = none_join _ _ (expr_none other e) (expr_none other k)

  exprs_none : (es : Exprs) → None_ (in_exprs es)
  exprs_none p.no_exprs = refl
  exprs_none (p.more_exprs e es) = none_join _ _ (expr_none other e) (exprs_none es)

  fields_none : (fs : Fields) → None_ (in_fields fs)
  fields_none p.no_fields = refl
  fields_none (p.more_fields k e fs) = none_join _ _ (expr_none other e) (fields_none fs)

option_none : (o : Option Expr) → None_ (in_option o)
unfolding in_option function_settings
option_none None = refl
option_none (Some e) = expr_none other e

-- a declarator that is no own statement's
initial_none : (o : Option Path) (e : Option Expr) → None_ (in_initial false o e)
unfolding in_initial function_settings
initial_none o None = refl
initial_none o (Some e) = none_join _ _ (none_elsewhere o [] refl) (expr_none other e)

declarators_none : (ds : List Declarator) → None_ (in_declarators false ds)
unfolding in_declarators in_declarator function_settings
declarators_none [] = refl
declarators_none (d ∷ ds) = none_join _ _ (initial_none (path_of_ref d.variable) d.value) (declarators_none ds)

init_none : (h : ForInit) → None_ (in_init h)
unfolding in_init function_settings
init_none p.no_init = refl
init_none (p.init_value e) = expr_none other e
init_none (p.init_vars ds) = declarators_none ds

each_none : (t : ForTarget) → None_ (in_each t)
unfolding in_each function_settings
each_none (p.in_target t) = target_none t
each_none (p.in_declared d) = none_join _ _ (none_elsewhere (path_of_ref d.variable) [] refl) (option_none d.value)

mutual
  unfolding in_stmt in_statement function_setting function_settings

  stmt_none : (s : Stmt) → None_ (in_stmt false s)
  stmt_none (p.simple i e) = expr_none other e
  stmt_none (p.vars i ds) = declarators_none ds
  stmt_none (p.fun_decl i r f) = none_elsewhere (path_of_ref r) [] refl
  stmt_none (p.if i t a b) = none_join _ _ (none_join _ _ (expr_none other t) (stmts_none a)) (stmts_none b)
  stmt_none (p.while i t b) = none_join _ _ (expr_none other t) (stmts_none b)
  stmt_none (p.do_while i b t) = none_join _ _ (stmts_none b) (expr_none other t)
  stmt_none (p.for i h t e b) = none_join _ _ (none_join _ _ (none_join _ _ (init_none h) (option_none t)) (option_none e)) (stmts_none b)
  stmt_none (p.for_in i t e b) = none_join _ _ (none_join _ _ (each_none t) (expr_none other e)) (stmts_none b)
  stmt_none (p.return i e) = option_none e
  stmt_none (p.throw i e) = expr_none other e
  stmt_none (p.break i l) = refl
  stmt_none (p.continue i l) = refl
  stmt_none (p.label i l b) = stmts_none b
  stmt_none (p.switch i e cs) = none_join _ _ (expr_none other e) (cases_none cs)
  stmt_none (p.try i b k f) = none_join _ _ (none_join _ _ (stmts_none b) (maybe_none k)) (maybe_none f)
  stmt_none (p.pay_stmt i n) = refl

  stmts_none : (ss : Stmts) → None_ (in_stmts false ss)
  stmts_none p.no_stmts = refl
  stmts_none (p.more_stmts s ss) = none_join _ _ (stmt_none s) (stmts_none ss)

  maybe_none : (m : MaybeStmts) → None_ (in_maybe m)
  maybe_none p.absent = refl
  maybe_none (p.present ss) = stmts_none ss

  cases_none : (cs : Cases) → None_ (in_cases cs)
  cases_none p.no_cases = refl
  cases_none (p.more_cases t b cs) = none_join _ _ (none_join _ _ (option_none t) (stmts_none b)) (cases_none cs)

-- ---- the own statements of chunks

-- nothing is set where there is no path
mutual
  unfolding sets_by path_of_key longer

  no_sets : (e : Expr) → sets_by None e ≡ []
  no_sets (p.lit i x) = refl
  no_sets (p.var i r) = refl
  no_sets (p.this i) = refl
  no_sets (p.fun i f) = refl
  no_sets (p.list i es) = refl
  no_sets (p.object i fs) = no_set_fields fs
  no_sets (p.unary i op e) = refl
  no_sets (p.binary i op a b) = refl
  no_sets (p.and i a b) = refl
  no_sets (p.or i a b) = refl
  no_sets (p.cond i t a b) = refl
  no_sets (p.assign i op t e) = refl
  no_sets (p.step i up before t) = refl
  no_sets (p.member i e q) = refl
  no_sets (p.index i e k) = refl
  no_sets (p.call i f es) = refl
  no_sets (p.new i f es) = refl
  no_sets (p.comma i a b) = refl
  no_sets (p.cast i d e) = refl
  no_sets (p.tick i n e) = refl

  no_set_fields : (fs : Fields) → sets_by_fields None fs ≡ []
  no_set_fields p.no_fields = refl
  no_set_fields (p.more_fields (Key.Dotted q) e fs) = rw (no_sets e) (no_set_fields fs)
  no_set_fields (p.more_fields (Key.Quoted t) e fs) = rw (no_sets e) (no_set_fields fs)

mutual
  unfolding sets_at sets_by function_settings mention_sets by_setting setting_function path_of_key longer

  at_sets : (w : Path) (e : Expr) → function_settings (sets_at (Some w) e) ≡ sets_by (Some w) e
  at_sets w (p.lit i x) = refl
  at_sets w (p.var i r) = refl
  at_sets w (p.this i) = refl
  at_sets w (p.fun i f) = refl
  at_sets w (p.list i es) = refl
  at_sets w (p.object i fs) = keys_set w fs
  at_sets w (p.unary i op e) = refl
  at_sets w (p.binary i op a b) = refl
  at_sets w (p.and i a b) = refl
  at_sets w (p.or i a b) = refl
  at_sets w (p.cond i t a b) = refl
  at_sets w (p.assign i op t e) = refl
  at_sets w (p.step i up before t) = refl
  at_sets w (p.member i e q) = refl
  at_sets w (p.index i e k) = refl
  at_sets w (p.call i f es) = refl
  at_sets w (p.new i f es) = refl
  at_sets w (p.comma i a b) = refl
  at_sets w (p.cast i d e) = refl
  at_sets w (p.tick i n e) = refl

  keys_set : (w : Path) (fs : Fields) → function_settings (sets_keys (Some w) fs) ≡ sets_by_fields (Some w) fs
  keys_set w p.no_fields = refl
  keys_set w (p.more_fields (Key.Dotted q) e fs) = settings_join (sets_at (Some (w.0, w.1 ++ q ∷ [])) e) (sets_keys (Some w) fs) ∙ rw (at_sets (w.0, w.1 ++ q ∷ []) e) (rw (keys_set w fs) refl)
  keys_set w (p.more_fields (Key.Quoted t) e fs) = keys_set w fs ∙ rw (no_sets e) refl

any_sets : (o : Option Path) (e : Expr) → function_settings (sets_at o e) ≡ sets_by o e
unfolding sets_at function_settings
any_sets None e = sym (no_sets e)
any_sets (Some w) e = at_sets w e

-- what is set, with an expression behind it
behind_none : (ms : List Mention) (e : Expr) → function_settings (ms ++ in_expr other e) ≡ function_settings ms
behind_none ms e = settings_join ms (in_expr other e) ∙ rw (expr_none other e) (append-nil (function_settings ms))

initial_sets : (o : Option Path) (e : Option Expr) → function_settings (in_initial true o e) ≡ sets_by_option o e
unfolding in_initial sets_by_option function_settings
initial_sets o None = refl
initial_sets o (Some e) = behind_none (sets_at o e) e ∙ any_sets o e

declarators_set : (ds : List Declarator) → function_settings (in_declarators true ds) ≡ sets_by_vars ds
unfolding in_declarators in_declarator sets_by_vars function_settings
declarators_set [] = refl
declarators_set (d ∷ ds) = settings_join (in_initial true (path_of_ref d.variable) d.value) (in_declarators true ds) ∙ rw (initial_sets (path_of_ref d.variable) d.value) (rw (declarators_set ds) refl)

assigned_sets : (t : Target) (e : Expr) (o : Option Path) → path_of_target t ≡ o → function_settings (pick (is_some o) (sets_at o e) (in_target_of t)) ≡ sets_by o e
assigned_sets t e None h = target_none t ∙ sym (no_sets e)
assigned_sets t e (Some w) h = at_sets w e

statement_sets : (e : Expr) → function_settings (in_statement true e) ≡ sets_by_value e
unfolding in_statement sets_by_value
statement_sets (p.assign i None t e) = behind_none (pick (is_some (path_of_target t)) (sets_at (path_of_target t) e) (in_target_of t)) e ∙ assigned_sets t e (path_of_target t) refl
statement_sets (p.assign i (Some op) t e) = expr_none other (p.assign i (Some op) t e)
statement_sets (p.lit i x) = expr_none other (p.lit i x)
statement_sets (p.var i r) = expr_none other (p.var i r)
statement_sets (p.this i) = expr_none other (p.this i)
statement_sets (p.fun i f) = expr_none other (p.fun i f)
statement_sets (p.list i es) = expr_none other (p.list i es)
statement_sets (p.object i fs) = expr_none other (p.object i fs)
statement_sets (p.unary i op e) = expr_none other (p.unary i op e)
statement_sets (p.binary i op a b) = expr_none other (p.binary i op a b)
statement_sets (p.and i a b) = expr_none other (p.and i a b)
statement_sets (p.or i a b) = expr_none other (p.or i a b)
statement_sets (p.cond i t a b) = expr_none other (p.cond i t a b)
statement_sets (p.step i up before t) = expr_none other (p.step i up before t)
statement_sets (p.member i e q) = expr_none other (p.member i e q)
statement_sets (p.index i e k) = expr_none other (p.index i e k)
statement_sets (p.call i f es) = expr_none other (p.call i f es)
statement_sets (p.new i f es) = expr_none other (p.new i f es)
statement_sets (p.comma i a b) = expr_none other (p.comma i a b)
statement_sets (p.cast i d e) = expr_none other (p.cast i d e)
statement_sets (p.tick i n e) = expr_none other (p.tick i n e)

declared_sets : (o : Option Path) (f : ℕ) → function_settings (setting_of o (by_function f) []) ≡ sets_by_fun o f
unfolding setting_of sets_by_fun function_settings mention_sets by_setting setting_function
declared_sets None f = refl
declared_sets (Some w) f = refl

stmt_sets : (s : Stmt) → function_settings (in_stmt true s) ≡ sets_by_stmt s
unfolding in_stmt sets_by_stmt function_setting
stmt_sets (p.simple i e) = statement_sets e
stmt_sets (p.vars i ds) = declarators_set ds
stmt_sets (p.fun_decl i r f) = declared_sets (path_of_ref r) f
stmt_sets (p.if i t a b) = stmt_none (p.if i t a b)
stmt_sets (p.while i t b) = stmt_none (p.while i t b)
stmt_sets (p.do_while i b t) = stmt_none (p.do_while i b t)
stmt_sets (p.for i h t e b) = stmt_none (p.for i h t e b)
stmt_sets (p.for_in i t e b) = stmt_none (p.for_in i t e b)
stmt_sets (p.return i e) = stmt_none (p.return i e)
stmt_sets (p.throw i e) = stmt_none (p.throw i e)
stmt_sets (p.break i l) = stmt_none (p.break i l)
stmt_sets (p.continue i l) = stmt_none (p.continue i l)
stmt_sets (p.label i l b) = stmt_none (p.label i l b)
stmt_sets (p.switch i e cs) = stmt_none (p.switch i e cs)
stmt_sets (p.try i b k f) = stmt_none (p.try i b k f)
stmt_sets (p.pay_stmt i n) = stmt_none (p.pay_stmt i n)

stmts_set : (ss : Stmts) → function_settings (in_stmts true ss) ≡ sets_by_stmts ss
unfolding in_stmt sets_by_stmts function_settings
stmts_set p.no_stmts = refl
stmts_set (p.more_stmts s ss) = settings_join (in_stmt true s) (in_stmts true ss) ∙ rw (stmt_sets s) (rw (stmts_set ss) refl)

-- the mentions of all scopes, of which the chunks' are the first
pub scopes_set : (cs : List ChunkInfo) (ss : List Scope) → function_settings (in_scopes cs ss) ≡ sets_by_chunks cs ss
unfolding in_scopes sets_by_chunks function_settings
scopes_set [] [] = refl
scopes_set (c ∷ cs) [] = refl
scopes_set [] (s ∷ ss) = none_join (in_stmts false s.body) (in_scopes [] ss) (stmts_none s.body) (scopes_set [] ss)
scopes_set (c ∷ cs) (s ∷ ss) = settings_join (in_stmts true s.body) (in_scopes cs ss) ∙ rw (stmts_set s.body) (rw (scopes_set cs ss) refl)

-- Where a global or a path is set to a function by a statement of a chunk's own list, it is mentioned.
use Rattle.std.proofs.Common.{inl, inr, ℕ, true, List, [], ◌∷◌, ◌++◌, Option, Some, None, is_some}
use Rattle.cc_ast.specs.Syntax.{Expr, fun, object, assign, Target, Fields, no_fields, more_fields, Declarator, Stmt, simple, vars, fun_decl, Stmts, no_stmts, more_stmts, Scope}
use Rattle.cc_ast.specs.declared.tree.Key.{Key}
use Rattle.cc_ast.specs.declared.tables.ChunkInfo.{ChunkInfo}
use Rattle.cc_meaning.specs.State.{Path}
use Rattle.cc_meaning.specs.Monad.{pick}
use Rattle.cc_meaning.specs.Alike.{In, here, there}
use Rattle.cc_meaning.specs.Shapes.{longer, path_of_ref, path_of_target, path_of_key, sets_by, sets_by_fields, sets_by_option, sets_by_vars, sets_by_value, sets_by_fun, sets_by_stmt, sets_by_stmts, sets_by_chunks}
use Rattle.cc_meaning.specs.FlatPaths.{other, Setting, by_value, by_function, Mention, set, setting_of, in_expr, in_target_of, sets_at, sets_keys, in_initial, in_declarator, in_declarators, in_statement, function_setting, in_stmt, in_stmts, in_scopes}
use Rattle.cc_tied.proofs.Mixed.KeptSets.{in_left, in_right, in_either}

-- how a path is set
pub record IsSet (w : Path) (ms : List Mention) : Type 0 where
  pub setting : Setting
  pub stands : In (set w setting) ms

set_first : {w : Path} {ms : List Mention} (ns : List Mention) → IsSet w ms → IsSet w (ms ++ ns)
set_first ns s = record { setting = s.setting; stands = in_left ns s.stands }

set_later : {w : Path} (ms : List Mention) {ns : List Mention} → IsSet w ns → IsSet w (ms ++ ns)
set_later ms s = record { setting = s.setting; stands = in_right ms s.stands }

-- nothing is set by a value where no path stands
mutual
  unfolding sets_by path_of_key longer

  none_by : {A : Type 0} {x : Path × ℕ} (e : Expr) → In x (sets_by None e) → A
  none_by (object i fs) j = none_by_fields fs j
  none_by e j = elim j [ ]

  none_by_fields : {A : Type 0} {x : Path × ℕ} (fs : Fields) → In x (sets_by_fields None fs) → A
  none_by_fields no_fields j = elim j [ ]
  none_by_fields (more_fields (Key.Dotted p) e fs) j = elim (in_either (sets_by None e) j) [ inl k ↦ none_by e k | inr k ↦ none_by_fields fs k ]
  none_by_fields (more_fields (Key.Quoted t) e fs) j = elim (in_either (sets_by None e) j) [ inl k ↦ none_by e k | inr k ↦ none_by_fields fs k ]

one_set : {w v : Path} {f g : ℕ} (s : Setting) (ms : List Mention) → In {A = Path × ℕ} (w, f) ((v, g) ∷ []) → IsSet w (set v s ∷ ms)
one_set s ms here = record { setting = s; stands = here }
one_set s ms (there i) = elim i [ ]

mutual
  unfolding sets_by sets_at

  set_at : {w : Path} {f : ℕ} (o : Option Path) (e : Expr) → In (w, f) (sets_by o e) → IsSet w (sets_at o e)
  set_at None e j = none_by e j
  set_at (Some v) (object i fs) j = set_later (set v (by_value (object i fs)) ∷ []) (set_in (Some v) fs j)
  set_at (Some v) (fun i g) j = one_set (by_value (fun i g)) [] j
  set_at (Some v) e j = elim j [ ]

  set_in : {w : Path} {f : ℕ} (o : Option Path) (fs : Fields) → In (w, f) (sets_by_fields o fs) → IsSet w (sets_keys o fs)
  set_in o no_fields j = elim j [ ]
  set_in o (more_fields k e fs) j = elim (in_either (sets_by (path_of_key o k) e) j) [ inl i ↦ set_first (sets_keys o fs) (set_at (path_of_key o k) e i) | inr i ↦ set_later (sets_at (path_of_key o k) e) (set_in o fs i) ]

set_initial : {w : Path} {f : ℕ} (o : Option Path) (e : Option Expr) → In (w, f) (sets_by_option o e) → IsSet w (in_initial true o e)
unfolding sets_by_option in_initial
set_initial o None j = elim j [ ]
set_initial o (Some e) j = set_first (in_expr other e) (set_at o e j)

set_vars : {w : Path} {f : ℕ} (ds : List Declarator) → In (w, f) (sets_by_vars ds) → IsSet w (in_declarators true ds)
unfolding sets_by_vars in_declarators in_declarator
set_vars [] j = elim j [ ]
set_vars (d ∷ ds) j = elim (in_either (sets_by_option (path_of_ref d.variable) d.value) j) [
  | inl i ↦ set_first (in_declarators true ds) (set_initial (path_of_ref d.variable) d.value i)
  | inr i ↦ set_later (in_initial true (path_of_ref d.variable) d.value) (set_vars ds i)
]

set_assigned : {w : Path} {f : ℕ} (o : Option Path) (x : Target) (e : Expr) → In (w, f) (sets_by o e) → IsSet w (pick (is_some o) (sets_at o e) (in_target_of x) ++ in_expr other e)
set_assigned None x e j = none_by e j
set_assigned (Some v) x e j = set_first (in_expr other e) (set_at (Some v) e j)

set_value : {w : Path} {f : ℕ} (e : Expr) → In (w, f) (sets_by_value e) → IsSet w (in_statement true e)
unfolding sets_by_value in_statement
set_value (assign i None x e) j = set_assigned (path_of_target x) x e j
set_value e j = elim j [ ]

set_function : {w : Path} {f : ℕ} (o : Option Path) (g : ℕ) → In (w, f) (sets_by_fun o g) → IsSet w (setting_of o (by_function g) [])
unfolding sets_by_fun setting_of
set_function None g j = elim j [ ]
set_function (Some v) g j = one_set (by_function g) [] j

set_stmt : {w : Path} {f : ℕ} (s : Stmt) → In (w, f) (sets_by_stmt s) → IsSet w (in_stmt true s)
unfolding sets_by_stmt in_stmt function_setting
set_stmt (simple i e) j = set_value e j
set_stmt (vars i ds) j = set_vars ds j
set_stmt (fun_decl i r g) j = set_function (path_of_ref r) g j
set_stmt s j = elim j [ ]

set_stmts : {w : Path} {f : ℕ} (ss : Stmts) → In (w, f) (sets_by_stmts ss) → IsSet w (in_stmts true ss)
unfolding sets_by_stmts in_stmts
set_stmts no_stmts j = elim j [ ]
set_stmts (more_stmts s ss) j = elim (in_either (sets_by_stmt s) j) [ inl i ↦ set_first (in_stmts true ss) (set_stmt s i) | inr i ↦ set_later (in_stmt true s) (set_stmts ss i) ]

pub set_mentioned : {w : Path} {f : ℕ} (cs : List ChunkInfo) (ss : List Scope) → In (w, f) (sets_by_chunks cs ss) → IsSet w (in_scopes cs ss)
unfolding sets_by_chunks in_scopes
set_mentioned [] ss j = elim j [ ]
set_mentioned (c ∷ cs) [] j = elim j [ ]
set_mentioned (c ∷ cs) (s ∷ ss) j = elim (in_either (sets_by_stmts s.body) j) [ inl i ↦ set_first (in_scopes cs ss) (set_stmts s.body i) | inr i ↦ set_later (in_stmts true s.body) (set_mentioned cs ss i) ]

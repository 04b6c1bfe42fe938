-- When a text is of the form, and when it is not.
use Rattle.std.proofs.Common.{◌≡◌, ℕ, suc, ◌≤◌, Bool, true, false, List, [], length, Option, None, Some, refl, sym, ap, subst, ◌∙◌, All, Contains, cond, nat_lt, ltb-false, le-ltb}
use Rattle.std.specs.List.{list_all, IsDistinct}
use Rattle.std.specs.Str.{bytes_eq}
use Rattle.cc_driver.specs.Form.{IsExterns, IsReading, IsSource, declared, called, used}
use Rattle.cc_driver.specs.declared.form.Statement.{Statement}
use Rattle.cc_driver.specs.FormReading.{read_statements, read_functions}
use Rattle.cc_driver.specs.FormChecks.{each_once, all_declared, uses_known, bind, names_test, externs_found, source_found}
use Rattle.cc_driver.proofs.Runs.{same_some}
use Rattle.cc_driver.proofs.FormLaws.{statements_are, statements_read, functions_are, functions_read}
use Rattle.cc_driver.proofs.NameLaws.{Names, Distinct, each_once_sound, each_once_complete, all_declared_sound, all_declared_complete, uses_sound, uses_complete}

-- each called name is an extern, each name used as a value is declared, and each declared name is new
pub record HasNames (externs : Names) (statements : List Statement) : Type 0 where
  pub called_are_externs : All (Contains externs) (called statements)
  pub used_are_declared : All (Contains (declared statements)) (used statements)
  pub declared_once : IsDistinct bytes_eq (declared statements)
  pub declared_are_new : All (λ name. Contains externs name → ⊥) (declared statements)

no_some : {X : Type 0} {x : X} → None ≡ Some x → ⊥
no_some e = cc

no_distinct : Distinct []
unfolding IsDistinct
no_distinct = tt

pub once : (names after : Names) → each_once [] names ≡ Some after → Distinct names
once names after e = let h = each_once_sound [] names after e in subst Distinct h.names (h.distinct no_distinct)

pub same_names : (names after : Names) → each_once [] names ≡ Some after → after ≡ names
same_names names after e = (each_once_sound [] names after e).names

pub not_once : (names : Names) → each_once [] names ≡ None → Distinct names → ⊥
not_once names e d = no_some (sym e ∙ each_once_complete [] names d)

short : (text : List ℕ) → nat_lt 16777216 (length text) ≡ false → length text ≤ 16777216
short text e = ltb-false _ _ e

not_long : (text : List ℕ) → length text ≤ 16777216 → nat_lt 16777216 (length text) ≡ false
not_long text h = le-ltb _ _ h

pub record Bound {A B : Type 0} (m : Option A) (f : A → Option B) (b : B) : Type 0 where
  pub first : A
  pub is : m ≡ Some first
  pub then : f first ≡ Some b

bound : {A B : Type 0} (m : Option A) (f : A → Option B) (b : B) → bind m f ≡ Some b → Bound m f b
bound None f b e = absurd (no_some e)
bound (Some x) f b e = record { first = x; is = refl; then = e }

allowed : {X : Type 0} (b : Bool) (m : Option X) (x : X) → cond b None m ≡ Some x → (b ≡ false) × (m ≡ Some x)
allowed true m x e = absurd (no_some e)
allowed false m x e = (refl, e)

passed : {X : Type 0} (b : Bool) (x y : X) → cond b (Some x) None ≡ Some y → b ≡ true
passed true x y e = refl
passed false x y e = absurd (no_some e)

pub externs_are : (text : List ℕ) (names : Names) → externs_found text ≡ Some names → IsExterns text names
unfolding externs_found
externs_are text names e =
    let a = allowed _ _ _ e in
    let r = bound _ _ _ a.1 in
    let o = bound _ _ _ r.then in
    let same : r.first ≡ names = same_some o.then in
    subst (IsExterns text) same (record { form = functions_are text r.first r.is; short = short text a.0; once = once r.first o.first o.is })

-- externs of the form are found
pub externs_read : (text : List ℕ) (names : Names) → IsExterns text names → externs_found text ≡ Some names
unfolding externs_found
externs_read text names h =
    ap (λ b. cond b None (bind (read_functions (suc (length text)) [] 0 text) (λ names. bind (each_once [] names) (λ table. Some names)))) (not_long text h.short)
    ∙ ap (λ m. bind m (λ names. bind (each_once [] names) (λ table. Some names))) (functions_read text names h.form)
    ∙ ap (λ m. bind m (λ table. Some names)) (each_once_complete [] names h.once)

pub externs_none : (text : List ℕ) → externs_found text ≡ None → (names : Names) → IsExterns text names → ⊥
externs_none text e names h = no_some (sym e ∙ externs_read text names h)

pub names_are : (externs : Names) (ss : List Statement) (u : Unit {0}) → names_test externs ss ≡ Some u → HasNames externs ss
unfolding names_test
names_are externs ss unit e =
    let t = bound _ _ _ e in
    let n = bound _ _ _ t.then in
    let known = passed _ _ _ n.then in
    let same : t.first ≡ externs = same_names externs t.first t.is in
    let d = all_declared_sound t.first [] ss n.first n.is in
    let all : n.first ≡ declared ss = d.entered.names in
    let u = uses_sound t.first n.first ss known in
    record {
      called_are_externs = subst (λ t. All (Contains t) (called ss)) same u.calls;
      used_are_declared = subst (λ t. All (Contains t) (used ss)) all u.uses;
      declared_once = subst Distinct all (d.entered.distinct no_distinct);
      declared_are_new = subst (λ t. All (λ name. Contains t name → ⊥) (declared ss)) same d.new;
    }

pub names_known : (externs : Names) (ss : List Statement) → Distinct externs → HasNames externs ss → names_test externs ss ≡ Some tt
unfolding names_test
names_known externs ss d h =
    ap (λ m. bind m (λ table. bind (all_declared table [] ss) (λ names. cond (list_all (uses_known table names) ss) (Some tt) None))) (each_once_complete [] externs d)
    ∙ ap (λ m. bind m (λ names. cond (list_all (uses_known externs names) ss) (Some tt) None)) (all_declared_complete externs [] ss h.declared_once h.declared_are_new)
    ∙ ap (λ b. cond b (Some tt) None) (uses_complete externs (declared ss) ss (record { calls = h.called_are_externs; uses = h.used_are_declared }))

pub source_is : (externs : Names) (text : List ℕ) (ss : List Statement) → source_found externs text ≡ Some ss → IsSource externs text ss
unfolding source_found
source_is externs text ss e =
    let a = allowed _ _ _ e in
    let r = bound _ _ _ a.1 in
    let o = bound _ _ _ r.then in
    let same : r.first ≡ ss = same_some o.then in
    let h = names_are externs r.first o.first o.is in
    let reading : IsReading externs text r.first = record {
      form = statements_are text r.first r.is;
      called_are_externs = h.called_are_externs;
      used_are_declared = h.used_are_declared;
      declared_once = h.declared_once;
      declared_are_new = h.declared_are_new;
    } in
    subst (IsSource externs text) same (record { reading = reading; short = short text a.0 })

-- a source of the form is found
pub source_read : (externs : Names) (text : List ℕ) (ss : List Statement) → Distinct externs → IsSource externs text ss → source_found externs text ≡ Some ss
unfolding source_found
source_read externs text ss d h =
    let r = h.reading in
    let names : HasNames externs ss = record { called_are_externs = r.called_are_externs; used_are_declared = r.used_are_declared; declared_once = r.declared_once; declared_are_new = r.declared_are_new } in
    ap (λ b. cond b None (bind (read_statements (suc (length text)) [] 0 text) (λ ss. bind (names_test externs ss) (λ u. Some ss)))) (not_long text h.short)
    ∙ ap (λ m. bind m (λ ss. bind (names_test externs ss) (λ u. Some ss))) (statements_read text ss r.form)
    ∙ ap (λ m. bind m (λ u. Some ss)) (names_known externs ss d names)

pub source_none : (externs : Names) (text : List ℕ) → source_found externs text ≡ None → (file : List ℕ) → IsExterns file externs → (ss : List Statement) → IsSource externs text ss → ⊥
source_none externs text e file h ss s = no_some (sym e ∙ source_read externs text ss h.once s)

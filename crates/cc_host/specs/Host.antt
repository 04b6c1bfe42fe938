-- What each call of a host does to its counts of faults, to its files and to what it was told.
use Rattle.std.specs.Prelude.{◌≡◌, ◌≢◌, ℕ, ◌≤◌, List, ◌++◌, Option, None, Some, ⊤, IfSome, IsSomeAnd, OnOk, IsErrOf}
use Rattle.std.specs.Io.{StartsWith}
use Rattle.std.specs.Map.{lookup}
use Rattle.std.specs.Str.{bytes_eq}
use Rattle.cc_host.specs.declared.HostFault.TheVariants.{Failed, Memory}
use Rattle.cc_host.specs.Count.{Answer, Rose}

-- what a host's files hold, as names with their bytes, and what it was told
pub record Contents : Type 0 where
  pub files : List (List ℕ × List ℕ)
  pub told : List ℕ

-- the bytes that the file of this name holds, or `None` where there is no such file
abbrev pub file_of : Contents → List ℕ → Option (List ℕ)
file_of contents name = lookup (bytes_eq name) contents.files

-- what contracts see of a host: the count of faults of `read` and `write`, the count of faults of `tell`, and its contents, where it shows them
pub record View : Type 0 where
  pub faults : ℕ
  pub tell_faults : ℕ
  pub shown : Option Contents

-- contents are shown neither before nor after, or both times, and then this relates them
abbrev pub IfShown : Option Contents → Option Contents → (Contents → Contents → Type 0) → Type 0
IfShown None None relation = ⊤
IfShown (Some before) (Some after) relation = relation before after
IfShown None (Some after) relation = ⊥
IfShown (Some before) None relation = ⊥

-- each file but the one of this name holds what it held
abbrev pub KeepsOtherFiles : List ℕ → Contents → Contents → Type 0
KeepsOtherFiles name before after = (other : List ℕ) → other ≢ name → file_of after other ≡ file_of before other

-- what `read` of the file `name` does, where the buffer held `held` before and holds `holds` after
pub record Reads (name : List ℕ) (old new : View) (held holds : List ℕ) (answer : Answer) : Type 0 where
  pub ok : OnOk answer (IfSome old.shown (λ contents. IsSomeAnd (file_of contents name) (λ bytes. holds ≡ held ++ bytes)))
  pub begins : StartsWith holds held
  pub contents : new.shown ≡ old.shown
  pub faults : old.faults ≤ new.faults
  pub tell_faults : new.tell_faults ≡ old.tell_faults
  pub failed : IsErrOf answer Failed → Rose old.faults new.faults
  pub memory : IsErrOf answer Memory → new ≡ old

-- what `write` of these bytes to the file `name` does
pub record Writes (name bytes : List ℕ) (old new : View) (answer : Answer) : Type 0 where
  pub ok : OnOk answer (IfShown old.shown new.shown (λ before after. file_of after name ≡ Some bytes))
  pub others : IfShown old.shown new.shown (KeepsOtherFiles name)
  pub told : IfShown old.shown new.shown (λ before after. after.told ≡ before.told)
  pub faults : old.faults ≤ new.faults
  pub tell_faults : new.tell_faults ≡ old.tell_faults
  pub failed : IsErrOf answer Failed → Rose old.faults new.faults
  pub memory : IsErrOf answer Memory → new ≡ old

-- what `tell` of these bytes does
pub record Tells (bytes : List ℕ) (old new : View) (answer : Answer) : Type 0 where
  pub ok : OnOk answer (IfShown old.shown new.shown (λ before after. after.told ≡ before.told ++ bytes))
  pub files : IfShown old.shown new.shown (λ before after. after.files ≡ before.files)
  pub faults : new.faults ≡ old.faults
  pub tell_faults : old.tell_faults ≤ new.tell_faults
  pub failed : IsErrOf answer Failed → Rose old.tell_faults new.tell_faults
  pub kept : IsErrOf answer Failed → new.shown ≡ old.shown
  pub memory : IsErrOf answer Memory → new ≡ old

-- A host in memory as contracts see it, and which of its calls fail.
use Rattle.std.specs.Prelude.{ℕ, List, Some, map, Contains, string_bytes}
use Rattle.std.specs.BTreeMap.{BTreeMap}
use Rattle.std.specs.Prelude.{String, Vec}
use Rattle.std.specs.declared.alloc.Global.{Global}
use Rattle.cc_host.specs.declared.memory_host.MemoryHost.{MemoryHost}
use Rattle.cc_host.specs.Host.{Contents, View}

-- the files as names with their bytes
abbrev pub files_of : BTreeMap (String Global) (Vec ℕ Global) → List (List ℕ × List ℕ)
files_of files = map (λ file. (string_bytes file.0, file.1.items)) files.entries

-- the files, and what was told
abbrev pub contents_of : MemoryHost → Contents
contents_of host = record { files = files_of host.files; told = host.told.items }

-- a host in memory shows everything
abbrev pub view_of : MemoryHost → View
view_of host = record {
  faults = host.count;
  tell_faults = host.tell_count;
  shown = Some (contents_of host);
}

-- the next call of the host is one that fails
abbrev pub FailsNext : MemoryHost → Type 0
FailsNext host = Contains host.fail.items host.calls

-- The table of flags.
use Rattle.std.specs.Prelude.{ℕ, List, [], ◌∷◌, Bool, true, false, not, if◌then◌else◌, Option, Some, None, option_and_then, codes, find}
use Rattle.std.specs.Str.{bytes_eq}
use denote.Enum.Bare.{sameb}
use Rattle.cc_flags.specs.declared.flag.Call.{Call}
use Rattle.cc_flags.specs.declared.flag.Call.TheVariants.{Compile, Replay}
use Rattle.cc_flags.specs.declared.flag.Flag.{Flag}
use Rattle.cc_flags.specs.declared.flag.Flag.TheVariants as flag
use Rattle.cc_flags.specs.contracts.flag.Flag as the_flag
use Rattle.cc_flags.specs.declared.flag.Form.{Form}
use Rattle.cc_flags.specs.declared.flag.Form.TheVariants as form
use Rattle.cc_flags.specs.contracts.flag.Form as the_form

-- how often a flag may be given
pub data Times : Type 0 where
  once any : Times

-- which calls know it
pub data Callers : Type 0 where
  compiling replaying both : Callers

-- A row of the table. specs/Values.antt says what a value of each form is.
pub record Row : Type 0 where
  pub name : List ℕ
  pub form : Form
  pub times : Times
  pub callers : Callers

abbrev pub row : List ℕ → Form → Times → Callers → Row
row name form times callers = record { name = name; form = form; times = times; callers = callers }

abbrev pub row_of : Flag → Row
row_of flag.Js = row (codes "js") form.AnyText any both
row_of flag.Externs = row (codes "externs") form.AnyText any both
row_of flag.JsOutputFile = row (codes "js_output_file") form.AnyText once compiling
row_of flag.Chunk = row (codes "chunk") form.Chunk any both
row_of flag.ChunkOutputPathPrefix = row (codes "chunk_output_path_prefix") form.AnyText once compiling
row_of flag.ChunkWrapper = row (codes "chunk_wrapper") form.ChunkWrapper any compiling
row_of flag.OutputWrapper = row (codes "output_wrapper") form.OutputWrapper once compiling
row_of flag.Define = row (codes "define") form.Define any both
row_of flag.GenerateExports = row (codes "generate_exports") form.Switch once both
row_of flag.ChecksOnly = row (codes "checks_only") form.Switch once compiling
row_of flag.Plain = row (codes "plain") form.Switch once replaying
row_of flag.CompilationLevel = row (codes "compilation_level") form.Level once compiling
row_of flag.Workers = row (codes "workers") form.Workers once compiling
row_of flag.Synthesize = row (codes "synthesize") form.Synthesis once compiling
row_of flag.Script = row (codes "script") form.AnyText once replaying
row_of flag.Bound = row (codes "bound") form.Bound once replaying

abbrev pub every_flag : List Flag
every_flag = flag.Js ∷ flag.Externs ∷ flag.JsOutputFile ∷ flag.Chunk ∷ flag.ChunkOutputPathPrefix ∷ flag.ChunkWrapper
    ∷ flag.OutputWrapper ∷ flag.Define ∷ flag.GenerateExports ∷ flag.ChecksOnly ∷ flag.Plain ∷ flag.CompilationLevel
    ∷ flag.Workers ∷ flag.Synthesize ∷ flag.Script ∷ flag.Bound ∷ []

abbrev pub knows : Call → Callers → Bool
knows Compile compiling = true
knows Compile replaying = false
knows Compile both = true
knows Replay compiling = false
knows Replay replaying = true
knows Replay both = true

unfoldable pub flag_by_name : List ℕ → Option Flag
flag_by_name name = find (λ f. bytes_eq (row_of f).name name) every_flag

-- the flag of this name, where the call knows it
abbrev pub known_flag : Call → List ℕ → Option Flag
known_flag call name = option_and_then (λ f. if knows call (row_of f).callers then Some f else None) (flag_by_name name)

-- a flag that isn't a switch needs a value
abbrev pub is_switch : Form → Bool
is_switch f = sameb the_form.the_type f form.Switch

abbrev pub needs_value : Flag → Bool
needs_value f = not (is_switch (row_of f).form)

abbrev pub is_single : Times → Bool
is_single once = true
is_single any = false

abbrev pub is_once : Flag → Bool
is_once f = is_single (row_of f).times

-- two flags are the same
abbrev pub same : Flag → Flag → Bool
same f g = sameb the_flag.the_type f g

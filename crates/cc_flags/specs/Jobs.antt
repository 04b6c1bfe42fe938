-- The job that settings ask for.
use Rattle.std.specs.Prelude.{◌≡◌, ℕ, List, [], ◌∷◌, Bool, true, false, not, ◌||◌, if◌then◌else◌, Option, Some, None, unwrap_or, option_and_then, codes, map, filter_map, length, string_bytes, ⊤}
use Rattle.std.specs.List.{AllZip, last_or}
use Rattle.std.specs.Str.{bytes_eq}
use Rattle.cc_flags.specs.declared.flag.Flag.TheVariants as flag
use Rattle.cc_flags.specs.declared.job.Job.{Job}
use Rattle.cc_flags.specs.declared.job.ReplayJob.{ReplayJob}
use Rattle.cc_flags.specs.declared.job.Output.{Output}
use Rattle.cc_flags.specs.declared.job.Output.TheVariants as output
use Rattle.cc_flags.specs.declared.job.Wrapper.{Wrapper}
use Rattle.cc_flags.specs.Texts.{texts, before, behind, places}
use Rattle.cc_flags.specs.Numbers.{decimal}
use Rattle.cc_flags.specs.Words.{Setting, is_given, values_of, value_of, sources_of, chunk_names}
use Rattle.cc_flags.specs.Values.{Chunk, chunk, chunk_of, chunk_in, IsDefine, IsAround, synthesis_of}
use Rattle.cc_flags.specs.Faults.{is_on}

-- the chunks that are asked for, or else the chunk `main` with all sources
abbrev pub or_main : ℕ → List Chunk → List Chunk
or_main sources [] = chunk (codes "main") sources [] ∷ []
or_main sources (c ∷ cs) = c ∷ cs

abbrev pub chunks_of : List Setting → List Chunk
chunks_of ss = or_main (length (sources_of ss)) (filter_map chunk_of (values_of flag.Chunk ss))

-- ---- wrappers

-- the wrapper of a text with one marker, where there is such a text
abbrev pub IsWrapperOf : List ℕ → Option (List ℕ) → Option Wrapper → Type 0
IsWrapperOf marker None None = ⊤
IsWrapperOf marker None (Some w) = ⊥
IsWrapperOf marker (Some text) None = ¬ (places marker text ≡ 1)
IsWrapperOf marker (Some text) (Some w) = IsAround marker text w

-- the text of a wrapper for the chunk of this name
abbrev pub text_for : List ℕ → List ℕ → Option (List ℕ)
text_for name v = if bytes_eq (before 58 v) name then behind 58 v else None

-- of several wrappers for one chunk the last counts
abbrev pub wrapper_text : List Setting → List ℕ → Option (List ℕ)
wrapper_text ss name = last_or None (filter_map (text_for name) (values_of flag.ChunkWrapper ss))

-- one entry for each chunk
abbrev pub wrapper_texts : List Setting → List (Option (List ℕ))
wrapper_texts ss = map (wrapper_text ss) (chunk_names ss)

-- ---- where the output goes

-- checks and generated input write nothing
abbrev pub writes : List Setting → Bool
writes ss = not (is_on flag.ChecksOnly ss || is_given flag.Synthesize ss)

pub record IsOneFile (ss : List Setting) (name : List ℕ) (wrapper : Option Wrapper) : Type 0 where
  pub written : writes ss ≡ true
  pub named : value_of flag.JsOutputFile ss ≡ Some name
  pub wrapped : IsWrapperOf (codes "%output%") (value_of flag.OutputWrapper ss) wrapper

pub record AreChunkFiles (ss : List Setting) (prefix : List ℕ) (wrappers : List (Option Wrapper)) : Type 0 where
  pub written : writes ss ≡ true
  pub no_file : value_of flag.JsOutputFile ss ≡ None
  pub named : prefix ≡ unwrap_or (value_of flag.ChunkOutputPathPrefix ss) (codes "./")
  pub wrapped : AllZip (IsWrapperOf (codes "%s")) (wrapper_texts ss) wrappers

abbrev pub IsOutput : List Setting → Output → Type 0
IsOutput ss (output.File name wrapper) = IsOneFile ss (string_bytes name) wrapper
IsOutput ss (output.Chunks prefix wrappers) = AreChunkFiles ss (string_bytes prefix) wrappers.items
IsOutput ss output.Nothing = writes ss ≡ false

-- ---- the jobs

abbrev pub number_of : Option (List ℕ) → ℕ → ℕ
number_of v otherwise = unwrap_or (option_and_then decimal v) otherwise

pub record IsJobOf (ss : List Setting) (job : Job) : Type 0 where
  pub externs : texts job.externs.items ≡ values_of flag.Externs ss
  pub sources : texts job.sources.items ≡ sources_of ss
  pub chunks : map chunk_in job.chunks.items ≡ chunks_of ss
  pub output : IsOutput ss job.output
  pub defines : AllZip IsDefine (values_of flag.Define ss) job.defines.items
  pub exports : job.generate_exports ≡ is_on flag.GenerateExports ss
  pub checks : job.checks_only ≡ is_on flag.ChecksOnly ss
  pub workers : job.workers ≡ number_of (value_of flag.Workers ss) 1
  pub synthesis : job.synthesis ≡ option_and_then synthesis_of (value_of flag.Synthesize ss)

pub record IsReplayJobOf (ss : List Setting) (job : ReplayJob) : Type 0 where
  pub externs : texts job.externs.items ≡ values_of flag.Externs ss
  pub sources : texts job.sources.items ≡ sources_of ss
  pub chunks : map chunk_in job.chunks.items ≡ chunks_of ss
  pub defines : AllZip IsDefine (values_of flag.Define ss) job.defines.items
  pub exports : job.generate_exports ≡ is_on flag.GenerateExports ss
  pub script : value_of flag.Script ss ≡ Some (string_bytes job.script)
  pub bound : job.bound ≡ number_of (value_of flag.Bound ss) 1000000
  pub plain : job.plain ≡ is_on flag.Plain ss

use Rattle.std.proofs.Common.{refl}
use Rattle.cc_flags.specs.Flags.{flag_by_name, every_flag}
use Rattle.cc_flags.proofs.FlagLaws.{none_named}
use Rattle.cc_flags.proofs.flag.Flag.by_name.Goals as goal

pub returns-in-js : goal.returns-in-js
unfolding flag_by_name
returns-in-js c = rw c.in-js.is refl

pub returns-in-externs : goal.returns-in-externs
unfolding flag_by_name
returns-in-externs c = rw c.in-externs.is refl

pub returns-in-js_output_file : goal.returns-in-js_output_file
unfolding flag_by_name
returns-in-js_output_file c = rw c.in-js_output_file.is refl

pub returns-in-chunk : goal.returns-in-chunk
unfolding flag_by_name
returns-in-chunk c = rw c.in-chunk.is refl

pub returns-in-chunk_output_path_prefix : goal.returns-in-chunk_output_path_prefix
unfolding flag_by_name
returns-in-chunk_output_path_prefix c = rw c.in-chunk_output_path_prefix.is refl

pub returns-in-chunk_wrapper : goal.returns-in-chunk_wrapper
unfolding flag_by_name
returns-in-chunk_wrapper c = rw c.in-chunk_wrapper.is refl

pub returns-in-output_wrapper : goal.returns-in-output_wrapper
unfolding flag_by_name
returns-in-output_wrapper c = rw c.in-output_wrapper.is refl

pub returns-in-define : goal.returns-in-define
unfolding flag_by_name
returns-in-define c = rw c.in-define.is refl

pub returns-in-generate_exports : goal.returns-in-generate_exports
unfolding flag_by_name
returns-in-generate_exports c = rw c.in-generate_exports.is refl

pub returns-in-checks_only : goal.returns-in-checks_only
unfolding flag_by_name
returns-in-checks_only c = rw c.in-checks_only.is refl

pub returns-in-plain : goal.returns-in-plain
unfolding flag_by_name
returns-in-plain c = rw c.in-plain.is refl

pub returns-in-compilation_level : goal.returns-in-compilation_level
unfolding flag_by_name
returns-in-compilation_level c = rw c.in-compilation_level.is refl

pub returns-in-workers : goal.returns-in-workers
unfolding flag_by_name
returns-in-workers c = rw c.in-workers.is refl

pub returns-in-synthesize : goal.returns-in-synthesize
unfolding flag_by_name
returns-in-synthesize c = rw c.in-synthesize.is refl

pub returns-in-script : goal.returns-in-script
unfolding flag_by_name
returns-in-script c = rw c.in-script.is refl

pub returns-in-bound : goal.returns-in-bound
unfolding flag_by_name
returns-in-bound c = rw c.in-bound.is refl

pub returns-in_default : goal.returns-in_default
unfolding flag_by_name
returns-in_default c = rw (none_named c.args.name.now every_flag (c.in_default.not-js, (c.in_default.not-externs, (c.in_default.not-js_output_file, (c.in_default.not-chunk, (c.in_default.not-chunk_output_path_prefix, (c.in_default.not-chunk_wrapper, (c.in_default.not-output_wrapper, (c.in_default.not-define, (c.in_default.not-generate_exports, (c.in_default.not-checks_only, (c.in_default.not-plain, (c.in_default.not-compilation_level, (c.in_default.not-workers, (c.in_default.not-synthesize, (c.in_default.not-script, (c.in_default.not-bound, tt))))))))))))))))) refl

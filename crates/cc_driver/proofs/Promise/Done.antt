-- The promise from the contract of a compilation.
use Rattle.std.proofs.Common.{◌≡◌, ℕ, List, refl, subst, Option, Some, None}
use Rattle.cc_host.specs.Host.{View, Contents, file_of, IfShown, KeepsOtherFiles}
use Rattle.cc_driver.specs.declared.outcome.Outcome.{Outcome}
use Rattle.cc_driver.specs.declared.outcome.Outcome.TheVariants.{Done}
use Rattle.cc_driver.specs.Compile.{IsJob, WasRead, IsCompiled, no_externs, no_source, no_memory, JobCause, compiled, externs_unread, source_unread, refused, unwritten, out_of_memory, Cause, bad_words, of_job, no_memory_for_message, ChangesOnly, Compiles, Accepted}
use Rattle.cc_driver.specs.Headline.{Headline}
use Rattle.cc_driver.proofs.Promise.Faithful.{compiled_faithful}

IfShown-map : (a b : Option Contents) (R T : Contents → Contents → Type 0) → ((x y : Contents) → R x y → T x y) → IfShown a b R → IfShown a b T
IfShown-map None None R T f p = tt
IfShown-map None (Some y) R T f p = absurd p
IfShown-map (Some x) None R T f p = absurd p
IfShown-map (Some x) (Some y) R T f p = f x y p

-- what a done job did
record IsDone (externs source output : List ℕ) (before after : View) : Type 0 where
  externs_text : List ℕ
  source_text : List ℕ
  text : List ℕ
  externs_read : WasRead before externs externs_text
  source_read : WasRead before source source_text
  made : IsCompiled externs_text source_text text
  written : IfShown before.shown after.shown (λ old new. file_of new output ≡ Some text)

done_job : (e s output : List ℕ) (a b : View) (o : Outcome) → JobCause e s output a b o → o ≡ Done → IsDone e s output a b
done_job e s output a b _ (compiled {x = x} {y = y} {text = t} p q made written) d = record {
  externs_text = x;
  source_text = y;
  text = t;
  externs_read = p;
  source_read = q;
  made = made;
  written = written;
}
done_job e s output a b _ (externs_unread rose) d = absurd (cc)
done_job e s output a b _ (source_unread rose) d = absurd (cc)
done_job e s output a b _ (refused p q (no_externs h)) d = absurd (cc)
done_job e s output a b _ (refused p q (no_source ex h)) d = absurd (cc)
done_job e s output a b _ (refused p q no_memory) d = absurd (cc)
done_job e s output a b _ (unwritten p q made rose) d = absurd (cc)
done_job e s output a b _ out_of_memory d = absurd (cc)

headline_from : (words : List (List ℕ)) (a b : View) (o : Outcome) → Cause words a b o → o ≡ Done
    → IfShown a.shown b.shown (λ old new. (externs source output : List ℕ) → IsJob words externs source output → ChangesOnly a b output Done old new) → Headline words a b
headline_from words a b _ (bad_words h) d files = absurd (cc)
headline_from words a b o (of_job {externs = e} {source = s} {output = out} job cause) d files =
    let done = done_job e s out a b o cause d in
    record {
      externs_file = e;
      source_file = s;
      output_file = out;
      externs = done.externs_text;
      source = done.source_text;
      text = done.text;
      job = job;
      externs_read = done.externs_read;
      source_read = done.source_read;
      compiled = done.made;
      written = done.written;
      others = IfShown-map a.shown b.shown (λ old new. (externs source output : List ℕ) → IsJob words externs source output → ChangesOnly a b output Done old new) (KeepsOtherFiles out) (λ x y h. h e s out job) files;
      faithful = compiled_faithful done.externs_text done.source_text done.text done.made;
    }
headline_from words a b _ no_memory_for_message d files = absurd (cc)

-- the promise, for every words and host
pub headline : (words : List (List ℕ)) (before after : View) → Compiles words before after Done → Headline words before after
headline words a b c = headline_from words a b Done c.cause refl c.files

-- the same, for every answer
pub headline_where : (words : List (List ℕ)) (before after : View) (o : Outcome) → Compiles words before after o → o ≡ Done → Headline words before after
headline_where words a b o c d = headline words a b (subst (Compiles words a b) d c)

-- and the job is one that is accepted, where the host shows its files
held : (before : View) (file text : List ℕ) (contents : Contents) → before.shown ≡ Some contents → WasRead before file text → file_of contents file ≡ Some text
held before file text contents e r = r.held contents e

pub accepted : (words : List (List ℕ)) (before after : View) (contents : Contents) → before.shown ≡ Some contents → Headline words before after → Accepted words before
accepted words before after contents e h = record {
  contents = contents;
  externs_file = h.externs_file;
  source_file = h.source_file;
  output_file = h.output_file;
  externs = h.externs;
  source = h.source;
  names = h.compiled.names;
  statements = h.compiled.statements;
  shown = e;
  job = h.job;
  externs_held = held before h.externs_file h.externs contents e h.externs_read;
  source_held = held before h.source_file h.source contents e h.source_read;
  of_externs = h.compiled.of_externs;
  of_source = h.compiled.of_source;
}

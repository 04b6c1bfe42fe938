-- A file by its tokens is the file of its text.
use Rattle.std.proofs.Common.{◌≡◌, ℕ, List, Result, Ok, Err, IfOk, IfErr}
use Rattle.cc_ast.specs.declared.reading.Refusal.{Refusal}
use Rattle.cc_ast.specs.declared.reading.Refusal.TheVariants as refusal
use Rattle.cc_lexer.specs.declared.token.Tokens as code
use Rattle.cc_lexer.specs.Lexes.{Lexed}
use Rattle.cc_stmt.specs.ReadList.{tokens, IsRefused}
use Rattle.cc_stmt.specs.declared.tree.Tree.{Tree}
use Rattle.cc_stmt.specs.Files.{IsFile, IsSource, IsSourceRefused}

pub source_read : (P : Type 0) (text : List ℕ) (n : ℕ) (t : code.Tokens) (r : Result Tree Refusal) → P → Lexed text n t.list.items t.stop
    → IfOk r (λ tree. IsFile t n tree) → IfOk r (λ tree. P × IsSource text n tree)
source_read P text n t (Ok tree) p lexed is = (p, record { list = t; lexed = lexed; is = is })
source_read P text n t (Err e) p lexed is = tt

pub source_refused : (text : List ℕ) (n : ℕ) (t : code.Tokens) (r : Result Tree Refusal) → Lexed text n t.list.items t.stop
    → IfErr r (λ e. IsRefused (tokens t) e) → IfErr r (λ e. ¬ (e ≡ refusal.Memory) → IsSourceRefused text n e)
source_refused text n t (Ok tree) lexed is = tt
source_refused text n t (Err e) lexed is = λ _. record { list = t; lexed = lexed; is = is }

-- Whichever scopes of a program have their known calls inlined, the program does the same.
use Rattle.std.proofs.Common.{ℕ, Option, refl, sym, subst}
use Rattle.cc_ast.specs.Syntax.{Expr}
use Rattle.cc_meaning.specs.Shapes.{tables_of}
use Rattle.cc_meaning.specs.Same.{Same}
use Rattle.cc_tied.specs.Tied.{built_of}
use Rattle.cc_tied.specs.FoldExample.{is_built_in}
use Rattle.cc_tied.specs.InlineExample.{inline_call, InliningKeeps}
use Rattle.cc_tied.proofs.Mixed.KeptPaths.{Stays}
use Rattle.cc_tied.proofs.Worked.FoldKeeps.{none_of}
use Rattle.cc_tied.proofs.Worked.InlineExample.{function_of, known_alone, inline_rules}
use Rattle.cc_tied.proofs.Mixed.MixedBound.{same_by_bound_scopes}

inline_stays : (known : ℕ → Option Expr) → Stays (λ e. e) (inline_call known)
unfolding inline_call
inline_stays known = record { var = λ i r. refl; fun = λ i f. refl; object = λ i fs. refl; member = λ i e p. refl; assign = λ i op u e. refl; call = λ i j e p es. refl }

pub inlining_keeps : InliningKeeps
inlining_keeps known P Q W none able m =
    subst (λ z. Same P z) (sym m.others)
    (same_by_bound_scopes (is_built_in P) (λ e. e) (inline_call known) (inline_stays known) P W none (λ r h. none_of (built_of (tables_of P) r) h) (function_of known P able) (known_alone known P able) Q.scopes m.scopes
    (λ d d' w le le' all tied. inline_rules known P able _ none (is_built_in P) (λ r h. none_of (built_of (tables_of P) r) h) d d' w le le' all tied))

-- A statement by what begins it, some beginnings at a time.
use Rattle.std.proofs.Common.{◌≡◌, refl, ap}
use Rattle.cc_grammar.specs.Grammar.{Context}
use Rattle.cc_grammar.specs.Reading.{Start, start_of, look_token}
use Rattle.cc_grammar.specs.Reading as r
use Rattle.cc_cursor.specs.declared.limits.Limits.{Limits}
use Rattle.cc_cursor.specs.declared.starts.Start as code
use Rattle.cc_cursor.specs.declared.starts.Start.TheVariants as start
use Rattle.cc_cursor.specs.Reads.{Tokens}
use Rattle.cc_cursor.specs.ShownStarts.{shown}
use Rattle.cc_statements.specs.ReadsStatements as spec
use Rattle.cc_statements.specs.StatementSteps.{moved, compound}

pub stmt_at : (m : Limits) (c : Context) (ts : Tokens) (s : Start) → s ≡ start_of (look_token ts).kind → spec.started m c s ts ≡ spec.stmt_of m c ts
unfolding r.stmt_of
stmt_at m c ts s e = ap (λ x. spec.started m c x ts) e

abbrev IsNot : code.Start → code.Start → Type 0
IsNot s x = x ≡ s → ⊥

pub moved_else : (m : Limits) (c : Context) (x : code.Start) (ts : Tokens) → IsNot start.Do x → IsNot start.While x → IsNot start.For x → IsNot start.Continue x → IsNot start.Break x → IsNot start.Return x
    → spec.throw m ts ≡ moved m c x ts
moved_else m c start.Do ts d w f n b e = absurd (d refl)
moved_else m c start.While ts d w f n b e = absurd (w refl)
moved_else m c start.For ts d w f n b e = absurd (f refl)
moved_else m c start.Continue ts d w f n b e = absurd (n refl)
moved_else m c start.Break ts d w f n b e = absurd (b refl)
moved_else m c start.Return ts d w f n b e = absurd (e refl)
moved_else m c x ts d w f n b e = refl

pub compound_else : (m : Limits) (c : Context) (x : code.Start) (ts : Tokens) → IsNot start.Block x → IsNot start.If x → IsNot start.Switch x → IsNot start.Try x
    → moved m c x ts ≡ compound m c x ts
compound_else m c start.Block ts b i s t = absurd (b refl)
compound_else m c start.If ts b i s t = absurd (i refl)
compound_else m c start.Switch ts b i s t = absurd (s refl)
compound_else m c start.Try ts b i s t = absurd (t refl)
compound_else m c x ts b i s t = refl

pub stmt_else : (m : Limits) (c : Context) (x : code.Start) (ts : Tokens) → IsNot start.Vars x → IsNot start.Empty x → IsNot start.Function x → ((n : _) → x ≡ start.Name n → ⊥) → IsNot start.Plain x
    → compound m c x ts ≡ spec.started m c (shown x) ts
stmt_else m c start.Vars ts v e f n p = absurd (v refl)
stmt_else m c start.Empty ts v e f n p = absurd (e refl)
stmt_else m c start.Function ts v e f n p = absurd (f refl)
stmt_else m c (start.Name u) ts v e f n p = absurd (n u refl)
stmt_else m c start.Plain ts v e f n p = absurd (p refl)
stmt_else m c x ts v e f n p = refl

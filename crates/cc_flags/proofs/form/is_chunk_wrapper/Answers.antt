use Rattle.std.proofs.Common.{ℕ, List, ◌≡◌, ◌⊎◌, ◌↔◌, ◌++◌, [], codes, not, IsTrue, subst, sym, ap, ◌∙◌}
use Rattle.std.specs.Borrow.{Bor}
use Rattle.std.specs.List.{Contains}
use Rattle.std.specs.Option.{option_copied}
use Rattle.cc_flags.specs.Values.{is_chunk_name}
use Rattle.cc_flags.specs.Forming.{names_in}
use Rattle.cc_flags.proofs.FormLaws.{wrapper-among}
use Rattle.cc_flags.proofs.form.is_chunk_wrapper.Goals as goal

pub returns : goal.returns
returns c =
    let names = names_in c.args.names.now in
    let body = c.in-Some.wrapper.now in
    let among =
    subst (λ (n : List ℕ). IsTrue c.is_among.result ↔ ((names ≡ []) ⊎ Contains names n)) c.split_at_first.ensures.before c.is_among.ensures in
    wrapper-among {A = Bor (List ℕ) × Bor (List ℕ)} names c.args.text.now body (λ sides. body ≡ sides.0.now ++ (codes "%s" ++ sides.1.now)) c.around.result c.is_among.result
    (sym c.split_at_first.ensures.behind ∙ ap option_copied c.in-Some.is) (c.is_none.ensures ∙ ap not c.if-is_none.false) c.around.ensures
    (ap is_chunk_name (sym c.split_at_first.ensures.before) ∙ sym c.is_chunk_name.ensures ∙ c.if-not-is_chunk_name.false) among

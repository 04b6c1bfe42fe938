-- What the laws of the reading function say of a list of tokens that is read whole.
use Rattle.std.proofs.Common.{◌≡◌, refl, sym, ap, subst, ◌∙◌, ℕ, ◌+◌, ◌<◌, false, List, length, map, Ok, Err, arith}
use Rattle.cc_ast.specs.declared.place.Place.{Place}
use Rattle.cc_lexer.specs.declared.token.Tokens as code
use Rattle.cc_grammar.specs.Symbols.{Lexeme}
use Rattle.cc_grammar.specs.Laws.{IsText, IsWhole, IsSound, IsSmall, IsFirstFault, HasNoFault, HasText, Fails}
use Rattle.cc_grammar.specs.Reading.{Cause, read_tokens, spent}
use Rattle.cc_raw.specs.declared.tree.RawStmt.{RawStmt}
use Rattle.cc_raw.specs.Bridge.{raw_stmt}
use Rattle.cc_cursor.specs.declared.error.Fault.{Fault}
use Rattle.cc_cursor.specs.declared.limits.Limits.{Limits}
use Rattle.cc_cursor.specs.Shown.{cause, fault}
use Rattle.cc_statements.specs.ReadsStatements.{program}
use Rattle.cc_stmt.specs.ReadList.{highest, tokens, IsLexed, IsRead, FailsBy}
use Rattle.cc_stmt.proofs.ListLemmas.{lexemes_short}

-- the reader of a whole list is the reading function over it
program_is : (m : Limits) (ts : List Lexeme) → program m ts ≡ read_tokens m.turns m.depth ts
unfolding read_tokens
program_is m ts = refl

pub is_text : HasText → (t : code.Tokens) → IsLexed t → IsText (tokens t)
is_text law t x = law x.text x.file t.list.items t.stop x.lexed

-- two turns more than the tokens are more than those that are no comments
pub enough : (t : code.Tokens) (n : ℕ) → n ≡ length t.list.items + 2 → length (tokens t) < n
enough t n e = omega (arith, lexemes_short false t.list.items t.stop)

-- the statements that are read
pub read_well : HasText → IsWhole → IsSound → IsSmall → (m : Limits) (t : code.Tokens) (ts us : List Lexeme) (b : List RawStmt) (h : ℕ) → IsLexed t → ts ≡ tokens t
    → m.depth ≡ highest → program m ts ≡ Ok ((map raw_stmt b, h), us) → IsRead (tokens t) b
read_well texts whole sound small m t ts us b h lexed same deep e =
    let q : read_tokens m.turns m.depth (tokens t) ≡ Ok ((map raw_stmt b, h), us) = ap (read_tokens m.turns m.depth) (sym same) ∙ sym (program_is m ts) ∙ e in
    let k = whole m.turns m.depth (tokens t) us (map raw_stmt b, h) (is_text texts t lexed) q in
    let s = sound m.turns m.depth h (tokens t) (map raw_stmt b) (subst (λ v. read_tokens m.turns m.depth (tokens t) ≡ Ok ((map raw_stmt b, h), v)) k q) in
    record {
      derives = record { height = h; low = omega (arith, s.1, deep); derives = s.0 };
      small = small h (tokens t) (map raw_stmt b) s.0;
    }

-- the fault where reading stops
pub fails_by : HasText → IsFirstFault → HasNoFault → (m : Limits) (t : code.Tokens) (ts us : List Lexeme) (f : Fault) (k : Cause) → IsLexed t → ts ≡ tokens t
    → m.depth ≡ highest → m.turns ≡ length t.list.items + 2 → program m ts ≡ Err (fault f, us) → cause f.cause ≡ k → FailsBy (tokens t) k f.place
fails_by texts first none m t ts us f k lexed same deep turns e is =
    let text = is_text texts t lexed in
    let q = first m.turns m.depth (tokens t) us (fault f) text (enough t m.turns turns) (ap (read_tokens m.turns m.depth) (sym same) ∙ sym (program_is m ts) ∙ e) in
    let p : Fails highest (tokens t) (fault f) = subst (λ d. Fails d (tokens t) (fault f)) deep q in
    subst (λ x. FailsBy (tokens t) x f.place) is (record {
      underived = λ b x. none highest x.height p.number (tokens t) b (cause f.cause) text x.derives x.low p.first.is;
      first = p;
    })

-- it never stops for the turns
pub unspent : {ts : List Lexeme} {p : Place} → FailsBy ts spent p → ⊥
unspent x = x.first.first.is

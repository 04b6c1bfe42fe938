-- One turn of the suffixes.
use Rattle.std.proofs.Common.{◌≡◌, ◌∙◌, refl, sym, ap, ℕ, suc, Bool, true, false, Some, None, Ok, Err, if◌then◌else◌}
use Rattle.std.specs.Prelude.{nat_lt}
use Rattle.cc_grammar.specs.Reading.{Outcome, Sized, and_then, depth, suffix_of, look_token, rest_tokens, semicolon_token}
use Rattle.cc_grammar.specs.Reading as r
use Rattle.cc_grammar.specs.ReadingExpressions.{suffixes}
use Rattle.cc_grammar.specs.RawTree as S
use Rattle.cc_cursor.specs.declared.limits.Limits.{Limits}
use Rattle.cc_cursor.specs.declared.signs.Suffix.{Suffix}
use Rattle.cc_cursor.specs.declared.signs.Suffix.TheVariants as X
use Rattle.cc_cursor.specs.Meant as meant
use Rattle.cc_cursor.specs.Reads.{Tokens, within}
use Rattle.cc_expr.specs.Expressions as spec

abbrev limits : ℕ → ℕ → Limits
limits t d = record { turns = t; depth = d }

abbrev by_suffix : Limits → Bool → ℕ → Sized S.RawExpr → r.Suffix → Tokens → Outcome Tokens (Sized S.RawExpr)
by_suffix m calls turns = r.suffix_by Tokens look_token rest_tokens semicolon_token m.depth m.turns (within m) (spec.suffixes m calls turns)

abbrev turn : Limits → Bool → ℕ → Sized S.RawExpr → Suffix → Tokens → Outcome Tokens (Sized S.RawExpr)
turn m calls turns a s i = if nat_lt a.1 m.depth then and_then (spec.suffixed m s a i) (spec.suffixes m calls turns)
    else Err (record { cause = depth; place = (look_token i).place }, i)

by_one : (m : Limits) (calls : Bool) (turns : ℕ) (a : Sized S.RawExpr) (s : Suffix) (i : Tokens)
    → by_suffix m calls turns a (meant.suffix (Some s)) i ≡ turn m calls turns a s i
by_one m calls turns a X.Dot i = refl
by_one m calls turns a X.Bracket i = refl
by_one m calls turns a X.Call i = refl

pub suffixes_end : (t d : ℕ) (calls : Bool) (turns : ℕ) (a : Sized S.RawExpr) (i : Tokens) → meant.suffix None ≡ suffix_of calls (look_token i).kind
    → spec.suffixes (limits t d) calls (suc turns) a i ≡ Ok (a, i)
unfolding suffixes
suffixes_end t d calls turns a i e = ap (λ s. by_suffix (limits t d) calls turns a s i) (sym e)

one_turn : (t d : ℕ) (calls : Bool) (turns : ℕ) (a : Sized S.RawExpr) (s : Suffix) (i : Tokens) → meant.suffix (Some s) ≡ suffix_of calls (look_token i).kind
    → spec.suffixes (limits t d) calls (suc turns) a i ≡ turn (limits t d) calls turns a s i
unfolding suffixes
one_turn t d calls turns a s i e = ap (λ s. by_suffix (limits t d) calls turns a s i) (sym e) ∙ by_one (limits t d) calls turns a s i

abbrev within_depth : Bool → Outcome Tokens (Sized S.RawExpr) → Tokens → Outcome Tokens (Sized S.RawExpr)
within_depth b o i = if b then o else Err (record { cause = depth; place = (look_token i).place }, i)

deep_by : (b : Bool) (o : Outcome Tokens (Sized S.RawExpr)) (k : Sized S.RawExpr → Tokens → Outcome Tokens (Sized S.RawExpr)) (i : Tokens)
    → within_depth b (and_then o k) i ≡ and_then (within_depth b o i) k
deep_by true o k i = refl
deep_by false o k i = refl

pub suffixes_turn : (t d : ℕ) (calls : Bool) (turns : ℕ) (a : Sized S.RawExpr) (s : Suffix) (i : Tokens) → meant.suffix (Some s) ≡ suffix_of calls (look_token i).kind
    → spec.suffixes (limits t d) calls (suc turns) a i ≡ and_then (spec.deep_suffixed (limits t d) s a i) (spec.suffixes (limits t d) calls turns)
suffixes_turn t d calls turns a s i e = one_turn t d calls turns a s i e
    ∙ deep_by (nat_lt a.1 d) (spec.suffixed (limits t d) s a i) (spec.suffixes (limits t d) calls turns) i

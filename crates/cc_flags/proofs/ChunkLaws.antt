-- Chunks that words ask for.
use Rattle.std.proofs.Common.{◌≡◌, ℕ, ◌+◌, ◌-◌, ◌^◌, ◌<◌, Bool, true, false, cond, not, ◌&&◌, ◌==◌, List, [], ◌∷◌, ◌++◌, length, Option, Some, None, option_map, option_and_then, String, string_bytes, refl, ap, sym, ◌∙◌, append_assoc, arith}
use Rattle.std.specs.Borrow.{Bor}
use Rattle.std.specs.List.{list_all}
use Rattle.std.specs.Option.{option_copied, option_map_or}
use Rattle.std.proofs.lemmas.List.{append-nil, map-append}
use Rattle.cc_flags.specs.Texts.{texts, before, behind, pieces}
use Rattle.cc_flags.specs.Numbers.{decimal, within}
use Rattle.cc_flags.specs.Values.{is_chunk_name, is_name_part, chunk, deps_of, chunk_with, chunk_of}
use Rattle.cc_flags.proofs.TextLaws.{pieces-one, pieces-more, behind-shorter}

pub name-is : (name : List ℕ) → is_chunk_name name ≡ (not (length name == 0) && list_all is_name_part name)
unfolding is_chunk_name
name-is name = refl

-- ---- what a chunk depends on

all_or_none : List (List ℕ) → Option (List (List ℕ))
all_or_none ps = cond (list_all is_chunk_name ps) (Some ps) None

deps-text : (text : List ℕ) → deps_of (Some text) ≡ all_or_none (pieces 44 text)
unfolding deps_of all_or_none
deps-text text = refl

deps-nothing : deps_of None ≡ Some []
unfolding deps_of
deps-nothing = refl

head_wrong : (p : List ℕ) (ps : List (List ℕ)) → is_chunk_name p ≡ false → all_or_none (p ∷ ps) ≡ None
unfolding all_or_none
head_wrong p ps wrong = rw wrong refl

through : (p : List ℕ) (ps : List (List ℕ)) (b : Bool) → cond b (Some (p ∷ ps)) None ≡ option_map (λ more. p ∷ more) (cond b (Some ps) None)
through p ps true = refl
through p ps false = refl

head_right : (p : List ℕ) (ps : List (List ℕ)) → is_chunk_name p ≡ true → all_or_none (p ∷ ps) ≡ option_map (λ more. p ∷ more) (all_or_none ps)
unfolding all_or_none
head_right p ps right = rw right (through p ps (list_all is_chunk_name ps))

none_left : all_or_none [] ≡ Some []
unfolding all_or_none
none_left = refl

pub deps-wrong : (text : List ℕ) → is_chunk_name (before 44 text) ≡ false → deps_of (Some text) ≡ None
deps-wrong text wrong = by_rest (behind 44 text) refl where
  by_rest : (rest : Option (List ℕ)) → behind 44 text ≡ rest → deps_of (Some text) ≡ None
  by_rest None e = deps-text text ∙ ap all_or_none (pieces-one 44 text e) ∙ head_wrong (before 44 text) [] wrong
  by_rest (Some ys) e = deps-text text ∙ ap all_or_none (pieces-more 44 text ys e) ∙ head_wrong (before 44 text) (pieces 44 ys) wrong

pub deps-more : (text : List ℕ) → is_chunk_name (before 44 text) ≡ true → deps_of (Some text) ≡ option_map (λ more. before 44 text ∷ more) (deps_of (behind 44 text))
deps-more text right = by_rest (behind 44 text) refl where
  by_rest : (rest : Option (List ℕ)) → behind 44 text ≡ rest → deps_of (Some text) ≡ option_map (λ more. before 44 text ∷ more) (deps_of (behind 44 text))
  by_rest None e =
      deps-text text ∙ ap all_or_none (pieces-one 44 text e) ∙ head_right (before 44 text) [] right
      ∙ ap (option_map (λ more. before 44 text ∷ more)) (none_left ∙ sym deps-nothing)
      ∙ ap (λ r. option_map (λ more. before 44 text ∷ more) (deps_of r)) (sym e)
  by_rest (Some ys) e =
      deps-text text ∙ ap all_or_none (pieces-more 44 text ys e) ∙ head_right (before 44 text) (pieces 44 ys) right
      ∙ ap (option_map (λ more. before 44 text ∷ more)) (sym (deps-text ys))
      ∙ ap (λ r. option_map (λ more. before 44 text ∷ more) (deps_of r)) (sym e)

-- ---- the names so far

none_before : (o : Option (List (List ℕ))) → o ≡ option_map (λ more. [] ++ more) o
none_before None = refl
none_before (Some ps) = refl

one_before : (done : List (List ℕ)) (name : List ℕ) (o : Option (List (List ℕ))) → option_map (λ more. done ++ more) (option_map (λ more. name ∷ more) o) ≡ option_map (λ more. (done ++ name ∷ []) ++ more) o
one_before done name None = refl
one_before done name (Some ps) = ap Some (sym (append_assoc done (name ∷ []) ps))

-- the names of the text so far, and those that are left
pub record NamesSoFar (text rest : Option (List ℕ)) (done : List (List ℕ)) : Type 0 where
  pub left : deps_of text ≡ option_map (λ more. done ++ more) (deps_of rest)

pub names-none : (text : Option (List ℕ)) → NamesSoFar text text []
names-none text = record { left = none_before (deps_of text) }

pub names-more : {A : Type 0} (text : Option (List ℕ)) (rest : List ℕ) (left : Option (List ℕ)) (done : List (String A)) (name : String A) → NamesSoFar text (Some rest) (texts done)
    → string_bytes name ≡ before 44 rest → left ≡ behind 44 rest → is_chunk_name (before 44 rest) ≡ true → NamesSoFar text left (texts (done ++ name ∷ []))
names-more text rest left done name so_far named cut right = record {
  left =
      so_far.left
      ∙ ap (option_map (λ more. texts done ++ more)) (deps-more rest right)
      ∙ one_before (texts done) (before 44 rest) (deps_of (behind 44 rest))
      ∙ ap (λ n. option_map (λ more. (texts done ++ n ∷ []) ++ more) (deps_of (behind 44 rest))) (sym named)
      ∙ ap (λ ns. option_map (λ more. ns ++ more) (deps_of (behind 44 rest))) (sym (map-append (λ w. string_bytes w) done (name ∷ [])))
      ∙ ap (λ r. option_map (λ more. texts (done ++ name ∷ []) ++ more) (deps_of r)) (sym cut);
}

pub names-end : (text : Option (List ℕ)) (done : List (List ℕ)) → NamesSoFar text None done → Some done ≡ deps_of text
names-end text done so_far = sym (so_far.left ∙ ap (option_map (λ more. done ++ more)) deps-nothing ∙ ap Some (append-nil done))

pub names-wrong : (text : Option (List ℕ)) (rest : List ℕ) (done : List (List ℕ)) → NamesSoFar text (Some rest) done → is_chunk_name (before 44 rest) ≡ false → None ≡ deps_of text
names-wrong text rest done so_far wrong = sym (so_far.left ∙ ap (option_map (λ more. done ++ more)) (deps-wrong rest wrong))

-- what is left of the text gets shorter
pub left-shorter : (rest left : Option (Bor (List ℕ))) (names : Bor (List ℕ)) → rest ≡ Some names → option_copied left ≡ behind 44 names.now
    → option_map_or (λ text. length text.now + 1) left 0 < option_map_or (λ text. length text.now + 1) rest 0
left-shorter rest None names is cut = rw is (omega arith)
left-shorter rest (Some more) names is cut = rw is (omega (arith, behind-shorter 44 names.now more.now (sym cut)))

-- ---- chunks

pub chunk-wrong : (v : List ℕ) → is_chunk_name (before 58 v) ≡ false → chunk_of v ≡ None
unfolding chunk_of
chunk-wrong v wrong = rw wrong refl

pub chunk-by : (v : List ℕ) (rest : Option (List ℕ)) → is_chunk_name (before 58 v) ≡ true → rest ≡ behind 58 v → chunk_of v ≡ option_and_then (chunk_with (before 58 v)) rest
unfolding chunk_of
chunk-by v rest right cut = rw (right, cut) refl

chunk-with : (name text : List ℕ) → chunk_with name text ≡ option_and_then (λ count. option_map (chunk name count) (deps_of (behind 58 text))) (within 0 (2 ^ 32 - 1) (decimal (before 58 text)))
unfolding chunk_with
chunk-with name text = refl

-- the parts of the text that the code has cut and read
pub chunk-read : (name text digits : List ℕ) (deps : Option (List ℕ)) (count : Option ℕ) (most : ℕ) → digits ≡ before 58 text → deps ≡ behind 58 text → most ≡ 2 ^ 32 - 1
    → count ≡ within 0 most (decimal digits) → chunk_with name text ≡ option_and_then (λ n. option_map (chunk name n) (deps_of deps)) count
chunk-read name text digits deps count most front back small read =
    chunk-with name text
    ∙ ap (λ d. option_and_then (λ n. option_map (chunk name n) (deps_of (behind 58 text))) (within 0 (2 ^ 32 - 1) (decimal d))) (sym front)
    ∙ ap (λ d. option_and_then (λ n. option_map (chunk name n) (deps_of d)) (within 0 (2 ^ 32 - 1) (decimal digits))) (sym back)
    ∙ ap (λ m. option_and_then (λ n. option_map (chunk name n) (deps_of deps)) (within 0 m (decimal digits))) (sym small)
    ∙ ap (option_and_then (λ n. option_map (chunk name n) (deps_of deps))) (sym read)

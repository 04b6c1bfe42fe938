-- How a type goes on that has been read in part. Behind it the text must complete what is open round it, and end.
use Rattle.std.specs.Prelude.{◌≡◌, ◌↔◌, ℕ, ◌+◌, ◌*◌, List, [], ◌∷◌, ◌++◌, Bool, true, false, ◌||◌, ◌==◌, Option, Some, None, reverse, take, drop, length}
use Rattle.std.specs.Str.{chars, IsUtf8}
use Rattle.cc_jsdoc.specs.declared.reading.Open.{Open}
use Rattle.cc_jsdoc.specs.declared.reading.Open.TheVariants as o
use Rattle.cc_jsdoc.specs.declared.reading.Reading.{Reading}
use Rattle.cc_jsdoc.specs.declared.reading.Step.{Step}
use Rattle.cc_jsdoc.specs.declared.reading.Step.TheVariants as s
use Rattle.cc_jsdoc.specs.declared.types.Alternative.{Alternative}
use Rattle.cc_jsdoc.specs.declared.types.Alternative.TheVariants as one
use Rattle.cc_jsdoc.specs.declared.types.Simple.TheVariants as simple
use Rattle.cc_jsdoc.specs.Symbols.{Symbol, word, mark, Word, Mark, IsEnd}
use Rattle.cc_jsdoc.specs.Types.{IsName, IsType, array_of}

-- Behind a type, the text completes what is open, from the innermost on, and ends. The alternatives so far become those of
-- the whole type. What is open knows how many alternatives stand before it.
pub data Completes : List Open → List Alternative → List ℕ → List Alternative → Type 0 where
  ended : {ts : List Alternative} {text : List ℕ} → IsEnd text → Completes [] ts text ts
  optional : {os : List Open} {us ts : List Alternative} {text a : List ℕ} → Mark 61 text a → Completes os us a ts → Completes os us text ts
  union_ends : {os : List Open} {us ts : List Alternative} {text a : List ℕ} → Mark 41 text a → Completes os us a ts → Completes (o.Union ∷ os) us text ts
  union_goes_on : {os : List Open} {us vs ts : List Alternative} {text a b : List ℕ} → Mark 124 text a → IsType a vs b
      → Completes (o.Union ∷ os) (us ++ vs) b ts → Completes (o.Union ∷ os) us text ts
  element_ends : {os : List Open} {us ts : List Alternative} {n : ℕ} {text a : List ℕ} → Mark 62 text a
      → Completes os (take n us ++ array_of (drop n us) ∷ []) a ts → Completes (o.Element n ∷ os) us text ts
  variadic_ends : {os : List Open} {us ts : List Alternative} {n : ℕ} {text : List ℕ}
      → Completes os (take n us ++ one.Unknown ∷ []) text ts → Completes (o.Variadic n ∷ os) us text ts
  result_ends : {os : List Open} {us ts : List Alternative} {n : ℕ} {text : List ℕ}
      → Completes os (take n us ++ one.Simple simple.Function ∷ []) text ts → Completes (o.Result n ∷ os) us text ts

-- a type is due, and behind it the text completes what is open
pub data Awaits : List Open → List Alternative → List ℕ → List Alternative → Type 0 where
  awaits : {os : List Open} {us vs ts : List Alternative} {text rest : List ℕ} → IsType text vs rest → Completes os (us ++ vs) rest ts → Awaits os us text ts

-- what a step leaves to be read gives the whole type
abbrev pub GoesOn : Step → List Open → List Alternative → List Alternative → Type 0
GoesOn (s.Due rest) os us ts = Awaits os us (chars rest.now) ts
GoesOn (s.Done rest) os us ts = Completes os us (chars rest.now) ts
GoesOn s.Whole os us ts = us ≡ ts
GoesOn s.Outside os us ts = ⊥

abbrev pub IsStepText : Step → Type 0
IsStepText (s.Due rest) = IsUtf8 rest.now
IsStepText (s.Done rest) = IsUtf8 rest.now
IsStepText s.Whole = Unit {0}
IsStepText s.Outside = Unit {0}

-- how much there is to do after a step, where so many constructs are open
abbrev pub work_left : Step → ℕ → ℕ
work_left (s.Due rest) n = 1 + (2 * length rest.now + n)
work_left (s.Done rest) n = 1 + (2 * length rest.now + n)
work_left s.Whole n = 0
work_left s.Outside n = 0

-- ---- what is read so far

abbrev pub AwaitsIn : Reading → List ℕ → List Alternative → Type 0
AwaitsIn r text ts = Awaits (reverse r.stack.items) r.alternatives.items text ts

abbrev pub CompletesIn : Reading → List ℕ → List Alternative → Type 0
CompletesIn r text ts = Completes (reverse r.stack.items) r.alternatives.items text ts

-- with this open too
abbrev pub CompletesWith : Open → Reading → List ℕ → List Alternative → Type 0
CompletesWith x r text ts = Completes (x ∷ reverse r.stack.items) r.alternatives.items text ts

-- the step keeps what the whole type can be
abbrev pub Keeps : (List Alternative → Type 0) → Reading → Step → Type 0
Keeps before r step = (ts : List Alternative) → before ts ↔ GoesOn step (reverse r.stack.items) r.alternatives.items ts

-- nothing may stand behind a type but what completes a construct
abbrev pub may_follow : Option (Symbol × List ℕ) → Bool
may_follow None = true
may_follow (Some (word w, rest)) = false
may_follow (Some (mark c, rest)) = c == 61 || c == 41 || c == 124 || c == 62

-- a name that no more words belong to
pub record IsWholeName (text : List ℕ) (ws : List (List ℕ)) (rest : List ℕ) : Type 0 where
  pub name : IsName text ws rest
  pub no_more : (w a b : List ℕ) → Mark 46 rest a → ¬ Word w a b

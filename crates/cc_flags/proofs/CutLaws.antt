-- Words cut into settings.
use Rattle.std.proofs.Common.{◌≡◌, ℕ, zero, suc, ◌+◌, ◌<◌, ◌≤◌, false, List, [], ◌∷◌, ◌++◌, length, get_or, drop, map, Option, Some, None, slice_get, codes, nat_eq, String, string_bytes, option_map, refl, ap, sym, subst, ◌∙◌, append_assoc, drop_of_length-le, arith}
use Rattle.std.specs.Option.{option_map_or}
use Rattle.std.specs.List.{starts_with, drop-map}
use Rattle.std.proofs.lemmas.List.{at_drop_more, length-map, append-nil}
use Rattle.std.proofs.Math.Seq.{drop-nil}
use Rattle.std.proofs.lemmas.Option.{slice_get-map, slice_get_past, slice_get_within, slice_get_read, get_or_from_slice_get}
use Rattle.cc_flags.specs.declared.cut.Front.{Front}
use Rattle.cc_flags.specs.declared.cut.Front.TheVariants as front
use Rattle.cc_flags.specs.declared.cut.Stop.{Stop}
use Rattle.cc_flags.specs.declared.flag.Call.{Call}
use Rattle.cc_flags.specs.declared.flag.Flag.{Flag}
use Rattle.cc_flags.specs.declared.usage.UsageKind.{UsageKind}
use Rattle.cc_flags.specs.declared.usage.UsageKind.TheVariants as kind
use Rattle.cc_flags.specs.Texts.{texts, before, behind}
use Rattle.cc_flags.specs.Flags.{known_flag}
use Rattle.cc_flags.specs.Words.{Setting, setting, setting_of, source, known, unknown, word_of, Cut, ended, file, joined, alone, apart, lacking, stopped}
use Rattle.cc_flags.specs.Cutting.{Begins, IsFront, IsFlagFront, switch, next, IsLastFlag, IsFrontOfFlag}

-- ---- what a word is

pub word-file : (call : Call) (w : List ℕ) → starts_with nat_eq w (codes "--") ≡ false → word_of call w ≡ source
unfolding word_of
word-file call w none = rw none refl

pub word-flag : (call : Call) (w text : List ℕ) → w ≡ codes "--" ++ text → word_of call w ≡ option_map_or (λ f. known f (behind 61 text)) (known_flag call (before 61 text)) unknown
unfolding word_of
word-flag call w text e = rw e refl

-- ---- the words from a place on

-- the texts from a place on are the one there and the others
pub texts-at : {A : Type 0} (words : List (String A)) (at : ℕ) (w : String A) (text : List ℕ) → at < length words → w ≡ get_or words at w → text ≡ string_bytes w
    → drop at (texts words) ≡ text ∷ drop (at + 1) (texts words)
texts-at words at w text h e read =
    drop-map (λ v. string_bytes v) at words
    ∙ ap (map (λ v. string_bytes v)) (at_drop_more (λ ws. ws) words at w h)
    ∙ ap (λ v. string_bytes v ∷ map (λ v. string_bytes v) (drop (at + 1) words)) (sym e)
    ∙ ap (λ ws. string_bytes w ∷ ws) (sym (drop-map (λ v. string_bytes v) (at + 1) words))
    ∙ ap (λ v. v ∷ drop (at + 1) (texts words)) (sym read)

pub texts-within : {A : Type 0} (words : List (String A)) (at : ℕ) → at < length words → at < length (texts words)
texts-within words at h = omega (arith, length-map words (λ v. string_bytes v))

drop-get : (ws : List (List ℕ)) (i : ℕ) (v : List ℕ) → slice_get ws i ≡ Some v → (drop i ws ≡ v ∷ drop (i + 1) ws) × (i < length ws)
drop-get ws i v e =
    let within = slice_get_within ws i v e in
    (at_drop_more (λ xs. xs) ws i v within ∙ ap (λ x. x ∷ drop (i + 1) ws) (get_or_from_slice_get ws i v v e), within)

drop-none : (ws : List (List ℕ)) (i : ℕ) → slice_get ws i ≡ None → drop i ws ≡ []
drop-none [] i e = drop-nil i
drop-none (w ∷ ws) zero e = cc
drop-none (w ∷ ws) (suc i) e = drop-none ws i e

-- a word that `get` found, and none
pub texts-get : {A : Type 0} (words : List (String A)) (i : ℕ) (w : String A) → i < length words → w ≡ get_or words i w → slice_get (texts words) i ≡ Some (string_bytes w)
texts-get words i w h e = slice_get-map (λ v. string_bytes v) words i ∙ ap (option_map (λ v. string_bytes v)) (slice_get_read words (length words) i w refl h e)

pub texts-past : {A : Type 0} (words : List (String A)) (i : ℕ) → length words ≤ i → slice_get (texts words) i ≡ None
texts-past words i h = slice_get_past (texts words) i (omega (arith, length-map words (λ v. string_bytes v)))

-- ---- fronts

module _ (call : Call) (words : List (List ℕ)) (at : ℕ) (w : List ℕ) (within : at < length words) (here : drop at words ≡ w ∷ drop (at + 1) words) where
  one : (s : Setting) → ((ss : List Setting) (stop : Option Stop) → Cut call (at + 1) (drop (at + 1) words) ss stop → Cut call at (w ∷ drop (at + 1) words) (s ∷ ss) stop) → Begins call at words s 1
  one s more = record {
    some = omega arith;
    within = omega arith;
    cut = λ ss stop rest. subst (λ ws. Cut call at ws (s ∷ ss) stop) (sym here) (more ss stop rest);
  }

  pub front-file : word_of call w ≡ source → Begins call at words (setting at None (Some w)) 1
  front-file e = one (setting at None (Some w)) (λ ss stop rest. file e rest)

  pub front-joined : (f : Flag) (v : List ℕ) → word_of call w ≡ known f (Some v) → Begins call at words (setting at (Some f) (Some v)) 1
  front-joined f v e = one (setting at (Some f) (Some v)) (λ ss stop rest. joined e rest)

  front-flag : (f : Flag) (s : Setting) (taken : ℕ) → word_of call w ≡ known f None → IsFlagFront at f words s taken → Begins call at words s taken
  front-flag f s taken e (switch none) = one (setting at (Some f) None) (λ ss stop rest. alone e none rest)
  front-flag f s taken e (next {v} needs there) =
      let two = drop-get words (at + 1) v there in record {
        some = omega arith;
        within = omega (arith, two.1);
        cut = λ ss stop rest. subst (λ ws. Cut call at ws (setting at (Some f) (Some v) ∷ ss) stop) (sym (here ∙ ap (λ ws. w ∷ ws) (two.0 ∙ ap (λ k. v ∷ drop k words) (let sum : at + 1 + 1 ≡ at + 2 = omega arith in sum)))) (apart e needs rest);
      }

  front-last : (f : Flag) (k : UsageKind) → word_of call w ≡ known f None → IsLastFlag at f words k → Cut call at (drop at words) [] (Some (record { at = at; kind = k }))
  front-last f k e last =
      subst (λ ws. Cut call at ws [] (Some (record { at = at; kind = k }))) (sym (here ∙ ap (λ ws. w ∷ ws) (drop-none words (at + 1) last.last)))
      (subst (λ j. Cut call at (w ∷ []) [] (Some (record { at = at; kind = j }))) (sym last.which) (lacking e last.needs))

  pub front-of_flag : (f : Flag) (front : Front) → word_of call w ≡ known f None → IsFrontOfFlag at f words front → IsFront call at words front
  front-of_flag f (front.Setting item taken) e is = front-flag f (setting_of item) taken e is
  front-of_flag f (front.Stop k) e is = front-last f k e is

  pub front-unknown : word_of call w ≡ unknown → Cut call at (drop at words) [] (Some (record { at = at; kind = kind.Unknown }))
  front-unknown e = subst (λ ws. Cut call at ws [] (Some (record { at = at; kind = kind.Unknown }))) (sym here) (stopped e)

-- ---- the words so far

-- The words before `at` are cut into these settings: what the others are cut into stands behind them.
pub record CutSoFar (call : Call) (words : List (List ℕ)) (at : ℕ) (done : List Setting) : Type 0 where
  pub within : at ≤ length words
  pub cut : (ss : List Setting) (stop : Option Stop) → Cut call at (drop at words) ss stop → Cut call 0 words (done ++ ss) stop

pub cut-none : (call : Call) (words : List (List ℕ)) → CutSoFar call words 0 []
cut-none call words = record { within = omega arith; cut = λ ss stop rest. rest }

pub cut-more : (call : Call) (words : List (List ℕ)) (at taken : ℕ) (done : List Setting) (s : Setting) → CutSoFar call words at done → Begins call at words s taken → CutSoFar call words (at + taken) (done ++ s ∷ [])
cut-more call words at taken done s so_far begins = record {
  within = begins.within;
  cut = λ ss stop rest. subst (λ ts. Cut call 0 words ts stop) (sym (append_assoc done (s ∷ []) ss)) (so_far.cut (s ∷ ss) stop (begins.cut ss stop rest));
}

pub cut-stops : (call : Call) (words : List (List ℕ)) (at : ℕ) (done : List Setting) (stop : Option Stop) → CutSoFar call words at done → Cut call at (drop at words) [] stop → Cut call 0 words done stop
cut-stops call words at done stop so_far rest = subst (λ ts. Cut call 0 words ts stop) (append-nil done) (so_far.cut [] stop rest)

pub cut-ends : (call : Call) (words : List (List ℕ)) (at : ℕ) (done : List Setting) → CutSoFar call words at done → length words ≤ at → Cut call 0 words done None
cut-ends call words at done so_far end =
    cut-stops call words at done None so_far (subst (λ ws. Cut call at ws [] None) (sym (drop_of_length-le words end)) ended)

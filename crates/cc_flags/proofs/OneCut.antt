-- Words are cut into settings in one way.
use Rattle.std.proofs.Common.{◌≡◌, ℕ, ◌+◌, true, false, List, [], ◌∷◌, Option, Some, None, refl, ap, sym, ◌∙◌, true≢false}
use Rattle.cc_flags.specs.declared.cut.Stop.{Stop}
use Rattle.cc_flags.specs.declared.flag.Call.{Call}
use Rattle.cc_flags.specs.declared.flag.Flag.{Flag}
use Rattle.cc_flags.specs.declared.usage.UsageKind.{UsageKind}
use Rattle.cc_flags.specs.declared.usage.UsageKind.TheVariants as kind
use Rattle.cc_flags.specs.Flags.{needs_value}
use Rattle.cc_flags.specs.Words.{Setting, setting, source, known, unknown, word_of, Cut, ended, file, joined, alone, apart, lacking, stopped}

-- ---- what a word is by itself

source-known : {f : Flag} {o : Option (List ℕ)} → source ≡ known f o → ⊥
source-known e = cc

source-unknown : source ≡ unknown → ⊥
source-unknown e = cc

known-unknown : {f : Flag} {o : Option (List ℕ)} → known f o ≡ unknown → ⊥
known-unknown e = cc

known-flag : {f g : Flag} {o p : Option (List ℕ)} → known f o ≡ known g p → f ≡ g
known-flag e = cc

known-value : {f g : Flag} {o p : Option (List ℕ)} → known f o ≡ known g p → o ≡ p
known-value e = cc

none_some : {A : Type 0} {x : A} → None ≡ Some x → ⊥
none_some e = cc

one-value : {A : Type 0} {x y : A} → Some x ≡ Some y → x ≡ y
one-value e = cc

needs-both : (f g : Flag) → f ≡ g → needs_value f ≡ true → needs_value g ≡ false → ⊥
needs-both f g same needs none = true≢false (sym needs ∙ ap needs_value same ∙ none)

-- ---- what stands behind a setting

-- the settings begin with this one, and the words from `next` on are cut into the others
record Rest (call : Call) (next : ℕ) (ws : List (List ℕ)) (s : Setting) (ss : List Setting) (stop : Option Stop) : Type 0 where
  tail : List Setting
  whole : ss ≡ s ∷ tail
  cut : Cut call next ws tail stop

-- nothing is cut, and the cutting stops
record Ends (at : ℕ) (k : UsageKind) (ss : List Setting) (stop : Option Stop) : Type 0 where
  none : ss ≡ []
  stops : stop ≡ Some (record { at = at; kind = k })

ends-none : (call : Call) (at : ℕ) (ss : List Setting) (stop : Option Stop) → Cut call at [] ss stop → (ss ≡ []) × (stop ≡ None)
ends-none call at [] None ended = (refl, refl)
ends-none call at [] (Some p) none = elim none [ ]
ends-none call at (s ∷ ss) stop none = elim none [ ]

module _ (call : Call) (at : ℕ) (w : List ℕ) where
  after-file : (ws : List (List ℕ)) (ss : List Setting) (stop : Option Stop) → word_of call w ≡ source → Cut call at (w ∷ ws) ss stop → Rest call (at + 1) ws (setting at None (Some w)) ss stop
  after-file ws (s ∷ ss) stop here (file e rest) = record { tail = ss; whole = refl; cut = rest }
  after-file ws (s ∷ ss) stop here (joined e rest) = absurd (source-known (sym here ∙ e))
  after-file ws (s ∷ ss) stop here (alone e none rest) = absurd (source-known (sym here ∙ e))
  after-file (v ∷ ws) (s ∷ ss) stop here (apart e needs rest) = absurd (source-known (sym here ∙ e))
  after-file [] [] (Some p) here (lacking e needs) = absurd (source-known (sym here ∙ e))
  after-file ws [] (Some p) here (stopped e) = absurd (source-unknown (sym here ∙ e))
  after-file ws [] None here none = elim none [ ]

  after-joined : (f : Flag) (v : List ℕ) (ws : List (List ℕ)) (ss : List Setting) (stop : Option Stop) → word_of call w ≡ known f (Some v) → Cut call at (w ∷ ws) ss stop → Rest call (at + 1) ws (setting at (Some f) (Some v)) ss stop
  after-joined f v ws (s ∷ ss) stop here (file e rest) = absurd (source-known (sym e ∙ here))
  after-joined f v ws (s ∷ ss) stop here (joined e rest) =
      record { tail = ss; whole = (λ t. setting at (Some (known-flag (sym e ∙ here) t)) (Some (one-value (known-value (sym e ∙ here)) t)) ∷ ss); cut = rest }
  after-joined f v ws (s ∷ ss) stop here (alone e none rest) = absurd (none_some (known-value (sym e ∙ here)))
  after-joined f v (x ∷ ws) (s ∷ ss) stop here (apart e needs rest) = absurd (none_some (known-value (sym e ∙ here)))
  after-joined f v [] [] (Some p) here (lacking e needs) = absurd (none_some (known-value (sym e ∙ here)))
  after-joined f v ws [] (Some p) here (stopped e) = absurd (known-unknown (sym here ∙ e))
  after-joined f v ws [] None here none = elim none [ ]

  after-alone : (f : Flag) (ws : List (List ℕ)) (ss : List Setting) (stop : Option Stop) → word_of call w ≡ known f None → needs_value f ≡ false → Cut call at (w ∷ ws) ss stop → Rest call (at + 1) ws (setting at (Some f) None) ss stop
  after-alone f ws (s ∷ ss) stop here free (file e rest) = absurd (source-known (sym e ∙ here))
  after-alone f ws (s ∷ ss) stop here free (joined e rest) = absurd (none_some (known-value (sym here ∙ e)))
  after-alone f ws (s ∷ ss) stop here free (alone e none rest) = record { tail = ss; whole = (λ t. setting at (Some (known-flag (sym e ∙ here) t)) None ∷ ss); cut = rest }
  after-alone f (x ∷ ws) (s ∷ ss) stop here free (apart e needs rest) = absurd (needs-both _ f (known-flag (sym e ∙ here)) needs free)
  after-alone f [] [] (Some p) here free (lacking e needs) = absurd (needs-both _ f (known-flag (sym e ∙ here)) needs free)
  after-alone f ws [] (Some p) here free (stopped e) = absurd (known-unknown (sym here ∙ e))
  after-alone f ws [] None here free none = elim none [ ]

  after-apart : (f : Flag) (v : List ℕ) (ws : List (List ℕ)) (ss : List Setting) (stop : Option Stop) → word_of call w ≡ known f None → needs_value f ≡ true → Cut call at (w ∷ v ∷ ws) ss stop → Rest call (at + 2) ws (setting at (Some f) (Some v)) ss stop
  after-apart f v ws (s ∷ ss) stop here needs (file e rest) = absurd (source-known (sym e ∙ here))
  after-apart f v ws (s ∷ ss) stop here needs (joined e rest) = absurd (none_some (known-value (sym here ∙ e)))
  after-apart f v ws (s ∷ ss) stop here needs (alone e free rest) = absurd (needs-both f _ (known-flag (sym here ∙ e)) needs free)
  after-apart f v ws (s ∷ ss) stop here needs (apart e also rest) = record { tail = ss; whole = (λ t. setting at (Some (known-flag (sym e ∙ here) t)) (Some v) ∷ ss); cut = rest }
  after-apart f v ws [] (Some p) here needs (stopped e) = absurd (known-unknown (sym here ∙ e))
  after-apart f v ws [] None here needs none = elim none [ ]

  ends-last : (f : Flag) (ss : List Setting) (stop : Option Stop) → word_of call w ≡ known f None → needs_value f ≡ true → Cut call at (w ∷ []) ss stop → Ends at kind.NoValue ss stop
  ends-last f (s ∷ ss) stop here needs (file e rest) = absurd (source-known (sym e ∙ here))
  ends-last f (s ∷ ss) stop here needs (joined e rest) = absurd (none_some (known-value (sym here ∙ e)))
  ends-last f (s ∷ ss) stop here needs (alone e free rest) = absurd (needs-both f _ (known-flag (sym here ∙ e)) needs free)
  ends-last f [] (Some p) here needs (lacking e also) = record { none = refl; stops = refl }
  ends-last f [] (Some p) here needs (stopped e) = absurd (known-unknown (sym here ∙ e))
  ends-last f [] None here needs none = elim none [ ]

  ends-unknown : (ws : List (List ℕ)) (ss : List Setting) (stop : Option Stop) → word_of call w ≡ unknown → Cut call at (w ∷ ws) ss stop → Ends at kind.Unknown ss stop
  ends-unknown ws (s ∷ ss) stop here (file e rest) = absurd (source-unknown (sym e ∙ here))
  ends-unknown ws (s ∷ ss) stop here (joined e rest) = absurd (known-unknown (sym e ∙ here))
  ends-unknown ws (s ∷ ss) stop here (alone e none rest) = absurd (known-unknown (sym e ∙ here))
  ends-unknown (x ∷ ws) (s ∷ ss) stop here (apart e needs rest) = absurd (known-unknown (sym e ∙ here))
  ends-unknown [] [] (Some p) here (lacking e needs) = absurd (known-unknown (sym e ∙ here))
  ends-unknown ws [] (Some p) here (stopped e) = record { none = refl; stops = refl }
  ends-unknown ws [] None here none = elim none [ ]

-- ---- all words

abbrev Same : List Setting → Option Stop → List Setting → Option Stop → Type 0
Same ss stop more end = (ss ≡ more) × (stop ≡ end)

joins : {call : Call} {next : ℕ} {ws : List (List ℕ)} (s : Setting) (ss more : List Setting) (stop end : Option Stop) (rest : Rest call next ws s more end) → Same ss stop rest.tail end → Same (s ∷ ss) stop more end
joins s ss more stop end rest same = (ap (λ ts. s ∷ ts) same.0 ∙ sym rest.whole, same.1)

pub one-cut : (call : Call) (at : ℕ) (ws : List (List ℕ)) (ss more : List Setting) (stop end : Option Stop) → Cut call at ws ss stop → Cut call at ws more end → Same ss stop more end
one-cut call at [] [] more None end ended second = let ends = ends-none call at more end second in (sym ends.0, sym ends.1)
one-cut call at (w ∷ ws) (s ∷ ss) more stop end (file e rest) second =
    let r = after-file call at w ws more end e second in
    joins s ss more stop end r (one-cut call (at + 1) ws ss r.tail stop end rest r.cut)
one-cut call at (w ∷ ws) (s ∷ ss) more stop end (joined {f} {v} e rest) second =
    let r = after-joined call at w f v ws more end e second in
    joins s ss more stop end r (one-cut call (at + 1) ws ss r.tail stop end rest r.cut)
one-cut call at (w ∷ ws) (s ∷ ss) more stop end (alone {f} e free rest) second =
    let r = after-alone call at w f ws more end e free second in
    joins s ss more stop end r (one-cut call (at + 1) ws ss r.tail stop end rest r.cut)
one-cut call at (w ∷ v ∷ ws) (s ∷ ss) more stop end (apart {f} e needs rest) second =
    let r = after-apart call at w f v ws more end e needs second in
    joins s ss more stop end r (one-cut call (at + 2) ws ss r.tail stop end rest r.cut)
one-cut call at (w ∷ []) [] more (Some p) end (lacking {f} e needs) second = let ends = ends-last call at w f more end e needs second in (sym ends.none, sym ends.stops)
one-cut call at (w ∷ ws) [] more (Some p) end (stopped e) second = let ends = ends-unknown call at w ws more end e second in (sym ends.none, sym ends.stops)
one-cut call at [] [] more (Some p) end none second = elim none [ ]
one-cut call at [] (s ∷ ss) more stop end none second = elim none [ ]
one-cut call at (w ∷ ws) [] more None end none second = elim none [ ]

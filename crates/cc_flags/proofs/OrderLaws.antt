-- Settings stand in the order of their words.
use Rattle.std.proofs.Common.{◌≡◌, ℕ, zero, suc, ◌+◌, ◌<◌, ◌≤◌, List, [], ◌∷◌, Option, Some, None, slice_get, refl, ap, sym, ◌∙◌, arith}
use Rattle.cc_flags.specs.declared.cut.Stop.{Stop}
use Rattle.cc_flags.specs.declared.flag.Call.{Call}
use Rattle.cc_flags.specs.Words.{Setting, Cut, ended, file, joined, alone, apart, lacking, stopped}
use Rattle.cc_flags.specs.Faults.{stage_of}
use Rattle.cc_flags.specs.Steps.{AreOrdered}

-- what is cut from a word on: settings from this word on, in their order, before the stop
record OrderedFrom (at : ℕ) (ss : List Setting) (stop : Option Stop) : Type 0 where
  from : (i : ℕ) (s : Setting) → slice_get ss i ≡ Some s → at ≤ s.at
  stop_from : (p : Stop) → stop ≡ Some p → at ≤ p.at
  ordered : AreOrdered ss stop

nothing-ended : (at : ℕ) → OrderedFrom at [] None
nothing-ended at = record {
  from = (λ i s e. cc);
  stop_from = (λ p e. cc);
  ordered = record { settings = (λ i j s t e h k. cc); before_stop = (λ i s p e h. cc); stage = (λ p e. cc) };
}

nothing-stopped : (at : ℕ) (q : Stop) → q.at ≡ at → stage_of q.kind ≡ 0 → OrderedFrom at [] (Some q)
nothing-stopped at q here form = record {
  from = (λ i s e. cc);
  stop_from = (λ p e. let same : q ≡ p = cc in omega (arith, ap (λ r. r.at) same));
  ordered = record { settings = (λ i j s t e h k. cc); before_stop = (λ i s p e h. cc); stage = (λ p e. let same : q ≡ p = cc in ap (λ r. stage_of r.kind) (sym same) ∙ form) };
}

one-more : (at next : ℕ) (s : Setting) (ss : List Setting) (stop : Option Stop) → s.at ≡ at → at < next → OrderedFrom next ss stop → OrderedFrom at (s ∷ ss) stop
one-more at next s ss stop here later rest = record {
  from = from;
  stop_from = (λ p e. omega (arith, rest.stop_from p e));
  ordered = record { settings = settings; before_stop = before_stop; stage = rest.ordered.stage };
} where
  from : (i : ℕ) (t : Setting) → slice_get (s ∷ ss) i ≡ Some t → at ≤ t.at
  from zero t e = let same : s ≡ t = cc in omega (arith, ap (λ r. r.at) same)
  from (suc i) t e = omega (arith, rest.from i t e)

  settings : (i j : ℕ) (t u : Setting) → slice_get (s ∷ ss) i ≡ Some t → slice_get (s ∷ ss) j ≡ Some u → i < j → t.at < u.at
  settings zero zero t u e h k = absurd (omega arith)
  settings zero (suc j) t u e h k = let same : s ≡ t = cc in omega (arith, ap (λ r. r.at) same, rest.from j u h)
  settings (suc i) zero t u e h k = absurd (omega arith)
  settings (suc i) (suc j) t u e h k = rest.ordered.settings i j t u e h (omega arith)

  before_stop : (i : ℕ) (t : Setting) (p : Stop) → slice_get (s ∷ ss) i ≡ Some t → stop ≡ Some p → t.at < p.at
  before_stop zero t p e h = let same : s ≡ t = cc in omega (arith, ap (λ r. r.at) same, rest.stop_from p h)
  before_stop (suc i) t p e h = rest.ordered.before_stop i t p e h

cut-from : (call : Call) (at : ℕ) (ws : List (List ℕ)) (ss : List Setting) (stop : Option Stop) → Cut call at ws ss stop → OrderedFrom at ss stop
cut-from call at [] [] None ended = nothing-ended at
cut-from call at (w ∷ ws) (s ∷ ss) stop (file e rest) = one-more at (at + 1) s ss stop refl (omega arith) (cut-from call (at + 1) ws ss stop rest)
cut-from call at (w ∷ ws) (s ∷ ss) stop (joined e rest) = one-more at (at + 1) s ss stop refl (omega arith) (cut-from call (at + 1) ws ss stop rest)
cut-from call at (w ∷ ws) (s ∷ ss) stop (alone e no_value rest) = one-more at (at + 1) s ss stop refl (omega arith) (cut-from call (at + 1) ws ss stop rest)
cut-from call at (w ∷ v ∷ ws) (s ∷ ss) stop (apart e needs rest) = one-more at (at + 2) s ss stop refl (omega arith) (cut-from call (at + 2) ws ss stop rest)
cut-from call at (w ∷ []) [] (Some p) (lacking e needs) = nothing-stopped at p refl refl
cut-from call at (w ∷ ws) [] (Some p) (stopped e) = nothing-stopped at p refl refl
cut-from call at [] [] (Some p) none = elim none [ ]
cut-from call at [] (s ∷ ss) stop none = elim none [ ]
cut-from call at (w ∷ ws) [] None none = elim none [ ]

pub cut-ordered : (call : Call) (ws : List (List ℕ)) (ss : List Setting) (stop : Option Stop) → Cut call 0 ws ss stop → AreOrdered ss stop
cut-ordered call ws ss stop cut = let all = cut-from call 0 ws ss stop cut in all.ordered

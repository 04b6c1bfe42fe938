-- Lists of mentions of which some are dropped, and in which a path may be used in another way, or one that
-- goes on from it in its place, where it was used in no way of its own.
use Rattle.std.proofs.Common.{◌≡◌, inl, inr, ℕ, ◌≤◌, List, [], ◌∷◌, ◌++◌, arith}
use Rattle.cc_meaning.specs.State.{Path}
use Rattle.cc_meaning.specs.Alike.{In, here, there}
use Rattle.cc_meaning.specs.FlatPaths.{Use, called, constructed, tested, other, Setting, Mention, used, set, settings, extended}
use Rattle.cc_tied.proofs.Mixed.KeptSets.{in_left, in_right, in_either}
use Rattle.cc_fold.proofs.Paths.{Before, before_next, begins_after, through_before, count, count_both}

-- how a path may be used that was used in no way of its own: no path that goes on from a global is called,
-- and none is deleted
pub data MayBecome : Use → Path → Type 0 where
  to_call : (w : Path) → w.1 ≡ [] → MayBecome called w
  to_construct : (w : Path) → MayBecome constructed w
  to_test : (w : Path) → MayBecome tested w
  to_other : (w : Path) → MayBecome other w

-- where a use comes from
pub data Comes (w : Path) (u : Use) (ms : List Mention) : Type 0 where
  from_same : In (used w u) ms → Comes w u ms
  from_value : MayBecome u w → In (used w other) ms → Comes w u ms
  from_before : (v : Path) → Before v w → In (used v other) ms → Comes w u ms

pub record Less (ms ns : List Mention) : Type 0 where
  pub fewer : (w : Path) → count w ns ≤ count w ms
  pub sets : (w : Path) (s : Setting) → In (set w s) ns → In (set w s) ms
  pub uses : (w : Path) (u : Use) → In (used w u) ns → Comes w u ms

-- ---- where a use comes from, in longer lists and by two steps

pub comes_within : {w : Path} {u : Use} {ms ns : List Mention} → ((x : Mention) → In x ms → In x ns) → Comes w u ms → Comes w u ns
comes_within f (from_same i) = from_same (f _ i)
comes_within f (from_value b i) = from_value b (f _ i)
comes_within f (from_before v b i) = from_before v b (f _ i)

-- a use that isn't a way of its own
by_value : {w : Path} {u : Use} {ms : List Mention} → MayBecome u w → Comes w other ms → Comes w u ms
by_value b (from_same i) = from_value b i
by_value b (from_value _ i) = from_value b i
by_value b (from_before v c i) = from_before v c i

by_before : {w : Path} {u : Use} {ms : List Mention} (v : Path) → Before v w → Comes v other ms → Comes w u ms
by_before v b (from_same i) = from_before v b i
by_before v b (from_value _ i) = from_before v b i
by_before v b (from_before v' c i) = from_before v' (through_before (begins_after c) b) i

comes_twice : {w : Path} {u : Use} {ms ns : List Mention} → Less ms ns → Comes w u ns → Comes w u ms
comes_twice {w = w} {u = u} l (from_same i) = l.uses w u i
comes_twice {w = w} l (from_value b i) = by_value b (l.uses w other i)
comes_twice l (from_before v b i) = by_before v b (l.uses v other i)

-- ---- lists

pub less_same : (ms : List Mention) → Less ms ms
less_same ms = record { fewer = λ w. omega arith; sets = λ w s i. i; uses = λ w u i. from_same i }

pub less_twice : {ls ms ns : List Mention} → Less ls ms → Less ms ns → Less ls ns
less_twice {ls = ls} {ms = ms} {ns = ns} l k = record {
  fewer = λ w. let a = l.fewer w in let b = k.fewer w in omega arith;
  sets = λ w s i. l.sets w s (k.sets w s i);
  uses = λ w u i. comes_twice l (k.uses w u i);
}

pub less_nothing : (ms : List Mention) → Less ms []
unfolding count settings
less_nothing ms = record { fewer = λ w. none w; sets = λ w s i. elim i [ ]; uses = λ w u i. elim i [ ] }
  where
    none : (w : Path) → count w [] ≤ count w ms
    none w = omega arith

pub less_both : {ms ns ks ls : List Mention} → Less ms ks → Less ns ls → Less (ms ++ ns) (ks ++ ls)
less_both {ms = ms} {ns = ns} {ks = ks} {ls = ls} f g = record {
  fewer = λ w. let a = f.fewer w in let b = g.fewer w in let c = count_both w ms ns in let d = count_both w ks ls in omega arith;
  sets = λ w s i. elim (in_either ks i) [ inl j ↦ in_left ns (f.sets w s j) | inr j ↦ in_right ms (g.sets w s j) ];
  uses = λ w u i. elim (in_either ks i) [ inl j ↦ comes_within (λ x k. in_left ns k) (f.uses w u j) | inr j ↦ comes_within (λ x k. in_right ms k) (g.uses w u j) ];
}

-- what stands before and after
pub less_before : (ns : List Mention) {ms ks : List Mention} → Less ms ks → Less (ms ++ ns) ks
less_before ns {ms = ms} f = record {
  fewer = λ w. let a = f.fewer w in let c = count_both w ms ns in omega arith;
  sets = λ w s i. in_left ns (f.sets w s i);
  uses = λ w u i. comes_within (λ x k. in_left ns k) (f.uses w u i);
}

pub less_after : (ms : List Mention) {ns ks : List Mention} → Less ns ks → Less (ms ++ ns) ks
less_after ms f = less_both (less_nothing ms) f

-- ---- one use for another

no_setting : {v w : Path} {u : Use} {s : Setting} {A : Type 0} → In (set w s) (used v u ∷ []) → A
no_setting (there i) = elim i [ ]

-- one use, which comes from the list before
pub less_use : (v : Path) (u : Use) (ms : List Mention) → Comes v u ms → Less ms (used v u ∷ [])
unfolding count settings
less_use v u ms c = record {
  fewer = λ w. none w;
  sets = λ w s i. no_setting i;
  uses = λ w t i. only i;
}
  where
    none : (w : Path) → count w (used v u ∷ []) ≤ count w ms
    none w = omega arith

    only : {w : Path} {t : Use} → In (used w t) (used v u ∷ []) → Comes w t ms
    only here = c
    only (there i) = elim i [ ]

-- a path that goes on from the one that was used, and comes in its place
pub less_further : (v : Path) (p : ℕ) (u : Use) (ms : List Mention) → Less ms (used v other ∷ []) → Less ms (used (extended v p) u ∷ [])
less_further v p u ms l = less_use (extended v p) u ms (by_before v (before_next v p) (l.uses v other here))

-- the same path, used in another way
pub less_as : (w : Path) (u : Use) → MayBecome u w → Less (used w other ∷ []) (used w u ∷ [])
less_as w u b = less_use w u (used w other ∷ []) (from_value b here)

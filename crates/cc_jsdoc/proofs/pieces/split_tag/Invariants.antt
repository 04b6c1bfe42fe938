use Rattle.std.proofs.Common.{◌≤◌, length}
use denote.Text.{Utf8}
use denote.Shadow.{shadow}
use Rattle.std.specs.Str.{chars}
use Rattle.cc_jsdoc.proofs.PieceLemmas.{Passed}
use Rattle.cc_jsdoc.proofs.pieces.split_tag.Given as goal

abbrev pub invariant-loop-c : goal.invariant-loop-c
invariant-loop-c l = record {
  utf8 : shadow (Utf8 l.rest);
  shorter : length l.rest ≤ length l.text;
  passed : Passed l.free (chars l.text) (chars l.rest) l.may_begin;
}

abbrev pub decreases-loop-c : goal.decreases-loop-c
decreases-loop-c l = length l.rest

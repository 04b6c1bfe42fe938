use Rattle.std.proofs.Common.{◌≡◌, ◌<◌, ℕ, List, length, map}
use denote.Text.{Utf8}
use denote.Shadow.{shadow}
use Rattle.std.specs.Str.{chars}
use Rattle.cc_text.specs.Utf16.{utf16}
use Rattle.cc_jsdoc.specs.Types.{IsName}
use Rattle.cc_jsdoc.proofs.name.name.Given as goal

abbrev pub invariant-loop-word : goal.invariant-loop-word
invariant-loop-word l = record {
  utf8 : shadow (Utf8 l.rest);
  shorter : length l.rest < length l.text;
  read : (ws : List (List ℕ)) × IsName (chars l.text) ws (chars l.rest) × (l.parts ≡ map utf16 ws);
}

abbrev pub decreases-loop-word : goal.decreases-loop-word
decreases-loop-word l = length l.rest

-- Whichever scopes of a well made program without flat paths are folded, it stays well made.
use Rattle.std.proofs.Common.{sym, subst}
use Rattle.cc_meaning.specs.WellMade.{WellMade}
use Rattle.cc_tied.specs.Promises.{HasNoPaths}
use Rattle.cc_fold.specs.Law.{FoldingKeepsWellMade}
use Rattle.cc_fold.proofs.WellMade.FoldedScopes.{folded_follow}
use Rattle.cc_fold.proofs.WellMade.WellMadeKept.{well_after}

pub folding_keeps_well_made : FoldingKeepsWellMade
folding_keeps_well_made P Q W none m = subst (λ z. WellMade z × HasNoPaths z) (sym m.others) (well_after P W none Q.scopes (folded_follow P Q.scopes m.scopes), record { none = none.none })

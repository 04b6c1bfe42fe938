-- Laws of doing the same.
use Rattle.std.proofs.Common.{◌≡◌, refl, ◌∙◌, sym, subst, ◌⊎◌, inl, inr, IsTrue}
use Rattle.cc_ast.specs.Syntax.{Program}
use Rattle.cc_meaning.specs.Script.{follows, Run}
use Rattle.cc_meaning.specs.Same.{IsBroken, Same}

pub reflexive : (P : Program) → Same P P
reflexive P = record { graph = refl; runs = λ sc h n. inr refl }

-- the one run breaks a rule, or the two are equal
abbrev BrokenOrEqual : Run → Run → Type 0
BrokenOrEqual x y = IsBroken x.end ⊎ (x ≡ y)

chained : {x y z : Run} → BrokenOrEqual x y → BrokenOrEqual y z → BrokenOrEqual x z
chained (inl b) k = inl b
chained {x} {y} {z} (inr e) k = subst (λ w. BrokenOrEqual w z) (sym e) k

pub transitive : (P Q R : Program) → Same P Q → Same Q R → Same P R
transitive P Q R f g = record {
  graph = f.graph ∙ g.graph;
  runs = λ sc h n. chained (f.runs sc h n) (g.runs sc (subst (λ G. IsTrue (follows G sc)) f.graph h) n);
}

-- What is collected of the tags so far.
use Rattle.std.specs.Prelude.{◌≡◌, ℕ, List, [], map}
use Rattle.std.specs.declared.vec.Vec.{Vec}
use Rattle.std.specs.declared.alloc.Global.{Global}
use Rattle.cc_jsdoc.specs.declared.collect.Collected.{Collected}
use Rattle.cc_jsdoc.specs.declared.doc.Param.{Param}
use Rattle.cc_jsdoc.specs.declared.tag.Tag.{Tag}
use Rattle.cc_jsdoc.specs.declared.types.TypeExpr.{TypeExpr}
use Rattle.cc_jsdoc.specs.Docs.{doc_of, params_of}

abbrev pub param_shown : Vec ℕ Global × TypeExpr → Param
param_shown p = record { name = p.0.items; expr = p.1 }

-- the parameters of these tags, and all else that they give
pub record IsCollected (tags : List Tag) (c : Collected) : Type 0 where
  pub doc : c.doc ≡ record (doc_of tags) { params = [] }
  pub params : map param_shown c.params.entries ≡ params_of tags

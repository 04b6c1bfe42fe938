-- What reading a file answers.
use Rattle.std.specs.Prelude.{◌≡◌, ℕ, List}
use Rattle.cc_ast.specs.declared.reading.Refusal.{Refusal}
use Rattle.cc_lexer.specs.declared.token.Tokens as code
use Rattle.cc_lexer.specs.Lexes.{Lexed}
use Rattle.cc_grammar.specs.Symbols.{nowhere}
use Rattle.cc_stmt.specs.ReadList.{tokens, IsRead, IsRefused}
use Rattle.cc_stmt.specs.declared.tree.Tree.{Tree}
use Rattle.cc_stmt.specs.Notes.{notes, licences}

-- The tree has the statements that the tokens derive, their annotation comments, and the licences among those.
pub record IsFile (t : code.Tokens) (number : ℕ) (tree : Tree) : Type 0 where
  pub file : tree.file ≡ number
  pub body : IsRead (tokens t) tree.body
  pub docs : tree.docs.items ≡ notes nowhere t.list.items
  pub licences : tree.licences.items ≡ licences (notes nowhere t.list.items)

-- the tree of a text
pub record IsSource (text : List ℕ) (file : ℕ) (tree : Tree) : Type 0 where
  pub list : code.Tokens
  pub lexed : Lexed text file list.list.items list.stop
  pub is : IsFile list file tree

-- the first fault of a text
pub record IsSourceRefused (text : List ℕ) (file : ℕ) (e : Refusal) : Type 0 where
  pub list : code.Tokens
  pub lexed : Lexed text file list.list.items list.stop
  pub is : IsRefused (tokens list) e

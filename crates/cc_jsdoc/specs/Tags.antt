-- The tags of a comment's text, and what each gives.
use Rattle.std.specs.Prelude.{◌≡◌, ℕ, List, [], ◌∷◌, Bool, true, false, ◌&&◌, ◌==◌, if◌then◌else◌, Option, Some, None, unwrap_or, drop, codes}
use Rattle.std.specs.Char.{is_ascii_alphabetic}
use Rattle.std.specs.Option.{option_map}
use Rattle.std.specs.Str.{bytes_eq}
use Rattle.cc_text.specs.Characters.{first_is}
use Rattle.cc_text.specs.Utf16.{utf16}
use Rattle.cc_lexer.specs.Characters.{run, behind}
use Rattle.cc_jsdoc.specs.declared.doc.Param.{Param}
use Rattle.cc_jsdoc.specs.declared.tag.Tag.{Tag}
use Rattle.cc_jsdoc.specs.declared.tag.Tag.TheVariants as tag
use Rattle.cc_jsdoc.specs.declared.tag.TagName.{TagName}
use Rattle.cc_jsdoc.specs.declared.tag.TagName.TheVariants as t
use Rattle.cc_jsdoc.specs.declared.types.Name.{Name}
use Rattle.cc_jsdoc.specs.declared.types.Alternative.TheVariants as one
use Rattle.cc_jsdoc.specs.declared.types.Simple.TheVariants as simple
use Rattle.cc_jsdoc.specs.declared.types.TypeExpr.{TypeExpr}
use Rattle.cc_jsdoc.specs.Classes.{is_blank}
use Rattle.cc_jsdoc.specs.Texts.{onto_first}
use Rattle.cc_jsdoc.specs.Symbols.{Word, Mark, Closes}
use Rattle.cc_jsdoc.specs.Types.{Means, IsClassName, name_of}

-- ---- where tags begin

-- `@` and a letter
abbrev pub begins_tag : ℕ → List ℕ → Bool
begins_tag c cs = c == 64 && first_is is_ascii_alphabetic cs

-- What stands before the first tag, and of each tag its own text: what is behind its `@`, up to the next tag. A tag begins
-- at the beginning or behind white space; the flag tells whether such a place is reached.
unfoldable pub pieces : Bool → List ℕ → List (List ℕ)
pieces free [] = [] ∷ []
pieces free (c ∷ cs) = if free && begins_tag c cs then [] ∷ pieces false cs else onto_first c (pieces (is_blank c) cs)

abbrev pub own_texts : List ℕ → List (List ℕ)
own_texts text = drop 1 (pieces true text)

-- the letters of a tag's name
unfoldable pub tag_name : List ℕ → TagName
tag_name w = if bytes_eq (codes "constructor") w then t.Constructor
    else (if bytes_eq (codes "interface") w then t.Interface
    else (if bytes_eq (codes "enum") w then t.Enum
    else (if bytes_eq (codes "typedef") w then t.Typedef
    else (if bytes_eq (codes "extends") w then t.Extends
    else (if bytes_eq (codes "implements") w then t.Implements
    else (if bytes_eq (codes "param") w then t.Param
    else (if bytes_eq (codes "return") w then t.Return
    else (if bytes_eq (codes "type") w then t.Type
    else (if bytes_eq (codes "this") w then t.This
    else (if bytes_eq (codes "const") w then t.Const
    else (if bytes_eq (codes "define") w then t.Define
    else (if bytes_eq (codes "export") w then t.Export
    else (if bytes_eq (codes "nocollapse") w then t.NoCollapse
    else (if bytes_eq (codes "license") w then t.Licence
    else (if bytes_eq (codes "preserve") w then t.Licence
    else t.Other)))))))))))))))

-- ---- what a tag gives, by the text behind its name

-- `{` behind any white space, the text up to the `}` that closes it, and what is behind that
pub data Braced : List ℕ → List ℕ → List ℕ → Type 0 where
  braces : {text a inside rest : List ℕ} → Mark 123 text a → Closes 123 125 a inside rest → Braced text inside rest

-- the tag's type, if it has one, and what is behind it
pub data TypeOf : List ℕ → Option TypeExpr → List ℕ → Type 0 where
  typed : {text inside rest : List ℕ} {e : TypeExpr} → Braced text inside rest → Means inside e → TypeOf text (Some e) rest
  untyped : {text : List ℕ} → ((inside rest : List ℕ) → ¬ Braced text inside rest) → TypeOf text None text

abbrev pub unknown : TypeExpr
unknown = record { alternatives = one.Unknown ∷ [] }

abbrev pub number : TypeExpr
number = record { alternatives = one.Simple simple.Number ∷ [] }

-- the type, where it is the name of a class
pub data ClassOf : List ℕ → Option Name → Type 0 where
  class : {text inside rest : List ℕ} {ws : List (List ℕ)} → Braced text inside rest → IsClassName inside ws → ClassOf text (Some (name_of ws))
  no_class : {text : List ℕ} → ((inside rest : List ℕ) (ws : List (List ℕ)) → Braced text inside rest → ¬ IsClassName inside ws) → ClassOf text None

-- a name that comes next behind white space
pub data NextName : List ℕ → List ℕ → Type 0 where
  next : {text w rest : List ℕ} → first_is is_blank text ≡ true → Word w text rest → NextName text w

-- the parameter that a tag annotates; without a type it is unknown
pub data ParamOf : List ℕ → Option Param → Type 0 where
  param : {text w rest : List ℕ} {e : Option TypeExpr} → TypeOf text e rest → NextName rest w → ParamOf text (Some (record { name = utf16 w; expr = unwrap_or e unknown }))
  no_param : {text rest : List ℕ} {e : Option TypeExpr} → TypeOf text e rest → ((w : List ℕ) → ¬ NextName rest w) → ParamOf text None

-- a tag, by what a type, a class or a parameter makes of it
abbrev pub ByType : List ℕ → (Option TypeExpr → Option Tag) → Option Tag → Type 0
ByType text make o = (e : Option TypeExpr) × (rest : List ℕ) × TypeOf text e rest × (o ≡ make e)

abbrev pub ByClass : List ℕ → (Name → Tag) → Option Tag → Type 0
ByClass text make o = (n : Option Name) × ClassOf text n × (o ≡ option_map make n)

-- What a tag of this name gives; nothing, where it lacks what it gives or is another one.
abbrev pub Gives : TagName → List ℕ → Option Tag → Type 0
Gives t.Constructor text o = o ≡ Some tag.Constructor
Gives t.Interface text o = o ≡ Some tag.Interface
Gives t.Enum text o = ByType text (λ e. Some (tag.Enum (unwrap_or e number))) o
Gives t.Typedef text o = ByType text (option_map tag.Typedef) o
Gives t.Extends text o = ByClass text tag.Extends o
Gives t.Implements text o = ByClass text tag.Implements o
Gives t.Param text o = (p : Option Param) × ParamOf text p × (o ≡ option_map tag.Param p)
Gives t.Return text o = ByType text (option_map tag.Return) o
Gives t.Type text o = ByType text (option_map tag.Type) o
Gives t.This text o = ByType text (option_map tag.This) o
Gives t.Const text o = ByType text (λ e. Some (tag.Const e)) o
Gives t.Define text o = ByType text (λ e. Some (tag.Define e)) o
Gives t.Export text o = o ≡ Some tag.Export
Gives t.NoCollapse text o = o ≡ Some tag.NoCollapse
Gives t.Licence text o = o ≡ Some tag.Licence
Gives t.Other text o = o ≡ None

-- by a tag's own text: its name is as long as letters follow
abbrev pub IsTag : List ℕ → Option Tag → Type 0
IsTag text o = Gives (tag_name (run is_ascii_alphabetic text)) (behind is_ascii_alphabetic text) o

-- the tags of these texts that give something
pub data AreTags : List (List ℕ) → List Tag → Type 0 where
  none : AreTags [] []
  gives : {text : List ℕ} {texts : List (List ℕ)} {given : Tag} {tags : List Tag} → IsTag text (Some given) → AreTags texts tags → AreTags (text ∷ texts) (given ∷ tags)
  passed : {text : List ℕ} {texts : List (List ℕ)} {tags : List Tag} → IsTag text None → AreTags texts tags → AreTags (text ∷ texts) tags

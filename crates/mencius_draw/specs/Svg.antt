-- The texts that are SVG, and the elements that show a part of a trace.
use Rattle.std.specs.Prelude.{◌≡◌, ◌≢◌, ℕ, List, [], ◌∷◌, ◌++◌, ◌⊎◌, Option, Some, None, codes, decimal, Bool, true, false, if◌then◌else◌}
use Rattle.std.specs.List.{All}
use Rattle.mencius_draw.specs.declared.colours.TheConstants.{DEFINITIONS, KEY}
use Rattle.mencius_draw.specs.declared.svg.Arrow.{Arrow}
use Rattle.mencius_draw.specs.declared.svg.Group.{Group}
use Rattle.mencius_draw.specs.declared.svg.LabelBox.{LabelBox}
use Rattle.mencius_draw.specs.declared.svg.Name.{Name}
use Rattle.mencius_draw.specs.declared.svg.Name.TheVariants.{Unnamed, EventName, MessageName}
use Rattle.mencius_draw.specs.declared.svg.Place.{Place}
use Rattle.mencius_draw.specs.declared.svg.Tag.{Tag}
use Rattle.mencius_draw.specs.declared.svg.Tag.TheVariants.{Title, Style, Label}

-- a byte that begins or ends neither a tag nor a value: none of `<`, `>`, `&`, `'` and `"`
pub record IsHarmless (b : ℕ) : Type 0 where
  pub less : b ≢ 60
  pub greater : b ≢ 62
  pub ampersand : b ≢ 38
  pub apostrophe : b ≢ 39
  pub quote : b ≢ 34

-- a byte that may be inside a tag. A tag with a `/` at its end would have no end tag
pub record IsInTag (b : ℕ) : Type 0 where
  pub less : b ≢ 60
  pub greater : b ≢ 62
  pub ampersand : b ≢ 38
  pub slash : b ≢ 47

-- ---- tags

abbrev pub tag_name : Tag → List ℕ
tag_name Title = codes "title"
tag_name Style = codes "style"
tag_name Label = codes "text"

-- the coordinates of a point
abbrev pub point_text : Place → List ℕ
point_text p = decimal p.x ++ codes " " ++ decimal p.y

abbrev pub place_text : Place → List ℕ
place_text p = codes " transform='translate(" ++ point_text p ++ codes ")'"

abbrev pub at_text : Option Place → List ℕ
at_text None = []
at_text (Some p) = place_text p

abbrev pub name_text : Name → List ℕ
name_text Unnamed = []
name_text (EventName place) = codes " id='e" ++ decimal place ++ codes "'"
name_text (MessageName number) = codes " id='m" ++ decimal number ++ codes "'"

abbrev pub event_text : ℕ → List ℕ
event_text place = codes "' data-e='" ++ decimal place ++ codes "'"

abbrev pub message_text : ℕ → List ℕ
message_text number = codes " data-m='" ++ decimal number ++ codes "' d='M"

abbrev pub fate_text : Bool → List ℕ
fate_text true = codes "lost "
fate_text false = codes "heard "

-- the end of an arrow's path. A message that was not lost has a point there, in the colour of the owner
abbrev pub end_text : Bool → List ℕ → ℕ → List ℕ
end_text true shape owner = codes "'"
end_text false shape owner = codes "' marker-end='url(#" ++ shape ++ decimal owner ++ codes ")'"

-- the class for lines in the colour of a server
abbrev pub owner_text : ℕ → List ℕ
owner_text owner = codes " s" ++ decimal owner

-- the colour of a box, which is that of the owner. The box is filled with the colour, or has it as a tint and a border
abbrev pub box_class : LabelBox → List ℕ
box_class b =
    if b.is_filled then codes "f" ++ decimal b.owner else codes "t" ++ decimal b.owner ++ owner_text b.owner

abbrev pub group_text : Group → List ℕ → List ℕ
group_text g class =
    codes "<g" ++ name_text g.name ++ codes " class='" ++ class ++ event_text g.event ++ at_text g.at ++ codes ">"

abbrev pub box_text : LabelBox → List ℕ → List ℕ
box_text b rest = codes "<rect class='" ++ box_class b ++ codes "' " ++ rest ++ codes "/>"

-- the path of an arrow. The kind is the name of the message's kind, the bend is the middle of the path, and the shape
-- is that of the arrow's point
abbrev pub arrow_text : Arrow → List ℕ → List ℕ → List ℕ → List ℕ
arrow_text a kind bend shape =
    codes "<path class='way " ++ fate_text a.is_lost ++ kind ++ owner_text a.owner ++ event_text a.event
    ++ message_text a.message ++ point_text a.tail ++ bend ++ point_text a.tip ++ end_text a.is_lost shape a.owner
    ++ codes ">"

-- ---- texts

-- an element that shows a part of a trace
pub data Element : Type 0 where
  of_group : Group → Element
  of_place : Place → Element
  of_box : LabelBox → Element
  of_arrow : Arrow → Element

-- the text is the beginning of a picture. The tags are the names of the elements that are open, the innermost first. The
-- elements are those that show a part of a trace, in order
pub data IsText : List ℕ → List (List ℕ) → List Element → Type 0 where
  root : (rest : List ℕ) → All IsInTag rest → IsText (codes "<svg xmlns='http://www.w3.org/2000/svg'" ++ rest ++ codes ">") [] []
  words : {text : List ℕ} {tags : List (List ℕ)} {es : List Element} → (bytes : List ℕ) → All IsHarmless bytes → IsText text tags es → IsText (text ++ bytes) tags es
  leaf : {text : List ℕ} {tags : List (List ℕ)} {es : List Element} → (rest : List ℕ) → All IsInTag rest → IsText text tags es → IsText (text ++ (codes "<" ++ rest ++ codes "/>")) tags es
  start : {text : List ℕ} {tags : List (List ℕ)} {es : List Element} → (tag : Tag) (rest : List ℕ) → All IsInTag rest → IsText text tags es → IsText (text ++ (codes "<" ++ tag_name tag ++ rest ++ codes ">")) (tag_name tag ∷ tags) es
  card : {text : List ℕ} {tags : List (List ℕ)} {es : List Element} → (class : List ℕ) (p : Place) → All IsHarmless class → IsText text tags es → IsText (text ++ (codes "<g class='" ++ class ++ codes "'" ++ place_text p ++ codes ">")) (codes "g" ∷ tags) es
  group : {text : List ℕ} {tags : List (List ℕ)} {es : List Element} → (g : Group) (class : List ℕ) → All IsHarmless class → IsText text tags es → IsText (text ++ group_text g class) (codes "g" ∷ tags) (es ++ of_group g ∷ [])
  place : {text : List ℕ} {tags : List (List ℕ)} {es : List Element} → (p : Place) → IsText text tags es → IsText (text ++ (codes "<g" ++ place_text p ++ codes ">")) (codes "g" ∷ tags) (es ++ of_place p ∷ [])
  box : {text : List ℕ} {tags : List (List ℕ)} {es : List Element} → (b : LabelBox) (rest : List ℕ) → All IsInTag rest → IsText text tags es → IsText (text ++ box_text b rest) tags (es ++ of_box b ∷ [])
  arrow : {text : List ℕ} {tags : List (List ℕ)} {es : List Element} → (a : Arrow) (kind bend shape : List ℕ) → All IsHarmless kind → All IsHarmless bend → All IsHarmless shape → IsText text tags es → IsText (text ++ arrow_text a kind bend shape) (codes "path" ∷ tags) (es ++ of_arrow a ∷ [])
  constant : {text : List ℕ} {tags : List (List ℕ)} {es : List Element} → (part : List ℕ) → (part ≡ KEY.now) ⊎ (part ≡ DEFINITIONS.now) → IsText text tags es → IsText (text ++ part) tags es
  end : {text : List ℕ} {tags : List (List ℕ)} {es : List Element} → (name : List ℕ) → IsText text (name ∷ tags) es → IsText (text ++ (codes "</" ++ name ++ codes ">")) tags es

-- the text is a whole picture with these elements. Every element is closed, and the root contains all others
abbrev pub IsSvg : List ℕ → List Element → Type 0
IsSvg text es = (inner : List ℕ) × (text ≡ inner ++ codes "</svg>\n") × IsText inner [] es

-- ---- calls that add to a text

-- the elements, with more elements after them
abbrev pub then_all : List Element → List Element → List Element
then_all es [] = es
then_all es (x ∷ xs) = then_all (es ++ x ∷ []) xs

-- a call adds these elements to a text, and leaves these tags open
pub record Adds (more_tags : List (List ℕ)) (more : List Element) (old new : List ℕ) : Type 0 where
  pub run : (tags : List (List ℕ)) (es : List Element) → IsText old tags es → IsText new (more_tags ++ tags) (then_all es more)

-- a call closes the innermost open element, which has this name
pub record Ends (name : List ℕ) (old new : List ℕ) : Type 0 where
  pub run : (tags : List (List ℕ)) (es : List Element) → IsText old (name ∷ tags) es → IsText new tags es

-- a call adds none of these elements, and leaves no tag open
abbrev pub Keeps : List ℕ → List ℕ → Type 0
Keeps old new = Adds [] [] old new

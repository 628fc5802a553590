-- The grammar of Well-Known Text (ISO 19125-1:2004, 6.2) for POLYGON and MULTIPOLYGON, by what a text spells.
use Rattle.std.specs.Prelude.{◌≡◌, ℕ, ◌+◌, ◌⊎◌, Bool, false, true, IsTrue, ◌&&◌, List, [], ◌∷◌, ◌++◌, map}
use Rattle.std.specs.Prelude.{flat_map, length, take, slice_get, All, codes, if◌then◌else◌, Option, Some, None}
use Rattle.std.specs.List.{list_all}
use Rattle.std.specs.Str.{str_to_ascii_uppercase}
use Rattle.overlay_terms.specs.Plane.{WholePoint, is_coordinate}
use Rattle.plane_base.specs.BaseLayer.{rings_fault}
use Rattle.plane_base.specs.declared.fault.PlaneFault.{PlaneFault}
use Rattle.wkt_form.specs.declared.fault.WktFault.{WktFault}
use Rattle.wkt_form.specs.declared.fault.WktFault.TheVariants.{Syntax, NotWhole, CoordRange}
use Rattle.wkt_form.specs.Fault.{of_rings}
use Rattle.wkt_form.specs.Number.{is_number, is_whole, number_value}
use Rattle.wkt_form.specs.Token.{Kind, word, run, open_bracket, close_bracket, comma, Token, tokens_of}

-- a point is two numbers, as they are written
pub record WrittenPoint : Type 0 where
  pub x : List ℕ
  pub y : List ℕ

-- a polygon: EMPTY, or its rings
pub data WrittenPolygon : Type 0 where
  empty : WrittenPolygon
  rings : List (List WrittenPoint) → WrittenPolygon

-- a text: one polygon, none, or several
pub data WrittenText : Type 0 where
  polygon : WrittenPolygon → WrittenText
  no_polygons : WrittenText
  polygons : List WrittenPolygon → WrittenText

-- members one after another, with a comma between each two
abbrev pub parted : List (List Kind) → List Kind
parted [] = []
parted (member ∷ []) = member
parted (member ∷ next ∷ members) = member ++ comma ∷ parted (next ∷ members)

-- a list is written as its members, parted by commas, in brackets
abbrev pub bracketed : List (List Kind) → List Kind
bracketed members = open_bracket ∷ parted members ++ close_bracket ∷ []

-- the tokens by which a point is written, without their places
abbrev pub point_kinds : WrittenPoint → List Kind
point_kinds p = run p.x ∷ run p.y ∷ []

-- a ring is written as its points, in brackets
abbrev pub ring_kinds : List WrittenPoint → List Kind
ring_kinds points = bracketed (map point_kinds points)

-- a polygon is written as EMPTY, or as its rings, in brackets
abbrev pub polygon_kinds : WrittenPolygon → List Kind
polygon_kinds empty = word (codes "EMPTY") ∷ []
polygon_kinds (rings members) = bracketed (map ring_kinds members)

-- a text is written as POLYGON and a polygon, or as MULTIPOLYGON and EMPTY or its polygons, in brackets
abbrev pub text_kinds : WrittenText → List Kind
text_kinds (polygon p) = word (codes "POLYGON") ∷ polygon_kinds p
text_kinds no_polygons = word (codes "MULTIPOLYGON") ∷ word (codes "EMPTY") ∷ []
text_kinds (polygons ps) = word (codes "MULTIPOLYGON") ∷ bracketed (map polygon_kinds ps)

-- whether a list has a member, and each of its members is right
abbrev pub some_and_all : {A : Type 0} → (A → Bool) → List A → Bool
some_and_all test [] = false
some_and_all test (a ∷ as') = list_all test (a ∷ as')

-- whether both coordinates of a point are written as numbers
abbrev pub is_point_right : WrittenPoint → Bool
is_point_right p = is_number p.x && is_number p.y

-- whether a polygon is EMPTY, or has a ring, and each of its rings a point, and each point is right
abbrev pub is_polygon_right : WrittenPolygon → Bool
is_polygon_right empty = true
is_polygon_right (rings members) = some_and_all (some_and_all is_point_right) members

-- whether each polygon of a text is right, and brackets that are to hold polygons hold one
abbrev pub is_text_right : WrittenText → Bool
is_text_right (polygon p) = is_polygon_right p
is_text_right no_polygons = true
is_text_right (polygons ps) = some_and_all is_polygon_right ps

-- the whole point that two written numbers spell
abbrev pub point_of : WrittenPoint → WholePoint
point_of p = record { x = number_value p.x; y = number_value p.y }

-- the rings that a polygon spells; none where it is EMPTY
abbrev pub polygon_rings : WrittenPolygon → List (List WholePoint)
polygon_rings empty = []
polygon_rings (rings members) = map (map point_of) members

-- the rings that a text spells, those of all its polygons in one list
abbrev pub text_rings : WrittenText → List (List WholePoint)
text_rings (polygon p) = polygon_rings p
text_rings no_polygons = []
text_rings (polygons ps) = flat_map polygon_rings ps

-- words are compared in any case, as if in upper case
abbrev pub in_upper_case : Kind → Kind
in_upper_case (word bs) = word (str_to_ascii_uppercase bs)
in_upper_case kind = kind

-- tokens without their offsets, their words in upper case
abbrev pub kinds_of : List Token → List Kind
kinds_of tokens = map (λ (t : Token). in_upper_case t.kind) tokens

-- the tokens are those of a text, and what it spells
pub record Spells (tokens : List Token) (text : WrittenText) : Type 0 where
  pub right : IsTrue (is_text_right text)
  pub spelled : kinds_of tokens ≡ text_kinds text

-- the tokens are a text
abbrev pub IsText : List Token → Type 0
IsText tokens = (text : WrittenText) × Spells tokens text

-- the tokens may begin a text: with some more they are one
abbrev pub IsBegun : List Token → Type 0
IsBegun tokens = (more : List Token) × IsText (tokens ++ more)

-- what is wrong with the number that a token is: it is not whole; it is no coordinate
abbrev pub number_fault : Token → Option WktFault
number_fault token = by_kind token.kind token.at where
  by_kind : Kind → ℕ → Option WktFault
  by_kind (run bs) at =
      if is_whole bs then (if is_coordinate (number_value bs) then None else Some (CoordRange at)) else Some (NotWhole at)
  by_kind kind at = None

-- no token so far is at fault
pub record IsGoodSoFar (tokens : List Token) : Type 0 where
  pub begun : IsBegun tokens
  pub numbers : All (λ token. number_fault token ≡ None) tokens

-- the token at a position is the first at fault: it cannot come there, or it is a number that is not whole or no
-- coordinate; at the end of the tokens the text is not whole, and its length is the position
abbrev pub IsFaultAt : List ℕ → ℕ → Option Token → WktFault → Type 0
IsFaultAt bytes i None fault = ¬ (IsText (tokens_of bytes)) × (fault ≡ Syntax (length bytes))
IsFaultAt bytes i (Some token) fault =
    (¬ (IsBegun (take (i + 1) (tokens_of bytes))) × (fault ≡ Syntax token.at))
    ⊎ (IsBegun (take (i + 1) (tokens_of bytes)) × (number_fault token ≡ Some fault))

-- all tokens before this fault are right, and it is the fault of the next one, or of the end
abbrev pub IsFirstFault : List ℕ → WktFault → Type 0
IsFirstFault bytes fault =
    (i : ℕ) × IsGoodSoFar (take i (tokens_of bytes)) × IsFaultAt bytes i (slice_get (tokens_of bytes) i) fault

-- the bytes are a text of these rings
abbrev pub IsWktOf : List ℕ → List (List WholePoint) → Type 0
IsWktOf bytes layer =
    (text : WrittenText) × Spells (tokens_of bytes) text × All (λ token. number_fault token ≡ None) (tokens_of bytes) × (layer ≡ text_rings text)

-- the bytes are a text of rings that make a base layer
abbrev pub ReadsAs : List ℕ → List (List WholePoint) → Type 0
ReadsAs bytes layer = IsWktOf bytes layer × (rings_fault layer ≡ None)

-- the bytes are refused: by their first fault, or where they are a text, by the first fault of its rings
abbrev pub IsRefusedBy : List ℕ → WktFault → Type 0
IsRefusedBy bytes fault =
    IsFirstFault bytes fault
    ⊎ ((layer : List (List WholePoint)) × (wrong : PlaneFault) × IsWktOf bytes layer × (rings_fault layer ≡ Some wrong) × (fault ≡ of_rings wrong))

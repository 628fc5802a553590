-- Tokens as the grammar sees them: three words, numbers with what they are worth,
-- brackets, commas, and what no text has.
use Rattle.std.specs.Prelude.{ℕ, ℤ, ◌≡◌, ◌<◌, ◌==◌, List, take, Option, Some, None, codes, if◌then◌else◌}
use Rattle.std.specs.List.{prefix_len}
use Rattle.std.specs.Str.{bytes_eq}
use Rattle.wkt_form.specs.declared.number.Number.{Number}
use Rattle.wkt_form.specs.declared.number.Number.TheVariants.{Whole, Fraction, OutOfRange}
use Rattle.wkt_form.specs.declared.token.Symbol.{Symbol}
use Rattle.wkt_form.specs.declared.token.Symbol.TheVariants as symbols
use Rattle.overlay_terms.specs.Plane.{is_coordinate}
use Rattle.wkt_form.specs.Number.{is_number, is_whole, number_value}
use Rattle.wkt_form.specs.Token.{is_run_byte, Kind, word, run, open_bracket, close_bracket, comma, stray}

-- what a whole number is worth as a coordinate
abbrev pub whole_worth : ℤ → Number
whole_worth z = if is_coordinate z then Whole z else OutOfRange

-- what a number is worth as a coordinate
abbrev pub number_worth : List ℕ → Number
number_worth bs = if is_whole bs then whole_worth (number_value bs) else Fraction

-- what a run is worth, if it is a number
abbrev pub number_of : List ℕ → Option Number
number_of bs = if is_number bs then Some (number_worth bs) else None

-- bytes begin with a run that is a number of this worth, and it takes so many of them
pub record BeginsWithNumber (bytes : List ℕ) (number : Number) (size : ℕ) : Type 0 where
  pub some : 0 < size
  pub run : size ≡ prefix_len is_run_byte bytes
  pub worth : number_of (take size bytes) ≡ Some number

-- a word in upper case
abbrev pub word_symbol : List ℕ → Symbol
word_symbol bs =
    if bytes_eq bs (codes "POLYGON") then symbols.Polygon
    else (if bytes_eq bs (codes "MULTIPOLYGON") then symbols.MultiPolygon
    else (if bytes_eq bs (codes "EMPTY") then symbols.Empty else symbols.Unknown))

-- a run of digits, signs and points
abbrev pub run_symbol : List ℕ → Symbol
run_symbol bs = if is_number bs then symbols.Number (number_worth bs) else symbols.Unknown

-- a byte that is a token by itself
abbrev pub mark_symbol : ℕ → Symbol
mark_symbol b =
    if b == 40 then symbols.Open
    else (if b == 41 then symbols.Close else (if b == 44 then symbols.Comma else symbols.Unknown))

-- a kind, its word in upper case
abbrev pub symbol_of : Kind → Symbol
symbol_of (word bs) = word_symbol bs
symbol_of (run bs) = run_symbol bs
symbol_of open_bracket = symbols.Open
symbol_of close_bracket = symbols.Close
symbol_of comma = symbols.Comma
symbol_of stray = symbols.Unknown

-- What a reader has read so far, and what one more token makes of it. Only private functions of the reader cite this:
-- what a text is, and by what it is refused, the grammar says alone.
use Rattle.std.specs.Prelude.{ℕ, ℤ, pos, Bool, true, false, List, [], ◌∷◌, ◌++◌, Option, Some, None, Result, Ok, Err}
use Rattle.overlay_terms.specs.Plane.{WholePoint}
use Rattle.wkt_form.specs.declared.fault.WktFault.{WktFault}
use Rattle.wkt_form.specs.declared.fault.WktFault.TheVariants as faults
use Rattle.wkt_form.specs.declared.number.Number.{Number}
use Rattle.wkt_form.specs.declared.number.Number.TheVariants.{Whole, Fraction, OutOfRange}
use Rattle.wkt_form.specs.declared.state.State.{State}
use Rattle.wkt_form.specs.declared.state.State.TheVariants as states
use Rattle.wkt_form.specs.declared.token.Symbol.{Symbol}
use Rattle.wkt_form.specs.declared.token.Symbol.TheVariants as symbols
use Rattle.wkt_form.specs.declared.token.Token as code
use Rattle.wkt_form.specs.State.{next_state}

-- the state, whether the text is of several polygons, the first number of the point, the points of the ring, the rings
pub record Reading : Type 0 where
  pub state : State
  pub several : Bool
  pub first : ℤ
  pub points : List WholePoint
  pub rings : List (List WholePoint)

infixl 10 ◌>>=◌
abbrev pub ◌>>=◌ : {A B : Type 0} → Result A WktFault → (A → Result B WktFault) → Result B WktFault
(Ok a) >>= f = f a
(Err fault) >>= f = Err fault

-- the value of a number whose token is at an offset
abbrev pub whole_at : ℕ → Number → Result ℤ WktFault
whole_at at (Whole z) = Ok z
whole_at at Fraction = Err (faults.NotWhole at)
whole_at at OutOfRange = Err (faults.CoordRange at)

-- a number is the first of a point, or the second, which ends it
abbrev pub with_number : Reading → ℤ → Reading
with_number r z = by_state r.state where
  by_state : State → Reading
  by_state states.First = record r { first = z }
  by_state state = record r { points = r.points ++ record { x = r.first; y = z } ∷ [] }

-- a whole point and a comma, where a point must come
abbrev pub with_point : Reading → ℤ → ℤ → Reading
with_point r x y = record r { first = x; points = r.points ++ record { x = x; y = y } ∷ [] }

-- a closing bracket after a point ends its ring
abbrev pub with_close : Reading → Reading
with_close r = by_state r.state where
  by_state : State → Reading
  by_state states.PointEnd = record r { points = []; rings = r.rings ++ r.points ∷ [] }
  by_state state = r

-- what a symbol that can come there adds
abbrev pub with_symbol : Reading → ℕ → Symbol → Result Reading WktFault
with_symbol r at symbols.MultiPolygon = Ok (record r { several = true })
with_symbol r at (symbols.Number n) = whole_at at n >>= λ z. Ok (with_number r z)
with_symbol r at symbols.Close = Ok (with_close r)
with_symbol r at symbol = Ok r

-- the state after a token, or the fault that it cannot come there
abbrev pub state_after : Reading → code.Token → Result State WktFault
state_after r token = by_next (next_state r.state r.several token.symbol) where
  by_next : Option State → Result State WktFault
  by_next (Some state) = Ok state
  by_next None = Err (faults.Syntax token.at)

-- what one more token makes of it: that it cannot come there is found first, then what is wrong with it as a number
abbrev pub with_token : Reading → code.Token → Result Reading WktFault
with_token r token =
    state_after r token >>= λ state. with_symbol r token.at token.symbol >>= λ more. Ok (record more { state = state })

abbrev pub with_tokens : Reading → List code.Token → Result Reading WktFault
with_tokens r [] = Ok r
with_tokens r (token ∷ tokens) = with_token r token >>= λ more. with_tokens more tokens

-- before the first token
abbrev pub nothing_read : Reading
nothing_read = record { state = states.Start; several = false; first = pos 0; points = []; rings = [] }

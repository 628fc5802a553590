-- What may come next in a text, by what came last. Only private functions of the reader cite this: what a text is, the
-- grammar says alone.
use Rattle.std.specs.Prelude.{Bool, Option, Some, None, if◌then◌else◌}
use Rattle.wkt_form.specs.declared.state.State.{State}
use Rattle.wkt_form.specs.declared.state.State.TheVariants as states
use Rattle.wkt_form.specs.declared.token.Symbol.{Symbol}
use Rattle.wkt_form.specs.declared.token.Symbol.TheVariants as symbols

-- after a polygon: of several more may come
abbrev pub after_polygon : Bool → State
after_polygon several = if several then states.PolygonEnd else states.End

-- where a reader is after a symbol, if that can come there
abbrev pub next_state : State → Bool → Symbol → Option State
next_state states.Start several symbols.Polygon = Some states.Polygon
next_state states.Start several symbols.MultiPolygon = Some states.Members
next_state states.Members several symbols.Empty = Some states.End
next_state states.Members several symbols.Open = Some states.Polygon
next_state states.Polygon several symbols.Empty = Some (after_polygon several)
next_state states.Polygon several symbols.Open = Some states.Ring
next_state states.Ring several symbols.Open = Some states.First
next_state states.First several (symbols.Number n) = Some states.Second
next_state states.Second several (symbols.Number n) = Some states.PointEnd
next_state states.PointEnd several symbols.Comma = Some states.First
next_state states.PointEnd several symbols.Close = Some states.RingEnd
next_state states.RingEnd several symbols.Comma = Some states.Ring
next_state states.RingEnd several symbols.Close = Some (after_polygon several)
next_state states.PolygonEnd several symbols.Comma = Some states.Polygon
next_state states.PolygonEnd several symbols.Close = Some states.End
next_state state several symbol = None

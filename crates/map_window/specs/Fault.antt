-- Why a window is refused: the first reason that applies, and the numbers and texts.
use Rattle.std.specs.Prelude.{ℕ, ◌+◌, List, [], ◌∷◌, Option, Some, None, if◌then◌else◌}
use Rattle.std.specs.Option.{option_or, option_map}
use Rattle.fault_texts.specs.FaultTable.{text, filled}
use Rattle.overlay_terms.specs.Plane.{WholePoint}
use Rattle.plane_base.specs.BaseLayer.{first_ring_fault}
use Rattle.plane_base.specs.Fault as plane
use Rattle.plane_base.specs.declared.fault.PlaneFault.{PlaneFault}
use Rattle.plane_base.specs.declared.fault.PlaneFault.TheVariants as plane_faults
use Rattle.map_window.specs.Window.{Box}
use Rattle.map_window.specs.Drawn.{is_framed, lies_in_plane, are_short}
use Rattle.map_window.specs.declared.fault.WindowFault.{WindowFault}
use Rattle.map_window.specs.declared.fault.WindowFault.TheVariants.{CoreOffFrame, FrameOffPlane, StepTooLong}
use Rattle.map_window.specs.declared.fault.WindowFault.TheVariants.{Plane, OutOfMemory}

-- the first ring with a step that may meet the core and has an end off the frame; the first has the given index
abbrev pub first_long_ring : Box → Box → ℕ → List (List WholePoint) → Option WindowFault
first_long_ring core frame at [] = None
first_long_ring core frame at (ring ∷ rings) =
    if are_short core frame ring then first_long_ring core frame (at + 1) rings else Some (StepTooLong at)

-- why a window of a map is refused, before anything is drawn: the first reason that applies
abbrev pub window_fault : Box → Box → WholePoint → List (List WholePoint) → Option WindowFault
window_fault core frame o map =
    option_or (if is_framed core frame then None else Some CoreOffFrame)
    (option_or (if lies_in_plane frame o then None else Some FrameOffPlane)
    (option_or (option_map Plane (first_ring_fault 0 map)) (first_long_ring core frame 0 map)))

-- the fault as which a fault of the plane is reported
abbrev pub of_plane : PlaneFault → WindowFault
of_plane plane_faults.OutOfMemory = OutOfMemory
of_plane plane_faults.CoordRange = Plane plane_faults.CoordRange
of_plane (plane_faults.RingOpen ring) = Plane (plane_faults.RingOpen ring)
of_plane (plane_faults.RingShort ring) = Plane (plane_faults.RingShort ring)
of_plane plane_faults.TooManySegments = Plane plane_faults.TooManySegments

-- the number under which a fault is printed
abbrev pub code_of : WindowFault → ℕ
code_of CoreOffFrame = 24
code_of FrameOffPlane = 25
code_of (StepTooLong _) = 26
code_of (Plane fault) = plane.code_of fault
code_of OutOfMemory = 40

-- the text that is printed after the number
abbrev pub text_of : WindowFault → List ℕ
text_of (StepTooLong ring) = filled ring (text 26)
text_of (Plane fault) = plane.text_of fault
text_of fault = text (code_of fault)

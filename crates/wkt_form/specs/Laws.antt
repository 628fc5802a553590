-- What holds of all texts: each has one meaning or one fault, and what is written of a layer is read as it.
use Rattle.std.specs.Prelude.{◌≡◌, ◌⊎◌, ℕ, List, None}
use Rattle.std.specs.List.{All}
use Rattle.overlay_terms.specs.Plane.{WholePoint, InRange}
use Rattle.plane_base.specs.BaseLayer.{rings_fault}
use Rattle.wkt_form.specs.declared.fault.WktFault.{WktFault}
use Rattle.wkt_form.specs.Grammar.{ReadsAs, IsRefusedBy}
use Rattle.wkt_form.specs.Spelling.{wkt_text}

-- a text spells one layer
abbrev pub SpellsOneLayer : Type 0
SpellsOneLayer = (bytes : List ℕ) (x y : List (List WholePoint)) → ReadsAs bytes x → ReadsAs bytes y → x ≡ y

-- bytes have one first fault
abbrev pub HasOneFault : Type 0
HasOneFault = (bytes : List ℕ) (f g : WktFault) → IsRefusedBy bytes f → IsRefusedBy bytes g → f ≡ g

-- no bytes are both read and refused
abbrev pub NeverBoth : Type 0
NeverBoth =
    (bytes : List ℕ) (layer : List (List WholePoint)) (fault : WktFault) → ReadsAs bytes layer
    → ¬ (IsRefusedBy bytes fault)

-- all bytes are read or refused
abbrev pub ReadOrRefused : Type 0
ReadOrRefused =
    (bytes : List ℕ) → ((layer : List (List WholePoint)) × ReadsAs bytes layer)
    ⊎ ((fault : WktFault) × IsRefusedBy bytes fault)

-- both coordinates of each point of the rings are in range
abbrev pub AreInRange : List (List WholePoint) → Type 0
AreInRange layer = All (λ ring. All (λ (p : WholePoint). InRange p.x × InRange p.y) ring) layer

-- the text of a layer spells it
abbrev pub WrittenReadsBack : Type 0
WrittenReadsBack =
    (layer : List (List WholePoint)) → AreInRange layer → rings_fault layer ≡ None → ReadsAs (wkt_text layer) layer

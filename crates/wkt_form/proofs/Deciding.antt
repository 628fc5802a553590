-- Each text is read or refused.
use Rattle.std.specs.Prelude.{◌≡◌, ◌⊎◌, ℕ, List, length, Option, Some, None, Result, Ok, Err}
use Rattle.std.proofs.Common.{inl, inr, refl}
use Rattle.overlay_terms.specs.Plane.{WholePoint}
use Rattle.plane_base.specs.BaseLayer.{rings_fault}
use Rattle.plane_base.specs.declared.fault.PlaneFault.{PlaneFault}
use Rattle.wkt_form.specs.declared.fault.WktFault.{WktFault}
use Rattle.wkt_form.specs.declared.fault.WktFault.TheVariants as faults
use Rattle.wkt_form.specs.declared.state.State.{State}
use Rattle.wkt_form.specs.declared.state.State.TheVariants as states
use Rattle.wkt_form.specs.Fault.{of_rings}
use Rattle.wkt_form.specs.Grammar.{IsWktOf, ReadsAs, IsRefusedBy}
use Rattle.wkt_form.specs.Laws.{ReadOrRefused}
use Rattle.wkt_form.specs.Reading.{Reading, with_tokens, nothing_read}
use Rattle.wkt_form.specs.Seen.{seen_from}
use Rattle.wkt_form.proofs.FirstFault.{wkt_from_end, fault_from_unfinished, fault_from_stop}

-- read or refused
abbrev Decided : List ℕ → Type 0
Decided bytes = ((layer : List (List WholePoint)) × ReadsAs bytes layer) ⊎ ((fault : WktFault) × IsRefusedBy bytes fault)

-- whether a text may end in a state
at_end : (s : State) → (s ≡ states.End) ⊎ ¬ (s ≡ states.End)
at_end states.Start = inr (λ e. cc)
at_end states.Members = inr (λ e. cc)
at_end states.Polygon = inr (λ e. cc)
at_end states.Ring = inr (λ e. cc)
at_end states.First = inr (λ e. cc)
at_end states.Second = inr (λ e. cc)
at_end states.PointEnd = inr (λ e. cc)
at_end states.RingEnd = inr (λ e. cc)
at_end states.PolygonEnd = inr (λ e. cc)
at_end states.End = inl refl

-- a text of rings is decided by their first fault
by_rings : (bytes : List ℕ) (layer : List (List WholePoint)) (wrong : Option PlaneFault) → IsWktOf bytes layer → rings_fault layer ≡ wrong → Decided bytes
by_rings bytes layer None text e = inl (layer, (text, e))
by_rings bytes layer (Some wrong) text e = inr (of_rings wrong, inr (layer, wrong, text, e, refl))

by_state : (bytes : List ℕ) (r : Reading) → with_tokens nothing_read (seen_from 0 bytes) ≡ Ok r → (r.state ≡ states.End) ⊎ ¬ (r.state ≡ states.End) → Decided bytes
by_state bytes r e (inl end) = by_rings bytes r.rings (rings_fault r.rings) (wkt_from_end bytes r e end) refl
by_state bytes r e (inr unfinished) = inr (faults.Syntax (length bytes), inl (fault_from_unfinished bytes r e unfinished))

by_tokens : (bytes : List ℕ) (made : Result Reading WktFault) → with_tokens nothing_read (seen_from 0 bytes) ≡ made → Decided bytes
by_tokens bytes (Ok r) e = by_state bytes r e (at_end r.state)
by_tokens bytes (Err fault) e = inr (fault, inl (fault_from_stop bytes fault e))

pub read_or_refused : ReadOrRefused
read_or_refused bytes = by_tokens bytes (with_tokens nothing_read (seen_from 0 bytes)) refl

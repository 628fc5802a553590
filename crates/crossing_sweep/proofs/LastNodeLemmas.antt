-- The last node on a stretch stays, where the next node is not on it, and is the next node where it is.
use Rattle.std.proofs.Common.{◌≡◌, pos, ◌<ℤ◌, sym, ◌∙◌}
use Rattle.std.specs.Prelude.{IsTrue}
use Rattle.std.specs.declared.cmp.Ordering.TheVariants.{Less}
use Rattle.overlay_terms.specs.Plane.{Point, Segment, point_cmp, height_over, is_on}
use Rattle.overlay_terms.specs.Tiles.{is_node}
use Rattle.exact_point.proofs.OnLine.{on_line}
use Rattle.exact_point.proofs.PlaceOrder.{Way, before, at, after, way_of, less_through, not_before_self, not_after_less, on_same}
use Rattle.crossing_sweep.specs.StripInput.{StripInput, segments_in}
use Rattle.crossing_sweep.specs.NextNode.{IsNextNode}
use Rattle.crossing_sweep.specs.Kept.{IsLastOn}
use Rattle.crossing_sweep.specs.LastNode.{LastNodeStays, LastNodeIsNew}

module _ (input : StripInput) (u : Segment) (p q r : Point) (hq : pos 0 <ℤ q.w) (last_on : IsLastOn input u p q) (next : IsNextNode (segments_in input) q r) (off : height_over u r ≡ pos 0 → ⊥) where
  hp : pos 0 <ℤ p.w
  hp = last_on.nodal.small.positive

  hr : pos 0 <ℤ r.w
  hr = next.small.positive

  -- no node on the stretch after p is up to r
  none_up_to : (z : Point) → pos 0 <ℤ z.w → IsTrue (is_on u z) → IsTrue (is_node (segments_in input) z) → point_cmp p z ≡ Less → (point_cmp r z ≡ Less → ⊥) → ⊥
  none_up_to z hz on node after_p not_after = by (way_of q z hq hz)
    where
      not_later : (point_cmp q z ≡ Less → ⊥) → ⊥
      not_later h = last_on.last z hz on node after_p h

      by_next : point_cmp q z ≡ Less → Way z r → ⊥
      by_next h (before e) = next.clear z hz node h e
      by_next h (at e) = off (on_line u r (sym (on_same u z r hz hr e) ∙ on))
      by_next h (after e) = not_after e

      by : Way q z → ⊥
      by (before e) = by_next e (way_of z r hz hr)
      by (at e) = not_later (not_before_self q z hq hz e)
      by (after e) = not_later (λ h. not_after_less z q hz hq e h)

  stays : IsLastOn input u p r
  stays = record {
    nodal = last_on.nodal;
    on = last_on.on;
    node = last_on.node;
    within = last_on.within;
    from = λ h. last_on.from (less_through q r p hq hr hp next.after h);
    last = none_up_to;
  }

pub last_node_stays : LastNodeStays
last_node_stays input u p q r hq last_on next off = stays input u p q r hq last_on next off

pub last_node_is_new : LastNodeIsNew
last_node_is_new input u r nodal node within on = record {
  nodal = nodal;
  on = on;
  node = node;
  within = within;
  from = λ h. not_after_less r r nodal.small.positive nodal.small.positive h h;
  last = λ z hz on_z node_z after_r not_after. not_after after_r;
}

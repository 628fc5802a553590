-- Places with positive denominators in their order, forwards and backwards: among those of a list that pass a test, the last and the first.
use Rattle.std.specs.Prelude.{◌≡◌, ◌⊎◌, pos, ◌<ℤ◌, Bool, true}
use Rattle.std.proofs.Common.{inl, inr}
use Rattle.std.specs.declared.cmp.Ordering.TheVariants.{Less}
use Rattle.overlay_terms.specs.Plane.{Point, point_cmp}
use Rattle.exact_point.proofs.PlaceOrder.{Way, before, at, after, way_of, same_self, less_through, not_before_self, not_after_less}
use Rattle.tile_laws.proofs.NextNode.{IsOrdered}

-- the first comes before the second
abbrev pub Rises : Point → Point → Type 0
Rises a b = point_cmp a b ≡ Less

-- the first comes after the second
abbrev pub Falls : Point → Point → Type 0
Falls a b = point_cmp b a ≡ Less

-- it can be decided whether one of two places comes before the other
decided : (a b : Point) → pos 0 <ℤ a.w → pos 0 <ℤ b.w → Rises a b ⊎ (Rises a b → ⊥)
decided a b ha hb = by (way_of a b ha hb) where
  by : Way a b → Rises a b ⊎ (Rises a b → ⊥)
  by (before e) = inl e
  by (at e) = inr (not_before_self a b ha hb e)
  by (after e) = inr (not_after_less b a hb ha e)

module _ (good : Point → Bool) (positive : (c : Point) → good c ≡ true → pos 0 <ℤ c.w) where
  -- forwards
  pub rising : IsOrdered good Rises
  rising = record {
    through = λ a b c f g h. less_through a b c (positive a f) (positive b g) (positive c h);
    never = λ a f. not_before_self a a (positive a f) (positive a f) (same_self a);
    decided = λ a b f g. decided a b (positive a f) (positive b g);
  }

  -- backwards
  pub falling : IsOrdered good Falls
  falling = record {
    through = λ a b c f g h k l. less_through c b a (positive c h) (positive b g) (positive a f) l k;
    never = λ a f. not_before_self a a (positive a f) (positive a f) (same_self a);
    decided = λ a b f g. decided b a (positive b g) (positive a f);
  }

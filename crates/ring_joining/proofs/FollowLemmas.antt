-- A ring under way goes on by nexts.
use Rattle.std.proofs.Common.{◌≡◌, ◌⊎◌, ℕ, ◌+◌, ◌-◌, ◌<◌, List, [], ◌∷◌, ◌++◌, length, inl, inr, sym, ap, subst, ◌∙◌, arith}
use Rattle.ring_joining.specs.declared.piece.NumberedPiece.{NumberedPiece}
use Rattle.ring_joining.specs.Outline.{in_ring}
use Rattle.ring_joining.specs.Following.{next_of, Follows}
use Rattle.ring_joining.proofs.RingLemmas.{IsGoing, begins, longer, old_place, last_place, end_place, which}

-- pieces passed by nexts, and the one that comes next
pub record IsFollowing (nexts ring : List ℕ) (at : ℕ) : Type 0 where
  pub on : (k : ℕ) → k + 1 < length ring → in_ring ring (k + 1) ≡ next_of nexts (in_ring ring k)
  pub link : 0 < length ring → at ≡ next_of nexts (in_ring ring (length ring - 1))

on_by : (nexts ring : List ℕ) (at : ℕ) → IsFollowing nexts ring at → (k : ℕ) → (k + 1 < length ring) ⊎ (k + 1 ≡ length ring)
    → in_ring (ring ++ at ∷ []) (k + 1) ≡ next_of nexts (in_ring (ring ++ at ∷ []) k)
on_by nexts ring at h k (inl l) = rw (old_place ring at k (omega arith), old_place ring at (k + 1) l) (h.on k l)
on_by nexts ring at h k (inr e) =
    let is : k ≡ length ring - 1 = omega arith in
    rw (old_place ring at k (omega arith), last_place ring at (k + 1) (sym e))
    (subst (λ j. at ≡ next_of nexts (in_ring ring j)) (sym is) (h.link (omega arith)))

on_all : (nexts ring : List ℕ) (at : ℕ) → IsFollowing nexts ring at → (k : ℕ) → k + 1 < length (ring ++ at ∷ [])
    → in_ring (ring ++ at ∷ []) (k + 1) ≡ next_of nexts (in_ring (ring ++ at ∷ []) k)
on_all nexts ring at h k l = on_by nexts ring at h k (which k (length ring) (omega (arith, l, longer ring at)))

pub follow_starts : (nexts ring : List ℕ) (at : ℕ) → ring ≡ [] → IsFollowing nexts ring at
follow_starts nexts [] at e = record { on = λ k l. absurd (omega arith); link = λ l. absurd (omega arith) }
follow_starts nexts (i ∷ ring) at e = absurd (omega (arith, ap length e))

pub follow_goes : (nexts ring : List ℕ) (at next : ℕ) → IsFollowing nexts ring at → next ≡ next_of nexts at → IsFollowing nexts (ring ++ at ∷ []) next
follow_goes nexts ring at next h e =
    record { on = on_all nexts ring at h; link = λ _. e ∙ ap (next_of nexts) (sym (end_place ring at)) }

pub follow_closes : (pieces : List NumberedPiece) (nexts ring : List ℕ) (start at next : ℕ) → IsGoing pieces start at ring → IsFollowing nexts ring at → next ≡ next_of nexts at
    → next ≡ start → Follows nexts (ring ++ at ∷ [])
follow_closes pieces nexts ring start at next g h e close =
    record {
      on = on_all nexts ring at h;
      back = begins pieces start at ring g ∙ sym close ∙ e ∙ ap (next_of nexts) (sym (end_place ring at));
    }

use Rattle.std.proofs.Common.{◌≡◌, ℕ, ◌+◌, ◌-◌, ◌≤◌, List, [], ◌∷◌, ◌++◌, map, ap, sym, subst, ◌∙◌, append_assoc, append-nil, arith}
use Rattle.std.specs.List.{range_with_len}
use Rattle.std.proofs.lemmas.List.FromFn.{map-range_with_len_more}
use Rattle.exact_point.specs.declared.point.HPoint.{HPoint}
use Rattle.exact_point.specs.declared.point_name.PointName.{PointName}
use Rattle.exact_point.specs.declared.point_name.PointName.TheVariants.{Border}
use Rattle.crossing_sweep.specs.StripInput.{Span}
use Rattle.crossing_sweep.specs.declared.ranked_place.RankedPlace.{RankedPlace}
use Rattle.crossing_sweep.specs.Ahead.{AreOffered}
use Rattle.crossing_sweep.specs.RankedPlace.{ranked_entry}
use Rattle.crossing_sweep.proofs.PassedBorders.{passed_over}
use Rattle.crossing_sweep.proofs.known_places.offer_cuts.Goals as goal

pub loop-number-init : goal.loop-number-init
loop-number-init c =
    let strip : Span = c.args.strip in
    let a : ℕ = c.args.strip.first in
    let cut : ℕ → PointName = λ k. Border c.args.seg.now k in
    let found : List (HPoint × PointName) = map ranked_entry c.args.places.now.items in
    let passed : ℕ = c.min-from.result - c.args.strip.first in
    let all : 0 + passed ≡ c.min-from.result - c.args.strip.first = omega arith in
    record {
      offered = λ names h.
          subst (λ (n : ℕ). AreOffered strip (names ++ map cut (range_with_len a n)) found) all
          (passed_over strip names c.args.seg.now found a 0 (subst (λ (l : List PointName). AreOffered strip l found) (sym (append-nil names)) h) passed
          (λ k low high by. c.first_cut.ensures k (omega (arith, low, high)) by));
      from = omega arith;
      to = omega arith;
    }

pub loop-number-preserved : goal.loop-number-preserved
loop-number-preserved c =
    let strip : Span = c.args.strip in
    let cut : ℕ → PointName = λ k. Border c.args.seg.now k in
    let a : ℕ = c.args.strip.first in
    let k : ℕ = c.loop-number.number in
    let from : c.args.strip.first ≤ c.loop-number.number = c.loop-number.invariant.from in
    let new : List RankedPlace = c.offer_cut.new.places.items in
    let longer : c.loop-number.number + 1 - c.args.strip.first ≡ (c.loop-number.number - c.args.strip.first) + 1 = omega (arith, from) in
    let back : c.args.strip.first + (c.loop-number.number - c.args.strip.first) ≡ c.loop-number.number = omega (arith, from) in
    let more : map cut (range_with_len a (k + 1 - a)) ≡ map cut (range_with_len a (k - a)) ++ cut k ∷ [] =
    ap (λ n. map cut (range_with_len a n)) longer ∙ map-range_with_len_more cut a (k - a) k back in
    record {
      offered = λ names h.
          subst (λ (l : List PointName). AreOffered strip l (map ranked_entry new)) (append_assoc names (map cut (range_with_len a (k - a))) (cut k ∷ []) ∙ ap (λ (l : List PointName). names ++ l) (sym more))
          (c.in_ok-offer_cut.ensures (names ++ map cut (range_with_len a (k - a))) (c.loop-number.invariant.offered names h));
      from = omega arith;
      to = omega arith;
    }

pub returns : goal.returns
returns c =
    let strip : Span = c.args.strip in
    let a : ℕ = c.args.strip.first in
    let cut : ℕ → PointName = λ k. Border c.args.seg.now k in
    let found : List (HPoint × PointName) = map ranked_entry c.loop-number.places.items in
    let looked : ℕ = c.loop-number.number - c.args.strip.first in
    let rest : ℕ = c.args.strip.last + 2 - c.loop-number.number in
    let all : looked + rest ≡ c.args.strip.last + 2 - c.args.strip.first = omega arith in
    λ names h.
    subst (λ (n : ℕ). AreOffered strip (names ++ map cut (range_with_len a n)) found) all
    (passed_over strip names c.args.seg.now found a looked (c.loop-number.invariant.offered names h) rest
    (λ k low high by. c.cuts_end.ensures k (omega (arith, low, high)) by))

use Rattle.std.proofs.Common.{◌≡◌, ℕ, ◌+◌, ◌-◌, ◌<◌, List, [], ◌∷◌, length, get_or, ap, subst, ◌∙◌, refl, arith}
use Rattle.std.proofs.lemmas.List.{get_or-map, length-map}
use Rattle.overlay_terms.specs.Plane.{Point}
use Rattle.crossing_sweep.specs.Member.{seg_of, segs_of}
use Rattle.crossing_sweep.specs.Testing.{AreSeamsTested}
use Rattle.crossing_sweep.specs.declared.member.Member.{Member}
use Rattle.crossing_sweep.specs.declared.search.Search.{Search}
use Rattle.crossing_sweep.proofs.SeamLemmas.{one_seam}
use Rattle.crossing_sweep.proofs.search.Search.test_at.Goals as goal

pub returns : goal.returns
returns c = λ (r : Point).
    let ms : List Member = c.args.status.now in
    let j : ℕ = c.args.seam - 1 in
    let a : Member = c.index-status-seam.result in
    let b : Member = c.index-status-seam-2.result in
    let new : Search = record { ahead = c.test_pair.new.ahead; listed = c.list.new.self.listed; tests = c.list.new.self.tests } in
    let whole : j + 1 ≡ c.args.seam = omega (arith, c.if-seam-eq0.false) in
    let inside : j + 1 < length ms = omega (arith, c.if-seam-eq0.false, c.if-status-seam.false) in
    let inside_segs : j + 1 < length (segs_of ms) = omega (arith, length-map ms seg_of, inside) in
    let first : j < length ms = omega (arith, inside) in
    subst (λ k. AreSeamsTested c.args.strip r (segs_of ms) (k ∷ []) c.args.self.now new) whole
    (one_seam c.args.strip r (segs_of ms) j inside_segs (get_or ms j a).unit.seg (get_or ms c.args.seam b).unit.seg (λ d. get_or-map seg_of ms j a d first)
    (λ d. get_or-map seg_of ms (j + 1) b d inside ∙ ap (λ k. (get_or ms k b).unit.seg) whole) c.args.self.now c.list.new.self new c.list.ensures.ahead c.list.ensures.listed c.in_ok-list.ensures.told
    c.in_ok-list.ensures.untold refl refl (c.in_ok-test_pair.ensures r))

use Rattle.std.proofs.Common.{rules, List, ℕ, refl, ap, sym, ◌∙◌, subst}
use Rattle.extent_map.specs.Taken.{taken_of}
use Rattle.store_terms.specs.StandsFor.{body_at}
use Rattle.store_terms.specs.declared.root.Root.{Root}
use Rattle.commit_plan.specs.ImageHeld.{image_held}
use Rattle.commit_plan.specs.Next.{IsLaidOut}
use Rattle.commit_plan.specs.Fitting.{HasNoRoom}
use Rattle.commit_plan.specs.Kept.{other}
use Rattle.commit_plan.specs.Live.{live_content}
use Rattle.commit_plan.specs.Sizes.{sizes_of}
use Rattle.commit_plan.specs.declared.write.Write.{Write}
use Rattle.root_store.specs.Beginning.{IsReason}
use Rattle.commit_plan.specs.declared.next.Next.{Next}
use Rattle.root_store.proofs.Reasons.{refused_so, passed_on, no_room_or_memory}
use Rattle.root_store.specs.Content.{content_of}
use Rattle.root_store.proofs.Known.{stands_known, leads_to, put_back}
use Rattle.root_store.proofs.commit.Commit.begin_known.Goals as goal

pub returns-in-Some-clause-errors : goal.returns-in-Some-clause-errors
returns-in-Some-clause-errors g c =
    let s = c.args.self.now in
    refused_so s.phase s.root (HasNoRoom s.live c.args.image) c.in-Some.fault c.in-Some.ensures.reason

pub returns-in_err-next-clause-errors : goal.returns-in_err-next-clause-errors
returns-in_err-next-clause-errors g c =
    let s = c.args.self.now in
    let x = c.in_err-next.field-0.0 in
    let no_room = HasNoRoom s.live c.args.image in
    passed_on (IsReason s.phase s.root no_room) c.from_residual.result x c.from_residual.ensures.1
    (no_room_or_memory Next s.phase s.root no_room x c.in_err-next.ensures.err c.in_err-next.ensures.full)

pub returns-clause-blocks : goal.returns-clause-blocks
returns-clause-blocks g c limit keeps = c.start.ensures.blocks limit keeps.0 (c.in_ok-next.ensures.blocks ∙ keeps.0)

-- found by search alone: it is here so that a wrong body is refused without working out what to write
pub returns-clause-begun : goal.returns-clause-begun
returns-clause-begun g c = search rules

pub returns-clause-laid : goal.returns-clause-laid
returns-clause-laid g c =
    let s = c.args.self.now in
    let laid = IsLaidOut (live_content s.live) (taken_of s.live.room.map) s.live.room.max_blocks (image_held c.args.image) (sizes_of (live_content s.live) c.args.image) in
    let other_one = body_at (other s.root) in
    let next = c.in_ok-next.next in
    let there = subst (λ (at : ℕ). laid at next.root next.plan.items) c.other_body-body.ensures c.in_ok-next.ensures.laid in
    let after = subst (λ (plan : List Write). laid other_one next.root plan) (sym {A = List Write} c.start.ensures.plan) there in
    subst (λ (r : Root). laid other_one r c.start.new.self.plan.items) (sym c.start.ensures.root) after

pub returns-clause-leads : goal.returns-clause-leads
returns-clause-leads g c honest =
    let s = c.args.self.now in
    let held = image_held c.args.image in
    let stands = stands_known g.D.Disk s honest (search rules) in
    let run = c.start.ensures.begun (content_of s.root s.live) held stands (search rules)
    (c.in_ok-next.ensures.ok (content_of s.root s.live) refl c.other_body-body.ensures refl stands.room) in
    leads_to g.D.Disk s c.start.new.self held run (sym c.in_ok-next.ensures.number ∙ ap (λ (r : Root). r.version) (sym c.start.ensures.root))

pub returns-in_err-next-clause-err : goal.returns-in_err-next-clause-err
returns-in_err-next-clause-err g c = put_back g.D.Disk c.from_residual.result c.args.self.now _

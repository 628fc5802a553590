use Rattle.std.proofs.Common.{ap, ◌∙◌, sym, subst}
use Rattle.std.proofs.lemmas.Grind.{merely}
use Rattle.store_terms.specs.Image.{Held}
use Rattle.commit_plan.specs.Kept.{Kept}
use Rattle.root_store.specs.declared.phase.Phase.TheVariants as phases
use Rattle.root_store.specs.Content.{content_of, IsUnderWay}
use Rattle.root_store.proofs.Known.{stands_known, content_is}
use Rattle.root_store.proofs.Steps.{calm_rest}
use Rattle.root_store.proofs.commit.Commit.start.Goals as goal

pub returns-clause-begun : goal.returns-clause-begun
returns-clause-begun g c x held stands below next = (
  next.kept,
  next.holds,
  record {
    honest = stands.honest;
    root = stands.root;
    next_root = next.root;
    next_holds = next.content;
    next_room = next.room;
    before = (
      (λ f left. calm_rest x f below (stands.leaves f left)),
      (λ file shut. next.plans.leads file shut),
      next.plans.spares,
    );
  },
)

pub returns-clause-blocks : goal.returns-clause-blocks
returns-clause-blocks g c limit room next = (room, next)

pub invariant_of-self-2 : goal.invariant_of-self-2
invariant_of-self-2 g c = record {
  keeps = λ honest.
      let k = g.D.Disk in
      let s = c.args.self.now in
      let n = c.args.next in
      let x = content_of s.root s.live in
      let stands = stands_known k s honest c.requires.idle in
      let follows = c.requires.follows x stands in
      let next = follows.1 in
      let runs : IsUnderWay k s.disk phases.Close s.root n.root n.live n.plan.items x next.kept = record {
        honest = honest;
        root = stands.root;
        next_root = next.root;
        next_holds = next.content;
        next_room = next.room;
        before = (
          (λ f left. calm_rest x f c.requires.below (stands.leaves f left)),
          (λ file shut. next.plans.leads file shut),
          next.plans.spares,
        );
      } in
      let is = content_is n.root n.live next.kept next.root next.content (ap (λ (h : Held). h.number) next.holds ∙ follows.2) in
      merely (subst (λ (y : Kept). IsUnderWay k s.disk phases.Close s.root n.root n.live n.plan.items x y) (sym is) runs);
}

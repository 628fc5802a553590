use Rattle.std.proofs.Common.{◌++◌, [], cond, flat_map, length, take, ap, sym, ◌∙◌, append-nil, arith}
use Rattle.layer_book.specs.Layer.{named_layer}
use Rattle.layer_book.proofs.Lines.{none_there}
use Rattle.versions.specs.Pending.{pending_of, pending_of_layer}
use Rattle.versions.proofs.PendingLemmas.{layers_more}
use Rattle.versions.proofs.version.Version.pending.Goals as goal
use Rattle.versions.proofs.version.Version.pending.Goals.{in-Some+then-is_derived+in_ok-add_pending-in-Some, in-Some+else-is_derived, in-None}

pub loop-place-preserved : goal.loop-place-preserved
loop-place-preserved c =
    let version = c.args.self.now in
    let layers = version.layers in
    let i = c.loop-place.place in
    let before = flat_map (pending_of_layer version) (take i layers) in
    elim c.match-at.branch [
      | in-Some+then-is_derived+in_ok-add_pending-in-Some w ↦
          let layer = named_layer (w.in-Some.name.now, w.in-Some.layer.now) in
          ap (λ v. v.items) w.list-is ∙ w.in_ok-add_pending-in-Some.ensures ∙ ap (λ ps. ps ++ pending_of version layer.name) c.loop-place.invariant
          ∙ ap (λ b. before ++ cond b (pending_of version layer.name) []) (sym (sym w.is_derived.ensures ∙ w.if-is_derived.true)) ∙ sym (layers_more version layers i layer (sym w.in-Some.ensures.layer))
      | in-Some+else-is_derived w ↦
          let layer = named_layer (w.in-Some.name.now, w.in-Some.layer.now) in
          ap (λ v. v.items) w.list-is ∙ c.loop-place.invariant ∙ sym (append-nil before)
          ∙ ap (λ b. before ++ cond b (pending_of version layer.name) []) (sym (sym w.is_derived.ensures ∙ w.if-is_derived.false)) ∙ sym (layers_more version layers i layer (sym w.in-Some.ensures.layer))
      | in-None w ↦ absurd (none_there layers i (omega (arith, ap length c.layers.ensures.value, c.len-place-end.ensures.value)) w.in-None.ensures.layer)
    ]

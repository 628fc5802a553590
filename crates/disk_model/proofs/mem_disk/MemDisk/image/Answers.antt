use Rattle.std.proofs.Common.{◌≡◌, take, subst}
use Rattle.disk_model.specs.MemDisk.{calls_of, first_of}
use Rattle.disk_model.specs.Image.{IsChosen}
use Rattle.disk_model.specs.Replay.{State, start, replay}
use Rattle.disk_model.proofs.PlayedLemmas.{image_may_stay, new_left}
use Rattle.disk_model.proofs.mem_disk.MemDisk.image.Goals as goal

pub returns-clause-left : goal.returns-clause-left
returns-clause-left c =
    let first = first_of c.args.self.now in
    let calls = take c.args.k (calls_of c.args.self.now) in
    let bytes = c.in_ok-bytes.bytes.items in
    let same : replay (start c.as_slice.result.now) c.first_calls-calls.result.now ≡ replay (start first) calls = λ i. replay (start (c.as_slice.ensures.value i)) (c.first_calls-calls.ensures i) in
    let is : IsChosen (replay (start first) calls) c.args.choice bytes = subst (λ (s : State). IsChosen s c.args.choice bytes) same c.in_ok-bytes.ensures in
    new_left c.new.result (replay (start first) calls) bytes c.new.ensures.bytes (image_may_stay first calls c.args.choice bytes is)

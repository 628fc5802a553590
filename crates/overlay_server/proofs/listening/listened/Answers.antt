use Rattle.std.proofs.Common.{ℕ, List, [], Option, Some, ap, arith, ◌∙◌}
use Rattle.std.specs.Vec.{vec_len, vec_capacity}
use Rattle.script_form.specs.Lines.{script_max}
use Rattle.session_threads.specs.Fuse.{until_end}
use Rattle.session_threads.proofs.Lists.{one_less, one_longer, one_on, room_left}
use Rattle.overlay_server.specs.Given.{bytes_of, given_at, given_from}
use Rattle.overlay_server.proofs.Lists.{pushed}
use Rattle.overlay_server.proofs.listening.listened.Goals as goal

pub push_reserved-requires : goal.push_reserved-requires
push_reserved-requires g c =
    let at = c.loop-reader in
    room_left _ at.yielded _ _ c.in-Some.reader (vec_len at.ports) (vec_capacity at.ports) at.invariant.all c.in-Some.ensures.steps.0
    at.invariant.grown at.invariant.room

pub loop-reader-preserved : goal.loop-reader-preserved
unfolding script_max
loop-reader-preserved g c =
    let at = c.loop-reader in
    let reader = c.in-Some.reader in
    record {
      all = one_on _ at.yielded _ _ reader at.invariant.all c.in-Some.ensures.steps.0;
      left = one_less _ _ reader _ _ c.in-Some.ensures.steps.0 c.in-Some.ensures.steps.1 at.invariant.left;
      grown = one_longer at.yielded reader _ _ c.push_reserved.ensures.len at.invariant.grown;
      room = omega (arith, at.invariant.room, c.push_reserved.ensures.capacity);
      given =
          pushed (given_at (until_end g.R.Read.remaining) bytes_of) (given_from g.R.Read.remaining) at.ports.items _ _ at.yielded reader c.push_reserved.ensures.items at.invariant.given
          (ap (λ (bytes : List ℕ). record { most = script_max; script = until_end g.R.Read.remaining c.new.result; held = Some bytes }) c.new-writer.ensures.items
          ∙ ap (λ (script : Option (List ℕ)). record { most = script_max; script = script; held = Some [] }) (c.new.ensures g.R.Read.remaining));
    }

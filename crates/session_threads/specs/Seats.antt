-- Who runs which script, and what a session leaves.
use Rattle.std.specs.Prelude.{◌≡◌, List, map}
use Rattle.std.specs.List.{AllZip}
use Rattle.book_history.specs.Known.{Known}
use Rattle.session_threads.specs.declared.running.Script.{Script}
use Rattle.session_threads.specs.declared.running.Ended.{Ended}
use Rattle.session_threads.specs.declared.port.Finished.{Finished}
use Rattle.session_threads.specs.declared.port.Port.{Port}

module _ {R W : Type 0} where
  abbrev pub session_of : Script R W → Known
  session_of script = script.session

  abbrev pub port_of : Script R W → Port R W
  port_of script = script.port

  -- what a session that has ended leaves: itself, its writer, and how it ended
  abbrev pub ended_session : Ended R W → Known
  ended_session ended = ended.session

  abbrev pub finished_of : Ended R W → Finished W
  finished_of ended = record { writer = ended.port.writer; end = ended.end }

-- something has ended for each of a list, as is said of both, and left these sessions and what they finished
pub record Leave {X R W : Type 0} (so : X → Ended R W → Type 0) (xs : List X) (sessions : List Known)
    (finished : List (Finished W)) : Type 0 where
  pub ended : List (Ended R W)
  pub each : AllZip so xs ended
  pub sessions_are : sessions ≡ map ended_session ended
  pub finished_are : finished ≡ map finished_of ended

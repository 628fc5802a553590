-- Lists that were reserved before the first thread of a server starts.
use Rattle.std.specs.Prelude.{◌≡◌, ◌≤◌, ℕ, []}
use Rattle.std.specs.declared.vec.Vec.{Vec}
use Rattle.std.specs.Vec.{vec_len, vec_capacity}
use Rattle.session_threads.specs.declared.running.Seats.{Seats}

-- a list is empty, and has room for so many
pub record IsReserved {X Z : Type 0} (list : Vec X Z) (count : ℕ) : Type 0 where
  pub empty : list.items ≡ []
  pub none : vec_len list ≡ 0
  pub room : count ≤ vec_capacity list

-- for the threads of so many sessions, and for what they leave
pub record HasRoom {J R W : Type 0} (seats : Seats J R W) (count : ℕ) : Type 0 where
  pub running : IsReserved seats.running count
  pub sessions : IsReserved seats.sessions count
  pub finished : IsReserved seats.finished count

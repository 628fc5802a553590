-- The laws of a disk hold of a disk in memory.
use Rattle.std.specs.Prelude.{◌≡◌, ℕ, ◌≤◌, List, [], ◌∷◌, length, refl}
use Rattle.std.proofs.Common.{sym, subst, arith, ⊎_elim, ◌∙◌}
use Rattle.std.proofs.lemmas.List.{take_all}
use Rattle.disk_model.specs.declared.mem_disk.Call.{Call}
use Rattle.disk_model.specs.declared.mem_disk.Call.TheVariants.{Length, Read, Write, Sync}
use Rattle.disk_model.specs.Bytes.{over_torn}
use Rattle.disk_model.specs.Replay.{State, start, after, replay, MayLeave, LeftSince}

pub now_is_since : (file : List ℕ) (calls : List Call) (t : ℕ) (c : List ℕ) → t ≤ length calls
    → MayLeave (replay (start file) calls) c → LeftSince file calls t c
now_is_since file calls t c le left =
    (length calls, le, omega arith, subst (λ (cs : List Call). MayLeave (replay (start file) cs) c) (sym (take_all (length calls) calls (omega arith))) left)

pub since_now : (file : List ℕ) (calls : List Call) (c : List ℕ) → LeftSince file calls (length calls) c
    → MayLeave (replay (start file) calls) c
since_now file calls c left =
    let le : length calls ≤ left.0 = left.1 in
    subst (λ (cs : List Call). MayLeave (replay (start file) cs) c) (take_all left.0 calls le) left.3

-- what a read gives may stay, after each call
pub stays_after : (call : Call) (s : State) → MayLeave s s.seen → MayLeave (after call s) (after call s).seen
stays_after Length s left = left
stays_after (Read at n) s left = left
stays_after (Write at bytes) s left =
    let torn = over_torn s.seen at bytes.items in
    record {
      no_shorter = omega (arith, left.no_shorter, torn.no_shorter);
      no_longer = omega arith;
      stays = λ i h out. ⊎_elim (λ b. torn.below i (omega (arith, left.no_shorter)) b) (λ a. torn.above i (omega (arith, left.no_shorter)) a) out.0 ∙ left.stays i h out.1;
    }
stays_after Sync s left = record { no_shorter = omega arith; no_longer = omega arith; stays = λ i h out. refl }

pub stays_replayed : (calls : List Call) (s : State) → MayLeave s s.seen
    → MayLeave (replay s calls) (replay s calls).seen
stays_replayed [] s left = left
stays_replayed (call ∷ calls) s left = stays_replayed calls (after call s) (stays_after call s left)

pub seen_stays : (file : List ℕ) (calls : List Call) (bytes : List ℕ) → bytes ≡ (replay (start file) calls).seen
    → MayLeave (replay (start file) calls) bytes
seen_stays file calls bytes is =
    subst (λ (c : List ℕ). MayLeave (replay (start file) calls) c) (sym is) (stays_replayed calls (start file) (record { no_shorter = omega arith; no_longer = omega arith; stays = λ i h out. refl }))

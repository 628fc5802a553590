-- Calls played again leave what a crash may leave.
use Rattle.std.proofs.Common.{◌≡◌, ◌⊎◌, ⊎_elim, ℕ, ◌+◌, ◌-◌, ◌<◌, ◌≤◌, List, [], ◌∷◌, ◌++◌, length, take, get_or, replicate, Vec, refl, sym, ◌∙◌, ap, subst, arith, Result, Ok, Err}
use Rattle.std.specs.Prelude.{IfOk}
use Rattle.std.specs.declared.alloc.Global.{Global}
use Rattle.std.proofs.lemmas.Bool.{cases_lt}
use Rattle.std.proofs.lemmas.List.{get_or-replicate, length-replicate}
use Rattle.disk_model.specs.declared.image.Choice.{Choice}
use Rattle.disk_model.specs.declared.image.Choice.TheVariants.{Old, New, Fill}
use Rattle.disk_model.specs.declared.image.Faces.{Faces}
use Rattle.disk_model.specs.declared.mem_disk.Call.{Call}
use Rattle.disk_model.specs.declared.mem_disk.Call.TheVariants.{Write}
use Rattle.disk_model.specs.Bytes.{length-over, over_torn, over_within, over_gap}
use Rattle.disk_model.specs.Image.{IsWithin, IsFilled, IsChosen}
use Rattle.disk_model.specs.declared.mem_disk.MemDisk.{MemDisk}
use Rattle.disk_model.specs.MemDisk.{bytes_of}
use Rattle.disk_model.specs.MemoryLaws.{stays_replayed}
use Rattle.disk_model.specs.Played.{Plays}
use Rattle.disk_model.specs.Replay.{State, start, after, replay, over, IsOutside, MayLeave}
use Rattle.disk_model.proofs.Calls.{replay_push}

-- where nothing was written, what is seen is filled
unwritten : (byte : ℕ) (s : State) (c : List ℕ) → s.ranges ≡ [] → c ≡ s.seen → IsFilled byte s c
unwritten byte s c none is = record {
  size = ap length is;
  written = λ i w. absurd (subst (λ (rs : List (ℕ × ℕ)). IsWithin rs i) none w);
  others = λ i h out. ap (λ (l : List ℕ). get_or l i 0) is;
}

-- a filled file with a filled range written over it
module _ (byte : ℕ) (s : State) (at : ℕ) (bytes : Vec ℕ Global) (c more : List ℕ) (many : length more ≡ length bytes.items) (each : (j : ℕ) → j < length bytes.items → get_or more j 0 ≡ byte)
    (filled : IsFilled byte s c) (within : (i : ℕ) → IsWithin s.ranges i → i < length s.seen) where
  in_range : (i : ℕ) → at ≤ i → i < at + length bytes.items → get_or (over c at more) i 0 ≡ byte
  in_range i from below =
      let there : at + (i - at) ≡ i = omega arith in
      subst (λ (k : ℕ). get_or (over c at more) k 0 ≡ byte) there
      (over_within c at more (i - at) (omega (arith, many)) ∙ each (i - at) (omega arith))

  before : (i : ℕ) → IsWithin s.ranges i → get_or (over c at more) i 0 ≡ byte
  before i there =
      let h : i < length s.seen = within i there in
      let size = filled.size in
      let torn = over_torn c at more in
      ⊎_elim
      (λ below. torn.below i (omega (arith, h, size)) below ∙ filled.written i there)
      (λ from. ⊎_elim
      (λ inside. in_range i from inside)
      (λ above. torn.above i (omega (arith, h, size)) (omega (arith, above, many)) ∙ filled.written i there)
      (cases_lt i (at + length bytes.items)))
      (cases_lt i at)

  old_byte : (i : ℕ) → i < length s.seen → ((i < at) ⊎ (at + length bytes.items ≤ i)) → IsOutside s.ranges i → get_or (over c at more) i 0 ≡ get_or (over s.seen at bytes.items) i 0
  old_byte i h side out =
      let size = filled.size in
      let torn_c = over_torn c at more in
      let torn_s = over_torn s.seen at bytes.items in
      ⊎_elim
      (λ below. torn_c.below i (omega (arith, h, size)) below ∙ filled.others i h out ∙ sym (torn_s.below i h below))
      (λ above. torn_c.above i (omega (arith, h, size)) (omega (arith, above, many)) ∙ filled.others i h out ∙ sym (torn_s.above i h above))
      side

  gap_byte : (i : ℕ) → length s.seen ≤ i → i < length (over s.seen at bytes.items) → ((i < at) ⊎ (at + length bytes.items ≤ i)) → get_or (over c at more) i 0 ≡ get_or (over s.seen at bytes.items) i 0
  gap_byte i past h side =
      let size = filled.size in
      let long = length-over s.seen at bytes.items in
      ⊎_elim
      (λ below. over_gap c at more i (omega (arith, past, size)) below ∙ sym (over_gap s.seen at bytes.items i past below))
      (λ above. absurd (omega (arith, h, long, above, past)))
      side

  pub filled_write : IsFilled byte (after (Write at bytes) s) (over c at more)
  filled_write = record {
    size = omega (arith, length-over c at more, length-over s.seen at bytes.items, many, filled.size);
    written = λ i w. ⊎_elim (λ here. in_range i here.0 here.1) (λ there. before i there) w;
    others = λ i h out. ⊎_elim (λ seen. old_byte i seen out.0 out.1) (λ past. gap_byte i past h out.0) (cases_lt i (length s.seen));
  }

  pub within_write : (i : ℕ) → IsWithin ((at, length bytes.items) ∷ s.ranges) i → i < length (over s.seen at bytes.items)
  within_write i w = ⊎_elim
      (λ here. omega (arith, length-over s.seen at bytes.items, here.1))
      (λ there. omega (arith, length-over s.seen at bytes.items, within i there))
      w

pub plays_write : (byte : ℕ) (s : State) (at : ℕ) (bytes : Vec ℕ Global) (more : List ℕ) (old new : Faces) → Plays s byte old → more ≡ replicate (length bytes.items) byte
    → new.synced.items ≡ old.synced.items → new.seen.items ≡ over old.seen.items at bytes.items → new.filled.items ≡ over old.filled.items at more → Plays (after (Write at bytes) s) byte new
plays_write byte s at bytes more old new plays is synced seen filled =
    let many : length more ≡ length bytes.items = ap length is ∙ length-replicate (length bytes.items) byte in
    record {
      synced = synced ∙ plays.synced;
      seen = seen ∙ ap (λ (l : List ℕ). over l at bytes.items) plays.seen;
      filled = subst (λ (l : List ℕ). IsFilled byte (after (Write at bytes) s) l) (sym filled)
          (filled_write byte s at bytes old.filled.items more many (λ j h. ap (λ (l : List ℕ). get_or l j 0) is ∙ get_or-replicate (length bytes.items) j byte 0 h) plays.filled plays.within);
      within = within_write byte s at bytes old.filled.items more many (λ j h. ap (λ (l : List ℕ). get_or l j 0) is ∙ get_or-replicate (length bytes.items) j byte 0 h) plays.filled plays.within;
    }

-- the record up to one call more
pub plays_more : (byte : ℕ) (file : List ℕ) (calls : List Call) (i : ℕ) (call : Call) (faces : Faces) → take (i + 1) calls ≡ take i calls ++ call ∷ []
    → Plays (after call (replay (start file) (take i calls))) byte faces → Plays (replay (start file) (take (i + 1) calls)) byte faces
plays_more byte file calls i call faces is plays =
    subst (λ (s : State). Plays s byte faces) (sym (ap (replay (start file)) is ∙ replay_push (start file) (take i calls) call)) plays

-- each image is one of what a crash may leave
image_stays : (s : State) (choice : Choice) (c : List ℕ) → MayLeave s s.seen → IsChosen s choice c → MayLeave s c
image_stays s Old c sound is = record {
  no_shorter = omega (arith, ap length is);
  no_longer = omega (arith, ap length is, sound.no_shorter);
  stays = λ i h out. ap (λ (l : List ℕ). get_or l i 0) is;
}
image_stays s New c sound is = subst (MayLeave s) (sym is) sound
image_stays s (Fill byte) c sound is = record {
  no_shorter = omega (arith, is.size, sound.no_shorter);
  no_longer = omega (arith, is.size);
  stays = λ i h out. is.others i (omega (arith, h, sound.no_shorter)) out ∙ sound.stays i h out;
}

pub image_may_stay : (file : List ℕ) (calls : List Call) (choice : Choice) (c : List ℕ) → IsChosen (replay (start file) calls) choice c → MayLeave (replay (start file) calls) c
image_may_stay file calls choice c is =
    image_stays (replay (start file) calls) choice c
    (stays_replayed calls (start file) (record { no_shorter = omega arith; no_longer = omega arith; stays = λ i h out. refl })) is

-- a disk made of bytes that may be left
pub new_left : {E : Type 0} (result : Result MemDisk E) (s : State) (bytes : List ℕ) → IfOk result (λ disk. bytes_of disk ≡ bytes) → MayLeave s bytes → IfOk result (λ disk. MayLeave s (bytes_of disk))
new_left (Ok disk) s bytes is left = subst (MayLeave s) (sym is) left
new_left (Err e) s bytes is left = is

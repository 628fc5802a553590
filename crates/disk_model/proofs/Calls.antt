-- What one more call makes of what a crash may leave.
use Rattle.std.proofs.Common.{◌≡◌, ◌⊎◌, inl, inr, ⊎_elim, ℕ, ◌+◌, ◌<◌, ◌≤◌, List, [], ◌∷◌, ◌++◌, length, take, get_or, min, max, map, cond, ◌&&◌, nat_le, nat_lt, Vec, refl, sym, ◌∙◌, ap, subst, arith, length-append, Result, Ok, Err}
use Rattle.std.specs.Prelude.{OnOk, OnErr}
use Rattle.std.proofs.lemmas.List.{take_all, take-append-le, ext_get_or}
use Rattle.std.proofs.lemmas.Bool.Decides.{nat_tests}
use Rattle.std.proofs.lemmas.List.FromFn.{length-map-range_with_len, get_or-map-range_with_len}
use Rattle.std.specs.List.{range_with_len}
use Rattle.std.specs.declared.alloc.Global.{Global}
use Rattle.disk_model.specs.declared.mem_disk.Call.{Call}
use Rattle.disk_model.specs.declared.mem_disk.Call.TheVariants.{Write, Sync}
use Rattle.disk_model.specs.Bytes.{length-over}
use Rattle.disk_model.specs.Disk.{Torn, OneStepOn, Fewer, Only, Elapses}
use Rattle.disk_model.specs.MemoryLaws.{stays_replayed}
use Rattle.disk_model.specs.Replay.{State, start, after, replay, over, MayLeave, LeftSince}

pub replay_push : (s : State) (calls : List Call) (call : Call) → replay s (calls ++ call ∷ []) ≡ after call (replay s calls)
replay_push s [] call = refl
replay_push s (first ∷ calls) call = replay_push (after first s) calls call

abbrev At : List ℕ → List Call → State
At file calls = replay (start file) calls

sound : (file : List ℕ) (calls : List Call) → MayLeave (At file calls) (At file calls).seen
sound file calls = stays_replayed calls (start file) (record { no_shorter = omega arith; no_longer = omega arith; stays = λ i h out. refl })

pub seen_after : (file : List ℕ) (calls next : List Call) (call : Call) → next ≡ calls ++ call ∷ [] → (At file next).seen ≡ (after call (At file calls)).seen
seen_after file calls next call is = ap (λ (cs : List Call). (At file cs).seen) is ∙ ap (λ (s : State). s.seen) (replay_push (start file) calls call)

pub left_after : (file : List ℕ) (calls next : List Call) (call : Call) (c : List ℕ) → next ≡ calls ++ call ∷ [] → MayLeave (At file next) c → MayLeave (after call (At file calls)) c
left_after file calls next call c is left =
    subst (λ (s : State). MayLeave s c) (ap (λ (cs : List Call). At file cs) is ∙ replay_push (start file) calls call) left

-- nothing was noted
pub same_crash : (file : List ℕ) (calls next : List Call) → next ≡ calls → Fewer (MayLeave (At file calls)) (MayLeave (At file next))
same_crash file calls next is c left = subst (λ (cs : List Call). MayLeave (At file cs) c) is left

pub same_time : (file : List ℕ) (calls next : List Call) → next ≡ calls → Elapses (length calls) (length next) (LeftSince file calls) (LeftSince file next) (MayLeave (At file next))
same_time file calls next is = record {
  later = omega (arith, ap length is);
  nothing_else = λ t c le left. inl (subst (λ (cs : List Call). LeftSince file cs t c) is left);
  keeps = λ t c le left. subst (λ (cs : List Call). LeftSince file cs t c) (sym is) left;
}

pub push_time : (file : List ℕ) (calls next : List Call) (call : Call) → next ≡ calls ++ call ∷ [] → Elapses (length calls) (length next) (LeftSince file calls) (LeftSince file next) (MayLeave (At file next))
push_time file calls next call is =
    let size : length next ≡ length calls + 1 = ap length is ∙ omega (arith, length-append calls (call ∷ [])) in
    record {
      later = omega (arith, size);
      nothing_else = λ t c le left. later t c left size;
      keeps = λ t c le left. (
        left.0,
        left.1,
        omega (arith, left.2, size),
        subst (λ (cs : List Call). MayLeave (At file cs) c) (sym (ap (λ (cs : List Call). take left.0 cs) is ∙ take-append-le left.0 calls (call ∷ []) left.2)) left.3,
      );
    }
  where
    split : (k : ℕ) → k ≤ length calls + 1 → (k ≤ length calls) ⊎ (k ≡ length calls + 1)
    split k le = search arith

    later : (t : ℕ) (c : List ℕ) → LeftSince file next t c → length next ≡ length calls + 1 → LeftSince file calls t c ⊎ MayLeave (At file next) c
    later t c left size = ⊎_elim
        (λ le. inl (left.0, left.1, le, subst (λ (cs : List Call). MayLeave (At file cs) c) (ap (λ (cs : List Call). take left.0 cs) is ∙ take-append-le left.0 calls (call ∷ []) le) left.3))
        (λ e. inr (subst (λ (cs : List Call). MayLeave (At file cs) c) (take_all left.0 next (omega (arith, size, e))) left.3))
        (split left.0 (omega (arith, left.2, size)))

-- a call that changes no byte
pub look_crash : (file : List ℕ) (calls next : List Call) (call : Call) → after call (At file calls) ≡ At file calls → next ≡ calls ++ call ∷ [] → Fewer (MayLeave (At file calls)) (MayLeave (At file next))
look_crash file calls next call looks is c left = subst (λ (s : State). MayLeave s c) looks (left_after file calls next call c is left)

-- after a sync there is nothing but what is seen
only_synced : (s : State) (c : List ℕ) → MayLeave (after Sync s) c → c ≡ s.seen
only_synced s c left = ext_get_or 0 c s.seen (omega (arith, left.no_shorter, left.no_longer)) (λ i h. left.stays i (omega (arith, left.no_longer)) tt)

pub sync_only : (file : List ℕ) (calls next : List Call) (bytes : List ℕ) → bytes ≡ (At file calls).seen → next ≡ calls ++ Sync ∷ [] → Only bytes (MayLeave (At file next))
sync_only file calls next bytes played is c left = only_synced (At file calls) c (left_after file calls next Sync c is left) ∙ sym played

pub sync_crash : (file : List ℕ) (calls next : List Call) → next ≡ calls ++ Sync ∷ [] → Fewer (MayLeave (At file calls)) (MayLeave (At file next))
sync_crash file calls next is c left =
    subst (λ (f : List ℕ). MayLeave (At file calls) f) (sym (only_synced (At file calls) c (left_after file calls next Sync c is left))) (sound file calls)

-- noted or not, a call that changes no byte
pub seen_noted : (file : List ℕ) (calls next : List Call) (call : Call) (bytes : List ℕ) → (after call (At file calls)).seen ≡ (At file calls).seen → (next ≡ calls) ⊎ (next ≡ calls ++ call ∷ []) → bytes ≡ (At file calls).seen → bytes ≡ (At file next).seen
seen_noted file calls next call bytes keeps (inl same) played = played ∙ ap (λ (cs : List Call). (At file cs).seen) (sym same)
seen_noted file calls next call bytes keeps (inr more) played = played ∙ sym (seen_after file calls next call more ∙ keeps)

-- what a write may leave is torn from what might have been left before it
torn_from : ℕ → ℕ → State → List ℕ → List ℕ
torn_from at n s c = map (λ (i : ℕ). cond (nat_le at i && nat_lt i (at + n)) (get_or s.synced i 0) (get_or c i 0)) (range_with_len 0 (min (length c) (length s.seen)))

size_torn : (at n : ℕ) (s : State) (c : List ℕ) → length (torn_from at n s c) ≡ min (length c) (length s.seen)
unfolding torn_from
size_torn at n s c = length-map-range_with_len _ 0 (min (length c) (length s.seen))

at_torn : (at n : ℕ) (s : State) (c : List ℕ) (i : ℕ) → i < min (length c) (length s.seen) → get_or (torn_from at n s c) i 0 ≡ cond (nat_le at i && nat_lt i (at + n)) (get_or s.synced i 0) (get_or c i 0)
unfolding torn_from
at_torn at n s c i h = get_or-map-range_with_len _ 0 (min (length c) (length s.seen)) i i 0 h (omega arith)

at_torn_in : (at n : ℕ) (s : State) (c : List ℕ) (i : ℕ) → i < min (length c) (length s.seen) → at ≤ i → i < at + n → get_or (torn_from at n s c) i 0 ≡ get_or s.synced i 0
at_torn_in at n s c i h a b = let e = at_torn at n s c i h in grind (arith, nat_tests, e)

at_torn_out : (at n : ℕ) (s : State) (c : List ℕ) (i : ℕ) → i < min (length c) (length s.seen) → (i < at) ⊎ (at + n ≤ i) → get_or (torn_from at n s c) i 0 ≡ get_or c i 0
at_torn_out at n s c i h out = let e = at_torn at n s c i h in grind (arith, nat_tests, e)

in_or_out : (at n i : ℕ) → ((i < at) ⊎ (at + n ≤ i)) ⊎ ((at ≤ i) × (i < at + n))
in_or_out at n i = search arith

write_torn : (at : ℕ) (bytes : Vec ℕ Global) (s : State) (c : List ℕ) → MayLeave s s.seen → MayLeave (after (Write at bytes) s) c → (d : List ℕ) × MayLeave s d × Torn at (length bytes.items) d c
write_torn at bytes s c sound left =
    let n = length bytes.items in
    let d = torn_from at n s c in
    let size : length d ≡ min (length c) (length s.seen) = size_torn at n s c in
    let grown : length (over s.seen at bytes.items) ≡ max (length s.seen) (at + length bytes.items) = length-over s.seen at bytes.items in
    let short : length s.synced ≤ length s.seen = sound.no_shorter in
    let low : length s.synced ≤ length c = left.no_shorter in
    let high : length c ≤ length (over s.seen at bytes.items) = left.no_longer in (
      d,
      record {
        no_shorter = omega (arith, size, short, low);
        no_longer = omega (arith, size);
        stays = λ i h out. ⊎_elim
            (λ o. at_torn_out at n s c i (omega (arith, short, low)) o ∙ left.stays i h (o, out))
            (λ w. at_torn_in at n s c i (omega (arith, short, low)) w.0 w.1)
            (in_or_out at n i);
      },
      record {
        no_shorter = omega (arith, size);
        no_longer = omega (arith, size, grown, high);
        below = λ i h b. sym (at_torn_out at n s c i (omega (arith, size)) (inl b));
        above = λ i h a. sym (at_torn_out at n s c i (omega (arith, size)) (inr a));
      },
    )

pub write_crash : (file : List ℕ) (calls next : List Call) (at : ℕ) (bytes : List ℕ) (copy : Vec ℕ Global) → copy.items ≡ bytes → next ≡ calls ++ Write at copy ∷ [] → OneStepOn (Torn at (length bytes)) (MayLeave (At file calls)) (MayLeave (At file next))
write_crash file calls next at bytes copy same is c left =
    let from = write_torn at copy (At file calls) c (sound file calls) (left_after file calls next (Write at copy) c is left) in
    (from.0, from.1, subst (λ (n : ℕ). Torn at n from.0 c) (ap length same) from.2)

-- a write that was noted and done
pub write_seen : (file : List ℕ) (calls next : List Call) (at : ℕ) (bytes seen done : List ℕ) (copy : Vec ℕ Global) → seen ≡ (At file calls).seen → done ≡ over seen at bytes → copy.items ≡ bytes → next ≡ calls ++ Write at copy ∷ [] → done ≡ (At file next).seen
write_seen file calls next at bytes seen done copy played is same more =
    is ∙ (λ i. over (played i) at (sym same i)) ∙ sym (seen_after file calls next (Write at copy) more)

-- a write that was noted and done, or neither
pub write_noted : {E : Type 0} (result : Result (Unit {0}) E) (file : List ℕ) (calls next : List Call) (at : ℕ) (bytes seen done : List ℕ) (copy : Vec ℕ Global) → seen ≡ (At file calls).seen → copy.items ≡ bytes
    → OnOk result (done ≡ over seen at bytes) → OnOk result (next ≡ calls ++ Write at copy ∷ []) → OnErr result ((done ≡ seen) × (next ≡ calls)) → done ≡ (At file next).seen
write_noted (Ok u) file calls next at bytes seen done copy played same is more err = write_seen file calls next at bytes seen done copy played is same more
write_noted (Err e) file calls next at bytes seen done copy played same is more err = err.0 ∙ played ∙ ap (λ (cs : List Call). (At file cs).seen) (sym err.1)

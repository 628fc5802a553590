use Rattle.std.proofs.Common.{◌≡◌, ◌++◌, ◌∷◌, [], List, ℕ, rules, sym, subst}
use Rattle.disk_model.specs.declared.mem_disk.Call.TheVariants.{Write}
use Rattle.disk_model.specs.Disk.{Holds, Torn}
use Rattle.disk_model.specs.Replay.{over}
use Rattle.disk_model.specs.Bytes.{over_holds, over_torn}
use Rattle.disk_model.proofs.Calls.{push_time, write_noted, write_crash}
use Rattle.disk_model.proofs.mem_disk.MemDiskDisk.write_at.Goals as goal

pub invariant_of-self-2 : goal.invariant_of-self-2
invariant_of-self-2 c =
    let same : c.in_ok-copy.copy.items ≡ c.args.bytes.now = search rules in
    let w = c.written.ensures in
    record { played = write_noted c.written.result c.args.self.now.first.items c.args.self.now.calls.items c.written.new.calls.items c.args.at c.args.bytes.now c.args.self.now.bytes.items c.written.new.file.items c.in_ok-copy.copy c.args.self.now.played same w.file w.calls w.err }

pub returns-clause-written : goal.returns-clause-written
returns-clause-written c u =
    let is : c.written.new.file.items ≡ over c.args.self.now.bytes.items c.args.at c.args.bytes.now = search rules in
    subst (λ (f : List ℕ). Holds f c.args.at c.args.bytes.now) (sym is) (over_holds c.args.self.now.bytes.items c.args.at c.args.bytes.now)

pub returns-clause-others : goal.returns-clause-others
returns-clause-others c u =
    let is : c.written.new.file.items ≡ over c.args.self.now.bytes.items c.args.at c.args.bytes.now = search rules in
    subst (Torn c.args.at _ c.args.self.now.bytes.items) (sym is) (over_torn c.args.self.now.bytes.items c.args.at c.args.bytes.now)

pub returns-clause-crash : goal.returns-clause-crash
returns-clause-crash c u =
    let same : c.in_ok-copy.copy.items ≡ c.args.bytes.now = search rules in
    let more : c.written.new.calls.items ≡ c.args.self.now.calls.items ++ Write c.args.at c.in_ok-copy.copy ∷ [] = search rules in
    write_crash c.args.self.now.first.items c.args.self.now.calls.items c.written.new.calls.items c.args.at c.args.bytes.now c.in_ok-copy.copy same more

pub returns-clause-time : goal.returns-clause-time
returns-clause-time c u =
    let more : c.written.new.calls.items ≡ c.args.self.now.calls.items ++ Write c.args.at c.in_ok-copy.copy ∷ [] = search rules in
    push_time c.args.self.now.first.items c.args.self.now.calls.items c.written.new.calls.items (Write c.args.at c.in_ok-copy.copy) more

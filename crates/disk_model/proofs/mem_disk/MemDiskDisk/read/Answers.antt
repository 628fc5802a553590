use Rattle.std.proofs.Common.{refl, length}
use Rattle.disk_model.specs.declared.mem_disk.Call.TheVariants.{Read}
use Rattle.disk_model.proofs.Calls.{same_crash, same_time, push_time, seen_noted, look_crash}
use Rattle.disk_model.proofs.mem_disk.MemDiskDisk.read.Goals as goal

pub invariant_of-self : goal.invariant_of-self
invariant_of-self c = record { played = seen_noted c.args.self.now.first.items c.args.self.now.calls.items c.noted.new.calls.items (Read c.args.at (length c.args.buf.now)) c.args.self.now.bytes.items refl c.noted.ensures.either c.args.self.now.played }

pub returns-clause-crash : goal.returns-clause-crash
returns-clause-crash c u = look_crash c.args.self.now.first.items c.args.self.now.calls.items c.noted.new.calls.items (Read c.args.at (length c.args.buf.now)) refl c.in_ok-noted.ensures.ok

pub returns-clause-time : goal.returns-clause-time
returns-clause-time c u = push_time c.args.self.now.first.items c.args.self.now.calls.items c.noted.new.calls.items (Read c.args.at (length c.args.buf.now)) c.in_ok-noted.ensures.ok

pub returns-in_err-noted-clause-crash : goal.returns-in_err-noted-clause-crash
returns-in_err-noted-clause-crash c u = same_crash c.args.self.now.first.items c.args.self.now.calls.items c.noted.new.calls.items c.in_err-noted.ensures.err

pub returns-in_err-noted-clause-time : goal.returns-in_err-noted-clause-time
returns-in_err-noted-clause-time c u = same_time c.args.self.now.first.items c.args.self.now.calls.items c.noted.new.calls.items c.in_err-noted.ensures.err

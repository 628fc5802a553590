use Rattle.std.proofs.Common.{◌≡◌, ◌⊎◌, ℕ, inl, inr, ◌*◌, ◌+◌, ◌++◌, length, take, drop, true, Ok, ap, sym, ◌∙◌, arith, rules}
use Rattle.std.proofs.Math.Seq.{take-append_seam}
use Rattle.std.proofs.lemmas.Bool.{cases_lt}
use Rattle.disk_model.specs.Disk.{part}
use Rattle.store_terms.specs.Places.{block_size, is_placed}
use Rattle.root_reading.proofs.Fronts.{front_is}
use Rattle.root_reading.proofs.Looked.{looked, looks_none}
use Rattle.root_reading.proofs.record_bytes.fetch.Goals as goal

pub returns-then-not-is_within-clause-looks : goal.returns-then-not-is_within-clause-looks
returns-then-not-is_within-clause-looks g c honest =
    let old = c.args.disk.now in looks_none g.D.Disk old honest (λ f left. g.met.D.Disk.only_now old f honest left)

pub returns-in_err-bytes-clause-looks : goal.returns-in_err-bytes-clause-looks
returns-in_err-bytes-clause-looks g c honest =
    let old = c.args.disk.now in looks_none g.D.Disk old honest (λ f left. g.met.D.Disk.only_now old f honest left)

pub returns-in_err-read-clause-looks : goal.returns-in_err-read-clause-looks
returns-in_err-read-clause-looks g c honest =
    let old = c.args.disk.now in
    looked g.D.Disk old c.read.new.self honest (λ f left. g.met.D.Disk.only_now old f honest left)
    (c.read.ensures.honest.1 honest) (c.read.ensures.seen honest) (c.read.ensures.crash honest) (c.read.ensures.time honest)

pub returns-clause-looks : goal.returns-clause-looks
returns-clause-looks g c honest =
    let old = c.args.disk.now in
    looked g.D.Disk old c.read.new.self honest (λ f left. g.met.D.Disk.only_now old f honest left)
    (c.read.ensures.honest.1 honest) (c.read.ensures.seen honest) (c.read.ensures.crash honest) (c.read.ensures.time honest)

pub returns-clause-gives : goal.returns-clause-gives
returns-clause-gives g c honest =
    let file = g.D.Disk.seen c.args.disk.now in
    let placed : is_placed file c.args.extent ≡ true = search rules in
    let least : (c.min-count.result ≡ c.args.extent.size) ⊎ (c.min-count.result ≡ c.args.most + 1) =
    elim (cases_lt c.args.extent.size (c.args.most + 1)) [
      | inl less ↦ inl (omega (arith, less, c.min-count.ensures))
      | inr more ↦ inr (omega (arith, more, c.min-count.ensures))
    ] in
    let buf = c.read.new.buf in
    let items = c.in_ok-bytes.bytes.items in
    let count = c.min-count.result in
    let start : c.args.extent.block * 4096 ≡ block_size * c.args.extent.block = omega arith in
    let filled : c.in_ok-bytes.bytes.len ≡ length buf = omega (arith, c.read.auto.buf, c.deref_mut.ensures.len) in
    let asked : length c.deref_mut.result.now ≡ count = omega (arith, c.deref_mut.ensures.len, c.in_ok-bytes.ensures.len) in
    let read : take c.in_ok-bytes.bytes.len (buf ++ drop (length buf) items) ≡ part file (c.args.extent.block * 4096) count =
    ap (λ n. take n (buf ++ drop (length buf) items)) filled ∙ take-append_seam buf (drop (length buf) items)
    ∙ c.in_ok-read.ensures.read honest ∙ ap (part file (c.args.extent.block * 4096)) asked in
    front_is c.args.most count c.args.damage file c.args.extent placed (omega (arith, c.min-count.ensures)) (omega (arith, c.min-count.ensures)) least
    ∙ ap Ok (ap (λ (n : ℕ). part file n count) (sym start) ∙ sym read)

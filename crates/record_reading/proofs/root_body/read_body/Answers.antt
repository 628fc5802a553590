use Rattle.std.proofs.Common.{◌∙◌, ◌==◌, ap}
use Rattle.byteorder.specs.Endian.{big_number}
use Rattle.store_terms.specs.Roots.{body_in}
use Rattle.record_reading.proofs.Tails.{tail_is}
use Rattle.record_reading.proofs.root_body.read_body.Goals as goal

pub returns : goal.returns
unfolding body_in
returns c =
    let bytes = c.args.bytes.now in
    let format = c.read_u32-format.ensures ∙ ap (big_number 4) (tail_is 8 bytes) in
    let is_old = ap (λ n. n == 1) format in
    let sequence = c.read_u64.ensures ∙ ap (big_number 8) (tail_is 12 bytes) in
    let version = c.read_u64-2.ensures ∙ ap (big_number 8) (tail_is 20 bytes) in
    let block = c.read_u64-3.ensures ∙ ap (big_number 8) (tail_is 28 bytes) in
    let size = c.read_u32.ensures ∙ ap (big_number 4) (tail_is 36 bytes) in
    λ i. record {
      is_ours = c.eq.ensures i;
      format = format i;
      root =
          record { is_old = is_old i; sequence = sequence i; version = version i; catalog = record { block = block i; size = size i } };
    }

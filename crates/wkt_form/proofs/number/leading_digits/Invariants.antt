use Rattle.std.proofs.Common.{◌≡◌, ◌+◌, min, take, drop}
use Rattle.std.specs.List.{prefix_len}
use Rattle.std.specs.Char.{is_ascii_digit}
use Rattle.overlay_terms.specs.Bytes.{digits_value}
use Rattle.wkt_form.proofs.number.leading_digits.Given as goal

-- the bytes so far are digits, and what they are worth, or the limit
abbrev pub invariant-loop-byte : goal.invariant-loop-byte
invariant-loop-byte l = record {
  counted : l.count ≡ l.byte-index;
  worth : l.size ≡ min 2097152 (digits_value (take l.byte-index l.bytes));
  digits : prefix_len is_ascii_digit l.bytes ≡ l.byte-index + prefix_len is_ascii_digit (drop l.byte-index l.bytes);
}

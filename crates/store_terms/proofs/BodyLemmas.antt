-- A body that is written is read again.
use Rattle.std.proofs.Common.{◌≡◌, ◌∙◌, ◌<◌, ◌^◌, ◌==◌, Bool, true, false, cond, [], ◌++◌, take, drop, length, ap, refl, arith}
use Rattle.byteorder.specs.Endian.{big_number, big_bytes}
use Rattle.byteorder.specs.Numbers.{big_number-reads_back}
use Rattle.store_terms.specs.declared.root.Root.{Root}
use Rattle.store_terms.specs.Roots.{body_text, body_in, format_of}
use Rattle.store_terms.specs.RecordLaws.{BodyReadsBack}

-- the format is a small number, and says whether it is the old one
small : (b : Bool) → cond b 1 2 < 256 ^ 4
small true = omega arith
small false = omega arith

told : (b : Bool) → (cond b 1 2 == 1) ≡ b
told true = refl
told false = refl

pub body_again : BodyReadsBack
unfolding body_in
body_again r s v b z =
    let format : big_number 4 (drop 8 (take 40 (body_text r))) ≡ format_of r =
    big_number-reads_back 4 (format_of r) (take 28 (big_bytes 8 r.sequence ++ (big_bytes 8 r.version ++ (big_bytes 8 r.catalog.block ++ (big_bytes 4 r.catalog.size ++ big_bytes 8 0))))) (small r.is_old) in
    let is_old : (big_number 4 (drop 8 (take 40 (body_text r))) == 1) ≡ r.is_old = ap (λ n. n == 1) format ∙ told r.is_old in
    let sequence : big_number 8 (drop 12 (take 40 (body_text r))) ≡ r.sequence =
    big_number-reads_back 8 r.sequence (take 20 (big_bytes 8 r.version ++ (big_bytes 8 r.catalog.block ++ (big_bytes 4 r.catalog.size ++ big_bytes 8 0)))) s in
    let version : big_number 8 (drop 20 (take 40 (body_text r))) ≡ r.version =
    big_number-reads_back 8 r.version (take 12 (big_bytes 8 r.catalog.block ++ (big_bytes 4 r.catalog.size ++ big_bytes 8 0))) v in
    let block : big_number 8 (drop 28 (take 40 (body_text r))) ≡ r.catalog.block = big_number-reads_back 8 r.catalog.block (take 4 (big_bytes 4 r.catalog.size ++ big_bytes 8 0)) b in
    let size : big_number 4 (drop 36 (take 40 (body_text r))) ≡ r.catalog.size = big_number-reads_back 4 r.catalog.size [] z in
    (λ i. record { is_ours = true; format = format i; root = record { is_old = is_old i; sequence = sequence i; version = version i; catalog = record { block = block i; size = size i } } })

pub length-body_text : (r : Root) → length (body_text r) ≡ 48
length-body_text r = refl

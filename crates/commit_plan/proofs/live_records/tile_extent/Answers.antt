use Rattle.std.proofs.Common.{◌≡◌, sym, ◌∙◌, ap, inr, rules, arith}
use Rattle.store_terms.specs.Listing.{records_of}
use Rattle.commit_plan.specs.Staying.{tile_extent}
use Rattle.commit_plan.proofs.Entries.{entry_past, entry_is}
use Rattle.commit_plan.proofs.live_records.tile_extent.Goals as goal

pub returns-then-column-len : goal.returns-then-column-len
returns-then-column-len c =
    let is : records_of c.args.records.now ≡ inr (c.in-Derived.field-0, c.in-Derived.entries.items) = search rules in
    entry_past c.in-Derived.entries.items c.args.column (omega (arith, c.if-column-len.true, c.from-column.ensures, c.number.ensures.value, c.len.ensures))
    ∙ sym (ap (λ r. tile_extent r c.args.column) is)

pub returns : goal.returns
returns c =
    let is : records_of c.args.records.now ≡ inr (c.in-Derived.field-0, c.in-Derived.entries.items) = search rules in
    entry_is c.in-Derived.entries.items c.args.column c.index.result.now
    (omega (arith, c.if-column-len.false, c.from-column.ensures, c.number.ensures.value, c.len.ensures)) (search rules)
    ∙ sym (ap (λ r. tile_extent r c.args.column) is)

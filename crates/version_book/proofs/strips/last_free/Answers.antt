use Rattle.std.proofs.Common.{◌≡◌, ◌≤◌, ◌<◌, ◌+◌, ℕ, arith, rules, below_more, subst, sym, ◌∙◌}
use Rattle.overlay_terms.specs.Column.{column_count}
use Rattle.overlay_terms.specs.Histories.{tile_at}
use Rattle.version_book.specs.Free.{IsFree}
use Rattle.version_book.proofs.RowLooks.{no_tile_there}
use Rattle.version_book.proofs.strips.last_free.Goals as goal

pub returns-in_default-clause-free : goal.returns-in_default-clause-free
returns-in_default-clause-free c = λ k low high. let same : c.args.first ≡ k = omega arith in subst (λ n. IsFree c.args.version.now c.args.held.now.list.items c.args.name.now n) same c.requires

pub columns-init : goal.columns-init
columns-init c = record {
  from = omega arith;
  free = λ k low high. let same : c.args.first ≡ k = omega arith in subst (λ n. IsFree c.args.version.now c.args.held.now.list.items c.args.name.now n) same c.requires;
}

pub columns-preserved : goal.columns-preserved
columns-preserved c =
    let free : ℕ → Type 0 = λ n. IsFree c.args.version.now c.args.held.now.list.items c.args.name.now n in
    let next = c.in-Some-new.next in
    let same : next ≡ c.columns.last + 1 = search rules in
    let there : next < column_count = search rules in
    let gone = no_tile_there (tile_at c.args.version.now.tiles c.args.name.now) next c.in-Some.row.now c.in-Some.ensures there (sym c.has.ensures ∙ c.if-has.false) in
    record {
      from = omega arith;
      free = λ k low high. below_more (λ n. c.args.first ≤ n → free n) next (λ n near from. c.columns.invariant.free n from (omega (arith, near)))
          (λ _. record { pending = (c.requires.pending.0, gone); there = there; free = sym c.has-else-has.ensures ∙ c.if-has-2.false }) k (omega (arith, high)) low;
    }

use Rattle.std.proofs.Common.{◌≡◌, ◌++◌, ◌∷◌, [], None, ap, sym, ◌∙◌, subst, refl, inl, rules, arith}
use Rattle.std.proofs.lemmas.Bool.{false≢true}
use Rattle.overlay_terms.specs.Histories.{kept, tile_at, Follows, FollowsTile, Version}
use Rattle.tile_build.specs.Tile.{tile_of}
use Rattle.versions.specs.Finish.{IsAwaited}
use Rattle.versions.specs.declared.fault.VersionFault.{VersionFault}
use Rattle.book_history.specs.BookLogs.{BookLog}
use Rattle.book_history.specs.Logs.{entry, newest_in}
use Rattle.book_history.specs.Rules.{head_of}
use Rattle.book_history.specs.declared.fault.BookFault.TheVariants as fault
use Rattle.book_history.proofs.Holding.{none_kept}
use Rattle.book_lock.proofs.Growing.{newest_of, entry_by}
use Rattle.book_lock.proofs.locked_log.LockedLog.add_tile.Goals as goal

pub returns-in-Err : goal.returns-in-Err
returns-in-Err g c = record {
  last = tt;
  book = c.requires.book;
  finished = tt;
  err = (ap (λ (f : VersionFault). fault.Version f) c.in-Err.ensures.err.1, c.in-Err.ensures.err.0, refl);
}

-- it is not awaited, and it is not there
pub returns-then-not-is_kept : goal.returns-then-not-is_kept
returns-then-not-is_kept g c =
    let name = c.args.name.now in
    let input = c.args.built.now.0 in
    let same = c.in-Ok.ensures.stale c.if-not-is_kept.true in
    let old = same ∙ c.requires.last in
    let column = c.column-column.ensures.value in
    let there = none_kept _ _ _ c.shared_tile.ensures (sym c.if-is_some.ensures) in
    record {
      last = old;
      book = c.requires.book;
      finished = (
        subst (λ v. ¬ (IsAwaited v name input)) c.requires.last (λ awaited. false≢true (sym c.if-not-is_kept.true ∙ c.in-Ok.ensures.exactly.1 awaited)),
        subst (λ v. tile_at v.tiles name input.column ≡ None) old (subst (λ k. tile_at c.keep.new.self.tiles name k ≡ None) column there),
        refl,
      );
      err = tt;
    }

pub add-requires : goal.add-requires
add-requires g c =
    let log = c.args.seen_log.now.log in
    let name = c.args.name.now in
    let input = c.args.built.now.0 in
    let column = c.column-column.ensures.value in
    let reported = subst (λ v. FollowsTile v name input.column c.args.built.now.1 c.keep.new.self) c.requires.last (c.in-Ok.ensures.kept c.if-not-is_kept.false) in
    record {
      head = c.self.invariant.0 ∙ ap head_of (sym c.requires.book);
      room = search (rules, arith);
      follows = subst (λ e. Follows (newest_in log) e c.keep.new.self) (λ i. kept name (sym column i) (sym c.tile.ensures.value i)) reported;
      reported = inl reported.durable;
      asked = tt;
      own = tt;
    }

pub returns-then-add : goal.returns-then-add
returns-then-add g c =
    let log = c.args.seen_log.now.log in
    let name = c.args.name.now in
    let input = c.args.built.now.0 in
    let column = c.column-column.ensures.value in
    let new = c.keep.new.self in
    let e = entry (kept name c.column-column.result (tile_of c.tile.result.now)) new in
    let added = c.if-add.ensures in
    let is = ap (λ (t : BookLog). t.log) added in
    let newest = newest_of log c.add.new.self.log e is in
    let awaited = subst (λ v. IsAwaited v name input) c.requires.last (c.in-Ok.ensures.exactly.0 c.if-not-is_kept.false) in
    let follows = subst (λ v. FollowsTile v name input.column c.args.built.now.1 new) c.requires.last (c.in-Ok.ensures.kept c.if-not-is_kept.false) in
    record {
      last = sym newest;
      book = ap (λ (t : BookLog). t.book) added ∙ c.requires.book;
      finished = (
        awaited,
        subst (FollowsTile (newest_in log) name input.column c.args.built.now.1) (sym newest) follows,
        entry_by log c.add.new.self.log _ _ _ (λ i. kept name (column i) (c.tile.ensures.value i)) is,
      );
      err = tt;
    }

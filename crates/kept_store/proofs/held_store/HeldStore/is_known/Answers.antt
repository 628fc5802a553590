-- The live root holds the tiles of the version that is remembered of it.
use Rattle.std.proofs.Common.{sym, ap, ◌∙◌, subst}
use Rattle.std.proofs.Math.Logic.{∥∥₁_elim}
use Rattle.std.specs.Coded.{Coded-set, coded_option}
use Rattle.logbook.specs.Pages.{book_coded}
use Rattle.overlay_terms.specs.InputCode.{tile_code}
use Rattle.overlay_terms.specs.Histories.{tile_at}
use Rattle.commit_plan.specs.Live.{live_content}
use Rattle.kept_store.specs.Since.{IsRemembered}
use Rattle.kept_store.proofs.held_store.HeldStore.is_known.Goals as goal

pub has_tiles_of-requires : goal.has_tiles_of-requires
has_tiles_of-requires g c =
    let h = c.args.self.now in
    ∥∥₁_elim h.live_tiles (Coded-set book_coded _ _)
    (λ known. c.requires ∙ sym (subst (IsRemembered h.seen_log.book (live_content h.flusher.commit.live)) c.in-Some.is known).0)

pub returns-in-Some : goal.returns-in-Some
returns-in-Some g c reported name column tile there =
    let h = c.args.self.now in
    ∥∥₁_elim h.live_tiles (Coded-set (coded_option tile_code) _ _)
    (λ known.
    let is = subst (IsRemembered h.seen_log.book (live_content h.flusher.commit.live)) c.in-Some.is known in
    ap (λ ts. tile_at ts name column) is.1 ∙ c.has_tiles_of.ensures.known reported name column tile there)

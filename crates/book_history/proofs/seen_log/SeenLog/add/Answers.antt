use Rattle.std.proofs.Common.{◌++◌, ◌∷◌, [], length, refl, sym, ◌∙◌, ap}
use Rattle.book_history.specs.Logs.{entry}
use Rattle.book_history.specs.Causes.{event_of}
use Rattle.book_history.proofs.Adding.{adds_moves, was_added, longer_by_one, fits_next}
use Rattle.book_history.proofs.Chains.{log_more}
use Rattle.book_history.proofs.seen_log.SeenLog.add.Goals as goal

pub compare_exchange-found-requires : goal.compare_exchange-found-requires
compare_exchange-found-requires g c =
    let h = c.head.view_is ∙ c.requires.head in
    let offer = c.plain-offer.ensures in
    let pen = c.no_pen-pen.ensures in
    let copy = c.again-seen.ensures in
    let i = c.self.invariant in
    let e = entry (event_of c.args.cause) c.args.version.now in
    let may = log_more c.self.inside.seen.log e i.1 (rw (ap (λ t. t.log) c.self.view_is) c.requires.follows) in
    let book = ap (λ s. s.book) copy ∙ ap (λ t. t.book) c.self.view_is ∙ sym (ap (λ w. w.book) h) in (
      ap (λ w. w.tracked) h,
      book,
      pen.0 ∙ book,
      offer.0,
      rw (ap (λ w. w.key) h, pen.1, offer.1, offer.3, ap (λ s. s.log) copy) (adds_moves c.self.inside.seen.log e c.self.inside.at i.0 may),
    )

pub overflow_add-at : goal.overflow_add-at
overflow_add-at g c = record { fits = fits_next _ _ _ c.self.invariant.0 (ap (λ t. t.log) c.self.view_is) c.requires.room }

pub overflow_add-self : goal.overflow_add-self
overflow_add-self g c = record { fits = fits_next _ _ _ c.self.invariant.0 (ap (λ t. t.log) c.self.view_is) c.requires.room }

pub returns-then-found-at : goal.returns-then-found-at
returns-then-found-at g c = refl

pub invariant_of-self : goal.invariant_of-self
invariant_of-self g c =
    let e = entry (event_of c.args.cause) c.args.version.now in
    let x = c.compare_exchange-found in
    let added = was_added c.again-seen.result.log x.new.seen.log c.plain-offer.result.ask e x.result c.self.inside.at c.if-found-at.false c.plain-offer.ensures.1 x.ensures.7 in
    (longer_by_one c.again-seen.result.log x.new.seen.log e c.self.inside.at (c.self.invariant.0 ∙ ap (λ s. length s.log) (sym c.again-seen.ensures)) added.0, added.1)

pub returns : goal.returns
returns g c =
    let e = entry (event_of c.args.cause) c.args.version.now in
    let x = c.compare_exchange-found in
    let was = c.again-seen.ensures in
    let added = was_added c.again-seen.result.log x.new.seen.log c.plain-offer.result.ask e x.result c.self.inside.at c.if-found-at.false c.plain-offer.ensures.1 x.ensures.7 in
    let book = x.ensures.0 ∙ ap (λ s. s.book) was ∙ ap (λ t. t.book) c.self.view_is in
    let log = added.0 ∙ ap (λ s. s.log ++ e ∷ []) was ∙ ap (λ t. t.log ++ e ∷ []) c.self.view_is in
    λ i. record { book = book i; log = log i }

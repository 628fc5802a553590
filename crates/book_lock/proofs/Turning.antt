-- Why a session is refused, by how it was turned away.
use Rattle.std.proofs.Common.{inl, inr, Bool, IsTrue, List, sym, subst}
use Rattle.overlay_terms.specs.Histories.{Entry, Version}
use Rattle.book_history.specs.Known.{Known}
use Rattle.book_lock.specs.Steps.{HasLooked, IsRefusedIn, IsTurnedAway}
use Rattle.book_lock.specs.declared.refused.Refused.{Refused}
use Rattle.book_lock.specs.declared.refused.Refused.TheVariants.{Gone, Closing, Version as Refuses}

module _ {F : Type 0} (log : List Entry) (was now : Known) (refuses : Version → F → Type 0) where
  -- a session that is turned away for a reason is refused, where a session that has looked is refused for that reason
  pub refused_by : (closing : Bool) (why reported : Refused F) → IsTurnedAway log was why reported now
      → (HasLooked was log now → IsRefusedIn log was refuses closing why now) → IsRefusedIn log was refuses closing reported now
  refused_by closing why reported (inl h) there = subst (λ r. IsRefusedIn log was refuses closing r now) (sym h.0) (there h.1)
  refused_by closing why reported (inr h) there = subst (λ r. IsRefusedIn log was refuses closing r now) (sym h.0) h.1

  -- a book that may close refuses no less
  pub refused_more : (closing more : Bool) (r : Refused F) → (IsTrue closing → IsTrue more)
      → IsRefusedIn log was refuses closing r now → IsRefusedIn log was refuses more r now
  refused_more closing more Gone may h = h
  refused_more closing more Closing may h = (may h.0, h.1)
  refused_more closing more (Refuses fault) may h = h

-- What a session keeps, whatever it is asked.
use Rattle.std.proofs.Common.{List, [], ◌++◌, refl, sym, ap, ◌∙◌, append_assoc, append-nil}
use Rattle.overlay_terms.specs.Histories.{Entry, History, BeginsWith}
use Rattle.book_history.specs.Known.{Known, seen}
use Rattle.server_session.specs.Session.{Stays}

pub begins_self : (h : History) → BeginsWith h h
begins_self h = ([], ap (λ (es : List Entry). record { start = h.start; entries = es }) (sym (append-nil h.entries)))

pub begins_trans : (a b c : History) → BeginsWith b a → BeginsWith c b → BeginsWith c a
begins_trans a b c one two = (
  one.0 ++ two.0,
  two.1 ∙ ap (λ (h : History). record { start = h.start; entries = h.entries ++ two.0 }) one.1
      ∙ ap (λ (es : List Entry). record { start = a.start; entries = es }) (append_assoc a.entries one.0 two.0),
)

pub stays_self : (known : Known) → Stays known known
stays_self known = record { book = refl; session = refl; goes_on = begins_self (seen known) }

pub stays_trans : (was mid now : Known) → Stays was mid → Stays mid now → Stays was now
stays_trans was mid now one two = record {
  book = two.book ∙ one.book;
  session = two.session ∙ one.session;
  goes_on = begins_trans (seen was) (seen mid) (seen now) one.goes_on two.goes_on;
}

-- The sessions of a server that could not run, what they were given, and what they came to, side by side.
use Rattle.std.proofs.Common.{◌≡◌, ◌∷◌, [], ℕ, suc, List, Option, length, map, append-nil, refl, ap, sym, ◌∙◌, subst}
use Rattle.std.specs.List.{All, AllZip, AllByRecursion}
use Rattle.std.proofs.lemmas.List.Elements.{All-head, All-tail}
use Rattle.logbook.specs.Pages.{Book}
use Rattle.overlay_terms.specs.Histories.{Version, Entry}
use Rattle.book_history.specs.Known.{Known}
use Rattle.book_lock.specs.Steps.{beginners, HasAllOf}
use Rattle.script_form.specs.Transcript.{BookStore}
use Rattle.session_threads.specs.Running.{IsRunOf}
use Rattle.session_threads.specs.Seats.{session_of, port_of, ended_session}
use Rattle.session_threads.specs.declared.port.Port.{Port}
use Rattle.session_threads.specs.declared.running.Script.{Script}
use Rattle.session_threads.specs.declared.running.Ended.{Ended}
use Rattle.overlay_server.specs.Given.{Given, given_at, given_to}
use Rattle.overlay_server.specs.Refusing.{AreStopped, IsStopped, StoppedPart}
use Rattle.overlay_server.specs.Serving.{first_log}
use Rattle.overlay_server.proofs.Parts.{AreSeated, as_many}

-- none was begun
pub none_stopped : (stored : BookStore) (start : Version) (log : List Entry) (all : List Given) (sessions : List Known) (book : Book) → sessions ≡ [] → AreStopped stored start log all sessions
none_stopped stored start log all sessions book none =
    subst (AreStopped stored start log all) (sym none)
    (record {
      book = book;
      parts = [];
      others = all;
      begin = refl;
      given = refl;
      come_to = refl;
      stopped = tt;
    })

module _ {R W : Type 0} (book : Book) (stored : BookStore) (remaining : R → Option (List ℕ)) (contents : W → Option (List ℕ)) where
  abbrev parts_of : List (Script R W) → List (Ended R W) → List StoppedPart
  parts_of [] es = []
  parts_of (s ∷ ss) [] = []
  parts_of (s ∷ ss) (e ∷ es) = record { session = s.session; given = given_at remaining contents s.port; now = e.session } ∷ parts_of ss es

  sessions_are : (ss : List (Script R W)) (es : List (Ended R W)) → AllZip (IsRunOf book stored remaining contents) ss es
      → map (λ (p : StoppedPart). p.session) (parts_of ss es) ≡ map session_of ss
  sessions_are [] es h = refl
  sessions_are (s ∷ ss) [] h = absurd h
  sessions_are (s ∷ ss) (e ∷ es) h = ap (λ (ks : List Known). session_of s ∷ ks) (sessions_are ss es h.1)

  given_are : (ss : List (Script R W)) (es : List (Ended R W)) → AllZip (IsRunOf book stored remaining contents) ss es
      → map (λ (p : StoppedPart). p.given) (parts_of ss es) ≡ given_to remaining contents (map port_of ss)
  given_are [] es h = refl
  given_are (s ∷ ss) [] h = absurd h
  given_are (s ∷ ss) (e ∷ es) h = ap (λ (gs : List Given). given_at remaining contents (port_of s) ∷ gs) (given_are ss es h.1)

  come_to : (ss : List (Script R W)) (es : List (Ended R W)) → AllZip (IsRunOf book stored remaining contents) ss es
      → map (λ (p : StoppedPart). p.now) (parts_of ss es) ≡ map ended_session es
  come_to [] [] h = refl
  come_to [] (e ∷ es) h = absurd h
  come_to (s ∷ ss) [] h = absurd h
  come_to (s ∷ ss) (e ∷ es) h = ap (λ (ks : List Known). ended_session e ∷ ks) (come_to ss es h.1)

  as_many_parts : (ss : List (Script R W)) (es : List (Ended R W)) → AllZip (IsRunOf book stored remaining contents) ss es → length (parts_of ss es) ≡ length ss
  as_many_parts [] es h = refl
  as_many_parts (s ∷ ss) [] h = absurd h
  as_many_parts (s ∷ ss) (e ∷ es) h = ap suc (as_many_parts ss es h.1)

  each_stopped : (log : List Entry) (ss : List (Script R W)) (es : List (Ended R W)) → AllZip (IsRunOf book stored remaining contents) ss es
      → All (HasAllOf log) (map ended_session es) → AllByRecursion (IsStopped stored log) (parts_of ss es)
  each_stopped log [] es ran own = tt
  each_stopped log (s ∷ ss) [] ran own = absurd ran
  each_stopped log (s ∷ ss) (e ∷ es) ran own = (
    record {
      end = e.end;
      left = remaining e.port.reader;
      written = contents e.port.writer;
      same = ran.0.same;
      goes_on = ran.0.goes_on;
      ran = ran.0.ran;
      own = All-head (HasAllOf log) (ended_session e) (map ended_session es) own;
    },
    each_stopped log ss es ran.1 (All-tail (HasAllOf log) (ended_session e) (map ended_session es) own),
  )

  pub are_stopped : (start : Version) (ports : List (Port R W)) (scripts : List (Script R W)) → AreSeated book start ports scripts
      → (ended : List (Ended R W)) → AllZip (IsRunOf book stored remaining contents) scripts ended → (log : List Entry) → All (HasAllOf log) (map ended_session ended)
      → AreStopped stored start log (given_to remaining contents ports) (map ended_session ended)
  are_stopped start ports scripts seated ended ran log own = record {
    book = book;
    parts = parts_of scripts ended;
    others = [];
    begin =
        sessions_are scripts ended ran ∙ seated.sessions
        ∙ ap (λ (n : ℕ). beginners (record { book = book; log = first_log start }) n) (sym (as_many_parts scripts ended ran ∙ as_many book start ports scripts seated));
    given =
        append-nil (map (λ (p : StoppedPart). p.given) (parts_of scripts ended)) ∙ given_are scripts ended ran
        ∙ ap (λ (ps : List (Port R W)). given_to remaining contents ps) seated.ports_are;
    come_to = come_to scripts ended ran;
    stopped = each_stopped log scripts ended ran own;
  }

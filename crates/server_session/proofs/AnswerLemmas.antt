-- What is answered to each request, from what its name and text are read as and what the book makes of it.
use Rattle.std.proofs.Common.{◌≡◌, ℕ, ℤ, Bool, true, false, IsTrue, List, [], ◌∷◌, ◌++◌, codes, Option, Some, None, Result, Ok, Err, refl, sym, ap, subst, ◌∙◌, ◌⊎◌, inl, inr, append-nil}
use Rattle.std.specs.Option.{option_map}
use Rattle.std.proofs.lemmas.Bool.{false≢true}
use Rattle.overlay_terms.specs.Plane.{Point}
use Rattle.overlay_terms.specs.Layers.{Location, answer_at}
use Rattle.overlay_terms.specs.Batches.{Batch, BatchRefusal, at, whole, batch_refusal_at}
use Rattle.overlay_terms.specs.Commands.{Command, Refusal, refusal_at, stands}
use Rattle.overlay_terms.specs.Histories.{BeginsWith, newest}
use Rattle.overlay_terms.specs.Histories as versions
use Rattle.exact_point.specs.Query.{IsQuery}
use Rattle.exact_point.specs.declared.fault.PointFault.TheVariants.{PointRange}
use Rattle.layer_expr.specs.Name.{is_name}
use Rattle.layer_book.specs.Fault.{RefusedBy, fault_of}
use Rattle.layer_book.specs.BatchFault as batch_faults
use Rattle.layer_book.specs.BatchFault.{RefusedAllBy}
use Rattle.layer_book.specs.declared.batch_fault.BatchFault.{BatchFault}
use Rattle.layer_book.specs.Listing.{layers_text}
use Rattle.layer_book.specs.declared.fault.LayerFault.TheVariants as layer_fault
use Rattle.versions.specs.Fault as version_fault
use Rattle.versions.specs.declared.fault.VersionFault.{VersionFault}
use Rattle.versions.specs.declared.fault.VersionFault.TheVariants.{Layer}
use Rattle.overlay_grid.specs.Grid.{Grid, IsGridSize, grid_with, grid_refusal, grid_text}
use Rattle.overlay_grid.specs.declared.fault.GridFault.{GridFault}
use Rattle.overlay_grid.specs.declared.fault.GridFault.TheVariants as picture
use Rattle.book_history.specs.Fault.{IsBatchRefused, IsCommandRefused, whole as gone_whole}
use Rattle.book_history.specs.Known.{Known, seen, LeavesSession}
use Rattle.book_history.specs.Logs.{IsAccepted}
use Rattle.book_history.specs.declared.fault.BookFault.{BookFault}
use Rattle.book_history.specs.declared.fault.BookFault.TheVariants as book
use Rattle.script_form.specs.declared.fault.CommandFault.{CommandFault}
use Rattle.script_form.specs.declared.fault.CommandFault.TheVariants.{Query, Version, OutOfMemory, Closing, Gone, GridSize}
use Rattle.script_form.specs.BatchLines.{IsCommandOf, IsNoCommand}
use Rattle.script_form.specs.Fault.{of_grid}
use Rattle.script_form.specs.Reading.{IsMemory, IsNoName}
use Rattle.script_form.specs.Replies.{numbered_line, error_line, refused_line, location_line}
use Rattle.script_form.specs.Requests.{Request, request, put_text, define_text, remove_name, locate, grid, list_layers, request_of}
use Rattle.script_form.specs.Transcript.{BookStore, IsRefused, IsRefusedBatch, IsSubmitted, IsSubmittedAll, IsAnswered, IsOutOfMemory, Asked, WithName}
use Rattle.script_form.specs.Turns.{Turn, alone, together}
use Rattle.script_form.specs.OpenBatch.{AreRead, TakesLine}
use Rattle.script_form.specs.declared.request.Request as code
use Rattle.script_form.specs.declared.open_batch.OpenBatch.{OpenBatch}
use Rattle.script_form.specs.declared.open_batch.LinesFault.{LinesFault}
use Rattle.script_form.specs.declared.open_batch.LinesFault.TheVariants.{Unread, OutOfMemory as NoMemory}
use Rattle.script_form.specs.declared.line_turn.LineTurn.TheVariants.{Waits, Alone, Whole}
use Rattle.server_session.specs.Answering.{Answers, AnswersAll, IsAnswerToAll, Submits, SubmitsAll}
use Rattle.server_session.specs.Fault.{command_fault_of, lines_reported}
use Rattle.server_session.specs.Session.{IsSharedRun, Stays}
use Rattle.script_form.specs.declared.line_reply.LineReply.{LineReply}
use Rattle.server_session.specs.Turn.{EndsTurn, TakesTurn}
use Rattle.server_session.proofs.BatchFaults.{batch_fault_text, numbered_reason, batch_reported}
use Rattle.server_session.proofs.Runs.{run-none, run-one}
use Rattle.server_session.proofs.Turns.{stays_self}

-- ==== A session that makes nothing

module _ (was now : Known) (stays : Stays was now) (made : now.made ≡ was.made) where
  pub makes_nothing : now.made ≡ was.made ++ []
  makes_nothing = made ∙ sym (append-nil was.made)

  pub answers_so : (stored : BookStore) (request : Request) (reply : List ℕ)
      → IsOutOfMemory request [] reply ⊎ IsAnswered stored was.session (seen was) request (seen now) [] reply → Answers stored was request now reply
  answers_so stored request reply answered = record { stays = stays; made = []; answered = answered; only = makes_nothing }

-- a session that was asked nothing of its book
pub answers_there : (stored : BookStore) (me : Known) (request : Request) (reply : List ℕ)
    → IsOutOfMemory request [] reply ⊎ IsAnswered stored me.session (seen me) request (seen me) [] reply → Answers stored me request me reply
answers_there stored me request reply answered = answers_so me me (stays_self me) refl stored request reply answered

-- a fault
pub refused_so : (fault : CommandFault) → IsRefused fault [] (error_line fault)
refused_so fault = record { nothing_made = refl; says = refl }

-- a question whose name is none
pub unnamed : (name : List ℕ) (fault : CommandFault) (T : Type 0) → IsNoName name fault → WithName name (error_line fault) T
unnamed name fault T none = inl (none.0, ap error_line none.1)

-- ==== Commands

pub submits_accepted : (was now : Known) (command : Command) (number : ℕ) → BeginsWith (seen now) (seen was) → (now.book ≡ was.book) × (now.session ≡ was.session)
    → IsAccepted was.session (seen was) (command ∷ []) (seen now) number → now.made ≡ was.made ++ (command ∷ []) ∷ [] → Submits was command now (numbered_line (codes "ok ") number)
submits_accepted was now command number on same accepted made = record {
  stays = record { book = same.0; session = same.1; goes_on = on };
  made = (command ∷ []) ∷ [];
  submitted =
      inr (inr (inr (inr (record {
        between = accepted.between;
        version = accepted.version;
        goes_on = accepted.goes_on;
        only = refl;
        says = ap (numbered_line (codes "ok ")) (sym accepted.numbered);
      }))));
  only = made;
}

refused_as : (o : Option Refusal) (fault : VersionFault) → option_map version_fault.version_fault_of o ≡ Some fault → (refusal : Refusal) × (o ≡ Some refusal) × (fault ≡ Layer (fault_of refusal))
refused_as None fault e = absurd (cc)
refused_as (Some refusal) fault e = (refusal, refl, cc)

-- a session that was refused makes nothing
pub made_none : {F : Type 0} (gone fault : F) (was now : Known) → LeavesSession gone was now fault → now.made ≡ was.made
made_none gone fault was now (inl there) = ap (λ (k : Known). k.made) there.1
made_none gone fault was now (inr there) = there.1

submit_refused : (was now : Known) (command : Command) (fault : BookFault) → IsCommandRefused true (newest (seen now)) command fault
    → IsRefused OutOfMemory [] (error_line (command_fault_of fault)) ⊎ IsSubmitted was.session (seen was) command (seen now) [] (error_line (command_fault_of fault))
submit_refused was now command (book.Version wrong) (inl memory) = inl (record { nothing_made = refl; says = ap (λ w. error_line (Version w)) memory.0 })
submit_refused was now command (book.Version wrong) (inr by) =
    let r = refused_as (refusal_at (newest (seen now)).number (newest (seen now)).layers command) wrong by in
    inr (inr (inr (inl (r.0, r.1, record { nothing_made = refl; says = ap (λ w. error_line (Version w)) r.2 }))))
submit_refused was now command book.Closing refused = inr (inl (refused_so Closing))
submit_refused was now command book.Gone refused = inr (inr (inl (refused_so Gone)))
submit_refused was now command book.NoStore refused = absurd refused
submit_refused was now command (book.Store fault) refused = absurd refused

pub submits_refused : (was now : Known) (command : Command) (fault : BookFault) → BeginsWith (seen now) (seen was) → (now.book ≡ was.book) × (now.session ≡ was.session)
    → LeavesSession book.Gone was now fault → IsCommandRefused true (newest (seen now)) command fault
    → (reported : CommandFault) → reported ≡ command_fault_of fault → Submits was command now (error_line reported)
submits_refused was now command fault on same unchanged refused reported is =
    let stays : Stays was now = record { book = same.0; session = same.1; goes_on = on } in
    subst (λ (f : CommandFault). Submits was command now (error_line f)) (sym is) (record {
      stays = stays;
      made = [];
      submitted = submit_refused was now command fault refused;
      only = makes_nothing was now stays (made_none book.Gone fault was now unchanged);
    })

-- ==== Batches

pub submits_all_accepted : (was now : Known) (commands : Batch) (number : ℕ) → BeginsWith (seen now) (seen was) → (now.book ≡ was.book) × (now.session ≡ was.session)
    → IsAccepted was.session (seen was) commands (seen now) number → now.made ≡ was.made ++ commands ∷ [] → SubmitsAll was commands now (numbered_line (codes "ok ") number)
submits_all_accepted was now commands number on same accepted made = record {
  stays = record { book = same.0; session = same.1; goes_on = on };
  made = commands ∷ [];
  submitted =
      inr (inr (inr (inr (record {
        between = accepted.between;
        version = accepted.version;
        goes_on = accepted.goes_on;
        only = refl;
        says = ap (numbered_line (codes "ok ")) (sym accepted.numbered);
      }))));
  only = made;
}

refusal_reported : (refusal : BatchRefusal) → IsRefusedBatch refusal [] (batch_fault_text (batch_faults.batch_fault_of refusal))
refusal_reported (at place reason) = record { nothing_made = refl; says = ap (refused_line place) (numbered_reason reason) }
refusal_reported (whole reason) = record { nothing_made = refl; says = ap error_line (numbered_reason reason) }

batch_refused_by : (was now : Known) (commands : Batch) (fault : BatchFault)
    → RefusedAllBy (batch_refusal_at (newest (seen now)).number (newest (seen now)).layers commands) fault
    → IsRefused OutOfMemory [] (batch_fault_text fault) ⊎ IsSubmittedAll was.session (seen was) commands (seen now) [] (batch_fault_text fault)
batch_refused_by was now commands fault (inl memory) = inl (record { nothing_made = refl; says = ap batch_fault_text memory.0 })
batch_refused_by was now commands fault (inr by) =
    let r = batch_reported (batch_refusal_at (newest (seen now)).number (newest (seen now)).layers commands) fault by in
    inr (inr (inr (inl (r.0, r.1, subst (λ (f : BatchFault). IsRefusedBatch r.0 [] (batch_fault_text f)) (sym r.2) (refusal_reported r.0)))))

submit_all_refused : (was now : Known) (commands : Batch) (fault : BatchFault) → IsBatchRefused true (newest (seen now)) commands fault
    → IsRefused OutOfMemory [] (batch_fault_text fault) ⊎ IsSubmittedAll was.session (seen was) commands (seen now) [] (batch_fault_text fault)
submit_all_refused was now commands fault (inl gone) = inr (inr (inl (record { nothing_made = refl; says = ap batch_fault_text gone })))
submit_all_refused was now commands fault (inr (inl closing)) = inr (inl (record { nothing_made = refl; says = ap batch_fault_text closing.1 }))
submit_all_refused was now commands fault (inr (inr by)) = batch_refused_by was now commands fault by

pub submits_all_refused : (was now : Known) (commands : Batch) (fault : BatchFault) → BeginsWith (seen now) (seen was) → (now.book ≡ was.book) × (now.session ≡ was.session)
    → LeavesSession (gone_whole book.Gone) was now fault → IsBatchRefused true (newest (seen now)) commands fault
    → (reply : List ℕ) → reply ≡ batch_fault_text fault → SubmitsAll was commands now reply
submits_all_refused was now commands fault on same unchanged refused reply is =
    let stays : Stays was now = record { book = same.0; session = same.1; goes_on = on } in
    subst (SubmitsAll was commands now) (sym is) (record {
      stays = stays;
      made = [];
      submitted = submit_all_refused was now commands fault refused;
      only = makes_nothing was now stays (made_none (gone_whole book.Gone) fault was now unchanged);
    })

-- the lines of a batch are read, and the batch is submitted
pub answers_all : (was now : Known) (commands : Batch) (reply : List ℕ) → SubmitsAll was commands now reply → AnswersAll was (Ok commands) now reply
answers_all was now commands reply s = record {
  stays = s.stays;
  answered = λ requests read. record {
    made = s.made;
    answered = elim s.submitted [ inl memory ↦ inl memory | inr by ↦ inr (inr (commands, read, by)) ];
    only = s.only;
  };
}

-- one of them is no command, or memory ran out for one
unread_answered : (me : Known) (fault : LinesFault) (requests : List Request) → AreRead requests (Err fault) → IsAnswerToAll me requests me (lines_reported fault)
unread_answered me (Unread place fault) requests first = record {
  made = [];
  answered = inr (inl (place, fault, first, record { nothing_made = refl; says = refl }));
  only = makes_nothing me me (stays_self me) refl;
}
unread_answered me NoMemory requests none =
    record { made = []; answered = inl (refused_so OutOfMemory); only = makes_nothing me me (stays_self me) refl }

pub answers_unread : (me : Known) (fault : LinesFault) (reply : List ℕ) → reply ≡ lines_reported fault → AnswersAll me (Err fault) me reply
answers_unread me fault reply is =
    subst (AnswersAll me (Err fault) me) (sym is) (record { stays = stays_self me; answered = unread_answered me fault })

-- ==== PUT, DEFINE, DROP

pub answers_put : (stored : BookStore) (was now : Known) (name text : List ℕ) (command : Command) (reply : List ℕ)
    → IsCommandOf (put_text name text) command → Submits was command now reply → Answers stored was (put_text name text) now reply
answers_put stored was now name text command reply is s = record {
  stays = s.stays;
  made = s.made;
  answered =
      elim s.submitted [
        | inl memory ↦ inl (is.0, memory)
        | inr by ↦ inr (inr (command, is, by))
      ];
  only = s.only;
}

pub answers_define : (stored : BookStore) (was now : Known) (name text : List ℕ) (command : Command) (reply : List ℕ)
    → IsCommandOf (define_text name text) command → Submits was command now reply → Answers stored was (define_text name text) now reply
answers_define stored was now name text command reply is s = record {
  stays = s.stays;
  made = s.made;
  answered =
      elim s.submitted [
        | inl memory ↦ inl (is.0, memory)
        | inr by ↦ inr (inr (command, is, by))
      ];
  only = s.only;
}

pub answers_remove : (stored : BookStore) (was now : Known) (name : List ℕ) (command : Command) (reply : List ℕ)
    → IsCommandOf (remove_name name) command → Submits was command now reply → Answers stored was (remove_name name) now reply
answers_remove stored was now name command reply is s = record {
  stays = s.stays;
  made = s.made;
  answered =
      elim s.submitted [
        | inl memory ↦ inl (is.0, memory)
        | inr by ↦ inr (inr (command, is, by))
      ];
  only = s.only;
}

pub put_refused : (stored : BookStore) (me : Known) (name text : List ℕ) (fault : CommandFault) → IsMemory name fault ⊎ IsNoCommand (put_text name text) fault → Answers stored me (put_text name text) me (error_line fault)
put_refused stored me name text fault refused =
    answers_there stored me (put_text name text) (error_line fault)
    (elim refused [
      | inl memory ↦ inl (memory.0, record { nothing_made = refl; says = memory.1 })
      | inr by ↦ inr (inl (fault, by, refused_so fault))
    ])

pub define_refused : (stored : BookStore) (me : Known) (name text : List ℕ) (fault : CommandFault) → IsMemory name fault ⊎ IsNoCommand (define_text name text) fault → Answers stored me (define_text name text) me (error_line fault)
define_refused stored me name text fault refused =
    answers_there stored me (define_text name text) (error_line fault)
    (elim refused [
      | inl memory ↦ inl (memory.0, record { nothing_made = refl; says = memory.1 })
      | inr by ↦ inr (inl (fault, by, refused_so fault))
    ])

pub remove_refused : (stored : BookStore) (me : Known) (name : List ℕ) (fault : CommandFault) → IsNoName name fault → Answers stored me (remove_name name) me (error_line fault)
remove_refused stored me name fault refused =
    answers_there stored me (remove_name name) (error_line fault) (inr (inl (fault, refused, refused_so fault)))

-- ==== LOCATE

-- numbers that are read back from their bits
pub query_read : (x y w x' y' w' : ℤ) → x' ≡ x → y' ≡ y → w' ≡ w → IsQuery x' y' w' → IsQuery x y w
query_read x y w x' y' w' ex ey ew query =
    subst (λ (v : ℤ). IsQuery v y w) ex (subst (λ (v : ℤ). IsQuery x' v w) ey (subst (λ (v : ℤ). IsQuery x' y' v) ew query))

pub point_read : (x y w x' y' w' : ℤ) (p : Point) → x' ≡ x → y' ≡ y → w' ≡ w → p ≡ record { x = x'; y = y'; w = w' } → p ≡ record { x = x; y = y; w = w }
point_read x y w x' y' w' p ex ey ew is =
    let P : ℤ → ℤ → ℤ → Type 0 = λ a b c. p ≡ record { x = a; y = b; w = c } in
    subst (λ (v : ℤ). P v y w) ex (subst (λ (v : ℤ). P x' v w) ey (subst (λ (v : ℤ). P x' y' v) ew is))

pub locate_unnamed : (stored : BookStore) (me : Known) (name : List ℕ) (x y w : ℤ) (fault : CommandFault) → IsNoName name fault → Answers stored me (locate name x y w) me (error_line fault)
locate_unnamed stored me name x y w fault refused = answers_there stored me (locate name x y w) (error_line fault) (inr (refl, unnamed name fault _ refused))

pub locate_out_of_range : (stored : BookStore) (me : Known) (name : List ℕ) (x y w : ℤ) → IsTrue (is_name name) → ¬ (IsQuery x y w) → Answers stored me (locate name x y w) me (error_line (Query PointRange))
locate_out_of_range stored me name x y w named out =
    answers_there stored me (locate name x y w) (error_line (Query PointRange)) (inr (refl, inr (named, inl (out, refl))))

-- a test that cannot hold
pub unknown_stands : (b : Bool) → (b ≡ true → false ≡ true) → b ≡ false
unknown_stands true never = absurd (false≢true (never refl))
unknown_stands false never = refl

-- a grid whose numbers are read back from their bits
pub size_read : (step nx ny step' nx' ny' : ℤ) → step' ≡ step → nx' ≡ nx → ny' ≡ ny → IsGridSize step' nx' ny' → IsGridSize step nx ny
size_read step nx ny step' nx' ny' es ex ey size =
    subst (λ (v : ℤ). IsGridSize v nx ny) es (subst (λ (v : ℤ). IsGridSize step' v ny) ex (subst (λ (v : ℤ). IsGridSize step' nx' v) ey size))

pub points_read : (x y step nx ny x' y' step' nx' ny' : ℤ) (g : Grid) → x' ≡ x → y' ≡ y → step' ≡ step → nx' ≡ nx → ny' ≡ ny
    → g ≡ grid_with x' y' step' nx' ny' → g ≡ grid_with x y step nx ny
points_read x y step nx ny x' y' step' nx' ny' g ex ey es ew eh is =
    let P : ℤ → ℤ → ℤ → ℤ → ℤ → Type 0 = λ a b c d e. g ≡ grid_with a b c d e in
    subst (λ (v : ℤ). P v y step nx ny) ex
    (subst (λ (v : ℤ). P x' v step nx ny) ey
    (subst (λ (v : ℤ). P x' y' v nx ny) es
    (subst (λ (v : ℤ). P x' y' step' v ny) ew
    (subst (λ (v : ℤ). P x' y' step' nx' v) eh is))))

pub grid_unnamed : (stored : BookStore) (me : Known) (name : List ℕ) (x y step nx ny : ℤ) (fault : CommandFault) → IsNoName name fault
    → Answers stored me (grid name x y step nx ny) me (error_line fault)
grid_unnamed stored me name x y step nx ny fault refused = answers_there stored me (grid name x y step nx ny) (error_line fault) (inr (refl, unnamed name fault _ refused))

pub grid_of_no_size : (stored : BookStore) (me : Known) (name : List ℕ) (x y step nx ny : ℤ) → IsTrue (is_name name) → ¬ (IsGridSize step nx ny)
    → Answers stored me (grid name x y step nx ny) me (error_line GridSize)
grid_of_no_size stored me name x y step nx ny named out =
    answers_there stored me (grid name x y step nx ny) (error_line GridSize) (inr (refl, inr (named, inl (out, refl))))

-- a question that is refused, and one that is not
pub asked_some : {F : Type 0} (as_reported : F → CommandFault) (o : Option F) (wrong : F) (T : Type 0) → o ≡ Some wrong → Asked (option_map as_reported o) (error_line (as_reported wrong)) T
asked_some as_reported o wrong T is = subst (λ r. Asked (option_map as_reported r) (error_line (as_reported wrong)) T) (sym is) refl

pub asked_none : {F : Type 0} (as_reported : F → CommandFault) (o : Option F) (reply : List ℕ) (T : Type 0) → o ≡ None → T → Asked (option_map as_reported o) reply T
asked_none as_reported o reply T is answered = subst (λ r. Asked (option_map as_reported r) reply T) (sym is) answered

-- what holds of a version, a name and a grid holds of the newest version, of the name as it was read and of the grid as it was asked for
pictured : (P : versions.Version → List ℕ → Grid → Type 0) (version new : versions.Version) (known name : List ℕ) (g points : Grid)
    → version ≡ new → known ≡ name → g ≡ points → P version known g → P new name points
pictured P version new known name g points is same asked h =
    subst (λ v. P v name points) is (subst (λ m. P version m points) same (subst (λ p. P version known p) asked h))

module _ (was now : Known) (stays : Stays was now) (made : now.made ≡ was.made) where
  pub locate_gone : (stored : BookStore) (name : List ℕ) (x y w : ℤ) (fault : CommandFault) → IsTrue (is_name name) → IsQuery x y w → fault ≡ Gone → Answers stored was (locate name x y w) now (error_line fault)
  locate_gone stored name x y w fault named query gone =
      answers_so was now stays made stored (locate name x y w) (error_line fault) (inr (refl, inr (named, inr (inl (query, ap error_line gone)))))

  pub locate_refused : (stored : BookStore) (name known : List ℕ) (x y w : ℤ) (version : versions.Version) (wrong : VersionFault) → version ≡ newest (seen now)
      → known ≡ name → IsTrue (is_name name) → IsQuery x y w → (wrong ≡ Layer layer_fault.UnknownLayer) × (stands version.layers known ≡ false)
      → Answers stored was (locate name x y w) now (error_line (Version wrong))
  locate_refused stored name known x y w version wrong is same named query unknown =
      let there : stands (newest (seen now)).layers name ≡ false =
      ap (λ (v : versions.Version). stands v.layers name) (sym is) ∙ ap (stands version.layers) (sym same) ∙ unknown.1 in
      answers_so was now stays made stored (locate name x y w) (error_line (Version wrong))
      (inr (refl, inr (named, inr (inr (inl (query, there, ap (λ f. error_line (Version f)) unknown.0))))))

  pub locate_reported : (stored : BookStore) (name known : List ℕ) (x y w : ℤ) (p : Point) (version : versions.Version) (place : Location) → version ≡ newest (seen now)
      → known ≡ name → p ≡ record { x = x; y = y; w = w } → IsTrue (is_name name) → IsQuery x y w → IsTrue (stands version.layers known)
      → place ≡ answer_at version.layers known p → Answers stored was (locate name x y w) now (location_line place)
  locate_reported stored name known x y w p version place is same point named query stood right =
      let there : stands (newest (seen now)).layers name ≡ true =
      ap (λ (v : versions.Version). stands v.layers name) (sym is) ∙ ap (stands version.layers) (sym same) ∙ stood in
      let reported : place ≡ answer_at (newest (seen now)).layers name (record { x = x; y = y; w = w }) =
      right
      ∙ ap (λ n. answer_at version.layers n p) same ∙ ap (answer_at version.layers name) point
      ∙ ap (λ (v : versions.Version). answer_at v.layers name (record { x = x; y = y; w = w })) is in
      answers_so was now stays made stored (locate name x y w) (location_line place)
      (inr (refl, inr (named, inr (inr (inr (query, there, ap location_line reported))))))

  -- ==== GRID

  pub grid_gone : (stored : BookStore) (name : List ℕ) (x y step nx ny : ℤ) (fault : CommandFault) → IsTrue (is_name name) → IsGridSize step nx ny → fault ≡ Gone
      → Answers stored was (grid name x y step nx ny) now (error_line fault)
  grid_gone stored name x y step nx ny fault named size gone =
      answers_so was now stays made stored (grid name x y step nx ny) (error_line fault) (inr (refl, inr (named, inr (inl (size, ap error_line gone)))))

  pub grid_refused : (stored : BookStore) (name known : List ℕ) (x y step nx ny : ℤ) (g : Grid) (version : versions.Version) (wrong : GridFault) → version ≡ newest (seen now)
      → known ≡ name → g ≡ grid_with x y step nx ny → IsTrue (is_name name) → IsGridSize step nx ny
      → RefusedBy (picture.Layer layer_fault.OutOfMemory) (grid_refusal version.layers known g) wrong
      → Answers stored was (grid name x y step nx ny) now (error_line (of_grid wrong))
  grid_refused stored name known x y step nx ny g version wrong is same points named size refused =
      answers_so was now stays made stored (grid name x y step nx ny) (error_line (of_grid wrong))
      (elim refused [
        | inl memory ↦ inl (named, record { nothing_made = refl; says = ap (λ f. error_line (of_grid f)) memory.0 })
        | inr by ↦
            inr (
              refl,
              inr (
                named,
                inr (inr (
                  size,
                  asked_some of_grid _ wrong _
                      (pictured (λ v m p. grid_refusal v.layers m p ≡ Some wrong) version (newest (seen now)) known name g (grid_with x y step nx ny) is same points by),
                )),
              ),
            )
      ])

  pub grid_reported : (stored : BookStore) (name known : List ℕ) (x y step nx ny : ℤ) (g : Grid) (version : versions.Version) (text : List ℕ) → version ≡ newest (seen now)
      → known ≡ name → g ≡ grid_with x y step nx ny → IsTrue (is_name name) → IsGridSize step nx ny → grid_refusal version.layers known g ≡ None
      → text ≡ grid_text version.layers known g → Answers stored was (grid name x y step nx ny) now text
  grid_reported stored name known x y step nx ny g version text is same points named size free reported =
      let there = pictured (λ v m p. grid_refusal v.layers m p ≡ None) version (newest (seen now)) known name g (grid_with x y step nx ny) is same points free in
      let drawn = pictured (λ v m p. text ≡ grid_text v.layers m p) version (newest (seen now)) known name g (grid_with x y step nx ny) is same points reported in
      answers_so was now stays made stored (grid name x y step nx ny) text
      (inr (refl, inr (named, inr (inr (size, asked_none of_grid _ text _ there drawn)))))

  -- ==== LAYERS

  pub list_gone : (stored : BookStore) (fault : CommandFault) → fault ≡ Gone → Answers stored was list_layers now (error_line fault)
  list_gone stored fault gone = answers_so was now stays made stored list_layers (error_line fault) (inr (refl, inl (ap error_line gone)))

  pub list_no_memory : (stored : BookStore) → Answers stored was list_layers now (error_line OutOfMemory)
  list_no_memory stored = answers_so was now stays made stored list_layers (error_line OutOfMemory) (inl (refl, refused_so OutOfMemory))

  pub list_reported : (stored : BookStore) (version : versions.Version) (text : List ℕ) → version ≡ newest (seen now) → text ≡ layers_text version.layers → Answers stored was list_layers now text
  list_reported stored version text is reported =
      answers_so was now stays made stored list_layers text
      (inr (refl, inr (reported ∙ ap (λ (v : versions.Version). layers_text v.layers) is)))

-- ==== Lines

-- a line that belongs to a batch, or begins one, has no reply
pub takes_waiting : (stored : BookStore) (me : Known) (old new : Option OpenBatch) (line : List ℕ) → TakesLine old (request_of line) new Waits → TakesTurn stored me old line me new []
takes_waiting stored me old new line taken = record {
  stays = stays_self me;
  taken = λ waiting there.
      let t = taken waiting there in
      record { waits = t.open_then; answered = subst (λ (turns : List Turn). IsSharedRun stored me turns me []) (sym t.ended) (run-none stored me) };
}

-- a line alone is answered as what it asks for
pub takes_alone : (stored : BookStore) (was now : Known) (old new : Option OpenBatch) (line : List ℕ) (asked : code.Request) (reply : List ℕ)
    → TakesLine old (request_of line) new (Alone asked) → Answers stored was (request asked) now reply → TakesTurn stored was old line now new reply
takes_alone stored was now old new line asked reply taken answers = record {
  stays = answers.stays;
  taken = λ waiting there.
      let t = taken waiting there in
      record {
        waits = t.open_then;
        answered = subst (λ (turns : List Turn). IsSharedRun stored was turns now reply) (sym t.ended)
            (run-one stored was now (alone (request asked)) answers.made reply (record { goes_on = answers.stays.goes_on; answered = answers.answered }) answers.only);
      };
}

-- the last line of a batch is answered as all of its lines
pub takes_whole : (stored : BookStore) (was now : Known) (old new : Option OpenBatch) (line : List ℕ) (read : Result Batch LinesFault) (reply : List ℕ)
    → TakesLine old (request_of line) new (Whole read) → AnswersAll was read now reply → TakesTurn stored was old line now new reply
takes_whole stored was now old new line read reply taken answers = record {
  stays = answers.stays;
  taken = λ waiting there.
      let t = taken waiting there in
      let (requests, ended, are) = t.ended in
      let a = answers.answered requests are in
      record {
        waits = t.open_then;
        answered = subst (λ (turns : List Turn). IsSharedRun stored was turns now reply) (sym ended)
            (run-one stored was now (together requests) a.made reply (record { goes_on = answers.stays.goes_on; answered = a.answered }) a.only);
      };
}

-- which turn a line ends
pub ends_none : (me : Known) (old new : Option OpenBatch) (line : List ℕ) → TakesLine old (request_of line) new Waits → EndsTurn old line me me None
ends_none me old new line taken = (refl, λ waiting there. (taken waiting there).ended)

module _ (was now : Known) (old new : Option OpenBatch) (line : List ℕ) where
  pub ends_alone : (asked : code.Request) (reply : LineReply) → TakesLine old (request_of line) new (Alone asked) → EndsTurn old line was now (Some reply)
  ends_alone asked reply taken = λ waiting there. (alone (request asked), (taken waiting there).ended)

  pub ends_whole : (read : Result Batch LinesFault) (reply : LineReply) → TakesLine old (request_of line) new (Whole read) → EndsTurn old line was now (Some reply)
  ends_whole read reply taken = λ waiting there.
      let (requests, ended, are) = (taken waiting there).ended in
      (together requests, ended)

-- The replies of a script: for each line, and for each batch of lines, a history that goes on from the one before, and
-- the reply at its newest version. `stored` is what is known of the book's store.
use Rattle.std.specs.Prelude.{◌≡◌, ◌<◌, ◌≤◌, ℕ, ℤ, ◌⊎◌, [], ◌∷◌, ◌++◌}
use Rattle.std.specs.Prelude.{pos, negsuc, Bool, true, false, IsTrue, List, codes}
use Rattle.std.specs.Prelude.{Option, Some, None, option_map, MatchOption}
use Rattle.overlay_terms.specs.Layers.{answer_at}
use Rattle.overlay_terms.specs.Commands.{Refusal, Command, stands, refusal_at}
use Rattle.overlay_terms.specs.Batches.{Batch, BatchRefusal, at, whole, batch_refusal_at}
use Rattle.overlay_terms.specs.Column.{column_numbered}
use Rattle.overlay_terms.specs.Histories.{Event, accepted, Entry, History, GoesOnBy, BeginsWith, newest}
use Rattle.overlay_terms.specs.Histories as versions
use Rattle.exact_point.specs.Query.{IsQuery}
use Rattle.exact_point.specs.declared.fault.PointFault.TheVariants.{PointRange}
use Rattle.layer_expr.specs.Name.{is_name}
use Rattle.layer_expr.specs.declared.fault.ExprFault.TheVariants.{BadName}
use Rattle.layer_book.specs.Fault.{fault_of}
use Rattle.layer_book.specs.declared.fault.LayerFault.TheVariants.{UnknownLayer, BatchSize}
use Rattle.layer_book.specs.Listing.{layers_text}
use Rattle.versions.specs.declared.fault.VersionFault.TheVariants.{Layer}
use Rattle.version_core.specs.declared.verifying.Verdict.{Verdict}
use Rattle.version_core.specs.Edges.{edges_refusal, finished_refusal, AreEdges}
use Rattle.version_core.specs.Verdict.{IsVerdict}
use Rattle.versions.specs.Building.{IsBuilt, wait_refusal}
use Rattle.overlay_grid.specs.Grid.{IsGridSize, grid_with, grid_refusal, grid_text}
use Rattle.script_form.specs.declared.fault.CommandFault.{CommandFault}
use Rattle.script_form.specs.declared.fault.CommandFault.TheVariants.{Expression, Query, Version, Device}
use Rattle.script_form.specs.declared.fault.CommandFault.TheVariants.{Full, StoreFailed, SequenceLimit}
use Rattle.script_form.specs.declared.fault.CommandFault.TheVariants.{OutOfMemory, CommandSyntax, LineTooLong}
use Rattle.script_form.specs.declared.fault.CommandFault.TheVariants.{Closing, Gone, GridSize, NoStore}
use Rattle.script_form.specs.BatchLines.{AreCommandsOf, IsCommandOf, IsFirstUnread, IsNoCommand}
use Rattle.script_form.specs.Fault.{of_grid}
use Rattle.script_form.specs.Requests.{Request, nothing, too_long, malformed, put_text, define_text}
use Rattle.script_form.specs.Requests.{remove_name, locate, grid, list_layers, edges, wait, verify, sync, batch}
use Rattle.script_form.specs.Turns.{Turn, alone, together, cut_off}
use Rattle.script_form.specs.Replies.{numbered_line, error_line, refused_line, location_line, verdict_line}

-- what a session reports of a store: the durable number, or the fault for which the newest version is not durable
pub data StoreReport : Type 0 where
  of_number : StoreReport
  of_fault : CommandFault → StoreReport

-- what is known of the store of a book: whether there is one, and what may be reported of it at which history
pub record BookStore : Type 1 where
  pub there : Bool
  pub reported : History → StoreReport → Type 0

-- a store, by what may be reported of it and whether it is there
abbrev pub store_by : (History → StoreReport → Type 0) → Bool → BookStore
store_by reported there = record { there = there; reported = reported }

-- an answer alone: nothing is made, and the reply is this text
pub record AnswersOnly (text : List ℕ) (made : List Batch) (reply : List ℕ) : Type 0 where
  pub nothing_made : made ≡ []
  pub says : reply ≡ text

-- a refused line: nothing is made, and the reply is the fault
abbrev pub IsRefused : CommandFault → List Batch → List ℕ → Type 0
IsRefused fault made reply = AnswersOnly (error_line fault) made reply

-- an accepted batch: the newest entry is this session's, and the reply is its version's number
pub record IsAcceptedBy (session : ℕ) (before : History) (commands : Batch) (after : History) (made : List Batch) (reply : List ℕ) : Type 0 where
  pub between : List Entry
  pub version : versions.Version
  pub goes_on : GoesOnBy before (between ++ record { event = accepted session commands; version = version } ∷ []) after
  pub only : made ≡ commands ∷ []
  pub says : reply ≡ numbered_line (codes "ok ") version.number

-- a command: refused by the first reason at the newest version, or accepted; or the book closes, or is not as far
abbrev pub IsSubmitted : ℕ → History → Command → History → List Batch → List ℕ → Type 0
IsSubmitted session before command after made reply =
    IsRefused Closing made reply
    ⊎ IsRefused Gone made reply
    ⊎ ((refusal : Refusal) × (refusal_at (newest after).number (newest after).layers command ≡ Some refusal) × IsRefused (Version (Layer (fault_of refusal))) made reply)
    ⊎ IsAcceptedBy session before (command ∷ []) after made reply

-- a batch that is refused for one of its commands, by its place and its fault, or as a whole
abbrev pub IsRefusedBatch : BatchRefusal → List Batch → List ℕ → Type 0
IsRefusedBatch (at place reason) made reply = AnswersOnly (refused_line place (Version (Layer (fault_of reason)))) made reply
IsRefusedBatch (whole reason) made reply = IsRefused (Version (Layer (fault_of reason))) made reply

-- a batch of commands: refused by the first reason that applies at the newest version, or accepted; or the book closes,
-- or has not reached what was seen
abbrev pub IsSubmittedAll : ℕ → History → Batch → History → List Batch → List ℕ → Type 0
IsSubmittedAll session before commands after made reply =
    IsRefused Closing made reply
    ⊎ IsRefused Gone made reply
    ⊎ ((refusal : BatchRefusal) × (batch_refusal_at (newest after).number (newest after).layers commands ≡ Some refusal) × IsRefusedBatch refusal made reply)
    ⊎ IsAcceptedBy session before commands after made reply

-- a question with a name: refused where it is no name, else answered
abbrev pub WithName : List ℕ → List ℕ → Type 0 → Type 0
WithName name reply answered =
    ((is_name name ≡ false) × (reply ≡ error_line (Expression BadName))) ⊎ (IsTrue (is_name name) × answered)

-- a question: refused by the first reason that applies, or answered
abbrev pub Asked : Option CommandFault → List ℕ → Type 0 → Type 0
Asked reason reply answered = MatchOption reason answered (λ fault. reply ≡ error_line fault)

-- the column with a number as it was asked for, if there is one; none has a number below 0
abbrev pub asked_column : ℤ → Option ℕ
asked_column (pos k) = column_numbered k
asked_column (negsuc k) = None

-- what a store, or a book that closes before its store is done, says of a version that is not durable
abbrev pub IsOfStore : CommandFault → Type 0
IsOfStore fault =
    (fault ≡ Device) ⊎ (fault ≡ Full) ⊎ (fault ≡ StoreFailed) ⊎ (fault ≡ SequenceLimit) ⊎ (fault ≡ OutOfMemory) ⊎ (fault ≡ Closing)

-- the version that had been seen is durable, and the reply is the durable number, which may be reported
pub record IsDurableReported (stored : BookStore) (asked : ℕ) (after : History) (made : List Batch) (reply : List ℕ) : Type 0 where
  pub nothing_made : made ≡ []
  pub reached : asked ≤ (newest after).durable
  pub may : stored.reported after of_number
  pub says : reply ≡ numbered_line (codes "durable ") (newest after).durable

-- the version that had been seen is not durable, for what the store says, which may be reported
pub record IsNotDurable (stored : BookStore) (asked : ℕ) (after : History) (made : List Batch) (reply : List ℕ) : Type 0 where
  pub behind : (newest after).durable < asked
  pub fault : CommandFault
  pub of_store : IsOfStore fault
  pub may : (fault ≡ Closing) ⊎ stored.reported after (of_fault fault)
  pub refused : IsRefused fault made reply

-- whether the version that a session had seen is durable: where the book has no store, nobody can say
abbrev pub IsSynced : BookStore → ℕ → History → List Batch → List ℕ → Type 0
IsSynced stored asked after made reply =
    ((stored.there ≡ false) × IsRefused NoStore made reply)
    ⊎ IsRefused Gone made reply
    ⊎ (IsTrue stored.there × IsDurableReported stored asked after made reply)
    ⊎ (IsTrue stored.there × IsNotDurable stored asked after made reply)

-- a PUT, a DEFINE or a DROP: refused where it is no command, else submitted
abbrev pub IsChanged : ℕ → History → Request → History → List Batch → List ℕ → Type 0
IsChanged session before request after made reply =
    ((fault : CommandFault) × IsNoCommand request fault × IsRefused fault made reply)
    ⊎ ((command : Command) × IsCommandOf request command × IsSubmitted session before command after made reply)

-- the reply to a question, which neither changes layers nor asks the store, by a version: none to a line that is skipped;
-- where a point lies; a picture; all layers; the pieces of a tile; that no tile of a layer is pending, or that the book
-- closed before; whether a finished tile is that of its present input. Gone: the book has not reached what was seen, or
-- cannot show a version. A BATCH line that begins no batch has no size of one
abbrev pub IsReplyTo : Request → versions.Version → List ℕ → Type 0
IsReplyTo nothing version reply = reply ≡ []
IsReplyTo too_long version reply = reply ≡ error_line LineTooLong
IsReplyTo malformed version reply = reply ≡ error_line CommandSyntax
IsReplyTo (locate name x y w) version reply =
    WithName name reply
    ((¬ (IsQuery x y w) × (reply ≡ error_line (Query PointRange)))
    ⊎ (IsQuery x y w × (reply ≡ error_line Gone))
    ⊎ (IsQuery x y w × (stands version.layers name ≡ false) × (reply ≡ error_line (Version (Layer UnknownLayer))))
    ⊎ (IsQuery x y w × IsTrue (stands version.layers name)
    × (reply ≡ location_line (answer_at version.layers name (record { x = x; y = y; w = w })))))
IsReplyTo (grid name x y step nx ny) version reply =
    WithName name reply
    ((¬ (IsGridSize step nx ny) × (reply ≡ error_line GridSize))
    ⊎ (IsGridSize step nx ny × (reply ≡ error_line Gone))
    ⊎ (IsGridSize step nx ny
    × Asked (option_map of_grid (grid_refusal version.layers name (grid_with x y step nx ny))) reply
    (reply ≡ grid_text version.layers name (grid_with x y step nx ny))))
IsReplyTo list_layers version reply = (reply ≡ error_line Gone) ⊎ (reply ≡ layers_text version.layers)
IsReplyTo (edges name k) version reply =
    WithName name reply
    ((reply ≡ error_line Gone)
    ⊎ Asked (option_map Version (edges_refusal version name (asked_column k))) reply
    (AreEdges version name (asked_column k) reply))
IsReplyTo (wait name) version reply =
    WithName name reply
    ((reply ≡ error_line Gone)
    ⊎ Asked (option_map Version (wait_refusal version name)) reply
    ((IsBuilt version name × (reply ≡ numbered_line (codes "built ") version.number))
    ⊎ (¬ (IsBuilt version name) × (reply ≡ error_line Closing))))
IsReplyTo (verify name k) version reply =
    WithName name reply
    ((reply ≡ error_line Gone)
    ⊎ Asked (option_map Version (finished_refusal version name (asked_column k))) reply
    ((verdict : Verdict) × IsVerdict version name (asked_column k) verdict × (reply ≡ verdict_line verdict)))
IsReplyTo (batch size) version reply = reply ≡ error_line (Version (Layer BatchSize))
IsReplyTo other version reply = ⊥

-- what a request makes of the history, what the session makes, and the reply: PUT, DEFINE and DROP change layers; SYNC
-- asks the store; and for a question nothing is made
abbrev pub IsAnswered : BookStore → ℕ → History → Request → History → List Batch → List ℕ → Type 0
IsAnswered stored session before (put_text name text) after made reply =
    IsChanged session before (put_text name text) after made reply
IsAnswered stored session before (define_text name text) after made reply =
    IsChanged session before (define_text name text) after made reply
IsAnswered stored session before (remove_name name) after made reply =
    IsChanged session before (remove_name name) after made reply
IsAnswered stored session before sync after made reply = IsSynced stored (newest before).number after made reply
IsAnswered stored session before question after made reply = (made ≡ []) × IsReplyTo question (newest after) reply

-- the lines of a batch: refused for the first that is no command, or submitted
abbrev pub IsBatchAnswered : ℕ → History → List Request → History → List Batch → List ℕ → Type 0
IsBatchAnswered session before requests after made reply =
    ((place : ℕ) × (fault : CommandFault) × IsFirstUnread requests place fault
    × AnswersOnly (refused_line place fault) made reply)
    ⊎ ((commands : Batch) × AreCommandsOf requests commands × IsSubmittedAll session before commands after made reply)

-- whether a request takes memory: for what it makes or waits for, or for the lines of its reply; none for its name
abbrev pub takes_memory : Request → Bool
takes_memory (put_text name text) = is_name name
takes_memory (define_text name text) = is_name name
takes_memory (remove_name name) = is_name name
takes_memory (grid name x y step nx ny) = is_name name
takes_memory list_layers = true
takes_memory (edges name k) = is_name name
takes_memory (wait name) = is_name name
takes_memory (verify name k) = is_name name
takes_memory other = false

-- memory ran out for a request that takes some: nothing is made, and the reply is that fault
abbrev pub IsOutOfMemory : Request → List Batch → List ℕ → Type 0
IsOutOfMemory request made reply = IsTrue (takes_memory request) × IsRefused OutOfMemory made reply

-- what a turn makes of the history, what the session makes, and the reply, or memory ran out for it; a
-- batch that is cut off is refused
abbrev pub IsTurnAnswered : BookStore → ℕ → History → Turn → History → List Batch → List ℕ → Type 0
IsTurnAnswered stored session before (alone request) after made reply =
    IsOutOfMemory request made reply ⊎ IsAnswered stored session before request after made reply
IsTurnAnswered stored session before (together requests) after made reply =
    IsRefused OutOfMemory made reply ⊎ IsBatchAnswered session before requests after made reply
IsTurnAnswered stored session before (cut_off requests) after made reply = IsRefused CommandSyntax made reply

-- one turn: its history goes on from the one before, and it is answered there
pub record IsTurn (stored : BookStore) (session : ℕ) (before : History) (turn : Turn) (after : History) (made : List Batch) (reply : List ℕ) : Type 0 where
  pub goes_on : BeginsWith after before
  pub answered : IsTurnAnswered stored session before turn after made reply

-- the turns one after another: the replies joined, and all that the session made, from what it had seen
-- before to what it has seen then
abbrev pub IsTranscript : BookStore → ℕ → History → List Turn → History → List Batch → List ℕ → Type 0
IsTranscript stored session seen [] after made replies = (after ≡ seen) × (made ≡ []) × (replies ≡ [])
IsTranscript stored session seen (turn ∷ turns) after made replies =
    (mid : History) × (first : List Batch) × (others : List Batch) × (reply : List ℕ) × (rest : List ℕ)
    × IsTurn stored session seen turn mid first reply
    × IsTranscript stored session mid turns after others rest
    × (made ≡ first ++ others) × (replies ≡ reply ++ rest)

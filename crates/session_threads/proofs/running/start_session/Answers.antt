use denote.Exit.{no}
use denote.Param.{param}
use denote.Param.Send.{arg_send, param_send}
use Rattle.version_book.specs.Store.{has_store}
use Rattle.server_session.specs.Stores.{store_of}
use Rattle.session_threads.proofs.NotBegun.{not_begun_run}
use Rattle.session_threads.proofs.Sent.{ended_send, halting_send, script_send}
use Rattle.session_threads.specs.contracts.running.Script as script
use Rattle.session_threads.proofs.running.start_session.Goals as goal

pub spawn_with-started-requires-send-F : goal.spawn_with-started-requires-send-F
spawn_with-started-requires-send-F g c κs within =
    param_send 2 _ (arg_send _ no _ (halting_send (param 1 g.row.J) (param 2 g.row.S) (param 3 g.row.Q) g.J.BookName c.type_bounds.send-J c.type_bounds.send-S c.type_bounds.sync-Q
    (script.the_row (param 4 g.row.R) (param 5 g.row.W)) (script_send (param 4 g.row.R) (param 5 g.row.W) c.type_bounds.send-R c.type_bounds.send-W) _ _ _ _ _ _ _))

pub spawn_with-started-requires-send-T : goal.spawn_with-started-requires-send-T
spawn_with-started-requires-send-T g c κs within = param_send 3 _ (arg_send _ no _ (ended_send (param 4 g.row.R) (param 5 g.row.W) c.type_bounds.send-R c.type_bounds.send-W))

pub returns-then-is_set : goal.returns-then-is_set
returns-then-is_set g c =
    not_begun_run g.J.BookName.book (store_of g.J.BookName.stored g.J.BookName.failed (has_store c.args.shared.now)) g.R.Read.remaining g.W.ReplyWriter.contents c.args.script c.not_begun.result c.requires.book c.not_begun.ensures

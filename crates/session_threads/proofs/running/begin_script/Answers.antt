use Rattle.version_book.specs.Store.{has_store}
use Rattle.server_session.specs.Stores.{store_of}
use Rattle.session_threads.proofs.NotBegun.{not_begun_run}
use Rattle.session_threads.proofs.running.begin_script.Goals as goal

pub returns-then-is_set : goal.returns-then-is_set
returns-then-is_set g c =
    not_begun_run g.J.BookName.book (store_of g.J.BookName.stored g.J.BookName.failed (has_store c.args.shared.now)) g.R.Read.remaining g.W.ReplyWriter.contents c.args.script c.not_begun.result c.requires.book c.not_begun.ensures

-- What may go from thread to thread, for crates above.
pub use Rattle.book_history.proofs.Sent.{expr_send, expr_sync, layer_send, layer_sync, layers_send, layers_sync, version_send, version_sync, published_send, published_sync, place_send, publisher_send}
pub use Rattle.book_lock.proofs.SentLog.{reporter_send, session_send}

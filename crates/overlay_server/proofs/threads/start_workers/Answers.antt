use denote.Exit.{no}
use denote.Param.{param}
use denote.Param.Send.{arg_send, param_send}
use Rattle.overlay_server.proofs.Sent.{worker_send}
use Rattle.overlay_server.proofs.threads.start_workers.Goals as goal

pub spawn-requires-send-F : goal.spawn-requires-send-F
spawn-requires-send-F g c κs within =
    param_send 1 _ (arg_send _ no _ (worker_send (param 1 g.row.J) (param 2 g.row.S) (param 4 g.row.Q) g.J.BookName c.type_bounds.send-J c.type_bounds.send-S c.type_bounds.sync-Q
    (param 3 g.row.G) c.type_bounds.sync-G _ _ _ _ _ _ _))

use denote.Exit.{no}
use denote.Param.{param}
use denote.Param.Send.{arg_send, param_send}
use Rattle.overlay_server.proofs.Sent.{lent_send}
use Rattle.overlay_server.proofs.threads.run_threads.Goals as goal

pub run_beside-store-requires-send-T : goal.run_beside-store-requires-send-T
run_beside-store-requires-send-T g c κs within =
    let b = c.type_bounds in
    param_send 6 _ (arg_send _ no _ (lent_send (param 0 g.row.J) (param 1 g.row.S) (param 3 g.row.Q) g.J.BookName b.send-J b.send-S b.sync-Q _ (param 6 g.row.D) g.D.Disk b.send-D))

use mir.Syntax.{of_param}
use denote.Exit.{unseen}
use denote.Param.Send.{Quiet-if}
use Rattle.overlay_server.proofs.threads.run_beside.Goals as goal

-- what is asked of the closure, and of each type parameter of which its threads take something with them
pub scoped-requires : goal.scoped-requires
scoped-requires g c =
    let b = c.type_bounds in
    record {
      at = λ a. (
        c.requires,
        (
          record { owned = b.send-J.owned; leaving = λ k. Quiet-if (k (of_param 0)) unseen unseen (λ x w. tt) (λ x w. tt) },
          record { owned = b.send-S.owned; leaving = λ k. Quiet-if (k (of_param 1)) unseen unseen (λ x w. tt) (λ x w. tt) },
          record { owned = b.send-R.owned; leaving = λ k. Quiet-if (k (of_param 4)) unseen unseen (λ x w. tt) (λ x w. tt) },
          record { owned = b.send-W.owned; leaving = λ k. Quiet-if (k (of_param 5)) unseen unseen (λ x w. tt) (λ x w. tt) },
          record { owned = b.send-T.owned; leaving = λ k. Quiet-if (k (of_param 6)) unseen unseen (λ x w. tt) (λ x w. tt) },
          record { shared = b.sync-J.shared },
          record { shared = b.sync-G.shared },
          record { shared = b.sync-Q.shared },
        ),
      );
    }

use Rattle.overlay_server.proofs.threads.fn.run_beside.scope+FnOnce.call_once.Goals as goal

-- what is asked of each type parameter, and what is there to work on
pub scope-requires : goal.scope-requires
scope-requires g c =
    let asked = c.requires.1.1.1.1.1.1.1 in
    let bounds = asked.1 in
    (bounds.0, (bounds.1, (bounds.2, (bounds.3, (bounds.4, (bounds.5, (bounds.6, (bounds.7, asked.0))))))))

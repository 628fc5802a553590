use Rattle.overlay_server.proofs.refusing.only_now.Goals as goal

pub returns : goal.returns
returns g c = λ disk f honest left. g.met.D.Disk.only_now disk f honest left

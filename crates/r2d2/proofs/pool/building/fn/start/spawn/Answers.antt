-- What the new thread is given may be sent to it: each is a parameter of `start`, which asks for it.
use Rattle.r2d2.proofs.pool.building.fn.start.spawn.Goals as goal
use denote.Param.Send.{param_send}

pub work-requires-send-M : goal.work-requires-send-M
work-requires-send-M g c κs within = param_send 1 g.row.M (search (c.requires))

pub work-requires-send-K : goal.work-requires-send-K
work-requires-send-K g c κs within = param_send 2 g.row.K (search (c.requires))

pub work-requires-send-M-Connection : goal.work-requires-send-M-Connection
work-requires-send-M-Connection g c κs within = param_send 4 g.row.M-Connection (search (c.requires))

pub work-requires-send-M-Error : goal.work-requires-send-M-Error
work-requires-send-M-Error g c κs within = param_send 5 g.row.M-Error (search (c.requires))

pub work-requires-send-M-Extension : goal.work-requires-send-M-Extension
work-requires-send-M-Extension g c κs within = param_send 6 g.row.M-Extension (search (c.requires))

pub work-requires-send-M-Extension-Kind : goal.work-requires-send-M-Extension-Kind
work-requires-send-M-Extension-Kind g c κs within = param_send 7 g.row.M-Extension-Kind (search (c.requires))

pub work-requires-send-K-Customizer : goal.work-requires-send-K-Customizer
work-requires-send-K-Customizer g c κs within = param_send 8 g.row.K-Customizer (search (c.requires))

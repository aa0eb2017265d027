use Rattle.pool_machine.proofs.schedule.Schedule.order_uncounted.Given as goal

abbrev pub ghosts-order_from : goal.ghosts-order_from
ghosts-order_from g a = record { name = a.blank.name; parts = a.blank.parts }

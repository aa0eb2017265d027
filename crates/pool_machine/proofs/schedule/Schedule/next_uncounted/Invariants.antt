use Rattle.pool_machine.proofs.schedule.Schedule.next_uncounted.Given as goal

abbrev pub ghosts-next_from : goal.ghosts-next_from
ghosts-next_from g a = record { name = a.blank.name; parts = a.blank.parts }

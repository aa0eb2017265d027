use Rattle.pool_machine.proofs.machine.Core.reap_uncounted.Given as goal

abbrev pub ghosts-reap_from : goal.ghosts-reap_from
ghosts-reap_from g a = record { name = a.blank.name; parts = a.blank.parts }

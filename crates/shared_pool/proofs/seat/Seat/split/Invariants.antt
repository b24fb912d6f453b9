use Rattle.shared_pool.proofs.seat.Seat.split.Given as goal

abbrev pub ghosts-cut : goal.ghosts-cut
ghosts-cut g a = record { amount = a.spare }

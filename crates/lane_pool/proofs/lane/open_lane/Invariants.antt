use Rattle.lane_pool.proofs.lane.open_lane.Given as goal

abbrev pub ghosts-split : goal.ghosts-split
ghosts-split g a = record { world = g.M.Method.world a.method.now; count = g.M.Method.faults a.method.now }

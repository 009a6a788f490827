use Rattle.mencius_board.proofs.run.run_plan.Given as goal

abbrev pub ghosts-run_job : goal.ghosts-run_job
ghosts-run_job g a = record { plan = a.plan.now; first = a.board }

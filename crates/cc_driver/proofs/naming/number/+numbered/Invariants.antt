use Rattle.cc_driver.proofs.naming.number.+numbered.Given as goal

abbrev pub decreases-numbered : goal.decreases-numbered
decreases-numbered l = l.k

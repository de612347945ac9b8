-- What is heard is what was told.
use Rattle.nm_mirror.proofs.mirror.Mirror.hear.Given as goal

abbrev pub ghosts-hear_told : goal.ghosts-hear_told
ghosts-hear_told g a = record { told = a.told }

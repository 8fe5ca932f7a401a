-- What a run reads from the steps of a section: the waits that stand before the next write, and that write.
-- Assumes nothing.
use Rattle.std.specs.Prelude.{ℕ, ◌+◌, List, [], ◌∷◌}
use Rattle.settings.specs.Settings.{Step, write, wait, malformed}

-- the ms of the waits before the next write: waits that stand together add up
abbrev pub waits_before : List Step → ℕ
waits_before [] = 0
waits_before (wait ms ∷ steps) = ms + waits_before steps
waits_before (write register bytes ∷ steps) = 0
waits_before (malformed ∷ steps) = 0

-- the steps from the next write on
abbrev pub from_write : List Step → List Step
from_write [] = []
from_write (wait ms ∷ steps) = from_write steps
from_write (write register bytes ∷ steps) = write register bytes ∷ steps
from_write (malformed ∷ steps) = malformed ∷ steps

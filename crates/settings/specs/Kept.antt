-- A settings file that is kept by value, at the front of as many bytes as the longest one has.
-- Assumes nothing.
use Rattle.std.specs.Prelude.{ℕ, List, length, take, replicate}
use Rattle.lists.specs.Lists.{overlay}
use Rattle.settings.specs.Settings.{longest_file}
use Rattle.settings.specs.declared.Settings.{Settings}

-- the file that is kept
abbrev pub file_in : Settings → List ℕ
file_in settings = take settings.len settings.file

abbrev pub no_settings : Settings
no_settings = record { file = replicate longest_file 0; len = 0 }

abbrev pub kept_settings : (file : List ℕ) → Settings
kept_settings file = record { file = overlay file (replicate longest_file 0); len = length file }

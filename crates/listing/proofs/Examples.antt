-- Document 01's example of a listing.
-- Assumes nothing.
use mathlib.Core.Path.{◌≡◌, refl}
use Rattle.settings.specs.Settings.{required_data, write_of, wait_of, step_of, settings_good}
use Rattle.settings.proofs.Examples.{example}
use Rattle.panel.specs.Registers.{data_length, channel_data, gate_source_level}
use Rattle.listing.specs.Text.{ascii}
use Rattle.listing.specs.Listing.{listing}

pub example_listed :
    listing example
    ≡ ascii "panel 1.44\nstart 2\nwrite 01 00 00 00 00 00 0F FF 00\nwrite 04 03\nstop 1\nwait 15\n"
unfolding listing settings_good step_of write_of wait_of required_data data_length channel_data gate_source_level
example_listed = refl

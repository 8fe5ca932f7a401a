-- What document 003 and the request print, computed.
-- Assumes nothing.
use mathlib.Core.Path.{◌≡◌, refl}
use mathlib.Core.List.{[], ◌∷◌}
use Rattle.hall_commands.specs.Commands.{command_count}
use Rattle.hall_display.specs.Panels.{image_bytes, header}

pub record Worked : Type 0 where
  -- the headers of 6.1; the last has depth 02, where the document's line has a slip
  pub header_13_1 : header 0x3E 1 ≡ 0x3E ∷ 0x06 ∷ 0x40 ∷ 0x04 ∷ 0xB0 ∷ 1 ∷ 0 ∷ 0 ∷ 0 ∷ 0 ∷ 0 ∷ 0 ∷ 0 ∷ 0 ∷ 0 ∷ 0 ∷ []
  pub header_13_2 : header 0x3E 2 ≡ 0x3E ∷ 0x06 ∷ 0x40 ∷ 0x04 ∷ 0xB0 ∷ 2 ∷ 0 ∷ 0 ∷ 0 ∷ 0 ∷ 0 ∷ 0 ∷ 0 ∷ 0 ∷ 0 ∷ 0 ∷ []
  pub header_31_1 : header 0x3F 1 ≡ 0x3F ∷ 0x05 ∷ 0xA0 ∷ 0x0A ∷ 0x00 ∷ 1 ∷ 7 ∷ 0 ∷ 0 ∷ 0 ∷ 0 ∷ 0 ∷ 0 ∷ 0 ∷ 0 ∷ 0 ∷ []
  pub header_31_2 : header 0x3F 2 ≡ 0x3F ∷ 0x05 ∷ 0xA0 ∷ 0x0A ∷ 0x00 ∷ 2 ∷ 7 ∷ 0 ∷ 0 ∷ 0 ∷ 0 ∷ 0 ∷ 0 ∷ 0 ∷ 0 ∷ 0 ∷ []
  -- the images of table 6.1
  pub image_13_1 : image_bytes 0x3E 1 ≡ 240000
  pub image_13_2 : image_bytes 0x3E 2 ≡ 480000
  pub image_31_1 : image_bytes 0x3F 1 ≡ 460800
  pub image_31_2 : image_bytes 0x3F 2 ≡ 921600
  -- 240,016 bytes make 957 commands
  pub commands : command_count 240016 ≡ 957

pub worked : Worked
unfolding header
worked =
    record {
      header_13_1 = refl;
      header_13_2 = refl;
      header_31_1 = refl;
      header_31_2 = refl;
      image_13_1 = refl;
      image_13_2 = refl;
      image_31_1 = refl;
      image_31_2 = refl;
      commands = refl;
    }

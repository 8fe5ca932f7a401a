-- Paper 002, "Update Procedure", from "Initialize the COG driver" to "Stop DC/DC": what an update gives out, in order, as a plain list.
-- Assumes nothing.
use Rattle.std.specs.Prelude.{List, [], ◌∷◌, ◌++◌, ℕ, zero, suc, ◌+◌, ◌%◌, take, drop, get_or}

-- a write of data to a register; a delay in ms; that the host must see BUSY high; and what comes after the last of them
pub data Thing : Type 0 where
  write : (register : ℕ) (bytes : List ℕ) → Thing
  delay : (ms : ℕ) → Thing
  busy_high : Thing
  done : Thing

-- the bytes of the OTP memory
abbrev pub otp_length : ℕ
otp_length = 128

-- OTP[at], and OTP[at+n]: the n bytes of the OTP memory from an index on
abbrev pub otp_byte : (otp : List ℕ) (at : ℕ) → ℕ
otp_byte otp at = get_or otp at 0

abbrev pub otp_bytes : (otp : List ℕ) (at n : ℕ) → List ℕ
otp_bytes otp at n = take n (drop at otp)

-- "Initialize the COG driver": DCTL
abbrev pub initialize : (otp : List ℕ) → List Thing
initialize otp = write 0x01 (otp_byte otp 0x10 ∷ 0x00 ∷ []) ∷ []

-- "Send the image": the new picture goes to the first frame, and to the second one what the mode says
abbrev pub send_image : (otp new second : List ℕ) → List Thing
send_image otp new second =
    write 0x13 (otp_bytes otp 0x15 6)  -- DUW
    ∷ write 0x90 (otp_bytes otp 0x0C 4)  -- DRFW
    ∷ write 0x12 (otp_bytes otp 0x12 3)  -- RAM_RW
    ∷ write 0x10 new
    ∷ write 0x12 (otp_bytes otp 0x12 3)
    ∷ write 0x11 second
    ∷ []

-- "Update the COG", up to VCOM_CTRL; `index` is TSSET, which stands for the temperature
abbrev pub update_cog : (otp : List ℕ) (index : ℕ) → List Thing
update_cog otp index =
    write 0x05 (0x7D ∷ [])
    ∷ delay 50
    ∷ write 0x05 (0x00 ∷ [])
    ∷ delay 1
    ∷ write 0xD8 (otp_bytes otp 0x1C 1)  -- MS_SYNC
    ∷ write 0xD6 (otp_bytes otp 0x1D 1)  -- BVSS
    ∷ write 0xA7 (0x10 ∷ [])
    ∷ delay 2
    ∷ write 0xA7 (0x00 ∷ [])
    ∷ delay 10
    ∷ write 0x44 (0x00 ∷ [])
    ∷ write 0x45 (0x80 ∷ [])
    ∷ write 0xA7 (0x10 ∷ [])
    ∷ delay 2
    ∷ write 0xA7 (0x00 ∷ [])
    ∷ delay 10
    ∷ write 0x44 (0x06 ∷ [])
    ∷ write 0x45 (index ∷ [])
    ∷ write 0xA7 (0x10 ∷ [])
    ∷ delay 2
    ∷ write 0xA7 (0x00 ∷ [])
    ∷ delay 10
    ∷ write 0x60 (otp_bytes otp 0x0B 1)  -- TCON
    ∷ write 0x61 (otp_bytes otp 0x1B 1)  -- STV_DIR
    ∷ write 0x02 (otp_bytes otp 0x11 1)  -- VCOM
    ∷ write 0x03 (otp_bytes otp 0x1F 1)  -- VCOM_CTRL
    ∷ []

-- ---- "Start DC/DC": the soft start

-- iPHL and iPHH, each with its variation added modulo 256: bytes 3 and 4 of the stage at `at`
abbrev pub raise : (otp : List ℕ) (at : ℕ) (phases : ℕ × ℕ) → ℕ × ℕ
raise otp at phases =
    ((phases.0 + otp_byte otp (at + 3)) % 256, (phases.1 + otp_byte otp (at + 4)) % 256)

-- one repeat: BST_SW_a, both phases, BST_SW_b and the delay, of which the low seven bits count
abbrev pub one_repeat : (otp : List ℕ) (at : ℕ) (phases : ℕ × ℕ) → List Thing
one_repeat otp at phases =
    write 0x09 (otp_byte otp (at + 5) ∷ [])
    ∷ write 0x51 (phases.0 ∷ phases.1 ∷ [])
    ∷ write 0x09 (otp_byte otp (at + 6) ∷ [])
    ∷ delay (otp_byte otp (at + 7) % 128)
    ∷ []

-- n repeats: each raises both phases first
abbrev pub repeats : (otp : List ℕ) (at n : ℕ) (phases : ℕ × ℕ) → List Thing
repeats otp at zero phases = []
repeats otp at (suc n) phases = one_repeat otp at (raise otp at phases) ++ repeats otp at n (raise otp at phases)

-- a stage: as many repeats as the low seven bits of its first byte say, from PHL_INI and PHH_INI on
unfoldable pub stage : (otp : List ℕ) (at : ℕ) → List Thing
stage otp at = repeats otp at (otp_byte otp at % 128) (otp_byte otp (at + 1), otp_byte otp (at + 2))

-- the four stages, of eight bytes each
abbrev pub start_dc_dc : (otp : List ℕ) → List Thing
start_dc_dc otp = stage otp 0x28 ++ stage otp 0x30 ++ stage otp 0x38 ++ stage otp 0x40

-- "Send the update command"
abbrev pub send_update : List Thing
send_update = busy_high ∷ write 0x15 (0x3C ∷ []) ∷ []

-- "Stop DC/DC"
abbrev pub stop_dc_dc : List Thing
stop_dc_dc =
    busy_high
    ∷ write 0x09 (0x7B ∷ [])
    ∷ write 0x05 (0x5D ∷ [])
    ∷ write 0x09 (0x7A ∷ [])
    ∷ delay 15
    ∷ write 0x09 (0x00 ∷ [])
    ∷ []

-- the whole order
unfoldable pub things_of : (otp : List ℕ) (index : ℕ) (new second : List ℕ) → List Thing
things_of otp index new second =
    initialize otp
    ++ send_image otp new second
    ++ update_cog otp index
    ++ start_dc_dc otp
    ++ send_update
    ++ stop_dc_dc

-- the thing after `given` others, and `done` past the last
abbrev pub thing_at : (things : List Thing) (given : ℕ) → Thing
thing_at things given = get_or things given done

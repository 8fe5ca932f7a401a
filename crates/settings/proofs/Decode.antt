-- One branch of the code that reads a step, as one law.
-- Assumes nothing.
use mathlib.Core.Path.{◌≡◌}
use mathlib.Core.Bool.{Bool, true, false, and-false}
use mathlib.Core.List.{List, [], ◌∷◌}
use Prim.Native.Nat.{ℕ, ◌+◌, ◌-◌, ◌*◌, ◌≤◌, ◌<◌}
use native.Mathlib.Nat.{add-zero}
use native.Mathlib.Decide.{ℕ_discrete}
use native.Mathlib.Omega.{arith}
use borrow.Author.Tests.{eq-eqb, ne_eqb, le-leb, lt-leb, lt-ltb}
use lib.Dec.{leb}
use lib.ListN.{length, get_or, drop, length-drop}
use lib.Seq.{get_or-drop, drop-drop}
use Rattle.std.specs.Prelude.{Option, Some, None}
use Rattle.panel.specs.Registers.{data_length, channel_data, gate_source_level}
use Rattle.settings.specs.Settings.{has_prefix, required_data, write_of, wait_of, step_of}
use Rattle.settings.specs.Facts.{size_found}

-- ---- a wait

module _ (ms : ℕ) where
  pub no_wait : ms < 1 → None ≡ size_found (wait_of ms)
  unfolding wait_of
  no_wait h = rw (lt-leb 1 ms h)

  pub long_wait : 1000 < ms → None ≡ size_found (wait_of ms)
  unfolding wait_of
  long_wait h = rw (lt-leb ms 1000 h, and-false)

  pub good_wait : 1 ≤ ms → ms ≤ 1000 → Some 3 ≡ size_found (wait_of ms)
  unfolding wait_of
  good_wait low high = rw (le-leb 1 ms low, le-leb ms 1000 high)

-- ---- the data that a panel asks of a register

module _ (panel register : ℕ) where
  pub asked_channels : register ≡ 0x01 → required_data panel register ≡ channel_data panel
  unfolding required_data
  asked_channels e = rw (eq-eqb register 0x01 e)

  pub asked_level : (register ≡ 0x01 → ⊥) → register ≡ 0x04 → required_data panel register ≡ gate_source_level panel ∷ []
  unfolding required_data
  asked_level d e = rw (ne_eqb register 0x01 d, eq-eqb register 0x04 e)

  pub asked_nothing : (register ≡ 0x01 → ⊥) → (register ≡ 0x04 → ⊥) → required_data panel register ≡ []
  unfolding required_data
  asked_nothing d e = rw (ne_eqb register 0x01 d, ne_eqb register 0x04 e)

  -- they are as many bytes as the register takes
  pub channels-long : register ≡ 0x01 → data_length register ≡ 8
  unfolding data_length
  channels-long e = rw e

  pub level-long : register ≡ 0x04 → data_length register ≡ 1
  unfolding data_length
  level-long e = rw e

-- ---- a write at index `at`

module _ (panel register : ℕ) (file : List ℕ) (at : ℕ) where
  pub no_such_register : data_length register ≡ 0 → None ≡ size_found (write_of panel register (drop (at + 2) file))
  unfolding write_of
  no_such_register e = rw e

  pub short_data : length file - at < 2 + data_length register → None ≡ size_found (write_of panel register (drop (at + 2) file))
  unfolding write_of
  short_data h =
      elim (ℕ_discrete (data_length register) 0) [
        | yes e ↦ rw e
        | no d ↦ rw (length-drop, lt-leb (data_length register) (length file - (at + 2)) (omega arith), and-false)
      ]

  module _ (some : 0 < data_length register) (whole : 2 + data_length register ≤ length file - at)
      (good : Bool) (q : good ≡ has_prefix (drop (at + 2) file) (required_data panel register)) where
    fits : leb (data_length register) (length file - (at + 2)) ≡ true
    fits = le-leb (data_length register) (length file - (at + 2)) (omega arith)

    pub good_data : good ≡ true → Some (2 + data_length register) ≡ size_found (write_of panel register (drop (at + 2) file))
    unfolding write_of
    good_data e = rw (length-drop, lt-ltb 0 (data_length register) some, fits, ← q, e)

    pub foreign_data : good ≡ false → None ≡ size_found (write_of panel register (drop (at + 2) file))
    unfolding write_of
    foreign_data e = rw (length-drop, lt-ltb 0 (data_length register) some, fits, ← q, e)

-- ---- a step, at index `at`

module _ (panel : ℕ) (file : List ℕ) (at : ℕ) where
  pub short_step : length file - at < 3 → None ≡ size_found (step_of panel (drop at file))
  unfolding step_of
  short_step h = rw (length-drop, lt-leb 3 (length file - at) h)

  module _ (long : 3 ≤ length file - at) where
    pub write_step : (z : Option ℕ) → get_or file at 0 ≡ 0x57
        → z ≡ size_found (write_of panel (get_or file (at + 1) 0) (drop (at + 2) file)) → z ≡ size_found (step_of panel (drop at file))
    unfolding step_of
    write_step z e k =
        simp (length-drop, le-leb 3 (length file - at) long, get_or-drop, add-zero, drop-drop, eq-eqb _ _ e) k

    pub wait_step : (z : Option ℕ) → (get_or file at 0 ≡ 0x57 → ⊥) → get_or file at 0 ≡ 0x44
        → z ≡ size_found (wait_of (get_or file (at + 1) 0 * 256 + get_or file (at + 2) 0)) → z ≡ size_found (step_of panel (drop at file))
    unfolding step_of
    wait_step z d e k =
        simp (length-drop, le-leb 3 (length file - at) long, get_or-drop, add-zero, ne_eqb _ _ d, eq-eqb _ _ e) k

    pub no_step : (get_or file at 0 ≡ 0x57 → ⊥) → (get_or file at 0 ≡ 0x44 → ⊥) → None ≡ size_found (step_of panel (drop at file))
    unfolding step_of
    no_step d e = simp (length-drop, le-leb 3 (length file - at) long, get_or-drop, add-zero, ne_eqb _ _ d, ne_eqb _ _ e)

-- Document 01, "Sums checked by hand": the items that are proved together, as one table under one statement, through the
-- definitions that the contracts cite; and the figures that 01 gives, as another.
-- Assumes nothing.
use mathlib.Core.Path.{◌≡◌, refl, ◌∙◌}
use mathlib.Core.List.{List, [], ◌∷◌, map}
use mathlib.Core.Bool.{true}
use Prim.Native.Nat.{ℕ, ◌+◌, ◌≤◌}
use lib.IntN.{ℤ, pos, negsuc}
use lib.ListN.{length, take, drop, replicate}
use Rattle.panel.specs.Panels.{rows_of, row_bytes_of, picture_bytes_of, stride_of}
use Rattle.panel.specs.Registers.{data_length, channel_data, gate_source_level}
use Rattle.panel.specs.Codes.{code_by}
use Rattle.panel.specs.Dots.{row_dot, dot}
use Rattle.wire.specs.Line.{even_byte, odd_byte, scan_byte, line, line_length, handed_line}
use Rattle.wire.specs.Reading.{dot_bits, scan_bits, push_of, pushed}
use Rattle.wire.proofs.Line.{length-handed}
use Rattle.settings.specs.Settings.{required_data, write_of, wait_of, step_of, settings_good}
use Rattle.settings.proofs.Accepted.{good_short}
use Rattle.settings.proofs.Examples.{example, longest, longest_reached}
use Rattle.picture.specs.Pictures.{draw, over, overdrawn}
use Rattle.picture.specs.Slots.{picture_of, raw_of, slot_bytes, with_bytes, slot_picture, with_picture}
use Rattle.picture.specs.Regions.{region_good, payload_good, with_region}
use Rattle.bitmap.specs.Header.{file_length}
use Rattle.balance.specs.Sums.{sum_of}
use Rattle.run.specs.Clock.{step_from, clock_refused}
use Rattle.run.specs.Due.{due_of}
use Rattle.bitmap_prefix.specs.Begins.{header_begins}
use Rattle.fill.specs.Conditions.{fill_valid}
use Rattle.summary.specs.Conditions.{summary_good, summaries_good}
use Rattle.run.specs.Conditions.{run_valid}
use Rattle.run.specs.declared.Tick.{Tick}
use Rattle.poll.specs.Poll.{poll_at, poll_run}
use Rattle.board.specs.State.{opened_state}
use Rattle.board.specs.Calls.{region_upload, starting, polled}
use Rattle.board.specs.declared.State.{State}
use Rattle.store.specs.Conditions.{keeps_rules}

-- ---- the stores of the table

-- the example file, with one slot beside slot 0, all white
abbrev pub small : State
small = opened_state example 1

abbrev pub small_memory : List ℕ
small_memory = replicate 3072 0xFF

-- the same for the 2" panel
abbrev wide_example : List ℕ
wide_example =
    0x01 ∷ 0x01 ∷ 0x02 ∷ 0x57 ∷ 0x01 ∷ 0x00 ∷ 0x00 ∷ 0x00 ∷ 0x00 ∷ 0x01 ∷ 0xFF ∷ 0xE0 ∷ 0x00 ∷ 0x57 ∷ 0x04 ∷ 0x03 ∷ 0x00 ∷ []

abbrev wide : State
wide = opened_state wide_example 1

abbrev wide_memory : List ℕ
wide_memory = replicate 4800 0xFF

abbrev pub tick_at : ℕ → Tick
tick_at n = record { 0 = n }

-- the number of a region upload to slot 1, one row high, and the first two bytes of the slot after it
abbrev region_number : (state : State) (memory : List ℕ) (x width : ℕ) (payload : List ℕ) → ℕ
region_number state memory x width payload = (region_upload state memory 1 x 0 width 1 payload).0.number

abbrev region_bytes : (x width : ℕ) (payload : List ℕ) → List ℕ
region_bytes x width payload = take 2 (drop 1536 (region_upload small small_memory 1 x 0 width 1 payload).1)

-- the number of a poll at a tick reading, right after a start at another
abbrev poll_number : (from to : ℕ) → ℕ
poll_number from to = (polled (starting small 3072 1 (tick_at from)).state (tick_at to) small_memory (replicate 117 0)).number

-- what a dot of a one-byte row is pushed over four stages of one frame, read from the bytes handed out
abbrev four_stages : (shown new x : ℕ) → ℤ
four_stages shown new x =
    sum_of 1 4 x 0
    (handed_line 1 4 1 0 (row_dot (shown ∷ []))
    ∷ handed_line 1 4 2 0 (row_dot (shown ∷ []))
    ∷ handed_line 1 4 3 0 (row_dot (new ∷ []))
    ∷ handed_line 1 4 4 0 (row_dot (new ∷ []))
    ∷ [])

-- ---- the table

pub record WorkedByHand : Type 0 where
  -- dots B4 as an eight-dot row, even and odd byte in stages 1 to 4
  pub line_b4 : map (λ (stage : ℕ). line 1 0 stage 0 (row_dot (0xB4 ∷ []))) (1 ∷ 2 ∷ 3 ∷ 4 ∷ [])
      ≡ (0xFA ∷ 0xBE ∷ []) ∷ (0xA0 ∷ 0x28 ∷ []) ∷ (0xF0 ∷ 0x3C ∷ []) ∷ (0xAF ∷ 0xEB ∷ []) ∷ []
  -- net pushes: dot 0 stays white, dot 1 stays black, dot 2 goes black to white, dot 3 white to black
  pub pushes : map (four_stages 0b10010000 0b10100000) (0 ∷ 1 ∷ 2 ∷ 3 ∷ []) ≡ pos 0 ∷ pos 0 ∷ pos 1 ∷ negsuc 0 ∷ []
  -- a region of width 2 with payload 00 on white
  pub region_3 : region_bytes 3 2 (0x00 ∷ []) ≡ 0xE7 ∷ 0xFF ∷ []
  pub region_7 : region_bytes 7 2 (0x00 ∷ []) ≡ 0xFE ∷ 0x7F ∷ []
  -- an unused bit
  pub unused : region_number small small_memory 0 2 (0x20 ∷ []) ≡ 6
  pub used : region_number small small_memory 0 2 (0xC0 ∷ []) ≡ 0
  -- the right edge of the 2" panel
  pub last_dot : region_number wide wide_memory 199 1 (0x80 ∷ []) ≡ 0
  pub past_edge : region_number wide wide_memory 200 1 (0x80 ∷ []) ≡ 5
  -- the clock
  pub step_30 : step_from (tick_at 4294967290) (tick_at 24) ≡ 30
  pub step_taken : poll_number 5 (5 + 2147483647) ≡ 0
  pub step_back : poll_number 5 (5 + 2147483648) ≡ 10

pub worked_by_hand : WorkedByHand
unfolding line even_byte odd_byte scan_byte code_by row_dot handed_line sum_of pushed dot_bits scan_bits push_of region_upload keeps_rules settings_good step_of write_of wait_of required_data data_length channel_data gate_source_level with_region with_picture with_bytes slot_picture slot_bytes picture_of raw_of overdrawn draw over dot region_good payload_good step_from clock_refused polled poll_run poll_at due_of run_valid fill_valid header_begins summaries_good summary_good starting
worked_by_hand =
    record {
      line_b4 = refl;
      pushes = refl;
      region_3 = refl;
      region_7 = refl;
      unused = refl;
      used = refl;
      last_dot = refl;
      past_edge = refl;
      step_30 = refl;
      step_taken = refl;
      step_back = refl;
    }

-- ---- the figures of document 01

-- of one panel: its picture bytes P, the length of its bitmap file, and the bytes that a poll puts out for a line, whichever it is
pub record PanelFigures (panel P bitmap line : ℕ) : Type 0 where
  pub picture_bytes : picture_bytes_of panel ≡ P
  pub bitmap_length : file_length (rows_of panel) (stride_of panel) ≡ bitmap
  pub line-length : (stage row : ℕ) (dots : ℕ → ℕ) → length (handed_line (row_bytes_of panel) (rows_of panel) stage row dots) ≡ line

pub record Figures : Type 0 where
  pub panel_0 : PanelFigures 0 1536 1598 63
  pub panel_1 : PanelFigures 1 2400 2750 81
  pub panel_2 : PanelFigures 2 5808 6398 117
  -- a file of 637 bytes is accepted, and none that is longer
  pub longest_length : length longest ≡ 637
  pub longest_accepted : settings_good longest ≡ true
  pub none_longer : (file : List ℕ) → settings_good file ≡ true → length file ≤ 637

panel_figures : (panel line : ℕ) → line_length (row_bytes_of panel) (rows_of panel) + 7 ≡ line
    → PanelFigures panel (picture_bytes_of panel) (file_length (rows_of panel) (stride_of panel)) line
panel_figures panel line e =
    record {
      picture_bytes = refl;
      bitmap_length = refl;
      line-length = λ stage row dots. length-handed (row_bytes_of panel) (rows_of panel) stage row dots ∙ e;
    }

pub figures : Figures
figures =
    record {
      panel_0 = panel_figures 0 63 refl;
      panel_1 = panel_figures 1 81 refl;
      panel_2 = panel_figures 2 117 refl;
      longest_length = longest_reached.0;
      longest_accepted = longest_reached.1;
      none_longer = good_short;
    }

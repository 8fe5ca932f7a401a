-- The line builder and the two file checks once more, from their contracts as the checker makes them from the source. A contract that is
-- weakened in src/, or that asks something of its arguments, is refused here, even where every function is still proved.
-- Assumes nothing.
use mathlib.Core.Path.{◌≡◌}
use mathlib.Core.List.{List}
use Prim.Native.Nat.{ℕ}
use Rattle.lists.proofs.Calls.{Call, AsksNothing}
use Rattle.wire.specs.Builder.{build_line}
use Rattle.settings.specs.Settings.{check_settings}
use Rattle.bitmap.specs.Bitmap.{check_bitmap}
use Rattle.start_board.proofs.epd_build_line.Kinds as line-kinds
use Rattle.start_board.proofs.epd_build_line.Reads as line_reads_lem
use Rattle.start_board.proofs.epd_check_settings.Kinds as settings-kinds
use Rattle.start_board.proofs.epd_check_settings.Reads as settings-reads
use Rattle.start_board.proofs.epd_check_bitmap.Kinds as bitmap-kinds
use Rattle.start_board.proofs.epd_check_bitmap.Reads as bitmap-reads

abbrev pub BuildLine : Type 0
BuildLine = Call 2 line-kinds.ps line-kinds.r line_reads_lem.Learnt

abbrev pub CheckSettings : Type 0
CheckSettings = Call 1 settings-kinds.ps settings-kinds.r settings-reads.Learnt

abbrev pub CheckBitmap : Type 0
CheckBitmap = Call 1 bitmap-kinds.ps bitmap-kinds.r bitmap-reads.Learnt

-- the number and the output that a call of the line builder left
pub build_line_tied : (c : BuildLine)
    → ◌≡◌ {A = ℕ × List ℕ} (c.result, c.exit.1.1.1.1.0.now)
    (build_line c.args.0 c.args.1.0 c.args.1.1.0 c.args.1.1.1.0.now c.args.1.1.1.1.0.now)
build_line_tied c = c.promised

-- the numbers of the two checks
pub check_settings_tied : (c : CheckSettings) → c.result ≡ check_settings c.args.0.now
check_settings_tied c = c.promised

pub check_bitmap_tied : (c : CheckBitmap) → c.result ≡ check_bitmap c.args.0 c.args.1.0.now
check_bitmap_tied c = c.promised

-- and none of them asks anything
pub record AskNothing : Type 0 where
  pub line_builder : AsksNothing 2 line-kinds.ps line_reads_lem.Asked
  pub settings_check : AsksNothing 1 settings-kinds.ps settings-reads.Asked
  pub bitmap_check : AsksNothing 1 bitmap-kinds.ps bitmap-reads.Asked

pub asks_nothing : AskNothing
asks_nothing = record { line_builder = λ l args. tt; settings_check = λ l args. tt; bitmap_check = λ l args. tt }

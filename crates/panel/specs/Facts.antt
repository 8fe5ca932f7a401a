-- What internal functions ask of a panel's sizes.
-- Assumes nothing.
use Rattle.std.specs.Prelude.{◌%◌, ◌≤◌, ◌<◌, ◌≡◌}
use Rattle.panel.specs.Panels.{Sizes}
use Rattle.panel.specs.declared.sizes.Shape.{Shape}

-- rows are a multiple of four, a row is no longer than the stride, and nothing is larger than on the largest panel
pub record Sized (shape : Sizes) : Type 0 where
  pub some : 0 < shape.bytes
  pub narrow : shape.bytes ≤ 33
  pub high : 0 < shape.rows
  pub low : shape.rows ≤ 176
  pub fours : shape.rows % 4 ≡ 0
  pub within : shape.bytes ≤ shape.stride
  pub small : shape.stride ≤ 36
  pub frames_some : 0 < shape.frames
  pub frames-few : shape.frames ≤ 21

-- a shape's sizes
abbrev pub sizes : Shape → Sizes
sizes shape = record { bytes = shape.bytes; rows = shape.rows; stride = shape.stride; frames = shape.frames }

-- The rows are written right after the header.
-- Assumes nothing.
use native.Mathlib.Omega.{arith}
use Rattle.picture.specs.Slots.{picture_of}
use Rattle.bitmap.specs.Header.{header_length}
use Rattle.bitmap_codec.specs.Codec.{header, file_rows, written_file}
use Rattle.lists.proofs.Parts.{part_next}
use Rattle.bitmap_codec.proofs.RoundTrip.{length-header}
use Rattle.bitmap_codec.proofs.write_bitmap.Goals as goal

pub returns : goal.returns
unfolding written_file
returns c =
    let a = c.args in
    let s = a.shape in
    let rows = file_rows s.bytes s.rows s.stride (picture_of s.bytes s.rows a.raw.now) in
    let l = length-header s.bytes s.rows s.stride in (
      c.file_length.ensures,
      part_next 0 a.out.now (header s.bytes s.rows s.stride) rows header_length c.write_header.ensures c.write_rows.ensures
          (omega arith) (omega arith),
    )

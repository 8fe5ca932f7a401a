-- Parts joined in order, and commands read in order.
-- Assumes nothing.
use Rattle.std.specs.Prelude.{ℕ, zero, suc, cond, List, [], ◌++◌, eqb}
use Rattle.hall_commands.specs.Reading.{Reply, reply, reading}
use Rattle.hall_commands.specs.declared.Reader.{Reader}

-- part 0, part 1, .., part (n - 1), each after the one before
abbrev pub joined : (n : ℕ) (part : ℕ → List ℕ) → List ℕ
joined zero part = []
joined (suc n) part = joined n part ++ part n

-- one command more is read, unless one was refused
abbrev pub read_next : (so_far : Reply × List ℕ) (command : List ℕ) → Reply × List ℕ
read_next so_far command =
    cond (eqb so_far.0.number 0) (reading so_far.0.reader command so_far.1) so_far

-- commands 0 to n - 1, read in order
abbrev pub read_in_order : (n : ℕ) (command : ℕ → List ℕ) (reader : Reader) (memory : List ℕ) → Reply × List ℕ
read_in_order zero command reader memory = (reply 0 reader, memory)
read_in_order (suc n) command reader memory = read_next (read_in_order n command reader memory) (command n)

-- How a line ends.
use Rattle.std.proofs.Common.{ℕ, ◌-◌, Bool, List, length}
use Rattle.std.specs.Prelude.{◌==◌, slice_index}

-- a line's last byte is its LF
abbrev pub has_end : List ℕ → Bool
has_end l = slice_index l (length l - 1) == 10

-- How long a written text can be. Assumes nothing.
use Rattle.std.specs.Prelude.{ℕ}

-- 33 bytes of a head, 256 vertices of 21 bytes, 192 hyperedges of 279 bytes
abbrev pub longest : ℕ
longest = 58977

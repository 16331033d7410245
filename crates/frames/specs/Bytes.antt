-- The bytes that stand in a text. Assumes nothing.
use Rattle.std.specs.Prelude.{List, [], ◌∷◌, ℕ, zero, suc, ◌+◌}
use Rattle.frames.specs.Reading.{byte_at}

-- the k bytes whose digits stand at p
unfoldable pub bytes_at : List ℕ → ℕ → ℕ → List ℕ
bytes_at text p zero = []
bytes_at text p (suc k) = byte_at text p ∷ bytes_at text (p + 2) k

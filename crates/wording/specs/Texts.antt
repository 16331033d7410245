-- Texts and decimal numbers as bytes. Assumes nothing.
use Rattle.std.specs.Prelude.{cond, List, ℕ, zero, suc, ◌+◌, ◌/◌, ◌%◌, ltb}
use mathlib.Core.List as lists
use Prim.Native.Char.{code}
use Prim.Native.String.{String, [], ◌∷◌}

-- the bytes of a text, a byte for each of its letters
abbrev pub text : String → List ℕ
text [] = lists.[]
text (c ∷ s) = lists.◌∷◌ (code c) (text s)

-- the byte of a digit below ten
abbrev pub digit : ℕ → ℕ
digit d = 48 + d

-- the digits of n, the highest first and no zero before them, where they are at most k
unfoldable pub spelled : ℕ → ℕ → List ℕ
spelled zero n = lists.[]
spelled (suc k) n =
    cond (ltb n 10) (lists.◌∷◌ (digit n) lists.[]) (lists.◌++◌ (spelled k (n / 10)) (lists.◌∷◌ (digit (n % 10)) lists.[]))

-- a number of 64 bits has at most twenty
unfoldable pub decimal : ℕ → List ℕ
decimal n = spelled 20 n

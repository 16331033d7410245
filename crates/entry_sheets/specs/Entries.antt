-- The sheets of a tube registered, a transfer recorded and a list replaced. Assumes nothing.
use Rattle.std.specs.Prelude.{cond, List, [], ◌∷◌, ◌++◌, ℕ, ltb}
use Rattle.wording.specs.Texts.{text, decimal}
use Rattle.wording.specs.Forms.{filled, number_line}

-- a number alone
unfoldable pub number_alone : ℕ → List ℕ
number_alone n = decimal n ++ text "\n"

-- tube n, of weight w
unfoldable pub tube_said : ℕ → ℕ → List ℕ
tube_said n w = text "tube " ++ (decimal n ++ filled (text " registered, weight A\n") (w ∷ []) [])

-- transfer n was there already
unfoldable pub identical_said : ℕ → List ℕ
identical_said n = text "transfer " ++ (decimal n ++ text " is identical, nothing recorded\n")

-- transfer n is new, of cost w, with its members
unfoldable pub recorded_said : ℕ → ℕ → List ℕ → List ℕ
recorded_said n w list = text "transfer " ++ (decimal n ++ (filled (text " recorded, cost A") (w ∷ []) [] ++ number_line (text ", tubes ") [] list))

-- one or the other: a number below the next one was given before
unfoldable pub transfer_said : ℕ → ℕ → ℕ → List ℕ → List ℕ
transfer_said n next w list = cond (ltb n next) (identical_said n) (recorded_said n w list)

-- the members that transfer x has now
unfoldable pub relist_said : ℕ → List ℕ → List ℕ
relist_said x list = filled (text "transfer A now lists") (x ∷ []) [] ++ number_line (text " tubes ") [] list

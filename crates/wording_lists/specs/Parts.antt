-- The parts of a line of numbers, and where a list ends. Assumes nothing.
use Rattle.std.specs.Prelude.{◌≡◌, List, [], ◌∷◌, ◌++◌, ℕ, ◌+◌, ◌-◌, ◌≤◌, ◌<◌, length, take, drop}
use Rattle.lists.specs.Lists.{word_at}
use Rattle.wording.specs.Texts.{text, decimal}
use Rattle.wording.specs.Forms.{joined}

-- a blank, and a number
unfoldable pub after_blank : ℕ → List ℕ
after_blank n = text " " ++ decimal n

-- the numbers, or `none` for no number
unfoldable pub numbers_or : List ℕ → List ℕ → List ℕ
numbers_or none [] = none
numbers_or none (n ∷ ns) = joined (n ∷ ns)

-- the list whose count stands at place i ends at e: behind as many words as the count says, or at the end
pub record ListEnd (ws : List ℕ) (i e : ℕ) : Type 0 where
  pub ahead : i < e
  pub inside : e ≤ length ws
  pub words : take (e - (i + 1)) (drop (i + 1) ws) ≡ take (word_at ws i) (drop (i + 1) ws)
  pub others : drop e ws ≡ drop (word_at ws i) (drop (i + 1) ws)

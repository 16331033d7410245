-- The sheets of a review and of releases, by the states before. Assumes nothing.
use Rattle.std.specs.Prelude.{cond, List, [], ◌∷◌, ℕ, eqb}
use Rattle.lists.specs.Lists.{flat}
use Rattle.layout.specs.Content.{Table}
use Rattle.desk.specs.States.{waiting, reviewed, released, in_state}
use Rattle.wording.specs.Texts.{text}
use Rattle.wording.specs.Forms.{filled}

-- the form of a review, by the state
unfoldable pub review_form : ℕ → List ℕ
review_form x = cond (eqb x waiting) (text "tube A reviewed\n") (cond (eqb x reviewed) (text "tube A is reviewed already\n") (text "tube A is released already\n"))

-- tube v reviewed, its state before was x
unfoldable pub review_said : ℕ → ℕ → List ℕ
review_said x v = filled (review_form x) (v ∷ []) []

-- tube v released, ss the states before
unfoldable pub release_said : Table → List ℕ → ℕ → List ℕ
release_said t ss v = filled (cond (in_state t ss released v) (text "tube A is released already\n") (text "tube A released\n")) (v ∷ []) []

-- a line for each
unfoldable pub releases_said : Table → List ℕ → List ℕ → List ℕ
releases_said t ss list = flat (release_said t ss) list

-- The titles of the sheets of questions. Assumes nothing.
use Rattle.std.specs.Prelude.{List, [], ◌∷◌, ℕ}
use Rattle.wording.specs.Texts.{text}
use Rattle.wording.specs.Forms.{filled}
use Rattle.commands.specs.declared.Query.{Query}
use Rattle.commands.specs.declared.Query.TheVariants.{Sort, Costs, Upstream, Downstream, Next, Before, Components, Strong, Closure, Cut, Orphans, Endpoints, FindTube, FindTransfer, Walk}

-- the first line: the question, with its numbers
unfoldable pub title : Query → List ℕ
title Sort = text "sort\n"
title (Costs v) = filled (text "costs from tube A\n") (v.0 ∷ []) []
title (Upstream v) = filled (text "upstream of tube A\n") (v.0 ∷ []) []
title (Downstream v) = filled (text "downstream of tube A\n") (v.0 ∷ []) []
title (Next v) = filled (text "next after tube A\n") (v.0 ∷ []) []
title (Before v) = filled (text "before tube A\n") (v.0 ∷ []) []
title Components = text "components\n"
title Strong = text "strong components\n"
title Closure = text "closure\n"
title Cut = text "cut tubes\n"
title Orphans = text "orphan tubes\n"
title Endpoints = text "endpoints\n"
title (FindTube w) = filled (text "tubes of weight A\n") (w ∷ []) []
title (FindTransfer w) = filled (text "transfers of cost A\n") (w ∷ []) []
title (Walk start steps seed) = filled (text "walk from tube A, steps B, seed C\n") (start.0 ∷ steps ∷ seed ∷ []) []

-- `find::first_missing_vertex` meets its contract. Assumes nothing.
use mathlib.Core.Path.{◌∙◌}
use Rattle.std.proofs.Common.{rules, tests}
use Rattle.std.proofs.lemmas.Iterator.{YieldsList-from_slice}
use Rattle.std.proofs.lemmas.Iterator.Search.{position_from_yields_List}
use Rattle.layout.specs.Content.{live_vertices}
use Rattle.layout.specs.Layout.{limit, read}
use Rattle.find.proofs.Missing.{misses, first_missed}
use Rattle.find.proofs.first_missing_vertex.Goals as goal

pub returns : goal.returns
returns c =
    position_from_yields_List (misses (live_vertices (read limit c.args.t.now))) _ _ _ c.position.ensures.ran (YieldsList-from_slice c.args.list.now cc)
    (λ x b q k. search (rules, tests))
    ∙ first_missed _ _

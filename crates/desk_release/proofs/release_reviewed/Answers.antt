-- `desk_release::release_reviewed` meets its contract. Assumes nothing.
use Rattle.desk_release.proofs.Released.{upstream-within, upstream-named, release-done}
use borrow.Author.Rules.{rules}
use Rattle.desk_release.proofs.release_reviewed.Goals as goal

pub vertex_number-requires : goal.vertex_number-requires
vertex_number-requires c = (search rules, search upstream-within)

pub returns-in-Some : goal.returns-in-Some
returns-in-Some c = search upstream-named

pub returns : goal.returns
returns c = search release-done

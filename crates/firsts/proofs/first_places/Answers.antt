-- `firsts::first_places` meets its contract. Assumes nothing.
use Rattle.walk.proofs.FirstPlaces.{judged-none, judged-all}
use borrow.Author.Rules.{rules}
use Rattle.firsts.proofs.first_places.Goals as goal

pub loop-j-init : goal.loop-j-init
loop-j-init c = (search rules, search judged-none)

pub returns : goal.returns
returns c = search judged-all

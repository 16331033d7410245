-- `desk_release::release_formed` meets its contract. Assumes nothing.
use Rattle.std.specs.Prelude.{Some}
use mathlib.Core.Path.{◌≡◌}
use Rattle.desk_release.specs.Held.{release_live_result}
use Rattle.desk.specs.Releases.{release_result}
use Rattle.desk_fits.proofs.Looked.{record-here, record-within}
use borrow.Author.Rules.{rules}
use Rattle.layout.proofs.Answers.{asked-missing, taken, asked-found}
use Rattle.desk_release.proofs.release_formed.Goals as goal

pub release_live-requires : goal.release_live-requires
release_live-requires c =
    let found : c.find_vertex.result ≡ Some c.in_ok-i.i = taken _ _ _ c.ok_or.ensures.value _ c.in_ok-i.was in
    record { formed = search rules; s_len = (search rules, search (record-within, found), search (record-here, found)) }

pub returns-in_err-i : goal.returns-in_err-i
unfolding release_result
returns-in_err-i c = search (asked-missing, c.in_err-i.was)

pub returns : goal.returns
unfolding release_result release_live_result
returns c = search (asked-found, c.in_ok-i.was)

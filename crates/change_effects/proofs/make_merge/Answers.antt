-- `change_effects::make_merge` meets its contract. Assumes nothing.
use Rattle.changes.proofs.Told.{change-refused, sized-by-desk}
use Rattle.change_effects.proofs.Felt.{before-formed, after-formed, merge-done}
use Rattle.change_effects.proofs.make_merge.Goals as goal

pub copy_of-before-requires : goal.copy_of-before-requires
copy_of-before-requires c = search sized-by-desk

pub returns-then-not-is_done : goal.returns-then-not-is_done
returns-then-not-is_done c = search change-refused

pub say_merged-requires : goal.say_merged-requires
say_merged-requires c = record { formed = search before-formed; formed_2 = search after-formed }

pub returns : goal.returns
returns c = search merge-done

-- `change_states::make_releases` meets its contract. Assumes nothing.
use Rattle.change_states.proofs.Signed.{releases-refused, releases-done, table-formed, states-long, copy-long}
use Rattle.change_states.proofs.make_releases.Goals as goal

pub copy_of-before-requires : goal.copy_of-before-requires
copy_of-before-requires c = search states-long

pub returns-then-not-is_done : goal.returns-then-not-is_done
returns-then-not-is_done c = search releases-refused

pub say_releases-requires : goal.say_releases-requires
say_releases-requires c = record { formed = search table-formed; s_len = search copy-long }

pub returns : goal.returns
returns c = search releases-done

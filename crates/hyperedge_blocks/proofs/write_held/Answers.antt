-- `hyperedge_blocks::write_held` meets its contract. Assumes nothing.
use Rattle.lookups.proofs.Laid.{held_none, held_kept, held-length, held_fits, held-wrote}
use Rattle.hyperedge_blocks.proofs.write_held.Goals as goal

pub returns-then-not-holds : goal.returns-then-not-holds
returns-then-not-holds c = record { value = search held_none; out_after = search held_kept }

pub copy-requires : goal.copy-requires
copy-requires c = search held_fits

pub returns : goal.returns
returns c = record { value = search held-length; out_after = search held-wrote }

-- `command_words::store` meets its contract. Assumes nothing.
use Rattle.command_words.proofs.Scans.{store_in, store_out}
use Rattle.command_words.proofs.store.Goals as goal

pub returns-then-i-lt-MOST : goal.returns-then-i-lt-MOST
returns-then-i-lt-MOST c = search store_in

pub returns-else-i-lt-MOST : goal.returns-else-i-lt-MOST
returns-else-i-lt-MOST c = search store_out

-- What the program says of itself and of its commands. Assumes nothing.
use Rattle.std.specs.Prelude.{List, ◌++◌, ℕ}
use Rattle.wording.specs.Texts.{text}
use Rattle.text_lines.specs.Lines.{line_at}

-- a line for each command, in the order of their names
unfoldable pub command_lines : List ℕ
command_lines = text "init                    make FILE, a table without tubes\ncheck                   count tubes and transfers, say whether FILE is connected and can be sorted\nshow tube N             a tube, its state and the transfers that list it\nshow transfer N         a transfer, its cost and its tubes\nshow                    all tubes and transfers\ntube WEIGHT             register a tube\ntransfer COST N N ..    record a transfer from tube to tube\nrelist T N N ..         give transfer T another list of tubes\nwithdraw tube N ..      withdraw tubes, all or none\nwithdraw transfer N ..  withdraw transfers, all or none\nmerge V W               tube W was registered twice: it becomes tube V\nsort                    an order of all tubes in which every step goes forward\npath A B                the cheapest path from tube A to tube B\ncosts A                 the least cost from tube A to every tube that is reached\nupstream N              every tube from which tube N is reached\ndownstream N            every tube that is reached from tube N\nnext N                  the tubes right after tube N in some transfer\nbefore N                the tubes right before tube N in some transfer\ncomponents              tubes that are linked, whatever the direction\nstrong                  tubes that reach each other\nclosure                 every pair of tubes of which the first reaches the second\ncut                     tubes without which others are no longer linked\norphans                 tubes that no transfer lists\nendpoints               tubes with no step in, and tubes with no step out\nfind tube WEIGHT        the tubes of a weight\nfind transfer COST      the transfers of a cost\nwalk N STEPS SEED       a random walk from tube N\nreview N                tube N is reviewed\nrelease N ..            release tubes in this order, all or none\norder N ..              whether the desk accepts this order of all tubes\nstates                  the state of every tube, and which can be released now\nhelp                    this list; help COMMAND says one line of it\nversion                 the version\n"

-- what stands before the list and behind it
unfoldable pub call_lines : List ℕ
call_lines = text "vaultsorrel FILE COMMAND ..      one command\nvaultsorrel FILE                 commands from standard input, a line each: all or none\nvaultsorrel --plain ..           numbers only\n\n"

unfoldable pub file_lines : List ℕ
file_lines = text "\nFILE is a frame text; - is standard input where nothing is written back. FILE.desk has the states.\nExit status: 0 done, 1 refused, 2 misused, 3 a file could not be read or written.\n"

-- all of the help
unfoldable pub help_text : List ℕ
help_text = call_lines ++ (command_lines ++ file_lines)

-- the line of one command
unfoldable pub help_on : ℕ → List ℕ
help_on k = line_at k command_lines ++ text "\n"

-- the version
unfoldable pub version_text : List ℕ
version_text = text "vaultsorrel 0.2.0\n"

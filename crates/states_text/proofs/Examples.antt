-- Texts of states, computed: one that is written, and which line of some others is faulty. Assumes nothing.
use mathlib.Core.Path.{◌≡◌, refl}
use mathlib.Core.List.{[], ◌∷◌}
use Rattle.wording.specs.Texts.{text, decimal, spelled}
use Rattle.lists.specs.Tests.{◌and◌}
use Rattle.lists.specs.Lists.{same_list}
use Rattle.frames.specs.Faulty.{is_word}
use Rattle.states_text.specs.StatesText.{state_word, state_line, line_for, states_text}
use Rattle.states_text.specs.Reading.{lines, value_from, line_number, is_line_of, line_state, line_good, faulty_from, state_said, faulty_state}

-- vertex 3 is reviewed, 5 waits, 12 is released
written : states_text (3 ∷ 5 ∷ 12 ∷ []) (1 ∷ 0 ∷ 2 ∷ []) ≡ text "reviewed 3\nreleased 12\n"
unfolding states_text line_for state_line state_word decimal spelled
written = refl

-- accepted, as is the empty text: numbers ascend, up to the largest word
accepted : (faulty_state (text "reviewed 3\nreleased 4294967295\n") ≡ 0) × (faulty_state [] ≡ 0)
unfolding lines faulty_from line_good line_state is_line_of line_number value_from is_word ◌and◌ same_list state_line state_word decimal spelled
accepted = (refl, refl)

-- faulty at line 2: no line feed, the same number, an empty line
second-faulty : (faulty_state (text "reviewed 3\nreleased 12") ≡ 2) × (faulty_state (text "reviewed 3\nreleased 3\n") ≡ 2) × (faulty_state (text "reviewed 0\n\n") ≡ 2)
unfolding lines faulty_from line_good line_state is_line_of line_number value_from is_word ◌and◌ same_list state_line state_word decimal spelled
second-faulty = (refl, refl, refl)

-- faulty at line 1: a zero before the number, a number over the largest word, two blanks, another word
first-faulty : (faulty_state (text "reviewed 03\n") ≡ 1) × (faulty_state (text "released 4294967296\n") ≡ 1) × (faulty_state (text "released  3\n") ≡ 1) × (faulty_state (text "waiting 3\n") ≡ 1)
unfolding lines faulty_from line_good line_state is_line_of line_number value_from is_word ◌and◌ same_list state_line state_word decimal spelled
first-faulty = (refl, refl, refl, refl)

-- what is said of vertices with a line, and of one without
said : (state_said (lines (text "reviewed 3\nreleased 12\n")) 12 ≡ 2) × (state_said (lines (text "reviewed 3\nreleased 12\n")) 5 ≡ 0)
unfolding state_said lines line_state is_line_of line_number value_from is_word ◌and◌ same_list state_line state_word decimal spelled
said = (refl, refl)

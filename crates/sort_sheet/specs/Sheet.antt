-- The sort of a frame text. Assumes nothing.
use Rattle.std.specs.Prelude.{cond, List, ℕ, Err}
use Rattle.layout.specs.declared.Refusal.TheVariants.{BadText}
use Rattle.layout.specs.Answers.{Result, result_of}
use Rattle.structural.specs.Sort.{sort_result}
use Rattle.frames.specs.Reading.{content_of, accepted, faulty_line}

-- reads frames and sorts what stands in them, or refuses: 12, 9
unfoldable pub sheet_result : List ℕ → List ℕ → Result
sheet_result text lent = cond (accepted text) (sort_result lent (content_of text)) (result_of (Err (BadText (faulty_line text))) lent)

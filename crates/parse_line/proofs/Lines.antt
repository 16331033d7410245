-- A line read whole: what was read of its words is what it asks for. Assumes nothing.
use Rattle.std.specs.Prelude.{Option, Some, None}
use mathlib.Core.Path.{◌≡◌, refl, sym, ap, ◌∙◌}
use mathlib.Core.Bool.{cond}
use mathlib.Core.List.{List}
use Prim.Native.Nat.{ℕ, suc, min, ◌-◌, ◌≤◌}
use native.Mathlib.Omega.{arith}
use lib.Dec.{ltb}
use lib.ListN.{length, take, drop, length-take}
use lib.Seq.{take_at, take_all}
use borrow.Author.Tests.{lt-ltb, eq-eqb, ne_eqb}
use Rattle.lists.specs.Lists.{all, word_at, over}
use Rattle.lists.proofs.Cases.{on, on_below}
use Rattle.lists.proofs.Chosen.{over_none, over-length}
use Rattle.lists.proofs.Parts.{part-tail}
use Rattle.commands.specs.declared.Command.{Command}
use Rattle.commands.specs.declared.Command.TheVariants.{Unknown, WrongCount, TooMany}
use Rattle.commands.specs.declared.Parsed.{Parsed}
use Rattle.command_words.specs.declared.Scanned.{Scanned}
use Rattle.commands.specs.Words.{words_behind, is_number, leading}
use Rattle.commands.specs.Commands.{most_numbers, help_number, form_at, name_at, named, behind_name, words_by, numbers_on, takes, asked, asked_by, help_on, command_by, command_on, Parsing}
use Rattle.command_words.specs.Scans.{fault_in, Scanning}
use Rattle.parse_line.specs.Lines.{judged_by, ParsingAs}

-- ---- what was read

-- what command k asks for with n numbers, the first of which are ns
asked_with : ℕ → ℕ → List ℕ → Command
asked_with k n ns =
    cond (ltb most_numbers n) TooMany (cond (takes k n) ((form_at k).asks (word_at ns 0) (word_at ns 1) (word_at ns 2)) (WrongCount k))

module _ {ws : List (List ℕ)} {lent exit : List ℕ} {s : Scanned} (g : Scanning ws lent s exit) (sized : length lent ≡ most_numbers) where
  pub scanned-length : length exit ≡ most_numbers
  scanned-length =
      ap length g.numbers
      ∙ over-length (take most_numbers (leading ws)) lent (omega (arith, length-take most_numbers (leading ws)))
      ∙ sized

  front : length (leading ws) ≤ most_numbers → take s.seen exit ≡ leading ws
  unfolding over
  front h =
      ap (λ (l : List ℕ). take s.seen l) (g.numbers ∙ ap (λ (l : List ℕ). over l lent) (take_all most_numbers (leading ws) h))
      ∙ take_at (leading ws) (drop (length (leading ws)) lent) s.seen (sym g.seen)

  with-front : (k : ℕ) → asked_with k s.seen (take s.seen exit) ≡ asked k (leading ws)
  unfolding asked_with asked
  with-front k = on_below most_numbers (length (leading ws))
      (λ h. rw (g.seen, lt-ltb most_numbers (length (leading ws)) h))
      (λ h. rw (front h, g.seen))

  judged-is : (k : ℕ) → judged_by k s exit ≡ asked_by k ws
  unfolding judged_by asked_by asked_with fault_in
  judged-is k = on (all is_number ws)
      (λ q.
      let z : s.fault ≡ 0 = g.fault ∙ rw q in
      rw (eq-eqb s.fault 0 z, q) (with-front k))
      (λ q.
      let z : s.fault ≡ suc (length (leading ws)) = g.fault ∙ rw q in
      rw (ne_eqb s.fault 0 (λ y. omega arith), z, q))

-- ---- a line whose command is k

module _ (line lent exit : List ℕ) (s : Scanned) (at k : ℕ) (e : at ≡ length (name_at k)) (g : Scanning (words_behind (drop at line)) lent s exit)
    (sized : length lent ≡ most_numbers) (count : ℕ) (few : count ≡ min most_numbers s.seen) (command : Command) where
  words : words_behind (drop at line) ≡ words_by line (Some k)
  unfolding words_by behind_name
  words = ap (λ (n : ℕ). words_behind (drop n line)) e

  parsed : command ≡ command_by line (Some k) → ParsingAs (Some k) line lent (record { command = command; count = count }) exit
  parsed q = record {
    command = q;
    count = few ∙ ap (min most_numbers) g.seen ∙ sym (length-take most_numbers (leading (words_behind (drop at line)))) ∙ ap (λ (ws : List (List ℕ)). length (take most_numbers (leading ws))) words;
    numbers = g.numbers ∙ ap (λ (ws : List (List ℕ)). over (take most_numbers (leading ws)) lent) words;
  }

  pub parsed-help : k ≡ help_number → command ≡ help_on (take (length line - at) (drop at line)) → ParsingAs (Some k) line lent (record { command = command; count = count }) exit
  unfolding command_by behind_name
  parsed-help h q = parsed (q ∙ rw (part-tail at line, eq-eqb k help_number h, e))

  pub parsed-asked : (k ≡ help_number → ⊥) → command ≡ judged_by k s exit → ParsingAs (Some k) line lent (record { command = command; count = count }) exit
  unfolding command_by behind_name
  parsed-asked ne q = parsed (q ∙ judged-is g sized k ∙ rw (ne_eqb k help_number ne, e))

-- ---- any line

module _ (line lent : List ℕ) (f : Option ℕ) (e : f ≡ named line) where
  by_name : {exit : List ℕ} {r : Parsed} → ParsingAs f line lent r exit → Parsing line lent r exit
  unfolding command_on numbers_on
  by_name p = record {
    command = p.command ∙ ap (command_by line) e;
    count = p.count ∙ ap (λ (n : Option ℕ). length (take most_numbers (leading (words_by line n)))) e;
    numbers = p.numbers ∙ ap (λ (n : Option ℕ). over (take most_numbers (leading (words_by line n))) lent) e;
  }

  pub parsing-at : {exit : List ℕ} {r : Parsed} (k : ℕ) → f ≡ Some k → ParsingAs (Some k) line lent r exit → Parsing line lent r exit
  parsing-at k q p = by_name (rw q p)

  pub parsing-none : f ≡ None → Parsing line lent (record { command = Unknown; count = 0 }) lent
  unfolding command_by words_by leading
  parsing-none q = by_name (rw q (record { command = refl; count = refl; numbers = sym (over_none lent) }))

-- Laws of messages: their parts, one after the other. Assumes nothing.
use mathlib.Core.Path.{◌≡◌}
use mathlib.Core.Bool.{Bool, true, false}
use mathlib.Core.List.{List, [], ◌∷◌, ◌++◌}
use Prim.Native.Nat.{ℕ}
use Rattle.wording.specs.Texts.{text}
use Rattle.wording.specs.Pages.{Page, page, write}
use Rattle.wording.specs.Forms.{filled}
use Rattle.wording.proofs.Writing.{then}
use Rattle.commands.specs.declared.Command.{Command}
use Rattle.causes.specs.Causes.{cause, is_change, cause_text}
use Rattle.messages.specs.Messages.{opening, ending, any_change, could_change, refusal_text, fault_ending, faulty_text}

-- ---- one of two texts

module _ (p e : Page) where
  pub opening-single : (single : Bool) (line : ℕ) → single ≡ true → e ≡ write (text "vaultsorrel: ") p → e ≡ write (opening single line) p
  unfolding opening
  opening-single single line h w = rw h w

  pub opening-batch : (single : Bool) (line : ℕ) → single ≡ false → e ≡ write (filled (text "vaultsorrel: line A: ") (line ∷ []) []) p → e ≡ write (opening single line) p
  unfolding opening
  opening-batch single line h w = rw h w

  pub ending-change : (b : Bool) → b ≡ true → e ≡ write (text "; nothing was changed\n") p → e ≡ write (ending b) p
  unfolding ending
  ending-change b h w = rw h w

  pub ending-plain : (b : Bool) → b ≡ false → e ≡ write (text "\n") p → e ≡ write (ending b) p
  unfolding ending
  ending-plain b h w = rw h w

  pub fault-crlf : (b : Bool) → b ≡ true → e ≡ write (text ": it ends in CR LF\n") p → e ≡ write (fault_ending b) p
  unfolding fault_ending
  fault-crlf b h w = rw h w

  pub fault-plain : (b : Bool) → b ≡ false → e ≡ write (text "\n") p → e ≡ write (fault_ending b) p
  unfolding fault_ending
  fault-plain b h w = rw h w

-- ---- what could have changed something

module _ (single : Bool) (c : Command) where
  pub could-single : (b : Bool) → single ≡ true → b ≡ is_change any_change c → b ≡ could_change single c
  unfolding could_change
  could-single b h e = rw h e

  pub could-batch : single ≡ false → true ≡ could_change single c
  unfolding could_change
  could-batch h = rw h

-- ---- one text after another

module _ (p : Page) (b d e : List ℕ) (r q s : ℕ) where
  pub then-then : (xs ys zs : List ℕ) → page b r ≡ write xs p → page d q ≡ write ys (page b r) → page e s ≡ write zs (page d q)
      → page e s ≡ write (xs ++ (ys ++ zs)) p
  then-then xs ys zs f g h = then p b e xs (ys ++ zs) r s f (then (page b r) d e ys zs q s g h)

  pub refusal-put : (single : Bool) (line : ℕ) (c : Command) (list name walk : List ℕ) (n dt number detail : ℕ) (could : Bool) → n ≡ number → dt ≡ detail
      → could ≡ could_change single c → page b r ≡ write (opening single line) p → page d q ≡ write (cause_text c list name walk n dt) (page b r)
      → page e s ≡ write (ending could) (page d q) → page e s ≡ write (refusal_text single line c list name walk number detail) p
  unfolding refusal_text
  refusal-put single line c list name walk n dt number detail could x y z f g h = rw (← x, ← y, ← z) (then-then _ _ _ f g h)

  pub faulty-put : (name : List ℕ) (line : ℕ) (crlf : Bool) → page b r ≡ write (opening true 0) p → page d q ≡ write (cause 12 line [] name) (page b r)
      → page e s ≡ write (fault_ending crlf) (page d q) → page e s ≡ write (faulty_text name line crlf) p
  unfolding faulty_text
  faulty-put name line crlf f g h = then-then _ _ _ f g h

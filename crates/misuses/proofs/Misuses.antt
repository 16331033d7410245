-- Laws of what is said of a line that is no command. Assumes nothing.
use mathlib.Core.Path.{◌≡◌, refl}
use mathlib.Core.Bool.{Bool, not}
use mathlib.Core.List.{List}
use Prim.Native.Nat.{ℕ}
use Rattle.wording.specs.Texts.{text}
use Rattle.wording.specs.Pages.{Page, page, write}
use Rattle.wording.specs.Forms.{filled}
use Rattle.wording.proofs.Writing.{nothing_written}
use Rattle.commands.specs.declared.Command.{Command}
use Rattle.commands.specs.declared.Command.TheVariants.{Init, Ask, View, Make, Help, HelpOn, Version, Unknown, NotNumber, WrongCount, TooMany}
use Rattle.help_texts.specs.Help.{help_on}
use Rattle.messages.specs.Messages.{opening, ending}
use Rattle.messages.proofs.Messages.{then-then}
use Rattle.misuses.specs.Misuses.{spoken, usage_text, misuse_text}

module _ (p : Page) (b d e : List ℕ) (r q s : ℕ) where
  pub spoken-put : (single : Bool) (line : ℕ) (form ns said : List ℕ) → page b r ≡ write (opening single line) p
      → page d q ≡ write (filled form ns said) (page b r) → page e s ≡ write (ending (not single)) (page d q)
      → page e s ≡ write (spoken single line form ns said) p
  unfolding spoken
  spoken-put single line form ns said f g h = then-then p b d e r q s _ _ _ f g h

  pub usage-put : (single : Bool) (line k : ℕ) → page b r ≡ write (opening single line) p
      → page d q ≡ write (text "usage: vaultsorrel FILE ") (page b r) → page e s ≡ write (help_on k) (page d q)
      → page e s ≡ write (usage_text single line k) p
  unfolding usage_text
  usage-put single line k f g h = then-then p b d e r q s _ (text "usage: vaultsorrel FILE ") _ f g h

-- the text of a command is that of the same command
pub as-misuse : (p e : Page) (single : Bool) (line : ℕ) (said : List ℕ) (c d : Command) → c ≡ d → e ≡ write (misuse_text single line d said) p
    → e ≡ write (misuse_text single line c said) p
as-misuse p e single line said c d h w = rw h w

-- commands of which nothing is said
pub no-misuse : (single : Bool) (line : ℕ) (said b : List ℕ) (at : ℕ) (c : Command)
    → (c ≡ Init → ⊥) → (c ≡ Unknown → ⊥) → ((i : ℕ) → c ≡ NotNumber i → ⊥) → ((n : ℕ) → c ≡ WrongCount n → ⊥) → (c ≡ TooMany → ⊥)
    → page b at ≡ write (misuse_text single line c said) (page b at)
unfolding misuse_text
no-misuse single line said b at Init i u n w t = absurd (i refl)
no-misuse single line said b at (Ask q) i u n w t = nothing_written b at
no-misuse single line said b at (View l) i u n w t = nothing_written b at
no-misuse single line said b at (Make m) i u n w t = nothing_written b at
no-misuse single line said b at Help i u n w t = nothing_written b at
no-misuse single line said b at (HelpOn k) i u n w t = nothing_written b at
no-misuse single line said b at Version i u n w t = nothing_written b at
no-misuse single line said b at Unknown i u n w t = absurd (u refl)
no-misuse single line said b at (NotNumber j) i u n w t = absurd (n j refl)
no-misuse single line said b at (WrongCount j) i u n w t = absurd (w j refl)
no-misuse single line said b at TooMany i u n w t = absurd (t refl)

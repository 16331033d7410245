-- What the writer wrote, the reader reads back. Assumes nothing.
use Rattle.std.specs.Prelude.{Ok}
use mathlib.Core.Path.{◌≡◌, refl, sym, ap, ◌∙◌}
use mathlib.Core.Bool.{true}
use mathlib.Core.List.{List}
use Prim.Native.Nat.{ℕ, ◌≤◌}
use native.Mathlib.Omega.{arith}
use lib.ListN.{length, drop}
use lib.Seq.{take-append_seam}
use Rattle.lists.specs.Lists.{all, over}
use Rattle.lists.proofs.Cases.{on_below}
use Rattle.layout.specs.Layout.{limit, read}
use Rattle.layout.specs.WellFormed.{well_formed}
use Rattle.layout.specs.Answers.{Result, result_of, listed}
use Rattle.layout.proofs.Read.{formed-of}
use Rattle.layout.proofs.Answers.{formed-result, listed-over, listed-fits}
use Rattle.frames.specs.Frames.{frame_text, write_result}
use Rattle.frames.specs.Reading.{read_result}
use Rattle.frames.specs.Faulty.{is_word, Written}
use Rattle.frame_laws.specs.Longest.{longest}
use Rattle.frame_laws.proofs.Written.{written-accepted, round_trip}
use Rattle.frame_laws.proofs.Longest.{accepted-short}
use Rattle.demands.specs.Texts.{write_call, text_in, ReadsBack}

module _ (ws lent : List ℕ) (formed : well_formed limit ws ≡ true) where
  abbrev text : List ℕ
  text = frame_text (read limit ws)

  call-is : write_call ws lent ≡ listed text lent
  unfolding write_result
  call-is = formed-result ws lent (write_result lent) formed

  done-is : length text ≤ length lent → write_call ws lent ≡ result_of (Ok (length text)) (over text lent)
  done-is room = call-is ∙ sym (listed-fits text lent (length text) refl (over text lent) room refl)

  -- an answer of 0 had room
  had-room : (write_call ws lent).number ≡ 0 → length text ≤ length lent
  had-room e = on_below (length lent) (length text)
      (λ short. absurd (let z : ◌≡◌ {A = ℕ} 11 0 = ap (λ (r : Result). r.number) (listed-over text lent (length text) refl short ∙ sym call-is) ∙ e in omega arith))
      (λ room. room)

  -- what it left is the text
  text-left : (write_call ws lent).number ≡ 0 → text_in (write_call ws lent) ≡ text
  unfolding over
  text-left e = ap text_in (done-is (had-room e)) ∙ take-append_seam text (drop (length text) lent)

  -- a long slice has room
  long-enough : all is_word ws ≡ true → longest ≤ length lent → length text ≤ length lent
  long-enough fits long =
      let w : Written text = record { table = ws; fits = fits; formed = formed; gives = refl } in
      omega (arith, accepted-short text (written-accepted text w))

-- what the writer wrote is read back to the same words. That they have 32 bits is met by every lent slice (`demands::lent_table`)
pub written-read-back : (ws lent : List ℕ) → well_formed limit ws ≡ true → all is_word ws ≡ true → ReadsBack ws lent (write_call ws lent)
written-read-back ws lent formed fits = record {
  reads = λ e before len.
      ap (λ (x : List ℕ). read_result x before) (text-left ws lent formed e)
      ∙ round_trip ws before fits formed (len ∙ (formed-of limit ws formed).shape.sized);
  writes = λ long. ap (λ (r : Result). r.number) (done-is ws lent formed (long-enough ws lent formed fits long));
}

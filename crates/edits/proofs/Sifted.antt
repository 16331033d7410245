-- A record written with the members that p keeps, record after record; the words that are left are those of the table with what is kept. Assumes nothing.
use mathlib.Core.Path.{◌≡◌, refl, sym, ap, ◌∙◌}
use mathlib.Core.Bool.{Bool, true, false, cond}
use mathlib.Core.List.{List, [], ◌∷◌, ◌++◌, map}
use Prim.Native.Nat.{ℕ, ◌+◌, ◌≤◌, ◌<◌}
use native.Mathlib.Omega.{arith}
use lib.Dec.{ltb}
use borrow.Author.Tests.{lt-ltb, le-ltb}
use lib.ListN.{length, get_or}
use lib.Seq.{paste}
use Rattle.lists.specs.Lists.{filter, pad}
use Rattle.lists.proofs.Kept.{filter-length}
use Rattle.lists.proofs.Cases.{not_none}
use Rattle.lists.proofs.Maps.{map_snoc}
use Rattle.lists.proofs.Filter.{filter-snoc}
use Rattle.layout.specs.Content.{Hyperedge}
use Rattle.layout.specs.Layout.{limit, hyperedge_limit, record_size, hyperedges_at, size, hyperedge_word, hyperedge_count, members_at, hyperedge_at, hyperedge_words}
use Rattle.layout.specs.Inner.{Formed}
use Rattle.layout.proofs.Read.{members-le}
use Rattle.edits.specs.Edits.{keeping, has_members}
use Rattle.edits.specs.Records.{record_ended}
use Rattle.edits.specs.Removing.{sifted}
use Rattle.edits.specs.Rewriting.{Rewritten}
use Rattle.edits.proofs.Relaid.{relaid-pass}
use Rattle.edits.proofs.Rewritten.{record-stored, rewritten-more, rewritten-skip}

-- record j of o, to record k's place of d: F are the members that p keeps, d₂ the words after they are stored, d₃ after the record is ended
pub record-sifted : (p : ℕ → Bool) (o d : List ℕ) (j k c : ℕ) (F d₂ d₃ : List ℕ) → length d ≡ size limit → k < hyperedge_limit → c ≤ limit → F ≡ filter p (members_at limit o j)
    → c ≡ length F → d₂ ≡ paste d (hyperedge_word limit k + 3) F c → d₃ ≡ record_ended limit k (get_or o (hyperedge_word limit j) 0) (get_or o (hyperedge_word limit j + 1) 0) c d₂
    → (c ≡ length (keeping p (hyperedge_at limit o j)).members) × (d₃ ≡ paste d (hyperedge_word limit k) (hyperedge_words limit (keeping p (hyperedge_at limit o j))) (record_size limit))
record-sifted p o d j k c F d₂ d₃ len hk le m ec e₂ e₃ = (
  ec ∙ ap length m,
  record-stored limit d F (hyperedge_word limit k) c (get_or o (hyperedge_word limit j) 0) (get_or o (hyperedge_word limit j + 1) 0) d₂ _ d₃ (omega arith) ec le e₂ refl e₃
      ∙ ap (λ (ms : List ℕ). paste d (hyperedge_word limit k) (get_or o (hyperedge_word limit j) 0 ∷ get_or o (hyperedge_word limit j + 1) 0 ∷ length ms ∷ pad limit ms) (record_size limit)) m,
)

-- ---- record after record

sifted-snoc : (p : ℕ → Bool) (es : List Hyperedge) (e : Hyperedge) → sifted p (es ++ (e ∷ [])) ≡ cond (has_members (keeping p e)) (sifted p es ++ (keeping p e ∷ [])) (sifted p es)
unfolding sifted
sifted-snoc p es e = ap (filter has_members) (map_snoc (keeping p) es e) ∙ filter-snoc has_members (map (keeping p) es) (keeping p e)

pub sifted-none : (p : ℕ → Bool) → sifted p [] ≡ []
unfolding sifted filter
sifted-none p = refl

-- es are those before record j that are not passed over, es' those and record j
module _ (L : ℕ) (p : ℕ → Bool) (ws : List ℕ) (es : List Hyperedge) (j k : ℕ) (s : List ℕ) (f : Formed L ws) (st : Rewritten L ws (sifted p es) j k s) (h : j < hyperedge_count ws)
    (es' : List Hyperedge) (more : es' ≡ es ++ (hyperedge_at L ws j ∷ [])) where
  -- what is left of record j
  abbrev left : Hyperedge
  left = keeping p (hyperedge_at L ws j)

  left_le : length left.members ≤ L
  left_le = omega (arith, filter-length p (members_at L ws j), members-le L ws f j h)

  whole : (b : Bool) → has_members left ≡ b → sifted p es' ≡ cond b (sifted p es ++ (left ∷ [])) (sifted p es)
  whole b q =
      ap (sifted p) more ∙ sifted-snoc p es (hyperedge_at L ws j)
      ∙ ap (λ (b : Bool). cond b (sifted p es ++ (left ∷ [])) (sifted p es)) q

  -- c members are left
  module _ (c : ℕ) (ec : c ≡ length left.members) where
    pub sifted-kept : (c ≡ 0 → ⊥) → (s' : List ℕ) → s' ≡ paste s (hyperedge_word L k) (hyperedge_words L left) (record_size L) → Rewritten L ws (sifted p es') (j + 1) (k + 1) s'
    unfolding has_members
    sifted-kept ne s' e =
        rw (whole true (ap (ltb 0) (sym ec) ∙ lt-ltb 0 c (not_none c ne))) (rewritten-more L ws (sifted p es) j k s f st h left left_le s' e)

    emptied : c ≡ 0 → sifted p es' ≡ sifted p es
    unfolding has_members
    emptied z = whole false (ap (ltb 0) (sym ec) ∙ le-ltb 0 c (omega arith))

    -- none is left, and the next record overwrites what was written
    pub sifted-over : c ≡ 0 → (s' : List ℕ) → s' ≡ paste s (hyperedge_word L k) (hyperedge_words L left) (record_size L) → Rewritten L ws (sifted p es') (j + 1) k s'
    sifted-over z s' e = rw (emptied z) (rewritten-skip L ws (sifted p es) j k s f st h left left_le s' e)

    -- none is left, and nothing was written
    pub sifted-emptied : c ≡ 0 → Rewritten L ws (sifted p es') (j + 1) k s
    sifted-emptied z = rw (emptied z) (relaid-pass (hyperedge_words L) hyperedges_at (record_size L) ws (sifted p es) j k s st)

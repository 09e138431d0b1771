-- How long what is written is.
use Rattle.std.proofs.Common.{◌≡◌, ℕ, ◌+◌, ◌*◌, ◌<◌, refl, sym, ◌∙◌, ap, arith, Bool, true, false, true≢false, List}
use Rattle.std.proofs.Common.{[], ◌∷◌, ◌++◌, length, take, drop, min, length-append, length-take, get_or}
use Rattle.std.specs.Prelude.{if◌then◌else◌, Some, None}
use Rattle.std.specs.Int.{w32, to_be_bytes}
use Rattle.std.proofs.lemmas.List.{take_more, append-nil}
use Rattle.rtp_wire.specs.Values.{Numbering, Block, block_of}
use Rattle.rtp_wire.specs.Written.{IsWritten}
use Rattle.rtp_wire.specs.declared.header.RtpHeader.{RtpHeader}
use Rattle.rtp_wire.specs.Header.{layout_of, spelled}
use Rattle.rtp_wire.specs.Layout.{Layout, fixed_bytes, words, block_bytes, layout_bytes}

pub length-words : (csrc : List ℕ) → length (words csrc) ≡ 4 * length csrc
length-words [] = refl
length-words (c ∷ cs) = omega (arith, length-words cs)

-- one word more
pub words-more : (csrc : List ℕ) (i : ℕ) → i < length csrc → words (take (i + 1) csrc) ≡ words (take i csrc)
    ++ to_be_bytes w32 (get_or csrc i 0)
words-more csrc i h = rw (take_more csrc i 0 h) (append (take i csrc)) where
  append : (xs : List ℕ) → words (xs ++ get_or csrc i 0 ∷ []) ≡ words xs ++ to_be_bytes w32 (get_or csrc i 0)
  append [] = refl
  append (x ∷ xs) = ap (λ (ys : List ℕ). to_be_bytes w32 x ++ ys) (append xs)

pub length-layout : (l : Layout) → length (layout_bytes l) ≡ 12 + 4 * length l.csrc + length (block_bytes l.extension)
length-layout l = omega (arith, length-append (words l.csrc) (block_bytes l.extension), length-words l.csrc)

-- the block that is there, or not
pub block-there : (x : Bool) (b : Block) → x ≡ true → block_bytes (if x then Some b else None) ≡ block_bytes (Some b)
block-there true b h = refl
block-there false b h = absurd (true≢false (sym h))

pub block-not : (x : Bool) (b : Block) → x ≡ false → block_bytes (if x then Some b else None) ≡ []
block-not true b h = absurd (true≢false h)
block-not false b h = refl

pub length-spelled : (map : Numbering) (h : RtpHeader) → length h.csrc ≡ 15 →
    length (spelled map h) ≡ 12 + 4 * min h.csrc_count 15 + length
    (block_bytes (if h.has_extension then Some (block_of map h.ext_vals) else None))
length-spelled map h l = length-layout (layout_of map h) ∙ omega (arith, length-take h.csrc_count h.csrc)

pub length-spelled_there : (map : Numbering) (h : RtpHeader) → length h.csrc ≡ 15 → h.has_extension ≡ true →
    length (spelled map h) ≡ 12 + 4 * min h.csrc_count 15 + (4 + length (block_of map h.ext_vals).content)
length-spelled_there map h l x = length-spelled map h l
    ∙ rw (block-there h.has_extension (block_of map h.ext_vals) x) (omega arith)

pub length-spelled_not : (map : Numbering) (h : RtpHeader) → length h.csrc ≡ 15 → h.has_extension ≡ false →
    length (spelled map h) ≡ 12 + 4 * min h.csrc_count 15
length-spelled_not map h l x = length-spelled map h l
    ∙ rw (block-not h.has_extension (block_of map h.ext_vals) x) (omega arith)

-- the buffer before anything is written
pub IsWritten-none : (before : List ℕ) → IsWritten [] before before
IsWritten-none before = record { is = refl; fits = omega arith }

-- the parts are the header
pub spelled-there : (map : Numbering) (h : RtpHeader) (fixed : List ℕ) → fixed ≡ fixed_bytes (layout_of map h)
    → h.has_extension ≡ true →
    (fixed ++ words (take h.csrc_count h.csrc)) ++ block_bytes (Some (block_of map h.ext_vals)) ≡ spelled map h
spelled-there map h fixed e x = rw (e, ← block-there h.has_extension (block_of map h.ext_vals) x) refl

pub spelled-not : (map : Numbering) (h : RtpHeader) (fixed : List ℕ) → fixed ≡ fixed_bytes (layout_of map h)
    → h.has_extension ≡ false →
    fixed ++ words (take h.csrc_count h.csrc) ≡ spelled map h
spelled-not map h fixed e x =
    rw e (sym (ap (λ (ys : List ℕ). (fixed_bytes (layout_of map h) ++ words (take h.csrc_count h.csrc)) ++ ys)
    (block-not h.has_extension (block_of map h.ext_vals) x)
    ∙ append-nil (fixed_bytes (layout_of map h) ++ words (take h.csrc_count h.csrc))))

pub IsWritten-as : (text whole before bytes : List ℕ) → IsWritten text before bytes → text ≡ whole → bytes ≡ whole
    ++ drop (length whole) before
IsWritten-as text whole before bytes w e = w.is ∙ ap (λ (t : List ℕ). t ++ drop (length t) before) e

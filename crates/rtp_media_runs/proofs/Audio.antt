-- Units of audio that are sent again.
use Rattle.std.proofs.Common.{◌≡◌, ℕ, zero, suc, ◌<◌, ◌≤◌, List, [], ◌∷◌, length, map, drop, refl, sym, ap, subst}
use Rattle.std.proofs.Common.{◌∙◌, arith}
use Rattle.std.specs.List.{All}
use Rattle.std.proofs.lemmas.List.{append-nil, take_all, drop_all}
use Rattle.std.proofs.lemmas.List.Elements.{All-head, All-nil, All-tail}
use Rattle.payload_core_base.specs.Law.{joined}
use Rattle.payload_core_base.specs.Packing.{Sender}
use Rattle.payload_core_base.specs.Pieces.{pieces}
use Rattle.payload_core_base.proofs.PieceLemmas.{pieces-empty, pieces-none, pieces-step, pieces-within}
use Rattle.payload_core_audio.specs.Plain.{noise_coding, pieces_coding}
use Rattle.payload_core_base.specs.Stateless.{unit_of_piece}
use Rattle.payload_core_audio.specs.Telephone.{first_report, telephone_coding}
use Rattle.payload_core_base.specs.Telephone.{without_r}
use Rattle.rtp_media_runs.specs.Again.{AnySample, AreSentWhole, ComesAgain, GivesAgain, IsSame}
use Rattle.rtp_media_runs.proofs.Whole.{as-it-is, from-one, one-sent, part-bytes}

-- a piece of one part
piece-bytes : (ps : List (List ℕ)) → map joined (map unit_of_piece ps) ≡ ps
piece-bytes [] = refl
piece-bytes (p ∷ ps) = ap (λ q. q ∷ map joined (map unit_of_piece ps)) (append-nil p)
    ∙ ap (λ qs. p ∷ qs) (piece-bytes ps)

-- a text within the limit is its only piece
one-piece : (limit : ℕ) (p : List ℕ) → 0 < length p → length p ≤ limit → pieces limit p ≡ p ∷ []
one-piece limit p some fits =
    let some_limit : 0 < limit = omega arith in
    pieces-step limit p some_limit some
    ∙ ap (λ q. q ∷ pieces limit (drop limit p)) (take_all limit p fits)
    ∙ ap (λ q. p ∷ pieces limit q) (drop_all limit p fits) ∙ ap (λ qs. p ∷ qs) (pieces-empty limit)

pieces-whole : (limit : ℕ) (t : Sender) (ps : List (List ℕ)) → All (λ p. (0 < length p) × (length p ≤ limit)) ps
    → AreSentWhole pieces_coding limit t ps t
pieces-whole limit t [] all = refl
pieces-whole limit t (p ∷ ps) all =
    let fits = All-head (λ (p : List ℕ). (0 < length p) × (length p ≤ limit)) p ps all in (
      fits.0,
      piece-bytes (pieces limit p) ∙ one-piece limit p fits.0 fits.1,
      pieces-whole limit t ps (All-tail (λ (p : List ℕ). (0 < length p) × (length p ≤ limit)) p ps all),
    )

pieces-fit : (limit : ℕ) (sample : List ℕ) → All (λ p. (0 < length p) × (length p ≤ limit)) (pieces limit sample)
pieces-fit zero sample =
    subst (λ (ps : List (List ℕ)). All (λ p. (0 < length p) × (length p ≤ 0)) ps) (sym (pieces-none sample)) (All-nil _)
pieces-fit (suc n) sample = pieces-within (suc n) (omega arith) sample

pub pieces-again : GivesAgain pieces_coding IsSame AnySample
pieces-again s t limit sample same good kept = record {
  after = t;
  whole =
      subst (λ (ps : List (List ℕ)). AreSentWhole pieces_coding limit t ps t) (sym (piece-bytes (pieces limit sample)))
      (pieces-whole limit t (pieces limit sample) (pieces-fit limit sample));
  follows = same;
}

pub noise-again : GivesAgain noise_coding IsSame AnySample
noise-again = from-one noise_coding AnySample (λ s limit sample good. as-it-is noise_coding s limit sample good refl)

-- one report: without R it is without R
without-r-once : (flags : ℕ) → without_r (without_r flags) ≡ without_r flags
without-r-once flags = omega arith

report-again : (rate : ℕ) (s : Sender) (limit : ℕ) (sample : List ℕ) → (length sample ≡ 4) × (length sample ≤ limit)
    → ComesAgain (telephone_coding rate) IsSame limit s s sample
report-again rate s limit (event ∷ flags ∷ high ∷ low ∷ []) good =
    let report : List ℕ = event ∷ without_r flags ∷ high ∷ low ∷ [] in
    let own : first_report report ≡ report = ap (λ n. event ∷ n ∷ high ∷ low ∷ []) (without-r-once flags) in
    one-sent (telephone_coding rate) s limit (event ∷ flags ∷ high ∷ low ∷ []) report refl good
    (part-bytes (unit_of_piece (first_report report) ∷ []) report (ap (λ r. unit_of_piece r ∷ []) own)) refl
report-again rate s limit [] good = absurd (omega arith)
report-again rate s limit (a ∷ []) good = absurd (omega arith)
report-again rate s limit (a ∷ b ∷ []) good = absurd (omega arith)
report-again rate s limit (a ∷ b ∷ c ∷ []) good = absurd (omega arith)
report-again rate s limit (a ∷ b ∷ c ∷ d ∷ e ∷ es) good = absurd (omega arith)

pub telephone-again : (rate : ℕ) → GivesAgain (telephone_coding rate) IsSame AnySample
telephone-again rate = from-one (telephone_coding rate) AnySample (report-again rate)

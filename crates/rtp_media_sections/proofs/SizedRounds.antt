-- Rounds keep the widths of rows.
use Rattle.std.proofs.Common.{◌≡◌, ◌<◌, ◌^◌, ℕ, Bool, true, false, List, [], ◌∷◌, Option, Some, None, IfSome, Ok}
use Rattle.std.proofs.Common.{refl, subst, sym}
use Rattle.media_types.specs.declared.codec.Codec.{Codec}
use Rattle.media_types.specs.declared.codec.Codec.TheVariants.{AmrWb}
use Rattle.sdp_formats_rounds.proofs.Bests.{best_in}
use Rattle.sdp_formats_rounds.proofs.Holds.{rows_become}
use Rattle.sdp_formats_rounds.proofs.Split.{ok_same, split_ok}
use Rattle.sdp_formats_rounds.specs.Best.{best_row}
use Rattle.sdp_formats_rounds.specs.Laws.{Along, Becomes, Section, rounds}
use Rattle.sdp_formats_rounds.specs.Members.{IsEach}
use Rattle.sdp_formats_rounds.specs.Negotiated.{negotiated, negotiated_channels}
use Rattle.sdp_formats_rounds.specs.Ranges.{IsSized}
use Rattle.sdp_formats_rounds.specs.Rounds.{renegotiated, round}
use Rattle.sdp_formats_rows.specs.Rows.{Row}
use Rattle.sdp_formats_rows.specs.declared.spec.CodecSpec.{CodecSpec}
use Rattle.rtp_media_sections.proofs.ListedRows.{one_of}

-- Channels of eight bits, if they are given.
abbrev pub IsNarrow : Option ℕ → Type 0
IsNarrow channels = IfSome channels (λ n. n < 2 ^ 8)

abbrev pub IsNarrowRow : Row → Type 0
IsNarrowRow row = IsNarrow row.spec.channels

abbrev IsSizedSpec : CodecSpec → Type 0
IsSizedSpec spec = (0 < spec.clock_rate) × (spec.clock_rate < 2 ^ 32) × IfSome spec.channels (λ n. n < 2 ^ 8)

channels_left : (codec : Codec) (ours theirs : Option ℕ) → IsNarrow ours → IsNarrow theirs
    → IsNarrow (negotiated_channels codec ours theirs)
channels_left AmrWb ours theirs h k = k
channels_left codec ours theirs h k = h

sized_left : (ours theirs : CodecSpec) → IsSizedSpec ours → IsNarrow theirs.channels
    → IsSizedSpec (negotiated ours theirs)
unfolding negotiated
sized_left ours theirs h k = (h.0, h.1, channels_left ours.codec ours.channels theirs.channels h.2 k)

renegotiated_sized : (remote : List Row) (row : Row) (o : Option Row) → best_row row.spec remote ≡ o
    → IsEach IsNarrowRow remote → IsSized row → IsSized (renegotiated row o)
renegotiated_sized remote row None is n h = h
renegotiated_sized remote row (Some best) is n h =
    sized_left row.spec best.spec h (one_of IsNarrowRow remote best n (best_in row.spec remote best is))

becomes_sized : (dictated : Bool) (remote : List Row) (row new : Row) → Becomes dictated remote row new
    → IsEach IsNarrowRow remote → IsSized row → IsSized new
becomes_sized dictated remote row new b n h = at row.locked new.locked refl refl
  where
    at : (was now : Bool) → row.locked ≡ was → new.locked ≡ now → IsSized new
    at true now is e = subst IsSized (sym (b.stands is))
        (renegotiated_sized remote row (best_row row.spec remote) refl n h)
    at false true is e =
        let t = b.locks is e in
        subst IsSizedSpec (sym t.settings)
        (sized_left row.spec t.best.spec h (one_of IsNarrowRow remote t.best n t.one_of))
    at false false is e = subst IsSizedSpec (sym (b.stays e).0) h

all_sized : (dictated : Bool) (remote rows after : List Row) → Along (Becomes dictated remote) rows after
    → IsEach IsNarrowRow remote → IsEach IsSized rows → IsEach IsSized after
all_sized dictated remote [] [] a n h = tt
all_sized dictated remote (x ∷ xs) (y ∷ ys) a n h =
    (becomes_sized dictated remote x y a.0 n h.0, all_sized dictated remote xs ys a.1 n h.1)
all_sized dictated remote [] (y ∷ ys) a n h = absurd a
all_sized dictated remote (x ∷ xs) [] a n h = absurd a

abbrev pub AreNarrowRows : Section → Type 0
AreNarrowRows s = IsEach IsNarrowRow s.rows

pub rounds_sized : (sections : List Section) (rows after : List Row) → IsEach AreNarrowRows sections
    → IsEach IsSized rows → rounds sections rows ≡ Ok after → IsEach IsSized after
rounds_sized [] rows after n h e = subst (IsEach IsSized) (ok_same rows after e) h
rounds_sized (s ∷ sections) rows after n h e =
    let r = split_ok (round s.dictated s.rows rows) (rounds sections) after e in
    rounds_sized sections r.0 after n.1
    (all_sized s.dictated s.rows rows r.0 (rows_become s.dictated s.rows rows r.0 r.1) n.0 h) r.2

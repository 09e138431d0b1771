-- Streams as an end opens them.
use Rattle.std.proofs.Common.{◌≡◌, ◌≢◌, ℕ, ◌<◌, ◌≤◌, ◌^◌, Bool, true, false, List, refl, sym, ap, arith, ◌&&◌}
use Rattle.std.proofs.Common.{true≢false, ◌∙◌, subst}
use Rattle.std.proofs.lemmas.Bool.Decides.{nat_tests}
use Rattle.std.specs.Option.{ForSome}
use Rattle.std.specs.Prelude.{Option, Some, None, is_some, unwrap_or, ◌==◌, nat_le, not, IfSome}
use Rattle.h26x_payload.specs.Codings.{first_sender, has_format, forms_for}
use Rattle.h26x_payload.specs.Dispatch.{FirstIsReached}
use Rattle.rtp_wire.specs.Values.{Numbering}
use Rattle.sdp_formats_rows.specs.Rows.{Row}
use Rattle.rtp_media_streams.specs.Rows.{coding_in, first_state, settings_in}
use Rattle.rtp_media_streams.specs.Sending.{opened_sender}
use Rattle.rtp_media_streams.proofs.Configured.{reached-in-forms}
use Rattle.rtp_media_sections.specs.Agreement.{agreed_row_of, own_repairs_of}
use Rattle.rtp_media_streams.specs.declared.types.PayloadTypes.{PayloadTypes}
use Rattle.rtp_media_ends.specs.Repairs.{IsKeyBeside}
use Rattle.rtp_media_ends.specs.Ends.{EndState, is_carried, is_red_of, new_sender, red_in, row_format_in}
use Rattle.rtp_media_ends.specs.Ends.{row_format_of, row_sender, stream_map, types_in, types_of, with_distances}
use Rattle.rtp_media_ends.specs.FullArrival.{IsSender}
use Rattle.rtp_media_ends.specs.Params.{IsRedundancy, IsSound}
use Rattle.rtp_media_ends.specs.declared.params.StreamParams.{StreamParams}

-- a RED type has 7 bits and is another than the row's
abbrev pub IsRedOf : ℕ → Option ℕ → Type 0
IsRedOf pt red = IfSome red (λ r. (r ≤ 127) × (r ≢ pt))

-- what a row has that a stream can carry
pub record Fits (row : Row) : Type 0 where
  pub format : has_format row.spec.codec ≡ true
  pub typed : row.pt < 128
  pub red : IsRedOf row.pt row.red

left : (a b : Bool) → (a && b) ≡ true → a ≡ true
left true b h = refl
left false b h = h

right : (a b : Bool) → (a && b) ≡ true → b ≡ true
right true b h = h
right false b h = absurd (true≢false (sym h))

le-of : (a b : ℕ) → nat_le a b ≡ true → a ≤ b
le-of a b h = grind (arith, nat_tests)

ne-of : (a b : ℕ) → not (a == b) ≡ true → a ≢ b
ne-of a b h = grind (arith, nat_tests)

red-fits : (pt : ℕ) (red : Option ℕ) → is_red_of pt red ≡ true → IsRedOf pt red
red-fits pt None h = tt
red-fits pt (Some r) h = (le-of r 127 (left _ _ h), ne-of r pt (right (nat_le r 127) _ h))

pub carried-fits : (row : Row) → is_carried row ≡ true → Fits row
carried-fits row h =
    let typed : (nat_le row.pt 127 && is_red_of row.pt row.red) ≡ true = right (has_format row.spec.codec) _ h in
    let small : row.pt ≤ 127 = le-of row.pt 127 (left (nat_le row.pt 127) (is_red_of row.pt row.red) typed) in
    record {
      format = left (has_format row.spec.codec) (nat_le row.pt 127 && is_red_of row.pt row.red) h;
      typed = omega (arith, small);
      red = red-fits row.pt row.red (right (nat_le row.pt 127) (is_red_of row.pt row.red) typed);
    }

small-id : (o : Option ℕ) → ForSome o (λ id. id ≤ 32767) → unwrap_or o 0 < 32768
small-id None h = omega arith
small-id (Some n) h = omega (arith, h n refl)

pub opened-sound : FirstIsReached → (ssrc : ℕ) (types : PayloadTypes) (row : Row) (map : Numbering)
    (params : StreamParams) → types.pt ≡ row.pt → types.red ≡ row.red → IsKeyBeside ssrc types.repair → Fits row
    → ssrc < 2 ^ 32 → IsSound row.red params →
    IsSender (with_distances (opened_sender ssrc types map (row_format_of row) params.picture_id
    params.for_browsers params.first params.mtu params.limit) row.red params.red)
unfolding first_state
opened-sound law ssrc types row map params of_row of_red beside fit fits sound =
    go row.red params.red refl fit.red sound.redundancy where
      reached : (coding_in (row_format_of row) (is_some params.picture_id)
          params.for_browsers).IsReached
          (first_state (row_format_of row) params.picture_id)
      reached = reached-in-forms (forms_for params.for_browsers) (settings_in (row_format_of row))
          (is_some params.picture_id) row.spec.codec (first_sender (unwrap_or params.picture_id 0) row.spec.codec)
          (law (settings_in (row_format_of row)) (is_some params.picture_id) row.spec.codec
          (unwrap_or params.picture_id 0) fit.format (small-id params.picture_id sound.picture_id))

      typed : types.pt < 128
      typed = subst (λ (n : ℕ). n < 128) (sym of_row) fit.typed

      go : (red : Option ℕ) (distances : Option (List ℕ)) → row.red ≡ red → IsRedOf row.pt red
          → IsRedundancy red params.mtu distances →
          IsSender (with_distances (opened_sender ssrc types map (row_format_of row) params.picture_id
          params.for_browsers params.first params.mtu params.limit) red distances)
      go red None e of r = record {
        typed = refl;
        payload_type = typed;
        wire_type = typed;
        ssrc = fits;
        reached = reached;
        beside = beside;
        repairs = omega arith;
      }
      go None (Some ds) e of r = absurd r
      go (Some w) (Some ds) e of r = record {
        typed = (of_red ∙ e, subst (λ (n : ℕ). w ≢ n) (sym of_row) of.1, r.1);
        payload_type = typed;
        wire_type = omega (arith, of.0);
        ssrc = fits;
        reached = reached;
        beside = beside;
        repairs = omega arith;
      }

-- the stream of the agreed row is the one that the end opens
pub sender-of-row : (e : EndState) (mid : List ℕ) (ssrc pt : ℕ) (params : StreamParams) (row : Row)
    → agreed_row_of e.exchange.agreed mid pt ≡ Some row
    → row_sender ssrc (types_of row ssrc (own_repairs_of e.exchange.agreed mid)) row (stream_map e mid) params
    ≡ new_sender e mid ssrc pt params
sender-of-row e mid ssrc pt params row is =
    ap (λ (o : Option Row). with_distances
    (opened_sender ssrc (types_in o ssrc (own_repairs_of e.exchange.agreed mid)) (stream_map e mid) (row_format_in o)
    params.picture_id params.for_browsers params.first params.mtu params.limit) (red_in o) params.red) (sym is)

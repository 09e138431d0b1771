-- VP8 in a room: the stream of a hop sends a frame as one packet.
use Rattle.std.proofs.Common.{◌≡◌, ℕ, ◌+◌, ◌-◌, ◌<◌, ◌≤◌, refl, sym, ◌∙◌, ap, subst, arith, Bool, true, false}
use Rattle.std.proofs.Common.{List}
use Rattle.std.proofs.Common.{[], ◌∷◌, length, Option}
use Rattle.std.proofs.lemmas.Bool.Decides.{nat_tests}
use Rattle.std.proofs.lemmas.List.Elements.{All-cons, All-nil}
use Rattle.std.specs.Prelude.{if◌then◌else◌, is_some, nat_le}
use Rattle.h26x_payload.specs.Codings as codings
use Rattle.h26x_payload.specs.Codings.{forms_for}
use Rattle.h26x_payload.specs.Dispatch.{FirstIsReached, KeepCodecLawInForms}
use Rattle.media_types.specs.declared.codec.Codec.{Codec}
use Rattle.media_types.specs.declared.codec.Codec.TheVariants.{Vp8}
use Rattle.payload_core_base.specs.Frames.{after_frame}
use Rattle.payload_core_base.specs.Packing as packing
use Rattle.payload_core_base.specs.Packing.{Sent, marked}
use Rattle.payload_core_base.specs.Pieces.{pieces}
use Rattle.payload_core_vpx.specs.Vp8.{described, vp8_coding, vp8_format, vp8_packing}
use Rattle.rtp_wire.specs.Carried.{AreValues}
use Rattle.rtp_wire.specs.declared.values.ExtensionValues.{ExtensionValues}
use Rattle.rtp_media_schedules.specs.Samples.{SentSample, packets_of, sent_by}
use Rattle.rtp_media_schedules.specs.SentSamples.{timed}
use Rattle.rtp_media_streams.specs.Rows.{format_of, settings_in}
use Rattle.rtp_media_streams.specs.Sending.{Sample, Sending, carried, opened_sender, packet_limit, samples_of}
use Rattle.rtp_media_streams.specs.Sending.{timestamp}
use Rattle.rtp_media_streams.specs.declared.row_format.RowFormat.{RowFormat}
use Rattle.rtp_media_ends.specs.Ends.{sender_types}
use Rattle.rtp_media_ends.specs.FullArrival.{AreSound, count_of, sent_samples}
use Rattle.rtp_media_runs.specs.Hops.{Carries, Hop, limit_over, map_over, row_over, sender_over}
use Rattle.rtp_media_runs.proofs.Exchanged.{IsPlain, plain}
use Rattle.rtp_media_runs.proofs.OneSample.{one-piece}
use Rattle.rtp_media_forward_runs.specs.Vp8Forwarded.{CarriesVp8, FitsAfterDescriptor, vp8_form}
use Rattle.rtp_media_forward_runs.proofs.Rooms.{Sends, SendsOne, only}

vp8-format-is : (row : RowFormat) → row.codec ≡ Vp8 → format_of row ≡ vp8_format
unfolding format_of
vp8-format-is row is = ap (λ (c : Codec). (codings.coding_in (forms_for false) (settings_in row) false c).format) is

below : (limit : ℕ) → 2 ≤ limit → nat_le limit 1 ≡ false
below limit two = grind (arith, nat_tests)

-- a frame in one packet
abbrev alone : ℕ → ExtensionValues → List ℕ → SentSample
alone time values bytes = record {
  time = time;
  values = values;
  packets = record { payload = 16 ∷ bytes; marker = true } ∷ [];
  units = (bytes ∷ []) ∷ [];
}

frame-sent : (zero_id : Bool) (state : packing.Sender) (limit time : ℕ) (values : ExtensionValues) (bytes : List ℕ)
    → 0 < length bytes → length bytes + 1 ≤ limit
    → sent_by (vp8_coding false zero_id) limit state (timed time values bytes ∷ []) ≡ alone time values bytes ∷ []
frame-sent zero_id state limit time values [] some fits = absurd (omega arith)
frame-sent zero_id state limit time values (b ∷ bs) some fits =
    ap (λ (none : Bool). let sent : Sent = if none then record { packets = []; sender = state } else record {
      packets = described false state.number true (pieces (limit - 1) (b ∷ bs));
      sender = after_frame state;
    } in let ss : List SentSample = record {
      time = time;
      values = values;
      packets = marked (vp8_packing false zero_id) sent.packets;
      units = (if none then [] else ((b ∷ bs) ∷ []) ∷ []);
    } ∷ [] in ss) (below limit (omega (arith, some, fits)))
    ∙ ap (λ (ps : List (List ℕ)). let ss : List SentSample = record {
      time = time;
      values = values;
      packets = marked (vp8_packing false zero_id) (described false state.number true ps);
      units = ((b ∷ bs) ∷ []) ∷ [];
    } ∷ [] in ss) (one-piece (limit - 1) (b ∷ bs) some (omega (arith, fits)))

module _ (s : Sending) (x : Sample) (is : s.row.codec ≡ Vp8) (no_id : s.has_id ≡ false) (some : 0 < length x.bytes)
    (fits : length x.bytes + 1 ≤ packet_limit s) where
  sent-frame : sent_samples s (x ∷ []) ≡ only vp8_form s x
  sent-frame =
      ap (λ (c : Codec). sent_by (codings.coding_in (forms_for s.for_browsers) (settings_in s.row) s.has_id c)
      (packet_limit s) s.packetizer (samples_of s (x ∷ []))) is
      ∙ ap (λ (id : Bool). sent_by (vp8_coding id s.for_browsers) (packet_limit s) s.packetizer
      (samples_of s (x ∷ []))) no_id
      ∙ frame-sent s.for_browsers s.packetizer (packet_limit s) (timestamp s x.time) (carried s x.values) x.bytes some
      fits

  sound-frame : AreValues x.values → AreSound s (x ∷ [])
  sound-frame values = record {
    well_formed = (
      subst (λ (c : Codec). (codings.coding_in (forms_for s.for_browsers) (settings_in s.row) s.has_id c).IsWellFormed
          (packet_limit s) x.bytes) (sym is) some,
      tt,
    );
    values = All-cons (λ (y : Sample). AreValues y.values) x [] values (All-nil _);
  }

module _ (law : KeepCodecLawInForms) (reached : FirstIsReached) where
  same : (h : Hop) (vp8 : CarriesVp8 h) → IsPlain (opened_sender h.ssrc (sender_types h.sender h.mid h.ssrc h.pt)
      (map_over h) (row_over h) h.params.picture_id h.params.for_browsers h.params.first h.params.mtu h.params.limit)
      (sender_over h) (limit_over h)
  same h vp8 = plain law reached h.answer h.sender h.receiver h.mid h.ssrc h.pt h.params [] vp8.opened

  is-vp8 : (h : Hop) → CarriesVp8 h → (sender_over h).row.codec ≡ Vp8
  is-vp8 h vp8 = ap (λ (row : RowFormat). row.codec) (same h vp8).row ∙ vp8.vp8

  module _ (h : Hop) (x : Sample) (vp8 : CarriesVp8 h) (fits : FitsAfterDescriptor h x) where
    abbrev s : Sending
    s = sender_over h

    without-id : s.has_id ≡ false
    without-id = (same h vp8).has_id ∙ ap (λ (id : Option ℕ). is_some id) vp8.no_id

    room : length x.bytes + 1 ≤ packet_limit s
    room = let limit : packet_limit s ≡ limit_over h = (same h vp8).limit_is in omega (arith, fits.fits, limit)

    sent : sent_samples s (x ∷ []) ≡ only vp8_form s x
    sent = sent-frame s x (is-vp8 h vp8) without-id fits.some room

    carries-frame : Carries h (x ∷ [])
    carries-frame =
        let one : count_of s (x ∷ []) ≡ 1 = ap (λ (ss : List SentSample). length (packets_of ss)) sent in record {
          exchanged = vp8.opened.exchanged;
          sends = vp8.opened.sends;
          receives = vp8.opened.receives;
          ssrc_fits = vp8.opened.ssrc_fits;
          repair_fits = vp8.opened.repair_fits;
          sound_params = vp8.opened.sound_params;
          sound_samples = sound-frame s x (is-vp8 h vp8) without-id fits.some room fits.values;
          numbers = omega (arith, vp8.first, one);
        }

    pub sends-frame : SendsOne vp8_form vp8_format h x
    sends-frame = record {
      from_zero = (same h vp8).next ∙ vp8.first;
      sent = sent;
      carries = carries-frame;
      format_is = vp8-format-is s.row (is-vp8 h vp8);
      some = fits.some;
      values = fits.values;
    }

  pub sends-vp8 : Sends vp8_form vp8_format CarriesVp8 FitsAfterDescriptor
  sends-vp8 = record {
    ones = sends-frame;
    opened = λ h vp8. vp8.opened;
    format_is = λ h vp8. vp8-format-is (sender_over h).row (is-vp8 h vp8);
    last_is_tail = λ payload. refl;
  }

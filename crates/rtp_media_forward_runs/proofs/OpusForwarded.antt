-- Opus in a room: the stream of a hop sends a sample as one packet.
use Rattle.std.proofs.Common.{◌≡◌, ℕ, ◌<◌, ◌≤◌, refl, ◌∙◌, ap, false, List, [], ◌∷◌, length, map}
use Rattle.h26x_payload.specs.Codings as codings
use Rattle.h26x_payload.specs.Codings.{forms_for}
use Rattle.h26x_payload.specs.Dispatch.{FirstIsReached, KeepCodecLawInForms}
use Rattle.media_types.specs.declared.codec.Codec.{Codec}
use Rattle.media_types.specs.declared.codec.Codec.TheVariants.{Opus}
use Rattle.payload_core_base.specs.Packing.{marked}
use Rattle.payload_core_base.specs.Stateless.{unit_of_piece}
use Rattle.payload_core_audio.specs.Plain.{pieces_packing, plain_format}
use Rattle.rtp_media_schedules.specs.Samples.{SentSample, sent_by}
use Rattle.rtp_media_streams.specs.Rows.{format_of, settings_in}
use Rattle.rtp_media_streams.specs.Sending.{Sample, Sending, carried, packet_limit, samples_of, timestamp}
use Rattle.rtp_media_streams.specs.declared.row_format.RowFormat.{RowFormat}
use Rattle.rtp_media_ends.specs.FullArrival.{sent_samples}
use Rattle.rtp_media_runs.specs.Hops.{Hop, sender_over}
use Rattle.rtp_media_runs.specs.OpusHops.{CarriesOpus, FitsPacket}
use Rattle.rtp_media_runs.proofs.Exchanged as exchanged
use Rattle.rtp_media_runs.proofs.OneSample.{carries-one, in-packet, is-opus, one-piece}
use Rattle.rtp_media_forward_runs.specs.OpusForwarded.{opus_form}
use Rattle.rtp_media_forward_runs.proofs.Rooms.{Sends, SendsOne, only}

opus-format : (row : RowFormat) → row.codec ≡ Opus → format_of row ≡ plain_format
unfolding format_of
opus-format row is = ap (λ (c : Codec). (codings.coding_in (forms_for false) (settings_in row) false c).format) is

sent-one : (s : Sending) (x : Sample) → s.row.codec ≡ Opus → 0 < length x.bytes → length x.bytes ≤ packet_limit s
    → sent_samples s (x ∷ []) ≡ only opus_form s x
sent-one s x is some fits =
    ap (λ (c : Codec). sent_by (codings.coding_in (forms_for s.for_browsers) (settings_in s.row) s.has_id c)
    (packet_limit s) s.packetizer (samples_of s (x ∷ []))) is
    ∙ ap (λ (ps : List (List ℕ)). let ss : List SentSample = record {
      time = timestamp s x.time;
      values = carried s x.values;
      packets = marked pieces_packing ps;
      units = map unit_of_piece ps;
    } ∷ [] in ss) (one-piece (packet_limit s) x.bytes some fits)

module _ (law : KeepCodecLawInForms) (reached : FirstIsReached) where
  is-opus-stream : (h : Hop) → CarriesOpus h → (sender_over h).row.codec ≡ Opus
  is-opus-stream h opus =
      ap (λ (row : RowFormat). row.codec)
      (exchanged.plain law reached h.answer h.sender h.receiver h.mid h.ssrc h.pt h.params [] opus.opened).row
      ∙ opus.opus

  pub sends-opus-one : (h : Hop) (x : Sample) → CarriesOpus h → FitsPacket h x → SendsOne opus_form plain_format h x
  sends-opus-one h x opus fits = record {
    from_zero = (exchanged.plain law reached h.answer h.sender h.receiver h.mid h.ssrc h.pt h.params []
        opus.opened).next
        ∙ opus.first;
    sent = sent-one (sender_over h) x (is-opus law reached h x opus fits) fits.some
        (in-packet law reached h x opus fits);
    carries = carries-one law reached h x opus fits;
    format_is = opus-format (sender_over h).row (is-opus law reached h x opus fits);
    some = fits.some;
    values = fits.values;
  }

  pub sends-opus : Sends opus_form plain_format CarriesOpus FitsPacket
  sends-opus = record {
    ones = sends-opus-one;
    opened = λ h opus. opus.opened;
    format_is = λ h opus. opus-format (sender_over h).row (is-opus-stream h opus);
    last_is_tail = λ payload. refl;
  }

-- A receiving stream as an end opens it: what has its SSRC and one of its types is its own from then on.
use Rattle.std.proofs.Common.{◌≡◌, ℕ, refl, ◌∙◌, ap, false}
use Rattle.std.proofs.Common.{List, length}
use Rattle.std.proofs.lemmas.List.{get_or_push}
use Rattle.std.specs.Prelude.{Option, Some, None}
use Rattle.std.specs.List.{list_any}
use Rattle.rtp_media_sections.specs.Agreement.{Agreed, remote_repairs_in, row_in, row_of_section, section_of}
use Rattle.sdp_formats_rows.specs.Rows.{Row}
use Rattle.payload_core_buffer.specs.Buffered.{Holding}
use Rattle.rtp_media_streams.specs.Receiving.{Receiving}
use Rattle.rtp_media_streams.specs.declared.types.PayloadTypes.{PayloadTypes}
use Rattle.rtp_media_stream_table.specs.declared.open_stream.OpenStream.TheVariants.{Receiver}
use Rattle.rtp_media_ends.specs.Ends.{EndState, after_open_receiver, new_receiver, receiver_types}
use Rattle.rtp_media_stream_table.specs.Streams.{no_receiver}
use Rattle.rtp_media_stream_table.specs.Streams.{receives_as, receiving_of}
use Rattle.rtp_media_ends.specs.Ends.{refusal_of_open_receiver, types_in, types_of}
use Rattle.rtp_media_ends.specs.FullArrival.{HasReceiver}
use Rattle.rtp_media_ends.specs.OpensAt.{ReceivesAt}
use Rattle.rtp_media_ends.proofs.MayOpen.{receives-at}
use Rattle.rtp_media_stream_table.proofs.NewReceiver.{found-new}

-- the types of the agreed row
types-agreed : (e : EndState) (mid : List ℕ) (ssrc pt : ℕ) (a : Agreed) (row : Row)
    → section_of e.exchange.agreed mid ≡ Some a → row_in a.rows pt ≡ Some row
    → receiver_types e mid ssrc pt ≡ types_of row ssrc a.remote_repairs
types-agreed e mid ssrc pt a row is found =
    ap (λ (o : Option Agreed). types_in (row_of_section o pt) ssrc (remote_repairs_in o)) is
    ∙ ap (λ (o : Option Row). types_in o ssrc a.remote_repairs) found

-- An opened receiving stream has its number, and takes its own datagrams.
pub opened-receiver : (e : EndState) (mid : List ℕ) (ssrc pt : ℕ) (holding : Holding)
    → refusal_of_open_receiver e mid ssrc pt ≡ None →
    HasReceiver (after_open_receiver e mid ssrc pt holding) (length e.streams)
    (new_receiver e mid ssrc pt holding)
unfolding after_open_receiver
opened-receiver e mid ssrc pt holding none =
    let at : ReceivesAt e mid ssrc pt = receives-at e mid ssrc pt none in
    let x : Receiving = new_receiver e mid ssrc pt holding in
    let types : receiver_types e mid ssrc pt ≡ types_of at.row ssrc at.section.remote_repairs =
    types-agreed e mid ssrc pt at.section at.row at.agreed at.row_is in
    let apart : list_any (receives_as ssrc (receiver_types e mid ssrc pt)) e.streams ≡ false =
    ap (λ (t : PayloadTypes). list_any (receives_as ssrc t) e.streams) types ∙ at.not_open in
    record {
      stream_is = ap receiving_of (get_or_push e.streams (Receiver x) (Receiver no_receiver) (length e.streams) refl);
      found = found-new e.streams x apart;
    }

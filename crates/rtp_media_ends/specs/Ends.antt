use Rattle.std.specs.Prelude.{◌≡◌, ℕ, Bool, true, not, nat_le, ◌==◌, ◌&&◌, ◌||◌, List, [], ◌∷◌, ◌++◌}
use Rattle.std.specs.Prelude.{Option, Some, None, if◌then◌else◌, unwrap_or}
use Rattle.std.specs.List.{list_any}
use Rattle.rtp_wire.specs.Maps.{empty_map}
use Rattle.rtp_wire.specs.Values.{Numbering}
use Rattle.payload_core_buffer.specs.Buffered.{Holding}
use Rattle.h26x_payload.specs.Codings.{has_format}
use Rattle.rtp_media_streams.specs.Sending.{Sending, opened_sender, redundant_sender}
use Rattle.rtp_media_streams.specs.Receiving.{Receiving, opened_receiver}
use Rattle.rtp_media_streams.specs.declared.row_format.RowFormat.{RowFormat}
use Rattle.rtp_media_streams.specs.declared.types.PayloadTypes.{PayloadTypes}
use Rattle.rtp_media_streams.specs.declared.types.RepairKey.{RepairKey}
use Rattle.sdp_formats_rows.specs.Rows.{Row}
use Rattle.sdp_formats_rounds.specs.Configs.{Config}
use Rattle.rtp_media_exchange.specs.Exchanges.{Exchanged, fresh, fixed}
use Rattle.sdp_formats_data.specs.declared.session.Session.{Session}
use Rattle.rtp_media_sections.specs.Agreement.{Agreed, agreed_map_of, agreed_row_of, is_named, own_row_agrees}
use Rattle.rtp_media_sections.specs.Agreement.{own_repairs_of, remote_repairs_of, row_in, section_of}
use Rattle.rtp_media_sections.specs.Repairs.{repairing_of}
use Rattle.rtp_media_stream_table.specs.declared.open_stream.OpenStream.{OpenStream}
use Rattle.rtp_media_stream_table.specs.declared.open_stream.OpenStream.TheVariants.{Sender, Receiver}
use Rattle.rtp_media_ends.specs.declared.params.StreamParams.{StreamParams}
use Rattle.rtp_media_ends.specs.declared.errors.OpenError.{OpenError}
use Rattle.rtp_media_ends.specs.declared.errors.OpenError.TheVariants.{NoSection, RowNotAgreed, RowDiffers}
use Rattle.rtp_media_ends.specs.declared.errors.OpenError.TheVariants.{WrongDirection, SsrcNotNamed}
use Rattle.rtp_media_ends.specs.declared.errors.OpenError.TheVariants.{AlreadyOpen}
use Rattle.rtp_media_stream_table.specs.Streams.{is_nth_receiver, is_nth_sender, no_row_format, no_types, nth_receiver}
use Rattle.rtp_media_stream_table.specs.Streams.{nth_sender, receives_as, sends_as, set_closed, set_receiver}
use Rattle.rtp_media_stream_table.specs.Streams.{set_sender}

-- What an end keeps: its exchanges, and its streams of both directions by number.
pub record EndState : Type 0 where
  pub exchange : Exchanged
  pub streams : List OpenStream

-- An end of these exchanges and these streams.
abbrev pub end_of : Exchanged → List OpenStream → EndState
end_of exchange streams = record { exchange = exchange; streams = streams }

-- The end with these streams.
abbrev pub with_streams : EndState → List OpenStream → EndState
with_streams e streams = end_of e.exchange streams

-- The end with its n-th stream replaced.
abbrev pub with_sender : EndState → ℕ → Sending → EndState
with_sender e n s = with_streams e (set_sender e.streams n s)

abbrev pub with_receiver : EndState → ℕ → Receiving → EndState
with_receiver e n r = with_streams e (set_receiver e.streams n r)

-- The end with its n-th stream closed.
abbrev pub without_stream : EndState → ℕ → EndState
without_stream e n = with_streams e (set_closed e.streams n)

-- The end after an exchange; its streams don't change.
abbrev pub with_exchange : EndState → Exchanged → EndState
with_exchange e x = end_of x e.streams

-- The end with one more stream.
abbrev pub with_new_sender : EndState → Sending → EndState
with_new_sender e s = with_streams e (e.streams ++ Sender s ∷ [])

abbrev pub with_new_receiver : EndState → Receiving → EndState
with_new_receiver e r = with_streams e (e.streams ++ Receiver r ∷ [])

-- The SSRC and payload type of a stream's retransmissions (RFC 4588 8.1 and 8.3): the RTX SSRC, if it differs from the
-- stream's, and the row's RTX type, if it is below 128.
abbrev pub key_of : ℕ → Option ℕ → Option ℕ → Option RepairKey
key_of ssrc (Some pt) (Some repair) =
    if nat_le pt 127 && not (repair == ssrc) then Some (record { ssrc = repair; pt = pt }) else None
key_of ssrc None repair = None
key_of ssrc (Some pt) None = None

-- The payload types of a row's stream under an SSRC with this RTX SSRC; and with the RTX SSRC that its sender names.
abbrev pub types_by : Row → ℕ → Option ℕ → PayloadTypes
types_by row ssrc repair = record { pt = row.pt; red = row.red; repair = key_of ssrc row.resend repair }

abbrev pub types_of : Row → ℕ → List (ℕ × ℕ) → PayloadTypes
types_of row ssrc repairs = types_by row ssrc (repairing_of repairs ssrc)

-- A row's payload format.
abbrev pub row_format_of : Row → RowFormat
row_format_of row = record {
  codec = row.spec.codec;
  clock_rate = row.spec.clock_rate;
  octet_align = row.spec.format.octet_align;
  sprop_max_don_diff = row.spec.format.sprop_max_don_diff;
}

-- The same of an end's streams.
abbrev pub sender_at : EndState → ℕ → Sending
sender_at e n = nth_sender e.streams n

abbrev pub receiver_at : EndState → ℕ → Receiving
receiver_at e n = nth_receiver e.streams n

-- The n-th stream, a receiving one, did this; nothing else changes.
abbrev pub AtReceiver : EndState → ℕ → (Receiving → Receiving → Type 0) → EndState → Type 0
AtReceiver e n Did after =
    Did (receiver_at e n) (receiver_at after n) × (after ≡ with_receiver e n (receiver_at after n))

abbrev pub is_sender_at : EndState → ℕ → Bool
is_sender_at e n = is_nth_sender e.streams n

abbrev pub is_receiver_at : EndState → ℕ → Bool
is_receiver_at e n = is_nth_receiver e.streams n

-- A RED type is below 128, and isn't the row's own type.
abbrev pub is_red_of : ℕ → Option ℕ → Bool
is_red_of pt None = true
is_red_of pt (Some red) = nat_le red 127 && not (red == pt)

-- Whether a stream can carry a row: its codec has a payload format, and its payload types are below 128 and distinct.
abbrev pub is_carried : Row → Bool
is_carried row = has_format row.spec.codec && (nat_le row.pt 127 && is_red_of row.pt row.red)

abbrev pub carried : Option Row → Option Row
carried None = None
carried (Some row) = if is_carried row then Some row else None

-- The section's row with this payload type, if a stream can carry it.
abbrev pub carried_row : Agreed → ℕ → Option Row
carried_row a pt = carried (row_in a.rows pt)

-- Why there is no such row: the section has no row of that type; or its codec has no payload format, or its type is
-- above 127; or its RED type is invalid, and then no own row can agree with it, so the error is RowDiffers.
abbrev pub refusal_of_row : Option Row → OpenError
refusal_of_row None = RowNotAgreed
refusal_of_row (Some row) = if has_format row.spec.codec && nat_le row.pt 127 then RowDiffers else RowNotAgreed

-- Why no stream can be opened for a row, the first that applies: the end's own row doesn't agree with it; media doesn't
-- flow this way; the sender doesn't name the SSRC; such a stream is already open.
abbrev pub refusal_by : Bool → Bool → Bool → Bool → Option OpenError
refusal_by agrees flows names is_open =
    if not agrees then Some RowDiffers
    else if not flows then Some WrongDirection
    else if not names then Some SsrcNotNamed
    else if is_open then Some AlreadyOpen
    else None

-- Whether an end's rows agree with a row of an agreed section: one of them is locked under its type and is the same to
-- a stream; or the section took its rows from a text.
abbrev pub agrees_in : List Row → Agreed → Row → Bool
agrees_in own a row = a.by_text || own_row_agrees own row

abbrev pub sender_refusal_of : List Row → Agreed → List OpenStream → ℕ → ℕ → Option Row → Option OpenError
sender_refusal_of own a streams ssrc pt None = Some (refusal_of_row (row_in a.rows pt))
sender_refusal_of own a streams ssrc pt (Some row) =
    refusal_by (agrees_in own a row) a.sends (is_named a.own_ssrcs ssrc)
    (list_any (sends_as ssrc (types_of row ssrc a.own_repairs)) streams)

abbrev pub sender_refusal_in : List Row → Option Agreed → List OpenStream → ℕ → ℕ → Option OpenError
sender_refusal_in own None streams ssrc pt = Some NoSection
sender_refusal_in own (Some a) streams ssrc pt = sender_refusal_of own a streams ssrc pt (carried_row a pt)

abbrev pub receiver_refusal_of : List Row → Agreed → List OpenStream → ℕ → ℕ → Option Row → Option OpenError
receiver_refusal_of own a streams ssrc pt None = Some (refusal_of_row (row_in a.rows pt))
receiver_refusal_of own a streams ssrc pt (Some row) =
    refusal_by (agrees_in own a row) a.receives (is_named a.remote_ssrcs ssrc)
    (list_any (receives_as ssrc (types_of row ssrc a.remote_repairs)) streams)

abbrev pub receiver_refusal_in : List Row → Option Agreed → List OpenStream → ℕ → ℕ → Option OpenError
receiver_refusal_in own None streams ssrc pt = Some NoSection
receiver_refusal_in own (Some a) streams ssrc pt = receiver_refusal_of own a streams ssrc pt (carried_row a pt)

-- Why `open_sender` is refused, not counting lack of memory.
unfoldable pub refusal_of_open_sender : EndState → List ℕ → ℕ → ℕ → Option OpenError
refusal_of_open_sender e mid ssrc pt =
    sender_refusal_in e.exchange.config.rows (section_of e.exchange.agreed mid) e.streams ssrc pt

-- Why `open_receiver` is refused, not counting lack of memory.
unfoldable pub refusal_of_open_receiver : EndState → List ℕ → ℕ → ℕ → Option OpenError
refusal_of_open_receiver e mid ssrc pt =
    receiver_refusal_in e.exchange.config.rows (section_of e.exchange.agreed mid) e.streams ssrc pt

-- Whether datagrams of an SSRC may be those of a section's sender: it names the SSRC, or none, as one whose streams
-- `a=rid` alone tells apart (RFC 8853 6.1).
abbrev pub may_be_sent : List ℕ → ℕ → Bool
may_be_sent [] ssrc = true
may_be_sent (named ∷ rest) ssrc = is_named (named ∷ rest) ssrc

abbrev pub unsignalled_refusal_of : List Row → Agreed → List OpenStream → ℕ → ℕ → Option Row → Option OpenError
unsignalled_refusal_of own a streams ssrc pt None = Some (refusal_of_row (row_in a.rows pt))
unsignalled_refusal_of own a streams ssrc pt (Some row) =
    refusal_by (agrees_in own a row) a.receives (may_be_sent a.remote_ssrcs ssrc)
    (list_any (receives_as ssrc (types_of row ssrc a.remote_repairs)) streams)

abbrev pub unsignalled_refusal_in : List Row → Option Agreed → List OpenStream → ℕ → ℕ → Option OpenError
unsignalled_refusal_in own None streams ssrc pt = Some NoSection
unsignalled_refusal_in own (Some a) streams ssrc pt = unsignalled_refusal_of own a streams ssrc pt (carried_row a pt)

-- Why `open_unsignalled` is refused, not counting lack of memory.
unfoldable pub refusal_of_open_unsignalled : EndState → List ℕ → ℕ → ℕ → Option OpenError
refusal_of_open_unsignalled e mid ssrc pt =
    unsignalled_refusal_in e.exchange.config.rows (section_of e.exchange.agreed mid) e.streams ssrc pt

-- The map of header extensions of a new stream: the agreed one.
abbrev pub stream_map : EndState → List ℕ → Numbering
stream_map e mid = unwrap_or (agreed_map_of e.exchange.agreed mid) empty_map

-- What the row of a new stream says of its payloads.
abbrev pub row_format_in : Option Row → RowFormat
row_format_in None = no_row_format
row_format_in (Some row) = row_format_of row

abbrev pub agreed_format : EndState → List ℕ → ℕ → RowFormat
agreed_format e mid pt = row_format_in (agreed_row_of e.exchange.agreed mid pt)

-- The payload types of a new stream, which sends or receives, and its RED type.
abbrev pub types_in : Option Row → ℕ → List (ℕ × ℕ) → PayloadTypes
types_in None ssrc repairs = no_types
types_in (Some row) ssrc repairs = types_of row ssrc repairs

abbrev pub red_in : Option Row → Option ℕ
red_in None = None
red_in (Some row) = row.red

abbrev pub sender_types : EndState → List ℕ → ℕ → ℕ → PayloadTypes
sender_types e mid ssrc pt =
    types_in (agreed_row_of e.exchange.agreed mid pt) ssrc (own_repairs_of e.exchange.agreed mid)

abbrev pub receiver_types : EndState → List ℕ → ℕ → ℕ → PayloadTypes
receiver_types e mid ssrc pt =
    types_in (agreed_row_of e.exchange.agreed mid pt) ssrc (remote_repairs_of e.exchange.agreed mid)

abbrev pub agreed_red : EndState → List ℕ → ℕ → Option ℕ
agreed_red e mid pt = red_in (agreed_row_of e.exchange.agreed mid pt)

-- The new stream; it adds redundancy with the RED type if distances are given.
abbrev pub with_distances : Sending → Option ℕ → Option (List ℕ) → Sending
with_distances s red None = s
with_distances s red (Some distances) = redundant_sender s (unwrap_or red 0) distances

-- A new stream that sends a row under these types and a map.
abbrev pub row_sender : ℕ → PayloadTypes → Row → Numbering → StreamParams → Sending
row_sender ssrc types row exts params =
    with_distances
    (opened_sender ssrc types exts (row_format_of row) params.picture_id params.for_browsers params.first
    params.mtu params.limit)
    row.red params.red

-- The stream an end opens to send: the agreed row and the agreed extension map.
abbrev pub new_sender : EndState → List ℕ → ℕ → ℕ → StreamParams → Sending
new_sender e mid ssrc pt params =
    with_distances
    (opened_sender ssrc (sender_types e mid ssrc pt) (stream_map e mid) (agreed_format e mid pt) params.picture_id
    params.for_browsers params.first params.mtu params.limit)
    (agreed_red e mid pt) params.red

-- The stream it opens to receive the same row and map.
abbrev pub new_receiver : EndState → List ℕ → ℕ → ℕ → Holding → Receiving
new_receiver e mid ssrc pt holding =
    opened_receiver ssrc (receiver_types e mid ssrc pt) (stream_map e mid) (agreed_format e mid pt) holding

-- The end with one more sending stream.
unfoldable pub after_open_sender : EndState → List ℕ → ℕ → ℕ → StreamParams → EndState
after_open_sender e mid ssrc pt params = with_new_sender e (new_sender e mid ssrc pt params)

-- The end with a receiving stream more.
unfoldable pub after_open_receiver : EndState → List ℕ → ℕ → ℕ → Holding → EndState
after_open_receiver e mid ssrc pt holding = with_new_receiver e (new_receiver e mid ssrc pt holding)

-- A fixed end without streams.
abbrev pub fixed_end : EndState
fixed_end = end_of fixed []

-- An end that has agreed on nothing.
abbrev pub new_end : Session → Numbering → Config → EndState
new_end session wanted config = end_of (fresh session wanted config) []

-- The refusals of openings, by what holds of the section.
use Rattle.std.proofs.Common.{◌≡◌, ℕ, Bool, List, refl, ◌∙◌, ap}
use Rattle.std.specs.Prelude.{Option, Some}
use Rattle.std.specs.List.{list_any}
use Rattle.sdp_formats_rows.specs.Rows.{Row}
use Rattle.rtp_media_sections.specs.Agreement.{Agreed, agreed_row_of, is_named, row_in, row_of_section}
use Rattle.rtp_media_sections.specs.Agreement.{section_of}
use Rattle.rtp_media_stream_table.specs.declared.open_stream.OpenStream.{OpenStream}
use Rattle.rtp_media_ends.specs.Ends.{agrees_in, carried_row, receiver_refusal_in, refusal_by}
use Rattle.rtp_media_stream_table.specs.Streams.{receives_as}
use Rattle.rtp_media_ends.specs.Ends.{sender_refusal_in}
use Rattle.rtp_media_stream_table.specs.Streams.{sends_as}
use Rattle.rtp_media_ends.specs.Ends.{may_be_sent, types_of, unsignalled_refusal_in}

pub row-agreed : (agreed : List Agreed) (mid : List ℕ) (pt : ℕ) (a : Agreed) (row : Row)
    → section_of agreed mid ≡ Some a → row_in a.rows pt ≡ Some row → agreed_row_of agreed mid pt ≡ Some row
row-agreed agreed mid pt a row s r = ap (λ (o : Option Agreed). row_of_section o pt) s ∙ r

pub sender-refusal : (own : List Row) (agreed : List Agreed) (streams : List OpenStream) (mid : List ℕ)
    (ssrc pt : ℕ) (a : Agreed) (row : Row) (agrees flows names is_open : Bool) →
    section_of agreed mid ≡ Some a → carried_row a pt ≡ Some row → agrees ≡ agrees_in own a row
    → flows ≡ a.sends → names ≡ is_named a.own_ssrcs ssrc → is_open
    ≡ list_any (sends_as ssrc (types_of row ssrc a.own_repairs)) streams →
    sender_refusal_in own (section_of agreed mid) streams ssrc pt ≡ refusal_by agrees flows names is_open
sender-refusal own agreed streams mid ssrc pt a row agrees flows names is_open s r g f n o =
    rw (s, r, g, f, n, o) refl

pub receiver-refusal : (own : List Row) (agreed : List Agreed) (streams : List OpenStream) (mid : List ℕ)
    (ssrc pt : ℕ) (a : Agreed) (row : Row) (agrees flows names is_open : Bool) →
    section_of agreed mid ≡ Some a → carried_row a pt ≡ Some row → agrees ≡ agrees_in own a row
    → flows ≡ a.receives → names ≡ is_named a.remote_ssrcs ssrc → is_open
    ≡ list_any (receives_as ssrc (types_of row ssrc a.remote_repairs)) streams →
    receiver_refusal_in own (section_of agreed mid) streams ssrc pt ≡ refusal_by agrees flows names is_open
receiver-refusal own agreed streams mid ssrc pt a row agrees flows names is_open s r g f n o =
    rw (s, r, g, f, n, o) refl

pub unsignalled-refusal : (own : List Row) (agreed : List Agreed) (streams : List OpenStream) (mid : List ℕ)
    (ssrc pt : ℕ) (a : Agreed) (row : Row) (agrees flows names is_open : Bool) →
    section_of agreed mid ≡ Some a → carried_row a pt ≡ Some row → agrees ≡ agrees_in own a row
    → flows ≡ a.receives → names ≡ may_be_sent a.remote_ssrcs ssrc → is_open
    ≡ list_any (receives_as ssrc (types_of row ssrc a.remote_repairs)) streams →
    unsignalled_refusal_in own (section_of agreed mid) streams ssrc pt ≡ refusal_by agrees flows names is_open
unsignalled-refusal own agreed streams mid ssrc pt a row agrees flows names is_open s r g f n o =
    rw (s, r, g, f, n, o) refl

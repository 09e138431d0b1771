-- An opening is refused nothing if and only if an end may open a stream.
use Rattle.std.proofs.Common.{◌≡◌, ℕ, refl, sym, ◌∙◌, ap, Bool, true, false, List}
use Rattle.std.specs.Prelude.{Option, Some, None, if◌then◌else◌}
use Rattle.std.specs.List.{list_any}
use Rattle.rtp_media_sections.specs.Agreement.{Agreed, is_named, row_in, section_of}
use Rattle.sdp_formats_rows.specs.Rows.{Row}
use Rattle.rtp_media_ends.specs.Ends.{EndState, agrees_in, carried, carried_row, is_carried, receiver_refusal_in}
use Rattle.rtp_media_ends.specs.Ends.{receiver_refusal_of, refusal_by, refusal_of_open_receiver}
use Rattle.rtp_media_stream_table.specs.Streams.{receives_as}
use Rattle.rtp_media_ends.specs.Ends.{refusal_of_open_sender, sender_refusal_in, sender_refusal_of}
use Rattle.rtp_media_stream_table.specs.Streams.{sends_as}
use Rattle.rtp_media_ends.specs.Ends.{types_of}
use Rattle.rtp_media_ends.specs.OpensAt.{ReceivesAt, SendsAt}

no-some : {A : Type 0} (x : A) → Some x ≡ None → ⊥
no-some x h = cc h

record AllHold (agrees flows names is_open : Bool) : Type 0 where
  agree : agrees ≡ true
  flow : flows ≡ true
  name : names ≡ true
  first : is_open ≡ false

all-hold : (b c d e : Bool) → refusal_by b c d e ≡ None → AllHold b c d e
all-hold false c d e h = absurd (no-some _ h)
all-hold true false d e h = absurd (no-some _ h)
all-hold true true false e h = absurd (no-some _ h)
all-hold true true true true h = absurd (no-some _ h)
all-hold true true true false h = record { agree = refl; flow = refl; name = refl; first = refl }

none-refuses : (b c d e : Bool) → AllHold b c d e → refusal_by b c d e ≡ None
none-refuses b c d e h = rw (h.agree, h.flow, h.name, h.first) refl

-- a carried row is the row, and one that a stream can carry
pub record IsCarried (o : Option Row) (row : Row) : Type 0 where
  pub is : o ≡ Some row
  pub can : is_carried row ≡ true

pub carried-is : (o : Option Row) (row : Row) → carried o ≡ Some row → IsCarried o row
carried-is None row h = absurd (no-some row (sym h))
carried-is (Some x) row h = go (is_carried x) refl h where
  same : Some x ≡ Some row → x ≡ row
  same h = cc h

  go : (b : Bool) → is_carried x ≡ b → (if b then Some x else None) ≡ Some row → IsCarried (Some x) row
  go true e h = record { is = h; can = ap is_carried (sym (same h)) ∙ e }
  go false e h = absurd (no-some row (sym h))

pub is-carried : (o : Option Row) (row : Row) → o ≡ Some row → is_carried row ≡ true → carried o ≡ Some row
is-carried o row e can = rw (e, can) refl

pub sends-at : (e : EndState) (mid : List ℕ) (ssrc pt : ℕ) → refusal_of_open_sender e mid ssrc pt ≡ None
    → SendsAt e mid ssrc pt
unfolding refusal_of_open_sender
sends-at e mid ssrc pt h = go (section_of e.exchange.agreed mid) refl h where
  with-row : (a : Agreed) → section_of e.exchange.agreed mid ≡ Some a → (o : Option Row) → carried_row a pt ≡ o
      → sender_refusal_of e.exchange.config.rows a e.streams ssrc pt o ≡ None → SendsAt e mid ssrc pt
  with-row a is None row h = absurd (no-some _ h)
  with-row a is (Some row) found h =
      let all : AllHold (agrees_in e.exchange.config.rows a row) a.sends (is_named a.own_ssrcs ssrc)
      (list_any (sends_as ssrc (types_of row ssrc a.own_repairs)) e.streams) = all-hold _ _ _ _ h in
      let there : IsCarried (row_in a.rows pt) row = carried-is (row_in a.rows pt) row found in
      record {
        section = a;
        agreed = is;
        row = row;
        row_is = there.is;
        carried = there.can;
        own_row = all.agree;
        flows = all.flow;
        named = all.name;
        not_open = all.first;
      }

  go : (o : Option Agreed) → section_of e.exchange.agreed mid ≡ o
      → sender_refusal_in e.exchange.config.rows o e.streams ssrc pt ≡ None → SendsAt e mid ssrc pt
  go None is h = absurd (no-some _ h)
  go (Some a) is h = with-row a is (carried_row a pt) refl h

pub may-send : (e : EndState) (mid : List ℕ) (ssrc pt : ℕ) → SendsAt e mid ssrc pt
    → refusal_of_open_sender e mid ssrc pt ≡ None
unfolding refusal_of_open_sender
may-send e mid ssrc pt at =
    let a : Agreed = at.section in
    ap (λ (o : Option Agreed). sender_refusal_in e.exchange.config.rows o e.streams ssrc pt) at.agreed
    ∙ ap (λ (o : Option Row). sender_refusal_of e.exchange.config.rows a e.streams ssrc pt o)
    (is-carried (row_in a.rows pt) at.row at.row_is at.carried)
    ∙ none-refuses (agrees_in e.exchange.config.rows a at.row) a.sends (is_named a.own_ssrcs ssrc)
    (list_any (sends_as ssrc (types_of at.row ssrc a.own_repairs)) e.streams)
    (record { agree = at.own_row; flow = at.flows; name = at.named; first = at.not_open })

pub receives-at : (e : EndState) (mid : List ℕ) (ssrc pt : ℕ) → refusal_of_open_receiver e mid ssrc pt ≡ None
    → ReceivesAt e mid ssrc pt
unfolding refusal_of_open_receiver
receives-at e mid ssrc pt h = go (section_of e.exchange.agreed mid) refl h where
  with-row : (a : Agreed) → section_of e.exchange.agreed mid ≡ Some a → (o : Option Row) → carried_row a pt ≡ o
      → receiver_refusal_of e.exchange.config.rows a e.streams ssrc pt o ≡ None → ReceivesAt e mid ssrc pt
  with-row a is None row h = absurd (no-some _ h)
  with-row a is (Some row) found h =
      let all : AllHold (agrees_in e.exchange.config.rows a row) a.receives (is_named a.remote_ssrcs ssrc)
      (list_any (receives_as ssrc (types_of row ssrc a.remote_repairs)) e.streams) = all-hold _ _ _ _ h in
      let there : IsCarried (row_in a.rows pt) row = carried-is (row_in a.rows pt) row found in
      record {
        section = a;
        agreed = is;
        row = row;
        row_is = there.is;
        carried = there.can;
        own_row = all.agree;
        flows = all.flow;
        named = all.name;
        not_open = all.first;
      }

  go : (o : Option Agreed) → section_of e.exchange.agreed mid ≡ o
      → receiver_refusal_in e.exchange.config.rows o e.streams ssrc pt ≡ None → ReceivesAt e mid ssrc pt
  go None is h = absurd (no-some _ h)
  go (Some a) is h = with-row a is (carried_row a pt) refl h

pub may-receive : (e : EndState) (mid : List ℕ) (ssrc pt : ℕ) → ReceivesAt e mid ssrc pt
    → refusal_of_open_receiver e mid ssrc pt ≡ None
unfolding refusal_of_open_receiver
may-receive e mid ssrc pt at =
    let a : Agreed = at.section in
    ap (λ (o : Option Agreed). receiver_refusal_in e.exchange.config.rows o e.streams ssrc pt) at.agreed
    ∙ ap (λ (o : Option Row). receiver_refusal_of e.exchange.config.rows a e.streams ssrc pt o)
    (is-carried (row_in a.rows pt) at.row at.row_is at.carried)
    ∙ none-refuses (agrees_in e.exchange.config.rows a at.row) a.receives (is_named a.remote_ssrcs ssrc)
    (list_any (receives_as ssrc (types_of at.row ssrc a.remote_repairs)) e.streams)
    (record { agree = at.own_row; flow = at.flows; name = at.named; first = at.not_open })

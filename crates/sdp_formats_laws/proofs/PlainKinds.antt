-- Each kind of line is read as it is printed.
use Rattle.std.proofs.Common.{◌≡◌, ◌<◌, ◌^◌, ℕ, List, ◌∷◌, ◌++◌, Option, Some, codes, decimal}
use Rattle.std.proofs.Common.{refl, ◌∙◌, ap, arith, lit<, lit≤}
use Rattle.std.specs.Option.{option_or, option_map}
use Rattle.rtp_wire.specs.Name.{name_of}
use Rattle.sdp_formats_grammar.specs.Split.{Lacks}
use Rattle.sdp_formats_reader.specs.AttributesChoice.{attribute_line}
use Rattle.sdp_formats_reader.specs.AttributesChoice.{media_attribute}
use Rattle.sdp_formats_reader.specs.Transport.{in_section}
use Rattle.sdp_formats_reader.specs.declared.transport.TransportAttribute.TheVariants as transport
use Rattle.sdp_formats_data.specs.PrintedMedia.{attribute_text}
use Rattle.sdp_formats_values.specs.Lists.{named}
use Rattle.sdp_formats_values.specs.declared.setup.Setup as setup
use Rattle.sdp_formats_values.specs.declared.setup.Setup.TheVariants as way
use Rattle.sdp_formats_data.specs.declared.media.MediaAttribute.TheVariants.{Rtcp, IceUfrag, IcePwd, IceOptions}
use Rattle.sdp_formats_data.specs.declared.media.MediaAttribute.TheVariants.{Setup, Mid, SctpPort}
use Rattle.sdp_formats_data.specs.declared.media.MediaAttribute.TheVariants.{MaxMessageSize, SctpInit}
use Rattle.sdp_formats_data.specs.declared.media.MediaAttribute.TheVariants.{RecvOnly, SendRecv, SendOnly, Inactive}
use Rattle.sdp_formats_data.specs.declared.media.MediaAttribute.TheVariants.{RtcpMux, RtcpMuxOnly, RtcpRsize}
use Rattle.sdp_formats_data.specs.declared.media.MediaAttribute.TheVariants.{EndOfCandidates}
use Rattle.sdp_formats_laws.proofs.Decimals.{number_below-decimal, Lacks-decimal}
use Rattle.sdp_formats_laws.proofs.Printed.{IsPrintedAs, named_line, named_by, fixed_line, text_some}
use Rattle.sdp_formats_laws.proofs.Printed.{lacks_both}
use Rattle.sdp_formats_laws.specs.Printable.{IsText}

pub first_fits : {A : Type 0} (o other : Option A) (x : A) → o ≡ Some x → option_or o other ≡ Some x
first_fits o other x h = ap (λ p. option_or p other) h

-- no sign between two parts ends a line
pub lacks_two : (b c : ℕ) (front back : List ℕ) → Lacks b front → (c ≡ b → ⊥) → Lacks b back
    → Lacks b (front ++ c ∷ back)
lacks_two b c front back h other k = lacks_both b front (c ∷ back) h (other, k)

pub no_feed : (n : ℕ) → n < 2 ^ 64 → Lacks 10 (decimal n)
no_feed n small = Lacks-decimal 10 n (lit< tt) small

pub no_return : (n : ℕ) → n < 2 ^ 64 → Lacks 13 (decimal n)
no_return n small = Lacks-decimal 13 n (lit< tt) small

pub rtcp : (v : List ℕ) → IsText v → IsPrintedAs attribute_line (named (codes "a=rtcp:") v) (Rtcp v)
unfolding media_attribute
rtcp v h = named_line attribute_line (codes "a=rtcp:") v (Rtcp v) (named_by (codes "a=rtcp:") refl) h.1 h.2
    (first_fits _ _ _ (ap (option_map Rtcp) (text_some v h.0)))

pub ice_ufrag : (v : List ℕ) → IsText v → IsPrintedAs attribute_line (named (codes "a=ice-ufrag:") v) (IceUfrag v)
unfolding media_attribute
ice_ufrag v h = named_line attribute_line (codes "a=ice-ufrag:") v (IceUfrag v)
    (named_by (codes "a=ice-ufrag:") refl) h.1 h.2
    (first_fits _ _ _ (ap (λ o. option_map in_section (option_map transport.IceUfrag o)) (text_some v h.0)))

pub ice_pwd : (v : List ℕ) → IsText v → IsPrintedAs attribute_line (named (codes "a=ice-pwd:") v) (IcePwd v)
unfolding media_attribute
ice_pwd v h = named_line attribute_line (codes "a=ice-pwd:") v (IcePwd v) (named_by (codes "a=ice-pwd:") refl) h.1 h.2
    (first_fits _ _ _ (ap (λ o. option_map in_section (option_map transport.IcePwd o)) (text_some v h.0)))

pub ice_options : (v : List ℕ) → IsText v → IsPrintedAs attribute_line (named (codes "a=ice-options:") v) (IceOptions v)
unfolding media_attribute
ice_options v h = named_line attribute_line (codes "a=ice-options:") v (IceOptions v)
    (named_by (codes "a=ice-options:") refl) h.1 h.2
    (first_fits _ _ _ (ap (λ o. option_map in_section (option_map transport.IceOptions o)) (text_some v h.0)))

pub sctp_init : (v : List ℕ) → IsText v → IsPrintedAs attribute_line (named (codes "a=sctp-init:") v) (SctpInit v)
unfolding media_attribute
sctp_init v h = named_line attribute_line (codes "a=sctp-init:") v (SctpInit v)
    (named_by (codes "a=sctp-init:") refl) h.1 h.2
    (first_fits _ _ _ (ap (option_map SctpInit) (text_some v h.0)))

pub mid : (m : List ℕ) → IsText m → name_of 16 m ≡ m → IsPrintedAs attribute_line (named (codes "a=mid:") m) (Mid m)
unfolding media_attribute
mid m h same = named_line attribute_line (codes "a=mid:") m (Mid m) (named_by (codes "a=mid:") refl) h.1 h.2
    (first_fits _ _ _ (ap (option_map (λ t. Mid (name_of 16 t))) (text_some m h.0) ∙ ap (λ t. Some (Mid t)) same))

pub sctp_port : (p : ℕ) → p < 2 ^ 16
    → IsPrintedAs attribute_line (named (codes "a=sctp-port:") (decimal p)) (SctpPort p)
unfolding media_attribute
sctp_port p small = named_line attribute_line (codes "a=sctp-port:") (decimal p) (SctpPort p)
    (named_by (codes "a=sctp-port:") refl)
    (no_feed p (omega arith)) (no_return p (omega arith))
    (first_fits _ _ _ (ap (option_map SctpPort) (number_below-decimal (2 ^ 16) p small (lit≤ tt))))

pub max_message_size : (n : ℕ) → n < 2 ^ 64
    → IsPrintedAs attribute_line (named (codes "a=max-message-size:") (decimal n)) (MaxMessageSize n)
unfolding media_attribute
max_message_size n small = named_line attribute_line (codes "a=max-message-size:") (decimal n) (MaxMessageSize n)
    (named_by (codes "a=max-message-size:") refl) (no_feed n small) (no_return n small)
    (first_fits _ _ _ (ap (option_map MaxMessageSize) (number_below-decimal (2 ^ 64) n small (lit≤ tt))))

pub setup_line : (s : setup.Setup) → IsPrintedAs attribute_line (attribute_text (Setup s)) (Setup s)
unfolding media_attribute attribute_text
setup_line way.ActPass = fixed_line attribute_line (codes "a=setup:actpass") (Setup way.ActPass) refl refl
setup_line way.Active = fixed_line attribute_line (codes "a=setup:active") (Setup way.Active) refl refl
setup_line way.Passive = fixed_line attribute_line (codes "a=setup:passive") (Setup way.Passive) refl refl

pub recvonly : IsPrintedAs attribute_line (attribute_text RecvOnly) RecvOnly
unfolding media_attribute attribute_text
recvonly = fixed_line attribute_line (codes "a=recvonly") RecvOnly refl refl

pub sendrecv : IsPrintedAs attribute_line (attribute_text SendRecv) SendRecv
unfolding media_attribute attribute_text
sendrecv = fixed_line attribute_line (codes "a=sendrecv") SendRecv refl refl

pub sendonly : IsPrintedAs attribute_line (attribute_text SendOnly) SendOnly
unfolding media_attribute attribute_text
sendonly = fixed_line attribute_line (codes "a=sendonly") SendOnly refl refl

pub inactive : IsPrintedAs attribute_line (attribute_text Inactive) Inactive
unfolding media_attribute attribute_text
inactive = fixed_line attribute_line (codes "a=inactive") Inactive refl refl

pub rtcp_mux : IsPrintedAs attribute_line (attribute_text RtcpMux) RtcpMux
unfolding media_attribute attribute_text
rtcp_mux = fixed_line attribute_line (codes "a=rtcp-mux") RtcpMux refl refl

pub rtcp_mux_only : IsPrintedAs attribute_line (attribute_text RtcpMuxOnly) RtcpMuxOnly
unfolding media_attribute attribute_text
rtcp_mux_only = fixed_line attribute_line (codes "a=rtcp-mux-only") RtcpMuxOnly refl refl

pub rtcp_rsize : IsPrintedAs attribute_line (attribute_text RtcpRsize) RtcpRsize
unfolding media_attribute attribute_text
rtcp_rsize = fixed_line attribute_line (codes "a=rtcp-rsize") RtcpRsize refl refl

pub end_of_candidates : IsPrintedAs attribute_line (attribute_text EndOfCandidates) EndOfCandidates
unfolding media_attribute attribute_text
end_of_candidates = fixed_line attribute_line (codes "a=end-of-candidates") EndOfCandidates refl refl

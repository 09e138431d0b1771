-- The kinds are read if and only if they say a value.
use Rattle.std.proofs.Common.{ℕ, ◌^◌, List, [], ◌∷◌, ◌++◌, codes, map}
use Rattle.sdp_formats_grammar.specs.Form.{Form, IsExact, some_text, any_text, number}
use Rattle.sdp_formats_grammar.specs.Kinds.{Kind, Named, OneOf, kind_form, made_kind, first_of}
use Rattle.sdp_formats_grammar.specs.Tables.{word_of}
use Rattle.sdp_formats_reader.specs.Digest.{fingerprint}
use Rattle.sdp_formats_reader.specs.Kinds.{media_kinds}
use Rattle.sdp_formats_grammar.specs.Numbers.{number_below}
use Rattle.sdp_formats_grammar.specs.Exact.{told-exact, made-exact, after-exact, cut-exact, cut_maybe-exact}
use Rattle.sdp_formats_grammar.specs.Exact.{separated-exact, either-exact, only-exact}
use Rattle.sdp_formats_reader.specs.PairsSay.{pair_list}
use Rattle.sdp_formats_reader.specs.Maps.{payload_type, clock_rate, rtpmap, rtcp_fb}
use Rattle.sdp_formats_reader.specs.Parameters.{fmtp}
use Rattle.sdp_formats_reader.specs.Rids.{rid}
use Rattle.sdp_formats_reader.specs.Simulcasts.{simulcast}
use Rattle.sdp_formats_reader.specs.Sources.{extmap, msid, ssrc, ssrc_group}
use Rattle.sdp_formats_reader.specs.AttributesChoice.{media_attribute}
use Rattle.sdp_formats_reader.specs.Transport.{in_section, transport_kinds}
use Rattle.sdp_formats_reader.specs.declared.transport.TransportAttribute.{TransportAttribute}

-- the forms of all kinds
abbrev IsExactKind : {A : Type 0} → Kind A → Type 0
IsExactKind (Named name form) = IsExact form
IsExactKind (OneOf table) = Unit {0}

abbrev pub AreExact : {A : Type 0} → List (Kind A) → Type 0
AreExact [] = Unit {0}
AreExact (kind ∷ kinds) = IsExactKind kind × AreExact kinds

kind-exact : {A : Type 0} (kind : Kind A) → IsExactKind kind → IsExact (kind_form kind)
kind-exact (Named name form) h = after-exact (name ++ 58 ∷ []) form h
kind-exact (OneOf table) h = told-exact (word_of table)

pub first_of-exact : {A : Type 0} (kinds : List (Kind A)) (otherwise : Form A) → AreExact kinds → IsExact otherwise
    → IsExact (first_of kinds otherwise)
first_of-exact [] otherwise h k = k
first_of-exact (kind ∷ kinds) otherwise h k =
    either-exact (kind_form kind) (first_of kinds otherwise) (kind-exact kind h.0)
    (first_of-exact kinds otherwise h.1 k)

-- the forms of values made of others
made-kinds : {A B : Type 0} (make : A → B) (kinds : List (Kind A)) → AreExact kinds
    → AreExact (map (made_kind make) kinds)
made-kinds make [] h = tt
made-kinds make (Named name form ∷ kinds) h = (made-exact make form h.0, made-kinds make kinds h.1)
made-kinds make (OneOf table ∷ kinds) h = (tt, made-kinds make kinds h.1)

pub text-exact : IsExact any_text
text-exact = told-exact some_text

number-exact : (limit : ℕ) → IsExact (number limit)
number-exact limit = told-exact (number_below limit)

type-exact : IsExact payload_type
type-exact = only-exact _ (number (2 ^ 8)) (number-exact (2 ^ 8))

rate-exact : IsExact clock_rate
rate-exact = only-exact _ (number (2 ^ 32)) (number-exact (2 ^ 32))

fingerprint-exact : IsExact fingerprint
fingerprint-exact = made-exact _ _ (cut-exact 32 _ _ text-exact (separated-exact 58 _ (told-exact _)))

-- Attributes of transport, of a session and of a section alike.
transport-exact : AreExact transport_kinds
transport-exact = (
  made-exact _ _ text-exact,
  (
    made-exact _ _ text-exact,
    (
      made-exact _ _ text-exact,
      (
        made-exact _ _ fingerprint-exact,
        (
          made-exact _ _ (told-exact _),
          (
            made-exact _ _ (told-exact _),
            (tt, tt),
          ),
        ),
      ),
    ),
  ),
)

pub made-transport : {A : Type 0} (make : TransportAttribute → A) → AreExact (map (made_kind make) transport_kinds)
made-transport make = made-kinds make transport_kinds transport-exact

extmap-exact : IsExact extmap
extmap-exact = made-exact _ _ (cut-exact 32 _ _ (cut_maybe-exact 47 _ _ (number-exact (2 ^ 8)) text-exact)
    (cut_maybe-exact 32 _ _ text-exact text-exact))

msid-exact : IsExact msid
msid-exact = made-exact _ _ (cut-exact 32 _ _ text-exact text-exact)

rtpmap-exact : IsExact rtpmap
rtpmap-exact = made-exact _ _ (cut-exact 32 _ _ type-exact
    (cut-exact 47 _ _ text-exact (cut_maybe-exact 47 _ _ rate-exact (number-exact (2 ^ 8)))))

rtcp_fb-exact : IsExact rtcp_fb
rtcp_fb-exact = made-exact _ _ (cut-exact 32 _ _ type-exact text-exact)

fmtp-exact : IsExact pair_list → IsExact fmtp
fmtp-exact pairs = either-exact _ _
    (made-exact _ _ (cut-exact 32 _ _ type-exact (either-exact _ _ (made-exact _ _ pairs)
    (either-exact _ _ (made-exact _ _ (cut-exact 47 _ _ (number-exact (2 ^ 8)) (separated-exact 47 _ (told-exact _))))
    (either-exact _ _ (made-exact _ _ (after-exact (codes "0-") _ (told-exact _))) (told-exact _))))))
    (made-exact _ _ type-exact)

rid-exact : IsExact rid
rid-exact = made-exact _ _ (cut-exact 32 _ _ (only-exact _ _ text-exact)
    (cut_maybe-exact 32 _ _ (told-exact _) (told-exact _)))

simulcast-exact : IsExact simulcast
simulcast-exact = made-exact _ _ (only-exact _ _
    (cut-exact 32 _ _ (told-exact _) (cut_maybe-exact 32 _ _ (separated-exact 59 _ (told-exact _))
    (made-exact _ _ (cut-exact 32 _ _ (told-exact _) (separated-exact 59 _ (told-exact _)))))))

ssrc_group-exact : IsExact ssrc_group
ssrc_group-exact = made-exact _ _ (cut-exact 32 _ _ text-exact (separated-exact 32 _ (told-exact _)))

ssrc-exact : IsExact ssrc
ssrc-exact = made-exact _ _ (cut-exact 32 _ _ (number-exact (2 ^ 32)) (cut-exact 58 _ _ text-exact text-exact))

media_kinds-exact : IsExact pair_list → AreExact media_kinds
media_kinds-exact pairs =
    let transport = made-transport in_section in (
      transport.0,
      (
        transport.1.0,
        (
          transport.1.1.0,
          (
            transport.1.1.1.0,
            (
              transport.1.1.1.1.0,
              (
                made-exact _ _ text-exact,
                (
                  made-exact _ _ (number-exact (2 ^ 16)),
                  (
                    made-exact _ _ (number-exact (2 ^ 64)),
                    (
                      made-exact _ _ text-exact,
                      (
                        extmap-exact,
                        (
                          tt,
                          (
                            made-exact _ _ msid-exact,
                            (
                              made-exact _ _ text-exact,
                              (
                                tt,
                                (
                                  transport.1.1.1.1.1.0,
                                  (
                                    tt,
                                    (
                                      rtpmap-exact,
                                      (
                                        rtcp_fb-exact,
                                        (
                                          fmtp-exact pairs,
                                          (
                                            rid-exact,
                                            (
                                              made-exact _ _ simulcast-exact,
                                              (
                                                ssrc_group-exact,
                                                (ssrc-exact, tt),
                                              ),
                                            ),
                                          ),
                                        ),
                                      ),
                                    ),
                                  ),
                                ),
                              ),
                            ),
                          ),
                        ),
                      ),
                    ),
                  ),
                ),
              ),
            ),
          ),
        ),
      ),
    )

pub media_attribute-exact : IsExact pair_list → IsExact media_attribute
unfolding media_attribute
media_attribute-exact pairs = first_of-exact media_kinds _ (media_kinds-exact pairs) (made-exact _ _ text-exact)

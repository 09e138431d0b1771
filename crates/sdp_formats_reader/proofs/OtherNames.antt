-- Names that are none of a section's own are those of transport.
use Rattle.std.proofs.Common.{◌≡◌, ◌≢◌, ℕ, Bool, true, false, cond, List, [], ◌∷◌, Option, codes, refl, ◌∙◌, ap, map}
use Rattle.std.specs.Option.{option_map}
use Rattle.std.specs.Str.{bytes_eq}
use Rattle.sdp_formats_grammar.specs.KindLemmas.{other-word}
use Rattle.sdp_formats_grammar.specs.Kinds.{Kind, Named, OneOf, made_kind, value_of}
use Rattle.sdp_formats_reader.specs.Kinds.{media_kinds}
use Rattle.sdp_formats_reader.specs.Transport.{in_section, transport_kinds}

keep : {A B : Type 0} (h : A → B) (b : Bool) (x : Option A) (y : Option B) (z : Option A) → y ≡ option_map h z
    → cond b (option_map h x) y ≡ option_map h (cond b x z)
keep h true x y z e = refl
keep h false x y z e = e

pub past : {A : Type 0} (t w : List ℕ) (x y z : Option A) → t ≢ w → y ≡ z → cond (bytes_eq t w) x y ≡ z
past t w x y z h e = ap (λ b. cond b x y) (other-word t w h) ∙ e

-- Values made of the values of some kinds.
pub made-value : {A B : Type 0} (h : A → B) (kinds : List (Kind A)) (name value : List ℕ)
    → value_of (map (made_kind h) kinds) name value ≡ option_map h (value_of kinds name value)
made-value h [] name value = refl
made-value h (Named other form ∷ kinds) name value =
    keep h (bytes_eq name other) (form.reads value) _ (value_of kinds name value) (made-value h kinds name value)
made-value h (OneOf table ∷ kinds) name value = made-value h kinds name value

-- It is none of these.
abbrev pub IsNone : List (List ℕ) → List ℕ → Type 0
IsNone [] name = Unit {0}
IsNone (other ∷ others) name = (name ≢ other) × IsNone others name

abbrev pub own_names : List (List ℕ)
own_names =
    codes "mid" ∷ codes "sctp-port" ∷ codes "max-message-size" ∷ codes "sctp-init" ∷ codes "extmap" ∷ codes "msid"
    ∷ codes "rtcp" ∷ codes "rtpmap" ∷ codes "rtcp-fb" ∷ codes "fmtp" ∷ codes "rid" ∷ codes "simulcast"
    ∷ codes "ssrc-group" ∷ codes "ssrc" ∷ []

pub other-names : (name value : List ℕ) → IsNone own_names name
    → value_of media_kinds name value ≡ option_map in_section (value_of transport_kinds name value)
other-names n v
    (mid, (port, (size, (init, (ext, (msid, (rtcp, (map_of, (fb, (fmtp, (rid, (sim, (group, (ssrc, all)))))))))))))) =
    keep in_section (bytes_eq n (codes "ice-ufrag")) _ _ _
    (keep in_section (bytes_eq n (codes "ice-pwd")) _ _ _
    (keep in_section (bytes_eq n (codes "ice-options")) _ _ _
    (keep in_section (bytes_eq n (codes "fingerprint")) _ _ _
    (keep in_section (bytes_eq n (codes "setup")) _ _ _
    (past n (codes "mid") _ _ _ mid
    (past n (codes "sctp-port") _ _ _ port
    (past n (codes "max-message-size") _ _ _ size
    (past n (codes "sctp-init") _ _ _ init
    (past n (codes "extmap") _ _ _ ext
    (past n (codes "msid") _ _ _ msid
    (past n (codes "rtcp") _ _ _ rtcp
    (keep in_section (bytes_eq n (codes "candidate")) _ _ _
    (past n (codes "rtpmap") _ _ _ map_of
    (past n (codes "rtcp-fb") _ _ _ fb
    (past n (codes "fmtp") _ _ _ fmtp
    (past n (codes "rid") _ _ _ rid
    (past n (codes "simulcast") _ _ _ sim
    (past n (codes "ssrc-group") _ _ _ group
    (past n (codes "ssrc") _ _ _ ssrc refl)))))))))))))))))))

-- The extension that a URI names is the one of its own URI.
use Rattle.std.proofs.Common.{◌≡◌, ◌⊎◌, ℕ, Bool, true, false, List, [], ◌∷◌, refl, sym, ap, inl, inr}
use Rattle.std.proofs.Common.{if◌then◌else◌}
use Rattle.std.specs.Str.{bytes_eq}
use Rattle.std.proofs.lemmas.Slice.Eq.{bytes_eq-Decides}
use Rattle.rtp_wire.specs.Kinds.{extension_of, uri_of}
use Rattle.rtp_wire.specs.declared.extension.Extension.{Extension}
use Rattle.rtp_wire.specs.declared.extension.Extension.TheVariants.{AbsoluteSendTime, AbsoluteCaptureTime}
use Rattle.rtp_wire.specs.declared.extension.Extension.TheVariants.{AudioLevel}
use Rattle.rtp_wire.specs.declared.extension.Extension.TheVariants.{VideoOrientation}
use Rattle.rtp_wire.specs.declared.extension.Extension.TheVariants.{TransportSequenceNumber, PlayoutDelay}
use Rattle.rtp_wire.specs.declared.extension.Extension.TheVariants.{VideoContentType, RtpStreamId}
use Rattle.rtp_wire.specs.declared.extension.Extension.TheVariants.{RepairedRtpStreamId, RtpMid}
use Rattle.rtp_wire.specs.declared.extension.Extension.TheVariants.{UnknownUri}
use Rattle.sdp_formats_rounds.specs.Members.{IsEach}

abbrev IsOwn : Extension → Type 0
IsOwn x = extension_of (uri_of x) ≡ x

-- The first of these whose URI it is, else an unknown one.
abbrev first_named : List Extension → List ℕ → Extension
first_named [] t = UnknownUri t
first_named (x ∷ xs) t = if bytes_eq t (uri_of x) then x else first_named xs t

abbrev known : List Extension
known = AbsoluteSendTime ∷ AbsoluteCaptureTime ∷ AudioLevel ∷ VideoOrientation ∷ TransportSequenceNumber
    ∷ PlayoutDelay ∷ VideoContentType ∷ RtpStreamId ∷ RepairedRtpStreamId ∷ RtpMid ∷ []

known_own : IsEach IsOwn known
known_own = (refl, (refl, (refl, (refl, (refl, (refl, (refl, (refl, (refl, (refl, tt))))))))))

unknown_or_own : (xs : List Extension) (t : List ℕ) → IsEach IsOwn xs
    → (first_named xs t ≡ UnknownUri t) ⊎ IsOwn (first_named xs t)
unknown_or_own [] t h = inl refl
unknown_or_own (x ∷ xs) t h = at (bytes_eq t (uri_of x)) (unknown_or_own xs t h.1)
  where
    at : (b : Bool) → (first_named xs t ≡ UnknownUri t) ⊎ IsOwn (first_named xs t)
        → ((if b then x else first_named xs t) ≡ UnknownUri t) ⊎ IsOwn (if b then x else first_named xs t)
    at true later = inr h.0
    at false later = later

pub extension_own : (t : List ℕ) → extension_of (uri_of (extension_of t)) ≡ extension_of t
extension_own t = at (unknown_or_own known t known_own)
  where
    at : (extension_of t ≡ UnknownUri t) ⊎ IsOwn (extension_of t) → IsOwn (extension_of t)
    at (inl e) = ap (λ (x : Extension). extension_of (uri_of x)) e
    at (inr own) = own

-- and its URI is that URI
named_back : (xs : List Extension) (t : List ℕ) → uri_of (first_named xs t) ≡ t
named_back [] t = refl
named_back (x ∷ xs) t = at (bytes_eq t (uri_of x)) refl (named_back xs t)
  where
    at : (b : Bool) → bytes_eq t (uri_of x) ≡ b → uri_of (first_named xs t) ≡ t
        → uri_of (if b then x else first_named xs t) ≡ t
    at true e later = sym ((bytes_eq-Decides t (uri_of x)).0 e)
    at false e later = later

pub uri_own : (t : List ℕ) → uri_of (extension_of t) ≡ t
uri_own t = named_back known t

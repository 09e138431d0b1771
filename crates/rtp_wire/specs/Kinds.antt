use Rattle.std.specs.Prelude.{ℕ, Bool, ◌&&◌, ◌==◌, List, [], codes, if◌then◌else◌}
use Rattle.std.specs.Str.{bytes_eq}
use Rattle.rtp_wire.specs.declared.extension.Extension.{Extension}
use Rattle.rtp_wire.specs.declared.extension.Extension.TheVariants.{AbsoluteSendTime, AbsoluteCaptureTime}
use Rattle.rtp_wire.specs.declared.extension.Extension.TheVariants.{AudioLevel, VideoOrientation}
use Rattle.rtp_wire.specs.declared.extension.Extension.TheVariants.{TransportSequenceNumber, PlayoutDelay}
use Rattle.rtp_wire.specs.declared.extension.Extension.TheVariants.{VideoContentType, RtpStreamId}
use Rattle.rtp_wire.specs.declared.extension.Extension.TheVariants.{RepairedRtpStreamId, RtpMid}
use Rattle.rtp_wire.specs.declared.extension.Extension.TheVariants.{UnknownUri}

-- Known extensions have a number; unknown ones are told apart by their URIs.
abbrev pub kind_of : Extension → ℕ
kind_of AbsoluteSendTime = 1
kind_of AbsoluteCaptureTime = 2
kind_of AudioLevel = 3
kind_of VideoOrientation = 4
kind_of TransportSequenceNumber = 5
kind_of PlayoutDelay = 6
kind_of VideoContentType = 7
kind_of RtpStreamId = 8
kind_of RepairedRtpStreamId = 9
kind_of RtpMid = 10
kind_of (UnknownUri uri) = 0

abbrev pub unknown_uri_of : Extension → List ℕ
unknown_uri_of AbsoluteSendTime = []
unknown_uri_of AbsoluteCaptureTime = []
unknown_uri_of AudioLevel = []
unknown_uri_of VideoOrientation = []
unknown_uri_of TransportSequenceNumber = []
unknown_uri_of PlayoutDelay = []
unknown_uri_of VideoContentType = []
unknown_uri_of RtpStreamId = []
unknown_uri_of RepairedRtpStreamId = []
unknown_uri_of RtpMid = []
unknown_uri_of (UnknownUri uri) = uri

-- Two extensions are equal: the same known one, or the same unknown URI.
abbrev pub same : Extension → Extension → Bool
same a b = (kind_of a == kind_of b) && bytes_eq (unknown_uri_of a) (unknown_uri_of b)

-- The URI of an extension.
abbrev pub uri_of : Extension → List ℕ
uri_of AbsoluteSendTime = codes "http://www.webrtc.org/experiments/rtp-hdrext/abs-send-time"
uri_of AbsoluteCaptureTime = codes "http://www.webrtc.org/experiments/rtp-hdrext/abs-capture-time"
uri_of AudioLevel = codes "urn:ietf:params:rtp-hdrext:ssrc-audio-level"
uri_of VideoOrientation = codes "urn:3gpp:video-orientation"
uri_of TransportSequenceNumber = codes "http://www.ietf.org/id/draft-holmer-rmcat-transport-wide-cc-extensions-01"
uri_of PlayoutDelay = codes "http://www.webrtc.org/experiments/rtp-hdrext/playout-delay"
uri_of VideoContentType = codes "http://www.webrtc.org/experiments/rtp-hdrext/video-content-type"
uri_of RtpStreamId = codes "urn:ietf:params:rtp-hdrext:sdes:rtp-stream-id"
uri_of RepairedRtpStreamId = codes "urn:ietf:params:rtp-hdrext:sdes:repaired-rtp-stream-id"
uri_of RtpMid = codes "urn:ietf:params:rtp-hdrext:sdes:mid"
uri_of (UnknownUri uri) = uri

-- The extension that a URI names (RFC 8285 5).
abbrev pub extension_of : List ℕ → Extension
extension_of uri =
    if bytes_eq uri (uri_of AbsoluteSendTime) then AbsoluteSendTime
    else if bytes_eq uri (uri_of AbsoluteCaptureTime) then AbsoluteCaptureTime
    else if bytes_eq uri (uri_of AudioLevel) then AudioLevel
    else if bytes_eq uri (uri_of VideoOrientation) then VideoOrientation
    else if bytes_eq uri (uri_of TransportSequenceNumber) then TransportSequenceNumber
    else if bytes_eq uri (uri_of PlayoutDelay) then PlayoutDelay
    else if bytes_eq uri (uri_of VideoContentType) then VideoContentType
    else if bytes_eq uri (uri_of RtpStreamId) then RtpStreamId
    else if bytes_eq uri (uri_of RepairedRtpStreamId) then RepairedRtpStreamId
    else if bytes_eq uri (uri_of RtpMid) then RtpMid
    else UnknownUri uri

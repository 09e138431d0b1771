-- A packet shows a key frame exactly if the unit that begins with it is one.
use Rattle.std.proofs.Common.{◌≡◌, ℕ, Bool, true, false, List, [], ◌∷◌, refl}
use Rattle.std.specs.Prelude.{Option, None, Some, Result, Ok, Err, IfOk, if◌then◌else◌}
use Rattle.h26x_payload_formats.specs.H264Reading as h264
use Rattle.h26x_payload_formats.specs.Reading as h26x
use Rattle.h26x_payload_units.specs.Reading.{Given}
use Rattle.h26x_payload_units.specs.declared.layout.Layout.TheVariants as layouts
use Rattle.media_types.specs.declared.codec.Codec.TheVariants.{Opus, PCMU, PCMA, G722, CN, AmrWb, H264, H265}
use Rattle.media_types.specs.declared.codec.Codec.TheVariants.{H266, Vp8, Vp9, Av1, Tele, Rtx, Red, Null}
use Rattle.media_types.specs.declared.codec.Codec.TheVariants.{Unknown}
use Rattle.payload_core_audio.specs.AmrWb.{frames_of, reading_of_frames}
use Rattle.payload_core_audio.specs.Plain.{read_plain}
use Rattle.payload_core_audio.specs.Telephone.{read_reports, reading_of_reports}
use Rattle.payload_core_base.specs.Telephone.{is_reports}
use Rattle.payload_core_base.specs.declared.error.PacketError.TheVariants.{InvalidTelephoneEvent}
use Rattle.payload_core_av1.specs.Av1Reading as av1
use Rattle.payload_core_base.specs.Format.{Fragment, Reading}
use Rattle.payload_core_base.specs.declared.error.PacketError.{PacketError}
use Rattle.payload_core_base.specs.declared.extra.CodecExtra.TheVariants as extras
use Rattle.payload_core_vpx.specs.Vp8 as vp8
use Rattle.payload_core_vpx.specs.Vp8Descriptor.{keyframe_in, parsed}
use Rattle.payload_core_vpx.specs.declared.vp8_descriptor.Vp8Descriptor.{Vp8Descriptor}
use Rattle.payload_core_vpx.specs.declared.vp8_descriptor.Vp8DescriptorError.{Vp8DescriptorError}
use Rattle.payload_core_vpx.specs.declared.vp8_descriptor.Vp8DescriptorError.TheVariants.{MalformedDescriptor}
use Rattle.payload_core_vpx.specs.declared.vp8_descriptor.Vp8DescriptorError.TheVariants.{ShortPayload}
use Rattle.packet_info.specs.Laws.{FollowsUnits, is_keyframe}

-- what is read says this
abbrev Says : Result Reading PacketError → Bool → Type 0
Says read shown = IfOk read (λ r. is_keyframe r.extra ≡ shown)

of_vp8 : (fragment : Fragment) (p : List ℕ) (d : Result Vp8Descriptor Vp8DescriptorError)
    → Says (vp8.reading_of fragment extras.None p d) (keyframe_in d p)
of_vp8 fragment p (Err ShortPayload) = tt
of_vp8 fragment p (Err MalformedDescriptor) = tt
of_vp8 fragment p (Ok d) = refl

of_h264 : (shown : Bool) (given : Result Given PacketError) → Says (h264.extra_after shown given) shown
of_h264 shown (Err e) = tt
of_h264 shown (Ok g) = refl

of_h265 : (shown : Bool) (given : Result Given PacketError) → Says (h26x.extra_after layouts.H265 shown given) shown
of_h265 shown (Err e) = tt
of_h265 shown (Ok g) = refl

of_h266 : (shown : Bool) (given : Result Given PacketError) → Says (h26x.extra_after layouts.H266 shown given) shown
of_h266 shown (Err e) = tt
of_h266 shown (Ok g) = refl

of_av1_reading : (shown : Bool) (fragment : Fragment) (written : Option (List ℕ))
    → Says (av1.reading_of written shown fragment) shown
of_av1_reading shown fragment None = tt
of_av1_reading shown fragment (Some written) = refl

of_av1_elements : (first : ℕ) (fragment : Fragment) (es : Option (List (List ℕ)))
    → Says (av1.read_elements first fragment extras.None es) (av1.has_n first)
of_av1_elements first fragment None = tt
of_av1_elements first fragment (Some es) =
    of_av1_reading (av1.has_n first)
    (av1.opened (av1.has_y first) (av1.begun (av1.has_z first) fragment es).open_still
    (av1.begun (av1.has_z first) fragment es).elements)
    (av1.all_given (av1.complete (av1.has_y first) (av1.begun (av1.has_z first) fragment es).elements))

of_av1 : (fragment : Fragment) (p : List ℕ) → Says (av1.read_av1 fragment extras.None p) (av1.is_av1_keyframe p)
of_av1 fragment [] = tt
of_av1 fragment (first ∷ []) = tt
of_av1 fragment (first ∷ b ∷ bs) = of_av1_elements first fragment (av1.elements_of (av1.count_w first) (b ∷ bs))

of_plain : (fragment : Fragment) (p : List ℕ) → Says (read_plain fragment extras.None p) false
of_plain fragment [] = tt
of_plain fragment (b ∷ bs) = refl

of_frames : (fragment : Fragment) (bytes : Option (List ℕ)) → Says (reading_of_frames bytes fragment extras.None) false
of_frames fragment None = tt
of_frames fragment (Some bytes) = refl

of_reports_read : (rate : ℕ) (fragment : Fragment) (p : List ℕ) → Says (reading_of_reports rate fragment p) false
of_reports_read rate fragment [] = tt
of_reports_read rate fragment (a ∷ []) = tt
of_reports_read rate fragment (a ∷ b ∷ []) = tt
of_reports_read rate fragment (a ∷ b ∷ c ∷ []) = tt
of_reports_read rate fragment (a ∷ b ∷ c ∷ d ∷ rest) = refl

of_reports_if : (are : Bool) (rate : ℕ) (fragment : Fragment) (p : List ℕ)
    → Says (if are then reading_of_reports rate fragment p else Err InvalidTelephoneEvent) false
of_reports_if true rate fragment p = of_reports_read rate fragment p
of_reports_if false rate fragment p = tt

of_reports : (rate : ℕ) (fragment : Fragment) (p : List ℕ) → Says (read_reports rate fragment extras.None p) false
of_reports rate fragment p = of_reports_if (is_reports p) rate fragment p

pub follows_units : FollowsUnits
follows_units s has_id Opus fragment packet apart = of_plain fragment packet
follows_units s has_id PCMU fragment packet apart = of_plain fragment packet
follows_units s has_id PCMA fragment packet apart = of_plain fragment packet
follows_units s has_id G722 fragment packet apart = of_plain fragment packet
follows_units s has_id CN fragment packet apart = of_plain fragment packet
follows_units s has_id AmrWb fragment packet apart = of_frames fragment (frames_of s.octet_align packet)
follows_units s has_id H264 fragment packet apart = of_h264 (h264.shows_type 5 packet) (h264.given fragment packet)
follows_units s has_id H265 fragment packet apart =
    of_h265 (h26x.shows_irap layouts.H265 false packet) (h26x.given layouts.H265 false fragment packet)
follows_units s has_id H266 fragment packet apart =
    of_h266 (h26x.shows_irap layouts.H266 false packet) (h26x.given layouts.H266 false fragment packet)
follows_units s has_id Vp8 fragment packet apart = of_vp8 fragment packet (parsed packet)
follows_units s has_id Vp9 fragment packet apart = absurd (apart refl)
follows_units s has_id Av1 fragment packet apart = of_av1 fragment packet
follows_units s has_id Tele fragment packet apart = of_reports s.clock_rate fragment packet
follows_units s has_id Rtx fragment packet apart = of_plain fragment packet
follows_units s has_id Red fragment packet apart = of_plain fragment packet
follows_units s has_id Null fragment packet apart = of_plain fragment packet
follows_units s has_id Unknown fragment packet apart = of_plain fragment packet

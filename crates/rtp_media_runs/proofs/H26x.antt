-- H.264, H.265 and H.266 units that are sent again.
use Rattle.std.proofs.Common.{◌≡◌, ℕ, Bool, true, false, List, [], ◌∷◌, map, refl, ap}
use Rattle.h26x_payload_units.specs.Units.{ComesBack, UnitsLaw, units_of}
use Rattle.h26x_payload_units.specs.Given.{unit_of}
use Rattle.h26x_payload_units.specs.Departures.{Waiting, are_ready, emptied, units_sent}
use Rattle.payload_core_base.specs.Law.{joined}
use Rattle.h26x_payload_formats.specs.H264Coding as h264
use Rattle.h26x_payload_formats.specs.H264Packing.{h264_rules}
use Rattle.h26x_payload_units.specs.declared.layout.Layout.{Layout}
use Rattle.h26x_payload_units.specs.Headers.{needs_vps}
use Rattle.h26x_payload_formats.specs.Coding as h265_h266
use Rattle.h26x_payload_formats.specs.Packing.{h265_h266_rules, least_limit}
use Rattle.rtp_media_runs.specs.Again.{GivesAgain}
use Rattle.rtp_media_runs.specs.Kept.{AreKept, HasNone}
use Rattle.rtp_media_runs.proofs.AnnexB.{IsByRules, comes-again, joined-codes, texts}

-- H.264
unit-texts : (us : List (List ℕ)) → map joined (unit_of us) ≡ texts us
unit-texts [] = refl
unit-texts (u ∷ us) = ap (λ t. t ∷ []) (joined-codes (u ∷ us))

h264-none-ready : (ws : Waiting) → are_ready h264_rules.needed (emptied ws) ≡ false
h264-none-ready [] = refl
h264-none-ready (w ∷ ws) = refl

h264-by-rules : IsByRules h264.h264_coding h264_rules h264.IsSendable (λ limit. limit)
h264-by-rules = record {
  bytes = λ s limit x. unit-texts (units_sent h264_rules limit s.waiting (units_of x));
  waits = λ s limit x. refl;
  sendable = λ limit x is. is;
  good = λ limit x is. is;
  none_ready = h264-none-ready;
}

pub h264-again : UnitsLaw → ComesBack → GivesAgain h264.h264_coding (HasNone h264_rules h264.IsSendable)
    (λ limit x. AreKept h264_rules limit (units_of x))
h264-again units back s t limit x follows good kept =
    comes-again units back h264.h264_coding h264_rules h264.IsSendable (λ n. n) h264-by-rules s t limit x follows good
    kept

-- H.265 and H.266, whichever sets they need
none-ready : (vps : Bool) (ws : Waiting) → are_ready (vps ∷ true ∷ true ∷ []) (emptied ws) ≡ false
none-ready vps [] = refl
none-ready true (v ∷ ws) = refl
none-ready false (v ∷ []) = refl
none-ready false (v ∷ w ∷ ws) = refl

h265_h266-by-rules : (layout : Layout) (donl : Bool) → IsByRules (h265_h266.h265_h266_coding layout donl)
    (h265_h266_rules layout donl) (h265_h266.IsSendable layout) least_limit
h265_h266-by-rules layout donl = record {
  bytes = λ s limit x. unit-texts (units_sent (h265_h266_rules layout donl) (least_limit limit) s.waiting
      (units_of x));
  waits = λ s limit x. refl;
  sendable = λ limit x is. is;
  good = λ limit x is. is;
  none_ready = none-ready (needs_vps layout);
}

pub h265_h266-again : UnitsLaw → ComesBack → (layout : Layout) (donl : Bool)
    → GivesAgain (h265_h266.h265_h266_coding layout donl)
    (HasNone (h265_h266_rules layout donl) (h265_h266.IsSendable layout))
    (λ limit x. AreKept (h265_h266_rules layout donl) (least_limit limit) (units_of x))
h265_h266-again units back layout donl s t limit x follows good kept =
    comes-again units back (h265_h266.h265_h266_coding layout donl) (h265_h266_rules layout donl)
    (h265_h266.IsSendable layout)
    least_limit (h265_h266-by-rules layout donl) s t limit x follows good kept

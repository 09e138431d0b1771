-- How the logic encodes header extension values: each record as the tuple of its fields.
use Rattle.std.specs.Prelude.{ℕ, ℤ, Bool, List, Option, refl}
use Rattle.std.specs.Coded.{Coded, code_by, coded×, coded_ℕ, coded_ℤ, coded_bool, coded_list, coded_option}
use Rattle.rtp_wire.specs.declared.values.AbsCaptureTime.{AbsCaptureTime}
use Rattle.rtp_wire.specs.declared.values.ExtensionValues.{ExtensionValues}

abbrev pub capture_code : Coded AbsCaptureTime
capture_code = code_by (ℕ × Option ℤ) (coded× coded_ℕ (coded_option coded_ℤ)) (λ c. (c.capture_time, c.clock_offset))
    (λ t. record { capture_time = t.0; clock_offset = t.1 }) (λ _. refl)

abbrev pub values_code : Coded ExtensionValues
values_code = code_by
    (Option ℤ × (Option Bool × (Option ℕ × (Option ℕ
    × (Option (List ℕ) × (Option (List ℕ) × (Option (List ℕ)
    × (Option ℕ × (Option ℕ × (Option ℕ × (Option ℕ × Option AbsCaptureTime)))))))))))
    (coded× (coded_option coded_ℤ) (coded× (coded_option coded_bool)
    (coded× (coded_option coded_ℕ) (coded× (coded_option coded_ℕ)
    (coded× (coded_option (coded_list coded_ℕ))
    (coded× (coded_option (coded_list coded_ℕ))
    (coded× (coded_option (coded_list coded_ℕ))
    (coded× (coded_option coded_ℕ) (coded× (coded_option coded_ℕ)
    (coded× (coded_option coded_ℕ) (coded× (coded_option coded_ℕ)
    (coded_option capture_code))))))))))))
    (λ v. (
      v.audio_level,
      (
        v.voice_activity,
        (
          v.abs_send_time,
          (
            v.transport_cc,
            (
              v.mid,
              (
                v.rid,
                (
                  v.rid_repair,
                  (
                    v.video_orientation,
                    (v.play_delay_min, (v.play_delay_max, (v.video_content_type, v.abs_capture_time))),
                  ),
                ),
              ),
            ),
          ),
        ),
      ),
    ))
    (λ t. record {
      audio_level = t.0;
      voice_activity = t.1.0;
      abs_send_time = t.1.1.0;
      transport_cc =
          t.1.1.1.0;
      mid = t.1.1.1.1.0;
      rid = t.1.1.1.1.1.0;
      rid_repair = t.1.1.1.1.1.1.0;
      video_orientation =
          t.1.1.1.1.1.1.1.0;
      play_delay_min = t.1.1.1.1.1.1.1.1.0;
      play_delay_max =
          t.1.1.1.1.1.1.1.1.1.0;
      video_content_type = t.1.1.1.1.1.1.1.1.1.1.0;
      abs_capture_time =
          t.1.1.1.1.1.1.1.1.1.1.1;
    })
    (λ _. refl)

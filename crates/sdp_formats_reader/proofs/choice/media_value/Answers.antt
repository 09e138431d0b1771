use Rattle.std.proofs.Common.{subst, sym}
use Rattle.sdp_formats_grammar.specs.Refusals.{Gives}
use Rattle.sdp_formats_reader.proofs.OtherNames.{other-names}
use Rattle.sdp_formats_reader.proofs.choice.media_value.Goals as goal

pub returns-in_default : goal.returns-in_default
returns-in_default c = subst (Gives c.section_transport.result) (sym (other-names c.args.name.now c.args.value.now (
  c.in_default.not-mid,
  (
    c.in_default.not-text,
    (
      c.in_default.not-text-2,
      (
        c.in_default.not-text-3,
        (
          c.in_default.not-extmap,
          (
            c.in_default.not-msid,
            (
              c.in_default.not-rtcp,
              (
                c.in_default.not-rtpmap,
                (
                  c.in_default.not-text-4,
                  (
                    c.in_default.not-fmtp,
                    (
                      c.in_default.not-rid,
                      (
                        c.in_default.not-simulcast,
                        (
                          c.in_default.not-text-5,
                          (c.in_default.not-ssrc, tt),
                        ),
                      ),
                    ),
                  ),
                ),
              ),
            ),
          ),
        ),
      ),
    ),
  ),
)))
    c.section_transport.ensures

use Rattle.std.proofs.Common.{◌∙◌}
use Rattle.rtp_media_browsers.proofs.FewerRequests.{has_rows, rejects}
use Rattle.rtp_media_browsers.proofs.in_common.reject_lacking.Goals as goal

pub returns-then-not-is_any_named-clause-none : goal.returns-then-not-is_any_named-clause-none
returns-then-not-is_any_named-clause-none c = λ _. has_rows _ _ _ _ _ _ _ _ _ _ _ c.in_ok-names.ensures.lacks
    c.as_slice.ensures.value c.in_ok-planned.ensures (c.in_ok-names-2.ensures ∙ c.as_slice-2.ensures.value)
    c.as_slice-places.ensures c.is_any_named.ensures c.if-not-is_any_named.true

pub returns-clause-some : goal.returns-clause-some
returns-clause-some c = λ _. rejects _ _ _ _ _ _ _ _ _ _ _ _ c.in_ok-names.ensures.lacks
    c.as_slice.ensures.value c.in_ok-planned.ensures (c.in_ok-names-2.ensures ∙ c.as_slice-2.ensures.value)
    c.as_slice-places.ensures c.is_any_named.ensures c.if-not-is_any_named.false c.in_ok-without_named.ensures

use Rattle.std.proofs.Common.{◌≡◌, ◌++◌, drop}
use Rattle.std.specs.Prelude.{find}
use Rattle.rtp_media_exchange.specs.Offers.{answered_sections}
use Rattle.rtp_media_exchange.specs.Refusals.{answers_none}
use Rattle.rtp_media_exchange.proofs.answering.answered_sections.Given as goal

-- the sections so far, and the rest; so far each lists a row
abbrev pub invariant-loop-place : goal.invariant-loop-place
invariant-loop-place l = record {
  sections : l.answer.items ++ answered_sections l.exts l.config.rows (drop l.place l.wanted) (drop l.place l.offer)
      ≡ answered_sections l.exts l.config.rows l.wanted l.offer;
  listed : find (answers_none l.config.rows) (drop l.place l.offer) ≡ find (answers_none l.config.rows) l.offer;
}

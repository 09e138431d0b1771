use Rattle.rtp_media_ends.proofs.laws.exchanged_law.Goals as goal

pub returns : goal.returns
returns c = λ offer answer sections_a sections_b a b after_a after_b called.
    let pairs = c.mutual_law.ensures.repairs offer answer sections_a sections_b a.exchange b.exchange after_a.exchange
    after_b.exchange (record {
      offers = called.offers;
      pending = called.pending;
      answers = called.answers;
      accepts = called.accepts;
    }) in
    record {
      first = called.accepted;
      second = called.answered;
      repairs_to = λ mid. (pairs mid).0;
      repairs_from = λ mid. (pairs mid).1;
    }

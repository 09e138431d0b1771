-- Reading from left to right gives the command whose words are there, and no other.
use Rattle.std.proofs.Common.{◌≡◌, ℕ, ◌^◌, List, [], ◌∷◌, Option, None, Some, codes, refl, sym, ◌∙◌, ap, subst}
use Rattle.std.specs.Option.{option_map}
use Rattle.std.specs.Prelude.{option_to_list}
use Rattle.std.specs.Str.{bytes_eq}
use Rattle.rtp_media_program.specs.declared.command.Command.{Command}
use Rattle.rtp_media_program.specs.declared.command.Command.TheVariants.{Fixed, Send, Open, Sample, Receive, Poll, Row}
use Rattle.rtp_media_program.specs.declared.command.Command.TheVariants.{Ext, End, Offer, Answer, Accept, Withdraw}
use Rattle.rtp_media_program.specs.declared.command.Command.TheVariants.{Connect, Queue, Play, Relay, Repair}
use Rattle.rtp_media_program.specs.declared.command.Command.TheVariants.{AskStream, BoundStream}
use Rattle.rtp_media_program.specs.declared.command.Ask.{Ask}
use Rattle.rtp_media_program.specs.declared.command.Ask.TheVariants.{Close, Missing, Next}
use Rattle.rtp_media_program.specs.declared.command.AskCommand.{AskCommand}
use Rattle.rtp_media_program.specs.declared.command.Bound.{Bound}
use Rattle.rtp_media_program.specs.declared.command.Bound.TheVariants.{Empty, Keep, Pass, Skip}
use Rattle.rtp_media_program.specs.declared.command.BoundCommand.{BoundCommand}
use Rattle.rtp_media_program.specs.Words.{letter_of, text_of, hex_of, dash_or, numbers_of, number_below, behind}
use Rattle.rtp_media_program.specs.Words.{held_value, mid_value, ◌>>=◌}
use Rattle.rtp_media_program.proofs.BehindLemmas.{behind-sound, behind-append}
use Rattle.rtp_media_program.specs.LineForms.{command_of, fixed_of, send_of, open_of, sample_of, receive_of, poll_of}
use Rattle.rtp_media_program.specs.LineForms.{ask_of, bound_of, repair_of, stream_command_of}
use Rattle.rtp_media_program.proofs.ReadSteps.{dispatch, same, ended_some, read_on, glue, under}
use Rattle.rtp_media_program.proofs.ExchangeWords.{exchange_says, read_row, read_ext, read_end, read_offer, read_answer}
use Rattle.rtp_media_program.proofs.ExchangeWords.{read_accept, read_withdraw, read_connect}
use Rattle.rtp_media_program.proofs.PlayWords.{read_play, read_queue}
use Rattle.rtp_media_program.proofs.RelayWords.{read_relay}
use Rattle.rtp_media_program.specs.Says.{Says, AreSendWords, AreOpenWords, AreSampleWords, mid_words, AreReceiveWords}
use Rattle.rtp_media_program.specs.Says.{AreAskWords, AreBoundWords, ArePollWords, AreRepairWords, ask_word, bound_word}
use Rattle.rtp_media_program.specs.Says.{held_number}

-- ---- what is read is there

fixed_says : (verb : List ℕ) (words : List (List ℕ)) (c : Command) → verb ≡ codes "fixed" → fixed_of words ≡ Some c
    → Says (verb ∷ words) c
unfolding fixed_of
fixed_says verb words c v h =
    read_on _ letter_of words _ c h (λ e_word after_e e is_e says_e left_e.
    let end = ended_some after_e _ c left_e in
    subst (Says (verb ∷ words)) end.1 (e_word, glue v (is_e ∙ under e_word end.0), says_e))

send_says : (verb : List ℕ) (words : List (List ℕ)) (c : Command) → verb ≡ codes "send" → send_of words ≡ Some c
    → Says (verb ∷ words) c
unfolding send_of
send_says verb words c v h =
    read_on _ letter_of words _ c h (λ e_word after_e e is_e says_e left_e.
    read_on _ text_of after_e _ c left_e (λ mid_word after_mid mid is_mid says_mid left_mid.
    read_on _ (number_below (2 ^ 32)) after_mid _ c left_mid (λ ssrc_word after_ssrc ssrc is_ssrc says_ssrc left_ssrc.
    read_on _ (number_below (2 ^ 8)) after_ssrc _ c left_ssrc (λ pt_word after_pt pt is_pt says_pt left_pt.
    read_on _ (number_below (2 ^ 64)) after_pt _ c left_pt
    (λ number_word after_number number is_number says_number left_number.
    read_on _ (number_below (2 ^ 64)) after_number _ c left_number (λ mtu_word after_mtu mtu is_mtu says_mtu left_mtu.
    read_on _ (number_below (2 ^ 64)) after_mtu _ c left_mtu
    (λ limit_word after_limit limit is_limit says_limit left_limit.
    read_on _ (dash_or numbers_of) after_limit _ c left_limit
    (λ distances_word after_distances distances is_distances says_distances left_distances.
    read_on _ (dash_or (number_below (2 ^ 16))) after_distances _ c left_distances
    (λ picture_word after_picture picture is_picture says_picture left_picture.
    let end = ended_some after_picture _ c left_picture in
    subst (Says (verb ∷ words)) end.1 (record {
      e = e_word;
      mid = mid_word;
      ssrc = ssrc_word;
      pt = pt_word;
      first = number_word;
      mtu = mtu_word;
      limit = limit_word;
      distances = distances_word;
      picture = picture_word;
      words_are = glue v (is_e ∙ under e_word (is_mid
          ∙ under mid_word (is_ssrc ∙ under ssrc_word
          (is_pt ∙ under pt_word (is_number ∙ under number_word
          (is_mtu ∙ under mtu_word (is_limit ∙ under limit_word
          (is_distances ∙ under distances_word (is_picture ∙ under picture_word end.0)))))))));
      e_says = says_e;
      mid_says = says_mid;
      ssrc_says = says_ssrc;
      pt_says = says_pt;
      first_says = says_number;
      mtu_says = says_mtu;
      limit_says = says_limit;
      distances_say = says_distances;
      picture_says = says_picture;
    }))))))))))

-- nothing is left, or a word that is a number
held_some : (words : List (List ℕ)) (f : ℕ → Command) (c : Command)
    → (held_value words >>= (λ held. Some (f held))) ≡ Some c → (held : Option (List ℕ)) × (n : ℕ)
    × (words ≡ option_to_list held) × (held_number held ≡ Some n) × (f n ≡ c)
held_some [] f c h = (None, 4096, refl, refl, cc)
held_some (word ∷ []) f c h = by_number (number_below (2 ^ 64) word) refl h where
  by_number : (o : Option ℕ) → number_below (2 ^ 64) word ≡ o → (o >>= (λ held. Some (f held))) ≡ Some c
      → (held : Option (List ℕ)) × (n : ℕ) × (word ∷ [] ≡ option_to_list held) × (held_number held ≡ Some n)
      × (f n ≡ c)
  by_number None e k = absurd cc
  by_number (Some n) e k = (Some word, n, refl, e, cc)
held_some (word ∷ next ∷ words) f c h = absurd cc

open_says : (verb : List ℕ) (words : List (List ℕ)) (c : Command) → verb ≡ codes "open" → open_of words ≡ Some c
    → Says (verb ∷ words) c
unfolding open_of
open_says verb words c v h =
    read_on _ letter_of words _ c h (λ e_word after_e e is_e says_e left_e.
    read_on _ text_of after_e _ c left_e (λ mid_word after_mid mid is_mid says_mid left_mid.
    read_on _ (number_below (2 ^ 32)) after_mid _ c left_mid (λ ssrc_word after_ssrc ssrc is_ssrc says_ssrc left_ssrc.
    read_on _ (number_below (2 ^ 8)) after_ssrc _ c left_ssrc (λ pt_word after_pt pt is_pt says_pt left_pt.
    read_on _ (number_below (2 ^ 64)) after_pt _ c left_pt
    (λ hold_back_word after_hold_back hold_back is_hold_back says_hold_back left_hold_back.
    let end = held_some after_hold_back _ c left_hold_back in
    subst (Says (verb ∷ words)) end.4 (record {
      e = e_word;
      mid = mid_word;
      ssrc = ssrc_word;
      pt = pt_word;
      hold_back = hold_back_word;
      held = end.0;
      words_are = glue v (is_e ∙ under e_word (is_mid
          ∙ under mid_word (is_ssrc ∙ under ssrc_word
          (is_pt ∙ under pt_word (is_hold_back ∙ under hold_back_word end.2)))));
      e_says = says_e;
      mid_says = says_mid;
      ssrc_says = says_ssrc;
      pt_says = says_pt;
      hold_back_says = says_hold_back;
      held_says = end.3;
    }))))))

-- nothing is left, or a word `mid=TEXT`
mid_some : (words : List (List ℕ)) (f : Option (List ℕ) → Command) (c : Command)
    → (mid_value words >>= (λ mid. Some (f mid))) ≡ Some c → (mid : Option (List ℕ)) × (words ≡ mid_words mid)
    × (f mid ≡ c)
mid_some [] f c h = (None, refl, cc)
mid_some (word ∷ []) f c h = by_text (behind (codes "mid=") word) refl h where
  by_text : (o : Option (List ℕ)) → behind (codes "mid=") word ≡ o → (option_map Some o >>= (λ mid. Some (f mid)))
      ≡ Some c → (mid : Option (List ℕ)) × (word ∷ [] ≡ mid_words mid) × (f mid ≡ c)
  by_text None e k = absurd cc
  by_text (Some text) e k = (Some text, ap (λ (w : List ℕ). w ∷ []) (behind-sound (codes "mid=") word text e), cc)
mid_some (word ∷ next ∷ words) f c h = absurd cc

sample_says : (verb : List ℕ) (words : List (List ℕ)) (c : Command) → verb ≡ codes "sample" → sample_of words
    ≡ Some c → Says (verb ∷ words) c
unfolding sample_of
sample_says verb words c v h =
    read_on _ letter_of words _ c h (λ e_word after_e e is_e says_e left_e.
    read_on _ (number_below (2 ^ 64)) after_e _ c left_e
    (λ stream_word after_stream stream is_stream says_stream left_stream.
    read_on _ (number_below (2 ^ 64)) after_stream _ c left_stream
    (λ time_word after_time time is_time says_time left_time.
    read_on _ hex_of after_time _ c left_time (λ bytes_word after_bytes bytes is_bytes says_bytes left_bytes.
    let end = mid_some after_bytes _ c left_bytes in
    subst (Says (verb ∷ words)) end.2 (record {
      e = e_word;
      stream = stream_word;
      time = time_word;
      bytes = bytes_word;
      words_are = glue v (is_e ∙ under e_word (is_stream
          ∙ under stream_word (is_time ∙ under time_word (is_bytes ∙ under bytes_word end.1))));
      e_says = says_e;
      stream_says = says_stream;
      time_says = says_time;
      bytes_say = says_bytes;
    })))))

receive_says : (verb : List ℕ) (words : List (List ℕ)) (c : Command) → verb ≡ codes "receive" → receive_of words
    ≡ Some c → Says (verb ∷ words) c
unfolding receive_of
receive_says verb words c v h =
    read_on _ letter_of words _ c h (λ e_word after_e e is_e says_e left_e.
    read_on _ hex_of after_e _ c left_e (λ bytes_word after_bytes bytes is_bytes says_bytes left_bytes.
    let end = ended_some after_bytes _ c left_bytes in
    subst (Says (verb ∷ words)) end.1 (record {
      e = e_word;
      bytes = bytes_word;
      words_are = glue v (is_e ∙ under e_word (is_bytes ∙ under bytes_word end.0));
      e_says = says_e;
      bytes_say = says_bytes;
    })))

poll_says : (verb : List ℕ) (words : List (List ℕ)) (c : Command) → verb ≡ codes "poll" → poll_of words ≡ Some c
    → Says (verb ∷ words) c
unfolding poll_of
poll_says verb words c v h =
    read_on _ letter_of words _ c h (λ e_word after_e e is_e says_e left_e.
    read_on _ (number_below (2 ^ 64)) after_e _ c left_e
    (λ stream_word after_stream stream is_stream says_stream left_stream.
    let end = ended_some after_stream _ c left_stream in
    subst (Says (verb ∷ words)) end.1 (record {
      e = e_word;
      stream = stream_word;
      words_are = glue v (is_e ∙ under e_word (is_stream ∙ under stream_word end.0));
      e_says = says_e;
      stream_says = says_stream;
    })))

repair_says : (verb : List ℕ) (words : List (List ℕ)) (c : Command) → verb ≡ codes "repair" → repair_of words
    ≡ Some c → Says (verb ∷ words) c
unfolding repair_of
repair_says verb words c v h =
    read_on _ letter_of words _ c h (λ e_word after_e e is_e says_e left_e.
    read_on _ (number_below (2 ^ 64)) after_e _ c left_e
    (λ stream_word after_stream stream is_stream says_stream left_stream.
    read_on _ hex_of after_stream _ c left_stream (λ bytes_word after_bytes bytes is_bytes says_bytes left_bytes.
    let end = ended_some after_bytes _ c left_bytes in
    subst (Says (verb ∷ words)) end.1 (record {
      e = e_word;
      stream = stream_word;
      bytes = bytes_word;
      words_are = glue v (is_e ∙ under e_word (is_stream
          ∙ under stream_word (is_bytes ∙ under bytes_word end.0)));
      e_says = says_e;
      stream_says = says_stream;
      bytes_say = says_bytes;
    }))))

ask_says : (ask : Ask) (verb : List ℕ) (words : List (List ℕ)) (c : Command) → verb ≡ ask_word ask
    → ask_of ask words ≡ Some c → Says (verb ∷ words) c
unfolding ask_of
ask_says ask verb words c v h =
    read_on _ letter_of words _ c h (λ e_word after_e e is_e says_e left_e.
    read_on _ (number_below (2 ^ 64)) after_e _ c left_e
    (λ stream_word after_stream stream is_stream says_stream left_stream.
    let end = ended_some after_stream _ c left_stream in
    subst (Says (verb ∷ words)) end.1 (record {
      e = e_word;
      stream = stream_word;
      words_are = glue v (is_e ∙ under e_word (is_stream ∙ under stream_word end.0));
      e_says = says_e;
      stream_says = says_stream;
    })))

bound_says : (bound : Bound) (verb : List ℕ) (words : List (List ℕ)) (c : Command) → verb ≡ bound_word bound
    → bound_of bound words ≡ Some c → Says (verb ∷ words) c
unfolding bound_of
bound_says bound verb words c v h =
    read_on _ letter_of words _ c h (λ e_word after_e e is_e says_e left_e.
    read_on _ (number_below (2 ^ 64)) after_e _ c left_e
    (λ stream_word after_stream stream is_stream says_stream left_stream.
    read_on _ (number_below (2 ^ 64)) after_stream _ c left_stream
    (λ number_word after_number number is_number says_number left_number.
    let end = ended_some after_number _ c left_number in
    subst (Says (verb ∷ words)) end.1 (record {
      e = e_word;
      stream = stream_word;
      number = number_word;
      words_are = glue v (is_e ∙ under e_word (is_stream ∙ under stream_word (is_number ∙ under number_word end.0)));
      e_says = says_e;
      stream_says = says_stream;
      number_says = says_number;
    }))))

stream_says : (verb : List ℕ) (words : List (List ℕ)) (c : Command) → stream_command_of verb words ≡ Some c
    → Says (verb ∷ words) c
stream_says verb words c h =
    dispatch (bytes_eq verb (codes "next")) _ _ _ _ (λ v. ask_says Next verb words c (same verb _ v))
    (dispatch (bytes_eq verb (codes "missing")) _ _ _ _ (λ v. ask_says Missing verb words c (same verb _ v))
    (dispatch (bytes_eq verb (codes "close")) _ _ _ _ (λ v. ask_says Close verb words c (same verb _ v))
    (dispatch (bytes_eq verb (codes "skip")) _ _ _ _ (λ v. bound_says Skip verb words c (same verb _ v))
    (dispatch (bytes_eq verb (codes "pass")) _ _ _ _ (λ v. bound_says Pass verb words c (same verb _ v))
    (dispatch (bytes_eq verb (codes "empty")) _ _ _ _ (λ v. bound_says Empty verb words c (same verb _ v))
    (dispatch (bytes_eq verb (codes "keep")) _ _ _ _ (λ v. bound_says Keep verb words c (same verb _ v))
    (exchange_says verb words c))))))) h

pub says_what_is_read : (words : List (List ℕ)) (c : Command) → command_of words ≡ Some c → Says words c
says_what_is_read [] c h = cc h
says_what_is_read (verb ∷ words) c h =
    dispatch (bytes_eq verb (codes "fixed")) _ _ _ _ (λ v. fixed_says verb words c (same verb _ v))
    (dispatch (bytes_eq verb (codes "send")) _ _ _ _ (λ v. send_says verb words c (same verb _ v))
    (dispatch (bytes_eq verb (codes "open")) _ _ _ _ (λ v. open_says verb words c (same verb _ v))
    (dispatch (bytes_eq verb (codes "sample")) _ _ _ _ (λ v. sample_says verb words c (same verb _ v))
    (dispatch (bytes_eq verb (codes "receive")) _ _ _ _ (λ v. receive_says verb words c (same verb _ v))
    (dispatch (bytes_eq verb (codes "poll")) _ _ _ _ (λ v. poll_says verb words c (same verb _ v))
    (dispatch (bytes_eq verb (codes "repair")) _ _ _ _ (λ v. repair_says verb words c (same verb _ v))
    (stream_says verb words c))))))) h

-- ---- what is there is read

read_fixed : (e : List ℕ) (letter : _) → letter_of e ≡ Some letter → fixed_of (e ∷ []) ≡ Some (Fixed letter)
unfolding fixed_of
read_fixed e letter h = rw h refl

read_send : (words : List (List ℕ)) (send : _) (a : AreSendWords words send)
    → send_of (a.e ∷ a.mid ∷ a.ssrc ∷ a.pt ∷ a.first ∷ a.mtu ∷ a.limit ∷ a.distances ∷ a.picture ∷ [])
    ≡ Some (Send send)
unfolding send_of
read_send words send a =
    rw (
      a.e_says,
      a.mid_says,
      a.ssrc_says,
      a.pt_says,
      a.first_says,
      a.mtu_says,
      a.limit_says,
      a.distances_say,
      a.picture_says,
    ) refl

read_open : (words : List (List ℕ)) (open' : _) (a : AreOpenWords words open')
    → open_of (a.e ∷ a.mid ∷ a.ssrc ∷ a.pt ∷ a.hold_back ∷ option_to_list a.held) ≡ Some (Open open')
unfolding open_of
read_open words open' a =
    rw (a.e_says, a.mid_says, a.ssrc_says, a.pt_says, a.hold_back_says, held_again a.held, a.held_says) refl where
      held_again : (held : Option (List ℕ)) → held_value (option_to_list held) ≡ held_number held
      held_again None = refl
      held_again (Some word) = refl

read_sample : (words : List (List ℕ)) (sample : _) (a : AreSampleWords words sample)
    → sample_of (a.e ∷ a.stream ∷ a.time ∷ a.bytes ∷ mid_words sample.mid) ≡ Some (Sample sample)
unfolding sample_of
read_sample words sample a = rw (a.e_says, a.stream_says, a.time_says, a.bytes_say, mid_again sample.mid) refl where
  mid_again : (mid : Option (List ℕ)) → mid_value (mid_words mid) ≡ Some mid
  mid_again None = refl
  mid_again (Some text) = ap (option_map Some) (behind-append (codes "mid=") text)

read_receive : (words : List (List ℕ)) (receive : _) (a : AreReceiveWords words receive)
    → receive_of (a.e ∷ a.bytes ∷ []) ≡ Some (Receive receive)
unfolding receive_of
read_receive words receive a = rw (a.e_says, a.bytes_say) refl

read_poll : (words : List (List ℕ)) (poll : _) (a : ArePollWords words poll) → poll_of (a.e ∷ a.stream ∷ [])
    ≡ Some (Poll poll)
unfolding poll_of
read_poll words poll a = rw (a.e_says, a.stream_says) refl

read_repair : (words : List (List ℕ)) (repair : _) (a : AreRepairWords words repair)
    → repair_of (a.e ∷ a.stream ∷ a.bytes ∷ []) ≡ Some (Repair repair)
unfolding repair_of
read_repair words repair a = rw (a.e_says, a.stream_says, a.bytes_say) refl

read_ask : (ask : AskCommand) (words : List (List ℕ)) (a : AreAskWords words ask)
    → ask_of ask.ask (a.e ∷ a.stream ∷ []) ≡ Some (AskStream ask)
unfolding ask_of
read_ask ask words a = rw (a.e_says, a.stream_says) refl

-- by its first word
read_asked : (ask : AskCommand) (words : List (List ℕ)) (a : AreAskWords words ask) (k : Ask) → k ≡ ask.ask
    → command_of (ask_word k ∷ a.e ∷ a.stream ∷ []) ≡ Some (AskStream ask)
read_asked ask words a Next e = ap (λ (q : Ask). ask_of q (a.e ∷ a.stream ∷ [])) e ∙ read_ask ask words a
read_asked ask words a Missing e = ap (λ (q : Ask). ask_of q (a.e ∷ a.stream ∷ [])) e ∙ read_ask ask words a
read_asked ask words a Close e = ap (λ (q : Ask). ask_of q (a.e ∷ a.stream ∷ [])) e ∙ read_ask ask words a

read_bound : (bound : BoundCommand) (words : List (List ℕ)) (a : AreBoundWords words bound)
    → bound_of bound.bound (a.e ∷ a.stream ∷ a.number ∷ []) ≡ Some (BoundStream bound)
unfolding bound_of
read_bound bound words a = rw (a.e_says, a.stream_says, a.number_says) refl

read_bounded : (bound : BoundCommand) (words : List (List ℕ)) (a : AreBoundWords words bound) (k : Bound)
    → k ≡ bound.bound → command_of (bound_word k ∷ a.e ∷ a.stream ∷ a.number ∷ []) ≡ Some (BoundStream bound)
read_bounded bound words a Skip e =
    ap (λ (q : Bound). bound_of q (a.e ∷ a.stream ∷ a.number ∷ [])) e ∙ read_bound bound words a
read_bounded bound words a Pass e =
    ap (λ (q : Bound). bound_of q (a.e ∷ a.stream ∷ a.number ∷ [])) e ∙ read_bound bound words a
read_bounded bound words a Empty e =
    ap (λ (q : Bound). bound_of q (a.e ∷ a.stream ∷ a.number ∷ [])) e ∙ read_bound bound words a
read_bounded bound words a Keep e =
    ap (λ (q : Bound). bound_of q (a.e ∷ a.stream ∷ a.number ∷ [])) e ∙ read_bound bound words a

abbrev Reads : Command → List (List ℕ) → Type 0
Reads c words = command_of words ≡ Some c

pub read_what_is_said : (words : List (List ℕ)) (c : Command) → Says words c → command_of words ≡ Some c
read_what_is_said words (Fixed letter) a = subst (Reads (Fixed letter)) (sym a.1) (read_fixed a.0 letter a.2)
read_what_is_said words (Send send) a = subst (Reads (Send send)) (sym a.words_are) (read_send words send a)
read_what_is_said words (Open open') a = subst (Reads (Open open')) (sym a.words_are) (read_open words open' a)
read_what_is_said words (Sample sample) a = subst (Reads (Sample sample)) (sym a.words_are) (read_sample words sample a)
read_what_is_said words (Receive receive) a =
    subst (Reads (Receive receive)) (sym a.words_are) (read_receive words receive a)
read_what_is_said words (Poll poll) a = subst (Reads (Poll poll)) (sym a.words_are) (read_poll words poll a)
read_what_is_said words (Repair repair) a = subst (Reads (Repair repair)) (sym a.words_are) (read_repair words repair a)
read_what_is_said words (AskStream ask) a =
    subst (Reads (AskStream ask)) (sym a.words_are) (read_asked ask words a ask.ask refl)
read_what_is_said words (BoundStream bound) a =
    subst (Reads (BoundStream bound)) (sym a.words_are) (read_bounded bound words a bound.bound refl)
read_what_is_said words (Row row) a = subst (Reads (Row row)) (sym a.words_are) (read_row words row a)
read_what_is_said words (Ext ext) a = subst (Reads (Ext ext)) (sym a.words_are) (read_ext words ext a)
read_what_is_said words (End end') a = subst (Reads (End end')) (sym a.words_are) (read_end words end' a)
read_what_is_said words (Offer offer) a = subst (Reads (Offer offer)) (sym a.words_are) (read_offer words offer a)
read_what_is_said words (Answer answer) a = subst (Reads (Answer answer)) (sym a.words_are) (read_answer words answer a)
read_what_is_said words (Accept accept) a = subst (Reads (Accept accept)) (sym a.words_are) (read_accept words accept a)
read_what_is_said words (Withdraw letter) a = subst (Reads (Withdraw letter)) (sym a.1) (read_withdraw a.0 letter a.2)
read_what_is_said words (Connect connect) a =
    subst (Reads (Connect connect)) (sym a.words_are) (read_connect words connect a)
read_what_is_said words (Queue queue) a = subst (Reads (Queue queue)) (sym a.words_are) (read_queue words queue a)
read_what_is_said words (Play play) a = subst (Reads (Play play)) (sym a.words_are) (read_play words play a)
read_what_is_said words (Relay relay) a = read_relay words relay a

-- Reading from left to right gives the command whose words are there: the commands of exchanges.
use Rattle.std.proofs.Common.{◌≡◌, ℕ, ◌^◌, Bool, true, false, List, [], ◌∷◌, ◌++◌, None, Some, codes, refl, sym, ◌∙◌}
use Rattle.std.proofs.Common.{ap, subst}
use Rattle.std.specs.Str.{bytes_eq}
use Rattle.rtp_media_program.specs.declared.command.Command.{Command}
use Rattle.rtp_media_program.specs.declared.command.Command.TheVariants.{Row, Ext, End, Offer, Answer, Accept}
use Rattle.rtp_media_program.specs.declared.command.Command.TheVariants.{Withdraw, Connect}
use Rattle.rtp_media_program.specs.declared.sections.SectionWord.{SectionWord}
use Rattle.rtp_media_program.specs.Words.{letter_of, text_of, hex_of, dash_or, number_below}
use Rattle.rtp_media_program.specs.Sections.{section_of, sections_of, sections_then_slash}
use Rattle.rtp_media_program.specs.ExchangeLines.{row_of, ext_of, end_of, offer_of, answer_of, accept_of, withdraw_of}
use Rattle.rtp_media_program.specs.ExchangeLines.{connect_of}
use Rattle.rtp_media_program.specs.LineForms.{exchange_command_of}
use Rattle.rtp_media_program.proofs.PlayWords.{run_says}
use Rattle.rtp_media_program.specs.Says.{Says, AreRowWords, AreExtWords, AreEndWords, AreOfferWords, AreAnswerWords}
use Rattle.rtp_media_program.specs.Says.{AreAcceptWords, AreConnectWords}
use Rattle.rtp_media_program.proofs.ReadSteps.{bind_some, read_on, ended_some, glue, under, dispatch, same}

some_is : {A : Type 0} {x y : A} → Some x ≡ Some y → x ≡ y
some_is h = cc h

-- ---- what is read is there

row_says : (verb : List ℕ) (words : List (List ℕ)) (c : Command) → verb ≡ codes "row" → row_of words ≡ Some c
    → Says (verb ∷ words) c
unfolding row_of
row_says verb words c v h =
    read_on _ letter_of words _ c h (λ e_word after_e e is_e says_e left_e.
    read_on _ (number_below (2 ^ 8)) after_e _ c left_e (λ pt_word after_pt pt is_pt says_pt left_pt.
    read_on _ (dash_or (number_below (2 ^ 8))) after_pt _ c left_pt
    (λ resend_word after_resend resend is_resend says_resend left_resend.
    read_on _ (dash_or (number_below (2 ^ 8))) after_resend _ c left_resend
    (λ red_word after_red red is_red says_red left_red.
    read_on _ text_of after_red _ c left_red (λ codec_word after_codec codec is_codec says_codec left_codec.
    read_on _ (number_below (2 ^ 32)) after_codec _ c left_codec
    (λ clock_word after_clock clock is_clock says_clock left_clock.
    read_on _ (dash_or (number_below (2 ^ 8))) after_clock _ c left_clock
    (λ channels_word after_channels channels is_channels says_channels left_channels.
    read_on _ (dash_or text_of) after_channels _ c left_channels
    (λ format_word after_format format is_format says_format left_format.
    let end = ended_some after_format _ c left_format in
    subst (Says (verb ∷ words)) end.1 (record {
      e = e_word;
      pt = pt_word;
      resend = resend_word;
      red = red_word;
      codec = codec_word;
      clock = clock_word;
      channels = channels_word;
      format = format_word;
      words_are = glue v (is_e ∙ under e_word (is_pt
          ∙ under pt_word (is_resend ∙ under resend_word
          (is_red ∙ under red_word (is_codec ∙ under codec_word
          (is_clock ∙ under clock_word (is_channels
          ∙ under channels_word (is_format ∙ under format_word end.0))))))));
      e_says = says_e;
      pt_says = says_pt;
      resend_says = says_resend;
      red_says = says_red;
      codec_says = says_codec;
      clock_says = says_clock;
      channels_say = says_channels;
      format_says = says_format;
    })))))))))

ext_says : (verb : List ℕ) (words : List (List ℕ)) (c : Command) → verb ≡ codes "ext" → ext_of words ≡ Some c
    → Says (verb ∷ words) c
unfolding ext_of
ext_says verb words c v h =
    read_on _ letter_of words _ c h (λ e_word after_e e is_e says_e left_e.
    read_on _ (number_below (2 ^ 8)) after_e _ c left_e (λ id_word after_id id is_id says_id left_id.
    read_on _ text_of after_id _ c left_id (λ uri_word after_uri uri is_uri says_uri left_uri.
    let end = ended_some after_uri _ c left_uri in
    subst (Says (verb ∷ words)) end.1 (record {
      e = e_word;
      id = id_word;
      uri = uri_word;
      words_are = glue v (is_e ∙ under e_word (is_id ∙ under id_word (is_uri ∙ under uri_word end.0)));
      e_says = says_e;
      id_says = says_id;
      uri_says = says_uri;
    }))))

end_says : (verb : List ℕ) (words : List (List ℕ)) (c : Command) → verb ≡ codes "end" → end_of words ≡ Some c
    → Says (verb ∷ words) c
unfolding end_of
end_says verb words c v h =
    read_on _ letter_of words _ c h (λ e_word after_e e is_e says_e left_e.
    read_on _ (number_below (2 ^ 64)) after_e _ c left_e
    (λ session_word after_session session is_session says_session left_session.
    let end = ended_some after_session _ c left_session in
    subst (Says (verb ∷ words)) end.1 (record {
      e = e_word;
      session = session_word;
      words_are = glue v (is_e ∙ under e_word (is_session ∙ under session_word end.0));
      e_says = says_e;
      session_says = says_session;
    })))

offer_says : (verb : List ℕ) (words : List (List ℕ)) (c : Command) → verb ≡ codes "offer" → offer_of words ≡ Some c
    → Says (verb ∷ words) c
unfolding offer_of
offer_says verb words c v h =
    read_on _ letter_of words _ c h (λ e_word after_e e is_e says_e left_e.
    let sections = bind_some (sections_of after_e) _ c left_e in
    subst (Says (verb ∷ words)) (some_is sections.2) (record {
      e = e_word;
      sections = after_e;
      words_are = glue v is_e;
      e_says = says_e;
      sections_say = sections.1;
    }))

answer_says : (verb : List ℕ) (words : List (List ℕ)) (c : Command) → verb ≡ codes "answer" → answer_of words
    ≡ Some c → Says (verb ∷ words) c
unfolding answer_of
answer_says verb words c v h =
    read_on _ letter_of words _ c h (λ e_word after_e e is_e says_e left_e.
    read_on _ hex_of after_e _ c left_e (λ text_word after_text text is_text says_text left_text.
    let sections = bind_some (sections_of after_text) _ c left_text in
    subst (Says (verb ∷ words)) (some_is sections.2) (record {
      e = e_word;
      text = text_word;
      sections = after_text;
      words_are = glue v (is_e ∙ under e_word is_text);
      e_says = says_e;
      text_says = says_text;
      sections_say = sections.1;
    })))

accept_says : (verb : List ℕ) (words : List (List ℕ)) (c : Command) → verb ≡ codes "accept" → accept_of words
    ≡ Some c → Says (verb ∷ words) c
unfolding accept_of
accept_says verb words c v h =
    read_on _ letter_of words _ c h (λ e_word after_e e is_e says_e left_e.
    read_on _ hex_of after_e _ c left_e (λ text_word after_text text is_text says_text left_text.
    let end = ended_some after_text _ c left_text in
    subst (Says (verb ∷ words)) end.1 (record {
      e = e_word;
      text = text_word;
      words_are = glue v (is_e ∙ under e_word (is_text ∙ under text_word end.0));
      e_says = says_e;
      text_says = says_text;
    })))

withdraw_says : (verb : List ℕ) (words : List (List ℕ)) (c : Command) → verb ≡ codes "withdraw" → withdraw_of words
    ≡ Some c → Says (verb ∷ words) c
unfolding withdraw_of
withdraw_says verb words c v h =
    read_on _ letter_of words _ c h (λ e_word after_e e is_e says_e left_e.
    let end = ended_some after_e _ c left_e in
    subst (Says (verb ∷ words)) end.1 (e_word, glue v (is_e ∙ under e_word end.0), says_e))

-- the words before a slash, and those after it
abbrev Slashed : List (List ℕ) → List SectionWord × List (List ℕ) → Type 0
Slashed words x = (before : List (List ℕ)) × (words ≡ before ++ codes "/" ∷ x.1) × (sections_of before ≡ Some x.0)

slashed_more : (word : List ℕ) (words : List (List ℕ)) (s : SectionWord) (x : List SectionWord × List (List ℕ))
    → section_of word ≡ Some s → Slashed words x → Slashed (word ∷ words) (s ∷ x.0, x.1)
slashed_more word words s x said parts = (word ∷ parts.0, ap (λ rest. word ∷ rest) parts.1, rw (said, parts.2) refl)

slashed : (words : List (List ℕ)) (x : List SectionWord × List (List ℕ)) → sections_then_slash words ≡ Some x
    → Slashed words x
slashed [] x h = cc h
slashed (word ∷ words) x h =
    dispatch (bytes_eq word (codes "/")) _ _ _ _
    (λ v k. subst (Slashed (word ∷ words)) (some_is k) ([], ap (λ first. first ∷ words) (same word _ v), refl))
    (λ k. let s = bind_some (section_of word) _ x k in
    let more = bind_some (sections_then_slash words) _ x s.2 in
    subst (Slashed (word ∷ words)) (some_is more.2)
    (slashed_more word words s.0 more.0 s.1 (slashed words more.0 more.1))) h

connect_says : (verb : List ℕ) (words : List (List ℕ)) (c : Command) → verb ≡ codes "connect" → connect_of words
    ≡ Some c → Says (verb ∷ words) c
unfolding connect_of
connect_says verb words c v h =
    let offered = bind_some (sections_then_slash words) _ c h in
    let answered = bind_some (sections_of offered.0.1) _ c offered.2 in
    let parts = slashed words offered.0 offered.1 in
    subst (Says (verb ∷ words)) (some_is answered.2) (record {
      offered = parts.0;
      answered = offered.0.1;
      words_are = glue v parts.1;
      offered_say = parts.2;
      answered_say = answered.1;
    })

pub exchange_says : (verb : List ℕ) (words : List (List ℕ)) (c : Command) → exchange_command_of verb words ≡ Some c
    → Says (verb ∷ words) c
exchange_says verb words c h =
    dispatch (bytes_eq verb (codes "row")) _ _ _ _ (λ v. row_says verb words c (same verb _ v))
    (dispatch (bytes_eq verb (codes "ext")) _ _ _ _ (λ v. ext_says verb words c (same verb _ v))
    (dispatch (bytes_eq verb (codes "end")) _ _ _ _ (λ v. end_says verb words c (same verb _ v))
    (dispatch (bytes_eq verb (codes "offer")) _ _ _ _ (λ v. offer_says verb words c (same verb _ v))
    (dispatch (bytes_eq verb (codes "answer")) _ _ _ _ (λ v. answer_says verb words c (same verb _ v))
    (dispatch (bytes_eq verb (codes "accept")) _ _ _ _ (λ v. accept_says verb words c (same verb _ v))
    (dispatch (bytes_eq verb (codes "withdraw")) _ _ _ _ (λ v. withdraw_says verb words c (same verb _ v))
    (dispatch (bytes_eq verb (codes "connect")) _ _ _ _ (λ v. connect_says verb words c (same verb _ v))
    (run_says verb words c)))))))) h

-- ---- what is there is read

pub read_row : (words : List (List ℕ)) (row : _) (a : AreRowWords words row)
    → row_of (a.e ∷ a.pt ∷ a.resend ∷ a.red ∷ a.codec ∷ a.clock ∷ a.channels ∷ a.format ∷ []) ≡ Some (Row row)
unfolding row_of
read_row words row a = rw (
  a.e_says,
  a.pt_says,
  a.resend_says,
  a.red_says,
  a.codec_says,
  a.clock_says,
  a.channels_say,
  a.format_says,
) refl

pub read_ext : (words : List (List ℕ)) (ext : _) (a : AreExtWords words ext) → ext_of (a.e ∷ a.id ∷ a.uri ∷ [])
    ≡ Some (Ext ext)
unfolding ext_of
read_ext words ext a = rw (a.e_says, a.id_says, a.uri_says) refl

pub read_end : (words : List (List ℕ)) (end' : _) (a : AreEndWords words end') → end_of (a.e ∷ a.session ∷ [])
    ≡ Some (End end')
unfolding end_of
read_end words end' a = rw (a.e_says, a.session_says) refl

pub read_offer : (words : List (List ℕ)) (offer : _) (a : AreOfferWords words offer) → offer_of (a.e ∷ a.sections)
    ≡ Some (Offer offer)
unfolding offer_of
read_offer words offer a = rw (a.e_says, a.sections_say) refl

pub read_answer : (words : List (List ℕ)) (answer : _) (a : AreAnswerWords words answer)
    → answer_of (a.e ∷ a.text ∷ a.sections) ≡ Some (Answer answer)
unfolding answer_of
read_answer words answer a = rw (a.e_says, a.text_says, a.sections_say) refl

pub read_accept : (words : List (List ℕ)) (accept : _) (a : AreAcceptWords words accept)
    → accept_of (a.e ∷ a.text ∷ []) ≡ Some (Accept accept)
unfolding accept_of
read_accept words accept a = rw (a.e_says, a.text_says) refl

pub read_withdraw : (e : List ℕ) (letter : _) → letter_of e ≡ Some letter → withdraw_of (e ∷ [])
    ≡ Some (Withdraw letter)
unfolding withdraw_of
read_withdraw e letter h = rw h refl

slash_says_nothing : section_of (codes "/") ≡ None
unfolding section_of
slash_says_nothing = refl

not_true : (b : Bool) → (b ≡ true → ⊥) → b ≡ false
not_true true h = absurd (h refl)
not_true false h = refl

-- no section is a slash
no_slash : (word : List ℕ) (s : SectionWord) → section_of word ≡ Some s → bytes_eq word (codes "/") ≡ false
no_slash word s h = not_true _ (λ e. cc (sym slash_says_nothing ∙ ap section_of (sym (same word _ e)) ∙ h))

slash_read : (before after : List (List ℕ)) (sections : List SectionWord) → sections_of before ≡ Some sections
    → sections_then_slash (before ++ codes "/" ∷ after) ≡ Some (sections, after)
slash_read [] after sections h = ap (λ s. Some (s, after)) (some_is h)
slash_read (word ∷ before) after sections h =
    let s = bind_some (section_of word) _ sections h in
    let more = bind_some (sections_of before) _ sections s.2 in
    rw (no_slash word s.0 s.1, s.1, slash_read before after more.0 more.1) (ap (λ l. Some (l, after)) (some_is more.2))

pub read_connect : (words : List (List ℕ)) (connect : _) (a : AreConnectWords words connect)
    → connect_of (a.offered ++ codes "/" ∷ a.answered) ≡ Some (Connect connect)
unfolding connect_of
read_connect words connect a = rw (slash_read a.offered a.answered connect.offered a.offered_say, a.answered_say) refl

-- The lines of forwarders, read and said.
use Rattle.std.proofs.Common.{◌≡◌, ℕ, ◌^◌, List, [], ◌∷◌, Some, codes, refl, sym, ◌∙◌, ap, subst}
use Rattle.std.specs.Str.{bytes_eq}
use Rattle.rtp_media_program.specs.declared.command.Command.{Command}
use Rattle.rtp_media_program.specs.declared.command.Command.TheVariants.{Relay}
use Rattle.rtp_media_program.specs.declared.relay_words.Mark.{Mark}
use Rattle.rtp_media_program.specs.declared.relay_words.Mark.TheVariants.{Ends, Leave, Reserve}
use Rattle.rtp_media_program.specs.declared.relay_words.MarkCommand.{MarkCommand}
use Rattle.rtp_media_program.specs.declared.relay_words.RelayCommand.{RelayCommand}
use Rattle.rtp_media_program.specs.declared.relay_words.RelayCommand.TheVariants as relay
use Rattle.rtp_media_program.specs.Words.{hex_of, letter_of, number_below}
use Rattle.rtp_media_program.specs.RelayLines.{begin_of, forward_of, mark_of, relay_command_of, switch_of}
use Rattle.rtp_media_program.specs.LineForms.{command_of}
use Rattle.rtp_media_program.specs.RelayWords.{AreBeginWords, AreForwardWords, AreMarkWords, AreSwitchWords, SaysRelay}
use Rattle.rtp_media_program.specs.RelayWords.{mark_word}
use Rattle.rtp_media_program.specs.Says.{Says}
use Rattle.rtp_media_program.proofs.ReadSteps.{dispatch, ended_some, glue, read_on, same, under}

begin_says : (verb : List ℕ) (words : List (List ℕ)) (c : Command) → verb ≡ codes "forwarder" → begin_of words ≡ Some c
    → Says (verb ∷ words) c
unfolding begin_of
begin_says verb words c v h =
    read_on _ (number_below (2 ^ 64)) words _ c h (λ first_word after_first number is_first says_first left_first.
    let end = ended_some after_first _ c left_first in
    subst (Says (verb ∷ words)) end.1 (record {
      first = first_word;
      words_are = glue v (is_first ∙ under first_word end.0);
      first_says = says_first;
    }))

forward_says : (verb : List ℕ) (words : List (List ℕ)) (c : Command) → verb ≡ codes "forward" → forward_of words
    ≡ Some c → Says (verb ∷ words) c
unfolding forward_of
forward_says verb words c v h =
    read_on _ letter_of words _ c h (λ e_word after_e e is_e says_e left_e.
    read_on _ (number_below (2 ^ 64)) after_e _ c left_e
    (λ stream_word after_stream stream is_stream says_stream left_stream.
    read_on _ (number_below (2 ^ 64)) after_stream _ c left_stream
    (λ forwarder_word after_forwarder forwarder is_forwarder says_forwarder left_forwarder.
    read_on _ hex_of after_forwarder _ c left_forwarder (λ bytes_word after_bytes bytes is_bytes says_bytes left_bytes.
    let end = ended_some after_bytes _ c left_bytes in
    subst (Says (verb ∷ words)) end.1 (record {
      e = e_word;
      stream = stream_word;
      forwarder = forwarder_word;
      bytes = bytes_word;
      words_are = glue v (is_e ∙ under e_word (is_stream
          ∙ under stream_word (is_forwarder ∙ under forwarder_word (is_bytes ∙ under bytes_word end.0))));
      e_says = says_e;
      stream_says = says_stream;
      forwarder_says = says_forwarder;
      bytes_say = says_bytes;
    })))))

switch_says : (verb : List ℕ) (words : List (List ℕ)) (c : Command) → verb ≡ codes "switch" → switch_of words ≡ Some c
    → Says (verb ∷ words) c
unfolding switch_of
switch_says verb words c v h =
    read_on _ (number_below (2 ^ 64)) words _ c h
    (λ forwarder_word after_forwarder forwarder is_forwarder says_forwarder left_forwarder.
    read_on _ (number_below (2 ^ 64)) after_forwarder _ c left_forwarder
    (λ source_word after_source source is_source says_source left_source.
    read_on _ (number_below (2 ^ 64)) after_source _ c left_source
    (λ number_word after_number number is_number says_number left_number.
    read_on _ (number_below (2 ^ 32)) after_number _ c left_number
    (λ time_word after_time time is_time says_time left_time.
    read_on _ (number_below (2 ^ 32)) after_time _ c left_time (λ at_word after_at at is_at says_at left_at.
    let end = ended_some after_at _ c left_at in
    subst (Says (verb ∷ words)) end.1 (record {
      forwarder = forwarder_word;
      source = source_word;
      number = number_word;
      time = time_word;
      at = at_word;
      words_are = glue v (is_forwarder ∙ under forwarder_word (is_source
          ∙ under source_word (is_number ∙ under number_word
          (is_time ∙ under time_word (is_at ∙ under at_word end.0)))));
      forwarder_says = says_forwarder;
      source_says = says_source;
      number_says = says_number;
      time_says = says_time;
      at_says = says_at;
    }))))))

mark_says : (mark : Mark) (verb : List ℕ) (words : List (List ℕ)) (c : Command) → verb ≡ mark_word mark
    → mark_of mark words ≡ Some c → Says (verb ∷ words) c
unfolding mark_of
mark_says mark verb words c v h =
    read_on _ (number_below (2 ^ 64)) words _ c h
    (λ forwarder_word after_forwarder forwarder is_forwarder says_forwarder left_forwarder.
    read_on _ (number_below (2 ^ 64)) after_forwarder _ c left_forwarder
    (λ number_word after_number number is_number says_number left_number.
    let end = ended_some after_number _ c left_number in
    subst (Says (verb ∷ words)) end.1 (record {
      forwarder = forwarder_word;
      number = number_word;
      words_are = glue v (is_forwarder ∙ under forwarder_word (is_number ∙ under number_word end.0));
      forwarder_says = says_forwarder;
      number_says = says_number;
    })))

pub relay_says : (verb : List ℕ) (words : List (List ℕ)) (c : Command) → relay_command_of verb words ≡ Some c
    → Says (verb ∷ words) c
relay_says verb words c h =
    dispatch (bytes_eq verb (codes "forwarder")) _ _ _ _ (λ v. begin_says verb words c (same verb _ v))
    (dispatch (bytes_eq verb (codes "forward")) _ _ _ _ (λ v. forward_says verb words c (same verb _ v))
    (dispatch (bytes_eq verb (codes "switch")) _ _ _ _ (λ v. switch_says verb words c (same verb _ v))
    (dispatch (bytes_eq verb (codes "leave")) _ _ _ _ (λ v. mark_says Leave verb words c (same verb _ v))
    (dispatch (bytes_eq verb (codes "ends")) _ _ _ _ (λ v. mark_says Ends verb words c (same verb _ v))
    (dispatch (bytes_eq verb (codes "reserve")) _ _ _ _ (λ v. mark_says Reserve verb words c (same verb _ v))
    (λ none. cc none)))))) h

read_begin : (words : List (List ℕ)) (number : ℕ) (a : AreBeginWords words number)
    → begin_of (a.first ∷ []) ≡ Some (Relay (relay.Begin number))
unfolding begin_of
read_begin words number a = rw a.first_says refl

read_forward : (words : List (List ℕ)) (forward : _) (a : AreForwardWords words forward)
    → forward_of (a.e ∷ a.stream ∷ a.forwarder ∷ a.bytes ∷ []) ≡ Some (Relay (relay.Forward forward))
unfolding forward_of
read_forward words forward a = rw (a.e_says, a.stream_says, a.forwarder_says, a.bytes_say) refl

read_switch : (words : List (List ℕ)) (switch : _) (a : AreSwitchWords words switch)
    → switch_of (a.forwarder ∷ a.source ∷ a.number ∷ a.time ∷ a.at ∷ []) ≡ Some (Relay (relay.Switch switch))
unfolding switch_of
read_switch words switch a = rw (a.forwarder_says, a.source_says, a.number_says, a.time_says, a.at_says) refl

read_mark : (command : MarkCommand) (words : List (List ℕ)) (a : AreMarkWords words command)
    → mark_of command.mark (a.forwarder ∷ a.number ∷ []) ≡ Some (Relay (relay.Mark command))
unfolding mark_of
read_mark command words a = rw (a.forwarder_says, a.number_says) refl

-- by its first word
read_marked : (command : MarkCommand) (words : List (List ℕ)) (a : AreMarkWords words command) (m : Mark)
    → m ≡ command.mark → command_of (mark_word m ∷ a.forwarder ∷ a.number ∷ []) ≡ Some (Relay (relay.Mark command))
read_marked command words a Leave e =
    ap (λ (m : Mark). mark_of m (a.forwarder ∷ a.number ∷ [])) e ∙ read_mark command words a
read_marked command words a Ends e =
    ap (λ (m : Mark). mark_of m (a.forwarder ∷ a.number ∷ [])) e ∙ read_mark command words a
read_marked command words a Reserve e =
    ap (λ (m : Mark). mark_of m (a.forwarder ∷ a.number ∷ [])) e ∙ read_mark command words a

abbrev Reads : RelayCommand → List (List ℕ) → Type 0
Reads c words = command_of words ≡ Some (Relay c)

pub read_relay : (words : List (List ℕ)) (c : RelayCommand) → SaysRelay words c → command_of words ≡ Some (Relay c)
read_relay words (relay.Begin number) a =
    subst (Reads (relay.Begin number)) (sym a.words_are) (read_begin words number a)
read_relay words (relay.Forward forward) a =
    subst (Reads (relay.Forward forward)) (sym a.words_are) (read_forward words forward a)
read_relay words (relay.Switch switch) a =
    subst (Reads (relay.Switch switch)) (sym a.words_are) (read_switch words switch a)
read_relay words (relay.Mark command) a =
    subst (Reads (relay.Mark command)) (sym a.words_are) (read_marked command words a command.mark refl)

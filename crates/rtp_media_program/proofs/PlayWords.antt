-- The lines of whole runs, read and said.
use Rattle.std.proofs.Common.{◌≡◌, ℕ, ◌^◌, List, [], ◌∷◌, Some, codes, refl, ◌∙◌, subst}
use Rattle.std.specs.Str.{bytes_eq}
use Rattle.rtp_media_program.specs.declared.command.Command.{Command}
use Rattle.rtp_media_program.specs.declared.command.Command.TheVariants.{Queue, Play}
use Rattle.rtp_media_program.specs.Words.{hex_of, number_below}
use Rattle.rtp_media_program.specs.PlayLines.{items_of, play_of, queue_of}
use Rattle.rtp_media_program.specs.LineForms.{run_command_of}
use Rattle.rtp_media_program.specs.Says.{ArePlayWords, AreQueueWords, Says}
use Rattle.rtp_media_program.proofs.RelayWords.{relay_says}
use Rattle.rtp_media_program.proofs.ReadSteps.{bind_some, dispatch, ended_some, glue, read_on, same, under}

some_is : {A : Type 0} {x y : A} → Some x ≡ Some y → x ≡ y
some_is h = cc h

queue_says : (verb : List ℕ) (words : List (List ℕ)) (c : Command) → verb ≡ codes "queue" → queue_of words ≡ Some c
    → Says (verb ∷ words) c
unfolding queue_of
queue_says verb words c v h =
    read_on _ (number_below (2 ^ 64)) words _ c h (λ time_word after_time time is_time says_time left_time.
    read_on _ hex_of after_time _ c left_time (λ bytes_word after_bytes bytes is_bytes says_bytes left_bytes.
    let end = ended_some after_bytes _ c left_bytes in
    subst (Says (verb ∷ words)) end.1 (record {
      time = time_word;
      bytes = bytes_word;
      words_are = glue v (is_time ∙ under time_word (is_bytes ∙ under bytes_word end.0));
      time_says = says_time;
      bytes_say = says_bytes;
    })))

play_says : (verb : List ℕ) (words : List (List ℕ)) (c : Command) → verb ≡ codes "play" → play_of words ≡ Some c
    → Says (verb ∷ words) c
unfolding play_of
play_says verb words c v h =
    read_on _ (number_below (2 ^ 64)) words _ c h (λ tx_word after_tx tx is_tx says_tx left_tx.
    read_on _ (number_below (2 ^ 64)) after_tx _ c left_tx (λ rx_word after_rx rx is_rx says_rx left_rx.
    let items = bind_some (items_of after_rx) _ c left_rx in
    subst (Says (verb ∷ words)) (some_is items.2) (record {
      tx = tx_word;
      rx = rx_word;
      items = after_rx;
      words_are = glue v (is_tx ∙ under tx_word is_rx);
      tx_says = says_tx;
      rx_says = says_rx;
      items_say = items.1;
    })))

pub run_says : (verb : List ℕ) (words : List (List ℕ)) (c : Command) → run_command_of verb words ≡ Some c
    → Says (verb ∷ words) c
run_says verb words c h =
    dispatch (bytes_eq verb (codes "queue")) _ _ _ _ (λ v. queue_says verb words c (same verb _ v))
    (dispatch (bytes_eq verb (codes "play")) _ _ _ _ (λ v. play_says verb words c (same verb _ v))
    (relay_says verb words c)) h

pub read_queue : (words : List (List ℕ)) (queue : _) (a : AreQueueWords words queue)
    → queue_of (a.time ∷ a.bytes ∷ []) ≡ Some (Queue queue)
unfolding queue_of
read_queue words queue a = rw (a.time_says, a.bytes_say) refl

pub read_play : (words : List (List ℕ)) (play : _) (a : ArePlayWords words play)
    → play_of (a.tx ∷ a.rx ∷ a.items) ≡ Some (Play play)
unfolding play_of
read_play words play a = rw (a.tx_says, a.rx_says, a.items_say) refl

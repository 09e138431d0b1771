-- What a pushed sample becomes.
use Rattle.std.specs.Prelude.{◌≡◌, ◌≢◌, ℕ, List, Option, Some, None, Result, Ok, Err, Vec}
use Rattle.std.specs.Global.{Global}
use Rattle.rtp_wire.specs.Time.{Time}
use Rattle.rtp_wire.specs.declared.values.ExtensionValues.{ExtensionValues}
use Rattle.rtp_media_streams.specs.Sending.{HasFailed, Sending, after_sample, refusal_of_sample, sent_datagrams}
use Rattle.rtp_media_streams.specs.declared.errors.SampleError.{SampleError}
use Rattle.rtp_media_streams.specs.declared.errors.SampleError.TheVariants.{Memory}

-- A sample pushed in a state: why it is refused, if it is, lack of memory aside; otherwise its datagrams and the state
-- after it; and the states possible if memory runs out.
pub record SendStep (S : Type 0) : Type 1 where
  pub before : S
  pub refusal : Option SampleError
  pub datagrams : List (List ℕ)
  pub next : S
  pub Stopped : S → Type 0

-- The datagrams of a sample, or why there are none.
abbrev pub SendResult : Type 0
SendResult = Result (List (List ℕ)) SampleError

-- The datagrams that a call returns, and those that it leaves in a list.
abbrev pub returned : Result (Vec (List ℕ) Global) SampleError → SendResult
returned (Ok datagrams) = Ok datagrams.items
returned (Err e) = Err e

abbrev pub left_in : {A : Type 0} → List (List ℕ) → Result A SampleError → SendResult
left_in datagrams (Ok done) = Ok datagrams
left_in datagrams (Err e) = Err e

-- The result and the state after it are those of the step; a refusal changes nothing.
abbrev pub SendsBy : {S : Type 0} → SendStep S → S → SendResult → Type 0
SendsBy step after (Ok datagrams) = (step.refusal ≡ None) × (datagrams ≡ step.datagrams) × (after ≡ step.next)
SendsBy step after (Err e) =
    (e ≢ Memory → (step.refusal ≡ Some e) × (after ≡ step.before)) × (e ≡ Memory → step.Stopped after)

-- A sample pushed at a sending stream, with its time and its header extension values.
abbrev pub send_step : Sending → Time → ExtensionValues → List ℕ → SendStep Sending
send_step s time values bytes = record {
  before = s;
  refusal = refusal_of_sample s time values bytes;
  datagrams = sent_datagrams s time values bytes;
  next = after_sample s time values bytes;
  Stopped = HasFailed s;
}

-- What is sent on, header extension values aside.
use Rattle.std.proofs.Common.{◌≡◌, ℕ, refl, ap, subst, inl, inr, List, [], ◌∷◌, ◌++◌, map}
use Rattle.std.specs.Prelude.{Option, Some, None}
use Rattle.rtp_wire.specs.Values.{absent}
use Rattle.rtp_wire.specs.declared.values.ExtensionValues.{ExtensionValues}
use Rattle.rtp_media_schedules.specs.Bare.{bare}
use Rattle.rtp_media_schedules.specs.Hearing.{Content, content_of}
use Rattle.rtp_media_forward.specs.Forwarding.{Forwarding, after_packet}
use Rattle.rtp_media_forward.specs.Relayed.{Part}
use Rattle.rtp_media_forward.specs.Relaying.{Packet, Sent, bare_sent, bare_senders, no_values, number_of, numbers_of}
use Rattle.rtp_media_forward.specs.Relaying.{place_of, sent_by, sent_on}
use Rattle.rtp_media_forward.specs.Steps.{Come, Empty, EndAt, IsRun, Reserve, SkipTo, Step, Switch, after_step}
use Rattle.rtp_media_forward.specs.Steps.{numbers_in}
use Rattle.rtp_media_forward.specs.Steps.{sent_in}
use Rattle.rtp_media_forward.specs.declared.forwarder.Placed.{Placed}

-- one datagram
one-aside : (values : ExtensionValues → ExtensionValues) (c : Content) (o : Option Placed) (rs qs : List Sent)
    → map bare_sent rs ≡ qs → map bare_sent (sent_by values o c ++ rs) ≡ sent_by no_values o (bare c) ++ qs
one-aside values c None rs qs ih = ih
one-aside values c (Some at) rs qs ih =
    ap (λ (xs : List Sent). record { number = at.number; content = content_of at.time c.marker absent c.bytes } ∷ xs) ih

module _ (values : ExtensionValues → ExtensionValues) (senders : ℕ → ℕ → Content) where
  pub sent-aside : (came : List Packet) (f : Forwarding)
      → map bare_sent (sent_on values senders f came) ≡ sent_on no_values (bare_senders senders) f came
  sent-aside [] f = refl
  sent-aside (p ∷ ps) f =
      one-aside values (senders p.source p.number) (place_of senders f p) _ _
      (sent-aside ps (after_packet f (place_of senders f p) p.ends))

  pub numbers-aside : (came : List Packet) (f : Forwarding)
      → numbers_of (bare_senders senders) f came ≡ numbers_of senders f came
  numbers-aside [] f = refl
  numbers-aside (p ∷ ps) f =
      ap (λ (ns : List ℕ). number_of (place_of senders f p) ++ ns)
      (numbers-aside ps (after_packet f (place_of senders f p) p.ends))

  -- a whole run
  pub run-sent-aside : (xs : List Step) (f : Forwarding)
      → map bare_sent (sent_in values senders f xs) ≡ sent_in no_values (bare_senders senders) f xs
  run-sent-aside [] f = refl
  run-sent-aside (Come p ∷ xs) f =
      one-aside values (senders p.source p.number) (place_of senders f p) _ _
      (run-sent-aside xs (after_step senders f (Come p)))
  run-sent-aside (Switch source number time at ∷ xs) f =
      run-sent-aside xs (after_step senders f (Switch source number time at))
  run-sent-aside (SkipTo number ∷ xs) f = run-sent-aside xs (after_step senders f (SkipTo number))
  run-sent-aside (Empty source number ∷ xs) f = run-sent-aside xs (after_step senders f (Empty source number))
  run-sent-aside (EndAt number ∷ xs) f = run-sent-aside xs (after_step senders f (EndAt number))
  run-sent-aside (Reserve count ∷ xs) f = run-sent-aside xs (after_step senders f (Reserve count))

  pub run-numbers-aside : (xs : List Step) (f : Forwarding)
      → numbers_in (bare_senders senders) f xs ≡ numbers_in senders f xs
  run-numbers-aside [] f = refl
  run-numbers-aside (Come p ∷ xs) f =
      ap (λ (ns : List ℕ). number_of (place_of senders f p) ++ ns)
      (run-numbers-aside xs (after_step senders f (Come p)))
  run-numbers-aside (Switch source number time at ∷ xs) f =
      run-numbers-aside xs (after_step senders f (Switch source number time at))
  run-numbers-aside (SkipTo number ∷ xs) f = run-numbers-aside xs (after_step senders f (SkipTo number))
  run-numbers-aside (Empty source number ∷ xs) f = run-numbers-aside xs (after_step senders f (Empty source number))
  run-numbers-aside (EndAt number ∷ xs) f = run-numbers-aside xs (after_step senders f (EndAt number))
  run-numbers-aside (Reserve count ∷ xs) f = run-numbers-aside xs (after_step senders f (Reserve count))

  after-aside : (f : Forwarding) (x : Step) → after_step senders f x ≡ after_step (bare_senders senders) f x
  after-aside f (Come p) = refl
  after-aside f (Switch source number time at) = refl
  after-aside f (SkipTo number) = refl
  after-aside f (Empty source number) = refl
  after-aside f (EndAt number) = refl
  after-aside f (Reserve count) = refl

  pub run-aside : (first : ℕ) (xs : List Step) (begun later : List Part) (f : Forwarding)
      → IsRun senders first begun f later xs → IsRun (bare_senders senders) first begun f later xs
  run-aside first [] begun later f is = tt
  run-aside first (x ∷ xs) begun [] f is = (
    is.0,
    subst (λ (g : Forwarding). IsRun (bare_senders senders) first begun g [] xs) (after-aside f x)
        (run-aside first xs begun [] (after_step senders f x) is.1),
  )
  run-aside first (x ∷ xs) begun (q ∷ later) f (inl is) = inl (
    is.0,
    subst (λ (g : Forwarding). IsRun (bare_senders senders) first begun g (q ∷ later) xs) (after-aside f x)
        (run-aside first xs begun (q ∷ later) (after_step senders f x) is.1),
  )
  run-aside first (x ∷ xs) begun (q ∷ later) f (inr is) = inr (
    is.0,
    is.1,
    subst (λ (g : Forwarding). IsRun (bare_senders senders) first (begun ++ q ∷ []) g later xs) (after-aside f x)
        (run-aside first xs (begun ++ q ∷ []) later (after_step senders f x) is.2),
  )

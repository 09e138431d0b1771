-- What a sink that sends RED payloads takes.
use Rattle.std.specs.Prelude.{◌≡◌, ℕ, ◌⊎◌, ◌++◌, ◌∷◌, [], List}
use Rattle.std.proofs.Common.{ap, inl, inr}
use Rattle.payload_core_base.specs.Outgoing.{Outgoing, outgoing}
use Rattle.payload_core_audio.specs.RedHistory.{keeping}
use Rattle.payload_core_audio.specs.RedWrapping.{IsWrap}
use Rattle.payload_core_audio.specs.declared.sink.RedSink.{RedSink}

-- The inner sink took one payload: this payload, wrapped, with its marker bit, timestamp and header extensions; and the
-- sender keeps the payload.
pub record TakesWrapped {S : Type 0} (takes : S → Outgoing → S → Type 0) (old : RedSink S) (o : Outgoing)
    (new : RedSink S) : Type 0 where
  pub sent : List ℕ
  pub is_wrap : IsWrap old.sender old.pt o.payload o.time old.budget sent
  pub taken : takes old.sink (outgoing sent o.marker o.time o.values) new.sink
  pub sender : new.sender ≡ keeping old.sender old.pt o.payload o.time
  pub pt : new.pt ≡ old.pt
  pub budget : new.budget ≡ old.budget

-- The inner sink took nothing, and the sender didn't change.
pub record KeepsWrapped {S : Type 0} (keeps : S → S → Type 0) (old new : RedSink S) : Type 0 where
  pub sink : (new.sink ≡ old.sink) ⊎ keeps old.sink new.sink
  pub sender : new.sender ≡ old.sender
  pub pt : new.pt ≡ old.pt
  pub budget : new.budget ≡ old.budget

-- The inner sink's entry for the wrapped payload.
pub record BecomesWrapped {S E : Type 0} (becomes : S → Outgoing → E → Type 0) (old : RedSink S) (o : Outgoing) (e : E)
    : Type 0 where
  pub sent : List ℕ
  pub is_wrap : IsWrap old.sender old.pt o.payload o.time old.budget sent
  pub becomes_it : becomes old.sink (outgoing sent o.marker o.time o.values) e

-- If the inner sink has one entry more, so has this one; if not, neither has this one.
pub wrapped_more : {S E : Type 0} (entries : S → List E) (becomes : S → Outgoing → E → Type 0)
    (takes : S → Outgoing → S → Type 0)
    → ((old : S) (o : Outgoing) (new : S) → takes old o new → (e : E) × becomes old o e
    × (entries new ≡ entries old ++ e ∷ []))
    → (old : RedSink S) (o : Outgoing) (new : RedSink S) → TakesWrapped takes old o new
    → (e : E) × BecomesWrapped becomes old o e × (entries new.sink ≡ entries old.sink ++ e ∷ [])
wrapped_more entries becomes takes one_more old o new taken =
    let inner = one_more old.sink (outgoing taken.sent o.marker o.time o.values) new.sink taken.taken in
    (inner.0, record { sent = taken.sent; is_wrap = taken.is_wrap; becomes_it = inner.1 }, inner.2)

kept_either : {S E : Type 0} (entries : S → List E) (keeps : S → S → Type 0)
    → ((old new : S) → keeps old new → entries new ≡ entries old) → (old new : S) → (new ≡ old) ⊎ keeps old new
    → entries new ≡ entries old
kept_either entries keeps none_more old new (inl same) = ap entries same
kept_either entries keeps none_more old new (inr kept) = none_more old new kept

pub wrapped_none : {S E : Type 0} (entries : S → List E) (keeps : S → S → Type 0)
    → ((old new : S) → keeps old new → entries new ≡ entries old) → (old new : RedSink S) → KeepsWrapped keeps old new
    → entries new.sink ≡ entries old.sink
wrapped_none entries keeps none_more old new kept =
    kept_either entries keeps none_more old.sink new.sink kept.sink

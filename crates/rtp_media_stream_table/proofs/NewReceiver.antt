-- A receiving stream as an end opens it: what has its SSRC and one of its types is its own from then on.
use Rattle.std.proofs.Common.{◌≡◌, ℕ, ◌+◌, refl, sym, ◌∙◌, ap, ap₂, arith, Bool, true, false, ◌&&◌, ◌||◌}
use Rattle.std.proofs.Common.{List, [], ◌∷◌, ◌++◌, length, length-append, true≢false}
use Rattle.std.proofs.lemmas.Bool.Decides.{nat_tests}
use Rattle.std.specs.Prelude.{◌==◌, not, nat_lt, Option, Some, None, if◌then◌else◌}
use Rattle.std.specs.List.{list_any, position_or_len}
use Rattle.rtp_media_streams.specs.Receiving.{Receiving, conflicts_with, is_own}
use Rattle.rtp_media_streams.specs.Types.{has_red_key, has_repair_key, has_type, is_key_of, is_plain_key}
use Rattle.rtp_media_streams.specs.Types.{is_repair_key, is_type, share_key}
use Rattle.rtp_media_streams.specs.declared.types.RepairKey.{RepairKey}
use Rattle.rtp_media_streams.specs.declared.types.PayloadTypes.{PayloadTypes}
use Rattle.rtp_media_stream_table.specs.Arrivals.{stream_for, takes}
use Rattle.rtp_media_stream_table.specs.declared.open_stream.OpenStream.{OpenStream}
use Rattle.rtp_media_stream_table.specs.declared.open_stream.OpenStream.TheVariants.{Closed, Sender, Receiver}
use Rattle.rtp_media_stream_table.specs.Streams.{receives_as}

eqb-is : (a b : ℕ) → (a == b) ≡ true → a ≡ b
eqb-is a b h = grind (arith, nat_tests)

or-left : (a b : Bool) → a ≡ true → (a || b) ≡ true
or-left true b h = refl
or-left false b h = absurd (true≢false (sym h))

or-right : (a b : Bool) → b ≡ true → (a || b) ≡ true
or-right true b h = refl
or-right false b h = h

and-left : (a b : Bool) → (a && b) ≡ true → a ≡ true
and-left true b h = refl
and-left false b h = h

and-right : (a b : Bool) → (a && b) ≡ true → b ≡ true
and-right true b h = h
and-right false b h = absurd (true≢false (sym h))

-- a stream that has one of these keys shares one with them
module _ (own : ℕ) (types : PayloadTypes) (ssrc : ℕ) (others : PayloadTypes) (s p : ℕ)
    (has : is_key_of own types s p ≡ true) where
  by-repair : (repair : Option RepairKey) → is_repair_key repair s p ≡ true → has_repair_key own types repair ≡ true
  by-repair None h = absurd (true≢false (sym h))
  by-repair (Some key) h =
      ap₂ (λ (a b : ℕ). is_key_of own types a b) (eqb-is key.ssrc s (and-left (key.ssrc == s) (key.pt == p) h))
      (eqb-is key.pt p (and-right (key.ssrc == s) (key.pt == p) h)) ∙ has

  by-red : (red : Option ℕ) → ssrc ≡ s → is_type red p ≡ true → has_red_key own types ssrc red ≡ true
  by-red None at h = absurd (true≢false (sym h))
  by-red (Some red) at h = ap₂ (λ (a b : ℕ). is_key_of own types a b) at (eqb-is red p h) ∙ has

  by-type : (b : Bool) → ssrc ≡ s → (others.pt == p) ≡ b → (b || is_type others.red p) ≡ true
      → share_key own types ssrc others ≡ true
  by-type true at e h =
      or-left (is_key_of own types ssrc others.pt)
      (has_red_key own types ssrc others.red || has_repair_key own types others.repair)
      (ap₂ (λ (a b : ℕ). is_key_of own types a b) at (eqb-is others.pt p e) ∙ has)
  by-type false at e h =
      or-right (is_key_of own types ssrc others.pt)
      (has_red_key own types ssrc others.red || has_repair_key own types others.repair)
      (or-left (has_red_key own types ssrc others.red) (has_repair_key own types others.repair)
      (by-red others.red at h))

  by-key : (b : Bool) → is_plain_key ssrc others s p ≡ b → (b || is_repair_key others.repair s p) ≡ true
      → share_key own types ssrc others ≡ true
  by-key true e h =
      by-type (others.pt == p) (eqb-is ssrc s (and-left (ssrc == s) (has_type others p) e)) refl
      (and-right (ssrc == s) (has_type others p) e)
  by-key false e h =
      or-right (is_key_of own types ssrc others.pt)
      (has_red_key own types ssrc others.red || has_repair_key own types others.repair)
      (or-right (has_red_key own types ssrc others.red) (has_repair_key own types others.repair)
      (by-repair others.repair h))

  pub shares : is_key_of ssrc others s p ≡ true → share_key own types ssrc others ≡ true
  shares among = by-key (is_plain_key ssrc others s p) refl among

-- a stream that could take no datagram of these keys takes none
not-own : (r : Receiving) (ssrc : ℕ) (types : PayloadTypes) (s p : ℕ) → is_key_of ssrc types s p ≡ true
    → conflicts_with r ssrc types ≡ false → is_own r s p ≡ false
not-own r ssrc types s p among none = by (is_own r s p) refl where
  by : (b : Bool) → is_own r s p ≡ b → is_own r s p ≡ false
  by true e = absurd (true≢false (sym (shares r.ssrc r.types ssrc types s p e among) ∙ none))
  by false e = e

pub not-taken : (x : OpenStream) (ssrc : ℕ) (types : PayloadTypes) (s p : ℕ) → is_key_of ssrc types s p ≡ true
    → receives_as ssrc types x ≡ false → takes s p x ≡ false
not-taken (Sender t) ssrc types s p among none = refl
not-taken Closed ssrc types s p among none = refl
not-taken (Receiver r) ssrc types s p among none = not-own r ssrc types s p among none

-- after streams that don't, it is the first that does
first-own : (ss : List OpenStream) (x : OpenStream) (ssrc : ℕ) (types : PayloadTypes) (s p : ℕ)
    → is_key_of ssrc types s p ≡ true → list_any (receives_as ssrc types) ss ≡ false → takes s p x ≡ true
    → position_or_len (takes s p) (ss ++ x ∷ []) ≡ length ss
first-own [] x ssrc types s p among none own = ap (λ (b : Bool). if not b then 1 + 0 else 0) own
first-own (r ∷ rs) x ssrc types s p among none own =
    ap (λ (b : Bool). if not b then 1 + position_or_len (takes s p) (rs ++ x ∷ []) else 0)
    (not-taken r ssrc types s p among
    (left (receives_as ssrc types r) (list_any (receives_as ssrc types) rs) none))
    ∙ step (first-own rs x ssrc types s p among
    (right (receives_as ssrc types r) (list_any (receives_as ssrc types) rs) none) own)
  where
    left : (a b : Bool) → (a || b) ≡ false → a ≡ false
    left true b h = absurd (true≢false h)
    left false b h = refl

    right : (a b : Bool) → (a || b) ≡ false → b ≡ false
    right true b h = absurd (true≢false h)
    right false b h = h

    step : {n : ℕ} → n ≡ length rs → 1 + n ≡ length (r ∷ rs)
    step h = omega (arith, h)

lt-push : (rs : List OpenStream) (x : OpenStream) → nat_lt (length rs) (length (rs ++ x ∷ [])) ≡ true
lt-push rs x = let more : length (rs ++ x ∷ []) ≡ length rs + 1 = length-append rs (x ∷ []) in grind
    (arith, nat_tests, more)

-- it is found if none of the others could take its datagrams
pub found-new : (ss : List OpenStream) (x : Receiving)
    → list_any (receives_as x.ssrc x.types) ss ≡ false → (s p : ℕ) → is_key_of x.ssrc x.types s p ≡ true
    → stream_for (ss ++ Receiver x ∷ []) s p ≡ Some (length ss)
found-new ss x none s p has =
    let place : position_or_len (takes s p) (ss ++ Receiver x ∷ []) ≡ length ss =
    first-own ss (Receiver x) x.ssrc x.types s p has none has in
    ap (λ (n : ℕ). if nat_lt n (length (ss ++ Receiver x ∷ [])) then Some n else None) place
    ∙ ap (λ (b : Bool). if b then Some (length ss) else None) (lt-push ss (Receiver x))

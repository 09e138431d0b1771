-- Why calls are refused.
use Rattle.std.proofs.Common.{◌≡◌, ◌∙◌, ap, inl, inr, refl, subst, sym, ℕ, false, List, Option, None, Some, Err}
use Rattle.sdp_formats_data.specs.declared.session.Sdp.{Sdp}
use Rattle.sdp_formats_values.specs.declared.setup.Setup.{Setup}
use Rattle.rtp_media_browsers.specs.Calls.{HasTransport, IsRefused, HasNoTransport, told_places}
use Rattle.rtp_media_browsers.specs.Fit.{settled}
use Rattle.rtp_media_browsers.specs.ForBrowsers.{for_browser}
use Rattle.rtp_media_browsers.specs.Identities.{said_of, told_text}
use Rattle.rtp_media_browsers.specs.Reading.{IsUnread, IsUnwritten, IsWritten, SaysWhole}
use Rattle.rtp_media_browsers.specs.Refusals.{Checks, browser_refusal}
use Rattle.rtp_media_browsers.specs.declared.error.BrowserError.{BrowserError}
use Rattle.rtp_media_browsers.specs.declared.error.BrowserError.TheVariants as error
use Rattle.rtp_media_browsers.specs.declared.identity.Said.{Said}
use Rattle.rtp_media_browsers.specs.declared.state.Place.{Place}
use Rattle.rtp_media_browsers.specs.declared.state.BrowserState.{BrowserState}
use Rattle.rtp_media_browsers.specs.declared.transport.Transport.{Transport}

module _ (text : List ℕ) (f : Sdp → Option BrowserError) where
  pub unread : (e : BrowserError) → IsUnread text e → IsRefused text f e
  unread e is = inl is

  pub want_of_memory : (e : BrowserError) → e ≡ error.Memory → IsRefused text f e
  want_of_memory e is = inl (subst (IsUnread text) (sym is) tt)

  pub tested : (sdp : Sdp) (e : BrowserError) → SaysWhole text sdp → Checks {A = Unit {0}} (f sdp) (Err e)
      → IsRefused text f e
  tested sdp error.Memory whole h = inl tt
  tested sdp error.Unreadable whole h = inr (sdp, (whole, h))
  tested sdp error.RestUnread whole h = inr (sdp, (whole, h))
  tested sdp (error.MidNotKept m) whole h = inr (sdp, (whole, h))
  tested sdp error.MidTwice whole h = inr (sdp, (whole, h))
  tested sdp error.NotCorresponding whole h = inr (sdp, (whole, h))
  tested sdp (error.Rejected m) whole h = inr (sdp, (whole, h))
  tested sdp error.SeveralBundles whole h = inr (sdp, (whole, h))
  tested sdp (error.OutsideBundle m) whole h = inr (sdp, (whole, h))
  tested sdp error.NothingLeft whole h = inr (sdp, (whole, h))
  tested sdp (error.KeysAlone m) whole h = inr (sdp, (whole, h))
  tested sdp error.UfragNotFit whole h = inr (sdp, (whole, h))
  tested sdp error.PasswordNotFit whole h = inr (sdp, (whole, h))
  tested sdp error.SetupNotFit whole h = inr (sdp, (whole, h))
  tested sdp error.NotWritable whole h = inr (sdp, (whole, h))

module _ (text : List ℕ) (state : BrowserState) (t : Transport) where
  pub own_refused : (e : BrowserError) → IsRefused text (browser_refusal state t) e → HasNoTransport text state t e
  own_refused e is = inl is

  pub own_unread : (e : BrowserError) → IsUnread text e → HasNoTransport text state t e
  own_unread e is = inl (unread text (browser_refusal state t) e is)

  pub own_want : (e : BrowserError) → e ≡ error.Memory → HasNoTransport text state t e
  own_want e is = inl (want_of_memory text (browser_refusal state t) e is)

  pub own_tested : (sdp : Sdp) (e : BrowserError) → SaysWhole text sdp
      → Checks {A = Unit {0}} (browser_refusal state t sdp) (Err e) → HasNoTransport text state t e
  own_tested sdp e whole h = inl (tested text (browser_refusal state t) sdp e whole h)

  pub own_unwritten : (sdp : Sdp) (e : BrowserError) → SaysWhole text sdp → browser_refusal state t sdp ≡ None
      → IsUnwritten (told_text state.identity state.said (for_browser state t sdp)) (for_browser state t sdp) e
      → HasNoTransport text state t e
  own_unwritten sdp error.Memory whole passes h = inl (inl tt)
  own_unwritten sdp error.NotWritable whole passes h = inr (refl, (sdp, (whole, passes, h)))
  own_unwritten sdp error.Unreadable whole passes h = absurd h
  own_unwritten sdp error.RestUnread whole passes h = absurd h
  own_unwritten sdp (error.MidNotKept m) whole passes h = absurd h
  own_unwritten sdp error.MidTwice whole passes h = absurd h
  own_unwritten sdp error.NotCorresponding whole passes h = absurd h
  own_unwritten sdp (error.Rejected m) whole passes h = absurd h
  own_unwritten sdp error.SeveralBundles whole passes h = absurd h
  own_unwritten sdp (error.OutsideBundle m) whole passes h = absurd h
  own_unwritten sdp error.NothingLeft whole passes h = absurd h
  own_unwritten sdp (error.KeysAlone m) whole passes h = absurd h
  own_unwritten sdp error.UfragNotFit whole passes h = absurd h
  own_unwritten sdp error.PasswordNotFit whole passes h = absurd h
  own_unwritten sdp error.SetupNotFit whole passes h = absurd h

  pub own_unwritten_by : (sdp d : Sdp) (e : BrowserError) → SaysWhole text sdp → browser_refusal state t sdp ≡ None
      → d ≡ for_browser state t sdp → IsUnwritten (told_text state.identity state.said d) d e
      → HasNoTransport text state t e
  own_unwritten_by sdp d e whole passes is h =
      own_unwritten sdp e whole passes (subst (λ (x : Sdp). IsUnwritten (told_text state.identity state.said x) x e) is
      h)

  -- what a browser gets
  pub has_transport : (sdp d : Sdp) (places : List Place) (setup : Option Setup) (out : List ℕ) (said : Said)
      → SaysWhole text sdp
      → browser_refusal state t sdp ≡ None → d ≡ for_browser state t sdp
      → IsWritten (told_text state.identity state.said d) d out → said ≡ said_of state.identity state.said d
      → places ≡ told_places state → setup ≡ settled state.setup t.setup
      → HasTransport text state t
      (record state { places = places; setup = setup; is_answering = false; said = Some said }) out
  has_transport sdp d places setup out said whole passes is written remembered told role = record {
    sdp = sdp;
    says = whole;
    passes = passes;
    settles = λ i. record state {
      places = told i;
      setup = role i;
      is_answering = false;
      said = Some ((remembered ∙ ap (said_of state.identity state.said) is) i);
    };
    with_transport = written.0 ∙ ap (told_text state.identity state.said) is;
    read = subst (SaysWhole out) is written.1;
  }

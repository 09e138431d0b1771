-- Why there are no requests.
use Rattle.std.proofs.Common.{◌≡◌, inl, inr, subst, sym, ℕ, List, Some}
use Rattle.sdp_formats_data.specs.declared.session.Sdp.{Sdp}
use Rattle.rtp_media_browsers.specs.Asking.{IsRefusedRequest, IsUnreadOffer, request_refusal}
use Rattle.rtp_media_browsers.specs.Reading.{IsUnread, SaysWhole}
use Rattle.rtp_media_browsers.specs.declared.asking.NamedRequest.{NamedRequest}
use Rattle.rtp_media_browsers.specs.declared.asking.RequestError.{RequestError}
use Rattle.rtp_media_browsers.specs.declared.asking.RequestError.TheVariants.{Text}
use Rattle.rtp_media_browsers.specs.declared.error.BrowserError.{BrowserError}
use Rattle.rtp_media_browsers.specs.declared.error.BrowserError.TheVariants.{Memory}

module _ (text : List ℕ) (asked : List NamedRequest) where
  pub unread_request : (e : RequestError) (b : BrowserError) → e ≡ Text b → IsUnread text b
      → IsRefusedRequest text asked e
  unread_request e b is unread = inl (subst (IsUnreadOffer text) (sym is) unread)

  pub want_of_request : (e : RequestError) → e ≡ Text Memory → IsRefusedRequest text asked e
  want_of_request e is = inl (subst (IsUnreadOffer text) (sym is) tt)

  pub refused_request : (sdp : Sdp) (e : RequestError) → SaysWhole text sdp → request_refusal asked sdp ≡ Some e
      → IsRefusedRequest text asked e
  refused_request sdp e whole is = inr (sdp, (whole, is))

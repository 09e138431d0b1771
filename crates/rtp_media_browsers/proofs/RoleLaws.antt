-- Where values are told, and who opens the connection.
use Rattle.std.proofs.Common.{◌≡◌, ◌∙◌, ap, refl, subst, ℕ, Bool, true, false, List, [], ◌∷◌}
use Rattle.std.proofs.Common.{inl, inr}
use Rattle.std.specs.Prelude.{◌≢◌, ◌⊎◌, Option, None, Some}
use Rattle.std.specs.Option.{option_map, option_or}
use mathlib.Core.Bool.{false≢true}
use Rattle.sdp_formats_data.specs.ListedCandidates.{section_candidates, session_candidates}
use Rattle.sdp_formats_data.specs.Lookups.{first_of, setup_in}
use Rattle.sdp_formats_data.specs.Preference.{IsPreferred}
use Rattle.sdp_formats_data.specs.Sections as sections
use Rattle.sdp_formats_data.specs.Sessions as sessions
use Rattle.sdp_formats_data.specs.Transport.{section_prints, session_prints}
use Rattle.sdp_formats_data.specs.declared.media.MediaLine.{MediaLine}
use Rattle.sdp_formats_data.specs.declared.session.Session.{Session}
use Rattle.sdp_formats_values.specs.declared.candidate.Candidate.{Candidate}
use Rattle.sdp_formats_values.specs.declared.fingerprint.Fingerprint.{Fingerprint}
use Rattle.sdp_formats_values.specs.declared.setup.Setup.{Setup}
use Rattle.sdp_formats_values.specs.declared.setup.Setup.TheVariants.{ActPass, Active, Passive}
use Rattle.rtp_media_browsers.specs.Fit.{may_say}
use Rattle.rtp_media_browsers.specs.Remotes.{Tells, creds_with, else_of}
use Rattle.rtp_media_browsers.specs.StandardLaws.{RolesFit, TellsByLevels}
use Rattle.rtp_media_browsers.specs.declared.state.Remote.{Remote}

else_own : {A : Type 0} (xs ys : List A) → xs ≢ [] → else_of xs ys ≡ xs
else_own [] ys some = absurd (some refl)
else_own (x ∷ xs) ys some = refl

module _ (s : Session) (m : MediaLine) (remote : Remote) (tells : Tells s m remote) where
  creds_by : (own : Option (List ℕ × List ℕ)) → sections.creds_of m.attrs ≡ own
      → remote.creds ≡ option_map creds_with (option_or own (sessions.creds_of s.attrs))
  creds_by own is = tells.creds ∙ ap (λ (o : Option (List ℕ × List ℕ)).
      option_map creds_with (option_or o (sessions.creds_of s.attrs))) is

  setup_by : (own : Option Setup) → first_of setup_in m.attrs ≡ own
      → remote.setup ≡ option_or own (first_of sessions.setup_in s.attrs)
  setup_by own is = tells.setup ∙ ap (λ (o : Option Setup). option_or o (first_of sessions.setup_in s.attrs)) is

pub tells_by_levels : TellsByLevels
tells_by_levels s m remote tells = record {
  creds = record {
    own = λ ufrag pass own. creds_by s m remote tells (Some (ufrag, pass)) own;
    shared = λ ufrag pass own shared. creds_by s m remote tells None own ∙ ap (option_map creds_with) shared;
    neither = λ own shared. creds_by s m remote tells None own ∙ ap (option_map creds_with) shared;
  };
  setup = record {
    own = λ setup own. setup_by s m remote tells (Some setup) own;
    shared = λ own. setup_by s m remote tells None own;
  };
  candidates = record {
    own = λ some. tells.candidates ∙ else_own (section_candidates m) (session_candidates s) some;
    shared = λ none. tells.candidates ∙ ap (λ (xs : List Candidate). else_of xs (session_candidates s)) none;
  };
  fingerprint = record {
    own = λ some. subst (λ (xs : List Fingerprint). IsPreferred xs remote.fingerprint)
        (else_own (section_prints m) (session_prints s) some) tells.fingerprint;
    shared = λ none. subst (λ (xs : List Fingerprint). IsPreferred xs remote.fingerprint)
        (ap (λ (xs : List Fingerprint). else_of xs (session_prints s)) none) tells.fingerprint;
  };
}

stays : (is_answer : Bool) (role before : Setup) (remote : Option Setup)
    → may_say is_answer role (Some before) remote ≡ true → (role ≡ ActPass) ⊎ (role ≡ before)
stays b ActPass before remote said = inl refl
stays b Active Active remote said = inr refl
stays b Active Passive remote said = absurd (false≢true said)
stays b Active ActPass remote said = absurd (false≢true said)
stays b Passive Passive remote said = inr refl
stays b Passive Active remote said = absurd (false≢true said)
stays b Passive ActPass remote said = absurd (false≢true said)

active : (b : Bool) (before : Option Setup) → may_say b Active before (Some Active) ≡ false
active b None = refl
active b (Some Active) = refl
active b (Some Passive) = refl
active b (Some ActPass) = refl

passive : (b : Bool) (before : Option Setup) → may_say b Passive before (Some Passive) ≡ false
passive b None = refl
passive b (Some Active) = refl
passive b (Some Passive) = refl
passive b (Some ActPass) = refl

pub roles_fit : RolesFit
roles_fit = record {
  offer = λ before remote. refl;
  answer = λ before remote. refl;
  stays = stays;
  active = active;
  passive = passive;
  left_passive = refl;
  left_active = refl;
  kept = λ role remote. refl;
  unsettled = λ before. refl;
}

-- Each section of an answer lists what was offered in it.
use Rattle.std.proofs.Common.{◌≡◌, ◌∙◌, ap, refl, sym, subst, ℕ, Bool, true, false, cond, List, [], ◌∷◌, filter, map}
use Rattle.std.proofs.Common.{Option, Some}
use Rattle.std.specs.List.{list_all}
use Rattle.rtp_media_sections.specs.Lines.{mid_of, types_listed}
use Rattle.sdp_formats_data.specs.declared.media.MediaLine.{MediaLine}
use Rattle.rtp_media_browsers.specs.Following.{has_name, section_named}
use Rattle.rtp_media_browsers.specs.ForBrowsers.{section_with_transport, shown, told_section}
use Rattle.rtp_media_browsers.specs.Identities.{identified}
use Rattle.rtp_media_browsers.specs.Listing.{is_listed, listed_for, rows_listed, with_offered, with_rows}
use Rattle.rtp_media_browsers.specs.ListingLaws.{AnswersListOffered, ListsOffered}
use Rattle.rtp_media_browsers.specs.Refusals.{is_found}
use Rattle.rtp_media_browsers.specs.declared.identity.Identity.{Identity}
use Rattle.rtp_media_browsers.specs.declared.state.BrowserState.{BrowserState}
use Rattle.rtp_media_browsers.specs.declared.transport.Transport.{Transport}
use Rattle.rtp_media_browsers.proofs.EachAnswered.{planned, told_name, told_names}
use Rattle.rtp_media_browsers.proofs.InPlace.{each_in_its_place}
use Rattle.rtp_media_browsers.proofs.ListedRows.{each_offered}
use Rattle.rtp_media_browsers.proofs.Named.{found_name, none_is, some_inside}
use Rattle.rtp_media_browsers.proofs.Returning.{mid_same}
use Rattle.rtp_media_browsers.proofs.TypeLines.{identified_lines, identified_types, lines_with_rows}

types_with_rows : (offered m : MediaLine) → (with_rows offered.pts (rows_listed offered m) m).pts
    ≡ filter (is_listed (types_listed (rows_listed offered m))) offered.pts
unfolding with_rows
types_with_rows offered m = refl

lists_offered : (o : Option Identity) (offered m : MediaLine)
    → ListsOffered offered (identified o (with_rows offered.pts (rows_listed offered m) m))
lists_offered o offered m =
    let rows = rows_listed offered m in
    record {
      rows = rows;
      lines = identified_lines o (with_rows offered.pts rows m) ∙ lines_with_rows offered.pts rows m;
      types = identified_types o (with_rows offered.pts rows m) ∙ types_with_rows offered m;
      offered_are = each_offered offered m;
    }

-- the section that is found is one that is told
module _ (state : BrowserState) (t : Transport) where
  told_by : (x : MediaLine) (xs : List MediaLine) (name : List ℕ) (s : MediaLine) (b : Bool)
      → (section_named (map (told_section state t) xs) name ≡ Some s
      → (m : MediaLine) × (s ≡ told_section state t m))
      → cond b (Some (told_section state t x)) (section_named (map (told_section state t) xs) name) ≡ Some s
      → (m : MediaLine) × (s ≡ told_section state t m)
  told_by x xs name s true rest h = (x, sym (some_inside (told_section state t x) s h))
  told_by x xs name s false rest h = rest h

  found_told : (ms : List MediaLine) (name : List ℕ) (s : MediaLine)
      → section_named (map (told_section state t) ms) name ≡ Some s → (m : MediaLine) × (s ≡ told_section state t m)
  found_told [] name s h = none_is s h
  found_told (x ∷ xs) name s h =
      told_by x xs name s (has_name name (told_section state t x)) (found_told xs name s) h

  told_as : (m offered : MediaLine) → state.is_answering ≡ true → section_named state.sections (mid_of m) ≡ Some offered
      → told_section state t m ≡ identified state.identity (with_rows offered.pts
      (rows_listed offered (section_with_transport t m)) (section_with_transport t m))
  told_as m offered answers named =
      let own = section_with_transport t m in
      ap (λ (b : Bool). identified state.identity (listed_for b state.sections own)) answers
      ∙ ap (λ (o : Option MediaLine). identified state.identity (with_offered o own))
      (ap (section_named state.sections) (mid_same t m) ∙ named)

pub answers_list_offered : AnswersListOffered
unfolding shown
answers_list_offered state t sdp n name offered s passes answers at named got =
    let ms = map (told_section state t) sdp.media_lines in
    let found = subst (λ (x : List (List ℕ)). list_all (is_found x) state.places ≡ true)
    (sym (told_names state t sdp.media_lines)) (planned state t sdp passes) in
    let there = sym ((each_in_its_place state.places state.sections ms found).kept n name at) ∙ got in
    let told = found_told state t sdp.media_lines name s there in
    let same = sym (told_name state t told.0) ∙ ap mid_of (sym told.1) ∙ found_name ms name s there in
    subst (ListsOffered offered) (sym (told.1 ∙ told_as state t told.0 offered answers
    (ap (section_named state.sections) same ∙ named)))
    (lists_offered state.identity offered (section_with_transport t told.0))

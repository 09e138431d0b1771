-- Sections that an end goes on with.
use Rattle.std.proofs.Common.{◌≡◌, ◌∙◌, ◌+◌, ap, refl, ℕ, suc, zero, true, List, [], ◌∷◌, ◌++◌, map}
use Rattle.std.proofs.Common.{Option, None, Some, slice_get, filter, length, arith}
use Rattle.std.specs.Cmp.Lexicographic.{nat_list_eq_equiv}
use Rattle.std.specs.List.{filter_map}
use Rattle.std.specs.Option.{unwrap_or}
use Rattle.rtp_media_sections.specs.Lines.{kind_of, mid_of, sources_in}
use Rattle.rtp_media_sections.specs.Sections.{Wanted}
use Rattle.rtp_wire.specs.declared.direction.Direction.TheVariants as way
use Rattle.sdp_formats_data.specs.Lookups.{direction_in, direction_of, mid_in}
use Rattle.sdp_formats_data.specs.Sources.{repair_in, repairing_in, source_in}
use Rattle.sdp_formats_data.specs.declared.media.MediaAttribute.{MediaAttribute}
use Rattle.sdp_formats_data.specs.declared.media.MediaAttribute.TheVariants as line
use Rattle.sdp_formats_data.specs.declared.media.MediaLine.{MediaLine}
use Rattle.sdp_formats_data.specs.WholeTexts.{is_name}
use Rattle.rtp_media_browsers.specs.Following.{current, halted, is_new, is_of_type, section_named}
use Rattle.rtp_media_browsers.specs.Laws.{AreWanted, GoesOn, IsHalted}
use Rattle.rtp_media_browsers.specs.Names.{mids_of}
use Rattle.rtp_media_browsers.specs.Refusals.{begin_with}
use Rattle.rtp_media_browsers.specs.Wanted.{number_from, wanted, wanted_in, request_at}
use Rattle.rtp_media_browsers.specs.declared.state.BrowserState.{BrowserState}
use Rattle.rtp_media_browsers.specs.declared.request.SectionRequest.{SectionRequest}
use Rattle.rtp_media_browsers.specs.declared.request.SectionRequest.TheVariants.{Accept, Receive, Reject}
use Rattle.rtp_media_browsers.proofs.Named.{both, found_name, some_inside}

-- lines of payload types name no source
no_source : (a : MediaAttribute) (as' : List MediaAttribute) → filter_map source_in (filter is_of_type as') ≡ []
    → filter_map source_in (filter is_of_type (a ∷ as')) ≡ []
unfolding is_of_type source_in
no_source (line.RtpMap pt value) as' h = h
no_source (line.Fmtp pt values) as' h = h
no_source (line.RtcpFb pt value) as' h = h
no_source _ as' h = h

no_sources : (as' : List MediaAttribute) → filter_map source_in (filter is_of_type as') ≡ []
no_sources [] = refl
no_sources (a ∷ as') = no_source a as' (no_sources as')

no_repair : (a : MediaAttribute) (as' : List MediaAttribute) → filter_map repairing_in (filter is_of_type as') ≡ []
    → filter_map repairing_in (filter is_of_type (a ∷ as')) ≡ []
unfolding is_of_type repair_in
no_repair (line.RtpMap pt value) as' h = h
no_repair (line.Fmtp pt values) as' h = h
no_repair (line.RtcpFb pt value) as' h = h
no_repair _ as' h = h

no_repairs : (as' : List MediaAttribute) → filter_map repairing_in (filter is_of_type as') ≡ []
no_repairs [] = refl
no_repairs (a ∷ as') = no_repair a as' (no_repairs as')

halted_sources : (m : MediaLine) → sources_in (halted m).attrs ≡ []
unfolding source_in repair_in
halted_sources m = rw (no_sources m.attrs, no_repairs m.attrs) refl

pub halted_name : (m : MediaLine) → mid_of (halted m) ≡ mid_of m
unfolding mid_in
halted_name m = refl

halted_direction : (m : MediaLine) → direction_of (halted m).attrs ≡ way.Inactive
unfolding direction_in
halted_direction m = refl

pub is_halted : (m : MediaLine) → IsHalted m
is_halted m = record {
  name = halted_name m;
  kind = refl;
  types = refl;
  direction = halted_direction m;
  sources = halted_sources m;
}

named_or : (old : MediaLine) (o : Option MediaLine) → ((m : MediaLine) → o ≡ Some m → mid_of m ≡ mid_of old)
    → mid_of (unwrap_or o (halted old)) ≡ mid_of old
named_or old None is = halted_name old
named_or old (Some m) is = is m refl

current_name : (ms : List MediaLine) (old : MediaLine) → mid_of (current ms old) ≡ mid_of old
current_name ms old =
    named_or old (section_named ms (mid_of old)) (λ m found. found_name ms (mid_of old) m found)

begins : (ms olds rest : List MediaLine) → begin_with (mids_of olds) (map (current ms) olds ++ rest) ≡ true
begins ms [] rest = refl
begins ms (old ∷ olds) rest =
    both (is_name (mid_of old) (mid_of (current ms old))) (begin_with (mids_of olds) (map (current ms) olds ++ rest))
    (ap (is_name (mid_of old)) (current_name ms old) ∙ nat_list_eq_equiv.refl (mid_of old)) (begins ms olds rest)

lengths : (ms olds rest : List MediaLine) → length (map (current ms) olds ++ rest) ≡ length olds + length rest
lengths ms [] rest = omega (arith)
lengths ms (old ∷ olds) rest = omega (arith, ap suc (lengths ms olds rest))

nothing_at : {A B : Type 0} (x : A) → None ≡ Some x → B
nothing_at x h = cc

-- what an end is handed at one of its places
handed_at : (ms olds rest : List MediaLine) (n : ℕ) (old : MediaLine) → slice_get olds n ≡ Some old
    → slice_get (map (current ms) olds ++ rest) n ≡ Some (current ms old)
handed_at ms [] rest n old h = nothing_at old h
handed_at ms (x ∷ olds) rest zero old h = ap (λ (m : MediaLine). Some (current ms m)) (some_inside x old h)
handed_at ms (x ∷ olds) rest (suc n) old h = handed_at ms olds rest n old h

pub goes_on : (olds ms : List MediaLine) → GoesOn olds ms
goes_on olds ms = record {
  begins = begins ms olds (filter (is_new olds) ms);
  length = lengths ms olds (filter (is_new olds) ms);
  there = λ n old m at found. handed_at ms olds (filter (is_new olds) ms) n old at
      ∙ ap (λ (o : Option MediaLine). Some (unwrap_or o (halted old))) found;
  stopped = λ n old at none. handed_at ms olds (filter (is_new olds) ms) n old at
      ∙ ap (λ (o : Option MediaLine). Some (unwrap_or o (halted old))) none;
}

wanted_mid : (o : Option SectionRequest) (m : MediaLine) → (wanted o m).mid ≡ mid_of m
wanted_mid None m = refl
wanted_mid (Some (Accept direction ssrcs repairs)) m = refl
wanted_mid (Some Receive) m = refl
wanted_mid (Some Reject) m = refl

wanted_kind : (o : Option SectionRequest) (m : MediaLine) → (wanted o m).kind ≡ kind_of m.typ
wanted_kind None m = refl
wanted_kind (Some (Accept direction ssrcs repairs)) m = refl
wanted_kind (Some Receive) m = refl
wanted_kind (Some Reject) m = refl

module _ (state : BrowserState) (requests : List SectionRequest) where
  wanted_mids : (ms : List MediaLine) → map (λ (w : Wanted). w.mid) (map (wanted_in state requests) ms) ≡ mids_of ms
  wanted_mids [] = refl
  wanted_mids (m ∷ ms) =
      λ i. wanted_mid (request_at requests (number_from (mid_of m) 0 state.places)) m i ∷ wanted_mids ms i

  wanted_kinds : (ms : List MediaLine)
      → map (λ (w : Wanted). w.kind) (map (wanted_in state requests) ms) ≡ map (λ (m : MediaLine). kind_of m.typ) ms
  wanted_kinds [] = refl
  wanted_kinds (m ∷ ms) =
      λ i. wanted_kind (request_at requests (number_from (mid_of m) 0 state.places)) m i ∷ wanted_kinds ms i

pub are_wanted : (state : BrowserState) (requests : List SectionRequest) → AreWanted state requests
are_wanted state requests = record {
  names = wanted_mids state requests state.sections;
  kinds = wanted_kinds state requests state.sections;
}

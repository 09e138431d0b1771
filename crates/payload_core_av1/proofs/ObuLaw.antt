-- What makes just the texts be read as units that are laid out so.
use Rattle.std.proofs.Common.{◌≡◌, ℕ, ◌<◌, Bool, true, false, ltb, List, [], ◌∷◌, ◌++◌, length, None, Some, Option}
use Rattle.std.proofs.Common.{if◌then◌else◌, refl, sym, ap, subst, ◌∙◌, append_assoc, arith}
use Rattle.std.proofs.lemmas.Bool.Decides.{nat_tests}
use Rattle.std.proofs.lemmas.List.{append-nil}
use Rattle.payload_core_av1.specs.Leb128.{Cut, sized_part}
use Rattle.payload_core_av1.specs.Obus.{Obu, ObuCut, behind_header, extension_bytes, first_obu, has_extension}
use Rattle.payload_core_av1.specs.Obus.{has_size, if_at_end, if_small, if_whole, is_kept, obu_cut, obu_of}
use Rattle.payload_core_av1.specs.Obus.{payload_in}
use Rattle.payload_core_av1.specs.Obus.{payload_limit, whole_obu, with_its_size}
use Rattle.payload_core_av1.specs.Av1Reading.{all_given, given, given_by, joined_option}
use Rattle.payload_core_av1.specs.Av1Layout.{AreGiven, GivenBy, HasExtensionIf, IsGiven, IsObu, IsSizeOf}
use Rattle.payload_core_av1.proofs.SizeLaw.{sized-found, sized-read}

behind_extension : (header : ℕ) (x : Bool) (extension : Option ℕ) (rest : List ℕ) → HasExtensionIf x extension
    → behind_header header x (extension_bytes extension ++ rest)
    ≡ obu_of header extension (payload_in (has_size header) rest)
behind_extension header false None rest has = refl
behind_extension header false (Some byte) rest has = absurd has
behind_extension header true None rest has = absurd has
behind_extension header true (Some byte) rest has = refl

small_part : (part rest : List ℕ) → length part < payload_limit
    → if_small (Some (record { part = part; rest = rest })) ≡ Some (record { part = part; rest = rest })
small_part part rest small =
    let t : ltb (length part) payload_limit ≡ true = grind (arith, nat_tests) in
    let cut : Cut = record { part = part; rest = rest } in
    ap (λ t. if t then Some cut else None) t

pub payload-read : (s : Bool) (size payload rest : List ℕ) → IsSizeOf s size payload → (s ≡ false → rest ≡ [])
    → length payload < payload_limit → payload_in s (size ++ (payload ++ rest))
    ≡ Some (record { part = payload; rest = rest })
payload-read true size payload rest is at_end small =
    ap if_small (sized-read (size ++ (payload ++ rest)) payload rest
    (record { size = size; laid_out = refl; spells = is })) ∙ small_part payload rest small
payload-read false size payload rest is at_end small =
    let none_left : rest ≡ [] = at_end refl in
    ap (λ t. if_small (Some (record { part = t ++ (payload ++ rest); rest = [] }))) is
    ∙ ap (λ r. if_small (Some (record { part = payload ++ r; rest = [] }))) none_left
    ∙ ap (λ p. if_small (Some (record { part = p; rest = [] }))) (append-nil payload) ∙ small_part payload [] small
    ∙ ap (λ r. Some (record { part = payload; rest = r })) (sym none_left)

-- a unit in front of a rest, which is empty if the unit has no size
pub first-read : (text rest : List ℕ) (o : Obu) → IsObu text o → (has_size o.header ≡ false → rest ≡ [])
    → first_obu (text ++ rest) ≡ Some (record { obu = o; rest = rest })
first-read text rest o is at_end =
    ap (λ t. first_obu (t ++ rest)) is.laid_out
    ∙ ap (behind_header o.header (has_extension o.header))
    (append_assoc (extension_bytes o.extension) (is.size ++ o.payload) rest
    ∙ ap (λ t. extension_bytes o.extension ++ t) (append_assoc is.size o.payload rest))
    ∙ behind_extension o.header (has_extension o.header) o.extension (is.size ++ (o.payload ++ rest)) is.is_extension
    ∙ ap (obu_of o.header o.extension) (payload-read (has_size o.header) is.size o.payload rest is.is_size at_end
    is.is_small)

pub obu-read : (text : List ℕ) (o : Obu) → IsObu text o → whole_obu text ≡ Some o
obu-read text o is = ap (λ t. if_whole (first_obu t)) (sym (append-nil text))
    ∙ ap if_whole (first-read text [] o is (λ e. refl))

-- a unit that was read of this header and extension, and the rest after it
record IsFound (header : ℕ) (extension : Option ℕ) (s : Bool) (text : List ℕ) (cut : ObuCut) : Type 0 where
  size : List ℕ
  laid_out : text ≡ size ++ (cut.obu.payload ++ cut.rest)
  is_size : IsSizeOf s size cut.obu.payload
  at_end : s ≡ false → cut.rest ≡ []
  small : length cut.obu.payload < payload_limit
  header_is : cut.obu.header ≡ header
  extension_is : cut.obu.extension ≡ extension

by_smallness : (header : ℕ) (extension : Option ℕ) (s : Bool) (text size : List ℕ) (part : Cut) (cut : ObuCut) → text
    ≡ size ++ (part.part ++ part.rest) → IsSizeOf s size part.part → (s ≡ false → part.rest ≡ []) → (t : Bool)
    → ltb (length part.part) payload_limit ≡ t
    → obu_of header extension (if t then Some part else None) ≡ Some cut → IsFound header extension s text cut
by_smallness header extension s text size part cut laid is_size at_end false e is = absurd (cc)
by_smallness header extension s text size part cut laid is_size at_end true e is =
    let same : obu_cut header extension part.part part.rest ≡ cut = cc in
    let P : ObuCut → Type 0 = IsFound header extension s text in
    subst P same (record {
      size = size;
      laid_out = laid;
      is_size = is_size;
      at_end = at_end;
      small =
          grind (arith, nat_tests);
      header_is = refl;
      extension_is = refl;
    })

payload_found : (header : ℕ) (extension : Option ℕ) (s : Bool) (text : List ℕ) (cut : ObuCut)
    → obu_of header extension (payload_in s text) ≡ Some cut → IsFound header extension s text cut
payload_found header extension false text cut is =
    by_smallness header extension false text [] (record { part = text; rest = [] }) cut (sym (append-nil text)) refl
    (λ e. refl) (ltb (length text) payload_limit) refl is
payload_found header extension true text cut is = by_cut (sized_part text) refl is
  where
    by_cut : (p : Option Cut) → sized_part text ≡ p → obu_of header extension (if_small p) ≡ Some cut
        → IsFound header extension true text cut
    by_cut None e is = absurd (cc)
    by_cut (Some part) e is =
        let sized = sized-found text part e in
        by_smallness header extension true text sized.size part cut sized.laid_out sized.spells (λ e. absurd (cc))
        (ltb (length part.part) payload_limit) refl is

-- a unit that is in front of a text
pub record IsFirst (text : List ℕ) (cut : ObuCut) : Type 0 where
  pub front : List ℕ
  pub laid_out : text ≡ front ++ cut.rest
  pub is_obu : IsObu front cut.obu
  pub at_end : has_size cut.obu.header ≡ false → cut.rest ≡ []

extension_found : (header : ℕ) (extension : Option ℕ) (x : Bool) (text rest : List ℕ) (cut : ObuCut)
    → has_extension header ≡ x → HasExtensionIf x extension → text ≡ header ∷ (extension_bytes extension ++ rest)
    → IsFound header extension (has_size header) rest cut → IsFirst text cut
extension_found header extension x text rest cut x_is has laid found =
    let o : Obu = cut.obu in
    let H : ℕ → Type 0 = λ h. HasExtensionIf (has_extension h) o.extension in
    let X : Bool → Type 0 = λ b. HasExtensionIf b extension in
    let E : Option ℕ → Type 0 = HasExtensionIf (has_extension header) in
    let S : ℕ → Type 0 = λ h. IsSizeOf (has_size h) found.size o.payload in
    let A : ℕ → Type 0 = λ h. has_size h ≡ false → cut.rest ≡ [] in
    record {
      front = o.header ∷ (extension_bytes o.extension ++ (found.size ++ o.payload));
      laid_out =
          laid ∙ ap (λ r. header ∷ (extension_bytes extension ++ r)) found.laid_out
          ∙ ap (λ h. h ∷ (extension_bytes extension ++ (found.size ++ (o.payload ++ cut.rest)))) (sym found.header_is)
          ∙ ap (λ e. o.header ∷ (extension_bytes e ++ (found.size ++ (o.payload ++ cut.rest)))) (sym found.extension_is)
          ∙ ap (λ t. o.header ∷ (extension_bytes o.extension ++ t)) (sym (append_assoc found.size o.payload cut.rest))
          ∙ ap (λ t. o.header ∷ t) (sym (append_assoc (extension_bytes o.extension) (found.size ++ o.payload)
          cut.rest));
      is_obu = record {
        size = found.size;
        laid_out = refl;
        is_extension = subst H (sym found.header_is) (subst E (sym found.extension_is) (subst X (sym x_is) has));
        is_size = subst S (sym found.header_is) found.is_size;
        is_small = found.small;
      };
      at_end = subst A (sym found.header_is) found.at_end;
    }

header_found : (header : ℕ) (x : Bool) (bytes : List ℕ) (cut : ObuCut) → has_extension header ≡ x
    → behind_header header x bytes ≡ Some cut → IsFirst (header ∷ bytes) cut
header_found header false bytes cut x_is is =
    extension_found header None false (header ∷ bytes) bytes cut x_is tt refl
    (payload_found header None (has_size header) bytes cut is)
header_found header true [] cut x_is is = absurd (cc)
header_found header true (byte ∷ bytes) cut x_is is =
    extension_found header (Some byte) true (header ∷ byte ∷ bytes) bytes cut x_is tt refl
    (payload_found header (Some byte) (has_size header) bytes cut is)

pub first-found : (text : List ℕ) (cut : ObuCut) → first_obu text ≡ Some cut → IsFirst text cut
first-found [] cut is = absurd (cc)
first-found (header ∷ bytes) cut is = header_found header (has_extension header) bytes cut refl is

pub obu-found : (text : List ℕ) (o : Obu) → whole_obu text ≡ Some o → IsObu text o
obu-found text o is = by_cut (first_obu text) (λ cut e. first-found text cut e) is
  where
    at_end : (cut : ObuCut) (rest : List ℕ) → cut.rest ≡ rest → IsFirst text cut → if_at_end cut.obu rest ≡ Some o
        → IsObu text o
    at_end cut (b ∷ bs) e first is = absurd (cc)
    at_end cut [] e first is =
        let same : cut.obu ≡ o = cc in
        let P : Obu → Type 0 = IsObu text in
        let T : List ℕ → Type 0 = λ t. IsObu t cut.obu in
        subst P same (subst T (sym (first.laid_out ∙ ap (λ r. first.front ++ r) e ∙ append-nil first.front))
        first.is_obu)

    by_cut : (p : Option ObuCut) → ((cut : ObuCut) → p ≡ Some cut → IsFirst text cut) → if_whole p ≡ Some o
        → IsObu text o
    by_cut None found is = absurd (cc)
    by_cut (Some cut) found is = at_end cut cut.rest refl (found cut refl) is

kept_read : (k : Bool) (o : Obu) (bytes : List ℕ) → GivenBy k o bytes → Some (if k then with_its_size o else [])
    ≡ Some bytes
kept_read true o bytes is = ap Some (sym is)
kept_read false o bytes is = ap Some (sym is)

given_read : (e bytes : List ℕ) → IsGiven e bytes → given e ≡ Some bytes
given_read [] bytes is = ap Some (sym is)
given_read (b ∷ bs) bytes (o, is, by) = ap given_by (obu-read (b ∷ bs) o is) ∙ kept_read (is_kept o) o bytes by

pub all-given-read : (es : List (List ℕ)) (bytes : List ℕ) → AreGiven es bytes → all_given es ≡ Some bytes
all-given-read [] bytes are = ap Some (sym are)
all-given-read (e ∷ es) bytes (front, behind, laid, is, more) =
    ap (λ o. joined_option o (all_given es)) (given_read e front is)
    ∙ ap (joined_option (Some front)) (all-given-read es behind more) ∙ ap Some (sym laid)

kept_found : (k : Bool) (o : Obu) (bytes : List ℕ) → Some (if k then with_its_size o else []) ≡ Some bytes
    → GivenBy k o bytes
kept_found true o bytes is = cc
kept_found false o bytes is = cc

given_found : (e bytes : List ℕ) → given e ≡ Some bytes → IsGiven e bytes
given_found [] bytes is = cc
given_found (b ∷ bs) bytes is = by_obu (whole_obu (b ∷ bs)) refl is
  where
    by_obu : (p : Option Obu) → whole_obu (b ∷ bs) ≡ p → given_by p ≡ Some bytes → IsGiven (b ∷ bs) bytes
    by_obu None e is = absurd (cc)
    by_obu (Some o) e is = (o, obu-found (b ∷ bs) o e, kept_found (is_kept o) o bytes is)

joined_found : (e : List ℕ) (es : List (List ℕ)) (o p : Option (List ℕ)) (bytes : List ℕ)
    → ((t : List ℕ) → o ≡ Some t → IsGiven e t) → ((t : List ℕ) → p ≡ Some t → AreGiven es t) → joined_option o p
    ≡ Some bytes → AreGiven (e ∷ es) bytes
joined_found e es None p bytes first others is = absurd (cc)
joined_found e es (Some front) None bytes first others is = absurd (cc)
joined_found e es (Some front) (Some behind) bytes first others is =
    (front, behind, (let same : front ++ behind ≡ bytes = cc in sym same), first front refl, others behind refl)

pub all-given-found : (es : List (List ℕ)) (bytes : List ℕ) → all_given es ≡ Some bytes → AreGiven es bytes
all-given-found [] bytes is = cc
all-given-found (e ∷ es) bytes is = joined_found e es (given e) (all_given es) bytes (λ t h. given_found e t h)
    (λ t h. all-given-found es t h) is

-- Groups of sections and streams.
use Rattle.std.specs.Prelude.{ℕ, ◌==◌, List, [], ◌∷◌, Option, Some, None, unwrap_or, codes, if◌then◌else◌}
use Rattle.std.specs.Option.{option_map}
use Rattle.rtp_wire.specs.Name.{name_of}
use Rattle.sdp_formats_grammar.specs.Form.{Form, told, any_text, some_text, made, cut, cut_maybe, separated}
use Rattle.sdp_formats_grammar.specs.Split.{behind}
use Rattle.sdp_formats_data.specs.declared.session.SessionAttribute.{SessionAttribute}
use Rattle.sdp_formats_data.specs.declared.session.SessionAttribute.TheVariants.{Group, MsidSemantic}

-- A text without one trailing blank.
abbrev pub without_last : List ℕ → List ℕ
without_last [] = []
without_last (b ∷ []) = if b == 32 then [] else b ∷ []
without_last (b ∷ c ∷ t) = b ∷ without_last (c ∷ t)

-- A text without one leading blank.
abbrev pub without_first : List ℕ → List ℕ
without_first t = unwrap_or (behind (codes " ") t) t

-- A form applied to a part of the text.
abbrev pub through : {A : Type 0} → (List ℕ → List ℕ) → Form A → Form A
through part f = record { reads = λ t. f.reads (part t); Says = λ t a. f.Says (part t) a }

-- The name of a section.
abbrev pub mid_word : List ℕ → Option (List ℕ)
mid_word t = option_map (name_of 16) (some_text t)

abbrev pub mids_of : Option (List (List ℕ)) → List (List ℕ)
mids_of None = []
mids_of (Some mids) = mids

-- `MEANING MID ..`, a blank at the end or none (RFC 5888 5)
abbrev pub group : Form SessionAttribute
group = made (λ x. Group x.0 (mids_of x.1))
    (through without_last (cut_maybe 32 any_text (separated 32 (told mid_word))))

-- `MEANING STREAM ..`, a blank before it or none
abbrev pub msid_semantic : Form SessionAttribute
msid_semantic = made (λ x. MsidSemantic x.0 x.1) (through without_first (cut 32 any_text (separated 32 any_text)))

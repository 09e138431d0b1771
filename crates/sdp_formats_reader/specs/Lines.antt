-- Line kinds in the header and at the start of a section (RFC 8866 5).
use Rattle.std.specs.Prelude.{ℕ, Bool, true, false, ◌||◌, List, [], ◌∷◌, Option, Some, None, codes, if◌then◌else◌}
use Rattle.std.specs.Str.{bytes_eq}
use Rattle.sdp_formats_grammar.specs.Form.{Form, told, any_text, made, after, either, cut}
use Rattle.sdp_formats_grammar.specs.Split.{behind}
use Rattle.sdp_formats_reader.specs.Heads.{origin, media_line}
use Rattle.sdp_formats_reader.specs.declared.media.MediaHead.{MediaHead}
use Rattle.sdp_formats_reader.specs.declared.passed.Passed.{Passed}
use Rattle.sdp_formats_values.specs.declared.bandwidth.Bandwidth.{Bandwidth}

abbrev pub passed : Passed
passed = record {}

-- This text alone.
abbrev pub exactly : List ℕ → Form Passed
exactly words = told (λ t. if bytes_eq t words then Some passed else None)

-- Any text but the empty one.
abbrev pub something : Form Passed
something = made (λ t. passed) any_text

-- `v=0` (RFC 8866 5.1)
abbrev pub version_line : Form Passed
version_line = after (codes "v=") (exactly (codes "0"))

-- `o=USER NUMBER TEXT` (RFC 8866 5.2)
abbrev pub origin_line : Form ℕ
origin_line = after (codes "o=") origin

-- `s=TEXT` (RFC 8866 5.3)
abbrev pub name_line : Form Passed
name_line = after (codes "s=") something

-- `i=`, `u=`, `e=`, `p=`, `c=`, `z=` and `k=` (RFC 8866 5.4 to 5.7, 5.11 and 5.12)
abbrev pub other_line : Form Passed
other_line =
    either (after (codes "i=") something) (either (after (codes "u=") something)
    (either (after (codes "e=") something) (either (after (codes "p=") something)
    (either (after (codes "c=") something) (either (after (codes "z=") something) (after (codes "k=") something))))))

abbrev pub passed_if : Bool → Option Passed
passed_if is_so = if is_so then Some passed else None

-- Whether a line begins with these words and has something after them.
abbrev pub says_something : Option (List ℕ) → Bool
says_something None = false
says_something (Some []) = false
says_something (Some (b ∷ bs)) = true

abbrev pub is_lettered : List ℕ → List ℕ → Bool
is_lettered words t = says_something (behind words t)

abbrev pub is_other : List ℕ → Bool
is_other t =
    is_lettered (codes "i=") t || (is_lettered (codes "u=") t || (is_lettered (codes "e=") t
    || (is_lettered (codes "p=") t || (is_lettered (codes "c=") t || (is_lettered (codes "z=") t
    || is_lettered (codes "k=") t)))))

abbrev pub make_bandwidth : List ℕ × List ℕ → Bandwidth
make_bandwidth x = record { typ = x.0; val = x.1 }

-- `b=TYPE:VALUE` (RFC 8866 5.8)
abbrev pub bandwidth_line : Form Bandwidth
bandwidth_line = made make_bandwidth (after (codes "b=") (cut 58 any_text any_text))

-- `t=0 0` (RFC 8866 5.9)
abbrev pub times_line : Form Passed
times_line = after (codes "t=") (exactly (codes "0 0"))

-- `r=` (RFC 8866 5.10)
abbrev pub repeat_line : Form Passed
repeat_line = after (codes "r=") something

-- `c=` (RFC 8866 5.7)
abbrev pub connection_line : Form Passed
connection_line = after (codes "c=") something

-- `m=` (RFC 8866 5.14)
abbrev pub head_line : Form MediaHead
head_line = after (codes "m=") media_line

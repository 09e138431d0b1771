-- The three kinds of line: nothing, text, and bytes that are no text.
use Rattle.std.proofs.Common.{◌≡◌, ℕ, ◌==◌, Bool, true, false, List, length, None, Some, refl}
use Rattle.std.specs.Option.{option_map}
use Rattle.std.specs.Str.{is_utf8, IsUtf8}
use Rattle.std.proofs.lemmas.Str.{is_utf8-from_IsUtf8, IsUtf8-from_is_utf8}
use Rattle.rtp_media_program.specs.declared.line.Line.TheVariants as line
use Rattle.rtp_media_program.specs.Words.{words_of}
use Rattle.rtp_media_program.specs.LineForms.{line_of, command_of}

pub line_of-empty : (bytes : List ℕ) → (length bytes == 0) ≡ true → line_of bytes ≡ Some line.Empty
unfolding line_of
line_of-empty bytes h = rw h refl

pub line_of-text : (bytes : List ℕ) → (length bytes == 0) ≡ false → IsUtf8 bytes → line_of bytes
    ≡ option_map line.Command (command_of (words_of bytes))
unfolding line_of
line_of-text bytes h text = let e = is_utf8-from_IsUtf8 bytes text in rw (h, e) refl

not_text : (b : Bool) → (b ≡ true → ⊥) → b ≡ false
not_text true h = absurd (h refl)
not_text false h = refl

pub line_of-other : (bytes : List ℕ) → (length bytes == 0) ≡ false → (IsUtf8 bytes → ⊥) → line_of bytes ≡ None
unfolding line_of
line_of-other bytes h other = let e = not_text (is_utf8 bytes) (λ text. other (IsUtf8-from_is_utf8 bytes text)) in
    rw (h, e) refl

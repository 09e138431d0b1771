-- What a reader returns, compared with what the words mean.
use Rattle.std.specs.Prelude.{◌≡◌, Option, None, Some, Result, Ok, Err}
use Rattle.rtp_media_program.specs.declared.misread.Misread.{Misread}
use Rattle.rtp_media_program.specs.declared.misread.Misread.TheVariants.{NotUnderstood, Memory}

-- A reader returns what the words mean, and NotUnderstood if they mean nothing, unless memory runs out.
abbrev pub Reads : {A : Type 0} → Result A Misread → Option A → Type 0
Reads (Ok x) said = said ≡ Some x
Reads (Err NotUnderstood) said = said ≡ None
Reads (Err Memory) said = Unit {0}

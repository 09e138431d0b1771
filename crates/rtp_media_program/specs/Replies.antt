-- What the program's answers share.
use Rattle.std.specs.Prelude.{ℕ, ◌≡◌, List, [], ◌∷◌, codes}
use Rattle.rtp_media_program.specs.declared.reply.Reply.{Reply}

-- Running out of memory has the same name in all errors.
abbrev pub memory : List ℕ
memory = codes "Memory"

-- One line is printed.
abbrev pub Prints : List Reply → Reply → Type 0
Prints replies reply = replies ≡ reply ∷ []

use Rattle.std.proofs.Common.{◌≡◌, IsUtf8, chars}
use Rattle.std.specs.List.{list_all}
use Rattle.std.specs.Str.Iter.{chars_rest}
use Rattle.sdp_formats_reader.specs.Names.{is_name_char}
use Rattle.sdp_formats_reader.proofs.names.has_name_chars.Given as goal

-- what is left of the text is told of as the whole
abbrev pub invariant-loop-c : goal.invariant-loop-c
invariant-loop-c l = IsUtf8 (chars_rest l.c-iterator)
    × (list_all is_name_char (chars (chars_rest l.c-iterator)) ≡ list_all is_name_char (chars l.fn.text))

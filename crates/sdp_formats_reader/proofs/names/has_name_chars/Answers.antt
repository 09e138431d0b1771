use Rattle.std.proofs.Common.{sym, ◌∙◌}
use Rattle.std.proofs.lemmas.Str.{IsUtf8-past_char, chars_past_char}
use Rattle.sdp_formats_reader.proofs.Characters.{chars_of_empty}
use Rattle.sdp_formats_reader.proofs.names.has_name_chars.Goals as goal

pub returns-then-not-is_name_char : goal.returns-then-not-is_name_char
returns-then-not-is_name_char c =
    let held = c.loop-c.invariant in
    let step = chars_past_char _ _ c.in-Some.c held.0 c.in-Some.ensures.steps.0 in
    let fails = sym c.is_name_char.ensures ∙ c.if-not-is_name_char.true in
    rw (step, fails) at held.1

pub loop-c-preserved : goal.loop-c-preserved
loop-c-preserved c =
    let held = c.loop-c.invariant in
    let parts = c.in-Some.ensures.steps.0 in
    let fits = sym c.is_name_char.ensures ∙ c.if-not-is_name_char.false in
    (IsUtf8-past_char _ _ c.in-Some.c held.0 parts, rw (chars_past_char _ _ c.in-Some.c held.0 parts, fits) at held.1)

pub returns : goal.returns
returns c = rw (chars_of_empty _ c.in-None.ensures.steps.0.0) at c.loop-c.invariant.1

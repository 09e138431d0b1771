-- The preferred fingerprint of two lists.
use Rattle.std.proofs.Common.{◌≡◌, List, [], ◌∷◌, ◌++◌}
use Rattle.sdp_formats_values.specs.declared.fingerprint.Fingerprint.{Fingerprint}
use Rattle.sdp_formats_data.specs.Preference.{IsFirstOfLowest}
use Rattle.rtp_media_browsers.specs.Remotes.{else_of}

not_empty : {A : Type 0} (before behind : List Fingerprint) (print : Fingerprint) → [] ≡ before ++ print ∷ behind → A
not_empty [] behind print h = cc
not_empty (p ∷ before) behind print h = cc

pub own_print : (xs ys : List Fingerprint) (print : Fingerprint) → IsFirstOfLowest xs print
    → IsFirstOfLowest (else_of xs ys) print
own_print [] ys print is = not_empty is.before is.behind print is.placed
own_print (x ∷ xs) ys print is = is

-- Under a map without extensions a header has no values.
use Rattle.std.proofs.Common.{◌≡◌, ℕ, zero, suc, Bool, List, refl, ap, ◌∙◌, replicate}
use Rattle.std.specs.Prelude.{Option, Some, None, slice_index_or}
use Rattle.rtp_wire.specs.Elements.{Step, lookup, on_step, step, values_from, with_element}
use Rattle.rtp_wire.specs.Maps.{empty_map}
use Rattle.rtp_wire.specs.Values.{Block, absent, form_of_profile, values_in_form, values_of}
use Rattle.rtp_wire.specs.declared.extension.Extension.{Extension}
use Rattle.rtp_wire.specs.declared.values.ExtensionValues.{ExtensionValues}
use Rattle.rtp_wire.specs.Header.{values_in}

none_at : (m n : ℕ) → slice_index_or (replicate {A = Option Extension} m None) n None ≡ None
none_at zero n = refl
none_at (suc m) zero = refl
none_at (suc m) (suc n) = none_at m n

none_under : (id : ℕ) → lookup empty_map id ≡ None
none_under zero = refl
none_under (suc n) = none_at 16 n

on_nothing : (v : ExtensionValues) (go : Step → ExtensionValues → ExtensionValues)
    → ((s : Step) (w : ExtensionValues) → go s w ≡ w) → (o : Option Step)
    → on_step o v (λ s. go s (with_element (lookup empty_map s.id) s.bytes v)) ≡ v
on_nothing v go same None = refl
on_nothing v go same (Some s) =
    ap (λ (e : Option Extension). go s (with_element e s.bytes v)) (none_under s.id) ∙ same s v

nothing_from : (one : Bool) (n : ℕ) (bytes : List ℕ) (v : ExtensionValues) → values_from one empty_map n bytes v ≡ v
nothing_from one zero bytes v = refl
nothing_from one (suc n) bytes v =
    on_nothing v (λ s w. values_from one empty_map n s.rest w) (λ s w. nothing_from one n s.rest w) (step one bytes)

in_form : (form : Option Bool) (content : List ℕ) → values_in_form form empty_map content ≡ absent
in_form None content = refl
in_form (Some one) content = nothing_from one _ content absent

pub no_values : (block : Option Block) → values_in empty_map block ≡ absent
unfolding values_of
no_values None = refl
no_values (Some block) = in_form (form_of_profile block.profile) block.content

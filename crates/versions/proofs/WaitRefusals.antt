-- Why the tiles of a layer cannot be asked for, by what is under its name.
use Rattle.std.proofs.Common.{◌≡◌, true, not, List, [], Option, Some, None, is_some, refl, ap, sym, ◌∙◌, if◌then◌else◌}
use Rattle.overlay_terms.specs.Layers.{Name, Content, Layer as Named}
use Rattle.overlay_terms.specs.Commands.{is_derived, stands, stands_as_base}
use Rattle.overlay_terms.specs.Histories.{Version}
use Rattle.overlay_terms.specs.Orderly.{is_orderly_after}
use Rattle.layer_book.specs.declared.fault.LayerFault.TheVariants.{UnknownLayer, NotDerived}
use Rattle.layer_book.specs.Layer.{content_named}
use Rattle.layer_book.proofs.Lookups.{as_base, as_standing, passes}
use Rattle.versions.specs.Building.{wait_refusal}
use Rattle.versions.specs.declared.fault.VersionFault.{VersionFault}
use Rattle.versions.specs.declared.fault.VersionFault.TheVariants.{Layer}

-- the reason, where a content is no expression or is nowhere
abbrev pub refusal_by : Option Content → Option VersionFault
refusal_by None = Some (Layer UnknownLayer)
refusal_by (Some content) = if not (is_derived content) then Some (Layer NotDerived) else None

pub refusal_is : (version : Version) (name : Name) (layers : List Named) (found : Option Content) → is_orderly_after [] layers ≡ true
    → layers ≡ version.layers → found ≡ content_named layers name → refusal_by found ≡ wait_refusal version name
refusal_is version name layers found orderly same e =
    by_kind found
    ∙ (λ i. if not (sym (as_standing layers name found e) i) then Some (Layer UnknownLayer)
    else (if sym (as_base layers name found orderly e) i then Some (Layer NotDerived) else None))
    ∙ ap (λ ls. if not (stands ls name) then Some (Layer UnknownLayer) else (if stands_as_base ls name then Some (Layer NotDerived) else None)) same where
      by_kind : (found : Option Content) → refusal_by found ≡ (if not (is_some found) then Some (Layer UnknownLayer) else (if passes (λ c. not (is_derived c)) found then Some (Layer NotDerived) else None))
      by_kind None = refl
      by_kind (Some content) = refl

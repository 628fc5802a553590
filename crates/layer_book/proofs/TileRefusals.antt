-- Why a layer has no tile in a column, by what is under its name.
use Rattle.std.proofs.Common.{◌≡◌, ℕ, true, not, List, [], Option, Some, None, is_some, refl, ◌∙◌, if◌then◌else◌}
use Rattle.overlay_terms.specs.Layers.{Name, Content, Layer}
use Rattle.overlay_terms.specs.Commands.{is_derived}
use Rattle.overlay_terms.specs.Orderly.{is_orderly_after}
use Rattle.layer_book.specs.declared.fault.LayerFault.{LayerFault}
use Rattle.layer_book.specs.declared.fault.LayerFault.TheVariants.{UnknownLayer, NotDerived, BadColumn}
use Rattle.layer_book.specs.Layer.{content_named}
use Rattle.layer_book.specs.TileRefusal.{tile_refusal}
use Rattle.layer_book.proofs.Lookups.{as_base, as_standing, passes}

-- the reason, where a content is no expression or is nowhere, or there is no such column
abbrev pub refusal_by : Option Content → Option ℕ → Option LayerFault
refusal_by None column = Some UnknownLayer
refusal_by (Some content) column = if not (is_derived content) then Some NotDerived else (if is_some column then None else Some BadColumn)

pub refusal_is : (layers : List Layer) (name : Name) (column : Option ℕ) (found : Option Content) → is_orderly_after [] layers ≡ true
    → found ≡ content_named layers name → tile_refusal layers name column ≡ refusal_by found column
refusal_is layers name column found orderly e =
    (λ i. if not (as_standing layers name found e i) then Some UnknownLayer
    else (if as_base layers name found orderly e i then Some NotDerived else (if is_some column then None else Some BadColumn)))
    ∙ by_kind found where
      by_kind : (found : Option Content) → (if not (is_some found) then Some UnknownLayer else (if passes (λ c. not (is_derived c)) found then Some NotDerived else (if is_some column then None else Some BadColumn))) ≡ refusal_by found column
      by_kind None = refl
      by_kind (Some content) = refl

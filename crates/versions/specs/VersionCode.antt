-- Versions as data that a model's value may hold.
use Rattle.std.specs.Prelude.{ℕ, List, refl}
use Rattle.std.specs.Coded.{Coded, code_by, coded_list, coded×, coded_ℕ}
use Rattle.overlay_terms.specs.Layers.{Layer}
use Rattle.overlay_terms.specs.LayerCode.{layer_code}
use Rattle.overlay_terms.specs.Histories.{Finished, Version}
use Rattle.layer_tiles.specs.TileCode.{finished_code}

abbrev pub version_code : Coded Version
version_code =
    code_by (ℕ × (List Layer × (List Finished × ℕ))) (coded× coded_ℕ (coded× (coded_list layer_code) (coded× (coded_list finished_code) coded_ℕ))) (λ v. (v.number, (v.layers, (v.tiles, v.durable)))) (λ t. record { number = t.0; layers = t.1.0; tiles = t.1.1.0; durable = t.1.1.1 }) (λ _. refl)

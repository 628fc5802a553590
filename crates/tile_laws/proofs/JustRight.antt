-- The segments over the x of a place, for the proofs.
pub use Rattle.tile_laws.specs.JustRight.{is_over_x, is_under, is_level, bits_where, under_bits, up_to_bits, is_stretch_over}

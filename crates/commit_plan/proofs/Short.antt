-- Every record is short enough that the file has a number for its size.
use Rattle.std.proofs.Common.{◌≡◌, ℕ, ◌+◌, ◌*◌, ◌-◌, ◌^◌, ◌<◌, ◌≤◌, nat_le, Bool, true, false, cond, ◌&&◌, List, [], ◌∷◌, ◌++◌, length, map, Option, Some, None, refl, sym, ◌∙◌, arith}
use Rattle.std.specs.List.{All, flat_map, list_all}
use Rattle.std.specs.Int.{w32, cast_unsigned}
use Rattle.std.proofs.lemmas.List.{length-append, length-map}
use Rattle.std.proofs.lemmas.List.Sums.{sum_by-cons}
use Rattle.std.proofs.lemmas.List.Elements.{All-head, All-tail}
use Rattle.std.proofs.lemmas.Bool.{and_parts, leb-true}
use Rattle.std.proofs.lemmas.List.Folds.{list_all-append}
use Rattle.byteorder.specs.Endian.{big_bytes}
use Rattle.byteorder.specs.Numbers.{length-bytes_high_first}
use Rattle.overlay_terms.specs.Plane.{WholePoint, Segment, ring_step_count, steps_max}
use Rattle.overlay_terms.specs.Column.{column_count, is_in_column}
use Rattle.overlay_terms.specs.Trees.{Operation, intersection, union, difference, sym_difference, Tree, leaf, combine, leaves}
use Rattle.overlay_terms.specs.Histories.{is_formed, is_rising}
use Rattle.overlay_terms.proofs.Options.{both_absent}
use Rattle.plane_base.specs.BaseLayer.{first_ring_fault, rings_fault}
use Rattle.plane_base.specs.declared.fault.PlaneFault.{PlaneFault}
use Rattle.plane_base.specs.declared.fault.PlaneFault.TheVariants.{TooManySegments}
use Rattle.layer_expr.specs.Name.{is_name, first_is_letter, is_name_byte}
use Rattle.layer_expr.specs.Token.{operator, close_bracket}
use Rattle.layer_expr.specs.Grammar.{Written, level_of, written_kinds}
use Rattle.layer_expr.specs.Spelling.{bracketed_if, left_needs_brackets, right_needs_brackets, canonical, operation_text, written_text, expression_text, IsExpression}
use Rattle.exact_point.specs.NamedPiece.{NamedPiece, ends_of}
use Rattle.exact_point.specs.declared.point_name.PointName.{PointName}
use Rattle.exact_point.specs.declared.point_name.PointName.TheVariants.{Vertex, Cross, Border}
use Rattle.tile_build.specs.declared.tile.Tile.{Tile}
use Rattle.tile_build.specs.declared.tile.Tile.TheVariants.{Pieces, Oversize}
use Rattle.tile_build.specs.Tile.{tile_of}
use Rattle.store_terms.specs.BaseRecord.{coordinate, whole_point, ring, rings}
use Rattle.store_terms.specs.TileRecord.{segment, point_name, piece, named_tile}
use Rattle.store_terms.specs.Catalog.{extent, listed, catalog}
use Rattle.store_terms.specs.Choices.{optional}
use Rattle.store_terms.specs.Fields.{number, counted}
use Rattle.store_terms.specs.declared.root.RecordExtent.{RecordExtent}
use Rattle.store_terms.proofs.BaseLemmas.{few_rings}
use Rattle.store_terms.specs.Listing.{spelled_records, records_of, HasColumns, entry_of, entries_of, IsListable}
use Rattle.store_terms.specs.declared.catalog.Listed as code
use Rattle.store_terms.specs.declared.catalog.Records.{Records}
use Rattle.store_terms.specs.declared.catalog.Records.TheVariants.{Base, Derived}
use Rattle.record_writing.specs.Tiles.{named_by}
use Rattle.root_reading.proofs.RecordLengths.{few_steps, expression_length}
use Rattle.commit_plan.proofs.CatalogSize.{extent_long, name_long}

-- ---- base layers: eight bytes a point, and there are few steps

point_long : (p : WholePoint) → length (whole_point.text p) ≡ 8
point_long p =
    length-append (coordinate.text p.x) (coordinate.text p.y)
    ∙ (λ i. length-bytes_high_first 4 (cast_unsigned w32 p.x) i + length-bytes_high_first 4
    (cast_unsigned w32 p.y) i)

points_long : (ps : List WholePoint) → length (flat_map whole_point.text ps) ≡ 8 * length ps
points_long [] = refl
points_long (p ∷ ps) =
    length-append (whole_point.text p) (flat_map whole_point.text ps) ∙ omega (arith, point_long p, points_long ps)

ring_long : (r : List WholePoint) → length (ring.text r) ≡ 2 + 8 * length r
ring_long r = length-append (big_bytes 2 (length r)) (flat_map whole_point.text r)
    ∙ omega (arith, length-bytes_high_first 2 (length r), points_long r)

rings_long : (rs : List (List WholePoint)) → length (flat_map ring.text rs) ≤ 10 * length rs + 8 * ring_step_count rs
rings_long [] = omega arith
rings_long (r ∷ rs) =
    let count : ring_step_count (r ∷ rs) ≡ (length r - 1) + ring_step_count rs =
    sum_by-cons (λ (x : List WholePoint). length x - 1) r rs in
    let both : length (ring.text r ++ flat_map ring.text rs) ≡ length (ring.text r) + length (flat_map ring.text rs) =
    length-append (ring.text r) (flat_map ring.text rs) in
    omega (arith, both, count, ring_long r, rings_long rs)

pub base_short : (rs : List (List WholePoint)) → rings_fault rs ≡ None → length (rings.text rs) < 2 ^ 32
base_short rs good =
    let both : length (rings.text rs) ≡ length (big_bytes 2 (length rs)) + length (flat_map ring.text rs) =
    length-append (big_bytes 2 (length rs)) (flat_map ring.text rs) in
    omega (arith, both, length-bytes_high_first 2 (length rs), rings_long rs, few_steps rs good, few_rings rs good)

-- ---- definitions: few tokens, and no name is long

pub definition_short : (t : Tree (List ℕ)) → IsExpression t → length (expression_text t) < 2 ^ 32
definition_short t is = omega (arith, expression_length t is)

-- ---- tiles: at most 82 bytes a piece

segment_long : (s : Segment) → length (segment.text s) ≡ 16
segment_long s =
    length-append (whole_point.text s.left) (whole_point.text s.right)
    ∙ (λ i. point_long s.left i + point_long s.right i)

point_name_long : (n : PointName) → length (point_name.text n) ≤ 33
point_name_long (Vertex v) = omega (arith, point_long v)
point_name_long (Cross a b) =
    omega (arith, length-append (segment.text a) (segment.text b), segment_long a, segment_long b)
point_name_long (Border s k) =
    omega (arith, length-append (segment.text s) (big_bytes 1 k), segment_long s, length-bytes_high_first 1 k)

piece_long : (p : NamedPiece) → length (piece.text p) ≤ 82
piece_long p =
    let names = point_name.text p.from ++ point_name.text p.to in
    let both : length (piece.text p) ≡ length (segment.text p.support) + length names =
    length-append (segment.text p.support) names in
    omega (
      arith,
      both,
      segment_long p.support,
      length-append (point_name.text p.from)
          (point_name.text p.to),
      point_name_long p.from,
      point_name_long p.to,
    )

pieces_long : (ps : List NamedPiece) → length (flat_map piece.text ps) ≤ 82 * length ps
pieces_long [] = omega arith
pieces_long (p ∷ ps) =
    let both : length (piece.text p ++ flat_map piece.text ps)
    ≡ length (piece.text p) + length (flat_map piece.text ps) =
    length-append (piece.text p) (flat_map piece.text ps) in
    omega (arith, both, piece_long p, pieces_long ps)

pub tile_short : (k : ℕ) (tile : Tile) → is_formed (tile_of tile) k ≡ true
    → length (named_tile.text (named_by k tile)) < 2 ^ 32
tile_short k (Pieces list) formed =
    let ps = list.items in
    let ends = map ends_of ps in
    let few = leb-true (length ends) 65536
    (and_parts (nat_le (length ends) 65536) (list_all (λ e. is_in_column k e.0) ends)
    (and_parts (nat_le (length ends) 65536 && list_all (λ e. is_in_column k e.0) ends) (is_rising ends) formed).0).0 in
    let behind = big_bytes 4 (length ps) ++ flat_map piece.text ps in
    omega (
      arith,
      few,
      length-map ps ends_of,
      pieces_long ps,
      length-append (big_bytes 1 k) behind,
      length-append (big_bytes 4 (length ps)) (flat_map piece.text ps),
      length-bytes_high_first 1 k,
      length-bytes_high_first 4 (length ps),
    )
tile_short k Oversize formed = omega (arith, length-bytes_high_first 1 k)

-- ---- catalogs: at most 698 bytes an entry

optional_long : (e : Option RecordExtent) → length ((optional extent).text e) ≤ 13
optional_long None = omega arith
optional_long (Some e) = omega (arith, extent_long e)

optionals_long : (es : List (Option RecordExtent)) → length (flat_map (optional extent).text es) ≤ 13 * length es
optionals_long [] = omega arith
optionals_long (e ∷ es) =
    let both : length ((optional extent).text e ++ flat_map (optional extent).text es)
    ≡ length ((optional extent).text e) + length (flat_map (optional extent).text es) =
    length-append ((optional extent).text e) (flat_map (optional extent).text es) in
    omega (arith, both, optional_long e, optionals_long es)

abbrev name_text : List ℕ → List ℕ
name_text name = (counted 1 (number 1)).text name

records_long : (name : List ℕ) (r : Records) → length name < 256 → HasColumns r
    → length (name_text name ++ (spelled_records column_count).text (records_of r)) ≤ 698
records_long name (Base e) short has =
    omega (arith, short, name_long name, extent_long e, length-append (name_text name) (0 ∷ extent.text e))
records_long name (Derived e entries) short has =
    let back = flat_map (optional extent).text entries.items in
    omega (
      arith,
      short,
      has,
      name_long name,
      extent_long e,
      optionals_long entries.items,
      length-append
          (extent.text e) back,
      length-append (name_text name) (1 ∷ (extent.text e ++ back)),
    )

entry_long : (l : code.Listed) → IsListable l → length ((listed column_count).text (entry_of l)) ≤ 698
entry_long l is = records_long l.name.items l.records is.short is.columns

entries_long : (ls : List code.Listed) → All IsListable ls
    → length (flat_map (listed column_count).text (entries_of ls)) ≤ 698 * length ls
entries_long [] all = omega arith
entries_long (l ∷ ls) all =
    let first = (listed column_count).text (entry_of l) in
    let rest = flat_map (listed column_count).text (entries_of ls) in
    let both : length (first ++ rest) ≡ length first + length rest = length-append first rest in
    omega (arith, both, entry_long l (All-head IsListable l ls all), entries_long ls (All-tail IsListable l ls all))

pub catalog_short : (ls : List code.Listed) → All IsListable ls → length ls < 2 ^ 16
    → length ((catalog column_count).text (entries_of ls)) < 2 ^ 32
catalog_short ls all few =
    let front = big_bytes 2 (length (entries_of ls)) in
    let both : length ((catalog column_count).text (entries_of ls))
    ≡ length front + length (flat_map (listed column_count).text (entries_of ls)) =
    length-append front (flat_map (listed column_count).text (entries_of ls)) in
    omega (arith, both, length-bytes_high_first 2 (length (entries_of ls)), entries_long ls all, few)

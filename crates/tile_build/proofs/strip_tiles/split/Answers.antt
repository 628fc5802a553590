use Rattle.std.proofs.Common.{◌≡◌, ℕ, ◌+◌, ◌-◌, ◌<◌, ◌≤◌, ◌<ℤ◌, ◌≤ℤ◌, ◌*ℤ◌, pos, List, map, length, get_or, take, drop, ap, sym, subst, ◌∙◌, rules, arith}
use Rattle.std.proofs.lemmas.List.{length-map}
use Rattle.std.proofs.lemmas.List.Elements.{All-take, All-drop}
use Rattle.overlay_terms.specs.Plane.{Point}
use Rattle.overlay_terms.specs.Column.{border}
use Rattle.overlay_terms.specs.Histories.{pieces, pieces_max, IsTileAt}
use Rattle.overlay_terms.specs.Tiles.{Input}
use Rattle.exact_point.specs.NamedPiece.{ends_of}
use Rattle.crossing_sweep.specs.Crossed.{IsRowSpan}
use Rattle.crossing_sweep.specs.NodeNames.{named_ends}
use Rattle.crossing_sweep.specs.StripInput.{part, Span, StripInput}
use Rattle.crossing_sweep.specs.declared.node_name.NodeName.{NodeName}
use Rattle.crossing_sweep.specs.declared.row.Row.{Row}
use Rattle.tile_build.specs.StripTiles.{AreUpTo}
use Rattle.tile_build.specs.Tile.{tile_of}
use Rattle.tile_build.proofs.StripSplit.{IsSplitAt, IsPartOf, first_split, next_split, column_part}
use Rattle.tile_build.proofs.StripLemmas.{all_within, own_tile, none_up_to, more_up_to}
use Rattle.tile_build.proofs.strip_tiles.split.Goals as goal

pub loop-number-init : goal.loop-number-init
loop-number-init c =
    let first : c.number-first.result ≡ c.args.input.now.strip.first = c.number-first.ensures.value ∙ c.first.ensures.value ∙ ap (λ (s : Span). s.first) c.strip-strip.ensures.value in
    let last : c.number-end.result ≡ c.args.input.now.strip.last = c.number-end.ensures.value ∙ c.last.ensures.value ∙ ap (λ (s : Span). s.last) c.strip-strip.ensures.value in
    let order : c.args.input.now.strip.first ≤ c.args.input.now.strip.last = c.strip-strip.ensures.valid.in_order in
    record {
      from = omega (arith, first);
      to = omega (arith, first, order);
      built = none_up_to c.args.input.now c.number-first.result c.in_ok-list.list.items first c.in_ok-list.ensures.items;
      split = subst (λ (k : ℕ). IsSplitAt (named_ends c.args.names.now) c.args.rows.now k 0) (sym first)
          (first_split (named_ends c.args.names.now) c.args.rows.now c.args.input.now.strip (all_within c.args.input.now (map (named_ends c.args.names.now) c.args.rows.now) c.requires.tile));
    }

pub loop-number-preserved : goal.loop-number-preserved
loop-number-preserved c =
    let last : c.number-end.result ≡ c.args.input.now.strip.last = c.number-end.ensures.value ∙ c.last.ensures.value ∙ ap (λ (s : Span). s.last) c.strip-strip.ensures.value in
    let same : c.in-Some.column ≡ c.loop-number.number = search rules in
    let own : c.in_ok-built.built.0 ≡ part c.args.input.now c.loop-number.number = c.in_ok-built.ensures.input ∙ ap (part c.args.input.now) same in
    let positive : (i : ℕ) (d : Row) → i < length c.args.rows.now → pos 0 <ℤ (named_ends c.args.names.now (get_or c.args.rows.now i d)).0.w = λ i d l. (c.requires.spans i d l).from_positive in
    let Part : ℕ → Type 0 = λ k. IsPartOf (named_ends c.args.names.now) c.args.rows.now k c.loop-number.start c.part_end-next.result in
    let these : Part c.loop-number.number = subst Part same (record { from = c.part_end-next.ensures.from; to = c.part_end-next.ensures.to; within = c.part_end-next.ensures.within; next = c.part_end-next.ensures.next }) in
    record {
      from = omega (arith, c.loop-number.invariant.from);
      to = omega (arith, last);
      built = more_up_to c.args.input.now c.loop-number.number c.loop-number.list.items _ c.in_ok-built.built c.loop-number.invariant.built own c.in_ok-push.ensures.items;
      split = next_split (named_ends c.args.names.now) c.args.rows.now c.requires.tile.are_some.ordered positive c.loop-number.number c.loop-number.start c.part_end-next.result c.loop-number.invariant.split these;
    }

pub of-requires-clause-column : goal.of-requires-clause-column
of-requires-clause-column c =
    let last : c.number-end.result ≡ c.args.input.now.strip.last = c.number-end.ensures.value ∙ c.last.ensures.value ∙ ap (λ (s : Span). s.last) c.strip-strip.ensures.value in
    let same : c.in-Some.column ≡ c.loop-number.number = search rules in
    (omega (arith, same, c.loop-number.invariant.from), omega (arith, same, last))

pub of-requires-clause-right : goal.of-requires-clause-right
of-requires-clause-right c =
    let names : List NodeName = c.args.names.now in
    let rows : List Row = c.args.rows.now in
    let input : StripInput = c.args.input.now in
    let ends : List (Point × Point) = map (named_ends names) rows in
    let number : ℕ = c.loop-number.number in
    let last : c.number-end.result ≡ c.args.input.now.strip.last = c.number-end.ensures.value ∙ c.last.ensures.value ∙ ap (λ (s : Span). s.last) c.strip-strip.ensures.value in
    let same : c.in-Some.column ≡ c.loop-number.number = search rules in
    let own : part c.args.input.now c.in-Some.column ≡ part c.args.input.now c.loop-number.number = ap (part c.args.input.now) same in
    let positive : (i : ℕ) (d : Row) → i < length c.args.rows.now → pos 0 <ℤ (named_ends c.args.names.now (get_or c.args.rows.now i d)).0.w = λ i d l. (c.requires.spans i d l).from_positive in
    let Part : ℕ → Type 0 = λ k. IsPartOf (named_ends c.args.names.now) c.args.rows.now k c.loop-number.start c.part_end-next.result in
    let these : Part c.loop-number.number = subst Part same (record { from = c.part_end-next.ensures.from; to = c.part_end-next.ensures.to; within = c.part_end-next.ensures.within; next = c.part_end-next.ensures.next }) in
    let few : length (map (named_ends c.args.names.now) c.args.rows.now) ≤ 65536 = omega (arith, c.requires.few, length-map c.args.rows.now (named_ends c.args.names.now)) in
    let to : c.loop-number.number ≤ c.args.input.now.strip.last = omega (arith, last) in
    let these_ends : List (Point × Point) = map (named_ends names) (take (c.part_end-next.result - c.loop-number.start) (drop c.loop-number.start rows)) in
    subst (λ t. IsTileAt pieces_max (part input c.in-Some.column) t) (sym c.in_ok-tile.ensures)
    (subst (λ (i : Input). IsTileAt pieces_max i (pieces these_ends)) (sym own)
    (own_tile pieces_max input ends these_ends number c.strip-strip.ensures.valid c.requires.tile few c.loop-number.invariant.from to
    (sym (column_part (named_ends names) rows c.requires.tile.are_some.ordered positive number c.loop-number.start c.part_end-next.result c.loop-number.invariant.split these))))

-- the tile that is handed in has no pieces
pub shared_tile-requires-clause-empty : goal.shared_tile-requires-clause-empty
shared_tile-requires-clause-empty c = ap tile_of c.in_ok-empty.ensures.ok ∙ ap (λ xs. pieces (map ends_of xs)) c.new.ensures.items

pub shared_tile-requires-clause-spans : goal.shared_tile-requires-clause-spans
shared_tile-requires-clause-spans c =
    All-take (IsRowSpan c.args.names.now) (c.part_end-next.result - c.loop-number.start) (drop c.loop-number.start c.args.rows.now) (All-drop (IsRowSpan c.args.names.now) c.loop-number.start c.args.rows.now c.requires.spans)

pub part_end-next-requires-clause-known : goal.part_end-next-requires-clause-known
part_end-next-requires-clause-known c = c.loop-number.invariant.split.fits

pub part_end-next-requires-clause-after : goal.part_end-next-requires-clause-after
part_end-next-requires-clause-after c =
    let same : c.in-Some.column ≡ c.loop-number.number = search rules in
    λ i d h l. subst (λ (k : ℕ). (border k *ℤ (named_ends c.args.names.now (get_or c.args.rows.now i d)).0.w) ≤ℤ (named_ends c.args.names.now (get_or c.args.rows.now i d)).0.x) (sym same)
    (c.loop-number.invariant.split.after i d h l)

pub part_end-next-requires-clause-ordered : goal.part_end-next-requires-clause-ordered
part_end-next-requires-clause-ordered c = c.requires.tile.are_some.ordered

pub returns : goal.returns
returns c =
    let first : c.number-first.result ≡ c.args.input.now.strip.first = c.number-first.ensures.value ∙ c.first.ensures.value ∙ ap (λ (s : Span). s.first) c.strip-strip.ensures.value in
    let last : c.number-end.result ≡ c.args.input.now.strip.last = c.number-end.ensures.value ∙ c.last.ensures.value ∙ ap (λ (s : Span). s.last) c.strip-strip.ensures.value in
    let order : c.args.input.now.strip.first ≤ c.args.input.now.strip.last = c.strip-strip.ensures.valid.in_order in
    let end : c.loop-number.number ≡ c.args.input.now.strip.last + 1 = omega (arith, first, last, order, c.loop-number.invariant.to) in
    subst (λ (j : ℕ). AreUpTo c.args.input.now j c.loop-number.list.items) end c.loop-number.invariant.built

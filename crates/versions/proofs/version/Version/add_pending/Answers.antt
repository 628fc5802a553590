use Rattle.std.proofs.Common.{rules, ◌≡◌, ◌++◌, ◌∷◌, [], Option, None, cond, get_or, not, ap, sym, ◌∙◌, append-nil, arith}
use Rattle.std.specs.Option.{option_map}
use Rattle.overlay_terms.specs.Histories.{tile_at}
use Rattle.layer_tiles.specs.TileCode.{by_places, Named}
use Rattle.layer_tiles.proofs.Placed.{placed_once, places_at}
use Rattle.versions.proofs.PendingLemmas.{tile_in, columns_more, missing_in, twice}
use Rattle.layer_tiles.proofs.Tables.{slot_by}
use Rattle.versions.proofs.version.Version.add_pending.Goals as goal
use Rattle.versions.proofs.version.Version.add_pending.Goals.{then-is_none+in_ok-clone+in_ok-push, else-is_none}

pub loop-column-preserved : goal.loop-column-preserved
loop-column-preserved c =
    let version = c.args.self.now in
    let name = c.args.name.now in
    let k = c.loop-column.column in
    let list = c.loop-column.list.items in
    let row = c.args.row.now in
    let found = placed_once (λ b. b.now.value) c.tile_at.result ∙ ap (λ (o : Option Named). option_map by_places o) (c.tile_at.ensures ∙ ap (λ j. get_or row j None) c.from.ensures) ∙ sym (places_at row k)
    ∙ ap (λ r. get_or r k None) c.requires ∙ slot_by (tile_at version.tiles name) k (omega (arith, c.loop-column-test.true)) in
    let missing = missing_in c.tile_at.result (tile_at version.tiles name k) found ∙ ap not c.is_none.ensures ∙ twice c.is_none.result in
    columns_more version name c.args.list.now.items list k c.if-is_none.list.items c.loop-column.invariant
    (elim c.if-is_none.branch [
      | then-is_none+in_ok-clone+in_ok-push w ↦
          let same : w.in_ok-clone.field-0 ≡ name = search (rules, w.in_ok-clone.ensures.cases) in
          ap (λ v. v.items) w.list-is ∙ w.in_ok-push.ensures.items ∙ ap (λ n. list ++ tile_in n k ∷ []) same
          ∙ ap (λ b. list ++ cond b (tile_in name k ∷ []) []) (sym (missing ∙ w.if-is_none.true))
      | else-is_none w ↦
          ap (λ v. v.items) w.list-is ∙ sym (append-nil list) ∙ ap (λ b. list ++ cond b (tile_in name k ∷ []) []) (sym (missing ∙ w.if-is_none.false))
    ])
